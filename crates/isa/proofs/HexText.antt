-- What padded hex digits write. Assumes nothing.
use Rattle.std.proofs.Common.{◌≡◌, ℕ, ◌-◌, ◌/◌, ◌%◌, ◌^◌, ◌<◌, ◌≤◌, Bool, true, false, nat_lt, [], ◌∷◌, sym, refl, ap, ◌∙◌, arith, rules}
use Rattle.std.specs.Fmt.{digits, padded_integral, format_spec, char_count}
use Rattle.std.proofs.DigitsParse.{digits_onto-nil, digits_onto_last, digits_onto_step}
use Rattle.std.proofs.lemmas.Fmt.{hex_byte, hex_one_digit, hex_two_digits}
use Rattle.isa.specs.Text.{hex_digit, hex_digits}

three : (n : ℕ) → 256 ≤ n → n < 4096 → digits 16 true n ≡ hex_digit (n / 16 / 16) ∷ hex_digit (n / 16 % 16) ∷ hex_digit (n % 16) ∷ []
three n large small =
    let same : n / 16 / 16 % 16 ≡ n / 16 / 16 = omega arith in
    sym (digits_onto-nil 16 true n)
    ∙ digits_onto_step 16 true n [] 64 (omega arith) (omega arith)
    ∙ digits_onto_step 16 true (n / 16) (hex_digit (n % 16) ∷ []) 63 (omega arith) (omega arith)
    ∙ digits_onto_last 16 true (n / 16 / 16) (hex_digit (n / 16 % 16) ∷ hex_digit (n % 16) ∷ []) 62 (omega arith) (omega arith)
    ∙ ap (λ d. hex_digit d ∷ hex_digit (n / 16 % 16) ∷ hex_digit (n % 16) ∷ []) same

four : (n : ℕ) → 4096 ≤ n → n < 65536 → digits 16 true n ≡ hex_digit (n / 16 / 16 / 16) ∷ hex_digit (n / 16 / 16 % 16) ∷ hex_digit (n / 16 % 16) ∷ hex_digit (n % 16) ∷ []
four n large small =
    let same : n / 16 / 16 / 16 % 16 ≡ n / 16 / 16 / 16 = omega arith in
    sym (digits_onto-nil 16 true n)
    ∙ digits_onto_step 16 true n [] 64 (omega arith) (omega arith)
    ∙ digits_onto_step 16 true (n / 16) (hex_digit (n % 16) ∷ []) 63 (omega arith) (omega arith)
    ∙ digits_onto_step 16 true (n / 16 / 16) (hex_digit (n / 16 % 16) ∷ hex_digit (n % 16) ∷ []) 62 (omega arith) (omega arith)
    ∙ digits_onto_last 16 true (n / 16 / 16 / 16) (hex_digit (n / 16 / 16 % 16) ∷ hex_digit (n / 16 % 16) ∷ hex_digit (n % 16) ∷ []) 61 (omega arith) (omega arith)
    ∙ ap (λ d. hex_digit d ∷ hex_digit (n / 16 / 16 % 16) ∷ hex_digit (n / 16 % 16) ∷ hex_digit (n % 16) ∷ []) same

below_or_not : {P : Type 0} (m n : ℕ) → (m < n → P) → (n ≤ m → P) → P
below_or_not {P} m n below not_below = by (nat_lt m n) refl where
  by : (b : Bool) → nat_lt m n ≡ b → P
  by true e = below (search rules)
  by false e = not_below (search rules)

-- what `{:02X}` writes
pub two_digits : (n : ℕ) → n < 256 → padded_integral (format_spec 32 0 4 2 (2 ^ 64 - 1)) false [] (digits 16 true n) ≡ hex_digits 2 n
two_digits n small = let same : n / 16 % 16 ≡ n / 16 = omega arith in hex_byte true n small ∙ ap (λ d. hex_digit d ∷ hex_digit (n % 16) ∷ []) (sym same)

-- what `{:03X}` writes
pub three_digits : (n : ℕ) → n < 4096 → padded_integral (format_spec 32 0 4 3 (2 ^ 64 - 1)) false [] (digits 16 true n) ≡ hex_digits 3 n
unfolding padded_integral char_count
three_digits n small =
    below_or_not n 16
    (λ (one : n < 16). let a : n / 16 / 16 % 16 ≡ 0 = omega arith in let b : n / 16 % 16 ≡ 0 = omega arith in let c : n % 16 ≡ n = omega arith in rw (hex_one_digit true n one, a, b, c))
    (λ (more : 16 ≤ n). below_or_not n 256
    (λ (two : n < 256). let a : n / 16 / 16 % 16 ≡ 0 = omega arith in let b : n / 16 % 16 ≡ n / 16 = omega arith in rw (hex_two_digits true n more two, a, b))
    (λ (large : 256 ≤ n). let a : n / 16 / 16 % 16 ≡ n / 16 / 16 = omega arith in rw (three n large small, a)))

-- what `{:04X}` writes
pub four_digits : (n : ℕ) → n < 65536 → padded_integral (format_spec 32 0 4 4 (2 ^ 64 - 1)) false [] (digits 16 true n) ≡ hex_digits 4 n
unfolding padded_integral char_count
four_digits n small =
    below_or_not n 16
    (λ (one : n < 16). let z : n / 16 / 16 / 16 % 16 ≡ 0 = omega arith in let a : n / 16 / 16 % 16 ≡ 0 = omega arith in let b : n / 16 % 16 ≡ 0 = omega arith in let c : n % 16 ≡ n = omega arith in rw (hex_one_digit true n one, z, a, b, c))
    (λ (more : 16 ≤ n). below_or_not n 256
    (λ (two : n < 256). let z : n / 16 / 16 / 16 % 16 ≡ 0 = omega arith in let a : n / 16 / 16 % 16 ≡ 0 = omega arith in let b : n / 16 % 16 ≡ n / 16 = omega arith in rw (hex_two_digits true n more two, z, a, b))
    (λ (much : 256 ≤ n). below_or_not n 4096
    (λ (less : n < 4096). let z : n / 16 / 16 / 16 % 16 ≡ 0 = omega arith in let a : n / 16 / 16 % 16 ≡ n / 16 / 16 = omega arith in rw (three n much less, z, a))
    (λ (large : 4096 ≤ n). let z : n / 16 / 16 / 16 % 16 ≡ n / 16 / 16 / 16 = omega arith in rw (four n large small, z))))

-- the last three digits of any number
pub last_three : (n : ℕ) → padded_integral (format_spec 32 0 4 3 (2 ^ 64 - 1)) false [] (digits 16 true (n % 4096)) ≡ hex_digits 3 n
last_three n =
    let a : n % 4096 / 16 / 16 % 16 ≡ n / 16 / 16 % 16 = omega arith in
    let b : n % 4096 / 16 % 16 ≡ n / 16 % 16 = omega arith in
    let c : n % 4096 % 16 ≡ n % 16 = omega arith in
    three_digits (n % 4096) (omega arith) ∙ (λ i. hex_digit (a i) ∷ hex_digit (b i) ∷ hex_digit (c i) ∷ [])
