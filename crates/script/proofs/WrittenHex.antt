-- Hex digits as they are written. Assumes nothing.
use Rattle.std.proofs.Common.{◌≡◌, ℕ, ◌+◌, ◌/◌, ◌%◌, ◌<◌, ◌≤◌, Bool, true, false, nat_lt, List, [], ◌∷◌, ◌++◌, length, get_or, take, sym, refl, ap, ◌∙◌, append_assoc, w32, arith, rules}
use Rattle.std.proofs.lemmas.List.{take_more}
use Rattle.std.specs.Int.{to_be_bytes}
use Rattle.std.specs.Fmt.{digits, padded_integral, format_spec, char_count}
use Rattle.std.proofs.DigitsParse.{digits_onto-nil, digits_onto_last, digits_onto_step}
use Rattle.std.proofs.lemmas.Fmt.{hex_byte, hex_one_digit, hex_two_digits}
use Rattle.script.specs.Text.{hex_digit, hex_of, hex_digits}

hex_of_push : (bs : List ℕ) (b : ℕ) → hex_of (bs ++ (b ∷ [])) ≡ hex_of bs ++ (hex_digit (b / 16) ∷ (hex_digit (b % 16) ∷ []))
hex_of_push [] b = refl
hex_of_push (x ∷ bs) b = ap (λ l. hex_digit (x / 16) ∷ (hex_digit (x % 16) ∷ l)) (hex_of_push bs b)

-- two digits more are one byte more
pub hex_more : (bs : List ℕ) (i : ℕ) (start text text₁ text₂ : List ℕ) (high low : ℕ) → i < length bs → text ≡ start ++ hex_of (take i bs) →
    high ≡ hex_digit (get_or bs i 0 / 16) → low ≡ hex_digit (get_or bs i 0 % 16) → text₁ ≡ text ++ (high ∷ []) → text₂ ≡ text₁ ++ (low ∷ []) → text₂ ≡ start ++ hex_of (take (i + 1) bs)
hex_more bs i start text text₁ text₂ high low h so hi lo one two =
    two
    ∙ (λ j. (one ∙ (λ k. so k ++ (hi k ∷ []))) j ++ (lo j ∷ []))
    ∙ append_assoc (start ++ hex_of (take i bs)) _ _
    ∙ append_assoc start (hex_of (take i bs)) _
    ∙ ap (λ l. start ++ l) (sym (hex_of_push (take i bs) (get_or bs i 0)) ∙ ap hex_of (sym (take_more bs i 0 h)))

-- what `{:02x}` writes
abbrev two : ℕ → List ℕ
two b = padded_integral (format_spec 32 0 4 2 18446744073709551615) false [] (digits 16 false b)

pub byte_digits : (b : ℕ) → b < 256 → two b ≡ hex_digits 2 b
byte_digits b h = hex_byte false b h ∙ ap (λ n. hex_digit n ∷ hex_digit (b % 16) ∷ []) (let e : b / 16 ≡ b / 16 % 16 = omega arith in e)

three : (n : ℕ) → 256 ≤ n → n < 4096 → digits 16 false n ≡ hex_digit (n / 16 / 16) ∷ hex_digit (n / 16 % 16) ∷ hex_digit (n % 16) ∷ []
three n large small =
    let same : n / 16 / 16 % 16 ≡ n / 16 / 16 = omega arith in
    sym (digits_onto-nil 16 false n)
    ∙ digits_onto_step 16 false n [] 64 (omega arith) (omega arith)
    ∙ digits_onto_step 16 false (n / 16) (hex_digit (n % 16) ∷ []) 63 (omega arith) (omega arith)
    ∙ digits_onto_last 16 false (n / 16 / 16) (hex_digit (n / 16 % 16) ∷ hex_digit (n % 16) ∷ []) 62 (omega arith) (omega arith)
    ∙ ap (λ d. hex_digit d ∷ hex_digit (n / 16 % 16) ∷ hex_digit (n % 16) ∷ []) same

four : (n : ℕ) → 4096 ≤ n → n < 65536 → digits 16 false n ≡ hex_digit (n / 16 / 16 / 16) ∷ hex_digit (n / 16 / 16 % 16) ∷ hex_digit (n / 16 % 16) ∷ hex_digit (n % 16) ∷ []
four n large small =
    let same : n / 16 / 16 / 16 % 16 ≡ n / 16 / 16 / 16 = omega arith in
    sym (digits_onto-nil 16 false n)
    ∙ digits_onto_step 16 false n [] 64 (omega arith) (omega arith)
    ∙ digits_onto_step 16 false (n / 16) (hex_digit (n % 16) ∷ []) 63 (omega arith) (omega arith)
    ∙ digits_onto_step 16 false (n / 16 / 16) (hex_digit (n / 16 % 16) ∷ hex_digit (n % 16) ∷ []) 62 (omega arith) (omega arith)
    ∙ digits_onto_last 16 false (n / 16 / 16 / 16) (hex_digit (n / 16 / 16 % 16) ∷ hex_digit (n / 16 % 16) ∷ hex_digit (n % 16) ∷ []) 61 (omega arith) (omega arith)
    ∙ ap (λ d. hex_digit d ∷ hex_digit (n / 16 / 16 % 16) ∷ hex_digit (n / 16 % 16) ∷ hex_digit (n % 16) ∷ []) same

below_or_not : {P : Type 0} (m n : ℕ) → (m < n → P) → (n ≤ m → P) → P
below_or_not {P} m n below not_below = by (nat_lt m n) refl where
  by : (b : Bool) → nat_lt m n ≡ b → P
  by true e = below (search rules)
  by false e = not_below (search rules)

-- what `{:03x}` writes
pub three_digits : (n : ℕ) → n < 4096 → padded_integral (format_spec 32 0 4 3 18446744073709551615) false [] (digits 16 false n) ≡ hex_digits 3 n
unfolding padded_integral char_count
three_digits n small =
    below_or_not n 16
    (λ (one : n < 16). let a : n / 16 / 16 % 16 ≡ 0 = omega arith in let b : n / 16 % 16 ≡ 0 = omega arith in let c : n % 16 ≡ n = omega arith in rw (hex_one_digit false n one, a, b, c))
    (λ (more : 16 ≤ n). below_or_not n 256
    (λ (two : n < 256). let a : n / 16 / 16 % 16 ≡ 0 = omega arith in let b : n / 16 % 16 ≡ n / 16 = omega arith in rw (hex_two_digits false n more two, a, b))
    (λ (large : 256 ≤ n). let a : n / 16 / 16 % 16 ≡ n / 16 / 16 = omega arith in rw (three n large small, a)))

-- what `{:04x}` writes
pub four_digits : (n : ℕ) → n < 65536 → padded_integral (format_spec 32 0 4 4 18446744073709551615) false [] (digits 16 false n) ≡ hex_digits 4 n
unfolding padded_integral char_count
four_digits n small =
    below_or_not n 16
    (λ (one : n < 16). let z : n / 16 / 16 / 16 % 16 ≡ 0 = omega arith in let a : n / 16 / 16 % 16 ≡ 0 = omega arith in let b : n / 16 % 16 ≡ 0 = omega arith in let c : n % 16 ≡ n = omega arith in rw (hex_one_digit false n one, z, a, b, c))
    (λ (more : 16 ≤ n). below_or_not n 256
    (λ (two : n < 256). let z : n / 16 / 16 / 16 % 16 ≡ 0 = omega arith in let a : n / 16 / 16 % 16 ≡ 0 = omega arith in let b : n / 16 % 16 ≡ n / 16 = omega arith in rw (hex_two_digits false n more two, z, a, b))
    (λ (much : 256 ≤ n). below_or_not n 4096
    (λ (less : n < 4096). let z : n / 16 / 16 / 16 % 16 ≡ 0 = omega arith in let a : n / 16 / 16 % 16 ≡ n / 16 / 16 = omega arith in rw (three n much less, z, a))
    (λ (large : 4096 ≤ n). let z : n / 16 / 16 / 16 % 16 ≡ n / 16 / 16 / 16 = omega arith in rw (four n large small, z))))

-- the last three digits of any number
pub last_three : (n : ℕ) → padded_integral (format_spec 32 0 4 3 18446744073709551615) false [] (digits 16 false (n % 4096)) ≡ hex_digits 3 n
last_three n =
    let a : n % 4096 / 16 / 16 % 16 ≡ n / 16 / 16 % 16 = omega arith in
    let b : n % 4096 / 16 % 16 ≡ n / 16 % 16 = omega arith in
    let c : n % 4096 % 16 ≡ n % 16 = omega arith in
    three_digits (n % 4096) (omega arith) ∙ (λ i. hex_digit (a i) ∷ hex_digit (b i) ∷ hex_digit (c i) ∷ [])

pub four_bytes : (n : ℕ) → n < 4294967296 → to_be_bytes w32 n ≡ n / 16777216 ∷ n / 65536 % 256 ∷ n / 256 % 256 ∷ n % 256 ∷ []
four_bytes n small = ap (λ k. k ∷ n / 65536 % 256 ∷ n / 256 % 256 ∷ n % 256 ∷ []) (let e : n / 16777216 % 256 ≡ n / 16777216 = omega arith in e)
