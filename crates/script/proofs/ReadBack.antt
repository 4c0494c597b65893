-- A line that is written is read as that line. Assumes nothing.
use Rattle.std.proofs.Common.{◌≡◌, ℕ, suc, ◌+◌, ◌*◌, ◌/◌, ◌%◌, ◌<◌, ◌≤◌, true, false, cond, List, [], ◌∷◌, Some, None, Ok, Err, Option, refl, ap, ◌∙◌, arith, rules}
use Rattle.script.specs.declared.faults.Fault.TheVariants.{NoBytes}
use Rattle.script.specs.declared.numbers.Base.TheVariants.{Sixteen}
use Rattle.script.specs.Bytes.{pair_of, before, bytes_of}
use Rattle.script.specs.Numbers.{digit_of, value_from, up_to, number_up_to}
use Rattle.script.specs.Text.{hex_digit, hex_of}
use Rattle.script.specs.Words.{ends_word}
use Rattle.script.specs.Writes.{u8_text, u16_text, u32_text, is_plain, is_word, is_filled, Small}

digit_value : (n : ℕ) → n < 16 → digit_of (hex_digit n) ≡ Some n
digit_value n h = search rules

digit_plain : (n : ℕ) → n < 16 → ends_word (hex_digit n) ≡ false
digit_plain n h = search rules

abbrev next : ℕ → List ℕ → Option ℕ → Option ℕ
next a cs o = elim o [ None ↦ None | Some d ↦ value_from Sixteen (a * 16 + d) cs ]

value_byte : (a b : ℕ) (bs : List ℕ) → b < 256 → value_from Sixteen a (hex_of (b ∷ bs)) ≡ value_from Sixteen (a * 256 + b) (hex_of bs)
value_byte a b bs h =
    ap (next a (hex_digit (b % 16) ∷ hex_of bs)) (digit_value (b / 16) (omega arith))
    ∙ ap (next (a * 16 + b / 16) (hex_of bs)) (digit_value (b % 16) (omega arith))
    ∙ ap (λ n. value_from Sixteen n (hex_of bs)) (let e : (a * 16 + b / 16) * 16 + b % 16 ≡ a * 256 + b = omega arith in e)

up_to_lem : (most n : ℕ) → n ≤ most → up_to most (Some n) ≡ Ok n
up_to_lem most n h = search rules

pub u8_reads : (n : ℕ) → n < 256 → number_up_to 255 (u8_text n) ≡ Ok n
u8_reads n h =
    ap (up_to 255) (value_byte 0 n [] h ∙ ap (λ k. Some k) (let e : 0 * 256 + n ≡ n = omega arith in e))
    ∙ up_to_lem 255 n (omega arith)

pub u16_reads : (n : ℕ) → n < 65536 → number_up_to 65535 (u16_text n) ≡ Ok n
u16_reads n h =
    ap (up_to 65535)
    (value_byte 0 (n / 256) (n % 256 ∷ []) (omega arith)
    ∙ value_byte (0 * 256 + n / 256) (n % 256) [] (omega arith)
    ∙ ap (λ k. Some k) (let e : (0 * 256 + n / 256) * 256 + n % 256 ≡ n = omega arith in e))
    ∙ up_to_lem 65535 n (omega arith)

pub u32_reads : (n : ℕ) → n < 4294967296 → number_up_to 4294967295 (u32_text n) ≡ Ok n
u32_reads n h =
    let a = n / 16777216 in
    let b = n / 65536 % 256 in
    let c = n / 256 % 256 in
    let d = n % 256 in
    ap (up_to 4294967295)
    (value_byte 0 a (b ∷ (c ∷ (d ∷ []))) (omega arith)
    ∙ value_byte (0 * 256 + a) b (c ∷ (d ∷ [])) (omega arith)
    ∙ value_byte ((0 * 256 + a) * 256 + b) c (d ∷ []) (omega arith)
    ∙ value_byte (((0 * 256 + a) * 256 + b) * 256 + c) d [] (omega arith)
    ∙ ap (λ k. Some k) (let e : (((0 * 256 + n / 16777216) * 256 + n / 65536 % 256) * 256 + n / 256 % 256) * 256 + n % 256 ≡ n = omega arith in e))
    ∙ up_to_lem 4294967295 n (omega arith)

pair_value : (b : ℕ) → b < 256 → pair_of (hex_digit (b / 16)) (hex_digit (b % 16)) ≡ Some b
pair_value b h =
    ap (λ o. elim o [ None ↦ None | Some high ↦ elim (digit_of (hex_digit (b % 16))) [ None ↦ None | Some low ↦ Some (high * 16 + low) ] ]) (digit_value (b / 16) (omega arith))
    ∙ ap (λ o. elim o [ None ↦ None | Some low ↦ Some (b / 16 * 16 + low) ]) (digit_value (b % 16) (omega arith))
    ∙ ap (λ k. Some k) (let e : b / 16 * 16 + b % 16 ≡ b = omega arith in e)

pub bytes_read : (bs : List ℕ) → Small bs → bytes_of (hex_of bs) ≡ Ok bs
bytes_read [] small = refl
bytes_read (b ∷ bs) small =
    ap (λ o. elim o [ None ↦ Err NoBytes | Some byte ↦ before (byte ∷ []) (bytes_of (hex_of bs)) ]) (pair_value b (small 0))
    ∙ ap (before (b ∷ [])) (bytes_read bs (λ i. small (suc i)))

plain_byte : (b : ℕ) (cs : List ℕ) → b < 256 → is_plain cs ≡ true → is_plain (hex_digit (b / 16) ∷ (hex_digit (b % 16) ∷ cs)) ≡ true
plain_byte b cs h p =
    ap (λ e. cond e false (is_plain (hex_digit (b % 16) ∷ cs))) (digit_plain (b / 16) (omega arith))
    ∙ ap (λ e. cond e false (is_plain cs)) (digit_plain (b % 16) (omega arith))
    ∙ p

hex_plain : (bs : List ℕ) → Small bs → is_plain (hex_of bs) ≡ true
hex_plain [] small = refl
hex_plain (b ∷ bs) small = plain_byte b (hex_of bs) (small 0) (hex_plain bs (λ i. small (suc i)))

pub hex_word : (bs : List ℕ) → Small bs → is_filled bs ≡ true → is_word (hex_of bs) ≡ true
hex_word [] small f = f
hex_word (b ∷ bs) small f = hex_plain (b ∷ bs) small

pub u8_word : (n : ℕ) → n < 256 → is_word (u8_text n) ≡ true
u8_word n h = plain_byte n [] h refl

pub u16_word : (n : ℕ) → n < 65536 → is_word (u16_text n) ≡ true
u16_word n h = plain_byte (n / 256) (hex_of (n % 256 ∷ [])) (omega arith) (plain_byte (n % 256) [] (omega arith) refl)

pub u32_word : (n : ℕ) → n < 4294967296 → is_word (u32_text n) ≡ true
u32_word n h =
    plain_byte (n / 16777216) (hex_of (n / 65536 % 256 ∷ (n / 256 % 256 ∷ (n % 256 ∷ [])))) (omega arith)
    (plain_byte (n / 65536 % 256) (hex_of (n / 256 % 256 ∷ (n % 256 ∷ []))) (omega arith)
    (plain_byte (n / 256 % 256) (hex_of (n % 256 ∷ [])) (omega arith)
    (plain_byte (n % 256) [] (omega arith) refl)))
