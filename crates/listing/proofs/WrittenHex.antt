-- The digits of bytes are read as those bytes. Assumes nothing.
use Rattle.std.proofs.Common.{◌≡◌, ℕ, suc, ◌+◌, ◌-◌, ◌*◌, ◌/◌, ◌%◌, ◌<◌, ◌≤◌, false, eqb, List, [], ◌∷◌, ◌++◌, length, get_or, take, Some, None, Ok, sym, refl, ap, ◌∙◌, append_assoc, subst, arith, rules}
use lib.Utf8.{encode}
use Rattle.std.proofs.lemmas.Str.Ascii.{encode_ascii}
use Rattle.std.proofs.lemmas.List.{take_more}
use Rattle.isa.specs.declared.Word.{Word}
use Rattle.isa.specs.declared.Word.TheVariants.{One, Two}
use Rattle.isa.specs.Text.{hex_digit}
use Rattle.listing.specs.Digits.{digit_of, hex_of}
use Rattle.listing.specs.declared.lines.Line.{Line}
use Rattle.listing.specs.Lines.{bytes_of, word_bytes, word_text, words_text}
use Rattle.listing.specs.Hex.{counted, paired, before, read_hex}
use Rattle.listing.proofs.Reading.{counts, second_digit}

digit_value : (n : ℕ) → n < 16 → digit_of (hex_digit n) ≡ Some n
digit_value n h = search rules

digit_counts : (n at : ℕ) (cs : List ℕ) → n < 16 → counted false at (hex_digit n ∷ cs) ≡ (at, hex_digit n) ∷ counted false (at + 1) cs
digit_counts n at cs h = counts false at (hex_digit n) cs refl (search rules) (search rules) (search rules)

pub hex_of_append : (xs ys : List ℕ) → hex_of (xs ++ ys) ≡ hex_of xs ++ hex_of ys
hex_of_append [] ys = refl
hex_of_append (x ∷ xs) ys = ap (λ l. hex_digit (x / 16) ∷ (hex_digit (x % 16) ∷ l)) (hex_of_append xs ys)

first_digit : (room at c v : ℕ) (cs : List (ℕ × ℕ)) → digit_of c ≡ Some v → 0 < room → paired room None ((at, c) ∷ cs) ≡ paired room (Some (record { at = at; value = v })) cs
first_digit room at c v cs e some = let z : eqb room 0 ≡ false = search rules in rw (e, paired) (rw z)

-- two digits at the front are one byte
one_byte : (room at b : ℕ) (cs : List ℕ) → b < 256 → 0 < room →
    paired room None (counted false at (hex_digit (b / 16) ∷ (hex_digit (b % 16) ∷ cs))) ≡ before (b ∷ []) (paired (room - 1) None (counted false (at + 1 + 1) cs))
one_byte room at b cs h some =
    let high : b / 16 < 16 = omega arith in
    let low : b % 16 < 16 = omega arith in
    let whole : b / 16 * 16 + b % 16 ≡ b = omega arith in
    let rest = counted false (at + 1 + 1) cs in
    ap (paired room None) (digit_counts (b / 16) at (hex_digit (b % 16) ∷ cs) high ∙ ap (λ l. (at, hex_digit (b / 16)) ∷ l) (digit_counts (b % 16) (at + 1) cs low))
    ∙ first_digit room at (hex_digit (b / 16)) (b / 16) ((at + 1, hex_digit (b % 16)) ∷ rest) (digit_value (b / 16) high) some
    ∙ second_digit room (record { at = at; value = b / 16 }) (at + 1) (hex_digit (b % 16)) (b % 16) rest (digit_value (b % 16) low)
    ∙ ap (λ n. before (n ∷ []) (paired (room - 1) None rest)) whole

read_from_lem : (room at : ℕ) (bs : List ℕ) → ((i : ℕ) → get_or bs i 0 < 256) → length bs ≤ room → paired room None (counted false at (hex_of bs)) ≡ Ok bs
read_from_lem room at [] small fits = refl
read_from_lem room at (b ∷ bs) small fits =
    one_byte room at b (hex_of bs) (small 0) (omega arith)
    ∙ ap (before (b ∷ [])) (read_from_lem (room - 1) (at + 1 + 1) bs (λ i. small (suc i)) (omega arith))

pub read_back : (bs : List ℕ) → ((i : ℕ) → get_or bs i 0 < 256) → length bs ≤ 4096 → read_hex (hex_of bs) ≡ Ok bs
read_back bs small fits = read_from_lem 4096 0 bs small fits

-- a word as it is written is read as its bytes, whatever follows
word_read : (room at : ℕ) (w : Word) (cs bs : List ℕ) → ((i : ℕ) → get_or (word_bytes w ++ bs) i 0 < 256) → length (word_bytes w ++ bs) ≤ room →
    ((room at : ℕ) → length bs ≤ room → paired room None (counted false at cs) ≡ Ok bs) → paired room None (counted false at (word_text w ++ cs)) ≡ Ok (word_bytes w ++ bs)
word_read room at (One a) cs bs small fits more =
    one_byte room at a (32 ∷ (32 ∷ cs)) (small 0) (omega arith)
    ∙ ap (before (a ∷ [])) (more (room - 1) (at + 1 + 1 + 1 + 1) (omega arith))
word_read room at (Two a b) cs bs small fits more =
    one_byte room at a (hex_of (b ∷ []) ++ cs) (small 0) (omega arith)
    ∙ ap (before (a ∷ [])) (one_byte (room - 1) (at + 1 + 1) b cs (small 1) (omega arith) ∙ ap (before (b ∷ [])) (more (room - 1 - 1) (at + 1 + 1 + 1 + 1) (omega arith)))

later_small : (w : Word) (bs : List ℕ) → ((i : ℕ) → get_or (word_bytes w ++ bs) i 0 < 256) → (i : ℕ) → get_or bs i 0 < 256
later_small (One a) bs small i = small (suc i)
later_small (Two a b) bs small i = small (suc (suc i))

words_read : (room at : ℕ) (ls : List Line) → ((i : ℕ) → get_or (bytes_of ls) i 0 < 256) → length (bytes_of ls) ≤ room → paired room None (counted false at (words_text ls)) ≡ Ok (bytes_of ls)
words_read room at [] small fits = refl
words_read room at (l ∷ ls) small fits =
    word_read room at l.word (words_text ls) (bytes_of ls) small fits (λ r n h. words_read r n ls (later_small l.word (bytes_of ls) small) h)

pub words_read_back : (ls : List Line) (bs : List ℕ) → bytes_of ls ≡ bs → ((i : ℕ) → get_or bs i 0 < 256) → length bs ≤ 4096 → read_hex (words_text ls) ≡ Ok bs
words_read_back ls bs whole small fits =
    words_read 4096 0 ls (subst (λ l. (i : ℕ) → get_or l i 0 < 256) (sym whole) small) (subst (λ l. length l ≤ 4096) (sym whole) fits) ∙ ap (λ l. Ok l) whole

-- a digit as a character is its one byte
digit_bytes : {c n : ℕ} → c ≡ hex_digit n → n < 16 → encode c ≡ hex_digit n ∷ []
digit_bytes {c} {n} e h = ap encode e ∙ encode_ascii (hex_digit n) (search rules)

-- two digits more are one byte more
pub byte_more : (bs : List ℕ) (i : ℕ) (text text₁ text₂ : List ℕ) (high low : ℕ) → i < length bs → get_or bs i 0 < 256 → text ≡ hex_of (take i bs) →
    high ≡ hex_digit (get_or bs i 0 / 16) → low ≡ hex_digit (get_or bs i 0 % 16) → text₁ ≡ text ++ encode high → text₂ ≡ text₁ ++ encode low → text₂ ≡ hex_of (take (i + 1) bs)
byte_more bs i text text₁ text₂ high low h small so hi lo one two =
    let x = digit_bytes hi (omega arith) in
    let y = digit_bytes lo (omega arith) in
    two ∙ (λ j. (one ∙ (λ k. so k ++ x k)) j ++ y j) ∙ append_assoc (hex_of (take i bs)) _ _ ∙ sym (hex_of_append (take i bs) (get_or bs i 0 ∷ [])) ∙ ap hex_of (sym (take_more bs i 0 h))
