-- What one character more does to what is read. Assumes nothing.
use Rattle.std.proofs.Common.{◌≡◌, ℕ, ◌+◌, ◌-◌, ◌*◌, Bool, false, List, [], ◌∷◌, ◌++◌, length, Some, None, Ok, Err, Result, sym, refl, ap, ◌∙◌, append_assoc, arith, length-append, rules}
use Rattle.listing.specs.declared.hex.Digit.{Digit}
use Rattle.listing.specs.declared.hex.Fault.{Fault}
use Rattle.listing.specs.Digits.{digit_of}
use Rattle.listing.specs.declared.hex.Fault.TheVariants.{NoDigit, OddDigits, TooLong, NoMemory}
use Rattle.listing.specs.Hex.{counted, paired, before, is_blank, ReadAs}
use Rattle.listing.specs.Reader.{Settles}

before_more : (xs ys : List ℕ) (r : Result (List ℕ) Fault) → before xs (before ys r) ≡ before (xs ++ ys) r
before_more xs ys (Ok zs) = ap (λ l. Ok l) (sym (append_assoc xs ys zs))
before_more xs ys (Err e) = refl

-- a second digit makes a byte
pub second_digit : (room : ℕ) (first : Digit) (at c v : ℕ) (cs : List (ℕ × ℕ)) → digit_of c ≡ Some v → paired room (Some first) ((at, c) ∷ cs) ≡ before ((first.value * 16 + v) ∷ []) (paired (room - 1) None cs)
second_digit room first at c v cs e = rw (e, paired)

-- the same after the bytes that were read before
pub second : (bs : List ℕ) (first : Digit) (at c v : ℕ) (cs : List (ℕ × ℕ)) → digit_of c ≡ Some v →
    before bs (paired (4096 - length bs) (Some first) ((at, c) ∷ cs)) ≡ before (bs ++ ((first.value * 16 + v) ∷ [])) (paired (4096 - length (bs ++ ((first.value * 16 + v) ∷ []))) None cs)
second bs first at c v cs e =
    let more = (first.value * 16 + v) ∷ [] in
    let room : 4096 - length bs - 1 ≡ 4096 - length (bs ++ more) = omega (arith, length-append bs more) in
    ap (before bs) (second_digit (4096 - length bs) first at c v cs e)
    ∙ before_more bs more (paired (4096 - length bs - 1) None cs)
    ∙ ap (λ n. before (bs ++ more) (paired n None cs)) room

-- a character outside comments that is no blank, no line end and no # counts
pub counts : (in_comment : Bool) (at c : ℕ) (cs : List ℕ) → in_comment ≡ false → (c ≡ 10 → ⊥) → is_blank c ≡ false → (c ≡ 35 → ⊥) → counted in_comment at (c ∷ cs) ≡ (at, c) ∷ counted false (at + 1) cs
counts in_comment at c cs out line blank hash = search rules

-- a fault at one character is the text's
pub fault_settles : (e : Fault) (said later : Result (List ℕ) Fault) → Settles (Err e) said later → ReadAs (Err e) said
fault_settles (NoDigit at c) said later h = h
fault_settles (OddDigits at) said later h = h
fault_settles (TooLong at) said later h = h
fault_settles NoMemory said later h = tt
