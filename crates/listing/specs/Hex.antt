-- What a text of hex digits says. Assumes nothing.
use Rattle.std.specs.Prelude.{◌≡◌, ℕ, ◌+◌, ◌-◌, ◌*◌, Bool, true, false, cond, ◌||◌, List, [], ◌∷◌, ◌++◌, Some, None, Ok, Err, vec_items, Option, Result, Vec, ◌==◌}
use Rattle.std.specs.declared.alloc.Global.{Global}
use Rattle.listing.specs.declared.hex.Digit.{Digit}
use Rattle.listing.specs.declared.hex.Fault.{Fault}
use Rattle.listing.specs.declared.hex.Fault.TheVariants.{NoDigit, OddDigits, TooLong, NoMemory}
use Rattle.listing.specs.Digits.{digit_of}

-- a blank, a tab or a carriage return
abbrev pub is_blank : ℕ → Bool
is_blank c = c == 32 || (c == 9 || c == 13)

-- the characters that count, each with its offset: a comment goes from # (35) to the end of its line (10)
abbrev pub counted : Bool → ℕ → List ℕ → List (ℕ × ℕ)
counted in_comment at [] = []
counted in_comment at (c ∷ cs) =
    cond (c == 10) (counted false (at + 1) cs)
    (cond (in_comment || is_blank c) (counted in_comment (at + 1) cs)
    (cond (c == 35) (counted true (at + 1) cs)
    ((at, c) ∷ counted false (at + 1) cs)))

abbrev pub before : List ℕ → Result (List ℕ) Fault → Result (List ℕ) Fault
before bs (Ok more) = Ok (bs ++ more)
before bs (Err e) = Err e

-- two digits make a byte, while there is room; first is a digit that waits for its second
abbrev pub paired : ℕ → Option Digit → List (ℕ × ℕ) → Result (List ℕ) Fault
paired room None [] = Ok []
paired room (Some first) [] = Err (OddDigits first.at)
paired room None (c ∷ cs) =
    elim (digit_of c.1) [
      | None ↦ Err (NoDigit c.0 c.1)
      | Some v ↦ cond (room == 0) (Err (TooLong c.0)) (paired room (Some (record { at = c.0; value = v })) cs)
    ]
paired room (Some first) (c ∷ cs) =
    elim (digit_of c.1) [
      | None ↦ Err (NoDigit c.0 c.1)
      | Some v ↦ before ((first.value * 16 + v) ∷ []) (paired (room - 1) None cs)
    ]

-- the bytes whose digits stand in a text, or its first fault
abbrev pub read_hex : List ℕ → Result (List ℕ) Fault
read_hex text = paired 4096 None (counted false 0 text)

-- what reading answered is what the text says, where memory sufficed
abbrev pub ReadAs : Result (Vec ℕ Global) Fault → Result (List ℕ) Fault → Type 0
ReadAs (Ok v) said = said ≡ Ok (vec_items v)
ReadAs (Err NoMemory) said = Unit {0}
ReadAs (Err (NoDigit at c)) said = said ≡ Err (NoDigit at c)
ReadAs (Err (OddDigits at)) said = said ≡ Err (OddDigits at)
ReadAs (Err (TooLong at)) said = said ≡ Err (TooLong at)
