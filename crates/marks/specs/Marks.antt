-- Marks and marked bytes. Assumes nothing.
use Rattle.std.specs.Prelude.{◌≡◌, Bool, true, false, cond, ◌||◌, ◌==◌, ℕ, Option, Some, None}
use Rattle.marks.specs.declared.Mark.{Mark}
use Rattle.marks.specs.declared.Mark.TheVariants.{Held, Unheld}
use Rattle.marks.specs.declared.Marked.{Marked}

abbrev pub held : Mark → Bool
held Held = true
held Unheld = false

-- held if one of the two is
abbrev pub join : Mark → Mark → Mark
join Held n = Held
join Unheld n = n

-- a mark as a byte: 0 is unheld, any other held
abbrev pub mark_of : ℕ → Mark
mark_of n = cond (n == 0) Unheld Held

-- and as it is written
abbrev pub mark_byte : Mark → ℕ
mark_byte Unheld = 0
mark_byte Held = 1

-- the byte, where it may be shown
abbrev pub shown : Marked → Option ℕ
shown m = cond (held m.mark) None (Some m.byte)

abbrev pub unheld : ℕ → Marked
unheld b = record { byte = b; mark = Unheld }

-- the byte, now unheld
abbrev pub lifted : Marked → Marked
lifted m = unheld m.byte

-- marks are joined in any order and as often as one likes, and unheld adds nothing
pub record JoinLaws : Type 0 where
  pub associative : (l m n : Mark) → join (join l m) n ≡ join l (join m n)
  pub commutative : (m n : Mark) → join m n ≡ join n m
  pub idempotent : (m : Mark) → join m m ≡ m
  pub neutral : (m : Mark) → join Unheld m ≡ m
  pub either : (m n : Mark) → held (join m n) ≡ held m || held n
