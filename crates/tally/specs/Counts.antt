-- Counting outcomes. Assumes nothing.
use Rattle.std.specs.Prelude.{ℕ, ◌+◌, ◌-◌, ◌^◌, Bool, true, false, min, List, ◌++◌, codes, decimal}
use Rattle.tally.specs.declared.Tally.{Tally}

-- one more, up to the largest number of 32 bits
abbrev pub more : ℕ → ℕ
more n = min (n + 1) (2 ^ 32 - 1)

abbrev pub counted : Tally → Bool → Tally
counted t true = record { right = more t.right; wrong = t.wrong }
counted t false = record { right = t.right; wrong = more t.wrong }

abbrev pub tally_text : Tally → List ℕ
tally_text t = decimal t.right ++ (codes " right, " ++ (decimal t.wrong ++ codes " wrong"))
