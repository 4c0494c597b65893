-- What the calls of a script come to. Assumes nothing.
use Rattle.std.specs.Prelude.{ℕ, ◌+◌, ◌-◌, ◌^◌, List, ◌++◌, codes, decimal, min, Ok, Err, Result}
use Rattle.terminal.specs.declared.calls.Answer.{Answer}
use Rattle.terminal.specs.declared.calls.Answer.TheVariants.{Ran}
use Rattle.terminal.specs.declared.calls.Unmade.{Unmade}
use Rattle.player.specs.declared.totals.Totals.{Totals}

-- up to the largest number of 64 bits
abbrev pub capped : ℕ → ℕ
capped n = min n (2 ^ 64 - 1)

abbrev pub refused_more : Totals → Totals
refused_more t = record { calls = capped (t.calls + 1); refused = capped (t.refused + 1); steps = t.steps; cycles = t.cycles }

-- one call more, by its answer
abbrev pub counted : Totals → Result Answer Unmade → Totals
counted t (Err unmade) = refused_more t
counted t (Ok (Ran run)) = record { calls = capped (t.calls + 1); refused = t.refused; steps = capped (t.steps + run.steps); cycles = capped (t.cycles + run.cycles) }
counted t _ = record { calls = capped (t.calls + 1); refused = t.refused; steps = t.steps; cycles = t.cycles }

abbrev pub totals_text : Totals → List ℕ
totals_text t =
    decimal t.calls ++ (codes " calls, " ++ (decimal (t.calls - t.refused) ++ (codes " accepted, " ++ (decimal t.refused ++ (codes " refused, "
    ++ (decimal t.steps ++ (codes " steps, " ++ (decimal t.cycles ++ codes " cycles"))))))))
