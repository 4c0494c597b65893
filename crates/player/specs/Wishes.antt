-- The machine that a script asks for. Assumes nothing.
use Rattle.std.specs.Prelude.{ℕ, cond, List, [], ◌∷◌, codes, Some, None, Ok, Err, Result, nat_lt}
use Rattle.script.specs.declared.operands.UnitName.TheVariants.{Aes}
use Rattle.script.specs.Lines.{Said, memory, board, unit}
use Rattle.player.specs.declared.reading.Wanted.{Wanted}
use Rattle.player.specs.Answers.{wrong_text, then}

-- all cells, no board, the AES unit
abbrev pub usual : Wanted
usual = record { cells = 65536; page = None; unit = Aes }

-- the machine after one line more
abbrev pub asked : Wanted → ℕ → Said → Result Wanted (List ℕ)
asked w n (memory cells) = cond (nat_lt 65536 cells) (Err (wrong_text n (codes "memory of over 65536 cells"))) (Ok (record { cells = cells; page = w.page; unit = w.unit }))
asked w n (board page) = Ok (record { cells = w.cells; page = Some page; unit = w.unit })
asked w n (unit name) = Ok (record { cells = w.cells; page = w.page; unit = name })
asked w n _ = Ok w

-- the last line of each kind counts
abbrev pub wanted_after : Wanted → List (ℕ × Said) → Result Wanted (List ℕ)
wanted_after w [] = Ok w
wanted_after w (l ∷ ls) = then (asked w l.0 l.1) (λ v. wanted_after v ls)
