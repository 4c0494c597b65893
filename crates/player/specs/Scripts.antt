-- A script as a whole. Assumes nothing.
use Rattle.std.specs.Prelude.{ℕ, ◌+◌, Bool, false, cond, ◌&&◌, ◌||◌, not, List, [], ◌∷◌, ◌++◌, map, codes, vec_items, Some, None, Ok, Err, Option, Result, ◌==◌}
use Rattle.script.specs.declared.faults.Fault.{Fault}
use Rattle.script.specs.Lines.{Said, line_said}
use Rattle.script.specs.Settings.{is_setting}
use Rattle.script.specs.Told.{fault_text}
use Rattle.player.specs.declared.reading.Reading.{Reading}
use Rattle.player.specs.Answers.{numbered, wrong_text, then}

-- the lines that say something, with their numbers; how many lines there were; whether one of them is a call
pub record Sofar : Type 0 where
  pub lines : List (ℕ × Said)
  pub number : ℕ
  pub calls : Bool

abbrev pub sofar : Reading → Sofar
sofar r = record { lines = map numbered (vec_items r.lines); number = r.number; calls = r.calls }

abbrev pub begin : Sofar
begin = record { lines = []; number = 0; calls = false }

-- a line more that says something; setting up comes before the first call
abbrev pub with_line : Sofar → Said → Result Sofar (List ℕ)
with_line s said =
    cond (is_setting said && s.calls)
    (Err (wrong_text s.number (codes "setting up after a call")))
    (Ok (record { lines = s.lines ++ ((s.number, said) ∷ []); number = s.number; calls = s.calls || not (is_setting said) }))

-- a line more, by what it says
abbrev pub with_read : Sofar → Result (Option Said) Fault → Result Sofar (List ℕ)
with_read s (Err fault) = Err (fault_text s.number fault)
with_read s (Ok None) = Ok s
with_read s (Ok (Some said)) = with_line s said

abbrev pub taken : Sofar → List ℕ → Result Sofar (List ℕ)
taken s text = with_read (record { lines = s.lines; number = s.number + 1; calls = s.calls }) (line_said text)

-- the lines of a text, of which the first begins with these bytes; a line feed (10) ends a line
abbrev pub text_lines : List ℕ → List ℕ → List (List ℕ)
text_lines line [] = line ∷ []
text_lines line (c ∷ cs) = cond (c == 10) (line ∷ text_lines [] cs) (text_lines (line ++ (c ∷ [])) cs)

abbrev pub read_on : Sofar → List (List ℕ) → Result Sofar (List ℕ)
read_on s [] = Ok s
read_on s (l ∷ ls) = then (taken s l) (λ t. read_on t ls)

-- the lines of a script that say something, or what is wrong with the first that is wrong
abbrev pub script_read : List ℕ → Result (List (ℕ × Said)) (List ℕ)
script_read text = then (read_on begin (text_lines [] text)) (λ s. Ok s.lines)
