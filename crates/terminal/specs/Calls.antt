-- The eleven calls, what they answer, and lists of them. Assumes nothing.
use Rattle.std.specs.Prelude.{ℕ, Bool, List, [], ◌∷◌, Ok, Err, Result}
use Rattle.cpu.specs.declared.state.Mode.{Mode}
use Rattle.cpu.specs.Instructions.{Service}
use Rattle.cpu.specs.Runs.{Ran, Ending}
use Rattle.terminal.specs.declared.interval.Interval.{Interval}
use Rattle.terminal.specs.declared.interval.Seal.{Seal}
use Rattle.terminal.specs.Terminals as does
use Rattle.terminal.specs.Terminals.{Terminal}

pub data Call : Type 0 where
  load : ℕ → List ℕ → Call
  start : Call
  raise : ℕ → Call
  run : ℕ → Call
  put : ℕ → ℕ → Call
  opening : Seal → ℕ → ℕ → Call
  entry : Interval → ℕ → ℕ → Call
  close : Interval → Call
  cell : ℕ → Call
  register : ℕ → Call
  status : Call

-- a refusal is its number; a close that is refused hands its interval back
pub data Answer : Type 0 where
  done : Answer
  opened : Interval → Answer
  ran : ℕ → ℕ → Ending → Answer
  byte : ℕ → Answer
  stands : Mode → ℕ → ℕ → ℕ → ℕ → Bool → Answer
  refused : ℕ → Answer
  unclosed : ℕ → Interval → Answer

-- what is told and what is left; a refusal changes nothing
abbrev pub changes : Terminal → Result Terminal ℕ → Answer × Terminal
changes t (Ok u) = (done, u)
changes t (Err n) = (refused n, t)

abbrev pub tells : Terminal → Result ℕ ℕ → Answer × Terminal
tells t (Ok b) = (byte b, t)
tells t (Err n) = (refused n, t)

abbrev pub opens : Terminal → Result Interval ℕ → Answer × Terminal
opens t (Ok i) = (opened i, t)
opens t (Err n) = (refused n, t)

abbrev pub closes : Interval → Terminal → Result Terminal ℕ → Answer × Terminal
closes i t (Ok u) = (done, u)
closes i t (Err n) = (unclosed n i, t)

abbrev pub runs : Terminal → Result Ran ℕ → Answer × Terminal
runs t (Ok r) = (ran r.steps r.cycles r.ending, record { program = t.program; machine = r.state })
runs t (Err n) = (refused n, t)

-- the answer to a call, and the terminal afterwards
abbrev pub respond : Service → Call → Terminal → Answer × Terminal
respond unit (load pairs program) t = changes t (does.loaded pairs program t)
respond unit start t = changes t (does.started t)
respond unit (raise line) t = changes t (does.raised line t)
respond unit (run budget) t = runs t (does.ran unit budget t)
respond unit (put address b) t = changes t (does.written address b t)
respond unit (opening seal first count) t = opens t (does.opened seal first count t)
respond unit (entry i offset b) t = changes t (does.entered i offset b t)
respond unit (close i) t = closes i t (does.closed i t)
respond unit (cell address) t = tells t (does.cell_shown address t)
respond unit (register n) t = tells t (does.register_shown n t)
respond unit status t = let c = t.machine.core in (stands c.mode c.pc c.sp c.enabled c.latched c.handling, t)

-- a list of calls: every answer in turn, and what is left at the end
abbrev pub performed : Service → List Call → Terminal → List Answer × Terminal
performed unit [] t = ([], t)
performed unit (k ∷ ks) t =
    let first = respond unit k t in
    let rest = performed unit ks first.1 in
    (first.0 ∷ rest.0, rest.1)
