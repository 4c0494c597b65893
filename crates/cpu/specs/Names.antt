-- What a mode is called. Assumes nothing.
use Rattle.std.specs.Prelude.{ℕ, List, codes}
use Rattle.cpu.specs.declared.state.Mode.{Mode}
use Rattle.cpu.specs.declared.state.Mode.TheVariants.{Idle, Going, Waiting, Ended, Faulted}

abbrev pub mode_name : Mode → List ℕ
mode_name Idle = codes "idle"
mode_name Going = codes "going"
mode_name Waiting = codes "waiting"
mode_name Ended = codes "ended"
mode_name Faulted = codes "faulted"
