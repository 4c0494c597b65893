-- Two terminals compared part by part, marked bytes by a relation. Assumes nothing.
use Rattle.std.specs.Prelude.{◌≡◌, ℕ}
use Rattle.marks.specs.declared.Marked.{Marked}
use Rattle.marks.specs.Relations.{Rel, Pointwise}
use Rattle.buses.specs.Cells.{Cell, Cells, absent, plain, board}
use Rattle.units.specs.declared.unit.Status.{Status}
use Rattle.units.specs.Laws.{ContentsBy}
use Rattle.cpu.specs.declared.state.Core.{Core}
use Rattle.cpu.specs.declared.state.Saved.{Saved}
use Rattle.cpu.specs.State.{State}
use Rattle.terminal.specs.Terminals.{Terminal}

-- each group of sr counts as a byte
abbrev pub StatusBy : Rel Marked → Rel Status
StatusBy R s t = R s.high t.high × R s.low t.low

pub record SavedBy (R : Rel Marked) (s t : Saved) : Type 0 where
  pub pc : s.pc ≡ t.pc
  pub status : StatusBy R s.status t.status
  pub registers : Pointwise R s.registers t.registers

pub record CoreBy (R : Rel Marked) (c d : Core) : Type 0 where
  pub registers : Pointwise R c.registers d.registers
  pub status : StatusBy R c.status d.status
  pub pc : c.pc ≡ d.pc
  pub sp : c.sp ≡ d.sp
  pub enabled : c.enabled ≡ d.enabled
  pub vectors : c.vectors ≡ d.vectors
  pub latched : c.latched ≡ d.latched
  pub saved : SavedBy R c.saved d.saved
  pub pairs : c.pairs ≡ d.pairs
  pub mode : c.mode ≡ d.mode
  pub handling : c.handling ≡ d.handling

-- cells of one kind; what a board shows is the same
abbrev pub CellBy : Rel Marked → Rel Cell
CellBy R absent absent = Unit {0}
CellBy R absent (plain y) = ⊥
CellBy R absent (board b) = ⊥
CellBy R (plain x) absent = ⊥
CellBy R (plain x) (plain y) = R x y
CellBy R (plain x) (board b) = ⊥
CellBy R (board a) absent = ⊥
CellBy R (board a) (plain y) = ⊥
CellBy R (board a) (board b) = a ≡ b

abbrev pub CellsBy : Rel Marked → Rel Cells
CellsBy R xs ys = (a : ℕ) → CellBy R (xs a) (ys a)

pub record StateBy (R : Rel Marked) (s t : State) : Type 0 where
  pub core : CoreBy R s.core t.core
  pub cells : CellsBy R s.cells t.cells
  pub contents : ContentsBy R s.contents t.contents

pub record TerminalBy (R : Rel Marked) (s t : Terminal) : Type 0 where
  pub program : s.program ≡ t.program
  pub machine : StateBy R s.machine t.machine
