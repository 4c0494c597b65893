-- What a call makes of a bus. Assumes nothing.
use Rattle.std.specs.Prelude.{◌≡◌}
use Rattle.buses.specs.declared.bus.Bus.{Ghosts}
use Rattle.buses.specs.Cells.{Cells}

-- its cells are these now, and the hidden ones are as they were
pub record Becomes {B : Type 0} (bus : Ghosts B) (old new : B) (after : Cells) : Type 0 where
  pub cells : bus.cells new ≡ after
  pub hidden : bus.hidden new ≡ bus.hidden old
