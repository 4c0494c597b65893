-- What a write and a lift leave alone, whatever the cells. Assumes nothing.
use Rattle.std.specs.Prelude.{◌≡◌, ℕ, Err, ◌≢◌}
use Rattle.marks.specs.declared.Mark.TheVariants.{Held}
use Rattle.marks.specs.declared.Marked.{Marked}
use Rattle.buses.specs.declared.bus.Kind.TheVariants.{Board}
use Rattle.buses.specs.Cells.{Cells, kind_of, write_cell, lift_cell, settled}

abbrev pub written : Cells → ℕ → Marked → Cells
written cs a m = settled cs a (write_cell (cs a) m)

abbrev pub raised : Cells → ℕ → Cells
raised cs a = settled cs a (lift_cell (cs a))

-- no cell but one is altered, and no kind at all
abbrev pub Local : ℕ → Cells → Cells → Type 0
Local a before after = ((k : ℕ) → (k ≢ a) → after k ≡ before k) × ((k : ℕ) → kind_of (after k) ≡ kind_of (before k))

pub record WriteLaws : Type 0 where
  pub local : (cs : Cells) (a : ℕ) (m : Marked) → Local a cs (written cs a m)
  -- a held byte for a board cell is refused 25, and nothing is altered
  pub never_shown : (cs : Cells) (a : ℕ) (m : Marked) → kind_of (cs a) ≡ Board → m.mark ≡ Held → (write_cell (cs a) m ≡ Err 25) × (written cs a m ≡ cs)

pub record LiftLaws : Type 0 where
  pub local : (cs : Cells) (a : ℕ) → Local a cs (raised cs a)
