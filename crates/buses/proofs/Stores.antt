-- A store after a write. Assumes nothing.
use Rattle.std.proofs.Common.{◌≡◌, ℕ, ◌<◌, List, length, set, refl, rules}
use Rattle.marks.specs.declared.Mark.{Mark}
use Rattle.marks.specs.declared.Mark.TheVariants.{Held, Unheld}
use Rattle.marks.specs.declared.Marked.{Marked}
use Rattle.marks.specs.Marks.{mark_of, mark_byte}
use Rattle.buses.specs.Cells.{plain, put_at, settled, write_cell}
use Rattle.buses.specs.Memories.{store_cells}

mark_back : (m : Mark) → mark_of (mark_byte m) ≡ m
mark_back Held = refl
mark_back Unheld = refl

pub written : (bytes marks : List ℕ) (a b : ℕ) (m : Mark) → a < length bytes → a < length marks → store_cells (set bytes a b) (set marks a (mark_byte m)) ≡ put_at (store_cells bytes marks) a (plain (record { byte = b; mark = m }))
written bytes marks a b m h k = let e = mark_back m in search rules

-- a cell of the store takes any marked byte
pub takes : (bytes marks : List ℕ) (a : ℕ) (m : Marked) → a < length bytes → a < length marks → put_at (store_cells bytes marks) a (plain m) ≡ settled (store_cells bytes marks) a (write_cell (store_cells bytes marks a) m)
takes bytes marks a m h k = search rules
