-- A store: cells over two memories of the caller's. Assumes nothing.
use Rattle.std.specs.Prelude.{ℕ, Bool, cond, ◌&&◌, List, length, ◌==◌, nat_le, nat_lt, slice_index}
use Rattle.marks.specs.Marks.{mark_of}
use Rattle.buses.specs.Cells.{Cells, absent, plain}

-- memories of one length, up to 65,536
abbrev pub fit : List ℕ → List ℕ → Bool
fit bytes marks = length bytes == length marks && nat_le (length bytes) 65536

abbrev pub inside : List ℕ → List ℕ → ℕ → Bool
inside bytes marks a = nat_lt a (length bytes) && nat_lt a (length marks)

-- cells below the length are plain, the rest absent
abbrev pub store_cells : List ℕ → List ℕ → Cells
store_cells bytes marks = λ a. cond (inside bytes marks a) (plain (record { byte = slice_index bytes a; mark = mark_of (slice_index marks a) })) absent
