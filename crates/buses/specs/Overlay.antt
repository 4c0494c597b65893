-- An odds board: cells of its own over those of another bus. Assumes nothing.
use Rattle.std.specs.Prelude.{ℕ, ◌+◌, ◌-◌, ◌*◌, Bool, cond, ◌&&◌, List, nat_le, nat_lt, slice_index}
use Rattle.buses.specs.Cells.{Cells, absent, board}

-- the 64 cells from page × 256 on
abbrev pub on_board : ℕ → ℕ → Bool
on_board page a = nat_le (page * 256) a && nat_lt a (page * 256 + 64)

-- the board's own cells hide those beneath
abbrev pub overlaid : ℕ → List ℕ → Cells → Cells
overlaid page own below = λ a. cond (on_board page a) (board (slice_index own (a - page * 256))) (below a)

-- those beneath that it hides
abbrev pub covered : ℕ → Cells → Cells
covered page below = λ a. cond (on_board page a) (below a) absent
