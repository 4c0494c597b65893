-- Cells in relation are of one kind. Assumes nothing.
use Rattle.std.proofs.Common.{ℕ, subst}
use Rattle.marks.specs.declared.Marked.{Marked}
use Rattle.marks.specs.Relations.{Rel}
use Rattle.buses.specs.Cells.{Cell, absent, plain, board}
use Rattle.terminal.specs.Relations.{CellBy}

-- what holds of two cells of each kind holds of all cells in relation
pub one_kind : (R : Rel Marked) (P : Rel Cell) → P absent absent → ((m n : Marked) → R m n → P (plain m) (plain n)) → ((b : ℕ) → P (board b) (board b)) →
    (x y : Cell) → CellBy R x y → P x y
one_kind R P a p b absent absent r = a
one_kind R P a p b absent (plain y) r = absurd r
one_kind R P a p b absent (board y) r = absurd r
one_kind R P a p b (plain x) absent r = absurd r
one_kind R P a p b (plain x) (plain y) r = p x y r
one_kind R P a p b (plain x) (board y) r = absurd r
one_kind R P a p b (board x) absent r = absurd r
one_kind R P a p b (board x) (plain y) r = absurd r
one_kind R P a p b (board x) (board y) r = subst (λ (n : ℕ). P (board x) (board n)) r (b x)
