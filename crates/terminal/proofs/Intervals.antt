-- An interval whose cells were checked has plain cells only. Assumes nothing.
use Rattle.std.proofs.Common.{◌≡◌, ℕ, zero, suc, ◌+◌, ◌-◌, ◌%◌, ◌<◌, ◌∷◌, get_or, is_ok, Ok, Err, Result, sym, refl, ap, ◌∙◌, arith}
use Rattle.std.proofs.lemmas.Bool.{true≢false}
use Rattle.marks.specs.declared.Marked.{Marked}
use Rattle.buses.specs.Cells.{Cell, Cells, absent, plain, board, write_cell, put_at, settled}
use Rattle.buses.specs.Cells as bus
use Rattle.buses.specs.Numbers as bus_numbers
use Rattle.buses.specs.declared.bus.Refusal as bus_refusal
use Rattle.cpu.specs.Instructions.{above}
use Rattle.terminal.specs.declared.calls.Refusal.{Refusal}
use Rattle.terminal.specs.Numbers.{numbered}
use Rattle.terminal.specs.Terminals.{addresses, and_then, cells_entered, cells_written, checked, is_plain, left, told}

-- what is refused does not pass
pub not_both : {A B : Type 0} {n : ℕ} {x : A} → ◌≡◌ {A = Result A ℕ} (Err n) (Ok x) → B
not_both e = absurd (true≢false (ap is_ok (sym e)))

-- an answer with two parts has both
pub first_ok : {A : Type 0} (r : Result (Unit {0}) ℕ) (s : Result A ℕ) (x : A) → and_then r (λ _. s) ≡ Ok x → r ≡ Ok tt
first_ok (Ok u) s x e = refl
first_ok (Err n) s x e = not_both e

pub second_ok : {A : Type 0} (r : Result (Unit {0}) ℕ) (s : Result A ℕ) (x : A) → and_then r (λ _. s) ≡ Ok x → s ≡ Ok x
second_ok (Ok u) s x e = e
second_ok (Err n) s x e = not_both e

-- from an offset on: the cell there, and then the rest
pub from_offset : (first count k : ℕ) → k < count → addresses ((first + k) % 65536) (count - k) ≡ ((first + k) % 65536 ∷ addresses ((first + (k + 1)) % 65536) (count - (k + 1)))
from_offset first count k less =
    let one-more : count - k ≡ suc (count - (k + 1)) = omega arith in
    let next : above ((first + k) % 65536) ≡ (first + (k + 1)) % 65536 = omega arith in
    ap (addresses ((first + k) % 65536)) one-more ∙ ap (λ (a : ℕ). (first + k) % 65536 ∷ addresses a (count - (k + 1))) next

-- the cell at an offset is that many cells on
pub offset_cell : (first count offset d : ℕ) → first < 65536 → offset < count → get_or (addresses first count) offset d ≡ (first + offset) % 65536
offset_cell first zero offset d f o = absurd (omega arith)
offset_cell first (suc count) zero d f o = omega arith
offset_cell first (suc count) (suc offset) d f o =
    let there : ((first + 1) % 65536 + offset) % 65536 ≡ (first + suc offset) % 65536 = omega arith in
    offset_cell (above first) count offset d (omega arith) (omega arith) ∙ there

pub checked_plain : (cells : Cells) (first count offset d : ℕ) → offset < count → checked cells (addresses first count) ≡ Ok tt → is_plain (cells (get_or (addresses first count) offset d)) ≡ Ok tt
checked_plain cells first zero offset d o e = absurd (omega arith)
checked_plain cells first (suc count) zero d o e = first_ok (is_plain (cells first)) (checked cells (addresses (above first) count)) tt e
checked_plain cells first (suc count) (suc offset) d o e = checked_plain cells (above first) count offset d (omega arith) (second_ok (is_plain (cells first)) (checked cells (addresses (above first) count)) tt e)

-- a plain cell takes every byte
pub plain_takes : (c : Cell) (m : Marked) → is_plain c ≡ Ok tt → bus.told (write_cell c m) ≡ Ok tt
plain_takes absent m e = not_both e
plain_takes (plain old) m e = refl
plain_takes (board b) m e = not_both e

-- a call that is refused where the bus refuses passes where the bus does
pub passes : (r : Result (Unit {0}) bus_refusal.Refusal) (s : Result (Unit {0}) Refusal) → bus_numbers.numbered r ≡ Ok tt → is_ok s ≡ is_ok r → numbered s ≡ Ok tt
passes (Ok u) (Ok v) e same = refl
passes (Ok u) (Err m) e same = absurd (true≢false (sym same))
passes (Err n) s e same = not_both e

-- what an entry into checked cells does is what the bus does
pub entered_is : (cells : Cells) (first count offset : ℕ) (m : Marked) → first < 65536 → offset < count → checked cells (addresses first count) ≡ Ok tt → cells_entered cells first count offset m ≡ cells_written cells ((first + offset) % 65536) m
entered_is cells first count offset m f o e =
    ap (λ (r : Result (Unit {0}) ℕ). and_then r (λ _. cells_written cells (get_or (addresses first count) offset first) m)) e
    ∙ ap (λ (a : ℕ). cells_written cells a m) (offset_cell first count offset first f o)

pub written_told : (cells : Cells) (a : ℕ) (r : Result Cell ℕ) → told (and_then r (λ c. Ok (put_at cells a c))) ≡ bus.told r
written_told cells a (Ok c) = refl
written_told cells a (Err n) = refl

pub written_left : (cells : Cells) (a : ℕ) (r : Result Cell ℕ) → left cells (and_then r (λ c. Ok (put_at cells a c))) ≡ settled cells a r
written_left cells a (Ok c) = refl
written_left cells a (Err n) = refl
