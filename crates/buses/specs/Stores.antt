-- What the making of a store answers. Assumes nothing.
use Rattle.std.specs.Prelude.{◌≡◌, ℕ, Bool, true, false, List, [], Ok, Err, Result}
use Rattle.buses.specs.declared.store.Store.{Store}
use Rattle.buses.specs.declared.store.Unfit.{Unfit}
use Rattle.buses.specs.Cells.{Cells}
use Rattle.buses.specs.Memories.{fit, inside, store_cells}
use Rattle.buses.specs.Numbers.{number}

-- a store has the memories that it was given; memories that do not fit are refused 9, and handed back as they were
abbrev pub StoreOver : List ℕ → List ℕ → Result Store Unfit → Type 0
StoreOver bytes marks (Ok s) = (fit bytes marks ≡ true) × (s.bytes.now ≡ bytes) × (s.marks.now ≡ marks)
StoreOver bytes marks (Err u) = (fit bytes marks ≡ false) × (number u.refusal ≡ 9) × (u.bytes.now ≡ bytes) × (u.marks.now ≡ marks)

-- whether a store has a cell at an address
abbrev pub holds : Store → ℕ → Bool
holds s a = inside s.bytes.now s.marks.now a

abbrev pub store_of : Store → Cells
store_of s = store_cells s.bytes.now s.marks.now

-- no layer lies over a store's cells
abbrev pub store_hidden : Store → List Cells
store_hidden s = []
