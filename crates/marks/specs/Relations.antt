-- Relations between marked bytes. Assumes nothing.
use Rattle.std.specs.Prelude.{◌≡◌, false, List, [], ◌∷◌}
use Rattle.marks.specs.declared.Marked.{Marked}
use Rattle.marks.specs.Marks.{held}

abbrev pub Rel : Type 0 → Type 1
Rel A = A → A → Type 0

-- the same mark, and the same byte where it is unheld: what may be told apart is the same
abbrev pub Alike : Rel Marked
Alike x y = (x.mark ≡ y.mark) × (held x.mark ≡ false → x.byte ≡ y.byte)

-- the same byte, whatever the marks
abbrev pub SameByte : Rel Marked
SameByte x y = x.byte ≡ y.byte

abbrev pub Clear : Marked → Type 0
Clear x = held x.mark ≡ false

-- the same byte, and the second unheld
abbrev pub Bare : Rel Marked
Bare x y = SameByte x y × Clear y

-- one by one
abbrev pub Pointwise : {A : Type 0} → Rel A → Rel (List A)
Pointwise R [] [] = Unit {0}
Pointwise R [] (y ∷ ys) = ⊥
Pointwise R (x ∷ xs) [] = ⊥
Pointwise R (x ∷ xs) (y ∷ ys) = R x y × Pointwise R xs ys

abbrev pub All : {A : Type 0} → (A → Type 0) → List A → Type 0
All P [] = Unit {0}
All P (x ∷ xs) = P x × All P xs
