-- The S-box and its inverse undo each other at every byte. Assumes nothing.
use Rattle.std.proofs.Common.{◌≡◌, ℕ, zero, suc, ◌<◌, sym, ◌∙◌, arith}
use Rattle.units.specs.Field.{inverse, product, InverseLaw}
use Rattle.units.specs.Sbox.{affine, substituted, restored}
use Rattle.units.proofs.Entries.{entry}

-- both sides are tables of the 256 bytes, and compute to the same
pub restored_substituted : (b : ℕ) → b < 256 → restored (substituted b) ≡ b
unfolding restored substituted affine inverse
restored_substituted b h = sym (entry (λ n. restored (substituted n)) 256 b h) ∙ entry (λ n. n) 256 b h

pub substituted_restored : (b : ℕ) → b < 256 → substituted (restored b) ≡ b
unfolding restored substituted affine inverse
substituted_restored b h = sym (entry (λ n. substituted (restored n)) 256 b h) ∙ entry (λ n. n) 256 b h

-- computed at each byte
pub inverse_law : InverseLaw
unfolding product inverse
inverse_law zero h k = absurd (omega arith)
inverse_law (suc n) h k = sym (entry (λ m. product (suc m) (inverse (suc m))) 255 n (omega arith)) ∙ entry (λ m. 1) 255 n (omega arith)
