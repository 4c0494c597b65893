-- A table whose entries are computed from their rule. Assumes nothing.
use Rattle.std.proofs.Common.{◌≡◌, ℕ, zero, suc, ◌+◌, ◌<◌, List, [], ◌∷◌, get_or, ap, ◌∙◌, arith}

-- n values of f, from i on
abbrev pub tabulated : (ℕ → ℕ) → ℕ → ℕ → List ℕ
tabulated f i zero = []
tabulated f i (suc n) = f i ∷ tabulated f (i + 1) n

from : (f : ℕ → ℕ) (i n k : ℕ) → k < n → get_or (tabulated f i n) k 0 ≡ f (i + k)
from f i zero k h = absurd (omega arith)
from f i (suc n) zero h = let same : i ≡ i + 0 = omega arith in ap f same
from f i (suc n) (suc k) h = let same : i + 1 + k ≡ i + suc k = omega arith in from f (i + 1) n k (omega arith) ∙ ap f same

-- the entry at k is f k: a table in the code has only to compute to its rule
pub entry : (f : ℕ → ℕ) (n k : ℕ) → k < n → get_or (tabulated f 0 n) k 0 ≡ f k
entry f n k h = let same : 0 + k ≡ k = omega arith in from f 0 n k h ∙ ap f same
