-- The count of trailing zeros of a set of lines is its lowest line. Assumes nothing.
use Rattle.std.proofs.Common.{◌≡◌, ℕ, zero, suc, ◌+◌, ◌/◌, ◌%◌, ◌^◌, ◌<◌, ◌≤◌, Bool, true, false, cond, ◌&&◌, eqb, ◌⊎◌, Some, None, Option, unwrap_or, sym, refl, ap, ◌∙◌, subst, inl, inr, ⊎_elim, arith, shr-shr}
use lib.Bits.{bit_and, and_shr, and_mod}
use lib.Count.{count_trailing_zeros, under}
use Rattle.cpu.specs.declared.state.Core.{Core}
use Rattle.cpu.specs.Interrupts.{has_line, lowest, LowestDue}

halved : (x n : ℕ) → x / 2 ^ suc n ≡ x / 2 ^ n / 2
halved x n = ap (λ (e : ℕ). x / 2 ^ e) (omega arith) ∙ sym (shr-shr x n 1)

pub lowest_trailing : (k n x y : ℕ) → x / 2 ^ n ≡ y → count_trailing_zeros k y < k → lowest k n x ≡ Some (n + count_trailing_zeros k y)
unfolding count_trailing_zeros
lowest_trailing zero n x y e l = absurd (omega arith)
lowest_trailing (suc k) n x y e l =
    subst (λ (z : ℕ). cond (eqb (z % 2) 1) (Some n) (lowest k (suc n) x) ≡ Some (n + under (y % 2) (count_trailing_zeros k (y / 2)))) (sym e) (go (λ less. lowest_trailing k (suc n) x (y / 2) (halved x n ∙ ap (λ (z : ℕ). z / 2) e) less) (y % 2) refl l) where
      go : (count_trailing_zeros k (y / 2) < k → lowest k (suc n) x ≡ Some (suc n + count_trailing_zeros k (y / 2))) → (r : ℕ) → y % 2 ≡ r → under r (count_trailing_zeros k (y / 2)) < suc k → cond (eqb r 1) (Some n) (lowest k (suc n) x) ≡ Some (n + under r (count_trailing_zeros k (y / 2)))
      go again zero er lr = again (omega arith) ∙ ap Some (omega arith)
      go again (suc zero) er lr = ap Some (omega arith)
      go again (suc (suc r)) er lr = absurd (omega arith)

-- of a line that was found: it is in the set, and none from n up to it is
abbrev pub Found : ℕ → ℕ → ℕ → Type 0
Found n x l = (n ≤ l) × (has_line x l ≡ true) × ((m : ℕ) → n ≤ m → m < l → has_line x m ≡ false)

order : (n m : ℕ) → (n < m) ⊎ (m ≤ n)
order n zero = inr (omega arith)
order zero (suc m) = inl (omega arith)
order (suc n) (suc m) = ⊎_elim (λ (l : n < m). inl (omega arith)) (λ (l : m ≤ n). inr (omega arith)) (order n m)

found_later : (n x l : ℕ) → has_line x n ≡ false → Found (suc n) x l → Found n x l
found_later n x l h f = (omega (arith, f.0), f.1, λ m lo hi. ⊎_elim (λ (past : n < m). f.2 m past hi) (λ (at : m ≤ n). subst (λ (z : ℕ). has_line x z ≡ false) (omega arith) h) (order n m))

pub lowest_found : (k n x l : ℕ) → lowest k n x ≡ Some l → Found n x l
lowest_found zero n x l e = absurd (let z : ◌≡◌ {A = ℕ} 0 1 = cc in omega arith)
lowest_found (suc k) n x l e = go (lowest_found k (suc n) x l) (has_line x n) refl e where
  go : (lowest k (suc n) x ≡ Some l → Found (suc n) x l) → (b : Bool) → has_line x n ≡ b → cond b (Some n) (lowest k (suc n) x) ≡ Some l → Found n x l
  go later true h f =
      let same : n ≡ l = ap (λ o. unwrap_or o 0) f in
      (omega arith, subst (λ (z : ℕ). has_line x z ≡ true) same h, λ m lo hi. absurd (omega arith))
  go later false h f = found_later n x l h (later f)

-- a line in both sets is in their common set, and the other way round
pub in_both : (a b n : ℕ) → has_line (bit_and a b) n ≡ has_line a n && has_line b n
in_both a b n =
    ap (λ (z : ℕ). eqb (z % 2) 1) (and_shr a b n)
    ∙ ap (λ (z : ℕ). eqb z 1) (and_mod (a / 2 ^ n) (b / 2 ^ n) 1)
    ∙ go (a / 2 ^ n % 2) (b / 2 ^ n % 2) (omega arith) (omega arith) where
      go : (r s : ℕ) → r < 2 → s < 2 → eqb (bit_and r s) 1 ≡ eqb r 1 && eqb s 1
      go zero zero p q = refl
      go zero (suc zero) p q = refl
      go (suc zero) zero p q = refl
      go (suc zero) (suc zero) p q = refl
      go (suc (suc r)) s p q = absurd (omega arith)
      go zero (suc (suc s)) p q = absurd (omega arith)
      go (suc zero) (suc (suc s)) p q = absurd (omega arith)

left_true : (p q : Bool) → p && q ≡ true → p ≡ true
left_true true q e = refl
left_true false q e = e

right_true : (p q : Bool) → p && q ≡ true → q ≡ true
right_true true q e = e
right_true false q e = absurd (let z : ◌≡◌ {A = ℕ} 0 1 = cc in omega arith)

pub lowest_due : (c : Core) → c.handling ≡ false → (o : Option ℕ) → lowest 16 0 (bit_and c.latched c.enabled) ≡ o → LowestDue c o
lowest_due c h None e = tt
lowest_due c h (Some line) e =
    let a = c.latched in
    let b = c.enabled in
    let found = lowest_found 16 0 (bit_and a b) line e in
    let both : has_line a line && has_line b line ≡ true = sym (in_both a b line) ∙ found.1 in
    (left_true (has_line a line) (has_line b line) both, right_true (has_line a line) (has_line b line) both, h, λ n low has. ap (λ (z : Bool). z && has_line b n) (sym has) ∙ sym (in_both a b n) ∙ found.2 n (omega arith) low)
