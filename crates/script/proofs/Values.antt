-- One digit more of a number. Assumes nothing.
use Rattle.std.proofs.Common.{◌≡◌, ℕ, ◌+◌, ◌*◌, ◌<◌, ◌≤◌, min, List, [], ◌∷◌, length, get_or, drop, Some, None, Option, sym, refl, ap, ◌∙◌, arith}
use Rattle.std.proofs.lemmas.List.{at_drop_more, at_drop_all}
use Rattle.script.specs.declared.numbers.Base.{Base}
use Rattle.script.specs.declared.numbers.Base.TheVariants.{Ten, Sixteen}
use Rattle.script.specs.Numbers.{digit_in, radix, value_from, capped}

abbrev onward : Base → ℕ → List ℕ → Option ℕ → Option ℕ
onward base a cs o = elim o [ None ↦ None | Some d ↦ value_from base (a * radix base + d) cs ]

-- one digit more, where values are the same up to the cap after it
same_onward : (base : Base) (a b : ℕ) (cs : List ℕ) → ((d : ℕ) → capped (value_from base (a * radix base + d) cs) ≡ capped (value_from base (b * radix base + d) cs)) → (o : Option ℕ) → capped (onward base a cs o) ≡ capped (onward base b cs o)
same_onward base a b cs so None = refl
same_onward base a b cs so (Some d) = so d

-- values that are the same up to the cap stay so
same_capped : (base : Base) (a b : ℕ) (cs : List ℕ) → min a 4294967296 ≡ min b 4294967296 → capped (value_from base a cs) ≡ capped (value_from base b cs)
same_capped base a b [] e = ap (λ n. Some n) e
same_capped Ten a b (c ∷ cs) e = same_onward Ten a b cs (λ d. same_capped Ten (a * 10 + d) (b * 10 + d) cs (omega (arith, e))) (digit_in Ten c)
same_capped Sixteen a b (c ∷ cs) e = same_onward Sixteen a b cs (λ d. same_capped Sixteen (a * 16 + d) (b * 16 + d) cs (omega (arith, e))) (digit_in Sixteen c)

module _ (base : Base) (digits : List ℕ) (a i : ℕ) (all : Option ℕ) (h : i < length digits) (so : capped (value_from base a (drop i digits)) ≡ all) where
  pub digit_more : (d n : ℕ) → digit_in base (get_or digits i 0) ≡ Some d → n ≡ min (a * radix base + d) 4294967296 → capped (value_from base n (drop (i + 1) digits)) ≡ all
  digit_more d n is e =
      same_capped base n (a * radix base + d) (drop (i + 1) digits) (omega (arith, e))
      ∙ sym (ap (λ o. capped (onward base a (drop (i + 1) digits) o)) is)
      ∙ sym (at_drop_more (λ l. capped (value_from base a l)) digits i 0 h)
      ∙ so

  pub digit_none : digit_in base (get_or digits i 0) ≡ None → None ≡ all
  digit_none is =
      sym (ap (λ o. capped (onward base a (drop (i + 1) digits) o)) is)
      ∙ sym (at_drop_more (λ l. capped (value_from base a l)) digits i 0 h)
      ∙ so

pub digits_all : (base : Base) (digits : List ℕ) (a i : ℕ) (all : Option ℕ) → length digits ≤ i → a ≤ 4294967296 → capped (value_from base a (drop i digits)) ≡ all → Some a ≡ all
digits_all base digits a i all h small so =
    ap (λ n. Some n) (let e : a ≡ min a 4294967296 = omega arith in e) ∙ sym (at_drop_all (λ l. capped (value_from base a l)) digits i h) ∙ so
