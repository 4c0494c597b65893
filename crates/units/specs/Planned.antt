-- A unit that works by a plan keeps the three laws. Assumes nothing.
use Rattle.std.specs.Prelude.{◌≡◌, ℕ, zero, suc, false, List, [], ◌∷◌, map, slice_index_or, refl}
use Rattle.std.proofs.Common.{ap, subst}
use Rattle.marks.specs.declared.Mark.{Mark}
use Rattle.marks.specs.declared.Mark.TheVariants.{Held, Unheld}
use Rattle.marks.specs.declared.Marked.{Marked}
use Rattle.marks.specs.Marks.{held, join, unheld}
use Rattle.marks.specs.Relations.{Rel, Alike, SameByte, Clear, Pointwise, All}
use Rattle.units.specs.Meaning.{Contents, Operands}
use Rattle.units.specs.Laws.{OperandsBy, OutcomeBy, Keeps, Quiet, IdleMarks, Clean}
use Rattle.units.specs.Plans.{joined, worked_out, Place, cell, from_a, from_b, Source, copy, work, Plan, taken, made, carried_out, planned}

-- a relation that working out keeps
pub record Through (R : Rel Marked) : Type 0 where
  pub constant : R (unheld 0) (unheld 0)
  pub worked : (f : List ℕ → ℕ) (ms ns : List Marked) → Pointwise R ms ns → R (worked_out f ms) (worked_out f ns)

module _ {R : Rel Marked} (thr : Through R) where
  at : (xs ys : List Marked) (n : ℕ) → Pointwise R xs ys → R (slice_index_or xs n (unheld 0)) (slice_index_or ys n (unheld 0))
  at [] [] n p = thr.constant
  at [] (y ∷ ys) n p = absurd p
  at (x ∷ xs) [] n p = absurd p
  at (x ∷ xs) (y ∷ ys) zero p = p.0
  at (x ∷ xs) (y ∷ ys) (suc n) p = at xs ys n p.1

  module _ (c d : Contents) (x y : Operands) (cs : Pointwise R c.bytes d.bytes) (os : OperandsBy R x y) where
    taken_by : (p : Place) → R (taken c x p) (taken d y p)
    taken_by (cell i) = at c.bytes d.bytes i cs
    taken_by from_a = os.0
    taken_by from_b = os.1

    all_taken : (ps : List Place) → Pointwise R (map (taken c x) ps) (map (taken d y) ps)
    all_taken [] = tt
    all_taken (p ∷ ps) = (taken_by p, all_taken ps)

    made_by : (s : Source) → R (made c x s) (made d y s)
    made_by (copy p) = taken_by p
    made_by (work f ps) = thr.worked f (map (taken c x) ps) (map (taken d y) ps) (all_taken ps)

    all_made : (ss : List Source) → Pointwise R (map (made c x) ss) (map (made d y) ss)
    all_made [] = tt
    all_made (s ∷ ss) = (made_by s, all_made ss)

    carried_by : (p : Plan) → OutcomeBy R (carried_out p c x) (carried_out p d y)
    carried_by p = ((made_by p.result, refl, tt), (refl, all_made p.bytes))

  keeps : (plan : ℕ → List ℕ → Plan) → Keeps R (planned plan)
  keeps plan codes code c d x y cs os =
      subst (λ s. OutcomeBy R (carried_out (plan code c.stages) c x) (carried_out (plan code s) d y)) cs.0 (carried_by c d x y cs.1 os (plan code c.stages))

-- the bytes alone
bytes_same : (ms ns : List Marked) → Pointwise SameByte ms ns → map (λ m. m.byte) ms ≡ map (λ m. m.byte) ns
bytes_same [] [] p = refl
bytes_same [] (n ∷ ns) p = absurd p
bytes_same (m ∷ ms) [] p = absurd p
bytes_same (m ∷ ms) (n ∷ ns) p = λ i. p.0 i ∷ bytes_same ms ns p.1 i

pub through_same : Through SameByte
through_same = record { constant = refl; worked = λ f ms ns p. ap f (bytes_same ms ns p) }

-- joined marks
join_clear_left : (m n : Mark) → held (join m n) ≡ false → held m ≡ false
join_clear_left Held n e = e
join_clear_left Unheld n e = refl

join_clear_right : (m n : Mark) → held (join m n) ≡ false → held n ≡ false
join_clear_right Held Held e = e
join_clear_right Held Unheld e = refl
join_clear_right Unheld n e = e

join_clear : (m n : Mark) → held m ≡ false → held n ≡ false → held (join m n) ≡ false
join_clear Held n a b = a
join_clear Unheld n a b = b

marks_same : (ms ns : List Marked) → Pointwise Alike ms ns → joined ms ≡ joined ns
marks_same [] [] p = refl
marks_same [] (n ∷ ns) p = absurd p
marks_same (m ∷ ms) [] p = absurd p
marks_same (m ∷ []) (n ∷ []) p = p.0.0
marks_same (m ∷ []) (n ∷ n' ∷ ns) p = absurd p.1
marks_same (m ∷ m' ∷ ms) (n ∷ []) p = absurd p.1
marks_same (m ∷ m' ∷ ms) (n ∷ n' ∷ ns) p = λ i. join (p.0.0 i) (marks_same (m' ∷ ms) (n' ∷ ns) p.1 i)

clear_same : (ms ns : List Marked) → Pointwise Alike ms ns → held (joined ms) ≡ false → map (λ m. m.byte) ms ≡ map (λ m. m.byte) ns
clear_same [] [] p h = refl
clear_same [] (n ∷ ns) p h = absurd p
clear_same (m ∷ ms) [] p h = absurd p
clear_same (m ∷ []) (n ∷ []) p h = λ i. p.0.1 h i ∷ []
clear_same (m ∷ []) (n ∷ n' ∷ ns) p h = absurd p.1
clear_same (m ∷ m' ∷ ms) (n ∷ []) p h = absurd p.1
clear_same (m ∷ m' ∷ ms) (n ∷ n' ∷ ns) p h =
    let first = p.0.1 (join_clear_left m.mark (joined (m' ∷ ms)) h) in
    let rest = clear_same (m' ∷ ms) (n' ∷ ns) p.1 (join_clear_right m.mark (joined (m' ∷ ms)) h) in
    (λ i. first i ∷ rest i)

pub through_alike : Through Alike
through_alike = record { constant = (refl, λ e. refl); worked = λ f ms ns p. (marks_same ms ns p, λ h. ap f (clear_same ms ns p h)) }

pub all_clear : (ms : List Marked) → All Clear ms → held (joined ms) ≡ false
all_clear [] p = refl
all_clear (m ∷ []) p = p.0
all_clear (m ∷ n ∷ ms) p = join_clear m.mark (joined (n ∷ ms)) p.0 (all_clear (n ∷ ms) p.1)

at_clear : (xs : List Marked) (n : ℕ) → All Clear xs → Clear (slice_index_or xs n (unheld 0))
at_clear [] n p = refl
at_clear (x ∷ xs) zero p = p.0
at_clear (x ∷ xs) (suc n) p = at_clear xs n p.1

module _ (c : Contents) (x : Operands) (cs : All Clear c.bytes) (a : Clear x.a) (b : Clear x.b) where
  taken_clear : (p : Place) → Clear (taken c x p)
  taken_clear (cell i) = at_clear c.bytes i cs
  taken_clear from_a = a
  taken_clear from_b = b

  all_taken_clear : (ps : List Place) → All Clear (map (taken c x) ps)
  all_taken_clear [] = tt
  all_taken_clear (p ∷ ps) = (taken_clear p, all_taken_clear ps)

  made_clear : (s : Source) → Clear (made c x s)
  made_clear (copy p) = taken_clear p
  made_clear (work f ps) = all_clear (map (taken c x) ps) (all_taken_clear ps)

  all_made_clear : (ss : List Source) → All Clear (map (made c x) ss)
  all_made_clear [] = tt
  all_made_clear (s ∷ ss) = (made_clear s, all_made_clear ss)

module _ (plan : ℕ → List ℕ → Plan) where
  pub planned_quiet : Quiet (planned plan)
  planned_quiet = keeps through_alike plan

  pub planned_idle : IdleMarks (planned plan)
  planned_idle = keeps through_same plan

  pub planned_clean : Clean (planned plan)
  planned_clean codes code c x cs os =
      let p = plan code c.stages in
      (made_clear c x cs os.0 os.1 p.result, tt, all_made_clear c x cs os.0 os.1 p.bytes)
