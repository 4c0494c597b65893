-- One relation serves both theorems: what the first machine does, the second follows, unless the first stops over a held byte. Assumes nothing.
use Rattle.std.proofs.Common.{◌≡◌, ℕ, Bool, true, false, cond, ◌⊎◌, List, [], ◌∷◌, Some, None, Ok, Err, Option, Result, sym, refl, ap, ◌∙◌, subst, inl, inr, ⊎_elim}
use Rattle.std.proofs.lemmas.Bool.{true≢false}
use Rattle.marks.specs.declared.Marked.{Marked}
use Rattle.marks.specs.Marks.{held, unheld}
use Rattle.marks.specs.Relations.{Rel, Alike, SameByte, Clear, Bare, Pointwise, All}
use Rattle.units.specs.Laws.{Keeps, Quiet, IdleMarks, Clean, FlagsBy, FlagsAll}
use Rattle.units.specs.Meaning.{Meaning}
use Rattle.units.specs.Plans.{worked_out}
use Rattle.units.specs.Planned as planned
use Rattle.cpu.specs.Faults.{Stop, stop, of_core, and_then}
use Rattle.cpu.specs.Instructions.{steered}
use Rattle.terminal.specs.Theorems.{held_stop}

-- a relation that working out keeps, under which what is unheld is shown the same; E holds where the second may go on although the first stops over a held byte
pub record Through (R : Rel Marked) (E : Type 0) : Type 0 where
  pub constant : (b : ℕ) → R (unheld b) (unheld b)
  pub worked : (f : List ℕ → ℕ) (ms ns : List Marked) → Pointwise R ms ns → R (worked_out f ms) (worked_out f ns)
  pub shown : (x y : Marked) → R x y → held x.mark ≡ false → (held y.mark ≡ false) × (x.byte ≡ y.byte)
  pub kept : (x y : Marked) → R x y → held x.mark ≡ true → (held y.mark ≡ true) ⊎ E

-- the same outcome, parts in relation
abbrev pub Same : {A X : Type 0} → Rel A → Rel (Result A X)
Same Q (Ok a) (Ok b) = Q a b
Same Q (Ok a) (Err g) = ⊥
Same Q (Err f) (Ok b) = ⊥
Same Q (Err f) (Err g) = f ≡ g

-- what holds of equal refusals and of values in relation holds of one outcome and the other
pub same_cases : {A X : Type 0} (Q : Rel A) (P : Rel (Result A X)) → ((a b : A) → Q a b → P (Ok a) (Ok b)) → ((f : X) → P (Err f) (Err f)) → (o p : Result A X) → Same Q o p → P o p
same_cases Q P k e (Ok a) (Ok b) q = k a b q
same_cases Q P k e (Ok a) (Err g) q = absurd q
same_cases Q P k e (Err f) (Ok b) q = absurd q
same_cases Q P k e (Err f) (Err g) q = subst (λ (x : _). P (Err f) (Err x)) q (e f)

abbrev pub Excused : {A : Type 0} → Result A Stop → Type 0
Excused (Ok a) = ⊥
Excused (Err f) = held_stop f ≡ true

abbrev pub Follows : {A : Type 0} → Rel A → Type 0 → Rel (Result A Stop)
Follows Q E o p = Same Q o p ⊎ (Excused o × E)

pub then_follows : {A B E : Type 0} (Q : Rel A) (P : Rel B) (o p : Result A Stop) (f g : A → Result B Stop) →
    Follows Q E o p → ((a b : A) → Q a b → Follows P E (f a) (g b)) → Follows P E (and_then o f) (and_then p g)
then_follows Q P (Ok a) (Ok b) f g (inl q) k = k a b q
then_follows Q P (Ok a) (Err e) f g (inl q) k = absurd q
then_follows Q P (Err e) (Ok b) f g (inl q) k = absurd q
then_follows Q P (Err e) (Err h) f g (inl q) k = inl q
then_follows Q P (Ok a) p f g (inr x) k = absurd x.0
then_follows Q P (Err e) p f g (inr x) k = inr x

pub apart : {A : Type 0} → true ≡ false → A
apart e = absurd (true≢false e)

module _ {R : Rel Marked} {E : Type 0} (thr : Through R E) where
  -- a test on a mark, and what is done where it is not held
  pub gate : {A : Type 0} (Q : Rel A) (x y : Marked) (f : Stop) (o p : Result A Stop) → R x y → held_stop f ≡ true → (x.byte ≡ y.byte → Follows Q E o p) →
      Follows Q E (cond (held x.mark) (Err f) o) (cond (held y.mark) (Err f) p)
  gate Q x y f o p r h k = go (held x.mark) (held y.mark) refl refl where
    go : (a b : Bool) → held x.mark ≡ a → held y.mark ≡ b → Follows Q E (cond a (Err f) o) (cond b (Err f) p)
    go true true ea eb = inl refl
    go true false ea eb = ⊎_elim (λ e. apart (sym e ∙ eb)) (λ e. inr (h, e)) (thr.kept x y r ea)
    go false b ea eb =
        let open-both = thr.shown x y r ea in
        subst (λ (v : Bool). Follows Q E o (cond v (Err f) p)) (sym open-both.0 ∙ eb) (k open-both.1)

  pub steered_by : (n : ℕ) (x y : Marked) → R x y → held_stop (stop n of_core) ≡ true → Follows ◌≡◌ E (steered n x) (steered n y)
  steered_by n x y r h = gate ◌≡◌ x y (stop n of_core) (Ok x.byte) (Ok y.byte) r h (λ e. inl e)

-- both relations are of this kind

pub alike_through : Through Alike ⊥
alike_through = record {
  constant = λ b. (refl, λ e. refl);
  worked = (planned.through_alike).worked;
  shown = λ x y p e. (ap held (sym p.0) ∙ e, p.1 e);
  kept = λ x y p e. inl (ap held (sym p.0) ∙ e);
}

same_bytes : (ms ns : List Marked) → Pointwise Bare ms ns → Pointwise SameByte ms ns
same_bytes [] [] p = tt
same_bytes [] (n ∷ ns) p = absurd p
same_bytes (m ∷ ms) [] p = absurd p
same_bytes (m ∷ ms) (n ∷ ns) p = (p.0.0, same_bytes ms ns p.1)

second_clear : (ms ns : List Marked) → Pointwise Bare ms ns → All Clear ns
second_clear [] [] p = tt
second_clear [] (n ∷ ns) p = absurd p
second_clear (m ∷ ms) [] p = absurd p
second_clear (m ∷ ms) (n ∷ ns) p = (p.0.1, second_clear ms ns p.1)

both_bare : (ms ns : List Marked) → Pointwise SameByte ms ns → All Clear ns → Pointwise Bare ms ns
both_bare [] [] p c = tt
both_bare [] (n ∷ ns) p c = absurd p
both_bare (m ∷ ms) [] p c = absurd p
both_bare (m ∷ ms) (n ∷ ns) p c = ((p.0, c.0), both_bare ms ns p.1 c.1)

pub bare_through : Through Bare (Unit {0})
bare_through = record {
  constant = λ b. (refl, refl);
  worked = λ f ms ns p. ((planned.through_same).worked f ms ns (same_bytes ms ns p), planned.all_clear ns (second_clear ms ns p));
  shown = λ x y p e. (p.1, p.0);
  kept = λ x y p e. inr tt;
}

-- units keep both: the one by Quiet, the other by Idle marks and Clean

pub alike_keeps : (op : Meaning) → Quiet op → Keeps Alike op
alike_keeps op quiet = quiet

flags_bare : (x y : Option Marked) → FlagsBy SameByte x y → FlagsAll Clear y → FlagsBy Bare x y
flags_bare None None p c = tt
flags_bare None (Some y) p c = absurd p
flags_bare (Some x) None p c = absurd p
flags_bare (Some x) (Some y) p c = (p, c)

pub bare_keeps : (op : Meaning) → IdleMarks op → Clean op → Keeps Bare op
bare_keeps op idle clean codes code c d x y cs os =
    let same = idle codes code c d x y (cs.0, same_bytes c.bytes d.bytes cs.1) (os.0.0, os.1.0, os.2.0, os.3.0) in
    let clear = clean codes code d y (second_clear c.bytes d.bytes cs.1) (os.0.1, os.1.1, os.2.1, os.3.1) in
    (((same.0.0, clear.0), same.0.1, flags_bare _ _ same.0.2 clear.1), (same.1.0, both_bare _ _ same.1.1 clear.2))
