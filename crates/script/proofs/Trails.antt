-- Words written one after another. Assumes nothing.
use Rattle.std.proofs.Common.{◌≡◌, ℕ, List, [], ◌∷◌, Ok, Err, Result, IfOk, ◌++◌, sym, ap, subst, ◌∙◌, append_assoc, append-nil}
use Rattle.script.specs.declared.lines.Line.{Line}
use Rattle.script.specs.Lines.{said_of}
use Rattle.script.specs.Writes.{Adds, operand_words, trail}

pub push_then : (old w : List ℕ) (ws : List (List ℕ)) {mid new : List ℕ} → mid ≡ old ++ (32 ∷ w) → new ≡ mid ++ trail ws → new ≡ old ++ trail (w ∷ ws)
push_then old w ws {mid} {new} first second = second ∙ ap (λ l. l ++ trail ws) first ∙ append_assoc old (32 ∷ w) (trail ws)

pub push_last : (old w : List ℕ) {new : List ℕ} → new ≡ old ++ (32 ∷ w) → new ≡ old ++ trail (w ∷ [])
push_last old w {new} e = e ∙ ap (λ l. old ++ (32 ∷ l)) (sym (append-nil w))

pub begun : (first text whole : List ℕ) (ws : List (List ℕ)) → text ≡ first → whole ≡ text ++ trail ws → whole ≡ first ++ trail ws
begun first text whole ws is e = e ∙ ap (λ l. l ++ trail ws) is

-- what is so where memory sufficed gives what follows from it there
pub on_ok : {A E : Type 0} (r : Result A E) {P Q : Type 0} → IfOk r (λ _. P) → (P → Q) → IfOk r (λ _. Q)
on_ok (Ok x) p f = f p
on_ok (Err e) p f = tt

-- what is pushed for a line that matches a pattern is what the line's words are
pub pushed_for : {E : Type 0} (r : Result (Unit {0}) E) (old new : List ℕ) {line pattern : Line} → line ≡ pattern → Adds old new r (trail (operand_words (said_of pattern))) → Adds old new r (trail (operand_words (said_of line)))
pushed_for r old new is e = subst (λ l. Adds old new r (trail (operand_words (said_of l)))) (sym is) e
