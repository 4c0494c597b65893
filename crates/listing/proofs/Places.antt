-- One character more of a place. Assumes nothing.
use Rattle.std.proofs.Common.{◌≡◌, ℕ, ◌+◌, ◌<◌, ◌≤◌, Bool, true, false, cond, eqb, List, [], ◌∷◌, ◌++◌, length, get_or, take, sym, refl, ap, ◌∙◌, subst, arith}
use Rattle.std.proofs.lemmas.List.{take_more}
use Rattle.listing.specs.declared.faults.Place.{Place}
use Rattle.listing.specs.Faults.{advanced, past}

past_push : (p : Place) (cs : List ℕ) (c : ℕ) → past p (cs ++ (c ∷ [])) ≡ advanced (past p cs) c
past_push p [] c = refl
past_push p (d ∷ cs) c = past_push (advanced p d) cs c

pub past_more : (start p q : Place) (text : List ℕ) (i : ℕ) → i < length text → p ≡ past start (take i text) → q ≡ advanced p (get_or text i 0) → q ≡ past start (take (i + 1) text)
past_more start p q text i h so next = next ∙ ap (λ r. advanced r (get_or text i 0)) so ∙ sym (past_push start (take i text) (get_or text i 0)) ∙ ap (past start) (sym (take_more text i 0 h))

-- a place is no further than the characters before it
abbrev pub Within : Place → ℕ → Type 0
Within p n = (p.line ≤ n) × (p.column ≤ n)

pub within_more : (p q : Place) (c n : ℕ) → q ≡ advanced p c → Within p n → Within q (n + 1)
within_more p q c n is h = subst (λ r. Within r (n + 1)) (sym is) (both (eqb c 10)) where
  both : (b : Bool) → Within (cond b (record { line = p.line + 1; column = 0 }) (record { line = p.line; column = p.column + 1 })) (n + 1)
  both true = (omega arith, omega arith)
  both false = (omega arith, omega arith)
