-- The parts of a text that line feeds cut are its lines, and they are read in turn. Assumes nothing.
use Rattle.std.proofs.Common.{◌≡◌, ℕ, ◌+◌, ◌≤◌, Bool, true, false, cond, ◌==◌, List, [], ◌∷◌, ◌++◌, length, Option, Some, None, Ok, refl, sym, ap, ◌∙◌, subst, arith}
use Rattle.std.specs.Iterator.{AlwaysYields}
use Rattle.std.specs.List.{slice_split, onto_first}
use denote.Ref.{Bor}
use Rattle.player.specs.declared.failure.Failure.{Failure}
use Rattle.player.specs.declared.reading.Reading.{Reading}
use Rattle.player.specs.Answers.{Fails, then}
use Rattle.player.specs.Scripts.{begin, read_on, script_read, sofar, taken, text_lines}
use Rattle.player.proofs.Turns.{fails}

-- the parts, where these bytes stand in front of the first
abbrev started : List ℕ → List (List ℕ) → List (List ℕ)
started [] parts = parts
started (x ∷ xs) parts = onto_first x (started xs parts)

started_more : (line : List ℕ) (c : ℕ) (parts : List (List ℕ)) → started (line ++ (c ∷ [])) parts ≡ started line (onto_first c parts)
started_more [] c parts = refl
started_more (x ∷ xs) c parts = ap (onto_first x) (started_more xs c parts)

started_none : (line : List ℕ) (parts : List (List ℕ)) → started line ([] ∷ parts) ≡ line ∷ parts
started_none [] parts = refl
started_none (x ∷ xs) parts = ap (onto_first x) (started_none xs parts)

byte_more : (ends : Bool) (line : List ℕ) (c : ℕ) (cs : List ℕ) (parts : List (List ℕ)) → text_lines [] cs ≡ parts → text_lines (line ++ (c ∷ [])) cs ≡ started (line ++ (c ∷ [])) parts → cond ends (line ∷ text_lines [] cs) (text_lines (line ++ (c ∷ [])) cs) ≡ started line (cond ends ([] ∷ parts) (onto_first c parts))
byte_more true line c cs parts e f = ap (λ ls. line ∷ ls) e ∙ sym (started_none line parts)
byte_more false line c cs parts e f = f ∙ started_more line c parts

pub lines_split : (line text : List ℕ) → text_lines line text ≡ started line (slice_split (λ b. b == 10) text)
lines_split line [] = sym (started_none line [])
lines_split line (c ∷ cs) = byte_more (c == 10) line c cs (slice_split (λ b. b == 10) cs) (lines_split [] cs) (lines_split (line ++ (c ∷ [])) cs)

-- what an iterator has left is read as the whole text is, and there were no more lines than parts
pub record LeftToRead {S : Type 0} (steps : S → Option (Bor (List ℕ)) → S → Type 0) (s : S) (reading : Reading) (text : List ℕ) : Type 0 where
  pub parts : List (List ℕ)
  pub yields : AlwaysYields steps (λ x. x.now) s parts
  pub read : read_on (sofar reading) parts ≡ read_on begin (text_lines [] text)
  pub room : reading.number + length parts ≤ length text + 1

turn_parts : {S : Type 0} (steps : S → Option (Bor (List ℕ)) → S → Type 0) (s t : S) (x : Bor (List ℕ)) (r q : Reading) (text : List ℕ) (parts : List (List ℕ)) → AlwaysYields steps (λ x. x.now) s parts → read_on (sofar r) parts ≡ read_on begin (text_lines [] text) → r.number + length parts ≤ length text + 1 → steps s (Some x) t → taken (sofar r) x.now ≡ Ok (sofar q) → q.number ≡ r.number + 1 → LeftToRead steps t q text
turn_parts steps s t x r q text [] yields read room step took number = absurd (yields x t step)
turn_parts steps s t x r q text (y ∷ ys) yields read room step took number =
    let p = yields.1 x t step in
    record {
      parts = ys;
      yields = p.1;
      read = sym (ap (λ o. then o (λ t. read_on t ys)) (ap (taken (sofar r)) (sym p.0) ∙ took)) ∙ read;
      room = omega (arith, room, number);
    }

-- a line that is taken
pub turn : {S : Type 0} (steps : S → Option (Bor (List ℕ)) → S → Type 0) (s t : S) (x : Bor (List ℕ)) (r q : Reading) (text : List ℕ) → LeftToRead steps s r text → steps s (Some x) t → taken (sofar r) x.now ≡ Ok (sofar q) → q.number ≡ r.number + 1 → LeftToRead steps t q text
turn steps s t x r q text left = turn_parts steps s t x r q text left.parts left.yields left.read left.room

stop_parts : {S : Type 0} (steps : S → Option (Bor (List ℕ)) → S → Type 0) (s t : S) (x : Bor (List ℕ)) (r : Reading) (e : Failure) (parts : List (List ℕ)) → AlwaysYields steps (λ x. x.now) s parts → steps s (Some x) t → Fails e (taken (sofar r) x.now) → Fails e (read_on (sofar r) parts)
stop_parts steps s t x r e [] yields step h = absurd (yields x t step)
stop_parts steps s t x r e (y ∷ ys) yields step h =
    fails e (taken (sofar r) y) (λ t. read_on t ys) (subst (λ l. Fails e (taken (sofar r) l)) (yields.1 x t step).0 h)

-- a line that is wrong
pub stop : {S : Type 0} (steps : S → Option (Bor (List ℕ)) → S → Type 0) (s t : S) (x : Bor (List ℕ)) (r : Reading) (text : List ℕ) (e : Failure) → LeftToRead steps s r text → steps s (Some x) t → Fails e (taken (sofar r) x.now) → Fails e (script_read text)
stop steps s t x r text e left step h =
    fails e (read_on begin (text_lines [] text)) (λ s. Ok s.lines) (subst (Fails e) left.read (stop_parts steps s t x r e left.parts left.yields step h))

end_parts : {S : Type 0} (steps : S → Option (Bor (List ℕ)) → S → Type 0) (s t : S) (r : Reading) (parts : List (List ℕ)) → AlwaysYields steps (λ x. x.now) s parts → steps s None t → read_on (sofar r) parts ≡ Ok (sofar r)
end_parts steps s t r [] yields step = refl
end_parts steps s t r (y ∷ ys) yields step = absurd (yields.0 t step)

-- after the last line
pub all_read : {S : Type 0} (steps : S → Option (Bor (List ℕ)) → S → Type 0) (s t : S) (r : Reading) (text : List ℕ) → LeftToRead steps s r text → steps s None t → script_read text ≡ Ok ((sofar r).lines)
all_read steps s t r text left step = ap (λ o. then o (λ s. Ok s.lines)) (sym left.read ∙ end_parts steps s t r left.parts left.yields step)
