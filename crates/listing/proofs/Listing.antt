-- One line more of a listing. Assumes nothing.
use Rattle.std.proofs.Common.{◌≡◌, ℕ, ◌+◌, ◌-◌, ◌<◌, ◌≤◌, Bool, true, false, cond, eqb, List, [], ◌∷◌, ◌++◌, length, get_or, take, drop, Some, Ok, Err, Option, Result, sym, refl, ap, ◌∙◌, append_assoc, append-nil, slice_get, arith}
use Rattle.std.proofs.lemmas.List.{take_more, take_all, length-drop}
use Rattle.isa.specs.declared.Instruction.{Instruction}
use Rattle.isa.specs.declared.Refusal.{Refusal}
use Rattle.isa.specs.declared.Word.{Word}
use Rattle.isa.specs.declared.Word.TheVariants.{One, Two}
use Rattle.isa.specs.Table.{length_of}
use Rattle.listing.specs.declared.lines.Line.{Line}
use Rattle.listing.specs.Lines.{line_of, lines_of, size_of, word_at, word_bytes, bytes_of, line_text, lines_text}

-- what follows a line is listed from its end on
after_line : (at a b : ℕ) (rest : List ℕ) (w : Word) → cond (eqb (size_of w) 2) (lines_of (at + 2) rest) (lines_of (at + 1) (b ∷ rest)) ≡ lines_of (at + size_of w) (drop (size_of w) (a ∷ b ∷ rest))
after_line at a b rest (One x) = refl
after_line at a b rest (Two x y) = refl

first_line : (at a : ℕ) (rest : List ℕ) → lines_of at (a ∷ rest) ≡ line_of at a (slice_get rest 0) ∷ lines_of (at + size_of (line_of at a (slice_get rest 0)).word) (drop (size_of (line_of at a (slice_get rest 0)).word) (a ∷ rest))
first_line at a [] = refl
first_line at a (b ∷ rest) = ap (λ ls. line_of at a (Some b) ∷ ls) (after_line at a b rest (line_of at a (Some b)).word)

-- a line has the bytes at the front
line_bytes : (a : ℕ) (rest : List ℕ) (r : Result Instruction Refusal) → word_bytes (word_at a (slice_get rest 0) r) ++ drop (size_of (word_at a (slice_get rest 0) r)) (a ∷ rest) ≡ a ∷ rest
line_bytes a [] r = refl
line_bytes a (b ∷ rest) (Err e) = refl
line_bytes a (b ∷ rest) (Ok x) = both (eqb (length_of x) 2) where
  both : (two : Bool) → word_bytes (cond two (Two a b) (One a)) ++ drop (size_of (cond two (Two a b) (One a))) (a ∷ b ∷ rest) ≡ a ∷ b ∷ rest
  both true = refl
  both false = refl

bytes_push : (ls : List Line) (l : Line) → bytes_of (ls ++ (l ∷ [])) ≡ bytes_of ls ++ word_bytes l.word
bytes_push [] l = append-nil (word_bytes l.word)
bytes_push (k ∷ ls) l = ap (λ bs. word_bytes k.word ++ bs) (bytes_push ls l) ∙ sym (append_assoc (word_bytes k.word) (bytes_of ls) (word_bytes l.word))

module _ (at a : ℕ) (rest : List ℕ) (before after : List Line) (l : Line) (is : l ≡ line_of at a (slice_get rest 0)) (pushed : after ≡ before ++ (l ∷ [])) where
  abbrev line : Line
  line = line_of at a (slice_get rest 0)

  added : after ≡ before ++ (line ∷ [])
  added = pushed ∙ ap (λ k. before ++ (k ∷ [])) is

  lines_more : (all : List Line) → before ++ lines_of at (a ∷ rest) ≡ all → after ++ lines_of (at + size_of l.word) (drop (size_of l.word) (a ∷ rest)) ≡ all
  lines_more all so =
      (λ i. added i ++ lines_of (at + size_of (is i).word) (drop (size_of (is i).word) (a ∷ rest)))
      ∙ append_assoc before (line ∷ []) (lines_of (at + size_of line.word) (drop (size_of line.word) (a ∷ rest)))
      ∙ ap (λ ls. before ++ ls) (sym (first_line at a rest))
      ∙ so

  bytes_more : (all : List ℕ) → bytes_of before ++ (a ∷ rest) ≡ all → bytes_of after ++ drop (size_of l.word) (a ∷ rest) ≡ all
  bytes_more all so =
      (λ i. (ap bytes_of added ∙ bytes_push before line) i ++ drop (size_of (is i).word) (a ∷ rest))
      ∙ append_assoc (bytes_of before) (word_bytes line.word) (drop (size_of line.word) (a ∷ rest))
      ∙ ap (λ bs. bytes_of before ++ bs) (line_bytes a rest line.reading)
      ∙ so

-- a line more, and the bytes that are left after it
pub line_more : (at : ℕ) (left : List ℕ) (second : Option ℕ) (before after all : List Line) (bytes : List ℕ) (l : Line) (n : ℕ) → 1 ≤ length left → second ≡ slice_get (drop 1 left) 0 → l ≡ line_of at (get_or left 0 0) second → n ≡ size_of l.word →
    after ≡ before ++ (l ∷ []) → before ++ lines_of at left ≡ all → bytes_of before ++ left ≡ bytes → (after ++ lines_of (at + n) (drop n left) ≡ all) × (bytes_of after ++ drop n left ≡ bytes)
line_more at [] second before after all bytes l n some next is long pushed lines whole = absurd (omega arith)
line_more at (a ∷ rest) second before after all bytes l n some next is long pushed lines whole =
    let so : l ≡ line_of at a (slice_get rest 0) = is ∙ ap (line_of at a) next in (
      (λ i. after ++ lines_of (at + long i) (drop (long i) (a ∷ rest))) ∙ lines_more at a rest before after l so pushed all lines,
      (λ i. bytes_of after ++ drop (long i) (a ∷ rest)) ∙ bytes_more at a rest before after l so pushed bytes whole,
    )

pub kept : (n : ℕ) (bs : List ℕ) → take (length bs - n) (drop n bs) ≡ drop n bs
kept n bs = take_all (length bs - n) (drop n bs) (omega (arith, length-drop n bs))

text_push : (ls : List Line) (l : Line) → lines_text (ls ++ (l ∷ [])) ≡ lines_text ls ++ (line_text l ++ (10 ∷ []))
text_push [] l = refl
text_push (k ∷ ls) l = ap (λ t. line_text k ++ (10 ∷ t)) (text_push ls l) ∙ sym (append_assoc (line_text k) (10 ∷ lines_text ls) (line_text l ++ (10 ∷ [])))

-- a line more, and its end
pub text_more : (ls : List Line) (i : ℕ) (d : Line) (text text₁ : List ℕ) → i < length ls → text ≡ lines_text (take i ls) → text₁ ≡ text ++ (line_text (get_or ls i d) ++ (10 ∷ [])) → text₁ ≡ lines_text (take (i + 1) ls)
text_more ls i d text text₁ h so more =
    more
    ∙ ap (λ t. t ++ (line_text (get_or ls i d) ++ (10 ∷ []))) so
    ∙ sym (text_push (take i ls) (get_or ls i d))
    ∙ ap lines_text (sym (take_more ls i d h))
