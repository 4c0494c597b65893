-- Words that are written are found again. Assumes nothing.
use Rattle.std.proofs.Common.{◌≡◌, ℕ, zero, suc, ◌+◌, Bool, true, false, cond, ◌||◌, eqb, List, [], ◌∷◌, ◌++◌, length, get_or, take, drop, Some, None, Ok, Err, refl, ap, ◌∙◌, arith, rules}
use Rattle.std.proofs.lemmas.List.{take_at, drop_at, get_or_past}
use Rattle.script.specs.declared.faults.Fault.TheVariants.{MissingWord, ExtraWord}
use Rattle.script.specs.declared.verbs.Verb.{Verb}
use Rattle.script.specs.Lines.{Said, operands_said, count_said, begun_said, line_said}
use Rattle.script.specs.Reads.{and_then}
use Rattle.script.specs.Verbs.{verb_of, operand_count}
use Rattle.script.specs.Words.{is_blank, ends_word, blank_count, word_length, unblanked, first_word, after_word, word_at}
use Rattle.script.specs.Writes.{trail, is_plain, is_word}
use Rattle.script.proofs.Splitting.{word_first}

wrong : {P : Type 0} → false ≡ true → P
wrong e = absurd (let z : ◌≡◌ {A = ℕ} 0 1 = ap (λ b. cond b 1 0) e in omega (arith, z))

plain_first : (b x : Bool) → cond b false x ≡ true → b ≡ false
plain_first true x h = wrong h
plain_first false x h = refl

plain_rest : (b x : Bool) → cond b false x ≡ true → x ≡ true
plain_rest true x h = wrong h
plain_rest false x h = h

fewer : (a b c d : Bool) → a || (b || (c || d)) ≡ false → a || (b || c) ≡ false
fewer true b c d h = h
fewer false true c d h = h
fewer false false true d h = h
fewer false false false d h = refl

not_blank : (c : ℕ) → ends_word c ≡ false → is_blank c ≡ false
not_blank c h = fewer (eqb c 32) (eqb c 9) (eqb c 13) (eqb c 35) h

plain_length : (w rest : List ℕ) → is_plain w ≡ true → word_length rest ≡ 0 → word_length (w ++ rest) ≡ length w
plain_length [] rest p e = e
plain_length (c ∷ cs) rest p e =
    word_first c (cs ++ rest) (plain_first (ends_word c) (is_plain cs) p) ∙ ap suc (plain_length cs rest (plain_rest (ends_word c) (is_plain cs) p) e)

trail_ends : (ws : List (List ℕ)) → word_length (trail ws) ≡ 0
trail_ends [] = refl
trail_ends (w ∷ ws) = refl

unblanked_word : (w rest : List ℕ) → is_word w ≡ true → unblanked (w ++ rest) ≡ w ++ rest
unblanked_word [] rest p = wrong p
unblanked_word (c ∷ cs) rest p =
    ap (λ b. drop (cond b (suc (blank_count (cs ++ rest))) 0) (c ∷ (cs ++ rest))) (not_blank c (plain_first (ends_word c) (is_plain cs) p))

word_plain : (w : List ℕ) → is_word w ≡ true → is_plain w ≡ true
word_plain [] p = refl
word_plain (c ∷ cs) p = p

first_front : (w : List ℕ) (ws : List (List ℕ)) → is_word w ≡ true → first_word (w ++ trail ws) ≡ w
first_front w ws p =
    ap (λ t. take (word_length t) t) (unblanked_word w (trail ws) p)
    ∙ ap (λ n. take n (w ++ trail ws)) (plain_length w (trail ws) (word_plain w p) (trail_ends ws))
    ∙ take_at w (trail ws) (length w) refl

after_front : (w : List ℕ) (ws : List (List ℕ)) → is_word w ≡ true → after_word (w ++ trail ws) ≡ trail ws
after_front w ws p =
    ap (λ t. drop (word_length t) t) (unblanked_word w (trail ws) p)
    ∙ ap (λ n. drop n (w ++ trail ws)) (plain_length w (trail ws) (word_plain w p) (trail_ends ws))
    ∙ drop_at w (trail ws) (length w) refl

abbrev pub AllWords : List (List ℕ) → Type 0
AllWords [] = Unit {0}
AllWords (w ∷ ws) = (is_word w ≡ true) × AllWords ws

trail_words : (ws : List (List ℕ)) (n : ℕ) → AllWords ws → word_at n (trail ws) ≡ get_or ws n []
trail_words [] zero a = refl
trail_words [] (suc n) a = trail_words [] n a
trail_words (w ∷ ws) zero a = first_front w ws a.0
trail_words (w ∷ ws) (suc n) a = ap (word_at n) (after_front w ws a.0) ∙ trail_words ws n a.1

pub words_of : (w : List ℕ) (ws : List (List ℕ)) (n : ℕ) → is_word w ≡ true → AllWords ws → word_at n (w ++ trail ws) ≡ get_or (w ∷ ws) n []
words_of w ws zero p a = first_front w ws p
words_of w ws (suc n) p a = ap (word_at n) (after_front w ws p) ∙ trail_words ws n a

filled : (w : List ℕ) → is_word w ≡ true → eqb (length w) 0 ≡ false
filled [] p = wrong p
filled (c ∷ cs) p = search rules

last_word : (w : List ℕ) (ws : List (List ℕ)) → is_word w ≡ true → AllWords ws → is_word (get_or (w ∷ ws) (length ws) []) ≡ true
last_word w [] p a = p
last_word w (x ∷ xs) p a = last_word x xs a.0 a.1

module _ (first : List ℕ) (ws : List (List ℕ)) (v : Verb) (p : is_word first ≡ true) (a : AllWords ws) (known : verb_of first ≡ Some v) (few : operand_count v ≡ length ws) where
  abbrev text : List ℕ
  text = first ++ trail ws

  counted : count_said v text ≡ Ok tt
  counted =
      ap (λ w. cond (eqb (length w) 0) (Err MissingWord) (cond (eqb (length (word_at (operand_count v + 1) text)) 0) (Ok tt) (Err ExtraWord)))
      (words_of first ws (operand_count v) p a ∙ ap (λ n. get_or (first ∷ ws) n []) few)
      ∙ ap (λ b. cond b (Err MissingWord) (cond (eqb (length (word_at (operand_count v + 1) text)) 0) (Ok tt) (Err ExtraWord)))
      (filled (get_or (first ∷ ws) (length ws) []) (last_word first ws p a))
      ∙ ap (λ w. cond (eqb (length w) 0) (Ok tt) (Err ExtraWord))
      (words_of first ws (operand_count v + 1) p a ∙ get_or_past (first ∷ ws) (operand_count v + 1) [] (omega (arith, few)))

  -- a line that is written by its words is read by them
  pub line_reads : (said : Said) → operands_said v text ≡ Ok said → line_said text ≡ Ok (Some said)
  line_reads said so =
      ap (λ w. cond (eqb (length w) 0) (Ok None) (begun_said (verb_of w) text)) (words_of first ws 0 p a)
      ∙ ap (λ b. cond b (Ok None) (begun_said (verb_of first) text)) (filled first p)
      ∙ ap (λ o. begun_said o text) known
      ∙ ap (λ r. and_then r (λ _. and_then (operands_said v text) (λ s. Ok (Some s)))) counted
      ∙ ap (λ r. and_then r (λ s. Ok (Some s))) so
