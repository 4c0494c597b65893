-- One character more of a word. Assumes nothing.
use Rattle.std.proofs.Common.{◌≡◌, ℕ, suc, ◌+◌, ◌≤◌, Bool, true, false, not, cond, List, [], ◌∷◌, length, Some, None, Option, refl, ap, sym, ◌∙◌, arith, nat_lt, rules}
use Rattle.std.specs.List.{position_or_len}
use Rattle.std.specs.Option.{unwrap_or}
use Rattle.std.proofs.lemmas.List.Recursion.{is_position_or_len}
use Rattle.std.proofs.lemmas.List.Sums.{prefix_len-le-length}
use Rattle.script.specs.Words.{is_blank, ends_word, blank_count, word_length}

or_length : (n m : ℕ) → n ≤ m → unwrap_or (cond (nat_lt n m) (Some n) None) m ≡ n
or_length n m h = search rules

-- what `position` answers, or the length, is what a definition by recursion counts
pub counted : (count : List ℕ → ℕ) (test : ℕ → Bool) (text : List ℕ) → count [] ≡ 0 → ((c : ℕ) (cs : List ℕ) → count (c ∷ cs) ≡ cond (test c) 0 (1 + count cs)) →
    (place : Option ℕ) {n : ℕ} → place ≡ cond (nat_lt (position_or_len test text) (length text)) (Some (position_or_len test text)) None → n ≡ unwrap_or place (length text) → n ≡ count text
counted count test text none more place e h =
    h
    ∙ ap (λ o. unwrap_or o (length text)) e
    ∙ or_length (position_or_len test text) (length text) (prefix_len-le-length (λ x. not (test x)) text)
    ∙ sym (is_position_or_len count test none more text)

pub blanks_first : (c : ℕ) (cs : List ℕ) → blank_count (c ∷ cs) ≡ cond (not (is_blank c)) 0 (1 + blank_count cs)
blanks_first c cs = other (is_blank c)
  where
    other : (b : Bool) → cond b (suc (blank_count cs)) 0 ≡ cond (not b) 0 (1 + blank_count cs)
    other true = let e : suc (blank_count cs) ≡ 1 + blank_count cs = omega arith in e
    other false = refl

pub letters_first : (c : ℕ) (cs : List ℕ) → word_length (c ∷ cs) ≡ cond (ends_word c) 0 (1 + word_length cs)
letters_first c cs = ap (cond (ends_word c) 0) (let e : suc (word_length cs) ≡ 1 + word_length cs = omega arith in e)

pub word_first : (c : ℕ) (cs : List ℕ) → ends_word c ≡ false → word_length (c ∷ cs) ≡ suc (word_length cs)
word_first c cs h = ap (λ b. cond b 0 (suc (word_length cs))) h
