-- The words of a line. Assumes nothing.
use Rattle.std.specs.Prelude.{ℕ, zero, suc, Bool, cond, ◌||◌, List, [], ◌∷◌, take, drop, ◌==◌}

-- a blank, a tab or a carriage return
abbrev pub is_blank : ℕ → Bool
is_blank c = c == 32 || (c == 9 || c == 13)

-- a word ends at a blank and at a comment, which # (35) begins
abbrev pub ends_word : ℕ → Bool
ends_word c = c == 32 || (c == 9 || (c == 13 || c == 35))

abbrev pub blank_count : List ℕ → ℕ
blank_count [] = 0
blank_count (c ∷ cs) = cond (is_blank c) (suc (blank_count cs)) 0

abbrev pub word_length : List ℕ → ℕ
word_length [] = 0
word_length (c ∷ cs) = cond (ends_word c) 0 (suc (word_length cs))

abbrev pub unblanked : List ℕ → List ℕ
unblanked text = drop (blank_count text) text

-- the first word; an empty one says that there is none
abbrev pub first_word : List ℕ → List ℕ
first_word text = take (word_length (unblanked text)) (unblanked text)

abbrev pub after_word : List ℕ → List ℕ
after_word text = drop (word_length (unblanked text)) (unblanked text)

-- the word that so many stand before
abbrev pub word_at : ℕ → List ℕ → List ℕ
word_at zero text = first_word text
word_at (suc n) text = word_at n (after_word text)
