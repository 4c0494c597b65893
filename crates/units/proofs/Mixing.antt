-- Mixing a column back undoes mixing it. Assumes nothing.
use Rattle.std.proofs.Common.{◌≡◌, ℕ, ◌<◌, sym, ap, ◌∙◌, arith}
use lib.Bits.{bit_xor, xor_zero_l, xor_zero_r}
use Rattle.units.specs.Columns.{mix_row, unmix_row}
use Rattle.units.specs.Field.{product}
use Rattle.units.specs.Undone.{MixingUndone}
use Rattle.units.proofs.Entries.{entry}
use Rattle.units.proofs.Linear.{swap, byte_xor, product_xor, product_byte}

-- a sum of four, of sums
four : (x x' y y' z z' w w' : ℕ) → bit_xor (bit_xor (bit_xor (bit_xor x x') (bit_xor y y')) (bit_xor z z')) (bit_xor w w') ≡ bit_xor (bit_xor (bit_xor (bit_xor x y) z) w) (bit_xor (bit_xor (bit_xor x' y') z') w')
four x x' y y' z z' w w' =
    ap (λ n. bit_xor (bit_xor n (bit_xor z z')) (bit_xor w w')) (swap x x' y y')
    ∙ ap (λ n. bit_xor n (bit_xor w w')) (swap (bit_xor x y) (bit_xor x' y') z z')
    ∙ swap (bit_xor (bit_xor x y) z) (bit_xor (bit_xor x' y') z') w w'

module _ (a a' b b' c c' d d' : ℕ) (ha : a < 256) (ha' : a' < 256) (hb : b < 256) (hb' : b' < 256) (hc : c < 256) (hc' : c' < 256) (hd : d < 256) (hd' : d' < 256) where
  mix_xor : mix_row (bit_xor a a') (bit_xor b b') (bit_xor c c') (bit_xor d d') ≡ bit_xor (mix_row a b c d) (mix_row a' b' c' d')
  mix_xor =
      (λ i. bit_xor (bit_xor (bit_xor (product_xor 2 a a' ha ha' i) (product_xor 3 b b' hb hb' i)) (bit_xor c c')) (bit_xor d d'))
      ∙ four (product 2 a) (product 2 a') (product 3 b) (product 3 b') c c' d d'

  unmix_xor : unmix_row (bit_xor a a') (bit_xor b b') (bit_xor c c') (bit_xor d d') ≡ bit_xor (unmix_row a b c d) (unmix_row a' b' c' d')
  unmix_xor =
      (λ i. bit_xor (bit_xor (bit_xor (product_xor 14 a a' ha ha' i) (product_xor 11 b b' hb hb' i)) (product_xor 13 c c' hc hc' i)) (product_xor 9 d d' hd hd' i))
      ∙ four (product 14 a) (product 14 a') (product 11 b) (product 11 b') (product 13 c) (product 13 c') (product 9 d) (product 9 d')

mix_byte : (a b c d : ℕ) → a < 256 → b < 256 → c < 256 → d < 256 → mix_row a b c d < 256
mix_byte a b c d ha hb hc hd = byte_xor _ d (byte_xor _ c (byte_xor _ _ (product_byte 2 a ha) (product_byte 3 b hb)) hc) hd

-- the first byte of a column that is mixed and mixed back
abbrev round : ℕ → ℕ → ℕ → ℕ → ℕ
round p q r s = unmix_row (mix_row p q r s) (mix_row q r s p) (mix_row r s p q) (mix_row s p q r)

round_xor : (p p' q q' r r' s s' : ℕ) → p < 256 → p' < 256 → q < 256 → q' < 256 → r < 256 → r' < 256 → s < 256 → s' < 256 →
    round (bit_xor p p') (bit_xor q q') (bit_xor r r') (bit_xor s s') ≡ bit_xor (round p q r s) (round p' q' r' s')
round_xor p p' q q' r r' s s' hp hp' hq hq' hr hr' hs hs' =
    (λ i.
    unmix_row (mix_xor p p' q q' r r' s s' hp hp' hq hq' hr hr' hs hs' i) (mix_xor q q' r r' s s' p p' hq hq' hr hr' hs hs' hp hp' i)
    (mix_xor r r' s s' p p' q q' hr hr' hs hs' hp hp' hq hq' i) (mix_xor s s' p p' q q' r r' hs hs' hp hp' hq hq' hr hr' i))
    ∙ unmix_xor (mix_row p q r s) (mix_row p' q' r' s') (mix_row q r s p) (mix_row q' r' s' p') (mix_row r s p q) (mix_row r' s' p' q') (mix_row s p q r) (mix_row s' p' q' r')
    (mix_byte p q r s hp hq hr hs) (mix_byte p' q' r' s' hp' hq' hr' hs') (mix_byte q r s p hq hr hs hp) (mix_byte q' r' s' p' hq' hr' hs' hp')
    (mix_byte r s p q hr hs hp hq) (mix_byte r' s' p' q' hr' hs' hp' hq') (mix_byte s p q r hs hp hq hr) (mix_byte s' p' q' r' hs' hp' hq' hr')

-- columns with one byte, at every byte
first_alone : (n : ℕ) → n < 256 → round n 0 0 0 ≡ n
unfolding product
first_alone n h = sym (entry (λ k. round k 0 0 0) 256 n h) ∙ entry (λ k. k) 256 n h

second_alone : (n : ℕ) → n < 256 → round 0 n 0 0 ≡ 0
unfolding product
second_alone n h = sym (entry (λ k. round 0 k 0 0) 256 n h) ∙ entry (λ k. 0) 256 n h

third_alone : (n : ℕ) → n < 256 → round 0 0 n 0 ≡ 0
unfolding product
third_alone n h = sym (entry (λ k. round 0 0 k 0) 256 n h) ∙ entry (λ k. 0) 256 n h

fourth_alone : (n : ℕ) → n < 256 → round 0 0 0 n ≡ 0
unfolding product
fourth_alone n h = sym (entry (λ k. round 0 0 0 k) 256 n h) ∙ entry (λ k. 0) 256 n h

-- every column is a sum of those
pub mixing_undone : MixingUndone
mixing_undone p q r s hp hq hr hs =
    (λ i. round (sym (xor_zero_r p) i) (sym (xor_zero_l q) i) (sym (xor_zero_l r) i) (sym (xor_zero_l s) i))
    ∙ round_xor p 0 0 q 0 r 0 s hp o o hq o hr o hs
    ∙ (λ i. bit_xor (first_alone p hp i) (rest i))
    ∙ xor_zero_r p where
      o : 0 < 256
      o = omega arith

      last : round 0 0 r s ≡ 0
      last =
          (λ i. round 0 0 (sym (xor_zero_r r) i) (sym (xor_zero_l s) i))
          ∙ round_xor 0 0 0 0 r 0 0 s o o o o hr o o hs
          ∙ (λ i. bit_xor (third_alone r hr i) (fourth_alone s hs i))

      rest : round 0 q r s ≡ 0
      rest =
          (λ i. round 0 (sym (xor_zero_r q) i) (sym (xor_zero_l r) i) (sym (xor_zero_l s) i))
          ∙ round_xor 0 0 q 0 0 r 0 s o o hq o o hr o hs
          ∙ (λ i. bit_xor (second_alone q hq i) (last i))
