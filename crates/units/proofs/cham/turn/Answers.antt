use Rattle.std.proofs.Common.{◌≡◌, ◌/◌, ◌%◌, ◌∷◌, [], slice_index, ap, ◌∙◌, arith}
use Rattle.units.specs.Cham.{turned_byte, turned_left, word_of}
use Rattle.units.proofs.cham.turn.Goals as goal

pub returns : goal.returns
unfolding turned_byte
returns c =
    let at = slice_index c.args.bytes in
    let word = word_of (at 0) (at 1) (at 2) (at 3) in
    let same : c.from_le_bytes.result ≡ word = c.from_le_bytes.ensures ∙ omega arith in
    let is : c.rotate_left.result ≡ turned_left c.args.amount word = c.rotate_left.ensures ∙ ap (turned_left c.args.amount) same in
    let low : c.rotate_left.result % 256 ≡ c.rotate_left.result / 1 % 256 = omega arith in
    c.to_le_bytes.ensures ∙ (λ i. (low ∙ ap (λ n. n / 1 % 256) is) i ∷ is i / 256 % 256 ∷ is i / 65536 % 256 ∷ is i / 16777216 % 256 ∷ [])
