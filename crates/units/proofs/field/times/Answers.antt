use Rattle.std.proofs.Common.{◌≡◌, suc, ◌+◌, ◌-◌, ◌/◌, sym, ap, ◌∙◌, arith}
use lib.Bits.{bit_xor, xor_assoc, xor_zero_l, xor_zero_r}
use Rattle.units.specs.Field.{by_lowest_bit, doubled, product, product_of}
use Rattle.units.proofs.field.times.Goals as goal

pub loop-init : goal.loop-init
unfolding product
loop-init c = xor_zero_l (product_of 8 c.args.m c.args.b)

pub loop-preserved : goal.loop-preserved
loop-preserved c =
    let bits = c.loop.bits in
    let power = c.loop.power in
    let sum = c.loop.sum in
    let left : 8 - c.loop.counter ≡ suc (8 - (c.loop.counter + 1)) = omega arith in
    (λ j. bit_xor (bit_xor sum (c.by_lowest_bit-sum.ensures j)) (product_of (8 - (c.loop.counter + 1)) (bits / 2) (c.doubled-power.ensures j)))
    ∙ xor_assoc sum (by_lowest_bit bits power) (product_of (8 - (c.loop.counter + 1)) (bits / 2) (doubled power))
    ∙ ap (λ n. bit_xor sum (product_of n bits power)) (sym left)
    ∙ c.loop.invariant

pub returns : goal.returns
returns c =
    let none : 8 - c.loop.counter ≡ 0 = omega arith in
    sym (xor_zero_r c.loop.sum) ∙ ap (λ n. bit_xor c.loop.sum (product_of n c.loop.bits c.loop.power)) (sym none) ∙ c.loop.invariant
