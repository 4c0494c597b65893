use Rattle.std.proofs.Common.{◌≡◌, ◌-◌}
use lib.Bits.{bit_xor}
use Rattle.units.specs.Field.{product, product_of}
use Rattle.units.proofs.field.times.Given as goal

-- the sum so far, with the product of the bits that are left
abbrev pub invariant-loop : goal.invariant-loop
invariant-loop l = bit_xor l.sum (product_of (8 - l.counter) l.bits l.power) ≡ product l.m l.b
