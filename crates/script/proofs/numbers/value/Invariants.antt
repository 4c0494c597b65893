use Rattle.std.proofs.Common.{◌≡◌, ◌≤◌, drop}
use Rattle.script.specs.Numbers.{capped, value_from}
use Rattle.script.proofs.numbers.value.Given as goal

-- what is left of the digits gives what all say, up to the cap
abbrev pub invariant-loop-b : goal.invariant-loop-b
invariant-loop-b l = (l.value ≤ 4294967296) × (capped (value_from l.base l.value (drop l.b-index l.digits)) ≡ capped (value_from l.base 0 l.digits))
