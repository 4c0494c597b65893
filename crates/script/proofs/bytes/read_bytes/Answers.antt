use Rattle.std.proofs.Common.{vec_items, arith, rules}
use Rattle.std.proofs.lemmas.Bool.Decides.{nat_tests}
use Rattle.script.proofs.Pairs.{byte_more, byte_none, byte_odd, bytes_all, shorter}
use Rattle.script.proofs.bytes.read_bytes.Goals as goal

pub returns-in_err-ok_or : goal.returns-in_err-ok_or
returns-in_err-ok_or c = search (rules, byte_none c.loop-rest.rest.now (vec_items c.loop-rest.bytes) _ c.loop-rest.invariant)

pub loop-rest-smaller : goal.loop-rest-smaller
loop-rest-smaller c = shorter c.loop-rest.rest.now (omega arith)

pub loop-rest-preserved : goal.loop-rest-preserved
loop-rest-preserved c =
    byte_more c.loop-rest.rest.now (vec_items c.loop-rest.bytes) _ c.loop-rest.invariant
    c.in_ok-ok_or.field-0 (vec_items c.push.new.self) (omega arith) (search rules) c.in_ok-push.ensures.items

pub returns-then-is_empty : goal.returns-then-is_empty
returns-then-is_empty c = bytes_all c.loop-rest.rest.now (vec_items c.loop-rest.bytes) _ c.loop-rest.invariant (grind (arith, nat_tests))

pub returns-else-is_empty : goal.returns-else-is_empty
returns-else-is_empty c = rw (c.into.ensures) (byte_odd c.loop-rest.rest.now (vec_items c.loop-rest.bytes) _ c.loop-rest.invariant (grind (arith, nat_tests)) (omega arith))
