use Rattle.std.proofs.Common.{◌++◌, vec_items, ap, ◌∙◌, arith}
use Rattle.std.proofs.lemmas.List.{take_all}
use Rattle.script.specs.Text.{hex_of}
use Rattle.script.proofs.WrittenHex.{hex_more}
use Rattle.script.proofs.writes.push_hex.Goals as goal

pub loop-b-preserved : goal.loop-b-preserved
loop-b-preserved c =
    hex_more c.args.bytes.now c.loop-b.b-index
    (vec_items c.args.text.now) (vec_items c.loop-b.text) (vec_items c.push.new.self) (vec_items c.push-in-loop-b.new.self)
    c.hex_digit.result c.hex_digit-in-loop-b.result
    (omega arith) c.loop-b.invariant c.hex_digit.ensures c.hex_digit-in-loop-b.ensures
    c.in_ok-push.ensures.items c.in_ok-push-2.ensures.items

pub returns : goal.returns
returns c = c.loop-b.invariant ∙ ap (λ l. vec_items c.args.text.now ++ hex_of l) (take_all c.loop-b.b-index c.args.bytes.now (omega arith))
