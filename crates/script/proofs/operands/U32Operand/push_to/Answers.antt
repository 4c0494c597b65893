use Rattle.std.proofs.Common.{◌∷◌, vec_items, ◌∙◌, subst, arith}
use Rattle.script.specs.Writes.{Adds, number_text}
use Rattle.script.proofs.WrittenHex.{four_bytes}
use Rattle.script.proofs.operands.U32Operand.push_to.Goals as goal

pub returns : goal.returns
returns c =
    subst (λ l. Adds (vec_items c.args.text.now) (vec_items c.push_number.new.text) c.push_number.result (32 ∷ number_text l))
    (c.to_be_bytes.ensures ∙ four_bytes c.args.self (omega arith))
    c.push_number.ensures
