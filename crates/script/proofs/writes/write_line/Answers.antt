use Rattle.std.proofs.Common.{◌≡◌, vec_items, ap, ◌∙◌}
use Rattle.script.specs.Labels.{first_of}
use Rattle.script.specs.Lines.{said_of, line_said}
use Rattle.script.specs.Writes.{operand_words, written_of}
use Rattle.script.proofs.Lawful.{lawful}
use Rattle.script.proofs.Trails.{begun}
use Rattle.script.proofs.writes.write_line.Goals as goal

pub returns : goal.returns
returns c =
    let said = said_of c.args.line.now in
    let whole : vec_items c.push_operands.new.text ≡ written_of (said_of c.args.line.now) =
    begun (first_of said) (vec_items c.in_ok-text.text) (vec_items c.push_operands.new.text) (operand_words said)
    (c.in_ok-text.ensures.items ∙ c.as_bytes.ensures.value ∙ c.first_word.ensures)
    c.in_ok-push_operands.ensures.text in
    record { text = whole; read_back = λ w. ap line_said whole ∙ lawful said c.in_ok-push_operands.ensures.fits w }
