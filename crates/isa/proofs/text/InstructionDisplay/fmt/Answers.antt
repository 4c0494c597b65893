use Rattle.std.proofs.Common.{◌++◌, codes, sym, ap, ◌∙◌, subst, arith}
use Rattle.std.specs.Fmt.{HasWritten}
use Rattle.isa.specs.Text.{instruction_text, register_text}
use Rattle.isa.proofs.HexText.{two_digits, four_digits}
use Rattle.isa.proofs.text.InstructionDisplay.fmt.Goals as goal

pub returns-in-Mvs-clause-writes : goal.returns-in-Mvs-clause-writes
returns-in-Mvs-clause-writes g c =
    let w = rw (c.in_radix.ensures, c.laid_out.ensures) at c.write.ensures.writes in
    λ plain ok. subst (λ l. HasWritten g.W.Write.write_str_gives c.args.f.now l c.write.new.self)
    (ap (λ l. codes "mvs 0x" ++ l) (four_digits c.in-Mvs.top (omega arith)) ∙ ap instruction_text (sym c.in-Mvs.is)) (w plain ok)

pub returns-in-Mvi-clause-writes : goal.returns-in-Mvi-clause-writes
returns-in-Mvi-clause-writes g c =
    let w = rw (c.in_radix-in-Mvi.ensures, c.laid_out-in-Mvi.ensures) at c.write-in-Mvi.ensures.writes in
    λ plain ok. subst (λ l. HasWritten g.W.Write.write_str_gives c.args.f.now l c.write-in-Mvi.new.self)
    (ap (λ l. codes "mvi 0x" ++ (l ++ (codes ", " ++ register_text c.in-Mvi.dst))) (two_digits c.in-Mvi.byte (omega arith)) ∙ ap instruction_text (sym c.in-Mvi.is)) (w plain ok)

pub returns-in-Sys-clause-writes : goal.returns-in-Sys-clause-writes
returns-in-Sys-clause-writes g c =
    let w = rw (c.in_radix-in-Sys.ensures, c.laid_out-in-Sys.ensures) at c.write-in-Sys.ensures.writes in
    λ plain ok. subst (λ l. HasWritten g.W.Write.write_str_gives c.args.f.now l c.write-in-Sys.new.self)
    (ap (λ l. codes "sys 0x" ++ l) (two_digits c.in-Sys.byte (omega arith)) ∙ ap instruction_text (sym c.in-Sys.is)) (w plain ok)
