use Rattle.std.proofs.Common.{◌%◌, ◌++◌, codes, ap, subst, arith}
use Rattle.std.specs.Fmt.{HasWritten}
use Rattle.isa.proofs.HexText.{three_digits}
use Rattle.listing.specs.Lines.{word_text, reading_text}
use Rattle.listing.proofs.lines.LineDisplay.fmt.Goals as goal

pub returns-clause-writes : goal.returns-clause-writes
returns-clause-writes g c =
    let w = rw (c.in_radix.ensures, c.laid_out.ensures) at c.write.ensures.writes in
    let line = c.args.self.now in
    λ plain ok. subst (λ l. HasWritten g.W.Write.write_str_gives c.args.f.now l c.write.new.self)
    (ap (λ l. codes "0x" ++ (l ++ (codes "  " ++ (word_text line.word ++ (codes "  " ++ reading_text line.reading))))) (three_digits (line.address % 4096) (omega arith))) (w plain ok)
