use Rattle.std.proofs.Common.{◌++◌, true, codes, sym, ap, ◌∙◌, subst, arith}
use Rattle.std.proofs.lemmas.Fmt.{hex_byte}
use Rattle.std.specs.Fmt.{HasWritten}
use Rattle.listing.specs.Lines.{word_text}
use Rattle.listing.proofs.lines.DigitsDisplay.fmt.Goals as goal

pub returns-in-One-clause-writes : goal.returns-in-One-clause-writes
returns-in-One-clause-writes g c =
    let w = rw (c.in_radix.ensures, c.laid_out.ensures) at c.write.ensures.writes in
    λ plain ok. subst (λ l. HasWritten g.W.Write.write_str_gives c.args.f.now l c.write.new.self)
    (ap (λ l. l ++ codes "  ") (hex_byte true c.in-One.a (omega arith)) ∙ ap word_text (sym c.in-One.is)) (w plain ok)

pub returns-in-Two-clause-writes : goal.returns-in-Two-clause-writes
returns-in-Two-clause-writes g c =
    let w = rw (c.in_radix-in-Two.ensures, c.laid_out-in-Two.ensures, c.in_radix-in-Two-2.ensures, c.laid_out-in-Two-2.ensures) at c.write-in-Two.ensures.writes in
    let high = hex_byte true c.in-Two.a (omega arith) in
    let low = hex_byte true c.in-Two.b (omega arith) in
    λ plain ok. subst (λ l. HasWritten g.W.Write.write_str_gives c.args.f.now l c.write-in-Two.new.self)
    ((λ i. high i ++ low i) ∙ ap word_text (sym c.in-Two.is)) (w plain ok)
