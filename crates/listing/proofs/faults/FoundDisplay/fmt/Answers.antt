use Rattle.std.proofs.Common.{◌≡◌, ◌++◌, codes, ap, ◌∙◌, subst, arith, rules}
use Rattle.std.specs.Fmt.{HasWritten}
use Rattle.isa.specs.Text.{hex_text}
use Rattle.isa.proofs.HexText.{two_digits}
use Rattle.listing.specs.Faults.{found_text}
use Rattle.listing.proofs.faults.FoundDisplay.fmt.Goals as goal

pub returns-else-is_ascii_graphic-clause-writes : goal.returns-else-is_ascii_graphic-clause-writes
returns-else-is_ascii_graphic-clause-writes g c =
    let w = rw (c.in_radix.ensures, c.laid_out.ensures) at c.write-else-is_ascii_graphic.ensures.writes in
    let b = c.args.self.now.0 in
    let unprinted : codes "byte " ++ hex_text 2 b ≡ found_text b = search rules in
    λ plain ok. subst (λ l. HasWritten g.W.Write.write_str_gives c.args.f.now l c.write-else-is_ascii_graphic.new.self)
    (ap (λ l. codes "byte 0x" ++ l) (two_digits b (omega arith)) ∙ unprinted) (w plain ok)
