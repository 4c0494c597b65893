use Rattle.std.proofs.Common.{◌∷◌, subst}
use Rattle.std.specs.Fmt.{HasWritten}
use Rattle.script.proofs.WrittenHex.{last_three}
use Rattle.script.proofs.text.HexPlaceDisplay.fmt.Goals as goal

pub returns-clause-writes : goal.returns-clause-writes
returns-clause-writes g c =
    let w = rw (c.in_radix.ensures, c.laid_out.ensures) at c.write.ensures.writes in
    λ plain ok. subst (λ l. HasWritten g.W.Write.write_str_gives c.args.f.now (48 ∷ 120 ∷ l) c.write.new.self) (last_three c.args.self.now.0) (w plain ok)
