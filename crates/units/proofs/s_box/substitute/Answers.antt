use Rattle.std.proofs.Common.{ap, ◌∙◌}
use Rattle.units.specs.Field.{inverse}
use Rattle.units.specs.Sbox.{affine, substituted, restored}
use Rattle.units.proofs.Boxes.{restored_substituted, inverse_law}
use Rattle.units.proofs.Entries.{entry}
use Rattle.units.proofs.s_box.substitute.Goals as goal

pub returns : goal.returns
unfolding restored substituted affine inverse
returns c =
    let b = c.args.b in
    let is = entry substituted 256 b c.ranges.b.fits in
    record { entry = is; undone = ap restored is ∙ restored_substituted b c.ranges.b.fits; inverses = inverse_law }
