use Rattle.std.proofs.Common.{ap, ◌∙◌}
use Rattle.units.specs.Field.{inverse}
use Rattle.units.specs.Sbox.{affine, substituted, restored}
use Rattle.units.proofs.Boxes.{substituted_restored}
use Rattle.units.proofs.Entries.{entry}
use Rattle.units.proofs.inverse_s_box.restore.Goals as goal

pub returns : goal.returns
unfolding restored substituted affine inverse
returns c =
    let b = c.args.b in
    let is = entry restored 256 b c.ranges.b.fits in
    record { entry = is; undone = ap substituted is ∙ substituted_restored b c.ranges.b.fits }
