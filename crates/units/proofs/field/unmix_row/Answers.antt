use Rattle.units.proofs.Mixing.{mixing_undone}
use Rattle.units.proofs.field.unmix_row.Goals as goal

pub returns-clause-undone : goal.returns-clause-undone
returns-clause-undone c = mixing_undone
