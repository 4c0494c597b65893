use Rattle.std.proofs.Common.{arith}
use Rattle.script.proofs.WrittenHex.{four_digits}
use Rattle.script.proofs.answers.StandingShownDisplay.fmt.Goals as goal

pub returns-clause-writes : goal.returns-clause-writes
returns-clause-writes g c =
    let s = c.args.self.now.0 in
    rw (
      c.in_radix.ensures,
      c.laid_out.ensures,
      four_digits s.sp (omega arith),
      c.in_radix-2.ensures,
      c.laid_out-2.ensures,
      four_digits s.enabled (omega arith),
      c.in_radix-3.ensures,
      c.laid_out-3.ensures,
      four_digits s.latched (omega arith),
      c.yes_no-handler.ensures,
    ) at c.write.ensures.writes
