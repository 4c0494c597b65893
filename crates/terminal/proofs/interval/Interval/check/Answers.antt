-- One cell more, or the first that is refused. Assumes nothing.
use Rattle.std.proofs.Common.{ℕ, ◌+◌, ◌-◌, ◌%◌, Result, sym, ap, ◌∙◌, arith}
use Rattle.terminal.specs.Terminals.{addresses, and_then, checked}
use Rattle.terminal.proofs.Intervals.{from_offset}
use Rattle.terminal.proofs.interval.Interval.check.Goals as goal

pub loop-offset-preserved : goal.loop-offset-preserved
loop-offset-preserved g c =
    let s = c.args.self.now in
    let k = c.loop-offset.offset in
    let cells = g.B.Bus.cells c.args.bus.now in (
      ap (λ (r : Result (Unit {0}) ℕ). and_then r (λ _. checked cells (addresses ((s.first + (k + 1)) % 65536) (s.count - (k + 1))))) c.in_ok-plain.ensures
          ∙ sym (ap (checked cells) (from_offset s.first s.count k c.loop-offset-test.true)) ∙ c.loop-offset.invariant.0,
      omega (arith, c.loop-offset-test.true),
    )
