-- One cell more. Assumes nothing.
use Rattle.std.proofs.Common.{◌+◌, ◌-◌, ◌%◌, sym, ap, ◌∙◌, arith}
use Rattle.buses.specs.Cells.{Cells}
use Rattle.terminal.specs.Terminals.{addresses, lifted}
use Rattle.terminal.proofs.Intervals.{from_offset}
use Rattle.terminal.proofs.interval.Interval.lift.Goals as goal

pub loop-offset-preserved : goal.loop-offset-preserved
loop-offset-preserved g c =
    let s = c.args.self.now in
    let k = c.loop-offset.offset in (
      ap (λ (cs : Cells). lifted cs (addresses ((s.first + (k + 1)) % 65536) (s.count - (k + 1)))) c.lift.ensures.cells
          ∙ sym (ap (lifted (g.B.Bus.cells c.loop-offset.bus)) (from_offset s.first s.count k c.loop-offset-test.true)) ∙ c.loop-offset.invariant.0,
      c.lift.ensures.hidden ∙ c.loop-offset.invariant.1,
      omega (arith, c.loop-offset-test.true),
    )
