-- What is left to check decides the whole. Assumes nothing.
use Rattle.std.proofs.Common.{◌≡◌, ◌+◌, ◌-◌, ◌%◌, ◌≤◌}
use Rattle.terminal.specs.Terminals.{addresses, cells_of, checked}
use Rattle.terminal.proofs.interval.Interval.check.Given as goal

abbrev pub invariant-loop-offset : goal.invariant-loop-offset
invariant-loop-offset g l =
    let cells = g.B.Bus.cells l.initial.bus in
    (checked cells (addresses ((l.self.first + l.offset) % 65536) (l.self.count - l.offset)) ≡ checked cells (cells_of l.self))
    × (l.offset ≤ l.self.count)
