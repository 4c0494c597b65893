-- A cell of an interval that was checked is plain, and takes every byte. Assumes nothing.
use Rattle.std.proofs.Common.{◌≡◌, ℕ, ◌+◌, ◌%◌, Ok, sym, ap, ◌∙◌, subst, arith}
use Rattle.buses.specs.Cells.{write_cell}
use Rattle.terminal.specs.Terminals.{is_plain, left, told}
use Rattle.terminal.proofs.Intervals.{checked_plain, entered_is, offset_cell, passes, plain_takes, written_left, written_told}
use Rattle.terminal.proofs.interval.Interval.enter.Goals as goal

pub returns-clause-told : goal.returns-clause-told
returns-clause-told g c =
    let s = c.args.self.now in
    let k = c.args.offset in
    let m = c.args.value in
    let cells = g.B.Bus.cells c.args.bus.now in
    let a = (s.first + k) % 65536 in
    let all = sym c.in_ok-check.ensures in
    let here = subst (λ (n : ℕ). is_plain (cells n) ≡ Ok tt) (offset_cell s.first s.count k s.first (omega arith) c.requires) (checked_plain cells s.first s.count k s.first c.requires all) in
    let takes = plain_takes (cells a) m here in
    passes c.write.result c.map_err.result (c.write.ensures.told ∙ takes) c.map_err.ensures.variant
    ∙ sym (ap told (entered_is cells s.first s.count k m (omega arith) c.requires all) ∙ written_told cells a (write_cell (cells a) m) ∙ takes)

pub returns-clause-bus : goal.returns-clause-bus
returns-clause-bus g c =
    let s = c.args.self.now in
    let m = c.args.value in
    let cells = g.B.Bus.cells c.args.bus.now in
    let a = (s.first + c.args.offset) % 65536 in
    record {
      cells = c.write.ensures.cells ∙ sym (ap (left cells) (entered_is cells s.first s.count c.args.offset m (omega arith) c.requires (sym c.in_ok-check.ensures)) ∙ written_left cells a (write_cell (cells a) m));
      hidden = c.write.ensures.hidden;
    }
