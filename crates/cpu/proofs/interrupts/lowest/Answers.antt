-- In a set that is not empty, the count of trailing zeros finds the lowest line. Assumes nothing.
use Rattle.std.proofs.Common.{◌≡◌, ◌+◌, Some, sym, ap, ◌∙◌, arith}
use borrow.Author.Numbers.{trailing_lt}
use lib.Count.{count_trailing_zeros}
use Rattle.cpu.proofs.Lines.{lowest_trailing}
use Rattle.cpu.proofs.interrupts.lowest.Goals as goal

pub returns : goal.returns
returns c =
    let lines = c.args.lines in
    let same : count_trailing_zeros 16 lines ≡ 0 + count_trailing_zeros 16 lines = omega arith in
    ap Some same ∙ sym (lowest_trailing 16 0 lines lines (omega arith) (trailing_lt 16 lines (omega arith) (omega (arith, c.ranges.lines.fits))))
