use Rattle.std.proofs.Common.{sym, ◌∙◌, arith}
use Rattle.script.proofs.Values.{digit_more, digit_none, digits_all}
use Rattle.script.proofs.numbers.value.Goals as goal

pub returns-in_err-digit : goal.returns-in_err-digit
returns-in_err-digit c = c.from_residual.ensures ∙ digit_none c.args.base c.args.digits.now c.loop-b.value c.loop-b.b-index _ (omega arith) c.loop-b.invariant.1 (sym c.in_err-digit.ensures.value)

pub loop-b-preserved : goal.loop-b-preserved
loop-b-preserved c = (
  omega arith,
  digit_more c.args.base c.args.digits.now c.loop-b.value c.loop-b.b-index _ (omega arith) c.loop-b.invariant.1
      c.in_ok-digit.digit c.min-value.result (sym c.in_ok-digit.ensures.value)
      (rw (sym c.radix.ensures.value, sym c.from.ensures, sym c.from-in-loop-b.ensures) c.min-value.ensures),
)

pub returns : goal.returns
returns c = digits_all c.args.base c.args.digits.now c.loop-b.value c.loop-b.b-index _ (omega arith) c.loop-b.invariant.0 c.loop-b.invariant.1
