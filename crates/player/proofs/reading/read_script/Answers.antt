use Rattle.std.proofs.Common.{[], ◌==◌, false, map, ap, sym, ◌∙◌, rules, arith}
use Rattle.std.proofs.iter.Serving.{serving}
use Rattle.std.proofs.lemmas.Iterator.Splits.{YieldsList-from_slice_split}
use Rattle.std.proofs.lemmas.Result.{err_from_is_err_and}
use Rattle.std.proofs.lemmas.List.Splits.{length-slice_split}
use Rattle.std.proofs.lemmas.List.Sums.{count_by-le-length}
use Rattle.std.specs.List.{slice_split}
use Rattle.player.specs.Answers.{numbered}
use Rattle.player.specs.Scripts.{begin, read_on}
use Rattle.player.proofs.SplitLines.{all_read, lines_split, stop, turn}
use Rattle.player.proofs.reading.read_script.Goals as goal

pub loop-line-init : goal.loop-line-init
loop-line-init c =
    let text = c.args.text.now in
    record {
      can_next = grind serving;
      finite = search rules;
      left = record {
        parts = slice_split (λ b. b == 10) text;
        yields = (YieldsList-from_slice_split _ (λ b. b == 10) text (search rules) (search rules) (search rules) (λ x b q k. search rules)).runs;
        read = ap (λ items. read_on (record { lines = map numbered items; number = 0; calls = false }) (slice_split (λ b. b == 10) text)) c.new.ensures.items ∙ sym (ap (read_on begin) (lines_split [] text));
        room = omega (arith, length-slice_split (λ b. b == 10) text, count_by-le-length (λ b. b == 10) text);
      };
    }

pub loop-line-preserved : goal.loop-line-preserved
loop-line-preserved c = record {
  can_next = search rules;
  finite = search rules;
  left = turn _ c.loop-line.line-iterator c.next.new.self c.in-Some.line c.loop-line.reading c.take.new.self c.args.text.now c.loop-line.invariant.left c.in-Some.ensures.steps c.in_ok-take.ensures.read c.in_ok-take.ensures.number;
}

pub returns-in_err-take : goal.returns-in_err-take
returns-in_err-take c =
    let p = err_from_is_err_and c.from_residual.result c.from_residual.ensures.1 in
    rw (p.1, p.2) (stop _ c.loop-line.line-iterator c.next.new.self c.in-Some.line c.loop-line.reading c.args.text.now c.in_err-take.field-0.0 c.loop-line.invariant.left c.in-Some.ensures.steps c.in_err-take.ensures.read)

pub returns : goal.returns
returns c = all_read _ c.loop-line.line-iterator c.next.new.self c.loop-line.reading c.args.text.now c.loop-line.invariant.left c.in-None.ensures.steps
