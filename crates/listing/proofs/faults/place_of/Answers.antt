use Rattle.std.proofs.Common.{take, ap, ◌∙◌, arith}
use Rattle.std.proofs.lemmas.List.{take_all, take_min}
use Rattle.listing.specs.Faults.{past}
use Rattle.listing.proofs.Places.{past_more, within_more}
use Rattle.listing.proofs.faults.place_of.Goals as goal

pub loop-b-preserved : goal.loop-b-preserved
loop-b-preserved c = (
  past_more _ c.loop-b.place c.after-place.result (take c.min.result c.args.text.now) c.loop-b.b-index (omega arith) c.loop-b.invariant.0 c.after-place.ensures,
  within_more c.loop-b.place c.after-place.result _ c.loop-b.b-index c.after-place.ensures c.loop-b.invariant.1,
)

pub returns : goal.returns
returns c =
    let text = c.args.text.now in
    c.loop-b.invariant.0 ∙ ap (past (record { line = 0; column = 0 })) (take_all c.loop-b.b-index _ (omega arith) ∙ ap (λ n. take n text) c.min.ensures ∙ take_min c.args.at text)
