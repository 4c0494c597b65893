use Rattle.std.proofs.Common.{◌+◌, ◌-◌, [], length, drop, Ok, Err, vec_items, sym, ap, ◌∙◌, subst, append-nil, arith}
use Rattle.std.proofs.lemmas.List.{at_drop_more, at_drop_all}
use Rattle.std.proofs.lemmas.Result.{err_from_is_err_and}
use Rattle.listing.specs.Hex.{ReadAs, before, paired}
use Rattle.listing.specs.Reader.{resumed}
use Rattle.listing.proofs.Reading.{fault_settles}
use Rattle.listing.proofs.hex.read_hex.Goals as goal

pub returns-in_err-take : goal.returns-in_err-take
returns-in_err-take c =
    let p = err_from_is_err_and c.from_residual.result c.from_residual.ensures.1 in
    let here = at_drop_more (resumed c.loop-at.reader c.loop-at.at) c.args.text.now c.loop-at.at 0 (omega arith) in
    let took = c.in_err-take.ensures.took (drop (c.loop-at.at + 1) c.args.text.now) in
    rw (p.1, p.2) (subst (ReadAs (Err c.in_err-take.field-0.0)) (sym here ∙ c.loop-at.invariant.1) (fault_settles c.in_err-take.field-0.0 _ _ took))

pub loop-at-preserved : goal.loop-at-preserved
loop-at-preserved c =
    let here = at_drop_more (resumed c.loop-at.reader c.loop-at.at) c.args.text.now c.loop-at.at 0 (omega arith) in
    let took = c.in_ok-take.ensures.took (drop (c.loop-at.at + 1) c.args.text.now) in
    (c.take.ensures.small, sym took ∙ sym here ∙ c.loop-at.invariant.1)

pub returns-in-Some : goal.returns-in-Some
returns-in-Some c =
    let end = at_drop_all (resumed c.loop-at.reader c.loop-at.at) c.args.text.now c.loop-at.at (omega arith) in
    let bs = vec_items c.loop-at.reader.bytes in
    sym c.loop-at.invariant.1 ∙ end ∙ ap (λ o. before bs (paired (4096 - length bs) o [])) c.in-Some.is

pub returns-in-None : goal.returns-in-None
returns-in-None c =
    let end = at_drop_all (resumed c.loop-at.reader c.loop-at.at) c.args.text.now c.loop-at.at (omega arith) in
    let bs = vec_items c.loop-at.reader.bytes in
    sym c.loop-at.invariant.1 ∙ end ∙ ap (λ o. before bs (paired (4096 - length bs) o [])) c.in-None.is ∙ ap (λ l. Ok l) (append-nil bs)
