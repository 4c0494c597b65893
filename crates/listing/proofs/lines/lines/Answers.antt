use Rattle.std.proofs.Common.{◌≡◌, ◌+◌, ◌-◌, ◌≤◌, ◌++◌, length, drop, slice_get, vec_items, ap, ◌∙◌, length-append, arith, rules}
use Rattle.std.proofs.lemmas.List.{length-drop}
use Rattle.listing.specs.Lines.{lines_of, bytes_of}
use Rattle.listing.proofs.Listing.{line_more, kept}
use Rattle.listing.proofs.lines.lines.Goals as goal

pub loop-left-preserved : goal.loop-left-preserved
loop-left-preserved c =
    let program = c.args.program.now in
    let left = c.loop-left.left.now in
    let n = c.size.result in
    let new = vec_items c.push.new.self in
    let next = c.copied.ensures ∙ c.first.ensures.value ∙ ap (λ l. slice_get l 0) (kept 1 left) in
    let more = line_more _ left c.copied.result (vec_items c.loop-left.lines) new _ _ c.line_at-line.result n c.in-len1-up.len_at_least next c.line_at-line.ensures c.size.ensures c.in_ok-push.ensures.items c.loop-left.invariant.0 c.loop-left.invariant.1 in
    let short : n ≤ length left = search rules in
    let at : length program - length (drop n left) ≡ length program - length left + n = omega (arith, length-drop n left, ap length c.loop-left.invariant.1, length-append (bytes_of (vec_items c.loop-left.lines)) left) in (
      (λ i. new ++ lines_of (length program - length (kept n left i)) (kept n left i)) ∙ ap (λ k. new ++ lines_of k (drop n left)) at ∙ more.0,
      ap (λ l. bytes_of new ++ l) (kept n left) ∙ more.1,
    )
