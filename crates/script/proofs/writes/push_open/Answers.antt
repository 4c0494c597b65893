use Rattle.std.proofs.Common.{[], ◌∷◌, vec_items}
use Rattle.script.specs.Writes.{seal_text, u16_text}
use Rattle.script.proofs.Trails.{push_then, push_last, on_ok}
use Rattle.script.proofs.writes.push_open.Goals as goal

pub returns : goal.returns
returns c =
    let seal = seal_text c.args.seal in
    let first = u16_text c.args.first in
    let count = u16_text c.args.count in
    let old = vec_items c.args.text.now in
    let named = vec_items c.push_word.new.text in
    let sealed = vec_items c.push_to.new.text in
    let begun = vec_items c.push_to-2.new.text in
    let new = vec_items c.push_to-3.new.text in
    on_ok c.push_to-3.result c.push_to-3.ensures (λ e.
    push_then old c.args.name.now (seal ∷ (first ∷ (count ∷ []))) {mid = named} {new = new} c.in_ok-push_word.ensures
    (push_then named seal (first ∷ (count ∷ [])) {mid = sealed} {new = new} c.in_ok-push_to.ensures
    (push_then sealed first (count ∷ []) {mid = begun} {new = new} c.in_ok-push_to-2.ensures (push_last begun count {new = new} e))))
