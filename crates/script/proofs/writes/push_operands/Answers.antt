use Rattle.std.proofs.Common.{[], ◌∷◌, vec_items, subst}
use Rattle.script.specs.Writes.{Adds, seal_text, u8_text, u16_text, trail}
use Rattle.script.proofs.Trails.{pushed_for}
use Rattle.script.proofs.writes.push_operands.Goals as goal

pub returns-in-Put-clause-text : goal.returns-in-Put-clause-text
returns-in-Put-clause-text c = pushed_for c.push_put.result (vec_items c.args.text.now) (vec_items c.push_put.new.text) c.in-Put.is c.push_put.ensures

pub returns-in-Open-clause-text : goal.returns-in-Open-clause-text
returns-in-Open-clause-text c =
    pushed_for c.push_open.result (vec_items c.args.text.now) (vec_items c.push_open.new.text) c.in-Open.is
    (subst (λ n. Adds (vec_items c.args.text.now) (vec_items c.push_open.new.text) c.push_open.result (trail (n ∷ (seal_text c.in-Open.seal ∷ (u16_text c.in-Open.first ∷ (u16_text c.in-Open.count ∷ [])))))) c.deref-in-Open.ensures.value c.push_open.ensures)

pub returns-in-Entry-clause-text : goal.returns-in-Entry-clause-text
returns-in-Entry-clause-text c =
    pushed_for c.push_entry.result (vec_items c.args.text.now) (vec_items c.push_entry.new.text) c.in-Entry.is
    (subst (λ n. Adds (vec_items c.args.text.now) (vec_items c.push_entry.new.text) c.push_entry.result (trail (n ∷ (u16_text c.in-Entry.offset ∷ (u8_text c.in-Entry.byte ∷ []))))) c.deref-in-Entry.ensures.value c.push_entry.ensures)
