use Rattle.std.proofs.Common.{◌≡◌, ◌<◌, length, set, ◌∙◌, rules}
use Rattle.buses.specs.Memories.{store_cells}
use Rattle.buses.proofs.Stores.{written, takes}
use Rattle.buses.proofs.store.StoreBus.write.Goals as goal

pub returns-clause-cells : goal.returns-clause-cells
returns-clause-cells c =
    let bytes = c.args.self.now.bytes.now in
    let marks = c.args.self.now.marks.now in
    let a = c.args.address in
    let value = c.args.value in
    let h : a < length bytes = search rules in
    let k : a < length marks = search rules in
    let same : c.in_ok-at.at ≡ a = search rules in
    (λ i. store_cells (set bytes (same i) value.byte) (set marks (same i) (c.into.ensures i))) ∙ written bytes marks a value.byte value.mark h k ∙ takes bytes marks a value h k
