-- So far the pairs below this one are copied. Assumes nothing.
use Rattle.std.proofs.Common.{◌≡◌, ◌≤◌}
use Rattle.cpu.specs.Instructions.{pairs_copied}
use Rattle.cpu.proofs.interrupts.copy_pairs.Given as goal

abbrev pub invariant-loop-pair : goal.invariant-loop-pair
invariant-loop-pair l = (l.target ≡ pairs_copied l.pair l.source l.initial.target) × (l.source ≡ l.initial.source) × (l.pair-end ≡ l.initial.pair-end) × (l.pair ≤ l.pair-end)
