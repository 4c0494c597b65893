-- The intervals of a script that are open, by their names. Assumes nothing.
use Rattle.std.specs.Prelude.{ℕ, List, bytes_eq, Option, Vec}
use Rattle.std.specs.BTreeMap.{BTreeMap}
use Rattle.std.specs.Map.{lookup, remove_entry}
use Rattle.std.specs.declared.alloc.Global.{Global}
use Rattle.terminal.specs.declared.interval.Interval.{Interval}

-- the interval whose name is exactly this
abbrev pub interval_of : List ℕ → BTreeMap (Vec ℕ Global) Interval → Option Interval
interval_of name intervals = lookup (λ n. bytes_eq name n.items) intervals.entries

-- what is left where the interval of this name is taken out
abbrev pub others : List ℕ → BTreeMap (Vec ℕ Global) Interval → List (Vec ℕ Global × Interval)
others name intervals = remove_entry (λ n. bytes_eq name n.items) intervals.entries
