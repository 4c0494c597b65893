-- What a map asks of a name by order is what is asked of it by bytes. Assumes nothing.
use Rattle.std.proofs.Common.{◌≡◌, ℕ, List, Vec, bytes_eq, nat_cmp, sym}
use Rattle.std.proofs.lemmas.Map.Text.{is_eq-slice_cmp}
use Rattle.std.proofs.lemmas.Map.Lookups.{exact_bytes}
use Rattle.std.specs.Cmp.Lexicographic.{slice_cmp}
use Rattle.std.specs.declared.cmp.Ordering.TheVariants.{Equal}
use Rattle.std.specs.BTreeMap.{is_at}
use Rattle.std.specs.Map.{lookup, remove_entry}
use Rattle.std.specs.declared.alloc.Global.{Global}
use Rattle.terminal.specs.declared.interval.Interval.{Interval}

pub named : (name : List ℕ) (entries : List (Vec ℕ Global × Interval)) → lookup (is_at (λ n. slice_cmp nat_cmp name n.items)) entries ≡ lookup (λ n. bytes_eq name n.items) entries
named name entries = λ i. lookup (λ n. is_eq-slice_cmp name n.items i) entries

pub removed : (name : List ℕ) (entries : List (Vec ℕ Global × Interval)) → remove_entry (is_at (λ n. slice_cmp nat_cmp name n.items)) entries ≡ remove_entry (λ n. bytes_eq name n.items) entries
removed name entries = λ i. remove_entry (λ n. is_eq-slice_cmp name n.items i) entries

pub same : (name stored : List ℕ) → slice_cmp nat_cmp name stored ≡ Equal → stored ≡ name
same name stored e = sym (exact_bytes name stored e)
