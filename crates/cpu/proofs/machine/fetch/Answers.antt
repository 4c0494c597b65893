-- The two bytes that the word is read from. Assumes nothing.
use Rattle.std.proofs.Common.{◌≡◌, ℕ, ◌+◌, ◌%◌, List, length, Option, Some, None, refl, sym, ◌∙◌, ap, rules}
use Rattle.std.proofs.lemmas.Option.{slice_get_past, slice_get_read}
use Rattle.std.specs.Borrow.{Bor}
use Rattle.std.specs.Option.{option_copied}
use Rattle.std.specs.Prelude.{slice_get}
use Rattle.std.specs.Slice.{IsItemAt}
use Rattle.cpu.proofs.machine.fetch.Goals as goal

byte_got : (program : List ℕ) (n : ℕ) (r : Option (Bor ℕ)) → IsItemAt program n r → option_copied r ≡ slice_get program n
byte_got program n None h = sym (slice_get_past program n h.3)
byte_got program n (Some b) h = sym (slice_get_read program (length program) n b.now refl h.3.0 h.1)

pub returns : goal.returns
returns c =
    let program = c.args.program.now in
    let first : c.copied-first.result ≡ slice_get program c.args.pc = c.copied-first.ensures ∙ byte_got program c.args.pc c.get.result c.get.ensures.lookup in
    let second : c.copied-second.result ≡ slice_get program ((c.args.pc + 1) % 4096) = c.copied-second.ensures ∙ byte_got program c.after.result c.get-2.result c.get-2.ensures.lookup ∙ ap (slice_get program) c.after.ensures in
    search rules
