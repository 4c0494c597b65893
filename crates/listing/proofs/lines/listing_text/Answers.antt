use Rattle.std.proofs.Common.{◌≡◌, ◌≤◌, [], ◌∷◌, ◌++◌, length, Ok, IfOk, string_bytes, sym, ap, ◌∙◌, subst, arith}
use Rattle.std.proofs.lemmas.Result.{IfOk-weaker}
use Rattle.listing.specs.Hex.{read_hex}
use Rattle.listing.specs.Lines.{bytes_of, counts_of, words_text, lines_of, lines_text, summary_text}
use Rattle.listing.proofs.WrittenHex.{words_read_back}
use Rattle.listing.proofs.lines.listing_text.Goals as goal

pub returns : goal.returns
returns c =
    let program = c.args.program.now in
    let text = c.in_ok-text.ensures ∙ ap lines_text (c.as_slice.ensures.value ∙ c.in_ok-lines.ensures.lines) in
    let counts = c.count.ensures ∙ ap counts_of (c.as_slice-2.ensures.value ∙ c.in_ok-lines.ensures.lines) in
    let whole : bytes_of (lines_of 0 program) ≡ program = ap bytes_of (sym c.in_ok-lines.ensures.lines) ∙ c.in_ok-lines.ensures.whole in
    let back : length program ≤ 4096 → read_hex (words_text (lines_of 0 program)) ≡ Ok program = λ few. words_read_back (lines_of 0 program) program whole (λ i. omega (arith, c.type_inv.program i)) few in
    record {
      text = subst (λ l. IfOk c.format.result (λ t. string_bytes t ≡ l)) (λ i. text i ++ (summary_text (length program) (counts i) ++ (10 ∷ []))) c.format.ensures.ok;
      read_back = IfOk-weaker c.format.result _ (λ _. length program ≤ 4096 → read_hex (words_text (lines_of 0 program)) ≡ Ok program) (λ _ _. back) c.format.ensures.ok;
    }
