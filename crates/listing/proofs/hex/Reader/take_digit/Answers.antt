use Rattle.std.proofs.Common.{◌-◌, ◌∷◌, length, None, vec_items, sym, refl, ap, ◌∙◌}
use Rattle.std.proofs.lemmas.Result.{err_from_is_err_and}
use Rattle.listing.specs.Hex.{paired, before}
use Rattle.listing.proofs.Reading.{second}
use Rattle.listing.proofs.hex.Reader.take_digit.Goals as goal

pub returns-in_err-push-in-Some-first : goal.returns-in_err-push-in-Some-first
returns-in_err-push-in-Some-first c =
    let p = err_from_is_err_and c.from_residual.result c.from_residual.ensures.1 in
    rw (p.1, p.2) (record { small = c.requires; outside = refl; took = λ rest. tt })

pub returns-in_ok-push-in-Some-first : goal.returns-in_ok-push-in-Some-first
returns-in_ok-push-in-Some-first c = record {
  small = tt;
  outside = refl;
  took = λ rest.
      let old = vec_items c.args.self.now.bytes in
      ap (λ o. before old (paired (4096 - length old) o ((c.args.at, c.args.b) ∷ rest))) c.in-Some-first.is
      ∙ second old c.in-Some-first.first c.args.at c.args.b c.in-Some.value rest (sym c.in-Some.ensures)
      ∙ ap (λ bs. before bs (paired (4096 - length bs) None rest)) (sym c.in_ok-push-in-Some-first.ensures.items);
}
