use Rattle.std.proofs.Common.{◌≡◌, ◌+◌, false, ◌∷◌, sym, ap, ◌∙◌, subst}
use Rattle.listing.specs.Hex.{counted}
use Rattle.listing.specs.Reader.{Settles, going_on, resumed}
use Rattle.listing.proofs.Reading.{counts}
use Rattle.listing.proofs.hex.Reader.take.Goals as goal

pub returns : goal.returns
returns c = record {
  small = c.take_digit.ensures.small;
  took = λ rest.
      let old = c.args.self.now in
      let new = c.take_digit.new.self in
      let at = c.args.at in
      let out : old.in_comment ≡ false = c.if-self.false in
      let here = counts old.in_comment at c.args.b rest out c.if-b-eq10.false (sym c.if-is_blank.ensures) c.if-b-eq35.false in
      let later = ap (λ b. counted b (at + 1) rest) (sym (c.take_digit.ensures.outside ∙ out)) in
      subst (λ l. Settles c.take_digit.result (going_on old l) (resumed new (at + 1) rest)) (sym here)
      (subst (λ l. Settles c.take_digit.result (going_on old ((at, c.args.b) ∷ counted false (at + 1) rest)) (going_on new l)) later
      (c.take_digit.ensures.took (counted false (at + 1) rest)));
}
