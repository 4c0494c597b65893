use Rattle.std.proofs.Common.{refl, rules, tests, not}
use Rattle.std.proofs.lemmas.Iterator.{YieldsList-from_slice}
use Rattle.std.proofs.lemmas.Iterator.Search.{position_from_yields_List}
use Rattle.script.specs.Words.{is_blank, blank_count}
use Rattle.script.proofs.Splitting.{counted, blanks_first}
use Rattle.script.proofs.words.blank_count.Goals as goal

pub returns-clause-value : goal.returns-clause-value
returns-clause-value c =
    counted blank_count (λ b. not (is_blank b)) c.args.text.now refl blanks_first c.position.result
    (position_from_yields_List _ _ _ _ c.position.ensures.ran (YieldsList-from_slice c.args.text.now c.iter.ensures.rest) (λ x b q k. search (rules, tests)))
    c.unwrap_or.ensures
