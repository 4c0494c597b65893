use Rattle.std.proofs.Common.{refl, rules, tests}
use Rattle.std.proofs.lemmas.Iterator.{YieldsList-from_slice}
use Rattle.std.proofs.lemmas.Iterator.Search.{position_from_yields_List}
use Rattle.script.specs.Words.{ends_word, word_length}
use Rattle.script.proofs.Splitting.{counted, letters_first}
use Rattle.script.proofs.words.word_length.Goals as goal

pub returns-clause-value : goal.returns-clause-value
returns-clause-value c =
    counted word_length ends_word c.args.text.now refl letters_first c.position.result
    (position_from_yields_List _ _ _ _ c.position.ensures.ran (YieldsList-from_slice c.args.text.now c.iter.ensures.rest) (λ x b q k. search (rules, tests)))
    c.unwrap_or.ensures
