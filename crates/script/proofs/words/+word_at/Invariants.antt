use Rattle.script.proofs.words.+word_at.Given as goal

abbrev pub decreases-word_at : goal.decreases-word_at
decreases-word_at l = l.n
