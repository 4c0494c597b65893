-- The lines of a script in turn. Assumes nothing.
use Rattle.std.proofs.Common.{ℕ, List, Err, Result, sym, ap}
use Rattle.player.specs.declared.failure.Failure.{Failure}
use Rattle.player.specs.declared.failure.Failure.TheVariants.{Line, Told, Io, NoMemory}
use Rattle.player.specs.Answers.{Fails, Tells, then, wrong_text}

-- the first failure is that of all
pub fails : {A B : Type 0} (e : Failure) (said : Result A (List ℕ)) (f : A → Result B (List ℕ)) → Fails e said → Fails e (then said f)
fails (Line text) said f h = ap (λ r. then r f) h
fails NoMemory said f h = tt
fails (Told text) said f h = h
fails (Io error) said f h = h

pub tells : (A : Type 0) (e : Failure) (n : ℕ) (what : List ℕ) → Tells e n what → Fails {A = A} e (Err (wrong_text n what))
tells A (Line text) n what h = ap (λ t. Err t) (sym h)
tells A NoMemory n what h = tt
tells A (Told text) n what h = h
tells A (Io error) n what h = h
