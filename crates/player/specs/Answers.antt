-- What a function that reads a script answers. Assumes nothing.
use Rattle.std.specs.Prelude.{◌≡◌, ℕ, List, ◌++◌, codes, decimal, string_bytes, Ok, Err, Result, MatchResult}
use Rattle.script.specs.Lines.{Said, said_of}
use Rattle.player.specs.declared.failure.Failure.{Failure}
use Rattle.player.specs.declared.failure.Failure.TheVariants.{Line, Told, Io, NoMemory}
use Rattle.player.specs.declared.reading.Numbered.{Numbered}

-- what is told of the line of a number
abbrev pub wrong_text : ℕ → List ℕ → List ℕ
wrong_text n what = codes "line " ++ (decimal n ++ (codes ": " ++ what))

-- a failure where something else is defined: the text of a line that is wrong, or want of memory
abbrev pub Fails : {A : Type 0} → Failure → Result A (List ℕ) → Type 0
Fails (Line text) said = said ≡ Err (string_bytes text)
Fails NoMemory said = Unit {0}
Fails (Told text) said = ⊥
Fails (Io error) said = ⊥

-- what is defined, by what the answer stands for, or a failure
abbrev pub Gives : {A B : Type 0} → (A → B) → Result A Failure → Result B (List ℕ) → Type 0
Gives f answer said = MatchResult answer (λ x. said ≡ Ok (f x)) (λ e. Fails e said)

-- a failure that tells of the line of a number, where memory sufficed
abbrev pub Tells : Failure → ℕ → List ℕ → Type 0
Tells (Line text) n what = string_bytes text ≡ wrong_text n what
Tells NoMemory n what = Unit {0}
Tells (Told text) n what = ⊥
Tells (Io error) n what = ⊥

abbrev pub then : {A B : Type 0} → Result A (List ℕ) → (A → Result B (List ℕ)) → Result B (List ℕ)
then (Ok x) f = f x
then (Err text) f = Err text

-- a line with its number
abbrev pub numbered : Numbered → ℕ × Said
numbered line = (line.number, said_of line.line)
