-- The first words of lines. Assumes nothing.
use Rattle.std.specs.Prelude.{ℕ, cond, List, Some, None, codes, Option}
use Rattle.std.specs.Str.{bytes_eq}
use Rattle.script.specs.declared.verbs.Verb.{Verb}
use Rattle.script.specs.declared.verbs.Verb.TheVariants as verb

abbrev pub setting_of : List ℕ → Option Verb
setting_of word =
    cond (bytes_eq word (codes "memory")) (Some verb.Memory)
    (cond (bytes_eq word (codes "bytes")) (Some verb.Bytes)
    (cond (bytes_eq word (codes "held")) (Some verb.Held)
    (cond (bytes_eq word (codes "board")) (Some verb.Board)
    (cond (bytes_eq word (codes "unit")) (Some verb.Unit)
    None))))

abbrev pub call_of : List ℕ → Option Verb
call_of word =
    cond (bytes_eq word (codes "load")) (Some verb.Load)
    (cond (bytes_eq word (codes "start")) (Some verb.Start)
    (cond (bytes_eq word (codes "raise")) (Some verb.Raise)
    (cond (bytes_eq word (codes "run")) (Some verb.Run)
    (cond (bytes_eq word (codes "put")) (Some verb.Put)
    None))))

abbrev pub bet_of : List ℕ → Option Verb
bet_of word =
    cond (bytes_eq word (codes "open")) (Some verb.Open)
    (cond (bytes_eq word (codes "entry")) (Some verb.Entry)
    (cond (bytes_eq word (codes "close")) (Some verb.Close)
    (cond (bytes_eq word (codes "cell")) (Some verb.Cell)
    (cond (bytes_eq word (codes "register")) (Some verb.Register)
    (cond (bytes_eq word (codes "status")) (Some verb.Status)
    None)))))

abbrev pub or_else : Option Verb → Option Verb → Option Verb
or_else None other = other
or_else (Some v) other = Some v

-- what a line that begins with this word is about
abbrev pub verb_of : List ℕ → Option Verb
verb_of word = or_else (setting_of word) (or_else (call_of word) (bet_of word))

-- how many words follow the first
abbrev pub operand_count : Verb → ℕ
operand_count verb.Memory = 1
operand_count verb.Bytes = 2
operand_count verb.Held = 2
operand_count verb.Board = 1
operand_count verb.Unit = 1
operand_count verb.Load = 2
operand_count verb.Start = 0
operand_count verb.Raise = 1
operand_count verb.Run = 1
operand_count verb.Put = 2
operand_count verb.Open = 4
operand_count verb.Entry = 3
operand_count verb.Close = 1
operand_count verb.Cell = 1
operand_count verb.Register = 1
operand_count verb.Status = 0
