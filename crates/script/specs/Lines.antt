-- What a line says. Assumes nothing.
use Rattle.std.specs.Prelude.{ℕ, ◌+◌, cond, List, length, Some, None, Ok, Err, vec_items, Option, Result, ◌==◌}
use Rattle.terminal.specs.declared.interval.Seal.{Seal}
use Rattle.script.specs.declared.faults.Fault.{Fault}
use Rattle.script.specs.declared.faults.Fault.TheVariants.{UnknownWord, MissingWord, ExtraWord}
use Rattle.script.specs.declared.lines.Line.{Line}
use Rattle.script.specs.declared.lines.Line.TheVariants as line
use Rattle.script.specs.declared.operands.UnitName.{UnitName}
use Rattle.script.specs.declared.verbs.Verb.{Verb}
use Rattle.script.specs.declared.verbs.Verb.TheVariants as verb
use Rattle.script.specs.Bytes.{bytes_of}
use Rattle.script.specs.Numbers.{number_up_to}
use Rattle.script.specs.Operands.{seal_of, unit_of}
use Rattle.script.specs.Reads.{and_then}
use Rattle.script.specs.Verbs.{verb_of, operand_count}
use Rattle.script.specs.Words.{word_at}

-- a line, with its names and its bytes as lists
pub data Said : Type 0 where
  memory : ℕ → Said
  bytes : ℕ → List ℕ → Said
  held : ℕ → List ℕ → Said
  board : ℕ → Said
  unit : UnitName → Said
  load : ℕ → List ℕ → Said
  start : Said
  raise : ℕ → Said
  run : ℕ → Said
  put : ℕ → ℕ → Said
  opening : List ℕ → Seal → ℕ → ℕ → Said
  entry : List ℕ → ℕ → ℕ → Said
  close : List ℕ → Said
  cell : ℕ → Said
  register : ℕ → Said
  status : Said

abbrev pub said_of : Line → Said
said_of (line.Memory n) = memory n
said_of (line.Bytes address bs) = bytes address (vec_items bs)
said_of (line.Held address bs) = held address (vec_items bs)
said_of (line.Board page) = board page
said_of (line.Unit name) = unit name
said_of (line.Load pairs bs) = load pairs (vec_items bs)
said_of line.Start = start
said_of (line.Raise n) = raise n
said_of (line.Run budget) = run budget
said_of (line.Put address byte) = put address byte
said_of (line.Open name seal first count) = opening (vec_items name) seal first count
said_of (line.Entry name offset byte) = entry (vec_items name) offset byte
said_of (line.Close name) = close (vec_items name)
said_of (line.Cell address) = cell address
said_of (line.Register n) = register n
said_of line.Status = status

abbrev pub optional : Option Line → Option Said
optional None = None
optional (Some l) = Some (said_of l)

-- the numbers of a line, of 8, 16 and 32 bits
abbrev pub u8_at : ℕ → List ℕ → Result ℕ Fault
u8_at n text = number_up_to 255 (word_at n text)

abbrev pub u16_at : ℕ → List ℕ → Result ℕ Fault
u16_at n text = number_up_to 65535 (word_at n text)

abbrev pub u32_at : ℕ → List ℕ → Result ℕ Fault
u32_at n text = number_up_to 4294967295 (word_at n text)

abbrev pub bytes_at : ℕ → List ℕ → Result (List ℕ) Fault
bytes_at n text = bytes_of (word_at n text)

abbrev pub bytes_said : List ℕ → Result (ℕ × List ℕ) Fault
bytes_said text = and_then (u16_at 1 text) (λ address. and_then (bytes_at 2 text) (λ bs. Ok (address, bs)))

abbrev pub load_said : List ℕ → Result (ℕ × List ℕ) Fault
load_said text = and_then (u8_at 1 text) (λ pairs. and_then (bytes_at 2 text) (λ bs. Ok (pairs, bs)))

abbrev pub put_said : List ℕ → Result (ℕ × ℕ) Fault
put_said text = and_then (u16_at 1 text) (λ address. and_then (u8_at 2 text) (λ byte. Ok (address, byte)))

abbrev pub entry_said : List ℕ → Result Said Fault
entry_said text = and_then (u16_at 2 text) (λ offset. and_then (u8_at 3 text) (λ byte. Ok (entry (word_at 1 text) offset byte)))

abbrev pub opened_said : List ℕ → Result Said Fault
opened_said text =
    and_then (seal_of (word_at 2 text)) (λ seal.
    and_then (u16_at 3 text) (λ first.
    and_then (u16_at 4 text) (λ count. Ok (opening (word_at 1 text) seal first count))))

-- the line of a verb and what follows it, whose words are as many as they should be
abbrev pub operands_said : Verb → List ℕ → Result Said Fault
operands_said verb.Memory text = and_then (u32_at 1 text) (λ n. Ok (memory n))
operands_said verb.Bytes text = and_then (bytes_said text) (λ p. Ok (bytes p.0 p.1))
operands_said verb.Held text = and_then (bytes_said text) (λ p. Ok (held p.0 p.1))
operands_said verb.Board text = and_then (u8_at 1 text) (λ page. Ok (board page))
operands_said verb.Unit text = and_then (unit_of (word_at 1 text)) (λ name. Ok (unit name))
operands_said verb.Load text = and_then (load_said text) (λ p. Ok (load p.0 p.1))
operands_said verb.Start text = Ok start
operands_said verb.Raise text = and_then (u8_at 1 text) (λ n. Ok (raise n))
operands_said verb.Run text = and_then (u32_at 1 text) (λ budget. Ok (run budget))
operands_said verb.Put text = and_then (put_said text) (λ p. Ok (put p.0 p.1))
operands_said verb.Open text = opened_said text
operands_said verb.Entry text = entry_said text
operands_said verb.Close text = Ok (close (word_at 1 text))
operands_said verb.Cell text = and_then (u16_at 1 text) (λ address. Ok (cell address))
operands_said verb.Register text = and_then (u8_at 1 text) (λ n. Ok (register n))
operands_said verb.Status text = Ok status

-- the words are counted before they are read
abbrev pub count_said : Verb → List ℕ → Result (Unit {0}) Fault
count_said v text =
    cond (length (word_at (operand_count v) text) == 0) (Err MissingWord)
    (cond (length (word_at (operand_count v + 1) text) == 0) (Ok tt) (Err ExtraWord))

abbrev pub verb_said : Verb → List ℕ → Result (Option Said) Fault
verb_said v text = and_then (count_said v text) (λ _. and_then (operands_said v text) (λ said. Ok (Some said)))

abbrev pub begun_said : Option Verb → List ℕ → Result (Option Said) Fault
begun_said None text = Err UnknownWord
begun_said (Some v) text = verb_said v text

-- what a line says, nothing if it has no word; or what is wrong with it
abbrev pub line_said : List ℕ → Result (Option Said) Fault
line_said text = cond (length (word_at 0 text) == 0) (Ok None) (begun_said (verb_of (word_at 0 text)) text)
