-- Noninterference and transparency, over lists of calls. Assumes nothing.
use Rattle.std.specs.Prelude.{◌≡◌, ℕ, Bool, false, ◌||◌, ◌⊎◌, List, [], ◌∷◌, map, ◌==◌, ◌≢◌}
use Rattle.marks.specs.Relations.{Alike, Bare, Pointwise, All}
use Rattle.buses.specs.Cells.{Cell, Cells, absent, plain, board}
use Rattle.units.specs.Laws.{ContentsBy}
use Rattle.units.specs.Meaning.{Contents, fresh}
use Rattle.cpu.specs.Faults.{Stop}
use Rattle.cpu.specs.Instructions.{Service}
use Rattle.cpu.specs.Runs.{Ending, said, ended, spent, waiting, fault}
use Rattle.terminal.specs.declared.interval.Interval.{Interval}
use Rattle.terminal.specs.declared.interval.Seal.TheVariants.{Sealed, Practice}
use Rattle.terminal.specs.Calls.{Call, load, start, raise, run, put, opening, entry, close, cell, register, status, Answer, done, opened, ran, byte, stands, refused, unclosed, respond, performed}
use Rattle.terminal.specs.Relations.{CellsBy, TerminalBy}
use Rattle.terminal.specs.Responses.{made}
use Rattle.terminal.specs.Terminals.{Terminal, cells_of}

-- Noninterference

-- entries at one place of one sealed interval, whatever is bet
pub record SealedEntries (k l : Call) : Type 0 where
  pub interval : Interval
  pub offset : ℕ
  pub bet : ℕ
  pub other : ℕ
  pub sealed : interval.seal ≡ Sealed
  pub first : k ≡ entry interval offset bet
  pub second : l ≡ entry interval offset other

-- calls that differ at most in the byte of a sealed entry
abbrev pub Twin : Call → Call → Type 0
Twin k l = (k ≡ l) ⊎ SealedEntries k l

abbrev pub byte_in : Cell → ℕ
byte_in absent = 0
byte_in (plain m) = m.byte
byte_in (board b) = b

-- one of these at least
abbrev pub Any : {A : Type 0} → (A → Type 0) → List A → Type 0
Any P [] = ⊥
Any P (x ∷ xs) = P x ⊎ Any P xs

-- an accepted close, with a cell that has unequal bytes in the two terminals
pub record LaysOpen (unit : Service) (k : Call) (s t : Terminal) : Type 0 where
  pub interval : Interval
  pub closes : k ≡ close interval
  pub accepted : (respond unit k s).0 ≡ done
  pub unequal : Any (λ a. byte_in (s.machine.cells a) ≢ byte_in (t.machine.cells a)) (cells_of interval)

-- no close of the lists lays open bytes that differ
abbrev pub NeverLaysOpen : Service → List Call → List Call → Terminal → Terminal → Type 0
NeverLaysOpen unit [] ls s t = Unit {0}
NeverLaysOpen unit (k ∷ ks) [] s t = Unit {0}
NeverLaysOpen unit (k ∷ ks) (l ∷ ls) s t = (LaysOpen unit k s t → ⊥) × NeverLaysOpen unit ks ls (respond unit k s).1 (respond unit l t).1

-- fresh units with equal lengths, and cells that agree in kind, mark and unheld byte
abbrev pub MadeAlike : Cells → Cells → Contents → Contents → Type 0
MadeAlike xs ys c d = CellsBy Alike xs ys × ((stages : ℕ) × (bytes : ℕ) × (c ≡ fresh stages bytes) × (d ≡ fresh stages bytes))

-- terminals that differ only in what is held cannot be told apart by any list of calls, the bets of sealed intervals being free,
-- as long as no close lays open bytes that differ: every answer is the same, and what is left again differs only in what is held
pub record Noninterference (unit : Service) : Type 0 where
  pub begins : (xs ys : Cells) (c d : Contents) → MadeAlike xs ys c d → TerminalBy Alike (made xs c) (made ys d)
  pub stays : (ks ls : List Call) (s t : Terminal) → TerminalBy Alike s t → Pointwise Twin ks ls → NeverLaysOpen unit ks ls s t →
      ((performed unit ks s).0 ≡ (performed unit ls t).0) × TerminalBy Alike (performed unit ks s).1 (performed unit ls t).1

-- Transparency

-- the same interval for practice
abbrev pub practice : Interval → Interval
practice i = record { seal = Practice; first = i.first; count = i.count }

abbrev pub practised : Call → Call
practised (load pairs program) = load pairs program
practised start = start
practised (raise line) = raise line
practised (run budget) = run budget
practised (put address b) = put address b
practised (opening seal first count) = opening Practice first count
practised (entry i offset b) = entry (practice i) offset b
practised (close i) = close (practice i)
practised (cell address) = cell address
practised (register n) = register n
practised status = status

-- an answer, whether or not its interval is sealed
abbrev pub unsealed : Answer → Answer
unsealed done = done
unsealed (opened i) = opened (practice i)
unsealed (ran steps cycles e) = ran steps cycles e
unsealed (byte b) = byte b
unsealed (stands mode pc sp enabled latched handling) = stands mode pc sp enabled latched handling
unsealed (refused n) = refused n
unsealed (unclosed n i) = unclosed n (practice i)

-- faults over a held byte: written to a board, in a branch, in an address or the pair of sie, in a return address
abbrev pub held_stop : Stop → Bool
held_stop s = s.number == 25 || (s.number == 33 || (s.number == 34 || s.number == 35))

abbrev pub held_ending : Ending → Bool
held_ending (said b) = false
held_ending ended = false
held_ending spent = false
held_ending waiting = false
held_ending (fault f) = held_stop f.stop

-- refused or stopped over a held byte
abbrev pub over_held : Answer → Bool
over_held done = false
over_held (opened i) = false
over_held (ran steps cycles e) = held_ending e
over_held (byte b) = false
over_held (stands mode pc sp enabled latched handling) = false
over_held (refused n) = n == 22
over_held (unclosed n i) = false

-- the same kinds of cell, stages and bytes, and none held
abbrev pub MadeBare : Cells → Cells → Contents → Contents → Type 0
MadeBare xs ys c d = CellsBy Bare xs ys × ContentsBy Bare c d

-- a terminal that is never refused or stopped over a held byte does what the practice terminal does with the same calls:
-- the same answers, steps and cycles included, and what is left is the same but for marks
pub record Transparency (unit : Service) : Type 0 where
  pub begins : (xs ys : Cells) (c d : Contents) → MadeBare xs ys c d → TerminalBy Bare (made xs c) (made ys d)
  pub stays : (ks : List Call) (s t : Terminal) → TerminalBy Bare s t → All (λ a. over_held a ≡ false) (performed unit ks s).0 →
      (map unsealed (performed unit ks s).0 ≡ (performed unit (map practised ks) t).0) × TerminalBy Bare (performed unit ks s).1 (performed unit (map practised ks) t).1
