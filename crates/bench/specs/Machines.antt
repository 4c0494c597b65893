-- Worked values of the core and of the terminal, each by the definitions that their contracts cite.
use Rattle.std.specs.Prelude.{◌≡◌, ℕ, List, [], ◌∷◌, replicate}
use Rattle.marks.specs.declared.Mark.TheVariants.{Held}
use Rattle.marks.specs.declared.Marked.{Marked}
use Rattle.marks.specs.Marks.{unheld}
use Rattle.buses.specs.Cells.{Cells, plain, put_at}
use Rattle.cpu.specs.declared.state.Core.{Core}
use Rattle.cpu.specs.declared.state.Mode.TheVariants.{Going}
use Rattle.cpu.specs.Instructions.{served}
use Rattle.cpu.specs.State.{cleared, register, with_mode, with_register}
use Rattle.cpu.specs.Runs.{ended}
use Rattle.cpu.specs.Steps.{step}
use Rattle.terminal.specs.declared.interval.Seal.TheVariants.{Sealed}
use Rattle.terminal.specs.Calls.{Call, load, start, raise, run, opening, Answer, done, opened, ran, byte, refused, performed}
use Rattle.terminal.specs.Calls as call
use Rattle.terminal.specs.Responses.{made}
use Rattle.units.specs.Aes.{aes_codes, aes_operates}
use Rattle.units.specs.Meaning.{fresh}

-- every cell is plain and unheld 0 but cell 0x0010, which has 0x30
abbrev pub cells : Cells
cells = put_at (λ a. plain (unheld 0)) 0x0010 (plain (unheld 0x30))

-- the core after one step of a program, from a core in mode going, over those cells and a fresh AES unit
abbrev pub steps_to : List ℕ → Core → Core
steps_to program c = (step (served aes_operates aes_codes) program (record { core = with_mode c Going; cells = cells; contents = fresh 2 8 })).state.core

abbrev pub held_byte : ℕ → Marked
held_byte b = record { byte = b; mark = Held }

-- what a new terminal with those cells and a fresh AES unit answers to a list of calls
abbrev pub answers_to : List Call → List Answer
answers_to calls = (performed (served aes_operates aes_codes) calls (made cells (fresh 2 8))).0

pub record MachineValues : Type 0 where
  -- mvs 0x0040 and mvs 0x0000: the stack pointer is one less
  pub mvs_steps : (steps_to (0x00 ∷ 0x04 ∷ []) (cleared 1)).sp ≡ 0x003F
  pub mvs_wraps : (steps_to (0x00 ∷ 0x00 ∷ []) (cleared 1)).sp ≡ 0xFFFF
  -- lpb 0, r0 with a0 0 and r0 0x10: the loaded 0x30 lands first and then goes up by one
  pub lpb_own_pointer : register (steps_to (0xC1 ∷ 0x80 ∷ []) (with_register (cleared 1) 0 (unheld 0x10))) 0 ≡ unheld 0x31
  -- xor r0, r0 of any held byte leaves 0, held
  pub xor_held : (b : ℕ) → register (steps_to (0x9B ∷ 0x00 ∷ []) (with_register (cleared 1) 0 (held_byte b))) 0 ≡ held_byte 0
  -- mvi 0x41, r0 and sys 0xFF: two steps of two cycles each, and the byte is in register 0
  pub first_program : answers_to (load 1 (0x80 ∷ 0x41 ∷ 0xCF ∷ 0xFF ∷ []) ∷ start ∷ run 10 ∷ call.register 0 ∷ []) ≡ done ∷ done ∷ ran 2 4 ended ∷ byte 0x41 ∷ []
  -- the largest program, number of pairs, line, register and interval pass, and one more of each is refused
  pub largest_program : answers_to (load 8 (replicate 4096 0) ∷ []) ≡ done ∷ []
  pub larger_program : answers_to (load 8 (replicate 4097 0) ∷ []) ≡ refused 1 ∷ []
  pub more_pairs : answers_to (load 9 (replicate 4096 0) ∷ []) ≡ refused 2 ∷ []
  pub lines : answers_to (raise 15 ∷ raise 16 ∷ []) ≡ done ∷ refused 3 ∷ []
  pub registers : answers_to (call.register 16 ∷ call.register 17 ∷ []) ≡ byte 0 ∷ refused 4 ∷ []
  pub largest_interval : answers_to (opening Sealed 0xFF00 256 ∷ []) ≡ opened (record { seal = Sealed; first = 0xFF00; count = 256 }) ∷ []
  pub larger_interval : answers_to (opening Sealed 0xFF00 257 ∷ []) ≡ refused 5 ∷ []
  pub later_interval : answers_to (opening Sealed 0xFF01 256 ∷ []) ≡ refused 5 ∷ []
