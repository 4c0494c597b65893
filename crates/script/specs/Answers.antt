-- Answers as text. Assumes nothing.
use Rattle.std.specs.Prelude.{ℕ, Bool, true, false, List, [], ◌++◌, Ok, Err, Result, codes, decimal}
use Rattle.cpu.specs.Faults.{Layer, of_core, of_bus, of_unit, Stop, stop_of}
use Rattle.cpu.specs.declared.machine.Ending.{Ending}
use Rattle.cpu.specs.declared.machine.Ending.TheVariants as ending
use Rattle.cpu.specs.declared.machine.Run.{Run}
use Rattle.cpu.specs.Names.{mode_name}
use Rattle.terminal.specs.declared.calls.Answer.{Answer}
use Rattle.terminal.specs.declared.calls.Answer.TheVariants as answer
use Rattle.terminal.specs.declared.calls.Refusal.{Refusal}
use Rattle.terminal.specs.declared.calls.Standing.{Standing}
use Rattle.terminal.specs.declared.calls.Unmade.{Unmade}
use Rattle.terminal.specs.declared.calls.Unmade.TheVariants as unmade
use Rattle.terminal.specs.Numbers.{number}
use Rattle.script.specs.Text.{hex_text}

abbrev pub layer_text : Layer → List ℕ
layer_text of_core = codes " core at "
layer_text (of_bus address) = codes " bus at "
layer_text (of_unit code) = codes " unit at "

-- what the layer was asked
abbrev pub asked_text : Layer → List ℕ
asked_text of_core = []
asked_text (of_bus address) = codes " address " ++ hex_text 4 address
asked_text (of_unit code) = codes " code " ++ decimal code

abbrev pub stop_text : Stop → ℕ → List ℕ
stop_text s pc = codes "fault " ++ (decimal s.number ++ (layer_text s.layer ++ (hex_text 3 pc ++ asked_text s.layer)))

abbrev pub ending_text : Ending → List ℕ
ending_text (ending.Said byte) = codes "said " ++ hex_text 2 byte
ending_text ending.Ended = codes "ended"
ending_text ending.Spent = codes "spent"
ending_text ending.Waiting = codes "waiting"
ending_text (ending.Fault fault) = stop_text (stop_of fault.cause) fault.pc

abbrev pub run_text : Run → List ℕ
run_text r = decimal r.steps ++ (codes " steps, " ++ (decimal r.cycles ++ (codes " cycles, " ++ ending_text r.ending)))

abbrev pub yes_no : Bool → List ℕ
yes_no true = codes "yes"
yes_no false = codes "no"

abbrev pub standing_text : Standing → List ℕ
standing_text s =
    mode_name s.mode
    ++ (codes ", pc " ++ (hex_text 3 s.pc
    ++ (codes ", sp " ++ (hex_text 4 s.sp
    ++ (codes ", ie " ++ (hex_text 4 s.enabled
    ++ (codes ", lines " ++ (hex_text 4 s.latched
    ++ (codes ", handler " ++ yes_no s.handling)))))))))

abbrev pub refusal_text : Refusal → List ℕ
refusal_text r = codes "refused " ++ decimal (number r)

-- an interval that is opened or handed back is not told
abbrev pub answer_text : Result Answer Unmade → List ℕ
answer_text (Ok answer.Done) = codes "done"
answer_text (Ok (answer.Opened interval)) = codes "done"
answer_text (Ok (answer.Ran r)) = run_text r
answer_text (Ok (answer.Byte byte)) = hex_text 2 byte
answer_text (Ok (answer.Stands s)) = standing_text s
answer_text (Err (unmade.Refused r)) = refusal_text r
answer_text (Err (unmade.Unclosed u)) = refusal_text u.refusal
