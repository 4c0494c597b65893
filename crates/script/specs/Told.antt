-- What is told of a line that is wrong. Assumes nothing.
use Rattle.std.specs.Prelude.{ℕ, List, ◌++◌, codes, decimal}
use Rattle.script.specs.declared.faults.Fault.{Fault}
use Rattle.script.specs.declared.faults.Fault.TheVariants.{UnknownWord, MissingWord, ExtraWord, NoNumber, TooLarge, NoBytes, NoSeal, NoUnit}

abbrev pub fault_name : Fault → List ℕ
fault_name UnknownWord = codes "unknown word"
fault_name MissingWord = codes "a word is missing"
fault_name ExtraWord = codes "a word too many"
fault_name NoNumber = codes "a word that is no number"
fault_name TooLarge = codes "a number that is too large"
fault_name NoBytes = codes "a word that is no pairs of hex digits"
fault_name NoSeal = codes "a word that is neither sealed nor practice"
fault_name NoUnit = codes "a word that is neither aes nor cham"

abbrev pub fault_text : ℕ → Fault → List ℕ
fault_text n fault = codes "line " ++ (decimal n ++ (codes ": " ++ fault_name fault))
