-- The numbers of a line. Assumes nothing.
use Rattle.std.specs.Prelude.{ℕ, ◌+◌, ◌-◌, ◌*◌, min, Bool, cond, ◌&&◌, List, [], ◌∷◌, length, drop, Some, None, Ok, Err, Option, Result, ◌==◌, nat_le, slice_index}
use Rattle.script.specs.declared.faults.Fault.{Fault}
use Rattle.script.specs.declared.faults.Fault.TheVariants.{NoNumber, TooLarge}
use Rattle.script.specs.declared.numbers.Base.{Base}
use Rattle.script.specs.declared.numbers.Base.TheVariants.{Ten, Sixteen}

abbrev pub within : ℕ → ℕ → ℕ → Bool
within low high n = nat_le low n && nat_le n high

-- the value of a hex digit: 0 to 9 (48 to 57), A to F (65 to 70) or a to f (97 to 102)
abbrev pub digit_of : ℕ → Option ℕ
digit_of c = cond (within 48 57 c) (Some (c - 48)) (cond (within 65 70 c) (Some (c - 55)) (cond (within 97 102 c) (Some (c - 87)) None))

abbrev pub digit_in : Base → ℕ → Option ℕ
digit_in Ten c = cond (within 48 57 c) (Some (c - 48)) None
digit_in Sixteen c = digit_of c

abbrev pub radix : Base → ℕ
radix Ten = 10
radix Sixteen = 16

-- a word that begins with 0 (48) and x (120) has hex digits
abbrev pub is_hex : List ℕ → Bool
is_hex word = slice_index word 0 == 48 && slice_index word 1 == 120

abbrev pub base_of : List ℕ → Base
base_of word = cond (is_hex word) Sixteen Ten

abbrev pub digits_of : List ℕ → List ℕ
digits_of word = cond (is_hex word) (drop 2 word) word

-- the value of digits that follow those of a value
abbrev pub value_from : Base → ℕ → List ℕ → Option ℕ
value_from base value [] = Some value
value_from base value (c ∷ cs) = elim (digit_in base c) [ None ↦ None | Some d ↦ value_from base (value * radix base + d) cs ]

-- the number that a word says
abbrev pub number_of : List ℕ → Option ℕ
number_of word = cond (length (digits_of word) == 0) None (value_from (base_of word) 0 (digits_of word))

abbrev pub up_to : ℕ → Option ℕ → Result ℕ Fault
up_to most None = Err NoNumber
up_to most (Some n) = cond (nat_le n most) (Ok n) (Err TooLarge)

abbrev pub number_up_to : ℕ → List ℕ → Result ℕ Fault
number_up_to most word = up_to most (number_of word)

-- a value, or 2^32 where it is larger
abbrev pub capped : Option ℕ → Option ℕ
capped None = None
capped (Some n) = Some (min n 4294967296)
