-- The three laws of units. Assumes nothing.
use Rattle.std.specs.Prelude.{◌≡◌, ℕ, Bool, Some, None, Option}
use Rattle.marks.specs.declared.Marked.{Marked}
use Rattle.marks.specs.Relations.{Rel, Alike, SameByte, Clear, Pointwise, All}
use Rattle.units.specs.declared.unit.Reply.{Reply}
use Rattle.units.specs.Meaning.{Contents, Operands, Meaning}

-- equal stages, and bytes in relation
abbrev pub ContentsBy : Rel Marked → Rel Contents
ContentsBy R c d = (c.stages ≡ d.stages) × Pointwise R c.bytes d.bytes

abbrev pub OperandsBy : Rel Marked → Rel Operands
OperandsBy R x y = R x.a y.a × R x.b y.b × R x.high y.high × R x.low y.low

abbrev pub FlagsBy : Rel Marked → Rel (Option Marked)
FlagsBy R None None = Unit {0}
FlagsBy R None (Some y) = ⊥
FlagsBy R (Some x) None = ⊥
FlagsBy R (Some x) (Some y) = R x y

-- equal waits, flags set by both or by neither, and bytes in relation
abbrev pub ReplyBy : Rel Marked → Rel Reply
ReplyBy R r s = R r.result s.result × (r.wait ≡ s.wait) × FlagsBy R r.flags s.flags

abbrev pub OutcomeBy : Rel Marked → Rel (Reply × Contents)
OutcomeBy R o p = ReplyBy R o.0 p.0 × ContentsBy R o.1 p.1

-- uses in relation have outcomes in relation
abbrev pub Keeps : Rel Marked → Meaning → Type 0
Keeps R op = (codes : ℕ → Bool) (code : ℕ) (c d : Contents) (x y : Operands) → ContentsBy R c d → OperandsBy R x y → OutcomeBy R (op codes code c x) (op codes code d y)

-- what is held moves nothing that can be seen: uses that agree in all but held bytes have outcomes that do
abbrev pub Quiet : Meaning → Type 0
Quiet op = Keeps Alike op

-- marks do no work: uses that differ in marks only have outcomes that differ in marks only
abbrev pub IdleMarks : Meaning → Type 0
IdleMarks op = Keeps SameByte op

abbrev pub FlagsAll : (Marked → Type 0) → Option Marked → Type 0
FlagsAll P None = Unit {0}
FlagsAll P (Some x) = P x

-- where nothing is held, nothing answered or left is held
abbrev pub Clean : Meaning → Type 0
Clean op =
    (codes : ℕ → Bool) (code : ℕ) (c : Contents) (x : Operands) → All Clear c.bytes → Clear x.a × Clear x.b × Clear x.high × Clear x.low →
    let o = op codes code c x in
    Clear o.0.result × FlagsAll Clear o.0.flags × All Clear o.1.bytes
