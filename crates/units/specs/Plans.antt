-- Units that work by a plan: code and stages alone say where each byte comes from. Assumes nothing.
use Rattle.std.specs.Prelude.{ℕ, List, [], ◌∷◌, map, slice_index_or}
use Rattle.marks.specs.declared.Mark.{Mark}
use Rattle.marks.specs.declared.Mark.TheVariants.{Unheld}
use Rattle.marks.specs.declared.Marked.{Marked}
use Rattle.marks.specs.Marks.{join, unheld}
use Rattle.units.specs.declared.unit.Reply.{Reply}
use Rattle.units.specs.Meaning.{Contents, Operands, Meaning, plain}

-- the joined mark of some bytes
abbrev pub joined : List Marked → Mark
joined [] = Unheld
joined (m ∷ []) = m.mark
joined (m ∷ n ∷ ms) = join m.mark (joined (n ∷ ms))

-- worked out from these bytes, with their joined mark
abbrev pub worked_out : (List ℕ → ℕ) → List Marked → Marked
worked_out f ms = record { byte = f (map (λ m. m.byte) ms); mark = joined ms }

-- a byte of the contents by its place, or an operand
pub data Place : Type 0 where
  cell : ℕ → Place
  from_a : Place
  from_b : Place

-- a byte as it is, or one worked out from several
pub data Source : Type 0 where
  copy : Place → Source
  work : (List ℕ → ℕ) → List Place → Source

-- where the answer and the next contents come from
pub record Plan : Type 0 where
  pub result : Source
  pub wait : ℕ
  pub stages : List ℕ
  pub bytes : List Source

abbrev pub taken : Contents → Operands → Place → Marked
taken c x (cell i) = slice_index_or c.bytes i (unheld 0)
taken c x from_a = x.a
taken c x from_b = x.b

abbrev pub made : Contents → Operands → Source → Marked
made c x (copy p) = taken c x p
made c x (work f ps) = worked_out f (map (taken c x) ps)

-- no flags are set
abbrev pub carried_out : Plan → Contents → Operands → Reply × Contents
carried_out p c x = (plain (made c x p.result) p.wait, record { stages = p.stages; bytes = map (made c x) p.bytes })

abbrev pub planned : (ℕ → List ℕ → Plan) → Meaning
planned plan = λ codes code c x. carried_out (plan code c.stages) c x
