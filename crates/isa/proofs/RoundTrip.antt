-- An instruction whose operands fit is read back from its word. Assumes nothing.
use Rattle.std.proofs.Common.{◌≡◌, ◌+◌, ◌*◌, ◌/◌, ◌%◌, ◌<◌, true, Some, None, Ok, sym, refl, ◌∙◌, arith, rules}
use Rattle.isa.specs.declared.Instruction.{Instruction}
use Rattle.isa.specs.declared.Instruction.TheVariants as i
use Rattle.isa.specs.Laws.{reread}
use Rattle.isa.specs.Table.{fits, word_of, branch_opcode, alu_opcode}
use Rattle.isa.proofs.Rows.{row, alu_row, alu_nibble, branch_row, from_nibbles, from_address}

pub back : (x : Instruction) → fits x ≡ true → reread (word_of x) ≡ Ok x
back (i.Mvs top) h = search rules
back (i.Mvv handler vector) h = search rules
back (i.Jmp target) h = search rules
back (i.Jsr target) h = search rules
back (i.Branch flag target) h =
    let low : target / 256 < 16 = search rules in
    sym (row {first = branch_opcode flag * 16 + target / 256} (Some (target % 256)) (branch_opcode flag) (target / 256) refl (omega arith) (omega arith)) ∙ branch_row flag (target / 256) (Some (target % 256)) ∙ from_address (i.Branch flag) target
back (i.Mvi byte dst) h = search rules
back (i.Alu op src dst) h =
    let low : dst < 16 = search rules in
    let n = alu_nibble op in
    sym (row {first = 9 * 16 + alu_opcode op} (Some (src * 16 + dst)) 9 (alu_opcode op) refl (omega arith) (omega arith)) ∙ alu_row op (Some (src * 16 + dst)) ∙ from_nibbles (i.Alu op) src dst low
back (i.Adi amount dst) h = search rules
back (i.Sbi amount dst) h = search rules
back (i.Aluc code src dst) h =
    let n : code < 16 = search rules in
    let low : dst < 16 = search rules in
    sym (row {first = 10 * 16 + code} (Some (src * 16 + dst)) 10 code refl (omega arith) (omega arith)) ∙ from_nibbles (i.Aluc code) src dst low
back (i.Mov src dst) h = search rules
back (i.Ldb pair dst) h = search rules
back (i.Lpb pair dst) h = search rules
back (i.Stb src pair) h = search rules
back (i.Spb src pair) h = search rules
back i.Ret h = refl
back i.Str h = refl
back i.Lsr h = refl
back (i.Rie pair) h = search rules
back (i.Sie pair) h = search rules
back i.Hlt h = refl
back i.Rti h = refl
back (i.Sys byte) h = search rules
back (i.Psh src) h = sym (row {first = 13 * 16 + src} None 13 src refl (search rules) (search rules))
back (i.Pop dst) h = sym (row {first = 14 * 16 + dst} None 14 dst refl (search rules) (search rules))
