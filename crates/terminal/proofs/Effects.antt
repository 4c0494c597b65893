-- Machines in relation do each instruction in relation. Assumes nothing.
use Rattle.std.proofs.Common.{◌≡◌, ℕ, ◌+◌, ◌-◌, ◌*◌, ◌/◌, ◌%◌, ◌^◌, Bool, true, false, cond, eqb, List, [], ◌∷◌, get_or, set, Some, None, Ok, Err, Option, Result, sym, refl, ap, ◌∙◌, subst, inl, inr, ⊎_elim}
use lib.Bits.{bit_and, bit_or, bit_xor}
use Rattle.marks.specs.declared.Mark.{Mark}
use Rattle.marks.specs.declared.Mark.TheVariants.{Held, Unheld}
use Rattle.marks.specs.declared.Marked.{Marked}
use Rattle.marks.specs.Marks.{held, join, unheld}
use Rattle.marks.specs.Relations.{Rel, Pointwise}
use Rattle.alu.specs.Shifts.{shifted_left, shifted_right, turned_left, turned_right}
use Rattle.alu.specs.Sums.{sum, difference, raised, lowered}
use Rattle.isa.specs.declared.Alu.{Alu}
use Rattle.isa.specs.declared.Alu.TheVariants as alu
use Rattle.isa.specs.declared.Flag.{Flag}
use Rattle.isa.specs.declared.Flag.TheVariants.{Carry}
use Rattle.isa.specs.declared.Instruction.{Instruction}
use Rattle.isa.specs.declared.Instruction.TheVariants as i
use Rattle.buses.specs.Cells.{Cell, Cells, absent, plain, board, read_cell, write_cell, put_at}
use Rattle.buses.specs.Cells as bus
use Rattle.units.specs.declared.unit.Reply.{Reply}
use Rattle.units.specs.Laws.{ContentsBy, OperandsBy, FlagsBy, OutcomeBy}
use Rattle.units.specs.Meaning.{Contents, Operands, operands}
use Rattle.units.specs.Registers.{status_of}
use Rattle.cpu.specs.declared.state.Core.{Core}
use Rattle.cpu.specs.declared.state.Mode.TheVariants.{Waiting, Ended}
use Rattle.cpu.specs.Faults.{Stop, Layer, stop, of_core, of_bus, of_unit, from, and_then}
use Rattle.cpu.specs.Instructions.{Service, marked, above, below, has_flag, summed, combined, operated, steered, number_in, read_from, written_to, loaded, stored, stepped, status_byte, pushed, top, risen, popped, status_popped, branched, called, returned, enabled_read, enabled_set, pairs_copied, resumed, clears_line, line_cleared, ordered, flagged, replied}
use Rattle.cpu.specs.State.{State, register, with_register, with_registers, with_status, with_pc, with_sp, with_enabled, with_handling, with_mode}
use Rattle.cpu.specs.Steps.{Effect, over, leaves, on_core, or_core, or_both, effect}
use Rattle.terminal.specs.Relations.{StatusBy, CoreBy, CellBy, CellsBy, StateBy}
use Rattle.terminal.proofs.Cores.{registers_by, status_by, pc_by, sp_by, enabled_by, vectors_by, latched_by, mode_by, handling_by, pairs_by, register_by, put_by}
use Rattle.terminal.proofs.Follow.{Through, Same, same_cases, Follows, then_follows, apart, steered_by}
use Rattle.terminal.proofs.OneKind.{one_kind}

-- a unit whose answers are in relation where its uses are
abbrev pub Serves : Rel Marked → Service → Type 0
Serves R unit = (code : ℕ) (c d : Contents) (x y : Operands) → ContentsBy R c d → OperandsBy R x y → Same (OutcomeBy R) (unit code c x) (unit code d y)

pub record EffectBy (R : Rel Marked) (e f : Effect) : Type 0 where
  pub state : StateBy R e.state f.state
  pub wait : e.wait ≡ f.wait
  pub said : e.said ≡ f.said

abbrev BothBy : Rel Marked → Rel (Core × Cells)
BothBy R p q = CoreBy R p.0 q.0 × CellsBy R p.1 q.1

module _ {R : Rel Marked} {E : Type 0} (thr : Through R E) where
  -- what is worked out from one, two or three bytes

  unary : (f : ℕ → ℕ) (x y : Marked) → R x y → R (marked (f x.byte) x.mark) (marked (f y.byte) y.mark)
  unary f x y r = thr.worked (λ bs. f (get_or bs 0 0)) (x ∷ []) (y ∷ []) (r, tt)

  pub binary : (f : ℕ → ℕ → ℕ) (w x y z : Marked) → R w y → R x z → R (marked (f w.byte x.byte) (join w.mark x.mark)) (marked (f y.byte z.byte) (join y.mark z.mark))
  binary f w x y z r q = thr.worked (λ bs. f (get_or bs 0 0) (get_or bs 1 0)) (w ∷ x ∷ []) (y ∷ z ∷ []) (r, (q, tt))

  ternary : (f : ℕ → ℕ → ℕ → ℕ) (u v w x y z : Marked) → R u x → R v y → R w z →
      R (marked (f u.byte v.byte w.byte) (join u.mark (join v.mark w.mark))) (marked (f x.byte y.byte z.byte) (join x.mark (join y.mark z.mark)))
  ternary f u v w x y z r q p = thr.worked (λ bs. f (get_or bs 0 0) (get_or bs 1 0) (get_or bs 2 0)) (u ∷ v ∷ w ∷ []) (x ∷ y ∷ z ∷ []) (r, (q, (p, tt)))

  -- cells

  read_cell_lem : (l : Layer) (x y : Cell) → CellBy R x y → Follows R E (from l (read_cell x)) (from l (read_cell y))
  read_cell_lem l = one_kind R (λ x y. Follows R E (from l (read_cell x)) (from l (read_cell y))) (inl refl) (λ m n r. inl r) (λ b. inl (thr.constant b))

  show_cell : (a : ℕ) (m n : Marked) → R m n → Follows (CellBy R) E (from (of_bus a) (bus.shown m m.mark)) (from (of_bus a) (bus.shown n n.mark))
  show_cell a m n r = go m.mark n.mark refl refl where
    go : (p q : Mark) → m.mark ≡ p → n.mark ≡ q → Follows (CellBy R) E (from (of_bus a) (bus.shown m p)) (from (of_bus a) (bus.shown n q))
    go Held Held ep eq = inl refl
    go Held Unheld ep eq = ⊎_elim (λ e. apart (sym e ∙ ap held eq)) (λ e. inr (refl, e)) (thr.kept m n r (ap held ep))
    go Unheld Held ep eq = apart (sym (ap held eq) ∙ (thr.shown m n r (ap held ep)).0)
    go Unheld Unheld ep eq = inl (thr.shown m n r (ap held ep)).1

  write_cell_lem : (a : ℕ) (x y : Cell) (m n : Marked) → CellBy R x y → R m n → Follows (CellBy R) E (from (of_bus a) (write_cell x m)) (from (of_bus a) (write_cell y n))
  write_cell_lem a x y m n r q = one_kind R (λ x y. Follows (CellBy R) E (from (of_bus a) (write_cell x m)) (from (of_bus a) (write_cell y n))) (inl refl) (λ _ _ _. inl q) (λ _. show_cell a m n q) x y r

  pub put_cell : (xs ys : Cells) → CellsBy R xs ys → (a : ℕ) (c d : Cell) → CellBy R c d → CellsBy R (put_at xs a c) (put_at ys a d)
  put_cell xs ys h a c d r k = go (eqb k a) where
    go : (b : Bool) → CellBy R (cond b c (xs k)) (cond b d (ys k))
    go true = r
    go false = h k

  read_by : (xs ys : Cells) → CellsBy R xs ys → (a b : ℕ) → a ≡ b → Follows R E (read_from xs a) (read_from ys b)
  read_by xs ys h a b e = subst (λ (n : ℕ). Follows R E (read_from xs a) (read_from ys n)) e (read_cell_lem (of_bus a) (xs a) (ys a) (h a))

  write_by : (xs ys : Cells) → CellsBy R xs ys → (a b : ℕ) → a ≡ b → (m n : Marked) → R m n → Follows (CellsBy R) E (written_to xs a m) (written_to ys b n)
  write_by xs ys h a b e m n r =
      subst (λ (k : ℕ). Follows (CellsBy R) E (written_to xs a m) (written_to ys k n)) e
      (then_follows (CellBy R) (CellsBy R) (from (of_bus a) (write_cell (xs a) m)) (from (of_bus a) (write_cell (ys a) n)) (λ c. Ok (put_at xs a c)) (λ c. Ok (put_at ys a c))
      (write_cell_lem a (xs a) (ys a) m n (h a) r) (λ c d q. inl (put_cell xs ys h a c d q)))

  -- the core

  module _ (c d : Core) (h : CoreBy R c d) where
    reg : (n : ℕ) → R (register c n) (register d n)
    reg = register_by thr c d h

    low : R c.status.low d.status.low
    low = h.status.1

    summed_by : (dst : ℕ) (m n : Mark) (p q : ℕ × ℕ) → R (marked p.0 m) (marked q.0 n) → R (marked p.1 m) (marked q.1 n) → CoreBy R (summed c dst m p) (summed d dst n q)
    summed_by dst m n p q r f =
        status_by (with_register c dst (marked p.0 m)) (with_register d dst (marked q.0 n)) (put_by thr c d h dst (marked p.0 m) (marked q.0 n) r)
        (record { high = c.status.high; low = marked p.1 m }) (record { high = d.status.high; low = marked q.1 n }) (h.status.0, f)

    sum_by : (f : ℕ → ℕ → ℕ × ℕ) (src dst : ℕ) → CoreBy R (summed c dst (join (register c src).mark (register c dst).mark) (f (register c src).byte (register c dst).byte)) (summed d dst (join (register d src).mark (register d dst).mark) (f (register d src).byte (register d dst).byte))
    sum_by f src dst =
        summed_by dst _ _ (f (register c src).byte (register c dst).byte) (f (register d src).byte (register d dst).byte)
        (binary (λ a b. (f a b).0) (register c src) (register c dst) (register d src) (register d dst) (reg src) (reg dst))
        (binary (λ a b. (f a b).1) (register c src) (register c dst) (register d src) (register d dst) (reg src) (reg dst))

    carry_by : (f : ℕ → ℕ → Bool → ℕ × ℕ) (src dst : ℕ) →
        CoreBy R (summed c dst (join (register c src).mark (join (register c dst).mark c.status.low.mark)) (f (register c src).byte (register c dst).byte (has_flag c.status.low.byte Carry)))
        (summed d dst (join (register d src).mark (join (register d dst).mark d.status.low.mark)) (f (register d src).byte (register d dst).byte (has_flag d.status.low.byte Carry)))
    carry_by f src dst =
        summed_by dst _ _ (f (register c src).byte (register c dst).byte (has_flag c.status.low.byte Carry)) (f (register d src).byte (register d dst).byte (has_flag d.status.low.byte Carry))
        (ternary (λ a b l. (f a b (has_flag l Carry)).0) (register c src) (register c dst) c.status.low (register d src) (register d dst) d.status.low (reg src) (reg dst) low)
        (ternary (λ a b l. (f a b (has_flag l Carry)).1) (register c src) (register c dst) c.status.low (register d src) (register d dst) d.status.low (reg src) (reg dst) low)

    amount_by : (f : ℕ → ℕ × ℕ) (dst : ℕ) → CoreBy R (summed c dst (register c dst).mark (f (register c dst).byte)) (summed d dst (register d dst).mark (f (register d dst).byte))
    amount_by f dst =
        summed_by dst _ _ (f (register c dst).byte) (f (register d dst).byte)
        (unary (λ a. (f a).0) (register c dst) (register d dst) (reg dst))
        (unary (λ a. (f a).1) (register c dst) (register d dst) (reg dst))

    combined_by : (f : ℕ → ℕ → ℕ) (src dst : ℕ) → CoreBy R (combined c f src dst) (combined d f src dst)
    combined_by f src dst = put_by thr c d h dst _ _ (binary f (register c src) (register c dst) (register d src) (register d dst) (reg src) (reg dst))

    operated_by : (op : Alu) (src dst : ℕ) → CoreBy R (operated c op src dst) (operated d op src dst)
    operated_by alu.Add src dst = sum_by (λ a b. sum a b false) src dst
    operated_by alu.Sub src dst = sum_by (λ a b. difference a b false) src dst
    operated_by alu.And src dst = combined_by bit_and src dst
    operated_by alu.Lor src dst = combined_by bit_or src dst
    operated_by alu.Sll src dst = combined_by (λ amount b. shifted_left b amount) src dst
    operated_by alu.Rol src dst = combined_by (λ amount b. turned_left b amount) src dst
    operated_by alu.Srl src dst = combined_by (λ amount b. shifted_right b amount) src dst
    operated_by alu.Ror src dst = combined_by (λ amount b. turned_right b amount) src dst
    operated_by alu.Not src dst = put_by thr c d h dst _ _ (unary (λ a. 255 - a) (register c src) (register d src) (reg src))
    operated_by alu.Xor src dst = combined_by bit_xor src dst
    operated_by alu.Adc src dst = carry_by sum src dst
    operated_by alu.Sbc src dst = carry_by difference src dst

    number_by : (pair : ℕ) → Follows ◌≡◌ E (number_in c pair) (number_in d pair)
    number_by pair = steered_by thr 34 _ _ (binary (λ l u. u * 256 + l) (register c pair) (register c (pair + 8)) (register d pair) (register d (pair + 8)) (reg pair) (reg (pair + 8))) refl

    stepped_by : (pair : ℕ) → CoreBy R (stepped c pair) (stepped d pair)
    stepped_by pair = put_by thr c d h pair _ _ (unary (λ a. (a + 1) % 256) (register c pair) (register d pair) (reg pair))

    risen_by : CoreBy R (risen c) (risen d)
    risen_by = sp_by c d h _ _ (ap above h.sp)

    status_byte_by : R (status_byte c.status) (status_byte d.status)
    status_byte_by = binary (λ u l. (u * 16 + l) % 256) c.status.high c.status.low d.status.high d.status.low h.status.0 low

    branched_by : (f : Flag) (target : ℕ) → Follows (CoreBy R) E (branched c f target) (branched d f target)
    branched_by f target =
        then_follows ◌≡◌ (CoreBy R) (steered 33 c.status.low) (steered 33 d.status.low) (λ flags. Ok (cond (has_flag flags f) (with_pc c target) c)) (λ flags. Ok (cond (has_flag flags f) (with_pc d target) d))
        (steered_by thr 33 c.status.low d.status.low low refl)
        (λ m n e. inl (subst (λ (k : ℕ). CoreBy R (cond (has_flag m f) (with_pc c target) c) (cond (has_flag k f) (with_pc d target) d)) e (go (has_flag m f)))) where
          go : (b : Bool) → CoreBy R (cond b (with_pc c target) c) (cond b (with_pc d target) d)
          go true = pc_by c d h target target refl
          go false = h

    enabled_read_by : (pair : ℕ) → CoreBy R (enabled_read c pair) (enabled_read d pair)
    enabled_read_by pair =
        put_by thr (with_register c pair (unheld (c.enabled % 256))) (with_register d pair (unheld (d.enabled % 256)))
        (put_by thr c d h pair _ _ (same (λ n. n % 256))) (pair + 8) _ _ (same (λ n. n / 256)) where
          same : (f : ℕ → ℕ) → R (unheld (f c.enabled)) (unheld (f d.enabled))
          same f = subst (λ (n : ℕ). R (unheld (f c.enabled)) (unheld (f n))) h.enabled (thr.constant (f c.enabled))

    enabled_set_by : (pair : ℕ) → Follows (CoreBy R) E (enabled_set c pair) (enabled_set d pair)
    enabled_set_by pair = then_follows ◌≡◌ (CoreBy R) (number_in c pair) (number_in d pair) (λ n. Ok (with_enabled c n)) (λ n. Ok (with_enabled d n)) (number_by pair) (λ m n e. inl (enabled_by c d h m n e))

    resumed_by : Follows (CoreBy R) E (resumed c) (resumed d)
    resumed_by = subst (λ (b : Bool). Follows (CoreBy R) E (resumed c) (cond b (Ok (back d)) (Err (stop 32 of_core)))) h.handling (go c.handling) where
      copied : Core → Core
      copied x = with_registers x (pairs_copied x.pairs x.saved.registers x.registers)

      back : Core → Core
      back x = with_handling (with_pc (with_status (copied x) x.saved.status) x.saved.pc) false

      pairs_back : Pointwise R (pairs_copied c.pairs c.saved.registers c.registers) (pairs_copied d.pairs d.saved.registers d.registers)
      pairs_back = subst (λ (n : ℕ). Pointwise R (pairs_copied c.pairs c.saved.registers c.registers) (pairs_copied n d.saved.registers d.registers)) h.pairs (pairs_by thr c.pairs _ _ _ _ h.saved.registers h.registers)

      go : (b : Bool) → Follows (CoreBy R) E (cond b (Ok (back c)) (Err (stop 32 of_core))) (cond b (Ok (back d)) (Err (stop 32 of_core)))
      go true =
          inl (handling_by (with_pc (with_status (copied c) c.saved.status) c.saved.pc) (with_pc (with_status (copied d) d.saved.status) d.saved.pc)
          (pc_by (with_status (copied c) c.saved.status) (with_status (copied d) d.saved.status)
          (status_by (copied c) (copied d) (registers_by c d h _ _ pairs_back) c.saved.status d.saved.status h.saved.status)
          c.saved.pc d.saved.pc h.saved.pc)
          false false refl)
      go false = inl refl

    ordered_by : (byte : ℕ) → CoreBy R (ordered c byte) (ordered d byte)
    ordered_by byte = go (clears_line byte) (eqb byte 0xFF) where
      go : (a b : Bool) → CoreBy R (cond a (line_cleared c (byte - 0x10)) (cond b (with_mode c Ended) c)) (cond a (line_cleared d (byte - 0x10)) (cond b (with_mode d Ended) d))
      go true b = latched_by c d h _ _ (ap (λ (n : ℕ). bit_and n (65535 - 2 ^ (byte - 0x10))) h.latched)
      go false true = mode_by c d h Ended Ended refl
      go false false = h

    module _ (xs ys : Cells) (cs : CellsBy R xs ys) where
      loaded_by : (pair dst : ℕ) → Follows (CoreBy R) E (loaded c xs pair dst) (loaded d ys pair dst)
      loaded_by pair dst =
          then_follows ◌≡◌ (CoreBy R) (number_in c pair) (number_in d pair) (λ a. and_then (read_from xs a) (λ m. Ok (with_register c dst m))) (λ a. and_then (read_from ys a) (λ m. Ok (with_register d dst m))) (number_by pair)
          (λ a b e. then_follows R (CoreBy R) (read_from xs a) (read_from ys b) (λ m. Ok (with_register c dst m)) (λ m. Ok (with_register d dst m)) (read_by xs ys cs a b e) (λ m n r. inl (put_by thr c d h dst m n r)))

      stored_by : (src pair : ℕ) → Follows (CellsBy R) E (stored c xs src pair) (stored d ys src pair)
      stored_by src pair =
          then_follows ◌≡◌ (CellsBy R) (number_in c pair) (number_in d pair) (λ a. written_to xs a (register c src)) (λ a. written_to ys a (register d src)) (number_by pair)
          (λ a b e. write_by xs ys cs a b e (register c src) (register d src) (reg src))

      pushed_by : (m n : Marked) → R m n → Follows (BothBy R) E (pushed c xs m) (pushed d ys n)
      pushed_by m n r =
          then_follows (CellsBy R) (BothBy R) (written_to xs c.sp m) (written_to ys d.sp n) (λ after. Ok (with_sp c (below c.sp), after)) (λ after. Ok (with_sp d (below d.sp), after))
          (write_by xs ys cs c.sp d.sp h.sp m n r) (λ us vs w. inl (sp_by c d h _ _ (ap below h.sp), w))

      top_by : Follows R E (top c xs) (top d ys)
      top_by = read_by xs ys cs (above c.sp) (above d.sp) (ap above h.sp)

      popped_by : (dst : ℕ) → Follows (CoreBy R) E (popped c xs dst) (popped d ys dst)
      popped_by dst = then_follows R (CoreBy R) (top c xs) (top d ys) (λ m. Ok (with_register (risen c) dst m)) (λ m. Ok (with_register (risen d) dst m)) top_by (λ m n r. inl (put_by thr (risen c) (risen d) risen_by dst m n r))

      status_of_by : (m n : Marked) → R m n → StatusBy R (status_of m) (status_of n)
      status_of_by m n r = (unary (λ b. b / 16) m n r, unary (λ b. b % 16) m n r)

      status_popped_by : Follows (CoreBy R) E (status_popped c xs) (status_popped d ys)
      status_popped_by = then_follows R (CoreBy R) (top c xs) (top d ys) (λ m. Ok (with_status (risen c) (status_of m))) (λ m. Ok (with_status (risen d) (status_of m))) top_by (λ m n r. inl (status_by (risen c) (risen d) risen_by (status_of m) (status_of n) (status_of_by m n r)))

      -- a byte of a return address
      address_by : Follows ◌≡◌ E (and_then (top c xs) (steered 35)) (and_then (top d ys) (steered 35))
      address_by = then_follows R ◌≡◌ (top c xs) (top d ys) (steered 35) (steered 35) top_by (λ m n r. steered_by thr 35 m n r refl)

  module _ (c d : Core) (h : CoreBy R c d) (xs ys : Cells) (cs : CellsBy R xs ys) where
    returned_by : Follows (CoreBy R) E (returned c xs) (returned d ys)
    returned_by =
        then_follows ◌≡◌ (CoreBy R) (and_then (top c xs) (steered 35)) (and_then (top d ys) (steered 35)) (later c xs) (later d ys) (address_by c d h xs ys cs)
        (λ l k e. then_follows ◌≡◌ (CoreBy R) (and_then (top (risen c) xs) (steered 35)) (and_then (top (risen d) ys) (steered 35)) (end c l) (end d k) (address_by (risen c) (risen d) (risen_by c d h) xs ys cs)
        (λ u v f. inl (pc_by (risen (risen c)) (risen (risen d)) (risen_by (risen c) (risen d) (risen_by c d h)) (u % 16 * 256 + l) (v % 16 * 256 + k) (λ i. f i % 16 * 256 + e i)))) where
          end : Core → ℕ → ℕ → Result Core Stop
          end x l u = Ok (with_pc (risen (risen x)) (u % 16 * 256 + l))

          later : Core → Cells → ℕ → Result Core Stop
          later x zs l = and_then (and_then (top (risen x) zs) (steered 35)) (end x l)

    called_by : (target : ℕ) → Follows (BothBy R) E (called c xs target) (called d ys target)
    called_by target =
        then_follows (BothBy R) (BothBy R) (pushed c xs (unheld (c.pc / 256))) (pushed d ys (unheld (d.pc / 256))) (later c) (later d) (pushed_by c d h xs ys cs _ _ (same (λ n. n / 256)))
        (λ p q r. then_follows (BothBy R) (BothBy R) (pushed p.0 p.1 (unheld (c.pc % 256))) (pushed q.0 q.1 (unheld (d.pc % 256))) end end (pushed_by p.0 q.0 r.0 p.1 q.1 r.1 _ _ (same (λ n. n % 256)))
        (λ u v w. inl (pc_by u.0 v.0 w.0 target target refl, w.1))) where
          end : Core × Cells → Result (Core × Cells) Stop
          end second = Ok (with_pc second.0 target, second.1)

          later : Core → Core × Cells → Result (Core × Cells) Stop
          later x first = and_then (pushed first.0 first.1 (unheld (x.pc % 256))) end

          same : (f : ℕ → ℕ) → R (unheld (f c.pc)) (unheld (f d.pc))
          same f = subst (λ (n : ℕ). R (unheld (f c.pc)) (unheld (f n))) h.pc (thr.constant (f c.pc))

  module _ (s t : State) (h : StateBy R s t) where
    over_by : (c d : Core) (xs ys : Cells) → CoreBy R c d → CellsBy R xs ys → StateBy R (over s c xs) (over t d ys)
    over_by c d xs ys p q = record { core = p; cells = q; contents = h.contents }

    leaves_by : (c d : Core) (xs ys : Cells) → CoreBy R c d → CellsBy R xs ys → Follows (EffectBy R) E (leaves (over s c xs)) (leaves (over t d ys))
    leaves_by c d xs ys p q = inl (record { state = over_by c d xs ys p q; wait = refl; said = refl })

    core_by : (c d : Core) → CoreBy R c d → Follows (EffectBy R) E (on_core s c) (on_core t d)
    core_by c d p = leaves_by c d s.cells t.cells p h.cells

    or_core_by : (o p : Result Core Stop) → Follows (CoreBy R) E o p → Follows (EffectBy R) E (or_core s o) (or_core t p)
    or_core_by o p f = then_follows (CoreBy R) (EffectBy R) o p (λ c. on_core s c) (λ d. on_core t d) f core_by

    or_both_by : (o p : Result (Core × Cells) Stop) → Follows (BothBy R) E o p → Follows (EffectBy R) E (or_both s o) (or_both t p)
    or_both_by o p f = then_follows (BothBy R) (EffectBy R) o p (λ x. leaves (over s x.0 x.1)) (λ y. leaves (over t y.0 y.1)) f (λ x y r. leaves_by x.0 y.0 x.1 y.1 r.0 r.1)

    stores_by : (o p : Result Cells Stop) (c d : Core) → CoreBy R c d → Follows (CellsBy R) E o p → Follows (EffectBy R) E (and_then o (λ xs. leaves (over s c xs))) (and_then p (λ ys. leaves (over t d ys)))
    stores_by o p c d r f = then_follows (CellsBy R) (EffectBy R) o p (λ xs. leaves (over s c xs)) (λ ys. leaves (over t d ys)) f (λ xs ys q. leaves_by c d xs ys r q)

    replied_by : (dst : ℕ) (x y : Reply) → R x.result y.result → FlagsBy R x.flags y.flags → CoreBy R (replied s.core dst x) (replied t.core dst y)
    replied_by dst x y r f = go x.flags y.flags f where
      put : CoreBy R (with_register s.core dst x.result) (with_register t.core dst y.result)
      put = put_by thr s.core t.core h.core dst x.result y.result r

      go : (o p : Option Marked) → FlagsBy R o p → CoreBy R (flagged (with_register s.core dst x.result) o) (flagged (with_register t.core dst y.result) p)
      go None None q = put
      go None (Some n) q = absurd q
      go (Some m) None q = absurd q
      go (Some m) (Some n) q = status_by (with_register s.core dst x.result) (with_register t.core dst y.result) put (status_of m) (status_of n) (status_of_by s.core t.core h.core s.cells t.cells h.cells m n q)

    module _ (unit : Service) (serves : Serves R unit) where
      extended_by : (code src dst : ℕ) → Follows (EffectBy R) E (effect unit (i.Aluc code src dst) s) (effect unit (i.Aluc code src dst) t)
      extended_by code src dst = go _ _ (serves code s.contents t.contents (operands (register s.core src) (register s.core dst) s.core.status) (operands (register t.core src) (register t.core dst) t.core.status) h.contents (reg s.core t.core h.core src, reg s.core t.core h.core dst, h.core.status.0, h.core.status.1)) where
        end : State → Reply × Contents → Result Effect Stop
        end x p = Ok (record { state = record { core = replied x.core dst p.0; cells = x.cells; contents = p.1 }; wait = p.0.wait; said = None })

        go : (o p : Result (Reply × Contents) ℕ) → Same (OutcomeBy R) o p → Follows (EffectBy R) E (and_then (from (of_unit code) o) (end s)) (and_then (from (of_unit code) p) (end t))
        go =
            same_cases (OutcomeBy R) (λ o p. Follows (EffectBy R) E (and_then (from (of_unit code) o) (end s)) (and_then (from (of_unit code) p) (end t)))
            (λ x y r. inl (record { state = record { core = replied_by dst x.0 y.0 r.0.0 r.0.2; cells = h.cells; contents = r.1 }; wait = r.0.1; said = refl }))
            (λ n. inl refl)

      pub effect_by : (x : Instruction) → Follows (EffectBy R) E (effect unit x s) (effect unit x t)
      effect_by (i.Mvs top) = core_by _ _ (sp_by s.core t.core h.core _ _ refl)
      effect_by (i.Mvv handler vector) = core_by _ _ (vectors_by s.core t.core h.core _ _ (ap (λ (vs : List ℕ). set vs vector (handler / 16 % 256)) h.core.vectors))
      effect_by (i.Jmp target) = core_by _ _ (pc_by s.core t.core h.core target target refl)
      effect_by (i.Jsr target) = or_both_by _ _ (called_by s.core t.core h.core s.cells t.cells h.cells target)
      effect_by (i.Branch flag target) = or_core_by _ _ (branched_by s.core t.core h.core flag target)
      effect_by (i.Mvi byte dst) = core_by _ _ (put_by thr s.core t.core h.core dst _ _ (thr.constant byte))
      effect_by (i.Alu op src dst) = core_by _ _ (operated_by s.core t.core h.core op src dst)
      effect_by (i.Adi amount dst) = core_by _ _ (amount_by s.core t.core h.core (λ a. raised a amount) dst)
      effect_by (i.Sbi amount dst) = core_by _ _ (amount_by s.core t.core h.core (λ a. lowered a amount) dst)
      effect_by (i.Aluc code src dst) = extended_by code src dst
      effect_by (i.Mov src dst) = core_by _ _ (put_by thr s.core t.core h.core dst _ _ (reg s.core t.core h.core src))
      effect_by (i.Ldb pair dst) = or_core_by _ _ (loaded_by s.core t.core h.core s.cells t.cells h.cells pair dst)
      effect_by (i.Lpb pair dst) =
          or_core_by _ _ (then_follows (CoreBy R) (CoreBy R) (loaded s.core s.cells pair dst) (loaded t.core t.cells pair dst) (λ c. Ok (stepped c pair)) (λ d. Ok (stepped d pair))
          (loaded_by s.core t.core h.core s.cells t.cells h.cells pair dst) (λ c d r. inl (stepped_by c d r pair)))
      effect_by (i.Stb src pair) = stores_by _ _ s.core t.core h.core (stored_by s.core t.core h.core s.cells t.cells h.cells src pair)
      effect_by (i.Spb src pair) = stores_by _ _ _ _ (stepped_by s.core t.core h.core pair) (stored_by s.core t.core h.core s.cells t.cells h.cells src pair)
      effect_by i.Ret = or_core_by _ _ (returned_by s.core t.core h.core s.cells t.cells h.cells)
      effect_by i.Str = or_both_by _ _ (pushed_by s.core t.core h.core s.cells t.cells h.cells _ _ (status_byte_by s.core t.core h.core))
      effect_by i.Lsr = or_core_by _ _ (status_popped_by s.core t.core h.core s.cells t.cells h.cells)
      effect_by (i.Rie pair) = core_by _ _ (enabled_read_by s.core t.core h.core pair)
      effect_by (i.Sie pair) = or_core_by _ _ (enabled_set_by s.core t.core h.core pair)
      effect_by i.Hlt = core_by _ _ (mode_by s.core t.core h.core Waiting Waiting refl)
      effect_by i.Rti = or_core_by _ _ (resumed_by s.core t.core h.core)
      effect_by (i.Sys byte) = inl (record { state = over_by _ _ _ _ (ordered_by s.core t.core h.core byte) h.cells; wait = refl; said = refl })
      effect_by (i.Psh src) = or_both_by _ _ (pushed_by s.core t.core h.core s.cells t.cells h.cells _ _ (reg s.core t.core h.core src))
      effect_by (i.Pop dst) = or_core_by _ _ (popped_by s.core t.core h.core s.cells t.cells h.cells dst)
