-- Terminals in relation answer each call alike, unless the first is refused or stopped over a held byte. Assumes nothing.
use Rattle.std.proofs.Common.{◌≡◌, ℕ, ◌+◌, ◌*◌, ◌%◌, ◌^◌, ◌<◌, Bool, true, false, cond, not, ◌||◌, eqb, ltb, leb, ◌⊎◌, List, [], ◌∷◌, length, get_or, Ok, Err, Result, sym, refl, ap, ◌∙◌, subst, inl, inr, ⊎_elim}
use lib.Bits.{bit_or}
use Rattle.std.proofs.lemmas.Bool.{eqb-true, leb-false}
use Rattle.marks.specs.declared.Marked.{Marked}
use Rattle.marks.specs.Marks.{held, unheld}
use Rattle.marks.specs.Relations.{Rel, All}
use Rattle.buses.specs.Cells.{Cell, Cells, absent, plain, board, read_cell, write_cell, lift_cell, put_at, settled}
use Rattle.cpu.specs.declared.state.Core.{Core}
use Rattle.cpu.specs.declared.state.Mode.{Mode}
use Rattle.cpu.specs.declared.state.Mode.TheVariants.{Going}
use Rattle.cpu.specs.Instructions.{Service, marked, status_byte}
use Rattle.cpu.specs.Runs as runs
use Rattle.cpu.specs.Runs.{Ran}
use Rattle.cpu.specs.State as state
use Rattle.cpu.specs.State.{cleared, with_pc, with_mode, with_handling, with_latched}
use Rattle.terminal.specs.declared.interval.Interval.{Interval}
use Rattle.terminal.specs.declared.interval.Seal.{Seal}
use Rattle.terminal.specs.Calls.{Call, load, start, raise, run, put, opening, entry, close, cell, register, status, Answer, done, opened, ran, byte, stands, refused, unclosed, changes, tells, opens, closes, respond}
use Rattle.terminal.specs.Calls as calls
use Rattle.terminal.specs.Relations.{CoreBy, CellBy, CellsBy, TerminalBy}
use Rattle.terminal.specs.Terminals as does
use Rattle.terminal.specs.Terminals.{Terminal, with_core, with_cells, unless, and_then, outside, addresses, cells_of, is_plain, checked, mark_of, cells_written, cells_entered, shown}
use Rattle.terminal.specs.Theorems.{byte_in, over_held}
use Rattle.terminal.proofs.Cores.{cleared_by, pc_by, mode_by, handling_by, latched_by, register_by}
use Rattle.terminal.proofs.Effects.{Serves, binary, put_cell}
use Rattle.terminal.proofs.Follow.{Through, Same, same_cases, apart}
use Rattle.terminal.proofs.Intervals.{checked_plain, not_both}
use Rattle.terminal.proofs.OneKind.{one_kind}
use Rattle.terminal.proofs.Runs.{RunFollows, run_by}

-- answers that hand out no interval
abbrev pub is_plain_answer : Answer → Bool
is_plain_answer done = true
is_plain_answer (opened i) = false
is_plain_answer (ran steps cycles e) = true
is_plain_answer (byte b) = true
is_plain_answer (stands mode pc sp enabled latched handling) = true
is_plain_answer (refused n) = true
is_plain_answer (unclosed n i) = false

-- answers by a relation V, terminals by R, or the first over a held byte
abbrev pub RespondBy : Rel Marked → Type 0 → Rel Answer → Rel (Answer × Terminal)
RespondBy R E V p q = (V p.0 q.0 × TerminalBy R p.1 q.1) ⊎ ((over_held p.0 ≡ true) × E)

-- lifting a cell leaves every byte
lift_bytes : (xs : Cells) (a k : ℕ) → byte_in (settled xs a (lift_cell (xs a)) k) ≡ byte_in (xs k)
lift_bytes xs a k = go (xs a) refl where
  at : (b : Bool) → eqb k a ≡ b → (c d : Cell) → xs a ≡ c → byte_in c ≡ byte_in d → byte_in (cond b d (xs k)) ≡ byte_in (xs k)
  at true e c d f g = sym g ∙ ap byte_in (sym f) ∙ ap (λ (n : ℕ). byte_in (xs n)) (sym (eqb-true k a e))
  at false e c d f g = refl

  go : (c : Cell) → xs a ≡ c → byte_in (settled xs a (lift_cell c) k) ≡ byte_in (xs k)
  go absent e = refl
  go (plain m) e = at (eqb k a) refl (plain m) (plain (unheld m.byte)) e refl
  go (board b) e = at (eqb k a) refl (board b) (board b) e refl

module _ {R : Rel Marked} {E : Type 0} (thr : Through R E) where
  lift_cell_lem : (xs ys : Cells) → CellsBy R xs ys → (a : ℕ) → (x y : Cell) → CellBy R x y → byte_in x ≡ byte_in y → CellsBy R (settled xs a (lift_cell x)) (settled ys a (lift_cell y))
  lift_cell_lem xs ys h a =
      one_kind R (λ x y. byte_in x ≡ byte_in y → CellsBy R (settled xs a (lift_cell x)) (settled ys a (lift_cell y))) (λ e. h)
      (λ m n r e. put_cell thr xs ys h a (plain (unheld m.byte)) (plain (unheld n.byte)) (subst (λ (k : ℕ). R (unheld m.byte) (unheld k)) e (thr.constant m.byte)))
      (λ b e. put_cell thr xs ys h a (board b) (board b) refl)

  still_equal : (xs ys : Cells) (a : ℕ) (places : List ℕ) → All (λ k. byte_in (xs k) ≡ byte_in (ys k)) places → All (λ k. byte_in (settled xs a (lift_cell (xs a)) k) ≡ byte_in (settled ys a (lift_cell (ys a)) k)) places
  still_equal xs ys a [] p = tt
  still_equal xs ys a (k ∷ more) p = (lift_bytes xs a k ∙ p.0 ∙ sym (lift_bytes ys a k), still_equal xs ys a more p.1)

  lifted_by : (places : List ℕ) (xs ys : Cells) → CellsBy R xs ys → All (λ a. byte_in (xs a) ≡ byte_in (ys a)) places → CellsBy R (does.lifted xs places) (does.lifted ys places)
  lifted_by [] xs ys h p = h
  lifted_by (a ∷ more) xs ys h p = lifted_by more (settled xs a (lift_cell (xs a))) (settled ys a (lift_cell (ys a))) (lift_cell_lem xs ys h a (xs a) (ys a) (h a) p.0) (still_equal xs ys a more p.1)

module _ {R : Rel Marked} {E : Type 0} (thr : Through R E) (V : Rel Answer) (equal : (a b : Answer) → is_plain_answer a ≡ true → a ≡ b → V a b) where
  module _ (s t : Terminal) (h : TerminalBy R s t) where
    cs : CellsBy R s.machine.cells t.machine.cells
    cs = h.machine.cells

    core_by : (c d : Core) → CoreBy R c d → TerminalBy R (with_core s c) (with_core t d)
    core_by c d r = record { program = h.program; machine = record { core = r; cells = cs; contents = h.machine.contents } }

    cells_by : (xs ys : Cells) → CellsBy R xs ys → TerminalBy R (with_cells s xs) (with_cells t ys)
    cells_by xs ys r = record { program = h.program; machine = record { core = h.machine.core; cells = r; contents = h.machine.contents } }

    refusal : (n : ℕ) → RespondBy R E V (refused n, s) (refused n, t)
    refusal n = inl (equal (refused n) (refused n) refl refl, h)

    changes_by : (o p : Result Terminal ℕ) → Same (TerminalBy R) o p → RespondBy R E V (changes s o) (changes t p)
    changes_by = same_cases (TerminalBy R) (λ o p. RespondBy R E V (changes s o) (changes t p)) (λ u v r. inl (equal done done refl refl, r)) refusal

    -- load, start, raise

    same_unless : {A : Type 0} (Q : Rel A) (b : Bool) (n : ℕ) (o p : Result A ℕ) → Same Q o p → Same Q (unless b n o) (unless b n p)
    same_unless Q true n o p r = refl
    same_unless Q false n o p r = r

    pub load_by : (pairs : ℕ) (program : List ℕ) → RespondBy R E V (changes s (does.loaded pairs program s)) (changes t (does.loaded pairs program t))
    load_by pairs program =
        changes_by (does.loaded pairs program s) (does.loaded pairs program t)
        (same_unless (TerminalBy R) (outside 1 4096 (length program)) 1 _ _ (same_unless (TerminalBy R) (outside 1 8 pairs) 2 _ _
        (record { program = refl; machine = record { core = cleared_by thr pairs; cells = cs; contents = h.machine.contents } })))

    pub start_by : RespondBy R E V (changes s (does.started s)) (changes t (does.started t))
    start_by =
        subst (λ (p : List ℕ). RespondBy R E V (changes s (does.started s)) (changes t (unless (eqb (length p) 0) 23 (Ok (with_core t (begun t.machine.core)))))) h.program
        (changes_by (does.started s) (unless (eqb (length s.program) 0) 23 (Ok (with_core t (begun t.machine.core))))
        (same_unless (TerminalBy R) (eqb (length s.program) 0) 23 _ _
        (core_by _ _ (mode_by (with_handling (with_pc s.machine.core 0) false) (with_handling (with_pc t.machine.core 0) false)
        (handling_by (with_pc s.machine.core 0) (with_pc t.machine.core 0) (pc_by s.machine.core t.machine.core h.machine.core 0 0 refl) false false refl) Going Going refl)))) where
          begun : Core → Core
          begun c = with_mode (with_handling (with_pc c 0) false) Going

    pub raise_by : (line : ℕ) → RespondBy R E V (changes s (does.raised line s)) (changes t (does.raised line t))
    raise_by line =
        changes_by (does.raised line s) (does.raised line t)
        (same_unless (TerminalBy R) (ltb 15 line) 3 _ _
        (core_by _ _ (latched_by s.machine.core t.machine.core h.machine.core _ _ (ap (λ (n : ℕ). bit_or n (2 ^ line)) h.machine.core.latched))))

    -- cell, register, status

    abbrev told_of_lem : Result ℕ ℕ → Answer
    told_of_lem o = (tells s o).0

    tells_by : (o p : Result ℕ ℕ) → (o ≡ p) ⊎ ((o ≡ Err 22) × E) → RespondBy R E V (tells s o) (tells t p)
    tells_by (Ok a) (Ok b) (inl e) = inl (equal (byte a) (byte b) refl (ap told_of_lem e), h)
    tells_by (Ok a) (Err n) (inl e) = inl (equal (byte a) (refused n) refl (ap told_of_lem e), h)
    tells_by (Err m) (Ok b) (inl e) = inl (equal (refused m) (byte b) refl (ap told_of_lem e), h)
    tells_by (Err m) (Err n) (inl e) = inl (equal (refused m) (refused n) refl (ap told_of_lem e), h)
    tells_by o p (inr x) = inr (ap (λ r. over_held (told_of_lem r)) x.0, x.1)

    shown_by : (x y : Marked) → R x y → (shown x ≡ shown y) ⊎ ((shown x ≡ Err 22) × E)
    shown_by x y r = go (held x.mark) (held y.mark) refl refl where
      go : (a b : Bool) → held x.mark ≡ a → held y.mark ≡ b → (unless a 22 (Ok x.byte) ≡ unless b 22 (Ok y.byte)) ⊎ ((unless a 22 (Ok x.byte) ≡ Err 22) × E)
      go true true ea eb = inl refl
      go true false ea eb = ⊎_elim (λ e. apart (sym e ∙ eb)) (λ e. inr (refl, e)) (thr.kept x y r ea)
      go false true ea eb = apart (sym eb ∙ (thr.shown x y r ea).0)
      go false false ea eb = inl (ap Ok (thr.shown x y r ea).1)

    cell_shown_lem : (x y : Cell) → CellBy R x y → (and_then (read_cell x) shown ≡ and_then (read_cell y) shown) ⊎ ((and_then (read_cell x) shown ≡ Err 22) × E)
    cell_shown_lem = one_kind R (λ x y. (and_then (read_cell x) shown ≡ and_then (read_cell y) shown) ⊎ ((and_then (read_cell x) shown ≡ Err 22) × E)) (inl refl) (λ m n r. shown_by m n r) (λ _. inl refl)

    pub cell_by : (a : ℕ) → RespondBy R E V (tells s (does.cell_shown a s)) (tells t (does.cell_shown a t))
    cell_by a = tells_by (does.cell_shown a s) (does.cell_shown a t) (cell_shown_lem (s.machine.cells a) (t.machine.cells a) (cs a))

    pub register_told : (n : ℕ) → RespondBy R E V (tells s (does.register_shown n s)) (tells t (does.register_shown n t))
    register_told n = tells_by (does.register_shown n s) (does.register_shown n t) (go (ltb 16 n) (eqb n 16)) where
      c : Core
      c = s.machine.core

      d : Core
      d = t.machine.core

      status_by : (shown (status_byte c.status) ≡ shown (status_byte d.status)) ⊎ ((shown (status_byte c.status) ≡ Err 22) × E)
      status_by = shown_by _ _ (binary thr (λ u l. (u * 16 + l) % 256) c.status.high c.status.low d.status.high d.status.low h.machine.core.status.0 h.machine.core.status.1)

      go : (a b : Bool) → let o = unless a 4 (cond b (shown (status_byte c.status)) (shown (state.register c n))) in (o ≡ unless a 4 (cond b (shown (status_byte d.status)) (shown (state.register d n)))) ⊎ ((o ≡ Err 22) × E)
      go true b = inl refl
      go false true = status_by
      go false false = shown_by _ _ (register_by thr c d h.machine.core n)

    pub status_told : (unit : Service) → RespondBy R E V (respond unit status s) (respond unit status t)
    status_told unit =
        let c = h.machine.core in
        inl (equal _ _ refl (λ i. stands (c.mode i) (c.pc i) (c.sp i) (c.enabled i) (c.latched i) (c.handling i)), h)

    -- run

    runs_by : (o p : Result Ran ℕ) → Same (RunFollows R E) o p → RespondBy R E V (calls.runs s o) (calls.runs t p)
    runs_by = same_cases (RunFollows R E) (λ o p. RespondBy R E V (calls.runs s o) (calls.runs t p)) both refusal where
      both : (x y : Ran) → RunFollows R E x y → RespondBy R E V (calls.runs s (Ok x)) (calls.runs t (Ok y))
      both x y (inl r) = inl (equal _ _ refl (λ i. ran (r.steps i) (r.cycles i) (r.ending i)), record { program = h.program; machine = r.state })
      both x y (inr r) = inr r

    pub run_told : (unit : Service) → Serves R unit → (budget : ℕ) → RespondBy R E V (calls.runs s (does.ran unit budget s)) (calls.runs t (does.ran unit budget t))
    run_told unit serves budget =
        runs_by (does.ran unit budget s) (does.ran unit budget t)
        (subst (λ (m : Mode). Same (RunFollows R E) (does.ran unit budget s) (unless (outside 1 1000000 budget) 7 (unless (not (does.runs m)) 24 (Ok (runs.run unit t.program budget t.machine))))) h.machine.core.mode
        (same_unless (RunFollows R E) (outside 1 1000000 budget) 7 _ _ (same_unless (RunFollows R E) (not (does.runs s.machine.core.mode)) 24 _ _
        (subst (λ (p : List ℕ). RunFollows R E (runs.run unit s.program budget s.machine) (runs.run unit p budget t.machine)) h.program
        (run_by thr unit serves s.program budget s.machine t.machine h.machine)))))

    -- put

    written_by : (b : ℕ) (x y : Cell) → CellBy R x y → Same (CellBy R) (write_cell x (unheld b)) (write_cell y (unheld b))
    written_by b = one_kind R (λ x y. Same (CellBy R) (write_cell x (unheld b)) (write_cell y (unheld b))) refl (λ _ _ _. thr.constant b) (λ _. refl)

    put_cells : (a : ℕ) (o p : Result Cell ℕ) → Same (CellBy R) o p → Same (TerminalBy R) (and_then (and_then o (λ c. Ok (put_at s.machine.cells a c))) (λ xs. Ok (with_cells s xs))) (and_then (and_then p (λ c. Ok (put_at t.machine.cells a c))) (λ ys. Ok (with_cells t ys)))
    put_cells a =
        same_cases (CellBy R) (λ o p. Same (TerminalBy R) (and_then (and_then o (λ c. Ok (put_at s.machine.cells a c))) (λ xs. Ok (with_cells s xs))) (and_then (and_then p (λ c. Ok (put_at t.machine.cells a c))) (λ ys. Ok (with_cells t ys))))
        (λ c d r. cells_by _ _ (put_cell thr s.machine.cells t.machine.cells cs a c d r)) (λ _. refl)

    pub put_by : (a b : ℕ) → RespondBy R E V (changes s (does.written a b s)) (changes t (does.written a b t))
    put_by a b = changes_by (does.written a b s) (does.written a b t) (put_cells a (write_cell (s.machine.cells a) (unheld b)) (write_cell (t.machine.cells a) (unheld b)) (written_by b (s.machine.cells a) (t.machine.cells a) (cs a)))

    -- open, entry, close

    plain_same : (x y : Cell) → CellBy R x y → is_plain x ≡ is_plain y
    plain_same = one_kind R (λ x y. is_plain x ≡ is_plain y) refl (λ _ _ _. refl) (λ _. refl)

    checked_same : (places : List ℕ) → checked s.machine.cells places ≡ checked t.machine.cells places
    checked_same [] = refl
    checked_same (a ∷ more) = λ i. and_then (plain_same (s.machine.cells a) (t.machine.cells a) (cs a) i) (λ _. checked_same more i)

    abbrev pub interval : Seal → ℕ → ℕ → Interval
    interval p first count = record { seal = p; first = first; count = count }

    pub open_by : (p q : Seal) (first count : ℕ) → V (opened (interval p first count)) (opened (interval q first count)) → RespondBy R E V (opens s (does.opened p first count s)) (opens t (does.opened q first count t))
    open_by p q first count v =
        subst (λ (r : Result (Unit {0}) ℕ). RespondBy R E V (opens s (does.opened p first count s)) (opens t (unless wide 5 (and_then r (λ _. Ok (interval q first count)))))) (checked_same (addresses first count)) (go wide (checked s.machine.cells (addresses first count))) where
          wide : Bool
          wide = outside 1 256 count || ltb 65536 (first + count)

          go : (b : Bool) (r : Result (Unit {0}) ℕ) → RespondBy R E V (opens s (unless b 5 (and_then r (λ _. Ok (interval p first count))))) (opens t (unless b 5 (and_then r (λ _. Ok (interval q first count)))))
          go true r = inl (equal (refused 5) (refused 5) refl refl, h)
          go false (Ok u) = inl (v, h)
          go false (Err n) = inl (equal (refused n) (refused n) refl refl, h)

    write_plain : (x y : Cell) (m n : Marked) → is_plain x ≡ Ok tt → CellBy R x y → R m n → Same (CellBy R) (write_cell x m) (write_cell y n)
    write_plain x y m n e r q = one_kind R (λ x y. is_plain x ≡ Ok tt → Same (CellBy R) (write_cell x m) (write_cell y n)) not_both (λ _ _ _ _. q) (λ _ f. not_both f) x y r e

    pub entry_by : (p q : Seal) (first count offset b c : ℕ) → R (marked b (mark_of p)) (marked c (mark_of q)) → RespondBy R E V (changes s (does.entered (interval p first count) offset b s)) (changes t (does.entered (interval q first count) offset c t))
    entry_by p q first count offset b c r = changes_by (does.entered (interval p first count) offset b s) (does.entered (interval q first count) offset c t) (outer (leb count offset) refl) where
      xs : Cells
      xs = s.machine.cells

      ys : Cells
      ys = t.machine.cells

      a : ℕ
      a = get_or (addresses first count) offset first

      m : Marked
      m = marked b (mark_of p)

      n : Marked
      n = marked c (mark_of q)

      inner : offset < count → (o : Result (Unit {0}) ℕ) → checked xs (addresses first count) ≡ o →
          Same (TerminalBy R) (and_then (and_then o (λ _. cells_written xs a m)) (λ zs. Ok (with_cells s zs))) (and_then (and_then o (λ _. cells_written ys a n)) (λ zs. Ok (with_cells t zs)))
      inner less (Ok u) e = put_cells a (write_cell (xs a) m) (write_cell (ys a) n) (write_plain (xs a) (ys a) m n (checked_plain xs first count offset first less e) (cs a) r)
      inner less (Err k) e = refl

      outer : (v : Bool) → leb count offset ≡ v → Same (TerminalBy R) (unless v 6 (and_then (cells_entered xs first count offset m) (λ zs. Ok (with_cells s zs)))) (unless v 6 (and_then (cells_entered ys first count offset n) (λ zs. Ok (with_cells t zs))))
      outer true e = refl
      outer false e =
          subst (λ (o : Result (Unit {0}) ℕ). Same (TerminalBy R) (and_then (cells_entered xs first count offset m) (λ zs. Ok (with_cells s zs))) (and_then (and_then o (λ _. cells_written ys a n)) (λ zs. Ok (with_cells t zs)))) (checked_same (addresses first count))
          (inner (leb-false count offset e) (checked xs (addresses first count)) refl)

    pub close_by : (p q : Seal) (first count : ℕ) → ((n : ℕ) → V (unclosed n (interval p first count)) (unclosed n (interval q first count))) →
        (checked s.machine.cells (addresses first count) ≡ Ok tt → All (λ a. byte_in (s.machine.cells a) ≡ byte_in (t.machine.cells a)) (addresses first count)) →
        RespondBy R E V (closes (interval p first count) s (does.closed (interval p first count) s)) (closes (interval q first count) t (does.closed (interval q first count) t))
    close_by p q first count v bytes =
        subst (λ (r : Result (Unit {0}) ℕ). RespondBy R E V (closes (interval p first count) s (does.closed (interval p first count) s)) (closes (interval q first count) t (and_then r (λ _. Ok (with_cells t (does.lifted t.machine.cells (addresses first count))))))) (checked_same (addresses first count))
        (go (checked s.machine.cells (addresses first count)) refl) where
          go : (r : Result (Unit {0}) ℕ) → checked s.machine.cells (addresses first count) ≡ r →
              RespondBy R E V (closes (interval p first count) s (and_then r (λ _. Ok (with_cells s (does.lifted s.machine.cells (addresses first count)))))) (closes (interval q first count) t (and_then r (λ _. Ok (with_cells t (does.lifted t.machine.cells (addresses first count))))))
          go (Ok u) e = inl (equal done done refl refl, cells_by _ _ (lifted_by thr (addresses first count) s.machine.cells t.machine.cells cs (bytes e)))
          go (Err n) e = inl (v n, h)
