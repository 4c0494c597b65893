-- Cores in relation stay so when a part is replaced. Assumes nothing.
use Rattle.std.proofs.Common.{◌≡◌, ℕ, zero, suc, ◌+◌, Bool, List, [], ◌∷◌, get_or, set, replicate, refl}
use Rattle.marks.specs.declared.Marked.{Marked}
use Rattle.marks.specs.Marks.{unheld}
use Rattle.marks.specs.Relations.{Rel, Pointwise}
use Rattle.units.specs.declared.unit.Status.{Status}
use Rattle.cpu.specs.declared.state.Core.{Core}
use Rattle.cpu.specs.declared.state.Mode.{Mode}
use Rattle.cpu.specs.declared.state.Saved.{Saved}
use Rattle.cpu.specs.Instructions.{pairs_copied}
use Rattle.cpu.specs.State.{cleared, register, with_register, with_registers, with_status, with_pc, with_sp, with_enabled, with_vectors, with_latched, with_saved, with_mode, with_handling}
use Rattle.terminal.specs.Relations.{StatusBy, SavedBy, CoreBy}
use Rattle.terminal.proofs.Follow.{Through}

module _ {R : Rel Marked} where
  pub registers_by : (c d : Core) → CoreBy R c d → (xs ys : List Marked) → Pointwise R xs ys → CoreBy R (with_registers c xs) (with_registers d ys)
  registers_by c d h xs ys e = record { registers = e; status = h.status; pc = h.pc; sp = h.sp; enabled = h.enabled; vectors = h.vectors; latched = h.latched; saved = h.saved; pairs = h.pairs; mode = h.mode; handling = h.handling }

  pub status_by : (c d : Core) → CoreBy R c d → (s t : Status) → StatusBy R s t → CoreBy R (with_status c s) (with_status d t)
  status_by c d h s t e = record { registers = h.registers; status = e; pc = h.pc; sp = h.sp; enabled = h.enabled; vectors = h.vectors; latched = h.latched; saved = h.saved; pairs = h.pairs; mode = h.mode; handling = h.handling }

  pub pc_by : (c d : Core) → CoreBy R c d → (m n : ℕ) → m ≡ n → CoreBy R (with_pc c m) (with_pc d n)
  pc_by c d h m n e = record { registers = h.registers; status = h.status; pc = e; sp = h.sp; enabled = h.enabled; vectors = h.vectors; latched = h.latched; saved = h.saved; pairs = h.pairs; mode = h.mode; handling = h.handling }

  pub sp_by : (c d : Core) → CoreBy R c d → (m n : ℕ) → m ≡ n → CoreBy R (with_sp c m) (with_sp d n)
  sp_by c d h m n e = record { registers = h.registers; status = h.status; pc = h.pc; sp = e; enabled = h.enabled; vectors = h.vectors; latched = h.latched; saved = h.saved; pairs = h.pairs; mode = h.mode; handling = h.handling }

  pub enabled_by : (c d : Core) → CoreBy R c d → (m n : ℕ) → m ≡ n → CoreBy R (with_enabled c m) (with_enabled d n)
  enabled_by c d h m n e = record { registers = h.registers; status = h.status; pc = h.pc; sp = h.sp; enabled = e; vectors = h.vectors; latched = h.latched; saved = h.saved; pairs = h.pairs; mode = h.mode; handling = h.handling }

  pub vectors_by : (c d : Core) → CoreBy R c d → (xs ys : List ℕ) → xs ≡ ys → CoreBy R (with_vectors c xs) (with_vectors d ys)
  vectors_by c d h xs ys e = record { registers = h.registers; status = h.status; pc = h.pc; sp = h.sp; enabled = h.enabled; vectors = e; latched = h.latched; saved = h.saved; pairs = h.pairs; mode = h.mode; handling = h.handling }

  pub latched_by : (c d : Core) → CoreBy R c d → (m n : ℕ) → m ≡ n → CoreBy R (with_latched c m) (with_latched d n)
  latched_by c d h m n e = record { registers = h.registers; status = h.status; pc = h.pc; sp = h.sp; enabled = h.enabled; vectors = h.vectors; latched = e; saved = h.saved; pairs = h.pairs; mode = h.mode; handling = h.handling }

  pub saved_by : (c d : Core) → CoreBy R c d → (s t : Saved) → SavedBy R s t → CoreBy R (with_saved c s) (with_saved d t)
  saved_by c d h s t e = record { registers = h.registers; status = h.status; pc = h.pc; sp = h.sp; enabled = h.enabled; vectors = h.vectors; latched = h.latched; saved = e; pairs = h.pairs; mode = h.mode; handling = h.handling }

  pub mode_by : (c d : Core) → CoreBy R c d → (m n : Mode) → m ≡ n → CoreBy R (with_mode c m) (with_mode d n)
  mode_by c d h m n e = record { registers = h.registers; status = h.status; pc = h.pc; sp = h.sp; enabled = h.enabled; vectors = h.vectors; latched = h.latched; saved = h.saved; pairs = h.pairs; mode = e; handling = h.handling }

  pub handling_by : (c d : Core) → CoreBy R c d → (a b : Bool) → a ≡ b → CoreBy R (with_handling c a) (with_handling d b)
  handling_by c d h a b e = record { registers = h.registers; status = h.status; pc = h.pc; sp = h.sp; enabled = h.enabled; vectors = h.vectors; latched = h.latched; saved = h.saved; pairs = h.pairs; mode = h.mode; handling = e }

module _ {R : Rel Marked} {E : Type 0} (thr : Through R E) where
  at_by : (xs ys : List Marked) (n : ℕ) → Pointwise R xs ys → R (get_or xs n (unheld 0)) (get_or ys n (unheld 0))
  at_by [] [] n p = thr.constant 0
  at_by [] (y ∷ ys) n p = absurd p
  at_by (x ∷ xs) [] n p = absurd p
  at_by (x ∷ xs) (y ∷ ys) zero p = p.0
  at_by (x ∷ xs) (y ∷ ys) (suc n) p = at_by xs ys n p.1

  set_by : (xs ys : List Marked) (n : ℕ) (u v : Marked) → Pointwise R xs ys → R u v → Pointwise R (set xs n u) (set ys n v)
  set_by [] [] n u v p r = tt
  set_by [] (y ∷ ys) n u v p r = absurd p
  set_by (x ∷ xs) [] n u v p r = absurd p
  set_by (x ∷ xs) (y ∷ ys) zero u v p r = (r, p.1)
  set_by (x ∷ xs) (y ∷ ys) (suc n) u v p r = (p.0, set_by xs ys n u v p.1 r)

  pub pairs_by : (n : ℕ) (xs ys us vs : List Marked) → Pointwise R xs ys → Pointwise R us vs → Pointwise R (pairs_copied n xs us) (pairs_copied n ys vs)
  pairs_by zero xs ys us vs p q = q
  pairs_by (suc n) xs ys us vs p q =
      set_by (set (pairs_copied n xs us) n (get_or xs n (unheld 0))) (set (pairs_copied n ys vs) n (get_or ys n (unheld 0))) (n + 8) (get_or xs (n + 8) (unheld 0)) (get_or ys (n + 8) (unheld 0))
      (set_by (pairs_copied n xs us) (pairs_copied n ys vs) n (get_or xs n (unheld 0)) (get_or ys n (unheld 0)) (pairs_by n xs ys us vs p q) (at_by xs ys n p))
      (at_by xs ys (n + 8) p)

  zeros_by : (n : ℕ) → Pointwise R (replicate n (unheld 0)) (replicate n (unheld 0))
  zeros_by zero = tt
  zeros_by (suc n) = (thr.constant 0, zeros_by n)

  pub cleared_by : (pairs : ℕ) → CoreBy R (cleared pairs) (cleared pairs)
  cleared_by pairs = record {
    registers = zeros_by 16;
    status = (thr.constant 0, thr.constant 0);
    pc = refl;
    sp = refl;
    enabled = refl;
    vectors = refl;
    latched = refl;
    saved = record { pc = refl; status = (thr.constant 0, thr.constant 0); registers = zeros_by 16 };
    pairs = refl;
    mode = refl;
    handling = refl;
  }

  module _ (c d : Core) (h : CoreBy R c d) where
    pub register_by : (n : ℕ) → R (register c n) (register d n)
    register_by n = at_by c.registers d.registers n h.registers

    pub put_by : (n : ℕ) (u v : Marked) → R u v → CoreBy R (with_register c n u) (with_register d n v)
    put_by n u v r = registers_by c d h (set c.registers n u) (set d.registers n v) (set_by c.registers d.registers n u v h.registers r)
