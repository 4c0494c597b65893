-- Machines in relation make steps and runs in relation, unless the first stops over a held byte. Assumes nothing.
use Rattle.std.proofs.Common.{◌≡◌, ℕ, zero, suc, ◌+◌, ◌*◌, ◌%◌, Bool, true, false, cond, ◌⊎◌, List, get_or, Some, None, Ok, Err, Option, Result, sym, refl, ap, subst, inl, inr}
use lib.Bits.{bit_and}
use Rattle.marks.specs.declared.Marked.{Marked}
use Rattle.marks.specs.Relations.{Rel, Pointwise}
use Rattle.isa.specs.declared.Instruction.{Instruction}
use Rattle.isa.specs.Table.{length_of}
use Rattle.cpu.specs.declared.state.Core.{Core}
use Rattle.cpu.specs.declared.state.Mode.{Mode}
use Rattle.cpu.specs.declared.state.Mode.TheVariants.{Going, Faulted}
use Rattle.cpu.specs.declared.state.Saved.{Saved}
use Rattle.cpu.specs.Faults.{Stop}
use Rattle.cpu.specs.Instructions.{Service, pairs_copied}
use Rattle.cpu.specs.Interrupts.{lowest, due, taken}
use Rattle.cpu.specs.Runs.{ended, Ran, ran, afterwards, is_ended, onward, run}
use Rattle.cpu.specs.State.{State, with_pc, with_saved, with_mode}
use Rattle.cpu.specs.Steps.{Effect, over, effect, advanced, cycles_of, fetched, Told, made, waits, faults, Stepped, ending, performed, is_waiting, step_by, step}
use Rattle.terminal.specs.Relations.{CoreBy, StateBy}
use Rattle.terminal.specs.Theorems.{held_stop, held_ending}
use Rattle.terminal.proofs.Cores.{pc_by, saved_by, mode_by, handling_by, pairs_by}
use Rattle.terminal.proofs.Effects.{Serves, EffectBy, effect_by}
use Rattle.terminal.proofs.Follow.{Through, Follows, apart}

abbrev held_told : Told → Bool
held_told (made cycles byte) = false
held_told waits = false
held_told (faults f) = held_stop f.stop

record SteppedBy (R : Rel Marked) (p q : Stepped) : Type 0 where
  state : StateBy R p.state q.state
  told : p.told ≡ q.told

abbrev StepFollows : Rel Marked → Type 0 → Rel Stepped
StepFollows R E p q = SteppedBy R p q ⊎ ((held_told p.told ≡ true) × E)

pub record RanBy (R : Rel Marked) (p q : Ran) : Type 0 where
  pub state : StateBy R p.state q.state
  pub steps : p.steps ≡ q.steps
  pub cycles : p.cycles ≡ q.cycles
  pub ending : p.ending ≡ q.ending

abbrev pub RunFollows : Rel Marked → Type 0 → Rel Ran
RunFollows R E p q = RanBy R p q ⊎ ((held_ending p.ending ≡ true) × E)

module _ {R : Rel Marked} {E : Type 0} (thr : Through R E) (unit : Service) (serves : Serves R unit) where
  module _ (s t : State) (h : StateBy R s t) where
    over_by : (c d : Core) → CoreBy R c d → StateBy R (over s c s.cells) (over t d t.cells)
    over_by c d r = record { core = r; cells = h.cells; contents = h.contents }

    taken_by : (line : ℕ) → CoreBy R (taken s.core line) (taken t.core line)
    taken_by line =
        handling_by (with_mode (at s.core) Going) (with_mode (at t.core) Going)
        (mode_by (at s.core) (at t.core)
        (pc_by (with_saved s.core (saves s.core)) (with_saved t.core (saves t.core)) (saved_by s.core t.core h.core (saves s.core) (saves t.core) (record { pc = h.core.pc; status = h.core.status; registers = pairs }))
        (get_or s.core.vectors line 0 * 16) (get_or t.core.vectors line 0 * 16) (ap (λ (vs : List ℕ). get_or vs line 0 * 16) h.core.vectors))
        Going Going refl)
        true true refl where
          saves : Core → Saved
          saves c = record { pc = c.pc; status = c.status; registers = pairs_copied c.pairs c.registers c.saved.registers }

          at : Core → Core
          at c = with_pc (with_saved c (saves c)) (get_or c.vectors line 0 * 16)

          pairs : Pointwise R (pairs_copied s.core.pairs s.core.registers s.core.saved.registers) (pairs_copied t.core.pairs t.core.registers t.core.saved.registers)
          pairs =
              subst (λ (n : ℕ). Pointwise R (pairs_copied s.core.pairs s.core.registers s.core.saved.registers) (pairs_copied n t.core.registers t.core.saved.registers)) h.core.pairs
              (pairs_by thr s.core.pairs _ _ _ _ h.core.registers h.core.saved.registers)

    ending_by : (n : ℕ) (o p : Result Effect Stop) → Follows (EffectBy R) E o p → StepFollows R E (ending s n o) (ending t n p)
    ending_by n (Ok e) (Ok f) (inl q) = inl (record { state = q.state; told = λ i. made (n + q.wait i) (q.said i) })
    ending_by n (Ok e) (Err f) (inl q) = absurd q
    ending_by n (Err e) (Ok f) (inl q) = absurd q
    ending_by n (Err e) (Err f) (inl q) = inl (record { state = over_by _ _ (mode_by s.core t.core h.core Faulted Faulted refl); told = λ i. faults (record { stop = q i; pc = h.core.pc i }) })
    ending_by n (Ok e) p (inr x) = absurd x.0
    ending_by n (Err e) p (inr x) = inr x

    advanced_by : (n : ℕ) → StateBy R (advanced s n) (advanced t n)
    advanced_by n = over_by _ _ (pc_by s.core t.core h.core _ _ (ap (λ (k : ℕ). (k + n) % 4096) h.core.pc))

    performed_by : (r : Result Instruction Stop) → StepFollows R E (performed unit s r) (performed unit t r)
    performed_by (Ok x) = ending_by (cycles_of x) (effect unit x (advanced s (length_of x))) (effect unit x (advanced t (length_of x))) (effect_by thr (advanced s (length_of x)) (advanced t (length_of x)) (advanced_by (length_of x)) unit serves x)
    performed_by (Err e) = ending_by 0 (Err e) (Err e) (inl refl)

    step_with : (program : List ℕ) (o : Option ℕ) → StepFollows R E (step_by o unit program s) (step_by o unit program t)
    step_with program (Some line) = inl (record { state = over_by _ _ (taken_by line); told = refl })
    step_with program None = subst (λ (m : Mode). StepFollows R E (step_by None unit program s) (cond (is_waiting m) (rest t) (performed unit t (fetched program t.core.pc)))) h.core.mode (go (is_waiting s.core.mode)) where
      rest : State → Stepped
      rest x = record { state = x; told = waits }

      fetch_by : StepFollows R E (performed unit s (fetched program s.core.pc)) (performed unit t (fetched program t.core.pc))
      fetch_by = subst (λ (n : ℕ). StepFollows R E (performed unit s (fetched program s.core.pc)) (performed unit t (fetched program n))) h.core.pc (performed_by (fetched program s.core.pc))

      go : (b : Bool) → StepFollows R E (cond b (rest s) (performed unit s (fetched program s.core.pc))) (cond b (rest t) (performed unit t (fetched program t.core.pc)))
      go true = inl (record { state = h; told = refl })
      go false = fetch_by

    due_same : due s.core ≡ due t.core
    due_same = λ i. cond (h.core.handling i) None (lowest 16 0 (bit_and (h.core.latched i) (h.core.enabled i)))

    step_by_lem : (program : List ℕ) → StepFollows R E (step unit program s) (step unit program t)
    step_by_lem program = subst (λ (o : Option ℕ). StepFollows R E (step unit program s) (step_by o unit program t)) due_same (step_with program (due s.core))

  -- a step that stopped over a held byte ends its run so
  held_ends : (u : State) (t : Told) (rest : State → Ran) → held_told t ≡ true → held_ending (onward u t rest).ending ≡ true
  held_ends u (made cycles byte) rest e = apart (sym e)
  held_ends u waits rest e = apart (sym e)
  held_ends u (faults f) rest e = e

  after_by : (n : ℕ) (p q : Ran) → RunFollows R E p q → RunFollows R E (afterwards 1 n p) (afterwards 1 n q)
  after_by n p q (inl r) = inl (record { state = r.state; steps = ap (λ (k : ℕ). 1 + k) r.steps; cycles = ap (λ (k : ℕ). n + k) r.cycles; ending = r.ending })
  after_by n p q (inr x) = inr x

  onward_by : (u v : State) → StateBy R u v → (t : Told) (rest : State → Ran) → RunFollows R E (rest u) (rest v) → RunFollows R E (onward u t rest) (onward v t rest)
  onward_by u v h (made cycles (Some byte)) rest k = inl (record { state = h; steps = refl; cycles = refl; ending = refl })
  onward_by u v h (made cycles None) rest k = subst (λ (m : Mode). RunFollows R E (onward u (made cycles None) rest) (cond (is_ended m) (ran v 1 cycles ended) (afterwards 1 cycles (rest v)))) h.core.mode (go (is_ended u.core.mode)) where
    go : (b : Bool) → RunFollows R E (cond b (ran u 1 cycles ended) (afterwards 1 cycles (rest u))) (cond b (ran v 1 cycles ended) (afterwards 1 cycles (rest v)))
    go true = inl (record { state = h; steps = refl; cycles = refl; ending = refl })
    go false = after_by cycles (rest u) (rest v) k
  onward_by u v h waits rest k = inl (record { state = h; steps = refl; cycles = refl; ending = refl })
  onward_by u v h (faults f) rest k = inl (record { state = h; steps = refl; cycles = refl; ending = refl })

  pub run_by : (program : List ℕ) (n : ℕ) (s t : State) → StateBy R s t → RunFollows R E (run unit program n s) (run unit program n t)
  run_by program zero s t h = inl (record { state = h; steps = refl; cycles = refl; ending = refl })
  run_by program (suc n) s t h = go (λ u v k. run_by program n u v k) (step unit program s) (step unit program t) (step_by_lem s t h program) where
    go : ((u v : State) → StateBy R u v → RunFollows R E (run unit program n u) (run unit program n v)) →
        (p q : Stepped) → StepFollows R E p q → RunFollows R E (onward p.state p.told (λ u. run unit program n u)) (onward q.state q.told (λ u. run unit program n u))
    go again p q (inl r) = subst (λ (t : Told). RunFollows R E (onward p.state p.told (λ u. run unit program n u)) (onward q.state t (λ u. run unit program n u))) r.told (onward_by p.state q.state r.state p.told (λ u. run unit program n u) (again p.state q.state r.state))
    go again p q (inr x) = inr (held_ends p.state p.told (λ u. run unit program n u) x.0, x.1)
