-- The laws of runs. Assumes nothing.
use Rattle.std.proofs.Common.{◌≡◌, ℕ, zero, suc, ◌+◌, ◌≤◌, Bool, true, false, cond, List, Some, None, Ok, Err, Option, Result, sym, refl, ap, ◌∙◌, arith}
use Rattle.isa.specs.declared.Instruction.{Instruction}
use Rattle.isa.specs.Table.{length_of}
use Rattle.cpu.specs.Instructions.{Service}
use Rattle.cpu.specs.declared.state.Mode.TheVariants.{Faulted}
use Rattle.cpu.specs.Faults.{Fault, Stop}
use Rattle.cpu.specs.Interrupts.{due}
use Rattle.cpu.specs.Laws.{LeavesWhole, RunLaws}
use Rattle.cpu.specs.State.{State, with_mode}
use Rattle.cpu.specs.Steps.{Told, made, waits, faults, Stepped, Effect, over, effect, advanced, cycles_of, fetched, ending, performed, is_waiting, step_by, step}
use Rattle.cpu.specs.Runs.{Ending, said, ended, spent, waiting, fault, Ran, ran, afterwards, is_ended, onward, run}

zeros : (r : Ran) → afterwards 0 0 r ≡ r
zeros r = λ i. ran r.state (steps i) (cycles i) r.ending where
  steps : 0 + r.steps ≡ r.steps
  steps = omega arith

  cycles : 0 + r.cycles ≡ r.cycles
  cycles = omega arith

pub twice : (a b c d : ℕ) (r : Ran) → afterwards (a + c) (b + d) r ≡ afterwards a b (afterwards c d r)
twice a b c d r = λ i. ran r.state (steps i) (cycles i) r.ending where
  steps : (a + c) + r.steps ≡ a + (c + r.steps)
  steps = omega arith

  cycles : (b + d) + r.cycles ≡ b + (d + r.cycles)
  cycles = omega arith

-- which endings are spent
abbrev is_spent : Ending → Bool
is_spent (said b) = false
is_spent ended = false
is_spent spent = true
is_spent waiting = false
is_spent (fault f) = false

apart : {A : Type 0} → false ≡ true → A
apart e = absurd (let z : ◌≡◌ {A = ℕ} 0 1 = cc in omega arith)

module _ (unit : Service) (program : List ℕ) where
  -- more budget after a step is more budget for the rest
  joined_onward : (n : ℕ) (s : State) (t : Told) (rest more : State → Ran) →
      ((u : State) → (rest u).ending ≡ spent → more u ≡ afterwards (rest u).steps (rest u).cycles (run unit program n (rest u).state)) →
      (onward s t rest).ending ≡ spent →
      onward s t more ≡ afterwards (onward s t rest).steps (onward s t rest).cycles (run unit program n (onward s t rest).state)
  joined_onward n s (made cycles (Some byte)) rest more again e = apart (ap is_spent e)
  joined_onward n s (made cycles None) rest more again e = go (is_ended s.core.mode) e where
    go : (b : Bool) → (cond b (ran s 1 cycles ended) (afterwards 1 cycles (rest s))).ending ≡ spent →
        cond b (ran s 1 cycles ended) (afterwards 1 cycles (more s)) ≡ afterwards (cond b (ran s 1 cycles ended) (afterwards 1 cycles (rest s))).steps (cond b (ran s 1 cycles ended) (afterwards 1 cycles (rest s))).cycles (run unit program n (cond b (ran s 1 cycles ended) (afterwards 1 cycles (rest s))).state)
    go true f = apart (ap is_spent f)
    go false f = ap (afterwards 1 cycles) (again s f) ∙ sym (twice 1 cycles (rest s).steps (rest s).cycles (run unit program n (rest s).state))
  joined_onward n s waits rest more again e = apart (ap is_spent e)
  joined_onward n s (faults f) rest more again e = apart (ap is_spent e)

  pub joined : (m n : ℕ) (s : State) → (run unit program m s).ending ≡ spent → run unit program (m + n) s ≡ afterwards (run unit program m s).steps (run unit program m s).cycles (run unit program n (run unit program m s).state)
  joined zero n s e = ap (λ (k : ℕ). run unit program k s) none ∙ sym (zeros (run unit program n s)) where
    none : 0 + n ≡ n
    none = omega arith
  joined (suc m) n s e = ap (λ (k : ℕ). run unit program k s) one ∙ joined_onward n (step unit program s).state (step unit program s).told (λ u. run unit program m u) (λ u. run unit program (m + n) u) (λ u f. joined m n u f) e where
    one : suc m + n ≡ suc (m + n)
    one = omega arith

  bounded_onward : (n : ℕ) (s : State) (t : Told) (rest : State → Ran) → ((u : State) → (rest u).steps ≤ n) → (onward s t rest).steps ≤ suc n
  bounded_onward n s (made cycles (Some byte)) rest again = omega arith
  bounded_onward n s (made cycles None) rest again = go (is_ended s.core.mode) where
    go : (b : Bool) → (cond b (ran s 1 cycles ended) (afterwards 1 cycles (rest s))).steps ≤ suc n
    go true = omega arith
    go false = omega (arith, again s)
  bounded_onward n s waits rest again = omega arith
  bounded_onward n s (faults f) rest again = omega arith

  pub bounded : (n : ℕ) (s : State) → (run unit program n s).steps ≤ n
  bounded zero s = omega arith
  bounded (suc n) s = bounded_onward n (step unit program s).state (step unit program s).told (λ u. run unit program n u) (λ u. bounded n u)

  -- what a fault leaves of one step
  abbrev Halts : State → State → Told → Type 0
  Halts s u t = (f : Fault) → t ≡ faults f → (u ≡ over s (with_mode s.core Faulted) s.cells) × (f.pc ≡ s.core.pc)

  abbrev is_fault : Told → Bool
  is_fault (made cycles byte) = false
  is_fault waits = false
  is_fault (faults f) = true

  abbrev place_of : Told → ℕ
  place_of (made cycles byte) = 0
  place_of waits = 0
  place_of (faults f) = f.pc

  halts_ending : (s : State) (n : ℕ) (r : Result Effect Stop) → Halts s (ending s n r).state (ending s n r).told
  halts_ending s n (Ok x) f e = apart (ap is_fault e)
  halts_ending s n (Err stop) f e = (refl, sym (ap place_of e))

  halts_performed : (s : State) (r : Result Instruction Stop) → Halts s (performed unit s r).state (performed unit s r).told
  halts_performed s (Ok x) = halts_ending s (cycles_of x) (effect unit x (advanced s (length_of x)))
  halts_performed s (Err stop) = halts_ending s 0 (Err stop)

  halts_step : (s : State) (o : Option ℕ) → Halts s (step_by o unit program s).state (step_by o unit program s).told
  halts_step s (Some line) f e = apart (ap is_fault e)
  halts_step s None f e = go (is_waiting s.core.mode) f e where
    go : (b : Bool) → let r : Stepped = cond b (record { state = s; told = waits }) (performed unit s (fetched program s.core.pc)) in Halts s r.state r.told
    go true f e = apart (ap is_fault e)
    go false f e = halts_performed s (fetched program s.core.pc) f e

  abbrev ends_in_fault : Ending → Bool
  ends_in_fault (said b) = false
  ends_in_fault ended = false
  ends_in_fault spent = false
  ends_in_fault waiting = false
  ends_in_fault (fault f) = true

  abbrev fault_in : Fault → Ending → Fault
  fault_in g (said b) = g
  fault_in g ended = g
  fault_in g spent = g
  fault_in g waiting = g
  fault_in g (fault f) = f

  whole_onward : (n : ℕ) (s : State) (f : Fault) (t : Told) → (step unit program s).told ≡ t →
      ((u : State) → (run unit program n u).ending ≡ fault f → LeavesWhole unit program u (run unit program n u) f) →
      (onward (step unit program s).state t (λ u. run unit program n u)).ending ≡ fault f →
      LeavesWhole unit program s (onward (step unit program s).state t (λ u. run unit program n u)) f
  whole_onward n s f (made cycles (Some byte)) h again e = apart (ap ends_in_fault e)
  whole_onward n s f (made cycles None) h again e = go (is_ended next.core.mode) refl e where
    next : State
    next = (step unit program s).state

    go : (b : Bool) → is_ended next.core.mode ≡ b → (cond b (ran next 1 cycles ended) (afterwards 1 cycles (run unit program n next))).ending ≡ fault f →
        LeavesWhole unit program s (cond b (ran next 1 cycles ended) (afterwards 1 cycles (run unit program n next))) f
    go true m g = apart (ap ends_in_fault g)
    go false m g =
        let w = again next g in
        let k = (run unit program n next).steps in
        let count : 1 + k ≡ suc k = omega arith in
        let first : run unit program (1 + k) s ≡ afterwards 1 cycles (run unit program k next) =
        ap (λ (j : ℕ). run unit program j s) count
        ∙ ap (λ (t : Told). onward next t (λ u. run unit program k u)) h
        ∙ ap (λ (b : Bool). cond b (ran next 1 cycles ended) (afterwards 1 cycles (run unit program k next))) m in
        (w.0, first ∙ ap (afterwards 1 cycles) w.1, w.2, w.3)
  whole_onward n s f waits h again e = apart (ap ends_in_fault e)
  whole_onward n s f (faults g) h again e =
      let halted = halts_step s (due s.core) g h in
      (s, refl, halted.0, ap (λ (x : Fault). x.pc) (sym (ap (fault_in g) e)) ∙ halted.1)

  pub whole : (n : ℕ) (s : State) (f : Fault) → (run unit program n s).ending ≡ fault f → LeavesWhole unit program s (run unit program n s) f
  whole zero s f e = apart (ap ends_in_fault e)
  whole (suc n) s f e = whole_onward n s f (step unit program s).told refl (λ u g. whole n u f g) e

  pub run_laws : RunLaws unit program
  run_laws = record { joined = joined; bounded = bounded; whole = whole }
