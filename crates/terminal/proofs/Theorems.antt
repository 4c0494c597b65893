-- Noninterference and transparency. Assumes nothing.
use Rattle.std.proofs.Common.{◌≡◌, ℕ, zero, suc, Bool, true, false, cond, eqb, List, [], ◌∷◌, map, replicate, Ok, Err, Result, sym, refl, ap, ◌∙◌, subst, inl, inr, ⊎_elim}
use Rattle.std.proofs.lemmas.Bool.{eqb-true, eqb-false}
use Rattle.marks.specs.declared.Marked.{Marked}
use Rattle.marks.specs.Marks.{held, unheld}
use Rattle.marks.specs.Relations.{Rel, Alike, Bare, Pointwise, All}
use Rattle.buses.specs.Cells.{Cell, Cells}
use Rattle.units.specs.Laws.{Keeps, Quiet, IdleMarks, Clean, ContentsBy, OutcomeBy}
use Rattle.units.specs.Meaning.{Contents, Meaning, fresh}
use Rattle.cpu.specs.Instructions.{Service, served}
use Rattle.terminal.specs.declared.interval.Seal.{Seal}
use Rattle.terminal.specs.declared.interval.Seal.TheVariants.{Practice}
use Rattle.terminal.specs.Calls.{Call, load, start, raise, run, put, opening, entry, close, cell, register, status, Answer, done, opened, ran, byte, stands, refused, unclosed, closes, respond, performed}
use Rattle.terminal.specs.Relations.{CellBy, CellsBy, TerminalBy}
use Rattle.terminal.specs.Terminals.{Terminal, and_then, cells_of, checked, lifted, mark_of, with_cells}
use Rattle.terminal.specs.Theorems.{Any, LaysOpen, NeverLaysOpen, Noninterference, Transparency, Twin, byte_in, over_held, practised, unsealed}
use Rattle.terminal.proofs.Cores.{cleared_by}
use Rattle.terminal.proofs.Effects.{Serves}
use Rattle.terminal.proofs.Follow.{Same, alike_keeps, alike_through, apart, bare_keeps, bare_through}
use Rattle.terminal.proofs.OneKind.{one_kind}
use Rattle.terminal.proofs.Responding.{RespondBy, is_plain_answer, load_by, start_by, raise_by, cell_by, register_told, status_told, run_told, put_by, open_by, entry_by, close_by}

-- what a unit keeps, its service keeps
serves_by : {R : Rel Marked} (op : Meaning) (codes : ℕ → Bool) → Keeps R op → Serves R (served op codes)
serves_by {R} op codes keeps code c d x y p q = go (codes code) where
  go : (b : Bool) → Same {X = ℕ} (OutcomeBy R) (cond b (Ok (op codes code c x)) (Err 26)) (cond b (Ok (op codes code d y)) (Err 26))
  go true = keeps codes code c d x y p q
  go false = refl

-- equal numbers, where they cannot differ
stable : (m n : ℕ) → ((m ≡ n → ⊥) → ⊥) → m ≡ n
stable m n k = go (eqb m n) refl where
  go : (b : Bool) → eqb m n ≡ b → m ≡ n
  go true e = eqb-true m n e
  go false e = absurd (k (eqb-false m n e))

none_unequal : (f g : ℕ → ℕ) (xs : List ℕ) → (Any (λ a. f a ≡ g a → ⊥) xs → ⊥) → All (λ a. f a ≡ g a) xs
none_unequal f g [] n = tt
none_unequal f g (x ∷ xs) n = (stable (f x) (g x) (λ differ. n (inl differ)), none_unequal f g xs (λ later. n (inr later)))

module _ (op : Meaning) (codes : ℕ → Bool) where
  abbrev unit : Service
  unit = served op codes

  module _ (quiet : Quiet op) where
    alike_serves : Serves Alike unit
    alike_serves = serves_by op codes (alike_keeps op quiet)

    itself : (a b : Answer) → is_plain_answer a ≡ true → a ≡ b → a ≡ b
    itself a b p e = e

    same_call : (k : Call) (s t : Terminal) → TerminalBy Alike s t → (LaysOpen unit k s t → ⊥) → RespondBy Alike ⊥ ◌≡◌ (respond unit k s) (respond unit k t)
    same_call (load pairs program) s t h n = load_by alike_through ◌≡◌ itself s t h pairs program
    same_call start s t h n = start_by alike_through ◌≡◌ itself s t h
    same_call (raise line) s t h n = raise_by alike_through ◌≡◌ itself s t h line
    same_call (run budget) s t h n = run_told alike_through ◌≡◌ itself s t h unit alike_serves budget
    same_call (put address b) s t h n = put_by alike_through ◌≡◌ itself s t h address b
    same_call (opening seal first count) s t h n = open_by alike_through ◌≡◌ itself s t h seal seal first count refl
    same_call (entry i offset b) s t h n = entry_by alike_through ◌≡◌ itself s t h i.seal i.seal i.first i.count offset b b (refl, λ e. refl)
    same_call (close i) s t h n = close_by alike_through ◌≡◌ itself s t h i.seal i.seal i.first i.count (λ m. refl) bytes where
      bytes : checked s.machine.cells (cells_of i) ≡ Ok tt → All (λ a. byte_in (s.machine.cells a) ≡ byte_in (t.machine.cells a)) (cells_of i)
      bytes e =
          none_unequal (λ a. byte_in (s.machine.cells a)) (λ a. byte_in (t.machine.cells a)) (cells_of i) (λ differ. n (record {
            interval = i;
            closes = refl;
            accepted = ap (λ (r : Result (Unit {0}) ℕ). (closes i s (and_then r (λ _. Ok (with_cells s (lifted s.machine.cells (cells_of i)))))).0) e;
            unequal = differ;
          }))
    same_call (cell address) s t h n = cell_by alike_through ◌≡◌ itself s t h address
    same_call (register number) s t h n = register_told alike_through ◌≡◌ itself s t h number
    same_call status s t h n = status_told alike_through ◌≡◌ itself s t h unit

    twin_call : (k l : Call) (s t : Terminal) → TerminalBy Alike s t → Twin k l → (LaysOpen unit k s t → ⊥) → RespondBy Alike ⊥ ◌≡◌ (respond unit k s) (respond unit l t)
    twin_call k l s t h (inl e) n = subst (λ (m : Call). RespondBy Alike ⊥ ◌≡◌ (respond unit k s) (respond unit m t)) e (same_call k s t h n)
    twin_call k l s t h (inr b) n =
        let i = b.interval in
        subst (λ (m : Call). RespondBy Alike ⊥ ◌≡◌ (respond unit m s) (respond unit l t)) (sym b.first)
        (subst (λ (m : Call). RespondBy Alike ⊥ ◌≡◌ (respond unit (entry i b.offset b.bet) s) (respond unit m t)) (sym b.second)
        (entry_by alike_through ◌≡◌ itself s t h i.seal i.seal i.first i.count b.offset b.bet b.other (refl, λ e. apart (ap (λ (p : Seal). held (mark_of p)) (sym b.sealed) ∙ e))))

    alike_stays : (ks ls : List Call) (s t : Terminal) → TerminalBy Alike s t → Pointwise Twin ks ls → NeverLaysOpen unit ks ls s t →
        ((performed unit ks s).0 ≡ (performed unit ls t).0) × TerminalBy Alike (performed unit ks s).1 (performed unit ls t).1
    alike_stays [] [] s t h p n = (refl, h)
    alike_stays [] (l ∷ ls) s t h p n = absurd p
    alike_stays (k ∷ ks) [] s t h p n = absurd p
    alike_stays (k ∷ ks) (l ∷ ls) s t h p n = ⊎_elim (λ r. both r (alike_stays ks ls (respond unit k s).1 (respond unit l t).1 r.1 p.1 n.1)) (λ (x : (over_held (respond unit k s).0 ≡ true) × ⊥). absurd x.1) (twin_call k l s t h p.0 n.0) where
      both : ((respond unit k s).0 ≡ (respond unit l t).0) × TerminalBy Alike (respond unit k s).1 (respond unit l t).1 →
          ((performed unit ks (respond unit k s).1).0 ≡ (performed unit ls (respond unit l t).1).0) × TerminalBy Alike (performed unit ks (respond unit k s).1).1 (performed unit ls (respond unit l t).1).1 →
          ((performed unit (k ∷ ks) s).0 ≡ (performed unit (l ∷ ls) t).0) × TerminalBy Alike (performed unit (k ∷ ks) s).1 (performed unit (l ∷ ls) t).1
      both r rest = ((λ i. r.0 i ∷ rest.0 i), rest.1)

    zeros_alike : (n : ℕ) → Pointwise Alike (replicate n (unheld 0)) (replicate n (unheld 0))
    zeros_alike zero = tt
    zeros_alike (suc n) = ((refl, λ e. refl), zeros_alike n)

    pub noninterference : Noninterference (served op codes)
    noninterference = record {
      begins = λ xs ys c d m. record {
        program = refl;
        machine = record {
          core = cleared_by alike_through 1;
          cells = m.0;
          contents = subst (λ (x : Contents). ContentsBy Alike x d) (sym m.1.2) (subst (λ (y : Contents). ContentsBy Alike (fresh m.1.0 m.1.1) y) (sym m.1.3) (refl, zeros_alike m.1.1));
        };
      };
      stays = alike_stays;
    }

  module _ (idle : IdleMarks op) (clean : Clean op) where
    bare_serves : Serves Bare unit
    bare_serves = serves_by op codes (bare_keeps op idle clean)

    plain_unsealed : (a : Answer) → is_plain_answer a ≡ true → unsealed a ≡ a
    plain_unsealed done p = refl
    plain_unsealed (opened i) p = apart (sym p)
    plain_unsealed (ran steps cycles e) p = refl
    plain_unsealed (byte b) p = refl
    plain_unsealed (stands mode pc sp enabled latched handling) p = refl
    plain_unsealed (refused n) p = refl
    plain_unsealed (unclosed n i) p = apart (sym p)

    abbrev Unsealed : Answer → Answer → Type 0
    Unsealed a b = unsealed a ≡ b

    equal : (a b : Answer) → is_plain_answer a ≡ true → a ≡ b → Unsealed a b
    equal a b p e = plain_unsealed a p ∙ e

    bare_byte : (x y : Cell) → CellBy Bare x y → byte_in x ≡ byte_in y
    bare_byte = one_kind Bare (λ x y. byte_in x ≡ byte_in y) refl (λ m n r. r.0) (λ _. refl)

    bare_bytes : (xs ys : Cells) → CellsBy Bare xs ys → (places : List ℕ) → All (λ a. byte_in (xs a) ≡ byte_in (ys a)) places
    bare_bytes xs ys h [] = tt
    bare_bytes xs ys h (a ∷ more) = (bare_byte (xs a) (ys a) (h a), bare_bytes xs ys h more)

    practice_call : (k : Call) (s t : Terminal) → TerminalBy Bare s t → RespondBy Bare (Unit {0}) Unsealed (respond unit k s) (respond unit (practised k) t)
    practice_call (load pairs program) s t h = load_by bare_through Unsealed equal s t h pairs program
    practice_call start s t h = start_by bare_through Unsealed equal s t h
    practice_call (raise line) s t h = raise_by bare_through Unsealed equal s t h line
    practice_call (run budget) s t h = run_told bare_through Unsealed equal s t h unit bare_serves budget
    practice_call (put address b) s t h = put_by bare_through Unsealed equal s t h address b
    practice_call (opening seal first count) s t h = open_by bare_through Unsealed equal s t h seal Practice first count refl
    practice_call (entry i offset b) s t h = entry_by bare_through Unsealed equal s t h i.seal Practice i.first i.count offset b b (refl, refl)
    practice_call (close i) s t h = close_by bare_through Unsealed equal s t h i.seal Practice i.first i.count (λ m. refl) (λ e. bare_bytes s.machine.cells t.machine.cells h.machine.cells (cells_of i))
    practice_call (cell address) s t h = cell_by bare_through Unsealed equal s t h address
    practice_call (register number) s t h = register_told bare_through Unsealed equal s t h number
    practice_call status s t h = status_told bare_through Unsealed equal s t h unit

    bare_stays : (ks : List Call) (s t : Terminal) → TerminalBy Bare s t → All (λ a. over_held a ≡ false) (performed unit ks s).0 →
        (map unsealed (performed unit ks s).0 ≡ (performed unit (map practised ks) t).0) × TerminalBy Bare (performed unit ks s).1 (performed unit (map practised ks) t).1
    bare_stays [] s t h p = (refl, h)
    bare_stays (k ∷ ks) s t h p =
        ⊎_elim (λ r. both r (bare_stays ks (respond unit k s).1 (respond unit (practised k) t).1 r.1 p.1))
        (λ (x : (over_held (respond unit k s).0 ≡ true) × Unit {0}). apart (sym x.0 ∙ p.0)) (practice_call k s t h) where
          both : Unsealed (respond unit k s).0 (respond unit (practised k) t).0 × TerminalBy Bare (respond unit k s).1 (respond unit (practised k) t).1 →
              (map unsealed (performed unit ks (respond unit k s).1).0 ≡ (performed unit (map practised ks) (respond unit (practised k) t).1).0) × TerminalBy Bare (performed unit ks (respond unit k s).1).1 (performed unit (map practised ks) (respond unit (practised k) t).1).1 →
              (map unsealed (performed unit (k ∷ ks) s).0 ≡ (performed unit (map practised (k ∷ ks)) t).0) × TerminalBy Bare (performed unit (k ∷ ks) s).1 (performed unit (map practised (k ∷ ks)) t).1
          both r rest = ((λ i. r.0 i ∷ rest.0 i), rest.1)

    pub transparency : Transparency (served op codes)
    transparency = record {
      begins = λ xs ys c d m. record { program = refl; machine = record { core = cleared_by bare_through 1; cells = m.0; contents = m.1 } };
      stays = bare_stays;
    }
