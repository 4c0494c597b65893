-- One byte more of a word of hex digits. Assumes nothing.
use Rattle.std.proofs.Common.{◌≡◌, ℕ, ◌-◌, ◌<◌, ◌≤◌, List, [], ◌∷◌, ◌++◌, length, get_or, take, drop, Some, None, Ok, Err, Option, Result, sym, refl, ap, ◌∙◌, append_assoc, append-nil, arith}
use Rattle.std.proofs.lemmas.List.{take_all, at_drop_all}
use Rattle.script.specs.declared.faults.Fault.{Fault}
use Rattle.script.specs.declared.faults.Fault.TheVariants.{NoBytes}
use Rattle.script.specs.Bytes.{pair_of, before, bytes_of}

before_before : (xs ys : List ℕ) (r : Result (List ℕ) Fault) → before xs (before ys r) ≡ before (xs ++ ys) r
before_before xs ys (Ok zs) = ap (λ l. Ok l) (sym (append_assoc xs ys zs))
before_before xs ys (Err fault) = refl

abbrev onward : List ℕ → Option ℕ → Result (List ℕ) Fault
onward rest o = elim o [ None ↦ Err NoBytes | Some byte ↦ before (byte ∷ []) (bytes_of rest) ]

-- what a pattern of two elements and a rest takes apart
taken_apart : (rest : List ℕ) → 2 ≤ length rest → rest ≡ get_or rest 0 0 ∷ get_or rest 1 0 ∷ take (length rest - 2) (drop 2 rest)
taken_apart [] h = absurd (omega arith)
taken_apart (a ∷ []) h = absurd (omega arith)
taken_apart (a ∷ b ∷ cs) h = ap (λ l. a ∷ b ∷ l) (sym (take_all (length (a ∷ b ∷ cs) - 2) cs (omega arith)))

no_bytes_of_one : (rest : List ℕ) → 0 < length rest → length rest < 2 → bytes_of rest ≡ Err NoBytes
no_bytes_of_one [] some few = absurd (omega arith)
no_bytes_of_one (a ∷ []) some few = refl
no_bytes_of_one (a ∷ b ∷ cs) some few = absurd (omega arith)

module _ (rest bs : List ℕ) (all : Result (List ℕ) Fault) (so : before bs (bytes_of rest) ≡ all) where
  abbrev others : List ℕ
  others = take (length rest - 2) (drop 2 rest)

  pub byte_more : (byte : ℕ) (more : List ℕ) → 2 ≤ length rest → pair_of (get_or rest 0 0) (get_or rest 1 0) ≡ Some byte → more ≡ bs ++ (byte ∷ []) → before more (bytes_of others) ≡ all
  byte_more byte more h is added =
      ap (λ l. before l (bytes_of others)) added
      ∙ sym (before_before bs (byte ∷ []) (bytes_of others))
      ∙ sym (ap (λ o. before bs (onward others o)) is)
      ∙ sym (ap (λ l. before bs (bytes_of l)) (taken_apart rest h))
      ∙ so

  pub byte_none : 2 ≤ length rest → pair_of (get_or rest 0 0) (get_or rest 1 0) ≡ None → all ≡ Err NoBytes
  byte_none h is = sym so ∙ ap (λ l. before bs (bytes_of l)) (taken_apart rest h) ∙ ap (λ o. before bs (onward others o)) is

  pub byte_odd : 0 < length rest → length rest < 2 → all ≡ Err NoBytes
  byte_odd some few = sym so ∙ ap (before bs) (no_bytes_of_one rest some few)

  pub bytes_all : length rest ≡ 0 → all ≡ Ok bs
  bytes_all none = sym so ∙ at_drop_all (λ l. before bs (bytes_of l)) rest 0 (omega (arith, none)) ∙ ap (λ l. Ok l) (append-nil bs)

pub shorter : (rest : List ℕ) → 2 ≤ length rest → length (take (length rest - 2) (drop 2 rest)) < length rest
shorter [] h = absurd (omega arith)
shorter (a ∷ []) h = absurd (omega arith)
shorter (a ∷ b ∷ cs) h = let e = ap length (take_all (length (a ∷ b ∷ cs) - 2) cs (omega arith)) in omega (arith, e)
