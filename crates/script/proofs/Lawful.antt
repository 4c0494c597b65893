-- Every line that is written is read as that line. Assumes nothing.
use Rattle.std.proofs.Common.{◌≡◌, ℕ, ◌<◌, true, List, [], ◌∷◌, ◌++◌, get_or, Some, Ok, codes, Result, refl, ap, ◌∙◌}
use Rattle.terminal.specs.declared.interval.Seal.{Seal}
use Rattle.terminal.specs.declared.interval.Seal.TheVariants.{Sealed, Practice}
use Rattle.script.specs.declared.faults.Fault.{Fault}
use Rattle.script.specs.declared.operands.UnitName.{UnitName}
use Rattle.script.specs.declared.operands.UnitName.TheVariants.{Aes, Cham}
use Rattle.script.specs.declared.verbs.Verb.TheVariants as verb
use Rattle.script.specs.Bytes.{bytes_of}
use Rattle.script.specs.Lines.{Said, memory, bytes, held, board, unit, load, start, raise, run, put, opening, entry, close, cell, register, status, u8_at, u16_at, u32_at, bytes_at, line_said}
use Rattle.script.specs.Numbers.{number_up_to}
use Rattle.script.specs.Operands.{seal_of, unit_of}
use Rattle.script.specs.Reads.{and_then}
use Rattle.script.specs.Text.{hex_of}
use Rattle.script.specs.Words.{word_at}
use Rattle.script.specs.Writes.{seal_text, u8_text, u16_text, u32_text, unit_text, trail, is_word, written_of, Writable, Sized}
use Rattle.script.proofs.ReadBack.{u8_reads, u16_reads, u32_reads, bytes_read, u8_word, u16_word, u32_word, hex_word}
use Rattle.script.proofs.WrittenWords.{AllWords, words_of, line_reads}

onward : {A B : Type 0} {r : Result A Fault} {x : A} (f : A → Result B Fault) → r ≡ Ok x → and_then r f ≡ f x
onward f e = ap (λ r. and_then r f) e

unit_word : (u : UnitName) → is_word (unit_text u) ≡ true
unit_word Aes = refl
unit_word Cham = refl

unit_reads : (u : UnitName) → unit_of (unit_text u) ≡ Ok u
unit_reads Aes = refl
unit_reads Cham = refl

seal_word : (s : Seal) → is_word (seal_text s) ≡ true
seal_word Sealed = refl
seal_word Practice = refl

seal_reads : (s : Seal) → seal_of (seal_text s) ≡ Ok s
seal_reads Sealed = refl
seal_reads Practice = refl

-- what stands at a place of a line that is written
module _ (first : List ℕ) (ws : List (List ℕ)) (p : is_word first ≡ true) (a : AllWords ws) (n : ℕ) where
  u8_at_lem : (k : ℕ) → k < 256 → get_or (first ∷ ws) n [] ≡ u8_text k → u8_at n (first ++ trail ws) ≡ Ok k
  u8_at_lem k h e = ap (number_up_to 255) (words_of first ws n p a ∙ e) ∙ u8_reads k h

  u16_at_lem : (k : ℕ) → k < 65536 → get_or (first ∷ ws) n [] ≡ u16_text k → u16_at n (first ++ trail ws) ≡ Ok k
  u16_at_lem k h e = ap (number_up_to 65535) (words_of first ws n p a ∙ e) ∙ u16_reads k h

  u32_at_lem : (k : ℕ) → k < 4294967296 → get_or (first ∷ ws) n [] ≡ u32_text k → u32_at n (first ++ trail ws) ≡ Ok k
  u32_at_lem k h e = ap (number_up_to 4294967295) (words_of first ws n p a ∙ e) ∙ u32_reads k h

  bytes_at_lem : (bs : List ℕ) → ((i : ℕ) → get_or bs i 0 < 256) → get_or (first ∷ ws) n [] ≡ hex_of bs → bytes_at n (first ++ trail ws) ≡ Ok bs
  bytes_at_lem bs h e = ap bytes_of (words_of first ws n p a ∙ e) ∙ bytes_read bs h

pub lawful : (said : Said) → Sized said → Writable said → line_said (written_of said) ≡ Ok (Some said)
lawful (memory n) z w =
    let ws = (u32_text n ∷ []) in
    let a : AllWords (u32_text n ∷ []) = (u32_word n z, tt) in
    line_reads (codes "memory") ws verb.Memory refl a refl refl (memory n)
    (onward (λ k. Ok (memory k)) (u32_at_lem (codes "memory") ws refl a 1 n z refl))
lawful (bytes address bs) z w =
    let ws = (u16_text address ∷ (hex_of bs ∷ [])) in
    let a : AllWords (u16_text address ∷ (hex_of bs ∷ [])) = (u16_word address z.0, (hex_word bs z.1 w, tt)) in
    line_reads (codes "bytes") ws verb.Bytes refl a refl refl (bytes address bs)
    (onward (λ p. Ok (bytes p.0 p.1))
    (onward (λ k. and_then (bytes_at 2 (codes "bytes" ++ trail ws)) (λ l. Ok (k, l))) (u16_at_lem (codes "bytes") ws refl a 1 address z.0 refl)
    ∙ onward (λ l. Ok (address, l)) (bytes_at_lem (codes "bytes") ws refl a 2 bs z.1 refl)))
lawful (held address bs) z w =
    let ws = (u16_text address ∷ (hex_of bs ∷ [])) in
    let a : AllWords (u16_text address ∷ (hex_of bs ∷ [])) = (u16_word address z.0, (hex_word bs z.1 w, tt)) in
    line_reads (codes "held") ws verb.Held refl a refl refl (held address bs)
    (onward (λ p. Ok (held p.0 p.1))
    (onward (λ k. and_then (bytes_at 2 (codes "held" ++ trail ws)) (λ l. Ok (k, l))) (u16_at_lem (codes "held") ws refl a 1 address z.0 refl)
    ∙ onward (λ l. Ok (address, l)) (bytes_at_lem (codes "held") ws refl a 2 bs z.1 refl)))
lawful (board page) z w =
    let ws = (u8_text page ∷ []) in
    let a : AllWords (u8_text page ∷ []) = (u8_word page z, tt) in
    line_reads (codes "board") ws verb.Board refl a refl refl (board page)
    (onward (λ k. Ok (board k)) (u8_at_lem (codes "board") ws refl a 1 page z refl))
lawful (unit name) z w =
    let ws = (unit_text name ∷ []) in
    let a : AllWords (unit_text name ∷ []) = (unit_word name, tt) in
    line_reads (codes "unit") ws verb.Unit refl a refl refl (unit name)
    (onward (λ k. Ok (unit k)) (ap unit_of (words_of (codes "unit") ws 1 refl a) ∙ unit_reads name))
lawful (load pairs bs) z w =
    let ws = (u8_text pairs ∷ (hex_of bs ∷ [])) in
    let a : AllWords (u8_text pairs ∷ (hex_of bs ∷ [])) = (u8_word pairs z.0, (hex_word bs z.1 w, tt)) in
    line_reads (codes "load") ws verb.Load refl a refl refl (load pairs bs)
    (onward (λ p. Ok (load p.0 p.1))
    (onward (λ k. and_then (bytes_at 2 (codes "load" ++ trail ws)) (λ l. Ok (k, l))) (u8_at_lem (codes "load") ws refl a 1 pairs z.0 refl)
    ∙ onward (λ l. Ok (pairs, l)) (bytes_at_lem (codes "load") ws refl a 2 bs z.1 refl)))
lawful start z w =
    let ws = [] in
    let a : AllWords [] = tt in
    line_reads (codes "start") ws verb.Start refl a refl refl start
    (refl)
lawful (raise n) z w =
    let ws = (u8_text n ∷ []) in
    let a : AllWords (u8_text n ∷ []) = (u8_word n z, tt) in
    line_reads (codes "raise") ws verb.Raise refl a refl refl (raise n)
    (onward (λ k. Ok (raise k)) (u8_at_lem (codes "raise") ws refl a 1 n z refl))
lawful (run budget) z w =
    let ws = (u32_text budget ∷ []) in
    let a : AllWords (u32_text budget ∷ []) = (u32_word budget z, tt) in
    line_reads (codes "run") ws verb.Run refl a refl refl (run budget)
    (onward (λ k. Ok (run k)) (u32_at_lem (codes "run") ws refl a 1 budget z refl))
lawful (put address byte) z w =
    let ws = (u16_text address ∷ (u8_text byte ∷ [])) in
    let a : AllWords (u16_text address ∷ (u8_text byte ∷ [])) = (u16_word address z.0, (u8_word byte z.1, tt)) in
    line_reads (codes "put") ws verb.Put refl a refl refl (put address byte)
    (onward (λ p. Ok (put p.0 p.1))
    (onward (λ k. and_then (u8_at 2 (codes "put" ++ trail ws)) (λ b. Ok (k, b))) (u16_at_lem (codes "put") ws refl a 1 address z.0 refl)
    ∙ onward (λ b. Ok (address, b)) (u8_at_lem (codes "put") ws refl a 2 byte z.1 refl)))
lawful (opening name seal first count) z w =
    let ws = (name ∷ (seal_text seal ∷ (u16_text first ∷ (u16_text count ∷ [])))) in
    let a : AllWords (name ∷ (seal_text seal ∷ (u16_text first ∷ (u16_text count ∷ [])))) = (w, (seal_word seal, (u16_word first z.0, (u16_word count z.1, tt)))) in
    line_reads (codes "open") ws verb.Open refl a refl refl (opening name seal first count)
    (let text = codes "open" ++ trail ws in
    onward (λ s. and_then (u16_at 3 text) (λ f. and_then (u16_at 4 text) (λ k. Ok (opening (word_at 1 text) s f k)))) (ap seal_of (words_of (codes "open") ws 2 refl a) ∙ seal_reads seal)
    ∙ onward (λ f. and_then (u16_at 4 text) (λ k. Ok (opening (word_at 1 text) seal f k))) (u16_at_lem (codes "open") ws refl a 3 first z.0 refl)
    ∙ onward (λ k. Ok (opening (word_at 1 text) seal first k)) (u16_at_lem (codes "open") ws refl a 4 count z.1 refl)
    ∙ ap (λ l. Ok (opening l seal first count)) (words_of (codes "open") ws 1 refl a))
lawful (entry name offset byte) z w =
    let ws = (name ∷ (u16_text offset ∷ (u8_text byte ∷ []))) in
    let a : AllWords (name ∷ (u16_text offset ∷ (u8_text byte ∷ []))) = (w, (u16_word offset z.0, (u8_word byte z.1, tt))) in
    line_reads (codes "entry") ws verb.Entry refl a refl refl (entry name offset byte)
    (let text = codes "entry" ++ trail ws in
    onward (λ o. and_then (u8_at 3 text) (λ b. Ok (entry (word_at 1 text) o b))) (u16_at_lem (codes "entry") ws refl a 2 offset z.0 refl)
    ∙ onward (λ b. Ok (entry (word_at 1 text) offset b)) (u8_at_lem (codes "entry") ws refl a 3 byte z.1 refl)
    ∙ ap (λ l. Ok (entry l offset byte)) (words_of (codes "entry") ws 1 refl a))
lawful (close name) z w =
    let ws = (name ∷ []) in
    let a : AllWords (name ∷ []) = (w, tt) in
    line_reads (codes "close") ws verb.Close refl a refl refl (close name)
    (ap (λ l. Ok (close l)) (words_of (codes "close") ws 1 refl a))
lawful (cell address) z w =
    let ws = (u16_text address ∷ []) in
    let a : AllWords (u16_text address ∷ []) = (u16_word address z, tt) in
    line_reads (codes "cell") ws verb.Cell refl a refl refl (cell address)
    (onward (λ k. Ok (cell k)) (u16_at_lem (codes "cell") ws refl a 1 address z refl))
lawful (register n) z w =
    let ws = (u8_text n ∷ []) in
    let a : AllWords (u8_text n ∷ []) = (u8_word n z, tt) in
    line_reads (codes "register") ws verb.Register refl a refl refl (register n)
    (onward (λ k. Ok (register k)) (u8_at_lem (codes "register") ws refl a 1 n z refl))
lawful status z w =
    let ws = [] in
    let a : AllWords [] = tt in
    line_reads (codes "status") ws verb.Status refl a refl refl status
    (refl)
