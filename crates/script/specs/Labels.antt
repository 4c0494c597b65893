-- The names that lines go by in answers. Assumes nothing.
use Rattle.std.specs.Prelude.{ℕ, List, ◌∷◌, ◌++◌, codes}
use Rattle.script.specs.Lines.{Said, memory, bytes, held, board, unit, load, start, raise, run, put, opening, entry, close, cell, register, status}

-- the first word of a line
abbrev pub first_of : Said → List ℕ
first_of (memory n) = codes "memory"
first_of (bytes address bs) = codes "bytes"
first_of (held address bs) = codes "held"
first_of (board page) = codes "board"
first_of (unit name) = codes "unit"
first_of (load pairs bs) = codes "load"
first_of start = codes "start"
first_of (raise n) = codes "raise"
first_of (run budget) = codes "run"
first_of (put address byte) = codes "put"
first_of (opening name seal first count) = codes "open"
first_of (entry name offset byte) = codes "entry"
first_of (close name) = codes "close"
first_of (cell address) = codes "cell"
first_of (register n) = codes "register"
first_of status = codes "status"

-- with the name that follows it
abbrev pub label_of : Said → List ℕ
label_of (memory n) = codes "memory"
label_of (bytes address bs) = codes "bytes"
label_of (held address bs) = codes "held"
label_of (board page) = codes "board"
label_of (unit name) = codes "unit"
label_of (load pairs bs) = codes "load"
label_of start = codes "start"
label_of (raise n) = codes "raise"
label_of (run budget) = codes "run"
label_of (put address byte) = codes "put"
label_of (opening name seal first count) = codes "open" ++ (32 ∷ name)
label_of (entry name offset byte) = codes "entry" ++ (32 ∷ name)
label_of (close name) = codes "close" ++ (32 ∷ name)
label_of (cell address) = codes "cell"
label_of (register n) = codes "register"
label_of status = codes "status"
