-- Which lines set the machine up. Assumes nothing.
use Rattle.std.specs.Prelude.{Bool, true, false}
use Rattle.script.specs.Lines.{Said, memory, bytes, held, board, unit, load, start, raise, run, put, opening, entry, close, cell, register, status}

abbrev pub is_setting : Said → Bool
is_setting (memory n) = true
is_setting (bytes address bs) = true
is_setting (held address bs) = true
is_setting (board page) = true
is_setting (unit name) = true
is_setting (load pairs bs) = false
is_setting start = false
is_setting (raise n) = false
is_setting (run budget) = false
is_setting (put address byte) = false
is_setting (opening name seal first count) = false
is_setting (entry name offset byte) = false
is_setting (close name) = false
is_setting (cell address) = false
is_setting (register n) = false
is_setting status = false
