-- What the machine contains, and how one part of it is replaced. Assumes nothing.
use Rattle.std.specs.Prelude.{ℕ, Bool, false, List, replicate, slice_index_or, slice_set}
use Rattle.marks.specs.declared.Marked.{Marked}
use Rattle.marks.specs.Marks.{unheld}
use Rattle.buses.specs.Cells.{Cells}
use Rattle.units.specs.declared.unit.Status.{Status}
use Rattle.units.specs.Meaning.{Contents}
use Rattle.cpu.specs.declared.state.Core.{Core}
use Rattle.cpu.specs.declared.state.Mode.{Mode}
use Rattle.cpu.specs.declared.state.Mode.TheVariants.{Idle}
use Rattle.cpu.specs.declared.state.Saved.{Saved}

-- the core, the cells of its bus and the contents of its unit
pub record State : Type 0 where
  pub core : Core
  pub cells : Cells
  pub contents : Contents

abbrev pub with_registers : Core → List Marked → Core
with_registers c rs = record { registers = rs; status = c.status; pc = c.pc; sp = c.sp; enabled = c.enabled; vectors = c.vectors; latched = c.latched; saved = c.saved; pairs = c.pairs; mode = c.mode; handling = c.handling }

abbrev pub with_status : Core → Status → Core
with_status c s = record { registers = c.registers; status = s; pc = c.pc; sp = c.sp; enabled = c.enabled; vectors = c.vectors; latched = c.latched; saved = c.saved; pairs = c.pairs; mode = c.mode; handling = c.handling }

abbrev pub with_pc : Core → ℕ → Core
with_pc c n = record { registers = c.registers; status = c.status; pc = n; sp = c.sp; enabled = c.enabled; vectors = c.vectors; latched = c.latched; saved = c.saved; pairs = c.pairs; mode = c.mode; handling = c.handling }

abbrev pub with_sp : Core → ℕ → Core
with_sp c n = record { registers = c.registers; status = c.status; pc = c.pc; sp = n; enabled = c.enabled; vectors = c.vectors; latched = c.latched; saved = c.saved; pairs = c.pairs; mode = c.mode; handling = c.handling }

abbrev pub with_enabled : Core → ℕ → Core
with_enabled c n = record { registers = c.registers; status = c.status; pc = c.pc; sp = c.sp; enabled = n; vectors = c.vectors; latched = c.latched; saved = c.saved; pairs = c.pairs; mode = c.mode; handling = c.handling }

abbrev pub with_vectors : Core → List ℕ → Core
with_vectors c vs = record { registers = c.registers; status = c.status; pc = c.pc; sp = c.sp; enabled = c.enabled; vectors = vs; latched = c.latched; saved = c.saved; pairs = c.pairs; mode = c.mode; handling = c.handling }

abbrev pub with_latched : Core → ℕ → Core
with_latched c n = record { registers = c.registers; status = c.status; pc = c.pc; sp = c.sp; enabled = c.enabled; vectors = c.vectors; latched = n; saved = c.saved; pairs = c.pairs; mode = c.mode; handling = c.handling }

abbrev pub with_saved : Core → Saved → Core
with_saved c s = record { registers = c.registers; status = c.status; pc = c.pc; sp = c.sp; enabled = c.enabled; vectors = c.vectors; latched = c.latched; saved = s; pairs = c.pairs; mode = c.mode; handling = c.handling }

abbrev pub with_mode : Core → Mode → Core
with_mode c m = record { registers = c.registers; status = c.status; pc = c.pc; sp = c.sp; enabled = c.enabled; vectors = c.vectors; latched = c.latched; saved = c.saved; pairs = c.pairs; mode = m; handling = c.handling }

abbrev pub with_handling : Core → Bool → Core
with_handling c b = record { registers = c.registers; status = c.status; pc = c.pc; sp = c.sp; enabled = c.enabled; vectors = c.vectors; latched = c.latched; saved = c.saved; pairs = c.pairs; mode = c.mode; handling = b }

-- register n: 0 to 7 are r0 to r7, and 8 to 15 are a0 to a7
abbrev pub register : Core → ℕ → Marked
register c n = slice_index_or c.registers n (unheld 0)

abbrev pub with_register : Core → ℕ → Marked → Core
with_register c n m = with_registers c (slice_set c.registers n m)

abbrev pub no_flags : Status
no_flags = record { high = unheld 0; low = unheld 0 }

-- after a load: everything is nought and unheld, and the core is idle
abbrev pub cleared : ℕ → Core
cleared pairs =
    record {
      registers = replicate 16 (unheld 0);
      status = no_flags;
      pc = 0;
      sp = 0;
      enabled = 0;
      vectors = replicate 16 0;
      latched = 0;
      saved = record { pc = 0; status = no_flags; registers = replicate 16 (unheld 0) };
      pairs = pairs;
      mode = Idle;
      handling = false;
    }
