-- Each value is computed. Assumes nothing.
use Rattle.std.proofs.Common.{refl, ap}
use lib.Bits.{xor_self}
use Rattle.units.specs.Field.{inverse, product}
use Rattle.units.specs.Sbox.{affine, substituted}
use Rattle.bench.specs.Machines.{held_byte}
use Rattle.bench.proofs.bench_values.Goals as goal

pub returns : goal.returns
unfolding inverse product affine substituted
returns c = record {
  bench_values = record {
    past_largest = refl;
    past_byte = refl;
    below_nought = refl;
    past_smallest = refl;
    mvs_written = refl;
    mvs_read = refl;
    mvv_written = refl;
    mvv_read = refl;
    spb_written = refl;
    spb_read = refl;
    asb_nought = refl;
    amc_column = refl;
  };
  machines = record {
    mvs_steps = refl;
    mvs_wraps = refl;
    lpb_own_pointer = refl;
    first_program = refl;
    largest_program = refl;
    larger_program = refl;
    more_pairs = refl;
    lines = refl;
    registers = refl;
    largest_interval = refl;
    larger_interval = refl;
    later_interval = refl;
    xor_held = λ b. ap held_byte (xor_self b);
  };
}
