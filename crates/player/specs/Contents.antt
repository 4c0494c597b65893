-- What is in the memories of a machine. Assumes nothing.
use Rattle.std.specs.Prelude.{vec_items}
use Rattle.player.specs.declared.memories.Memories as declared
use Rattle.player.specs.Memories.{Memories}

abbrev pub contents : declared.Memories → Memories
contents m = (vec_items m.bytes, vec_items m.marks)
