-- The memory that a machine holds.
use Rattle.ckc_rv.specs.Machine.{Memory}
use Rattle.ckc_machine.specs.Bytes.{memory_of_words}
use Rattle.ckc_machine.specs.declared.memory.Memory as held_by

abbrev pub memory_of : held_by.Memory → Memory
memory_of m = memory_of_words m.code.now m.statics.words.items m.stack.words.items
