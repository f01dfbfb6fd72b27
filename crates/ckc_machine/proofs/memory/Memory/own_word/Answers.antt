use Rattle.std.proofs.Common.{sym, subst, arith}
use Rattle.ckc_machine.specs.code.Bytes.{Holds}
use Rattle.ckc_machine.specs.Memories.{memory_of}
use Rattle.ckc_machine.proofs.Held.{holds_statics, holds_stack}
use Rattle.ckc_machine.proofs.memory.Memory.own_word.Goals as goal

pub returns-then-a-lt-STACK_START : goal.returns-then-a-lt-STACK_START
returns-then-a-lt-STACK_START c =
    let m = c.args.self.now in
    subst (Holds (memory_of m) c.args.a) (sym c.get.ensures)
    (holds_statics m.code.now m.statics.words.items m.stack.words.items (omega arith) c.args.a (omega arith) (omega arith) (omega arith))

pub returns-else-a-lt-STACK_START : goal.returns-else-a-lt-STACK_START
returns-else-a-lt-STACK_START c =
    let m = c.args.self.now in
    subst (Holds (memory_of m) c.args.a) (sym c.get-else-a-lt-STACK_START.ensures)
    (holds_stack m.code.now m.statics.words.items m.stack.words.items (omega arith) c.args.a (omega arith) (omega arith) (omega arith))
