use Rattle.std.proofs.Common.{arith}
use Rattle.ckc_machine.proofs.Held.{changed_statics, changed_stack}
use Rattle.ckc_machine.proofs.memory.Memory.put_word.Goals as goal

pub returns-then-a-lt-STACK_START-clause-changed : goal.returns-then-a-lt-STACK_START-clause-changed
returns-then-a-lt-STACK_START-clause-changed c =
    let m = c.args.self.now in
    changed_statics m.code.now m.statics.words.items m.stack.words.items c.put.new.self.words.items (omega arith) c.args.a c.args.word c.requires.aligned
    c.put.ensures.here c.put.ensures.others c.requires.start (omega arith)

pub returns-else-a-lt-STACK_START-clause-changed : goal.returns-else-a-lt-STACK_START-clause-changed
returns-else-a-lt-STACK_START-clause-changed c =
    let m = c.args.self.now in
    changed_stack m.code.now m.statics.words.items m.stack.words.items c.put-else-a-lt-STACK_START.new.self.words.items (omega arith) c.args.a c.args.word c.requires.aligned
    c.put-else-a-lt-STACK_START.ensures.here c.put-else-a-lt-STACK_START.ensures.others (omega arith) c.requires.end
