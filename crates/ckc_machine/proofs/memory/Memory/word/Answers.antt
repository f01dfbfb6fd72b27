use Rattle.std.proofs.Common.{arith}
use Rattle.ckc_machine.proofs.Held.{holds_code, unmapped_below, unmapped_between, unmapped_above}
use Rattle.ckc_machine.proofs.memory.Memory.word.Goals as goal

pub returns-else-a-lt-MEMORY_END : goal.returns-else-a-lt-MEMORY_END
returns-else-a-lt-MEMORY_END c =
    let m = c.args.self.now in
    unmapped_above m.code.now m.statics.words.items m.stack.words.items (omega arith) c.args.a (omega arith)

pub returns-then-a-lt-CODE_START : goal.returns-then-a-lt-CODE_START
returns-then-a-lt-CODE_START c =
    let m = c.args.self.now in
    unmapped_below m.code.now m.statics.words.items m.stack.words.items (omega arith) c.args.a (omega arith) (omega arith)

pub returns-then-at-self : goal.returns-then-at-self
returns-then-at-self c =
    let m = c.args.self.now in
    holds_code m.code.now m.statics.words.items m.stack.words.items (omega arith) c.args.a c.code_word.result (omega arith) (omega arith) c.code_word.ensures

pub returns-else-at-self : goal.returns-else-at-self
returns-else-at-self c =
    let m = c.args.self.now in
    unmapped_between m.code.now m.statics.words.items m.stack.words.items (omega arith) c.args.a (omega arith) (omega arith) (omega arith)
