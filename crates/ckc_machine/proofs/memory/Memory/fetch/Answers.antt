use Rattle.std.proofs.Common.{◌≡◌, ◌-◌, ◌+◌, ◌≤◌, ◌<◌, ◌&&◌, ℕ, List, true, not, nat_lt, length, ap, ◌∙◌, arith}
use Rattle.std.proofs.lemmas.Bool.Decides.{nat_tests}
use Rattle.ckc_rv.specs.Machine.{code_start}
use Rattle.ckc_machine.proofs.Held.{holds_code, loaded_word}
use Rattle.ckc_machine.proofs.memory.Memory.fetch.Goals as goal

in_code : (code : List ℕ) (pc : ℕ) → code_start ≤ pc → pc - code_start + 3 < length code → (not (nat_lt pc code_start) && nat_lt (pc + 3) (code_start + length code)) ≡ true
in_code code pc h k = grind (arith, nat_tests)

pub returns-then-at-self : goal.returns-then-at-self
returns-then-at-self c = λ parts e.
    let m = c.args.self.now in
    let pc = c.args.pc in (
      ap (λ (l : List ℕ). not (nat_lt pc code_start) && nat_lt (pc + 3) (code_start + length l)) e ∙ in_code m.code.now pc (omega arith) (omega arith),
      loaded_word _ pc c.code_word.result (omega arith) (holds_code m.code.now m.statics.words.items m.stack.words.items (omega arith) pc c.code_word.result (omega arith) (omega arith) c.code_word.ensures),
    )
