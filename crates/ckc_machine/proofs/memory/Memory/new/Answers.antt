use Rattle.std.proofs.Common.{◌≤◌, ◌∙◌, ℕ, List, get_or, length, sym, subst, ap}
use Rattle.ckc_machine.specs.Bytes.{memory_of_words}
use Rattle.ckc_machine.proofs.Held.{held_is_flat}
use Rattle.ckc_machine.proofs.memory.Memory.new.Goals as goal

pub returns-clause-flat : goal.returns-clause-flat
returns-clause-flat c = λ parts code initial.
    let statics = c.fill.new.region.words.items in
    let stack = c.in_ok-stack.stack.words.items in
    let fits : length parts.code ≤ 16773120 = subst (λ (l : List ℕ). length l ≤ 16773120) (sym code) c.requires.code_fits in
    ap (λ (l : List ℕ). memory_of_words l statics stack) (sym code)
    ∙ held_is_flat parts statics stack fits (λ k. c.fill.ensures k ∙ ap (λ (l : List ℕ). get_or l k 0) (sym initial)) c.in_ok-stack.ensures
