use Rattle.std.proofs.Common.{◌≡◌, ◌<◌, ℕ, get_or, sym, subst, ◌∙◌, arith, inl, inr}
use Rattle.std.proofs.lemmas.Bool.{cases_lt}
use Rattle.std.proofs.lemmas.List.{get_or_past}
use Rattle.ckc_machine.proofs.Held.{read_back}
use Rattle.ckc_machine.proofs.memory.first_word.Goals as goal

pub returns : goal.returns
returns c =
    let bytes = c.args.bytes.now in
    let word = c.loop-i.word in
    let same : (i : ℕ) → i < 4 → get_or word i 0 ≡ get_or bytes i 0 = λ i h.
    elim (cases_lt i c.loop-i.i) as (λ _. get_or word i 0 ≡ get_or bytes i 0) [
      | inl p ↦ c.loop-i.invariant.copied i p
      | inr p ↦ c.loop-i.invariant.zero i p ∙ sym (get_or_past bytes i 0 (omega arith))
    ] in
    let small : (i : ℕ) → i < 4 → get_or word i 0 < 256 = λ i h. subst (λ b. b < 256) (sym (same i h)) (omega (arith, c.type_inv.bytes i)) in
    λ i h. read_back c.read_u32.result word small c.read_u32.ensures i h ∙ same i h
