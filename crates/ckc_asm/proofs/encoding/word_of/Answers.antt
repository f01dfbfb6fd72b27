use Rattle.std.proofs.Common.{◌≡◌, ℕ, ℤ, Option, rules}
use Rattle.std.specs.Int.{w64}
use Rattle.std.specs.Option.{MatchOption}
use Rattle.std.proofs.lemmas.Int.{to_z-of_z}
use Rattle.ckc_asm.specs.declared.items.Form.{Form}
use Rattle.ckc_asm.specs.declared.items.Form.TheVariants as form
use Rattle.ckc_asm.specs.Program.{IsWordOf}
use Rattle.ckc_asm.proofs.encoding.word_of.Goals as goal

same : (r : Option ℕ) (f g : Form) (z y : ℤ) → f ≡ g → z ≡ y → MatchOption r ((word : ℕ) → IsWordOf g z word → ⊥) (λ word. IsWordOf g z word)
    → MatchOption r ((word : ℕ) → IsWordOf f y word → ⊥) (λ word. IsWordOf f y word)
same r f g z y e h m = rw (e, ← h) m

pub returns-in-Fence : goal.returns-in-Fence
returns-in-Fence c = same _ _ form.Fence _ _ c.in-Fence.is (to_z-of_z w64 c.args.value (search rules)) c.fence_word.ensures

pub returns-in-Ecall : goal.returns-in-Ecall
returns-in-Ecall c = rw c.in-Ecall.is c.encoded-in-Ecall.ensures

pub returns-in-Ebreak : goal.returns-in-Ebreak
returns-in-Ebreak c = rw c.in-Ebreak.is c.encoded-in-Ebreak.ensures
