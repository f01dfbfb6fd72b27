use Rattle.std.proofs.Common.{◌≡◌, ◌<◌, ◌+◌, ◌-◌, ℕ, get_or, take, drop, length, arith, ◌∙◌}
use Rattle.ckc_machine.specs.Bytes.{byte_of}
use Rattle.ckc_machine.proofs.Held.{below_4, bytes_of_word, byte_behind}
use Rattle.ckc_machine.proofs.memory.code_word.Goals as goal

pub returns : goal.returns
returns c =
    let xs = c.args.code.now in
    let at = c.args.at in
    let b : (i : ℕ) → i < 4 → get_or (take (length xs - at) (drop at xs)) i 0 < 256 = λ i h. rw (byte_behind xs at i) (omega (arith, c.type_inv.code (at + i))) in
    let w = bytes_of_word c.read_u32.result _ _ _ _ (b 0 (omega arith)) (b 1 (omega arith)) (b 2 (omega arith)) (b 3 (omega arith)) c.read_u32.ensures in
    let k : (i : ℕ) → i < 4 → get_or (take (length xs - at) (drop at xs)) i 0 ≡ get_or xs (at + i) 0 = λ i h. byte_behind xs at i in
    below_4 (λ i. byte_of c.read_u32.result i ≡ get_or xs (at + i) 0)
    (w.0 ∙ k 0 (omega arith)) (w.1 ∙ k 1 (omega arith)) (w.2 ∙ k 2 (omega arith)) (w.3 ∙ k 3 (omega arith))
