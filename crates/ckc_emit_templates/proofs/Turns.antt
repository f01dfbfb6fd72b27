-- The turns of the loop over registers.
use Rattle.std.proofs.Common.{◌≡◌, ℕ, suc, ◌+◌, ◌-◌, ◌<◌, Bool, List, ◌++◌, refl, sym, ap, subst, ◌∙◌, arith}
use Rattle.ckc_asm_lines.specs.declared.lines.Line.{Line}
use Rattle.ckc_emit_templates.specs.code.Emitting.{Emits}
use Rattle.ckc_emit_templates.specs.code.Saved.{each_lines}

module _ (line : Bool → ℕ → List Line → List Line) where
  each_more : (test : ℕ → Bool) (k : ℕ) (rest : List Line) → k < 16 → each_lines line test (16 - k) k rest ≡ line (test k) k (each_lines line test (16 - (k + 1)) (k + 1) rest)
  unfolding each_lines
  each_more test k rest h =
      let e : 16 - k ≡ suc (16 - (k + 1)) = omega arith in
      ap (λ n. each_lines line test n k rest) e

  pub each_turn : (test : ℕ → Bool) (old out new : List Line) (k : ℕ) → k < 16 → Emits out new (line (test k) k)
      → ((rest : List Line) → out ++ each_lines line test (16 - k) k rest ≡ old ++ each_lines line test 16 0 rest)
      → (rest : List Line) → new ++ each_lines line test (16 - (k + 1)) (k + 1) rest ≡ old ++ each_lines line test 16 0 rest
  each_turn test old out new k h e i rest =
      e (each_lines line test (16 - (k + 1)) (k + 1) rest) ∙ ap (λ l. out ++ l) (sym (each_more test k rest h)) ∙ i rest

  -- nothing of them is left
  each_none : (test : ℕ → Bool) (out rest : List Line) → out ++ each_lines line test 0 16 rest ≡ out ++ rest
  unfolding each_lines
  each_none test out rest = refl

  pub each_done : (test : ℕ → Bool) (old out : List Line) (k : ℕ) → k ≡ 16 → ((rest : List Line) → out ++ each_lines line test (16 - k) k rest ≡ old ++ each_lines line test 16 0 rest) → Emits old out (each_lines line test 16 0)
  each_done test old out k e i rest =
      sym (each_none test out rest) ∙ subst (λ q. out ++ each_lines line test (16 - q) q rest ≡ old ++ each_lines line test 16 0 rest) e (i rest)
