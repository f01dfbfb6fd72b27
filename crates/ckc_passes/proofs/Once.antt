-- What a pass makes of a program is one program alone, if each operation and each end has one that stands for it.
use Rattle.std.proofs.Common.{◌≡◌, ◌⊎◌, inl, inr, ℕ, List, [], ◌∷◌, refl, sym, ap, ◌∙◌}
use Rattle.std.specs.List.{AllZip}
use Rattle.ckc_tac.specs.declared.code.Tac.{Tac}
use Rattle.ckc_tac.specs.declared.code.TacFunc.{TacFunc}
use Rattle.ckc_tac.specs.declared.code.TacBlock.{TacBlock}
use Rattle.ckc_tac.specs.declared.code.TacEnd.{TacEnd}
use Rattle.ckc_tac.specs.declared.code.TacOp.{TacOp}
use Rattle.ckc_passes.specs.Passes.{Pass, Becomes, ended, kept, dropped, BlockBecomes, FunctionBecomes, ProgramBecomes}

-- A pass leaves no choice: an operation is kept as one alone or is dropped, and an end becomes one alone.
pub record IsDetermined (p : Pass) : Type 0 where
  pub one_op : (blocks : List TacBlock) (done ops : List TacOp) (end : TacEnd) (op low other : TacOp)
      → p.Keeps blocks done ops end op low → p.Keeps blocks done ops end op other → low ≡ other
  pub one_end : (blocks : List TacBlock) (done : List TacOp) (end low other : TacEnd) → p.Ends blocks done end low → p.Ends blocks done end other → low ≡ other
  pub apart : (blocks : List TacBlock) (done ops : List TacOp) (end : TacEnd) (op low : TacOp)
      → p.Keeps blocks done ops end op low → p.Drops blocks done ops end op → ⊥

pub zip_once : {A B : Type 0} (R : A → B → Type 0) → ((x : A) (y z : B) → R x y → R x z → y ≡ z) → (xs : List A) (ys zs : List B) → AllZip R xs ys → AllZip R xs zs → ys ≡ zs
zip_once R h [] [] [] a b = refl
zip_once R h [] [] (z ∷ zs) a b = absurd b
zip_once R h [] (y ∷ ys) zs a b = absurd a
zip_once R h (x ∷ xs) [] zs a b = absurd a
zip_once R h (x ∷ xs) (y ∷ ys) [] a b = absurd b
zip_once R h (x ∷ xs) (y ∷ ys) (z ∷ zs) a b =
    ap (λ v. v ∷ ys) (h x y z a.0 b.0) ∙ ap (λ vs. z ∷ vs) (zip_once R h xs ys zs a.1 b.1)

module _ (p : Pass) (determined : IsDetermined p) where
  module _ (blocks : List TacBlock) where
    -- what an operation becomes in front of what the rest becomes
    abbrev Leads : (done ops : List TacOp) → TacEnd → TacOp → (rest lower : List TacOp) → Type 0
    Leads done ops end op rest lower =
        (p.Drops blocks done ops end op × (lower ≡ rest)) ⊎ ((low : TacOp) × p.Keeps blocks done ops end op low × (lower ≡ low ∷ rest))

    abbrev Splits : (done ops : List TacOp) → TacEnd → List TacOp → TacEnd → Type 0
    Splits done [] end lower low_end = (lower ≡ []) × p.Ends blocks done end low_end
    Splits done (op ∷ ops) end lower low_end =
        (rest : List TacOp) × Becomes p blocks (op ∷ done) ops end rest low_end × Leads done ops end op rest lower

    splits : {done ops : List TacOp} {end : TacEnd} {lower : List TacOp} {low_end : TacEnd} → Becomes p blocks done ops end lower low_end → Splits done ops end lower low_end
    splits (ended e) = (refl, e)
    splits (kept {lower = rest} {low = low} k more) = (rest, more, inr (low, k, refl))
    splits (dropped {lower = rest} d more) = (rest, more, inl (d, refl))

    same_lower : (done ops : List TacOp) (end : TacEnd) (op : TacOp) (rest other a b : List TacOp) → rest ≡ other
        → Leads done ops end op rest a → Leads done ops end op other b → a ≡ b
    same_lower done ops end op rest other a b e (inl (d, f)) (inl (d', g)) = f ∙ e ∙ sym g
    same_lower done ops end op rest other a b e (inl (d, f)) (inr (low, k, g)) = absurd (determined.apart blocks done ops end op low k d)
    same_lower done ops end op rest other a b e (inr (low, k, f)) (inl (d, g)) = absurd (determined.apart blocks done ops end op low k d)
    same_lower done ops end op rest other a b e (inr (low, k, f)) (inr (low', k', g)) =
        f ∙ ap (λ l. low ∷ l) e ∙ ap (λ (o : TacOp). o ∷ other) (determined.one_op blocks done ops end op low low' k k') ∙ sym g

    rest_once : (ops done a b : List TacOp) (end one two : TacEnd) → Becomes p blocks done ops end a one → Becomes p blocks done ops end b two → (a ≡ b) × (one ≡ two)
    rest_once [] done a b end one two is too =
        let m = splits is in
        let n = splits too in
        (m.0 ∙ sym n.0, determined.one_end blocks done end one two m.1 n.1)
    rest_once (op ∷ ops) done a b end one two is too =
        let m = splits is in
        let n = splits too in
        let rest = rest_once ops (op ∷ done) m.0 n.0 end one two m.1 n.1 in
        (same_lower done ops end op m.0 n.0 a b rest.0 m.2 n.2, rest.1)

    pub block_once : (x y z : TacBlock) → BlockBecomes p blocks x y → BlockBecomes p blocks x z → y ≡ z
    block_once x y z is too =
        let both = rest_once x.ops [] y.ops z.ops x.end y.end z.end is too in
        ap (λ (ops : List TacOp). let b : TacBlock = record { ops = ops; end = y.end } in b) both.0
        ∙ ap (λ (end : TacEnd). let b : TacBlock = record { ops = z.ops; end = end } in b) both.1

  function_once : (f g k : TacFunc) → FunctionBecomes p f g → FunctionBecomes p f k → g ≡ k
  function_once f g k is too =
      ap (λ (n : ℕ). let h : TacFunc = record { params = n; regs = g.regs; blocks = g.blocks } in h) (is.params ∙ sym too.params)
      ∙ ap (λ (n : ℕ). let h : TacFunc = record { params = k.params; regs = n; blocks = g.blocks } in h) (is.regs ∙ sym too.regs)
      ∙ ap (λ (bs : List TacBlock). let h : TacFunc = record { params = k.params; regs = k.regs; blocks = bs } in h)
      (zip_once (BlockBecomes p f.blocks) (block_once f.blocks) f.blocks g.blocks k.blocks is.blocks too.blocks)

  pub program_once : (t a b : Tac) → ProgramBecomes p t a → ProgramBecomes p t b → a ≡ b
  program_once t a b is too =
      ap (λ (i : List ℕ). let u : Tac = record { initial = i; funcs = a.funcs; main = a.main } in u) (is.initial ∙ sym too.initial)
      ∙ ap (λ (fs : List TacFunc). let u : Tac = record { initial = b.initial; funcs = fs; main = a.main } in u)
      (zip_once (FunctionBecomes p) function_once t.funcs a.funcs b.funcs is.funcs too.funcs)
      ∙ ap (λ (n : ℕ). let u : Tac = record { initial = b.initial; funcs = b.funcs; main = n } in u) (is.main ∙ sym too.main)
