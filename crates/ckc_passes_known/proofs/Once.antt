-- What the pass makes of a program is one program alone.
use Rattle.std.proofs.Common.{◌≡◌, inl, inr, ℕ, ◌+◌, List, [], ◌∷◌, refl, sym, ap, ◌∙◌}
use Rattle.ckc_tac.specs.declared.code.Tac.{Tac}
use Rattle.ckc_tac.specs.declared.code.TacFunc.{TacFunc}
use Rattle.ckc_tac.specs.declared.code.TacBlock.{TacBlock}
use Rattle.ckc_tac.specs.declared.code.TacOp.{TacOp}
use Rattle.ckc_tac.specs.declared.code.TacEnd.{TacEnd}
use Rattle.ckc_tac.specs.declared.code.TacEnd.TheVariants.{Jump, Branch, Return}
use Rattle.ckc_passes.proofs.Once.{IsDetermined, zip_once, block_once}
use Rattle.ckc_passes_known.specs.Known.{EndBecomes, known_pass, ZipFrom, BlockAfter, FunctionAfter, ProgramAfter}

one_end : (blocks : List TacBlock) (b : ℕ) (done : List TacOp) (end low other : TacEnd) → EndBecomes blocks b done end low → EndBecomes blocks b done end other → low ≡ other
one_end blocks b done (Jump to) low other e f = e ∙ sym f
one_end blocks b done (Return x) low other e f = e ∙ sym f
one_end blocks b done (Branch comparison x y one two) low other (inl (d, e)) (inl (k, f)) = e ∙ sym f
one_end blocks b done (Branch comparison x y one two) low other (inl (d, e)) (inr (n, f)) = absurd (n d)
one_end blocks b done (Branch comparison x y one two) low other (inr (n, e)) (inl (k, f)) = absurd (n k)
one_end blocks b done (Branch comparison x y one two) low other (inr (n, inl (d, e))) (inr (m, inl (k, f))) = e ∙ sym f
one_end blocks b done (Branch comparison x y one two) low other (inr (n, inl (d, e))) (inr (m, inr (k, f))) = absurd (k d)
one_end blocks b done (Branch comparison x y one two) low other (inr (n, inr (d, e))) (inr (m, inl (k, f))) = absurd (d k)
one_end blocks b done (Branch comparison x y one two) low other (inr (n, inr (d, e))) (inr (m, inr (k, f))) = e ∙ sym f

determined : (b : ℕ) → IsDetermined (known_pass b)
determined b = record {
  one_op = λ blocks done ops end op low other k l. k.0 ∙ sym l.0;
  one_end = λ blocks done end low other e f. one_end blocks b done end low other e f;
  apart = λ blocks done ops end op low k needless. k.1 needless;
}

from_once : {A B : Type 0} (R : ℕ → A → B → Type 0) → ((n : ℕ) (x : A) (y z : B) → R n x y → R n x z → y ≡ z) → (n : ℕ) (xs : List A) (ys zs : List B)
    → ZipFrom R n xs ys → ZipFrom R n xs zs → ys ≡ zs
from_once R h n [] [] [] a b = refl
from_once R h n [] [] (z ∷ zs) a b = absurd b
from_once R h n [] (y ∷ ys) zs a b = absurd a
from_once R h n (x ∷ xs) [] zs a b = absurd a
from_once R h n (x ∷ xs) (y ∷ ys) [] a b = absurd b
from_once R h n (x ∷ xs) (y ∷ ys) (z ∷ zs) a b =
    ap (λ v. v ∷ ys) (h n x y z a.0 b.0) ∙ ap (λ vs. z ∷ vs) (from_once R h (n + 1) xs ys zs a.1 b.1)

function_once : (f g k : TacFunc) → FunctionAfter f g → FunctionAfter f k → g ≡ k
function_once f g k is too =
    ap (λ (n : ℕ). let h : TacFunc = record { params = n; regs = g.regs; blocks = g.blocks } in h) (is.params ∙ sym too.params)
    ∙ ap (λ (n : ℕ). let h : TacFunc = record { params = k.params; regs = n; blocks = g.blocks } in h) (is.regs ∙ sym too.regs)
    ∙ ap (λ (bs : List TacBlock). let h : TacFunc = record { params = k.params; regs = k.regs; blocks = bs } in h)
    (from_once (BlockAfter f.blocks) (λ b x y z. block_once (known_pass b) (determined b) f.blocks x y z) 0 f.blocks g.blocks k.blocks is.blocks too.blocks)

pub known_once : (t a b : Tac) → ProgramAfter t a → ProgramAfter t b → a ≡ b
known_once t a b is too =
    ap (λ (i : List ℕ). let u : Tac = record { initial = i; funcs = a.funcs; main = a.main } in u) (is.initial ∙ sym too.initial)
    ∙ ap (λ (fs : List TacFunc). let u : Tac = record { initial = b.initial; funcs = fs; main = a.main } in u)
    (zip_once FunctionAfter function_once t.funcs a.funcs b.funcs is.funcs too.funcs)
    ∙ ap (λ (n : ℕ). let u : Tac = record { initial = b.initial; funcs = b.funcs; main = n } in u) (is.main ∙ sym too.main)
