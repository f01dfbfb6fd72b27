-- What the pass makes of a program is one program alone.
use Rattle.std.proofs.Common.{◌≡◌, ◌⊎◌, inl, inr, ℕ, zero, suc, ◌+◌, List, [], ◌∷◌, refl, sym, ap, subst, ◌∙◌, arith}
use Rattle.ckc_tac.specs.declared.code.Tac.{Tac}
use Rattle.ckc_tac.specs.declared.code.TacFunc.{TacFunc}
use Rattle.ckc_tac.specs.declared.code.TacBlock.{TacBlock}
use Rattle.ckc_tac.specs.declared.code.TacOp.{TacOp}
use Rattle.ckc_tac.specs.declared.code.TacEnd.{TacEnd}
use Rattle.ckc_tac.specs.declared.code.Comparison.{Comparison}
use Rattle.ckc_tac.specs.declared.code.Operand.{Operand}
use Rattle.ckc_tac.specs.declared.code.TacEnd.TheVariants.{Jump, Branch, Return}
use Rattle.ckc_passes.proofs.Once.{zip_once}
use Rattle.ckc_passes_jumps.specs.Jumps.{IsReached, IsPlace, at_first, counted, passed, IsTarget, EndAfter, BlockAfter, Left, none_left, stays, goes, FunctionAfter, ProgramAfter}
use Rattle.ckc_passes_jumps.proofs.Walking.{one_short}

module _ (blocks : List TacBlock) where
  -- ---- new numbers

  -- what a number in front of b + 1 blocks comes from
  abbrev Before : (b place : ℕ) → Type 0
  Before b place = (k : ℕ) × IsPlace blocks b k × ((IsReached blocks b × (place ≡ k + 1)) ⊎ ((IsReached blocks b → ⊥) × (place ≡ k)))

  none_before : (b place : ℕ) → b ≡ 0 → IsPlace blocks b place → place ≡ 0
  none_before b place e at_first = refl
  none_before b place e (counted {b = p} is rest) = absurd (omega (arith, e))
  none_before b place e (passed {b = p} not rest) = absurd (omega (arith, e))

  before : (b c place : ℕ) → c ≡ b + 1 → IsPlace blocks c place → Before b place
  before b c place e at_first = absurd (omega (arith, e))
  before b c place e (counted {b = p} {place = k} is rest) =
      let same : p ≡ b = omega (arith, e) in
      (k, subst (λ q. IsPlace blocks q k) same rest, inl (subst (IsReached blocks) same is, refl))
  before b c place e (passed {b = p} {place = k} not rest) =
      let same : p ≡ b = omega (arith, e) in
      (k, subst (λ q. IsPlace blocks q k) same rest, inr (subst (λ q. IsReached blocks q → ⊥) same not, refl))

  same_place : (b k l m n : ℕ) → k ≡ l → ((IsReached blocks b × (m ≡ k + 1)) ⊎ ((IsReached blocks b → ⊥) × (m ≡ k)))
      → ((IsReached blocks b × (n ≡ l + 1)) ⊎ ((IsReached blocks b → ⊥) × (n ≡ l))) → m ≡ n
  same_place b k l m n e (inl (is, f)) (inl (too, g)) = omega (arith, e, f, g)
  same_place b k l m n e (inl (is, f)) (inr (not, g)) = absurd (not is)
  same_place b k l m n e (inr (not, f)) (inl (is, g)) = absurd (not is)
  same_place b k l m n e (inr (not, f)) (inr (too, g)) = f ∙ e ∙ sym g

  pub one_place : (b m n : ℕ) → IsPlace blocks b m → IsPlace blocks b n → m ≡ n
  one_place zero m n p q = none_before 0 m refl p ∙ sym (none_before 0 n refl q)
  one_place (suc b) m n p q =
      let r = before b (suc b) m (omega arith) p in
      let s = before b (suc b) n (omega arith) q in
      same_place b r.0 s.0 m n (one_place b r.0 s.0 r.1 s.1) r.2 s.2

  one_target : (b k l : ℕ) → IsTarget blocks b k → IsTarget blocks b l → k ≡ l
  one_target b k l (c, short, place) (d, short', place') =
      one_place c k l place (subst (λ q. IsPlace blocks q l) (sym (one_short blocks b c d short short')) place')

  -- ---- blocks

  one_branch : (comparison : Comparison) (x y : Operand) (low other : TacEnd) (k l k' l' : ℕ) → k ≡ k' → l ≡ l'
      → ((k ≡ l) × (low ≡ Jump k)) ⊎ (((k ≡ l) → ⊥) × (low ≡ Branch comparison x y k l))
      → ((k' ≡ l') × (other ≡ Jump k')) ⊎ (((k' ≡ l') → ⊥) × (other ≡ Branch comparison x y k' l')) → low ≡ other
  one_branch comparison x y low other k l k' l' e f (inl (s, g)) (inl (t, h)) = g ∙ ap Jump e ∙ sym h
  one_branch comparison x y low other k l k' l' e f (inl (s, g)) (inr (t, h)) = absurd (t (sym e ∙ s ∙ f))
  one_branch comparison x y low other k l k' l' e f (inr (s, g)) (inl (t, h)) = absurd (s (e ∙ t ∙ sym f))
  one_branch comparison x y low other k l k' l' e f (inr (s, g)) (inr (t, h)) =
      g ∙ ap (λ n. Branch comparison x y n l) e ∙ ap (λ n. Branch comparison x y k' n) f ∙ sym h

  one_end : (end low other : TacEnd) → EndAfter blocks end low → EndAfter blocks end other → low ≡ other
  one_end (Jump to) low other (k, t, e) (l, u, f) = e ∙ ap Jump (one_target to k l t u) ∙ sym f
  one_end (Branch comparison x y one two) low other (k, l, t, u, e) (k', l', t', u', f) =
      one_branch comparison x y low other k l k' l' (one_target one k k' t t') (one_target two l l' u u') e f
  one_end (Return x) low other e f = e ∙ sym f

  one_block : (block low other : TacBlock) → BlockAfter blocks block low → BlockAfter blocks block other → low ≡ other
  one_block block low other m n =
      ap (λ (ops : List TacOp). let b : TacBlock = record { ops = ops; end = low.end } in b) (m.ops ∙ sym n.ops)
      ∙ ap (λ (end : TacEnd). let b : TacBlock = record { ops = other.ops; end = end } in b) (one_end block.end low.end other.end m.end n.end)

  -- what is left of a block and others
  abbrev LeftOf : (b : ℕ) (rest lows : List TacBlock) → Type 0
  LeftOf b [] lows = lows ≡ []
  LeftOf b (block ∷ rest) lows = (more : List TacBlock) × Left blocks (b + 1) rest more
      × ((IsReached blocks b × ((low : TacBlock) × BlockAfter blocks block low × (lows ≡ low ∷ more))) ⊎ ((IsReached blocks b → ⊥) × (lows ≡ more)))

  left_of : {b : ℕ} {rest lows : List TacBlock} → Left blocks b rest lows → LeftOf b rest lows
  left_of none_left = refl
  left_of (stays {low = low} {lows = lows} is made more) = (lows, more, inl (is, (low, made, refl)))
  left_of (goes {lows = lows} not more) = (lows, more, inr (not, refl))

  abbrev Choice : (b : ℕ) (block : TacBlock) (lows more : List TacBlock) → Type 0
  Choice b block lows more =
      (IsReached blocks b × ((low : TacBlock) × BlockAfter blocks block low × (lows ≡ low ∷ more))) ⊎ ((IsReached blocks b → ⊥) × (lows ≡ more))

  same_left : (b : ℕ) (block : TacBlock) (lows others more rest : List TacBlock) → more ≡ rest → Choice b block lows more → Choice b block others rest → lows ≡ others
  same_left b block lows others more rest e (inl (is, (low, m, f))) (inl (too, (other, n, g))) =
      f ∙ ap (λ (o : TacBlock). o ∷ more) (one_block block low other m n) ∙ ap (λ (l : List TacBlock). other ∷ l) e ∙ sym g
  same_left b block lows others more rest e (inl (is, (low, m, f))) (inr (not, g)) = absurd (not is)
  same_left b block lows others more rest e (inr (not, f)) (inl (is, (low, m, g))) = absurd (not is)
  same_left b block lows others more rest e (inr (not, f)) (inr (too, g)) = f ∙ e ∙ sym g

  one_left : (rest : List TacBlock) (b : ℕ) (lows others : List TacBlock) → Left blocks b rest lows → Left blocks b rest others → lows ≡ others
  one_left [] b lows others m n = left_of m ∙ sym (left_of n)
  one_left (block ∷ rest) b lows others m n =
      let v = left_of m in
      let w = left_of n in
      same_left b block lows others v.0 w.0 (one_left rest (b + 1) v.0 w.0 v.1 w.1) v.2 w.2

pub function_once : (f g k : TacFunc) → FunctionAfter f g → FunctionAfter f k → g ≡ k
function_once f g k is too =
    ap (λ (n : ℕ). let h : TacFunc = record { params = n; regs = g.regs; blocks = g.blocks } in h) (is.params ∙ sym too.params)
    ∙ ap (λ (n : ℕ). let h : TacFunc = record { params = k.params; regs = n; blocks = g.blocks } in h) (is.regs ∙ sym too.regs)
    ∙ ap (λ (bs : List TacBlock). let h : TacFunc = record { params = k.params; regs = k.regs; blocks = bs } in h)
    (one_left f.blocks f.blocks 0 g.blocks k.blocks is.blocks too.blocks)

pub jumps_once : (t a b : Tac) → ProgramAfter t a → ProgramAfter t b → a ≡ b
jumps_once t a b is too =
    ap (λ (i : List ℕ). let u : Tac = record { initial = i; funcs = a.funcs; main = a.main } in u) (is.initial ∙ sym too.initial)
    ∙ ap (λ (fs : List TacFunc). let u : Tac = record { initial = b.initial; funcs = fs; main = a.main } in u)
    (zip_once FunctionAfter function_once t.funcs a.funcs b.funcs is.funcs too.funcs)
    ∙ ap (λ (n : ℕ). let u : Tac = record { initial = b.initial; funcs = b.funcs; main = n } in u) (is.main ∙ sym too.main)
