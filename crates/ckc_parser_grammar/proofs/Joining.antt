-- Operands that are joined step by step are joined as the whole row is.
use Rattle.std.proofs.Common.{◌≡◌, ℕ, List, [], ◌∷◌, ◌++◌, Bool, true, false, not, ◌==◌, refl, sym, ap, ◌∙◌, arith, zero, suc, ◌<◌, ◌-◌}
use Rattle.std.specs.Bool.{OnFalse}
use Rattle.std.proofs.lemmas.Bool.Decides.{nat_tests}
use Rattle.ckc_syntax.specs.declared.tree.Node.TheVariants as node
use Rattle.ckc_base.specs.declared.places.Pos.{Pos}
use Rattle.ckc_syntax.specs.declared.tree.TreeOp.{TreeOp}
use Rattle.ckc_parser_grammar.specs.code.Trees.{Expr, Step, attached, expr_at, level, joined, joined_to, joined_at}

-- whether an operator is of a level, as a case
same_level : (b : Bool) (e f : Expr) (l : ℕ) (s : Step) (ss : List Step) → (level s.op == l) ≡ b → b ≡ true → f ≡ expr_at (node.Bin s.op e s.operand) s.pos → joined_at l e (s ∷ ss) ≡ joined_at l f ss
same_level true e f l s ss h k g = rw h (ap (λ z. joined_at l z ss) (sym g))
same_level false e f l s ss h k g = absurd (cc)

other_level : (b : Bool) (e : Expr) (l : ℕ) (s : Step) (ss : List Step) → (level s.op == l) ≡ b → b ≡ false → attached l e (s ∷ []) ss ≡ joined_at l e (s ∷ ss)
other_level false e l s ss h k = rw h refl
other_level true e l s ss h k = absurd (cc)

pub is_level : (m l : ℕ) → m ≡ l → (m == l) ≡ true
is_level m l e = grind (arith, nat_tests)

pub not_level : (m l : ℕ) → (m ≡ l → ⊥) → (m == l) ≡ false
not_level m l e = grind (arith, nat_tests)

-- a step of another level stands after what is joined
pub attach_push : (l : ℕ) (e : Expr) (xs : List Step) (s : Step) (ss : List Step) → (level s.op == l) ≡ false → attached l e (xs ++ s ∷ []) ss ≡ attached l e xs (s ∷ ss)
attach_push l e [] s ss h = other_level (level s.op == l) e l s ss refl h
attach_push l e (x ∷ xs) s ss h =
    ap (λ r. (e, record { op = x.op; pos = x.pos; operand = r.0 } ∷ r.1)) (attach_push l x.operand xs s ss h)

-- a step of this level is joined with the last operand
pub attach_first : (l : ℕ) (e f : Expr) (s : Step) (ss : List Step) → (level s.op == l) ≡ true → f ≡ expr_at (node.Bin s.op e s.operand) s.pos → attached l f [] ss ≡ attached l e [] (s ∷ ss)
attach_first l e f s ss h g = sym (same_level (level s.op == l) e f l s ss refl h g)

pub attach_last : (l : ℕ) (e : Expr) (xs : List Step) (x y s : Step) (ss : List Step) → (level s.op == l) ≡ true →
    y ≡ record { op = x.op; pos = x.pos; operand = expr_at (node.Bin s.op x.operand s.operand) s.pos } →
    attached l e (xs ++ y ∷ []) ss ≡ attached l e (xs ++ x ∷ []) (s ∷ ss)
attach_last l e [] x y s ss h g =
    ap (λ z. attached l e (z ∷ []) ss) g
    ∙ ap (λ r. (e, record { op = x.op; pos = x.pos; operand = r.0 } ∷ r.1)) (sym (same_level (level s.op == l) x.operand (expr_at (node.Bin s.op x.operand s.operand) s.pos) l s ss refl h refl))
attach_last l e (z ∷ xs) x y s ss h g =
    ap (λ r. (e, record { op = z.op; pos = z.pos; operand = r.0 } ∷ r.1)) (attach_last l z.operand xs x y s ss h g)

-- at the end nothing is left to join
pub attach_end : (l : ℕ) (e : Expr) (xs : List Step) → attached l e xs [] ≡ (e, xs)
attach_end l e [] = refl
attach_end l e (x ∷ xs) = ap (λ r. (e, record { op = x.op; pos = x.pos; operand = r.0 } ∷ r.1)) (attach_end l x.operand xs)

pub same_step : (o : TreeOp) (pos : Pos) (e f : Expr) → e ≡ f → ◌≡◌ {A = Step} (record { op = o; pos = pos; operand = e }) (record { op = o; pos = pos; operand = f })
same_step o pos e f h = ap (λ z. record { op = o; pos = pos; operand = z }) h

-- one pass, and no more passes
pub pass_one : (m : ℕ) (e : Expr) (ss : List Step) → 0 < m → joined_to (m - 1) (joined_at m e ss) ≡ joined_to m (e, ss)
unfolding joined_to
pass_one zero e ss h = absurd (omega arith)
pass_one (suc m) e ss h = let k : suc m - 1 ≡ m = omega arith in ap (λ z. joined_to z (joined_at (suc m) e ss)) k

pub no_pass : (m : ℕ) (c : Expr × List Step) → m ≡ 0 → joined_to m c ≡ c
unfolding joined_to
no_pass zero c h = refl
no_pass (suc m) c h = absurd (omega arith)

-- without steps no pass changes anything
pub nothing_left : (m : ℕ) (e : Expr) → joined_to m (e, []) ≡ (e, [])
unfolding joined_to
nothing_left zero e = refl
nothing_left (suc m) e = nothing_left m e

-- so nothing may be left to join if no step is left, nor after the last pass
pub done_empty : (empty : Bool) (m : ℕ) (e : Expr) (ss : List Step) → (empty ≡ true → ss ≡ []) → OnFalse (not empty) (joined_to m (e, ss) ≡ (e, ss))
done_empty true m e ss h = ap (λ z. joined_to m (e, z)) (h refl) ∙ nothing_left m e ∙ ap (λ z. (e, z)) (sym (h refl))
done_empty false m e ss h = tt

pub done_last : (more : Bool) (m : ℕ) (c : Expr × List Step) → m ≡ 0 → OnFalse more (joined_to m c ≡ c)
done_last true m c h = tt
done_last false m c h = no_pass m c h

pub all_passes : (e : Expr) (ss : List Step) → joined e ss ≡ (joined_to 10 (e, ss)).0
unfolding joined
all_passes e ss = refl
