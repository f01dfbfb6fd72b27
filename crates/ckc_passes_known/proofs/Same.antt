-- Tests of facts answer what they are asked.
use Rattle.std.proofs.Common.{◌≡◌, ◌≢◌, ⊎_elim, ℕ, ◌==◌, ◌^◌, nat_lt, Bool, true, false, ◌&&◌, if◌then◌else◌, Some, None, refl, sym, ap, subst, ◌∙◌, arith}
use Rattle.std.proofs.lemmas.Bool.{both_ways, cases_Bool}
use Rattle.std.proofs.lemmas.Bool.Decides.{nat_tests}
use Rattle.ckc_base.specs.declared.arithmetic.BinOp.TheVariants.{Add, Sub, Mul, DivS, DivU, RemS, RemU, And, Or, Xor, Shl, ShrS, ShrU, LtS as less_signed, LtU as less, Eq as equal, Ne as unequal}
use Rattle.ckc_tac.specs.declared.code.Comparison.{Comparison}
use Rattle.ckc_tac.specs.declared.code.Comparison.TheVariants.{LtS, LtU, Eq, Ne}
use Rattle.ckc_tac.specs.declared.code.Operand.{Operand}
use Rattle.ckc_tac.specs.declared.code.Operand.TheVariants.{Register, Number}
use Rattle.ckc_tac.specs.declared.code.TacOp.{TacOp}
use Rattle.ckc_tac.specs.declared.code.TacOp.TheVariants.{Const, Copy, Bin, High, Load, Store, Check, Call, Get, Put, Alloc}
use Rattle.ckc_passes_known.specs.declared.facts.Fact.{Fact}
use Rattle.ckc_passes_known.specs.Known.{fact_of, not_negative, told, one_more}
use Rattle.ckc_passes_known.specs.code.Marks.{same_comparison, same_operand, same_outcome, same_fact, tells, adds_one}

pub both_left : (a b : Bool) → (a && b) ≡ true → a ≡ true
both_left true b e = refl
both_left false b e = absurd cc

pub both_right : (a b : Bool) → (a && b) ≡ true → b ≡ true
both_right true b e = e
both_right false b e = absurd cc

pub both : (a b : Bool) → a ≡ true → b ≡ true → (a && b) ≡ true
both true b e f = f
both false b e f = absurd cc

pub test_same : (a b : ℕ) → (a == b) ≡ true → a ≡ b
test_same a b e = grind (arith, nat_tests)

pub same_test : (a : ℕ) → (a == a) ≡ true
same_test a = grind (arith, nat_tests)

-- ---- equal facts

comparison_is : (c d : Comparison) → same_comparison c d ≡ true → c ≡ d
comparison_is LtS LtS e = refl
comparison_is LtU LtU e = refl
comparison_is Eq Eq e = refl
comparison_is Ne Ne e = refl
comparison_is LtS LtU e = absurd cc
comparison_is LtS Eq e = absurd cc
comparison_is LtS Ne e = absurd cc
comparison_is LtU LtS e = absurd cc
comparison_is LtU Eq e = absurd cc
comparison_is LtU Ne e = absurd cc
comparison_is Eq LtS e = absurd cc
comparison_is Eq LtU e = absurd cc
comparison_is Eq Ne e = absurd cc
comparison_is Ne LtS e = absurd cc
comparison_is Ne LtU e = absurd cc
comparison_is Ne Eq e = absurd cc

comparison_self : (c : Comparison) → same_comparison c c ≡ true
comparison_self LtS = refl
comparison_self LtU = refl
comparison_self Eq = refl
comparison_self Ne = refl

operand_is : (a b : Operand) → same_operand a b ≡ true → a ≡ b
operand_is (Register r) (Register q) e = ap Register (test_same r q e)
operand_is (Number m) (Number n) e = ap Number (test_same m n e)
operand_is (Register r) (Number n) e = absurd cc
operand_is (Number m) (Register q) e = absurd cc

operand_self : (a : Operand) → same_operand a a ≡ true
operand_self (Register r) = same_test r
operand_self (Number n) = same_test n

outcome_is : (a b : Bool) → same_outcome a b ≡ true → a ≡ b
outcome_is true true e = refl
outcome_is true false e = absurd cc
outcome_is false true e = absurd cc
outcome_is false false e = refl

outcome_self : (a : Bool) → same_outcome a a ≡ true
outcome_self true = refl
outcome_self false = refl

pub fact_is : (f g : Fact) → same_fact f g ≡ true → f ≡ g
fact_is f g e =
    let c = same_comparison f.comparison g.comparison in
    let l = same_operand f.a g.a in
    let r = same_operand f.b g.b in
    let o = same_outcome f.holds g.holds in
    let three = both_left (c && l && r) o e in
    let two = both_left (c && l) r three in
    ap (λ (c : Comparison). let h : Fact = record { comparison = c; a = f.a; b = f.b; holds = f.holds } in h) (comparison_is f.comparison g.comparison (both_left c l two))
    ∙ ap (λ (a : Operand). let h : Fact = record { comparison = g.comparison; a = a; b = f.b; holds = f.holds } in h) (operand_is f.a g.a (both_right c l two))
    ∙ ap (λ (b : Operand). let h : Fact = record { comparison = g.comparison; a = g.a; b = b; holds = f.holds } in h) (operand_is f.b g.b (both_right (c && l) r three))
    ∙ ap (λ (o : Bool). let h : Fact = record { comparison = g.comparison; a = g.a; b = g.b; holds = o } in h) (outcome_is f.holds g.holds (both_right (c && l && r) o e))

fact_self : (f : Fact) → same_fact f f ≡ true
fact_self f =
    let c = same_comparison f.comparison f.comparison in
    let l = same_operand f.a f.a in
    let r = same_operand f.b f.b in
    let o = same_outcome f.holds f.holds in
    both (c && l && r) o (both (c && l) r (both c l (comparison_self f.comparison) (operand_self f.a)) (operand_self f.b)) (outcome_self f.holds)

pub fact_not : (f g : Fact) → same_fact f g ≡ false → f ≢ g
fact_not f g e same = both_ways (same_fact f g) e (subst (λ h. same_fact f h ≡ true) same (fact_self f))

pub not_fact : (f g : Fact) → f ≢ g → same_fact f g ≡ false
not_fact f g apart = ⊎_elim (λ (t : same_fact f g ≡ true). absurd (apart (fact_is f g t))) (λ (e : same_fact f g ≡ false). e) (cases_Bool (same_fact f g))

-- ---- what an operation tells

same_some : (f g : Fact) → Some f ≡ Some g → f ≡ g
same_some f g e = cc

const_told : (small : Bool) (f fact : Fact) → (small && same_fact f fact) ≡ true → (if small then Some f else None) ≡ Some fact
const_told true f fact e = ap Some (fact_is f fact e)
const_told false f fact e = absurd cc

told_const : (small : Bool) (f fact : Fact) → (if small then Some f else None) ≡ Some fact → (small && same_fact f fact) ≡ true
told_const true f fact e = subst (λ g. same_fact f g ≡ true) (same_some f fact e) (fact_self f)
told_const false f fact e = absurd (let g : None ≡ Some fact = e in cc)

pub tells_told : (op : TacOp) (fact : Fact) → tells op fact ≡ true → told op ≡ Some fact
tells_told (Check check at comparison a b) fact e = ap Some (fact_is (fact_of comparison a b true) fact e)
tells_told (Const t n) fact e = const_told (nat_lt n (2 ^ 31)) (not_negative t) fact e
tells_told (Copy t a) fact e = absurd cc
tells_told (Bin op t a b) fact e = absurd cc
tells_told (High is_signed t a b) fact e = absurd cc
tells_told (Load width t a n) fact e = absurd cc
tells_told (Store width a n b) fact e = absurd cc
tells_told (Call target callee arguments at) fact e = absurd cc
tells_told (Get t) fact e = absurd cc
tells_told (Put a) fact e = absurd cc
tells_told (Alloc t a size) fact e = absurd cc

told_tells : (op : TacOp) (fact : Fact) → told op ≡ Some fact → tells op fact ≡ true
told_tells (Check check at comparison a b) fact e =
    subst (λ g. same_fact (fact_of comparison a b true) g ≡ true) (same_some (fact_of comparison a b true) fact e) (fact_self (fact_of comparison a b true))
told_tells (Const t n) fact e = told_const (nat_lt n (2 ^ 31)) (not_negative t) fact e
told_tells (Copy t a) fact e = absurd cc
told_tells (Bin op t a b) fact e = absurd cc
told_tells (High is_signed t a b) fact e = absurd cc
told_tells (Load width t a n) fact e = absurd cc
told_tells (Store width a n b) fact e = absurd cc
told_tells (Call target callee arguments at) fact e = absurd cc
told_tells (Get t) fact e = absurd cc
told_tells (Put a) fact e = absurd cc
told_tells (Alloc t a size) fact e = absurd cc

pub tells_not : (op : TacOp) (fact : Fact) → tells op fact ≡ false → told op ≢ Some fact
tells_not op fact e same = both_ways (tells op fact) e (told_tells op fact same)

pub not_tells : (op : TacOp) (fact : Fact) → told op ≢ Some fact → tells op fact ≡ false
not_tells op fact apart = ⊎_elim (λ (t : tells op fact ≡ true). absurd (apart (tells_told op fact t))) (λ (e : tells op fact ≡ false). e) (cases_Bool (tells op fact))

-- ---- the operation that adds 1

adds_self : (r : ℕ) → adds_one (one_more r) r ≡ true
adds_self r = both (r == r && r == r) (1 == 1) (both (r == r) (r == r) (same_test r) (same_test r)) refl

pub is_adding : (op : TacOp) (r : ℕ) → op ≡ one_more r → adds_one op r ≡ true
is_adding op r e = subst (λ o. adds_one o r ≡ true) (sym e) (adds_self r)

pub adding_is : (op : TacOp) (r : ℕ) → adds_one op r ≡ true → op ≡ one_more r
adding_is (Bin Add t (Register q) (Number n)) r e =
    let two = both_left (t == r && q == r) (n == 1) e in
    ap (λ (t : ℕ). Bin Add t (Register q) (Number n)) (test_same t r (both_left (t == r) (q == r) two))
    ∙ ap (λ (q : ℕ). Bin Add r (Register q) (Number n)) (test_same q r (both_right (t == r) (q == r) two))
    ∙ ap (λ (n : ℕ). Bin Add r (Register r) (Number n)) (test_same n 1 (both_right (t == r && q == r) (n == 1) e))
adding_is (Bin Add t (Register q) (Register p)) r e = absurd cc
adding_is (Bin Add t (Number m) b) r e = absurd cc
adding_is (Bin Sub t a b) r e = absurd cc
adding_is (Bin Mul t a b) r e = absurd cc
adding_is (Bin DivS t a b) r e = absurd cc
adding_is (Bin DivU t a b) r e = absurd cc
adding_is (Bin RemS t a b) r e = absurd cc
adding_is (Bin RemU t a b) r e = absurd cc
adding_is (Bin And t a b) r e = absurd cc
adding_is (Bin Or t a b) r e = absurd cc
adding_is (Bin Xor t a b) r e = absurd cc
adding_is (Bin Shl t a b) r e = absurd cc
adding_is (Bin ShrS t a b) r e = absurd cc
adding_is (Bin ShrU t a b) r e = absurd cc
adding_is (Bin less_signed t a b) r e = absurd cc
adding_is (Bin less t a b) r e = absurd cc
adding_is (Bin equal t a b) r e = absurd cc
adding_is (Bin unequal t a b) r e = absurd cc
adding_is (Const t n) r e = absurd cc
adding_is (Copy t a) r e = absurd cc
adding_is (High is_signed t a b) r e = absurd cc
adding_is (Load width t a n) r e = absurd cc
adding_is (Store width a n b) r e = absurd cc
adding_is (Check check at comparison a b) r e = absurd cc
adding_is (Call target callee arguments at) r e = absurd cc
adding_is (Get t) r e = absurd cc
adding_is (Put a) r e = absurd cc
adding_is (Alloc t a size) r e = absurd cc
