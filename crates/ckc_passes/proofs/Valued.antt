-- The values of registers after one more operation.
use Rattle.std.proofs.Common.{◌≡◌, ◌≢◌, ◌⊎◌, inl, inr, ℕ, ◌<◌, ◌==◌, if◌then◌else◌, Bool, false, List, ◌∷◌, length, get_or, Option, None, Some, refl, sym, ap, subst, ◌∙◌, arith}
use Rattle.std.proofs.lemmas.Bool.{cases_eq}
use Rattle.std.proofs.lemmas.Bool.Decides.{nat_tests}
use Rattle.std.proofs.lemmas.Grind.{get_or-set_at}
use Rattle.std.proofs.lemmas.List.{get_or-set_other}
use Rattle.ckc_base.specs.Activations.{Values, with_written}
use Rattle.ckc_tac.specs.declared.code.TacFunc.{TacFunc}
use Rattle.ckc_tac.specs.declared.code.TacOp.{TacOp}
use Rattle.ckc_tac.specs.declared.code.TacOp.TheVariants.{Const, Copy, Bin, High, Load, Store, Check, Call, Get, Put, Alloc}
use Rattle.ckc_tac.specs.WellFormed.{IsOpOver}
use Rattle.ckc_flow.specs.Live.{target_of}
use Rattle.ckc_passes.specs.Values.{Term, number_in, known_or, given, is_target, value_after}
use Rattle.ckc_passes.specs.code.Forward.{entered}
use Rattle.ckc_passes.proofs.Followed.{same_test}

-- ---- registers that are written

pub other_test : (a b : ℕ) → a ≢ b → (a == b) ≡ false
other_test a b e = grind (arith, nat_tests)

pub written_same : (x : Values) (t v q : ℕ) → q ≡ t → with_written x t v q ≡ Some v
unfolding with_written
written_same x t v q e = grind (arith, nat_tests)

pub written_other : (x : Values) (t v q : ℕ) → q ≢ t → with_written x t v q ≡ x q
unfolding with_written
written_other x t v q e = grind (arith, nat_tests)

-- whether a register is the target of an operation
pub data Hit (target : Option ℕ) (r : ℕ) : Type 0 where
  hit : target ≡ Some r → Hit target r
  miss : is_target target r ≡ false → ((t : ℕ) → target ≡ Some t → r ≢ t) → Hit target r

hit_by : (t r : ℕ) → (r ≡ t) ⊎ (r ≢ t) → Hit (Some t) r
hit_by t r (inl e) = hit (ap Some (sym e))
hit_by t r (inr e) = miss (other_test t r (λ f. e (sym f))) (λ s f g. e (g ∙ sym (let h : t ≡ s = cc in h)))

pub hits : (target : Option ℕ) (r : ℕ) → Hit target r
hits (Some t) r = hit_by t r (cases_eq r t)
hits None r = miss refl (λ t e. absurd cc)

-- the target of an operation is one of the registers
pub target_over : (functions : List TacFunc) (regs : ℕ) (op : TacOp) (t : ℕ) → IsOpOver functions regs op → target_of op ≡ Some t → t < regs
target_over functions regs (Const q n) t h e = subst (λ x. x < regs) (let f : q ≡ t = cc in f) h.0
target_over functions regs (Copy q a) t h e = subst (λ x. x < regs) (let f : q ≡ t = cc in f) h.0
target_over functions regs (Bin op q a b) t h e = subst (λ x. x < regs) (let f : q ≡ t = cc in f) h.0
target_over functions regs (High is_signed q a b) t h e = subst (λ x. x < regs) (let f : q ≡ t = cc in f) h.0
target_over functions regs (Load width q a n) t h e = subst (λ x. x < regs) (let f : q ≡ t = cc in f) h.0
target_over functions regs (Store width a n b) t h e = absurd cc
target_over functions regs (Check check at comparison a b) t h e = absurd cc
target_over functions regs (Call (Some q) callee arguments at) t h e = subst (λ x. x < regs) (let f : q ≡ t = cc in f) h.0
target_over functions regs (Call None callee arguments at) t h e = absurd cc
target_over functions regs (Get q) t h e = subst (λ x. x < regs) (let f : q ≡ t = cc in f) h
target_over functions regs (Put a) t h e = absurd cc
target_over functions regs (Alloc q a size) t h e = subst (λ x. x < regs) (let f : q ≡ t = cc in f) h.0

-- ---- terms

pub after_target : (before : List TacOp) (op : TacOp) (t : ℕ) → target_of op ≡ Some t → value_after (op ∷ before) t ≡ given (value_after before) (length before) op
after_target before op t e =
    ap (λ (o : Option ℕ). if is_target o t then given (value_after before) (length before) op else value_after before t) e
    ∙ ap (λ (b : Bool). if b then given (value_after before) (length before) op else value_after before t) (same_test t t refl)

pub after_other : (before : List TacOp) (op : TacOp) (r : ℕ) → is_target (target_of op) r ≡ false → value_after (op ∷ before) r ≡ value_after before r
after_other before op r e = ap (λ (b : Bool). if b then given (value_after before) (length before) op else value_after before r) e

pub known_number : (o : Option ℕ) (value : Term) → number_in value ≡ None → number_in (known_or o value) ≡ o
known_number (Some n) value e = refl
known_number None value e = e

-- ---- entries of tables

pub entry_same : {A : Type 0} (target : Option ℕ) (k : List A) (r : ℕ) (v empty : A) → target ≡ Some r → ((t : ℕ) → target ≡ Some t → t < length k)
    → get_or (entered target v k) r empty ≡ v
entry_same target k r v empty e within = ap (λ o. get_or (entered o v k) r empty) e ∙ get_or-set_at k r r v empty refl (within r e)

pub entry_other : {A : Type 0} (target : Option ℕ) (k : List A) (r : ℕ) (v empty : A) → ((t : ℕ) → target ≡ Some t → r ≢ t) → get_or (entered target v k) r empty ≡ get_or k r empty
entry_other (Some t) k r v empty apart = get_or-set_other k t r v empty (apart t refl)
entry_other None k r v empty apart = refl
