-- A folded program follows its argument, and is no larger.
use Rattle.std.proofs.Common.{◌≡◌, ◌⊎◌, inl, inr, ℕ, ◌≤◌, ◌<◌, ◌^◌, if◌then◌else◌, Bool, true, false, List, [], ◌∷◌, length, Option, None, Some, refl, sym, ap, subst, ◌∙◌, arith}
use Rattle.std.specs.Prelude.{All}
use Rattle.ckc_base.specs.LongEvents.{LongEvent}
use Rattle.ckc_base.specs.Actions.{World, Outcome, Gives, with_value}
use Rattle.ckc_base.specs.Words.{applied}
use Rattle.ckc_base.specs.Products.{high_product}
use Rattle.ckc_base.specs.Activations.{Values, with_written}
use Rattle.ckc_tac.specs.declared.code.TacFunc.{TacFunc}
use Rattle.ckc_tac.specs.declared.code.TacBlock.{TacBlock}
use Rattle.ckc_tac.specs.declared.code.Operand.{Operand}
use Rattle.ckc_tac.specs.declared.code.Operand.TheVariants.{Register, Number}
use Rattle.ckc_tac.specs.declared.code.TacOp.{TacOp}
use Rattle.ckc_tac.specs.declared.code.TacOp.TheVariants.{Const, Copy, Bin, High, Load, Store, Check, Call, Get, Put, Alloc}
use Rattle.ckc_tac.specs.declared.code.TacEnd.{TacEnd}
use Rattle.ckc_tac.specs.Operations.{outcome_of, value_in}
use Rattle.ckc_tac.specs.WellFormed.{IsOpOver, IsEndOver}
use Rattle.ckc_tac.specs.Sizes.{op_size, end_size}
use Rattle.ckc_flow.specs.Live.{target_of}
use Rattle.ckc_passes.specs.Values.{Term, Combined, Upper, number_in, known_or, computed, operand_after, given, is_target, value_after}
use Rattle.ckc_passes.specs.Rewrites.{pass_by}
use Rattle.ckc_passes.specs.code.Faithful.{IsFaithful, IsThrifty}
use Rattle.ckc_passes.specs.code.Forward.{IsGiven, IsForward, SameAnd, SameOutcome, DoesSame}
use Rattle.ckc_passes.proofs.Forwarded.{same_itself, ends_itself, faithful_by}
use Rattle.ckc_passes.proofs.Valued.{Hit, hit, miss, hits, written_same, written_other, after_target, after_other, known_number}
use Rattle.ckc_passes_fold.specs.Folded.{const_or, folded_op, folds}
use Rattle.ckc_passes_fold.proofs.Words.{IsWord, given_word, words}

-- a register has the number that its value is
abbrev pub Has : List TacOp → Values → Type 0
Has before x = (r n : ℕ) → number_in (value_after before r) ≡ Some n → x r ≡ Some n

one_number : (m n : ℕ) (o : Option ℕ) → o ≡ Some m → o ≡ Some n → m ≡ n
one_number m n o e f = cc

computed_as : (f : ℕ → ℕ → ℕ) (o p q s : Option ℕ) (n : ℕ) → ((k : ℕ) → o ≡ Some k → q ≡ Some k) → ((k : ℕ) → p ≡ Some k → s ≡ Some k)
    → computed f o p ≡ Some n → computed f q s ≡ Some n
computed_as f (Some v) (Some w) q s n h k e = ap (λ o. computed f o s) (h v refl) ∙ ap (computed f (Some v)) (k w refl) ∙ e
computed_as f (Some v) None q s n h k e = absurd cc
computed_as f None p q s n h k e = absurd cc

module _ (before : List TacOp) (x : Values) (has : Has before x) where
  operand_has : (a : Operand) (n : ℕ) → number_in (operand_after before a) ≡ Some n → value_in x a ≡ Some n
  operand_has (Register r) n e = has r n e
  operand_has (Number m) n e = e

  -- what is computed of terms is computed of values
  two_have : (f : ℕ → ℕ → ℕ) (a b : Operand) (value : Term) (n : ℕ) → number_in value ≡ None
      → number_in (known_or (computed f (number_in (operand_after before a)) (number_in (operand_after before b))) value) ≡ Some n
      → computed f (value_in x a) (value_in x b) ≡ Some n
  two_have f a b value n none e =
      computed_as f (number_in (operand_after before a)) (number_in (operand_after before b)) (value_in x a) (value_in x b) n (operand_has a) (operand_has b)
      (sym (known_number (computed f (number_in (operand_after before a)) (number_in (operand_after before b))) value none) ∙ e)

  given_has : (op : TacOp) (v n : ℕ) → IsGiven x op v → number_in (given (value_after before) (length before) op) ≡ Some n → v ≡ n
  given_has (Const t m) v n g e = g ∙ (let f : m ≡ n = cc in f)
  given_has (Copy t a) v n g e = one_number v n (x a) g (has a n e)
  given_has (Bin op t a b) v n g e =
      one_number v n (computed (applied op) (value_in x a) (value_in x b)) g (two_have (applied op) a b (Combined op (operand_after before a) (operand_after before b)) n refl e)
  given_has (High is_signed t a b) v n g e =
      one_number v n (computed (high_product is_signed) (value_in x a) (value_in x b)) g (two_have (high_product is_signed) a b (Upper is_signed (operand_after before a) (operand_after before b)) n refl e)
  given_has op v n g e = absurd cc

  write_has : (op : TacOp) (t v : ℕ) → target_of op ≡ Some t → IsGiven x op v → Has (op ∷ before) (with_written x t v)
  write_has op t v target g r n e = by (hits (target_of op) r)
    where
      by : Hit (target_of op) r → with_written x t v r ≡ Some n
      by (hit f) =
          let same : r ≡ t = (let h : Some r ≡ Some t = sym f ∙ target in cc) in
          written_same x t v r same ∙ ap Some (given_has op v n g (sym (ap number_in (after_target before op r f)) ∙ e))
      by (miss f apart) = written_other x t v r (apart t target) ∙ has r n (sym (ap number_in (after_other before op r f)) ∙ e)

  skip_has : (op : TacOp) → target_of op ≡ None → Has (op ∷ before) x
  skip_has op none r n e = has r n (sym (ap number_in (after_other before op r (ap (λ o. is_target o r) none))) ∙ e)

  -- ---- the folded operation does the same

  two_give : (f : ℕ → ℕ → ℕ) (o p : Option ℕ) (t n : ℕ) (world : World) → computed f o p ≡ Some n
      → with_value o (λ v. with_value p (λ w. Gives [] t (f v w) world)) ≡ Gives [] t n world
  two_give f (Some v) (Some w) t n world e = ap (λ m. Gives [] t m world) (let g : f v w ≡ n = cc in g)
  two_give f (Some v) None t n world e = absurd cc
  two_give f None p t n world e = absurd cc

  const_same : (op : TacOp) (t : ℕ) (number : Option ℕ) (world : World) → ((n : ℕ) → number ≡ Some n → outcome_of x world op ≡ Gives [] t n world)
      → SameOutcome (outcome_of x world op) (outcome_of x world (const_or number t op))
  const_same op t (Some n) world h = inr (sym (h n refl))
  const_same op t None world h = inr refl

  folded_same : (op : TacOp) → DoesSame x op (folded_op before op)
  folded_same (Bin op t a b) = λ world.
      const_same (Bin op t a b) t (number_in (value_after (Bin op t a b ∷ before) t)) world (λ n e.
      two_give (applied op) (value_in x a) (value_in x b) t n world
      (two_have (applied op) a b (Combined op (operand_after before a) (operand_after before b)) n refl
      (sym (ap number_in (after_target before (Bin op t a b) t refl)) ∙ e)))
  folded_same (High is_signed t a b) = λ world.
      const_same (High is_signed t a b) t (number_in (value_after (High is_signed t a b ∷ before) t)) world (λ n e.
      two_give (high_product is_signed) (value_in x a) (value_in x b) t n world
      (two_have (high_product is_signed) a b (Upper is_signed (operand_after before a) (operand_after before b)) n refl
      (sym (ap number_in (after_target before (High is_signed t a b) t refl)) ∙ e)))
  folded_same op = same_itself x op

has_forward : IsForward Has
has_forward = record {
  begins = λ x r n e. absurd (let f : None ≡ Some n = e in cc);
  writes = λ done op x t v target g has. write_has done x has op t v target g;
  skips = λ done op x none has. skip_has done x has op none;
}

pub fold_faithful : IsFaithful (pass_by folds) (SameAnd Has)
fold_faithful = faithful_by folds Has has_forward (λ done op x has. folded_same done x has op) (λ done end x has. ends_itself x end)

-- ---- sizes, and what is named

const_fits : (op : TacOp) (t : ℕ) (number : Option ℕ) → 5 ≤ op_size op → op_size (const_or number t op) ≤ op_size op
const_fits op t (Some n) h = h
const_fits op t None h = omega arith

folded_fits : (before : List TacOp) (op : TacOp) → op_size (folded_op before op) ≤ op_size op
folded_fits before (Bin op t a b) = const_fits (Bin op t a b) t (number_in (value_after (Bin op t a b ∷ before) t)) (omega arith)
folded_fits before (High is_signed t a b) = const_fits (High is_signed t a b) t (number_in (value_after (High is_signed t a b ∷ before) t)) (omega arith)
folded_fits before op = omega arith

module _ (functions : List TacFunc) (regs : ℕ) (before : List TacOp) (over : All (IsOpOver functions regs) before) where
  const_over : (op : TacOp) (t : ℕ) (number : Option ℕ) → IsOpOver functions regs op → t < regs → ((n : ℕ) → number ≡ Some n → n < 2 ^ 32)
      → IsOpOver functions regs (const_or number t op)
  const_over op t (Some n) here there word = (there, word n refl)
  const_over op t None here there word = here

  target_word : (op : TacOp) (t n : ℕ) → target_of op ≡ Some t → IsOpOver functions regs op → number_in (value_after (op ∷ before) t) ≡ Some n → n < 2 ^ 32
  target_word op t n target here e =
      given_word functions regs (value_after before) (length before) op (words functions regs before over) here n (sym (ap number_in (after_target before op t target)) ∙ e)

  folded_over : (op : TacOp) → IsOpOver functions regs op → IsOpOver functions regs (folded_op before op)
  folded_over (Bin op t a b) here =
      const_over (Bin op t a b) t (number_in (value_after (Bin op t a b ∷ before) t)) here here.0 (λ n e. target_word (Bin op t a b) t n refl here e)
  folded_over (High is_signed t a b) here =
      const_over (High is_signed t a b) t (number_in (value_after (High is_signed t a b ∷ before) t)) here here.0 (λ n e. target_word (High is_signed t a b) t n refl here e)
  folded_over op here = here

pub fold_thrifty : IsThrifty (pass_by folds)
fold_thrifty = record {
  over = λ blocks done ops end op low given functions regs over here. subst (IsOpOver functions regs) (sym given) (folded_over functions regs done over op here);
  op_fits = λ blocks done ops end op low given. subst (λ (l : TacOp). op_size l ≤ op_size op) (sym given) (folded_fits done op);
  end_over = λ blocks done end low_end given functions count regs over here. subst (IsEndOver count regs) (sym given) here;
  end_fits = λ blocks done end low_end given. subst (λ (e : TacEnd). end_size e ≤ end_size end) (sym given) (omega arith);
}
