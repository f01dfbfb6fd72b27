-- What the pass makes follows, and is no larger: a check that repeats an earlier one never stops.
use Rattle.std.proofs.Common.{◌≡◌, inl, inr, ℕ, ◌≤◌, ◌==◌, if◌then◌else◌, Bool, true, false, List, [], ◌∷◌, Option, None, Some, refl, sym, ap, subst, ◌∙◌, arith}
use Rattle.ckc_base.specs.declared.places.Pos.{Pos}
use Rattle.ckc_base.specs.declared.runtime_checks.Check.{Check as CheckKind}
use Rattle.ckc_base.specs.Words.{applied}
use Rattle.ckc_base.specs.Products.{high_product}
use Rattle.ckc_base.specs.Actions.{World, Outcome, Gives, Done, Stops, Lost, with_value, checks}
use Rattle.ckc_base.specs.Activations.{Values, with_written, with_result}
use Rattle.ckc_tac.specs.declared.code.TacBlock.{TacBlock}
use Rattle.ckc_tac.specs.declared.code.Comparison.{Comparison}
use Rattle.ckc_tac.specs.declared.code.Operand.{Operand}
use Rattle.ckc_tac.specs.declared.code.TacOp.{TacOp}
use Rattle.ckc_tac.specs.declared.code.TacOp.TheVariants.{Const, Copy, Bin, High, Load, Store, Check, Call, Get, Put, Alloc}
use Rattle.ckc_tac.specs.declared.code.TacEnd.{TacEnd}
use Rattle.ckc_tac.specs.Operations.{outcome_of, value_in, values_in, compared}
use Rattle.ckc_tac.specs.WellFormed.{IsOpOver, IsEndOver}
use Rattle.ckc_tac.specs.Sizes.{op_size, end_size}
use Rattle.ckc_flow.specs.Live.{target_of}
use Rattle.ckc_passes.specs.Values.{Term, computed, operand_after}
use Rattle.ckc_passes.specs.code.Faithful.{Acts, StandsFor, Vanishes, IsIdle, EndsBeside, IsFaithful, IsThrifty}
use Rattle.ckc_passes.specs.code.Forward.{IsGiven, GivesTarget, SameAnd}
use Rattle.ckc_passes.proofs.Forwarded.{gives_target, some_same, if_all, ends_itself}
use Rattle.ckc_passes_redundant.specs.Redundant.{Looks, HasLooked, Repeats, compared_after, redundant_pass}
use Rattle.ckc_passes_redundant.proofs.Environments.{IsSet, Holds, holds_at_first, holds_written, holds_new, holds_idle, operand_worth, compared_worth, combined_worth, upper_worth}

-- what an operation gives its target is what its term is worth
holds_given : (done : List TacOp) (op : TacOp) (x : Values) (t v : ℕ) → target_of op ≡ Some t → IsGiven x op v → Holds done x → Holds (op ∷ done) (with_written x t v)
holds_given done (Const s n) x t v target is h = holds_written done (Const s n) x (λ kind value l. l) h t v target (ap Some (sym is))
holds_given done (Copy s a) x t v target is h = holds_written done (Copy s a) x (λ kind value l. l) h t v target (sym (h.registers a) ∙ is)
holds_given done (Bin op s a b) x t v target is h =
    holds_written done (Bin op s a b) x (λ kind value l. l) h t v target
    (combined_worth h.environment op (operand_after done a) (operand_after done b)
    ∙ (λ i. computed (applied op) (sym (operand_worth done x h a) i) (sym (operand_worth done x h b) i)) ∙ is)
holds_given done (High is_signed s a b) x t v target is h =
    holds_written done (High is_signed s a b) x (λ kind value l. l) h t v target
    (upper_worth h.environment is_signed (operand_after done a) (operand_after done b)
    ∙ (λ i. computed (high_product is_signed) (sym (operand_worth done x h a) i) (sym (operand_worth done x h b) i)) ∙ is)
holds_given done (Load width s a n) x t v target is h = holds_new done (Load width s a n) x (λ kind value l. l) h t v target refl
holds_given done (Store width a n b) x t v target is h = absurd cc
holds_given done (Check check at comparison a b) x t v target is h = absurd cc
holds_given done (Call target callee arguments at) x t v to is h = holds_new done (Call target callee arguments at) x (λ kind value l. l) h t v to refl
holds_given done (Get s) x t v target is h = holds_new done (Get s) x (λ kind value l. l) h t v target refl
holds_given done (Put a) x t v target is h = absurd cc
holds_given done (Alloc s a size) x t v target is h = holds_new done (Alloc s a size) x (λ kind value l. l) h t v target refl

-- a check is passed
holds_passed : (done : List TacOp) (check : CheckKind) (at : Pos) (comparison : Comparison) (a b : Operand) (x : Values) (n : ℕ)
    → compared comparison (value_in x a) (value_in x b) ≡ Some n → (n == 0) ≡ false
    → Holds done x → Holds (Check check at comparison a b ∷ done) x
holds_passed done check at comparison a b x n is set h = record {
  environment = h.environment;
  registers = h.registers;
  looked = λ kind value l. elim l [
    | inl here ↦ subst (IsSet h.environment) here.1 (n, sym (compared_worth done x h comparison a b) ∙ is, set)
    | inr before ↦ h.looked kind value before
  ];
}

module _ (blocks : List TacBlock) (done ops : List TacOp) (end : TacEnd) (x : Values) (h : Holds done x) where
  abbrev After : TacOp → Values → Values → Type 0
  After op = SameAnd Holds blocks (op ∷ done) ops end

  -- ---- a kept operation

  acts : (op : TacOp) → ((kind : CheckKind) (value : Term) → Looks done op kind value → ⊥) → (out : Outcome) → GivesTarget x op out → Acts (After op) x x out out
  acts op quiet (Gives events t v world) g = (refl, (refl, holds_given done op x t v g.0 g.1 h))
  acts op quiet (Done events world) g = (refl, (refl, holds_idle done op x quiet h g))
  acts op quiet (Stops check at) g = refl
  acts op quiet Lost g = tt

  quiet_acts : (op : TacOp) → ((kind : CheckKind) (value : Term) → Looks done op kind value → ⊥) → (world : World)
      → Acts (After op) x x (outcome_of x world op) (outcome_of x world op)
  quiet_acts op quiet world = acts op quiet (outcome_of x world op) (gives_target x world op)

  module _ (check : CheckKind) (at : Pos) (comparison : Comparison) (a b : Operand) where
    abbrev AfterCheck : Values → Values → Type 0
    AfterCheck = After (Check check at comparison a b)

    check_tested : (world : World) (n : ℕ) (is_zero : Bool) → compared comparison (value_in x a) (value_in x b) ≡ Some n → (n == 0) ≡ is_zero
        → Acts AfterCheck x x (if is_zero then Stops check at else Done [] world) (if is_zero then Stops check at else Done [] world)
    check_tested world n true is e = refl
    check_tested world n false is e = (refl, (refl, holds_passed done check at comparison a b x n is e h))

    check_acts : (world : World) (o : Option ℕ) → compared comparison (value_in x a) (value_in x b) ≡ o
        → Acts AfterCheck x x (with_value o (checks world check at)) (with_value o (checks world check at))
    check_acts world (Some n) is = check_tested world n (n == 0) is refl
    check_acts world None is = tt

  returned : (target : Option ℕ) (callee : ℕ) (arguments : List ℕ) (at : Pos) (value : ℕ)
      → After (Call target callee arguments at) (with_result x target value) (with_result x target value)
  returned (Some t) callee arguments at value = (refl, holds_given done (Call (Some t) callee arguments at) x t value refl tt h)
  returned None callee arguments at value = (refl, holds_idle done (Call None callee arguments at) x (λ kind v l. l) h refl)

  stands : (op : TacOp) → StandsFor (After op) x x op op
  stands (Const t n) = quiet_acts (Const t n) (λ kind value l. l)
  stands (Copy t a) = quiet_acts (Copy t a) (λ kind value l. l)
  stands (Bin op t a b) = quiet_acts (Bin op t a b) (λ kind value l. l)
  stands (High is_signed t a b) = quiet_acts (High is_signed t a b) (λ kind value l. l)
  stands (Load width t a n) = quiet_acts (Load width t a n) (λ kind value l. l)
  stands (Store width a n b) = quiet_acts (Store width a n b) (λ kind value l. l)
  stands (Check check at comparison a b) = λ world. check_acts check at comparison a b world (compared comparison (value_in x a) (value_in x b)) refl
  stands (Call target callee arguments at) = record {
    others = arguments;
    is = refl;
    long = refl;
    values = some_same (values_in x arguments);
    after = if_all (values_in x arguments) (λ vs. (value : ℕ) → After (Call target callee arguments at) (with_result x target value) (with_result x target value))
        (λ vs value. returned target callee arguments at value);
  }
  stands (Get t) = quiet_acts (Get t) (λ kind value l. l)
  stands (Put a) = quiet_acts (Put a) (λ kind value l. l)
  stands (Alloc t a size) = quiet_acts (Alloc t a size) (λ kind value l. l)

  -- ---- a dropped one

  vanishes : (check : CheckKind) (at : Pos) (comparison : Comparison) (a b : Operand) (y : Values) → y ≡ x → HasLooked done check (compared_after done comparison a b)
      → (world : World)
      → Vanishes (AfterCheck check at comparison a b) x y world (with_value (compared comparison (value_in x a) (value_in x b)) (checks world check at))
  vanishes check at comparison a b y same has world =
      let s = h.looked check (compared_after done comparison a b) has in
      let is : compared comparison (value_in x a) (value_in x b) ≡ Some s.0 = compared_worth done x h comparison a b ∙ s.1 in
      subst (λ (o : Option ℕ). Vanishes (AfterCheck check at comparison a b) x y world (with_value o (checks world check at))) (sym is)
      (subst (λ (z : Bool). Vanishes (AfterCheck check at comparison a b) x y world (if z then Stops check at else Done [] world)) (sym s.2)
      (refl, refl, (same, holds_passed done check at comparison a b x s.0 is s.2 h)))

  idle : (op : TacOp) (y : Values) → y ≡ x → Repeats done op → IsIdle (After op) x y op
  idle (Check check at comparison a b) y same r = vanishes check at comparison a b y same r
  idle (Const t n) y same r = absurd r
  idle (Copy t a) y same r = absurd r
  idle (Bin op t a b) y same r = absurd r
  idle (High is_signed t a b) y same r = absurd r
  idle (Load width t a n) y same r = absurd r
  idle (Store width a n b) y same r = absurd r
  idle (Call target callee arguments at) y same r = absurd r
  idle (Get t) y same r = absurd r
  idle (Put a) y same r = absurd r
  idle (Alloc t a size) y same r = absurd r

pub faithful : IsFaithful redundant_pass (SameAnd Holds)
faithful = record {
  enters = λ blocks block x there. (refl, holds_at_first x);
  begins = λ blocks done end low_end b block x y given alike leads there. (alike.0, holds_at_first x);
  keeps = λ blocks done ops end op low x y given alike.
      subst (λ (l : TacOp). StandsFor (SameAnd Holds blocks (op ∷ done) ops end) x y op l) (sym given.0)
      (subst (λ (z : Values). StandsFor (SameAnd Holds blocks (op ∷ done) ops end) x z op op) (sym alike.0) (stands blocks done ops end x alike.1 op));
  drops = λ blocks done ops end op x y given alike. idle blocks done ops end x alike.1 op y alike.0 given;
  ends = λ blocks done end low_end x y given alike.
      subst (λ (e : TacEnd). EndsBeside x y end e) (sym given) (subst (λ (z : Values). EndsBeside x z end end) (sym alike.0) (ends_itself x end));
}

pub thrifty : IsThrifty redundant_pass
thrifty = record {
  over = λ blocks done ops end op low given functions regs before over. subst (IsOpOver functions regs) (sym given.0) over;
  op_fits = λ blocks done ops end op low given. subst (λ (l : TacOp). op_size l ≤ op_size op) (sym given.0) (omega arith);
  end_over = λ blocks done end low_end given functions count regs before over. subst (IsEndOver count regs) (sym given) over;
  end_fits = λ blocks done end low_end given. subst (λ (e : TacEnd). end_size e ≤ end_size end) (sym given) (omega arith);
}
