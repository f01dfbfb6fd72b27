-- Dropping the dead operations keeps what a program does: registers that are wanted are equal.
use Rattle.std.proofs.Common.{◌≡◌, ◌≢◌, inl, inr, ⊎_elim, ℕ, true, List, [], ◌∷◌, Option, None, Some, refl, sym, ap, subst, ◌∙◌, arith}
use Rattle.std.specs.Prelude.{IfSome}
use Rattle.std.proofs.lemmas.Bool.{cases_eq}
use Rattle.std.proofs.lemmas.Bool.Decides.{nat_tests}
use Rattle.std.proofs.lemmas.Option.{none-some}
use Rattle.ckc_base.specs.Actions.{World, Outcome, Gives, Done, Stops, Lost, with_value}
use Rattle.ckc_base.specs.Activations.{Values, with_written, with_result}
use Rattle.ckc_base.specs.Words.{applied}
use Rattle.ckc_base.specs.Products.{high_product}
use Rattle.ckc_tac.specs.declared.code.TacBlock.{TacBlock}
use Rattle.ckc_tac.specs.declared.code.TacOp.{TacOp}
use Rattle.ckc_tac.specs.declared.code.TacOp.TheVariants.{Const, Copy, Bin, High, Call}
use Rattle.ckc_tac.specs.declared.code.TacEnd.{TacEnd}
use Rattle.ckc_tac.specs.declared.code.TacEnd.TheVariants.{Jump, Branch, Return}
use Rattle.ckc_tac.specs.Operations.{outcome_of, value_in, values_in, compared}
use Rattle.ckc_tac.specs.Sizes.{op_size, end_size}
use Rattle.ckc_tac.specs.WellFormed.{IsOpOver, IsEndOver}
use Rattle.ckc_flow.specs.Live.{read_at_end, read_in_block, reads, target_of}
use Rattle.ckc_passes.specs.code.Faithful.{Acts, StandsFor, Vanishes, IsIdle, EndsBeside, IsFaithful, IsThrifty}
use Rattle.ckc_passes.specs.code.Forward.{GivesTarget}
use Rattle.ckc_passes.proofs.Forwarded.{gives_target, if_all}
use Rattle.ckc_passes.proofs.Once.{IsDetermined}
use Rattle.ckc_passes_dead.specs.Dead.{plain_target, IsWanted, IsDead, dead_pass}
use Rattle.ckc_passes_dead.proofs.Outcomes.{outcome_same, values_same, compared_same, returned_same}
use Rattle.ckc_passes_dead.proofs.Wanted.{same_some, plain_is_target, apart_from_target, wanted_is_live}

-- the registers that are wanted at a place are equal
abbrev pub Alike : (blocks : List TacBlock) (done ops : List TacOp) (end : TacEnd) → Values → Values → Type 0
Alike blocks done ops end x y = (r : ℕ) → IsWanted blocks end ops r → x r ≡ y r

-- ---- what is written

written_same : (values : Values) (t v q : ℕ) → q ≡ t → with_written values t v q ≡ Some v
unfolding with_written
written_same values t v q e = grind (arith, nat_tests)

written_other : (values : Values) (t v q : ℕ) → q ≢ t → with_written values t v q ≡ values q
unfolding with_written
written_other values t v q e = grind (arith, nat_tests)

-- both write the same value
both_written : (x y : Values) (t v r : ℕ) → (t ≢ r → x r ≡ y r) → with_written x t v r ≡ with_written y t v r
both_written x y t v r h = ⊎_elim
    (λ (same : r ≡ t). written_same x t v r same ∙ sym (written_same y t v r same))
    (λ (apart : r ≡ t → ⊥). written_other x t v r apart ∙ h (λ e. apart (sym e)) ∙ sym (written_other y t v r apart))
    (cases_eq r t)

module _ (blocks : List TacBlock) (done ops : List TacOp) (end : TacEnd) (op : TacOp) (x y : Values) (alike : Alike blocks done (op ∷ ops) end x y) where
  abbrev After : Values → Values → Type 0
  After = Alike blocks (op ∷ done) ops end

  -- ---- an operation that is kept

  module _ (alive : IsDead blocks end ops op → ⊥) where
    reads_same : (r : ℕ) → reads r op ≡ true → x r ≡ y r
    reads_same r read = alike r (inr (alive, inl read))

    -- what is wanted afterwards and not written is wanted before
    others_same : (r : ℕ) → IsWanted blocks end ops r → target_of op ≢ Some r → x r ≡ y r
    others_same r wanted apart = alike r (inr (alive, inr (apart, wanted)))

    after_written : (t v : ℕ) → target_of op ≡ Some t → After (with_written x t v) (with_written y t v)
    after_written t v to r wanted = both_written x y t v r (λ apart. others_same r wanted (λ e. apart (same_some t r (sym to ∙ e))))

    after_none : target_of op ≡ None → After x y
    after_none to r wanted = others_same r wanted (λ e. none-some r (sym to ∙ e))

    acts : (out low : Outcome) → low ≡ out → GivesTarget x op out → Acts After x y out low
    acts (Gives events t value world) low e to = (e, after_written t value to.0)
    acts (Done events world) low e to = (e, after_none to)
    acts (Stops check at) low e to = e
    acts Lost low e to = tt

    after_result : (target : Option ℕ) (v : ℕ) → target_of op ≡ target → After (with_result x target v) (with_result y target v)
    after_result (Some t) v to = after_written t v to
    after_result None v to = after_none to

    acts_in : (world : World) → Acts After x y (outcome_of x world op) (outcome_of y world op)
    acts_in world = acts (outcome_of x world op) (outcome_of y world op) (outcome_same x y world op reads_same) (gives_target x world op)

  -- ---- an operation that is dropped

  module _ (dead : IsDead blocks end ops op) where
    after_dropped : (t v : ℕ) → plain_target op ≡ Some t → After (with_written x t v) y
    after_dropped t v plain r wanted =
        let apart : r ≢ t = λ e. apart_from_target (IsWanted blocks end ops) op r dead wanted (plain_is_target op t plain ∙ ap Some (sym e)) in
        written_other x t v r apart ∙ alike r (inl (dead, wanted))

    vanishes : (world : World) (t : ℕ) (o : Option ℕ) (f : ℕ → ℕ) → plain_target op ≡ Some t → Vanishes After x y world (with_value o (λ v. Gives [] t (f v) world))
    vanishes world t (Some v) f plain = (refl, refl, after_dropped t (f v) plain)
    vanishes world t None f plain = tt

    vanishes_two : (world : World) (t : ℕ) (o p : Option ℕ) (f : ℕ → ℕ → ℕ) → plain_target op ≡ Some t
        → Vanishes After x y world (with_value o (λ v. with_value p (λ w. Gives [] t (f v w) world)))
    vanishes_two world t (Some v) p f plain = vanishes world t p (f v) plain
    vanishes_two world t None p f plain = tt

-- ---- every operation

same_given : {X : Type 0} (o q : Option X) → q ≡ o → IfSome o (λ v. q ≡ Some v)
same_given (Some v) q e = e
same_given None q e = tt

stands : (blocks : List TacBlock) (done ops : List TacOp) (end : TacEnd) (x y : Values) (op : TacOp)
    → (IsDead blocks end ops op → ⊥) → Alike blocks done (op ∷ ops) end x y → StandsFor (Alike blocks (op ∷ done) ops end) x y op op
stands blocks done ops end x y (Call target callee arguments at) alive alike =
    let call = Call target callee arguments at in
    record {
      others = arguments;
      is = refl;
      long = refl;
      values = same_given (values_in x arguments) (values_in y arguments) (values_same x y arguments (reads_same blocks done ops end call x y alike alive));
      after = if_all (values_in x arguments) (λ vs. (value : ℕ) → Alike blocks (call ∷ done) ops end (with_result x target value) (with_result y target value))
          (λ vs value. after_result blocks done ops end call x y alike alive target value refl);
    }
stands blocks done ops end x y op alive alike = acts_in blocks done ops end op x y alike alive

idle : (blocks : List TacBlock) (done ops : List TacOp) (end : TacEnd) (x y : Values) (op : TacOp)
    → IsDead blocks end ops op → Alike blocks done (op ∷ ops) end x y → IsIdle (Alike blocks (op ∷ done) ops end) x y op
idle blocks done ops end x y (Const t n) dead alike = λ world. (refl, refl, after_dropped blocks done ops end (Const t n) x y alike dead t n refl)
idle blocks done ops end x y (Copy t a) dead alike = λ world. vanishes blocks done ops end (Copy t a) x y alike dead world t (x a) (λ v. v) refl
idle blocks done ops end x y (Bin op t a b) dead alike = λ world.
    vanishes_two blocks done ops end (Bin op t a b) x y alike dead world t (value_in x a) (value_in x b) (applied op) refl
idle blocks done ops end x y (High is_signed t a b) dead alike = λ world.
    vanishes_two blocks done ops end (High is_signed t a b) x y alike dead world t (value_in x a) (value_in x b) (high_product is_signed) refl
idle blocks done ops end x y op dead alike = absurd (none-some dead.0 dead.1)

-- ---- ends of blocks

ends_beside : (blocks : List TacBlock) (done : List TacOp) (end : TacEnd) (x y : Values) → Alike blocks done [] end x y → EndsBeside x y end end
ends_beside blocks done (Jump to) x y alike = refl
ends_beside blocks done (Branch comparison a b one two) x y alike = (
  a,
  b,
  refl,
  same_given (compared comparison (value_in x a) (value_in x b)) (compared comparison (value_in y a) (value_in y b))
      (compared_same x y a b (λ r read. alike r (read_at_end read)) comparison),
)
ends_beside blocks done (Return a) x y alike =
    (a, refl, same_given (value_in x a) (value_in y a) (returned_same x y a (λ r read. alike r (read_at_end read))))

-- ---- the pass

pub faithful : IsFaithful dead_pass Alike
faithful = record {
  enters = λ blocks block x there r wanted. refl;
  begins = λ blocks done end low_end b block x y e alike leads there r wanted.
      alike r (read_in_block b block leads there (wanted_is_live blocks block.end block.ops r wanted));
  keeps = λ blocks done ops end op low x y k alike.
      subst (λ o. StandsFor (Alike blocks (op ∷ done) ops end) x y op o) (sym k.0) (stands blocks done ops end x y op k.1 alike);
  drops = λ blocks done ops end op x y dead alike. idle blocks done ops end x y op dead alike;
  ends = λ blocks done end low_end x y e alike. subst (EndsBeside x y end) (sym e) (ends_beside blocks done end x y alike);
}

pub determined : IsDetermined dead_pass
determined = record {
  one_op = λ blocks done ops end op low other k l. k.0 ∙ sym l.0;
  one_end = λ blocks done end low other e f. e ∙ sym f;
  apart = λ blocks done ops end op low k dead. k.1 dead;
}

pub thrifty : IsThrifty dead_pass
thrifty = record {
  over = λ blocks done ops end op low k functions regs before h. subst (IsOpOver functions regs) (sym k.0) h;
  op_fits = λ blocks done ops end op low k. let e = ap op_size k.0 in omega (arith, e);
  end_over = λ blocks done end low_end e functions count regs before h. subst (IsEndOver count regs) (sym e) h;
  end_fits = λ blocks done end low_end e. let f = ap end_size e in omega (arith, f);
}
