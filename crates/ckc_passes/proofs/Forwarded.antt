-- What goes forward through a block makes a pass faithful.
use Rattle.std.proofs.Common.{◌≡◌, inl, inr, ℕ, ◌==◌, if◌then◌else◌, Bool, true, false, List, [], ◌∷◌, Option, None, Some, refl, sym, ap, subst, ◌∙◌}
use Rattle.std.specs.Prelude.{IfSome}
use Rattle.ckc_base.specs.LongEvents.{LongEvent}
use Rattle.ckc_base.specs.Actions.{World, Outcome, Gives, Done, Stops, Lost, with_value, stores_in, gets_from, allocates_in, allocates_at}
use Rattle.ckc_base.specs.Memory.{Memory, data_start, heap_has_room, next_place, memory_with, value_at}
use Rattle.ckc_base.specs.declared.arithmetic.Width.TheVariants.{Word}
use Rattle.ckc_base.specs.Words.{applied}
use Rattle.ckc_base.specs.Products.{high_product}
use Rattle.ckc_base.specs.Activations.{Values, with_result}
use Rattle.ckc_tac.specs.declared.code.TacBlock.{TacBlock}
use Rattle.ckc_tac.specs.declared.code.TacOp.{TacOp}
use Rattle.ckc_tac.specs.declared.code.TacOp.TheVariants.{Const, Copy, Bin, High, Load, Store, Check, Call, Get, Put, Alloc}
use Rattle.ckc_tac.specs.declared.code.TacEnd.{TacEnd}
use Rattle.ckc_tac.specs.declared.code.TacEnd.TheVariants.{Jump, Branch, Return}
use Rattle.ckc_tac.specs.Operations.{outcome_of, value_in, values_in, compared, at_offset}
use Rattle.ckc_flow.specs.Live.{target_of}
use Rattle.ckc_passes.specs.Values.{computed}
use Rattle.ckc_passes.specs.Rewrites.{Rewrite, pass_by}
use Rattle.ckc_passes.specs.code.Faithful.{Acts, StandsFor, EndsBeside, IsFaithful}
use Rattle.ckc_passes.specs.code.Forward.{IsGiven, GivesTarget, IsForward, SameAnd, SameOutcome, DoesSame}

-- ---- what an outcome gives

by_value : (P : Outcome → Type 0) → P Lost → (o : Option ℕ) (f : ℕ → Outcome) → ((v : ℕ) → o ≡ Some v → P (f v)) → P (with_value o f)
by_value P lost (Some v) f h = h v refl
by_value P lost None f h = lost

by_if : (P : Outcome → Type 0) (b : Bool) (out other : Outcome) → P out → P other → P (if b then out else other)
by_if P true out other h k = h
by_if P false out other h k = k

pub computed_of : (f : ℕ → ℕ → ℕ) (o p : Option ℕ) (v w : ℕ) → o ≡ Some v → p ≡ Some w → computed f o p ≡ Some (f v w)
computed_of f o p v w e g = ap (λ q. computed f q p) e ∙ ap (computed f (Some v)) g

module _ (x : Values) where
  gives_store : (op : TacOp) (world : World) (event : LongEvent) (memory : Option Memory) → target_of op ≡ None → GivesTarget x op (stores_in world event memory)
  gives_store op world event (Some memory) e = e
  gives_store op world event None e = tt

  gives_get : (memory : Memory) (t : ℕ) (input : List ℕ) → GivesTarget x (Get t) (gets_from memory t input)
  gives_get memory t [] = (refl, tt)
  gives_get memory t (byte ∷ rest) = (refl, tt)

  gives_allocated : (op : TacOp) (t : ℕ) (world : World) (place next : ℕ) (memory : Option Memory) → target_of op ≡ Some t → ((v : ℕ) → IsGiven x op v)
      → GivesTarget x op (allocates_in world t place next memory)
  gives_allocated op t world place next (Some memory) e h = (e, h place)
  gives_allocated op t world place next None e h = tt

  gives_room : (op : TacOp) (t : ℕ) (world : World) (count size place : ℕ) → target_of op ≡ Some t → ((v : ℕ) → IsGiven x op v)
      → GivesTarget x op (allocates_at world t count size place)
  gives_room op t world count size place e h =
      let next = next_place place count size in
      by_if (GivesTarget x op) (heap_has_room place count size) (allocates_in world t place next (memory_with Word world.memory data_start next)) (Gives [] t 0 world)
      (gives_allocated op t world place next (memory_with Word world.memory data_start next) e h) (e, h 0)

  -- an outcome gives its value to the target
  pub gives_target : (world : World) (op : TacOp) → GivesTarget x op (outcome_of x world op)
  gives_target world (Const t n) = (refl, refl)
  gives_target world (Copy t a) = by_value (GivesTarget x (Copy t a)) tt (x a) _ (λ v e. (refl, e))
  gives_target world (Bin op t a b) =
      by_value (GivesTarget x (Bin op t a b)) tt (value_in x a) _ (λ v e.
      by_value (GivesTarget x (Bin op t a b)) tt (value_in x b) _ (λ w g.
      (refl, computed_of (applied op) (value_in x a) (value_in x b) v w e g)))
  gives_target world (High is_signed t a b) =
      by_value (GivesTarget x (High is_signed t a b)) tt (value_in x a) _ (λ v e.
      by_value (GivesTarget x (High is_signed t a b)) tt (value_in x b) _ (λ w g.
      (refl, computed_of (high_product is_signed) (value_in x a) (value_in x b) v w e g)))
  gives_target world (Load width t a n) =
      by_value (GivesTarget x (Load width t a n)) tt (value_in x a) _ (λ p e.
      by_value (GivesTarget x (Load width t a n)) tt (value_at width world.memory (at_offset p n)) _ (λ v g. (refl, tt)))
  gives_target world (Store width a n b) =
      by_value (GivesTarget x (Store width a n b)) tt (value_in x a) _ (λ p e.
      by_value (GivesTarget x (Store width a n b)) tt (value_in x b) _ (λ v g.
      gives_store (Store width a n b) world _ (memory_with width world.memory (at_offset p n) v) refl))
  gives_target world (Check check at comparison a b) =
      by_value (GivesTarget x (Check check at comparison a b)) tt (compared comparison (value_in x a) (value_in x b)) _ (λ v e.
      by_if (GivesTarget x (Check check at comparison a b)) (v == 0) (Stops check at) (Done [] world) tt refl)
  gives_target world (Call target callee arguments at) = tt
  gives_target world (Get t) = gives_get world.memory t world.input
  gives_target world (Put a) = by_value (GivesTarget x (Put a)) tt (value_in x a) _ (λ v e. refl)
  gives_target world (Alloc t a size) =
      by_value (GivesTarget x (Alloc t a size)) tt (value_in x a) _ (λ n e.
      by_value (GivesTarget x (Alloc t a size)) tt (value_at Word world.memory data_start) _ (λ place g.
      gives_room (Alloc t a size) t world n size place refl (λ v. tt)))

-- ---- an operation does what it does itself

pub some_same : {X : Type 0} (o : Option X) → IfSome o (λ v. o ≡ Some v)
some_same (Some v) = refl
some_same None = tt

pub if_all : {X : Type 0} (o : Option X) (P : X → Type 0) → ((v : X) → P v) → IfSome o P
if_all (Some v) P h = h v
if_all None P h = tt

pub same_itself : (x : Values) (op : TacOp) → DoesSame x op op
same_itself x (Call target callee arguments at) = record {
  others = arguments;
  is = refl;
  long = refl;
  values = some_same (values_in x arguments);
}
same_itself x op = λ world. inr refl

pub ends_itself : (x : Values) (end : TacEnd) → EndsBeside x x end end
ends_itself x (Jump to) = refl
ends_itself x (Branch comparison a b one two) = (a, b, refl, some_same (compared comparison (value_in x a) (value_in x b)))
ends_itself x (Return a) = (a, refl, some_same (value_in x a))

-- ---- what holds goes on

module _ (Holds : List TacOp → Values → Type 0) (forward : IsForward Holds) (blocks : List TacBlock) (done ops : List TacOp) (end : TacEnd) (x : Values) (holds : Holds done x) where
  abbrev After : TacOp → Values → Values → Type 0
  After op = SameAnd Holds blocks (op ∷ done) ops end

  acts_same : (op : TacOp) (out low_out : Outcome) → GivesTarget x op out → SameOutcome out low_out → Acts (After op) x x out low_out
  acts_same op out low_out g (inl e) = subst (λ (o : Outcome). Acts (After op) x x o low_out) (sym e) tt
  acts_same op (Gives events t v world) low_out g (inr e) = (e, (refl, forward.writes done op x t v g.0 g.1 holds))
  acts_same op (Done events world) low_out g (inr e) = (e, (refl, forward.skips done op x g holds))
  acts_same op (Stops check at) low_out g (inr e) = e
  acts_same op Lost low_out g (inr e) = tt

  stands_here : (op low : TacOp) → DoesSame x op low → StandsFor (After op) x x op low
  stands_here (Call (Some t) callee arguments at) low d = record {
    others = d.others;
    is = d.is;
    long = d.long;
    values = d.values;
    after = if_all (values_in x arguments) (λ vs. (v : ℕ) → After (Call (Some t) callee arguments at) (with_result x (Some t) v) (with_result x (Some t) v))
        (λ vs v. (refl, forward.writes done (Call (Some t) callee arguments at) x t v refl tt holds));
  }
  stands_here (Call None callee arguments at) low d = record {
    others = d.others;
    is = d.is;
    long = d.long;
    values = d.values;
    after = if_all (values_in x arguments) (λ vs. (v : ℕ) → After (Call None callee arguments at) (with_result x None v) (with_result x None v))
        (λ vs v. (refl, forward.skips done (Call None callee arguments at) x refl holds));
  }
  stands_here op low d = λ world. acts_same op (outcome_of x world op) (outcome_of x world low) (gives_target x world op) (d world)

  pub stands : (op low : TacOp) (y : Values) → y ≡ x → DoesSame x op low → StandsFor (After op) x y op low
  stands op low y e d = subst (λ (z : Values). StandsFor (After op) x z op low) (sym e) (stands_here op low d)

-- A pass that puts for each operation and end one that does the same, by what holds, is faithful.
pub faithful_by : (w : Rewrite) (Holds : List TacOp → Values → Type 0) → IsForward Holds
    → ((done : List TacOp) (op : TacOp) (x : Values) → Holds done x → DoesSame x op (w.op done op))
    → ((done : List TacOp) (end : TacEnd) (x : Values) → Holds done x → EndsBeside x x end (w.end done end))
    → IsFaithful (pass_by w) (SameAnd Holds)
faithful_by w Holds forward same same_end = record {
  enters = λ blocks block x e. (refl, forward.begins x);
  begins = λ blocks done end low_end b block x y given alike leads e. (alike.0, forward.begins x);
  keeps = λ blocks done ops end op low x y given alike.
      stands Holds forward blocks done ops end x alike.1 op low y alike.0 (subst (λ (l : TacOp). DoesSame x op l) (sym given) (same done op x alike.1));
  drops = λ blocks done ops end op x y given alike. absurd given;
  ends = λ blocks done end low_end x y given alike.
      subst (λ (l : TacEnd). EndsBeside x y end l) (sym given) (subst (λ (z : Values). EndsBeside x z end (w.end done end)) (sym alike.0) (same_end done end x alike.1));
}
