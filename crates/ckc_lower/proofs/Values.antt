-- Running the operations of an expression gives its value, in the register that is told.
use Rattle.std.proofs.Common.{◌≡◌, ◌≢◌, ℕ, ◌+◌, ◌≤◌, ◌<◌, ◌==◌, List, [], ◌∷◌, ◌++◌, append_assoc, refl, sym, ◌∙◌, ap, subst, arith}
use Rattle.std.proofs.lemmas.Bool.Decides.{nat_tests}
use Rattle.std.proofs.lemmas.Nat.{and_comm, or_comm, xor_comm}
use Rattle.std.proofs.Math.Nat.{mul_comm}
use Rattle.std.specs.Prelude.{Option, Some, None, Bool, true, false, not, ◌&&◌, ◌%◌, ◌^◌, if◌then◌else◌, option_and_then}
use Rattle.std.specs.Option.{option_map}
use Rattle.ckc_base.specs.declared.arithmetic.Width.{Width}
use Rattle.ckc_base.specs.declared.arithmetic.BinOp.{BinOp}
use Rattle.ckc_base.specs.declared.arithmetic.BinOp.TheVariants as binary
use Rattle.ckc_base.specs.Words.{applied}
use Rattle.ckc_base.specs.Products.{high_product}
use Rattle.ckc_base.specs.Steps.{Goes}
use Rattle.ckc_base.specs.Matching.{Stretch}
use Rattle.ckc_base.specs.Memory.{value_at}
use Rattle.ckc_base.specs.Actions.{World, Gives, with_value as by_value}
use Rattle.ckc_base.specs.Activations.{Values, with_written, with_result}
use Rattle.ckc_base.proofs.Runs.{one_step, no_step, then_stretch}
use Rattle.ckc_core.specs.Code.{Expr}
use Rattle.ckc_core.specs.Meaning.{value_of, both}
use Rattle.ckc_core.specs.Meaning as meaning
use Rattle.ckc_core.specs.WellFormed.{IsExprOver}
use Rattle.ckc_tac.specs.declared.code.TacFunc.{TacFunc}
use Rattle.ckc_tac.specs.declared.code.TacBlock.{TacBlock}
use Rattle.ckc_tac.specs.declared.code.Operand.{Operand}
use Rattle.ckc_tac.specs.declared.code.Operand.TheVariants.{Register}
use Rattle.ckc_tac.specs.declared.code.TacOp.{TacOp}
use Rattle.ckc_tac.specs.declared.code.TacOp.TheVariants as op
use Rattle.ckc_tac.specs.declared.code.TacEnd.{TacEnd}
use Rattle.ckc_tac.specs.Operations.{value_in, at_offset}
use Rattle.ckc_tac.specs.Meaning.{State, Caller, tac_step, tac_system, extra_of, goes_by}
use Rattle.ckc_lower.specs.code.Terms.{Term, Const, Local, Load, Bin, High, term_of}
use Rattle.ckc_lower.specs.code.Built.{term_free, free_from, target_of, term_operand, operand_of, is_even, is_number, bin_of}
use Rattle.ckc_lower.proofs.Terms.{nodes, term_nodes, IsTermOver, term_over, value_in_term, term_value}

-- the operations that compute a term
abbrev pub term_ops : Term → Option ℕ → ℕ → List TacOp
term_ops (Const n) (Some d) t = op.Const d n ∷ []
term_ops (Const n) None t = []
term_ops (Local x) (Some d) t = op.Copy d x ∷ []
term_ops (Local x) None t = []
term_ops (Load width a n) want t = term_ops a None t ++ op.Load width (target_of want t) (term_operand a None t) n ∷ []
term_ops (Bin o p q) want t =
    term_ops p None t ++ (term_ops q None (term_free p t)
    ++ bin_of o (target_of want t) (term_operand p None t) (term_operand q None (term_free p t)) ∷ [])
term_ops (High is_signed p q) want t =
    term_ops p None t ++ (term_ops q None (term_free p t)
    ++ op.High is_signed (target_of want t) (term_operand p None t) (term_operand q None (term_free p t)) ∷ [])

-- the operations that compute an expression
abbrev pub value_ops : Expr → Option ℕ → ℕ → List TacOp
value_ops e want t = term_ops (term_of e) want t

-- ---- numbers of registers

pub term_free_more : (x : Term) (t : ℕ) → t ≤ term_free x t
term_free_more (Const n) t = omega arith
term_free_more (Local x) t = omega arith
term_free_more (Load width a n) t = omega arith
term_free_more (Bin o p q) t = omega arith
term_free_more (High s p q) t = omega arith

pub free_more : (e : Expr) (t : ℕ) → t ≤ free_from e t
free_more e t = term_free_more (term_of e) t

-- a value stays if the registers below the temporaries that are free beside it stay
pub term_stays : (x : Term) (locals t : ℕ) (after later : Values) → locals ≤ t → IsTermOver locals x → ((y : ℕ) → y < term_free x t → later y ≡ after y)
    → value_in later (term_operand x None t) ≡ value_in after (term_operand x None t)
term_stays (Const n) locals t after later l h same = refl
term_stays (Local x) locals t after later l h same = same x (omega (arith, h))
term_stays (Load width a n) locals t after later l h same = same t (omega arith)
term_stays (Bin o p q) locals t after later l h same = same t (omega arith)
term_stays (High s p q) locals t after later l h same = same t (omega arith)

pub operand_stays : (e : Expr) (locals t : ℕ) (after later : Values) → locals ≤ t → IsExprOver locals e → ((x : ℕ) → x < free_from e t → later x ≡ after x)
    → value_in later (operand_of e None t) ≡ value_in after (operand_of e None t)
operand_stays e locals t after later l h same = term_stays (term_of e) locals t after later l (term_over locals e h) same

-- ---- operations

-- what holds of an operation with its operands in either order
bin_either : (P : TacOp → Type 0) (exchanged : Bool) (o : BinOp) (d : ℕ) (a b : Operand) → (exchanged ≡ true → P (op.Bin o d b a)) → P (op.Bin o d a b)
    → P (if exchanged then op.Bin o d b a else op.Bin o d a b)
bin_either P true o d a b h k = h refl
bin_either P false o d a b h k = k

pub bin_plain : (o : BinOp) (d : ℕ) (a b : Operand) → extra_of (bin_of o d a b) ≡ 0
bin_plain o d a b = bin_either (λ x. extra_of x ≡ 0) (is_even o && is_number a) o d a b (λ e. refl) refl

even_of : (b c : Bool) → (b && c) ≡ true → b ≡ true
even_of true c e = refl
even_of false c e = e

pub unlike : {X : Type 0} → false ≡ true → X
unlike e = absurd cc

eq_turned : (x y : ℕ) → (x == y) ≡ (y == x)
eq_turned x y = grind (arith, nat_tests)

pub even_turned : (o : BinOp) (x y : ℕ) → is_even o ≡ true → applied o y x ≡ applied o x y
even_turned binary.Add x y e = omega arith
even_turned binary.Mul x y e = ap (λ n. n % 2 ^ 32) (mul_comm y x)
even_turned binary.And x y e = and_comm y x
even_turned binary.Or x y e = or_comm y x
even_turned binary.Xor x y e = xor_comm y x
even_turned binary.Eq x y e = ap (λ b. if b then 1 else 0) (eq_turned y x)
even_turned binary.Ne x y e = ap (λ b. if not b then 1 else 0) (eq_turned y x)
even_turned binary.Sub x y e = unlike e
even_turned binary.DivS x y e = unlike e
even_turned binary.DivU x y e = unlike e
even_turned binary.RemS x y e = unlike e
even_turned binary.RemU x y e = unlike e
even_turned binary.Shl x y e = unlike e
even_turned binary.ShrS x y e = unlike e
even_turned binary.ShrU x y e = unlike e
even_turned binary.LtS x y e = unlike e
even_turned binary.LtU x y e = unlike e

-- ---- values that are written

test_same : (r : ℕ) → (r == r) ≡ Bool.true
test_same r = grind arith

test_other : (q r : ℕ) → q ≢ r → (q == r) ≡ Bool.false
test_other q r h = grind arith

pub written_same : (values : Values) (r v : ℕ) → with_written values r v r ≡ Some v
unfolding with_written
written_same values r v = ap (λ b. if b then Some v else values r) (test_same r)

pub written_other : (values : Values) (r v q : ℕ) → q ≢ r → with_written values r v q ≡ values q
unfolding with_written
written_other values r v q h = ap (λ b. if b then Some v else values q) (test_other q r h)

pub written_like : (values others : Values) (r v q : ℕ) → values q ≡ others q → with_written values r v q ≡ with_written others r v q
unfolding with_written
written_like values others r v q e = ap (λ x. if q == r then Some v else x) e

pub result_like : (values others : Values) (target : Option ℕ) (v q : ℕ) → values q ≡ others q → with_result values target v q ≡ with_result others target v q
result_like values others (Some r) v q e = written_like values others r v q e
result_like values others None v q e = e

-- a write of the wanted register, or of the temporary t, seen below t
target_written : (values : Values) (want : Option ℕ) (t v q : ℕ) → q < t → with_written values (target_of want t) v q ≡ with_result values want v q
target_written values (Some d) t v q h = refl
target_written values None t v q h = written_other values t v q (omega arith)

-- ---- values that are there

pub and_then_some : {X Y : Type 0} (f : X → Option Y) (o : Option X) (v : Y) → option_and_then f o ≡ Some v → (x : X) × (o ≡ Some x) × (f x ≡ Some v)
and_then_some f (Some x) v h = (x, refl, h)
and_then_some f None v h = cc

pub map_some : {X Y : Type 0} (f : X → Y) (o : Option X) (v : Y) → option_map f o ≡ Some v → (x : X) × (o ≡ Some x) × (f x ≡ v)
map_some f (Some x) v h = (x, refl, cc)
map_some f None v h = cc

pub some_same : {X : Type 0} (x y : X) → Some x ≡ Some y → x ≡ y
some_same x y h = cc

pub both_some : (f : ℕ → ℕ → ℕ) (o p : Option ℕ) (v : ℕ) → both f o p ≡ Some v → (x y : ℕ) × (o ≡ Some x) × (p ≡ Some y) × (f x y ≡ v)
both_some f o p v h =
    let first = and_then_some (λ a. option_map (f a) p) o v h in
    let second = map_some (f first.0) p v first.2 in
    (first.0, second.0, first.1, second.1, second.2)

-- ---- paths

abbrev pub least : Option ℕ → ℕ
least (Some d) = 1
least None = 0

least_one : (want : Option ℕ) (count : ℕ) → 1 ≤ count → least want ≤ count
least_one (Some d) count h = h
least_one None count h = omega arith

-- the values below a number are the same
abbrev pub Agree : ℕ → Values → Values → Type 0
Agree locals registers values = (x : ℕ) → x < locals → registers x ≡ values x

module _ (functions : List TacFunc) (blocks : List TacBlock) (end : TacEnd) (callers : List Caller) (world : World) where
  -- a call at these operations
  abbrev pub at : List TacOp → Values → State
  at ops registers =
      record { frame = record { blocks = blocks; ops = ops; end = end; registers = registers }; callers = callers; world = world }

  -- Operations lead, in at most so many steps, to the operations after them, with a value in an operand; of the
  -- registers below t only the wanted one is another.
  pub record Computes (ops : List TacOp) (o : Operand) (most : ℕ) (want : Option ℕ) (t v : ℕ) (more : List TacOp) (registers : Values) : Type 0 where
    pub count : ℕ
    pub after : Values
    pub some : least want ≤ count
    pub few : count ≤ most
    pub path : Stretch (tac_system functions) count [] (at (ops ++ more) registers) (at more after)
    pub value : value_in after o ≡ Some v
    pub same : (x : ℕ) → x < t → after x ≡ with_result registers want v x

  -- those of a term, in at most as many steps as it has nodes
  abbrev pub ComputesTerm : (x : Term) (want : Option ℕ) (t v : ℕ) (more : List TacOp) (registers : Values) → Type 0
  ComputesTerm x want t = Computes (term_ops x want t) (term_operand x want t) (nodes x) want t

  -- an operation that gives a value
  abbrev pub IsStep : TacOp → List TacOp → Values → ℕ → ℕ → Type 0
  IsStep o more registers d v = tac_step functions (at (o ∷ more) registers) ≡ Goes [] (at more (with_written registers d v))

  pub one_op : (o : TacOp) (more : List TacOp) (registers : Values) (d v : ℕ) → extra_of o ≡ 0 → IsStep o more registers d v
      → Stretch (tac_system functions) 1 [] (at (o ∷ more) registers) (at more (with_written registers d v))
  one_op o more registers d v plain e =
      let count : extra_of o + 1 ≡ 1 = omega arith in
      subst (λ n. Stretch (tac_system functions) n [] (at (o ∷ more) registers) (at more (with_written registers d v))) count
      (one_step (tac_system functions) [] (at (o ∷ more) registers) (at more (with_written registers d v)) e)

  pub const_step : (d n : ℕ) (more : List TacOp) (registers : Values) → IsStep (op.Const d n) more registers d n
  unfolding tac_step
  const_step d n more registers = refl

  copy_step : (d a v : ℕ) (more : List TacOp) (registers : Values) → registers a ≡ Some v → IsStep (op.Copy d a) more registers d v
  unfolding tac_step
  copy_step d a v more registers e =
      ap (λ r. goes_by (at (op.Copy d a ∷ more) registers) more (by_value r (λ x. Gives [] d x world))) e

  load_step : (width : Width) (d : ℕ) (a : Operand) (n p v : ℕ) (more : List TacOp) (registers : Values) → value_in registers a ≡ Some p → value_at width world.memory (at_offset p n) ≡ Some v
      → IsStep (op.Load width d a n) more registers d v
  unfolding tac_step
  load_step width d a n p v more registers e h =
      ap (λ r. goes_by (at (op.Load width d a n ∷ more) registers) more (by_value r (λ p. by_value (value_at width world.memory (at_offset p n)) (λ x. Gives [] d x world)))) e
      ∙ ap (λ r. goes_by (at (op.Load width d a n ∷ more) registers) more (by_value r (λ x. Gives [] d x world))) h

  plain_step : (o : BinOp) (d : ℕ) (a b : Operand) (x y : ℕ) (more : List TacOp) (registers : Values) → value_in registers a ≡ Some x → value_in registers b ≡ Some y
      → IsStep (op.Bin o d a b) more registers d (applied o x y)
  unfolding tac_step
  plain_step o d a b x y more registers e h =
      ap (λ r. goes_by (at (op.Bin o d a b ∷ more) registers) more (by_value r (λ x. by_value (value_in registers b) (λ y. Gives [] d (applied o x y) world)))) e
      ∙ ap (λ r. goes_by (at (op.Bin o d a b ∷ more) registers) more (by_value r (λ y. Gives [] d (applied o x y) world))) h

  bin_step : (o : BinOp) (d : ℕ) (a b : Operand) (x y : ℕ) (more : List TacOp) (registers : Values) → value_in registers a ≡ Some x → value_in registers b ≡ Some y
      → IsStep (bin_of o d a b) more registers d (applied o x y)
  bin_step o d a b x y more registers e h =
      bin_either (λ i. IsStep i more registers d (applied o x y)) (is_even o && is_number a) o d a b
      (λ exchanged. subst (λ v. IsStep (op.Bin o d b a) more registers d v) (even_turned o x y (even_of (is_even o) (is_number a) exchanged)) (plain_step o d b a y x more registers h e))
      (plain_step o d a b x y more registers e h)

  high_step : (s : Bool) (d : ℕ) (a b : Operand) (x y : ℕ) (more : List TacOp) (registers : Values) → value_in registers a ≡ Some x → value_in registers b ≡ Some y → IsStep (op.High s d a b) more registers d (high_product s x y)
  unfolding tac_step
  high_step s d a b x y more registers e h =
      ap (λ r. goes_by (at (op.High s d a b ∷ more) registers) more (by_value r (λ x. by_value (value_in registers b) (λ y. Gives [] d (high_product s x y) world)))) e
      ∙ ap (λ r. goes_by (at (op.High s d a b ∷ more) registers) more (by_value r (λ y. Gives [] d (high_product s x y) world))) h

  module _ (locals : ℕ) (values : Values) where
    abbrev Claim : Term → Type 0
    Claim x = (want : Option ℕ) (t v : ℕ) (more : List TacOp) (registers : Values) → locals ≤ t → IsTermOver locals x
        → Agree locals registers values → value_in_term values world.memory x ≡ Some v → ComputesTerm x want t v more registers

    agree_after : (t v : ℕ) (registers after : Values) → locals ≤ t → Agree locals registers values
        → ((x : ℕ) → x < t → after x ≡ with_result registers None v x) → Agree locals after values
    agree_after t v registers after l agree same = λ x h. same x (omega arith) ∙ agree x h

    -- an operation on two values
    two : (e p q : Term) (make : ℕ → Operand → Operand → TacOp) (f : ℕ → ℕ → ℕ) → Claim p → Claim q
        → ((d : ℕ) (a b : Operand) → extra_of (make d a b) ≡ 0)
        → ((d : ℕ) (a b : Operand) (x y : ℕ) (more : List TacOp) (registers : Values) → value_in registers a ≡ Some x → value_in registers b ≡ Some y → IsStep (make d a b) more registers d (f x y))
        → nodes e ≡ 1 + nodes p + nodes q
        → (want : Option ℕ) (t v : ℕ) (more : List TacOp) (registers : Values)
        → term_operand e want t ≡ Register (target_of want t)
        → term_ops e want t ≡ term_ops p None t ++ (term_ops q None (term_free p t) ++ make (target_of want t) (term_operand p None t) (term_operand q None (term_free p t)) ∷ [])
        → locals ≤ t → IsTermOver locals p → IsTermOver locals q → Agree locals registers values
        → both f (value_in_term values world.memory p) (value_in_term values world.memory q) ≡ Some v → ComputesTerm e want t v more registers
    two e p q make f claim_p claim_q plain step size want t v more registers reg ops l over_p over_q agree h =
        let found = both_some f (value_in_term values world.memory p) (value_in_term values world.memory q) v h in
        let u = term_free p t in
        let d = target_of want t in
        let a = term_operand p None t in
        let b = term_operand q None u in
        let last = make d a b in
        let first = claim_p None t found.0 (term_ops q None u ++ (last ∷ more)) registers l over_p agree found.2 in
        let agree_first = agree_after t found.0 registers first.after l agree first.same in
        let less : locals ≤ u = omega (arith, term_free_more p t) in
        let second = claim_q None u found.1 (last ∷ more) first.after less over_q agree_first found.3 in
        let left : value_in second.after a ≡ Some found.0 = term_stays p locals t first.after second.after l over_p second.same ∙ first.value in
        let done : IsStep last more second.after d (f found.0 found.1) = step d a b found.0 found.1 more second.after left second.value in
        let result = with_written second.after d (f found.0 found.1) in
        let regroup : term_ops e want t ++ more ≡ term_ops p None t ++ (term_ops q None u ++ (last ∷ more)) =
        ap (λ x. x ++ more) ops ∙ append_assoc (term_ops p None t) (term_ops q None u ++ last ∷ []) more
        ∙ ap (λ x. term_ops p None t ++ x) (append_assoc (term_ops q None u) (last ∷ []) more) in
        let path = then_stretch (tac_system functions) first.count (second.count + 1) [] [] (at (term_ops p None t ++ (term_ops q None u ++ (last ∷ more))) registers) (at (term_ops q None u ++ (last ∷ more)) first.after) (at more result)
        first.path
        (then_stretch (tac_system functions) second.count 1 [] [] (at (term_ops q None u ++ (last ∷ more)) first.after) (at (last ∷ more) second.after) (at more result)
        second.path (one_op last more second.after d (f found.0 found.1) (plain d a b) done)) in
        record {
          count = first.count + (second.count + 1);
          after = result;
          some = least_one want (first.count + (second.count + 1)) (omega arith);
          few = omega (arith, first.few, second.few, size);
          path = subst (λ x. Stretch (tac_system functions) (first.count + (second.count + 1)) [] (at x registers) (at more result)) (sym regroup) path;
          value = subst (λ r. value_in result r ≡ Some v) (sym reg) (written_same second.after d (f found.0 found.1) ∙ ap Some found.4);
          same = λ x below.
              let two_same : second.after x ≡ registers x = second.same x (omega (arith, term_free_more p t)) ∙ first.same x below in
              target_written second.after want t (f found.0 found.1) x below
              ∙ result_like second.after registers want (f found.0 found.1) x two_same
              ∙ ap (λ w. with_result registers want w x) found.4;
        }

    pub computes_term : (x : Term) → Claim x
    computes_term (Const n) (Some d) t v more registers l over agree h =
        let same : n ≡ v = some_same n v h in
        record {
          count = 1;
          after = with_written registers d n;
          some = omega arith;
          few = omega arith;
          path = one_op (op.Const d n) more registers d n refl (const_step d n more registers);
          value = written_same registers d n ∙ ap Some same;
          same = λ x below. ap (λ w. with_written registers d w x) same;
        }
    computes_term (Const n) None t v more registers l over agree h = record {
      count = 0;
      after = registers;
      some = omega arith;
      few = omega arith;
      path = no_step (tac_system functions) (at more registers);
      value = h;
      same = λ x below. refl;
    }
    computes_term (Local y) (Some d) t v more registers l over agree h =
        let there : registers y ≡ Some v = agree y over ∙ h in
        record {
          count = 1;
          after = with_written registers d v;
          some = omega arith;
          few = omega arith;
          path = one_op (op.Copy d y) more registers d v refl (copy_step d y v more registers there);
          value = written_same registers d v;
          same = λ x below. refl;
        }
    computes_term (Local y) None t v more registers l over agree h = record {
      count = 0;
      after = registers;
      some = omega arith;
      few = omega arith;
      path = no_step (tac_system functions) (at more registers);
      value = agree y over ∙ h;
      same = λ x below. refl;
    }
    computes_term (Load width a n) want t v more registers l over agree h =
        let found = and_then_some (λ p. value_at width world.memory (at_offset p n)) (value_in_term values world.memory a) v h in
        let d = target_of want t in
        let r = term_operand a None t in
        let last = op.Load width d r n in
        let first = computes_term a None t found.0 (last ∷ more) registers l over.0 agree found.1 in
        let done : IsStep last more first.after d v = load_step width d r n found.0 v more first.after first.value found.2 in
        let result = with_written first.after d v in
        let path = then_stretch (tac_system functions) first.count 1 [] [] (at (term_ops a None t ++ (last ∷ more)) registers) (at (last ∷ more) first.after) (at more result)
        first.path (one_op last more first.after d v refl done) in
        record {
          count = first.count + 1;
          after = result;
          some = least_one want (first.count + 1) (omega arith);
          few = omega (arith, first.few);
          path = subst (λ x. Stretch (tac_system functions) (first.count + 1) [] (at x registers) (at more result)) (sym (append_assoc (term_ops a None t) (last ∷ []) more)) path;
          value = written_same first.after d v;
          same = λ x below. target_written first.after want t v x below ∙ result_like first.after registers want v x (first.same x below);
        }
    computes_term (Bin o p q) want t v more registers l over agree h =
        two (Bin o p q) p q (bin_of o) (applied o) (computes_term p) (computes_term q) (bin_plain o) (bin_step o) refl
        want t v more registers refl refl l over.0 over.1 agree h
    computes_term (High s p q) want t v more registers l over agree h =
        two (High s p q) p q (op.High s) (high_product s) (computes_term p) (computes_term q) (λ d a b. refl) (high_step s) refl
        want t v more registers refl refl l over.0 over.1 agree h

    -- those of an expression
    pub computes : (e : Expr) (want : Option ℕ) (t v : ℕ) (more : List TacOp) (registers : Values) → locals ≤ t → IsExprOver locals e
        → Agree locals registers values → value_of values world.memory e ≡ Some v → Computes (value_ops e want t) (operand_of e want t) (meaning.nodes e) want t v more registers
    computes e want t v more registers l over agree h =
        let c = computes_term (term_of e) want t v more registers l (term_over locals e over) agree (term_value values world.memory e ∙ h) in
        record {
          count = c.count;
          after = c.after;
          some = c.some;
          few = omega (arith, c.few, term_nodes e);
          path = c.path;
          value = c.value;
          same = c.same;
        }
