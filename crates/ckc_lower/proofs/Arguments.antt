-- Running the operations of the arguments of a call gives their values.
use Rattle.std.proofs.Common.{length, ◌≡◌, ℕ, ◌+◌, ◌≤◌, ◌<◌, List, [], ◌∷◌, ◌++◌, append_assoc, refl, sym, ◌∙◌, ap, subst, arith}
use Rattle.std.specs.Prelude.{Option, Some, None, option_and_then, All}
use Rattle.std.specs.Option.{option_map}
use Rattle.std.proofs.lemmas.List.Elements.{All-head, All-tail}
use Rattle.ckc_base.specs.Matching.{Stretch}
use Rattle.ckc_base.specs.Actions.{World}
use Rattle.ckc_base.specs.Activations.{Values, with_written}
use Rattle.ckc_base.proofs.Runs.{no_step, then_stretch}
use Rattle.ckc_core.specs.Code.{Expr, Const, Local, Load, Bin, High}
use Rattle.ckc_core.specs.Meaning.{value_of, values_of, nodes, all_nodes}
use Rattle.ckc_core.specs.WellFormed.{IsExprOver}
use Rattle.ckc_tac.specs.declared.code.TacFunc.{TacFunc}
use Rattle.ckc_tac.specs.declared.code.TacBlock.{TacBlock}
use Rattle.ckc_tac.specs.declared.code.TacOp.{TacOp}
use Rattle.ckc_tac.specs.declared.code.TacOp.TheVariants as op
use Rattle.ckc_tac.specs.declared.code.TacEnd.{TacEnd}
use Rattle.ckc_tac.specs.Operations.{values_in}
use Rattle.ckc_tac.specs.Meaning.{Caller, tac_system}
use Rattle.ckc_lower.specs.code.Built.{free_past, register_of, registers_of}
use Rattle.ckc_lower.proofs.Values.{value_ops, written_same, written_other, and_then_some, map_some, some_same, Agree, at, one_op, const_step, computes}

-- as many registers as expressions
pub length-registers_of : (es : List Expr) (t : ℕ) → length (registers_of es t) ≡ length es
length-registers_of [] t = refl
length-registers_of (e ∷ es) t = let h : length (registers_of es (free_past e t)) ≡ length es = length-registers_of es (free_past e t) in omega arith

-- the operations that compute an argument
abbrev pub register_ops : Expr → ℕ → List TacOp
register_ops (Const n) t = op.Const t n ∷ []
register_ops e t = value_ops e None t

past_more : (e : Expr) (t : ℕ) → t ≤ free_past e t
past_more (Const n) t = omega arith
past_more (Local x) t = omega arith
past_more (Load width a) t = omega arith
past_more (Bin o p q) t = omega arith
past_more (High s p q) t = omega arith

-- the register of an argument lies below the temporaries that are free beside it
register_below : (e : Expr) (locals t : ℕ) → locals ≤ t → IsExprOver locals e → register_of e t < free_past e t
register_below (Const n) locals t l h = omega arith
register_below (Local x) locals t l h = omega (arith, h)
register_below (Load width a) locals t l h = omega arith
register_below (Bin o p q) locals t l h = omega arith
register_below (High s p q) locals t l h = omega arith

-- the operations that compute several expressions
abbrev pub values_ops : List Expr → ℕ → List TacOp
values_ops [] t = []
values_ops (e ∷ es) t = register_ops e t ++ values_ops es (free_past e t)

read_both : (registers : Values) (r v : ℕ) (rs vs : List ℕ) → registers r ≡ Some v → values_in registers rs ≡ Some vs → values_in registers (r ∷ rs) ≡ Some (v ∷ vs)
read_both registers r v rs vs e h =
    ap (option_and_then (λ v. option_map (λ vs. v ∷ vs) (values_in registers rs))) e ∙ ap (option_map (λ vs. v ∷ vs)) h

-- what a register holds after more operations that leave it
still : (after before : Values) (r : ℕ) (value : Option ℕ) → after r ≡ before r → before r ≡ value → after r ≡ value
still after before r value e h = e ∙ h

module _ (functions : List TacFunc) (blocks : List TacBlock) (end : TacEnd) (callers : List Caller) (world : World) where
  -- The operations of the expressions lead to those after them, with the values in their registers; what lies below t
  -- stays.
  pub record ComputesAll (es : List Expr) (t : ℕ) (vs : List ℕ) (more : List TacOp) (registers : Values) : Type 0 where
    pub count : ℕ
    pub after : Values
    pub few : count ≤ all_nodes es
    pub path : Stretch (tac_system functions) count [] (at functions blocks end callers world (values_ops es t ++ more) registers) (at functions blocks end callers world more after)
    pub values : values_in after (registers_of es t) ≡ Some vs
    pub same : (x : ℕ) → x < t → after x ≡ registers x

  -- The operations of an argument lead to those after them, with the value in its register; what lies below t stays.
  record ComputesOne (e : Expr) (t v : ℕ) (more : List TacOp) (registers : Values) : Type 0 where
    count : ℕ
    after : Values
    few : count ≤ nodes e
    path : Stretch (tac_system functions) count [] (at functions blocks end callers world (register_ops e t ++ more) registers) (at functions blocks end callers world more after)
    value : after (register_of e t) ≡ Some v
    same : (x : ℕ) → x < t → after x ≡ registers x

  module _ (locals : ℕ) (values : Values) where
    computes_one : (e : Expr) (t v : ℕ) (more : List TacOp) (registers : Values) → locals ≤ t → IsExprOver locals e
        → Agree locals registers values → value_of values world.memory e ≡ Some v → ComputesOne e t v more registers
    computes_one (Const n) t v more registers l over agree h = record {
      count = 1;
      after = with_written registers t n;
      few = omega arith;
      path = one_op functions blocks end callers world (op.Const t n) more registers t n refl (const_step functions blocks end callers world t n more registers);
      value = written_same registers t n ∙ ap Some (some_same n v h);
      same = λ x below. written_other registers t n x (omega arith);
    }
    computes_one (Local y) t v more registers l over agree h =
        let c = computes functions blocks end callers world locals values (Local y) None t v more registers l over agree h in
        record { count = c.count; after = c.after; few = c.few; path = c.path; value = c.value; same = c.same }
    computes_one (Load width a) t v more registers l over agree h =
        let c = computes functions blocks end callers world locals values (Load width a) None t v more registers l over agree h in
        record { count = c.count; after = c.after; few = c.few; path = c.path; value = c.value; same = c.same }
    computes_one (Bin o p q) t v more registers l over agree h =
        let c = computes functions blocks end callers world locals values (Bin o p q) None t v more registers l over agree h in
        record { count = c.count; after = c.after; few = c.few; path = c.path; value = c.value; same = c.same }
    computes_one (High s p q) t v more registers l over agree h =
        let c = computes functions blocks end callers world locals values (High s p q) None t v more registers l over agree h in
        record { count = c.count; after = c.after; few = c.few; path = c.path; value = c.value; same = c.same }

    pub computes_all : (es : List Expr) (t : ℕ) (vs : List ℕ) (more : List TacOp) (registers : Values) → locals ≤ t → All (IsExprOver locals) es
        → Agree locals registers values → values_of values world.memory es ≡ Some vs → ComputesAll es t vs more registers
    computes_all [] t vs more registers l over agree h = record {
      count = 0;
      after = registers;
      few = omega arith;
      path = no_step (tac_system functions) (at functions blocks end callers world more registers);
      values = h;
      same = λ x below. refl;
    }
    computes_all (e ∷ es) t vs more registers l over agree h =
        let found = and_then_some (λ v. option_map (λ vs. v ∷ vs) (values_of values world.memory es)) (value_of values world.memory e) vs h in
        let rest = map_some (λ ws. found.0 ∷ ws) (values_of values world.memory es) vs found.2 in
        let u = free_past e t in
        let r = register_of e t in
        let over_e = All-head (IsExprOver locals) e es over in
        let first = computes_one e t found.0 (values_ops es u ++ more) registers l over_e agree found.1 in
        let agree_first : Agree locals first.after values = λ x less. still first.after registers x (values x) (first.same x (omega arith)) (agree x less) in
        let second = computes_all es u rest.0 more first.after (omega (arith, past_more e t)) (All-tail (IsExprOver locals) e es over) agree_first rest.1 in
        let all_of : values_in second.after (registers_of (e ∷ es) t) ≡ Some (found.0 ∷ rest.0) =
        read_both second.after r found.0 (registers_of es u) rest.0
        (still second.after first.after r (Some found.0) (second.same r (register_below e locals t l over_e)) first.value) second.values in
        let path = then_stretch (tac_system functions) first.count second.count [] []
        (at functions blocks end callers world (register_ops e t ++ (values_ops es u ++ more)) registers)
        (at functions blocks end callers world (values_ops es u ++ more) first.after)
        (at functions blocks end callers world more second.after) first.path second.path in
        record {
          count = first.count + second.count;
          after = second.after;
          few = omega (arith, first.few, second.few);
          path = subst (λ x. Stretch (tac_system functions) (first.count + second.count) [] (at functions blocks end callers world x registers) (at functions blocks end callers world more second.after))
              (sym (append_assoc (register_ops e t) (values_ops es u) more)) path;
          values = subst (λ ws. values_in second.after (registers_of (e ∷ es) t) ≡ Some ws) rest.2 all_of;
          same = λ x below. still second.after first.after x (registers x) (second.same x (omega (arith, past_more e t))) (first.same x below);
        }
