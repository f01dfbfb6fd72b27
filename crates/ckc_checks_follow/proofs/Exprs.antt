-- The code of an expression computes its value, or stops as its evaluation does.
use Rattle.std.proofs.Common.{◌≡◌, ℕ, ◌+◌, ◌-◌, ◌*◌, ◌%◌, ◌≤◌, ◌==◌, List, [], ◌∷◌, refl, sym, ◌∙◌, ap, subst, arith}
use Rattle.std.specs.Option.{option_map}
use Rattle.std.proofs.lemmas.List.Elements.{All-head, All-tail}
use Rattle.std.specs.Prelude.{All, length, option_and_then, Bool, true, false, ◌&&◌, if◌then◌else◌, Some, Result, Ok}
use Rattle.ckc_base.specs.declared.places.Pos.{Pos}
use Rattle.ckc_base.specs.Actions.{World}
use Rattle.ckc_base.specs.Activations.{Values}
use Rattle.ckc_source.specs.declared.expr.Access.{Access}
use Rattle.ckc_source.specs.declared.expr.Limits.{Limits}
use Rattle.ckc_source.specs.declared.expr.Integer.{Integer}
use Rattle.ckc_source.specs.declared.outcome.Value.{Value}
use Rattle.ckc_source.specs.declared.outcome.Halt.{Halt}
use Rattle.ckc_source.specs.Code as source
use Rattle.ckc_source.specs.Blocks.{loaded}
use Rattle.ckc_source.specs.Words.{truth, divides}
use Rattle.ckc_source.specs.Eval.{Store, given, given_both, plain, element, place_in, loads, operates, tests, evaluated, all_evaluated}
use Rattle.ckc_core.specs.Code.{Code, Function}
use Rattle.ckc_core.specs.Meaning.{Rest, State, Caller, value_of, values_of, nodes, all_nodes}
use Rattle.ckc_checks_operands.specs.Compilable.{IsAccess, IsCompilableExpr, IsCompilablePart, IsCast, index_nodes, value_nodes, expr_nodes, exprs_nodes}
use Rattle.ckc_checks_operands.specs.Cases.{is_one, is_single, casts_one}
use Rattle.ckc_checks_operands.specs.code.Operands.{held, keeps_index, operand}
use Rattle.ckc_checks_follow.specs.code.Inserted.{put_if, tested_code, no_range, value_code, access_code, expr_code, operand_code, operands_code, operands}
use Rattle.ckc_checks_follow.proofs.Paths.{no_quiet}
use Rattle.ckc_checks_follow.proofs.Running.{at}
use Rattle.ckc_checks_follow.proofs.Bounded.{AreSmall, small_cons}
use Rattle.ckc_checks_follow.proofs.Single.{behind_one, tested_gives}
use Rattle.ckc_checks_follow.proofs.Values.{Agree, Sees}
use Rattle.ckc_checks_follow.proofs.Bytes.{and_true}
use Rattle.ckc_checks_follow.proofs.Counts.{some_nodes, value_steps, found_steps, operand_nodes, operands_nodes, expr_steps, held_steps, operand_steps, operands_steps}
use Rattle.ckc_checks_follow.proofs.Coming.{Below, PutRange, RangeClaim, Comes, then_comes, Put, Held, Claim, HeldIn, OperandClaim, agree_below, operand_from, held_from, IndexClaim, index_from, leaf}
use Rattle.ckc_checks_follow.proofs.Judging.{binary_comes, Found, found_comes, Ended, found_ended}
use Rattle.ckc_checks_follow.proofs.Moving.{mapped, moved_comes, added_comes, bare_put, tested_put, trusted_comes, and_comes, or_comes, choice_value, choice_range, narrow_comes, load_comes, member_comes, address_comes}
use Rattle.ckc_checks_follow.proofs.Ranging.{NoRange, both_none, given_none, if_none, loads_none, none_put, limited_range, array_range, member_range, address_range, moved_range_comes, added_range_comes, cast_range, trusted_range_comes}

module _ (functions : List Function) (callers : List Caller) (world : World) where
  module _ (n : ℕ) (s : Store) (sees : Sees n s world.memory) where
    limited_leaf : (x : ℕ) (limits : Limits) → Claim functions callers world n s sees (source.Limited x limits)
    limited_leaf x limits t more rest l le h agree = leaf functions callers world n s sees (source.Limited x limits) t more rest l h agree refl

    -- a value without a range is had with one that nothing asks for
    no_range_comes : (m : ℕ) (e : source.Expr) (t : ℕ) (more : Code) (rest : Rest) (l : Values) (st : State) → value_steps false e + 14 ≤ m → NoRange functions callers world n s sees (evaluated s e)
        → Comes functions callers world 1 (value_steps false e) st (evaluated s e) (no_range true t more) rest (Put functions callers world t l) → Comes functions callers world 1 m st (evaluated s e) more rest (PutRange functions callers world t l)
    no_range_comes m e t more rest l st few none c = none_put functions callers world n s sees (value_steps false e) m t st (evaluated s e) more rest l (omega arith) none c

    range_put : (t : ℕ) (before : Values) (v : Value) (l : Values) → PutRange functions callers world t before v l → Put functions callers world t before v l
    range_put t before v l put = (put.0, put.1)

    tested_value : (size : ℕ) (how : Integer) (place : Pos) (p k : source.Expr) → Claim functions callers world n s sees p → RangeClaim functions callers world n s sees p → Claim functions callers world n s sees k
        → Claim functions callers world n s sees (source.Tested size how place p k)
    tested_value size how place p k claim_p range_p claim_k t more rest l le h agree = by (casts_one size p k) refl h.0
      where
        keeps : Bool
        keeps = keeps_index true k

        by : (one : Bool) → casts_one size p k ≡ one → IsCast n one size place p
            → Comes functions callers world 1 (14 * (if one then 1 + value_nodes false p + value_nodes false k else 5 + value_nodes true p + index_nodes k (value_nodes false k)) - 2)
            (at callers world (if one then value_code false p t more else value_code true p t (put_if keeps k (value_code false k (t + 3)) (tested_code size how place (held keeps k (t + 3)) t more))) rest l)
            (given_both (evaluated s p) (evaluated s k) (λ v c. tests size how place v c.number)) more rest (Put functions callers world t l)
        by true one c =
            let q = and_true (is_one k) (is_single size p) one in
            let m = 14 * (1 + value_nodes false p + value_nodes false k) - 2 in
            subst (λ r. Comes functions callers world 1 m (at callers world (expr_code p t more) rest l) r more rest (Put functions callers world t l))
            (sym (behind_one s k (evaluated s p) (λ v c. tests size how place v c.number) q.0))
            (tested_put functions callers world n s sees (expr_steps p) m (at callers world (expr_code p t more) rest l) (evaluated s p) (λ v. tests size how place v 1) t more rest l (omega arith)
            (λ v e. tested_gives size s how place p v q.1 e) (claim_p t more rest l le h.1 agree))
        by false one c =
            let m = 14 * (5 + value_nodes true p + index_nodes k (expr_nodes k)) - 2 in
            let code = value_code true p t (put_if keeps k (expr_code k (t + 3)) (tested_code size how place (held keeps k (t + 3)) t more)) in
            mapped functions callers world n s sees 1 m (at callers world code rest l) (given_both (evaluated s p) (evaluated s k) (λ v c. tests size how place v c.number)) more rest (PutRange functions callers world t l) (Put functions callers world t l) (range_put t l)
            (cast_range functions callers world n s sees size how place p k t more rest l range_p claim_k c.1.0 c.1.1 le h.1 c.2 h.2 agree)

    tested_range : (size : ℕ) (how : Integer) (place : Pos) (p k : source.Expr) → RangeClaim functions callers world n s sees p → Claim functions callers world n s sees k → RangeClaim functions callers world n s sees (source.Tested size how place p k)
    tested_range size how place p k range_p claim_k t more rest l le h has agree = cast_range functions callers world n s sees size how place p k t more rest l range_p claim_k has.1.0 has.1.1 le h.1 has.2 h.2 agree

    -- the code of an expression puts its value into the temporary t, and its range after it if that is asked for
    claims : (e : source.Expr) → Claim functions callers world n s sees e × RangeClaim functions callers world n s sees e
    claims (source.Number k) =
        let claim : Claim functions callers world n s sees (source.Number k) = λ t more rest l le h agree. leaf functions callers world n s sees (source.Number k) t more rest l h agree refl in
        (claim, λ t more rest l le h has agree. no_range_comes (value_steps true (source.Number k)) (source.Number k) t more rest l _ (omega arith) refl (claim t (no_range true t more) rest l le h agree))
    claims (source.Local x) =
        let claim : Claim functions callers world n s sees (source.Local x) = λ t more rest l le h agree. leaf functions callers world n s sees (source.Local x) t more rest l h agree refl in
        (claim, λ t more rest l le h has agree. no_range_comes (value_steps true (source.Local x)) (source.Local x) t more rest l _ (omega arith) refl (claim t (no_range true t more) rest l le h agree))
    claims (source.Limited x limits) = (limited_leaf x limits, limited_range functions callers world n s sees x limits)
    claims (source.Array a bytes) =
        let claim : Claim functions callers world n s sees (source.Array a bytes) = λ t more rest l le h agree. leaf functions callers world n s sees (source.Array a bytes) t more rest l h agree refl in
        (claim, array_range functions callers world n s sees a bytes)
    claims (source.Load width access p i) =
        let pointer = claims p in
        let index = claims i in
        let claim = load_comes functions callers world n s sees width access p i pointer.0 pointer.1 index.0 in
        let e = source.Load width access p i in (
          claim,
          λ t more rest l le h has agree. no_range_comes (value_steps true e) e t more rest l _ (omega (arith, some_nodes false e))
              (both_none functions callers world n s sees (evaluated s p) (evaluated s i) (λ v k. given (element access v k.number) (λ a. loads s width (place_in a access.offset)))
              (λ v k. given_none functions callers world n s sees (element access v k.number) (λ a. loads s width (place_in a access.offset)) (λ a. loads_none functions callers world n s sees (loaded width (place_in a access.offset) s.blocks))))
              (claim t (no_range true t more) rest l le h agree),
        )
    claims (source.Member to count access p i) =
        let pointer = claims p in
        let index = claims i in
        (member_comes functions callers world n s sees to count access p i pointer.0 pointer.1 index.0, member_range functions callers world n s sees to count access p i pointer.0 pointer.1 index.0)
    claims (source.Address bytes access p i) =
        let pointer = claims p in
        let index = claims i in
        (address_comes functions callers world n s sees bytes access p i pointer.0 pointer.1 index.0, address_range functions callers world n s sees bytes access p i pointer.0 pointer.1 index.0)
    claims (source.Moved shift p i) =
        let pointer = claims p in
        let index = claims i in
        (moved_comes functions callers world n s sees shift p i pointer.0 index.0, moved_range_comes functions callers world n s sees shift p i pointer.1 index.0)
    claims (source.Added shift i p) =
        let pointer = claims p in
        let index = claims i in
        (added_comes functions callers world n s sees shift i p index.0 pointer.0, added_range_comes functions callers world n s sees shift i p index.0 pointer.1)
    claims (source.Binary operation is_signed place a b) =
        let left = claims a in
        let right = claims b in
        let e = source.Binary operation is_signed place a b in
        let claim = binary_comes functions callers world n s sees operation is_signed place a b (operand_from functions callers world n s sees a left.0) (operand_from functions callers world n s sees b right.0) in (
          claim,
          λ t more rest l le h has agree. no_range_comes (value_steps true e) e t more rest l _ (omega (arith, some_nodes false e))
              (both_none functions callers world n s sees (evaluated s a) (evaluated s b) (λ x y. operates operation is_signed place x.number y.number) (λ x y. if_none functions callers world n s sees (divides operation && (y.number == 0)) _ _ tt refl))
              (claim t (no_range true t more) rest l le h agree),
        )
    claims (source.And a b) =
        let left = claims a in
        let right = claims b in
        let e = source.And a b in
        let claim = and_comes functions callers world n s sees a b (operand_from functions callers world n s sees a left.0) (operand_from functions callers world n s sees b right.0) in (
          claim,
          λ t more rest l le h has agree. no_range_comes (value_steps true e) e t more rest l _ (omega (arith, some_nodes false e))
              (given_none functions callers world n s sees (evaluated s a) (λ x. if x.number == 0 then plain 0 else given (evaluated s b) (λ y. plain (truth y.number)))
              (λ x. if_none functions callers world n s sees (x.number == 0) _ _ refl (given_none functions callers world n s sees (evaluated s b) (λ y. plain (truth y.number)) (λ y. refl))))
              (claim t (no_range true t more) rest l le h agree),
        )
    claims (source.Or a b) =
        let left = claims a in
        let right = claims b in
        let e = source.Or a b in
        let claim = or_comes functions callers world n s sees a b (operand_from functions callers world n s sees a left.0) (operand_from functions callers world n s sees b right.0) in (
          claim,
          λ t more rest l le h has agree. no_range_comes (value_steps true e) e t more rest l _ (omega (arith, some_nodes false e))
              (given_none functions callers world n s sees (evaluated s a) (λ x. if x.number == 0 then given (evaluated s b) (λ y. plain (truth y.number)) else plain 1)
              (λ x. if_none functions callers world n s sees (x.number == 0) _ _ (given_none functions callers world n s sees (evaluated s b) (λ y. plain (truth y.number)) (λ y. refl)) refl))
              (claim t (no_range true t more) rest l le h agree),
        )
    claims (source.Choice c a b) =
        let condition = claims c in
        let one = claims a in
        let two = claims b in
        (choice_value functions callers world n s sees c a b (operand_from functions callers world n s sees c condition.0) one.0 two.0, choice_range functions callers world n s sees c a b (operand_from functions callers world n s sees c condition.0) one.1 two.1)
    claims (source.Narrow inner) =
        let value = claims inner in
        let e = source.Narrow inner in
        let claim = narrow_comes functions callers world n s sees inner (operand_from functions callers world n s sees inner value.0) in (
          claim,
          λ t more rest l le h has agree. no_range_comes (value_steps true e) e t more rest l _ (omega (arith, some_nodes false e))
              (given_none functions callers world n s sees (evaluated s inner) (λ v. plain (v.number % 256)) (λ v. refl)) (claim t (no_range true t more) rest l le h agree),
        )
    claims (source.Bare p) =
        let value = claims p in
        let e = source.Bare p in
        let claim : Claim functions callers world n s sees (source.Bare p) =
        λ t more rest l le h agree. bare_put functions callers world n s sees (expr_steps p) (expr_steps (source.Bare p)) (at callers world (expr_code p t more) rest l) (evaluated s p) t more rest l (omega arith) (value.0 t more rest l le h agree) in (
          claim,
          λ t more rest l le h has agree. no_range_comes (value_steps true e) e t more rest l _ (omega (arith, some_nodes false e))
              (given_none functions callers world n s sees (evaluated s p) (λ v. plain v.number) (λ v. refl)) (claim t (no_range true t more) rest l le h agree),
        )
    claims (source.Tested size how place p k) =
        let pointer = claims p in
        let count = claims k in
        (tested_value size how place p k pointer.0 pointer.1 count.0, tested_range size how place p k pointer.1 count.0)
    claims (source.Trusted to how p k) =
        let pointer = claims p in
        let count = claims k in
        (trusted_comes functions callers world n s sees to how p k pointer.0 (operand_from functions callers world n s sees k count.0), trusted_range_comes functions callers world n s sees to how p k pointer.0 (operand_from functions callers world n s sees k count.0))

    pub expr_comes : (e : source.Expr) → Claim functions callers world n s sees e
    expr_comes e = (claims e).0

    pub range_comes : (e : source.Expr) → RangeClaim functions callers world n s sees e
    range_comes e = (claims e).1

    -- what finds the place of an access, and then the rest
    pub reach_comes : {A : Type 0} (access : Access) (p i : source.Expr) (t least m k : ℕ) (last more : Code) (rest : Rest) (l : Values) (f : Value → ℕ → Result A Halt) (R : A → Values → Type 0)
        → n ≤ t → IsAccess n access p i → IsCompilableExpr n p → IsCompilableExpr n i → Agree n s.locals l → found_steps access p i t + m ≤ k
        → ((x : Value) (q : ℕ) (l3 : Values) → Found functions callers world n s sees access p i t l q l3 → evaluated s p ≡ Ok x → Comes functions callers world least m (at callers world last rest l3) (f x q) more rest R)
        → Comes functions callers world least k (at callers world (access_code access p i t last) rest l)
        (given_both (evaluated s p) (evaluated s i) (λ v k. given (element access v k.number) (f v))) more rest R
    reach_comes {A} access p i t least m k last more rest l f R le h hp hi agree few next =
        found_comes functions callers world n s sees access p i t least m k last more rest l f R (expr_comes p) (range_comes p) (expr_comes i) le h hp hi agree few next

    -- the same, if it is known whether the element is at the upper bound
    pub reach_ended : {A : Type 0} (access : Access) (p i : source.Expr) (t least m k : ℕ) (last more : Code) (rest : Rest) (l : Values) (f : Value → ℕ → Result A Halt) (R : A → Values → Type 0)
        → n ≤ t → IsAccess n access p i → IsCompilableExpr n p → IsCompilableExpr n i → Agree n s.locals l → found_steps access p i t + m ≤ k
        → ((x : Value) (q : ℕ) (l3 : Values) → Found functions callers world n s sees access p i t l q l3 → Ended functions callers world n s sees access.through p t x.range q l3 → Comes functions callers world least m (at callers world last rest l3) (f x q) more rest R)
        → Comes functions callers world least k (at callers world (access_code access p i t last) rest l)
        (given_both (evaluated s p) (evaluated s i) (λ v k. given (element access v k.number) (f v))) more rest R
    reach_ended {A} access p i t least m k last more rest l f R le h hp hi agree few next =
        found_ended functions callers world n s sees access p i t least m k last more rest l f R (expr_comes p) (range_comes p) (expr_comes i) le h hp hi agree few next

    -- an operand has the value of its expression
    pub operand_comes : (e : source.Expr) → OperandClaim functions callers world n s sees e
    operand_comes e = operand_from functions callers world n s sees e (expr_comes e)

    pub held_comes : (always : Bool) (e : source.Expr) → HeldIn functions callers world n s sees (held_steps always e) always e
    held_comes always e = held_from functions callers world n s sees always e (expr_comes e)

    pub index_comes : (checked : Bool) (i : source.Expr) → IndexClaim functions callers world n s sees checked i
    index_comes checked i = index_from functions callers world n s sees checked i (expr_comes i)

    -- The operands of a call have these values, which are words, as long as the locals up to theirs stay.
    abbrev pub AllHeld : List source.Expr → ℕ → Values → List ℕ → Values → Type 0
    AllHeld es t before vs l =
        Below t l before × ((later : Values) → Below (t + length es) later l → values_of later world.memory (operands es t) ≡ Some vs)
        × (length vs ≡ length es) × AreSmall vs

    operands_add : (ne es nn ns : ℕ) → nn ≤ 6 * ne → ns ≤ 6 * es → (14 * ne - 2 * nn) + (14 * es - 2 * ns) ≤ 14 * (ne + es) - 2 * (nn + ns)
    operands_add ne es nn ns h k = omega arith

    pub operands_comes : (es : List source.Expr) (t : ℕ) (more : Code) (rest : Rest) (l : Values) → n ≤ t → All (IsCompilablePart n) es → Agree n s.locals l
        → Comes functions callers world 0 (operands_steps es t) (at callers world (operands_code es t more) rest l) (all_evaluated s es) more rest (AllHeld es t l)
    operands_comes [] t more rest l le h agree = (
      0,
      at callers world more rest l,
      omega arith,
      omega arith,
      no_quiet functions (at callers world more rest l),
      (l, refl, ((λ x less. refl), (λ later same. refl), refl, (λ i. omega arith))),
    )
    operands_comes (e ∷ es) t more rest l le h agree =
        let first = All-head (IsCompilablePart n) e es h in
        let others = All-tail (IsCompilablePart n) e es h in
        let second = operands_code es (t + 1) more in
        then_comes functions callers world 0 (operand_steps e t) (operands_steps es (t + 1)) (operands_steps (e ∷ es) t) (at callers world (operand_code e t second) rest l) (evaluated s e)
        (λ v. given (all_evaluated s es) (λ ns. Ok (v.number ∷ ns))) second rest (Held functions callers world (operand e t) t l)
        (λ vs u. (l' : Values) × (u ≡ at callers world more rest l') × AllHeld (e ∷ es) t l vs l')
        (operands_add (expr_nodes e) (exprs_nodes es) (nodes (operand e t)) (all_nodes (operands es (t + 1))) (operand_nodes e t) (operands_nodes es (t + 1)))
        (operand_comes e t second rest l le first.0 agree)
        (λ v l1 held.
        then_comes functions callers world 0 (operands_steps es (t + 1)) 0 (operands_steps es (t + 1)) (at callers world second rest l1) (all_evaluated s es) (λ ns. Ok (v.number ∷ ns)) more rest (AllHeld es (t + 1) l1)
        (λ vs u. (l' : Values) × (u ≡ at callers world more rest l') × AllHeld (e ∷ es) t l vs l') (omega arith)
        (operands_comes es (t + 1) more rest l1 (omega arith) others (agree_below functions callers world n s sees t l1 l le held.0 agree))
        (λ ns l2 all. (
          0,
          at callers world more rest l2,
          omega arith,
          omega arith,
          no_quiet functions (at callers world more rest l2),
          (
            l2,
            refl,
            (
              (λ x less. all.0 x (omega arith) ∙ held.0 x less),
              (λ later same.
                  let one : value_of later world.memory (operand e t) ≡ Some v.number = held.1 later (λ x less. same x (omega arith) ∙ all.0 x less) in
                  let rest : values_of later world.memory (operands es (t + 1)) ≡ Some ns = all.1 later (λ x less. same x (omega arith)) in
                  ap (λ o. option_and_then (λ v. option_map (λ vs. v ∷ vs) (values_of later world.memory (operands es (t + 1)))) o) one
                  ∙ ap (λ o. option_map (λ vs. v.number ∷ vs) o) rest),
              omega (arith, all.2),
              small_cons v.number ns held.2 all.3,
            ),
          ),
        )))
