-- The claims of binary operators follow from those of their operands.
use Rattle.std.proofs.Common.{◌≡◌, refl, sym, subst, ◌∙◌, ℕ, Bool, true, false, arith}
use Rattle.std.specs.Prelude.{◌==◌, ◌<◌, ◌^◌, ◌&&◌, not, if◌then◌else◌, Option, None, Some, Result, Ok, List, [], ◌∷◌, ◌++◌}
use Rattle.ckc_base.specs.declared.places.Pos.{Pos}
use Rattle.ckc_base.specs.Words.{flag}
use Rattle.ckc_types.specs.declared.types.CType.{CType}
use Rattle.ckc_types.specs.declared.types.Structs.{Structs}
use Rattle.ckc_linear.specs.declared.forms.Form.{Form}
use Rattle.ckc_syntax.specs.declared.tree.Node.{Node-F}
use Rattle.ckc_syntax.specs.declared.tree.TreeOp.{TreeOp}
use Rattle.ckc_syntax.specs.declared.tree.TreeOp.TheVariants as op
use Rattle.ckc_typed.specs.Operands.{binary_type, both_type}
use Rattle.ckc_typed.specs.Trees.{NotedExpr}
use Rattle.ckc_typed.specs.Types.{is_scalar}
use Rattle.ckc_blame_sound.specs.ckc_bounds_points.specs.Flow.{State}
use Rattle.ckc_blame_sound.specs.ckc_bounds_views.specs.Parts.{View, NodeView}
use Rattle.ckc_blame_sound.specs.ckc_bounds_views.specs.Conditions.{wider, widened_by, read_place, widening, widening_side, operand, compares_unsigned, nonzero_side, by_operands, narrowed, right_point, and_side, or_side, binary_side}
use Rattle.ckc_blame_sound.specs.ckc_bounds_views.specs.Views.{node_view, view}
use Rattle.ckc_blame_sound.specs.ckc_bounds_statements.specs.Paths.{Here}
use Rattle.ckc_source.specs.declared.expr.Operation.TheVariants as operation
use Rattle.ckc_source.specs.declared.outcome.Halt.{Halt}
use Rattle.ckc_source.specs.declared.outcome.Value.{Value}
use Rattle.ckc_source.specs.Code.{Expr, And, Or}
use Rattle.ckc_source.specs.Eval.{Store, given, plain, operates, evaluated}
use Rattle.ckc_source.specs.Words.{truth}
use Rattle.ckc_build_values.specs.Operators.{is_signed_at, of_operands}
use Rattle.ckc_blame_sound.specs.Settings.{Setting}
use Rattle.ckc_blame_sound.specs.Points.{AreBounded, HoldsAt}
use Rattle.ckc_blame_sound.proofs.Types.{no_pointer, word_wide}
use Rattle.ckc_blame_pointers.specs.Meant.{IsNotStuck}
use Rattle.ckc_blame_pointers.proofs.Claims.{SideGoes, Claims, weaker, goes_on, both_go_on, stays}
use Rattle.ckc_blame_pointers.proofs.Nodes.{NodeClaims, integer_claims}
use Rattle.ckc_blame_pointers.proofs.Rows.{IsSmall, truth_word, Wide, wide_small, int_row, is_sum, other_row, tells_more, other_word}

truth_false : (b : Bool) → (flag (not b) == 0) ≡ false → b ≡ false
truth_false true e = e
truth_false false e = refl

truth_true : (b : Bool) → (flag (not b) == 0) ≡ true → b ≡ true
truth_true true e = refl
truth_true false e = e

pub flag_small : (b : Bool) → flag b < 2 ^ 32
flag_small true = omega arith
flag_small false = omega arith

module _ (s : Setting) (store : Store) (entry : List ℕ) where
  -- what is claimed of an expression at a point
  abbrev pub ExprClaims : Here → NotedExpr → Value → Type 0
  ExprClaims here e p =
      Claims s store entry here e.note.ctype (view s.frame e).values (view s.frame e).place (view s.frame e).range (view s.frame e).fresh (view s.frame e).behind (view s.frame e).target (view s.frame e).is_zero
      (view s.frame e).side p

  pub small_value : (here : Here) (e : NotedExpr) (x : Result Value Halt) → IsNotStuck (ExprClaims here e) x → IsNotStuck IsSmall x
  small_value here e x c = weaker x c (λ v is claims. word_wide e.note.ctype v.number claims.word)

  module _ (here : Here) (h : HoldsAt s store entry here) where
    -- a point with more facts
    more_facts : (at : State) → at.widened ≡ here.at.widened → at.reached ≡ here.at.reached → SideGoes s store entry here at
    more_facts at same reached = record { reached = reached ∙ h.reached; widened = subst (λ ks. AreBounded s store ks here.seen) (sym same) h.widened }

    facts_go : (b : Bool) (after : State) → after.widened ≡ here.at.widened → after.reached ≡ here.at.reached → SideGoes s store entry here (if b then after else here.at)
    facts_go true after same reached = more_facts after same reached
    facts_go false after same reached = stays s store entry here h

    forms_go : (o : TreeOp) (e f : View) (b : Bool) (x y : Option Form) → SideGoes s store entry here (nonzero_side s.frame o e f b here.at)
        → SideGoes s store entry here (by_operands s.frame o e f b x y here.at)
    forms_go o e f b (Some x) (Some y) g = facts_go here.at.reached _ refl refl
    forms_go o e f b (Some x) None g = g
    forms_go o e f b None y g = g

    -- a comparison other than `!=`
    compared : (o : TreeOp) → tells_more o ≡ false → (e f : View) (b : Bool) → SideGoes s store entry here (binary_side s.frame o e f b here.at)
    compared op.AndThen c e f b = absurd (cc)
    compared op.OrElse c e f b = absurd (cc)
    compared op.Ne c e f b = absurd (cc)
    compared op.Lt c e f b = forms_go op.Lt e f b (operand (compares_unsigned e f) e) (operand (compares_unsigned e f) f) (stays s store entry here h)
    compared op.Le c e f b = forms_go op.Le e f b (operand (compares_unsigned e f) e) (operand (compares_unsigned e f) f) (stays s store entry here h)
    compared op.Gt c e f b = forms_go op.Gt e f b (operand (compares_unsigned e f) e) (operand (compares_unsigned e f) f) (stays s store entry here h)
    compared op.Ge c e f b = forms_go op.Ge e f b (operand (compares_unsigned e f) e) (operand (compares_unsigned e f) f) (stays s store entry here h)
    compared op.Eq c e f b = forms_go op.Eq e f b (operand (compares_unsigned e f) e) (operand (compares_unsigned e f) f) (stays s store entry here h)
    compared o c e f b = stays s store entry here h

    -- what is widened behind a read can be reached
    pub wider_goes : (k : Option ℕ) → AreBounded s store (wider k here.at).widened here.seen → SideGoes s store entry here (wider k here.at)
    wider_goes None bounded = record { reached = h.reached; widened = bounded }
    wider_goes (Some k) bounded = record { reached = by here.at.reached refl; widened = bounded }
      where
        by : (b : Bool) → here.at.reached ≡ b → (if b then record here.at { widened = here.at.widened ++ k ∷ [] } else here.at).reached ≡ true
        by true e = h.reached
        by false e = h.reached

    -- `!=`, which widens as its left operand does where the right one is zero
    unequal : (e f : View) (b : Bool) (v w : ℕ) → (flag (not (v == w)) == 0) ≡ not b → (f.is_zero ≡ true → w ≡ 0)
        → ((v == 0) ≡ false → AreBounded s store (widening s.frame e.behind (e.target 0 here.at.facts) here.at).widened here.seen)
        → SideGoes s store entry here (binary_side s.frame op.Ne e f b here.at)
    unequal e f b v w side zero wide = forms_go op.Ne e f b (operand (compares_unsigned e f) e) (operand (compares_unsigned e f) f) (wide_by f.is_zero b refl side)
      where
        wide_by : (z b : Bool) → f.is_zero ≡ z → (flag (not (v == w)) == 0) ≡ not b → SideGoes s store entry here (if z then widening_side s.frame e.behind (e.target 0) b here.at else here.at)
        wide_by true true is side =
            wider_goes (widened_by s.frame (read_place e.behind (e.target 0 here.at.facts))) (wide (subst (λ n. (v == n) ≡ false) (zero is) (truth_false (v == w) side)))
        wide_by true false is side = stays s store entry here h
        wide_by false b is side = stays s store entry here h

    -- ---- two operands

    module _ (structs : Structs) (e f : NotedExpr) (r : CType) (place : Pos) (v w : Expr) (left : IsNotStuck (ExprClaims here e) (evaluated store v)) (m n : Bool) where
      abbrev node : TreeOp → NodeView
      node o = node_view s.frame (Node-F.Bin o (view s.frame e) (view s.frame f))

      abbrev Result' : TreeOp → Value → Type 0
      Result' o = NodeClaims s store entry here h r (node o)

      -- what is an integer, and tells no more than a comparison
      number_claims : (o : TreeOp) → Wide r → tells_more o ≡ false → (p : Value) → p.number < 2 ^ 32 → Result' o p
      number_claims o wide quiet p small =
          integer_claims s store entry here h r (node o) (no_pointer r wide.wide.integer) refl p (wide_small r wide p.number small) (λ e. absurd (cc)) (λ e. absurd (cc))
          (λ b side. compared o quiet (view s.frame e) (view s.frame f) b)

      pub other_claims : (o : TreeOp) → is_sum o ≡ false → tells_more o ≡ false → binary_type o e.note.ctype m f.note.ctype n ≡ Some r
          → IsNotStuck (ExprClaims here f) (evaluated store w) → IsNotStuck (Result' o) (evaluated store (of_operands structs o e.note.ctype f.note.ctype place v w))
      other_claims o sum quiet row right =
          weaker (evaluated store (of_operands structs o e.note.ctype f.note.ctype place v w))
          (other_word store structs e.note.ctype f.note.ctype r m n place v w (small_value here e (evaluated store v) left) (small_value here f (evaluated store w) right) o sum quiet row)
          (λ p is small. number_claims o (other_row o e.note.ctype f.note.ctype r m n sum row) quiet p small)

      pub unequal_claims : binary_type op.Ne e.note.ctype m f.note.ctype n ≡ Some r → IsNotStuck (ExprClaims here f) (evaluated store w)
          → IsNotStuck (Result' op.Ne) (evaluated store (of_operands structs op.Ne e.note.ctype f.note.ctype place v w))
      unequal_claims row right =
          both_go_on (ExprClaims here e) (ExprClaims here f) (Result' op.Ne) (evaluated store v) (evaluated store w)
          (λ x y. operates operation.Ne (is_signed_at op.Ne e.note.ctype f.note.ctype) place x.number y.number) left right
          (λ x y is there c d.
          integer_claims s store entry here h r (node op.Ne) (no_pointer r wide.wide.integer) refl _ (wide_small r wide (flag (not (x.number == y.number))) (flag_small (not (x.number == y.number)))) (λ e. absurd (cc)) (λ e. absurd (cc))
          (λ b side. unequal (view s.frame e) (view s.frame f) b x.number y.number side d.zero c.wide))
        where
          wide : Wide r
          wide = other_row op.Ne e.note.ctype f.note.ctype r m n refl row

      -- ---- `&&` and `||`

      module _ (point : (x : Value) → evaluated store v ≡ Ok x → ExprClaims here e x → (b : Bool) → (x.number == 0) ≡ not b → HoldsAt s store entry (record here { at = (view s.frame e).side b here.at })) where
        pub and_claims : both_type e.note.ctype f.note.ctype ≡ Some r
            → ((x : Value) → evaluated store v ≡ Ok x → (x.number == 0) ≡ false → HoldsAt s store entry (record here { at = right_point op.AndThen (view s.frame e) here.at })
            → IsNotStuck (ExprClaims (record here { at = right_point op.AndThen (view s.frame e) here.at }) f) (evaluated store w))
            → IsNotStuck (Result' op.AndThen) (evaluated store (And v w))
        and_claims row right =
            goes_on (ExprClaims here e) (Result' op.AndThen) (evaluated store v) (λ x. if x.number == 0 then plain 0 else given (evaluated store w) (λ y. plain (truth y.number))) left
            (λ x is c. by x is c (x.number == 0) refl)
          where
            wide : Wide r
            wide = int_row (is_scalar e.note.ctype && is_scalar f.note.ctype) r row

            made : (k : ℕ) → k < 2 ^ 32 → ((b : Bool) → (k == 0) ≡ not b → SideGoes s store entry here (and_side (view s.frame e) (view s.frame f) b here.at)) → IsNotStuck (Result' op.AndThen) (plain k)
            made k small sides = integer_claims s store entry here h r (node op.AndThen) (no_pointer r wide.wide.integer) refl _ (wide_small r wide k small) (λ e. absurd (cc)) (λ e. absurd (cc)) sides

            by : (x : Value) → evaluated store v ≡ Ok x → ExprClaims here e x → (b : Bool) → (x.number == 0) ≡ b
                → IsNotStuck (Result' op.AndThen) (if b then plain 0 else given (evaluated store w) (λ y. plain (truth y.number)))
            by x is c true z = made 0 (omega arith) sides
              where
                sides : (b : Bool) → (0 == 0) ≡ not b → SideGoes s store entry here (and_side (view s.frame e) (view s.frame f) b here.at)
                sides true e = absurd (cc)
                sides false e = stays s store entry here h
            by x is c false z =
                goes_on (ExprClaims (record here { at = (view s.frame e).side true here.at }) f) (Result' op.AndThen) (evaluated store w) (λ y. plain (truth y.number)) (right x is z (point x is c true z))
                (λ y there d. made (truth y.number) (truth_word y.number (word_wide f.note.ctype y.number d.word)) (sides y d))
              where
                sides : (y : Value) → ExprClaims (record here { at = (view s.frame e).side true here.at }) f y → (b : Bool) → (truth y.number == 0) ≡ not b
                    → SideGoes s store entry here (and_side (view s.frame e) (view s.frame f) b here.at)
                sides y d true side = let g = d.sides true (truth_false (y.number == 0) side) in record { reached = g.reached; widened = g.widened }
                sides y d false side = stays s store entry here h

        -- where the left operand of `||` is false
        or_point : (x : Value) → evaluated store v ≡ Ok x → ExprClaims here e x → (x.number == 0) ≡ true
            → HoldsAt s store entry (record here { at = narrowed here.at ((view s.frame e).side false here.at) })
        or_point x is c z = let g = point x is c false z in record {
          reached = g.reached;
          counted = g.counted;
          words = g.words;
          facts = g.facts;
          bounded = g.bounded;
          widened = h.widened;
          entered = g.entered;
          kept = g.kept;
        }

        pub or_claims : both_type e.note.ctype f.note.ctype ≡ Some r
            → ((x : Value) → evaluated store v ≡ Ok x → (x.number == 0) ≡ true → HoldsAt s store entry (record here { at = right_point op.OrElse (view s.frame e) here.at })
            → IsNotStuck (ExprClaims (record here { at = right_point op.OrElse (view s.frame e) here.at }) f) (evaluated store w))
            → IsNotStuck (Result' op.OrElse) (evaluated store (Or v w))
        or_claims row right =
            goes_on (ExprClaims here e) (Result' op.OrElse) (evaluated store v) (λ x. if x.number == 0 then given (evaluated store w) (λ y. plain (truth y.number)) else plain 1) left
            (λ x is c. by x is c (x.number == 0) refl)
          where
            wide : Wide r
            wide = int_row (is_scalar e.note.ctype && is_scalar f.note.ctype) r row

            made : (k : ℕ) → k < 2 ^ 32 → ((b : Bool) → (k == 0) ≡ not b → SideGoes s store entry here (or_side (view s.frame e) (view s.frame f) b here.at)) → IsNotStuck (Result' op.OrElse) (plain k)
            made k small sides = integer_claims s store entry here h r (node op.OrElse) (no_pointer r wide.wide.integer) refl _ (wide_small r wide k small) (λ e. absurd (cc)) (λ e. absurd (cc)) sides

            by : (x : Value) → evaluated store v ≡ Ok x → ExprClaims here e x → (b : Bool) → (x.number == 0) ≡ b
                → IsNotStuck (Result' op.OrElse) (if b then given (evaluated store w) (λ y. plain (truth y.number)) else plain 1)
            by x is c false z = made 1 (omega arith) sides
              where
                sides : (b : Bool) → (1 == 0) ≡ not b → SideGoes s store entry here (or_side (view s.frame e) (view s.frame f) b here.at)
                sides true e = stays s store entry here h
                sides false e = absurd (cc)
            by x is c true z =
                goes_on (ExprClaims (record here { at = narrowed here.at ((view s.frame e).side false here.at) }) f) (Result' op.OrElse) (evaluated store w) (λ y. plain (truth y.number)) (right x is z (or_point x is c z))
                (λ y there d. made (truth y.number) (truth_word y.number (word_wide f.note.ctype y.number d.word)) (sides y d))
              where
                sides : (y : Value) → ExprClaims (record here { at = narrowed here.at ((view s.frame e).side false here.at) }) f y → (b : Bool) → (truth y.number == 0) ≡ not b
                    → SideGoes s store entry here (or_side (view s.frame e) (view s.frame f) b here.at)
                sides y d true side = stays s store entry here h
                sides y d false side = let g = d.sides false (truth_true (y.number == 0) side) in record { reached = g.reached; widened = h.widened }
