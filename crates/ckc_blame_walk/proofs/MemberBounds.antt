-- The name in the bounds of a member has a type.
use Rattle.std.proofs.Common.{◌≡◌, ◌∙◌, sym, ap, subst, refl, ℕ, ◌==◌, ℤ, Bool, true, false, List, rules}
use Rattle.std.specs.Prelude.{pos, int_div, if◌then◌else◌, Option, Some, None, IsSome, IfSome}
use Rattle.std.specs.Option.{option_map}
use Rattle.ckc_base.specs.declared.arithmetic.Mode.{Mode}
use Rattle.ckc_types.specs.declared.types.CType.{CType}
use Rattle.ckc_types.specs.declared.types.MemberBounds.TheVariants as bounds
use Rattle.ckc_types.specs.declared.types.Structs.{Structs}
use Rattle.ckc_syntax.specs.declared.tree.Name.{Name}
use Rattle.ckc_syntax.specs.declared.tree.Name.TheVariants as name
use Rattle.ckc_syntax.specs.declared.tree.TreeOp.{TreeOp}
use Rattle.ckc_syntax.specs.declared.tree.TreeOp.TheVariants as op
use Rattle.ckc_syntax.specs.declared.tree.Limits.{Limits-F, out-Limits, roll-Limits, the_lemmas as limits_lemmas}
use Rattle.ckc_syntax.specs.declared.tree.Node.{Node-F, out-Node, roll-Node, the_lemmas as node_lemmas}
use Rattle.ckc_syntax.specs.declared.tree.Expr.{every_here-Expr}
use Rattle.ckc_typed.specs.declared.environment.Amount.{Amount}
use Rattle.ckc_typed.specs.declared.environment.Globals.{Globals}
use Rattle.ckc_typed.specs.declared.environment.Variable.{Variable}
use Rattle.ckc_typed.specs.declared.typed.Note.{Note}
use Rattle.ckc_typed.specs.Trees.{NotedLimits, NotedNode, NotedExpr, NotedLayer}
use Rattle.ckc_typed.specs.Types.{element_of}
use Rattle.ckc_typed.specs.Environment.{type_of_name}
use Rattle.ckc_typed.specs.Constants.{size_of}
use Rattle.ckc_typed.specs.Amounts.{fixed, is_multiple, variable_in_form, variable_in, number_in, negative, moved, or_amount, sum_amount, amount_in_form, amount_by, amount, scaled, amount_of_bytes}
use Rattle.ckc_typed.specs.Layouts.{bounds_by, bounds_of}
use Rattle.ckc_typed_welltyped.specs.Noteless.{bare_limits, bare_expr}
use Rattle.ckc_typed_welltyped.specs.Expressions.{AnyLimits, AnyNode, HasType, IsNoted, WellTypedExpr, WellTypedNode, WellTypedLimits}
use Rattle.ckc_blame_sound.proofs.Amounts.{limits_made, node_made, limits_out, layer_is, variable_bare, moved_is, counted_is}
use Rattle.ckc_blame_sound.proofs.Every.{LimitsLayer, LimitsParts, limits_hold, node_hold, inside}

-- ---- layers

node_whole : (m : NotedNode) → roll-Node Name Note (out-Node Name Note m) ≡ m
node_whole m = search (rules, node_lemmas)

node_there : (m : NotedNode) (x : NotedLayer) → out-Node Name Note m ≡ x → roll-Node Name Note x ≡ m
node_there m x e = sym (ap (roll-Node Name Note) e) ∙ node_whole m

limits_whole : (m : NotedLimits) → roll-Limits Name Note (out-Limits Name Note m) ≡ m
limits_whole m = search (rules, limits_lemmas)

-- ---- names that have types

module _ (globals : Globals) (variables : List Variable) (mode : Mode) where
  abbrev HasNameType : Name → Type 0
  HasNameType n = IsSome (type_of_name globals variables n)

  form_typed : (x : NotedLayer) (t : CType) (n : Name) → HasType globals variables mode x t → variable_in_form x ≡ Some n → HasNameType n
  form_typed (Node-F.Name m) t n h e =
      let same : m ≡ n = cc in
      subst HasNameType same (subst (λ (o : Option CType). IsSome o) (sym h) refl)
  form_typed x t n h e = absurd cc

  name_typed : (e : NotedExpr) (n : Name) → WellTypedExpr globals variables mode e → variable_in e ≡ Some n → HasNameType n
  name_typed e n w is =
      let noted = every_here-Expr Name Note AnyLimits AnyNode (IsNoted globals variables mode) e w in
      form_typed (out-Node Name Note e.node) e.note.ctype n noted.row is

  moved_typed : (e : NotedExpr) (c : Option ℤ) (a : Amount) (n : Name) → WellTypedExpr globals variables mode e → moved (variable_in (bare_expr e)) c ≡ Some a
      → a.variable ≡ Some n → HasNameType n
  moved_typed e c a n w is v = name_typed e n w (sym (variable_bare e) ∙ sym (moved_is (variable_in (bare_expr e)) c a is) ∙ v)

  sum_typed : (structs : Structs) (o : TreeOp) (e f : NotedExpr) (a : Amount) (n : Name) → WellTypedExpr globals variables mode e → WellTypedExpr globals variables mode f
      → sum_amount structs o (bare_expr e) (bare_expr f) ≡ Some a → a.variable ≡ Some n → HasNameType n
  sum_typed structs op.Add e f a n w u is v = by (moved (variable_in (bare_expr e)) (number_in structs (bare_expr f))) refl is
    where
      by : (m : Option Amount) → moved (variable_in (bare_expr e)) (number_in structs (bare_expr f)) ≡ m
          → or_amount m (moved (variable_in (bare_expr f)) (number_in structs (bare_expr e))) ≡ Some a → HasNameType n
      by None g h = moved_typed f (number_in structs (bare_expr e)) a n u h v
      by (Some b) g h = moved_typed e (number_in structs (bare_expr f)) a n w (g ∙ h) v
  sum_typed structs op.Sub e f a n w u is v = moved_typed e (negative (number_in structs (bare_expr f))) a n w is v
  sum_typed structs o e f a n w u is v = absurd cc

  layer_typed : (structs : Structs) (x : NotedLayer) (e : NotedExpr) (a : Amount) (n : Name) → WellTypedExpr globals variables mode e → out-Node Name Note e.node ≡ x
      → amount_in_form structs (node_made x) ≡ Some a → a.variable ≡ Some n → HasNameType n
  layer_typed structs (Node-F.Name m) e a n w form is v = name_typed e n w (ap variable_in_form form ∙ sym (moved_is (Some m) (Some (pos 0)) a is) ∙ v)
  layer_typed structs (Node-F.Bin o f g) e a n w form is v =
      let parts = node_hold (IsNoted globals variables mode) (Node-F.Bin o f g)
      (subst (λ (m : NotedNode). WellTypedNode globals variables mode m) (sym (node_there e.node (Node-F.Bin o f g) form)) (inside (IsNoted globals variables mode) e w)) in
      sum_typed structs o f g a n parts.0 parts.1 is v
  layer_typed structs x e a n w form is v = absurd cc

  amount_typed : (structs : Structs) (e : NotedExpr) (a : Amount) (n : Name) → WellTypedExpr globals variables mode e → amount structs (bare_expr e) ≡ Some a
      → a.variable ≡ Some n → HasNameType n
  amount_typed structs e a n w is v = by (number_in structs (bare_expr e)) is
    where
      by : (o : Option ℤ) → amount_by structs (bare_expr e) o ≡ Some a → HasNameType n
      by (Some c) g = let same : record { variable = None; number = c } ≡ a = cc in let none : None ≡ a.variable = ap (λ (x : Amount). x.variable) same in absurd cc
      by None g = layer_typed structs (out-Node Name Note e.node) e a n w refl (sym (ap (amount_in_form structs) (layer_is e)) ∙ g) v

  bytes_typed : (structs : Structs) (size : ℕ) (e : NotedExpr) (a : Amount) (n : Name) → WellTypedExpr globals variables mode e
      → amount_of_bytes structs size (bare_expr e) ≡ Some a → a.variable ≡ Some n → HasNameType n
  bytes_typed structs size e a n w is v = by (size == 1) is
    where
      one : (c : ℤ) (b : Bool) → (if b then Some (fixed (int_div c (pos size))) else None) ≡ Some a → HasNameType n
      one c true h = let same : fixed (int_div c (pos size)) ≡ a = cc in let none : None ≡ a.variable = ap (λ (x : Amount). x.variable) same in absurd cc
      one c false h = absurd cc

      scale : (o : Option ℤ) → scaled size o ≡ Some a → HasNameType n
      scale None g = absurd cc
      scale (Some c) g = one c (is_multiple c size) g

      by : (b : Bool) → (if b then amount structs (bare_expr e) else scaled size (number_in structs (bare_expr e))) ≡ Some a → HasNameType n
      by true g = amount_typed structs e a n w g v
      by false g = scale (number_in structs (bare_expr e)) g

  -- the member that the bounds of a member name has a type
  pub bounds_typed : (structs : Structs) (t : CType) (l : Option NotedLimits) (k : ℕ) (c : ℤ) → IfSome l (WellTypedLimits globals variables mode)
      → bounds_of structs t (option_map bare_limits l) ≡ bounds.Named k c → HasNameType (name.Member k)
  bounds_typed structs t None k c w e = absurd cc
  bounds_typed structs t (Some l) k c w e =
      let size = size_of structs (element_of t) in
      by (out-Limits Name Note l) (parts l w) (sym (ap (bounds_by structs size) (limits_out l)) ∙ e)
    where
      parts : (l : NotedLimits) → WellTypedLimits globals variables mode l → LimitsParts (IsNoted globals variables mode) (out-Limits Name Note l)
      parts l w = limits_hold (IsNoted globals variables mode) (out-Limits Name Note l) (subst (λ (m : NotedLimits). WellTypedLimits globals variables mode m) (sym (limits_whole l)) w)

      by : (x : LimitsLayer) → LimitsParts (IsNoted globals variables mode) x → bounds_by structs (size_of structs (element_of t)) (limits_made x) ≡ bounds.Named k c → HasNameType (name.Member k)
      by (Limits-F.Count f at) p g = let a = counted_is (amount structs (bare_expr f)) k c g in amount_typed structs f a.0 (name.Member k) p a.1 a.2
      by (Limits-F.ByteCount f at) p g =
          let a = counted_is (amount_of_bytes structs (size_of structs (element_of t)) (bare_expr f)) k c g in
          bytes_typed structs (size_of structs (element_of t)) f a.0 (name.Member k) p a.1 a.2
      by (Limits-F.Between f h at) p g = absurd cc
      by (Limits-F.Unknown at) p g = absurd cc
