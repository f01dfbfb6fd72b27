-- Sizes and amounts are the same by structures without the bounds of their members, and in trees without notes.
use Rattle.std.proofs.Common.{◌≡◌, ◌∙◌, sym, ap, subst, refl, ℕ, ◌+◌, zero, suc, ℤ, List, [], ◌∷◌, ◌++◌, map, length}
use Rattle.std.specs.Prelude.{Bool, true, ◌&&◌, if◌then◌else◌, nat_lt, nat_le, max, pos, Option, Some, None, is_some, slice_get}
use Rattle.std.specs.Int.{next_multiple_of}
use Rattle.std.specs.List.{list_all}
use Rattle.std.specs.Option.{option_map}
use Rattle.std.proofs.lemmas.List.{length-map, map-append}
use Rattle.std.proofs.lemmas.Option.{slice_get-map}
use Rattle.ckc_types.specs.declared.types.CType.{CType, CType-F, out-CType}
use Rattle.ckc_types.specs.declared.types.MemberBounds.TheVariants as bounds
use Rattle.ckc_types.specs.declared.types.MemberShape.{MemberShape}
use Rattle.ckc_types.specs.declared.types.StructShape.{StructShape}
use Rattle.ckc_types.specs.declared.types.Structs.{Structs}
use Rattle.ckc_types.specs.Scalars.{scalar_size, scalar_align}
use Rattle.ckc_types.specs.Layout.{members_in, members_of, start, end_of, struct_align, struct_size, size_by_form}
use Rattle.ckc_syntax.specs.declared.tree.Name.{Name}
use Rattle.ckc_syntax.specs.declared.tree.Name.TheVariants as name
use Rattle.ckc_syntax.specs.declared.tree.TreeOp.{TreeOp}
use Rattle.ckc_syntax.specs.declared.tree.TreeOp.TheVariants as op
use Rattle.ckc_syntax.specs.declared.tree.Limits.{fold-Limits}
use Rattle.ckc_syntax.specs.declared.tree.Node.{Node-F, map-Node, out-Node, roll-Node, fold-roll-Node}
use Rattle.ckc_syntax.specs.declared.tree.Expr.{Expr-F, map-Expr, ind-Expr, roll-Expr, fold-roll-Expr}
use Rattle.ckc_typed.specs.declared.environment.Constant.{Constant}
use Rattle.ckc_typed.specs.declared.typed.Note.{Note}
use Rattle.ckc_typed.specs.Trees.{Decl, Expr, Item, Limits, Node, NotedLimits, NotedNode, NotedExpr, NotedLayer}
use Rattle.ckc_typed.specs.Types.{is_scalar, type_written}
use Rattle.ckc_typed.specs.Constants.{is_laid_out_form, size_of, negated, limits_constant, node_constant, expr_constant, constant, constant_of_node}
use Rattle.ckc_typed.specs.Amounts.{variable_in, number_of, number_in, negative, moved, or_amount, sum_amount, amount_in_form, amount_by, amount}
use Rattle.ckc_typed.specs.Layouts.{bare_member, bare_structs, bounded_member, members_declared, shape_of, shapes_below, structs_of, tag_count}
use Rattle.ckc_typed_welltyped.specs.Noteless.{BareLimits, BareNode, BareExpr, limits_bared, node_bared, expr_bared, bare_node, bare_expr}
use Rattle.ckc_blame_steps.specs.ckc_blame_sound.proofs.Amounts.{node_made, layer_is, variable_bare}

-- ---- sizes

-- a member without its bounds
abbrev without : MemberShape → MemberShape
without m = record m { bounds = bounds.Nothing }

abbrev bare_shape : StructShape → StructShape
bare_shape s = record { members = map without s.members }

ends_same : (at : ℕ) (ms : List MemberShape) → end_of at (map without ms) ≡ end_of at ms
ends_same at [] = refl
ends_same at (m ∷ ms) = ends_same (start at m + scalar_size m.ctype) ms

aligns_same : (ms : List MemberShape) → struct_align (map without ms) ≡ struct_align ms
aligns_same [] = refl
aligns_same (m ∷ ms) = ap (max (scalar_align m.ctype)) (aligns_same ms)

scalars_same : (ms : List MemberShape) → list_all (λ (m : MemberShape). is_scalar m.ctype) (map without ms) ≡ list_all (λ (m : MemberShape). is_scalar m.ctype) ms
scalars_same [] = refl
scalars_same (m ∷ ms) = ap (λ b. is_scalar m.ctype && b) (scalars_same ms)

struct_same : (ms : List MemberShape) → struct_size (map without ms) ≡ struct_size ms
struct_same ms = ap (λ e. next_multiple_of e (struct_align (map without ms))) (ends_same 0 ms) ∙ ap (next_multiple_of (end_of 0 ms)) (aligns_same ms)

members_bare : (o : Option StructShape) → members_in (option_map bare_shape o) ≡ map without (members_in o)
members_bare None = refl
members_bare (Some s) = refl

some_kept : (o : Option StructShape) → is_some (option_map bare_shape o) ≡ is_some o
some_kept None = refl
some_kept (Some s) = refl

decls_bare : (structs : Structs) (ds : List Decl) → map without (map (bounded_member structs) ds) ≡ map bare_member ds
decls_bare structs [] = refl
decls_bare structs (d ∷ ds) = ap (λ ms. bare_member d ∷ ms) (decls_bare structs ds)

module _ (js : List Item) where
  abbrev less : Structs
  less = bare_structs js

  abbrev more : Structs
  more = structs_of js

  abbrev bare_at : ℕ → StructShape
  bare_at = shape_of bare_member js

  abbrev bounded_at : ℕ → StructShape
  bounded_at = shape_of (bounded_member less) js

  shape_same : (k : ℕ) → bare_at k ≡ bare_shape (bounded_at k)
  shape_same k = ap (λ (ms : List MemberShape). record { members = ms }) (sym (decls_bare less (members_declared js (name.Tag k))))

  shapes_same : (n : ℕ) → shapes_below bare_at n ≡ map bare_shape (shapes_below bounded_at n)
  shapes_same zero = refl
  shapes_same (suc n) =
      ap (λ xs. xs ++ bare_at n ∷ []) (shapes_same n) ∙ ap (λ s. map bare_shape (shapes_below bounded_at n) ++ s ∷ []) (shape_same n)
      ∙ sym (map-append bare_shape (shapes_below bounded_at n) (bounded_at n ∷ []))

  shape_there : (k : ℕ) → slice_get less.shapes k ≡ option_map bare_shape (slice_get more.shapes k)
  shape_there k = ap (λ xs. slice_get xs k) (shapes_same (tag_count js)) ∙ slice_get-map bare_shape (shapes_below bounded_at (tag_count js)) k

  members_same : (k : ℕ) → members_of less k ≡ map without (members_of more k)
  members_same k = ap members_in (shape_there k) ∙ members_bare (slice_get more.shapes k)

  -- a structure of so many members, if they are scalars
  abbrev is_laid : Bool → ℕ → Bool → Bool
  is_laid there n scalars = there && (nat_lt 0 n && (nat_le n 16384 && scalars))

  abbrev all_scalars : List MemberShape → Bool
  all_scalars ms = list_all (λ (m : MemberShape). is_scalar m.ctype) ms

  form_laid : (f : CType-F CType) → is_laid_out_form less f ≡ is_laid_out_form more f
  form_laid (CType-F.Struct k) =
      ap (λ b. is_laid b (length (members_of less k)) (all_scalars (members_of less k))) (ap (λ (o : Option StructShape). is_some o) (shape_there k) ∙ some_kept (slice_get more.shapes k))
      ∙ ap (λ n. is_laid (is_some (slice_get more.shapes k)) n (all_scalars (members_of less k))) (ap (λ ms. length ms) (members_same k) ∙ length-map (members_of more k) without)
      ∙ ap (λ b. is_laid (is_some (slice_get more.shapes k)) (length (members_of more k)) b) (ap all_scalars (members_same k) ∙ scalars_same (members_of more k))
  form_laid CType-F.Int = refl
  form_laid CType-F.Unsigned = refl
  form_laid CType-F.Char = refl
  form_laid CType-F.Void = refl
  form_laid (CType-F.Pointer k t) = refl

  form_sized : (f : CType-F CType) → size_by_form less f ≡ size_by_form more f
  form_sized (CType-F.Struct k) = ap struct_size (members_same k) ∙ struct_same (members_of more k)
  form_sized CType-F.Int = refl
  form_sized CType-F.Unsigned = refl
  form_sized CType-F.Char = refl
  form_sized CType-F.Void = refl
  form_sized (CType-F.Pointer k t) = refl

  -- the size of a type is the same by both
  pub sizes_same : (t : CType) → size_of less t ≡ size_of more t
  sizes_same t = by (out-CType t)
    where
      by : (f : CType-F CType) → (if is_laid_out_form less f then size_by_form less f else 0) ≡ (if is_laid_out_form more f then size_by_form more f else 0)
      by f = ap (λ b. if b then size_by_form less f else 0) (form_laid f) ∙ ap (λ n. if is_laid_out_form more f then n else 0) (form_sized f)

-- ---- constants

module _ (bare structs : Structs) (sizes : (t : CType) → size_of bare t ≡ size_of structs t) where
  abbrev NodeSame : NotedNode → Type 0
  NodeSame n = constant_of_node bare (bare_node n) ≡ constant_of_node structs n

  abbrev ExprSame : NotedExpr → Type 0
  ExprSame e = constant bare (bare_expr e) ≡ constant structs e

  abbrev AnyBounds : NotedLimits → Type 0
  AnyBounds l = Unit {0}

  abbrev KeptLimits : Type 0
  KeptLimits = (l : NotedLimits) × AnyBounds l

  abbrev KeptNode : Type 0
  KeptNode = (n : NotedNode) × NodeSame n

  abbrev KeptExpr : Type 0
  KeptExpr = (e : NotedExpr) × ExprSame e

  abbrev inner_node : Node-F Name Note KeptLimits KeptNode KeptExpr → NotedLayer
  inner_node = map-Node Name Note KeptLimits KeptNode KeptExpr NotedLimits NotedNode NotedExpr (λ e. e.0) (λ e. e.0) (λ e. e.0)

  abbrev inner_expr : Expr-F Name Note KeptLimits KeptNode KeptExpr → Expr-F Name Note NotedLimits NotedNode NotedExpr
  inner_expr = map-Expr Name Note KeptLimits KeptNode KeptExpr NotedLimits NotedNode NotedExpr (λ e. e.0) (λ e. e.0) (λ e. e.0)

  abbrev limits_found : NotedLimits → Unit {0}
  limits_found = fold-Limits Name Note (Unit {0}) (Option Constant) (Option Constant) limits_constant (node_constant structs) expr_constant

  abbrev bare_limits_found : Limits → Unit {0}
  bare_limits_found = fold-Limits Name (Unit {0}) (Unit {0}) (Option Constant) (Option Constant) limits_constant (node_constant bare) expr_constant

  abbrev inside : NotedLayer → Node-F Name Note (Unit {0}) (Option Constant) (Option Constant)
  inside = map-Node Name Note NotedLimits NotedNode NotedExpr (Unit {0}) (Option Constant) (Option Constant) limits_found (constant_of_node structs) (constant structs)

  abbrev bare_inside : Node-F Name (Unit {0}) Limits Node Expr → Node-F Name (Unit {0}) (Unit {0}) (Option Constant) (Option Constant)
  bare_inside = map-Node Name (Unit {0}) Limits Node Expr (Unit {0}) (Option Constant) (Option Constant) bare_limits_found (constant_of_node bare) (constant bare)

  node_step : (y : Node-F Name Note KeptLimits KeptNode KeptExpr) → node_constant bare (bare_inside (node_made (inner_node y))) ≡ node_constant structs (inside (inner_node y))
  node_step (Node-F.Un o k) = ap (negated o) k.1
  node_step (Node-F.Size t) = ap (λ n. Some (record { word = n; unsigned = true })) (sizes (type_written t))
  node_step y = refl

  node_by : (x : NotedLayer) (y : Node-F Name Note KeptLimits KeptNode KeptExpr) → inner_node y ≡ x → NodeSame (roll-Node Name Note x)
  node_by x y is =
      ap (λ (n : Node). constant_of_node bare n) (fold-roll-Node Name Note (BareLimits Name) (BareNode Name) (BareExpr Name) limits_bared node_bared expr_bared x)
      ∙ fold-roll-Node Name (Unit {0}) (Unit {0}) (Option Constant) (Option Constant) limits_constant (node_constant bare) expr_constant (node_made x)
      ∙ subst (λ z. node_constant bare (bare_inside (node_made z)) ≡ node_constant structs (inside z)) is (node_step y)
      ∙ sym (fold-roll-Node Name Note (Unit {0}) (Option Constant) (Option Constant) limits_constant (node_constant structs) expr_constant x)

  expr_is : (e : NotedExpr) → NodeSame e.node → ExprSame e
  expr_is e same =
      ap (λ (x : Expr). constant bare x)
      (fold-roll-Expr Name Note (BareLimits Name) (BareNode Name) (BareExpr Name) limits_bared node_bared expr_bared (record { node = e.node; pos = e.pos; note = e.note }))
      ∙ fold-roll-Expr Name (Unit {0}) (Unit {0}) (Option Constant) (Option Constant) limits_constant (node_constant bare) expr_constant
      (record { node = bare_node e.node; pos = e.pos; note = tt })
      ∙ same
      ∙ sym (fold-roll-Expr Name Note (Unit {0}) (Option Constant) (Option Constant) limits_constant (node_constant structs) expr_constant
      (record { node = e.node; pos = e.pos; note = e.note }))

  expr_by : (x : Expr-F Name Note NotedLimits NotedNode NotedExpr) (y : Expr-F Name Note KeptLimits KeptNode KeptExpr) → inner_expr y ≡ x → ExprSame (roll-Expr Name Note x)
  expr_by x y is = subst (λ z. ExprSame (roll-Expr Name Note z)) is (expr_is (roll-Expr Name Note (inner_expr y)) y.node.1)

  constant_same : (e : NotedExpr) → ExprSame e
  constant_same = ind-Expr Name Note AnyBounds NodeSame ExprSame (λ x y is. tt) node_by expr_by

  pub number_same : (e : NotedExpr) → number_in bare (bare_expr e) ≡ number_in structs e
  number_same e = ap (λ (o : Option Constant). number_of o) (constant_same e)

  -- ---- amounts

  moved_same : (e : NotedExpr) (c d : Option ℤ) → c ≡ d → moved (variable_in (bare_expr e)) c ≡ moved (variable_in e) d
  moved_same e c d h = ap (λ v. moved v c) (variable_bare e) ∙ ap (moved (variable_in e)) h

  sum_same : (o : TreeOp) (e f : NotedExpr) → sum_amount bare o (bare_expr e) (bare_expr f) ≡ sum_amount structs o e f
  sum_same op.Add e f =
      ap (λ a. or_amount a (moved (variable_in (bare_expr f)) (number_in bare (bare_expr e)))) (moved_same e _ _ (number_same f))
      ∙ ap (or_amount (moved (variable_in e) (number_in structs f))) (moved_same f _ _ (number_same e))
  sum_same op.Sub e f = moved_same e _ _ (ap negative (number_same f))
  sum_same o e f = refl

  form_same : (x : NotedLayer) → amount_in_form bare (node_made x) ≡ amount_in_form structs x
  form_same (Node-F.Name n) = refl
  form_same (Node-F.Bin o e f) = sum_same o e f
  form_same x = refl

  -- the amount of an expression without notes is that of the expression
  pub amount_same : (e : NotedExpr) → amount bare (bare_expr e) ≡ amount structs e
  amount_same e = ap (amount_by bare (bare_expr e)) (number_same e) ∙ by (number_in structs e)
    where
      by : (o : Option ℤ) → amount_by bare (bare_expr e) o ≡ amount_by structs e o
      by (Some c) = refl
      by None = ap (amount_in_form bare) (layer_is e) ∙ form_same (out-Node Name Note e.node)
