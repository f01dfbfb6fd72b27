-- Each error of the names has one of their codes: types and expressions.
use Rattle.std.proofs.Common.{◌≡◌, ◌∙◌, sym, ap, subst, List}
use Rattle.std.specs.Prelude.{Option, Some, None}
use Rattle.ckc_base.proofs.Codes
use Rattle.ckc_resolve.specs.Codes.{IsCode}
use Rattle.ckc_base.specs.declared.places.Pos.{Pos}
use Rattle.ckc_base.specs.Outcomes.{Outcome}
use Rattle.ckc_syntax.specs.declared.tree.TypeTree.{TypeTree-F, map-TypeTree, ind-TypeTree, roll-TypeTree, fold-roll-TypeTree}
use Rattle.ckc_syntax.specs.declared.tree.Limits.{Limits-F}
use Rattle.ckc_syntax.specs.declared.tree.Node.{Node-F}
use Rattle.ckc_syntax.proofs.Layers.{Steps, Property, LimitsLayer, NodeLayer, ExprLayer, limits_made, node_made, expr_made, each_limits, each_expr}
use Rattle.ckc_resolve.specs.declared.names.Names.{Names}
use Rattle.ckc_resolve.specs.declared.scopes.Scopes.{Scopes}
use Rattle.ckc_resolve.specs.Spellings.{Spelling}
use Rattle.ckc_resolve.specs.Trees.{TypeTree, Limits, Expr, NamedType}
use Rattle.ckc_resolve.specs.Types.{type_parts, type_named}
use Rattle.ckc_resolve.specs.Expressions.{OfLimits, OfNode, OfExpr, limits_parts, node_parts, expr_parts, limits_named, expr_named, exprs_named, bounds_named, maybe_named}
use Rattle.ckc_resolve.specs.Meanings.{tag_of, member_of, meaning_of}
use Rattle.ckc_resolve.proofs.Coded.{HasCode, there}

module _ (names : Names) where
  abbrev TypeCoded : TypeTree → Type 0
  TypeCoded t = HasCode (type_named names t)

  abbrev KeptType : Type 0
  KeptType = (t : TypeTree) × TypeCoded t

  abbrev inner_type : TypeTree-F Spelling KeptType → TypeTree-F Spelling TypeTree
  inner_type = map-TypeTree Spelling KeptType TypeTree (λ e. e.0)

  abbrev types_inside : TypeTree-F Spelling TypeTree → TypeTree-F Spelling (Outcome NamedType)
  types_inside = map-TypeTree Spelling TypeTree (Outcome NamedType) (type_named names)

  type_step : (y : TypeTree-F Spelling KeptType) → HasCode (type_parts names (types_inside (inner_type y)))
  type_step TypeTree-F.Int = tt
  type_step TypeTree-F.Unsigned = tt
  type_step TypeTree-F.Char = tt
  type_step TypeTree-F.Void = tt
  type_step (TypeTree-F.Struct s pos) = Codes.bound IsCode _ _ (there (tag_of names s) pos) (λ n. tt)
  type_step (TypeTree-F.Raw k pos) = Codes.bound IsCode _ _ k.1 (λ u. tt)
  type_step (TypeTree-F.One k) = Codes.bound IsCode _ _ k.1 (λ u. tt)
  type_step (TypeTree-F.Arr k) = Codes.bound IsCode _ _ k.1 (λ u. tt)
  type_step (TypeTree-F.Nt k) = Codes.bound IsCode _ _ k.1 (λ u. tt)

  type_by : (x : TypeTree-F Spelling TypeTree) (y : TypeTree-F Spelling KeptType) → inner_type y ≡ x → TypeCoded (roll-TypeTree Spelling x)
  type_by x y is =
      subst (λ (o : Outcome NamedType). HasCode o)
      (sym (fold-roll-TypeTree Spelling (Outcome NamedType) (type_parts names) x ∙ ap (λ z. type_parts names (types_inside z)) (sym is)))
      (type_step y)

  pub type_codes : (t : TypeTree) → HasCode (type_named names t)
  type_codes = ind-TypeTree Spelling TypeCoded type_by

  module _ (scopes : Scopes) where
    abbrev naming : Steps Spelling (Unit {0}) OfLimits OfNode OfExpr
    naming = record { limits = limits_parts; node = node_parts names scopes; expr = expr_parts }

    abbrev coded : Property Spelling (Unit {0}) OfLimits OfNode OfExpr
    coded = record { limits = λ l o. HasCode o; node = λ n o. (pos : Pos) → HasCode (o pos); expr = λ e o. HasCode o }

    limits_step : (y : LimitsLayer naming coded) → HasCode (limits_made naming coded y)
    limits_step (Limits-F.Count k pos) = Codes.bound IsCode _ _ k.1 (λ a. tt)
    limits_step (Limits-F.ByteCount k pos) = Codes.bound IsCode _ _ k.1 (λ a. tt)
    limits_step (Limits-F.Between k j pos) = Codes.bound IsCode _ _ k.1 (λ a. Codes.bound IsCode _ _ j.1 (λ b. tt))
    limits_step (Limits-F.Unknown pos) = tt

    node_step : (y : NodeLayer naming coded) (pos : Pos) → HasCode (node_made naming coded y pos)
    node_step (Node-F.Number n unsigned) pos = tt
    node_step (Node-F.Text bytes) pos = tt
    node_step Node-F.Null pos = tt
    node_step (Node-F.Name s) pos = Codes.bound IsCode _ _ (there (meaning_of names scopes s) pos) (λ n. tt)
    node_step (Node-F.Un op k) pos = Codes.bound IsCode _ _ k.1 (λ a. tt)
    node_step (Node-F.Bin op k j) pos = Codes.bound IsCode _ _ k.1 (λ a. Codes.bound IsCode _ _ j.1 (λ b. tt))
    node_step (Node-F.Pick k j i) pos = Codes.bound IsCode _ _ k.1 (λ a. Codes.bound IsCode _ _ j.1 (λ b. Codes.bound IsCode _ _ i.1 (λ c. tt)))
    node_step (Node-F.Index k j) pos = Codes.bound IsCode _ _ k.1 (λ a. Codes.bound IsCode _ _ j.1 (λ b. tt))
    node_step (Node-F.Dot k s at) pos = Codes.bound IsCode _ _ k.1 (λ a. Codes.bound IsCode _ _ (there (member_of names s) at) (λ m. tt))
    node_step (Node-F.Arrow k s at) pos = Codes.bound IsCode _ _ k.1 (λ a. Codes.bound IsCode _ _ (there (member_of names s) at) (λ m. tt))
    node_step (Node-F.Cast t k) pos = Codes.bound IsCode _ _ (type_codes t) (λ u. Codes.bound IsCode _ _ k.1 (λ a. tt))
    node_step (Node-F.Size t) pos = Codes.bound IsCode _ _ (type_codes t) (λ u. tt)
    node_step (Node-F.Trusted t k None) pos = Codes.bound IsCode _ _ (type_codes t) (λ u. Codes.bound IsCode _ _ k.1 (λ a. tt))
    node_step (Node-F.Trusted t k (Some l)) pos = Codes.bound IsCode _ _ (type_codes t) (λ u. Codes.bound IsCode _ _ k.1 (λ a. Codes.bound IsCode _ _ (Codes.bound IsCode _ _ l.1 (λ b. tt)) (λ b. tt)))
    node_step (Node-F.Tested t k None) pos = Codes.bound IsCode _ _ (type_codes t) (λ u. Codes.bound IsCode _ _ k.1 (λ a. tt))
    node_step (Node-F.Tested t k (Some l)) pos = Codes.bound IsCode _ _ (type_codes t) (λ u. Codes.bound IsCode _ _ k.1 (λ a. Codes.bound IsCode _ _ (Codes.bound IsCode _ _ l.1 (λ b. tt)) (λ b. tt)))
    node_step (Node-F.Call s ks) pos = Codes.bound IsCode _ _ (Codes.listed_parts IsCode (expr_named names scopes) ks) (λ args. Codes.bound IsCode _ _ (there (meaning_of names scopes s) pos) (λ n. tt))
    node_step (Node-F.Calloc t k u) pos = Codes.bound IsCode _ _ (type_codes t) (λ v. Codes.bound IsCode _ _ k.1 (λ a. Codes.bound IsCode _ _ (type_codes u) (λ w. tt)))

    expr_step : (y : ExprLayer naming coded) → HasCode (expr_made naming coded y)
    expr_step y = Codes.bound IsCode _ _ (y.node.1 y.pos) (λ n. tt)

    limits_codes : (l : Limits) → HasCode (limits_named names scopes l)
    limits_codes = each_limits naming coded limits_step node_step expr_step

    pub expr_codes : (e : Expr) → HasCode (expr_named names scopes e)
    expr_codes = each_expr naming coded limits_step node_step expr_step

    pub exprs_codes : (es : List Expr) → HasCode (exprs_named names scopes es)
    exprs_codes es = Codes.listed IsCode (expr_named names scopes) expr_codes es

    pub bounds_codes : (l : Option Limits) → HasCode (bounds_named names scopes l)
    bounds_codes None = tt
    bounds_codes (Some l) = Codes.bound IsCode _ _ (limits_codes l) (λ k. tt)

    pub maybe_codes : (e : Option Expr) → HasCode (maybe_named names scopes e)
    maybe_codes None = tt
    maybe_codes (Some e) = Codes.bound IsCode _ _ (expr_codes e) (λ a. tt)
