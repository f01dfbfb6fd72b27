-- What a head becomes does not depend on its places but for its own: naming it without them gives what it becomes without
-- them.
use Rattle.std.proofs.Common.{◌≡◌, sym, ap, refl, ◌∙◌, List, [], ◌∷◌, map, Bool, false}
use Rattle.std.specs.Prelude.{Ok, Option, Some, None, fold}
use Rattle.ckc_base.specs.declared.places.Pos.{Pos}
use Rattle.ckc_base.specs.Places.{start}
use Rattle.ckc_base.specs.Outcomes.{Outcome, bind, in_order}
use Rattle.ckc_syntax.specs.declared.tree.Name.{Name}
use Rattle.ckc_syntax.specs.declared.tree.Name.TheVariants as name
use Rattle.ckc_syntax.specs.declared.tree.TypeTree.{map-TypeTree, roll-TypeTree, fold-roll-TypeTree, TypeTree-F}
use Rattle.ckc_syntax.specs.declared.tree.TypeTree.TheVariants as ctype
use Rattle.ckc_syntax.specs.declared.tree.Limits.{Limits-F, map-Limits, roll-Limits, fold-roll-Limits}
use Rattle.ckc_syntax.specs.declared.tree.Limits.TheVariants as limits
use Rattle.ckc_syntax.specs.declared.tree.Node.{Node-F, map-Node, roll-Node, fold-roll-Node}
use Rattle.ckc_syntax.specs.declared.tree.Node.TheVariants as node
use Rattle.ckc_syntax.specs.declared.tree.Expr.{fold-roll-Expr}
use Rattle.ckc_syntax.specs.declared.tree.Init.TheVariants as init
use Rattle.ckc_syntax.specs.Placeless.{type_at_start, type_rolled, limits_at_start, node_at_start, limits_rolled, node_rolled, expr_rolled, placeless_type, placeless_limits, placeless_node, placeless_expr, placeless_bounds, placeless_init, placeless_length, placeless_decl, placeless_head}
use Rattle.ckc_resolve.specs.declared.names.Names.{Names}
use Rattle.ckc_resolve.specs.declared.scopes.Scopes.{Scopes}
use Rattle.ckc_resolve.specs.Spellings.{Spelling, number_of}
use Rattle.ckc_resolve.specs.Codes.{undeclared}
use Rattle.ckc_resolve.specs.Trees.{TypeTree, Limits, Node, Expr, Init, Decl, Head, NamedType, NamedLimits, NamedNode, NamedExpr, NamedInit, NamedDecl, NamedHead}
use Rattle.ckc_resolve.specs.Scoping.{no_scope, with_local, is_taken_here}
use Rattle.ckc_resolve.specs.Types.{type_parts, type_named}
use Rattle.ckc_resolve.specs.Expressions.{OfLimits, OfNode, OfExpr, limits_parts, node_parts, expr_parts, limits_named, node_named, expr_named, bounds_named}
use Rattle.ckc_resolve.specs.Declarations.{init_named, decl_named, unless_taken}
use Rattle.ckc_resolve.specs.Heads.{with_param, param_scope, params_named, head_named}
use Rattle.ckc_base.proofs.Outcomes.{is_there, after}
use Rattle.ckc_base.proofs.Gives.{Gives, given_from, bound}
use Rattle.ckc_typed_fit.proofs.NamedNodes as nodes
use Rattle.ckc_typed_fit.proofs.NamedNodes.{TypeOf, NamedTypeOf, TypeNamed, LimitsOf, NamedLimitsOf, NodeOf, NamedNodeOf, OfExprs, Each, Maybe, LimitsNamed, NodeNamed}
use Rattle.ckc_typed_fit.proofs.NamedItems as items
use Rattle.ckc_typed_fit.proofs.NamedItems.{DeclNamed, ParamsNamed, HeadNamed}

module _ (names : Names) where
  -- ---- types

  abbrev TypeKept : TypeTree → NamedType → Type 0
  TypeKept t u = type_named names (placeless_type t) ≡ Ok (placeless_type u)

  abbrev type_inside : TypeOf → TypeTree-F Spelling (Outcome NamedType)
  type_inside = map-TypeTree Spelling TypeTree (Outcome NamedType) (type_named names)

  abbrev type_plain : TypeOf → TypeOf
  type_plain = map-TypeTree Spelling TypeTree TypeTree placeless_type

  abbrev named_type_plain : NamedTypeOf → NamedTypeOf
  named_type_plain = map-TypeTree Name NamedType NamedType placeless_type

  type_step : (x : TypeOf) (d : NamedTypeOf) → TypeNamed names TypeKept x d → type_parts names (type_inside (type_at_start (type_plain x))) ≡ Ok (type_rolled (named_type_plain d))
  type_step x d nodes.int = ap Ok (sym ctype.rolls-Int)
  type_step x d nodes.unsigned = ap Ok (sym ctype.rolls-Unsigned)
  type_step x d nodes.char = ap Ok (sym ctype.rolls-Char)
  type_step x d nodes.void = ap Ok (sym ctype.rolls-Void)
  type_step x d (nodes.struct s n pos is) = after _ (is_there undeclared start _ _ is) ∙ ap Ok (sym (ctype.rolls-Struct n start))
  type_step x d (nodes.raw pos h) = after _ h ∙ ap Ok (sym (ctype.rolls-Raw _ start))
  type_step x d (nodes.one h) = after _ h ∙ ap Ok (sym (ctype.rolls-One _))
  type_step x d (nodes.arr h) = after _ h ∙ ap Ok (sym (ctype.rolls-Arr _))
  type_step x d (nodes.nt h) = after _ h ∙ ap Ok (sym (ctype.rolls-Nt _))

  types_closed : (x : TypeOf) (d : NamedTypeOf) → TypeNamed names TypeKept x d → TypeKept (roll-TypeTree Spelling x) (roll-TypeTree Name d)
  types_closed x d h =
      ap (λ (t : TypeTree). type_named names t) (fold-roll-TypeTree Spelling TypeTree type_rolled x)
      ∙ fold-roll-TypeTree Spelling (Outcome NamedType) (type_parts names) (type_at_start (type_plain x)) ∙ type_step x d h
      ∙ ap Ok (sym (fold-roll-TypeTree Name NamedType type_rolled d))

  type_kept : (t : TypeTree) (u : NamedType) → type_named names t ≡ Ok u → TypeKept t u
  type_kept t u is = given_from (TypeKept t) (type_named names t) u (nodes.type_holds names TypeKept types_closed t) is

  -- ---- expressions

  module _ (scopes : Scopes) where
    abbrev LimitsKept : Limits → NamedLimits → Type 0
    LimitsKept l k = limits_named names scopes (placeless_limits l) ≡ Ok (placeless_limits k)

    abbrev NodeKept : Node → NamedNode → Type 0
    NodeKept n m = (pos : Pos) → node_named names scopes (placeless_node n) pos ≡ Ok (placeless_node m)

    abbrev ExprKept : Expr → NamedExpr → Type 0
    ExprKept e a = expr_named names scopes (placeless_expr e) ≡ Ok (placeless_expr a)

    abbrev limits_inside : LimitsOf → Limits-F Spelling (Unit {0}) OfLimits OfNode OfExpr
    limits_inside = map-Limits Spelling (Unit {0}) Limits Node Expr OfLimits OfNode OfExpr (limits_named names scopes) (node_named names scopes) (expr_named names scopes)

    abbrev node_inside : NodeOf → Node-F Spelling (Unit {0}) OfLimits OfNode OfExpr
    node_inside = map-Node Spelling (Unit {0}) Limits Node Expr OfLimits OfNode OfExpr (limits_named names scopes) (node_named names scopes) (expr_named names scopes)

    abbrev limits_plain : LimitsOf → LimitsOf
    limits_plain = map-Limits Spelling (Unit {0}) Limits Node Expr Limits Node Expr placeless_limits placeless_node placeless_expr

    abbrev node_plain : NodeOf → NodeOf
    node_plain = map-Node Spelling (Unit {0}) Limits Node Expr Limits Node Expr placeless_limits placeless_node placeless_expr

    abbrev named_limits_plain : NamedLimitsOf → NamedLimitsOf
    named_limits_plain = map-Limits Name (Unit {0}) NamedLimits NamedNode NamedExpr NamedLimits NamedNode NamedExpr placeless_limits placeless_node placeless_expr

    abbrev named_node_plain : NamedNodeOf → NamedNodeOf
    named_node_plain = map-Node Name (Unit {0}) NamedLimits NamedNode NamedExpr NamedLimits NamedNode NamedExpr placeless_limits placeless_node placeless_expr

    expr_is : (e : Expr) (a : NamedExpr) → NodeKept e.node a.node → ExprKept e a
    expr_is e a h =
        ap (λ (z : Expr). expr_named names scopes z) (fold-roll-Expr Spelling (Unit {0}) Limits Node Expr limits_rolled node_rolled expr_rolled (record { node = e.node; pos = e.pos; note = tt }))
        ∙ fold-roll-Expr Spelling (Unit {0}) OfLimits OfNode OfExpr limits_parts (node_parts names scopes) expr_parts (record { node = placeless_node e.node; pos = start; note = tt })
        ∙ after _ (h start)
        ∙ ap Ok (sym (fold-roll-Expr Name (Unit {0}) NamedLimits NamedNode NamedExpr limits_rolled node_rolled expr_rolled (record { node = a.node; pos = a.pos; note = tt })))

    limits_step : (x : LimitsOf) (d : NamedLimitsOf) → LimitsNamed (OfExprs NodeKept) x d → limits_parts (limits_inside (limits_at_start (limits_plain x))) ≡ Ok (limits_rolled (named_limits_plain d))
    limits_step x d (nodes.count pos h) = after _ (expr_is _ _ h) ∙ ap Ok (sym (limits.rolls-Count _ start))
    limits_step x d (nodes.byte_count pos h) = after _ (expr_is _ _ h) ∙ ap Ok (sym (limits.rolls-ByteCount _ start))
    limits_step x d (nodes.between pos h i) = after _ (expr_is _ _ h) ∙ after _ (expr_is _ _ i) ∙ ap Ok (sym (limits.rolls-Between _ _ start))
    limits_step x d (nodes.unknown pos) = ap Ok (sym (limits.rolls-Unknown start))

    limits_closed : (x : LimitsOf) (d : NamedLimitsOf) → LimitsNamed (OfExprs NodeKept) x d → LimitsKept (roll-Limits Spelling (Unit {0}) x) (roll-Limits Name (Unit {0}) d)
    limits_closed x d h =
        ap (λ (z : Limits). limits_named names scopes z) (fold-roll-Limits Spelling (Unit {0}) Limits Node Expr limits_rolled node_rolled expr_rolled x)
        ∙ fold-roll-Limits Spelling (Unit {0}) OfLimits OfNode OfExpr limits_parts (node_parts names scopes) expr_parts (limits_at_start (limits_plain x)) ∙ limits_step x d h
        ∙ ap Ok (sym (fold-roll-Limits Name (Unit {0}) NamedLimits NamedNode NamedExpr limits_rolled node_rolled expr_rolled d))

    args_kept : (es : List Expr) (bs : List NamedExpr) → Each (OfExprs NodeKept) es bs → in_order (map (expr_named names scopes) (map placeless_expr es)) ≡ Ok (map placeless_expr bs)
    args_kept es bs nodes.none = refl
    args_kept es bs (nodes.more h hs) = after _ (expr_is _ _ h) ∙ after _ (args_kept _ _ hs)

    node_step : (x : NodeOf) (d : NamedNodeOf) → NodeNamed names scopes LimitsKept (OfExprs NodeKept) x d → (pos : Pos) → node_parts names scopes (node_inside (node_at_start (node_plain x))) pos ≡ Ok (node_rolled (named_node_plain d))
    node_step x d (nodes.number n unsigned) pos = ap Ok (sym (node.rolls-Number n unsigned))
    node_step x d (nodes.text bytes) pos = ap Ok (sym (node.rolls-Text bytes))
    node_step x d nodes.null pos = ap Ok (sym node.rolls-Null)
    node_step x d (nodes.name s n is) pos = after _ (is_there undeclared pos _ _ is) ∙ ap Ok (sym (node.rolls-Name n))
    node_step x d (nodes.un op h) pos = after _ (expr_is _ _ h) ∙ ap Ok (sym (node.rolls-Un op _))
    node_step x d (nodes.bin op h i) pos = after _ (expr_is _ _ h) ∙ after _ (expr_is _ _ i) ∙ ap Ok (sym (node.rolls-Bin op _ _))
    node_step x d (nodes.pick h g f) pos = after _ (expr_is _ _ h) ∙ after _ (expr_is _ _ g) ∙ after _ (expr_is _ _ f) ∙ ap Ok (sym (node.rolls-Pick _ _ _))
    node_step x d (nodes.index h i) pos = after _ (expr_is _ _ h) ∙ after _ (expr_is _ _ i) ∙ ap Ok (sym (node.rolls-Index _ _))
    node_step x d (nodes.dot s n at h is) pos = after _ (expr_is _ _ h) ∙ after _ (is_there undeclared start _ _ is) ∙ ap Ok (sym (node.rolls-Dot _ n start))
    node_step x d (nodes.arrow s n at h is) pos = after _ (expr_is _ _ h) ∙ after _ (is_there undeclared start _ _ is) ∙ ap Ok (sym (node.rolls-Arrow _ n start))
    node_step x d (nodes.cast t u is h) pos = after _ (type_kept t u is) ∙ after _ (expr_is _ _ h) ∙ ap Ok (sym (node.rolls-Cast _ _))
    node_step x d (nodes.size t u is) pos = after _ (type_kept t u is) ∙ ap Ok (sym (node.rolls-Size _))
    node_step x d (nodes.trusted t u is h nodes.nothing) pos = after _ (type_kept t u is) ∙ after _ (expr_is _ _ h) ∙ ap Ok (sym (node.rolls-Trusted _ _ None))
    node_step x d (nodes.trusted t u is h (nodes.just i)) pos = after _ (type_kept t u is) ∙ after _ (expr_is _ _ h) ∙ after _ (after _ i) ∙ ap Ok (sym (node.rolls-Trusted _ _ (Some _)))
    node_step x d (nodes.tested t u is h nodes.nothing) pos = after _ (type_kept t u is) ∙ after _ (expr_is _ _ h) ∙ ap Ok (sym (node.rolls-Tested _ _ None))
    node_step x d (nodes.tested t u is h (nodes.just i)) pos = after _ (type_kept t u is) ∙ after _ (expr_is _ _ h) ∙ after _ (after _ i) ∙ ap Ok (sym (node.rolls-Tested _ _ (Some _)))
    node_step x d (nodes.call s n hs is) pos = after _ (args_kept _ _ hs) ∙ after _ (is_there undeclared pos _ _ is) ∙ ap Ok (sym (node.rolls-Call n _))
    node_step x d (nodes.calloc t u v w is h js) pos = after _ (type_kept t v is) ∙ after _ (expr_is _ _ h) ∙ after _ (type_kept u w js) ∙ ap Ok (sym (node.rolls-Calloc _ _ _))

    nodes_closed : (x : NodeOf) (d : NamedNodeOf) → NodeNamed names scopes LimitsKept (OfExprs NodeKept) x d → NodeKept (roll-Node Spelling (Unit {0}) x) (roll-Node Name (Unit {0}) d)
    nodes_closed x d h pos =
        ap (λ (z : Node). node_named names scopes z pos) (fold-roll-Node Spelling (Unit {0}) Limits Node Expr limits_rolled node_rolled expr_rolled x)
        ∙ ap (λ f. f pos) (fold-roll-Node Spelling (Unit {0}) OfLimits OfNode OfExpr limits_parts (node_parts names scopes) expr_parts (node_at_start (node_plain x))) ∙ node_step x d h pos
        ∙ ap Ok (sym (fold-roll-Node Name (Unit {0}) NamedLimits NamedNode NamedExpr limits_rolled node_rolled expr_rolled d))

    bounds_is : (l : Option Limits) (k : Option NamedLimits) → Maybe LimitsKept l k → bounds_named names scopes (placeless_bounds l) ≡ Ok (placeless_bounds k)
    bounds_is l k nodes.nothing = refl
    bounds_is l k (nodes.just h) = after _ h

    bounds_kept : (l : Option Limits) (k : Option NamedLimits) → bounds_named names scopes l ≡ Ok k → bounds_named names scopes (placeless_bounds l) ≡ Ok (placeless_bounds k)
    bounds_kept l k is = bounds_is l k (given_from (Maybe LimitsKept l) (bounds_named names scopes l) k (nodes.bounds_hold names scopes LimitsKept NodeKept limits_closed nodes_closed l) is)

    abbrev InitKept : Init → NamedInit → Type 0
    InitKept i j = init_named names scopes (placeless_init i) ≡ Ok (placeless_init j)

    init_is : (i : Init) → Gives (InitKept i) (init_named names scopes i)
    init_is init.Nothing = refl
    init_is (init.One e) = bound (OfExprs NodeKept e) (InitKept (init.One e)) _ _ (nodes.expr_holds names scopes LimitsKept NodeKept limits_closed nodes_closed e) (λ a h. after _ (expr_is e a h))
    init_is (init.Many es) =
        bound {A = List NamedExpr} (Each (OfExprs NodeKept) es) (InitKept (init.Many es)) _ _ (nodes.exprs_hold names scopes LimitsKept NodeKept limits_closed nodes_closed es) (λ bs hs. after _ (args_kept es bs hs))

  -- ---- declarations and heads

  decl_kept : (within outside : Scopes) (n : Name) (d : Decl) (e : NamedDecl) → DeclNamed names within outside n d e → decl_named names within outside n (placeless_decl d) ≡ Ok (placeless_decl e)
  decl_kept within outside n d e h =
      after _ (type_kept d.ctype e.ctype h.ctype) ∙ after _ (bounds_kept within d.bounds e.bounds h.bounds)
      ∙ after _ (given_from (InitKept outside d.init) (init_named names outside d.init) e.init (init_is outside d.init) h.init)
      ∙ ap (λ m. Ok (record (placeless_decl e) { name = m; length = placeless_length d.length })) (sym h.named)
      ∙ ap (λ l. Ok (record (placeless_decl e) { length = placeless_length l })) (sym h.length)

  -- a declaration that is not taken
  kept_new : {S : Type 0} (taken : Bool) (pos : Pos) (p : NamedDecl × S) → taken ≡ false → unless_taken taken pos p ≡ Ok p
  kept_new taken pos p new = ap (λ b. unless_taken b pos p) new

  params_kept : (all before : Scopes) (ds : List Decl) (es : List NamedDecl) (behind : Scopes) → ParamsNamed names all before ds es behind
      → params_named names all (map placeless_decl ds) before ≡ Ok (map placeless_decl es, behind)
  params_kept all before ds es behind items.no_params = refl
  params_kept all before ds es behind (items.param {d = d} {e = e} h new hs) =
      after _ (after _ (decl_kept all all (name.Local before.next) d e h) ∙ kept_new (is_taken_here before d.name) start (placeless_decl e, with_local before d.name) new)
      ∙ after _ (params_kept all (with_local before d.name) _ _ _ hs)

  scope_kept : (ds : List Decl) (before : Scopes) → fold with_param before (map placeless_decl ds) ≡ fold with_param before ds
  scope_kept [] before = refl
  scope_kept (d ∷ ds) before = scope_kept ds (with_local before d.name)

  -- a head, if its bounds see such a scope
  abbrev head_in : Head → Scopes → Outcome (NamedHead × Scopes)
  head_in h s =
      bind (type_named names h.result) (λ t. bind (params_named names s h.params no_scope) (λ p. bind (bounds_named names s h.bounds) (λ b.
      Ok (record { mode = h.mode; result = t; name = name.Function (number_of names.functions h.name); params = p.0; bounds = b; pos = h.pos }, p.1))))

  head_kept : (h : Head) (g : NamedHead) (behind : Scopes) → HeadNamed names h g behind → head_named names (placeless_head h) ≡ Ok (placeless_head g, behind)
  head_kept h g behind is =
      ap (λ (s : Scopes). head_in (placeless_head h) s) (scope_kept h.params no_scope)
      ∙ after _ (type_kept h.result g.result is.result) ∙ after _ (params_kept (param_scope h.params) no_scope h.params g.params behind is.params)
      ∙ after _ (bounds_kept (param_scope h.params) h.bounds g.bounds is.bounds)
      ∙ ap (λ m. Ok (record (placeless_head g) { mode = h.mode; name = m }, behind)) (sym is.named)
      ∙ ap (λ m. Ok (record (placeless_head g) { mode = m }, behind)) (sym is.mode)

  -- heads that are the same but for their places become heads that are
  pub heads_alike : (h k : Head) (g i : NamedHead) (s u : Scopes) → HeadNamed names h g s → HeadNamed names k i u → placeless_head h ≡ placeless_head k → placeless_head g ≡ placeless_head i
  heads_alike h k g i s u p q same = first (placeless_head g, s) (placeless_head i, u) (sym (head_kept h g s p) ∙ ap (λ (z : Head). head_named names z) same ∙ head_kept k i u q)
    where
      first : (a b : NamedHead × Scopes) → ◌≡◌ {A = Outcome (NamedHead × Scopes)} (Ok a) (Ok b) → a.0 ≡ b.0
      first a b e = let whole : a ≡ b = cc in ap (λ (z : NamedHead × Scopes). z.0) whole
