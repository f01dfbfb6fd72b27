-- What expressions and bounds become is well typed, and without its notes it is what it was made of.
use Rattle.std.proofs.Common.{◌≡◌, Bool, true, List, [], ◌∷◌, map, refl, sym, ap, subst, ◌∙◌}
use Rattle.std.specs.Prelude.{Option, Some, None, Ok, not, ◌||◌}
use Rattle.std.specs.Option.{option_map}
use Rattle.ckc_base.specs.declared.places.Pos.{Pos}
use Rattle.ckc_base.specs.declared.arithmetic.Mode.{Mode}
use Rattle.ckc_base.specs.Outcomes.{Outcome, unless, there_or, in_order, if_there}
use Rattle.ckc_types.specs.declared.types.CType.{CType}
use Rattle.ckc_types.specs.declared.types.CType.TheVariants as ctype
use Rattle.ckc_types.specs.declared.types.Kind.TheVariants as kind
use Rattle.ckc_syntax.specs.declared.tree.Name.{Name}
use Rattle.ckc_syntax.specs.declared.tree.Limits.{Limits-F, roll-Limits}
use Rattle.ckc_syntax.specs.declared.tree.Node.{Node-F, out-Node, roll-Node}
use Rattle.ckc_syntax.specs.declared.tree.Node.TheVariants as node
use Rattle.ckc_syntax.specs.declared.tree.Expr.{roll-Expr}
use Rattle.ckc_syntax.proofs.Layers as kept
use Rattle.ckc_syntax.proofs.Layers.{Steps, Property, inner_limits, inner_node, inner_expr, limits_made, node_made, expr_made, each_limits, each_expr}
use Rattle.ckc_typed.specs.declared.environment.Globals.{Globals}
use Rattle.ckc_typed.specs.declared.environment.Variable.{Variable}
use Rattle.ckc_typed.specs.declared.typed.Note.{Note}
use Rattle.ckc_typed.specs.Codes.{bad_operands, bad_conversion}
use Rattle.ckc_typed.specs.Trees.{Limits, Node, Expr, NotedLimits, NotedExpr, NotedLayer}
use Rattle.ckc_typed.specs.Types.{type_written, is_void}
use Rattle.ckc_typed.specs.Conversions.{is_null, is_tested, is_trusted, is_bounds_cast}
use Rattle.ckc_typed.specs.Environment.{type_of_name}
use Rattle.ckc_typed.specs.Operands.{binary_type, choice_type, index_type, dot_type, arrow_type, size_type}
use Rattle.ckc_typed.specs.Expressions.{OfLimits, OfNode, OfExpr, noted, number_type, string_type, unary_typed, binary_typed, choice_typed, index_typed, dot_typed, arrow_typed, cast_typed, allocation_typed, tested_typed, trusted_typed, call_typed, limits_parts, node_parts, expr_parts, limits_typed, expr_typed}
use Rattle.ckc_typed_welltyped.specs.Noteless.{bare_limits, bare_node, bare_expr}
use Rattle.ckc_typed_welltyped.specs.Expressions.{HasType, IsCall, WellTypedExpr, WellTypedLimits}
use Rattle.ckc_typed_welltyped.proofs.Bares.{bared_limits, bared_node, bare_limits_is, bare_node_is, bare_expr_is}
use Rattle.ckc_base.proofs.Outcomes.{ok_same, made_of, was_there}
use Rattle.ckc_typed_welltyped.proofs.Rows.{row_is, unary_is, two_rules, cast_is, allocation_is, call_is}
use Rattle.ckc_typed_welltyped.proofs.Nodes.{limits_of, limits_rolled, node_of, node_rolled, node_out, FitLimits, FitNode, FitExpr, bare_limits_layer, bare_node_layer, limits_fit, node_fits, expr_fits}

module _ (globals : Globals) (variables : List Variable) (mode : Mode) where
  abbrev GivesLimits : NotedLimits → Limits → Type 0
  GivesLimits k l = (bare_limits k ≡ l) × WellTypedLimits globals variables mode k

  abbrev GivesNode : NotedExpr → Node → Pos → Type 0
  GivesNode a n at = (bare_node a.node ≡ n) × (a.pos ≡ at) × WellTypedExpr globals variables mode a

  abbrev GivesExpr : NotedExpr → Expr → Type 0
  GivesExpr a e = (bare_expr a ≡ e) × WellTypedExpr globals variables mode a

  abbrev typing : Steps Name (Unit {0}) OfLimits OfNode OfExpr
  typing = record { limits = limits_parts; node = node_parts globals variables mode; expr = expr_parts }

  abbrev gives : Property Name (Unit {0}) OfLimits OfNode OfExpr
  gives = record {
    limits = λ l o. (k : NotedLimits) → o ≡ Ok k → GivesLimits k l;
    node = λ n o. (at : Pos) (a : NotedExpr) → o at ≡ Ok a → GivesNode a n at;
    expr = λ e o. (a : NotedExpr) → o ≡ Ok a → GivesExpr a e;
  }

  abbrev KeptLimits : Type 0
  KeptLimits = kept.KeptLimits typing gives

  abbrev KeptExpr : Type 0
  KeptExpr = kept.KeptExpr typing gives

  abbrev FitL : Type 0
  FitL = FitLimits globals variables mode

  abbrev FitE : Type 0
  FitE = FitExpr globals variables mode

  abbrev NodeFits : Type 0
  NodeFits = Node-F Name Note FitL (FitNode globals variables mode) FitE

  abbrev layer_of : NodeFits → NotedLayer
  layer_of = bare_node_layer globals variables mode

  -- what bounds and nodes become is made of well typed parts
  record MadeLimits (x : Limits-F Name (Unit {0}) Limits Node Expr) (k : NotedLimits) : Type 0 where
    layer : Limits-F Name Note FitL (FitNode globals variables mode) FitE
    bare : bared_limits Name Note (bare_limits_layer globals variables mode layer) ≡ x
    same : k ≡ limits_of (bare_limits_layer globals variables mode layer)

  record Made (x : Node-F Name (Unit {0}) Limits Node Expr) (at : Pos) (a : NotedExpr) : Type 0 where
    layer : NodeFits
    bare : bared_node Name Note (layer_of layer) ≡ x
    ctype : CType
    row : HasType globals variables mode (layer_of layer) ctype
    same : a ≡ noted mode at (node_of (layer_of layer)) ctype

  limits_given : (x : Limits-F Name (Unit {0}) Limits Node Expr) (k : NotedLimits) → MadeLimits x k → GivesLimits k (roll-Limits Name (Unit {0}) x)
  limits_given x k m =
      let d = bare_limits_layer globals variables mode m.layer in (
        ap bare_limits (m.same ∙ sym (limits_rolled d)) ∙ bare_limits_is Name Note d ∙ ap (roll-Limits Name (Unit {0})) m.bare,
        subst (WellTypedLimits globals variables mode) (sym m.same) (limits_fit globals variables mode m.layer),
      )

  node_given : (x : Node-F Name (Unit {0}) Limits Node Expr) (at : Pos) (a : NotedExpr) → Made x at a → GivesNode a (roll-Node Name (Unit {0}) x) at
  node_given x at a m =
      let d = layer_of m.layer in (
        ap (λ (b : NotedExpr). bare_node b.node) m.same ∙ ap bare_node (sym (node_rolled d)) ∙ bare_node_is Name Note d ∙ ap (roll-Node Name (Unit {0})) m.bare,
        ap (λ (b : NotedExpr). b.pos) m.same,
        subst (WellTypedExpr globals variables mode) (sym m.same)
            (expr_fits globals variables mode (node_of d) at m.ctype (node_fits globals variables mode m.layer)
            (subst (λ n. HasType globals variables mode n m.ctype) (sym (ap (out-Node Name Note) (sym (node_rolled d)) ∙ node_out d)) m.row)),
      )

  limits_step : (y : kept.LimitsLayer typing gives) (k : NotedLimits) → limits_made typing gives y ≡ Ok k → MadeLimits (inner_limits typing gives y) k
  limits_step (Limits-F.Count j at) k h =
      let a = made_of (expr_typed globals variables mode j.0) _ k h in let g = j.1 a.0 a.1 in
      record { layer = Limits-F.Count (a.0, g.1) at; bare = ap (λ e. Limits-F.Count e at) g.0; same = sym (ok_same _ k a.2) }
  limits_step (Limits-F.ByteCount j at) k h =
      let a = made_of (expr_typed globals variables mode j.0) _ k h in let g = j.1 a.0 a.1 in
      record { layer = Limits-F.ByteCount (a.0, g.1) at; bare = ap (λ e. Limits-F.ByteCount e at) g.0; same = sym (ok_same _ k a.2) }
  limits_step (Limits-F.Between i j at) k h =
      let a = made_of (expr_typed globals variables mode i.0) _ k h in let g = i.1 a.0 a.1 in
      let b = made_of (expr_typed globals variables mode j.0) _ k a.2 in let f = j.1 b.0 b.1 in
      record { layer = Limits-F.Between (a.0, g.1) (b.0, f.1) at; bare = ap (λ e. Limits-F.Between e (bare_expr b.0) at) g.0 ∙ ap (λ e. Limits-F.Between i.0 e at) f.0; same = sym (ok_same _ k b.2) }
  limits_step (Limits-F.Unknown at) k h = record { layer = Limits-F.Unknown at; bare = refl; same = sym (ok_same _ k h) }

  -- the arguments of a call
  record MadeAll (es : List Expr) (bs : List NotedExpr) : Type 0 where
    all : List FitE
    same : bs ≡ map (λ (e : FitE). e.0) all
    bare : map bare_expr (map (λ (e : FitE). e.0) all) ≡ es

  all_made : (ks : List KeptExpr) (bs : List NotedExpr) → in_order (map (expr_typed globals variables mode) (map (λ (k : KeptExpr). k.0) ks)) ≡ Ok bs → MadeAll (map (λ (k : KeptExpr). k.0) ks) bs
  all_made [] bs h = record { all = []; same = sym (ok_same _ bs h); bare = refl }
  all_made (k ∷ ks) bs h =
      let a = made_of (expr_typed globals variables mode k.0) _ bs h in let g = k.1 a.0 a.1 in
      let b = made_of (in_order (map (expr_typed globals variables mode) (map (λ (k : KeptExpr). k.0) ks))) _ bs a.2 in let m = all_made ks b.0 b.1 in
      record {
        all = (a.0, g.1) ∷ m.all;
        same = sym (ok_same _ bs b.2) ∙ ap (λ es. a.0 ∷ es) m.same;
        bare = ap (λ e. e ∷ map bare_expr (map (λ (e : FitE). e.0) m.all)) g.0 ∙ ap (λ es. k.0 ∷ es) m.bare;
      }

  abbrev there_of : Option KeptLimits → Outcome (Option NotedLimits)
  there_of l = if_there (option_map (limits_typed globals variables mode) (option_map (λ (k : KeptLimits). k.0) l))

  -- what the bounds of a cast become, and the rule that its type keeps with them
  record MadeBounds (l : KeptLimits) (b : Option NotedLimits) : Type 0 where
    fit : FitL
    bare : bare_limits fit.0 ≡ l.0
    same : b ≡ Some fit.0

  bounds_made : (l : KeptLimits) (b : Option NotedLimits) → there_of (Some l) ≡ Ok b → MadeBounds l b
  bounds_made l b h =
      let c = made_of (limits_typed globals variables mode l.0) (λ x. Ok (Some x)) b h in let f = l.1 c.0 c.1 in
      record { fit = (c.0, f.1); bare = f.0; same = sym (ok_same _ b c.2) }

  cast_row : (t u : CType) (b d : Option NotedLimits) (holds : Bool) (at : Pos) → b ≡ d
      → unless (not (is_bounds_cast t b)) bad_operands at (unless (not holds) bad_conversion at (Ok t)) ≡ Ok u → (is_bounds_cast t d ≡ true) × (holds ≡ true) × (u ≡ t)
  cast_row t u b d holds at e h = let p = (two_rules (is_bounds_cast t b) holds at t u).0 h in (subst (λ x. is_bounds_cast t x ≡ true) e p.0, p.1, p.2)

  node_step : (y : kept.NodeLayer typing gives) (at : Pos) (r : NotedExpr) → node_made typing gives y at ≡ Ok r → Made (inner_node typing gives y) at r
  node_step (Node-F.Number n u) at r h = record { layer = Node-F.Number n u; bare = refl; ctype = number_type u; row = refl; same = sym (ok_same _ r h) }
  node_step (Node-F.Text s) at r h = record { layer = Node-F.Text s; bare = refl; ctype = string_type mode; row = refl; same = sym (ok_same _ r h) }
  node_step Node-F.Null at r h = record { layer = Node-F.Null; bare = refl; ctype = ctype.Pointer kind.One ctype.Void; row = refl; same = sym (ok_same _ r h) }
  node_step (Node-F.Name n) at r h =
      let t = made_of (there_or bad_operands at (type_of_name globals variables n)) _ r h in
      record { layer = Node-F.Name n; bare = refl; ctype = t.0; row = was_there bad_operands at (type_of_name globals variables n) t.0 t.1; same = sym (ok_same _ r t.2) }
  node_step (Node-F.Un o k) at r h =
      let a = made_of (expr_typed globals variables mode k.0) _ r h in let g = k.1 a.0 a.1 in
      let t = made_of (unary_typed globals mode o a.0 at) _ r a.2 in
      record { layer = Node-F.Un o (a.0, g.1); bare = ap (λ e. Node-F.Un o e) g.0; ctype = t.0; row = (unary_is globals mode a.0 at o t.0).0 t.1; same = sym (ok_same _ r t.2) }
  node_step (Node-F.Bin o k j) at r h =
      let a = made_of (expr_typed globals variables mode k.0) _ r h in let g = k.1 a.0 a.1 in
      let b = made_of (expr_typed globals variables mode j.0) _ r a.2 in let f = j.1 b.0 b.1 in
      let t = made_of (binary_typed o a.0 b.0 at) _ r b.2 in
      record {
        layer = Node-F.Bin o (a.0, g.1) (b.0, f.1);
        bare = ap (λ e. Node-F.Bin o e (bare_expr b.0)) g.0 ∙ ap (λ e. Node-F.Bin o k.0 e) f.0;
        ctype = t.0;
        row = (row_is (is_void a.0.note.ctype || is_void b.0.note.ctype) at (binary_type o a.0.note.ctype (is_null a.0) b.0.note.ctype (is_null b.0)) t.0).0 t.1;
        same = sym (ok_same _ r t.2);
      }
  node_step (Node-F.Pick k j i) at r h =
      let a = made_of (expr_typed globals variables mode k.0) _ r h in let g = k.1 a.0 a.1 in
      let b = made_of (expr_typed globals variables mode j.0) _ r a.2 in let f = j.1 b.0 b.1 in
      let c = made_of (expr_typed globals variables mode i.0) _ r b.2 in let e = i.1 c.0 c.1 in
      let t = made_of (choice_typed a.0 b.0 c.0 at) _ r c.2 in
      record {
        layer = Node-F.Pick (a.0, g.1) (b.0, f.1) (c.0, e.1);
        bare = ap (λ x. Node-F.Pick x (bare_expr b.0) (bare_expr c.0)) g.0 ∙ ap (λ x. Node-F.Pick k.0 x (bare_expr c.0)) f.0 ∙ ap (λ x. Node-F.Pick k.0 j.0 x) e.0;
        ctype = t.0;
        row = (row_is (is_void a.0.note.ctype || (is_void b.0.note.ctype || is_void c.0.note.ctype)) at (choice_type a.0.note.ctype b.0.note.ctype c.0.note.ctype) t.0).0 t.1;
        same = sym (ok_same _ r t.2);
      }
  node_step (Node-F.Index k j) at r h =
      let a = made_of (expr_typed globals variables mode k.0) _ r h in let g = k.1 a.0 a.1 in
      let b = made_of (expr_typed globals variables mode j.0) _ r a.2 in let f = j.1 b.0 b.1 in
      let t = made_of (index_typed a.0 b.0 at) _ r b.2 in
      record {
        layer = Node-F.Index (a.0, g.1) (b.0, f.1);
        bare = ap (λ e. Node-F.Index e (bare_expr b.0)) g.0 ∙ ap (λ e. Node-F.Index k.0 e) f.0;
        ctype = t.0;
        row = (row_is (is_void a.0.note.ctype || is_void b.0.note.ctype) at (index_type a.0.note.ctype b.0.note.ctype) t.0).0 t.1;
        same = sym (ok_same _ r t.2);
      }
  node_step (Node-F.Dot k n place) at r h =
      let a = made_of (expr_typed globals variables mode k.0) _ r h in let g = k.1 a.0 a.1 in
      let t = made_of (dot_typed globals a.0 n at) _ r a.2 in
      record { layer = Node-F.Dot (a.0, g.1) n place; bare = ap (λ e. Node-F.Dot e n place) g.0; ctype = t.0; row = (row_is (is_void a.0.note.ctype) at (dot_type globals.structs a.0.note.ctype n) t.0).0 t.1; same = sym (ok_same _ r t.2) }
  node_step (Node-F.Arrow k n place) at r h =
      let a = made_of (expr_typed globals variables mode k.0) _ r h in let g = k.1 a.0 a.1 in
      let t = made_of (arrow_typed globals a.0 n at) _ r a.2 in
      record { layer = Node-F.Arrow (a.0, g.1) n place; bare = ap (λ e. Node-F.Arrow e n place) g.0; ctype = t.0; row = (row_is (is_void a.0.note.ctype) at (arrow_type globals.structs a.0.note.ctype n) t.0).0 t.1; same = sym (ok_same _ r t.2) }
  node_step (Node-F.Cast w k) at r h =
      let a = made_of (expr_typed globals variables mode k.0) _ r h in let g = k.1 a.0 a.1 in
      let t = made_of (cast_typed (type_written w) a.0 at) _ r a.2 in
      record { layer = Node-F.Cast w (a.0, g.1); bare = ap (λ e. Node-F.Cast w e) g.0; ctype = t.0; row = (cast_is (type_written w) a.0 at t.0).0 t.1; same = sym (ok_same _ r t.2) }
  node_step (Node-F.Size w) at r h =
      let t = made_of (there_or bad_operands at (size_type (type_written w))) _ r h in
      record { layer = Node-F.Size w; bare = refl; ctype = t.0; row = was_there bad_operands at (size_type (type_written w)) t.0 t.1; same = sym (ok_same _ r t.2) }
  node_step (Node-F.Trusted w k None) at r h =
      let a = made_of (expr_typed globals variables mode k.0) _ r h in let g = k.1 a.0 a.1 in
      let t = made_of (trusted_typed (type_written w) a.0 None at) _ r a.2 in
      record { layer = Node-F.Trusted w (a.0, g.1) None; bare = ap (λ e. Node-F.Trusted w e None) g.0; ctype = t.0; row = cast_row (type_written w) t.0 None None (is_trusted (type_written w) a.0) at refl t.1; same = sym (ok_same _ r t.2) }
  node_step (Node-F.Tested w k None) at r h =
      let a = made_of (expr_typed globals variables mode k.0) _ r h in let g = k.1 a.0 a.1 in
      let t = made_of (tested_typed (type_written w) a.0 None at) _ r a.2 in
      record { layer = Node-F.Tested w (a.0, g.1) None; bare = ap (λ e. Node-F.Tested w e None) g.0; ctype = t.0; row = cast_row (type_written w) t.0 None None (is_tested (type_written w) a.0) at refl t.1; same = sym (ok_same _ r t.2) }
  node_step (Node-F.Trusted w k (Some l)) at r h =
      let a = made_of (expr_typed globals variables mode k.0) _ r h in let g = k.1 a.0 a.1 in
      let b = made_of (there_of (Some l)) _ r a.2 in let m = bounds_made l b.0 b.1 in
      let t = made_of (trusted_typed (type_written w) a.0 b.0 at) _ r b.2 in
      record {
        layer = Node-F.Trusted w (a.0, g.1) (Some m.fit);
        bare = ap (λ e. Node-F.Trusted w e (Some (bare_limits m.fit.0))) g.0 ∙ ap (λ x. Node-F.Trusted w k.0 (Some x)) m.bare;
        ctype = t.0;
        row = cast_row (type_written w) t.0 b.0 (Some m.fit.0) (is_trusted (type_written w) a.0) at m.same t.1;
        same = sym (ok_same _ r t.2) ∙ ap (λ x. noted mode at (node.Trusted w a.0 x) t.0) m.same;
      }
  node_step (Node-F.Tested w k (Some l)) at r h =
      let a = made_of (expr_typed globals variables mode k.0) _ r h in let g = k.1 a.0 a.1 in
      let b = made_of (there_of (Some l)) _ r a.2 in let m = bounds_made l b.0 b.1 in
      let t = made_of (tested_typed (type_written w) a.0 b.0 at) _ r b.2 in
      record {
        layer = Node-F.Tested w (a.0, g.1) (Some m.fit);
        bare = ap (λ e. Node-F.Tested w e (Some (bare_limits m.fit.0))) g.0 ∙ ap (λ x. Node-F.Tested w k.0 (Some x)) m.bare;
        ctype = t.0;
        row = cast_row (type_written w) t.0 b.0 (Some m.fit.0) (is_tested (type_written w) a.0) at m.same t.1;
        same = sym (ok_same _ r t.2) ∙ ap (λ x. noted mode at (node.Tested w a.0 x) t.0) m.same;
      }
  node_step (Node-F.Call n ks) at r h =
      let a = made_of (in_order (map (expr_typed globals variables mode) (map (λ (k : KeptExpr). k.0) ks))) _ r h in let m = all_made ks a.0 a.1 in
      let t = made_of (call_typed globals mode n a.0 at) _ r a.2 in
      record {
        layer = Node-F.Call n m.all;
        bare = ap (λ es. Node-F.Call n es) m.bare;
        ctype = t.0;
        row = subst (λ es. IsCall globals mode n es t.0) m.same ((call_is globals mode n a.0 at t.0).0 t.1);
        same = sym (ok_same _ r t.2) ∙ ap (λ es. noted mode at (node.Call n es) t.0) m.same;
      }
  node_step (Node-F.Calloc w k x) at r h =
      let a = made_of (expr_typed globals variables mode k.0) _ r h in let g = k.1 a.0 a.1 in
      let t = made_of (allocation_typed (type_written w) a.0 (type_written x) at) _ r a.2 in
      record { layer = Node-F.Calloc w (a.0, g.1) x; bare = ap (λ e. Node-F.Calloc w e x) g.0; ctype = t.0; row = (allocation_is (type_written w) a.0 (type_written x) at t.0).0 t.1; same = sym (ok_same _ r t.2) }

  abbrev placed_expr : Node → Pos → Expr
  placed_expr n at = record { node = n; pos = at; note = tt }

  expr_step : (y : kept.ExprLayer typing gives) (r : NotedExpr) → expr_made typing gives y ≡ Ok r → GivesExpr r (roll-Expr Name (Unit {0}) (inner_expr typing gives y))
  expr_step y r h =
      let g = y.node.1 y.pos r h in
      (bare_expr_is Name Note r ∙ ap (λ n. placed_expr n r.pos) g.0 ∙ ap (λ p. placed_expr y.node.0 p) g.1, g.2)

  limits_given_by : (y : kept.LimitsLayer typing gives) (k : NotedLimits) → limits_made typing gives y ≡ Ok k → GivesLimits k (roll-Limits Name (Unit {0}) (inner_limits typing gives y))
  limits_given_by y k h = limits_given (inner_limits typing gives y) k (limits_step y k h)

  node_given_by : (y : kept.NodeLayer typing gives) (at : Pos) (r : NotedExpr) → node_made typing gives y at ≡ Ok r → GivesNode r (roll-Node Name (Unit {0}) (inner_node typing gives y)) at
  node_given_by y at r h = node_given (inner_node typing gives y) at r (node_step y at r h)

  pub limits_give : (l : Limits) (k : NotedLimits) → limits_typed globals variables mode l ≡ Ok k → (bare_limits k ≡ l) × WellTypedLimits globals variables mode k
  limits_give = each_limits typing gives limits_given_by node_given_by expr_step

  pub expr_gives : (e : Expr) (a : NotedExpr) → expr_typed globals variables mode e ≡ Ok a → (bare_expr a ≡ e) × WellTypedExpr globals variables mode a
  expr_gives = each_expr typing gives limits_given_by node_given_by expr_step
