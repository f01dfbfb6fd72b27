-- Expressions and statements in which nothing is at fault in checked scopes are safe.
use Rattle.std.proofs.Common.{◌≡◌, ◌∙◌, sym, ap, subst, refl, Bool, true, false, List, [], ◌∷◌, ◌++◌, map}
use Rattle.std.specs.Prelude.{All, Option, Some, None}
use Rattle.std.proofs.lemmas.List.Elements.{All-nil, All-cons, All-head, All-tail, All-append, All-contains}
use Rattle.ckc_base.specs.declared.places.Pos.{Pos}
use Rattle.ckc_base.specs.declared.arithmetic.Mode.{Mode}
use Rattle.ckc_base.specs.declared.arithmetic.Mode.TheVariants.{Checked}
use Rattle.ckc_types.specs.declared.types.CType.{CType}
use Rattle.ckc_syntax.specs.Inside.{listed, inside_if, inside_each, inside_init, inside_limits}
use Rattle.ckc_syntax.specs.declared.tree.Name.{Name}
use Rattle.ckc_syntax.specs.declared.tree.Item.{Item}
use Rattle.ckc_syntax.specs.declared.tree.Init.TheVariants as init
use Rattle.ckc_syntax.specs.declared.tree.Limits.{Limits-F, map-Limits, out-Limits, fold_out-Limits}
use Rattle.ckc_syntax.specs.declared.tree.Node.{Node-F, map-Node, out-Node, fold_out-Node}
use Rattle.ckc_syntax.specs.declared.tree.Expr.{fold-roll-Expr}
use Rattle.ckc_syntax.specs.declared.tree.Act.{Act-F, map-Act, roll-Act, fold-Act, fold-roll-Act}
use Rattle.ckc_syntax.specs.declared.tree.Stmt.{Stmt-F, map-Stmt, ind-Stmt, roll-Stmt, fold-roll-Stmt}
use Rattle.ckc_typed.specs.declared.typed.Note.{Note}
use Rattle.ckc_typed.specs.Raw.{has_raw, raws_of_decl}
use Rattle.ckc_typed.specs.Scoped.{fault_at, fault_in, fault_where}
use Rattle.ckc_typed.specs.Trees.{NotedLimits, NotedNode, NotedExpr, NotedLayer, NotedInit, NotedDecl, NotedAct, NotedStmt}
use Rattle.ckc_typed.specs.Walk.{Matter, assumed, value, Spot, spot, Within, within, node_spots, expr_spots, written_at, spots_of_limits, spots_of_expr, spots_of_bounds, spots_of_value, spots_of_init, spots_of_decl, act_spots, stmt_spots, spots_of_act, spots_of_stmt}
use Rattle.ckc_blame_sound.specs.Words.{exprs_of_act, exprs_of_stmt, exprs_in}
use Rattle.ckc_blame_sound.specs.Safe.{is_assumed, IsSafePart, IsSafe, HasOnlySafe}
use Rattle.ckc_blame_sound.proofs.Every.{LimitsLayer}
use Rattle.ckc_blame_steps.proofs.Down.{layer, AllDown, DownLimits, Down, each_down}

-- ---- lists

pub left_of : {X : Type 0} (P : X → Type 0) (xs ys : List X) → All P (xs ++ ys) → All P xs
left_of P [] ys h = All-nil P
left_of P (x ∷ xs) ys h = All-cons P x xs (All-head P x (xs ++ ys) h) (left_of P xs ys (All-tail P x (xs ++ ys) h))

pub right_of : {X : Type 0} (P : X → Type 0) (xs ys : List X) → All P (xs ++ ys) → All P ys
right_of P [] ys h = h
right_of P (x ∷ xs) ys h = right_of P xs ys (All-tail P x (xs ++ ys) h)

abbrev limits_spots : Limits-F Name Note (List Spot) Within (List Spot) → List Spot
limits_spots = inside_limits listed (λ (e : List Spot). e)

module _ (items : List (Item Name Note)) where
  -- nothing of these is at fault
  abbrev pub IsFineSpot : Spot → Type 0
  IsFineSpot s = fault_at items s ≡ None

  abbrev pub Fine : List Spot → Type 0
  Fine spots = All IsFineSpot spots

  -- ---- expressions

  no_raw : (mode : Mode) (t : CType) → fault_in mode (fault_where (has_raw t)) ≡ None → mode ≡ Checked → has_raw t ≡ false
  no_raw mode t fine is = by (has_raw t) refl (sym (ap (λ m. fault_in m (fault_where (has_raw t))) is) ∙ fine)
    where
      by : (b : Bool) → has_raw t ≡ b → fault_where (has_raw t) ≡ None → has_raw t ≡ false
      by true e f = absurd (some (sym (ap fault_where e) ∙ f))
        where
          some : fault_where true ≡ None → ⊥
          some h = cc
      by false e f = e

  abbrev node_inside : NotedLayer → Node-F Name Note (List Spot) Within (List Spot)
  node_inside = map-Node Name Note NotedLimits NotedNode NotedExpr (List Spot) Within (List Spot) spots_of_limits within spots_of_expr

  abbrev limits_inside : LimitsLayer → Limits-F Name Note (List Spot) Within (List Spot)
  limits_inside = map-Limits Name Note NotedLimits NotedNode NotedExpr (List Spot) Within (List Spot) spots_of_limits within spots_of_expr

  -- what is judged of a node itself, in a scope
  abbrev Owns : Mode → Pos → List Matter → Type 0
  Owns mode at own = Fine (map (spot mode at) own)

  assumed_faults : (mode : Mode) (at : Pos) → IsFineSpot (spot mode at assumed) → mode ≡ Checked → ⊥
  assumed_faults mode at fine is = some (sym (ap (λ m. fault_at items (spot m at assumed)) is) ∙ fine)
    where
      some : fault_at items (spot Checked at assumed) ≡ None → ⊥
      some h = cc

  layer_safe : (x : NotedLayer) (mode : Mode) (at : Pos) → Owns mode at (node_spots (node_inside x)).own → mode ≡ Checked → is_assumed x ≡ false
  layer_safe (Node-F.Trusted w e None) mode at h is = absurd (assumed_faults mode at (All-head IsFineSpot (spot mode at assumed) [] h) is)
  layer_safe (Node-F.Trusted w e (Some l)) mode at h is = absurd (assumed_faults mode at (All-head IsFineSpot (spot mode at assumed) [] h) is)
  layer_safe x mode at h is = refl

  within_is : (n : NotedNode) → within n ≡ node_spots (node_inside (out-Node Name Note n))
  within_is n = fold_out-Node Name Note (List Spot) Within (List Spot) limits_spots node_spots expr_spots n

  node_safe : (n : NotedNode) (mode : Mode) (at : Pos) → Owns mode at (within n).own → mode ≡ Checked → is_assumed (out-Node Name Note n) ≡ false
  node_safe n mode at h = layer_safe (out-Node Name Note n) mode at (subst (λ (w : Within). Owns mode at w.own) (within_is n) h)

  abbrev ExprFine : NotedExpr → Type 0
  ExprFine e = Fine (spots_of_expr e)

  abbrev LimitsFine : NotedLimits → Type 0
  LimitsFine l = Fine (spots_of_limits l)

  args_down : (es : List NotedExpr) → Fine (inside_each listed (λ (l : List Spot). l) (map spots_of_expr es)) → AllDown ExprFine es
  args_down [] h = tt
  args_down (e ∷ es) h = (left_of IsFineSpot (spots_of_expr e) _ h, args_down es (right_of IsFineSpot (spots_of_expr e) _ h))

  limits_down : (x : LimitsLayer) → Fine (limits_spots (limits_inside x)) → DownLimits ExprFine x
  limits_down (Limits-F.Count e at) h = h
  limits_down (Limits-F.ByteCount e at) h = h
  limits_down (Limits-F.Between e f at) h = (left_of IsFineSpot (spots_of_expr e) _ h, right_of IsFineSpot (spots_of_expr e) _ h)
  limits_down (Limits-F.Unknown at) h = tt

  node_down : (x : NotedLayer) → Fine (node_spots (node_inside x)).parts → Down ExprFine LimitsFine x
  node_down (Node-F.Number n u) h = tt
  node_down (Node-F.Text bytes) h = tt
  node_down Node-F.Null h = tt
  node_down (Node-F.Name n) h = tt
  node_down (Node-F.Un o e) h = h
  node_down (Node-F.Bin o e f) h = (left_of IsFineSpot (spots_of_expr e) _ h, right_of IsFineSpot (spots_of_expr e) _ h)
  node_down (Node-F.Pick e f g) h =
      let both = left_of IsFineSpot (spots_of_expr e ++ spots_of_expr f) _ h in
      (left_of IsFineSpot (spots_of_expr e) _ both, right_of IsFineSpot (spots_of_expr e) _ both, right_of IsFineSpot (spots_of_expr e ++ spots_of_expr f) _ h)
  node_down (Node-F.Index e f) h = (left_of IsFineSpot (spots_of_expr e) _ h, right_of IsFineSpot (spots_of_expr e) _ h)
  node_down (Node-F.Dot e n at) h = h
  node_down (Node-F.Arrow e n at) h = h
  node_down (Node-F.Cast w e) h = h
  node_down (Node-F.Size w) h = tt
  node_down (Node-F.Trusted w e None) h = (left_of IsFineSpot (spots_of_expr e) [] h, tt)
  node_down (Node-F.Trusted w e (Some l)) h = (left_of IsFineSpot (spots_of_expr e) _ h, right_of IsFineSpot (spots_of_expr e) _ h)
  node_down (Node-F.Tested w e None) h = (left_of IsFineSpot (spots_of_expr e) [] h, tt)
  node_down (Node-F.Tested w e (Some l)) h = (left_of IsFineSpot (spots_of_expr e) _ h, right_of IsFineSpot (spots_of_expr e) _ h)
  node_down (Node-F.Call n es) h = args_down es h
  node_down (Node-F.Calloc w e u) h = h

  -- what is judged of an expression: of its parts, and of itself
  spots_are : (e : NotedExpr) → spots_of_expr e ≡ (within e.node).parts ++ map (spot e.note.mode e.pos) (value e.note.ctype ∷ (within e.node).own)
  spots_are e = fold-roll-Expr Name Note (List Spot) Within (List Spot) limits_spots node_spots expr_spots (record { node = e.node; pos = e.pos; note = e.note })

  safe_here : (e : NotedExpr) → ExprFine e → IsSafePart (layer e)
  safe_here e h is =
      let own = right_of IsFineSpot (within e.node).parts (map (spot e.note.mode e.pos) (value e.note.ctype ∷ (within e.node).own)) (subst Fine (spots_are e) h) in (
        no_raw e.note.mode e.note.ctype (All-head IsFineSpot (spot e.note.mode e.pos (value e.note.ctype)) _ own) is,
        node_safe e.node e.note.mode e.pos (All-tail IsFineSpot (spot e.note.mode e.pos (value e.note.ctype)) _ own) is,
      )

  pub expr_safe : (e : NotedExpr) → Fine (spots_of_expr e) → IsSafe e
  expr_safe =
      each_down ExprFine LimitsFine IsSafePart safe_here
      (λ e h. node_down (out-Node Name Note e.node) (subst (λ (w : Within). Fine w.parts) (within_is e.node) (left_of IsFineSpot (within e.node).parts _ (subst Fine (spots_are e) h))))
      (λ l h. limits_down (out-Limits Name Note l) (subst Fine (fold_out-Limits Name Note (List Spot) Within (List Spot) limits_spots node_spots expr_spots l) h))

  -- ---- statements

  abbrev AllSafe : List NotedExpr → Type 0
  AllSafe es = All IsSafe es

  just : (e : NotedExpr) → Fine (spots_of_expr e) → AllSafe (e ∷ [])
  just e h = All-cons IsSafe e [] (expr_safe e h) (All-nil IsSafe)

  joined : (es fs : List NotedExpr) → AllSafe es → AllSafe fs → AllSafe (es ++ fs)
  joined es fs h k = All-append IsSafe es fs h k

  abbrev alone : NotedExpr → List NotedExpr
  alone e = e ∷ []

  exprs_safe : (es : List NotedExpr) → Fine (inside_each listed spots_of_expr es) → AllSafe (inside_each listed alone es)
  exprs_safe [] h = All-nil IsSafe
  exprs_safe (e ∷ es) h =
      joined (alone e) (inside_each listed alone es) (just e (left_of IsFineSpot (spots_of_expr e) _ h)) (exprs_safe es (right_of IsFineSpot (spots_of_expr e) _ h))

  init_safe : (i : NotedInit) → Fine (spots_of_init i) → AllSafe (inside_init listed alone i)
  init_safe init.Nothing h = All-nil IsSafe
  init_safe (init.One e) h = just e h
  init_safe (init.Many es) h = exprs_safe es h

  value_safe : (o : Option NotedExpr) → Fine (spots_of_value o) → AllSafe (inside_if listed alone o)
  value_safe None h = All-nil IsSafe
  value_safe (Some e) h = just e h

  decl_safe : (mode : Mode) (d : NotedDecl) → Fine (spots_of_decl mode d) → AllSafe (inside_init listed alone d.init)
  decl_safe mode d h =
      init_safe d.init (right_of IsFineSpot (spots_of_bounds d.bounds) _ (right_of IsFineSpot (written_at mode (raws_of_decl d)) _ h))

  abbrev ActLayer : Type 0
  ActLayer = Act-F Name Note NotedAct NotedStmt

  abbrev exprs_in_act : NotedAct → List NotedExpr
  exprs_in_act = fold-Act Name Note (List NotedExpr) (List NotedExpr) exprs_of_act exprs_of_stmt

  record ActFollows (a : NotedAct) : Type 0 where
    pub follow : (mode : Mode) → Fine (spots_of_act a mode) → AllSafe (exprs_in_act a)

  record StmtFollows (s : NotedStmt) : Type 0 where
    pub follow : Fine (spots_of_stmt s) → AllSafe (exprs_in s)

  abbrev KeptAct : Type 0
  KeptAct = (a : NotedAct) × ActFollows a

  abbrev KeptStmt : Type 0
  KeptStmt = (s : NotedStmt) × StmtFollows s

  abbrev inner_act : Act-F Name Note KeptAct KeptStmt → ActLayer
  inner_act = map-Act Name Note KeptAct KeptStmt NotedAct NotedStmt (λ e. e.0) (λ e. e.0)

  abbrev inner_stmt : Stmt-F Name Note KeptAct KeptStmt → Stmt-F Name Note NotedAct NotedStmt
  inner_stmt = map-Stmt Name Note KeptAct KeptStmt NotedAct NotedStmt (λ e. e.0) (λ e. e.0)

  abbrev act_inside : ActLayer → Act-F Name Note (Mode → List Spot) (List Spot)
  act_inside = map-Act Name Note NotedAct NotedStmt (Mode → List Spot) (List Spot) spots_of_act spots_of_stmt

  abbrev act_exprs : ActLayer → Act-F Name Note (List NotedExpr) (List NotedExpr)
  act_exprs = map-Act Name Note NotedAct NotedStmt (List NotedExpr) (List NotedExpr) exprs_in_act exprs_in

  stmts_step : (ks : List KeptStmt) → Fine (inside_each listed (λ (l : List Spot). l) (map spots_of_stmt (map (λ (k : KeptStmt). k.0) ks)))
      → AllSafe (inside_each listed (λ (es : List NotedExpr). es) (map exprs_in (map (λ (k : KeptStmt). k.0) ks)))
  stmts_step [] h = All-nil IsSafe
  stmts_step (k ∷ ks) h = joined _ _ (k.1.follow (left_of IsFineSpot (spots_of_stmt k.0) _ h)) (stmts_step ks (right_of IsFineSpot (spots_of_stmt k.0) _ h))

  no_exprs : AllSafe []
  no_exprs = All-nil IsSafe

  -- the parts of a `for`, in the order in which they run
  for_joined : (es fs gs hs : List NotedExpr) (a b c d : List Spot) → (Fine a → AllSafe es) → (Fine b → AllSafe fs) → (Fine c → AllSafe gs) → (Fine d → AllSafe hs)
      → Fine (a ++ (b ++ (c ++ d))) → AllSafe (es ++ (fs ++ (gs ++ hs)))
  for_joined es fs gs hs a b c d f g h i fine =
      let rest = right_of IsFineSpot a (b ++ (c ++ d)) fine in
      let last = right_of IsFineSpot b (c ++ d) rest in
      joined es (fs ++ (gs ++ hs)) (f (left_of IsFineSpot a _ fine)) (joined fs (gs ++ hs) (g (left_of IsFineSpot b _ rest))
      (joined gs hs (h (left_of IsFineSpot c _ last)) (i (right_of IsFineSpot c d last))))

  act_step : (y : Act-F Name Note KeptAct KeptStmt) (mode : Mode) → Fine (act_spots (act_inside (inner_act y)) mode) → AllSafe (exprs_of_act (act_exprs (inner_act y)))
  act_step (Act-F.Block m ks) mode h = stmts_step ks h
  act_step Act-F.Empty mode h = no_exprs
  act_step (Act-F.Local d) mode h = decl_safe mode d h
  act_step (Act-F.Assign e f) mode h =
      joined (alone e) (alone f) (just e (left_of IsFineSpot (spots_of_expr e) _ h)) (just f (right_of IsFineSpot (spots_of_expr e) _ h))
  act_step (Act-F.Call e) mode h = just e h
  act_step (Act-F.If e k None) mode h =
      let both = left_of IsFineSpot (spots_of_expr e ++ spots_of_stmt k.0) [] h in
      joined (alone e ++ exprs_in k.0) [] (joined (alone e) (exprs_in k.0) (just e (left_of IsFineSpot (spots_of_expr e) _ both)) (k.1.follow (right_of IsFineSpot (spots_of_expr e) _ both))) no_exprs
  act_step (Act-F.If e k (Some l)) mode h =
      let both = left_of IsFineSpot (spots_of_expr e ++ spots_of_stmt k.0) (spots_of_stmt l.0) h in
      joined (alone e ++ exprs_in k.0) (exprs_in l.0) (joined (alone e) (exprs_in k.0) (just e (left_of IsFineSpot (spots_of_expr e) _ both)) (k.1.follow (right_of IsFineSpot (spots_of_expr e) _ both)))
      (l.1.follow (right_of IsFineSpot (spots_of_expr e ++ spots_of_stmt k.0) (spots_of_stmt l.0) h))
  act_step (Act-F.While e k) mode h =
      joined (alone e) (exprs_in k.0) (just e (left_of IsFineSpot (spots_of_expr e) _ h)) (k.1.follow (right_of IsFineSpot (spots_of_expr e) _ h))
  act_step (Act-F.For None e None k) mode h =
      for_joined [] _ (exprs_in k.0) [] [] (spots_of_value e) (spots_of_stmt k.0) [] (λ f. no_exprs) (value_safe e) k.1.follow (λ f. no_exprs) h
  act_step (Act-F.For None e (Some m) k) mode h =
      for_joined [] _ (exprs_in k.0) (exprs_in m.0) [] (spots_of_value e) (spots_of_stmt k.0) (spots_of_stmt m.0) (λ f. no_exprs) (value_safe e) k.1.follow m.1.follow h
  act_step (Act-F.For (Some l) e None k) mode h =
      for_joined (exprs_in l.0) _ (exprs_in k.0) [] (spots_of_stmt l.0) (spots_of_value e) (spots_of_stmt k.0) [] l.1.follow (value_safe e) k.1.follow (λ f. no_exprs) h
  act_step (Act-F.For (Some l) e (Some m) k) mode h =
      for_joined (exprs_in l.0) _ (exprs_in k.0) (exprs_in m.0) (spots_of_stmt l.0) (spots_of_value e) (spots_of_stmt k.0) (spots_of_stmt m.0) l.1.follow (value_safe e) k.1.follow m.1.follow h
  act_step (Act-F.Return e) mode h = value_safe e h
  act_step Act-F.Break mode h = no_exprs
  act_step Act-F.Continue mode h = no_exprs
  act_step (Act-F.Check e) mode h = just e h
  act_step (Act-F.Bundle ks) mode h = stmts_step ks h

  act_by : (x : ActLayer) (y : Act-F Name Note KeptAct KeptStmt) → inner_act y ≡ x → ActFollows (roll-Act Name Note x)
  act_by x y is = record {
    follow = λ mode h.
        let same = fold-roll-Act Name Note (Mode → List Spot) (List Spot) act_spots stmt_spots x ∙ ap (λ z. act_spots (act_inside z)) (sym is) in
        let made = act_step y mode (subst (λ (f : Mode → List Spot). Fine (f mode)) same h) in
        subst AllSafe (ap (λ z. exprs_of_act (act_exprs z)) is ∙ sym (fold-roll-Act Name Note (List NotedExpr) (List NotedExpr) exprs_of_act exprs_of_stmt x)) made;
  }

  stmt_is : (s : NotedStmt) → ActFollows s.body → StmtFollows s
  stmt_is s k = record {
    follow = λ h.
        let body : Fine (spots_of_act s.body s.note.mode) =
        subst Fine (fold-roll-Stmt Name Note (Mode → List Spot) (List Spot) act_spots stmt_spots (record { body = s.body; pos = s.pos; note = s.note })) h in
        subst AllSafe (sym (fold-roll-Stmt Name Note (List NotedExpr) (List NotedExpr) exprs_of_act exprs_of_stmt (record { body = s.body; pos = s.pos; note = s.note })))
        (k.follow s.note.mode body);
  }

  stmt_by : (x : Stmt-F Name Note NotedAct NotedStmt) (y : Stmt-F Name Note KeptAct KeptStmt) → inner_stmt y ≡ x → StmtFollows (roll-Stmt Name Note x)
  stmt_by x y is = subst (λ z. StmtFollows (roll-Stmt Name Note z)) is (stmt_is (roll-Stmt Name Note (inner_stmt y)) y.body.1)

  pub stmt_safe : (s : NotedStmt) → Fine (spots_of_stmt s) → HasOnlySafe s
  stmt_safe s h e there = All-contains IsSafe (exprs_in s) e ((ind-Stmt Name Note ActFollows StmtFollows act_by stmt_by s).follow h) there
