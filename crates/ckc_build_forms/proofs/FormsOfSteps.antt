-- What assignments, calls and declarations of a judged text become has the form.
use Rattle.std.proofs.Common.{◌≡◌, ◌∙◌, refl, sym, ap, subst, arith, ℕ, suc, ◌+◌, ◌<◌, ◌≤◌, Bool, true, false, List, [], ◌∷◌, map, length}
use Rattle.std.specs.Prelude.{◌^◌, Option, Some, None, slice_get, if◌then◌else◌}
use Rattle.ckc_base.specs.declared.arithmetic.Mode.{Mode}
use Rattle.ckc_base.specs.declared.places.Pos.{Pos}
use Rattle.ckc_types.specs.declared.types.CType.{CType}
use Rattle.ckc_syntax.specs.Inside.{highest, inside_each}
use Rattle.ckc_syntax.specs.declared.tree.Name.{Name}
use Rattle.ckc_syntax.specs.declared.tree.Name.TheVariants as name
use Rattle.ckc_syntax.specs.declared.tree.Init.TheVariants as init
use Rattle.ckc_syntax.specs.declared.tree.Node.{Node-F, map-Node, out-Node, fold_out-Node}
use Rattle.ckc_syntax.specs.declared.tree.Expr.{fold-roll-Expr, every_here-Expr}
use Rattle.ckc_syntax_limits.specs.Depth.{limits_depth, node_depth, expr_depth, depth_of_limits, depth_of_node, depth_of_expr}
use Rattle.ckc_typed.specs.declared.environment.Globals.{Globals}
use Rattle.ckc_typed.specs.declared.environment.Parameter.{Parameter}
use Rattle.ckc_typed.specs.declared.environment.Signature.{Signature}
use Rattle.ckc_typed.specs.declared.typed.Note.{Note}
use Rattle.ckc_typed.specs.declared.typed.Typed.{Typed}
use Rattle.ckc_typed.specs.Environment.{signature_named}
use Rattle.ckc_typed.specs.Trees.{Item, NotedDecl, NotedInit, NotedExpr, NotedLayer}
use Rattle.ckc_typed.specs.Types.{type_written, is_char}
use Rattle.ckc_typed_welltyped.specs.Expressions.{AnyLimits, AnyNode, HasType, AreArguments, IsCall}
use Rattle.ckc_source.specs.declared.stmt.Spot.{Spot}
use Rattle.ckc_source.specs.Code.{Expr, Number, Narrow, Code, Function}
use Rattle.ckc_checks_operands.specs.Compilable.{HasParams}
use Rattle.ckc_build_values.specs.Expressions.{expr_elaborated, place_elaborated, literals_of}
use Rattle.ckc_build_values.specs.Operators.{converted}
use Rattle.ckc_build_elaborate.specs.Functions.{functions_elaborated}
use Rattle.ckc_build_elaborate.specs.Names.{number_of, params_of}
use Rattle.ckc_build_elaborate.specs.Steps.{Destination, nowhere, memory, target_form, target_of, kept_form, destination_of, destination_for, right_form, right_of, argument, arguments, first_of, called, assigned_form, assigned, started, returned, condition}
use Rattle.ckc_blame_steps.specs.ckc_blame_sound.specs.Settings.{Setting}
use Rattle.ckc_blame_steps.specs.ckc_blame_sound.proofs.Every.{ExprLayer, EachExpr, EachLimits}
use Rattle.ckc_blame_steps.proofs.Down.{AllDown, Down, each_parts}
use Rattle.ckc_build_forms.proofs.DepthsOfParts.{converted_deep}
use Rattle.ckc_build_forms.proofs.DepthsOfValues.{value_deep, place_deep}
use Rattle.ckc_build_forms.proofs.Forms.{ExprForm, PartForm, TargetForm, RightForm, PartsForm, KeptForm, CodeForm}
use Rattle.ckc_build_forms.proofs.FormsOfParts.{size_fits}
use Rattle.ckc_build_forms.proofs.FormsOfValues.{IsFitting, Good, IsReady, address_fits, value_form, place_form}

-- ---- depths

depth_layer : (e : NotedExpr) → depth_of_expr e ≡ node_depth (map-Node Name Note _ _ _ ℕ ℕ ℕ depth_of_limits depth_of_node depth_of_expr (out-Node Name Note e.node)) + 1
depth_layer e =
    fold-roll-Expr Name Note ℕ ℕ ℕ limits_depth node_depth expr_depth (record { node = e.node; pos = e.pos; note = e.note })
    ∙ ap (λ n. n + 1) (fold_out-Node Name Note ℕ ℕ ℕ limits_depth node_depth expr_depth e.node)

abbrev InsideDepth : NotedLayer → ℕ
InsideDepth x = node_depth (map-Node Name Note _ _ _ ℕ ℕ ℕ depth_of_limits depth_of_node depth_of_expr x)

-- ---- the callees of a text

-- each function that has a signature has as many parameters in the program
abbrev pub HaveParams : Typed → Globals → Type 0
HaveParams p globals =
    (k : ℕ) (t : Signature) → signature_named globals (name.Function k) ≡ Some t
    → HasParams (length t.params) (slice_get (functions_elaborated p) (number_of (name.Function k) p.tree.items))

module _ (p : Typed) (globals : Globals) (s : Setting) (js : List Item) (ready : IsReady p globals s) (callees : HaveParams p globals) where
  abbrev n : ℕ
  n = length s.variables

  abbrev Fit : ExprLayer → Type 0
  Fit = IsFitting globals s p.layout

  abbrev fs : List Function
  fs = functions_elaborated p

  abbrev Fine : NotedExpr → Type 0
  Fine = Good p globals s

  pub part_form : (e : NotedExpr) → Fine e → (k : ℕ) → PartForm n (expr_elaborated p s.variables k e)
  part_form e g k = (value_form p globals s ready e g.fit k, (let d = value_deep p s.variables k e in let h = g.deep in omega (arith, d, h)))

  narrow_form : (b : Bool) (v : Expr) → ExprForm n v → ExprForm n (if b then Narrow v else v)
  narrow_form true v h = h
  narrow_form false v h = h

  converted_form : (t : CType) (e : NotedExpr) → Fine e → (k : ℕ) → PartForm n (converted t (expr_elaborated p s.variables k e))
  converted_form t e g k =
      let v = expr_elaborated p s.variables k e in
      (narrow_form (is_char t) v (value_form p globals s ready e g.fit k), (let d = value_deep p s.variables k e in let h = g.deep in let c = converted_deep t v in omega (arith, d, h, c)))

  pub number_form : (m : ℕ) → m < 2 ^ 32 → PartForm n (Number m)
  number_form m small = (small, omega arith)

  -- ---- targets

  named_there : (k : ℕ) (e : NotedExpr) → Fine e → out-Node Name Note e.node ≡ Node-F.Name (name.Local k) → k < n
  named_there k e g is =
      let here = every_here-Expr Name Note AnyLimits AnyNode Fit e g.fit in
      ready.locals k e.note.ctype (subst (λ x. HasType globals s.variables here.0.0.mode x e.note.ctype) is here.0.0.row)

  memory_form : (t : CType) (e : NotedExpr) → Fine e → (k : ℕ) → TargetForm n (memory t (place_elaborated p s.variables k e))
  memory_form t e g k =
      let q = place_form p globals s ready e g.fit k in
      let d = place_deep p s.variables k e in
      let h = g.deep in
      (q.access, (q.pointer, omega (arith, d, h)), (q.index, omega (arith, d, h)))

  pub target_is : (e : NotedExpr) → Fine e → (k : ℕ) → TargetForm n (target_of p s.variables k e)
  target_is e g k = by (out-Node Name Note e.node) refl
    where
      by : (x : NotedLayer) → out-Node Name Note e.node ≡ x → TargetForm n (target_form e.note.ctype (place_elaborated p s.variables k e) x)
      by (Node-F.Name (name.Local j)) is = named_there j e g is
      by (Node-F.Name m) is = memory_form e.note.ctype e g k
      by x is = memory_form e.note.ctype e g k

  kept_is : (e : NotedExpr) → Fine e → KeptForm n (kept_form p e.note.ctype (out-Node Name Note e.node))
  kept_is e g = by (out-Node Name Note e.node) refl
    where
      by : (x : NotedLayer) → out-Node Name Note e.node ≡ x → KeptForm n (kept_form p e.note.ctype x)
      by (Node-F.Name (name.Local j)) is = named_there j e g is
      by (Node-F.Name (name.Static j)) is = address_fits p globals s ready j
      by (Node-F.Name m) is = tt
      by x is = tt

  pub record Arrives (to : Destination) : Type 0 where
    pub target : TargetForm n to.target
    pub kept : KeptForm n to.kept

  pub nowhere_arrives : Arrives nowhere
  nowhere_arrives = record { target = tt; kept = tt }

  pub place_arrives : (e : NotedExpr) → Fine e → (k : ℕ) → Arrives (destination_of p s.variables k e)
  place_arrives e g k = record { target = target_is e g k; kept = kept_is e g }

  pub local_arrives : (t : CType) (m : Name) → ((k : ℕ) → m ≡ name.Local k → k < n) → Arrives (destination_for p t m)
  local_arrives t (name.Local k) h = record { target = h k refl; kept = h k refl }
  local_arrives t (name.Static k) h = record { target = tt; kept = address_fits p globals s ready k }
  local_arrives t m h = record { target = tt; kept = tt }

  -- ---- right sides

  inner_good : (e c : NotedExpr) → Fine e → EachExpr Fit c → depth_of_expr c ≤ InsideDepth (out-Node Name Note e.node) → Fine c
  inner_good e c g w d = record { fit = w; deep = (let h = g.deep in let l = depth_layer e in omega (arith, h, l, d)) }

  pub right_is : (terminated : Bool) (e : NotedExpr) → Fine e → (k : ℕ) → RightForm n (right_of p s.variables k terminated e)
  right_is terminated e g k = by (out-Node Name Note e.node) (each_parts Fit e g.fit) (λ c w d. inner_good e c g w d)
    where
      by : (x : NotedLayer) → Down (EachExpr Fit) (EachLimits Fit) x → ((c : NotedExpr) → EachExpr Fit c → depth_of_expr c ≤ InsideDepth x → Fine c) → RightForm n (right_form p s.variables k terminated e x)
      by (Node-F.Calloc w c x) h good = (size_fits p.layout (type_written w), part_form c (good c h (omega arith)) k)
      by x h good = part_form e g k

  -- ---- calls

  argument_form : (d : Option NotedDecl) (e : NotedExpr) → Fine e → (k : ℕ) → PartForm n (argument p s.variables k d e)
  argument_form (Some d) e g k = converted_form (type_written d.ctype) e g k
  argument_form None e g k = part_form e g k

  abbrev AllGood : List NotedExpr → Type 0
  AllGood [] = Unit {0}
  AllGood (e ∷ es) = Fine e × AllGood es

  arguments_form : (ds : List NotedDecl) (es : List NotedExpr) → AllGood es → (k : ℕ) → PartsForm n (arguments p s.variables k ds es)
  arguments_form ds [] g k = tt
  arguments_form [] (e ∷ es) g k = (argument_form None e g.0 k, arguments_form [] es g.1 (k + literals_of e))
  arguments_form (d ∷ ds) (e ∷ es) g k = (argument_form (Some d) e g.0 k, arguments_form ds es g.1 (k + literals_of e))

  arguments_many : (ds : List NotedDecl) (es : List NotedExpr) (k : ℕ) → length (arguments p s.variables k ds es) ≡ length es
  arguments_many ds [] k = refl
  arguments_many [] (e ∷ es) k = ap suc (arguments_many [] es (k + literals_of e))
  arguments_many (d ∷ ds) (e ∷ es) k = ap suc (arguments_many ds es (k + literals_of e))

  as_many : (mode : Mode) (ps : List Parameter) (es : List NotedExpr) → AreArguments mode ps es → length ps ≡ length es
  as_many mode [] [] h = refl
  as_many mode [] (e ∷ es) h = absurd h
  as_many mode (q ∷ ps) [] h = absurd h
  as_many mode (q ∷ ps) (e ∷ es) h = ap suc (as_many mode ps es h.1)

  first_form : (es : List NotedExpr) → AllGood es → (k : ℕ) → PartForm n (first_of p s.variables k es)
  first_form [] g k = number_form 0 (omega arith)
  first_form (e ∷ es) g k = part_form e g.0 k

  abbrev deepest : List NotedExpr → ℕ
  deepest es = inside_each highest (λ (d : ℕ). d) (map depth_of_expr es)

  all_good : (es : List NotedExpr) → AllDown (EachExpr Fit) es → deepest es ≤ 64 → AllGood es
  all_good [] w d = tt
  all_good (e ∷ es) w d = (record { fit = w.0; deep = omega (arith, d) }, all_good es w.1 (omega (arith, d)))

  -- what a local begins with
  abbrev pub InitGood : NotedInit → Type 0
  InitGood init.Nothing = Unit {0}
  InitGood (init.One e) = Fine e
  InitGood (init.Many es) = Unit {0}

  module _ (looped : Bool) (spot : Spot) (to : Destination) (arrives : Arrives to) (k : ℕ) (rest : Code) (behind : CodeForm fs n looped rest) where
    called_form : (mode : Mode) (m : Name) (es : List NotedExpr) (at : Pos) (t : CType) (row : IsCall globals mode m es t) → AllGood es
        → CodeForm fs n looped (called p s.variables spot to k m es at rest)
    called_form mode (name.Function f) es at t row g =
        let many = arguments_many (params_of (name.Function f) p.tree.items) es k in (
          arrives.kept,
          subst (λ c. HasParams c (slice_get fs (number_of (name.Function f) p.tree.items))) (as_many mode row.0.params es row.2 ∙ sym many) (callees f row.0 row.1),
          arguments_form (params_of (name.Function f) p.tree.items) es g k,
          behind,
        )
    called_form mode name.Getchar es at t row g = (arrives.target, behind)
    called_form mode name.Putchar es at t row g = (arrives.target, first_form es g k, behind)
    called_form mode (name.Local x) es at t row g = (arrives.target, number_form 0 (omega arith), behind)
    called_form mode (name.Static x) es at t row g = (arrives.target, number_form 0 (omega arith), behind)
    called_form mode (name.Tag x) es at t row g = (arrives.target, number_form 0 (omega arith), behind)
    called_form mode (name.Member x) es at t row g = (arrives.target, number_form 0 (omega arith), behind)

    pub assigned_form_is : (e : NotedExpr) → Fine e → CodeForm fs n looped (assigned p s.variables spot to k e rest)
    assigned_form_is e g =
        let here = every_here-Expr Name Note AnyLimits AnyNode Fit e g.fit in
        let h = g.deep in
        let l = depth_layer e in
        by (out-Node Name Note e.node) here.0.0.row (each_parts Fit e g.fit) (omega (arith, h, l))
      where
        by : (x : NotedLayer) → HasType globals s.variables (every_here-Expr Name Note AnyLimits AnyNode Fit e g.fit).0.0.mode x e.note.ctype → Down (EachExpr Fit) (EachLimits Fit) x → InsideDepth x ≤ 63
            → CodeForm fs n looped (assigned_form p s.variables spot to k e x rest)
        by (Node-F.Call m es) row w d =
            called_form (every_here-Expr Name Note AnyLimits AnyNode Fit e g.fit).0.0.mode m es e.pos e.note.ctype row (all_good es w (omega (arith, d)))
        by x row w d = (arrives.target, right_is to.terminated e g k, behind)

    pub started_form : (i : NotedInit) → InitGood i → CodeForm fs n looped (started p s.variables spot to k i rest)
    started_form init.Nothing g = (arrives.target, number_form 0 (omega arith), behind)
    started_form (init.One e) g = assigned_form_is e g
    started_form (init.Many es) g = (arrives.target, number_form 0 (omega arith), behind)

  pub returned_form : (t : CType) (e : Option NotedExpr) → ((f : NotedExpr) → e ≡ Some f → Fine f) → (k : ℕ) → PartForm n (returned p s.variables t k e)
  returned_form t None g k = number_form 0 (omega arith)
  returned_form t (Some e) g k = converted_form t e (g e refl) k

  pub condition_form : (e : Option NotedExpr) → ((f : NotedExpr) → e ≡ Some f → Fine f) → (k : ℕ) → PartForm n (condition p s.variables k e)
  condition_form None g k = number_form 1 (omega arith)
  condition_form (Some e) g k = part_form e (g e refl) k
