-- The statement of a step that calls a function.
use Rattle.std.proofs.Common.{◌≡◌, ⊎_elim, refl, sym, ap, subst, ◌∙◌, ℕ, ◌+◌, List, [], ◌∷◌, map, rules, arith}
use Rattle.std.specs.Prelude.{◌≤◌, ◌^◌, ◌-◌, ◌||◌, slice_get, Bool, true, false, not, Option, Some, Ok}
use Rattle.std.specs.List.{flat_map}
use Rattle.ckc_base.specs.declared.places.Pos.{Pos}
use Rattle.ckc_base.specs.Outcomes.{bind, unless}
use Rattle.ckc_syntax.specs.declared.tree.Name.{Name}
use Rattle.ckc_syntax.specs.declared.tree.Name.TheVariants as name
use Rattle.ckc_syntax.specs.declared.tree.Init.TheVariants as init
use Rattle.ckc_syntax.specs.declared.tree.Node.{Node-F, out-Node}
use Rattle.ckc_syntax.specs.declared.tree.Act.{Act-F, out-Act, the_lemmas}
use Rattle.ckc_syntax.specs.declared.tree.Act.TheVariants as act
use Rattle.ckc_typed.specs.declared.environment.Globals.{Globals}
use Rattle.ckc_typed.specs.declared.environment.Variable.{Variable}
use Rattle.ckc_typed.specs.declared.typed.Note.{Note}
use Rattle.ckc_typed.specs.declared.typed.Typed.{Typed}
use Rattle.ckc_typed.specs.Expressions.{is_object_form}
use Rattle.ckc_typed.specs.Statics.{strings_of_expr}
use Rattle.ckc_typed.specs.Statements.{is_call_form, is_variable_form, is_text_call}
use Rattle.ckc_typed.specs.Trees.{NotedAct, NotedDecl, NotedExpr, NotedInit, NotedLayer, NotedStmt}
use Rattle.ckc_typed.specs.Types.{is_pointer, type_written}
use Rattle.ckc_typed_welltyped.specs.Declarations.{StartsLocal, WellTypedInit}
use Rattle.ckc_typed_welltyped.specs.Expressions.{WellTypedExpr}
use Rattle.ckc_typed_welltyped.specs.Statements as rows
use Rattle.ckc_typed_welltyped.specs.Statements.{act_rows, mode_in_form, WellTypedStmt}
use Rattle.ckc_blame_sound.specs.ckc_bounds_points.specs.Codes.{not_contained, bad_bundle}
use Rattle.ckc_blame_sound.specs.ckc_bounds_points.specs.declared.frame.Frame.{Frame}
use Rattle.ckc_blame_sound.specs.ckc_bounds_points.specs.Flow.{State}
use Rattle.ckc_blame_sound.specs.ckc_bounds_views.specs.Parts.{View, fresh_behind}
use Rattle.ckc_blame_sound.specs.ckc_bounds_views.specs.Views.{node_view, expr_view, view}
use Rattle.ckc_blame_sound.specs.ckc_bounds_statements.specs.Paths.{Here, path, value_judged, values_judged, maybe_judged, init_judged, side_of, is_returned, gone, parts_judged, is_good, bundle_judged, bounds_judged, starts_within, declared_here, sides_judged, behind_stores, decl_judged, stated, act_judged}
use Rattle.ckc_source.specs.declared.stmt.Spot.{Spot}
use Rattle.ckc_source.specs.declared.stmt.Kept.{Kept}
use Rattle.ckc_source.specs.Code.{Expr, Code, End, Call}
use Rattle.ckc_source.specs.Code as code
use Rattle.ckc_build_values.specs.Expressions.{expr_elaborated, literals_of}
use Rattle.ckc_build_values.specs.Kinds.{pointee_of}
use Rattle.ckc_build_elaborate.specs.Literals.{literals_of_bounds}
use Rattle.ckc_build_elaborate.specs.Names.{number_of, params_of}
use Rattle.ckc_build_elaborate.specs.Steps.{Destination, spot, nowhere, destination_of, destination_for, arguments, called, assigned, assigned_form, declared, returned}
use Rattle.ckc_build_elaborate.specs.Statements.{all_assigns, act_code, part_of}
use Rattle.ckc_blame_sound.specs.Settings.{Setting, AreStrings}
use Rattle.ckc_blame_sound.specs.Bodies.{globals_of_text, IsInBody}
use Rattle.ckc_blame_sound.specs.Calls.{arguments_of_node, arguments_of_expr, arguments_of_init, arguments_of_act, arguments_of, head_by_name, head_of_node, head_of_expr, head_of_init, head_of_act, head_of}
use Rattle.ckc_blame_sound.specs.Steps.{is_simple, IsStep}
use Rattle.ckc_blame_sound.proofs.Statements.{made_of, pair_same, passes}
use Rattle.ckc_blame_sound.proofs.Stepping.{ActLayer, viewed, judged_is, parted, code_is, out_call, out_return, out_check, out_bundle, first_step}
use Rattle.ckc_blame_control.proofs.Typed.{by_parts}
use Rattle.ckc_blame_steps.specs.Arguments.{literals_before_act, literals_before}
use Rattle.ckc_blame_steps.specs.Results.{value_of_init, value_of_act, value_of, type_of_act, type_of}
use Rattle.ckc_blame_steps.proofs.Converted.{call_looser}
use Rattle.ckc_blame_given.proofs.Looser.{IsLooser}
use Rattle.ckc_blame_steps.proofs.Strings.{strings_there, sides_strings, init_strings, call_strings}
use Rattle.ckc_blame_steps.proofs.Calls.{IsCall, call_judged, value_is_judged}
use Rattle.ckc_blame_given.proofs.Views.{viewed_layer, view_is}

-- ---- what becomes a call

module _ (p : Typed) (locals : List Variable) (sp spot' : Spot) (to : Destination) (k : ℕ) (target : Option Kept) (number : ℕ) (es : List Expr) where
  -- An expression becomes this call, in front of nothing.
  pub record IsCalled (made : NotedExpr) : Type 0 where
    pub function : ℕ
    pub afters : List NotedExpr
    pub node : out-Node Name Note made.node ≡ Node-F.Call (name.Function function) afters
    pub number_is : number ≡ number_of (name.Function function) p.tree.items
    pub arguments_are : es ≡ arguments p locals k (params_of (name.Function function) p.tree.items) afters
    pub target_is : target ≡ to.kept
    pub mode : spot'.mode ≡ sp.mode

  called_as : (made : NotedExpr) (n : Name) (fs : List NotedExpr) (at : Pos) → out-Node Name Note made.node ≡ Node-F.Call n fs → called p locals sp to k n fs at End ≡ Call spot' target number es End → IsCalled made
  called_as made (name.Function f) fs at out h = record { function = f; afters = fs; node = out; number_is = cc; arguments_are = cc; target_is = cc; mode = same_mode h }
    where
      same_mode : {x y : Spot} {t u : Option Kept} {m n : ℕ} {xs ys : List Expr} → Call x t m xs End ≡ Call y u n ys End → y.mode ≡ x.mode
      same_mode {x} {y} h = let q : x ≡ y = cc in ap (λ (z : Spot). z.mode) (sym q)
  called_as made n fs at out h = absurd cc

  pub assigned_called : (made : NotedExpr) → assigned p locals sp to k made End ≡ Call spot' target number es End → IsCalled made
  assigned_called made h = by (out-Node Name Note made.node) refl h
    where
      by : (d : NotedLayer) → out-Node Name Note made.node ≡ d → assigned_form p locals sp to k made d End ≡ Call spot' target number es End → IsCalled made
      by (Node-F.Call n fs) is h = called_as made n fs made.pos is h
      by d is h = absurd cc

pub out_assign : (e f : NotedExpr) → out-Act Name Note (act.Assign e f) ≡ Act-F.Assign e f
out_assign e f = search (rules, the_lemmas)

pub out_local : (d : NotedDecl) → out-Act Name Note (act.Local d) ≡ Act-F.Local d
out_local d = search (rules, the_lemmas)

-- the mode of a statement after it is judged
pub mode_of : (s : Setting) (before : NotedStmt) (inside : IsInBody s before) (after : NotedStmt) (a : NotedAct) (x : ActLayer) → out-Act Name Note before.body ≡ x → stated before.pos before.note a ≡ after
    → mode_in_form inside.mode x ≡ inside.mode → after.note.mode ≡ inside.mode
mode_of s before inside after a x is made m =
    ap (λ (st : NotedStmt). st.note.mode) (sym made) ∙ ap (λ (n : Note). n.mode) (by_parts s before inside).noted
    ∙ ap (λ y. mode_in_form inside.mode y) is ∙ m

-- what calls a function of the text goes to a name
abbrev is_name : NotedLayer → Bool
is_name (Node-F.Name n) = true
is_name n = false

-- a name needs no fresh variable
name_behind : (frame : Frame) (q : NotedExpr) (fresh : ℕ) (at : State) → fresh ≤ 2 ^ 32 - 1 → is_name (out-Node Name Note q.node) ≡ true → fresh_behind (view frame q) fresh at ≡ fresh
name_behind frame q fresh at word named = ap (λ (v : View). fresh_behind v fresh at) (view_is frame q) ∙ by (out-Node Name Note q.node) named
  where
    by : (n : NotedLayer) → is_name n ≡ true → fresh_behind (expr_view (record { node = node_view frame (viewed_layer frame n); pos = q.pos; note = q.note })) fresh at ≡ fresh
    by (Node-F.Name n) h = omega arith
    by n h = absurd cc

target_named : (globals : Globals) (variables : List Variable) (q x : NotedExpr) (k : ℕ) (fs : List NotedExpr) → out-Node Name Note x.node ≡ Node-F.Call (name.Function k) fs → rows.IsTarget globals variables q x
    → is_name (out-Node Name Note q.node) ≡ true
target_named globals variables q x k fs is h = ⊎_elim (λ n. by (out-Node Name Note q.node) n) (λ n. absurd (called_text n.1)) h.1
  where
    called_text : is_text_call x ≡ false → ⊥
    called_text none = let t : is_text_call x ≡ true = ap (λ (y : NotedLayer). is_call_form y) is in absurd cc

    by : (n : NotedLayer) → (is_variable_form variables n || is_object_form globals n) ≡ true → is_name n ≡ true
    by (Node-F.Name n) h = refl
    by n h = absurd cc

module _ (s : Setting) (here there : Here) (sp : Spot) (target : Option Kept) (number : ℕ) (es : List Expr) (step : IsStep s here (Call sp target number es) there) where
  -- The statement of the step is a call of a function, or one whose value goes to a local or a static object.
  pub record IsCallStep : Type 0 where
    pub call : NotedExpr
    pub function : ℕ
    pub afters : List NotedExpr
    pub is : IsCall s.frame here.at here.next call function afters
    pub typed : WellTypedExpr (globals_of_text s.text) s.variables step.inside.mode call
    pub before : arguments_of step.before ≡ is.args
    pub head : head_of s.frame step.before ≡ slice_get s.frame.heads function
    pub value : value_of step.before ≡ Some call
    pub looser : is_pointer call.note.ctype ≡ true → IsLooser (pointee_of s.text.layout call.note.ctype) (pointee_of s.text.layout (type_of step.before))
    pub after : arguments_of step.after ≡ afters
    pub number_is : number ≡ number_of (name.Function function) s.text.tree.items
    pub arguments_are : es ≡ arguments s.text s.variables (literals_before step.after step.literals) (params_of (name.Function function) s.text.tree.items) afters
    pub mode : sp.mode ≡ step.inside.mode
    pub strings : AreStrings s (literals_before step.after step.literals) (flat_map strings_of_expr afters)

  -- what the statement is judged as, by its layer
  judged_as : (d : ActLayer) → out-Act Name Note step.before.body ≡ d → act_judged (viewed d) s.frame s.head step.before.pos step.before.note here ≡ Ok (step.after, step.behind)
  judged_as d is =
      ap (λ (x : ActLayer). act_judged (viewed x) s.frame s.head step.before.pos step.before.note here) (sym is) ∙ sym (judged_is step.before s.frame s.head here) ∙ step.judged

  -- the layer of what it is judged to
  layer_of : (a : _) (x : ActLayer) → stated step.before.pos step.before.note a ≡ step.after → out-Act Name Note a ≡ x → out-Act Name Note step.after.body ≡ x
  layer_of a x made out = ap (λ (st : NotedStmt). out-Act Name Note st.body) (sym made) ∙ out

  -- and what that becomes
  becomes_as : (x : ActLayer) → out-Act Name Note step.after.body ≡ x → (f : Code → Code)
      → act_code (parted x) step.after.pos step.after.note.mode s.text s.variables s.result step.literals ≡ f ∷ [] → f End ≡ Call sp target number es End
  becomes_as x is f code =
      first_step f (Call sp target number es)
      (sym code ∙ ap (λ (y : ActLayer). act_code (parted y) step.after.pos step.after.note.mode s.text s.variables s.result step.literals) (sym is) ∙ sym (code_is s step.literals step.after) ∙ step.becomes)

  row_as : (x : ActLayer) → out-Act Name Note step.before.body ≡ x
      → act_rows (globals_of_text s.text) s.variables s.result (WellTypedStmt (globals_of_text s.text) s.variables s.result) x step.inside.mode step.inside.looped
  row_as x is =
      subst (λ (y : ActLayer). act_rows (globals_of_text s.text) s.variables s.result (WellTypedStmt (globals_of_text s.text) s.variables s.result) y step.inside.mode step.inside.looped) is
      (by_parts s step.before step.inside).row

  mode_as : (a : _) (x : ActLayer) → out-Act Name Note step.before.body ≡ x → stated step.before.pos step.before.note a ≡ step.after → mode_in_form step.inside.mode x ≡ step.inside.mode
      → step.after.note.mode ≡ step.inside.mode
  mode_as a x is made m = mode_of s step.before step.inside step.after a x is made m

  arguments_in : (st : NotedStmt) (x : ActLayer) → out-Act Name Note st.body ≡ x → arguments_of st ≡ arguments_of_act x
  arguments_in st x is = ap arguments_of_act is

  head_in : (st : NotedStmt) (x : ActLayer) → out-Act Name Note st.body ≡ x → head_of s.frame st ≡ head_of_act s.frame x
  head_in st x is = ap (head_of_act s.frame) is

  looser_by : (x : ActLayer) (e : NotedExpr) → out-Act Name Note step.before.body ≡ x
      → (is_pointer e.note.ctype ≡ true → IsLooser (pointee_of s.text.layout e.note.ctype) (pointee_of s.text.layout (type_of_act x)))
      → is_pointer e.note.ctype ≡ true → IsLooser (pointee_of s.text.layout e.note.ctype) (pointee_of s.text.layout (type_of step.before))
  looser_by x e is h p = subst (λ y. IsLooser (pointee_of s.text.layout e.note.ctype) (pointee_of s.text.layout (type_of_act y))) (sym is) (h p)

  head_by : (e : NotedExpr) (n : Name) (fs : List NotedExpr) → out-Node Name Note e.node ≡ Node-F.Call n fs → head_of_expr s.frame e ≡ head_by_name s.frame n
  head_by e n fs is = ap (head_of_node s.frame) is

  arguments_by : (e : NotedExpr) (n : Name) (fs : List NotedExpr) → out-Node Name Note e.node ≡ Node-F.Call n fs → arguments_of_expr e ≡ fs
  arguments_by e n fs is = ap arguments_of_node is

  -- the string literals in the arguments of a call that a statement has as its value
  strings_of_call : (x : ActLayer) → out-Act Name Note step.after.body ≡ x → (e : NotedExpr) (n : Name) (fs : List NotedExpr) → out-Node Name Note e.node ≡ Node-F.Call n fs
      → AreStrings s (literals_before_act x step.literals) (strings_of_expr e) → AreStrings s (literals_before step.after step.literals) (flat_map strings_of_expr fs)
  strings_of_call x out e n fs node h = subst (λ (y : ActLayer). AreStrings s (literals_before_act y step.literals) (flat_map strings_of_expr fs)) (sym out) (call_strings s (literals_before_act x step.literals) e n fs node h)

  abbrev at : Spot
  at = spot step.after.pos step.after.note.mode

  as_call : (x : NotedExpr) → out-Act Name Note step.before.body ≡ Act-F.Call x → IsCallStep
  as_call x is =
      let m = made_of (value_judged s.frame x here) (λ p. Ok (stated step.before.pos step.before.note (act.Call p.0), p.1)) (step.after, step.behind) (judged_as (Act-F.Call x) is) in
      let last = pair_same (stated step.before.pos step.before.note (act.Call m.0.0)) step.after m.0.1 step.behind m.2 in
      let out = layer_of (act.Call m.0.0) (Act-F.Call m.0.0) last.0 (out_call m.0.0) in
      let code = becomes_as (Act-F.Call m.0.0) out (assigned s.text s.variables (spot m.0.0.pos step.after.note.mode) nowhere step.literals m.0.0) refl in
      let made = assigned_called s.text s.variables (spot m.0.0.pos step.after.note.mode) sp nowhere step.literals target number es m.0.0 code in
      let v = value_is_judged s.frame x m.0.0 here m.0.1 step.counting m.1 in
      let c = call_judged s.frame here.at here.next x m.0.0 made.function made.afters made.node v.0 in
      record {
        call = x;
        function = made.function;
        afters = made.afters;
        is = c;
        typed = row_as (Act-F.Call x) is;
        before = arguments_in step.before (Act-F.Call x) is ∙ arguments_by x (name.Function made.function) c.args c.node;
        head = head_in step.before (Act-F.Call x) is ∙ head_by x (name.Function made.function) c.args c.node;
        value = ap value_of_act is;
        looser = looser_by (Act-F.Call x) x is (λ p. record { element = refl; size = refl; terminated = λ e. e });
        after = arguments_in step.after (Act-F.Call m.0.0) out ∙ arguments_by m.0.0 (name.Function made.function) made.afters made.node;
        number_is = made.number_is;
        arguments_are = made.arguments_are ∙ ap (λ (y : ActLayer). arguments s.text s.variables (literals_before_act y step.literals) (params_of (name.Function made.function) s.text.tree.items) made.afters) (sym out);
        mode = made.mode ∙ mode_as (act.Call m.0.0) (Act-F.Call x) is last.0 refl;
        strings = strings_of_call (Act-F.Call m.0.0) out m.0.0 (name.Function made.function) made.afters made.node (strings_there s step.literals step.after step.strings (Act-F.Call m.0.0) out);
      }

  module _ (word : here.next ≤ 2 ^ 32 - 1) where
    as_assign : (q x : NotedExpr) → out-Act Name Note step.before.body ≡ Act-F.Assign q x → IsCallStep
    as_assign q x is =
        let m = made_of (sides_judged s.frame step.before.pos step.before.note q x here) (λ p. bind (behind_stores s.frame s.head (p.0 ∷ []) here.next p.1) (λ h. Ok (p.0, h)))
        (step.after, step.behind) (judged_as (Act-F.Assign q x) is) in
        let n = made_of (behind_stores s.frame s.head (m.0.0 ∷ []) here.next m.0.1) (λ h. Ok (m.0.0, h)) (step.after, step.behind) m.2 in
        let last = pair_same m.0.0 step.after n.0 step.behind n.2 in
        let a = made_of (value_judged s.frame q here) (λ a. bind (value_judged s.frame x a.1) (λ b. Ok (stated step.before.pos step.before.note (act.Assign a.0 b.0), b.1))) m.0 m.1 in
        let b = made_of (value_judged s.frame x a.0.1) (λ b. Ok (stated step.before.pos step.before.note (act.Assign a.0.0 b.0), b.1)) m.0 a.2 in
        let both = pair_same (stated step.before.pos step.before.note (act.Assign a.0.0 b.0.0)) m.0.0 b.0.1 m.0.1 b.2 in
        let st : stated step.before.pos step.before.note (act.Assign a.0.0 b.0.0) ≡ step.after = both.0 ∙ last.0 in
        let out = layer_of (act.Assign a.0.0 b.0.0) (Act-F.Assign a.0.0 b.0.0) st (out_assign a.0.0 b.0.0) in
        let literals = step.literals + literals_of a.0.0 in
        let code = becomes_as (Act-F.Assign a.0.0 b.0.0) out (assigned s.text s.variables at (destination_of s.text s.variables step.literals a.0.0) literals b.0.0) refl in
        let made = assigned_called s.text s.variables at sp (destination_of s.text s.variables step.literals a.0.0) literals target number es b.0.0 code in
        let left = value_is_judged s.frame q a.0.0 here a.0.1 step.counting a.1 in
        let counts : a.0.1.counting ≡ false = ap (λ (h : Here). h.counting) left.1 ∙ step.counting in
        let right = value_is_judged s.frame x b.0.0 a.0.1 b.0.1 counts b.1 in
        let row = row_as (Act-F.Assign q x) is in
        let loose = call_judged s.frame a.0.1.at a.0.1.next x b.0.0 made.function made.afters made.node right.0 in
        let named = target_named (globals_of_text s.text) s.variables q x made.function loose.args loose.node row.target in
        let next : a.0.1.next ≡ here.next = ap (λ (h : Here). h.next) left.1 ∙ name_behind s.frame q here.next here.at word named in
        let at_is : a.0.1.at ≡ here.at = ap (λ (h : Here). h.at) left.1 in
        let c = call_judged s.frame here.at here.next x b.0.0 made.function made.afters made.node
        (subst (λ y. (view s.frame x).judged here.next y ≡ Ok b.0.0) at_is (subst (λ y. (view s.frame x).judged y a.0.1.at ≡ Ok b.0.0) next right.0)) in
        record {
          call = x;
          function = made.function;
          afters = made.afters;
          is = c;
          typed = row.right;
          before = arguments_in step.before (Act-F.Assign q x) is ∙ arguments_by x (name.Function made.function) c.args c.node;
          head = head_in step.before (Act-F.Assign q x) is ∙ head_by x (name.Function made.function) c.args c.node;
          value = ap value_of_act is;
          looser = looser_by (Act-F.Assign q x) x is (λ p. call_looser s.text.layout q.note.ctype x (name.Function made.function) c.args c.node row.converted p);
          after = arguments_in step.after (Act-F.Assign a.0.0 b.0.0) out ∙ arguments_by b.0.0 (name.Function made.function) made.afters made.node;
          number_is = made.number_is;
          arguments_are = made.arguments_are ∙ ap (λ (y : ActLayer). arguments s.text s.variables (literals_before_act y step.literals) (params_of (name.Function made.function) s.text.tree.items) made.afters) (sym out);
          mode = made.mode ∙ mode_as (act.Assign a.0.0 b.0.0) (Act-F.Assign q x) is st refl;
          strings = strings_of_call (Act-F.Assign a.0.0 b.0.0) out b.0.0 (name.Function made.function) made.afters made.node (sides_strings s step.literals step.after step.strings a.0.0 b.0.0 out).1;
        }

    as_local : (d : NotedDecl) → out-Act Name Note step.before.body ≡ Act-F.Local d → IsCallStep
    as_local d is =
        let m = made_of (decl_judged s.frame d here) (λ p. Ok (stated step.before.pos step.before.note (act.Local p.0), p.1)) (step.after, step.behind) (judged_as (Act-F.Local d) is) in
        let last = pair_same (stated step.before.pos step.before.note (act.Local m.0.0)) step.after m.0.1 step.behind m.2 in
        let n = made_of (bounds_judged s.frame d here) (λ b. bind (init_judged s.frame d.init here) (λ p.
        unless (not (starts_within s.frame d.name p.0 here.next p.1)) not_contained d.pos (Ok (record d { init = p.0 }, declared_here s.frame d p.0 p.1)))) m.0 m.1 in
        let i = made_of (init_judged s.frame d.init here) (λ p.
        unless (not (starts_within s.frame d.name p.0 here.next p.1)) not_contained d.pos (Ok (record d { init = p.0 }, declared_here s.frame d p.0 p.1))) m.0 n.2 in
        let j = passes (not (starts_within s.frame d.name i.0.0 here.next i.0.1)) not_contained d.pos (Ok (record d { init = i.0.0 }, declared_here s.frame d i.0.0 i.0.1)) m.0 i.2 in
        let made = pair_same (record d { init = i.0.0 }) m.0.0 (declared_here s.frame d i.0.0 i.0.1) m.0.1 j in
        let st : stated step.before.pos step.before.note (act.Local (record d { init = i.0.0 })) ≡ step.after = ap (λ (e : NotedDecl). stated step.before.pos step.before.note (act.Local e)) made.0 ∙ last.0 in
        by d.init refl i.0.0 i.0.1 i.1 st
      where
        by : (x : NotedInit) → d.init ≡ x → (y : NotedInit) (h : Here) → init_judged s.frame d.init here ≡ Ok (y, h)
            → stated step.before.pos step.before.note (act.Local (record d { init = y })) ≡ step.after → IsCallStep
        by (init.One x) same y h judged st =
            let w = made_of (value_judged s.frame x here) (λ p. Ok (init.One p.0, p.1)) (y, h) (ap (λ z. init_judged s.frame z here) (sym same) ∙ judged) in
            let pair = pair_same (init.One w.0.0) y w.0.1 h w.2 in
            let e : NotedDecl = record d { init = init.One w.0.0 } in
            let done : stated step.before.pos step.before.note (act.Local e) ≡ step.after = ap (λ z. stated step.before.pos step.before.note (act.Local (record d { init = z }))) pair.0 ∙ st in
            let out = layer_of (act.Local e) (Act-F.Local e) done (out_local e) in
            let literals = step.literals + literals_of_bounds d.bounds in
            let code = becomes_as (Act-F.Local e) out (declared s.text s.variables at step.literals e) refl in
            let made = assigned_called s.text s.variables at sp (destination_for s.text (type_written d.ctype) d.name) literals target number es w.0.0 code in
            let v = value_is_judged s.frame x w.0.0 here w.0.1 step.counting w.1 in
            let c = call_judged s.frame here.at here.next x w.0.0 made.function made.afters made.node v.0 in
            let row = row_as (Act-F.Local d) is in
            record {
              call = x;
              function = made.function;
              afters = made.afters;
              is = c;
              typed = subst (WellTypedInit (globals_of_text s.text) s.variables step.inside.mode) same row.parts.init;
              before = arguments_in step.before (Act-F.Local d) is ∙ ap arguments_of_init same ∙ arguments_by x (name.Function made.function) c.args c.node;
              head = head_in step.before (Act-F.Local d) is ∙ ap (head_of_init s.frame) same ∙ head_by x (name.Function made.function) c.args c.node;
              value = ap value_of_act is ∙ ap value_of_init same;
              looser = looser_by (Act-F.Local d) x is (λ p.
                  call_looser s.text.layout (type_written d.ctype) x (name.Function made.function) c.args c.node (subst (StartsLocal (type_written d.ctype)) same row.starts) p);
              after = arguments_in step.after (Act-F.Local e) out ∙ arguments_by w.0.0 (name.Function made.function) made.afters made.node;
              number_is = made.number_is;
              arguments_are = made.arguments_are ∙ ap (λ (y : ActLayer). arguments s.text s.variables (literals_before_act y step.literals) (params_of (name.Function made.function) s.text.tree.items) made.afters) (sym out);
              mode = made.mode ∙ mode_as (act.Local e) (Act-F.Local d) is done refl;
              strings = strings_of_call (Act-F.Local e) out w.0.0 (name.Function made.function) made.afters made.node (init_strings s step.literals step.after step.strings e w.0.0 out row.plain refl);
            }
        by init.Nothing same y h judged st =
            let pair = pair_same {A = NotedInit} init.Nothing y here h (ap (λ z. init_judged s.frame z here) (sym same) ∙ judged) in
            let e : NotedDecl = record d { init = init.Nothing } in
            let done : stated step.before.pos step.before.note (act.Local e) ≡ step.after = ap (λ z. stated step.before.pos step.before.note (act.Local (record d { init = z }))) pair.0 ∙ st in
            let code = becomes_as (Act-F.Local e) (layer_of (act.Local e) (Act-F.Local e) done (out_local e)) (declared s.text s.variables at step.literals e) refl in
            absurd cc
        by (init.Many xs) same y h judged st =
            let w = made_of (values_judged s.frame xs here) (λ p. Ok (init.Many p.0, p.1)) (y, h) (ap (λ z. init_judged s.frame z here) (sym same) ∙ judged) in
            let pair = pair_same {A = NotedInit} (init.Many w.0.0) y w.0.1 h w.2 in
            let e : NotedDecl = record d { init = init.Many w.0.0 } in
            let done : stated step.before.pos step.before.note (act.Local e) ≡ step.after = ap (λ z. stated step.before.pos step.before.note (act.Local (record d { init = z }))) pair.0 ∙ st in
            let code = becomes_as (Act-F.Local e) (layer_of (act.Local e) (Act-F.Local e) done (out_local e)) (declared s.text s.variables at step.literals e) refl in
            absurd cc

    as_return : (x : Option NotedExpr) → out-Act Name Note step.before.body ≡ Act-F.Return x → IsCallStep
    as_return x is =
        let m = made_of (maybe_judged s.frame x here) (λ p. unless (not (is_returned s.frame s.head p.0 here.next p.1)) not_contained step.before.pos (Ok (stated step.before.pos step.before.note (act.Return p.0), gone s.frame p.1)))
        (step.after, step.behind) (judged_as (Act-F.Return x) is) in
        let q = passes (not (is_returned s.frame s.head m.0.0 here.next m.0.1)) not_contained step.before.pos (Ok (stated step.before.pos step.before.note (act.Return m.0.0), gone s.frame m.0.1)) (step.after, step.behind) m.2 in
        let last = pair_same (stated step.before.pos step.before.note (act.Return m.0.0)) step.after (gone s.frame m.0.1) step.behind q in
        let code = becomes_as (Act-F.Return m.0.0) (layer_of (act.Return m.0.0) (Act-F.Return m.0.0) last.0 (out_return m.0.0)) (code.Return at (returned s.text s.variables s.result step.literals m.0.0)) refl in
        absurd cc

    as_check : (x : NotedExpr) → out-Act Name Note step.before.body ≡ Act-F.Check x → IsCallStep
    as_check x is =
        let m = made_of (value_judged s.frame x here) (λ p. Ok (stated step.before.pos step.before.note (act.Check p.0), record p.1 { at = side_of s.frame true p.0 p.1.at })) (step.after, step.behind)
        (judged_as (Act-F.Check x) is) in
        let last = pair_same (stated step.before.pos step.before.note (act.Check m.0.0)) step.after (record m.0.1 { at = side_of s.frame true m.0.0 m.0.1.at }) step.behind m.2 in
        let code = becomes_as (Act-F.Check m.0.0) (layer_of (act.Check m.0.0) (Act-F.Check m.0.0) last.0 (out_check m.0.0)) (code.Check at (expr_elaborated s.text s.variables step.literals m.0.0)) refl in
        absurd cc

    as_bundle : (ss : List NotedStmt) → out-Act Name Note step.before.body ≡ Act-F.Bundle ss → IsCallStep
    unfolding bundle_judged
    as_bundle ss is =
        let paths = map path ss in
        let m = made_of (parts_judged s.frame step.before.pos paths here) (λ p. unless (not (is_good p.1 p.0)) bad_bundle step.before.pos
        (bind (behind_stores s.frame s.head p.0 here.next p.1) (λ h. Ok (stated step.before.pos step.before.note (act.Bundle p.0), h)))) (step.after, step.behind) (judged_as (Act-F.Bundle ss) is) in
        let q = passes (not (is_good m.0.1 m.0.0)) bad_bundle step.before.pos
        (bind (behind_stores s.frame s.head m.0.0 here.next m.0.1) (λ h. Ok (stated step.before.pos step.before.note (act.Bundle m.0.0), h))) (step.after, step.behind) m.2 in
        let n = made_of (behind_stores s.frame s.head m.0.0 here.next m.0.1) (λ h. Ok (stated step.before.pos step.before.note (act.Bundle m.0.0), h)) (step.after, step.behind) q in
        let last = pair_same (stated step.before.pos step.before.note (act.Bundle m.0.0)) step.after n.0 step.behind n.2 in
        let code = becomes_as (Act-F.Bundle m.0.0) (layer_of (act.Bundle m.0.0) (Act-F.Bundle m.0.0) last.0 (out_bundle m.0.0))
        (code.Bundle at (all_assigns (map part_of m.0.0) s.text s.variables step.literals)) refl in
        absurd cc

    pub call_step : IsCallStep
    call_step = by (out-Act Name Note step.before.body) refl step.simple
      where
        by : (d : ActLayer) → out-Act Name Note step.before.body ≡ d → is_simple d ≡ true → IsCallStep
        by (Act-F.Local d) is simple = as_local d is
        by (Act-F.Assign p q) is simple = as_assign p q is
        by (Act-F.Call x) is simple = as_call x is
        by (Act-F.Return x) is simple = as_return x is
        by (Act-F.Check x) is simple = as_check x is
        by (Act-F.Bundle ss) is simple = as_bundle ss is
        by d is simple = absurd cc
