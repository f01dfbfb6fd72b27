-- The facts of the point after a step that writes a local are true.
use Rattle.std.proofs.Common.{◌≡◌, refl, sym, ap, subst, ◌∙◌, ℕ, ◌+◌, Bool, true, false, List, [], ◌∷◌, map, ⊎_elim, rules, arith}
use Rattle.std.specs.Prelude.{◌<◌, ◌^◌, ◌%◌, not, if◌then◌else◌, length, slice_index, slice_set, Option, None, Some, Result, Ok, Err}
use Rattle.ckc_base.specs.declared.arithmetic.Width.{Width}
use Rattle.ckc_base.specs.declared.places.Pos.{Pos}
use Rattle.ckc_base.specs.Memory.{kept_part}
use Rattle.ckc_base.specs.Outcomes.{bind, unless}
use Rattle.std.proofs.lemmas.Bool.Decides.{eqb_tells}
use Rattle.std.proofs.lemmas.List.{get_or-set_same, get_or-set_other}
use Rattle.ckc_base.specs.declared.arithmetic.Width.TheVariants.{Byte, Word}
use Rattle.ckc_types.specs.declared.types.CType.{CType}
use Rattle.ckc_linear.specs.declared.forms.Form.{Form}
use Rattle.ckc_syntax.specs.declared.tree.Name.{Name}
use Rattle.ckc_syntax.specs.declared.tree.Name.TheVariants as name
use Rattle.ckc_syntax.specs.declared.tree.Init.TheVariants as init
use Rattle.ckc_syntax.specs.declared.tree.Node.{Node-F, map-Node, out-Node, roll-Node, fold-roll-Node, the_lemmas as node_lemmas}
use Rattle.ckc_syntax.specs.declared.tree.Expr.{fold-roll-Expr}
use Rattle.ckc_syntax.specs.declared.tree.Act.{Act-F, map-Act, out-Act, roll-Act, fold-roll-Act, the_lemmas}
use Rattle.ckc_syntax.specs.declared.tree.Act.TheVariants as act
use Rattle.ckc_syntax.specs.declared.tree.Stmt.{fold-roll-Stmt}
use Rattle.ckc_typed.specs.declared.environment.Globals.{Globals}
use Rattle.ckc_typed.specs.declared.typed.Note.{Note}
use Rattle.ckc_typed.specs.Trees.{NotedAct, NotedDecl, NotedExpr, NotedInit, NotedLayer, NotedLimits, NotedNode, NotedStmt}
use Rattle.ckc_typed.specs.Types.{is_char, type_written}
use Rattle.ckc_bounds.specs.ckc_bounds_points.specs.declared.frame.HeadBounds.{HeadBounds}
use Rattle.ckc_bounds.specs.ckc_bounds_points.specs.declared.frame.Frame.{Frame}
use Rattle.ckc_bounds.specs.ckc_bounds_points.specs.declared.frame.Local.{Local}
use Rattle.ckc_bounds.specs.ckc_bounds_points.specs.Frames.{local_at}
use Rattle.ckc_bounds.specs.ckc_bounds_points.specs.Codes.{not_contained, bad_bundle}
use Rattle.ckc_bounds.specs.ckc_bounds_points.specs.Flow.{State, local_assigned, assigned as assigned_point}
use Rattle.ckc_bounds.specs.ckc_bounds_stores.specs.Targets.{local_in, local_of}
use Rattle.ckc_bounds.specs.ckc_bounds_statements.specs.Paths.{Here, Path, ActPath, parts_judged, is_good, bundle_judged, start_form, value_form, value_judged, maybe_judged, side_of, is_returned, gone, call_judged, return_judged, check_judged, act_judged, act_path, stmt_path, path_of_act, path, stated, behind_stores, assign_judged, local_judged}
use Rattle.ckc_source.specs.declared.stmt.Spot.{Spot}
use Rattle.ckc_source.specs.declared.outcome.Value.{Value as Drawn}
use Rattle.ckc_source.specs.declared.outcome.Halt.{Halt}
use Rattle.ckc_source.specs.declared.outcome.Place.TheVariants as place
use Rattle.ckc_source.specs.declared.program.Shape.{Shape}
use Rattle.ckc_source.specs.Eval.{Store, given, evaluated}
use Rattle.ckc_source.specs.States as states
use Rattle.ckc_source.specs.Steps as stepping
use Rattle.ckc_source.specs.Steps.{store_of, allowed, planned, and_then_written, all_written, bundled}
use Rattle.ckc_blame_sound.proofs.Claims.{given_is}
use Rattle.ckc_source.specs.Code as code
use Rattle.ckc_source.specs.Code.{Expr, Number, Target, Variable, Right, Value, Code, End, Assign}
use Rattle.ckc_build_values.specs.Kinds.{width_of}
use Rattle.ckc_build_values.specs.Places.{Place}
use Rattle.ckc_build_values.specs.Operators.{outside}
use Rattle.ckc_build_values.specs.Expressions.{LimitsPart, NodePart, Part, limits_parts, node_parts, expr_parts, part_of_limits, part_of_node, part_of as expr_part, expr_elaborated, place_elaborated, literals_of}
use Rattle.ckc_build_elaborate.specs.Literals.{literals_of_bounds}
use Rattle.ckc_build_elaborate.specs.Steps.{Destination, spot, nowhere, destination_of, destination_for, local_target, target_form, right_form, called, assigned, assigned_form, started, declared, returned}
use Rattle.ckc_build_elaborate.specs.Statements.{Part as StmtPart, ActPart, all_assigns, act_code, act_parts, stmt_parts, part_of_act, part_of, stmt_elaborated}
use Rattle.ckc_blame_sound.specs.Settings.{Setting}
use Rattle.ckc_blame_sound.specs.Values.{AreTrue, HoldWords, IsWordOf}
use Rattle.ckc_blame_sound.proofs.Types.{some_is, wide_word, byte_word}
use Rattle.ckc_blame_sound.specs.Steps.{is_simple, IsStep}
use Rattle.ckc_blame_sound.specs.Typed.{IsTyped, Agrees, IsTypedInit, IsTypedAct, IsTypedStmt}
use Rattle.ckc_blame_sound.proofs.Statements.{made_of, pair_same, passes, assign_made, local_made, local_type, out_assign, out_local, assigned_is, declared_is, behind_assignment, behind_declaration}
use Rattle.ckc_blame_sound.specs.code.Assigned.{IsAssignment, IsDeclaration, Begins}

pub act_back : (a : NotedAct) → roll-Act Name Note (out-Act Name Note a) ≡ a
act_back a = search (rules, the_lemmas)

abbrev pub ActLayer : Type 0
ActLayer = Act-F Name Note NotedAct NotedStmt

-- ---- what a statement is judged as, and what it becomes, by its layer

abbrev pub viewed : ActLayer → Act-F Name Note ActPath Path
viewed = map-Act Name Note NotedAct NotedStmt ActPath Path path_of_act path

pub judged_is : (st : NotedStmt) (frame : Frame) (head : HeadBounds) (here : Here)
    → (path st).judged frame head here ≡ act_judged (viewed (out-Act Name Note st.body)) frame head st.pos st.note here
judged_is st frame head here =
    ap (λ (p : Path). p.judged frame head here) (fold-roll-Stmt Name Note ActPath Path act_path stmt_path (record { body = st.body; pos = st.pos; note = st.note }))
    ∙ ap (λ (a : ActPath). a.judged frame head st.pos st.note here) (ap path_of_act (sym (act_back st.body)) ∙ fold-roll-Act Name Note ActPath Path act_path stmt_path (out-Act Name Note st.body))

abbrev pub parted : ActLayer → Act-F Name Note ActPart StmtPart
parted = map-Act Name Note NotedAct NotedStmt ActPart StmtPart part_of_act part_of

pub code_is : (s : Setting) (literals : ℕ) (st : NotedStmt)
    → stmt_elaborated s.text s.variables s.result literals st ≡ act_code (parted (out-Act Name Note st.body)) st.pos st.note.mode s.text s.variables s.result literals
code_is s literals st =
    ap (λ (p : StmtPart). p.code s.text s.variables s.result literals)
    (fold-roll-Stmt Name Note ActPart StmtPart act_parts stmt_parts (record { body = st.body; pos = st.pos; note = st.note }))
    ∙ ap (λ (a : ActPart). a.code st.pos st.note.mode s.text s.variables s.result literals)
    (ap part_of_act (sym (act_back st.body)) ∙ fold-roll-Act Name Note ActPart StmtPart act_parts stmt_parts (out-Act Name Note st.body))

-- ---- a step that writes the value of an expression to a local

module _ (s : Setting) where
  abbrev ExprLayer : Type 0
  ExprLayer = NotedLayer

  abbrev inner : NotedLayer → Node-F Name Note LimitsPart NodePart Part
  inner = map-Node Name Note NotedLimits NotedNode NotedExpr LimitsPart NodePart Part part_of_limits part_of_node expr_part

  node_back : (n : NotedNode) → roll-Node Name Note (out-Node Name Note n) ≡ n
  node_back n = search (rules, node_lemmas)

  -- what an expression means, by its layer
  value_is : (literals : ℕ) (e : NotedExpr) → expr_elaborated s.text s.variables literals e ≡ (node_parts (inner (out-Node Name Note e.node))).value e.note e.pos s.text s.variables literals
  value_is literals e =
      ap (λ (p : Part). p.value s.text s.variables literals) (fold-roll-Expr Name Note LimitsPart NodePart Part limits_parts node_parts expr_parts (record { node = e.node; pos = e.pos; note = e.note }))
      ∙ ap (λ (n : NodePart). n.value e.note e.pos s.text s.variables literals) (ap part_of_node (sym (node_back e.node)) ∙ fold-roll-Node Name Note LimitsPart NodePart Part limits_parts node_parts expr_parts (out-Node Name Note e.node))

  -- a call has no value of its own
  call_value : (literals : ℕ) (e : NotedExpr) (n : Name) (es : List NotedExpr) → out-Node Name Note e.node ≡ Node-F.Call n es → expr_elaborated s.text s.variables literals e ≡ outside
  call_value literals e n es is = value_is literals e ∙ ap (λ (x : NotedLayer). (node_parts (inner x)).value e.note e.pos s.text s.variables literals) is

  abbrev Writes : Target → Expr → Target → Expr → Type 0
  Writes target value x e = (target ≡ x) × (value ≡ e)

  -- what an assignment step writes
  called_writes : (sp sp' : Spot) (to : Destination) (literals : ℕ) (n : Name) (es : List NotedExpr) (at : Pos) (x : Target) (e : Expr)
      → called s.text s.variables sp to literals n es at End ≡ Assign sp' x (Value e) End → Writes to.target outside x e
  called_writes sp sp' to literals (name.Function f) es at x e h = absurd (cc)
  called_writes sp sp' to literals name.Getchar es at x e h = absurd (cc)
  called_writes sp sp' to literals name.Putchar es at x e h = absurd (cc)
  called_writes sp sp' to literals n es at x e h = (cc, cc)

  right_writes : (sp sp' : Spot) (to : Target) (literals : ℕ) (terminated : Bool) (f : NotedExpr) (d : NotedLayer) (x : Target) (e : Expr)
      → Assign sp to (right_form s.text s.variables literals terminated f d) End ≡ Assign sp' x (Value e) End → Writes to (expr_elaborated s.text s.variables literals f) x e
  right_writes sp sp' to literals terminated f (Node-F.Calloc w n u) x e h = absurd (cc)
  right_writes sp sp' to literals terminated f d x e h = (cc, cc)

  assigned_writes : (sp sp' : Spot) (to : Destination) (literals : ℕ) (f : NotedExpr) (x : Target) (e : Expr)
      → assigned s.text s.variables sp to literals f End ≡ Assign sp' x (Value e) End → Writes to.target (expr_elaborated s.text s.variables literals f) x e
  assigned_writes sp sp' to literals f x e h = by (out-Node Name Note f.node) refl h
    where
      by : (d : NotedLayer) → out-Node Name Note f.node ≡ d → assigned_form s.text s.variables sp to literals f d End ≡ Assign sp' x (Value e) End
          → Writes to.target (expr_elaborated s.text s.variables literals f) x e
      by (Node-F.Call n es) is h =
          let w = called_writes sp sp' to literals n es f.pos x e h in
          (w.0, call_value literals f n es is ∙ w.1)
      by d is h = right_writes sp sp' to.target literals to.terminated f (out-Node Name Note f.node) x e h

  -- a local that is written is named
  target_named : (t : CType) (q : Place) (d : NotedLayer) (k : ℕ) (w : Width) → target_form t q d ≡ Variable k w → (local_in d ≡ Some k) × (w ≡ width_of t)
  target_named t q (Node-F.Name (name.Local j)) k w h = (cc, cc)
  target_named t q (Node-F.Name n) k w h = absurd (cc)
  target_named t q d k w h = absurd (cc)

  local_written : (t : CType) (n : Name) (k : ℕ) (w : Width) → local_target t n ≡ Variable k w → (n ≡ name.Local k) × (w ≡ width_of t)
  local_written t (name.Local j) k w h = (cc, cc)
  local_written t n k w h = absurd (cc)

-- ---- the point after such a step

pub out_call : (e : NotedExpr) → out-Act Name Note (act.Call e) ≡ Act-F.Call e
out_call e = search (rules, the_lemmas)

pub out_return : (e : Option NotedExpr) → out-Act Name Note (act.Return e) ≡ Act-F.Return e
out_return e = search (rules, the_lemmas)

pub out_check : (e : NotedExpr) → out-Act Name Note (act.Check e) ≡ Act-F.Check e
out_check e = search (rules, the_lemmas)

pub out_bundle : (ss : _) → out-Act Name Note (act.Bundle ss) ≡ Act-F.Bundle ss
out_bundle ss = search (rules, the_lemmas)

-- one step in front of nothing
pub first_step : (f g : Code → Code) → ◌≡◌ {A = List (Code → Code)} (f ∷ []) (g ∷ []) → f End ≡ g End
first_step f g e = let p : f ≡ g = cc in ap (λ (h : Code → Code). h End) p

module _ (globals : Globals) (s : Setting) (agrees : Agrees globals s) (here there : Here) (sp : Spot) (k : ℕ) (w : Width) (e : Expr)
    (step : IsStep s here (Assign sp (Variable k w) (Value e)) there) (l : Local) (local_is : local_at s.frame k ≡ Some l) where
  -- the statement is an assignment to the local, or its declaration, with a value that is this expression
  pub data Kind : Type 0 where
    Assigns : (value : NotedExpr) (literals : ℕ) (a : IsAssignment globals s here k l value step.behind) (is : e ≡ expr_elaborated s.text s.variables literals value) (width : w ≡ width_of l.ctype) → Kind
    Declares : (first : NotedInit) (literals : ℕ) (a : IsDeclaration globals s here k l first step.behind) (is : Begins s literals first e) (width : w ≡ width_of l.ctype) → Kind

  -- what the statement becomes, by the layer of what it was judged to
  becomes_is : (x : ActLayer) → out-Act Name Note step.after.body ≡ x
      → act_code (parted x) step.after.pos step.after.note.mode s.text s.variables s.result step.literals ≡ Assign sp (Variable k w) (Value e) ∷ []
  becomes_is x is =
      ap (λ (y : ActLayer). act_code (parted y) step.after.pos step.after.note.mode s.text s.variables s.result step.literals) (sym is) ∙ sym (code_is s step.literals step.after) ∙ step.becomes

  as_assign : (p q : NotedExpr) → out-Act Name Note step.before.body ≡ Act-F.Assign p q → IsTypedStmt globals s step.before → Kind
  as_assign p q is typed =
      let both : IsTypedAct globals s (Act-F.Assign p q) = subst (IsTypedAct globals s) is typed in
      let judged : assign_judged s.frame s.head step.before.pos step.before.note p q here ≡ Ok (step.after, step.behind) =
      ap (λ (x : ActLayer). act_judged (viewed x) s.frame s.head step.before.pos step.before.note here) (sym is) ∙ sym (judged_is step.before s.frame s.head here) ∙ step.judged in
      let m = assign_made globals s step.before.pos step.before.note p q here step.after step.behind both.0 judged in
      let out : out-Act Name Note step.after.body ≡ Act-F.Assign m.0 m.1 = ap (λ (x : NotedStmt). out-Act Name Note x.body) m.2 ∙ out_assign globals s m.0 m.1 in
      let code_step = first_step (assigned s.text s.variables (spot step.after.pos step.after.note.mode) (destination_of s.text s.variables step.literals m.0) (step.literals + literals_of m.0) m.1)
      (Assign sp (Variable k w) (Value e)) (becomes_is (Act-F.Assign m.0 m.1) out) in
      let writes = assigned_writes s (spot step.after.pos step.after.note.mode) sp (destination_of s.text s.variables step.literals m.0) (step.literals + literals_of m.0) m.1 (Variable k w) e code_step in
      let named = target_named s m.0.note.ctype (place_elaborated s.text s.variables step.literals m.0) (out-Node Name Note m.0.node) k w writes.0 in
      let names : local_of p ≡ Some k = sym m.3 ∙ named.0 in
      Assigns m.1 (step.literals + literals_of m.0) (record {
        pos = step.before.pos;
        note = step.before.note;
        target = p;
        right = q;
        place = m.0;
        typed_target = both.0;
        typed_right = both.1;
        names = names;
        local = local_is;
        judged = judged ∙ ap (λ (x : NotedStmt). Ok (x, step.behind)) m.2;
      }) (sym writes.1) (named.1 ∙ ap width_of (m.4 ∙ sym (local_type globals s agrees p k l both.0 names local_is)))

  init_typed : (i : NotedInit) → IsTypedInit globals s i → (x : NotedExpr) → i ≡ init.One x → IsTyped globals s x
  init_typed i h x is = subst (IsTypedInit globals s) is h

  as_local : (d : NotedDecl) → out-Act Name Note step.before.body ≡ Act-F.Local d → IsTypedStmt globals s step.before → Kind
  as_local d is typed =
      let both : IsTypedAct globals s (Act-F.Local d) = subst (IsTypedAct globals s) is typed in
      let judged : local_judged s.frame step.before.pos step.before.note d here ≡ Ok (step.after, step.behind) =
      ap (λ (x : ActLayer). act_judged (viewed x) s.frame s.head step.before.pos step.before.note here) (sym is) ∙ sym (judged_is step.before s.frame s.head here) ∙ step.judged in
      let m = local_made globals s step.before.pos step.before.note d here step.after step.behind judged in
      let made : NotedDecl = record d { init = m.0 } in
      let out : out-Act Name Note step.after.body ≡ Act-F.Local made = ap (λ (x : NotedStmt). out-Act Name Note x.body) m.1 ∙ out_local globals s made in
      let code_step = first_step (declared s.text s.variables (spot step.after.pos step.after.note.mode) step.literals made) (Assign sp (Variable k w) (Value e)) (becomes_is (Act-F.Local made) out) in
      by both judged m.0 m.1 m.2 m.0 refl code_step
    where
      declares : IsTypedAct globals s (Act-F.Local d) → local_judged s.frame step.before.pos step.before.note d here ≡ Ok (step.after, step.behind) → (first : NotedInit)
          → step.after ≡ stated step.before.pos step.before.note (act.Local (record d { init = first })) → (literals : ℕ) → Begins s literals first e → local_target (type_written d.ctype) d.name ≡ Variable k w → Kind
      declares both judged first made literals begins target =
          let written = local_written s (type_written d.ctype) d.name k w target in
          let type_is : l.ctype ≡ type_written d.ctype = both.1 k l written.0 local_is in
          Declares first literals (record {
            pos = step.before.pos;
            note = step.before.note;
            decl = d;
            names = written.0;
            local = local_is;
            typed_local = type_is;
            typed_init = init_typed d.init both.0;
            judged = judged ∙ ap (λ (x : NotedStmt). Ok (x, step.behind)) made;
          }) begins (written.1 ∙ ap width_of (sym type_is))

      by : IsTypedAct globals s (Act-F.Local d) → local_judged s.frame step.before.pos step.before.note d here ≡ Ok (step.after, step.behind) → (first : NotedInit)
          → step.after ≡ stated step.before.pos step.before.note (act.Local (record d { init = first })) → ((es : List NotedExpr) → first ≡ init.Many es → (fs : List NotedExpr) × (d.init ≡ init.Many fs))
          → (i : NotedInit) → first ≡ i
          → started s.text s.variables (spot step.after.pos step.after.note.mode) (destination_for s.text (type_written d.ctype) d.name) (step.literals + literals_of_bounds d.bounds) i End ≡ Assign sp (Variable k w) (Value e) End → Kind
      by both judged first made many init.Nothing is h =
          let target : local_target (type_written d.ctype) d.name ≡ Variable k w = cc in
          let zero : e ≡ Number 0 = cc in
          declares both judged first made step.literals (subst (λ (i : NotedInit). Begins s step.literals i e) (sym is) zero) target
      by both judged first made many (init.One f) is h =
          let writes = assigned_writes s (spot step.after.pos step.after.note.mode) sp (destination_for s.text (type_written d.ctype) d.name) (step.literals + literals_of_bounds d.bounds) f (Variable k w) e h in
          declares both judged first made (step.literals + literals_of_bounds d.bounds) (subst (λ (i : NotedInit). Begins s (step.literals + literals_of_bounds d.bounds) i e) (sym is) (sym writes.1)) writes.0
      by both judged first made many (init.Many es) is h =
          let before = many es is in
          absurd (subst (IsTypedInit globals s) before.1 both.0)

  -- no other statement writes a local so
  other_code : (x : ActLayer) → out-Act Name Note step.after.body ≡ x → (f : Code → Code)
      → act_code (parted x) step.after.pos step.after.note.mode s.text s.variables s.result step.literals ≡ f ∷ [] → f End ≡ Assign sp (Variable k w) (Value e) End
  other_code x is f code_is = first_step f (Assign sp (Variable k w) (Value e)) (sym code_is ∙ becomes_is x is)

  as_call : (x : NotedExpr) → out-Act Name Note step.before.body ≡ Act-F.Call x → Kind
  as_call x is =
      let judged : call_judged s.frame step.before.pos step.before.note x here ≡ Ok (step.after, step.behind) =
      ap (λ (x : ActLayer). act_judged (viewed x) s.frame s.head step.before.pos step.before.note here) (sym is) ∙ sym (judged_is step.before s.frame s.head here) ∙ step.judged in
      let m = made_of (value_judged s.frame x here) (λ p. Ok (stated step.before.pos step.before.note (act.Call p.0), p.1)) (step.after, step.behind) judged in
      let last = pair_same (stated step.before.pos step.before.note (act.Call m.0.0)) step.after m.0.1 step.behind m.2 in
      let out : out-Act Name Note step.after.body ≡ Act-F.Call m.0.0 = ap (λ (x : NotedStmt). out-Act Name Note x.body) (sym last.0) ∙ out_call m.0.0 in
      let h = other_code (Act-F.Call m.0.0) out (assigned s.text s.variables (spot m.0.0.pos step.after.note.mode) nowhere step.literals m.0.0) refl in
      let writes = assigned_writes s (spot m.0.0.pos step.after.note.mode) sp nowhere step.literals m.0.0 (Variable k w) e h in
      let no : code.Nothing ≡ Variable k w = writes.0 in
      absurd (cc)

  as_return : (x : Option NotedExpr) → out-Act Name Note step.before.body ≡ Act-F.Return x → Kind
  as_return x is =
      let judged : return_judged s.frame s.head step.before.pos step.before.note x here ≡ Ok (step.after, step.behind) =
      ap (λ (x : ActLayer). act_judged (viewed x) s.frame s.head step.before.pos step.before.note here) (sym is) ∙ sym (judged_is step.before s.frame s.head here) ∙ step.judged in
      let m = made_of (maybe_judged s.frame x here) (λ p. unless (not (is_returned s.frame s.head p.0 here.next p.1)) not_contained step.before.pos (Ok (stated step.before.pos step.before.note (act.Return p.0), gone s.frame p.1)))
      (step.after, step.behind) judged in
      let q = passes (not (is_returned s.frame s.head m.0.0 here.next m.0.1)) not_contained step.before.pos (Ok (stated step.before.pos step.before.note (act.Return m.0.0), gone s.frame m.0.1)) (step.after, step.behind) m.2 in
      let last = pair_same (stated step.before.pos step.before.note (act.Return m.0.0)) step.after (gone s.frame m.0.1) step.behind q in
      let out : out-Act Name Note step.after.body ≡ Act-F.Return m.0.0 = ap (λ (x : NotedStmt). out-Act Name Note x.body) (sym last.0) ∙ out_return m.0.0 in
      let h = other_code (Act-F.Return m.0.0) out (code.Return (spot step.after.pos step.after.note.mode) (returned s.text s.variables s.result step.literals m.0.0)) refl in
      absurd (cc)

  as_check : (x : NotedExpr) → out-Act Name Note step.before.body ≡ Act-F.Check x → Kind
  as_check x is =
      let judged : check_judged s.frame step.before.pos step.before.note x here ≡ Ok (step.after, step.behind) =
      ap (λ (x : ActLayer). act_judged (viewed x) s.frame s.head step.before.pos step.before.note here) (sym is) ∙ sym (judged_is step.before s.frame s.head here) ∙ step.judged in
      let m = made_of (value_judged s.frame x here) (λ p. Ok (stated step.before.pos step.before.note (act.Check p.0), record p.1 { at = side_of s.frame true p.0 p.1.at })) (step.after, step.behind) judged in
      let last = pair_same (stated step.before.pos step.before.note (act.Check m.0.0)) step.after (record m.0.1 { at = side_of s.frame true m.0.0 m.0.1.at }) step.behind m.2 in
      let out : out-Act Name Note step.after.body ≡ Act-F.Check m.0.0 = ap (λ (x : NotedStmt). out-Act Name Note x.body) (sym last.0) ∙ out_check m.0.0 in
      let h = other_code (Act-F.Check m.0.0) out (code.Check (spot step.after.pos step.after.note.mode) (expr_elaborated s.text s.variables step.literals m.0.0)) refl in
      absurd (cc)

  as_bundle : (ss : List NotedStmt) → out-Act Name Note step.before.body ≡ Act-F.Bundle ss → Kind
  unfolding bundle_judged
  as_bundle ss is =
      let paths = map path ss in
      let judged : bundle_judged s.frame s.head step.before.pos step.before.note paths here ≡ Ok (step.after, step.behind) =
      ap (λ (x : ActLayer). act_judged (viewed x) s.frame s.head step.before.pos step.before.note here) (sym is) ∙ sym (judged_is step.before s.frame s.head here) ∙ step.judged in
      let m = made_of (parts_judged s.frame step.before.pos paths here) (λ p. unless (not (is_good p.1 p.0)) bad_bundle step.before.pos
      (bind (behind_stores s.frame s.head p.0 here.next p.1) (λ h. Ok (stated step.before.pos step.before.note (act.Bundle p.0), h)))) (step.after, step.behind) judged in
      let q = passes (not (is_good m.0.1 m.0.0)) bad_bundle step.before.pos
      (bind (behind_stores s.frame s.head m.0.0 here.next m.0.1) (λ h. Ok (stated step.before.pos step.before.note (act.Bundle m.0.0), h))) (step.after, step.behind) m.2 in
      let n = made_of (behind_stores s.frame s.head m.0.0 here.next m.0.1) (λ h. Ok (stated step.before.pos step.before.note (act.Bundle m.0.0), h)) (step.after, step.behind) q in
      let last = pair_same (stated step.before.pos step.before.note (act.Bundle m.0.0)) step.after n.0 step.behind n.2 in
      let out : out-Act Name Note step.after.body ≡ Act-F.Bundle m.0.0 = ap (λ (x : NotedStmt). out-Act Name Note x.body) (sym last.0) ∙ out_bundle m.0.0 in
      let h = other_code (Act-F.Bundle m.0.0) out (code.Bundle (spot step.after.pos step.after.note.mode) (all_assigns (map part_of m.0.0) s.text s.variables step.literals)) refl in
      absurd (cc)

  kind_of_step : IsTypedStmt globals s step.before → Kind
  kind_of_step typed = by (out-Act Name Note step.before.body) refl (step.simple)
    where
      by : (d : ActLayer) → out-Act Name Note step.before.body ≡ d → is_simple d ≡ true → Kind
      by (Act-F.Local d) is simple = as_local d is typed
      by (Act-F.Assign p q) is simple = as_assign p q is typed
      by (Act-F.Call x) is simple = as_call x is
      by (Act-F.Return x) is simple = as_return x is
      by (Act-F.Check x) is simple = as_check x is
      by (Act-F.Bundle ss) is simple = as_bundle ss is
      by d is simple = absurd (cc)

  -- ---- the point after the step

  still_reached : (form : Option Form) → here.at.reached ≡ true → (assigned_point s.frame k form here.at).reached ≡ true
  still_reached form reached =
      subst (λ (b : Bool). (if b then local_assigned s.frame k (local_at s.frame k) form here.at else here.at).reached ≡ true) (sym reached)
      (by (local_at s.frame k))
    where
      by : (o : Option Local) → (local_assigned s.frame k o form here.at).reached ≡ true
      by None = reached
      by (Some m) = reached

  module _ (store : Store) (v : Drawn) (reached : here.at.reached ≡ true) (words : HoldWords s.frame store.locals) (all : AreTrue s.frame store.locals here.at.facts)
      (within : k < length store.locals) (small : v.number < 2 ^ 32) (is : evaluated store e ≡ Ok v) where
    abbrev now : Width → List ℕ
    now x = slice_set store.locals k (kept_part x v.number)

    fits : IsWordOf l.ctype (kept_part (width_of l.ctype) v.number)
    fits = by (is_char l.ctype) refl
      where
        by : (b : Bool) → is_char l.ctype ≡ b → IsWordOf l.ctype (kept_part (if b then Byte else Word) v.number)
        by true c = byte_word l.ctype (v.number % 256) c (omega arith)
        by false c = wide_word l.ctype v.number c small

    now_words : HoldWords s.frame (now (width_of l.ctype))
    now_words j m there = ⊎_elim
        (λ (p, d). let j_is : j ≡ k = d in
        let same : m ≡ l = some_is m l (sym there ∙ ap (local_at s.frame) j_is ∙ local_is) in
        subst (λ i. IsWordOf m.ctype (slice_index (now (width_of l.ctype)) i)) (sym j_is)
        (subst (λ (x : Local). IsWordOf x.ctype (slice_index (now (width_of l.ctype)) k)) (sym same)
        (subst (λ n. IsWordOf l.ctype n) (sym (get_or-set_same store.locals k (kept_part (width_of l.ctype) v.number) 0 within)) fits)))
        (λ (p, d). subst (λ n. IsWordOf m.ctype n) (sym (get_or-set_other store.locals k j (kept_part (width_of l.ctype) v.number) 0 d)) (words j m there))
        (eqb_tells j k)

    -- what is known at the point that the statement was judged to is known where control goes
    goes : AreTrue s.frame (now (width_of l.ctype)) step.behind.at.facts → (form : Option Form) → step.behind.at ≡ assigned_point s.frame k form here.at → AreTrue s.frame (now (width_of l.ctype)) there.at.facts
    goes h form behind_is =
        let open_point : step.behind.at.reached ≡ true = ap (λ (x : State). x.reached) behind_is ∙ still_reached form reached in
        (step.goes.known open_point).facts (now (width_of l.ctype)) now_words h

    pub step_holds : IsTypedStmt globals s step.before → AreTrue s.frame (now w) there.at.facts
    step_holds typed = by (kind_of_step typed)
      where
        by : Kind → AreTrue s.frame (now w) there.at.facts
        by (Assigns value literals a means width) =
            let p = assigned_is globals s agrees here step.behind k l value a in
            subst (λ x. AreTrue s.frame (now x) there.at.facts) (sym width)
            (goes (behind_assignment globals s agrees here step.behind k literals l store v reached words all within small value a (sym (ap (evaluated store) means) ∙ is)) (value_form s.frame l.ctype value here.at.facts) p.0)
        by (Declares first literals a begins width) =
            let p = declared_is globals s here step.behind k l first literals e begins a in
            subst (λ x. AreTrue s.frame (now x) there.at.facts) (sym width)
            (goes (behind_declaration globals s agrees here step.behind k literals l store v reached words all within small first e a begins is) (start_form s.frame l.ctype first here.at.facts) p.0)

  -- the same of the state after the step
  pub state_holds : (shapes : List Shape) (before after : states.State) → IsTypedStmt globals s step.before → here.at.reached ≡ true → HoldWords s.frame before.frame.locals
      → AreTrue s.frame before.frame.locals here.at.facts → k < length before.frame.locals → ((v : Drawn) → evaluated (store_of shapes before) e ≡ Ok v → v.number < 2 ^ 32)
      → bundled shapes before ((Variable k w, Value e) ∷ []) ≡ Ok after → AreTrue s.frame after.frame.locals there.at.facts
  state_holds shapes before after typed reached words all within small is =
      let z = given_is (evaluated (store_of shapes before) e)
      (λ (v : Drawn). Ok (record before { frame = record before.frame { locals = slice_set before.frame.locals k (kept_part w v.number) } })) after (written is) in
      let locals_are : slice_set before.frame.locals k (kept_part w z.0.number) ≡ after.frame.locals = ap (λ (x : states.State). x.frame.locals) (state_same z.2) in
      subst (λ ls. AreTrue s.frame ls there.at.facts) locals_are
      (step_holds (store_of shapes before) z.0 reached words all within (small z.0 z.1) z.1 typed)
    where
      state_same : {x : states.State} → ◌≡◌ {A = Result states.State Halt} (Ok x) (Ok after) → x ≡ after
      state_same h = cc

      made : ℕ → stepping.Drawn
      made n = record { number = n; state = before }

      written : bundled shapes before ((Variable k w, Value e) ∷ []) ≡ Ok after
          → given (evaluated (store_of shapes before) e) (λ (v : Drawn). Ok (record before { frame = record before.frame { locals = slice_set before.frame.locals k (kept_part w v.number) } })) ≡ Ok after
      written h = by (evaluated (store_of shapes before) e) h
        where
          by : (o : Result Drawn Halt)
              → given (given (given o (λ (v : Drawn). Ok (made v.number)))
              (λ d. given (allowed (place.Local k w) d.number) (λ to. given (planned shapes d.state []) (λ p. Ok (and_then_written to d.number p)))))
              (λ p. all_written p.writes p.state) ≡ Ok after
              → given o (λ (v : Drawn). Ok (record before { frame = record before.frame { locals = slice_set before.frame.locals k (kept_part w v.number) } })) ≡ Ok after
          by (Ok v) h = h
          by (Err x) h = h
