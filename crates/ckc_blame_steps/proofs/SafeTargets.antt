-- A step that stores through no unchecked pointer has targets to which no unchecked pointer leads.
use Rattle.std.proofs.Common.{◌≡◌, ◌∙◌, sym, ap, subst, refl, inl, inr, ℕ, ◌+◌, Bool, true, false, List, [], ◌∷◌, map}
use Rattle.std.specs.Prelude.{◌⊎◌, ◌||◌, Ok}
use Rattle.std.specs.List.{AllByRecursion, list_any}
use Rattle.std.proofs.lemmas.List.Folds.{list_any-append}
use Rattle.ckc_base.specs.declared.places.Pos.{Pos}
use Rattle.ckc_base.specs.Outcomes.{Outcome}
use Rattle.ckc_syntax.specs.declared.tree.Name.{Name}
use Rattle.ckc_syntax.specs.declared.tree.Name.TheVariants as name
use Rattle.ckc_syntax.specs.declared.tree.TreeOp.TheVariants as op
use Rattle.ckc_syntax.specs.declared.tree.Node.{Node-F, out-Node}
use Rattle.ckc_syntax.specs.declared.tree.Act.{Act-F, out-Act, fold-roll-Act}
use Rattle.ckc_syntax.specs.declared.tree.Stmt.{fold-roll-Stmt}
use Rattle.ckc_typed.specs.declared.environment.Globals.{Globals}
use Rattle.ckc_typed.specs.declared.environment.Variable.{Variable}
use Rattle.ckc_typed.specs.declared.typed.Note.{Note}
use Rattle.ckc_typed.specs.declared.typed.Typed.{Typed}
use Rattle.ckc_typed.specs.Expressions.{is_object_form, is_placed}
use Rattle.ckc_typed.specs.Statements.{is_variable_form, is_function_name, is_call_form, is_named, is_text_call}
use Rattle.ckc_typed.specs.Trees.{NotedExpr, NotedLayer, NotedStmt}
use Rattle.ckc_typed.specs.Types.{kind_of}
use Rattle.ckc_typed_welltyped.specs.Statements.{IsTarget}
use Rattle.ckc_blame_sound.specs.ckc_bounds_points.specs.Flow.{State}
use Rattle.ckc_blame_sound.specs.ckc_bounds_views.specs.Views.{view}
use Rattle.ckc_source.specs.declared.stmt.Spot.{Spot}
use Rattle.ckc_source.specs.Code.{Target, Right, End}
use Rattle.ckc_build_values.specs.Kinds.{through_kind}
use Rattle.ckc_build_values.specs.Expressions.{Part, part_of, place_elaborated}
use Rattle.ckc_build_elaborate.specs.Steps.{Destination, target_form, target_of, destination_of, called, assigned, assigned_form}
use Rattle.ckc_build_elaborate.specs.Statements as statements
use Rattle.ckc_build_elaborate.specs.Statements.{ActPart, all_assigns, act_assigns, act_parts, stmt_parts, part_of_act}
use Rattle.ckc_blame_sound.specs.Settings.{Setting}
use Rattle.ckc_blame_sound.specs.Typed.{IsTyped}
use Rattle.ckc_blame_sound.proofs.Judging.{IsGood, Gives, expr_judged, outline}
use Rattle.ckc_blame_sound.proofs.Stepping.{ActLayer, act_back, parted}
use Rattle.ckc_blame_given.proofs.Layers.{part_by, part_is}
use Rattle.ckc_blame_steps.specs.Unchecked.{is_raw_through, goes_raw, stores_raw}

-- ---- a target

-- an unchecked pointer leads to what this one points to
abbrev pub leads_raw : NotedExpr → Bool
leads_raw e = is_raw_through (through_kind (kind_of e.note.ctype))

-- one leads to a structure
abbrev pub is_raw_place : NotedLayer → Bool
is_raw_place (Node-F.Un op.Deref e) = leads_raw e
is_raw_place (Node-F.Index e f) = leads_raw e
is_raw_place x = false

-- one leads to a target
abbrev pub is_raw_target : NotedLayer → Bool
is_raw_target (Node-F.Un op.Deref e) = leads_raw e
is_raw_target (Node-F.Index e f) = leads_raw e
is_raw_target (Node-F.Arrow e n at) = leads_raw e
is_raw_target (Node-F.Dot e n at) = is_raw_place (out-Node Name Note e.node)
is_raw_target x = false

module _ (p : Typed) (locals : List Variable) (k : ℕ) where
  leads_safe : (e : NotedExpr) → is_raw_through (through_kind (kind_of (part_of e).ctype)) ≡ false → leads_raw e ≡ false
  leads_safe e h = ap (λ (q : Part). is_raw_through (through_kind (kind_of q.ctype))) (sym (part_is e)) ∙ h

  place_safe : (e : NotedExpr) → is_raw_through (place_elaborated p locals k e).access.through ≡ false → is_raw_place (out-Node Name Note e.node) ≡ false
  place_safe e h = by (out-Node Name Note e.node) (ap (λ (q : Part). is_raw_through (q.place p locals k).access.through) (sym (part_is e)) ∙ h)
    where
      by : (x : NotedLayer) → is_raw_through ((part_by e x).place p locals k).access.through ≡ false → is_raw_place x ≡ false
      by (Node-F.Un op.Deref f) h = leads_safe f h
      by (Node-F.Index f g) h = leads_safe f h
      by x h = refl

  pub target_safe : (e : NotedExpr) → goes_raw (target_of p locals k e) ≡ false → is_raw_target (out-Node Name Note e.node) ≡ false
  target_safe e h = by (out-Node Name Note e.node) (ap (λ (q : Part). goes_raw (target_form e.note.ctype (q.place p locals k) (out-Node Name Note e.node))) (sym (part_is e)) ∙ h)
    where
      by : (x : NotedLayer) → goes_raw (target_form e.note.ctype ((part_by e x).place p locals k) x) ≡ false → is_raw_target x ≡ false
      by (Node-F.Un op.Deref f) h = leads_safe f h
      by (Node-F.Index f g) h = leads_safe f h
      by (Node-F.Arrow f n at) h = leads_safe f h
      by (Node-F.Dot f n at) h = place_safe f h
      by x h = refl

-- ---- an assignment alone

module _ (p : Typed) (locals : List Variable) (at : Spot) (to : Destination) (k : ℕ) where
  called_safe : (n : Name) (es : List NotedExpr) (pos : Pos) → is_function_name n ≡ false → stores_raw (called p locals at to k n es pos End) ≡ false → goes_raw to.target ≡ false
  called_safe (name.Function f) es pos none h = absurd (cc)
  called_safe name.Getchar es pos none h = h
  called_safe name.Putchar es pos none h = h
  called_safe n es pos none h = h

  -- What it assigns is no call of a function of the text, whose result goes to a name.
  pub assigned_safe : (f : NotedExpr) → is_text_call f ≡ false → stores_raw (assigned p locals at to k f End) ≡ false → goes_raw to.target ≡ false
  assigned_safe f none h = by (out-Node Name Note f.node) none h
    where
      by : (x : NotedLayer) → is_call_form x ≡ false → stores_raw (assigned_form p locals at to k f x End) ≡ false → goes_raw to.target ≡ false
      by (Node-F.Call n es) none h = called_safe n es f.pos none h
      by x none h = h

-- ---- an assignment as it is judged

call_outline : (n : NotedLayer) → is_call_form n ≡ is_call_form (outline n)
call_outline (Node-F.Call n es) = refl
call_outline n = refl

abbrev is_named_form : {A L M E : Type 0} → Globals → List Variable → Node-F Name A L M E → Bool
is_named_form globals variables n = is_variable_form variables n || is_object_form globals n

named_outline : (globals : Globals) (variables : List Variable) (n : NotedLayer) → is_named_form globals variables n ≡ is_named_form globals variables (outline n)
named_outline globals variables (Node-F.Name n) = refl
named_outline globals variables n = refl

-- no pointer leads to a name
named_safe : (globals : Globals) (variables : List Variable) (n : NotedLayer) → is_named_form globals variables n ≡ true → is_raw_target n ≡ false
named_safe globals variables (Node-F.Name n) h = refl
named_safe globals variables n h = absurd (cc)

module _ (globals : Globals) (s : Setting) (at : State) where
  outline_kept : (e g : NotedExpr) (fresh : ℕ) → IsTyped globals s e → (view s.frame e).judged fresh at ≡ Ok g → outline (out-Node Name Note g.node) ≡ outline (out-Node Name Note e.node)
  outline_kept e g fresh typed judged =
      let P : Outcome NotedExpr → Type 0 = λ o. Gives (IsGood globals s e) o in
      let good : IsGood globals s e g = subst P judged ((expr_judged globals s e).judged typed fresh at) in
      good.alike.outline_is

  -- No unchecked pointer leads to what an assignment writes that stores through none.
  pub assignment_safe : (e f g h : NotedExpr) (first second : ℕ) → IsTyped globals s e → IsTyped globals s f → (view s.frame e).judged first at ≡ Ok g → (view s.frame f).judged second at ≡ Ok h
      → IsTarget globals s.variables e f → (spot : Spot) (j k : ℕ) → stores_raw (assigned s.text s.variables spot (destination_of s.text s.variables j g) k h End) ≡ false
      → is_raw_target (out-Node Name Note g.node) ≡ false
  assignment_safe e f g h first second left right place value target spot j k safe = by target.1
    where
      to : Destination
      to = destination_of s.text s.variables j g

      by : (is_named globals s.variables e ≡ true) ⊎ ((is_placed e ≡ true) × (is_text_call f ≡ false)) → is_raw_target (out-Node Name Note g.node) ≡ false
      by (inl named) =
          named_safe globals s.variables (out-Node Name Note g.node)
          (named_outline globals s.variables (out-Node Name Note g.node) ∙ ap (is_named_form globals s.variables) (outline_kept e g first left place)
          ∙ sym (named_outline globals s.variables (out-Node Name Note e.node)) ∙ named)
      by (inr placed) =
          target_safe s.text s.variables j g
          (assigned_safe s.text s.variables spot to k h
          (call_outline (out-Node Name Note h.node) ∙ ap is_call_form (outline_kept f h second right value) ∙ sym (call_outline (out-Node Name Note f.node)) ∙ placed.1) safe)

-- ---- the assignments of a bundle

-- no unchecked pointer leads to the target of an assignment
abbrev pub AreSafeSides : ActLayer → Type 0
AreSafeSides (Act-F.Assign e f) = is_raw_target (out-Node Name Note e.node) ≡ false
AreSafeSides x = Unit {0}

abbrev pub AreSafeParts : List NotedStmt → Type 0
AreSafeParts ss = AllByRecursion (λ (st : NotedStmt). AreSafeSides (out-Act Name Note st.body)) ss

pub assigns_as : (s : Setting) (k : ℕ) (st : NotedStmt) → (statements.part_of st).assigns s.text s.variables k ≡ act_assigns (parted (out-Act Name Note st.body)) s.text s.variables k
assigns_as s k st =
    ap (λ (q : statements.Part). q.assigns s.text s.variables k)
    (fold-roll-Stmt Name Note ActPart statements.Part act_parts stmt_parts (record { body = st.body; pos = st.pos; note = st.note }))
    ∙ ap (λ (a : ActPart). a.assigns s.text s.variables k)
    (ap part_of_act (sym (act_back st.body)) ∙ fold-roll-Act Name Note ActPart statements.Part act_parts stmt_parts (out-Act Name Note st.body))

either_false : (a b : Bool) → (a || b) ≡ false → (a ≡ false) × (b ≡ false)
either_false true b h = absurd (cc)
either_false false b h = (refl, h)

abbrev any_raw : List (Target × Right) → Bool
any_raw = list_any (λ (a : Target × Right). goes_raw a.0)

sides_safe : (s : Setting) (k : ℕ) (x : ActLayer) → any_raw (act_assigns (parted x) s.text s.variables k) ≡ false → AreSafeSides x
sides_safe s k (Act-F.Assign e f) h = target_safe s.text s.variables k e (either_false (goes_raw (target_of s.text s.variables k e)) false h).0
sides_safe s k x h = tt

pub assigns_safe : (s : Setting) (k : ℕ) (ss : List NotedStmt) → any_raw (all_assigns (map statements.part_of ss) s.text s.variables k) ≡ false → AreSafeParts ss
assigns_safe s k [] h = tt
assigns_safe s k (st ∷ ss) h =
    let first : List (Target × Right) = (statements.part_of st).assigns s.text s.variables k in
    let rest : List (Target × Right) = all_assigns (map statements.part_of ss) s.text s.variables (k + (statements.part_of st).literals) in
    let both = either_false (any_raw first) (any_raw rest) (sym (list_any-append (λ (a : Target × Right). goes_raw a.0) first rest) ∙ h) in (
      sides_safe s k (out-Act Name Note st.body) (ap any_raw (sym (assigns_as s k st)) ∙ both.0),
      assigns_safe s (k + (statements.part_of st).literals) ss both.1,
    )
