-- Assignments and declarations of a judged text are typed.
use Rattle.std.proofs.Common.{◌≡◌, ◌⊎◌, inl, inr, ⊎_elim, refl, sym, ap, subst, ◌∙◌, ℕ, Bool, true, false, List, [], ◌∷◌, length}
use Rattle.std.specs.Prelude.{◌<◌, ◌&&◌, slice_get, Option, None, Some, Ok}
use Rattle.std.specs.List.{All, AllByRecursion, Contains}
use Rattle.std.proofs.lemmas.Option.{slice_get_within}
use Rattle.std.proofs.lemmas.List.{length-map}
use Rattle.std.proofs.lemmas.List.Elements.{All-nil, All-cons, All-contains}
use Rattle.ckc_base.specs.declared.arithmetic.Mode.{Mode}
use Rattle.ckc_base.specs.declared.places.Pos.{Pos}
use Rattle.ckc_syntax.specs.declared.tree.Name.{Name}
use Rattle.ckc_syntax.specs.declared.tree.Name.TheVariants as name
use Rattle.ckc_syntax.specs.declared.tree.Node.{Node-F, map-Node, out-Node, fold-Node, fold-roll-Node}
use Rattle.ckc_syntax.specs.declared.tree.Limits.{Limits-F, fold-Limits}
use Rattle.ckc_syntax.specs.declared.tree.Expr.{Expr-F, fold-Expr, fold-roll-Expr, every_here-Expr}
use Rattle.ckc_syntax.specs.declared.tree.Act.{Act-F, out-Act}
use Rattle.ckc_types.specs.declared.types.CType.{CType, CType-F, out-CType}
use Rattle.ckc_typed.specs.declared.environment.Variable.{Variable}
use Rattle.ckc_typed.specs.declared.typed.Note.{Note}
use Rattle.ckc_typed.specs.declared.typed.Typed.{Typed}
use Rattle.ckc_typed.specs.Conversions.{pointer_takes, kind_converts, converts}
use Rattle.ckc_typed.specs.Environment.{variable_declared, type_of_name, variables_of}
use Rattle.ckc_typed.specs.Trees.{NotedAct, NotedDecl, NotedExpr, NotedLayer, NotedLimits, NotedNode, NotedStmt, NotedHead}
use Rattle.ckc_typed.specs.Types.{is_char, is_char_form, is_integer, is_integer_form, is_pointer, type_written}
use Rattle.ckc_typed_welltyped.specs.Expressions.{AnyLimits, AnyNode, HasType, IsNoted, WellTypedExpr}
use Rattle.ckc_typed_welltyped.specs.Statements.{IsAssignment, act_rows, WellTypedStmt}
use Rattle.ckc_typed_welltyped.proofs.ByParts.{stmt_by_parts}
use Rattle.ckc_blame_sound.specs.ckc_bounds.specs.Frames.{all_of, types_frame}
use Rattle.ckc_blame_sound.specs.ckc_bounds_known.proofs.Reaching.{and_cases}
use Rattle.ckc_blame_sound.specs.ckc_bounds_points.specs.declared.frame.Frame.{Frame}
use Rattle.ckc_blame_sound.specs.ckc_bounds_points.specs.declared.frame.Local.{Local}
use Rattle.ckc_blame_sound.specs.ckc_bounds_points.specs.Frames.{local_at}
use Rattle.ckc_blame_sound.specs.ckc_bounds_points.specs.Flow.{State}
use Rattle.ckc_blame_sound.specs.ckc_bounds_views.specs.Parts.{View}
use Rattle.ckc_blame_sound.specs.ckc_bounds_views.specs.Views.{view}
use Rattle.ckc_blame_sound.specs.ckc_bounds_stores.specs.declared.values.Numbered.{Numbered}
use Rattle.ckc_blame_sound.specs.ckc_bounds_stores.specs.Targets.{local_named, local_in, local_of}
use Rattle.ckc_blame_sound.specs.ckc_bounds_stores.specs.Stores.{with_store, stores_of, numbered}
use Rattle.ckc_source.specs.Code.{Function}
use Rattle.ckc_blame_sound.specs.Bodies.{globals_of_text, IsInBody}
use Rattle.ckc_blame_sound.specs.Settings.{Setting, IsFunction, frame_of_text, setting_of}
use Rattle.ckc_blame_sound.proofs.Facts.{one_of}
use Rattle.ckc_blame_sound.proofs.Types.{no_pointer}
use Rattle.ckc_blame_sound.specs.JudgedTexts.{IsJudged, globals_in}
use Rattle.ckc_blame_sound.proofs.Frames.{types_numbered, made_types, named_type, statics_named, variables_have, variables_have_types, locals_made, locals_counted}
use Rattle.ckc_blame_sound.proofs.Functions.{numbered as numbered_names}
use Rattle.ckc_blame_sound.proofs.KeptTrees.{same_fold}
use Rattle.ckc_blame_sound.proofs.SameViews.{same_view}
use Rattle.ckc_blame_given.specs.Written.{IsFitting}
use Rattle.ckc_blame_given.specs.Stored.{IsAssignJudged, next_fresh, AreAssignsJudged}
use Rattle.ckc_blame_given.proofs.Named.{node_back}
use Rattle.ckc_blame_given.proofs.Given.{view_is}

-- ---- what judging keeps

-- the name that a node of an expression is, whatever is said of its parts
abbrev pub name_layer : {A L M E : Type 0} → Node-F Name A L M E → Option Name
name_layer (Node-F.Name n) = Some n
name_layer n = None

abbrev pub name_of : NotedExpr → Option Name
name_of e = name_layer (out-Node Name Note e.node)

abbrev limits_any : Limits-F Name Note (Unit {0}) (Option Name) (Option Name) → Unit {0}
limits_any l = tt

abbrev whole : Expr-F Name Note (Unit {0}) (Option Name) (Option Name) → Option Name
whole e = e.node

abbrev name_fold : NotedExpr → Option Name
name_fold = fold-Expr Name Note (Unit {0}) (Option Name) (Option Name) limits_any name_layer whole

abbrev name_node : NotedNode → Option Name
name_node = fold-Node Name Note (Unit {0}) (Option Name) (Option Name) limits_any name_layer whole

abbrev name_limits : NotedLimits → Unit {0}
name_limits = fold-Limits Name Note (Unit {0}) (Option Name) (Option Name) limits_any name_layer whole

fold_is : (e : NotedExpr) → name_fold e ≡ name_of e
fold_is e =
    fold-roll-Expr Name Note (Unit {0}) (Option Name) (Option Name) limits_any name_layer whole (record { node = e.node; pos = e.pos; note = e.note })
    ∙ ap name_node (sym (node_back e.node)) ∙ fold-roll-Node Name Note (Unit {0}) (Option Name) (Option Name) limits_any name_layer whole (out-Node Name Note e.node)
    ∙ by (out-Node Name Note e.node)
  where
    by : (x : NotedLayer) → name_layer (map-Node Name Note NotedLimits NotedNode NotedExpr (Unit {0}) (Option Name) (Option Name) name_limits name_node name_fold x) ≡ name_layer x
    by (Node-F.Name n) = refl
    by x = refl

-- the local that a name is
abbrev local_by : Option Name → Option ℕ
local_by (Some n) = local_named n
local_by None = None

local_is : (e : NotedExpr) → local_of e ≡ local_by (name_of e)
local_is e = by (out-Node Name Note e.node)
  where
    by : (x : NotedLayer) → local_in x ≡ local_by (name_layer x)
    by (Node-F.Name n) = refl
    by x = refl

module _ (frame : Frame) (e f : NotedExpr) (fresh : ℕ) (at : State) (is : (view frame e).judged fresh at ≡ Ok f) where
  -- judging keeps which name an expression is
  pub same_name : name_of f ≡ name_of e
  same_name =
      sym (fold_is f) ∙ same_fold frame (Unit {0}) (Option Name) (Option Name) limits_any name_layer whole (λ n pos note r. refl) e f fresh at is ∙ fold_is e

  -- and so which local
  pub same_local : local_of f ≡ local_of e
  same_local = local_is f ∙ ap local_by same_name ∙ sym (local_is e)

  -- and its type
  pub same_type : f.note.ctype ≡ e.note.ctype
  same_type = ap (λ (v : View). v.ctype) (sym (view_is frame f)) ∙ ap (λ (v : View). v.ctype) (same_view frame e f fresh at is frame) ∙ ap (λ (v : View). v.ctype) (view_is frame e)

-- ---- types

char_integer : (t : CType) → is_char t ≡ true → is_integer t ≡ true
char_integer t h = by (out-CType t) h
  where
    by : (x : CType-F CType) → is_char_form x ≡ true → is_integer_form x ≡ true
    by CType-F.Char h = refl
    by x h = absurd (cc)

-- what goes to a `char` is no pointer
pub char_bare : (t : CType) (f : NotedExpr) → is_char t ≡ true → converts t f ≡ true → is_pointer f.note.ctype ≡ false
char_bare t f c h = ⊎_elim
    (λ p. no_pointer f.note.ctype (and_cases (is_integer t) (is_integer f.note.ctype) p).1)
    (λ p. (let no' : true ≡ false = sym (and_cases (is_pointer t) (pointer_takes kind_converts t f) p).0 ∙ no_pointer t (char_integer t c) in absurd cc))
    (one_of (is_integer t && is_integer f.note.ctype) (is_pointer t && pointer_takes kind_converts t f) h)

-- ---- variables

types_counted : (p : Typed) (h : NotedHead) (body : NotedStmt) → length (types_numbered (all_of h body)) ≡ length (variables_of body.note.mode h body)
types_counted p h body =
    let frame = frame_of_text p in
    ap length (sym (made_types (types_frame frame h body) true (all_of h body))) ∙ length-map (locals_made frame h body) (λ (x : Local). x.ctype) ∙ locals_counted frame h body

module _ (p : Typed) (s : Setting) (fn : Function) (j : IsJudged p) (i : IsFunction p s fn) where
  text_is : globals_of_text s.text ≡ globals_in p
  unfolding setting_of
  text_is = ap (λ (x : Setting). globals_of_text x.text) i.judged

  variables_are : s.variables ≡ variables_of i.body.note.mode i.head i.body
  unfolding setting_of
  variables_are = ap (λ (x : Setting). x.variables) i.judged

  short : (k : ℕ) (t : CType) → slice_get (types_numbered (all_of i.head i.body)) k ≡ Some t → k < length s.variables
  short k t e =
      subst (λ vs. k < length vs) (sym variables_are)
      (subst (λ m. k < m) (types_counted p i.head i.body) (slice_get_within (types_numbered (all_of i.head i.body)) k t e))

  -- a local that has a type is one of the variables
  typed_below : (k : ℕ) (t : CType) → type_of_name (globals_of_text s.text) s.variables (name.Local k) ≡ Some t → k < length s.variables
  typed_below k t e =
      short k t
      (named_type (globals_in p) i.head i.body k t (numbered_names p i.head i.body j i.there) (statics_named p j)
      (subst (λ vs. type_of_name (globals_in p) vs (name.Local k) ≡ Some t) variables_are (subst (λ g. type_of_name g s.variables (name.Local k) ≡ Some t) text_is e)))

  local_below : (mode : Mode) (e : NotedExpr) → WellTypedExpr (globals_of_text s.text) s.variables mode e → (k : ℕ) → local_of e ≡ Some k → k < length s.variables
  local_below mode e w k h =
      by (out-Node Name Note e.node) (every_here-Expr Name Note AnyLimits AnyNode (IsNoted (globals_of_text s.text) s.variables mode) e w).row h
    where
      by : (x : NotedLayer) → HasType (globals_of_text s.text) s.variables mode x e.note.ctype → local_in x ≡ Some k → k < length s.variables
      by (Node-F.Name (name.Local i)) row h = let same : i ≡ k = cc in subst (λ n. n < length s.variables) same (typed_below i e.note.ctype row)
      by (Node-F.Name n) row h = absurd (cc)
      by x row h = absurd (cc)

  -- one assignment
  one_fits : (mode : Mode) (e f a b : NotedExpr) (fresh next : ℕ) (at : State) → IsAssignment (globals_of_text s.text) s.variables mode e f → (view s.frame e).judged fresh at ≡ Ok a
      → (view s.frame f).judged next at ≡ Ok b → (pos : Pos) (first : Numbered) → IsFitting s (record { target = a; right = b; pos = pos; from = first })
  one_fits mode e f a b fresh next at w left right pos first = record {
    below = λ k h. local_below mode e w.left k (sym (same_local s.frame e a fresh at left) ∙ h);
    bare = λ c.
        ap is_pointer (same_type s.frame f b next at right)
        ∙ char_bare e.note.ctype f (ap is_char (sym (same_type s.frame e a fresh at left)) ∙ c) w.converted;
  }

  row_of : (st : NotedStmt) (mode : Mode) (looped : Bool) → WellTypedStmt (globals_of_text s.text) s.variables s.result st mode looped
      → act_rows (globals_of_text s.text) s.variables s.result (WellTypedStmt (globals_of_text s.text) s.variables s.result) (out-Act Name Note st.body) mode looped
  row_of st mode looped w = ((stmt_by_parts (globals_of_text s.text) s.variables s.result st mode looped).0 w).row

  abbrev Row : Mode → Bool → Act-F Name Note NotedAct NotedStmt → Type 0
  Row mode looped x = act_rows (globals_of_text s.text) s.variables s.result (WellTypedStmt (globals_of_text s.text) s.variables s.result) x mode looped

  all_fit : (mode : Mode) (looped : Bool) (befores afters : List NotedStmt) (at : State) (fresh : ℕ) → AreAssignsJudged s at fresh befores afters
      → AllByRecursion (λ st. WellTypedStmt (globals_of_text s.text) s.variables s.result st mode looped) befores → (point : State) (value first : ℕ)
      → All (IsFitting s) (numbered s.frame point value first (stores_of afters))
  unfolding AreAssignsJudged
  all_fit mode looped [] [] at fresh h w point value first = All-nil (IsFitting s)
  all_fit mode looped [] (after ∷ afters) at fresh h w point value first = absurd h
  all_fit mode looped (before ∷ befores) [] at fresh h w point value first = absurd h
  all_fit mode looped (before ∷ befores) (after ∷ afters) at fresh h w point value first =
      let a : IsAssignJudged s at fresh before after = h.0 in
      let row : Row mode looped (Act-F.Assign a.target a.right) = subst (Row mode looped) a.is (row_of before mode looped w.0) in
      subst (λ x. All (IsFitting s) (numbered s.frame point value first (with_store x after.pos (stores_of afters)))) (sym a.becomes)
      (All-cons (IsFitting s) _ _ (one_fits mode a.target a.right a.place a.value fresh _ at row a.target_judged a.right_judged after.pos _)
      (all_fit mode looped befores afters at (next_fresh s at fresh before after a) h.1 w.1 point _ _))

  -- the assignments of a step
  pub step_fits : (before : NotedStmt) → IsInBody s before → (befores afters : List NotedStmt) (at : State) (fresh : ℕ)
      → ((befores ≡ before ∷ []) ⊎ (out-Act Name Note before.body ≡ Act-F.Bundle befores)) → AreAssignsJudged s at fresh befores afters → (point : State) (value first : ℕ)
      → All (IsFitting s) (numbered s.frame point value first (stores_of afters))
  step_fits before inside befores afters at fresh (inl is) h point value first =
      all_fit inside.mode inside.looped befores afters at fresh h
      (subst (AllByRecursion (λ st. WellTypedStmt (globals_of_text s.text) s.variables s.result st inside.mode inside.looped)) (sym is) (inside.typed, tt)) point value first
  step_fits before inside befores afters at fresh (inr is) h point value first =
      all_fit inside.mode inside.looped befores afters at fresh h (subst (Row inside.mode inside.looped) is (row_of before inside.mode inside.looped inside.typed)) point value first

  -- a declaration
  pub declared_fits : (d : NotedDecl) (k : ℕ) → Contains s.variables (variable_declared d) → d.name ≡ name.Local k
      → (k < length s.variables) × ((l : Local) → local_at s.frame k ≡ Some l → l.ctype ≡ type_written d.ctype)
  declared_fits d k c is =
      let among : Contains (variables_of i.body.note.mode i.head i.body) (variable_declared d) = subst (λ vs. Contains vs (variable_declared d)) variables_are c in
      let typed : (m : ℕ) → d.name ≡ name.Local m → slice_get (types_numbered (all_of i.head i.body)) m ≡ Some (type_written d.ctype) =
      All-contains (λ (v : Variable). (m : ℕ) → v.name ≡ name.Local m → slice_get (types_numbered (all_of i.head i.body)) m ≡ Some v.ctype) (variables_of i.body.note.mode i.head i.body) (variable_declared d)
      (variables_have i.head i.body (numbered_names p i.head i.body j i.there)) among in
      (short k (type_written d.ctype) (typed k is), λ l there. variables_have_types p s fn j i (variable_declared d) k l c is there)
