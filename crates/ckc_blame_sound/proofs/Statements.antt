-- The facts of the point after a judged assignment or declaration of a local are true.
use Rattle.std.proofs.Common.{◌≡◌, refl, sym, ap, subst, ◌∙◌, ℕ, Bool, true, false, List, [], ◌∷◌, rules, arith}
use Rattle.std.specs.Prelude.{◌<◌, ◌^◌, ◌==◌, not, if◌then◌else◌, pos, length, slice_set, Option, None, Some, Ok, Err}
use Rattle.ckc_base.specs.declared.places.Pos.{Pos}
use Rattle.ckc_base.specs.declared.arithmetic.Mode.{Mode}
use Rattle.ckc_base.specs.declared.places.Refusal.{Refusal}
use Rattle.ckc_base.specs.Memory.{kept_part}
use Rattle.ckc_base.specs.Outcomes.{Outcome, bind, unless}
use Rattle.ckc_types.specs.declared.types.CType.{CType}
use Rattle.ckc_syntax.specs.declared.tree.Name.{Name}
use Rattle.ckc_syntax.specs.declared.tree.Name.TheVariants as name
use Rattle.ckc_syntax.specs.declared.tree.Init.TheVariants as init
use Rattle.ckc_syntax.specs.declared.tree.Node.{Node-F, out-Node}
use Rattle.ckc_syntax.specs.declared.tree.Act.{Act-F, out-Act, the_lemmas}
use Rattle.ckc_syntax.specs.declared.tree.Act.TheVariants as act
use Rattle.ckc_syntax.specs.declared.tree.Expr.{every_here-Expr}
use Rattle.ckc_typed.specs.declared.environment.Globals.{Globals}
use Rattle.ckc_typed.specs.declared.typed.Note.{Note}
use Rattle.ckc_typed.specs.Environment.{type_of_name}
use Rattle.ckc_typed.specs.Trees.{NotedAct, NotedDecl, NotedExpr, NotedInit, NotedLayer, NotedStmt}
use Rattle.ckc_typed.specs.Types.{is_char, type_written}
use Rattle.ckc_typed_welltyped.specs.Expressions.{AnyLimits, AnyNode, HasType}
use Rattle.ckc_bounds.specs.ckc_bounds_points.specs.declared.frame.Local.{Local}
use Rattle.ckc_bounds.specs.ckc_bounds_points.specs.Frames.{local_at}
use Rattle.ckc_bounds.specs.ckc_bounds_points.specs.Flow.{State, assigned}
use Rattle.ckc_bounds.specs.ckc_bounds_points.specs.Forms.{constant_form, in_type}
use Rattle.ckc_bounds.specs.ckc_bounds_points.specs.Codes.{not_contained}
use Rattle.ckc_bounds.specs.ckc_bounds_stores.specs.Targets.{local_named, local_in, local_of}
use Rattle.ckc_bounds.specs.ckc_bounds_stores.specs.Stores.{with_store, stores_of, numbered, assigned_local, after, first_fault, unless_refused, stored_placed}
use Rattle.ckc_bounds.specs.ckc_bounds_views.specs.Parts.{fresh_behind}
use Rattle.ckc_bounds.specs.ckc_bounds_views.specs.Views.{view}
use Rattle.ckc_bounds.specs.ckc_bounds_statements.specs.Paths.{Here, value_judged, values_judged, maybe_judged, init_judged, starts_within, started, start_form, declared_here, bounds_judged, decl_judged, stated, sides_judged, stores_judged, behind_stores, assign_judged, local_judged, value_form}
use Rattle.ckc_base.specs.declared.arithmetic.Width.TheVariants.{Byte, Word}
use Rattle.ckc_source.specs.declared.expr.Integer.{Integer}
use Rattle.ckc_source.specs.declared.expr.Integer.TheVariants.{Int, Unsigned, Char}
use Rattle.ckc_source.specs.Words.{exact}
use Rattle.ckc_source.specs.declared.outcome.Value.{Value}
use Rattle.ckc_source.specs.Code.{Expr}
use Rattle.ckc_source.specs.Eval.{Store, evaluated}
use Rattle.ckc_build_values.specs.Kinds.{integer_of, width_of}
use Rattle.ckc_build_values.specs.Expressions.{expr_elaborated}
use Rattle.ckc_blame_sound.specs.Settings.{Setting}
use Rattle.ckc_blame_sound.specs.Values.{AreTrue, HoldWords, IsWordOf}
use Rattle.ckc_blame_sound.proofs.Flow.{facts_assigned_hold, integer_value}
use Rattle.ckc_blame_sound.specs.Steps.{IsCondition}
use Rattle.ckc_blame_sound.specs.Typed.{IsRow, HasRow, IsTyped, IsTypedIf, Agrees}
use Rattle.ckc_blame_sound.specs.code.Assigned.{IsAssignment, IsDeclaration, Begins}
use Rattle.ckc_blame_sound.proofs.Types.{none_is_some}
use Rattle.ckc_blame_sound.proofs.Claims.{plain_is}
use Rattle.ckc_blame_sound.proofs.Judging.{IsAlike, IsGood, Gives, outline, expr_judged as judging}
use Rattle.ckc_blame_sound.proofs.Holding.{assignment_holds, side_comes}

-- ---- what is Ok

pub made_of : {A B : Type 0} (o : Outcome A) (h : A → Outcome B) (b : B) → bind o h ≡ Ok b → (a : A) × (o ≡ Ok a) × (h a ≡ Ok b)
made_of (Ok a) h b e = (a, refl, e)
made_of (Err r) h b e = absurd (cc)

pub pair_same : {A B : Type 0} (a b : A) (c d : B) → ◌≡◌ {A = Outcome (A × B)} (Ok (a, c)) (Ok (b, d)) → (a ≡ b) × (c ≡ d)
pair_same {A} {B} a b c d e = let p : ◌≡◌ {A = A × B} (a, c) (b, d) = cc in (ap (λ (x : A × B). x.0) p, ap (λ (x : A × B). x.1) p)

ok_is : {A : Type 0} (a b : A) → ◌≡◌ {A = Outcome A} (Ok a) (Ok b) → a ≡ b
ok_is a b e = cc

pub passes : {A : Type 0} (b : Bool) (code : ℕ) (at : Pos) (o : Outcome A) (a : A) → unless b code at o ≡ Ok a → o ≡ Ok a
passes true code at o a e = absurd (cc)
passes false code at o a e = e

module _ (globals : Globals) (s : Setting) where
  -- A value that is judged leaves the point, is typed, and is of the type and the outline of what it was.
  pub record Stays (e : NotedExpr) (here : Here) (f : NotedExpr) (there : Here) : Type 0 where
    pub at : there.at ≡ here.at
    pub counting : there.counting ≡ here.counting
    pub alike : IsAlike e f
    pub typed : IsTyped globals s f

  stays_by : (e : NotedExpr) (here : Here) → IsTyped globals s e → (f : NotedExpr) (there : Here) → (b : Bool) (o : Outcome NotedExpr) → Gives (IsGood globals s e) o
      → bind {B = NotedExpr × Here} (if b then Ok e else o) (λ g. Ok (g, record here { next = fresh_behind (view s.frame e) here.next here.at })) ≡ Ok (f, there) → Stays e here f there
  stays_by e here w f there true o g h =
      let p = pair_same e f (record here { next = fresh_behind (view s.frame e) here.next here.at }) there h in
      record {
        at = sym (ap (λ (x : Here). x.at) p.1);
        counting = sym (ap (λ (x : Here). x.counting) p.1);
        alike = subst (IsAlike e) p.0 (record { ctype = refl; outline_is = refl });
        typed = subst (IsTyped globals s) p.0 w;
      }
  stays_by e here w f there false (Ok d) g h =
      let p = pair_same d f (record here { next = fresh_behind (view s.frame e) here.next here.at }) there h in
      record {
        at = sym (ap (λ (x : Here). x.at) p.1);
        counting = sym (ap (λ (x : Here). x.counting) p.1);
        alike = subst (IsAlike e) p.0 g.alike;
        typed = subst (IsTyped globals s) p.0 g.typed;
      }
  stays_by e here w f there false (Err r) g h = absurd (cc)

  pub stays : (e : NotedExpr) (here : Here) (f : NotedExpr) (there : Here) → IsTyped globals s e → value_judged s.frame e here ≡ Ok (f, there) → Stays e here f there
  unfolding value_judged
  stays e here f there w h = stays_by e here w f there here.counting ((view s.frame e).judged here.next here.at) ((judging globals s e).judged w here.next here.at) h

  -- the same of a condition
  maybe_stays : (before after : Option NotedExpr) (here there : Here) → IsTypedIf globals s before → maybe_judged s.frame before here ≡ Ok (after, there)
      → (there.at ≡ here.at) × IsTypedIf globals s after
  maybe_stays None after here there w h =
      let p = pair_same {A = Option NotedExpr} None after here there h in
      (sym (ap (λ (x : Here). x.at) p.1), subst (IsTypedIf globals s) p.0 tt)
  maybe_stays (Some e) after here there w h =
      let m = made_of (value_judged s.frame e here) (λ p. Ok (Some p.0, p.1)) (after, there) h in
      let t = stays e here m.0.0 m.0.1 w m.1 in
      let p = pair_same {A = Option NotedExpr} (Some m.0.0) after m.0.1 there m.2 in
      (sym (ap (λ (x : Here). x.at) p.1) ∙ t.at, subst (IsTypedIf globals s) p.0 t.typed)

  pub condition_holds : (agrees : Agrees globals s) (mode : Mode) (here sure other : Here) (e : Expr) (store : Store) (v : Value) (c : IsCondition s mode here e sure other) → IsTypedIf globals s c.before
      → HoldWords s.frame store.locals → AreTrue s.frame store.locals here.at.facts → evaluated store e ≡ Ok v → AreTrue s.frame store.locals (if v.number == 0 then other else sure).at.facts
  condition_holds agrees mode here sure other e store v c typed words all is =
      let m = maybe_stays c.before c.after here c.behind typed c.judged in
      side_comes globals s agrees sure other c.behind e c.literals store v words (subst (λ (at : State). AreTrue s.frame store.locals at.facts) (sym m.0) all) is c.after m.1 c.becomes c.true_side c.false_side
      (v.number == 0) refl

  -- ---- assignments

  pub out_assign : (e f : NotedExpr) → out-Act Name Note (act.Assign e f) ≡ Act-F.Assign e f
  out_assign e f = search (rules, the_lemmas)

  abbrev Bare : Type 0
  Bare = Node-F Name Note (Unit {0}) (Unit {0}) (Unit {0})

  abbrev bare_local : Bare → Option ℕ
  bare_local (Node-F.Name n) = local_named n
  bare_local n = None

  local_outline : (n : NotedLayer) → local_in n ≡ bare_local (outline n)
  local_outline (Node-F.Name n) = refl
  local_outline n = refl

  local_same : (e f : NotedExpr) → IsAlike e f → local_of f ≡ local_of e
  local_same e f a = local_outline (out-Node Name Note f.node) ∙ ap bare_local a.outline_is ∙ sym (local_outline (out-Node Name Note e.node))

  is_named : (n : Name) (k : ℕ) → local_named n ≡ Some k → n ≡ name.Local k
  is_named (name.Local j) k e = cc
  is_named n k e = none_is_some k e

  -- a local by its name has its declared type
  typed_name : (mode : Mode) (n : NotedLayer) (t : CType) (k : ℕ) → HasType globals s.variables mode n t → local_in n ≡ Some k → type_of_name globals s.variables (name.Local k) ≡ Some t
  typed_name mode (Node-F.Name n) t k h e = subst (λ m. type_of_name globals s.variables m ≡ Some t) (is_named n k e) h
  typed_name mode n t k h e = none_is_some k e

  pub local_type : (agrees : Agrees globals s) (e : NotedExpr) (k : ℕ) (l : Local) → IsTyped globals s e → local_of e ≡ Some k → local_at s.frame k ≡ Some l → l.ctype ≡ e.note.ctype
  local_type agrees e k l w named there =
      let row : IsRow globals s (out-Node Name Note e.node) e.note = every_here-Expr Name Note AnyLimits AnyNode (HasRow globals s) e w in
      agrees.locals k l e.note.ctype there (typed_name row.mode (out-Node Name Note e.node) e.note.ctype k row.row named)

  -- what is known after assignments, whatever they owe
  known_behind : (b : Bool) (r : Option Refusal) (at there : State) → (if b then Ok at else unless_refused r at) ≡ Ok there → at ≡ there
  known_behind true r at there e = cc
  known_behind false None at there e = cc
  known_behind false (Some r) at there e = absurd (cc)

  stored_is : (ss : List NotedStmt) (first : ℕ) (h : Here) (st : State) → stores_judged s.frame s.head ss first h ≡ Ok st
      → after s.frame h.at.facts (numbered s.frame h.at 0 first (stores_of ss)) h.at ≡ st
  unfolding stored_placed
  stored_is ss first h st e =
      known_behind h.counting (first_fault s.frame s.head.bounds h.seen (numbered s.frame h.at 0 first (stores_of ss)) h.at)
      (after s.frame h.at.facts (numbered s.frame h.at 0 first (stores_of ss)) h.at) st e

  one_store : (a f : NotedExpr) (pos : Pos) (note : Note) (first k : ℕ) (at : State) → local_of a ≡ Some k
      → after s.frame at.facts (numbered s.frame at 0 first (stores_of (stated pos note (act.Assign a f) ∷ []))) at
      ≡ assigned s.frame k (in_type at.facts a.note.ctype ((view s.frame f).form at.facts)) at
  one_store a f spot note first k at named =
      ap (λ (x : Act-F Name Note NotedAct NotedStmt). after s.frame at.facts (numbered s.frame at 0 first (with_store x spot [])) at) (out_assign a f)
      ∙ ap (assigned_local s.frame (in_type at.facts a.note.ctype ((view s.frame f).form at.facts)) at) named

  sides_are : (pos : Pos) (note : Note) (a f b g : NotedExpr) → ◌≡◌ {A = NotedStmt} (stated pos note (act.Assign a f)) (stated pos note (act.Assign b g)) → (a ≡ b) × (f ≡ g)
  sides_are spot note a f b g e =
      let o : ◌≡◌ {A = Act-F Name Note NotedAct NotedStmt} (Act-F.Assign a f) (Act-F.Assign b g) =
      sym (out_assign a f) ∙ ap (λ (x : NotedStmt). out-Act Name Note x.body) e ∙ out_assign b g in
      (cc, cc)

  -- what a judged assignment becomes
  pub assign_made : (spot : Pos) (note : Note) (e f : NotedExpr) (here : Here) (st : NotedStmt) (there : Here) → IsTyped globals s e → assign_judged s.frame s.head spot note e f here ≡ Ok (st, there)
      → (a : NotedExpr) × (b : NotedExpr) × (st ≡ stated spot note (act.Assign a b)) × (local_of a ≡ local_of e) × (a.note.ctype ≡ e.note.ctype)
  assign_made spot note e f here st there w h =
      let m = made_of (sides_judged s.frame spot note e f here) (λ p. bind (behind_stores s.frame s.head (p.0 ∷ []) here.next p.1) (λ h. Ok (p.0, h))) (st, there) h in
      let n = made_of (behind_stores s.frame s.head (m.0.0 ∷ []) here.next m.0.1) (λ h. Ok (m.0.0, h)) (st, there) m.2 in
      let last = pair_same m.0.0 st n.0 there n.2 in
      let p = made_of (value_judged s.frame e here) (λ p. bind (value_judged s.frame f p.1) (λ q. Ok (stated spot note (act.Assign p.0 q.0), q.1))) m.0 m.1 in
      let q = made_of (value_judged s.frame f p.0.1) (λ q. Ok (stated spot note (act.Assign p.0.0 q.0), q.1)) m.0 p.2 in
      let both : ◌≡◌ {A = NotedStmt × Here} (stated spot note (act.Assign p.0.0 q.0.0), q.0.1) m.0 = ok_is (stated spot note (act.Assign p.0.0 q.0.0), q.0.1) m.0 q.2 in
      let t = stays e here p.0.0 p.0.1 w p.1 in
      (p.0.0, q.0.0, sym (ap (λ (x : NotedStmt × Here). x.0) both ∙ last.0), local_same e p.0.0 t.alike, t.alike.ctype)

  -- what a judged declaration becomes
  pub local_made : (spot : Pos) (note : Note) (d : NotedDecl) (here : Here) (st : NotedStmt) (there : Here) → local_judged s.frame spot note d here ≡ Ok (st, there)
      → (first : NotedInit) × (st ≡ stated spot note (act.Local (record d { init = first }))) × ((es : List NotedExpr) → first ≡ init.Many es → (fs : List NotedExpr) × (d.init ≡ init.Many fs))
  local_made spot note d here st there h =
      let m = made_of (decl_judged s.frame d here) (λ p. Ok (stated spot note (act.Local p.0), p.1)) (st, there) h in
      let last = pair_same (stated spot note (act.Local m.0.0)) st m.0.1 there m.2 in
      let n = made_of (bounds_judged s.frame d here) (λ b. bind (init_judged s.frame d.init here) (λ p.
      unless (not (starts_within s.frame d.name p.0 here.next p.1)) not_contained d.pos (Ok (record d { init = p.0 }, declared_here s.frame d p.0 p.1)))) m.0 m.1 in
      let i = made_of (init_judged s.frame d.init here) (λ p.
      unless (not (starts_within s.frame d.name p.0 here.next p.1)) not_contained d.pos (Ok (record d { init = p.0 }, declared_here s.frame d p.0 p.1))) m.0 n.2 in
      let j = passes (not (starts_within s.frame d.name i.0.0 here.next i.0.1)) not_contained d.pos (Ok (record d { init = i.0.0 }, declared_here s.frame d i.0.0 i.0.1)) m.0 i.2 in
      let made : ◌≡◌ {A = NotedDecl × Here} (record d { init = i.0.0 }, declared_here s.frame d i.0.0 i.0.1) m.0 =
      ok_is (record d { init = i.0.0 }, declared_here s.frame d i.0.0 i.0.1) m.0 j in
      (i.0.0, sym (ap (λ (x : NotedDecl × Here). stated spot note (act.Local x.0)) made ∙ last.0), λ es many. many_before d.init i.0.0 i.0.1 i.1 es many)
    where
      many_before : (x first : NotedInit) (h : Here) → init_judged s.frame x here ≡ Ok (first, h) → (es : List NotedExpr) → first ≡ init.Many es → (fs : List NotedExpr) × (x ≡ init.Many fs)
      many_before init.Nothing first h is es many = let p = pair_same {A = NotedInit} init.Nothing first here h is in let no : ◌≡◌ {A = NotedInit} init.Nothing (init.Many es) = p.0 ∙ many in absurd (cc)
      many_before (init.One e) first h is es many =
          let m = made_of (value_judged s.frame e here) (λ p. Ok (init.One p.0, p.1)) (first, h) is in
          let p = pair_same {A = NotedInit} (init.One m.0.0) first m.0.1 h m.2 in
          let no : ◌≡◌ {A = NotedInit} (init.One m.0.0) (init.Many es) = p.0 ∙ many in
          absurd (cc)
      many_before (init.Many fs) first h is es many = (fs, refl)

  -- the point after a judged assignment
  pub assigned_is : (agrees : Agrees globals s) (here there : Here) (k : ℕ) (l : Local) (value : NotedExpr) (a : IsAssignment globals s here k l value there)
      → (there.at ≡ assigned s.frame k (value_form s.frame l.ctype value here.at.facts) here.at) × IsTyped globals s value
  unfolding value_form
  assigned_is agrees here there k l value a =
      let m = made_of (sides_judged s.frame a.pos a.note a.target a.right here) (λ p. bind (behind_stores s.frame s.head (p.0 ∷ []) here.next p.1) (λ h. Ok (p.0, h)))
      (stated a.pos a.note (act.Assign a.place value), there) a.judged in
      let n = made_of (behind_stores s.frame s.head (m.0.0 ∷ []) here.next m.0.1) (λ h. Ok (m.0.0, h)) (stated a.pos a.note (act.Assign a.place value), there) m.2 in
      let last = pair_same m.0.0 (stated a.pos a.note (act.Assign a.place value)) n.0 there n.2 in
      let p = made_of (value_judged s.frame a.target here) (λ p. bind (value_judged s.frame a.right p.1) (λ q. Ok (stated a.pos a.note (act.Assign p.0 q.0), q.1))) m.0 m.1 in
      let q = made_of (value_judged s.frame a.right p.0.1) (λ q. Ok (stated a.pos a.note (act.Assign p.0.0 q.0), q.1)) m.0 p.2 in
      let both : ◌≡◌ {A = NotedStmt × Here} (stated a.pos a.note (act.Assign p.0.0 q.0.0), q.0.1) m.0 = ok_is (stated a.pos a.note (act.Assign p.0.0 q.0.0), q.0.1) m.0 q.2 in
      let t = stays a.target here p.0.0 p.0.1 a.typed_target p.1 in
      let r = stays a.right p.0.1 q.0.0 q.0.1 a.typed_right q.1 in
      let sides = sides_are a.pos a.note p.0.0 q.0.0 a.place value (ap (λ (x : NotedStmt × Here). x.0) both ∙ last.0) in
      let at_is : m.0.1.at ≡ here.at = ap (λ (x : NotedStmt × Here). x.1.at) (sym both) ∙ r.at ∙ t.at in
      let o = made_of (stores_judged s.frame s.head (m.0.0 ∷ []) here.next m.0.1) (λ at. Ok (record m.0.1 { at = at })) n.0 n.1 in
      let st : o.0 ≡ there.at = ap (λ (x : Here). x.at) (ok_is (record m.0.1 { at = o.0 }) n.0 o.2 ∙ last.1) in
      let named : local_of a.place ≡ Some k = ap local_of (sym sides.0) ∙ local_same a.target p.0.0 t.alike ∙ a.names in
      let type_is : a.place.note.ctype ≡ l.ctype =
      ap (λ (x : NotedExpr). x.note.ctype) (sym sides.0) ∙ t.alike.ctype ∙ sym (local_type agrees a.target k l a.typed_target a.names a.local) in (
        sym st ∙ sym (stored_is (m.0.0 ∷ []) here.next m.0.1 o.0 o.1)
            ∙ ap (λ (x : NotedStmt). after s.frame m.0.1.at.facts (numbered s.frame m.0.1.at 0 here.next (stores_of (x ∷ []))) m.0.1.at) last.0
            ∙ one_store a.place value a.pos a.note here.next k m.0.1.at named
            ∙ ap (λ (x : State). assigned s.frame k (in_type x.facts a.place.note.ctype ((view s.frame value).form x.facts)) x) at_is
            ∙ ap (λ u. assigned s.frame k (in_type here.at.facts u ((view s.frame value).form here.at.facts)) here.at) type_is,
        subst (IsTyped globals s) sides.1 r.typed,
      )

  -- ---- declarations

  pub out_local : (d : NotedDecl) → out-Act Name Note (act.Local d) ≡ Act-F.Local d
  out_local d = search (rules, the_lemmas)

  local_is : (spot : Pos) (note : Note) (d e : NotedDecl) → ◌≡◌ {A = NotedStmt} (stated spot note (act.Local d)) (stated spot note (act.Local e)) → d ≡ e
  local_is spot note d e h =
      let o : ◌≡◌ {A = Act-F Name Note NotedAct NotedStmt} (Act-F.Local d) (Act-F.Local e) =
      sym (out_local d) ∙ ap (λ (x : NotedStmt). out-Act Name Note x.body) h ∙ out_local e in
      cc

  -- an initialiser that is judged leaves the point and is typed
  abbrev InitTyped : NotedInit → Type 0
  InitTyped (init.One f) = IsTyped globals s f
  InitTyped i = Unit {0}

  init_stays : (i first : NotedInit) (here there : Here) → ((e : NotedExpr) → i ≡ init.One e → IsTyped globals s e) → ((literals : ℕ) (e : Expr) → Begins s literals first e → init_judged s.frame i here ≡ Ok (first, there)
      → (there.at ≡ here.at) × InitTyped first)
  init_stays init.Nothing first here there w literals e b h =
      let p = pair_same {A = NotedInit} init.Nothing first here there h in
      (sym (ap (λ (x : Here). x.at) p.1), subst InitTyped p.0 tt)
  init_stays (init.One e) first here there w literals x b h =
      let m = made_of (value_judged s.frame e here) (λ p. Ok (init.One p.0, p.1)) (first, there) h in
      let t = stays e here m.0.0 m.0.1 (w e refl) m.1 in
      let p = pair_same {A = NotedInit} (init.One m.0.0) first m.0.1 there m.2 in
      (sym (ap (λ (x : Here). x.at) p.1) ∙ t.at, subst InitTyped p.0 t.typed)
  init_stays (init.Many es) first here there w literals e b h =
      let m = made_of (values_judged s.frame es here) (λ p. Ok (init.Many p.0, p.1)) (first, there) h in
      let p = pair_same {A = NotedInit} (init.Many m.0.0) first m.0.1 there m.2 in
      absurd (subst (λ (i : NotedInit). Begins s literals i e) (sym p.0) b)

  -- the point after a judged declaration
  pub declared_is : (here there : Here) (k : ℕ) (l : Local) (first : NotedInit) (literals : ℕ) (e : Expr) → Begins s literals first e → (a : IsDeclaration globals s here k l first there)
      → (there.at ≡ assigned s.frame k (start_form s.frame l.ctype first here.at.facts) here.at) × InitTyped first
  declared_is here there k l first literals e b a =
      let d : NotedDecl = record a.decl { init = first } in
      let m = made_of (decl_judged s.frame a.decl here) (λ p. Ok (stated a.pos a.note (act.Local p.0), p.1)) (stated a.pos a.note (act.Local d), there) a.judged in
      let last = pair_same (stated a.pos a.note (act.Local m.0.0)) (stated a.pos a.note (act.Local d)) m.0.1 there m.2 in
      let same_decl : m.0.0 ≡ d = local_is a.pos a.note m.0.0 d last.0 in
      let n = made_of (bounds_judged s.frame a.decl here) (λ b. bind (init_judged s.frame a.decl.init here) (λ p.
      unless (not (starts_within s.frame a.decl.name p.0 here.next p.1)) not_contained a.decl.pos (Ok (record a.decl { init = p.0 }, declared_here s.frame a.decl p.0 p.1)))) m.0 m.1 in
      let i = made_of (init_judged s.frame a.decl.init here) (λ p.
      unless (not (starts_within s.frame a.decl.name p.0 here.next p.1)) not_contained a.decl.pos (Ok (record a.decl { init = p.0 }, declared_here s.frame a.decl p.0 p.1))) m.0 n.2 in
      let j = passes (not (starts_within s.frame a.decl.name i.0.0 here.next i.0.1)) not_contained a.decl.pos
      (Ok (record a.decl { init = i.0.0 }, declared_here s.frame a.decl i.0.0 i.0.1)) m.0 i.2 in
      let made : ◌≡◌ {A = NotedDecl × Here} (record a.decl { init = i.0.0 }, declared_here s.frame a.decl i.0.0 i.0.1) m.0 =
      ok_is (record a.decl { init = i.0.0 }, declared_here s.frame a.decl i.0.0 i.0.1) m.0 j in
      let first_is : i.0.0 ≡ first = ap (λ (x : NotedDecl × Here). x.0.init) made ∙ ap (λ (x : NotedDecl). x.init) same_decl in
      let judged : init_judged s.frame a.decl.init here ≡ Ok (first, i.0.1) = i.1 ∙ ap (λ (x : NotedInit). Ok (x, i.0.1)) first_is in
      let t = init_stays a.decl.init first here i.0.1 a.typed_init literals e b judged in (
        sym (ap (λ (x : Here). x.at) last.1) ∙ sym (ap (λ (x : NotedDecl × Here). x.1.at) made)
            ∙ ap (λ (x : NotedInit). started s.frame a.decl.name (type_written a.decl.ctype) x i.0.1.at) first_is
            ∙ ap (λ (x : State). started s.frame a.decl.name (type_written a.decl.ctype) first x) t.0
            ∙ ap (λ (n : Name). started s.frame n (type_written a.decl.ctype) first here.at) a.names
            ∙ ap (λ (u : CType). assigned s.frame k (start_form s.frame u first here.at.facts) here.at) (sym a.typed_local),
        t.1,
      )

  -- ---- the next point

  module _ (agrees : Agrees globals s) (here there : Here) (k literals : ℕ) (l : Local) (store : Store) (v : Value) (reached : here.at.reached ≡ true)
      (words : HoldWords s.frame store.locals) (all : AreTrue s.frame store.locals here.at.facts) (within : k < length store.locals) (small : v.number < 2 ^ 32) where
    abbrev Next : Type 0
    Next = AreTrue s.frame (slice_set store.locals k (kept_part (width_of l.ctype) v.number)) there.at.facts

    pub behind_assignment : (value : NotedExpr) → IsAssignment globals s here k l value there → evaluated store (expr_elaborated s.text s.variables literals value) ≡ Ok v → Next
    behind_assignment value a is =
        let p = assigned_is agrees here there k l value a in
        subst (λ (at : State). AreTrue s.frame (slice_set store.locals k (kept_part (width_of l.ctype) v.number)) at.facts) (sym p.0)
        (assignment_holds globals s agrees value literals store v p.1 words is k l here.at reached all a.local within small)

    -- what begins with 0
    zero_word : v.number ≡ 0 → kept_part (width_of l.ctype) v.number ≡ 0
    zero_word zero_is = ap (kept_part (width_of l.ctype)) zero_is ∙ by (is_char l.ctype)
      where
        by : (b : Bool) → kept_part (if b then Byte else Word) 0 ≡ 0
        by true = refl
        by false = refl

    zero_value : (i : Integer) → exact i 0 ≡ pos 0
    zero_value Int = refl
    zero_value Unsigned = refl
    zero_value Char = refl

    zero_fits : IsWordOf l.ctype 0
    zero_fits = by (is_char l.ctype)
      where
        by : (b : Bool) → 0 < (if b then 256 else 2 ^ 32)
        by true = omega arith
        by false = omega arith

    behind_zero : v.number ≡ 0 → local_at s.frame k ≡ Some l → there.at ≡ assigned s.frame k (Some (constant_form (pos 0))) here.at → Next
    behind_zero zero_is here_is there_is =
        subst (λ (at : State). AreTrue s.frame (slice_set store.locals k (kept_part (width_of l.ctype) v.number)) at.facts) (sym there_is)
        (subst (λ n. AreTrue s.frame (slice_set store.locals k n) (assigned s.frame k (Some (constant_form (pos 0))) here.at).facts) (sym (zero_word zero_is))
        (facts_assigned_hold s.frame store.locals k 0 l (Some (constant_form (pos 0))) here.at reached here_is within zero_fits
        (λ i. integer_value l 0 i ∙ zero_value (integer_of l.ctype)) all))

    pub behind_declaration : (first : NotedInit) (e : Expr) → IsDeclaration globals s here k l first there → Begins s literals first e → evaluated store e ≡ Ok v → Next
    behind_declaration init.Nothing e a b is =
        let p = declared_is here there k l init.Nothing literals e b a in
        behind_zero (plain_is 0 v (sym (ap (evaluated store) b) ∙ is)) a.local p.0
    behind_declaration (init.One f) e a b is =
        let p = declared_is here there k l (init.One f) literals e b a in
        subst (λ (at : State). AreTrue s.frame (slice_set store.locals k (kept_part (width_of l.ctype) v.number)) at.facts) (sym p.0)
        (assignment_holds globals s agrees f literals store v p.1 words (sym (ap (evaluated store) b) ∙ is) k l here.at reached all a.local within small)
    behind_declaration (init.Many fs) e a b is = absurd b
