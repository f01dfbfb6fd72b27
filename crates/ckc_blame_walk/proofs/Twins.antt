-- Statements that differ in the ranges of their expressions alone: the first walk through both is the same.
use Rattle.std.proofs.Common.{◌≡◌, refl, sym, ap, subst, ◌∙◌, ℕ, Bool, true, List, [], ◌∷◌, map, rules}
use Rattle.std.specs.Prelude.{◌==◌, not, if◌then◌else◌, Option, None, Some, Ok, Err}
use Rattle.ckc_base.specs.declared.places.Pos.{Pos}
use Rattle.ckc_base.specs.Outcomes.{Outcome, bind}
use Rattle.ckc_syntax.specs.declared.tree.Name.{Name}
use Rattle.ckc_syntax.specs.declared.tree.Init.TheVariants as init
use Rattle.ckc_syntax.specs.declared.tree.Act.{Act-F, out-Act, the_lemmas}
use Rattle.ckc_syntax.specs.declared.tree.Act.TheVariants as act
use Rattle.ckc_typed.specs.declared.typed.Note.{Note}
use Rattle.ckc_typed.specs.Trees.{NotedAct, NotedDecl, NotedExpr, NotedInit, NotedStmt}
use Rattle.ckc_blame_sound.specs.ckc_bounds_points.specs.declared.frame.HeadBounds.{HeadBounds}
use Rattle.ckc_blame_sound.specs.ckc_bounds_points.specs.declared.frame.Frame.{Frame}
use Rattle.ckc_blame_sound.specs.ckc_bounds_points.specs.Shown.{Known}
use Rattle.ckc_blame_sound.specs.ckc_bounds_points.specs.Flow.{State}
use Rattle.ckc_blame_sound.specs.ckc_bounds_points.specs.Forms.{in_type}
use Rattle.ckc_blame_sound.specs.ckc_bounds_views.specs.Parts.{View, capped, fresh_behind}
use Rattle.ckc_blame_sound.specs.ckc_bounds_views.specs.Views.{view}
use Rattle.ckc_blame_sound.specs.ckc_bounds_stores.specs.Stores.{with_store, stores_of, numbered, assigned_local, after, stored, passed}
use Rattle.ckc_blame_sound.specs.ckc_bounds_stores.specs.Targets.{local_of}
use Rattle.ckc_blame_sound.specs.ckc_bounds_statements.specs.Paths.{Here, expr_judged, value_judged, values_judged, maybe_judged, init_judged, side_of, stated, sides_judged, stores_judged, behind_stores, needs_expr, Path, all_judged, parts_judged, part_judged}

-- ---- outcomes that agree

abbrev pub Agree : {A B : Type 0} → (A → B → Type 0) → Outcome A → Outcome B → Type 0
Agree R (Ok a) (Ok b) = R a b
Agree R (Err q) (Err r) = Unit {0}
Agree R _ _ = ⊥

pub agree_bind : {A B C D : Type 0} (R : A → B → Type 0) (S : C → D → Type 0) (o : Outcome A) (q : Outcome B) (f : A → Outcome C) (g : B → Outcome D) → Agree R o q
    → ((a : A) (b : B) → R a b → Agree S (f a) (g b)) → Agree S (bind o f) (bind q g)
agree_bind R S (Ok a) (Ok b) f g h next = next a b h
agree_bind R S (Err x) (Err y) f g h next = tt
agree_bind R S (Ok a) (Err y) f g h next = absurd h
agree_bind R S (Err x) (Ok b) f g h next = absurd h

-- ---- parts that agree

-- two expressions that differ in ranges alone
pub record TwinExpr (e f : NotedExpr) : Type 0 where
  pub views : (frame : Frame) → view frame e ≡ view frame f
  pub named : local_of e ≡ local_of f
  pub ctype : e.note.ctype ≡ f.note.ctype

abbrev pub TwinValue : Option NotedExpr → Option NotedExpr → Type 0
TwinValue None None = Unit {0}
TwinValue (Some e) (Some f) = TwinExpr e f
TwinValue _ _ = ⊥

abbrev pub TwinAll : List NotedExpr → List NotedExpr → Type 0
TwinAll [] [] = Unit {0}
TwinAll (e ∷ es) (f ∷ fs) = TwinExpr e f × TwinAll es fs
TwinAll _ _ = ⊥

abbrev pub TwinInit : NotedInit → NotedInit → Type 0
TwinInit init.Nothing init.Nothing = Unit {0}
TwinInit (init.One e) (init.One f) = TwinExpr e f
TwinInit (init.Many es) (init.Many fs) = TwinAll es fs
TwinInit _ _ = ⊥

-- the walk stands at the same place, and is only counting
abbrev pub SameHere : {A B : Type 0} → A × Here → B × Here → Type 0
SameHere p q = (p.1 ≡ q.1) × (q.1.counting ≡ true)

abbrev pub SameFirst : {A B : Type 0} → (A → B → Type 0) → A × Here → B × Here → Type 0
SameFirst R p q = R p.0 q.0 × (p.1 ≡ q.1) × (q.1.counting ≡ true)

-- assignments that come to the same point
abbrev pub SameStores : Frame → List NotedStmt → List NotedStmt → Type 0
SameStores frame ss ts =
    (facts : Known) (start begin : State) (m n j k : ℕ) (at : State)
    → after frame facts (numbered frame start m n (stores_of ss)) at ≡ after frame facts (numbered frame begin j k (stores_of ts)) at

-- one more assignment in front
abbrev pub SamePart : Frame → NotedStmt → NotedStmt → Type 0
SamePart frame s t = (ss ts : List NotedStmt) → SameStores frame ss ts → SameStores frame (s ∷ ss) (t ∷ ts)

-- a declaration without its initialiser
abbrev pub bare : NotedDecl → NotedDecl
bare d = record d { init = init.Nothing }

-- Two statements of which the same is said, but for the initialisers of what they declare.
pub record Twin (s t : Path) : Type 0 where
  pub declared : map bare s.declared ≡ map bare t.declared
  pub may_need : (frame : Frame) → s.may_need frame ≡ t.may_need frame
  pub assigned : s.assigned ≡ t.assigned
  pub breaks : s.breaks ≡ t.breaks
  pub continues : s.continues ≡ t.continues
  pub part : (frame : Frame) (bundle : Pos) (h : Here) → h.counting ≡ true → Agree (SameFirst (SamePart frame)) (s.part frame bundle h) (t.part frame bundle h)
  pub judged : (frame : Frame) (head : HeadBounds) (h : Here) → h.counting ≡ true → Agree SameHere (s.judged frame head h) (t.judged frame head h)

abbrev pub TwinIf : Option Path → Option Path → Type 0
TwinIf None None = Unit {0}
TwinIf (Some s) (Some t) = Twin s t
TwinIf _ _ = ⊥

abbrev pub TwinList : List Path → List Path → Type 0
TwinList [] [] = Unit {0}
TwinList (s ∷ ss) (t ∷ ts) = Twin s t × TwinList ss ts
TwinList _ _ = ⊥

-- ---- values

module _ (frame : Frame) where
  expr_counted : (e f : NotedExpr) (h : Here) → h.counting ≡ true → TwinExpr e f → Agree TwinExpr (expr_judged frame e h) (expr_judged frame f h)
  expr_counted e f h c twin =
      subst (λ b. Agree TwinExpr (if b then Ok e else (view frame e).judged h.next h.at) (if b then Ok f else (view frame f).judged h.next h.at)) (sym c) twin

  pub value_counted : (e f : NotedExpr) (h : Here) → h.counting ≡ true → TwinExpr e f → Agree (SameFirst TwinExpr) (value_judged frame e h) (value_judged frame f h)
  unfolding value_judged
  value_counted e f h c twin =
      agree_bind TwinExpr (SameFirst TwinExpr) (expr_judged frame e h) (expr_judged frame f h) _ _ (expr_counted e f h c twin)
      (λ a b t. (t, ap (λ (v : View). record h { next = fresh_behind v h.next h.at }) (twin.views frame), c))

  pub maybe_counted : (e f : Option NotedExpr) (h : Here) → h.counting ≡ true → TwinValue e f → Agree (SameFirst TwinValue) (maybe_judged frame e h) (maybe_judged frame f h)
  maybe_counted None None h c twin = (tt, refl, c)
  maybe_counted (Some e) (Some f) h c twin =
      agree_bind (SameFirst TwinExpr) (SameFirst TwinValue) (value_judged frame e h) (value_judged frame f h) _ _ (value_counted e f h c twin) (λ a b t. t)
  maybe_counted None (Some f) h c twin = absurd twin
  maybe_counted (Some e) None h c twin = absurd twin

  pub values_counted : (es fs : List NotedExpr) (h : Here) → h.counting ≡ true → TwinAll es fs → Agree (SameFirst TwinAll) (values_judged frame es h) (values_judged frame fs h)
  values_counted [] [] h c twin = (tt, refl, c)
  values_counted (e ∷ es) (f ∷ fs) h c twin =
      agree_bind (SameFirst TwinExpr) (SameFirst TwinAll) (value_judged frame e h) (value_judged frame f h) _ _ (value_counted e f h c twin.0) (λ a b t.
      subst (λ x. Agree (SameFirst TwinAll) (bind (values_judged frame es x) (λ q. Ok (a.0 ∷ q.0, q.1))) (bind (values_judged frame fs b.1) (λ q. Ok (b.0 ∷ q.0, q.1)))) (sym t.1)
      (agree_bind (SameFirst TwinAll) (SameFirst TwinAll) (values_judged frame es b.1) (values_judged frame fs b.1) _ _ (values_counted es fs b.1 t.2 twin.1) (λ x y u. ((t.0, u.0), u.1, u.2))))
  values_counted [] (f ∷ fs) h c twin = absurd twin
  values_counted (e ∷ es) [] h c twin = absurd twin

  pub init_counted : (i j : NotedInit) (h : Here) → h.counting ≡ true → TwinInit i j → Agree (SameFirst TwinInit) (init_judged frame i h) (init_judged frame j h)
  init_counted init.Nothing init.Nothing h c twin = (tt, refl, c)
  init_counted (init.One e) (init.One f) h c twin =
      agree_bind (SameFirst TwinExpr) (SameFirst TwinInit) (value_judged frame e h) (value_judged frame f h) _ _ (value_counted e f h c twin) (λ a b t. t)
  init_counted (init.Many es) (init.Many fs) h c twin =
      agree_bind (SameFirst TwinAll) (SameFirst TwinInit) (values_judged frame es h) (values_judged frame fs h) _ _ (values_counted es fs h c twin) (λ a b t. t)
  init_counted init.Nothing (init.One f) h c twin = absurd twin
  init_counted init.Nothing (init.Many fs) h c twin = absurd twin
  init_counted (init.One e) init.Nothing h c twin = absurd twin
  init_counted (init.One e) (init.Many fs) h c twin = absurd twin
  init_counted (init.Many es) init.Nothing h c twin = absurd twin
  init_counted (init.Many es) (init.One f) h c twin = absurd twin

  pub needs_same : (e f : NotedExpr) → TwinExpr e f → needs_expr frame e ≡ needs_expr frame f
  unfolding needs_expr
  needs_same e f twin = ap (λ (v : View). not (v.most_fresh == 0)) (twin.views frame)

  pub side_same : (b : Bool) (e f : NotedExpr) (at : State) → TwinExpr e f → side_of frame b e at ≡ side_of frame b f at
  unfolding side_of
  side_same b e f at twin = ap (λ (v : View). v.side b at) (twin.views frame)

  -- ---- assignments

  out_assign : (a b : NotedExpr) → out-Act Name Note (act.Assign a b) ≡ Act-F.Assign a b
  out_assign a b = search (rules, the_lemmas)

  part_same : (at : Pos) (note : Note) (a b e f : NotedExpr) → TwinExpr a e → TwinExpr b f → SamePart frame (stated at note (act.Assign a b)) (stated at note (act.Assign e f))
  part_same at note a b e f left right ss ts same facts start begin m n j k point =
      ap (λ (x : Act-F Name Note NotedAct NotedStmt). after frame facts (numbered frame start m n (with_store x at (stores_of ss))) point) (out_assign a b)
      ∙ same facts start begin (capped m (view frame b).values) (fresh_behind (view frame b) (fresh_behind (view frame a) n start) start) (capped j (view frame f).values)
      (fresh_behind (view frame f) (fresh_behind (view frame e) k begin) begin) (assigned_local frame (in_type facts a.note.ctype ((view frame b).form facts)) point (local_of a))
      ∙ ap (λ (x : State). after frame facts (numbered frame begin (capped j (view frame f).values) (fresh_behind (view frame f) (fresh_behind (view frame e) k begin) begin) (stores_of ts)) x)
      (ap (λ t. assigned_local frame (in_type facts t ((view frame b).form facts)) point (local_of a)) left.ctype
      ∙ ap (λ (v : View). assigned_local frame (in_type facts e.note.ctype (v.form facts)) point (local_of a)) (right.views frame)
      ∙ ap (λ o. assigned_local frame (in_type facts e.note.ctype ((view frame f).form facts)) point o) left.named)
      ∙ sym (ap (λ (x : Act-F Name Note NotedAct NotedStmt). after frame facts (numbered frame begin j k (with_store x at (stores_of ts))) point) (out_assign e f))

  pub sides_counted : (at : Pos) (note : Note) (a b e f : NotedExpr) (h : Here) → h.counting ≡ true → TwinExpr a e → TwinExpr b f
      → Agree (SameFirst (SamePart frame)) (sides_judged frame at note a b h) (sides_judged frame at note e f h)
  sides_counted at note a b e f h c left right =
      agree_bind (SameFirst TwinExpr) (SameFirst (SamePart frame)) (value_judged frame a h) (value_judged frame e h) _ _ (value_counted a e h c left) (λ p q t.
      subst (λ x. Agree (SameFirst (SamePart frame)) (bind (value_judged frame b x) (λ r. Ok (stated at note (act.Assign p.0 r.0), r.1))) (bind (value_judged frame f q.1) (λ r. Ok (stated at note (act.Assign q.0 r.0), r.1)))) (sym t.1)
      (agree_bind (SameFirst TwinExpr) (SameFirst (SamePart frame)) (value_judged frame b q.1) (value_judged frame f q.1) _ _ (value_counted b f q.1 t.2 right) (λ r u v.
      (part_same at note p.0 r.0 q.0 u.0 t.0 v.0, v.1, v.2))))

  pub stores_counted : (head : HeadBounds) (ss ts : List NotedStmt) (first : ℕ) (h : Here) → h.counting ≡ true → SameStores frame ss ts
      → Agree (λ x y. (x ≡ y) × (y.counting ≡ true)) (behind_stores frame head ss first h) (behind_stores frame head ts first h)
  stores_counted head ss ts first h c same =
      agree_bind (λ x y. x ≡ y) (λ x y. (x ≡ y) × (y.counting ≡ true)) (stores_judged frame head ss first h) (stores_judged frame head ts first h) _ _ by (λ x y e. (ap (λ a. record h { at = a }) e, c))
    where
      by : Agree (λ x y. x ≡ y) (stores_judged frame head ss first h) (stores_judged frame head ts first h)
      by = subst (λ b. Agree (λ x y. x ≡ y) (if b then Ok (passed frame (stores_of ss) first h.at) else stored frame head.bounds h.seen (stores_of ss) first h.at)
          (if b then Ok (passed frame (stores_of ts) first h.at) else stored frame head.bounds h.seen (stores_of ts) first h.at)) (sym c) (same h.at.facts h.at h.at 0 first 0 first h.at)

  -- ---- statements in order

  pub all_counted : (head : HeadBounds) (ss ts : List Path) → TwinList ss ts → (h : Here) → h.counting ≡ true → Agree SameHere (all_judged frame head ss h) (all_judged frame head ts h)
  unfolding all_judged
  all_counted head [] [] twin h c = (refl, c)
  all_counted head (s ∷ ss) (t ∷ ts) twin h c =
      agree_bind SameHere SameHere (s.judged frame head h) (t.judged frame head h) _ _ (twin.0.judged frame head h c) (λ a b e.
      subst (λ x. Agree SameHere (bind (all_judged frame head ss x) (λ q. Ok (a.0 ∷ q.0, q.1))) (bind (all_judged frame head ts b.1) (λ q. Ok (b.0 ∷ q.0, q.1)))) (sym e.0)
      (agree_bind SameHere SameHere (all_judged frame head ss b.1) (all_judged frame head ts b.1) _ _ (all_counted head ss ts twin.1 b.1 e.1) (λ x y u. u)))
  all_counted head [] (t ∷ ts) twin h c = absurd twin
  all_counted head (s ∷ ss) [] twin h c = absurd twin

  pub parts_counted : (bundle : Pos) (ss ts : List Path) → TwinList ss ts → (h : Here) → h.counting ≡ true → Agree (SameFirst (SameStores frame)) (parts_judged frame bundle ss h) (parts_judged frame bundle ts h)
  unfolding parts_judged
  parts_counted bundle [] [] twin h c = ((λ facts start begin m n j k at. refl), refl, c)
  parts_counted bundle (s ∷ ss) (t ∷ ts) twin h c =
      agree_bind (SameFirst (SamePart frame)) (SameFirst (SameStores frame)) (s.part frame bundle h) (t.part frame bundle h) _ _ (twin.0.part frame bundle h c) (λ a b e.
      subst (λ x. Agree (SameFirst (SameStores frame)) (bind (parts_judged frame bundle ss x) (λ q. Ok (a.0 ∷ q.0, q.1))) (bind (parts_judged frame bundle ts b.1) (λ q. Ok (b.0 ∷ q.0, q.1)))) (sym e.1)
      (agree_bind (SameFirst (SameStores frame)) (SameFirst (SameStores frame)) (parts_judged frame bundle ss b.1) (parts_judged frame bundle ts b.1) _ _ (parts_counted bundle ss ts twin.1 b.1 e.2)
      (λ x y u. (e.0 x.0 y.0 u.0, u.1, u.2))))
  parts_counted bundle [] (t ∷ ts) twin h c = absurd twin
  parts_counted bundle (s ∷ ss) [] twin h c = absurd twin

  pub if_counted : (head : HeadBounds) (s t : Option Path) → TwinIf s t → (h : Here) → h.counting ≡ true → Agree SameHere (part_judged frame head s h) (part_judged frame head t h)
  if_counted head None None twin h c = (refl, c)
  if_counted head (Some s) (Some t) twin h c = agree_bind SameHere SameHere (s.judged frame head h) (t.judged frame head h) _ _ (twin.judged frame head h c) (λ a b e. e)
  if_counted head None (Some t) twin h c = absurd twin
  if_counted head (Some s) None twin h c = absurd twin
