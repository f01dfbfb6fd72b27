-- What statements with parts do is the same in a first walk, if their parts differ in ranges alone.
use Rattle.std.proofs.Common.{◌≡◌, refl, sym, ap, subst, ◌∙◌, ℕ, Bool, true, false, List, [], ◌∷◌, ◌++◌, map, length}
use Rattle.std.specs.Prelude.{◌||◌, not, if◌then◌else◌, Option, None, Some, Ok}
use Rattle.ckc_base.specs.declared.places.Pos.{Pos}
use Rattle.ckc_base.specs.declared.arithmetic.Mode.{Mode}
use Rattle.ckc_base.specs.Outcomes.{bind, unless}
use Rattle.ckc_types.specs.declared.types.CType.{CType}
use Rattle.ckc_syntax.specs.Inside.{Joining, listed, one_has, inside_each, inside_if}
use Rattle.ckc_syntax.specs.declared.tree.Name.{Name}
use Rattle.ckc_syntax.specs.declared.tree.Name.TheVariants as name
use Rattle.ckc_syntax.specs.declared.tree.Init.TheVariants as init
use Rattle.ckc_syntax.specs.declared.tree.Act.TheVariants as act
use Rattle.ckc_typed.specs.declared.typed.Note.{Note}
use Rattle.ckc_typed.specs.Trees.{NotedDecl, NotedExpr, NotedInit}
use Rattle.ckc_typed.specs.Types.{type_written}
use Rattle.ckc_blame_sound.specs.ckc_bounds_points.specs.declared.frame.HeadBounds.{HeadBounds}
use Rattle.ckc_blame_sound.specs.ckc_bounds_points.specs.declared.frame.Frame.{Frame}
use Rattle.ckc_blame_sound.specs.ckc_bounds_points.specs.declared.frame.Bounds.TheVariants as bounds
use Rattle.ckc_blame_sound.specs.ckc_bounds_ranges.specs.Bundles.{is_bundle}
use Rattle.ckc_blame_sound.specs.ckc_bounds_points.specs.Flow.{State, joined, assigned}
use Rattle.ckc_blame_sound.specs.ckc_bounds_points.specs.Forms.{in_type}
use Rattle.ckc_blame_sound.specs.ckc_bounds_points.specs.Codes.{not_contained, bad_bundle}
use Rattle.ckc_blame_sound.specs.ckc_bounds_views.specs.Parts.{View}
use Rattle.ckc_blame_sound.specs.ckc_bounds_stores.specs.Stores.{initialised, returned}
use Rattle.ckc_blame_sound.specs.ckc_bounds_statements.specs.DeclBounds.{bounds_there}
use Rattle.ckc_blame_sound.specs.ckc_bounds_statements.specs.Paths.{Here, value_judged, maybe_judged, init_judged, side_of, maybe_side, local_in, starts_within, start_form, started, value_form, declared_here, bounds_judged, decl_judged, stated, sides_judged, behind_stores, gone, is_returned, is_good, needs_expr, Path, ActPath, Branch, Start, all_judged, parts_judged, bundle_judged, part_judged, closed, block_judged, other_side, maybe_other, branched, if_judged, loop_head, while_judged, maybe_point, for_started, to_step, for_judged, local_judged, assign_judged, call_judged, check_judged, return_judged}
use Rattle.ckc_blame_walk.proofs.Twins.{Agree, agree_bind, TwinExpr, TwinValue, TwinInit, SameHere, SameFirst, SameStores, SamePart, bare, Twin, TwinIf, TwinList, value_counted, maybe_counted, init_counted, needs_same, side_same, sides_counted, stores_counted, all_counted, parts_counted, if_counted}

pub two : {X Y Z : Type 0} (f : X → Y → Z) {a b : X} {c d : Y} → a ≡ b → c ≡ d → f a c ≡ f b d
two f {a} {b} {c} {d} p q = ap (λ x. f x c) p ∙ ap (λ y. f b y) q

abbrev at_point : Here → State → Here
at_point h a = record h { at = a }

map_both : {X Y : Type 0} (f : X → Y) (xs ys : List X) → map f (xs ++ ys) ≡ map f xs ++ map f ys
map_both f [] ys = refl
map_both f (x ∷ xs) ys = ap (λ z. f x ∷ z) (map_both f xs ys)

pub bare_both : (a b c d : List NotedDecl) → map bare a ≡ map bare b → map bare c ≡ map bare d → map bare (a ++ c) ≡ map bare (b ++ d)
bare_both a b c d p q = map_both bare a c ∙ two (λ x y. x ++ y) p q ∙ sym (map_both bare b d)

pub each_same : {X : Type 0} (j : Joining X) (f : Path → X) → ((s t : Path) → Twin s t → f s ≡ f t) → (ss ts : List Path) → TwinList ss ts → inside_each j f ss ≡ inside_each j f ts
each_same j f same [] [] twin = refl
each_same j f same (s ∷ ss) (t ∷ ts) twin = two j.both (same s t twin.0) (each_same j f same ss ts twin.1)
each_same j f same [] (t ∷ ts) twin = absurd twin
each_same j f same (s ∷ ss) [] twin = absurd twin

pub some_same : {X : Type 0} (j : Joining X) (f : Path → X) → ((s t : Path) → Twin s t → f s ≡ f t) → (s t : Option Path) → TwinIf s t → inside_if j f s ≡ inside_if j f t
some_same j f same None None twin = refl
some_same j f same (Some s) (Some t) twin = same s t twin
some_same j f same None (Some t) twin = absurd twin
some_same j f same (Some s) None twin = absurd twin

pub each_bare : (ss ts : List Path) → TwinList ss ts → map bare (inside_each listed (λ (s : Path). s.declared) ss) ≡ map bare (inside_each listed (λ (s : Path). s.declared) ts)
each_bare [] [] twin = refl
each_bare (s ∷ ss) (t ∷ ts) twin =
    bare_both s.declared t.declared (inside_each listed (λ (s : Path). s.declared) ss) (inside_each listed (λ (s : Path). s.declared) ts) twin.0.declared (each_bare ss ts twin.1)
each_bare [] (t ∷ ts) twin = absurd twin
each_bare (s ∷ ss) [] twin = absurd twin

pub some_bare : (s t : Option Path) → TwinIf s t → map bare (inside_if listed (λ (s : Path). s.declared) s) ≡ map bare (inside_if listed (λ (s : Path). s.declared) t)
some_bare None None twin = refl
some_bare (Some s) (Some t) twin = twin.declared
some_bare None (Some t) twin = absurd twin
some_bare (Some s) None twin = absurd twin

pub value_needs : (frame : Frame) (e f : Option NotedExpr) → TwinValue e f → inside_if one_has (needs_expr frame) e ≡ inside_if one_has (needs_expr frame) f
value_needs frame None None twin = refl
value_needs frame (Some e) (Some f) twin = needs_same frame e f twin
value_needs frame None (Some f) twin = absurd twin
value_needs frame (Some e) None twin = absurd twin

pub value_none : {X : Type 0} (x : X) (j : Joining X) (e f : Option NotedExpr) → TwinValue e f → inside_if j (λ (e : NotedExpr). x) e ≡ inside_if j (λ (e : NotedExpr). x) f
value_none x j None None twin = refl
value_none x j (Some e) (Some f) twin = refl
value_none x j None (Some f) twin = absurd twin
value_none x j (Some e) None twin = absurd twin

-- Two acts of which the same is said.
pub record TwinAct (a b : ActPath) : Type 0 where
  pub declared : map bare a.declared ≡ map bare b.declared
  pub may_need : (frame : Frame) → a.may_need frame ≡ b.may_need frame
  pub assigned : a.assigned ≡ b.assigned
  pub breaks : a.breaks ≡ b.breaks
  pub continues : a.continues ≡ b.continues
  pub part : (frame : Frame) (bundle at : Pos) (note : Note) (h : Here) → h.counting ≡ true → Agree (SameFirst (SamePart frame)) (a.part frame bundle at note h) (b.part frame bundle at note h)
  pub judged : (frame : Frame) (head : HeadBounds) (at : Pos) (note : Note) (h : Here) → h.counting ≡ true → Agree SameHere (a.judged frame head at note h) (b.judged frame head at note h)

module _ (frame : Frame) (head : HeadBounds) where
  twin_at : (s t : Path) → Twin s t → (h k : Here) → h ≡ k → k.counting ≡ true → Agree SameHere (s.judged frame head h) (t.judged frame head k)
  twin_at s t twin h k e c = subst (λ x. Agree SameHere (s.judged frame head x) (t.judged frame head k)) (sym e) (twin.judged frame head k c)

  if_at : (s t : Option Path) → TwinIf s t → (h k : Here) → h ≡ k → k.counting ≡ true → Agree SameHere (part_judged frame head s h) (part_judged frame head t k)
  if_at s t twin h k e c = subst (λ x. Agree SameHere (part_judged frame head s x) (part_judged frame head t k)) (sym e) (if_counted frame head s t twin k c)

  other_same : (left : Bool) (e f : NotedExpr) (at : State) → TwinExpr e f → other_side frame left e at ≡ other_side frame left f at
  other_same true e f at twin = refl
  other_same false e f at twin = side_same frame false e f at twin

  abbrev BranchSame : Branch × Here → Branch × Here → Type 0
  BranchSame p q = (p.0.other ≡ q.0.other) × (p.1 ≡ q.1) × (q.1.counting ≡ true)

  branched_counted : (l m : Bool) (e f : NotedExpr) (h k : Here) → l ≡ m → TwinExpr e f → h ≡ k → k.counting ≡ true → Agree BranchSame (branched frame l e h) (branched frame m f k)
  branched_counted l m e f h k left twin same c =
      subst (λ x. Agree BranchSame (branched frame l e x) (branched frame m f k)) (sym same)
      (subst (λ b. Agree BranchSame (branched frame b e k) (branched frame m f k)) (sym left)
      (agree_bind (SameFirst TwinExpr) BranchSame (value_judged frame e k) (value_judged frame f k) _ _ (value_counted frame e f k c twin) (λ a b t. (
        ap (λ (x : Here). other_side frame m a.0 x.at) t.1 ∙ other_same m a.0 b.0 b.1.at t.0,
        ap (λ (x : Here). at_point x (side_of frame true a.0 x.at)) t.1 ∙ ap (at_point b.1) (side_same frame true a.0 b.0 b.1.at t.0),
        t.2,
      ))))

  -- ---- an `if`

  pub if_twin : (at : Pos) (note : Note) (e f : NotedExpr) (s t : Path) (u v : Option Path) → TwinExpr e f → Twin s t → TwinIf u v → (h : Here) → h.counting ≡ true
      → Agree SameHere (if_judged frame head at note e s u h) (if_judged frame head at note f t v h)
  if_twin at note e f s t u v twin one other h c =
      agree_bind BranchSame SameHere (branched frame false e h) (branched frame false f h) _ _ (branched_counted false false e f h h refl twin refl c) (λ p q b.
      agree_bind SameHere SameHere (s.judged frame head p.1) (t.judged frame head q.1) _ _ (twin_at s t one p.1 q.1 b.1 b.2) (λ x y d.
      agree_bind SameHere SameHere (part_judged frame head u (record x.1 { at = p.0.other })) (part_judged frame head v (record y.1 { at = q.0.other })) _ _
      (if_at u v other (record x.1 { at = p.0.other }) (record y.1 { at = q.0.other }) (two at_point d.0 b.0) d.1) (λ w z g.
      (two at_point g.0 (two (λ a b. joined a b) (ap (λ (h : Here). h.at) d.0) (ap (λ (h : Here). h.at) g.0)), g.1))))

  -- ---- loops

  pub while_twin : (at : Pos) (note : Note) (e f : NotedExpr) (s t : Path) → TwinExpr e f → Twin s t → (h : Here) → h.counting ≡ true
      → Agree SameHere (while_judged frame head at note e s h) (while_judged frame head at note f t h)
  while_twin at note e f s t twin one h c =
      agree_bind BranchSame SameHere (branched frame s.breaks e (loop_head frame s.assigned h)) (branched frame t.breaks f (loop_head frame t.assigned h)) _ _
      (branched_counted s.breaks t.breaks e f (loop_head frame s.assigned h) (loop_head frame t.assigned h) one.breaks twin (ap (λ ks. loop_head frame ks h) one.assigned) c) (λ p q b.
      agree_bind SameHere SameHere (s.judged frame head p.1) (t.judged frame head q.1) _ _ (twin_at s t one p.1 q.1 b.1 b.2) (λ x y d.
      (two at_point d.0 b.0, d.1)))

  maybe_side_same : (b : Bool) (e f : Option NotedExpr) (at : State) → TwinValue e f → maybe_side frame b e at ≡ maybe_side frame b f at
  maybe_side_same b None None at twin = refl
  maybe_side_same b (Some e) (Some f) at twin = side_same frame b e f at twin
  maybe_side_same b None (Some f) at twin = absurd twin
  maybe_side_same b (Some e) None at twin = absurd twin

  maybe_other_same : (left : Bool) (e f : Option NotedExpr) (at : State) → TwinValue e f → maybe_other frame left e at ≡ maybe_other frame left f at
  maybe_other_same left None None at twin = refl
  maybe_other_same left (Some e) (Some f) at twin = other_same left e f at twin
  maybe_other_same left None (Some f) at twin = absurd twin
  maybe_other_same left (Some e) None at twin = absurd twin

  abbrev StartSame : Start × Here → Start × Here → Type 0
  StartSame p q = (p.0.other ≡ q.0.other) × (p.0.step ≡ q.0.step) × (p.1 ≡ q.1) × (q.1.counting ≡ true)

  started_counted : (l m i j : Bool) (e f : Option NotedExpr) (h k : Here) → l ≡ m → i ≡ j → TwinValue e f → h ≡ k → k.counting ≡ true
      → Agree StartSame (for_started frame l i e h) (for_started frame m j f k)
  started_counted l m i j e f h k left turned twin same c =
      subst (λ x. Agree StartSame (for_started frame l i e x) (for_started frame m j f k)) (sym same)
      (subst (λ b. Agree StartSame (for_started frame b i e k) (for_started frame m j f k)) (sym left)
      (subst (λ b. Agree StartSame (for_started frame m b e k) (for_started frame m j f k)) (sym turned)
      (agree_bind (SameFirst TwinValue) StartSame (maybe_judged frame e k) (maybe_judged frame f k) _ _ (maybe_counted frame e f k c twin) (λ a b t. (
        ap (λ (x : Here). maybe_other frame m a.0 x.at) t.1 ∙ maybe_other_same m a.0 b.0 b.1.at t.0,
        ap (λ (x : Here). maybe_point j x.at) t.1,
        ap (λ (x : Here). at_point x (maybe_side frame true a.0 x.at)) t.1 ∙ ap (at_point b.1) (maybe_side_same true a.0 b.0 b.1.at t.0),
        t.2,
      )))))

  step_counting : (o : Option State) (h : Here) → (to_step o h).counting ≡ h.counting
  step_counting None h = refl
  step_counting (Some a) h = refl

  pub for_twin : (at : Pos) (note : Note) (i j : Option Path) (e f : Option NotedExpr) (u v : Option Path) (s t : Path) → TwinIf i j → TwinValue e f → TwinIf u v → Twin s t → (h : Here) → h.counting ≡ true
      → Agree SameHere (for_judged frame head at note i e u s h) (for_judged frame head at note j f v t h)
  for_twin at note i j e f u v s t first twin step one h c =
      agree_bind SameHere SameHere (part_judged frame head i h) (part_judged frame head j h) _ _ (if_counted frame head i j first h c) (λ p q d.
      agree_bind StartSame SameHere (for_started frame s.breaks s.continues e (loop_head frame (s.assigned ++ inside_if listed (λ (v : Path). v.assigned) u) p.1))
      (for_started frame t.breaks t.continues f (loop_head frame (t.assigned ++ inside_if listed (λ (v : Path). v.assigned) v) q.1)) _ _
      (started_counted s.breaks t.breaks s.continues t.continues e f _ (loop_head frame (t.assigned ++ inside_if listed (λ (v : Path). v.assigned) v) q.1) one.breaks one.continues twin
      (two (λ ks x. loop_head frame ks x) (two (λ a b. a ++ b) one.assigned (some_same listed (λ (v : Path). v.assigned) (λ s t w. w.assigned) u v step)) d.0) d.1) (λ x y b.
      agree_bind SameHere SameHere (s.judged frame head x.1) (t.judged frame head y.1) _ _ (twin_at s t one x.1 y.1 b.2 b.3) (λ w z g.
      agree_bind SameHere SameHere (part_judged frame head u (to_step x.0.step w.1)) (part_judged frame head v (to_step y.0.step z.1)) _ _
      (if_at u v step (to_step x.0.step w.1) (to_step y.0.step z.1) (two to_step b.1 g.0) (step_counting y.0.step z.1 ∙ g.1)) (λ k l m.
      (ap (closed (length h.seen)) (two at_point m.0 b.0), m.1)))))

  -- ---- simple statements

  pub local_twin : (at : Pos) (note : Note) (d : NotedDecl) (i j : NotedInit) → TwinInit i j → (h : Here) → h.counting ≡ true
      → Agree SameHere (local_judged frame at note (record d { init = i }) h) (local_judged frame at note (record d { init = j }) h)
  unfolding value_form
  local_twin at note d i j twin h c =
      agree_bind SameHere SameHere (decl_judged frame (record d { init = i }) h) (decl_judged frame (record d { init = j }) h) _ _ by_decl (λ a b e. e)
    where
      bounds_same : Agree (λ a b. Unit {0}) (bounds_judged frame (record d { init = i }) h) (bounds_judged frame (record d { init = j }) h)
      bounds_same = subst (λ b. Agree (λ a b. Unit {0}) (if b then Ok bounds.Unknown else bounds_there frame (record d { init = i })) (if b then Ok bounds.Unknown else bounds_there frame (record d { init = j }))) (sym c) tt

      within : (n : Name) (i : NotedInit) (first : ℕ) (h : Here) → h.counting ≡ true → starts_within frame n i first h ≡ true
      within (name.Local k) (init.One e) first h c = ap (λ b. b || initialised frame k e first h.at) c
      within (name.Local k) init.Nothing first h c = refl
      within (name.Local k) (init.Many es) first h c = refl
      within n i first h c = refl

      form_same : (t : CType) (i j : NotedInit) (facts : _) → TwinInit i j → start_form frame t i facts ≡ start_form frame t j facts
      form_same t init.Nothing init.Nothing facts twin = refl
      form_same t (init.One e) (init.One f) facts twin = ap (λ (v : View). in_type facts t (v.form facts)) (twin.views frame)
      form_same t (init.Many es) (init.Many fs) facts twin = refl
      form_same t init.Nothing (init.One f) facts twin = absurd twin
      form_same t init.Nothing (init.Many fs) facts twin = absurd twin
      form_same t (init.One e) init.Nothing facts twin = absurd twin
      form_same t (init.One e) (init.Many fs) facts twin = absurd twin
      form_same t (init.Many es) init.Nothing facts twin = absurd twin
      form_same t (init.Many es) (init.One f) facts twin = absurd twin

      started_same : (n : Name) (t : CType) (i j : NotedInit) (at : State) → TwinInit i j → started frame n t i at ≡ started frame n t j at
      started_same (name.Local k) t i j at twin = ap (λ f. assigned frame k f at) (form_same t i j at.facts twin)
      started_same n t i j at twin = refl

      passes : (p q : NotedInit × Here) → TwinInit p.0 q.0 → p.1 ≡ q.1 → q.1.counting ≡ true
          → Agree SameHere (unless (not (starts_within frame d.name p.0 h.next p.1)) not_contained d.pos (Ok (record d { init = p.0 }, declared_here frame (record d { init = i }) p.0 p.1)))
          (unless (not (starts_within frame d.name q.0 h.next q.1)) not_contained d.pos (Ok (record d { init = q.0 }, declared_here frame (record d { init = j }) q.0 q.1)))
      passes p q twin e c =
          subst (λ b. Agree SameHere (unless (not b) not_contained d.pos (Ok (record d { init = p.0 }, declared_here frame (record d { init = i }) p.0 p.1)))
          (unless (not (starts_within frame d.name q.0 h.next q.1)) not_contained d.pos (Ok (record d { init = q.0 }, declared_here frame (record d { init = j }) q.0 q.1))))
          (sym (within d.name p.0 h.next p.1 (ap (λ (x : Here). x.counting) e ∙ c)))
          (subst (λ b. Agree SameHere (Ok (record d { init = p.0 }, declared_here frame (record d { init = i }) p.0 p.1))
          (unless (not b) not_contained d.pos (Ok (record d { init = q.0 }, declared_here frame (record d { init = j }) q.0 q.1))))
          (sym (within d.name q.0 h.next q.1 c)) (
            ap (λ (x : Here). declared_here frame (record d { init = i }) p.0 x) e
                ∙ ap (λ a. record q.1 { seen = q.1.seen ++ local_in d.name; at = a }) (started_same d.name (type_written d.ctype) p.0 q.0 q.1.at twin),
            c,
          ))

      by_decl : Agree SameHere (decl_judged frame (record d { init = i }) h) (decl_judged frame (record d { init = j }) h)
      by_decl =
          agree_bind (λ a b. Unit {0}) SameHere (bounds_judged frame (record d { init = i }) h) (bounds_judged frame (record d { init = j }) h) _ _ bounds_same (λ a b u.
          agree_bind (SameFirst TwinInit) SameHere (init_judged frame i h) (init_judged frame j h) _ _ (init_counted frame i j h c twin) (λ p q t. passes p q t.0 t.1 t.2))

  pub assign_twin : (at : Pos) (note : Note) (a b e f : NotedExpr) → TwinExpr a e → TwinExpr b f → (h : Here) → h.counting ≡ true
      → Agree SameHere (assign_judged frame head at note a b h) (assign_judged frame head at note e f h)
  assign_twin at note a b e f left right h c =
      agree_bind (SameFirst (SamePart frame)) SameHere (sides_judged frame at note a b h) (sides_judged frame at note e f h) _ _ (sides_counted frame at note a b e f h c left right) (λ p q t.
      agree_bind (λ x y. (x ≡ y) × (y.counting ≡ true)) SameHere (behind_stores frame head (p.0 ∷ []) h.next p.1) (behind_stores frame head (q.0 ∷ []) h.next q.1) _ _
      (subst (λ x. Agree (λ x y. (x ≡ y) × (y.counting ≡ true)) (behind_stores frame head (p.0 ∷ []) h.next x) (behind_stores frame head (q.0 ∷ []) h.next q.1)) (sym t.1)
      (stores_counted frame head (p.0 ∷ []) (q.0 ∷ []) h.next q.1 t.2 (t.0 [] [] (λ facts start begin m n j k at. refl)))) (λ x y g. g))

  pub call_twin : (at : Pos) (note : Note) (e f : NotedExpr) → TwinExpr e f → (h : Here) → h.counting ≡ true → Agree SameHere (call_judged frame at note e h) (call_judged frame at note f h)
  call_twin at note e f twin h c =
      agree_bind (SameFirst TwinExpr) SameHere (value_judged frame e h) (value_judged frame f h) _ _ (value_counted frame e f h c twin) (λ a b t. (t.1, t.2))

  pub check_twin : (at : Pos) (note : Note) (e f : NotedExpr) → TwinExpr e f → (h : Here) → h.counting ≡ true → Agree SameHere (check_judged frame at note e h) (check_judged frame at note f h)
  check_twin at note e f twin h c =
      agree_bind (SameFirst TwinExpr) SameHere (value_judged frame e h) (value_judged frame f h) _ _ (value_counted frame e f h c twin) (λ a b t. (
        ap (λ (x : Here). at_point x (side_of frame true a.0 x.at)) t.1 ∙ ap (at_point b.1) (side_same frame true a.0 b.0 b.1.at t.0),
        t.2,
      ))

  pub return_twin : (at : Pos) (note : Note) (e f : Option NotedExpr) → TwinValue e f → (h : Here) → h.counting ≡ true
      → Agree SameHere (return_judged frame head at note e h) (return_judged frame head at note f h)
  return_twin at note e f twin h c =
      agree_bind (SameFirst TwinValue) SameHere (maybe_judged frame e h) (maybe_judged frame f h) _ _ (maybe_counted frame e f h c twin) (λ a b t.
      subst (λ g. Agree SameHere (unless (not g) not_contained at (Ok (stated at note (act.Return a.0), gone frame a.1)))
      (unless (not (is_returned frame head b.0 h.next b.1)) not_contained at (Ok (stated at note (act.Return b.0), gone frame b.1))))
      (sym (kept a.0 a.1 (ap (λ (x : Here). x.counting) t.1 ∙ t.2)))
      (subst (λ g. Agree SameHere (Ok (stated at note (act.Return a.0), gone frame a.1)) (unless (not g) not_contained at (Ok (stated at note (act.Return b.0), gone frame b.1))))
      (sym (kept b.0 b.1 t.2)) (ap (gone frame) t.1, t.2)))
    where
      kept : (e : Option NotedExpr) (k : Here) → k.counting ≡ true → is_returned frame head e h.next k ≡ true
      kept None k c = refl
      kept (Some e) k c = ap (λ b. b || returned frame head e h.next k.at) c

  pub bundle_twin : (at : Pos) (note : Note) (ss ts : List Path) → TwinList ss ts → (h : Here) → h.counting ≡ true
      → Agree SameHere (bundle_judged frame head at note ss h) (bundle_judged frame head at note ts h)
  unfolding bundle_judged
  bundle_twin at note ss ts twin h c =
      agree_bind (SameFirst (SameStores frame)) SameHere (parts_judged frame at ss h) (parts_judged frame at ts h) _ _ (parts_counted frame at ss ts twin h c) (λ p q t.
      subst (λ g. Agree SameHere (unless (not (g || is_bundle p.0)) bad_bundle at (bind (behind_stores frame head p.0 h.next p.1) (λ x. Ok (stated at note (act.Bundle p.0), x))))
      (unless (not (is_good q.1 q.0)) bad_bundle at (bind (behind_stores frame head q.0 h.next q.1) (λ x. Ok (stated at note (act.Bundle q.0), x)))))
      (sym (ap (λ (x : Here). x.counting) t.1 ∙ t.2))
      (subst (λ g. Agree SameHere (bind (behind_stores frame head p.0 h.next p.1) (λ x. Ok (stated at note (act.Bundle p.0), x)))
      (unless (not (g || is_bundle q.0)) bad_bundle at (bind (behind_stores frame head q.0 h.next q.1) (λ x. Ok (stated at note (act.Bundle q.0), x))))) (sym t.2)
      (agree_bind (λ x y. (x ≡ y) × (y.counting ≡ true)) SameHere (behind_stores frame head p.0 h.next p.1) (behind_stores frame head q.0 h.next q.1) _ _
      (subst (λ x. Agree (λ x y. (x ≡ y) × (y.counting ≡ true)) (behind_stores frame head p.0 h.next x) (behind_stores frame head q.0 h.next q.1)) (sym t.1)
      (stores_counted frame head p.0 q.0 h.next q.1 t.2 t.0)) (λ x y g. g))))

  pub block_twin : (at : Pos) (note : Note) (m n : Option Mode) (ss ts : List Path) → TwinList ss ts → (h : Here) → h.counting ≡ true
      → Agree SameHere (block_judged frame head at note m ss h) (block_judged frame head at note n ts h)
  block_twin at note m n ss ts twin h c =
      agree_bind SameHere SameHere (all_judged frame head ss h) (all_judged frame head ts h) _ _ (all_counted frame head ss ts twin h c) (λ p q t. (ap (closed (length h.seen)) t.0, t.1))
