-- Bundles keep states sound.
use Rattle.std.proofs.Common.{◌≡◌, inl, inr, refl, sym, ap, subst, ◌∙◌, ℕ, ◌+◌, Bool, true, false, List, [], ◌∷◌, ◌++◌, map}
use Rattle.std.specs.Prelude.{length}
use Rattle.std.specs.List.{All, AllByRecursion}
use Rattle.std.proofs.lemmas.List.Elements.{All-nil, All-cons, All-contains}
use Rattle.ckc_base.specs.declared.arithmetic.Mode.{Mode}
use Rattle.ckc_base.specs.declared.arithmetic.Mode.TheVariants.{Checked}
use Rattle.ckc_base.specs.declared.places.Pos.{Pos}
use Rattle.ckc_syntax.specs.Inside.{listed, inside_each}
use Rattle.ckc_syntax.specs.declared.tree.Name.{Name}
use Rattle.ckc_syntax.specs.declared.tree.Name.TheVariants as name
use Rattle.ckc_syntax.specs.declared.tree.Init.TheVariants as init
use Rattle.ckc_syntax.specs.declared.tree.Node.{Node-F, out-Node}
use Rattle.ckc_syntax.specs.declared.tree.Act.{Act-F, out-Act}
use Rattle.ckc_typed.specs.declared.typed.Note.{Note}
use Rattle.ckc_typed.specs.declared.typed.Typed.{Typed}
use Rattle.ckc_typed.specs.Statics.{strings_of_expr, strings_of_stmt}
use Rattle.ckc_typed.specs.Trees.{NotedDecl, NotedExpr, NotedInit, NotedLayer, NotedStmt}
use Rattle.ckc_typed.specs.Types.{type_written}
use Rattle.ckc_typed_welltyped.specs.Statements.{act_rows, WellTypedStmt}
use Rattle.ckc_blame_sound.specs.ckc_bounds_points.specs.Flow as flow
use Rattle.ckc_blame_sound.specs.ckc_bounds_stores.specs.Stores as stores
use Rattle.ckc_blame_sound.specs.ckc_bounds_stores.specs.Stores.{with_store, stores_of, numbered}
use Rattle.ckc_blame_sound.specs.ckc_bounds_statements.specs.Paths.{Here}
use Rattle.ckc_source.specs.declared.program.Shape.{Shape}
use Rattle.ckc_source.specs.declared.stmt.Spot.{Spot}
use Rattle.ckc_source.specs.Code.{Target, Right, Code, End, Assign, Bundle, Get, Put, Call}
use Rattle.ckc_source.specs.States.{Work, Rest, State, settled}
use Rattle.ckc_source.specs.Steps.{store_of, bundled, comes_to, source_step, spot_at, spot_of}
use Rattle.ckc_build_values.specs.Expressions.{literals_of}
use Rattle.ckc_build_elaborate.specs.Elaborated.{elaborated}
use Rattle.ckc_build_elaborate.specs.Literals.{literals_of_bounds}
use Rattle.ckc_build_elaborate.specs.Shapes.{shapes_elaborated}
use Rattle.ckc_build_elaborate.specs.Statements.{all_assigns, assign, act_assigns, act_code, part_of}
use Rattle.ckc_build_elaborate.specs.Steps.{Destination, spot, nowhere, destination_of, destination_for, called, assigned, assigned_form, started, declared}
use Rattle.ckc_build_elaborate.proofs.Counted.{stmt}
use Rattle.ckc_blame_sound.specs.Bodies.{globals_of_text}
use Rattle.ckc_blame_sound.specs.Calls.{store_in}
use Rattle.ckc_blame_sound.specs.Settings.{Setting, AreStrings}
use Rattle.ckc_blame_sound.specs.Sound.{Sound}
use Rattle.ckc_blame_sound.specs.Steps.{IsStep}
use Rattle.ckc_blame_sound.proofs.Strings.{strings_in_front, strings_after}
use Rattle.ckc_blame_sound.specs.Typed.{IsTyped, AreTypedSides, IsTypedAct}
use Rattle.ckc_blame_sound.proofs.Stepping.{ActLayer, parted, code_is, first_step}
use Rattle.ckc_blame_sound.proofs.Judging.{judged_typed}
use Rattle.ckc_blame_sound.proofs.Frames.{frames_agree}
use Rattle.ckc_blame_sound.specs.JudgedTexts.{globals_in}
use Rattle.ckc_blame_given.specs.Together.{AreTogether}
use Rattle.ckc_blame_given.proofs.Bundles.{bundle_together}
use Rattle.ckc_blame_control.specs.Ready.{Faces}
use Rattle.ckc_blame_control.proofs.Faced.{faces_bundle}
use Rattle.ckc_blame_control.proofs.Moved.{stands_ready}
use Rattle.ckc_blame_given.specs.Written.{AreOne, IsFitting}
use Rattle.ckc_blame_given.specs.Stored.{IsAssignJudged, next_fresh, AreAssignsJudged, AreStored}
use Rattle.ckc_blame_given.proofs.Fitting.{step_fits}
use Rattle.ckc_blame_given.proofs.Stored.{assignment_stored, bundle_stored}
use Rattle.ckc_blame_steps.specs.Granted.{IsGranted, IsCoveredAct, HaveRoom, HasRoomAct}
use Rattle.ckc_blame_steps.specs.Plans.{BecomesPart, BecomeParts, AllocateSoundly}
use Rattle.ckc_blame_steps.specs.Unchecked.{StoresSafely, MovesSoundly}
use Rattle.ckc_blame_steps.proofs.Comes.{safe_as}
use Rattle.ckc_blame_steps.proofs.Declarations.{local_made}
use Rattle.ckc_blame_steps.proofs.Origins.{Kind, kind}
use Rattle.ckc_blame_steps.proofs.Strings.{strings_there, sides_strings}
use Rattle.ckc_blame_steps.proofs.SafeTargets.{assigns_as}
use Rattle.ckc_blame_steps.proofs.Plans.{AllFit, StayCovered, all_unstuck}
use Rattle.ckc_blame_steps.proofs.Stores.{planning}
use Rattle.ckc_blame_steps.proofs.StoresLie.{AreUnstuck}
use Rattle.ckc_blame_steps.proofs.Steps.{at_b, known, free, covered_there, parts_sound, row_of, side_fits, typed_act}
use Rattle.ckc_blame_steps.proofs.SoundMoves.{moves_by}

-- ---- a bundle comes from a bundle

-- whether some code begins with what an assignment becomes
abbrev is_assigning : Code → Bool
is_assigning (Assign spot target right rest) = true
is_assigning (Get spot target rest) = true
is_assigning (Put spot target e rest) = true
is_assigning (Call spot target number es rest) = true
is_assigning c = false

module _ (s : Setting) (at : Spot) (to : Destination) (literals : ℕ) where
  called_assigns : (n : Name) (es : List NotedExpr) (pos : Pos) → is_assigning (called s.text s.variables at to literals n es pos End) ≡ true
  called_assigns (name.Function k) es pos = refl
  called_assigns name.Getchar es pos = refl
  called_assigns name.Putchar es pos = refl
  called_assigns n es pos = refl

  assigned_assigns : (f : NotedExpr) → is_assigning (assigned s.text s.variables at to literals f End) ≡ true
  assigned_assigns f = by (out-Node Name Note f.node)
    where
      by : (x : NotedLayer) → is_assigning (assigned_form s.text s.variables at to literals f x End) ≡ true
      by (Node-F.Call n es) = called_assigns n es f.pos
      by x = refl

  started_assigns : (i : NotedInit) → is_assigning (started s.text s.variables at to literals i End) ≡ true
  started_assigns init.Nothing = refl
  started_assigns (init.One e) = assigned_assigns e
  started_assigns (init.Many es) = refl

module _ (s : Setting) (here there : Here) (sp : Spot) (assigns : List (Target × Right)) (i : IsStep s here (Bundle sp assigns) there) where
  code_as : (x : ActLayer) → out-Act Name Note i.after.body ≡ x → act_code (parted x) i.after.pos i.after.note.mode s.text s.variables s.result i.literals ≡ Bundle sp assigns ∷ []
  code_as x is = ap (λ (y : ActLayer). act_code (parted y) i.after.pos i.after.note.mode s.text s.variables s.result i.literals) (sym is) ∙ sym (code_is s i.literals i.after) ∙ i.becomes

  none_assigns : (c : Code) → is_assigning c ≡ true → c ≡ Bundle sp assigns End → ⊥
  none_assigns c a e = let no : true ≡ false = sym a ∙ ap is_assigning e in absurd (cc)

  pub bundle_layer : (ss : List NotedStmt) × (out-Act Name Note i.before.body ≡ Act-F.Bundle ss)
  unfolding AreAssignsJudged
  bundle_layer = by (kind s here there (Bundle sp assigns) i)
    where
      by : Kind s here there (Bundle sp assigns) i → (ss : List NotedStmt) × (out-Act Name Note i.before.body ≡ Act-F.Bundle ss)
      by (Kind.Assigns e x layer) =
          let made = assignment_stored s here i.behind i.before i.after e x i.counting layer i.judged in
          let j : IsAssignJudged s here.at here.next i.before i.after = made.0.0 in
          absurd (none_assigns _ (assigned_assigns s (spot i.after.pos i.after.note.mode) (destination_of s.text s.variables i.literals j.place) (i.literals + literals_of j.place) j.value)
          (first_step (assigned s.text s.variables (spot i.after.pos i.after.note.mode) (destination_of s.text s.variables i.literals j.place) (i.literals + literals_of j.place) j.value)
          (Bundle sp assigns) (code_as (Act-F.Assign j.place j.value) j.becomes)))
      by (Kind.Declares d layer) =
          let made = local_made s here i.counting i.before i.after d i.behind layer i.judged in
          let e : NotedDecl = made.made in
          absurd (none_assigns _ (started_assigns s (spot i.after.pos i.after.note.mode) (destination_for s.text (type_written e.ctype) e.name) (i.literals + literals_of_bounds e.bounds) e.init)
          (first_step (declared s.text s.variables (spot i.after.pos i.after.note.mode) i.literals e) (Bundle sp assigns) (code_as (Act-F.Local e) made.becomes)))
      by (Kind.Calls c) = absurd (none_assigns _ (assigned_assigns s (spot c.made.pos i.after.note.mode) nowhere i.literals c.made) c.goes)
      by (Kind.Bundles ss layer other) = (ss, layer)
      by (Kind.Others other) = absurd (cc)

-- ---- what the assignments of a bundle become

parts_become : (s : Setting) (at : flow.State) (fresh : ℕ) (befores afters : List NotedStmt) → AreAssignsJudged s at fresh befores afters → (k : ℕ)
    → AreStrings s k (inside_each listed (λ z. z) (map strings_of_stmt afters)) → BecomeParts s afters (all_assigns (map part_of afters) s.text s.variables k)
unfolding AreAssignsJudged BecomeParts
parts_become s at fresh [] [] h k strings = tt
parts_become s at fresh [] (y ∷ ys) h k strings = absurd h
parts_become s at fresh (x ∷ xs) [] h k strings = absurd h
parts_become s at fresh (x ∷ xs) (y ∷ ys) h k strings =
    let j : IsAssignJudged s at fresh x y = h.0 in
    let is : (part_of y).assigns s.text s.variables k ≡ assign s.text s.variables k j.place j.value ∷ [] =
    assigns_as s k y ∙ ap (λ (z : ActLayer). act_assigns (parted z) s.text s.variables k) j.becomes in
    let sides : AreStrings s k (strings_of_expr j.place) × AreStrings s (k + literals_of j.place) (strings_of_expr j.value) =
    sides_strings s k y (strings_in_front s (strings_of_stmt y) (inside_each listed (λ z. z) (map strings_of_stmt ys)) k strings) j.place j.value j.becomes in
    subst (λ all. BecomeParts s (y ∷ ys) (all ++ all_assigns (map part_of ys) s.text s.variables (k + (part_of y).literals))) (sym is) (
      subst (λ (z : ActLayer). BecomesPart s z (assign s.text s.variables k j.place j.value)) (sym j.becomes)
          (record {
            first = k;
            second = k + literals_of j.place;
            target = refl;
            right = refl;
            target_strings = sides.0;
            right_strings = sides.1;
          }),
      parts_become s at (next_fresh s at fresh x y j) xs ys h.1 (k + (part_of y).literals)
          (strings_after s (strings_of_stmt y) (inside_each listed (λ z. z) (map strings_of_stmt ys)) k (part_of y).literals (stmt y) strings),
    )

-- ---- a bundle

module _ (p : Typed) (g : IsGranted p) (allocations : AllocateSoundly p) (m : Mode) (st : State) (h : Sound p st) (next : List Work) (sp : Spot) (assigns : List (Target × Right)) (mode : sp.mode ≡ m)
    (safe : StoresSafely m (Bundle sp assigns End)) (f : Faces h.setting (store_in p st.blocks st.frame) st.frame.entry (Bundle sp assigns) next) (ss : List NotedStmt) (is : out-Act Name Note f.judged.before.body ≡ Act-F.Bundle ss) where
  abbrev pub t : Setting
  t = h.setting

  abbrev step : Code → Code
  step = Bundle sp assigns

  abbrev pub list : List Shape
  list = shapes_elaborated p.layout

  made : (ts : List NotedStmt) × (out-Act Name Note f.judged.after.body ≡ Act-F.Bundle ts) × AreAssignsJudged t f.here.at f.here.next ss ts × AreStored t f.here ts f.judged.behind
  made = bundle_stored t f.here f.judged.behind f.judged.before f.judged.after ss f.judged.counting is f.judged.judged

  ts : List NotedStmt
  ts = made.0

  layer : out-Act Name Note f.judged.after.body ≡ Act-F.Bundle ts
  unfolding ts
  layer = made.1

  judged : AreAssignsJudged t f.here.at f.here.next ss ts
  unfolding ts
  judged = made.2

  leads : AreStored t f.here ts f.judged.behind
  unfolding ts
  leads = made.3

  assigns_are : assigns ≡ all_assigns (map part_of ts) t.text t.variables f.judged.literals
  assigns_are =
      let code = first_step (λ rest. Bundle (spot f.judged.after.pos f.judged.after.note.mode) (all_assigns (map part_of ts) t.text t.variables f.judged.literals) rest) step
      (code_as t f.here f.exits.ends sp assigns f.judged (Act-F.Bundle ts) layer) in
      cc

  become : BecomeParts t ts assigns
  become = subst (BecomeParts t ts) (sym assigns_are) (parts_become t f.here.at f.here.next ss ts judged f.judged.literals
      (strings_there t f.judged.literals f.judged.after f.judged.strings (Act-F.Bundle ts) layer))

  covered : StayCovered m t list st.frame.entry f.here ts
  covered c at_c = subst (IsCoveredAct m t (store_of list c) f.here.seen) layer (covered_there p g st h step next f m sp mode safe c at_c)

  room : HaveRoom t.frame f.here.at 0 f.here.next (stores_of ts)
  room = subst (HasRoomAct t.frame f.here.at f.here.next) layer (g.room t st.frame.function f.here f.exits.ends step h.stands.function f.judged)

  all_fit : (befores afters : List NotedStmt) (fresh : ℕ) → AreAssignsJudged t f.here.at fresh befores afters
      → AllByRecursion (λ (x : NotedStmt). AreTypedSides (globals_in p) t (out-Act Name Note x.body)) befores
      → AllByRecursion (λ x. WellTypedStmt (globals_of_text t.text) t.variables t.result x f.judged.inside.mode f.judged.inside.looped) befores → AllFit (globals_in p) t befores
  unfolding AreAssignsJudged
  all_fit [] afters fresh j typed row = tt
  all_fit (x ∷ xs) [] fresh j typed row = absurd j
  all_fit (x ∷ xs) (y ∷ ys) fresh j typed row = (
    side_fits p g st h step next f f.judged.inside.mode f.judged.inside.looped (out-Act Name Note x.body) j.0.target j.0.right j.0.is typed.0
        (row_of p g st h step next f x f.judged.inside.mode f.judged.inside.looped row.0),
    all_fit xs ys (next_fresh t f.here.at fresh x y j.0) j.1 typed.1 row.1,
  )

  fit : AllFit (globals_in p) t ss
  fit =
      all_fit ss ts f.here.next judged (subst (IsTypedAct (globals_in p) t) is (typed_act p g st h step next f))
      (subst (λ (x : ActLayer). act_rows (globals_of_text t.text) t.variables t.result (WellTypedStmt (globals_of_text t.text) t.variables t.result) x f.judged.inside.mode f.judged.inside.looped) is
      (row_of p g st h step next f f.judged.before f.judged.inside.mode f.judged.inside.looped f.judged.inside.typed))

  fitting : All (IsFitting t) (numbered t.frame f.here.at 0 f.here.next (stores_of ts))
  fitting = step_fits p t st.frame.function g.judged h.stands.function f.judged.before f.judged.inside ss ts f.here.at f.here.next (inr is) judged f.here.at 0 f.here.next

  all_typed : (befores afters : List NotedStmt) (fresh : ℕ) → AreAssignsJudged t f.here.at fresh befores afters
      → AllByRecursion (λ (x : NotedStmt). AreTypedSides (globals_in p) t (out-Act Name Note x.body)) befores
      → All (λ (q : stores.Store). IsTyped (globals_in p) t q.target) (stores_of afters)
  unfolding AreAssignsJudged
  all_typed [] [] fresh j typed = All-nil (λ (q : stores.Store). IsTyped (globals_in p) t q.target)
  all_typed [] (y ∷ ys) fresh j typed = absurd j
  all_typed (x ∷ xs) [] fresh j typed = absurd j
  all_typed (x ∷ xs) (y ∷ ys) fresh j typed =
      let a : IsAssignJudged t f.here.at fresh x y = j.0 in
      let sides : IsTyped (globals_in p) t a.target × IsTyped (globals_in p) t a.right = subst (AreTypedSides (globals_in p) t) a.is typed.0 in
      subst (λ z. All (λ (q : stores.Store). IsTyped (globals_in p) t q.target) (with_store z y.pos (stores_of ys))) (sym a.becomes)
      (All-cons (λ (q : stores.Store). IsTyped (globals_in p) t q.target) (record { target = a.place; right = a.value; pos = y.pos }) (stores_of ys)
      (judged_typed (globals_in p) t a.target a.place fresh f.here.at sides.0 a.target_judged).0 (all_typed xs ys (next_fresh t f.here.at fresh x y a) j.1 typed.1))

  all_together : (befores afters : List NotedStmt) → AreAssignsJudged t f.here.at f.here.next befores afters → AreOne afters
      → All (λ (q : stores.Store). IsTyped (globals_in p) t q.target) (stores_of afters) → (locals : List ℕ)
      → AreTogether t locals (numbered t.frame f.here.at 0 f.here.next (stores_of afters))
  unfolding AreAssignsJudged
  all_together befores [] j one typed locals =
      bundle_together (globals_in p) t locals [] f.here.at 0 f.here.next one (λ q c. All-contains (λ (q : stores.Store). IsTyped (globals_in p) t q.target) (stores_of []) q typed c)
  all_together [] (y ∷ []) j one typed locals = absurd j
  all_together (x ∷ xs) (y ∷ []) j one typed locals =
      inl (subst (λ z. length (numbered t.frame f.here.at 0 f.here.next (with_store z y.pos [])) ≡ 1) (sym j.0.becomes) refl)
  all_together befores (y ∷ z ∷ ys) j one typed locals =
      bundle_together (globals_in p) t locals (y ∷ z ∷ ys) f.here.at 0 f.here.next one
      (λ q c. All-contains (λ (q : stores.Store). IsTyped (globals_in p) t q.target) (stores_of (y ∷ z ∷ ys)) q typed c)

  pub bundle_comes : MovesSoundly m p (comes_to [] (bundled list (planning p g st h step next f) assigns))
  bundle_comes =
      parts_sound p g st h step next f m allocations ss ts assigns judged leads fit covered become room fitting
      (all_together ss ts judged leads.one (all_typed ss ts f.here.next judged (subst (IsTypedAct (globals_in p) t) is (typed_act p g st h step next f))))

  -- in checked code no target is stuck in the state before the step
  pub bundle_unstuck : m ≡ Checked → AreUnstuck list st assigns
  bundle_unstuck checked =
      let at = at_b p g st h step next f in
      let known = known p g st h step next f in
      all_unstuck m (globals_in p) t (frames_agree p t st.frame.function g.judged h.stands.function) (g.declares t st.frame.function h.stands.function) (free p g st h step next f) list st.frame.entry f.here
      (allocations m t st.frame.function f.here f.exits.ends step st.frame.entry h.stands.function f.judged)
      checked (planning p g st h step next f) at ss ts assigns 0 f.here.next known.word known.fresh judged fit (covered (planning p g st h step next f) at) become room

pub every_bundle : (p : Typed) (st : State) (h : Sound p st) (sp : Spot) (assigns : List (Target × Right)) (rest : Code) (next : List Work) → IsGranted p → AllocateSoundly p
    → settled st.frame.work ≡ Rest (Bundle sp assigns rest) ∷ next → (m : Mode) → (spot_of st).mode ≡ m → StoresSafely m (Bundle sp assigns rest) → MovesSoundly m p (source_step (elaborated p) st)
every_bundle p st h sp assigns rest next g allocations is m mode safe =
    let f = faces_bundle h.setting (store_in p st.blocks st.frame) st.frame.entry st.frame.work next (stands_ready p st h) sp assigns rest is in
    let b = bundle_layer h.setting f.here f.exits.ends sp assigns f.judged in
    moves_by m p st (Rest (Bundle sp assigns rest) ∷ next) is
    (bundle_comes p g allocations m st h (Rest rest ∷ next) sp assigns (subst (λ w. (spot_at st.frame.function.end w).mode ≡ m) is mode)
    (safe_as m (Bundle sp assigns rest) (Bundle sp assigns End) refl safe) f b.0 b.1)

pub every_bundle_unstuck : (p : Typed) (st : State) (h : Sound p st) (sp : Spot) (assigns : List (Target × Right)) (rest : Code) (next : List Work) → IsGranted p → AllocateSoundly p
    → settled st.frame.work ≡ Rest (Bundle sp assigns rest) ∷ next → (spot_of st).mode ≡ Checked → AreUnstuck (shapes_elaborated p.layout) st assigns
every_bundle_unstuck p st h sp assigns rest next g allocations is mode =
    let f = faces_bundle h.setting (store_in p st.blocks st.frame) st.frame.entry st.frame.work next (stands_ready p st h) sp assigns rest is in
    let b = bundle_layer h.setting f.here f.exits.ends sp assigns f.judged in
    bundle_unstuck p g allocations Checked st h (Rest rest ∷ next) sp assigns (subst (λ w. (spot_at st.frame.function.end w).mode ≡ Checked) is mode) tt f b.0 b.1 refl
