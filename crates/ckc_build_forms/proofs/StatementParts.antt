-- What judges and builds a statement, apart from the text that it stands in.
use Rattle.std.proofs.Common.{◌≡◌, refl, sym, ap, ◌∙◌, ℕ, ◌+◌, ◌≤◌, Bool, true, false, List, [], ◌∷◌, length, rules}
use Rattle.std.specs.Prelude.{not, ◌&&◌, nat_le, Option, None, Some, Ok, Err, ◌||◌}
use Rattle.std.specs.List.{list_all}
use Rattle.ckc_base.specs.declared.places.Pos.{Pos}
use Rattle.ckc_base.specs.Outcomes.{Outcome, unless}
use Rattle.ckc_syntax.specs.Inside.{all_have, inside_each}
use Rattle.ckc_syntax.specs.declared.tree.Name.{Name}
use Rattle.ckc_syntax.specs.declared.tree.Act.{Act-F, map-Act, out-Act, roll-Act, fold-roll-Act, fold_out-Act, the_lemmas}
use Rattle.ckc_syntax.specs.declared.tree.Stmt.{fold-roll-Stmt}
use Rattle.ckc_syntax_limits.specs.Depth.{act_depth, depth_of_stmt, stmt_depth, depth_of_act}
use Rattle.ckc_typed.specs.declared.typed.Note.{Note}
use Rattle.ckc_typed.specs.declared.typed.Typed.{Typed}
use Rattle.ckc_typed.specs.Trees.{NotedAct, NotedExpr, NotedStmt}
use Rattle.ckc_typed_welltyped.specs.Productions.{Given}
use Rattle.ckc_blame_steps.specs.ckc_bounds_known.proofs.Reaching.{and_cases}
use Rattle.ckc_blame_steps.specs.ckc_bounds_points.specs.Flow.{State}
use Rattle.ckc_blame_steps.specs.ckc_bounds_ranges.specs.Bundles.{is_bundle}
use Rattle.ckc_blame_steps.specs.ckc_bounds_statements.specs.Paths.{Here, is_good, stated, to_step, Path, ActPath, act_path, stmt_path, path_of_act, path}
use Rattle.ckc_build_elaborate.specs.Statements.{ActPart, Part, act_code, act_parts, stmt_parts, part_of, part_of_act, stmt_elaborated}
use Rattle.ckc_blame_steps.specs.ckc_blame_sound.specs.Settings.{Setting}
use Rattle.ckc_blame_steps.specs.ckc_blame_sound.proofs.Judging.{Gives}
use Rattle.std.proofs.lemmas.Bool.{leb-true}
use Rattle.ckc_syntax.specs.declared.tree.Act.TheVariants as act

-- ---- outcomes

pub kept : {A : Type 0} (P : A → Type 0) (b : Bool) (code : ℕ) (at : Pos) (o : Outcome A) → Gives P o → Gives P (unless b code at o)
kept P true code at o h = tt
kept P false code at o h = h

-- what is made if a rule is kept
pub if_kept : {A : Type 0} (P : A → Type 0) (b : Bool) (code : ℕ) (at : Pos) (o : Outcome A) → (b ≡ true → Gives P o) → Gives P (unless (not b) code at o)
if_kept P true code at o h = h refl
if_kept P false code at o h = tt

pub nothing : {A : Type 0} (o : Outcome A) → Gives (λ (a : A). Unit {0}) o
nothing (Ok a) = tt
nothing (Err r) = tt

pub some_same : {A : Type 0} {x y : A} → ◌≡◌ {A = Option A} (Some x) (Some y) → x ≡ y
some_same e = cc

pub none_some : {A : Type 0} {y : A} {X : Type 0} → ◌≡◌ {A = Option A} None (Some y) → X
none_some e = absurd cc

-- ---- statements by what they do

abbrev pub Layer : Type 0
Layer = Act-F Name Note NotedAct NotedStmt

abbrev pub depths : Layer → Act-F Name Note ℕ ℕ
depths = map-Act Name Note NotedAct NotedStmt ℕ ℕ depth_of_act depth_of_stmt

pub act_out : (x : Layer) → out-Act Name Note (roll-Act Name Note x) ≡ x
act_out x = search (rules, the_lemmas)

pub depth_layered : (st : NotedStmt) → depth_of_stmt st ≡ act_depth (depths (out-Act Name Note st.body)) + 1
depth_layered st =
    fold-roll-Stmt Name Note ℕ ℕ act_depth stmt_depth (record { body = st.body; pos = st.pos; note = st.note })
    ∙ ap (λ d. d + 1) (fold_out-Act Name Note ℕ ℕ act_depth stmt_depth st.body)

pub path_is : (st : NotedStmt) → stmt_path (record { body = path_of_act st.body; pos = st.pos; note = st.note }) ≡ path st
path_is st = sym (fold-roll-Stmt Name Note ActPath Path act_path stmt_path (record { body = st.body; pos = st.pos; note = st.note }))

abbrev pub act_inside : Layer → Act-F Name Note ActPath Path
act_inside = map-Act Name Note NotedAct NotedStmt ActPath Path path_of_act path

abbrev pub part_act : Layer → Act-F Name Note ActPart Part
part_act = map-Act Name Note NotedAct NotedStmt ActPart Part part_of_act part_of

abbrev pub part_if : Option NotedStmt → Option Part
part_if None = None
part_if (Some st) = Some (part_of st)

-- ---- what becomes of a statement, by what it does

module _ (p : Typed) (s : Setting) where
  pub code_is : (at : Pos) (note : Note) (x : Layer) (a : NotedAct) (k : ℕ) → roll-Act Name Note x ≡ a
      → stmt_elaborated p s.variables s.result k (stated at note a) ≡ act_code (part_act x) at note.mode p s.variables s.result k
  code_is at note x a k rolls =
      ap (λ (q : Part). q.code p s.variables s.result k) (fold-roll-Stmt Name Note ActPart Part act_parts stmt_parts (record { body = a; pos = at; note = note }))
      ∙ ap (λ (q : ActPart). q.code at note.mode p s.variables s.result k) (ap part_of_act (sym rolls) ∙ fold-roll-Act Name Note ActPart Part act_parts stmt_parts x)

  pub assigns_is : (at : Pos) (note : Note) (e f : NotedExpr) (k : ℕ)
      → (part_of (stated at note (act.Assign e f))).assigns p s.variables k ≡ (act_parts (part_act (Act-F.Assign e f))).assigns p s.variables k
  assigns_is at note e f k =
      ap (λ (q : Part). q.assigns p s.variables k) (fold-roll-Stmt Name Note ActPart Part act_parts stmt_parts (record { body = act.Assign e f; pos = at; note = note }))
      ∙ ap (λ (q : ActPart). q.assigns p s.variables k) (ap part_of_act (sym (act.rolls-Assign e f)) ∙ fold-roll-Act Name Note ActPart Part act_parts stmt_parts (Act-F.Assign e f))

-- ---- points

pub step_off : (o : Option State) (here : Here) → here.counting ≡ false → (to_step o here).counting ≡ false
step_off None here off = off
step_off (Some at) here off = off

-- ---- bundles

pub bundle_sizes : (ss : List NotedStmt) → is_bundle ss ≡ true → (2 ≤ length ss) × (length ss ≤ 8)
bundle_sizes ss h =
    let a = and_cases (nat_le 2 (length ss)) _ h in
    let b = and_cases (nat_le (length ss) 8) _ a.1 in
    (leb-true 2 (length ss) a.0, leb-true (length ss) 8 b.0)

pub good_bundle : (here : Here) (ss : List NotedStmt) → here.counting ≡ false → is_good here ss ≡ true → is_bundle ss ≡ true
good_bundle here ss off h = by here.counting off h
  where
    by : (b : Bool) → b ≡ false → (b || is_bundle ss) ≡ true → is_bundle ss ≡ true
    by true e g = absurd cc
    by false e g = g

pub both_true : (a b : Bool) → a ≡ true → b ≡ true → (a && b) ≡ true
both_true true b e f = f
both_true false b e f = absurd cc

pub fine_parts : (gs : List Given) → list_all (λ (g : Given). g.fine && g.assigns) gs ≡ true → inside_each all_have (λ (g : Given). g.fine) gs ≡ true
fine_parts [] h = refl
fine_parts (g ∷ gs) h = let a = and_cases (g.fine && g.assigns) _ h in both_true g.fine _ (and_cases g.fine g.assigns a.0).0 (fine_parts gs a.1)
