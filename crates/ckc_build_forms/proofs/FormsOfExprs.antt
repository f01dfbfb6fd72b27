-- An expression of a statement that is judged has the form once it is judged.
use Rattle.std.proofs.Common.{◌≡◌, ◌∙◌, refl, sym, ap, subst, ℕ, ◌≤◌, Bool, true, false, List, [], ◌∷◌, ◌++◌, map, length}
use Rattle.std.specs.Prelude.{All, if◌then◌else◌, Some, None, Ok, Err}
use Rattle.std.proofs.lemmas.List.Elements.{All-nil, All-cons, All-head, All-tail}
use Rattle.ckc_base.specs.Outcomes.{Outcome}
use Rattle.ckc_base.specs.declared.arithmetic.Mode.{Mode}
use Rattle.ckc_syntax.specs.Inside.{listed, inside_each, inside_limits}
use Rattle.ckc_syntax.specs.declared.tree.Name.{Name}
use Rattle.ckc_syntax.specs.declared.tree.Limits.{Limits-F, map-Limits, out-Limits, fold_out-Limits}
use Rattle.ckc_syntax.specs.declared.tree.Node.{Node-F, map-Node, out-Node, fold-Node, fold_out-Node}
use Rattle.ckc_syntax.specs.declared.tree.Expr.{fold-roll-Expr}
use Rattle.ckc_syntax_limits.specs.Depth.{limits_depth, node_depth, expr_depth, depth_of_expr}
use Rattle.ckc_typed.specs.declared.environment.Globals.{Globals}
use Rattle.ckc_typed.specs.declared.typed.Note.{Note}
use Rattle.ckc_typed.specs.declared.typed.Typed.{Typed}
use Rattle.ckc_typed.specs.Statics.{Strings, node_strings, expr_strings, strings_of_limits, strings_of_expr}
use Rattle.ckc_typed.specs.Trees.{Item, NotedLimits, NotedNode, NotedExpr, NotedLayer}
use Rattle.ckc_typed_fit.specs.Tests.{type_passes, expr_passes}
use Rattle.ckc_typed_welltyped.specs.Expressions.{WellTypedExpr, IsNoted}
use Rattle.ckc_typed_welltyped.specs.Noteless.{BareLimits, BareNode, BareExpr, limits_bared, node_bared, expr_bared, bare_expr}
use Rattle.ckc_blame_steps.specs.ckc_bounds_known.proofs.Reaching.{and_cases}
use Rattle.ckc_blame_steps.specs.ckc_bounds_points.specs.Flow.{State}
use Rattle.ckc_blame_steps.specs.ckc_bounds_views.specs.Views.{view}
use Rattle.ckc_blame_steps.specs.ckc_bounds_statements.specs.Paths.{Here, expr_judged, value_judged}
use Rattle.ckc_blame_steps.specs.ckc_blame_sound.specs.Settings.{Setting}
use Rattle.ckc_blame_steps.specs.ckc_blame_sound.specs.Typed.{HasRow, IsTyped}
use Rattle.ckc_blame_steps.specs.ckc_blame_sound.specs.Words.{HasWords}
use Rattle.ckc_blame_steps.specs.ckc_blame_sound.proofs.Every.{LimitsLayer, ExprLayer, EachExpr, each_follows}
use Rattle.ckc_blame_steps.specs.ckc_blame_sound.proofs.TypedBodies.{expressions_are_typed}
use Rattle.ckc_blame_steps.specs.ckc_blame_sound.proofs.Judging.{Gives, bound, judged_typed}
use Rattle.ckc_blame_steps.specs.ckc_blame_sound.proofs.KeptTrees.{same_fold}
use Rattle.ckc_blame_steps.proofs.Down.{AllDown, DownLimits, Down, each_down}
use Rattle.ckc_blame_steps.specs.ckc_blame_walk.proofs.Exprs.{node_open, expr_follows}
use Rattle.ckc_blame_steps.specs.ckc_blame_walk.proofs.Sized.{tag_tests}
use Rattle.ckc_blame_steps.specs.ckc_blame_walk.proofs.Sizes.{HasMembers}
use Rattle.ckc_typed.specs.Layouts.{structs_of}
use Rattle.ckc_build_forms.proofs.FormsOfValues.{IsShortNode, HasShort, IsFitting, Good}
use Rattle.ckc_build_forms.proofs.RangesNoted.{HasNoRange, HasItsRange, ranges_noted}
use Rattle.ckc_build_forms.proofs.SoundTypes.{WritesTagged, HasSizes}
use Rattle.ckc_build_forms.proofs.TaggedTypes.{type_tagged}

-- ---- lists

pub left_of : {X : Type 0} (P : X → Type 0) (xs ys : List X) → All P (xs ++ ys) → All P xs
left_of P [] ys h = All-nil P
left_of P (x ∷ xs) ys h = All-cons P x xs (All-head P x (xs ++ ys) h) (left_of P xs ys (All-tail P x (xs ++ ys) h))

pub right_of : {X : Type 0} (P : X → Type 0) (xs ys : List X) → All P (xs ++ ys) → All P ys
right_of P [] ys h = h
right_of P (x ∷ xs) ys h = right_of P xs ys (All-tail P x (xs ++ ys) h)

-- ---- string literals

abbrev pub IsShort : List ℕ → Type 0
IsShort bytes = length bytes ≤ 4194304

abbrev pub AreShort : Strings → Type 0
AreShort ss = All IsShort ss

abbrev strings_of_node : NotedNode → Strings
strings_of_node = fold-Node Name Note Strings Strings Strings (inside_limits listed (λ (s : Strings). s)) node_strings expr_strings

abbrev node_inside : NotedLayer → Node-F Name Note Strings Strings Strings
node_inside = map-Node Name Note NotedLimits NotedNode NotedExpr Strings Strings Strings strings_of_limits strings_of_node strings_of_expr

abbrev limits_inside : LimitsLayer → Limits-F Name Note Strings Strings Strings
limits_inside = map-Limits Name Note NotedLimits NotedNode NotedExpr Strings Strings Strings strings_of_limits strings_of_node strings_of_expr

abbrev ShortExpr : NotedExpr → Type 0
ShortExpr e = AreShort (strings_of_expr e)

abbrev ShortLimits : NotedLimits → Type 0
ShortLimits l = AreShort (strings_of_limits l)

strings_are : (e : NotedExpr) → strings_of_expr e ≡ node_strings (node_inside (out-Node Name Note e.node))
strings_are e =
    fold-roll-Expr Name Note Strings Strings Strings (inside_limits listed (λ (s : Strings). s)) node_strings expr_strings (record { node = e.node; pos = e.pos; note = e.note })
    ∙ fold_out-Node Name Note Strings Strings Strings (inside_limits listed (λ (s : Strings). s)) node_strings expr_strings e.node

args_down : (es : List NotedExpr) → AreShort (inside_each listed (λ (s : Strings). s) (map strings_of_expr es)) → AllDown ShortExpr es
args_down [] h = tt
args_down (e ∷ es) h = (left_of IsShort (strings_of_expr e) _ h, args_down es (right_of IsShort (strings_of_expr e) _ h))

limits_down : (x : LimitsLayer) → AreShort (inside_limits listed (λ (s : Strings). s) (limits_inside x)) → DownLimits ShortExpr x
limits_down (Limits-F.Count e at) h = h
limits_down (Limits-F.ByteCount e at) h = h
limits_down (Limits-F.Between e f at) h = (left_of IsShort (strings_of_expr e) _ h, right_of IsShort (strings_of_expr e) _ h)
limits_down (Limits-F.Unknown at) h = tt

node_down : (x : NotedLayer) → AreShort (node_strings (node_inside x)) → Down ShortExpr ShortLimits x
node_down (Node-F.Number n u) h = tt
node_down (Node-F.Text bytes) h = tt
node_down Node-F.Null h = tt
node_down (Node-F.Name n) h = tt
node_down (Node-F.Un o e) h = h
node_down (Node-F.Bin o e f) h = (left_of IsShort (strings_of_expr e) _ h, right_of IsShort (strings_of_expr e) _ h)
node_down (Node-F.Pick e f g) h =
    let both = left_of IsShort (strings_of_expr e ++ strings_of_expr f) _ h in
    (left_of IsShort (strings_of_expr e) _ both, right_of IsShort (strings_of_expr e) _ both, right_of IsShort (strings_of_expr e ++ strings_of_expr f) _ h)
node_down (Node-F.Index e f) h = (left_of IsShort (strings_of_expr e) _ h, right_of IsShort (strings_of_expr e) _ h)
node_down (Node-F.Dot e n at) h = h
node_down (Node-F.Arrow e n at) h = h
node_down (Node-F.Cast w e) h = h
node_down (Node-F.Size w) h = tt
node_down (Node-F.Trusted w e None) h = (left_of IsShort (strings_of_expr e) [] h, tt)
node_down (Node-F.Trusted w e (Some l)) h = (left_of IsShort (strings_of_expr e) _ h, right_of IsShort (strings_of_expr e) _ h)
node_down (Node-F.Tested w e None) h = (left_of IsShort (strings_of_expr e) [] h, tt)
node_down (Node-F.Tested w e (Some l)) h = (left_of IsShort (strings_of_expr e) _ h, right_of IsShort (strings_of_expr e) _ h)
node_down (Node-F.Call n es) h = args_down es h
node_down (Node-F.Calloc w e u) h = h

short_node : (x : NotedLayer) → AreShort (node_strings (node_inside x)) → IsShortNode x
short_node (Node-F.Text bytes) h = All-head IsShort bytes [] h
short_node x h = tt

pub short_there : (e : NotedExpr) → AreShort (strings_of_expr e) → EachExpr HasShort e
short_there =
    each_down ShortExpr ShortLimits HasShort
    (λ e h. short_node (out-Node Name Note e.node) (subst AreShort (strings_are e) h))
    (λ e h. node_down (out-Node Name Note e.node) (subst AreShort (strings_are e) h))
    (λ l h. limits_down (out-Limits Name Note l)
    (subst AreShort (fold_out-Limits Name Note Strings Strings Strings (inside_limits listed (λ (s : Strings). s)) node_strings expr_strings l) h))

-- ---- types that are written

module _ (js : List Item) (members : All HasMembers js) where
  abbrev IsTaggedNode : NotedLayer → Type 0
  IsTaggedNode = WritesTagged (structs_of js)

  tagged_open : (visible : List Name) (x : NotedLayer) → node_open (tag_tests js) visible x ≡ true → IsTaggedNode x
  tagged_open visible (Node-F.Cast w e) h = type_tagged js members w (and_cases (type_passes (tag_tests js) w) _ h).0
  tagged_open visible (Node-F.Trusted w e l) h = type_tagged js members w (and_cases (type_passes (tag_tests js) w) _ h).0
  tagged_open visible (Node-F.Tested w e l) h = type_tagged js members w (and_cases (type_passes (tag_tests js) w) _ h).0
  tagged_open visible (Node-F.Calloc w e u) h = type_tagged js members w (and_cases (type_passes (tag_tests js) w) _ h).0
  tagged_open visible x h = tt

  pub tagged_there : (visible : List Name) (e : NotedExpr) → expr_passes (tag_tests js) visible (bare_expr e) ≡ true → EachExpr (λ (x : ExprLayer). IsTaggedNode (out-Node Name Note x.node)) e
  tagged_there visible e h = expr_follows (tag_tests js) visible IsTaggedNode (tagged_open visible) e h

-- ---- an expression before it is judged

-- what is asked of an expression of a statement
pub record MayBe (js : List Item) (globals : Globals) (s : Setting) (mode : Mode) (visible : List Name) (e : NotedExpr) : Type 0 where
  pub typed : WellTypedExpr globals s.variables mode e
  pub words : HasWords e
  pub passes : expr_passes (tag_tests js) visible (bare_expr e) ≡ true
  pub short : AreShort (strings_of_expr e)
  pub deep : depth_of_expr e ≤ 64

module _ (p : Typed) (globals : Globals) (s : Setting) (js : List Item) (members : All HasMembers js) (layout : p.layout ≡ structs_of js) where
  abbrev pub Fit : ExprLayer → Type 0
  Fit = IsFitting globals s p.layout

  pub judged_fits : (mode : Mode) (visible : List Name) (e f : NotedExpr) (fresh : ℕ) (at : State) → MayBe js globals s mode visible e → (view s.frame e).judged fresh at ≡ Ok f → EachExpr Fit f
  judged_fits mode visible e f fresh at m is =
      let typed : IsTyped globals s e = expressions_are_typed globals s mode e m.typed m.words in
      let bare : EachExpr HasNoRange e = each_follows (IsNoted globals s.variables mode) (IsNoted globals s.variables mode) HasNoRange (λ x n o. n.range) e m.typed m.typed in
      let rows : IsTyped globals s f = (judged_typed globals s e f fresh at typed is).0 in
      let ranges = ranges_noted s.frame e f fresh at bare is in
      let same = same_fold s.frame (BareLimits Name) (BareNode Name) (BareExpr Name) limits_bared node_bared expr_bared (λ n pos note r. refl) e f fresh at is in
      let tags = tagged_there js members visible f (ap (expr_passes (tag_tests js) visible) same ∙ m.passes) in
      let strings = same_fold s.frame Strings Strings Strings (inside_limits listed (λ (x : Strings). x)) node_strings expr_strings (λ n pos note r. refl) e f fresh at is in
      let short = short_there f (subst AreShort (sym strings) m.short) in
      let sizes : EachExpr (HasSizes p.layout globals s) f =
      each_follows (HasRow globals s) (λ (x : ExprLayer). WritesTagged (structs_of js) (out-Node Name Note x.node)) (HasSizes p.layout globals s)
      (λ x r t. (r, subst (λ (z : _). WritesTagged z (out-Node Name Note x.node)) (sym layout) t)) f rows tags in
      each_follows (HasSizes p.layout globals s) (λ (x : ExprLayer). HasItsRange s.frame x × HasShort x) Fit (λ x a b. (a, b.0, b.1)) f sizes
      (each_follows (HasItsRange s.frame) HasShort (λ (x : ExprLayer). HasItsRange s.frame x × HasShort x) (λ x a b. (a, b)) f ranges short)

  depth_stays : (e f : NotedExpr) (fresh : ℕ) (at : State) → (view s.frame e).judged fresh at ≡ Ok f → depth_of_expr f ≡ depth_of_expr e
  depth_stays e f fresh at is = same_fold s.frame ℕ ℕ ℕ limits_depth node_depth expr_depth (λ n pos note r. refl) e f fresh at is

  abbrev FitsDeep : NotedExpr → Type 0
  FitsDeep = Good p globals s

  -- what is judged, and not only counted, fits
  pub record Made (q : NotedExpr × Here) : Type 0 where
    pub is : Good p globals s q.0
    pub off : q.1.counting ≡ false

  pub value_fits : (mode : Mode) (visible : List Name) (e : NotedExpr) (here : Here) → MayBe js globals s mode visible e → here.counting ≡ false → Gives Made (value_judged s.frame e here)
  unfolding value_judged
  value_fits mode visible e here m off =
      bound FitsDeep Made (expr_judged s.frame e here) _ (by here.counting off) (λ f h. record { is = h; off = off })
    where
      made : (o : Outcome NotedExpr) → (view s.frame e).judged here.next here.at ≡ o → Gives FitsDeep o
      made (Ok f) is = record {
        fit = judged_fits mode visible e f here.next here.at m is;
        deep = subst (λ n. n ≤ 64) (sym (depth_stays e f here.next here.at is)) m.deep;
      }
      made (Err r) is = tt

      by : (b : Bool) → b ≡ false → Gives FitsDeep (if b then Ok e else (view s.frame e).judged here.next here.at)
      by true h = absurd cc
      by false h = made ((view s.frame e).judged here.next here.at) refl
