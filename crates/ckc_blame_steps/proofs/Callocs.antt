-- What is said of a `calloc`, and what judging makes of it.
use Rattle.std.proofs.Common.{◌≡◌, refl, sym, ap, subst, ◌∙◌, ℕ, Bool, true, false, rules}
use Rattle.std.specs.Prelude.{◌&&◌, if◌then◌else◌, is_some, Option, None, Some, Ok, Err}
use Rattle.ckc_base.specs.Outcomes.{Outcome, bind}
use Rattle.ckc_types.specs.declared.types.CType.{CType}
use Rattle.ckc_types.specs.declared.types.CType.TheVariants as ctype
use Rattle.ckc_linear.specs.declared.forms.Base.TheVariants as base
use Rattle.ckc_linear.specs.declared.forms.Form.{Form}
use Rattle.ckc_syntax.specs.declared.tree.Name.{Name}
use Rattle.ckc_syntax.specs.declared.tree.Node.{Node-F, out-Node, every-Node, the_lemmas as node_lemmas}
use Rattle.ckc_syntax.specs.declared.tree.Node.TheVariants as node
use Rattle.ckc_syntax.specs.declared.tree.Expr.{every_here-Expr}
use Rattle.ckc_typed.specs.declared.environment.Globals.{Globals}
use Rattle.ckc_typed.specs.declared.typed.Note.{Note}
use Rattle.ckc_typed.specs.declared.typed.Range.TheVariants as range
use Rattle.ckc_typed.specs.Conversions.{is_allocation, is_allocation_form}
use Rattle.ckc_typed.specs.Trees.{NotedExpr, NotedLayer, TypeTree}
use Rattle.ckc_typed.specs.Types.{is_integer, is_pointer, type_written}
use Rattle.ckc_typed_welltyped.specs.Expressions.{AnyLimits, AnyNode, HasType, IsAllocation}
use Rattle.ckc_blame_sound.specs.ckc_bounds_points.specs.declared.frame.Frame.{Frame}
use Rattle.ckc_blame_sound.specs.ckc_bounds_points.specs.Flow.{State}
use Rattle.ckc_blame_sound.specs.ckc_bounds_points.specs.Forms.{base_form, in_type}
use Rattle.ckc_blame_sound.specs.ckc_bounds_points.specs.Shown.{Known}
use Rattle.ckc_blame_sound.specs.ckc_bounds_views.specs.Judged.{expr_made, expr_judged}
use Rattle.ckc_blame_sound.specs.ckc_bounds_views.specs.Parts.{View, capped, next_behind, with_last}
use Rattle.ckc_blame_sound.specs.ckc_bounds_views.specs.Ranges.{pointer_range, range_of_allocation}
use Rattle.ckc_blame_sound.specs.ckc_bounds_views.specs.Views.{node_view, expr_view, view}
use Rattle.ckc_blame_sound.specs.Settings.{Setting}
use Rattle.ckc_blame_sound.specs.Typed.{IsRow, HasRow, IsTyped}
use Rattle.ckc_blame_sound.proofs.SameViews.{same_view}
use Rattle.ckc_blame_sound.proofs.Every.{NodeParts, node_hold, inside}
use Rattle.ckc_blame_given.proofs.Views.{node_back, node_in, viewed_layer, view_is, allocates_is}
use Rattle.ckc_blame_steps.specs.Plans.{counted_in}

-- the type of the fresh variable that a `calloc` itself needs, if its count has no form
abbrev pub count_type : View → Known → Option CType
count_type c facts = if is_some (in_type facts ctype.Int (c.form facts)) then None else Some ctype.Int

-- What is said of a `calloc`, from what is said of what it counts.
pub record IsCalloc (v c : View) : Type 0 where
  pub null : v.null ≡ false
  pub allocates : v.allocates ≡ true
  pub values : v.values ≡ capped c.values 1
  pub fresh : (at : State) → v.fresh at ≡ with_last (c.fresh at) (count_type c at.facts)
  pub form : (facts : Known) → v.form facts ≡ None
  pub place : (first : ℕ) (facts : Known) → v.place first facts ≡ Some (base_form (base.Value (capped first c.values)))
  pub range : (first fresh : ℕ) (at : State)
      → v.range first fresh at ≡ range_of_allocation at.facts (c.form at.facts) (record { value = capped first c.values; fresh = next_behind fresh (c.fresh at) })

module _ (frame : Frame) (e n : NotedExpr) (w u : TypeTree) (is : out-Node Name Note e.node ≡ Node-F.Calloc w n u) (pointer : is_pointer e.note.ctype ≡ true) where
  abbrev of_calloc : View
  of_calloc = expr_view (record { node = node_view frame (Node-F.Calloc w (view frame n) u); pos = e.pos; note = e.note })

  viewed : view frame e ≡ of_calloc
  viewed = view_is frame e ∙ ap (λ (x : NotedLayer). expr_view (record { node = node_view frame (viewed_layer frame x); pos = e.pos; note = e.note })) is

  made : IsCalloc of_calloc (view frame n)
  made = record {
    null = refl;
    allocates = refl;
    values = ap (λ b. if b && true then capped (view frame n).values 1 else (view frame n).values) pointer;
    fresh = λ at. refl;
    form = λ facts. by (is_integer e.note.ctype);
    place = λ first facts. ap (λ b. if b then Some (base_form (base.Value (capped first (view frame n).values))) else None) pointer;
    range = λ first fresh at. ap (λ b. if b then range_of_allocation at.facts ((view frame n).form at.facts) (record { value = capped first (view frame n).values; fresh = next_behind fresh ((view frame n).fresh at) }) else range.Missing) pointer;
  }
    where
      by : (b : Bool) → ◌≡◌ {A = Option Form} (if b then None else None) None
      by true = refl
      by false = refl

  pub is_calloc : IsCalloc (view frame e) (view frame n)
  is_calloc = subst (λ (v : View). IsCalloc v (view frame n)) (sym viewed) made

-- ---- what judging makes of it

-- A `calloc`, and what judging made of it.
pub record IsJudgedCalloc (s : Setting) (globals : Globals) (f g n : NotedExpr) (fresh : ℕ) (at : State) : Type 0 where
  pub written : TypeTree
  pub unit : TypeTree
  pub count : NotedExpr
  pub before : out-Node Name Note f.node ≡ Node-F.Calloc written count unit
  pub after : out-Node Name Note g.node ≡ Node-F.Calloc written n unit
  pub judged : (view s.frame count).judged fresh at ≡ Ok n
  pub typed : IsTyped globals s count
  pub row : IsAllocation (type_written written) count (type_written unit) f.note.ctype

module _ (s : Setting) (globals : Globals) (f g n : NotedExpr) (fresh : ℕ) (at : State) (typed : IsTyped globals s f) (judged : (view s.frame f).judged fresh at ≡ Ok g) (counted : counted_in (out-Node Name Note g.node) ≡ Some n) where
  allocates : is_allocation f ≡ true
  allocates =
      sym (allocates_is s.frame f) ∙ sym (ap (λ (v : View). v.allocates) (same_view s.frame f g fresh at judged s.frame))
      ∙ allocates_is s.frame g ∙ by (out-Node Name Note g.node) counted
    where
      by : (x : NotedLayer) → counted_in x ≡ Some n → is_allocation_form x ≡ true
      by (Node-F.Calloc w m u) e = refl
      by x e = absurd cc

  row_of : IsRow globals s (out-Node Name Note f.node) f.note
  row_of = every_here-Expr Name Note AnyLimits AnyNode (HasRow globals s) f typed

  part_of : NodeParts (HasRow globals s) (out-Node Name Note f.node)
  part_of = node_hold (HasRow globals s) (out-Node Name Note f.node) (subst (every-Node Name Note AnyLimits AnyNode (HasRow globals s)) (sym (node_back f.node)) (inside (HasRow globals s) f typed))

  judged_is : expr_judged (node_in s.frame f) f.pos f.note fresh at ≡ Ok g
  judged_is = sym (ap (λ (v : View). v.judged fresh at) (view_is s.frame f)) ∙ judged

  node_made : (w u : TypeTree) (a : NotedExpr) → out-Node Name Note (node.Calloc w a u) ≡ Node-F.Calloc w a u
  node_made w u a = search (rules, node_lemmas)

  pub judged_calloc : IsJudgedCalloc s globals f g n fresh at
  judged_calloc = by (out-Node Name Note f.node) refl allocates judged_is
    where
      by : (x : NotedLayer) → out-Node Name Note f.node ≡ x → is_allocation_form x ≡ true
          → expr_judged (node_view s.frame (viewed_layer s.frame x)) f.pos f.note fresh at ≡ Ok g → IsJudgedCalloc s globals f g n fresh at
      by (Node-F.Calloc w m u) is a j = made_of ((view s.frame m).judged fresh at) refl j
        where
          made_of : (o : Outcome NotedExpr) → (view s.frame m).judged fresh at ≡ o
              → bind (bind o (λ a. Ok (node.Calloc w a u))) (λ k. Ok (expr_made f.pos f.note (pointer_range f.note.ctype (node_view s.frame (Node-F.Calloc w (view s.frame m) u)) 0 fresh at) k)) ≡ Ok g
              → IsJudgedCalloc s globals f g n fresh at
          made_of (Ok b) there j =
              let whole : expr_made f.pos f.note (pointer_range f.note.ctype (node_view s.frame (Node-F.Calloc w (view s.frame m) u)) 0 fresh at) (node.Calloc w b u) ≡ g = cc in
              let after : out-Node Name Note g.node ≡ Node-F.Calloc w b u = ap (λ (e : NotedExpr). out-Node Name Note e.node) (sym whole) ∙ node_made w u b in
              let one : counted_in (Node-F.Calloc w b u) ≡ Some n = ap counted_in (sym after) ∙ counted in
              let same : b ≡ n = cc in
              record {
                written = w;
                unit = u;
                count = m;
                before = is;
                after = subst (λ k. out-Node Name Note g.node ≡ Node-F.Calloc w k u) same after;
                judged = subst (λ k. (view s.frame m).judged fresh at ≡ Ok k) same there;
                typed = subst (NodeParts (HasRow globals s)) is part_of;
                row = subst (λ x. HasType globals s.variables row_of.mode x f.note.ctype) is row_of.row;
              }
          made_of (Err r) there j = absurd cc
      by x is a j = absurd cc
