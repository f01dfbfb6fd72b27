-- The claims of `*p` and `p[e]`, by the kind of the pointer.
use Rattle.std.proofs.Common.{◌≡◌, refl, sym, ap, subst, ◌∙◌, ℕ, ◌+◌, Bool, true, false, List}
use Rattle.std.specs.Prelude.{◌<◌, ◌^◌, length, pos, Option, None, Some, Ok}
use Rattle.ckc_base.specs.declared.places.Pos.{Pos}
use Rattle.ckc_types.specs.declared.types.Kind.{Kind}
use Rattle.ckc_types.specs.declared.types.Kind.TheVariants as kind
use Rattle.ckc_linear.specs.declared.forms.Form.{Form}
use Rattle.ckc_typed.specs.declared.environment.Globals.{Globals}
use Rattle.ckc_typed.specs.Trees.{NotedExpr}
use Rattle.ckc_typed.specs.Types.{kind_of, element_of}
use Rattle.ckc_blame_sound.specs.ckc_bounds_views.specs.Parts.{NodeOfViews}
use Rattle.ckc_blame_sound.specs.ckc_bounds_views.specs.Conditions.{widening, widening_side}
use Rattle.ckc_blame_sound.specs.ckc_bounds_views.specs.Judged.{is_counted_kind, access_fault}
use Rattle.ckc_blame_sound.specs.ckc_bounds_views.specs.Views.{node_view, view}
use Rattle.ckc_blame_sound.specs.ckc_bounds_statements.specs.Paths.{Here}
use Rattle.ckc_source.specs.declared.outcome.Value.{Value}
use Rattle.ckc_source.specs.declared.expr.Integer.{Integer}
use Rattle.ckc_source.specs.Code.{Expr}
use Rattle.ckc_source.specs.Eval.{Store, evaluated}
use Rattle.ckc_source.specs.Words.{exact, elements_behind}
use Rattle.ckc_build_values.specs.Kinds.{size_behind, count_of_kind}
use Rattle.ckc_build_values.specs.Places.{element_place, read_at}
use Rattle.ckc_blame_sound.specs.Settings.{Setting}
use Rattle.ckc_blame_sound.specs.Points.{HoldsAt}
use Rattle.ckc_blame_sound.specs.Typed.{Agrees}
use Rattle.ckc_blame_sound.specs.Bodies.{AreFresh}
use Rattle.ckc_blame_pointers.specs.Valuations.{address_by}
use Rattle.ckc_blame_pointers.specs.Covered.{DeclareLocals, IsSoundStore, IsElement}
use Rattle.ckc_blame_pointers.specs.Meant.{IsNotStuck}
use Rattle.ckc_blame_pointers.proofs.Nodes.{NodeClaims}
use Rattle.ckc_blame_pointers.proofs.Binary.{ExprClaims}
use Rattle.ckc_blame_pointers.proofs.Elements.{at_pointer, IsRanged, ranged_pointer, WidensThere, element_claims, wide_terminated, narrow_there}
use Rattle.ckc_blame_pointers.proofs.Claims.{IsOfLocal}
use Rattle.ckc_blame_pointers.proofs.Loads.{integer_part, no_count}

module _ (globals : Globals) (s : Setting) (agrees : Agrees globals s) (declares : DeclareLocals s) (store : Store) (entry : List ℕ) (next : ℕ) (ready : IsSoundStore s store next) (here : Here) (h : HoldsAt s store entry here) where
  -- `*p` and `p[e]`
  pub read_claims : (n : NodeOfViews) (e : NotedExpr) → (view s.frame e).ctype ≡ e.note.ctype → IsElement e → (place : Pos) (index : Integer) (v w : Expr) (R : Value → Type 0) → IsNotStuck (ExprClaims s store entry here e) (evaluated store v)
      → IsNotStuck R (evaluated store w) → (few : (view s.frame e).values + 1 < 2 ^ 32) (fresh : ℕ) (little : fresh + length ((view s.frame e).fresh here.at) < 2 ^ 32) (are : AreFresh s.frame fresh) → access_fault (view s.frame e) place fresh here.at ≡ None
      → (node_view s.frame n).null ≡ false → (node_view s.frame n).is_zero ≡ false
      → ((b : Bool) → (node_view s.frame n).side b here.at ≡ widening_side s.frame (node_view s.frame n).behind ((node_view s.frame n).target 0) b here.at) → (node_view s.frame n).behind ≡ kind_of e.note.ctype
      → ((x : Value) (c : ExprClaims s store entry here e x) (j : Value) → evaluated store w ≡ Ok j → (a : ℕ) → pos a ≡ elements_behind x.number (size_behind s.text.layout e.note.ctype) (exact index j.number)
      → (f : Form) → (node_view s.frame n).target 0 here.at.facts ≡ Some f
      → (pos a ≡ address_by s store.locals (at_pointer s store entry next ready here h e fresh few little are x c).after (size_behind s.text.layout e.note.ctype) f) × IsOfLocal s e.note.ctype f.base)
      → IsNotStuck (NodeClaims s store entry here h (element_of e.note.ctype) (node_view s.frame n))
      (evaluated store (read_at s.text.layout (element_of e.note.ctype) (count_of_kind (kind_of (element_of e.note.ctype))) (element_place s.text.layout e.note.ctype place index v w)))
  read_claims n e viewed node place index v w R left right few fresh little are fault known some same behind aims =
      subst (λ x. IsNotStuck (NodeClaims s store entry here h (element_of e.note.ctype) (node_view s.frame n)) (evaluated store x))
      (sym (ap (λ o. read_at s.text.layout (element_of e.note.ctype) o (element_place s.text.layout e.note.ctype place index v w)) (no_count (element_of e.note.ctype) node.integer)))
      (element_claims s store entry next ready here h e fresh few little are place index v w R left right counted
      ranged 0 (element_of e.note.ctype) (integer_part s.text.layout (element_of e.note.ctype) node.integer) node.integer (node_view s.frame n) known some same (widens (kind_of e.note.ctype) refl counted))
    where
      counted : is_counted_kind (kind_of e.note.ctype) ≡ true
      counted = node.counted

      ranged : (x : Value) → ExprClaims s store entry here e x → IsRanged s store entry next ready here h e fresh few little are x
      ranged = ranged_pointer s store entry next ready here h e fresh few little are place (ap is_counted_kind (ap kind_of viewed) ∙ counted) fault

      widens : (q : Option Kind) → kind_of e.note.ctype ≡ q → is_counted_kind q ≡ true
          → WidensThere s store entry next ready here h e fresh few little are place index v w R left right counted node.integer ranged (node_view s.frame n)
      widens (Some kind.Arr) is c =
          narrow_there s store entry next ready here h e fresh few little are place index v w R left right counted ranged 0 (element_of e.note.ctype)
          (integer_part s.text.layout (element_of e.note.ctype) node.integer) (node_view s.frame n) (ap (λ q. widening s.frame q ((node_view s.frame n).target 0 here.at.facts) here.at) (behind ∙ is))
      widens (Some kind.Nt) is c =
          wide_terminated s store entry next ready here h e fresh few little are place index v w R left right counted node.integer ranged globals agrees declares (node_view s.frame n) (behind ∙ is)
          (λ x j c d there a at f target. aims x c j there a at f target)
      widens (Some kind.One) is c = absurd (cc)
      widens (Some kind.Raw) is c = absurd (cc)
      widens None is c = absurd (cc)
