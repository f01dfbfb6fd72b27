-- The amounts in the declared bounds of a judged text are at most 2^24 either way.
use Rattle.std.proofs.Common.{◌≡◌, refl, sym, subst, arith, ℕ, suc, div-le_self, Bool, true, false, List, [], ◌∷◌}
use Rattle.std.specs.Prelude.{All, ◌^◌, ◌==◌, if◌then◌else◌, ℤ, pos, negsuc, neg_ℤ, ◌≤ℤ◌, int_le, int_div, Option, None, Some, IfSome, Ok, Err}
use Rattle.std.proofs.lemmas.Bool.{and_parts}
use Rattle.std.proofs.lemmas.Int.{ints}
use Rattle.std.proofs.lemmas.List.Elements.{All-nil, All-cons}
use Rattle.ckc_base.specs.Outcomes.{Outcome, there_or}
use Rattle.ckc_base.proofs.Gives.{Gives, given_from, bound}
use Rattle.ckc_types.specs.declared.types.CType.{CType}
use Rattle.ckc_types.specs.declared.types.Kind.{Kind}
use Rattle.ckc_types.specs.declared.types.Kind.TheVariants as kind
use Rattle.ckc_types.specs.declared.types.Structs.{Structs}
use Rattle.ckc_linear.specs.declared.forms.Form.{Form}
use Rattle.ckc_syntax.specs.declared.tree.Name.{Name}
use Rattle.ckc_syntax.specs.declared.tree.Expr.{Expr}
use Rattle.ckc_syntax.specs.declared.tree.Item.TheVariants as item
use Rattle.ckc_syntax.specs.declared.tree.Limits.{Limits-F, out-Limits}
use Rattle.ckc_typed.specs.declared.environment.Amount.{Amount}
use Rattle.ckc_typed.specs.declared.typed.Note.{Note}
use Rattle.ckc_typed.specs.declared.typed.Typed.{Typed}
use Rattle.ckc_typed.specs.Amounts.{fixed, is_multiple, number_in, amount, amount_by, scaled, amount_of_bytes}
use Rattle.ckc_typed.specs.Constants.{size_of}
use Rattle.ckc_typed.specs.Trees.{NotedDecl, NotedExpr, NotedItem, NotedLimits, NotedNode}
use Rattle.ckc_typed.specs.Types.{element_of, type_written}
use Rattle.ckc_checks_operands.specs.Compilable.{IsCount, IsSmall}
use Rattle.ckc_build_values.specs.Kinds.{count_of_kind}
use Rattle.ckc_blame_steps.specs.ckc_bounds_points.specs.declared.frame.Bounds.{Bounds}
use Rattle.ckc_blame_steps.specs.ckc_bounds_points.specs.declared.frame.Frame.{Frame}
use Rattle.ckc_blame_steps.specs.ckc_bounds_points.specs.Codes.{bad_limits}
use Rattle.ckc_blame_steps.specs.ckc_bounds_points.specs.Forms.{elements}
use Rattle.ckc_blame_steps.specs.ckc_bounds_points.specs.Shown.{is_within}
use Rattle.ckc_blame_steps.specs.ckc_blame_sound.specs.ckc_bounds_declared.specs.declared.limits.Holder.{Holder}
use Rattle.ckc_blame_steps.specs.ckc_blame_sound.specs.ckc_bounds_declared.specs.Written.{own, amount_with, amount_form, counted, takes_bounds, bounds_written, bounds_declared, place_of_limits}
use Rattle.ckc_blame_steps.specs.ckc_bounds_statements.specs.DeclBounds.{holder_of, decl_bounds, bounds_there}
use Rattle.ckc_blame_steps.specs.ckc_bounds_statements.specs.Paths.{init_judged}
use Rattle.ckc_blame_steps.specs.ckc_bounds.specs.Declarations.{member_holder}
use Rattle.ckc_blame_steps.specs.ckc_bounds.specs.Frames.{text_frame}
use Rattle.ckc_blame_steps.specs.ckc_bounds.specs.Texts.{outside, members_judged, object_judged, body_judged, head_kept, item_judged, items_judged}
use Rattle.ckc_blame_steps.specs.ckc_blame_sound.specs.JudgedTexts.{IsJudged}
use Rattle.ckc_blame_steps.specs.ckc_blame_sound.proofs.Bounded.{is_bounded, anything}
use Rattle.ckc_build_forms.proofs.SmallBounds.{IsClose, within_close, quotient_close}

-- ---- amounts

abbrev pub HasClose : Amount → Type 0
HasClose a = IsClose a.number

-- what is close is so as elements of a size, if it counts bytes
pub bytes_close : {A : Type 0} (structs : Structs) (size : ℕ) (e : Expr Name A) → IfSome (amount structs e) HasClose → IfSome (amount_of_bytes structs size e) HasClose
bytes_close structs size e h = by (size == 1) (number_in structs e) h
  where
    one : (c : ℤ) → IsClose c → (b : Bool) → IfSome (if b then Some (fixed (int_div c (pos size))) else None) HasClose
    one c h true = quotient_close c size h
    one c h false = tt

    by : (b : Bool) (o : Option ℤ) → IfSome (amount_by structs e o) HasClose → IfSome (if b then amount_by structs e o else scaled size o) HasClose
    by true o h = h
    by false None h = tt
    by false (Some c) h = one c h (is_multiple c size)

-- so are the amounts in bounds
abbrev pub AmountsClose : Structs → Limits-F Name Note NotedLimits NotedNode NotedExpr → Type 0
AmountsClose structs (Limits-F.Count e at) = IfSome (amount structs e) HasClose
AmountsClose structs (Limits-F.ByteCount e at) = IfSome (amount structs e) HasClose
AmountsClose structs (Limits-F.Between e f at) = Unit {0}
AmountsClose structs (Limits-F.Unknown at) = Unit {0}

abbrev pub LimitsClose : Structs → Option NotedLimits → Type 0
LimitsClose structs o = IfSome o (λ (l : NotedLimits). AmountsClose structs (out-Limits Name Note l))

abbrev pub DeclClose : Structs → NotedDecl → Type 0
DeclClose structs d = LimitsClose structs d.bounds

-- a pointer without bounds has a small count, if it has one
pub kind_count : (k : Option Kind) → IfSome (count_of_kind k) IsCount
kind_count (Some kind.Raw) = tt
kind_count (Some kind.One) = (omega (arith, ints), omega (arith, ints))
kind_count (Some kind.Arr) = tt
kind_count (Some kind.Nt) = (omega (arith, ints), omega (arith, ints))
kind_count None = tt

-- ---- bounds that are judged

module _ (frame : Frame) (h : Holder) where
  -- what has a form is close
  amount_close : (o : Option Amount) (f : Form) → amount_form frame h o ≡ Some f → IfSome o HasClose
  amount_close None f e = tt
  amount_close (Some a) f e = by (is_within (2 ^ 24) a.number) refl e
    where
      by : (b : Bool) → is_within (2 ^ 24) a.number ≡ b → (if b then amount_with frame h a.variable a.number else None) ≡ Some f → IsClose a.number
      by true w g = within_close a.number w
      by false w g = absurd cc

  counted_close : (a : Option Amount) (b : Bounds) → counted (own h) (amount_form frame h a) ≡ Some b → IfSome a HasClose
  counted_close a b e = by (amount_form frame h a) refl e
    where
      by : (o : Option Form) → amount_form frame h a ≡ o → counted (own h) o ≡ Some b → IfSome a HasClose
      by None is g = absurd cc
      by (Some f) is g = amount_close a f is

  elements_close : (size : ℕ) (a : Option Amount) (b : Bounds) → counted (own h) (elements size (amount_form frame h a)) ≡ Some b → IfSome a HasClose
  elements_close size a b e = by (amount_form frame h a) refl e
    where
      by : (o : Option Form) → amount_form frame h a ≡ o → counted (own h) (elements size o) ≡ Some b → IfSome a HasClose
      by None is g = absurd cc
      by (Some f) is g = amount_close a f is

  written_close : (t : CType) (x : Limits-F Name Note NotedLimits NotedNode NotedExpr) (b : Bounds) → bounds_written frame h t x ≡ Some b → AmountsClose frame.structs x
  written_close t (Limits-F.Count e at) b is = counted_close (amount frame.structs e) b is
  written_close t (Limits-F.ByteCount e at) b is = elements_close (size_of frame.structs (element_of t)) (amount frame.structs e) b is
  written_close t (Limits-F.Between e f at) b is = tt
  written_close t (Limits-F.Unknown at) b is = tt

  decl_close : (d : NotedDecl) → Gives (λ (x : Bounds). DeclClose frame.structs d) (decl_bounds frame h d)
  decl_close d = by d.bounds
    where
      at : (l : NotedLimits) (takes : Bool) (o : Option Bounds) → bounds_written frame h (type_written d.ctype) (out-Limits Name Note l) ≡ o
          → Gives (λ (x : Bounds). LimitsClose frame.structs (Some l)) (there_or bad_limits (place_of_limits l) (if takes then o else None))
      at l false o e = tt
      at l true None e = tt
      at l true (Some b) e = written_close (type_written d.ctype) (out-Limits Name Note l) b e

      by : (o : Option NotedLimits) → Gives (λ (x : Bounds). LimitsClose frame.structs o) (bounds_declared frame h (type_written d.ctype) d.length o)
      by None = tt
      by (Some l) = at l (takes_bounds (type_written d.ctype) d.length) (bounds_written frame h (type_written d.ctype) (out-Limits Name Note l)) refl

  each_close : (ds : List NotedDecl) → Gives (λ (u : Unit {0}). All (DeclClose frame.structs) ds) (members_judged frame h ds)
  each_close [] = All-nil (DeclClose frame.structs)
  each_close (d ∷ ds) =
      bound (λ (x : Bounds). DeclClose frame.structs d) (λ (u : Unit {0}). All (DeclClose frame.structs) (d ∷ ds)) _ _ (decl_close d) (λ b f.
      by (members_judged frame h ds) (each_close ds) f)
    where
      by : (o : Outcome (Unit {0})) → Gives (λ (u : Unit {0}). All (DeclClose frame.structs) ds) o → DeclClose frame.structs d
          → Gives (λ (u : Unit {0}). All (DeclClose frame.structs) (d ∷ ds)) o
      by (Ok u) g f = All-cons (DeclClose frame.structs) d ds f g
      by (Err r) g f = tt

-- ---- texts

-- this of the members and the objects that an item declares
abbrev pub AreClose : Structs → NotedItem → Type 0
AreClose structs (item.Struct n members at) = All (DeclClose structs) members
AreClose structs (item.Static d) = DeclClose structs d
AreClose structs i = Unit {0}

item_close : (frame : Frame) (i : NotedItem) → Gives (AreClose frame.structs) (item_judged frame i)
item_close frame (item.Directive d) = tt
item_close frame (item.Tag n at) = tt
item_close frame (item.Struct n ms at) = bound (λ (u : Unit {0}). All (DeclClose frame.structs) ms) (AreClose frame.structs) _ _ (each_close frame (member_holder n) ms) (λ u f. f)
item_close frame (item.Static d) =
    bound {A = NotedDecl} (DeclClose frame.structs) (AreClose frame.structs) (object_judged frame d) _
    (bound (λ (x : Bounds). DeclClose frame.structs d) (DeclClose frame.structs) (bounds_there frame d) _ (decl_close frame (holder_of d.name) d) (λ b f.
    bound (λ p. Unit {0}) (DeclClose frame.structs) _ _ (anything (init_judged frame d.init (outside frame))) (λ p z. f))) (λ e f. f)
item_close frame (item.Proto h) = bound (λ g. Unit {0}) (AreClose frame.structs) _ _ (anything (head_kept frame h)) (λ g z. tt)
item_close frame (item.Function h body) =
    bound (λ g. Unit {0}) (AreClose frame.structs) _ _ (anything (head_kept frame h)) (λ g z. bound (λ s. Unit {0}) (AreClose frame.structs) _ _ (anything (body_judged frame h body)) (λ s y. tt))

items_close : (frame : Frame) (is : List NotedItem) → Gives (All (AreClose frame.structs)) (items_judged frame is)
items_close frame [] = All-nil (AreClose frame.structs)
items_close frame (i ∷ is) =
    bound {A = NotedItem} (AreClose frame.structs) (All (AreClose frame.structs)) _ _ (item_close frame i) (λ j f.
    bound {A = List NotedItem} (All (AreClose frame.structs)) (All (AreClose frame.structs)) _ _ (items_close frame is) (λ js g. All-cons (AreClose frame.structs) j js f g))

-- this of a judged text
pub text_close : (p : Typed) → IsJudged p → All (AreClose p.layout) p.tree.items
text_close p j =
    let q = j.typed in
    let b = is_bounded q p j.has_bounds in
    let frame = text_frame q.layout q.statics q.tree.items in
    subst (λ (structs : Structs). All (AreClose structs) p.tree.items) (sym b.layout)
    (given_from (All (AreClose frame.structs)) (items_judged frame q.tree.items) p.tree.items (items_close frame q.tree.items) b.items)
