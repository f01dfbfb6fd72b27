-- Bounds stand on pointers alone.
use Rattle.std.proofs.Common.{◌≡◌, ◌∙◌, sym, subst, refl, List, [], ◌∷◌, map}
use Rattle.std.specs.Prelude.{All, Bool, true, false, ◌&&◌, if◌then◌else◌, Option, Some, None, is_some, is_none, Ok, Err, unwrap_or}
use Rattle.std.specs.Option.{option_map}
use Rattle.std.proofs.lemmas.List.Elements.{All-nil, All-cons, All-head, All-tail}
use Rattle.ckc_base.specs.Outcomes.{Outcome, there_or}
use Rattle.ckc_base.proofs.Gives.{Gives, given_from, bound}
use Rattle.ckc_types.specs.declared.types.CType.{CType, CType-F, out-CType}
use Rattle.ckc_types.specs.declared.types.Kind.{Kind}
use Rattle.ckc_syntax.specs.declared.tree.Name.{Name}
use Rattle.ckc_syntax.specs.declared.tree.Item.{Item}
use Rattle.ckc_syntax.specs.declared.tree.Item.TheVariants as item
use Rattle.ckc_syntax.specs.declared.tree.Limits.{out-Limits}
use Rattle.ckc_syntax.specs.declared.tree.Decl.{Decl}
use Rattle.ckc_syntax.specs.declared.tree.Length.{Length}
use Rattle.ckc_typed.specs.declared.typed.Note.{Note}
use Rattle.ckc_typed.specs.declared.typed.Typed.{Typed}
use Rattle.ckc_typed.specs.Environment.{same_name, kind_of_array}
use Rattle.ckc_typed.specs.Layouts.{members_in_item, members_declared}
use Rattle.ckc_typed.specs.Trees.{NotedDecl, NotedItem, NotedLimits}
use Rattle.ckc_typed.specs.Types.{type_written, kind_in, kind_of, is_char_form, is_char}
use Rattle.ckc_typed_welltyped.specs.Noteless.{bare_limits, bare_decl, bare_item}
use Rattle.ckc_bounds.specs.ckc_bounds_points.specs.declared.frame.Bounds.{Bounds}
use Rattle.ckc_bounds.specs.ckc_bounds_points.specs.declared.frame.Frame.{Frame}
use Rattle.ckc_bounds.specs.ckc_bounds_points.specs.Codes.{bad_limits}
use Rattle.ckc_bounds.specs.ckc_bounds_declared.specs.declared.limits.Holder.{Holder}
use Rattle.ckc_bounds.specs.ckc_bounds_declared.specs.Written.{takes_bounds_kind, takes_bounds, bounds_written, bounds_declared, place_of_limits}
use Rattle.ckc_bounds.specs.ckc_bounds_statements.specs.DeclBounds.{holder_of, decl_bounds, bounds_there}
use Rattle.ckc_bounds.specs.ckc_bounds_statements.specs.Paths.{init_judged}
use Rattle.ckc_bounds.specs.Declarations.{member_holder}
use Rattle.ckc_bounds.specs.Frames.{text_frame}
use Rattle.ckc_bounds.specs.Texts.{outside, members_judged, object_judged, body_judged, head_kept, item_judged, items_judged}
use Rattle.ckc_blame_sound.specs.JudgedTexts.{IsJudged}
use Rattle.ckc_blame_sound.proofs.Bounded.{is_bounded, anything}

-- What is declared with bounds is a pointer that may have some.
abbrev pub IsBoundable : {A : Type 0} → Decl Name A → Type 0
IsBoundable d = is_some d.bounds ≡ true → takes_bounds (type_written d.ctype) d.length ≡ true

-- this of the members and the objects that an item declares
abbrev pub AreBoundable : {A : Type 0} → Item Name A → Type 0
AreBoundable (item.Struct n members at) = All IsBoundable members
AreBoundable (item.Static d) = IsBoundable d
AreBoundable i = Unit {0}

taken : (takes b : Bool) (l : NotedLimits) → takes ≡ b → (o : Option Bounds) → Gives (λ (x : Bounds). true ≡ true → takes ≡ true) (there_or bad_limits (place_of_limits l) (if b then o else None))
taken takes false l e o = tt
taken takes true l e None = tt
taken takes true l e (Some b) = λ i. e

pub decl_fits : (frame : Frame) (h : Holder) (d : NotedDecl) → Gives (λ (x : Bounds). IsBoundable d) (decl_bounds frame h d)
decl_fits frame h d = by d.bounds
  where
    by : (o : Option NotedLimits) → Gives (λ (x : Bounds). is_some o ≡ true → takes_bounds (type_written d.ctype) d.length ≡ true) (bounds_declared frame h (type_written d.ctype) d.length o)
    by None = λ e. absurd cc
    by (Some l) =
        taken (takes_bounds (type_written d.ctype) d.length) (takes_bounds (type_written d.ctype) d.length) l refl (bounds_written frame h (type_written d.ctype) (out-Limits Name Note l))

each_fits : (frame : Frame) (h : Holder) (ds : List NotedDecl) → Gives (λ (u : Unit {0}). All IsBoundable ds) (members_judged frame h ds)
each_fits frame h [] = All-nil IsBoundable
each_fits frame h (d ∷ ds) =
    bound (λ (x : Bounds). IsBoundable d) (λ (u : Unit {0}). All IsBoundable (d ∷ ds)) _ _ (decl_fits frame h d) (λ b f.
    by (members_judged frame h ds) (each_fits frame h ds) f)
  where
    by : (o : Outcome (Unit {0})) → Gives (λ (u : Unit {0}). All IsBoundable ds) o → IsBoundable d → Gives (λ (u : Unit {0}). All IsBoundable (d ∷ ds)) o
    by (Ok u) g f = All-cons IsBoundable d ds f g
    by (Err r) g f = tt

item_fits : (frame : Frame) (i : NotedItem) → Gives AreBoundable (item_judged frame i)
item_fits frame (item.Directive d) = tt
item_fits frame (item.Tag n at) = tt
item_fits frame (item.Struct n ms at) = bound (λ (u : Unit {0}). All IsBoundable ms) AreBoundable _ _ (each_fits frame (member_holder n) ms) (λ u f. f)
item_fits frame (item.Static d) =
    bound {A = NotedDecl} IsBoundable AreBoundable (object_judged frame d) _
    (bound (λ (x : Bounds). IsBoundable d) IsBoundable (bounds_there frame d) _ (decl_fits frame (holder_of d.name) d) (λ b f.
    bound (λ p. Unit {0}) IsBoundable _ _ (anything (init_judged frame d.init (outside frame))) (λ p z. f))) (λ e f. f)
item_fits frame (item.Proto h) = bound (λ g. Unit {0}) AreBoundable _ _ (anything (head_kept frame h)) (λ g z. tt)
item_fits frame (item.Function h body) =
    bound (λ g. Unit {0}) AreBoundable _ _ (anything (head_kept frame h)) (λ g z. bound (λ s. Unit {0}) AreBoundable _ _ (anything (body_judged frame h body)) (λ s y. tt))

items_fit : (frame : Frame) (is : List NotedItem) → Gives (All AreBoundable) (items_judged frame is)
items_fit frame [] = All-nil AreBoundable
items_fit frame (i ∷ is) =
    bound {A = NotedItem} AreBoundable (All AreBoundable) _ _ (item_fits frame i) (λ j f.
    bound {A = List NotedItem} (All AreBoundable) (All AreBoundable) _ _ (items_fit frame is) (λ js g. All-cons AreBoundable j js f g))

-- this of a judged text
pub text_boundable : (p : Typed) → IsJudged p → All AreBoundable p.tree.items
text_boundable p j =
    let q = j.typed in
    given_from (All AreBoundable) (items_judged (text_frame q.layout q.statics q.tree.items) q.tree.items) p.tree.items
    (items_fit (text_frame q.layout q.statics q.tree.items) q.tree.items) (is_bounded q p j.has_bounds).items

-- ---- without notes

some_kept : {A B : Type 0} (f : A → B) (o : Option A) → is_some (option_map f o) ≡ is_some o
some_kept f None = refl
some_kept f (Some a) = refl

decl_bare : (d : NotedDecl) → IsBoundable d → IsBoundable (bare_decl d)
decl_bare d h e = h (sym (some_kept bare_limits d.bounds) ∙ e)

decls_bare : (ds : List NotedDecl) → All IsBoundable ds → All IsBoundable (map bare_decl ds)
decls_bare [] h = All-nil IsBoundable
decls_bare (d ∷ ds) h = All-cons IsBoundable (bare_decl d) (map bare_decl ds) (decl_bare d (All-head IsBoundable d ds h)) (decls_bare ds (All-tail IsBoundable d ds h))

item_bare : (i : NotedItem) → AreBoundable i → AreBoundable (bare_item i)
item_bare (item.Struct n ms at) h = decls_bare ms h
item_bare (item.Static d) h = decl_bare d h
item_bare (item.Directive d) h = tt
item_bare (item.Tag n at) h = tt
item_bare (item.Proto g) h = tt
item_bare (item.Function g body) h = tt

pub items_bare : (is : List NotedItem) → All AreBoundable is → All AreBoundable (map bare_item is)
items_bare [] h = All-nil AreBoundable
items_bare (i ∷ is) h = All-cons AreBoundable (bare_item i) (map bare_item is) (item_bare i (All-head AreBoundable i is h)) (items_bare is (All-tail AreBoundable i is h))

-- the members that are declared for a tag
pub members_boundable : {A : Type 0} (js : List (Item Name A)) (tag : Name) → All AreBoundable js → All IsBoundable (members_declared js tag)
members_boundable [] tag h = All-nil IsBoundable
members_boundable {A} (j ∷ js) tag h = by (members_in_item tag j) refl (members_boundable js tag (All-tail AreBoundable j js h))
  where
    first : (i : Item Name A) (ds : List (Decl Name A)) → AreBoundable i → members_in_item tag i ≡ Some ds → All IsBoundable ds
    first (item.Struct n members at) ds own e = one (same_name n tag) e
      where
        one : (b : Bool) → (if b then Some members else None) ≡ Some ds → All IsBoundable ds
        one true f = let same : members ≡ ds = cc in subst (λ (es : List (Decl Name A)). All IsBoundable es) same own
        one false f = absurd cc
    first (item.Directive d) ds own e = absurd cc
    first (item.Tag n at) ds own e = absurd cc
    first (item.Static d) ds own e = absurd cc
    first (item.Proto g) ds own e = absurd cc
    first (item.Function g body) ds own e = absurd cc

    by : (o : Option (List (Decl Name A))) → members_in_item tag j ≡ o → All IsBoundable (members_declared js tag) → All IsBoundable (unwrap_or o (members_declared js tag))
    by None e rest = rest
    by (Some ds) e rest = first j ds (All-head AreBoundable j js h) e

-- ---- pointers

char_kind : (f : CType-F CType) (k : Kind) → kind_in f ≡ Some k → is_char_form f ≡ false
char_kind (CType-F.Pointer k t) j e = refl
char_kind CType-F.Int j e = absurd cc
char_kind CType-F.Unsigned j e = absurd cc
char_kind CType-F.Char j e = absurd cc
char_kind CType-F.Void j e = absurd cc
char_kind (CType-F.Struct tag) j e = absurd cc

-- what has a kind is no `char`
pub pointer_no_char : (t : CType) (k : Kind) → kind_of t ≡ Some k → is_char t ≡ false
pointer_no_char t k e = char_kind (out-CType t) k e

pub boundable_no_char : (t : CType) (length : Length) → takes_bounds t length ≡ true → is_char t ≡ false
boundable_no_char t length e = by (kind_of t) refl (is_none (kind_of_array length)) e
  where
    by : (o : Option Kind) → kind_of t ≡ o → (b : Bool) → (takes_bounds_kind o && b) ≡ true → is_char t ≡ false
    by (Some k) is b f = pointer_no_char t k is
    by None is b f = absurd cc
