-- What the judgement and the program tell alike of the members of a judged text.
use Rattle.std.proofs.Common.{◌≡◌, ◌∙◌, sym, ap, subst, refl, inl, inr, ℕ, ◌==◌, List, [], ◌∷◌, map}
use Rattle.std.specs.Prelude.{All, ◌⊎◌, Bool, true, false, ◌&&◌, ◌||◌, Option, Some, None, is_some, unwrap_or, if◌then◌else◌}
use Rattle.std.specs.List.{Contains, AllByRecursion, list_all, list_any}
use Rattle.std.specs.Option.{option_map}
use Rattle.std.proofs.lemmas.Bool.{and_parts, eqb-true}
use Rattle.std.proofs.lemmas.List.Elements.{All-nil, All-cons, All-head, All-tail, All-contains_itself}
use Rattle.ckc_base.specs.declared.arithmetic.Mode.{Mode}
use Rattle.ckc_base.specs.declared.arithmetic.Mode.TheVariants.{Unchecked}
use Rattle.ckc_types.specs.declared.types.CType.{CType, CType-F, out-CType}
use Rattle.ckc_types.specs.declared.types.MemberBounds.{MemberBounds}
use Rattle.ckc_types.specs.declared.types.MemberBounds.TheVariants as mbounds
use Rattle.ckc_types.specs.declared.types.MemberShape.{MemberShape}
use Rattle.ckc_types.specs.declared.types.Structs.{Structs}
use Rattle.ckc_types.specs.Layout.{members_of}
use Rattle.ckc_syntax.specs.declared.tree.Name.{Name}
use Rattle.ckc_syntax.specs.declared.tree.Name.TheVariants as name
use Rattle.ckc_syntax.specs.declared.tree.Item.TheVariants as item
use Rattle.ckc_syntax.specs.declared.tree.Limits.{Limits}
use Rattle.ckc_typed.specs.declared.environment.Globals.{Globals}
use Rattle.ckc_typed.specs.declared.typed.Typed.{Typed}
use Rattle.ckc_typed.specs.Environment.{same_name, is_member_named, member_type}
use Rattle.ckc_typed.specs.Layouts.{bare_structs, bounds_of, bounded_member, members_in_item, members_declared}
use Rattle.ckc_typed.specs.Operands.{dot_type, member_in}
use Rattle.ckc_typed.specs.Texts.{globals_of}
use Rattle.ckc_typed.specs.Trees.{Decl, Item, Tree, NotedDecl, NotedItem}
use Rattle.ckc_typed.specs.Types.{type_written, is_integer, is_integer_form, is_pointer, is_scalar, is_object_type, kind_of, kind_in}
use Rattle.ckc_typed.specs.Walk.{pragma_after}
use Rattle.ckc_typed_welltyped.specs.Declarations.{WellTypedBare}
use Rattle.ckc_typed_welltyped.specs.Noteless.{bare_decl, bare_item, without_notes}
use Rattle.ckc_typed_welltyped.specs.Texts.{WellTypedItem, WellTypedItems, members_seen}
use Rattle.ckc_blame_sound.specs.ckc_bounds_declared.specs.Written.{takes_bounds_kind, takes_bounds}
use Rattle.ckc_blame_sound.specs.ckc_bounds_views.specs.Fresh.{bounds_of_shape, type_of_shape, member_bounds, named_type}
use Rattle.ckc_source.specs.Code.{Function}
use Rattle.ckc_source.specs.Eval.{Store}
use Rattle.ckc_build_values.specs.Kinds.{count_of_kind, tag_in}
use Rattle.ckc_build_values.specs.Members.{member_named, count_by, count_in, count_of_member}
use Rattle.ckc_blame_sound.specs.Settings.{Setting, IsFunction, setting_of}
use Rattle.ckc_blame_sound.specs.Slots.{AreFilled}
use Rattle.ckc_blame_sound.specs.Cells.{HaveOwnNames}
use Rattle.ckc_blame_sound.specs.Elements.{NameIntegerMembers}
use Rattle.ckc_blame_sound.proofs.Shapes.{member_there, found_shape, found_member}
use Rattle.ckc_blame_given.specs.ckc_blame_pointers.specs.Covered.{NamesInteger, IsIntegerMember, IsPointerMember}
use Rattle.ckc_blame_sound.specs.JudgedTexts.{IsJudged}
use Rattle.ckc_blame_sound.proofs.Bares.{same_tree}
use Rattle.ckc_blame_sound.proofs.Bounds.{text_boundable, items_bare, members_boundable}
use Rattle.ckc_blame_sound.proofs.Frames.{frames_agree}
use Rattle.ckc_blame_sound.proofs.Lists.{found}
use Rattle.ckc_blame_sound.proofs.Members.{members_are, have_own_names}
use Rattle.ckc_blame_walk.proofs.Flow.{first_in, later_in}
use Rattle.ckc_blame_steps.proofs.Layouts.{structs_told}

-- ---- a member fits its declaration

-- A member is a scalar, and has no written bounds if it may not have some.
record IsFitMember (m : MemberShape) : Type 0 where
  pub scalar : is_scalar m.ctype ≡ true
  pub plain : takes_bounds_kind (kind_of m.ctype) ≡ false → m.bounds ≡ mbounds.Nothing

abbrev IsScalarDecl : Decl → Bool
IsScalarDecl d = is_scalar (type_written d.ctype)

abbrev MayHave : Decl → Type 0
MayHave d = is_some d.bounds ≡ true → takes_bounds (type_written d.ctype) d.length ≡ true

true_false : (b : Bool) → b ≡ true → b ≡ false → ⊥
true_false b t f = absurd cc

member_fit : (bare : Structs) (d : Decl) → MayHave d → is_scalar (type_written d.ctype) ≡ true → IsFitMember (bounded_member bare d)
member_fit bare d may scalar = record { scalar = scalar; plain = λ none. by none d.bounds may }
  where
    by : takes_bounds_kind (kind_of (type_written d.ctype)) ≡ false → (l : Option (Limits Name (Unit {0})))
        → (is_some l ≡ true → takes_bounds (type_written d.ctype) d.length ≡ true) → bounds_of bare (type_written d.ctype) l ≡ mbounds.Nothing
    by none None h = refl
    by none (Some l) h = absurd (true_false _ (and_parts (takes_bounds_kind (kind_of (type_written d.ctype))) _ (h refl)).0 none)

members_fit : (bare : Structs) (ds : List Decl) → All MayHave ds → list_all IsScalarDecl ds ≡ true → All IsFitMember (map (bounded_member bare) ds)
members_fit bare [] h s = All-nil IsFitMember
members_fit bare (d ∷ ds) h s =
    let both = and_parts (is_scalar (type_written d.ctype)) (list_all IsScalarDecl ds) s in
    All-cons IsFitMember (bounded_member bare d) (map (bounded_member bare) ds) (member_fit bare d (All-head MayHave d ds h) both.0) (members_fit bare ds (All-tail MayHave d ds h) both.1)

-- ---- the members that are declared

abbrev AreScalars : Item → Type 0
AreScalars (item.Struct n members at) = list_all IsScalarDecl members ≡ true
AreScalars i = Unit {0}

bare_scalars : (globals : Globals) (pragma : Mode) (seen : List NotedDecl) (ds : List NotedDecl) → AllByRecursion (WellTypedBare globals (members_seen seen) pragma) ds
    → list_all IsScalarDecl (map bare_decl ds) ≡ true
bare_scalars globals pragma seen [] w = refl
bare_scalars globals pragma seen (d ∷ ds) w =
    ap (λ b. b && list_all IsScalarDecl (map bare_decl ds)) (and_parts (is_scalar (type_written d.ctype)) (is_object_type (type_written d.ctype)) w.0.scalar).0
    ∙ bare_scalars globals pragma seen ds w.1

item_scalars : (globals : Globals) (pragma : Mode) (i : NotedItem) → WellTypedItem globals pragma i → AreScalars (bare_item i)
item_scalars globals pragma (item.Struct n ms at) w = bare_scalars globals pragma ms ms w
item_scalars globals pragma (item.Directive d) w = tt
item_scalars globals pragma (item.Tag n at) w = tt
item_scalars globals pragma (item.Static d) w = tt
item_scalars globals pragma (item.Proto h) w = tt
item_scalars globals pragma (item.Function h body) w = tt

items_scalars : (globals : Globals) (pragma : Mode) (items : List NotedItem) → WellTypedItems globals pragma items → All AreScalars (map bare_item items)
items_scalars globals pragma [] w = All-nil AreScalars
items_scalars globals pragma (i ∷ items) w =
    All-cons AreScalars (bare_item i) (map bare_item items) (item_scalars globals pragma i w.0) (items_scalars globals (pragma_after pragma (bare_item i)) items w.1)

declared_scalars : (js : List Item) (tag : Name) → All AreScalars js → list_all IsScalarDecl (members_declared js tag) ≡ true
declared_scalars [] tag h = refl
declared_scalars (j ∷ js) tag h = by (members_in_item tag j) refl (declared_scalars js tag (All-tail AreScalars j js h))
  where
    first : (i : Item) (ds : List Decl) → AreScalars i → members_in_item tag i ≡ Some ds → list_all IsScalarDecl ds ≡ true
    first (item.Struct n members at) ds own e = one (same_name n tag) e
      where
        one : (b : Bool) → (if b then Some members else None) ≡ Some ds → list_all IsScalarDecl ds ≡ true
        one true f = let same : members ≡ ds = cc in subst (λ (es : List Decl). list_all IsScalarDecl es ≡ true) same own
        one false f = absurd cc
    first (item.Directive d) ds own e = absurd cc
    first (item.Tag n at) ds own e = absurd cc
    first (item.Static d) ds own e = absurd cc
    first (item.Proto g) ds own e = absurd cc
    first (item.Function g body) ds own e = absurd cc

    by : (o : Option (List Decl)) → members_in_item tag j ≡ o → list_all IsScalarDecl (members_declared js tag) ≡ true → list_all IsScalarDecl (unwrap_or o (members_declared js tag)) ≡ true
    by None e rest = rest
    by (Some ds) e rest = first j ds (All-head AreScalars j js h) e

all_fit : (p : Typed) → IsJudged p → (tag : ℕ) → All IsFitMember (members_of p.layout tag)
all_fit p j tag =
    let js = (without_notes p.tree).items in
    let scalars : All AreScalars js =
    subst (λ (t : Tree). All AreScalars t.items) (sym (same_tree j.typed p j.has_bounds))
    (items_scalars (globals_of (without_notes j.typed.tree).items) Unchecked j.typed.tree.items j.has_types.typed.items) in
    subst (λ (structs : Structs). All IsFitMember (members_of structs tag)) (structs_told p j)
    (members_are js tag (λ ms. All IsFitMember ms) (All-nil IsFitMember)
    (members_fit (bare_structs js) (members_declared js (name.Tag tag)) (members_boundable js (name.Tag tag) (items_bare p.tree.items (text_boundable p j)))
    (declared_scalars js (name.Tag tag) scalars)))

-- ---- what has the type of a member

pub struct_form : (structs : Structs) (n : Name) (t : CType) (f : CType-F CType) → member_in structs n f ≡ Some t → (tag : ℕ) × (f ≡ CType-F.Struct tag) × (member_type structs tag n ≡ Some t)
struct_form structs n t (CType-F.Struct tag) h = (tag, refl, h)
struct_form structs n t CType-F.Int h = absurd (cc)
struct_form structs n t CType-F.Unsigned h = absurd (cc)
struct_form structs n t CType-F.Char h = absurd (cc)
struct_form structs n t CType-F.Void h = absurd (cc)
struct_form structs n t (CType-F.Pointer k u) h = absurd (cc)

name_is : (n : Name) (k : ℕ) → is_member_named n k ≡ true → n ≡ name.Member k
name_is (name.Member j) k e = ap name.Member (eqb-true j k e)
name_is (name.Local j) k e = absurd (cc)
name_is (name.Static j) k e = absurd (cc)
name_is (name.Function j) k e = absurd (cc)
name_is (name.Tag j) k e = absurd (cc)
name_is name.Getchar k e = absurd (cc)
name_is name.Putchar k e = absurd (cc)

integer_kind : (x : CType-F CType) → is_integer_form x ≡ true → kind_in x ≡ None
integer_kind CType-F.Int e = refl
integer_kind CType-F.Unsigned e = refl
integer_kind CType-F.Char e = refl
integer_kind CType-F.Void e = absurd cc
integer_kind (CType-F.Struct tag) e = absurd cc
integer_kind (CType-F.Pointer k t) e = absurd cc

-- what passes a test that one passes
any_there : {X : Type 0} (p : X → Bool) (xs : List X) → list_any p xs ≡ true → (x : X) × Contains xs x × (p x ≡ true)
any_there p [] e = absurd (cc)
any_there {X} p (x ∷ xs) e = by (p x) refl e (λ f. any_there p xs f)
  where
    by : (b : Bool) → p x ≡ b → (b || list_any p xs) ≡ true → (list_any p xs ≡ true → (y : X) × Contains xs y × (p y ≡ true)) → (y : X) × Contains (x ∷ xs) y × (p y ≡ true)
    by true is f rest = (x, first_in x xs, is)
    by false is f rest = let r = rest f in (r.0, later_in x xs r.0 r.1, r.2)

-- a member that is found
pub record IsFound (structs : Structs) (tag : ℕ) (n : Name) (t : CType) : Type 0 where
  pub member : MemberShape
  pub found : member_named structs tag n ≡ Some member
  pub type : member.ctype ≡ t
  pub there : Contains (members_of structs tag) member
  pub named : n ≡ name.Member member.name

pub member_found : (structs : Structs) (tag : ℕ) (n : Name) (t : CType) → member_type structs tag n ≡ Some t → IsFound structs tag n t
member_found structs tag n t h = by (member_named structs tag n) refl h
  where
    by : (o : Option MemberShape) → member_named structs tag n ≡ o → option_map (λ (m : MemberShape). m.ctype) o ≡ Some t → IsFound structs tag n t
    by None is e = absurd (cc)
    by (Some m) is e =
        let f = found (Contains (members_of structs tag)) (λ (m : MemberShape). is_member_named n m.name) (members_of structs tag) m (All-contains_itself (members_of structs tag)) is in
        record { member = m; found = is; type = cc; there = f.0; named = name_is n m.name f.1 }

module _ (s : Setting) (store : Store) (same : s.frame.structs ≡ s.text.layout) (own : HaveOwnNames s.text.layout) (integers : NameIntegerMembers s.text.layout)
    (fit : (tag : ℕ) → All IsFitMember (members_of s.text.layout tag)) (filled : AreFilled s.text store) where
  names_integer : (tag : ℕ) (m : MemberShape) → Contains (members_of s.text.layout tag) m → NamesInteger s tag m.bounds
  names_integer tag m there = by m.bounds refl
    where
      by : (b : MemberBounds) → m.bounds ≡ b → NamesInteger s tag b
      by (mbounds.Named k c) is =
          let h = any_there (λ (x : MemberShape). (x.name == k) && is_integer x.ctype) (members_of s.text.layout tag) (integers tag k c m there is) in
          let both = and_parts (h.0.name == k) (is_integer h.0.ctype) h.2 in
          let named = eqb-true h.0.name k both.0 in
          let w = member_there s.text.layout own tag h.0 h.1 in (
            h.0,
            found_member s.text.layout tag w.front h.0 w.stands k named,
            both.1,
            ap (λ x. named_type x tag (mbounds.Named k c)) same ∙ ap (λ (o : Option MemberShape). Some (type_of_shape o)) (found_shape s.text.layout tag w.front h.0 w.stands k named),
          )
      by mbounds.Nothing is = tt
      by mbounds.Unknown is = tt
      by (mbounds.Fixed c) is = tt
      by mbounds.NoForm is = tt

  member_told : (u t : CType) (n : Name) → dot_type s.text.layout u n ≡ Some t → IsIntegerMember s u t n ⊎ IsPointerMember s store u t n
  member_told u t n h = by (is_integer t) refl
    where
      form : (tag : ℕ) × (out-CType u ≡ CType-F.Struct tag) × (member_type s.text.layout tag n ≡ Some t)
      form = struct_form s.text.layout n t (out-CType u) h

      f : IsFound s.text.layout form.0 n t
      f = member_found s.text.layout form.0 n t form.2

      fits : IsFitMember f.member
      fits = (found IsFitMember (λ (m : MemberShape). is_member_named n m.name) (members_of s.text.layout form.0) f.member (fit form.0) f.found).0

      scalar : (a b : Bool) → (a || b) ≡ true → a ≡ false → b ≡ true
      scalar true b e z = absurd (cc)
      scalar false b e z = e

      by : (b : Bool) → is_integer t ≡ b → IsIntegerMember s u t n ⊎ IsPointerMember s store u t n
      by true i =
          let kinds : kind_of f.member.ctype ≡ None = integer_kind (out-CType f.member.ctype) (ap is_integer f.type ∙ i) in
          let none : f.member.bounds ≡ mbounds.Nothing = fits.plain (ap takes_bounds_kind kinds) in
          inl (record {
            number = f.member.name;
            named = f.named;
            there = h;
            integer = i;
            bare = ap (λ x. count_of_member s.text.layout (tag_in x) n) form.1 ∙ ap (count_in s.text.layout form.0) f.found
                ∙ ap (λ b. count_by s.text.layout form.0 f.member.ctype b) none ∙ ap count_of_kind kinds;
          })
      by false i =
          let m = member_there s.text.layout own form.0 f.member f.there in
          inr (record {
            tag = form.0;
            struct = form.1;
            number = f.member.name;
            named = f.named;
            member = f.member;
            found = f.found;
            type = f.type;
            pointer = scalar (is_integer t) (is_pointer t) (ap is_scalar (sym f.type) ∙ fits.scalar) i;
            judged = ap (λ x. member_bounds x (record { tag = form.0; number = f.member.name })) same
                ∙ ap bounds_of_shape (found_shape s.text.layout form.0 m.front f.member m.stands f.member.name refl);
            single = λ one. fits.plain (ap takes_bounds_kind (ap kind_of f.type ∙ one));
            counts = names_integer form.0 f.member f.there;
            filled = filled;
          })

pub members_told : (p : Typed) (s : Setting) (f : Function) (store : Store) → IsJudged p → IsFunction p s f → NameIntegerMembers p.layout → AreFilled s.text store
    → (u t : CType) (n : Name) → dot_type s.text.layout u n ≡ Some t → IsIntegerMember s u t n ⊎ IsPointerMember s store u t n
unfolding setting_of
members_told p s f store j is integers filled =
    let text : p ≡ s.text = sym (ap (λ (x : Setting). x.text) is.judged) in
    member_told s store (frames_agree p s f j is).structs (subst (λ (x : Typed). HaveOwnNames x.layout) text (have_own_names p j))
    (subst (λ (x : Typed). NameIntegerMembers x.layout) text integers) (subst (λ (x : Typed). (tag : ℕ) → All IsFitMember (members_of x.layout tag)) text (all_fit p j)) filled
