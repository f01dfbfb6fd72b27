-- How many elements a member of a judged text has is made of numbers of 32 bits.
use Rattle.std.proofs.Common.{◌≡◌, ◌∙◌, sym, ap, subst, refl, arith, ℕ, ◌<◌, ◌^◌, ◌==◌, Bool, true, false, List, [], ◌∷◌, map}
use Rattle.std.specs.Prelude.{All, ◌||◌, nat_lt, if◌then◌else◌, find, Option, Some, None, IfSome}
use Rattle.std.specs.List.{list_any}
use Rattle.std.specs.Option.{option_map}
use Rattle.std.proofs.lemmas.Bool.{and_parts, ltb-true, eqb-true, eq-eqb}
use Rattle.std.proofs.lemmas.List.Elements.{All-nil, All-cons, All-head, All-tail}
use Rattle.ckc_types.specs.declared.types.CType.{CType}
use Rattle.ckc_types.specs.declared.types.CType.TheVariants as ctype
use Rattle.ckc_types.specs.declared.types.MemberBounds.{MemberBounds}
use Rattle.ckc_types.specs.declared.types.MemberBounds.TheVariants as bounds
use Rattle.ckc_types.specs.declared.types.MemberShape.{MemberShape}
use Rattle.ckc_types.specs.declared.types.Structs.{Structs}
use Rattle.ckc_types.specs.Layout.{members_of, offset}
use Rattle.ckc_syntax.specs.declared.tree.Name.{Name}
use Rattle.ckc_syntax.specs.declared.tree.Name.TheVariants as name
use Rattle.ckc_syntax.specs.declared.tree.Item.TheVariants as item
use Rattle.ckc_syntax.specs.declared.tree.Limits.{Limits-F, out-Limits}
use Rattle.ckc_typed.specs.declared.environment.Amount.{Amount}
use Rattle.ckc_typed.specs.declared.typed.Note.{Note}
use Rattle.ckc_typed.specs.declared.typed.Typed.{Typed}
use Rattle.ckc_typed.specs.Amounts.{amount, amount_of_bytes}
use Rattle.ckc_typed.specs.Constants.{size_of}
use Rattle.ckc_typed.specs.Environment.{is_member_named, member_type}
use Rattle.ckc_typed.specs.Layouts.{bare_structs, bounds_by, bounds_of, counted, counted_by, members_declared, members_in_item, structs_of}
use Rattle.ckc_typed.specs.Trees.{Decl, Item, Tree, NotedDecl, NotedExpr, NotedItem, NotedLimits, NotedNode}
use Rattle.ckc_typed.specs.Types.{element_of, kind_of, type_written}
use Rattle.ckc_typed_welltyped.specs.Noteless.{bare_decl, bare_expr, bare_item, bare_limits, without_notes}
use Rattle.ckc_checks_operands.specs.Compilable.{IsCount}
use Rattle.ckc_build_values.specs.Kinds.{width_of}
use Rattle.ckc_build_values.specs.Members.{count_by, count_in, count_of_member, has_member, member_named, offset_of}
use Rattle.ckc_blame_steps.specs.ckc_blame_sound.specs.JudgedTexts.{IsJudged}
use Rattle.ckc_blame_steps.specs.ckc_blame_sound.proofs.Accesses.{member_part}
use Rattle.ckc_blame_steps.specs.ckc_blame_sound.proofs.Amounts.{limits_made, limits_out}
use Rattle.ckc_blame_steps.specs.ckc_blame_sound.proofs.Bounded.{layout_kept}
use Rattle.ckc_blame_steps.specs.ckc_blame_sound.proofs.Functions.{tree_named}
use Rattle.ckc_blame_steps.specs.ckc_blame_sound.proofs.Lists.{found}
use Rattle.ckc_blame_steps.specs.ckc_blame_sound.proofs.Members.{members_are}
use Rattle.ckc_blame_steps.specs.ckc_blame_sound.proofs.Parts.{part_lies}
use Rattle.ckc_blame_steps.specs.ckc_blame_sound.proofs.Sizes.{sizes_are_small}
use Rattle.ckc_blame_steps.proofs.SmallNames.{members_have, members_of_item, shapes_have}
use Rattle.ckc_build_forms.proofs.SameAmounts.{amount_same, sizes_same}
use Rattle.ckc_build_forms.proofs.SmallAmounts.{HasClose, AmountsClose, LimitsClose, DeclClose, AreClose, bytes_close, kind_count, text_close}
use Rattle.ckc_build_forms.proofs.SmallBounds.{IsClose, small_of_close}

-- ---- offsets

first_named : (k : ℕ) (ms : List MemberShape) → list_any (λ (m : MemberShape). m.name == k) ms ≡ true → (m : MemberShape) × (find (λ (m : MemberShape). is_member_named (name.Member k) m.name) ms ≡ Some m)
first_named k [] e = absurd cc
first_named k (m ∷ ms) e = by (k == m.name) refl (m.name == k) refl e (λ f. first_named k ms f)
  where
    different : true ≡ false → ⊥
    different f = cc

    by : (b : Bool) → (k == m.name) ≡ b → (c : Bool) → (m.name == k) ≡ c → (c || list_any (λ (x : MemberShape). x.name == k) ms) ≡ true
        → (list_any (λ (x : MemberShape). x.name == k) ms ≡ true → (x : MemberShape) × (find (λ (x : MemberShape). is_member_named (name.Member k) x.name) ms ≡ Some x))
        → (x : MemberShape) × ((if b then Some m else find (λ (x : MemberShape). is_member_named (name.Member k) x.name) ms) ≡ Some x)
    by true is c other f rest = (m, refl)
    by false is true other f rest = absurd (different (sym (eq-eqb k m.name (sym (eqb-true m.name k other))) ∙ is))
    by false is false other f rest = rest f

-- where a member lies in its structure
pub offset_small : (structs : Structs) (tag k : ℕ) → offset_of structs tag k < 2 ^ 31
offset_small structs tag k = by (has_member structs tag k) refl
  where
    by : (b : Bool) → has_member structs tag k ≡ b → offset_of structs tag k < 2 ^ 31
    by false h = subst (λ b. (if b then offset structs tag k else 0) < 2 ^ 31) (sym h) (omega arith)
    by true h =
        let both = and_parts (nat_lt 0 (size_of structs (ctype.Struct tag))) (list_any (λ (m : MemberShape). m.name == k) (members_of structs tag)) h in
        let size : 0 < size_of structs (ctype.Struct tag) = ltb-true 0 (size_of structs (ctype.Struct tag)) both.0 in
        let m = first_named k (members_of structs tag) both.1 in
        let there : member_type structs tag (name.Member k) ≡ Some m.0.ctype = ap (λ o. option_map (λ (x : MemberShape). x.ctype) o) m.1 in
        let lies = part_lies structs (ctype.Struct tag) (offset_of structs tag k) (width_of m.0.ctype) size (member_part structs tag k m.0.ctype there) in
        let small = sizes_are_small structs (ctype.Struct tag) in
        let within = lies.within in
        omega (arith, within, small)

-- ---- the bounds of members

-- the number in the bounds of a member is at most 2^24 either way
abbrev BoundsClose : MemberBounds → Type 0
BoundsClose bounds.Nothing = Unit {0}
BoundsClose bounds.Unknown = Unit {0}
BoundsClose (bounds.Fixed c) = IsClose c
BoundsClose (bounds.Named k c) = IsClose c
BoundsClose bounds.NoForm = Unit {0}

counted_close : (a : Option Amount) → IfSome a HasClose → BoundsClose (counted a)
counted_close None h = tt
counted_close (Some a) h = by a.variable
  where
    by : (v : Option Name) → BoundsClose (counted_by v a.number)
    by None = h
    by (Some (name.Member m)) = h
    by (Some (name.Local m)) = tt
    by (Some (name.Static m)) = tt
    by (Some (name.Function m)) = tt
    by (Some (name.Tag m)) = tt
    by (Some name.Getchar) = tt
    by (Some name.Putchar) = tt

abbrev ShapeBounded : MemberShape → Type 0
ShapeBounded m = BoundsClose m.bounds

module _ (js : List Item) where
  abbrev bare : Structs
  bare = bare_structs js

  abbrev structs : Structs
  structs = structs_of js

  bare_close : (e : NotedExpr) → IfSome (amount structs e) HasClose → IfSome (amount bare (bare_expr e)) HasClose
  bare_close e h = subst (λ (a : Option Amount). IfSome a HasClose) (sym (amount_same bare structs (sizes_same js) e)) h

  form_close : (size : ℕ) (x : Limits-F Name Note NotedLimits NotedNode NotedExpr) → AmountsClose structs x → BoundsClose (bounds_by bare size (limits_made x))
  form_close size (Limits-F.Count e at) h = counted_close (amount bare (bare_expr e)) (bare_close e h)
  form_close size (Limits-F.ByteCount e at) h = counted_close (amount_of_bytes bare size (bare_expr e)) (bytes_close bare size (bare_expr e) (bare_close e h))
  form_close size (Limits-F.Between e f at) h = tt
  form_close size (Limits-F.Unknown at) h = tt

  limits_close : (t : CType) (o : Option NotedLimits) → LimitsClose structs o → BoundsClose (bounds_of bare t (option_map bare_limits o))
  limits_close t None h = tt
  limits_close t (Some l) h =
      let size = size_of bare (element_of t) in
      subst BoundsClose (sym (ap (bounds_by bare size) (limits_out l))) (form_close size (out-Limits Name Note l) h)

  -- ---- the members that are declared

  abbrev DeclBounded : Decl → Type 0
  DeclBounded d = BoundsClose (bounds_of bare (type_written d.ctype) d.bounds)

  abbrev AreBounded : Item → Type 0
  AreBounded (item.Struct n members at) = All DeclBounded members
  AreBounded i = Unit {0}

  decls_bounded : (ds : List NotedDecl) → All (DeclClose structs) ds → All DeclBounded (map bare_decl ds)
  decls_bounded [] h = All-nil DeclBounded
  decls_bounded (d ∷ ds) h =
      All-cons DeclBounded (bare_decl d) (map bare_decl ds) (limits_close (type_written d.ctype) d.bounds (All-head (DeclClose structs) d ds h))
      (decls_bounded ds (All-tail (DeclClose structs) d ds h))

  item_bounded : (i : NotedItem) → AreClose structs i → AreBounded (bare_item i)
  item_bounded (item.Struct n ms at) h = decls_bounded ms h
  item_bounded (item.Directive d) h = tt
  item_bounded (item.Tag n at) h = tt
  item_bounded (item.Static d) h = tt
  item_bounded (item.Proto g) h = tt
  item_bounded (item.Function g body) h = tt

  items_bounded : (is : List NotedItem) → All (AreClose structs) is → All AreBounded (map bare_item is)
  items_bounded [] h = All-nil AreBounded
  items_bounded (i ∷ is) h =
      All-cons AreBounded (bare_item i) (map bare_item is) (item_bounded i (All-head (AreClose structs) i is h)) (items_bounded is (All-tail (AreClose structs) i is h))

  in_item : (n : Name) (ds : List Decl) (i : Item) → AreBounded i → members_in_item n i ≡ Some ds → All DeclBounded ds
  in_item n ds (item.Struct m ms at) h e = members_of_item DeclBounded m n ms ds h e
  in_item n ds (item.Directive d) h e = absurd cc
  in_item n ds (item.Tag m at) h e = absurd cc
  in_item n ds (item.Static d) h e = absurd cc
  in_item n ds (item.Proto g) h e = absurd cc
  in_item n ds (item.Function g body) h e = absurd cc

  -- so are those of the layout
  layout_bounded : All AreBounded js → (tag : ℕ) → All ShapeBounded (members_of structs tag)
  layout_bounded h tag =
      members_are js tag (λ ms. All ShapeBounded ms) (All-nil ShapeBounded)
      (shapes_have bare DeclBounded ShapeBounded (λ d k. k) (members_declared js (name.Tag tag)) (members_have DeclBounded AreBounded in_item js (name.Tag tag) h))

members_close : (p : Typed) (j : IsJudged p) (tag : ℕ) → All ShapeBounded (members_of p.layout tag)
members_close p j tag =
    let js = (without_notes p.tree).items in
    let same : p.layout ≡ structs_of js =
    layout_kept j.typed p j.has_bounds ∙ j.has_types.typed.layout ∙ ap (λ (t : Tree). structs_of t.items) (j.has_types.tree ∙ sym (tree_named p j)) in
    let close = subst (λ (s : Structs). All (AreClose s) p.tree.items) same (text_close p j) in
    subst (λ (s : Structs). All ShapeBounded (members_of s tag)) (sym same) (layout_bounded js (items_bounded js p.tree.items close) tag)

-- ---- counts

count_small : (structs : Structs) (tag : ℕ) (t : CType) (b : MemberBounds) → BoundsClose b → IfSome (count_by structs tag t b) IsCount
count_small structs tag t bounds.Nothing h = kind_count (kind_of t)
count_small structs tag t bounds.Unknown h = tt
count_small structs tag t (bounds.Fixed c) h = small_of_close c h
count_small structs tag t (bounds.Named k c) h = let far = offset_small structs tag k in (omega (arith, far), small_of_close c h)
count_small structs tag t bounds.NoForm h = tt

-- how many elements the member of a name has
pub member_count : (p : Typed) (j : IsJudged p) (tag : ℕ) (n : Name) → IfSome (count_of_member p.layout tag n) IsCount
member_count p j tag n = by (member_named p.layout tag n) refl
  where
    by : (o : Option MemberShape) → member_named p.layout tag n ≡ o → IfSome (count_in p.layout tag o) IsCount
    by None e = tt
    by (Some m) e =
        count_small p.layout tag m.ctype m.bounds
        (found ShapeBounded (λ (m : MemberShape). is_member_named n m.name) (members_of p.layout tag) m (members_close p j tag) e).0
