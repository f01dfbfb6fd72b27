-- A structure that has a member has a size, and the program of a judged text is laid out by the types of the text.
use Rattle.std.proofs.Common.{◌≡◌, ◌∙◌, refl, sym, ap, subst, arith, ℕ, suc, ◌%◌, ◌<◌, ◌≤◌, Bool, true, false, List, [], ◌∷◌, ◌++◌, map, length, length-append}
use Rattle.std.specs.Prelude.{All, ◌==◌, ◌||◌, if◌then◌else◌, Some, None, find, slice_get, unwrap_or}
use Rattle.std.specs.List.{Contains, flat_map, list_all}
use Rattle.std.specs.Option.{option_map}
use Rattle.std.proofs.lemmas.Bool.{eq-eqb, eqb-true}
use Rattle.std.proofs.lemmas.List.{length-map}
use Rattle.std.proofs.lemmas.List.Elements.{All-nil, All-cons, All-contains, All-head, All-tail}
use Rattle.ckc_base.specs.declared.arithmetic.Mode.TheVariants.{Unchecked}
use Rattle.ckc_base.specs.declared.arithmetic.Width.{Width}
use Rattle.ckc_base.specs.declared.arithmetic.Width.TheVariants.{Byte, Word}
use Rattle.ckc_base.specs.Memory.{width_bytes}
use Rattle.ckc_types.specs.declared.types.CType.{CType, CType-F, out-CType}
use Rattle.ckc_types.specs.declared.types.MemberShape.{MemberShape}
use Rattle.ckc_types.specs.Layout.{align_by_form, members_of}
use Rattle.ckc_types.specs.Scalars.{align_of_form}
use Rattle.ckc_syntax.specs.declared.tree.Name.{Name}
use Rattle.ckc_syntax.specs.declared.tree.Name.TheVariants as name
use Rattle.ckc_syntax.specs.declared.tree.Item.TheVariants as item
use Rattle.ckc_syntax_limits.specs.Marks.{marks_of_item, is_node}
use Rattle.ckc_syntax_limits.specs.Small.{Small, how_many}
use Rattle.ckc_typed.specs.declared.typed.Typed.{Typed}
use Rattle.ckc_typed.specs.Constants.{size_of}
use Rattle.ckc_typed.specs.Environment.{is_member_named, same_name}
use Rattle.ckc_typed.specs.Layouts.{bare_structs, bounded_member, members_declared, structs_of}
use Rattle.ckc_typed.specs.Operands.{dot_type, member_in}
use Rattle.ckc_typed.specs.Texts.{globals_of}
use Rattle.ckc_typed.specs.Trees.{Decl, Item, Tree}
use Rattle.ckc_typed.specs.Types.{is_integer_form, is_pointer_form, is_scalar}
use Rattle.ckc_typed_fit.specs.Numbers.{tag_in}
use Rattle.ckc_typed_fit.specs.Visible.{is_one_of, struct_of}
use Rattle.ckc_typed_welltyped.specs.Noteless.{bare_item, without_notes}
use Rattle.ckc_typed_welltyped.specs.Productions.{given_item, given_tree}
use Rattle.ckc_source.specs.declared.program.MemberRun.{MemberRun}
use Rattle.ckc_source.specs.declared.program.Object.{Object}
use Rattle.ckc_source.specs.Blocks.{block_of}
use Rattle.ckc_source.specs.Runs.{runs_in, runs_of}
use Rattle.ckc_build_values.specs.Kinds.{width_of}
use Rattle.ckc_build_elaborate.specs.Elaborated.{elaborated}
use Rattle.ckc_build_elaborate.specs.Shapes.{shapes_elaborated}
use Rattle.ckc_build_forms.specs.ckc_blame_steps.specs.ckc_blame_sound.specs.Cells.{IsMemberRun}
use Rattle.ckc_build_forms.specs.ckc_blame_steps.specs.ckc_blame_sound.specs.JudgedTexts.{IsJudged}
use Rattle.ckc_build_forms.specs.ckc_blame_steps.specs.ckc_blame_sound.specs.Sound.{IsPlaced}
use Rattle.ckc_build_forms.specs.ckc_blame_steps.specs.ckc_blame_sound.proofs.Bounded.{layout_kept}
use Rattle.ckc_build_forms.specs.ckc_blame_steps.specs.ckc_blame_sound.proofs.Members.{have_own_names, members_are}
use Rattle.ckc_build_forms.specs.ckc_blame_steps.specs.ckc_blame_sound.proofs.Objects.{are_members}
use Rattle.ckc_build_forms.specs.ckc_blame_steps.specs.ckc_blame_sound.proofs.Parts.{HasSize, member_lies, offset_there, scalar_member, sized_form}
use Rattle.ckc_build_forms.specs.ckc_blame_steps.specs.ckc_blame_walk.proofs.Sizes.{all_members, tag_sized}
use Rattle.ckc_source_causes.specs.Layouts.{LiesByType, IsLaidOutBy, is_word}
use Rattle.ckc_build_wellformed.proofs.Layouts.{layout_of, member_wide, scalar_size, wide_size}

-- ---- structures with members

same_tag : (n : Name) (k : ℕ) (rest : List ℕ) → same_name n (name.Tag k) ≡ true → is_one_of (tag_in n ++ rest) k ≡ true
same_tag (name.Tag m) k rest e = ap (λ b. b || is_one_of rest k) (eq-eqb k m (sym (eqb-true m k e)))
same_tag n k rest e = absurd cc

later_tag : (ns rest : List ℕ) (k : ℕ) → is_one_of rest k ≡ true → is_one_of (ns ++ rest) k ≡ true
later_tag [] rest k e = e
later_tag (n ∷ ns) rest k e = by (k == n) (later_tag ns rest k e)
  where
    by : (b : Bool) → is_one_of (ns ++ rest) k ≡ true → (b || is_one_of (ns ++ rest) k) ≡ true
    by true h = refl
    by false h = h

-- the tag of declared members has a body
tag_there : (js : List Item) (k : ℕ) → 1 ≤ length (members_declared js (name.Tag k)) → is_one_of (flat_map struct_of js) k ≡ true
tag_there [] k h = absurd (omega (arith, h))
tag_there (item.Struct n ms at ∷ js) k h = by (same_name n (name.Tag k)) refl h (tag_there js k)
  where
    by : (b : Bool) → same_name n (name.Tag k) ≡ b → 1 ≤ length (unwrap_or (if b then Some ms else None) (members_declared js (name.Tag k)))
        → (1 ≤ length (members_declared js (name.Tag k)) → is_one_of (flat_map struct_of js) k ≡ true) → is_one_of (tag_in n ++ flat_map struct_of js) k ≡ true
    by true e some rest = same_tag n k (flat_map struct_of js) e
    by false e some rest = later_tag (tag_in n) (flat_map struct_of js) k (rest some)
tag_there (item.Directive d ∷ js) k h = tag_there js k h
tag_there (item.Tag n at ∷ js) k h = tag_there js k h
tag_there (item.Static d ∷ js) k h = tag_there js k h
tag_there (item.Proto g ∷ js) k h = tag_there js k h
tag_there (item.Function g body ∷ js) k h = tag_there js k h

some_declared : (js : List Item) (tag : ℕ) → 1 ≤ length (members_of (structs_of js) tag) → 1 ≤ length (members_declared js (name.Tag tag))
some_declared js tag =
    members_are js tag (λ ms. 1 ≤ length ms → 1 ≤ length (members_declared js (name.Tag tag))) (λ h. absurd (omega (arith, h)))
    (λ h. let many = length-map (members_declared js (name.Tag tag)) (λ (d : Decl). bounded_member (bare_structs js) d) in omega (arith, h, many))

module _ (p : Typed) (j : IsJudged p) (given : given_tree j.named.tree ≡ true) (small : Small j.named.tree) where
  pub struct_sized : (tag : ℕ) → 1 ≤ length (members_of p.layout tag) → HasSize p.layout tag
  struct_sized tag some =
      let q = j.typed in
      let js = map bare_item q.tree.items in
      let same : js ≡ j.named.tree.items = ap (λ (t : Tree). t.items) j.has_types.tree in
      let all_given : list_all given_item js ≡ true = ap (λ (is : List Item). list_all given_item is) same ∙ given in
      let few = subst (λ (is : List Item). how_many is_node (flat_map marks_of_item is) < 16385) (sym same) (let n = small.nodes in omega (arith, n)) in
      let members = all_members (globals_of (without_notes q.tree).items) Unchecked q.tree.items j.has_types.typed.items all_given (omega (arith, few)) in
      let layout : p.layout ≡ structs_of js = layout_kept q p j.has_bounds ∙ j.has_types.typed.layout in
      subst (λ s. HasSize s tag) (sym layout)
      (tag_sized js tag members (tag_there js tag (some_declared js tag (subst (λ s. 1 ≤ length (members_of s tag)) layout some))))

  -- what has a member has a size
  pub dot_sized : (u t : CType) (n : Name) → dot_type p.layout u n ≡ Some t → 0 < size_of p.layout u
  dot_sized u t n h = by (out-CType u) h
    where
      some : (ms : List MemberShape) → option_map (λ (m : MemberShape). m.ctype) (find (λ (m : MemberShape). is_member_named n m.name) ms) ≡ Some t → 1 ≤ length ms
      some [] e = absurd cc
      some (m ∷ ms) e = omega arith

      by : (f : CType-F CType) → member_in p.layout n f ≡ Some t → 0 < sized_form p.layout f
      by (CType-F.Struct tag) e = struct_sized tag (some (members_of p.layout tag) e)
      by CType-F.Int e = omega arith
      by CType-F.Unsigned e = omega arith
      by CType-F.Char e = omega arith
      by CType-F.Void e = absurd cc
      by (CType-F.Pointer k v) e = omega arith

  -- ---- the layout

  objects_lie : (os : List Object) → All (IsPlaced p) (map block_of os) → All (LiesByType (layout_of p.layout)) os
  objects_lie [] h = All-nil (LiesByType (layout_of p.layout))
  objects_lie (o ∷ os) h =
      let placed = All-head (IsPlaced p) (block_of o) (map block_of os) h in
      All-cons (LiesByType (layout_of p.layout)) o os (record { at = omega (arith, placed.aligned); size = placed.size })
      (objects_lie os (All-tail (IsPlaced p) (block_of o) (map block_of os) h))

  all_at : (tag : ℕ) (runs : List MemberRun) → ((k : ℕ) (m : MemberRun) → slice_get runs k ≡ Some m → IsMemberRun p.layout tag m) → All (IsMemberRun p.layout tag) runs
  all_at tag [] h = All-nil (IsMemberRun p.layout tag)
  all_at tag (m ∷ runs) h = All-cons (IsMemberRun p.layout tag) m runs (h 0 m refl) (all_at tag runs (λ k. h (suc k)))

  even : (w : Width) (o : ℕ) → is_word w ≡ true → o % width_bytes w ≡ 0 → o % 4 ≡ 0
  even Byte o e h = absurd cc
  even Word o e h = h

  word_aligned : (t : CType) → is_scalar t ≡ true → (layout_of p.layout).is_wide t ≡ true → align_of_form (out-CType t) ≡ 4
  word_aligned t scalar wide = by (out-CType t) scalar wide
    where
      by : (f : CType-F CType) → (is_integer_form f || is_pointer_form f) ≡ true → (align_by_form p.layout f == 4) ≡ true → align_of_form f ≡ 4
      by CType-F.Int e w = refl
      by CType-F.Unsigned e w = refl
      by CType-F.Char e w = absurd cc
      by CType-F.Void e w = absurd cc
      by (CType-F.Struct tag) e w = absurd cc
      by (CType-F.Pointer k u) e w = refl

  run_lies : (tag : ℕ) (m : MemberRun) → IsMemberRun p.layout tag m → (layout_of p.layout).is_wide m.ctype ≡ true → ((align_by_form p.layout (CType-F.Struct tag) == 4) ≡ true) × (m.offset % 4 ≡ 0)
  run_lies tag m r wide =
      let many = ap (λ (ms : List MemberShape). length ms) r.stands.split ∙ length-append r.front (r.member ∷ r.stands.back) in
      let sized = struct_sized tag (omega (arith, many)) in
      let scalar = scalar_member p.layout tag r.front r.member r.stands sized in
      let wide_member : (layout_of p.layout).is_wide r.member.ctype ≡ true = subst (λ t. (layout_of p.layout).is_wide t ≡ true) r.same wide in
      let at = r.there ∙ offset_there p.layout tag r.front r.member r.stands sized in (
        member_wide p.layout tag r.front r.member r.stands.back r.stands.split (word_aligned r.member.ctype scalar wide_member),
        ap (λ n. n % 4) at ∙ even (width_of r.member.ctype) _ (sym (scalar_size p.layout r.member.ctype scalar).1 ∙ wide_member) (member_lies p.layout tag r.front r.member r.stands sized).even,
      )

  pub laid_out_by : All (IsPlaced p) (map block_of (elaborated p).objects) → IsLaidOutBy (elaborated p) (layout_of p.layout)
  laid_out_by placed = record { sizes = wide_size p.layout; objects = objects_lie (elaborated p).objects placed; members = members }
    where
      members : (t : CType) (m : MemberRun) → Contains (runs_in (elaborated p).shapes (out-CType t)) m → (layout_of p.layout).is_wide m.ctype ≡ true
          → ((layout_of p.layout).is_wide t ≡ true) × (m.offset % 4 ≡ 0)
      members t m c wide = by (out-CType t) c
        where
          none : {X : Type 0} → Contains (runs_in (shapes_elaborated p.layout) CType-F.Int) m → X
          none c = let below = c.1 in absurd (omega (arith, below))

          by : (f : CType-F CType) → Contains (runs_in (shapes_elaborated p.layout) f) m → ((align_by_form p.layout f == 4) ≡ true) × (m.offset % 4 ≡ 0)
          by (CType-F.Struct tag) c =
              let runs : List MemberRun = runs_of (slice_get (shapes_elaborated p.layout) tag) in
              run_lies tag m (All-contains (IsMemberRun p.layout tag) runs m (all_at tag runs (are_members p.layout (have_own_names p j) tag)) c) wide
          by CType-F.Int c = none c
          by CType-F.Unsigned c = none c
          by CType-F.Char c = none c
          by CType-F.Void c = none c
          by (CType-F.Pointer k u) c = none c
