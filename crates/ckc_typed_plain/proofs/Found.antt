-- Each name in a plain text is declared and visible where it stands, and each tag that a type names has a body.
use Rattle.std.proofs.Common.{◌≡◌, ◌∙◌, sym, ap, refl, subst, Bool, true, false, ◌||◌, List, [], ◌∷◌, map, length}
use Rattle.std.specs.List.{list_all, list_any}
use Rattle.std.proofs.Math.Path.{fun_ext}
use Rattle.ckc_syntax.specs.Inside.{listed, inside_each}
use Rattle.ckc_syntax.specs.declared.tree.Item.TheVariants as item
use Rattle.ckc_syntax.specs.declared.tree.Name.{Name}
use Rattle.ckc_syntax.specs.declared.tree.Name.TheVariants as name
use Rattle.ckc_syntax.specs.declared.tree.NamedText.{NamedText}
use Rattle.ckc_syntax.specs.Trees.{Tree, NamedTree, NamedItem}
use Rattle.ckc_plain.specs.ckc_plain_barred.specs.declared.integers.Integers.{Integers}
use Rattle.ckc_plain.specs.ckc_plain_barred.specs.Integers.{known_of, known_in}
use Rattle.ckc_plain.specs.ckc_plain_barred.specs.Barred.{in_head, in_item, in_stmt}
use Rattle.ckc_plain.specs.ckc_plain_bodies.specs.Statements.{item_plain}
use Rattle.ckc_plain.specs.Phase.{resolving}
use Rattle.ckc_typed.specs.Environment.{same_name}
use Rattle.ckc_typed_fit.specs.Members.{item_members}
use Rattle.ckc_typed_fit.specs.Numbers.{static_of, function_of}
use Rattle.ckc_typed_fit.specs.Tests.{Tests, names_declared, head_passes, item_passes, items_pass, walked}
use Rattle.ckc_typed_fit.specs.Visible.{is_one_of, is_of_file, is_visible, is_declared_member, NamesAreVisible, struct_of, has_body, TagsHaveBodies}
use Rattle.ckc_typed_fit.proofs.FormKept.{form_kept}
use Rattle.ckc_typed_fit.proofs.Found as found
use Rattle.ckc_typed_welltyped.specs.Productions.{placed_head, placed_body, placed_item, placed_stmt, with_calls, spoken_tree}
use Rattle.ckc_typed_plain.specs.Resolved.{IsResolved}
use Rattle.ckc_typed_plain.proofs.Items.{resolved_of, flat_items}
use Rattle.ckc_typed_plain.proofs.GivenLevels.{both, parts_of, empty_parts}
use Rattle.ckc_typed_plain.proofs.VisibleExprs.{AreTame}
use Rattle.ckc_typed_plain.proofs.VisibleStmts.{body_passes}

module _ (T : Tests) (tame : AreTame T) (known : Integers) where
  item_still : (i : NamedItem) → placed_item with_calls i ≡ true → in_item known i ≡ [] → item_passes T i ≡ true → item_passes T (item_plain known i) ≡ true
  item_still (item.Directive d) f none h = h
  item_still (item.Tag n at) f none h = h
  item_still (item.Struct n members at) f none h = h
  item_still (item.Static d) f none h = h
  item_still (item.Proto g) f none h = h
  item_still (item.Function g body) f none h =
      let hs = parts_of (head_passes T g) ((walked T body).passes (names_declared g.params)) h in
      let fs = parts_of (placed_head with_calls g) (placed_body with_calls body) f in
      let bs = parts_of (placed_stmt with_calls body).fine (placed_stmt with_calls body).nested fs.1 in
      both _ _ hs.0 (body_passes T tame (known_in known g body) body (length (known_in known g body).locals) (names_declared g.params) hs.1 bs.1 (empty_parts (in_head known g) (in_stmt (known_in known g body) body false) none).1)

  items_still : (is : List NamedItem) → list_all (placed_item with_calls) is ≡ true → inside_each listed (in_item known) is ≡ [] → items_pass T is ≡ true → items_pass T (map (item_plain known) is) ≡ true
  items_still [] f none h = refl
  items_still (i ∷ is) f none h =
      let fs = parts_of (placed_item with_calls i) (list_all (placed_item with_calls) is) f in
      let hs = parts_of (item_passes T i) (items_pass T is) h in
      let ns = empty_parts (in_item known i) (inside_each listed (in_item known) is) none in
      both _ _ (item_still i fs.0 ns.0 hs.0) (items_still is fs.1 ns.1 hs.1)

or_more : (a b c : Bool) → (a ≡ true → b ≡ true) → (a || c) ≡ true → (b || c) ≡ true
or_more true b c f h = ap (λ x. x || c) (f refl)
or_more false true c f h = refl
or_more false false c f h = h

names_tame : (items : List NamedItem) → AreTame (record { name = is_visible items; member = is_declared_member items; tag = λ n. true })
names_tame items = record {
  more = λ vs us s n h. or_more (list_any (same_name n) vs) (list_any (same_name n) us) (is_of_file items n) (s n) h;
  own = λ us n h. ap (λ b. b || is_of_file items n) h;
}

tags_tame : (items : List NamedItem) → AreTame (record { name = λ visible n. true; member = λ n. true; tag = has_body items })
tags_tame items = record { more = λ vs us s n h. refl; own = λ us n h. refl }

module _ (t : Tree) (n : NamedText) (form : spoken_tree t ≡ true) (m : resolving.Makes t n) where
  r : IsResolved t n
  r = resolved_of t n m

  abbrev before : List NamedItem
  before = r.resolved.tree.items

  given : list_all (placed_item with_calls) before ≡ true
  given = form_kept t r.resolved r.has_names ∙ form

  file_same : (x : Name) → is_of_file n.tree.items x ≡ is_of_file before x
  file_same (name.Static k) = ap (λ ns. is_one_of ns k) (flat_items t n r static_of (λ h b c. refl))
  file_same (name.Function k) = ap (λ ns. is_one_of ns k) (flat_items t n r function_of (λ h b c. refl))
  file_same (name.Local k) = refl
  file_same (name.Tag k) = refl
  file_same (name.Member k) = refl
  file_same name.Getchar = refl
  file_same name.Putchar = refl

  member_same : (x : Name) → is_declared_member n.tree.items x ≡ is_declared_member before x
  member_same (name.Member k) = ap (λ ns. is_one_of ns k) (flat_items t n r item_members (λ h b c. refl))
  member_same _ = refl

  body_same : (x : Name) → has_body n.tree.items x ≡ has_body before x
  body_same (name.Tag k) = ap (λ ns. is_one_of ns k) (flat_items t n r struct_of (λ h b c. refl))
  body_same _ = refl

  abbrev NameTests : (Name → Bool) → (Name → Bool) → Tests
  NameTests file members = record { name = λ visible x. list_any (same_name x) visible || file x; member = members; tag = λ x. true }

  abbrev TagTests : (Name → Bool) → Tests
  TagTests bodies = record { name = λ visible x. true; member = λ x. true; tag = bodies }

  still : (T : Tests) → AreTame T → items_pass T before ≡ true → items_pass T n.tree.items ≡ true
  still T tame h = subst (λ (z : NamedTree). items_pass T z.items ≡ true) (sym r.tree) (items_still T tame (known_of r.resolved.tree) before given r.free h)

  pub names_visible : NamesAreVisible n.tree.items
  names_visible =
      subst (λ f. items_pass (NameTests f (is_declared_member n.tree.items)) n.tree.items ≡ true) (sym (fun_ext file_same))
      (subst (λ g. items_pass (NameTests (is_of_file before) g) n.tree.items ≡ true) (sym (fun_ext member_same))
      (still (NameTests (is_of_file before) (is_declared_member before)) (names_tame before) (found.names_visible t r.resolved r.has_names)))

  pub tags_have_bodies : TagsHaveBodies n.tree.items
  tags_have_bodies =
      subst (λ f. items_pass (TagTests f) n.tree.items ≡ true) (sym (fun_ext body_same))
      (still (TagTests (has_body before)) (tags_tame before) (found.tags_have_bodies t r.resolved r.has_names))
