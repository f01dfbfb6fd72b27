-- What names, members and functions of a judged text have as types is sound.
use Rattle.std.proofs.Common.{◌≡◌, ◌∙◌, sym, ap, subst, refl, arith, ◌<◌, Bool, true, false, List, [], ◌∷◌, map}
use Rattle.std.specs.Prelude.{All, ◌||◌, Some}
use Rattle.std.specs.List.{Contains, flat_map, list_all}
use Rattle.std.proofs.lemmas.List.Elements.{All-nil, All-cons, All-head, All-tail}
use Rattle.ckc_base.specs.declared.arithmetic.Mode.{Mode}
use Rattle.ckc_base.specs.declared.arithmetic.Mode.TheVariants.{Unchecked}
use Rattle.ckc_types.specs.declared.types.CType.{CType}
use Rattle.ckc_types.specs.declared.types.Structs.{Structs}
use Rattle.ckc_syntax.specs.declared.tree.Name.{Name}
use Rattle.ckc_syntax.specs.declared.tree.Item.TheVariants as item
use Rattle.ckc_syntax_limits.specs.Marks.{marks_of_item, is_node}
use Rattle.ckc_syntax_limits.specs.Small.{Small, how_many}
use Rattle.ckc_typed.specs.declared.environment.Globals.{Globals}
use Rattle.ckc_typed.specs.declared.environment.Signature.{Signature}
use Rattle.ckc_typed.specs.declared.typed.Note.{Note}
use Rattle.ckc_typed.specs.declared.typed.Typed.{Typed}
use Rattle.ckc_typed.specs.Environment.{getchar, putchar, member_type, same_name, signatures_of, signatures_of_item, type_of_name, variables_of}
use Rattle.ckc_typed.specs.Layouts.{structs_of}
use Rattle.ckc_typed.specs.Texts.{globals_of, is_result_type}
use Rattle.ckc_typed.specs.Trees.{Item, Tree, NotedHead, NotedItem, NotedStmt}
use Rattle.ckc_typed.specs.Types.{type_written, is_void, is_scalar_type, is_object_type}
use Rattle.ckc_typed_fit.specs.Tests.{items_pass}
use Rattle.ckc_typed_plain.proofs.Found.{tags_have_bodies}
use Rattle.ckc_typed_welltyped.specs.Noteless.{bare_item, without_notes}
use Rattle.ckc_typed_welltyped.specs.Productions.{given_item, given_tree}
use Rattle.ckc_typed_welltyped.specs.Texts.{WellTypedItems}
use Rattle.ckc_typed_welltyped.proofs.Seen.{variables_bare}
use Rattle.ckc_source.specs.Code.{Function}
use Rattle.ckc_blame_steps.specs.ckc_blame_sound.specs.Settings.{Setting, IsFunction}
use Rattle.ckc_blame_steps.specs.ckc_blame_sound.specs.JudgedTexts.{IsJudged, globals_in}
use Rattle.ckc_blame_steps.specs.ckc_blame_sound.proofs.Bounded.{layout_kept}
use Rattle.ckc_blame_steps.specs.ckc_blame_sound.proofs.Functions.{item_is, tree_named}
use Rattle.ckc_blame_steps.specs.ckc_blame_sound.proofs.Lists.{found}
use Rattle.ckc_blame_steps.proofs.DeclaredTypes.{scalar_parts, names_objects}
use Rattle.ckc_blame_steps.proofs.Small.{variables_are}
use Rattle.ckc_blame_steps.specs.ckc_blame_walk.proofs.Sized.{tag_tests}
use Rattle.ckc_blame_steps.specs.ckc_blame_walk.proofs.Sizes.{HasMembers, all_members}
use Rattle.ckc_build_forms.proofs.SoundTypes.{IsSound, AreSound, void_sound, int_result, object_sound, object_solid}
use Rattle.ckc_build_forms.proofs.TaggedTypes.{VariablesTagged, HasTags, items_tagged, results_tagged, names_tagged, member_tagged}

-- ---- results are scalars or `void`

abbrev HasResult : Item → Type 0
HasResult (item.Function h body) = is_result_type (type_written h.result) ≡ true
HasResult i = Unit {0}

items_results : (globals : Globals) (mode : Mode) (items : List NotedItem) → WellTypedItems globals mode items → All HasResult (map bare_item items)
items_results globals mode [] w = All-nil HasResult
items_results globals mode (item.Directive d ∷ items) w = All-cons HasResult (bare_item {N = Name} {A = Note} (item.Directive d)) (map bare_item items) tt (items_results globals _ items w.1)
items_results globals mode (item.Tag n at ∷ items) w = All-cons HasResult (bare_item {N = Name} {A = Note} (item.Tag n at)) (map bare_item items) tt (items_results globals _ items w.1)
items_results globals mode (item.Struct n ms at ∷ items) w = All-cons HasResult (bare_item {N = Name} {A = Note} (item.Struct n ms at)) (map bare_item items) tt (items_results globals _ items w.1)
items_results globals mode (item.Static d ∷ items) w = All-cons HasResult (bare_item {N = Name} {A = Note} (item.Static d)) (map bare_item items) tt (items_results globals _ items w.1)
items_results globals mode (item.Proto h ∷ items) w = All-cons HasResult (bare_item {N = Name} {A = Note} (item.Proto h)) (map bare_item items) tt (items_results globals _ items w.1)
items_results globals mode (item.Function h body ∷ items) w =
    All-cons HasResult (bare_item {N = Name} {A = Note} (item.Function h body)) (map bare_item items) w.0.0.result (items_results globals _ items w.1)

abbrev SignatureResult : Signature → Type 0
SignatureResult s = is_result_type s.result ≡ true

functions_results : (is : List Item) → All HasResult is → All SignatureResult (flat_map (λ (i : Item). signatures_of_item i) is)
functions_results [] h = All-nil SignatureResult
functions_results (item.Function g body ∷ is) h =
    All-cons SignatureResult _ (flat_map (λ (i : Item). signatures_of_item i) is) (All-head HasResult (item.Function g body) is h) (functions_results is (All-tail HasResult (item.Function g body) is h))
functions_results (item.Static d ∷ is) h = functions_results is (All-tail HasResult (item.Static d) is h)
functions_results (item.Directive d ∷ is) h = functions_results is (All-tail HasResult (item.Directive d) is h)
functions_results (item.Tag n at ∷ is) h = functions_results is (All-tail HasResult (item.Tag n at) is h)
functions_results (item.Struct n ms at ∷ is) h = functions_results is (All-tail HasResult (item.Struct n ms at) is h)
functions_results (item.Proto g ∷ is) h = functions_results is (All-tail HasResult (item.Proto g) is h)

signatures_results : (is : List Item) → All HasResult is → All SignatureResult (signatures_of is)
signatures_results is h =
    All-cons SignatureResult getchar (putchar ∷ flat_map (λ (i : Item). signatures_of_item i) is) int_result
    (All-cons SignatureResult putchar (flat_map (λ (i : Item). signatures_of_item i) is) int_result (functions_results is h))

-- a result is sound
result_sound : (structs : Structs) (t : CType) → is_result_type t ≡ true → (is_object_type t ≡ true → IsSound structs t) → IsSound structs t
result_sound structs t e h = by (is_void t) refl e
  where
    by : (b : Bool) → is_void t ≡ b → (b || is_scalar_type t) ≡ true → IsSound structs t
    by true v f = void_sound structs t v
    by false v f = h (scalar_parts t f).1

-- ---- what a text and a function of it declare

module _ (p : Typed) (j : IsJudged p) (given : given_tree j.named.tree ≡ true) (small : Small j.named.tree) where
  abbrev pub js : List Item
  js = j.named.tree.items

  named_is : map bare_item j.typed.tree.items ≡ js
  named_is = ap (λ (t : Tree). t.items) j.has_types.tree

  pub members_there : All HasMembers js
  members_there =
      let w = j.has_types.typed in
      let all_given : list_all given_item (map bare_item j.typed.tree.items) ≡ true = ap (λ (is : List Item). list_all given_item is) named_is ∙ given in
      let few = subst (λ (is : List Item). how_many is_node (flat_map marks_of_item is) < 16385) (sym named_is) (let n = small.nodes in omega arith) in
      subst (λ (is : List Item). All HasMembers is) named_is
      (all_members (globals_of (without_notes j.typed.tree).items) Unchecked j.typed.tree.items w.items all_given (omega arith))

  pub layout_is : p.layout ≡ structs_of js
  layout_is = layout_kept j.typed p j.has_bounds ∙ j.has_types.typed.layout ∙ ap (λ (is : List Item). structs_of is) named_is

  pub tags_pass : items_pass (tag_tests js) js ≡ true
  tags_pass = tags_have_bodies j.spelled j.named j.has_form j.has_names

  tags : All (HasTags js members_there) js
  tags = items_tagged js members_there js tags_pass

  results : All HasResult js
  results =
      subst (λ (is : List Item). All HasResult is) named_is
      (items_results (globals_of (without_notes j.typed.tree).items) Unchecked j.typed.tree.items j.has_types.typed.items)

  variables_tagged : (h : NotedHead) (body : NotedStmt) → Contains p.tree.items (item.Function h body) → VariablesTagged js members_there (variables_of body.note.mode h body)
  variables_tagged h body there =
      let one : HasTags js members_there (bare_item (item.Function h body)) = item_is p j (HasTags js members_there) tags (item.Function h body) there in
      subst (λ vs. VariablesTagged js members_there vs) (variables_bare body.note.mode h body) (one.1 body.note.mode)

  module _ (s : Setting) (f : Function) (is : IsFunction p s f) where
    scope_tagged : VariablesTagged js members_there s.variables
    scope_tagged =
        subst (λ vs. VariablesTagged js members_there vs) (sym (ap (λ (r : Setting). r.variables) is.judged ∙ variables_are p is.head is.body))
        (variables_tagged is.head is.body is.there)

    globals_are : globals_in p ≡ globals_of js
    globals_are = ap (λ (t : Tree). globals_of t.items) (tree_named p j)

    sound_of_named : AreSound (structs_of js) (globals_of js) s.variables
    sound_of_named =
        let o = names_objects p s f j is in
        record {
          names = λ n t e.
              let object = o.names n t (subst (λ g. type_of_name g s.variables n ≡ Some t) (sym globals_are) e) in
              let tag = names_tagged js members_there js s.variables tags scope_tagged n t e in
              (object_sound (structs_of js) t object tag, object_solid (structs_of js) t object tag);
          members = λ tag n t e.
              let both = scalar_parts t (o.members tag n t (subst (λ (g : Globals). member_type g.structs tag n ≡ Some t) (sym globals_are) e)) in
              (object_sound (structs_of js) t both.1 (member_tagged js members_there js tags tag n t e), both.0);
          results = λ n t e.
              result_sound (structs_of js) t.result
              (found SignatureResult (λ (x : Signature). same_name x.name n) (signatures_of js) t (signatures_results js results) e).0
              (λ object. object_sound (structs_of js) t.result object (results_tagged js members_there js tags n t e));
        }

    -- the names that the text and the function declare have sound types
    pub names_sound : AreSound p.layout (globals_in p) s.variables
    names_sound =
        subst (λ (x : Structs). AreSound x (globals_in p) s.variables) (sym layout_is)
        (subst (λ g. AreSound (structs_of js) g s.variables) (sym globals_are) sound_of_named)
