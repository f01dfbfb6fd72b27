-- The types that a judged text declares are those of objects, so each `_Nt_array_ptr` in them points to an integer.
use Rattle.std.proofs.Common.{◌≡◌, ◌∙◌, sym, ap, subst, refl, ℕ, Bool, true, false, List, [], ◌∷◌, ◌++◌, map}
use Rattle.std.specs.Prelude.{All, ◌||◌, find, Option, Some, None}
use Rattle.std.specs.List.{Contains, AllByRecursion, flat_map}
use Rattle.std.specs.Option.{option_map}
use Rattle.std.proofs.lemmas.Bool.{and_parts}
use Rattle.std.proofs.lemmas.List.Elements.{All-nil, All-cons, All-head, All-tail}
use Rattle.ckc_base.specs.declared.arithmetic.Mode.{Mode}
use Rattle.ckc_base.specs.declared.arithmetic.Mode.TheVariants.{Unchecked}
use Rattle.ckc_types.specs.declared.types.CType.{CType}
use Rattle.ckc_types.specs.declared.types.Kind.TheVariants as kind
use Rattle.ckc_types.specs.declared.types.MemberShape.{MemberShape}
use Rattle.ckc_types.specs.Layout.{members_of}
use Rattle.ckc_syntax.specs.declared.tree.Name.{Name}
use Rattle.ckc_syntax.specs.declared.tree.Name.TheVariants as name
use Rattle.ckc_syntax.specs.declared.tree.Item.TheVariants as item
use Rattle.ckc_syntax.specs.declared.tree.Length.{Length}
use Rattle.ckc_syntax.specs.declared.tree.Length.TheVariants as lengths
use Rattle.ckc_typed.specs.declared.environment.Globals.{Globals}
use Rattle.ckc_typed.specs.declared.environment.Object.{Object}
use Rattle.ckc_typed.specs.declared.environment.Signature.{Signature}
use Rattle.ckc_typed.specs.declared.environment.Variable.{Variable}
use Rattle.ckc_typed.specs.declared.typed.Typed.{Typed}
use Rattle.ckc_typed.specs.Declarations.{is_element_for}
use Rattle.ckc_typed.specs.Environment.{getchar, putchar, is_member_named, kind_of_array, object_named, object_type, objects_of, or_variable, member_type, same_name, signature_named, signatures_of, signatures_of_item, type_of_name, used, variable_declared, variable_named, variables_of, object_declared, locals_of, params_of}
use Rattle.ckc_typed.specs.Interfaces.{seen, seen_params}
use Rattle.ckc_typed.specs.Layouts.{members_declared, members_in_item, bare_structs, structs_of}
use Rattle.ckc_typed.specs.Texts.{globals_of, is_result_type}
use Rattle.ckc_typed.specs.Trees.{Decl, Item, Tree, NotedDecl, NotedHead, NotedItem, NotedStmt}
use Rattle.ckc_typed.specs.Types.{type_written, is_object_type, is_scalar, is_scalar_type, is_void}
use Rattle.ckc_typed.specs.Walk.{head_mode}
use Rattle.ckc_typed_welltyped.specs.Declarations.{WellTypedBare}
use Rattle.ckc_typed_welltyped.specs.Noteless.{bare_decl, bare_head, bare_item, bare_stmt}
use Rattle.ckc_typed_welltyped.specs.Texts.{WellTypedItems}
use Rattle.ckc_typed_welltyped.proofs.Seen.{variables_bare}
use Rattle.ckc_source.specs.Code.{Function}
use Rattle.ckc_blame_sound.specs.Settings.{Setting, IsFunction}
use Rattle.ckc_blame_sound.specs.JudgedTexts.{IsJudged, globals_in}
use Rattle.ckc_blame_sound.proofs.Functions.{item_is, tree_named}
use Rattle.ckc_blame_sound.proofs.Lists.{found}
use Rattle.ckc_blame_sound.proofs.Locals.{stmt_declares}
use Rattle.ckc_blame_sound.proofs.Members.{members_are}
use Rattle.ckc_blame_steps.specs.Pointees.{AreFine, IsFine}
use Rattle.ckc_blame_steps.proofs.Interfaces.{scalar_seen}
use Rattle.ckc_blame_steps.proofs.Pointees.{fine_int, object_fine, void_fine}
use Rattle.ckc_blame_steps.proofs.Small.{variables_are}
use Rattle.ckc_blame_steps.proofs.Statics.{bare}
use Rattle.ckc_blame_steps.proofs.SmallNames.{members_have, members_of_item, shapes_have}
use Rattle.ckc_blame_steps.proofs.ObjectTypes.{integer_is_object, pointer_is_object}
use Rattle.ckc_blame_steps.proofs.ScalarLocals.{IsScalarVariable, HaveScalarTypes, no_variables, joined, statement_scalars}

-- ---- types

pub scalar_parts : (t : CType) → is_scalar_type t ≡ true → (is_scalar t ≡ true) × (is_object_type t ≡ true)
scalar_parts t e = and_parts (is_scalar t) (is_object_type t) e

result_fine : (t : CType) → is_result_type t ≡ true → IsFine t
result_fine t e = by (is_void t) refl e
  where
    by : (b : Bool) → is_void t ≡ b → (b || is_scalar_type t) ≡ true → IsFine t
    by true v e = void_fine t v
    by false v e = object_fine t (scalar_parts t e).1

used_object : (l : Length) (t : CType) → is_element_for l t ≡ true → is_object_type (used t (kind_of_array l)) ≡ true
used_object lengths.Plain t e = e
used_object (lengths.Raw n at) t e = pointer_is_object kind.Raw t e (λ h. absurd cc)
used_object (lengths.Checked n) t e = pointer_is_object kind.Arr t e (λ h. absurd cc)
used_object (lengths.Nt n) t e = pointer_is_object kind.Nt t (integer_is_object t e) (λ h. e)

-- ---- items

abbrev IsScalarDecl : Decl → Type 0
IsScalarDecl d = is_scalar_type (type_written d.ctype) ≡ true

abbrev HasObjectTypes : Item → Type 0
HasObjectTypes (item.Struct n members at) = All IsScalarDecl members
HasObjectTypes (item.Static d) = is_object_type (object_type (object_declared d)) ≡ true
HasObjectTypes (item.Function h body) = IsFine (type_written h.result) × ((mode : Mode) → HaveScalarTypes (variables_of mode h body))
HasObjectTypes i = Unit {0}

bares_scalar : (globals : Globals) (variables : List Variable) (mode : Mode) (ds : List NotedDecl) → AllByRecursion (WellTypedBare globals variables mode) ds → All IsScalarDecl (map (λ (d : NotedDecl). bare_decl d) ds)
bares_scalar globals variables mode [] w = All-nil IsScalarDecl
bares_scalar globals variables mode (d ∷ ds) w = All-cons IsScalarDecl (bare_decl d) (map (λ (d : NotedDecl). bare_decl d) ds) w.0.scalar (bares_scalar globals variables mode ds w.1)

params_scalar : (ds : List Decl) → All IsScalarDecl ds → HaveScalarTypes (map (λ (d : Decl). variable_declared d) ds)
params_scalar [] h = no_variables
params_scalar (d ∷ ds) h = All-cons IsScalarVariable (variable_declared d) (map (λ (d : Decl). variable_declared d) ds) (All-head IsScalarDecl d ds h) (params_scalar ds (All-tail IsScalarDecl d ds h))

-- a parameter has such a type as each body sees it
seen_scalar : (mode : Mode) (ds : List Decl) → All IsScalarDecl ds → All IsScalarDecl (map (seen mode) ds)
seen_scalar mode [] h = All-nil IsScalarDecl
seen_scalar mode (d ∷ ds) h =
    All-cons IsScalarDecl (seen mode d) (map (seen mode) ds) (scalar_seen mode d (All-head IsScalarDecl d ds h)) (seen_scalar mode ds (All-tail IsScalarDecl d ds h))

more : (i : NotedItem) (items : List NotedItem) → HasObjectTypes (bare i) → All HasObjectTypes (map bare items) → All HasObjectTypes (map bare (i ∷ items))
more i items h hs = All-cons HasObjectTypes (bare i) (map bare items) h hs

items_objects : (globals : Globals) (mode : Mode) (items : List NotedItem) → WellTypedItems globals mode items → All HasObjectTypes (map bare items)
items_objects globals mode [] w = All-nil HasObjectTypes
items_objects globals mode (item.Directive d ∷ items) w = more (item.Directive d) items tt (items_objects globals _ items w.1)
items_objects globals mode (item.Tag n at ∷ items) w = more (item.Tag n at) items tt (items_objects globals _ items w.1)
items_objects globals mode (item.Struct n members at ∷ items) w = more (item.Struct n members at) items (bares_scalar globals _ mode members w.0) (items_objects globals _ items w.1)
items_objects globals mode (item.Static d ∷ items) w = more (item.Static d) items (used_object d.length (type_written d.ctype) w.0.element) (items_objects globals _ items w.1)
items_objects globals mode (item.Proto h ∷ items) w = more (item.Proto h) items tt (items_objects globals _ items w.1)
items_objects globals mode (item.Function h body ∷ items) w =
    more (item.Function h body) items (
      result_fine (type_written h.result) w.0.0.result,
      λ seen_in. joined (params_of seen_in (bare_head h)) (locals_of (bare_stmt body))
          (params_scalar (seen_params seen_in (bare_head h)) (seen_scalar seen_in (map (λ (d : NotedDecl). bare_decl d) h.params) (bares_scalar globals _ _ h.params w.0.0.params)))
          (subst HaveScalarTypes (sym (stmt_declares body).same) (statement_scalars globals _ (type_written h.result) body (head_mode mode h) false w.0.1)),
    )
    (items_objects globals _ items w.1)

named_objects : (p : Typed) (j : IsJudged p) → All HasObjectTypes j.named.tree.items
named_objects p j = subst (λ (t : Tree). All HasObjectTypes t.items) j.has_types.tree (items_objects _ Unchecked j.typed.tree.items j.has_types.typed.items)

-- ---- what they declare

abbrev HasObjectType : Object → Type 0
HasObjectType o = is_object_type (object_type o) ≡ true

abbrev HasResultType : Signature → Type 0
HasResultType s = IsFine s.result

objects_are : (is : List Item) → All HasObjectTypes is → All HasObjectType (objects_of is)
objects_are [] h = All-nil HasObjectType
objects_are (item.Static d ∷ is) h = All-cons HasObjectType (object_declared d) (objects_of is) (All-head HasObjectTypes (item.Static d) is h) (objects_are is (All-tail HasObjectTypes (item.Static d) is h))
objects_are (item.Directive d ∷ is) h = objects_are is (All-tail HasObjectTypes (item.Directive d) is h)
objects_are (item.Tag n at ∷ is) h = objects_are is (All-tail HasObjectTypes (item.Tag n at) is h)
objects_are (item.Struct n members at ∷ is) h = objects_are is (All-tail HasObjectTypes (item.Struct n members at) is h)
objects_are (item.Proto g ∷ is) h = objects_are is (All-tail HasObjectTypes (item.Proto g) is h)
objects_are (item.Function g body ∷ is) h = objects_are is (All-tail HasObjectTypes (item.Function g body) is h)

functions_results : (is : List Item) → All HasObjectTypes is → All HasResultType (flat_map (λ (i : Item). signatures_of_item i) is)
functions_results [] h = All-nil HasResultType
functions_results (item.Function g body ∷ is) h =
    All-cons HasResultType _ (flat_map (λ (i : Item). signatures_of_item i) is) (All-head HasObjectTypes (item.Function g body) is h).0 (functions_results is (All-tail HasObjectTypes (item.Function g body) is h))
functions_results (item.Static d ∷ is) h = functions_results is (All-tail HasObjectTypes (item.Static d) is h)
functions_results (item.Directive d ∷ is) h = functions_results is (All-tail HasObjectTypes (item.Directive d) is h)
functions_results (item.Tag n at ∷ is) h = functions_results is (All-tail HasObjectTypes (item.Tag n at) is h)
functions_results (item.Struct n members at ∷ is) h = functions_results is (All-tail HasObjectTypes (item.Struct n members at) is h)
functions_results (item.Proto g ∷ is) h = functions_results is (All-tail HasObjectTypes (item.Proto g) is h)

signatures_results : (is : List Item) → All HasObjectTypes is → All HasResultType (signatures_of is)
signatures_results is h =
    All-cons HasResultType getchar (putchar ∷ flat_map (λ (i : Item). signatures_of_item i) is) fine_int
    (All-cons HasResultType putchar (flat_map (λ (i : Item). signatures_of_item i) is) fine_int (functions_results is h))

abbrev IsScalarMember : MemberShape → Type 0
IsScalarMember m = is_scalar_type m.ctype ≡ true

in_item : (n : Name) (ds : List Decl) (i : Item) → HasObjectTypes i → members_in_item n i ≡ Some ds → All IsScalarDecl ds
in_item n ds (item.Struct m members at) h e = members_of_item IsScalarDecl m n members ds h e
in_item n ds (item.Directive d) h e = absurd cc
in_item n ds (item.Tag m at) h e = absurd cc
in_item n ds (item.Static d) h e = absurd cc
in_item n ds (item.Proto g) h e = absurd cc
in_item n ds (item.Function g body) h e = absurd cc

members_scalar : (is : List Item) (tag : ℕ) → All HasObjectTypes is → All IsScalarMember (members_of (structs_of is) tag)
members_scalar is tag h =
    members_are is tag (λ ms. All IsScalarMember ms) (All-nil IsScalarMember)
    (shapes_have (bare_structs is) IsScalarDecl IsScalarMember (λ d k. k) (members_declared is (name.Tag tag)) (members_have IsScalarDecl HasObjectTypes in_item is (name.Tag tag) h))

-- ---- the variables of a function

function_scalars : (p : Typed) (j : IsJudged p) (h : NotedHead) (body : NotedStmt) → Contains p.tree.items (item.Function h body) → HaveScalarTypes (variables_of body.note.mode h body)
function_scalars p j h body there =
    let one : HasObjectTypes (bare_item (item.Function h body)) = item_is p j HasObjectTypes (named_objects p j) (item.Function h body) there in
    subst HaveScalarTypes (variables_bare body.note.mode h body) (one.1 body.note.mode)

setting_scalars : (p : Typed) (j : IsJudged p) (s : Setting) (f : Function) → IsFunction p s f → HaveScalarTypes s.variables
setting_scalars p j s f is =
    subst HaveScalarTypes (sym (ap (λ (r : Setting). r.variables) is.judged ∙ variables_are p is.head is.body)) (function_scalars p j is.head is.body is.there)

-- ---- names

-- Names and members have types of objects, variables and members those of scalars.
pub record AreObjects (globals : Globals) (variables : List Variable) : Type 0 where
  pub names : (n : Name) (t : CType) → type_of_name globals variables n ≡ Some t → is_object_type t ≡ true
  pub locals : (n : Name) (v : Variable) → variable_named variables n ≡ Some v → is_scalar_type v.ctype ≡ true
  pub members : (tag : ℕ) (n : Name) (t : CType) → member_type globals.structs tag n ≡ Some t → is_scalar_type t ≡ true
  pub results : (n : Name) (s : Signature) → signature_named globals n ≡ Some s → IsFine s.result

local_scalar : (vs : List Variable) → HaveScalarTypes vs → (n : Name) (v : Variable) → variable_named vs n ≡ Some v → is_scalar_type v.ctype ≡ true
local_scalar vs g n v e = (found IsScalarVariable (λ (x : Variable). same_name x.name n) vs v g e).0

name_object : (is : List Item) (vs : List Variable) → All HasObjectTypes is → HaveScalarTypes vs → (n : Name) (t : CType) → type_of_name (globals_of is) vs n ≡ Some t → is_object_type t ≡ true
name_object is vs h g n t e = by (variable_named vs n) refl e
  where
    one : (u : CType) → is_object_type u ≡ true → Some u ≡ Some t → is_object_type t ≡ true
    one u k f = let same : u ≡ t = cc in subst (λ x. is_object_type x ≡ true) same k

    object : (o : Option Object) → object_named (globals_of is) n ≡ o → option_map object_type o ≡ Some t → is_object_type t ≡ true
    object None f e = absurd cc
    object (Some o) f e = one (object_type o) (found HasObjectType (λ (x : Object). same_name x.name n) (objects_of is) o (objects_are is h) f).0 e

    by : (v : Option Variable) → variable_named vs n ≡ v → or_variable v (object_named (globals_of is) n) ≡ Some t → is_object_type t ≡ true
    by None f e = object (object_named (globals_of is) n) refl e
    by (Some v) f e = one v.ctype (scalar_parts v.ctype (local_scalar vs g n v f)).1 e

member_scalar : (is : List Item) → All HasObjectTypes is → (tag : ℕ) (n : Name) (t : CType) → member_type (structs_of is) tag n ≡ Some t → is_scalar_type t ≡ true
member_scalar is h tag n t e = by (find (λ (m : MemberShape). is_member_named n m.name) (members_of (structs_of is) tag)) refl e
  where
    by : (o : Option MemberShape) → find (λ (m : MemberShape). is_member_named n m.name) (members_of (structs_of is) tag) ≡ o → option_map (λ (m : MemberShape). m.ctype) o ≡ Some t → is_scalar_type t ≡ true
    by None f e = absurd cc
    by (Some m) f e =
        let same : m.ctype ≡ t = cc in
        subst (λ u. is_scalar_type u ≡ true) same (found IsScalarMember (λ (m : MemberShape). is_member_named n m.name) (members_of (structs_of is) tag) m (members_scalar is tag h) f).0

globals_objects : (is : List Item) (vs : List Variable) → All HasObjectTypes is → HaveScalarTypes vs → AreObjects (globals_of is) vs
globals_objects is vs h g = record {
  names = name_object is vs h g;
  locals = local_scalar vs g;
  members = member_scalar is h;
  results = λ n s e. (found HasResultType (λ (x : Signature). same_name x.name n) (signatures_of is) s (signatures_results is h) e).0;
}

pub names_objects : (p : Typed) (s : Setting) (f : Function) → IsJudged p → IsFunction p s f → AreObjects (globals_in p) s.variables
names_objects p s f j is =
    subst (λ (t : Tree). AreObjects (globals_of t.items) s.variables) (sym (tree_named p j)) (globals_objects j.named.tree.items s.variables (named_objects p j) (setting_scalars p j s f is))

pub names_fine : (p : Typed) (s : Setting) (f : Function) → IsJudged p → IsFunction p s f → AreFine (globals_in p) s.variables
names_fine p s f j is =
    let a = names_objects p s f j is in
    record {
      names = λ n t e. object_fine t (a.names n t e);
      members = λ tag n t e. object_fine t (scalar_parts t (a.members tag n t e)).1;
      results = a.results;
    }
