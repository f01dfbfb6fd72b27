-- Each structure in the types that a judged text declares has a size, since each tag that a type names has a body.
use Rattle.std.proofs.Common.{◌≡◌, ◌∙◌, ⊎_elim, sym, ap, subst, refl, rules, ℕ, ◌<◌, Bool, true, List, [], ◌∷◌, ◌++◌, map}
use Rattle.std.specs.Prelude.{All, find, Option, Some, None}
use Rattle.std.specs.List.{flat_map, list_all}
use Rattle.std.specs.Option.{option_map}
use Rattle.std.proofs.lemmas.Bool.{lt-ltb}
use Rattle.std.proofs.lemmas.List.Elements.{All-nil, All-cons, All-append, All-head, All-tail}
use Rattle.ckc_base.specs.declared.arithmetic.Mode.{Mode}
use Rattle.ckc_types.specs.declared.types.CType.{CType, CType-F, out-CType, map-CType, fold_out-CType, the_lemmas}
use Rattle.ckc_types.specs.declared.types.CType.TheVariants as ctype
use Rattle.ckc_types.specs.declared.types.Kind.{Kind}
use Rattle.ckc_types.specs.declared.types.Kind.TheVariants as kind
use Rattle.ckc_types.specs.declared.types.MemberShape.{MemberShape}
use Rattle.ckc_types.specs.declared.types.Structs.{Structs}
use Rattle.ckc_types.specs.Layout.{members_of}
use Rattle.ckc_syntax.specs.Inside.{listed, inside_each, inside_if}
use Rattle.ckc_syntax.specs.declared.tree.Name.{Name}
use Rattle.ckc_syntax.specs.declared.tree.Name.TheVariants as name
use Rattle.ckc_syntax.specs.declared.tree.Item.TheVariants as item
use Rattle.ckc_syntax.specs.declared.tree.TypeTree.{TypeTree-F, map-TypeTree, ind-TypeTree, roll-TypeTree, fold-roll-TypeTree}
use Rattle.ckc_syntax.specs.declared.tree.Act.{Act-F, map-Act, roll-Act, fold-roll-Act}
use Rattle.ckc_syntax.specs.declared.tree.Stmt.{Stmt-F, map-Stmt, ind-Stmt, roll-Stmt, fold-roll-Stmt}
use Rattle.ckc_typed.specs.declared.environment.Object.{Object}
use Rattle.ckc_typed.specs.declared.environment.Signature.{Signature}
use Rattle.ckc_typed.specs.declared.environment.Variable.{Variable}
use Rattle.ckc_typed.specs.Environment.{getchar, putchar, is_member_named, kind_of_array, object_named, object_type, objects_of, object_declared, or_variable, member_type, same_name, signature_named, signatures_of, signatures_of_item, type_of_name, used, variable_declared, variable_named, params_of, variables_of, locals_of, locals_of_act, act_variables, stmt_variables}
use Rattle.ckc_typed.specs.Interfaces.{seen, seen_params}
use Rattle.ckc_typed.specs.Layouts.{members_declared, members_in_item, bare_structs, structs_of}
use Rattle.ckc_typed.specs.Texts.{globals_of}
use Rattle.ckc_typed.specs.Trees.{Decl, Item, TypeTree}
use Rattle.ckc_typed.specs.Types.{type_written, written_parts}
use Rattle.ckc_resolve.specs.Trees.{NamedAct, NamedStmt, NamedExpr}
use Rattle.ckc_typed_fit.specs.Tests.{Tests, Walked, type_parts, type_passes, decl_passes, decls_pass, head_passes, item_passes, pass_in_turn, act_walked, stmt_walked, walked_act, walked, value_passes, names_declared}
use Rattle.ckc_blame_steps.specs.ckc_bounds_known.proofs.Reaching.{and_cases}
use Rattle.ckc_blame_steps.specs.ckc_blame_sound.proofs.Lists.{found}
use Rattle.ckc_blame_steps.specs.ckc_blame_sound.proofs.Members.{members_are}
use Rattle.ckc_blame_steps.specs.ckc_blame_sound.proofs.Seen.{seen_written}
use Rattle.ckc_blame_steps.proofs.SmallNames.{members_have, members_of_item, shapes_have}
use Rattle.ckc_blame_steps.specs.ckc_blame_walk.proofs.Sized.{tag_tests}
use Rattle.ckc_blame_steps.specs.ckc_blame_walk.proofs.Sizes.{HasMembers, sized, tag_sized}
use Rattle.ckc_build_forms.proofs.SoundTypes.{parts_tagged, tagged, tagged_pointer, int_out, unsigned_out, char_out, void_out}

module _ (js : List Item) (members : All HasMembers js) where
  abbrev structs : Structs
  structs = structs_of js

  abbrev tests : Tests
  tests = tag_tests js

  abbrev pub IsTagged : CType → Type 0
  IsTagged t = tagged structs t ≡ true

  -- ---- types

  tagged_out : (t : CType) → tagged structs t ≡ parts_tagged structs (map-CType CType Bool (tagged structs) (out-CType t))
  tagged_out t = fold_out-CType Bool (parts_tagged structs) t

  by_out : (t : CType) (x : CType-F CType) → out-CType t ≡ x → parts_tagged structs (map-CType CType Bool (tagged structs) x) ≡ true → IsTagged t
  by_out t x e h = tagged_out t ∙ ap (λ z. parts_tagged structs (map-CType CType Bool (tagged structs) z)) e ∙ h

  struct_out : (tag : ℕ) → out-CType (ctype.Struct tag) ≡ CType-F.Struct tag
  struct_out tag = search (rules, the_lemmas)

  int_tagged : IsTagged ctype.Int
  int_tagged = by_out ctype.Int CType-F.Int int_out refl

  void_tagged : IsTagged ctype.Void
  void_tagged = by_out ctype.Void CType-F.Void void_out refl

  abbrev TypeTagged : TypeTree → Type 0
  TypeTagged w = type_passes tests w ≡ true → IsTagged (type_written w)

  abbrev KeptType : Type 0
  KeptType = (w : TypeTree) × TypeTagged w

  abbrev inner : TypeTree-F Name KeptType → TypeTree-F Name TypeTree
  inner = map-TypeTree Name KeptType TypeTree (λ w. w.0)

  abbrev passes_in : TypeTree-F Name TypeTree → TypeTree-F Name Bool
  passes_in = map-TypeTree Name TypeTree Bool (type_passes tests)

  abbrev written_in : TypeTree-F Name TypeTree → TypeTree-F Name CType
  written_in = map-TypeTree Name TypeTree CType type_written

  type_step : (y : TypeTree-F Name KeptType) → type_parts tests (passes_in (inner y)) ≡ true → IsTagged (written_parts (written_in (inner y)))
  type_step TypeTree-F.Int h = int_tagged
  type_step TypeTree-F.Unsigned h = by_out ctype.Unsigned CType-F.Unsigned unsigned_out refl
  type_step TypeTree-F.Char h = by_out ctype.Char CType-F.Char char_out refl
  type_step TypeTree-F.Void h = void_tagged
  type_step (TypeTree-F.Struct (name.Tag m) at) h =
      let size : 0 < sized structs (CType-F.Struct m) = tag_sized js m members h in
      by_out (ctype.Struct m) (CType-F.Struct m) (struct_out m) (lt-ltb 0 (sized structs (CType-F.Struct m)) size)
  type_step (TypeTree-F.Struct n at) h = void_tagged
  type_step (TypeTree-F.Raw w at) h = tagged_pointer structs kind.Raw (type_written w.0) ∙ w.1 h
  type_step (TypeTree-F.One w) h = tagged_pointer structs kind.One (type_written w.0) ∙ w.1 h
  type_step (TypeTree-F.Arr w) h = tagged_pointer structs kind.Arr (type_written w.0) ∙ w.1 h
  type_step (TypeTree-F.Nt w) h = tagged_pointer structs kind.Nt (type_written w.0) ∙ w.1 h

  type_by : (x : TypeTree-F Name TypeTree) (y : TypeTree-F Name KeptType) → inner y ≡ x → TypeTagged (roll-TypeTree Name x)
  type_by x y is h =
      subst IsTagged (sym (fold-roll-TypeTree Name CType written_parts x))
      (subst (λ z. type_parts tests (passes_in z) ≡ true → IsTagged (written_parts (written_in z))) is (type_step y)
      (sym (fold-roll-TypeTree Name Bool (type_parts tests) x) ∙ h))

  -- a type whose tags have bodies
  pub type_tagged : (w : TypeTree) → type_passes tests w ≡ true → IsTagged (type_written w)
  type_tagged = ind-TypeTree Name TypeTagged type_by

  -- ---- declarations

  abbrev DeclTagged : Decl → Type 0
  DeclTagged d = IsTagged (type_written d.ctype)

  decl_tagged : (within outside : List Name) (d : Decl) → decl_passes tests within outside d ≡ true → DeclTagged d
  decl_tagged within outside d h = type_tagged d.ctype (and_cases (type_passes tests d.ctype) _ h).0

  decls_tagged : (within outside : List Name) (ds : List Decl) → list_all (decl_passes tests within outside) ds ≡ true → All DeclTagged ds
  decls_tagged within outside [] h = All-nil DeclTagged
  decls_tagged within outside (d ∷ ds) h =
      let p = and_cases (decl_passes tests within outside d) _ h in
      All-cons DeclTagged d ds (decl_tagged within outside d p.0) (decls_tagged within outside ds p.1)

  abbrev VariableTagged : Variable → Type 0
  VariableTagged v = IsTagged v.ctype

  abbrev pub VariablesTagged : List Variable → Type 0
  VariablesTagged vs = All VariableTagged vs

  no_variables : VariablesTagged []
  no_variables = All-nil VariableTagged

  joined : (vs ws : List Variable) → VariablesTagged vs → VariablesTagged ws → VariablesTagged (vs ++ ws)
  joined vs ws h g = All-append VariableTagged vs ws h g

  -- ---- statements

  abbrev A : Type 0
  A = Unit {0}

  abbrev Layer : Type 0
  Layer = Act-F Name A NamedAct NamedStmt

  record ActTagged (a : NamedAct) : Type 0 where
    tags : (visible : List Name) → (walked_act tests a).passes visible ≡ true → VariablesTagged (locals_of_act a)

  record StmtTagged (s : NamedStmt) : Type 0 where
    tags : (visible : List Name) → (walked tests s).passes visible ≡ true → VariablesTagged (locals_of s)

  abbrev KeptAct : Type 0
  KeptAct = (a : NamedAct) × ActTagged a

  abbrev KeptStmt : Type 0
  KeptStmt = (s : NamedStmt) × StmtTagged s

  abbrev inner_act : Act-F Name A KeptAct KeptStmt → Layer
  inner_act = map-Act Name A KeptAct KeptStmt NamedAct NamedStmt (λ e. e.0) (λ e. e.0)

  abbrev inner_stmt : Stmt-F Name A KeptAct KeptStmt → Stmt-F Name A NamedAct NamedStmt
  inner_stmt = map-Stmt Name A KeptAct KeptStmt NamedAct NamedStmt (λ e. e.0) (λ e. e.0)

  abbrev walks_in : Layer → Act-F Name A Walked Walked
  walks_in = map-Act Name A NamedAct NamedStmt Walked Walked (walked_act tests) (walked tests)

  abbrev variables_in : Layer → Act-F Name A (List Variable) (List Variable)
  variables_in = map-Act Name A NamedAct NamedStmt (List Variable) (List Variable) locals_of_act locals_of

  abbrev firsts : List KeptStmt → List NamedStmt
  firsts ks = map (λ (k : KeptStmt). k.0) ks

  each : (ks : List KeptStmt) (visible : List Name) → pass_in_turn (map (walked tests) (firsts ks)) visible ≡ true
      → VariablesTagged (inside_each listed (λ vs. vs) (map (λ (s : NamedStmt). locals_of s) (firsts ks)))
  each [] visible h = no_variables
  each (k ∷ ks) visible h =
      let p = and_cases ((walked tests k.0).passes visible) _ h in
      joined (locals_of k.0) _ (k.1.tags visible p.0) (each ks (visible ++ (walked tests k.0).leaves) p.1)

  silent : (e : Option NamedExpr) → VariablesTagged (inside_if listed (λ (f : NamedExpr). []) e)
  silent None = no_variables
  silent (Some e) = no_variables

  in_for : (e : Option NamedExpr) (vs us ws : List Variable) → VariablesTagged vs → VariablesTagged us → VariablesTagged ws
      → VariablesTagged (((vs ++ inside_if listed (λ (f : NamedExpr). []) e) ++ us) ++ ws)
  in_for e vs us ws f g h =
      let one = joined vs (inside_if listed (λ (f : NamedExpr). []) e) f (silent e) in
      joined ((vs ++ inside_if listed (λ (f : NamedExpr). []) e) ++ us) ws (joined (vs ++ inside_if listed (λ (f : NamedExpr). []) e) us one g) h

  act_step : (y : Act-F Name A KeptAct KeptStmt) (visible : List Name) → (act_walked tests (walks_in (inner_act y))).passes visible ≡ true
      → VariablesTagged (act_variables (variables_in (inner_act y)))
  act_step (Act-F.Block m ks) visible h = each ks visible h
  act_step Act-F.Empty visible h = no_variables
  act_step (Act-F.Local d) visible h = All-cons VariableTagged (variable_declared d) [] (decl_tagged (visible ++ d.name ∷ []) visible d h) no_variables
  act_step (Act-F.Assign e f) visible h = no_variables
  act_step (Act-F.Call e) visible h = no_variables
  act_step (Act-F.If e k None) visible h =
      let p = and_cases _ _ h in let q = and_cases ((walked tests k.0).passes visible) true p.1 in joined (locals_of k.0) [] (k.1.tags visible q.0) no_variables
  act_step (Act-F.If e k (Some l)) visible h =
      let p = and_cases _ _ h in
      let q = and_cases ((walked tests k.0).passes visible) _ p.1 in
      joined (locals_of k.0) (locals_of l.0) (k.1.tags visible q.0) (l.1.tags (visible ++ (walked tests k.0).leaves) q.1)
  act_step (Act-F.While e k) visible h = let p = and_cases _ ((walked tests k.0).passes visible) h in k.1.tags visible p.1
  act_step (Act-F.For None e None k) visible h =
      let p = and_cases true _ h in let q = and_cases (value_passes tests (visible ++ []) e) _ p.1 in let r = and_cases ((walked tests k.0).passes (visible ++ [])) _ q.1 in
      in_for e [] [] (locals_of k.0) no_variables no_variables (k.1.tags (visible ++ []) r.0)
  act_step (Act-F.For None e (Some m) k) visible h =
      let p = and_cases true _ h in let q = and_cases (value_passes tests (visible ++ []) e) _ p.1 in let r = and_cases ((walked tests k.0).passes (visible ++ [])) _ q.1 in
      in_for e [] (locals_of m.0) (locals_of k.0) no_variables (m.1.tags _ r.1) (k.1.tags (visible ++ []) r.0)
  act_step (Act-F.For (Some l) e None k) visible h =
      let more = visible ++ (walked tests l.0).leaves in
      let p = and_cases ((walked tests l.0).passes visible) _ h in let q = and_cases (value_passes tests more e) _ p.1 in let r = and_cases ((walked tests k.0).passes more) _ q.1 in
      in_for e (locals_of l.0) [] (locals_of k.0) (l.1.tags visible p.0) no_variables (k.1.tags more r.0)
  act_step (Act-F.For (Some l) e (Some m) k) visible h =
      let more = visible ++ (walked tests l.0).leaves in
      let p = and_cases ((walked tests l.0).passes visible) _ h in let q = and_cases (value_passes tests more e) _ p.1 in let r = and_cases ((walked tests k.0).passes more) _ q.1 in
      in_for e (locals_of l.0) (locals_of m.0) (locals_of k.0) (l.1.tags visible p.0) (m.1.tags _ r.1) (k.1.tags more r.0)
  act_step (Act-F.Return e) visible h = silent e
  act_step Act-F.Break visible h = no_variables
  act_step Act-F.Continue visible h = no_variables
  act_step (Act-F.Check e) visible h = no_variables
  act_step (Act-F.Bundle ks) visible h = each ks visible h

  act_by : (x : Layer) (y : Act-F Name A KeptAct KeptStmt) → inner_act y ≡ x → ActTagged (roll-Act Name A x)
  act_by x y is = record {
    tags = λ visible h.
        subst VariablesTagged (ap (λ z. act_variables (variables_in z)) is ∙ sym (fold-roll-Act Name A (List Variable) (List Variable) act_variables stmt_variables x))
        (act_step y visible (ap (λ z. (act_walked tests (walks_in z)).passes visible) is
        ∙ sym (ap (λ (w : Walked). w.passes visible) (fold-roll-Act Name A Walked Walked (act_walked tests) stmt_walked x)) ∙ h));
  }

  stmt_is : (s : NamedStmt) → ActTagged s.body → StmtTagged s
  stmt_is s k =
      let S : Stmt-F Name A NamedAct NamedStmt = record { body = s.body; pos = s.pos; note = s.note } in
      record {
        tags = λ visible h.
            subst VariablesTagged (sym (fold-roll-Stmt Name A (List Variable) (List Variable) act_variables stmt_variables S))
            (k.tags visible (sym (ap (λ (w : Walked). w.passes visible) (fold-roll-Stmt Name A Walked Walked (act_walked tests) stmt_walked S)) ∙ h));
      }

  stmt_by : (x : Stmt-F Name A NamedAct NamedStmt) (y : Stmt-F Name A KeptAct KeptStmt) → inner_stmt y ≡ x → StmtTagged (roll-Stmt Name A x)
  stmt_by x y is = subst (λ z. StmtTagged (roll-Stmt Name A z)) is (stmt_is (roll-Stmt Name A (inner_stmt y)) y.body.1)

  statement_tagged : (s : NamedStmt) (visible : List Name) → (walked tests s).passes visible ≡ true → VariablesTagged (locals_of s)
  statement_tagged s visible h = (ind-Stmt Name A ActTagged StmtTagged act_by stmt_by s).tags visible h

  -- ---- items

  params_tagged : (ds : List Decl) → All DeclTagged ds → VariablesTagged (map (λ (d : Decl). variable_declared d) ds)
  params_tagged [] h = no_variables
  params_tagged (d ∷ ds) h =
      All-cons VariableTagged (variable_declared d) (map (λ (d : Decl). variable_declared d) ds) (All-head DeclTagged d ds h) (params_tagged ds (All-tail DeclTagged d ds h))

  -- a parameter has such a type as each body sees it
  seen_tagged : (mode : Mode) (d : Decl) → DeclTagged d → DeclTagged (seen mode d)
  seen_tagged mode d h = ⊎_elim
      (λ e. subst IsTagged (sym e) h)
      (λ w. subst IsTagged (sym w.2) (tagged_pointer structs kind.Arr w.0 ∙ sym (tagged_pointer structs kind.Raw w.0) ∙ subst IsTagged w.1 h))
      (seen_written mode d)

  all_seen : (mode : Mode) (ds : List Decl) → All DeclTagged ds → All DeclTagged (map (seen mode) ds)
  all_seen mode [] h = All-nil DeclTagged
  all_seen mode (d ∷ ds) h =
      All-cons DeclTagged (seen mode d) (map (seen mode) ds) (seen_tagged mode d (All-head DeclTagged d ds h)) (all_seen mode ds (All-tail DeclTagged d ds h))

  abbrev pub HasTags : Item → Type 0
  HasTags (item.Struct n ms at) = All DeclTagged ms
  HasTags (item.Static d) = DeclTagged d
  HasTags (item.Function h body) = IsTagged (type_written h.result) × ((mode : Mode) → VariablesTagged (variables_of mode h body))
  HasTags i = Unit {0}

  item_tagged : (i : Item) → item_passes tests i ≡ true → HasTags i
  item_tagged (item.Struct n ms at) h = decls_tagged (names_declared ms) (names_declared ms) ms h
  item_tagged (item.Static d) h = decl_tagged [] [] d h
  item_tagged (item.Function h body) e =
      let p = and_cases (head_passes tests h) _ e in
      let q = and_cases (type_passes tests h.result) _ p.0 in
      let r = and_cases (decls_pass tests h.params) _ q.1 in (
        type_tagged h.result q.0,
        λ mode. joined (params_of mode h) (locals_of body)
            (params_tagged (seen_params mode h) (all_seen mode h.params (decls_tagged (names_declared h.params) (names_declared h.params) h.params r.0)))
            (statement_tagged body _ p.1),
      )
  item_tagged (item.Directive d) h = tt
  item_tagged (item.Tag n at) h = tt
  item_tagged (item.Proto g) h = tt

  pub items_tagged : (is : List Item) → list_all (item_passes tests) is ≡ true → All HasTags is
  items_tagged [] h = All-nil HasTags
  items_tagged (i ∷ is) h = let p = and_cases (item_passes tests i) _ h in All-cons HasTags i is (item_tagged i p.0) (items_tagged is p.1)

  -- ---- what they declare

  abbrev ObjectTagged : Object → Type 0
  ObjectTagged o = IsTagged (object_type o)

  used_tagged : (k : Option Kind) (t : CType) → IsTagged t → IsTagged (used t k)
  used_tagged None t h = h
  used_tagged (Some k) t h = tagged_pointer structs k t ∙ h

  objects_are : (is : List Item) → All HasTags is → All ObjectTagged (objects_of is)
  objects_are [] h = All-nil ObjectTagged
  objects_are (item.Static d ∷ is) h =
      All-cons ObjectTagged (object_declared d) (objects_of is) (used_tagged (kind_of_array d.length) (type_written d.ctype) (All-head HasTags (item.Static d) is h)) (objects_are is (All-tail HasTags (item.Static d) is h))
  objects_are (item.Directive d ∷ is) h = objects_are is (All-tail HasTags (item.Directive d) is h)
  objects_are (item.Tag n at ∷ is) h = objects_are is (All-tail HasTags (item.Tag n at) is h)
  objects_are (item.Struct n ms at ∷ is) h = objects_are is (All-tail HasTags (item.Struct n ms at) is h)
  objects_are (item.Proto g ∷ is) h = objects_are is (All-tail HasTags (item.Proto g) is h)
  objects_are (item.Function g body ∷ is) h = objects_are is (All-tail HasTags (item.Function g body) is h)

  abbrev ResultTagged : Signature → Type 0
  ResultTagged s = IsTagged s.result

  functions_are : (is : List Item) → All HasTags is → All ResultTagged (flat_map (λ (i : Item). signatures_of_item i) is)
  functions_are [] h = All-nil ResultTagged
  functions_are (item.Function g body ∷ is) h =
      All-cons ResultTagged _ (flat_map (λ (i : Item). signatures_of_item i) is) (All-head HasTags (item.Function g body) is h).0 (functions_are is (All-tail HasTags (item.Function g body) is h))
  functions_are (item.Static d ∷ is) h = functions_are is (All-tail HasTags (item.Static d) is h)
  functions_are (item.Directive d ∷ is) h = functions_are is (All-tail HasTags (item.Directive d) is h)
  functions_are (item.Tag n at ∷ is) h = functions_are is (All-tail HasTags (item.Tag n at) is h)
  functions_are (item.Struct n ms at ∷ is) h = functions_are is (All-tail HasTags (item.Struct n ms at) is h)
  functions_are (item.Proto g ∷ is) h = functions_are is (All-tail HasTags (item.Proto g) is h)

  signatures_are : (is : List Item) → All HasTags is → All ResultTagged (signatures_of is)
  signatures_are is h =
      All-cons ResultTagged getchar (putchar ∷ flat_map (λ (i : Item). signatures_of_item i) is) int_tagged
      (All-cons ResultTagged putchar (flat_map (λ (i : Item). signatures_of_item i) is) int_tagged (functions_are is h))

  pub results_tagged : (is : List Item) → All HasTags is → (n : Name) (s : Signature) → signature_named (globals_of is) n ≡ Some s → IsTagged s.result
  results_tagged is h n s e = (found ResultTagged (λ (x : Signature). same_name x.name n) (signatures_of is) s (signatures_are is h) e).0

  pub names_tagged : (is : List Item) (vs : List Variable) → All HasTags is → VariablesTagged vs → (n : Name) (t : CType) → type_of_name (globals_of is) vs n ≡ Some t → IsTagged t
  names_tagged is vs h g n t e = by (variable_named vs n) refl e
    where
      one : (u : CType) → IsTagged u → Some u ≡ Some t → IsTagged t
      one u k f = let same : u ≡ t = cc in subst IsTagged same k

      object : (o : Option Object) → object_named (globals_of is) n ≡ o → option_map object_type o ≡ Some t → IsTagged t
      object None f e = absurd cc
      object (Some o) f e = one (object_type o) (found ObjectTagged (λ (x : Object). same_name x.name n) (objects_of is) o (objects_are is h) f).0 e

      by : (v : Option Variable) → variable_named vs n ≡ v → or_variable v (object_named (globals_of is) n) ≡ Some t → IsTagged t
      by None f e = object (object_named (globals_of is) n) refl e
      by (Some v) f e = one v.ctype (found VariableTagged (λ (x : Variable). same_name x.name n) vs v g f).0 e

  abbrev MemberTagged : MemberShape → Type 0
  MemberTagged m = IsTagged m.ctype

  in_item : (n : Name) (ds : List Decl) (i : Item) → HasTags i → members_in_item n i ≡ Some ds → All DeclTagged ds
  in_item n ds (item.Struct m ms at) h e = members_of_item DeclTagged m n ms ds h e
  in_item n ds (item.Directive d) h e = absurd cc
  in_item n ds (item.Tag m at) h e = absurd cc
  in_item n ds (item.Static d) h e = absurd cc
  in_item n ds (item.Proto g) h e = absurd cc
  in_item n ds (item.Function g body) h e = absurd cc

  members_tagged : (is : List Item) (tag : ℕ) → All HasTags is → All MemberTagged (members_of (structs_of is) tag)
  members_tagged is tag h =
      members_are is tag (λ ms. All MemberTagged ms) (All-nil MemberTagged)
      (shapes_have (bare_structs is) DeclTagged MemberTagged (λ d k. k) (members_declared is (name.Tag tag)) (members_have DeclTagged HasTags in_item is (name.Tag tag) h))

  pub member_tagged : (is : List Item) → All HasTags is → (tag : ℕ) (n : Name) (t : CType) → member_type (structs_of is) tag n ≡ Some t → IsTagged t
  member_tagged is h tag n t e = by (find (λ (m : MemberShape). is_member_named n m.name) (members_of (structs_of is) tag)) refl e
    where
      by : (o : Option MemberShape) → find (λ (m : MemberShape). is_member_named n m.name) (members_of (structs_of is) tag) ≡ o → option_map (λ (m : MemberShape). m.ctype) o ≡ Some t → IsTagged t
      by None f e = absurd cc
      by (Some m) f e =
          let same : m.ctype ≡ t = cc in
          subst IsTagged same (found MemberTagged (λ (m : MemberShape). is_member_named n m.name) (members_of (structs_of is) tag) m (members_tagged is tag h) f).0
