-- The static objects after the declared ones are those of the string literals of a judged text.
use Rattle.std.proofs.Common.{◌≡◌, refl, sym, ap, subst, ◌∙◌, arith, ℕ, zero, suc, ◌+◌, ◌≤◌, List, [], ◌∷◌, ◌++◌, map, length, length-append, append_assoc}
use Rattle.std.specs.Prelude.{Bool, true, false, if◌then◌else◌, Option, Some, None, slice_get}
use Rattle.std.specs.List.{flat_map}
use Rattle.std.specs.Option.{option_map}
use Rattle.ckc_base.specs.MemoryMap.{data_start}
use Rattle.ckc_types.specs.declared.types.Structs.{Structs}
use Rattle.ckc_syntax.specs.Inside.{listed, inside_if, inside_limits, inside_node, inside_act, inside_item}
use Rattle.ckc_syntax.specs.declared.tree.Name.{Name}
use Rattle.ckc_syntax.specs.declared.tree.Init.{Init}
use Rattle.ckc_syntax.specs.declared.tree.Init.TheVariants as init
use Rattle.ckc_syntax.specs.declared.tree.Item.TheVariants as item
use Rattle.ckc_syntax.specs.declared.tree.Limits.{Limits, Limits-F, fold-Limits}
use Rattle.ckc_syntax.specs.declared.tree.Node.{Node-F}
use Rattle.ckc_syntax.specs.declared.tree.Expr.{Expr, Expr-F, fold-Expr}
use Rattle.ckc_syntax.specs.declared.tree.Act.{Act-F}
use Rattle.ckc_syntax.specs.declared.tree.Stmt.{Stmt-F, fold-Stmt}
use Rattle.ckc_syntax.proofs.Insides.{each_same, if_same}
use Rattle.ckc_typed.specs.declared.typed.Note.{Note}
use Rattle.ckc_typed.specs.declared.typed.StaticObject.{StaticObject}
use Rattle.ckc_typed.specs.declared.typed.Typed.{Typed}
use Rattle.ckc_typed.specs.Declarations.{is_plain}
use Rattle.ckc_typed.specs.Statics.{Strings, node_strings, expr_strings, strings_of_limits, strings_of_expr, strings_of_bounds, strings_of_init, strings_of_decl, act_strings, stmt_strings, strings_of_stmt, strings_of_head, strings_of_item, object_of_string, objects_of_item, blocks, begin_behind, end_of_block, placed}
use Rattle.ckc_typed.specs.Trees.{Decl, Head, Item, Stmt, Tree, NotedDecl, NotedExpr, NotedHead, NotedInit, NotedItem, NotedLimits, NotedStmt}
use Rattle.ckc_typed_welltyped.specs.Noteless.{limits_noteless, node_noteless, bare_limits, bare_expr, bare_init, bare_decl, bare_stmt, bare_head, bare_item}
use Rattle.ckc_typed_welltyped.specs.Texts.{WellTyped}
use Rattle.ckc_typed_welltyped.proofs.Insides.{act_same, item_same}
use Rattle.ckc_typed_welltyped.proofs.Folds.{limits_folds, expr_folds, stmt_folds}
use Rattle.ckc_bounds.specs.Phase.{bounding}
use Rattle.ckc_build_elaborate.specs.Lists.{beside}
use Rattle.ckc_build_elaborate.specs.Objects.{object_elaborated, run_in, count_declared}
use Rattle.ckc_blame_sound.specs.Settings.{setting_of, AreStrings}
use Rattle.ckc_blame_sound.proofs.Bares.{same_tree}
use Rattle.ckc_blame_sound.proofs.Bounded.{is_bounded}
use Rattle.ckc_blame_sound.proofs.Lists.{seam}
use Rattle.ckc_blame_sound.proofs.Slots.{static_types, types_bare}

-- ---- the string literals of a tree without its notes

abbrev bare_node_strings : Node-F Name (Unit {0}) Strings Strings Strings → Strings
bare_node_strings (Node-F.Text bytes) = bytes ∷ []
bare_node_strings n = inside_node listed (λ l. l) (λ e. e) n

abbrev bare_expr_step : Expr-F Name (Unit {0}) Strings Strings Strings → Strings
bare_expr_step e = e.node

abbrev bare_limits_strings : Limits Name (Unit {0}) → Strings
bare_limits_strings = fold-Limits Name (Unit {0}) Strings Strings Strings (inside_limits listed (λ e. e)) bare_node_strings bare_expr_step

abbrev bare_expr_strings : Expr Name (Unit {0}) → Strings
bare_expr_strings = fold-Expr Name (Unit {0}) Strings Strings Strings (inside_limits listed (λ e. e)) bare_node_strings bare_expr_step

abbrev bare_bounds_strings : Option (Limits Name (Unit {0})) → Strings
bare_bounds_strings = inside_if listed bare_limits_strings

abbrev bare_init_strings : Bool → Init Name (Unit {0}) → Strings
bare_init_strings plain init.Nothing = []
bare_init_strings plain (init.One e) = if plain then bare_expr_strings e else []
bare_init_strings plain (init.Many es) = flat_map bare_expr_strings es

abbrev bare_decl_strings : Decl → Strings
bare_decl_strings d = bare_bounds_strings d.bounds ++ bare_init_strings (is_plain d.length) d.init

abbrev bare_act_strings : Act-F Name (Unit {0}) Strings Strings → Strings
bare_act_strings = inside_act listed bare_expr_strings bare_decl_strings (λ s. s)

abbrev bare_stmt_step : Stmt-F Name (Unit {0}) Strings Strings → Strings
bare_stmt_step s = s.body

abbrev bare_stmt_strings : Stmt → Strings
bare_stmt_strings = fold-Stmt Name (Unit {0}) Strings Strings bare_act_strings bare_stmt_step

abbrev bare_head_strings : Head → Strings
bare_head_strings h = flat_map bare_decl_strings h.params ++ bare_bounds_strings h.bounds

abbrev bare_item_strings : Item → Strings
bare_item_strings = inside_item listed bare_decl_strings bare_head_strings bare_stmt_strings

-- ---- they are those of the tree with its notes

limits_agree : (x : Limits-F Name Note Strings Strings Strings) → inside_limits {X = Strings} listed (λ e. e) (limits_noteless x) ≡ inside_limits listed (λ e. e) x
limits_agree (Limits-F.Count e at) = refl
limits_agree _ = refl

nodes_agree : (x : Node-F Name Note Strings Strings Strings) → bare_node_strings (node_noteless x) ≡ node_strings x
nodes_agree (Node-F.Number n u) = refl
nodes_agree _ = refl

of_limits : (l : NotedLimits) → bare_limits_strings (bare_limits l) ≡ strings_of_limits l
of_limits = limits_folds Name Note Strings Strings Strings (inside_limits listed (λ e. e)) node_strings expr_strings (inside_limits listed (λ e. e)) bare_node_strings bare_expr_step limits_agree nodes_agree (λ x. refl)

of_expr : (e : NotedExpr) → bare_expr_strings (bare_expr e) ≡ strings_of_expr e
of_expr = expr_folds Name Note Strings Strings Strings (inside_limits listed (λ e. e)) node_strings expr_strings (inside_limits listed (λ e. e)) bare_node_strings bare_expr_step limits_agree nodes_agree (λ x. refl)

of_bounds : (l : Option NotedLimits) → bare_bounds_strings (option_map bare_limits l) ≡ strings_of_bounds l
of_bounds = if_same listed bare_limits bare_limits_strings strings_of_limits of_limits

of_init : (plain : Bool) (i : NotedInit) → bare_init_strings plain (bare_init i) ≡ strings_of_init plain i
of_init plain init.Nothing = refl
of_init true (init.One e) = of_expr e
of_init false (init.One e) = refl
of_init plain (init.Many es) = each_same listed bare_expr bare_expr_strings strings_of_expr of_expr es

of_decl : (d : NotedDecl) → bare_decl_strings (bare_decl d) ≡ strings_of_decl d
of_decl d =
    ap (λ x. x ++ bare_init_strings (is_plain d.length) (bare_init d.init)) (of_bounds d.bounds)
    ∙ ap (λ x. strings_of_bounds d.bounds ++ x) (of_init (is_plain d.length) d.init)

of_stmt : (s : NotedStmt) → bare_stmt_strings (bare_stmt s) ≡ strings_of_stmt s
of_stmt = stmt_folds Name Note Strings Strings act_strings stmt_strings bare_act_strings bare_stmt_step
    (act_same listed bare_expr_strings bare_decl_strings strings_of_expr strings_of_decl (λ s. s) of_expr of_decl) (λ x. refl)

of_head : (h : NotedHead) → bare_head_strings (bare_head h) ≡ strings_of_head h
of_head h =
    ap (λ x. x ++ bare_bounds_strings (option_map bare_limits h.bounds)) (each_same listed bare_decl bare_decl_strings strings_of_decl of_decl h.params)
    ∙ ap (λ x. flat_map strings_of_decl h.params ++ x) (of_bounds h.bounds)

of_item : (i : NotedItem) → bare_item_strings (bare_item i) ≡ strings_of_item i
of_item = item_same listed bare_decl_strings bare_head_strings bare_stmt_strings strings_of_decl strings_of_head strings_of_stmt of_decl of_head of_stmt

of_items : (is : List NotedItem) → flat_map bare_item_strings (map bare_item is) ≡ flat_map strings_of_item is
of_items = each_same listed bare_item bare_item_strings strings_of_item of_item

-- ---- how many objects are declared

runs_counted : (is : List NotedItem) → count_declared is ≡ length (static_types is)
runs_counted [] = refl
runs_counted (item.Static d ∷ is) = ap suc (runs_counted is)
runs_counted (item.Directive d ∷ is) = runs_counted is
runs_counted (item.Tag n at ∷ is) = runs_counted is
runs_counted (item.Struct n ms at ∷ is) = runs_counted is
runs_counted (item.Proto g ∷ is) = runs_counted is
runs_counted (item.Function g body ∷ is) = runs_counted is

objects_counted : (structs : Structs) (is : List NotedItem) → length (flat_map (objects_of_item structs) is) ≡ length (static_types is)
objects_counted structs [] = refl
objects_counted structs (item.Static d ∷ is) = ap suc (objects_counted structs is)
objects_counted structs (item.Directive d ∷ is) = objects_counted structs is
objects_counted structs (item.Tag n at ∷ is) = objects_counted structs is
objects_counted structs (item.Struct n ms at ∷ is) = objects_counted structs is
objects_counted structs (item.Proto g ∷ is) = objects_counted structs is
objects_counted structs (item.Function g body ∷ is) = objects_counted structs is

-- ---- the objects at their places

record IsMade (os : List StaticObject) (bytes : List ℕ) (k : ℕ) : Type 0 where
  pub object : StaticObject
  pub there : slice_get os k ≡ Some object
  pub made : object ≡ record (object_of_string bytes) { at = object.at }

abbrev AreMade : List StaticObject → ℕ → Strings → Type 0
AreMade os k [] = Unit {0}
AreMade os k (bytes ∷ more) = IsMade os bytes k × AreMade os (k + 1) more

module _ (structs : Structs) where
  strings_made : (front : List StaticObject) (end : ℕ) (bs : Strings) → AreMade (front ++ placed structs end (map object_of_string bs)) (length front) bs
  strings_made front end [] = tt
  strings_made front end (b ∷ bs) =
      let o : StaticObject = record (object_of_string b) { at = begin_behind end } in
      let rest : List StaticObject = placed structs (end_of_block structs end (object_of_string b)) (map object_of_string bs) in
      let more : AreMade ((front ++ o ∷ []) ++ rest) (length (front ++ o ∷ [])) bs = strings_made (front ++ o ∷ []) (end_of_block structs end (object_of_string b)) bs in (
        record { object = o; there = seam front o rest; made = refl },
        subst (λ k. AreMade (front ++ o ∷ rest) k bs) (length-append front (o ∷ [])) (subst (λ os. AreMade os (length (front ++ o ∷ [])) bs) (append_assoc front (o ∷ []) rest) more),
      )

  all_made : (front : List StaticObject) (end : ℕ) (ds : List StaticObject) (bs : Strings) → AreMade (front ++ placed structs end (ds ++ map object_of_string bs)) (length front + length ds) bs
  all_made front end [] bs = subst (λ k. AreMade (front ++ placed structs end (map object_of_string bs)) k bs) (omega arith) (strings_made front end bs)
  all_made front end (d ∷ ds) bs =
      let o : StaticObject = record d { at = begin_behind end } in
      let rest : List StaticObject = placed structs (end_of_block structs end d) (ds ++ map object_of_string bs) in
      let more : AreMade ((front ++ o ∷ []) ++ rest) (length (front ++ o ∷ []) + length ds) bs = all_made (front ++ o ∷ []) (end_of_block structs end d) ds bs in
      subst (λ k. AreMade (front ++ o ∷ rest) k bs) (omega (arith, length-append front (o ∷ [])))
      (subst (λ os. AreMade os (length (front ++ o ∷ []) + length ds) bs) (append_assoc front (o ∷ []) rest) more)

-- the object of a string literal has no declaration beside it
beside_after : {A B C : Type 0} (f : Option A → B → C) (xs : List A) (ys : List B) (k : ℕ) (y : B) → length xs ≤ k → slice_get ys k ≡ Some y → slice_get (beside f xs ys) k ≡ Some (f None y)
beside_after f xs [] k y less e = absurd cc
beside_after f [] (z ∷ ys) zero y less e = let same : z ≡ y = cc in ap (λ w. Some (f None w)) same
beside_after f [] (z ∷ ys) (suc k) y less e = beside_after f [] ys k y (omega arith) e
beside_after f (x ∷ xs) (z ∷ ys) zero y less e = absurd (omega arith)
beside_after f (x ∷ xs) (z ∷ ys) (suc k) y less e = beside_after f xs ys k y (omega arith) e

setting_strings : (p : Typed) (h : NotedHead) (body : NotedStmt) (k : ℕ) (bs : Strings) → count_declared p.tree.items ≤ k → AreMade p.statics k bs → AreStrings (setting_of p h body) k bs
unfolding setting_of
setting_strings p h body k [] less m = tt
setting_strings p h body k (b ∷ bs) less m = (
  record {
    object = m.0.object;
    there = m.0.there;
    judged = m.0.there;
    free = beside_after (object_elaborated p.layout) (flat_map run_in p.tree.items) p.statics k m.0.object less m.0.there;
    made = m.0.made;
  },
  setting_strings p h body (k + 1) bs (omega (arith, less)) m.1,
)

-- ---- texts

-- a judged text has the string literals of the text before it was judged, and declares as many objects
pub strings_kept : (q p : Typed) → bounding.Makes q p → flat_map strings_of_item p.tree.items ≡ flat_map strings_of_item q.tree.items
strings_kept q p makes = sym (of_items p.tree.items) ∙ ap (λ (t : Tree). flat_map bare_item_strings t.items) (same_tree q p makes) ∙ of_items q.tree.items

declared_kept : (q p : Typed) → bounding.Makes q p → count_declared p.tree.items ≡ length (flat_map (objects_of_item q.layout) q.tree.items)
declared_kept q p makes =
    runs_counted p.tree.items ∙ ap (λ ts. length ts) (sym (types_bare p.tree.items))
    ∙ ap (λ (t : Tree). length (static_types t.items)) (same_tree q p makes)
    ∙ ap (λ ts. length ts) (types_bare q.tree.items) ∙ sym (objects_counted q.layout q.tree.items)

from_zero : (n : ℕ) → 0 + n ≡ n
from_zero n = omega arith

pub text_strings : (q p : Typed) (h : NotedHead) (body : NotedStmt) → WellTyped q → bounding.Makes q p → AreStrings (setting_of p h body) (count_declared p.tree.items) (flat_map strings_of_item p.tree.items)
text_strings q p h body typed makes =
    let ds : List StaticObject = flat_map (objects_of_item q.layout) q.tree.items in
    let bs : Strings = flat_map strings_of_item q.tree.items in
    let made : AreMade (placed q.layout data_start (blocks q.layout q.tree.items)) (length ds) bs = subst (λ k. AreMade (placed q.layout data_start (blocks q.layout q.tree.items)) k bs) (from_zero (length ds)) (all_made q.layout [] data_start ds bs) in
    let there : AreMade p.statics (length ds) bs = subst (λ os. AreMade os (length ds) bs) (sym ((is_bounded q p makes).statics ∙ typed.statics)) made in
    setting_strings p h body (count_declared p.tree.items) (flat_map strings_of_item p.tree.items) (omega arith)
    (subst (λ k. AreMade p.statics k (flat_map strings_of_item p.tree.items)) (sym (declared_kept q p makes))
    (subst (AreMade p.statics (length ds)) (sym (strings_kept q p makes)) there))
