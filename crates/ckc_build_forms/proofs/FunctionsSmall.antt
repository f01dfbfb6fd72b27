-- The program of a judged text that keeps the limits of a text keeps those of a program: its functions are few, each has
-- few locals and few nodes, and `main` is there without parameters.
use Rattle.std.proofs.Common.{◌∙◌, sym, ap, subst, arith, ℕ, ◌+◌, ◌≤◌, List, [], ◌∷◌, length, length-append}
use Rattle.std.specs.Prelude.{All, slice_get}
use Rattle.std.specs.List.{Contains, flat_map}
use Rattle.std.proofs.lemmas.List.{length-map}
use Rattle.std.proofs.lemmas.List.Elements.{All-nil, All-cons, All-head, All-tail, All-append, All-contains_itself}
use Rattle.ckc_syntax.specs.declared.tree.Name.TheVariants as name
use Rattle.ckc_syntax.specs.declared.tree.Item.TheVariants as item
use Rattle.ckc_syntax_limits.specs.Marks.{is_function, marks_of_stmt, marks_of_item, marks_of}
use Rattle.ckc_syntax_limits.specs.Small.{Small}
use Rattle.ckc_typed.specs.declared.typed.Typed.{Typed}
use Rattle.ckc_typed.specs.Environment.{variable_declared, locals_of, params_of, variables_of}
use Rattle.ckc_typed.specs.Interfaces.{seen, seen_params}
use Rattle.ckc_typed.specs.Trees.{NotedDecl, NotedHead, NotedStmt, NotedItem, Tree}
use Rattle.ckc_typed.specs.Types.{type_written}
use Rattle.ckc_typed_welltyped.proofs.MarksKept as kept
use Rattle.ckc_source.specs.Code.{Function}
use Rattle.ckc_checks_operands.specs.Compilable.{code_nodes, HasParams}
use Rattle.ckc_build_elaborate.specs.Functions.{literals_of_head, literals_of_item, function_elaborated, functions_in, functions_elaborated}
use Rattle.ckc_build_elaborate.specs.Lists.{numbered}
use Rattle.ckc_build_elaborate.specs.Names.{number_of}
use Rattle.ckc_build_elaborate.specs.Objects.{count_declared}
use Rattle.ckc_build_sizes.proofs.Marked.{is_marked}
use Rattle.ckc_blame_steps.specs.ckc_blame_sound.specs.JudgedTexts.{IsJudged}
use Rattle.ckc_blame_steps.specs.ckc_blame_sound.proofs.Functions.{tree_named}
use Rattle.ckc_blame_steps.specs.ckc_blame_sound.proofs.Strings.{NumbersStrings, numbers_first, numbers_later}
use Rattle.ckc_blame_steps.specs.ckc_blame_sound.proofs.Tallies.{tally, is_tally, tally-append}
use Rattle.ckc_blame_steps.proofs.ExpressionRooms.{texts_are_few}
use Rattle.ckc_blame_steps.proofs.Small.{few_variables}
use Rattle.ckc_blame_steps.specs.ckc_blame_walk.proofs.Main.{find_function}
use Rattle.ckc_blame_steps.specs.ckc_blame_walk.proofs.Mains.{main_bare}
use Rattle.ckc_build_forms.proofs.NodesOfStatements.{stmt_small}

-- ---- functions, one after another

module _ (p : Typed) (P : Function → Type 0) (all : List NotedItem) (c : ℕ)
    (each : (k : ℕ) (h : NotedHead) (body : NotedStmt) → Contains all (item.Function h body) → NumbersStrings c all k (item.Function h body) → P (function_elaborated p k h body)) where
  of_item : (k : ℕ) (i : NotedItem) → Contains all i → NumbersStrings c all k i → All P (functions_in p k i)
  of_item k (item.Function h body) there strings = All-cons P (function_elaborated p k h body) [] (each k h body there strings) (All-nil P)
  of_item k (item.Directive d) there strings = All-nil P
  of_item k (item.Tag n at) there strings = All-nil P
  of_item k (item.Struct n ms at) there strings = All-nil P
  of_item k (item.Static d) there strings = All-nil P
  of_item k (item.Proto h) there strings = All-nil P

  of_items : (k : ℕ) (is : List NotedItem) → All (Contains all) is → ((n : ℕ) (i : NotedItem) → NumbersStrings k is n i → NumbersStrings c all n i)
      → All P (numbered (functions_in p) literals_of_item k is)
  of_items k [] there strings = All-nil P
  of_items k (i ∷ is) there strings =
      All-append P (functions_in p k i) (numbered (functions_in p) literals_of_item (k + literals_of_item i) is)
      (of_item k i (All-head (Contains all) i is there) (strings k i (numbers_first i is k)))
      (of_items (k + literals_of_item i) is (All-tail (Contains all) i is there) (λ n x later. strings n x (numbers_later i is k n x later)))

-- what is so of the function of each item is so of each function
pub each_function : (p : Typed) (P : Function → Type 0)
    → ((k : ℕ) (h : NotedHead) (body : NotedStmt) → Contains p.tree.items (item.Function h body)
    → NumbersStrings (count_declared p.tree.items) p.tree.items k (item.Function h body) → P (function_elaborated p k h body))
    → All P (functions_elaborated p)
each_function p P each =
    of_items p P p.tree.items (count_declared p.tree.items) each (count_declared p.tree.items) p.tree.items (All-contains_itself p.tree.items) (λ n i strings. strings)

-- ---- one function

pub record KeepsLimits (f : Function) : Type 0 where
  pub params : f.params ≤ f.locals
  pub locals : f.locals ≤ 255
  pub nodes : code_nodes f.body ≤ 6000

keeps_limits : (p : Typed) (j : IsJudged p) → Small j.named.tree → (k : ℕ) (h : NotedHead) (body : NotedStmt) → Contains p.tree.items (item.Function h body) → KeepsLimits (function_elaborated p k h body)
keeps_limits p j small k h body there =
    let long = length-append (params_of body.note.mode h) (locals_of body) in
    let many = length-map (seen_params body.note.mode h) variable_declared ∙ length-map h.params (seen body.note.mode) in
    let few = few_variables p j h body small there in
    let nodes = stmt_small p (variables_of body.note.mode h body) (type_written h.result) (k + literals_of_head h) body in
    let most = texts_are_few p j small h body there in
    let same = is_marked (marks_of_stmt body) in
    record {
      params = omega (arith, long, many);
      locals = few;
      nodes = omega (arith, nodes, most, same);
    }

pub functions_are_small : (p : Typed) (j : IsJudged p) → Small j.named.tree → All KeepsLimits (functions_elaborated p)
functions_are_small p j small = each_function p KeepsLimits (λ k h body there strings. keeps_limits p j small k h body there)

-- ---- how many functions there are

item_few : (p : Typed) (k : ℕ) (i : NotedItem) → length (functions_in p k i) ≤ tally is_function (marks_of_item i)
item_few p k (item.Function h body) = omega arith
item_few p k (item.Directive d) = omega arith
item_few p k (item.Tag n at) = omega arith
item_few p k (item.Struct n ms at) = omega arith
item_few p k (item.Static d) = omega arith
item_few p k (item.Proto h) = omega arith

items_few : (p : Typed) (k : ℕ) (is : List NotedItem) → length (numbered (functions_in p) literals_of_item k is) ≤ tally is_function (flat_map marks_of_item is)
items_few p k [] = omega arith
items_few p k (i ∷ is) =
    let long = length-append (functions_in p k i) (numbered (functions_in p) literals_of_item (k + literals_of_item i) is) in
    let marks = tally-append is_function (marks_of_item i) (flat_map marks_of_item is) in
    let one = item_few p k i in
    let more = items_few p (k + literals_of_item i) is in
    omega (arith, long, marks, one, more)

pub functions_are_few : (p : Typed) (j : IsJudged p) → Small j.named.tree → length (functions_elaborated p) ≤ 512
functions_are_few p j small =
    let same = ap (tally is_function) (sym (kept.of_tree p.tree) ∙ ap (λ (t : Tree). marks_of t) (tree_named p j)) in
    let counted = is_tally is_function (marks_of j.named.tree) in
    let limit = small.functions in
    let few = items_few p (count_declared p.tree.items) p.tree.items in
    omega (arith, same, counted, limit, few)

-- ---- the first function

pub main_there : (p : Typed) → IsJudged p → HasParams 0 (slice_get (functions_elaborated p) (number_of (name.Function p.main) p.tree.items))
main_there p j =
    let bare = main_bare p j in
    let main = find_function p (name.Function p.main) (count_declared p.tree.items) p.tree.items bare.defined in
    subst (HasParams 0) (sym main.at) (ap (λ (ds : List NotedDecl). length ds) (sym main.params ∙ bare.bare))
