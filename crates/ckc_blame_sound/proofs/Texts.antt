-- The functions of a wholly checked text have mode Checked throughout.
use Rattle.std.proofs.Common.{◌≡◌, ◌<◌, ℕ, zero, suc, ◌+◌, List, [], ◌∷◌, ◌++◌, length, get_or, slice_get, refl, sym, subst}
use Rattle.std.specs.Prelude.{Bool, true, false, ◌&&◌, Option, Some, None}
use Rattle.std.proofs.lemmas.Option.{slice_get-get_or}
use Rattle.ckc_syntax.specs.Inside.{all_have, inside_each}
use Rattle.ckc_syntax.specs.declared.tree.Item.TheVariants as item
use Rattle.ckc_syntax.specs.declared.tree.Name.TheVariants as name
use Rattle.ckc_typed.specs.declared.typed.Typed.{Typed}
use Rattle.ckc_typed.specs.Trees.{NotedItem, NotedHead, NotedStmt}
use Rattle.ckc_typed.specs.Environment.{variables_of}
use Rattle.ckc_typed.specs.Types.{type_written}
use Rattle.ckc_source.specs.Blocks.{block_of, place_behind, first_place}
use Rattle.ckc_source.specs.Code.{Function, Program}
use Rattle.ckc_source.specs.Source.{no_function, function_at, first_state, unchecked_since}
use Rattle.ckc_build_elaborate.specs.Lists.{numbered}
use Rattle.ckc_build_elaborate.specs.Names.{number_of}
use Rattle.ckc_build_elaborate.specs.Bodies.{IsDefined}
use Rattle.ckc_build_elaborate.specs.Functions.{functions_in, function_elaborated, functions_elaborated, literals_of_head, literals_of_item}
use Rattle.ckc_build_elaborate.specs.Objects.{objects_elaborated, count_declared}
use Rattle.ckc_build_elaborate.specs.Elaborated.{elaborated}
use Rattle.ckc_build_elaborate.proofs.There.{is_there}
use Rattle.ckc_blame.specs.Checked.{checked_stmt, checked_item, WhollyChecked}
use Rattle.ckc_blame_sound.proofs.Codes.{body_checked, left, mode_checked, right}
use Rattle.ckc_blame_sound.proofs.Runs.{IsChecked, AreAll, IsGood, entered_good, never_unchecked}

unfoldable AreListed : List Function → Type 0
AreListed [] = Unit {0}
AreListed (f ∷ fs) = IsChecked f × AreListed fs

listed_get : (fs : List Function) (k : ℕ) (f : Function) → AreListed fs → slice_get fs k ≡ Some f → IsChecked f
unfolding AreListed
listed_get [] k f a e = absurd (none e) where
  none : None ≡ Some f → ⊥
  none e = cc
listed_get (g ∷ fs) zero f a e = subst IsChecked (same e) a.0 where
  same : Some g ≡ Some f → g ≡ f
  same e = cc
listed_get (g ∷ fs) (suc k) f a e = listed_get fs k f a.1 e

function_checked : (p : Typed) (k : ℕ) (h : NotedHead) (body : NotedStmt) → checked_stmt body ≡ true → IsChecked (function_elaborated p k h body)
function_checked p k h body c =
    record { end = mode_checked body c; body = body_checked p (variables_of body.note.mode h body) (type_written h.result) (k + literals_of_head h) body c }

items_checked : (p : Typed) (k : ℕ) (items : List NotedItem) → inside_each all_have checked_item items ≡ true → AreListed (numbered (functions_in p) literals_of_item k items)
unfolding AreListed
items_checked p k [] c = tt
items_checked p k (item.Function h body ∷ rest) c =
    let more : Bool = inside_each all_have checked_item rest in
    (function_checked p k h body (left (checked_stmt body) more c), items_checked p (k + literals_of_item (item.Function h body)) rest (right (checked_stmt body) more c))
items_checked p k (item.Directive i ∷ rest) c = items_checked p (k + literals_of_item (item.Directive i)) rest c
items_checked p k (item.Tag t at ∷ rest) c = items_checked p (k + literals_of_item (item.Tag t at)) rest c
items_checked p k (item.Struct t ms at ∷ rest) c = items_checked p (k + literals_of_item (item.Struct t ms at)) rest (right (checked_item (item.Struct t ms at)) (inside_each all_have checked_item rest) c)
items_checked p k (item.Static s ∷ rest) c = items_checked p (k + literals_of_item (item.Static s)) rest c
items_checked p k (item.Proto h ∷ rest) c = items_checked p (k + literals_of_item (item.Proto h)) rest c

all_checked : (p : Typed) → WhollyChecked p → AreAll (functions_elaborated p)
all_checked p c = record {
  each = λ k f e. listed_get (functions_elaborated p) k f (items_checked p (count_declared p.tree.items) p.tree.items c) e;
}

-- the function that a number names, or what stands there if there is none
main_checked : (fs : List Function) (k : ℕ) → AreAll fs → k < length fs → IsChecked (function_at (slice_get fs k))
main_checked fs k all below =
    let e = slice_get-get_or fs k no_function below in
    subst (λ o. IsChecked (function_at o)) (sym e) (all.each k (get_or fs k no_function) e)

pub runs_checked : (p : Typed) (input : List ℕ) (n : ℕ) → IsDefined (name.Function p.main) p.tree.items → WhollyChecked p → unchecked_since (elaborated p) input n ≡ None
runs_checked p input n main c =
    let program : Program = elaborated p in
    let all : AreAll program.functions = all_checked p c in
    let f : Function = function_at (slice_get program.functions program.main) in
    let good : IsChecked f = main_checked program.functions program.main all (is_there p (name.Function p.main) (count_declared p.tree.items) p.tree.items main) in
    never_unchecked program n (first_state program input) all (entered_good f _ _ input good)
