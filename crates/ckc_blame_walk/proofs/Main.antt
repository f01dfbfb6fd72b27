-- The function that a name means among those of a program.
use Rattle.std.proofs.Common.{◌≡◌, ◌⊎◌, ⊎_elim, ℕ, suc, ◌+◌, Bool, true, false, List, [], ◌∷◌, refl, ◌∙◌, ap, arith}
use Rattle.std.specs.Prelude.{if◌then◌else◌, slice_get, Some}
use Rattle.std.specs.List.{Contains}
use Rattle.ckc_syntax.specs.declared.tree.Name.{Name}
use Rattle.ckc_syntax.specs.declared.tree.Item.TheVariants as item
use Rattle.ckc_typed.specs.declared.typed.Typed.{Typed}
use Rattle.ckc_typed.specs.Trees.{NotedHead, NotedItem, NotedStmt}
use Rattle.ckc_typed.specs.Environment.{same_name}
use Rattle.ckc_source.specs.Code.{Function}
use Rattle.ckc_build_elaborate.specs.Names.{number_of, params_of}
use Rattle.ckc_build_elaborate.specs.Lists.{numbered}
use Rattle.ckc_build_elaborate.specs.Functions.{function_elaborated, functions_in, literals_of_item}
use Rattle.ckc_build_elaborate.specs.Bodies.{IsDefined}
use Rattle.ckc_blame_sound.proofs.Strings.{NumbersStrings, numbers_first, numbers_later}

-- a function of the text with a body, at the number that its name has, with the parameters that the name has, and its string
-- literals by their number
pub record IsFound (p : Typed) (n : Name) (k : ℕ) (items : List NotedItem) : Type 0 where
  pub head : NotedHead
  pub body : NotedStmt
  pub literals : ℕ
  pub there : Contains items (item.Function head body)
  pub at : slice_get (numbered (functions_in p) literals_of_item k items) (number_of n items) ≡ Some (function_elaborated p literals head body)
  pub params : params_of n items ≡ head.params
  pub strings : NumbersStrings k items literals (item.Function head body)

later : {X : Type 0} (x : X) (xs : List X) (y : X) → Contains xs y → Contains (x ∷ xs) y
later x xs y c = let h = c.1 in (suc c.0, omega arith, c.2)

here : {X : Type 0} (x : X) (xs : List X) → Contains (x ∷ xs) x
here x xs = (0, omega arith, refl)

other : {X : Type 0} → (false ≡ true) ⊎ X → X
other d = ⊎_elim (λ e. absurd cc) (λ x. x) d

pub find_function : (p : Typed) (n : Name) (k : ℕ) (items : List NotedItem) → IsDefined n items → IsFound p n k items
find_function p n k [] d = absurd d
find_function p n k (item.Function h body ∷ rest) d =
    by (same_name h.name n) refl d (λ e. find_function p n (k + literals_of_item (item.Function h body)) rest e)
  where
    more : List Function
    more = numbered (functions_in p) literals_of_item (k + literals_of_item (item.Function h body)) rest

    by : (b : Bool) → same_name h.name n ≡ b → (b ≡ true) ⊎ IsDefined n rest
        → (IsDefined n rest → IsFound p n (k + literals_of_item (item.Function h body)) rest) → IsFound p n k (item.Function h body ∷ rest)
    by true e d go = record {
      head = h;
      body = body;
      literals = k;
      there = here (item.Function h body) rest;
      at = ap (λ t. slice_get (function_elaborated p k h body ∷ more) (if t then 0 else number_of n rest + 1)) e;
      params = ap (λ t. if t then h.params else params_of n rest) e;
      strings = numbers_first (item.Function h body) rest k;
    }
    by false e d go =
        let f = go (other d) in
        let next : number_of n rest + 1 ≡ suc (number_of n rest) = omega arith in
        record {
          head = f.head;
          body = f.body;
          literals = f.literals;
          there = later (item.Function h body) rest (item.Function f.head f.body) f.there;
          at = ap (λ t. slice_get (function_elaborated p k h body ∷ more) (if t then 0 else number_of n rest + 1)) e
              ∙ ap (slice_get (function_elaborated p k h body ∷ more)) next ∙ f.at;
          params = ap (λ t. if t then h.params else params_of n rest) e ∙ f.params;
          strings = numbers_later (item.Function h body) rest k f.literals (item.Function f.head f.body) f.strings;
        }
find_function p n k (item.Directive i ∷ rest) d =
    let f = find_function p n (k + literals_of_item (item.Directive i)) rest (other d) in
    record { head = f.head; body = f.body; literals = f.literals; there = later (item.Directive i) rest (item.Function f.head f.body) f.there; at = f.at; params = f.params; strings = numbers_later (item.Directive i) rest k f.literals (item.Function f.head f.body) f.strings }
find_function p n k (item.Tag t pos ∷ rest) d =
    let f = find_function p n (k + literals_of_item (item.Tag t pos)) rest (other d) in
    record { head = f.head; body = f.body; literals = f.literals; there = later (item.Tag t pos) rest (item.Function f.head f.body) f.there; at = f.at; params = f.params; strings = numbers_later (item.Tag t pos) rest k f.literals (item.Function f.head f.body) f.strings }
find_function p n k (item.Struct t ms pos ∷ rest) d =
    let f = find_function p n (k + literals_of_item (item.Struct t ms pos)) rest (other d) in
    record { head = f.head; body = f.body; literals = f.literals; there = later (item.Struct t ms pos) rest (item.Function f.head f.body) f.there; at = f.at; params = f.params; strings = numbers_later (item.Struct t ms pos) rest k f.literals (item.Function f.head f.body) f.strings }
find_function p n k (item.Static s ∷ rest) d =
    let f = find_function p n (k + literals_of_item (item.Static s)) rest (other d) in
    record { head = f.head; body = f.body; literals = f.literals; there = later (item.Static s) rest (item.Function f.head f.body) f.there; at = f.at; params = f.params; strings = numbers_later (item.Static s) rest k f.literals (item.Function f.head f.body) f.strings }
find_function p n k (item.Proto h ∷ rest) d =
    let f = find_function p n (k + literals_of_item (item.Proto h)) rest (other d) in
    record { head = f.head; body = f.body; literals = f.literals; there = later (item.Proto h) rest (item.Function f.head f.body) f.there; at = f.at; params = f.params; strings = numbers_later (item.Proto h) rest k f.literals (item.Function f.head f.body) f.strings }
