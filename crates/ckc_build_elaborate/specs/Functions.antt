-- What functions mean (ISO C11, 6.9.1).
use Rattle.std.specs.Prelude.{ℕ, ◌+◌, if◌then◌else◌, List, [], ◌∷◌, ◌++◌, length, Option, None, Some}
use Rattle.ckc_base.specs.declared.arithmetic.Mode.{Mode}
use Rattle.ckc_base.specs.declared.arithmetic.Mode.TheVariants.{Checked, Unchecked}
use Rattle.ckc_syntax.specs.Inside.{summed, inside_item}
use Rattle.ckc_syntax.specs.declared.tree.Item.TheVariants as item
use Rattle.ckc_typed.specs.declared.environment.Variable.{Variable}
use Rattle.ckc_typed.specs.declared.typed.Typed.{Typed}
use Rattle.ckc_typed.specs.Trees.{NotedDecl, NotedHead, NotedItem, NotedStmt}
use Rattle.ckc_typed.specs.Types.{type_written}
use Rattle.ckc_source.specs.declared.expr.Limits.{Limits}
use Rattle.ckc_source.specs.declared.program.Interface.{Interface}
use Rattle.ckc_source.specs.Code.{Function}
use Rattle.ckc_build_results.specs.Results.{result_limits}
use Rattle.ckc_build_elaborate.specs.Lists.{numbered}
use Rattle.ckc_build_elaborate.specs.Objects.{count_declared}
use Rattle.ckc_typed.specs.Environment.{type_declared, params_of, variables_of}
use Rattle.ckc_typed.specs.Interfaces.{is_interface, seen}
use Rattle.ckc_build_elaborate.specs.Literals.{literals_of_bounds, literals_of_decl, literals_of_decls}
use Rattle.ckc_build_elaborate.specs.Steps.{spot}
use Rattle.ckc_build_elaborate.specs.Statements.{alone, part_of, stmt_elaborated}

-- ---- string literals, in the order of the text

-- how many string literals are in the head of a function
abbrev pub literals_of_head : NotedHead → ℕ
literals_of_head h = literals_of_decls h.params + literals_of_bounds h.bounds

-- how many string literals that make a block are in an item of a text
abbrev pub literals_of_item : NotedItem → ℕ
literals_of_item = inside_item summed literals_of_decl literals_of_head (λ (s : NotedStmt). (part_of s).literals)

-- ---- interfaces

-- an interface with the limits that are known of it, as a list of at most one
abbrev pub interface_if : ℕ → Option Limits → List Interface
interface_if k None = []
interface_if k (Some l) = record { param = k; limits = l } ∷ []

-- The parameter with the number k, if it is an interface, with the limits that its bounds say.
abbrev pub interface_of : Typed → List Variable → ℕ → NotedDecl → List Interface
interface_of p locals k d =
    if is_interface d then interface_if k (result_limits p locals (type_declared (seen Checked d)) d.bounds) else []

-- the interfaces among the parameters from the number k on
abbrev pub interfaces_from : Typed → List Variable → ℕ → List NotedDecl → List Interface
interfaces_from p locals k [] = []
interfaces_from p locals k (d ∷ ds) = interface_of p locals k d ++ interfaces_from p locals (k + 1) ds

-- A body that is checked reads the interfaces of its function when it is entered.
abbrev pub interfaces_elaborated : Typed → Mode → NotedHead → List Interface
interfaces_elaborated p Checked h = interfaces_from p (params_of Checked h) 0 h.params
interfaces_elaborated p Unchecked h = []

-- ---- functions

-- A function that falls off its end does so at its name, in the mode of its body. Its locals are its parameters and
-- those that its body declares. The number k is that of the next string literal among the static objects.
abbrev pub function_elaborated : Typed → ℕ → NotedHead → NotedStmt → Function
function_elaborated p k h body = record {
  end = spot h.pos body.note.mode;
  params = length h.params;
  locals = length (variables_of body.note.mode h body);
  body = alone (stmt_elaborated p (variables_of body.note.mode h body) (type_written h.result) (k + literals_of_head h) body);
  result = result_limits p (variables_of body.note.mode h body) (type_written h.result) h.bounds;
  interfaces = interfaces_elaborated p body.note.mode h;
}

-- A prototype adds none, since its function has the same head.
abbrev pub functions_in : Typed → ℕ → NotedItem → List Function
functions_in p k (item.Function h body) = function_elaborated p k h body ∷ []
functions_in p k _ = []

-- the functions with a body; the string literals come after the declared objects
abbrev pub functions_elaborated : Typed → List Function
functions_elaborated p = numbered (functions_in p) literals_of_item (count_declared p.tree.items) p.tree.items
