-- A whole text with its types: what it becomes, and its first fault. Items are judged in the order of the text. That
-- the static objects end too late is judged last.
use Rattle.std.specs.Prelude.{ℕ, nat_lt, Bool, not, ◌||◌, List, [], ◌∷◌, map, Option, Ok}
use Rattle.std.specs.Prelude.{false}
use Rattle.ckc_base.specs.Places.{start}
use Rattle.ckc_base.specs.declared.arithmetic.Mode.{Mode}
use Rattle.ckc_base.specs.declared.arithmetic.Mode.TheVariants.{Checked, Unchecked}
use Rattle.ckc_types.specs.declared.types.CType.{CType}
use Rattle.ckc_types.specs.declared.types.Structs.{Structs}
use Rattle.ckc_syntax.specs.declared.tree.Item.TheVariants as item
use Rattle.ckc_syntax.specs.declared.tree.NamedText.{NamedText}
use Rattle.ckc_typed.specs.Codes.{bad_operands, late_statics}
use Rattle.ckc_typed.specs.declared.environment.Globals.{Globals}
use Rattle.ckc_typed.specs.declared.typed.StaticObject.{StaticObject}
use Rattle.ckc_typed.specs.declared.typed.Typed.{Typed}
use Rattle.ckc_base.specs.Outcomes.{Outcome, bind, unless}
use Rattle.ckc_typed.specs.Trees.{Tree, Item, Head, Stmt, NotedItem, NotedHead, NotedDecl, NotedLimits}
use Rattle.ckc_typed.specs.Types.{type_written, is_void, is_scalar_type}
use Rattle.ckc_typed.specs.Environment.{objects_of, signatures_of, params_of, variables_of, variable_declared}
use Rattle.ckc_typed.specs.Expressions.{bounds_typed}
use Rattle.ckc_typed.specs.Declarations.{bares_typed, static_typed}
use Rattle.ckc_typed.specs.Statements.{body_mode, stmt_typed}
use Rattle.ckc_typed.specs.Layouts.{structs_of}
use Rattle.ckc_base.specs.MemoryMap.{data_start, statics_end}
use Rattle.ckc_typed.specs.Statics.{blocks, placed, end_of_blocks}
use Rattle.ckc_typed.specs.Walk.{head_mode, pragma_after}

-- A result is a scalar or `void`.
abbrev pub is_result_type : CType → Bool
is_result_type t = is_void t || is_scalar_type t

-- E401 at the name of the function: no function gives such a type
abbrev pub result_allowed : Head → Outcome (Unit {0})
result_allowed h = unless (not (is_result_type (type_written h.result))) bad_operands h.pos (Ok tt)

-- the head of a function with its parameters and its bounds noted
abbrev pub head_with : Head → List NotedDecl → Option NotedLimits → NotedHead
head_with h ps l = record { mode = h.mode; result = h.result; name = h.name; params = ps; bounds = l; pos = h.pos }

-- A head has its own mode, or that of the pragma before it. Its parameters are judged, the bounds of the result, and
-- then itself. In it interfaces are seen as checked code sees them.
abbrev pub head_typed : Globals → Mode → Head → Outcome NotedHead
head_typed globals pragma h =
    bind (bares_typed globals (params_of Checked h) (head_mode pragma h) h.params) (λ ps. bind (bounds_typed globals (params_of Checked h) (head_mode pragma h) h.bounds) (λ l.
    bind (result_allowed h) (λ u. Ok (head_with h ps l))))

-- a function with the types in it noted, or its first error
abbrev pub function_typed : Globals → Mode → Head → Stmt → Outcome NotedItem
function_typed globals pragma h body =
    bind (head_typed globals pragma h) (λ g. bind (stmt_typed globals (variables_of (body_mode (head_mode pragma h) body) h body) (type_written h.result) body (head_mode pragma h) false) (λ b. Ok (item.Function g b)))

-- an item of a source file with the types in it noted, or its first error
abbrev pub item_typed : Globals → Mode → Item → Outcome NotedItem
item_typed globals pragma (item.Directive d) = Ok (item.Directive d)
item_typed globals pragma (item.Tag n pos) = Ok (item.Tag n pos)
item_typed globals pragma (item.Struct n members pos) = bind (bares_typed globals (map variable_declared members) pragma members) (λ ms. Ok (item.Struct n ms pos))
item_typed globals pragma (item.Static d) = bind (static_typed globals pragma d) (λ n. Ok (item.Static n))
item_typed globals pragma (item.Proto h) = bind (head_typed globals pragma h) (λ g. Ok (item.Proto g))
item_typed globals pragma (item.Function h body) = function_typed globals pragma h body

-- the same of the items from one on, each in the mode of the last pragma before it
abbrev pub items_typed : Globals → Mode → List Item → Outcome (List NotedItem)
items_typed globals pragma [] = Ok []
items_typed globals pragma (i ∷ rest) = bind (item_typed globals pragma i) (λ n. bind (items_typed globals (pragma_after pragma i) rest) (λ ns. Ok (n ∷ ns)))

-- what the whole text sees
abbrev pub globals_of : List Item → Globals
globals_of items = record { structs = structs_of items; objects = objects_of items; functions = signatures_of items }

-- E206: the static objects end too late
abbrev pub laid_out : Structs → List NotedItem → Outcome (List StaticObject)
laid_out structs items = unless (nat_lt statics_end (end_of_blocks structs data_start (blocks structs items))) late_statics start (Ok (placed structs data_start (blocks structs items)))

-- a source file with the types in it noted and its static objects laid out, or its first error
abbrev pub text_typed : Tree → ℕ → Outcome Typed
text_typed tree main =
    bind (items_typed (globals_of tree.items) Unchecked tree.items) (λ items. bind (laid_out (structs_of tree.items) items) (λ statics.
    Ok (record { tree = record { items = items }; layout = structs_of tree.items; statics = statics; main = main })))

-- The number of `main` is that of the text.
abbrev pub named_typed : NamedText → Outcome Typed
named_typed t = text_typed t.tree t.main
