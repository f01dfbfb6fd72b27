-- Where objects lie that live as long as the program (ISO C11, 6.2.4 and 6.7.9): the declared ones come first, in the
-- order of the text, then a block for each string literal that initialises no array, in the order of the text, with a
-- zero byte after its bytes. At 0x02000000 lies a word of the heap's. Each block begins at the least multiple of 8
-- that is at least 8 bytes past the end of what lies before it.
use Rattle.std.specs.Option.{option_map_or}
use Rattle.std.specs.Prelude.{ℕ, ◌+◌, ◌*◌, Bool, true, false, if◌then◌else◌, List, [], ◌∷◌, ◌++◌, length, take, map, flat_map, Option, None, Some, unwrap_or}
use Rattle.std.specs.Int.{w32, to_le_bytes, next_multiple_of}
use Rattle.ckc_types.specs.declared.types.Kind.TheVariants as kind
use Rattle.ckc_types.specs.declared.types.CType.{CType}
use Rattle.ckc_types.specs.declared.types.CType.TheVariants as ctype
use Rattle.ckc_types.specs.declared.types.Structs.{Structs}
use Rattle.ckc_syntax.specs.Inside.{listed, inside_if, inside_limits, inside_node, inside_act, inside_item}
use Rattle.ckc_syntax.specs.declared.tree.Name.{Name}
use Rattle.ckc_syntax.specs.declared.tree.Init.TheVariants as init
use Rattle.ckc_syntax.specs.declared.tree.Length.{Length}
use Rattle.ckc_syntax.specs.declared.tree.Length.TheVariants as lengths
use Rattle.ckc_syntax.specs.declared.tree.Item.TheVariants as item
use Rattle.ckc_syntax.specs.declared.tree.Limits.{fold-Limits}
use Rattle.ckc_syntax.specs.declared.tree.Node.{Node-F}
use Rattle.ckc_syntax.specs.declared.tree.Expr.{Expr-F, fold-Expr}
use Rattle.ckc_syntax.specs.declared.tree.Act.{Act-F}
use Rattle.ckc_syntax.specs.declared.tree.Stmt.{Stmt-F, fold-Stmt}
use Rattle.ckc_typed.specs.declared.environment.Constant.{Constant}
use Rattle.ckc_typed.specs.declared.typed.Note.{Note}
use Rattle.ckc_typed.specs.declared.typed.StaticObject.{StaticObject}
use Rattle.ckc_typed.specs.Trees.{NotedItem, NotedHead, NotedDecl, NotedInit, NotedLimits, NotedExpr, NotedStmt}
use Rattle.ckc_typed.specs.Types.{type_written, is_char}
use Rattle.ckc_typed.specs.Environment.{kind_of_array}
use Rattle.ckc_typed.specs.Constants.{constant, size_of}
use Rattle.ckc_typed.specs.Declarations.{count_of, is_plain, string_in}

-- the bytes of strings, from a first part to a last
abbrev pub Strings : Type 0
Strings = List (List ℕ)

-- the string literals in a node of an expression, itself or its parts
abbrev pub node_strings : Node-F Name Note Strings Strings Strings → Strings
node_strings (Node-F.Text bytes) = bytes ∷ []
node_strings n = inside_node listed (λ l. l) (λ e. e) n

-- What stands in an expression stands in its node.
abbrev pub expr_strings : Expr-F Name Note Strings Strings Strings → Strings
expr_strings e = e.node

-- the string literals in bounds
abbrev pub strings_of_limits : NotedLimits → Strings
strings_of_limits = fold-Limits Name Note Strings Strings Strings (inside_limits listed (λ e. e)) node_strings expr_strings

-- the string literals in an expression
abbrev pub strings_of_expr : NotedExpr → Strings
strings_of_expr = fold-Expr Name Note Strings Strings Strings (inside_limits listed (λ e. e)) node_strings expr_strings

-- the string literals in bounds that there may be
abbrev pub strings_of_bounds : Option NotedLimits → Strings
strings_of_bounds = inside_if listed strings_of_limits

abbrev pub strings_of_value : Option NotedExpr → Strings
strings_of_value = inside_if listed strings_of_expr

-- A string that initialises an array makes no block.
abbrev pub strings_of_init : Bool → NotedInit → Strings
strings_of_init plain init.Nothing = []
strings_of_init plain (init.One e) = if plain then strings_of_expr e else []
strings_of_init plain (init.Many es) = flat_map strings_of_expr es

-- the string literals in the bounds and then in the initialiser of a declaration
abbrev pub strings_of_decl : NotedDecl → Strings
strings_of_decl d = strings_of_bounds d.bounds ++ strings_of_init (is_plain d.length) d.init

-- the string literals in what a statement does, from those in its parts
abbrev pub act_strings : Act-F Name Note Strings Strings → Strings
act_strings = inside_act listed strings_of_expr strings_of_decl (λ s. s)

-- What stands in a statement stands in what it does.
abbrev pub stmt_strings : Stmt-F Name Note Strings Strings → Strings
stmt_strings s = s.body

-- the string literals in a statement
abbrev pub strings_of_stmt : NotedStmt → Strings
strings_of_stmt = fold-Stmt Name Note Strings Strings act_strings stmt_strings

-- the string literals in the head of a function
abbrev pub strings_of_head : NotedHead → Strings
strings_of_head h = flat_map strings_of_decl h.params ++ strings_of_bounds h.bounds

-- the string literals in an item of a source file
abbrev pub strings_of_item : NotedItem → Strings
strings_of_item = inside_item listed strings_of_decl strings_of_head strings_of_stmt

-- The bytes of a constant, the low one first; of a `char` the low one alone. Null is zero.
abbrev pub bytes_of : Structs → CType → NotedExpr → List ℕ
bytes_of structs t e = take (if is_char t then 1 else 4) (to_le_bytes w32 (option_map_or (λ (c : Constant). c.word) (constant structs e) 0))

-- the bytes of an initialiser that is no list: of a string, or of a constant
abbrev pub bytes_of_one : Structs → CType → NotedExpr → Option (List ℕ) → List ℕ
bytes_of_one structs t e (Some bytes) = bytes
bytes_of_one structs t e None = bytes_of structs t e

-- what an object begins with; the rest of it is zero
abbrev pub initial_bytes : Structs → CType → NotedInit → List ℕ
initial_bytes structs t init.Nothing = []
initial_bytes structs t (init.One e) = bytes_of_one structs t e (string_in e)
initial_bytes structs t (init.Many es) = flat_map (bytes_of structs t) es

-- whether an object is an `_Nt_checked` array
abbrev pub is_terminated : Length → Bool
is_terminated (lengths.Nt n) = true
is_terminated _ = false

-- the block of an object that is declared at file scope, without its place
abbrev pub object_of : Structs → NotedDecl → StaticObject
object_of structs d = record { at = 0; element = type_written d.ctype; array = kind_of_array d.length; count = unwrap_or (count_of d) 0; terminated = is_terminated d.length; initial = initial_bytes structs (type_written d.ctype) d.init }

-- the block that an item of a source file declares, if it declares one
abbrev pub objects_of_item : Structs → NotedItem → List StaticObject
objects_of_item structs (item.Static d) = object_of structs d ∷ []
objects_of_item structs _ = []

-- the block of a string literal, without its place
abbrev pub object_of_string : List ℕ → StaticObject
object_of_string bytes = record { at = 0; element = ctype.Char; array = Some kind.Nt; count = length bytes + 1; terminated = true; initial = bytes }

-- the blocks in their order, without their places
abbrev pub blocks : Structs → List NotedItem → List StaticObject
blocks structs items = flat_map (objects_of_item structs) items ++ map object_of_string (flat_map strings_of_item items)

-- where the block after an end begins
abbrev pub begin_behind : ℕ → ℕ
begin_behind end = next_multiple_of (end + 8) 8

-- where the block after an end ends itself
abbrev pub end_of_block : Structs → ℕ → StaticObject → ℕ
end_of_block structs end o = begin_behind end + size_of structs o.element * o.count

-- the blocks at their places after an end
abbrev pub placed : Structs → ℕ → List StaticObject → List StaticObject
placed structs end [] = []
placed structs end (o ∷ os) = record o { at = begin_behind end } ∷ placed structs (end_of_block structs end o) os

-- where the last of them ends
abbrev pub end_of_blocks : Structs → ℕ → List StaticObject → ℕ
end_of_blocks structs end [] = end
end_of_blocks structs end (o ∷ os) = end_of_blocks structs (end_of_block structs end o) os
