-- What the parts of a text stand for.
use Rattle.std.specs.Prelude.{ℕ, List, [], ◌∷◌, ◌++◌, Option, None, Some, Bool, true, false, if◌then◌else◌}
use Rattle.ckc_base.specs.declared.places.Pos.{Pos}
use Rattle.ckc_base.specs.declared.arithmetic.Mode.{Mode}
use Rattle.ckc_base.specs.declared.arithmetic.Mode.TheVariants as modes
use Rattle.ckc_syntax.specs.Spelled.{Spelled}
use Rattle.ckc_syntax.specs.declared.tokens.TokenKind.{TokenKind}
use Rattle.ckc_syntax.specs.declared.tokens.TokenKind.TheVariants as kinds
use Rattle.ckc_syntax.specs.declared.tokens.Directive.{Directive}
use Rattle.ckc_syntax.specs.declared.tokens.Directive.TheVariants as directives
use Rattle.ckc_syntax.specs.declared.tree.Item.TheVariants as item
use Rattle.ckc_syntax.specs.declared.tree.TypeTree.TheVariants as ctype
use Rattle.ckc_syntax.specs.declared.tree.Length.{Length}
use Rattle.ckc_syntax.specs.declared.tree.Length.TheVariants as lengths
use Rattle.ckc_syntax.specs.declared.tree.Init.TheVariants as inits
use Rattle.ckc_syntax.specs.declared.tree.Limits.TheVariants as bounds
use Rattle.ckc_syntax.specs.declared.tree.Node.TheVariants as node
use Rattle.ckc_syntax.specs.declared.tree.Act.TheVariants as act
use Rattle.ckc_syntax.specs.declared.tree.TreeOp.{TreeOp}
use Rattle.ckc_syntax.specs.declared.tree.TreeOp.TheVariants as op
use Rattle.ckc_parser_grammar.specs.declared.kind.Kind.{Kind}
use Rattle.ckc_parser_grammar.specs.declared.parts.Arms.{Arms}
use Rattle.ckc_parser_grammar.specs.declared.parts.Operation.{Operation}
use Rattle.ckc_parser_grammar.specs.declared.parts.Setting.{Setting}
use Rattle.ckc_parser_grammar.specs.declared.parts.Post.{Post}
use Rattle.ckc_parser_grammar.specs.declared.parts.Post.TheVariants as behind
use Rattle.ckc_parser_grammar.specs.code.Kinds.{kind_of_token, sign_op, increment_op, compound_op, binary_op}
use Rattle.ckc_parser_grammar.specs.code.Grammar as g
use Rattle.ckc_parser_grammar.specs.code.Grammar.{Rule}
use Rattle.ckc_syntax.specs.code.Decoded.{decoded}
pub use Rattle.ckc_grammar.specs.Makers.{declared, directive_of, number_of}
use Rattle.ckc_parser_grammar.specs.code.Trees.{Name, Tree, Item, TypeTree, Decl, Init, Limits, Expr, Stmt, Step, expr_at, stmt_at, starred, statics, local_of, locals, function_of, posted, joined, picked, with_increment, by_one, set, changed, stepped, literal}

-- A value of some part. A part that stands after something has what it makes of that: a name, a type, a place.
pub data Value : Type 0 where
  nothing : Value
  token : Spelled → Value
  tree : Tree → Value
  items : List Item → Value
  items_of_name : (Spelled → List Item) → Value
  items_of_base : (TypeTree → List Item) → Value
  items_of_declarator : (TypeTree → TypeTree → Spelled → List Item) → Value
  item_of_head : (Option Mode → TypeTree → Spelled → Item) → Value
  decl : Decl → Value
  decls : List Decl → Value
  decl_of_base : (TypeTree → Decl) → Value
  decls_of_base : (TypeTree → List Decl) → Value
  decl_of_name : (TypeTree → Spelled → Decl) → Value
  length : Length → Value
  size : Option ℕ → Value
  init : Init → Value
  mode : Mode → Pos → Value
  type_tree : TypeTree → Value
  stars : List Pos → Value
  limits : Limits → Value
  declared_limits : Option Limits → Value
  limits_at : (Pos → Limits) → Value
  limits_of_unknown : (Pos → Spelled → Limits) → Value
  expr : Expr → Value
  exprs : List Expr → Value
  value : Option Expr → Value
  expr_behind : (Pos → Expr) → Value
  expr_of_name : (Spelled → Expr) → Value
  expr_of_less : (Spelled → Pos → Expr) → Value
  cast : TypeTree → Expr → Option Limits → Value
  arms : Option Arms → Value
  operator : TreeOp → Pos → Value
  second : Bool → Value
  steps : List Step → Value
  rest : List Step → Option Arms → Option Setting → Value
  call : Option (List Expr) → Value
  increment : Option Operation → Value
  setting : Option Setting → Value
  change : Option Operation → Option Setting → Value
  called_change : List Post → Option Operation → Option Setting → Value
  post : Post → Value
  posts : List Post → Value
  stmt : Stmt → Value
  part : Option Stmt → Value
  stmts : List Stmt → Value
  stmt_of_name : (Spelled → Stmt) → Value
  stmt_behind : (Pos → Stmt) → Value

-- the value of a part, which one of another part does not have
abbrev pub nowhere : Pos
nowhere = record { line = 0; col = 0 }

-- a name of no bytes, if a value is no token
abbrev pub no_token : Spelled
no_token = record { kind = kinds.Name; text = []; pos = nowhere }

-- a `NULL` at no place, if a value is no expression
abbrev pub no_expr : Expr
no_expr = expr_at node.Null nowhere

-- an empty statement at no place, if a value is no statement
abbrev pub no_stmt : Stmt
no_stmt = stmt_at act.Empty nowhere

-- a directive, if a value is no item of a text
abbrev pub no_item : Item
no_item = item.Directive directives.Stdio

-- an `int` without a name, if a value is no declaration
abbrev pub no_decl : Decl
no_decl = record { ctype = ctype.Int; name = no_token.text; length = lengths.Plain; bounds = None; init = inits.Nothing; pos = nowhere }

-- the token that a value is
abbrev pub as_token : Value → Spelled
as_token (token t) = t
as_token _ = no_token

-- the items of a text that a value is
abbrev pub as_items : Value → List Item
as_items (items x) = x
as_items _ = []

-- the items of a text that a value makes of the tag before it
abbrev pub as_items_of_name : Value → (Spelled → List Item)
as_items_of_name (items_of_name x) = x
as_items_of_name _ = λ t. []

-- the items of a text that a value makes of the type before it
abbrev pub as_items_of_base : Value → (TypeTree → List Item)
as_items_of_base (items_of_base x) = x
as_items_of_base _ = λ base. []

-- the items that a value makes of the type without its stars, the type with them and the declared name
abbrev pub as_items_of_declarator : Value → (TypeTree → TypeTree → Spelled → List Item)
as_items_of_declarator (items_of_declarator x) = x
as_items_of_declarator _ = λ base whole t. []

-- the function or prototype that a value makes of the mode, the type of the result and the name before it
abbrev pub as_item_of_head : Value → (Option Mode → TypeTree → Spelled → Item)
as_item_of_head (item_of_head x) = x
as_item_of_head _ = λ m result t. no_item

-- the declaration that a value is
abbrev pub as_decl : Value → Decl
as_decl (decl x) = x
as_decl _ = no_decl

-- the declarations that a value is
abbrev pub as_decls : Value → List Decl
as_decls (decls x) = x
as_decls _ = []

-- the declaration that a value makes of the type before it
abbrev pub as_decl_of_base : Value → (TypeTree → Decl)
as_decl_of_base (decl_of_base x) = x
as_decl_of_base _ = λ base. no_decl

-- the declarations that a value makes of the type before them
abbrev pub as_decls_of_base : Value → (TypeTree → List Decl)
as_decls_of_base (decls_of_base x) = x
as_decls_of_base _ = λ base. []

-- the declaration that a value makes of the type and the name before it
abbrev pub as_decl_of_name : Value → (TypeTree → Spelled → Decl)
as_decl_of_name (decl_of_name x) = x
as_decl_of_name _ = λ base t. no_decl

-- what a value says of the declared object: that it is no array, or an array of some kind and length
abbrev pub as_length : Value → Length
as_length (length x) = x
as_length _ = lengths.Plain

-- the number in the brackets of an array, if one stands there
abbrev pub as_size : Value → Option ℕ
as_size (size x) = x
as_size _ = None

-- the initialiser that a value is
abbrev pub as_init : Value → Init
as_init (init x) = x
as_init _ = inits.Nothing

-- the mode that a value is: `_Checked` or `_Unchecked`
abbrev pub as_mode : Value → Mode
as_mode (mode x pos) = x
as_mode _ = modes.Checked

-- the type that a value is
abbrev pub as_type : Value → TypeTree
as_type (type_tree x) = x
as_type _ = ctype.Int

-- the places of the stars that a value is
abbrev pub as_stars : Value → List Pos
as_stars (stars x) = x
as_stars _ = []

-- the bounds that a value is: `count(e)`, `byte_count(e)` or `bounds(e, f)`
abbrev pub as_limits : Value → Limits
as_limits (limits x) = x
as_limits _ = bounds.Unknown nowhere

-- the bounds after the `:` of a declaration, if it has them
abbrev pub as_declared_limits : Value → Option Limits
as_declared_limits (declared_limits x) = x
as_declared_limits _ = None

-- the bounds that a value makes of the place of the word `bounds` before it
abbrev pub as_limits_at : Value → (Pos → Limits)
as_limits_at (limits_at x) = x
as_limits_at _ = λ pos. bounds.Unknown nowhere

-- the bounds that a value makes of the place of `bounds` and of the token `unknown` before it
abbrev pub as_limits_of_unknown : Value → (Pos → Spelled → Limits)
as_limits_of_unknown (limits_of_unknown x) = x
as_limits_of_unknown _ = λ pos t. bounds.Unknown nowhere

-- the expression that a value is
abbrev pub as_expr : Value → Expr
as_expr (expr x) = x
as_expr _ = no_expr

-- the expressions that a value is
abbrev pub as_exprs : Value → List Expr
as_exprs (exprs x) = x
as_exprs _ = []

-- the expression that a value is, where it may be left out, as after `return`
abbrev pub as_value : Value → Option Expr
as_value (value x) = x
as_value _ = None

-- the expression that a value makes of the place of the `(` before it
abbrev pub as_expr_behind : Value → (Pos → Expr)
as_expr_behind (expr_behind x) = x
as_expr_behind _ = λ pos. no_expr

-- the expression that a value makes of the name before it
abbrev pub as_expr_of_name : Value → (Spelled → Expr)
as_expr_of_name (expr_of_name x) = x
as_expr_of_name _ = λ t. no_expr

-- the expression that a value makes of the name and of the place of the `<` before it
abbrev pub as_expr_of_less : Value → (Spelled → Pos → Expr)
as_expr_of_less (expr_of_less x) = x
as_expr_of_less _ = λ t pos. no_expr

-- the two expressions after the `?` of a value, if it has them
abbrev pub as_arms : Value → Option Arms
as_arms (arms x) = x
as_arms (rest ss x s) = x
as_arms _ = None

-- whether a second `>` follows a `>`
abbrev pub as_next : Value → Bool
as_next (second x) = x
as_next _ = false

-- the binary operators of a value, each with its right operand
abbrev pub as_steps : Value → List Step
as_steps (steps x) = x
as_steps (rest x a s) = x
as_steps _ = []

-- the `[e]`, `.m` or `->m` that a value is
abbrev pub as_post : Value → Post
as_post (post x) = x
as_post _ = behind.Index no_expr nowhere

-- the same of each that stands after an expression
abbrev pub as_posts : Value → List Post
as_posts (posts x) = x
as_posts (called_change x i s) = x
as_posts _ = []

-- the arguments in the parentheses after a name, if it is called
abbrev pub as_call : Value → Option (List Expr)
as_call (call x) = x
as_call _ = None

-- the `++` or `--` behind an operand, if one stands there
abbrev pub as_increment : Value → Option Operation
as_increment (increment x) = x
as_increment (change x s) = x
as_increment (called_change ps x s) = x
as_increment _ = None

-- what stands after a target: `=` or an operator with `=`, and an expression
abbrev pub as_setting : Value → Option Setting
as_setting (setting x) = x
as_setting (rest ss a x) = x
as_setting (change i x) = x
as_setting (called_change ps i x) = x
as_setting _ = None

-- the statement that a value is
abbrev pub as_stmt : Value → Stmt
as_stmt (stmt x) = x
as_stmt _ = no_stmt

-- the statement that a value is, where it may be left out, as after `else`
abbrev pub as_part : Value → Option Stmt
as_part (part x) = x
as_part _ = None

-- the statements that a value is
abbrev pub as_stmts : Value → List Stmt
as_stmts (stmts x) = x
as_stmts _ = []

-- the statement that a value makes of the name before it
abbrev pub as_stmt_of_name : Value → (Spelled → Stmt)
as_stmt_of_name (stmt_of_name x) = x
as_stmt_of_name _ = λ t. no_stmt

-- the statement that a value makes of the place of the `(` before it
abbrev pub as_stmt_behind : Value → (Pos → Stmt)
as_stmt_behind (stmt_behind x) = x
as_stmt_behind _ = λ pos. no_stmt

-- the binary operator that a value is
abbrev pub as_op : Value → TreeOp
as_op (operator o pos) = o
as_op _ = op.Minus

-- the type to which a bounds cast converts
abbrev pub type_of : Value → TypeTree
type_of (cast t e l) = t
type_of _ = ctype.Int

-- the expression that a bounds cast converts
abbrev pub operand_of : Value → Expr
operand_of (cast t e l) = e
operand_of _ = no_expr

-- the bounds that a bounds cast gives, if it has them
abbrev pub limits_of : Value → Option Limits
limits_of (cast t e l) = l
limits_of _ = None

-- the place of a token, an operator or a mode
abbrev pub place : Value → Pos
place (token t) = t.pos
place (operator o pos) = pos
place (mode m pos) = pos
place _ = nowhere

-- the spelling of a name, a member or a string
abbrev pub name_of : Value → Name
name_of v = (as_token v).text

-- the kind of the token that a value is
abbrev pub kind_at : Value → Kind
kind_at v = kind_of_token (as_token v)

-- a name as an expression, and as what is called
abbrev pub named : Spelled → Expr
named t = expr_at (node.Name t.text) t.pos

-- a call of the name with these arguments, at the name
abbrev pub called : Spelled → List Expr → Expr
called t es = expr_at (node.Call t.text es) t.pos

-- an operand with the operators and operands after it, and the arms of `? :`
abbrev pub whole : Expr → List Step → Option Arms → Expr
whole e ss c = picked (joined e ss) c

-- a name, which is called if arguments stand after it
abbrev pub called_or_named : Spelled → Option (List Expr) → Expr
called_or_named t None = named t
called_or_named t (Some es) = called t es

-- an operand with what goes on with it: operators and arms, or a setting, of which it is the target
abbrev pub finished : Expr → List Step → Option Arms → Option Setting → Expr
finished e ss c None = whole e ss c
finished e ss c (Some s) = set e s

abbrev pub ended : Expr → Value → Expr
ended e r = finished e (as_steps r) (as_arms r) (as_setting r)

-- a `++` or `--` with its place
abbrev pub increment_at : Value → Operation
increment_at o = record { op = increment_op (kind_at o); pos = place o }

-- a binary operator with its place and its right operand
abbrev pub step : Value → Value → Step
step o e = record { op = as_op o; pos = place o; operand = as_expr e }

-- the type `struct` with this tag
abbrev pub struct_type : Spelled → TypeTree
struct_type t = ctype.Struct t.text t.pos

-- What a production stands for, by what its symbols stand for. The places: a literal or a name at its first byte; an
-- operator, `[`, `.`, `->` and `?` at that token; a call at the called name; a cast at its `(`; `sizeof`, a bounds
-- cast and a statement at the first token; a declaration at the declared name; an assignment or increment at its operator;
-- `bounds(unknown)` at `bounds`.
abbrev pub made : Rule → List Value → Value
made g.Text (is ∷ []) = tree (record { items = as_items is })
made g.Directive (d ∷ is ∷ []) = items (item.Directive (directive_of (as_token d).kind) ∷ as_items is)
made g.Structure (s ∷ name ∷ d ∷ is ∷ []) = items (as_items_of_name d (as_token name) ++ as_items is)
made g.Static (s ∷ d ∷ is ∷ []) = items (as_items d ++ as_items is)
made g.Declaration (d ∷ is ∷ []) = items (as_items d ++ as_items is)
made g.NoItems [] = items []
made g.Tag (a ∷ []) = items_of_name (λ t. item.Tag t.text t.pos ∷ [])
made g.Members (a ∷ m ∷ ms ∷ b ∷ c ∷ []) = items_of_name (λ t. item.Struct t.text (as_decls m ++ as_decls ms) t.pos ∷ [])
made g.Structured (d ∷ []) = items_of_name (λ t. as_items_of_base d (struct_type t))
made g.StaticStruct (s ∷ name ∷ d ∷ []) = items (as_items_of_base d (struct_type (as_token name)))
made g.StaticOther (d ∷ []) = d
made g.Moded (m ∷ r ∷ name ∷ h ∷ []) = items (as_item_of_head h (Some (as_mode m)) (as_type r) (as_token name) ∷ [])
made g.Voided (v ∷ name ∷ h ∷ []) = items (as_item_of_head h None ctype.Void (as_token name) ∷ [])
made g.Based (b ∷ d ∷ []) = items (as_items_of_base d (as_type b))
made g.Declarators (ps ∷ name ∷ d ∷ []) = items_of_base (λ base. as_items_of_declarator d base (starred base (as_stars ps)) (as_token name))
made g.Headed (h ∷ []) = items_of_declarator (λ base whole t. as_item_of_head h None whole t ∷ [])
made g.Objects (o ∷ os ∷ []) = items_of_declarator (λ base whole t. statics (as_decl_of_name o whole t ∷ as_decls_of_base os base))
made g.MoreObjects (c ∷ o ∷ os ∷ []) = decls_of_base (λ base. as_decl_of_base o base ∷ as_decls_of_base os base)
made g.NoObjects (a ∷ []) = decls_of_base (λ base. [])
made g.Object (ps ∷ name ∷ o ∷ []) = decl_of_base (λ base. as_decl_of_name o (starred base (as_stars ps)) (as_token name))
made g.ObjectRest (a ∷ b ∷ i ∷ []) = decl_of_name (λ t name. declared t name (as_length a) (as_declared_limits b) (as_init i))
made g.RawArray (a ∷ s ∷ b ∷ []) = length (lengths.Raw (as_size s) (place a))
made g.CheckedArray (c ∷ a ∷ s ∷ b ∷ []) = length (lengths.Checked (as_size s))
made g.NtArray (c ∷ a ∷ s ∷ b ∷ []) = length (lengths.Nt (as_size s))
made g.NoArray [] = length lengths.Plain
made g.Size (x ∷ []) = size (Some (number_of (as_token x).kind))
made g.NoSize [] = size None
made g.Initial (e ∷ i ∷ []) = i
made g.NoInitial [] = init inits.Nothing
made g.ListInitial (a ∷ e ∷ es ∷ []) = init (inits.Many (as_expr e ∷ as_exprs es))
made g.OneInitial (e ∷ []) = init (inits.One (as_expr e))
made g.ListComma (c ∷ es ∷ []) = es
made g.ListEnd (a ∷ []) = exprs []
made g.ListClose (a ∷ []) = exprs []
made g.ListNext (e ∷ es ∷ []) = exprs (as_expr e ∷ as_exprs es)
made g.Head (a ∷ ps ∷ b ∷ s ∷ []) = item_of_head (λ m result t. function_of (record { mode = m; result = result; name = t.text; params = as_decls ps; bounds = as_declared_limits b; pos = t.pos }) (as_part s))
made g.Prototype (a ∷ []) = part None
made g.Body (a ∷ ss ∷ []) = part (Some (stmt_at (act.Block None (as_stmts ss)) (place a)))
made g.NoParams (b ∷ []) = decls []
made g.VoidParams (v ∷ b ∷ []) = decls []
made g.Params (p ∷ ps ∷ []) = decls (as_decl p ∷ as_decls ps)
made g.MoreParams (c ∷ p ∷ ps ∷ []) = decls (as_decl p ∷ as_decls ps)
made g.EndParams (b ∷ []) = decls []
made g.Param (b ∷ s ∷ []) = decl (as_decl_of_base s (as_type b))
made g.CheckedMode (m ∷ []) = mode modes.Checked (place m)
made g.UncheckedMode (m ∷ []) = mode modes.Unchecked (place m)
made g.VoidResult (v ∷ []) = type_tree ctype.Void
made g.OtherResult (t ∷ []) = t
made g.MoreMembers (m ∷ ms ∷ []) = decls (as_decls m ++ as_decls ms)
made g.NoMembers [] = decls []
made g.Member (b ∷ s ∷ ss ∷ []) = decls (as_decl_of_base s (as_type b) ∷ as_decls_of_base ss (as_type b))
made g.Slot (ps ∷ name ∷ b ∷ []) = decl_of_base (λ base. declared (starred base (as_stars ps)) (as_token name) lengths.Plain (as_declared_limits b) inits.Nothing)
made g.MoreSlots (c ∷ s ∷ ss ∷ []) = decls_of_base (λ base. as_decl_of_base s base ∷ as_decls_of_base ss base)
made g.NoSlots (a ∷ []) = decls_of_base (λ base. [])
made g.DeclaredLimits (c ∷ l ∷ []) = declared_limits (Some (as_limits l))
made g.NoLimits [] = declared_limits None
made g.StructBase (s ∷ name ∷ []) = type_tree (struct_type (as_token name))
made g.Scalar (b ∷ []) = b
made g.Int (a ∷ []) = type_tree ctype.Int
made g.Unsigned (a ∷ b ∷ []) = type_tree ctype.Unsigned
made g.Char (a ∷ []) = type_tree ctype.Char
made g.OnePointer (a ∷ b ∷ t ∷ c ∷ []) = type_tree (ctype.One (as_type t))
made g.ArrayPointer (a ∷ b ∷ t ∷ c ∷ []) = type_tree (ctype.Arr (as_type t))
made g.NtPointer (a ∷ b ∷ t ∷ c ∷ []) = type_tree (ctype.Nt (as_type t))
made g.UnsignedInt (a ∷ []) = nothing
made g.UnsignedAlone [] = nothing
made g.TypeName (b ∷ ps ∷ []) = type_tree (starred (as_type b) (as_stars ps))
made g.MoreStars (s ∷ ps ∷ []) = stars (place s ∷ as_stars ps)
made g.NoStars [] = stars []
made g.Count (c ∷ a ∷ e ∷ b ∷ []) = limits (bounds.Count (as_expr e) (place c))
made g.ByteCount (c ∷ a ∷ e ∷ b ∷ []) = limits (bounds.ByteCount (as_expr e) (place c))
made g.BoundsOf (b ∷ a ∷ r ∷ []) = limits (as_limits_at r (place b))
made g.Unknown (u ∷ r ∷ []) = limits_at (λ pos. as_limits_of_unknown r pos (as_token u))
made g.BetweenNamed (name ∷ h ∷ r ∷ d ∷ e ∷ b ∷ []) = limits_at (λ pos. bounds.Between (ended (as_expr_of_name h (as_token name)) r) (as_expr e) pos)
made g.Between (f ∷ r ∷ d ∷ e ∷ b ∷ []) = limits_at (λ pos. bounds.Between (ended (as_expr f) r) (as_expr e) pos)
made g.UnknownEnd (b ∷ []) = limits_of_unknown (λ pos t. bounds.Unknown pos)
made g.UnknownName (h ∷ r ∷ d ∷ e ∷ b ∷ []) = limits_of_unknown (λ pos t. bounds.Between (ended (as_expr_of_name h t) r) (as_expr e) pos)
made g.EndBlock (b ∷ []) = stmts []
made g.Locals (ds ∷ ss ∷ []) = stmts (locals (as_decls ds) ++ as_stmts ss)
made g.Stmts (s ∷ ss ∷ []) = stmts (as_stmt s ∷ as_stmts ss)
made g.Local (b ∷ d ∷ ds ∷ []) = decls (as_decl_of_base d (as_type b) ∷ as_decls_of_base ds (as_type b))
made g.MoreLocals (c ∷ d ∷ ds ∷ []) = decls_of_base (λ base. as_decl_of_base d base ∷ as_decls_of_base ds base)
made g.NoLocals (a ∷ []) = decls_of_base (λ base. [])
made g.LocalName (ps ∷ name ∷ b ∷ i ∷ []) = decl_of_base (λ base. declared (starred base (as_stars ps)) (as_token name) lengths.Plain (as_declared_limits b) (as_init i))
made g.LocalInitial (e ∷ v ∷ []) = init (inits.One (as_expr v))
made g.NoLocalInitial [] = init inits.Nothing
made g.CallocValue (name ∷ v ∷ []) = expr (as_expr_of_name v (as_token name))
made g.NamedValue (name ∷ h ∷ r ∷ []) = expr (ended (as_expr_of_name h (as_token name)) r)
made g.Value (f ∷ r ∷ []) = expr (ended (as_expr f) r)
made g.CallocCall (a ∷ es ∷ ps ∷ i ∷ r ∷ []) = expr_of_name (λ t. ended (with_increment (posted (called t (as_exprs es)) (as_posts ps)) (as_increment i)) r)
made g.CallocLess (a ∷ v ∷ []) = expr_of_name (λ t. as_expr_of_less v t (place a))
made g.CallocPost (p ∷ ps ∷ i ∷ r ∷ []) = expr_of_name (λ t. ended (with_increment (posted (named t) (as_post p ∷ as_posts ps)) (as_increment i)) r)
made g.CallocIncrement (o ∷ r ∷ []) = expr_of_name (λ t. ended (with_increment (named t) (Some (increment_at o))) r)
made g.CallocSetting (s ∷ []) = expr_of_name (λ t. finished (named t) [] None (as_setting s))
made g.CallocStep (o ∷ e ∷ r ∷ []) = expr_of_name (λ t. whole (named t) (step o e ∷ as_steps r) (as_arms r))
made g.CallocName (c ∷ []) = expr_of_name (λ t. picked (named t) (as_arms c))
made g.LessOperand (e ∷ r ∷ []) = expr_of_less (λ t pos. whole (named t) (record { op = op.Lt; pos = pos; operand = as_expr e } ∷ as_steps r) (as_arms r))
made g.LessType (a ∷ []) = expr_of_less (λ t pos. as_expr_of_name a t)
made g.NoArguments (b ∷ []) = exprs []
made g.Arguments (e ∷ es ∷ []) = exprs (as_expr e ∷ as_exprs es)
made g.MoreArguments (c ∷ e ∷ es ∷ []) = exprs (as_expr e ∷ as_exprs es)
made g.EndArguments (b ∷ []) = exprs []
made g.Allocation (t ∷ a ∷ b ∷ e ∷ c ∷ s ∷ d ∷ u ∷ f ∷ h ∷ []) = expr_of_name (λ name. expr_at (node.Calloc (as_type t) (as_expr e) (as_type u)) name.pos)
made g.SetTo (a ∷ x ∷ []) = setting (Some (record { op = None; pos = place a; value = as_expr x }))
made g.SetBy (o ∷ e ∷ []) = setting (Some (record { op = Some (compound_op (kind_at o)); pos = place o; value = as_expr e }))
made g.LaterSetting (s ∷ []) = s
made g.NoSetting [] = setting None
made g.SettingChange (s ∷ []) = change None (as_setting s)
made g.IncrementChange (o ∷ s ∷ []) = change (Some (increment_at o)) (as_setting s)
made g.NamedAssign (name ∷ c ∷ ps ∷ d ∷ []) = stmt (changed (posted (called_or_named (as_token name) (as_call c)) (as_posts ps)) (as_increment d) (as_setting d))
made g.UnnamedAssign (s ∷ []) = s
made g.SignedAssign (a ∷ e ∷ s ∷ []) = stmt (changed (expr_at (node.Un (sign_op (kind_at a)) (as_expr e)) (place a)) None (as_setting s))
made g.IncrementAssign (o ∷ e ∷ s ∷ []) = stmt (stepped (as_expr e) (increment_at o) (as_setting s))
made g.RoundAssign (a ∷ r ∷ []) = stmt (as_stmt_behind r (place a))
made g.SizeofAssign (x ∷ a ∷ t ∷ b ∷ s ∷ []) = stmt (changed (expr_at (node.Size (as_type t)) (place x)) None (as_setting s))
made g.PostfixAssign (e ∷ ps ∷ d ∷ []) = stmt (changed (posted (as_expr e) (as_posts ps)) (as_increment d) (as_setting d))
made g.ParenAssign (e ∷ b ∷ ps ∷ d ∷ []) = stmt_behind (λ pos. changed (posted (as_expr e) (as_posts ps)) (as_increment d) (as_setting d))
made g.CastAssign (t ∷ b ∷ e ∷ s ∷ []) = stmt_behind (λ pos. changed (expr_at (node.Cast (as_type t) (as_expr e)) pos) None (as_setting s))
made g.ModedBlock (m ∷ a ∷ ss ∷ []) = stmt (stmt_at (act.Block (Some (as_mode m)) (as_stmts ss)) (place m))
made g.Block (a ∷ ss ∷ []) = stmt (stmt_at (act.Block None (as_stmts ss)) (place a))
made g.Empty (a ∷ []) = stmt (stmt_at act.Empty (place a))
made g.If (i ∷ a ∷ e ∷ b ∷ s ∷ o ∷ []) = stmt (stmt_at (act.If (as_expr e) (as_stmt s) (as_part o)) (place i))
made g.While (w ∷ a ∷ e ∷ b ∷ s ∷ []) = stmt (stmt_at (act.While (as_expr e) (as_stmt s)) (place w))
made g.For (f ∷ a ∷ i ∷ c ∷ p ∷ s ∷ []) = stmt (stmt_at (act.For (as_part i) (as_value c) (as_part p) (as_stmt s)) (place f))
made g.Return (r ∷ e ∷ []) = stmt (stmt_at (act.Return (as_value e)) (place r))
made g.Break (b ∷ a ∷ []) = stmt (stmt_at act.Break (place b))
made g.Continue (c ∷ a ∷ []) = stmt (stmt_at act.Continue (place c))
made g.Check (c ∷ a ∷ e ∷ b ∷ d ∷ []) = stmt (stmt_at (act.Check (as_expr e)) (place c))
made g.Bundle (b ∷ a ∷ s ∷ c ∷ u ∷ d ∷ ss ∷ []) = stmt (stmt_at (act.Bundle (as_stmt s ∷ as_stmt u ∷ as_stmts ss)) (place b))
made g.CallocStmt (name ∷ s ∷ a ∷ []) = stmt (as_stmt_of_name s (as_token name))
made g.NamedStmt (name ∷ s ∷ a ∷ []) = stmt (as_stmt_of_name s (as_token name))
made g.AssignStmt (s ∷ a ∷ []) = s
made g.CallocTypeStmt (a ∷ x ∷ []) = stmt_of_name (λ t. stmt_at (act.Call (as_expr_of_name x t)) t.pos)
made g.CallocNameStmt (s ∷ []) = s
made g.CallStmt (a ∷ es ∷ r ∷ []) = stmt_of_name (λ t. changed (posted (called t (as_exprs es)) (as_posts r)) (as_increment r) (as_setting r))
made g.ChangeStmt (ps ∷ d ∷ []) = stmt_of_name (λ t. changed (posted (named t) (as_posts ps)) (as_increment d) (as_setting d))
made g.CalledStmt [] = called_change [] None None
made g.CalledChange (ps ∷ d ∷ []) = called_change (as_posts ps) (as_increment d) (as_setting d)
made g.Else (e ∷ s ∷ []) = part (Some (as_stmt s))
made g.NoElse [] = part None
made g.NoCondition (a ∷ []) = value None
made g.Condition (e ∷ a ∷ []) = value (Some (as_expr e))
made g.NoStart (a ∷ []) = part None
made g.LocalStart (b ∷ d ∷ a ∷ []) = part (Some (local_of (as_decl_of_base d (as_type b))))
made g.AssignStart (s ∷ a ∷ []) = part (Some (as_stmt s))
made g.NoStep (b ∷ []) = part None
made g.AssignStep (s ∷ b ∷ []) = part (Some (as_stmt s))
made g.EndAssigns (b ∷ []) = stmts []
made g.Assigns (s ∷ a ∷ ss ∷ []) = stmts (as_stmt s ∷ as_stmts ss)
made g.Expr (e ∷ r ∷ []) = expr (ended (as_expr e) r)
made g.ExprRest (c ∷ []) = c
made g.ExprSetting (s ∷ []) = rest [] None (as_setting s)
made g.Chain (ss ∷ c ∷ []) = rest (as_steps ss) (as_arms c) None
made g.Choice (q ∷ e ∷ c ∷ f ∷ []) = arms (Some (record { pos = place q; yes = as_expr e; no = as_expr f }))
made g.NoChoice [] = arms None
made g.Step (o ∷ e ∷ ss ∷ []) = steps (step o e ∷ as_steps ss)
made g.NoTail [] = steps []
made g.LessOperation (a ∷ []) = operator op.Lt (place a)
made g.OtherOperation (o ∷ []) = o
made g.Operator (a ∷ []) = operator (binary_op (kind_at a)) (place a)
made g.Greater (a ∷ b ∷ []) = operator (if as_next b then op.Shr else op.Gt) (place a)
made g.Second (a ∷ []) = second true
made g.NoSecond [] = second false
made g.Named (name ∷ h ∷ []) = expr (as_expr_of_name h (as_token name))
made g.NameRest (c ∷ ps ∷ i ∷ []) = expr_of_name (λ t. with_increment (posted (called_or_named t (as_call c)) (as_posts ps)) (as_increment i))
made g.CallRest (a ∷ es ∷ []) = call (Some (as_exprs es))
made g.NoCall [] = call None
made g.Increment (o ∷ []) = increment (Some (increment_at o))
made g.NoIncrement [] = increment None
made g.Unnamed (e ∷ []) = e
made g.Signed (a ∷ e ∷ []) = expr (expr_at (node.Un (sign_op (kind_at a)) (as_expr e)) (place a))
made g.Incremented (o ∷ e ∷ []) = expr (set (as_expr e) (by_one (increment_at o)))
made g.Round (a ∷ e ∷ []) = expr (as_expr_behind e (place a))
made g.Sizeof (s ∷ a ∷ t ∷ b ∷ []) = expr (expr_at (node.Size (as_type t)) (place s))
made g.Postfix (e ∷ ps ∷ i ∷ []) = expr (with_increment (posted (as_expr e) (as_posts ps)) (as_increment i))
made g.Paren (e ∷ b ∷ ps ∷ i ∷ []) = expr_behind (λ pos. with_increment (posted (as_expr e) (as_posts ps)) (as_increment i))
made g.Cast (t ∷ b ∷ e ∷ []) = expr_behind (λ pos. expr_at (node.Cast (as_type t) (as_expr e)) pos)
made g.Posts (p ∷ ps ∷ []) = posts (as_post p ∷ as_posts ps)
made g.NoPosts [] = posts []
made g.Index (a ∷ e ∷ b ∷ []) = post (behind.Index (as_expr e) (place a))
made g.Dot (a ∷ name ∷ []) = post (behind.Dot (name_of name) (place name) (place a))
made g.Arrow (a ∷ name ∷ []) = post (behind.Arrow (name_of name) (place name) (place a))
made g.Constant (e ∷ []) = e
made g.Literal (x ∷ []) = expr (expr_at (literal (as_token x).kind) (place x))
made g.String (x ∷ []) = expr (expr_at (node.Text (decoded (name_of x))) (place x))
made g.Null (a ∷ []) = expr (expr_at node.Null (place a))
made g.Eof (a ∷ []) = expr (expr_at (node.Number 4294967295 false) (place a))
made g.Tested (k ∷ c ∷ []) = expr (expr_at (node.Tested (type_of c) (operand_of c) (limits_of c)) (place k))
made g.Trusted (k ∷ c ∷ []) = expr (expr_at (node.Trusted (type_of c) (operand_of c) (limits_of c)) (place k))
made g.BoundsCast (a ∷ t ∷ b ∷ c ∷ e ∷ l ∷ []) = cast (as_type t) (as_expr e) (as_declared_limits l)
made g.CastLimits (c ∷ l ∷ b ∷ []) = declared_limits (Some (as_limits l))
made g.NoCastLimits (b ∷ []) = declared_limits None
made _ _ = nothing
