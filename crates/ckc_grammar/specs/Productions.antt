-- The grammar of the language: for each part of a text its alternatives, each with what it is made of and what it
-- stands for. The parts and their order are those of docs/language.md.
use Prim.Native.String.{String}
use Rattle.std.specs.Prelude.{ℕ, List, [], ◌∷◌, Option, None, Some, false, codes}
use Rattle.ckc_base.specs.declared.places.Pos.{Pos}
use Rattle.ckc_base.specs.declared.arithmetic.Mode.{Mode}
use Rattle.ckc_base.specs.declared.arithmetic.Mode.TheVariants as modes
use Rattle.ckc_syntax.specs.code.Decoded.{decoded}
use Rattle.ckc_syntax.specs.Spelled.{Spelled}
use Rattle.ckc_syntax.specs.declared.tree.Item.TheVariants as items
use Rattle.ckc_syntax.specs.declared.tree.TypeTree.TheVariants as ctype
use Rattle.ckc_syntax.specs.declared.tree.Length.{Length}
use Rattle.ckc_syntax.specs.declared.tree.Length.TheVariants as lengths
use Rattle.ckc_syntax.specs.declared.tree.Init.TheVariants as inits
use Rattle.ckc_syntax.specs.declared.tree.Limits.TheVariants as bounds
use Rattle.ckc_syntax.specs.declared.tree.Node.TheVariants as node
use Rattle.ckc_syntax.specs.declared.tree.Act.TheVariants as act
use Rattle.ckc_syntax.specs.declared.tree.TreeOp.{TreeOp}
use Rattle.ckc_syntax.specs.declared.tree.TreeOp.TheVariants as operators
use Rattle.ckc_grammar.specs.Trees.{Tree, Item, Head, TypeTree, Decl, Init, Limits, Expr, Stmt, Step, expr_at, stmt_at, one_at, assigned_by, set_by, incremented, starred, statics, local_of, locals, joined, literal}
use Rattle.ckc_grammar.specs.Makers.{flat, given, applied, mode_of, length_of, init_of, initial_of, directive_of, number_of, declared, head_of, function_of}

-- What one token is: a keyword; a keyword with either of two spellings; a mark; a `>` directly after a `>`; a name
-- that the grammar reads; any name, number, character, string or directive.
pub data Terminal : Type 0 where
  keyword : List ℕ → Terminal
  either : List ℕ → List ℕ → Terminal
  mark : List ℕ → Terminal
  next : List ℕ → Terminal
  word : List ℕ → Terminal
  any_name : Terminal
  any_number : Terminal
  any_character : Terminal
  any_string : Terminal
  any_directive : Terminal

-- the parts of a text: `opt p` is `[ p ]`, `many p` is `{ p }`, `commas p` is `p { "," p }`, and `after c p` is c and p
pub data Part : Type 0 where
  text : Part
  item : Part
  static : Part
  structure : Part
  member : Part
  slot : Part
  objects : Part
  object : Part
  initial : Part
  array : Part
  size : Part
  proto : Part
  func : Part
  head : Part
  params : Part
  param : Part
  mode : Part
  base : Part
  type_name : Part
  stars : Part
  star : Part
  limits : Part
  block : Part
  line : Part
  local : Part
  local_name : Part
  right : Part
  calloc : Part
  assign : Part
  op : Part
  increment : Part
  change : Part
  stmt : Part
  start : Part
  call : Part
  expr : Part
  binary : Part
  step : Part
  operator : Part
  unary : Part
  postfix : Part
  post : Part
  primary : Part
  opt : Part → Part
  many : Part → Part
  commas : Part → Part
  after : Terminal → Part → Part

-- what is handed on of a token: nothing, its place, or all of it
pub data Use : Type 0 where
  unused : Use
  place : Use
  whole : Use

-- what an alternative is made of: a token; a part; or nothing at all, if no `else` stands after it
pub data Symbol : Type 0 where
  t : Terminal → Use → Symbol
  n : Part → Symbol
  no_else : Symbol

-- what the parts stand for; a declared name waits for the type before it
abbrev pub Meaning : Part → Type 0
Meaning text = Tree
Meaning item = List Item
Meaning static = Unit {0}
Meaning structure = Item
Meaning member = List Decl
Meaning slot = TypeTree → Decl
Meaning objects = List Item
Meaning object = TypeTree → Decl
Meaning initial = Init
Meaning array = Length
Meaning size = ℕ
Meaning proto = Item
Meaning func = Item
Meaning head = Head
Meaning params = List Decl
Meaning param = Decl
Meaning mode = Mode × Pos
Meaning base = TypeTree
Meaning type_name = TypeTree
Meaning stars = List Pos
Meaning star = Pos
Meaning limits = Limits
Meaning block = Pos × List Stmt
Meaning line = List Stmt
Meaning local = List Stmt
Meaning local_name = TypeTree → Decl
Meaning right = Expr
Meaning calloc = Expr
Meaning assign = Stmt
Meaning op = TreeOp × Pos
Meaning increment = TreeOp × Pos
Meaning change = Stmt
Meaning stmt = Stmt
Meaning start = Stmt
Meaning call = Expr
Meaning expr = Expr
Meaning binary = Expr
Meaning step = Step
Meaning operator = TreeOp × Pos
Meaning unary = Expr
Meaning postfix = Expr
Meaning post = Expr → Expr
Meaning primary = Expr
Meaning (opt p) = Option (Meaning p)
Meaning (many p) = List (Meaning p)
Meaning (commas p) = List (Meaning p)
Meaning (after c p) = Meaning p

-- what makes a value of what is handed on of a token
abbrev pub Uses : Use → Type 0 → Type 0
Uses unused X = X
Uses place X = Pos → X
Uses whole X = Spelled → X

-- what makes a value of what the symbols stand for
abbrev pub Makes : List Symbol → Type 0 → Type 0
Makes [] X = X
Makes (t c u ∷ ss) X = Uses u (Makes ss X)
Makes (n p ∷ ss) X = Meaning p → Makes ss X
Makes (no_else ∷ ss) X = Makes ss X

-- an alternative of a part: what it is made of, and its value
pub record Alternative (p : Part) : Type 0 where
  pub right : List Symbol
  pub made : Makes right (Meaning p)

infixr 10 ◌⇒◌
abbrev pub ◌⇒◌ : {p : Part} → (ss : List Symbol) → Makes ss (Meaning p) → Alternative p
◌⇒◌ ss f = record { right = ss; made = f }

-- a keyword
abbrev pub key : String → Symbol
key s = t (keyword (codes s)) unused

-- a keyword with its place
abbrev pub key_at : String → Symbol
key_at s = t (keyword (codes s)) place

-- a keyword with either of two spellings, with its place
abbrev pub two_at : String → String → Symbol
two_at s r = t (either (codes s) (codes r)) place

-- a keyword with either of two spellings
abbrev pub two : String → String → Symbol
two s r = t (either (codes s) (codes r)) unused

-- a mark
abbrev pub sign : String → Symbol
sign s = t (mark (codes s)) unused

-- a mark with its place
abbrev pub sign_at : String → Symbol
sign_at s = t (mark (codes s)) place

-- the place of a name that the grammar reads
abbrev pub word_at : String → Symbol
word_at s = t (word (codes s)) place

-- any name
abbrev pub name : Symbol
name = t any_name whole

-- [ ":" limits ]
abbrev pub range : Part
range = opt (after (mark (codes ":")) limits)

-- a pointer type
abbrev pub pointer : String → String → (TypeTree → TypeTree) → Alternative base
pointer s r f = two s r ∷ sign "<" ∷ n type_name ∷ sign ">" ∷ [] ⇒ f

-- an operator between operands
abbrev pub infix_op : String → TreeOp → Alternative operator
infix_op s o = sign_at s ∷ [] ⇒ λ at. (o, at)

-- an operator that goes on with `=`
abbrev pub compound_op : String → TreeOp → Alternative op
compound_op s o = sign_at s ∷ [] ⇒ λ at. (o, at)

-- an operator before an operand
abbrev pub prefix_op : String → TreeOp → Alternative unary
prefix_op s o = sign_at s ∷ n unary ∷ [] ⇒ λ at e. expr_at (node.Un o e) at

-- The productions. The places: a literal or a name at its first byte; an operator, `[`, `.`, `->` and `?` at that
-- token; a call at the called name; a cast at its `(`; `sizeof`, a bounds cast and a statement at the first token; a
-- declaration at the declared name; an assignment or increment at its operator; bounds at their first token.
abbrev pub productions : (p : Part) → List (Alternative p)
-- text = { item }
productions text = (n (many item) ∷ [] ⇒ λ is. record { items = flat is }) ∷ []
-- item = directive | "struct" name ";" | structure | [ static ] ( objects | proto | func )
productions item =
    (t any_directive whole ∷ [] ⇒ λ d. items.Directive (directive_of d.kind) ∷ [])
    ∷ (key "struct" ∷ name ∷ sign ";" ∷ [] ⇒ λ tag. items.Tag tag.text tag.pos ∷ [])
    ∷ (n structure ∷ [] ⇒ λ s. s ∷ [])
    ∷ (n (opt static) ∷ n objects ∷ [] ⇒ λ s os. os)
    ∷ (n (opt static) ∷ n proto ∷ [] ⇒ λ s f. f ∷ [])
    ∷ (n (opt static) ∷ n func ∷ [] ⇒ λ s f. f ∷ [])
    ∷ []
-- static = "static"
productions static = (key "static" ∷ [] ⇒ tt) ∷ []
-- structure = "struct" name "{" member { member } "}" ";"
productions structure =
    (key "struct" ∷ name ∷ sign "{" ∷ n member ∷ n (many member) ∷ sign "}" ∷ sign ";" ∷ []
    ⇒ λ tag m ms. items.Struct tag.text (flat (m ∷ ms)) tag.pos)
    ∷ []
-- member = base slot { "," slot } ";"
productions member = (n base ∷ n (commas slot) ∷ sign ";" ∷ [] ⇒ λ b ss. given b ss) ∷ []
-- slot = stars name [ ":" limits ]
productions slot =
    (n stars ∷ name ∷ n range ∷ [] ⇒ λ ps x l b. declared (starred b ps) x lengths.Plain l inits.Nothing) ∷ []
-- objects = base object { "," object } ";"
productions objects = (n base ∷ n (commas object) ∷ sign ";" ∷ [] ⇒ λ b os. statics (given b os)) ∷ []
-- object = stars name [ array ] [ ":" limits ] [ "=" initial ]
productions object =
    (n stars ∷ name ∷ n (opt array) ∷ n range ∷ n (opt (after (mark (codes "=")) initial)) ∷ []
    ⇒ λ ps x a l i b. declared (starred b ps) x (length_of a) l (initial_of i))
    ∷ []
-- initial = expr | "{" expr { "," expr } [ "," ] "}"
productions initial =
    (n expr ∷ [] ⇒ λ e. inits.One e)
    ∷ (sign "{" ∷ n (commas expr) ∷ sign "}" ∷ [] ⇒ λ es. inits.Many es)
    ∷ (sign "{" ∷ n (commas expr) ∷ sign "," ∷ sign "}" ∷ [] ⇒ λ es. inits.Many es)
    ∷ []
-- array = [ "_Checked" | "_Nt_checked" ] "[" [ size ] "]"
productions array =
    (sign_at "[" ∷ n (opt size) ∷ sign "]" ∷ [] ⇒ λ at s. lengths.Raw s at)
    ∷ (two "_Checked" "checked" ∷ sign "[" ∷ n (opt size) ∷ sign "]" ∷ [] ⇒ λ s. lengths.Checked s)
    ∷ (two "_Nt_checked" "nt_checked" ∷ sign "[" ∷ n (opt size) ∷ sign "]" ∷ [] ⇒ λ s. lengths.Nt s)
    ∷ []
-- size = number
productions size = (t any_number whole ∷ [] ⇒ λ x. number_of x.kind) ∷ []
-- proto = head ";"
productions proto = (n head ∷ sign ";" ∷ [] ⇒ λ h. function_of h None) ∷ []
-- func = head block
productions func = (n head ∷ n block ∷ [] ⇒ λ h b. function_of h (Some (stmt_at (act.Block None b.1) b.0))) ∷ []
-- head = [ mode ] ( "void" | type_name ) name "(" params ")" [ ":" limits ]
productions head =
    (n (opt mode) ∷ key "void" ∷ name ∷ sign "(" ∷ n params ∷ sign ")" ∷ n range ∷ []
    ⇒ λ m x ps l. head_of (mode_of m) ctype.Void x ps l)
    ∷ (n (opt mode) ∷ n type_name ∷ name ∷ sign "(" ∷ n params ∷ sign ")" ∷ n range ∷ []
    ⇒ λ m r x ps l. head_of (mode_of m) r x ps l)
    ∷ []
-- params = [ "void" | param { "," param } ]
productions params = ([] ⇒ []) ∷ (key "void" ∷ [] ⇒ []) ∷ (n (commas param) ∷ [] ⇒ λ ps. ps) ∷ []
-- param = base slot
productions param = (n base ∷ n slot ∷ [] ⇒ λ b s. s b) ∷ []
-- mode = "_Checked" | "_Unchecked"
productions mode =
    (two_at "_Checked" "checked" ∷ [] ⇒ λ at. (modes.Checked, at))
    ∷ (two_at "_Unchecked" "unchecked" ∷ [] ⇒ λ at. (modes.Unchecked, at))
    ∷ []
-- base = "int" | "unsigned" [ "int" ] | "char" | "struct" name
--     | ( "_Ptr" | "_Array_ptr" | "_Nt_array_ptr" ) "<" type_name ">"
productions base =
    (key "int" ∷ [] ⇒ ctype.Int)
    ∷ (key "unsigned" ∷ [] ⇒ ctype.Unsigned)
    ∷ (key "unsigned" ∷ key "int" ∷ [] ⇒ ctype.Unsigned)
    ∷ (key "char" ∷ [] ⇒ ctype.Char)
    ∷ (key "struct" ∷ name ∷ [] ⇒ λ tag. ctype.Struct tag.text tag.pos)
    ∷ pointer "_Ptr" "ptr" (λ of. ctype.One of)
    ∷ pointer "_Array_ptr" "array_ptr" (λ of. ctype.Arr of)
    ∷ pointer "_Nt_array_ptr" "nt_array_ptr" (λ of. ctype.Nt of)
    ∷ []
-- type_name = base stars
productions type_name = (n base ∷ n stars ∷ [] ⇒ λ b ps. starred b ps) ∷ []
-- stars = { star }
productions stars = (n (many star) ∷ [] ⇒ λ ps. ps) ∷ []
-- star = "*"
productions star = (sign_at "*" ∷ [] ⇒ λ at. at) ∷ []
-- limits = "count" "(" expr ")" | "byte_count" "(" expr ")"
--     | "bounds" "(" ( "unknown" | expr "," expr ) ")"
productions limits =
    (word_at "count" ∷ sign "(" ∷ n expr ∷ sign ")" ∷ [] ⇒ λ at e. bounds.Count e at)
    ∷ (word_at "byte_count" ∷ sign "(" ∷ n expr ∷ sign ")" ∷ [] ⇒ λ at e. bounds.ByteCount e at)
    ∷ (word_at "bounds" ∷ sign "(" ∷ t (word (codes "unknown")) unused ∷ sign ")" ∷ [] ⇒ λ at. bounds.Unknown at)
    ∷ (word_at "bounds" ∷ sign "(" ∷ n expr ∷ sign "," ∷ n expr ∷ sign ")" ∷ [] ⇒ λ at e f. bounds.Between e f at)
    ∷ []
-- block = "{" { line } "}"
productions block = (sign_at "{" ∷ n (many line) ∷ sign "}" ∷ [] ⇒ λ at ls. (at, flat ls)) ∷ []
-- line = local ";" | stmt
productions line = (n local ∷ sign ";" ∷ [] ⇒ λ ls. ls) ∷ (n stmt ∷ [] ⇒ λ s. s ∷ []) ∷ []
-- local = base local_name { "," local_name }
productions local = (n base ∷ n (commas local_name) ∷ [] ⇒ λ b ds. locals (given b ds)) ∷ []
-- local_name = stars name [ ":" limits ] [ "=" right ]
productions local_name =
    (n stars ∷ name ∷ n range ∷ n (opt (after (mark (codes "=")) right)) ∷ []
    ⇒ λ ps x l i b. declared (starred b ps) x lengths.Plain l (init_of i))
    ∷ []
-- right = expr | calloc
productions right = (n expr ∷ [] ⇒ λ e. e) ∷ (n calloc ∷ [] ⇒ λ e. e) ∷ []
-- calloc = "calloc" "<" type_name ">" "(" expr "," "sizeof" "(" type_name ")" ")"
productions calloc =
    (word_at "calloc" ∷ sign "<" ∷ n type_name ∷ sign ">" ∷ sign "(" ∷ n expr ∷ sign "," ∷ key "sizeof" ∷ sign "("
    ∷ n type_name ∷ sign ")" ∷ sign ")" ∷ [] ⇒ λ at b e c. expr_at (node.Calloc b e c) at)
    ∷ []
-- assign = unary "=" right | unary op expr | increment unary | postfix increment
productions assign =
    (n unary ∷ sign_at "=" ∷ n right ∷ [] ⇒ λ x at e. stmt_at (act.Assign x e) at)
    ∷ (n unary ∷ n op ∷ n expr ∷ [] ⇒ λ x o e. assigned_by x o e)
    ∷ (n increment ∷ n unary ∷ [] ⇒ λ o x. assigned_by x o (one_at o.1))
    ∷ (n postfix ∷ n increment ∷ [] ⇒ λ x o. assigned_by x o (one_at o.1))
    ∷ []
-- op = "+=" | "-=" | "*=" | "/=" | "%=" | "&=" | "|=" | "^="
productions op =
    compound_op "+=" operators.Add ∷ compound_op "-=" operators.Sub ∷ compound_op "*=" operators.Mul
    ∷ compound_op "/=" operators.Div ∷ compound_op "%=" operators.Rem ∷ compound_op "&=" operators.And
    ∷ compound_op "|=" operators.Or ∷ compound_op "^=" operators.Xor ∷ []
-- increment = "++" | "--"
productions increment =
    (sign_at "++" ∷ [] ⇒ λ at. (operators.Add, at)) ∷ (sign_at "--" ∷ [] ⇒ λ at. (operators.Sub, at)) ∷ []
-- change = assign ";"
productions change = (n assign ∷ sign ";" ∷ [] ⇒ λ s. s) ∷ []
-- stmt = [ mode ] block | ";" | assign ";" | call ";" | "if" "(" expr ")" stmt [ "else" stmt ]
--     | "while" "(" expr ")" stmt | "for" "(" [ start ] ";" [ expr ] ";" [ assign ] ")" stmt
--     | "return" [ expr ] ";" | "break" ";" | "continue" ";" | "_Dynamic_check" "(" expr ")" ";"
--     | "_Bundled" "{" change change { change } "}"
productions stmt =
    (n block ∷ [] ⇒ λ b. stmt_at (act.Block None b.1) b.0)
    ∷ (n mode ∷ n block ∷ [] ⇒ λ m b. stmt_at (act.Block (Some m.0) b.1) m.1)
    ∷ (sign_at ";" ∷ [] ⇒ λ at. stmt_at act.Empty at)
    ∷ (n assign ∷ sign ";" ∷ [] ⇒ λ s. s)
    ∷ (n call ∷ sign ";" ∷ [] ⇒ λ e. stmt_at (act.Call e) e.pos)
    ∷ (key_at "if" ∷ sign "(" ∷ n expr ∷ sign ")" ∷ n stmt ∷ key "else" ∷ n stmt ∷ []
    ⇒ λ at e s o. stmt_at (act.If e s (Some o)) at)
    -- An `if` without `else` does not stand before `else`, which goes with the nearest `if`.
    ∷ (key_at "if" ∷ sign "(" ∷ n expr ∷ sign ")" ∷ n stmt ∷ no_else ∷ [] ⇒ λ at e s. stmt_at (act.If e s None) at)
    ∷ (key_at "while" ∷ sign "(" ∷ n expr ∷ sign ")" ∷ n stmt ∷ [] ⇒ λ at e s. stmt_at (act.While e s) at)
    ∷ (key_at "for" ∷ sign "(" ∷ n (opt start) ∷ sign ";" ∷ n (opt expr) ∷ sign ";" ∷ n (opt assign) ∷ sign ")" ∷ n stmt ∷ []
    ⇒ λ at f e p s. stmt_at (act.For f e p s) at)
    ∷ (key_at "return" ∷ n (opt expr) ∷ sign ";" ∷ [] ⇒ λ at e. stmt_at (act.Return e) at)
    ∷ (key_at "break" ∷ sign ";" ∷ [] ⇒ λ at. stmt_at act.Break at)
    ∷ (key_at "continue" ∷ sign ";" ∷ [] ⇒ λ at. stmt_at act.Continue at)
    ∷ (two_at "_Dynamic_check" "dynamic_check" ∷ sign "(" ∷ n expr ∷ sign ")" ∷ sign ";" ∷ []
    ⇒ λ at e. stmt_at (act.Check e) at)
    ∷ (key_at "_Bundled" ∷ sign "{" ∷ n change ∷ n change ∷ n (many change) ∷ sign "}" ∷ []
    ⇒ λ at s r ss. stmt_at (act.Bundle (s ∷ r ∷ ss)) at)
    ∷ []
-- start = base local_name | assign
productions start = (n base ∷ n local_name ∷ [] ⇒ λ b d. local_of (d b)) ∷ (n assign ∷ [] ⇒ λ s. s) ∷ []
-- call = name "(" [ expr { "," expr } ] ")" | calloc
productions call =
    (name ∷ sign "(" ∷ sign ")" ∷ [] ⇒ λ f. expr_at (node.Call f.text []) f.pos)
    ∷ (name ∷ sign "(" ∷ n (commas expr) ∷ sign ")" ∷ [] ⇒ λ f es. expr_at (node.Call f.text es) f.pos)
    ∷ (n calloc ∷ [] ⇒ λ e. e)
    ∷ []
-- expr = unary "=" right | unary op expr | binary [ "?" expr ":" expr ]
productions expr =
    (n unary ∷ sign_at "=" ∷ n right ∷ [] ⇒ λ x at e. expr_at (node.Bin operators.Set x e) at)
    ∷ (n unary ∷ n op ∷ n expr ∷ [] ⇒ λ x o e. set_by x o e)
    ∷ (n binary ∷ [] ⇒ λ e. e)
    ∷ (n binary ∷ sign_at "?" ∷ n expr ∷ sign ":" ∷ n expr ∷ [] ⇒ λ e at f g. expr_at (node.Pick e f g) at)
    ∷ []
-- binary = unary { step }
productions binary = (n unary ∷ n (many step) ∷ [] ⇒ λ e ss. joined e ss) ∷ []
-- step = operator unary
productions step = (n operator ∷ n unary ∷ [] ⇒ λ o e. record { op = o.0; pos = o.1; operand = e }) ∷ []
productions operator =
    infix_op "||" operators.OrElse ∷ infix_op "&&" operators.AndThen ∷ infix_op "|" operators.Or ∷ infix_op "^" operators.Xor ∷ infix_op "&" operators.And
    ∷ infix_op "==" operators.Eq ∷ infix_op "!=" operators.Ne
    ∷ infix_op "<" operators.Lt ∷ infix_op "<=" operators.Le ∷ infix_op ">" operators.Gt ∷ infix_op ">=" operators.Ge
    ∷ infix_op "<<" operators.Shl ∷ (sign_at ">" ∷ t (next (codes ">")) unused ∷ [] ⇒ λ at. (operators.Shr, at))
    ∷ infix_op "+" operators.Add ∷ infix_op "-" operators.Sub ∷ infix_op "*" operators.Mul ∷ infix_op "/" operators.Div ∷ infix_op "%" operators.Rem ∷ []
-- unary = ( "-" | "+" | "!" | "~" | "*" | "&" ) unary | increment unary | "(" type_name ")" unary
--     | "sizeof" "(" type_name ")" | postfix [ increment ]
productions unary =
    prefix_op "-" operators.Minus ∷ prefix_op "+" operators.Plus ∷ prefix_op "!" operators.Not
    ∷ prefix_op "~" operators.Flip ∷ prefix_op "*" operators.Deref ∷ prefix_op "&" operators.Address
    ∷ (n increment ∷ n unary ∷ [] ⇒ λ o x. set_by x o (one_at o.1))
    ∷ (sign_at "(" ∷ n type_name ∷ sign ")" ∷ n unary ∷ [] ⇒ λ at b e. expr_at (node.Cast b e) at)
    ∷ (key_at "sizeof" ∷ sign "(" ∷ n type_name ∷ sign ")" ∷ [] ⇒ λ at b. expr_at (node.Size b) at)
    ∷ (n postfix ∷ n (opt increment) ∷ [] ⇒ λ x o. incremented x o)
    ∷ []
-- postfix = primary { post }
productions postfix = (n primary ∷ n (many post) ∷ [] ⇒ λ e fs. applied e fs) ∷ []
-- post = "[" expr "]" | "." name | "->" name
productions post =
    (sign_at "[" ∷ n expr ∷ sign "]" ∷ [] ⇒ λ at i e. expr_at (node.Index e i) at)
    ∷ (sign_at "." ∷ name ∷ [] ⇒ λ at m e. expr_at (node.Dot e m.text m.pos) at)
    ∷ (sign_at "->" ∷ name ∷ [] ⇒ λ at m e. expr_at (node.Arrow e m.text m.pos) at)
    ∷ []
-- primary = name | name "(" [ expr { "," expr } ] ")" | number | character | string | "NULL" | "EOF" | "(" expr ")"
--     | ( "_Dynamic_bounds_cast" | "_Assume_bounds_cast" ) "<" type_name ">" "(" expr [ "," limits ] ")"
productions primary =
    (name ∷ [] ⇒ λ x. expr_at (node.Name x.text) x.pos)
    ∷ (name ∷ sign "(" ∷ sign ")" ∷ [] ⇒ λ f. expr_at (node.Call f.text []) f.pos)
    ∷ (name ∷ sign "(" ∷ n (commas expr) ∷ sign ")" ∷ [] ⇒ λ f es. expr_at (node.Call f.text es) f.pos)
    ∷ (t any_number whole ∷ [] ⇒ λ x. expr_at (literal x.kind) x.pos)
    ∷ (t any_character whole ∷ [] ⇒ λ x. expr_at (literal x.kind) x.pos)
    ∷ (t any_string whole ∷ [] ⇒ λ x. expr_at (node.Text (decoded x.text)) x.pos)
    ∷ (key_at "NULL" ∷ [] ⇒ λ at. expr_at node.Null at)
    ∷ (key_at "EOF" ∷ [] ⇒ λ at. expr_at (node.Number 4294967295 false) at)
    ∷ (sign "(" ∷ n expr ∷ sign ")" ∷ [] ⇒ λ e. e)
    ∷ (two_at "_Dynamic_bounds_cast" "dynamic_bounds_cast" ∷ sign "<" ∷ n type_name ∷ sign ">" ∷ sign "(" ∷ n expr
    ∷ n (opt (after (mark (codes ",")) limits)) ∷ sign ")" ∷ [] ⇒ λ at b e l. expr_at (node.Tested b e l) at)
    ∷ (two_at "_Assume_bounds_cast" "assume_bounds_cast" ∷ sign "<" ∷ n type_name ∷ sign ">" ∷ sign "(" ∷ n expr
    ∷ n (opt (after (mark (codes ",")) limits)) ∷ sign ")" ∷ [] ⇒ λ at b e l. expr_at (node.Trusted b e l) at)
    ∷ []
-- { p }, [ p ], p { "," p }, and p after a token
productions (opt p) = ([] ⇒ None) ∷ (n p ∷ [] ⇒ λ x. Some x) ∷ []
productions (many p) = ([] ⇒ []) ∷ (n p ∷ n (many p) ∷ [] ⇒ λ x xs. x ∷ xs) ∷ []
productions (commas p) = (n p ∷ n (many (after (mark (codes ",")) p)) ∷ [] ⇒ λ x xs. x ∷ xs) ∷ []
productions (after c p) = (t c unused ∷ n p ∷ [] ⇒ λ x. x) ∷ []
