-- The grammar as data: each production is a rule, with the part that it makes and the symbols that it is made of.
use Rattle.std.specs.Prelude.{◌≡◌, List, [], ◌∷◌, Bool, true, false}
use Rattle.ckc_parser_grammar.specs.declared.kind.Kind.{Kind}
use Rattle.ckc_parser_grammar.specs.declared.kind.Kind.TheVariants as kind
use Rattle.ckc_parser_grammar.specs.code.Kinds.{is_sign, is_increment, is_compound, is_operator, is_literal}

-- What one token is: of one kind; a name, also one that has a meaning in some places; a `>`; a sign before an
-- operand; `++` or `--`; an operator with `=`; a binary operator but `<` and `>`; a number or character; a name but
-- `calloc`, or but `unknown`.
pub data Terminal : Type 0 where
  one : Kind → Terminal
  name : Terminal
  greater : Terminal
  sign : Terminal
  increment_sign : Terminal
  compound : Terminal
  operator : Terminal
  literal : Terminal
  name_but_calloc : Terminal
  name_but_unknown : Terminal

-- whether a token of the kind may stand as a name: `count` and the like may
abbrev pub is_name : Kind → Bool
is_name kind.Name = true
is_name kind.Calloc = true
is_name kind.Count = true
is_name kind.ByteCount = true
is_name kind.Bounds = true
is_name kind.Unknown = true
is_name _ = false

-- whether a token of the kind may stand as a name other than `calloc`
abbrev pub is_name_but_calloc : Kind → Bool
is_name_but_calloc kind.Calloc = false
is_name_but_calloc c = is_name c

-- whether a token of the kind may stand as a name other than `unknown`
abbrev pub is_name_but_unknown : Kind → Bool
is_name_but_unknown kind.Unknown = false
is_name_but_unknown c = is_name c

-- whether a token of the kind is a `>`, also one directly after another
abbrev pub is_greater : Kind → Bool
is_greater kind.Greater = true
is_greater kind.GreaterNext = true
is_greater _ = false

-- a token of the kind may stand for the terminal
abbrev pub Fits : Terminal → Kind → Type 0
Fits (one k) c = c ≡ k
Fits name c = is_name c ≡ true
Fits greater c = is_greater c ≡ true
Fits sign c = is_sign c ≡ true
Fits increment_sign c = is_increment c ≡ true
Fits compound c = is_compound c ≡ true
Fits operator c = is_operator c ≡ true
Fits literal c = is_literal c ≡ true
Fits name_but_calloc c = is_name_but_calloc c ≡ true
Fits name_but_unknown c = is_name_but_unknown c ≡ true

-- the parts of a text
pub data Part : Type 0 where
  text : Part
  items : Part
  structure : Part
  declaration : Part
  declared : Part
  declarators : Part
  declarator : Part
  objects : Part
  object : Part
  object_rest : Part
  array : Part
  size : Part
  initial : Part
  initializer : Part
  list_rest : Part
  list_more : Part
  head : Part
  body : Part
  params : Part
  more_params : Part
  param : Part
  mode : Part
  result_type : Part
  members : Part
  member : Part
  slot : Part
  slots : Part
  declared_limits : Part
  base : Part
  scalar : Part
  unsigned_rest : Part
  type_name : Part
  stars : Part
  limits : Part
  bounds_rest : Part
  unknown_rest : Part
  block_items : Part
  locals : Part
  more_locals : Part
  local : Part
  local_initial : Part
  value : Part
  calloc_value : Part
  less : Part
  arguments : Part
  more_arguments : Part
  allocation : Part
  setting : Part
  later_setting : Part
  change : Part
  assign : Part
  unnamed : Part
  round_assign : Part
  stmt : Part
  calloc_stmt : Part
  named_stmt : Part
  called_stmt : Part
  otherwise : Part
  condition : Part
  for_start : Part
  for_step : Part
  assigns : Part
  expr : Part
  expr_rest : Part
  chain : Part
  choice : Part
  tail : Part
  operation : Part
  operation_but_less : Part
  second : Part
  unary : Part
  name_rest : Part
  call_rest : Part
  increment : Part
  first : Part
  round : Part
  posts : Part
  post : Part
  primary : Part
  bounds_cast : Part
  cast_limits : Part
  constant : Part

-- what a production is made of: a token, or a part of the text
pub data Symbol : Type 0 where
  t : Terminal → Symbol
  n : Part → Symbol

-- the symbol for a token of this kind
abbrev pub k : Kind → Symbol
k c = t (one c)

-- the productions
pub data Rule : Type 0 where
  Text : Rule
  Directive : Rule
  Structure : Rule
  Static : Rule
  Declaration : Rule
  NoItems : Rule
  Tag : Rule
  Members : Rule
  Structured : Rule
  StaticStruct : Rule
  StaticOther : Rule
  Moded : Rule
  Voided : Rule
  Based : Rule
  Declarators : Rule
  Headed : Rule
  Objects : Rule
  MoreObjects : Rule
  NoObjects : Rule
  Object : Rule
  ObjectRest : Rule
  RawArray : Rule
  CheckedArray : Rule
  NtArray : Rule
  NoArray : Rule
  Size : Rule
  NoSize : Rule
  Initial : Rule
  NoInitial : Rule
  ListInitial : Rule
  OneInitial : Rule
  ListComma : Rule
  ListEnd : Rule
  ListClose : Rule
  ListNext : Rule
  Head : Rule
  Prototype : Rule
  Body : Rule
  NoParams : Rule
  VoidParams : Rule
  Params : Rule
  MoreParams : Rule
  EndParams : Rule
  Param : Rule
  CheckedMode : Rule
  UncheckedMode : Rule
  VoidResult : Rule
  OtherResult : Rule
  MoreMembers : Rule
  NoMembers : Rule
  Member : Rule
  Slot : Rule
  MoreSlots : Rule
  NoSlots : Rule
  DeclaredLimits : Rule
  NoLimits : Rule
  StructBase : Rule
  Scalar : Rule
  Int : Rule
  Unsigned : Rule
  Char : Rule
  OnePointer : Rule
  ArrayPointer : Rule
  NtPointer : Rule
  UnsignedInt : Rule
  UnsignedAlone : Rule
  TypeName : Rule
  MoreStars : Rule
  NoStars : Rule
  Count : Rule
  ByteCount : Rule
  BoundsOf : Rule
  Unknown : Rule
  BetweenNamed : Rule
  Between : Rule
  UnknownEnd : Rule
  UnknownName : Rule
  EndBlock : Rule
  Locals : Rule
  Stmts : Rule
  Local : Rule
  MoreLocals : Rule
  NoLocals : Rule
  LocalName : Rule
  LocalInitial : Rule
  NoLocalInitial : Rule
  CallocValue : Rule
  NamedValue : Rule
  Value : Rule
  CallocCall : Rule
  CallocLess : Rule
  CallocPost : Rule
  CallocIncrement : Rule
  CallocSetting : Rule
  CallocStep : Rule
  CallocName : Rule
  LessOperand : Rule
  LessType : Rule
  NoArguments : Rule
  Arguments : Rule
  MoreArguments : Rule
  EndArguments : Rule
  Allocation : Rule
  SetTo : Rule
  SetBy : Rule
  LaterSetting : Rule
  NoSetting : Rule
  SettingChange : Rule
  IncrementChange : Rule
  NamedAssign : Rule
  UnnamedAssign : Rule
  SignedAssign : Rule
  IncrementAssign : Rule
  RoundAssign : Rule
  SizeofAssign : Rule
  PostfixAssign : Rule
  ParenAssign : Rule
  CastAssign : Rule
  ModedBlock : Rule
  Block : Rule
  Empty : Rule
  If : Rule
  While : Rule
  For : Rule
  Return : Rule
  Break : Rule
  Continue : Rule
  Check : Rule
  Bundle : Rule
  CallocStmt : Rule
  NamedStmt : Rule
  AssignStmt : Rule
  CallocTypeStmt : Rule
  CallocNameStmt : Rule
  CallStmt : Rule
  ChangeStmt : Rule
  CalledStmt : Rule
  CalledChange : Rule
  Else : Rule
  NoElse : Rule
  NoCondition : Rule
  Condition : Rule
  NoStart : Rule
  LocalStart : Rule
  AssignStart : Rule
  NoStep : Rule
  AssignStep : Rule
  EndAssigns : Rule
  Assigns : Rule
  Expr : Rule
  ExprRest : Rule
  ExprSetting : Rule
  Chain : Rule
  Choice : Rule
  NoChoice : Rule
  Step : Rule
  NoTail : Rule
  LessOperation : Rule
  OtherOperation : Rule
  Operator : Rule
  Greater : Rule
  Second : Rule
  NoSecond : Rule
  Named : Rule
  NameRest : Rule
  CallRest : Rule
  NoCall : Rule
  Increment : Rule
  NoIncrement : Rule
  Unnamed : Rule
  Signed : Rule
  Incremented : Rule
  Round : Rule
  Sizeof : Rule
  Postfix : Rule
  Paren : Rule
  Cast : Rule
  Posts : Rule
  NoPosts : Rule
  Index : Rule
  Dot : Rule
  Arrow : Rule
  Constant : Rule
  Tested : Rule
  Trusted : Rule
  BoundsCast : Rule
  CastLimits : Rule
  NoCastLimits : Rule
  Literal : Rule
  String : Rule
  Null : Rule
  Eof : Rule

-- A production: the part that it makes, and what it is made of.
abbrev pub production : Rule → Part × List Symbol
-- text = { directive | "struct" name ";" | struct | [ "static" ] ( statics | proto | func ) }
production Text = (text, n items ∷ [])
production Directive = (items, k kind.Directive ∷ n items ∷ [])
production Structure = (items, k kind.Struct ∷ t name ∷ n structure ∷ n items ∷ [])
production Static = (items, k kind.Static ∷ n declaration ∷ n items ∷ [])
production Declaration = (items, n declared ∷ n items ∷ [])
production NoItems = (items, [])
-- After `struct` and a name: the `;` of a tag line, the members of a structure, or what is declared with that type
-- as its base. Each starts with another token, so the choice is made there.
production Tag = (structure, k kind.Semicolon ∷ [])
production Members = (structure, k kind.CurlyOpen ∷ n member ∷ n members ∷ k kind.CurlyClose ∷ k kind.Semicolon ∷ [])
production Structured = (structure, n declarators ∷ [])
-- After `static`: no tag line and no structure.
production StaticStruct = (declaration, k kind.Struct ∷ t name ∷ n declarators ∷ [])
production StaticOther = (declaration, n declared ∷ [])
-- statics | proto | func, unless a structure is the base: a head with a mode or with the result `void`, or a base
-- with what is declared.
production Moded = (declared, n mode ∷ n result_type ∷ t name ∷ n head ∷ [])
production Voided = (declared, k kind.Void ∷ t name ∷ n head ∷ [])
production Based = (declared, n scalar ∷ n declarators ∷ [])
-- After a base: stars and a name; then a head goes on at `(`, and everything else is an object with more objects.
-- statics = base object { "," object } ";"
production Declarators = (declarators, n stars ∷ t name ∷ n declarator ∷ [])
production Headed = (declarator, n head ∷ [])
production Objects = (declarator, n object_rest ∷ n objects ∷ [])
production MoreObjects = (objects, k kind.Comma ∷ n object ∷ n objects ∷ [])
production NoObjects = (objects, k kind.Semicolon ∷ [])
-- object = stars name [ array ] [ ":" limits ] [ "=" ( expr | "{" expr { "," expr } [ "," ] "}" ) ]
production Object = (object, n stars ∷ t name ∷ n object_rest ∷ [])
production ObjectRest = (object_rest, n array ∷ n declared_limits ∷ n initial ∷ [])
-- array = [ "_Checked" | "_Nt_checked" ] "[" [ number ] "]"
production RawArray = (array, k kind.SquareOpen ∷ n size ∷ k kind.SquareClose ∷ [])
production CheckedArray = (array, k kind.Checked ∷ k kind.SquareOpen ∷ n size ∷ k kind.SquareClose ∷ [])
production NtArray = (array, k kind.NtChecked ∷ k kind.SquareOpen ∷ n size ∷ k kind.SquareClose ∷ [])
production NoArray = (array, [])
production Size = (size, k kind.Number ∷ [])
production NoSize = (size, [])
production Initial = (initial, k kind.Equals ∷ n initializer ∷ [])
production NoInitial = (initial, [])
production ListInitial = (initializer, k kind.CurlyOpen ∷ n expr ∷ n list_rest ∷ [])
production OneInitial = (initializer, n expr ∷ [])
-- After an expression of a list: a `,`, after which the list may end, or the end.
production ListComma = (list_rest, k kind.Comma ∷ n list_more ∷ [])
production ListEnd = (list_rest, k kind.CurlyClose ∷ [])
production ListClose = (list_more, k kind.CurlyClose ∷ [])
production ListNext = (list_more, n expr ∷ n list_rest ∷ [])
-- proto = head ";" and func = head block, where
-- head = [ mode ] ( "void" | base stars ) name "(" [ "void" | param { "," param } ] ")" [ ":" limits ].
-- The part `head` is what stands after the name, with the `;` or the block.
production Head = (head, k kind.RoundOpen ∷ n params ∷ n declared_limits ∷ n body ∷ [])
production Prototype = (body, k kind.Semicolon ∷ [])
production Body = (body, k kind.CurlyOpen ∷ n block_items ∷ [])
production NoParams = (params, k kind.RoundClose ∷ [])
production VoidParams = (params, k kind.Void ∷ k kind.RoundClose ∷ [])
production Params = (params, n param ∷ n more_params ∷ [])
production MoreParams = (more_params, k kind.Comma ∷ n param ∷ n more_params ∷ [])
production EndParams = (more_params, k kind.RoundClose ∷ [])
-- param = base stars name [ ":" limits ]
production Param = (param, n base ∷ n slot ∷ [])
-- mode = "_Checked" | "_Unchecked"
production CheckedMode = (mode, k kind.Checked ∷ [])
production UncheckedMode = (mode, k kind.Unchecked ∷ [])
production VoidResult = (result_type, k kind.Void ∷ [])
production OtherResult = (result_type, n type_name ∷ [])
-- member = base stars name [ ":" limits ] { "," stars name [ ":" limits ] } ";"
production MoreMembers = (members, n member ∷ n members ∷ [])
production NoMembers = (members, [])
production Member = (member, n base ∷ n slot ∷ n slots ∷ [])
production Slot = (slot, n stars ∷ t name ∷ n declared_limits ∷ [])
production MoreSlots = (slots, k kind.Comma ∷ n slot ∷ n slots ∷ [])
production NoSlots = (slots, k kind.Semicolon ∷ [])
-- [ ":" limits ]
production DeclaredLimits = (declared_limits, k kind.Colon ∷ n limits ∷ [])
production NoLimits = (declared_limits, [])
-- base = "int" | "unsigned" [ "int" ] | "char" | "struct" name
--      | ( "_Ptr" | "_Array_ptr" | "_Nt_array_ptr" ) "<" type ">"
production StructBase = (base, k kind.Struct ∷ t name ∷ [])
production Scalar = (base, n scalar ∷ [])
production Int = (scalar, k kind.Int ∷ [])
production Unsigned = (scalar, k kind.Unsigned ∷ n unsigned_rest ∷ [])
production Char = (scalar, k kind.Char ∷ [])
production OnePointer = (scalar, k kind.Ptr ∷ k kind.Less ∷ n type_name ∷ t greater ∷ [])
production ArrayPointer = (scalar, k kind.ArrayPtr ∷ k kind.Less ∷ n type_name ∷ t greater ∷ [])
production NtPointer = (scalar, k kind.NtArrayPtr ∷ k kind.Less ∷ n type_name ∷ t greater ∷ [])
production UnsignedInt = (unsigned_rest, k kind.Int ∷ [])
production UnsignedAlone = (unsigned_rest, [])
-- type = base stars and stars = { "*" }
production TypeName = (type_name, n base ∷ n stars ∷ [])
production MoreStars = (stars, k kind.Star ∷ n stars ∷ [])
production NoStars = (stars, [])
-- limits = "count" "(" expr ")" | "byte_count" "(" expr ")" | "bounds" "(" ( "unknown" | expr "," expr ) ")"
production Count = (limits, k kind.Count ∷ k kind.RoundOpen ∷ n expr ∷ k kind.RoundClose ∷ [])
production ByteCount = (limits, k kind.ByteCount ∷ k kind.RoundOpen ∷ n expr ∷ k kind.RoundClose ∷ [])
production BoundsOf = (limits, k kind.Bounds ∷ k kind.RoundOpen ∷ n bounds_rest ∷ [])
-- After `bounds (`: `unknown` alone, or an expression that begins with the name `unknown`, with another name, or
-- with no name.
production Unknown = (bounds_rest, k kind.Unknown ∷ n unknown_rest ∷ [])
production BetweenNamed = (bounds_rest, t name_but_unknown ∷ n name_rest ∷ n expr_rest ∷ k kind.Comma ∷ n expr ∷ k kind.RoundClose ∷ [])
production Between = (bounds_rest, n first ∷ n expr_rest ∷ k kind.Comma ∷ n expr ∷ k kind.RoundClose ∷ [])
production UnknownEnd = (unknown_rest, k kind.RoundClose ∷ [])
production UnknownName = (unknown_rest, n name_rest ∷ n expr_rest ∷ k kind.Comma ∷ n expr ∷ k kind.RoundClose ∷ [])
-- block = "{" { local ";" | stmt } "}", after its `{`
production EndBlock = (block_items, k kind.CurlyClose ∷ [])
production Locals = (block_items, n locals ∷ n block_items ∷ [])
production Stmts = (block_items, n stmt ∷ n block_items ∷ [])
-- local = base lname { "," lname } and its ";"
production Local = (locals, n base ∷ n local ∷ n more_locals ∷ [])
production MoreLocals = (more_locals, k kind.Comma ∷ n local ∷ n more_locals ∷ [])
production NoLocals = (more_locals, k kind.Semicolon ∷ [])
-- lname = stars name [ ":" limits ] [ "=" right ]
production LocalName = (local, n stars ∷ t name ∷ n declared_limits ∷ n local_initial ∷ [])
production LocalInitial = (local_initial, k kind.Equals ∷ n value ∷ [])
production NoLocalInitial = (local_initial, [])
-- right = expr | calloc, as the part `value`: `calloc` may begin both.
production CallocValue = (value, k kind.Calloc ∷ n calloc_value ∷ [])
production NamedValue = (value, t name_but_calloc ∷ n name_rest ∷ n expr_rest ∷ [])
production Value = (value, n first ∷ n expr_rest ∷ [])
-- After `calloc` in a value: a `<`, which begins a type or is an operator; or what goes on with the name `calloc`.
production CallocCall = (calloc_value, k kind.RoundOpen ∷ n arguments ∷ n posts ∷ n increment ∷ n expr_rest ∷ [])
production CallocLess = (calloc_value, k kind.Less ∷ n less ∷ [])
production CallocPost = (calloc_value, n post ∷ n posts ∷ n increment ∷ n expr_rest ∷ [])
production CallocIncrement = (calloc_value, t increment_sign ∷ n expr_rest ∷ [])
production CallocSetting = (calloc_value, n setting ∷ [])
production CallocStep = (calloc_value, n operation_but_less ∷ n unary ∷ n chain ∷ [])
production CallocName = (calloc_value, n choice ∷ [])
production LessOperand = (less, n unary ∷ n chain ∷ [])
production LessType = (less, n allocation ∷ [])
-- call = name "(" [ expr { "," expr } ] ")" | calloc and
-- calloc = "calloc" "<" type ">" "(" expr "," "sizeof" "(" type ")" ")", after `(` and after `<`
production NoArguments = (arguments, k kind.RoundClose ∷ [])
production Arguments = (arguments, n expr ∷ n more_arguments ∷ [])
production MoreArguments = (more_arguments, k kind.Comma ∷ n expr ∷ n more_arguments ∷ [])
production EndArguments = (more_arguments, k kind.RoundClose ∷ [])
production Allocation = (allocation, n type_name ∷ t greater ∷ k kind.RoundOpen ∷ n expr ∷ k kind.Comma ∷ k kind.Sizeof ∷ k kind.RoundOpen ∷ n type_name ∷ k kind.RoundClose ∷ k kind.RoundClose ∷ [])
-- "=" right | op expr
production SetTo = (setting, k kind.Equals ∷ n value ∷ [])
production SetBy = (setting, t compound ∷ n expr ∷ [])
production LaterSetting = (later_setting, n setting ∷ [])
production NoSetting = (later_setting, [])
-- assign = unary "=" right | unary op expr | ( "++" | "--" ) unary | postfix ( "++" | "--" ): the unary is read
-- whole. If it begins or ends with `++` or `--`, nothing more is owed; after a sign, a cast or `sizeof` a setting is;
-- after any other postfix a setting or an increment.
production SettingChange = (change, n setting ∷ [])
production IncrementChange = (change, t increment_sign ∷ n later_setting ∷ [])
production NamedAssign = (assign, t name ∷ n call_rest ∷ n posts ∷ n change ∷ [])
production UnnamedAssign = (assign, n unnamed ∷ [])
production SignedAssign = (unnamed, t sign ∷ n unary ∷ n setting ∷ [])
production IncrementAssign = (unnamed, t increment_sign ∷ n unary ∷ n later_setting ∷ [])
production RoundAssign = (unnamed, k kind.RoundOpen ∷ n round_assign ∷ [])
production SizeofAssign = (unnamed, k kind.Sizeof ∷ k kind.RoundOpen ∷ n type_name ∷ k kind.RoundClose ∷ n setting ∷ [])
production PostfixAssign = (unnamed, n primary ∷ n posts ∷ n change ∷ [])
production ParenAssign = (round_assign, n expr ∷ k kind.RoundClose ∷ n posts ∷ n change ∷ [])
production CastAssign = (round_assign, n type_name ∷ k kind.RoundClose ∷ n unary ∷ n setting ∷ [])
-- stmt = [ mode ] block | ";" | assign ";" | call ";" | "if" "(" expr ")" stmt [ "else" stmt ]
--      | "while" "(" expr ")" stmt | "for" "(" [ base lname | assign ] ";" [ expr ] ";" [ assign ] ")" stmt
--      | "return" [ expr ] ";" | "break" ";" | "continue" ";" | "_Dynamic_check" "(" expr ")" ";"
--      | "_Bundled" "{" assign ";" assign ";" { assign ";" } "}"
production ModedBlock = (stmt, n mode ∷ k kind.CurlyOpen ∷ n block_items ∷ [])
production Block = (stmt, k kind.CurlyOpen ∷ n block_items ∷ [])
production Empty = (stmt, k kind.Semicolon ∷ [])
production If = (stmt, k kind.If ∷ k kind.RoundOpen ∷ n expr ∷ k kind.RoundClose ∷ n stmt ∷ n otherwise ∷ [])
production While = (stmt, k kind.While ∷ k kind.RoundOpen ∷ n expr ∷ k kind.RoundClose ∷ n stmt ∷ [])
production For = (stmt, k kind.For ∷ k kind.RoundOpen ∷ n for_start ∷ n condition ∷ n for_step ∷ n stmt ∷ [])
production Return = (stmt, k kind.Return ∷ n condition ∷ [])
production Break = (stmt, k kind.Break ∷ k kind.Semicolon ∷ [])
production Continue = (stmt, k kind.Continue ∷ k kind.Semicolon ∷ [])
production Check = (stmt, k kind.Check ∷ k kind.RoundOpen ∷ n expr ∷ k kind.RoundClose ∷ k kind.Semicolon ∷ [])
production Bundle = (stmt, k kind.Bundled ∷ k kind.CurlyOpen ∷ n assign ∷ k kind.Semicolon ∷ n assign ∷ k kind.Semicolon ∷ n assigns ∷ [])
production CallocStmt = (stmt, k kind.Calloc ∷ n calloc_stmt ∷ k kind.Semicolon ∷ [])
production NamedStmt = (stmt, t name_but_calloc ∷ n named_stmt ∷ k kind.Semicolon ∷ [])
production AssignStmt = (stmt, n unnamed ∷ k kind.Semicolon ∷ [])
-- After a name that begins a statement: the arguments of a call, which is all or the begin of a change; or a change.
-- After `calloc` a call goes on also at `<`, since no assignment does.
production CallocTypeStmt = (calloc_stmt, k kind.Less ∷ n allocation ∷ [])
production CallocNameStmt = (calloc_stmt, n named_stmt ∷ [])
production CallStmt = (named_stmt, k kind.RoundOpen ∷ n arguments ∷ n called_stmt ∷ [])
production ChangeStmt = (named_stmt, n posts ∷ n change ∷ [])
production CalledStmt = (called_stmt, [])
production CalledChange = (called_stmt, n posts ∷ n change ∷ [])
-- An `if` without `else` does not stand before `else`.
production Else = (otherwise, k kind.Else ∷ n stmt ∷ [])
production NoElse = (otherwise, [])
-- [ expr ] ";"
production NoCondition = (condition, k kind.Semicolon ∷ [])
production Condition = (condition, n expr ∷ k kind.Semicolon ∷ [])
-- [ base lname | assign ] ";"
production NoStart = (for_start, k kind.Semicolon ∷ [])
production LocalStart = (for_start, n base ∷ n local ∷ k kind.Semicolon ∷ [])
production AssignStart = (for_start, n assign ∷ k kind.Semicolon ∷ [])
-- [ assign ] ")"
production NoStep = (for_step, k kind.RoundClose ∷ [])
production AssignStep = (for_step, n assign ∷ k kind.RoundClose ∷ [])
-- { assign ";" } "}"
production EndAssigns = (assigns, k kind.CurlyClose ∷ [])
production Assigns = (assigns, n assign ∷ k kind.Semicolon ∷ n assigns ∷ [])
-- expr = unary "=" right | unary op expr | binary [ "?" expr ":" expr ]: all begin with a unary
production Expr = (expr, n unary ∷ n expr_rest ∷ [])
production ExprRest = (expr_rest, n chain ∷ [])
production ExprSetting = (expr_rest, n setting ∷ [])
production Chain = (chain, n tail ∷ n choice ∷ [])
production Choice = (choice, k kind.Question ∷ n expr ∷ k kind.Colon ∷ n expr ∷ [])
production NoChoice = (choice, [])
-- binary = operands joined by operators: the operators are read in a row, and the value joins the operands by how
-- tight the operators are.
production Step = (tail, n operation ∷ n unary ∷ n tail ∷ [])
production NoTail = (tail, [])
production LessOperation = (operation, k kind.Less ∷ [])
production OtherOperation = (operation, n operation_but_less ∷ [])
-- the operators but `<`: `>>` is a `>` with another directly after it
production Operator = (operation_but_less, t operator ∷ [])
production Greater = (operation_but_less, t greater ∷ n second ∷ [])
production Second = (second, k kind.GreaterNext ∷ [])
production NoSecond = (second, [])
-- unary = ( "-" | "+" | "!" | "~" | "*" | "&" | "++" | "--" ) unary | "(" type ")" unary | "sizeof" "(" type ")"
--       | postfix [ "++" | "--" ], where a name begins a postfix and `first` is everything that begins with no name
production Named = (unary, t name ∷ n name_rest ∷ [])
production NameRest = (name_rest, n call_rest ∷ n posts ∷ n increment ∷ [])
-- [ "(" [ expr { "," expr } ] ")" ] and [ "++" | "--" ]
production CallRest = (call_rest, k kind.RoundOpen ∷ n arguments ∷ [])
production NoCall = (call_rest, [])
production Increment = (increment, t increment_sign ∷ [])
production NoIncrement = (increment, [])
production Unnamed = (unary, n first ∷ [])
production Signed = (first, t sign ∷ n unary ∷ [])
production Incremented = (first, t increment_sign ∷ n unary ∷ [])
production Round = (first, k kind.RoundOpen ∷ n round ∷ [])
production Sizeof = (first, k kind.Sizeof ∷ k kind.RoundOpen ∷ n type_name ∷ k kind.RoundClose ∷ [])
production Postfix = (first, n primary ∷ n posts ∷ n increment ∷ [])
-- After `(`: a base begins the type of a cast, everything else an expression.
production Paren = (round, n expr ∷ k kind.RoundClose ∷ n posts ∷ n increment ∷ [])
production Cast = (round, n type_name ∷ k kind.RoundClose ∷ n unary ∷ [])
-- postfix = primary { "[" expr "]" | "." name | "->" name }
production Posts = (posts, n post ∷ n posts ∷ [])
production NoPosts = (posts, [])
production Index = (post, k kind.SquareOpen ∷ n expr ∷ k kind.SquareClose ∷ [])
production Dot = (post, k kind.Dot ∷ t name ∷ [])
production Arrow = (post, k kind.Arrow ∷ t name ∷ [])
-- primary = name | name "(" .. ")" | number | character | string | "NULL" | "EOF" | "(" expr ")"
--         | ( "_Dynamic_bounds_cast" | "_Assume_bounds_cast" ) "<" type ">" "(" expr [ "," limits ] ")"
production Constant = (primary, n constant ∷ [])
production Tested = (primary, k kind.Tested ∷ n bounds_cast ∷ [])
production Trusted = (primary, k kind.Trusted ∷ n bounds_cast ∷ [])
production BoundsCast = (bounds_cast, k kind.Less ∷ n type_name ∷ t greater ∷ k kind.RoundOpen ∷ n expr ∷ n cast_limits ∷ [])
production CastLimits = (cast_limits, k kind.Comma ∷ n limits ∷ k kind.RoundClose ∷ [])
production NoCastLimits = (cast_limits, k kind.RoundClose ∷ [])
-- number | character | string | "NULL" | "EOF"
production Literal = (constant, t literal ∷ [])
production String = (constant, k kind.Text ∷ [])
production Null = (constant, k kind.Null ∷ [])
production Eof = (constant, k kind.Eof ∷ [])

-- the part that a production makes
abbrev pub left : Rule → Part
left r = (production r).0

-- what a production is made of
abbrev pub right : Rule → List Symbol
right r = (production r).1

-- `else` goes with the nearest `if`: an `if` without one does not stand before `else`
abbrev pub not_else : Kind → Bool
not_else kind.Else = false
not_else _ = true

-- whether a token of the kind may follow where the production was used
abbrev pub allowed : Rule → Kind → Bool
allowed NoElse following = not_else following
allowed _ following = true
