-- What is held for each part of a text: what a value is made of, where the value is a function of what stands before.
use Rattle.std.specs.Prelude.{ℕ, List, [], ◌∷◌, ◌++◌, Option, None, Some, false, if◌then◌else◌}
use Rattle.ckc_base.specs.declared.places.Pos.{Pos}
use Rattle.ckc_base.specs.declared.arithmetic.Mode.{Mode}
use Rattle.ckc_syntax.specs.Spelled.{Spelled}
use Rattle.ckc_syntax.specs.code.Decoded.{decoded}
use Rattle.ckc_syntax.specs.declared.tree.Item.TheVariants as item
use Rattle.ckc_syntax.specs.declared.tree.TypeTree.TheVariants as ctype
use Rattle.ckc_syntax.specs.declared.tree.Length.{Length}
use Rattle.ckc_syntax.specs.declared.tree.Length.TheVariants as lengths
use Rattle.ckc_syntax.specs.declared.tree.Init.TheVariants as inits
use Rattle.ckc_syntax.specs.declared.tree.Limits.TheVariants as bounds
use Rattle.ckc_syntax.specs.declared.tree.Node.TheVariants as node
use Rattle.ckc_syntax.specs.declared.tree.Act.TheVariants as act
use Rattle.ckc_syntax.specs.declared.tree.TreeOp.TheVariants as op
use Rattle.ckc_parser_grammar.specs.declared.parts.Arms.{Arms}
use Rattle.ckc_parser_grammar.specs.declared.parts.Post.{Post}
use Rattle.ckc_parser_grammar.specs.declared.parts.Post.TheVariants as behind
use Rattle.ckc_parser_grammar.specs.declared.parts.Operation.{Operation}
use Rattle.ckc_parser_grammar.specs.declared.parts.Setting.{Setting}
use Rattle.ckc_parser_grammar.specs.code.Kinds.{kind_of_token, sign_op, compound_op, binary_op}
use Rattle.ckc_parser_grammar.specs.code.Grammar.{Part, Symbol, t, n, Rule, left, right}
use Rattle.ckc_parser_grammar.specs.code.Grammar as g
use Rattle.ckc_parser_grammar.specs.code.Trees.{Item, TypeTree, Decl, Init, Limits, Expr, Stmt, Step, expr_at, stmt_at, starred, statics, local_of, locals, function_of, posted, with_increment, by_one, set, changed, stepped, literal}
use Rattle.ckc_parser_grammar.specs.code.Values.{Value, directive_of, number_of, named, called_or_named, whole, finished, struct_type}
use Rattle.ckc_parser_grammar.specs.code.Values as v
use Rattle.ckc_parser_values.specs.declared.held.Slot.{Slot}
use Rattle.ckc_parser_values.specs.declared.held.Form.{Form}
use Rattle.ckc_parser_values.specs.declared.held.Form.TheVariants as form
use Rattle.ckc_parser_values.specs.declared.held.Held.{Held}
use Rattle.ckc_parser_values.specs.code.Acts.{declare, declare_each, is_second, mode_of, step_of, increment_of, mark}

-- the types of `calloc` and the count
pub record Allocated : Type 0 where
  pub element : TypeTree
  pub count : Expr
  pub sized : TypeTree

-- operators with their operands, and arms
pub record Chain : Type 0 where
  pub steps : List Step
  pub arms : Option Arms

-- what goes on with an expression
pub record Rest : Type 0 where
  pub steps : List Step
  pub arms : Option Arms
  pub setting : Option Setting

-- what goes on with a name in a unary
pub record NameRest : Type 0 where
  pub call : Option (List Expr)
  pub posts : List Post
  pub increment : Option Operation

-- what `calloc` goes on with in a value
pub data ValueRest : Type 0 where
  going : NameRest → Rest → ValueRest
  allocating : Allocated → ValueRest

-- what `calloc <` goes on with
pub data LessRest : Type 0 where
  compared : Expr → Chain → LessRest
  allocated : Allocated → LessRest

-- what changes an operand as a statement
pub record Change : Type 0 where
  pub increment : Option Operation
  pub setting : Option Setting

-- what a called name goes on with as a statement
pub record CalledRest : Type 0 where
  pub posts : List Post
  pub change : Change

-- what a name goes on with as a statement
pub record StmtRest : Type 0 where
  pub call : Option (List Expr)
  pub called : CalledRest

-- what `calloc` goes on with as a statement
pub data CallocRest : Type 0 where
  changing : StmtRest → CallocRest
  allocates : Allocated → CallocRest

-- what stands behind a `(`
pub data Rounded : Type 0 where
  paren : Expr → Rounded
  cast : TypeTree → Expr → Rounded

-- what stands behind a `(` that begins a statement
pub data RoundedStmt : Type 0 where
  paren_stmt : Stmt → RoundedStmt
  cast_stmt : TypeTree → Expr → Option Setting → RoundedStmt

-- what stands behind `bounds (`
pub data BoundsRest : Type 0 where
  unknown : BoundsRest
  between : Expr → Expr → BoundsRest

-- what stands behind `bounds ( unknown`
pub data UnknownRest : Type 0 where
  ended : UnknownRest
  going_on : NameRest → Rest → Expr → UnknownRest

-- the parameters, the limits of the result and the body
pub record HeadRest : Type 0 where
  pub params : List Decl
  pub bounds : Option Limits
  pub body : Option Stmt

pub record ObjectRest : Type 0 where
  pub length : Length
  pub bounds : Option Limits
  pub init : Init

pub data DeclaratorRest : Type 0 where
  headed : HeadRest → DeclaratorRest
  objects : ObjectRest → List Slot → DeclaratorRest

pub record Declarators : Type 0 where
  pub stars : List Pos
  pub name : Spelled
  pub rest : DeclaratorRest

pub data TagRest : Type 0 where
  tag : TagRest
  members : List Decl → TagRest
  structured : Declarators → TagRest

-- a bounds cast
pub record BoundsCast : Type 0 where
  pub type_tree : TypeTree
  pub operand : Expr
  pub bounds : Option Limits

-- a mode with its token
pub record Moded : Type 0 where
  pub which : Form
  pub token : Spelled

abbrev pub Kept : Part → Type 0
Kept g.text = List Item
Kept g.items = List Item
Kept g.structure = TagRest
Kept g.declaration = List Item
Kept g.declared = List Item
Kept g.declarators = Declarators
Kept g.declarator = DeclaratorRest
Kept g.objects = List Slot
Kept g.object = Slot
Kept g.object_rest = ObjectRest
Kept g.array = Length
Kept g.size = Option ℕ
Kept g.initial = Init
Kept g.initializer = Init
Kept g.list_rest = List Expr
Kept g.list_more = List Expr
Kept g.head = HeadRest
Kept g.body = Option Stmt
Kept g.params = List Decl
Kept g.more_params = List Decl
Kept g.param = Decl
Kept g.mode = Moded
Kept g.result_type = TypeTree
Kept g.members = List Decl
Kept g.member = List Decl
Kept g.slot = Slot
Kept g.slots = List Slot
Kept g.declared_limits = Option Limits
Kept g.base = TypeTree
Kept g.scalar = TypeTree
Kept g.unsigned_rest = Unit {0}
Kept g.type_name = TypeTree
Kept g.stars = List Pos
Kept g.limits = Limits
Kept g.bounds_rest = BoundsRest
Kept g.unknown_rest = UnknownRest
Kept g.block_items = List Stmt
Kept g.locals = List Decl
Kept g.more_locals = List Slot
Kept g.local = Slot
Kept g.local_initial = Init
Kept g.value = Expr
Kept g.calloc_value = ValueRest
Kept g.less = LessRest
Kept g.arguments = List Expr
Kept g.more_arguments = List Expr
Kept g.allocation = Allocated
Kept g.setting = Option Setting
Kept g.later_setting = Option Setting
Kept g.change = Change
Kept g.assign = Stmt
Kept g.unnamed = Stmt
Kept g.round_assign = RoundedStmt
Kept g.stmt = Stmt
Kept g.calloc_stmt = CallocRest
Kept g.named_stmt = StmtRest
Kept g.called_stmt = CalledRest
Kept g.otherwise = Option Stmt
Kept g.condition = Option Expr
Kept g.for_start = Option Stmt
Kept g.for_step = Option Stmt
Kept g.assigns = List Stmt
Kept g.expr = Expr
Kept g.expr_rest = Rest
Kept g.chain = Chain
Kept g.choice = Option Arms
Kept g.tail = List Step
Kept g.operation = Operation
Kept g.operation_but_less = Operation
Kept g.second = Form
Kept g.unary = Expr
Kept g.name_rest = NameRest
Kept g.call_rest = Option (List Expr)
Kept g.increment = Option Operation
Kept g.first = Expr
Kept g.round = Rounded
Kept g.posts = List Post
Kept g.post = Post
Kept g.primary = Expr
Kept g.bounds_cast = BoundsCast
Kept g.cast_limits = Option Limits
Kept g.constant = Expr

abbrev pub KeptOf : Symbol → Type 0
KeptOf (t c) = Spelled
KeptOf (n p) = Kept p

abbrev pub KeptAll : List Symbol → Type 0
KeptAll [] = Unit {0}
KeptAll (s ∷ ss) = KeptOf s × KeptAll ss

-- the expressions and statements that a name makes of what it goes on with
abbrev pub allocation_at : Spelled → Allocated → Expr
allocation_at name a = expr_at (node.Calloc a.element a.count a.sized) name.pos

abbrev pub unary_of : NameRest → Spelled → Expr
unary_of more name = with_increment (posted (called_or_named name more.call) more.posts) more.increment

abbrev pub rested : Expr → Rest → Expr
rested e r = finished e r.steps r.arms r.setting

abbrev pub value_expr : ValueRest → Spelled → Expr
value_expr (going more r) name = rested (unary_of more name) r
value_expr (allocating a) name = allocation_at name a

abbrev pub less_expr : LessRest → Spelled → Pos → Expr
less_expr (compared e c) name pos = whole (named name) (record { op = op.Lt; pos = pos; operand = e } ∷ c.steps) c.arms
less_expr (allocated a) name pos = allocation_at name a

abbrev pub name_stmt : StmtRest → Spelled → Stmt
name_stmt s name = changed (posted (called_or_named name s.call) s.called.posts) s.called.change.increment s.called.change.setting

abbrev pub calloc_stmt : CallocRest → Spelled → Stmt
calloc_stmt (changing s) name = name_stmt s name
calloc_stmt (allocates a) name = stmt_at (act.Call (allocation_at name a)) name.pos

abbrev pub round_stmt : RoundedStmt → Pos → Stmt
round_stmt (paren_stmt s) pos = s
round_stmt (cast_stmt c e s) pos = changed (expr_at (node.Cast c e) pos) None s

abbrev pub round_expr : Rounded → Pos → Expr
round_expr (paren e) pos = e
round_expr (cast c e) pos = expr_at (node.Cast c e) pos

abbrev pub bounds_at : BoundsRest → Pos → Limits
bounds_at unknown pos = bounds.Unknown pos
bounds_at (between e f) pos = bounds.Between e f pos

abbrev pub unknown_rest : UnknownRest → Spelled → BoundsRest
unknown_rest ended name = unknown
unknown_rest (going_on more r e) name = between (rested (unary_of more name) r) e

abbrev pub head_item : HeadRest → Option Mode → TypeTree → Spelled → Item
head_item h m result name = function_of (record { mode = m; result = result; name = name.text; params = h.params; bounds = h.bounds; pos = name.pos }) h.body

abbrev pub slot_of : List Pos → Spelled → ObjectRest → Slot
slot_of ps name o = record { stars = ps; name = name.text; pos = name.pos; length = o.length; bounds = o.bounds; init = o.init }

abbrev pub declared_items : DeclaratorRest → List Pos → Spelled → TypeTree → List Item
declared_items (headed h) ps name base = head_item h None (starred base ps) name ∷ []
declared_items (objects o ss) ps name base = statics (declare_each base (slot_of ps name o ∷ ss))

abbrev pub items_of : Declarators → TypeTree → List Item
items_of d base = declared_items d.rest d.stars d.name base

abbrev pub tag_items : TagRest → Spelled → List Item
tag_items tag name = item.Tag name.text name.pos ∷ []
tag_items (members ds) name = item.Struct name.text ds name.pos ∷ []
tag_items (structured d) name = items_of d (struct_type name)

-- what a declarator makes of the base, of the type with its stars, and of the name
abbrev pub declarator_items : DeclaratorRest → TypeTree → TypeTree → Spelled → List Item
declarator_items (headed h) base whole name = head_item h None whole name ∷ []
declarator_items (objects o ss) base whole name = statics (v.declared whole name o.length o.bounds o.init ∷ declare_each base ss)

-- a name alone
abbrev pub bare : NameRest
bare = record { call = None; posts = []; increment = None }

-- operators and arms without a setting
abbrev pub chained : List Step → Option Arms → Rest
chained ss c = record { steps = ss; arms = c; setting = None }

abbrev pub less_rest : LessRest → Pos → ValueRest
less_rest (compared e c) pos = going bare (chained (record { op = op.Lt; pos = pos; operand = e } ∷ c.steps) c.arms)
less_rest (allocated a) pos = allocating a

-- the value that is held
abbrev pub worth : (p : Part) → Kept p → Value
worth g.text k = v.tree (record { items = k })
worth g.items k = v.items k
worth g.structure k = v.items_of_name (λ name. tag_items k name)
worth g.declaration k = v.items k
worth g.declared k = v.items k
worth g.declarators k = v.items_of_base (λ base. items_of k base)
worth g.declarator k = v.items_of_declarator (λ base whole name. declarator_items k base whole name)
worth g.objects k = v.decls_of_base (λ base. declare_each base k)
worth g.object k = v.decl_of_base (λ base. declare base k)
worth g.object_rest k = v.decl_of_name (λ base name. v.declared base name k.length k.bounds k.init)
worth g.array k = v.length k
worth g.size k = v.size k
worth g.initial k = v.init k
worth g.initializer k = v.init k
worth g.list_rest k = v.exprs k
worth g.list_more k = v.exprs k
worth g.head k = v.item_of_head (λ m result name. head_item k m result name)
worth g.body k = v.part k
worth g.params k = v.decls k
worth g.more_params k = v.decls k
worth g.param k = v.decl k
worth g.mode k = v.mode (mode_of k.which) k.token.pos
worth g.result_type k = v.type_tree k
worth g.members k = v.decls k
worth g.member k = v.decls k
worth g.slot k = v.decl_of_base (λ base. declare base k)
worth g.slots k = v.decls_of_base (λ base. declare_each base k)
worth g.declared_limits k = v.declared_limits k
worth g.base k = v.type_tree k
worth g.scalar k = v.type_tree k
worth g.unsigned_rest k = v.nothing
worth g.type_name k = v.type_tree k
worth g.stars k = v.stars k
worth g.limits k = v.limits k
worth g.bounds_rest k = v.limits_at (λ pos. bounds_at k pos)
worth g.unknown_rest k = v.limits_of_unknown (λ pos name. bounds_at (unknown_rest k name) pos)
worth g.block_items k = v.stmts k
worth g.locals k = v.decls k
worth g.more_locals k = v.decls_of_base (λ base. declare_each base k)
worth g.local k = v.decl_of_base (λ base. declare base k)
worth g.local_initial k = v.init k
worth g.value k = v.expr k
worth g.calloc_value k = v.expr_of_name (λ name. value_expr k name)
worth g.less k = v.expr_of_less (λ name pos. less_expr k name pos)
worth g.arguments k = v.exprs k
worth g.more_arguments k = v.exprs k
worth g.allocation k = v.expr_of_name (λ name. allocation_at name k)
worth g.setting k = v.setting k
worth g.later_setting k = v.setting k
worth g.change k = v.change k.increment k.setting
worth g.assign k = v.stmt k
worth g.unnamed k = v.stmt k
worth g.round_assign k = v.stmt_behind (λ pos. round_stmt k pos)
worth g.stmt k = v.stmt k
worth g.calloc_stmt k = v.stmt_of_name (λ name. calloc_stmt k name)
worth g.named_stmt k = v.stmt_of_name (λ name. name_stmt k name)
worth g.called_stmt k = v.called_change k.posts k.change.increment k.change.setting
worth g.otherwise k = v.part k
worth g.condition k = v.value k
worth g.for_start k = v.part k
worth g.for_step k = v.part k
worth g.assigns k = v.stmts k
worth g.expr k = v.expr k
worth g.expr_rest k = v.rest k.steps k.arms k.setting
worth g.chain k = v.rest k.steps k.arms None
worth g.choice k = v.arms k
worth g.tail k = v.steps k
worth g.operation k = v.operator k.op k.pos
worth g.operation_but_less k = v.operator k.op k.pos
worth g.second k = v.second (is_second k)
worth g.unary k = v.expr k
worth g.name_rest k = v.expr_of_name (λ name. unary_of k name)
worth g.call_rest k = v.call k
worth g.increment k = v.increment k
worth g.first k = v.expr k
worth g.round k = v.expr_behind (λ pos. round_expr k pos)
worth g.posts k = v.posts k
worth g.post k = v.post k
worth g.primary k = v.expr k
worth g.bounds_cast k = v.cast k.type_tree k.operand k.bounds
worth g.cast_limits k = v.declared_limits k
worth g.constant k = v.expr k

-- what stands on the stacks for it
abbrev pub put_allocated : Allocated → Held → Held
put_allocated a w = record w { types = a.element ∷ a.sized ∷ w.types; exprs = a.count ∷ w.exprs }

abbrev pub put_chain : Chain → Held → Held
put_chain c w = record w { steps = c.steps ∷ w.steps; arms = c.arms ∷ w.arms }

abbrev pub put_rest : Rest → Held → Held
put_rest r w = record w { steps = r.steps ∷ w.steps; arms = r.arms ∷ w.arms; settings = r.setting ∷ w.settings }

abbrev pub put_name : NameRest → Held → Held
put_name more w = record w { calls = more.call ∷ w.calls; posts = more.posts ∷ w.posts; increments = more.increment ∷ w.increments }

abbrev pub put_value : ValueRest → Held → Held
put_value (going more r) w = mark form.First (put_name more (put_rest r w))
put_value (allocating a) w = mark form.Second (put_allocated a w)

abbrev pub put_less : LessRest → Held → Held
put_less (compared e c) w = record w { forms = form.First ∷ w.forms; exprs = e ∷ w.exprs; steps = c.steps ∷ w.steps; arms = c.arms ∷ w.arms }
put_less (allocated a) w = mark form.Second (put_allocated a w)

abbrev pub put_change : Change → Held → Held
put_change c w = record w { increments = c.increment ∷ w.increments; settings = c.setting ∷ w.settings }

abbrev pub put_called : CalledRest → Held → Held
put_called c w = (let u = put_change c.change w in record u { posts = c.posts ∷ u.posts })

abbrev pub put_stmt_rest : StmtRest → Held → Held
put_stmt_rest s w = (let u = put_called s.called w in record u { calls = s.call ∷ u.calls })

abbrev pub put_calloc : CallocRest → Held → Held
put_calloc (changing s) w = mark form.First (put_stmt_rest s w)
put_calloc (allocates a) w = mark form.Second (put_allocated a w)

abbrev pub put_round : Rounded → Held → Held
put_round (paren e) w = record w { forms = form.First ∷ w.forms; exprs = e ∷ w.exprs }
put_round (cast c e) w = record w { forms = form.Second ∷ w.forms; types = c ∷ w.types; exprs = e ∷ w.exprs }

abbrev pub put_round_stmt : RoundedStmt → Held → Held
put_round_stmt (paren_stmt s) w = record w { forms = form.First ∷ w.forms; stmts = s ∷ w.stmts }
put_round_stmt (cast_stmt c e s) w = record w { forms = form.Second ∷ w.forms; types = c ∷ w.types; exprs = e ∷ w.exprs; settings = s ∷ w.settings }

abbrev pub put_bounds : BoundsRest → Held → Held
put_bounds unknown w = mark form.First w
put_bounds (between e f) w = record w { forms = form.Second ∷ w.forms; exprs = e ∷ f ∷ w.exprs }

abbrev pub put_unknown : UnknownRest → Held → Held
put_unknown ended w = mark form.First w
put_unknown (going_on more r e) w = mark form.Second (put_name more (put_rest r (record w { exprs = e ∷ w.exprs })))

abbrev pub put_head : HeadRest → Held → Held
put_head h w = record w { decl_lists = h.params ∷ w.decl_lists; bounds = h.bounds ∷ w.bounds; parts = h.body ∷ w.parts }

abbrev pub put_object : ObjectRest → Held → Held
put_object o w = record w { lengths = o.length ∷ w.lengths; bounds = o.bounds ∷ w.bounds; inits = o.init ∷ w.inits }

abbrev pub put_declarator : DeclaratorRest → Held → Held
put_declarator (headed h) w = mark form.First (put_head h w)
put_declarator (objects o ss) w = mark form.Second (put_object o (record w { slot_lists = ss ∷ w.slot_lists }))

-- the stars and the name stand on top of what is behind them
abbrev pub put_starred : List Pos → Spelled → Held → Held
put_starred ps name w = record w { stars = ps ∷ w.stars; tokens = name ∷ w.tokens }

abbrev pub put_declarators : Declarators → Held → Held
put_declarators d w = put_starred d.stars d.name (put_declarator d.rest w)

abbrev pub put_tag : TagRest → Held → Held
put_tag tag w = mark form.First w
put_tag (members ds) w = record w { forms = form.Second ∷ w.forms; decl_lists = ds ∷ w.decl_lists }
put_tag (structured d) w = mark form.Third (put_declarators d w)

abbrev pub put : (p : Part) → Kept p → Held → Held
put g.text k w = record w { items = k ∷ w.items }
put g.items k w = record w { items = k ∷ w.items }
put g.structure k w = put_tag k w
put g.declaration k w = record w { items = k ∷ w.items }
put g.declared k w = record w { items = k ∷ w.items }
put g.declarators k w = put_declarators k w
put g.declarator k w = put_declarator k w
put g.objects k w = record w { slot_lists = k ∷ w.slot_lists }
put g.object k w = record w { slots = k ∷ w.slots }
put g.object_rest k w = put_object k w
put g.array k w = record w { lengths = k ∷ w.lengths }
put g.size k w = record w { sizes = k ∷ w.sizes }
put g.initial k w = record w { inits = k ∷ w.inits }
put g.initializer k w = record w { inits = k ∷ w.inits }
put g.list_rest k w = record w { expr_lists = k ∷ w.expr_lists }
put g.list_more k w = record w { expr_lists = k ∷ w.expr_lists }
put g.head k w = put_head k w
put g.body k w = record w { parts = k ∷ w.parts }
put g.params k w = record w { decl_lists = k ∷ w.decl_lists }
put g.more_params k w = record w { decl_lists = k ∷ w.decl_lists }
put g.param k w = record w { decls = k ∷ w.decls }
put g.mode k w = record w { tokens = k.token ∷ w.tokens; forms = k.which ∷ w.forms }
put g.result_type k w = record w { types = k ∷ w.types }
put g.members k w = record w { decl_lists = k ∷ w.decl_lists }
put g.member k w = record w { decl_lists = k ∷ w.decl_lists }
put g.slot k w = record w { slots = k ∷ w.slots }
put g.slots k w = record w { slot_lists = k ∷ w.slot_lists }
put g.declared_limits k w = record w { bounds = k ∷ w.bounds }
put g.base k w = record w { types = k ∷ w.types }
put g.scalar k w = record w { types = k ∷ w.types }
put g.unsigned_rest k w = w
put g.type_name k w = record w { types = k ∷ w.types }
put g.stars k w = record w { stars = k ∷ w.stars }
put g.limits k w = record w { limits = k ∷ w.limits }
put g.bounds_rest k w = put_bounds k w
put g.unknown_rest k w = put_unknown k w
put g.block_items k w = record w { stmt_lists = k ∷ w.stmt_lists }
put g.locals k w = record w { decl_lists = k ∷ w.decl_lists }
put g.more_locals k w = record w { slot_lists = k ∷ w.slot_lists }
put g.local k w = record w { slots = k ∷ w.slots }
put g.local_initial k w = record w { inits = k ∷ w.inits }
put g.value k w = record w { exprs = k ∷ w.exprs }
put g.calloc_value k w = put_value k w
put g.less k w = put_less k w
put g.arguments k w = record w { expr_lists = k ∷ w.expr_lists }
put g.more_arguments k w = record w { expr_lists = k ∷ w.expr_lists }
put g.allocation k w = put_allocated k w
put g.setting k w = record w { settings = k ∷ w.settings }
put g.later_setting k w = record w { settings = k ∷ w.settings }
put g.change k w = put_change k w
put g.assign k w = record w { stmts = k ∷ w.stmts }
put g.unnamed k w = record w { stmts = k ∷ w.stmts }
put g.round_assign k w = put_round_stmt k w
put g.stmt k w = record w { stmts = k ∷ w.stmts }
put g.calloc_stmt k w = put_calloc k w
put g.named_stmt k w = put_stmt_rest k w
put g.called_stmt k w = put_called k w
put g.otherwise k w = record w { parts = k ∷ w.parts }
put g.condition k w = record w { values = k ∷ w.values }
put g.for_start k w = record w { parts = k ∷ w.parts }
put g.for_step k w = record w { parts = k ∷ w.parts }
put g.assigns k w = record w { stmt_lists = k ∷ w.stmt_lists }
put g.expr k w = record w { exprs = k ∷ w.exprs }
put g.expr_rest k w = put_rest k w
put g.chain k w = put_chain k w
put g.choice k w = record w { arms = k ∷ w.arms }
put g.tail k w = record w { steps = k ∷ w.steps }
put g.operation k w = record w { operators = k ∷ w.operators }
put g.operation_but_less k w = record w { operators = k ∷ w.operators }
put g.second k w = record w { forms = k ∷ w.forms }
put g.unary k w = record w { exprs = k ∷ w.exprs }
put g.name_rest k w = put_name k w
put g.call_rest k w = record w { calls = k ∷ w.calls }
put g.increment k w = record w { increments = k ∷ w.increments }
put g.first k w = record w { exprs = k ∷ w.exprs }
put g.round k w = put_round k w
put g.posts k w = record w { posts = k ∷ w.posts }
put g.post k w = record w { one_post = k ∷ w.one_post }
put g.primary k w = record w { exprs = k ∷ w.exprs }
put g.bounds_cast k w = record w { types = k.type_tree ∷ w.types; exprs = k.operand ∷ w.exprs; bounds = k.bounds ∷ w.bounds }
put g.cast_limits k w = record w { bounds = k ∷ w.bounds }
put g.constant k w = record w { exprs = k ∷ w.exprs }

abbrev pub worth_of : (s : Symbol) → KeptOf s → Value
worth_of (t c) k = v.token k
worth_of (n p) k = worth p k

abbrev pub worths : (ss : List Symbol) → KeptAll ss → List Value
worths [] ks = []
worths (s ∷ ss) ks = worth_of s ks.0 ∷ worths ss ks.1

abbrev pub put_one : (s : Symbol) → KeptOf s → Held → Held
put_one (t c) k w = record w { tokens = k ∷ w.tokens }
put_one (n p) k w = put p k w

abbrev pub put_all : (ss : List Symbol) → KeptAll ss → Held → Held
put_all [] ks w = w
put_all (s ∷ ss) ks w = put_one s ks.0 (put_all ss ks.1 w)

-- what is held for a production, by what is held for its symbols
abbrev pub close : (r : Rule) → KeptAll (right r) → Kept (left r)
close g.Text (is, z) = is
close g.Directive (d, (is, z)) = item.Directive (directive_of d.kind) ∷ is
close g.Structure (s, (name, (d, (is, z)))) = tag_items d name ++ is
close g.Static (s, (d, (is, z))) = d ++ is
close g.Declaration (d, (is, z)) = d ++ is
close g.NoItems z = []
close g.Tag (a, z) = tag
close g.Members (a, (m, (ms, (b, (c, z))))) = members (m ++ ms)
close g.Structured (d, z) = structured d
close g.StaticStruct (s, (name, (d, z))) = items_of d (struct_type name)
close g.StaticOther (d, z) = d
close g.Moded (m, (r, (name, (h, z)))) = head_item h (Some (mode_of m.which)) r name ∷ []
close g.Voided (o, (name, (h, z))) = head_item h None ctype.Void name ∷ []
close g.Based (b, (d, z)) = items_of d b
close g.Declarators (ps, (name, (d, z))) = record { stars = ps; name = name; rest = d }
close g.Headed (h, z) = headed h
close g.Objects (o, (os, z)) = objects o os
close g.MoreObjects (c, (o, (os, z))) = o ∷ os
close g.NoObjects (a, z) = []
close g.Object (ps, (name, (o, z))) = slot_of ps name o
close g.ObjectRest (a, (b, (i, z))) = record { length = a; bounds = b; init = i }
close g.RawArray (a, (s, (b, z))) = lengths.Raw s a.pos
close g.CheckedArray (c, (a, (s, (b, z)))) = lengths.Checked s
close g.NtArray (c, (a, (s, (b, z)))) = lengths.Nt s
close g.NoArray z = lengths.Plain
close g.Size (x, z) = Some (number_of x.kind)
close g.NoSize z = None
close g.Initial (e, (i, z)) = i
close g.NoInitial z = inits.Nothing
close g.ListInitial (a, (e, (es, z))) = inits.Many (e ∷ es)
close g.OneInitial (e, z) = inits.One e
close g.ListComma (c, (es, z)) = es
close g.ListEnd (a, z) = []
close g.ListClose (a, z) = []
close g.ListNext (e, (es, z)) = e ∷ es
close g.Head (a, (ps, (b, (s, z)))) = record { params = ps; bounds = b; body = s }
close g.Prototype (a, z) = None
close g.Body (a, (ss, z)) = Some (stmt_at (act.Block None ss) a.pos)
close g.NoParams (b, z) = []
close g.VoidParams (o, (b, z)) = []
close g.Params (p, (ps, z)) = p ∷ ps
close g.MoreParams (c, (p, (ps, z))) = p ∷ ps
close g.EndParams (b, z) = []
close g.Param (b, (s, z)) = declare b s
close g.CheckedMode (m, z) = record { which = form.First; token = m }
close g.UncheckedMode (m, z) = record { which = form.Second; token = m }
close g.VoidResult (o, z) = ctype.Void
close g.OtherResult (c, z) = c
close g.MoreMembers (m, (ms, z)) = m ++ ms
close g.NoMembers z = []
close g.Member (b, (s, (ss, z))) = declare_each b (s ∷ ss)
close g.Slot (ps, (name, (b, z))) = slot_of ps name (record { length = lengths.Plain; bounds = b; init = inits.Nothing })
close g.MoreSlots (c, (s, (ss, z))) = s ∷ ss
close g.NoSlots (a, z) = []
close g.DeclaredLimits (c, (l, z)) = Some l
close g.NoLimits z = None
close g.StructBase (s, (name, z)) = struct_type name
close g.Scalar (b, z) = b
close g.Int (a, z) = ctype.Int
close g.Unsigned (a, (b, z)) = ctype.Unsigned
close g.Char (a, z) = ctype.Char
close g.OnePointer (a, (b, (c, (d, z)))) = ctype.One c
close g.ArrayPointer (a, (b, (c, (d, z)))) = ctype.Arr c
close g.NtPointer (a, (b, (c, (d, z)))) = ctype.Nt c
close g.UnsignedInt (a, z) = tt
close g.UnsignedAlone z = tt
close g.TypeName (b, (ps, z)) = starred b ps
close g.MoreStars (s, (ps, z)) = s.pos ∷ ps
close g.NoStars z = []
close g.Count (c, (a, (e, (b, z)))) = bounds.Count e c.pos
close g.ByteCount (c, (a, (e, (b, z)))) = bounds.ByteCount e c.pos
close g.BoundsOf (b, (a, (r, z))) = bounds_at r b.pos
close g.Unknown (u, (r, z)) = unknown_rest r u
close g.BetweenNamed (name, (more, (r, (d, (e, (b, z)))))) = between (rested (unary_of more name) r) e
close g.Between (f, (r, (d, (e, (b, z))))) = between (rested f r) e
close g.UnknownEnd (b, z) = ended
close g.UnknownName (more, (r, (d, (e, (b, z))))) = going_on more r e
close g.EndBlock (b, z) = []
close g.Locals (ds, (ss, z)) = locals ds ++ ss
close g.Stmts (s, (ss, z)) = s ∷ ss
close g.Local (b, (d, (ds, z))) = declare_each b (d ∷ ds)
close g.MoreLocals (c, (d, (ds, z))) = d ∷ ds
close g.NoLocals (a, z) = []
close g.LocalName (ps, (name, (b, (i, z)))) = slot_of ps name (record { length = lengths.Plain; bounds = b; init = i })
close g.LocalInitial (e, (x, z)) = inits.One x
close g.NoLocalInitial z = inits.Nothing
close g.CallocValue (name, (x, z)) = value_expr x name
close g.NamedValue (name, (more, (r, z))) = rested (unary_of more name) r
close g.Value (f, (r, z)) = rested f r
close g.CallocCall (a, (es, (ps, (i, (r, z))))) = going (record { call = Some es; posts = ps; increment = i }) r
close g.CallocLess (a, (x, z)) = less_rest x a.pos
close g.CallocPost (p, (ps, (i, (r, z)))) = going (record { call = None; posts = p ∷ ps; increment = i }) r
close g.CallocIncrement (o, (r, z)) = going (record { call = None; posts = []; increment = Some (increment_of o) }) r
close g.CallocSetting (s, z) = going bare (record { steps = []; arms = None; setting = s })
close g.CallocStep (o, (e, (r, z))) = going bare (chained (step_of o e ∷ r.steps) r.arms)
close g.CallocName (c, z) = going bare (chained [] c)
close g.LessOperand (e, (r, z)) = compared e r
close g.LessType (a, z) = allocated a
close g.NoArguments (b, z) = []
close g.Arguments (e, (es, z)) = e ∷ es
close g.MoreArguments (c, (e, (es, z))) = e ∷ es
close g.EndArguments (b, z) = []
close g.Allocation (c, (a, (b, (e, (d, (s, (f, (u, (i, (j, z)))))))))) = record { element = c; count = e; sized = u }
close g.SetTo (a, (x, z)) = Some (record { op = None; pos = a.pos; value = x })
close g.SetBy (o, (e, z)) = Some (record { op = Some (compound_op (kind_of_token o)); pos = o.pos; value = e })
close g.LaterSetting (s, z) = s
close g.NoSetting z = None
close g.SettingChange (s, z) = record { increment = None; setting = s }
close g.IncrementChange (o, (s, z)) = record { increment = Some (increment_of o); setting = s }
close g.NamedAssign (name, (c, (ps, (d, z)))) = changed (posted (called_or_named name c) ps) d.increment d.setting
close g.UnnamedAssign (s, z) = s
close g.SignedAssign (a, (e, (s, z))) = changed (expr_at (node.Un (sign_op (kind_of_token a)) e) a.pos) None s
close g.IncrementAssign (o, (e, (s, z))) = stepped e (increment_of o) s
close g.RoundAssign (a, (r, z)) = round_stmt r a.pos
close g.SizeofAssign (x, (a, (c, (b, (s, z))))) = changed (expr_at (node.Size c) x.pos) None s
close g.PostfixAssign (e, (ps, (d, z))) = changed (posted e ps) d.increment d.setting
close g.ParenAssign (e, (b, (ps, (d, z)))) = paren_stmt (changed (posted e ps) d.increment d.setting)
close g.CastAssign (c, (b, (e, (s, z)))) = cast_stmt c e s
close g.ModedBlock (m, (a, (ss, z))) = stmt_at (act.Block (Some (mode_of m.which)) ss) m.token.pos
close g.Block (a, (ss, z)) = stmt_at (act.Block None ss) a.pos
close g.Empty (a, z) = stmt_at act.Empty a.pos
close g.If (i, (a, (e, (b, (s, (o, z)))))) = stmt_at (act.If e s o) i.pos
close g.While (x, (a, (e, (b, (s, z))))) = stmt_at (act.While e s) x.pos
close g.For (f, (a, (i, (c, (p, (s, z)))))) = stmt_at (act.For i c p s) f.pos
close g.Return (r, (e, z)) = stmt_at (act.Return e) r.pos
close g.Break (b, (a, z)) = stmt_at act.Break b.pos
close g.Continue (c, (a, z)) = stmt_at act.Continue c.pos
close g.Check (c, (a, (e, (b, (d, z))))) = stmt_at (act.Check e) c.pos
close g.Bundle (b, (a, (s, (c, (u, (d, (ss, z))))))) = stmt_at (act.Bundle (s ∷ u ∷ ss)) b.pos
close g.CallocStmt (name, (s, (a, z))) = calloc_stmt s name
close g.NamedStmt (name, (s, (a, z))) = name_stmt s name
close g.AssignStmt (s, (a, z)) = s
close g.CallocTypeStmt (a, (x, z)) = allocates x
close g.CallocNameStmt (s, z) = changing s
close g.CallStmt (a, (es, (c, z))) = record { call = Some es; called = c }
close g.ChangeStmt (ps, (d, z)) = record { call = None; called = record { posts = ps; change = d } }
close g.CalledStmt z = record { posts = []; change = record { increment = None; setting = None } }
close g.CalledChange (ps, (d, z)) = record { posts = ps; change = d }
close g.Else (e, (s, z)) = Some s
close g.NoElse z = None
close g.NoCondition (a, z) = None
close g.Condition (e, (a, z)) = Some e
close g.NoStart (a, z) = None
close g.LocalStart (b, (d, (a, z))) = Some (local_of (declare b d))
close g.AssignStart (s, (a, z)) = Some s
close g.NoStep (b, z) = None
close g.AssignStep (s, (b, z)) = Some s
close g.EndAssigns (b, z) = []
close g.Assigns (s, (a, (ss, z))) = s ∷ ss
close g.Expr (e, (r, z)) = rested e r
close g.ExprRest (c, z) = chained c.steps c.arms
close g.ExprSetting (s, z) = record { steps = []; arms = None; setting = s }
close g.Chain (ss, (c, z)) = record { steps = ss; arms = c }
close g.Choice (q, (e, (c, (f, z)))) = Some (record { pos = q.pos; yes = e; no = f })
close g.NoChoice z = None
close g.Step (o, (e, (ss, z))) = step_of o e ∷ ss
close g.NoTail z = []
close g.LessOperation (a, z) = record { op = op.Lt; pos = a.pos }
close g.OtherOperation (o, z) = o
close g.Operator (a, z) = record { op = binary_op (kind_of_token a); pos = a.pos }
close g.Greater (a, (b, z)) = record { op = if is_second b then op.Shr else op.Gt; pos = a.pos }
close g.Second (a, z) = form.Second
close g.NoSecond z = form.First
close g.Named (name, (more, z)) = unary_of more name
close g.NameRest (c, (ps, (i, z))) = record { call = c; posts = ps; increment = i }
close g.CallRest (a, (es, z)) = Some es
close g.NoCall z = None
close g.Increment (o, z) = Some (increment_of o)
close g.NoIncrement z = None
close g.Unnamed (e, z) = e
close g.Signed (a, (e, z)) = expr_at (node.Un (sign_op (kind_of_token a)) e) a.pos
close g.Incremented (o, (e, z)) = set e (by_one (increment_of o))
close g.Round (a, (e, z)) = round_expr e a.pos
close g.Sizeof (s, (a, (c, (b, z)))) = expr_at (node.Size c) s.pos
close g.Postfix (e, (ps, (i, z))) = with_increment (posted e ps) i
close g.Paren (e, (b, (ps, (i, z)))) = paren (with_increment (posted e ps) i)
close g.Cast (c, (b, (e, z))) = cast c e
close g.Posts (p, (ps, z)) = p ∷ ps
close g.NoPosts z = []
close g.Index (a, (e, (b, z))) = behind.Index e a.pos
close g.Dot (a, (name, z)) = behind.Dot name.text name.pos a.pos
close g.Arrow (a, (name, z)) = behind.Arrow name.text name.pos a.pos
close g.Constant (e, z) = e
close g.Tested (x, (c, z)) = expr_at (node.Tested c.type_tree c.operand c.bounds) x.pos
close g.Trusted (x, (c, z)) = expr_at (node.Trusted c.type_tree c.operand c.bounds) x.pos
close g.BoundsCast (a, (c, (b, (d, (e, (l, z)))))) = record { type_tree = c; operand = e; bounds = l }
close g.CastLimits (c, (l, (b, z))) = Some l
close g.NoCastLimits (b, z) = None
close g.Literal (x, z) = expr_at (literal x.kind) x.pos
close g.String (x, z) = expr_at (node.Text (decoded x.text)) x.pos
close g.Null (a, z) = expr_at node.Null a.pos
close g.Eof (a, z) = expr_at (node.Number 4294967295 false) a.pos
