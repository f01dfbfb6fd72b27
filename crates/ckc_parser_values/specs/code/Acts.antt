-- What each action of the second pass does to the stacks. What it takes stands on top, where the trace of a text has
-- put it; the defaults stand for an empty stack, at which the code stops.
use Rattle.std.specs.Prelude.{ℕ, List, [], ◌∷◌, ◌++◌, Option, None, Some, Bool, true, false, if◌then◌else◌, get_or, drop}
use Rattle.ckc_base.specs.declared.places.Pos.{Pos}
use Rattle.ckc_base.specs.declared.arithmetic.Mode.{Mode}
use Rattle.ckc_base.specs.declared.arithmetic.Mode.TheVariants as modes
use Rattle.ckc_syntax.specs.Spelled.{Spelled}
use Rattle.ckc_syntax.specs.code.Decoded.{decoded}
use Rattle.ckc_syntax.specs.declared.tree.Item.TheVariants as item
use Rattle.ckc_syntax.specs.declared.tree.TypeTree.TheVariants as ctype
use Rattle.ckc_syntax.specs.declared.tree.Length.{Length}
use Rattle.ckc_syntax.specs.declared.tree.Length.TheVariants as lengths
use Rattle.ckc_syntax.specs.declared.tree.Init.TheVariants as inits
use Rattle.ckc_syntax.specs.declared.tree.Limits.TheVariants as bounds
use Rattle.ckc_syntax.specs.declared.tree.Node.TheVariants as node
use Rattle.ckc_syntax.specs.declared.tree.Act.TheVariants as act
use Rattle.ckc_syntax.specs.declared.tree.TreeOp.{TreeOp}
use Rattle.ckc_syntax.specs.declared.tree.TreeOp.TheVariants as op
use Rattle.ckc_parser_grammar.specs.declared.parts.Post.TheVariants as behind
use Rattle.ckc_parser_grammar.specs.declared.parts.Operation.{Operation}
use Rattle.ckc_parser_grammar.specs.declared.parts.Setting.{Setting}
use Rattle.ckc_parser_grammar.specs.code.Kinds.{kind_of_token, sign_op, increment_op, compound_op, binary_op}
use Rattle.ckc_parser_grammar.specs.code.Trees.{TypeTree, Decl, Limits, Expr, Stmt, Step, expr_at, stmt_at, starred, statics, local_of, locals, function_of, posted, with_increment, by_one, set, changed, stepped, literal}
use Rattle.ckc_parser_grammar.specs.code.Values.{nowhere, no_token, no_expr, no_stmt, no_decl, directive_of, number_of, called_or_named, finished, struct_type}
use Rattle.ckc_parser_values.specs.declared.held.Held.{Held}
use Rattle.ckc_parser_values.specs.declared.held.Slot.{Slot}
use Rattle.ckc_parser_values.specs.declared.held.Form.{Form}
use Rattle.ckc_parser_values.specs.declared.held.Form.TheVariants as form

-- empty stacks
abbrev pub nothing : Held
nothing = record { tokens = []; forms = []; sizes = []; lengths = []; operators = []; exprs = []; expr_lists = []; calls = []; values = []; one_post = []; posts = []; steps = []; arms = []; increments = []; settings = []; types = []; stars = []; limits = []; bounds = []; inits = []; slots = []; slot_lists = []; decls = []; decl_lists = []; stmts = []; stmt_lists = []; parts = []; items = []; copies = tt }

-- what stands on top
abbrev pub top_token : Held → Spelled
top_token h = get_or h.tokens 0 no_token

abbrev pub top_form : Held → Form
top_form h = get_or h.forms 0 form.First

abbrev pub top_expr : Held → Expr
top_expr h = get_or h.exprs 0 no_expr

abbrev pub next_expr : Held → Expr
next_expr h = get_or h.exprs 1 no_expr

abbrev pub top_increment : Held → Option Operation
top_increment h = get_or h.increments 0 None

abbrev pub top_setting : Held → Option Setting
top_setting h = get_or h.settings 0 None

abbrev pub top_stmt : Held → Stmt
top_stmt h = get_or h.stmts 0 no_stmt

abbrev pub top_type : Held → TypeTree
top_type h = get_or h.types 0 ctype.Int

abbrev pub top_bounds : Held → Option Limits
top_bounds h = get_or h.bounds 0 None

abbrev pub top_part : Held → Option Stmt
top_part h = get_or h.parts 0 None

abbrev pub top_value : Held → Option Expr
top_value h = get_or h.values 0 None

abbrev pub no_slot : Slot
no_slot = record { stars = []; name = []; pos = nowhere; length = lengths.Plain; bounds = None; init = inits.Nothing }

-- the place of the top token
abbrev pub place : Held → Pos
place h = (top_token h).pos

-- a declaration by the type that stands before it
abbrev pub declare : TypeTree → Slot → Decl
declare base s = record { ctype = starred base s.stars; name = s.name; length = s.length; bounds = s.bounds; init = s.init; pos = s.pos }

abbrev pub declare_each : TypeTree → List Slot → List Decl
declare_each base [] = []
declare_each base (s ∷ ss) = declare base s ∷ declare_each base ss

abbrev pub is_second : Form → Bool
is_second form.Second = true
is_second _ = false

abbrev pub mode_of : Form → Mode
mode_of form.Second = modes.Unchecked
mode_of _ = modes.Checked

-- tokens and forms
abbrev pub skip : Held → Held
skip h = record h { tokens = drop 1 h.tokens }

abbrev pub mark : Form → Held → Held
mark f h = record h { forms = f ∷ h.forms }

abbrev pub unmark : Held → Held
unmark h = record h { forms = drop 1 h.forms }

-- expressions
-- a name, which is called if arguments stand after it
abbrev pub name_expr : Held → Held
name_expr h = record h { tokens = drop 1 h.tokens; calls = drop 1 h.calls; exprs = called_or_named (top_token h) (get_or h.calls 0 None) ∷ h.exprs }

abbrev pub post_expr : Held → Held
post_expr h = record h { posts = drop 1 h.posts; exprs = posted (top_expr h) (get_or h.posts 0 []) ∷ drop 1 h.exprs }

abbrev pub increment_expr : Held → Held
increment_expr h = record h { increments = drop 1 h.increments; exprs = with_increment (top_expr h) (top_increment h) ∷ drop 1 h.exprs }

abbrev pub join_expr : Held → Held
join_expr h = record h { steps = drop 1 h.steps; arms = drop 1 h.arms; settings = drop 1 h.settings; exprs = finished (top_expr h) (get_or h.steps 0 []) (get_or h.arms 0 None) (top_setting h) ∷ drop 1 h.exprs }

-- an increment by its token
abbrev pub increment_of : Spelled → Operation
increment_of x = record { op = increment_op (kind_of_token x); pos = x.pos }

abbrev pub incremented : Held → Held
incremented h = record h { tokens = drop 1 h.tokens; exprs = set (top_expr h) (by_one (increment_of (top_token h))) ∷ drop 1 h.exprs }

abbrev pub some_increment : Held → Held
some_increment h = record h { tokens = drop 1 h.tokens; increments = Some (increment_of (top_token h)) ∷ h.increments }

abbrev pub no_increment : Held → Held
no_increment h = record h { increments = None ∷ h.increments }

abbrev pub some_call : Held → Held
some_call h = record h { expr_lists = drop 1 h.expr_lists; calls = Some (get_or h.expr_lists 0 []) ∷ h.calls }

abbrev pub no_call : Held → Held
no_call h = record h { calls = None ∷ h.calls }

abbrev pub put_setting : Option TreeOp → Held → Held
put_setting o h = record h { tokens = drop 1 h.tokens; exprs = drop 1 h.exprs; settings = Some (record { op = o; pos = place h; value = top_expr h }) ∷ h.settings }

abbrev pub set_to : Held → Held
set_to h = put_setting None h

abbrev pub set_by : Held → Held
set_by h = put_setting (Some (compound_op (kind_of_token (top_token h)))) h

abbrev pub no_setting : Held → Held
no_setting h = record h { settings = None ∷ h.settings }

abbrev pub allocate : Held → Held
allocate h = record h { tokens = drop 1 h.tokens; types = drop 2 h.types; exprs = expr_at (node.Calloc (top_type h) (top_expr h) (get_or h.types 1 ctype.Int)) (place h) ∷ drop 1 h.exprs }

abbrev pub named_value_by : Form → Held → Held
named_value_by form.First h = join_expr (increment_expr (post_expr (name_expr h)))
named_value_by form.Second h = allocate h
named_value_by form.Third h = h

abbrev pub named_value : Held → Held
named_value h = named_value_by (top_form h) (unmark h)

abbrev pub signed : Held → Held
signed h = record h { tokens = drop 1 h.tokens; exprs = expr_at (node.Un (sign_op (kind_of_token (top_token h))) (top_expr h)) (place h) ∷ drop 1 h.exprs }

abbrev pub cast : Held → Held
cast h = record h { tokens = drop 1 h.tokens; types = drop 1 h.types; exprs = expr_at (node.Cast (top_type h) (top_expr h)) (place h) ∷ drop 1 h.exprs }

abbrev pub round_by : Form → Held → Held
round_by form.First h = skip h
round_by form.Second h = cast h
round_by form.Third h = h

abbrev pub round : Held → Held
round h = round_by (top_form h) (unmark h)

abbrev pub size_of : Held → Held
size_of h = record h { tokens = drop 1 h.tokens; types = drop 1 h.types; exprs = expr_at (node.Size (top_type h)) (place h) ∷ h.exprs }

abbrev pub constant : Held → Held
constant h = record h { tokens = drop 1 h.tokens; exprs = expr_at (literal (top_token h).kind) (place h) ∷ h.exprs }

abbrev pub string : Held → Held
string h = record h { tokens = drop 1 h.tokens; exprs = expr_at (node.Text (decoded (top_token h).text)) (place h) ∷ h.exprs }

abbrev pub null : Held → Held
null h = record h { tokens = drop 1 h.tokens; exprs = expr_at node.Null (place h) ∷ h.exprs }

abbrev pub end_of_file : Held → Held
end_of_file h = record h { tokens = drop 1 h.tokens; exprs = expr_at (node.Number 4294967295 false) (place h) ∷ h.exprs }

abbrev pub tested : Held → Held
tested h = record h { tokens = drop 1 h.tokens; types = drop 1 h.types; bounds = drop 1 h.bounds; exprs = expr_at (node.Tested (top_type h) (top_expr h) (top_bounds h)) (place h) ∷ drop 1 h.exprs }

abbrev pub trusted : Held → Held
trusted h = record h { tokens = drop 1 h.tokens; types = drop 1 h.types; bounds = drop 1 h.bounds; exprs = expr_at (node.Trusted (top_type h) (top_expr h) (top_bounds h)) (place h) ∷ drop 1 h.exprs }

abbrev pub new_exprs : Held → Held
new_exprs h = record h { expr_lists = [] ∷ h.expr_lists }

abbrev pub add_expr : Held → Held
add_expr h = record h { exprs = drop 1 h.exprs; expr_lists = (top_expr h ∷ get_or h.expr_lists 0 []) ∷ drop 1 h.expr_lists }

abbrev pub no_posts : Held → Held
no_posts h = record h { posts = [] ∷ h.posts }

abbrev pub add_post : Held → Held
add_post h = record h { one_post = drop 1 h.one_post; posts = (get_or h.one_post 0 (behind.Index no_expr nowhere) ∷ get_or h.posts 0 []) ∷ drop 1 h.posts }

abbrev pub index : Held → Held
index h = record h { tokens = drop 1 h.tokens; exprs = drop 1 h.exprs; one_post = behind.Index (top_expr h) (place h) ∷ h.one_post }

abbrev pub dot : Held → Held
dot h = record h { tokens = drop 2 h.tokens; one_post = (let x = get_or h.tokens 1 no_token in behind.Dot x.text x.pos (place h)) ∷ h.one_post }

abbrev pub arrow : Held → Held
arrow h = record h { tokens = drop 2 h.tokens; one_post = (let x = get_or h.tokens 1 no_token in behind.Arrow x.text x.pos (place h)) ∷ h.one_post }

abbrev pub no_steps : Held → Held
no_steps h = record h { steps = [] ∷ h.steps }

-- an operator with its operand
abbrev pub step_of : Operation → Expr → Step
step_of o e = record { op = o.op; pos = o.pos; operand = e }

abbrev pub add_step : Held → Held
add_step h = record h { operators = drop 1 h.operators; exprs = drop 1 h.exprs; steps = (step_of (get_or h.operators 0 (record { op = op.Minus; pos = nowhere })) (top_expr h) ∷ get_or h.steps 0 []) ∷ drop 1 h.steps }

abbrev pub no_arms : Held → Held
no_arms h = record h { arms = None ∷ h.arms }

abbrev pub choose : Held → Held
choose h = record h { tokens = drop 1 h.tokens; exprs = drop 2 h.exprs; arms = Some (record { pos = place h; yes = top_expr h; no = next_expr h }) ∷ h.arms }

abbrev pub put_operator : TreeOp → Held → Held
put_operator o h = record h { tokens = drop 1 h.tokens; operators = record { op = o; pos = place h } ∷ h.operators }

abbrev pub less : Held → Held
less h = put_operator op.Lt h

abbrev pub operator : Held → Held
operator h = put_operator (binary_op (kind_of_token (top_token h))) h

abbrev pub greater : Held → Held
greater h = put_operator (if is_second (top_form h) then op.Shr else op.Gt) (unmark h)

abbrev pub calloc_less_by : Form → Held → Held
calloc_less_by form.First h = mark form.First (no_setting (no_call (no_increment (no_posts (add_step (less h))))))
calloc_less_by form.Second h = mark form.Second (skip h)
calloc_less_by form.Third h = h

abbrev pub calloc_less : Held → Held
calloc_less h = calloc_less_by (top_form h) (unmark h)

abbrev pub some_value : Held → Held
some_value h = record h { exprs = drop 1 h.exprs; values = Some (top_expr h) ∷ h.values }

abbrev pub no_value : Held → Held
no_value h = record h { values = None ∷ h.values }

-- types and limits
abbrev pub put_type : TypeTree → Held → Held
put_type t h = record h { types = t ∷ h.types }

abbrev pub point : Held → Held
point h = record h { types = ctype.One (top_type h) ∷ drop 1 h.types }

abbrev pub point_array : Held → Held
point_array h = record h { types = ctype.Arr (top_type h) ∷ drop 1 h.types }

abbrev pub point_string : Held → Held
point_string h = record h { types = ctype.Nt (top_type h) ∷ drop 1 h.types }

abbrev pub structure_type : Held → Held
structure_type h = record h { tokens = drop 1 h.tokens; types = struct_type (top_token h) ∷ h.types }

abbrev pub star : Held → Held
star h = record h { stars = drop 1 h.stars; types = starred (top_type h) (get_or h.stars 0 []) ∷ drop 1 h.types }

abbrev pub no_stars : Held → Held
no_stars h = record h { stars = [] ∷ h.stars }

abbrev pub add_star : Held → Held
add_star h = record h { tokens = drop 1 h.tokens; stars = (place h ∷ get_or h.stars 0 []) ∷ drop 1 h.stars }

abbrev pub count : Held → Held
count h = record h { tokens = drop 1 h.tokens; exprs = drop 1 h.exprs; limits = bounds.Count (top_expr h) (place h) ∷ h.limits }

abbrev pub byte_count : Held → Held
byte_count h = record h { tokens = drop 1 h.tokens; exprs = drop 1 h.exprs; limits = bounds.ByteCount (top_expr h) (place h) ∷ h.limits }

abbrev pub bounds_by : Form → Held → Held
bounds_by form.First h = record h { tokens = drop 1 h.tokens; limits = bounds.Unknown (place h) ∷ h.limits }
bounds_by form.Second h = record h { tokens = drop 1 h.tokens; exprs = drop 2 h.exprs; limits = bounds.Between (top_expr h) (next_expr h) (place h) ∷ h.limits }
bounds_by form.Third h = h

abbrev pub bounds_of : Held → Held
bounds_of h = bounds_by (top_form h) (unmark h)

abbrev pub unknown_by : Form → Held → Held
unknown_by form.First h = mark form.First (skip h)
unknown_by form.Second h = mark form.Second (join_expr (increment_expr (post_expr (name_expr h))))
unknown_by form.Third h = h

abbrev pub unknown : Held → Held
unknown h = unknown_by (top_form h) (unmark h)

abbrev pub some_limits : Held → Held
some_limits h = record h { limits = drop 1 h.limits; bounds = Some (get_or h.limits 0 (bounds.Unknown nowhere)) ∷ h.bounds }

abbrev pub no_limits : Held → Held
no_limits h = record h { bounds = None ∷ h.bounds }

-- declarations
abbrev pub no_init : Held → Held
no_init h = record h { inits = inits.Nothing ∷ h.inits }

abbrev pub one_init : Held → Held
one_init h = record h { exprs = drop 1 h.exprs; inits = inits.One (top_expr h) ∷ h.inits }

abbrev pub many_init : Held → Held
many_init h = record h { expr_lists = drop 1 h.expr_lists; inits = inits.Many (get_or h.expr_lists 0 []) ∷ h.inits }

abbrev pub put_length : Length → Held → Held
put_length l h = record h { lengths = l ∷ h.lengths }

abbrev pub top_size : Held → Option ℕ
top_size h = get_or h.sizes 0 None

abbrev pub raw_array : Held → Held
raw_array h = record h { tokens = drop 1 h.tokens; sizes = drop 1 h.sizes; lengths = lengths.Raw (top_size h) (place h) ∷ h.lengths }

abbrev pub checked_array : Held → Held
checked_array h = record h { sizes = drop 1 h.sizes; lengths = lengths.Checked (top_size h) ∷ h.lengths }

abbrev pub nt_array : Held → Held
nt_array h = record h { sizes = drop 1 h.sizes; lengths = lengths.Nt (top_size h) ∷ h.lengths }

abbrev pub some_size : Held → Held
some_size h = record h { tokens = drop 1 h.tokens; sizes = Some (number_of (top_token h).kind) ∷ h.sizes }

abbrev pub no_size : Held → Held
no_size h = record h { sizes = None ∷ h.sizes }

abbrev pub top_slot : Held → Slot
top_slot h = record {
  stars = get_or h.stars 0 [];
  name = (top_token h).text;
  pos = place h;
  length = get_or h.lengths 0 lengths.Plain;
  bounds = top_bounds h;
  init = get_or h.inits 0 inits.Nothing;
}

abbrev pub make_slot : Held → Held
make_slot h = record h { stars = drop 1 h.stars; tokens = drop 1 h.tokens; lengths = drop 1 h.lengths; bounds = drop 1 h.bounds; inits = drop 1 h.inits; slots = top_slot h ∷ h.slots }

abbrev pub new_slots : Held → Held
new_slots h = record h { slot_lists = [] ∷ h.slot_lists }

abbrev pub add_slot : Held → Held
add_slot h = record h { slots = drop 1 h.slots; slot_lists = (get_or h.slots 0 no_slot ∷ get_or h.slot_lists 0 []) ∷ drop 1 h.slot_lists }

abbrev pub declare_one : Held → Held
declare_one h = record h { types = drop 1 h.types; slots = drop 1 h.slots; decls = declare (top_type h) (get_or h.slots 0 no_slot) ∷ h.decls }

abbrev pub declare_all : Held → Held
declare_all h = record h { types = drop 1 h.types; slot_lists = drop 1 h.slot_lists; decl_lists = declare_each (top_type h) (get_or h.slot_lists 0 []) ∷ h.decl_lists }

abbrev pub new_decls : Held → Held
new_decls h = record h { decl_lists = [] ∷ h.decl_lists }

abbrev pub add_decl : Held → Held
add_decl h = record h { decls = drop 1 h.decls; decl_lists = (get_or h.decls 0 no_decl ∷ get_or h.decl_lists 0 []) ∷ drop 1 h.decl_lists }

abbrev pub add_decls : Held → Held
add_decls h = record h { decl_lists = (get_or h.decl_lists 0 [] ++ get_or h.decl_lists 1 []) ∷ drop 2 h.decl_lists }

-- statements
abbrev pub change_stmt : Held → Held
change_stmt h = record h { exprs = drop 1 h.exprs; increments = drop 1 h.increments; settings = drop 1 h.settings; stmts = changed (top_expr h) (top_increment h) (top_setting h) ∷ h.stmts }

abbrev pub step_stmt : Held → Held
step_stmt h = record h { tokens = drop 1 h.tokens; exprs = drop 1 h.exprs; settings = drop 1 h.settings; stmts = stepped (top_expr h) (increment_of (top_token h)) (top_setting h) ∷ h.stmts }

abbrev pub round_stmt_by : Form → Held → Held
round_stmt_by form.First h = skip h
round_stmt_by form.Second h = change_stmt (no_increment (cast h))
round_stmt_by form.Third h = h

abbrev pub round_stmt : Held → Held
round_stmt h = round_stmt_by (top_form h) (unmark h)

abbrev pub moded_block : Held → Held
moded_block h = record h { tokens = drop 1 h.tokens; forms = drop 1 h.forms; stmt_lists = drop 1 h.stmt_lists; stmts = stmt_at (act.Block (Some (mode_of (top_form h))) (get_or h.stmt_lists 0 [])) (place h) ∷ h.stmts }

abbrev pub block : Held → Held
block h = record h { tokens = drop 1 h.tokens; stmt_lists = drop 1 h.stmt_lists; stmts = stmt_at (act.Block None (get_or h.stmt_lists 0 [])) (place h) ∷ h.stmts }

abbrev pub empty : Held → Held
empty h = record h { tokens = drop 1 h.tokens; stmts = stmt_at act.Empty (place h) ∷ h.stmts }

abbrev pub if_stmt : Held → Held
if_stmt h = record h { tokens = drop 1 h.tokens; exprs = drop 1 h.exprs; parts = drop 1 h.parts; stmts = stmt_at (act.If (top_expr h) (top_stmt h) (top_part h)) (place h) ∷ drop 1 h.stmts }

abbrev pub while_stmt : Held → Held
while_stmt h = record h { tokens = drop 1 h.tokens; exprs = drop 1 h.exprs; stmts = stmt_at (act.While (top_expr h) (top_stmt h)) (place h) ∷ drop 1 h.stmts }

abbrev pub for_stmt : Held → Held
for_stmt h = record h { tokens = drop 1 h.tokens; parts = drop 2 h.parts; values = drop 1 h.values; stmts = stmt_at (act.For (top_part h) (top_value h) (get_or h.parts 1 None) (top_stmt h)) (place h) ∷ drop 1 h.stmts }

abbrev pub return_stmt : Held → Held
return_stmt h = record h { tokens = drop 1 h.tokens; values = drop 1 h.values; stmts = stmt_at (act.Return (top_value h)) (place h) ∷ h.stmts }

abbrev pub break_stmt : Held → Held
break_stmt h = record h { tokens = drop 1 h.tokens; stmts = stmt_at act.Break (place h) ∷ h.stmts }

abbrev pub continue_stmt : Held → Held
continue_stmt h = record h { tokens = drop 1 h.tokens; stmts = stmt_at act.Continue (place h) ∷ h.stmts }

abbrev pub check : Held → Held
check h = record h { tokens = drop 1 h.tokens; exprs = drop 1 h.exprs; stmts = stmt_at (act.Check (top_expr h)) (place h) ∷ h.stmts }

abbrev pub bundle : Held → Held
bundle h = record h { tokens = drop 1 h.tokens; stmt_lists = drop 1 h.stmt_lists; stmts = stmt_at (act.Bundle (get_or h.stmt_lists 0 [])) (place h) ∷ h.stmts }

abbrev pub new_stmts : Held → Held
new_stmts h = record h { stmt_lists = [] ∷ h.stmt_lists }

abbrev pub add_stmt : Held → Held
add_stmt h = record h { stmts = drop 1 h.stmts; stmt_lists = (top_stmt h ∷ get_or h.stmt_lists 0 []) ∷ drop 1 h.stmt_lists }

-- the statement below the top one
abbrev pub add_next_stmt : Held → Held
add_next_stmt h = record h { stmts = top_stmt h ∷ drop 2 h.stmts; stmt_lists = (get_or h.stmts 1 no_stmt ∷ get_or h.stmt_lists 0 []) ∷ drop 1 h.stmt_lists }

abbrev pub add_locals : Held → Held
add_locals h = record h { decl_lists = drop 1 h.decl_lists; stmt_lists = (locals (get_or h.decl_lists 0 []) ++ get_or h.stmt_lists 0 []) ∷ drop 1 h.stmt_lists }

abbrev pub some_stmt : Held → Held
some_stmt h = record h { stmts = drop 1 h.stmts; parts = Some (top_stmt h) ∷ h.parts }

abbrev pub no_stmt_part : Held → Held
no_stmt_part h = record h { parts = None ∷ h.parts }

abbrev pub local_stmt : Held → Held
local_stmt h = record h { decls = drop 1 h.decls; stmts = local_of (get_or h.decls 0 no_decl) ∷ h.stmts }

-- a call as a statement, at its place
abbrev pub call_stmt : Held → Held
call_stmt h = record h { exprs = drop 1 h.exprs; stmts = stmt_at (act.Call (top_expr h)) (top_expr h).pos ∷ h.stmts }

abbrev pub named_stmt_by : Form → Held → Held
named_stmt_by form.First h = change_stmt (post_expr (name_expr h))
named_stmt_by form.Second h = call_stmt (allocate h)
named_stmt_by form.Third h = h

abbrev pub named_stmt : Held → Held
named_stmt h = named_stmt_by (top_form h) (unmark h)

-- items
abbrev pub new_items : Held → Held
new_items h = record h { items = [] ∷ h.items }

abbrev pub directive : Held → Held
directive h = record h { tokens = drop 1 h.tokens; items = (item.Directive (directive_of (top_token h).kind) ∷ get_or h.items 0 []) ∷ drop 1 h.items }

-- a list of one item
abbrev pub headed : Option Mode → TypeTree → Held → Held
headed m t h = record h {
  tokens = drop 1 h.tokens;
  decl_lists = drop 1 h.decl_lists;
  bounds = drop 1 h.bounds;
  parts = drop 1 h.parts;
  items = (function_of (record { mode = m; result = t; name = (top_token h).text; params = get_or h.decl_lists 0 []; bounds = top_bounds h; pos = place h }) (top_part h) ∷ []) ∷ h.items;
}

abbrev pub moded : Held → Held
moded h = headed (Some (mode_of (top_form h))) (top_type h) (record h { forms = drop 1 h.forms; types = drop 1 h.types })

abbrev pub voided : Held → Held
voided h = headed None ctype.Void h

abbrev pub list_statics : Held → Held
list_statics h = record h { decl_lists = drop 1 h.decl_lists; items = statics (get_or h.decl_lists 0 []) ∷ h.items }

-- the first object has the type with its stars, the others have stars of their own
abbrev pub declared_by : Form → Held → Held
declared_by form.First h = headed None (starred (top_type h) (get_or h.stars 0 [])) (record h { types = drop 1 h.types; stars = drop 1 h.stars })
declared_by form.Second h = list_statics (declare_all (add_slot (make_slot h)))
declared_by form.Third h = h

abbrev pub items_of_base : Held → Held
items_of_base h = declared_by (top_form h) (unmark h)

abbrev pub tag_item : Held → Held
tag_item h = record h { tokens = drop 1 h.tokens; items = (item.Tag (top_token h).text (place h) ∷ []) ∷ h.items }

abbrev pub struct_item : Held → Held
struct_item h = record h { tokens = drop 1 h.tokens; decl_lists = drop 1 h.decl_lists; items = (item.Struct (top_token h).text (get_or h.decl_lists 0 []) (place h) ∷ []) ∷ h.items }

abbrev pub structure_by : Form → Held → Held
structure_by form.First h = tag_item h
structure_by form.Second h = struct_item h
structure_by form.Third h = items_of_base (structure_type h)

abbrev pub structure : Held → Held
structure h = structure_by (top_form h) (unmark h)

abbrev pub add_items : Held → Held
add_items h = record h { items = (get_or h.items 0 [] ++ get_or h.items 1 []) ∷ drop 2 h.items }
