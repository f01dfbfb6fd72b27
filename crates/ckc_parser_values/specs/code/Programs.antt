-- The productions as rows of actions: what each does to the stacks.
use Rattle.std.specs.Prelude.{ℕ, ◌-◌, List, [], ◌∷◌, ◌++◌, get_or, length, replicate}
use Rattle.ckc_syntax.specs.Spelled.{Spelled}
use Rattle.ckc_syntax.specs.declared.tree.TypeTree.TheVariants as ctype
use Rattle.ckc_syntax.specs.declared.tree.Length.TheVariants as lengths
use Rattle.ckc_parser_grammar.specs.code.Grammar.{Rule}
use Rattle.ckc_parser_grammar.specs.code.Grammar as g
use Rattle.ckc_parser_grammar.specs.code.Trace.{Event, taken, opened}
use Rattle.ckc_parser_values.specs.declared.held.Held.{Held}
use Rattle.ckc_parser_values.specs.declared.held.Form.TheVariants as form
use Rattle.ckc_parser_values.specs.code.Acts as a

pub data Action : Type 0 where
  skip : Action
  first : Action
  second : Action
  third : Action
  name_expr : Action
  post_expr : Action
  join_expr : Action
  increment_expr : Action
  named_value : Action
  signed : Action
  round : Action
  size_of : Action
  constant : Action
  string : Action
  null : Action
  end_of_file : Action
  tested : Action
  trusted : Action
  incremented : Action
  some_increment : Action
  no_increment : Action
  some_call : Action
  no_call : Action
  set_to : Action
  set_by : Action
  no_setting : Action
  new_exprs : Action
  add_expr : Action
  no_posts : Action
  add_post : Action
  index : Action
  dot : Action
  arrow : Action
  no_steps : Action
  add_step : Action
  no_arms : Action
  choose : Action
  less : Action
  operator : Action
  greater : Action
  calloc_less : Action
  some_value : Action
  no_value : Action
  void : Action
  int : Action
  unsigned : Action
  char : Action
  point : Action
  point_array : Action
  point_string : Action
  structure_type : Action
  star : Action
  no_stars : Action
  add_star : Action
  count : Action
  byte_count : Action
  bounds_of : Action
  unknown : Action
  some_limits : Action
  no_limits : Action
  no_init : Action
  one_init : Action
  many_init : Action
  plain : Action
  raw_array : Action
  checked_array : Action
  nt_array : Action
  some_size : Action
  no_size : Action
  make_slot : Action
  new_slots : Action
  add_slot : Action
  declare_one : Action
  declare_all : Action
  new_decls : Action
  add_decl : Action
  add_decls : Action
  change_stmt : Action
  step_stmt : Action
  round_stmt : Action
  moded_block : Action
  block : Action
  empty : Action
  if_stmt : Action
  while_stmt : Action
  for_stmt : Action
  return_stmt : Action
  break_stmt : Action
  continue_stmt : Action
  check : Action
  bundle : Action
  new_stmts : Action
  add_stmt : Action
  add_next_stmt : Action
  add_locals : Action
  some_stmt : Action
  no_part : Action
  local_stmt : Action
  named_stmt : Action
  new_items : Action
  directive : Action
  moded : Action
  voided : Action
  items_of_base : Action
  structure : Action
  add_items : Action

-- the actions, by their numbers
abbrev pub all_actions : List Action
all_actions = skip ∷ first ∷ second ∷ third ∷ name_expr ∷ post_expr ∷ join_expr ∷ increment_expr ∷ named_value ∷ signed ∷ round ∷ size_of ∷ constant ∷ string ∷ null ∷ end_of_file ∷ tested ∷ trusted ∷ incremented ∷ some_increment ∷ no_increment ∷ some_call ∷ no_call ∷ set_to ∷ set_by ∷ no_setting ∷ new_exprs ∷ add_expr ∷ no_posts ∷ add_post ∷ index ∷ dot ∷ arrow ∷ no_steps ∷ add_step ∷ no_arms ∷ choose ∷ less ∷ operator ∷ greater ∷ calloc_less ∷ some_value ∷ no_value ∷ void ∷ int ∷ unsigned ∷ char ∷ point ∷ point_array ∷ point_string ∷ structure_type ∷ star ∷ no_stars ∷ add_star ∷ count ∷ byte_count ∷ bounds_of ∷ unknown ∷ some_limits ∷ no_limits ∷ no_init ∷ one_init ∷ many_init ∷ plain ∷ raw_array ∷ checked_array ∷ nt_array ∷ some_size ∷ no_size ∷ make_slot ∷ new_slots ∷ add_slot ∷ declare_one ∷ declare_all ∷ new_decls ∷ add_decl ∷ add_decls ∷ change_stmt ∷ step_stmt ∷ round_stmt ∷ moded_block ∷ block ∷ empty ∷ if_stmt ∷ while_stmt ∷ for_stmt ∷ return_stmt ∷ break_stmt ∷ continue_stmt ∷ check ∷ bundle ∷ new_stmts ∷ add_stmt ∷ add_next_stmt ∷ add_locals ∷ some_stmt ∷ no_part ∷ local_stmt ∷ named_stmt ∷ new_items ∷ directive ∷ moded ∷ voided ∷ items_of_base ∷ structure ∷ add_items ∷ []

abbrev pub action_of : ℕ → Action
action_of b = get_or all_actions b skip

abbrev pub acted : Action → Held → Held
acted skip h = a.skip h
acted first h = a.mark form.First h
acted second h = a.mark form.Second h
acted third h = a.mark form.Third h
acted name_expr h = a.name_expr h
acted post_expr h = a.post_expr h
acted join_expr h = a.join_expr h
acted increment_expr h = a.increment_expr h
acted named_value h = a.named_value h
acted signed h = a.signed h
acted round h = a.round h
acted size_of h = a.size_of h
acted constant h = a.constant h
acted string h = a.string h
acted null h = a.null h
acted end_of_file h = a.end_of_file h
acted tested h = a.tested h
acted trusted h = a.trusted h
acted incremented h = a.incremented h
acted some_increment h = a.some_increment h
acted no_increment h = a.no_increment h
acted some_call h = a.some_call h
acted no_call h = a.no_call h
acted set_to h = a.set_to h
acted set_by h = a.set_by h
acted no_setting h = a.no_setting h
acted new_exprs h = a.new_exprs h
acted add_expr h = a.add_expr h
acted no_posts h = a.no_posts h
acted add_post h = a.add_post h
acted index h = a.index h
acted dot h = a.dot h
acted arrow h = a.arrow h
acted no_steps h = a.no_steps h
acted add_step h = a.add_step h
acted no_arms h = a.no_arms h
acted choose h = a.choose h
acted less h = a.less h
acted operator h = a.operator h
acted greater h = a.greater h
acted calloc_less h = a.calloc_less h
acted some_value h = a.some_value h
acted no_value h = a.no_value h
acted void h = a.put_type ctype.Void h
acted int h = a.put_type ctype.Int h
acted unsigned h = a.put_type ctype.Unsigned h
acted char h = a.put_type ctype.Char h
acted point h = a.point h
acted point_array h = a.point_array h
acted point_string h = a.point_string h
acted structure_type h = a.structure_type h
acted star h = a.star h
acted no_stars h = a.no_stars h
acted add_star h = a.add_star h
acted count h = a.count h
acted byte_count h = a.byte_count h
acted bounds_of h = a.bounds_of h
acted unknown h = a.unknown h
acted some_limits h = a.some_limits h
acted no_limits h = a.no_limits h
acted no_init h = a.no_init h
acted one_init h = a.one_init h
acted many_init h = a.many_init h
acted plain h = a.put_length lengths.Plain h
acted raw_array h = a.raw_array h
acted checked_array h = a.checked_array h
acted nt_array h = a.nt_array h
acted some_size h = a.some_size h
acted no_size h = a.no_size h
acted make_slot h = a.make_slot h
acted new_slots h = a.new_slots h
acted add_slot h = a.add_slot h
acted declare_one h = a.declare_one h
acted declare_all h = a.declare_all h
acted new_decls h = a.new_decls h
acted add_decl h = a.add_decl h
acted add_decls h = a.add_decls h
acted change_stmt h = a.change_stmt h
acted step_stmt h = a.step_stmt h
acted round_stmt h = a.round_stmt h
acted moded_block h = a.moded_block h
acted block h = a.block h
acted empty h = a.empty h
acted if_stmt h = a.if_stmt h
acted while_stmt h = a.while_stmt h
acted for_stmt h = a.for_stmt h
acted return_stmt h = a.return_stmt h
acted break_stmt h = a.break_stmt h
acted continue_stmt h = a.continue_stmt h
acted check h = a.check h
acted bundle h = a.bundle h
acted new_stmts h = a.new_stmts h
acted add_stmt h = a.add_stmt h
acted add_next_stmt h = a.add_next_stmt h
acted add_locals h = a.add_locals h
acted some_stmt h = a.some_stmt h
acted no_part h = a.no_stmt_part h
acted local_stmt h = a.local_stmt h
acted named_stmt h = a.named_stmt h
acted new_items h = a.new_items h
acted directive h = a.directive h
acted moded h = a.moded h
acted voided h = a.voided h
acted items_of_base h = a.items_of_base h
acted structure h = a.structure h
acted add_items h = a.add_items h

-- actions in a row
abbrev pub run : List Action → Held → Held
run [] h = h
run (x ∷ xs) h = run xs (acted x h)

abbrev pub program : Rule → List Action
program g.Text = []
program g.Directive = directive ∷ []
program g.Structure = skip ∷ structure ∷ add_items ∷ []
program g.Static = skip ∷ add_items ∷ []
program g.Declaration = add_items ∷ []
program g.NoItems = new_items ∷ []
program g.Tag = skip ∷ first ∷ []
program g.Members = skip ∷ skip ∷ skip ∷ add_decls ∷ second ∷ []
program g.Structured = third ∷ []
program g.StaticStruct = skip ∷ structure_type ∷ items_of_base ∷ []
program g.StaticOther = []
program g.Moded = skip ∷ moded ∷ []
program g.Voided = skip ∷ voided ∷ []
program g.Based = items_of_base ∷ []
program g.Declarators = []
program g.Headed = first ∷ []
program g.Objects = second ∷ []
program g.MoreObjects = skip ∷ add_slot ∷ []
program g.NoObjects = skip ∷ new_slots ∷ []
program g.Object = make_slot ∷ []
program g.ObjectRest = []
program g.RawArray = raw_array ∷ skip ∷ []
program g.CheckedArray = skip ∷ skip ∷ skip ∷ checked_array ∷ []
program g.NtArray = skip ∷ skip ∷ skip ∷ nt_array ∷ []
program g.NoArray = plain ∷ []
program g.Size = some_size ∷ []
program g.NoSize = no_size ∷ []
program g.Initial = skip ∷ []
program g.NoInitial = no_init ∷ []
program g.ListInitial = skip ∷ add_expr ∷ many_init ∷ []
program g.OneInitial = one_init ∷ []
program g.ListComma = skip ∷ []
program g.ListEnd = skip ∷ new_exprs ∷ []
program g.ListClose = skip ∷ new_exprs ∷ []
program g.ListNext = add_expr ∷ []
program g.Head = skip ∷ []
program g.Prototype = skip ∷ no_part ∷ []
program g.Body = block ∷ some_stmt ∷ []
program g.NoParams = skip ∷ new_decls ∷ []
program g.VoidParams = skip ∷ skip ∷ new_decls ∷ []
program g.Params = add_decl ∷ []
program g.MoreParams = skip ∷ add_decl ∷ []
program g.EndParams = skip ∷ new_decls ∷ []
program g.Param = declare_one ∷ []
program g.CheckedMode = first ∷ []
program g.UncheckedMode = second ∷ []
program g.VoidResult = skip ∷ void ∷ []
program g.OtherResult = []
program g.MoreMembers = add_decls ∷ []
program g.NoMembers = new_decls ∷ []
program g.Member = add_slot ∷ declare_all ∷ []
program g.Slot = plain ∷ no_init ∷ make_slot ∷ []
program g.MoreSlots = skip ∷ add_slot ∷ []
program g.NoSlots = skip ∷ new_slots ∷ []
program g.DeclaredLimits = skip ∷ some_limits ∷ []
program g.NoLimits = no_limits ∷ []
program g.StructBase = skip ∷ structure_type ∷ []
program g.Scalar = []
program g.Int = skip ∷ int ∷ []
program g.Unsigned = skip ∷ unsigned ∷ []
program g.Char = skip ∷ char ∷ []
program g.OnePointer = skip ∷ skip ∷ skip ∷ point ∷ []
program g.ArrayPointer = skip ∷ skip ∷ skip ∷ point_array ∷ []
program g.NtPointer = skip ∷ skip ∷ skip ∷ point_string ∷ []
program g.UnsignedInt = skip ∷ []
program g.UnsignedAlone = []
program g.TypeName = star ∷ []
program g.MoreStars = add_star ∷ []
program g.NoStars = no_stars ∷ []
program g.Count = count ∷ skip ∷ skip ∷ []
program g.ByteCount = byte_count ∷ skip ∷ skip ∷ []
program g.BoundsOf = bounds_of ∷ skip ∷ []
program g.Unknown = unknown ∷ []
program g.BetweenNamed = name_expr ∷ post_expr ∷ increment_expr ∷ join_expr ∷ skip ∷ skip ∷ second ∷ []
program g.Between = join_expr ∷ skip ∷ skip ∷ second ∷ []
program g.UnknownEnd = skip ∷ first ∷ []
program g.UnknownName = skip ∷ skip ∷ second ∷ []
program g.EndBlock = skip ∷ new_stmts ∷ []
program g.Locals = add_locals ∷ []
program g.Stmts = add_stmt ∷ []
program g.Local = add_slot ∷ declare_all ∷ []
program g.MoreLocals = skip ∷ add_slot ∷ []
program g.NoLocals = skip ∷ new_slots ∷ []
program g.LocalName = plain ∷ make_slot ∷ []
program g.LocalInitial = skip ∷ one_init ∷ []
program g.NoLocalInitial = no_init ∷ []
program g.CallocValue = named_value ∷ []
program g.NamedValue = name_expr ∷ post_expr ∷ increment_expr ∷ join_expr ∷ []
program g.Value = join_expr ∷ []
program g.CallocCall = skip ∷ some_call ∷ first ∷ []
program g.CallocLess = calloc_less ∷ []
program g.CallocPost = add_post ∷ no_call ∷ first ∷ []
program g.CallocIncrement = some_increment ∷ no_posts ∷ no_call ∷ first ∷ []
program g.CallocSetting = no_steps ∷ no_arms ∷ no_posts ∷ no_increment ∷ no_call ∷ first ∷ []
program g.CallocStep = add_step ∷ no_setting ∷ no_posts ∷ no_increment ∷ no_call ∷ first ∷ []
program g.CallocName = no_steps ∷ no_setting ∷ no_posts ∷ no_increment ∷ no_call ∷ first ∷ []
program g.LessOperand = first ∷ []
program g.LessType = second ∷ []
program g.NoArguments = skip ∷ new_exprs ∷ []
program g.Arguments = add_expr ∷ []
program g.MoreArguments = skip ∷ add_expr ∷ []
program g.EndArguments = skip ∷ new_exprs ∷ []
program g.Allocation = skip ∷ skip ∷ skip ∷ skip ∷ skip ∷ skip ∷ skip ∷ []
program g.SetTo = set_to ∷ []
program g.SetBy = set_by ∷ []
program g.LaterSetting = []
program g.NoSetting = no_setting ∷ []
program g.SettingChange = no_increment ∷ []
program g.IncrementChange = some_increment ∷ []
program g.NamedAssign = name_expr ∷ post_expr ∷ change_stmt ∷ []
program g.UnnamedAssign = []
program g.SignedAssign = signed ∷ no_increment ∷ change_stmt ∷ []
program g.IncrementAssign = step_stmt ∷ []
program g.RoundAssign = round_stmt ∷ []
program g.SizeofAssign = size_of ∷ skip ∷ skip ∷ no_increment ∷ change_stmt ∷ []
program g.PostfixAssign = post_expr ∷ change_stmt ∷ []
program g.ParenAssign = skip ∷ post_expr ∷ change_stmt ∷ first ∷ []
program g.CastAssign = skip ∷ second ∷ []
program g.ModedBlock = moded_block ∷ skip ∷ []
program g.Block = block ∷ []
program g.Empty = empty ∷ []
program g.If = if_stmt ∷ skip ∷ skip ∷ []
program g.While = while_stmt ∷ skip ∷ skip ∷ []
program g.For = for_stmt ∷ skip ∷ []
program g.Return = return_stmt ∷ []
program g.Break = break_stmt ∷ skip ∷ []
program g.Continue = continue_stmt ∷ skip ∷ []
program g.Check = check ∷ skip ∷ skip ∷ skip ∷ []
program g.Bundle = add_next_stmt ∷ add_stmt ∷ bundle ∷ skip ∷ skip ∷ skip ∷ []
program g.CallocStmt = named_stmt ∷ skip ∷ []
program g.NamedStmt = name_expr ∷ post_expr ∷ change_stmt ∷ skip ∷ []
program g.AssignStmt = skip ∷ []
program g.CallocTypeStmt = skip ∷ second ∷ []
program g.CallocNameStmt = first ∷ []
program g.CallStmt = skip ∷ some_call ∷ []
program g.ChangeStmt = no_call ∷ []
program g.CalledStmt = no_posts ∷ no_increment ∷ no_setting ∷ []
program g.CalledChange = []
program g.Else = skip ∷ some_stmt ∷ []
program g.NoElse = no_part ∷ []
program g.NoCondition = skip ∷ no_value ∷ []
program g.Condition = skip ∷ some_value ∷ []
program g.NoStart = skip ∷ no_part ∷ []
program g.LocalStart = skip ∷ declare_one ∷ local_stmt ∷ some_stmt ∷ []
program g.AssignStart = skip ∷ some_stmt ∷ []
program g.NoStep = skip ∷ no_part ∷ []
program g.AssignStep = skip ∷ some_stmt ∷ []
program g.EndAssigns = skip ∷ new_stmts ∷ []
program g.Assigns = skip ∷ add_stmt ∷ []
program g.Expr = join_expr ∷ []
program g.ExprRest = no_setting ∷ []
program g.ExprSetting = no_steps ∷ no_arms ∷ []
program g.Chain = []
program g.Choice = choose ∷ skip ∷ []
program g.NoChoice = no_arms ∷ []
program g.Step = add_step ∷ []
program g.NoTail = no_steps ∷ []
program g.LessOperation = less ∷ []
program g.OtherOperation = []
program g.Operator = operator ∷ []
program g.Greater = greater ∷ []
program g.Second = skip ∷ second ∷ []
program g.NoSecond = first ∷ []
program g.Named = name_expr ∷ post_expr ∷ increment_expr ∷ []
program g.NameRest = []
program g.CallRest = skip ∷ some_call ∷ []
program g.NoCall = no_call ∷ []
program g.Increment = some_increment ∷ []
program g.NoIncrement = no_increment ∷ []
program g.Unnamed = []
program g.Signed = signed ∷ []
program g.Incremented = incremented ∷ []
program g.Round = round ∷ []
program g.Sizeof = size_of ∷ skip ∷ skip ∷ []
program g.Postfix = post_expr ∷ increment_expr ∷ []
program g.Paren = skip ∷ post_expr ∷ increment_expr ∷ first ∷ []
program g.Cast = skip ∷ second ∷ []
program g.Posts = add_post ∷ []
program g.NoPosts = no_posts ∷ []
program g.Index = index ∷ skip ∷ []
program g.Dot = dot ∷ []
program g.Arrow = arrow ∷ []
program g.Constant = []
program g.Tested = tested ∷ []
program g.Trusted = trusted ∷ []
program g.BoundsCast = skip ∷ skip ∷ skip ∷ []
program g.CastLimits = skip ∷ skip ∷ some_limits ∷ []
program g.NoCastLimits = skip ∷ no_limits ∷ []
program g.Literal = constant ∷ []
program g.String = string ∷ []
program g.Null = null ∷ []
program g.Eof = end_of_file ∷ []

abbrev pub program_length : Rule → ℕ
program_length r = length (program r)

-- the actions of a production in eight places
abbrev pub program_row : Rule → List Action
program_row r = program r ++ replicate (8 - program_length r) skip

-- What the trace of tokens does to the stacks, from its end.
abbrev pub played : List Event → List Spelled → Held → Held
played [] xs h = h
played (taken ∷ es) [] h = h
played (taken ∷ es) (x ∷ xs) h = (let w = played es xs h in record w { tokens = x ∷ w.tokens })
played (opened r ∷ es) xs h = run (program r) (played es xs h)
