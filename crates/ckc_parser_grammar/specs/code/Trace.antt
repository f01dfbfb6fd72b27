-- The trace of a text: which productions are opened and which tokens are taken, in order, and what they make.
use Rattle.std.specs.Prelude.{ℕ, ◌+◌, ◌==◌, List, [], ◌∷◌, length, take, drop, map, get_or, if◌then◌else◌}
use Rattle.ckc_syntax.specs.Spelled.{Spelled}
use Rattle.ckc_parser_grammar.specs.code.Grammar.{Rule, right}
use Rattle.ckc_parser_grammar.specs.code.Grammar as g
use Rattle.ckc_parser_grammar.specs.code.Values.{Value, token, made}

-- A token is taken, or a production is opened.
pub data Event : Type 0 where
  taken : Event
  opened : Rule → Event

-- the productions, by their numbers
abbrev pub all_rules : List Rule
all_rules = g.Text ∷ g.Directive ∷ g.Structure ∷ g.Static ∷ g.Declaration ∷ g.NoItems ∷ g.Tag ∷ g.Members ∷ g.Structured ∷ g.StaticStruct ∷ g.StaticOther ∷ g.Moded ∷ g.Voided ∷ g.Based ∷ g.Declarators ∷ g.Headed ∷ g.Objects ∷ g.MoreObjects ∷ g.NoObjects ∷ g.Object ∷ g.ObjectRest ∷ g.RawArray ∷ g.CheckedArray ∷ g.NtArray ∷ g.NoArray ∷ g.Size ∷ g.NoSize ∷ g.Initial ∷ g.NoInitial ∷ g.ListInitial ∷ g.OneInitial ∷ g.ListComma ∷ g.ListEnd ∷ g.ListClose ∷ g.ListNext ∷ g.Head ∷ g.Prototype ∷ g.Body ∷ g.NoParams ∷ g.VoidParams ∷ g.Params ∷ g.MoreParams ∷ g.EndParams ∷ g.Param ∷ g.CheckedMode ∷ g.UncheckedMode ∷ g.VoidResult ∷ g.OtherResult ∷ g.MoreMembers ∷ g.NoMembers ∷ g.Member ∷ g.Slot ∷ g.MoreSlots ∷ g.NoSlots ∷ g.DeclaredLimits ∷ g.NoLimits ∷ g.StructBase ∷ g.Scalar ∷ g.Int ∷ g.Unsigned ∷ g.Char ∷ g.OnePointer ∷ g.ArrayPointer ∷ g.NtPointer ∷ g.UnsignedInt ∷ g.UnsignedAlone ∷ g.TypeName ∷ g.MoreStars ∷ g.NoStars ∷ g.Count ∷ g.ByteCount ∷ g.BoundsOf ∷ g.Unknown ∷ g.BetweenNamed ∷ g.Between ∷ g.UnknownEnd ∷ g.UnknownName ∷ g.EndBlock ∷ g.Locals ∷ g.Stmts ∷ g.Local ∷ g.MoreLocals ∷ g.NoLocals ∷ g.LocalName ∷ g.LocalInitial ∷ g.NoLocalInitial ∷ g.CallocValue ∷ g.NamedValue ∷ g.Value ∷ g.CallocCall ∷ g.CallocLess ∷ g.CallocPost ∷ g.CallocIncrement ∷ g.CallocSetting ∷ g.CallocStep ∷ g.CallocName ∷ g.LessOperand ∷ g.LessType ∷ g.NoArguments ∷ g.Arguments ∷ g.MoreArguments ∷ g.EndArguments ∷ g.Allocation ∷ g.SetTo ∷ g.SetBy ∷ g.LaterSetting ∷ g.NoSetting ∷ g.SettingChange ∷ g.IncrementChange ∷ g.NamedAssign ∷ g.UnnamedAssign ∷ g.SignedAssign ∷ g.IncrementAssign ∷ g.RoundAssign ∷ g.SizeofAssign ∷ g.PostfixAssign ∷ g.ParenAssign ∷ g.CastAssign ∷ g.ModedBlock ∷ g.Block ∷ g.Empty ∷ g.If ∷ g.While ∷ g.For ∷ g.Return ∷ g.Break ∷ g.Continue ∷ g.Check ∷ g.Bundle ∷ g.CallocStmt ∷ g.NamedStmt ∷ g.AssignStmt ∷ g.CallocTypeStmt ∷ g.CallocNameStmt ∷ g.CallStmt ∷ g.ChangeStmt ∷ g.CalledStmt ∷ g.CalledChange ∷ g.Else ∷ g.NoElse ∷ g.NoCondition ∷ g.Condition ∷ g.NoStart ∷ g.LocalStart ∷ g.AssignStart ∷ g.NoStep ∷ g.AssignStep ∷ g.EndAssigns ∷ g.Assigns ∷ g.Expr ∷ g.ExprRest ∷ g.ExprSetting ∷ g.Chain ∷ g.Choice ∷ g.NoChoice ∷ g.Step ∷ g.NoTail ∷ g.LessOperation ∷ g.OtherOperation ∷ g.Operator ∷ g.Greater ∷ g.Second ∷ g.NoSecond ∷ g.Named ∷ g.NameRest ∷ g.CallRest ∷ g.NoCall ∷ g.Increment ∷ g.NoIncrement ∷ g.Unnamed ∷ g.Signed ∷ g.Incremented ∷ g.Round ∷ g.Sizeof ∷ g.Postfix ∷ g.Paren ∷ g.Cast ∷ g.Posts ∷ g.NoPosts ∷ g.Index ∷ g.Dot ∷ g.Arrow ∷ g.Constant ∷ g.Tested ∷ g.Trusted ∷ g.BoundsCast ∷ g.CastLimits ∷ g.NoCastLimits ∷ g.Literal ∷ g.String ∷ g.Null ∷ g.Eof ∷ []

abbrev pub rule_of : ℕ → Rule
rule_of i = get_or all_rules i g.Text

-- the event of a byte: 255 is a token, and all else the production with this number
abbrev pub event : ℕ → Event
event b = if b == 255 then taken else opened (rule_of b)

abbrev pub events : List ℕ → List Event
events bytes = map event bytes

-- A production is closed: its value stands in the place of the values of its symbols.
abbrev pub closed : Rule → List Value → List Value
closed r vs = made r (take (length (right r)) vs) ∷ drop (length (right r)) vs

-- The values that a trace and its tokens put before those that follow. A production makes its value of those behind
-- it, so the last event comes first.
abbrev pub values_of : List Event → List Spelled → List Value → List Value
values_of [] xs vs = vs
values_of (taken ∷ es) [] vs = vs
values_of (taken ∷ es) (x ∷ xs) vs = token x ∷ values_of es xs vs
values_of (opened r ∷ es) xs vs = closed r (values_of es xs vs)

-- how many tokens a trace takes
abbrev pub tokens_in : List Event → ℕ
tokens_in [] = 0
tokens_in (taken ∷ es) = 1 + tokens_in es
tokens_in (opened r ∷ es) = tokens_in es
