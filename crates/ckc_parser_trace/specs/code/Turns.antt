-- The symbols as bytes, and what each does before a token.
use Rattle.std.specs.Prelude.{ℕ, ◌-◌, ◌==◌, nat_lt, List, [], ◌∷◌, ◌++◌, Option, None, Some, map, reverse, length, replicate, get_or, if◌then◌else◌}
use Rattle.ckc_parser_grammar.specs.declared.kind.Kind.{Kind}
use Rattle.ckc_parser_grammar.specs.declared.kind.Kind.TheVariants as kind
use Rattle.ckc_parser_grammar.specs.code.Fits.{fits}
use Rattle.ckc_parser_grammar.specs.code.Grammar.{Part, Symbol, t, n, one, Rule, right}
use Rattle.ckc_parser_grammar.specs.code.Grammar as g
use Rattle.ckc_parser_grammar.specs.code.Reading.{pick}
use Rattle.ckc_parser_grammar.specs.code.Trace.{Event, taken, opened, event}

abbrev pub all_kinds : List Kind
all_kinds = kind.End ∷ kind.Name ∷ kind.Calloc ∷ kind.Count ∷ kind.ByteCount ∷ kind.Bounds ∷ kind.Unknown ∷ kind.Number ∷ kind.Character ∷ kind.Text ∷ kind.Directive ∷ kind.Other ∷ kind.Int ∷ kind.Unsigned ∷ kind.Char ∷ kind.Void ∷ kind.Struct ∷ kind.Static ∷ kind.If ∷ kind.Else ∷ kind.While ∷ kind.For ∷ kind.Return ∷ kind.Break ∷ kind.Continue ∷ kind.Sizeof ∷ kind.Null ∷ kind.Eof ∷ kind.Ptr ∷ kind.ArrayPtr ∷ kind.NtArrayPtr ∷ kind.Checked ∷ kind.Unchecked ∷ kind.NtChecked ∷ kind.Bundled ∷ kind.Check ∷ kind.Tested ∷ kind.Trusted ∷ kind.RoundOpen ∷ kind.RoundClose ∷ kind.CurlyOpen ∷ kind.CurlyClose ∷ kind.SquareOpen ∷ kind.SquareClose ∷ kind.Less ∷ kind.Greater ∷ kind.GreaterNext ∷ kind.Comma ∷ kind.Semicolon ∷ kind.Colon ∷ kind.Question ∷ kind.Equals ∷ kind.Dot ∷ kind.Arrow ∷ kind.Plus ∷ kind.Minus ∷ kind.Star ∷ kind.Slash ∷ kind.Percent ∷ kind.Ampersand ∷ kind.Bar ∷ kind.Caret ∷ kind.Tilde ∷ kind.Exclamation ∷ kind.ShiftLeft ∷ kind.LessEquals ∷ kind.GreaterEquals ∷ kind.EqualsEquals ∷ kind.NotEquals ∷ kind.AndAnd ∷ kind.BarBar ∷ kind.PlusPlus ∷ kind.MinusMinus ∷ kind.PlusEquals ∷ kind.MinusEquals ∷ kind.StarEquals ∷ kind.SlashEquals ∷ kind.PercentEquals ∷ kind.AmpersandEquals ∷ kind.BarEquals ∷ kind.CaretEquals ∷ []

-- the parts, and the classes of tokens
abbrev pub rows : List Symbol
rows = n g.text ∷ n g.items ∷ n g.structure ∷ n g.declaration ∷ n g.declared ∷ n g.declarators ∷ n g.declarator ∷ n g.objects ∷ n g.object ∷ n g.object_rest ∷ n g.array ∷ n g.size ∷ n g.initial ∷ n g.initializer ∷ n g.list_rest ∷ n g.list_more ∷ n g.head ∷ n g.body ∷ n g.params ∷ n g.more_params ∷ n g.param ∷ n g.mode ∷ n g.result_type ∷ n g.members ∷ n g.member ∷ n g.slot ∷ n g.slots ∷ n g.declared_limits ∷ n g.base ∷ n g.scalar ∷ n g.unsigned_rest ∷ n g.type_name ∷ n g.stars ∷ n g.limits ∷ n g.bounds_rest ∷ n g.unknown_rest ∷ n g.block_items ∷ n g.locals ∷ n g.more_locals ∷ n g.local ∷ n g.local_initial ∷ n g.value ∷ n g.calloc_value ∷ n g.less ∷ n g.arguments ∷ n g.more_arguments ∷ n g.allocation ∷ n g.setting ∷ n g.later_setting ∷ n g.change ∷ n g.assign ∷ n g.unnamed ∷ n g.round_assign ∷ n g.stmt ∷ n g.calloc_stmt ∷ n g.named_stmt ∷ n g.called_stmt ∷ n g.otherwise ∷ n g.condition ∷ n g.for_start ∷ n g.for_step ∷ n g.assigns ∷ n g.expr ∷ n g.expr_rest ∷ n g.chain ∷ n g.choice ∷ n g.tail ∷ n g.operation ∷ n g.operation_but_less ∷ n g.second ∷ n g.unary ∷ n g.name_rest ∷ n g.call_rest ∷ n g.increment ∷ n g.first ∷ n g.round ∷ n g.posts ∷ n g.post ∷ n g.primary ∷ n g.bounds_cast ∷ n g.cast_limits ∷ n g.constant ∷ t g.name ∷ t g.greater ∷ t g.sign ∷ t g.increment_sign ∷ t g.compound ∷ t g.operator ∷ t g.literal ∷ t g.name_but_calloc ∷ t g.name_but_unknown ∷ []

-- The symbol of a byte: from 91 on, a token of one kind.
abbrev pub symbol_of : ℕ → Symbol
symbol_of b = if nat_lt b 91 then get_or rows b (n g.text) else t (one (get_or all_kinds (b - 91) kind.End))

abbrev pub opening : Option Rule → Option Event
opening None = None
opening (Some r) = Some (opened r)

-- what a symbol does before a token: nothing where the token does not go on
abbrev pub turn : Symbol → Kind → Option Event
turn (t x) c = if fits x c then Some taken else None
turn (n p) c = opening (pick p c)

abbrev pub turn_of : ℕ → Option Event
turn_of b = if b == 254 then None else Some (event b)

abbrev pub turns_of : Symbol → List (Option Event)
turns_of s = map (turn s) all_kinds

abbrev pub right_length : Rule → ℕ
right_length r = length (right r)

-- what a production is made of, the last symbol first, in ten places
abbrev pub right_row : Rule → List Symbol
right_row r = reverse (right r) ++ replicate (10 - right_length r) (n g.text)
