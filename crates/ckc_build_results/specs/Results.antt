-- The limits of results as a program has them: over the parameters (Checked C specification 0.9, section 3.1).
use Rattle.std.specs.Prelude.{ℤ, pos, ◌+ℤ◌, ◌-ℤ◌, List, Option, None, Some}
use Rattle.ckc_types.specs.declared.types.CType.{CType}
use Rattle.ckc_types.specs.declared.types.Structs.{Structs}
use Rattle.ckc_syntax.specs.declared.tree.Name.{Name}
use Rattle.ckc_syntax.specs.declared.tree.Name.TheVariants as name
use Rattle.ckc_syntax.specs.declared.tree.TreeOp.{TreeOp}
use Rattle.ckc_syntax.specs.declared.tree.TreeOp.TheVariants as op
use Rattle.ckc_syntax.specs.declared.tree.Limits.{Limits-F, out-Limits}
use Rattle.ckc_syntax.specs.declared.tree.Node.{Node-F, out-Node}
use Rattle.ckc_typed.specs.declared.environment.Amount.{Amount}
use Rattle.ckc_typed.specs.declared.environment.Variable as variables
use Rattle.ckc_typed.specs.declared.typed.Note.{Note}
use Rattle.ckc_typed.specs.declared.typed.Typed.{Typed}
use Rattle.ckc_typed.specs.Trees.{NotedLimits, NotedNode, NotedExpr, NotedLayer}
use Rattle.ckc_typed.specs.Types.{kind_of}
use Rattle.ckc_typed.specs.Amounts.{amount, amount_of_form}
use Rattle.ckc_source.specs.declared.expr.Variable.{Variable}
use Rattle.ckc_source.specs.declared.expr.Base.{Base}
use Rattle.ckc_source.specs.declared.expr.Base.TheVariants.{Own, Local, Fixed}
use Rattle.ckc_source.specs.declared.expr.Count.{Count}
use Rattle.ckc_source.specs.declared.expr.Count.TheVariants as count
use Rattle.ckc_source.specs.declared.expr.End.{End}
use Rattle.ckc_source.specs.declared.expr.Limits.{Limits}
use Rattle.ckc_build_values.specs.Kinds.{count_of_kind, size_behind}
use Rattle.ckc_build_values.specs.Names.{address_of}
use Rattle.ckc_build_values.specs.Ends.{local_variable, end_behind, limits_between}

-- the end of limits that is the pointer itself
abbrev pub own_end : End
own_end = end_behind Own None (pos 0)

-- an end with a variable added to it, if it has none before
abbrev pub with_variable : Option Variable → Variable → Base → ℤ → Option End
with_variable None x base c = Some (end_behind base (Some x) c)
with_variable (Some y) x base c = None

-- an end so many elements further on, as a variable or a constant says
abbrev pub plus : List variables.Variable → End → Option Name → ℤ → Option End
plus locals e None c = Some (end_behind e.base e.variable (e.add +ℤ c))
plus locals e (Some (name.Local k)) c = with_variable e.variable (local_variable locals k) e.base (e.add +ℤ c)
plus locals e (Some n) c = None

-- an end so many elements back, if their number is a constant
abbrev pub less : End → Option Name → ℤ → Option End
less e None c = Some (end_behind e.base e.variable (e.add -ℤ c))
less e (Some n) c = None

-- an end so many elements further on for `+`, or back for `-`
abbrev pub shifted_by : List variables.Variable → TreeOp → End → Amount → Option End
shifted_by locals op.Add e a = plus locals e a.variable a.number
shifted_by locals op.Sub e a = less e a.variable a.number
shifted_by locals o e a = None

-- an end so many elements further on, or back if the amount is subtracted, which then is a constant
abbrev pub shifted : List variables.Variable → TreeOp → Option End → Option Amount → Option End
shifted locals o (Some e) (Some a) = shifted_by locals o e a
shifted locals o _ _ = None

-- a local pointer, or a static array
abbrev pub end_named : Typed → Name → Option End
end_named p (name.Local k) = Some (end_behind (Local k) None (pos 0))
end_named p (name.Static k) = Some (end_behind (Fixed (address_of p k)) None (pos 0))
end_named p n = None

-- the end that an expression is, if it is the name of a pointer or an array
abbrev pub pointer_form : {L M : Type 0} → Typed → Node-F Name Note L M NotedExpr → Option End
pointer_form p (Node-F.Name n) = end_named p n
pointer_form p _ = None

-- a pointer, alone or with one amount after it
abbrev pub bound_form : Typed → List variables.Variable → NotedLayer → Option End
bound_form p locals (Node-F.Bin o e f) = shifted locals o (pointer_form p (out-Node Name Note e.node)) (amount p.layout f)
bound_form p locals form = pointer_form p form

-- a pointer, alone or with one or two amounts after it
abbrev pub outer_form : Typed → List variables.Variable → NotedLayer → Option End
outer_form p locals (Node-F.Bin o e f) = shifted locals o (bound_form p locals (out-Node Name Note e.node)) (amount p.layout f)
outer_form p locals form = pointer_form p form

-- an expression in `bounds(e, f)`: a pointer, alone or with one or two amounts after it
abbrev pub bound : Typed → List variables.Variable → NotedExpr → Option End
bound p locals e = outer_form p locals (out-Node Name Note e.node)

-- the limits of a pointer between two ends, if both are known
abbrev pub limits_if : Structs → CType → Option End → Option End → Option Limits
limits_if structs t (Some lower) (Some upper) = Some (limits_between structs t lower upper)
limits_if structs t _ _ = None

-- so many elements after the pointer
abbrev pub counted : Typed → List variables.Variable → CType → Option Amount → Option Limits
counted p locals t a = limits_if p.layout t (Some own_end) (shifted locals op.Add (Some own_end) a)

-- the limits that the declared bounds of a result say
abbrev pub limits_form : Typed → List variables.Variable → CType → Limits-F Name Note NotedLimits NotedNode NotedExpr → Option Limits
limits_form p locals t (Limits-F.Between e f at) = limits_if p.layout t (bound p locals e) (bound p locals f)
limits_form p locals t form = counted p locals t (amount_of_form p.layout (size_behind p.layout t) form)

-- the limits of a pointer to a fixed number of elements
abbrev pub limits_of_count : Structs → CType → Option Count → Option Limits
limits_of_count structs t (Some (count.Fixed c)) = limits_if structs t (Some own_end) (Some (end_behind Own None c))
limits_of_count structs t _ = None

-- the limits of a result of a type, if they are known
abbrev pub result_limits : Typed → List variables.Variable → CType → Option NotedLimits → Option Limits
result_limits p locals t None = limits_of_count p.layout t (count_of_kind (kind_of t))
result_limits p locals t (Some l) = limits_form p locals t (out-Limits Name Note l)
