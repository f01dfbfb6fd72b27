-- What the steps of statements mean: assignments, calls and declarations (ISO C11, 6.5.16, 6.5.2.2 and 6.7.9).
use Rattle.std.specs.Prelude.{ℕ, ◌+◌, List, [], ◌∷◌, Bool, false, Option, None, Some}
use Rattle.ckc_base.specs.declared.places.Pos.{Pos}
use Rattle.ckc_base.specs.declared.arithmetic.Mode.{Mode}
use Rattle.ckc_types.specs.declared.types.CType.{CType}
use Rattle.ckc_syntax.specs.declared.tree.Name.{Name}
use Rattle.ckc_syntax.specs.declared.tree.Name.TheVariants as name
use Rattle.ckc_syntax.specs.declared.tree.Init.TheVariants as init
use Rattle.ckc_syntax.specs.declared.tree.Node.{Node-F, out-Node}
use Rattle.ckc_typed.specs.declared.environment.Variable.{Variable}
use Rattle.ckc_typed.specs.declared.typed.Note.{Note}
use Rattle.ckc_typed.specs.declared.typed.Typed.{Typed}
use Rattle.ckc_typed.specs.Trees.{NotedDecl, NotedInit, NotedExpr}
use Rattle.ckc_typed.specs.Types.{type_written, kind_of}
use Rattle.ckc_typed.specs.Constants.{size_of}
use Rattle.ckc_typed.specs.Conversions.{is_terminated_kind}
use Rattle.ckc_source.specs.declared.expr.Pointee.{Pointee}
use Rattle.ckc_source.specs.declared.stmt.Spot.{Spot}
use Rattle.ckc_source.specs.declared.stmt.Kept.{Kept}
use Rattle.ckc_source.specs.declared.stmt.Kept.TheVariants as kept
use Rattle.ckc_source.specs.Code.{Expr, Number, Target, Nothing, Memory, Right, Value, Fresh, Code, Assign, Get, Put, Call}
use Rattle.ckc_source.specs.Code as code
use Rattle.ckc_build_values.specs.Kinds.{width_of}
use Rattle.ckc_build_values.specs.Names.{address_of}
use Rattle.ckc_build_values.specs.Operators.{outside, converted}
use Rattle.ckc_build_values.specs.Places.{Place}
use Rattle.ckc_build_values.specs.Expressions.{expr_elaborated, place_elaborated, literals_of}
use Rattle.ckc_build_elaborate.specs.Names.{number_of, params_of}
use Rattle.ckc_build_elaborate.specs.Literals.{literals_of_bounds}

-- A statement becomes statements, one after another, each of which stands in front of others.
abbrev pub Statements : Type 0
Statements = List (Code → Code)

-- a place with the mode of the code there
abbrev pub spot : Pos → Mode → Spot
spot at mode = record { at = at; mode = mode }

-- ---- destinations

-- Where a value goes: what it is written to, what keeps it if it is the result of a call, and whether a block that
-- is made for it is null-terminated.
pub record Destination : Type 0 where
  pub target : Target
  pub kept : Option Kept
  pub terminated : Bool

-- where the result of a call goes that is a statement
abbrev pub nowhere : Destination
nowhere = record { target = Nothing; kept = None; terminated = false }

-- whether a type is an `_Nt_array_ptr`
abbrev pub is_terminated : CType → Bool
is_terminated t = is_terminated_kind (kind_of t)

-- the target that an object of this type at a place is
abbrev pub memory : CType → Place → Target
memory t q = Memory (width_of t) q.access q.pointer q.index

-- the target that a name is: a local, or an object of file scope in memory
abbrev pub name_target : CType → Name → Place → Target
name_target t (name.Local x) q = code.Variable x (width_of t)
name_target t n q = memory t q

-- the target that an expression is: a name, or a place in memory
abbrev pub target_form : {L M E : Type 0} → CType → Place → Node-F Name Note L M E → Target
target_form t q (Node-F.Name n) = name_target t n q
target_form t q node = memory t q

-- what an assignment to an expression writes
abbrev pub target_of : Typed → List Variable → ℕ → NotedExpr → Target
target_of p locals k e = target_form e.note.ctype (place_elaborated p locals k e) (out-Node Name Note e.node)

-- what keeps the result of a call that is assigned to a name: a local or a static object
abbrev pub name_kept : Typed → CType → Name → Option Kept
name_kept p t (name.Local x) = Some (kept.Local x (width_of t))
name_kept p t (name.Static j) = Some (kept.Static (address_of p j) (width_of t))
name_kept p t n = None

-- the same of an expression, which keeps a result only if it is a name
abbrev pub kept_form : {L M E : Type 0} → Typed → CType → Node-F Name Note L M E → Option Kept
kept_form p t (Node-F.Name n) = name_kept p t n
kept_form p t node = None

-- The result of a call goes to a local or to a static object by its name.
abbrev pub destination_of : Typed → List Variable → ℕ → NotedExpr → Destination
destination_of p locals k e = record {
  target = target_of p locals k e;
  kept = kept_form p e.note.ctype (out-Node Name Note e.node);
  terminated = is_terminated e.note.ctype;
}

-- the target of the declaration of a local, which is that local
abbrev pub local_target : CType → Name → Target
local_target t (name.Local x) = code.Variable x (width_of t)
local_target t n = Nothing

-- a local that is declared
abbrev pub destination_for : Typed → CType → Name → Destination
destination_for p t n = record { target = local_target t n; kept = name_kept p t n; terminated = is_terminated t }

-- ---- what is assigned

-- a block of elements of a type (Checked C specification 0.9, section 2, on `calloc`)
abbrev pub block_of : Typed → CType → Bool → Pointee
block_of p t terminated = record { element = t; size = size_of p.layout t; terminated = terminated }

-- the right side of an assignment: a new block of `calloc`, or the value of an expression
abbrev pub right_form : {L M : Type 0} → Typed → List Variable → ℕ → Bool → NotedExpr → Node-F Name Note L M NotedExpr → Right
right_form p locals k terminated e (Node-F.Calloc w n x) = Fresh (block_of p (type_written w) terminated) (expr_elaborated p locals k n)
right_form p locals k terminated e node = Value (expr_elaborated p locals k e)

-- what is assigned if this expression stands on the right side
abbrev pub right_of : Typed → List Variable → ℕ → Bool → NotedExpr → Right
right_of p locals k terminated e = right_form p locals k terminated e (out-Node Name Note e.node)

-- ---- calls

-- An argument is converted to the type of its parameter (ISO C11, 6.5.2.2).
abbrev pub argument : Typed → List Variable → ℕ → Option NotedDecl → NotedExpr → Expr
argument p locals k (Some d) e = converted (type_written d.ctype) (expr_elaborated p locals k e)
argument p locals k None e = expr_elaborated p locals k e

-- the arguments of a call, each converted to the type of its parameter
abbrev pub arguments : Typed → List Variable → ℕ → List NotedDecl → List NotedExpr → List Expr
arguments p locals k ds [] = []
arguments p locals k [] (e ∷ es) = argument p locals k None e ∷ arguments p locals (k + literals_of e) [] es
arguments p locals k (d ∷ ds) (e ∷ es) = argument p locals k (Some d) e ∷ arguments p locals (k + literals_of e) ds es

-- the argument of `putchar`, which takes one
abbrev pub first_of : Typed → List Variable → ℕ → List NotedExpr → Expr
first_of p locals k [] = outside
first_of p locals k (e ∷ es) = expr_elaborated p locals k e

-- If a function is called, the step of the call stands at its name; every other step stands at the statement.
-- `getchar` and `putchar` are those of ISO C11, 7.21.7.6 and 7.21.7.8.
abbrev pub called : Typed → List Variable → Spot → Destination → ℕ → Name → List NotedExpr → Pos → Code → Code
called p locals s to k (name.Function f) es at rest =
    Call (spot at s.mode) to.kept (number_of (name.Function f) p.tree.items)
    (arguments p locals k (params_of (name.Function f) p.tree.items) es) rest
called p locals s to k name.Getchar es at rest = Get s to.target rest
called p locals s to k name.Putchar es at rest = Put s to.target (first_of p locals k es) rest
called p locals s to k n es at rest = Assign s to.target (Value outside) rest

-- the result of a call goes to a destination, or else the value of the expression
abbrev pub assigned_form : {L M : Type 0} → Typed → List Variable → Spot → Destination → ℕ → NotedExpr → Node-F Name Note L M NotedExpr → Code → Code
assigned_form p locals s to k e (Node-F.Call n es) rest = called p locals s to k n es e.pos rest
assigned_form p locals s to k e node rest = Assign s to.target (right_of p locals k to.terminated e) rest

-- the value of an expression, or the result of a call, goes to a destination (ISO C11, 6.5.16.1)
abbrev pub assigned : Typed → List Variable → Spot → Destination → ℕ → NotedExpr → Code → Code
assigned p locals s to k e rest = assigned_form p locals s to k e (out-Node Name Note e.node) rest

-- ---- declarations

-- A local without an initialiser begins at 0. No local has a list in braces.
abbrev pub started : Typed → List Variable → Spot → Destination → ℕ → NotedInit → Code → Code
started p locals s to k init.Nothing rest = Assign s to.target (Value (Number 0)) rest
started p locals s to k (init.One e) rest = assigned p locals s to k e rest
started p locals s to k (init.Many es) rest = Assign s to.target (Value outside) rest

-- a declaration is an assignment (ISO C11, 6.7.9)
abbrev pub declared : Typed → List Variable → Spot → ℕ → NotedDecl → Code → Code
declared p locals s k d rest =
    started p locals s (destination_for p (type_written d.ctype) d.name) (k + literals_of_bounds d.bounds) d.init rest

-- ---- values in statements

-- a value is returned as the type of the result (ISO C11, 6.8.6.4); without one it is 0
abbrev pub returned : Typed → List Variable → CType → ℕ → Option NotedExpr → Expr
returned p locals result k None = Number 0
returned p locals result k (Some e) = converted result (expr_elaborated p locals k e)

-- a condition that is left out is 1 (ISO C11, 6.8.5.3)
abbrev pub condition : Typed → List Variable → ℕ → Option NotedExpr → Expr
condition p locals k None = Number 1
condition p locals k (Some e) = expr_elaborated p locals k e
