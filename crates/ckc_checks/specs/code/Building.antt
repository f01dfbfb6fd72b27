-- What stands in a list of statements that is built from its end. Private contracts alone speak of it.
use Rattle.std.specs.Prelude.{ℕ, ◌+◌, Bool, true, false, List, reverse, Option}
use Rattle.ckc_base.specs.declared.places.Pos.{Pos}
use Rattle.ckc_base.specs.declared.runtime_checks.Check.TheVariants as check
use Rattle.ckc_core.specs.declared.code.CoreStmt.{CoreStmt}
use Rattle.ckc_core.specs.Code.{Const, Local, Load, Code, End, Set, Get, Put, Call, If, Loop, Break, Return, Check, code_of}
use Rattle.ckc_source.specs.declared.stmt.Kept.{Kept}
use Rattle.ckc_source.specs.Code as source
use Rattle.ckc_checks_operands.specs.code.Operands.{operand, low_byte}
use Rattle.ckc_checks_follow.specs.code.Inserted.{put_if, room_if, reached_element, reached_place, with_range, no_range, pointer_code, value_code, value_room, expr_code, operand_code, operands_code, operands, operand_used, aim_code, target_count, written, result_in, result_kept}

-- the code of statements from the last one to the first
unfoldable pub behind : List CoreStmt → Code
behind statements = code_of (reverse statements)

-- what gives the value of an access, after its pointer, its index and its checks
abbrev pub reached_value : Bool → source.Expr → ℕ → Code → Code
reached_value ranged (source.Load width access p i) t rest =
    Set t (Load width (reached_place access p i t)) (no_range ranged t rest)
reached_value ranged (source.Member to count access p i) t rest =
    pointer_code ranged to.size count access.offset (reached_element access p i t) (reached_place access p i t) t rest
reached_value ranged (source.Address bytes access p i) t rest =
    Set t (reached_place access p i t) (with_range ranged t (Local t) (Const bytes) rest)
reached_value ranged e t rest = rest

-- the code of an expression, if the flag says so also that of a direct one
abbrev pub value_code_if : Bool → Bool → source.Expr → ℕ → Code → Code
value_code_if ranged always e t rest = put_if always e (value_code ranged e t) rest

abbrev pub expr_code_if : Bool → source.Expr → ℕ → Code → Code
expr_code_if always e t rest = put_if always e (expr_code e t) rest

abbrev pub put_code : source.Target → source.Expr → ℕ → Code → Code
put_code target e t rest =
    aim_code target t (operand_used e (t + target_count target) (λ value. Put value (written target t true (low_byte value) rest)))

abbrev pub get_code : source.Target → ℕ → Code → Code
get_code target t rest =
    aim_code target t (Get (t + target_count target) (written target t false (Local (t + target_count target)) rest))

abbrev pub call_code : Option Kept → ℕ → List source.Expr → Pos → ℕ → Code → Code
call_code target callee es at t rest =
    operands_code es t (Call (result_in target t) callee (operands es t) at (result_kept target t rest))

abbrev pub branch_code : source.Expr → ℕ → Code → Code → Code → Code
branch_code e t one two rest = operand_code e t (If (operand e t) one two rest)

abbrev pub loop_code : source.Expr → ℕ → Code → Code → Code → Code
loop_code e t body step rest = Loop (branch_code e t End (Break End) body) step rest

abbrev pub return_code : source.Expr → ℕ → Code → Code
return_code e t rest = operand_code e t (Return (operand e t) rest)

abbrev pub check_code : Pos → source.Expr → ℕ → Code → Code
check_code at e t rest = operand_code e t (Check check.Dynamic at (operand e t) rest)

-- how many temporaries that needs
abbrev pub value_room_if : Bool → Bool → source.Expr → ℕ
value_room_if ranged always e = room_if always e (value_room ranged e)
