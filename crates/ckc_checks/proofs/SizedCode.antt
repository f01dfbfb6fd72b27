-- The size of the core code of statements is at most what they weigh, and so that of a program.
use Rattle.std.proofs.Common.{ℕ, zero, suc, ◌+◌, ◌-◌, ◌*◌, ◌≤◌, List, [], ◌∷◌, arith}
use Rattle.std.specs.Prelude.{Bool, true, false, if◌then◌else◌, Option, Some, None, map, sum_by}
use Rattle.std.proofs.lemmas.List.Sums.{sum_by-cons}
use Rattle.ckc_base.specs.declared.arithmetic.Width.{Width}
use Rattle.ckc_base.specs.declared.arithmetic.Width.TheVariants as width
use Rattle.ckc_base.specs.declared.arithmetic.BinOp.TheVariants as binary
use Rattle.ckc_base.specs.declared.places.Pos.{Pos}
use Rattle.ckc_source.specs.declared.expr.Through.{Through}
use Rattle.ckc_source.specs.declared.expr.Through.TheVariants.{Named, Raw, One, Array, Terminated}
use Rattle.ckc_base.specs.declared.runtime_checks.Check.TheVariants as check
use Rattle.ckc_source.specs.declared.stmt.Kept.{Kept}
use Rattle.ckc_source.specs.declared.stmt.Kept.TheVariants as kept
use Rattle.ckc_source.specs.Code as source
use Rattle.ckc_core.specs.Code.{Expr, Local, Bin, Code, End, Set, Store, Check}
use Rattle.ckc_core.specs.Sizes.{expr_size, code_size, function_size, program_size}
use Rattle.ckc_checks_operands.specs.Compilable.{guard_nodes}
use Rattle.ckc_checks_operands.specs.Weights.{expr_weight, target_weight, right_weight, assigns_weight, code_weight, function_weight, program_weight}
use Rattle.ckc_checks_operands.specs.code.Operands.{low_byte, kept_in, operand}
use Rattle.ckc_checks_operands.specs.Cases.{is_ranged}
use Rattle.ckc_checks_operands.specs.code.Pointers.{below_end, range_end}
use Rattle.ckc_checks_follow.specs.code.Inserted.{reached_place, operand_code, operands, is_narrow, marked, aim_code, target_count, guarded, stored_code, written, fixed, allowed_code, written_there, right_assigned, valued, behind_planned, plans_code, writes_code, result_in, result_kept, statements, zeroed, function_code, inserted}
use Rattle.ckc_checks.proofs.Sized.{set_sized, range_end_sized, expr_sized, access_sized, operand_sized, arguments_sized}

-- ---- where zero alone may be written

abbrev mark_size : Through → ℕ
mark_size Terminated = 80
mark_size _ = 0

abbrev guard_size : Through → ℕ
guard_size Terminated = 100
guard_size _ = 0

guard_sized : (through : Through) → mark_size through + guard_size through ≤ 60 * guard_nodes through
guard_sized Terminated = omega arith
guard_sized Named = omega arith
guard_sized Raw = omega arith
guard_sized One = omega arith
guard_sized Array = omega arith

below_end_sized : (b : Bool) (p : source.Expr) (t : ℕ)
    → expr_size (if b then Bin binary.Ne (Local t) (range_end true p) else Bin binary.Ne (Bin binary.Sub (Local t) (Local (t + 1))) (Local (t + 2))) ≤ 70
below_end_sized true p t = omega (arith, range_end_sized true p)
below_end_sized false p t = omega arith

marked_sized : (through : Through) (p : source.Expr) (t : ℕ) (rest : Code) → code_size (marked through p t rest) ≤ mark_size through + code_size rest
marked_sized Terminated p t rest = omega (arith, set_sized (below_end p t), below_end_sized (is_ranged p) p t)
marked_sized Named p t rest = omega arith
marked_sized Raw p t rest = omega arith
marked_sized One p t rest = omega arith
marked_sized Array p t rest = omega arith

kept_sized : (w : Width) (is_byte : Bool) (u : ℕ) → expr_size (kept_in w is_byte (Local u)) ≤ 16
kept_sized width.Word is_byte u = omega arith
kept_sized width.Byte true u = omega arith
kept_sized width.Byte false u = omega arith

guarded_sized : (through : Through) (at : Pos) (w : Width) (is_byte : Bool) (t u : ℕ) (rest : Code) → code_size (guarded through at w is_byte t u rest) ≤ guard_size through + code_size rest
guarded_sized Terminated at w is_byte t u rest = omega (arith, kept_sized w is_byte u)
guarded_sized Named at w is_byte t u rest = omega arith
guarded_sized Raw at w is_byte t u rest = omega arith
guarded_sized One at w is_byte t u rest = omega arith
guarded_sized Array at w is_byte t u rest = omega arith

stored_sized : (through : Through) (at : Pos) (w : Width) (is_byte : Bool) (t u : ℕ) (to e : Expr) (rest : Code)
    → code_size (stored_code through at w is_byte t u to e rest) ≤ 7 + expr_size to + expr_size e + guard_size through + code_size rest
stored_sized Terminated at w is_byte t u to e rest = omega (arith, set_sized e, kept_sized w is_byte u)
stored_sized Named at w is_byte t u to e rest = omega arith
stored_sized Raw at w is_byte t u to e rest = omega arith
stored_sized One at w is_byte t u to e rest = omega arith
stored_sized Array at w is_byte t u to e rest = omega arith

abbrev allow_size : source.Target → ℕ
allow_size (source.Memory w access p i) = guard_size access.through
allow_size _ = 0

allowed_sized : (target : source.Target) (t : ℕ) (rest : Code) → code_size (allowed_code target t rest) ≤ allow_size target + code_size rest
allowed_sized source.Nothing t rest = omega arith
allowed_sized (source.Variable x w) t rest = omega arith
allowed_sized (source.Memory w access p i) t rest = guarded_sized access.through access.at w false t (t + target_count (source.Memory w access p i)) rest

-- A value is written after what finds the place of the target.
aimed_sized : (target : source.Target) (t n : ℕ) (is_byte : Bool) (value : Expr) (rest inner : Code)
    → code_size inner + expr_size value ≤ n + code_size (written target t is_byte value rest)
    → code_size (aim_code target t inner) ≤ 22 + target_weight target + n + code_size rest
aimed_sized source.Nothing t n is_byte value rest inner h = omega arith
aimed_sized (source.Variable x width.Word) t n is_byte value rest inner h = omega (arith, set_sized value)
aimed_sized (source.Variable x width.Byte) t n true value rest inner h = omega (arith, set_sized value)
aimed_sized (source.Variable x width.Byte) t n false value rest inner h = omega arith
aimed_sized (source.Memory w access p i) t n is_byte value rest inner h =
    let last = marked access.through p t inner in
    omega (
      arith,
      access_sized access p i t last,
      marked_sized access.through p t inner,
      guard_sized access.through,
      stored_sized access.through access.at w is_byte t (t + target_count (source.Memory w access p i)) (reached_place access p i t) value rest,
      h,
    )

assigned_sized : (target : source.Target) (e : source.Expr) (t : ℕ) (rest : Code)
    → code_size (aim_code target t (operand_code e (t + target_count target) (written target t (is_narrow e) (operand e (t + target_count target)) rest)))
    ≤ 22 + target_weight target + expr_weight e + code_size rest
assigned_sized target e t rest =
    let u = t + target_count target in
    let after = written target t (is_narrow e) (operand e u) rest in
    aimed_sized target t (expr_weight e) (is_narrow e) (operand e u) rest (operand_code e u after) (omega (arith, operand_sized e u after))

there_sized : (target : source.Target) (t n u : ℕ) (rest inner : Code) → code_size inner ≤ n + code_size (allowed_code target t (written_there target t (Local u) rest))
    → code_size (aim_code target t (fixed target t inner)) ≤ 22 + target_weight target + n + code_size rest
there_sized source.Nothing t n u rest inner h = omega arith
there_sized (source.Variable x width.Word) t n u rest inner h = omega arith
there_sized (source.Variable x width.Byte) t n u rest inner h = omega arith
there_sized (source.Memory w access p i) t n u rest inner h =
    let place = reached_place access p i t in
    let set = Set t place inner in
    let last = marked access.through p t set in
    omega (
      arith,
      set_sized place,
      access_sized access p i t last,
      marked_sized access.through p t set,
      guard_sized access.through,
      guarded_sized access.through access.at w false t (t + target_count (source.Memory w access p i)) (Store w (Local t) (Local u) rest),
      h,
    )

right_sized : (target : source.Target) (right : source.Right) (t : ℕ) (rest : Code)
    → code_size (right_assigned target right t rest) ≤ 54 + target_weight target + right_weight right + code_size rest
right_sized source.Nothing (source.Value e) t rest = omega (arith, expr_sized e t rest)
right_sized (source.Variable x w) (source.Value e) t rest = omega (arith, assigned_sized (source.Variable x w) e t rest)
right_sized (source.Memory w access p i) (source.Value e) t rest = omega (arith, assigned_sized (source.Memory w access p i) e t rest)
right_sized target (source.Fresh to e) t rest =
    let u = t + target_count target in
    let alloc = Code.Alloc u (operand e u) to.size (allowed_code target t (written_there target t (Local u) rest)) in
    omega (arith, there_sized target t (expr_weight e + 32) u rest (operand_code e u alloc) (omega (arith, operand_sized e u alloc)))

-- the place and the value of an assignment in a bundle, and the write
aim_fixed_sized : (target : source.Target) (t u : ℕ) (inner rest : Code)
    → code_size (aim_code target t (fixed target t inner)) + allow_size target + code_size (written_there target t (Local u) rest) ≤ 22 + target_weight target + code_size inner + code_size rest
aim_fixed_sized source.Nothing t u inner rest = omega arith
aim_fixed_sized (source.Variable x width.Word) t u inner rest = omega arith
aim_fixed_sized (source.Variable x width.Byte) t u inner rest = omega arith
aim_fixed_sized (source.Memory w access p i) t u inner rest =
    let place = reached_place access p i t in
    let set = Set t place inner in
    let last = marked access.through p t set in
    omega (
      arith,
      set_sized place,
      access_sized access p i t last,
      marked_sized access.through p t set,
      guard_sized access.through,
    )

valued_sized : (right : source.Right) (u : ℕ) (rest : Code) → code_size (valued right u rest) ≤ 42 + right_weight right + code_size rest
valued_sized (source.Value e) u rest = omega (arith, expr_sized e u rest)
valued_sized (source.Fresh to e) u rest = omega (arith, operand_sized e u (Code.Alloc u (operand e u) to.size rest))

bundle_sized : (assigns : List (source.Target × source.Right)) (t : ℕ) (inner rest : Code)
    → code_size (plans_code assigns t inner) + code_size (writes_code assigns t rest) ≤ assigns_weight assigns + code_size inner + code_size rest
bundle_sized [] t inner rest = omega arith
bundle_sized (a ∷ assigns) t inner rest =
    let next = behind_planned a.0 t in
    let u = t + target_count a.0 in
    let plans = plans_code assigns next inner in
    let last = allowed_code a.0 t plans in
    omega (
      arith,
      aim_fixed_sized a.0 t u (valued a.1 u last) (writes_code assigns next rest),
      valued_sized a.1 u last,
      allowed_sized a.0 t plans,
      bundle_sized assigns next inner rest,
    )

result_sized : (target : Option Kept) (t : ℕ) (rest : Code) → code_size (result_kept target t rest) ≤ 16 + code_size rest
result_sized None t rest = omega arith
result_sized (Some (kept.Local x width.Byte)) t rest = omega arith
result_sized (Some (kept.Local x width.Word)) t rest = omega arith
result_sized (Some (kept.Static a w)) t rest = omega arith

statements_sized : (t : ℕ) (code : source.Code) → code_size (statements t code) ≤ code_weight code + 2
statements_sized t source.End = omega arith
statements_sized t (source.Assign spot target right rest) =
    omega (arith, right_sized target right t (statements t rest), statements_sized t rest)
statements_sized t (source.Bundle spot assigns rest) =
    let writes = writes_code assigns t (statements t rest) in
    omega (arith, bundle_sized assigns t writes (statements t rest), statements_sized t rest)
statements_sized t (source.Get spot target rest) =
    let u = t + target_count target in
    let after = written target t false (Local u) (statements t rest) in
    omega (arith, aimed_sized target t 6 false (Local u) (statements t rest) (Code.Get u after) (omega arith), statements_sized t rest)
statements_sized t (source.Put spot target e rest) =
    let u = t + target_count target in
    let after = written target t true (low_byte (operand e u)) (statements t rest) in
    let put = Code.Put (operand e u) after in
    omega (
      arith,
      aimed_sized target t (expr_weight e + 23) true (low_byte (operand e u)) (statements t rest) (operand_code e u put) (omega (arith, operand_sized e u put)),
      statements_sized t rest,
    )
statements_sized t (source.Call spot target callee es rest) =
    let after = result_kept target t (statements t rest) in
    let call = Code.Call (result_in target t) callee (operands es t) spot.at after in
    omega (arith, arguments_sized es t call, result_sized target t (statements t rest), statements_sized t rest)
statements_sized t (source.If spot e one two rest) =
    let after = Code.If (operand e t) (statements t one) (statements t two) (statements t rest) in
    omega (arith, operand_sized e t after, statements_sized t one, statements_sized t two, statements_sized t rest)
statements_sized t (source.Loop spot e body step rest) =
    let after = Code.If (operand e t) End (Code.Break End) (statements t body) in
    omega (arith, operand_sized e t after, statements_sized t body, statements_sized t step, statements_sized t rest)
statements_sized t (source.Break rest) = omega (arith, statements_sized t rest)
statements_sized t (source.Continue rest) = omega (arith, statements_sized t rest)
statements_sized t (source.Return spot e rest) =
    omega (arith, operand_sized e t (Code.Return (operand e t) (statements t rest)), statements_sized t rest)
statements_sized t (source.Check spot e rest) =
    omega (arith, operand_sized e t (Check check.Dynamic spot.at (operand e t) (statements t rest)), statements_sized t rest)

zeroed_sized : (x count : ℕ) (rest : Code) → code_size (zeroed x count rest) ≤ 5 * count + code_size rest
zeroed_sized x zero rest = omega arith
zeroed_sized x (suc count) rest = omega (arith, zeroed_sized (x + 1) count rest)

function_sized : (f : source.Function) → function_size (function_code f) ≤ function_weight f
function_sized f =
    omega (arith, zeroed_sized f.params (f.locals - f.params) (statements f.locals f.body), statements_sized f.locals f.body)

functions_sized : (fs : List source.Function) → sum_by function_size (map function_code fs) ≤ sum_by function_weight fs
functions_sized [] = omega arith
functions_sized (f ∷ fs) =
    omega (arith, function_sized f, functions_sized fs, sum_by-cons function_size (function_code f) (map function_code fs), sum_by-cons function_weight f fs)

-- the core code has at most as many instructions as the program weighs
pub inserted_weighed : (p : source.Program) → program_size (inserted p) ≤ program_weight p
inserted_weighed p = functions_sized p.functions
