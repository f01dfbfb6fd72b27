-- Each loop of the code that is made does something.
use Rattle.std.proofs.Common.{◌≡◌, ℕ, zero, suc, ◌+◌, ◌-◌, List, [], ◌∷◌, map, refl, arith}
use Rattle.std.specs.Prelude.{Bool, true, false, not, ◌&&◌, ◌||◌, if◌then◌else◌, Option, Some, None, sum_by}
use Rattle.std.proofs.lemmas.List.Sums.{sum_by-cons}
use Rattle.ckc_base.specs.declared.arithmetic.Width.{Width}
use Rattle.ckc_base.specs.declared.arithmetic.Width.TheVariants as width
use Rattle.ckc_base.specs.declared.places.Pos.{Pos}
use Rattle.ckc_base.specs.declared.runtime_checks.Check.{Check as Kind}
use Rattle.ckc_base.specs.declared.runtime_checks.Check.TheVariants as check
use Rattle.ckc_source.specs.declared.expr.Access.{Access}
use Rattle.ckc_source.specs.declared.expr.Count.{Count}
use Rattle.ckc_source.specs.declared.expr.Operation.{Operation}
use Rattle.ckc_source.specs.declared.expr.Shift.{Shift}
use Rattle.ckc_source.specs.declared.expr.Through.{Through}
use Rattle.ckc_source.specs.declared.expr.Through.TheVariants.{Named, Raw, One, Array, Terminated}
use Rattle.ckc_source.specs.declared.stmt.Kept.{Kept}
use Rattle.ckc_source.specs.declared.stmt.Kept.TheVariants as kept
use Rattle.ckc_source.specs.Code as source
use Rattle.ckc_source.specs.Words.{divides}
use Rattle.ckc_core.specs.Code.{Expr, Local, Code, End, Set, Store, Check, Alloc, If, Loop, Break, Function}
use Rattle.ckc_checks_operands.specs.Cases.{casts_one, is_bounded, takes_range}
use Rattle.ckc_checks_operands.specs.code.Operands.{shifted, is_direct, is_zero, operand, keeps_index, held}
use Rattle.ckc_checks_operands.specs.code.Pointers.{index_far, index_in, reads_signed, exact_test, is_counted, count_of, is_array}
use Rattle.ckc_core.specs.Loops.{does_something, idle_in, idle_loops}
use Rattle.ckc_checks_follow.specs.code.Inserted.{unless_direct, put_if, unless_zero, operation_code, exact_code, moved_code, outside_code, count_code, first_code, own_pointer, own_index, counted_code, bounded_code, judged, pointer_at, index_at, reached_code, with_range, pointer_code, trusted_range, value_code, operand_code, operands_code, marked, aim_code, guarded, stored_code, written, assigned, taken, fixed, allowed_code, written_there, right_assigned, valued, behind_planned, plans_code, writes_code, result_kept, statements, zeroed, function_code, inserted}

-- no loop in it does nothing, and if the flag says so it does something itself
pub record Fine (w : Bool) (c : Code) : Type 0 where
  pub idle : idle_in c ≡ 0
  pub works : w ≡ true → does_something c ≡ true

end_fine : Fine false End
end_fine = record { idle = refl; works = λ h. absurd cc }

set_fine : (w : Bool) (x : ℕ) (e : Expr) (rest : Code) → Fine w rest → Fine w (Set x e rest)
set_fine w x e rest h = record { idle = h.idle; works = λ z. refl }

store_fine : (w : Bool) (d : Width) (a e : Expr) (rest : Code) → Fine w rest → Fine w (Store d a e rest)
store_fine w d a e rest h = record { idle = h.idle; works = λ z. refl }

check_fine : (w : Bool) (c : Kind) (at : Pos) (e : Expr) (rest : Code) → Fine w rest → Fine w (Check c at e rest)
check_fine w c at e rest h = record { idle = h.idle; works = λ z. refl }

fork_fine : (w : Bool) (e : Expr) (one two rest : Code) → Fine false one → Fine false two → Fine w rest → Fine w (If e one two rest)
fork_fine w e one two rest h k l = record { idle = omega (arith, h.idle, k.idle, l.idle); works = λ z. refl }

either_fine : (w b : Bool) (x y : Code) → Fine w x → Fine w y → Fine w (if b then x else y)
either_fine w true x y h k = h
either_fine w false x y h k = k

unless_fine : (w : Bool) (e : source.Expr) (code : Code → Code) (rest : Code) → ((r : Code) → Fine w r → Fine w (code r)) → Fine w rest → Fine w (unless_direct e code rest)
unless_fine w e code rest goes h = either_fine w (is_direct e) rest (code rest) h (goes rest h)

put_fine : (w always : Bool) (e : source.Expr) (code : Code → Code) (rest : Code) → ((r : Code) → Fine w r → Fine w (code r)) → Fine w rest → Fine w (put_if always e code rest)
put_fine w always e code rest goes h = either_fine w always (code rest) (unless_direct e code rest) (goes rest h) (unless_fine w e code rest goes h)

zero_fine : (w : Bool) (i : Expr) (code : Code → Code) (rest : Code) → ((r : Code) → Fine w r → Fine w (code r)) → Fine w rest → Fine w (unless_zero i code rest)
zero_fine w i code rest goes h = either_fine w (is_zero i) rest (code rest) h (goes rest h)

operation_fine : (w : Bool) (o : Operation) (s : Bool) (at : Pos) (a b : Expr) (t : ℕ) (rest : Code) → Fine w rest → Fine w (operation_code o s at a b t rest)
operation_fine w o s at a b t rest h = either_fine w (divides o) _ _ (check_fine w _ at b _ (set_fine w t _ rest h)) (set_fine w t _ rest h)

exact_fine : (w : Bool) (shift : Shift) (a i : Expr) (rest : Code) → Fine w rest → Fine w (exact_code shift a i rest)
exact_fine w shift a i rest h = check_fine w _ _ a _ (zero_fine w i _ rest (λ r k. check_fine w check.Arith shift.at (exact_test shift.back (reads_signed shift.index) shift.size a i) r k) h)

moved_fine : (w : Bool) (shift : Shift) (a i : Expr) (t : ℕ) (rest : Code) → Fine w rest → Fine w (moved_code shift a i t rest)
moved_fine w shift a i t rest h =
    either_fine w shift.checked _ _ (exact_fine w shift a i _ (set_fine w t _ rest h)) (set_fine w t _ rest h)

branch_fine : (w last : Bool) (i count : Expr) (outside rest : Code) → Fine false outside → Fine w rest → Fine w (count_code last i count outside rest)
branch_fine w true i count outside rest out h = fork_fine w _ outside End rest out end_fine h
branch_fine w false i count outside rest out h = fork_fine w _ End outside rest end_fine out h

outside_fine : (access : Access) (i : Expr) (t : ℕ) → Fine false (outside_code access i t)
outside_fine access i t = check_fine false _ _ _ _ (check_fine false _ _ _ End end_fine)

first_fine : (w last : Bool) (at : Pos) (count : Expr) (rest : Code) → Fine w rest → Fine w (first_code last at count rest)
first_fine w true at count rest h = h
first_fine w false at count rest h = check_fine w _ at count rest h

counted_fine : (w last : Bool) (access : Access) (i count : Expr) (a t : ℕ) (rest : Code) → Fine w rest → Fine w (counted_code last access i count a t rest)
counted_fine w last access i count a t rest h =
    either_fine w (is_zero i) _ _ (first_fine w last access.at count rest h)
    (branch_fine w last i count (outside_code access i a) _ (outside_fine access i a) (set_fine w t (shifted false access.size (Local a) i) rest h))

bounded_fine : (w last : Bool) (access : Access) (p index : source.Expr) (i : Expr) (t : ℕ) (rest : Code) → Fine w rest → Fine w (bounded_code last access p index i t rest)
bounded_fine w last access p index i t rest h =
    let counted = counted_fine w last access (own_index index i) (count_of access.size p) (own_pointer p t) t rest h in
    either_fine w (is_counted access.size p) _ _ (either_fine w (is_array p) _ _ counted (check_fine w check.Null access.at (Local (own_pointer p t)) _ counted))
    (check_fine w _ _ _ _ (zero_fine w i _ _ (λ r k. check_fine w check.Arith access.at (exact_test false (reads_signed access.index) access.size (Local t) i) _ (set_fine w t (shifted false access.size (Local t) i) r k)) (check_fine w _ _ _ rest h)))

judged_fine : (w : Bool) (through : Through) (access : Access) (p index : source.Expr) (a i : Expr) (t : ℕ) (rest : Code) → Fine w rest → Fine w (judged through access p index a i t rest)
judged_fine w Named access p index a i t rest h = h
judged_fine w Raw access p index a i t rest h = h
judged_fine w One access p index a i t rest h = check_fine w _ _ a rest h
judged_fine w Array access p index a i t rest h = bounded_fine w false access p index i t rest h
judged_fine w Terminated access p index a i t rest h = bounded_fine w true access p index i t rest h

reached_fine : (w : Bool) (access : Access) (p i : source.Expr) (on_p on_i : Code → Code) (t : ℕ) (rest : Code) → ((r : Code) → Fine w r → Fine w (on_p r)) → ((r : Code) → Fine w r → Fine w (on_i r)) → Fine w rest
    → Fine w (reached_code access p i on_p on_i t rest)
reached_fine w access p i on_p on_i t rest goes comes h =
    put_fine w (is_bounded access.through) p on_p _ goes (put_fine w (keeps_index (is_bounded access.through) i) i on_i _ comes
    (judged_fine w access.through access p i (pointer_at access p t) (index_at access i (index_in access p t)) t rest h))

with_fine : (w ranged : Bool) (t : ℕ) (low length : Expr) (rest : Code) → Fine w rest → Fine w (with_range ranged t low length rest)
with_fine w true t low length rest h = set_fine w _ low _ (set_fine w _ length rest h)
with_fine w false t low length rest h = h

pointer_fine : (w ranged : Bool) (size : ℕ) (count : Count) (offset : ℕ) (element place : Expr) (t : ℕ) (rest : Code) → Fine w rest → Fine w (pointer_code ranged size count offset element place t rest)
pointer_fine w true size count offset element place t rest h = set_fine w _ _ _ (set_fine w _ _ _ (set_fine w _ _ _ (set_fine w _ _ rest h)))
pointer_fine w false size count offset element place t rest h = set_fine w _ _ rest h

trusted_fine : (w ranged : Bool) (size : ℕ) (k : Expr) (t : ℕ) (rest : Code) → Fine w rest → Fine w (trusted_range ranged size k t rest)
trusted_fine w true size k t rest h = set_fine w _ _ _ (set_fine w _ _ rest h)
trusted_fine w false size k t rest h = h

truth_fine : (t : ℕ) (e : Expr) → Fine false (Set t e End)
truth_fine t e = set_fine false t e End end_fine

value_fine : (w ranged : Bool) (e : source.Expr) (t : ℕ) (rest : Code) → Fine w rest → Fine w (value_code ranged e t rest)
value_fine w ranged (source.Number n) t rest h = set_fine w t _ _ (with_fine w ranged t _ _ rest h)
value_fine w ranged (source.Local x) t rest h = set_fine w t _ _ (with_fine w ranged t _ _ rest h)
value_fine w ranged (source.Limited x limits) t rest h = set_fine w t _ _ (with_fine w ranged t _ _ rest h)
value_fine w ranged (source.Array at bytes) t rest h = set_fine w t _ _ (with_fine w ranged t _ _ rest h)
value_fine w ranged (source.Load d access p i) t rest h =
    reached_fine w access p i _ _ t _ (value_fine w (takes_range access.through p) p t) (value_fine w false i (index_in access p t)) (set_fine w t _ _ (with_fine w ranged t _ _ rest h))
value_fine w ranged (source.Member to count access p i) t rest h =
    reached_fine w access p i _ _ t _ (value_fine w (takes_range access.through p) p t) (value_fine w false i (index_in access p t)) (pointer_fine w ranged _ _ _ _ _ t rest h)
value_fine w ranged (source.Address bytes access p i) t rest h =
    reached_fine w access p i _ _ t _ (value_fine w (takes_range access.through p) p t) (value_fine w false i (index_in access p t)) (set_fine w t _ _ (with_fine w ranged t _ _ rest h))
value_fine w ranged (source.Moved shift p i) t rest h =
    put_fine w (ranged || shift.checked) p _ _ (value_fine w ranged p t) (put_fine w (keeps_index shift.checked i) i _ _ (value_fine w false i (t + index_far ranged)) (moved_fine w shift _ (held (keeps_index shift.checked i) i (t + index_far ranged)) t rest h))
value_fine w ranged (source.Added shift i p) t rest h =
    put_fine w (keeps_index shift.checked i) i _ _ (value_fine w false i t) (put_fine w (ranged || shift.checked) p _ _ (value_fine w ranged p (t + 1)) (moved_fine w shift _ (held (keeps_index shift.checked i) i t) t _ (with_fine w ranged t (Local (t + 2)) (Local (t + 3)) rest h)))
value_fine w ranged (source.Binary o s at a b) t rest h =
    unless_fine w a _ _ (value_fine w false a t) (unless_fine w b _ _ (value_fine w false b (t + 1)) (operation_fine w o s at _ _ t _ (with_fine w ranged t _ _ rest h)))
value_fine w ranged (source.And a b) t rest h =
    unless_fine w a _ _ (value_fine w false a t) (fork_fine w _ _ _ _ (unless_fine false b _ _ (value_fine false false b t) (truth_fine t _)) (truth_fine t _) (with_fine w ranged t _ _ rest h))
value_fine w ranged (source.Or a b) t rest h =
    unless_fine w a _ _ (value_fine w false a t) (fork_fine w _ _ _ _ (truth_fine t _) (unless_fine false b _ _ (value_fine false false b t) (truth_fine t _)) (with_fine w ranged t _ _ rest h))
value_fine w ranged (source.Choice c a b) t rest h =
    unless_fine w c _ _ (value_fine w false c t) (fork_fine w _ _ _ _ (value_fine false ranged a t End end_fine) (value_fine false ranged b t End end_fine) h)
value_fine w ranged (source.Narrow e) t rest h = unless_fine w e _ _ (value_fine w false e t) (set_fine w t _ _ (with_fine w ranged t _ _ rest h))
value_fine w ranged (source.Bare p) t rest h = value_fine w false p t _ (with_fine w ranged t _ _ rest h)
value_fine w ranged (source.Tested size form at p k) t rest h =
    either_fine w (not ranged && casts_one size p k) _ _ (value_fine w false p t rest h)
    (value_fine w true p t _ (put_fine w (keeps_index true k) k _ _ (value_fine w false k (t + 3)) (check_fine w _ at _ _ (set_fine w _ _ _ (set_fine w _ _ rest h)))))
value_fine w ranged (source.Trusted to form p k) t rest h =
    value_fine w false p t _ (unless_fine w k _ _ (value_fine w false k (t + 1)) (trusted_fine w ranged _ _ t rest h))

operand_fine : (w : Bool) (e : source.Expr) (t : ℕ) (rest : Code) → Fine w rest → Fine w (operand_code e t rest)
operand_fine w e t rest h = unless_fine w e _ rest (value_fine w false e t) h

operands_fine : (w : Bool) (es : List source.Expr) (t : ℕ) (rest : Code) → Fine w rest → Fine w (operands_code es t rest)
operands_fine w [] t rest h = h
operands_fine w (e ∷ es) t rest h = operand_fine w e t _ (operands_fine w es (t + 1) rest h)

marked_fine : (through : Through) (p : source.Expr) (t : ℕ) (rest : Code) → Fine false rest → Fine false (marked through p t rest)
marked_fine Terminated p t rest h = set_fine false _ _ rest h
marked_fine Named p t rest h = h
marked_fine Raw p t rest h = h
marked_fine One p t rest h = h
marked_fine Array p t rest h = h

aim_fine : (target : source.Target) (t : ℕ) (rest : Code) → Fine false rest → Fine false (aim_code target t rest)
aim_fine (source.Memory d access p i) t rest h =
    reached_fine false access p i _ _ t _ (value_fine false (takes_range access.through p) p t) (value_fine false false i (index_in access p t)) (marked_fine access.through p t rest h)
aim_fine source.Nothing t rest h = h
aim_fine (source.Variable x d) t rest h = h

guarded_fine : (through : Through) (at : Pos) (d : Width) (b : Bool) (t u : ℕ) (rest : Code) → Fine false rest → Fine false (guarded through at d b t u rest)
guarded_fine Terminated at d b t u rest h = check_fine false _ at _ rest h
guarded_fine Named at d b t u rest h = h
guarded_fine Raw at d b t u rest h = h
guarded_fine One at d b t u rest h = h
guarded_fine Array at d b t u rest h = h

stored_fine : (through : Through) (at : Pos) (d : Width) (b : Bool) (t u : ℕ) (to e : Expr) (rest : Code) → Fine false rest → Fine false (stored_code through at d b t u to e rest)
stored_fine Terminated at d b t u to e rest h = set_fine false u e _ (guarded_fine Terminated at d b t u _ (store_fine false d to _ rest h))
stored_fine Named at d b t u to e rest h = store_fine false d to e rest h
stored_fine Raw at d b t u to e rest h = store_fine false d to e rest h
stored_fine One at d b t u to e rest h = store_fine false d to e rest h
stored_fine Array at d b t u to e rest h = store_fine false d to e rest h

written_fine : (target : source.Target) (t : ℕ) (b : Bool) (e : Expr) (rest : Code) → Fine false rest → Fine false (written target t b e rest)
written_fine source.Nothing t b e rest h = h
written_fine (source.Variable x d) t b e rest h = set_fine false x _ rest h
written_fine (source.Memory d access p i) t b e rest h = stored_fine access.through access.at d b t _ _ e rest h

assigned_fine : (target : source.Target) (e : source.Expr) (t : ℕ) (rest : Code) → Fine false rest → Fine false (assigned target e t rest)
assigned_fine source.Nothing e t rest h = value_fine false false e t rest h
assigned_fine (source.Variable x d) e t rest h = operand_fine false e _ _ (written_fine (source.Variable x d) t _ _ rest h)
assigned_fine (source.Memory d access p i) e t rest h =
    aim_fine (source.Memory d access p i) t _ (operand_fine false e _ _ (written_fine (source.Memory d access p i) t _ _ rest h))

alloc_fine : (x : ℕ) (e : Expr) (size : ℕ) (rest : Code) → Fine false rest → Fine false (Alloc x e size rest)
alloc_fine x e size rest h = record { idle = h.idle; works = λ z. refl }

taken_fine : (e : source.Expr) (size u : ℕ) (rest : Code) → Fine false rest → Fine false (taken e size u rest)
taken_fine e size u rest h = operand_fine false e u _ (alloc_fine u _ size rest h)

fixed_fine : (target : source.Target) (t : ℕ) (rest : Code) → Fine false rest → Fine false (fixed target t rest)
fixed_fine (source.Memory d access p i) t rest h = set_fine false t _ rest h
fixed_fine source.Nothing t rest h = h
fixed_fine (source.Variable x d) t rest h = h

allowed_fine : (target : source.Target) (t : ℕ) (rest : Code) → Fine false rest → Fine false (allowed_code target t rest)
allowed_fine (source.Memory d access p i) t rest h = guarded_fine access.through access.at d false t _ rest h
allowed_fine source.Nothing t rest h = h
allowed_fine (source.Variable x d) t rest h = h

there_fine : (target : source.Target) (t : ℕ) (e : Expr) (rest : Code) → Fine false rest → Fine false (written_there target t e rest)
there_fine source.Nothing t e rest h = h
there_fine (source.Variable x d) t e rest h = set_fine false x _ rest h
there_fine (source.Memory d access p i) t e rest h = store_fine false d _ e rest h

right_fine : (target : source.Target) (right : source.Right) (t : ℕ) (rest : Code) → Fine false rest → Fine false (right_assigned target right t rest)
right_fine target (source.Value e) t rest h = assigned_fine target e t rest h
right_fine target (source.Fresh to e) t rest h =
    aim_fine target t _ (fixed_fine target t _ (taken_fine e _ _ _ (allowed_fine target t _ (there_fine target t _ rest h))))

valued_fine : (right : source.Right) (u : ℕ) (rest : Code) → Fine false rest → Fine false (valued right u rest)
valued_fine (source.Value e) u rest h = value_fine false false e u rest h
valued_fine (source.Fresh to e) u rest h = taken_fine e _ u rest h

plans_fine : (assigns : List (source.Target × source.Right)) (t : ℕ) (rest : Code) → Fine false rest → Fine false (plans_code assigns t rest)
plans_fine [] t rest h = h
plans_fine (a ∷ assigns) t rest h =
    aim_fine a.0 t _ (fixed_fine a.0 t _ (valued_fine a.1 _ _ (allowed_fine a.0 t _ (plans_fine assigns (behind_planned a.0 t) rest h))))

writes_fine : (assigns : List (source.Target × source.Right)) (t : ℕ) (rest : Code) → Fine false rest → Fine false (writes_code assigns t rest)
writes_fine [] t rest h = h
writes_fine (a ∷ assigns) t rest h = there_fine a.0 t _ _ (writes_fine assigns (behind_planned a.0 t) rest h)

result_fine : (target : Option Kept) (t : ℕ) (rest : Code) → Fine false rest → Fine false (result_kept target t rest)
result_fine None t rest h = h
result_fine (Some (kept.Local x width.Byte)) t rest h = set_fine false x _ rest h
result_fine (Some (kept.Local x width.Word)) t rest h = h
result_fine (Some (kept.Static a d)) t rest h = store_fine false d _ _ rest h

break_fine : (rest : Code) → Fine false (Break rest)
break_fine rest = record { idle = refl; works = λ h. absurd cc }

-- a loop whose body does something
loop_fine : (body step rest : Code) → Fine true body → Fine false step → Fine false rest → Fine false (Loop body step rest)
loop_fine body step rest b s r = record { idle = by (does_something body) (b.works refl); works = λ h. absurd cc }
  where
    by : (w : Bool) → w ≡ true → (if w then 0 else 1) + idle_in body + idle_in step + idle_in rest ≡ 0
    by true h = omega (arith, b.idle, s.idle, r.idle)
    by false h = absurd cc

statements_fine : (t : ℕ) (code : source.Code) → Fine false (statements t code)
statements_fine t source.End = end_fine
statements_fine t (source.Assign spot target right rest) = right_fine target right t _ (statements_fine t rest)
statements_fine t (source.Bundle spot assigns rest) = plans_fine assigns t _ (writes_fine assigns t _ (statements_fine t rest))
statements_fine t (source.Get spot target rest) =
    aim_fine target t _ (let h = written_fine target t false _ _ (statements_fine t rest) in record { idle = h.idle; works = λ z. refl })
statements_fine t (source.Put spot target e rest) =
    aim_fine target t _ (operand_fine false e _ _ (let h = written_fine target t true _ _ (statements_fine t rest) in record { idle = h.idle; works = λ z. refl }))
statements_fine t (source.Call spot target callee es rest) =
    operands_fine false es t _ (let h = result_fine target t _ (statements_fine t rest) in record { idle = h.idle; works = λ z. refl })
statements_fine t (source.If spot e one two rest) = operand_fine false e t _ (fork_fine false _ _ _ _ (statements_fine t one) (statements_fine t two) (statements_fine t rest))
statements_fine t (source.Loop spot e body step rest) =
    loop_fine _ _ _ (operand_fine true e t _ (working (fork_fine false (operand e t) End (Break End) (statements t body) end_fine (break_fine End) (statements_fine t body)))) (statements_fine t step) (statements_fine t rest)
  where
    working : {e : Expr} {one two rest : Code} → Fine false (If e one two rest) → Fine true (If e one two rest)
    working h = record { idle = h.idle; works = λ z. refl }
statements_fine t (source.Break rest) = break_fine _
statements_fine t (source.Continue rest) = record { idle = refl; works = λ h. absurd cc }
statements_fine t (source.Return spot e rest) = operand_fine false e t _ (record { idle = refl; works = λ z. refl })
statements_fine t (source.Check spot e rest) = operand_fine false e t _ (check_fine false _ _ _ _ (statements_fine t rest))

zeroed_fine : (x count : ℕ) (rest : Code) → Fine false rest → Fine false (zeroed x count rest)
zeroed_fine x zero rest h = h
zeroed_fine x (suc count) rest h = set_fine false x _ _ (zeroed_fine (x + 1) count rest h)

functions_busy : (fs : List source.Function) → sum_by (λ (f : Function). idle_in f.body) (map function_code fs) ≡ 0
functions_busy [] = refl
functions_busy (f ∷ fs) =
    let h = zeroed_fine f.params (f.locals - f.params) _ (statements_fine f.locals f.body) in
    omega (arith, sum_by-cons (λ (g : Function). idle_in g.body) (function_code f) (map function_code fs), h.idle, functions_busy fs)

pub inserted_busy : (p : source.Program) → idle_loops (inserted p) ≡ 0
inserted_busy p = functions_busy p.functions
