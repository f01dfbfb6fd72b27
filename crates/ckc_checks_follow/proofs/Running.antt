-- Core code runs beside the evaluation of the source: what comes of an evaluation, and the single steps of core code.
use Rattle.std.proofs.Common.{◌≡◌, ℕ, ◌+◌, ◌≤◌, ◌==◌, List, [], refl, ◌∙◌, ap, arith}
use Rattle.std.specs.Prelude.{Bool, true, false, if◌then◌else◌, Some, Result, Ok, Err}
use Rattle.ckc_base.specs.declared.places.Pos.{Pos}
use Rattle.ckc_base.specs.declared.runtime_checks.Check.{Check as CheckName}
use Rattle.ckc_base.specs.Traces as standing
use Rattle.ckc_base.specs.Steps.{Goes}
use Rattle.ckc_base.specs.Actions.{World, Gives, Done, Stops, with_value, checks}
use Rattle.ckc_base.specs.Activations.{Values, with_written}
use Rattle.ckc_source.specs.declared.outcome.Halt.{Halt}
use Rattle.ckc_source.specs.declared.outcome.Halt.TheVariants.{Stopped, Stuck}
use Rattle.ckc_source.specs.Eval.{given}
use Rattle.ckc_core.specs.Code.{Expr, Code, End, Set, Check, If, Loop, Function}
use Rattle.ckc_core.specs.Meaning.{Rest, Next, Body, State, Caller, value_of, nodes, core_step, goes_by, goes_to, branches}
use Rattle.ckc_checks_follow.proofs.Paths.{Quiet, QuietEnds, then_quiet, then_quiet_ends, quiet_by, ends_by, IsQuiet}

-- the innermost call at this code
abbrev pub at : List Caller → World → Code → Rest → Values → State
at callers world code rest locals =
    record { frame = record { code = code; rest = rest; locals = locals }; callers = callers; world = world }

-- ---- what comes of an evaluation

-- From a state core code comes, in at least and in at most so many steps and with nothing seen, to where a value is had; or
-- it stops as the evaluation does. Nothing is asked if the evaluation is stuck.
abbrev pub Runs : {A : Type 0} → List Function → (least most : ℕ) → State → Result A Halt → (A → State → Type 0) → Type 0
Runs functions least most s (Ok v) Q =
    (count : ℕ) × (u : State) × (least ≤ count) × (count ≤ most) × Quiet functions count s u × Q v u
Runs functions least most s (Err (Stopped why place)) Q =
    (count : ℕ) × (count ≤ most) × QuietEnds functions count s (standing.Stopped why place)
Runs functions least most s (Err Stuck) Q = Unit {0}

module _ (functions : List Function) where
  -- a stretch in front
  pub first_runs : {A : Type 0} (count least n k : ℕ) (s u : State) (x : Result A Halt) (Q : A → State → Type 0) → count + n ≤ k
      → Quiet functions count s u → Runs functions least n u x Q → Runs functions least k s x Q
  first_runs count least n k s u (Ok v) Q few path r =
      (count + r.0, r.1, omega (arith, r.2), omega (arith, r.3), then_quiet functions count r.0 s u r.1 path r.4, r.5)
  first_runs count least n k s u (Err (Stopped why place)) Q few path r =
      (count + r.0, omega (arith, r.1), then_quiet_ends functions count r.0 s u (standing.Stopped why place) path r.2)
  first_runs count least n k s u (Err Stuck) Q few path r = tt

  -- the same, if the stretch makes a step
  pub later_runs : {A : Type 0} (count n k : ℕ) (s u : State) (x : Result A Halt) (Q : A → State → Type 0) → count + n ≤ k → 1 ≤ count
      → Quiet functions count s u → Runs functions 0 n u x Q → Runs functions 1 k s x Q
  later_runs count n k s u (Ok v) Q few some path r =
      (count + r.0, r.1, omega arith, omega (arith, r.3), then_quiet functions count r.0 s u r.1 path r.4, r.5)
  later_runs count n k s u (Err (Stopped why place)) Q few some path r =
      (count + r.0, omega (arith, r.1), then_quiet_ends functions count r.0 s u (standing.Stopped why place) path r.2)
  later_runs count n k s u (Err Stuck) Q few some path r = tt

  -- one evaluation and then another
  pub then_runs : {A B : Type 0} (least m n k : ℕ) (s : State) (x : Result A Halt) (f : A → Result B Halt) (Q : A → State → Type 0) (R : B → State → Type 0)
      → m + n ≤ k → Runs functions 0 m s x Q → ((v : A) (u : State) → Q v u → Runs functions least n u (f v) R) → Runs functions least k s (given x f) R
  then_runs least m n k s (Ok v) f Q R few r next =
      first_runs r.0 least n k s r.1 (f v) R (omega (arith, r.3)) r.4 (next v r.1 r.5)
  then_runs least m n k s (Err (Stopped why place)) f Q R few r next = (r.0, omega (arith, r.1), r.2)
  then_runs least m n k s (Err Stuck) f Q R few r next = tt

  -- ---- single steps

  module _ (callers : List Caller) (world : World) where
    pub by_set : (x : ℕ) (e : Expr) (more : Code) (rest : Rest) (locals : Values) (v : ℕ) → value_of locals world.memory e ≡ Some v
        → Quiet functions (nodes e + 1) (at callers world (Set x e more) rest locals) (at callers world more rest (with_written locals x v))
    unfolding core_step
    by_set x e more rest locals v h =
        quiet_by functions (at callers world (Set x e more) rest locals) (at callers world more rest (with_written locals x v))
        (ap (λ o. goes_by (at callers world (Set x e more) rest locals) more (with_value o (λ v. Gives [] x v world))) h) refl

    pub by_pass : (check : CheckName) (place : Pos) (e : Expr) (more : Code) (rest : Rest) (locals : Values) (v : ℕ) → value_of locals world.memory e ≡ Some v
        → (v == 0) ≡ false → Quiet functions (nodes e + 1) (at callers world (Check check place e more) rest locals) (at callers world more rest locals)
    unfolding core_step
    by_pass check place e more rest locals v h z =
        quiet_by functions (at callers world (Check check place e more) rest locals) (at callers world more rest locals)
        (ap (λ o. goes_by (at callers world (Check check place e more) rest locals) more (with_value o (checks world check place))) h
        ∙ ap (λ b. goes_by (at callers world (Check check place e more) rest locals) more (if b then Stops check place else Done [] world)) z) refl

    pub by_fail : (check : CheckName) (place : Pos) (e : Expr) (more : Code) (rest : Rest) (locals : Values) (v : ℕ) → value_of locals world.memory e ≡ Some v
        → (v == 0) ≡ true → QuietEnds functions (nodes e + 1) (at callers world (Check check place e more) rest locals) (standing.Stopped check place)
    unfolding core_step
    by_fail check place e more rest locals v h z =
        ends_by functions IsQuiet (at callers world (Check check place e more) rest locals) (standing.Stopped check place)
        (ap (λ o. goes_by (at callers world (Check check place e more) rest locals) more (with_value o (checks world check place))) h
        ∙ ap (λ b. goes_by (at callers world (Check check place e more) rest locals) more (if b then Stops check place else Done [] world)) z)

    pub by_if : (e : Expr) (one two more : Code) (rest : Rest) (locals : Values) (v : ℕ) → value_of locals world.memory e ≡ Some v
        → Quiet functions (nodes e + 1) (at callers world (If e one two more) rest locals) (at callers world (if v == 0 then two else one) (Next more rest) locals)
    unfolding core_step
    by_if e one two more rest locals v h =
        quiet_by functions (at callers world (If e one two more) rest locals) (at callers world (if v == 0 then two else one) (Next more rest) locals)
        (ap (λ o. branches (at callers world (If e one two more) rest locals) one two more o) h ∙ chosen (v == 0)) refl
      where
        chosen : (zero : Bool) → (if zero then goes_to (at callers world (If e one two more) rest locals) two (Next more rest) else goes_to (at callers world (If e one two more) rest locals) one (Next more rest))
            ≡ Goes [] (at callers world (if zero then two else one) (Next more rest) locals)
        chosen true = refl
        chosen false = refl

    pub by_end : (more : Code) (rest : Rest) (locals : Values) → Quiet functions 1 (at callers world End (Next more rest) locals) (at callers world more rest locals)
    unfolding core_step
    by_end more rest locals = quiet_by functions (at callers world End (Next more rest) locals) (at callers world more rest locals) refl refl

    pub by_loop : (body step more : Code) (rest : Rest) (locals : Values)
        → Quiet functions 1 (at callers world (Loop body step more) rest locals) (at callers world body (Body body step more rest) locals)
    unfolding core_step
    by_loop body step more rest locals =
        quiet_by functions (at callers world (Loop body step more) rest locals) (at callers world body (Body body step more rest) locals) refl refl
