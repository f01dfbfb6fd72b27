-- How states of core code and of its three-address code are related.
use Rattle.std.proofs.Common.{◌≡◌, ◌⊎◌, inl, inr, ℕ, ◌+◌, List, [], ◌∷◌, ◌++◌}
use Rattle.std.specs.Prelude.{false, Option, Some, None, slice_get, All}
use Rattle.ckc_base.specs.declared.places.Pos.{Pos}
use Rattle.ckc_base.specs.declared.runtime_checks.Check.{Check as CheckName}
use Rattle.ckc_core.specs.Code.{Code, End, Set, Store, Check, Call, Get, Put, Alloc, If, Loop, Break, Continue, Return, Function}
use Rattle.ckc_core.specs.Meaning.{Rest, Stop, Next, Body, Step}
use Rattle.ckc_core.specs.Meaning as C
use Rattle.ckc_core.specs.WellFormed.{IsExprOver}
use Rattle.ckc_tac.specs.declared.code.TacFunc.{TacFunc}
use Rattle.ckc_tac.specs.declared.code.TacBlock.{TacBlock}
use Rattle.ckc_tac.specs.declared.code.Operand.TheVariants.{Number}
use Rattle.ckc_tac.specs.declared.code.TacOp.{TacOp}
use Rattle.ckc_tac.specs.declared.code.TacOp.TheVariants as op
use Rattle.ckc_tac.specs.declared.code.TacEnd.{TacEnd}
use Rattle.ckc_tac.specs.declared.code.TacEnd.TheVariants as ends
use Rattle.ckc_tac.specs.Meaning as T
use Rattle.ckc_lower.specs.declared.builder.Targets.{Targets}
use Rattle.ckc_lower.specs.code.Terms.{term_of, base_of}
use Rattle.ckc_lower.specs.code.Built.{term_free, term_operand, stores_at, free_from, operand_of, registers_of, out_of, step_of, Test, test_of, checked_test, branch_of}
use Rattle.ckc_lower.proofs.Values.{term_ops, value_ops, Agree}
use Rattle.ckc_lower.proofs.Arguments.{values_ops}
use Rattle.ckc_lower.proofs.Appending.{test_ops}

-- there is a block with the number, and this holds of its operations and its end
abbrev pub At : List TacBlock → ℕ → (List TacOp → TacEnd → Type 0) → Type 0
At blocks i P = (block : TacBlock) × (slice_get blocks i ≡ Some block) × P block.ops block.end

abbrev pub IsThere : List TacBlock → ℕ → Type 0
IsThere blocks i = (block : TacBlock) × (slice_get blocks i ≡ Some block)

-- these operations and this end are all of the block with the number
abbrev pub BeginsAt : List TacBlock → ℕ → List TacOp → TacEnd → Type 0
BeginsAt blocks i ops end = (block : TacBlock) × (slice_get blocks i ≡ Some block) × (ops ≡ block.ops) × (end ≡ block.end)

-- Control that is to run the code goes to a block that is there: where the code passes to what comes next, or else to
-- one of its own, of which a fact is given.
abbrev pub Leads : List TacBlock → Code → Option ℕ → Option Targets → ℕ → Type 0 → Type 0
Leads blocks End (Some e) loop to own = (to ≡ e) × IsThere blocks to
Leads blocks (Break rest) exit loop to own = (to ≡ out_of loop) × IsThere blocks to
Leads blocks (Continue rest) exit loop to own = (to ≡ step_of loop) × IsThere blocks to
Leads blocks code exit loop to own = own

-- a block that a loop begins with: it is jumped to, or begins here
abbrev pub Enters : List TacBlock → List TacOp → TacEnd → ℕ → Type 0
Enters blocks ops end head = ((ops ≡ []) × (end ≡ ends.Jump head)) ⊎ BeginsAt blocks head ops end

-- the end of a list of statements: a jump, or the return of 0
abbrev pub Leaves : List TacOp → TacEnd → Option ℕ → Type 0
Leaves ops end (Some to) = (ops ≡ []) × (end ≡ ends.Jump to)
Leaves ops end None = (ops ≡ []) × (end ≡ ends.Return (Number 0))

-- the check of a test
abbrev pub check_op : CheckName → Pos → ℕ → Test → TacOp
check_op check place t s = op.Check check place s.comparison (operand_of s.left None t) (operand_of s.right None (free_from s.left t))

abbrev pub loop_of : (out step : ℕ) → Option Targets
loop_of out step = Some (record { out = out; step = step })

-- From these operations and this end on the blocks run the code, over t locals: after it they go to the exit, and out
-- of the innermost loop where it says.
abbrev pub Runs : List TacBlock → ℕ → Code → List TacOp → TacEnd → Option ℕ → Option Targets → Type 0
Runs blocks t End ops end exit loop = Leaves ops end exit
Runs blocks t (Set x e rest) ops end exit loop =
    (more : List TacOp) × (ops ≡ value_ops e (Some x) t ++ more) × IsExprOver t e × Runs blocks t rest more end exit loop
Runs blocks t (Store width a e rest) ops end exit loop =
    (more : List TacOp)
    × (ops ≡ term_ops (base_of (term_of a)) None t ++ (value_ops e None (term_free (base_of (term_of a)) t)
    ++ (stores_at width a (term_operand (base_of (term_of a)) None t) (operand_of e None (term_free (base_of (term_of a)) t)) ∷ more)))
    × IsExprOver t a × IsExprOver t e × Runs blocks t rest more end exit loop
Runs blocks t (Check check place e rest) ops end exit loop =
    (more : List TacOp)
    × (ops ≡ value_ops (checked_test e).left None t ++ (value_ops (checked_test e).right None (free_from (checked_test e).left t)
    ++ (check_op check place t (checked_test e) ∷ more)))
    × IsExprOver t e × Runs blocks t rest more end exit loop
Runs blocks t (Call target callee es place rest) ops end exit loop =
    (more : List TacOp) × (ops ≡ values_ops es t ++ (op.Call target callee (registers_of es t) place ∷ more)) × All (IsExprOver t) es
    × Runs blocks t rest more end exit loop
Runs blocks t (Get x rest) ops end exit loop =
    (more : List TacOp) × (ops ≡ op.Get x ∷ more) × Runs blocks t rest more end exit loop
Runs blocks t (Put e rest) ops end exit loop =
    (more : List TacOp) × (ops ≡ value_ops e None t ++ (op.Put (operand_of e None t) ∷ more)) × IsExprOver t e
    × Runs blocks t rest more end exit loop
Runs blocks t (Alloc x e size rest) ops end exit loop =
    (more : List TacOp) × (ops ≡ value_ops e None t ++ (op.Alloc x (operand_of e None t) size ∷ more)) × IsExprOver t e
    × Runs blocks t rest more end exit loop
Runs blocks t (If e one two rest) ops end exit loop =
    (to_one to_two join : ℕ) × (ops ≡ test_ops t (test_of e false)) × (end ≡ branch_of (test_of e false) t to_one to_two) × IsExprOver t e
    × Leads blocks one (Some join) loop to_one (At blocks to_one (λ ops end. Runs blocks t one ops end (Some join) loop))
    × Leads blocks two (Some join) loop to_two (At blocks to_two (λ ops end. Runs blocks t two ops end (Some join) loop))
    × Leads blocks rest exit loop join (At blocks join (λ ops end. Runs blocks t rest ops end exit loop))
Runs blocks t (Loop body step rest) ops end exit loop =
    (head to_step out : ℕ) × Enters blocks ops end head
    × At blocks head (λ ops end. Runs blocks t body ops end (Some to_step) (loop_of out to_step))
    × Leads blocks step (Some head) None to_step (At blocks to_step (λ ops end. Runs blocks t step ops end (Some head) None))
    × Leads blocks rest exit loop out (At blocks out (λ ops end. Runs blocks t rest ops end exit loop))
Runs blocks t (Break rest) ops end exit loop = (ops ≡ []) × (end ≡ ends.Jump (out_of loop))
Runs blocks t (Continue rest) ops end exit loop = (ops ≡ []) × (end ≡ ends.Jump (step_of loop))
Runs blocks t (Return e rest) ops end exit loop =
    (ops ≡ value_ops e None t) × (end ≡ ends.Return (operand_of e None t)) × IsExprOver t e

abbrev pub RunsAt : List TacBlock → ℕ → ℕ → Code → Option ℕ → Option Targets → Type 0
RunsAt blocks t i code exit loop = At blocks i (λ ops end. Runs blocks t code ops end exit loop)

abbrev pub LeadsTo : List TacBlock → ℕ → ℕ → Code → Option ℕ → Option Targets → Type 0
LeadsTo blocks t to code exit loop = Leads blocks code exit loop to (RunsAt blocks t to code exit loop)

-- code that passes, and where to
abbrev pub PassesTo : Code → Option ℕ → Option Targets → ℕ → Type 0
PassesTo End (Some e) loop to = to ≡ e
PassesTo (Break rest) exit loop to = to ≡ out_of loop
PassesTo (Continue rest) exit loop to = to ≡ step_of loop
PassesTo code exit loop to = ⊥

-- the code is run from here on, or it passes to a block that begins here
abbrev pub Stands : List TacBlock → ℕ → Code → List TacOp → TacEnd → Option ℕ → Option Targets → Type 0
Stands blocks t code ops end exit loop =
    Runs blocks t code ops end exit loop ⊎ ((to : ℕ) × PassesTo code exit loop to × BeginsAt blocks to ops end)

abbrev pub StandsAt : List TacBlock → ℕ → ℕ → Code → Option ℕ → Option Targets → Type 0
StandsAt blocks t i code exit loop = At blocks i (λ ops end. Stands blocks t code ops end exit loop)

-- a loop with what stands after it: its block head, where its step leads, and what is after it
pub record LoopRuns (blocks : List TacBlock) (t head to_step out : ℕ) (body step code : Code) (exit : Option ℕ) (loop : Option Targets) : Type 0 where
  pub body_runs : RunsAt blocks t head body (Some to_step) (loop_of out to_step)
  pub step_runs : LeadsTo blocks t to_step step (Some head) None
  pub behind : LeadsTo blocks t out code exit loop

-- what comes after the statements that run stands at the exit, and out of the innermost loop where it says
abbrev pub Continues : List TacBlock → ℕ → Rest → Option ℕ → Option Targets → Type 0
Continues blocks t Stop exit loop = (exit ≡ None) × (loop ≡ None)
Continues blocks t (Next code after) exit loop =
    (to : ℕ) × (outer : Option ℕ) × (exit ≡ Some to) × LeadsTo blocks t to code outer loop × Continues blocks t after outer loop
Continues blocks t (Body body step code after) exit loop =
    (head to_step out : ℕ) × (outer : Option ℕ) × (around : Option Targets) × (exit ≡ Some to_step) × (loop ≡ loop_of out to_step)
    × LoopRuns blocks t head to_step out body step code outer around × Continues blocks t after outer around
Continues blocks t (Step body step code after) exit loop =
    (head to_step out : ℕ) × (outer : Option ℕ) × (around : Option Targets) × (exit ≡ Some head) × (loop ≡ None)
    × LoopRuns blocks t head to_step out body step code outer around × Continues blocks t after outer around

-- ---- what falls while no step is made

-- how many loops begin where the code stands
abbrev pub lead : Code → ℕ
lead (Loop body step rest) = 1 + lead body
lead code = 0

-- at most so many steps of core code are made from a list that is at its end on, before code is run
abbrev pub pend : Rest → ℕ
pend Stop = 0
pend (Next code after) = 1 + lead code + pend after
pend (Body body step code after) = 2 + lead body + lead step + lead code + pend after
pend (Step body step code after) = lead body

abbrev pub turns_of : {A B : Type 0} → Code → Rest → A ⊎ B → ℕ
turns_of {A} {B} code rest (inl a) = lead code
turns_of {A} {B} code rest (inr b) = 1 + pend rest

-- a call of core code and the same call of its three-address code
pub record SameFrame (f : C.Frame) (g : T.Frame) : Type 0 where
  pub locals : ℕ
  pub exit : Option ℕ
  pub loop_at : Option Targets
  pub stands : Stands g.blocks locals f.code g.ops g.end exit loop_at
  pub continues : Continues g.blocks locals f.rest exit loop_at
  pub agree : Agree locals g.registers f.locals

abbrev pub SameCallers : List C.Caller → List T.Caller → Type 0
SameCallers [] [] = Unit {0}
SameCallers [] (d ∷ ds) = ⊥
SameCallers (c ∷ cs) [] = ⊥
SameCallers (c ∷ cs) (d ∷ ds) = SameFrame c.frame d.frame × (c.target ≡ d.target) × SameCallers cs ds

pub record SameState (s : C.State) (u : T.State) : Type 0 where
  pub frame : SameFrame s.frame u.frame
  pub callers : SameCallers s.callers u.callers
  pub world : s.world ≡ u.world

abbrev pub left_of : (s : C.State) (u : T.State) → SameState s u → ℕ
left_of s u r = turns_of s.frame.code s.frame.rest r.frame.stands

-- each function of core code has one with its code at the same number
abbrev pub SameFunctions : List Function → List TacFunc → Type 0
SameFunctions functions lowered =
    (i : ℕ) (f : Function) → slice_get functions i ≡ Some f
    → (g : TacFunc) × (slice_get lowered i ≡ Some g) × RunsAt g.blocks f.locals 0 f.body None None
