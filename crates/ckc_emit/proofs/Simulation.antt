-- Each step of placed code is simulated by the machine.
use Rattle.std.proofs.Common.{◌≡◌, ℕ, ◌+◌, ◌*◌, ◌≤◌, List, [], ◌∷◌, length, refl, sym, subst, arith}
use Rattle.ckc_rv.specs.Machine as machine
use Rattle.ckc_tac.specs.declared.code.TacOp.{TacOp}
use Rattle.ckc_tac.specs.declared.code.TacOp.TheVariants.{Const, Copy, Bin, High, Load, Store, Check, Call, Get, Put, Alloc}
use Rattle.ckc_tac.specs.declared.code.TacEnd.{TacEnd}
use Rattle.ckc_tac.specs.declared.code.TacEnd.TheVariants.{Jump, Branch, Return}
use Rattle.ckc_tac.specs.WellFormed.{IsEndOver}
use Rattle.ckc_frame.specs.declared.code.PlacedFunc.{PlacedFunc}
use Rattle.ckc_frame.specs.Meaning.{State, ends, operates, runs, placed_step, placed_system}
use Rattle.ckc_emit.proofs.Local.{Local, state_of}
use Rattle.ckc_emit.proofs.Paths.{Code}
use Rattle.ckc_emit.proofs.Frames.{IsRelated, Relates}
use Rattle.ckc_emit.proofs.Related.{near, most, Simulated}
use Rattle.ckc_emit.proofs.Operating.{op_simulates}
use Rattle.ckc_emit.proofs.Leaving.{IsWhole, jump_simulates, branch_simulates}
use Rattle.ckc_emit.proofs.Entering.{call_simulates}
use Rattle.ckc_emit.proofs.Returning.{return_simulates}

module _ (functions : List PlacedFunc) (c : Code) (main : ℕ) (whole : IsWhole functions c main) where
  module _ (s : State) (l : Local) (pc : ℕ) (r : IsRelated functions c s l pc) where
    operates_by : (op : TacOp) (ops : List TacOp) → s.frame.ops ≡ op ∷ ops → Simulated functions c s (state_of c.parts l pc) (operates functions s ops op)
    operates_by (Const t n) ops all = op_simulates functions c s l pc r (Const t n) ops all refl
    operates_by (Copy t a) ops all = op_simulates functions c s l pc r (Copy t a) ops all refl
    operates_by (Bin op t a b) ops all = op_simulates functions c s l pc r (Bin op t a b) ops all refl
    operates_by (High is_signed t a b) ops all = op_simulates functions c s l pc r (High is_signed t a b) ops all refl
    operates_by (Load width t a offset) ops all = op_simulates functions c s l pc r (Load width t a offset) ops all refl
    operates_by (Store width a offset b) ops all = op_simulates functions c s l pc r (Store width a offset b) ops all refl
    operates_by (Check check at o a b) ops all = op_simulates functions c s l pc r (Check check at o a b) ops all refl
    operates_by (Get t) ops all = op_simulates functions c s l pc r (Get t) ops all refl
    operates_by (Put a) ops all = op_simulates functions c s l pc r (Put a) ops all refl
    operates_by (Alloc t a size) ops all = op_simulates functions c s l pc r (Alloc t a size) ops all refl
    operates_by (Call target callee arguments at) ops all = call_simulates functions c main whole s l pc r target callee arguments at ops all

    ends_by : (end : TacEnd) → s.frame.ops ≡ [] → s.frame.end ≡ end → IsEndOver (length s.frame.function.code.blocks) s.frame.function.code.regs end
        → Simulated functions c s (state_of c.parts l pc) (ends s end)
    ends_by (Jump to) none e over = jump_simulates functions c main whole s l pc r to none e
    ends_by (Branch o a b one two) none e over = branch_simulates functions c main whole s l pc r o a b one two none e over.0 over.1
    ends_by (Return a) none e over = return_simulates functions c main whole s l pc r a none e over

    runs_by : (ops : List TacOp) → s.frame.ops ≡ ops → Simulated functions c s (state_of c.parts l pc) (runs functions s ops)
    runs_by [] none = ends_by s.frame.end none refl r.at.end_over
    runs_by (op ∷ ops) all = operates_by op ops all

    step_simulates : Simulated functions c s (state_of c.parts l pc) (placed_step functions s)
    unfolding placed_step
    step_simulates = runs_by s.frame.ops refl

  pub simulates : (s : State) (t : machine.State) → Relates functions c s t → Simulated functions c s t (placed_step functions s)
  simulates s t r = subst (λ t. Simulated functions c s t (placed_step functions s)) (sym r.2) (step_simulates s r.0 r.1 r.3)

-- each step has so much room
pub has_time : (functions : List PlacedFunc) (s : State) → near + most s ≤ 80 * ((placed_system functions).weight s + 1)
has_time functions s = omega arith
