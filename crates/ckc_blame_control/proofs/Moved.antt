-- Moves that lead to sound states.
use Rattle.std.proofs.Common.{◌≡◌, ◌≢◌, ℕ, List, [], ◌∷◌, refl, sym, subst, ap, ◌∙◌}
use Rattle.std.specs.Prelude.{Result, Ok, Err}
use Rattle.ckc_base.specs.Steps.{Halts}
use Rattle.ckc_base.specs.Traces.{Ended, Stopped, Stuck}
use Rattle.ckc_typed.specs.declared.typed.Typed.{Typed}
use Rattle.ckc_source.specs.declared.outcome.Halt.{Halt}
use Rattle.ckc_source.specs.declared.outcome.Halt.TheVariants as halt
use Rattle.ckc_source.specs.declared.outcome.Value.{Value}
use Rattle.ckc_source.specs.declared.stmt.Spot.{Spot}
use Rattle.ckc_source.specs.Code.{Code, Expr, Return}
use Rattle.ckc_source.specs.Eval.{evaluated}
use Rattle.ckc_source.specs.States.{Work, Rest, State, Caller, settled}
use Rattle.ckc_source.specs.Steps.{and_moves, at_work, returns, works, source_step}
use Rattle.ckc_build_elaborate.specs.Elaborated.{elaborated}
use Rattle.ckc_blame_sound.specs.Calls.{store_in}
use Rattle.ckc_blame_sound.specs.Sound.{Sound}
use Rattle.ckc_blame_sound.specs.Moves.{IsSoundMove}
use Rattle.ckc_blame_control.specs.Ready.{IsReady}

pub ended : (n : ℕ) → Ended n ≢ Stuck
ended n e = cc

pub stopped : (why : _) (at : _) → Stopped why at ≢ Stuck
stopped why at e = cc

-- the active call of a sound state is ready
pub stands_ready : (p : Typed) (s : State) (h : Sound p s) → IsReady h.setting (store_in p s.blocks s.frame) s.frame.entry s.frame.work
stands_ready p s h = record { exits = h.stands.exits; work = h.stands.work; holds = h.stands.holds }

-- a sound state with other work next that is ready
pub sound_at : (p : Typed) (s : State) (h : Sound p s) (next : List Work) → IsReady h.setting (store_in p s.blocks s.frame) s.frame.entry next → Sound p (at_work s next)
sound_at p s h next r = record {
  orderly = record { apart = h.orderly.apart; bytes = h.orderly.bytes; few = h.orderly.few };
  memory = h.memory;
  filled = h.filled;
  input = h.input;
  setting = h.setting;
  stands = record { function = h.stands.function; exits = r.exits; work = r.work; holds = r.holds };
  waiting = h.waiting;
}

-- the step of a state, by what comes next
pub move_by : (p : Typed) (s : State) (next : List Work) → settled s.frame.work ≡ next → IsSoundMove p (works (elaborated p) s next) → IsSoundMove p (source_step (elaborated p) s)
unfolding source_step
move_by p s next e h = subst (λ w. IsSoundMove p (works (elaborated p) s w)) (sym e) h

-- the first call returns a value: that ends the run
alone_by : (p : Typed) (s : State) (callers : List Caller) (n : ℕ) → callers ≡ [] → returns (elaborated p).shapes s callers n ≡ Halts [] (Ended n)
alone_by p s callers n e = ap (λ cs. returns (elaborated p).shapes s cs n) e

-- falling off the end of it does so
pub first_ends : (p : Typed) (s : State) → settled s.frame.work ≡ [] → s.callers ≡ [] → source_step (elaborated p) s ≡ Halts [] (Ended 0)
unfolding source_step
first_ends p s e none = ap (λ w. works (elaborated p) s w) e ∙ alone_by p s s.callers 0 none

-- a value is returned, if the expression comes to one
returned : (p : Typed) (s : State) (r : Result Value Halt) → s.callers ≡ [] → r ≢ Err halt.Stuck
    → IsSoundMove p (and_moves r (λ v. returns (elaborated p).shapes s s.callers v.number))
returned p s (Ok v) none h = subst (IsSoundMove p) (sym (alone_by p s s.callers v.number none)) (ended v.number)
returned p s (Err (halt.Stopped why at)) none h = stopped why at
returned p s (Err halt.Stuck) none h = absurd (h refl)

pub first_returns : (p : Typed) (s : State) (spot : Spot) (e : Expr) (rest : Code) (next : List Work) → settled s.frame.work ≡ Rest (Return spot e rest) ∷ next → s.callers ≡ []
    → evaluated (store_in p s.blocks s.frame) e ≢ Err halt.Stuck → IsSoundMove p (source_step (elaborated p) s)
first_returns p s spot e rest next is none h = move_by p s (Rest (Return spot e rest) ∷ next) is (returned p s (evaluated (store_in p s.blocks s.frame) e) none h)
