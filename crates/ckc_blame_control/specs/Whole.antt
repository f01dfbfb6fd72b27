-- What is asked of single steps, so that every step keeps a state sound.
use Rattle.std.specs.Prelude.{◌≡◌, Bool, true, false, List, [], ◌∷◌, Option, Some, None}
use Rattle.ckc_base.specs.declared.arithmetic.Mode.TheVariants.{Checked}
use Rattle.ckc_typed.specs.declared.typed.Typed.{Typed}
use Rattle.ckc_source.specs.Code.{Expr, Code, Assign, Bundle, Get, Put, Call, If, Loop, Return, Check}
use Rattle.ckc_source.specs.States.{Work, Rest, Caller, State, settled}
use Rattle.ckc_source.specs.Steps.{source_step, spot_of}
use Rattle.ckc_build_elaborate.specs.Elaborated.{elaborated}
use Rattle.ckc_blame_sound.specs.Calls.{store_in}
use Rattle.ckc_blame_sound.specs.Sound.{Sound}
use Rattle.ckc_blame_sound.specs.Moves.{IsSoundMove}
use Rattle.ckc_blame_control.specs.Decided.{IsDecided}

-- the condition that the first step of some code evaluates, if it is an `if`, a loop or a dynamic check
abbrev pub condition_of : Code → Option Expr
condition_of (If spot e one two rest) = Some e
condition_of (Loop spot e body step rest) = Some e
condition_of (Check spot e rest) = Some e
condition_of code = None

-- whether the first step of some code is an assignment, one of `getchar` and `putchar`, a call or a return
abbrev pub assigns_or_calls : Code → Bool
assigns_or_calls (Assign spot target right rest) = true
assigns_or_calls (Bundle spot assigns rest) = true
assigns_or_calls (Get spot target rest) = true
assigns_or_calls (Put spot target e rest) = true
assigns_or_calls (Call spot target callee es rest) = true
assigns_or_calls (Return spot e rest) = true
assigns_or_calls code = false

-- The next step of mode Checked from a sound state keeps it sound, if it assigns, calls or returns, and if a function
-- that another one called falls off its end; and its condition leads to a side that holds, if it has one.
pub record KeepSound (p : Typed) : Type 0 where
  pub conditions : (s : State) (h : Sound p s) (code : Code) (next : List Work) (e : Expr)
      → settled s.frame.work ≡ Rest code ∷ next → (spot_of s).mode ≡ Checked → condition_of code ≡ Some e
      → IsDecided h.setting Checked (store_in p s.blocks s.frame) s.frame.entry e
  pub steps : (s : State) (h : Sound p s) (code : Code) (next : List Work) → settled s.frame.work ≡ Rest code ∷ next
      → (spot_of s).mode ≡ Checked → assigns_or_calls code ≡ true → IsSoundMove p (source_step (elaborated p) s)
  pub falls : (s : State) (h : Sound p s) (caller : Caller) (callers : List Caller) → settled s.frame.work ≡ []
      → s.callers ≡ caller ∷ callers → (spot_of s).mode ≡ Checked → IsSoundMove p (source_step (elaborated p) s)
