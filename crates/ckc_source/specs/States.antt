-- What a run of a program is at: its blocks, the calls that are active, and what comes next in each of them.
use Rattle.std.specs.Prelude.{ℕ, ◌+◌, ◌-◌, List, [], ◌∷◌, ◌++◌, length, replicate, Option}
use Rattle.ckc_source.specs.declared.stmt.Kept.{Kept}
use Rattle.ckc_source.specs.Code.{Code, End, Loop, Break, Continue, Function}
use Rattle.ckc_source.specs.Blocks.{Block}

-- What comes next in a call: statements; or, after the body of a loop, the loop and the statements after it.
pub data Work : Type 0 where
  Rest : (code : Code) → Work
  Turn : (code : Code) → Work

-- An active call: its function, its locals, the values that its parameters had at its entry, and what comes next.
pub record Frame : Type 0 where
  pub function : Function
  pub locals : List ℕ
  pub entry : List ℕ
  pub work : List Work

-- a call that waits for another one, and where the result of that goes
pub record Caller : Type 0 where
  pub frame : Frame
  pub target : Option Kept

-- A state: the blocks, the place of the next one, the innermost call, those that wait for it, innermost first, and
-- what is left of the input.
pub record State : Type 0 where
  pub blocks : List Block
  pub next : ℕ
  pub frame : Frame
  pub callers : List Caller
  pub input : List ℕ

-- how many calls are active
abbrev pub active : State → ℕ
active s = length s.callers + 1

-- A function is entered with these values of its parameters; its other locals begin at zero.
abbrev pub entered : Function → List ℕ → Frame
entered f values = record {
  function = f;
  locals = values ++ replicate (f.locals - length values) 0;
  entry = values;
  work = Rest f.body ∷ [];
}

-- ---- what is no step: the end of a list of statements, `break` and `continue`

-- how the statements before came to their end
pub data Leaving : Type 0 where
  Ended : Leaving
  Broken : Leaving
  Continued : Leaving

-- statements begin, where go says what comes of leaving them at once
abbrev pub begun : Code → (Leaving → List Work) → List Work → List Work
begun End go work = go Ended
begun (Break rest) go work = go Broken
begun (Continue rest) go work = go Continued
begun code go work = Rest code ∷ work

-- the step of a `for`, if it has one, and then the loop again
abbrev pub stepped : Code → Code → List Work → List Work
stepped End loop work = Rest loop ∷ work
stepped step loop work = Rest step ∷ Rest loop ∷ work

-- a turn of the loop in front of the statements is done: its step comes next, and then the loop again
abbrev pub turned : Code → List Work → List Work
turned (Loop spot e body step rest) work = stepped step (Loop spot e body step rest) work
turned code work = Rest code ∷ work

-- the statements after the loop in front
abbrev pub behind : Code → Code
behind (Loop spot e body step rest) = rest
behind code = code

-- What comes next if the statements in front are left: `break` leaves the innermost loop (ISO C11, 6.8.6.3), and
-- `continue` the turn of it (6.8.6.2).
unfoldable pub resumed : Leaving → List Work → List Work
resumed how [] = []
resumed Ended (Rest code ∷ work) = begun code (λ how. resumed how work) work
resumed Broken (Rest code ∷ work) = resumed Broken work
resumed Continued (Rest code ∷ work) = resumed Continued work
resumed Broken (Turn code ∷ work) = begun (behind code) (λ how. resumed how work) work
resumed Ended (Turn code ∷ work) = turned code work
resumed Continued (Turn code ∷ work) = turned code work

-- what comes next, from the next step on; nothing at the end of the function
abbrev pub settled : List Work → List Work
settled work = resumed Ended work
