-- What the parts of a run are seen as.
use Rattle.std.specs.Prelude.{ℕ, List, [], ◌∷◌, Option, Some, None}
use Rattle.ckc_source.specs.Code.{Code, function_of, code_of}
use Rattle.ckc_source.specs.Code as code
use Rattle.ckc_source.specs.States as states
use Rattle.ckc_interp_blocks.specs.Views.{blocks_of, next_of}
use Rattle.ckc_interp.specs.declared.work.Work.{Work}
use Rattle.ckc_interp.specs.declared.work.Work.TheVariants as works
use Rattle.ckc_interp.specs.declared.work.Leaving.{Leaving}
use Rattle.ckc_interp.specs.declared.work.Leaving.TheVariants as leavings
use Rattle.ckc_interp.specs.declared.frame.Frame.{Frame}
use Rattle.ckc_interp.specs.declared.frame.Caller.{Caller}
use Rattle.ckc_interp.specs.declared.run.Run.{Run}

abbrev pub work_of : Work → states.Work
work_of (works.Rest statements) = states.Rest (code_of statements.now)
work_of (works.Turn statements) = states.Turn (code_of statements.now)

-- a stack of which the last element is on top, as a list that begins with it, in front of another list
unfoldable pub stacked : {A B : Type 0} → (A → B) → List A → List B → List B
stacked view [] behind = behind
stacked view (x ∷ xs) behind = stacked view xs (view x ∷ behind)

-- what comes next in a call
abbrev pub next_of_call : List Work → List states.Work
next_of_call work = stacked work_of work []

abbrev pub frame_of : Frame → states.Frame
frame_of f = record { function = function_of f.function.now; locals = f.locals.items; entry = f.entry.items; work = next_of_call f.work.items }

abbrev pub caller_of : Caller → states.Caller
caller_of c = record { frame = frame_of c.frame; target = c.target }

-- the state of a run, with what is left of the input
abbrev pub state_of : Run → List ℕ → states.State
state_of r input = record {
  blocks = blocks_of r.blocks;
  next = next_of r.blocks;
  frame = frame_of r.frame;
  callers = stacked caller_of r.callers.items [];
  input = input;
}

-- the state of a run without its input
abbrev pub core_of : Run → states.State
core_of r = state_of r []

-- ---- leaving statements

abbrev pub leaving_of : Leaving → states.Leaving
leaving_of leavings.Ended = states.Ended
leaving_of leavings.Broken = states.Broken
leaving_of leavings.Continued = states.Continued

-- how statements are left at once, if they are
abbrev pub leaving_in : Code → Option states.Leaving
leaving_in code.End = Some states.Ended
leaving_in (code.Break rest) = Some states.Broken
leaving_in (code.Continue rest) = Some states.Continued
leaving_in _ = None

abbrev pub unless_ended : Code → Option states.Leaving → Option Code
unless_ended step (Some states.Ended) = None
unless_ended step _ = Some step

-- what is done after each turn of the loop in front, if it is anything
abbrev pub step_in : Code → Option Code
step_in (code.Loop spot e body step rest) = unless_ended step (leaving_in step)
step_in _ = None

-- what comes next if statements are left, or begin
abbrev pub when_left : Option Leaving → List states.Work → List states.Work
when_left (Some how) work = states.resumed (leaving_of how) work
when_left None work = work
