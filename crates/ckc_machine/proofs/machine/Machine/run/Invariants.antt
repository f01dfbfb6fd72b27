use Rattle.std.proofs.Common.{◌≡◌, ◌-◌, ◌≤◌, ℕ, List, Option, Some}
use Rattle.ckc_rv.specs.Machine.{Parts}
use Rattle.ckc_machine.specs.declared.observed.Observed.TheVariants.{Going}
use Rattle.ckc_machine.specs.Runs.{IsAt, OverAny, AsksNothing, Arrives, answer_of}
use Rattle.ckc_machine.specs.code.Runs.{IsFed}
use Rattle.ckc_machine.proofs.machine.Machine.run.Given as goal

-- The machine goes on, from wherever it was it has come as many instructions further, and no object failed.
abbrev pub invariant-loop-done : goal.invariant-loop-done
invariant-loop-done g l =
    record {
      within : l.done ≤ l.limit;
      going : answer_of l.self ≡ Going;
      arrives : (parts : Parts) (given : List ℕ) (k : ℕ) (before after : Option (List ℕ)) → IsAt parts given k l.fn.self before
          → IsFed (g.S.Source.seen l.fn.input).left (g.S.Source.seen l.input).left (AsksNothing parts given k l.limit) before after
          → Arrives parts given k l.done l.self before after (g.O.Sink.seen l.fn.out).written (g.O.Sink.seen l.out).written
          (g.S.Source.seen l.fn.input).asks (g.S.Source.seen l.input).asks (g.O.Sink.seen l.fn.out).puts (g.O.Sink.seen l.out).puts;
      any : OverAny (g.S.Source.seen l.fn.input) (g.S.Source.seen l.input)
          (λ before after. (parts : Parts) (given : List ℕ) (k : ℕ) → IsAt parts given k l.fn.self (Some before)
          → Arrives parts given k l.done l.self (Some before) (Some after) (g.O.Sink.seen l.fn.out).written (g.O.Sink.seen l.out).written
          (g.S.Source.seen l.fn.input).asks (g.S.Source.seen l.input).asks (g.O.Sink.seen l.fn.out).puts (g.O.Sink.seen l.out).puts);
      silent : (parts : Parts) (given : List ℕ) (k : ℕ) (before : Option (List ℕ)) → IsAt parts given k l.fn.self before → AsksNothing parts given k l.limit
          → l.input ≡ l.fn.input;
      input_faults : (g.S.Source.seen l.input).faults ≡ (g.S.Source.seen l.fn.input).faults;
      out_faults : (g.O.Sink.seen l.out).faults ≡ (g.O.Sink.seen l.fn.out).faults;
    }

abbrev pub decreases-loop-done : goal.decreases-loop-done
decreases-loop-done g l = l.limit - l.done
