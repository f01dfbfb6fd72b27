-- What a run of a machine that was just loaded shows.
use Rattle.std.proofs.Common.{◌≡◌, ℕ, ◌+◌, List, ◌++◌, Option, Some, refl, sym, ap, subst, ◌∙◌, arith}
use Rattle.ckc_base.specs.Traces.{Event, output}
use Rattle.ckc_base.specs.Steps.{shown}
use Rattle.ckc_rv.specs.Machine.{Parts, machine}
use Rattle.ckc_machine.specs.declared.observed.Observed.{Observed}
use Rattle.ckc_machine.specs.declared.observed.Observed.TheVariants as observed
use Rattle.ckc_machine.specs.declared.machine.Machine.{Machine}
use Rattle.ckc_outside.specs.Given.{taken, Called, Printed, Took, OverAny}
use Rattle.ckc_machine.specs.Points.{since}
use Rattle.ckc_machine.specs.Runs.{Says, IsAt, AsksNothing, Arrives, Runs, answer_of}
use Rattle.ckc_cli_commands.specs.World.{World, fed}
use Rattle.ckc_cli_commands.specs.Running.{Shown, ShownOver, Ran}

-- from the start on, all of the trace is since
from_start : (parts : Parts) (given : List ℕ) (limit : ℕ) → since parts given 0 limit ≡ (machine parts given limit).trace
unfolding shown
from_start parts given limit = refl

zero_more : (limit : ℕ) → 0 + limit ≡ limit
zero_more limit = omega arith

module _ (parts : Parts) (given : List ℕ) (limit : ℕ) (m : Machine) (old new : World) where
  arrived : (o : Observed) → answer_of m ≡ o → Arrives parts given 0 limit m old.input.left new.input.left old.output.written new.output.written old.input.asks new.input.asks old.output.puts new.output.puts → Shown parts given limit old new o
  arrived o answer a =
      let at : IsAt parts given limit m new.input.left = subst (λ k. IsAt parts given k m new.input.left) (zero_more limit) a.at in
      record {
        stands = subst (λ (x : Observed). Says x (machine parts given limit).standing) answer at.answer;
        put = subst (λ t. Printed old.output.written new.output.written (output t)) (ap (since parts given 0) (zero_more limit) ∙ from_start parts given limit) a.put;
        took = subst (λ t. Took old.input.left new.input.left (taken t)) (ap (since parts given 0) (zero_more limit) ∙ from_start parts given limit) a.took;
        called =
            subst (λ (t : List Event). Called t old.input.asks new.input.asks old.output.puts new.output.puts)
            (ap (since parts given 0) (zero_more limit) ∙ from_start parts given limit) a.called;
      }

  pub shown_over : (o : Observed) → answer_of m ≡ o
      → Runs parts given 0 limit m old.input.left new.input.left old.output.written new.output.written old.input.asks new.input.asks old.output.puts new.output.puts o → ShownOver parts given limit old new o
  shown_over (observed.Ended value) answer r = arrived (observed.Ended value) answer r
  shown_over (observed.Stopped check at) answer r = arrived (observed.Stopped check at) answer r
  shown_over observed.Going answer r = arrived observed.Going answer r
  shown_over (observed.Fault kind pc) answer r = arrived (observed.Fault kind pc) answer r
  shown_over observed.ReadFault answer r = r
  shown_over observed.WriteFault answer r = r

module _ (parts : Parts) (limit : ℕ) (first last : Machine) (untaken : Type 0) (old new : World) (o : Observed) where
  pub ran_of : ((given : List ℕ) → IsAt parts given 0 first (Some given)) → answer_of last ≡ o
      → ((parts : Parts) (given : List ℕ) (k : ℕ) → IsAt parts given k first old.input.left
      → Runs parts given k limit last old.input.left new.input.left old.output.written new.output.written old.input.asks new.input.asks old.output.puts new.output.puts o)
      → ((parts : Parts) (given : List ℕ) (k : ℕ) (left : Option (List ℕ)) → IsAt parts given k first left → AsksNothing parts given k limit
      → untaken × Runs parts given k limit last left left old.output.written new.output.written old.input.asks new.input.asks old.output.puts new.output.puts o)
      → OverAny old.input new.input (λ left left'. (parts : Parts) (given : List ℕ) (k : ℕ) → IsAt parts given k first (Some left)
      → Runs parts given k limit last (Some left) (Some left') old.output.written new.output.written old.input.asks new.input.asks old.output.puts new.output.puts o)
      → Ran parts limit old new untaken o
  ran_of at answer exact silent any = record {
    shown = λ given e. shown_over parts given limit last old new o answer (exact parts given 0 (subst (λ l. IsAt parts given 0 first l) (sym e) (at given)));
    any = (
      any.0,
      any.1,
      λ rest may.
          let given = any.0 ++ rest in
          shown_over parts given limit last (fed given old) (fed rest new) o answer (any.2 rest may parts given 0 (at given)),
    );
    silent = λ given nothing.
        let p = silent parts given 0 (Some given) (at given) nothing in
        (p.0, shown_over parts given limit last (fed given old) (fed given new) o answer p.1);
  }
