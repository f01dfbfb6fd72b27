-- How a run comes to its answer.
use Rattle.std.proofs.Common.{◌≡◌, ℕ, suc, ◌+◌, ◌<◌, List, [], ◌∷◌, ◌++◌, length, take, Option, Some, None, refl, sym, ◌∙◌, ap, subst, arith, append_assoc}
use Rattle.ckc_base.specs.declared.places.Pos.{Pos}
use Rattle.ckc_source.specs.Code.{Program}
use Rattle.ckc_source.specs.States.{State}
use Rattle.ckc_source.specs.Source.{source}
use Rattle.ckc_interp.specs.declared.seen.Seen.{Seen}
use Rattle.ckc_interp.specs.declared.seen.Seen.TheVariants as seen
use Rattle.ckc_outside.specs.Given.{taken, Streams, Showed}
use Rattle.ckc_outside.proofs.Giving.{showed_still, asked_then, put_then}
use Rattle.ckc_interp.specs.Runs.{AsksToGet, AsksToPut, Interprets}
use Rattle.ckc_interp.specs.code.Turns.{Steps}
use Rattle.ckc_interp.proofs.Reaching.{IsAt, system, start, at_start, at_next, goes_at, showed_at, took_at, comes_over, place_is, blame_is_next, state_is}

module _ (p : Program) (given : List ℕ) (n limit : ℕ) (s u : State) (old mid new : Streams) (blame blame' : Option Pos) (below : n < limit) (at : IsAt p given n s old mid blame) where
  here : Showed old mid (source p given n).trace
  here = showed_at p given n s old mid blame at

  pub over_steps : (answer : Seen) → Steps p s u blame blame' mid new (Some answer) → Interprets p limit old new answer given u.input
  over_steps (seen.Ended value) x = (suc n, comes_over p given n limit s old mid new blame x.events _ u.input below at x.moves x.showed x.took)
  over_steps (seen.Stopped check place) x = (suc n, comes_over p given n limit s old mid new blame x.events _ u.input below at x.moves x.showed x.took)
  over_steps seen.Going x = absurd x
  over_steps (seen.Stuck place since) x = (
    suc n,
    comes_over p given n limit s old mid new blame x.0.events _ u.input below at x.0.moves x.0.showed x.0.took,
    x.1 ∙ place_is p given n s old mid blame x.0.events _ at x.0.moves,
    blame_is_next p given n s old mid blame since at x.2,
  )
  over_steps seen.ReadFault x = (
    n,
    record {
      below = below;
      goes = goes_at p given n s old mid blame at;
      asks = subst (AsksToGet p) (sym (state_is p given n at.trace s at.travels)) x.0;
      showed = asked_then old mid new (source p given n).trace here x.1;
      took = subst (λ l. given ≡ taken (source p given n).trace ++ l) (sym x.2) (took_at p given n s old mid blame at);
    },
  )
  over_steps seen.WriteFault x = (
    n,
    record {
      below = below;
      goes = goes_at p given n s old mid blame at;
      byte = x.0;
      asks = subst (λ (u : State). AsksToPut p u x.0) (sym (state_is p given n at.trace s at.travels)) x.1;
      showed = put_then old mid new (source p given n).trace here x.0 x.2;
      took = subst (λ l. given ≡ taken (source p given n).trace ++ l) (sym x.3) (took_at p given n s old mid blame at);
    },
  )
  over_steps seen.Memory x = (
    n,
    record {
      within = omega arith;
      goes = goes_at p given n s old mid blame at;
      showed = showed_still old mid new (source p given n).trace here x.0;
      took = subst (λ l. given ≡ taken (source p given n).trace ++ l) (sym x.1) (took_at p given n s old mid blame at);
    },
  )

  pub next_steps : Steps p s u blame blame' mid new None → IsAt p given (n + 1) u old new blame'
  next_steps x = at_next p given n s u old mid new blame blame' x.0.events at x.0.moves x.0.showed x.0.took x.1

-- memory that runs out before the first step
pub start_out : (p : Program) (limit : ℕ) (out : Streams) (given : List ℕ) → Interprets p limit out out seen.Memory given given
start_out p limit out given =
    let a = at_start p given out in (
      0,
      record {
        within = omega arith;
        goes = goes_at p given 0 (start p given) out out None a;
        showed = showed_at p given 0 (start p given) out out None a;
        took = took_at p given 0 (start p given) out out None a;
      },
    )
