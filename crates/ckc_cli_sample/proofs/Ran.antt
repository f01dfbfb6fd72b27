-- What a run with no input shows, from what the machine promises of it.
use Rattle.std.proofs.Common.{◌≡◌, ◌≢◌, ℕ, ◌+◌, ◌^◌, ◌<◌, List, [], length, Option, Some, None, refl, sym, ap, subst, ◌∙◌, arith}
use Rattle.ckc_base.specs.Traces.{Event, output}
use Rattle.ckc_outside.specs.Outside.{one_more}
use Rattle.ckc_outside.specs.Given.{after_each}
use Rattle.ckc_rv.specs.Machine.{Parts, machine}
use Rattle.ckc_machine.specs.declared.machine.Machine.{Machine}
use Rattle.ckc_machine.specs.declared.observed.Observed.{Observed}
use Rattle.ckc_machine.specs.declared.observed.Observed.TheVariants as observed
use Rattle.ckc_machine.specs.Points.{since}
use Rattle.ckc_machine.specs.Runs.{Says, Arrives, Runs, answer_of, read_faults, write_faults}
use Rattle.ckc_cli_sample.specs.Alone.{RunsAlone}
use Rattle.ckc_cli_sample.proofs.Bounds.{puts_within, counted}

none_is_one : 0 ≡ one_more 0 → ⊥
none_is_one e = omega (arith, e)

pub no_read_fault : (o : Observed) → 0 ≡ read_faults o 0 → o ≢ observed.ReadFault
no_read_fault o e is = none_is_one (e ∙ ap (λ p. read_faults p 0) is)

pub no_write_fault : (o : Observed) → 0 ≡ write_faults o 0 → o ≢ observed.WriteFault
no_write_fault o e is = none_is_one (e ∙ ap (λ p. write_faults p 0) is)

pub few_puts : (parts : Parts) (limit : ℕ) (o : Observed) (puts : ℕ) → limit < 2 ^ 32 → RunsAlone parts limit o puts → puts < 2 ^ 32
few_puts parts limit o puts small ran = let within = puts_within parts [] limit in omega (arith, ran.put, within, small)

module _ (parts : Parts) (limit : ℕ) (small : limit < 2 ^ 32) (start : since parts [] 0 limit ≡ (machine parts [] limit).trace) (m : Machine) (left written : Option (List ℕ)) (asks puts : ℕ) where
  zero_more : 0 + limit ≡ limit
  zero_more = omega arith

  all : since parts [] 0 (0 + limit) ≡ (machine parts [] limit).trace
  all = ap (since parts [] 0) zero_more ∙ start

  arrived : (o : Observed) → answer_of m ≡ o → Arrives parts [] 0 limit m (Some []) left None written 0 asks 0 puts → RunsAlone parts limit o puts
  arrived o answer a =
      let within = puts_within parts [] limit in
      record {
        stands = subst (λ (p : Observed). Says p (machine parts [] limit).standing) answer (subst (λ k. Says (answer_of m) (machine parts [] k).standing) zero_more a.at.answer);
        put =
            a.called.put ∙ ap (λ (t : List Event). after_each 0 (output t)) all
            ∙ counted 0 (output (machine parts [] limit).trace) (omega (arith, within, small))
            ∙ omega arith;
      }

  pub alone_of : (o : Observed) → answer_of m ≡ o → o ≢ observed.ReadFault → o ≢ observed.WriteFault → Runs parts [] 0 limit m (Some []) left None written 0 asks 0 puts o → RunsAlone parts limit o puts
  alone_of (observed.Ended value) answer r w h = arrived (observed.Ended value) answer h
  alone_of (observed.Stopped check at) answer r w h = arrived (observed.Stopped check at) answer h
  alone_of observed.Going answer r w h = arrived observed.Going answer h
  alone_of (observed.Fault kind pc) answer r w h = arrived (observed.Fault kind pc) answer h
  alone_of observed.ReadFault answer r w h = absurd (r refl)
  alone_of observed.WriteFault answer r w h = absurd (w refl)
