-- A run of the image of a text shows the meaning of the text.
use Rattle.std.proofs.Common.{◌≡◌, ◌≢◌, ◌⊎◌, inl, inr, ℕ, ◌≤◌, List, [], ◌∷◌, ◌++◌, Option, refl, sym, ap, subst, ◌∙◌, arith}
use Rattle.std.specs.Prelude.{IsSome}
use Rattle.std.proofs.lemmas.Grind.{flat_map-append}
use Rattle.ckc_base.specs.declared.places.Pos.{Pos}
use Rattle.ckc_base.specs.declared.runtime_checks.Check.{Check}
use Rattle.ckc_base.specs.Traces.{Event, Ended, Stopped, Stuck, Fault, Standing, Showing, put_byte, output}
use Rattle.ckc_base.specs.Follows.{Follows, IsSafe, IsOver, IsPrefix, IsBorneOut}
use Rattle.ckc_base.proofs.Runs.{shown-later}
use Rattle.ckc_rv.specs.Machine.{Parts, machine, machine_system, first_state}
use Rattle.ckc_machine.specs.declared.observed.Observed.{Observed}
use Rattle.ckc_machine.specs.declared.observed.Observed.TheVariants as observed
use Rattle.ckc_machine.specs.declared.observed.FaultKind.{FaultKind}
use Rattle.ckc_outside.specs.Given.{got_byte, taken, Printed}
use Rattle.ckc_machine.specs.Runs.{Says, kind_number}
use Rattle.ckc_outside.specs.Given as given_bytes
use Rattle.ckc_source.specs.Code.{Program}
use Rattle.ckc_source.specs.LaidOut.{AreBytes}
use Rattle.ckc_source.specs.Source.{source, unchecked_since}
use Rattle.ckc_build.specs.Built.{Built}
use Rattle.ckc_build.specs.Meanings.{IsWhollyChecked}
use Rattle.ckc_cli_commands.specs.World.{World, fed}
use Rattle.ckc_cli_commands.specs.Running.{Shown, ShownOver, Ran}
use Rattle.ckc_cli.specs.Agreeing.{OverInput, OfInput, PrintedFirst, ComesToBeStuck, ComesTo, ComesBy, StandsInTime, PutsInTime, enough}

-- what a front of a trace puts is a front of what the trace puts
output_begins : (a b : List Event) → IsPrefix a b → IsPrefix (output a) (output b)
output_begins a b p = (output p.0, ap output p.1 ∙ flat_map-append put_byte a p.0)

taken_begins : (a b : List Event) → IsPrefix a b → IsPrefix (taken a) (taken b)
taken_begins a b p = (taken p.0, ap taken p.1 ∙ flat_map-append got_byte a p.0)

-- ---- the machine beside the program, over one input

module _ (text : List ℕ) (p : Program) (parts : Parts) (given : List ℕ) (follows : Follows (source p given) (machine parts given) 33554432)
    (blamed : (n : ℕ) → (source p given n).standing ≡ Stuck → IsSome (unchecked_since p given n) × ¬ IsWhollyChecked text) where
  abbrev pub Borne : ℕ → Type 0
  Borne k = (n : ℕ) × IsBorneOut (source p given n) (machine parts given k)

  -- what the machine shows is borne out by the program, or the program is stuck
  pub borne : (k : ℕ) → ComesToBeStuck text p given ⊎ Borne k
  borne k = let q = follows.back k in at q.0 q.1
    where
      at : (n : ℕ) → ((source p given n).standing ≡ Stuck) ⊎ IsBorneOut (source p given n) (machine parts given k) → ComesToBeStuck text p given ⊎ Borne k
      at n (inl stuck) = let b = blamed n stuck in inl (n, stuck, b.0, b.1)
      at n (inr b) = inr (n, b)

  pub fault_as : (limit kind pc : ℕ) → (machine parts given limit).standing ≡ Fault kind pc → ComesToBeStuck text p given
  fault_as limit kind pc e = at (borne limit)
    where
      at : ComesToBeStuck text p given ⊎ Borne limit → ComesToBeStuck text p given
      at (inl stuck) = stuck
      at (inr b) = absurd (subst IsSafe e b.1.safe)

  module _ (limit : ℕ) (left : List ℕ) (old new : Option (List ℕ)) (put : Printed old new (output (machine parts given limit).trace))
      (took : given ≡ taken (machine parts given limit).trace ++ left) where
    pub over_as : (stands : Standing) → IsOver stands → (machine parts given limit).standing ≡ stands → ComesToBeStuck text p given ⊎ ComesTo p stands old new given left
    over_as stands over e = at (borne limit)
      where
        at : ComesToBeStuck text p given ⊎ Borne limit → ComesToBeStuck text p given ⊎ ComesTo p stands old new given left
        at (inl stuck) = inl stuck
        at (inr b) =
            let same = b.1.over (subst IsOver (sym e) over) in
            inr (record {
              steps = b.0;
              stands_so = ap (λ (a : Showing Event). a.standing) same ∙ e;
              put = subst (λ (a : Showing Event). Printed old new (output a.trace)) (sym same) put;
              took = subst (λ (a : Showing Event). given ≡ taken a.trace ++ left) (sym same) took;
            })

    pub goes_as : ComesToBeStuck text p given ⊎ ComesBy p old new given left
    goes_as = at (borne limit)
      where
        at : ComesToBeStuck text p given ⊎ Borne limit → ComesToBeStuck text p given ⊎ ComesBy p old new given left
        at (inl stuck) = inl stuck
        at (inr b) =
            inr (record {
              steps = b.0;
              put = (output (machine parts given limit).trace, output_begins (machine parts given limit).trace (source p given b.0).trace b.1.begins, put);
              took = (taken (machine parts given limit).trace, taken_begins (machine parts given limit).trace (source p given b.0).trace b.1.begins, took);
            })

  -- what the program shows the machine has shown by then, and what is over stays
  pub reached : (n limit : ℕ) → (source p given n).standing ≢ Stuck → enough n ≤ limit → IsPrefix (output (source p given n).trace) (output (machine parts given limit).trace)
  reached n limit h le =
      let q = follows.forward n h in
      let later = shown-later (machine_system parts) q.0 limit 0 [] (first_state parts given) (omega (arith, q.1)) in
      output_begins (source p given n).trace (machine parts given limit).trace
      (subst (λ (a : Showing Event). IsPrefix a.trace (machine parts given limit).trace) q.2 later.begins)

  pub in_time : (stands : Standing) → IsOver stands → (n limit : ℕ) → (source p given n).standing ≡ stands → enough n ≤ limit → (machine parts given limit).standing ≡ stands
  in_time stands over n limit e le =
      let q = follows.forward n (λ stuck. subst IsOver (sym e ∙ stuck) over) in
      let by : (machine parts given q.0).standing ≡ stands = ap (λ (a : Showing Event). a.standing) q.2 ∙ e in
      let later = shown-later (machine_system parts) q.0 limit 0 [] (first_state parts given) (omega (arith, q.1)) in
      ap (λ (a : Showing Event). a.standing) (later.stays (λ going. subst IsOver (sym by ∙ going) over)) ∙ by

-- ---- answers

pub says_ended : (o : Observed) (value : ℕ) → Says o (Ended value) → o ≡ observed.Ended value
says_ended (observed.Ended v) value s = cc
says_ended (observed.Stopped check at) value s = absurd cc
says_ended observed.Going value s = absurd cc
says_ended (observed.Fault kind pc) value s = absurd cc
says_ended observed.ReadFault value s = absurd s
says_ended observed.WriteFault value s = absurd s

pub says_stopped : (o : Observed) (check : Check) (at : Pos) → Says o (Stopped check at) → o ≡ observed.Stopped check at
says_stopped (observed.Ended v) check at s = absurd cc
says_stopped (observed.Stopped c p) check at s = cc
says_stopped observed.Going check at s = absurd cc
says_stopped (observed.Fault kind pc) check at s = absurd cc
says_stopped observed.ReadFault check at s = absurd s
says_stopped observed.WriteFault check at s = absurd s

-- ---- inputs

pub bytes_alone : (more : List ℕ) → given_bytes.AreBytes more → AreBytes (more ++ [])
bytes_alone [] h = tt
bytes_alone (b ∷ more) h = (h.0, bytes_alone more h.1)

module _ (text : List ℕ) (parts : Parts) (built : Built text parts) (limit : ℕ) (before after : World) (untaken : Type 0) where
  pub blamed_by : (given : List ℕ) → AreBytes given → (n : ℕ) → (source built.program given n).standing ≡ Stuck → IsSome (unchecked_since built.program given n) × ¬ IsWhollyChecked text
  blamed_by given bytes n stuck = (built.blamed given n bytes stuck, λ checked. built.checked checked given n bytes stuck)

  abbrev Runs : Observed → Type 0
  Runs o = Ran parts limit before after untaken o

  -- what a run shows over one input, if no object failed
  record Plain (o : Observed) (given left : List ℕ) : Type 0 where
    says : Says o (machine parts given limit).standing
    put : Printed before.output.written after.output.written (output (machine parts given limit).trace)
    took : given ≡ taken (machine parts given limit).trace ++ left

  over_input : (o : Observed) → ((given : List ℕ) (a b : World) → ShownOver parts given limit a b o → Shown parts given limit a b o) → Runs o
      → (Holds : List ℕ → List ℕ → Type 0) → ((given left : List ℕ) → AreBytes given → Plain o given left → Holds given left) → OverInput before after Holds
  over_input o plain ran Holds h = record {
    told = λ given e.
        let s = plain given before after (ran.shown given e) in
        let t = s.took given e in
        (t.0, t.1, λ bytes. h given t.0 bytes (record { says = s.stands; put = s.put; took = t.2 }));
    any = (
      ran.any.0,
      ran.any.1,
      λ rest may bytes.
          let given = ran.any.0 ++ rest in
          let s = plain given (fed given before) (fed rest after) (ran.any.2 rest may) in
          let t = s.took given refl in
          let same : t.0 ≡ rest = (let e = t.1 in cc) in
          h given rest bytes (record { says = s.stands; put = s.put; took = t.2 ∙ ap (λ l. taken (machine parts given limit).trace ++ l) same }),
    );
  }

  pub ran_ended : (value : ℕ) → Runs (observed.Ended value) → OverInput before after (λ given left. ComesToBeStuck text built.program given ⊎ ComesTo built.program (Ended value) before.output.written after.output.written given left)
  ran_ended value ran =
      over_input (observed.Ended value) (λ given a b s. s) ran (λ given left. ComesToBeStuck text built.program given ⊎ ComesTo built.program (Ended value) before.output.written after.output.written given left)
      (λ given left bytes s. over_as text built.program parts given (built.follows given bytes) (blamed_by given bytes) limit left before.output.written after.output.written s.put s.took (Ended value) tt s.says)

  pub ran_stopped : (check : Check) (at : Pos) → Runs (observed.Stopped check at)
      → OverInput before after (λ given left. ComesToBeStuck text built.program given ⊎ ComesTo built.program (Stopped check at) before.output.written after.output.written given left)
  ran_stopped check at ran =
      over_input (observed.Stopped check at) (λ given a b s. s) ran (λ given left. ComesToBeStuck text built.program given ⊎ ComesTo built.program (Stopped check at) before.output.written after.output.written given left)
      (λ given left bytes s. over_as text built.program parts given (built.follows given bytes) (blamed_by given bytes) limit left before.output.written after.output.written s.put s.took (Stopped check at) tt s.says)

  pub ran_going : Runs observed.Going → OverInput before after (λ given left. ComesToBeStuck text built.program given ⊎ ComesBy built.program before.output.written after.output.written given left)
  ran_going ran =
      over_input observed.Going (λ given a b s. s) ran (λ given left. ComesToBeStuck text built.program given ⊎ ComesBy built.program before.output.written after.output.written given left)
      (λ given left bytes s. goes_as text built.program parts given (built.follows given bytes) (blamed_by given bytes) limit left before.output.written after.output.written s.put s.took)

  pub ran_faulty : (kind : FaultKind) (pc : ℕ) → Runs (observed.Fault kind pc) → OverInput before after (λ given left. ComesToBeStuck text built.program given)
  ran_faulty kind pc ran =
      over_input (observed.Fault kind pc) (λ given a b s. s) ran (λ given left. ComesToBeStuck text built.program given)
      (λ given left bytes s. fault_as text built.program parts given (built.follows given bytes) (blamed_by given bytes) limit (kind_number kind) pc s.says)

  -- ---- if no object fails

  module _ (o : Observed) (read : o ≢ observed.ReadFault) (write : o ≢ observed.WriteFault) (ran : Runs o) where
    plainly : (given : List ℕ) (a b : World) (q : Observed) → q ≢ observed.ReadFault → q ≢ observed.WriteFault → ShownOver parts given limit a b q → Shown parts given limit a b q
    plainly given a b (observed.Ended v) r w s = s
    plainly given a b (observed.Stopped check at) r w s = s
    plainly given a b observed.Going r w s = s
    plainly given a b (observed.Fault kind pc) r w s = s
    plainly given a b observed.ReadFault r w s = absurd (r refl)
    plainly given a b observed.WriteFault r w s = absurd (w refl)

    -- over some input of those that are meant the run shows this
    record Some_input (Holds : List ℕ → Type 0) : Type 0 where
      given : List ℕ
      bytes : AreBytes given
      holds : Holds given
      says : Says o (machine parts given limit).standing
      put : Printed before.output.written after.output.written (output (machine parts given limit).trace)

    some_input : (Holds : List ℕ → Type 0) → OfInput before.input.left Holds → Some_input Holds
    some_input Holds (inl q) =
        let s = plainly q.0 before after o read write (ran.shown q.0 q.1) in
        record { given = q.0; bytes = q.2; holds = q.3; says = s.stands; put = s.put }
    some_input Holds (inr q) =
        let all = ran.any.0 ++ [] in
        let are = bytes_alone ran.any.0 ran.any.1.bytes in
        let s = plainly all (fed all before) (fed [] after) o read write (ran.any.2 [] (λ e. refl)) in
        record { given = all; bytes = are; holds = q all are; says = s.stands; put = s.put }

    pub ran_in_time : (stands : Standing) → IsOver stands → OfInput before.input.left (StandsInTime built.program limit stands) → Says o stands
    ran_in_time stands over h =
        let s = some_input (StandsInTime built.program limit stands) h in
        subst (Says o) (in_time text built.program parts s.given (built.follows s.given s.bytes) (blamed_by s.given s.bytes) stands over s.holds.0 limit s.holds.2 s.holds.1) s.says

    pub ran_put : (bytes : List ℕ) → OfInput before.input.left (PutsInTime built.program limit bytes) → PrintedFirst before.output.written after.output.written bytes
    ran_put bytes h =
        let s = some_input (PutsInTime built.program limit bytes) h in
        let begins = reached text built.program parts s.given (built.follows s.given s.bytes) (blamed_by s.given s.bytes) s.holds.0 limit s.holds.2 s.holds.1 in (
          output (machine parts s.given limit).trace,
          subst (λ (l : List ℕ). IsPrefix l (output (machine parts s.given limit).trace)) s.holds.3 begins,
          s.put,
        )
