-- What comes of `build` and `exec`, beside the meaning of the text.
use Rattle.std.proofs.Common.{◌≡◌, ◌≢◌, ◌⊎◌, inl, inr, ℕ, List, [], ◌∷◌, ap, subst, ◌∙◌}
use Rattle.ckc_base.specs.declared.places.Pos.{Pos}
use Rattle.ckc_base.specs.declared.runtime_checks.Check.{Check}
use Rattle.ckc_base.specs.Traces.{Ended, Stopped, Standing}
use Rattle.ckc_base.specs.Follows.{IsOver}
use Rattle.ckc_rv.specs.Machine.{Parts}
use Rattle.ckc_machine.specs.declared.observed.Observed.{Observed}
use Rattle.ckc_machine.specs.declared.observed.Observed.TheVariants as observed
use Rattle.ckc_machine.specs.Runs.{Says}
use Rattle.ckc_source.specs.Code.{Program}
use Rattle.ckc_build.specs.Meanings.{HasMeaning}
use Rattle.ckc_build.specs.Built.{Built}
use Rattle.ckc_build.proofs.Programs.{meanings_exact}
use Rattle.ckc_cli_commands.specs.declared.status.Status.{Status}
use Rattle.ckc_cli_commands.specs.declared.status.Status.TheVariants as status
use Rattle.ckc_cli_commands.specs.World.{World, Untouched}
use Rattle.ckc_cli_commands.specs.Words.{Command, Build, Exec}
use Rattle.ckc_cli_commands.specs.Outcomes.{Outcome, Refuses, IsBad, Keeps, Puts, PutsLine, Executes, Interprets, Samples}
use Rattle.ckc_cli_commands.specs.Commands.{a_text, fetches_of, Reads, Makes}
use Rattle.ckc_cli_commands.specs.Running.{Ran, status_of}
use Rattle.ckc_cli_commands.specs.Causes.{HoldsEach, Comes, Caused, FailsOnce}
use Rattle.ckc_cli.specs.Objects.{Tells, OfFile, StoreIsFine, AllIsFine}
use Rattle.ckc_cli.specs.Laws.{Over, Given, IsRun, RanBuilt}
use Rattle.ckc_cli.specs.Agreeing.{Headline, OfInput, PrintedFirst, StandsAsMeant, GoesAsMeant, IsStuckAsMeant, StandsInTime, PutsInTime}
use Rattle.ckc_cli.proofs.OneCommand.{reads_once}
use Rattle.ckc_cli.proofs.OneOutcome.{Form, formed, built_by}
use Rattle.ckc_cli.proofs.Headline.{ran_ended, ran_stopped, ran_going, ran_faulty, says_ended, says_stopped, ran_in_time, ran_put}
use Rattle.ckc_cli.proofs.Always as always
use Rattle.ckc_cli.proofs.Statuses as by
use Rattle.ckc_cli.proofs.Failing.{input_rose, output_rose}

bad_is_kept : (part : ℕ) (name image : List ℕ) → IsBad part ≡ Keeps name image → ⊥
bad_is_kept part name image e = cc

bad_is_run : (part : ℕ) (parts : Parts) (limit : ℕ) → IsBad part ≡ Executes parts limit → ⊥
bad_is_run part parts limit e = cc

module _ (words : List (List ℕ)) (before after : World) (same : Untouched) (s : Status) (cause : Caused words before after same s) (fails : FailsOnce before after s) where
  -- `build` of a text that has a meaning
  pub built_always : (source name text : List ℕ) (p : Program) → Given words before.store.files (Build source name) (text ∷ []) → StoreIsFine before.store after.store → HasMeaning text p
      → (s ≡ status.Done) ⊎ (s ≡ status.Memory)
  built_always source name text p g fine m = by_result (always.result_of words before after same (Build source name) (text ∷ []) g fine s cause fails)
    where
      by_outcome : (o : Outcome) → Makes (Build source name) (text ∷ []) o → Comes o before after same s → (s ≡ status.Done) ⊎ (s ≡ status.Memory)
      by_outcome (Refuses fault) x c = absurd (meanings_exact.never_both text p fault m x)
      by_outcome (IsBad part) x c = absurd (bad_is_kept part name x.0 x.2)
      by_outcome (Keeps place image) x c = always.kept_fine words before after same (Build source name) (text ∷ []) g fine s fails place image c.0
      by_outcome (Puts listing) x c = absurd (formed (Build source name) (text ∷ []) (Puts listing) x)
      by_outcome (PutsLine line) x c = absurd (formed (Build source name) (text ∷ []) (PutsLine line) x)
      by_outcome (Executes parts most) x c = absurd (formed (Build source name) (text ∷ []) (Executes parts most) x)
      by_outcome (Interprets q most) x c = absurd (formed (Build source name) (text ∷ []) (Interprets q most) x)
      by_outcome (Samples parts size) x c = absurd (formed (Build source name) (text ∷ []) (Samples parts size) x)

      by_result : always.Result words before after same (Build source name) (text ∷ []) g fine s → (s ≡ status.Done) ⊎ (s ≡ status.Memory)
      by_result (inl r) = by_outcome r.0 r.1 r.2
      by_result (inr e) = inr e

  -- `exec` of a text that has a meaning
  module _ (name text : List ℕ) (limit : ℕ) (p : Program) (g : Given words before.store.files (Exec name limit) (text ∷ [])) (m : HasMeaning text p) where
    pub run_always : StoreIsFine before.store after.store → RanBuilt text limit before after same s ⊎ (s ≡ status.Memory)
    run_always fine = by_result (always.result_of words before after same (Exec name limit) (text ∷ []) g fine s cause fails)
      where
        by_outcome : (o : Outcome) → Makes (Exec name limit) (text ∷ []) o → Comes o before after same s → RanBuilt text limit before after same s ⊎ (s ≡ status.Memory)
        by_outcome (Refuses fault) x c = absurd (meanings_exact.never_both text p fault m x)
        by_outcome (IsBad part) x c = absurd (bad_is_run part x.0 limit x.2)
        by_outcome (Keeps place image) x c = absurd (formed (Exec name limit) (text ∷ []) (Keeps place image) x)
        by_outcome (Puts listing) x c = absurd (formed (Exec name limit) (text ∷ []) (Puts listing) x)
        by_outcome (PutsLine line) x c = absurd (formed (Exec name limit) (text ∷ []) (PutsLine line) x)
        by_outcome (Executes parts most) x c =
            let b = built_by name limit most (text ∷ []) parts x in
            let text_is : b.0 ≡ text = (let e = b.1 in cc) in
            let most_is = formed (Exec name limit) (text ∷ []) (Executes parts most) x in
            inl (parts, c.0.0, subst (λ (t : List ℕ). Built t parts) text_is b.2, c.0.1, subst (λ k. Ran parts k before after same.input c.0.0) most_is c.0.2)
        by_outcome (Interprets q most) x c = absurd (formed (Exec name limit) (text ∷ []) (Interprets q most) x)
        by_outcome (Samples parts size) x c = absurd (formed (Exec name limit) (text ∷ []) (Samples parts size) x)

        by_result : always.Result words before after same (Exec name limit) (text ∷ []) g fine s → RanBuilt text limit before after same s ⊎ (s ≡ status.Memory)
        by_result (inl r) = by_outcome r.0 r.1 r.2
        by_result (inr e) = inr e

    module _ (fine : AllIsFine before after) where
      -- what holds of every run that no object cuts short
      by_run : (Shows : Observed → Type 0)
          → ((ran : RanBuilt text limit before after same s) → ran.1 ≢ observed.ReadFault → ran.1 ≢ observed.WriteFault → p ≡ ran.2.program → Shows ran.1)
          → ((o : Observed) × (s ≡ status_of o) × Shows o) ⊎ (s ≡ status.Memory)
      by_run Shows h = at (run_always fine.store)
        where
          at : RanBuilt text limit before after same s ⊎ (s ≡ status.Memory) → ((o : Observed) × (s ≡ status_of o) × Shows o) ⊎ (s ≡ status.Memory)
          at (inl x) = inl (x.1, x.3, h x (λ q. fine.input (input_rose before after s fails (x.3 ∙ ap status_of q))) (λ q. fine.output (output_rose before after s fails (x.3 ∙ ap status_of q))) (meanings_exact.made_once text p x.2.program m x.2.means))
          at (inr e) = inr e

      stands_always : (stands : Standing) → IsOver stands → OfInput before.input.left (StandsInTime p limit stands) → ((o : Observed) × (s ≡ status_of o) × Says o stands) ⊎ (s ≡ status.Memory)
      stands_always stands over h =
          by_run (λ o. Says o stands)
          (λ x r w is. ran_in_time text x.0 x.2 limit before after same.input x.1 r w x.4 stands over (subst (λ (q : Program). OfInput before.input.left (StandsInTime q limit stands)) is h))

      pub ended_always : (value : ℕ) → OfInput before.input.left (StandsInTime p limit (Ended value)) → (s ≡ status.Ended value) ⊎ (s ≡ status.Memory)
      ended_always value h = at (stands_always (Ended value) tt h)
        where
          at : ((o : Observed) × (s ≡ status_of o) × Says o (Ended value)) ⊎ (s ≡ status.Memory) → (s ≡ status.Ended value) ⊎ (s ≡ status.Memory)
          at (inl x) = inl (x.1 ∙ ap status_of (says_ended x.0 value x.2))
          at (inr e) = inr e

      pub stopped_always : (check : Check) (at : Pos) → OfInput before.input.left (StandsInTime p limit (Stopped check at)) → (s ≡ status.Stopped check at) ⊎ (s ≡ status.Memory)
      stopped_always check at h = either (stands_always (Stopped check at) tt h)
        where
          either : ((o : Observed) × (s ≡ status_of o) × Says o (Stopped check at)) ⊎ (s ≡ status.Memory) → (s ≡ status.Stopped check at) ⊎ (s ≡ status.Memory)
          either (inl x) = inl (x.1 ∙ ap status_of (says_stopped x.0 check at x.2))
          either (inr e) = inr e

      pub put_always : (bytes : List ℕ) → OfInput before.input.left (PutsInTime p limit bytes) → PrintedFirst before.output.written after.output.written bytes ⊎ (s ≡ status.Memory)
      put_always bytes h =
          at (by_run (λ o. PrintedFirst before.output.written after.output.written bytes)
          (λ x r w is. ran_put text x.0 x.2 limit before after same.input x.1 r w x.4 bytes (subst (λ (q : Program). OfInput before.input.left (PutsInTime q limit bytes)) is h)))
        where
          at : ((o : Observed) × (s ≡ status_of o) × PrintedFirst before.output.written after.output.written bytes) ⊎ (s ≡ status.Memory) → PrintedFirst before.output.written after.output.written bytes ⊎ (s ≡ status.Memory)
          at (inl x) = inl x.2
          at (inr e) = inr e

  -- ---- the headline

  module _ (name : List ℕ) (limit : ℕ) (asked : Reads words (Exec name limit)) where
    -- what a run of the image of the text showed
    over_built : (o : Observed) (Are : List ℕ → Type 0) → ((text : List ℕ) (parts : Parts) (most : ℕ) → Built text parts → Ran parts most before after same.input o → Are text)
        → Over words before.store.files (IsRun before after same o) → OfFile before.store.files name Are
    over_built o Are are x = by_run x.are
      where
        is : x.command ≡ Exec name limit
        is = reads_once words x.command (Exec name limit) x.reads asked

        by_run : IsRun before after same o x.command x.bytes → OfFile before.store.files name Are
        by_run (inl y) =
            let b = built_by name limit y.1 x.bytes y.0 (subst (λ (c : Command). Makes c x.bytes (Executes y.0 y.1)) is y.2) in
            let holds = subst (λ (c : Command). HoldsEach before.store.files (fetches_of c) x.bytes) is x.holds in
            let held = subst (HoldsEach before.store.files (a_text name ∷ [])) b.1 holds in
            (b.0, held.0, are b.0 y.0 y.1 b.2 y.3)
        by_run (inr (inl y)) = absurd (subst (Form (Interprets y.0 y.1)) is (formed x.command x.bytes (Interprets y.0 y.1) y.2))
        by_run (inr (inr y)) = absurd (subst (Form (Samples y.0 y.1)) is (formed x.command x.bytes (Samples y.0 y.1) y.2))

    run_by : (o : Observed) → o ≢ observed.WriteFault → s ≡ status_of o → (Are : List ℕ → Type 0) → ((text : List ℕ) (parts : Parts) (most : ℕ) → Built text parts → Ran parts most before after same.input o → Are text)
        → OfFile before.store.files name Are
    run_by o n e Are are = over_built o Are are (by.shown_by words before after same s cause o n e)

    given : (text : List ℕ) → Tells before.store.files name text → Given words before.store.files (Exec name limit) (text ∷ [])
    given text t = record { reads = asked; told = (t, tt) }

    pub headline : Headline name limit before after s
    headline = record {
      ended = λ value e.
          run_by (observed.Ended value) (λ q. cc) e (StandsAsMeant (Ended value) before after)
          (λ text parts most built ran. (built.program, built.means, ran_ended text parts built most before after same.input value ran));
      ended_always = λ value text p t m fine h. ended_always name text limit p (given text t) m fine value h;
      stopped = λ check at e.
          run_by (observed.Stopped check at) (λ q. cc) e (StandsAsMeant (Stopped check at) before after)
          (λ text parts most built ran. (built.program, built.means, ran_stopped text parts built most before after same.input check at ran));
      stopped_always = λ check at text p t m fine h. stopped_always name text limit p (given text t) m fine check at h;
      going = λ e.
          run_by observed.Going (λ q. cc) e (GoesAsMeant before after)
          (λ text parts most built ran. (built.program, built.means, ran_going text parts built most before after same.input ran));
      put_always = λ bytes text p t m fine h. put_always name text limit p (given text t) m fine bytes h;
      faultless = λ kind pc e.
          run_by (observed.Fault kind pc) (λ q. cc) e (IsStuckAsMeant before after)
          (λ text parts most built ran. (built.program, built.means, ran_faulty text parts built most before after same.input kind pc ran));
    }
