-- What comes always, if the store tells the bytes, and no fault of the store is in the way, or memory.
use Rattle.std.proofs.Common.{◌≡◌, ◌⊎◌, inl, inr, ℕ, List, [], ◌∷◌, Option, None, Some, IsTrue, refl, sym, ap, subst, ◌∙◌}
use Rattle.ckc_base.specs.declared.places.Refusal.{Refusal}
use Rattle.ckc_outside.specs.Outside.{Files, Stored, Rose}
use Rattle.ckc_rv.specs.Machine.{Parts}
use Rattle.ckc_source.specs.Code.{Program}
use Rattle.ckc_machine.specs.declared.observed.Observed.{Observed}
use Rattle.ckc_cli_commands.specs.declared.status.Status.{Status}
use Rattle.ckc_cli_commands.specs.declared.status.Status.TheVariants as status
use Rattle.ckc_cli_commands.specs.World.{World, Untouched}
use Rattle.ckc_cli_commands.specs.Words.{Command}
use Rattle.ckc_cli_commands.specs.Outcomes.{Outcome, Refuses, IsBad, Keeps, Puts, PutsLine, Executes, Interprets, Samples}
use Rattle.ckc_cli_commands.specs.Commands.{Fetch, fetches_of, Reads, Makes}
use Rattle.ckc_cli_commands.specs.Running.{Ran, Listed, whole, front, status_of}
use Rattle.ckc_cli_commands.specs.Interpreting.{ShowsAs}
use Rattle.ckc_cli_commands.specs.Sampling.{Lined, all_lines, some_lines, Sampled, with_lines, without_lines, told_lines}
use Rattle.ckc_cli_commands.specs.Causes.{Each, Holds, HoldsEach, LacksFirst, IsLacking, Keeping, kept, failed, no_memory, Comes, made, not_fetched, fetched, Caused, usage, obeyed, FailsOnce}
use Rattle.ckc_cli.specs.Objects.{Tells, StoreIsFine}
use Rattle.ckc_cli.specs.Laws.{Given, Agrees, PutsText}
use Rattle.ckc_cli.proofs.OneOutcome.{one_outcome}
use Rattle.ckc_cli.proofs.OneCommand.{reads_once}
use Rattle.ckc_cli.proofs.Statuses.{not_shown, not_meant}
use Rattle.ckc_cli.proofs.Failing.{store_rose}

-- ---- what was fetched

-- bytes that the store holds are those that it tells
same_file : (files : Option Files) (name bytes told : List ℕ) → Holds files name bytes → Tells files name told → bytes ≡ told
same_file files name bytes told h t = let p : Some bytes ≡ Some told = sym (h t.0 t.1) ∙ t.2 in cc

same_files : (files : Option Files) (fetches : List Fetch) (bytes told : List (List ℕ)) → HoldsEach files fetches bytes → Each (Tells files) fetches told → bytes ≡ told
same_files files [] [] [] h t = refl
same_files files [] [] (told ∷ more) h t = absurd t
same_files files [] (bytes ∷ rest) told h t = absurd h
same_files files (f ∷ fetches) [] told h t = absurd h
same_files files (f ∷ fetches) (bytes ∷ rest) [] h t = absurd t
same_files files (f ∷ fetches) (bytes ∷ rest) (told ∷ more) h t =
    ap (λ (b : List ℕ). b ∷ rest) (same_file files f.name bytes told h.0 t.0) ∙ ap (λ (l : List (List ℕ)). told ∷ l) (same_files files fetches rest more h.1 t.1)

-- a steady store that tells all names lacks none
never_lacking : (before : Stored) (name told : List ℕ) → IsTrue before.steady → Tells before.files name told → IsLacking before name → ⊥
never_lacking before name told steady t lacks = let p : ◌≡◌ {A = Option (List ℕ)} None (Some told) = sym (lacks t.0 steady t.1) ∙ t.2 in cc

never_lacks : (before : Stored) (fetches : List Fetch) (told : List (List ℕ)) → IsTrue before.steady → Each (Tells before.files) fetches told → LacksFirst before fetches → ⊥
never_lacks before [] told steady t lacks = lacks
never_lacks before (f ∷ fetches) [] steady t lacks = t
never_lacks before (f ∷ fetches) (told ∷ more) steady t (inl lacks) = never_lacking before f.name told steady t.0 lacks
never_lacks before (f ∷ fetches) (told ∷ more) steady t (inr later) = never_lacks before fetches more steady t.1 later.2

-- ---- what comes

module _ (words : List (List ℕ)) (before after : World) (same : Untouched) (command : Command) (bytes : List (List ℕ))
    (g : Given words before.store.files command bytes) (fine : StoreIsFine before.store after.store) where
  -- what comes of the words is what comes of this command over these bytes
  abbrev pub Result : Status → Type 0
  Result s = ((o : Outcome) × Makes command bytes o × Comes o before after same s) ⊎ (s ≡ status.Memory)

  no_store : (other : Command) → Reads words other → Rose before.store.faults after.store.faults → LacksFirst before.store (fetches_of other) → ⊥
  no_store other r rose lacks = by_fine fine
    where
      by_fine : StoreIsFine before.store after.store → ⊥
      by_fine (inl not_risen) = not_risen rose
      by_fine (inr steady) = never_lacks before.store (fetches_of command) bytes steady g.told (subst (λ (c : Command). LacksFirst before.store (fetches_of c)) (reads_once words other command r g.reads) lacks)

  pub result_of : (s : Status) → Caused words before after same s → FailsOnce before after s → Result s
  result_of s (usage none e i k) fails = absurd (none command g.reads)
  result_of s (obeyed other r (not_fetched part others both a (failed e lacks) i)) fails = absurd (no_store other r (store_rose before after s fails e) lacks)
  result_of s (obeyed other r (not_fetched part others both a (no_memory e) i)) fails = inr e
  result_of s (obeyed other r (fetched found a h (no_memory e i))) fails = inr e
  result_of s (obeyed other r (fetched found a h (made o x c))) fails =
      let is = reads_once words other command r g.reads in
      let here = same_files before.store.files (fetches_of command) found bytes (subst (λ (c : Command). HoldsEach before.store.files (fetches_of c) found) is h) g.told in
      inl (o, subst (λ (l : List (List ℕ)). Makes command l o) here (subst (λ (c : Command). Makes c found o) is x), c)

  no_keep_fault : Rose before.store.faults after.store.faults → ¬ IsTrue before.store.steady → ⊥
  no_keep_fault rose unsteady = by_fine fine
    where
      by_fine : StoreIsFine before.store after.store → ⊥
      by_fine (inl not_risen) = not_risen rose
      by_fine (inr steady) = unsteady steady

  pub kept_fine : (s : Status) → FailsOnce before after s → (name image : List ℕ) → Keeping name image before.store after.store s → (s ≡ status.Done) ⊎ (s ≡ status.Memory)
  kept_fine s fails name image (kept e k) = inl e
  kept_fine s fails name image (failed e k unsteady) = absurd (no_keep_fault (store_rose before after s fails e) unsteady)
  kept_fine s fails name image (no_memory e k) = inr e

  listed_fine : (s : Status) (text : List ℕ) → Listed text before.output.written after.output.written before.output.faults after.output.faults s → ¬ Rose before.output.faults after.output.faults → s ≡ status.Done
  listed_fine s text (whole e p) n = e
  listed_fine s text (front e rose p) n = absurd (n rose)

  module _ (s : Status) (c : Caused words before after same s) (fails : FailsOnce before after s) where
    -- what comes of an outcome that agrees with one that the command makes of the bytes
    by_outcome : (wanted : Outcome) → Makes command bytes wanted → (Holds : Type 0) → ((o : Outcome) → Makes command bytes o → Agrees wanted o → Comes o before after same s → Holds ⊎ (s ≡ status.Memory))
        → Holds ⊎ (s ≡ status.Memory)
    by_outcome wanted x Holds h = by_result (result_of s c fails)
      where
        by_result : Result s → Holds ⊎ (s ≡ status.Memory)
        by_result (inl r) = h r.0 r.1 (one_outcome command bytes wanted r.0 x r.1) r.2
        by_result (inr e) = inr e

    pub outcome_always : (wanted : Outcome) → Makes command bytes wanted → ((o : Outcome) × Makes command bytes o × Agrees wanted o × Comes o before after same s) ⊎ (s ≡ status.Memory)
    outcome_always wanted x =
        by_outcome wanted x ((o : Outcome) × Makes command bytes o × Agrees wanted o × Comes o before after same s) (λ o y a comes. inl (o, y, a, comes))

    pub refused_always : (fault : Refusal) → Makes command bytes (Refuses fault) → (s ≡ status.Refused fault) ⊎ (s ≡ status.Memory)
    refused_always fault x = by_outcome (Refuses fault) x (s ≡ status.Refused fault) by_case
      where
        by_case : (o : Outcome) → Makes command bytes o → Agrees (Refuses fault) o → Comes o before after same s → (s ≡ status.Refused fault) ⊎ (s ≡ status.Memory)
        by_case (Refuses other) y a comes = inl (comes.0 ∙ ap status.Refused (sym a))
        by_case (IsBad part) y a comes = absurd a
        by_case (Keeps name image) y a comes = absurd a
        by_case (Puts text) y a comes = absurd a
        by_case (PutsLine line) y a comes = absurd a
        by_case (Executes parts limit) y a comes = absurd a
        by_case (Interprets p limit) y a comes = absurd a
        by_case (Samples parts size) y a comes = absurd a

    pub bad_always : (part : ℕ) → Makes command bytes (IsBad part) → (s ≡ status.BadImage part) ⊎ (s ≡ status.Memory)
    bad_always part x = by_outcome (IsBad part) x (s ≡ status.BadImage part) by_case
      where
        by_case : (o : Outcome) → Makes command bytes o → Agrees (IsBad part) o → Comes o before after same s → (s ≡ status.BadImage part) ⊎ (s ≡ status.Memory)
        by_case (Refuses other) y a comes = absurd a
        by_case (IsBad other) y a comes = inl (comes.0 ∙ ap status.BadImage (sym a))
        by_case (Keeps name image) y a comes = absurd a
        by_case (Puts text) y a comes = absurd a
        by_case (PutsLine line) y a comes = absurd a
        by_case (Executes parts limit) y a comes = absurd a
        by_case (Interprets p limit) y a comes = absurd a
        by_case (Samples parts size) y a comes = absurd a

    pub kept_always : (name image : List ℕ) → Makes command bytes (Keeps name image) → (s ≡ status.Done) ⊎ (s ≡ status.Memory)
    kept_always name image x = by_outcome (Keeps name image) x (s ≡ status.Done) by_case
      where
        by_case : (o : Outcome) → Makes command bytes o → Agrees (Keeps name image) o → Comes o before after same s → (s ≡ status.Done) ⊎ (s ≡ status.Memory)
        by_case (Refuses fault) y a comes = absurd a
        by_case (IsBad part) y a comes = absurd a
        by_case (Keeps other bytes) y a comes = kept_fine s fails other bytes comes.0
        by_case (Puts text) y a comes = absurd a
        by_case (PutsLine line) y a comes = absurd a
        by_case (Executes parts limit) y a comes = absurd a
        by_case (Interprets p limit) y a comes = absurd a
        by_case (Samples parts size) y a comes = absurd a

    pub listed_always : (text : List ℕ) → PutsText command bytes text → ¬ Rose before.output.faults after.output.faults → (s ≡ status.Done) ⊎ (s ≡ status.Memory)
    listed_always text (inl x) n = by_outcome (Puts text) x (s ≡ status.Done) by_case
      where
        by_case : (o : Outcome) → Makes command bytes o → Agrees (Puts text) o → Comes o before after same s → (s ≡ status.Done) ⊎ (s ≡ status.Memory)
        by_case (Refuses fault) y a comes = absurd a
        by_case (IsBad part) y a comes = absurd a
        by_case (Keeps name image) y a comes = absurd a
        by_case (Puts other) y a comes = inl (listed_fine s other comes.0 n)
        by_case (PutsLine line) y a comes = absurd a
        by_case (Executes parts limit) y a comes = absurd a
        by_case (Interprets p limit) y a comes = absurd a
        by_case (Samples parts size) y a comes = absurd a
    listed_always text (inr x) n = by_outcome (PutsLine text) x (s ≡ status.Done) by_case
      where
        by_case : (o : Outcome) → Makes command bytes o → Agrees (PutsLine text) o → Comes o before after same s → (s ≡ status.Done) ⊎ (s ≡ status.Memory)
        by_case (Refuses fault) y a comes = absurd a
        by_case (IsBad part) y a comes = absurd a
        by_case (Keeps name image) y a comes = absurd a
        by_case (Puts other) y a comes = absurd a
        by_case (PutsLine line) y a comes = inl (listed_fine s line comes.0 n)
        by_case (Executes parts limit) y a comes = absurd a
        by_case (Interprets p limit) y a comes = absurd a
        by_case (Samples parts size) y a comes = absurd a

    -- the machine of an image was run
    abbrev pub RanSome : Type 0
    RanSome = (parts : Parts) × (limit : ℕ) × (o : Observed) × Makes command bytes (Executes parts limit) × (s ≡ status_of o) × Ran parts limit before after same.input o

    pub ran_always : (parts : Parts) (limit : ℕ) → Makes command bytes (Executes parts limit) → RanSome ⊎ (s ≡ status.Memory)
    ran_always parts limit x = by_outcome (Executes parts limit) x RanSome by_case
      where
        by_case : (o : Outcome) → Makes command bytes o → Agrees (Executes parts limit) o → Comes o before after same s → RanSome ⊎ (s ≡ status.Memory)
        by_case (Refuses fault) y a comes = absurd a
        by_case (IsBad part) y a comes = absurd a
        by_case (Keeps name image) y a comes = absurd a
        by_case (Puts text) y a comes = absurd a
        by_case (PutsLine line) y a comes = absurd a
        by_case (Executes others most) y a comes = inl (others, most, comes.0.0, y, comes.0.1, comes.0.2)
        by_case (Interprets p most) y a comes = absurd a
        by_case (Samples parts size) y a comes = absurd a

    pub meant_always : (p : Program) (limit : ℕ) → Makes command bytes (Interprets p limit) → ShowsAs p limit before after s ⊎ (s ≡ status.Memory)
    meant_always p limit x = by_outcome (Interprets p limit) x (ShowsAs p limit before after s) by_case
      where
        by_case : (o : Outcome) → Makes command bytes o → Agrees (Interprets p limit) o → Comes o before after same s → ShowsAs p limit before after s ⊎ (s ≡ status.Memory)
        by_case (Refuses fault) y a comes = absurd a
        by_case (IsBad part) y a comes = absurd a
        by_case (Keeps name image) y a comes = absurd a
        by_case (Puts text) y a comes = absurd a
        by_case (PutsLine line) y a comes = absurd a
        by_case (Executes parts most) y a comes = absurd a
        by_case (Samples parts size) y a comes = absurd a
        by_case (Interprets other most) y a comes = inl (subst (λ (q : Program). ShowsAs q limit before after s) (sym a.0) (subst (λ k. ShowsAs other k before after s) (sym a.1) comes.0))

    -- no fault of the store comes
    pub never_store_fault : s ≡ status.StoreFault → ⊥
    never_store_fault q = by_result (result_of s c fails)
      where
        done_or_memory : (s ≡ status.Done) ⊎ (s ≡ status.Memory) → ⊥
        done_or_memory (inl e) = let z : status.Done ≡ status.StoreFault = sym e ∙ q in cc
        done_or_memory (inr e) = let z : status.Memory ≡ status.StoreFault = sym e ∙ q in cc

        by_listing : (text : List ℕ) → Listed text before.output.written after.output.written before.output.faults after.output.faults s → ⊥
        by_listing text (whole e p) = let z : status.Done ≡ status.StoreFault = sym e ∙ q in cc
        by_listing text (front e rose p) = let z : status.WriteFault ≡ status.StoreFault = sym e ∙ q in cc

        by_lines : (lines : List (List ℕ)) → Lined lines before.output after.output s → ⊥
        by_lines lines (all_lines e p n) = let z : status.Done ≡ status.StoreFault = sym e ∙ q in cc
        by_lines lines (some_lines k le e rose p n) = let z : status.WriteFault ≡ status.StoreFault = sym e ∙ q in cc

        by_sample : (parts : Parts) (size : ℕ) → Sampled parts size before.output after.output same.output s → ⊥
        by_sample parts size (with_lines value e lined) = by_lines (told_lines parts size value) lined
        by_sample parts size (without_lines o n stands e u) = not_shown o status.StoreFault (sym e ∙ q) refl

        by_case : (o : Outcome) → Comes o before after same s → ⊥
        by_case (Refuses fault) comes = let z : status.Refused fault ≡ status.StoreFault = sym comes.0 ∙ q in cc
        by_case (IsBad part) comes = let z : status.BadImage part ≡ status.StoreFault = sym comes.0 ∙ q in cc
        by_case (Keeps name image) comes = done_or_memory (kept_fine s fails name image comes.0)
        by_case (Puts text) comes = by_listing text comes.0
        by_case (PutsLine line) comes = by_listing line comes.0
        by_case (Executes parts limit) comes = not_shown comes.0.0 status.StoreFault (sym comes.0.1 ∙ q) refl
        by_case (Interprets p limit) comes = not_meant comes.0.0 status.StoreFault (comes.0.1 ∙ ap Some q) refl
        by_case (Samples parts size) comes = by_sample parts size comes.0

        by_result : Result s → ⊥
        by_result (inl r) = by_case r.0 r.2
        by_result (inr e) = let z : status.Memory ≡ status.StoreFault = sym e ∙ q in cc
