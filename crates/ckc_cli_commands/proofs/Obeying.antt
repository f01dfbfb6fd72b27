-- What comes of each command, from what its parts gave.
use Rattle.std.proofs.Common.{◌≡◌, inr, ℕ, ◌<◌, ◌≤◌, List, [], ◌∷◌, length, Some, Result, Ok, Err, refl, ap, subst, ◌∙◌}
use Rattle.ckc_outside.specs.declared.traits.Fetched.{Fetched}
use Rattle.ckc_outside.specs.declared.traits.Fetched.TheVariants.{Whole, Longer}
use Rattle.ckc_outside.specs.declared.traits.StoreError as errors
use Rattle.ckc_outside.specs.Outside as outside
use Rattle.ckc_outside.specs.Outside.{Files, one_more, after_keep, store_faults_after}
use Rattle.ckc_rv.specs.Machine.{Parts}
use Rattle.ckc_image.specs.declared.format.Format.{Format}
use Rattle.ckc_image.specs.declared.format.Format.TheVariants.{Elf}
use Rattle.ckc_image.proofs.Agreement.{never_bad, same_parts}
use Rattle.ckc_asm_listing.specs.Listing.{shown_image}
use Rattle.ckc_base.specs.declared.places.Refusal.{Refusal}
use Rattle.ckc_base.specs.declared.fault.Fault.{Fault}
use Rattle.ckc_base.specs.Phases.{Phase, Answers}
use Rattle.ckc_base.specs.declared.fault.Fault.TheVariants as faults
use Rattle.ckc_cli_commands.specs.declared.status.Status.{Status}
use Rattle.ckc_cli_commands.specs.Words.{Command, Exec, Run, Show}
use Rattle.ckc_build.specs.Built.{IsImage, IsImageIn, Built}
use Rattle.ckc_cli_commands.specs.World.{World, Untouched}
use Rattle.ckc_cli_commands.specs.Outcomes as outcome
use Rattle.ckc_cli_commands.specs.Commands.{longest_image, Makes}
use Rattle.ckc_cli_commands.specs.Running.{Listed}
use Rattle.ckc_cli_commands.specs.code.Running.{Ends, shows, no_memory, proper, bad, OverImage}
use Rattle.ckc_cli_commands.specs.Causes as causes
use Rattle.ckc_outside.specs.Outside.{Stored}
use Rattle.ckc_cli_commands.specs.Causes.{Holds, Unkept, KeptOnce, Idle, Came}
use Rattle.ckc_cli_commands.specs.code.Judging.{fault_status}
use Rattle.ckc_cli_commands.specs.code.Fetching.{Fetches}

-- ---- what was fetched

pub over_limit : (f : Fetched) (name : List ℕ) (limit : ℕ) (before : Stored) → f ≡ Longer → Fetches name limit before (Ok f) → (bytes : List ℕ) × Holds before.files name bytes × (limit < length bytes)
over_limit f name limit before e h = subst (λ (f : Fetched). Fetches name limit before (Ok f)) e h

pub whole_of : (f : Fetched) (bytes name : List ℕ) (limit : ℕ) (before : Stored) → f ≡ Whole bytes → Fetches name limit before (Ok f) → Holds before.files name bytes × (length bytes ≤ limit)
whole_of f bytes name limit before e h = subst (λ (f : Fetched). Fetches name limit before (Ok f)) e h

pub same_image : (f g : Format) (bytes : List ℕ) (p q : Parts) → IsImageIn f bytes p → IsImageIn g bytes q → p ≡ q
same_image f g bytes p q i j =
    let e = same_parts f g bytes p.entry q.entry p.code q.code p.initial q.initial i j in
    λ k. record { entry = e.1 k; code = e.2 k; initial = e.3 k }

-- ---- over bytes

module _ (before after : World) (same : Untouched) (s : Status) where
  pub came_as : (command : Command) (bytes other : List ℕ) → bytes ≡ other → Came command (bytes ∷ []) before after same s → Came command (other ∷ []) before after same s
  came_as command bytes other e c = subst (λ (b : List ℕ). Came command (b ∷ []) before after same s) e c

  -- a phase whose errors are those of the command
  pub faulted : {B : Type 0} (p : Phase (List ℕ) B) (command : Command) (bytes : List ℕ) (fault : Fault) → ((r : Refusal) → p.Refuses bytes r → Makes command (bytes ∷ []) (outcome.Refuses r))
      → Answers p bytes (Err fault) → s ≡ fault_status fault → Idle before after same → Came command (bytes ∷ []) before after same s
  faulted {B} p command bytes (faults.Refused refusal) refuses h e idle = causes.made (outcome.Refuses refusal) (refuses refusal h) (e, idle)
  faulted {B} p command bytes faults.Memory refuses h e idle = causes.no_memory e idle

  -- what comes of running an image that the command is to run
  run_ended : (command : Command) (bytes : List ℕ) (limit : ℕ) (parts : Parts) → Makes command (bytes ∷ []) (outcome.Executes parts limit) → Ends parts limit before after same s
      → Unkept before.store after.store → Came command (bytes ∷ []) before after same s
  run_ended command bytes limit parts x (shows o e ran) f = causes.made (outcome.Executes parts limit) x ((o, e, ran), f)
  run_ended command bytes limit parts x (no_memory e a b) f = causes.no_memory e (record { unkept = f; put = a; took = b })

  pub exec_came : (text bytes image : List ℕ) (limit : ℕ) (parts : Parts) → Built bytes parts → IsImage image parts
      → OverImage image (λ f p. Ends p limit before after same s) (same.output × same.input) s → Unkept before.store after.store → Came (Exec text limit) (bytes ∷ []) before after same s
  exec_came text bytes image limit parts built i (proper g q j ends) f =
      run_ended (Exec text limit) bytes limit parts (parts, built, refl) (subst (λ (p : Parts). Ends p limit before after same s) (same_image g Elf image q parts j i) ends) f
  exec_came text bytes image limit parts built i (bad k first e idle) f = absurd (never_bad Elf image parts.entry parts.code parts.initial i k first)

  pub run_came : (name bytes : List ℕ) (limit : ℕ) → length bytes ≤ longest_image
      → OverImage bytes (λ f p. Ends p limit before after same s) (same.output × same.input) s → Unkept before.store after.store → Came (Run name limit) (bytes ∷ []) before after same s
  run_came name bytes limit le (proper g q j ends) f = run_ended (Run name limit) bytes limit q (g, q, j, refl) ends f
  run_came name bytes limit le (bad k first e idle) f = causes.made (outcome.IsBad k) (inr (le, first)) (e, record { unkept = f; put = idle.0; took = idle.1 })

  pub list_came : (name bytes : List ℕ) → length bytes ≤ longest_image → same.input
      → OverImage bytes (λ f p. Listed (shown_image f p.entry p.code p.initial) before.output.written after.output.written before.output.faults after.output.faults s) same.output s
      → Unkept before.store after.store → Came (Show name) (bytes ∷ []) before after same s
  list_came name bytes le took (proper g q j l) f = causes.made (outcome.Puts (shown_image g q.entry q.code q.initial)) (g, q, j, refl) (l, f, took)
  list_came name bytes le took (bad k first e idle) f = causes.made (outcome.IsBad k) (inr (le, first)) (e, record { unkept = f; put = idle; took = took })

-- ---- what is kept

-- what one call of keep leaves, if nothing was kept before it
pub kept_once : (before middle after : Stored) (name bytes : List ℕ) (given result : Result (Unit {0}) errors.StoreError) → given ≡ result → Unkept before middle
    → ((here : Files) → middle.files ≡ Some here → outside.TakesFile here name bytes given after.files)
    → after.keeps ≡ one_more middle.keeps → after.kept ≡ after_keep given middle.kept → KeptOnce before after name bytes result
kept_once before middle after name bytes given result is u told once done = record {
  files = λ here e. subst (λ (r : Result (Unit {0}) errors.StoreError). outside.TakesFile here name bytes r after.files) is (told here (u.files ∙ e));
  keeps = once ∙ ap one_more u.keeps;
  kept = subst (λ (r : Result (Unit {0}) errors.StoreError). after.kept ≡ after_keep r before.kept) is (done ∙ ap (after_keep given) u.kept);
}

-- a count of faults after a call that came out so
pub faults_by : (A : Type 0) (n m : ℕ) (given : errors.StoreError) (e : errors.StoreError) → given ≡ e → m ≡ store_faults_after {A = A} (Err given) n → m ≡ store_faults_after {A = A} (Err e) n
faults_by A n m given e is faults = faults ∙ ap (λ (f : errors.StoreError). store_faults_after {A = A} (Err f) n) is
