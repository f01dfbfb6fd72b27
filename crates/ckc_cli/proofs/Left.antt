-- What a call leaves: what it put and took, what it kept, and the files.
use Rattle.std.proofs.Common.{◌≡◌, ◌≢◌, ◌⊎◌, inl, inr, ℕ, Bool, true, false, cond, List, Some, Result, Ok, Err, refl, sym, ap, subst, ◌∙◌}
use Rattle.std.specs.FinMap as fin
use Rattle.std.specs.Str.{bytes_eq}
use Rattle.std.specs.Ordering.{nat_cmp, eq_by_cmp}
use Rattle.std.specs.Cmp.{eq_by_cmp_equiv}
use Rattle.std.specs.Cmp.Lexicographic.{slice_cmp}
use Rattle.std.proofs.lemmas.Cmp.{nat_list_cmp_total}
use Rattle.std.proofs.lemmas.Map.Text.{is_eq-slice_cmp}
use Rattle.std.proofs.lemmas.Slice.Eq.{bytes_eq-Decides}
use Rattle.ckc_outside.specs.declared.traits.StoreError as errors
use Rattle.ckc_outside.specs.declared.traits.StoreError.TheVariants as error
use Rattle.ckc_outside.specs.Outside.{Files, Rose, one_more}
use Rattle.ckc_cli_calls.proofs.Reports.{rose_by_one}
use Rattle.ckc_cli_commands.specs.declared.status.Status.{Status}
use Rattle.ckc_cli_commands.specs.declared.status.Status.TheVariants as status
use Rattle.ckc_cli_commands.specs.World.{World, Untouched}
use Rattle.ckc_cli_commands.specs.Words.{Command, Build, Assemble, Interp, Show, Judge}
use Rattle.ckc_cli_commands.specs.Outcomes.{Outcome, Refuses, IsBad, Keeps, Puts, PutsLine, Executes, Interprets, Samples}
use Rattle.ckc_cli_commands.specs.Commands.{fetches_of, Reads, Makes}
use Rattle.ckc_cli_commands.specs.Running.{Listed, whole, front}
use Rattle.ckc_rv.specs.Machine.{Parts}
use Rattle.ckc_cli_commands.specs.Sampling.{Lined, all_lines, some_lines, Sampled, with_lines, without_lines, told_lines}
use Rattle.ckc_cli_commands.specs.Causes.{HoldsEach, Kept, Unkept, Keeping, kept, failed, no_memory, Comes, made, not_fetched, fetched, Caused, usage, obeyed}
use Rattle.ckc_cli.specs.Laws.{Over, AsksToKeep, HasImage, KeepsOthers, shows_run}
use Rattle.ckc_cli.proofs.OneCommand.{reads_once}
use Rattle.ckc_cli.proofs.OneOutcome.{Form, formed, keeper, interpreter}
use Rattle.ckc_cli.proofs.Statuses.{true_false, not_shown, unshown_meant}

-- another name is not found if bytes were put under this one
apart : (name other : List ℕ) → other ≢ name → eq_by_cmp (slice_cmp nat_cmp) other name ≡ false
apart name other n = by_test (bytes_eq name other) refl
  where
    same_test : bytes_eq name other ≡ eq_by_cmp (slice_cmp nat_cmp) other name
    same_test = sym (is_eq-slice_cmp name other) ∙ (eq_by_cmp_equiv nat_list_cmp_total).symm name other

    by_test : (b : Bool) → bytes_eq name other ≡ b → eq_by_cmp (slice_cmp nat_cmp) other name ≡ false
    by_test true e = absurd (n (sym ((bytes_eq-Decides name other).0 e)))
    by_test false e = sym same_test ∙ e

others_same : (here : Files) (name bytes other : List ℕ) → other ≢ name → fin.get (fin.insert here name bytes) other ≡ fin.get here other
others_same here name bytes other n =
    fin.get-insert nat_list_cmp_total here name bytes other ∙ ap (λ b. cond b (Some bytes) (fin.get here other)) (apart name other n)

module _ (words : List (List ℕ)) (before after : World) (same : Untouched) where
  -- no meaning is asked for if memory ran out
  abbrev pub NoneAsked : Status → Type 0
  NoneAsked s = (name : List ℕ) (limit : ℕ) → s ≡ status.Memory → ¬ Reads words (Interp name limit)

  -- ---- what was put and taken

  module _ (command : Command) (r : Reads words command) (bytes : List (List ℕ)) where
    idle_listing : (s : Status) (text : List ℕ) → Listed text before.output.written after.output.written before.output.faults after.output.faults s → shows_run s ≡ false → s ≢ status.Done → ⊥
    idle_listing s text (whole e p) w d = d e
    idle_listing s text (front e rose p) w d = true_false (ap shows_run (sym e) ∙ w)

    idle_lines : (s : Status) (lines : List (List ℕ)) → Lined lines before.output after.output s → shows_run s ≡ false → s ≢ status.Done → ⊥
    idle_lines s lines (all_lines e p n) w d = d e
    idle_lines s lines (some_lines k le e rose p n) w d = true_false (ap shows_run (sym e) ∙ w)

    idle_sample : (s : Status) (parts : Parts) (size : ℕ) → Sampled parts size before.output after.output same.output s → shows_run s ≡ false → s ≢ status.Done → ⊥
    idle_sample s parts size (with_lines value e lined) w d = idle_lines s (told_lines parts size value) lined w d
    idle_sample s parts size (without_lines o n stands e u) w d = not_shown o s (sym e) w

    idle_comes : (s : Status) (o : Outcome) → Makes command bytes o → Comes o before after same s → shows_run s ≡ false → s ≢ status.Done → NoneAsked s → same.output × same.input
    idle_comes s (Refuses fault) x c w d n = (c.1.put, c.1.took)
    idle_comes s (IsBad part) x c w d n = (c.1.put, c.1.took)
    idle_comes s (Keeps name image) x c w d n = (c.1, c.2)
    idle_comes s (Puts text) x c w d n = absurd (idle_listing s text c.0 w d)
    idle_comes s (PutsLine line) x c w d n = absurd (idle_listing s line c.0 w d)
    idle_comes s (Executes parts limit) x c w d n = absurd (not_shown c.0.0 s (sym c.0.1) w)
    idle_comes s (Interprets p limit) x c w d n =
        let i = interpreter command p limit (formed command bytes (Interprets p limit) x) in
        absurd (n i.0 limit (unshown_meant c.0.0 s c.0.1 w) (subst (Reads words) i.1 r))
    idle_comes s (Samples parts size) x c w d n = absurd (idle_sample s parts size c.0 w d)

  -- under these statuses nothing was put or taken
  pub idle_by : (s : Status) → Caused words before after same s → shows_run s ≡ false → s ≢ status.Done → NoneAsked s → same.output × same.input
  idle_by s (usage none e i k) w d n = (i.put, i.took)
  idle_by s (obeyed command r (not_fetched part others both a u i)) w d n = (i.put, i.took)
  idle_by s (obeyed command r (fetched bytes a h (no_memory e i))) w d n = (i.put, i.took)
  idle_by s (obeyed command r (fetched bytes a h (made o x c))) w d n = idle_comes command r bytes s o x c w d n

  -- a command that keeps an image puts and takes nothing
  keeper_comes : (s : Status) (o : Outcome) (command : Command) (text target : List ℕ) → (command ≡ Build text target) ⊎ (command ≡ Assemble text target) → Form o command → Comes o before after same s → same.output × same.input
  keeper_comes s (Refuses fault) command text target is f c = (c.1.put, c.1.took)
  keeper_comes s (IsBad part) command text target is f c = (c.1.put, c.1.took)
  keeper_comes s (Keeps name image) command text target is f c = (c.1, c.2)
  keeper_comes s (Puts listing) command text target (inl e) f c = absurd (subst (Form (Puts listing)) e f)
  keeper_comes s (Puts listing) command text target (inr e) f c = absurd (subst (Form (Puts listing)) e f)
  keeper_comes s (PutsLine line) command text target (inl e) f c = absurd (subst (Form (PutsLine line)) e f)
  keeper_comes s (PutsLine line) command text target (inr e) f c = absurd (subst (Form (PutsLine line)) e f)
  keeper_comes s (Executes parts limit) command text target (inl e) f c = absurd (subst (Form (Executes parts limit)) e f)
  keeper_comes s (Executes parts limit) command text target (inr e) f c = absurd (subst (Form (Executes parts limit)) e f)
  keeper_comes s (Interprets p limit) command text target (inl e) f c = absurd (subst (Form (Interprets p limit)) e f)
  keeper_comes s (Interprets p limit) command text target (inr e) f c = absurd (subst (Form (Interprets p limit)) e f)
  keeper_comes s (Samples parts size) command text target (inl e) f c = absurd (subst (Form (Samples parts size)) e f)
  keeper_comes s (Samples parts size) command text target (inr e) f c = absurd (subst (Form (Samples parts size)) e f)

  -- the words that ask to keep an image read this command
  asks_of : (command : Command) (target : List ℕ) → Reads words command → (w : AsksToKeep words target) → (command ≡ Build w.0 target) ⊎ (command ≡ Assemble w.0 target)
  asks_of command target r w = by_case w.1
    where
      by_case : Reads words (Build w.0 target) ⊎ Reads words (Assemble w.0 target) → (command ≡ Build w.0 target) ⊎ (command ≡ Assemble w.0 target)
      by_case (inl q) = inl (reads_once words command (Build w.0 target) r q)
      by_case (inr q) = inr (reads_once words command (Assemble w.0 target) r q)

  pub keeper_touches : (s : Status) → Caused words before after same s → (target : List ℕ) → AsksToKeep words target → same.output × same.input
  keeper_touches s (usage none e i k) target w = (i.put, i.took)
  keeper_touches s (obeyed command r (not_fetched part others both a u i)) target w = (i.put, i.took)
  keeper_touches s (obeyed command r (fetched bytes a h (no_memory e i))) target w = (i.put, i.took)
  keeper_touches s (obeyed command r (fetched bytes a h (made o x c))) target w = keeper_comes s o command w.0 target (asks_of command target r w) (formed command bytes o x) c

  list_comes : (s : Status) (o : Outcome) (target : List ℕ) → Form o (Show target) → Comes o before after same s → same.input
  list_comes s (Refuses fault) target f c = c.1.took
  list_comes s (IsBad part) target f c = c.1.took
  list_comes s (Keeps name image) target f c = c.2
  list_comes s (Puts listing) target f c = c.2
  list_comes s (PutsLine line) target f c = absurd f
  list_comes s (Executes parts limit) target f c = absurd f
  list_comes s (Interprets p limit) target f c = absurd f
  list_comes s (Samples parts size) target f c = absurd f

  pub list_takes_nothing : (s : Status) → Caused words before after same s → (target : List ℕ) → Reads words (Show target) → same.input
  list_takes_nothing s (usage none e i k) target w = i.took
  list_takes_nothing s (obeyed command r (not_fetched part others both a u i)) target w = i.took
  list_takes_nothing s (obeyed command r (fetched bytes a h (no_memory e i))) target w = i.took
  list_takes_nothing s (obeyed command r (fetched bytes a h (made o x c))) target w =
      list_comes s o target (subst (Form o) (reads_once words command (Show target) r w) (formed command bytes o x)) c

  check_comes : (s : Status) (o : Outcome) (target : List ℕ) → Form o (Judge target) → Comes o before after same s → same.input
  check_comes s (Refuses fault) target f c = c.1.took
  check_comes s (IsBad part) target f c = c.1.took
  check_comes s (Keeps name image) target f c = c.2
  check_comes s (Puts listing) target f c = c.2
  check_comes s (PutsLine line) target f c = c.3
  check_comes s (Executes parts limit) target f c = absurd f
  check_comes s (Interprets p limit) target f c = absurd f
  check_comes s (Samples parts size) target f c = absurd f

  pub check_takes_nothing : (s : Status) → Caused words before after same s → (target : List ℕ) → Reads words (Judge target) → same.input
  check_takes_nothing s (usage none e i k) target w = i.took
  check_takes_nothing s (obeyed command r (not_fetched part others both a u i)) target w = i.took
  check_takes_nothing s (obeyed command r (fetched bytes a h (no_memory e i))) target w = i.took
  check_takes_nothing s (obeyed command r (fetched bytes a h (made o x c))) target w =
      check_comes s o target (subst (Form o) (reads_once words command (Judge target) r w) (formed command bytes o x)) c

  -- ---- what was kept

  -- nothing was kept, or one image, or keeping it failed
  data Left (s : Status) : Type 0 where
    nothing : Unkept before.store after.store → Left s
    one : (command : Command) → Reads words command → (bytes : List (List ℕ)) → HoldsEach before.store.files (fetches_of command) bytes → (name image : List ℕ) → Makes command bytes (Keeps name image)
        → Keeping name image before.store after.store s → Left s

  left_comes : (s : Status) (command : Command) → Reads words command → (bytes : List (List ℕ)) → HoldsEach before.store.files (fetches_of command) bytes → (o : Outcome) → Makes command bytes o
      → Comes o before after same s → Left s
  left_comes s command r bytes h (Refuses fault) x c = nothing c.1.unkept
  left_comes s command r bytes h (IsBad part) x c = nothing c.1.unkept
  left_comes s command r bytes h (Keeps name image) x c = one command r bytes h name image x c.0
  left_comes s command r bytes h (Puts text) x c = nothing c.1
  left_comes s command r bytes h (PutsLine line) x c = nothing c.2
  left_comes s command r bytes h (Executes parts limit) x c = nothing c.1
  left_comes s command r bytes h (Interprets p limit) x c = nothing c.1
  left_comes s command r bytes h (Samples parts size) x c = nothing c.1

  left : (s : Status) → Caused words before after same s → Left s
  left s (usage none e i k) = nothing i.unkept
  left s (obeyed command r (not_fetched part others both a u i)) = nothing i.unkept
  left s (obeyed command r (fetched bytes a h (no_memory e i))) = nothing i.unkept
  left s (obeyed command r (fetched bytes a h (made o x c))) = left_comes s command r bytes h o x c

  keeps_of : (s : Status) (name image : List ℕ) → Keeping name image before.store after.store s → after.store.keeps ≡ one_more before.store.keeps
  keeps_of s name image (kept e k) = k.keeps
  keeps_of s name image (failed e k t) = k.keeps
  keeps_of s name image (no_memory e k) = k.keeps

  kept_of : (s : Status) (name image : List ℕ) → Keeping name image before.store after.store s → s ≢ status.Done → after.store.kept ≡ before.store.kept
  kept_of s name image (kept e k) n = absurd (n e)
  kept_of s name image (failed e k t) n = k.kept
  kept_of s name image (no_memory e k) n = k.kept

  once_by : (s : Status) → Left s → (after.store.keeps ≡ before.store.keeps) ⊎ (after.store.keeps ≡ one_more before.store.keeps)
  once_by s (nothing u) = inl u.keeps
  once_by s (one command r bytes h name image x k) = inr (keeps_of s name image k)

  pub keeps_once : (s : Status) → Caused words before after same s → (after.store.keeps ≡ before.store.keeps) ⊎ (after.store.keeps ≡ one_more before.store.keeps)
  keeps_once s c = once_by s (left s c)

  -- no name is asked for
  abbrev pub KeepsNothing : Type 0
  KeepsNothing = (name : List ℕ) → ¬ AsksToKeep words name

  not_asked : (command : Command) (bytes : List (List ℕ)) (name image : List ℕ) → Makes command bytes (Keeps name image) → Reads words command → KeepsNothing → ⊥
  not_asked command bytes name image x r none = let k = keeper command name image (formed command bytes (Keeps name image) x) in by_keeper k.0 k.1
    where
      by_keeper : (text : List ℕ) → (command ≡ Build text name) ⊎ (command ≡ Assemble text name) → ⊥
      by_keeper text (inl e) = none name (text, inl (subst (Reads words) e r))
      by_keeper text (inr e) = none name (text, inr (subst (Reads words) e r))

  none_by : (s : Status) → Left s → KeepsNothing → Unkept before.store after.store
  none_by s (nothing u) none = u
  none_by s (one command r bytes h name image x k) none = absurd (not_asked command bytes name image x r none)

  pub keeps_for_commands : (s : Status) → Caused words before after same s → KeepsNothing → after.store.keeps ≡ before.store.keeps
  keeps_for_commands s c none = (none_by s (left s c) none).keeps

  pub files_same : (s : Status) → Caused words before after same s → KeepsNothing → after.store.files ≡ before.store.files
  files_same s c none = (none_by s (left s c) none).files

  unkept_by : (s : Status) → Left s → ¬ Rose before.store.keeps after.store.keeps → after.store.files ≡ before.store.files
  unkept_by s (nothing u) n = u.files
  unkept_by s (one command r bytes h name image x k) n = absurd (n (rose_by_one before.store.keeps after.store.keeps (keeps_of s name image k)))

  pub unkept_files : (s : Status) → Caused words before after same s → ¬ Rose before.store.keeps after.store.keeps → after.store.files ≡ before.store.files
  unkept_files s c = unkept_by s (left s c)

  image_by : (s : Status) → Left s → after.store.keeps ≢ before.store.keeps → Over words before.store.files HasImage
  image_by s (nothing u) n = absurd (n u.keeps)
  image_by s (one command r bytes h name image x k) n = record { command = command; reads = r; bytes = bytes; holds = h; are = (name, image, x) }

  pub keeps_images : (s : Status) → Caused words before after same s → after.store.keeps ≢ before.store.keeps → Over words before.store.files HasImage
  keeps_images s c = image_by s (left s c)

  kept_by : (s : Status) → Left s → s ≢ status.Done → after.store.kept ≡ before.store.kept
  kept_by s (nothing u) n = u.kept
  kept_by s (one command r bytes h name image x k) n = kept_of s name image k n

  pub kept_done : (s : Status) → Caused words before after same s → s ≢ status.Done → after.store.kept ≡ before.store.kept
  kept_done s c = kept_by s (left s c)

  -- ---- the files

  refused_by : (s : Status) (name image : List ℕ) → Keeping name image before.store after.store s → s ≢ status.Done → s ≢ status.StoreFault → s ≢ status.Memory → ⊥
  refused_by s name image (kept e k) d t m = d e
  refused_by s name image (failed e k w) d t m = t e
  refused_by s name image (no_memory e k) d t m = m e

  same_by : (s : Status) → Left s → s ≢ status.Done → s ≢ status.StoreFault → s ≢ status.Memory → after.store.files ≡ before.store.files
  same_by s (nothing u) d t m = u.files
  same_by s (one command r bytes h name image x k) d t m = absurd (refused_by s name image k d t m)

  pub refused_keeps : (s : Status) → Caused words before after same s → s ≢ status.Done → s ≢ status.StoreFault → s ≢ status.Memory → after.store.files ≡ before.store.files
  refused_keeps s c = same_by s (left s c)

  kept_one : (target name image : List ℕ) (result : Result (Unit {0}) errors.StoreError) → name ≡ target → Kept before.store.files name image result after.store.files
      → KeepsOthers target before.store.files after.store.files
  kept_one target name image (Ok done) e k = λ here told. (fin.insert here name image, k here told, λ other n. others_same here name image other (λ q. n (q ∙ e)))
  kept_one target name image (Err fault) e k = λ here told. let p = k here told in (p.0, p.1, λ other n. p.2 other (λ q. n (q ∙ e)))

  kept_others : (s : Status) (target name image : List ℕ) → name ≡ target → Keeping name image before.store after.store s → KeepsOthers target before.store.files after.store.files
  kept_others s target name image e (kept d k) = kept_one target name image (Ok tt) e k.files
  kept_others s target name image e (failed d k w) = kept_one target name image (Err error.Failed) e k.files
  kept_others s target name image e (no_memory d k) = kept_one target name image (Err error.Memory) e k.files

  target_is : (command : Command) (name image text target : List ℕ) → Form (Keeps name image) command → (command ≡ Build text target) ⊎ (command ≡ Assemble text target) → name ≡ target
  target_is command name image text target f (inl e) = subst (Form (Keeps name image)) e f
  target_is command name image text target f (inr e) = subst (Form (Keeps name image)) e f

  others_by : (s : Status) → Left s → (target : List ℕ) → AsksToKeep words target → KeepsOthers target before.store.files after.store.files
  others_by s (nothing u) target w = λ here told. (here, u.files ∙ told, λ other n. refl)
  others_by s (one command r bytes h name image x k) target w =
      kept_others s target name image (target_is command name image w.0 target (formed command bytes (Keeps name image) x) (asks_of command target r w)) k

  pub others_kept : (s : Status) → Caused words before after same s → (target : List ℕ) → AsksToKeep words target → KeepsOthers target before.store.files after.store.files
  others_kept s c = others_by s (left s c)
