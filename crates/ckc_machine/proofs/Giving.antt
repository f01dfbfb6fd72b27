-- What a source gave, and what may come after it.
use Rattle.std.proofs.Common.{◌≡◌, ◌^◌, ◌<◌, ℕ, List, [], ◌∷◌, ◌++◌, drop, slice_get, Option, None, Some, Ok, IfSome, IsTrue, refl, sym, subst, ◌∙◌, append_assoc}
use Rattle.ckc_outside.proofs.Giving.{after_none, after_one, both_none, gave_nothing, gave_both}
use Rattle.ckc_outside.specs.Outside.{GivesNothing, SeenSource, after_next}
use Rattle.ckc_rv.specs.Machine.{Parts}
use Rattle.ckc_machine.specs.declared.observed.Observed.{Observed}
use Rattle.ckc_machine.specs.declared.machine.Machine.{Machine}
use Rattle.ckc_machine.specs.Points.{state_at}
use Rattle.ckc_machine.specs.Runs.{OverAny, IsAt, AsksFor, Arrives, Runs}

-- a source that was not asked
pub not_asked : (s : SeenSource) (Holds : List ℕ → List ℕ → Type 0) → ((rest : List ℕ) → Holds rest rest) → OverAny s s Holds
not_asked s Holds h = ([], gave_nothing s, λ rest may. h rest)

pub given_so : (old new : SeenSource) (One Other : List ℕ → List ℕ → Type 0) → OverAny old new One
    → ((left left' : List ℕ) → One left left' → Other left left') → OverAny old new Other
given_so old new One Other o h = (o.0, o.1, λ rest may. h (o.0 ++ rest) rest (o.2 rest may))

-- a source that was asked once, and gave the next byte or said that there is none
pub asked_once : (old new : SeenSource) (next : Option ℕ) (Holds : List ℕ → List ℕ → Type 0) → new.answers ≡ after_next (Ok next) old.answers
    → (IsTrue old.ended → GivesNothing (Ok next)) → (IsTrue old.ended → IsTrue new.ended) → (next ≡ None → IsTrue new.ended) → IfSome next (λ byte. byte < 2 ^ 8)
    → ((rest : List ℕ) → next ≡ slice_get rest 0 → Holds rest (drop 1 rest)) → OverAny old new Holds
asked_once old new (Some byte) Holds count nothing stays end small h =
    (byte ∷ [], record { count = count ∙ after_one old.answers byte; bytes = (small, tt); none = λ t. absurd (nothing t); stays = stays }, λ rest may. h (byte ∷ rest) refl)
asked_once old new None Holds count nothing stays end small h =
    ([], record { count = count ∙ after_none ℕ old.answers; bytes = tt; none = λ t. refl; stays = stays }, λ rest may. subst (λ l. Holds l l) (sym (may (end refl))) (h [] refl))

-- what was given first, and what was given then
pub given_then : (old between new : SeenSource) (First Then Both : List ℕ → List ℕ → Type 0) → OverAny old between First → OverAny between new Then
    → ((left mid left' : List ℕ) → First left mid → Then mid left' → Both left left') → OverAny old new Both
given_then old between new First Then Both f t h =
    let more = f.0 in
    let then = t.0 in (
      more ++ then,
      gave_both old between new more then f.1 t.1,
      λ rest may. subst (λ l. Both l rest) (sym (append_assoc more then rest))
          (h (more ++ (then ++ rest)) (then ++ rest) rest (f.2 (then ++ rest) (λ e. both_none then rest (t.1.none e) (may (t.1.stays e)))) (t.2 rest may)),
    )

-- ---- what holds of what was left before and then

-- a run from wherever the machine is
abbrev pub RunsBy : ℕ → Machine → Machine → Option (List ℕ) → Option (List ℕ) → ℕ → ℕ → ℕ → ℕ → Observed → List ℕ → List ℕ → Type 0
RunsBy limit m m' written written' asks asks' puts puts' answer left left' =
    (parts : Parts) (given : List ℕ) (k : ℕ) → IsAt parts given k m (Some left)
    → Runs parts given k limit m' (Some left) (Some left') written written' asks asks' puts puts' answer

-- so many instructions more
abbrev pub ArrivesBy : ℕ → Machine → Machine → Option (List ℕ) → Option (List ℕ) → ℕ → ℕ → ℕ → ℕ → List ℕ → List ℕ → Type 0
ArrivesBy count m m' written written' asks asks' puts puts' left left' =
    (parts : Parts) (given : List ℕ) (k : ℕ) → IsAt parts given k m (Some left) → Arrives parts given k count m' (Some left) (Some left') written written' asks asks' puts puts'

-- an instruction that asks for a byte
abbrev pub GetsBy : Machine → Machine → ℕ → ℕ → Observed → List ℕ → List ℕ → Type 0
GetsBy m m' asks asks' answer left left' =
    (parts : Parts) (given : List ℕ) (k : ℕ) (written : Option (List ℕ)) (puts : ℕ) → IsAt parts given k m (Some left) → AsksFor parts (state_at parts given k) 2
    → Runs parts given k 1 m' (Some left) (Some left') written written asks asks' puts puts answer
