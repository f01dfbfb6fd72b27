-- How the promises of the layers join.
use Rattle.std.proofs.Common.{◌≡◌, ◌≢◌, ◌⊎◌, inl, inr, ℕ, ◌+◌, ◌≤◌, List, arith, lit≤}
use Rattle.ckc_base.specs.Traces.{Event, Standing, Going, Ended, Stopped, Stuck, Fault, Showing}
use Rattle.ckc_base.specs.Follows.{IsSafe, IsBorneOut, Follows}
use Rattle.ckc_base.proofs.Following.{follows_trans}
use Rattle.ckc_source.specs.Code as source
use Rattle.ckc_source.specs.LaidOut.{AreBytes}
use Rattle.ckc_source.specs.Source.{source}
use Rattle.ckc_checks_follow.specs.Followed.{IsFollowedByCore}
use Rattle.ckc_core.specs.Code as core
use Rattle.ckc_core.specs.Meaning.{core_detail, core_meaning}
use Rattle.ckc_tac.specs.declared.code.Tac.{Tac}
use Rattle.ckc_tac.specs.Meaning.{tac_detail}
use Rattle.ckc_tac.specs.code.Meaning.{tac_meaning}
use Rattle.ckc_frame.specs.declared.code.Placed.{Placed}
use Rattle.ckc_frame.specs.Meaning.{placed_detail, placed_meaning}
use Rattle.ckc_emit.specs.Promise.{FollowsPlaced, ListsStores}
use Rattle.ckc_rv.specs.Machine.{Parts, machine}
use Rattle.ckc_build_compile.specs.code.Layers.{HasCore, FollowsOn}
use Rattle.ckc_build_compile.specs.Confined.{ConfinesStores, NeverFaults}
use Rattle.ckc_build_compile.proofs.Confining.{machine_listed}
use Rattle.ckc_build_compile.proofs.Composed.{follows_detail, follows_within, all_bytes}

pub lowered_follows : (p : source.Program) (k : core.Program) (t : Tac) → IsFollowedByCore p k
    → ((input : List ℕ) → Follows (core_detail k input) (tac_detail t input) 4)
    → (input : List ℕ) → AreBytes input → Follows (source p input) (tac_meaning t input) 400004
lowered_follows p k t insert lower input bytes =
    follows_detail (source p input) (core_detail k input) (tac_detail t input) 100000 4 (insert input bytes) (lower input)

pub placed_follows : (a : List ℕ → ℕ → Showing Event) (t after : Tac) (q : Placed)
    → ((input : List ℕ) → AreBytes input → Follows (a input) (tac_meaning t input) 400004)
    → FollowsOn t after 6 → ((input : List ℕ) → Follows (tac_detail after input) (placed_detail q input) 1)
    → (input : List ℕ) → AreBytes input → Follows (a input) (placed_meaning q input) 400011
placed_follows a t after q lowered passes assign input bytes =
    follows_detail (a input) (tac_detail after input) (placed_detail q input) 400010 1
    (passes.seen input (a input) 400004 (lowered input bytes)) (assign input)

pub machine_follows : (a : List ℕ → ℕ → Showing Event) (q : Placed) (parts : Parts)
    → ((input : List ℕ) → AreBytes input → Follows (a input) (placed_meaning q input) 400011)
    → FollowsPlaced q parts
    → (input : List ℕ) → AreBytes input → Follows (a input) (machine parts input) 33554432
machine_follows a q parts placed emit input bytes =
    follows_within (a input) (machine parts input) 32000960 33554432 (lit≤ tt)
    (follows_trans (a input) (placed_meaning q input) (machine parts input) 400011 80 (placed input bytes) (emit input (all_bytes input bytes)))

-- a program that weighs so much fits into an image
pub code_fits : (weight size : ℕ) → size ≤ weight → weight ≤ 4193275 → size + 5 ≤ 4193280
code_fits weight size h k = omega arith

-- placed code follows core code in detail
pub has_core : (p : source.Program) (t after : Tac) (q : Placed) → HasCore p (tac_detail t) 4 → FollowsOn t after 6
    → ((input : List ℕ) → Follows (tac_detail after input) (placed_detail q input) 1) → HasCore p (placed_detail q) 11
has_core p t after q h passes assign = record {
  core = h.core;
  follows = h.follows;
  stores = h.stores;
  below = λ input.
      let d = core_detail h.core input in
      follows_trans d (tac_detail after input) (placed_detail q input) 10 1 (passes.detail input d 4 (h.below input)) (assign input);
}

-- ---- what the machine of a program that is never stuck does

safe_standing : (s : Standing) → IsSafe s → s ≢ Stuck
safe_standing Going h e = cc
safe_standing (Ended value) h e = cc
safe_standing (Stopped check at) h e = cc
safe_standing Stuck h e = h
safe_standing (Fault kind pc) h e = h

borne_out : {E : Type 0} (a : ℕ → Showing E) (b : Showing E) → ((n : ℕ) → (a n).standing ≢ Stuck) → ((n : ℕ) × (((a n).standing ≡ Stuck) ⊎ IsBorneOut (a n) b)) → (n : ℕ) × IsBorneOut (a n) b
borne_out a b safe p = (p.0, elim p.1 [ inl stuck ↦ absurd (safe p.0 stuck) | inr borne ↦ borne ])

pub never_faults : (p : source.Program) (parts : Parts) (c : ℕ) → ((input : List ℕ) → AreBytes input → Follows (source p input) (machine parts input) c) → NeverFaults p parts
never_faults p parts c follows input bytes safe k =
    let f = follows input bytes in
    let b = borne_out (source p input) (machine parts input k) safe (f.back k) in
    b.1.safe

pub confines_stores : (p : source.Program) (q : Placed) (parts : Parts) → HasCore p (placed_detail q) 11 → ListsStores q parts → ConfinesStores p parts
confines_stores p q parts h listed input bytes safe =
    let k = h.core in
    let core = h.follows input bytes in
    let core_safe : (n : ℕ) → (core_detail k input n).standing ≢ Stuck =
    λ n.
    let b = borne_out (source p input) (core_meaning k input n) safe (core.back n) in
    safe_standing (core_detail k input n).standing b.1.safe in
    let d = h.below input in
    let follow : (j : ℕ) → (n : ℕ) × IsBorneOut (core_detail k input n) (placed_detail q input j) =
    λ j. borne_out (core_detail k input) (placed_detail q input j) core_safe (d.back j) in
    let placed_safe : (j : ℕ) → (placed_detail q input j).standing ≢ Stuck =
    λ j. let b = follow j in safe_standing (placed_detail q input j).standing b.1.safe in
    machine_listed p k q parts input (h.stores input bytes safe)
    (λ j. let b = follow j in (b.0, b.1.begins))
    (listed input (all_bytes input bytes) placed_safe)
