-- The program that a text means.
use Rattle.std.proofs.Common.{◌≡◌, ℕ, ◌+◌, ◌*◌, ◌≤◌, List, length, Result, Ok, Err, IfOk, sym, ap, subst}
use Rattle.ckc_base.specs.declared.fault.Fault.{Fault}
use Rattle.ckc_base.specs.declared.fault.Fault.TheVariants as fault
use Rattle.ckc_base.specs.Phases.{IsExact, Answers, Exact}
use Rattle.ckc_base.proofs.Phases.{then_exact, exact_of, phase_by_exact}
use Rattle.ckc_blame.specs.Blamed.{IsBlamed, IsNeverStuck}
use Rattle.ckc_source.specs.Code.{Program}
use Rattle.ckc_typed.specs.declared.typed.Typed.{Typed}
use Rattle.ckc_checks_operands.specs.Weights.{program_weight}
use Rattle.ckc_build_elaborate.specs.Elaborated.{elaborated}
use Rattle.ckc_image.specs.declared.parts.Parts as parts
use Rattle.ckc_build_compile.specs.Compiled.{FollowsSource, machine_parts}
use Rattle.ckc_build_compile.specs.Confined.{ConfinesStores, NeverFaults}
use Rattle.ckc_build.specs.Meanings.{IsWhollyChecked, judging, elaborating, meanings}
use Rattle.ckc_build.specs.Built.{IsImage, building}
use Rattle.ckc_build.specs.Sizes.{HasShortCode}
use Rattle.ckc_build_wellformed.specs.ckc_blame_steps.specs.Stores.{PlansLie}
use Rattle.ckc_build.proofs.Confined.{stores_stay}
use Rattle.ckc_build.proofs.Chain.{judging_exact, exact_err}

elaborating_exact : IsExact elaborating
elaborating_exact = phase_by_exact (λ (typed : Typed). Ok (elaborated typed))

pub meanings_exact : IsExact meanings
meanings_exact = then_exact judging elaborating judging_exact elaborating_exact

made : (typed : Typed) (p : Program) → p ≡ elaborated typed → elaborating.Makes typed p
made typed p e = ap Ok (sym e)

pub on_ok : {A E : Type 0} {P Q : A → Type 0} (r : Result A E) → ((a : A) → P a → Q a) → IfOk r P → IfOk r Q
on_ok (Ok a) f p = f a p
on_ok (Err e) f p = tt

module _ (text : List ℕ) where
  pub judging_ends : (e : Fault) → Exact judging text (Err e) → Exact meanings text (Err e)
  judging_ends e x = exact_err judging elaborating judging_exact elaborating_exact text e x

  pub memory_ends : Exact meanings text (Err fault.Memory)
  memory_ends = exact_of meanings meanings_exact text (Err fault.Memory) tt

  pub means : (typed : Typed) (p : Program) → Exact judging text (Ok typed) → p ≡ elaborated typed → Exact meanings text (Ok p)
  means typed p x e = exact_of meanings meanings_exact text (Ok p) (typed, x.answers, made typed p e)

  -- ---- images

  pub refused_of : (e : Fault) → Exact meanings text (Err e) → Answers building text (Err e)
  refused_of (fault.Refused r) x = x.answers
  refused_of fault.Memory x = tt

  -- an image of the program, as it is made
  abbrev pub IsMade : Program → List ℕ → Type 0
  IsMade p image =
      (made : parts.Parts) × FollowsSource p made × (length made.code ≤ 4 * (program_weight p + 5))
      × ConfinesStores p (machine_parts made) × NeverFaults p (machine_parts made) × IsImage image (machine_parts made)

  pub built_of : (p : Program) (image : List ℕ) → IsBlamed p → (IsWhollyChecked text → IsNeverStuck p) → (IsWhollyChecked text → PlansLie p)
      → Exact meanings text (Ok p) → IsMade p image → building.Makes text image
  built_of p image blamed checked lie x q = (
    machine_parts q.0,
    record {
      program = p;
      means = x.answers;
      follows = q.1;
      blamed = blamed;
      checked = checked;
      confined = q.3;
      faultless = q.4;
      inside = λ w input bytes. (
        stores_stay p (machine_parts q.0) input bytes (lie w) (q.3 input bytes (λ n. checked w input n bytes)),
        q.4 input bytes (λ n. checked w input n bytes),
      );
    },
    q.5,
  )

  pub short_of : (p : Program) (image : List ℕ) → Exact meanings text (Ok p) → IsMade p image → HasShortCode text image
  short_of p image x q =
      (machine_parts q.0, q.5, λ other m. subst (λ z. length q.0.code ≤ 4 * (program_weight z + 5)) (meanings_exact.made_once text p other x.answers m) q.2)
