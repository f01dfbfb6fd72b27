-- What follows from the law that unchecked code is to blame.
use Rattle.std.proofs.Common.{◌≡◌, ◌↔◌, ℕ, List, Result, Ok, Err, IfOk, subst}
use Rattle.ckc_base.specs.declared.fault.Fault.{Fault}
use Rattle.ckc_base.specs.Outcomes.{Outcome}
use Rattle.ckc_base.specs.Phases.{Exact}
use Rattle.ckc_blame.specs.Blamed.{IsBlamed, IsNeverStuck}
use Rattle.ckc_blame.specs.Checked.{WhollyChecked}
use Rattle.ckc_syntax.specs.declared.tree.NamedText.{NamedText}
use Rattle.ckc_parser.specs.Phase.{SpelledTree}
use Rattle.ckc_plain.specs.Phase.{resolving}
use Rattle.ckc_source.specs.Code.{Program}
use Rattle.ckc_source.specs.LaidOut.{IsLaidOut}
use Rattle.ckc_typed.specs.Texts.{named_typed}
use Rattle.ckc_typed_welltyped.specs.Texts.{TypedAs}
use Rattle.ckc_build_wellformed.specs.ckc_blame_steps.specs.Accepted.{IsAccepted}
use Rattle.ckc_typed.specs.declared.typed.Typed.{Typed}
use Rattle.ckc_build_elaborate.specs.Elaborated.{elaborated}
use Rattle.ckc_build.specs.Meanings.{judging, HasMeaning, IsWhollyChecked}
use Rattle.ckc_build.proofs.Chain.{judging_exact}

-- a text that the phases judge is accepted
pub accepted : ((t : NamedText) (p : Typed) → (named_typed t ≡ Ok p) ↔ TypedAs t p) → (text : List ℕ) (p : Typed) → judging.Makes text p → IsAccepted text p
accepted exactly text p m =
    let rest = m.2.2 in
    record {
      tokens = m.1.0;
      spelled = m.0;
      named = rest.0;
      typed = rest.2.0;
      has_tokens = m.1.1;
      has_tree = m.1.2;
      small = m.2.1.0;
      has_names = subst (λ (t : SpelledTree). resolving.Makes t rest.0) m.2.1.1 rest.1;
      has_types = (exactly rest.0 rest.2.0).0 rest.2.1;
      has_bounds = rest.2.2;
    }

elaborated_is : (t : Typed) (p : Program) → ◌≡◌ {A = Outcome Program} (Ok (elaborated t)) (Ok p) → elaborated t ≡ p
elaborated_is t p e = cc

-- whatever holds of the program of each typed text that the phases make holds of the program that a text means
pub meant_by : (P : Program → Type 0) → ((text : List ℕ) (p : Typed) → judging.Makes text p → P (elaborated p)) → (text : List ℕ) (p : Program) → HasMeaning text p → P p
meant_by P law text p m = subst P (elaborated_is m.0 p m.2) (law text m.0 m.1)

-- the program that a text means lies as that of the typed text does
pub laid_out_by : ((text : List ℕ) (p : Typed) → judging.Makes text p → IsLaidOut (elaborated p)) → (text : List ℕ) (p : Program) → HasMeaning text p → IsLaidOut p
laid_out_by law = meant_by IsLaidOut law

-- whatever holds of each typed text that the phases make holds of what they answer
pub if_judged : (P : Typed → Type 0) (text : List ℕ) (r : Result Typed Fault) → ((p : Typed) → judging.Makes text p → P p) → Exact judging text r → IfOk r P
if_judged P text (Ok p) law x = law p x.answers
if_judged P text (Err e) law x = tt

-- whatever holds of the program of each typed text that is wholly checked holds of the program that a text means
pub checked_by : (P : Program → Type 0) → ((text : List ℕ) (p : Typed) → judging.Makes text p → WhollyChecked p → P (elaborated p))
    → (text : List ℕ) (p : Program) → HasMeaning text p → IsWhollyChecked text → P p
checked_by P law text p m w = subst P (elaborated_is m.0 p m.2) (law text m.0 m.1 (subst WhollyChecked (judging_exact.made_once text w.0 m.0 w.1 m.1) w.2))

module _ (judged : (text : List ℕ) (p : Typed) → judging.Makes text p → IsBlamed (elaborated p)) (checked : (text : List ℕ) (p : Typed) → judging.Makes text p → WhollyChecked p → IsNeverStuck (elaborated p)) (text : List ℕ) where
  pub blamed_by : (p : Program) → HasMeaning text p → IsBlamed p
  blamed_by p m = meant_by IsBlamed judged text p m

  pub never_by : (p : Program) → HasMeaning text p → IsWhollyChecked text → IsNeverStuck p
  never_by p m w = checked_by IsNeverStuck checked text p m w
