-- What may be written in a step, what a step that stops owes, and states with more blocks.
use Rattle.std.proofs.Common.{◌≡◌, refl, ap, sym, ◌∙◌, ℕ, Bool, true, false, [], ◌++◌, append_assoc}
use Rattle.std.specs.Prelude.{◌==◌, if◌then◌else◌, Option, None, Some, Result, Ok, Err}
use Rattle.std.proofs.lemmas.List.{append-nil}
use Rattle.ckc_base.specs.declared.arithmetic.Mode.{Mode}
use Rattle.ckc_base.specs.declared.arithmetic.Mode.TheVariants.{Checked, Unchecked}
use Rattle.ckc_base.specs.declared.places.Pos.{Pos}
use Rattle.ckc_base.specs.declared.runtime_checks.Check.TheVariants as check
use Rattle.ckc_base.specs.Memory.{kept_part}
use Rattle.ckc_base.specs.Traces.{Stopped, Stuck}
use Rattle.ckc_source.specs.declared.outcome.Halt.{Halt}
use Rattle.ckc_source.specs.declared.outcome.Halt.TheVariants as halt
use Rattle.ckc_source.specs.declared.outcome.Place.{Place}
use Rattle.ckc_source.specs.declared.outcome.Place.TheVariants as place
use Rattle.ckc_source.specs.Code.{Code}
use Rattle.ckc_source.specs.States.{State}
use Rattle.ckc_source.specs.Steps.{refuses, allowed}
use Rattle.ckc_blame_control.proofs.Moved.{stopped}
use Rattle.ckc_blame_given.specs.ckc_blame_pointers.specs.Owed.{Owed, Comes}
use Rattle.ckc_blame_steps.specs.Plans.{HasMore}
use Rattle.ckc_blame_steps.specs.Unchecked.{stores_raw, StoresSafely}

-- a place to write to is refused at a check alone
refused_comes : (m : Mode) (o : Option Pos) (n : ℕ) (to : Place) → Comes m (λ w. refuses o n (Ok to) ≡ Ok w) (refuses o n (Ok to))
refused_comes m None n to = refl
refused_comes m (Some at) n to = by (n == 0)
  where
    by : (b : Bool) → Comes m (λ w. ◌≡◌ {A = Result Place Halt} (if b then Ok to else Err (halt.Stopped check.Terminator at)) (Ok w)) (if b then Ok to else Err (halt.Stopped check.Terminator at))
    by true = refl
    by false = tt

pub allowed_comes : (m : Mode) (to : Place) (n : ℕ) → Comes m (λ w. allowed to n ≡ Ok w) (allowed to n)
allowed_comes m place.Nowhere n = refl
allowed_comes m (place.Local x width) n = refl
allowed_comes m (place.Memory a width zero_alone) n = refused_comes m zero_alone (kept_part width n) (place.Memory a width zero_alone)

-- ---- moves

-- a run that stops is not stuck
pub stops_soundly : (m : Mode) (why : _) (at : _) → Stopped why at ≡ Stuck → Owed m
stops_soundly m why at e = absurd (stopped why at e)

-- whether a step stores through unchecked pointers is seen from its first statement alone
pub safe_as : (m : Mode) (c d : Code) → stores_raw c ≡ stores_raw d → StoresSafely m c → StoresSafely m d
safe_as Checked c d e h = tt
safe_as Unchecked c d e h = sym e ∙ h

-- ---- states with more blocks

pub same_state : (b : State) → HasMore b b
same_state b = record { more = []; blocks = sym (append-nil b.blocks); same = refl }

pub more_on : (b c d : State) → HasMore b c → HasMore c d → HasMore b d
more_on b c d g h = record {
  more = g.more ++ h.more;
  blocks = h.blocks ∙ ap (λ bs. bs ++ h.more) g.blocks ∙ append_assoc b.blocks g.more h.more;
  same = h.same ∙ ap (λ (x : State). record x { blocks = d.blocks; next = d.next }) g.same;
}

pub same_locals : (b c : State) → HasMore b c → c.frame.locals ≡ b.frame.locals
same_locals b c g = ap (λ (x : State). x.frame.locals) g.same
