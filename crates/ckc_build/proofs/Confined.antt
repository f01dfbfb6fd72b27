-- Stores stay inside, if what is planned lies in blocks.
use Rattle.std.proofs.Common.{◌≡◌, ◌⊎◌, inl, inr, refl, sym, subst, ℕ, List, [], ◌∷◌}
use Rattle.std.specs.Prelude.{IsTrue, Result, Ok, Err}
use Rattle.std.proofs.lemmas.List.Elements.{All-head, All-tail, All-weaker}
use Rattle.ckc_base.specs.declared.arithmetic.Width.{Width}
use Rattle.ckc_base.specs.Lists.{AreBytes}
use Rattle.ckc_base.specs.LongEvents.{Stored}
use Rattle.ckc_base.specs.States.{state_at}
use Rattle.ckc_build_compile.specs.Confined.{Confines, MayWrite}
use Rattle.ckc_checks_follow.specs.Stores.{plans, IsOf, IsAmong, IsPlanned, IsHeapWord, MayDo}
use Rattle.ckc_rv.specs.Detailed.{MachineEvent, Outside, Wrote}
use Rattle.ckc_rv.specs.Machine.{Parts}
use Rattle.ckc_source.specs.declared.outcome.Halt.{Halt}
use Rattle.ckc_source.specs.declared.outcome.Place.{Place}
use Rattle.ckc_source.specs.declared.outcome.Place.TheVariants as place
use Rattle.ckc_source.specs.Blocks.{Block, lies_in}
use Rattle.ckc_source.specs.Code.{Program}
use Rattle.ckc_source.specs.Source.{source_system, first_state}
use Rattle.ckc_source.specs.States.{State, settled}
use Rattle.ckc_source.specs.Steps.{Write}
use Rattle.ckc_build_wellformed.specs.ckc_blame_steps.specs.Stores.{LiesThere, LieThere, PlansLieAt, PlansLie}
use Rattle.ckc_build.specs.Confined.{StaysInside, StoresStayInside}

of_lies : (blocks : List Block) (to : Place) (n at : ℕ) (width : Width) (value : ℕ) → LiesThere blocks to → IsOf to n at width value → IsTrue (lies_in width at blocks)
of_lies blocks (place.Memory a wide zero_alone) n at width value lies is =
    subst (λ x. IsTrue (lies_in x at blocks)) (sym is.1) (subst (λ x. IsTrue (lies_in wide x blocks)) (sym is.0) lies)
of_lies blocks (place.Local k wide) n at width value lies is = absurd is
of_lies blocks place.Nowhere n at width value lies is = absurd is

among_lies : (blocks : List Block) (ws : List Write) (at : ℕ) (width : Width) (value : ℕ) → LieThere blocks ws → IsAmong ws at width value → IsTrue (lies_in width at blocks)
among_lies blocks [] at width value all is = absurd is
among_lies blocks (w ∷ ws) at width value all (inl is) = of_lies blocks w.0 w.1 at width value (All-head (λ (x : Write). LiesThere blocks x.0) w ws all) is
among_lies blocks (w ∷ ws) at width value all (inr is) = among_lies blocks ws at width value (All-tail (λ (x : Write). LiesThere blocks x.0) w ws all) is

module _ (p : Program) (s : State) (lie : PlansLieAt p s) where
  planned_lies : (at : ℕ) (width : Width) (value : ℕ) → IsPlanned (plans p s (settled s.frame.work)) at width value → IsTrue (lies_in width at s.blocks)
  planned_lies at width value = by (plans p s (settled s.frame.work)) refl
    where
      by : (r : Result (List Write) Halt) → plans p s (settled s.frame.work) ≡ r → IsPlanned r at width value → IsTrue (lies_in width at s.blocks)
      by (Ok ws) is h = among_lies s.blocks ws at width value (lie ws is) h
      by (Err halt) is h = absurd h

  stays : (e : MachineEvent) → MayWrite p s e → StaysInside s e
  stays (Outside event) h = tt
  stays (Wrote at count value) (inl h) = inl (h.0, h.1, may h.2)
    where
      may : MayDo p s (Stored at h.0 value) → IsHeapWord at h.0 ⊎ IsTrue (lies_in h.0 at s.blocks)
      may (inl heap) = inl heap
      may (inr (inl lies)) = inr lies
      may (inr (inr planned)) = inr (planned_lies at h.0 value planned)
  stays (Wrote at count value) (inr frame) = inr frame

-- so the stores of a machine that are listed beside a program stay inside
pub stores_stay : (p : Program) (parts : Parts) (input : List ℕ) → AreBytes input → PlansLie p → Confines p parts input → StoresStayInside p parts input
stores_stay p parts input bytes lie confines k =
    let l = confines k in
    record {
      at = l.at;
      never_falls = l.never_falls;
      stands = l.stands;
      allowed = λ i less new is.
          All-weaker (MayWrite p (state_at (source_system p) (first_state p input) (l.at i))) (StaysInside (state_at (source_system p) (first_state p input) (l.at i)))
          (λ e h. stays p (state_at (source_system p) (first_state p input) (l.at i)) (lie input (l.at i) bytes) e h) new (l.allowed i less new is);
    }
