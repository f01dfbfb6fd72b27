-- One step, by what it asks of the outside.
use Rattle.std.proofs.Common.{◌≡◌, inl, inr, ℕ, ◌%◌, ◌^◌, ◌-◌, List, [], ◌∷◌, ◌++◌, Option, Some, None, Result, Ok, Err, refl, sym, ◌∙◌, ap, subst}
use Rattle.ckc_base.specs.declared.places.Pos.{Pos}
use Rattle.ckc_base.specs.Traces.{Event, Got, Put as Puts'}
use Rattle.ckc_source.specs.declared.outcome.Halt.{Halt}
use Rattle.ckc_source.specs.declared.outcome.Halt.TheVariants as halt
use Rattle.ckc_source.specs.declared.outcome.Place.{Place}
use Rattle.ckc_source.specs.Code.{Program}
use Rattle.ckc_source.specs.States.{State, settled}
use Rattle.ckc_source.specs.Steps.{source_step, spot_of, comes_to, halts, gets, writes_allowed}
use Rattle.ckc_interp.specs.declared.seen.Seen.{Seen}
use Rattle.ckc_interp.specs.declared.seen.Seen.TheVariants as seen
use Rattle.ckc_interp.specs.declared.run.Turn.{Turn}
use Rattle.ckc_interp.specs.declared.run.Turn.TheVariants as turn
use Rattle.ckc_outside.specs.Outside.{one_more}
use Rattle.ckc_outside.specs.Given.{taken, Streams, Showed}
use Rattle.ckc_outside.proofs.Giving.{showed_nothing, showed_get, got_nothing}
use Rattle.ckc_interp.specs.Runs.{events_of}
use Rattle.ckc_interp.specs.code.Turns.{asked_next, turn_asks, move_of, noted, seen_of, Wrote, PutsAs, GetsAs, Steps}
use Rattle.ckc_interp.proofs.Feeding.{fed, fed_result, played, works_fed, turn_played, allowed_fed}

-- ---- events

events_halts : (events : List Event) (why : Halt) → events_of (halts events why) ≡ events
events_halts events (halt.Stopped check at) = refl
events_halts events halt.Stuck = refl

events_comes : (events : List Event) (x : Result State Halt) → events_of (comes_to events x) ≡ events
events_comes events (Ok s) = refl
events_comes events (Err why) = events_halts events why

events_gets : (s : State) (to : Place) (left : List ℕ) → (answer : Option ℕ) × (events_of (gets s to left) ≡ Got answer ∷ [])
events_gets s to [] = (None, events_comes (Got None ∷ []) (writes_allowed to (2 ^ 32 - 1) s))
events_gets s to (byte ∷ left) = (Some byte, events_comes (Got (Some byte) ∷ []) (writes_allowed to byte (record s { input = left })))

-- ---- the step

module _ (p : Program) (c : State) (blame blame' : Option Pos) (at : Pos) (at_is : at ≡ (spot_of c).at) (blame_is : blame' ≡ noted blame (spot_of c)) where
  step_is : (u : State) (t : Turn) (left : List ℕ) → asked_next p c (settled c.frame.work) ≡ turn_asks t u → source_step p (fed left c) ≡ move_of t (fed left u)
  unfolding source_step
  step_is u t left asks = works_fed left p c (settled c.frame.work) ∙ ap (played left) asks ∙ turn_played left t u

  pub quiet_steps : (u : State) (out : Streams) (left : List ℕ) → asked_next p c (settled c.frame.work) ≡ turn_asks turn.Quiet u
      → Steps p (fed left c) (fed left u) blame blame' out out None
  quiet_steps u out left asks = (record { events = []; moves = step_is u turn.Quiet left asks; showed = showed_nothing out; took = refl }, blame_is)

  pub ends_steps : (u : State) (out : Streams) (left : List ℕ) (n : ℕ) → asked_next p c (settled c.frame.work) ≡ turn_asks (turn.Ends n) u
      → Steps p (fed left c) (fed left u) blame blame' out out (Some (seen.Ended n))
  ends_steps u out left n asks = record { events = []; moves = step_is u (turn.Ends n) left asks; showed = showed_nothing out; took = refl }

  -- a halt with these events
  halt_steps : (u : State) (old new : Streams) (left left' : List ℕ) (events : List Event) (why : Halt) → source_step p (fed left c) ≡ halts events why
      → Showed old new events → left ≡ taken events ++ left' → Steps p (fed left c) (fed left' u) blame blame' old new (Some (seen_of why at blame'))
  halt_steps u old new left left' events (halt.Stopped check place) e put took = record { events = events; moves = e; showed = put; took = took }
  halt_steps u old new left left' events halt.Stuck e put took = (record { events = events; moves = e; showed = put; took = took }, at_is, blame_is)

  pub halted_steps : (u : State) (out : Streams) (left : List ℕ) (why : Halt) → asked_next p c (settled c.frame.work) ≡ turn_asks (turn.Halted why) u
      → Steps p (fed left c) (fed left u) blame blame' out out (Some (seen_of why at blame'))
  halted_steps u out left why asks = halt_steps u out out left left [] why (step_is u (turn.Halted why) left asks) (showed_nothing out) refl

  -- a value that comes with events is written, or the run halts
  wrote_steps : (u : State) (old new : Streams) (left left' : List ℕ) (events : List Event) (x : Result State Halt) (answer : Option Seen)
      → source_step p (fed left c) ≡ comes_to events (fed_result left' x) → Showed old new events → left ≡ taken events ++ left'
      → Wrote x u at blame' answer → Steps p (fed left c) (fed left' u) blame blame' old new answer
  wrote_steps u old new left left' events x None e put took w =
      (record { events = events; moves = e ∙ ap (λ y. comes_to events (fed_result left' y)) w; showed = put; took = took }, blame_is)
  wrote_steps u old new left left' events x (Some answer) e put took w =
      subst (λ a. Steps p (fed left c) (fed left' u) blame blame' old new (Some a)) (sym w.2)
      (halt_steps u old new left left' events w.0 (e ∙ ap (λ y. comes_to events (fed_result left' y)) w.1) put took)

  pub put_steps : (v u : State) (to : Place) (n : ℕ) (old new : Streams) (left : List ℕ) (answer : Option Seen) → asked_next p c (settled c.frame.work) ≡ turn_asks (turn.Put to n) v
      → PutsAs v to n u at blame' old new answer → Steps p (fed left c) (fed left u) blame blame' old new answer
  put_steps v u to n old new left answer asks (inl (w, put)) =
      wrote_steps u old new left left (Puts' (n % 256) ∷ []) (writes_allowed to (n % 256) v) answer
      (step_is v (turn.Put to n) left asks ∙ ap (comes_to (Puts' (n % 256) ∷ [])) (allowed_fed left to (n % 256) v)) put refl w
  put_steps v u to n old new left answer asks (inr (e, put)) =
      subst (λ a. Steps p (fed left c) (fed left u) blame blame' old new a) (sym e)
      (n % 256, ap events_of (step_is v (turn.Put to n) left asks) ∙ events_comes (Puts' (n % 256) ∷ []) (writes_allowed to (n % 256) (fed left v)), put, refl)

  pub get_steps : (v u : State) (to : Place) (old new : Streams) (left left' : List ℕ) (answer : Option Seen) → asked_next p c (settled c.frame.work) ≡ turn_asks (turn.Get to) v
      → new.written ≡ old.written → new.asks ≡ one_more old.asks → new.puts ≡ old.puts → GetsAs v to u at blame' left left' answer → Steps p (fed left c) (fed left' u) blame blame' old new answer
  get_steps v u to old new left left' answer asks written asked puts (inl (byte, e, w)) =
      wrote_steps u old new left left' (Got (Some byte) ∷ []) (writes_allowed to byte v) answer
      (step_is v (turn.Get to) left asks ∙ ap (gets (fed left v) to) e ∙ ap (comes_to (Got (Some byte) ∷ [])) (allowed_fed left' to byte v)) (showed_get old new written asked puts (Some byte)) e w
  get_steps v u to old new left left' answer asks written asked puts (inr (inl (e, f, w))) =
      wrote_steps u old new left left' (Got None ∷ []) (writes_allowed to (2 ^ 32 - 1) v) answer
      (step_is v (turn.Get to) left asks ∙ ap (gets (fed left v) to) e ∙ ap (comes_to (Got None ∷ [])) (allowed_fed left to (2 ^ 32 - 1) v)
      ∙ ap (λ l. comes_to (Got None ∷ []) (fed_result l (writes_allowed to (2 ^ 32 - 1) v))) (e ∙ sym f)) (showed_get old new written asked puts None) (e ∙ sym f) w
  get_steps v u to old new left left' answer asks written asked puts (inr (inr (e, f))) =
      let g = events_gets (fed left v) to left in
      subst (λ a. Steps p (fed left c) (fed left' u) blame blame' old new a) (sym e)
      ((g.0, ap events_of (step_is v (turn.Get to) left asks) ∙ g.1), got_nothing old new written asked puts, f)
