-- Steps that read or put a byte keep states sound.
use Rattle.std.proofs.Common.{◌≡◌, sym, ap, subst, ℕ, List, []}
use Rattle.std.specs.Prelude.{◌<◌, ◌^◌, if◌then◌else◌, Result, Ok, Err}
use Rattle.ckc_base.specs.declared.arithmetic.Mode.{Mode}
use Rattle.ckc_base.specs.Traces.{Event}
use Rattle.ckc_typed.specs.declared.typed.Typed.{Typed}
use Rattle.ckc_typed.specs.Trees.{NotedExpr}
use Rattle.ckc_blame_sound.specs.ckc_bounds_views.specs.Parts.{fresh_behind}
use Rattle.ckc_blame_sound.specs.ckc_bounds_views.specs.Views.{view}
use Rattle.ckc_blame_sound.specs.ckc_bounds_statements.specs.Paths.{Here, value_judged}
use Rattle.ckc_source.specs.declared.outcome.Halt.{Halt}
use Rattle.ckc_source.specs.declared.outcome.Halt.TheVariants as halt
use Rattle.ckc_source.specs.declared.outcome.Place.{Place}
use Rattle.ckc_source.specs.Code.{Target, Code, End}
use Rattle.ckc_source.specs.States.{Work, State}
use Rattle.ckc_source.specs.Steps.{store_of, aimed, comes_to, and_moves, at_work, writes_allowed}
use Rattle.ckc_build_elaborate.specs.Shapes.{shapes_elaborated}
use Rattle.ckc_build_elaborate.specs.Steps.{spot, nowhere}
use Rattle.ckc_blame_sound.specs.Calls.{store_in}
use Rattle.ckc_blame_sound.specs.Settings.{Setting}
use Rattle.ckc_blame_sound.specs.Sound.{Sound}
use Rattle.ckc_blame_sound.proofs.Kept.{point_kept}
use Rattle.ckc_blame_sound.proofs.Statements.{made_of, pair_same}
use Rattle.ckc_blame_control.specs.Ready.{Faces}
use Rattle.ckc_blame_control.proofs.Moved.{sound_at}
use Rattle.ckc_blame_given.specs.ckc_blame_pointers.specs.Owed.{Comes}
use Rattle.ckc_blame_given.proofs.Points.{same_point}
use Rattle.ckc_blame_steps.proofs.Bytes.{IsByteStep, byte_call}
use Rattle.ckc_blame_steps.proofs.Comes.{stops_soundly}
use Rattle.ckc_blame_steps.proofs.Origins.{IsCallAlone}
use Rattle.ckc_blame_steps.specs.Unchecked.{MovesSoundly}

-- ---- moves

-- whatever word a place is to get, the state then is sound, or the run stops
abbrev pub Lands : Mode → Typed → State → Result Place Halt → Type 0
Lands m p b r = Comes m (λ to. (n : ℕ) → n < 2 ^ 32 → MovesSoundly m p (comes_to [] (writes_allowed to n b))) r

any_events : (m : Mode) (p : Typed) (events : List Event) (r : Result State Halt) → MovesSoundly m p (comes_to [] r) → MovesSoundly m p (comes_to events r)
any_events m p events (Ok s) h = h
any_events m p events (Err (halt.Stopped why at)) h = h
any_events m p events (Err halt.Stuck) h = h

pub landed : (m : Mode) (p : Typed) (b : State) (events : List Event) (n : ℕ) → n < 2 ^ 32 → (r : Result Place Halt) → Lands m p b r
    → MovesSoundly m p (and_moves r (λ to. comes_to events (writes_allowed to n b)))
landed m p b events n small (Ok to) h = any_events m p events (writes_allowed to n b) (h n small)
landed m p b events n small (Err (halt.Stopped why at)) h = stops_soundly m why at
landed m p b events n small (Err halt.Stuck) h = λ e. h

-- ---- a call alone

-- A value that is a statement leads to the point where it stands.
value_leads : (s : Setting) (e a : NotedExpr) (here there : Here) → value_judged s.frame e here ≡ Ok (a, there) → (there.at ≡ here.at) × (there.seen ≡ here.seen)
unfolding value_judged
value_leads s e a here there h =
    let m = made_of (if here.counting then Ok e else (view s.frame e).judged here.next here.at) (λ g. Ok (g, record here { next = fresh_behind (view s.frame e) here.next here.at })) (a, there) h in
    let p = pair_same m.0 a (record here { next = fresh_behind (view s.frame e) here.next here.at }) there m.2 in
    (ap (λ (x : Here). x.at) (sym p.1), ap (λ (x : Here). x.seen) (sym p.1))

module _ (p : Typed) (st : State) (h : Sound p st) (step : Code → Code) (next : List Work) (f : Faces h.setting (store_in p st.blocks st.frame) st.frame.entry step next)
    (c : IsCallAlone h.setting f.here f.exits.ends step f.judged) where
  abbrev s : Setting
  s = h.setting

  leads : (f.judged.behind.at ≡ f.here.at) × (f.judged.behind.seen ≡ f.here.seen)
  leads = value_leads s c.call c.made f.here f.judged.behind c.judged

  alone_sound : Sound p (at_work st next)
  alone_sound =
      sound_at p st h next (record {
        exits = f.exits;
        work = f.work;
        holds = point_kept s (store_in p st.blocks st.frame) st.frame.entry f.judged.behind f.exits.ends f.judged.goes
            (same_point s (store_in p st.blocks st.frame) st.frame.entry f.here f.judged.behind f.holds leads.0 leads.1);
      })

  pub call_lands : (m : Mode) (target : Target) → IsByteStep (step End) target → Lands m p (at_work st next) (aimed (store_of (shapes_elaborated p.layout) (at_work st next)) target)
  call_lands m target byte =
      let call = byte_call s (spot c.made.pos f.judged.after.note.mode) nowhere f.judged.literals target c.made (subst (λ (x : Code). IsByteStep x target) (sym c.goes) byte) in
      subst (λ (t : Target). Lands m p (at_work st next) (aimed (store_of (shapes_elaborated p.layout) (at_work st next)) t)) (sym call.target_is) (λ n small. alone_sound)
