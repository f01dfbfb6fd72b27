-- Core code runs on: what is seen on the way, the stores that it makes, and how many calls are active.
use Rattle.std.proofs.Common.{◌≡◌, inl, inr, ℕ, zero, suc, ◌+◌, ◌<◌, List, [], ◌++◌, refl, ◌∙◌, ap, arith}
use Rattle.std.specs.Prelude.{All, flat_map}
use Rattle.std.proofs.lemmas.Grind.{flat_map-append}
use Rattle.std.proofs.lemmas.List.Elements.{All-nil, All-append, All-weaker}
use Rattle.ckc_base.specs.Traces.{Event, Standing}
use Rattle.ckc_base.specs.LongEvents.{LongEvent, Stored, plain_events}
use Rattle.ckc_base.specs.Steps.{Goes, Halts, System}
use Rattle.ckc_base.specs.Matching.{Closes}
use Rattle.ckc_base.specs.States.{moved_on, state_after, state_at, Travels}
use Rattle.ckc_base.specs.Simulation.{Keeps}
use Rattle.ckc_base.proofs.Runs.{one_halt, then_closes}
use Rattle.ckc_base.proofs.Travelling.{state-waiting, one_travel, no_travel, then_travels, then_keeps, below_or_from}
use Rattle.ckc_core.specs.Code.{Function}
use Rattle.ckc_core.specs.Meaning.{State, active, extra_steps, core_step, core_system}
use Rattle.ckc_checks_follow.specs.Stores.{IsHeapWord}

-- nothing but the heap word is stored
abbrev pub IsQuiet : LongEvent → Type 0
IsQuiet (Stored at width value) = IsHeapWord at width
IsQuiet event = Unit {0}

-- as many calls are active as at s
abbrev pub IsLevel : State → State → Type 0
IsLevel s t = active t ≡ active s

-- From s core code comes to u in so many steps, in which these events are seen. Each store may be made, and as many
-- calls are active all the way.
pub record Path (functions : List Function) (may : LongEvent → Type 0) (count : ℕ) (seen : List Event) (s u : State) : Type 0 where
  pub events : List LongEvent
  pub travels : Travels (core_system functions) count events s u
  pub shows : flat_map plain_events events ≡ seen
  pub keeps : Keeps (core_system functions) may (IsLevel s) count events s
  pub level : IsLevel s u

-- the same, up to a halt
pub record PathEnds (functions : List Function) (may : LongEvent → Type 0) (count : ℕ) (seen : List Event) (s : State) (how : Standing) : Type 0 where
  pub events : List LongEvent
  pub closes : Closes (core_system functions) count events s how
  pub shows : flat_map plain_events events ≡ seen
  pub allowed : All may events
  pub level : (j : ℕ) → IsLevel s (state_at (core_system functions) s j)

-- nothing is seen or stored on the way, but the heap word
abbrev pub Quiet : List Function → (count : ℕ) → State → State → Type 0
Quiet functions count s u = Path functions IsQuiet count [] s u

abbrev pub QuietEnds : List Function → (count : ℕ) → State → Standing → Type 0
QuietEnds functions count s how = PathEnds functions IsQuiet count [] s how

-- a system that halts stays
halted : {E S : Type 0} (m : System E S) (n wait : ℕ) (s : S) (events : List E) (how : Standing) → m.step s ≡ Halts events how → state_after m n wait s ≡ s
unfolding state_after
halted m zero wait s events how e = refl
halted m (suc n) zero s events how e = ap (moved_on (λ next. state_after m n (m.weight next) next) s) e
halted m (suc n) (suc wait) s events how e = halted m n wait s events how e

module _ (functions : List Function) where
  abbrev machine : System LongEvent State
  machine = core_system functions

  seen_both : (es fs : List LongEvent) (xs ys : List Event) → flat_map plain_events es ≡ xs → flat_map plain_events fs ≡ ys → flat_map plain_events (es ++ fs) ≡ xs ++ ys
  seen_both es fs xs ys p q =
      flat_map-append plain_events es fs ∙ ap (λ l. l ++ flat_map plain_events fs) p ∙ ap (λ l. xs ++ l) q

  module _ (may : LongEvent → Type 0) where
    pub no_path : (s : State) → Path functions may 0 [] s s
    no_path s = record {
      events = [];
      travels = no_travel machine s;
      shows = refl;
      keeps = record { allowed = All-nil may; beside = λ j h. absurd (omega arith) };
      level = refl;
    }

    -- while a step is counted its state stays
    pub stays : (s : State) (j : ℕ) → j < extra_steps s.frame.code + 1 → IsLevel s (state_at machine s j)
    stays s j h = ap active (state-waiting machine j (extra_steps s.frame.code) s (omega arith))

    pub path_by : (events : List LongEvent) (s u : State) → core_step functions s ≡ Goes events u → All may events → IsLevel s u
        → Path functions may (extra_steps s.frame.code + 1) (flat_map plain_events events) s u
    path_by events s u e allowed level = record {
      events = events;
      travels = one_travel machine events s u e;
      shows = refl;
      keeps = record { allowed = allowed; beside = stays s };
      level = level;
    }

    pub ends_by : (s : State) (how : Standing) → core_step functions s ≡ Halts [] how → PathEnds functions may (extra_steps s.frame.code + 1) [] s how
    ends_by s how e = record {
      events = [];
      closes = one_halt machine [] s how e;
      shows = refl;
      allowed = All-nil may;
      level = λ j. ap active (halted machine j (extra_steps s.frame.code) s [] how e);
    }

    -- what is kept after a path is kept from its start
    pub keeps_behind : (c d : ℕ) (xs : List Event) (fs : List LongEvent) (s u : State) (p : Path functions may c xs s u) → Keeps machine may (IsLevel u) d fs u
        → Keeps machine may (IsLevel s) (c + d) (p.events ++ fs) s
    keeps_behind c d xs fs s u p q =
        then_keeps machine may (IsLevel s) c d p.events fs s u p.travels p.keeps
        (record { allowed = q.allowed; beside = λ j h. q.beside j h ∙ p.level })

    pub then_path : (c d : ℕ) (xs ys : List Event) (s u v : State) → Path functions may c xs s u → Path functions may d ys u v → Path functions may (c + d) (xs ++ ys) s v
    then_path c d xs ys s u v p q = record {
      events = p.events ++ q.events;
      travels = then_travels machine c d p.events q.events s u v p.travels q.travels;
      shows = seen_both p.events q.events xs ys p.shows q.shows;
      keeps = keeps_behind c d xs q.events s u p q.keeps;
      level = q.level ∙ p.level;
    }

    pub then_ends : (c d : ℕ) (xs ys : List Event) (s u : State) (how : Standing) → Path functions may c xs s u → PathEnds functions may d ys u how → PathEnds functions may (c + d) (xs ++ ys) s how
    then_ends c d xs ys s u how p q = record {
      events = p.events ++ q.events;
      closes = then_closes machine c d p.events q.events s u how p.travels.stretch q.closes;
      shows = seen_both p.events q.events xs ys p.shows q.shows;
      allowed = All-append may p.events q.events p.keeps.allowed q.allowed;
      level = λ j. elim (below_or_from j c) [
        | inl less ↦ p.keeps.beside j less
        | inr r ↦
            ap active (ap (state_at machine s) r.1 ∙ p.travels.states r.0) ∙ q.level r.0 ∙ p.level
      ];
    }

    -- more may be stored
    module _ (most : LongEvent → Type 0) (more : (e : LongEvent) → may e → most e) where
      pub looser : (c : ℕ) (xs : List Event) (s u : State) → Path functions may c xs s u → Path functions most c xs s u
      looser c xs s u p = record {
        events = p.events;
        travels = p.travels;
        shows = p.shows;
        keeps = record { allowed = All-weaker may most more p.events p.keeps.allowed; beside = p.keeps.beside };
        level = p.level;
      }

      pub looser_ends : (c : ℕ) (xs : List Event) (s : State) (how : Standing) → PathEnds functions may c xs s how → PathEnds functions most c xs s how
      looser_ends c xs s how p = record {
        events = p.events;
        closes = p.closes;
        shows = p.shows;
        allowed = All-weaker may most more p.events p.allowed;
        level = p.level;
      }

  -- ---- quiet ones

  pub no_quiet : (s : State) → Quiet functions 0 s s
  no_quiet s = no_path IsQuiet s

  pub quiet_by : (s u : State) → core_step functions s ≡ Goes [] u → IsLevel s u → Quiet functions (extra_steps s.frame.code + 1) s u
  quiet_by s u e level = path_by IsQuiet [] s u e (All-nil IsQuiet) level

  pub then_quiet : (c d : ℕ) (s u v : State) → Quiet functions c s u → Quiet functions d u v → Quiet functions (c + d) s v
  then_quiet c d s u v p q = then_path IsQuiet c d [] [] s u v p q

  pub then_quiet_ends : (c d : ℕ) (s u : State) (how : Standing) → Quiet functions c s u → QuietEnds functions d u how → QuietEnds functions (c + d) s how
  then_quiet_ends c d s u how p q = then_ends IsQuiet c d [] [] s u how p q
