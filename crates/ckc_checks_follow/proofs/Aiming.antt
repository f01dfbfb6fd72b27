-- Where a target is, is found before the value that goes to it.
use Rattle.std.proofs.Common.{◌≡◌, ℕ, ◌^◌, ◌+◌, ◌≤◌, ◌<◌, List, refl, ◌∙◌, arith}
use Rattle.std.specs.Prelude.{Bool, true, false, if◌then◌else◌, Option, Some, Ok, Err}
use Rattle.ckc_base.specs.declared.places.Pos.{Pos}
use Rattle.ckc_base.specs.Actions.{World}
use Rattle.ckc_base.specs.Activations.{Values}
use Rattle.ckc_source.specs.declared.outcome.Range.{Range}
use Rattle.ckc_source.specs.declared.outcome.Halt.TheVariants.{Stuck}
use Rattle.ckc_source.specs.declared.outcome.Place.{Place}
use Rattle.ckc_source.specs.declared.outcome.Place.TheVariants as place
use Rattle.ckc_source.specs.Code as source
use Rattle.ckc_source.specs.Blocks.{lies_in}
use Rattle.ckc_source.specs.Eval.{Store, place_in}
use Rattle.ckc_source.specs.Steps.{terminator_at, aims_at, aimed}
use Rattle.ckc_core.specs.Code.{Code, Function}
use Rattle.ckc_core.specs.Meaning.{Rest, Caller, value_of}
use Rattle.ckc_checks_operands.specs.Compilable.{IsCompilableTarget}
use Rattle.ckc_checks_follow.specs.code.Inserted.{marked, reached_place, aim_code, target_count}
use Rattle.ckc_checks_follow.proofs.Paths.{no_quiet}
use Rattle.ckc_checks_follow.proofs.Running.{at}
use Rattle.ckc_checks_follow.proofs.Values.{Agree, Sees}
use Rattle.ckc_checks_follow.proofs.Coming.{Below, Comes}
use Rattle.ckc_checks_follow.proofs.Exprs.{reach_ended}
use Rattle.ckc_checks_follow.proofs.Counts.{found_steps}
use Rattle.ckc_checks_follow.proofs.Guarding.{mark_steps, IsMarked, marked_later, Marks, mark_comes}

-- in how many steps the place of a target is found
abbrev pub aim_steps : source.Target → ℕ → ℕ
aim_steps (source.Memory width access p i) t = found_steps access p i t + mark_steps access.through p t
aim_steps target t = 0

module _ (functions : List Function) (callers : List Caller) (world : World) where
  -- The target is at this place, as long as the locals up to t + 1 stay. After its element it is marked.
  abbrev pub IsAt : source.Target → ℕ → Values → Place → Type 0
  IsAt source.Nothing t l to = to ≡ place.Nowhere
  IsAt (source.Variable x width) t l to = to ≡ place.Local x width
  IsAt (source.Memory width access p i) t l to =
      (a : ℕ) × (zero_alone : Option Pos) × (to ≡ place.Memory a width zero_alone) × (a < 2 ^ 32) × IsMarked access.through access.at t l zero_alone
      × ((later : Values) → Below (t + 2) later l → value_of later world.memory (reached_place access p i t) ≡ Some a)

  abbrev pub Aimed : source.Target → ℕ → Values → Place → Values → Type 0
  Aimed target t before to l = Below t l before × IsAt target t l to

  module _ (n : ℕ) (s : Store) (sees : Sees n s world.memory) where
    pub aim_comes : (target : source.Target) (t : ℕ) (more : Code) (rest : Rest) (l : Values) → n ≤ t → IsCompilableTarget n target → Agree n s.locals l
        → Comes functions callers world 0 (aim_steps target t) (at callers world (aim_code target t more) rest l) (aimed s target) more rest (Aimed target t l)
    aim_comes source.Nothing t more rest l le h agree =
        (0, at callers world more rest l, omega arith, omega arith, no_quiet functions (at callers world more rest l), (l, refl, ((λ x less. refl), refl)))
    aim_comes (source.Variable x width) t more rest l le h agree =
        (0, at callers world more rest l, omega arith, omega arith, no_quiet functions (at callers world more rest l), (l, refl, ((λ x less. refl), refl)))
    aim_comes (source.Memory width access p i) t more rest l le h agree =
        let last = marked access.through p t more in
        let pointer = h.1 in
        let index = h.2 in
        reach_ended functions callers world n s sees access p i t 0 (mark_steps access.through p t) (aim_steps (source.Memory width access p i) t) last more rest l (λ v a. aims_at s width access v.range a)
        (Aimed (source.Memory width access p i) t l) le h.0 pointer.0 index.0 agree (omega arith)
        (λ x q l3 r end.
        by x.range q l3 (mark_comes functions callers world n s sees access.through access p i t more rest l l3 x.range q r end) (lies_in width (place_in q access.offset) s.blocks))
      where
        by : (range : Range) (q : ℕ) (l3 : Values) → Marks functions callers world n s sees access.through access p i t more rest l l3 range q → (here : Bool)
            → Comes functions callers world 0 (mark_steps access.through p t) (at callers world (marked access.through p t more) rest l3)
            (if here then Ok (place.Memory (place_in q access.offset) width (terminator_at access.through range q access.at)) else Err Stuck) more rest (Aimed (source.Memory width access p i) t l)
        by range q l3 m true = (
          m.0,
          at callers world more rest m.1,
          omega arith,
          m.2,
          m.3,
          (m.1, refl, (m.4, (place_in q access.offset, terminator_at access.through range q access.at, refl, omega arith, m.5, m.6))),
        )
        by range q l3 m false = tt

  -- the target is at its place later too
  pub at_later : (target : source.Target) (t : ℕ) (before l : Values) (to : Place) → IsAt target t before to → Below (t + target_count target) l before → IsAt target t l to
  at_later source.Nothing t before l to is below = is
  at_later (source.Variable x width) t before l to is below = is
  at_later (source.Memory width access p i) t before l to is below =
      (is.0, is.1, is.2, is.3, marked_later access.through access.at t before l is.1 is.4 (below (t + 1) (omega arith)), λ later same. is.5 later (λ z less. same z less ∙ below z (omega arith)))
