-- The answer of a run of a meaning that nothing cut short.
use Rattle.std.proofs.Common.{◌≡◌, ◌≢◌, ◌⊎◌, inl, inr, ℕ, ◌≤◌, ◌<◌, true, false, List, [], Option, refl, sym, ap, ◌∙◌, arith}
use Rattle.std.proofs.lemmas.Bool.{cases_lt}
use Rattle.ckc_base.specs.declared.places.Pos.{Pos}
use Rattle.ckc_base.specs.Traces.{Event, Standing, Going, Ended, Stopped, Stuck, Fault, Showing}
use Rattle.ckc_base.proofs.Runs.{shown-later}
use Rattle.ckc_outside.specs.Given.{Streams}
use Rattle.ckc_source.specs.Code.{Program}
use Rattle.ckc_source.specs.Source.{source, source_system, first_state, place_after, unchecked_since}
use Rattle.ckc_interp.specs.declared.seen.Seen.{Seen}
use Rattle.ckc_interp.specs.declared.seen.Seen.TheVariants as seen
use Rattle.ckc_interp.specs.Runs.{Interprets, Comes}
use Rattle.ckc_wrong_bodies.specs.Whole.{is_whole}

module _ (p : Program) (given : List ℕ) where
  abbrev stands : ℕ → Standing
  stands n = (source p given n).standing

  -- the answer of a run that stands so after n steps
  abbrev answer_at : ℕ → Standing → Seen
  answer_at n Going = seen.Going
  answer_at n (Ended value) = seen.Ended value
  answer_at n (Stopped check at) = seen.Stopped check at
  answer_at n Stuck = seen.Stuck (place_after p given n) (unchecked_since p given n)
  answer_at n (Fault kind pc) = seen.Going

  -- The run came to the first number of steps at which the program does not go on, or to the limit.
  pub record Came (limit : ℕ) (answer : Seen) : Type 0 where
    pub steps : ℕ
    pub within : steps ≤ limit
    pub before : (m : ℕ) → m < steps → stands m ≡ Going
    pub last : stands steps ≡ Going → steps ≡ limit
    pub says : answer ≡ answer_at steps (stands steps)

  module _ (limit : ℕ) (old new : Streams) (left : List ℕ) where
    came_to : (answer : Seen) (s : Standing) (n : ℕ) → Comes p given left limit n old new s → (s ≡ Going → n ≡ limit) → answer ≡ answer_at n s → Came limit answer
    came_to answer s n c last says = record {
      steps = n;
      within = c.within;
      before = c.before;
      last = λ e. last (sym c.stands_so ∙ e);
      says = says ∙ sym (ap (answer_at n) c.stands_so);
    }

    pub came : (answer : Seen) → is_whole answer ≡ true → Interprets p limit old new answer given left → Came limit answer
    came (seen.Ended value) w r = came_to (seen.Ended value) (Ended value) r.0 r.1 (λ e. absurd (let z : Ended value ≡ Going = e in cc)) refl
    came (seen.Stopped check at) w r = came_to (seen.Stopped check at) (Stopped check at) r.0 r.1 (λ e. absurd (let z : Stopped check at ≡ Going = e in cc)) refl
    came seen.Going w r = came_to seen.Going Going limit r (λ e. refl) refl
    came (seen.Stuck at since) w r =
        came_to (seen.Stuck at since) Stuck r.0 r.1 (λ e. absurd (let z : Stuck ≡ Going = e in cc))
        (ap (λ x. seen.Stuck x since) r.2 ∙ ap (λ y. seen.Stuck (place_after p given r.0) y) r.3)
    came seen.ReadFault w r = absurd (let z : false ≡ true = w in cc)
    came seen.WriteFault w r = absurd (let z : false ≡ true = w in cc)
    came seen.Memory w r = absurd (let z : false ≡ true = w in cc)

  -- a run does not come further than another
  not_further : (limit : ℕ) (a b : Seen) (x : Came limit a) (y : Came limit b) → x.steps < y.steps → ⊥
  not_further limit a b x y lt =
      let last = x.last (y.before x.steps lt) in
      let within = y.within in
      omega (arith, last, within, lt)

  pub one_answer : (limit : ℕ) (a b : Seen) → Came limit a → Came limit b → a ≡ b
  one_answer limit a b x y = by_order (cases_lt x.steps y.steps) (cases_lt y.steps x.steps)
    where
      by_order : (x.steps < y.steps) ⊎ (y.steps ≤ x.steps) → (y.steps < x.steps) ⊎ (x.steps ≤ y.steps) → a ≡ b
      by_order (inl lt) other = absurd (not_further limit a b x y lt)
      by_order (inr le) (inl lt) = absurd (not_further limit b a y x lt)
      by_order (inr le) (inr ge) =
          let same : x.steps ≡ y.steps = omega (arith, le, ge) in
          x.says ∙ ap (λ n. answer_at n (stands n)) same ∙ sym y.says

  -- what does not go on stays as it is
  stays : (n k : ℕ) → stands n ≢ Going → n ≤ k → stands k ≡ stands n
  stays n k h le =
      let later = shown-later (source_system p) n k 0 [] (first_state p given) le in
      ap (λ (a : Showing Event). a.standing) (later.stays h)

  going_or_not : (s : Standing) → (s ≡ Going) ⊎ (s ≢ Going)
  going_or_not Going = inl refl
  going_or_not (Ended value) = inr (λ e. cc)
  going_or_not (Stopped check at) = inr (λ e. cc)
  going_or_not Stuck = inr (λ e. cc)
  going_or_not (Fault kind pc) = inr (λ e. cc)

  module _ (limit n : ℕ) (within : n ≤ limit) (stuck : stands n ≡ Stuck) (answer : Seen) (x : Came limit answer) where
    not_before : x.steps ≤ n
    not_before = by_order (cases_lt n x.steps)
      where
        by_order : (n < x.steps) ⊎ (x.steps ≤ n) → x.steps ≤ n
        by_order (inl lt) = absurd (let z : Going ≡ Stuck = sym (x.before n lt) ∙ stuck in cc)
        by_order (inr le) = le

    stuck_there : stands x.steps ≡ Stuck
    stuck_there = by_case (going_or_not (stands x.steps))
      where
        by_case : (stands x.steps ≡ Going) ⊎ (stands x.steps ≢ Going) → stands x.steps ≡ Stuck
        by_case (inl going) =
            let last = x.last going in
            let at_limit : x.steps ≡ n = omega (arith, last, within, not_before) in
            ap stands at_limit ∙ stuck
        by_case (inr halted) = sym (stays x.steps n halted not_before) ∙ stuck

    pub told_stuck : (at : Pos) × (since : Option Pos) × (answer ≡ seen.Stuck at since)
    told_stuck = (place_after p given x.steps, unchecked_since p given x.steps, x.says ∙ ap (answer_at x.steps) stuck_there)
