-- What assignments are going to write to memory lies in a block of the state before them.
use Rattle.std.proofs.Common.{◌≡◌, inl, inr, refl, sym, ap, subst, ◌∙◌, ℕ, ◌==◌, ◌%◌, List, [], ◌∷◌, ◌++◌, append_assoc}
use Rattle.std.specs.Prelude.{◌≢◌, ◌&&◌, ◌||◌, Bool, true, false, if◌then◌else◌, None, Some, Result, Ok, Err}
use Rattle.std.specs.List.{AllByRecursion, list_any}
use Rattle.std.proofs.lemmas.List.{append-nil}
use Rattle.std.proofs.lemmas.List.Elements.{All-nil, All-cons}
use Rattle.std.proofs.lemmas.List.Folds.{list_any-append}
use Rattle.ckc_base.specs.declared.arithmetic.Width.{Width}
use Rattle.ckc_base.specs.declared.runtime_checks.Check.TheVariants as check
use Rattle.ckc_base.specs.Memory.{kept_part}
use Rattle.ckc_source.specs.declared.expr.Access.{Access}
use Rattle.ckc_source.specs.declared.outcome.Halt.{Halt}
use Rattle.ckc_source.specs.declared.outcome.Halt.TheVariants as halt
use Rattle.ckc_source.specs.declared.outcome.Place.{Place}
use Rattle.ckc_source.specs.declared.outcome.Place.TheVariants as place
use Rattle.ckc_source.specs.declared.outcome.Range.{Range}
use Rattle.ckc_source.specs.declared.outcome.Value.{Value as Given}
use Rattle.ckc_source.specs.declared.program.Shape.{Shape}
use Rattle.ckc_source.specs.Blocks.{Block, has, is_aligned, lies_in}
use Rattle.ckc_source.specs.Code.{Target, Nothing, Variable, Memory, Right, End, Assign, Bundle, Get, Put, Call, If, Loop, Break, Continue, Return, Check, Program}
use Rattle.ckc_source.specs.Eval.{Store, given, stops, place_in, element, evaluated}
use Rattle.ckc_source.specs.States.{Work, Rest, Turn, State}
use Rattle.ckc_source.specs.Steps.{Write, store_of, terminator_at, aims_at, aimed, allowed, Drawn, drawn, Planned, and_then_written, planned, at_work}
use Rattle.ckc_checks_follow.specs.Stores.{next_byte, plans}
use Rattle.ckc_blame_sound.proofs.Claims.{given_is, both_are}
use Rattle.ckc_blame_sound.specs.Limited.{store_with}
use Rattle.ckc_blame_given.proofs.Plans.{planned_grown}
use Rattle.ckc_blame_steps.specs.Stores.{LiesThere, LieThere}
use Rattle.ckc_blame_steps.proofs.MoreBlocks.{IsSameUnlessStuck, given_later, both_later, same, evaluated_later}

-- ---- a target

ok_same : {A : Type 0} (x y : A) → ◌≡◌ {A = Result A Halt} (Ok x) (Ok y) → x ≡ y
ok_same x y e = cc

module _ (s : Store) (width : Width) (access : Access) (range : Range) (a : ℕ) where
  abbrev at : ℕ
  at = place_in a access.offset

  abbrev to : Place
  to = place.Memory at width (terminator_at access.through range a access.at)

  aims_lies : (w : Place) → aims_at s width access range a ≡ Ok w → LiesThere s.blocks w
  aims_lies w e = by (lies_in width at s.blocks) refl e
    where
      by : (b : Bool) → lies_in width at s.blocks ≡ b → (if b then Ok to else Err halt.Stuck) ≡ Ok w → LiesThere s.blocks w
      by true is e = subst (LiesThere s.blocks) (ok_same to w e) is
      by false is e = absurd cc

-- where something is going to be written in memory lies in a block
pub aimed_lies : (s : Store) (t : Target) (w : Place) → aimed s t ≡ Ok w → LiesThere s.blocks w
aimed_lies s Nothing w e = subst (LiesThere s.blocks) (ok_same place.Nowhere w e) tt
aimed_lies s (Variable x width) w e = subst (LiesThere s.blocks) (ok_same (place.Local x width) w e) tt
aimed_lies s (Memory width access p i) w e =
    let both = both_are (evaluated s p) (evaluated s i) (λ (v : Given) (k : Given). given (element access v k.number) (aims_at s width access v.range)) w e in
    let there = given_is (element access both.0 both.1.number) (aims_at s width access both.0.range) w both.4 in
    aims_lies s width access both.0.range there.0 w there.2

-- a value that may be written goes to that place
allowed_same : (to w : Place) (n : ℕ) → allowed to n ≡ Ok w → to ≡ w
allowed_same place.Nowhere w n e = ok_same place.Nowhere w e
allowed_same (place.Local x width) w n e = ok_same (place.Local x width) w e
allowed_same (place.Memory a width None) w n e = ok_same (place.Memory a width None) w e
allowed_same (place.Memory a width (Some at)) w n e = by (kept_part width n == 0) e
  where
    by : (b : Bool) → (if b then Ok (place.Memory a width (Some at)) else stops check.Terminator at) ≡ Ok w → place.Memory a width (Some at) ≡ w
    by true e = ok_same (place.Memory a width (Some at)) w e
    by false e = absurd cc

-- ---- a target after blocks are made

module _ (shapes : List Shape) (locals : List ℕ) (bs more : List Block) where
  abbrev before : Store
  before = store_with shapes bs locals

  abbrev after : Store
  after = store_with shapes (bs ++ more) locals

  lies_later : (width : Width) (a : ℕ) → lies_in width a bs ≡ true → lies_in width a (bs ++ more) ≡ true
  lies_later width a e = by (is_aligned width a) (list_any (has width a) bs) (list_any (has width a) more) (list_any (has width a) (bs ++ more)) (list_any-append (has width a) bs more) e
    where
      by : (even one two all : Bool) → all ≡ (one || two) → (even && one) ≡ true → (even && all) ≡ true
      by true true two all e h = e
      by true false two all e h = absurd cc
      by false one two all e h = h

  aims_later : (width : Width) (access : Access) (range : Range) (a : ℕ) → IsSameUnlessStuck (aims_at before width access range a) (aims_at after width access range a)
  aims_later width access range a =
      by (place.Memory (place_in a access.offset) width (terminator_at access.through range a access.at))
      (lies_in width (place_in a access.offset) bs) (lies_in width (place_in a access.offset) (bs ++ more)) (lies_later width (place_in a access.offset))
    where
      by : (w : Place) (b c : Bool) → (b ≡ true → c ≡ true) → IsSameUnlessStuck (if b then Ok w else Err halt.Stuck) (if c then Ok w else Err halt.Stuck)
      by w false c h = inl refl
      by w true c h = subst (λ z. IsSameUnlessStuck (Ok w) (if z then Ok w else Err halt.Stuck)) (sym (h refl)) (same (Ok w))

  pub aimed_later : (t : Target) → IsSameUnlessStuck (aimed before t) (aimed after t)
  aimed_later Nothing = inr refl
  aimed_later (Variable x width) = inr refl
  aimed_later (Memory width access p i) =
      both_later (evaluated before p) (evaluated after p) (evaluated before i) (evaluated after i)
      (λ v k. given (element access v k.number) (aims_at before width access v.range)) (λ v k. given (element access v k.number) (aims_at after width access v.range))
      (evaluated_later shapes locals bs more p) (evaluated_later shapes locals bs more i)
      (λ v k. given_later (element access v k.number) (element access v k.number) (aims_at before width access v.range) (aims_at after width access v.range) (same (element access v k.number))
      (aims_later width access v.range))

  -- what is aimed at then lies in the blocks that there were, unless it is stuck without the others
  aimed_before : (t : Target) (w : Place) → aimed before t ≢ Err halt.Stuck → aimed after t ≡ Ok w → LiesThere bs w
  aimed_before t w h e = elim (aimed_later t) [
    | inl stuck ↦ absurd (h stuck)
    | inr is ↦ aimed_lies before t w (sym is ∙ e)
  ]

-- ---- assignments

-- no target of some assignments is stuck
abbrev pub AreUnstuck : List Shape → State → List (Target × Right) → Type 0
AreUnstuck shapes s assigns = AllByRecursion (λ (a : Target × Right). aimed (store_of shapes s) a.0 ≢ Err halt.Stuck) assigns

drawn_more : (shapes : List Shape) (s : State) (r : Right) (d : Drawn) → drawn shapes s r ≡ Ok d → (more : List Block) × (d.state.blocks ≡ s.blocks ++ more) × (d.state.frame.locals ≡ s.frame.locals)
drawn_more shapes s r d e =
    let g = planned_grown shapes ((Nothing, r) ∷ []) s (record { writes = (place.Nowhere, d.number) ∷ []; state = d.state })
    (ap (λ (x : Result Drawn Halt). given x (λ (d : Drawn). Ok (record { writes = (place.Nowhere, d.number) ∷ []; state = d.state }))) e) in
    (g.more, g.blocks, ap (λ (x : State). x.frame.locals) g.same)

module _ (shapes : List Shape) (s : State) where
  module _ (t : State) (more : List Block) (blocks : t.blocks ≡ s.blocks ++ more) (locals : t.frame.locals ≡ s.frame.locals) where
    target_lies : (target : Target) (w : Place) → aimed (store_of shapes s) target ≢ Err halt.Stuck → aimed (store_of shapes t) target ≡ Ok w → LiesThere s.blocks w
    target_lies target w h e =
        aimed_before shapes s.frame.locals s.blocks more target w h
        (subst (λ ls. aimed (store_with shapes (s.blocks ++ more) ls) target ≡ Ok w) locals (subst (λ bs. aimed (store_with shapes bs t.frame.locals) target ≡ Ok w) blocks e))

  -- one more write in front
  one_more_lies : (to w : Place) (n : ℕ) (q p : Planned) → ◌≡◌ {A = Result Planned Halt} (Ok (and_then_written w n q)) (Ok p) → allowed to n ≡ Ok w → LiesThere s.blocks to → LieThere s.blocks q.writes
      → LieThere s.blocks p.writes
  one_more_lies to w n q p e is there h =
      let last : and_then_written w n q ≡ p = ok_same (and_then_written w n q) p e in
      subst (λ (x : Planned). LieThere s.blocks x.writes) last
      (All-cons (λ (w : Write). LiesThere s.blocks w.0) (w, n) q.writes (subst (LiesThere s.blocks) (allowed_same to w n is) there) h)

  pub planned_lie : (assigns : List (Target × Right)) (t : State) (more : List Block) → t.blocks ≡ s.blocks ++ more → t.frame.locals ≡ s.frame.locals → AreUnstuck shapes s assigns
      → (p : Planned) → planned shapes t assigns ≡ Ok p → LieThere s.blocks p.writes
  planned_lie [] t more blocks locals h p e =
      let none : record { writes = []; state = t } ≡ p = ok_same (record { writes = []; state = t }) p e in
      subst (λ (x : Planned). LieThere s.blocks x.writes) none (All-nil (λ (w : Write). LiesThere s.blocks w.0))
  planned_lie (a ∷ rest) t more blocks locals h p e =
      let to = given_is (aimed (store_of shapes t) a.0) (λ (to : Place). given (drawn shapes t a.1) (λ (d : Drawn). given (allowed to d.number) (λ (to : Place).
      given (planned shapes d.state rest) (λ (p : Planned). Ok (and_then_written to d.number p))))) p e in
      let d = given_is (drawn shapes t a.1) (λ (d : Drawn). given (allowed to.0 d.number) (λ (to : Place).
      given (planned shapes d.state rest) (λ (p : Planned). Ok (and_then_written to d.number p)))) p to.2 in
      let may = given_is (allowed to.0 d.0.number) (λ (to : Place). given (planned shapes d.0.state rest) (λ (p : Planned). Ok (and_then_written to d.0.number p))) p d.2 in
      let q = given_is (planned shapes d.0.state rest) (λ (p : Planned). Ok (and_then_written may.0 d.0.number p)) p may.2 in
      let grown = drawn_more shapes t a.1 d.0 d.1 in
      one_more_lies to.0 may.0 d.0.number q.0 p q.2 may.1 (target_lies t more blocks locals a.0 to.0 h.0 to.1)
      (planned_lie rest d.0.state (more ++ grown.0) (grown.1 ∙ ap (λ bs. bs ++ grown.0) blocks ∙ append_assoc s.blocks more grown.0) (grown.2 ∙ locals) h.1 q.0 q.1)

-- the first target is not stuck, if something is planned
first_unstuck : (shapes : List Shape) (s : State) (a : Target × Right) (rest : List (Target × Right)) (p : Planned) → planned shapes s (a ∷ rest) ≡ Ok p → aimed (store_of shapes s) a.0 ≢ Err halt.Stuck
first_unstuck shapes s a rest p e stuck =
    let to = given_is (aimed (store_of shapes s) a.0) (λ (to : Place). given (drawn shapes s a.1) (λ (d : Drawn). given (allowed to d.number) (λ (to : Place).
    given (planned shapes d.state rest) (λ (p : Planned). Ok (and_then_written to d.number p))))) p e in
    unlike (aimed (store_of shapes s) a.0) to.0 to.1 stuck
  where
    unlike : (r : Result Place Halt) (w : Place) → r ≡ Ok w → r ≡ Err halt.Stuck → ⊥
    unlike r w e h = cc

-- ---- what a step plans

module _ (p : Program) (s : State) where
  list_lies : (assigns : List (Target × Right)) (next : List Work) (ws : List Write) → AreUnstuck p.shapes s assigns
      → given (planned p.shapes (at_work s next) assigns) (λ (plan : Planned). Ok plan.writes) ≡ Ok ws → LieThere s.blocks ws
  list_lies assigns next ws h e =
      let plan = given_is (planned p.shapes (at_work s next) assigns) (λ (plan : Planned). Ok plan.writes) ws e in
      subst (LieThere s.blocks) (ok_same plan.0.writes ws plan.2) (planned_lie p.shapes s assigns (at_work s next) [] (sym (append-nil s.blocks)) refl h plan.0 plan.1)

  alone_lies : (a : Target × Right) (next : List Work) (ws : List Write)
      → given (planned p.shapes (at_work s next) (a ∷ [])) (λ (plan : Planned). Ok plan.writes) ≡ Ok ws → LieThere s.blocks ws
  alone_lies a next ws e =
      let plan = given_is (planned p.shapes (at_work s next) (a ∷ [])) (λ (plan : Planned). Ok plan.writes) ws e in
      list_lies (a ∷ []) next ws (first_unstuck p.shapes (at_work s next) a [] plan.0 plan.1, tt) e

  one_lies : (w : Place) (n : ℕ) (ws : List Write) → LiesThere s.blocks w → ◌≡◌ {A = Result (List Write) Halt} (Ok ((w, n) ∷ [])) (Ok ws) → LieThere s.blocks ws
  one_lies w n ws there e =
      subst (LieThere s.blocks) (ok_same ((w, n) ∷ []) ws e) (All-cons (λ (w : Write). LiesThere s.blocks w.0) (w, n) [] there (All-nil (λ (w : Write). LiesThere s.blocks w.0)))

  none_lie : (ws : List Write) → ◌≡◌ {A = Result (List Write) Halt} (Ok []) (Ok ws) → LieThere s.blocks ws
  none_lie ws e = subst (LieThere s.blocks) (ok_same [] ws e) (All-nil (λ (w : Write). LiesThere s.blocks w.0))

  -- no target of a bundle in front is stuck
  abbrev pub IsUnstuck : List Work → Type 0
  IsUnstuck (Rest (Bundle spot assigns rest) ∷ work) = AreUnstuck p.shapes s assigns
  IsUnstuck work = Unit {0}

  pub plans_lie : (work : List Work) (ws : List Write) → IsUnstuck work → plans p s work ≡ Ok ws → LieThere s.blocks ws
  plans_lie (Rest (Assign spot target right rest) ∷ work) ws h e = alone_lies (target, right) (Rest rest ∷ work) ws e
  plans_lie (Rest (Bundle spot assigns rest) ∷ work) ws h e = list_lies assigns (Rest rest ∷ work) ws h e
  plans_lie (Rest (Get spot target rest) ∷ work) ws h e =
      let to = given_is (aimed (store_of p.shapes s) target) (λ (to : Place). Ok ((to, next_byte s.input) ∷ [])) ws e in
      one_lies to.0 (next_byte s.input) ws (aimed_lies (store_of p.shapes s) target to.0 to.1) to.2
  plans_lie (Rest (Put spot target f rest) ∷ work) ws h e =
      let to = given_is (aimed (store_of p.shapes s) target) (λ (to : Place). given (evaluated (store_of p.shapes s) f) (λ (v : Given). Ok ((to, v.number % 256) ∷ []))) ws e in
      let v = given_is (evaluated (store_of p.shapes s) f) (λ (v : Given). Ok ((to.0, v.number % 256) ∷ [])) ws to.2 in
      one_lies to.0 (v.0.number % 256) ws (aimed_lies (store_of p.shapes s) target to.0 to.1) v.2
  plans_lie [] ws h e = none_lie ws e
  plans_lie (Turn code ∷ work) ws h e = none_lie ws e
  plans_lie (Rest End ∷ work) ws h e = none_lie ws e
  plans_lie (Rest (Call spot target callee es rest) ∷ work) ws h e = none_lie ws e
  plans_lie (Rest (If spot f one two rest) ∷ work) ws h e = none_lie ws e
  plans_lie (Rest (Loop spot f body step rest) ∷ work) ws h e = none_lie ws e
  plans_lie (Rest (Break rest) ∷ work) ws h e = none_lie ws e
  plans_lie (Rest (Continue rest) ∷ work) ws h e = none_lie ws e
  plans_lie (Rest (Return spot f rest) ∷ work) ws h e = none_lie ws e
  plans_lie (Rest (Check spot f rest) ∷ work) ws h e = none_lie ws e
