-- A run whose functions have mode Checked throughout stays in code of that mode.
use Rattle.std.proofs.Common.{◌≡◌, ℕ, zero, suc, ◌%◌, ◌==◌, List, [], ◌∷◌, ◌++◌, slice_get, refl}
use Rattle.std.specs.Prelude.{Bool, true, false, if◌then◌else◌, Option, Some, None, Result, Ok, Err}
use Rattle.ckc_base.specs.declared.arithmetic.Mode.{Mode}
use Rattle.ckc_base.specs.declared.arithmetic.Mode.TheVariants.{Checked, Unchecked}
use Rattle.ckc_base.specs.declared.places.Pos.{Pos}
use Rattle.ckc_base.specs.Activations.{has_room}
use Rattle.ckc_base.specs.Memory.{heap_has_room, next_place}
use Rattle.ckc_base.specs.Steps.{Move, Goes, Halts}
use Rattle.ckc_base.specs.Traces.{Event, Got, Put as Puts}
use Rattle.ckc_base.specs.Traces as standing
use Rattle.ckc_base.specs.declared.runtime_checks.Check.TheVariants as check
use Rattle.ckc_source.specs.declared.outcome.Halt.{Halt}
use Rattle.ckc_source.specs.declared.outcome.Halt.TheVariants as halt
use Rattle.ckc_source.specs.declared.outcome.Place.{Place}
use Rattle.ckc_source.specs.declared.outcome.Place.TheVariants as place
use Rattle.ckc_source.specs.declared.expr.Limits.{Limits}
use Rattle.ckc_source.specs.declared.expr.Pointee.{Pointee}
use Rattle.ckc_source.specs.declared.program.Shape.{Shape}
use Rattle.ckc_source.specs.declared.stmt.Kept.{Kept}
use Rattle.ckc_source.specs.declared.stmt.Spot.{Spot}
use Rattle.ckc_source.specs.Blocks.{Block, stored, fresh}
use Rattle.ckc_source.specs.Code.{Code, End, Assign, Bundle, Get, Put, Call, If, Loop, Break, Continue, Return, Check, Target, Right, Value, Fresh, Function, Program}
use Rattle.ckc_source.specs.Eval.{given, evaluated, all_evaluated}
use Rattle.ckc_source.specs.Source.{first_unchecked, by_mode, on_next}
use Rattle.ckc_source.specs.States.{Work, Rest, Turn, Frame, Caller, State, Leaving, Ended, Broken, Continued, begun, stepped, turned, behind, resumed, settled, entered, active}
use Rattle.ckc_source.specs.Steps.{store_of, aimed, allowed, writes, all_written, Write, Drawn, allocated, drawn, Planned, and_then_written, planned, bundled, halts, comes_to, and_moves, at_work, writes_allowed, with_blocks, gets, puts, in_call, reads_interfaces, enters, calls, kept_place, reads_result, hands, returns, acts, works, source_step, spot_in, spot_at, spot_of}
use Rattle.ckc_blame.specs.Checked.{is_checked}
use Rattle.ckc_blame_sound.proofs.Codes.{AreChecked}

-- ---- what comes next

unfoldable pub IsWork : List Work → Type 0
IsWork [] = Unit {0}
IsWork (Rest code ∷ work) = AreChecked code × IsWork work
IsWork (Turn code ∷ work) = AreChecked code × IsWork work

begun_checked : (code : Code) (go : Leaving → List Work) (work : List Work) → AreChecked code → IsWork work → ((how : Leaving) → IsWork (go how)) → IsWork (begun code go work)
unfolding AreChecked IsWork
begun_checked End go work a w g = g Ended
begun_checked (Break rest) go work a w g = g Broken
begun_checked (Continue rest) go work a w g = g Continued
begun_checked (Assign spot target right rest) go work a w g = (a, w)
begun_checked (Bundle spot assigns rest) go work a w g = (a, w)
begun_checked (Get spot target rest) go work a w g = (a, w)
begun_checked (Put spot target e rest) go work a w g = (a, w)
begun_checked (Call spot target callee es rest) go work a w g = (a, w)
begun_checked (If spot e one two rest) go work a w g = (a, w)
begun_checked (Loop spot e body step rest) go work a w g = (a, w)
begun_checked (Return spot e rest) go work a w g = (a, w)
begun_checked (Check spot e rest) go work a w g = (a, w)

stepped_checked : (step loop : Code) (work : List Work) → AreChecked step → AreChecked loop → IsWork work → IsWork (stepped step loop work)
unfolding AreChecked IsWork
stepped_checked End loop work a l w = (l, w)
stepped_checked (Break rest) loop work a l w = (a, (l, w))
stepped_checked (Continue rest) loop work a l w = (a, (l, w))
stepped_checked (Assign spot target right rest) loop work a l w = (a, (l, w))
stepped_checked (Bundle spot assigns rest) loop work a l w = (a, (l, w))
stepped_checked (Get spot target rest) loop work a l w = (a, (l, w))
stepped_checked (Put spot target e rest) loop work a l w = (a, (l, w))
stepped_checked (Call spot target callee es rest) loop work a l w = (a, (l, w))
stepped_checked (If spot e one two rest) loop work a l w = (a, (l, w))
stepped_checked (Loop spot e body step rest) loop work a l w = (a, (l, w))
stepped_checked (Return spot e rest) loop work a l w = (a, (l, w))
stepped_checked (Check spot e rest) loop work a l w = (a, (l, w))

turned_checked : (code : Code) (work : List Work) → AreChecked code → IsWork work → IsWork (turned code work)
unfolding AreChecked IsWork
turned_checked (Loop spot e body step rest) work a w = stepped_checked step (Loop spot e body step rest) work a.2 a w
turned_checked End work a w = (a, w)
turned_checked (Break rest) work a w = (a, w)
turned_checked (Continue rest) work a w = (a, w)
turned_checked (Assign spot target right rest) work a w = (a, w)
turned_checked (Bundle spot assigns rest) work a w = (a, w)
turned_checked (Get spot target rest) work a w = (a, w)
turned_checked (Put spot target e rest) work a w = (a, w)
turned_checked (Call spot target callee es rest) work a w = (a, w)
turned_checked (If spot e one two rest) work a w = (a, w)
turned_checked (Return spot e rest) work a w = (a, w)
turned_checked (Check spot e rest) work a w = (a, w)

behind_checked : (code : Code) → AreChecked code → AreChecked (behind code)
unfolding AreChecked
behind_checked (Loop spot e body step rest) a = a.3
behind_checked End a = a
behind_checked (Break rest) a = a
behind_checked (Continue rest) a = a
behind_checked (Assign spot target right rest) a = a
behind_checked (Bundle spot assigns rest) a = a
behind_checked (Get spot target rest) a = a
behind_checked (Put spot target e rest) a = a
behind_checked (Call spot target callee es rest) a = a
behind_checked (If spot e one two rest) a = a
behind_checked (Return spot e rest) a = a
behind_checked (Check spot e rest) a = a

resumed_checked : (how : Leaving) (work : List Work) → IsWork work → IsWork (resumed how work)
unfolding IsWork resumed
resumed_checked how [] w = tt
resumed_checked Ended (Rest code ∷ work) w = begun_checked code (λ how. resumed how work) work w.0 w.1 (λ how. resumed_checked how work w.1)
resumed_checked Broken (Rest code ∷ work) w = resumed_checked Broken work w.1
resumed_checked Continued (Rest code ∷ work) w = resumed_checked Continued work w.1
resumed_checked Broken (Turn code ∷ work) w =
    begun_checked (behind code) (λ how. resumed how work) work (behind_checked code w.0) w.1 (λ how. resumed_checked how work w.1)
resumed_checked Ended (Turn code ∷ work) w = turned_checked code work w.0 w.1
resumed_checked Continued (Turn code ∷ work) w = turned_checked code work w.0 w.1

-- ---- states

-- A function has mode Checked at its end and throughout.
pub record IsChecked (f : Function) : Type 0 where
  pub end : is_checked f.end.mode ≡ true
  pub body : AreChecked f.body

pub record IsFrame (f : Frame) : Type 0 where
  pub end : is_checked f.function.end.mode ≡ true
  pub work : IsWork f.work

unfoldable pub AreFrames : List Caller → Type 0
AreFrames [] = Unit {0}
AreFrames (c ∷ cs) = IsFrame c.frame × AreFrames cs

pub record IsGood (s : State) : Type 0 where
  pub frame : IsFrame s.frame
  pub callers : AreFrames s.callers

-- each function of a program
pub record AreAll (fs : List Function) : Type 0 where
  pub each : (k : ℕ) (f : Function) → slice_get fs k ≡ Some f → IsChecked f

spot_in_checked : (end : Spot) (code : Code) → is_checked end.mode ≡ true → AreChecked code → is_checked (spot_in end code).mode ≡ true
unfolding AreChecked
spot_in_checked end End e a = e
spot_in_checked end (Break rest) e a = e
spot_in_checked end (Continue rest) e a = e
spot_in_checked end (Assign spot target right rest) e a = a.0
spot_in_checked end (Bundle spot assigns rest) e a = a.0
spot_in_checked end (Get spot target rest) e a = a.0
spot_in_checked end (Put spot target f rest) e a = a.0
spot_in_checked end (Call spot target callee es rest) e a = a.0
spot_in_checked end (If spot f one two rest) e a = a.0
spot_in_checked end (Loop spot f body step rest) e a = a.0
spot_in_checked end (Return spot f rest) e a = a.0
spot_in_checked end (Check spot f rest) e a = a.0

spot_at_checked : (end : Spot) (work : List Work) → is_checked end.mode ≡ true → IsWork work → is_checked (spot_at end work).mode ≡ true
unfolding IsWork
spot_at_checked end [] e w = e
spot_at_checked end (Rest code ∷ work) e w = spot_in_checked end code e w.0
spot_at_checked end (Turn code ∷ work) e w = e

spot_checked : (s : State) → IsGood s → is_checked (spot_of s).mode ≡ true
spot_checked s g = spot_at_checked s.frame.function.end (settled s.frame.work) g.frame.end (resumed_checked Ended s.frame.work g.frame.work)

-- ---- what a step leads to

abbrev IsResult : Result State Halt → Type 0
IsResult (Ok s) = IsGood s
IsResult (Err h) = Unit {0}

abbrev IsMove : Move Event State → Type 0
IsMove (Goes events s) = IsGood s
IsMove (Halts events standing) = Unit {0}

halts_good : (events : List Event) (h : Halt) → IsMove (halts events h)
halts_good events (halt.Stopped why at) = tt
halts_good events halt.Stuck = tt

comes_good : (events : List Event) (r : Result State Halt) → IsResult r → IsMove (comes_to events r)
comes_good events (Ok s) g = g
comes_good events (Err h) g = halts_good events h

moves_good : {A : Type 0} (r : Result A Halt) (f : A → Move Event State) → ((v : A) → IsMove (f v)) → IsMove (and_moves r f)
moves_good (Ok v) f g = g v
moves_good (Err h) f g = halts_good [] h

-- something holds of a result that is made of another one, if it does for each value and for each halt
given_by : {A B : Type 0} (P : Result B Halt → Type 0) (r : Result A Halt) (f : A → Result B Halt) → ((v : A) → P (f v)) → ((h : Halt) → P (Err h)) → P (given r f)
given_by P (Ok v) f g h = g v
given_by P (Err e) f g h = h e

blocks_good : (s : State) (bs : Option (List Block)) → IsGood s → IsResult (with_blocks s bs)
blocks_good s None g = tt
blocks_good s (Some bs) g = record { frame = g.frame; callers = g.callers }

writes_good : (to : Place) (n : ℕ) (s : State) → IsGood s → IsResult (writes to n s)
writes_good place.Nowhere n s g = g
writes_good (place.Local x width) n s g = record { frame = record { end = g.frame.end; work = g.frame.work }; callers = g.callers }
writes_good (place.Memory a width zero_alone) n s g = blocks_good s (stored width a n s.blocks) g

result_good : (r : Result State Halt) (f : State → Result State Halt) → IsResult r → ((s : State) → IsGood s → IsResult (f s)) → IsResult (given r f)
result_good (Ok s) f g h = h s g
result_good (Err e) f g h = tt

all_good : (ws : List Write) (s : State) → IsGood s → IsResult (all_written ws s)
all_good [] s g = g
all_good (w ∷ ws) s g = result_good (writes w.0 w.1 s) (all_written ws) (writes_good w.0 w.1 s g) (λ t h. all_good ws t h)

chosen_good : (room : Bool) (a b : Drawn) → IsGood a.state → IsGood b.state → IsGood (if room then a else b).state
chosen_good true a b g h = g
chosen_good false a b g h = h

abbrev IsDrawn : Result Drawn Halt → Type 0
IsDrawn (Ok d) = IsGood d.state
IsDrawn (Err h) = Unit {0}

allocated_good : (s : State) (to : Pointee) (count : ℕ) → IsGood s → IsGood (allocated s to count).state
allocated_good s to count g =
    chosen_good (heap_has_room s.next count to.size) (record { number = s.next; state = record s { blocks = s.blocks ++ fresh to s.next count ∷ []; next = next_place s.next count to.size } })
    (record { number = 0; state = s }) (record { frame = g.frame; callers = g.callers }) g

drawn_good : (shapes : List Shape) (s : State) (right : Right) → IsGood s → IsDrawn (drawn shapes s right)
drawn_good shapes s (Value e) g =
    given_by IsDrawn (evaluated (store_of shapes s) e) (λ v. Ok (record { number = v.number; state = s })) (λ v. g) (λ h. tt)
drawn_good shapes s (Fresh to e) g =
    given_by IsDrawn (evaluated (store_of shapes s) e) (λ v. Ok (allocated s to v.number)) (λ v. allocated_good s to v.number g) (λ h. tt)

abbrev IsPlan : Result Planned Halt → Type 0
IsPlan (Ok p) = IsGood p.state
IsPlan (Err h) = Unit {0}

drawn_then : (r : Result Drawn Halt) (f : Drawn → Result Planned Halt) → IsDrawn r → ((d : Drawn) → IsGood d.state → IsPlan (f d)) → IsPlan (given r f)
drawn_then (Ok d) f g h = h d g
drawn_then (Err e) f g h = tt

planned_then : (to : Place) (n : ℕ) (r : Result Planned Halt) → IsPlan r → IsPlan (given r (λ p. Ok (and_then_written to n p)))
planned_then to n (Ok p) g = g
planned_then to n (Err e) g = tt

planned_good : (shapes : List Shape) (s : State) (assigns : List (Target × Right)) → IsGood s → IsPlan (planned shapes s assigns)
planned_good shapes s [] g = g
planned_good shapes s (a ∷ rest) g =
    let allow : (d : Drawn) → IsGood d.state → Place → Result Planned Halt = λ d h to. given (planned shapes d.state rest) (λ p. Ok (and_then_written to d.number p)) in
    given_by IsPlan (aimed (store_of shapes s) a.0)
    (λ to. given (drawn shapes s a.1) (λ d. given (allowed to d.number) (λ to. given (planned shapes d.state rest) (λ p. Ok (and_then_written to d.number p)))))
    (λ to.
    drawn_then (drawn shapes s a.1) (λ d. given (allowed to d.number) (λ to. given (planned shapes d.state rest) (λ p. Ok (and_then_written to d.number p))))
    (drawn_good shapes s a.1 g)
    (λ d h.
    given_by IsPlan (allowed to d.number) (λ to. given (planned shapes d.state rest) (λ p. Ok (and_then_written to d.number p)))
    (λ to. planned_then to d.number (planned shapes d.state rest) (planned_good shapes d.state rest h)) (λ e. tt)))
    (λ e. tt)

plan_then : (r : Result Planned Halt) → IsPlan r → IsResult (given r (λ p. all_written p.writes p.state))
plan_then (Ok p) g = all_good p.writes p.state g
plan_then (Err e) g = tt

bundled_good : (shapes : List Shape) (s : State) (assigns : List (Target × Right)) → IsGood s → IsResult (bundled shapes s assigns)
bundled_good shapes s assigns g = plan_then (planned shapes s assigns) (planned_good shapes s assigns g)

written_good : (to : Place) (n : ℕ) (s : State) → IsGood s → IsResult (writes_allowed to n s)
written_good to n s g = given_by IsResult (allowed to n) (λ to. writes to n s) (λ to. writes_good to n s g) (λ e. tt)

gets_good : (s : State) (to : Place) (input : List ℕ) → IsGood s → IsMove (gets s to input)
gets_good s to [] g = comes_good (Got None ∷ []) (writes_allowed to 4294967295 s) (written_good to 4294967295 s g)
gets_good s to (b ∷ rest) g =
    comes_good (Got (Some b) ∷ []) (writes_allowed to b (record s { input = rest })) (written_good to b (record s { input = rest }) (record { frame = g.frame; callers = g.callers }))

enters_good : (p : Program) (s : State) (target : Option Kept) (values : List ℕ) (k : ℕ) (f : Option Function) → slice_get p.functions k ≡ f → AreAll p.functions → IsGood s
    → IsMove (enters p.shapes s target values f)
unfolding IsWork AreFrames
enters_good p s target values k (Some f) is all g =
    let c : IsChecked f = all.each k f is in
    moves_good (reads_interfaces (store_of p.shapes (in_call s target values f)) f.interfaces) (λ u. Goes [] (in_call s target values f))
    (λ u. record { frame = record { end = c.end; work = (c.body, tt) }; callers = (g.frame, g.callers) })
enters_good p s target values k None is all g = tt

chosen_move : (b : Bool) (x y : Move Event State) → IsMove x → IsMove y → IsMove (if b then x else y)
chosen_move true x y g h = g
chosen_move false x y g h = h

calls_good : (p : Program) (s : State) (target : Option Kept) (callee : ℕ) (at : Pos) (values : List ℕ) → AreAll p.functions → IsGood s → IsMove (calls p s target callee at values)
calls_good p s target callee at values all g =
    chosen_move (has_room (active s)) (enters p.shapes s target values (slice_get p.functions callee)) (Halts [] (standing.Stopped check.Depth at))
    (enters_good p s target values callee (slice_get p.functions callee) refl all g) tt

hands_good : (shapes : List Shape) (s : State) (limits : Option Limits) (entry : List ℕ) (target : Option Kept) (n : ℕ) → IsGood s → IsResult (hands shapes s limits entry target n)
hands_good shapes s limits entry None n g = g
hands_good shapes s limits entry (Some target) n g =
    given_by IsResult (reads_result shapes s limits entry n) (λ n. writes (kept_place target) n s) (λ n. writes_good (kept_place target) n s g) (λ e. tt)

returns_good : (shapes : List Shape) (s : State) (callers : List Caller) (n : ℕ) → AreFrames callers → IsMove (returns shapes s callers n)
unfolding AreFrames
returns_good shapes s [] n c = tt
returns_good shapes s (caller ∷ callers) n c =
    let t : State = record s { frame = caller.frame; callers = callers } in
    comes_good [] (hands shapes t s.frame.function.result s.frame.entry caller.target n)
    (hands_good shapes t s.frame.function.result s.frame.entry caller.target n (record { frame = c.0; callers = c.1 }))

-- the state with other statements next
at_good : (s : State) (work : List Work) → IsGood s → IsWork work → IsGood (at_work s work)
at_good s work g w = record { frame = record { end = g.frame.end; work = w }; callers = g.callers }

chosen_code : (b : Bool) (x y : Code) → AreChecked x → AreChecked y → AreChecked (if b then x else y)
chosen_code true x y g h = g
chosen_code false x y g h = h

chosen_work : (b : Bool) (x y : List Work) → IsWork x → IsWork y → IsWork (if b then x else y)
chosen_work true x y g h = g
chosen_work false x y g h = h

acts_good : (p : Program) (s : State) (work : List Work) (code : Code) → AreAll p.functions → IsGood s → AreChecked code → IsWork work → IsMove (acts p s work code)
unfolding AreChecked IsWork
acts_good p s work End all g a w = tt
acts_good p s work (Break rest) all g a w = tt
acts_good p s work (Continue rest) all g a w = tt
acts_good p s work (Assign spot target right rest) all g a w =
    let t : State = at_work s (Rest rest ∷ work) in
    comes_good [] (bundled p.shapes t ((target, right) ∷ [])) (bundled_good p.shapes t ((target, right) ∷ []) (at_good s (Rest rest ∷ work) g (a.1, w)))
acts_good p s work (Bundle spot assigns rest) all g a w =
    let t : State = at_work s (Rest rest ∷ work) in
    comes_good [] (bundled p.shapes t assigns) (bundled_good p.shapes t assigns (at_good s (Rest rest ∷ work) g (a.1, w)))
acts_good p s work (Get spot target rest) all g a w =
    moves_good (aimed (store_of p.shapes s) target) (λ to. gets (at_work s (Rest rest ∷ work)) to s.input)
    (λ to. gets_good (at_work s (Rest rest ∷ work)) to s.input (at_good s (Rest rest ∷ work) g (a.1, w)))
acts_good p s work (Put spot target e rest) all g a w =
    let t : State = at_work s (Rest rest ∷ work) in
    moves_good (aimed (store_of p.shapes s) target) (λ to. and_moves (evaluated (store_of p.shapes s) e) (λ v. puts t to v.number))
    (λ to.
    moves_good (evaluated (store_of p.shapes s) e) (λ v. puts t to v.number)
    (λ v.
    comes_good (Puts (v.number % 256) ∷ []) (writes_allowed to (v.number % 256) t)
    (written_good to (v.number % 256) t (at_good s (Rest rest ∷ work) g (a.1, w)))))
acts_good p s work (Call spot target callee es rest) all g a w =
    let t : State = at_work s (Rest rest ∷ work) in
    moves_good (all_evaluated (store_of p.shapes s) es) (calls p t target callee spot.at)
    (λ values. calls_good p t target callee spot.at values all (at_good s (Rest rest ∷ work) g (a.1, w)))
acts_good p s work (If spot e one two rest) all g a w =
    moves_good (evaluated (store_of p.shapes s) e) (λ v. Goes [] (at_work s (Rest (if v.number == 0 then two else one) ∷ Rest rest ∷ work)))
    (λ v.
    at_good s (Rest (if v.number == 0 then two else one) ∷ Rest rest ∷ work) g (chosen_code (v.number == 0) two one a.2 a.1, (a.3, w)))
acts_good p s work (Loop spot e body step rest) all g a w =
    let loop : Code = Loop spot e body step rest in
    moves_good (evaluated (store_of p.shapes s) e) (λ v. Goes [] (at_work s (if v.number == 0 then Rest rest ∷ work else Rest body ∷ Turn loop ∷ work)))
    (λ v.
    at_good s (if v.number == 0 then Rest rest ∷ work else Rest body ∷ Turn loop ∷ work) g
    (chosen_work (v.number == 0) (Rest rest ∷ work) (Rest body ∷ Turn loop ∷ work) (a.3, w) (a.1, (a, w))))
acts_good p s work (Return spot e rest) all g a w =
    moves_good (evaluated (store_of p.shapes s) e) (λ v. returns p.shapes s s.callers v.number) (λ v. returns_good p.shapes s s.callers v.number g.callers)
acts_good p s work (Check spot e rest) all g a w =
    moves_good (evaluated (store_of p.shapes s) e) (λ v. if v.number == 0 then Halts [] (standing.Stopped check.Dynamic spot.at) else Goes [] (at_work s (Rest rest ∷ work)))
    (λ v.
    chosen_move (v.number == 0) (Halts [] (standing.Stopped check.Dynamic spot.at)) (Goes [] (at_work s (Rest rest ∷ work))) tt
    (at_good s (Rest rest ∷ work) g (a.1, w)))

works_good : (p : Program) (s : State) (work : List Work) → AreAll p.functions → IsGood s → IsWork work → IsMove (works p s work)
unfolding IsWork
works_good p s [] all g w = returns_good p.shapes s s.callers 0 g.callers
works_good p s (Rest code ∷ work) all g w = acts_good p s work code all g w.0 w.1
works_good p s (Turn code ∷ work) all g w = tt

step_good : (p : Program) (s : State) → AreAll p.functions → IsGood s → IsMove (source_step p s)
unfolding source_step
step_good p s all g = works_good p s (settled s.frame.work) all g (resumed_checked Ended s.frame.work g.frame.work)

-- ---- runs

by_checked : (spot : Spot) (later : Option Pos) (mode : Mode) → is_checked mode ≡ true → later ≡ None → by_mode spot later mode ≡ None
by_checked spot later Checked c e = e
by_checked spot later Unchecked c e = cc

later : (p : Program) (n : ℕ) (m : Move Event State) → IsMove m → ((t : State) → IsGood t → first_unchecked p n t ≡ None) → on_next (first_unchecked p n) m ≡ None
later p n (Goes events t) h rest = rest t h
later p n (Halts events standing) h rest = refl

pub never_unchecked : (p : Program) (n : ℕ) (s : State) → AreAll p.functions → IsGood s → first_unchecked p n s ≡ None
unfolding first_unchecked
never_unchecked p zero s all g = refl
never_unchecked p (suc n) s all g =
    by_checked (spot_of s) (on_next (first_unchecked p n) (source_step p s)) (spot_of s).mode (spot_checked s g)
    (later p n (source_step p s) (step_good p s all g) (λ t h. never_unchecked p n t all h))

-- `main` is entered
pub entered_good : (f : Function) (blocks : List Block) (next : ℕ) (input : List ℕ) → IsChecked f
    → IsGood (record { blocks = blocks; next = next; frame = entered f []; callers = []; input = input })
unfolding IsWork AreFrames
entered_good f blocks next input c = record { frame = record { end = c.end; work = (c.body, tt) }; callers = tt }
