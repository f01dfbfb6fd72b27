-- A step of a state is that of the state without its input, but for what it gets.
use Rattle.std.proofs.Common.{◌≡◌, ℕ, ◌==◌, Bool, true, false, List, [], ◌∷◌, Option, Some, None, Result, Ok, Err, if◌then◌else◌, refl, sym, ◌∙◌, ap}
use Rattle.std.specs.Prelude.{slice_get}
use Rattle.ckc_base.specs.declared.places.Pos.{Pos}
use Rattle.ckc_base.specs.declared.runtime_checks.Check.TheVariants as check
use Rattle.ckc_base.specs.Traces.{Event}
use Rattle.ckc_base.specs.Traces as standing
use Rattle.ckc_base.specs.Steps.{Move, Goes, Halts}
use Rattle.ckc_base.specs.Memory.{heap_has_room}
use Rattle.ckc_base.specs.Activations.{has_room}
use Rattle.ckc_source.specs.declared.expr.Limits.{Limits}
use Rattle.ckc_source.specs.declared.expr.Pointee.{Pointee}
use Rattle.ckc_source.specs.declared.outcome.Halt.{Halt}
use Rattle.ckc_source.specs.declared.outcome.Halt.TheVariants as halt
use Rattle.ckc_source.specs.declared.outcome.Place.{Place}
use Rattle.ckc_source.specs.declared.outcome.Place.TheVariants as place
use Rattle.ckc_source.specs.declared.outcome.Value.{Value}
use Rattle.ckc_source.specs.declared.program.Shape.{Shape}
use Rattle.ckc_source.specs.declared.stmt.Kept.{Kept}
use Rattle.ckc_source.specs.Blocks.{Block, stored}
use Rattle.ckc_source.specs.Code.{Target, Right, Value as Plain, Fresh, Code, End, Assign, Bundle, Get, Put, Call, If, Loop, Break, Continue, Return, Check, Function, Program}
use Rattle.ckc_source.specs.Eval.{given, evaluated, all_evaluated}
use Rattle.ckc_source.specs.States.{Work, Rest, Turn as Ahead, Caller, State, active}
use Rattle.ckc_source.specs.Steps.{store_of, aimed, allowed, drawn, Drawn, Write, Planned, writes, all_written, allocated, planned, bundled, with_blocks, writes_allowed, comes_to, and_moves, gets, puts, halts, at_work, acts, works, returns, hands, reads_result, kept_place, calls, in_call, reads_interfaces, enters}
use Rattle.ckc_interp.specs.code.Turns.{Asked, Does, Gets, Puts, asked, asked_next, gets_at, puts_at, turn_asks, move_of, planned_one}
use Rattle.ckc_interp.specs.declared.run.Turn.{Turn}
use Rattle.ckc_interp.specs.declared.run.Turn.TheVariants as turn
use Rattle.ckc_interp.proofs.Planning.{planned-cons, then_planned}

-- a state with another input
abbrev pub fed : List ℕ → State → State
fed input s = record s { input = input }

abbrev pub fed_result : List ℕ → Result State Halt → Result State Halt
fed_result input (Ok s) = Ok (fed input s)
fed_result input (Err why) = Err why

abbrev fed_draw : List ℕ → Drawn → Drawn
fed_draw input d = record { number = d.number; state = fed input d.state }

abbrev fed_drawn : List ℕ → Result Drawn Halt → Result Drawn Halt
fed_drawn input (Ok d) = Ok (fed_draw input d)
fed_drawn input (Err why) = Err why

abbrev fed_one : List ℕ → Result (Write × State) Halt → Result (Write × State) Halt
fed_one input (Ok w) = Ok (w.0, fed input w.1)
fed_one input (Err why) = Err why

abbrev fed_planned : List ℕ → Result Planned Halt → Result Planned Halt
fed_planned input (Ok p) = Ok (record { writes = p.writes; state = fed input p.state })
fed_planned input (Err why) = Err why

abbrev pub fed_move : List ℕ → Move Event State → Move Event State
fed_move input (Goes events s) = Goes events (fed input s)
fed_move input (Halts events standing) = Halts events standing

-- the move of what is asked, with an input
abbrev pub played : List ℕ → Asked → Move Event State
played input (Does move) = fed_move input move
played input (Gets s to) = gets (fed input s) to input
played input (Puts s to n) = puts (fed input s) to n

module _ (input : List ℕ) where
  stored_fed : (s : State) (blocks : Option (List Block)) → with_blocks (fed input s) blocks ≡ fed_result input (with_blocks s blocks)
  stored_fed s (Some bs) = refl
  stored_fed s None = refl

  pub writes_fed : (to : Place) (n : ℕ) (s : State) → writes to n (fed input s) ≡ fed_result input (writes to n s)
  writes_fed place.Nowhere n s = refl
  writes_fed (place.Local x width) n s = refl
  writes_fed (place.Memory a width zero_alone) n s = stored_fed s (stored width a n s.blocks)

  written_next : (ws : List Write) (x : Result State Halt) → ((s : State) → all_written ws (fed input s) ≡ fed_result input (all_written ws s))
      → given (fed_result input x) (all_written ws) ≡ fed_result input (given x (all_written ws))
  written_next ws (Ok s) h = h s
  written_next ws (Err why) h = refl

  written_fed : (ws : List Write) (s : State) → all_written ws (fed input s) ≡ fed_result input (all_written ws s)
  written_fed [] s = refl
  written_fed (w ∷ ws) s = ap (λ x. given x (all_written ws)) (writes_fed w.0 w.1 s) ∙ written_next ws (writes w.0 w.1 s) (written_fed ws)

  allowed_by : (n : ℕ) (s : State) (x : Result Place Halt) → given x (λ to. writes to n (fed input s)) ≡ fed_result input (given x (λ to. writes to n s))
  allowed_by n s (Ok to) = writes_fed to n s
  allowed_by n s (Err why) = refl

  pub allowed_fed : (to : Place) (n : ℕ) (s : State) → writes_allowed to n (fed input s) ≡ fed_result input (writes_allowed to n s)
  allowed_fed to n s = allowed_by n s (allowed to n)

  drawn_by : (s : State) (x : Result Value Halt) → given x (λ v. Ok (record { number = v.number; state = fed input s })) ≡ fed_drawn input (given x (λ v. Ok (record { number = v.number; state = s })))
  drawn_by s (Ok v) = refl
  drawn_by s (Err why) = refl

  chosen_fed : (b : Bool) (x y : Drawn) → (if b then fed_draw input x else fed_draw input y) ≡ fed_draw input (if b then x else y)
  chosen_fed true x y = refl
  chosen_fed false x y = refl

  allocated_fed : (s : State) (to : Pointee) (n : ℕ) → allocated (fed input s) to n ≡ fed_draw input (allocated s to n)
  allocated_fed s to n = chosen_fed (heap_has_room s.next n to.size) _ _

  fresh_by : (s : State) (to : Pointee) (x : Result Value Halt) → given x (λ v. Ok (allocated (fed input s) to v.number)) ≡ fed_drawn input (given x (λ v. Ok (allocated s to v.number)))
  fresh_by s to (Ok v) = ap Ok (allocated_fed s to v.number)
  fresh_by s to (Err why) = refl

  drawn_fed : (shapes : List Shape) (s : State) (right : Right) → drawn shapes (fed input s) right ≡ fed_drawn input (drawn shapes s right)
  drawn_fed shapes s (Plain e) = drawn_by s (evaluated (store_of shapes s) e)
  drawn_fed shapes s (Fresh to e) = fresh_by s to (evaluated (store_of shapes s) e)

  one_allowed : (d : Drawn) (x : Result Place Halt) → given x (λ to. Ok ((to, d.number), fed input d.state)) ≡ fed_one input (given x (λ to. Ok ((to, d.number), d.state)))
  one_allowed d (Ok to) = refl
  one_allowed d (Err why) = refl

  one_by : (x : Result Place Halt) (y : Result Drawn Halt) → given x (λ to. given (fed_drawn input y) (λ d. given (allowed to d.number) (λ to. Ok ((to, d.number), d.state))))
      ≡ fed_one input (given x (λ to. given y (λ d. given (allowed to d.number) (λ to. Ok ((to, d.number), d.state)))))
  one_by (Ok to) (Ok d) = one_allowed d (allowed to d.number)
  one_by (Ok to) (Err why) = refl
  one_by (Err why) y = refl

  one_fed : (shapes : List Shape) (s : State) (a : Target × Right) → planned_one shapes (fed input s) a ≡ fed_one input (planned_one shapes s a)
  one_fed shapes s a =
      ap (λ x. given (aimed (store_of shapes s) a.0) (λ to. given x (λ d. given (allowed to d.number) (λ to. Ok ((to, d.number), d.state))))) (drawn_fed shapes s a.1)
      ∙ one_by (aimed (store_of shapes s) a.0) (drawn shapes s a.1)

  behind_fed : (w : Write) (x : Result Planned Halt) → given (fed_planned input x) (λ p. Ok (record { writes = w ∷ p.writes; state = p.state }))
      ≡ fed_planned input (given x (λ p. Ok (record { writes = w ∷ p.writes; state = p.state })))
  behind_fed w (Ok p) = refl
  behind_fed w (Err why) = refl

  then_fed : (shapes : List Shape) (rest : List (Target × Right)) (x : Result (Write × State) Halt) → ((u : State) → planned shapes (fed input u) rest ≡ fed_planned input (planned shapes u rest))
      → given (fed_one input x) (then_planned shapes rest) ≡ fed_planned input (given x (then_planned shapes rest))
  then_fed shapes rest (Ok w) h = ap (λ x. given x (λ p. Ok (record { writes = w.0 ∷ p.writes; state = p.state }))) (h w.1) ∙ behind_fed w.0 (planned shapes w.1 rest)
  then_fed shapes rest (Err why) h = refl

  planned_fed : (shapes : List Shape) (assigns : List (Target × Right)) (s : State) → planned shapes (fed input s) assigns ≡ fed_planned input (planned shapes s assigns)
  planned_fed shapes [] s = refl
  planned_fed shapes (a ∷ rest) s =
      planned-cons shapes (fed input s) a rest ∙ ap (λ x. given x (then_planned shapes rest)) (one_fed shapes s a)
      ∙ then_fed shapes rest (planned_one shapes s a) (planned_fed shapes rest) ∙ ap (fed_planned input) (sym (planned-cons shapes s a rest))

  bundled_by : (x : Result Planned Halt) → given (fed_planned input x) (λ p. all_written p.writes p.state) ≡ fed_result input (given x (λ p. all_written p.writes p.state))
  bundled_by (Ok p) = written_fed p.writes p.state
  bundled_by (Err why) = refl

  bundled_fed : (shapes : List Shape) (s : State) (assigns : List (Target × Right)) → bundled shapes (fed input s) assigns ≡ fed_result input (bundled shapes s assigns)
  bundled_fed shapes s assigns = ap (λ x. given x (λ p. all_written p.writes p.state)) (planned_fed shapes assigns s) ∙ bundled_by (planned shapes s assigns)

  halts_fed : (events : List Event) (why : Halt) → halts {A = State} events why ≡ fed_move input (halts events why)
  halts_fed events (halt.Stopped why at) = refl
  halts_fed events halt.Stuck = refl

  pub comes_fed : (events : List Event) (x : Result State Halt) → comes_to events (fed_result input x) ≡ fed_move input (comes_to events x)
  comes_fed events (Ok s) = refl
  comes_fed events (Err why) = halts_fed events why

  and_fed : {A : Type 0} (x : Result A Halt) (f g : A → Move Event State) → ((v : A) → f v ≡ fed_move input (g v)) → and_moves x f ≡ fed_move input (and_moves x g)
  and_fed (Ok v) f g h = h v
  and_fed (Err why) f g h = halts_fed [] why

  moves_fed : (b : Bool) (f g x y : Move Event State) → f ≡ fed_move input x → g ≡ fed_move input y → (if b then f else g) ≡ fed_move input (if b then x else y)
  moves_fed true f g x y e h = e
  moves_fed false f g x y e h = h

  read_fed : (shapes : List Shape) (s : State) (limits : Option Limits) (entry : List ℕ) (n : ℕ) → reads_result shapes (fed input s) limits entry n ≡ reads_result shapes s limits entry n
  read_fed shapes s None entry n = refl
  read_fed shapes s (Some limits) entry n = refl

  handed_by : (s : State) (to : Place) (x : Result ℕ Halt) → given x (λ n. writes to n (fed input s)) ≡ fed_result input (given x (λ n. writes to n s))
  handed_by s to (Ok n) = writes_fed to n s
  handed_by s to (Err why) = refl

  hands_fed : (shapes : List Shape) (s : State) (limits : Option Limits) (entry : List ℕ) (target : Option Kept) (n : ℕ) → hands shapes (fed input s) limits entry target n ≡ fed_result input (hands shapes s limits entry target n)
  hands_fed shapes s limits entry None n = refl
  hands_fed shapes s limits entry (Some target) n =
      ap (λ x. given x (λ n. writes (kept_place target) n (fed input s))) (read_fed shapes s limits entry n) ∙ handed_by s (kept_place target) (reads_result shapes s limits entry n)

  returns_fed : (shapes : List Shape) (s : State) (callers : List Caller) (n : ℕ) → returns shapes (fed input s) callers n ≡ fed_move input (returns shapes s callers n)
  returns_fed shapes s [] n = refl
  returns_fed shapes s (caller ∷ callers) n =
      let u : State = record s { frame = caller.frame; callers = callers } in
      ap (comes_to []) (hands_fed shapes u s.frame.function.result s.frame.entry caller.target n) ∙ comes_fed [] (hands shapes u s.frame.function.result s.frame.entry caller.target n)

  enters_fed : (shapes : List Shape) (s : State) (target : Option Kept) (values : List ℕ) (f : Option Function)
      → enters shapes (fed input s) target values f ≡ fed_move input (enters shapes s target values f)
  enters_fed shapes s target values (Some f) =
      and_fed (reads_interfaces (store_of shapes (in_call s target values f)) f.interfaces) _ (λ u. Goes [] (in_call s target values f)) (λ u. refl)
  enters_fed shapes s target values None = refl

  calls_fed : (p : Program) (s : State) (target : Option Kept) (callee : ℕ) (at : Pos) (values : List ℕ)
      → calls p (fed input s) target callee at values ≡ fed_move input (calls p s target callee at values)
  calls_fed p s target callee at values =
      moves_fed (has_room (active s)) _ _ (enters p.shapes s target values (slice_get p.functions callee)) (Halts [] (standing.Stopped check.Depth at))
      (enters_fed p.shapes s target values (slice_get p.functions callee)) refl

  got_by : (s : State) (x : Result Place Halt) → and_moves x (λ to. gets (fed input s) to input) ≡ played input (gets_at s x)
  got_by s (Ok to) = refl
  got_by s (Err why) = halts_fed [] why

  put_by : (s : State) (x : Result Place Halt) (y : Result Value Halt) → and_moves x (λ to. and_moves y (λ v. puts (fed input s) to v.number)) ≡ played input (puts_at s x y)
  put_by s (Ok to) (Ok v) = refl
  put_by s (Ok to) (Err why) = halts_fed [] why
  put_by s (Err why) y = halts_fed [] why

  acts_fed : (p : Program) (s : State) (work : List Work) (code : Code) → acts p (fed input s) work code ≡ played input (asked p s work code)
  acts_fed p s work End = refl
  acts_fed p s work (Assign spot target right rest) =
      let u = at_work s (Rest rest ∷ work) in
      ap (comes_to []) (bundled_fed p.shapes u ((target, right) ∷ [])) ∙ comes_fed [] (bundled p.shapes u ((target, right) ∷ []))
  acts_fed p s work (Bundle spot assigns rest) =
      let u = at_work s (Rest rest ∷ work) in
      ap (comes_to []) (bundled_fed p.shapes u assigns) ∙ comes_fed [] (bundled p.shapes u assigns)
  acts_fed p s work (Get spot target rest) = got_by (at_work s (Rest rest ∷ work)) (aimed (store_of p.shapes s) target)
  acts_fed p s work (Put spot target e rest) = put_by (at_work s (Rest rest ∷ work)) (aimed (store_of p.shapes s) target) (evaluated (store_of p.shapes s) e)
  acts_fed p s work (Call spot target callee es rest) =
      and_fed (all_evaluated (store_of p.shapes s) es) _ _ (λ values. calls_fed p (at_work s (Rest rest ∷ work)) target callee spot.at values)
  acts_fed p s work (If spot e one two rest) = and_fed (evaluated (store_of p.shapes s) e) _ _ (λ v. refl)
  acts_fed p s work (Loop spot e body step rest) = and_fed (evaluated (store_of p.shapes s) e) _ _ (λ v. refl)
  acts_fed p s work (Break rest) = refl
  acts_fed p s work (Continue rest) = refl
  acts_fed p s work (Return spot e rest) = and_fed (evaluated (store_of p.shapes s) e) _ _ (λ v. returns_fed p.shapes s s.callers v.number)
  acts_fed p s work (Check spot e rest) = and_fed (evaluated (store_of p.shapes s) e) _ _ (λ v. moves_fed (v.number == 0) _ _ _ _ refl refl)

  pub works_fed : (p : Program) (s : State) (work : List Work) → works p (fed input s) work ≡ played input (asked_next p s work)
  works_fed p s [] = returns_fed p.shapes s s.callers 0
  works_fed p s (Rest code ∷ work) = acts_fed p s work code
  works_fed p s (Ahead code ∷ work) = refl

  pub turn_played : (t : Turn) (s : State) → played input (turn_asks t s) ≡ move_of t (fed input s)
  turn_played turn.Quiet s = refl
  turn_played (turn.Put to n) s = refl
  turn_played (turn.Get to) s = refl
  turn_played (turn.Ends n) s = refl
  turn_played (turn.Halted why) s = sym (halts_fed [] why)
