-- Steps keep blocks apart and the number of active calls small.
use Rattle.std.proofs.Common.{◌≡◌, ℕ, zero, suc, ◌+◌, ◌-◌, ◌*◌, ◌/◌, ◌%◌, ◌^◌, ◌≤◌, ◌<◌, Bool, true, false, if◌then◌else◌, ◌==◌, List, [], ◌∷◌, ◌++◌, map, length, replicate, slice_get, slice_set, Option, Some, None, Result, Ok, Err, refl, sym, ◌∙◌, ap, subst, arith, length-set, mul_comm, le_refl}
use Rattle.std.proofs.lemmas.Bool.{ltb-true}
use Rattle.std.proofs.lemmas.List.{length-replicate}
use Rattle.ckc_base.specs.declared.arithmetic.Width.{Width}
use Rattle.ckc_base.specs.declared.arithmetic.Width.TheVariants.{Byte, Word}
use Rattle.ckc_base.specs.declared.places.Pos.{Pos}
use Rattle.ckc_base.specs.Memory.{heap_has_room, next_place}
use Rattle.ckc_base.specs.Activations.{has_room}
use Rattle.ckc_base.specs.declared.runtime_checks.Check.TheVariants as check
use Rattle.ckc_base.specs.Traces.{Event}
use Rattle.ckc_base.specs.Traces as standing
use Rattle.ckc_base.specs.Steps.{Move, Goes, Halts}
use Rattle.ckc_source.specs.declared.expr.Pointee.{Pointee}
use Rattle.ckc_source.specs.declared.expr.Limits.{Limits}
use Rattle.ckc_source.specs.declared.outcome.Halt.{Halt}
use Rattle.ckc_source.specs.declared.outcome.Halt.TheVariants as halt
use Rattle.ckc_source.specs.declared.outcome.Place.{Place}
use Rattle.ckc_source.specs.declared.outcome.Place.TheVariants as place
use Rattle.ckc_source.specs.declared.program.Shape.{Shape}
use Rattle.ckc_source.specs.declared.stmt.Kept.{Kept}
use Rattle.ckc_source.specs.Code.{Target, Right, Value, Fresh, Code, End, Assign, Bundle, Get, Put, Call, If, Loop, Break, Continue, Return, Check, Function, Program}
use Rattle.ckc_source.specs.Blocks.{Block, end_of, has, changed, lies_in, with_number, fresh, first_place}
use Rattle.ckc_source.specs.LaidOut.{AreApart, AreBytes, HoldBytes, IsLaidOut}
use Rattle.ckc_source.specs.Eval.{given, evaluated, all_evaluated}
use Rattle.ckc_source.specs.States.{Work, Rest, Turn, Caller, State, active, settled}
use Rattle.ckc_source.specs.Steps.{store_of, aimed, allowed, with_blocks, writes, Write, all_written, Drawn, allocated, drawn, Planned, planned, bundled, halts, comes_to, and_moves, at_work, writes_allowed, gets, in_call, reads_interfaces, enters, calls, kept_place, reads_result, hands, returns, acts, works, source_step}
use Rattle.ckc_base.specs.States.{moved_on, state_after, state_at}
use Rattle.ckc_source.specs.Source.{IsOrderly, source_system, first_state}

-- ---- blocks

pub apart_snoc : (low : ℕ) (bs : List Block) (next : ℕ) (b : Block) (later : ℕ) → AreApart low bs next → next ≤ b.base → end_of b + 1 ≤ later
    → AreApart low (bs ++ b ∷ []) later
apart_snoc low [] next b later a h k = (omega arith, k)
apart_snoc low (c ∷ bs) next b later a h k = (a.0, apart_snoc (end_of c + 1) bs next b later a.1 h k)

pub length_with : (width : Width) (bytes : List ℕ) (i n : ℕ) → length (with_number width bytes i n) ≡ length bytes
length_with Byte bytes i n = length-set bytes i (n % 256)
length_with Word bytes i n = simp length-set

same_end : (width : Width) (a n : ℕ) (b : Block) (here : Bool)
    → end_of (if here then record b { bytes = with_number width b.bytes (a - b.base) n } else b) ≡ end_of b
same_end width a n b true = ap (λ k. b.base + k) (length_with width b.bytes (a - b.base) n)
same_end width a n b false = refl

same_base : (width : Width) (a n : ℕ) (b : Block) (here : Bool)
    → (if here then record b { bytes = with_number width b.bytes (a - b.base) n } else b).base ≡ b.base
same_base width a n b true = refl
same_base width a n b false = refl

pub apart_changed : (width : Width) (a n low : ℕ) (bs : List Block) (next : ℕ) → AreApart low bs next → AreApart low (map (changed width a n) bs) next
apart_changed width a n low [] next p = p
apart_changed width a n low (b ∷ bs) next p = (
  subst (λ (k : ℕ). low ≤ k) (sym (same_base width a n b (has width a b))) p.0,
  subst (λ (k : ℕ). AreApart (k + 1) (map (changed width a n) bs) next) (sym (same_end width a n b (has width a b)))
      (apart_changed width a n (end_of b + 1) bs next p.1),
)

-- ---- bytes

set_bytes : (xs : List ℕ) (i v : ℕ) → AreBytes xs → v < 256 → AreBytes (slice_set xs i v)
set_bytes [] i v a h = tt
set_bytes (x ∷ xs) zero v a h = (h, a.1)
set_bytes (x ∷ xs) (suc i) v a h = (a.0, set_bytes xs i v a.1 h)

with_bytes : (width : Width) (xs : List ℕ) (i n : ℕ) → AreBytes xs → AreBytes (with_number width xs i n)
with_bytes Byte xs i n a = set_bytes xs i (n % 256) a (omega arith)
with_bytes Word xs i n a =
    let one = set_bytes xs i (n % 256) a (omega arith) in
    let two = set_bytes (slice_set xs i (n % 256)) (i + 1) (n / 256 % 256) one (omega arith) in
    let three = set_bytes (slice_set (slice_set xs i (n % 256)) (i + 1) (n / 256 % 256)) (i + 2) (n / 65536 % 256) two (omega arith) in
    set_bytes _ (i + 3) (n / 16777216 % 256) three (omega arith)

changed_bytes : (width : Width) (a n : ℕ) (b : Block) (here : Bool) → AreBytes b.bytes
    → AreBytes (if here then record b { bytes = with_number width b.bytes (a - b.base) n } else b).bytes
changed_bytes width a n b true h = with_bytes width b.bytes (a - b.base) n h
changed_bytes width a n b false h = h

hold_changed : (width : Width) (a n : ℕ) (bs : List Block) → HoldBytes bs → HoldBytes (map (changed width a n) bs)
hold_changed width a n [] h = tt
hold_changed width a n (b ∷ bs) h = (changed_bytes width a n b (has width a b) h.0, hold_changed width a n bs h.1)

zero_bytes : (n : ℕ) → AreBytes (replicate n 0)
zero_bytes zero = tt
zero_bytes (suc n) = (omega arith, zero_bytes n)

hold_snoc : (bs : List Block) (b : Block) → HoldBytes bs → AreBytes b.bytes → HoldBytes (bs ++ b ∷ [])
hold_snoc [] b h k = (k, tt)
hold_snoc (c ∷ bs) b h k = (h.0, hold_snoc bs b h.1 k)

-- ---- results

-- what a result has that is none of a halt
abbrev OnGood : {A : Type 0} → (A → Type 0) → Result A Halt → Type 0
OnGood P (Ok v) = P v
OnGood P (Err h) = Unit {0}

given_good : {A B : Type 0} (P : B → Type 0) (x : Result A Halt) (f : A → Result B Halt) → ((v : A) → OnGood P (f v)) → OnGood P (given x f)
given_good P (Ok v) f h = h v
given_good P (Err e) f h = tt

then_good : {A B : Type 0} (P : A → Type 0) (Q : B → Type 0) (x : Result A Halt) (f : A → Result B Halt) → OnGood P x → ((v : A) → P v → OnGood Q (f v)) → OnGood Q (given x f)
then_good P Q (Ok v) f p h = h v p
then_good P Q (Err e) f p h = tt

writes_good : (to : Place) (n : ℕ) (s : State) → IsOrderly s → OnGood IsOrderly (writes to n s)
writes_good place.Nowhere n s o = o
writes_good (place.Local x width) n s o = record { apart = o.apart; bytes = o.bytes; few = o.few }
writes_good (place.Memory a width zero_alone) n s o = stores (lies_in width a s.blocks)
  where
    stores : (here : Bool) → OnGood IsOrderly (with_blocks s (if here then Some (map (changed width a n) s.blocks) else None))
    stores true = record {
      apart = apart_changed width a n 0 s.blocks s.next o.apart;
      bytes = hold_changed width a n s.blocks o.bytes;
      few = o.few;
    }
    stores false = tt

all_written_good : (ws : List Write) (s : State) → IsOrderly s → OnGood IsOrderly (all_written ws s)
all_written_good [] s o = o
all_written_good (w ∷ ws) s o =
    then_good IsOrderly IsOrderly (writes w.0 w.1 s) (all_written ws) (writes_good w.0 w.1 s o) (λ u p. all_written_good ws u p)

-- `allocated`, if it is known whether there is room
abbrev grown : State → Pointee → ℕ → Bool → Drawn
grown s to count room =
    if room
    then record { number = s.next; state = record s { blocks = s.blocks ++ fresh to s.next count ∷ []; next = next_place s.next count to.size } }
    else record { number = 0; state = s }

place_past : (a k : ℕ) → a + k + 1 ≤ (a + k + 15) / 8 * 8
place_past a k = omega arith

fresh_end : (to : Pointee) (base count : ℕ) → end_of (fresh to base count) ≡ base + count * to.size
fresh_end to base count = ap (λ k. base + k) (length-replicate {A = ℕ} (to.size * count) 0 ∙ mul_comm to.size count)

grown_good : (s : State) (to : Pointee) (count : ℕ) (room : Bool) → IsOrderly s → IsOrderly (grown s to count room).state
grown_good s to count true o = record {
  apart = apart_snoc 0 s.blocks s.next (fresh to s.next count) (next_place s.next count to.size) o.apart (le_refl s.next)
      (subst (λ (k : ℕ). k + 1 ≤ next_place s.next count to.size) (sym (fresh_end to s.next count)) (place_past s.next (count * to.size)));
  bytes = hold_snoc s.blocks (fresh to s.next count) o.bytes (zero_bytes (to.size * count));
  few = o.few;
}
grown_good s to count false o = o

allocated_good : (s : State) (to : Pointee) (count : ℕ) → IsOrderly s → IsOrderly (allocated s to count).state
allocated_good s to count o = grown_good s to count (heap_has_room s.next count to.size) o

-- ---- assignments

drawn_good : (shapes : List Shape) (s : State) (right : Right) → IsOrderly s → OnGood (λ (d : Drawn). IsOrderly d.state) (drawn shapes s right)
drawn_good shapes s (Value e) o =
    given_good (λ (d : Drawn). IsOrderly d.state) (evaluated (store_of shapes s) e) (λ v. Ok (record { number = v.number; state = s })) (λ v. o)
drawn_good shapes s (Fresh to e) o =
    given_good (λ (d : Drawn). IsOrderly d.state) (evaluated (store_of shapes s) e) (λ v. Ok (allocated s to v.number)) (λ v. allocated_good s to v.number o)

planned_good : (shapes : List Shape) (s : State) (assigns : List (Target × Right)) → IsOrderly s
    → OnGood (λ (q : Planned). IsOrderly q.state) (planned shapes s assigns)
planned_good shapes s [] o = o
planned_good shapes s (a ∷ rest) o =
    let P : Planned → Type 0 = λ q. IsOrderly q.state in
    given_good P (aimed (store_of shapes s) a.0) _ (λ to.
    then_good (λ (d : Drawn). IsOrderly d.state) P (drawn shapes s a.1) _ (drawn_good shapes s a.1 o) (λ d od.
    given_good P (allowed to d.number) _ (λ at.
    then_good P P (planned shapes d.state rest) _ (planned_good shapes d.state rest od) (λ q oq. oq))))

bundled_good : (shapes : List Shape) (s : State) (assigns : List (Target × Right)) → IsOrderly s → OnGood IsOrderly (bundled shapes s assigns)
bundled_good shapes s assigns o =
    then_good (λ (q : Planned). IsOrderly q.state) IsOrderly (planned shapes s assigns) (λ q. all_written q.writes q.state)
    (planned_good shapes s assigns o) (λ q oq. all_written_good q.writes q.state oq)

-- ---- moves

abbrev MoveGood : Move Event State → Type 0
MoveGood (Goes events u) = IsOrderly u
MoveGood (Halts events standing) = Unit {0}

halts_good : (events : List Event) (h : Halt) → MoveGood (halts events h)
halts_good events (halt.Stopped why at) = tt
halts_good events halt.Stuck = tt

comes_good : (events : List Event) (r : Result State Halt) → OnGood IsOrderly r → MoveGood (comes_to events r)
comes_good events (Ok u) g = g
comes_good events (Err h) g = halts_good events h

and_moves_good : {A : Type 0} (x : Result A Halt) (f : A → Move Event State) → ((v : A) → MoveGood (f v)) → MoveGood (and_moves x f)
and_moves_good (Ok v) f h = h v
and_moves_good (Err e) f h = halts_good [] e

at_work_good : (s : State) (work : List Work) → IsOrderly s → IsOrderly (at_work s work)
at_work_good s work o = record { apart = o.apart; bytes = o.bytes; few = o.few }

allowed_good : (to : Place) (n : ℕ) (s : State) → IsOrderly s → OnGood IsOrderly (writes_allowed to n s)
allowed_good to n s o = given_good IsOrderly (allowed to n) (λ at. writes at n s) (λ at. writes_good at n s o)

gets_good : (s : State) (to : Place) (input : List ℕ) → IsOrderly s → MoveGood (gets s to input)
gets_good s to [] o = comes_good _ _ (allowed_good to (2 ^ 32 - 1) s o)
gets_good s to (b ∷ rest) o = comes_good _ _ (allowed_good to b (record s { input = rest }) (record { apart = o.apart; bytes = o.bytes; few = o.few }))

enters_good : (shapes : List Shape) (s : State) (target : Option Kept) (values : List ℕ) (f : Option Function) → IsOrderly s → length s.callers + 1 < 1024
    → MoveGood (enters shapes s target values f)
enters_good shapes s target values (Some f) o h =
    and_moves_good (reads_interfaces (store_of shapes (in_call s target values f)) f.interfaces) _
    (λ u. record { apart = o.apart; bytes = o.bytes; few = omega arith })
enters_good shapes s target values None o h = tt

calls_good : (p : Program) (s : State) (target : Option Kept) (callee : ℕ) (at : Pos) (values : List ℕ) → IsOrderly s
    → MoveGood (calls p s target callee at values)
calls_good p s target callee at values o = fits (has_room (active s)) refl
  where
    fits : (room : Bool) → has_room (active s) ≡ room
        → MoveGood (if room then enters p.shapes s target values (slice_get p.functions callee) else Halts [] (standing.Stopped check.Depth at))
    fits true e = enters_good p.shapes s target values (slice_get p.functions callee) o (ltb-true (active s) 1024 e)
    fits false e = tt

hands_good : (shapes : List Shape) (s : State) (limits : Option Limits) (entry : List ℕ) (target : Option Kept) (n : ℕ) → IsOrderly s
    → OnGood IsOrderly (hands shapes s limits entry target n)
hands_good shapes s limits entry None n o = o
hands_good shapes s limits entry (Some target) n o =
    given_good IsOrderly (reads_result shapes s limits entry n) (λ m. writes (kept_place target) m s) (λ m. writes_good (kept_place target) m s o)

returns_good : (shapes : List Shape) (s : State) (callers : List Caller) (n : ℕ) → IsOrderly s → length callers ≤ 1023
    → MoveGood (returns shapes s callers n)
returns_good shapes s [] n o h = tt
returns_good shapes s (caller ∷ callers) n o h =
    comes_good [] _ (hands_good shapes (record s { frame = caller.frame; callers = callers }) s.frame.function.result s.frame.entry caller.target n
    (record { apart = o.apart; bytes = o.bytes; few = omega arith }))

check_good : (b : Bool) (halted : Move Event State) (u : State) → MoveGood halted → IsOrderly u → MoveGood (if b then halted else Goes [] u)
check_good true halted u h o = h
check_good false halted u h o = o

acts_good : (p : Program) (s : State) (work : List Work) (code : Code) → IsOrderly s → MoveGood (acts p s work code)
acts_good p s work (Assign spot target right rest) o =
    comes_good [] _ (bundled_good p.shapes (at_work s (Rest rest ∷ work)) ((target, right) ∷ []) (at_work_good s (Rest rest ∷ work) o))
acts_good p s work (Bundle spot assigns rest) o =
    comes_good [] _ (bundled_good p.shapes (at_work s (Rest rest ∷ work)) assigns (at_work_good s (Rest rest ∷ work) o))
acts_good p s work (Get spot target rest) o =
    and_moves_good (aimed (store_of p.shapes s) target) _ (λ to. gets_good (at_work s (Rest rest ∷ work)) to s.input (at_work_good s (Rest rest ∷ work) o))
acts_good p s work (Put spot target e rest) o =
    and_moves_good (aimed (store_of p.shapes s) target) _ (λ to. and_moves_good (evaluated (store_of p.shapes s) e) _ (λ v.
    comes_good _ _ (allowed_good to (v.number % 256) (at_work s (Rest rest ∷ work)) (at_work_good s (Rest rest ∷ work) o))))
acts_good p s work (Call spot target callee es rest) o =
    and_moves_good (all_evaluated (store_of p.shapes s) es) _ (λ values.
    calls_good p (at_work s (Rest rest ∷ work)) target callee spot.at values (at_work_good s (Rest rest ∷ work) o))
acts_good p s work (If spot e one two rest) o = and_moves_good (evaluated (store_of p.shapes s) e) _ (λ v. at_work_good s _ o)
acts_good p s work (Loop spot e body step rest) o = and_moves_good (evaluated (store_of p.shapes s) e) _ (λ v. at_work_good s _ o)
acts_good p s work (Return spot e rest) o =
    and_moves_good (evaluated (store_of p.shapes s) e) _ (λ v. returns_good p.shapes s s.callers v.number o o.few)
acts_good p s work (Check spot e rest) o =
    and_moves_good (evaluated (store_of p.shapes s) e) _ (λ v. check_good (v.number == 0) (Halts [] (standing.Stopped check.Dynamic spot.at)) (at_work s (Rest rest ∷ work)) tt (at_work_good s (Rest rest ∷ work) o))
acts_good p s work End o = tt
acts_good p s work (Break rest) o = tt
acts_good p s work (Continue rest) o = tt

works_good : (p : Program) (s : State) (work : List Work) → IsOrderly s → MoveGood (works p s work)
works_good p s [] o = returns_good p.shapes s s.callers 0 o o.few
works_good p s (Rest code ∷ work) o = acts_good p s work code o
works_good p s (Turn code ∷ work) o = tt

step_good : (p : Program) (s : State) → IsOrderly s → MoveGood (source_step p s)
unfolding source_step
step_good p s o = works_good p s (settled s.frame.work) o

-- ---- runs

moved_good : (s : State) (move : Move Event State) (go : State → State) → ((u : State) → IsOrderly u → IsOrderly (go u)) → IsOrderly s → MoveGood move
    → IsOrderly (moved_on go s move)
moved_good s (Goes events u) go h o g = h u g
moved_good s (Halts events standing) go h o g = o

kept : (p : Program) (n : ℕ) (s : State) → IsOrderly s → IsOrderly (state_after (source_system p) n 0 s)
unfolding state_after
kept p zero s o = o
kept p (suc n) s o = moved_good s (source_step p s) (λ u. state_after (source_system p) n 0 u) (λ u ou. kept p n u ou) o (step_good p s o)

pub from_zero : (low : ℕ) (bs : List Block) (next : ℕ) → AreApart low bs next → AreApart 0 bs next
from_zero low [] next a = omega arith
from_zero low (b ∷ bs) next a = (omega arith, a.1)

pub orderly_at : (p : Program) (input : List ℕ) (n : ℕ) → IsLaidOut p → IsOrderly (state_at (source_system p) (first_state p input) n)
orderly_at p input n l = kept p n (first_state p input) (record { apart = from_zero first_place _ _ l.apart; bytes = l.bytes; few = omega arith })
