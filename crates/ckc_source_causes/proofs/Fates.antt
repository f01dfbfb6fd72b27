-- What becomes of the parts of a step: each has a value, stops at a check, or is stuck for a cause.
use Rattle.std.proofs.Common.{◌≡◌, ◌⊎◌, ◌∙◌, inl, inr, refl, ℕ, Bool, true, false, List, [], ◌∷◌, ◌++◌, map}
use Rattle.std.specs.Prelude.{◌==◌, if◌then◌else◌, Option, Some, None, Result, Ok, Err, slice_index}
use Rattle.ckc_base.specs.declared.arithmetic.Width.{Width}
use Rattle.ckc_base.specs.declared.runtime_checks.Check.TheVariants as check
use Rattle.ckc_base.specs.Memory.{heap_has_room, kept_part, next_place}
use Rattle.ckc_source.specs.declared.expr.Access.{Access}
use Rattle.ckc_source.specs.declared.expr.Limits.{Limits}
use Rattle.ckc_source.specs.declared.expr.Pointee.{Pointee}
use Rattle.ckc_source.specs.declared.outcome.Halt.{Halt}
use Rattle.ckc_source.specs.declared.outcome.Halt.TheVariants.{Stopped, Stuck}
use Rattle.ckc_source.specs.declared.outcome.Place.{Place}
use Rattle.ckc_source.specs.declared.outcome.Place.TheVariants as place
use Rattle.ckc_source.specs.declared.outcome.Value.{Value}
use Rattle.ckc_source.specs.declared.program.Interface.{Interface}
use Rattle.ckc_source.specs.declared.program.Shape.{Shape}
use Rattle.ckc_source.specs.declared.stmt.Kept.{Kept}
use Rattle.ckc_source.specs.declared.stmt.Kept.TheVariants as kept
use Rattle.ckc_source.specs.Blocks.{Block, block_of, changed, fresh, lies_in}
use Rattle.ckc_source.specs.Code.{Expr, Target, Nothing, Variable, Memory, Right, Fresh, Program}
use Rattle.ckc_source.specs.Code as code
use Rattle.ckc_source.specs.Eval.{Store, given, stops, element, place_in, reads_limited, evaluated, all_evaluated}
use Rattle.ckc_source.specs.States.{State}
use Rattle.ckc_source.specs.Steps.{store_of, terminator_at, aims_at, aimed, allowed, with_blocks, writes, Write, all_written, Drawn, allocated, drawn, Planned, and_then_written, planned, bundled, writes_allowed, reads_interfaces, kept_place, reads_result, hands}
use Rattle.ckc_source_causes.specs.Layouts.{Layout, IsCellOf, IsLaidOutBy}
use Rattle.ckc_source_causes.specs.WellFormed.{AreWellFormed, AreWellFormedAssigns, IsWellFormedExpr, IsWellFormedKept, IsWellFormedRight, IsWellFormedTarget}
use Rattle.ckc_source_causes.specs.Causes.{IsNowhere, HasUntrueLimits, HoldsObjects, Then, AtElement, HasCause, OneHasCause, TargetHasCause, RightHasCause, AssignHasCause, InterfaceHasCause, ResultHasCause, HandingHasCause}
use Rattle.ckc_source_causes.proofs.Stuck.{IsStuck, Misses, has_cause, misses, one_has_cause, untrue_limits}
use Rattle.ckc_source_causes.proofs.Given.{judged}
use Rattle.ckc_source_causes.proofs.Later.{AreKept, LieInData, data_behind, data_changed, kept_itself, kept_again, kept_behind, kept_changed, lies_kept}

-- ---- fates

-- A result is a value that has this, a stop, or stuck for that cause.
abbrev pub Fate : {A : Type 0} → Type 0 → (A → Type 0) → Result A Halt → Type 0
Fate C P (Ok v) = P v
Fate C P (Err (Stopped why at)) = Unit {0}
Fate C P (Err Stuck) = C

abbrev pub Any : {A : Type 0} → A → Type 0
Any v = Unit {0}

pub fate_map : {A : Type 0} (C D : Type 0) (P Q : A → Type 0) (r : Result A Halt) → Fate C P r → (C → D) → ((v : A) → P v → Q v) → Fate D Q r
fate_map C D P Q (Ok v) h f g = g v h
fate_map C D P Q (Err (Stopped why at)) h f g = tt
fate_map C D P Q (Err Stuck) h f g = f h

-- of what is stuck for a cause wherever it is stuck
pub fate_of : {A : Type 0} (C : Type 0) (r : Result A Halt) → (IsStuck r → C) → Fate C Any r
fate_of C (Ok v) h = tt
fate_of C (Err (Stopped why at)) h = tt
fate_of C (Err Stuck) h = h refl

-- one result after another
pub fate_then : {A B : Type 0} (C : Type 0) (P : A → Type 0) (D : A → Type 0) (Q : B → Type 0) (r : Result A Halt) (f : A → Result B Halt) → Fate C P r
    → ((v : A) → r ≡ Ok v → P v → Fate (D v) Q (f v)) → Fate (C ⊎ Then r D) Q (given r f)
fate_then C P D Q (Ok v) f h next = fate_map (D v) (C ⊎ Then (Ok v) D) Q Q (f v) (next v refl h) (λ d. inr (v, refl, d)) (λ w q. q)
fate_then C P D Q (Err (Stopped why at)) f h next = tt
fate_then C P D Q (Err Stuck) f h next = inl h

-- the second one is not stuck
pub fate_first : {A B : Type 0} (C : Type 0) (P : A → Type 0) (Q : B → Type 0) (r : Result A Halt) (f : A → Result B Halt) → Fate C P r → ((v : A) → r ≡ Ok v → P v → Fate ⊥ Q (f v)) → Fate C Q (given r f)
fate_first C P Q (Ok v) f h next = fate_map ⊥ C Q Q (f v) (next v refl h) (λ d. absurd d) (λ w q. q)
fate_first C P Q (Err (Stopped why at)) f h next = tt
fate_first C P Q (Err Stuck) f h next = h

-- the first one is not stuck
pub fate_second : {A B : Type 0} (P : A → Type 0) (D : A → Type 0) (Q : B → Type 0) (r : Result A Halt) (f : A → Result B Halt) → Fate ⊥ P r → ((v : A) → r ≡ Ok v → P v → Fate (D v) Q (f v))
    → Fate (Then r D) Q (given r f)
fate_second P D Q (Ok v) f h next = fate_map (D v) (Then (Ok v) D) Q Q (f v) (next v refl h) (λ d. (v, refl, d)) (λ w q. q)
fate_second P D Q (Err (Stopped why at)) f h next = tt
fate_second P D Q (Err Stuck) f h next = absurd h

-- ---- places

-- a place in memory lies in a block
abbrev pub IsPlaced : List Block → Place → Type 0
IsPlaced bs (place.Memory a width zero_alone) = lies_in width a bs ≡ true
IsPlaced bs place.Nowhere = Unit {0}
IsPlaced bs (place.Local x width) = Unit {0}

pub placed_kept : (bs cs : List Block) (to : Place) → AreKept bs cs → IsPlaced bs to → IsPlaced cs to
placed_kept bs cs (place.Memory a width zero_alone) h k = lies_kept width a bs cs h k
placed_kept bs cs place.Nowhere h k = tt
placed_kept bs cs (place.Local x width) h k = tt

-- what is to be written goes to such places
abbrev pub ArePlaced : List Block → List Write → Type 0
ArePlaced bs [] = Unit {0}
ArePlaced bs (w ∷ ws) = IsPlaced bs w.0 × ArePlaced bs ws

pub all_placed_kept : (bs cs : List Block) (ws : List Write) → AreKept bs cs → ArePlaced bs ws → ArePlaced cs ws
all_placed_kept bs cs [] h k = tt
all_placed_kept bs cs (w ∷ ws) h k = (placed_kept bs cs w.0 h k.0, all_placed_kept bs cs ws h k.1)

allowed_fate : (bs : List Block) (to : Place) (n : ℕ) → IsPlaced bs to → Fate ⊥ (IsPlaced bs) (allowed to n)
allowed_fate bs (place.Memory a width (Some at)) n h = by (kept_part width n == 0)
  where
    by : (b : Bool) → Fate ⊥ (IsPlaced bs) (if b then Ok (place.Memory a width (Some at)) else stops check.Terminator at)
    by true = h
    by false = tt
allowed_fate bs (place.Memory a width None) n h = h
allowed_fate bs place.Nowhere n h = tt
allowed_fate bs (place.Local x width) n h = tt

-- ---- states

-- A state after assignments: its blocks are kept, and so are what comes next and the calls that wait. If all blocks lay in the data
-- region, they still do.
pub record IsLater (l : Layout) (s u : State) : Type 0 where
  pub blocks : AreKept s.blocks u.blocks
  pub inside : LieInData l s.blocks s.next → LieInData l u.blocks u.next
  pub work : u.frame.work ≡ s.frame.work
  pub callers : u.callers ≡ s.callers

later_itself : (l : Layout) (s : State) → IsLater l s s
later_itself l s = record { blocks = kept_itself s.blocks; inside = λ d. d; work = refl; callers = refl }

later_again : (l : Layout) (s u v : State) → IsLater l s u → IsLater l u v → IsLater l s v
later_again l s u v h k = record {
  blocks = kept_again s.blocks u.blocks v.blocks h.blocks k.blocks;
  inside = λ d. k.inside (h.inside d);
  work = k.work ∙ h.work;
  callers = k.callers ∙ h.callers;
}

pub writes_fate : (l : Layout) (to : Place) (n : ℕ) (s : State) → IsPlaced s.blocks to → Fate ⊥ (IsLater l s) (writes to n s)
writes_fate l place.Nowhere n s h = later_itself l s
writes_fate l (place.Local x width) n s h = record { blocks = kept_itself s.blocks; inside = λ d. d; work = refl; callers = refl }
writes_fate l (place.Memory a width zero_alone) n s h = by (lies_in width a s.blocks) h
  where
    by : (b : Bool) → b ≡ true → Fate ⊥ (IsLater l s) (with_blocks s (if b then Some (map (changed width a n) s.blocks) else None))
    by true e = record { blocks = kept_changed width a n s.blocks; inside = λ d. data_changed l width a n s.blocks s.next d; work = refl; callers = refl }
    by false e = absurd cc

pub all_written_fate : (l : Layout) (ws : List Write) (s : State) → ArePlaced s.blocks ws → Fate ⊥ (IsLater l s) (all_written ws s)
all_written_fate l [] s h = later_itself l s
all_written_fate l (w ∷ ws) s h =
    fate_first ⊥ (IsLater l s) (IsLater l s) (writes w.0 w.1 s) (all_written ws) (writes_fate l w.0 w.1 s h.0) (λ u is j.
    fate_map ⊥ ⊥ (IsLater l u) (IsLater l s) (all_written ws u) (all_written_fate l ws u (all_placed_kept s.blocks u.blocks ws j.blocks h.1)) (λ x. x) (λ v k. later_again l s u v j k))

pub writes_allowed_fate : (l : Layout) (to : Place) (n : ℕ) (s : State) → IsPlaced s.blocks to → Fate ⊥ (IsLater l s) (writes_allowed to n s)
writes_allowed_fate l to n s h =
    fate_first ⊥ (IsPlaced s.blocks) (IsLater l s) (allowed to n) (λ at. writes at n s) (allowed_fate s.blocks to n h) (λ at is k. writes_fate l at n s k)

-- `allocated`, if it is known whether there is room
abbrev grown : State → Pointee → ℕ → Bool → Drawn
grown s to count room =
    if room
    then record { number = s.next; state = record s { blocks = s.blocks ++ fresh to s.next count ∷ []; next = next_place s.next count to.size } }
    else record { number = 0; state = s }

grown_later : (l : Layout) (s : State) (to : Pointee) (count : ℕ) → to.size ≡ l.size to.element → (room : Bool) → heap_has_room s.next count to.size ≡ room → IsLater l s (grown s to count room).state
grown_later l s to count size true is = record {
  blocks = kept_behind s.blocks (fresh to s.next count ∷ []);
  inside = λ d. data_behind l to count s.blocks s.next size is d;
  work = refl;
  callers = refl;
}
grown_later l s to count size false is = later_itself l s

allocated_later : (l : Layout) (s : State) (to : Pointee) (count : ℕ) → to.size ≡ l.size to.element → IsLater l s (allocated s to count).state
allocated_later l s to count size = grown_later l s to count size (heap_has_room s.next count to.size) refl

-- ---- assignments

-- the objects of a program are the first blocks
abbrev pub AreThere : Program → List Block → Type 0
AreThere p bs = AreKept (map block_of p.objects) bs

-- What holds of the blocks in a run: the objects are the first ones, and all lie in the data region.
pub record HoldsProgram (p : Program) (l : Layout) (bs : List Block) (next : ℕ) : Type 0 where
  pub there : AreThere p bs
  pub inside : LieInData l bs next

pub holds_later : (p : Program) (l : Layout) (s u : State) → HoldsProgram p l s.blocks s.next → IsLater l s u → HoldsProgram p l u.blocks u.next
holds_later p l s u h k = record { there = kept_again (map block_of p.objects) s.blocks u.blocks h.there k.blocks; inside = k.inside h.inside }

module _ (p : Program) (l : Layout) (laid : IsLaidOutBy p l) where
  -- a state of the program whose blocks these are
  abbrev pub Holding : State → Type 0
  Holding s = HoldsProgram p l s.blocks s.next

  pub holding : (s : State) → Holding s → HoldsObjects p l (store_of p.shapes s)
  holding s h = record {
    shapes = refl;
    objects = λ width a e. lies_kept width a (map block_of p.objects) s.blocks h.there e;
    blocks = h.inside.blocks;
  }

  pub evaluated_fate : (s : State) (e : Expr) → Holding s → IsWellFormedExpr p l e → Fate (HasCause (store_of p.shapes s) e) Any (evaluated (store_of p.shapes s) e)
  evaluated_fate s e h w = fate_of (HasCause (store_of p.shapes s) e) (evaluated (store_of p.shapes s) e) (has_cause p l (store_of p.shapes s) laid (holding s h) e w)

  aims_fate : (s : State) (width : Width) (access : Access) (v : Value) (a : ℕ) → Misses (store_of p.shapes s) access.through width (place_in a access.offset)
      → Fate (IsNowhere (store_of p.shapes s) access.through width (place_in a access.offset)) (IsPlaced s.blocks) (aims_at (store_of p.shapes s) width access v.range a)
  aims_fate s width access v a miss = by (lies_in width (place_in a access.offset) s.blocks) refl
    where
      by : (b : Bool) → lies_in width (place_in a access.offset) s.blocks ≡ b
          → Fate (IsNowhere (store_of p.shapes s) access.through width (place_in a access.offset)) (IsPlaced s.blocks)
          (if b then Ok (place.Memory (place_in a access.offset) width (terminator_at access.through v.range a access.at)) else Err Stuck)
      by true is = is
      by false is = miss is

  pub aimed_fate : (s : State) (t : Target) → Holding s → IsWellFormedTarget p l t → Fate (TargetHasCause (store_of p.shapes s) t) (IsPlaced s.blocks) (aimed (store_of p.shapes s) t)
  aimed_fate s Nothing h w = tt
  aimed_fate s (Variable x width) h w = tt
  aimed_fate s (Memory width access e i) h w =
      let st : Store = store_of p.shapes s in
      let N : Value → Value → Type 0 = λ v k. AtElement access v k (λ a. IsNowhere st access.through width (place_in a access.offset)) in
      fate_then (HasCause st e) Any (λ v. HasCause st i ⊎ Then (evaluated st i) (N v)) (IsPlaced s.blocks) (evaluated st e)
      (λ v. given (evaluated st i) (λ k. given (element access v k.number) (aims_at st width access v.range))) (evaluated_fate s e h w.1) (λ v there u.
      fate_then (HasCause st i) Any (N v) (IsPlaced s.blocks) (evaluated st i) (λ k. given (element access v k.number) (aims_at st width access v.range)) (evaluated_fate s i h w.2) (λ k here z.
      fate_second Any (λ a. IsNowhere st access.through width (place_in a access.offset)) (IsPlaced s.blocks) (element access v k.number) (aims_at st width access v.range)
      (fate_of ⊥ (element access v k.number) (judged p l st e i v access.through access k.number (λ t. IsCellOf l t access.offset width) w.0 there))
      (λ a is y. aims_fate s width access v a (misses p l st laid (holding s h) access e i v k a access.offset width w.0 there here is))))

  drawn_fate : (s : State) (right : Right) → Holding s → IsWellFormedRight p l right → Fate (RightHasCause (store_of p.shapes s) right) (λ (d : Drawn). IsLater l s d.state) (drawn p.shapes s right)
  drawn_fate s (code.Value e) h w =
      fate_first (HasCause (store_of p.shapes s) e) Any (λ (d : Drawn). IsLater l s d.state) (evaluated (store_of p.shapes s) e) (λ v. Ok (record { number = v.number; state = s })) (evaluated_fate s e h w)
      (λ v is u. later_itself l s)
  drawn_fate s (Fresh to e) h w =
      let size = w.0.size in
      fate_first (HasCause (store_of p.shapes s) e) Any (λ (d : Drawn). IsLater l s d.state) (evaluated (store_of p.shapes s) e) (λ v. Ok (allocated s to v.number)) (evaluated_fate s e h w.1)
      (λ v is u. allocated_later l s to v.number size)

  -- what is planned goes to places that the blocks have then
  pub record IsPlanned (s : State) (q : Planned) : Type 0 where
    pub later : IsLater l s q.state
    pub placed : ArePlaced q.state.blocks q.writes

  planned_fate : (s : State) (assigns : List (Target × Right)) → Holding s → AreWellFormedAssigns p l assigns → Fate (AssignHasCause p.shapes s assigns) (IsPlanned s) (planned p.shapes s assigns)
  planned_fate s [] o w = record { later = later_itself l s; placed = tt }
  planned_fate s (a ∷ rest) o w =
      let st : Store = store_of p.shapes s in
      fate_then (TargetHasCause st a.0) (IsPlaced s.blocks) (λ to. RightHasCause st a.1 ⊎ Then (drawn p.shapes s a.1) (λ d. Then (allowed to d.number) (λ written. AssignHasCause p.shapes d.state rest))) (IsPlanned s)
      (aimed st a.0) (λ to. given (drawn p.shapes s a.1) (λ d. given (allowed to d.number) (λ to. given (planned p.shapes d.state rest) (λ p. Ok (and_then_written to d.number p))))) (aimed_fate s a.0 o w.0) (λ to there h.
      fate_then (RightHasCause st a.1) (λ (d : Drawn). IsLater l s d.state) (λ d. Then (allowed to d.number) (λ written. AssignHasCause p.shapes d.state rest)) (IsPlanned s)
      (drawn p.shapes s a.1) (λ d. given (allowed to d.number) (λ to. given (planned p.shapes d.state rest) (λ p. Ok (and_then_written to d.number p)))) (drawn_fate s a.1 o w.1) (λ d is j.
      fate_second (IsPlaced s.blocks) (λ written. AssignHasCause p.shapes d.state rest) (IsPlanned s) (allowed to d.number) (λ to. given (planned p.shapes d.state rest) (λ p. Ok (and_then_written to d.number p)))
      (allowed_fate s.blocks to d.number h) (λ at here k.
      fate_first (AssignHasCause p.shapes d.state rest) (IsPlanned d.state) (IsPlanned s) (planned p.shapes d.state rest) (λ p. Ok (and_then_written at d.number p)) (planned_fate d.state rest (holds_later p l s d.state o j) w.2) (λ q there z. record {
        later = later_again l s d.state q.state j z.later;
        placed = (placed_kept s.blocks q.state.blocks at (kept_again s.blocks d.state.blocks q.state.blocks j.blocks z.later.blocks) k, z.placed);
      }))))

  pub bundled_fate : (s : State) (assigns : List (Target × Right)) → Holding s → AreWellFormedAssigns p l assigns → Fate (AssignHasCause p.shapes s assigns) (IsLater l s) (bundled p.shapes s assigns)
  bundled_fate s assigns o w =
      fate_first (AssignHasCause p.shapes s assigns) (IsPlanned s) (IsLater l s) (planned p.shapes s assigns) (λ q. all_written q.writes q.state) (planned_fate s assigns o w) (λ q is h.
      fate_map ⊥ ⊥ (IsLater l q.state) (IsLater l s) (all_written q.writes q.state) (all_written_fate l q.writes q.state h.placed) (λ x. x) (λ v k. later_again l s q.state v h.later k))

  pub arguments_fate : (s : State) (es : List Expr) → Holding s → AreWellFormed p l es → Fate (OneHasCause (store_of p.shapes s) es) Any (all_evaluated (store_of p.shapes s) es)
  arguments_fate s es h w = fate_of (OneHasCause (store_of p.shapes s) es) (all_evaluated (store_of p.shapes s) es) (one_has_cause p l (store_of p.shapes s) laid (holding s h) es w)

-- ---- calls

pub interfaces_fate : (st : Store) (is : List Interface) → Fate (InterfaceHasCause st is) Any (reads_interfaces st is)
interfaces_fate st [] = tt
interfaces_fate st (i ∷ is) =
    fate_then (HasUntrueLimits st i.limits (slice_index st.locals i.param)) Any (λ v. InterfaceHasCause st is) Any (reads_limited st i.limits (slice_index st.locals i.param)) (λ v. reads_interfaces st is)
    (fate_of (HasUntrueLimits st i.limits (slice_index st.locals i.param)) (reads_limited st i.limits (slice_index st.locals i.param)) (untrue_limits st i.limits (slice_index st.locals i.param)))
    (λ v there u. interfaces_fate st is)

result_fate : (shapes : List Shape) (s : State) (limits : Option Limits) (entry : List ℕ) (n : ℕ)
    → Fate (ResultHasCause (record { shapes = shapes; blocks = s.blocks; locals = entry }) limits n) Any (reads_result shapes s limits entry n)
result_fate shapes s None entry n = tt
result_fate shapes s (Some limits) entry n =
    let st : Store = record { shapes = shapes; blocks = s.blocks; locals = entry } in
    fate_first (HasUntrueLimits st limits n) Any Any (reads_limited st limits n) (λ v. Ok v.number) (fate_of (HasUntrueLimits st limits n) (reads_limited st limits n) (untrue_limits st limits n)) (λ v is u. tt)

kept_fate : (p : Program) (l : Layout) (target : Kept) (n : ℕ) (s : State) → AreThere p s.blocks → IsWellFormedKept p (Some target) → Fate ⊥ (IsLater l s) (writes (kept_place target) n s)
kept_fate p l (kept.Local x width) n s h w = writes_fate l (place.Local x width) n s tt
kept_fate p l (kept.Static a width) n s h w = writes_fate l (place.Memory a width None) n s (lies_kept width a (map block_of p.objects) s.blocks h w)

pub hands_fate : (p : Program) (l : Layout) (shapes : List Shape) (s : State) (limits : Option Limits) (entry : List ℕ) (target : Option Kept) (n : ℕ) → AreThere p s.blocks → IsWellFormedKept p target
    → Fate (HandingHasCause (record { shapes = shapes; blocks = s.blocks; locals = entry }) limits target n) (IsLater l s) (hands shapes s limits entry target n)
hands_fate p l shapes s limits entry None n h w = later_itself l s
hands_fate p l shapes s limits entry (Some target) n h w =
    let st : Store = record { shapes = shapes; blocks = s.blocks; locals = entry } in
    fate_first (ResultHasCause st limits n) Any (IsLater l s) (reads_result shapes s limits entry n) (λ m. writes (kept_place target) m s) (result_fate shapes s limits entry n)
    (λ m is u. kept_fate p l target m s h w)
