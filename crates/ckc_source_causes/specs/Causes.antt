-- Why a step of a program is stuck (Checked C specification 0.9, section 3): it goes through a `T *` to what no block has, or it
-- reads a checked pointer whose bounds are not true. Parts are asked for from left to right, each only where those before it have a
-- value.
use Rattle.std.specs.Prelude.{◌≡◌, ◌≢◌, ◌⊎◌, ℕ, ◌≤◌, ◌%◌, All, ℤ, pos, true, false, List, [], ◌∷◌, slice_index, slice_get, Option, Some, None, Result, Ok}
use Rattle.ckc_base.specs.declared.arithmetic.Width.{Width}
use Rattle.ckc_base.specs.declared.arithmetic.Width.TheVariants.{Word}
use Rattle.ckc_base.specs.States.{state_at}
use Rattle.ckc_base.specs.Traces as standing
use Rattle.ckc_source.specs.declared.expr.Access.{Access}
use Rattle.ckc_source.specs.declared.expr.Count.{Count}
use Rattle.ckc_source.specs.declared.expr.Count.TheVariants as count
use Rattle.ckc_source.specs.declared.expr.Limits.{Limits}
use Rattle.ckc_source.specs.declared.expr.Pointee.{Pointee}
use Rattle.ckc_source.specs.declared.expr.Through.{Through}
use Rattle.ckc_source.specs.declared.expr.Through.TheVariants as through
use Rattle.ckc_source.specs.declared.outcome.Halt.{Halt}
use Rattle.ckc_source.specs.declared.outcome.Value.{Value}
use Rattle.ckc_source.specs.declared.program.Interface.{Interface}
use Rattle.ckc_source.specs.declared.program.Shape.{Shape}
use Rattle.ckc_source.specs.declared.stmt.Kept.{Kept}
use Rattle.ckc_base.specs.Memory.{data_end}
use Rattle.ckc_source.specs.Blocks.{Block, end_of, first_place, lies_in, loaded}
use Rattle.ckc_source.specs.Code.{Expr, Number, Local, Limited, Array, Load, Member, Address, Moved, Added, Binary, And, Or, Choice, Narrow, Bare, Tested, Trusted, Target, Nothing, Variable, Memory, Right, Fresh, Code, End, Assign, Bundle, Get, Put, Call, If, Loop, Break, Continue, Return, Check, Program}
use Rattle.ckc_source.specs.Code as code
use Rattle.ckc_source.specs.Eval.{Store, element, place_in, counted, end_address, reads_limited, evaluated, all_evaluated}
use Rattle.ckc_source.specs.Runs.{is_true}
use Rattle.ckc_source.specs.Source.{first_state, source, source_system}
use Rattle.ckc_source.specs.States.{Work, Rest, Turn, Caller, State, settled}
use Rattle.ckc_source.specs.Steps.{store_of, aimed, allowed, drawn, at_work, in_call}
use Rattle.ckc_source.specs.Words.{exact, width_of, elements_behind}
use Rattle.ckc_source_causes.specs.Layouts.{Layout}
use Rattle.ckc_source_causes.specs.WellFormed.{LiesInObject}

-- ---- the two causes

-- An access through a `T *`, at an address, is misaligned or lies in no block. One by name always lies in its object, and one
-- through a checked pointer in the range of that.
abbrev pub IsNowhere : Store → Through → Width → ℕ → Type 0
IsNowhere s through.Raw width a = lies_in width a s.blocks ≡ false
IsNowhere s _ width a = ⊥

-- the range from one address to another is that of a pointer n into some run of elements
abbrev pub IsTrueRange : Store → Pointee → ℕ → ℤ → ℤ → Type 0
IsTrueRange s to n low high =
    (a : ℕ) × (b : ℕ) × (low ≡ pos a) × (high ≡ pos b) × (is_true s.shapes s.blocks to n a b ≡ true)

-- A checked pointer n is read that is not null, and its range is not true.
abbrev pub IsUntrue : Store → Pointee → ℕ → ℤ → ℤ → Type 0
IsUntrue s to n low high = (n ≢ 0) × (IsTrueRange s to n low high → ⊥)

-- the same of a pointer n with limits
abbrev pub HasUntrueLimits : Store → Limits → ℕ → Type 0
HasUntrueLimits s limits n =
    IsUntrue s limits.to n (end_address s.locals limits.to.size n limits.lower) (end_address s.locals limits.to.size n limits.upper)

-- There is a value, and this holds of it.
abbrev pub Then : {A : Type 0} → Result A Halt → (A → Type 0) → Type 0
Then {A} r P = (v : A) × (r ≡ Ok v) × P v

-- ---- expressions

-- the number of elements of a pointer is kept by a member of the structure that begins there, and that lies nowhere
abbrev pub HasNoCount : Store → Through → ℕ → Count → Type 0
HasNoCount s how begin (count.Fixed n) = ⊥
HasNoCount s how begin (count.Member offset form add) = IsNowhere s how (width_of form) (place_in begin offset)

-- A pointer in memory cannot be read: it lies nowhere, or the number of its elements does, or its range is not true.
abbrev pub IsNoPointer : Store → Through → Pointee → Count → (begin a : ℕ) → Type 0
IsNoPointer s how to many begin a =
    IsNowhere s how Word a
    ⊎ ((n : ℕ) × (loaded Word a s.blocks ≡ Some n)
    × (HasNoCount s how begin many ⊎ Then (counted s begin many) (λ m. IsUntrue s to n (pos n) (elements_behind n to.size m))))

-- Of two parts the first one is stuck for a cause, or the second one is, or this holds of their values.
abbrev pub OfBoth : Store → (e f : Expr) → (C D : Type 0) → (Value → Value → Type 0) → Type 0
OfBoth s e f C D P = C ⊎ Then (evaluated s e) (λ v. D ⊎ Then (evaluated s f) (λ k. P v k))

-- this holds of the address of the element that an access goes to, through a pointer at an index
abbrev pub AtElement : Access → Value → Value → (ℕ → Type 0) → Type 0
AtElement access p i P = Then (element access p i.number) P

-- An expression is stuck for a cause.
abbrev pub HasCause : Store → Expr → Type 0
HasCause s (Number n) = ⊥
HasCause s (Local x) = ⊥
HasCause s (Limited x limits) = HasUntrueLimits s limits (slice_index s.locals x)
HasCause s (Array at bytes) = ⊥
HasCause s (Load width access p i) =
    OfBoth s p i (HasCause s p) (HasCause s i) (λ v k. AtElement access v k (λ a. IsNowhere s access.through width (place_in a access.offset)))
HasCause s (Member to many access p i) =
    OfBoth s p i (HasCause s p) (HasCause s i)
    (λ v k. AtElement access v k (λ a. IsNoPointer s access.through to many a (place_in a access.offset)))
HasCause s (Address bytes access p i) = OfBoth s p i (HasCause s p) (HasCause s i) (λ v k. ⊥)
HasCause s (Moved shift p i) = OfBoth s p i (HasCause s p) (HasCause s i) (λ v k. ⊥)
HasCause s (Added shift i p) = OfBoth s i p (HasCause s i) (HasCause s p) (λ v k. ⊥)
HasCause s (Binary operation is_signed at a b) = OfBoth s a b (HasCause s a) (HasCause s b) (λ v k. ⊥)
HasCause s (And a b) = HasCause s a ⊎ Then (evaluated s a) (λ v. (v.number ≢ 0) × HasCause s b)
HasCause s (Or a b) = HasCause s a ⊎ Then (evaluated s a) (λ v. (v.number ≡ 0) × HasCause s b)
HasCause s (Choice c a b) =
    HasCause s c ⊎ Then (evaluated s c) (λ v. ((v.number ≢ 0) × HasCause s a) ⊎ ((v.number ≡ 0) × HasCause s b))
HasCause s (Narrow e) = HasCause s e
HasCause s (Bare p) = HasCause s p
HasCause s (Tested size form at p k) = OfBoth s p k (HasCause s p) (HasCause s k) (λ v c. ⊥)
HasCause s (Trusted to form p k) =
    OfBoth s p k (HasCause s p) (HasCause s k)
    (λ v c. IsUntrue s to v.number (pos v.number) (elements_behind v.number to.size (exact form c.number)))

-- the first of some expressions that has no value is stuck for a cause
abbrev pub OneHasCause : Store → List Expr → Type 0
OneHasCause s [] = ⊥
OneHasCause s (e ∷ es) = HasCause s e ⊎ Then (evaluated s e) (λ v. OneHasCause s es)

-- ---- assignments

-- what is assigned to
abbrev pub TargetHasCause : Store → Target → Type 0
TargetHasCause s Nothing = ⊥
TargetHasCause s (Variable x width) = ⊥
TargetHasCause s (Memory width access p i) =
    OfBoth s p i (HasCause s p) (HasCause s i) (λ v k. AtElement access v k (λ a. IsNowhere s access.through width (place_in a access.offset)))

-- what is assigned
abbrev pub RightHasCause : Store → Right → Type 0
RightHasCause s (code.Value e) = HasCause s e
RightHasCause s (Fresh to e) = HasCause s e

-- the first of some assignments that cannot be made: its target or its right side is stuck for a cause
abbrev pub AssignHasCause : List Shape → State → List (Target × Right) → Type 0
AssignHasCause shapes s [] = ⊥
AssignHasCause shapes s (a ∷ rest) =
    TargetHasCause (store_of shapes s) a.0
    ⊎ Then (aimed (store_of shapes s) a.0) (λ to. RightHasCause (store_of shapes s) a.1
    ⊎ Then (drawn shapes s a.1) (λ d. Then (allowed to d.number) (λ written. AssignHasCause shapes d.state rest)))

-- ---- calls

-- an interface of a function that is entered has limits that are not true
abbrev pub InterfaceHasCause : Store → List Interface → Type 0
InterfaceHasCause s [] = ⊥
InterfaceHasCause s (i ∷ is) =
    HasUntrueLimits s i.limits (slice_index s.locals i.param)
    ⊎ Then (reads_limited s i.limits (slice_index s.locals i.param)) (λ v. InterfaceHasCause s is)

-- a function of the program is entered with these arguments, and one of its interfaces has limits that are not true
abbrev pub EntryHasCause : Program → State → Option Kept → ℕ → List ℕ → Type 0
EntryHasCause p s target callee values =
    (f : code.Function) × (slice_get p.functions callee ≡ Some f)
    × InterfaceHasCause (store_of p.shapes (in_call s target values f)) f.interfaces

-- the result of a call has limits that are not true
abbrev pub ResultHasCause : Store → Option Limits → ℕ → Type 0
ResultHasCause s None n = ⊥
ResultHasCause s (Some limits) n = HasUntrueLimits s limits n

-- A result goes to where its caller keeps it: its limits are not true, with the values that the parameters had at the entry.
abbrev pub HandingHasCause : Store → Option Limits → Option Kept → ℕ → Type 0
HandingHasCause s limits None n = ⊥
HandingHasCause s limits (Some target) n = ResultHasCause s limits n

-- a call returns a value to the call that waits for it
abbrev pub ReturnHasCause : List Shape → State → List Caller → ℕ → Type 0
ReturnHasCause shapes s [] n = ⊥
ReturnHasCause shapes s (caller ∷ callers) n =
    HandingHasCause (record { shapes = shapes; blocks = s.blocks; locals = s.frame.entry }) s.frame.function.result caller.target n

-- ---- steps

-- the step of the statement in front is stuck for a cause
abbrev pub StatementHasCause : Program → State → List Work → Code → Type 0
StatementHasCause p s work (Assign spot target right rest) =
    AssignHasCause p.shapes (at_work s (Rest rest ∷ work)) ((target, right) ∷ [])
StatementHasCause p s work (Bundle spot assigns rest) = AssignHasCause p.shapes (at_work s (Rest rest ∷ work)) assigns
StatementHasCause p s work (Get spot target rest) = TargetHasCause (store_of p.shapes s) target
StatementHasCause p s work (Put spot target e rest) =
    TargetHasCause (store_of p.shapes s) target
    ⊎ Then (aimed (store_of p.shapes s) target) (λ to. HasCause (store_of p.shapes s) e)
StatementHasCause p s work (Call spot target callee es rest) =
    OneHasCause (store_of p.shapes s) es
    ⊎ Then (all_evaluated (store_of p.shapes s) es) (λ values. EntryHasCause p (at_work s (Rest rest ∷ work)) target callee values)
StatementHasCause p s work (If spot e one two rest) = HasCause (store_of p.shapes s) e
StatementHasCause p s work (Loop spot e body step rest) = HasCause (store_of p.shapes s) e
StatementHasCause p s work (Return spot e rest) =
    HasCause (store_of p.shapes s) e
    ⊎ Then (evaluated (store_of p.shapes s) e) (λ v. ReturnHasCause p.shapes s s.callers v.number)
StatementHasCause p s work (Check spot e rest) = HasCause (store_of p.shapes s) e
StatementHasCause p s work End = ⊥
StatementHasCause p s work (Break rest) = ⊥
StatementHasCause p s work (Continue rest) = ⊥

-- the step of what comes next; a function that falls off its end returns 0
abbrev pub WorkHasCause : Program → State → List Work → Type 0
WorkHasCause p s [] = ReturnHasCause p.shapes s s.callers 0
WorkHasCause p s (Rest rest ∷ work) = StatementHasCause p s work rest
WorkHasCause p s (Turn rest ∷ work) = ⊥

-- A block lies in the data region at a multiple of 4, and its elements have the size of their type.
pub record LiesInData (l : Layout) (b : Block) : Type 0 where
  pub first : first_place ≤ b.base
  pub at : b.base % 4 ≡ 0
  pub below : end_of b ≤ data_end
  pub size : b.size ≡ l.size b.element

-- A store holds the objects of the program: what lies in one lies in a block of the store. All its blocks lie in the data region.
pub record HoldsObjects (p : Program) (l : Layout) (s : Store) : Type 0 where
  pub shapes : s.shapes ≡ p.shapes
  pub objects : (width : Width) (a : ℕ) → LiesInObject p width a → lies_in width a s.blocks ≡ true
  pub blocks : All (LiesInData l) s.blocks

-- The next step of a state is stuck for a cause.
abbrev pub IsStuckForCause : Program → State → Type 0
IsStuckForCause p s = WorkHasCause p s (settled s.frame.work)

-- A run of the program is stuck, with any input, only where its next step is stuck for a cause.
abbrev pub IsStuckForCauseAlone : Program → Type 0
IsStuckForCauseAlone p =
    (input : List ℕ) (n : ℕ) → (source p input n).standing ≡ standing.Stuck
    → IsStuckForCause p (state_at (source_system p) (first_state p input) n)
