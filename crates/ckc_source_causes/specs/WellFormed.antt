-- Programs that are well formed: what an access, a bounds cast or a call names is there. An access by name goes to an object of
-- the program, and one through a checked pointer has a pointer that is null or has a range; what either reads or writes lies in an
-- element of the type that it goes to. A cast that tests bounds has such a pointer; a call names a function and has as many
-- arguments as that has parameters.
use Rattle.std.specs.Prelude.{◌≡◌, ℕ, true, false, List, [], ◌∷◌, map, length, slice_get, Option, Some, None, All}
use Rattle.ckc_types.specs.declared.types.CType.{CType}
use Rattle.ckc_base.specs.declared.arithmetic.Width.{Width}
use Rattle.ckc_base.specs.declared.arithmetic.Width.TheVariants.{Word}
use Rattle.ckc_source.specs.declared.expr.Access.{Access}
use Rattle.ckc_source.specs.declared.expr.Through.{Through}
use Rattle.ckc_source.specs.declared.expr.Through.TheVariants as through
use Rattle.ckc_source.specs.declared.stmt.Kept.{Kept}
use Rattle.ckc_source.specs.declared.stmt.Kept.TheVariants as kept
use Rattle.ckc_source.specs.Blocks.{block_of, lies_in}
use Rattle.ckc_source.specs.LaidOut.{IsLaidOut}
use Rattle.ckc_source.specs.Code.{Expr, Number, Local, Limited, Array, Load, Member, Address, Moved, Added, Binary, And, Or, Choice, Narrow, Bare, Tested, Trusted, Target, Nothing, Variable, Memory, Right, Value, Fresh, Code, End, Assign, Bundle, Get, Put, Call, If, Loop, Break, Continue, Return, Check, Function, Program}
use Rattle.ckc_source_causes.specs.Layouts.{Layout, IsCellOf, IsCountOf, PointsTo, NamesElements, IsLaidOutBy}
use Rattle.ckc_source_causes.specs.Ranges.{GivesRange, LeadsTo}

-- the function is there and has so many parameters
abbrev pub HasParams : ℕ → Option Function → Type 0
HasParams count (Some f) = f.params ≡ count
HasParams count None = ⊥

-- ---- accesses

-- an access at an address is aligned and lies in an object of the program
abbrev pub LiesInObject : Program → Width → ℕ → Type 0
LiesInObject p width a = lies_in width a (map block_of p.objects) ≡ true

-- this holds of an access that goes through anything but a `T *`
abbrev pub UnlessRaw : Through → Type 0 → Type 0
UnlessRaw through.Raw P = Unit {0}
UnlessRaw _ P = P

-- An access goes to elements of a type of which it knows the size, and this holds of that type; or it goes through a `T *`.
abbrev pub Accesses : Program → Layout → Access → Expr → Expr → (CType → Type 0) → Type 0
Accesses p l access e i P =
    UnlessRaw access.through ((t : CType) × (access.size ≡ l.size t) × LeadsTo p l access.through t e i × P t)

-- an access of which no more is known, as that of an address
abbrev pub IsWellFormedAccess : Program → Layout → Access → Expr → Expr → Type 0
IsWellFormedAccess p l access e i = Accesses p l access e i (λ t. Unit {0})

-- an access that is read or written, which lies in an element
abbrev pub IsWellFormedCell : Program → Layout → Width → Access → Expr → Expr → Type 0
IsWellFormedCell p l width access e i = Accesses p l access e i (λ t. IsCellOf l t access.offset width)

-- ---- expressions

-- Each access in an expression is well formed, each named array and string literal in it is an object, and each cast in it that
-- tests bounds has a pointer that is null or has a range.
abbrev pub IsWellFormedExpr : Program → Layout → Expr → Type 0
IsWellFormedExpr p l (Number n) = Unit {0}
IsWellFormedExpr p l (Local x) = Unit {0}
IsWellFormedExpr p l (Limited x limits) = Unit {0}
IsWellFormedExpr p l (Array at bytes) = (t : CType) × NamesElements p l t false at bytes
IsWellFormedExpr p l (Load width access e i) =
    IsWellFormedCell p l width access e i × IsWellFormedExpr p l e × IsWellFormedExpr p l i
IsWellFormedExpr p l (Member to many access e i) =
    Accesses p l access e i (λ t. IsCellOf l t access.offset Word × IsCountOf l t many) × IsWellFormedExpr p l e × IsWellFormedExpr p l i
IsWellFormedExpr p l (Address bytes access e i) =
    IsWellFormedAccess p l access e i × IsWellFormedExpr p l e × IsWellFormedExpr p l i
IsWellFormedExpr p l (Moved shift e i) = IsWellFormedExpr p l e × IsWellFormedExpr p l i
IsWellFormedExpr p l (Added shift i e) = IsWellFormedExpr p l i × IsWellFormedExpr p l e
IsWellFormedExpr p l (Binary operation is_signed at a b) = IsWellFormedExpr p l a × IsWellFormedExpr p l b
IsWellFormedExpr p l (And a b) = IsWellFormedExpr p l a × IsWellFormedExpr p l b
IsWellFormedExpr p l (Or a b) = IsWellFormedExpr p l a × IsWellFormedExpr p l b
IsWellFormedExpr p l (Choice c a b) = IsWellFormedExpr p l c × IsWellFormedExpr p l a × IsWellFormedExpr p l b
IsWellFormedExpr p l (Narrow e) = IsWellFormedExpr p l e
IsWellFormedExpr p l (Bare e) = IsWellFormedExpr p l e
IsWellFormedExpr p l (Tested size form at e k) =
    ((t : CType) × GivesRange p l t false e) × IsWellFormedExpr p l e × IsWellFormedExpr p l k
IsWellFormedExpr p l (Trusted to form e k) = IsWellFormedExpr p l e × IsWellFormedExpr p l k

-- this of each of some
abbrev pub AreWellFormed : Program → Layout → List Expr → Type 0
AreWellFormed p l [] = Unit {0}
AreWellFormed p l (e ∷ es) = IsWellFormedExpr p l e × AreWellFormed p l es

-- ---- statements

-- what an assignment writes
abbrev pub IsWellFormedTarget : Program → Layout → Target → Type 0
IsWellFormedTarget p l Nothing = Unit {0}
IsWellFormedTarget p l (Variable x width) = Unit {0}
IsWellFormedTarget p l (Memory width access e i) =
    IsWellFormedCell p l width access e i × IsWellFormedExpr p l e × IsWellFormedExpr p l i

-- what is assigned
abbrev pub IsWellFormedRight : Program → Layout → Right → Type 0
IsWellFormedRight p l (Value e) = IsWellFormedExpr p l e
IsWellFormedRight p l (Fresh to e) = PointsTo l to.element false to × IsWellFormedExpr p l e

-- the assignments of a bundle
abbrev pub AreWellFormedAssigns : Program → Layout → List (Target × Right) → Type 0
AreWellFormedAssigns p l [] = Unit {0}
AreWellFormedAssigns p l (a ∷ rest) = IsWellFormedTarget p l a.0 × IsWellFormedRight p l a.1 × AreWellFormedAssigns p l rest

-- The result of a call goes to a local, or to an object of the program, and lies in it.
abbrev pub IsWellFormedKept : Program → Option Kept → Type 0
IsWellFormedKept p None = Unit {0}
IsWellFormedKept p (Some (kept.Local x width)) = Unit {0}
IsWellFormedKept p (Some (kept.Static a width)) = LiesInObject p width a

-- Statements and those after them are well formed. A call names a function of the program, with as many arguments as that
-- has parameters.
abbrev pub IsWellFormedCode : Program → Layout → Code → Type 0
IsWellFormedCode p l End = Unit {0}
IsWellFormedCode p l (Assign spot target right rest) =
    IsWellFormedTarget p l target × IsWellFormedRight p l right × IsWellFormedCode p l rest
IsWellFormedCode p l (Bundle spot assigns rest) = AreWellFormedAssigns p l assigns × IsWellFormedCode p l rest
IsWellFormedCode p l (Get spot target rest) = IsWellFormedTarget p l target × IsWellFormedCode p l rest
IsWellFormedCode p l (Put spot target e rest) =
    IsWellFormedTarget p l target × IsWellFormedExpr p l e × IsWellFormedCode p l rest
IsWellFormedCode p l (Call spot target callee es rest) =
    IsWellFormedKept p target × HasParams (length es) (slice_get p.functions callee) × AreWellFormed p l es
    × IsWellFormedCode p l rest
IsWellFormedCode p l (If spot e one two rest) =
    IsWellFormedExpr p l e × IsWellFormedCode p l one × IsWellFormedCode p l two × IsWellFormedCode p l rest
IsWellFormedCode p l (Loop spot e body step rest) =
    IsWellFormedExpr p l e × IsWellFormedCode p l body × IsWellFormedCode p l step × IsWellFormedCode p l rest
IsWellFormedCode p l (Break rest) = IsWellFormedCode p l rest
IsWellFormedCode p l (Continue rest) = IsWellFormedCode p l rest
IsWellFormedCode p l (Return spot e rest) = IsWellFormedExpr p l e × IsWellFormedCode p l rest
IsWellFormedCode p l (Check spot e rest) = IsWellFormedExpr p l e × IsWellFormedCode p l rest

-- the step of a loop does not begin with `break` or `continue`
abbrev pub IsStep : Code → Type 0
IsStep (Break rest) = ⊥
IsStep (Continue rest) = ⊥
IsStep _ = Unit {0}

-- each loop in statements has such a step
abbrev pub HasSteps : Code → Type 0
HasSteps (Assign spot target right rest) = HasSteps rest
HasSteps (Bundle spot assigns rest) = HasSteps rest
HasSteps (Get spot target rest) = HasSteps rest
HasSteps (Put spot target e rest) = HasSteps rest
HasSteps (Call spot target callee es rest) = HasSteps rest
HasSteps (If spot e one two rest) = HasSteps one × HasSteps two × HasSteps rest
HasSteps (Loop spot e body step rest) = IsStep step × HasSteps body × HasSteps step × HasSteps rest
HasSteps (Break rest) = HasSteps rest
HasSteps (Continue rest) = HasSteps rest
HasSteps (Return spot e rest) = HasSteps rest
HasSteps (Check spot e rest) = HasSteps rest
HasSteps End = Unit {0}

-- ---- programs

-- the body of a function is well formed
abbrev pub HasWellFormedBody : Program → Layout → Function → Type 0
HasWellFormedBody p l f = IsWellFormedCode p l f.body

-- each loop of a function has a step that is one
abbrev pub HasStepsInBody : Function → Type 0
HasStepsInBody f = HasSteps f.body

-- A program is well formed: `main` is there and has no parameters, there is a layout of its types by which the body of each
-- function is well formed, no step of a loop begins with `break` or `continue`, and its objects lie apart in the data region, by
-- that layout, and begin as bytes.
pub record IsWellFormed (p : Program) : Type 0 where
  pub layout : Layout
  pub main : HasParams 0 (slice_get p.functions p.main)
  pub bodies : All (HasWellFormedBody p layout) p.functions
  pub steps : All HasStepsInBody p.functions
  pub types : IsLaidOutBy p layout
  pub objects : IsLaidOut p
