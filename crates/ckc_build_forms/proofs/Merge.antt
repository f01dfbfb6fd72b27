-- A program that has the form, and whose places in the text fit in 32 bits, can be compiled.
use Rattle.std.proofs.Common.{ℕ, ◌<◌, ◌^◌, Bool, true, false, List, [], ◌∷◌}
use Rattle.std.specs.Prelude.{Option, Some, None, All, IfSome}
use Rattle.std.proofs.lemmas.List.Elements.{All-nil, All-cons}
use Rattle.ckc_base.specs.declared.places.Pos.{Pos}
use Rattle.ckc_core.specs.WellFormed.{IsPlace}
use Rattle.ckc_source.specs.declared.expr.Access.{Access}
use Rattle.ckc_source.specs.declared.expr.Base.{Base}
use Rattle.ckc_source.specs.declared.expr.Base.TheVariants as bases
use Rattle.ckc_source.specs.declared.expr.End.{End as LimitsEnd}
use Rattle.ckc_source.specs.declared.expr.Limits.{Limits}
use Rattle.ckc_source.specs.declared.expr.Shift.{Shift}
use Rattle.ckc_source.specs.declared.expr.Through.{Through}
use Rattle.ckc_source.specs.declared.expr.Through.TheVariants.{Named, Raw, One, Array as Arrays, Terminated}
use Rattle.ckc_source.specs.declared.stmt.Kept.{Kept}
use Rattle.ckc_source.specs.declared.stmt.Kept.TheVariants as kept
use Rattle.ckc_source.specs.Code.{Expr, Number, Local, Limited, Array, Load, Member, Address, Moved, Added, Binary, And, Or, Choice, Narrow, Bare, Tested, Trusted, Target, Nothing, Variable, Memory, Right, Value, Fresh, Code, End, Assign, Bundle, Get, Put, Call, If, Loop, Break, Continue, Return, Check, Function}
use Rattle.ckc_checks_operands.specs.Cases.{casts_one, is_ranged}
use Rattle.ckc_checks_operands.specs.Compilable.{IsBase, IsEnd, AreEnds, IsRanged, HasRange, IsBounded, IsJudged, IsAccess, IsChecked, IsShift, IsCast, IsCompilableExpr, IsCompilablePart, IsCompilableTarget, IsCompilableRight, IsCompilableAssign, IsCompilableKept, IsCompilableCode}
use Rattle.ckc_build_words.specs.Places.{ExprPlaces, ExprsPlaces, TargetPlaces, RightPlaces, AssignsPlaces, CodePlaces}
use Rattle.ckc_build_forms.proofs.Forms.{BaseForm, EndForm, LimitsForm, RangedForm, RangeForm, BoundedForm, JudgedForm, AccessForm, ShiftForm, CastForm, ExprForm, PartForm, TargetForm, RightForm, AssignsForm, PartsForm, KeptForm, CodeForm}

module _ (n : ℕ) where
  base_is : (b : Base) → BaseForm n b → IsBase n b
  base_is bases.Own h = tt
  base_is (bases.Local x) h = h
  base_is (bases.Fixed a) h = h

  end_is : (e : LimitsEnd) → EndForm n e → IsEnd n e
  end_is e h = (base_is e.base h.0, h.1, h.2)

  ends_are : (limits : Limits) → LimitsForm n limits → AreEnds n limits
  ends_are limits h = (h.0, end_is limits.lower h.1, end_is limits.upper h.2)

  ranged_is : (e : Expr) → RangedForm n e → IsRanged n e
  ranged_is (Limited x limits) h = ends_are limits h
  ranged_is (Array at bytes) h = h
  ranged_is (Member to count access p i) h = h
  ranged_is (Address bytes access p i) h = h
  ranged_is (Moved shift p i) h = ranged_is p h
  ranged_is (Added shift i p) h = ranged_is p h
  ranged_is (Number a) h = absurd h
  ranged_is (Local x) h = absurd h
  ranged_is (Load width access p i) h = absurd h
  ranged_is (Binary operation is_signed at a b) h = absurd h
  ranged_is (And a b) h = absurd h
  ranged_is (Or a b) h = absurd h
  ranged_is (Choice c a b) h = absurd h
  ranged_is (Narrow e) h = absurd h
  ranged_is (Bare p) h = absurd h
  ranged_is (Tested size form at p k) h = absurd h
  ranged_is (Trusted to form p k) h = absurd h

  range_is : (e : Expr) → RangeForm n e → ExprPlaces e → HasRange n e
  range_is (Limited x limits) h w = ends_are limits h
  range_is (Array at bytes) h w = h
  range_is (Member to count access p i) h w = h
  range_is (Address bytes access p i) h w = h
  range_is (Moved shift p i) h w = range_is p h w.1
  range_is (Added shift i p) h w = range_is p h w.2
  range_is (Choice c a b) h w = (range_is a h.0 w.1, range_is b h.1 w.2)
  range_is (Tested size form at p k) h w = (w.0, h.0, range_is p h.1 w.1)
  range_is (Trusted to form p k) h w = h
  range_is (Number a) h w = tt
  range_is (Local x) h w = tt
  range_is (Load width access p i) h w = tt
  range_is (Binary operation is_signed at a b) h w = tt
  range_is (And a b) h w = tt
  range_is (Or a b) h w = tt
  range_is (Narrow e) h w = tt
  range_is (Bare p) h w = tt

  bounded_is : (b : Bool) (p : Expr) → BoundedForm n b p → ExprPlaces p → IsBounded n b p
  bounded_is true p h w = ranged_is p h
  bounded_is false p h w = range_is p h w

  judged_is : (through : Through) (size : ℕ) (p i : Expr) → JudgedForm n through size p i → ExprPlaces p → IsJudged n through size p i
  judged_is Named size p i h w = tt
  judged_is Raw size p i h w = tt
  judged_is One size p i h w = h
  judged_is Arrays size p i h w = (h.0.0, h.0.1, bounded_is (is_ranged p) p h.1 w)
  judged_is Terminated size p i h w = (h.0.0, h.0.1, bounded_is (is_ranged p) p h.1 w)

  access_is : (access : Access) (p i : Expr) → AccessForm n access p i → IsPlace access.at → ExprPlaces p → IsAccess n access p i
  access_is access p i h w q = (w, h.0, h.1, judged_is access.through access.size p i h.2 q)

  checked_is : (checked : Bool) (shift : Shift) → ShiftForm checked shift.size → IsPlace shift.at → IsChecked checked shift
  checked_is false shift h w = tt
  checked_is true shift h w = (w, h.0, h.1)

  shift_is : (shift : Shift) → shift.size < 2 ^ 32 → ShiftForm shift.checked shift.size → IsPlace shift.at → IsShift shift
  shift_is shift small h w = (small, checked_is shift.checked shift h w)

  cast_is : (one : Bool) (size : ℕ) (at : Pos) (p : Expr) → CastForm n one size p → IsPlace at → ExprPlaces p → IsCast n one size at p
  cast_is true size at p h w f = tt
  cast_is false size at p h w f = (w, h.0, range_is p h.1 f)

  pub expr_is : (e : Expr) → ExprForm n e → ExprPlaces e → IsCompilableExpr n e
  expr_is (Number a) h w = h
  expr_is (Local x) h w = h
  expr_is (Limited x limits) h w = h.0
  expr_is (Array at bytes) h w = h.0
  expr_is (Load width access p i) h w = (access_is access p i h.0 w.0 w.1, expr_is p h.1 w.1, expr_is i h.2 w.2)
  expr_is (Member to count access p i) h w = (access_is access p i h.2 w.0 w.1, expr_is p h.3 w.1, expr_is i h.4 w.2)
  expr_is (Address bytes access p i) h w = (access_is access p i h.1 w.0 w.1, expr_is p h.2 w.1, expr_is i h.3 w.2)
  expr_is (Moved shift p i) h w = (shift_is shift h.0 h.1 w.0, expr_is p h.2 w.1, expr_is i h.3 w.2)
  expr_is (Added shift i p) h w = (shift_is shift h.0 h.1 w.0, expr_is i h.2 w.1, expr_is p h.3 w.2)
  expr_is (Binary operation is_signed at a b) h w = (w.0, expr_is a h.0 w.1, expr_is b h.1 w.2)
  expr_is (And a b) h w = (expr_is a h.0 w.0, expr_is b h.1 w.1)
  expr_is (Or a b) h w = (expr_is a h.0 w.0, expr_is b h.1 w.1)
  expr_is (Choice c a b) h w = (expr_is c h.0 w.0, expr_is a h.1 w.1, expr_is b h.2 w.2)
  expr_is (Narrow e) h w = expr_is e h w
  expr_is (Bare p) h w = expr_is p h w
  expr_is (Tested size form at p k) h w = (cast_is (casts_one size p k) size at p h.1 w.0 w.1, expr_is p h.2 w.1, expr_is k h.3 w.2)
  expr_is (Trusted to form p k) h w = (expr_is p h.1 w.0, expr_is k h.2 w.1)

  part_is : (e : Expr) → PartForm n e → ExprPlaces e → IsCompilablePart n e
  part_is e h w = (expr_is e h.0 w, h.1)

  target_is : (t : Target) → TargetForm n t → TargetPlaces t → IsCompilableTarget n t
  target_is Nothing h w = tt
  target_is (Variable x width) h w = h
  target_is (Memory width access p i) h w = (access_is access p i h.0 w.0 w.1, part_is p h.1 w.1, part_is i h.2 w.2)

  right_is : (r : Right) → RightForm n r → RightPlaces r → IsCompilableRight n r
  right_is (Value e) h w = part_is e h w
  right_is (Fresh to e) h w = (part_is e h.1 w, h.0)

  assigns_are : (all : List (Target × Right)) → AssignsForm n all → AssignsPlaces all → All (IsCompilableAssign n) all
  assigns_are [] h w = All-nil (IsCompilableAssign n)
  assigns_are (a ∷ rest) h w = All-cons (IsCompilableAssign n) a rest (target_is a.0 h.0 w.0, right_is a.1 h.1 w.1) (assigns_are rest h.2 w.2)

  parts_are : (es : List Expr) → PartsForm n es → ExprsPlaces es → All (IsCompilablePart n) es
  parts_are [] h w = All-nil (IsCompilablePart n)
  parts_are (e ∷ es) h w = All-cons (IsCompilablePart n) e es (part_is e h.0 w.0) (parts_are es h.1 w.1)

  kept_is : (k : Option Kept) → KeptForm n k → IfSome k (IsCompilableKept n)
  kept_is None h = tt
  kept_is (Some (kept.Local x width)) h = h
  kept_is (Some (kept.Static a width)) h = h

  module _ (functions : List Function) where
    pub code_is : (looped : Bool) (c : Code) → CodeForm functions n looped c → CodePlaces c → IsCompilableCode functions n looped c
    code_is looped End h w = tt
    code_is looped (Assign spot target right rest) h w = (target_is target h.0 w.0, right_is right h.1 w.1, code_is looped rest h.2 w.2)
    code_is looped (Bundle spot assigns rest) h w = ((h.0, h.1, assigns_are assigns h.2 w.0), code_is looped rest h.3 w.1)
    code_is looped (Get spot target rest) h w = (target_is target h.0 w.0, code_is looped rest h.1 w.1)
    code_is looped (Put spot target e rest) h w = (target_is target h.0 w.0, part_is e h.1 w.1, code_is looped rest h.2 w.2)
    code_is looped (Call spot target callee es rest) h w = (kept_is target h.0, h.1, parts_are es h.2 w.1, w.0, code_is looped rest h.3 w.2)
    code_is looped (If spot e one two rest) h w = (part_is e h.0 w.0, code_is looped one h.1 w.1, code_is looped two h.2 w.2, code_is looped rest h.3 w.3)
    code_is looped (Loop spot e body step rest) h w = (part_is e h.0 w.0, code_is true body h.1 w.1, code_is false step h.2 w.2, code_is looped rest h.3 w.3)
    code_is looped (Break rest) h w = (h.0, code_is looped rest h.1 w)
    code_is looped (Continue rest) h w = (h.0, code_is looped rest h.1 w)
    code_is looped (Return spot e rest) h w = (part_is e h.0 w.0, code_is looped rest h.1 w.1)
    code_is looped (Check spot e rest) h w = (w.0, part_is e h.0 w.1, code_is looped rest h.1 w.2)
