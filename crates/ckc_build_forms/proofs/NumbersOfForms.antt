-- The numbers in a program that has the form fit in 32 bits.
use Rattle.std.proofs.Common.{ℕ, ◌<◌, Bool, true, false, List, [], ◌∷◌}
use Rattle.std.specs.Prelude.{◌^◌, Option, Some, None}
use Rattle.ckc_source.specs.declared.expr.Access.{Access}
use Rattle.ckc_source.specs.declared.expr.Base.{Base}
use Rattle.ckc_source.specs.declared.expr.Base.TheVariants as bases
use Rattle.ckc_source.specs.declared.expr.End.{End as LimitsEnd}
use Rattle.ckc_source.specs.declared.expr.Limits.{Limits}
use Rattle.ckc_source.specs.declared.stmt.Kept.{Kept}
use Rattle.ckc_source.specs.declared.stmt.Kept.TheVariants as kept
use Rattle.ckc_source.specs.Code.{Expr, Number, Local, Limited, Array, Load, Member, Address, Moved, Added, Binary, And, Or, Choice, Narrow, Bare, Tested, Trusted, Target, Nothing, Variable, Memory, Right, Value, Fresh, Code, End, Assign, Bundle, Get, Put, Call, If, Loop, Break, Continue, Return, Check, Function}
use Rattle.ckc_build_words.specs.Numbers.{BaseFits, EndFits, LimitsFit, ExprFits, ExprsFit, TargetFits, RightFits, AssignsFit, KeptFits, CodeFits}
use Rattle.ckc_build_forms.proofs.Forms.{BaseForm, EndForm, LimitsForm, ExprForm, TargetForm, RightForm, AssignsForm, PartsForm, KeptForm, CodeForm}

module _ (n : ℕ) where
  base_fits : (b : Base) → BaseForm n b → BaseFits b
  base_fits bases.Own h = tt
  base_fits (bases.Local x) h = tt
  base_fits (bases.Fixed a) h = h

  end_fits : (e : LimitsEnd) → EndForm n e → EndFits e
  end_fits e h = (base_fits e.base h.0, h.2)

  limits_fit : (limits : Limits) → LimitsForm n limits → LimitsFit limits
  limits_fit limits h = (h.0, end_fits limits.lower h.1, end_fits limits.upper h.2)

  expr_fits : (e : Expr) → ExprForm n e → ExprFits e
  expr_fits (Number a) h = h
  expr_fits (Local x) h = tt
  expr_fits (Limited x limits) h = limits_fit limits h.1
  expr_fits (Array at bytes) h = h
  expr_fits (Load width access p i) h = ((h.0.0, h.0.1), expr_fits p h.1, expr_fits i h.2)
  expr_fits (Member to count access p i) h = (h.0, h.1, (h.2.0, h.2.1), expr_fits p h.3, expr_fits i h.4)
  expr_fits (Address bytes access p i) h = (h.0, (h.1.0, h.1.1), expr_fits p h.2, expr_fits i h.3)
  expr_fits (Moved shift p i) h = (h.0, expr_fits p h.2, expr_fits i h.3)
  expr_fits (Added shift i p) h = (h.0, expr_fits i h.2, expr_fits p h.3)
  expr_fits (Binary operation is_signed at a b) h = (expr_fits a h.0, expr_fits b h.1)
  expr_fits (And a b) h = (expr_fits a h.0, expr_fits b h.1)
  expr_fits (Or a b) h = (expr_fits a h.0, expr_fits b h.1)
  expr_fits (Choice c a b) h = (expr_fits c h.0, expr_fits a h.1, expr_fits b h.2)
  expr_fits (Narrow e) h = expr_fits e h
  expr_fits (Bare p) h = expr_fits p h
  expr_fits (Tested size form at p k) h = (h.0, expr_fits p h.2, expr_fits k h.3)
  expr_fits (Trusted to form p k) h = (h.0, expr_fits p h.1, expr_fits k h.2)

  target_fits : (t : Target) → TargetForm n t → TargetFits t
  target_fits Nothing h = tt
  target_fits (Variable x width) h = tt
  target_fits (Memory width access p i) h = ((h.0.0, h.0.1), expr_fits p h.1.0, expr_fits i h.2.0)

  right_fits : (r : Right) → RightForm n r → RightFits r
  right_fits (Value e) h = expr_fits e h.0
  right_fits (Fresh to e) h = (h.0, expr_fits e h.1.0)

  assigns_fit : (all : List (Target × Right)) → AssignsForm n all → AssignsFit all
  assigns_fit [] h = tt
  assigns_fit (a ∷ rest) h = (target_fits a.0 h.0, right_fits a.1 h.1, assigns_fit rest h.2)

  exprs_fit : (es : List Expr) → PartsForm n es → ExprsFit es
  exprs_fit [] h = tt
  exprs_fit (e ∷ es) h = (expr_fits e h.0.0, exprs_fit es h.1)

  kept_fits : (k : Option Kept) → KeptForm n k → KeptFits k
  kept_fits None h = tt
  kept_fits (Some (kept.Local x width)) h = tt
  kept_fits (Some (kept.Static a width)) h = h

  module _ (functions : List Function) where
    pub code_fits : (looped : Bool) (c : Code) → CodeForm functions n looped c → CodeFits c
    code_fits looped End h = tt
    code_fits looped (Assign spot target right rest) h = (target_fits target h.0, right_fits right h.1, code_fits looped rest h.2)
    code_fits looped (Bundle spot assigns rest) h = (assigns_fit assigns h.2, code_fits looped rest h.3)
    code_fits looped (Get spot target rest) h = (target_fits target h.0, code_fits looped rest h.1)
    code_fits looped (Put spot target e rest) h = (target_fits target h.0, expr_fits e h.1.0, code_fits looped rest h.2)
    code_fits looped (Call spot target callee es rest) h = (kept_fits target h.0, exprs_fit es h.2, code_fits looped rest h.3)
    code_fits looped (If spot e one two rest) h = (expr_fits e h.0.0, code_fits looped one h.1, code_fits looped two h.2, code_fits looped rest h.3)
    code_fits looped (Loop spot e body step rest) h = (expr_fits e h.0.0, code_fits true body h.1, code_fits false step h.2, code_fits looped rest h.3)
    code_fits looped (Break rest) h = code_fits looped rest h.1
    code_fits looped (Continue rest) h = code_fits looped rest h.1
    code_fits looped (Return spot e rest) h = (expr_fits e h.0.0, code_fits looped rest h.1)
    code_fits looped (Check spot e rest) h = (expr_fits e h.0.0, code_fits looped rest h.1)
