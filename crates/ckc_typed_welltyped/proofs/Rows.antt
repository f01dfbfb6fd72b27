-- The rows of the tables: when the type that an expression gets is Ok, and which it is.
use Rattle.std.proofs.Common.{◌≡◌, ◌↔◌, ℕ, suc, Bool, true, false, not, List, [], ◌∷◌, length, refl, sym, ap, ◌∙◌, arith}
use Rattle.std.specs.Prelude.{Option, Some, None, Ok, ◌==◌, ◌||◌, if◌then◌else◌}
use Rattle.std.proofs.lemmas.Bool.Decides.{nat_tests}
use Rattle.ckc_base.specs.declared.places.Pos.{Pos}
use Rattle.ckc_base.specs.declared.arithmetic.Mode.{Mode}
use Rattle.ckc_base.specs.Outcomes.{Outcome, bind, unless, there_or}
use Rattle.ckc_types.specs.declared.types.CType.{CType}
use Rattle.ckc_types.specs.declared.types.CType.TheVariants as ctype
use Rattle.ckc_types.specs.declared.types.Kind.TheVariants as kind
use Rattle.ckc_syntax.specs.declared.tree.Name.{Name}
use Rattle.ckc_syntax.specs.declared.tree.TreeOp.{TreeOp}
use Rattle.ckc_syntax.specs.declared.tree.TreeOp.TheVariants as op
use Rattle.ckc_typed.specs.declared.environment.Globals.{Globals}
use Rattle.ckc_typed.specs.declared.environment.Parameter.{Parameter}
use Rattle.ckc_typed.specs.Codes.{bad_operands, bad_conversion, bad_call, no_address}
use Rattle.ckc_typed.specs.Trees.{NotedExpr}
use Rattle.ckc_typed.specs.Types.{is_integer, is_void, is_object_type, same_type}
use Rattle.ckc_typed.specs.Environment.{signature_named}
use Rattle.ckc_typed.specs.Operands.{unary_type, is_cast}
use Rattle.ckc_typed.specs.Conversions.{is_null}
use Rattle.ckc_typed.specs.Expressions.{address_kind, has_address, in_row, unary_typed, cast_typed, is_no_allocation, allocation_typed, takes, arguments_typed, result_typed, call_typed}
use Rattle.ckc_typed_welltyped.specs.Expressions.{unary_row, AreArguments, IsCall, IsAllocation}
use Rattle.ckc_base.proofs.Outcomes.{ok_same, made_of, goes, unbroken, kept_rule, keeps_rule, was_there, is_there, first_holds}

-- an outcome is Ok of what a row of a table gives, and only then
abbrev pub OkWhere : {A : Type 0} → Outcome A → Option A → Type 0
OkWhere {A} o row = (a : A) → (o ≡ Ok a) ↔ (row ≡ Some a)

-- an outcome is Ok of what is so, and only then
abbrev pub OkIf : {A : Type 0} → Outcome A → (A → Type 0) → Type 0
OkIf {A} o P = (a : A) → (o ≡ Ok a) ↔ P a

pub there_is : {A : Type 0} (code : ℕ) (at : Pos) (t : Option A) → OkWhere (there_or code at t) t
there_is code at t a = (was_there code at t a, is_there code at t a)

pub row_is : (void : Bool) (at : Pos) (t : Option CType) → OkWhere (in_row void at t) t
row_is true at t = there_is bad_conversion at t
row_is false at t = there_is bad_operands at t

none_is_some : {A : Type 0} (a : A) → ◌≡◌ {A = Option A} None (Some a) → ⊥
none_is_some a e = cc

some_same : {A : Type 0} (a b : A) → ◌≡◌ {A = Option A} (Some a) (Some b) → a ≡ b
some_same a b e = cc

rule_is : {A : Type 0} (holds : Bool) (code : ℕ) (at : Pos) (x : A) → OkWhere (unless (not holds) code at (Ok x)) (if holds then Some x else None)
rule_is true code at x a = (λ e. ap Some (ok_same x a e), λ e. ap Ok (some_same x a e))
rule_is false code at x a = (λ e. absurd (cc), λ e. absurd (none_is_some a e))

module _ (globals : Globals) (mode : Mode) (e : NotedExpr) (at : Pos) where
  abbrev by_row : (o : TreeOp) → OkWhere (in_row (is_void e.note.ctype) at (unary_type o e.note.ctype)) (unary_type o e.note.ctype)
  by_row o = row_is (is_void e.note.ctype) at (unary_type o e.note.ctype)

  pub unary_is : (o : TreeOp) → OkWhere (unary_typed globals mode o e at) (unary_row globals mode o e)
  unary_is op.Address = rule_is (has_address globals e) no_address at (ctype.Pointer (address_kind mode) e.note.ctype)
  unary_is op.Minus = by_row op.Minus
  unary_is op.Plus = by_row op.Plus
  unary_is op.Not = by_row op.Not
  unary_is op.Flip = by_row op.Flip
  unary_is op.Deref = by_row op.Deref
  unary_is op.OrElse = by_row op.OrElse
  unary_is op.AndThen = by_row op.AndThen
  unary_is op.Or = by_row op.Or
  unary_is op.Xor = by_row op.Xor
  unary_is op.And = by_row op.And
  unary_is op.Eq = by_row op.Eq
  unary_is op.Ne = by_row op.Ne
  unary_is op.Lt = by_row op.Lt
  unary_is op.Le = by_row op.Le
  unary_is op.Gt = by_row op.Gt
  unary_is op.Ge = by_row op.Ge
  unary_is op.Shl = by_row op.Shl
  unary_is op.Shr = by_row op.Shr
  unary_is op.Add = by_row op.Add
  unary_is op.Sub = by_row op.Sub
  unary_is op.Mul = by_row op.Mul
  unary_is op.Div = by_row op.Div
  unary_is op.Rem = by_row op.Rem
  unary_is op.Set = by_row op.Set
  unary_is op.PostInc = by_row op.PostInc
  unary_is op.PostDec = by_row op.PostDec

-- two rules, one after another
pub two_rules : (fits holds : Bool) (at : Pos) (t : CType) → OkIf (unless (not fits) bad_operands at (unless (not holds) bad_conversion at (Ok t))) (λ u. (fits ≡ true) × (holds ≡ true) × (u ≡ t))
two_rules fits holds at t u = (
  λ e. let a = kept_rule fits bad_operands at (unless (not holds) bad_conversion at (Ok t)) u e in let b = kept_rule holds bad_conversion at (Ok t) u a.1 in (a.0, b.0, sym (ok_same t u b.1)),
  λ h. keeps_rule fits bad_operands at (unless (not holds) bad_conversion at (Ok t)) u h.0 (keeps_rule holds bad_conversion at (Ok t) u h.1 (ap Ok (sym h.2))),
)

pub cast_is : (t : CType) (e : NotedExpr) (at : Pos) → OkIf (cast_typed t e at) (λ u. (is_cast t e.note.ctype (is_null e) ≡ true) × (u ≡ t))
cast_is t e at u =
    let r = two_rules (is_object_type t) (is_cast t e.note.ctype (is_null e)) at t u in
    (λ h. let p = r.0 h in (p.1, p.2), λ h. r.1 (first_holds (is_object_type t) _ h.0, h.0, h.1))

allocates : (object same counted : Bool) → (not object || (not same || not counted)) ≡ false → (object ≡ true) × (same ≡ true) × (counted ≡ true)
allocates true true true e = (refl, refl, refl)
allocates true true false e = absurd cc
allocates true false counted e = absurd cc
allocates false same counted e = absurd cc

allocates_back : (object same counted : Bool) → object ≡ true → same ≡ true → counted ≡ true → (not object || (not same || not counted)) ≡ false
allocates_back object same counted p q r = ap (λ b. not b || (not same || not counted)) p ∙ ap (λ b. not b || not counted) q ∙ ap not r

pub allocation_is : (t : CType) (e : NotedExpr) (u : CType) (at : Pos) → OkIf (allocation_typed t e u at) (IsAllocation t e u)
allocation_is t e u at r = (
  λ h. let b = unbroken (is_no_allocation t e u) bad_call at (Ok (ctype.Pointer kind.Arr t)) r h in let p = allocates (is_object_type t) (same_type t u) (is_integer e.note.ctype) b.0 in
      record { object = p.0; same = p.1; counted = p.2; pointer = sym (ok_same (ctype.Pointer kind.Arr t) r b.1) },
  λ h. ap (λ b. unless b bad_call at (Ok (ctype.Pointer kind.Arr t))) (allocates_back (is_object_type t) (same_type t u) (is_integer e.note.ctype) h.object h.same h.counted) ∙ ap Ok (sym h.pointer),
)

equal_lengths : (a b : ℕ) → (a == b) ≡ true → a ≡ b
equal_lengths a b e = grind (arith, nat_tests)

lengths_equal : (a b : ℕ) → a ≡ b → (a == b) ≡ true
lengths_equal a b e = grind (arith, nat_tests)

arguments_are : (mode : Mode) (ps : List Parameter) (es : List NotedExpr) (u : Unit {0}) → length es ≡ length ps → arguments_typed mode ps es ≡ Ok u → AreArguments mode ps es
arguments_are mode [] [] u n e = tt
arguments_are mode [] (x ∷ es) u n e = absurd (omega arith)
arguments_are mode (p ∷ ps) [] u n e = absurd (omega arith)
arguments_are mode (p ∷ ps) (x ∷ es) u n e = let k = kept_rule (takes mode p x) bad_conversion x.pos (arguments_typed mode ps es) u e in (k.0, arguments_are mode ps es u (omega arith) k.1)

arguments_back : (mode : Mode) (ps : List Parameter) (es : List NotedExpr) → AreArguments mode ps es → (length es ≡ length ps) × (arguments_typed mode ps es ≡ Ok tt)
arguments_back mode [] [] a = (refl, refl)
arguments_back mode [] (x ∷ es) a = absurd a
arguments_back mode (p ∷ ps) [] a = absurd a
arguments_back mode (p ∷ ps) (x ∷ es) a = let r = arguments_back mode ps es a.1 in (ap suc r.0, keeps_rule (takes mode p x) bad_conversion x.pos (arguments_typed mode ps es) tt a.0 r.1)

pub call_is : (globals : Globals) (mode : Mode) (n : Name) (es : List NotedExpr) (at : Pos) → OkIf (call_typed globals mode n es at) (IsCall globals mode n es)
call_is globals mode n es at t = (
  λ h. let a = made_of (there_or bad_call at (signature_named globals n)) (λ s. result_typed mode s es at) t h in
      let b = kept_rule (length es == length a.0.params) bad_call at (bind (arguments_typed mode a.0.params es) (λ u. Ok a.0.result)) t a.2 in
      let c = made_of (arguments_typed mode a.0.params es) (λ u. Ok a.0.result) t b.1 in
      (a.0, was_there bad_call at (signature_named globals n) a.0 a.1, arguments_are mode a.0.params es c.0 (equal_lengths _ _ b.0) c.1, sym (ok_same a.0.result t c.2)),
  λ h. let b = arguments_back mode h.0.params es h.2 in
      goes (there_or bad_call at (signature_named globals n)) (λ s. result_typed mode s es at) h.0 t (is_there bad_call at (signature_named globals n) h.0 h.1)
      (keeps_rule (length es == length h.0.params) bad_call at (bind (arguments_typed mode h.0.params es) (λ u. Ok h.0.result)) t (lengths_equal _ _ b.0)
      (goes (arguments_typed mode h.0.params es) (λ u. Ok h.0.result) tt t b.1 (ap Ok (sym h.3)))),
)
