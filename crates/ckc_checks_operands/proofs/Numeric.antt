-- Expressions that are numbers.
use Rattle.std.proofs.Common.{◌≡◌, ℕ, refl, ap}
use Rattle.std.specs.Prelude.{true, false, ◌&&◌, Some, None}
use Rattle.ckc_source.specs.declared.expr.Access.{Access}
use Rattle.ckc_source.specs.Eval.{place_in}
use Rattle.ckc_source.specs.Code as source
use Rattle.ckc_checks_operands.specs.Cases.{is_one, is_named, is_static}
use Rattle.ckc_checks_operands.specs.code.Operands.{number_of, is_this, is_number}
use Rattle.ckc_checks_operands.specs.code.Pointers.{static_place}

pub number_is : (e : source.Expr) (n : ℕ) → number_of e ≡ Some n → e ≡ source.Number n
number_is (source.Number m) n h = let same : m ≡ n = cc in ap source.Number same
number_is e n h = absurd cc

pub one_by : (e : source.Expr) → is_one e ≡ is_this 1 (number_of e)
one_by (source.Number n) = refl
one_by e = refl

pub is_some : (e : source.Expr) (n : ℕ) → number_of e ≡ Some n → is_number e ≡ true
is_some (source.Number m) n h = refl
is_some e n h = absurd cc

pub is_none : (e : source.Expr) → number_of e ≡ None → is_number e ≡ false
is_none (source.Number m) h = absurd cc
is_none e h = refl

pub static_by : (access : Access) (p : source.Expr) → is_static access p ≡ is_number p && is_named access.through
static_by access (source.Number a) = refl
static_by access p = refl

pub static_place_some : (access : Access) (p : source.Expr) (a : ℕ) → number_of p ≡ Some a → static_place access p ≡ place_in a access.offset
static_place_some access p a h = ap (static_place access) (number_is p a h)

pub static_place_none : (access : Access) (p : source.Expr) → number_of p ≡ None → static_place access p ≡ 0
static_place_none access (source.Number a) h = absurd cc
static_place_none access p h = refl
