-- A call that fits is fine.
use Rattle.std.proofs.Common.{◌≡◌, ℕ, zero, suc, ◌<◌, ◌≤◌, ◌^◌, Bool, true, false, List, [], ◌∷◌, length, map, Option, Some, None, refl, sym, ap, subst, ◌∙◌, arith}
use Rattle.std.specs.Prelude.{All, IfSome}
use Rattle.std.specs.List.{slice_get}
use Rattle.std.proofs.lemmas.List.Elements.{All-map, All-weaker}
use Rattle.ckc_base.specs.declared.arithmetic.Width.{Width}
use Rattle.ckc_base.specs.declared.places.Pos.{Pos}
use Rattle.ckc_base.specs.declared.runtime_checks.Check.{Check as CheckName}
use Rattle.ckc_core.specs.declared.code.CoreExpr.{CoreExpr}
use Rattle.ckc_core.specs.declared.code.CoreStmt.{CoreStmt, CoreStmt-F, fold-roll-CoreStmt}
use Rattle.ckc_core.specs.declared.code.CoreStmt.TheVariants as stmt
use Rattle.ckc_core.specs.Code.{Code, End, Set, Store, Check, Call, Get, Put, Alloc, If, Loop, Break, Continue, Return, Function, expr_of, chained, stmt_form, stmt_of, code_of}
use Rattle.ckc_core.specs.WellFormed.{HasParams, IsPlace, IsExprOver}
use Rattle.ckc_core.specs.Limits.{IsShallow}
use Rattle.ckc_test_code.specs.code.Fine.{IsExpr, IsFine, IsStmt, IsBody, IsFitting}

pub has_params : (fs : List Function) (callee count : ℕ) (given : List ℕ) → map (λ (f : Function). f.params) fs ≡ given → slice_get given callee ≡ Some count → HasParams count (slice_get fs callee)
has_params [] callee count [] e g = (let wrong : ◌≡◌ {A = Option ℕ} None (Some count) = g in absurd cc)
has_params [] callee count (x ∷ xs) e g = absurd cc
has_params (f ∷ fs) callee count [] e g = absurd cc
has_params (f ∷ fs) zero count (x ∷ xs) e g = (let a : f.params ≡ x = cc in let b : x ≡ count = cc in a ∙ b)
has_params (f ∷ fs) (suc callee) count (x ∷ xs) e g = has_params fs callee count xs (let a : map (λ (f : Function). f.params) fs ≡ xs = cc in a) g

length_map : (es : List CoreExpr) → length (map expr_of es) ≡ length es
length_map [] = refl
length_map (e ∷ es) = ap suc (length_map es)

module _ (params : List ℕ) (locals : ℕ) (looped : Bool) where
  pub call_fine : (target : Option ℕ) (callee : ℕ) (es : List CoreExpr) (at : Pos) → IfSome target (λ t. t < locals) → IsPlace at → All (IsExpr locals 1000) es → IsFitting params callee (length es)
      → IsStmt params locals looped (stmt.Call target callee es at)
  call_fine target callee es at t p all fits =
      let is : stmt_of (stmt.Call target callee es at) ≡ (λ rest. Call target callee (map expr_of es) at rest) =
      ap stmt_of (sym (stmt.rolls-Call target callee es at)) ∙ fold-roll-CoreStmt (Code → Code) stmt_form (CoreStmt-F.Call target callee es at) in
      let many = length_map es in
      let few = fits.few in
      let over : All (IsExprOver locals) (map expr_of es) = All-map (IsExprOver locals) expr_of es (All-weaker (IsExpr locals 1000) (λ e. IsExprOver locals (expr_of e)) (λ e h. h.0) es all) in
      let shallow : All IsShallow (map expr_of es) = All-map IsShallow expr_of es (All-weaker (IsExpr locals 1000) (λ e. IsShallow (expr_of e)) (λ e h. h.1) es all) in
      subst (IsFine params locals looped) (sym is) (record {
        over = λ fs s rest r. (t, has_params fs callee (length (map expr_of es)) params s (fits.is ∙ ap Some (sym many)), over, p, r);
        limits = λ rest r. (omega arith, shallow, r);
      })
