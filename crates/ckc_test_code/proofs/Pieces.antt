-- What is put in front of code by each statement, and by statements one after another.
use Rattle.std.proofs.Common.{◌≡◌, ℕ, ◌<◌, ◌≤◌, Bool, true, false, List, [], ◌∷◌, ◌++◌, length, map, refl, sym, ap, subst, ◌∙◌, arith}
use Rattle.ckc_core.specs.declared.code.CoreStmt.{CoreStmt}
use Rattle.ckc_core.specs.Code.{Code, Function, chained, stmt_of}
use Rattle.ckc_core.specs.WellFormed.{IsCodeOver}
use Rattle.ckc_core.specs.Limits.{KeepsLimits}
use Rattle.ckc_test_code.specs.code.Fine.{IsFine, IsStmt, IsBody}

pub none_fine : (params : List ℕ) (locals : ℕ) (looped : Bool) → IsBody params locals looped []
none_fine params locals looped = record { over = λ functions e rest h. h; limits = λ rest h. h }

-- a statement after others
pub chained_push : (stmts : List CoreStmt) (s : CoreStmt) (rest : Code) → chained (map stmt_of (stmts ++ s ∷ [])) rest ≡ chained (map stmt_of stmts) (stmt_of s rest)
chained_push [] s rest = refl
chained_push (x ∷ xs) s rest = ap (stmt_of x) (chained_push xs s rest)

pub more_fine : (params : List ℕ) (locals : ℕ) (looped : Bool) (stmts : List CoreStmt) (s : CoreStmt) (all : List CoreStmt) → all ≡ stmts ++ s ∷ []
    → IsBody params locals looped stmts → IsStmt params locals looped s → IsBody params locals looped all
more_fine params locals looped stmts s all is b f =
    let push : (rest : Code) → chained (map stmt_of stmts) (stmt_of s rest) ≡ chained (map stmt_of all) rest = λ rest.
    sym (chained_push stmts s rest) ∙ ap (λ l. chained (map stmt_of l) rest) (sym is) in
    record {
      over = λ functions e rest h. subst (λ q. IsCodeOver functions locals looped q) (push rest) (b.over functions e (stmt_of s rest) (f.over functions e rest h));
      limits = λ rest h. subst KeepsLimits (push rest) (b.limits (stmt_of s rest) (f.limits rest h));
    }
