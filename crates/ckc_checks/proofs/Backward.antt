-- A statement that is pushed onto a list from the last one to the first stands in front of the code.
use Rattle.std.proofs.Common.{◌≡◌, List, [], ◌∷◌, ◌++◌, refl, ap}
use Rattle.std.proofs.lemmas.List.{reverse-append}
use Rattle.ckc_core.specs.declared.code.CoreStmt.{CoreStmt}
use Rattle.ckc_core.specs.Code.{End, code_of, stmt_of}
use Rattle.ckc_checks.specs.code.Building.{behind}

pub behind_push : (statements : List CoreStmt) (s : CoreStmt) → behind (statements ++ s ∷ []) ≡ stmt_of s (behind statements)
unfolding behind
behind_push statements s = ap code_of (reverse-append statements (s ∷ []))

pub behind_none : behind [] ≡ End
unfolding behind
behind_none = refl
