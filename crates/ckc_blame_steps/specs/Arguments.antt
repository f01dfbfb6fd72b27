-- What is asked of the arguments of a call, and of what is returned.
use Rattle.std.specs.Prelude.{◌≡◌, ℕ, ◌+◌, false, List, [], ◌∷◌}
use Rattle.ckc_base.specs.declared.arithmetic.Mode.{Mode}
use Rattle.ckc_syntax.specs.declared.tree.Name.{Name}
use Rattle.ckc_syntax.specs.declared.tree.Act.{Act-F, out-Act}
use Rattle.ckc_typed.specs.declared.typed.Note.{Note}
use Rattle.ckc_typed.specs.Conversions.{is_allocation}
use Rattle.ckc_typed.specs.Trees.{NotedAct, NotedExpr, NotedStmt}
use Rattle.ckc_blame_sound.specs.ckc_bounds_points.specs.Flow.{State}
use Rattle.ckc_blame_sound.specs.ckc_bounds_views.specs.Parts.{capped, fresh_behind}
use Rattle.ckc_blame_sound.specs.ckc_bounds_views.specs.Views.{view}
use Rattle.ckc_blame_sound.specs.ckc_bounds_stores.specs.declared.values.Numbered.{Numbered}
use Rattle.ckc_blame_sound.specs.ckc_bounds_stores.specs.Values.{narrow}
use Rattle.ckc_source.specs.Code.{Expr}
use Rattle.ckc_source.specs.Eval.{Store, evaluated}
use Rattle.ckc_build_values.specs.Expressions.{expr_elaborated, literals_of}
use Rattle.ckc_build_elaborate.specs.Literals.{literals_of_bounds}
use Rattle.ckc_blame_sound.specs.Settings.{Setting}
use Rattle.ckc_blame_sound.specs.Valuations.{Valuation, IsValuationOf}
use Rattle.ckc_blame_sound.specs.Containment.{IsNarrowed}
use Rattle.ckc_blame_given.specs.ckc_blame_pointers.specs.Owed.{Comes}
use Rattle.ckc_blame_given.specs.Gives.{GivesOn}

-- An expression that becomes `value` is no allocation, and its range without widenings begins as it does and ends at
-- the same base; and its value gives a word under each valuation of the locals, or stops at a named check, or is stuck as
-- it may be in code of a mode.
pub record GivesWord (m : Mode) (s : Setting) (store : Store) (at : State) (e : NotedExpr) (value : Expr) (from : Numbered)
    : Type 0 where
  pub whole : is_allocation e ≡ false
  pub narrowed : IsNarrowed ((view s.frame e).range from.value from.fresh at)
      ((view s.frame e).range from.value from.fresh (narrow at))
  pub gives : (v : Valuation) → IsValuationOf s store.locals v
      → Comes m (λ w. GivesOn s store v at e from w.number) (evaluated store value)

-- the numbers of values and fresh variables after those of an expression
abbrev pub numbers_behind : Setting → State → NotedExpr → Numbered → Numbered
numbers_behind s at e from =
    record { value = capped from.value (view s.frame e).values; fresh = fresh_behind (view s.frame e) from.fresh at }

-- Each argument does so, with its values and its fresh variables numbered after those of the ones in front of it. The
-- second list is what judging makes of the first, and k the number of its first string literal.
unfoldable pub GiveWords : Mode → Setting → Store → State → ℕ → List NotedExpr → List NotedExpr → Numbered → Type 0
GiveWords m s store at k [] [] from = Unit {0}
GiveWords m s store at k (e ∷ es) (f ∷ fs) from =
    GivesWord m s store at e (expr_elaborated s.text s.variables k f) from
    × GiveWords m s store at (k + literals_of f) es fs (numbers_behind s at e from)
GiveWords m s store at k _ _ from = ⊥

-- the number of the first string literal in the value that a statement has, if that of the first one in it is k
abbrev pub literals_before_act : Act-F Name Note NotedAct NotedStmt → ℕ → ℕ
literals_before_act (Act-F.Assign e f) k = k + literals_of e
literals_before_act (Act-F.Local d) k = k + literals_of_bounds d.bounds
literals_before_act a k = k

abbrev pub literals_before : NotedStmt → ℕ → ℕ
literals_before st k = literals_before_act (out-Act Name Note st.body) k
