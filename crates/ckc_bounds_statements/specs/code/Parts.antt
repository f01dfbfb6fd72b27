-- What is said of several statements or expressions, and of one that may be left out.
use Rattle.std.specs.Prelude.{ℕ, Bool, List, Option}
use Rattle.ckc_syntax.specs.Inside.{listed, one_has, inside_each, inside_if, inside_init}
use Rattle.ckc_typed.specs.Trees.{NotedExpr, NotedDecl, NotedInit}
use Rattle.ckc_bounds_points.specs.declared.frame.Frame.{Frame}
use Rattle.ckc_bounds_statements.specs.Paths.{Path, needs_expr}

abbrev pub all_declared : List Path → List NotedDecl
all_declared = inside_each listed (λ (s : Path). s.declared)

abbrev pub there_declared : Option Path → List NotedDecl
there_declared = inside_if listed (λ (s : Path). s.declared)

abbrev pub needs_some : Frame → List NotedExpr → Bool
needs_some frame = inside_each one_has (needs_expr frame)

abbrev pub needs_value : Frame → Option NotedExpr → Bool
needs_value frame = inside_if one_has (needs_expr frame)

abbrev pub needs_init : Frame → NotedInit → Bool
needs_init frame = inside_init one_has (needs_expr frame)

abbrev pub some_need : Frame → List Path → Bool
some_need frame = inside_each one_has (λ (s : Path). s.may_need frame)

abbrev pub there_needs : Frame → Option Path → Bool
there_needs frame = inside_if one_has (λ (s : Path). s.may_need frame)

abbrev pub all_assigned : List Path → List ℕ
all_assigned = inside_each listed (λ (s : Path). s.assigned)

abbrev pub there_assigned : Option Path → List ℕ
there_assigned = inside_if listed (λ (s : Path). s.assigned)

abbrev pub some_break : List Path → Bool
some_break = inside_each one_has (λ (s : Path). s.breaks)

abbrev pub there_breaks : Option Path → Bool
there_breaks = inside_if one_has (λ (s : Path). s.breaks)

abbrev pub some_continue : List Path → Bool
some_continue = inside_each one_has (λ (s : Path). s.continues)

abbrev pub there_continues : Option Path → Bool
there_continues = inside_if one_has (λ (s : Path). s.continues)
