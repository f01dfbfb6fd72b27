-- What parts of statements become.
use Rattle.std.specs.Prelude.{ℕ, List, [], ◌∷◌, ◌++◌, Option, None, Some, map}
use Rattle.ckc_base.specs.declared.places.Pos.{Pos}
use Rattle.ckc_syntax.specs.declared.tree.Act.TheVariants as act
use Rattle.ckc_syntax.specs.Trees.{NamedItem, NamedDecl, NamedExpr, NamedStmt, NamedAct}
use Rattle.ckc_plain_barred.specs.declared.integers.Integers.{Integers}
use Rattle.ckc_plain_bodies.specs.declared.pending.Pending.{Pending}
use Rattle.ckc_plain_bodies.specs.Taken.{stmt_at, block_at, after, none_pending}
use Rattle.ckc_plain_bodies.specs.Expressions.{expr_plain, right_plain, maybe_plain}
use Rattle.ckc_plain_bodies.specs.Statements.{alone, placed, for_condition, for_body, local_plain, stmt_plain, item_plain}

-- the place of the first of the statements, if there is one
abbrev pub first_pos : List NamedStmt → Option Pos
first_pos [] = None
first_pos (s ∷ ss) = Some s.pos

-- `if (c) S else break;`
abbrev pub or_break : NamedExpr → NamedStmt → Pos → NamedStmt
or_break c s pos = stmt_at (act.If c s (Some (stmt_at act.Break pos))) pos

-- `{ prelude; if (c) S else break; }`
abbrev pub tested_body : List NamedStmt → NamedExpr → NamedStmt → Pos → NamedStmt
tested_body before c s pos = block_at (before ++ or_break c s pos ∷ []) pos

abbrev pub local_act : Integers → NamedDecl → Pending → NamedAct × Pending
local_act known d p = after (local_plain known d p) (λ e q. (act.Local e, q))

abbrev pub assign_act : Integers → NamedExpr → NamedExpr → Pending → NamedAct × Pending
assign_act known x e p = after (expr_plain known x p) (λ a q. after (right_plain known a e q) (λ b r. (act.Assign a b, r)))

-- a statement of a block, and what goes before it
abbrev pub pieces : NamedStmt × Pending → List NamedStmt
pieces p = placed p.1.stmts p.0

-- a statement that may be left out
abbrev pub part_plain : Integers → Option NamedStmt → ℕ → Option NamedStmt × ℕ
part_plain known None n = (None, n)
part_plain known (Some s) n = after (alone (stmt_plain known s) n) (λ t m. (Some t, m))

abbrev pub part_made : Integers → Option NamedStmt → Pending → Option NamedStmt × Pending
part_made known None p = (None, p)
part_made known (Some s) p = after (stmt_plain known s p) (λ t q. (Some t, q))

-- a `for` after its first part, by the number of the next local
abbrev pub for_after : Integers → Option NamedStmt → Option NamedExpr → Option NamedStmt → NamedStmt → ℕ → NamedAct × ℕ
for_after known first e step body n =
    after (maybe_plain known e (none_pending n)) (λ c r. after (alone (stmt_plain known body) r.next) (λ t m. after (part_plain known step m) (λ u k.
    (act.For first (for_condition r.stmts c) u (for_body r.stmts c t), k))))

-- the items of a text
abbrev pub items_plain : Integers → List NamedItem → List NamedItem
items_plain known is = map (item_plain known) is
