-- Statements without the effects in their expressions. What is pending after a statement goes before it.
use Rattle.std.specs.Prelude.{ℕ, List, [], ◌∷◌, ◌++◌, Option, None, Some, map, length}
use Rattle.ckc_syntax.specs.declared.tree.Name.{Name}
use Rattle.ckc_syntax.specs.declared.tree.Init.TheVariants as init
use Rattle.ckc_syntax.specs.declared.tree.Item.TheVariants as item
use Rattle.ckc_syntax.specs.declared.tree.Act.{Act-F, fold-Act, out-Act}
use Rattle.ckc_syntax.specs.declared.tree.Act.TheVariants as act
use Rattle.ckc_syntax.specs.declared.tree.Stmt.{Stmt-F, fold-Stmt}
use Rattle.ckc_syntax.specs.Trees.{NamedTree, NamedItem, NamedDecl, NamedInit, NamedExpr, NamedStmt, NamedAct}
use Rattle.ckc_plain_barred.specs.declared.integers.Integers.{Integers}
use Rattle.ckc_plain_bodies.specs.declared.pending.Pending.{Pending}
use Rattle.ckc_plain_barred.specs.Integers.{known_of, known_in}
use Rattle.ckc_plain_bodies.specs.Taken.{stmt_at, block_at, number_at, after, none_pending}
use Rattle.ckc_plain_bodies.specs.Expressions.{expr_plain, exprs_plain, whole_plain, right_plain, bounds_plain, maybe_plain}

-- a statement after those that go before it: a block of all of them, if there are some
abbrev pub joined : List NamedStmt → NamedStmt → NamedStmt
joined [] s = s
joined (b ∷ bs) s = block_at ((b ∷ bs) ++ s ∷ []) b.pos

abbrev pub placed_by : Act-F Name (Unit {0}) NamedAct NamedStmt → List NamedStmt → NamedStmt → List NamedStmt
placed_by (Act-F.Local d) before s = before ++ s ∷ []
placed_by a before s = joined before s ∷ []

-- The same within a block, where what goes before a declaration stands in that block itself, so that what is declared is
-- visible up to its end.
abbrev pub placed : List NamedStmt → NamedStmt → List NamedStmt
placed before s = placed_by (out-Act Name (Unit {0}) s.body) before s

abbrev pub OfAct : Type 0
OfAct = Pending → NamedAct × Pending

-- from what is pending to the statement and what is pending after it
abbrev pub OfStmt : Type 0
OfStmt = Pending → NamedStmt × Pending

-- a statement by itself, and the number of the next local
abbrev pub alone : OfStmt → ℕ → NamedStmt × ℕ
alone s n = after (s (none_pending n)) (λ t p. (joined p.stmts t, p.next))

-- the same of a statement that may be left out
abbrev pub part_alone : Option OfStmt → ℕ → Option NamedStmt × ℕ
part_alone None n = (None, n)
part_alone (Some s) n = after (alone s n) (λ t m. (Some t, m))

-- the statements of a block
abbrev pub in_block : List OfStmt → ℕ → List NamedStmt × ℕ
in_block [] n = ([], n)
in_block (s ∷ ss) n = after (s (none_pending n)) (λ t p. after (in_block ss p.next) (λ all m. (placed p.stmts t ++ all, m)))

-- a statement that may be left out, whose pending statements the whole one leaves pending
abbrev pub part_before : Option OfStmt → Pending → Option NamedStmt × Pending
part_before None p = (None, p)
part_before (Some s) p = after (s p) (λ t q. (Some t, q))

-- the condition of a loop, before each test of which statements run
abbrev pub loop_condition : List NamedStmt → NamedExpr → NamedExpr
loop_condition [] c = c
loop_condition (b ∷ bs) c = number_at 1 b.pos

-- the body of such a loop: `{ prelude; if (c) S else break; }`
abbrev pub loop_body : List NamedStmt → NamedExpr → NamedStmt → NamedStmt
loop_body [] c s = s
loop_body (b ∷ bs) c s = block_at ((b ∷ bs) ++ stmt_at (act.If c s (Some (stmt_at act.Break b.pos))) b.pos ∷ []) b.pos

-- the same of a loop whose condition may be left out
abbrev pub for_condition : List NamedStmt → Option NamedExpr → Option NamedExpr
for_condition before None = None
for_condition before (Some c) = Some (loop_condition before c)

abbrev pub for_body : List NamedStmt → Option NamedExpr → NamedStmt → NamedStmt
for_body before None s = s
for_body before (Some c) s = loop_body before c s

-- what a declared local begins as
abbrev pub init_plain : Integers → NamedInit → Pending → NamedInit × Pending
init_plain known init.Nothing p = (init.Nothing, p)
init_plain known (init.One e) p = after (whole_plain known e p) (λ a q. (init.One a, q))
init_plain known (init.Many es) p = after (exprs_plain known es p) (λ all q. (init.Many all, q))

-- the declaration of a local
abbrev pub local_plain : Integers → NamedDecl → Pending → NamedDecl × Pending
local_plain known d p = after (bounds_plain known d.bounds p) (λ b q. after (init_plain known d.init q) (λ i r. (record d { bounds = b; init = i }, r)))

-- the same that is pending, with another next number
abbrev pub with_next : Pending → ℕ → Pending
with_next p n = record p { next = n }

-- A statement without its place. What its condition, its value or its first part leaves pending goes before it. In a
-- loop, what its condition leaves pending goes before each test. Fresh locals are numbered in this order: the condition
-- of a loop, its body, its step.
abbrev pub act_parts : Integers → Act-F Name (Unit {0}) OfAct OfStmt → OfAct
act_parts known (Act-F.Block mode ss) p = after (in_block ss p.next) (λ all n. (act.Block mode all, with_next p n))
act_parts known Act-F.Empty p = (act.Empty, p)
act_parts known (Act-F.Local d) p = after (local_plain known d p) (λ e q. (act.Local e, q))
act_parts known (Act-F.Assign x e) p = after (expr_plain known x p) (λ a q. after (right_plain known a e q) (λ b r. (act.Assign a b, r)))
act_parts known (Act-F.Call e) p = after (whole_plain known e p) (λ a q. (act.Call a, q))
act_parts known (Act-F.If e s t) p = after (expr_plain known e p) (λ a q. after (alone s q.next) (λ u n. after (part_alone t n) (λ v m. (act.If a u v, with_next q m))))
act_parts known (Act-F.While e s) p =
    after (expr_plain known e (none_pending p.next)) (λ c q. after (alone s q.next) (λ t n.
    (act.While (loop_condition q.stmts c) (loop_body q.stmts c t), with_next p n)))
act_parts known (Act-F.For first e step body) p =
    after (part_before first p) (λ f q. after (maybe_plain known e (none_pending q.next)) (λ c r. after (alone body r.next) (λ t n. after (part_alone step n) (λ u m.
    (act.For f (for_condition r.stmts c) u (for_body r.stmts c t), with_next q m)))))
act_parts known (Act-F.Return e) p = after (maybe_plain known e p) (λ a q. (act.Return a, q))
act_parts known Act-F.Break p = (act.Break, p)
act_parts known Act-F.Continue p = (act.Continue, p)
act_parts known (Act-F.Check e) p = after (expr_plain known e p) (λ a q. (act.Check a, q))
act_parts known (Act-F.Bundle ss) p = after (in_block ss p.next) (λ all n. (act.Bundle all, with_next p n))

-- the same at its place
abbrev pub stmt_parts : Stmt-F Name (Unit {0}) OfAct OfStmt → OfStmt
stmt_parts s p = after (s.body p) (λ a q. (stmt_at a s.pos, q))

abbrev pub act_plain : Integers → NamedAct → OfAct
act_plain known = fold-Act Name (Unit {0}) OfAct OfStmt (act_parts known) stmt_parts

-- a statement without effects in its expressions
abbrev pub stmt_plain : Integers → NamedStmt → OfStmt
stmt_plain known = fold-Stmt Name (Unit {0}) OfAct OfStmt (act_parts known) stmt_parts

-- the statements of a block without effects in their expressions
abbrev pub block_plain : Integers → List NamedStmt → ℕ → List NamedStmt × ℕ
block_plain known ss = in_block (map (stmt_plain known) ss)

-- the body of a function, whose fresh locals are numbered after its own
abbrev pub body_plain : Integers → NamedStmt → NamedStmt
body_plain known body = (alone (stmt_plain known body) (length known.locals)).0

-- an item of a text: only the bodies of functions change
abbrev pub item_plain : Integers → NamedItem → NamedItem
item_plain known (item.Function h body) = item.Function h (body_plain (known_in known h body) body)
item_plain known i = i

-- the tree of a text without effects in its expressions
abbrev pub plain : NamedTree → NamedTree
plain tree = record { items = map (item_plain (known_of tree)) tree.items }
