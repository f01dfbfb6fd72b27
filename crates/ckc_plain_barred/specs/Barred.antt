-- The effects of a text that may not stand where they stand, in walk order: the parts of a statement from left to right,
-- and the step of a `for` after its body.
use Rattle.std.specs.Prelude.{Bool, true, false, List, [], ◌++◌}
use Rattle.ckc_base.specs.declared.places.Pos.{Pos}
use Rattle.ckc_syntax.specs.declared.tree.Name.{Name}
use Rattle.ckc_syntax.specs.declared.tree.Init.TheVariants as init
use Rattle.ckc_syntax.specs.declared.tree.Item.TheVariants as item
use Rattle.ckc_syntax.specs.declared.tree.Act.{Act-F, fold-Act}
use Rattle.ckc_syntax.specs.declared.tree.Stmt.{Stmt-F, fold-Stmt}
use Rattle.ckc_syntax.specs.Inside.{listed, inside_if, inside_each, inside_item}
use Rattle.ckc_syntax.specs.Trees.{NamedTree, NamedItem, NamedHead, NamedDecl, NamedInit, NamedStmt, NamedAct}
use Rattle.ckc_plain_barred.specs.declared.integers.Integers.{Integers}
use Rattle.ckc_plain_barred.specs.Integers.{known_of, known_in}
use Rattle.ckc_plain_barred.specs.Effects.{in_expr, in_whole, in_right, in_exprs, in_bounds, in_maybe}

-- the refused effects of what a local begins as
abbrev pub in_init : Integers → NamedInit → Bool → List Pos
in_init known init.Nothing barred = []
in_init known (init.One e) barred = in_whole known e barred
in_init known (init.Many es) barred = in_exprs known es barred

-- the refused effects of the declaration of a local
abbrev pub in_local : Integers → NamedDecl → Bool → List Pos
in_local known d barred = in_bounds known d.bounds ++ in_init known d.init barred

-- the refused effects of a statement, by whether it stands where effects are barred
abbrev pub OfStmt : Type 0
OfStmt = Bool → List Pos

-- the refused effects of a statement without its place, by those of its parts
abbrev pub act_parts : Integers → Act-F Name (Unit {0}) OfStmt OfStmt → OfStmt
act_parts known (Act-F.Block mode ss) barred = inside_each listed (λ s. s barred) ss
act_parts known Act-F.Empty barred = []
act_parts known (Act-F.Local d) barred = in_local known d barred
act_parts known (Act-F.Assign x e) barred = in_expr known x true ++ in_right known x e barred
act_parts known (Act-F.Call e) barred = in_whole known e barred
act_parts known (Act-F.If e s t) barred = in_expr known e barred ++ (s barred ++ inside_if listed (λ s. s barred) t)
act_parts known (Act-F.While e s) barred = in_expr known e barred ++ s barred
act_parts known (Act-F.For first e step body) barred =
    inside_if listed (λ s. s barred) first ++ (in_maybe known e barred ++ (body barred ++ inside_if listed (λ s. s barred) step))
act_parts known (Act-F.Return e) barred = in_maybe known e barred
act_parts known Act-F.Break barred = []
act_parts known Act-F.Continue barred = []
act_parts known (Act-F.Check e) barred = in_expr known e barred
act_parts known (Act-F.Bundle ss) barred = inside_each listed (λ s. s true) ss

abbrev pub stmt_parts : Stmt-F Name (Unit {0}) OfStmt OfStmt → OfStmt
stmt_parts s = s.body

abbrev pub in_act : Integers → NamedAct → OfStmt
in_act known = fold-Act Name (Unit {0}) OfStmt OfStmt (act_parts known) stmt_parts

-- the refused effects of a statement
abbrev pub in_stmt : Integers → NamedStmt → OfStmt
in_stmt known = fold-Stmt Name (Unit {0}) OfStmt OfStmt (act_parts known) stmt_parts

-- the refused effects of what an object of file scope begins as, where all are barred
abbrev pub in_static_init : Integers → NamedInit → List Pos
in_static_init known init.Nothing = []
in_static_init known (init.One e) = in_expr known e true
in_static_init known (init.Many es) = in_exprs known es true

-- the refused effects of an object of file scope, a member or a parameter
abbrev pub in_decl : Integers → NamedDecl → List Pos
in_decl known d = in_bounds known d.bounds ++ in_static_init known d.init

-- the refused effects in the head of a function
abbrev pub in_head : Integers → NamedHead → List Pos
in_head known h = inside_each listed (in_decl known) h.params ++ in_bounds known h.bounds

-- the refused effects of a function, whose body knows its locals
abbrev pub in_function : Integers → NamedHead → NamedStmt → List Pos
in_function known h body = in_head known h ++ in_stmt (known_in known h body) body false

-- the refused effects of an item of a text
abbrev pub in_item : Integers → NamedItem → List Pos
in_item known (item.Function h body) = in_function known h body
in_item known i = inside_item listed (in_decl known) (in_head known) (λ s. []) i

-- the places of the effects of a text that may not stand where they stand, in walk order
abbrev pub barred : NamedTree → List Pos
barred tree = inside_each listed (in_item (known_of tree)) tree.items
