-- A walk over a tree, one level at a time: what is found in the parts of a level is put together in the order of the
-- text. A walk says how it puts that together, what it finds in each kind of part, and its own rows.
use Rattle.std.specs.Prelude.{ℕ, ◌+◌, max, Bool, true, false, ◌&&◌, ◌||◌, List, [], ◌∷◌, ◌++◌, Option, None, Some}
use Rattle.ckc_syntax.specs.declared.tree.Item.{Item}
use Rattle.ckc_syntax.specs.declared.tree.Item.TheVariants as item
use Rattle.ckc_syntax.specs.declared.tree.Head.{Head}
use Rattle.ckc_syntax.specs.declared.tree.Decl.{Decl}
use Rattle.ckc_syntax.specs.declared.tree.Init.{Init}
use Rattle.ckc_syntax.specs.declared.tree.Init.TheVariants as init
use Rattle.ckc_syntax.specs.declared.tree.Limits.{Limits-F}
use Rattle.ckc_syntax.specs.declared.tree.Node.{Node-F}
use Rattle.ckc_syntax.specs.declared.tree.Expr.{Expr}
use Rattle.ckc_syntax.specs.declared.tree.Act.{Act-F}
use Rattle.ckc_syntax.specs.declared.tree.Stmt.{Stmt}

-- How a walk puts together what it finds: what it has if there is no part, and what two parts give.
pub record Joining (X : Type 0) : Type 0 where
  pub none : X
  pub both : X → X → X

-- one list after another
abbrev pub listed : {A : Type 0} → Joining (List A)
listed = record { none = []; both = λ xs ys. xs ++ ys }

-- the greater number, or 0
abbrev pub highest : Joining ℕ
highest = record { none = 0; both = max }

-- the sum
abbrev pub summed : Joining ℕ
summed = record { none = 0; both = λ m n. m + n }

-- whether each part has it
abbrev pub all_have : Joining Bool
all_have = record { none = true; both = λ a b. a && b }

-- whether a part has it
abbrev pub one_has : Joining Bool
one_has = record { none = false; both = λ a b. a || b }

-- what is found in a list of parts
abbrev pub inside_each : {P X : Type 0} → Joining X → (P → X) → List P → X
inside_each j of_part [] = j.none
inside_each j of_part (p ∷ ps) = j.both (of_part p) (inside_each j of_part ps)

-- what is found in a part that may be left out
abbrev pub inside_if : {P X : Type 0} → Joining X → (P → X) → Option P → X
inside_if j of_part None = j.none
inside_if j of_part (Some p) = of_part p

-- what is found in bounds
abbrev pub inside_limits : {N A L M E X : Type 0} → Joining X → (E → X) → Limits-F N A L M E → X
inside_limits j of_expr (Limits-F.Count e pos) = of_expr e
inside_limits j of_expr (Limits-F.ByteCount e pos) = of_expr e
inside_limits j of_expr (Limits-F.Between e f pos) = j.both (of_expr e) (of_expr f)
inside_limits j of_expr (Limits-F.Unknown pos) = j.none

-- what is found in an expression
abbrev pub inside_node : {N A L M E X : Type 0} → Joining X → (L → X) → (E → X) → Node-F N A L M E → X
inside_node j of_limits of_expr (Node-F.Number n unsigned) = j.none
inside_node j of_limits of_expr (Node-F.Text bytes) = j.none
inside_node j of_limits of_expr Node-F.Null = j.none
inside_node j of_limits of_expr (Node-F.Name n) = j.none
inside_node j of_limits of_expr (Node-F.Un op e) = of_expr e
inside_node j of_limits of_expr (Node-F.Bin op e f) = j.both (of_expr e) (of_expr f)
inside_node j of_limits of_expr (Node-F.Pick e f g) = j.both (j.both (of_expr e) (of_expr f)) (of_expr g)
inside_node j of_limits of_expr (Node-F.Index e f) = j.both (of_expr e) (of_expr f)
inside_node j of_limits of_expr (Node-F.Dot e n pos) = of_expr e
inside_node j of_limits of_expr (Node-F.Arrow e n pos) = of_expr e
inside_node j of_limits of_expr (Node-F.Cast t e) = of_expr e
inside_node j of_limits of_expr (Node-F.Size t) = j.none
inside_node j of_limits of_expr (Node-F.Trusted t e limits) = j.both (of_expr e) (inside_if j of_limits limits)
inside_node j of_limits of_expr (Node-F.Tested t e limits) = j.both (of_expr e) (inside_if j of_limits limits)
inside_node j of_limits of_expr (Node-F.Call n es) = inside_each j of_expr es
inside_node j of_limits of_expr (Node-F.Calloc t e u) = of_expr e

-- what is found in an initialiser
abbrev pub inside_init : {N A X : Type 0} → Joining X → (Expr N A → X) → Init N A → X
inside_init j of_expr init.Nothing = j.none
inside_init j of_expr (init.One e) = of_expr e
inside_init j of_expr (init.Many es) = inside_each j of_expr es

-- what is found in a statement
abbrev pub inside_act : {N A B S X : Type 0} → Joining X → (Expr N A → X) → (Decl N A → X) → (S → X) → Act-F N A B S → X
inside_act j of_expr of_decl of_stmt (Act-F.Block mode ss) = inside_each j of_stmt ss
inside_act j of_expr of_decl of_stmt Act-F.Empty = j.none
inside_act j of_expr of_decl of_stmt (Act-F.Local d) = of_decl d
inside_act j of_expr of_decl of_stmt (Act-F.Assign e f) = j.both (of_expr e) (of_expr f)
inside_act j of_expr of_decl of_stmt (Act-F.Call e) = of_expr e
inside_act j of_expr of_decl of_stmt (Act-F.If e s t) = j.both (j.both (of_expr e) (of_stmt s)) (inside_if j of_stmt t)
inside_act j of_expr of_decl of_stmt (Act-F.While e s) = j.both (of_expr e) (of_stmt s)
inside_act j of_expr of_decl of_stmt (Act-F.For s e t body) =
    j.both (j.both (j.both (inside_if j of_stmt s) (inside_if j of_expr e)) (inside_if j of_stmt t)) (of_stmt body)
inside_act j of_expr of_decl of_stmt (Act-F.Return e) = inside_if j of_expr e
inside_act j of_expr of_decl of_stmt Act-F.Break = j.none
inside_act j of_expr of_decl of_stmt Act-F.Continue = j.none
inside_act j of_expr of_decl of_stmt (Act-F.Check e) = of_expr e
inside_act j of_expr of_decl of_stmt (Act-F.Bundle ss) = inside_each j of_stmt ss

-- The same, where the step of a `for` comes after its body, as it runs.
abbrev pub inside_run : {N A B S X : Type 0} → Joining X → (Expr N A → X) → (Decl N A → X) → (S → X) → Act-F N A B S → X
inside_run j of_expr of_decl of_stmt (Act-F.For s e t body) =
    j.both (inside_if j of_stmt s) (j.both (inside_if j of_expr e) (j.both (of_stmt body) (inside_if j of_stmt t)))
inside_run j of_expr of_decl of_stmt a = inside_act j of_expr of_decl of_stmt a

-- what is found in an item
abbrev pub inside_item : {N A X : Type 0} → Joining X → (Decl N A → X) → (Head N A → X) → (Stmt N A → X) → Item N A → X
inside_item j of_decl of_head of_stmt (item.Directive d) = j.none
inside_item j of_decl of_head of_stmt (item.Tag n pos) = j.none
inside_item j of_decl of_head of_stmt (item.Struct n members pos) = inside_each j of_decl members
inside_item j of_decl of_head of_stmt (item.Static d) = of_decl d
inside_item j of_decl of_head of_stmt (item.Proto h) = of_head h
inside_item j of_decl of_head of_stmt (item.Function h body) = j.both (of_head h) (of_stmt body)
