-- What a typed tree holds for the rules of checked scopes to judge, in walk order: items in the order of the text; in
-- a declaration its type and limits, then its initialiser; in a statement or an expression its parts from left to
-- right, then itself; in a `for` the step comes after the body.
use Rattle.std.specs.Prelude.{ℕ, List, [], ◌∷◌, ◌++◌, Option, unwrap_or, map}
use Rattle.ckc_base.specs.declared.places.Pos.{Pos}
use Rattle.ckc_base.specs.declared.arithmetic.Mode.{Mode}
use Rattle.ckc_base.specs.declared.arithmetic.Mode.TheVariants.{Checked, Unchecked}
use Rattle.ckc_types.specs.declared.types.CType.{CType}
use Rattle.ckc_syntax.specs.Inside.{listed, inside_each, inside_if, inside_limits, inside_node, inside_init, inside_run, inside_item}
use Rattle.ckc_syntax.specs.declared.tokens.Directive.{Directive}
use Rattle.ckc_syntax.specs.declared.tokens.Directive.TheVariants as directive
use Rattle.ckc_syntax.specs.declared.tree.Name.{Name}
use Rattle.ckc_syntax.specs.declared.tree.Name.TheVariants as name
use Rattle.ckc_syntax.specs.declared.tree.Item.{Item}
use Rattle.ckc_syntax.specs.declared.tree.Item.TheVariants as item
use Rattle.ckc_syntax.specs.declared.tree.Head.{Head}
use Rattle.ckc_syntax.specs.declared.tree.Decl.{Decl}
use Rattle.ckc_syntax.specs.declared.tree.Init.{Init}
use Rattle.ckc_syntax.specs.declared.tree.Limits.{Limits, fold-Limits}
use Rattle.ckc_syntax.specs.declared.tree.Node.{Node, Node-F, fold-Node}
use Rattle.ckc_syntax.specs.declared.tree.Expr.{Expr, Expr-F, fold-Expr}
use Rattle.ckc_syntax.specs.declared.tree.Act.{Act, Act-F, fold-Act}
use Rattle.ckc_syntax.specs.declared.tree.Stmt.{Stmt, Stmt-F, fold-Stmt}
use Rattle.ckc_typed.specs.declared.typed.Note.{Note}
use Rattle.ckc_typed.specs.declared.typed.Typed.{Typed}
use Rattle.ckc_typed.specs.Raw.{stars, raws_of_decl, raws_of_param}

-- What is judged: an unchecked pointer or array that a declaration writes, the type of an expression, a function that
-- is called, by its number, and `_Assume_bounds_cast`.
pub data Matter : Type 0 where
  written : Matter
  value : (ctype : CType) → Matter
  called : (function : ℕ) → Matter
  assumed : Matter

-- a matter with its place, and the mode of the scope that it stands in
pub record Spot : Type 0 where
  pub mode : Mode
  pub at : Pos
  pub matter : Matter

-- a matter at a place, in a scope with a mode
abbrev pub spot : Mode → Pos → Matter → Spot
spot mode at matter = record { mode = mode; at = at; matter = matter }

-- the unchecked pointers and arrays at these places
abbrev pub written_at : Mode → List Pos → List Spot
written_at mode places = map (λ at. spot mode at written) places

-- the spots of an expression's parts, and what is judged of itself beside its type
pub record Within : Type 0 where
  pub parts : List Spot
  pub own : List Matter

-- the function of the source file that a name means, as a list of at most one
abbrev pub called_by : Name → List Matter
called_by (name.Function k) = called k ∷ []
called_by _ = []

-- what is judged of a node itself: an `_Assume_bounds_cast`, and a function that is called
abbrev pub own_matters : Node-F Name Note (List Spot) Within (List Spot) → List Matter
own_matters (Node-F.Trusted t e limits) = assumed ∷ []
own_matters (Node-F.Call n es) = called_by n
own_matters _ = []

-- the spots of the parts of a node, and what is judged of the node itself
abbrev pub node_spots : Node-F Name Note (List Spot) Within (List Spot) → Within
node_spots n = record { parts = inside_node listed (λ l. l) (λ e. e) n; own = own_matters n }

-- the spots of an expression: those of its parts, then its type, then what else is judged of it
abbrev pub expr_spots : Expr-F Name Note (List Spot) Within (List Spot) → List Spot
expr_spots e = e.node.parts ++ map (spot e.note.mode e.pos) (value e.note.ctype ∷ e.node.own)

-- the spots of bounds
abbrev pub spots_of_limits : Limits Name Note → List Spot
spots_of_limits = fold-Limits Name Note (List Spot) Within (List Spot) (inside_limits listed (λ e. e)) node_spots expr_spots

abbrev pub within : Node Name Note → Within
within = fold-Node Name Note (List Spot) Within (List Spot) (inside_limits listed (λ e. e)) node_spots expr_spots

-- the spots of an expression and its parts, from left to right
abbrev pub spots_of_expr : Expr Name Note → List Spot
spots_of_expr = fold-Expr Name Note (List Spot) Within (List Spot) (inside_limits listed (λ e. e)) node_spots expr_spots

-- the same of bounds that there may be
abbrev pub spots_of_bounds : Option (Limits Name Note) → List Spot
spots_of_bounds = inside_if listed spots_of_limits

abbrev pub spots_of_value : Option (Expr Name Note) → List Spot
spots_of_value = inside_if listed spots_of_expr

-- the spots of an initialiser
abbrev pub spots_of_init : Init Name Note → List Spot
spots_of_init = inside_init listed spots_of_expr

-- the spots of a declaration with these unchecked pointers and arrays in it: these, then its bounds, then its initialiser
abbrev pub spots_declared : Mode → List Pos → Decl Name Note → List Spot
spots_declared mode raws d = written_at mode raws ++ (spots_of_bounds d.bounds ++ spots_of_init d.init)

-- the spots of a declaration that is no parameter
abbrev pub spots_of_decl : Mode → Decl Name Note → List Spot
spots_of_decl mode d = spots_declared mode (raws_of_decl d) d

-- the spots of a parameter
abbrev pub spots_of_param : Mode → Decl Name Note → List Spot
spots_of_param mode d = spots_declared mode (raws_of_param d) d

-- A declaration that is a statement has the statement's mode.
abbrev pub act_spots : Act-F Name Note (Mode → List Spot) (List Spot) → Mode → List Spot
act_spots a mode = inside_run listed spots_of_expr (spots_of_decl mode) (λ s. s) a

-- What is judged in a statement is judged in the mode that the statement notes.
abbrev pub stmt_spots : Stmt-F Name Note (Mode → List Spot) (List Spot) → List Spot
stmt_spots s = s.body s.note.mode

abbrev pub spots_of_act : Act Name Note → Mode → List Spot
spots_of_act = fold-Act Name Note (Mode → List Spot) (List Spot) act_spots stmt_spots

-- the spots of a statement
abbrev pub spots_of_stmt : Stmt Name Note → List Spot
spots_of_stmt = fold-Stmt Name Note (Mode → List Spot) (List Spot) act_spots stmt_spots

abbrev pub spots_of_part : Option (Stmt Name Note) → List Spot
spots_of_part = inside_if listed spots_of_stmt

-- A head has its own mode, or that of the pragma before it.
abbrev pub head_mode : {N A : Type 0} → Mode → Head N A → Mode
head_mode pragma h = unwrap_or h.mode pragma

-- the type of its result, its parameters, its limits
abbrev pub spots_of_head : Mode → Head Name Note → List Spot
spots_of_head pragma h =
    let mode = head_mode pragma h in
    written_at mode (stars h.result) ++ (inside_each listed (spots_of_param mode) h.params ++ spots_of_bounds h.bounds)

-- the spots of an item of a source file, in the mode of the last pragma before it
abbrev pub spots_of_item : Mode → Item Name Note → List Spot
spots_of_item pragma = inside_item listed (spots_of_decl pragma) (spots_of_head pragma) spots_of_stmt

-- the mode of what follows a directive: a pragma sets it, an `#include` leaves it
abbrev pub mode_of_directive : Mode → Directive → Mode
mode_of_directive pragma directive.ScopeOn = Checked
mode_of_directive pragma directive.ScopeOff = Unchecked
mode_of_directive pragma directive.Stdio = pragma
mode_of_directive pragma directive.Stdlib = pragma
mode_of_directive pragma directive.Stdchecked = pragma

-- the mode of what follows an item, if no head says another
abbrev pub pragma_after : {N A : Type 0} → Mode → Item N A → Mode
pragma_after pragma (item.Directive d) = mode_of_directive pragma d
pragma_after pragma _ = pragma

-- the spots of the items of a source file, in order
abbrev pub spots_of_items : Mode → List (Item Name Note) → List Spot
spots_of_items pragma [] = []
spots_of_items pragma (i ∷ rest) = spots_of_item pragma i ++ spots_of_items (pragma_after pragma i) rest

-- all that is judged of a typed text, in walk order
abbrev pub walk : Typed → List Spot
walk p = spots_of_items Unchecked p.tree.items
