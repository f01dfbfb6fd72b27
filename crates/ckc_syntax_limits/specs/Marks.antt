-- What there is to count in a tree.
use Rattle.std.specs.Prelude.{List, [], ◌∷◌, ◌++◌, Option, flat_map, Bool, true, false}
use Rattle.ckc_syntax.specs.Inside.{listed, inside_if, inside_limits, inside_node, inside_init, inside_act, inside_item}
use Rattle.ckc_syntax.specs.declared.tree.Tree.{Tree}
use Rattle.ckc_syntax.specs.declared.tree.Item.{Item}
use Rattle.ckc_syntax.specs.declared.tree.Item.TheVariants as item
use Rattle.ckc_syntax.specs.declared.tree.Head.{Head}
use Rattle.ckc_syntax.specs.declared.tree.Decl.{Decl}
use Rattle.ckc_syntax.specs.declared.tree.Init.{Init}
use Rattle.ckc_syntax.specs.declared.tree.Limits.{Limits, fold-Limits}
use Rattle.ckc_syntax.specs.declared.tree.Node.{Node, Node-F, fold-Node}
use Rattle.ckc_syntax.specs.declared.tree.Expr.{Expr, Expr-F, fold-Expr}
use Rattle.ckc_syntax.specs.declared.tree.Act.{Act, Act-F, fold-Act}
use Rattle.ckc_syntax.specs.declared.tree.Stmt.{Stmt, Stmt-F, fold-Stmt}

-- A `node` is a statement, a declaration, the head of a function or an expression. A `local` is a local or a
-- parameter, a `text` a string literal, a `function` one with a body, and a `static` an object of the text.
pub data Mark : Type 0 where
  node : Mark
  local : Mark
  text : Mark
  function : Mark
  static : Mark

-- The marks of a tree are those of its parts, in the order of the text, and its own first.
abbrev pub node_marks : {N A : Type 0} → Node-F N A (List Mark) (List Mark) (List Mark) → List Mark
node_marks (Node-F.Text bytes) = text ∷ []
node_marks n = inside_node listed (λ l. l) (λ e. e) n

-- the marks of an expression: a node, and those of its parts
abbrev pub expr_marks : {N A : Type 0} → Expr-F N A (List Mark) (List Mark) (List Mark) → List Mark
expr_marks e = node ∷ e.node

-- the marks of bounds
abbrev pub marks_of_limits : {N A : Type 0} → Limits N A → List Mark
marks_of_limits {N} {A} = fold-Limits N A (List Mark) (List Mark) (List Mark) (inside_limits listed (λ e. e)) node_marks expr_marks

abbrev pub marks_of_node : {N A : Type 0} → Node N A → List Mark
marks_of_node {N} {A} = fold-Node N A (List Mark) (List Mark) (List Mark) (inside_limits listed (λ e. e)) node_marks expr_marks

-- the marks of an expression and all that stands in it
abbrev pub marks_of_expr : {N A : Type 0} → Expr N A → List Mark
marks_of_expr {N} {A} = fold-Expr N A (List Mark) (List Mark) (List Mark) (inside_limits listed (λ e. e)) node_marks expr_marks

-- the marks of the bounds of a declaration, if it has them
abbrev pub marks_of_bounds : {N A : Type 0} → Option (Limits N A) → List Mark
marks_of_bounds = inside_if listed marks_of_limits

-- the marks of an initialiser
abbrev pub marks_of_init : {N A : Type 0} → Init N A → List Mark
marks_of_init = inside_init listed marks_of_expr

-- the marks of a declaration: a node, and those of its bounds and its initialiser
abbrev pub marks_of_decl : {N A : Type 0} → Decl N A → List Mark
marks_of_decl d = node ∷ marks_of_bounds d.bounds ++ marks_of_init d.init

abbrev pub marks_of_value : {N A : Type 0} → Option (Expr N A) → List Mark
marks_of_value = inside_if listed marks_of_expr

-- the marks of what stands in a statement, with one more for a declared local
abbrev pub act_marks : {N A : Type 0} → Act-F N A (List Mark) (List Mark) → List Mark
act_marks (Act-F.Local d) = local ∷ marks_of_decl d
act_marks a = inside_act listed marks_of_expr marks_of_decl (λ s. s) a

-- the marks of a statement: a node, and those of its parts
abbrev pub stmt_marks : {N A : Type 0} → Stmt-F N A (List Mark) (List Mark) → List Mark
stmt_marks s = node ∷ s.body

abbrev pub marks_of_act : {N A : Type 0} → Act N A → List Mark
marks_of_act {N} {A} = fold-Act N A (List Mark) (List Mark) act_marks stmt_marks

-- the marks of a statement and all that stands in it
abbrev pub marks_of_stmt : {N A : Type 0} → Stmt N A → List Mark
marks_of_stmt {N} {A} = fold-Stmt N A (List Mark) (List Mark) act_marks stmt_marks

abbrev pub marks_of_part : {N A : Type 0} → Option (Stmt N A) → List Mark
marks_of_part = inside_if listed marks_of_stmt

-- the marks of a parameter, which counts as a local
abbrev pub marks_of_param : {N A : Type 0} → Decl N A → List Mark
marks_of_param d = local ∷ marks_of_decl d

-- the marks of the head of a function: a node, and those of its parameters and of the bounds of its result
abbrev pub marks_of_head : {N A : Type 0} → Head N A → List Mark
marks_of_head h = node ∷ flat_map marks_of_param h.params ++ marks_of_bounds h.bounds

-- the marks of an item of a text
abbrev pub marks_of_item : {N A : Type 0} → Item N A → List Mark
marks_of_item (item.Static d) = static ∷ marks_of_decl d
marks_of_item (item.Function h body) = function ∷ marks_of_head h ++ marks_of_stmt body
marks_of_item i = inside_item listed marks_of_decl marks_of_head marks_of_stmt i

-- the marks of a whole text
abbrev pub marks_of : {N A : Type 0} → Tree N A → List Mark
marks_of tree = flat_map marks_of_item tree.items

-- how many marks are of a kind
abbrev pub is_node : Mark → Bool
is_node node = true
is_node _ = false

-- whether a mark is that of a local or a parameter
abbrev pub is_local : Mark → Bool
is_local local = true
is_local _ = false

-- whether a mark is that of a string literal
abbrev pub is_text : Mark → Bool
is_text text = true
is_text _ = false

-- whether a mark is that of a function with a body
abbrev pub is_function : Mark → Bool
is_function function = true
is_function _ = false

-- whether a mark is that of an object of the text
abbrev pub is_static : Mark → Bool
is_static static = true
is_static _ = false
