-- Types, expressions, declarations and heads compared part by part, places aside, as the code compares them. It needs
-- no belief: `same_head` says what this comes to by Placeless.
use Rattle.std.specs.Prelude.{ℕ, Bool, true, false, ◌&&◌, ◌==◌, List, [], ◌∷◌, map, Option, None, Some}
use Rattle.std.specs.Str.{bytes_eq}
use Rattle.ckc_base.specs.declared.arithmetic.Mode.{Mode}
use Rattle.ckc_base.specs.declared.arithmetic.Mode.TheVariants as mode
use Rattle.ckc_syntax.specs.declared.tree.TreeOp.{TreeOp}
use Rattle.ckc_syntax.specs.declared.tree.TreeOp.TheVariants as op
use Rattle.ckc_syntax.specs.declared.tree.Length.{Length}
use Rattle.ckc_syntax.specs.declared.tree.Length.TheVariants as len
use Rattle.ckc_syntax.specs.declared.tree.Init.TheVariants as init
use Rattle.ckc_syntax.specs.declared.tree.TypeTree.{TypeTree-F, fold-TypeTree, out-TypeTree}
use Rattle.ckc_syntax.specs.declared.tree.Limits.{Limits-F, fold-Limits, out-Limits}
use Rattle.ckc_syntax.specs.declared.tree.Node.{Node-F, fold-Node, out-Node}
use Rattle.ckc_syntax.specs.declared.tree.Expr.{Expr-F, fold-Expr, out-Expr}
use Rattle.ckc_syntax.specs.Trees.{Spelling, TypeTree, Limits, Node, Expr, Init, Decl, Head}

-- lists of one length whose parts pass in pairs, each by the test of the first
abbrev pub pass_all : {A : Type 0} → List (A → Bool) → List A → Bool
pass_all [] [] = true
pass_all (p ∷ ps) (x ∷ xs) = p x && pass_all ps xs
pass_all _ _ = false

-- no part on either side, or two of which the second passes the test of the first
abbrev pub passes : {A : Type 0} → Option (A → Bool) → Option A → Bool
passes None None = true
passes (Some p) (Some x) = p x
passes _ _ = false

abbrev pub same_types : TypeTree-F Spelling (TypeTree → Bool) → TypeTree-F Spelling TypeTree → Bool
same_types TypeTree-F.Int TypeTree-F.Int = true
same_types TypeTree-F.Unsigned TypeTree-F.Unsigned = true
same_types TypeTree-F.Char TypeTree-F.Char = true
same_types TypeTree-F.Void TypeTree-F.Void = true
same_types (TypeTree-F.Struct s p) (TypeTree-F.Struct t q) = bytes_eq s t
same_types (TypeTree-F.Raw t p) (TypeTree-F.Raw u q) = t u
same_types (TypeTree-F.One t) (TypeTree-F.One u) = t u
same_types (TypeTree-F.Arr t) (TypeTree-F.Arr u) = t u
same_types (TypeTree-F.Nt t) (TypeTree-F.Nt u) = t u
same_types _ _ = false

abbrev pub same_type : TypeTree → TypeTree → Bool
same_type = fold-TypeTree Spelling (TypeTree → Bool) (λ t u. same_types t (out-TypeTree Spelling u))

-- the operators by number, in the order of their declaration
abbrev pub number_of_op : TreeOp → ℕ
number_of_op op.Minus = 0
number_of_op op.Plus = 1
number_of_op op.Not = 2
number_of_op op.Flip = 3
number_of_op op.Deref = 4
number_of_op op.Address = 5
number_of_op op.OrElse = 6
number_of_op op.AndThen = 7
number_of_op op.Or = 8
number_of_op op.Xor = 9
number_of_op op.And = 10
number_of_op op.Eq = 11
number_of_op op.Ne = 12
number_of_op op.Lt = 13
number_of_op op.Le = 14
number_of_op op.Gt = 15
number_of_op op.Ge = 16
number_of_op op.Shl = 17
number_of_op op.Shr = 18
number_of_op op.Add = 19
number_of_op op.Sub = 20
number_of_op op.Mul = 21
number_of_op op.Div = 22
number_of_op op.Rem = 23
number_of_op op.Set = 24
number_of_op op.PostInc = 25
number_of_op op.PostDec = 26

abbrev pub same_op : TreeOp → TreeOp → Bool
same_op o p = number_of_op o == number_of_op p

abbrev pub same_flag : Bool → Bool → Bool
same_flag true true = true
same_flag false false = true
same_flag _ _ = false

abbrev pub OfLimits : Type 0
OfLimits = Limits → Bool

abbrev pub OfNode : Type 0
OfNode = Node → Bool

abbrev pub OfExpr : Type 0
OfExpr = Expr → Bool

abbrev pub LimitsTests : Type 0
LimitsTests = Limits-F Spelling (Unit {0}) OfLimits OfNode OfExpr

abbrev pub NodeTests : Type 0
NodeTests = Node-F Spelling (Unit {0}) OfLimits OfNode OfExpr

abbrev pub same_limits_parts : LimitsTests → Limits-F Spelling (Unit {0}) Limits Node Expr → Bool
same_limits_parts (Limits-F.Count e p) (Limits-F.Count a q) = e a
same_limits_parts (Limits-F.ByteCount e p) (Limits-F.ByteCount a q) = e a
same_limits_parts (Limits-F.Between e f p) (Limits-F.Between a b q) = e a && f b
same_limits_parts (Limits-F.Unknown p) (Limits-F.Unknown q) = true
same_limits_parts _ _ = false

abbrev pub same_node_parts : NodeTests → Node-F Spelling (Unit {0}) Limits Node Expr → Bool
same_node_parts (Node-F.Number n u) (Node-F.Number m v) = (n == m) && same_flag u v
same_node_parts (Node-F.Text s) (Node-F.Text t) = bytes_eq s t
same_node_parts Node-F.Null Node-F.Null = true
same_node_parts (Node-F.Name s) (Node-F.Name t) = bytes_eq s t
same_node_parts (Node-F.Un o e) (Node-F.Un p a) = same_op o p && e a
same_node_parts (Node-F.Bin o e f) (Node-F.Bin p a b) = same_op o p && (e a && f b)
same_node_parts (Node-F.Pick e f g) (Node-F.Pick a b c) = e a && (f b && g c)
same_node_parts (Node-F.Index e f) (Node-F.Index a b) = e a && f b
same_node_parts (Node-F.Dot e s p) (Node-F.Dot a t q) = e a && bytes_eq s t
same_node_parts (Node-F.Arrow e s p) (Node-F.Arrow a t q) = e a && bytes_eq s t
same_node_parts (Node-F.Cast t e) (Node-F.Cast u a) = same_type t u && e a
same_node_parts (Node-F.Size t) (Node-F.Size u) = same_type t u
same_node_parts (Node-F.Trusted t e l) (Node-F.Trusted u a m) = same_type t u && (e a && passes l m)
same_node_parts (Node-F.Tested t e l) (Node-F.Tested u a m) = same_type t u && (e a && passes l m)
same_node_parts (Node-F.Call s es) (Node-F.Call t fs) = bytes_eq s t && pass_all es fs
same_node_parts (Node-F.Calloc t e u) (Node-F.Calloc v a w) = same_type t v && (e a && same_type u w)
same_node_parts _ _ = false

abbrev pub of_limits : LimitsTests → OfLimits
of_limits l m = same_limits_parts l (out-Limits Spelling (Unit {0}) m)

abbrev pub of_node : NodeTests → OfNode
of_node n m = same_node_parts n (out-Node Spelling (Unit {0}) m)

abbrev pub of_expr : Expr-F Spelling (Unit {0}) OfLimits OfNode OfExpr → OfExpr
of_expr e a = e.node (out-Expr Spelling (Unit {0}) a).node

abbrev pub same_limits : Limits → Limits → Bool
same_limits = fold-Limits Spelling (Unit {0}) OfLimits OfNode OfExpr of_limits of_node of_expr

abbrev pub same_node : Node → Node → Bool
same_node = fold-Node Spelling (Unit {0}) OfLimits OfNode OfExpr of_limits of_node of_expr

abbrev pub same_expr : Expr → Expr → Bool
same_expr = fold-Expr Spelling (Unit {0}) OfLimits OfNode OfExpr of_limits of_node of_expr

abbrev pub same_exprs : List Expr → List Expr → Bool
same_exprs es fs = pass_all (map same_expr es) fs

abbrev pub same_bounds : Option Limits → Option Limits → Bool
same_bounds None None = true
same_bounds (Some l) (Some m) = same_limits l m
same_bounds _ _ = false

abbrev pub same_init : Init → Init → Bool
same_init init.Nothing init.Nothing = true
same_init (init.One e) (init.One a) = same_expr e a
same_init (init.Many es) (init.Many fs) = same_exprs es fs
same_init _ _ = false

abbrev pub same_number : Option ℕ → Option ℕ → Bool
same_number None None = true
same_number (Some n) (Some m) = n == m
same_number _ _ = false

abbrev pub same_length : Length → Length → Bool
same_length len.Plain len.Plain = true
same_length (len.Raw n p) (len.Raw m q) = same_number n m
same_length (len.Checked n) (len.Checked m) = same_number n m
same_length (len.Nt n) (len.Nt m) = same_number n m
same_length _ _ = false

abbrev pub same_mode : Option Mode → Option Mode → Bool
same_mode None None = true
same_mode (Some mode.Checked) (Some mode.Checked) = true
same_mode (Some mode.Unchecked) (Some mode.Unchecked) = true
same_mode _ _ = false

abbrev pub same_decl : Decl → Decl → Bool
same_decl d e = same_type d.ctype e.ctype && (bytes_eq d.name e.name && (same_length d.length e.length && (same_bounds d.bounds e.bounds && same_init d.init e.init)))

abbrev pub same_decls : List Decl → List Decl → Bool
same_decls ds es = pass_all (map same_decl ds) es

abbrev pub same_head_parts : Head → Head → Bool
same_head_parts g h = bytes_eq g.name h.name && (same_mode g.mode h.mode && (same_type g.result h.result && (same_decls g.params h.params && same_bounds g.bounds h.bounds)))
