-- Which codes the refusals of the types phase have: of outcomes, and of expressions and bounds.
use Rattle.std.proofs.Common.{inl, inr, Bool, true, false, List, [], ◌∷◌, map, refl}
use Rattle.std.specs.Prelude.{Option, Some, None, Ok, not, ◌||◌, ◌==◌, length}
use Rattle.std.specs.Option.{option_map}
use Rattle.ckc_base.proofs.Codes
use Rattle.ckc_base.specs.declared.places.Pos.{Pos}
use Rattle.ckc_base.specs.declared.arithmetic.Mode.{Mode}
use Rattle.ckc_base.specs.Outcomes.{Outcome, bind, unless, there_or, in_order, if_there}
use Rattle.ckc_types.specs.declared.types.CType.{CType}
use Rattle.ckc_types.specs.declared.types.CType.TheVariants as ctype
use Rattle.ckc_types.specs.declared.types.Kind.TheVariants as kind
use Rattle.ckc_syntax.specs.declared.tree.Name.{Name}
use Rattle.ckc_syntax.specs.declared.tree.TreeOp.{TreeOp}
use Rattle.ckc_syntax.specs.declared.tree.TreeOp.TheVariants as op
use Rattle.ckc_syntax.specs.declared.tree.Limits.{Limits-F}
use Rattle.ckc_syntax.specs.declared.tree.Node.{Node-F}
use Rattle.ckc_syntax.proofs.Layers as kept
use Rattle.ckc_syntax.proofs.Layers.{Steps, Property, LimitsLayer, NodeLayer, ExprLayer, limits_made, node_made, expr_made, each_limits, each_expr}
use Rattle.ckc_typed.specs.declared.environment.Globals.{Globals}
use Rattle.ckc_typed.specs.declared.environment.Parameter.{Parameter}
use Rattle.ckc_typed.specs.declared.environment.Signature.{Signature}
use Rattle.ckc_typed.specs.declared.environment.Variable.{Variable}
use Rattle.ckc_typed.specs.Codes.{bad_operands, bad_conversion, bad_target, bad_call, no_address, no_loop, no_initialiser, late_statics}
use Rattle.ckc_typed.specs.Trees.{Limits, Expr, NotedLimits, NotedExpr}
use Rattle.ckc_typed.specs.Types.{type_written, is_void, is_object_type}
use Rattle.ckc_typed.specs.Conversions.{is_null, is_bounds_cast, is_tested, is_trusted}
use Rattle.ckc_typed.specs.Environment.{type_of_name, signature_named}
use Rattle.ckc_typed.specs.Operands.{unary_type, binary_type, choice_type, index_type, dot_type, arrow_type, is_cast, size_type}
use Rattle.ckc_typed.specs.Expressions.{OfLimits, OfNode, OfExpr, address_kind, has_address, in_row, address_typed, unary_typed, binary_typed, choice_typed, index_typed, dot_typed, arrow_typed, cast_typed, is_no_allocation, allocation_typed, tested_typed, trusted_typed, takes, arguments_typed, result_typed, call_typed, limits_parts, node_parts, expr_parts, limits_typed, expr_typed, exprs_typed, bounds_typed, value_typed}
use Rattle.ckc_typing.specs.Phase.{IsTypeCode}

pub is_206 : IsTypeCode late_statics
is_206 = inl refl

pub is_401 : IsTypeCode bad_operands
is_401 = inr (inl refl)

pub is_402 : IsTypeCode bad_conversion
is_402 = inr (inr (inl refl))

pub is_403 : IsTypeCode bad_target
is_403 = inr (inr (inr (inl refl)))

pub is_404 : IsTypeCode bad_call
is_404 = inr (inr (inr (inr (inl refl))))

pub is_405 : IsTypeCode no_address
is_405 = inr (inr (inr (inr (inr (inl refl)))))

pub is_406 : IsTypeCode no_loop
is_406 = inr (inr (inr (inr (inr (inr (inl refl))))))

pub is_407 : IsTypeCode no_initialiser
is_407 = inr (inr (inr (inr (inr (inr (inr refl))))))

-- a refusal among them has such a code
abbrev pub Coded : {A : Type 0} → Outcome A → Type 0
Coded o = Codes.HasCode IsTypeCode o

-- the types of operators
row_coded : (void : Bool) (at : Pos) (t : Option CType) → Coded (in_row void at t)
row_coded true at t = Codes.there IsTypeCode bad_conversion at t is_402
row_coded false at t = Codes.there IsTypeCode bad_operands at t is_401

address_coded : (globals : Globals) (mode : Mode) (e : NotedExpr) (at : Pos) → Coded (address_typed globals mode e at)
address_coded globals mode e at =
    Codes.kept IsTypeCode {A = CType} (not (has_address globals e)) no_address at (Ok (ctype.Pointer (address_kind mode) e.note.ctype)) is_405 tt

unary_coded : (globals : Globals) (mode : Mode) (o : TreeOp) (e : NotedExpr) (at : Pos) → Coded (unary_typed globals mode o e at)
unary_coded globals mode op.Address e at = address_coded globals mode e at
unary_coded globals mode op.Minus e at = row_coded (is_void e.note.ctype) at (unary_type op.Minus e.note.ctype)
unary_coded globals mode op.Plus e at = row_coded (is_void e.note.ctype) at (unary_type op.Plus e.note.ctype)
unary_coded globals mode op.Not e at = row_coded (is_void e.note.ctype) at (unary_type op.Not e.note.ctype)
unary_coded globals mode op.Flip e at = row_coded (is_void e.note.ctype) at (unary_type op.Flip e.note.ctype)
unary_coded globals mode op.Deref e at = row_coded (is_void e.note.ctype) at (unary_type op.Deref e.note.ctype)
unary_coded globals mode op.OrElse e at = row_coded (is_void e.note.ctype) at (unary_type op.OrElse e.note.ctype)
unary_coded globals mode op.AndThen e at = row_coded (is_void e.note.ctype) at (unary_type op.AndThen e.note.ctype)
unary_coded globals mode op.Or e at = row_coded (is_void e.note.ctype) at (unary_type op.Or e.note.ctype)
unary_coded globals mode op.Xor e at = row_coded (is_void e.note.ctype) at (unary_type op.Xor e.note.ctype)
unary_coded globals mode op.And e at = row_coded (is_void e.note.ctype) at (unary_type op.And e.note.ctype)
unary_coded globals mode op.Eq e at = row_coded (is_void e.note.ctype) at (unary_type op.Eq e.note.ctype)
unary_coded globals mode op.Ne e at = row_coded (is_void e.note.ctype) at (unary_type op.Ne e.note.ctype)
unary_coded globals mode op.Lt e at = row_coded (is_void e.note.ctype) at (unary_type op.Lt e.note.ctype)
unary_coded globals mode op.Le e at = row_coded (is_void e.note.ctype) at (unary_type op.Le e.note.ctype)
unary_coded globals mode op.Gt e at = row_coded (is_void e.note.ctype) at (unary_type op.Gt e.note.ctype)
unary_coded globals mode op.Ge e at = row_coded (is_void e.note.ctype) at (unary_type op.Ge e.note.ctype)
unary_coded globals mode op.Shl e at = row_coded (is_void e.note.ctype) at (unary_type op.Shl e.note.ctype)
unary_coded globals mode op.Shr e at = row_coded (is_void e.note.ctype) at (unary_type op.Shr e.note.ctype)
unary_coded globals mode op.Add e at = row_coded (is_void e.note.ctype) at (unary_type op.Add e.note.ctype)
unary_coded globals mode op.Sub e at = row_coded (is_void e.note.ctype) at (unary_type op.Sub e.note.ctype)
unary_coded globals mode op.Mul e at = row_coded (is_void e.note.ctype) at (unary_type op.Mul e.note.ctype)
unary_coded globals mode op.Div e at = row_coded (is_void e.note.ctype) at (unary_type op.Div e.note.ctype)
unary_coded globals mode op.Rem e at = row_coded (is_void e.note.ctype) at (unary_type op.Rem e.note.ctype)
unary_coded globals mode op.Set e at = row_coded (is_void e.note.ctype) at (unary_type op.Set e.note.ctype)
unary_coded globals mode op.PostInc e at = row_coded (is_void e.note.ctype) at (unary_type op.PostInc e.note.ctype)
unary_coded globals mode op.PostDec e at = row_coded (is_void e.note.ctype) at (unary_type op.PostDec e.note.ctype)

binary_coded : (o : TreeOp) (e f : NotedExpr) (at : Pos) → Coded (binary_typed o e f at)
binary_coded o e f at = row_coded (is_void e.note.ctype || is_void f.note.ctype) at (binary_type o e.note.ctype (is_null e) f.note.ctype (is_null f))

choice_coded : (e f g : NotedExpr) (at : Pos) → Coded (choice_typed e f g at)
choice_coded e f g at =
    row_coded (is_void e.note.ctype || (is_void f.note.ctype || is_void g.note.ctype)) at (choice_type e.note.ctype f.note.ctype g.note.ctype)

index_coded : (e f : NotedExpr) (at : Pos) → Coded (index_typed e f at)
index_coded e f at = row_coded (is_void e.note.ctype || is_void f.note.ctype) at (index_type e.note.ctype f.note.ctype)

dot_coded : (globals : Globals) (e : NotedExpr) (n : Name) (at : Pos) → Coded (dot_typed globals e n at)
dot_coded globals e n at = row_coded (is_void e.note.ctype) at (dot_type globals.structs e.note.ctype n)

arrow_coded : (globals : Globals) (e : NotedExpr) (n : Name) (at : Pos) → Coded (arrow_typed globals e n at)
arrow_coded globals e n at = row_coded (is_void e.note.ctype) at (arrow_type globals.structs e.note.ctype n)

-- two rules, one after another
two_coded : (bad worse : Bool) (at : Pos) (t : CType) → Coded (unless bad bad_operands at (unless worse bad_conversion at (Ok t)))
two_coded bad worse at t = Codes.kept IsTypeCode bad bad_operands at (unless worse bad_conversion at (Ok t)) is_401 (Codes.kept IsTypeCode worse bad_conversion at (Ok t) is_402 tt)

cast_coded : (t : CType) (e : NotedExpr) (at : Pos) → Coded (cast_typed t e at)
cast_coded t e at = two_coded (not (is_object_type t)) (not (is_cast t e.note.ctype (is_null e))) at t

tested_coded : (t : CType) (e : NotedExpr) (l : Option NotedLimits) (at : Pos) → Coded (tested_typed t e l at)
tested_coded t e l at = two_coded (not (is_bounds_cast t l)) (not (is_tested t e)) at t

trusted_coded : (t : CType) (e : NotedExpr) (l : Option NotedLimits) (at : Pos) → Coded (trusted_typed t e l at)
trusted_coded t e l at = two_coded (not (is_bounds_cast t l)) (not (is_trusted t e)) at t

allocation_coded : (t : CType) (e : NotedExpr) (u : CType) (at : Pos) → Coded (allocation_typed t e u at)
allocation_coded t e u at = Codes.kept IsTypeCode {A = CType} (is_no_allocation t e u) bad_call at (Ok (ctype.Pointer kind.Arr t)) is_404 tt

arguments_coded : (mode : Mode) (ps : List Parameter) (es : List NotedExpr) → Coded (arguments_typed mode ps es)
arguments_coded mode [] [] = tt
arguments_coded mode [] (e ∷ es) = tt
arguments_coded mode (p ∷ ps) [] = tt
arguments_coded mode (p ∷ ps) (e ∷ es) = Codes.kept IsTypeCode (not (takes mode p e)) bad_conversion e.pos (arguments_typed mode ps es) is_402 (arguments_coded mode ps es)

result_coded : (mode : Mode) (s : Signature) (es : List NotedExpr) (at : Pos) → Coded (result_typed mode s es at)
result_coded mode s es at =
    Codes.kept IsTypeCode (not (length es == length s.params)) bad_call at (bind (arguments_typed mode s.params es) (λ u. Ok s.result)) is_404 (Codes.bound IsTypeCode (arguments_typed mode s.params es) _ (arguments_coded mode s.params es) (λ u. tt))

call_coded : (globals : Globals) (mode : Mode) (n : Name) (es : List NotedExpr) (at : Pos) → Coded (call_typed globals mode n es at)
call_coded globals mode n es at = Codes.bound IsTypeCode (there_or bad_call at (signature_named globals n)) _ (Codes.there IsTypeCode bad_call at (signature_named globals n) is_404) (λ s. result_coded mode s es at)

module _ (globals : Globals) (variables : List Variable) (mode : Mode) where
  abbrev typing : Steps Name (Unit {0}) OfLimits OfNode OfExpr
  typing = record { limits = limits_parts; node = node_parts globals variables mode; expr = expr_parts }

  abbrev coded : Property Name (Unit {0}) OfLimits OfNode OfExpr
  coded = record { limits = λ l o. Coded o; node = λ n o. (at : Pos) → Coded (o at); expr = λ e o. Coded o }

  abbrev KeptLimits : Type 0
  KeptLimits = kept.KeptLimits typing coded

  abbrev KeptExpr : Type 0
  KeptExpr = kept.KeptExpr typing coded

  limits_step : (y : LimitsLayer typing coded) → Coded (limits_made typing coded y)
  limits_step (Limits-F.Count k at) = Codes.bound IsTypeCode (expr_typed globals variables mode k.0) _ k.1 (λ a. tt)
  limits_step (Limits-F.ByteCount k at) = Codes.bound IsTypeCode (expr_typed globals variables mode k.0) _ k.1 (λ a. tt)
  limits_step (Limits-F.Between k j at) = Codes.bound IsTypeCode (expr_typed globals variables mode k.0) _ k.1 (λ a. Codes.bound IsTypeCode (expr_typed globals variables mode j.0) _ j.1 (λ b. tt))
  limits_step (Limits-F.Unknown at) = tt

  abbrev all_of : List KeptExpr → Outcome (List NotedExpr)
  all_of ks = in_order (map (expr_typed globals variables mode) (map (λ (k : KeptExpr). k.0) ks))

  abbrev limits_there : Option KeptLimits → Outcome (Option NotedLimits)
  limits_there l = if_there (option_map (limits_typed globals variables mode) (option_map (λ (k : KeptLimits). k.0) l))

  kept_there : (l : Option KeptLimits) → Coded (limits_there l)
  kept_there None = tt
  kept_there (Some k) = Codes.bound IsTypeCode (limits_typed globals variables mode k.0) _ k.1 (λ a. tt)

  node_step : (y : NodeLayer typing coded) (at : Pos) → Coded (node_made typing coded y at)
  node_step (Node-F.Number n u) at = tt
  node_step (Node-F.Text s) at = tt
  node_step Node-F.Null at = tt
  node_step (Node-F.Name n) at =
      Codes.bound IsTypeCode (there_or bad_operands at (type_of_name globals variables n)) _ (Codes.there IsTypeCode bad_operands at (type_of_name globals variables n) is_401) (λ t. tt)
  node_step (Node-F.Un o k) at =
      Codes.bound IsTypeCode (expr_typed globals variables mode k.0) _ k.1 (λ a. Codes.bound IsTypeCode (unary_typed globals mode o a at) _ (unary_coded globals mode o a at) (λ t. tt))
  node_step (Node-F.Bin o k j) at =
      Codes.bound IsTypeCode (expr_typed globals variables mode k.0) _ k.1 (λ a. Codes.bound IsTypeCode (expr_typed globals variables mode j.0) _ j.1 (λ b.
      Codes.bound IsTypeCode (binary_typed o a b at) _ (binary_coded o a b at) (λ t. tt)))
  node_step (Node-F.Pick k j i) at =
      Codes.bound IsTypeCode (expr_typed globals variables mode k.0) _ k.1 (λ a. Codes.bound IsTypeCode (expr_typed globals variables mode j.0) _ j.1 (λ b.
      Codes.bound IsTypeCode (expr_typed globals variables mode i.0) _ i.1 (λ c. Codes.bound IsTypeCode (choice_typed a b c at) _ (choice_coded a b c at) (λ t. tt))))
  node_step (Node-F.Index k j) at =
      Codes.bound IsTypeCode (expr_typed globals variables mode k.0) _ k.1 (λ a. Codes.bound IsTypeCode (expr_typed globals variables mode j.0) _ j.1 (λ b.
      Codes.bound IsTypeCode (index_typed a b at) _ (index_coded a b at) (λ t. tt)))
  node_step (Node-F.Dot k n place) at =
      Codes.bound IsTypeCode (expr_typed globals variables mode k.0) _ k.1 (λ a. Codes.bound IsTypeCode (dot_typed globals a n at) _ (dot_coded globals a n at) (λ t. tt))
  node_step (Node-F.Arrow k n place) at =
      Codes.bound IsTypeCode (expr_typed globals variables mode k.0) _ k.1 (λ a. Codes.bound IsTypeCode (arrow_typed globals a n at) _ (arrow_coded globals a n at) (λ t. tt))
  node_step (Node-F.Cast w k) at =
      Codes.bound IsTypeCode (expr_typed globals variables mode k.0) _ k.1 (λ a. Codes.bound IsTypeCode (cast_typed (type_written w) a at) _ (cast_coded (type_written w) a at) (λ t. tt))
  node_step (Node-F.Size w) at =
      Codes.bound IsTypeCode (there_or bad_operands at (size_type (type_written w))) _ (Codes.there IsTypeCode bad_operands at (size_type (type_written w)) is_401) (λ t. tt)
  node_step (Node-F.Trusted w k None) at =
      Codes.bound IsTypeCode (expr_typed globals variables mode k.0) _ k.1 (λ a. Codes.bound IsTypeCode (trusted_typed (type_written w) a None at) _ (trusted_coded (type_written w) a None at) (λ t. tt))
  node_step (Node-F.Trusted w k (Some l)) at =
      Codes.bound IsTypeCode (expr_typed globals variables mode k.0) _ k.1 (λ a. Codes.bound IsTypeCode (limits_there (Some l)) _ (kept_there (Some l)) (λ m.
      Codes.bound IsTypeCode (trusted_typed (type_written w) a m at) _ (trusted_coded (type_written w) a m at) (λ t. tt)))
  node_step (Node-F.Tested w k None) at =
      Codes.bound IsTypeCode (expr_typed globals variables mode k.0) _ k.1 (λ a. Codes.bound IsTypeCode (tested_typed (type_written w) a None at) _ (tested_coded (type_written w) a None at) (λ t. tt))
  node_step (Node-F.Tested w k (Some l)) at =
      Codes.bound IsTypeCode (expr_typed globals variables mode k.0) _ k.1 (λ a. Codes.bound IsTypeCode (limits_there (Some l)) _ (kept_there (Some l)) (λ m.
      Codes.bound IsTypeCode (tested_typed (type_written w) a m at) _ (tested_coded (type_written w) a m at) (λ t. tt)))
  node_step (Node-F.Call n ks) at = Codes.bound IsTypeCode (all_of ks) _ (Codes.listed_parts IsTypeCode (expr_typed globals variables mode) ks) (λ es. Codes.bound IsTypeCode (call_typed globals mode n es at) _ (call_coded globals mode n es at) (λ t. tt))
  node_step (Node-F.Calloc w k x) at =
      Codes.bound IsTypeCode (expr_typed globals variables mode k.0) _ k.1 (λ a.
      Codes.bound IsTypeCode (allocation_typed (type_written w) a (type_written x) at) _ (allocation_coded (type_written w) a (type_written x) at) (λ t. tt))

  expr_step : (y : ExprLayer typing coded) → Coded (expr_made typing coded y)
  expr_step y = y.node.1 y.pos

  pub limits_coded : (l : Limits) → Coded (limits_typed globals variables mode l)
  limits_coded = each_limits typing coded limits_step node_step expr_step

  pub expr_coded : (e : Expr) → Coded (expr_typed globals variables mode e)
  expr_coded = each_expr typing coded limits_step node_step expr_step

  pub exprs_coded : (es : List Expr) → Coded (exprs_typed globals variables mode es)
  exprs_coded = Codes.listed IsTypeCode (expr_typed globals variables mode) expr_coded

  pub bounds_coded : (l : Option Limits) → Coded (bounds_typed globals variables mode l)
  bounds_coded None = tt
  bounds_coded (Some l) = Codes.bound IsTypeCode (limits_typed globals variables mode l) _ (limits_coded l) (λ k. tt)

  pub value_coded : (e : Option Expr) → Coded (value_typed globals variables mode e)
  value_coded None = tt
  value_coded (Some e) = Codes.bound IsTypeCode (expr_typed globals variables mode e) _ (expr_coded e) (λ a. tt)
