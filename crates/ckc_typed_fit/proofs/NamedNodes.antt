-- What holds of an expression and the one that it becomes, part by part: a claim that goes from the parts to the whole holds
-- of all that naming gives.
use Rattle.std.proofs.Common.{◌≡◌, ℕ, sym, ap, subst, Bool, List, [], ◌∷◌, map}
use Rattle.std.specs.Prelude.{Ok, Option, Some, None}
use Rattle.ckc_base.specs.declared.places.Pos.{Pos}
use Rattle.ckc_base.specs.Outcomes.{Outcome, bind, in_order}
use Rattle.ckc_syntax.specs.declared.tree.Name.{Name}
use Rattle.ckc_syntax.specs.declared.tree.TreeOp.{TreeOp}
use Rattle.ckc_syntax.specs.declared.tree.TypeTree.{TypeTree-F, map-TypeTree, ind-TypeTree, roll-TypeTree, fold-roll-TypeTree}
use Rattle.ckc_syntax.specs.declared.tree.TypeTree.TheVariants as ctype
use Rattle.ckc_syntax.specs.declared.tree.Limits.{Limits-F, map-Limits, ind-Limits, roll-Limits, fold-roll-Limits}
use Rattle.ckc_syntax.specs.declared.tree.Limits.TheVariants as limits
use Rattle.ckc_syntax.specs.declared.tree.Node.{Node-F, map-Node, roll-Node, fold-roll-Node}
use Rattle.ckc_syntax.specs.declared.tree.Node.TheVariants as node
use Rattle.ckc_syntax.specs.declared.tree.Expr.{Expr-F, map-Expr, ind-Expr, roll-Expr, fold-roll-Expr}
use Rattle.ckc_resolve.specs.declared.names.Names.{Names}
use Rattle.ckc_resolve.specs.declared.scopes.Scopes.{Scopes}
use Rattle.ckc_resolve.specs.Spellings.{Spelling}
use Rattle.ckc_resolve.specs.Trees.{TypeTree, Limits, Node, Expr, NamedType, NamedLimits, NamedNode, NamedExpr}
use Rattle.ckc_resolve.specs.Types.{type_parts, type_named}
use Rattle.ckc_resolve.specs.Expressions.{OfLimits, OfNode, OfExpr, limits_parts, node_parts, expr_parts, limits_named, node_named, expr_named, exprs_named, bounds_named, maybe_named}
use Rattle.ckc_resolve.specs.Meanings.{meaning_of, member_of, tag_of, meaning_named, member_named, tag_named}
use Rattle.ckc_base.proofs.Gives.{Gives, bound, through, itself, was_there}

abbrev pub LimitsOf : Type 0
LimitsOf = Limits-F Spelling (Unit {0}) Limits Node Expr

abbrev pub NamedLimitsOf : Type 0
NamedLimitsOf = Limits-F Name (Unit {0}) NamedLimits NamedNode NamedExpr

abbrev pub NodeOf : Type 0
NodeOf = Node-F Spelling (Unit {0}) Limits Node Expr

abbrev pub NamedNodeOf : Type 0
NamedNodeOf = Node-F Name (Unit {0}) NamedLimits NamedNode NamedExpr

abbrev pub TypeOf : Type 0
TypeOf = TypeTree-F Spelling TypeTree

abbrev pub NamedTypeOf : Type 0
NamedTypeOf = TypeTree-F Name NamedType

-- a claim on nodes, for expressions
abbrev pub OfExprs : (Node → NamedNode → Type 0) → Expr → NamedExpr → Type 0
OfExprs N e a = N e.node a.node

-- lists of one length, part by part
pub data Each {X Y : Type 0} (P : X → Y → Type 0) : List X → List Y → Type 0 where
  none : Each P [] []
  more : {x : X} {y : Y} {xs : List X} {ys : List Y} → P x y → Each P xs ys → Each P (x ∷ xs) (y ∷ ys)

pub data Maybe {X Y : Type 0} (P : X → Y → Type 0) : Option X → Option Y → Type 0 where
  nothing : Maybe P None None
  just : {x : X} {y : Y} → P x y → Maybe P (Some x) (Some y)

pub data TypeNamed (names : Names) (T : TypeTree → NamedType → Type 0) : TypeOf → NamedTypeOf → Type 0 where
  int : TypeNamed names T TypeTree-F.Int TypeTree-F.Int
  unsigned : TypeNamed names T TypeTree-F.Unsigned TypeTree-F.Unsigned
  char : TypeNamed names T TypeTree-F.Char TypeTree-F.Char
  void : TypeNamed names T TypeTree-F.Void TypeTree-F.Void
  struct : (s : Spelling) (n : Name) (pos : Pos) → tag_of names s ≡ Some n → TypeNamed names T (TypeTree-F.Struct s pos) (TypeTree-F.Struct n pos)
  raw : {t : TypeTree} {u : NamedType} → (pos : Pos) → T t u → TypeNamed names T (TypeTree-F.Raw t pos) (TypeTree-F.Raw u pos)
  one : {t : TypeTree} {u : NamedType} → T t u → TypeNamed names T (TypeTree-F.One t) (TypeTree-F.One u)
  arr : {t : TypeTree} {u : NamedType} → T t u → TypeNamed names T (TypeTree-F.Arr t) (TypeTree-F.Arr u)
  nt : {t : TypeTree} {u : NamedType} → T t u → TypeNamed names T (TypeTree-F.Nt t) (TypeTree-F.Nt u)

pub data LimitsNamed (E : Expr → NamedExpr → Type 0) : LimitsOf → NamedLimitsOf → Type 0 where
  count : {e : Expr} {a : NamedExpr} → (pos : Pos) → E e a → LimitsNamed E (Limits-F.Count e pos) (Limits-F.Count a pos)
  byte_count : {e : Expr} {a : NamedExpr} → (pos : Pos) → E e a → LimitsNamed E (Limits-F.ByteCount e pos) (Limits-F.ByteCount a pos)
  between : {e f : Expr} {a b : NamedExpr} → (pos : Pos) → E e a → E f b → LimitsNamed E (Limits-F.Between e f pos) (Limits-F.Between a b pos)
  unknown : (pos : Pos) → LimitsNamed E (Limits-F.Unknown pos) (Limits-F.Unknown pos)

pub data NodeNamed (names : Names) (scopes : Scopes) (L : Limits → NamedLimits → Type 0) (E : Expr → NamedExpr → Type 0) : NodeOf → NamedNodeOf → Type 0 where
  number : (n : ℕ) (unsigned : Bool) → NodeNamed names scopes L E (Node-F.Number n unsigned) (Node-F.Number n unsigned)
  text : (bytes : List ℕ) → NodeNamed names scopes L E (Node-F.Text bytes) (Node-F.Text bytes)
  null : NodeNamed names scopes L E Node-F.Null Node-F.Null
  name : (s : Spelling) (n : Name) → meaning_of names scopes s ≡ Some n → NodeNamed names scopes L E (Node-F.Name s) (Node-F.Name n)
  un : {e : Expr} {a : NamedExpr} → (op : TreeOp) → E e a → NodeNamed names scopes L E (Node-F.Un op e) (Node-F.Un op a)
  bin : {e f : Expr} {a b : NamedExpr} → (op : TreeOp) → E e a → E f b → NodeNamed names scopes L E (Node-F.Bin op e f) (Node-F.Bin op a b)
  pick : {e f g : Expr} {a b c : NamedExpr} → E e a → E f b → E g c → NodeNamed names scopes L E (Node-F.Pick e f g) (Node-F.Pick a b c)
  index : {e f : Expr} {a b : NamedExpr} → E e a → E f b → NodeNamed names scopes L E (Node-F.Index e f) (Node-F.Index a b)
  dot : {e : Expr} {a : NamedExpr} → (s : Spelling) (n : Name) (pos : Pos) → E e a → member_of names s ≡ Some n → NodeNamed names scopes L E (Node-F.Dot e s pos) (Node-F.Dot a n pos)
  arrow : {e : Expr} {a : NamedExpr} → (s : Spelling) (n : Name) (pos : Pos) → E e a → member_of names s ≡ Some n → NodeNamed names scopes L E (Node-F.Arrow e s pos) (Node-F.Arrow a n pos)
  cast : {e : Expr} {a : NamedExpr} → (t : TypeTree) (u : NamedType) → type_named names t ≡ Ok u → E e a → NodeNamed names scopes L E (Node-F.Cast t e) (Node-F.Cast u a)
  size : (t : TypeTree) (u : NamedType) → type_named names t ≡ Ok u → NodeNamed names scopes L E (Node-F.Size t) (Node-F.Size u)
  trusted : {e : Expr} {a : NamedExpr} {l : Option Limits} {k : Option NamedLimits} →
      (t : TypeTree) (u : NamedType) → type_named names t ≡ Ok u → E e a → Maybe L l k → NodeNamed names scopes L E (Node-F.Trusted t e l) (Node-F.Trusted u a k)
  tested : {e : Expr} {a : NamedExpr} {l : Option Limits} {k : Option NamedLimits} →
      (t : TypeTree) (u : NamedType) → type_named names t ≡ Ok u → E e a → Maybe L l k → NodeNamed names scopes L E (Node-F.Tested t e l) (Node-F.Tested u a k)
  call : {es : List Expr} {args : List NamedExpr} →
      (s : Spelling) (n : Name) → Each E es args → meaning_of names scopes s ≡ Some n → NodeNamed names scopes L E (Node-F.Call s es) (Node-F.Call n args)
  calloc : {e : Expr} {a : NamedExpr} →
      (t u : TypeTree) (v w : NamedType) → type_named names t ≡ Ok v → E e a → type_named names u ≡ Ok w → NodeNamed names scopes L E (Node-F.Calloc t e u) (Node-F.Calloc v a w)

module _ (names : Names) (T : TypeTree → NamedType → Type 0)
    (types_closed : (x : TypeOf) (d : NamedTypeOf) → TypeNamed names T x d → T (roll-TypeTree Spelling x) (roll-TypeTree Name d)) where
  abbrev TypeHolds : TypeTree → Type 0
  TypeHolds t = Gives (T t) (type_named names t)

  abbrev KeptType : Type 0
  KeptType = (t : TypeTree) × TypeHolds t

  abbrev inner_type : TypeTree-F Spelling KeptType → TypeOf
  inner_type = map-TypeTree Spelling KeptType TypeTree (λ k. k.0)

  abbrev type_inside : TypeOf → TypeTree-F Spelling (Outcome NamedType)
  type_inside = map-TypeTree Spelling TypeTree (Outcome NamedType) (type_named names)

  abbrev TypeMade : TypeOf → NamedType → Type 0
  TypeMade x = T (roll-TypeTree Spelling x)

  type_made : {x : TypeOf} {d : NamedTypeOf} (u : NamedType) → roll-TypeTree Name d ≡ u → TypeNamed names T x d → TypeMade x u
  type_made {x} {d} u is h = subst (TypeMade x) is (types_closed x d h)

  target : (k : KeptType) (f : NamedType → Outcome NamedType) (x : TypeOf) → ((u : NamedType) → T k.0 u → Gives (TypeMade x) (f u)) → Gives (TypeMade x) (bind (type_named names k.0) f)
  target k f x step = bound (T k.0) (TypeMade x) _ f k.1 step

  type_step : (y : TypeTree-F Spelling KeptType) → Gives (TypeMade (inner_type y)) (type_parts names (type_inside (inner_type y)))
  type_step TypeTree-F.Int = type_made _ ctype.rolls-Int int
  type_step TypeTree-F.Unsigned = type_made _ ctype.rolls-Unsigned unsigned
  type_step TypeTree-F.Char = type_made _ ctype.rolls-Char char
  type_step TypeTree-F.Void = type_made _ ctype.rolls-Void void
  type_step (TypeTree-F.Struct s pos) =
      bound (λ n. tag_of names s ≡ Some n) (TypeMade (TypeTree-F.Struct s pos)) (tag_named names s pos) _ (was_there _ pos (tag_of names s)) (λ n is. type_made _ (ctype.rolls-Struct n pos) (struct s n pos is))
  type_step (TypeTree-F.Raw k pos) = target k _ (TypeTree-F.Raw k.0 pos) (λ u h. type_made _ (ctype.rolls-Raw u pos) (raw pos h))
  type_step (TypeTree-F.One k) = target k _ (TypeTree-F.One k.0) (λ u h. type_made _ (ctype.rolls-One u) (one h))
  type_step (TypeTree-F.Arr k) = target k _ (TypeTree-F.Arr k.0) (λ u h. type_made _ (ctype.rolls-Arr u) (arr h))
  type_step (TypeTree-F.Nt k) = target k _ (TypeTree-F.Nt k.0) (λ u h. type_made _ (ctype.rolls-Nt u) (nt h))

  type_by : (x : TypeOf) (y : TypeTree-F Spelling KeptType) → inner_type y ≡ x → TypeHolds (roll-TypeTree Spelling x)
  type_by x y is =
      subst (λ (o : Outcome NamedType). Gives (TypeMade x) o) (sym (fold-roll-TypeTree Spelling (Outcome NamedType) (type_parts names) x))
      (subst (λ z. Gives (TypeMade z) (type_parts names (type_inside z))) is (type_step y))

  pub type_holds : (t : TypeTree) → Gives (T t) (type_named names t)
  type_holds = ind-TypeTree Spelling TypeHolds type_by

module _ (names : Names) (scopes : Scopes) (L : Limits → NamedLimits → Type 0) (N : Node → NamedNode → Type 0)
    (limits_closed : (x : LimitsOf) (d : NamedLimitsOf) → LimitsNamed (OfExprs N) x d → L (roll-Limits Spelling (Unit {0}) x) (roll-Limits Name (Unit {0}) d))
    (nodes_closed : (x : NodeOf) (d : NamedNodeOf) → NodeNamed names scopes L (OfExprs N) x d → N (roll-Node Spelling (Unit {0}) x) (roll-Node Name (Unit {0}) d)) where
  abbrev LimitsHold : Limits → Type 0
  LimitsHold l = Gives (L l) (limits_named names scopes l)

  abbrev NodeHolds : Node → Type 0
  NodeHolds n = (pos : Pos) → Gives (N n) (node_named names scopes n pos)

  abbrev ExprHolds : Expr → Type 0
  ExprHolds e = Gives (OfExprs N e) (expr_named names scopes e)

  abbrev KeptLimits : Type 0
  KeptLimits = (l : Limits) × LimitsHold l

  abbrev KeptNode : Type 0
  KeptNode = (n : Node) × NodeHolds n

  abbrev KeptExpr : Type 0
  KeptExpr = (e : Expr) × ExprHolds e

  abbrev inner_limits : Limits-F Spelling (Unit {0}) KeptLimits KeptNode KeptExpr → LimitsOf
  inner_limits = map-Limits Spelling (Unit {0}) KeptLimits KeptNode KeptExpr Limits Node Expr (λ e. e.0) (λ e. e.0) (λ e. e.0)

  abbrev inner_node : Node-F Spelling (Unit {0}) KeptLimits KeptNode KeptExpr → NodeOf
  inner_node = map-Node Spelling (Unit {0}) KeptLimits KeptNode KeptExpr Limits Node Expr (λ e. e.0) (λ e. e.0) (λ e. e.0)

  abbrev inner_expr : Expr-F Spelling (Unit {0}) KeptLimits KeptNode KeptExpr → Expr-F Spelling (Unit {0}) Limits Node Expr
  inner_expr = map-Expr Spelling (Unit {0}) KeptLimits KeptNode KeptExpr Limits Node Expr (λ e. e.0) (λ e. e.0) (λ e. e.0)

  abbrev limits_inside : LimitsOf → Limits-F Spelling (Unit {0}) OfLimits OfNode OfExpr
  limits_inside = map-Limits Spelling (Unit {0}) Limits Node Expr OfLimits OfNode OfExpr (limits_named names scopes) (node_named names scopes) (expr_named names scopes)

  abbrev node_inside : NodeOf → Node-F Spelling (Unit {0}) OfLimits OfNode OfExpr
  node_inside = map-Node Spelling (Unit {0}) Limits Node Expr OfLimits OfNode OfExpr (limits_named names scopes) (node_named names scopes) (expr_named names scopes)

  abbrev expr_inside : Expr-F Spelling (Unit {0}) Limits Node Expr → Expr-F Spelling (Unit {0}) OfLimits OfNode OfExpr
  expr_inside = map-Expr Spelling (Unit {0}) Limits Node Expr OfLimits OfNode OfExpr (limits_named names scopes) (node_named names scopes) (expr_named names scopes)

  abbrev LimitsMade : LimitsOf → NamedLimits → Type 0
  LimitsMade x = L (roll-Limits Spelling (Unit {0}) x)

  limits_are : {x : LimitsOf} {d : NamedLimitsOf} (k : NamedLimits) → roll-Limits Name (Unit {0}) d ≡ k → LimitsNamed (OfExprs N) x d → LimitsMade x k
  limits_are {x} {d} k is h = subst (LimitsMade x) is (limits_closed x d h)

  limits_step : (y : Limits-F Spelling (Unit {0}) KeptLimits KeptNode KeptExpr) → Gives (LimitsMade (inner_limits y)) (limits_parts (limits_inside (inner_limits y)))
  limits_step (Limits-F.Count k pos) = bound (OfExprs N k.0) _ _ _ k.1 (λ a h. limits_are _ (limits.rolls-Count a pos) (count pos h))
  limits_step (Limits-F.ByteCount k pos) = bound (OfExprs N k.0) _ _ _ k.1 (λ a h. limits_are _ (limits.rolls-ByteCount a pos) (byte_count pos h))
  limits_step (Limits-F.Between k j pos) =
      bound (OfExprs N k.0) _ _ _ k.1 (λ a h. bound (OfExprs N j.0) _ _ _ j.1 (λ b i. limits_are _ (limits.rolls-Between a b pos) (between pos h i)))
  limits_step (Limits-F.Unknown pos) = limits_are _ (limits.rolls-Unknown pos) (unknown pos)

  abbrev Made : NodeOf → NamedNode → Type 0
  Made x = N (roll-Node Spelling (Unit {0}) x)

  abbrev NodeCase : NodeOf → NamedNodeOf → Type 0
  NodeCase = NodeNamed names scopes L (OfExprs N)

  made : {x : NodeOf} {d : NamedNodeOf} (m : NamedNode) → roll-Node Name (Unit {0}) d ≡ m → NodeCase x d → Made x m
  made {x} {d} m is h = subst (Made x) is (nodes_closed x d h)

  operand : (k : KeptExpr) (f : NamedExpr → Outcome NamedNode) (x : NodeOf) → ((a : NamedExpr) → OfExprs N k.0 a → Gives (Made x) (f a)) → Gives (Made x) (bind (expr_named names scopes k.0) f)
  operand k f x step = bound (OfExprs N k.0) (Made x) _ f k.1 step

  typed : (t : TypeTree) (f : NamedType → Outcome NamedNode) (x : NodeOf) → ((u : NamedType) → type_named names t ≡ Ok u → Gives (Made x) (f u)) → Gives (Made x) (bind (type_named names t) f)
  typed t f x step = bound (λ u. type_named names t ≡ Ok u) (Made x) _ f (itself (type_named names t)) step

  means : (s : Spelling) (pos : Pos) (f : Name → Outcome NamedNode) (x : NodeOf) → ((n : Name) → meaning_of names scopes s ≡ Some n → Gives (Made x) (f n)) → Gives (Made x) (bind (meaning_named names scopes s pos) f)
  means s pos f x step = bound (λ n. meaning_of names scopes s ≡ Some n) (Made x) _ f (was_there _ pos (meaning_of names scopes s)) step

  member : (s : Spelling) (pos : Pos) (f : Name → Outcome NamedNode) (x : NodeOf) → ((n : Name) → member_of names s ≡ Some n → Gives (Made x) (f n)) → Gives (Made x) (bind (member_named names s pos) f)
  member s pos f x step = bound (λ n. member_of names s ≡ Some n) (Made x) _ f (was_there _ pos (member_of names s)) step

  limited : (l : KeptLimits) (f : Option NamedLimits → Outcome NamedNode) (x : NodeOf)
      → ((b : NamedLimits) → L l.0 b → Gives (Made x) (f (Some b)))
      → Gives (Made x) (bind (bind (limits_named names scopes l.0) (λ b. Ok (Some b))) f)
  limited l f x step = through (L l.0) (Made x) (limits_named names scopes l.0) (λ b. Some b) f l.1 step

  args_hold : (ks : List KeptExpr) → Gives (Each (OfExprs N) (map (λ (k : KeptExpr). k.0) ks)) (in_order (map (expr_named names scopes) (map (λ (k : KeptExpr). k.0) ks)))
  args_hold [] = none
  args_hold (k ∷ ks) =
      bound {B = List NamedExpr} (OfExprs N k.0) (Each (OfExprs N) (map (λ (k : KeptExpr). k.0) (k ∷ ks))) (expr_named names scopes k.0) _ k.1 (λ a h.
      bound {A = List NamedExpr} {B = List NamedExpr} (Each (OfExprs N) (map (λ (k : KeptExpr). k.0) ks)) (Each (OfExprs N) (map (λ (k : KeptExpr). k.0) (k ∷ ks)))
      (in_order (map (expr_named names scopes) (map (λ (k : KeptExpr). k.0) ks))) _ (args_hold ks) (λ all hs. more h hs))

  node_step : (y : Node-F Spelling (Unit {0}) KeptLimits KeptNode KeptExpr) (pos : Pos) → Gives (Made (inner_node y)) (node_parts names scopes (node_inside (inner_node y)) pos)
  node_step (Node-F.Number n flag) pos = made _ (node.rolls-Number n flag) (number n flag)
  node_step (Node-F.Text bytes) pos = made _ (node.rolls-Text bytes) (text bytes)
  node_step Node-F.Null pos = made _ node.rolls-Null null
  node_step (Node-F.Name s) pos = means s pos _ _ (λ n is. made _ (node.rolls-Name n) (name s n is))
  node_step (Node-F.Un op k) pos = operand k _ _ (λ a h. made _ (node.rolls-Un op a) (un op h))
  node_step (Node-F.Bin op k j) pos = operand k _ _ (λ a h. operand j _ _ (λ b i. made _ (node.rolls-Bin op a b) (bin op h i)))
  node_step (Node-F.Pick k j i) pos = operand k _ _ (λ a h. operand j _ _ (λ b g. operand i _ _ (λ c f. made _ (node.rolls-Pick a b c) (pick h g f))))
  node_step (Node-F.Index k j) pos = operand k _ _ (λ a h. operand j _ _ (λ b i. made _ (node.rolls-Index a b) (index h i)))
  node_step (Node-F.Dot k s at) pos = operand k _ _ (λ a h. member s at _ _ (λ n is. made _ (node.rolls-Dot a n at) (dot s n at h is)))
  node_step (Node-F.Arrow k s at) pos = operand k _ _ (λ a h. member s at _ _ (λ n is. made _ (node.rolls-Arrow a n at) (arrow s n at h is)))
  node_step (Node-F.Cast t k) pos = typed t _ _ (λ u is. operand k _ _ (λ a h. made _ (node.rolls-Cast u a) (cast t u is h)))
  node_step (Node-F.Size t) pos = typed t _ _ (λ u is. made _ (node.rolls-Size u) (size t u is))
  node_step (Node-F.Trusted t k None) pos = typed t _ _ (λ u is. operand k _ _ (λ a h. made _ (node.rolls-Trusted u a None) (trusted t u is h nothing)))
  node_step (Node-F.Trusted t k (Some l)) pos =
      typed t _ _ (λ u is. operand k _ _ (λ a h. limited l _ _ (λ b i. made _ (node.rolls-Trusted u a (Some b)) (trusted t u is h (just i)))))
  node_step (Node-F.Tested t k None) pos = typed t _ _ (λ u is. operand k _ _ (λ a h. made _ (node.rolls-Tested u a None) (tested t u is h nothing)))
  node_step (Node-F.Tested t k (Some l)) pos =
      typed t _ _ (λ u is. operand k _ _ (λ a h. limited l _ _ (λ b i. made _ (node.rolls-Tested u a (Some b)) (tested t u is h (just i)))))
  node_step (Node-F.Call s ks) pos =
      bound {A = List NamedExpr} (Each (OfExprs N) (map (λ (k : KeptExpr). k.0) ks)) _ _ _ (args_hold ks) (λ args hs.
      means s pos _ _ (λ n is. made _ (node.rolls-Call n args) (call s n hs is)))
  node_step (Node-F.Calloc t k u) pos =
      typed t _ _ (λ v is. operand k _ _ (λ a h. typed u _ _ (λ w bs. made _ (node.rolls-Calloc v a w) (calloc t u v w is h bs))))

  limits_by : (x : LimitsOf) (y : Limits-F Spelling (Unit {0}) KeptLimits KeptNode KeptExpr) → inner_limits y ≡ x → LimitsHold (roll-Limits Spelling (Unit {0}) x)
  limits_by x y is =
      subst (λ (o : OfLimits). Gives (LimitsMade x) o)
      (sym (fold-roll-Limits Spelling (Unit {0}) OfLimits OfNode OfExpr limits_parts (node_parts names scopes) expr_parts x))
      (subst (λ z. Gives (LimitsMade z) (limits_parts (limits_inside z))) is (limits_step y))

  node_by : (x : NodeOf) (y : Node-F Spelling (Unit {0}) KeptLimits KeptNode KeptExpr) → inner_node y ≡ x → NodeHolds (roll-Node Spelling (Unit {0}) x)
  node_by x y is pos =
      subst (λ (o : Outcome NamedNode). Gives (Made x) o)
      (sym (ap (λ f. f pos) (fold-roll-Node Spelling (Unit {0}) OfLimits OfNode OfExpr limits_parts (node_parts names scopes) expr_parts x)))
      (subst (λ z. Gives (Made z) (node_parts names scopes (node_inside z) pos)) is (node_step y pos))

  expr_by : (x : Expr-F Spelling (Unit {0}) Limits Node Expr) (y : Expr-F Spelling (Unit {0}) KeptLimits KeptNode KeptExpr) → inner_expr y ≡ x → ExprHolds (roll-Expr Spelling (Unit {0}) x)
  expr_by x y is =
      let step : Gives (OfExprs N (roll-Expr Spelling (Unit {0}) (inner_expr y))) (expr_parts (expr_inside (inner_expr y))) =
      bound (N y.node.0) (OfExprs N (roll-Expr Spelling (Unit {0}) (inner_expr y))) _ _ (y.node.1 y.pos) (λ m h. h) in
      subst (λ (o : OfExpr). Gives (OfExprs N (roll-Expr Spelling (Unit {0}) x)) o)
      (sym (fold-roll-Expr Spelling (Unit {0}) OfLimits OfNode OfExpr limits_parts (node_parts names scopes) expr_parts x))
      (subst (λ z. Gives (OfExprs N (roll-Expr Spelling (Unit {0}) z)) (expr_parts (expr_inside z))) is step)

  pub limits_hold : (l : Limits) → Gives (L l) (limits_named names scopes l)
  limits_hold = ind-Limits Spelling (Unit {0}) LimitsHold NodeHolds ExprHolds limits_by node_by expr_by

  pub expr_holds : (e : Expr) → Gives (OfExprs N e) (expr_named names scopes e)
  expr_holds = ind-Expr Spelling (Unit {0}) LimitsHold NodeHolds ExprHolds limits_by node_by expr_by

  pub exprs_hold : (es : List Expr) → Gives (Each (OfExprs N) es) (exprs_named names scopes es)
  exprs_hold [] = none
  exprs_hold (e ∷ es) =
      bound {B = List NamedExpr} (OfExprs N e) (Each (OfExprs N) (e ∷ es)) (expr_named names scopes e) _ (expr_holds e) (λ a h.
      bound {A = List NamedExpr} {B = List NamedExpr} (Each (OfExprs N) es) (Each (OfExprs N) (e ∷ es)) (exprs_named names scopes es) _ (exprs_hold es) (λ all hs. more h hs))

  pub bounds_hold : (l : Option Limits) → Gives (Maybe L l) (bounds_named names scopes l)
  bounds_hold None = nothing
  bounds_hold (Some l) = bound (L l) (Maybe L (Some l)) _ _ (limits_hold l) (λ k h. just h)

  pub maybe_holds : (e : Option Expr) → Gives (Maybe (OfExprs N) e) (maybe_named names scopes e)
  maybe_holds None = nothing
  maybe_holds (Some e) = bound (OfExprs N e) (Maybe (OfExprs N) (Some e)) _ _ (expr_holds e) (λ a h. just h)
