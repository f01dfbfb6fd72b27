-- Expressions without effects have only words as literals if those with effects have.
use Rattle.std.proofs.Common.{◌≡◌, ◌∙◌, sym, ap, refl, subst, Bool, true, false, ◌&&◌, ℕ, ◌+◌, List, [], ◌∷◌, ◌++◌, map, rules}
use Rattle.std.specs.Prelude.{Option, Some, None, if◌then◌else◌}
use Rattle.std.specs.List.{list_all}
use Rattle.std.proofs.lemmas.List.Folds.{list_all-append}
use Rattle.ckc_base.specs.declared.places.Pos.{Pos}
use Rattle.ckc_syntax.specs.Inside.{all_have, inside_each}
use Rattle.ckc_syntax.specs.declared.tree.Name.{Name}
use Rattle.ckc_syntax.specs.declared.tree.Name.TheVariants as name
use Rattle.ckc_syntax.specs.declared.tree.TreeOp.{TreeOp}
use Rattle.ckc_syntax.specs.declared.tree.TreeOp.TheVariants as op
use Rattle.ckc_syntax.specs.declared.tree.Limits.{Limits-F, map-Limits, ind-Limits, roll-Limits, fold-roll-Limits}
use Rattle.ckc_syntax.specs.declared.tree.Limits.TheVariants as limits
use Rattle.ckc_syntax.specs.declared.tree.Node.{Node-F, map-Node, out-Node, roll-Node, fold-Node, fold-roll-Node, the_lemmas}
use Rattle.ckc_syntax.specs.declared.tree.Node.TheVariants as node
use Rattle.ckc_syntax.specs.declared.tree.Expr.{Expr-F, map-Expr, ind-Expr, roll-Expr, fold-roll-Expr}
use Rattle.ckc_syntax.specs.declared.tree.Act.{Act-F, map-Act, roll-Act, fold-Act, fold-roll-Act}
use Rattle.ckc_syntax.specs.declared.tree.Act.TheVariants as act
use Rattle.ckc_syntax.specs.declared.tree.Stmt.{fold-roll-Stmt}
use Rattle.ckc_syntax.specs.Trees.{NamedLimits, NamedNode, NamedExpr, NamedStmt, NamedAct}
use Rattle.ckc_plain.specs.ckc_plain_barred.specs.declared.integers.Integer.{Integer}
use Rattle.ckc_plain.specs.ckc_plain_barred.specs.declared.integers.Integer.TheVariants as integer
use Rattle.ckc_plain.specs.ckc_plain_barred.specs.declared.integers.Integers.{Integers}
use Rattle.ckc_plain.specs.ckc_plain_bodies.specs.declared.pending.Pending.{Pending}
use Rattle.ckc_plain.specs.ckc_plain_barred.specs.declared.forms.Work.{Work}
use Rattle.ckc_plain.specs.ckc_plain_barred.specs.declared.forms.Work.TheVariants as work
use Rattle.ckc_plain.specs.ckc_plain_barred.specs.Integers.{result_of}
use Rattle.ckc_plain.specs.ckc_plain_barred.specs.Forms.{work_of, form_of, is_call, stays}
use Rattle.ckc_plain.specs.ckc_plain_barred.specs.Effects.{integer_local}
use Rattle.ckc_plain.specs.ckc_plain_bodies.specs.Taken.{expr_at, stmt_at, local_at, number_at, block_at, assign_at, declare_at, none_pending, call_taken, set_taken, step_taken, binary_taken, unary_taken, node_taken, taken}
use Rattle.ckc_plain.specs.ckc_plain_bodies.specs.Expressions.{OfLimits, OfNode, OfExpr, rest, each_rest, if_true, if_false, if_none, choice, binary_parts, node_parts, expr_parts, limits_parts, limits_plain, node_kept, expr_kept, expr_plain, whole_plain, right_plain}
use Rattle.ckc_blame_words.specs.Literals.{is_word, limits_by_parts, node_by_parts, expr_by_parts, limits_have_words, expr_has_words, act_by_parts, stmt_by_parts, stmt_has_words}

abbrev pub Layer : Type 0
Layer = Node-F Name (Unit {0}) NamedLimits NamedNode NamedExpr

abbrev pub ActLayer : Type 0
ActLayer = Act-F Name (Unit {0}) NamedAct NamedStmt

abbrev pub node_has_words : NamedNode → Bool
node_has_words = fold-Node Name (Unit {0}) Bool Bool Bool limits_by_parts node_by_parts expr_by_parts

abbrev pub act_has_words : NamedAct → Bool
act_has_words = fold-Act Name (Unit {0}) Bool Bool act_by_parts stmt_by_parts

abbrev words_inside : Layer → Node-F Name (Unit {0}) Bool Bool Bool
words_inside = map-Node Name (Unit {0}) NamedLimits NamedNode NamedExpr Bool Bool Bool limits_have_words node_has_words expr_has_words

abbrev pub act_words_inside : ActLayer → Act-F Name (Unit {0}) Bool Bool
act_words_inside = map-Act Name (Unit {0}) NamedAct NamedStmt Bool Bool act_has_words stmt_has_words

abbrev pub HasWords : NamedExpr → Type 0
HasWords e = expr_has_words e ≡ true

abbrev pub AllHave : List NamedStmt → Type 0
AllHave ss = list_all stmt_has_words ss ≡ true

pub both : (a b : Bool) → a ≡ true → b ≡ true → (a && b) ≡ true
both a b e f = ap (λ c. c && b) e ∙ f

pub parts_of : (a b : Bool) → (a && b) ≡ true → (a ≡ true) × (b ≡ true)
parts_of true b e = (refl, e)
parts_of false b e = absurd cc

-- ---- one level

node_is : (x : Layer) → node_has_words (roll-Node Name (Unit {0}) x) ≡ node_by_parts (words_inside x)
node_is x = fold-roll-Node Name (Unit {0}) Bool Bool Bool limits_by_parts node_by_parts expr_by_parts x

expr_is : (e : NamedExpr) → expr_has_words e ≡ node_has_words e.node
expr_is e = fold-roll-Expr Name (Unit {0}) Bool Bool Bool limits_by_parts node_by_parts expr_by_parts (record { node = e.node; pos = e.pos; note = tt })

-- a node that is made has them
has : (x : Layer) (n : NamedNode) → roll-Node Name (Unit {0}) x ≡ n → node_by_parts (words_inside x) ≡ true → node_has_words n ≡ true
has x n is h = ap node_has_words (sym is) ∙ node_is x ∙ h

pub expr_has : (x : Layer) (n : NamedNode) (pos : Pos) → roll-Node Name (Unit {0}) x ≡ n → node_by_parts (words_inside x) ≡ true → HasWords (expr_at n pos)
expr_has x n pos is h = expr_is (expr_at n pos) ∙ has x n is h

node_back : (n : NamedNode) → roll-Node Name (Unit {0}) (out-Node Name (Unit {0}) n) ≡ n
node_back n = search (rules, the_lemmas)

layer_has : (e : NamedExpr) → HasWords e → node_by_parts (words_inside (out-Node Name (Unit {0}) e.node)) ≡ true
layer_has e h = sym (node_is (out-Node Name (Unit {0}) e.node)) ∙ ap node_has_words (node_back e.node) ∙ sym (expr_is e) ∙ h

pub stmt_has : (x : ActLayer) (a : NamedAct) (pos : Pos) → roll-Act Name (Unit {0}) x ≡ a → act_by_parts (act_words_inside x) ≡ true → stmt_has_words (stmt_at a pos) ≡ true
stmt_has x a pos is h =
    fold-roll-Stmt Name (Unit {0}) Bool Bool act_by_parts stmt_by_parts (record { body = a; pos = pos; note = tt })
    ∙ ap act_has_words (sym is) ∙ fold-roll-Act Name (Unit {0}) Bool Bool act_by_parts stmt_by_parts x ∙ h

pub local_has : (k : ℕ) (pos : Pos) → HasWords (local_at k pos)
local_has k pos = expr_has (Node-F.Name (name.Local k)) _ pos (node.rolls-Name (name.Local k)) refl

pub number_has : (n : ℕ) (pos : Pos) → is_word n ≡ true → HasWords (number_at n pos)
number_has n pos h = expr_has (Node-F.Number n false) _ pos (node.rolls-Number n false) h

pub assign_has : (x e : NamedExpr) (pos : Pos) → HasWords x → HasWords e → stmt_has_words (assign_at x e pos) ≡ true
assign_has x e pos h g = stmt_has (Act-F.Assign x e) _ pos (act.rolls-Assign x e) (both _ _ h g)

declare_has : (t : Integer) (k : ℕ) (e : NamedExpr) (pos : Pos) → HasWords e → stmt_has_words (declare_at t k e pos) ≡ true
declare_has t k e pos h = stmt_has (Act-F.Local _) _ pos (act.rolls-Local _) h

pub added : (ss ts : List NamedStmt) → AllHave ss → AllHave ts → AllHave (ss ++ ts)
added ss ts h g = list_all-append stmt_has_words ss ts ∙ both _ _ h g

one_more : (ss : List NamedStmt) (s : NamedStmt) → AllHave ss → stmt_has_words s ≡ true → AllHave (ss ++ s ∷ [])
one_more ss s h g = added ss (s ∷ []) h (both _ _ g refl)

pub as_listed : (ss : List NamedStmt) → AllHave ss → inside_each all_have (λ (b : Bool). b) (map stmt_has_words ss) ≡ true
as_listed [] h = refl
as_listed (s ∷ ss) h = let p = parts_of (stmt_has_words s) (list_all stmt_has_words ss) h in both _ _ p.0 (as_listed ss p.1)

pub block_has : (ss : List NamedStmt) (pos : Pos) → AllHave ss → stmt_has_words (block_at ss pos) ≡ true
block_has ss pos h = stmt_has (Act-F.Block None ss) _ pos (act.rolls-Block None ss) (as_listed ss h)

-- ---- an expression and what is pending

pub record Made (r : NamedExpr × Pending) : Type 0 where
  pub is : HasWords r.0
  pub pending : AllHave r.1.stmts

record MadeNode (r : NamedNode × Pending) : Type 0 where
  pub is : node_has_words r.0 ≡ true
  pub pending : AllHave r.1.stmts

pub record MadeLimits (r : NamedLimits × Pending) : Type 0 where
  pub is : limits_have_words r.0 ≡ true
  pub pending : AllHave r.1.stmts

module _ (known : Integers) where
  -- ---- an effect is taken out

  call_good : (t : Option Integer) (e : NamedExpr) (p : Pending) → HasWords e → AllHave p.stmts → Made (call_taken t e p)
  call_good None e p h g = record { is = h; pending = g }
  call_good (Some t) e p h g = record { is = local_has p.next e.pos; pending = one_more p.stmts _ g (declare_has t p.next e e.pos h) }

  set_good : (t : Option Integer) (x e : NamedExpr) (pos : Pos) (whole : NamedExpr) (p : Pending) → HasWords x → HasWords e → HasWords whole → AllHave p.stmts → Made (set_taken t x e pos whole p)
  set_good None x e pos whole p h i w g = record { is = w; pending = g }
  set_good (Some t) x e pos whole p h i w g = record { is = h; pending = one_more p.stmts _ g (assign_has x e pos h i) }

  step_good : (t : Option Integer) (by : TreeOp) (x : NamedExpr) (pos : Pos) (whole : NamedExpr) (p : Pending) → HasWords x → HasWords whole → AllHave p.stmts → Made (step_taken t by x pos whole p)
  step_good None by x pos whole p h w g = record { is = w; pending = g }
  step_good (Some t) by x pos whole p h w g = record {
    is = local_has p.next pos;
    pending = one_more (p.stmts ++ declare_at t p.next x pos ∷ []) _ (one_more p.stmts _ g (declare_has t p.next x pos h))
        (assign_has x _ pos h (expr_has (Node-F.Bin by x (number_at 1 pos)) _ pos (node.rolls-Bin by x (number_at 1 pos)) (both _ _ h (number_has 1 pos refl))));
  }

  unary_good : (w : Work) (x whole : NamedExpr) (p : Pending) → HasWords x → HasWords whole → AllHave p.stmts → Made (unary_taken known w x whole p)
  unary_good (work.Steps by) x whole p h w g = step_good (integer_local known (form_of x)) by x whole.pos whole p h w g
  unary_good work.Sets x whole p h w g = record { is = w; pending = g }
  unary_good work.IfTrue x whole p h w g = record { is = w; pending = g }
  unary_good work.IfFalse x whole p h w g = record { is = w; pending = g }
  unary_good work.Computes x whole p h w g = record { is = w; pending = g }

  binary_good : (w : Work) (x e whole : NamedExpr) (p : Pending) → HasWords x → HasWords e → HasWords whole → AllHave p.stmts → Made (binary_taken known w x e whole p)
  binary_good work.Sets x e whole p h i w g = set_good (integer_local known (form_of x)) x e whole.pos whole p h i w g
  binary_good (work.Steps by) x e whole p h i w g = record { is = w; pending = g }
  binary_good work.IfTrue x e whole p h i w g = record { is = w; pending = g }
  binary_good work.IfFalse x e whole p h i w g = record { is = w; pending = g }
  binary_good work.Computes x e whole p h i w g = record { is = w; pending = g }

  layer_good : (x : Layer) (whole : NamedExpr) (p : Pending) → node_by_parts (words_inside x) ≡ true → HasWords whole → AllHave p.stmts → Made (node_taken known x whole p)
  layer_good (Node-F.Un o x) whole p l w g = unary_good (work_of o) x whole p l w g
  layer_good (Node-F.Bin o x e) whole p l w g = let both_have = parts_of (expr_has_words x) (expr_has_words e) l in binary_good (work_of o) x e whole p both_have.0 both_have.1 w g
  layer_good (Node-F.Call n es) whole p l w g = call_good (result_of known n) whole p w g
  layer_good _ whole p l w g = record { is = w; pending = g }

  taken_good : (r : NamedExpr × Pending) → Made r → Made (taken known r)
  taken_good r m = layer_good (out-Node Name (Unit {0}) r.0.node) r.0 r.1 (layer_has r.0 m.is) m.is m.pending

  -- an expression or the same without the effect that it is
  either : (b : Bool) (r : NamedExpr × Pending) → Made r → Made (if b then r else taken known r)
  either true r m = m
  either false r m = taken_good r m

  -- ---- by parts

  abbrev LimitsHold : NamedLimits → Type 0
  LimitsHold l = limits_have_words l ≡ true → (p : Pending) → AllHave p.stmts → MadeLimits (limits_plain known l p)

  abbrev NodeHolds : NamedNode → Type 0
  NodeHolds n = node_has_words n ≡ true → (pos : Pos) (p : Pending) → AllHave p.stmts → MadeNode (node_kept known n pos p)

  abbrev ExprHolds : NamedExpr → Type 0
  ExprHolds e = HasWords e → (p : Pending) → AllHave p.stmts → Made (expr_kept known e p)

  abbrev KeptLimits : Type 0
  KeptLimits = (l : NamedLimits) × LimitsHold l

  abbrev KeptNode : Type 0
  KeptNode = (n : NamedNode) × NodeHolds n

  abbrev KeptExpr : Type 0
  KeptExpr = (e : NamedExpr) × ExprHolds e

  abbrev inner_limits : Limits-F Name (Unit {0}) KeptLimits KeptNode KeptExpr → Limits-F Name (Unit {0}) NamedLimits NamedNode NamedExpr
  inner_limits = map-Limits Name (Unit {0}) KeptLimits KeptNode KeptExpr NamedLimits NamedNode NamedExpr (λ e. e.0) (λ e. e.0) (λ e. e.0)

  abbrev inner_node : Node-F Name (Unit {0}) KeptLimits KeptNode KeptExpr → Layer
  inner_node = map-Node Name (Unit {0}) KeptLimits KeptNode KeptExpr NamedLimits NamedNode NamedExpr (λ e. e.0) (λ e. e.0) (λ e. e.0)

  abbrev inner_expr : Expr-F Name (Unit {0}) KeptLimits KeptNode KeptExpr → Expr-F Name (Unit {0}) NamedLimits NamedNode NamedExpr
  inner_expr = map-Expr Name (Unit {0}) KeptLimits KeptNode KeptExpr NamedLimits NamedNode NamedExpr (λ e. e.0) (λ e. e.0) (λ e. e.0)

  abbrev limits_inside : Limits-F Name (Unit {0}) NamedLimits NamedNode NamedExpr → Limits-F Name (Unit {0}) OfLimits OfNode OfExpr
  limits_inside = map-Limits Name (Unit {0}) NamedLimits NamedNode NamedExpr OfLimits OfNode OfExpr (limits_plain known) (node_kept known) (expr_kept known)

  abbrev node_inside : Layer → Node-F Name (Unit {0}) OfLimits OfNode OfExpr
  node_inside = map-Node Name (Unit {0}) NamedLimits NamedNode NamedExpr OfLimits OfNode OfExpr (limits_plain known) (node_kept known) (expr_kept known)

  abbrev expr_inside : Expr-F Name (Unit {0}) NamedLimits NamedNode NamedExpr → Expr-F Name (Unit {0}) OfLimits OfNode OfExpr
  expr_inside = map-Expr Name (Unit {0}) NamedLimits NamedNode NamedExpr OfLimits OfNode OfExpr (limits_plain known) (node_kept known) (expr_kept known)

  part : (k : KeptExpr) → HasWords k.0 → (p : Pending) → AllHave p.stmts → Made (rest known (expr_kept known k.0) p)
  part k h p g = taken_good (expr_kept known k.0 p) (k.1 h p g)

  limits_made : (x : Limits-F Name (Unit {0}) NamedLimits NamedNode NamedExpr) (l : NamedLimits) (q : Pending) → roll-Limits Name (Unit {0}) x ≡ l
      → limits_by_parts (map-Limits Name (Unit {0}) NamedLimits NamedNode NamedExpr Bool Bool Bool limits_have_words node_has_words expr_has_words x) ≡ true → AllHave q.stmts → MadeLimits (l, q)
  limits_made x l q is h g = record { is = ap limits_have_words (sym is) ∙ fold-roll-Limits Name (Unit {0}) Bool Bool Bool limits_by_parts node_by_parts expr_by_parts x ∙ h; pending = g }

  limits_step : (y : Limits-F Name (Unit {0}) KeptLimits KeptNode KeptExpr)
      → limits_by_parts (map-Limits Name (Unit {0}) NamedLimits NamedNode NamedExpr Bool Bool Bool limits_have_words node_has_words expr_has_words (inner_limits y)) ≡ true
      → (p : Pending) → AllHave p.stmts → MadeLimits (limits_parts known (limits_inside (inner_limits y)) p)
  limits_step (Limits-F.Count k pos) h p g = let m = part k h p g in limits_made (Limits-F.Count _ pos) _ _ (limits.rolls-Count _ pos) m.is m.pending
  limits_step (Limits-F.ByteCount k pos) h p g = let m = part k h p g in limits_made (Limits-F.ByteCount _ pos) _ _ (limits.rolls-ByteCount _ pos) m.is m.pending
  limits_step (Limits-F.Between k j pos) h p g =
      let hs = parts_of (expr_has_words k.0) (expr_has_words j.0) h in
      let m = part k hs.0 p g in
      let n = part j hs.1 (rest known (expr_kept known k.0) p).1 m.pending in
      limits_made (Limits-F.Between _ _ pos) _ _ (limits.rolls-Between _ _ pos) (both _ _ m.is n.is) n.pending
  limits_step (Limits-F.Unknown pos) h p g = limits_made (Limits-F.Unknown pos) _ _ (limits.rolls-Unknown pos) refl g

  made : (x : Layer) (n : NamedNode) (q : Pending) → roll-Node Name (Unit {0}) x ≡ n → node_by_parts (words_inside x) ≡ true → AllHave q.stmts → MadeNode (n, q)
  made x n q is h g = record { is = has x n is h; pending = g }

  record MadeList (r : List NamedExpr × Pending) : Type 0 where
    pub is : inside_each all_have (λ (b : Bool). b) (map expr_has_words r.0) ≡ true
    pub pending : AllHave r.1.stmts

  list_good : (ks : List KeptExpr) → inside_each all_have (λ (b : Bool). b) (map expr_has_words (map (λ (k : KeptExpr). k.0) ks)) ≡ true → (p : Pending) → AllHave p.stmts
      → MadeList (each_rest known (map (expr_kept known) (map (λ (k : KeptExpr). k.0) ks)) p)
  list_good [] h p g = record { is = refl; pending = g }
  list_good (k ∷ ks) h p g =
      let hs = parts_of (expr_has_words k.0) (inside_each all_have (λ (b : Bool). b) (map expr_has_words (map (λ (k : KeptExpr). k.0) ks))) h in
      let m = part k hs.0 p g in
      let n = list_good ks hs.1 (rest known (expr_kept known k.0) p).1 m.pending in
      record { is = both _ _ m.is n.is; pending = n.pending }

  if_none_good : (ss : List NamedStmt) (a b : NamedNode × Pending) → MadeNode a → MadeNode b → MadeNode (if_none ss a b)
  if_none_good [] a b m n = m
  if_none_good (s ∷ ss) a b m n = n

  -- ---- `&&` and `||`

  abbrev Chosen : (NamedExpr → NamedStmt → Pos → NamedStmt) → Type 0
  Chosen chosen = (a : NamedExpr) (s : NamedStmt) (pos : Pos) → HasWords a → stmt_has_words s ≡ true → stmt_has_words (chosen a s pos) ≡ true

  true_good : Chosen if_true
  true_good a s pos h g = stmt_has (Act-F.If a s None) _ pos (act.rolls-If a s None) (both _ _ (both _ _ h g) refl)

  false_good : Chosen if_false
  false_good a s pos h g =
      stmt_has (Act-F.If a (stmt_at act.Empty pos) (Some s)) _ pos (act.rolls-If a (stmt_at act.Empty pos) (Some s))
      (both _ _ (both _ _ h (stmt_has Act-F.Empty _ pos act.rolls-Empty refl)) g)

  choice_good : (o : TreeOp) (start : ℕ) (chosen : NamedExpr → NamedStmt → Pos → NamedStmt) → Chosen chosen → is_word start ≡ true → (pos : Pos) (a : NamedExpr) (b : NamedExpr × Pending) (p : Pending) → HasWords a → Made b
      → AllHave p.stmts → MadeNode (choice o start chosen pos a b p)
  choice_good o start chosen good small pos a b p h m g =
      if_none_good b.1.stmts _ _
      (made (Node-F.Bin o a b.0) _ _ (node.rolls-Bin o a b.0) (both _ _ h m.is) g)
      (made (Node-F.Name (name.Local p.next)) _ _ (node.rolls-Name (name.Local p.next)) refl
      (one_more (p.stmts ++ declare_at integer.Int p.next (number_at start pos) pos ∷ []) _ (one_more p.stmts _ g (declare_has integer.Int p.next (number_at start pos) pos (number_has start pos small)))
      (good a _ pos h (block_has _ pos (one_more b.1.stmts _ m.pending
      (assign_has (local_at p.next pos) _ pos (local_has p.next pos) (expr_has (Node-F.Bin op.Ne b.0 (number_at 0 pos)) _ pos (node.rolls-Bin op.Ne b.0 (number_at 0 pos)) (both _ _ m.is (number_has 0 pos refl)))))))))

  two_good : (w : Work) (o : TreeOp) (k j : KeptExpr) (pos : Pos) (p : Pending) → HasWords k.0 → HasWords j.0 → AllHave p.stmts → MadeNode (binary_parts known w o (expr_kept known k.0) (expr_kept known j.0) pos p)
  two_good work.Sets o k j pos p h i g =
      let m = part k h p g in
      let q = (rest known (expr_kept known k.0) p).1 in
      let n = either (stays (form_of (rest known (expr_kept known k.0) p).0) (form_of (expr_kept known j.0 q).0)) (expr_kept known j.0 q) (j.1 i q m.pending) in
      made (Node-F.Bin o _ _) _ _ (node.rolls-Bin o _ _) (both _ _ m.is n.is) n.pending
  two_good work.IfTrue o k j pos p h i g =
      let m = part k h p g in
      choice_good o 0 if_true true_good refl pos _ _ _ m.is (part j i (none_pending ((rest known (expr_kept known k.0) p).1.next + 1)) refl) m.pending
  two_good work.IfFalse o k j pos p h i g =
      let m = part k h p g in
      choice_good o 1 if_false false_good refl pos _ _ _ m.is (part j i (none_pending ((rest known (expr_kept known k.0) p).1.next + 1)) refl) m.pending
  two_good (work.Steps by) o k j pos p h i g =
      let m = part k h p g in
      let n = part j i (rest known (expr_kept known k.0) p).1 m.pending in
      made (Node-F.Bin o _ _) _ _ (node.rolls-Bin o _ _) (both _ _ m.is n.is) n.pending
  two_good work.Computes o k j pos p h i g =
      let m = part k h p g in
      let n = part j i (rest known (expr_kept known k.0) p).1 m.pending in
      made (Node-F.Bin o _ _) _ _ (node.rolls-Bin o _ _) (both _ _ m.is n.is) n.pending

  -- ---- every node

  node_step : (y : Node-F Name (Unit {0}) KeptLimits KeptNode KeptExpr) → node_by_parts (words_inside (inner_node y)) ≡ true → (pos : Pos) (p : Pending) → AllHave p.stmts
      → MadeNode (node_parts known (node_inside (inner_node y)) pos p)
  node_step (Node-F.Number n unsigned) h pos p g = made (Node-F.Number n unsigned) _ p (node.rolls-Number n unsigned) h g
  node_step (Node-F.Text bytes) h pos p g = made (Node-F.Text bytes) _ p (node.rolls-Text bytes) h g
  node_step Node-F.Null h pos p g = made Node-F.Null _ p node.rolls-Null refl g
  node_step (Node-F.Name n) h pos p g = made (Node-F.Name n) _ p (node.rolls-Name n) refl g
  node_step (Node-F.Un o k) h pos p g = let m = part k h p g in made (Node-F.Un o _) _ _ (node.rolls-Un o _) m.is m.pending
  node_step (Node-F.Bin o k j) h pos p g = let hs = parts_of (expr_has_words k.0) (expr_has_words j.0) h in two_good (work_of o) o k j pos p hs.0 hs.1 g
  node_step (Node-F.Pick k j i) h pos p g =
      let hs = parts_of (expr_has_words k.0 && expr_has_words j.0) (expr_has_words i.0) h in
      let gs = parts_of (expr_has_words k.0) (expr_has_words j.0) hs.0 in
      let m = part k gs.0 p g in
      let q = (rest known (expr_kept known k.0) p).1 in
      let n = part j gs.1 q m.pending in
      let o = part i hs.1 (rest known (expr_kept known j.0) q).1 n.pending in
      made (Node-F.Pick _ _ _) _ _ (node.rolls-Pick _ _ _) (both _ _ (both _ _ m.is n.is) o.is) o.pending
  node_step (Node-F.Index k j) h pos p g =
      let hs = parts_of (expr_has_words k.0) (expr_has_words j.0) h in
      let m = part k hs.0 p g in
      let n = part j hs.1 (rest known (expr_kept known k.0) p).1 m.pending in
      made (Node-F.Index _ _) _ _ (node.rolls-Index _ _) (both _ _ m.is n.is) n.pending
  node_step (Node-F.Dot k n at) h pos p g = let m = part k h p g in made (Node-F.Dot _ n at) _ _ (node.rolls-Dot _ n at) m.is m.pending
  node_step (Node-F.Arrow k n at) h pos p g = let m = part k h p g in made (Node-F.Arrow _ n at) _ _ (node.rolls-Arrow _ n at) m.is m.pending
  node_step (Node-F.Cast t k) h pos p g = let m = part k h p g in made (Node-F.Cast t _) _ _ (node.rolls-Cast t _) m.is m.pending
  node_step (Node-F.Size t) h pos p g = made (Node-F.Size t) _ p (node.rolls-Size t) refl g
  node_step (Node-F.Trusted t k None) h pos p g =
      let hs = parts_of (expr_has_words k.0) true h in
      let m = part k hs.0 p g in
      made (Node-F.Trusted t _ None) _ _ (node.rolls-Trusted t _ None) (both _ _ m.is refl) m.pending
  node_step (Node-F.Trusted t k (Some l)) h pos p g =
      let hs = parts_of (expr_has_words k.0) (limits_have_words l.0) h in
      let m = part k hs.0 p g in
      let n = l.1 hs.1 (rest known (expr_kept known k.0) p).1 m.pending in
      made (Node-F.Trusted t _ (Some _)) _ _ (node.rolls-Trusted t _ (Some _)) (both _ _ m.is n.is) n.pending
  node_step (Node-F.Tested t k None) h pos p g =
      let hs = parts_of (expr_has_words k.0) true h in
      let m = part k hs.0 p g in
      made (Node-F.Tested t _ None) _ _ (node.rolls-Tested t _ None) (both _ _ m.is refl) m.pending
  node_step (Node-F.Tested t k (Some l)) h pos p g =
      let hs = parts_of (expr_has_words k.0) (limits_have_words l.0) h in
      let m = part k hs.0 p g in
      let n = l.1 hs.1 (rest known (expr_kept known k.0) p).1 m.pending in
      made (Node-F.Tested t _ (Some _)) _ _ (node.rolls-Tested t _ (Some _)) (both _ _ m.is n.is) n.pending
  node_step (Node-F.Call n ks) h pos p g = let m = list_good ks h p g in made (Node-F.Call n _) _ _ (node.rolls-Call n _) m.is m.pending
  node_step (Node-F.Calloc t k u) h pos p g = let m = part k h p g in made (Node-F.Calloc t _ u) _ _ (node.rolls-Calloc t _ u) m.is m.pending

  limits_by : (x : Limits-F Name (Unit {0}) NamedLimits NamedNode NamedExpr) (y : Limits-F Name (Unit {0}) KeptLimits KeptNode KeptExpr) → inner_limits y ≡ x → LimitsHold (roll-Limits Name (Unit {0}) x)
  limits_by x y is h p g =
      subst MadeLimits (sym (ap (λ f. f p) (fold-roll-Limits Name (Unit {0}) OfLimits OfNode OfExpr (limits_parts known) (node_parts known) expr_parts x)))
      (subst (λ z. limits_by_parts (map-Limits Name (Unit {0}) NamedLimits NamedNode NamedExpr Bool Bool Bool limits_have_words node_has_words expr_has_words z) ≡ true → MadeLimits (limits_parts known (limits_inside z) p)) is
      (λ w. limits_step y w p g) (sym (fold-roll-Limits Name (Unit {0}) Bool Bool Bool limits_by_parts node_by_parts expr_by_parts x) ∙ h))

  node_by : (x : Layer) (y : Node-F Name (Unit {0}) KeptLimits KeptNode KeptExpr) → inner_node y ≡ x → NodeHolds (roll-Node Name (Unit {0}) x)
  node_by x y is h pos p g =
      subst MadeNode (sym (ap (λ f. f pos p) (fold-roll-Node Name (Unit {0}) OfLimits OfNode OfExpr (limits_parts known) (node_parts known) expr_parts x)))
      (subst (λ z. node_by_parts (words_inside z) ≡ true → MadeNode (node_parts known (node_inside z) pos p)) is (λ w. node_step y w pos p g) (sym (node_is x) ∙ h))

  expr_by : (x : Expr-F Name (Unit {0}) NamedLimits NamedNode NamedExpr) (y : Expr-F Name (Unit {0}) KeptLimits KeptNode KeptExpr) → inner_expr y ≡ x → ExprHolds (roll-Expr Name (Unit {0}) x)
  expr_by x y is =
      subst (λ z. ExprHolds (roll-Expr Name (Unit {0}) z)) is (λ h p g.
      let m = y.node.1 (sym (expr_is (roll-Expr Name (Unit {0}) (inner_expr y))) ∙ h) y.pos p g in
      subst Made (sym (ap (λ f. f p) (fold-roll-Expr Name (Unit {0}) OfLimits OfNode OfExpr (limits_parts known) (node_parts known) expr_parts (inner_expr y))))
      (record { is = expr_is _ ∙ m.is; pending = m.pending }))

  pub kept_good : (e : NamedExpr) → ExprHolds e
  kept_good = ind-Expr Name (Unit {0}) LimitsHold NodeHolds ExprHolds limits_by node_by expr_by

  pub limits_good : (l : NamedLimits) → LimitsHold l
  limits_good = ind-Limits Name (Unit {0}) LimitsHold NodeHolds ExprHolds limits_by node_by expr_by

  pub plain_good : (e : NamedExpr) → HasWords e → (p : Pending) → AllHave p.stmts → Made (expr_plain known e p)
  plain_good e h p g = taken_good (expr_kept known e p) (kept_good e h p g)

  pub whole_good : (e : NamedExpr) → HasWords e → (p : Pending) → AllHave p.stmts → Made (whole_plain known e p)
  whole_good e h p g = either (is_call (form_of (expr_kept known e p).0)) (expr_kept known e p) (kept_good e h p g)

  pub right_good : (x e : NamedExpr) → HasWords e → (p : Pending) → AllHave p.stmts → Made (right_plain known x e p)
  right_good x e h p g = either (stays (form_of x) (form_of (expr_kept known e p).0)) (expr_kept known e p) (kept_good e h p g)
