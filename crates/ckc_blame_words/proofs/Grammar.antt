-- In the tree that tokens derive each literal is a word, if the tokens hold words.
use Rattle.std.proofs.Common.{◌≡◌, ℕ, zero, suc, Bool, true, false, ◌&&◌, ◌==◌, if◌then◌else◌, List, [], ◌∷◌, ◌++◌, map, refl, sym, ap, subst, ◌∙◌, arith}
use Rattle.std.proofs.lemmas.Bool.Decides.{nat_tests}
use Rattle.std.proofs.lemmas.List.Elements.{All-nil, All-cons, All-head, All-tail}
use Rattle.std.proofs.lemmas.List.Folds.{list_all-append}
use Rattle.std.specs.Prelude.{Option, Some, None, IfSome}
use Rattle.std.specs.List.{All, list_all, AllByRecursion}
use Rattle.ckc_base.specs.declared.places.Pos.{Pos}
use Rattle.ckc_base.specs.declared.arithmetic.Mode.{Mode}
use Rattle.ckc_syntax.specs.Inside.{all_have, inside_if, inside_each}
use Rattle.ckc_syntax.specs.Spelled.{Spelled}
use Rattle.ckc_syntax.specs.declared.tokens.TokenKind.{TokenKind}
use Rattle.ckc_syntax.specs.declared.tokens.TokenKind.TheVariants as kinds
use Rattle.ckc_syntax.specs.declared.tree.Limits.{Limits-F, map-Limits, roll-Limits, fold-roll-Limits}
use Rattle.ckc_syntax.specs.declared.tree.Limits.TheVariants as bounds
use Rattle.ckc_syntax.specs.declared.tree.Node.{Node-F, map-Node, roll-Node, fold-Node, fold-roll-Node}
use Rattle.ckc_syntax.specs.declared.tree.Node.TheVariants as node
use Rattle.ckc_syntax.specs.declared.tree.Expr.{fold-roll-Expr}
use Rattle.ckc_syntax.specs.declared.tree.Act.{Act-F, map-Act, roll-Act, fold-Act, fold-roll-Act}
use Rattle.ckc_syntax.specs.declared.tree.Act.TheVariants as act
use Rattle.ckc_syntax.specs.declared.tree.Stmt.{fold-roll-Stmt}
use Rattle.ckc_syntax.specs.declared.tree.TreeOp.{TreeOp}
use Rattle.ckc_syntax.specs.declared.tree.TreeOp.TheVariants as op
use Rattle.ckc_parser_grammar.specs.declared.kind.Kind.{Kind}
use Rattle.ckc_parser_grammar.specs.declared.parts.Arms.{Arms}
use Rattle.ckc_parser_grammar.specs.declared.parts.Operation.{Operation}
use Rattle.ckc_parser_grammar.specs.declared.parts.Setting.{Setting}
use Rattle.ckc_parser_grammar.specs.declared.parts.Post.{Post}
use Rattle.ckc_parser_grammar.specs.declared.parts.Post.TheVariants as behind
use Rattle.ckc_parser_grammar.specs.code.Grammar.{Part, Symbol, t, n, Rule, left, right}
use Rattle.ckc_parser_grammar.specs.code.Grammar as g
use Rattle.ckc_parser_grammar.specs.code.Trees.{Name, Tree, Item, Head, TypeTree, Decl, Limits, Expr, Node, Stmt, Act, expr_at, stmt_at, statics, local_of, locals, function_of, one_at, assigned_by, set_by, posted, with_increment, assigned_to, assigned, set_to, set, by_one, changed, stepped, joined_at, joined_to, joined, level, picked, literal}
use Rattle.ckc_grammar.specs.declared.chain.Step.{Step}
use Rattle.ckc_parser_grammar.specs.code.Values as v
use Rattle.ckc_parser_grammar.specs.code.Values.{Value, made, named, called, whole, step, as_token, as_items, as_items_of_name, as_items_of_base, as_items_of_declarator, as_item_of_head, as_decl, as_decls, as_decl_of_base, as_decls_of_base, as_decl_of_name, as_init, as_limits, as_declared_limits, as_limits_at, as_limits_of_unknown, as_expr, as_exprs, as_value, as_expr_behind, as_expr_of_name, as_expr_of_less, as_arms, as_steps, as_post, as_posts, as_stmt, as_part, as_stmts, as_stmt_of_name, operand_of, limits_of, as_type, name_of, called_or_named, finished, ended, increment_at, as_call, as_increment, as_setting, as_stmt_behind}
use Rattle.ckc_parser_grammar.specs.code.Derives.{Sign, Derives}
use Rattle.ckc_parser_grammar.specs.code.Derives as D
use Rattle.ckc_blame_words.proofs.Strings.{decoded_bytes}
use Rattle.ckc_blame_words.specs.Literals.{HoldsWord, are_bytes, is_word, limits_by_parts, node_by_parts, expr_by_parts, limits_have_words, expr_has_words, init_has_words, decl_has_words, act_by_parts, stmt_by_parts, stmt_has_words, head_has_words, item_has_words, tree_has_words}

abbrev C : Expr → Type 0
C e = expr_has_words e ≡ true

abbrev S : Stmt → Type 0
S s = stmt_has_words s ≡ true

abbrev LE : List Expr → Type 0
LE es = list_all expr_has_words es ≡ true

abbrev LI : List Item → Type 0
LI is = list_all item_has_words is ≡ true

abbrev LD : List Decl → Type 0
LD ds = list_all decl_has_words ds ≡ true

abbrev LS : List Stmt → Type 0
LS ss = list_all stmt_has_words ss ≡ true

abbrev SA : List Step → Type 0
SA ss = AllByRecursion (λ s. C s.operand) ss

abbrev AA : Option Arms → Type 0
AA o = IfSome o (λ a. C a.yes × C a.no)

abbrev SetOk : Option Setting → Type 0
SetOk o = IfSome o (λ (s : Setting). C s.value)

abbrev bounds_have : Option Limits → Bool
bounds_have = inside_if all_have limits_have_words

abbrev value_has : Option Expr → Bool
value_has = inside_if all_have expr_has_words

abbrev part_has : Option Stmt → Bool
part_has = inside_if all_have stmt_has_words

abbrev PostOk : Post → Type 0
PostOk (behind.Index e pos) = C e
PostOk (behind.Dot name at pos) = Unit {0}
PostOk (behind.Arrow name at pos) = Unit {0}

abbrev PA : List Post → Type 0
PA ps = AllByRecursion PostOk ps

abbrev TreeOk : Value → Type 0
TreeOk (v.tree w) = tree_has_words w ≡ true
TreeOk _ = Unit {0}

abbrev Good : Part → Value → Type 0
Good g.text x = TreeOk x
Good g.items x = LI (as_items x)
Good g.structure x = (s : Spelled) → LI (as_items_of_name x s)
Good g.declaration x = LI (as_items x)
Good g.declared x = LI (as_items x)
Good g.declarators x = (base : TypeTree) → LI (as_items_of_base x base)
Good g.declarator x = (base : TypeTree) (w : TypeTree) (s : Spelled) → LI (as_items_of_declarator x base w s)
Good g.objects x = (base : TypeTree) → LD (as_decls_of_base x base)
Good g.object x = (base : TypeTree) → decl_has_words (as_decl_of_base x base) ≡ true
Good g.object_rest x = (w : TypeTree) (s : Spelled) → decl_has_words (as_decl_of_name x w s) ≡ true
Good g.initial x = init_has_words (as_init x) ≡ true
Good g.initializer x = init_has_words (as_init x) ≡ true
Good g.list_rest x = LE (as_exprs x)
Good g.list_more x = LE (as_exprs x)
Good g.head x = (m : Option Mode) (r : TypeTree) (s : Spelled) → item_has_words (as_item_of_head x m r s) ≡ true
Good g.body x = part_has (as_part x) ≡ true
Good g.params x = LD (as_decls x)
Good g.more_params x = LD (as_decls x)
Good g.param x = decl_has_words (as_decl x) ≡ true
Good g.members x = LD (as_decls x)
Good g.member x = LD (as_decls x)
Good g.slot x = (base : TypeTree) → decl_has_words (as_decl_of_base x base) ≡ true
Good g.slots x = (base : TypeTree) → LD (as_decls_of_base x base)
Good g.declared_limits x = bounds_have (as_declared_limits x) ≡ true
Good g.limits x = limits_have_words (as_limits x) ≡ true
Good g.bounds_rest x = (pos : Pos) → limits_have_words (as_limits_at x pos) ≡ true
Good g.unknown_rest x = (pos : Pos) (s : Spelled) → limits_have_words (as_limits_of_unknown x pos s) ≡ true
Good g.block_items x = LS (as_stmts x)
Good g.locals x = LD (as_decls x)
Good g.more_locals x = (base : TypeTree) → LD (as_decls_of_base x base)
Good g.local x = (base : TypeTree) → decl_has_words (as_decl_of_base x base) ≡ true
Good g.local_initial x = init_has_words (as_init x) ≡ true
Good g.value x = C (as_expr x)
Good g.calloc_value x = (s : Spelled) → C (as_expr_of_name x s)
Good g.less x = (s : Spelled) (pos : Pos) → C (as_expr_of_less x s pos)
Good g.arguments x = LE (as_exprs x)
Good g.more_arguments x = LE (as_exprs x)
Good g.allocation x = (s : Spelled) → C (as_expr_of_name x s)
Good g.setting x = SetOk (as_setting x)
Good g.later_setting x = SetOk (as_setting x)
Good g.change x = SetOk (as_setting x)
Good g.assign x = S (as_stmt x)
Good g.unnamed x = S (as_stmt x)
Good g.round_assign x = (pos : Pos) → S (as_stmt_behind x pos)
Good g.called_stmt x = PA (as_posts x) × SetOk (as_setting x)
Good g.stmt x = S (as_stmt x)
Good g.calloc_stmt x = (s : Spelled) → S (as_stmt_of_name x s)
Good g.named_stmt x = (s : Spelled) → S (as_stmt_of_name x s)
Good g.otherwise x = part_has (as_part x) ≡ true
Good g.condition x = value_has (as_value x) ≡ true
Good g.for_start x = part_has (as_part x) ≡ true
Good g.for_step x = part_has (as_part x) ≡ true
Good g.assigns x = LS (as_stmts x)
Good g.expr x = C (as_expr x)
Good g.expr_rest x = SA (as_steps x) × AA (as_arms x) × SetOk (as_setting x)
Good g.chain x = SA (as_steps x) × AA (as_arms x) × SetOk (as_setting x)
Good g.name_rest x = (s : Spelled) → C (as_expr_of_name x s)
Good g.call_rest x = IfSome (as_call x) LE
Good g.choice x = AA (as_arms x)
Good g.tail x = SA (as_steps x)
Good g.unary x = C (as_expr x)
Good g.first x = C (as_expr x)
Good g.round x = (pos : Pos) → C (as_expr_behind x pos)
Good g.posts x = PA (as_posts x)
Good g.post x = PostOk (as_post x)
Good g.primary x = C (as_expr x)
Good g.bounds_cast x = C (operand_of x) × (bounds_have (limits_of x) ≡ true)
Good g.cast_limits x = bounds_have (as_declared_limits x) ≡ true
Good g.constant x = C (as_expr x)
Good _ x = Unit {0}

abbrev GoodSymbol : Symbol → Value → Type 0
GoodSymbol (t c) x = HoldsWord (as_token x).kind
GoodSymbol (n p) x = Good p x

data AllGood : List Symbol → List Value → Type 0 where
  nil : AllGood [] []
  cons : {s : Symbol} {ss : List Symbol} {x : Value} {xs : List Value} → GoodSymbol s x → AllGood ss xs → AllGood (s ∷ ss) (x ∷ xs)

both : (a b : Bool) → a ≡ true → b ≡ true → (a && b) ≡ true
both a b e f = ap (λ c. c && b) e ∙ f

first_of : (a b : Bool) → (a && b) ≡ true → a ≡ true
first_of true b e = refl
first_of false b e = e

second_of : (a b : Bool) → (a && b) ≡ true → b ≡ true
second_of true b e = e
second_of false b e = absurd cc

all_joined : {X : Type 0} (p : X → Bool) (xs ys : List X) → list_all p xs ≡ true → list_all p ys ≡ true → list_all p (xs ++ ys) ≡ true
all_joined p xs ys e f = list_all-append p xs ys ∙ both _ _ e f

-- ---- expressions

abbrev node_has_words : Node → Bool
node_has_words = fold-Node Name (Unit {0}) Bool Bool Bool limits_by_parts node_by_parts expr_by_parts

at_is : (x : Node) (pos : Pos) → expr_has_words (expr_at x pos) ≡ node_has_words x
at_is x pos = fold-roll-Expr Name (Unit {0}) Bool Bool Bool limits_by_parts node_by_parts expr_by_parts (record { node = x; pos = pos; note = tt })

rolled : (d : Node-F Name (Unit {0}) Limits Node Expr) (x : Node) (pos : Pos) → roll-Node Name (Unit {0}) d ≡ x
    → node_by_parts (map-Node Name (Unit {0}) Limits Node Expr Bool Bool Bool limits_have_words node_has_words expr_has_words d) ≡ true → C (expr_at x pos)
rolled d x pos is h =
    at_is x pos ∙ ap node_has_words (sym is) ∙ fold-roll-Node Name (Unit {0}) Bool Bool Bool limits_by_parts node_by_parts expr_by_parts d ∙ h

c_number : (m : ℕ) (u : Bool) (pos : Pos) → is_word m ≡ true → C (expr_at (node.Number m u) pos)
c_number m u pos h = rolled (Node-F.Number m u) _ pos (node.rolls-Number m u) h

c_null : (pos : Pos) → C (expr_at node.Null pos)
c_null pos = rolled Node-F.Null _ pos node.rolls-Null refl

c_text : (s : List ℕ) (pos : Pos) → are_bytes s ≡ true → C (expr_at (node.Text s) pos)
c_text s pos h = rolled (Node-F.Text s) _ pos (node.rolls-Text s) h

c_name : (s : Name) (pos : Pos) → C (expr_at (node.Name s) pos)
c_name s pos = rolled (Node-F.Name s) _ pos (node.rolls-Name s) refl

c_un : (o : TreeOp) (e : Expr) (pos : Pos) → C e → C (expr_at (node.Un o e) pos)
c_un o e pos h = rolled (Node-F.Un o e) _ pos (node.rolls-Un o e) h

c_bin : (o : TreeOp) (e f : Expr) (pos : Pos) → C e → C f → C (expr_at (node.Bin o e f) pos)
c_bin o e f pos h k = rolled (Node-F.Bin o e f) _ pos (node.rolls-Bin o e f) (both _ _ h k)

c_pick : (e f i : Expr) (pos : Pos) → C e → C f → C i → C (expr_at (node.Pick e f i) pos)
c_pick e f i pos h k l = rolled (Node-F.Pick e f i) _ pos (node.rolls-Pick e f i) (both _ _ (both _ _ h k) l)

c_index : (e f : Expr) (pos : Pos) → C e → C f → C (expr_at (node.Index e f) pos)
c_index e f pos h k = rolled (Node-F.Index e f) _ pos (node.rolls-Index e f) (both _ _ h k)

c_dot : (e : Expr) (s : Name) (at pos : Pos) → C e → C (expr_at (node.Dot e s at) pos)
c_dot e s at pos h = rolled (Node-F.Dot e s at) _ pos (node.rolls-Dot e s at) h

c_arrow : (e : Expr) (s : Name) (at pos : Pos) → C e → C (expr_at (node.Arrow e s at) pos)
c_arrow e s at pos h = rolled (Node-F.Arrow e s at) _ pos (node.rolls-Arrow e s at) h

c_cast : (w : TypeTree) (e : Expr) (pos : Pos) → C e → C (expr_at (node.Cast w e) pos)
c_cast w e pos h = rolled (Node-F.Cast w e) _ pos (node.rolls-Cast w e) h

c_size : (w : TypeTree) (pos : Pos) → C (expr_at (node.Size w) pos)
c_size w pos = rolled (Node-F.Size w) _ pos (node.rolls-Size w) refl

c_tested : (w : TypeTree) (e : Expr) (l : Option Limits) (pos : Pos) → C e → bounds_have l ≡ true → C (expr_at (node.Tested w e l) pos)
c_tested w e None pos h k = rolled (Node-F.Tested w e None) _ pos (node.rolls-Tested w e None) (both _ _ h refl)
c_tested w e (Some l) pos h k = rolled (Node-F.Tested w e (Some l)) _ pos (node.rolls-Tested w e (Some l)) (both _ _ h k)

c_trusted : (w : TypeTree) (e : Expr) (l : Option Limits) (pos : Pos) → C e → bounds_have l ≡ true → C (expr_at (node.Trusted w e l) pos)
c_trusted w e None pos h k = rolled (Node-F.Trusted w e None) _ pos (node.rolls-Trusted w e None) (both _ _ h refl)
c_trusted w e (Some l) pos h k = rolled (Node-F.Trusted w e (Some l)) _ pos (node.rolls-Trusted w e (Some l)) (both _ _ h k)

each_is : {X : Type 0} (f : X → Bool) (xs : List X) → list_all f xs ≡ true → inside_each all_have (λ (b : Bool). b) (map f xs) ≡ true
each_is f [] h = refl
each_is f (x ∷ xs) h = both _ _ (first_of (f x) _ h) (each_is f xs (second_of (f x) _ h))

c_called : (s : Spelled) (es : List Expr) → LE es → C (called s es)
c_called s es h = rolled (Node-F.Call s.text es) _ s.pos (node.rolls-Call s.text es) (each_is expr_has_words es h)

c_calloc : (w : TypeTree) (e : Expr) (u : TypeTree) (pos : Pos) → C e → C (expr_at (node.Calloc w e u) pos)
c_calloc w e u pos h = rolled (Node-F.Calloc w e u) _ pos (node.rolls-Calloc w e u) h

word_is : (m : ℕ) → HoldsWord (kinds.Number m true) → is_word m ≡ true
word_is m h = grind (arith, nat_tests)

c_literal : (k : TokenKind) (pos : Pos) → HoldsWord k → C (expr_at (literal k) pos)
c_literal (kinds.Number m u) pos h = c_number m u pos (word_is m h)
c_literal (kinds.Character b) pos h = c_number b false pos (word_is b h)
c_literal kinds.Name pos h = c_null pos
c_literal kinds.Keyword pos h = c_null pos
c_literal kinds.Text pos h = c_null pos
c_literal kinds.Mark pos h = c_null pos
c_literal (kinds.Directive d) pos h = c_null pos

c_posted : (e : Expr) (ps : List Post) → C e → PA ps → C (posted e ps)
c_posted e [] h p = h
c_posted e (behind.Index i pos ∷ ps) h p = c_posted (expr_at (node.Index e i) pos) ps (c_index e i pos h p.0) p.1
c_posted e (behind.Dot s at pos ∷ ps) h p = c_posted (expr_at (node.Dot e s at) pos) ps (c_dot e s at pos h) p.1
c_posted e (behind.Arrow s at pos ∷ ps) h p = c_posted (expr_at (node.Arrow e s at) pos) ps (c_arrow e s at pos h) p.1

abbrev pub chosen : Bool → Expr × List Step → Expr → Step → Expr × List Step → Expr × List Step
chosen true one e s two = one
chosen false one e s two = (e, record { op = s.op; pos = s.pos; operand = two.0 } ∷ two.1)

chosen_ok : (b : Bool) (one : Expr × List Step) (e : Expr) (s : Step) (two : Expr × List Step) → C one.0 × SA one.1 → C e → C two.0 × SA two.1 → C (chosen b one e s two).0 × SA (chosen b one e s two).1
chosen_ok true one e s two p h q = p
chosen_ok false one e s two p h q = (h, (q.0, q.1))

c_joined_at : (l : ℕ) (e : Expr) (ss : List Step) → C e → SA ss → C (joined_at l e ss).0 × SA (joined_at l e ss).1
c_joined_at l e [] h p = (h, tt)
c_joined_at l e (s ∷ ss) h p =
    let one = joined_at l (expr_at (node.Bin s.op e s.operand) s.pos) ss in let two = joined_at l s.operand ss in
    subst (λ z. C z.0 × SA z.1) (same (level s.op == l) one two)
    (chosen_ok (level s.op == l) one e s two (c_joined_at l (expr_at (node.Bin s.op e s.operand) s.pos) ss (c_bin s.op e s.operand s.pos h p.0) p.1) h (c_joined_at l s.operand ss p.0 p.1))
  where
    same : (b : Bool) (one two : Expr × List Step) → chosen b one e s two ≡ (if b then one else (e, record { op = s.op; pos = s.pos; operand = two.0 } ∷ two.1))
    same true one two = refl
    same false one two = refl

c_joined_to : (l : ℕ) (e : Expr) (ss : List Step) → C e → SA ss → C (joined_to l (e, ss)).0
unfolding joined_to
c_joined_to zero e ss h p = h
c_joined_to (suc l) e ss h p = let r = c_joined_at (suc l) e ss h p in c_joined_to l (joined_at (suc l) e ss).0 (joined_at (suc l) e ss).1 r.0 r.1

c_joined : (e : Expr) (ss : List Step) → C e → SA ss → C (joined e ss)
unfolding joined
c_joined e ss h p = c_joined_to 10 e ss h p

c_picked : (e : Expr) (a : Option Arms) → C e → AA a → C (picked e a)
c_picked e None h p = h
c_picked e (Some a) h p = c_pick e a.yes a.no a.pos h p.0 p.1

c_whole : (e : Expr) (ss : List Step) (a : Option Arms) → C e → SA ss → AA a → C (whole e ss a)
c_whole e ss a h p q = c_picked (joined e ss) a (c_joined e ss h p) q

c_one : (pos : Pos) → C (one_at pos)
c_one pos = c_number 1 false pos refl

c_set_to : (x : Expr) (o : Option TreeOp) (pos : Pos) (e : Expr) → C x → C e → C (set_to x o pos e)
c_set_to x None pos e h k = c_bin op.Set x e pos h k
c_set_to x (Some o) pos e h k = c_bin op.Set x (expr_at (node.Bin o x e) pos) pos h (c_bin o x e pos h k)

c_set : (x : Expr) (s : Setting) → C x → C s.value → C (set x s)
c_set x s h k = c_set_to x s.op s.pos s.value h k

c_incremented : (x : Expr) (i : Option Operation) → C x → C (with_increment x i)
c_incremented x None h = h
c_incremented x (Some o) h = c_un _ x o.pos h

c_finished : (e : Expr) (ss : List Step) (a : Option Arms) (s : Option Setting) → C e → SA ss → AA a → SetOk s → C (finished e ss a s)
c_finished e ss a None h p q r = c_whole e ss a h p q
c_finished e ss a (Some s) h p q r = c_set e s h r

c_called_or_named : (s : Spelled) (o : Option (List Expr)) → IfSome o LE → C (called_or_named s o)
c_called_or_named s None h = c_name s.text s.pos
c_called_or_named s (Some es) h = c_called s es h

-- ---- bounds

limited : (d : Limits-F Name (Unit {0}) Limits Node Expr) (l : Limits) → roll-Limits Name (Unit {0}) d ≡ l
    → limits_by_parts (map-Limits Name (Unit {0}) Limits Node Expr Bool Bool Bool limits_have_words node_has_words expr_has_words d) ≡ true → limits_have_words l ≡ true
limited d l is h = ap limits_have_words (sym is) ∙ fold-roll-Limits Name (Unit {0}) Bool Bool Bool limits_by_parts node_by_parts expr_by_parts d ∙ h

l_count : (e : Expr) (pos : Pos) → C e → limits_have_words (bounds.Count e pos) ≡ true
l_count e pos h = limited (Limits-F.Count e pos) _ (bounds.rolls-Count e pos) h

l_bytes : (e : Expr) (pos : Pos) → C e → limits_have_words (bounds.ByteCount e pos) ≡ true
l_bytes e pos h = limited (Limits-F.ByteCount e pos) _ (bounds.rolls-ByteCount e pos) h

l_between : (e f : Expr) (pos : Pos) → C e → C f → limits_have_words (bounds.Between e f pos) ≡ true
l_between e f pos h k = limited (Limits-F.Between e f pos) _ (bounds.rolls-Between e f pos) (both _ _ h k)

l_unknown : (pos : Pos) → limits_have_words {N = Name} {A = Unit {0}} (bounds.Unknown pos) ≡ true
l_unknown pos = limited (Limits-F.Unknown pos) _ (bounds.rolls-Unknown pos) refl

-- ---- statements

abbrev act_has_words : Act → Bool
act_has_words = fold-Act Name (Unit {0}) Bool Bool act_by_parts stmt_by_parts

done : (d : Act-F Name (Unit {0}) Act Stmt) (a : Act) (pos : Pos) → roll-Act Name (Unit {0}) d ≡ a
    → act_by_parts (map-Act Name (Unit {0}) Act Stmt Bool Bool act_has_words stmt_has_words d) ≡ true → S (stmt_at a pos)
done d a pos is h =
    fold-roll-Stmt Name (Unit {0}) Bool Bool act_by_parts stmt_by_parts (record { body = a; pos = pos; note = tt })
    ∙ ap act_has_words (sym is) ∙ fold-roll-Act Name (Unit {0}) Bool Bool act_by_parts stmt_by_parts d ∙ h

s_assign : (e f : Expr) (pos : Pos) → C e → C f → S (stmt_at (act.Assign e f) pos)
s_assign e f pos h k = done (Act-F.Assign e f) _ pos (act.rolls-Assign e f) (both _ _ h k)

s_empty : (pos : Pos) → S (stmt_at act.Empty pos)
s_empty pos = done Act-F.Empty _ pos act.rolls-Empty refl

s_break : (pos : Pos) → S (stmt_at act.Break pos)
s_break pos = done Act-F.Break _ pos act.rolls-Break refl

s_continue : (pos : Pos) → S (stmt_at act.Continue pos)
s_continue pos = done Act-F.Continue _ pos act.rolls-Continue refl

s_call : (e : Expr) (pos : Pos) → C e → S (stmt_at (act.Call e) pos)
s_call e pos h = done (Act-F.Call e) _ pos (act.rolls-Call e) h

s_check : (e : Expr) (pos : Pos) → C e → S (stmt_at (act.Check e) pos)
s_check e pos h = done (Act-F.Check e) _ pos (act.rolls-Check e) h

s_return : (e : Option Expr) (pos : Pos) → value_has e ≡ true → S (stmt_at (act.Return e) pos)
s_return e pos h = done (Act-F.Return e) _ pos (act.rolls-Return e) h

s_while : (e : Expr) (s : Stmt) (pos : Pos) → C e → S s → S (stmt_at (act.While e s) pos)
s_while e s pos h k = done (Act-F.While e s) _ pos (act.rolls-While e s) (both _ _ h k)

s_block : (m : Option Mode) (ss : List Stmt) (pos : Pos) → LS ss → S (stmt_at (act.Block m ss) pos)
s_block m ss pos h = done (Act-F.Block m ss) _ pos (act.rolls-Block m ss) (each_is stmt_has_words ss h)

s_bundle : (ss : List Stmt) (pos : Pos) → LS ss → S (stmt_at (act.Bundle ss) pos)
s_bundle ss pos h = done (Act-F.Bundle ss) _ pos (act.rolls-Bundle ss) (each_is stmt_has_words ss h)

s_if : (e : Expr) (s : Stmt) (o : Option Stmt) (pos : Pos) → C e → S s → part_has o ≡ true → S (stmt_at (act.If e s o) pos)
s_if e s None pos h k l = done (Act-F.If e s None) _ pos (act.rolls-If e s None) (both _ _ (both _ _ h k) refl)
s_if e s (Some u) pos h k l = done (Act-F.If e s (Some u)) _ pos (act.rolls-If e s (Some u)) (both _ _ (both _ _ h k) l)

s_for : (a : Option Stmt) (c : Option Expr) (b : Option Stmt) (s : Stmt) (pos : Pos) → part_has a ≡ true → value_has c ≡ true → part_has b ≡ true → S s
    → S (stmt_at (act.For a c b s) pos)
s_for None c None s pos i j k l = done (Act-F.For None c None s) _ pos (act.rolls-For None c None s) (both _ _ (both _ _ (both _ _ i j) k) l)
s_for None c (Some b) s pos i j k l = done (Act-F.For None c (Some b) s) _ pos (act.rolls-For None c (Some b) s) (both _ _ (both _ _ (both _ _ i j) k) l)
s_for (Some a) c None s pos i j k l = done (Act-F.For (Some a) c None s) _ pos (act.rolls-For (Some a) c None s) (both _ _ (both _ _ (both _ _ i j) k) l)
s_for (Some a) c (Some b) s pos i j k l =
    done (Act-F.For (Some a) c (Some b) s) _ pos (act.rolls-For (Some a) c (Some b) s) (both _ _ (both _ _ (both _ _ i j) k) l)

s_local : (d : Decl) → decl_has_words d ≡ true → S (local_of d)
s_local d h = done (Act-F.Local d) _ d.pos (act.rolls-Local d) h

locals_have : (ds : List Decl) → LD ds → LS (locals ds)
locals_have [] h = refl
locals_have (d ∷ ds) h = both _ _ (s_local d (first_of _ _ h)) (locals_have ds (second_of _ _ h))

s_assigned_to : (x : Expr) (o : Option TreeOp) (pos : Pos) (e : Expr) → C x → C e → S (assigned_to x o pos e)
s_assigned_to x None pos e h k = s_assign x e pos h k
s_assigned_to x (Some o) pos e h k = s_assign x (expr_at (node.Bin o x e) pos) pos h (c_bin o x e pos h k)

s_assigned : (x : Expr) (s : Setting) → C x → C s.value → S (assigned x s)
s_assigned x s h k = s_assigned_to x s.op s.pos s.value h k

s_changed : (x : Expr) (i : Option Operation) (s : Option Setting) → C x → SetOk s → S (changed x i s)
s_changed x None None h k = s_call x x.pos h
s_changed x (Some o) None h k = s_assigned x (by_one o) h (c_one o.pos)
s_changed x None (Some s) h k = s_assigned x s h k
s_changed x (Some o) (Some s) h k = s_assigned (with_increment x (Some o)) s (c_incremented x (Some o) h) k

s_stepped : (x : Expr) (o : Operation) (s : Option Setting) → C x → SetOk s → S (stepped x o s)
s_stepped x o None h k = s_assigned x (by_one o) h (c_one o.pos)
s_stepped x o (Some s) h k = s_assigned (set x (by_one o)) s (c_set x (by_one o) h (c_one o.pos)) k

-- ---- items

statics_have : (ds : List Decl) → LD ds → LI (statics ds)
statics_have [] h = refl
statics_have (d ∷ ds) h = both _ _ (first_of _ _ h) (statics_have ds (second_of _ _ h))

function_has : (h : Head) (s : Option Stmt) → head_has_words h ≡ true → part_has s ≡ true → item_has_words (function_of h s) ≡ true
function_has h None e p = e
function_has h (Some s) e p = both _ _ e p

items_joined : (xs ys : List Item) → LI xs → LI ys → LI (xs ++ ys)
items_joined xs ys = all_joined item_has_words xs ys

decls_joined : (xs ys : List Decl) → LD xs → LD ys → LD (xs ++ ys)
decls_joined xs ys = all_joined decl_has_words xs ys

good_made : (r : Rule) {ws : List Value} → AllGood (right r) ws → Good (left r) (made r ws)
good_made g.Text (cons h0 nil) = h0
good_made g.Directive (cons h0 (cons h1 nil)) = h1
good_made g.Structure (cons {x = x0} h0 (cons {x = x1} h1 (cons {x = x2} h2 (cons {x = x3} h3 nil)))) = items_joined (as_items_of_name x2 (as_token x1)) (as_items x3) (h2 (as_token x1)) h3
good_made g.Static (cons {x = x0} h0 (cons {x = x1} h1 (cons {x = x2} h2 nil))) = items_joined (as_items x1) (as_items x2) h1 h2
good_made g.Declaration (cons {x = x0} h0 (cons {x = x1} h1 nil)) = items_joined (as_items x0) (as_items x1) h0 h1
good_made g.NoItems nil = refl
good_made g.Tag (cons h0 nil) = λ s. refl
good_made g.Members (cons {x = x0} h0 (cons {x = x1} h1 (cons {x = x2} h2 (cons {x = x3} h3 (cons {x = x4} h4 nil))))) = λ s. both _ _ (decls_joined (as_decls x1) (as_decls x2) h1 h2) refl
good_made g.Structured (cons h0 nil) = λ s. h0 _
good_made g.StaticStruct (cons h0 (cons h1 (cons h2 nil))) = h2 _
good_made g.StaticOther (cons h0 nil) = h0
good_made g.Moded (cons h0 (cons h1 (cons h2 (cons h3 nil)))) = both _ _ (h3 _ _ _) refl
good_made g.Voided (cons h0 (cons h1 (cons h2 nil))) = both _ _ (h2 _ _ _) refl
good_made g.Based (cons h0 (cons h1 nil)) = h1 _
good_made g.Declarators (cons h0 (cons h1 (cons h2 nil))) = λ base. h2 _ _ _
good_made g.Headed (cons h0 nil) = λ base w s. both _ _ (h0 _ _ _) refl
good_made g.Objects (cons {x = x0} h0 (cons {x = x1} h1 nil)) = λ base w s. statics_have (as_decl_of_name x0 w s ∷ as_decls_of_base x1 base) (both _ _ (h0 w s) (h1 base))
good_made g.MoreObjects (cons h0 (cons h1 (cons h2 nil))) = λ base. both _ _ (h1 _) (h2 _)
good_made g.NoObjects (cons h0 nil) = λ base. refl
good_made g.Object (cons h0 (cons h1 (cons h2 nil))) = λ base. h2 _ _
good_made g.ObjectRest (cons h0 (cons h1 (cons h2 nil))) = λ w s. both _ _ h1 h2
good_made g.Initial (cons h0 (cons h1 nil)) = h1
good_made g.NoInitial nil = refl
good_made g.ListInitial (cons h0 (cons h1 (cons h2 nil))) = both _ _ h1 h2
good_made g.OneInitial (cons h0 nil) = h0
good_made g.ListComma (cons h0 (cons h1 nil)) = h1
good_made g.ListEnd (cons h0 nil) = refl
good_made g.ListClose (cons h0 nil) = refl
good_made g.ListNext (cons h0 (cons h1 nil)) = both _ _ h0 h1
good_made g.Head (cons h0 (cons h1 (cons h2 (cons h3 nil)))) = λ m r s. function_has _ _ (both _ _ h1 h2) h3
good_made g.Prototype (cons h0 nil) = refl
good_made g.Body (cons h0 (cons h1 nil)) = s_block None _ _ h1
good_made g.NoParams (cons h0 nil) = refl
good_made g.VoidParams (cons h0 (cons h1 nil)) = refl
good_made g.Params (cons h0 (cons h1 nil)) = both _ _ h0 h1
good_made g.MoreParams (cons h0 (cons h1 (cons h2 nil))) = both _ _ h1 h2
good_made g.EndParams (cons h0 nil) = refl
good_made g.Param (cons h0 (cons h1 nil)) = h1 _
good_made g.MoreMembers (cons {x = x0} h0 (cons {x = x1} h1 nil)) = decls_joined (as_decls x0) (as_decls x1) h0 h1
good_made g.NoMembers nil = refl
good_made g.Member (cons h0 (cons h1 (cons h2 nil))) = both _ _ (h1 _) (h2 _)
good_made g.Slot (cons h0 (cons h1 (cons h2 nil))) = λ base. both _ _ h2 refl
good_made g.MoreSlots (cons h0 (cons h1 (cons h2 nil))) = λ base. both _ _ (h1 _) (h2 _)
good_made g.NoSlots (cons h0 nil) = λ base. refl
good_made g.DeclaredLimits (cons h0 (cons h1 nil)) = h1
good_made g.NoLimits nil = refl
good_made g.Count (cons h0 (cons h1 (cons h2 (cons h3 nil)))) = l_count _ _ h2
good_made g.ByteCount (cons h0 (cons h1 (cons h2 (cons h3 nil)))) = l_bytes _ _ h2
good_made g.BoundsOf (cons h0 (cons h1 (cons h2 nil))) = h2 _
good_made g.Unknown (cons h0 (cons h1 nil)) = λ pos. h1 _ _
good_made g.BetweenNamed (cons h0 (cons h1 (cons h2 (cons h3 (cons h4 (cons h5 nil)))))) = λ pos. l_between _ _ pos (c_finished _ _ _ _ (h1 _) h2.0 h2.1 h2.2) h4
good_made g.Between (cons h0 (cons h1 (cons h2 (cons h3 (cons h4 nil))))) = λ pos. l_between _ _ pos (c_finished _ _ _ _ (h0) h1.0 h1.1 h1.2) h3
good_made g.UnknownEnd (cons h0 nil) = λ pos s. l_unknown pos
good_made g.UnknownName (cons h0 (cons h1 (cons h2 (cons h3 (cons h4 nil))))) = λ pos s. l_between _ _ pos (c_finished _ _ _ _ (h0 s) h1.0 h1.1 h1.2) h3
good_made g.EndBlock (cons h0 nil) = refl
good_made g.Locals (cons h0 (cons h1 nil)) = all_joined stmt_has_words _ _ (locals_have _ h0) h1
good_made g.Stmts (cons h0 (cons h1 nil)) = both _ _ h0 h1
good_made g.Local (cons h0 (cons h1 (cons h2 nil))) = both _ _ (h1 _) (h2 _)
good_made g.MoreLocals (cons h0 (cons h1 (cons h2 nil))) = λ base. both _ _ (h1 _) (h2 _)
good_made g.NoLocals (cons h0 nil) = λ base. refl
good_made g.LocalName (cons h0 (cons h1 (cons h2 (cons h3 nil)))) = λ base. both _ _ h2 h3
good_made g.LocalInitial (cons h0 (cons h1 nil)) = h1
good_made g.NoLocalInitial nil = refl
good_made g.CallocValue (cons h0 (cons h1 nil)) = h1 _
good_made g.NamedValue (cons h0 (cons h1 (cons h2 nil))) = c_finished _ _ _ _ (h1 _) h2.0 h2.1 h2.2
good_made g.Value (cons h0 (cons h1 nil)) = c_finished _ _ _ _ (h0) h1.0 h1.1 h1.2
good_made g.CallocCall (cons h0 (cons h1 (cons h2 (cons h3 (cons h4 nil))))) = λ s. c_finished _ _ _ _ (c_incremented _ _ (c_posted _ _ (c_called s _ h1) h2)) h4.0 h4.1 h4.2
good_made g.CallocLess (cons h0 (cons h1 nil)) = λ s. h1 _ _
good_made g.CallocPost (cons {x = x0} h0 (cons {x = x1} h1 (cons {x = x2} h2 (cons h3 nil)))) = λ s. c_finished _ _ _ _ (c_incremented _ (as_increment x2) (c_posted (named s) (as_post x0 ∷ as_posts x1) (c_name _ _) (h0, h1))) h3.0 h3.1 h3.2
good_made g.CallocStep (cons {x = x0} h0 (cons {x = x1} h1 (cons {x = x2} h2 nil))) = λ s. c_whole (named s) (step x0 x1 ∷ as_steps x2) (as_arms x2) (c_name _ _) (h1, h2.0) h2.1
good_made g.CallocIncrement (cons {x = x0} h0 (cons h1 nil)) = λ s. c_finished _ _ _ _ (c_incremented (named s) (Some (increment_at x0)) (c_name _ _)) h1.0 h1.1 h1.2
good_made g.CallocSetting (cons {x = x0} h0 nil) = λ s. c_finished (named s) [] None (as_setting x0) (c_name _ _) tt tt h0
good_made g.CallocName (cons h0 nil) = λ s. c_picked _ _ (c_name _ _) h0
good_made g.LessOperand (cons {x = x0} h0 (cons {x = x1} h1 nil)) = λ s pos. c_whole (named s) (record { op = op.Lt; pos = pos; operand = as_expr x0 } ∷ as_steps x1) (as_arms x1) (c_name _ _) (h0, h1.0) h1.1
good_made g.LessType (cons h0 nil) = λ s pos. h0 s
good_made g.NoArguments (cons h0 nil) = refl
good_made g.Arguments (cons h0 (cons h1 nil)) = both _ _ h0 h1
good_made g.MoreArguments (cons h0 (cons h1 (cons h2 nil))) = both _ _ h1 h2
good_made g.EndArguments (cons h0 nil) = refl
good_made g.Allocation (cons {x = x0} h0 (cons {x = x1} h1 (cons {x = x2} h2 (cons {x = x3} h3 (cons {x = x4} h4 (cons {x = x5} h5 (cons {x = x6} h6 (cons {x = x7} h7 (cons {x = x8} h8 (cons {x = x9} h9 nil)))))))))) = λ s. c_calloc (as_type x0) (as_expr x3) (as_type x7) s.pos h3
good_made g.SetTo (cons h0 (cons h1 nil)) = h1
good_made g.SetBy (cons h0 (cons h1 nil)) = h1
good_made g.LaterSetting (cons h0 nil) = h0
good_made g.NoSetting nil = tt
good_made g.SettingChange (cons h0 nil) = h0
good_made g.IncrementChange (cons h0 (cons h1 nil)) = h1
good_made g.NamedAssign (cons {x = x0} h0 (cons {x = x1} h1 (cons {x = x2} h2 (cons {x = x3} h3 nil)))) = s_changed _ (as_increment x3) (as_setting x3) (c_posted _ _ (c_called_or_named (as_token x0) (as_call x1) h1) h2) h3
good_made g.UnnamedAssign (cons h0 nil) = h0
good_made g.SignedAssign (cons h0 (cons h1 (cons {x = x2} h2 nil))) = s_changed _ None (as_setting x2) (c_un _ _ _ h1) h2
good_made g.IncrementAssign (cons {x = x0} h0 (cons h1 (cons {x = x2} h2 nil))) = s_stepped _ (increment_at x0) (as_setting x2) h1 h2
good_made g.RoundAssign (cons h0 (cons h1 nil)) = h1 _
good_made g.SizeofAssign (cons h0 (cons h1 (cons h2 (cons h3 (cons {x = x4} h4 nil))))) = s_changed _ None (as_setting x4) (c_size _ _) h4
good_made g.PostfixAssign (cons h0 (cons h1 (cons {x = x2} h2 nil))) = s_changed _ (as_increment x2) (as_setting x2) (c_posted _ _ h0 h1) h2
good_made g.ParenAssign (cons h0 (cons h1 (cons h2 (cons {x = x3} h3 nil)))) = λ pos. s_changed _ (as_increment x3) (as_setting x3) (c_posted _ _ h0 h2) h3
good_made g.CastAssign (cons h0 (cons h1 (cons h2 (cons {x = x3} h3 nil)))) = λ pos. s_changed _ None (as_setting x3) (c_cast _ _ pos h2) h3
good_made g.ModedBlock (cons h0 (cons h1 (cons h2 nil))) = s_block (Some _) _ _ h2
good_made g.Block (cons h0 (cons h1 nil)) = s_block None _ _ h1
good_made g.Empty (cons h0 nil) = s_empty _
good_made g.If (cons h0 (cons h1 (cons h2 (cons h3 (cons h4 (cons h5 nil)))))) = s_if _ _ _ _ h2 h4 h5
good_made g.While (cons h0 (cons h1 (cons h2 (cons h3 (cons h4 nil))))) = s_while _ _ _ h2 h4
good_made g.For (cons h0 (cons h1 (cons h2 (cons h3 (cons h4 (cons h5 nil)))))) = s_for _ _ _ _ _ h2 h3 h4 h5
good_made g.Return (cons h0 (cons h1 nil)) = s_return _ _ h1
good_made g.Break (cons h0 (cons h1 nil)) = s_break _
good_made g.Continue (cons h0 (cons h1 nil)) = s_continue _
good_made g.Check (cons h0 (cons h1 (cons h2 (cons h3 (cons h4 nil))))) = s_check _ _ h2
good_made g.Bundle (cons h0 (cons h1 (cons h2 (cons h3 (cons h4 (cons h5 (cons h6 nil))))))) = s_bundle _ _ (both _ _ h2 (both _ _ h4 h6))
good_made g.CallocStmt (cons h0 (cons h1 (cons h2 nil))) = h1 _
good_made g.NamedStmt (cons h0 (cons h1 (cons h2 nil))) = h1 _
good_made g.AssignStmt (cons h0 (cons h1 nil)) = h0
good_made g.CallocTypeStmt (cons h0 (cons h1 nil)) = λ s. s_call _ _ (h1 s)
good_made g.CallocNameStmt (cons h0 nil) = h0
good_made g.CallStmt (cons h0 (cons h1 (cons {x = x2} h2 nil))) = λ s. s_changed _ (as_increment x2) (as_setting x2) (c_posted _ _ (c_called s _ h1) h2.0) h2.1
good_made g.ChangeStmt (cons h0 (cons {x = x1} h1 nil)) = λ s. s_changed _ (as_increment x1) (as_setting x1) (c_posted _ _ (c_name _ _) h0) h1
good_made g.CalledStmt nil = (tt, tt)
good_made g.CalledChange (cons h0 (cons h1 nil)) = (h0, h1)
good_made g.Else (cons h0 (cons h1 nil)) = h1
good_made g.NoElse nil = refl
good_made g.NoCondition (cons h0 nil) = refl
good_made g.Condition (cons h0 (cons h1 nil)) = h0
good_made g.NoStart (cons h0 nil) = refl
good_made g.LocalStart (cons h0 (cons h1 (cons h2 nil))) = s_local _ (h1 _)
good_made g.AssignStart (cons h0 (cons h1 nil)) = h0
good_made g.NoStep (cons h0 nil) = refl
good_made g.AssignStep (cons h0 (cons h1 nil)) = h0
good_made g.EndAssigns (cons h0 nil) = refl
good_made g.Assigns (cons h0 (cons h1 (cons h2 nil))) = both _ _ h0 h2
good_made g.Expr (cons h0 (cons h1 nil)) = c_finished _ _ _ _ (h0) h1.0 h1.1 h1.2
good_made g.ExprRest (cons h0 nil) = h0
good_made g.ExprSetting (cons h0 nil) = (tt, tt, h0)
good_made g.Chain (cons h0 (cons h1 nil)) = (h0, h1, tt)
good_made g.Choice (cons h0 (cons h1 (cons h2 (cons h3 nil)))) = (h1, h3)
good_made g.NoChoice nil = tt
good_made g.Step (cons h0 (cons h1 (cons h2 nil))) = (h1, h2)
good_made g.NoTail nil = tt
good_made g.Named (cons h0 (cons h1 nil)) = h1 _
good_made g.NameRest (cons {x = x0} h0 (cons h1 (cons {x = x2} h2 nil))) = λ s. c_incremented _ (as_increment x2) (c_posted _ _ (c_called_or_named s (as_call x0) h0) h1)
good_made g.CallRest (cons h0 (cons h1 nil)) = h1
good_made g.NoCall nil = tt
good_made g.Unnamed (cons h0 nil) = h0
good_made g.Signed (cons h0 (cons h1 nil)) = c_un _ _ _ h1
good_made g.Incremented (cons {x = x0} h0 (cons h1 nil)) = c_set _ (by_one (increment_at x0)) h1 (c_one _)
good_made g.Round (cons h0 (cons h1 nil)) = h1 _
good_made g.Sizeof (cons h0 (cons h1 (cons h2 (cons h3 nil)))) = c_size _ _
good_made g.Postfix (cons h0 (cons h1 (cons {x = x2} h2 nil))) = c_incremented _ (as_increment x2) (c_posted _ _ h0 h1)
good_made g.Paren (cons h0 (cons h1 (cons h2 (cons {x = x3} h3 nil)))) = λ pos. c_incremented _ (as_increment x3) (c_posted _ _ h0 h2)
good_made g.Cast (cons h0 (cons h1 (cons h2 nil))) = λ pos. c_cast _ _ pos h2
good_made g.Posts (cons h0 (cons h1 nil)) = (h0, h1)
good_made g.NoPosts nil = tt
good_made g.Index (cons h0 (cons h1 (cons h2 nil))) = h1
good_made g.Dot (cons h0 (cons h1 nil)) = tt
good_made g.Arrow (cons h0 (cons h1 nil)) = tt
good_made g.Constant (cons h0 nil) = h0
good_made g.Tested (cons h0 (cons h1 nil)) = c_tested _ _ _ _ h1.0 h1.1
good_made g.Trusted (cons h0 (cons h1 nil)) = c_trusted _ _ _ _ h1.0 h1.1
good_made g.BoundsCast (cons h0 (cons h1 (cons h2 (cons h3 (cons h4 (cons h5 nil)))))) = (h4, h5)
good_made g.CastLimits (cons h0 (cons h1 (cons h2 nil))) = h1
good_made g.NoCastLimits (cons h0 nil) = refl
good_made g.Literal (cons h0 nil) = c_literal _ _ h0
good_made g.String (cons {x = x0} h0 nil) = c_text _ _ (decoded_bytes (name_of x0))
good_made g.Null (cons h0 nil) = c_null _
good_made g.Eof (cons h0 nil) = c_number _ _ _ refl
good_made _ _ = tt

-- ---- tokens

abbrev Holds : Sign → Type 0
Holds x = HoldsWord x.token.kind

-- each token with its kind holds a word, if it holds a number
abbrev pub SignsHoldWords : List Sign → Type 0
SignsHoldWords xs = All Holds xs

front : (xs ys : List Sign) → SignsHoldWords (xs ++ ys) → SignsHoldWords xs
front [] ys h = All-nil Holds
front (x ∷ xs) ys h = All-cons Holds x xs (All-head Holds x (xs ++ ys) h) (front xs ys (All-tail Holds x (xs ++ ys) h))

back : (xs ys : List Sign) → SignsHoldWords (xs ++ ys) → SignsHoldWords ys
back [] ys h = h
back (x ∷ xs) ys h = back xs ys (All-tail Holds x (xs ++ ys) h)

good : {ss : List Symbol} {xs : List Sign} {next : Kind} {vs : List Value} → SignsHoldWords xs → Derives ss xs next vs → AllGood ss vs
good w D.nil = nil
good w (D.read f d) = cons (All-head Holds _ _ w) (good (All-tail Holds _ _ w) d)
good w (D.by {p = p} r us ys ws l d al mk d2 e) =
    let both : SignsHoldWords (us ++ ys) = subst SignsHoldWords (sym e) w in
    cons (subst (λ z. Good p z) mk (subst (λ q. Good q (made r ws)) l (good_made r (good (front us ys both) d)))) (good (back us ys both) d2)

one_good : {s : Symbol} {x : Value} → AllGood (s ∷ []) (x ∷ []) → GoodSymbol s x
one_good (cons h nil) = h

pub tree_words : (xs : List Sign) (last : Kind) (w : Tree) → SignsHoldWords xs → Derives (n g.text ∷ []) xs last (v.tree w ∷ []) → tree_has_words w ≡ true
tree_words xs last w h d = one_good (good h d)
