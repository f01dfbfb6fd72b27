-- What tokens derive is what the productions give.
use Rattle.std.proofs.Common.{◌≡◌, ℕ, zero, suc, Bool, true, false, ◌&&◌, not, nat_le, ◌==◌, if◌then◌else◌, List, [], ◌∷◌, ◌++◌, length, map, refl, sym, ap, subst, ◌∙◌, arith}
use Rattle.std.proofs.lemmas.Bool.Decides.{nat_tests}
use Rattle.std.specs.Prelude.{Option, Some, None, IfSome}
use Rattle.std.specs.Option.{option_map}
use Rattle.std.specs.List.{list_all, AllByRecursion}
use Rattle.ckc_base.specs.declared.places.Pos.{Pos}
use Rattle.ckc_base.specs.declared.arithmetic.Mode.{Mode}
use Rattle.ckc_syntax.specs.Inside.{all_have, inside_if, inside_each}
use Rattle.ckc_syntax.specs.Spelled.{Spelled}
use Rattle.ckc_syntax.specs.declared.tokens.TokenKind.{TokenKind}
use Rattle.ckc_syntax.specs.declared.tokens.TokenKind.TheVariants as kinds
use Rattle.ckc_syntax.specs.declared.tree.Limits.{Limits-F, map-Limits, roll-Limits, fold-roll-Limits}
use Rattle.ckc_syntax.specs.declared.tree.Limits.TheVariants as bounds
use Rattle.ckc_syntax.specs.declared.tree.Node.{Node-F, map-Node, roll-Node, fold-Node, fold-roll-Node}
use Rattle.ckc_syntax.specs.declared.tree.Node.TheVariants as node
use Rattle.ckc_syntax.specs.declared.tree.Expr.{fold-roll-Expr}
use Rattle.ckc_syntax.specs.declared.tree.Act.{Act-F, map-Act, roll-Act, fold-Act, fold-roll-Act}
use Rattle.ckc_syntax.specs.declared.tree.Act.TheVariants as act
use Rattle.ckc_syntax.specs.declared.tree.Stmt.{fold-roll-Stmt}
use Rattle.ckc_syntax.specs.declared.tree.TreeOp.{TreeOp}
use Rattle.ckc_syntax.specs.declared.tree.TreeOp.TheVariants as op
use Rattle.ckc_grammar.specs.Text.{DerivesTree}
use Rattle.ckc_grammar.specs.declared.chain.Step.{Step}
use Rattle.ckc_parser_grammar.specs.declared.kind.Kind.{Kind}
use Rattle.ckc_parser_grammar.specs.declared.parts.Arms.{Arms}
use Rattle.ckc_parser_grammar.specs.declared.parts.Operation.{Operation}
use Rattle.ckc_parser_grammar.specs.declared.parts.Setting.{Setting}
use Rattle.ckc_parser_grammar.specs.declared.parts.Post.{Post}
use Rattle.ckc_parser_grammar.specs.declared.parts.Post.TheVariants as behind
use Rattle.ckc_parser_grammar.specs.code.Grammar.{Part, Symbol, t, n, Rule, left, right}
use Rattle.ckc_parser_grammar.specs.code.Grammar as g
use Rattle.ckc_parser_grammar.specs.code.Trees.{Name, Tree, Item, Head, TypeTree, Decl, Limits, Expr, Node, Stmt, Act, expr_at, stmt_at, statics, local_of, locals, function_of, one_at, assigned_by, set_by, posted, with_increment, assigned_to, assigned, set_to, set, by_one, changed, stepped, joined_at, joined_to, joined, level, picked, literal}
use Rattle.ckc_parser_grammar.specs.code.Values as v
use Rattle.ckc_parser_grammar.specs.code.Values.{Value, made, named, called, whole, step, as_token, as_items, as_items_of_name, as_items_of_base, as_items_of_declarator, as_item_of_head, as_decl, as_decls, as_decl_of_base, as_decls_of_base, as_decl_of_name, as_init, as_limits, as_declared_limits, as_limits_at, as_limits_of_unknown, as_expr, as_exprs, as_value, as_expr_behind, as_expr_of_name, as_expr_of_less, as_arms, as_steps, as_post, as_posts, as_stmt, as_part, as_stmts, as_stmt_of_name, operand_of, limits_of, as_type, name_of, called_or_named, finished, ended, increment_at, as_call, as_increment, as_setting, as_stmt_behind}
use Rattle.ckc_parser_grammar.specs.code.Derives.{Sign, Derives}
use Rattle.ckc_parser_grammar.specs.code.Derives as D
use Rattle.ckc_parser_grammar.proofs.Same.{same_tree}
use Rattle.ckc_typed_welltyped.specs.Productions.{Form, no_call, limits_formed, is_set, node_formed, expr_formed, limits_form, expr_form, placed_bounds, placed_value, placed_init, placed_start, placed_decl, placed_local, Given, is_branch, begins, steps, placed_act, given_in, placed_stmt, placed_head, placed_item, with_calls, spoken_tree}

-- ---- what the values of a part keep

-- within an expression, and so on a right side
abbrev C : Expr → Type 0
C e = ((expr_form e).inner ≡ true) × ((expr_form e).right ≡ true)

abbrev R : Expr → Type 0
R e = (expr_form e).right ≡ true

-- an allocation
abbrev K : Expr → Type 0
K e = ((expr_form e).call ≡ true) × ((expr_form e).right ≡ true)

abbrev is_inner : Expr → Bool
is_inner e = (expr_form e).inner

abbrev said : Stmt → Given
said = placed_stmt with_calls

abbrev is_nested : Given → Bool
is_nested s = s.nested

abbrev S : Stmt → Type 0
S s = ((said s).fine ≡ true) × ((said s).nested ≡ true)

abbrev B : Stmt → Type 0
B s = ((said s).fine ≡ true) × (is_branch (said s) ≡ true)

abbrev IsAssign : Stmt → Type 0
IsAssign s = said s ≡ record { fine = true; nested = true; assigns = true; declares = false; jumps = false }

abbrev spoken_bounds : Option Limits → Bool
spoken_bounds = placed_bounds with_calls

abbrev spoken_value : Option Expr → Bool
spoken_value = placed_value with_calls

abbrev spoken_decl : Decl → Bool
spoken_decl = placed_decl with_calls

abbrev spoken_local : Decl → Bool
spoken_local = placed_local with_calls

abbrev spoken_item : Item → Bool
spoken_item = placed_item with_calls

abbrev FirstOk : Option Stmt → Type 0
FirstOk o = (begins (option_map said o) ≡ true) × (inside_if all_have is_nested (option_map said o) ≡ true)

abbrev StepOk : Option Stmt → Type 0
StepOk o = (steps (option_map said o) ≡ true) × (inside_if all_have is_branch (option_map said o) ≡ true)

abbrev LE : List Expr → Type 0
LE es = list_all is_inner es ≡ true

abbrev LI : List Item → Type 0
LI is = list_all spoken_item is ≡ true

abbrev LD : List Decl → Type 0
LD ds = list_all spoken_decl ds ≡ true

abbrev LL : List Decl → Type 0
LL ds = list_all spoken_local ds ≡ true

abbrev LS : List Stmt → Type 0
LS ss = (list_all (λ s. (said s).fine) ss ≡ true) × (list_all (λ s. is_nested (said s)) ss ≡ true)

abbrev LA : List Stmt → Type 0
LA ss = AllByRecursion IsAssign ss

abbrev SA : List Step → Type 0
SA ss = AllByRecursion (λ s. C s.operand) ss

abbrev AA : Option Arms → Type 0
AA o = IfSome o (λ a. C a.yes × C a.no)

abbrev ValueOk : Option TreeOp → Expr → Type 0
ValueOk None e = R e
ValueOk (Some o) e = C e

abbrev SettingOk : Setting → Type 0
SettingOk s = ValueOk s.op s.value

abbrev MaySet : Option Setting → Type 0
MaySet o = IfSome o SettingOk

abbrev IsSet : Option Setting → Type 0
IsSet None = ⊥
IsSet (Some s) = SettingOk s

-- what makes an assignment of an operand
abbrev ChangeOk : Option Operation → Option Setting → Type 0
ChangeOk i (Some s) = SettingOk s
ChangeOk (Some o) None = Unit {0}
ChangeOk None None = ⊥

-- and what may stand behind a call, which may be a statement alone
abbrev CalledOk : List Post → Option Operation → Option Setting → Type 0
CalledOk [] None None = Unit {0}
CalledOk ps i s = ChangeOk i s

abbrev PostOk : Post → Type 0
PostOk (behind.Index e pos) = C e
PostOk (behind.Dot name at pos) = Unit {0}
PostOk (behind.Arrow name at pos) = Unit {0}

abbrev PA : List Post → Type 0
PA ps = AllByRecursion PostOk ps

abbrev TreeOk : Value → Type 0
TreeOk (v.tree w) = spoken_tree w ≡ true
TreeOk _ = Unit {0}

abbrev Good : Part → Value → Type 0
Good g.text x = TreeOk x
Good g.items x = LI (as_items x)
Good g.structure x = (s : Spelled) → LI (as_items_of_name x s)
Good g.declaration x = LI (as_items x)
Good g.declared x = LI (as_items x)
Good g.declarators x = (base : TypeTree) → LI (as_items_of_base x base)
Good g.declarator x = (base : TypeTree) (w : TypeTree) (s : Spelled) → LI (as_items_of_declarator x base w s)
Good g.objects x = (base : TypeTree) → LD (as_decls_of_base x base)
Good g.object x = (base : TypeTree) → spoken_decl (as_decl_of_base x base) ≡ true
Good g.object_rest x = (w : TypeTree) (s : Spelled) → spoken_decl (as_decl_of_name x w s) ≡ true
Good g.initial x = placed_init with_calls (as_init x) ≡ true
Good g.initializer x = placed_init with_calls (as_init x) ≡ true
Good g.list_rest x = LE (as_exprs x)
Good g.list_more x = LE (as_exprs x)
Good g.head x = (m : Option Mode) (r : TypeTree) (s : Spelled) → spoken_item (as_item_of_head x m r s) ≡ true
Good g.body x = IfSome (as_part x) S
Good g.params x = LD (as_decls x)
Good g.more_params x = LD (as_decls x)
Good g.param x = spoken_decl (as_decl x) ≡ true
Good g.members x = LD (as_decls x)
Good g.member x = LD (as_decls x) × (nat_le 1 (length (as_decls x)) ≡ true)
Good g.slot x = (base : TypeTree) → spoken_decl (as_decl_of_base x base) ≡ true
Good g.slots x = (base : TypeTree) → LD (as_decls_of_base x base)
Good g.declared_limits x = spoken_bounds (as_declared_limits x) ≡ true
Good g.limits x = limits_form (as_limits x) ≡ true
Good g.bounds_rest x = (pos : Pos) → limits_form (as_limits_at x pos) ≡ true
Good g.unknown_rest x = (pos : Pos) (s : Spelled) → limits_form (as_limits_of_unknown x pos s) ≡ true
Good g.block_items x = LS (as_stmts x)
Good g.locals x = LL (as_decls x)
Good g.more_locals x = (base : TypeTree) → LL (as_decls_of_base x base)
Good g.local x = (base : TypeTree) → spoken_local (as_decl_of_base x base) ≡ true
Good g.local_initial x = placed_start with_calls (as_init x) ≡ true
Good g.value x = R (as_expr x)
Good g.calloc_value x = (s : Spelled) → R (as_expr_of_name x s)
Good g.less x = (s : Spelled) (pos : Pos) → R (as_expr_of_less x s pos)
Good g.arguments x = LE (as_exprs x)
Good g.more_arguments x = LE (as_exprs x)
Good g.allocation x = (s : Spelled) → K (as_expr_of_name x s)
Good g.setting x = IsSet (as_setting x)
Good g.later_setting x = MaySet (as_setting x)
Good g.change x = ChangeOk (as_increment x) (as_setting x)
Good g.assign x = IsAssign (as_stmt x)
Good g.unnamed x = IsAssign (as_stmt x)
Good g.round_assign x = (pos : Pos) → IsAssign (as_stmt_behind x pos)
Good g.called_stmt x = PA (as_posts x) × CalledOk (as_posts x) (as_increment x) (as_setting x)
Good g.stmt x = B (as_stmt x)
Good g.calloc_stmt x = (s : Spelled) → B (as_stmt_of_name x s)
Good g.named_stmt x = (s : Spelled) → B (as_stmt_of_name x s)
Good g.otherwise x = IfSome (as_part x) B
Good g.condition x = spoken_value (as_value x) ≡ true
Good g.for_start x = FirstOk (as_part x)
Good g.for_step x = StepOk (as_part x)
Good g.assigns x = LA (as_stmts x)
Good g.expr x = C (as_expr x)
Good g.expr_rest x = SA (as_steps x) × AA (as_arms x) × MaySet (as_setting x)
Good g.chain x = SA (as_steps x) × AA (as_arms x) × MaySet (as_setting x)
Good g.name_rest x = (s : Spelled) → C (as_expr_of_name x s)
Good g.call_rest x = IfSome (as_call x) LE
Good g.choice x = AA (as_arms x)
Good g.tail x = SA (as_steps x)
Good g.unary x = C (as_expr x)
Good g.first x = C (as_expr x)
Good g.round x = (pos : Pos) → C (as_expr_behind x pos)
Good g.posts x = PA (as_posts x)
Good g.post x = PostOk (as_post x)
Good g.primary x = C (as_expr x)
Good g.bounds_cast x = C (operand_of x) × (spoken_bounds (limits_of x) ≡ true)
Good g.cast_limits x = spoken_bounds (as_declared_limits x) ≡ true
Good g.constant x = C (as_expr x)
Good _ x = Unit {0}

abbrev GoodSymbol : Symbol → Value → Type 0
GoodSymbol (t c) x = Unit {0}
GoodSymbol (n p) x = Good p x

data AllGood : List Symbol → List Value → Type 0 where
  nil : AllGood [] []
  cons : {s : Symbol} {ss : List Symbol} {x : Value} {xs : List Value} → GoodSymbol s x → AllGood ss xs → AllGood (s ∷ ss) (x ∷ xs)

both : (a b : Bool) → a ≡ true → b ≡ true → (a && b) ≡ true
both a b e f = ap (λ c. c && b) e ∙ f

first_of : (a b : Bool) → (a && b) ≡ true → a ≡ true
first_of true b e = refl
first_of false b e = e

second_of : (a b : Bool) → (a && b) ≡ true → b ≡ true
second_of true b e = e
second_of false b e = absurd cc

either : (b p q : Bool) → p ≡ true → q ≡ true → (if b then p else q) ≡ true
either true p q e f = e
either false p q e f = f

one_more : (m : ℕ) → nat_le 1 (suc m) ≡ true
one_more m = grind (arith, nat_tests)

two_more : (m : ℕ) → nat_le 2 (suc (suc m)) ≡ true
two_more m = grind (arith, nat_tests)

all_joined : {X : Type 0} (p : X → Bool) (xs ys : List X) → list_all p xs ≡ true → list_all p ys ≡ true → list_all p (xs ++ ys) ≡ true
all_joined p [] ys e f = f
all_joined p (x ∷ xs) ys e f = both _ _ (first_of (p x) _ e) (all_joined p xs ys (second_of (p x) _ e) f)

each_all : {X : Type 0} (p : X → Bool) (xs : List X) → list_all p xs ≡ true → inside_each all_have p xs ≡ true
each_all p [] e = refl
each_all p (x ∷ xs) e = both _ _ (first_of (p x) _ e) (each_all p xs (second_of (p x) _ e))

each_is : {X Y : Type 0} (f : X → Y) (p : Y → Bool) (xs : List X) → list_all (λ x. p (f x)) xs ≡ true → inside_each all_have p (map f xs) ≡ true
each_is f p [] e = refl
each_is f p (x ∷ xs) e = both _ _ (first_of (p (f x)) _ e) (each_is f p xs (second_of (p (f x)) _ e))

-- ---- expressions

abbrev form_of : Node → Form
form_of = fold-Node Name (Unit {0}) Bool Form Form limits_formed node_formed expr_formed

formed : (d : Node-F Name (Unit {0}) Limits Node Expr) (x : Node) (pos : Pos) → roll-Node Name (Unit {0}) d ≡ x
    → expr_form (expr_at x pos) ≡ node_formed (map-Node Name (Unit {0}) Limits Node Expr Bool Form Form limits_form form_of expr_form d)
formed d x pos is =
    fold-roll-Expr Name (Unit {0}) Bool Form Form limits_formed node_formed expr_formed (record { node = x; pos = pos; note = tt })
    ∙ ap form_of (sym is) ∙ fold-roll-Node Name (Unit {0}) Bool Form Form limits_formed node_formed expr_formed d

within : (e : Expr) (b : Bool) → expr_form e ≡ no_call b → b ≡ true → C e
within e b is h = (ap (λ (f : Form). f.inner) is ∙ h, ap (λ (f : Form). f.right) is ∙ h)

c_number : (m : ℕ) (u : Bool) (pos : Pos) → C (expr_at (node.Number m u) pos)
c_number m u pos = within _ _ (formed (Node-F.Number m u) _ pos (node.rolls-Number m u)) refl

c_null : (pos : Pos) → C (expr_at node.Null pos)
c_null pos = within _ _ (formed (Node-F.Null) _ pos (node.rolls-Null)) refl

c_text : (s : List ℕ) (pos : Pos) → C (expr_at (node.Text s) pos)
c_text s pos = within _ _ (formed (Node-F.Text s) _ pos (node.rolls-Text s)) refl

c_name : (s : Name) (pos : Pos) → C (expr_at (node.Name s) pos)
c_name s pos = within _ _ (formed (Node-F.Name s) _ pos (node.rolls-Name s)) refl

c_un : (o : TreeOp) (e : Expr) (pos : Pos) → C e → C (expr_at (node.Un o e) pos)
c_un o e pos h = within _ _ (formed (Node-F.Un o e) _ pos (node.rolls-Un o e)) h.0

c_bin : (o : TreeOp) (e f : Expr) (pos : Pos) → C e → C f → C (expr_at (node.Bin o e f) pos)
c_bin o e f pos h k = within _ _ (formed (Node-F.Bin o e f) _ pos (node.rolls-Bin o e f)) (both _ _ h.0 (either (is_set o) _ _ k.1 k.0))

c_assign : (e f : Expr) (pos : Pos) → C e → R f → C (expr_at (node.Bin op.Set e f) pos)
c_assign e f pos h k = within _ _ (formed (Node-F.Bin op.Set e f) _ pos (node.rolls-Bin op.Set e f)) (both _ _ h.0 k)

c_pick : (e f i : Expr) (pos : Pos) → C e → C f → C i → C (expr_at (node.Pick e f i) pos)
c_pick e f i pos h k l = within _ _ (formed (Node-F.Pick e f i) _ pos (node.rolls-Pick e f i)) (both _ _ (both _ _ h.0 k.0) l.0)

c_index : (e f : Expr) (pos : Pos) → C e → C f → C (expr_at (node.Index e f) pos)
c_index e f pos h k = within _ _ (formed (Node-F.Index e f) _ pos (node.rolls-Index e f)) (both _ _ h.0 k.0)

c_dot : (e : Expr) (s : Name) (at pos : Pos) → C e → C (expr_at (node.Dot e s at) pos)
c_dot e s at pos h = within _ _ (formed (Node-F.Dot e s at) _ pos (node.rolls-Dot e s at)) h.0

c_arrow : (e : Expr) (s : Name) (at pos : Pos) → C e → C (expr_at (node.Arrow e s at) pos)
c_arrow e s at pos h = within _ _ (formed (Node-F.Arrow e s at) _ pos (node.rolls-Arrow e s at)) h.0

c_cast : (w : TypeTree) (e : Expr) (pos : Pos) → C e → C (expr_at (node.Cast w e) pos)
c_cast w e pos h = within _ _ (formed (Node-F.Cast w e) _ pos (node.rolls-Cast w e)) h.0

c_size : (w : TypeTree) (pos : Pos) → C (expr_at (node.Size w) pos)
c_size w pos = within _ _ (formed (Node-F.Size w) _ pos (node.rolls-Size w)) refl

c_tested : (w : TypeTree) (e : Expr) (l : Option Limits) (pos : Pos) → C e → spoken_bounds l ≡ true → C (expr_at (node.Tested w e l) pos)
c_tested w e None pos h k = within _ _ (formed (Node-F.Tested w e None) _ pos (node.rolls-Tested w e None)) (both _ _ h.0 refl)
c_tested w e (Some l) pos h k = within _ _ (formed (Node-F.Tested w e (Some l)) _ pos (node.rolls-Tested w e (Some l))) (both _ _ h.0 k)

c_trusted : (w : TypeTree) (e : Expr) (l : Option Limits) (pos : Pos) → C e → spoken_bounds l ≡ true → C (expr_at (node.Trusted w e l) pos)
c_trusted w e None pos h k = within _ _ (formed (Node-F.Trusted w e None) _ pos (node.rolls-Trusted w e None)) (both _ _ h.0 refl)
c_trusted w e (Some l) pos h k = within _ _ (formed (Node-F.Trusted w e (Some l)) _ pos (node.rolls-Trusted w e (Some l))) (both _ _ h.0 k)

abbrev called_form : Bool → Form
called_form b = record { inner = b; right = b; call = b }

called_is : (s : Spelled) (es : List Expr) → LE es → expr_form (called s es) ≡ called_form true
called_is s es h = formed (Node-F.Call s.text es) _ s.pos (node.rolls-Call s.text es) ∙ ap called_form (each_is expr_form (λ (f : Form). f.inner) es h)

c_called : (s : Spelled) (es : List Expr) → LE es → C (called s es)
c_called s es h = (ap (λ (f : Form). f.inner) (called_is s es h), ap (λ (f : Form). f.right) (called_is s es h))

k_called : (s : Spelled) (es : List Expr) → LE es → K (called s es)
k_called s es h = (ap (λ (f : Form). f.call) (called_is s es h), ap (λ (f : Form). f.right) (called_is s es h))

k_calloc : (w : TypeTree) (e : Expr) (u : TypeTree) (pos : Pos) → C e → K (expr_at (node.Calloc w e u) pos)
k_calloc w e u pos h =
    let is : expr_form (expr_at (node.Calloc w e u) pos) ≡ record { inner = false; right = (expr_form e).inner; call = (expr_form e).inner } =
    formed (Node-F.Calloc w e u) _ pos (node.rolls-Calloc w e u) in
    (ap (λ (f : Form). f.call) is ∙ h.0, ap (λ (f : Form). f.right) is ∙ h.0)

c_literal : (k : TokenKind) (pos : Pos) → C (expr_at (literal k) pos)
c_literal (kinds.Number m u) pos = c_number m u pos
c_literal (kinds.Character b) pos = c_number b false pos
c_literal kinds.Name pos = c_null pos
c_literal kinds.Keyword pos = c_null pos
c_literal kinds.Text pos = c_null pos
c_literal kinds.Mark pos = c_null pos
c_literal (kinds.Directive d) pos = c_null pos

c_posted : (e : Expr) (ps : List Post) → C e → PA ps → C (posted e ps)
c_posted e [] h p = h
c_posted e (behind.Index i pos ∷ ps) h p = c_posted (expr_at (node.Index e i) pos) ps (c_index e i pos h p.0) p.1
c_posted e (behind.Dot s at pos ∷ ps) h p = c_posted (expr_at (node.Dot e s at) pos) ps (c_dot e s at pos h) p.1
c_posted e (behind.Arrow s at pos ∷ ps) h p = c_posted (expr_at (node.Arrow e s at) pos) ps (c_arrow e s at pos h) p.1

abbrev pub chosen : Bool → Expr × List Step → Expr → Step → Expr × List Step → Expr × List Step
chosen true one e s two = one
chosen false one e s two = (e, record { op = s.op; pos = s.pos; operand = two.0 } ∷ two.1)

chosen_ok : (b : Bool) (one : Expr × List Step) (e : Expr) (s : Step) (two : Expr × List Step) → C one.0 × SA one.1 → C e → C two.0 × SA two.1 → C (chosen b one e s two).0 × SA (chosen b one e s two).1
chosen_ok true one e s two p h q = p
chosen_ok false one e s two p h q = (h, (q.0, q.1))

c_joined_at : (l : ℕ) (e : Expr) (ss : List Step) → C e → SA ss → C (joined_at l e ss).0 × SA (joined_at l e ss).1
c_joined_at l e [] h p = (h, tt)
c_joined_at l e (s ∷ ss) h p =
    let one = joined_at l (expr_at (node.Bin s.op e s.operand) s.pos) ss in let two = joined_at l s.operand ss in
    subst (λ z. C z.0 × SA z.1) (same (level s.op == l) one two)
    (chosen_ok (level s.op == l) one e s two (c_joined_at l (expr_at (node.Bin s.op e s.operand) s.pos) ss (c_bin s.op e s.operand s.pos h p.0) p.1) h (c_joined_at l s.operand ss p.0 p.1))
  where
    same : (b : Bool) (one two : Expr × List Step) → chosen b one e s two ≡ (if b then one else (e, record { op = s.op; pos = s.pos; operand = two.0 } ∷ two.1))
    same true one two = refl
    same false one two = refl

c_joined_to : (l : ℕ) (e : Expr) (ss : List Step) → C e → SA ss → C (joined_to l (e, ss)).0
unfolding joined_to
c_joined_to zero e ss h p = h
c_joined_to (suc l) e ss h p = let r = c_joined_at (suc l) e ss h p in c_joined_to l (joined_at (suc l) e ss).0 (joined_at (suc l) e ss).1 r.0 r.1

c_joined : (e : Expr) (ss : List Step) → C e → SA ss → C (joined e ss)
unfolding joined
c_joined e ss h p = c_joined_to 10 e ss h p

c_picked : (e : Expr) (a : Option Arms) → C e → AA a → C (picked e a)
c_picked e None h p = h
c_picked e (Some a) h p = c_pick e a.yes a.no a.pos h p.0 p.1

c_whole : (e : Expr) (ss : List Step) (a : Option Arms) → C e → SA ss → AA a → C (whole e ss a)
c_whole e ss a h p q = c_picked (joined e ss) a (c_joined e ss h p) q

c_one : (pos : Pos) → C (one_at pos)
c_one pos = c_number 1 false pos

c_set_to : (x : Expr) (o : Option TreeOp) (pos : Pos) (e : Expr) → C x → ValueOk o e → C (set_to x o pos e)
c_set_to x None pos e h k = c_assign x e pos h k
c_set_to x (Some o) pos e h k = c_assign x (expr_at (node.Bin o x e) pos) pos h (c_bin o x e pos h k).1

c_set : (x : Expr) (s : Setting) → C x → SettingOk s → C (set x s)
c_set x s h k = c_set_to x s.op s.pos s.value h k

c_incremented : (x : Expr) (i : Option Operation) → C x → C (with_increment x i)
c_incremented x None h = h
c_incremented x (Some o) h = c_un _ x o.pos h

c_finished : (e : Expr) (ss : List Step) (a : Option Arms) (s : Option Setting) → C e → SA ss → AA a → MaySet s → C (finished e ss a s)
c_finished e ss a None h p q r = c_whole e ss a h p q
c_finished e ss a (Some s) h p q r = c_set e s h r

c_called_or_named : (s : Spelled) (o : Option (List Expr)) → IfSome o LE → C (called_or_named s o)
c_called_or_named s None h = c_name s.text s.pos
c_called_or_named s (Some es) h = c_called s es h

may_set : (o : Option Setting) → IsSet o → MaySet o
may_set None h = tt
may_set (Some s) h = h

is_change : (o : Option Setting) → IsSet o → ChangeOk None o
is_change None h = h
is_change (Some s) h = h

incremented : (i : Operation) (o : Option Setting) → MaySet o → ChangeOk (Some i) o
incremented i None h = tt
incremented i (Some s) h = h

is_called : (ps : List Post) (i : Option Operation) (s : Option Setting) → ChangeOk i s → CalledOk ps i s
is_called [] None None h = tt
is_called [] (Some o) None h = h
is_called [] None (Some s) h = h
is_called [] (Some o) (Some s) h = h
is_called (p ∷ ps) i s h = h

-- ---- bounds

l_limits : (d : Limits-F Name (Unit {0}) Limits Node Expr) (l : Limits) → roll-Limits Name (Unit {0}) d ≡ l
    → limits_formed (map-Limits Name (Unit {0}) Limits Node Expr Bool Form Form limits_form form_of expr_form d) ≡ true → limits_form l ≡ true
l_limits d l is h = ap limits_form (sym is) ∙ fold-roll-Limits Name (Unit {0}) Bool Form Form limits_formed node_formed expr_formed d ∙ h

l_count : (e : Expr) (pos : Pos) → C e → limits_form (bounds.Count e pos) ≡ true
l_count e pos h = l_limits (Limits-F.Count e pos) _ (bounds.rolls-Count e pos) h.0

l_bytes : (e : Expr) (pos : Pos) → C e → limits_form (bounds.ByteCount e pos) ≡ true
l_bytes e pos h = l_limits (Limits-F.ByteCount e pos) _ (bounds.rolls-ByteCount e pos) h.0

l_between : (e f : Expr) (pos : Pos) → C e → C f → limits_form (bounds.Between e f pos) ≡ true
l_between e f pos h k = l_limits (Limits-F.Between e f pos) _ (bounds.rolls-Between e f pos) (both _ _ h.0 k.0)

l_unknown : (pos : Pos) → limits_form {N = Name} {A = Unit {0}} (bounds.Unknown pos) ≡ true
l_unknown pos = l_limits (Limits-F.Unknown pos) _ (bounds.rolls-Unknown pos) refl

-- ---- statements

abbrev said_of : Act → Given
said_of = fold-Act Name (Unit {0}) Given Given (placed_act with_calls) given_in

done : (d : Act-F Name (Unit {0}) Act Stmt) (a : Act) (pos : Pos) → roll-Act Name (Unit {0}) d ≡ a
    → said (stmt_at a pos) ≡ placed_act with_calls (map-Act Name (Unit {0}) Act Stmt Given Given said_of said d)
done d a pos is =
    fold-roll-Stmt Name (Unit {0}) Given Given (placed_act with_calls) given_in (record { body = a; pos = pos; note = tt })
    ∙ ap said_of (sym is) ∙ fold-roll-Act Name (Unit {0}) Given Given (placed_act with_calls) given_in d

branch : (s : Stmt) (x : Given) → said s ≡ x → x.fine ≡ true → is_branch x ≡ true → B s
branch s x is h k = (ap (λ (y : Given). y.fine) is ∙ h, ap is_branch is ∙ k)

assign_branch : (s : Stmt) → IsAssign s → B s
assign_branch s h = (ap (λ (y : Given). y.fine) h, ap is_branch h)

whole_stmt : (s : Stmt) → B s → S s
whole_stmt s h = (h.0, first_of _ _ h.1)

s_assign : (e f : Expr) (pos : Pos) → C e → R f → IsAssign (stmt_at (act.Assign e f) pos)
s_assign e f pos h k =
    done (Act-F.Assign e f) _ pos (act.rolls-Assign e f)
    ∙ ap (λ b. record { fine = b; nested = true; assigns = true; declares = false; jumps = false }) (both (expr_form e).inner (expr_form f).right h.0 k)

s_empty : (pos : Pos) → B (stmt_at act.Empty pos)
s_empty pos = branch _ _ (done Act-F.Empty _ pos act.rolls-Empty) refl refl

s_break : (pos : Pos) → B (stmt_at act.Break pos)
s_break pos = branch _ _ (done Act-F.Break _ pos act.rolls-Break) refl refl

s_continue : (pos : Pos) → B (stmt_at act.Continue pos)
s_continue pos = branch _ _ (done Act-F.Continue _ pos act.rolls-Continue) refl refl

s_call : (e : Expr) (pos : Pos) → K e → B (stmt_at (act.Call e) pos)
s_call e pos h = branch _ _ (done (Act-F.Call e) _ pos (act.rolls-Call e)) h.0 refl

s_check : (e : Expr) (pos : Pos) → C e → B (stmt_at (act.Check e) pos)
s_check e pos h = branch _ _ (done (Act-F.Check e) _ pos (act.rolls-Check e)) h.0 refl

s_return : (e : Option Expr) (pos : Pos) → spoken_value e ≡ true → B (stmt_at (act.Return e) pos)
s_return e pos h = branch _ _ (done (Act-F.Return e) _ pos (act.rolls-Return e)) h refl

s_while : (e : Expr) (s : Stmt) (pos : Pos) → C e → B s → B (stmt_at (act.While e s) pos)
s_while e s pos h k = branch _ _ (done (Act-F.While e s) _ pos (act.rolls-While e s)) (both _ _ h.0 k.0) (both _ _ k.1 refl)

s_block : (m : Option Mode) (ss : List Stmt) (pos : Pos) → LS ss → B (stmt_at (act.Block m ss) pos)
s_block m ss pos h =
    branch _ _ (done (Act-F.Block m ss) _ pos (act.rolls-Block m ss)) (each_is said (λ (x : Given). x.fine) ss h.0) (both _ _ (each_is said is_nested ss h.1) refl)

s_if : (e : Expr) (s : Stmt) (o : Option Stmt) (pos : Pos) → C e → B s → IfSome o B → B (stmt_at (act.If e s o) pos)
s_if e s None pos h k l =
    branch _ _ (done (Act-F.If e s None) _ pos (act.rolls-If e s None)) (both _ _ (both _ _ h.0 k.0) refl) (both _ _ (both _ _ k.1 refl) refl)
s_if e s (Some u) pos h k l =
    branch _ _ (done (Act-F.If e s (Some u)) _ pos (act.rolls-If e s (Some u))) (both _ _ (both _ _ h.0 k.0) l.0) (both _ _ (both _ _ k.1 l.1) refl)

s_for : (a : Option Stmt) (c : Option Expr) (b : Option Stmt) (s : Stmt) (pos : Pos) → FirstOk a → spoken_value c ≡ true → StepOk b → B s
    → B (stmt_at (act.For a c b s) pos)
s_for None c None s pos i j k l =
    branch _ _ (done (Act-F.For None c None s) _ pos (act.rolls-For None c None s)) (both _ _ i.0 (both _ _ j (both _ _ k.0 l.0))) (both _ _ (both _ _ i.1 (both _ _ k.1 l.1)) refl)
s_for None c (Some b) s pos i j k l =
    branch _ _ (done (Act-F.For None c (Some b) s) _ pos (act.rolls-For None c (Some b) s)) (both _ _ i.0 (both _ _ j (both _ _ k.0 l.0))) (both _ _ (both _ _ i.1 (both _ _ k.1 l.1)) refl)
s_for (Some a) c None s pos i j k l =
    branch _ _ (done (Act-F.For (Some a) c None s) _ pos (act.rolls-For (Some a) c None s)) (both _ _ i.0 (both _ _ j (both _ _ k.0 l.0))) (both _ _ (both _ _ i.1 (both _ _ k.1 l.1)) refl)
s_for (Some a) c (Some b) s pos i j k l =
    branch _ _ (done (Act-F.For (Some a) c (Some b) s) _ pos (act.rolls-For (Some a) c (Some b) s)) (both _ _ i.0 (both _ _ j (both _ _ k.0 l.0))) (both _ _ (both _ _ i.1 (both _ _ k.1 l.1)) refl)

assigns_in : (ss : List Stmt) → LA ss → list_all (λ (s : Given). s.fine && s.assigns) (map said ss) ≡ true
assigns_in [] h = refl
assigns_in (s ∷ ss) h = both _ _ (ap (λ (y : Given). y.fine && y.assigns) h.0) (assigns_in ss h.1)

branches_in : (ss : List Stmt) → LA ss → inside_each all_have is_branch (map said ss) ≡ true
branches_in [] h = refl
branches_in (s ∷ ss) h = both _ _ (ap is_branch h.0) (branches_in ss h.1)

s_bundle : (a b : Stmt) (ss : List Stmt) (pos : Pos) → IsAssign a → IsAssign b → LA ss → B (stmt_at (act.Bundle (a ∷ b ∷ ss)) pos)
s_bundle a b ss pos h k l =
    branch _ _ (done (Act-F.Bundle (a ∷ b ∷ ss)) _ pos (act.rolls-Bundle (a ∷ b ∷ ss)))
    (both _ _ (two_more (length (map said ss))) (assigns_in (a ∷ b ∷ ss) (h, (k, l)))) (both _ _ (branches_in (a ∷ b ∷ ss) (h, (k, l))) refl)

local_is : (d : Decl) → said (local_of d) ≡ record { fine = spoken_local d; nested = true; assigns = false; declares = true; jumps = false }
local_is d = done (Act-F.Local d) _ d.pos (act.rolls-Local d)

locals_given : (ds : List Decl) → LL ds → LS (locals ds)
locals_given [] h = (refl, refl)
locals_given (d ∷ ds) h =
    let rest = locals_given ds (second_of (spoken_local d) _ h) in
    (both _ _ (ap (λ (y : Given). y.fine) (local_is d) ∙ first_of (spoken_local d) _ h) rest.0, both _ _ (ap is_nested (local_is d)) rest.1)

stmts_joined : (ss us : List Stmt) → LS ss → LS us → LS (ss ++ us)
stmts_joined ss us h k = (all_joined (λ s. (said s).fine) ss us h.0 k.0, all_joined (λ s. is_nested (said s)) ss us h.1 k.1)

one_stmt : (s : Stmt) (ss : List Stmt) → B s → LS ss → LS (s ∷ ss)
one_stmt s ss h k = (both _ _ h.0 k.0, both _ _ (whole_stmt s h).1 k.1)

start_local : (d : Decl) → spoken_local d ≡ true → FirstOk (Some (local_of d))
start_local d h = (ap (λ x. begins (Some x)) (local_is d) ∙ both _ _ h refl, ap is_nested (local_is d))

start_assign : (s : Stmt) → IsAssign s → FirstOk (Some s)
start_assign s h = (ap (λ x. begins (Some x)) h, ap is_nested h)

step_assign : (s : Stmt) → IsAssign s → StepOk (Some s)
step_assign s h = (ap (λ x. steps (Some x)) h, ap is_branch h)

s_assigned_to : (x : Expr) (o : Option TreeOp) (pos : Pos) (e : Expr) → C x → ValueOk o e → IsAssign (assigned_to x o pos e)
s_assigned_to x None pos e h k = s_assign x e pos h k
s_assigned_to x (Some o) pos e h k = s_assign x (expr_at (node.Bin o x e) pos) pos h (c_bin o x e pos h k).1

s_assigned : (x : Expr) (s : Setting) → C x → SettingOk s → IsAssign (assigned x s)
s_assigned x s h k = s_assigned_to x s.op s.pos s.value h k

s_changed : (x : Expr) (i : Option Operation) (s : Option Setting) → C x → ChangeOk i s → IsAssign (changed x i s)
s_changed x None None h k = absurd k
s_changed x (Some o) None h k = s_assigned x (by_one o) h (c_one o.pos)
s_changed x None (Some s) h k = s_assigned x s h k
s_changed x (Some o) (Some s) h k = s_assigned (with_increment x (Some o)) s (c_incremented x (Some o) h) k

s_stepped : (x : Expr) (o : Operation) (s : Option Setting) → C x → MaySet s → IsAssign (stepped x o s)
s_stepped x o None h k = s_assigned x (by_one o) h (c_one o.pos)
s_stepped x o (Some s) h k = s_assigned (set x (by_one o)) s (c_set x (by_one o) h (c_one o.pos)) k

s_called : (x : Spelled) (es : List Expr) (ps : List Post) (i : Option Operation) (s : Option Setting) → LE es → PA ps → CalledOk ps i s
    → B (changed (posted (called x es) ps) i s)
s_called x es [] None None h p k = s_call (called x es) _ (k_called x es h)
s_called x es [] (Some o) None h p k = assign_branch _ (s_changed (called x es) (Some o) None (c_called x es h) tt)
s_called x es [] None (Some s) h p k = assign_branch _ (s_changed (called x es) None (Some s) (c_called x es h) k)
s_called x es [] (Some o) (Some s) h p k = assign_branch _ (s_changed (called x es) (Some o) (Some s) (c_called x es h) k)
s_called x es (q ∷ ps) i s h p k = assign_branch _ (s_changed _ i s (c_posted (called x es) (q ∷ ps) (c_called x es h) p) k)

-- ---- items

statics_given : (ds : List Decl) → LD ds → LI (statics ds)
statics_given [] h = refl
statics_given (d ∷ ds) h = both _ _ (first_of (spoken_decl d) _ h) (statics_given ds (second_of (spoken_decl d) _ h))

function_given : (h : Head) (s : Option Stmt) → placed_head with_calls h ≡ true → IfSome s S → spoken_item (function_of h s) ≡ true
function_given h None e p = e
function_given h (Some s) e p = both _ _ e (both _ _ p.0 p.1)

at_least : {X : Type 0} (xs ys : List X) → nat_le 1 (length xs) ≡ true → nat_le 1 (length (xs ++ ys)) ≡ true
at_least [] ys h = absurd cc
at_least (x ∷ xs) ys h = one_more (length (xs ++ ys))

items_joined : (xs ys : List Item) → LI xs → LI ys → LI (xs ++ ys)
items_joined xs ys = all_joined spoken_item xs ys

decls_joined : (xs ys : List Decl) → LD xs → LD ys → LD (xs ++ ys)
decls_joined xs ys = all_joined spoken_decl xs ys

-- a production makes a value that keeps what its part asks
good_made : (r : Rule) {ws : List Value} → AllGood (right r) ws → Good (left r) (made r ws)
good_made g.Text (cons h0 nil) = h0
good_made g.Directive (cons h0 (cons h1 nil)) = h1
good_made g.Structure (cons {x = x0} h0 (cons {x = x1} h1 (cons {x = x2} h2 (cons {x = x3} h3 nil)))) = items_joined (as_items_of_name x2 (as_token x1)) (as_items x3) (h2 (as_token x1)) h3
good_made g.Static (cons {x = x0} h0 (cons {x = x1} h1 (cons {x = x2} h2 nil))) = items_joined (as_items x1) (as_items x2) h1 h2
good_made g.Declaration (cons {x = x0} h0 (cons {x = x1} h1 nil)) = items_joined (as_items x0) (as_items x1) h0 h1
good_made g.NoItems nil = refl
good_made g.Tag (cons h0 nil) = λ s. refl
good_made g.Members (cons {x = x0} h0 (cons {x = x1} h1 (cons {x = x2} h2 (cons {x = x3} h3 (cons {x = x4} h4 nil))))) = λ s. both _ _ (both _ _ (at_least (as_decls x1) (as_decls x2) h1.1) (decls_joined (as_decls x1) (as_decls x2) h1.0 h2)) refl
good_made g.Structured (cons h0 nil) = λ s. h0 _
good_made g.StaticStruct (cons h0 (cons h1 (cons h2 nil))) = h2 _
good_made g.StaticOther (cons h0 nil) = h0
good_made g.Moded (cons h0 (cons h1 (cons h2 (cons h3 nil)))) = both _ _ (h3 _ _ _) refl
good_made g.Voided (cons h0 (cons h1 (cons h2 nil))) = both _ _ (h2 _ _ _) refl
good_made g.Based (cons h0 (cons h1 nil)) = h1 _
good_made g.Declarators (cons h0 (cons h1 (cons h2 nil))) = λ base. h2 _ _ _
good_made g.Headed (cons h0 nil) = λ base w s. both _ _ (h0 _ _ _) refl
good_made g.Objects (cons {x = x0} h0 (cons {x = x1} h1 nil)) = λ base w s. statics_given (as_decl_of_name x0 w s ∷ as_decls_of_base x1 base) (both _ _ (h0 w s) (h1 base))
good_made g.MoreObjects (cons h0 (cons h1 (cons h2 nil))) = λ base. both _ _ (h1 _) (h2 _)
good_made g.NoObjects (cons h0 nil) = λ base. refl
good_made g.Object (cons h0 (cons h1 (cons h2 nil))) = λ base. h2 _ _
good_made g.ObjectRest (cons h0 (cons h1 (cons h2 nil))) = λ w s. both _ _ h1 h2
good_made g.Initial (cons h0 (cons h1 nil)) = h1
good_made g.NoInitial nil = refl
good_made g.ListInitial (cons h0 (cons h1 (cons {x = x2} h2 nil))) = both _ _ h1.0 (each_all is_inner (as_exprs x2) h2)
good_made g.OneInitial (cons h0 nil) = h0.0
good_made g.ListComma (cons h0 (cons h1 nil)) = h1
good_made g.ListEnd (cons h0 nil) = refl
good_made g.ListClose (cons h0 nil) = refl
good_made g.ListNext (cons h0 (cons h1 nil)) = both _ _ h0.0 h1
good_made g.Head (cons h0 (cons h1 (cons h2 (cons h3 nil)))) = λ m r s. function_given _ _ (both _ _ h1 h2) h3
good_made g.Prototype (cons h0 nil) = tt
good_made g.Body (cons h0 (cons h1 nil)) = whole_stmt _ (s_block None _ _ h1)
good_made g.NoParams (cons h0 nil) = refl
good_made g.VoidParams (cons h0 (cons h1 nil)) = refl
good_made g.Params (cons h0 (cons h1 nil)) = both _ _ h0 h1
good_made g.MoreParams (cons h0 (cons h1 (cons h2 nil))) = both _ _ h1 h2
good_made g.EndParams (cons h0 nil) = refl
good_made g.Param (cons h0 (cons h1 nil)) = h1 _
good_made g.MoreMembers (cons {x = x0} h0 (cons {x = x1} h1 nil)) = decls_joined (as_decls x0) (as_decls x1) h0.0 h1
good_made g.NoMembers nil = refl
good_made g.Member (cons h0 (cons h1 (cons h2 nil))) = (both _ _ (h1 _) (h2 _), one_more _)
good_made g.Slot (cons h0 (cons h1 (cons h2 nil))) = λ base. both _ _ h2 refl
good_made g.MoreSlots (cons h0 (cons h1 (cons h2 nil))) = λ base. both _ _ (h1 _) (h2 _)
good_made g.NoSlots (cons h0 nil) = λ base. refl
good_made g.DeclaredLimits (cons h0 (cons h1 nil)) = h1
good_made g.NoLimits nil = refl
good_made g.Count (cons h0 (cons h1 (cons h2 (cons h3 nil)))) = l_count _ _ h2
good_made g.ByteCount (cons h0 (cons h1 (cons h2 (cons h3 nil)))) = l_bytes _ _ h2
good_made g.BoundsOf (cons h0 (cons h1 (cons h2 nil))) = h2 _
good_made g.Unknown (cons h0 (cons h1 nil)) = λ pos. h1 _ _
good_made g.BetweenNamed (cons h0 (cons h1 (cons h2 (cons h3 (cons h4 (cons h5 nil)))))) = λ pos. l_between _ _ pos (c_finished _ _ _ _ (h1 _) h2.0 h2.1 h2.2) h4
good_made g.Between (cons h0 (cons h1 (cons h2 (cons h3 (cons h4 nil))))) = λ pos. l_between _ _ pos (c_finished _ _ _ _ (h0) h1.0 h1.1 h1.2) h3
good_made g.UnknownEnd (cons h0 nil) = λ pos s. l_unknown pos
good_made g.UnknownName (cons h0 (cons h1 (cons h2 (cons h3 (cons h4 nil))))) = λ pos s. l_between _ _ pos (c_finished _ _ _ _ (h0 s) h1.0 h1.1 h1.2) h3
good_made g.EndBlock (cons h0 nil) = (refl, refl)
good_made g.Locals (cons h0 (cons h1 nil)) = stmts_joined _ _ (locals_given _ h0) h1
good_made g.Stmts (cons h0 (cons h1 nil)) = one_stmt _ _ h0 h1
good_made g.Local (cons h0 (cons h1 (cons h2 nil))) = both _ _ (h1 _) (h2 _)
good_made g.MoreLocals (cons h0 (cons h1 (cons h2 nil))) = λ base. both _ _ (h1 _) (h2 _)
good_made g.NoLocals (cons h0 nil) = λ base. refl
good_made g.LocalName (cons h0 (cons h1 (cons h2 (cons h3 nil)))) = λ base. both _ _ h2 h3
good_made g.LocalInitial (cons h0 (cons h1 nil)) = h1
good_made g.NoLocalInitial nil = refl
good_made g.CallocValue (cons h0 (cons h1 nil)) = h1 _
good_made g.NamedValue (cons h0 (cons h1 (cons h2 nil))) = (c_finished _ _ _ _ (h1 _) h2.0 h2.1 h2.2).1
good_made g.Value (cons h0 (cons h1 nil)) = (c_finished _ _ _ _ h0 h1.0 h1.1 h1.2).1
good_made g.CallocCall (cons h0 (cons h1 (cons h2 (cons {x = x3} h3 (cons h4 nil))))) = λ s. (c_finished _ _ _ _ (c_incremented _ (as_increment x3) (c_posted _ _ (c_called s _ h1) h2)) h4.0 h4.1 h4.2).1
good_made g.CallocLess (cons h0 (cons h1 nil)) = λ s. h1 _ _
good_made g.CallocPost (cons {x = x0} h0 (cons {x = x1} h1 (cons {x = x2} h2 (cons h3 nil)))) = λ s. (c_finished _ _ _ _ (c_incremented _ (as_increment x2) (c_posted (named s) (as_post x0 ∷ as_posts x1) (c_name _ _) (h0, h1))) h3.0 h3.1 h3.2).1
good_made g.CallocStep (cons {x = x0} h0 (cons {x = x1} h1 (cons {x = x2} h2 nil))) = λ s. (c_whole (named s) (step x0 x1 ∷ as_steps x2) (as_arms x2) (c_name _ _) (h1, h2.0) h2.1).1
good_made g.CallocIncrement (cons {x = x0} h0 (cons h1 nil)) = λ s. (c_finished _ _ _ _ (c_incremented (named s) (Some (increment_at x0)) (c_name _ _)) h1.0 h1.1 h1.2).1
good_made g.CallocSetting (cons {x = x0} h0 nil) = λ s. (c_finished (named s) [] None (as_setting x0) (c_name _ _) tt tt (may_set (as_setting x0) h0)).1
good_made g.CallocName (cons h0 nil) = λ s. (c_picked _ _ (c_name _ _) h0).1
good_made g.LessOperand (cons {x = x0} h0 (cons {x = x1} h1 nil)) = λ s pos. (c_whole (named s) (record { op = op.Lt; pos = pos; operand = as_expr x0 } ∷ as_steps x1) (as_arms x1) (c_name _ _) (h0, h1.0) h1.1).1
good_made g.LessType (cons h0 nil) = λ s pos. (h0 s).1
good_made g.NoArguments (cons h0 nil) = refl
good_made g.Arguments (cons h0 (cons h1 nil)) = both _ _ h0.0 h1
good_made g.MoreArguments (cons h0 (cons h1 (cons h2 nil))) = both _ _ h1.0 h2
good_made g.EndArguments (cons h0 nil) = refl
good_made g.Allocation (cons {x = x0} h0 (cons {x = x1} h1 (cons {x = x2} h2 (cons {x = x3} h3 (cons {x = x4} h4 (cons {x = x5} h5 (cons {x = x6} h6 (cons {x = x7} h7 (cons {x = x8} h8 (cons {x = x9} h9 nil)))))))))) = λ s. k_calloc (as_type x0) (as_expr x3) (as_type x7) s.pos h3
good_made g.SetTo (cons h0 (cons h1 nil)) = h1
good_made g.SetBy (cons h0 (cons h1 nil)) = h1
good_made g.LaterSetting (cons {x = x0} h0 nil) = may_set (as_setting x0) h0
good_made g.NoSetting nil = tt
good_made g.SettingChange (cons {x = x0} h0 nil) = is_change (as_setting x0) h0
good_made g.IncrementChange (cons {x = x0} h0 (cons {x = x1} h1 nil)) = incremented (increment_at x0) (as_setting x1) h1
good_made g.NamedAssign (cons {x = x0} h0 (cons {x = x1} h1 (cons {x = x2} h2 (cons {x = x3} h3 nil)))) = s_changed _ (as_increment x3) (as_setting x3) (c_posted _ _ (c_called_or_named (as_token x0) (as_call x1) h1) h2) h3
good_made g.UnnamedAssign (cons h0 nil) = h0
good_made g.SignedAssign (cons h0 (cons h1 (cons {x = x2} h2 nil))) = s_changed _ None (as_setting x2) (c_un _ _ _ h1) (is_change (as_setting x2) h2)
good_made g.IncrementAssign (cons {x = x0} h0 (cons h1 (cons {x = x2} h2 nil))) = s_stepped _ (increment_at x0) (as_setting x2) h1 h2
good_made g.RoundAssign (cons h0 (cons h1 nil)) = h1 _
good_made g.SizeofAssign (cons h0 (cons h1 (cons h2 (cons h3 (cons {x = x4} h4 nil))))) = s_changed _ None (as_setting x4) (c_size _ _) (is_change (as_setting x4) h4)
good_made g.PostfixAssign (cons h0 (cons h1 (cons {x = x2} h2 nil))) = s_changed _ (as_increment x2) (as_setting x2) (c_posted _ _ h0 h1) h2
good_made g.ParenAssign (cons h0 (cons h1 (cons h2 (cons {x = x3} h3 nil)))) = λ pos. s_changed _ (as_increment x3) (as_setting x3) (c_posted _ _ h0 h2) h3
good_made g.CastAssign (cons h0 (cons h1 (cons h2 (cons {x = x3} h3 nil)))) = λ pos. s_changed _ None (as_setting x3) (c_cast _ _ pos h2) (is_change (as_setting x3) h3)
good_made g.ModedBlock (cons h0 (cons h1 (cons h2 nil))) = s_block (Some _) _ _ h2
good_made g.Block (cons h0 (cons h1 nil)) = s_block None _ _ h1
good_made g.Empty (cons h0 nil) = s_empty _
good_made g.If (cons h0 (cons h1 (cons h2 (cons h3 (cons h4 (cons h5 nil)))))) = s_if _ _ _ _ h2 h4 h5
good_made g.While (cons h0 (cons h1 (cons h2 (cons h3 (cons h4 nil))))) = s_while _ _ _ h2 h4
good_made g.For (cons h0 (cons h1 (cons h2 (cons h3 (cons h4 (cons h5 nil)))))) = s_for _ _ _ _ _ h2 h3 h4 h5
good_made g.Return (cons h0 (cons h1 nil)) = s_return _ _ h1
good_made g.Break (cons h0 (cons h1 nil)) = s_break _
good_made g.Continue (cons h0 (cons h1 nil)) = s_continue _
good_made g.Check (cons h0 (cons h1 (cons h2 (cons h3 (cons h4 nil))))) = s_check _ _ h2
good_made g.Bundle (cons h0 (cons h1 (cons h2 (cons h3 (cons h4 (cons h5 (cons h6 nil))))))) = s_bundle _ _ _ _ h2 h4 h6
good_made g.CallocStmt (cons h0 (cons h1 (cons h2 nil))) = h1 _
good_made g.NamedStmt (cons h0 (cons h1 (cons h2 nil))) = h1 _
good_made g.AssignStmt (cons h0 (cons h1 nil)) = assign_branch _ h0
good_made g.CallocTypeStmt (cons h0 (cons h1 nil)) = λ s. s_call _ _ (h1 s)
good_made g.CallocNameStmt (cons h0 nil) = h0
good_made g.CallStmt (cons h0 (cons h1 (cons {x = x2} h2 nil))) = λ s. s_called s _ (as_posts x2) (as_increment x2) (as_setting x2) h1 h2.0 h2.1
good_made g.ChangeStmt (cons h0 (cons {x = x1} h1 nil)) = λ s. assign_branch _ (s_changed _ (as_increment x1) (as_setting x1) (c_posted _ _ (c_name _ _) h0) h1)
good_made g.CalledStmt nil = (tt, tt)
good_made g.CalledChange (cons {x = x0} h0 (cons {x = x1} h1 nil)) = (h0, is_called (as_posts x0) (as_increment x1) (as_setting x1) h1)
good_made g.Else (cons h0 (cons h1 nil)) = h1
good_made g.NoElse nil = tt
good_made g.NoCondition (cons h0 nil) = refl
good_made g.Condition (cons h0 (cons h1 nil)) = h0.0
good_made g.NoStart (cons h0 nil) = (refl, refl)
good_made g.LocalStart (cons h0 (cons h1 (cons h2 nil))) = start_local _ (h1 _)
good_made g.AssignStart (cons h0 (cons h1 nil)) = start_assign _ h0
good_made g.NoStep (cons h0 nil) = (refl, refl)
good_made g.AssignStep (cons h0 (cons h1 nil)) = step_assign _ h0
good_made g.EndAssigns (cons h0 nil) = tt
good_made g.Assigns (cons h0 (cons h1 (cons h2 nil))) = (h0, h2)
good_made g.Expr (cons h0 (cons h1 nil)) = c_finished _ _ _ _ (h0) h1.0 h1.1 h1.2
good_made g.ExprRest (cons h0 nil) = h0
good_made g.ExprSetting (cons {x = x0} h0 nil) = (tt, tt, may_set (as_setting x0) h0)
good_made g.Chain (cons h0 (cons h1 nil)) = (h0, h1, tt)
good_made g.Choice (cons h0 (cons h1 (cons h2 (cons h3 nil)))) = (h1, h3)
good_made g.NoChoice nil = tt
good_made g.Step (cons h0 (cons h1 (cons h2 nil))) = (h1, h2)
good_made g.NoTail nil = tt
good_made g.Named (cons h0 (cons h1 nil)) = h1 _
good_made g.NameRest (cons {x = x0} h0 (cons h1 (cons {x = x2} h2 nil))) = λ s. c_incremented _ (as_increment x2) (c_posted _ _ (c_called_or_named s (as_call x0) h0) h1)
good_made g.CallRest (cons h0 (cons h1 nil)) = h1
good_made g.NoCall nil = tt
good_made g.Unnamed (cons h0 nil) = h0
good_made g.Signed (cons h0 (cons h1 nil)) = c_un _ _ _ h1
good_made g.Incremented (cons {x = x0} h0 (cons h1 nil)) = c_set _ (by_one (increment_at x0)) h1 (c_one _)
good_made g.Round (cons h0 (cons h1 nil)) = h1 _
good_made g.Sizeof (cons h0 (cons h1 (cons h2 (cons h3 nil)))) = c_size _ _
good_made g.Postfix (cons h0 (cons h1 (cons {x = x2} h2 nil))) = c_incremented _ (as_increment x2) (c_posted _ _ h0 h1)
good_made g.Paren (cons h0 (cons h1 (cons h2 (cons {x = x3} h3 nil)))) = λ pos. c_incremented _ (as_increment x3) (c_posted _ _ h0 h2)
good_made g.Cast (cons h0 (cons h1 (cons h2 nil))) = λ pos. c_cast _ _ pos h2
good_made g.Posts (cons h0 (cons h1 nil)) = (h0, h1)
good_made g.NoPosts nil = tt
good_made g.Index (cons h0 (cons h1 (cons h2 nil))) = h1
good_made g.Dot (cons h0 (cons h1 nil)) = tt
good_made g.Arrow (cons h0 (cons h1 nil)) = tt
good_made g.Constant (cons h0 nil) = h0
good_made g.Tested (cons h0 (cons h1 nil)) = c_tested _ _ _ _ h1.0 h1.1
good_made g.Trusted (cons h0 (cons h1 nil)) = c_trusted _ _ _ _ h1.0 h1.1
good_made g.BoundsCast (cons h0 (cons h1 (cons h2 (cons h3 (cons h4 (cons h5 nil)))))) = (h4, h5)
good_made g.CastLimits (cons h0 (cons h1 (cons h2 nil))) = h1
good_made g.NoCastLimits (cons h0 nil) = refl
good_made g.Literal (cons h0 nil) = c_literal _ _
good_made g.String (cons {x = x0} h0 nil) = c_text _ _
good_made g.Null (cons h0 nil) = c_null _
good_made g.Eof (cons h0 nil) = c_number _ _ _
good_made _ _ = tt

good : {ss : List Symbol} {xs : List Sign} {next : Kind} {vs : List Value} → Derives ss xs next vs → AllGood ss vs
good D.nil = nil
good (D.read f d) = cons tt (good d)
good (D.by {p = p} r us ys ws l d al mk d2 e) = cons (subst (λ z. Good p z) mk (subst (λ q. Good q (made r ws)) l (good_made r (good d)))) (good d2)

one_good : {s : Symbol} {x : Value} → AllGood (s ∷ []) (x ∷ []) → GoodSymbol s x
one_good (cons h nil) = h

tree_good : (xs : List Sign) (last : Kind) (w : Tree) → Derives (n g.text ∷ []) xs last (v.tree w ∷ []) → spoken_tree w ≡ true
tree_good xs last w d = one_good (good d)

pub tree_given : (xs : List Spelled) (w : Tree) → DerivesTree xs w → spoken_tree w ≡ true
tree_given xs w d = tree_good _ _ w ((same_tree xs w).0 d)
