-- What the words of each part of the table are in the grammar, and how its derivations are put together.
use Rattle.std.proofs.Common.{◌≡◌, List, [], ◌∷◌, ◌++◌, Bool, true, false, ◌+◌, ◌⊎◌, inl, inr, refl, sym, ap, subst, ◌∙◌, append_assoc, append-nil, if◌then◌else◌}
use Rattle.std.specs.Prelude.{Option, None, Some, codes}
use Rattle.ckc_base.specs.declared.places.Pos.{Pos}
use Rattle.ckc_base.specs.declared.arithmetic.Mode.{Mode}
use Rattle.ckc_syntax.specs.Spelled.{Spelled}
use Rattle.ckc_syntax.specs.declared.tree.Length.{Length}
use Rattle.ckc_syntax.specs.declared.tree.Act.TheVariants as act
use Rattle.ckc_syntax.specs.declared.tree.Init.TheVariants as inits
use Rattle.ckc_syntax.specs.declared.tree.TypeTree.TheVariants as ctype
use Rattle.ckc_syntax.specs.declared.tree.TreeOp.{TreeOp}
use Rattle.ckc_syntax.specs.declared.tree.TreeOp.TheVariants as op
use Rattle.ckc_syntax.specs.declared.tree.Node.TheVariants as node
use Rattle.ckc_parser_grammar.specs.declared.kind.Kind.{Kind}
use Rattle.ckc_parser_grammar.specs.declared.kind.Kind.TheVariants as k
use Rattle.ckc_parser_grammar.specs.declared.parts.Arms.{Arms}
use Rattle.ckc_parser_grammar.specs.declared.parts.Operation.{Operation}
use Rattle.ckc_parser_grammar.specs.declared.parts.Setting.{Setting}
use Rattle.ckc_parser_grammar.specs.declared.parts.Post.{Post}
use Rattle.ckc_parser_grammar.specs.code.Kinds.{kind_of_token, is_sign, is_increment, is_compound, is_operator, is_literal, sign_op, increment_op, compound_op, binary_op}
use Rattle.ckc_parser_grammar.specs.code.Grammar.{Rule, Fits, is_name, is_greater}
use Rattle.ckc_parser_grammar.specs.code.Grammar as g
use Rattle.ckc_parser_grammar.specs.code.Signs.{glued}
use Rattle.ckc_parser_grammar.specs.code.Derives.{before}
use Rattle.ckc_parser_grammar.specs.code.Trees as T
use Rattle.ckc_parser_grammar.specs.code.Values as v
use Rattle.ckc_parser_grammar.specs.code.Values.{Value, made, called, whole, as_items, as_items_of_name, as_items_of_base, as_items_of_declarator, as_item_of_head, as_decl, as_decls, as_decl_of_base, as_decls_of_base, as_decl_of_name, as_length, as_size, as_init, as_mode, as_type, as_stars, as_limits, as_declared_limits, as_limits_at, as_limits_of_unknown, as_expr, as_exprs, as_value, as_expr_behind, as_expr_of_name, as_expr_of_less, as_arms, as_next, as_call, as_increment, as_setting, as_stmt_behind, as_steps, as_post, as_posts, as_stmt, as_part, as_stmts, as_stmt_of_name, as_op, type_of, operand_of, limits_of, place}
use Rattle.ckc_grammar.specs.Trees as L
use Rattle.ckc_grammar.specs.Trees.{Item, Head, TypeTree, Decl, Init, Limits, Expr, Stmt, starred, expr_at}
use Rattle.ckc_grammar.specs.declared.chain.Step.{Step}
use Rattle.ckc_grammar.specs.Makers.{flat, given, applied, mode_of, length_of, init_of, initial_of, head_of}
use Rattle.ckc_grammar.specs.Productions as l
use Rattle.ckc_grammar.specs.Productions.{Symbol, n, Makes, key, sign, sign_at, name, keyword, mark, word, any_name, opt, many, commas, after, range}
use Rattle.ckc_grammar.specs.Derivation.{Word, fits, before_else, words}
use Rattle.ckc_parser_grammar.proofs.Tokens.{sign_of, reads, read_as, name_read, greater_read}
use Rattle.ckc_parser_grammar.proofs.Pieces.{comma, is_else, Seq, Has, Is, end, done, tok, sole, part_at, part, last_at, last, only, by, cut, moved, named, nothing, something, no_more, one_more, one_more_at, after_token, comma_list, comma_list_at, Closed, closed, with_last, with_more}

pub join_none : (e : Expr) → L.joined e [] ≡ e
unfolding L.joined L.joined_to
join_none e = refl

-- a token of a kind
pub rd : (c : Kind) (w : Word) → (sign_of w).kind ≡ c → reads c w ≡ true
rd c w h = read_as c w h

pub nm : (w : Word) → is_name (sign_of w).kind ≡ true → fits any_name w ≡ true
nm w h = name_read w h

pub gr : (w : Word) → is_greater (sign_of w).kind ≡ true → fits (mark (codes ">")) w ≡ true
gr w h = greater_read w h

-- what stands after the condition of `? :`
abbrev pub ArmsTail : List Word → Option Arms → Type 0
ArmsTail ws None = ws ≡ []
ArmsTail ws (Some a) = (e : Bool) (f : Makes (sign_at "?" ∷ n l.expr ∷ sign ":" ∷ n l.expr ∷ []) Expr) →
    Seq (sign_at "?" ∷ n l.expr ∷ sign ":" ∷ n l.expr ∷ []) ws e Expr f (f a.pos a.yes a.no)

-- what stands after an expression: operators with their operands, and arms
abbrev pub ExprTail : List Word → List Step → Option Arms → Type 0
ExprTail ws ss c = (xs : List Word) × (ys : List Word) × (xs ++ ys ≡ ws) × Is (many l.step) xs ss × ArmsTail ys c

-- what stands after a target
pub data SetTail (ws : List Word) (s : Setting) : Type 0 where
  set_to : (a : Word) {us : List Word} {y : Expr} → fits (mark (codes "=")) a ≡ true → Is l.right us y → a ∷ us ≡ ws → record { op = None; pos = a.token.pos; value = y } ≡ s → SetTail ws s
  set_by : {us vs : List Word} {o : TreeOp × Pos} {y : Expr} → Is l.op us o → Is l.expr vs y → us ++ vs ≡ ws → record { op = Some o.0; pos = o.1; value = y } ≡ s → SetTail ws s

abbrev pub LaterTail : List Word → Option Setting → Type 0
LaterTail ws None = ws ≡ []
LaterTail ws (Some s) = SetTail ws s

-- a `++` or `--` behind an operand, or none
abbrev pub pair_of : Option Operation → Option (TreeOp × Pos)
pair_of None = None
pair_of (Some o) = Some (o.op, o.pos)

-- a bounds cast after its keyword
abbrev pub CastTail : List Symbol
CastTail = sign "<" ∷ n l.type_name ∷ sign ">" ∷ sign "(" ∷ n l.expr ∷ n (opt (after comma l.limits)) ∷ sign ")" ∷ []

-- what goes on with a list in braces after its first expression
pub data ListTail (ws : List Word) (es : List Expr) : Type 0 where
  plain : {us : List Word} (w : Word) → Is (many (after comma l.expr)) us es → fits (mark (codes "}")) w ≡ true → us ++ (w ∷ []) ≡ ws → ListTail ws es
  with_comma : {us : List Word} (c w : Word) → Is (many (after comma l.expr)) us es → fits comma c ≡ true → fits (mark (codes "}")) w ≡ true → us ++ (c ∷ w ∷ []) ≡ ws → ListTail ws es

-- the head of a function up to its name, which any parameters and bounds make a head
abbrev pub Heading : List Word → Option Mode → TypeTree → Spelled → Type 0
Heading front m r x = (ws : List Word) (ps : List Decl) (b : Option Limits) →
    ((e : Bool) (f : List Decl → Option Limits → Head) → Seq (sign "(" ∷ n l.params ∷ sign ")" ∷ n range ∷ []) ws e Head f (f ps b)) → Is l.head (front ++ ws) (head_of m r x ps b)

-- an item after what may be `static`
abbrev pub Item_at : List Word → List Item → Type 0
Item_at ws is = (st : List Word) (o : Option (Unit {0})) → Is (opt l.static) st o → Is l.item (st ++ ws) is

-- what stands after `else`, or that none stands
abbrev pub ElseTail : List Word → Bool → Option Stmt → Type 0
ElseTail ws e None = (ws ≡ []) × (e ≡ false)
ElseTail ws e (Some s) = (f : Stmt → Stmt) → Seq (key "else" ∷ n l.stmt ∷ []) ws e Stmt f (f s)

-- the items of a text, the lines of a block with its end, and what goes on with an operand
abbrev pub ItemsMean : List Word → List Item → Type 0
ItemsMean ws is = (iss : List (List Item)) × Is (many l.item) ws iss × (flat iss ≡ is)

abbrev pub LinesMean : List Word → List Stmt → Type 0
LinesMean ws ss = (ls : List (List Stmt)) × Closed (many l.line) (mark (codes "}")) ws ls × (flat ls ≡ ss)

abbrev pub PostMean : List Word → Post → Type 0
PostMean ws p = (f : Expr → Expr) × Is l.post ws f × ((y : Expr) (ps : List Post) → T.posted (f y) ps ≡ T.posted y (p ∷ ps))

abbrev pub PostsMean : List Word → List Post → Type 0
PostsMean ws ps = (fs : List (Expr → Expr)) × Is (many l.post) ws fs × ((y : Expr) → applied y fs ≡ T.posted y ps)

-- what the words of each part of the table are in the grammar; a part that stands after something makes a part with it
abbrev pub Means : g.Part → List Word → Bool → Value → Type 0
Means g.text ws e x = (whole : T.Tree) × Is l.text ws whole × (v.tree whole ≡ x)
Means g.items ws e x = ItemsMean ws (as_items x)
Means g.structure ws e x = (a s : Word) → fits (keyword (codes "struct")) a ≡ true → fits any_name s ≡ true → Is l.item (a ∷ s ∷ ws) (as_items_of_name x s.token)
Means g.declaration ws e x = (a : Word) → fits (keyword (codes "static")) a ≡ true → Is l.item (a ∷ ws) (as_items x)
Means g.declared ws e x = Item_at ws (as_items x)
Means g.declarators ws e x = (bs : List Word) (b : TypeTree) → Is l.base bs b → Item_at (bs ++ ws) (as_items_of_base x b)
Means g.declarator ws e x = (bs pls : List Word) (b : TypeTree) (ps : List Pos) (a : Word) → Is l.base bs b → Is (many l.star) pls ps → fits any_name a ≡ true → Item_at (bs ++ (pls ++ (a ∷ ws))) (as_items_of_declarator x b (starred b ps) a.token)
Means g.objects ws e x = (ds : List (TypeTree → Decl)) × Closed (many (after comma l.object)) (mark (codes ";")) ws ds × ((b : TypeTree) → given b ds ≡ as_decls_of_base x b)
Means g.object ws e x = Is l.object ws (as_decl_of_base x)
Means g.object_rest ws e x = (pls : List Word) (ps : List Pos) (a : Word) → Is (many l.star) pls ps → fits any_name a ≡ true → Is l.object (pls ++ (a ∷ ws)) (λ b. as_decl_of_name x (starred b ps) a.token)
Means g.array ws e x = (o : Option Length) × Is (opt l.array) ws o × (length_of o ≡ as_length x)
Means g.size ws e x = Is (opt l.size) ws (as_size x)
Means g.initial ws e x = (o : Option Init) × Is (opt (after (mark (codes "=")) l.initial)) ws o × (initial_of o ≡ as_init x)
Means g.initializer ws e x = Is l.initial ws (as_init x)
Means g.list_rest ws e x = ListTail ws (as_exprs x)
Means g.list_more ws e x = (w : Word) → fits comma w ≡ true → ListTail (w ∷ ws) (as_exprs x)
Means g.head ws e x = (front : List Word) (m : Option Mode) (r : TypeTree) (s : Spelled) → Heading front m r s → Item_at (front ++ ws) (as_item_of_head x m r s ∷ [])
Means g.body ws e x = (hs : List Word) (h : Head) → Is l.head hs h → Item_at (hs ++ ws) (T.function_of h (as_part x) ∷ [])
Means g.params ws e x = Closed l.params (mark (codes ")")) ws (as_decls x)
Means g.more_params ws e x = Closed (many (after comma l.param)) (mark (codes ")")) ws (as_decls x)
Means g.param ws e x = Is l.param ws (as_decl x)
Means g.mode ws e x = Is l.mode ws (as_mode x, place x)
Means g.result_type ws e x = ((a : Word) × (ws ≡ a ∷ []) × (fits (keyword (codes "void")) a ≡ true) × (as_type x ≡ ctype.Void)) ⊎ Is l.type_name ws (as_type x)
Means g.members ws e x = (ms : List (List Decl)) × Is (many l.member) ws ms × (flat ms ≡ as_decls x)
Means g.member ws e x = Is l.member ws (as_decls x)
Means g.slot ws e x = Is l.slot ws (as_decl_of_base x)
Means g.slots ws e x = (ds : List (TypeTree → Decl)) × Closed (many (after comma l.slot)) (mark (codes ";")) ws ds × ((b : TypeTree) → given b ds ≡ as_decls_of_base x b)
Means g.declared_limits ws e x = Is range ws (as_declared_limits x)
Means g.base ws e x = Is l.base ws (as_type x)
Means g.scalar ws e x = Is l.base ws (as_type x)
Means g.unsigned_rest ws e x = (a : Word) → fits (keyword (codes "unsigned")) a ≡ true → Is l.base (a ∷ ws) ctype.Unsigned
Means g.type_name ws e x = Is l.type_name ws (as_type x)
Means g.stars ws e x = Is (many l.star) ws (as_stars x)
Means g.limits ws e x = Is l.limits ws (as_limits x)
Means g.bounds_rest ws e x = (b a : Word) → fits (word (codes "bounds")) b ≡ true → fits (mark (codes "(")) a ≡ true → Is l.limits (b ∷ a ∷ ws) (as_limits_at x b.token.pos)
Means g.unknown_rest ws e x = (b a u : Word) → fits (word (codes "bounds")) b ≡ true → fits (mark (codes "(")) a ≡ true → fits (word (codes "unknown")) u ≡ true → Is l.limits (b ∷ a ∷ u ∷ ws) (as_limits_of_unknown x b.token.pos u.token)
Means g.block_items ws e x = LinesMean ws (as_stmts x)
Means g.locals ws e x = Closed l.local (mark (codes ";")) ws (L.locals (as_decls x))
Means g.more_locals ws e x = (ds : List (TypeTree → Decl)) × Closed (many (after comma l.local_name)) (mark (codes ";")) ws ds × ((b : TypeTree) → given b ds ≡ as_decls_of_base x b)
Means g.local ws e x = Is l.local_name ws (as_decl_of_base x)
Means g.local_initial ws e x = (o : Option Expr) × Is (opt (after (mark (codes "=")) l.right)) ws o × (init_of o ≡ as_init x)
Means g.value ws e x = Is l.right ws (as_expr x)
Means g.calloc_value ws e x = (a : Word) → fits any_name a ≡ true → fits (word (codes "calloc")) a ≡ true → Is l.right (a ∷ ws) (as_expr_of_name x a.token)
Means g.less ws e x = (a b : Word) → fits any_name a ≡ true → fits (word (codes "calloc")) a ≡ true → fits (mark (codes "<")) b ≡ true → Is l.right (a ∷ b ∷ ws) (as_expr_of_less x a.token b.token.pos)
Means g.arguments ws e x = (a b : Word) → fits any_name a ≡ true → fits (mark (codes "(")) b ≡ true → Is l.call (a ∷ b ∷ ws) (called a.token (as_exprs x)) × Is l.primary (a ∷ b ∷ ws) (called a.token (as_exprs x))
Means g.more_arguments ws e x = Closed (many (after comma l.expr)) (mark (codes ")")) ws (as_exprs x)
Means g.allocation ws e x = (a b : Word) → fits (word (codes "calloc")) a ≡ true → fits (mark (codes "<")) b ≡ true → Is l.calloc (a ∷ b ∷ ws) (as_expr_of_name x a.token) × ((as_expr_of_name x a.token).pos ≡ a.token.pos)
Means g.setting ws e x = (s : Setting) × SetTail ws s × (as_setting x ≡ Some s)
Means g.later_setting ws e x = LaterTail ws (as_setting x)
Means g.change ws e x = (us : List Word) (y : Expr) → Is l.postfix us y → Is l.assign (us ++ ws) (T.changed y (as_increment x) (as_setting x))
Means g.assign ws e x = Is l.assign ws (as_stmt x)
Means g.unnamed ws e x = Is l.assign ws (as_stmt x)
Means g.round_assign ws e x = (a : Word) → fits (mark (codes "(")) a ≡ true → Is l.assign (a ∷ ws) (as_stmt_behind x a.token.pos)
Means g.stmt ws e x = Has l.stmt ws e (as_stmt x)
Means g.calloc_stmt ws e x = (a b : Word) → fits any_name a ≡ true → fits (word (codes "calloc")) a ≡ true → fits (mark (codes ";")) b ≡ true → Is l.stmt (a ∷ (ws ++ (b ∷ []))) (as_stmt_of_name x a.token)
Means g.named_stmt ws e x = (a b : Word) → fits any_name a ≡ true → fits (mark (codes ";")) b ≡ true → Is l.stmt (a ∷ (ws ++ (b ∷ []))) (as_stmt_of_name x a.token)
Means g.called_stmt ws e x = (us : List Word) (y : Expr) (b : Word) → Is l.call us y → Is l.primary us y → fits (mark (codes ";")) b ≡ true → Is l.stmt (us ++ (ws ++ (b ∷ []))) (T.changed (T.posted y (as_posts x)) (as_increment x) (as_setting x))
Means g.otherwise ws e x = ElseTail ws e (as_part x)
Means g.condition ws e x = Closed (opt l.expr) (mark (codes ";")) ws (as_value x)
Means g.for_start ws e x = Closed (opt l.start) (mark (codes ";")) ws (as_part x)
Means g.for_step ws e x = Closed (opt l.assign) (mark (codes ")")) ws (as_part x)
Means g.assigns ws e x = Closed (many l.change) (mark (codes "}")) ws (as_stmts x)
Means g.expr ws e x = Is l.expr ws (as_expr x)
Means g.expr_rest ws e x = (us : List Word) (y : Expr) → Is l.unary us y → Is l.expr (us ++ ws) (v.ended y x)
Means g.chain ws e x = ExprTail ws (as_steps x) (as_arms x) × (as_setting x ≡ None)
Means g.choice ws e x = ArmsTail ws (as_arms x)
Means g.tail ws e x = Is (many l.step) ws (as_steps x)
Means g.operation ws e x = Is l.operator ws (as_op x, place x)
Means g.operation_but_less ws e x = Is l.operator ws (as_op x, place x)
Means g.second ws e x = (a : Word) → fits (mark (codes ">")) a ≡ true → Is l.operator (a ∷ ws) ((if as_next x then op.Shr else op.Gt), a.token.pos)
Means g.unary ws e x = Is l.unary ws (as_expr x)
Means g.name_rest ws e x = (a : Word) → fits any_name a ≡ true → Is l.unary (a ∷ ws) (as_expr_of_name x a.token)
Means g.call_rest ws e x = (a : Word) → fits any_name a ≡ true → Is l.primary (a ∷ ws) (v.called_or_named a.token (as_call x))
Means g.increment ws e x = Is (opt l.increment) ws (pair_of (as_increment x))
Means g.first ws e x = Is l.unary ws (as_expr x)
Means g.round ws e x = (a : Word) → fits (mark (codes "(")) a ≡ true → Is l.unary (a ∷ ws) (as_expr_behind x a.token.pos)
Means g.posts ws e x = PostsMean ws (as_posts x)
Means g.post ws e x = PostMean ws (as_post x)
Means g.primary ws e x = Is l.primary ws (as_expr x)
Means g.bounds_cast ws e x = (f : TypeTree → Expr → Option Limits → Expr) (d : Bool) → Seq CastTail ws d Expr f (f (type_of x) (operand_of x) (limits_of x))
Means g.cast_limits ws e x = Closed (opt (after comma l.limits)) (mark (codes ")")) ws (as_declared_limits x)
Means g.constant ws e x = Is l.primary ws (as_expr x)

-- what a production is made of, with what its parts are
pub data Parts : List g.Symbol → List Word → Bool → List Value → Type 0 where
  none : {e : Bool} → Parts [] [] e []
  token : {c : g.Terminal} {ss : List g.Symbol} {w : Word} {ws : List Word} {e : Bool} {vs : List Value} →
      Fits c (sign_of w).kind → Parts ss ws e vs → Parts (g.t c ∷ ss) (w ∷ ws) e (v.token w.token ∷ vs)
  piece : {p : g.Part} {ss : List g.Symbol} {ys zs : List Word} {e : Bool} {x : Value} {vs : List Value} → (us : List Word) →
      Means p us (before_else ys e) x → Parts ss ys e vs → us ++ ys ≡ zs → Parts (g.n p ∷ ss) zs e (x ∷ vs)

-- a production that may be used before this
abbrev pub may : Rule → Bool → Bool
may g.NoElse e = if e then false else true
may _ e = true

-- helpers
pub static_at : {a : Word} → fits (keyword (codes "static")) a ≡ true → Is (opt l.static) (a ∷ []) (Some tt)
static_at f = something (λ e. by (inl tt) (tok f end))

pub struct_at : {a s : Word} → fits (keyword (codes "struct")) a ≡ true → fits any_name s ≡ true → Is l.base (a ∷ s ∷ []) (ctype.Struct s.token.text s.token.pos)
struct_at f h e = by (inr (inr (inr (inr (inl tt))))) (tok f (tok h end))

pub starred_at : {pls : List Word} {ps : List Pos} → Is (many l.star) pls ps → Is l.stars pls ps
starred_at h e = by (inl tt) (only h refl)

pub type_at : {bs pls zs : List Word} {b : TypeTree} {ps : List Pos} → Is l.base bs b → Is (many l.star) pls ps → bs ++ pls ≡ zs → Is l.type_name zs (starred b ps)
type_at h i k e = by (inl tt) (part h (only (starred_at i) refl) k)

pub name_at : {a : Word} → fits any_name a ≡ true → Is l.primary (a ∷ []) (expr_at (node.Name a.token.text) a.token.pos)
name_at f e = by (inl tt) (tok f end)

pub postfix_at : {us ws zs : List Word} {x : Expr} (ps : List Post) → Is l.primary us x → PostsMean ws ps → us ++ ws ≡ zs → Is l.postfix zs (T.posted x ps)
postfix_at {x = x} ps h i k d = by (inl tt) (part h (only i.1 (i.2 x)) k)

pub same_increment : (x : Expr) (i : Option Operation) → L.incremented x (pair_of i) ≡ T.with_increment x i
same_increment x None = refl
same_increment x (Some o) = refl

pub unary_at : {us ws zs : List Word} {x : Expr} (i : Option Operation) → Is l.postfix us x → Is (opt l.increment) ws (pair_of i) → us ++ ws ≡ zs → Is l.unary zs (T.with_increment x i)
unary_at {x = x} i h o k e = by (inr (inr (inr (inr (inr (inr (inr (inr (inr (inl tt)))))))))) (part h (only o (same_increment x i)) k)

pub sizeof_at : {a b : Word} (c : Word) {us zs : List Word} {t : TypeTree} → fits (keyword (codes "sizeof")) a ≡ true → fits (mark (codes "(")) b ≡ true → Is l.type_name us t → fits (mark (codes ")")) c ≡ true → us ++ (c ∷ []) ≡ zs →
    Is l.unary (a ∷ b ∷ zs) (expr_at (node.Size t) a.token.pos)
sizeof_at c f1 f2 t f3 h d = by (inr (inr (inr (inr (inr (inr (inr (inr (inl tt))))))))) (tok f1 (tok f2 (part t (tok f3 end) h)))

pub to_type : {a : Word} (b : Word) {us xs zs : List Word} {t : TypeTree} {x : Expr} → fits (mark (codes "(")) a ≡ true → Is l.type_name us t → fits (mark (codes ")")) b ≡ true → Is l.unary xs x → us ++ (b ∷ xs) ≡ zs →
    Is l.unary (a ∷ zs) (expr_at (node.Cast t x) a.token.pos)
to_type b f1 t f2 x h d = by (inr (inr (inr (inr (inr (inr (inr (inl tt)))))))) (tok f1 (part t (tok f2 (only x refl)) h))

pub round_at : {a : Word} (b : Word) {us zs : List Word} {x : Expr} → fits (mark (codes "(")) a ≡ true → Is l.expr us x → fits (mark (codes ")")) b ≡ true → us ++ (b ∷ []) ≡ zs → Is l.primary (a ∷ zs) x
round_at b f1 x f2 h d = by (inr (inr (inr (inr (inr (inr (inr (inr (inl tt))))))))) (tok f1 (part x (tok f2 end) h))

pub set_before : {os us zs : List Word} {o : TreeOp × Pos} {x : Expr} → Is l.increment os o → Is l.unary us x → os ++ us ≡ zs → Is l.unary zs (L.set_by x o (L.one_at o.1))
set_before o x h d = by (inr (inr (inr (inr (inr (inr (inl tt))))))) (part o (only x refl) h)

pub binary_at : {us xs : List Word} {x : Expr} (ss : List Step) → Is l.unary us x → Is (many l.step) xs ss → Is l.binary (us ++ xs) (L.joined x ss)
binary_at {x = x} ss h i e = by (inl tt) (part h (only i refl) refl)

pub arms_at : (c : Option Arms) (us xs ys : List Word) {ws : List Word} {x : Expr} → Is l.binary (us ++ xs) x → ArmsTail ys c → xs ++ ys ≡ ws → Is l.expr (us ++ ws) (T.picked x c)
arms_at None us xs ys {ws} {x} h i k e = by (inr (inr (inl tt))) (last h refl (append_assoc us xs [] ∙ ap (λ z. us ++ (xs ++ z)) (sym i) ∙ ap (λ z. us ++ z) k))
arms_at (Some a) us xs ys {ws} {x} h i k e = by (inr (inr (inr (inl tt)))) (part h (i e (λ p f q. expr_at (node.Pick x f q) p)) (append_assoc us xs ys ∙ ap (λ z. us ++ z) k))

pub whole_at : {us ws : List Word} {x : Expr} (ss : List Step) (c : Option Arms) → Is l.unary us x → ExprTail ws ss c → Is l.expr (us ++ ws) (whole x ss c)
whole_at {us} {ws} {x} ss c h r = arms_at c us r.0 r.1 (binary_at ss h r.3) r.4 r.2

pub right_at : {ws : List Word} {x : Expr} → Is l.expr ws x → Is l.right ws x
right_at h e = by (inl tt) (only h refl)

pub calloc_right : {ws : List Word} {x : Expr} → Is l.calloc ws x → Is l.right ws x
calloc_right h e = by (inr (inl tt)) (only h refl)

pub no_posts : PostsMean [] []
no_posts = ([], no_more, λ y. refl)

pub named_unary : {a : Word} → fits any_name a ≡ true → Is l.unary (a ∷ []) (v.named a.token)
named_unary {a} f = unary_at {us = a ∷ []} None (postfix_at {us = a ∷ []} [] (name_at f) no_posts refl) nothing refl

-- a target with what stands after it, as a statement and as an expression
pub assign_by : {us ws zs : List Word} {x : Expr} {s : Setting} → Is l.unary us x → SetTail ws s → us ++ ws ≡ zs → Is l.assign zs (T.assigned x s)
assign_by {us} {x = x} h (set_to a f y i q) k = named (ap (λ z. T.assigned x z) q) (λ e. by (inl tt) (part h (tok f (only y refl)) (ap (λ z. us ++ z) i ∙ k)))
assign_by {us} {x = x} h (set_by o y i q) k = named (ap (λ z. T.assigned x z) q) (λ e. by (inr (inl tt)) (part h (part o (only y refl) i) k))

pub expr_by : {us ws zs : List Word} {x : Expr} {s : Setting} → Is l.unary us x → SetTail ws s → us ++ ws ≡ zs → Is l.expr zs (T.set x s)
expr_by {us} {x = x} h (set_to a f y i q) k = named (ap (λ z. T.set x z) q) (λ e. by (inl tt) (part h (tok f (only y refl)) (ap (λ z. us ++ z) i ∙ k)))
expr_by {us} {x = x} h (set_by o y i q) k = named (ap (λ z. T.set x z) q) (λ e. by (inr (inl tt)) (part h (part o (only y refl) i) k))

-- the same of a target for which it must stand there
pub owed_by : {us ws zs : List Word} {x : Expr} (y : Value) → Is l.unary us x → (s : Setting) × SetTail ws s × (as_setting y ≡ Some s) → us ++ ws ≡ zs → Is l.assign zs (T.changed x None (as_setting y))
owed_by {x = x} y h m k = named (ap (λ z. T.changed x None z) (sym m.2)) (assign_by h m.1 k)

pub stepped_at : {os us : List Word} (ws : List Word) {zs : List Word} {x : Expr} (o : Operation) (s : Option Setting) → Is l.increment os (o.op, o.pos) → Is l.unary us x → LaterTail ws s → os ++ (us ++ ws) ≡ zs → Is l.assign zs (T.stepped x o s)
stepped_at {os} {us} ws o None i h t k = λ d. by (inr (inr (inl tt))) (part i (last h refl (ap (λ z. us ++ z) (sym t))) k)
stepped_at {os} {us} ws o (Some s) i h t k = assign_by (set_before i h refl) t (append_assoc os us ws ∙ k)

pub increment_change : {os us : List Word} (ws : List Word) {zs : List Word} {x : Expr} (o : Operation) (s : Option Setting) → Is l.postfix us x → Is l.increment os (o.op, o.pos) → LaterTail ws s → us ++ (os ++ ws) ≡ zs → Is l.assign zs (T.changed x (Some o) s)
increment_change {os} {us} ws o None h i t k = λ d. by (inr (inr (inr (inl tt)))) (part h (last i refl (ap (λ z. os ++ z) (sym t))) k)
increment_change {os} {us} ws o (Some s) h i t k = assign_by (unary_at (Some o) h (something i) refl) t (append_assoc us os ws ∙ k)

pub later_moved : {us ws : List Word} (s : Option Setting) → us ≡ ws → LaterTail us s → LaterTail ws s
later_moved s h t = subst (λ z. LaterTail z s) h t

pub tail_moved : {us ws : List Word} {s : Setting} → us ≡ ws → SetTail us s → SetTail ws s
tail_moved {s = s} h t = subst (λ z. SetTail z s) h t

pub assign_line : {us zs : List Word} {s : Stmt} (b : Word) → Is l.assign us s → fits (mark (codes ";")) b ≡ true → us ++ (b ∷ []) ≡ zs → Is l.stmt zs s
assign_line b h f k e = by (inr (inr (inr (inl tt)))) (part h (tok f end) k)

pub call_line : {us zs : List Word} {x : Expr} (b : Word) → Is l.call us x → fits (mark (codes ";")) b ≡ true → us ++ (b ∷ []) ≡ zs → Is l.stmt zs (L.stmt_at (act.Call x) x.pos)
call_line b h f k e = by (inr (inr (inr (inr (inl tt))))) (part h (tok f end) k)

pub objects_at : {us ys zs bs st : List Word} {d : TypeTree → Decl} {b : TypeTree} {ds : List (TypeTree → Decl)} {y : List Decl} {o : Option (Unit {0})} → Is l.object us d → Is l.base bs b →
    Closed (many (after comma l.object)) (mark (codes ";")) ys ds → given b ds ≡ y → us ++ ys ≡ zs → Is (opt l.static) st o → Is l.item (st ++ (bs ++ zs)) (L.statics (d b ∷ y))
objects_at {us = us} {d = d} {b = b} h hb (closed {us = vs} w m f i) q j hs e =
    by (inr (inr (inr (inl tt)))) (part hs (only (λ c. by (inl tt) (part hb (part_at (comma_list_at h m refl) (tok f (done (ap (λ z. L.statics (d b ∷ z)) q))) (with_last us vs w i j)) refl)) refl) refl)

pub list_moved : {us ws : List Word} {es : List Expr} → us ≡ ws → ListTail us es → ListTail ws es
list_moved {es = es} h t = subst (λ z. ListTail z es) h t

pub list_cons : {w : Word} {us ws zs : List Word} {x : Expr} {es : List Expr} → fits comma w ≡ true → Is l.expr us x → ListTail ws es → us ++ ws ≡ zs → ListTail (w ∷ zs) (x ∷ es)
list_cons {w} {us} h i (plain {us = vs} a m f q) j = plain a (one_more (after_token h i) m refl) f (ap (λ z. w ∷ z) (with_last us vs a q j))
list_cons {w} {us} h i (with_comma {us = vs} a b m c f q) j = with_comma a b (one_more (after_token h i) m refl) c f (ap (λ z. w ∷ z) (append_assoc us vs (a ∷ b ∷ []) ∙ ap (λ z. us ++ z) q ∙ j))

pub initial_at : {a : Word} {us ws zs : List Word} {x : Expr} {es : List Expr} → fits (mark (codes "{")) a ≡ true → Is l.expr us x → ListTail ws es → us ++ ws ≡ zs → Is l.initial (a ∷ zs) (inits.Many (x ∷ es))
initial_at {us = us} h i (plain {us = vs} w m f q) j e = by (inr (inl tt)) (tok h (part (comma_list i m refl) (tok f end) (append_assoc us vs (w ∷ []) ∙ ap (λ z. us ++ z) q ∙ j)))
initial_at {us = us} h i (with_comma {us = vs} a b m c f q) j e = by (inr (inr (inl tt))) (tok h (part (comma_list i m refl) (tok c (tok f end)) (append_assoc us vs (a ∷ b ∷ []) ∙ ap (λ z. us ++ z) q ∙ j)))

pub item_moved : {us ws : List Word} {is : List Item} → us ≡ ws → Item_at us is → Item_at ws is
item_moved {is = is} h d st o ho = moved (ap (λ z. st ++ z) h) (d st o ho)

pub heading_end : {w : Word} {us rs zs : List Word} {ps : List Decl} {b : Option Limits} → fits (mark (codes "(")) w ≡ true → Closed l.params (mark (codes ")")) us ps → Is range rs b → us ++ rs ≡ zs →
    (e : Bool) (f : List Decl → Option Limits → Head) → Seq (sign "(" ∷ n l.params ∷ sign ")" ∷ n range ∷ []) (w ∷ zs) e Head f (f ps b)
heading_end {rs = rs} h (closed {us = vs} w m f i) r j e q = tok h (part_at m (tok f (only r refl)) (with_more vs w rs i j))

pub block_at : {w : Word} {us zs : List Word} {ls : List (List Stmt)} {ss : List Stmt} → fits (mark (codes "{")) w ≡ true → Closed (many l.line) (mark (codes "}")) us ls → flat ls ≡ ss → us ≡ zs → Is l.block (w ∷ zs) (w.token.pos, ss)
block_at {w} h (closed x m f i) q j e = by (inl tt) (tok h (part_at m (tok f (done (ap (λ z. (w.token.pos, z)) q))) (i ∙ j)))

pub params_at : {us ys ws : List Word} {p : Decl} {ps : List Decl} → Is l.param us p → Closed (many (after comma l.param)) (mark (codes ")")) ys ps → us ++ ys ≡ ws → Closed l.params (mark (codes ")")) ws (p ∷ ps)
params_at {us} h (closed {us = vs} w m f i) j = closed w (by (inr (inr (inl tt))) (last_at (comma_list_at h m refl) refl (append-nil (us ++ vs)))) f (with_last us vs w i j)

pub member_at : {bs us ys zs ws : List Word} {b : TypeTree} {d : TypeTree → Decl} {ds : List (TypeTree → Decl)} {x : List Decl} → Is l.base bs b → Is l.slot us d → Closed (many (after comma l.slot)) (mark (codes ";")) ys ds →
    given b ds ≡ x → us ++ ys ≡ zs → bs ++ zs ≡ ws → Is l.member ws (d b ∷ x)
member_at {us = us} {b = b} {d = d} t h (closed {us = vs} w m f i) q j k e = by (inl tt) (part t (part_at (comma_list_at h m refl) (tok f (done (ap (λ z. d b ∷ z) q))) (with_last us vs w i j)) k)

pub local_at : {bs us ys zs ws : List Word} {b : TypeTree} {d : TypeTree → Decl} {ds : List (TypeTree → Decl)} {x : List Decl} → Is l.base bs b → Is l.local_name us d → Closed (many (after comma l.local_name)) (mark (codes ";")) ys ds →
    given b ds ≡ x → us ++ ys ≡ zs → bs ++ zs ≡ ws → Closed l.local (mark (codes ";")) ws (L.locals (d b ∷ x))
local_at {bs} {us} {b = b} {d = d} t h (closed {us = vs} w m f i) q j k =
    closed w (by (inl tt) (part t (last_at (comma_list_at h m refl) (ap (λ z. L.locals (d b ∷ z)) q) (append-nil (us ++ vs))) refl)) f (with_last bs (us ++ vs) w (with_last us vs w i j) k)

pub but_unknown_name : (c : Kind) → g.is_name_but_unknown c ≡ true → is_name c ≡ true
but_unknown_name k.Unknown h = absurd (cc)
but_unknown_name _ h = h

pub but_calloc_name : (c : Kind) → g.is_name_but_calloc c ≡ true → is_name c ≡ true
but_calloc_name k.Calloc h = absurd (cc)
but_calloc_name _ h = h

pub but_unknown : (w : Word) → g.is_name_but_unknown (sign_of w).kind ≡ true → fits any_name w ≡ true
but_unknown w h = name_read w (but_unknown_name (sign_of w).kind h)

pub but_calloc : (w : Word) → g.is_name_but_calloc (sign_of w).kind ≡ true → fits any_name w ≡ true
but_calloc w h = name_read w (but_calloc_name (sign_of w).kind h)

pub calloc_name : (w : Word) → (sign_of w).kind ≡ k.Calloc → fits any_name w ≡ true
calloc_name w h = name_read w (ap is_name h)

pub locals_at : {us ys zs ws : List Word} {x ss : List Stmt} → Closed l.local (mark (codes ";")) us x → LinesMean ys ss → ys ++ [] ≡ zs → us ++ zs ≡ ws → LinesMean ws (x ++ ss)
locals_at {us} {ys} {ws = ws} {x = x} {ss = ss} h i j k = with_lines h i.1 i.2
  where
    with_lines : Closed l.local (mark (codes ";")) us x → Closed (many l.line) (mark (codes "}")) ys i.0 → flat i.0 ≡ ss → LinesMean ws (x ++ ss)
    with_lines (closed c d f a) (closed {us = xs} w m f2 b) q =
        (x ∷ i.0, closed w (by (inr (inl tt)) (part {us = us} (λ c. by (inl tt) (part_at d (tok f end) a)) (last_at m refl (append-nil xs)) refl)) f2 (with_last us xs w (b ∙ cut j) k), ap (λ z. x ++ z) q)

pub before_cut : (us : List Word) (w : Word) (e : Bool) → before_else (us ++ (w ∷ [])) e ≡ before_else us (is_else w)
before_cut [] w e = refl
before_cut (x ∷ us) w e = refl

pub stmts_at : {us ys zs ws : List Word} (e : Bool) {x : Stmt} {ss : List Stmt} → Has l.stmt us (before_else zs e) x → LinesMean ys ss → ys ++ [] ≡ zs → us ++ zs ≡ ws → LinesMean ws (x ∷ ss)
stmts_at {us} {ys} {zs} {ws} e {x} {ss} s i h h2 = with_lines i.1 i.2
  where
    with_lines : Closed (many l.line) (mark (codes "}")) ys i.0 → flat i.0 ≡ ss → LinesMean ws (x ∷ ss)
    with_lines (closed {us = xs} w m f j) q =
        let all : xs ++ (w ∷ []) ≡ zs = j ∙ cut h in
        let s2 = subst (λ z. Has l.stmt us z x) (ap (λ z. before_else z e) (sym all) ∙ before_cut xs w e) s in
        ((x ∷ []) ∷ i.0, closed w (by (inr (inl tt)) (part_at (by (inr (inl tt)) (last_at s2 refl (append-nil us))) (last_at m refl (append-nil xs)) refl)) f (with_last us xs w all h2), ap (λ z. x ∷ z) q)

pub post_first : {us xs zs : List Word} (p : Post) (ps : List Post) → PostMean us p → PostsMean xs ps → us ++ xs ≡ zs → PostsMean zs (p ∷ ps)
post_first p ps h r i = (h.0 ∷ r.0, one_more h.1 r.1 i, λ y. r.2 (h.0 y) ∙ h.2 y ps)

pub step_of : {us xs zs : List Word} {o : TreeOp × Pos} {x : Expr} → Is l.operator us o → Is l.unary xs x → us ++ xs ≡ zs → Is l.step zs (record { op = o.0; pos = o.1; operand = x })
step_of {xs = xs} o x h e = by (inl tt) (part o (last x refl (append-nil xs)) h)

pub step_at : {us xs rs ys : List Word} {o : TreeOp × Pos} {x : Expr} (ss : List Step) (c : Option Arms) → Is l.operator us o → Is l.unary xs x → ExprTail rs ss c → xs ++ rs ≡ ys →
    ExprTail (us ++ ys) (record { op = o.0; pos = o.1; operand = x } ∷ ss) c
step_at {us} {xs} ss c o x r h =
    (us ++ (xs ++ r.0), r.1, append_assoc us (xs ++ r.0) r.1 ∙ ap (λ z. us ++ z) (append_assoc xs r.0 r.1 ∙ ap (λ z. xs ++ z) r.2 ∙ h), one_more (step_of o x refl) r.3 (append_assoc us xs r.0), r.4)

pub no_steps : (us : List Word) {ws : List Word} (c : Option Arms) → ArmsTail us c → us ≡ ws → ExprTail ws [] c
no_steps us c a h = ([], us, h, no_more, a)

pub arguments_at : {us ys ws : List Word} {e : Bool} {x : Expr} {xs : List Expr} {f : List Expr → Expr} → Is l.expr us x → Closed (many (after comma l.expr)) (mark (codes ")")) ys xs → us ++ ys ≡ ws →
    Seq (n (commas l.expr) ∷ sign ")" ∷ []) ws e Expr f (f (x ∷ xs))
arguments_at {us = us} h (closed {us = vs} w m f i) j = part_at (comma_list_at h m refl) (tok f end) (with_last us vs w i j)

pub if_at : {a b : Word} (c : Word) {us ss os zs ys xs : List Word} {e : Bool} {x : Expr} {s : Stmt} → fits (keyword (codes "if")) a ≡ true → fits (mark (codes "(")) b ≡ true → Is l.expr us x → fits (mark (codes ")")) c ≡ true →
    Has l.stmt ss (before_else zs e) s → (o : Option Stmt) → ElseTail os e o → os ≡ zs → ss ++ zs ≡ ys → us ++ (c ∷ ys) ≡ xs → Has l.stmt (a ∷ b ∷ xs) e (L.stmt_at (act.If x s o) a.token.pos)
if_at c {ss = ss} {zs = zs} {e = e} {s = s} f1 f2 hx f3 hs None o h i j =
    let z : zs ≡ [] = sym h ∙ o.0 in
    by (inr (inr (inr (inr (inr (inr (inl tt))))))) (tok f1 (tok f2 (part hx (tok f3 (part_at {ys = []} (subst (λ q. Has l.stmt ss (before_else q e) s) z hs) (sole o.1 end) (ap (λ q. ss ++ q) (sym z) ∙ i))) j)))
if_at {a = a} c {x = x} {s = s} f1 f2 hx f3 hs (Some t) o h i j =
    by (inr (inr (inr (inr (inr (inl tt)))))) (tok f1 (tok f2 (part hx (tok f3 (part_at hs (else_moved h (o (λ q. L.stmt_at (act.If x s (Some q)) a.token.pos))) i)) j)))
  where
    else_moved : {p q : List Word} {d : Bool} {f : Stmt → Stmt} {y : Stmt} → p ≡ q → Seq (key "else" ∷ n l.stmt ∷ []) p d Stmt f y → Seq (key "else" ∷ n l.stmt ∷ []) q d Stmt f y
    else_moved {d = d} {f = f} {y = y} k r = subst (λ z. Seq (key "else" ∷ n l.stmt ∷ []) z d Stmt f y) k r

pub for_at : {a b : Word} {us cs ps ss ws ys zs xs : List Word} {e : Bool} {x p : Option Stmt} {c : Option Expr} {s : Stmt} → fits (keyword (codes "for")) a ≡ true → fits (mark (codes "(")) b ≡ true →
    Closed (opt l.start) (mark (codes ";")) us x → Closed (opt l.expr) (mark (codes ";")) cs c → Closed (opt l.assign) (mark (codes ")")) ps p → Has l.stmt ss e s →
    ss ++ [] ≡ ws → ps ++ ws ≡ ys → cs ++ ys ≡ zs → us ++ zs ≡ xs → Has l.stmt (a ∷ b ∷ xs) e (L.stmt_at (act.For x c p s) a.token.pos)
for_at {ws = ws} {ys = ys} {zs = zs} f1 f2 (closed {us = us} a hx g1 i1) (closed {us = cs} b hc g2 i2) (closed {us = ps} c hp g3 i3) hs j1 j2 j3 j4 =
    by (inr (inr (inr (inr (inr (inr (inr (inr (inl tt))))))))) (tok f1 (tok f2 (part_at hx (tok g1 (part_at hc (tok g2 (part_at hp (tok g3 (last_at hs refl j1)) (with_more ps c ws i3 j2))) (with_more cs b ys i2 j3))) (with_more us a zs i1 j4))))

pub return_at : {a : Word} {us ws : List Word} {e : Bool} {x : Option Expr} → fits (keyword (codes "return")) a ≡ true → Closed (opt l.expr) (mark (codes ";")) us x → us ≡ ws → Has l.stmt (a ∷ ws) e (L.stmt_at (act.Return x) a.token.pos)
return_at f (closed w hx g i) j = by (inr (inr (inr (inr (inr (inr (inr (inr (inr (inl tt)))))))))) (tok f (part_at hx (tok g end) (i ∙ j)))

pub change_at : {us : List Word} (w : Word) {s : Stmt} → Is l.assign us s → fits (mark (codes ";")) w ≡ true → Is l.change (us ++ (w ∷ [])) s
change_at w h f e = by (inl tt) (part h (tok f end) refl)

pub bundle_at : {a b : Word} (c d : Word) {us xs ys ws zs vs : List Word} {e : Bool} {s r : Stmt} {ss : List Stmt} → fits (keyword (codes "_Bundled")) a ≡ true → fits (mark (codes "{")) b ≡ true → Is l.assign us s → fits (mark (codes ";")) c ≡ true →
    Is l.assign xs r → fits (mark (codes ";")) d ≡ true → Closed (many l.change) (mark (codes "}")) ys ss → ys ≡ ws → xs ++ (d ∷ ws) ≡ zs → us ++ (c ∷ zs) ≡ vs → Has l.stmt (a ∷ b ∷ vs) e (L.stmt_at (act.Bundle (s ∷ r ∷ ss)) a.token.pos)
bundle_at c d {us = us} {xs = xs} {ws = ws} {zs = zs} f1 f2 hs f3 hr f4 (closed w hz g i) h1 h2 h3 =
    by (inr (inr (inr (inr (inr (inr (inr (inr (inr (inr (inr (inr (inr (inl tt)))))))))))))) (tok f1 (tok f2 (part (change_at c hs f3) (part (change_at d hr f4) (part_at hz (tok g end) (i ∙ h1)) (append_assoc xs (d ∷ []) ws ∙ h2)) (append_assoc us (c ∷ []) zs ∙ h3))))

pub assigns_at : {us xs ys zs : List Word} (w : Word) {s : Stmt} {ss : List Stmt} → Is l.assign us s → fits (mark (codes ";")) w ≡ true → Closed (many l.change) (mark (codes "}")) xs ss → xs ≡ ys → us ++ (w ∷ ys) ≡ zs →
    Closed (many l.change) (mark (codes "}")) zs (s ∷ ss)
assigns_at {us} {ys = ys} w hs f (closed {us = vs} x m g i) h j =
    closed x (one_more_at (change_at w hs f) m refl) g (with_last (us ++ (w ∷ [])) vs x (i ∙ h) (append_assoc us (w ∷ []) ys ∙ j))

pub no_else_at : (e : Bool) → (if e then false else true) ≡ true → e ≡ false
no_else_at true h = absurd (cc)
no_else_at false h = refl

pub op_glued : (b : Bool) (c : Kind) → is_operator (glued b c) ≡ true → glued b c ≡ c
op_glued true k.Greater h = absurd (cc)
op_glued false k.Greater h = absurd (cc)
op_glued true _ h = refl
op_glued false _ h = refl

pub sign_glued : (b : Bool) (c : Kind) → is_sign (glued b c) ≡ true → glued b c ≡ c
sign_glued true k.Greater h = absurd (cc)
sign_glued false k.Greater h = absurd (cc)
sign_glued true _ h = refl
sign_glued false _ h = refl

pub increment_glued : (b : Bool) (c : Kind) → is_increment (glued b c) ≡ true → glued b c ≡ c
increment_glued true k.Greater h = absurd (cc)
increment_glued false k.Greater h = absurd (cc)
increment_glued true _ h = refl
increment_glued false _ h = refl

pub increment_of : (w : Word) (c : Kind) → is_increment c ≡ true → (sign_of w).kind ≡ c → Is l.increment (w ∷ []) (increment_op c, w.token.pos)
increment_of w k.PlusPlus i h = λ d. by (inl tt) (tok (rd k.PlusPlus w h) end)
increment_of w k.MinusMinus i h = λ d. by (inr (inl tt)) (tok (rd k.MinusMinus w h) end)
increment_of w _ i h = absurd (cc)

pub increment_at : (w : Word) → is_increment (sign_of w).kind ≡ true → Is l.increment (w ∷ []) (increment_op (kind_of_token w.token), w.token.pos)
increment_at w h =
    let same = increment_glued w.glued (kind_of_token w.token) h in
    increment_of w (kind_of_token w.token) (subst (λ z. is_increment z ≡ true) same h) same

pub compound_glued : (b : Bool) (c : Kind) → is_compound (glued b c) ≡ true → glued b c ≡ c
compound_glued true k.Greater h = absurd (cc)
compound_glued false k.Greater h = absurd (cc)
compound_glued true _ h = refl
compound_glued false _ h = refl

pub compound_of : (w : Word) (c : Kind) → is_compound c ≡ true → (sign_of w).kind ≡ c → Is l.op (w ∷ []) (compound_op c, w.token.pos)
compound_of w k.PlusEquals i h = λ d. by (inl tt) (tok (rd k.PlusEquals w h) end)
compound_of w k.MinusEquals i h = λ d. by (inr (inl tt)) (tok (rd k.MinusEquals w h) end)
compound_of w k.StarEquals i h = λ d. by (inr (inr (inl tt))) (tok (rd k.StarEquals w h) end)
compound_of w k.SlashEquals i h = λ d. by (inr (inr (inr (inl tt)))) (tok (rd k.SlashEquals w h) end)
compound_of w k.PercentEquals i h = λ d. by (inr (inr (inr (inr (inl tt))))) (tok (rd k.PercentEquals w h) end)
compound_of w k.AmpersandEquals i h = λ d. by (inr (inr (inr (inr (inr (inl tt)))))) (tok (rd k.AmpersandEquals w h) end)
compound_of w k.BarEquals i h = λ d. by (inr (inr (inr (inr (inr (inr (inl tt))))))) (tok (rd k.BarEquals w h) end)
compound_of w k.CaretEquals i h = λ d. by (inr (inr (inr (inr (inr (inr (inr (inl tt)))))))) (tok (rd k.CaretEquals w h) end)
compound_of w _ i h = absurd (cc)

pub compound_at : (w : Word) → is_compound (sign_of w).kind ≡ true → Is l.op (w ∷ []) (compound_op (kind_of_token w.token), w.token.pos)
compound_at w h =
    let same = compound_glued w.glued (kind_of_token w.token) h in
    compound_of w (kind_of_token w.token) (subst (λ z. is_compound z ≡ true) same h) same

pub op_of : (w : Word) (c : Kind) → is_operator c ≡ true → (sign_of w).kind ≡ c → Is l.operator (w ∷ []) (binary_op c, w.token.pos)
op_of w k.BarBar i h = λ d. by (inl tt) (tok (rd k.BarBar w h) end)
op_of w k.AndAnd i h = λ d. by (inr (inl tt)) (tok (rd k.AndAnd w h) end)
op_of w k.Bar i h = λ d. by (inr (inr (inl tt))) (tok (rd k.Bar w h) end)
op_of w k.Caret i h = λ d. by (inr (inr (inr (inl tt)))) (tok (rd k.Caret w h) end)
op_of w k.Ampersand i h = λ d. by (inr (inr (inr (inr (inl tt))))) (tok (rd k.Ampersand w h) end)
op_of w k.EqualsEquals i h = λ d. by (inr (inr (inr (inr (inr (inl tt)))))) (tok (rd k.EqualsEquals w h) end)
op_of w k.NotEquals i h = λ d. by (inr (inr (inr (inr (inr (inr (inl tt))))))) (tok (rd k.NotEquals w h) end)
op_of w k.LessEquals i h = λ d. by (inr (inr (inr (inr (inr (inr (inr (inr (inl tt))))))))) (tok (rd k.LessEquals w h) end)
op_of w k.GreaterEquals i h = λ d. by (inr (inr (inr (inr (inr (inr (inr (inr (inr (inr (inl tt))))))))))) (tok (rd k.GreaterEquals w h) end)
op_of w k.ShiftLeft i h = λ d. by (inr (inr (inr (inr (inr (inr (inr (inr (inr (inr (inr (inl tt)))))))))))) (tok (rd k.ShiftLeft w h) end)
op_of w k.Plus i h = λ d. by (inr (inr (inr (inr (inr (inr (inr (inr (inr (inr (inr (inr (inr (inl tt)))))))))))))) (tok (rd k.Plus w h) end)
op_of w k.Minus i h = λ d. by (inr (inr (inr (inr (inr (inr (inr (inr (inr (inr (inr (inr (inr (inr (inl tt))))))))))))))) (tok (rd k.Minus w h) end)
op_of w k.Star i h = λ d. by (inr (inr (inr (inr (inr (inr (inr (inr (inr (inr (inr (inr (inr (inr (inr (inl tt)))))))))))))))) (tok (rd k.Star w h) end)
op_of w k.Slash i h = λ d. by (inr (inr (inr (inr (inr (inr (inr (inr (inr (inr (inr (inr (inr (inr (inr (inr (inl tt))))))))))))))))) (tok (rd k.Slash w h) end)
op_of w k.Percent i h = λ d. by (inr (inr (inr (inr (inr (inr (inr (inr (inr (inr (inr (inr (inr (inr (inr (inr (inr (inl tt)))))))))))))))))) (tok (rd k.Percent w h) end)
op_of w _ i h = absurd (cc)

pub operator_at : (w : Word) → is_operator (sign_of w).kind ≡ true → Is l.operator (w ∷ []) (binary_op (kind_of_token w.token), w.token.pos)
operator_at w h =
    let same = op_glued w.glued (kind_of_token w.token) h in
    op_of w (kind_of_token w.token) (subst (λ z. is_operator z ≡ true) same h) same

pub sign_of_kind : {us : List Word} {x : Expr} (w : Word) (c : Kind) → is_sign c ≡ true → (sign_of w).kind ≡ c → Is l.unary us x → Is l.unary (w ∷ us) (expr_at (node.Un (sign_op c) x) w.token.pos)
sign_of_kind w k.Minus i h x = λ d. by (inl tt) (tok (rd k.Minus w h) (only x refl))
sign_of_kind w k.Plus i h x = λ d. by (inr (inl tt)) (tok (rd k.Plus w h) (only x refl))
sign_of_kind w k.Exclamation i h x = λ d. by (inr (inr (inl tt))) (tok (rd k.Exclamation w h) (only x refl))
sign_of_kind w k.Tilde i h x = λ d. by (inr (inr (inr (inl tt)))) (tok (rd k.Tilde w h) (only x refl))
sign_of_kind w k.Star i h x = λ d. by (inr (inr (inr (inr (inl tt))))) (tok (rd k.Star w h) (only x refl))
sign_of_kind w k.Ampersand i h x = λ d. by (inr (inr (inr (inr (inr (inl tt)))))) (tok (rd k.Ampersand w h) (only x refl))
sign_of_kind w _ i h x = absurd (cc)

pub signed_at : {us : List Word} {x : Expr} (w : Word) → is_sign (sign_of w).kind ≡ true → Is l.unary us x → Is l.unary (w ∷ us) (expr_at (node.Un (sign_op (kind_of_token w.token)) x) w.token.pos)
signed_at w h x =
    let same = sign_glued w.glued (kind_of_token w.token) h in
    sign_of_kind w (kind_of_token w.token) (subst (λ z. is_sign z ≡ true) same h) same x

pub cast_at : {a : Word} (b c : Word) {ts xs ls zs ys ws : List Word} {t : TypeTree} {x : Expr} {o : Option Limits} → fits (mark (codes "<")) a ≡ true → Is l.type_name ts t → fits (mark (codes ">")) b ≡ true → fits (mark (codes "(")) c ≡ true → Is l.expr xs x →
    Closed (opt (after comma l.limits)) (mark (codes ")")) ls o → ls ≡ zs → xs ++ zs ≡ ys → ts ++ (b ∷ c ∷ ys) ≡ ws → (f : TypeTree → Expr → Option Limits → Expr) (d : Bool) → Seq CastTail (a ∷ ws) d Expr f (f t x o)
cast_at b c f1 t f2 f3 x (closed w m g i) h1 h2 h3 f d = tok f1 (part t (tok f2 (tok f3 (part x (part_at m (tok g end) (i ∙ h1)) h2))) h3)

pub literal_of : (w : Word) (c : Kind) → is_literal c ≡ true → (sign_of w).kind ≡ c → Is l.primary (w ∷ []) (expr_at (L.literal w.token.kind) w.token.pos)
literal_of w k.Number i h = λ d. by (inr (inr (inr (inl tt)))) (tok (rd k.Number w h) end)
literal_of w k.Character i h = λ d. by (inr (inr (inr (inr (inl tt))))) (tok (rd k.Character w h) end)
literal_of w _ i h = absurd (cc)

pub add : {xs us zs ws : List Word} {is : List Item} (one : List Item) → Is l.item xs one → ItemsMean us is → us ++ [] ≡ zs → xs ++ zs ≡ ws → ItemsMean ws (one ++ is)
add {xs} one h i j k = (one ∷ i.0, one_more h i.1 (ap (λ z. xs ++ z) (cut j) ∙ k), ap (λ z. one ++ z) i.2)

pub head_front : {ms rs : List Word} {mo : Option (Mode × Pos)} {t : TypeTree} (a : Word) →
    Is (opt l.mode) ms mo → ((c : Word) × (rs ≡ c ∷ []) × (fits (keyword (codes "void")) c ≡ true) × (t ≡ ctype.Void)) ⊎ Is l.type_name rs t → fits any_name a ≡ true → Heading (ms ++ (rs ++ (a ∷ []))) (mode_of mo) t a.token
head_front {ms} {rs} {mo} {t} a h (inl r) f ws ps b i =
    moved (ap (λ z. ms ++ (z ++ (a ∷ ws))) (sym r.1) ∙ sym (append_assoc ms (rs ++ (a ∷ [])) ws ∙ ap (λ z. ms ++ z) (append_assoc rs (a ∷ []) ws)))
    (named (ap (λ z. head_of (mode_of mo) z a.token ps b) (sym r.3)) (λ e. by (inl tt) (part h (tok r.2 (tok f (i e _))) refl)))
head_front {ms} {rs} {mo} {t} a h (inr r) f ws ps b i =
    moved (sym (append_assoc ms (rs ++ (a ∷ [])) ws ∙ ap (λ z. ms ++ z) (append_assoc rs (a ∷ []) ws)))
    (λ e. by (inr (inl tt)) (part h (part r (tok f (i e _)) refl) refl))
