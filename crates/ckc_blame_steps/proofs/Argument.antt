-- The argument of `putchar` is evaluated, or the run stops at a named check.
use Rattle.std.proofs.Common.{◌≡◌, refl, sym, ap, subst, ◌∙◌, ℕ, ◌+◌, List, [], ◌∷◌, map, rules}
use Rattle.std.specs.Prelude.{◌<◌, ◌^◌, length, Ok}
use Rattle.ckc_base.specs.declared.arithmetic.Mode.{Mode}
use Rattle.ckc_base.specs.Outcomes.{Outcome, bind}
use Rattle.ckc_syntax.specs.Inside.{listed, inside_each}
use Rattle.ckc_syntax.specs.declared.tree.Name.{Name}
use Rattle.ckc_syntax.specs.declared.tree.Name.TheVariants as name
use Rattle.ckc_syntax.specs.declared.tree.Expr.{Expr-F}
use Rattle.ckc_syntax.specs.declared.tree.Limits.{every-Limits}
use Rattle.ckc_syntax.specs.declared.tree.Node.{Node-F, map-Node, out-Node, every_held-Node, the_lemmas as node_lemmas}
use Rattle.ckc_syntax.specs.declared.tree.Node.TheVariants as node
use Rattle.ckc_typed.specs.declared.environment.Globals.{Globals}
use Rattle.ckc_typed.specs.declared.typed.Note.{Note}
use Rattle.ckc_typed.specs.Statics.{strings_of_expr}
use Rattle.ckc_typed.specs.Trees.{NotedLimits, NotedNode, NotedExpr, NotedLayer}
use Rattle.ckc_typed_welltyped.specs.Expressions.{AnyLimits, AnyNode}
use Rattle.ckc_blame_sound.specs.ckc_bounds_views.specs.Judged.{all_judged}
use Rattle.ckc_blame_sound.specs.ckc_bounds_views.specs.Fresh.{all_fresh}
use Rattle.ckc_blame_sound.specs.ckc_bounds_views.specs.Parts.{View, fresh_behind}
use Rattle.ckc_blame_sound.specs.ckc_bounds_views.specs.Views.{view}
use Rattle.ckc_blame_sound.specs.ckc_bounds_statements.specs.Paths.{Here}
use Rattle.ckc_source.specs.declared.stmt.Spot.{Spot}
use Rattle.ckc_source.specs.Code.{Code, End, Expr, Put}
use Rattle.ckc_source.specs.Eval.{Store, evaluated}
use Rattle.ckc_build_values.specs.Expressions.{expr_elaborated}
use Rattle.ckc_build_elaborate.specs.Steps.{Destination, called, first_of, assigned, assigned_form}
use Rattle.ckc_blame_sound.specs.Bodies.{AreFresh}
use Rattle.ckc_blame_sound.specs.Points.{HoldsAt}
use Rattle.ckc_blame_sound.proofs.Strings.{strings_in_front}
use Rattle.ckc_blame_sound.specs.Settings.{Setting, AreStrings}
use Rattle.ckc_blame_sound.specs.Typed.{HasRow, IsTyped, Agrees}
use Rattle.ckc_blame_sound.proofs.Judging.{judged_typed}
use Rattle.ckc_blame_sound.proofs.Statements.{made_of}
use Rattle.ckc_blame_sound.proofs.SameViews.{same_view}
use Rattle.ckc_blame_given.specs.ckc_blame_pointers.specs.Covered.{DeclareLocals, IsSoundStore, IsCovered}
use Rattle.ckc_blame_given.specs.ckc_blame_pointers.proofs.Inside.{Every, EveryNode, node_every}
use Rattle.ckc_blame_given.specs.ckc_blame_pointers.proofs.Later.{left_room}
use Rattle.ckc_blame_given.specs.ckc_blame_pointers.specs.Owed.{Comes}
use Rattle.ckc_blame_given.proofs.Comes.{comes_as}
use Rattle.ckc_blame_given.specs.At.{GivesAt}
use Rattle.ckc_blame_given.proofs.Bridge.{judged_gives}
use Rattle.ckc_blame_given.specs.ckc_blame_pointers.proofs.Strings.{strings_in_node}
use Rattle.ckc_blame_given.proofs.Layers.{strings_are}
use Rattle.ckc_blame_given.proofs.Pointers.{node_judged_at, node_room}
use Rattle.ckc_blame_steps.specs.Granted.{IsCoveredFirst}

-- a step that puts what an expression gives
abbrev pub IsPut : Code → Expr → Type 0
IsPut (Put sp t e rest) x = x ≡ e
IsPut c x = ⊥

-- ---- the first argument of a call

module _ (P : Expr-F Name Note NotedLimits NotedNode NotedExpr → Type 0) where
  abbrev FirstEvery : NotedLayer → Type 0
  FirstEvery (Node-F.Call n (e ∷ es)) = Every P e
  FirstEvery x = Unit {0}

  abbrev FitLimits : Type 0
  FitLimits = (l : NotedLimits) × every-Limits Name Note AnyLimits AnyNode P l

  abbrev FitNode : Type 0
  FitNode = (n : NotedNode) × EveryNode P n

  abbrev FitExpr : Type 0
  FitExpr = (e : NotedExpr) × Every P e

  first_fit : (z : Node-F Name Note FitLimits FitNode FitExpr) → FirstEvery (map-Node Name Note FitLimits FitNode FitExpr NotedLimits NotedNode NotedExpr (λ e. e.0) (λ e. e.0) (λ e. e.0) z)
  first_fit (Node-F.Call n (e ∷ es)) = e.1
  first_fit (Node-F.Call n []) = tt
  first_fit z = tt

  first_every : (e : NotedExpr) → Every P e → FirstEvery (out-Node Name Note e.node)
  first_every e w =
      let h = every_held-Node Name Note AnyLimits AnyNode P e.node (node_every P e w) in
      subst FirstEvery h.1 (first_fit h.0)

out_call_node : (n : Name) (es : List NotedExpr) → out-Node Name Note (node.Call n es) ≡ Node-F.Call n es
out_call_node n es = search (rules, node_lemmas)

ok_same : {A : Type 0} (a b : A) → ◌≡◌ {A = Outcome A} (Ok a) (Ok b) → a ≡ b
ok_same a b e = cc

first_same : (a b : NotedExpr) (xs ys : List NotedExpr) → a ∷ xs ≡ b ∷ ys → a ≡ b
first_same a b xs ys e = cc

args_same : (n : Name) (xs ys : List NotedExpr) → ◌≡◌ {A = NotedLayer} (Node-F.Call n xs) (Node-F.Call n ys) → xs ≡ ys
args_same n xs ys e = cc

module _ (m : Mode) (globals : Globals) (s : Setting) (agrees : Agrees globals s) (declares : DeclareLocals s) (store : Store) (entry : List ℕ) (next : ℕ) (ready : IsSoundStore s store next) (here : Here)
    (h : HoldsAt s store entry here) (fresh : ℕ) (are : AreFresh s.frame fresh) where
  abbrev HasPlace : NotedExpr → Type 0
  HasPlace e = fresh + length ((view s.frame e).fresh here.at) < 2 ^ 32

  module _ (x : NotedExpr) (n : Name) (y : NotedExpr) (ys : List NotedExpr) (out : out-Node Name Note x.node ≡ Node-F.Call n (y ∷ ys)) (typed : IsTyped globals s x) (room : HasPlace x)
      (judged : (view s.frame x).judged fresh here.at ≡ Ok x) where
    typed_there : IsTyped globals s y
    typed_there = subst (FirstEvery (HasRow globals s)) out (first_every (HasRow globals s) x typed)

    room_there : HasPlace y
    room_there =
        left_room fresh ((view s.frame y).fresh here.at) (all_fresh (map (view s.frame) ys) here.at)
        (node_room globals s agrees declares store entry next ready here h fresh are x room (Node-F.Call n (y ∷ ys)) out)

    judged_there : (view s.frame y).judged fresh here.at ≡ Ok y
    judged_there =
        let j = node_judged_at globals s agrees declares store entry next ready here h fresh are x judged (Node-F.Call n (y ∷ ys)) out in
        let a = made_of (all_judged (map (view s.frame) (y ∷ ys)) fresh here.at) (λ all. Ok (node.Call n all)) x.node j.node in
        let same = args_same n a.0 (y ∷ ys) (sym (out_call_node n a.0) ∙ ap (out-Node Name Note) (ok_same (node.Call n a.0) x.node a.2) ∙ out) in
        let q = made_of ((view s.frame y).judged fresh here.at)
        (λ b. bind (all_judged (map (view s.frame) ys) (fresh_behind (view s.frame y) fresh here.at) here.at) (λ rest. Ok (b ∷ rest))) (y ∷ ys) (a.1 ∙ ap Ok same) in
        let r = made_of (all_judged (map (view s.frame) ys) (fresh_behind (view s.frame y) fresh here.at) here.at) (λ rest. Ok (q.0 ∷ rest)) (y ∷ ys) q.2 in
        q.1 ∙ ap Ok (first_same q.0 y r.0 ys (ok_same (q.0 ∷ r.0) (y ∷ ys) r.2))

    pub argument_evaluates : (literals : ℕ) → IsCovered m s store here.seen y → AreStrings s literals (strings_of_expr y) → Comes m (λ v. Unit {0}) (evaluated store (expr_elaborated s.text s.variables literals y))
    argument_evaluates literals covered strings =
        comes_as m (λ p. GivesAt s store here.at y p.number) (λ v. Unit {0}) (evaluated store (expr_elaborated s.text s.variables literals y))
        (judged_gives m globals s agrees declares store entry next ready here y y fresh literals room_there are typed_there judged_there covered strings h) (λ v is c. tt)

  -- ---- what a step puts

  module _ (sp : Spot) (to : Destination) (k : ℕ) (e : Expr) (before x : NotedExpr) (typed : IsTyped globals s before) (judged : (view s.frame before).judged fresh here.at ≡ Ok x) (room : HasPlace x)
      (covered : (es : List NotedExpr) → out-Node Name Note x.node ≡ Node-F.Call name.Putchar es → IsCoveredFirst m s store here.seen es)
      (strings : AreStrings s k (strings_of_expr x)) where
    by_args : (es : List NotedExpr) → out-Node Name Note x.node ≡ Node-F.Call name.Putchar es → e ≡ first_of s.text s.variables k es → Comes m (λ v. Unit {0}) (evaluated store e)
    by_args [] out is = absurd (covered [] out)
    by_args (y ∷ ys) out is =
        subst (λ z. Comes m (λ v. Unit {0}) (evaluated store z)) (sym is)
        (argument_evaluates x name.Putchar y ys out (judged_typed globals s before x fresh here.at typed judged).0 room
        (subst (λ (v : View). v.judged fresh here.at ≡ Ok x) (sym (same_view s.frame before x fresh here.at judged s.frame)) judged) k (covered (y ∷ ys) out)
        (strings_in_front s (strings_of_expr y) (inside_each listed (λ z. z) (map strings_of_expr ys)) k
        (subst (λ z. AreStrings s k (strings_in_node z)) out (subst (AreStrings s k) (strings_are x) strings))))

    by_name : (n : Name) (es : List NotedExpr) → out-Node Name Note x.node ≡ Node-F.Call n es → IsPut (called s.text s.variables sp to k n es x.pos End) e → Comes m (λ v. Unit {0}) (evaluated store e)
    by_name (name.Function j) es out put = absurd put
    by_name name.Getchar es out put = absurd put
    by_name name.Putchar es out put = by_args es out put
    by_name n es out put = absurd put

    pub put_evaluates : IsPut (assigned s.text s.variables sp to k x End) e → Comes m (λ v. Unit {0}) (evaluated store e)
    put_evaluates put = by (out-Node Name Note x.node) refl put
      where
        by : (y : NotedLayer) → out-Node Name Note x.node ≡ y → IsPut (assigned_form s.text s.variables sp to k x y End) e → Comes m (λ v. Unit {0}) (evaluated store e)
        by (Node-F.Call n es) out put = by_name n es out put
        by y out put = absurd put
