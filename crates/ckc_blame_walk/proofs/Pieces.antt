-- What the parts of a statement leave: an expression the point, an assignment all that does not name what it assigns.
use Rattle.std.proofs.Common.{◌≡◌, refl, sym, ap, subst, ◌∙◌, ℕ, Bool, true, false, List, [], ◌∷◌, ◌++◌, map, length, rules}
use Rattle.std.specs.Prelude.{if◌then◌else◌, Option, None, Some, Ok, Err}
use Rattle.ckc_base.specs.declared.places.Pos.{Pos}
use Rattle.ckc_base.specs.declared.places.Refusal.{Refusal}
use Rattle.ckc_base.specs.Outcomes.{Outcome, bind, unless}
use Rattle.ckc_base.proofs.Outcomes.{made_of, unbroken}
use Rattle.ckc_types.specs.declared.types.CType.{CType}
use Rattle.ckc_linear.specs.declared.forms.Form.{Form}
use Rattle.ckc_syntax.specs.declared.tree.Name.{Name}
use Rattle.ckc_syntax.specs.declared.tree.Name.TheVariants as name
use Rattle.ckc_syntax.specs.declared.tree.Init.TheVariants as init
use Rattle.ckc_syntax.specs.declared.tree.Node.{Node-F, map-Node, out-Node, roll-Node, fold-roll-Node, the_lemmas}
use Rattle.ckc_syntax.specs.declared.tree.Node.TheVariants as node
use Rattle.ckc_syntax.specs.declared.tree.Expr.{fold-roll-Expr}
use Rattle.ckc_typed.specs.declared.typed.Note.{Note}
use Rattle.ckc_typed.specs.Trees.{NotedLimits, NotedNode, NotedExpr, NotedLayer, NotedInit, NotedStmt}
use Rattle.ckc_typed.specs.Types.{element_of}
use Rattle.ckc_typed.specs.Constants.{size_of}
use Rattle.ckc_blame_sound.specs.ckc_bounds_views.specs.Conditions.{right_point}
use Rattle.ckc_blame_sound.specs.ckc_bounds_points.specs.declared.frame.HeadBounds.{HeadBounds}
use Rattle.ckc_blame_sound.specs.ckc_bounds_points.specs.declared.frame.Frame.{Frame}
use Rattle.ckc_blame_sound.specs.ckc_bounds_points.specs.Shown.{Known}
use Rattle.ckc_blame_sound.specs.ckc_bounds_points.specs.Flow.{State}
use Rattle.ckc_blame_sound.specs.ckc_bounds_views.specs.Parts.{LimitsView, NodeView, View, NodeOfViews, fresh_behind, capped}
use Rattle.ckc_blame_sound.specs.ckc_bounds_views.specs.Judged.{node_judged, there_judged, all_judged, unary_judged, by_fault, expr_made}
use Rattle.ckc_blame_sound.specs.ckc_bounds_views.specs.Ranges.{pointer_range}
use Rattle.ckc_blame_sound.specs.ckc_bounds_views.specs.Views.{limits_view, node_view, expr_view, view_of_limits, view_of_node, view}
use Rattle.ckc_blame_sound.specs.ckc_bounds_stores.specs.Stores.{Store, stores_of, Placed, numbered, received, assigned_local, after, unless_refused, stored, stored_placed, first_fault, passed}
use Rattle.ckc_blame_sound.specs.ckc_bounds_stores.specs.Targets.{local_named, local_in, local_of}
use Rattle.ckc_blame_sound.specs.ckc_bounds_statements.specs.Paths as paths
use Rattle.ckc_blame_sound.specs.ckc_bounds_statements.specs.Paths.{Here, expr_judged, value_judged, values_judged, maybe_judged, init_judged, target_in, local_in_node, stores_judged, behind_stores}
use Rattle.ckc_blame_walk.specs.Walks.{Stays}
use Rattle.ckc_blame_walk.proofs.Named.{NamesInteger, in_type_named, form_named}
use Rattle.ckc_blame_walk.proofs.Flow.{stays_none, stays_through, stays_assigned}
use Rattle.ckc_blame_walk.proofs.Onward.{Onward, onward_none, onward_through, onward_capped}

-- ---- outcomes

-- What is made is so.
pub record Gives {A : Type 0} (P : A → Type 0) (o : Outcome A) : Type 0 where
  pub made : (a : A) → o ≡ Ok a → P a

pub through : {A B : Type 0} (P : B → Type 0) (o : Outcome A) (k : A → Outcome B) → ((a : A) → o ≡ Ok a → Gives P (k a)) → Gives P (bind o k)
through P o k h = record { made = λ b e. let m = made_of o k b e in (h m.0 m.1).made b m.2 }

pub past : {A B : Type 0} (P : B → Type 0) (o : Outcome A) (k : A → Outcome B) → ((a : A) → Gives P (k a)) → Gives P (bind o k)
past P o k h = through P o k (λ a is. h a)

pub nested : {A B C : Type 0} (P : C → Type 0) (o : Outcome A) (f : A → Outcome B) (g : B → Outcome C) → ((a : A) → o ≡ Ok a → Gives P (bind (f a) g)) → Gives P (bind (bind o f) g)
nested P (Ok a) f g h = h a refl
nested P (Err r) f g h = record { made = λ c e. absurd (cc) }

pub given : {A : Type 0} (P : A → Type 0) (a : A) → P a → Gives P (Ok a)
given P a p = record { made = λ b e. let same : a ≡ b = cc in subst P same p }

pub unless_gives : {A : Type 0} (P : A → Type 0) (b : Bool) (code : ℕ) (at : Pos) (o : Outcome A) → Gives P o → Gives P (unless b code at o)
unless_gives P b code at o h = record { made = λ a e. h.made a (unbroken b code at o a e).1 }

pub faulted : {A : Type 0} (P : A → Type 0) (r : Option Refusal) (o : Outcome A) → Gives P o → Gives P (by_fault r o)
faulted P None o h = h
faulted P (Some r) o h = record { made = λ a e. absurd (cc) }

-- ---- expressions

-- The walk goes on, at the same point.
pub record Moved (here there : Here) : Type 0 where
  pub seen : there.seen ≡ here.seen
  pub at : there.at ≡ here.at
  pub onward : Onward here there

pub moved_not : (here : Here) → Moved here here
moved_not here = record { seen = refl; at = refl; onward = onward_none here }

pub moved_through : (a b c : Here) → Moved a b → Moved b c → Moved a c
moved_through a b c h g = record { seen = g.seen ∙ h.seen; at = g.at ∙ h.at; onward = onward_through a b c h.onward g.onward }

module _ (frame : Frame) where
  pub value_moves : (e : NotedExpr) (here : Here) → Gives (λ p. Moved here p.1) (value_judged frame e here)
  unfolding value_judged
  value_moves e here =
      through (λ (p : NotedExpr × Here). Moved here p.1) (expr_judged frame e here) (λ f. Ok (f, record here { next = fresh_behind (view frame e) here.next here.at })) (λ f is.
      given (λ (p : NotedExpr × Here). Moved here p.1) (f, record here { next = fresh_behind (view frame e) here.next here.at }) (record { seen = refl; at = refl; onward = record { same = refl; grown = onward_capped here.next (length ((view frame e).fresh here.at)) } }))

  pub values_move : (es : List NotedExpr) (here : Here) → Gives (λ p. Moved here p.1) (values_judged frame es here)
  values_move [] here = given (λ (p : List NotedExpr × Here). Moved here p.1) ([], here) (moved_not here)
  values_move (e ∷ es) here =
      through (λ (p : List NotedExpr × Here). Moved here p.1) _ _ (λ p is. through (λ (p : List NotedExpr × Here). Moved here p.1) _ _ (λ q next.
      given (λ (p : List NotedExpr × Here). Moved here p.1) (p.0 ∷ q.0, q.1) (moved_through here p.1 q.1 ((value_moves e here).made p is) ((values_move es p.1).made q next))))

  pub maybe_moves : (e : Option NotedExpr) (here : Here) → Gives (λ p. Moved here p.1) (maybe_judged frame e here)
  maybe_moves None here = given (λ (p : Option NotedExpr × Here). Moved here p.1) (None, here) (moved_not here)
  maybe_moves (Some e) here =
      through (λ (p : Option NotedExpr × Here). Moved here p.1) _ _ (λ p is. given (λ (p : Option NotedExpr × Here). Moved here p.1) (Some p.0, p.1) ((value_moves e here).made p is))

  pub init_moves : (i : NotedInit) (here : Here) → Gives (λ p. Moved here p.1) (init_judged frame i here)
  init_moves init.Nothing here = given (λ (p : NotedInit × Here). Moved here p.1) (init.Nothing, here) (moved_not here)
  init_moves (init.One e) here =
      through (λ (p : NotedInit × Here). Moved here p.1) _ _ (λ p is. given (λ (p : NotedInit × Here). Moved here p.1) (init.One p.0, p.1) ((value_moves e here).made p is))
  init_moves (init.Many es) here =
      through (λ (p : NotedInit × Here). Moved here p.1) _ _ (λ p is. given (λ (p : NotedInit × Here). Moved here p.1) (init.Many p.0, p.1) ((values_move es here).made p is))

  -- ---- an expression that is a local stays it

  node_out : (x : NotedLayer) → out-Node Name Note (roll-Node Name Note x) ≡ x
  node_out x = search (rules, the_lemmas)

  node_back : (n : NotedNode) → roll-Node Name Note (out-Node Name Note n) ≡ n
  node_back n = search (rules, the_lemmas)

  out_is : (x : NotedLayer) (m : NotedNode) → roll-Node Name Note x ≡ m → out-Node Name Note m ≡ x
  out_is x m e = ap (out-Node Name Note) (sym e) ∙ node_out x

  abbrev viewed_node : NotedLayer → NodeOfViews
  viewed_node = map-Node Name Note NotedLimits NotedNode NotedExpr LimitsView NodeView View (view_of_limits frame) (view_of_node frame) (view frame)

  abbrev IsNamed : NotedLayer → NotedNode → Type 0
  IsNamed x m = local_in (out-Node Name Note m) ≡ local_in x

  named : (x y : NotedLayer) (m : NotedNode) → roll-Node Name Note y ≡ m → local_in y ≡ local_in x → IsNamed x m
  named x y m e same = ap local_in (out_is y m e) ∙ same

  node_named : (x : NotedLayer) (t : CType) (fresh : ℕ) (at : State) → Gives (IsNamed x) (node_judged frame (viewed_node x) t fresh at)
  node_named (Node-F.Number n u) t fresh at = given (IsNamed (Node-F.Number n u)) _ (named (Node-F.Number n u) (Node-F.Number n u) _ (node.rolls-Number n u) refl)
  node_named (Node-F.Text bytes) t fresh at = given (IsNamed (Node-F.Text bytes)) _ (named (Node-F.Text bytes) (Node-F.Text bytes) _ (node.rolls-Text bytes) refl)
  node_named Node-F.Null t fresh at = given (IsNamed Node-F.Null) _ (named Node-F.Null Node-F.Null _ node.rolls-Null refl)
  node_named (Node-F.Name n) t fresh at = given (IsNamed (Node-F.Name n)) _ (named (Node-F.Name n) (Node-F.Name n) _ (node.rolls-Name n) refl)
  node_named (Node-F.Un o e) t fresh at =
      past (IsNamed (Node-F.Un o e)) (unary_judged o (view frame e) fresh at) _ (λ a. given (IsNamed (Node-F.Un o e)) _ (named (Node-F.Un o e) (Node-F.Un o a) _ (node.rolls-Un o a) refl))
  node_named (Node-F.Bin o e f) t fresh at =
      past (IsNamed (Node-F.Bin o e f)) ((view frame e).judged fresh at) _ (λ a. past (IsNamed (Node-F.Bin o e f)) ((view frame f).judged (fresh_behind (view frame e) fresh at) (right_point o (view frame e) at)) _ (λ b.
      given (IsNamed (Node-F.Bin o e f)) _ (named (Node-F.Bin o e f) (Node-F.Bin o a b) _ (node.rolls-Bin o a b) refl)))
  node_named (Node-F.Pick e f g) t fresh at =
      past (IsNamed (Node-F.Pick e f g)) ((view frame e).judged fresh at) _ (λ a.
      past (IsNamed (Node-F.Pick e f g)) ((view frame f).judged (fresh_behind (view frame e) fresh at) at) _ (λ b.
      past (IsNamed (Node-F.Pick e f g)) ((view frame g).judged (fresh_behind (view frame f) (fresh_behind (view frame e) fresh at) at) at) _ (λ c.
      given (IsNamed (Node-F.Pick e f g)) _ (named (Node-F.Pick e f g) (Node-F.Pick a b c) _ (node.rolls-Pick a b c) refl))))
  node_named (Node-F.Index e f) t fresh at =
      past (IsNamed (Node-F.Index e f)) ((view frame e).judged fresh at) _ (λ a. past (IsNamed (Node-F.Index e f)) ((view frame f).judged (fresh_behind (view frame e) fresh at) at) _ (λ b.
      given (IsNamed (Node-F.Index e f)) _ (named (Node-F.Index e f) (Node-F.Index a b) _ (node.rolls-Index a b) refl)))
  node_named (Node-F.Dot e n pos) t fresh at =
      past (IsNamed (Node-F.Dot e n pos)) ((view frame e).judged fresh at) _ (λ a. given (IsNamed (Node-F.Dot e n pos)) _ (named (Node-F.Dot e n pos) (Node-F.Dot a n pos) _ (node.rolls-Dot a n pos) refl))
  node_named (Node-F.Arrow e n pos) t fresh at =
      past (IsNamed (Node-F.Arrow e n pos)) ((view frame e).judged fresh at) _ (λ a. given (IsNamed (Node-F.Arrow e n pos)) _ (named (Node-F.Arrow e n pos) (Node-F.Arrow a n pos) _ (node.rolls-Arrow a n pos) refl))
  node_named (Node-F.Cast w e) t fresh at =
      past (IsNamed (Node-F.Cast w e)) ((view frame e).judged fresh at) _ (λ a. given (IsNamed (Node-F.Cast w e)) _ (named (Node-F.Cast w e) (Node-F.Cast w a) _ (node.rolls-Cast w a) refl))
  node_named (Node-F.Size w) t fresh at = given (IsNamed (Node-F.Size w)) _ (named (Node-F.Size w) (Node-F.Size w) _ (node.rolls-Size w) refl)
  node_named (Node-F.Trusted w e None) t fresh at =
      past (IsNamed (Node-F.Trusted w e None)) ((view frame e).judged fresh at) _ (λ a. given (IsNamed (Node-F.Trusted w e None)) _ (named (Node-F.Trusted w e None) (Node-F.Trusted w a None) _ (node.rolls-Trusted w a None) refl))
  node_named (Node-F.Trusted w e (Some l)) t fresh at =
      past (IsNamed (Node-F.Trusted w e (Some l))) ((view frame e).judged fresh at) _ (λ a.
      past (IsNamed (Node-F.Trusted w e (Some l))) (there_judged (Some (view_of_limits frame l)) (size_of frame.structs (element_of t)) (fresh_behind (view frame e) fresh at) at) _ (λ k.
      given (IsNamed (Node-F.Trusted w e (Some l))) _ (named (Node-F.Trusted w e (Some l)) (Node-F.Trusted w a k) _ (node.rolls-Trusted w a k) refl)))
  node_named (Node-F.Tested w e None) t fresh at =
      past (IsNamed (Node-F.Tested w e None)) ((view frame e).judged fresh at) _ (λ a. given (IsNamed (Node-F.Tested w e None)) _ (named (Node-F.Tested w e None) (Node-F.Tested w a None) _ (node.rolls-Tested w a None) refl))
  node_named (Node-F.Tested w e (Some l)) t fresh at =
      past (IsNamed (Node-F.Tested w e (Some l))) ((view frame e).judged fresh at) _ (λ a.
      past (IsNamed (Node-F.Tested w e (Some l))) (there_judged (Some (view_of_limits frame l)) (size_of frame.structs (element_of t)) (fresh_behind (view frame e) fresh at) at) _ (λ k.
      given (IsNamed (Node-F.Tested w e (Some l))) _ (named (Node-F.Tested w e (Some l)) (Node-F.Tested w a k) _ (node.rolls-Tested w a k) refl)))
  node_named (Node-F.Call n es) t fresh at =
      past (IsNamed (Node-F.Call n es)) (all_judged (map (view frame) es) fresh at) _ (λ a. given (IsNamed (Node-F.Call n es)) _ (named (Node-F.Call n es) (Node-F.Call n a) _ (node.rolls-Call n a) refl))
  node_named (Node-F.Calloc w e u) t fresh at =
      past (IsNamed (Node-F.Calloc w e u)) ((view frame e).judged fresh at) _ (λ a. given (IsNamed (Node-F.Calloc w e u)) _ (named (Node-F.Calloc w e u) (Node-F.Calloc w a u) _ (node.rolls-Calloc w a u) refl))

  node_seen : (n : NotedNode) (t : CType) (fresh : ℕ) (at : State) → Gives (IsNamed (out-Node Name Note n)) ((view_of_node frame n).judged t fresh at)
  node_seen n t fresh at =
      let is : view_of_node frame n ≡ node_view frame (viewed_node (out-Node Name Note n)) =
      ap (view_of_node frame) (sym (node_back n)) ∙ fold-roll-Node Name Note LimitsView NodeView View limits_view (node_view frame) expr_view (out-Node Name Note n) in
      subst (λ (v : NodeView). Gives (IsNamed (out-Node Name Note n)) (v.judged t fresh at)) (sym is) (node_named (out-Node Name Note n) t fresh at)

  -- what is judged of an expression is the same local, if it is one
  judged_named : (e : NotedExpr) (fresh : ℕ) (at : State) → Gives (λ f. local_of f ≡ local_of e) ((view frame e).judged fresh at)
  judged_named e fresh at =
      let is : view frame e ≡ expr_view (record { node = view_of_node frame e.node; pos = e.pos; note = e.note }) =
      fold-roll-Expr Name Note LimitsView NodeView View limits_view (node_view frame) expr_view (record { node = e.node; pos = e.pos; note = e.note }) in
      subst (λ (v : View). Gives (λ f. local_of f ≡ local_of e) (v.judged fresh at)) (sym is)
      (through (λ (f : NotedExpr). local_of f ≡ local_of e) _ _ (λ m made.
      faulted (λ (f : NotedExpr). local_of f ≡ local_of e) _ _
      (given (λ (f : NotedExpr). local_of f ≡ local_of e) (expr_made e.pos e.note (pointer_range e.note.ctype (view_of_node frame e.node) 0 fresh at) m)
      ((node_seen e.node e.note.ctype fresh at).made m made))))

  pub value_named : (e : NotedExpr) (here : Here) → Gives (λ p. local_of p.0 ≡ local_of e) (value_judged frame e here)
  unfolding value_judged
  value_named e here =
      through (λ (p : NotedExpr × Here). local_of p.0 ≡ local_of e) (expr_judged frame e here) (λ f. Ok (f, record here { next = fresh_behind (view frame e) here.next here.at })) (λ f is.
      given (λ (p : NotedExpr × Here). local_of p.0 ≡ local_of e) (f, record here { next = fresh_behind (view frame e) here.next here.at }) (by here.counting f is))
    where
      by : (b : Bool) (f : NotedExpr) → ◌≡◌ {A = Outcome NotedExpr} (if b then Ok e else (view frame e).judged here.next here.at) (Ok f) → local_of f ≡ local_of e
      by true f is = let same : e ≡ f = cc in ap local_of (sym same)
      by false f is = (judged_named e here.next here.at).made f is

  -- ---- assignments

  abbrev pub as_list : Option ℕ → List ℕ
  as_list None = []
  as_list (Some k) = k ∷ []

  -- the locals that assignments assign
  abbrev pub locals_of : List Store → List ℕ
  locals_of [] = []
  locals_of (s ∷ ss) = as_list (local_of s.target) ++ locals_of ss

  pub named_list : (e : NotedExpr) → as_list (local_of e) ≡ target_in e
  named_list e = by (out-Node Name Note e.node)
    where
      by_name : (n : Name) → as_list (local_named n) ≡ paths.local_in n
      by_name (name.Local k) = refl
      by_name n = refl

      by : (x : NotedLayer) → as_list (local_in x) ≡ local_in_node x
      by (Node-F.Name n) = by_name n
      by x = refl

  stays_local : (form : Option Form) (at : State) (o : Option ℕ) → NamesInteger frame form → Stays frame (as_list o) at (assigned_local frame form at o)
  stays_local form at None i = stays_none frame [] at
  stays_local form at (Some k) i = stays_assigned frame k form at i

  stays_after : (facts : Known) (start : State) (value fresh : ℕ) (ss : List Store) (at : State) → Stays frame (locals_of ss) at (after frame facts (numbered frame start value fresh ss) at)
  stays_after facts start value fresh [] at = stays_none frame [] at
  stays_after facts start value fresh (s ∷ ss) at =
      let first : Placed = record { target = s.target; right = s.right; pos = s.pos; from = record { value = value; fresh = fresh_behind (view frame s.target) fresh start } } in
      let next : State = assigned_local frame (received frame facts first) at (local_of s.target) in
      stays_through frame (as_list (local_of s.target)) (locals_of ss) at next _ (stays_local (received frame facts first) at (local_of s.target) (in_type_named frame facts s.target.note.ctype ((view frame s.right).form facts) (form_named frame s.right facts)))
      (stays_after facts start (capped value (view frame s.right).values) (fresh_behind (view frame s.right) (fresh_behind (view frame s.target) fresh start) start) ss next)

  not_refused : (r : Option Refusal) (at b : State) → unless_refused r at ≡ Ok b → at ≡ b
  not_refused None at b e = cc
  not_refused (Some r) at b e = absurd (cc)

  stored_stays : (head : HeadBounds) (ss : List NotedStmt) (first : ℕ) (here : Here) → Gives (λ at. Stays frame (locals_of (stores_of ss)) here.at at) (stores_judged frame head ss first here)
  unfolding stored_placed
  stored_stays head ss first here = by here.counting
    where
      result : State
      result = after frame here.at.facts (numbered frame here.at 0 first (stores_of ss)) here.at

      kept : Stays frame (locals_of (stores_of ss)) here.at result
      kept = stays_after here.at.facts here.at 0 first (stores_of ss) here.at

      by : (b : Bool) → Gives (λ at. Stays frame (locals_of (stores_of ss)) here.at at)
          (if b then Ok (passed frame (stores_of ss) first here.at) else stored frame head.bounds here.seen (stores_of ss) first here.at)
      by true = given (λ at. Stays frame (locals_of (stores_of ss)) here.at at) result kept
      by false = record {
        made = λ at e. subst (λ at. Stays frame (locals_of (stores_of ss)) here.at at)
            (not_refused (first_fault frame head.bounds here.seen (numbered frame here.at 0 first (stores_of ss)) here.at) result at e) kept;
      }

  pub record Stored (ks : List ℕ) (here there : Here) : Type 0 where
    pub seen : there.seen ≡ here.seen
    pub onward : Onward here there
    pub next : there.next ≡ here.next
    pub stays : Stays frame ks here.at there.at

  pub stores_stay : (head : HeadBounds) (ss : List NotedStmt) (first : ℕ) (here : Here) → Gives (Stored (locals_of (stores_of ss)) here) (behind_stores frame head ss first here)
  stores_stay head ss first here =
      through (Stored (locals_of (stores_of ss)) here) _ _ (λ at is.
      given (Stored (locals_of (stores_of ss)) here) (record here { at = at }) (record { seen = refl; onward = onward_none here; next = refl; stays = (stored_stays head ss first here).made at is }))
