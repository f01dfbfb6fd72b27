-- Of assignments that are judged as one no two are to one local, and no right side names an earlier target.
use Rattle.std.proofs.Common.{◌≡◌, refl, sym, ap, subst, ◌∙◌, ℕ, zero, suc, ◌==◌, Bool, true, false, List, [], ◌∷◌, ◌++◌, length}
use Rattle.std.specs.Prelude.{not, nat_le, ◌&&◌, if◌then◌else◌, slice_get, Option, None, Some}
use Rattle.std.specs.List.{All, Contains, list_any}
use Rattle.std.proofs.lemmas.Bool.{eq-eqb}
use Rattle.std.proofs.lemmas.List.Elements.{All-nil, All-cons, All-weaker, All-contains_itself}
use Rattle.ckc_base.specs.declared.places.Pos.{Pos}
use Rattle.ckc_syntax.specs.declared.tree.Name.{Name}
use Rattle.ckc_syntax.specs.declared.tree.Name.TheVariants as name
use Rattle.ckc_syntax.specs.declared.tree.Node.{Node-F, out-Node, fold-roll-Node}
use Rattle.ckc_syntax.specs.declared.tree.Act.{Act-F, out-Act}
use Rattle.ckc_typed.specs.declared.typed.Note.{Note}
use Rattle.ckc_typed.specs.Trees.{NotedAct, NotedExpr, NotedLayer, NotedNode, NotedStmt}
use Rattle.ckc_blame_sound.specs.ckc_bounds_points.specs.declared.frame.Frame.{Frame}
use Rattle.ckc_blame_sound.specs.ckc_bounds_points.specs.Flow.{State}
use Rattle.ckc_blame_sound.specs.ckc_bounds_known.proofs.Reaching.{and_cases}
use Rattle.ckc_blame_sound.specs.ckc_bounds_ranges.specs.Bundles.{local_target, Mention, limits_mention, node_mention, expr_mention, mention_of_node, mention, is_call, is_in_the_way, may_follow, names_earlier, target_behind, target_in, and_rest, all_follow}
use Rattle.ckc_blame_sound.specs.ckc_bounds_stores.specs.Targets.{local_in, local_of}
use Rattle.ckc_blame_sound.specs.ckc_bounds_stores.specs.Stores.{Placed, with_store, stores_of, numbered}
use Rattle.ckc_blame_sound.proofs.Types.{some_is, none_is_some}
use Rattle.ckc_blame_sound.proofs.Tests.{left_of, right_of}
use Rattle.ckc_blame_given.specs.Written.{AreOne}
use Rattle.ckc_blame_given.proofs.Named.{node_back, holds_of, names_local, mentioned_node, mention_is}

-- A later assignment is to another local, and its right side does not name this one.
pub record IsAfter (p q : Placed) : Type 0 where
  pub target : (k : ℕ) → local_of p.target ≡ Some k → local_of q.target ≡ Some k → ⊥
  pub right : (k : ℕ) → local_of p.target ≡ Some k → names_local (mention q.right) k ≡ false

-- this of each two
abbrev pub AreApart : List Placed → Type 0
AreApart [] = Unit {0}
AreApart (p ∷ ps) = All (IsAfter p) ps × AreApart ps

-- ---- targets

node_mention_is : (n : NotedNode) → mention_of_node n ≡ node_mention (mentioned_node (out-Node Name Note n))
node_mention_is n =
    ap mention_of_node (sym (node_back n)) ∙ fold-roll-Node Name Note _ Mention Mention limits_mention node_mention expr_mention (out-Node Name Note n)

-- an expression that is a local is that target
pub target_is : (e : NotedExpr) (k : ℕ) → local_of e ≡ Some k → (mention e).target ≡ local_target (name.Local k)
target_is e k h =
    ap (λ (m : Mention). m.target) (mention_is (record { node = e.node; pos = e.pos; note = e.note }) ∙ node_mention_is e.node) ∙ by (out-Node Name Note e.node) h
  where
    by : (x : NotedLayer) → local_in x ≡ Some k → (node_mention (mentioned_node x)).target ≡ local_target (name.Local k)
    by (Node-F.Name (name.Local j)) e = let same : j ≡ k = cc in ap (λ i. local_target (name.Local i)) same
    by (Node-F.Name n) e = absurd (cc)
    by x e = absurd (cc)

-- ---- lists

any_at : {T : Type 0} (test : T → Bool) (xs : List T) (i : ℕ) (o : Option T) → slice_get xs i ≡ o → holds_of test o ≡ true → list_any test xs ≡ true
any_at test [] i None e h = absurd (cc)
any_at test [] i (Some a) e h = absurd (cc)
any_at test (x ∷ xs) i None e h = absurd (cc)
any_at test (x ∷ xs) zero (Some a) e h = let same : x ≡ a = cc in left_of (test x) (list_any test xs) (ap test same ∙ h)
any_at test (x ∷ xs) (suc i) (Some a) e h = right_of (test x) (list_any test xs) (any_at test xs i (Some a) e h)

there_still : {T : Type 0} (xs ys : List T) (i : ℕ) (a : T) → slice_get xs i ≡ Some a → slice_get (xs ++ ys) i ≡ Some a
there_still [] ys i a e = absurd (cc)
there_still (x ∷ xs) ys zero a e = e
there_still (x ∷ xs) ys (suc i) a e = there_still xs ys i a e

last_there : {T : Type 0} (xs : List T) (y : T) → slice_get (xs ++ y ∷ []) (length xs) ≡ Some y
last_there [] y = refl
last_there (x ∷ xs) y = last_there xs y

not_true : (b : Bool) → not b ≡ true → b ≡ true → ⊥
not_true true n e = absurd (cc)
not_true false n e = absurd (cc)

not_false : (b : Bool) → (b ≡ true → ⊥) → b ≡ false
not_false true h = absurd (h refl)
not_false false h = refl

-- ---- bundles

-- An assignment is not to the local k, and its right side does not name it.
record IsPast (k : ℕ) (q : Placed) : Type 0 where
  pub target : local_of q.target ≡ Some k → ⊥
  pub right : names_local (mention q.right) k ≡ false

abbrev Layer : Type 0
Layer = Act-F Name Note NotedAct NotedStmt

rest_made : (o : _) (rest : _) → and_rest o rest ≡ true → (t : _) × (o ≡ Some t) × (rest t ≡ true)
rest_made None rest h = absurd (cc)
rest_made (Some t) rest h = (t, refl, h)

behind_made : (earlier : _) (o : _) (f : NotedExpr) (t : _) → target_behind earlier o f ≡ Some t
    → (o ≡ Some t) × (may_follow earlier t ≡ true) × (not (names_earlier earlier f) ≡ true)
behind_made earlier None f t h = absurd (cc)
behind_made earlier (Some u) f t h = by (may_follow earlier u && (not (is_call f) && not (names_earlier earlier f))) refl h
  where
    by : (b : Bool) → (may_follow earlier u && (not (is_call f) && not (names_earlier earlier f))) ≡ b → (if b then Some u else None) ≡ Some t
        → (Some u ≡ Some t) × (may_follow earlier t ≡ true) × (not (names_earlier earlier f) ≡ true)
    by false good h = absurd (cc)
    by true good h =
        let a = and_cases (may_follow earlier u) (not (is_call f) && not (names_earlier earlier f)) good in
        let b = and_cases (not (is_call f)) (not (names_earlier earlier f)) a.1 in
        let same : u ≡ t = cc in
        (h, subst (λ v. may_follow earlier v ≡ true) same a.0, b.1)

-- an assignment that may stand after those with earlier targets, of which one is the local k
head_past : (k i : ℕ) (earlier : _) → slice_get earlier i ≡ local_target (name.Local k) → (e f : NotedExpr) (t : _) → target_behind earlier (mention e).target f ≡ Some t
    → (local_of e ≡ Some k → ⊥) × (names_local (mention f) k ≡ false)
head_past k i earlier there e f t h =
    let m = behind_made earlier (mention e).target f t h in (
      λ named.
          let same : local_target (name.Local k) ≡ Some t = sym (target_is e k named) ∙ m.0 in
          let itself : holds_of (is_in_the_way t) (Some t) ≡ true =
          subst (λ o. holds_of (λ u. holds_of (λ v. is_in_the_way v u) o) o ≡ true) same (left_of (k == k) (not true) (eq-eqb k k refl)) in
          not_true (list_any (is_in_the_way t) earlier) m.1 (any_at (is_in_the_way t) earlier i (Some t) (there ∙ same) itself),
      not_false (names_local (mention f) k)
          (λ named. not_true (names_earlier earlier f) m.2 (any_at (λ u. (mention f).names u) earlier i (local_target (name.Local k)) there named)),
    )

module _ (frame : Frame) (at : State) where
  past_step : (k i : ℕ) (ss : List NotedStmt) (earlier : _) → slice_get earlier i ≡ local_target (name.Local k) → (x : Layer) (pos : Pos)
      → ((more : _) → slice_get more i ≡ local_target (name.Local k) → all_follow ss more ≡ true → (value fresh : ℕ) → All (IsPast k) (numbered frame at value fresh (stores_of ss)))
      → and_rest (target_in earlier x) (λ t. all_follow ss (earlier ++ t ∷ [])) ≡ true → (value fresh : ℕ)
      → All (IsPast k) (numbered frame at value fresh (with_store x pos (stores_of ss)))
  past_step k i ss earlier there (Act-F.Assign e f) pos rest h value fresh =
      let m = rest_made (target_behind earlier (mention e).target f) (λ t. all_follow ss (earlier ++ t ∷ [])) h in
      let p = head_past k i earlier there e f m.0 m.1 in
      All-cons (IsPast k) _ _ (record { target = p.0; right = p.1 }) (rest (earlier ++ m.0 ∷ []) (there_still earlier (m.0 ∷ []) i _ there) m.2 _ _)
  past_step k i ss earlier there x pos rest h value fresh = absurd (cc)

  -- the assignments of a bundle after those with earlier targets, of which one is the local k
  past : (k i : ℕ) (ss : List NotedStmt) (earlier : _) → slice_get earlier i ≡ local_target (name.Local k) → all_follow ss earlier ≡ true → (value fresh : ℕ)
      → All (IsPast k) (numbered frame at value fresh (stores_of ss))
  past k i [] earlier there h value fresh = All-nil (IsPast k)
  past k i (st ∷ ss) earlier there h value fresh =
      past_step k i ss earlier there (out-Act Name Note st.body) st.pos (λ more g all v n. past k i ss more g all v n) h value fresh

  after_all : (p : Placed) (ps : List Placed) → ((k : ℕ) → local_of p.target ≡ Some k → All (IsPast k) ps) → All (IsAfter p) ps
  after_all p ps h = by (local_of p.target) refl
    where
      by : (o : Option ℕ) → local_of p.target ≡ o → All (IsAfter p) ps
      by None is =
          All-weaker (Contains ps) (IsAfter p)
          (λ q c. record { target = λ k e f. none_is_some k (sym is ∙ e); right = λ k e. none_is_some k (sym is ∙ e) }) ps (All-contains_itself ps)
      by (Some k) is =
          All-weaker (IsPast k) (IsAfter p) (λ q g. record {
            target = λ j e f. g.target (f ∙ ap (λ i. Some i) (some_is j k (sym e ∙ is)));
            right = λ j e. ap (names_local (mention q.right)) (some_is j k (sym e ∙ is)) ∙ g.right;
          }) ps (h k is)

  apart_step : (ss : List NotedStmt) (earlier : _) (x : Layer) (pos : Pos) → ((more : _) → all_follow ss more ≡ true → (value fresh : ℕ) → AreApart (numbered frame at value fresh (stores_of ss)))
      → and_rest (target_in earlier x) (λ t. all_follow ss (earlier ++ t ∷ [])) ≡ true → (value fresh : ℕ) → AreApart (numbered frame at value fresh (with_store x pos (stores_of ss)))
  apart_step ss earlier (Act-F.Assign e f) pos rest h value fresh =
      let m = rest_made (target_behind earlier (mention e).target f) (λ t. all_follow ss (earlier ++ t ∷ [])) h in
      let b = behind_made earlier (mention e).target f m.0 m.1 in (
        after_all _ _ (λ k named. past k (length earlier) ss (earlier ++ m.0 ∷ []) (last_there earlier m.0 ∙ sym (sym (target_is e k named) ∙ b.0)) m.2 _ _),
        rest (earlier ++ m.0 ∷ []) m.2 _ _,
      )
  apart_step ss earlier x pos rest h value fresh = absurd (cc)

  bundle_apart : (ss : List NotedStmt) (earlier : _) → all_follow ss earlier ≡ true → (value fresh : ℕ) → AreApart (numbered frame at value fresh (stores_of ss))
  bundle_apart [] earlier h value fresh = tt
  bundle_apart (st ∷ ss) earlier h value fresh =
      apart_step ss earlier (out-Act Name Note st.body) st.pos (λ more all v n. bundle_apart ss more all v n) h value fresh

  -- assignments that are judged as one
  pub ones_apart : (ss : List NotedStmt) → AreOne ss → (value fresh : ℕ) → AreApart (numbered frame at value fresh (stores_of ss))
  ones_apart [] one value fresh = tt
  ones_apart (st ∷ []) one value fresh = by (out-Act Name Note st.body)
    where
      by : (x : Layer) → AreApart (numbered frame at value fresh (with_store x st.pos []))
      by (Act-F.Assign e f) = (All-nil (IsAfter _), tt)
      by x = tt
  ones_apart (st ∷ su ∷ ss) one value fresh =
      let a = and_cases (nat_le 2 (length (st ∷ su ∷ ss))) (nat_le (length (st ∷ su ∷ ss)) 8 && all_follow (st ∷ su ∷ ss) []) one in
      let b = and_cases (nat_le (length (st ∷ su ∷ ss)) 8) (all_follow (st ∷ su ∷ ss) []) a.1 in
      bundle_apart (st ∷ su ∷ ss) [] b.1 value fresh
