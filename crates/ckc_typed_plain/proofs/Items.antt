-- The items of a plain tree are those of the tree before, but for the bodies of its functions.
use Rattle.std.proofs.Common.{◌≡◌, ◌∙◌, ◌<◌, sym, ap, refl, subst, ℕ, zero, suc, List, [], ◌∷◌, ◌++◌, map, length, get_or, arith}
use Rattle.std.specs.Prelude.{All, Any, Ok}
use Rattle.std.specs.List.{flat_map}
use Rattle.std.proofs.lemmas.List.Elements.{All-nil, All-cons, All-head, All-tail}
use Rattle.ckc_base.specs.declared.places.Pos.{Pos}
use Rattle.ckc_base.specs.Outcomes.{Outcome, bind}
use Rattle.ckc_syntax.specs.declared.tree.Item.TheVariants as item
use Rattle.ckc_syntax.specs.declared.tree.NamedText.{NamedText}
use Rattle.ckc_syntax.specs.Trees.{Tree, NamedTree, NamedHead, NamedItem, NamedStmt}
use Rattle.ckc_syntax_limits.specs.Small.{Small}
use Rattle.ckc_plain.specs.ckc_plain_barred.specs.declared.integers.Integers.{Integers}
use Rattle.ckc_plain.specs.ckc_plain_barred.specs.Integers.{known_of}
use Rattle.ckc_plain.specs.ckc_plain_barred.specs.Barred.{barred}
use Rattle.ckc_plain.specs.ckc_plain_bodies.specs.Statements.{item_plain, plain}
use Rattle.ckc_plain.specs.Phase.{unless_some, text_plain, resolving}
use Rattle.ckc_typed_plain.specs.Resolved.{IsResolved}

-- ---- what the phases make

record IsPlain (t p : NamedText) : Type 0 where
  pub free : barred t.tree ≡ []
  pub is : p ≡ record { tree = plain t.tree; main = t.main }

plain_made : (t p : NamedText) → text_plain t ≡ Ok p → IsPlain t p
plain_made t p made = by (barred t.tree) refl made
  where
    by : (places : List Pos) → barred t.tree ≡ places → bind (unless_some places) (λ ok. Ok (record { tree = plain t.tree; main = t.main })) ≡ Ok p → IsPlain t p
    by [] free made = record { free = free; is = sym (by_ok made) }
      where
        by_ok : ◌≡◌ {A = Outcome NamedText} (Ok (record { tree = plain t.tree; main = t.main })) (Ok p) → record { tree = plain t.tree; main = t.main } ≡ p
        by_ok e = cc
    by (pos ∷ rest) free made = absurd cc

pub resolved_of : (t : Tree) (n : NamedText) → resolving.Makes t n → IsResolved t n
resolved_of t n m =
    let p = plain_made m.0 m.2.0 m.2.1 in
    let tree : n.tree ≡ plain m.0.tree = m.2.2.0.1 ∙ ap (λ (x : NamedText). x.tree) p.is in
    record {
      resolved = m.0;
      has_names = m.1;
      free = p.free;
      tree = tree;
      main = m.2.2.1 ∙ ap (λ (x : NamedText). x.main) p.is;
      small = let P : NamedTree → Type 0 = λ x. Small x in subst P (sym m.2.2.0.1) m.2.2.0.0;
    }

-- ---- what looks at no bodies

any_here : {X : Type 0} (P : X → Type 0) (x : X) (xs : List X) → P x → Any P (x ∷ xs)
any_here P x xs p = (0, x, omega arith, refl, p)

any_there : {X : Type 0} (P : X → Type 0) (x : X) (xs : List X) → Any P xs → Any P (x ∷ xs)
any_there P x xs a = (suc a.0, a.1, omega (arith, a.2), a.3, a.4)

module _ (known : Integers) where
  abbrev IsBlind : (NamedItem → Type 0) → Type 0
  IsBlind P = (h : NamedHead) (b c : NamedStmt) → P (item.Function h b) → P (item.Function h c)

  -- a claim on an item holds of what it becomes
  one_kept : (P : NamedItem → Type 0) → IsBlind P → (i : NamedItem) → P i → P (item_plain known i)
  one_kept P blind (item.Directive d) p = p
  one_kept P blind (item.Tag n at) p = p
  one_kept P blind (item.Struct n members at) p = p
  one_kept P blind (item.Static d) p = p
  one_kept P blind (item.Proto g) p = p
  one_kept P blind (item.Function g body) p = blind g body _ p

  all_kept : (P : NamedItem → Type 0) → IsBlind P → (is : List NamedItem) → All P is → All P (map (item_plain known) is)
  all_kept P blind [] h = All-nil P
  all_kept P blind (i ∷ is) h = All-cons P (item_plain known i) (map (item_plain known) is) (one_kept P blind i (All-head P i is h)) (all_kept P blind is (All-tail P i is h))

  any_at : (P : NamedItem → Type 0) → IsBlind P → (is : List NamedItem) (k : ℕ) (x : NamedItem) → k < length is → get_or is k x ≡ x → P x → Any P (map (item_plain known) is)
  any_at P blind [] k x h e p = absurd (omega (arith, h))
  any_at P blind (i ∷ is) zero x h e p = any_here P (item_plain known i) (map (item_plain known) is) (one_kept P blind i (subst P (sym e) p))
  any_at P blind (i ∷ is) (suc k) x h e p = any_there P (item_plain known i) (map (item_plain known) is) (any_at P blind is k x (omega (arith, h)) e p)

  any_kept : (P : NamedItem → Type 0) → IsBlind P → (is : List NamedItem) → Any P is → Any P (map (item_plain known) is)
  any_kept P blind is a = any_at P blind is a.0 a.1 a.2 a.3 a.4

  -- a function of items gives the same of what they become
  module _ {X : Type 0} (f : NamedItem → X) (blind : (h : NamedHead) (b c : NamedStmt) → f (item.Function h b) ≡ f (item.Function h c)) where
    pub item_kept : (i : NamedItem) → f (item_plain known i) ≡ f i
    item_kept (item.Directive d) = refl
    item_kept (item.Tag n at) = refl
    item_kept (item.Struct n members at) = refl
    item_kept (item.Static d) = refl
    item_kept (item.Proto g) = refl
    item_kept (item.Function g body) = blind g _ body

    pub map_kept : (is : List NamedItem) → map f (map (item_plain known) is) ≡ map f is
    map_kept [] = refl
    map_kept (i ∷ is) = ap (λ x. x ∷ map f (map (item_plain known) is)) (item_kept i) ∙ ap (λ xs. f i ∷ xs) (map_kept is)

  module _ {X : Type 0} (f : NamedItem → List X) (blind : (h : NamedHead) (b c : NamedStmt) → f (item.Function h b) ≡ f (item.Function h c)) where
    flat_kept : (is : List NamedItem) → flat_map f (map (item_plain known) is) ≡ flat_map f is
    flat_kept [] = refl
    flat_kept (i ∷ is) = ap (λ x. x ++ flat_map f (map (item_plain known) is)) (item_kept f blind i) ∙ ap (λ xs. f i ++ xs) (flat_kept is)

-- ---- the same of the text that the phases make

module _ (t : Tree) (n : NamedText) (r : IsResolved t n) where
  abbrev before : List NamedItem
  before = r.resolved.tree.items

  items_are : n.tree.items ≡ map (item_plain (known_of r.resolved.tree)) before
  items_are = ap (λ (x : NamedTree). x.items) r.tree

  pub all_items : (P : NamedItem → Type 0) → ((h : NamedHead) (b c : NamedStmt) → P (item.Function h b) → P (item.Function h c)) → All P before → All P n.tree.items
  all_items P blind h = subst (λ is. All P is) (sym items_are) (all_kept (known_of r.resolved.tree) P blind before h)

  pub any_item : (P : NamedItem → Type 0) → ((h : NamedHead) (b c : NamedStmt) → P (item.Function h b) → P (item.Function h c)) → Any P before → Any P n.tree.items
  any_item P blind h = subst (λ is. Any P is) (sym items_are) (any_kept (known_of r.resolved.tree) P blind before h)

  pub flat_items : {X : Type 0} (f : NamedItem → List X) → ((h : NamedHead) (b c : NamedStmt) → f (item.Function h b) ≡ f (item.Function h c)) → flat_map f n.tree.items ≡ flat_map f before
  flat_items f blind = ap (flat_map f) items_are ∙ flat_kept (known_of r.resolved.tree) f blind before

  pub map_items : {X : Type 0} (f : NamedItem → X) → ((h : NamedHead) (b c : NamedStmt) → f (item.Function h b) ≡ f (item.Function h c)) → map f n.tree.items ≡ map f before
  map_items f blind = ap (map f) items_are ∙ map_kept (known_of r.resolved.tree) f blind before
