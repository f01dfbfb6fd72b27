-- That a tree is small is that it breaks nothing.
use Rattle.std.proofs.Common.{arith, refl, ◌≡◌, ◌<◌, ◌≤◌, ◌↔◌, ◌+◌, ◌-◌, ◌^◌, min, ℕ, suc, length, List, [], ◌∷◌, ◌++◌, ap, sym, subst, ◌∙◌, zero-add, lit<, get_or, drop, drop-cons, add-one, append_assoc, Bool, true, false, cond}
use Rattle.std.specs.Prelude.{Result, Ok, Err, IsOk, flat_map, count_by, nat_lt}
use Rattle.std.specs.List.{AllByRecursion}
use Rattle.ckc_base.specs.declared.places.Pos.{Pos}
use Rattle.ckc_base.specs.declared.places.Refusal.{Refusal}
use Rattle.ckc_base.specs.Places.{start}
use Rattle.ckc_syntax_limits.specs.declared.tally.Tally.{Tally}
use Rattle.ckc_syntax.specs.declared.tree.Tree.{Tree}
use Rattle.ckc_syntax.specs.declared.tree.Item.{Item}
use Rattle.ckc_syntax.specs.declared.tree.Item.TheVariants as item
use Rattle.ckc_syntax_limits.specs.code.Tally.{counted, tallied, nothing, raised}
use Rattle.ckc_syntax_limits.specs.Marks.{Mark, node, local, text, function, static, marks_of, marks_of_item, is_node, is_local, is_text, is_function, is_static}
use Rattle.ckc_syntax_limits.specs.Small.{Small, SmallItem, IsFirst, how_many, over, faults_of, faults_of_item, faults_of_function, faults_of_marks}
use Rattle.ckc_syntax_limits.specs.code.Small.{Judges}
use Rattle.std.proofs.lemmas.Bool.Decides.{nat_tests}
use Rattle.std.proofs.lemmas.List.Sums.{sum_by-cons}
use Rattle.std.proofs.lemmas.List.{drop_all}

-- a number that is over its limit is refused, and no other
within : (limit n code : ℕ) (pos : Pos) → n ≤ limit → over limit n code pos ≡ []
within limit n code pos h = grind (arith, nat_tests)

cut : (b : Bool) (r : Refusal) → cond b (r ∷ []) [] ≡ [] → b ≡ false
cut true r h = cc
cut false r h = refl

kept : (limit n code : ℕ) (pos : Pos) → over limit n code pos ≡ [] → n ≤ limit
kept limit n code pos h = let e = cut (nat_lt limit n) (record { code = code; pos = pos }) h in grind (arith, nat_tests)

both_nil : {X : Type 0} (xs ys : List X) → xs ++ ys ≡ [] → (xs ≡ []) × (ys ≡ [])
both_nil [] ys e = (refl, e)
both_nil (x ∷ xs) ys e = (cc, cc)

of_both_nil : {X : Type 0} (xs ys : List X) → xs ≡ [] → ys ≡ [] → xs ++ ys ≡ []
of_both_nil xs ys e f = cc

-- counts that stand still at the end of their type
counts : (b : Mark → Bool) (t : ℕ) (ms : List Mark) → ℕ
counts b t [] = t
counts b t (m ∷ ms) = counts b (cond (b m) (raised t) t) ms

count_by-cons : (b : Mark → Bool) (m : Mark) (ms : List Mark) → count_by b (m ∷ ms) ≡ cond (b m) 1 0 + count_by b ms
count_by-cons b m ms = sum_by-cons (λ x. cond (b x) 1 0) m ms

one : (here : Bool) (t all more : ℕ) (f : ℕ → ℕ) → t ≤ 2 ^ 32 - 1 → all ≡ cond here 1 0 + more →
    f (raised t) ≡ min (raised t + more) (2 ^ 32 - 1) → f t ≡ min (t + more) (2 ^ 32 - 1) → f (cond here (raised t) t) ≡ min (t + all) (2 ^ 32 - 1)
one true t all more f h e a b = omega (arith, a)
one false t all more f h e a b = omega (arith, b)

counts_is : (b : Mark → Bool) (t : ℕ) (ms : List Mark) → t ≤ 2 ^ 32 - 1 → counts b t ms ≡ min (t + count_by b ms) (2 ^ 32 - 1)
unfolding counts
counts_is b t [] h = omega arith
counts_is b t (m ∷ ms) h =
    let c = count_by-cons b m ms in
    one (b m) t (count_by b (m ∷ ms)) (count_by b ms) (λ t. counts b t ms) h c (counts_is b (raised t) ms (omega arith)) (counts_is b t ms h)

-- a part of the tally that counts the marks of a kind
module _ (b : Mark → Bool) (part : Tally → ℕ) (counts_mark : (t : Tally) (m : Mark) → part (counted t m) ≡ cond (b m) (raised (part t)) (part t)) where
  part_count : (t : Tally) (ms : List Mark) → part (tallied t ms) ≡ counts b (part t) ms
  unfolding counts
  part_count t [] = refl
  part_count t (m ∷ ms) = part_count (counted t m) ms ∙ ap (λ n. counts b n ms) (counts_mark t m)

nodes_count : (t : Tally) (ms : List Mark) → (tallied t ms).nodes ≡ counts is_node t.nodes ms
nodes_count = part_count is_node (λ t. t.nodes) (λ t m. elim m as (λ m. (counted t m).nodes ≡ cond (is_node m) (raised t.nodes) t.nodes) [ node ↦ refl | local ↦ refl | text ↦ refl | function ↦ refl | static ↦ refl ])

locals_count : (t : Tally) (ms : List Mark) → (tallied t ms).locals ≡ counts is_local t.locals ms
locals_count = part_count is_local (λ t. t.locals) (λ t m. elim m as (λ m. (counted t m).locals ≡ cond (is_local m) (raised t.locals) t.locals) [ node ↦ refl | local ↦ refl | text ↦ refl | function ↦ refl | static ↦ refl ])

texts_count : (t : Tally) (ms : List Mark) → (tallied t ms).texts ≡ counts is_text t.texts ms
texts_count = part_count is_text (λ t. t.texts) (λ t m. elim m as (λ m. (counted t m).texts ≡ cond (is_text m) (raised t.texts) t.texts) [ node ↦ refl | local ↦ refl | text ↦ refl | function ↦ refl | static ↦ refl ])

functions_count : (t : Tally) (ms : List Mark) → (tallied t ms).functions ≡ counts is_function t.functions ms
functions_count = part_count is_function (λ t. t.functions) (λ t m. elim m as (λ m. (counted t m).functions ≡ cond (is_function m) (raised t.functions) t.functions) [ node ↦ refl | local ↦ refl | text ↦ refl | function ↦ refl | static ↦ refl ])

statics_count : (t : Tally) (ms : List Mark) → (tallied t ms).statics ≡ counts is_static t.statics ms
statics_count = part_count is_static (λ t. t.statics) (λ t m. elim m as (λ m. (counted t m).statics ≡ cond (is_static m) (raised t.statics) t.statics) [ node ↦ refl | local ↦ refl | text ↦ refl | function ↦ refl | static ↦ refl ])

-- a count that stands still is over a small limit exactly when the number is
same_over : (limit n code : ℕ) (pos : Pos) → limit < 2 ^ 32 - 1 → over limit (min n (2 ^ 32 - 1)) code pos ≡ over limit n code pos
same_over limit n code pos h = grind (arith, nat_tests)

count_of : (b : Mark → Bool) (ms : List Mark) → counts b 0 ms ≡ min (how_many b ms) (2 ^ 32 - 1)
count_of b ms = counts_is b 0 ms (omega arith) ∙ ap (λ n. min n (2 ^ 32 - 1)) (zero-add (count_by b ms))

over_tallied : (limit code : ℕ) (pos : Pos) (n : ℕ) (b : Mark → Bool) (ms : List Mark) → limit < 2 ^ 32 - 1 → n ≡ counts b 0 ms → over limit n code pos ≡ over limit (how_many b ms) code pos
over_tallied limit code pos n b ms h e =
    ap (λ k. over limit k code pos) (e ∙ count_of b ms) ∙ same_over limit (how_many b ms) code pos h

pub function_faults : (t : Tally) (ms : List Mark) (pos : Pos) → t ≡ tallied nothing ms → over 1000 t.nodes 203 pos ++ over 255 t.locals 204 pos ≡ faults_of_function ms pos
function_faults t ms pos e =
    let n = over_tallied 1000 203 pos t.nodes is_node ms (lit< tt) (ap (λ t. t.nodes) e ∙ nodes_count nothing ms) in
    let l = over_tallied 255 204 pos t.locals is_local ms (lit< tt) (ap (λ t. t.locals) e ∙ locals_count nothing ms) in
    rw (n, l) refl

pub whole_faults : (t : Tally) (ms : List Mark) → t ≡ tallied nothing ms →
    over 16384 t.nodes 203 start ++ (over 512 t.functions 205 start ++ (over 1024 t.statics 205 start ++ over 1024 t.texts 205 start)) ≡ faults_of_marks ms
whole_faults t ms e =
    let n = over_tallied 16384 203 start t.nodes is_node ms (lit< tt) (ap (λ t. t.nodes) e ∙ nodes_count nothing ms) in
    let f = over_tallied 512 205 start t.functions is_function ms (lit< tt) (ap (λ t. t.functions) e ∙ functions_count nothing ms) in
    let s = over_tallied 1024 205 start t.statics is_static ms (lit< tt) (ap (λ t. t.statics) e ∙ statics_count nothing ms) in
    let x = over_tallied 1024 205 start t.texts is_text ms (lit< tt) (ap (λ t. t.texts) e ∙ texts_count nothing ms) in
    rw (n, f, s, x) refl

module _ {N A : Type 0} where
  small_item : (i : Item N A) → SmallItem i → faults_of_item i ≡ []
  small_item (item.Directive d) s = refl
  small_item (item.Tag n pos) s = refl
  small_item (item.Struct n members pos) s = within 64 _ 202 pos s.depth
  small_item (item.Static d) s = within 64 _ 202 d.pos s.depth
  small_item (item.Proto h) s = within 64 _ 202 h.pos s.depth
  small_item (item.Function h body) s = of_both_nil _ _ (within 64 _ 202 h.pos s.depth) (of_both_nil _ _ (within 1000 _ 203 h.pos s.body.nodes) (within 255 _ 204 h.pos s.body.locals))

  item_small : (i : Item N A) → faults_of_item i ≡ [] → SmallItem i
  item_small (item.Directive d) e = record { depth = omega arith; body = tt }
  item_small (item.Tag n pos) e = record { depth = omega arith; body = tt }
  item_small (item.Struct n members pos) e = record { depth = kept 64 _ 202 pos e; body = tt }
  item_small (item.Static d) e = record { depth = kept 64 _ 202 d.pos e; body = tt }
  item_small (item.Proto h) e = record { depth = kept 64 _ 202 h.pos e; body = tt }
  item_small (item.Function h body) e =
      let both = both_nil _ (faults_of_function (marks_of_item (item.Function h body)) h.pos) e in
      let own = both_nil _ _ both.1 in
      record { depth = kept 64 _ 202 h.pos both.0; body = record { nodes = kept 1000 _ 203 h.pos own.0; locals = kept 255 _ 204 h.pos own.1 } }

  small_items : (is : List (Item N A)) → AllByRecursion SmallItem is → flat_map faults_of_item is ≡ []
  small_items [] s = refl
  small_items (i ∷ is) s = of_both_nil _ _ (small_item i s.0) (small_items is s.1)

  items_small : (is : List (Item N A)) → flat_map faults_of_item is ≡ [] → AllByRecursion SmallItem is
  items_small [] e = tt
  items_small (i ∷ is) e = let both = both_nil (faults_of_item i) (flat_map faults_of_item is) e in (item_small i both.0, items_small is both.1)

  pub small_is : (tree : Tree N A) → Small tree ↔ (faults_of tree ≡ [])
  small_is tree = (
    λ s. of_both_nil _ _ (small_items tree.items s.each)
        (of_both_nil _ _ (within 16384 _ 203 start s.nodes)
        (of_both_nil _ _ (within 512 _ 205 start s.functions)
        (of_both_nil _ _ (within 1024 _ 205 start s.statics) (within 1024 _ 205 start s.texts)))),
    λ e.
        let items = both_nil (flat_map faults_of_item tree.items) (faults_of_marks (marks_of tree)) e in
        let nodes = both_nil _ _ items.1 in
        let functions = both_nil _ _ nodes.1 in
        let statics = both_nil _ _ functions.1 in
        record {
          each = items_small tree.items items.0;
          nodes = kept 16384 _ 203 start nodes.0;
          functions = kept 512 _ 205 start functions.0;
          statics = kept 1024 _ 205 start statics.0;
          texts = kept 1024 _ 205 start statics.1;
        },
  )

-- the parts of a judgement, each after the one before it
pub stops : {X : Type 0} (r : Result X Refusal) (y first : Refusal) (xs ys all : List Refusal) → r ≡ Err y → y ≡ first → IsFirst first xs → xs ++ ys ≡ all → Judges r all
stops {X} r y first xs ys all e f h k =
    let whole : all ≡ first ∷ (h.0 ++ ys) = sym k ∙ ap (λ zs. zs ++ ys) h.1 in
    let found : Judges {X = X} (Err first) all = (h.0 ++ ys, whole) in
    subst (λ z. Judges z all) (sym (e ∙ ap (λ z. Err z) f)) found

pub goes : {X : Type 0} (r : Result X Refusal) (xs ys all : List Refusal) → xs ≡ [] → Judges r ys → xs ++ ys ≡ all → Judges r all
goes r xs ys all e h k = subst (λ zs. Judges r zs) (ap (λ zs. zs ++ ys) (sym e) ∙ k) h

module _ {N A : Type 0} (items : List (Item N A)) (i : ℕ) where
  pub faults_turn : (x : Item N A) → i < length items → x ≡ get_or items i x → flat_map faults_of_item (drop i items) ≡ faults_of_item x ++ flat_map faults_of_item (drop (i + 1) items)
  faults_turn x h e = rw (add-one, drop-cons items i x) (ap (λ y. faults_of_item y ++ flat_map faults_of_item (drop (suc i) items)) (sym e))

  pub faults_split : (x : Item N A) (tree : Tree N A) → i < length items → x ≡ get_or items i x → items ≡ tree.items →
      flat_map faults_of_item items ≡ flat_map faults_of_item (drop i items) →
      faults_of_item x ++ (flat_map faults_of_item (drop (i + 1) items) ++ faults_of_marks (marks_of tree)) ≡ faults_of tree
  faults_split x tree h e is kept =
      let rest = flat_map faults_of_item (drop (i + 1) items) in
      let more = faults_of_marks (marks_of tree) in
      sym (append_assoc (faults_of_item x) rest more)
      ∙ ap (λ rs. rs ++ more) (sym (faults_turn x h e) ∙ sym kept)
      ∙ ap (λ is. flat_map faults_of_item is ++ more) is

  pub faults_end : length items ≤ i → flat_map faults_of_item items ≡ flat_map faults_of_item (drop i items) → flat_map faults_of_item items ≡ []
  faults_end h kept = kept ∙ ap (λ is. flat_map faults_of_item is) (drop_all i items h)

  pub marks_end : (whole : Tally) → length items ≤ i → tallied nothing (flat_map marks_of_item items) ≡ tallied whole (flat_map marks_of_item (drop i items)) → whole ≡ tallied nothing (flat_map marks_of_item items)
  marks_end whole h kept = sym (kept ∙ ap (λ is. tallied whole (flat_map marks_of_item is)) (drop_all i items h))

pub small_ok : {N A X : Type 0} (tree : Tree N A) (r : Result X Refusal) → Judges r (faults_of tree) → (IsOk r → Small tree) × (Small tree → IsOk r)
small_ok tree (Ok x) h = (λ o. (small_is tree).1 h, λ s. refl)
small_ok tree (Err e) h = (λ o. cc, λ s. let none = (small_is tree).0 s in let some = h.1 in cc)

-- a tree has one first refusal, and none if it is small
pub same_first : {X : Type 0} (x y : X) (xs : List X) → IsFirst x xs → IsFirst y xs → x ≡ y
same_first x y xs h k = let a = h.1 in let b = k.1 in cc

pub small_none : {N A : Type 0} (tree : Tree N A) (r : Refusal) → Small tree → IsFirst r (faults_of tree) → ⊥
small_none tree r s h = let none = (small_is tree).0 s in let some = h.1 in cc
