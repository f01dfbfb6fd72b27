-- Each tree is small or has one first refusal, and the codes of the refusals.
use Rattle.std.proofs.Common.{refl, ◌⊎◌, inl, inr, ◌≡◌, ◌≤◌, lit≤, ℕ, List, [], ◌∷◌, ◌++◌, Bool, true, false, cond, sym, ap, subst, ◌∙◌, Result, Ok, Err}
use Rattle.std.specs.Prelude.{flat_map, nat_lt}
use Rattle.ckc_base.specs.declared.places.Pos.{Pos}
use Rattle.ckc_base.specs.declared.places.Refusal.{Refusal}
use Rattle.ckc_base.specs.declared.fault.Fault.{Fault}
use Rattle.ckc_base.specs.declared.fault.Fault.TheVariants.{Refused}
use Rattle.ckc_base.specs.Phases.{IsExact, Exact, viewed}
use Rattle.ckc_base.specs.Places.{start}
use Rattle.ckc_base.proofs.Phases.{exact_of}
use Rattle.ckc_syntax.specs.declared.tree.Tree.{Tree}
use Rattle.ckc_syntax.specs.declared.tree.Item.{Item}
use Rattle.ckc_syntax.specs.declared.tree.Item.TheVariants as item
use Rattle.ckc_syntax_limits.specs.Depth.{depth_of_item}
use Rattle.ckc_syntax_limits.specs.Marks.{Mark, marks_of, marks_of_item, is_node, is_local, is_text, is_function, is_static}
use Rattle.ckc_syntax_limits.specs.Phase.{limiting}
use Rattle.ckc_syntax_limits.specs.Small.{IsFirst, how_many, over, faults_of, faults_of_item, faults_of_function, faults_of_marks}
use Rattle.ckc_syntax_limits.proofs.Smalls.{small_is, small_none, same_first}

same_tree : {X : Type 0} (x y z : X) → y ≡ x → z ≡ x → y ≡ z
same_tree x y z e f = e ∙ sym f

-- a list is empty or has a first element
none_or_first : {X : Type 0} (xs : List X) → (xs ≡ []) ⊎ ((x : X) × IsFirst x xs)
none_or_first [] = inl refl
none_or_first (x ∷ xs) = inr (x, (xs, refl))

-- a tree without faults is made of itself
made_or_first : {N A : Type 0} (tree : Tree N A) → (faults_of tree ≡ []) ⊎ ((r : Refusal) × IsFirst r (faults_of tree)) →
    ((b : Tree N A) × (limiting {N = N} {A = A}).Makes tree b) ⊎ ((r : Refusal) × (limiting {N = N} {A = A}).Refuses tree r)
made_or_first tree (inl e) = inl (tree, ((small_is tree).1 e, refl))
made_or_first tree (inr f) = inr f

pub limiting_exact : {N A : Type 0} → IsExact (limiting {N = N} {A = A})
limiting_exact = record {
  made_once = λ tree b other m n. same_tree tree b other m.1 n.1;
  refused_once = λ tree r other f g. same_first r other (faults_of tree) f g;
  never_both = λ tree b r m f. small_none tree r m.0 f;
  one_of_both = λ tree. made_or_first tree (none_or_first (faults_of tree));
}

-- the codes of refusals
abbrev InCodes : Refusal → Type 0
InCodes r = (202 ≤ r.code) × (r.code ≤ 205)

abbrev AllCodes : List Refusal → Type 0
AllCodes [] = Unit {0}
AllCodes (r ∷ rs) = InCodes r × AllCodes rs

both_codes : (rs more : List Refusal) → AllCodes rs → AllCodes more → AllCodes (rs ++ more)
both_codes [] more a b = b
both_codes (r ∷ rs) more a b = (a.0, both_codes rs more a.1 b)

one_code : (broken : Bool) (r : Refusal) → InCodes r → AllCodes (cond broken (r ∷ []) [])
one_code true r c = (c, tt)
one_code false r c = tt

over_codes : (limit number code : ℕ) (pos : Pos) → 202 ≤ code → code ≤ 205 → AllCodes (over limit number code pos)
over_codes limit number code pos low high = one_code (nat_lt limit number) (record { code = code; pos = pos }) (low, high)

deep : (number : ℕ) (pos : Pos) → AllCodes (over 64 number 202 pos)
deep number pos = over_codes 64 number 202 pos (lit≤ tt) (lit≤ tt)

function_codes : (ms : List Mark) (pos : Pos) → AllCodes (faults_of_function ms pos)
function_codes ms pos =
    both_codes _ (over 255 (how_many is_local ms) 204 pos)
    (over_codes 1000 (how_many is_node ms) 203 pos (lit≤ tt) (lit≤ tt))
    (over_codes 255 (how_many is_local ms) 204 pos (lit≤ tt) (lit≤ tt))

whole_codes : (ms : List Mark) → AllCodes (faults_of_marks ms)
whole_codes ms =
    both_codes _ _ (over_codes 16384 (how_many is_node ms) 203 start (lit≤ tt) (lit≤ tt))
    (both_codes _ _ (over_codes 512 (how_many is_function ms) 205 start (lit≤ tt) (lit≤ tt))
    (both_codes _ _ (over_codes 1024 (how_many is_static ms) 205 start (lit≤ tt) (lit≤ tt))
    (over_codes 1024 (how_many is_text ms) 205 start (lit≤ tt) (lit≤ tt))))

module _ {N A : Type 0} where
  item_codes : (i : Item N A) → AllCodes (faults_of_item i)
  item_codes (item.Directive d) = tt
  item_codes (item.Tag n pos) = tt
  item_codes (item.Struct n members pos) = deep (depth_of_item (item.Struct n members pos)) pos
  item_codes (item.Static d) = deep (depth_of_item (item.Static d)) d.pos
  item_codes (item.Proto h) = deep (depth_of_item (item.Proto h)) h.pos
  item_codes (item.Function h body) =
      let marks = marks_of_item (item.Function h body) in
      both_codes _ (faults_of_function marks h.pos) (deep (depth_of_item (item.Function h body)) h.pos) (function_codes marks h.pos)

  items_codes : (is : List (Item N A)) → AllCodes (flat_map faults_of_item is)
  items_codes [] = tt
  items_codes (i ∷ is) = both_codes (faults_of_item i) (flat_map faults_of_item is) (item_codes i) (items_codes is)

  pub limiting_codes : (tree : Tree N A) (r : Refusal) → (limiting {N = N} {A = A}).Refuses tree r → InCodes r
  limiting_codes tree r f =
      let all = both_codes (flat_map faults_of_item tree.items) (faults_of_marks (marks_of tree)) (items_codes tree.items) (whole_codes (marks_of tree)) in
      (subst AllCodes f.1 all).0

  -- what judges the faults of a tree is the answer of the phase
  pub fits_ok : (tree : Tree N A) → faults_of tree ≡ [] → Exact limiting tree (viewed {B = Unit {0}} (λ _. tree) (Ok tt))
  fits_ok tree none = exact_of limiting limiting_exact tree (Ok tree) ((small_is tree).1 none, refl)

  pub fits_err : (tree : Tree N A) (r : Refusal) (e : Fault) (answer : Result (Unit {0}) Fault) →
      IsFirst r (faults_of tree) → answer ≡ Err e → e ≡ Refused r → Exact limiting tree (viewed (λ _. tree) answer)
  fits_err tree r e answer first is refused =
      subst (λ a. Exact limiting tree (viewed (λ _. tree) a)) (sym (is ∙ ap (λ x. Err x) refused))
      (exact_of limiting limiting_exact tree (Err (Refused r)) first)
