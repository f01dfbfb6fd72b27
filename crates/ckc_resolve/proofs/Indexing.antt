-- The places of the last declarations, as declarations come and go at the end.
use Rattle.std.proofs.Common.{◌≡◌, ◌<◌, ℕ, suc, zero, ◌+◌, Bool, true, false, ◌||◌, cond, List, [], ◌∷◌, ◌++◌, length, drop, get_or, Option, Some, None, Decides, refl, sym, ap, ◌∙◌, subst, arith, add-one, append_assoc, fold, nat_le, is_some}
use Rattle.std.specs.Option.{unwrap_or}
use Rattle.std.specs.Str.{bytes_eq}
use Rattle.std.specs.Map.{update}
use Rattle.std.proofs.lemmas.List.{map-append}
use Rattle.std.proofs.lemmas.Bool.Decides.{nat_tests}
use Rattle.std.proofs.lemmas.Slice.Eq.{bytes_eq-Decides}
use Rattle.ckc_syntax.specs.declared.tree.Name.{Name}
use Rattle.ckc_resolve.specs.declared.visible.Entry.{Entry}
use Rattle.ckc_resolve.specs.declared.visible.Slot.{Slot}
use Rattle.ckc_resolve.specs.Spellings.{Spelling}
use Rattle.ckc_resolve.specs.Scoping.{found, is_declared}
use Rattle.ckc_resolve.specs.Indexed.{entry_of, entries_of, later_or, last_at, hidden_by, hidden_of, IsIndexed}

abbrev front_or : Bool → Option ℕ
front_or b = cond b (Some 0) None

module _ (s : Spelling) where
  pub last_append : (es : List Entry) (e : Entry) → last_at s (es ++ e ∷ []) ≡ cond (bytes_eq s e.spelling) (Some (length es)) (last_at s es)
  last_append [] e = refl
  last_append (x ∷ es) e = ap (λ o. later_or o (front_or (bytes_eq s x.spelling))) (last_append es e) ∙ by (bytes_eq s e.spelling)
    where
      by : (b : Bool) → later_or (cond b (Some (length es)) (last_at s es)) (front_or (bytes_eq s x.spelling)) ≡ cond b (Some (length (x ∷ es))) (last_at s (x ∷ es))
      by true = ap (λ n. Some n) (add-one (length es))
      by false = refl

  pub last_within : (es : List Entry) (i : ℕ) → last_at s es ≡ Some i → i < length es
  last_within [] i h = cc
  last_within (x ∷ es) i h = by (last_at s es) (bytes_eq s x.spelling) (last_within es) h
    where
      by : (o : Option ℕ) (b : Bool) → ((j : ℕ) → o ≡ Some j → j < length es) → later_or o (front_or b) ≡ Some i → i < length (x ∷ es)
      by (Some j) b e g = let within : j < length es = e j refl in let same : j + 1 ≡ i = cc in omega arith
      by None true e g = let same : 0 ≡ i = cc in omega arith
      by None false e g = cc

  abbrev name_at : Slot → Option ℕ → List Slot → Option Name → Option Name
  name_at d (Some i) slots before = Some (get_or slots i d).name
  name_at d None slots before = before

  abbrev found_or : Option Name → Entry → Option Name
  found_or before e = cond (bytes_eq s e.spelling) (Some e.name) before

  found_from : (slots : List Slot) (before : Option Name) (d : Slot) → fold found_or before (entries_of slots) ≡ name_at d (last_at s (entries_of slots)) slots before
  found_from [] before d = refl
  found_from (x ∷ slots) before d = found_from slots (found_or before (entry_of x)) d ∙ by (last_at s (entries_of slots)) (bytes_eq s x.spelling)
    where
      by : (o : Option ℕ) (b : Bool) → name_at d o slots (cond b (Some x.name) before) ≡ name_at d (later_or o (front_or b)) (x ∷ slots) before
      by (Some i) b = ap (λ n. Some (get_or (x ∷ slots) n d).name) (sym (add-one i))
      by None true = refl
      by None false = refl

  pub found_some : (slots : List Slot) (i : ℕ) (d : Slot) → last_at s (entries_of slots) ≡ Some i → found (entries_of slots) s ≡ Some (get_or slots i d).name
  found_some slots i d h = found_from slots None d ∙ ap (λ o. name_at d o slots None) h

  pub found_none : (slots : List Slot) → last_at s (entries_of slots) ≡ None → found (entries_of slots) s ≡ None
  found_none [] h = refl
  found_none (x ∷ slots) h = found_from (x ∷ slots) None x ∙ ap (λ o. name_at x o (x ∷ slots) None) h

  declared_any : (es : List Entry) → is_declared es s ≡ is_some (last_at s es)
  declared_any [] = refl
  declared_any (x ∷ es) = ap (λ b. bytes_eq s x.spelling || b) (declared_any es) ∙ by (bytes_eq s x.spelling) (last_at s es)
    where
      by : (b : Bool) (o : Option ℕ) → (b || is_some o) ≡ is_some (later_or o (front_or b))
      by true (Some i) = refl
      by true None = refl
      by false (Some i) = refl
      by false None = refl

  abbrev at_least : ℕ → Option ℕ → Bool
  at_least base (Some i) = nat_le base i
  at_least base None = false

  declared_behind : (base : ℕ) (es : List Entry) → is_declared (drop base es) s ≡ at_least base (last_at s es)
  declared_behind zero es = declared_any es ∙ by (last_at s es)
    where
      by : (o : Option ℕ) → is_some o ≡ at_least 0 o
      by (Some i) = grind (arith, nat_tests)
      by None = refl
  declared_behind (suc base) [] = refl
  declared_behind (suc base) (x ∷ es) = declared_behind base es ∙ by (last_at s es) (bytes_eq s x.spelling)
    where
      one_more : (a b : ℕ) → nat_le a b ≡ nat_le (suc a) (b + 1)
      one_more a b = grind (arith, nat_tests)

      none : (a : ℕ) → false ≡ nat_le (suc a) 0
      none a = grind (arith, nat_tests)

      by : (o : Option ℕ) (b : Bool) → at_least base o ≡ at_least (suc base) (later_or o (front_or b))
      by (Some i) b = one_more base i
      by None true = none base
      by None false = refl

  pub behind_some : (base : ℕ) (es : List Entry) (i : ℕ) → last_at s es ≡ Some i → is_declared (drop base es) s ≡ nat_le base i
  behind_some base es i h = declared_behind base es ∙ ap (at_least base) h

  pub behind_none : (base : ℕ) (es : List Entry) → last_at s es ≡ None → is_declared (drop base es) s ≡ false
  behind_none base es h = declared_behind base es ∙ ap (at_least base) h

hidden_append : (before es : List Entry) (e : Entry) → hidden_by before (es ++ e ∷ []) ≡ hidden_by before es ++ last_at e.spelling (before ++ es) ∷ []
hidden_append before [] e = ap (λ b. last_at e.spelling b ∷ []) (sym (append-end before))
  where
    append-end : (xs : List Entry) → xs ++ [] ≡ xs
    append-end [] = refl
    append-end (x ∷ xs) = ap (λ r. x ∷ r) (append-end xs)
hidden_append before (x ∷ es) e =
    ap (λ r. last_at x.spelling before ∷ r) (hidden_append (before ++ x ∷ []) es e ∙ ap (λ b. hidden_by (before ++ x ∷ []) es ++ last_at e.spelling b ∷ []) (append_assoc before (x ∷ []) es))

no_end : {X : Type 0} (xs : List X) (x : X) → [] ≡ xs ++ x ∷ [] → ⊥
no_end [] x h = cc
no_end (y ∷ xs) x h = cc

ends_same : {X : Type 0} (xs ys : List X) (x y : X) → xs ++ x ∷ [] ≡ ys ++ y ∷ [] → (xs ≡ ys) × (x ≡ y)
ends_same [] [] x y h = (refl, cc)
ends_same [] (b ∷ ys) x y h = let e : [] ≡ ys ++ y ∷ [] = cc in absurd (no_end ys y e)
ends_same (a ∷ xs) [] x y h = let e : [] ≡ xs ++ x ∷ [] = cc in absurd (no_end xs x e)
ends_same (a ∷ xs) (b ∷ ys) x y h =
    let rest : xs ++ x ∷ [] ≡ ys ++ y ∷ [] = cc in
    let same : a ≡ b = cc in
    let more = ends_same xs ys x y rest in
    ((λ i. same i ∷ more.0 i), more.1)

same_bytes : (x y : Spelling) → bytes_eq x y ≡ bytes_eq y x
same_bytes x y = by (bytes_eq x y) (bytes_eq y x) (bytes_eq-Decides x y) (bytes_eq-Decides y x)
  where
    by : (a b : Bool) → Decides a (x ≡ y) → Decides b (y ≡ x) → a ≡ b
    by true true d e = refl
    by false false d e = refl
    by true false d e = sym (e.1 (sym (d.0 refl)))
    by false true d e = d.1 (sym (e.0 refl))

module _ (slots : List Slot) (known known' : Spelling → Option (Option ℕ)) (slot : Slot) where
  entries_end : entries_of (slots ++ slot ∷ []) ≡ entries_of slots ++ entry_of slot ∷ []
  entries_end = map-append entry_of slots (slot ∷ [])

  hidden_end : hidden_of (slots ++ slot ∷ []) ≡ hidden_of slots ++ slot.hidden ∷ []
  hidden_end = map-append (λ x. x.hidden) slots (slot ∷ [])

  length_entries : (xs : List Slot) → length (entries_of xs) ≡ length xs
  length_entries [] = refl
  length_entries (x ∷ xs) = ap (λ n. suc n) (length_entries xs)

  last_end : (s : Spelling) → last_at s (entries_of (slots ++ slot ∷ [])) ≡ cond (bytes_eq s slot.spelling) (Some (length slots)) (last_at s (entries_of slots))
  last_end s =
      ap (last_at s) entries_end ∙ last_append s (entries_of slots) (entry_of slot)
      ∙ ap (λ n. cond (bytes_eq s slot.spelling) (Some n) (last_at s (entries_of slots))) (length_entries slots)

  pub pushed : IsIndexed slots known → slot.hidden ≡ last_at slot.spelling (entries_of slots)
      → ((s : Spelling) → known' s ≡ update bytes_eq known slot.spelling (Some (Some (length slots))) s) → IsIndexed (slots ++ slot ∷ []) known'
  pushed old h up = record {
    last = λ s. ap (λ o. unwrap_or o None) (up s) ∙ by s (bytes_eq slot.spelling s) (bytes_eq s slot.spelling) (same_bytes slot.spelling s) ∙ sym (last_end s);
    hides = hidden_end ∙ ap (λ xs. xs ++ slot.hidden ∷ []) old.hides ∙ ap (λ o. hidden_by [] (entries_of slots) ++ o ∷ []) h
        ∙ sym (ap (hidden_by []) entries_end ∙ hidden_append [] (entries_of slots) (entry_of slot));
  }
    where
      by : (s : Spelling) (a b : Bool) → a ≡ b → unwrap_or (cond a (Some (Some (length slots))) (known s)) None ≡ cond b (Some (length slots)) (last_at s (entries_of slots))
      by s true true e = refl
      by s false false e = old.last s
      by s true false e = cc
      by s false true e = cc

  pub popped : IsIndexed (slots ++ slot ∷ []) known → ((s : Spelling) → known' s ≡ update bytes_eq known slot.spelling (Some slot.hidden) s) → IsIndexed slots known'
  popped old up = record {
    last = λ s. ap (λ o. unwrap_or o None) (up s) ∙ by s (bytes_eq slot.spelling s) refl (old.last s ∙ last_end s);
    hides = parts.0;
  }
    where
      parts : (hidden_of slots ≡ hidden_by [] (entries_of slots)) × (slot.hidden ≡ last_at slot.spelling (entries_of slots))
      parts = ends_same _ _ _ _ (sym hidden_end ∙ old.hides ∙ ap (hidden_by []) entries_end ∙ hidden_append [] (entries_of slots) (entry_of slot))

      by : (s : Spelling) (a : Bool) → bytes_eq slot.spelling s ≡ a → unwrap_or (known s) None ≡ cond (bytes_eq s slot.spelling) (Some (length slots)) (last_at s (entries_of slots))
          → unwrap_or (cond a (Some slot.hidden) (known s)) None ≡ last_at s (entries_of slots)
      by s true e k = parts.1 ∙ ap (λ x. last_at x (entries_of slots)) ((bytes_eq-Decides slot.spelling s).0 e)
      by s false e k = k ∙ ap (λ b. cond b (Some (length slots)) (last_at s (entries_of slots))) (sym (same_bytes slot.spelling s) ∙ e)

  pub present : IsIndexed (slots ++ slot ∷ []) known → known slot.spelling ≡ None → ⊥
  present old none = absent (sym (ap (λ o. unwrap_or o None) none) ∙ old.last slot.spelling ∙ last_end slot.spelling ∙ ap (λ b. cond b (Some (length slots)) (last_at slot.spelling (entries_of slots))) ((bytes_eq-Decides slot.spelling slot.spelling).1 refl))
    where
      absent : None ≡ Some (length slots) → ⊥
      absent h = cc

module _ (es : List Entry) (slots : List Slot) (view : entries_of slots ≡ es) (s : Spelling) (i : ℕ) (at : Some i ≡ last_at s es) where
  last_here : last_at s (entries_of slots) ≡ Some i
  last_here = ap (last_at s) view ∙ sym at

  pub within_slots : i < length slots
  within_slots = subst (λ n. i < n) (length_all slots) (last_within s (entries_of slots) i last_here)
    where
      length_all : (xs : List Slot) → length (entries_of xs) ≡ length xs
      length_all [] = refl
      length_all (x ∷ xs) = ap (λ n. suc n) (length_all xs)

  pub found_slot : (x : Slot) → x ≡ get_or slots i x → Some x.name ≡ found es s
  found_slot x e = ap (λ y. Some y.name) e ∙ sym (found_some s slots i x last_here) ∙ ap (λ xs. found xs s) view

pub found_nowhere : (es : List Entry) (slots : List Slot) → entries_of slots ≡ es → (s : Spelling) → None ≡ last_at s es → None ≡ found es s
found_nowhere es slots view s at = sym (found_none s slots (ap (last_at s) view ∙ sym at)) ∙ ap (λ xs. found xs s) view

pub pushed_to : (slots new : List Slot) (known known' : Spelling → Option (Option ℕ)) (slot : Slot) (es : List Entry) (n : ℕ) (text : Spelling)
    → IsIndexed slots known → entries_of slots ≡ es → slot.hidden ≡ last_at slot.spelling es → n ≡ length slots → text ≡ slot.spelling
    → ((s : Spelling) → known' s ≡ update bytes_eq known text (Some (Some n)) s) → new ≡ slots ++ slot ∷ [] → IsIndexed new known'
pushed_to slots new known known' slot es n text old view h len same up is =
    subst (λ xs. IsIndexed xs known') (sym is) (pushed slots known known' slot old (h ∙ ap (last_at slot.spelling) (sym view))
    (λ s. up s ∙ ap (λ t. update bytes_eq known t (Some (Some n)) s) same ∙ ap (λ k. update bytes_eq known slot.spelling (Some (Some k)) s) len))

pub popped_from : (slots old : List Slot) (known known' : Spelling → Option (Option ℕ)) (slot : Slot) (text : Spelling)
    → IsIndexed old known → old ≡ slots ++ slot ∷ [] → text ≡ slot.spelling → ((s : Spelling) → known' s ≡ update bytes_eq known text (Some slot.hidden) s) → IsIndexed slots known'
popped_from slots old known known' slot text was is same up =
    popped slots known known' slot (subst (λ xs. IsIndexed xs known) is was) (λ s. up s ∙ ap (λ t. update bytes_eq known t (Some slot.hidden) s) same)

pub present_in : (slots old : List Slot) (known : Spelling → Option (Option ℕ)) (slot : Slot) (text : Spelling)
    → IsIndexed old known → old ≡ slots ++ slot ∷ [] → text ≡ slot.spelling → known text ≡ None → ⊥
present_in slots old known slot text was is same none =
    present slots known known slot (subst (λ xs. IsIndexed xs known) is was) (ap known (sym same) ∙ none)

pub place_some : (known : Spelling → Option (Option ℕ)) (slots : List Slot) (es : List Entry) (text s : Spelling) (o : Option ℕ)
    → IsIndexed slots known → entries_of slots ≡ es → text ≡ s → Some o ≡ known text → o ≡ last_at s es
place_some known slots es text s o was view same h = ap (λ k. unwrap_or k None) h ∙ was.last text ∙ ap (λ t. last_at t (entries_of slots)) same ∙ ap (last_at s) view
