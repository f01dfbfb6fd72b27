-- A map of files in memory as a finite map from names to bytes.
use Rattle.std.proofs.Common.{◌≡◌, ◌≢◌, ℕ, Bool, true, false, cond, List, [], ◌∷◌, map, Option, Some, None, take, String, Vec, Ordering, refl, sym, ap, ◌∙◌, inl, inr}
use Rattle.std.specs.declared.alloc.Global.{Global}
use Rattle.std.specs.Option.{option_map}
use Rattle.std.specs.String.{string_bytes}
use Rattle.std.specs.Str.{bytes_eq}
use Rattle.std.specs.Map.{lookup, update}
use Rattle.std.specs.BTreeMap.{BTreeMap, is_at, get_by_text}
use Rattle.std.specs.Ordering.{nat_cmp, eq_by_cmp}
use Rattle.std.specs.Cmp.{eq_by_cmp_equiv}
use Rattle.std.specs.Cmp.Lexicographic.{slice_cmp}
use Rattle.std.specs.FinMap as fin
use Rattle.std.specs.FinMap.{find, get-from_entries, get-insert, same_map, slice_cmp-IsAntisymmetric, nat_cmp-IsAntisymmetric}
use Rattle.std.proofs.lemmas.Cmp.{nat_list_cmp_total}
use Rattle.std.proofs.lemmas.Map.Text.{is_eq-slice_cmp}
use Rattle.std.proofs.lemmas.Slice.Eq.{bytes_eq-Decides}
use Rattle.ckc_outside.specs.MemStore.{named, Torn}
use Rattle.ckc_outside.specs.Outside.{Files}

abbrev File : Type 0
File = String Global × Vec ℕ Global

abbrev order : List ℕ → List ℕ → Ordering
order = slice_cmp nat_cmp

abbrev pub items_of : Vec ℕ Global → List ℕ
items_of v = v.items

option_map-cond : (b : Bool) (v : Vec ℕ Global) (o : Option (Vec ℕ Global)) → option_map items_of (cond b (Some v) o) ≡ cond b (Some v.items) (option_map items_of o)
option_map-cond true v o = refl
option_map-cond false v o = refl

found_named : (es : List File) (q : List ℕ) → find order q (map named es) ≡ option_map items_of (lookup (is_at (λ k. order q (string_bytes k))) es)
found_named [] q = refl
found_named (e ∷ es) q =
    let b = eq_by_cmp order q (string_bytes e.0) in
    ap (cond b (Some e.1.items)) (found_named es q) ∙ sym (option_map-cond b e.1 _)

-- what the finite map has under a name is what the look-up by its bytes finds
pub get_named : (m : BTreeMap (String Global) (Vec ℕ Global)) (q : List ℕ) → fin.get (fin.from_entries {R = order} (map named m.entries)) q ≡ option_map items_of (get_by_text m q)
get_named m q = get-from_entries nat_list_cmp_total (map named m.entries) q ∙ found_named m.entries q

same_test : (name q : List ℕ) → bytes_eq name q ≡ eq_by_cmp order q name
same_test name q = sym (is_eq-slice_cmp name q) ∙ (eq_by_cmp_equiv nat_list_cmp_total).symm name q

-- a change at one name is an insertion there
pub inserted : (m n : BTreeMap (String Global) (Vec ℕ Global)) (name bytes : List ℕ) (v : Vec ℕ Global) → v.items ≡ bytes
    → ((q : List ℕ) → get_by_text n q ≡ update bytes_eq (get_by_text m) name (Some v) q)
    → fin.from_entries {R = order} (map named n.entries) ≡ fin.insert (fin.from_entries (map named m.entries)) name bytes
inserted m n name bytes v e h =
    same_map nat_list_cmp_total (slice_cmp-IsAntisymmetric nat_cmp-IsAntisymmetric) _ _ (λ q.
    get_named n q ∙ ap (option_map items_of) (h q) ∙ option_map-cond (bytes_eq name q) v (get_by_text m q)
    ∙ ap (λ b. cond b (Some v.items) (option_map items_of (get_by_text m q))) (same_test name q)
    ∙ ap (λ x. cond (eq_by_cmp order q name) (Some x) (option_map items_of (get_by_text m q))) e
    ∙ ap (cond (eq_by_cmp order q name) (Some bytes)) (sym (get_named m q))
    ∙ sym (get-insert nat_list_cmp_total (fin.from_entries (map named m.entries)) name bytes q))

apart : (name q : List ℕ) → q ≢ name → (b : Bool) → bytes_eq name q ≡ b → b ≡ false
apart name q differs true e = absurd (differs (sym ((bytes_eq-Decides name q).0 e)))
apart name q differs false e = refl

-- an insertion at one name leaves the other names
pub others_stay : (files : Files) (name bytes q : List ℕ) → q ≢ name → fin.get (fin.insert files name bytes) q ≡ fin.get files q
others_stay files name bytes q differs =
    get-insert nat_list_cmp_total files name bytes q
    ∙ ap (λ b. cond b (Some bytes) (fin.get files q)) (sym (same_test name q) ∙ apart name q differs _ refl)

-- what a listed keep leaves differs at its name alone
pub torn_others : (cut : Option ℕ) (files : Files) (name bytes : List ℕ) (after : Files) → Torn cut files name bytes after
    → (q : List ℕ) → q ≢ name → fin.get after q ≡ fin.get files q
torn_others None files name bytes after left q differs = ap (λ m. fin.get m q) left
torn_others (Some cut) files name bytes after (inl left) q differs = ap (λ m. fin.get m q) left ∙ others_stay files name (take cut bytes) q differs
torn_others (Some cut) files name bytes after (inr left) q differs = ap (λ m. fin.get m q) left

-- the same files have the same under each name
pub same_under : (files here : Files) → Some files ≡ Some here → (q : List ℕ) → fin.get files q ≡ fin.get here q
same_under files here e q = ap (λ o. under o) e where
  under : Option Files → Option (List ℕ)
  under None = None
  under (Some m) = fin.get m q
