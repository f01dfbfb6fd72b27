-- A value of the code stands for one term, and a term has one value.
use Rattle.std.proofs.Common.{◌≡◌, ℕ, List, Some, None, refl, sym, ap, subst, ◌∙◌}
use Rattle.std.specs.List.{slice_get}
use Rattle.ckc_passes.specs.Values.{Term, Entry, Known, New, number_in}
use Rattle.ckc_passes_redundant.specs.declared.operations.Operation.{Operation}
use Rattle.ckc_passes_redundant.specs.declared.operations.Operation.TheVariants.{Whole, Half}
use Rattle.ckc_passes_redundant.specs.declared.table.Value.{Value}
use Rattle.ckc_passes_redundant.specs.declared.table.Value.TheVariants.{Computed}
use Rattle.ckc_passes_redundant.specs.declared.table.Work.{Work}
use Rattle.ckc_passes_redundant.specs.code.Operations.{operation_number, node_by}
use Rattle.ckc_passes_redundant.specs.code.Tables.{Means, at_entry, word, given_at, computed, AreDistinct, word_in}
use Rattle.ckc_passes_redundant.proofs.Numbering.{same_operation}

abbrev work : Operation → Value → Value → Work
work operation left right = record { operation = operation_number operation; left = left; right = right }

-- with more ways to compute values, each value stands for what it stood for
pub still_means : (works more : List Work) → ((i : ℕ) (w : Work) → slice_get works i ≡ Some w → slice_get more i ≡ Some w)
    → {v : Value} {x : Term} → Means works v x → Means more v x
still_means works more grown at_entry = at_entry
still_means works more grown word = word
still_means works more grown given_at = given_at
still_means works more grown (computed {i = i} {left = left} {right = right} operation at l r is) =
    computed operation (grown i (work operation left right) at) (still_means works more grown l) (still_means works more grown r) is

number_in_node : (operation : Operation) (a b : Term) → number_in (node_by operation a b) ≡ None
number_in_node (Whole op) a b = refl
number_in_node (Half is_signed) a b = refl

-- a value is a number exactly if its term is
pub same_number : {works : List Work} {v : Value} {x : Term} → Means works v x → number_in x ≡ word_in v
same_number at_entry = refl
same_number word = refl
same_number given_at = refl
same_number (computed {a = a} {b = b} operation at l r is) = ap number_in is ∙ number_in_node operation a b

same_parts : (operation operation' : Operation) (left right left' right' : Value) → Some (work operation left right) ≡ Some (work operation' left' right')
    → (operation ≡ operation') × (left ≡ left') × (right ≡ right')
same_parts operation operation' left right left' right' e =
    let w : work operation left right ≡ work operation' left' right' = cc in
    (same_operation operation operation' (ap (λ (v : Work). v.operation) w), ap (λ (v : Work). v.left) w, ap (λ (v : Work). v.right) w)

same_nodes : (operation operation' : Operation) (a b a' b' x y : Term) → operation ≡ operation' → a ≡ a' → b ≡ b'
    → x ≡ node_by operation a b → y ≡ node_by operation' a' b' → x ≡ y
same_nodes operation operation' a b a' b' x y p q r h k = h ∙ (λ i. node_by (p i) (q i) (r i)) ∙ sym k

-- a value stands for one term
pub same_term : {works : List Work} {v : Value} {x y : Term} → Means works v x → Means works v y → x ≡ y
same_term at_entry at_entry = refl
same_term word word = refl
same_term given_at given_at = refl
same_term {works} (computed {left = left} {right = right} {a = a} {b = b} {value = x} operation at l r is)
    (computed {left = left'} {right = right'} {a = a'} {b = b'} {value = y} operation' at' l' r' is') =
    let s = same_parts operation operation' left right left' right' (sym at ∙ at') in
    same_nodes operation operation' a b a' b' x y s.0
    (same_term l (subst (λ u. Means works u a') (sym s.1) l'))
    (same_term r (subst (λ u. Means works u b') (sym s.2) r')) is is'

split_nodes : (operation operation' : Operation) (a b a' b' : Term) → node_by operation a b ≡ node_by operation' a' b'
    → (operation ≡ operation') × (a ≡ a') × (b ≡ b')
split_nodes (Whole op) (Whole op') a b a' b' e = (let o : op ≡ op' = cc in ap Whole o, (cc), (cc))
split_nodes (Half is_signed) (Half is_signed') a b a' b' e = (let o : is_signed ≡ is_signed' = cc in ap Half o, (cc), (cc))
split_nodes (Whole op) (Half is_signed) a b a' b' e = absurd cc
split_nodes (Half is_signed) (Whole op) a b a' b' e = absurd cc

no_entry : (operation : Operation) (a b : Term) (r : ℕ) → Entry r ≡ node_by operation a b → ⊥
no_entry (Whole op) a b r e = cc
no_entry (Half is_signed) a b r e = cc

no_number : (operation : Operation) (a b : Term) (n : ℕ) → Known n ≡ node_by operation a b → ⊥
no_number (Whole op) a b n e = cc
no_number (Half is_signed) a b n e = cc

no_place : (operation : Operation) (a b : Term) (place : ℕ) → New place ≡ node_by operation a b → ⊥
no_place (Whole op) a b place e = cc
no_place (Half is_signed) a b place e = cc

same_place : (works : List Work) → AreDistinct works → (i j : ℕ) (v w : Work) → v ≡ w → slice_get works i ≡ Some v → slice_get works j ≡ Some w → i ≡ j
same_place works distinct i j v w e at at' = distinct i j v at (at' ∙ ap Some (sym e))

-- a term has one value
pub same_value : {works : List Work} → AreDistinct works → {v w : Value} {x : Term} → Means works v x → Means works w x → v ≡ w
same_value d at_entry at_entry = refl
same_value d word word = refl
same_value d given_at given_at = refl
same_value d (at_entry {r = q}) (computed {a = a} {b = b} operation at l r is) = absurd (no_entry operation a b q is)
same_value d (word {n = n}) (computed {a = a} {b = b} operation at l r is) = absurd (no_number operation a b n is)
same_value d (given_at {place = place}) (computed {a = a} {b = b} operation at l r is) = absurd (no_place operation a b place is)
same_value d (computed {a = a} {b = b} operation at l r is) (at_entry {r = q}) = absurd (no_entry operation a b q is)
same_value d (computed {a = a} {b = b} operation at l r is) (word {n = n}) = absurd (no_number operation a b n is)
same_value d (computed {a = a} {b = b} operation at l r is) (given_at {place = place}) = absurd (no_place operation a b place is)
same_value {works} d (computed {i = i} {left = left} {right = right} {a = a} {b = b} operation at l r is)
    (computed {i = j} {left = left'} {right = right'} {a = a'} {b = b'} operation' at' l' r' is') =
    let s = split_nodes operation operation' a b a' b' (sym is ∙ is') in
    let p = same_value d l (subst (λ u. Means works left' u) (sym s.1) l') in
    let q = same_value d r (subst (λ u. Means works right' u) (sym s.2) r') in
    ap Computed (same_place works d i j (work operation left right) (work operation' left' right') (λ k. work (s.0 k) (p k) (q k)) at at')
