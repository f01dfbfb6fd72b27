-- What holds if assignments that are judged as one have no error.
use Rattle.std.proofs.Common.{◌≡◌, ℕ, ◌==◌, refl, sym, ◌∙◌, ap, subst, List, [], ◌∷◌}
use Rattle.std.specs.Prelude.{Bool, true, false, cond, not, ◌||◌, if◌then◌else◌, map, Option, None, Some, Ok}
use Rattle.std.specs.List.{All, Contains, find, filter, list_any}
use Rattle.std.proofs.lemmas.Bool.{eqb-true}
use Rattle.std.proofs.lemmas.List.Elements.{All-nil, All-cons, All-contains}
use Rattle.ckc_base.specs.declared.places.Pos.{Pos}
use Rattle.ckc_base.specs.declared.places.Refusal.{Refusal}
use Rattle.ckc_linear.specs.declared.forms.Form.{Form}
use Rattle.ckc_bounds.specs.ckc_bounds_points.specs.declared.frame.Bounds.{Bounds}
use Rattle.ckc_bounds.specs.ckc_bounds_points.specs.declared.frame.Local.{Local}
use Rattle.ckc_bounds.specs.ckc_bounds_points.specs.declared.frame.Frame.{Frame}
use Rattle.ckc_bounds.specs.ckc_bounds_points.specs.Shown.{Known}
use Rattle.ckc_bounds.specs.ckc_bounds_points.specs.Frames.{local_at}
use Rattle.ckc_bounds.specs.ckc_bounds_points.specs.Flow.{State, in_bounds, widening_names, local_assigned}
use Rattle.ckc_bounds.specs.ckc_bounds_stores.specs.Targets.{local_of}
use Rattle.ckc_bounds.specs.ckc_bounds_stores.specs.Stores.{Placed, assigns, assigns_local, is_in_bounds, touches, refusal_unless, local_fault, store_fault, decides, earlier, earliest, first_fault, received, assigned_local, after, unless_refused, stored_placed}

-- ---- errors

earlier_none : (o p : Option Refusal) → earlier o p ≡ None → (o ≡ None) × (p ≡ None)
earlier_none None p e = (refl, e)
earlier_none (Some r) None e = absurd cc
earlier_none (Some r) (Some q) e = by (decides q r) e
  where
    by : (b : Bool) → (if b then Some q else Some r) ≡ None → (◌≡◌ {A = Option Refusal} (Some r) None) × (◌≡◌ {A = Option Refusal} (Some q) None)
    by true e = absurd cc
    by false e = absurd cc

earliest_none : {A : Type 0} (f : A → Option Refusal) (first : Option Refusal) (xs : List A) → earliest first (map f xs) ≡ None
    → (first ≡ None) × All (λ x. f x ≡ None) xs
earliest_none f first [] e = (e, All-nil (λ x. f x ≡ None))
earliest_none f first (x ∷ xs) e =
    let rest = earliest_none f (earlier first (f x)) xs e in
    let both = earlier_none first (f x) rest.0 in
    (both.0, All-cons (λ x. f x ≡ None) x xs both.1 rest.1)

pub unless_none : (b : Bool) (code : ℕ) (pos : Pos) → refusal_unless b code pos ≡ None → b ≡ true
unless_none true code pos e = refl
unless_none false code pos e = absurd cc

-- what the judgement of assignments has found
pub record Good (frame : Frame) (result : Bounds) (scope : List ℕ) (ps : List Placed) (at there : State) : Type 0 where
  pub locals : (k : ℕ) → Contains scope k → local_fault frame ps at k ≡ None
  pub targets : (p : Placed) → Contains ps p → store_fault frame result ps at p ≡ None
  pub next : there ≡ after frame at.facts ps at

pub good : (frame : Frame) (result : Bounds) (scope : List ℕ) (ps : List Placed) (at there : State) → stored_placed frame result scope ps at ≡ Ok there
    → Good frame result scope ps at there
unfolding stored_placed
good frame result scope ps at there e = by (first_fault frame result scope ps at) refl e
  where
    by : (o : Option Refusal) → first_fault frame result scope ps at ≡ o → unless_refused o (after frame at.facts ps at) ≡ Ok there
        → Good frame result scope ps at there
    by (Some r) f e = absurd cc
    by None f e =
        let stores = earliest_none (store_fault frame result ps at) (earliest None (map (local_fault frame ps at) scope)) ps f in
        let locals = earliest_none (local_fault frame ps at) None scope stores.0 in
        record {
          locals = λ k c. All-contains (λ k. local_fault frame ps at k ≡ None) scope k locals.1 c;
          targets = λ p c. All-contains (λ p. store_fault frame result ps at p ≡ None) ps p stores.1 c;
          next = cc;
        }

-- ---- which locals are assigned

-- a local that bounds name is not assigned if they name none that is
pub untouched : (limits : Bounds) (j : ℕ) → in_bounds j limits ≡ true → (ps : List Placed) → find (touches limits) ps ≡ None → find (assigns_local j) ps ≡ None
untouched limits j named [] e = refl
untouched limits j named (p ∷ ps) e = by (local_of p.target) (untouched limits j named ps) e
  where
    one : (i : ℕ) → (find (touches limits) ps ≡ None → find (assigns_local j) ps ≡ None) → (a b : Bool) → in_bounds i limits ≡ a → (i == j) ≡ b
        → cond a (Some p) (find (touches limits) ps) ≡ None → cond b (Some p) (find (assigns_local j) ps) ≡ None
    one i rest true b n d e = absurd cc
    one i rest false true n d e = let same : i ≡ j = eqb-true i j d in let there : in_bounds i limits ≡ true = ap (λ k. in_bounds k limits) same ∙ named in absurd cc
    one i rest false false n d e = rest e

    by : (o : Option ℕ) → (find (touches limits) ps ≡ None → find (assigns_local j) ps ≡ None) → cond (is_in_bounds limits o) (Some p) (find (touches limits) ps) ≡ None
        → cond (assigns j o) (Some p) (find (assigns_local j) ps) ≡ None
    by None rest e = rest e
    by (Some i) rest e = one i rest (in_bounds i limits) (i == j) refl refl e

-- ---- which locals are widened

wide_left : (test : ℕ → Bool) (k : ℕ) (ps : List ℕ) → list_any (λ p. p == k) (filter test ps) ≡ true → (list_any (λ p. p == k) ps ≡ true) × (test k ≡ true)
wide_left test k [] e = absurd cc
wide_left test k (p ∷ ps) e = by (test p) (p == k) refl refl (wide_left test k ps) e
  where
    by : (a b : Bool) → test p ≡ a → (p == k) ≡ b → (list_any (λ p. p == k) (filter test ps) ≡ true → (list_any (λ p. p == k) ps ≡ true) × (test k ≡ true))
        → list_any (λ p. p == k) (cond a (p ∷ filter test ps) (filter test ps)) ≡ true → ((b || list_any (λ p. p == k) ps) ≡ true) × (test k ≡ true)
    by true true t d rest e = (refl, ap test (sym (eqb-true p k d)) ∙ t)
    by true false t d rest e = rest (ap (λ c. c || list_any (λ p. p == k) (filter test ps)) (sym d) ∙ e)
    by false true t d rest e = (refl, (rest e).1)
    by false false t d rest e = rest e

module _ (frame : Frame) (facts : Known) (k : ℕ) where
  -- a local is widened still, and no assignment to a local that its widening names was made
  abbrev pub StaysWide : List Placed → State → Type 0
  StaysWide ps at = (list_any (λ p. p == k) at.widened ≡ true)
      × ((j : ℕ) (l : Local) → local_at frame j ≡ Some l → widening_names frame j k ≡ true → find (assigns_local j) ps ≡ None)

  -- one assignment
  pub record OneWide (o : Option ℕ) (at next : State) : Type 0 where
    pub reached : next.reached ≡ true
    pub wide : list_any (λ p. p == k) next.widened ≡ true
        → (list_any (λ p. p == k) at.widened ≡ true) × ((j : ℕ) (l : Local) → local_at frame j ≡ Some l → widening_names frame j k ≡ true → assigns j o ≡ false)

  pub one_wide : (form : Option Form) (at : State) → at.reached ≡ true → (o : Option ℕ) → OneWide o at (assigned_local frame form at o)
  one_wide form at reached None = record { reached = reached; wide = λ w. (w, λ j l there names. refl) }
  one_wide form at reached (Some i) =
      subst (λ (b : Bool). OneWide (Some i) at (if b then local_assigned frame i (local_at frame i) form at else at)) (sym reached) (by (local_at frame i) refl)
    where
      none_there : local_at frame i ≡ None → (j : ℕ) (l : Local) → local_at frame j ≡ Some l → (b : Bool) → (i == j) ≡ b → b ≡ false
      none_there none j l there true e = let same : local_at frame i ≡ Some l = ap (local_at frame) (eqb-true i j e) ∙ there in absurd cc
      none_there none j l there false e = refl

      names_none : not (widening_names frame i k) ≡ true → (j : ℕ) → widening_names frame j k ≡ true → (b : Bool) → (i == j) ≡ b → b ≡ false
      names_none n j names true e =
          let same : widening_names frame i k ≡ true = ap (λ h. widening_names frame h k) (eqb-true i j e) ∙ names in
          let no : not (widening_names frame i k) ≡ false = ap not same in
          absurd cc
      names_none n j names false e = refl

      by : (m : Option Local) → local_at frame i ≡ m → OneWide (Some i) at (local_assigned frame i m form at)
      by None none = record { reached = reached; wide = λ w. (w, λ j l there names. none_there none j l there (i == j) refl) }
      by (Some m) is = record {
        reached = reached;
        wide = λ w. let h = wide_left (λ p. not (widening_names frame i p)) k at.widened w in (h.0, λ j l there names. names_none h.1 j names (i == j) refl);
      }

  pub wide_before : (ps : List Placed) (at : State) → at.reached ≡ true → list_any (λ p. p == k) (after frame facts ps at).widened ≡ true → StaysWide ps at
  wide_before [] at reached w = (w, λ j l there names. refl)
  wide_before (p ∷ ps) at reached w =
      let one = one_wide (received frame facts p) at reached (local_of p.target) in
      let rest = wide_before ps (assigned_local frame (received frame facts p) at (local_of p.target)) one.reached w in
      let h = one.wide rest.0 in
      (h.0, λ j l there names. ap (λ b. cond b (Some p) (find (assigns_local j) ps)) (h.1 j l there names) ∙ rest.1 j l there names)
