-- A member that an assignment touches is assigned with the member that its bounds name, or is null.
use Rattle.std.proofs.Common.{◌≡◌, ◌⊎◌, inl, inr, ⊎_elim, ℕ, ◌==◌, refl, sym, ◌∙◌, ap, List, [], ◌∷◌, length}
use Rattle.std.specs.Prelude.{Bool, true, false, not, ◌&&◌, ◌||◌, if◌then◌else◌, Option, None, Some}
use Rattle.std.specs.List.{All, Contains, list_all, list_any, cons_option}
use Rattle.std.specs.Option.{option_map, option_or}
use Rattle.std.proofs.lemmas.Bool.{and_parts, eq-eqb, eqb-true}
use Rattle.std.proofs.lemmas.List.Elements.{All-nil, All-cons, All-contains, All-weaker}
use Rattle.std.proofs.lemmas.List.Folds.{list_any_at}
use Rattle.ckc_base.specs.declared.places.Refusal.{Refusal}
use Rattle.ckc_types.specs.declared.types.MemberBounds.{MemberBounds}
use Rattle.ckc_types.specs.declared.types.MemberBounds.TheVariants as written
use Rattle.ckc_types.specs.declared.types.MemberShape.{MemberShape}
use Rattle.ckc_types.specs.declared.types.Structs.{Structs}
use Rattle.ckc_types.specs.Layout.{members_of}
use Rattle.ckc_bounds.specs.ckc_bounds_points.specs.declared.frame.Bounds.{Bounds}
use Rattle.ckc_bounds.specs.ckc_bounds_points.specs.declared.frame.Frame.{Frame}
use Rattle.ckc_bounds.specs.ckc_bounds_points.specs.Codes.{assigned_alone}
use Rattle.ckc_bounds.specs.ckc_bounds_points.specs.Flow.{State}
use Rattle.ckc_bounds.specs.ckc_bounds_ranges.specs.Members.{names_member, names_some, is_named, is_declared, names_another, takes_part, is_target, is_covered, is_touched, is_kept}
use Rattle.ckc_bounds.specs.ckc_bounds_views.specs.declared.variables.Member.{Member}
use Rattle.ckc_bounds.specs.ckc_bounds_views.specs.Views.{view}
use Rattle.ckc_bounds.specs.ckc_bounds_stores.specs.Targets.{local_of, memory_bounds}
use Rattle.ckc_bounds.specs.ckc_bounds_stores.specs.Stores.{Placed, members_assigned, may_be_assigned, member_fault, memory_fault_by, memory_fault, target_fault_of, store_fault}
use Rattle.ckc_blame_sound.proofs.Facts.{one_of}
use Rattle.ckc_blame_sound.proofs.Tests.{left_of, right_of}
use Rattle.ckc_blame_sound.proofs.Faults.{unless_none}

any_of : {X : Type 0} (p : X → Bool) (xs : List X) (x : X) → Contains xs x → p x ≡ true → list_any p xs ≡ true
any_of p xs x c h = list_any_at p xs c.0 x c.1 (ap p c.2 ∙ h)

all_pass : {X : Type 0} (p : X → Bool) (xs : List X) → list_all p xs ≡ true → All (λ x. p x ≡ true) xs
all_pass p [] e = All-nil (λ x. p x ≡ true)
all_pass p (x ∷ xs) e = let h = and_parts (p x) (list_all p xs) e in All-cons (λ x. p x ≡ true) x xs h.0 (all_pass p xs h.1)

not_true : (b : Bool) → not b ≡ true → b ≡ false
not_true true e = absurd cc
not_true false e = refl

-- ---- targets

module _ (frame : Frame) where
  -- an assignment to a member is one to a target
  abbrev IsAmong : List Placed → Placed → Type 0
  IsAmong ps p = (m : Member) → (view frame p.target).member ≡ Some m → is_target (members_assigned frame ps) m.number ≡ true

  all_among : (ps : List Placed) → All (IsAmong ps) ps
  all_among [] = All-nil (IsAmong [])
  all_among (p ∷ ps) = All-cons (IsAmong (p ∷ ps)) p ps itself (All-weaker (IsAmong ps) (IsAmong (p ∷ ps)) more ps (all_among ps))
    where
      itself : IsAmong (p ∷ ps) p
      itself m e =
          ap (λ o. is_target (cons_option (option_map (λ m. m.number) o) (members_assigned frame ps)) m.number) e
          ∙ left_of (m.number == m.number) (is_target (members_assigned frame ps) m.number) (eq-eqb m.number m.number refl)

      more_by : (o : Option Member) (k : ℕ) → is_target (members_assigned frame ps) k ≡ true → is_target (cons_option (option_map (λ m. m.number) o) (members_assigned frame ps)) k ≡ true
      more_by None k e = e
      more_by (Some n) k e = right_of (n.number == k) (is_target (members_assigned frame ps) k) e

      more : (q : Placed) → IsAmong ps q → IsAmong (p ∷ ps) q
      more q h m e = more_by (view frame p.target).member m.number (h m e)

-- ---- one member

module _ (structs : Structs) (tag m : ℕ) (targets : List ℕ) (among : is_target targets m ≡ true) (shape : MemberShape) (there : Contains (members_of structs tag) shape) (touched : is_touched m shape ≡ true) where
  -- bounds that name no member
  unnamed_covered : (b : MemberBounds) → names_some b ≡ false → is_target targets shape.name ≡ true → is_covered targets shape b ≡ true
  unnamed_covered (written.Named n c) e h = absurd cc
  unnamed_covered written.Nothing e h = h
  unnamed_covered written.Unknown e h = h
  unnamed_covered written.NoForm e h = h
  unnamed_covered (written.Fixed c) e h = h

  -- a member that no bounds name is touched only if it is assigned
  is_itself : is_named structs tag m ≡ false → shape.name ≡ m
  is_itself e = ⊎_elim
      (λ h. eqb-true shape.name m h)
      (λ h. let named : is_named structs tag m ≡ true = any_of (λ (s : MemberShape). names_member m s.bounds) (members_of structs tag) shape there h in absurd cc)
      (one_of (shape.name == m) (names_member m shape.bounds) touched)

  apart_covered : takes_part structs tag m ≡ false → is_covered targets shape shape.bounds ≡ true
  apart_covered e = by (names_another structs tag m) (is_named structs tag m) refl refl e
    where
      by : (a b : Bool) → names_another structs tag m ≡ a → is_named structs tag m ≡ b → (a || b) ≡ false → is_covered targets shape shape.bounds ≡ true
      by true b p q e = absurd cc
      by false true p q e = absurd cc
      by false false p q e =
          let same = is_itself q in
          unnamed_covered shape.bounds (names_by (names_some shape.bounds) refl same p) (ap (is_target targets) same ∙ among)
        where
          names_by : (c : Bool) → names_some shape.bounds ≡ c → shape.name ≡ m → names_another structs tag m ≡ false → c ≡ false
          names_by false h same p = refl
          names_by true h same p =
              let both : ((shape.name == m) && names_some shape.bounds) ≡ true = rw (eq-eqb shape.name m same, h) refl in
              let named : names_another structs tag m ≡ true = any_of (λ (s : MemberShape). (s.name == m) && names_some s.bounds) (members_of structs tag) shape there both in
              absurd cc

  kept_covered : is_kept targets m shape ≡ true → is_covered targets shape shape.bounds ≡ true
  kept_covered e = ⊎_elim
      (λ h. let no = not_true (is_touched m shape) h in absurd cc)
      (λ h. h)
      (one_of (not (is_touched m shape)) (is_covered targets shape shape.bounds) e)

  pub member_covered : (alone null : Bool)
      → (if alone then not (takes_part structs tag m) || (is_declared structs tag m && (not (is_named structs tag m) && null))
      else not (takes_part structs tag m) || list_all (is_kept targets m) (members_of structs tag)) ≡ true
      → (is_covered targets shape shape.bounds ≡ true) ⊎ ((shape.name ≡ m) × (null ≡ true))
  member_covered true null e = ⊎_elim
      (λ h. inl (apart_covered (not_true (takes_part structs tag m) h)))
      (λ h. let a = and_parts (is_declared structs tag m) (not (is_named structs tag m) && null) h in
      let b = and_parts (not (is_named structs tag m)) null a.1 in
      inr (is_itself (not_true (is_named structs tag m) b.0), b.1))
      (one_of (not (takes_part structs tag m)) (is_declared structs tag m && (not (is_named structs tag m) && null)) e)
  member_covered false null e = ⊎_elim
      (λ h. inl (apart_covered (not_true (takes_part structs tag m) h)))
      (λ h. inl (kept_covered (All-contains (λ s. is_kept targets m s ≡ true) (members_of structs tag) shape (all_pass (is_kept targets m) (members_of structs tag) h) there)))
      (one_of (not (takes_part structs tag m)) (list_all (is_kept targets m) (members_of structs tag)) e)

no_first : (o p : Option Refusal) → option_or o p ≡ None → p ≡ None
no_first None p e = e
no_first (Some r) p e = absurd cc

pub assigned_covered : (frame : Frame) (result : Bounds) (ps : List Placed) (at : State) (p : Placed) (m : Member) (shape : MemberShape) → Contains ps p → local_of p.target ≡ None
    → (view frame p.target).member ≡ Some m → store_fault frame result ps at p ≡ None → Contains (members_of frame.structs m.tag) shape → is_touched m.number shape ≡ true
    → (is_covered (members_assigned frame ps) shape shape.bounds ≡ true) ⊎ ((shape.name ≡ m.number) × ((view frame p.right).null ≡ true))
assigned_covered frame result ps at p m shape among none is e there touched =
    let f : memory_fault frame ps at p ≡ None = sym (ap (target_fault_of frame result ps at p) none) ∙ e in
    let g : member_fault frame ps p (view frame p.target).member ≡ None = no_first (memory_fault_by frame ps at p (memory_bounds frame p.target)) (member_fault frame ps p (view frame p.target).member) f in
    let may = unless_none (may_be_assigned frame ps p m) assigned_alone p.pos (sym (ap (member_fault frame ps p) is) ∙ g) in
    let target = All-contains (IsAmong frame ps) ps p (all_among frame ps) among in
    member_covered frame.structs m.tag m.number (members_assigned frame ps) (target m is) shape there touched (length ps == 1) (view frame p.right).null may
