-- The codes of the errors of assignments.
use Rattle.std.specs.Option.{option_or}
use Rattle.std.proofs.Common.{◌≡◌, ◌⊎◌, inl, inr, refl, subst, ℕ, Bool, true, false, List, [], ◌∷◌, map}
use Rattle.std.specs.Prelude.{Option, None, Some, Err, if◌then◌else◌}
use Rattle.std.specs.List.{find}
use Rattle.ckc_base.specs.declared.places.Pos.{Pos}
use Rattle.ckc_base.specs.declared.places.Refusal.{Refusal}
use Rattle.ckc_bounds_points.specs.declared.frame.Bounds.{Bounds}
use Rattle.ckc_bounds_points.specs.declared.frame.Bounds.TheVariants as bounds
use Rattle.ckc_bounds_points.specs.declared.frame.Frame.{Frame}
use Rattle.ckc_bounds_points.specs.declared.frame.Local.{Local}
use Rattle.ckc_bounds_points.specs.Frames.{local_at}
use Rattle.ckc_bounds_points.specs.Flow.{State}
use Rattle.ckc_bounds_views.specs.declared.variables.Member.{Member}
use Rattle.ckc_bounds_views.specs.Views.{view}
use Rattle.ckc_bounds_stores.specs.Targets.{local_of, memory_bounds}
use Rattle.ckc_bounds_stores.specs.Stores.{Store, Placed, numbered, assigns_local, touches, refusal_unless, named_fault, touched_fault, fault_by_bounds, fault_of_local, local_fault, memory_fault_by, member_fault, target_fault_of, store_fault, decides, earlier, earliest, first_fault, unless_refused, after, stored_placed, stored}

-- a code of an assignment
abbrev pub IsStoreCode : ℕ → Type 0
IsStoreCode code = (code ≡ 602) ⊎ ((code ≡ 604) ⊎ (code ≡ 605))

abbrev Coded : Option Refusal → Type 0
Coded None = Unit {0}
Coded (Some r) = IsStoreCode r.code

coded_unless : (kept : Bool) (code : ℕ) (pos : Pos) → IsStoreCode code → Coded (refusal_unless kept code pos)
coded_unless true code pos h = tt
coded_unless false code pos h = h

coded_named : (frame : Frame) (ps : List Placed) (at : State) (k : ℕ) (limits : Bounds) (named : Option Placed) → Coded (named_fault frame ps at k limits named)
coded_named frame ps at k limits None = tt
coded_named frame ps at k limits (Some p) = coded_unless _ 604 p.pos (inr (inl refl))

coded_touched : (frame : Frame) (ps : List Placed) (at : State) (k : ℕ) (limits : Bounds) (p : Option Placed) → Coded (touched_fault frame ps at k limits p)
coded_touched frame ps at k limits None = coded_named frame ps at k limits (find (touches limits) ps)
coded_touched frame ps at k limits (Some p) = coded_unless _ 602 p.pos (inl refl)

coded_by_bounds : (frame : Frame) (ps : List Placed) (at : State) (k : ℕ) (limits : Bounds) → Coded (fault_by_bounds frame ps at k limits)
coded_by_bounds frame ps at k bounds.Unknown = tt
coded_by_bounds frame ps at k (bounds.Known low high) = coded_touched frame ps at k (bounds.Known low high) (find (assigns_local k) ps)

coded_of_local : (frame : Frame) (ps : List Placed) (at : State) (k : ℕ) (l : Option Local) → Coded (fault_of_local frame ps at k l)
coded_of_local frame ps at k None = tt
coded_of_local frame ps at k (Some l) = coded_by_bounds frame ps at k l.bounds

coded_local : (frame : Frame) (ps : List Placed) (at : State) (k : ℕ) → Coded (local_fault frame ps at k)
coded_local frame ps at k = coded_of_local frame ps at k (local_at frame k)

coded_memory_by : (frame : Frame) (ps : List Placed) (at : State) (p : Placed) (limits : Bounds) → Coded (memory_fault_by frame ps at p limits)
coded_memory_by frame ps at p bounds.Unknown = tt
coded_memory_by frame ps at p (bounds.Known low high) = coded_unless _ 602 p.pos (inl refl)

coded_member : (frame : Frame) (ps : List Placed) (p : Placed) (m : Option Member) → Coded (member_fault frame ps p m)
coded_member frame ps p None = tt
coded_member frame ps p (Some m) = coded_unless _ 605 p.pos (inr (inr refl))

coded_first : (r s : Option Refusal) → Coded r → Coded s → Coded (option_or r s)
coded_first None s h k = k
coded_first (Some r) s h k = h

coded_target : (frame : Frame) (limits : Bounds) (ps : List Placed) (at : State) (p : Placed) (k : Option ℕ) → Coded (target_fault_of frame limits ps at p k)
coded_target frame limits ps at p None =
    coded_first (memory_fault_by frame ps at p (memory_bounds frame p.target)) (member_fault frame ps p (view frame p.target).member)
    (coded_memory_by frame ps at p (memory_bounds frame p.target)) (coded_member frame ps p (view frame p.target).member)
coded_target frame limits ps at p (Some k) = coded_unless _ 604 p.pos (inr (inl refl))

coded_store : (frame : Frame) (limits : Bounds) (ps : List Placed) (at : State) (p : Placed) → Coded (store_fault frame limits ps at p)
coded_store frame limits ps at p = coded_target frame limits ps at p (local_of p.target)

coded_choice : (b : Bool) (r s : Option Refusal) → Coded r → Coded s → Coded (if b then r else s)
coded_choice true r s h k = h
coded_choice false r s h k = k

coded_earlier : (r s : Option Refusal) → Coded r → Coded s → Coded (earlier r s)
coded_earlier None s h k = k
coded_earlier (Some r) None h k = h
coded_earlier (Some r) (Some s) h k = coded_choice (decides s r) (Some s) (Some r) k h

coded_earliest : {X : Type 0} (f : X → Option Refusal) (xs : List X) (r : Option Refusal) → ((x : X) → Coded (f x)) → Coded r → Coded (earliest r (map f xs))
coded_earliest f [] r each h = h
coded_earliest f (x ∷ xs) r each h = coded_earliest f xs (earlier r (f x)) each (coded_earlier r (f x) h (each x))

coded_fault : (frame : Frame) (result : Bounds) (scope : List ℕ) (ps : List Placed) (at : State) → Coded (first_fault frame result scope ps at)
coded_fault frame result scope ps at =
    coded_earliest (store_fault frame result ps at) ps (earliest None (map (local_fault frame ps at) scope)) (coded_store frame result ps at)
    (coded_earliest (local_fault frame ps at) scope None (coded_local frame ps at) tt)

code_of : (f : Option Refusal) (at : State) (r : Refusal) → Coded f → unless_refused f at ≡ Err r → IsStoreCode r.code
code_of None at r h e = cc
code_of (Some s) at r h e = let same : s ≡ r = cc in let P : Refusal → Type 0 = λ t. IsStoreCode t.code in subst P same h

-- what an assignment or a bundle is refused with
pub stored_coded : (frame : Frame) (result : Bounds) (scope : List ℕ) (ss : List Store) (fresh : ℕ) (at : State) (r : Refusal) → stored frame result scope ss fresh at ≡ Err r → IsStoreCode r.code
unfolding stored_placed
stored_coded frame result scope ss fresh at r e =
    let ps = numbered frame at 0 fresh ss in
    code_of (first_fault frame result scope ps at) (after frame at.facts ps at) r (coded_fault frame result scope ps at) e
