-- A register takes a machine register that is free, or from another register.
use Rattle.std.proofs.Common.{◌≡◌, ◌≢◌, ◌⊎◌, inl, inr, ⊎_elim, ℕ, ◌≤◌, ◌<◌, List, length, refl, sym, ap, subst, ◌∙◌, arith}
use Rattle.std.specs.Prelude.{set}
use Rattle.std.proofs.lemmas.Bool.{cases_eq, cases_lt}
use Rattle.std.proofs.lemmas.List.{get_or-set_same, get_or-set_other, get_or_past, length-set}
use Rattle.ckc_frame.specs.declared.code.Place.{Place}
use Rattle.ckc_frame.specs.declared.code.Place.TheVariants.{Reg, Slot}
use Rattle.ckc_frame.specs.WellFormed.{IsPlace}
use Rattle.ckc_assign.specs.declared.ranges.Range.{Range}
use Rattle.ckc_assign.specs.code.Ranges.{range_of, unused, HasRange}
use Rattle.ckc_assign.specs.code.Homes.{holder_of, home_of, AreBusy, BeginLate, HaveBegun, IsFair, IsGiven, IsScan}
use Rattle.ckc_assign.proofs.Fair.{is_register, meets_many}

slot_no_reg : (r h : ℕ) → Slot r ≡ Reg h → ⊥
slot_no_reg r h e = absurd cc

same_reg : (h k : ℕ) → Reg h ≡ Reg k → h ≡ k
same_reg h k e = cc

same_slot : (r s : ℕ) → Slot r ≡ Slot s → s ≡ r
same_slot r s e = (let f : r ≡ s = cc in sym f)

-- a number that no register has, has no range
past : (ranges : List Range) (q : ℕ) → length ranges ≤ q → range_of ranges q ≡ unused
past ranges q h = get_or_past ranges q unused h

module _ (ranges : List Range) (holders : List ℕ) (homes : List Place) (s : IsScan ranges holders homes) (late : BeginLate ranges) (r h : ℕ) (there : r < length ranges) (low : h < 16)
    (slot : home_of homes r ≡ Slot r) (begun : HaveBegun ranges holders (range_of ranges r).first) where
  abbrev begin : ℕ
  begin = (range_of ranges r).first

  abbrev holder : ℕ
  holder = holder_of holders h

  has_range : HasRange ranges r
  has_range = s.needed r r there slot

  begins_late : 1 ≤ begin
  begins_late = late r has_range

  -- the homes when the machine register is free
  record IsFreed (freed : List Place) : Type 0 where
    long : length freed ≡ length ranges
    slot_still : home_of freed r ≡ Slot r
    back : (p k : ℕ) → p < length ranges → home_of freed p ≡ Reg k → home_of homes p ≡ Reg k
    forth : (k : ℕ) → k < 16 → k ≢ h → holder_of holders k < length ranges → home_of freed (holder_of holders k) ≡ Reg k
    places : (p : ℕ) → p < length ranges → IsPlace (home_of freed p)
    slots : (p t : ℕ) → p < length ranges → home_of freed p ≡ Slot t → t ≡ p
    needed : (p t : ℕ) → p < length ranges → home_of freed p ≡ Slot t → HasRange ranges p
    over : (p : ℕ) → p < length ranges → HasRange ranges p → home_of freed p ≡ Reg h → (range_of ranges p).last < begin

  module _ (freed : List Place) (f : IsFreed freed) where
    abbrev holders' : List ℕ
    holders' = set holders h r

    abbrev homes' : List Place
    homes' = set freed r (Reg h)

    home_same : (p : ℕ) → p ≡ r → home_of homes' p ≡ Reg h
    home_same p e = ap (λ q. home_of homes' q) e ∙ get_or-set_same freed r (Reg h) (Slot 0) (omega (arith, f.long, there))

    home_other : (p : ℕ) → p ≢ r → home_of homes' p ≡ home_of freed p
    home_other p ne = get_or-set_other freed r p (Reg h) (Slot 0) ne

    holder_same : (k : ℕ) → k ≡ h → holder_of holders' k ≡ r
    holder_same k e = ap (λ q. holder_of holders' q) e ∙ get_or-set_same holders h r 0 (omega (arith, s.wide, low))

    holder_other : (k : ℕ) → k ≢ h → holder_of holders' k ≡ holder_of holders k
    holder_other k ne = get_or-set_other holders h k r 0 ne

    -- what else holds a machine register is another register
    holder_apart : (k : ℕ) → k < 16 → holder_of holders k < length ranges → holder_of holders k ≢ r
    holder_apart k l m e = slot_no_reg r k (sym slot ∙ ap (λ q. home_of homes q) (sym e) ∙ s.here k l m)

    reg_is : (k p : ℕ) → p ≡ r → home_of homes' p ≡ Reg k → k ≡ h
    reg_is k p e u = same_reg k h (sym u ∙ home_same p e)

    places' : (p : ℕ) → p < length ranges → IsPlace (home_of homes' p)
    places' p l = ⊎_elim (λ (e : p ≡ r). subst IsPlace (sym (home_same p e)) low) (λ (ne : p ≢ r). subst IsPlace (sym (home_other p ne)) (f.places p l)) (cases_eq p r)

    slot_other : (p t : ℕ) → home_of homes' p ≡ Slot t → p ≢ r
    slot_other p t u e = slot_no_reg t h (sym u ∙ home_same p e)

    used' : (k : ℕ) → k < 16 → holder_of holders' k < length ranges → HasRange ranges (holder_of holders' k)
    used' k l m = ⊎_elim
        (λ (e : k ≡ h). subst (HasRange ranges) (sym (holder_same k e)) has_range)
        (λ (ne : k ≢ h). subst (HasRange ranges) (sym (holder_other k ne)) (s.used k l (subst (λ q. q < length ranges) (holder_other k ne) m)))
        (cases_eq k h)

    here' : (k : ℕ) → k < 16 → holder_of holders' k < length ranges → home_of homes' (holder_of holders' k) ≡ Reg k
    here' k l m = ⊎_elim
        (λ (e : k ≡ h). home_same (holder_of holders' k) (holder_same k e) ∙ ap (λ q. Reg q) (sym e))
        (λ (ne : k ≢ h).
        let same = holder_other k ne in
        let m' : holder_of holders k < length ranges = subst (λ q. q < length ranges) same m in
        ap (λ q. home_of homes' q) same ∙ home_other (holder_of holders k) (holder_apart k l m') ∙ f.forth k l ne m')
        (cases_eq k h)

    ended' : (p k : ℕ) → p < length ranges → HasRange ranges p → home_of homes' p ≡ Reg k → (p ≡ holder_of holders' k) ⊎ ((range_of ranges p).last < (range_of ranges (holder_of holders' k)).first)
    ended' p k l u e = ⊎_elim
        (λ (same : p ≡ r). inl (same ∙ sym (holder_same k (reg_is k p same e))))
        (λ (ne : p ≢ r).
        let home : home_of freed p ≡ Reg k = sym (home_other p ne) ∙ e in
        ⊎_elim
        (λ (eq : k ≡ h). inr (subst (λ q. (range_of ranges p).last < (range_of ranges q).first) (sym (holder_same k eq)) (f.over p l u (home ∙ ap (λ q. Reg q) eq))))
        (λ (off : k ≢ h). subst (λ q. (p ≡ q) ⊎ ((range_of ranges p).last < (range_of ranges q).first)) (sym (holder_other k off)) (s.ended p k l u (f.back p k l home)))
        (cases_eq k h))
        (cases_eq p r)

    apart' : (p q k : ℕ) → p < length ranges → q < length ranges → p ≢ q → HasRange ranges p → HasRange ranges q → home_of homes' p ≡ Reg k → home_of homes' q ≡ Reg k
        → ((range_of ranges p).last < (range_of ranges q).first) ⊎ ((range_of ranges q).last < (range_of ranges p).first)
    apart' p q k l m ne u v d e = ⊎_elim
        (λ (pr : p ≡ r).
        let off : q ≢ r = λ qr. ne (pr ∙ sym qr) in
        let at : home_of freed q ≡ Reg h = sym (home_other q off) ∙ e ∙ ap (λ x. Reg x) (reg_is k p pr d) in
        inr (subst (λ x. (range_of ranges q).last < (range_of ranges x).first) (sym pr) (f.over q m v at)))
        (λ (pn : p ≢ r). ⊎_elim
        (λ (qr : q ≡ r).
        let at : home_of freed p ≡ Reg h = sym (home_other p pn) ∙ d ∙ ap (λ x. Reg x) (reg_is k q qr e) in
        inl (subst (λ x. (range_of ranges p).last < (range_of ranges x).first) (sym qr) (f.over p l u at)))
        (λ (qn : q ≢ r). s.apart p q k l m ne u v (f.back p k l (sym (home_other p pn) ∙ d)) (f.back q k m (sym (home_other q qn) ∙ e)))
        (cases_eq q r))
        (cases_eq p r)

    scans : IsScan ranges holders' homes'
    scans = record {
      few = s.few;
      long = length-set freed r (Reg h) ∙ f.long;
      wide = length-set holders h r ∙ s.wide;
      places = places';
      slots = λ p t l e. f.slots p t l (sym (home_other p (slot_other p t e)) ∙ e);
      needed = λ p t l e. f.needed p t l (sym (home_other p (slot_other p t e)) ∙ e);
      used = used';
      here = here';
      ended = ended';
      apart = apart';
    }

    begun_for : (p : ℕ) → begin ≤ p → HaveBegun ranges holders p → HaveBegun ranges holders' p
    begun_for p from b k l m = ⊎_elim
        (λ (e : k ≡ h). subst (λ q. (range_of ranges q).first ≤ p) (sym (holder_same k e)) from)
        (λ (ne : k ≢ h). subst (λ q. (range_of ranges q).first ≤ p) (sym (holder_other k ne)) (b k l (subst (λ q. q < length ranges) (holder_other k ne) m)))
        (cases_eq k h)

    gives : ((q : ℕ) → IsFair ranges homes q → IsFair ranges homes' q) → IsGiven ranges r holders homes holders' homes'
    gives kept = record {
      begun = begun_for;
      kept = kept;
      fair = λ t l e. absurd (slot_no_reg t h (sym e ∙ home_same r refl));
    }

  -- ---- the machine register is free

  module _ (free : (range_of ranges holder).last < begin) where
    ended_before : (p : ℕ) → (range_of ranges p).last < (range_of ranges holder).first → (range_of ranges p).last < begin
    ended_before p less = ⊎_elim
        (λ (l : holder < length ranges). let u = s.used h low l in omega (arith, u, less, free))
        (λ (l : length ranges ≤ holder). let e : (range_of ranges holder).first ≡ 1 = ap (λ (x : Range). x.first) (past ranges holder l) in omega (arith, e, less, begins_late))
        (cases_lt holder (length ranges))

    as_it_is : IsFreed homes
    as_it_is = record {
      long = s.long;
      slot_still = slot;
      back = λ p k l e. e;
      forth = λ k l ne m. s.here k l m;
      places = s.places;
      slots = s.slots;
      needed = s.needed;
      over = λ p l u e. ⊎_elim (λ (same : p ≡ holder). subst (λ q. (range_of ranges q).last < begin) (sym same) free) (λ less. ended_before p less) (s.ended p h l u e);
    }

    pub free_scans : IsScan ranges (set holders h r) (set homes r (Reg h))
    free_scans = scans homes as_it_is

    pub free_gives : IsGiven ranges r holders homes (set holders h r) (set homes r (Reg h))
    free_gives = gives homes as_it_is (λ q fair t l e. fair t l (sym (home_other homes as_it_is q (slot_other homes as_it_is q t e)) ∙ e))

  -- ---- it is taken from another register

  module _ (busy : AreBusy ranges holders begin) where
    holder_there : holder < length ranges
    holder_there = is_register ranges holder begin begins_late (busy h (omega (arith, s.wide, low)))

    abbrev freed : List Place
    freed = set homes holder (Slot holder)

    freed_same : (p : ℕ) → p ≡ holder → home_of freed p ≡ Slot holder
    freed_same p e = ap (λ q. home_of freed q) e ∙ get_or-set_same homes holder (Slot holder) (Slot 0) (omega (arith, s.long, holder_there))

    freed_other : (p : ℕ) → p ≢ holder → home_of freed p ≡ home_of homes p
    freed_other p ne = get_or-set_other homes holder p (Slot holder) (Slot 0) ne

    holds : home_of homes holder ≡ Reg h
    holds = s.here h low holder_there

    not_holder : (p k : ℕ) → home_of freed p ≡ Reg k → p ≢ holder
    not_holder p k e same = slot_no_reg holder k (sym (freed_same p same) ∙ e)

    other_holder : (k : ℕ) → k < 16 → k ≢ h → holder_of holders k < length ranges → holder_of holders k ≢ holder
    other_holder k l ne m same = ne (same_reg k h (sym (s.here k l m) ∙ ap (λ q. home_of homes q) same ∙ holds))

    apart_from_it : r ≢ holder
    apart_from_it e = slot_no_reg r h (sym slot ∙ ap (λ q. home_of homes q) e ∙ holds)

    is_freed : IsFreed freed
    is_freed = record {
      long = length-set homes holder (Slot holder) ∙ s.long;
      slot_still = freed_other r apart_from_it ∙ slot;
      back = λ p k l e. sym (freed_other p (not_holder p k e)) ∙ e;
      forth = λ k l ne m. freed_other (holder_of holders k) (other_holder k l ne m) ∙ s.here k l m;
      places = λ p l. ⊎_elim
          (λ (e : p ≡ holder). subst IsPlace (sym (freed_same p e)) (let few = s.few in let in_it = holder_there in omega arith))
          (λ (ne : p ≢ holder). subst IsPlace (sym (freed_other p ne)) (s.places p l))
          (cases_eq p holder);
      slots = λ p t l e. ⊎_elim
          (λ (same : p ≡ holder). same_slot holder t (sym (freed_same p same) ∙ e) ∙ sym same)
          (λ (ne : p ≢ holder). s.slots p t l (sym (freed_other p ne) ∙ e))
          (cases_eq p holder);
      needed = λ p t l e. ⊎_elim
          (λ (same : p ≡ holder). subst (HasRange ranges) (sym same) (s.used h low holder_there))
          (λ (ne : p ≢ holder). s.needed p t l (sym (freed_other p ne) ∙ e))
          (cases_eq p holder);
      over = λ p l u e.
          let ne = not_holder p h e in
          ⊎_elim
          (λ (same : p ≡ holder). absurd (ne same))
          (λ (less : (range_of ranges p).last < (range_of ranges holder).first). let b = begun h low holder_there in omega (arith, b, less))
          (s.ended p h l u (sym (freed_other p ne) ∙ e));
    }

    pub taken_scans : IsScan ranges (set holders h r) (set freed r (Reg h))
    taken_scans = scans freed is_freed

    still_busy : AreBusy ranges (set holders h r) begin
    still_busy k l = ⊎_elim
        (λ (e : k ≡ h). subst (λ q. begin ≤ (range_of ranges q).last) (sym (holder_same freed is_freed k e)) has_range)
        (λ (ne : k ≢ h). subst (λ q. begin ≤ (range_of ranges q).last) (sym (holder_other freed is_freed k ne)) (busy k (let e = length-set holders h r in omega (arith, e, l))))
        (cases_eq k h)

    -- the register that has lost its machine register meets those that hold one now
    lost_fair : (q t : ℕ) → q ≡ holder → home_of (set freed r (Reg h)) q ≡ Slot t → IsFair ranges (set freed r (Reg h)) q
    lost_fair q t same e t' l e' =
        meets_many ranges (set holders h r) (set freed r (Reg h)) taken_scans begin begins_late (begun_for freed is_freed begin (omega arith) begun) still_busy q l
        (e' ∙ ap (λ x. Slot x) (taken_scans.slots q t' l e'))
        (subst (λ x. (range_of ranges x).first ≤ begin) (sym same) (begun h low holder_there), subst (λ x. begin ≤ (range_of ranges x).last) (sym same) (busy h (omega (arith, s.wide, low))))

    pub taken_gives : IsGiven ranges r holders homes (set holders h r) (set freed r (Reg h))
    taken_gives = gives freed is_freed (λ q fair t l e. ⊎_elim
        (λ (same : q ≡ holder). lost_fair q t same e t l e)
        (λ (ne : q ≢ holder). fair t l (sym (freed_other q ne) ∙ sym (home_other freed is_freed q (slot_other freed is_freed q t e)) ∙ e))
        (cases_eq q holder))
