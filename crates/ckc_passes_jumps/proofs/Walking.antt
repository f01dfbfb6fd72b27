-- Ways of passing blocks, and what walks along them tell.
use Rattle.std.proofs.Common.{◌≡◌, ◌⊎◌, inl, inr, ⊎_elim, ℕ, zero, suc, ◌≤◌, ◌<◌, List, [], ◌∷◌, ◌++◌, length, get_or, set, slice_get, replicate, sum_by, Option, Some, None, refl, sym, ap, subst, ◌∙◌, arith}
use Rattle.std.proofs.lemmas.Bool.{cases_eq}
use Rattle.std.proofs.lemmas.List.{length-set, length_push, length-replicate, get_or-set_same, get_or-set_other, get_or_past}
use Rattle.std.proofs.lemmas.List.Sums.{sum_by-set}
use Rattle.std.proofs.lemmas.Option.{slice_get_within}
use Rattle.ckc_tac.specs.declared.code.TacBlock.{TacBlock}
use Rattle.ckc_passes_jumps.specs.Jumps.{passes_to, Leads, arrives, passes, IsShort}
use Rattle.ckc_passes_jumps.specs.code.Ways.{Way, IsAnswer, IsBefore, AreRight, IsWalked, IsOnWay, IsWalking, blank}

-- ---- ways

pub same_there : {A : Type 0} (xs : List A) (k : ℕ) (x y : A) → slice_get xs k ≡ Some x → slice_get xs k ≡ Some y → x ≡ y
same_there xs k x y e f = cc

same_next : (x y : TacBlock) (n m : ℕ) → x ≡ y → passes_to x ≡ Some n → passes_to y ≡ Some m → n ≡ m
same_next x y n m e f g = (let h : Some n ≡ Some m = sym f ∙ ap passes_to e ∙ g in cc)

no_next : (x y : TacBlock) (n : ℕ) → x ≡ y → passes_to x ≡ None → passes_to y ≡ Some n → ⊥
no_next x y n e f g = (let h : None ≡ Some n = sym f ∙ ap passes_to e ∙ g in absurd cc)

module _ (blocks : List TacBlock) where
  pub way_leads : (n b c : ℕ) → Way blocks n b c → Leads blocks b c
  way_leads zero b c (block, at, e, same) = subst (Leads blocks b) same (arrives block at e)
  way_leads (suc n) b c (block, to, at, e, w) = passes block to at e (way_leads n to c w)

  pub leads_way : (b c : ℕ) → Leads blocks b c → (n : ℕ) × Way blocks n b c
  leads_way b c (arrives block at e) = (0, (block, at, e, refl))
  leads_way b c (passes block to at e l) = (let w = leads_way to c l in (suc w.0, (block, to, at, e, w.1)))

  -- there is one way from a block
  pub one_way : (n m b c d : ℕ) → Way blocks n b c → Way blocks m b d → (n ≡ m) × (c ≡ d)
  one_way zero zero b c d (x, at, e, same) (y, at', e', same') = (refl, sym same ∙ same')
  one_way zero (suc m) b c d (x, at, e, same) (y, to, at', e', w) = absurd (no_next x y to (same_there blocks b x y at at') e e')
  one_way (suc n) zero b c d (x, to, at, e, w) (y, at', e', same) = absurd (no_next y x to (same_there blocks b y x at' at) e' e)
  one_way (suc n) (suc m) b c d (x, to, at, e, w) (y, to', at', e', w') =
      let same = same_next x y to to' (same_there blocks b x y at at') e e' in
      let rest = one_way n m to c d w (subst (λ t. Way blocks m t d) (sym same) w') in
      (ap suc rest.0, rest.1)

  pub one_end : (b c d : ℕ) → Leads blocks b c → Leads blocks b d → c ≡ d
  one_end b c d l m = (let v = leads_way b c l in let w = leads_way b d m in (one_way v.0 w.0 b c d v.1 w.1).1)

  pub one_short : (b c d : ℕ) → IsShort blocks b c → IsShort blocks b d → c ≡ d
  one_short b c d (inl l) (inl m) = one_end b c d l m
  one_short b c d (inl l) (inr (n, e)) = absurd (n c l)
  one_short b c d (inr (n, e)) (inl m) = absurd (n d m)
  one_short b c d (inr (n, e)) (inr (m, f)) = e ∙ sym f

  -- a way begins at a block
  pub leads_within : (b c : ℕ) → Leads blocks b c → b < length blocks
  leads_within b c (arrives block at e) = slice_get_within blocks b block at
  leads_within b c (passes block to at e l) = slice_get_within blocks b block at

  ends_within : (b c : ℕ) → Leads blocks b c → c < length blocks
  ends_within b c (arrives block at e) = slice_get_within blocks b block at
  ends_within b c (passes block to at e l) = ends_within to c l

  pub short_within : (b c : ℕ) → b < length blocks → IsShort blocks b c → c < length blocks
  short_within b c h (inl l) = ends_within b c l
  short_within b c h (inr (n, e)) = omega (arith, h, e)

  -- and goes on from a passing one
  pub leads_on : (b c to : ℕ) (block : TacBlock) → slice_get blocks b ≡ Some block → passes_to block ≡ Some to → Leads blocks b c → Leads blocks to c
  leads_on b c to block at e (arrives other at' none) = absurd (no_next other block to (same_there blocks b other block at' at) none e)
  leads_on b c to block at e (passes other to' at' e' l) =
      subst (λ t. Leads blocks t c) (same_next other block to' to (same_there blocks b other block at' at) e' e) l

  way_on : (n b c to : ℕ) (block : TacBlock) → slice_get blocks b ≡ Some block → passes_to block ≡ Some to → Way blocks n b c
      → (m : ℕ) × (m < n) × Way blocks m to c
  way_on zero b c to block at e (other, at', none, same) = absurd (no_next other block to (same_there blocks b other block at' at) none e)
  way_on (suc n) b c to block at e (other, to', at', e', w) =
      (n, omega arith, subst (λ t. Way blocks n t c) (same_next other block to' to (same_there blocks b other block at' at) e' e) w)

  -- ---- answers

  pub answer_back : (p at : ℕ) (end : Option ℕ) → ((c : ℕ) → Leads blocks at c → Leads blocks p c) → ((c : ℕ) → Leads blocks p c → Leads blocks at c)
      → IsAnswer blocks at end → IsAnswer blocks p end
  answer_back p at (Some c) back on l = back c l
  answer_back p at None back on none = λ c l. none c (on c l)

  on_way_on : (p at : ℕ) → IsOnWay blocks p at → (c : ℕ) → Leads blocks p c → Leads blocks at c
  on_way_on p at o c l = (let w = leads_way p c l in let less = o.less w.0 c w.1 in way_leads less.0 at c less.2)

  -- a way that comes back to where it stands never ends
  back_again : (at : ℕ) → IsOnWay blocks at at → IsAnswer blocks at None
  back_again at o c l =
      let w = leads_way at c l in
      let less = o.less w.0 c w.1 in
      let same = (one_way w.0 less.0 at c c w.1 less.2).0 in
      omega (arith, same, less.1)

  -- ---- a walk

  module _ (b : ℕ) (ends : List (Option ℕ)) where
    pub walk_first : (walks : List (Option ℕ)) → AreRight blocks walks ends → IsWalking blocks b b walks ends
    walk_first walks r = record {
      long = r.long;
      right = λ p w e. inl (r.right p w e);
      back = λ c l. l;
      on = λ c l. l;
    }

    module _ (at : ℕ) (walks : List (Option ℕ)) (k : IsWalking blocks b at walks ends) where
      -- it ends with what is known of the block where it stands
      pub walk_ended : (end : Option ℕ) → IsAnswer blocks at end → IsWalked blocks b walks ends end
      walk_ended end a = record {
        long = k.long;
        right = λ p w e. ⊎_elim (λ h. inl h)
            (λ (h : (w ≡ length ends) × IsOnWay blocks p at). inr (h.0, answer_back p at end h.1.back (on_way_on p at h.1) a)) (k.right p w e);
        answer = answer_back b at end k.back k.on a;
      }

      pub walk_past : length blocks ≤ at → IsWalked blocks b walks ends None
      walk_past h = walk_ended None (λ c l. (let w = leads_within at c l in omega (arith, w, h)))

      -- it comes to a block that a walk came to: another one, or the same
      pub walk_met : (w : ℕ) → get_or walks at None ≡ Some w → IsWalked blocks b walks ends (get_or ends w None)
      walk_met w e = walk_ended (get_or ends w None)
          (⊎_elim (λ (a : IsBefore blocks ends at w). a.answer)
          (λ (a : (w ≡ length ends) × IsOnWay blocks at at).
          let none : get_or ends w None ≡ None = get_or_past ends w None (let f = a.0 in omega (arith, f)) in
          subst (IsAnswer blocks at) (sym none) (back_again at a.1)) (k.right at w e))

      module _ (block : TacBlock) (there : slice_get blocks at ≡ Some block) where
        abbrev marked : List (Option ℕ)
        marked = set walks at (Some (length ends))

        within : at < length walks
        within = (let h = slice_get_within blocks at block there in omega (arith, h, k.long))

        -- the block where it stands has its mark now
        mark_of : (p w : ℕ) → get_or marked p None ≡ Some w → ((p ≡ at) × (w ≡ length ends)) ⊎ (get_or walks p None ≡ Some w)
        mark_of p w e = ⊎_elim
            (λ (same : p ≡ at).
            let f : get_or marked p None ≡ Some (length ends) = ap (λ q. get_or marked q None) same ∙ get_or-set_same walks at (Some (length ends)) None within in
            inl (same, let g : Some w ≡ Some (length ends) = sym e ∙ f in cc))
            (λ (apart : p ≡ at → ⊥). inr (sym (get_or-set_other walks at p (Some (length ends)) None apart) ∙ e)) (cases_eq p at)

        module _ (to : ℕ) (next : passes_to block ≡ Some to) where
          here_on : IsOnWay blocks at to
          here_on = record {
            back = λ c l. passes block to there next l;
            less = λ n c w. way_on n at c to block there next w;
          }

          on_more : (p : ℕ) → IsOnWay blocks p at → IsOnWay blocks p to
          on_more p o = record {
            back = λ c l. o.back c (passes block to there next l);
            less = λ n c w.
                let one = o.less n c w in
                let two = way_on one.0 at c to block there next one.2 in
                (two.0, let l = one.1 in let m = two.1 in omega (arith, l, m), two.2);
          }

          pub walk_on : (walks' : List (Option ℕ)) → walks' ≡ marked → IsWalking blocks b to walks' ends
          walk_on walks' same = subst (λ (v : List (Option ℕ)). IsWalking blocks b to v ends) (sym same) (record {
            long = length-set walks at (Some (length ends)) ∙ k.long;
            right = λ p w e. ⊎_elim
                (λ (h : (p ≡ at) × (w ≡ length ends)). inr (h.1, subst (λ q. IsOnWay blocks q to) (sym h.0) here_on))
                (λ (h : get_or walks p None ≡ Some w). ⊎_elim (λ a. inl a)
                (λ (a : (w ≡ length ends) × IsOnWay blocks p at). inr (a.0, on_more p a.1)) (k.right p w h)) (mark_of p w e);
            back = λ c l. k.back c (passes block to there next l);
            on = λ c l. leads_on at c to block there next (k.on c l);
          })

        pub walk_arrived : passes_to block ≡ None → (walks' : List (Option ℕ)) → walks' ≡ marked → IsWalked blocks b walks' ends (Some at)
        walk_arrived none walks' same =
            let here : Leads blocks at at = arrives block there none in
            subst (λ (v : List (Option ℕ)). IsWalked blocks b v ends (Some at)) (sym same) (record {
              long = length-set walks at (Some (length ends)) ∙ k.long;
              right = λ p w e. ⊎_elim
                  (λ (h : (p ≡ at) × (w ≡ length ends)). inr (h.1, subst (λ q. Leads blocks q at) (sym h.0) here))
                  (λ (h : get_or walks p None ≡ Some w). ⊎_elim (λ a. inl a)
                  (λ (a : (w ≡ length ends) × IsOnWay blocks p at). inr (a.0, a.1.back at here)) (k.right p w h)) (mark_of p w e);
              answer = k.back at here;
            })

-- one block less that no walk came to
pub blank_less : (walks walks' : List (Option ℕ)) (at v : ℕ) → at < length walks → get_or walks at None ≡ None → walks' ≡ set walks at (Some v)
    → sum_by blank walks' < sum_by blank walks
blank_less walks walks' at v h none e =
    let s = sum_by-set blank walks at (Some v) None h in
    let b : blank (get_or walks at None) ≡ 1 = ap blank none in
    let f = ap (λ (l : List (Option ℕ)). sum_by blank l) e in
    omega (arith, s, b, f)

-- ---- one more walk

pub get_or_old : {A : Type 0} (xs : List A) (x : A) (k : ℕ) (d : A) → k < length xs → get_or (xs ++ x ∷ []) k d ≡ get_or xs k d
get_or_old [] x k d h = absurd (omega (arith, h))
get_or_old (y ∷ xs) x zero d h = refl
get_or_old (y ∷ xs) x (suc k) d h = get_or_old xs x k d (omega (arith, h))

pub get_or_new : {A : Type 0} (xs : List A) (x d : A) → get_or (xs ++ x ∷ []) (length xs) d ≡ x
get_or_new [] x d = refl
get_or_new (y ∷ xs) x d = get_or_new xs x d

pub right_more : (blocks : List TacBlock) (b : ℕ) (walks : List (Option ℕ)) (ends ends' : List (Option ℕ)) (end : Option ℕ) → ends' ≡ ends ++ end ∷ []
    → IsWalked blocks b walks ends end → AreRight blocks walks ends'
right_more blocks b walks ends ends' end same k = subst (AreRight blocks walks) (sym same) (record {
  long = k.long;
  right = λ p w e. ⊎_elim
      (λ (h : IsBefore blocks ends p w).
      let r : IsBefore blocks (ends ++ end ∷ []) p w = record {
        before = (let f = h.before in omega (arith, f, length_push ends end));
        answer = subst (IsAnswer blocks p) (sym (get_or_old ends end w None h.before)) h.answer;
      } in r)
      (λ (h : (w ≡ length ends) × IsAnswer blocks p end).
      let last : get_or (ends ++ end ∷ []) w None ≡ end = ap (λ v. get_or (ends ++ end ∷ []) v None) h.0 ∙ get_or_new ends end None in
      let r : IsBefore blocks (ends ++ end ∷ []) p w = record {
        before = (let f = h.0 in omega (arith, f, length_push ends end));
        answer = subst (IsAnswer blocks p) (sym last) h.1;
      } in r)
      (k.right p w e);
})

none_walked : (n p w : ℕ) → get_or (replicate n None) p None ≡ Some w → ⊥
none_walked zero p w e = absurd cc
none_walked (suc n) zero w e = absurd cc
none_walked (suc n) (suc p) w e = none_walked n p w e

-- at first no walk came to any block
pub right_first : (blocks : List TacBlock) (walks ends : List (Option ℕ)) → walks ≡ replicate (length blocks) None → AreRight blocks walks ends
right_first blocks walks ends same = record {
  long = ap length same ∙ length-replicate (length blocks) None;
  right = λ p w e. absurd (none_walked (length blocks) p w (subst (λ (l : List (Option ℕ)). get_or l p None ≡ Some w) same e));
}
