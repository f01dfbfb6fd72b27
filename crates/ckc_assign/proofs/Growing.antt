-- Ranges that grow place by place.
use Rattle.std.proofs.Common.{◌≡◌, ◌⊎◌, ⊎_elim, ℕ, ◌+◌, ◌≤◌, ◌<◌, ◌==◌, nat_lt, if◌then◌else◌, Bool, true, false, List, [], length, get_or, set, Some, refl, sym, ap, subst, ◌∙◌, arith, drop, take, ◌++◌, ◌∷◌, zero, suc, inl, inr}
use Rattle.std.specs.List.{slice_get}
use Rattle.std.proofs.lemmas.Bool.{cases_eq, cases_lt}
use Rattle.std.proofs.lemmas.Bool.Decides.{nat_tests}
use Rattle.std.proofs.lemmas.List.{length-set, get_or-set_same, get_or-set_other, take-append-drop, drop_more, length-take-le, append-nil}
use Rattle.std.proofs.lemmas.List.Sums.{sum_by_more}
use Rattle.std.proofs.lemmas.Option.{slice_get_within, get_or_from_slice_get}
use Rattle.ckc_tac.specs.declared.code.TacBlock.{TacBlock}
use Rattle.ckc_tac.specs.declared.code.TacFunc.{TacFunc}
use Rattle.ckc_tac.specs.declared.code.TacOp.{TacOp}
use Rattle.ckc_flow.specs.Live.{read_here, IsExact, reads, target_of}
use Rattle.ckc_assign.specs.declared.ranges.Range.{Range}
use Rattle.ckc_assign.specs.Apart.{IsPoint}
use Rattle.ckc_assign.specs.Slots.{IsUsedAt, live_there, written_there, entered_there, number_at, places_in}
use Rattle.ckc_assign.specs.code.Ranges.{unused, range_of, Covers, AreTight, HasRange, IsUsedIn, IsUsedInBlock, PassesBlock, reach, Sees, SeesOps, SeesBlock, SeesFirst, no_op, first_place}

pub same_test : (a r : ℕ) → a ≡ r → (a == r) ≡ true
same_test a r e = grind (arith, nat_tests)

pub test_same : (a r : ℕ) → (a == r) ≡ true → a ≡ r
test_same a r e = grind (arith, nat_tests)

abbrev Within : Range → ℕ → Type 0
Within range p = (range.first ≤ p) × (p ≤ range.last)

test_lt : (a b : ℕ) → nat_lt a b ≡ true → a < b
test_lt a b e = grind (arith, nat_tests)

test_ge : (a b : ℕ) → nat_lt a b ≡ false → b ≤ a
test_ge a b e = grind (arith, nat_tests)

reach_case : (range : Range) (place p : ℕ) (b c d : Bool) → nat_lt range.last range.first ≡ b → nat_lt place range.first ≡ c → nat_lt range.last place ≡ d
    → (let new : Range = if b then record { first = place; last = place } else (if c then record { first = place; last = range.last } else (if d then record { first = range.first; last = place } else range)) in
    Within new place × (Within range p → Within new p))
reach_case range place p true c d e f g = ((omega arith, omega arith), λ h. absurd (let k = test_lt range.last range.first e in omega (arith, h.0, h.1)))
reach_case range place p false true d e f g =
    let k = test_ge range.last range.first e in let m = test_lt place range.first f in
    ((omega arith, omega arith), λ h. (omega (arith, h.0), h.1))
reach_case range place p false false true e f g =
    let k = test_ge place range.first f in let m = test_lt range.last place g in
    ((omega arith, omega arith), λ h. (h.0, omega (arith, h.1)))
reach_case range place p false false false e f g =
    let k = test_ge place range.first f in let m = test_ge range.last place g in
    ((omega arith, omega arith), λ h. h)

reaches : (range : Range) (place p : ℕ) → Within (reach range place) place × (Within range p → Within (reach range place) p)
reaches range place p = reach_case range place p (nat_lt range.last range.first) (nat_lt place range.first) (nat_lt range.last place) refl refl refl

-- the ends of the range are those of before, or the place
abbrev Ends : Range → Range → ℕ → Type 0
Ends old new place = (((old.first ≤ old.last) × (new.first ≡ old.first)) ⊎ (new.first ≡ place)) × (((old.first ≤ old.last) × (new.last ≡ old.last)) ⊎ (new.last ≡ place))

ends_case : (range : Range) (place : ℕ) (b c d : Bool) → nat_lt range.last range.first ≡ b
    → (let new : Range = if b then record { first = place; last = place } else (if c then record { first = place; last = range.last } else (if d then record { first = range.first; last = place } else range)) in
    Ends range new place)
ends_case range place true c d e = (inr refl, inr refl)
ends_case range place false true d e = (inr refl, inl (test_ge range.last range.first e, refl))
ends_case range place false false true e = (inl (test_ge range.last range.first e, refl), inr refl)
ends_case range place false false false e = let h = test_ge range.last range.first e in (inl (h, refl), inl (h, refl))

reach_ends : (range : Range) (place : ℕ) → Ends range (reach range place) place
reach_ends range place = ends_case range place (nat_lt range.last range.first) (nat_lt place range.first) (nat_lt range.last place) refl

-- ---- tight ranges

tight_same : (N : ℕ → ℕ → Type 0) (xs : List Range) → AreTight N xs xs
tight_same N xs r h = (inl (h, refl), inl (h, refl))

tight_then : (M N R : ℕ → ℕ → Type 0) (a b c : List Range) → AreTight M a b → AreTight N b c → ((r p : ℕ) → M r p → R r p) → ((r p : ℕ) → N r p → R r p) → AreTight R a c
tight_then M N R a b c m n f g r h = (
  ⊎_elim
      (λ (k, e). ⊎_elim (λ (l, d). inl (l, e ∙ d)) (λ x. inr (subst (R r) (sym e) (f r (range_of b r).first x))) (m r k).0)
      (λ x. inr (g r (range_of c r).first x)) (n r h).0,
  ⊎_elim
      (λ (k, e). ⊎_elim (λ (l, d). inl (l, e ∙ d)) (λ x. inr (subst (R r) (sym e) (f r (range_of b r).last x))) (m r k).1)
      (λ x. inr (g r (range_of c r).last x)) (n r h).1,
)

-- ---- steps

module _ (place : ℕ) where
  pub sees_same : (P : ℕ → Type 0) (xs : List Range) → ((r : ℕ) → r < length xs → P r → ⊥) → Sees P place xs xs
  sees_same P xs h = record {
    long = refl;
    grown = λ r p c. c;
    seen = λ r k m. absurd (h r k m);
    tight = tight_same (λ r p. P r × (p ≡ place)) xs;
  }

  pub sees_set : (xs : List Range) (r : ℕ) → r < length xs → Sees (λ q. r ≡ q) place xs (set xs r (reach (range_of xs r) place))
  sees_set xs r h =
      let new = set xs r (reach (range_of xs r) place) in
      let here : range_of new r ≡ reach (range_of xs r) place = get_or-set_same xs r (reach (range_of xs r) place) unused h in
      record {
        long = length-set xs r (reach (range_of xs r) place);
        grown = λ q p c. ⊎_elim
            (λ (e : q ≡ r). subst (λ k. Within (range_of new k) p) (sym e) (subst (λ (x : Range). Within x p) (sym here)
            ((reaches (range_of xs r) place p).1 (subst (λ k. Within (range_of xs k) p) e c))))
            (λ (e : q ≡ r → ⊥). subst (λ (x : Range). Within x p) (sym (get_or-set_other xs r q (reach (range_of xs r) place) unused e)) c)
            (cases_eq q r);
        seen = λ q k e. subst (λ n. Within (range_of new n) place) e (subst (λ (x : Range). Within x place) (sym here) (reaches (range_of xs r) place place).0);
        tight = λ q used. ⊎_elim
            (λ (e : r ≡ q).
            let at : Ends (range_of xs q) (range_of new q) place = subst (λ n. Ends (range_of xs n) (range_of new n) place) e
            (subst (λ (x : Range). Ends (range_of xs r) x place) (sym here) (reach_ends (range_of xs r) place)) in
            (⊎_elim (λ k. inl k) (λ k. inr (e, k)) at.0, ⊎_elim (λ k. inl k) (λ k. inr (e, k)) at.1))
            (λ (ne : r ≡ q → ⊥).
            let same = get_or-set_other xs r q (reach (range_of xs r) place) unused (λ x. ne (sym x)) in
            let was = subst (λ (x : Range). x.first ≤ x.last) same used in
            (inl (was, ap (λ (x : Range). x.first) same), inl (was, ap (λ (x : Range). x.last) same)))
            (cases_eq r q);
      }

  pub sees_then : (P Q R : ℕ → Type 0) (a b c : List Range) → Sees P place a b → Sees Q place b c → ((r : ℕ) → R r → P r ⊎ Q r) → ((r : ℕ) → P r → R r) → ((r : ℕ) → Q r → R r)
      → Sees R place a c
  sees_then P Q R a b c p q h f g = record {
    long = q.long ∙ p.long;
    grown = λ r n k. q.grown r n (p.grown r n k);
    seen = λ r k m. ⊎_elim (λ x. q.grown r place (p.seen r k x)) (λ x. q.seen r (omega (arith, p.long)) x) (h r m);
    tight = tight_then (λ r n. P r × (n ≡ place)) (λ r n. Q r × (n ≡ place)) (λ r n. R r × (n ≡ place)) a b c p.tight q.tight (λ r n x. (f r x.0, x.1)) (λ r n x. (g r x.0, x.1));
  }

  pub sees_as : (P Q : ℕ → Type 0) (a b : List Range) → Sees P place a b → ((r : ℕ) → Q r → P r) → ((r : ℕ) → P r → Q r) → Sees Q place a b
  sees_as P Q a b p h f = record {
    long = p.long;
    grown = p.grown;
    seen = λ r k m. p.seen r k (h r m);
    tight = tight_then (λ r n. P r × (n ≡ place)) (λ r n. P r × (n ≡ place)) (λ r n. Q r × (n ≡ place)) a b b p.tight (tight_same (λ r n. P r × (n ≡ place)) b) (λ r n x. (f r x.0, x.1)) (λ r n x. (f r x.0, x.1));
  }

-- ---- operations of a block

pub ops_none : (ops : List TacOp) (place : ℕ) (xs : List Range) → SeesOps ops 0 place xs xs
ops_none ops place xs = record {
  long = refl;
  grown = λ r p c. c;
  read = λ i r h k m. absurd (omega arith);
  written = λ i r h k m. absurd (omega arith);
  tight = tight_same (IsUsedIn ops 0 place) xs;
}

pub ops_more : (ops : List TacOp) (count place at next : ℕ) (op : TacOp) (a b c d : List Range) → at ≡ place + count → next ≡ at + 1 → op ≡ get_or ops count no_op
    → SeesOps ops count place a b → Sees (λ r. reads r op ≡ true) at b c → Sees (λ r. target_of op ≡ Some r) next c d → SeesOps ops (count + 1) place a d
ops_more ops count place at next op a b c d e f is o p q = record {
  long = q.long ∙ p.long ∙ o.long;
  grown = λ r n k. q.grown r n (p.grown r n (o.grown r n k));
  read = λ i r h k m. ⊎_elim
      (λ (less : i < count). q.grown r (place + i) (p.grown r (place + i) (o.read i r less k m)))
      (λ (more : count ≤ i).
      let same : i ≡ count = omega arith in
      let here : at ≡ place + i = omega arith in
      subst (λ n. Covers d r n) here (q.grown r at (p.seen r (omega (arith, o.long))
      (subst (λ (x : TacOp). reads r x ≡ true) (sym is) (subst (λ n. reads r (get_or ops n no_op) ≡ true) same m)))))
      (cases_lt i count);
  written = λ i r h k m. ⊎_elim
      (λ (less : i < count). q.grown r (place + i + 1) (p.grown r (place + i + 1) (o.written i r less k m)))
      (λ (more : count ≤ i).
      let same : i ≡ count = omega arith in
      let here : next ≡ place + i + 1 = omega arith in
      subst (λ n. Covers d r n) here (q.seen r (omega (arith, o.long, p.long))
      (subst (λ (x : TacOp). target_of x ≡ Some r) (sym is) (subst (λ n. target_of (get_or ops n no_op) ≡ Some r) same m))))
      (cases_lt i count);
  tight = tight_then (IsUsedIn ops count place) (IsUsedIn ops (count + 1) place) (IsUsedIn ops (count + 1) place) a b d o.tight
      (tight_then (λ r n. (reads r op ≡ true) × (n ≡ at)) (λ r n. (target_of op ≡ Some r) × (n ≡ next)) (IsUsedIn ops (count + 1) place) b c d p.tight q.tight
      (λ r n (m, k). (count, omega arith, inl (subst (λ (x : TacOp). reads r x ≡ true) is m, k ∙ e)))
      (λ r n (m, k). (count, omega arith, inr (subst (λ (x : TacOp). target_of x ≡ Some r) is m, k ∙ f ∙ ap (λ x. x + 1) e))))
      (λ r n (i, h, m). (i, omega arith, m))
      (λ r n m. m);
}

-- ---- a block

marked_inside : (row : List Bool) (r : ℕ) → get_or row r false ≡ true → r < length row
marked_inside [] r e = absurd cc
marked_inside (x ∷ row) zero e = omega arith
marked_inside (x ∷ row) (suc r) e = let h = marked_inside row r e in omega arith

pub block_seen : (f : TacFunc) (block : TacBlock) (place at : ℕ) (first last : List Bool) (a b c d : List Range)
    → length a ≡ f.regs → IsExact f block.ops block.end first → IsExact f [] block.end last → at ≡ place + length block.ops
    → Sees (λ r. get_or first r false ≡ true) place a b → SeesOps block.ops (length block.ops) place b c → Sees (λ r. get_or last r false ≡ true) at c d
    → PassesBlock f block place a d
block_seen f block place at first last a b c d long x y e s o t = record {
  seen = record {
    long = t.long ∙ o.long ∙ s.long;
    grown = λ r n k. t.grown r n (o.grown r n (s.grown r n k));
    begin = λ r h live. t.grown r place (o.grown r place (s.seen r (omega arith) ((x.exact r h).1 live)));
    read = λ i r h k m. t.grown r (place + i) (o.read i r h (omega (arith, s.long)) m);
    written = λ i r h k m. t.grown r (place + i + 1) (o.written i r h (omega (arith, s.long)) m);
    end = λ r h live. subst (λ n. Covers d r n) e (t.seen r (omega (arith, s.long, o.long)) ((y.exact r h).1 live));
  };
  tight = tight_then (λ r n. (get_or first r false ≡ true) × (n ≡ place)) (IsUsedInBlock f block place) (IsUsedInBlock f block place) a b d s.tight
      (tight_then (IsUsedIn block.ops (length block.ops) place) (λ r n. (get_or last r false ≡ true) × (n ≡ at)) (IsUsedInBlock f block place) b c d o.tight t.tight
      (λ r n m. inr (inl m))
      (λ r n (m, k). inr (inr (k ∙ e, (y.exact r (omega (arith, marked_inside last r m, y.long))).0 m))))
      (λ r n (m, k). inl (k, (x.exact r (omega (arith, marked_inside first r m, x.long))).0 m))
      (λ r n m. m);
}

block_grown : (f : TacFunc) (block : TacBlock) (place : ℕ) (a b c : List Range) → SeesBlock f block place a b → length c ≡ length b
    → ((r p : ℕ) → Covers b r p → Covers c r p) → SeesBlock f block place a c
block_grown f block place a b c s long grown = record {
  long = long ∙ s.long;
  grown = λ r n k. grown r n (s.grown r n k);
  begin = λ r h live. grown r place (s.begin r h live);
  read = λ i r h k m. grown r (place + i) (s.read i r h k m);
  written = λ i r h k m. grown r (place + i + 1) (s.written i r h k m);
  end = λ r h live. grown r (place + length block.ops) (s.end r h live);
}

-- ---- all blocks

-- ---- uses of blocks are uses of the function

module _ (f : TacFunc) (b : ℕ) (block : TacBlock) (at : slice_get f.blocks b ≡ Some block) where
  split_at : (i : ℕ) → i < length block.ops → block.ops ≡ take i block.ops ++ get_or block.ops i no_op ∷ drop (i + 1) block.ops
  split_at i h = sym (take-append-drop i block.ops) ∙ ap (λ l. take i block.ops ++ l) (drop_more block.ops i no_op h)

  place_at : (i : ℕ) → i < length block.ops → IsPoint f b block (take i block.ops) (get_or block.ops i no_op ∷ drop (i + 1) block.ops)
  place_at i h = record { there = at; split = split_at i h }

  number_is : (i : ℕ) → i < length block.ops → number_at f b (take i block.ops) ≡ first_place f b + i
  number_is i h = ap (λ n. first_place f b + n) (length-take-le i block.ops (omega arith))

  used_at : (r p : ℕ) → IsUsedInBlock f block (first_place f b) r p → IsUsedAt f r p
  used_at r p (inl (e, live)) = live_there b block [] block.ops (record { there = at; split = refl }) (let n : first_place f b + length {A = TacOp} [] ≡ p = omega (arith, e) in n) live
  used_at r p (inr (inl (i, h, inl (read, e)))) =
      live_there b block (take i block.ops) (get_or block.ops i no_op ∷ drop (i + 1) block.ops) (place_at i h) (number_is i h ∙ sym e) (read_here read)
  used_at r p (inr (inl (i, h, inr (write, e)))) =
      written_there b block (take i block.ops) (drop (i + 1) block.ops) (get_or block.ops i no_op) (place_at i h) (ap (λ n. n + 1) (number_is i h) ∙ sym e) write
  used_at r p (inr (inr (e, live))) = live_there b block block.ops [] (record { there = at; split = sym (append-nil block.ops) }) (sym e) live

pub first_none : (f : TacFunc) (a b : List Range) → length a ≡ f.regs → ((r : ℕ) → HasRange a r → ⊥) → Sees (λ r. r < f.params) 1 a b → SeesFirst f 0 b
first_none f a b long none s = record {
  long = s.long ∙ long;
  entered = λ r h k. s.seen r (omega arith) k;
  blocks = λ c block h e. absurd (omega arith);
  tight = λ r h. (
    ⊎_elim (λ (k, e). absurd (none r k)) (λ (k, e). entered_there e k) (s.tight r h).0,
    ⊎_elim (λ (k, e). absurd (none r k)) (λ (k, e). entered_there e k) (s.tight r h).1,
  );
}

pub first_more : (f : TacFunc) (b : ℕ) (block : TacBlock) (old new : List Range) → slice_get f.blocks b ≡ Some block → SeesFirst f b old
    → PassesBlock f block (first_place f b) old new → SeesFirst f (b + 1) new
first_more f b block old new at s p =
    let t = p.seen in
    record {
      long = t.long ∙ s.long;
      entered = λ r h k. t.grown r 1 (s.entered r h k);
      blocks = λ c block' h e. ⊎_elim
          (λ (less : c < b). let (o, m) = s.blocks c block' less e in (o, block_grown f block' (first_place f c) o old new m t.long t.grown))
          (λ (more : b ≤ c).
          let same : c ≡ b = omega arith in
          let is : block' ≡ block = (let g : slice_get f.blocks b ≡ Some block' = subst (λ n. slice_get f.blocks n ≡ Some block') same e in cc) in
          (old, subst (λ n. SeesBlock f block' (first_place f n) old new) (sym same) (subst (λ (x : TacBlock). SeesBlock f x (first_place f b) old new) (sym is) t)))
          (cases_lt c b);
      tight = λ r h. (
        ⊎_elim (λ (k, e). subst (IsUsedAt f r) (sym e) (s.tight r k).0) (λ u. used_at f b block at r (range_of new r).first u) (p.tight r h).0,
        ⊎_elim (λ (k, e). subst (IsUsedAt f r) (sym e) (s.tight r k).1) (λ u. used_at f b block at r (range_of new r).last u) (p.tight r h).1,
      );
    }

pub place_more : (f : TacFunc) (b : ℕ) (block : TacBlock) (place : ℕ) → slice_get f.blocks b ≡ Some block → place ≡ first_place f b
    → place + length block.ops + 1 ≡ first_place f (b + 1)
place_more f b block place at e =
    let more = sum_by_more places_in f.blocks b block (slice_get_within f.blocks b block at) in
    let is : get_or f.blocks b block ≡ block = get_or_from_slice_get f.blocks b block block at in
    let one : places_in (get_or f.blocks b block) ≡ length block.ops + 1 = ap places_in is in
    omega (arith, more, one, e)
