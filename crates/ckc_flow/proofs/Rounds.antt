-- What a visit of a block and a round through all of them do to the rows, and that rows with which a round ends are exact.
use Rattle.std.proofs.Common.{◌≡◌, ⊎_elim, ℕ, zero, suc, ◌+◌, ◌≤◌, ◌<◌, Bool, true, false, if◌then◌else◌, List, [], ◌∷◌, length, get_or, set, slice_get, replicate, Some, refl, sym, ap, subst, ◌∙◌, arith}
use Rattle.std.specs.Bool.{OnFalse}
use Rattle.std.proofs.lemmas.Bool.{cases_eq}
use Rattle.std.proofs.lemmas.List.{length-set, length-replicate, get_or-set_same, get_or-set_other, get_or-replicate}
use Rattle.std.proofs.lemmas.List.Sums.{sum_by-cons, sum_by-set}
use Rattle.std.proofs.lemmas.Option.{slice_get_within}
use Rattle.ckc_tac.specs.declared.code.TacFunc.{TacFunc}
use Rattle.ckc_tac.specs.declared.code.TacBlock.{TacBlock}
use Rattle.ckc_tac.specs.declared.code.TacOp.{TacOp}
use Rattle.ckc_tac.specs.declared.code.TacEnd.{TacEnd}
use Rattle.ckc_flow.specs.Live.{IsLive, read_here, read_later, read_at_end, read_in_block, AreExact}
use Rattle.ckc_flow.specs.code.Rows.{joined, passed_all, ended, made}
use Rattle.ckc_flow.specs.code.Rounds.{IsWithin, unset, unset_in_row, unset_in, AreSound, AreClosed, Visits}
use Rattle.ckc_flow.proofs.Marks.{Has, joined_from, joined_keeps, joined_gains, length-joined, passed_gains, passed_keeps, length-passed, ended_reads, ended_leads, length-ended, no_marks}
use Rattle.ckc_flow.proofs.Exact.{all_show, end_live}

-- ---- marks that are not set

unset_le : (x y : Bool) → (x ≡ true → y ≡ true) → unset y ≤ unset x
unset_le true true h = omega arith
unset_le true false h = absurd (let e : false ≡ true = h refl in cc)
unset_le false true h = omega arith
unset_le false false h = omega arith

-- a row with more marks
falls : (xs ys : List Bool) → length xs ≡ length ys → ((r : ℕ) → Has xs r → Has ys r) → unset_in_row ys ≤ unset_in_row xs
falls [] [] e h = omega arith
falls [] (y ∷ ys) e h = absurd (omega arith)
falls (x ∷ xs) [] e h = absurd (omega arith)
falls (x ∷ xs) (y ∷ ys) e h =
    let here = unset_le x y (h 0) in
    let rest = falls xs ys (omega arith) (λ r. h (suc r)) in
    omega (arith, sum_by-cons unset x xs, sum_by-cons unset y ys)

falls_at : (xs ys : List Bool) (r : ℕ) → length xs ≡ length ys → ((q : ℕ) → Has xs q → Has ys q) → r < length xs → get_or xs r false ≡ false → Has ys r
    → unset_in_row ys < unset_in_row xs
falls_at [] ys r e h k f g = absurd (omega arith)
falls_at (x ∷ xs) [] r e h k f g = absurd (omega arith)
falls_at (true ∷ xs) (y ∷ ys) zero e h k f g = absurd cc
falls_at (false ∷ xs) (false ∷ ys) zero e h k f g = absurd cc
falls_at (false ∷ xs) (true ∷ ys) zero e h k f g =
    let rest = falls xs ys (omega arith) (λ q. h (suc q)) in
    omega (arith, sum_by-cons unset false xs, sum_by-cons unset true ys)
falls_at (x ∷ xs) (y ∷ ys) (suc r) e h k f g =
    let here = unset_le x y (h 0) in
    let rest = falls_at xs ys r (omega arith) (λ q. h (suc q)) (omega arith) f g in
    omega (arith, sum_by-cons unset x xs, sum_by-cons unset y ys)

-- a row with a mark is as long as its number
inside : (row : List Bool) (r : ℕ) → Has row r → r < length row
inside [] r e = absurd cc
inside (x ∷ row) zero e = omega arith
inside (x ∷ row) (suc r) e = let h = inside row r e in omega arith

length-passed_all : (ops : List TacOp) (row : List Bool) → length (passed_all ops row) ≡ length row
length-passed_all [] row = refl
length-passed_all (op ∷ ops) row = length-passed op (passed_all ops row) ∙ length-passed_all ops row

length-made : (rows : List (List Bool)) (regs : ℕ) (block : TacBlock) → length (made rows regs block) ≡ regs
length-made rows regs block = length-passed_all block.ops (ended rows regs block.end) ∙ length-ended rows regs block.end

module _ (blocks : List TacBlock) (regs : ℕ) where
  -- what a block is made of sound rows is live
  made_live : (rows : List (List Bool)) (block : TacBlock) → AreSound blocks regs rows → (r : ℕ) → Has (made rows regs block) r → IsLive blocks r block.ops block.end
  made_live rows block s r e = all_show blocks r block.ops block.end (ended rows regs block.end) (end_live blocks regs rows s block.end r) e

  module _ (b : ℕ) (block : TacBlock) (at : slice_get blocks b ≡ Some block) (old new : List (List Bool)) (s : AreSound blocks regs old) where
    abbrev row : List Bool
    row = made old regs block

    there : b < length old
    there = omega (arith, slice_get_within blocks b block at, s.long)

    same_row : (new ≡ set old b (joined (get_or old b []) row)) → get_or new b [] ≡ joined (get_or old b []) row
    same_row e = ap (λ rows. get_or rows b []) e ∙ get_or-set_same old b (joined (get_or old b []) row) [] there

    other_row : (new ≡ set old b (joined (get_or old b []) row)) → (c : ℕ) → (c ≡ b → ⊥) → get_or new c [] ≡ get_or old c []
    other_row e c apart = ap (λ rows. get_or rows c []) e ∙ get_or-set_other old b c (joined (get_or old b []) row) [] apart

    pub sound_after : (grown : Bool) → Visits row b old new grown → AreSound blocks regs new
    sound_after true v =
        let e = v.1 in
        record {
          long = ap length e ∙ length-set old b (joined (get_or old b []) row) ∙ s.long;
          wide = λ c h. ⊎_elim
              (λ (is : c ≡ b). subst (λ q. length (get_or new q []) ≡ regs) (sym is) (ap length (same_row e) ∙ length-joined (get_or old b []) row ∙ length-made old regs block))
              (λ (apart : c ≡ b → ⊥). ap length (other_row e c apart) ∙ s.wide c h) (cases_eq c b);
          sound = λ c r block' at' h. ⊎_elim
              (λ (is : c ≡ b).
              let f : block' ≡ block = (let g : slice_get blocks b ≡ Some block' = subst (λ q. slice_get blocks q ≡ Some block') is at' in cc) in
              let k : Has (joined (get_or old b []) row) r = subst (λ l. Has l r) (same_row e) (subst (λ q. Has (get_or new q []) r) is h) in
              subst (λ (x : TacBlock). IsLive blocks r x.ops x.end) (sym f)
              (⊎_elim (λ m. s.sound b r block at m) (λ m. made_live old block s r m) (joined_from (get_or old b []) row r k)))
              (λ (apart : c ≡ b → ⊥). s.sound c r block' at' (subst (λ l. Has l r) (other_row e c apart) h)) (cases_eq c b);
        }
    sound_after false v = subst (λ rows. AreSound blocks regs rows) (sym v.1) s

    pub fewer_after : (grown : Bool) → Visits row b old new grown → unset_in new + (if grown then 1 else 0) ≤ unset_in old
    fewer_after true v =
        let r = v.0.0 in
        let wide = s.wide b (omega (arith, there, s.long)) in
        let long : length (get_or old b []) ≡ length row = wide ∙ sym (length-made old regs block) in
        let within : r < length row = inside row r v.0.1 in
        let joins = joined (get_or old b []) row in
        let lengths : length (get_or old b []) ≡ length joins = long ∙ sym (length-joined (get_or old b []) row) in
        let less : unset_in_row joins < unset_in_row (get_or old b []) =
        falls_at (get_or old b []) joins r lengths (λ q h. joined_gains (get_or old b []) row q h (omega (arith, inside (get_or old b []) q h, long)))
        (omega (arith, long)) v.0.2 (joined_keeps (get_or old b []) row r v.0.1) in
        let sums = sum_by-set unset_in_row old b joins [] there in
        let e : unset_in new ≡ unset_in (set old b joins) = ap unset_in v.1 in
        omega arith
    fewer_after false v = let e : unset_in new ≡ unset_in old = ap unset_in v.1 in omega arith

    closed_more : AreClosed blocks regs (b + 1) old → IsWithin row (get_or old b []) → AreClosed blocks regs b old
    closed_more h w c block' le at' = ⊎_elim
        (λ (is : c ≡ b).
        let f : block' ≡ block = (let g : slice_get blocks b ≡ Some block' = subst (λ q. slice_get blocks q ≡ Some block') is at' in cc) in
        subst (λ q. IsWithin (made old regs block') (get_or old q [])) (sym is) (subst (λ (x : TacBlock). IsWithin (made old regs x) (get_or old b [])) (sym f) w))
        (λ (apart : c ≡ b → ⊥). h c block' (omega arith) at') (cases_eq c b)

    pub still_after : (was : Bool) → OnFalse was (AreClosed blocks regs (b + 1) old) → Visits row b old new false → OnFalse was (AreClosed blocks regs b new)
    still_after true h v = tt
    still_after false h v = subst (λ rows. AreClosed blocks regs b rows) (sym v.1) (closed_more h v.0)

-- a visit that adds to a row
pub grows : (blocks : List TacBlock) (regs n b : ℕ) (block : TacBlock) (old new : List (List Bool)) (g : Bool) → n ≡ regs → slice_get blocks b ≡ Some block
    → AreSound blocks regs old → g ≡ true → Visits (made old n block) b old new g → AreSound blocks regs new × (unset_in new + 1 ≤ unset_in old)
grows blocks regs n b block old new g e at s is v =
    let u : Visits (made old regs block) b old new true = subst (λ k. Visits (made old regs block) b old new k) is (subst (λ k. Visits (made old k block) b old new g) e v) in
    (sound_after blocks regs b block at old new s true u, fewer_after blocks regs b block at old new s true u)

-- a visit that adds nothing
pub stays : (blocks : List TacBlock) (regs n b : ℕ) (block : TacBlock) (old new : List (List Bool)) (g : Bool) (was : Bool) → n ≡ regs → slice_get blocks b ≡ Some block
    → AreSound blocks regs old → g ≡ false → Visits (made old n block) b old new g → OnFalse was (AreClosed blocks regs (b + 1) old)
    → AreSound blocks regs new × OnFalse was (AreClosed blocks regs b new) × (unset_in new ≤ unset_in old)
stays blocks regs n b block old new g was e at s is v still =
    let u : Visits (made old regs block) b old new false = subst (λ k. Visits (made old regs block) b old new k) is (subst (λ k. Visits (made old k block) b old new g) e v) in
    let f = fewer_after blocks regs b block at old new s false u in
    (sound_after blocks regs b block at old new s false u, still_after blocks regs b block at old new s was still u, omega arith)

-- ---- the beginning and the end

empty_row : (n regs b r : ℕ) → Has (get_or (replicate n (replicate regs false)) b []) r → ⊥
empty_row zero regs b r e = absurd cc
empty_row (suc n) regs zero r e = no_marks regs r e
empty_row (suc n) regs (suc b) r e = empty_row n regs b r e

pub sound_first : (blocks : List TacBlock) (regs : ℕ) (rows : List (List Bool)) → rows ≡ replicate (length blocks) (replicate regs false) → AreSound blocks regs rows
sound_first blocks regs rows e = subst (λ l. AreSound blocks regs l) (sym e) (record {
  long = length-replicate (length blocks) (replicate regs false);
  wide = λ b h. ap length (get_or-replicate (length blocks) b (replicate regs false) [] h) ∙ length-replicate regs false;
  sound = λ b r block at h. absurd (empty_row (length blocks) regs b r h);
})

module _ (blocks : List TacBlock) (regs : ℕ) (rows : List (List Bool)) (s : AreSound blocks regs rows) (closed : AreClosed blocks regs 0 rows) where
  -- what is live at a place is marked there
  all_marks : (r : ℕ) → r < regs → (ops : List TacOp) (end : TacEnd) → IsLive blocks r ops end → Has (passed_all ops (ended rows regs end)) r
  all_marks r h (op ∷ ops) end (read_here read) =
      passed_gains op (passed_all ops (ended rows regs end)) r read (omega (arith, length-passed_all ops (ended rows regs end), length-ended rows regs end))
  all_marks r h (op ∷ ops) end (read_later apart live) = passed_keeps op (passed_all ops (ended rows regs end)) r apart (all_marks r h ops end live)
  all_marks r h [] end (read_at_end read) = ended_reads rows regs end r read h
  all_marks r h [] end (read_in_block b block leads at live) =
      ended_leads rows regs end b r leads (closed b block (omega arith) at r (all_marks r h block.ops block.end live)) h

pub exact_rows : (f : TacFunc) (regs : ℕ) (rows : List (List Bool)) → regs ≡ f.regs → AreSound f.blocks regs rows → AreClosed f.blocks regs 0 rows → AreExact f rows
exact_rows f regs rows e s closed = subst (λ n. AreSound f.blocks n rows → AreClosed f.blocks n 0 rows → AreExact f rows) (sym e) (λ s closed. record {
  long = s.long;
  exact = λ b block at. record {
    long = s.wide b (slice_get_within f.blocks b block at);
    exact = λ r h. (λ e. s.sound b r block at e, λ live. closed b block (omega arith) at r (all_marks f.blocks f.regs rows s closed r h block.ops block.end live));
  };
}) s closed
