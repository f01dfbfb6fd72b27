-- A way is no longer than there are blocks, so that each block that is passed leaves fewer to pass.
use Rattle.std.proofs.Common.{◌≡◌, ℕ, zero, suc, ◌+◌, ◌≤◌, ◌<◌, Bool, true, false, List, length, get_or, set, slice_get, replicate, sum_by, Option, Some, None, refl, sym, ap, subst, ◌∙◌, arith}
use Rattle.std.proofs.lemmas.List.{length-set, length-replicate, get_or-set_other}
use Rattle.std.proofs.lemmas.Option.{slice_get_within}
use Rattle.ckc_tac.specs.declared.code.TacBlock.{TacBlock}
use Rattle.ckc_passes_jumps.specs.Jumps.{passes_to, Leads}
use Rattle.ckc_passes_jumps.specs.code.Ways.{Way}
use Rattle.ckc_passes_jumps.specs.code.Reached.{unset}
use Rattle.ckc_passes_jumps.specs.code.Beside.{next_at, passings}
use Rattle.ckc_passes_jumps.proofs.Walking.{one_way, leads_way, same_there}
use Rattle.ckc_passes_jumps.proofs.Marking.{set_counts, none_has, none_counts}

module _ (blocks : List TacBlock) where
  -- no block with a way of at most so many blocks has a mark
  abbrev AreOpen : ℕ → List Bool → Type 0
  AreOpen n marks = (m d e : ℕ) → Way blocks m d e → m ≤ n → get_or marks d false ≡ false

  open_next : (n b c : ℕ) (marks : List Bool) → Way blocks (suc n) b c → AreOpen (suc n) marks → AreOpen n (set marks b true)
  open_next n b c marks w o m d e v h =
      get_or-set_other marks b d true false
      (λ (same : d ≡ b). let long = (one_way blocks m (suc n) b e c (subst (λ q. Way blocks m q e) same v) w).0 in omega (arith, h, long))
      ∙ o m d e v (omega (arith, h))

  counted_by : (n b c : ℕ) (marks : List Bool) → length marks ≡ length blocks → AreOpen n marks → Way blocks n b c → n ≤ sum_by unset marks
  counted_by zero b c marks long o w = omega arith
  counted_by (suc n) b c marks long o (block, to, at, e, w) =
      let within : b < length marks = (let h = slice_get_within blocks b block at in omega (arith, h, long)) in
      let whole : Way blocks (suc n) b c = (block, to, at, e, w) in
      let fewer = set_counts marks b within (o (suc n) b c whole (omega arith)) in
      let rest = counted_by n to c (set marks b true) (length-set marks b true ∙ long) (open_next n b c marks whole o) w in
      omega (arith, fewer, rest)

  way_short : (n b c : ℕ) → Way blocks n b c → n ≤ length blocks
  way_short n b c w =
      let h = counted_by n b c (replicate (length blocks) false) (length-replicate (length blocks) false) (λ m d e v l. none_has blocks (length blocks) d) w in
      omega (arith, h, none_counts blocks (length blocks))

  -- ---- blocks that are left to pass

  none_left_to_pass : (m : ℕ) (o : Option ℕ) → o ≡ None → passings blocks m o ≡ 0
  none_left_to_pass zero o e = refl
  none_left_to_pass (suc m) o e = ap (passings blocks (suc m)) e

  next_is : (b : ℕ) (block : TacBlock) → slice_get blocks b ≡ Some block → next_at (slice_get blocks b) ≡ passes_to block
  next_is b block e = ap next_at e

  passings_are : (n m b c : ℕ) → Way blocks n b c → n < m → passings blocks m (Some b) ≡ n + 1
  passings_are n zero b c w h = absurd (omega (arith, h))
  passings_are zero (suc m) b c (block, at, none, same) h =
      let z = none_left_to_pass m (next_at (slice_get blocks b)) (next_is b block at ∙ none) in
      omega (arith, z)
  passings_are (suc n) (suc m) b c (block, to, at, e, w) h =
      let rest = passings_are n m to c w (omega (arith, h)) in
      let z = ap (passings blocks m) (next_is b block at ∙ e) in
      omega (arith, rest, z)

  less_by : (n b c : ℕ) (block : TacBlock) (next : Option ℕ) → slice_get blocks b ≡ Some block → passes_to block ≡ next → Way blocks n b c
      → passings blocks (length blocks + 2) next < passings blocks (length blocks + 2) (Some b)
  less_by zero b c block next at e (other, at', none, same) =
      let f : next ≡ None = sym e ∙ ap passes_to (same_there blocks b block other at at') ∙ none in
      let z = none_left_to_pass (length blocks + 2) next f in
      let o = passings_are 0 (length blocks + 2) b c (other, at', none, same) (omega arith) in
      omega (arith, z, o)
  less_by (suc n) b c block next at e (other, to, at', e', w) =
      let f : next ≡ Some to = sym e ∙ ap passes_to (same_there blocks b block other at at') ∙ e' in
      let whole : Way blocks (suc n) b c = (other, to, at', e', w) in
      let h = way_short (suc n) b c whole in
      let z = ap (passings blocks (length blocks + 2)) f in
      let o = passings_are n (length blocks + 2) to c w (omega (arith, h)) in
      let p = passings_are (suc n) (length blocks + 2) b c whole (omega (arith, h)) in
      omega (arith, z, o, p)

  pub passed_less : (b c : ℕ) (block : TacBlock) → slice_get blocks b ≡ Some block → Leads blocks b c
      → passings blocks (length blocks + 2) (passes_to block) < passings blocks (length blocks + 2) (Some b)
  passed_less b c block at l = let w = leads_way blocks b c l in less_by w.0 b c block (passes_to block) at refl w.1
