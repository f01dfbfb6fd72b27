-- The lines of a program can be assembled.
use Rattle.std.proofs.Common.{◌≡◌, inl, inr, ℕ, zero, suc, ◌+◌, ◌*◌, ◌%◌, ◌^◌, ◌≤◌, ◌<◌, if◌then◌else◌, List, [], ◌∷◌, append-nil, length, take, drop, Some, refl, sym, ap, subst, ◌∙◌, arith}
use Rattle.std.specs.Prelude.{All, ℤ, sum_by, count_by}
use Rattle.std.specs.List.{slice_get}
use Rattle.std.proofs.lemmas.Int.{ints}
use Rattle.std.proofs.lemmas.List.Elements.{All-same, All-weaker}
use Rattle.std.proofs.lemmas.List.Sums.{sum_by-cons}
use Rattle.std.proofs.lemmas.Bool.{cases_lt}
use Rattle.std.proofs.lemmas.Bool.Decides.{nat_tests}
use Rattle.ckc_rv.specs.declared.instructions.Instr.TheVariants.{Lui}
use Rattle.ckc_rv.specs.Table.{IsOffset}
use Rattle.ckc_asm_lines.specs.declared.lines.Line.{Line}
use Rattle.ckc_asm_lines.specs.declared.lines.Line.TheVariants.{Label, Plain, Jump, Branch, Far}
use Rattle.ckc_asm_lines.specs.Assembled.{size_of, address_of, distance, StandsAt, StandsOnce, is_label, CanStand, CanAssemble}
use Rattle.ckc_asm_lines.proofs.LabelPlaces.{address_is}
use Rattle.ckc_asm_lines.proofs.PlaceTable.{fours}
use Rattle.ckc_frame.specs.declared.code.Placed.{Placed}
use Rattle.ckc_frame.specs.WellFormed.{IsWellFormed}
use Rattle.ckc_emit.specs.CodeSize.{code_size}
use Rattle.ckc_emit.specs.code.ProgramLines.{label_of, program_lines}
use Rattle.ckc_emit.specs.Spared.{Spares}
use Rattle.ckc_emit.proofs.Pieces.{Adds, IsSound}
use Rattle.ckc_emit.proofs.Close.{HasNear, IsClose, AreClose, Joins, all_near, sound_at}
use Rattle.ckc_emit.proofs.AddedCode.{program_joins}

counted_here : (label : ℕ) (lines : List Line) → count_by (is_label label) (Label label ∷ lines) ≡ 1 + count_by (is_label label) lines
counted_here label lines = sum_by-cons (λ x. if is_label label x then 1 else 0) (Label label) lines ∙ ap (λ n. n + count_by (is_label label) lines) (grind (arith, nat_tests))

-- a label that stands is counted
stands_counts : (lines : List Line) (k label : ℕ) → slice_get lines k ≡ Some (Label label) → 1 ≤ count_by (is_label label) lines
stands_counts [] k label e = absurd cc
stands_counts (x ∷ xs) zero label e =
    let same : x ≡ Label label = cc in
    let one = ap (λ (y : Line). count_by (is_label label) (y ∷ xs)) same ∙ counted_here label xs in
    omega (arith, one)
stands_counts (x ∷ xs) (suc k) label e =
    omega (arith, stands_counts xs k label e, sum_by-cons (λ y. if is_label label y then 1 else 0) x xs)

-- a distance of less than 4,096 bytes between instructions is an offset of a branch
reaches : (address target : ℕ) → target < address + 4096 → address < target + 4096 → address % 4 ≡ 0 → target % 4 ≡ 0 → IsOffset (2 ^ 12) (distance address target)
reaches address target forth back a t = ((omega (arith, ints), omega (arith, ints)), omega (arith, ints))

reaches_far : (z : ℤ) → IsOffset (2 ^ 12) z → IsOffset (2 ^ 20) z
reaches_far z o =
    let low = o.0.0 in
    let high = o.0.1 in
    ((omega (arith, ints), omega (arith, ints)), o.1)

module _ (count most : ℕ) (lines : List Line) (whole : Joins count 0 count most lines []) where
  abbrev adds : Adds (all_near count) 0 count most lines []
  adds = whole.adds

  all : lines ≡ adds.front
  all = adds.is ∙ append-nil adds.front

  sound : All (IsSound (all_near count)) lines
  sound = All-same (IsSound (all_near count)) lines adds.front all adds.sound

  close : AreClose lines
  close = subst AreClose (sym all) whole.close

  pub once_below : (label : ℕ) → label < count → StandsOnce lines label
  once_below label h = ap (count_by (is_label label)) all ∙ adds.once label (omega arith) h

  -- a label that stands, stands once
  pub stands_once : (k label : ℕ) → slice_get lines k ≡ Some (Label label) → StandsOnce lines label
  stands_once k label e = elim (cases_lt label count) as (λ _. StandsOnce lines label) [
    | inl below ↦ once_below label below
    | inr above ↦ absurd (
        let none = ap (count_by (is_label label)) all ∙ adds.never label (inr above) in
        omega (arith, none, stands_counts lines k label e))
  ]

  pub size_within : sum_by size_of lines ≤ 4 * most
  size_within = subst (λ (l : List Line). sum_by size_of l ≤ 4 * most) (sym all) adds.size

  four : (k : ℕ) → address_of lines k % 4 ≡ 0
  four k =
      let f = fours (take k lines) in
      omega arith

  -- a label that is close is reached
  near_reaches : (k label target : ℕ) → label < count → HasNear lines k label → StandsAt lines label target → IsOffset (2 ^ 12) (distance (address_of lines k) target)
  near_reaches k label target h n stands =
      let once = once_below label h in
      let here : target ≡ address_of lines n.at = address_is label lines target once stands ∙ sym (address_is label lines (address_of lines n.at) once (n.at, n.is, refl)) in
      subst (λ t. IsOffset (2 ^ 12) (distance (address_of lines k) t)) (sym here)
      (reaches (address_of lines k) (address_of lines n.at) (omega (arith, n.forth)) (omega (arith, n.back)) (four k) (four n.at))

  line_can : (k : ℕ) (line : Line) → IsSound (all_near count) line → IsClose lines k line → CanStand lines (address_of lines k) line
  line_can k (Label label) s c = tt
  line_can k (Plain i) s c = s.0
  line_can k (Jump rd label) s c =
      let low = s.0 in
      (omega arith, once_below label s.1.2, λ target at. reaches_far (distance (address_of lines k) target) (near_reaches k label target s.1.2 c at))
  line_can k (Branch op rs1 rs2 label) s c =
      let left = s.0 in
      let right = s.1 in
      (omega arith, omega arith, once_below label s.2.2, λ target at. near_reaches k label target s.2.2 c at)
  line_can k (Far rd label) s c = let low = s.0 in (omega arith, once_below label s.1)

  pub each_can : (k : ℕ) (line : Line) → slice_get lines k ≡ Some line → CanStand lines (address_of lines k) line
  each_can k line e = line_can k line (sound_at (all_near count) lines k line sound e) (close k line e)

  line_spares : (line : Line) → IsSound (all_near count) line → Spares line
  line_spares (Label label) s = tt
  line_spares (Plain i) s = s.1
  line_spares (Jump rd label) s = s.0
  line_spares (Branch op rs1 rs2 label) s = (s.0, s.1)
  line_spares (Far rd label) s = s.0

  pub all_spare : All Spares lines
  all_spare = All-weaker (IsSound (all_near count)) Spares line_spares lines sound

module _ (p : Placed) (w : IsWellFormed p) where
  abbrev labels : ℕ
  labels = label_of p.funcs (length p.funcs)

  pub program_size_within : sum_by size_of (program_lines p) ≤ 4 * (code_size p)
  program_size_within = size_within labels (code_size p) (program_lines p) (program_joins p w)

  pub program_spares : All Spares (program_lines p)
  program_spares = all_spare labels (code_size p) (program_lines p) (program_joins p w)

  pub program_once : (k label : ℕ) → slice_get (program_lines p) k ≡ Some (Label label) → StandsOnce (program_lines p) label
  program_once = stands_once labels (code_size p) (program_lines p) (program_joins p w)

  starts_big : 0 < sum_by size_of (program_lines p)
  starts_big = omega (arith, sum_by-cons size_of (Label 0) (drop 1 (program_lines p)), sum_by-cons size_of (Plain (Lui 2 0x3FFC)) (drop 2 (program_lines p)))

  start_once : StandsOnce (program_lines p) 0
  start_once = program_once 0 0 refl

  -- the start is the first line
  pub start_at : (entry : ℕ) → StandsAt (program_lines p) 0 entry → entry ≡ 0x1000
  start_at entry at = address_is 0 (program_lines p) entry start_once at

  pub program_can : code_size p ≤ 4193280 → length p.initial ≤ 16777216 → CanAssemble (program_lines p) 0 p.initial
  program_can fits initial = record {
    each = each_can labels (code_size p) (program_lines p) (program_joins p w);
    once = start_once;
    followed = λ entry at. (let here = start_at entry at in let some = starts_big in omega arith);
    code_fits = omega (arith, program_size_within);
    initial_fits = initial;
  }
