use Rattle.std.proofs.Common.{◌≡◌, ◌∙◌, ⊎_elim, inl, inr, sym, ap, ◌+◌, ◌<◌, ◌≤◌, get_or, set, true, false, subst, arith}
use Rattle.std.proofs.lemmas.Bool.{both_ways, cases_lt}
use Rattle.std.proofs.lemmas.List.{get_or_default}
use Rattle.ckc_assign.specs.declared.ranges.Range.{Range}
use Rattle.ckc_assign.specs.code.Ranges.{Sees, range_of, reach, unused}
use Rattle.ckc_assign.proofs.Growing.{sees_then, sees_as, sees_set, sees_same}
use Rattle.ckc_assign.proofs.ranges.see_row.Goals.{then-r-ranges+then-row-r, else-r-ranges, else-r-ranges-via-then-r-ranges+else-row-r, else-r-ranges-via-else-r-ranges}
use Rattle.ckc_assign.proofs.ranges.see_row.Goals as goal

abbrev zero_range : Range
zero_range = record { first = 0; last = 0 }

pub loop-r-preserved : goal.loop-r-preserved
loop-r-preserved c =
    let row = c.args.row.now in
    let r = c.loop-r.r in
    let place = c.args.place in
    let old = c.loop-r.ranges in
    let now : Sees (λ q. (r ≡ q) × (get_or row q false ≡ true)) place old c.if-r-ranges.ranges = elim c.if-r-ranges.branch [
      | then-r-ranges+then-row-r w ↦
          let h = w.if-r-ranges.true in
          let e = w.ranges-is ∙ ap (set old r) (w.with_place.ensures ∙ ap (λ x. reach x place) (get_or_default old r zero_range unused h)) in
          subst (Sees (λ q. (r ≡ q) × (get_or row q false ≡ true)) place old) (sym e)
          (sees_as place (λ q. r ≡ q) (λ q. (r ≡ q) × (get_or row q false ≡ true)) old (set old r (reach (range_of old r) place)) (sees_set place old r h) (λ q m. m.0) (λ q m. (m, subst (λ n. get_or row n false ≡ true) m w.if-row-r.true)))
      | else-r-ranges w ↦
          subst (Sees (λ q. (r ≡ q) × (get_or row q false ≡ true)) place old) (sym w.ranges-is)
          (sees_same place (λ q. (r ≡ q) × (get_or row q false ≡ true)) old (λ q h m.
          elim w.else-r-ranges.branch [
            | else-r-ranges-via-then-r-ranges+else-row-r w' ↦ both_ways (get_or row r false) w'.if-row-r.false (subst (λ n. get_or row n false ≡ true) (sym m.0) m.1)
            | else-r-ranges-via-else-r-ranges w' ↦ absurd (let k = w'.if-r-ranges.false in omega (arith, m.0))
          ]))
    ] in
    sees_then place (λ q. (q < r) × (get_or row q false ≡ true)) (λ q. (r ≡ q) × (get_or row q false ≡ true)) (λ q. (q < r + 1) × (get_or row q false ≡ true))
    c.args.ranges.now old c.if-r-ranges.ranges c.loop-r.invariant now
    (λ q h. ⊎_elim (λ (less : q < r). inl (less, h.1)) (λ (more : r ≤ q). inr (omega (arith, h.0), h.1)) (cases_lt q r))
    (λ q h. (omega (arith, h.0), h.1)) (λ q h. (omega (arith, h.0), h.1))
