use Rattle.std.proofs.Common.{◌≡◌, nat_eq, ◌∙◌, ap, arith, Some, get_or}
use Rattle.std.proofs.lemmas.Option.{slice_get-get_or}
use Rattle.indexmap.specs.IndexMap.{get}
use Rattle.std.specs.List.{slice_get}
use Rattle.ckc_asm_lines.specs.declared.lines.Line.TheVariants.{Label}
use Rattle.ckc_asm_lines.proofs.PlaceTable.{knows_label, knows_other, knows_same, never_label, offset_more}
use Rattle.ckc_asm_lines.proofs.places.places_of.Goals as goal
use Rattle.ckc_asm_lines.proofs.places.places_of.Goals.{in-Label+in_ok-insert, in_default}

pub loop-line-preserved : goal.loop-line-preserved
loop-line-preserved c =
    let lines = c.args.lines.now in
    let k = c.loop-line.line-index in
    let here : slice_get lines k ≡ Some (get_or lines k (Label 0)) = slice_get-get_or lines k (Label 0) c.loop-line-test.true in
    let more = offset_more lines k _ here in
    elim c.match-line.branch [
      | in-Label+in_ok-insert w ↦ record {
        at = omega (arith, more, c.size-address.ensures);
        knows = knows_label _ _ _ _ _ _ (here ∙ ap Some w.in-Label.is) c.loop-line.invariant.at
            (λ q. ap (λ m. get nat_eq m q) w.places-is ∙ w.in_ok-insert.ensures.updates.0 q) c.loop-line.invariant.knows;
      }
      | in_default w ↦ record { at = omega (arith, more, c.size-address.ensures); knows = knows_same _ _ _ _ (λ q. ap (λ m. get nat_eq m q) w.places-is) (knows_other _ _ _ _ here (never_label _ w.in_default.not-Label) c.loop-line.invariant.knows) }
    ]
