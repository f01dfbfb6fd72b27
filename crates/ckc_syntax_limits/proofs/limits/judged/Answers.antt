use Rattle.std.proofs.Common.{refl, ap, sym, ◌∙◌, ◌+◌, ◌++◌, drop}
use Rattle.std.specs.Prelude.{flat_map}
use Rattle.std.proofs.lemmas.Result.{err_from_is_err_and}
use Rattle.ckc_syntax_limits.specs.Marks.{marks_of, marks_of_item}
use Rattle.ckc_syntax_limits.specs.Small.{faults_of_item, faults_of_marks}
use Rattle.ckc_syntax_limits.specs.code.Tally.{tallied, nothing}
use Rattle.ckc_syntax_limits.proofs.Smalls.{stops, goes, faults_turn, faults_split, faults_end, marks_end}
use Rattle.ckc_syntax_limits.proofs.Tallies.{tallied_turn}
use Rattle.ckc_syntax_limits.proofs.limits.judged.Goals as goal

pub returns-in_err-item_fits : goal.returns-in_err-item_fits
returns-in_err-item_fits g c =
    let p = err_from_is_err_and c.from_residual.result c.from_residual.ensures.1 in
    let items = c.as_slice-item-items.result.now in
    let rest = flat_map faults_of_item (drop (c.loop-item.item-index + 1) items) in
    stops _ p.0 c.in_err-item_fits.field-0.0 (faults_of_item c.item-item.result) (rest ++ faults_of_marks (marks_of c.args.tree.now)) _ p.1 p.2 c.in_err-item_fits.ensures
    (faults_split items c.loop-item.item-index c.item-item.result c.args.tree.now c.loop-item-test.true c.item-item.is c.as_slice-item-items.ensures c.loop-item.invariant.faults)

pub loop-item-preserved : goal.loop-item-preserved
loop-item-preserved g c =
    let items = c.as_slice-item-items.result.now in
    let i = c.loop-item.item-index in
    let x = c.item-item.result in
    let rest = flat_map marks_of_item (drop (i + 1) items) in
    record {
      faults = c.loop-item.invariant.faults ∙ faults_turn items i x c.loop-item-test.true c.item-item.is ∙ ap (λ rs. rs ++ flat_map faults_of_item (drop (i + 1) items)) c.in_ok-item_fits.ensures;
      marks = c.loop-item.invariant.marks ∙ tallied_turn marks_of_item c.loop-item.whole items i x c.loop-item-test.true c.item-item.is ∙ ap (λ t. tallied t rest) (sym c.item_tally-whole.ensures);
    }

pub returns : goal.returns
returns g c =
    let items = c.as_slice-item-items.result.now in
    let i = c.loop-item.item-index in
    let is = c.as_slice-item-items.ensures in
    let tree = c.args.tree.now in
    let faults = faults_end items i c.loop-item-test.false c.loop-item.invariant.faults in
    let marks = marks_end items i c.loop-item.whole c.loop-item-test.false c.loop-item.invariant.marks in
    goes _ (flat_map faults_of_item tree.items) (faults_of_marks (marks_of tree)) _
    (ap (λ xs. flat_map faults_of_item xs) (sym is) ∙ faults)
    (c.whole_fits.ensures (marks_of tree) (marks ∙ ap (λ xs. tallied nothing (flat_map marks_of_item xs)) is))
    refl
