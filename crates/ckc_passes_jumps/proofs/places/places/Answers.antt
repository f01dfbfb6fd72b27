use Rattle.std.proofs.Common.{◌+◌, ap, arith, length, subst, sym}
use Rattle.std.proofs.lemmas.List.{length_push}
use Rattle.ckc_passes_jumps.specs.Jumps.{at_first, IsPlace}
use Rattle.ckc_passes_jumps.proofs.Placing.{small_first, small_more, placed_first, placed_more, place_marked, place_unmarked}
use Rattle.ckc_passes_jumps.proofs.places.places.Goals.{then-marks-b, else-marks-b}
use Rattle.ckc_passes_jumps.proofs.places.places.Goals as goal

pub loop-b-init : goal.loop-b-init
loop-b-init c = record {
  few = omega arith;
  long = ap length c.new-places.ensures.items;
  small = λ p. small_first c.new-places.result.items p c.new-places.ensures.items;
  right = λ blocks a. (placed_first blocks c.new-places.result.items c.new-places.ensures.items, at_first);
}

pub loop-b-preserved : goal.loop-b-preserved
loop-b-preserved c =
    let b = c.loop-b.b in
    let count = c.loop-b.count in
    let k = c.loop-b.invariant in
    record {
      few = elim c.if-marks-b.branch [
        | then-marks-b w ↦ omega (arith, k.few, w.count-is)
        | else-marks-b w ↦ omega (arith, k.few, w.count-is)
      ];
      long = (let e = ap length c.in_ok-push.ensures.items in let h = length_push c.loop-b.places.items count in omega (arith, k.long, e, h));
      small = λ p. small_more c.loop-b.places.items c.push.new.self.items count p c.in_ok-push.ensures.items (omega (arith, k.few, k.long)) k.small;
      right = λ blocks a. (
        placed_more blocks b count c.loop-b.places.items c.push.new.self.items c.in_ok-push.ensures.items (k.right blocks a).0 (k.right blocks a).1,
        elim c.if-marks-b.branch [
          | then-marks-b w ↦ subst (IsPlace blocks (b + 1)) (sym w.count-is) (place_marked blocks c.args.marks.now b count a w.if-marks-b.true (k.right blocks a).1)
          | else-marks-b w ↦ subst (IsPlace blocks (b + 1)) (sym w.count-is) (place_unmarked blocks c.args.marks.now b count a c.loop-b-test.true w.if-marks-b.false (k.right blocks a).1)
        ],
      );
    }
