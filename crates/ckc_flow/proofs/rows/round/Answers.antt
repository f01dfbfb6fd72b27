use Rattle.std.proofs.Common.{◌≡◌, ◌+◌, ◌-◌, length, refl, subst, arith}
use Rattle.std.specs.Bool.{OnFalse}
use Rattle.std.proofs.lemmas.Option.{slice_get_read}
use Rattle.ckc_flow.specs.code.Rounds.{AreClosed}
use Rattle.ckc_flow.proofs.Rounds.{grows, stays}
use Rattle.ckc_flow.proofs.rows.round.Goals as goal

pub down-preserved-then-branch : goal.down-preserved-then-branch
down-preserved-then-branch c =
    let blocks = c.args.blocks.now in
    let b = c.down.b - 1 in
    let block = c.index-blocks-b.result in
    let at = slice_get_read blocks (length blocks) b block refl (omega arith) c.index-blocks-b.is in
    let g = grows blocks (length c.args.row.now) (length c.down.row) b block c.down.rows.items c.visit.new.rows.items c.in_ok-visit.field-0
    c.down.auto.row at c.down.invariant.sound c.if-branch.true c.in_ok-visit.ensures in
    record {
      within = omega arith;
      sound = g.0;
      still = tt;
      fewer = omega (arith, g.1, c.down.invariant.fewer);
    }

pub down-preserved : goal.down-preserved
down-preserved c =
    let blocks = c.args.blocks.now in
    let b = c.down.b - 1 in
    let block = c.index-blocks-b.result in
    let at = slice_get_read blocks (length blocks) b block refl (omega arith) c.index-blocks-b.is in
    let back : c.down.b ≡ c.down.b - 1 + 1 = omega arith in
    let s = stays blocks (length c.args.row.now) (length c.down.row) b block c.down.rows.items c.visit.new.rows.items c.in_ok-visit.field-0 c.down.grown
    c.down.auto.row at c.down.invariant.sound c.if-branch.false c.in_ok-visit.ensures
    (subst (λ n. OnFalse c.down.grown (AreClosed blocks (length c.args.row.now) n c.down.rows.items)) back c.down.invariant.still) in
    record {
      within = omega arith;
      sound = s.0;
      still = s.1;
      fewer = omega (arith, s.2, c.down.invariant.fewer);
    }
