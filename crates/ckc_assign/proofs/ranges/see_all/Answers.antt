use Rattle.std.proofs.Common.{◌≡◌, ◌∙◌, length, refl, ap, subst, Some, arith}
use Rattle.std.specs.List.{slice_get}
use Rattle.std.proofs.lemmas.Option.{slice_get_read}
use Rattle.ckc_assign.specs.code.Ranges.{PassesBlock, SeesFirst}
use Rattle.ckc_assign.proofs.Growing.{first_none, first_more, place_more}
use Rattle.ckc_assign.proofs.ranges.see_all.Goals as goal

pub loop-b-init : goal.loop-b-init
loop-b-init c = record {
  place = refl;
  seen = first_none c.args.f.now c.args.ranges.now c.see_params.new.ranges c.requires.ranges c.requires.unused c.see_params.ensures;
}

pub loop-b-preserved : goal.loop-b-preserved
loop-b-preserved c =
    let f = c.args.f.now in
    let b = c.loop-b.b in
    let block = c.index-blocks-b.result in
    let same = c.as_slice-blocks.ensures in
    let at = subst (λ bs. slice_get bs b ≡ Some block) same
    (slice_get_read c.as_slice-blocks.result.now (length c.as_slice-blocks.result.now) b block refl c.loop-b-test.true c.index-blocks-b.is) in
    let exact = c.requires.live.exact b block at in
    let seen = c.in_ok-place.ensures.seen f c.requires.live (c.loop-b.auto.row ∙ c.requires.row) exact (c.loop-b.invariant.seen.long) in
    record {
      place = c.in_ok-place.ensures.place ∙ place_more f b block c.loop-b.place at c.loop-b.invariant.place;
      seen = first_more f b block c.loop-b.ranges c.see_block.new.ranges at c.loop-b.invariant.seen
          (subst (λ n. PassesBlock f block n c.loop-b.ranges c.see_block.new.ranges) c.loop-b.invariant.place seen);
    }

pub returns : goal.returns
returns c = subst (λ n. SeesFirst c.args.f.now n c.loop-b.ranges) (let n : c.loop-b.b ≡ length c.args.f.now.blocks = omega (arith, ap length c.as_slice-blocks.ensures) in n) c.loop-b.invariant.seen
