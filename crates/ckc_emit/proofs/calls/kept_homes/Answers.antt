use Rattle.std.proofs.Common.{◌≡◌, ◌⊎◌, ◌≤◌, min, length}
use Rattle.std.proofs.lemmas.Slice.Zip.{zip_end}
use Rattle.ckc_emit.proofs.Looping.{kept_done, min_over}
use Rattle.ckc_emit.proofs.calls.kept_homes.Goals as goal

pub returns : goal.returns
returns c =
    let e : length c.loop-place.yielded ≡ min (length c.args.homes.now) (length c.args.row.now) = zip_end c.args.homes.now c.args.row.now c.loop-place.yielded c.into_iter-place-iterator.result c.loop-place.place-iterator c.next.new.self c.next.result (cc) (cc) c.loop-place.yielded_by c.in-None.is c.next.ensures.steps in
    let over : (length c.args.homes.now ≤ length c.loop-place.yielded) ⊎ (length c.args.row.now ≤ length c.loop-place.yielded) = min_over _ _ _ e in
    λ k h. kept_done k (length c.loop-place.yielded) c.args.homes.now c.args.row.now _ over (c.loop-place.invariant k h)
