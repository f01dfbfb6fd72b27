use Rattle.std.proofs.Common.{arith, ap, pos, ◌≡◌, ◌+ℤ◌, slice_index_or, slice_set, w64, to_z, of_z}
use Rattle.std.proofs.lemmas.Int.{ints}
use Rattle.ckc_linear.specs.code.Rows.{sum_at}
use Rattle.ckc_linear.proofs.chains.lowers.Goals as goal

pub returns-then-sum-next : goal.returns-then-sum-next
returns-then-sum-next c =
    let small = c.requires.small (omega (arith, ints)) in
    let sum = to_z w64 (of_z w64 (to_z w64 (of_z w64 c.args.f.c) +ℤ to_z w64 (of_z w64 (slice_index_or c.args.sums.now c.args.f.y (pos 0))))) in
    let is : sum ≡ c.args.f.c +ℤ sum_at c.args.sums.now c.args.f.y = omega (arith, ints) in
    (omega (arith, ints), omega (arith, ints), ap (slice_set c.args.next.now c.args.f.x) is)
