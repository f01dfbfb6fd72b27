use Rattle.std.proofs.Common.{refl}
use Rattle.ckc_passes_redundant.proofs.Noting.{numbers_inserted}
use Rattle.ckc_passes_redundant.proofs.table.Table.numbered.Goals as goal

pub returns : goal.returns
returns c =
    let e = c.in_ok-place.ensures in
    numbers_inserted c.args.work e.stored.0 c.args.self.now (record c.args.self.now { works = c.insert_full.new.self }) c.in_ok-place.place.0
    e.keys e.stored.1 e.stored.2 e.unique (λ r. refl) refl
