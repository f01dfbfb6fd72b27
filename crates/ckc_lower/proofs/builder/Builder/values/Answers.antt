use Rattle.std.proofs.Common.{◌≤◌, arith}
use Rattle.ckc_core.specs.Code.{expr_of}
use Rattle.ckc_core.specs.Limits.{depth, IsShallow}
use Rattle.ckc_lower.proofs.Parts.{All-mapped_at}
use Rattle.ckc_lower.proofs.builder.Builder.values.Goals as goal

pub register-requires : goal.register-requires
register-requires c =
    let shallow : depth (expr_of c.e-item.result) ≤ 1000 =
    All-mapped_at IsShallow expr_of c.args.es.now c.loop-e.e-index c.e-item.result c.loop-e-test.true c.e-item.is c.requires.shallow in
    omega arith
