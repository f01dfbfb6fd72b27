use Rattle.ckc_core.specs.Code.{function_of}
use Rattle.ckc_core.specs.Limits.{IsSmallFunction}
use Rattle.ckc_lower.proofs.Parts.{All-mapped_at}
use Rattle.ckc_lower.proofs.program.functions.Goals as goal

pub function-requires : goal.function-requires
function-requires c =
    All-mapped_at IsSmallFunction function_of c.args.funcs.now c.loop-f.f-index c.f-item.result c.loop-f-test.true c.f-item.is c.requires
