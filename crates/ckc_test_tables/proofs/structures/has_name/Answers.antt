use Rattle.std.proofs.Common.{sym}
use Rattle.ckc_test_tables.proofs.structures.has_name.Goals as goal

pub returns-then-m-name : goal.returns-then-m-name
returns-then-m-name c = λ found. (c.m-item.result, (c.loop-m.m-index, c.loop-m-test.true, sym c.m-item.is), c.if-m-name.true)
