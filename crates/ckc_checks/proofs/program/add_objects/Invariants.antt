use Rattle.std.proofs.Common.{◌≡◌, ◌++◌, ◌+◌, drop}
use Rattle.ckc_base.specs.Memory.{data_start}
use Rattle.ckc_checks_follow.specs.code.Inserted.{image}
use Rattle.ckc_checks.proofs.program.add_objects.Given as goal

abbrev pub invariant-loop-o : goal.invariant-loop-o
invariant-loop-o l =
    l.bytes ++ image l.a (drop l.o-index l.objects) ≡ l.initial.bytes ++ image (data_start + 4) l.objects
