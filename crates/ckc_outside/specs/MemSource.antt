use Rattle.std.specs.Prelude.{ℕ, List, Bool, Some, ◌==◌, length}
use Rattle.ckc_outside.specs.Memory.{Failing}
use Rattle.ckc_outside.specs.Outside.{SeenSource}
use Rattle.ckc_outside.specs.declared.memory.source.MemSource.{MemSource}

-- the bytes that are left
abbrev pub left_of : MemSource → List ℕ
left_of s = s.left.now

-- whether no byte is left
abbrev pub has_ended : MemSource → Bool
has_ended s = length s.left.now == 0

-- which calls fail, and the counts
abbrev pub plan_of : MemSource → Failing
plan_of s = record { listed = s.plan.fail.now; calls = s.plan.calls; faults = s.plan.faults }

-- what is seen of it
abbrev pub seen_of : MemSource → SeenSource
seen_of s = record { left = Some (left_of s); ended = has_ended s; asks = (plan_of s).calls; answers = s.answers; faults = (plan_of s).faults }
