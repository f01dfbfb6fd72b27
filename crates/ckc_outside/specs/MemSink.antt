use Rattle.std.specs.Prelude.{ℕ, ◌+◌, Bool, nat_lt, List, Some, take, length}
use Rattle.ckc_outside.specs.Memory.{Failing}
use Rattle.ckc_outside.specs.Outside.{SeenSink}
use Rattle.ckc_outside.specs.declared.memory.sink.MemSink.{MemSink}

-- the bytes written so far
abbrev pub written_of : MemSink → List ℕ
written_of s = take s.len s.room.now

-- how many bytes fit in all
abbrev pub room_of : MemSink → ℕ
room_of s = length s.room.now

-- which calls fail, and the counts
abbrev pub plan_of : MemSink → Failing
plan_of s = record { listed = s.plan.fail.now; calls = s.plan.calls; faults = s.plan.faults }

-- what is seen of it
abbrev pub seen_of : MemSink → SeenSink
seen_of s = record { written = Some (written_of s); puts = (plan_of s).calls; faults = (plan_of s).faults }

-- whether a piece does not fit after what is written
abbrev pub overflows : MemSink → List ℕ → Bool
overflows s piece = nat_lt (room_of s) (s.len + length piece)
