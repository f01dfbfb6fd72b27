use Rattle.std.proofs.Common.{◌≡◌, ◌+◌, ◌++◌, take}
use Rattle.ckc_outside.proofs.memory.sink.append.Given as goal

-- the first bytes of the piece stand after what was there
abbrev pub invariant-loop-i : goal.invariant-loop-i
invariant-loop-i l = take (l.len + l.i) l.room ≡ take l.len l.fn.room ++ take l.i l.piece
