use Rattle.std.proofs.Common.{◌≡◌, drop}
use Rattle.std.specs.List.{list_all}
use Rattle.ckc_typed.specs.Declarations.{is_start}
use Rattle.ckc_typing_statics.proofs.initials.are_starts.Given as goal

-- the items so far are what an object may begin as
abbrev pub invariant-loop-e : goal.invariant-loop-e
invariant-loop-e l = list_all (is_start l.structs l.t) l.es ≡ list_all (is_start l.structs l.t) (drop l.e-index l.es)
