use Rattle.std.proofs.Common.{◌≡◌, take, false}
use Rattle.std.specs.List.{list_any}
use Rattle.ckc_bounds_known.specs.code.Shown.{shows}
use Rattle.ckc_bounds_known.proofs.shown.has.Given as goal

abbrev pub invariant-loop-g : goal.invariant-loop-g
invariant-loop-g l = list_any (shows l.f) (take l.g-index l.facts) ≡ false
