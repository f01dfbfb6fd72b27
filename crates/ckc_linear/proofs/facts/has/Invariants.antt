use Rattle.std.proofs.Common.{take}
use Rattle.std.specs.Bool.{OnFalse}
use Rattle.ckc_linear.specs.code.Runs.{AllStay}
use Rattle.ckc_linear.proofs.facts.has.Given as goal

-- if none was found, none of the facts so far names x
abbrev pub invariant-loop-f : goal.invariant-loop-f
invariant-loop-f l = OnFalse l.found (AllStay l.x (take l.f-index l.facts))
