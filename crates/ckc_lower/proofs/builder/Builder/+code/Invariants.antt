use Rattle.std.proofs.Common.{◌≡◌, drop}
use Rattle.ckc_core.specs.Code.{code_of}
use Rattle.ckc_core.specs.Limits.{KeepsLimits}
use Rattle.ckc_lower.specs.code.Built.{built}
use Rattle.ckc_lower.proofs.builder.Builder.+code.Given as goal

abbrev pub decreases-code : goal.decreases-code
decreases-code l = goal.size-code l

abbrev pub invariant-loop-i : goal.invariant-loop-i
invariant-loop-i l = record {
  limits : KeepsLimits (code_of (drop l.i l.stmts));
  built : built l.locals l.fresh (code_of (drop l.i l.stmts)) l.exit l.loop_at l.self ≡ built l.locals l.is_fresh (code_of l.stmts) l.exit l.loop_at l.initial.self;
}
