use Rattle.std.proofs.Common.{◌≡◌, ◌+◌, ◌≤◌, ◌++◌, drop, map}
use Rattle.ckc_core.specs.Code.{expr_of}
use Rattle.ckc_lower.specs.code.Built.{registers_of, with_values}
use Rattle.ckc_lower.proofs.builder.Builder.values.Given as goal

abbrev pub invariant-loop-e : goal.invariant-loop-e
invariant-loop-e l = record {
  room : l.t ≤ l.locals + l.e-index;
  registers : l.registers ++ registers_of (map expr_of (drop l.e-index l.es)) l.t ≡ registers_of (map expr_of l.es) l.locals;
  built : with_values (map expr_of (drop l.e-index l.es)) l.t l.self ≡ with_values (map expr_of l.es) l.locals l.initial.self;
}
