use Rattle.std.proofs.Common.{◌≡◌, drop}
use Rattle.std.specs.List.{find}
use Rattle.std.specs.Prelude.{bytes_eq}
use Rattle.ckc_asm.specs.Items.{kind_name}
use Rattle.ckc_asm.proofs.kinds.find.Given as goal

abbrev pub invariant-loop-kind : goal.invariant-loop-kind
invariant-loop-kind l = find (λ k. bytes_eq (kind_name k) l.name) (drop l.kind-index l.kinds) ≡ find (λ k. bytes_eq (kind_name k) l.name) l.kinds
