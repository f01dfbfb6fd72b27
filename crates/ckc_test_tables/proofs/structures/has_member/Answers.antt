use Rattle.std.proofs.Common.{◌≡◌, refl, subst}
use Rattle.std.specs.List.{Contains}
use Rattle.ckc_types.specs.declared.types.MemberShape.{MemberShape}
use Rattle.ckc_test_tables.proofs.structures.has_member.Goals as goal

pub returns-then-is_struct : goal.returns-then-is_struct
returns-then-is_struct c = λ found. record {
  struct = c.if-is_struct.ensures refl;
  named = subst (λ ms. (m : MemberShape) × Contains ms m × (m.name ≡ c.args.name)) c.members_of.ensures (c.has_name.ensures found);
}
