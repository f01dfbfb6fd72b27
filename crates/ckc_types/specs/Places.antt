-- Where a member stands.
use Rattle.std.specs.Prelude.{◌≡◌, ◌≢◌, ℕ, List, ◌∷◌, ◌++◌}
use Rattle.std.specs.List.{All}
use Rattle.ckc_types.specs.declared.types.MemberShape.{MemberShape}
use Rattle.ckc_types.specs.declared.types.Structs.{Structs}
use Rattle.ckc_types.specs.Layout.{members_of}

-- In the structure with the tag, m stands after the members `front`, none of which has its name.
pub record Stands (structs : Structs) (tag : ℕ) (front : List MemberShape) (m : MemberShape) : Type 0 where
  pub back : List MemberShape
  pub split : members_of structs tag ≡ front ++ m ∷ back
  pub new : All (λ n. n.name ≢ m.name) front
