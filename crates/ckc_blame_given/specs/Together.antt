-- Assignments that are judged as one, by their targets: an assignment alone, or those of a bundle.
use Rattle.std.specs.Prelude.{◌≡◌, ◌⊎◌, ℕ, ◌+◌, ◌<◌, ◌^◌, false, List, [], ◌∷◌, length, Some, IsSome}
use Rattle.std.specs.List.{Contains}
use Rattle.ckc_types.specs.declared.types.MemberShape.{MemberShape}
use Rattle.ckc_types.specs.declared.types.Structs.{Structs}
use Rattle.ckc_types.specs.Layout.{members_of}
use Rattle.ckc_blame_sound.specs.ckc_bounds_ranges.specs.Members.{is_target}
use Rattle.ckc_blame_sound.specs.ckc_bounds_views.specs.declared.variables.Member.{Member}
use Rattle.ckc_blame_sound.specs.ckc_bounds_views.specs.Views.{view}
use Rattle.ckc_blame_sound.specs.ckc_bounds_stores.specs.Stores.{Placed, members_assigned}
use Rattle.ckc_blame_sound.specs.ckc_bounds_stores.specs.Targets.{local_of}
use Rattle.ckc_source.specs.Steps.{Write}
use Rattle.ckc_blame_sound.specs.Settings.{Setting}
use Rattle.ckc_blame_given.specs.Targets.{begin_of, LiesIn}

-- The names of members are small numbers.
abbrev pub HaveSmallNames : Structs → Type 0
HaveSmallNames structs = (tag : ℕ) (m : MemberShape) → Contains (members_of structs tag) m → m.name + 1 < 2 ^ 32

-- A target is a member of the structure that begins at an address, and no later assignment is to it.
pub record IsMemberAt (s : Setting) (locals : List ℕ) (begin : ℕ) (p : Placed) (ps : List Placed) : Type 0 where
  pub member : Member
  pub is : (view s.frame p.target).member ≡ Some member
  pub begins : begin_of s.text locals p.target ≡ Some begin
  pub new : is_target (members_assigned s.frame ps) member.number ≡ false

-- this of each target
unfoldable pub AreMembersAt : Setting → List ℕ → ℕ → List Placed → Type 0
AreMembersAt s locals begin [] = Unit {0}
AreMembersAt s locals begin (p ∷ ps) = IsMemberAt s locals begin p ps × AreMembersAt s locals begin ps

-- each target is a local
unfoldable pub AreLocals : List Placed → Type 0
AreLocals [] = Unit {0}
AreLocals (p ∷ ps) = IsSome (local_of p.target) × AreLocals ps

-- one assignment, or several to locals, or to members of one structure
abbrev pub AreTogether : Setting → List ℕ → List Placed → Type 0
AreTogether s locals ps = (length ps ≡ 1) ⊎ (AreLocals ps ⊎ ((begin : ℕ) × AreMembersAt s locals begin ps))

-- Each target that is a member of a structure that is known is in that structure.
unfoldable pub AreIn : Setting → List ℕ → List Placed → List Write → Type 0
AreIn s locals [] [] = Unit {0}
AreIn s locals (p ∷ ps) (w ∷ ws) =
    LiesIn s (begin_of s.text locals p.target) (view s.frame p.target).member w.0 × AreIn s locals ps ws
AreIn s locals _ _ = ⊥
