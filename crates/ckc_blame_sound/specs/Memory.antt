-- Pointers in memory that are assigned, alone or in a bundle.
use Rattle.std.specs.Prelude.{◌≡◌, ℤ, ◌+ℤ◌, List, [], ◌∷◌, Option, None, Some}
use Rattle.ckc_linear.specs.declared.forms.Base.TheVariants as base
use Rattle.ckc_linear.specs.declared.forms.Form.{Form}
use Rattle.ckc_types.specs.declared.types.MemberBounds.{MemberBounds}
use Rattle.ckc_types.specs.declared.types.MemberBounds.TheVariants as written
use Rattle.ckc_bounds.specs.ckc_bounds_points.specs.Shown.{Known}
use Rattle.ckc_bounds.specs.ckc_bounds_points.specs.Forms.{base_form}
use Rattle.ckc_bounds.specs.ckc_bounds_views.specs.declared.variables.Member.{Member}
use Rattle.ckc_bounds.specs.ckc_bounds_views.specs.Views.{view}
use Rattle.ckc_bounds.specs.ckc_bounds_stores.specs.Targets.{member_variable}
use Rattle.ckc_bounds.specs.ckc_bounds_stores.specs.Stores.{Placed, received}
use Rattle.ckc_source.specs.declared.expr.Count.{Count}
use Rattle.ckc_source.specs.declared.expr.Count.TheVariants as count
use Rattle.ckc_blame_sound.specs.Settings.{Setting}
use Rattle.ckc_blame_sound.specs.Values.{number_of}
use Rattle.ckc_blame_sound.specs.Valuations.{Valuation, AreFacts}

-- The bounds of a pointer in memory lie from its own value.
pub record AreOwn (low high : Form) : Type 0 where
  pub begins : low ≡ base_form (base.Value 0)
  pub ends : high.base ≡ Some (base.Value 0)

-- A member that is assigned has the number after that the form of the right side stands for before, wherever facts are
-- true.
abbrev pub IsMemberGiven : Setting → Valuation → Valuation → Placed → Option Member → Type 0
IsMemberGiven s before after p None = Unit {0}
IsMemberGiven s before after p (Some m) =
    (facts : Known) (f : Form) → AreFacts before facts → received s.frame facts p ≡ Some f
    → number_of before.number f ≡ after.number (member_variable m.number)

-- this of each assignment
abbrev pub AreMembersGiven : Setting → Valuation → Valuation → List Placed → Type 0
AreMembersGiven s before after [] = Unit {0}
AreMembersGiven s before after (p ∷ ps) =
    IsMemberGiven s before after p (view s.frame p.target).member × AreMembersGiven s before after ps

-- The bounds of a member count so many elements: a constant, or what another member says and a number.
abbrev pub IsCountedBy : Valuation → MemberBounds → Count → ℤ → Type 0
IsCountedBy v b (count.Fixed n) z = z ≡ n
IsCountedBy v (written.Named k c) (count.Member offset form add) z = z ≡ v.number (member_variable k) +ℤ add
IsCountedBy v b (count.Member offset form add) z = ⊥
