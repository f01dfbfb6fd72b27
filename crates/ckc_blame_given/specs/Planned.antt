-- What assignments are going to write, and what is known of it.
use Rattle.std.specs.Prelude.{◌≡◌, ◌⊎◌, ℕ, ◌+◌, ◌*◌, ◌<◌, ◌^◌, true, List, [], ◌∷◌, slice_get, Option, None, Some}
use Rattle.std.specs.List.{Contains}
use Rattle.ckc_base.specs.declared.places.Pos.{Pos}
use Rattle.ckc_types.specs.declared.types.CType.{CType-F, out-CType}
use Rattle.ckc_types.specs.declared.types.MemberShape.{MemberShape}
use Rattle.ckc_types.specs.Layout.{members_of}
use Rattle.ckc_linear.specs.declared.forms.Form.{Form}
use Rattle.ckc_syntax.specs.declared.tree.Name.TheVariants as name
use Rattle.ckc_typed.specs.Types.{is_scalar, kind_of}
use Rattle.ckc_blame_sound.specs.ckc_bounds_points.specs.declared.frame.Local.{Local}
use Rattle.ckc_blame_sound.specs.ckc_bounds_points.specs.Frames.{local_at}
use Rattle.ckc_blame_sound.specs.ckc_bounds_points.specs.Shown.{Known}
use Rattle.ckc_blame_sound.specs.ckc_bounds_points.specs.Flow.{State}
use Rattle.ckc_blame_sound.specs.ckc_bounds_views.specs.declared.variables.Member.{Member}
use Rattle.ckc_blame_sound.specs.ckc_bounds_views.specs.Views.{view}
use Rattle.ckc_blame_sound.specs.ckc_bounds_stores.specs.Stores.{Placed, received}
use Rattle.ckc_blame_sound.specs.ckc_bounds_stores.specs.Targets.{local_of, memory_bounds}
use Rattle.ckc_source.specs.declared.expr.Count.{Count}
use Rattle.ckc_source.specs.declared.outcome.Place.{Place}
use Rattle.ckc_source.specs.declared.outcome.Place.TheVariants as place
use Rattle.ckc_source.specs.Blocks.{Block}
use Rattle.ckc_source.specs.Eval.{Store}
use Rattle.ckc_source.specs.Steps.{Write}
use Rattle.ckc_build_values.specs.Kinds.{width_of, count_of_kind}
use Rattle.ckc_build_values.specs.Members.{offset_of}
use Rattle.ckc_build_values.specs.Names.{count_of_static}
use Rattle.ckc_build_elaborate.specs.Shapes.{is_run}
use Rattle.ckc_blame_sound.specs.Settings.{Setting}
use Rattle.ckc_blame_sound.specs.Values.{number_of}
use Rattle.ckc_blame_sound.specs.Writes.{IsCellWrite}
use Rattle.ckc_blame_sound.specs.Valuations.{Valuation, AreFacts}
use Rattle.ckc_blame_sound.specs.GivenValues.{memory_of, IsFrom}
use Rattle.ckc_blame_sound.specs.Elements.{number_kept, AreCounted}

-- The member m of the element of a block that begins at an address is a target of the type of the member.
pub record IsMemberTarget (s : Setting) (p : Placed) (b : Block) (begin : ℕ) (m : Member) (to : Place) : Type 0 where
  pub form : out-CType b.element ≡ CType-F.Struct m.tag
  pub shape : MemberShape
  pub there : Contains (members_of s.text.layout m.tag) shape
  pub named : shape.name ≡ m.number
  pub same : p.target.note.ctype ≡ shape.ctype
  pub zero_alone : Option Pos
  pub goes : to ≡ place.Memory (begin + offset_of s.text.layout m.tag m.number) (width_of shape.ctype) zero_alone

-- The element of the block with a number that begins at an address is itself a target. If it is known how many elements a
-- pointer there has, the bounds of the target count as many.
pub record IsElementTarget (s : Setting) (p : Placed) (number : ℕ) (b : Block) (begin : ℕ) (to : Place) : Type 0 where
  pub scalar : is_scalar b.element ≡ true
  pub same : p.target.note.ctype ≡ b.element
  pub zero_alone : Option Pos
  pub goes : to ≡ place.Memory begin (width_of b.element) zero_alone
  pub counts : (n : Count) → count_of_static s.text b.element (name.Static number) ≡ Some n
      → AreCounted (memory_bounds s.frame p.target) n

-- A target that a pointer reaches may also be a member of which no bounds are written and that no bounds name; its
-- bounds are then those of its type.
pub record IsRunTarget (s : Setting) (p : Placed) (b : Block) (begin : ℕ) (to : Place) : Type 0 where
  pub tag : ℕ
  pub form : out-CType b.element ≡ CType-F.Struct tag
  pub shape : MemberShape
  pub there : Contains (members_of s.text.layout tag) shape
  pub free : is_run (members_of s.text.layout tag) shape ≡ true
  pub same : p.target.note.ctype ≡ shape.ctype
  pub zero_alone : Option Pos
  pub goes : to ≡ place.Memory (begin + offset_of s.text.layout tag shape.name) (width_of shape.ctype) zero_alone
  pub counts : (n : Count) → count_of_kind (kind_of shape.ctype) ≡ Some n
      → AreCounted (memory_bounds s.frame p.target) n

-- which of these it is
abbrev pub IsPartTarget : Setting → Placed → ℕ → Block → ℕ → Place → Option Member → Type 0
IsPartTarget s p number b begin to (Some m) = IsMemberTarget s p b begin m to
IsPartTarget s p number b begin to None = IsElementTarget s p number b begin to ⊎ IsRunTarget s p b begin to

-- A target in memory is an element of a block, or a member of it.
pub record IsMemoryTarget (s : Setting) (store : Store) (p : Placed) (to : Place) : Type 0 where
  pub number : ℕ
  pub index : ℕ
  pub block : Block
  pub there : slice_get store.blocks number ≡ Some block
  pub below : index < block.count
  pub part : IsPartTarget s p number block (block.base + index * block.size) to (view s.frame p.target).member

-- A target that is a local.
pub record IsLocalTarget (s : Setting) (p : Placed) (k : ℕ) (to : Place) : Type 0 where
  pub local : Local
  pub there : local_at s.frame k ≡ Some local
  pub same : p.target.note.ctype ≡ local.ctype
  pub goes : to ≡ place.Local k (width_of local.ctype)

-- A target is a place in a store.
abbrev pub IsTarget : Setting → Store → Placed → Option ℕ → Place → Type 0
IsTarget s store p (Some k) to = IsLocalTarget s p k to
IsTarget s store p None to = IsMemoryTarget s store p to

-- An assignment is going to write a word: its target is this place in the store before, that of the blocks before the
-- step; the word is what the right side gives to a place of the type of the target, in the store after all right sides,
-- which may have made blocks.
pub record IsPlanned (s : Setting) (before after : Store) (v : Valuation) (at : State) (p : Placed) (w : Write) : Type 0 where
  pub target : IsTarget s before p (local_of p.target) w.0
  pub written : IsCellWrite s.text.layout before.blocks w.0 w.1
  pub word : w.1 < 2 ^ 32
  pub from : IsFrom s.frame (memory_of s after p.target.note.ctype) v p.target.note.ctype p.right p.from at w.1
  pub form : (facts : Known) (f : Form) → AreFacts v facts → received s.frame facts p ≡ Some f
      → number_of v.number f ≡ number_kept p.target.note.ctype w.1

-- this of each assignment
unfoldable pub ArePlanned : Setting → (before after : Store) → Valuation → State → List Placed → List Write → Type 0
ArePlanned s before after v at [] [] = Unit {0}
ArePlanned s before after v at (p ∷ ps) (w ∷ ws) =
    IsPlanned s before after v at p w × ArePlanned s before after v at ps ws
ArePlanned s before after v at _ _ = ⊥
