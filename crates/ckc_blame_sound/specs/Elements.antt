-- Assignments to members of one element of memory, and what they write.
use Rattle.std.specs.Prelude.{◌≡◌, ℕ, ◌+◌, ◌<◌, ℤ, true, List, [], ◌∷◌, slice_get, Option, None, Some}
use Rattle.std.specs.List.{Contains}
use Rattle.ckc_base.specs.declared.places.Pos.{Pos}
use Rattle.ckc_base.specs.Memory.{kept_part}
use Rattle.ckc_types.specs.declared.types.CType.{CType, CType-F, out-CType}
use Rattle.ckc_types.specs.declared.types.MemberBounds.TheVariants as written
use Rattle.ckc_types.specs.declared.types.MemberShape.{MemberShape}
use Rattle.ckc_types.specs.declared.types.Structs.{Structs}
use Rattle.ckc_types.specs.Layout.{members_of}
use Rattle.ckc_linear.specs.declared.forms.Base.TheVariants as base
use Rattle.ckc_linear.specs.declared.forms.Form.{Form}
use Rattle.ckc_syntax.specs.declared.tree.Name.TheVariants as name
use Rattle.ckc_bounds.specs.ckc_bounds_points.specs.declared.frame.Bounds.{Bounds}
use Rattle.ckc_bounds.specs.ckc_bounds_points.specs.declared.frame.Bounds.TheVariants as bounds
use Rattle.ckc_bounds.specs.ckc_bounds_points.specs.Shown.{Known}
use Rattle.ckc_bounds.specs.ckc_bounds_points.specs.Flow.{State}
use Rattle.ckc_bounds.specs.ckc_bounds_declared.specs.Written.{is_integer_member}
use Rattle.ckc_bounds.specs.ckc_bounds_views.specs.declared.variables.Member.{Member}
use Rattle.ckc_bounds.specs.ckc_bounds_views.specs.Views.{view}
use Rattle.ckc_bounds.specs.ckc_bounds_stores.specs.Targets.{counted, local_of, member_variable, memory_bounds}
use Rattle.ckc_bounds.specs.ckc_bounds_stores.specs.Stores.{Placed, received}
use Rattle.ckc_source.specs.declared.expr.Count.{Count}
use Rattle.ckc_source.specs.declared.expr.Count.TheVariants as count
use Rattle.ckc_source.specs.declared.outcome.Place.{Place}
use Rattle.ckc_source.specs.declared.outcome.Place.TheVariants as place
use Rattle.ckc_source.specs.Blocks.{Block}
use Rattle.ckc_source.specs.Eval.{Store}
use Rattle.ckc_source.specs.Steps.{Write}
use Rattle.ckc_source.specs.Words.{exact}
use Rattle.ckc_build_values.specs.Kinds.{integer_of, width_of}
use Rattle.ckc_build_values.specs.Members.{offset_of}
use Rattle.ckc_build_values.specs.Names.{count_of_static}
use Rattle.ckc_blame_sound.specs.Settings.{Setting}
use Rattle.ckc_blame_sound.specs.Values.{number_of}
use Rattle.ckc_blame_sound.specs.Valuations.{Valuation, AreFacts}
use Rattle.ckc_blame_sound.specs.Writes.{IsElsewhere, AreElsewhere}
use Rattle.ckc_blame_sound.specs.GivenValues.{memory_of, IsFrom}

-- The bounds of a member name no other thing than an integer member of its structure.
abbrev pub NameIntegerMembers : Structs → Type 0
NameIntegerMembers structs =
    (tag j : ℕ) (c : ℤ) (shape : MemberShape) → Contains (members_of structs tag) shape
    → shape.bounds ≡ written.Named j c → is_integer_member structs tag j ≡ true

-- The element with this index in the block with this number is a structure with a tag.
pub record IsStructure (blocks : List Block) (number index tag : ℕ) (b : Block) : Type 0 where
  pub there : slice_get blocks number ≡ Some b
  pub below : index < b.count
  pub form : out-CType b.element ≡ CType-F.Struct tag

-- the number that an object of a type has after a word is written to it
abbrev pub number_kept : CType → ℕ → ℤ
number_kept t n = exact (integer_of t) (kept_part (width_of t) n)

-- An assignment to the member m of the element that begins at an address writes a word there. The member has the number
-- of that word after, which is what the form of the right side stands for before, wherever facts are true. If the
-- bounds of the member are known, the word is a pointer that is read in the store after.
pub record IsMemberWritten (s : Setting) (after : Store) (v w : Valuation) (at : State) (tag begin : ℕ) (p : Placed)
    (m : Member) (to : Write) : Type 0 where
  pub local : local_of p.target ≡ None
  pub tagged : m.tag ≡ tag
  pub shape : MemberShape
  pub there : Contains (members_of s.text.layout tag) shape
  pub named : shape.name ≡ m.number
  pub same : p.target.note.ctype ≡ shape.ctype
  pub zero_alone : Option Pos
  pub goes : to.0 ≡ place.Memory (begin + offset_of s.text.layout tag m.number) (width_of shape.ctype) zero_alone
  pub number : w.number (member_variable m.number) ≡ number_kept shape.ctype to.1
  pub form : (facts : Known) (f : Form) → AreFacts v facts → received s.frame facts p ≡ Some f
      → number_of v.number f ≡ w.number (member_variable m.number)
  pub pointer : (low high : Form) → memory_bounds s.frame p.target ≡ bounds.Known low high
      → IsFrom s.frame (memory_of s after p.target.note.ctype) v p.target.note.ctype p.right p.from at to.1

-- this of a target that is a member; another one is not in memory
abbrev pub IsTargetWritten : Setting → Store → Valuation → Valuation → State → (tag begin : ℕ) → Placed → Option Member
    → Write → Type 0
IsTargetWritten s after v w at tag begin p None to = (c : ℕ) → IsElsewhere c to.0
IsTargetWritten s after v w at tag begin p (Some m) to = IsMemberWritten s after v w at tag begin p m to

-- this of the target of each assignment
unfoldable pub AreTargetsWritten : Setting → Store → Valuation → Valuation → State → (tag begin : ℕ) → List Placed
    → List Write → Type 0
AreTargetsWritten s after v w at tag begin [] [] = Unit {0}
AreTargetsWritten s after v w at tag begin (p ∷ ps) (to ∷ ws) =
    IsTargetWritten s after v w at tag begin p (view s.frame p.target).member to
    × AreTargetsWritten s after v w at tag begin ps ws
AreTargetsWritten s after v w at tag begin _ _ = ⊥

-- no later write is to the place of one
abbrev pub IsLast : Place → List Write → Type 0
IsLast (place.Memory a width zero_alone) ws = AreElsewhere a ws
IsLast _ ws = Unit {0}

-- No two writes are to one place in memory.
unfoldable pub AreWrittenOnce : List Write → Type 0
AreWrittenOnce [] = Unit {0}
AreWrittenOnce (to ∷ ws) = IsLast to.0 ws × AreWrittenOnce ws

-- bounds from a pointer's own value count so many elements, a constant
abbrev pub AreCounted : Bounds → Count → Type 0
AreCounted b (count.Fixed c) = b ≡ counted (record { base = Some (base.Value 0); var = 0; add = c })
AreCounted b (count.Member offset form add) = ⊥

-- An assignment writes a word to the element of type t at an address, in the block with a number. If it is known how
-- many elements a pointer there has, the bounds of the target count as many, and the word is a pointer that is read in
-- the store after.
pub record IsElementWritten (s : Setting) (after : Store) (v : Valuation) (at : State) (number : ℕ) (t : CType)
    (begin : ℕ) (p : Placed) (to : Write) : Type 0 where
  pub local : local_of p.target ≡ None
  pub alone : (view s.frame p.target).member ≡ None
  pub same : p.target.note.ctype ≡ t
  pub zero_alone : Option Pos
  pub goes : to.0 ≡ place.Memory begin (width_of t) zero_alone
  pub counts : (n : Count) → count_of_static s.text t (name.Static number) ≡ Some n
      → AreCounted (memory_bounds s.frame p.target) n
  pub pointer : (n : Count) → count_of_static s.text t (name.Static number) ≡ Some n
      → IsFrom s.frame (memory_of s after p.target.note.ctype) v p.target.note.ctype p.right p.from at to.1
