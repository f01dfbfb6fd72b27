-- Targets by the name of a static object.
use Rattle.std.proofs.Common.{◌≡◌, inl, sym, ap, subst, ◌∙◌, ℕ, true, false, arith}
use Rattle.std.specs.Prelude.{◌+◌, ◌*◌, ◌<◌, slice_get, None, Some}
use Rattle.std.specs.List.{flat_map}
use Rattle.ckc_base.specs.declared.arithmetic.Mode.{Mode}
use Rattle.ckc_base.specs.declared.places.Pos.{Pos}
use Rattle.ckc_types.specs.declared.types.CType.{CType, CType-F, out-CType}
use Rattle.ckc_syntax.specs.declared.tree.Name.TheVariants as name
use Rattle.ckc_typed.specs.Operands.{dot_type}
use Rattle.ckc_typed.specs.Types.{is_scalar}
use Rattle.ckc_blame_sound.specs.ckc_bounds_views.specs.declared.variables.Member.{Member}
use Rattle.ckc_blame_sound.specs.ckc_bounds_views.specs.Views.{view}
use Rattle.ckc_blame_sound.specs.ckc_bounds_stores.specs.Stores.{Placed}
use Rattle.ckc_blame_sound.specs.ckc_bounds_stores.specs.Targets.{local_of, memory_bounds}
use Rattle.ckc_source.specs.declared.expr.Access.{Access}
use Rattle.ckc_source.specs.declared.expr.Count.{Count}
use Rattle.ckc_source.specs.declared.outcome.Place.TheVariants as place
use Rattle.ckc_source.specs.declared.outcome.Range.TheVariants.{Without}
use Rattle.ckc_source.specs.Blocks.{Block}
use Rattle.ckc_source.specs.Code.{Number, Memory}
use Rattle.ckc_source.specs.Eval.{Store}
use Rattle.ckc_source.specs.Steps.{aimed, aims_at}
use Rattle.ckc_build_values.specs.Kinds.{width_of}
use Rattle.ckc_build_values.specs.Members.{offset_of}
use Rattle.ckc_build_values.specs.Names.{address_of, address_in, count_of_static}
use Rattle.ckc_build_values.specs.Places.{object_place}
use Rattle.ckc_build_elaborate.specs.Objects.{object_elaborated, objects_elaborated, run_in}
use Rattle.ckc_blame_sound.specs.Settings.{Setting}
use Rattle.ckc_blame_sound.specs.Cells.{IsPart, IsCell}
use Rattle.ckc_blame_sound.proofs.Objects.{beside_at, object_at, object_cell}
use Rattle.ckc_blame_sound.specs.Elements.{AreCounted}
use Rattle.ckc_blame_pointers.specs.Covered.{IsSoundStore}
use Rattle.ckc_blame_pointers.specs.Owed.{Comes}
use Rattle.ckc_blame_pointers.proofs.Structures.{IsWholeElement}
use Rattle.ckc_blame_sound.proofs.Accesses.{scalar_part}
use Rattle.ckc_blame_given.specs.Planned.{IsPartTarget}
use Rattle.ckc_blame_given.specs.Targets.{IsStaticObject}
use Rattle.ckc_blame_given.proofs.Places.{Goes, IsIn, Lies, struct_target, named_goes}

-- the block of a static object that is no array
pub record IsObjectBlock (s : Setting) (store : Store) (t : CType) (k : ℕ) : Type 0 where
  pub block : Block
  pub there : slice_get store.blocks k ≡ Some block
  pub some : 0 < block.count
  pub address : address_of s.text k ≡ block.base + 0 * block.size
  pub element : block.element ≡ t

module _ (s : Setting) (store : Store) (next : ℕ) (ready : IsSoundStore s store next) where
  pub object_block : (t : CType) (k : ℕ) → IsStaticObject s t k → IsObjectBlock s store t k
  object_block t k c =
      let made = beside_at (object_elaborated s.text.layout) (flat_map run_in s.text.tree.items) s.text.statics k c.object c.there in
      let at = object_at (objects_elaborated s.text) store.blocks ready.sound.memory.objects k (object_elaborated s.text.layout made.0 c.object) made.1 in
      let base : at.0.base ≡ c.object.at = ap (λ (b : Block). b.base) at.2 in
      let count : at.0.count ≡ c.object.count = ap (λ (b : Block). b.count) at.2 in
      let address : address_of s.text k ≡ c.object.at = ap address_in c.there in
      record {
        block = at.0;
        there = at.1;
        some = subst (λ n. 0 < n) (sym count) c.some;
        address = address ∙ sym base ∙ nothing at.0.base at.0.size;
        element = ap (λ (b : Block). b.element) at.2 ∙ c.element;
      }
    where
      nothing : (base size : ℕ) → base ≡ base + 0 * size
      nothing base size = omega arith

  object_whole : (t : CType) (k : ℕ) → IsStaticObject s t k → IsWholeElement store.blocks t (address_of s.text k)
  object_whole t k c =
      let b = object_block t k c in
      record { number = k; block = b.block; there = b.there; index = 0; below = b.some; address = b.address; element = b.element }

  pub cell_of : (t : CType) (k : ℕ) → IsStaticObject s t k → (offset : ℕ) (u : CType) → IsPart s.text.layout t offset (width_of u) → IsCell s.text.layout store.blocks (address_of s.text k + offset) (width_of u) false
  cell_of t k c offset u part =
      object_cell s.text store.blocks ready.sound.memory.objects k c.object c.there c.plain c.some offset (width_of u) (subst (λ x. IsPart s.text.layout x offset (width_of u)) (sym c.element) part)

  module _ (mode : Mode) (p : Placed) (no_local : local_of p.target ≡ None) (at : Pos) (k : ℕ) where
    -- an integer or a pointer
    pub static_aims : IsStaticObject s p.target.note.ctype k → is_scalar p.target.note.ctype ≡ true → (view s.frame p.target).member ≡ None
        → ((n : Count) → count_of_static s.text p.target.note.ctype (name.Static k) ≡ Some n → AreCounted (memory_bounds s.frame p.target) n)
        → Lies s store next ready p (address_of s.text k + 0)
        → Comes mode (Goes s store next ready p)
        (aimed store (Memory (width_of p.target.note.ctype) (object_place s.text p.target.note.ctype at k).access (Number (address_of s.text k)) (Number 0)))
    static_aims c scalar none counts lies =
        named_goes s store next ready p mode no_local (object_place s.text p.target.note.ctype at k).access Without (address_of s.text k)
        (cell_of p.target.note.ctype k c 0 p.target.note.ctype (scalar_part s.text.layout p.target.note.ctype scalar)) in_it lies
      where
        b : IsObjectBlock s store p.target.note.ctype k
        b = object_block p.target.note.ctype k c

        at_begin : (a begin : ℕ) → a ≡ begin → a + 0 ≡ begin
        at_begin a begin e = omega arith

        in_it : IsIn s store next ready p (address_of s.text k + 0)
        in_it z = record {
          number = k;
          index = 0;
          block = b.block;
          there = b.there;
          below = b.some;
          part = subst (IsPartTarget s p k b.block (b.block.base + 0 * b.block.size) (place.Memory (address_of s.text k + 0) (width_of p.target.note.ctype) z)) (sym none) (inl (record {
            scalar = subst (λ t. is_scalar t ≡ true) (sym b.element) scalar;
            same = sym b.element;
            zero_alone = z;
            goes = ap (λ x. place.Memory x (width_of p.target.note.ctype) z) (at_begin (address_of s.text k) (b.block.base + 0 * b.block.size) b.address)
                ∙ ap (λ t. place.Memory (b.block.base + 0 * b.block.size) (width_of t) z) (sym b.element);
            counts = λ n e. counts n (sym (ap (λ t. count_of_static s.text t (name.Static k)) b.element) ∙ e);
          }));
        }

    -- a member of a structure
    pub static_member_aims : (t : CType) → IsStaticObject s t k → (m : Member) → (view s.frame p.target).member ≡ Some m → out-CType t ≡ CType-F.Struct m.tag
        → dot_type s.text.layout t (name.Member m.number) ≡ Some p.target.note.ctype
        → (offset : ℕ) → offset ≡ offset_of s.text.layout m.tag m.number → IsPart s.text.layout t offset (width_of p.target.note.ctype) → (access : Access) → access.offset ≡ offset
        → Lies s store next ready p (address_of s.text k + offset) → Comes mode (Goes s store next ready p) (aims_at store (width_of p.target.note.ctype) access Without (address_of s.text k))
    static_member_aims t c m is form named offset at_member part access lies_at lies =
        named_goes s store next ready p mode no_local access Without (address_of s.text k)
        (subst (λ o. IsCell s.text.layout store.blocks (address_of s.text k + o) (width_of p.target.note.ctype) false) (sym lies_at) (cell_of t k c offset p.target.note.ctype part))
        (subst (λ o. IsIn s store next ready p (address_of s.text k + o)) (sym lies_at)
        (struct_target s store next ready p t m is form named (address_of s.text k) (object_whole t k c) offset at_member))
        (subst (λ o. Lies s store next ready p (address_of s.text k + o)) (sym lies_at) lies)
