-- What an access to an element of a block or a member of it goes to is a target in memory.
use Rattle.std.proofs.Common.{◌≡◌, ◌⊎◌, ⊎_elim, inl, inr, refl, sym, ap, subst, ◌∙◌, ℕ, Bool, true, false, List, [], ◌∷◌, arith}
use Rattle.std.specs.Prelude.{◌+◌, ◌*◌, ◌-◌, ◌<◌, ◌^◌, ◌==◌, ◌&&◌, ◌||◌, not, if◌then◌else◌, find, pos, slice_get, Option, None, Some, Ok}
use Rattle.std.specs.List.{All, Contains, list_any}
use Rattle.std.specs.Option.{option_map}
use Rattle.std.proofs.lemmas.Bool.{and_parts, eqb-true}
use Rattle.std.proofs.lemmas.List.Elements.{All-contains, Contains-append_right}
use Rattle.ckc_base.specs.declared.arithmetic.Mode.{Mode}
use Rattle.ckc_base.specs.declared.arithmetic.Width.{Width}
use Rattle.ckc_base.specs.declared.places.Pos.{Pos}
use Rattle.ckc_base.specs.declared.runtime_checks.Check.TheVariants as check
use Rattle.ckc_base.specs.Memory.{kept_part}
use Rattle.ckc_types.specs.declared.types.CType.{CType, CType-F, out-CType}
use Rattle.ckc_types.specs.declared.types.Kind.{Kind}
use Rattle.ckc_types.specs.declared.types.Kind.TheVariants as kind
use Rattle.ckc_types.specs.declared.types.MemberShape.{MemberShape}
use Rattle.ckc_types.specs.declared.types.Structs.{Structs}
use Rattle.ckc_types.specs.Layout.{members_of}
use Rattle.ckc_types.specs.Same.{same_type}
use Rattle.ckc_linear.specs.declared.forms.Base.TheVariants as base
use Rattle.ckc_syntax.specs.declared.tree.Name.TheVariants as name
use Rattle.ckc_typed.specs.declared.typed.Typed.{Typed}
use Rattle.ckc_typed.specs.Environment.{is_member_named, member_type}
use Rattle.ckc_typed.specs.Operands.{member_in, dot_type}
use Rattle.ckc_typed.specs.Types.{is_integer, is_integer_form, is_scalar, kind_of, element_of}
use Rattle.ckc_blame_sound.specs.ckc_bounds_declared.specs.Written.{bounds_of_kind, bounds_by_type}
use Rattle.ckc_blame_sound.specs.ckc_bounds_views.specs.declared.variables.Member.{Member}
use Rattle.ckc_blame_sound.specs.ckc_bounds_views.specs.Views.{view}
use Rattle.ckc_blame_sound.specs.ckc_bounds_stores.specs.Stores.{Placed}
use Rattle.ckc_blame_sound.specs.ckc_bounds_stores.specs.Targets.{local_of, memory_bounds}
use Rattle.ckc_source.specs.declared.expr.Access.{Access}
use Rattle.ckc_source.specs.declared.expr.Count.{Count}
use Rattle.ckc_source.specs.declared.expr.Count.TheVariants as count
use Rattle.ckc_source.specs.declared.expr.Pointee.{Pointee}
use Rattle.ckc_source.specs.declared.outcome.Place.{Place}
use Rattle.ckc_source.specs.declared.outcome.Place.TheVariants as place
use Rattle.ckc_source.specs.declared.outcome.Range.{Range}
use Rattle.ckc_source.specs.declared.outcome.Value.{Value}
use Rattle.ckc_source.specs.declared.program.Object.{Object}
use Rattle.ckc_source.specs.declared.program.Shape.{Shape}
use Rattle.ckc_source.specs.Blocks.{Block, end_of}
use Rattle.ckc_source.specs.Eval.{Store, stops, place_in}
use Rattle.ckc_source.specs.Runs.{is_within, is_in_block, is_in_member, member_runs, is_in, is_true}
use Rattle.ckc_source.specs.Steps.{aims_at, allowed, terminator_at}
use Rattle.ckc_build_values.specs.Kinds.{width_of, count_of_kind, pointee_of}
use Rattle.ckc_build_values.specs.Members.{offset_of}
use Rattle.ckc_build_values.specs.Names.{count_declared, limits_declared}
use Rattle.ckc_build_elaborate.specs.Objects.{objects_elaborated}
use Rattle.ckc_build_elaborate.specs.Shapes.{shapes_elaborated}
use Rattle.ckc_blame_sound.specs.Settings.{Setting}
use Rattle.ckc_blame_sound.specs.Sound.{IsPlaced}
use Rattle.ckc_blame_sound.specs.Cells.{IsPart, IsCell}
use Rattle.ckc_blame_sound.specs.Writes.{IsCellWrite}
use Rattle.ckc_blame_sound.proofs.Aimed.{target_there, ranged_write, named_write}
use Rattle.ckc_blame_sound.proofs.Filled.{part_place}
use Rattle.ckc_blame_sound.proofs.Objects.{object_at, are_members}
use Rattle.ckc_blame_sound.proofs.Ranges.{some_of, contains_at, true_cell}
use Rattle.ckc_blame_sound.proofs.Same.{same_equal}
use Rattle.ckc_blame_sound.specs.Elements.{AreCounted}
use Rattle.ckc_blame_pointers.specs.Covered.{IsSoundStore}
use Rattle.ckc_blame_pointers.specs.Owed.{Comes}
use Rattle.ckc_blame_pointers.proofs.Structures.{IsWholeElement, whole_element}
use Rattle.ckc_blame_pointers.proofs.Truths.{either}
use Rattle.ckc_blame_given.specs.Planned.{IsPartTarget, IsMemoryTarget, IsTarget}
use Rattle.ckc_blame_given.specs.Targets.{KeepRunsFree, begin_of, LiesIn, GoesThere}
use Rattle.ckc_blame_given.proofs.Hits.{IsHit}
use Rattle.ckc_blame_pointers.proofs.Reached.{IsElementReached, IsRunReached, scalar_reached}

-- ---- members and structures

-- a member of a structure with its type
pub record IsShape (structs : Structs) (tag k : ℕ) (t : CType) : Type 0 where
  pub shape : MemberShape
  pub there : Contains (members_of structs tag) shape
  pub named : shape.name ≡ k
  pub same : t ≡ shape.ctype

found_in : (q : MemberShape → Bool) (ms : List MemberShape) (m : MemberShape) → find q ms ≡ Some m → Contains ms m × (q m ≡ true)
found_in q [] m e = absurd (cc)
found_in q (x ∷ ms) m e = by (λ e. found_in q ms m e) (q x) refl e
  where
    by : (find q ms ≡ Some m → Contains ms m × (q m ≡ true)) → (b : Bool) → q x ≡ b → (if b then Some x else find q ms) ≡ Some m → Contains (x ∷ ms) m × (q m ≡ true)
    by later true t e = let same : x ≡ m = cc in (contains_at (x ∷ ms) 0 m (ap (λ y. Some y) same), subst (λ y. q y ≡ true) same t)
    by later false t e = let r = later e in (Contains-append_right (x ∷ []) ms m r.0, r.1)

shape_of_type : (structs : Structs) (tag k : ℕ) (t : CType) → member_type structs tag (name.Member k) ≡ Some t → IsShape structs tag k t
shape_of_type structs tag k t e = by (find (λ (m : MemberShape). is_member_named (name.Member k) m.name) (members_of structs tag)) refl e
  where
    by : (o : Option MemberShape) → find (λ (m : MemberShape). is_member_named (name.Member k) m.name) (members_of structs tag) ≡ o
        → option_map (λ (m : MemberShape). m.ctype) o ≡ Some t → IsShape structs tag k t
    by None is e = absurd (cc)
    by (Some m) is e =
        let f = found_in (λ (m : MemberShape). is_member_named (name.Member k) m.name) (members_of structs tag) m is in
        let type_is : m.ctype ≡ t = cc in
        record { shape = m; there = f.0; named = sym (eqb-true k m.name f.1); same = sym type_is }

-- a structure that a type is has such a member
pub member_shape : (structs : Structs) (u : CType) (tag k : ℕ) (t : CType) → out-CType u ≡ CType-F.Struct tag → dot_type structs u (name.Member k) ≡ Some t → IsShape structs tag k t
member_shape structs u tag k t form e = shape_of_type structs tag k t (sym (ap (member_in structs (name.Member k)) form) ∙ e)

-- what has a member is a structure
pub member_struct : (structs : Structs) (u : CType) (k : ℕ) (t : CType) → dot_type structs u (name.Member k) ≡ Some t → (tag : ℕ) × (out-CType u ≡ CType-F.Struct tag)
member_struct structs u k t e = by (out-CType u) refl e
  where
    by : (f : CType-F CType) → out-CType u ≡ f → member_in structs (name.Member k) f ≡ Some t → (tag : ℕ) × (out-CType u ≡ CType-F.Struct tag)
    by (CType-F.Struct tag) is e = (tag, is)
    by CType-F.Int is e = absurd (cc)
    by CType-F.Unsigned is e = absurd (cc)
    by CType-F.Char is e = absurd (cc)
    by CType-F.Void is e = absurd (cc)
    by (CType-F.Pointer q v) is e = absurd (cc)

-- A pointer to structures that has a true range is not null-terminated.
struct_bare : (p : Typed) (shapes : List Shape) (blocks : List Block) (to : Pointee) (n low high tag : ℕ) → out-CType to.element ≡ CType-F.Struct tag → All (IsPlaced p) blocks
    → is_true shapes blocks to n low high ≡ true → to.terminated ≡ false
struct_bare p shapes blocks to n low high tag form placed e = by to.terminated refl
  where
    no_integer : is_integer to.element ≡ true → ⊥
    no_integer i = let other : is_integer to.element ≡ false = ap is_integer_form form in absurd (cc)

    not_both : (c : Bool) → not c ≡ true → c ≡ true → ⊥
    not_both true i j = absurd cc
    not_both false i j = absurd cc

    in_block : to.terminated ≡ true → (b : Block) → IsPlaced p b → is_in_block to n low high b ≡ true → ⊥
    in_block t b at i =
        let q = and_parts (same_type to.element b.element) (if b.terminated then is_within b.base (end_of b - b.size) to.size n low high else not to.terminated && is_within b.base (end_of b) to.size n low high) i in
        by_end b.terminated refl q.1 (same_equal to.element b.element q.0)
      where
        by_end : (c : Bool) → b.terminated ≡ c → (if c then is_within b.base (end_of b - b.size) to.size n low high else not to.terminated && is_within b.base (end_of b) to.size n low high) ≡ true
            → to.element ≡ b.element → ⊥
        by_end true is i same = no_integer (subst (λ u. is_integer u ≡ true) (sym same) (at.terminated is).integers)
        by_end false is i same = not_both to.terminated (and_parts (not to.terminated) (is_within b.base (end_of b) to.size n low high) i).0 t

    by : (c : Bool) → to.terminated ≡ c → to.terminated ≡ false
    by false is = is
    by true is =
        let q = some_of (is_in shapes to n low high) blocks e in
        let b = q.1 in
        let at = All-contains (IsPlaced p) blocks b placed (contains_at blocks q.0 b q.2) in
        let runs = list_any (is_in_member to n low high b) (member_runs shapes b) in
        let r = and_parts b.is_run (is_in_block to n low high b || (not to.terminated && runs)) q.3 in
        absurd (⊎_elim (λ h. in_block is b at h) (λ h. not_both to.terminated (and_parts (not to.terminated) runs h).0 is) (either (is_in_block to n low high b) (not to.terminated && runs) r.1))

-- ---- how many elements a pointer has by its kind

kind_counts : (t : CType) (n : Count) → count_of_kind (kind_of t) ≡ Some n → AreCounted (bounds_by_type (base.Value 0) t) n
kind_counts t n e = by (kind_of t) e
  where
    by : (q : Option Kind) → count_of_kind q ≡ Some n → AreCounted (bounds_of_kind (base.Value 0) q) n
    by (Some kind.One) f = let same : count.Fixed (pos 1) ≡ n = cc in subst (AreCounted (bounds_of_kind (base.Value 0) (Some kind.One))) same refl
    by (Some kind.Nt) f = let same : count.Fixed (pos 0) ≡ n = cc in subst (AreCounted (bounds_of_kind (base.Value 0) (Some kind.Nt))) same refl
    by (Some kind.Arr) f = absurd (cc)
    by (Some kind.Raw) f = absurd (cc)
    by None f = absurd (cc)

-- what may be written to a place goes there
pub allowed_is : (to w : Place) (n : ℕ) → allowed to n ≡ Ok w → to ≡ w
allowed_is (place.Memory a width None) w n e = cc
allowed_is (place.Memory a width (Some at)) w n e = by (kept_part width n == 0) e
  where
    by : (b : Bool) → (if b then Ok (place.Memory a width (Some at)) else stops check.Terminator at) ≡ Ok w → place.Memory a width (Some at) ≡ w
    by true e = cc
    by false e = absurd (cc)
allowed_is (place.Local x width) w n e = cc
allowed_is place.Nowhere w n e = cc

module _ (s : Setting) (store : Store) (next : ℕ) (ready : IsSoundStore s store next) (p : Placed) where
  abbrev wide : Width
  wide = width_of p.target.note.ctype

  -- what may be written to a place goes there
  abbrev pub Goes : Place → Type 0
  Goes to = (n : ℕ) (w : Place) → n < 2 ^ 32 → allowed to n ≡ Ok w → GoesThere s store p n w

  -- an address is that of the target
  abbrev pub IsIn : ℕ → Type 0
  IsIn a = (z : Option Pos) → IsMemoryTarget s store p (place.Memory a wide z)

  abbrev pub Lies : ℕ → Type 0
  Lies a = (z : Option Pos) → LiesIn s (begin_of s.text store.locals p.target) (view s.frame p.target).member (place.Memory a wide z)

  -- ---- targets

  no_limits : KeepRunsFree s.text → (number : ℕ) (b : Block) → slice_get store.blocks number ≡ Some b → b.is_run ≡ true → limits_declared s.text (name.Static number) ≡ None
  no_limits free number b there run = ⊎_elim (λ h. h) (λ o. absurd (closed o.0 o.1 o.2)) (free number)
    where
      closed : (o : Object) → slice_get (objects_elaborated s.text) number ≡ Some o → o.is_run ≡ false → ⊥
      closed o e shut =
          let at = object_at (objects_elaborated s.text) store.blocks ready.sound.memory.objects number o e in
          let again : Some at.0 ≡ Some b = sym at.1 ∙ there in
          let same : at.0 ≡ b = cc in
          let no : true ≡ false = sym run ∙ ap (λ (c : Block). c.is_run) (sym same) ∙ ap (λ (c : Block). c.is_run) at.2 ∙ shut in
          absurd (cc)

  -- what `*` and `[` reach
  pub scalar_target : KeepRunsFree s.text → is_scalar p.target.note.ctype ≡ true → memory_bounds s.frame p.target ≡ bounds_by_type (base.Value 0) p.target.note.ctype
      → (view s.frame p.target).member ≡ None → (a : ℕ) → IsElementReached store.blocks p.target.note.ctype a ⊎ IsRunReached s.text.layout store.blocks p.target.note.ctype a → IsIn (a + 0)
  scalar_target free scalar bounds none a (inl r) z = record {
    number = r.number;
    index = r.index;
    block = r.block;
    there = r.there;
    below = r.below;
    part = subst (IsPartTarget s p r.number r.block (r.block.base + r.index * r.block.size) (place.Memory (a + 0) wide z)) (sym none) (inl (record {
      scalar = subst (λ t. is_scalar t ≡ true) (sym r.element) scalar;
      same = sym r.element;
      zero_alone = z;
      goes = ap (λ x. place.Memory x wide z) (at_begin a (r.block.base + r.index * r.block.size) r.address) ∙ ap (λ t. place.Memory (r.block.base + r.index * r.block.size) (width_of t) z) (sym r.element);
      counts = λ n c. subst (λ b. AreCounted b n) (sym bounds) (kind_counts p.target.note.ctype n
          (sym (ap (λ t. count_of_kind (kind_of t)) r.element) ∙ sym (ap (count_declared s.text.layout r.block.element) (no_limits free r.number r.block r.there r.reachable)) ∙ c));
    }));
  }
    where
      at_begin : (a begin : ℕ) → a ≡ begin → a + 0 ≡ begin
      at_begin a begin e = omega arith
  scalar_target free scalar bounds none a (inr r) z = record {
    number = r.number;
    index = r.index;
    block = r.block;
    there = r.there;
    below = r.below;
    part = subst (IsPartTarget s p r.number r.block (r.block.base + r.index * r.block.size) (place.Memory (a + 0) wide z)) (sym none) (inr (record {
      tag = r.tag;
      form = r.form;
      shape = r.shape;
      there = r.contained;
      free = r.free;
      same = r.same;
      zero_alone = z;
      goes = ap (λ x. place.Memory x wide z) (at_begin a (r.block.base + r.index * r.block.size + offset_of s.text.layout r.tag r.shape.name) r.address)
          ∙ ap (λ t. place.Memory (r.block.base + r.index * r.block.size + offset_of s.text.layout r.tag r.shape.name) (width_of t) z) r.same;
      counts = λ n c. subst (λ b. AreCounted b n) (sym bounds) (kind_counts p.target.note.ctype n (ap (λ t. count_of_kind (kind_of t)) r.same ∙ c));
    }));
  }
    where
      at_begin : (a begin : ℕ) → a ≡ begin → a + 0 ≡ begin
      at_begin a begin e = omega arith

  -- a member of a structure
  pub struct_target : (t : CType) (m : Member) → (view s.frame p.target).member ≡ Some m → out-CType t ≡ CType-F.Struct m.tag → dot_type s.text.layout t (name.Member m.number) ≡ Some p.target.note.ctype
      → (a : ℕ) → IsWholeElement store.blocks t a → (offset : ℕ) → offset ≡ offset_of s.text.layout m.tag m.number → IsIn (a + offset)
  struct_target t m is form named a w offset at z =
      let shape = member_shape s.text.layout t m.tag m.number p.target.note.ctype form named in
      record {
        number = w.number;
        index = w.index;
        block = w.block;
        there = w.there;
        below = w.below;
        part = subst (IsPartTarget s p w.number w.block (w.block.base + w.index * w.block.size) (place.Memory (a + offset) wide z)) (sym is) (record {
          form = ap out-CType w.element ∙ form;
          shape = shape.shape;
          there = shape.there;
          named = shape.named;
          same = shape.same;
          zero_alone = z;
          goes = ap (λ x. place.Memory (x + offset) wide z) w.address ∙ ap (λ o. place.Memory (w.block.base + w.index * w.block.size + o) wide z) at
              ∙ ap (λ t. place.Memory (w.block.base + w.index * w.block.size + offset_of s.text.layout m.tag m.number) (width_of t) z) shape.same;
        });
      }

  -- ---- accesses

  module _ (mode : Mode) (no_local : local_of p.target ≡ None) where
    going : (access : Access) (a : ℕ) (z : Option Pos) → place_in a access.offset ≡ a + access.offset → IsIn (a + access.offset) → Lies (a + access.offset)
        → ((n : ℕ) (w : Place) → n < 2 ^ 32 → allowed (place.Memory (place_in a access.offset) wide z) n ≡ Ok w → IsCellWrite s.text.layout store.blocks w n)
        → Goes (place.Memory (place_in a access.offset) wide z)
    going access a z is in_it lies written n w small e =
        let same : place.Memory (a + access.offset) wide z ≡ w = ap (λ x. place.Memory x wide z) (sym is) ∙ allowed_is (place.Memory (place_in a access.offset) wide z) w n e in
        record {
          target = subst (λ o. IsTarget s store p o w) (sym no_local) (subst (IsMemoryTarget s store p) same (in_it z));
          written = written n w small e;
          lies = subst (LiesIn s (begin_of s.text store.locals p.target) (view s.frame p.target).member) same (lies z);
        }

    -- through a checked pointer
    pub hit_goes : (t : CType) (access : Access) (x : Value) (a : ℕ) → IsHit s store t access x a → IsPart s.text.layout (element_of t) access.offset wide → IsIn (a + access.offset) → Lies (a + access.offset)
        → Comes mode Goes (aims_at store wide access x.range a)
    hit_goes t access x a hit part in_it lies =
        let cell : IsCell s.text.layout store.blocks (a + access.offset) wide (a == hit.high) =
        true_cell s.text (shapes_elaborated s.text.layout) store.blocks (pointee_of s.text.layout t) x.number hit.low hit.high a access.offset wide ready.sound.memory.placed (are_members s.text.layout ready.names) refl
        (subst (λ sh. is_true sh store.blocks (pointee_of s.text.layout t) x.number hit.low hit.high ≡ true) ready.shapes hit.true_there) hit.reached part in
        subst (Comes mode Goes) (sym (target_there s.text store.blocks next ready.sound store refl wide access x.range a (a == hit.high) cell))
        (going access a (terminator_at access.through x.range a access.at) (part_place s.text store.blocks next ready.sound a access.offset wide (a == hit.high) cell) in_it lies
        (λ n w small e.
        ranged_write s.text store.blocks next ready.sound wide access hit.low hit.high a n w cell hit.how small (subst (λ z. allowed (place.Memory (place_in a access.offset) wide z) n ≡ Ok w) hit.same e)))

    -- by the name of an object
    pub named_goes : (access : Access) (range : Range) (a : ℕ) → IsCell s.text.layout store.blocks (a + access.offset) wide false → IsIn (a + access.offset) → Lies (a + access.offset)
        → Comes mode Goes (aims_at store wide access range a)
    named_goes access range a cell in_it lies =
        subst (Comes mode Goes) (sym (target_there s.text store.blocks next ready.sound store refl wide access range a false cell))
        (going access a (terminator_at access.through range a access.at) (part_place s.text store.blocks next ready.sound a access.offset wide false cell) in_it lies
        (λ n w small e. named_write s.text store.blocks next ready.sound wide access range a n w cell small e))

  -- ---- what a hit reaches

  pub hit_scalar : (t : CType) (access : Access) (x : Value) (a : ℕ) → IsHit s store t access x a → is_scalar (element_of t) ≡ true
      → IsElementReached store.blocks (element_of t) a ⊎ IsRunReached s.text.layout store.blocks (element_of t) a
  hit_scalar t access x a hit scalar =
      scalar_reached s.text store.blocks (pointee_of s.text.layout t) refl scalar x.number hit.low hit.high a hit.reached ready.sound.memory.placed
      (subst (λ sh. is_true sh store.blocks (pointee_of s.text.layout t) x.number hit.low hit.high ≡ true) ready.shapes hit.true_there)

  pub hit_struct : (t : CType) (tag : ℕ) → out-CType (element_of t) ≡ CType-F.Struct tag → (access : Access) (x : Value) (a : ℕ) → IsHit s store t access x a → IsWholeElement store.blocks (element_of t) a
  hit_struct t tag form access x a hit =
      let there = subst (λ sh. is_true sh store.blocks (pointee_of s.text.layout t) x.number hit.low hit.high ≡ true) ready.shapes hit.true_there in
      whole_element s.text store.blocks (pointee_of s.text.layout t) refl tag form
      (struct_bare s.text (shapes_elaborated s.text.layout) store.blocks (pointee_of s.text.layout t) x.number hit.low hit.high tag form ready.sound.memory.placed there)
      x.number hit.low hit.high a hit.reached (shapes_elaborated s.text.layout) (are_members s.text.layout ready.names) ready.sound.memory.placed there
