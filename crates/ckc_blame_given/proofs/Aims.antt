-- Each target that is covered comes to a place.
use Rattle.std.proofs.Common.{◌≡◌, ◌⊎◌, refl, sym, ap, subst, ◌∙◌, ℕ, Bool, true, false, List, arith}
use Rattle.std.specs.Prelude.{◌+◌, ◌==◌, ◌<◌, ◌^◌, if◌then◌else◌, length, slice_index, unwrap_or, ℤ, pos, negsuc, Option, None, Some, Result, Ok, Err}
use Rattle.std.proofs.lemmas.Bool.{eqb-true}
use Rattle.ckc_base.specs.declared.arithmetic.Mode.{Mode}
use Rattle.ckc_base.specs.declared.places.Pos.{Pos}
use Rattle.ckc_types.specs.declared.types.CType.{CType, CType-F, out-CType}
use Rattle.ckc_linear.specs.declared.forms.Base.TheVariants as base
use Rattle.ckc_syntax.specs.declared.tree.Name.{Name}
use Rattle.ckc_syntax.specs.declared.tree.Name.TheVariants as name
use Rattle.ckc_syntax.specs.declared.tree.TreeOp.TheVariants as op
use Rattle.ckc_syntax.specs.declared.tree.Node.{Node-F, out-Node}
use Rattle.ckc_typed.specs.declared.environment.Globals.{Globals}
use Rattle.ckc_typed.specs.declared.typed.Note.{Note}
use Rattle.ckc_typed.specs.declared.typed.Range.{Range}
use Rattle.ckc_typed.specs.declared.typed.Range.TheVariants as range
use Rattle.ckc_typed.specs.Layouts.{member_number}
use Rattle.ckc_typed.specs.Operands.{dot_type}
use Rattle.ckc_typed.specs.Statics.{strings_of_expr}
use Rattle.ckc_typed.specs.Trees.{NotedExpr, NotedLayer}
use Rattle.ckc_typed.specs.Types.{is_scalar, element_of}
use Rattle.ckc_blame_sound.specs.ckc_bounds_declared.specs.Written.{bounds_by_type}
use Rattle.ckc_blame_sound.specs.ckc_bounds_views.specs.declared.variables.Member.{Member}
use Rattle.ckc_blame_sound.specs.ckc_bounds_views.specs.Fresh.{member_in, member_of_node}
use Rattle.ckc_blame_sound.specs.ckc_bounds_views.specs.Parts.{View}
use Rattle.ckc_blame_sound.specs.ckc_bounds_views.specs.Views.{view}
use Rattle.ckc_blame_sound.specs.ckc_bounds_statements.specs.Paths.{Here}
use Rattle.ckc_blame_sound.specs.ckc_bounds_stores.specs.Stores.{Placed}
use Rattle.ckc_blame_sound.specs.ckc_bounds_stores.specs.Targets.{local_in, local_of, written_in, bounds_by, memory_bounds}
use Rattle.ckc_source.specs.declared.expr.Access.{Access}
use Rattle.ckc_source.specs.declared.outcome.Halt.{Halt}
use Rattle.ckc_source.specs.declared.outcome.Halt.TheVariants as halt
use Rattle.ckc_source.specs.declared.outcome.Range.TheVariants.{Within, Without}
use Rattle.ckc_source.specs.declared.outcome.Place.{Place}
use Rattle.ckc_source.specs.declared.outcome.Place.TheVariants as place
use Rattle.ckc_source.specs.declared.outcome.Value.{Value}
use Rattle.ckc_source.specs.Eval.{Store, reads_within, evaluated}
use Rattle.ckc_source.specs.Runs.{is_true}
use Rattle.ckc_source.specs.Steps.{aimed, aims_at}
use Rattle.ckc_build_values.specs.Kinds.{width_of, pointee_of, tag_in, tag_of}
use Rattle.ckc_build_values.specs.Members.{offset_of}
use Rattle.ckc_build_values.specs.Names.{address_of}
use Rattle.ckc_build_values.specs.Places.{object_place, target_place, member_place}
use Rattle.ckc_build_values.specs.Expressions.{Part, part_of, local_in as local_value}
use Rattle.ckc_build_elaborate.specs.Steps.{memory, target_form, target_of}
use Rattle.ckc_blame_sound.specs.Bodies.{AreFresh}
use Rattle.ckc_blame_sound.specs.Points.{HoldsAt}
use Rattle.ckc_blame_sound.specs.Settings.{Setting, AreStrings}
use Rattle.ckc_blame_sound.specs.Cells.{IsPart}
use Rattle.ckc_blame_sound.specs.Typed.{HasRow, IsTyped, Agrees}
use Rattle.ckc_blame_sound.proofs.Judging.{judged_typed}
use Rattle.ckc_blame_sound.proofs.SameViews.{same_view}
use Rattle.ckc_blame_pointers.specs.Covered.{DeclareLocals, IsInScope, IsSoundStore, IsCovered}
use Rattle.ckc_blame_pointers.specs.Owed.{Comes}
use Rattle.ckc_blame_pointers.proofs.Inside.{one_part}
use Rattle.ckc_blame_pointers.proofs.Members.{member_behind}
use Rattle.ckc_blame_pointers.proofs.Strings.{strings_in_node}
use Rattle.ckc_blame_pointers.proofs.Structures.{IsWholeElement}
use Rattle.ckc_blame_sound.proofs.Accesses.{scalar_part}
use Rattle.ckc_blame_given.specs.Planned.{IsTarget, IsLocalTarget}
use Rattle.ckc_blame_given.specs.Targets.{KeepRunsFree, IsStaticTarget, IsThrough, IsMemberNamed, IsCoveredPlace, IsCoveredTarget, pointed_by, placed_by, begin_in, begin_of, LiesIn, GoesThere, IsAimed}
use Rattle.ckc_blame_given.proofs.Hits.{IsHit}
use Rattle.ckc_blame_given.proofs.Layers.{viewed, view_is, part_is, part_by, strings_are, dot_every, DotEvery}
use Rattle.ckc_blame_given.proofs.Places.{Goes, IsIn, Lies, allowed_is, member_struct, scalar_target, struct_target, hit_goes, hit_scalar, hit_struct}
use Rattle.ckc_blame_given.proofs.Pointers.{viewed_type, parted_type, node_is, node_room, node_judged_at, row_at, parts_at, behind_aims, deref_aims, index_aims}
use Rattle.ckc_blame_pointers.proofs.Reached.{IsElementReached, IsRunReached}
use Rattle.ckc_blame_given.proofs.Statics.{static_aims, static_member_aims}

module _ (mode : Mode) (globals : Globals) (s : Setting) (agrees : Agrees globals s) (declares : DeclareLocals s) (store : Store) (entry : List ℕ) (next : ℕ) (ready : IsSoundStore s store next) (here : Here) (h : HoldsAt s store entry here)
    (fresh : ℕ) (are : AreFresh s.frame fresh) (free : KeepRunsFree s.text) (p : Placed) (scalar : is_scalar p.target.note.ctype ≡ true) (typed : IsTyped globals s p.target)
    (room : fresh + length ((view s.frame p.target).fresh here.at) < 2 ^ 32) (judged : (view s.frame p.target).judged fresh here.at ≡ Ok p.target) (k : ℕ) where
  abbrev e : NotedExpr
  e = p.target

  abbrev t : CType
  t = p.target.note.ctype

  abbrev Gone : Place → Type 0
  Gone = Goes s store next ready p

  abbrev Sent : NotedLayer → Type 0
  Sent x = Comes mode Gone (aimed store (target_form t ((part_by e x).place s.text s.variables k) x))

  module _ (x : NotedLayer) (out : out-Node Name Note e.node ≡ x) where
    local_is : local_of e ≡ local_in x
    local_is = ap local_in out

    member_is : (view s.frame e).member ≡ member_of_node (viewed s.frame x)
    member_is = ap (λ (v : View). v.member) (view_is s.frame e) ∙ ap (λ x. member_of_node (viewed s.frame x)) out

    begin_is : begin_of s.text store.locals e ≡ begin_in s.text store.locals x
    begin_is = ap (begin_in s.text store.locals) out

    bounds_are : member_of_node (viewed s.frame x) ≡ None → written_in s.frame x ≡ None → memory_bounds s.frame e ≡ bounds_by_type (base.Value 0) t
    bounds_are none bare = ap (bounds_by s.frame e) (member_is ∙ none) ∙ ap (λ o. unwrap_or o (bounds_by_type (base.Value 0) t)) (ap (written_in s.frame) out ∙ bare)

    -- what has no begin that is known
    no_begin : begin_in s.text store.locals x ≡ None → (to : Place) → LiesIn s (begin_of s.text store.locals e) (view s.frame e).member to
    no_begin none to = subst (λ o. LiesIn s o (view s.frame e).member to) (sym (begin_is ∙ none)) tt

  -- ---- names

  local_goes : (j : ℕ) → out-Node Name Note e.node ≡ Node-F.Name (name.Local j) → IsInScope s here.seen j → Gone (place.Local j (width_of t))
  local_goes j out c n w small is =
      subst (λ w. GoesThere s store p n w) (allowed_is (place.Local j (width_of t)) w n is) (record {
        target = subst (λ o. IsTarget s store p o (place.Local j (width_of t))) (sym (local_is (Node-F.Name (name.Local j)) out)) whole;
        written = tt;
        lies = no_begin (Node-F.Name (name.Local j)) out refl (place.Local j (width_of t));
      })
    where
      same : t ≡ c.local.ctype
      same = sym (agrees.locals j c.local t c.there (row_at globals s agrees declares store entry next ready here h fresh are e typed (Node-F.Name (name.Local j)) out).row)

      whole : IsLocalTarget s p j (place.Local j (width_of t))
      whole = record { local = c.local; there = c.there; same = same; goes = ap (λ u. place.Local j (width_of u)) same }

  static_goes : (j : ℕ) → out-Node Name Note e.node ≡ Node-F.Name (name.Static j) → IsStaticTarget s e j → Sent (Node-F.Name (name.Static j))
  static_goes j out c =
      let x = Node-F.Name (name.Static j) in
      static_aims s store next ready mode p (local_is x out) e.pos j c.object scalar (member_is x out) c.counts
      (λ z. no_begin x out refl (place.Memory (address_of s.text j + 0) (width_of t) z))

  -- ---- what `*` and `[` reach

  scalar_goes : (x : NotedLayer) → out-Node Name Note e.node ≡ x → local_in x ≡ None → member_of_node (viewed s.frame x) ≡ None → written_in s.frame x ≡ None → begin_in s.text store.locals x ≡ None
      → (u : CType) → element_of u ≡ t → (access : Access) → access.offset ≡ 0 → (v : Value) (a : ℕ) → IsHit s store u access v a → Comes mode Gone (aims_at store (width_of t) access v.range a)
  scalar_goes x out no_local none bare no_start u is access at v a hit =
      hit_goes s store next ready p mode (local_is x out ∙ no_local) u access v a hit
      (subst (λ o. IsPart s.text.layout (element_of u) o (width_of t)) (sym at) (subst (λ q. IsPart s.text.layout q 0 (width_of t)) (sym is) (scalar_part s.text.layout t scalar)))
      (subst (λ o. IsIn s store next ready p (a + o)) (sym at)
      (scalar_target s store next ready p free scalar (bounds_are x out none bare) (member_is x out ∙ none) a
      (subst (λ q. IsElementReached store.blocks q a ⊎ IsRunReached s.text.layout store.blocks q a) is
      (hit_scalar s store next ready p u access v a hit (subst (λ q. is_scalar q ≡ true) (sym is) scalar)))))
      (λ z. no_begin x out no_start (place.Memory (a + access.offset) (width_of t) z))

  -- ---- members

  module _ (u : CType) (n : Name) (m : IsMemberNamed s u t n) where
    abbrev form : (tag : ℕ) × (out-CType u ≡ CType-F.Struct tag)
    form = member_struct s.text.layout u m.number t (subst (λ n. dot_type s.text.layout u n ≡ Some t) m.named m.there)

    abbrev member : Member
    member = record { tag = form.0; number = m.number }

    named_there : dot_type s.text.layout u (name.Member m.number) ≡ Some t
    named_there = subst (λ n. dot_type s.text.layout u n ≡ Some t) m.named m.there

    abbrev offset : ℕ
    offset = 0 + offset_of s.text.layout (tag_of u) (member_number n)

    offset_is : offset ≡ offset_of s.text.layout member.tag member.number
    offset_is =
        none (offset_of s.text.layout (tag_of u) (member_number n)) ∙ ap (λ f. offset_of s.text.layout (tag_in f) (member_number n)) form.1
        ∙ ap (λ n. offset_of s.text.layout form.0 (member_number n)) m.named
      where
        none : (o : ℕ) → 0 + o ≡ o
        none o = omega arith

    part : IsPart s.text.layout u offset (width_of t)
    part = member_behind s.text.layout u n t m.number m.named m.there

    found : (w : CType) → w ≡ u → member_in n (out-CType w) ≡ Some member
    found w is = ap (λ w. member_in n (out-CType w)) is ∙ ap (member_in n) form.1 ∙ ap (λ n. member_in n (CType-F.Struct form.0)) m.named

    -- a member of the structure that begins there
    lies_there : (view s.frame e).member ≡ Some member → (a : ℕ) → ((b : ℕ) → begin_of s.text store.locals e ≡ Some b → a ≡ b) → Lies s store next ready p (a + offset)
    lies_there is a first z = subst (λ o. LiesIn s (begin_of s.text store.locals e) o (place.Memory (a + offset) (width_of t) z)) (sym is) (by (begin_of s.text store.locals e) (λ b e. first b e))
      where
        by : (o : Option ℕ) → ((b : ℕ) → o ≡ Some b → a ≡ b) → LiesIn s o (Some member) (place.Memory (a + offset) (width_of t) z)
        by None first = tt
        by (Some b) first = ap (λ x. x + offset) (first b refl) ∙ ap (λ o. b + o) offset_is

    struct_goes : local_of e ≡ None → (view s.frame e).member ≡ Some member → (r : CType) → element_of r ≡ u → (access : Access) → access.offset ≡ offset → (v : Value) (a : ℕ) → IsHit s store r access v a
        → ((b : ℕ) → begin_of s.text store.locals e ≡ Some b → a ≡ b) → Comes mode Gone (aims_at store (width_of t) access v.range a)
    struct_goes no_local found_there r is access at v a hit first =
        hit_goes s store next ready p mode no_local r access v a hit
        (subst (λ o. IsPart s.text.layout (element_of r) o (width_of t)) (sym at) (subst (λ q. IsPart s.text.layout q offset (width_of t)) (sym is) part))
        (subst (λ o. IsIn s store next ready p (a + o)) (sym at)
        (struct_target s store next ready p u member found_there form.1 named_there a
        (subst (λ q. IsWholeElement store.blocks q a) is (hit_struct s store next ready p r form.0 (ap out-CType is ∙ form.1) access v a hit)) offset offset_is))
        (subst (λ o. Lies s store next ready p (a + o)) (sym at) (lies_there found_there a first))

  -- where a local points that is a pointer
  pointed_there : (f : NotedExpr) (y : NotedLayer) → out-Node Name Note f.node ≡ y → (v : Value) → evaluated store ((part_of f).value s.text s.variables k) ≡ Ok v → (b : ℕ) → pointed_by store.locals y ≡ Some b → v.number ≡ b
  pointed_there f (Node-F.Name (name.Local j)) out v is b e =
      let same : slice_index store.locals j ≡ b = cc in
      by f.note.range (sym (ap (λ (q : Part). evaluated store (q.value s.text s.variables k)) (part_is f ∙ ap (part_by f) out)) ∙ is) ∙ same
    where
      word : ℕ
      word = slice_index store.locals j

      by_null : (q : Bool) (r : Result Value Halt) → ((v : Value) → r ≡ Ok v → v.number ≡ word) → (word == 0) ≡ q → (if q then Ok (record { number = 0; range = Without }) else r) ≡ Ok v → v.number ≡ word
      by_null true r other z is = let none : 0 ≡ v.number = cc in sym none ∙ sym (eqb-true word 0 z)
      by_null false r other z is = other v is

      by_within : (low high : ℤ) (v : Value) → reads_within store.shapes store.blocks (pointee_of s.text.layout f.note.ctype) word low high ≡ Ok v → v.number ≡ word
      by_within (pos low) (pos high) v is = by_true (is_true store.shapes store.blocks (pointee_of s.text.layout f.note.ctype) word low high) is
        where
          by_true : (q : Bool) → (if q then Ok (record { number = word; range = Within low high }) else Err halt.Stuck) ≡ Ok v → v.number ≡ word
          by_true true is = let same : word ≡ v.number = cc in sym same
          by_true false is = absurd (cc)
      by_within (pos low) (negsuc high) v is = absurd (cc)
      by_within (negsuc low) high v is = absurd (cc)

      by : (r : Range) → evaluated store (local_value s.text s.variables f.note.ctype j r) ≡ Ok v → v.number ≡ word
      by range.Missing is = let same : word ≡ v.number = cc in sym same
      by range.Any is = let same : word ≡ v.number = cc in sym same
      by (range.Known low high) is =
          by_null (word == 0) (reads_within store.shapes store.blocks (pointee_of s.text.layout f.note.ctype) word _ _) (λ v is. by_within _ _ v is) refl is
  pointed_there f y out v is b e = absurd (cc)

  arrow_goes : (f : NotedExpr) (n : Name) (at : Pos) → out-Node Name Note e.node ≡ Node-F.Arrow f n at → IsCovered mode s store here.seen f → AreStrings s k (strings_of_expr f) → IsThrough s f → IsMemberNamed s (element_of f.note.ctype) t n → Sent (Node-F.Arrow f n at)
  arrow_goes f n at out covered strings through m =
      let x = Node-F.Arrow f n at in
      let j = node_judged_at globals s agrees declares store entry next ready here h fresh are e judged x out in
      subst Of (sym (parted_type f))
      (behind_aims globals s agrees declares store entry next ready here h fresh are mode Gone (width_of t) (offset (element_of f.note.ctype) n m) k f
      (parts_at globals s agrees declares store entry next ready here h fresh are e typed x out) covered strings through (node_room globals s agrees declares store entry next ready here h fresh are e room x out)
      (one_part (λ a. Node-F.Arrow a n at) (λ a b e. cc) _ f (j.node ∙ ap Ok (node_is e x out))) e.pos j.fault
      (λ v is a first access lies hit.
      struct_goes (element_of f.note.ctype) n m (local_is x out) (member_is x out ∙ found (element_of f.note.ctype) n m (element_of (view s.frame f).ctype) (ap element_of (viewed_type s f))) f.note.ctype refl access lies v a hit
      (λ b begins. first ∙ pointed_there f (out-Node Name Note f.node) refl v is b (sym (begin_is x out) ∙ begins))))
    where
      Of : CType → Type 0
      Of u = Comes mode Gone (aimed store (memory t (member_place s.text.layout (tag_of (element_of u)) n (target_place s.text.layout u e.pos ((part_of f).value s.text s.variables k)))))

  dot_goes : (f : NotedExpr) (n : Name) (at : Pos) → out-Node Name Note e.node ≡ Node-F.Dot f n at → IsCoveredPlace mode s store here.seen f.note.ctype (out-Node Name Note f.node)
      → AreStrings s k (strings_of_expr f) → IsMemberNamed s f.note.ctype t n → Sent (Node-F.Dot f n at)
  dot_goes f n at out covered strings m =
      subst (λ (q : Part). Comes mode Gone (aimed store (memory t (member_place s.text.layout (tag_of q.ctype) n (q.place s.text s.variables k))))) (sym (part_is f))
      (by (out-Node Name Note f.node) refl covered (subst (AreStrings s k) (strings_are f) strings))
    where
      x : NotedLayer
      x = Node-F.Dot f n at

      typed_there : IsTyped globals s f
      typed_there = subst (DotEvery (HasRow globals s)) out (dot_every (HasRow globals s) e typed)

      room_there : fresh + length ((view s.frame f).fresh here.at) < 2 ^ 32
      room_there = node_room globals s agrees declares store entry next ready here h fresh are e room (Node-F.Dot f n at) out

      judged_there : (view s.frame f).judged fresh here.at ≡ Ok f
      judged_there =
          let j = node_judged_at globals s agrees declares store entry next ready here h fresh are e judged (Node-F.Dot f n at) out in
          one_part (λ a. Node-F.Dot a n at) (λ a b e. cc) _ f (j.node ∙ ap Ok (node_is e (Node-F.Dot f n at) out))

      found_there : (view s.frame e).member ≡ Some (member f.note.ctype n m)
      found_there = member_is (Node-F.Dot f n at) out ∙ found f.note.ctype n m (view s.frame f).ctype (viewed_type s f)

      goes : placed_by s.text (out-Node Name Note f.node) ≡ None → (r : CType) → element_of r ≡ f.note.ctype → (access : Access) → access.offset ≡ offset f.note.ctype n m → (v : Value) (a : ℕ) → IsHit s store r access v a
          → Comes mode Gone (aims_at store (width_of t) access v.range a)
      goes none r is access lies v a hit =
          struct_goes f.note.ctype n m (local_is (Node-F.Dot f n at) out) found_there r is access lies v a hit
          (λ b begins. let no : None ≡ Some b = sym none ∙ sym (begin_is (Node-F.Dot f n at) out) ∙ begins in absurd (cc))

      by : (y : NotedLayer) → out-Node Name Note f.node ≡ y → IsCoveredPlace mode s store here.seen f.note.ctype y → AreStrings s k (strings_in_node y)
          → Comes mode Gone (aimed store (memory t (member_place s.text.layout (tag_of f.note.ctype) n ((part_by f y).place s.text s.variables k))))
      by (Node-F.Name (name.Static j)) out_f c strings =
          static_member_aims s store next ready mode p (local_is (Node-F.Dot f n at) out) e.pos j f.note.ctype c (member f.note.ctype n m) found_there (form f.note.ctype n m).1 (named_there f.note.ctype n m)
          (offset f.note.ctype n m) (offset_is f.note.ctype n m) (part f.note.ctype n m) (record (object_place s.text f.note.ctype f.pos j).access { offset = offset f.note.ctype n m }) refl
          (lies_there f.note.ctype n m found_there (address_of s.text j)
          (λ b begins. let same : Some (address_of s.text j) ≡ Some b = sym (ap (placed_by s.text) out_f) ∙ sym (begin_is (Node-F.Dot f n at) out) ∙ begins in cc))
      by (Node-F.Un op.Deref g) out_f c strings =
          deref_aims globals s agrees declares store entry next ready here h fresh are mode Gone (width_of t) (offset f.note.ctype n m) k f typed_there room_there judged_there (goes (ap (placed_by s.text) out_f)) g out_f c.0 strings c.1
      by (Node-F.Index g i) out_f c strings =
          index_aims globals s agrees declares store entry next ready here h fresh are mode Gone (width_of t) (offset f.note.ctype n m) k f typed_there room_there judged_there (goes (ap (placed_by s.text) out_f)) g i out_f c.0 c.1 strings c.2
      by y out_f c strings = absurd (c)

  -- ---- all of them

  each : (x : NotedLayer) → out-Node Name Note e.node ≡ x → IsCoveredTarget mode s store here.seen e x → AreStrings s k (strings_in_node x) → Sent x
  each (Node-F.Name (name.Local j)) out c strings = local_goes j out c
  each (Node-F.Name (name.Static j)) out c strings = static_goes j out c
  each (Node-F.Un op.Deref f) out c strings =
      deref_aims globals s agrees declares store entry next ready here h fresh are mode Gone (width_of t) 0 k e typed room judged (scalar_goes (Node-F.Un op.Deref f) out refl refl refl refl) f out c.0 strings c.1
  each (Node-F.Index f g) out c strings =
      index_aims globals s agrees declares store entry next ready here h fresh are mode Gone (width_of t) 0 k e typed room judged (scalar_goes (Node-F.Index f g) out refl refl refl refl) f g out c.0 c.1 strings c.2
  each (Node-F.Arrow f n at) out c strings = arrow_goes f n at out c.0 strings c.1 c.2
  each (Node-F.Dot f n at) out c strings = dot_goes f n at out c.0 strings c.1
  each x out c strings = absurd c

  pub target_aims : IsCoveredTarget mode s store here.seen e (out-Node Name Note e.node) → AreStrings s k (strings_of_expr e) → IsAimed mode s store p (aimed store (target_of s.text s.variables k e))
  target_aims c strings =
      subst (λ (q : Part). Comes mode Gone (aimed store (target_form t (q.place s.text s.variables k) (out-Node Name Note e.node)))) (sym (part_is e))
      (each (out-Node Name Note e.node) refl c (subst (AreStrings s k) (strings_are e) strings))

module _ (mode : Mode) (globals : Globals) (s : Setting) (agrees : Agrees globals s) (declares : DeclareLocals s) (store : Store) (entry : List ℕ) (next : ℕ) (ready : IsSoundStore s store next) (here : Here) (free : KeepRunsFree s.text) where
  -- the target that has been judged is judged as it was
  pub judged_aims : (before : NotedExpr) (p : Placed) (fresh literals : ℕ) → fresh + length ((view s.frame before).fresh here.at) < 2 ^ 32 → AreFresh s.frame fresh → IsTyped globals s before → (view s.frame before).judged fresh here.at ≡ Ok p.target
      → is_scalar p.target.note.ctype ≡ true → IsCoveredTarget mode s store here.seen p.target (out-Node Name Note p.target.node) → AreStrings s literals (strings_of_expr p.target) → HoldsAt s store entry here
      → IsAimed mode s store p (aimed store (target_of s.text s.variables literals p.target))
  judged_aims before p fresh literals little are typed is scalar covered strings h =
      let same : view s.frame p.target ≡ view s.frame before = same_view s.frame before p.target fresh here.at is s.frame in
      let good : IsTyped globals s p.target = (judged_typed globals s before p.target fresh here.at typed is).0 in
      target_aims mode globals s agrees declares store entry next ready here h fresh are free p scalar good (subst (λ (v : View). fresh + length (v.fresh here.at) < 2 ^ 32) (sym same) little) (subst (λ (v : View). v.judged fresh here.at ≡ Ok p.target) (sym same) is) literals covered strings
