-- The block of a static object, and the members that pointers with known limits may point to.
use Rattle.std.proofs.Common.{◌≡◌, ℕ, zero, suc, ◌+◌, ◌<◌, List, [], ◌∷◌, ◌++◌, refl, sym, ◌∙◌, ap, subst, arith}
use Rattle.std.specs.Prelude.{Bool, true, false, slice_get, Option, Some, None, IfSome, if◌then◌else◌}
use Rattle.std.specs.List.{flat_map}
use Rattle.ckc_base.specs.declared.arithmetic.Width.{Width}
use Rattle.ckc_types.specs.declared.types.MemberShape.{MemberShape}
use Rattle.ckc_types.specs.declared.types.StructShape.{StructShape}
use Rattle.ckc_types.specs.declared.types.Structs.{Structs}
use Rattle.ckc_types.specs.Layout.{members_of, members_in}
use Rattle.ckc_typed.specs.declared.typed.StaticObject.{StaticObject}
use Rattle.ckc_typed.specs.declared.typed.Typed.{Typed}
use Rattle.ckc_source.specs.declared.program.MemberRun.{MemberRun}
use Rattle.ckc_source.specs.declared.program.Object.{Object}
use Rattle.ckc_source.specs.declared.program.Shape.{Shape}
use Rattle.ckc_source.specs.Blocks.{Block, block_of}
use Rattle.ckc_source.specs.Runs.{runs_of}
use Rattle.ckc_build_values.specs.Members.{offset_of}
use Rattle.ckc_build_values.specs.Names.{address_of, address_in}
use Rattle.ckc_build_elaborate.specs.Lists.{beside, numbered}
use Rattle.ckc_build_elaborate.specs.Objects.{object_elaborated, objects_elaborated, run_in}
use Rattle.ckc_build_elaborate.specs.Shapes.{is_run, run_of, shape_of, one, shapes_elaborated}
use Rattle.ckc_blame_sound.specs.Sound.{AreObjects}
use Rattle.ckc_blame_sound.specs.Cells.{IsPart, IsCell, IsMemberRun, AreMembers, HaveOwnNames}
use Rattle.ckc_blame_sound.specs.Limited.{IsElementAt}

-- ---- static objects

pub beside_at : {A B C : Type 0} (f : Option A → B → C) (xs : List A) (ys : List B) (k : ℕ) (y : B) → slice_get ys k ≡ Some y
    → (x : Option A) × (slice_get (beside f xs ys) k ≡ Some (f x y))
beside_at f xs [] k y e = absurd cc
beside_at f [] (z ∷ ys) zero y e = let same : z ≡ y = cc in (None, ap (λ w. Some (f None w)) same)
beside_at {A} f (x ∷ xs) (z ∷ ys) zero y e = let same : z ≡ y = cc in (Some x, ap (λ w. Some (f (Some x) w)) same)
beside_at f [] (z ∷ ys) (suc k) y e = beside_at f [] ys k y e
beside_at f (x ∷ xs) (z ∷ ys) (suc k) y e = beside_at f xs ys k y e

pub object_at : (os : List Object) (bs : List Block) → AreObjects os bs → (k : ℕ) (o : Object) → slice_get os k ≡ Some o
    → (b : Block) × (slice_get bs k ≡ Some b) × (b ≡ record (block_of o) { bytes = b.bytes })
object_at [] bs h k o e = absurd cc
object_at (c ∷ os) [] h k o e = absurd h
object_at (c ∷ os) (b ∷ bs) h zero o e = let same : c ≡ o = cc in (b, refl, subst (λ (x : Object). b ≡ record (block_of x) { bytes = b.bytes }) same h.0)
object_at (c ∷ os) (b ∷ bs) h (suc k) o e = object_at os bs h.1 k o e

pub object_cell : (p : Typed) (bs : List Block) → AreObjects (objects_elaborated p) bs → (k : ℕ) (o : StaticObject) → slice_get p.statics k ≡ Some o
    → o.terminated ≡ false → 0 < o.count → (offset : ℕ) (width : Width) → IsPart p.layout o.element offset width
    → IsCell p.layout bs (address_of p k + offset) width false
object_cell p bs objects k o e plain some offset width part =
    let made = beside_at (object_elaborated p.layout) (flat_map run_in p.tree.items) p.statics k o e in
    let at = object_at (objects_elaborated p) bs objects k (object_elaborated p.layout made.0 o) made.1 in
    let b = at.0 in
    let is = at.2 in
    let base : b.base ≡ o.at = ap (λ (c : Block). c.base) is in
    let count : b.count ≡ o.count = ap (λ (c : Block). c.count) is in
    let element : b.element ≡ o.element = ap (λ (c : Block). c.element) is in
    let terminated : b.terminated ≡ o.terminated = ap (λ (c : Block). c.terminated) is in
    let address : address_of p k ≡ o.at = ap address_in e in
    record {
      number = k;
      block = b;
      there = at.1;
      index = 0;
      below = omega arith;
      offset = offset;
      part = subst (λ t. IsPart p.layout t offset width) (sym element) part;
      address = omega arith;
      ends = λ t. absurd (different (sym (terminated ∙ plain) ∙ t));
    }
  where
    different : false ≡ true → ⊥
    different e = absurd cc

-- the elements of the block of a static object are of its type
pub element_at : (p : Typed) (bs : List Block) → AreObjects (objects_elaborated p) bs → (k : ℕ) (b : Block) → slice_get bs k ≡ Some b → IsElementAt p k b.element
element_at p bs objects k b e = by (slice_get p.statics k) refl
  where
    by : (o : Option StaticObject) → slice_get p.statics k ≡ o → IfSome o (λ x. x.element ≡ b.element)
    by None f = tt
    by (Some o) f =
        let made = beside_at (object_elaborated p.layout) (flat_map run_in p.tree.items) p.statics k o f in
        let at = object_at (objects_elaborated p) bs objects k (object_elaborated p.layout made.0 o) made.1 in
        let same : at.0 ≡ b = cc in
        sym (sym (ap (λ (c : Block). c.element) same) ∙ ap (λ (c : Block). c.element) at.2)

-- ---- members

-- the members of a structure that pointers may point to, where it has this number
abbrev pub made_shape : Structs → ℕ → StructShape → Shape
made_shape structs tag s = record { runs = flat_map (run_of structs tag s.members) s.members }

pub shapes_at : (structs : Structs) (first : ℕ) (shapes : List StructShape) (k : ℕ) (s : StructShape) → slice_get shapes k ≡ Some s
    → slice_get (numbered (shape_of structs) one first shapes) k ≡ Some (made_shape structs (first + k) s)
shapes_at structs first [] k s e = absurd cc
shapes_at structs first (t ∷ shapes) zero s e =
    let same : t ≡ s = cc in
    let number : first ≡ first + 0 = omega arith in
    ap (λ (x : StructShape). Some (made_shape structs first x)) same ∙ ap (λ n. Some (made_shape structs n s)) number
shapes_at structs first (t ∷ shapes) (suc k) s e =
    let number : first + 1 + k ≡ first + suc k = omega arith in
    shapes_at structs (first + 1) shapes k s e ∙ ap (λ n. Some (made_shape structs n s)) number

pub no_shapes : (structs : Structs) (first : ℕ) (shapes : List StructShape) (k : ℕ) → slice_get shapes k ≡ None
    → slice_get (numbered (shape_of structs) one first shapes) k ≡ None
no_shapes structs first [] k e = refl
no_shapes structs first (t ∷ shapes) zero e = absurd cc
no_shapes structs first (t ∷ shapes) (suc k) e = no_shapes structs (first + 1) shapes k e

-- the member that a run is made of, which takes part in no bounds, and those in front of it
pub run_among : (structs : Structs) (tag : ℕ) (all ms : List MemberShape) (k : ℕ) (run : MemberRun)
    → slice_get (flat_map (run_of structs tag all) ms) k ≡ Some run
    → (front : List MemberShape) × (m : MemberShape) × (back : List MemberShape) × (ms ≡ front ++ m ∷ back)
    × (run ≡ record { offset = offset_of structs tag m.name; ctype = m.ctype }) × (is_run all m ≡ true)
run_among structs tag all [] k run e = absurd cc
run_among structs tag all (m ∷ ms) k run e = by (is_run all m) refl k (λ j f. run_among structs tag all ms j run f) e
  where
    by : (here : Bool) → is_run all m ≡ here → (k : ℕ)
        → ((j : ℕ) → slice_get (flat_map (run_of structs tag all) ms) j ≡ Some run
        → (front : List MemberShape) × (n : MemberShape) × (back : List MemberShape) × (ms ≡ front ++ n ∷ back)
        × (run ≡ record { offset = offset_of structs tag n.name; ctype = n.ctype }) × (is_run all n ≡ true))
        → slice_get ((if here then record { offset = offset_of structs tag m.name; ctype = m.ctype } ∷ [] else []) ++ flat_map (run_of structs tag all) ms) k ≡ Some run
        → (front : List MemberShape) × (n : MemberShape) × (back : List MemberShape) × (m ∷ ms ≡ front ++ n ∷ back)
        × (run ≡ record { offset = offset_of structs tag n.name; ctype = n.ctype }) × (is_run all n ≡ true)
    by true is zero later e = ([], m, ms, refl, cc, is)
    by true is (suc k) later e = let r = later k e in (m ∷ r.0, r.1, r.2, ap (λ z. m ∷ z) r.3, r.4, r.5)
    by false is k later e = let r = later k e in (m ∷ r.0, r.1, r.2, ap (λ z. m ∷ z) r.3, r.4, r.5)

pub are_members : (structs : Structs) → HaveOwnNames structs → AreMembers structs (shapes_elaborated structs)
are_members structs own tag k run e = by (slice_get structs.shapes tag) refl
  where
    by : (s : Option StructShape) → slice_get structs.shapes tag ≡ s → IsMemberRun structs tag run
    by None f =
        let none = no_shapes structs 0 structs.shapes tag f in
        absurd (nothing (sym (ap (λ o. slice_get (runs_of o) k) none) ∙ e))
      where
        nothing : None ≡ Some run → ⊥
        nothing h = absurd cc
    by (Some s) f =
        let first : 0 + tag ≡ tag = omega arith in
        let there = shapes_at structs 0 structs.shapes tag s f ∙ ap (λ n. Some (made_shape structs n s)) first in
        let r = run_among structs tag s.members s.members k run (sym (ap (λ o. slice_get (runs_of o) k) there) ∙ e) in
        let split : members_of structs tag ≡ r.0 ++ r.1 ∷ r.2 = ap members_in f ∙ r.3 in
        record {
          front = r.0;
          member = r.1;
          stands = record { back = r.2; split = split; new = own tag r.0 r.2 r.1 split };
          there = ap (λ (x : MemberRun). x.offset) r.4;
          same = ap (λ (x : MemberRun). x.ctype) r.4;
        }
