-- The static objects of a typed text: how they lie, and that each has the number of its name.
use Rattle.std.proofs.Common.{◌≡◌, ◌≤◌, ℕ, zero, suc, ◌+◌, false, nat_lt, List, [], ◌∷◌, ◌++◌, map, Option, None, Some, refl, sym, ap, subst, ◌∙◌, arith}
use Rattle.std.specs.Prelude.{Ok, slice_get, option_map}
use Rattle.std.specs.List.{flat_map}
use Rattle.std.proofs.lemmas.Bool.Decides.{nat_tests}
use Rattle.std.proofs.lemmas.Option.{slice_get-map}
use Rattle.ckc_base.specs.declared.arithmetic.Mode.TheVariants.{Unchecked}
use Rattle.ckc_base.specs.Places.{start}
use Rattle.ckc_base.proofs.Outcomes.{ok_same, made_of, unbroken_is}
use Rattle.ckc_types.specs.declared.types.Structs.{Structs}
use Rattle.ckc_syntax.specs.declared.tree.Name.TheVariants as name
use Rattle.ckc_syntax.specs.declared.tree.NamedText.{NamedText}
use Rattle.ckc_syntax.specs.declared.tree.Item.TheVariants as item
use Rattle.ckc_typed.specs.declared.typed.Typed.{Typed}
use Rattle.ckc_typed.specs.Codes.{late_statics}
use Rattle.ckc_typed.specs.Trees.{NotedItem, NotedDecl}
use Rattle.ckc_typed.specs.Layouts.{structs_of}
use Rattle.ckc_base.specs.MemoryMap.{data_start, statics_end}
use Rattle.ckc_typed.specs.Statics.{blocks, placed, end_of_blocks, object_of, objects_of_item, object_of_string, strings_of_item}
use Rattle.ckc_typed.specs.Texts.{globals_of, items_typed, laid_out, named_typed}
use Rattle.ckc_typing.specs.Objects.{LieApart, objects_declared, AreNumbered}
use Rattle.ckc_typing.proofs.Placed.{eighths, apart, within, first_at, placed_at}

at_most : (a b : ℕ) → nat_lt a b ≡ false → b ≤ a
at_most a b h = grind (arith, nat_tests)

-- the items of a typed text are those of the text with their types, and its objects are their blocks, placed
pub record Laid (t : NamedText) (p : Typed) : Type 0 where
  pub typed : items_typed (globals_of t.tree.items) Unchecked t.tree.items ≡ Ok p.tree.items
  pub layout : p.layout ≡ structs_of t.tree.items
  pub fits : nat_lt statics_end (end_of_blocks p.layout data_start (blocks p.layout p.tree.items)) ≡ false
  pub placed_blocks : p.statics ≡ placed p.layout data_start (blocks p.layout p.tree.items)

pub laid : (t : NamedText) (p : Typed) → named_typed t ≡ Ok p → Laid t p
laid t p e =
    let a = made_of (items_typed (globals_of t.tree.items) Unchecked t.tree.items) _ p e in
    let b = made_of (laid_out (structs_of t.tree.items) a.0) _ p a.2 in
    let k = unbroken_is (nat_lt statics_end (end_of_blocks (structs_of t.tree.items) data_start (blocks (structs_of t.tree.items) a.0))) late_statics start (placed (structs_of t.tree.items) data_start (blocks (structs_of t.tree.items) a.0)) b.0 b.1 in
    subst (Laid t) (ok_same _ p b.2) (record { typed = a.1; layout = refl; fits = k.0; placed_blocks = sym k.1 })

pub lie_apart : (t : NamedText) (p : Typed) → named_typed t ≡ Ok p → LieApart p.layout p.statics
lie_apart t p e =
    let l = laid t p e in
    let os = blocks p.layout p.tree.items in
    subst (LieApart p.layout) (sym l.placed_blocks) (record {
      first = first_at p.layout os;
      eighths = eighths p.layout os data_start;
      apart = apart p.layout os data_start;
      within = within p.layout os data_start statics_end (at_most statics_end (end_of_blocks p.layout data_start os) l.fits);
    })

none_is_some : {A : Type 0} (a : A) → ◌≡◌ {A = Option A} None (Some a) → ⊥
none_is_some a e = cc

some_same : {A : Type 0} (a b : A) → ◌≡◌ {A = Option A} (Some a) (Some b) → a ≡ b
some_same a b e = cc

in_front : {A : Type 0} (xs ys : List A) (k : ℕ) (a : A) → slice_get xs k ≡ Some a → slice_get (xs ++ ys) k ≡ Some a
in_front [] ys k a e = absurd (none_is_some a e)
in_front (x ∷ xs) ys zero a e = e
in_front (x ∷ xs) ys (suc k) a e = in_front xs ys k a e

objects_are : (structs : Structs) (items : List NotedItem) → flat_map (objects_of_item structs) items ≡ map (object_of structs) (objects_declared items)
objects_are structs [] = refl
objects_are structs (item.Directive d ∷ rest) = objects_are structs rest
objects_are structs (item.Tag n at ∷ rest) = objects_are structs rest
objects_are structs (item.Struct n members at ∷ rest) = objects_are structs rest
objects_are structs (item.Static d ∷ rest) = ap (λ os. object_of structs d ∷ os) (objects_are structs rest)
objects_are structs (item.Proto h ∷ rest) = objects_are structs rest
objects_are structs (item.Function h body ∷ rest) = objects_are structs rest

numbered : (n k : ℕ) (ds : List NotedDecl) (d : NotedDecl) → AreNumbered n ds → slice_get ds k ≡ Some d → d.name ≡ name.Static (n + k)
numbered n k [] d a e = absurd (none_is_some d e)
numbered n zero (x ∷ ds) d a e = ap (λ (y : NotedDecl). y.name) (sym (some_same x d e)) ∙ a.0 ∙ ap name.Static (omega arith)
numbered n (suc k) (x ∷ ds) d a e = numbered (suc n) k ds d a.1 e ∙ ap name.Static (omega arith)

block_at : (structs : Structs) (items : List NotedItem) (k : ℕ) (d : NotedDecl) → slice_get (objects_declared items) k ≡ Some d → slice_get (blocks structs items) k ≡ Some (object_of structs d)
block_at structs items k d e =
    in_front (flat_map (objects_of_item structs) items) (map object_of_string (flat_map strings_of_item items)) k (object_of structs d)
    (ap (λ os. slice_get os k) (objects_are structs items) ∙ slice_get-map (object_of structs) (objects_declared items) k ∙ ap (option_map (object_of structs)) e)

pub is_named : (t : NamedText) (p : Typed) → named_typed t ≡ Ok p → AreNumbered 0 (objects_declared p.tree.items) → (k : ℕ) (d : NotedDecl) → slice_get (objects_declared p.tree.items) k ≡ Some d
    → (d.name ≡ name.Static k) × ((at : ℕ) × (slice_get p.statics k ≡ Some (record (object_of p.layout d) { at = at })))
is_named t p e all k d has =
    let l = laid t p e in
    let at = placed_at p.layout (blocks p.layout p.tree.items) data_start k (object_of p.layout d) (block_at p.layout p.tree.items k d has) in
    (numbered 0 k (objects_declared p.tree.items) d all has ∙ ap name.Static (omega arith), (at.0, ap (λ os. slice_get os k) l.placed_blocks ∙ at.1))
