-- The claims of a static integer by its name.
use Rattle.std.proofs.Common.{◌≡◌, refl, sym, ap, subst, ◌∙◌, ℕ, List}
use Rattle.std.specs.Prelude.{◌+◌, false, Option, None, Some}
use Rattle.ckc_base.specs.declared.arithmetic.Width.{Width}
use Rattle.ckc_base.specs.declared.places.Pos.{Pos}
use Rattle.ckc_types.specs.declared.types.CType.{CType}
use Rattle.ckc_syntax.specs.declared.tree.Name.TheVariants as name
use Rattle.ckc_syntax.specs.declared.tree.Node.{Node-F}
use Rattle.ckc_blame_sound.specs.ckc_bounds_views.specs.Parts.{NodeView}
use Rattle.ckc_blame_sound.specs.ckc_bounds_views.specs.Views.{node_view}
use Rattle.ckc_blame_sound.specs.ckc_bounds_statements.specs.Paths.{Here}
use Rattle.ckc_source.specs.declared.outcome.Range.TheVariants.{Without}
use Rattle.ckc_source.specs.Blocks.{loaded}
use Rattle.ckc_source.specs.Code.{Load, Number}
use Rattle.ckc_source.specs.Eval.{Store, given_some, loads, place_in, plain, evaluated}
use Rattle.ckc_build_values.specs.Expressions.{static_in}
use Rattle.ckc_build_values.specs.Kinds.{width_of}
use Rattle.ckc_build_values.specs.Names.{address_of, array_in, array_of}
use Rattle.ckc_build_values.specs.Places.{object_place, read_at}
use Rattle.ckc_blame_sound.specs.Settings.{Setting}
use Rattle.ckc_blame_sound.specs.Points.{HoldsAt}
use Rattle.ckc_blame_sound.proofs.Types.{no_pointer}
use Rattle.ckc_blame_sound.specs.Cells.{IsCell, IsPart}
use Rattle.ckc_blame_sound.proofs.Apart.{cell_there, cell_address}
use Rattle.ckc_blame_sound.proofs.Objects.{object_cell}
use Rattle.ckc_blame_sound.proofs.Reached.{place_is}
use Rattle.ckc_blame_sound.proofs.Stores.{load_goes}
use Rattle.ckc_blame_pointers.specs.Covered.{IsSoundStore, IsStaticInteger}
use Rattle.ckc_blame_pointers.specs.Meant.{IsNotStuck}
use Rattle.ckc_blame_pointers.proofs.Claims.{nothing_read}
use Rattle.ckc_blame_pointers.proofs.Loads.{loaded_in, word_loaded, integer_part}
use Rattle.ckc_blame_pointers.proofs.Nodes.{NodeClaims, quiet_claims}

module _ (s : Setting) (store : Store) (entry : List ℕ) (next : ℕ) (ready : IsSoundStore s store next) (here : Here) (h : HoldsAt s store entry here) where
  pub static_claims : (t : CType) (k : ℕ) → IsStaticInteger s t k → (place : Pos)
      → IsNotStuck (NodeClaims s store entry here h t (node_view s.frame (Node-F.Name (name.Static k)))) (evaluated store (static_in s.text t place k (array_of s.text k)))
  static_claims t k c place = subst (λ x. IsNotStuck (NodeClaims s store entry here h t node) (evaluated store x)) (sym become) comes
    where
      node : NodeView
      node = node_view s.frame (Node-F.Name (name.Static k))

      width : Width
      width = width_of t

      become : static_in s.text t place k (array_of s.text k) ≡ Load width (object_place s.text t place k).access (Number (address_of s.text k)) (Number 0)
      become =
          ap (static_in s.text t place k) (ap array_in c.there ∙ c.single) ∙ ap (λ n. read_at s.text.layout t n (object_place s.text t place k)) c.bare

      cell : IsCell s.text.layout store.blocks (address_of s.text k + 0) width false
      cell = object_cell s.text store.blocks ready.sound.memory.objects k c.object c.there c.plain c.some 0 width
          (subst (λ u. IsPart s.text.layout u 0 width) (sym c.element) (integer_part s.text.layout t c.integer))

      there : (m : ℕ) × (loaded width (address_of s.text k + 0) store.blocks ≡ Some m)
      there = load_goes width (address_of s.text k + 0) store.blocks (cell_there s.text store.blocks ready.sound.memory.placed (address_of s.text k + 0) width false cell)

      by : (o : Option ℕ) → loaded width (address_of s.text k + 0) store.blocks ≡ o → IsNotStuck (NodeClaims s store entry here h t node) (given_some o plain)
      by (Some m) e =
          quiet_claims s store entry here h t node (no_pointer t c.integer) refl refl refl (λ b. nothing_read s store entry (λ facts. None) b here.at) (record { number = m; range = Without })
          (word_loaded t m (loaded_in width (address_of s.text k + 0) store.blocks ready.sound.bytes m e))
      by None e = let got : loaded width (address_of s.text k + 0) store.blocks ≡ Some there.0 = there.1 in absurd (cc)

      comes : IsNotStuck (NodeClaims s store entry here h t node) (loads store width (place_in (address_of s.text k) 0))
      comes =
          subst (λ x. IsNotStuck (NodeClaims s store entry here h t node) (loads store width x))
          (sym (place_is (address_of s.text k) 0 width (cell_address s.text store.blocks ready.sound.memory.placed (address_of s.text k + 0) width false cell).1))
          (by (loaded width (address_of s.text k + 0) store.blocks) refl)
