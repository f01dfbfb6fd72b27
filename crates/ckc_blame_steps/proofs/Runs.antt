-- A static object that is declared with bounds is one that pointers with known limits do not point into.
use Rattle.std.proofs.Common.{◌≡◌, ◌∙◌, ◌⊎◌, inl, inr, sym, ap, refl, ℕ, false}
use Rattle.std.specs.Prelude.{Option, Some, None, is_none, slice_get}
use Rattle.std.specs.List.{flat_map}
use Rattle.ckc_syntax.specs.declared.tree.Name.TheVariants as name
use Rattle.ckc_typed.specs.declared.typed.Typed.{Typed}
use Rattle.ckc_typed.specs.Trees.{NotedDecl, NotedLimits}
use Rattle.ckc_source.specs.declared.program.Object.{Object}
use Rattle.ckc_build_values.specs.Names.{limits_declared}
use Rattle.ckc_build_elaborate.specs.Objects.{run_in, object_elaborated, objects_elaborated}
use Rattle.ckc_blame_sound.specs.JudgedTexts.{IsJudged}
use Rattle.ckc_blame_steps.proofs.Statics.{decls, limits_found, limits_of, named, index_of, beside_at}
use Rattle.ckc_blame_steps.proofs.Told.{are_statics, has_object, runs_at, from_zero}
use Rattle.ckc_blame_given.specs.Targets.{KeepRunsFree}

module _ (p : Typed) (j : IsJudged p) where
  abbrev IsShut : ℕ → Type 0
  IsShut k = (o : Object) × (slice_get (objects_elaborated p) k ≡ Some o) × (o.is_run ≡ false)

  -- the object of a declaration with bounds
  shut : (k : ℕ) (d : NotedDecl) (l : NotedLimits) → slice_get (decls p.tree.items) k ≡ Some d → d.bounds ≡ Some l → IsShut k
  shut k d l at is =
      let o = has_object p j k d at in (
        object_elaborated p.layout (Some (is_none d.bounds)) o.object,
        beside_at (object_elaborated p.layout) (flat_map run_in p.tree.items) p.statics k (is_none d.bounds) o.object (runs_at p j k d at) o.there,
        ap (λ b. is_none b) is,
      )

  by_limits : (k : ℕ) (b : Option NotedLimits) → limits_declared p (name.Static k) ≡ b → (limits_declared p (name.Static k) ≡ None) ⊎ IsShut k
  by_limits k None e = inl e
  by_limits k (Some l) e = by (named (name.Static k) (decls p.tree.items)) refl (sym (limits_found (name.Static k) p.tree.items) ∙ e)
    where
      by : (d : Option NotedDecl) → named (name.Static k) (decls p.tree.items) ≡ d → limits_of d ≡ Some l → (limits_declared p (name.Static k) ≡ None) ⊎ IsShut k
      by None g h = absurd cc
      by (Some d) g h =
          let i = index_of (decls p.tree.items) 0 k d (are_statics p j) g in
          inr (shut k d l (ap (slice_get (decls p.tree.items)) (i.1 ∙ from_zero i.0) ∙ i.2) h)

pub runs_free : (p : Typed) → IsJudged p → KeepRunsFree p
runs_free p j k = by_limits p j k (limits_declared p (name.Static k)) refl
