-- A target stays one when blocks are made.
use Rattle.std.proofs.Common.{◌≡◌, sym, subst, ℕ, List, ◌++◌}
use Rattle.std.specs.Prelude.{Option, None, Some, is_some, slice_get}
use Rattle.ckc_blame_sound.specs.ckc_bounds_views.specs.Views.{view}
use Rattle.ckc_blame_sound.specs.ckc_bounds_stores.specs.Stores.{Placed}
use Rattle.ckc_blame_sound.specs.ckc_bounds_stores.specs.Targets.{local_of}
use Rattle.ckc_types.specs.declared.types.Structs.{Structs}
use Rattle.ckc_source.specs.declared.outcome.Place.{Place}
use Rattle.ckc_source.specs.declared.outcome.Place.TheVariants as place
use Rattle.ckc_source.specs.Blocks.{Block}
use Rattle.ckc_source.specs.Eval.{Store}
use Rattle.ckc_blame_sound.specs.Settings.{Setting}
use Rattle.ckc_blame_sound.specs.Writes.{IsCellWrite}
use Rattle.ckc_blame_sound.proofs.Fresh.{get_before, cell_before}
use Rattle.ckc_blame_given.specs.Planned.{IsTarget}
use Rattle.ckc_blame_given.specs.Targets.{begin_of, LiesIn, GoesThere}

-- a write to a number of an element is one when blocks are made
pub written_later : (structs : Structs) (bs more : List Block) (to : Place) (n : ℕ) → IsCellWrite structs bs to n → IsCellWrite structs (bs ++ more) to n
written_later structs bs more place.Nowhere n h = tt
written_later structs bs more (place.Local x width) n h = tt
written_later structs bs more (place.Memory a width z) n h = (cell_before structs bs more a width (is_some z) h.0, h.1, h.2)

module _ (s : Setting) (store after : Store) (more : List Block) (kept : after.blocks ≡ store.blocks ++ more) (same : after.locals ≡ store.locals) (p : Placed) where
  target_later : (o : Option ℕ) (to : Place) → IsTarget s store p o to → IsTarget s after p o to
  target_later (Some k) to t = t
  target_later None to t = record {
    number = t.number;
    index = t.index;
    block = t.block;
    there = subst (λ bs. slice_get bs t.number ≡ Some t.block) (sym kept) (get_before store.blocks more t.number t.block t.there);
    below = t.below;
    part = t.part;
  }

  pub goes_later : (n : ℕ) (w : Place) → GoesThere s store p n w → GoesThere s after p n w
  goes_later n w g = record {
    target = target_later (local_of p.target) w g.target;
    written = subst (λ bs. IsCellWrite s.text.layout bs w n) (sym kept) (written_later s.text.layout store.blocks more w n g.written);
    lies = subst (λ ls. LiesIn s (begin_of s.text ls p.target) (view s.frame p.target).member w) (sym same) g.lies;
  }
