-- The point after assignments that are judged as one holds.
use Rattle.std.proofs.Common.{◌≡◌, inl, inr, refl, sym, ap, subst, ◌∙◌, ℕ, ◌+◌, ◌*◌, List, [], ◌∷◌, length}
use Rattle.std.specs.Prelude.{slice_index, Option, None, Some, Ok}
use Rattle.std.specs.List.{All, Contains, find}
use Rattle.std.proofs.lemmas.List.Elements.{All-nil, All-head, All-tail, All-weaker, All-contains_itself}
use Rattle.ckc_blame_sound.specs.ckc_bounds_points.specs.Frames.{local_at}
use Rattle.ckc_blame_sound.specs.ckc_bounds_points.specs.Flow.{State}
use Rattle.ckc_blame_sound.specs.ckc_bounds_views.specs.declared.variables.Member.{Member}
use Rattle.ckc_blame_sound.specs.ckc_bounds_views.specs.Views.{view}
use Rattle.ckc_blame_sound.specs.ckc_bounds_stores.specs.Targets.{local_of}
use Rattle.ckc_blame_sound.specs.ckc_bounds_stores.specs.Stores.{Placed, assigns_local, after, stored_placed}
use Rattle.ckc_blame_sound.specs.ckc_bounds_statements.specs.Paths.{Here}
use Rattle.ckc_source.specs.declared.outcome.Place.{Place}
use Rattle.ckc_source.specs.declared.program.Shape.{Shape}
use Rattle.ckc_source.specs.Eval.{Store, given}
use Rattle.ckc_source.specs.States as states
use Rattle.ckc_source.specs.Steps.{Write, store_of, writes, all_written}
use Rattle.ckc_blame_sound.specs.Settings.{Setting}
use Rattle.ckc_blame_sound.specs.Values.{AreTrue, HoldWords}
use Rattle.ckc_blame_sound.specs.Points.{AreBounded, HoldsAt}
use Rattle.ckc_blame_sound.specs.Sound.{IsPlaced}
use Rattle.ckc_blame_sound.specs.Valuations.{Valuation, AreFacts, IsValuationOf}
use Rattle.ckc_blame_sound.specs.Ends.{HaveEnds}
use Rattle.ckc_blame_sound.specs.GivenValues.{IsAssigned, AreAssigned, StayTrue}
use Rattle.ckc_blame_sound.proofs.Faults.{Good, good}
use Rattle.ckc_blame_sound.proofs.ContainedLocals.{bounded_after, widened_after}
use Rattle.ckc_blame_given.specs.Planned.{IsMemoryTarget, IsPartTarget, IsTarget, IsPlanned, ArePlanned}
use Rattle.ckc_blame_given.specs.Written.{IsFitting, IsNoLocal, IsWritten, AreWritten}
use Rattle.ckc_blame_given.proofs.Apart.{IsAfter, AreApart}
use Rattle.ckc_blame_given.proofs.Written.{locals_after, length_after, written_locals}
use Rattle.ckc_blame_given.proofs.Facts.{IsOld, words_after, facts_after, after_reached}
use Rattle.ckc_blame_given.proofs.Assigned.{assigned_after, same_kept, none_assigned}

module _ (s : Setting) (old between now : Store) (v : Valuation) (entry : List ℕ) (here there : Here) (ps : List Placed) (ws : List Write) (ends : HaveEnds s) (holds : HoldsAt s old entry here)
    (are : IsValuationOf s old.locals v) (known : AreFacts v here.at.facts) (placed : All (IsPlaced s.text) now.blocks) (apart : AreApart ps)
    (written : AreWritten s between v here.at ps ws) (stored : stored_placed s.frame s.head.bounds here.seen ps here.at ≡ Ok there.at) (seen : there.seen ≡ here.seen)
    (locals : now.locals ≡ locals_after ws old.locals) (stay : StayTrue old now) (write : StayTrue between now) where
  found : Good s.frame s.head.bounds here.seen ps here.at there.at
  found = good s.frame s.head.bounds here.seen ps here.at there.at stored

  assigned : AreAssigned s old now v here.at ps
  assigned k =
      subst (λ xs. IsAssigned s now v here.at (find (assigns_local k) ps) (local_at s.frame k) (slice_index old.locals k) (slice_index xs k)) (sym locals)
      (assigned_after s between now write v here.at ps ws written apart old.locals holds.counted k)

  pub point_after : HoldsAt s now entry there
  point_after = record {
    reached = ap (λ (x : State). x.reached) found.next ∙ after_reached s here.at.facts ps here.at holds.reached;
    counted = ap length locals ∙ length_after ws old.locals ∙ holds.counted;
    words = subst (HoldWords s.frame) (sym locals) (words_after s between v here.at ps ws written old.locals holds.counted holds.words);
    facts =
        subst (λ (x : State). AreTrue s.frame now.locals x.facts) (sym found.next)
        (subst (λ xs. AreTrue s.frame xs (after s.frame here.at.facts ps here.at).facts) (sym locals)
        (facts_after s between old.locals v are here.at known ps ws written apart old.locals here.at holds.reached holds.counted
        (All-weaker (Contains ps) (λ q. IsOld old.locals old.locals q.right) (λ q c j named. refl) ps (All-contains_itself ps)) holds.facts));
    bounded =
        subst (AreBounded s now []) (sym seen)
        (bounded_after s old now v here.seen here.at there.at ps s.head.bounds holds.reached ends are known placed stay assigned holds.bounded holds.widened found);
    widened =
        subst (AreBounded s now there.at.widened) (sym seen)
        (widened_after s old now v here.seen here.at there.at ps s.head.bounds holds.reached ends are known placed stay assigned holds.bounded holds.widened found);
    entered = holds.entered;
    kept = λ k named.
        same_kept s between now write v here.at _ (none_assigned s s.head.bounds here.seen ps here.at there.at found k named) k _ _ (assigned k) ∙ holds.kept k named;
  }

-- ---- what is planned is written

module _ (s : Setting) (old between : Store) (v : Valuation) (at : State) where
  none_local : (to to' : Place) → IsNoLocal to' → to ≡ to' → IsNoLocal to
  none_local to to' h e = subst IsNoLocal (sym e) h

  memory_written : (p : Placed) (to : Place) → IsMemoryTarget s old p to → IsNoLocal to
  memory_written p to h = by (view s.frame p.target).member h.part
    where
      by : (o : Option Member) → IsPartTarget s p h.number h.block (h.block.base + h.index * h.block.size) to o → IsNoLocal to
      by (Some m) part = none_local to _ tt part.goes
      by None (inl part) = none_local to _ tt part.goes
      by None (inr part) = none_local to _ tt part.goes

  planned_written : (p : Placed) (w : Write) → IsPlanned s old between v at p w → IsFitting s p → IsWritten s between v at p (local_of p.target) w
  planned_written p w h fit = by (local_of p.target) refl h.target
    where
      by : (o : Option ℕ) → local_of p.target ≡ o → IsTarget s old p o w.0 → IsWritten s between v at p o w
      by None is t = memory_written p w.0 t
      by (Some k) is t = record {
        local = t.local;
        there = t.there;
        below = fit.below k is;
        same = t.same;
        goes = t.goes;
        received = record { word = h.word; gives = h.from; form = h.form; bare = fit.bare };
      }

  pub all_planned : (ps : List Placed) (ws : List Write) → ArePlanned s old between v at ps ws → All (IsFitting s) ps → AreWritten s between v at ps ws
  unfolding ArePlanned AreWritten
  all_planned [] [] h fit = tt
  all_planned [] (w ∷ ws) h fit = absurd h
  all_planned (p ∷ ps) [] h fit = absurd h
  all_planned (p ∷ ps) (w ∷ ws) h fit =
      (planned_written p w h.0 (All-head (IsFitting s) p ps fit), all_planned ps ws h.1 (All-tail (IsFitting s) p ps fit))

-- ---- one word

pub alone_after : (s : Setting) (shapes : List Shape) (before after : states.State) (v : Valuation) (entry : List ℕ) (here there : Here) (p : Placed) (w : Write) → HaveEnds s
    → HoldsAt s (store_of shapes before) entry here → IsValuationOf s before.frame.locals v → AreFacts v here.at.facts → All (IsPlaced s.text) after.blocks
    → IsWritten s (store_of shapes before) v here.at p (local_of p.target) w → stored_placed s.frame s.head.bounds here.seen (p ∷ []) here.at ≡ Ok there.at → there.seen ≡ here.seen
    → writes w.0 w.1 before ≡ Ok after → StayTrue (store_of shapes before) (store_of shapes after) → HoldsAt s (store_of shapes after) entry there
unfolding AreWritten
alone_after s shapes before after v entry here there p w ends holds are known placed written stored seen done stay =
    point_after s (store_of shapes before) (store_of shapes before) (store_of shapes after) v entry here there (p ∷ []) (w ∷ []) ends holds are known placed (All-nil (IsAfter p), tt) (written, tt)
    stored seen (written_locals (w ∷ []) before after (ap (λ x. given x (all_written [])) done)) stay stay

-- nothing is written
pub same_point : (s : Setting) (store : Store) (entry : List ℕ) (here there : Here) → HoldsAt s store entry here → there.at ≡ here.at → there.seen ≡ here.seen → HoldsAt s store entry there
same_point s store entry here there h at seen = record {
  reached = ap (λ (x : State). x.reached) at ∙ h.reached;
  counted = h.counted;
  words = h.words;
  facts = subst (λ (x : State). AreTrue s.frame store.locals x.facts) (sym at) h.facts;
  bounded = subst (AreBounded s store []) (sym seen) h.bounded;
  widened = subst (λ (x : State). AreBounded s store x.widened there.seen) (sym at) (subst (AreBounded s store here.at.widened) (sym seen) h.widened);
  entered = h.entered;
  kept = h.kept;
}
