-- Blocks, by the list of their statements.
use Rattle.std.proofs.Common.{◌≡◌, ◌∙◌, List, map, length, sym, ap, rules}
use Rattle.std.specs.Prelude.{Option, Ok, Err, Result}
use Rattle.ckc_base.specs.declared.places.Pos.{Pos}
use Rattle.ckc_base.specs.declared.arithmetic.Mode.{Mode}
use Rattle.ckc_base.specs.declared.fault.Fault.{Fault}
use Rattle.ckc_base.specs.Outcomes.{Outcome, bind, StepsOutcome}
use Rattle.ckc_syntax.specs.declared.tree.Act.{the_lemmas}
use Rattle.ckc_syntax.specs.declared.tree.Act.TheVariants as act
use Rattle.ckc_typed.specs.declared.typed.Note.{Note}
use Rattle.ckc_typed.specs.Trees.{NotedAct, NotedStmt}
use Rattle.ckc_bounds_points.specs.declared.frame.HeadBounds.{HeadBounds}
use Rattle.ckc_bounds_points.specs.declared.frame.Frame.{Frame}
use Rattle.ckc_bounds_statements.specs.Paths.{Here, all_judged, block_judged, stated, closed, path, path_of_act}
use Rattle.ckc_base.proofs.Ends.{step_stops}

module _ (frame : Frame) (head : HeadBounds) (at : Pos) (note : Note) (here : Here) where
  abbrev becomes : NotedAct → Outcome (NotedStmt × Here)
  becomes a = (path_of_act a).judged frame head at note here

  block_is : (m : Option Mode) (ss : List NotedStmt) → becomes (act.Block m ss) ≡ block_judged frame head at note m (map path ss) here
  block_is m ss = search (rules, the_lemmas)

  abbrev after : Option Mode → List NotedStmt × Here → Outcome (NotedStmt × Here)
  after m p = Ok (stated at note (act.Block m p.0), closed (length here.seen) p.1)

  module _ (a : NotedAct) (m : Option Mode) (ss ts : List NotedStmt) (is : a ≡ act.Block m ss) (same : ts ≡ ss) where
    block_of : becomes a ≡ bind (all_judged frame head (map path ts) here) (after m)
    block_of = ap becomes is ∙ block_is m ss ∙ ap (λ xs. block_judged frame head at note m (map path xs) here) (sym same)

    pub block_stops : (now new : Here) (r : Result NotedStmt Fault) (y x : Fault) → r ≡ Err y → y ≡ x → StepsOutcome {A = List NotedStmt} (Err x) now (all_judged frame head (map path ts) here) → StepsOutcome r new (becomes a)
    block_stops now new r y x e h given = step_stops (all_judged frame head (map path ts) here) now (becomes a) new r y x e h given (λ f q. block_of ∙ ap (λ o. bind o (after m)) q)

    pub block_goes : (all : List NotedStmt) (now : Here) → all_judged frame head (map path ts) here ≡ Ok (all, now) → becomes a ≡ Ok (stated at note (act.Block m all), closed (length here.seen) now)
    block_goes all now q = block_of ∙ ap (λ o. bind o (after m)) q
