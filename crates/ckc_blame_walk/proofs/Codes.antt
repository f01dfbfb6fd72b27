-- The code of a statement is judged, if that of the rest is: of one that is a single step, and of one after another.
use Rattle.std.proofs.Common.{◌≡◌, ◌⊎◌, inl, inr, refl, sym, ap, subst, ◌∙◌, ℕ, true, List, [], ◌∷◌, ◌++◌}
use Rattle.std.specs.Prelude.{Ok}
use Rattle.ckc_base.specs.declared.places.Pos.{Pos}
use Rattle.ckc_syntax.specs.declared.tree.Name.{Name}
use Rattle.ckc_syntax.specs.declared.tree.Name.TheVariants as name
use Rattle.ckc_syntax.specs.declared.tree.Init.TheVariants as init
use Rattle.ckc_syntax.specs.declared.tree.Node.{Node-F, out-Node}
use Rattle.ckc_syntax.specs.declared.tree.Act.{out-Act}
use Rattle.ckc_typed.specs.declared.typed.Note.{Note}
use Rattle.ckc_typed.specs.Statics.{strings_of_stmt}
use Rattle.ckc_typed.specs.Trees.{NotedExpr, NotedLayer, NotedInit, NotedStmt}
use Rattle.ckc_blame_sound.specs.ckc_bounds_points.specs.declared.frame.Frame.{Frame}
use Rattle.ckc_blame_sound.specs.ckc_bounds_statements.specs.Paths.{Here, path}
use Rattle.ckc_source.specs.declared.stmt.Spot.{Spot}
use Rattle.ckc_source.specs.Code.{Code, End, chained}
use Rattle.ckc_build_elaborate.specs.Steps.{Destination, called, assigned_form, assigned, started}
use Rattle.ckc_build_elaborate.specs.Statements.{stmt_elaborated}
use Rattle.ckc_blame_sound.specs.Settings.{Setting, AreStrings}
use Rattle.ckc_blame_sound.specs.Points.{IsKnown, GoesTo}
use Rattle.ckc_blame_sound.specs.Steps.{is_simple, IsStep}
use Rattle.ckc_blame_sound.specs.Bodies.{IsInBody}
use Rattle.ckc_blame_sound.specs.Scopes.{StandsInScope}
use Rattle.ckc_blame_sound.specs.Few.{nodes_in, HasRoom}
use Rattle.ckc_blame_sound.specs.Judged.{Exits, Then, Judged}
use Rattle.ckc_blame_walk.specs.Walks.{AreNamed}
use Rattle.ckc_blame_walk.proofs.Onward.{IsOn}
use Rattle.ckc_blame_walk.proofs.Rooms.{statement_nodes}

-- ---- control

module _ {frame : Frame} where
  pub goes_nowhere : (here : Here) → GoesTo frame here here
  goes_nowhere here = record { known = λ r. record { reached = r; facts = λ locals words h. h; widened = λ k c. c }; seen = λ k c. c }

  pub goes_through : (a b c : Here) → GoesTo frame a b → GoesTo frame b c → GoesTo frame a c
  goes_through a b c h g = record {
    known = λ r.
        let first : IsKnown frame a.at b.at = h.known r in
        let next : IsKnown frame b.at c.at = g.known first.reached in
        record {
          reached = next.reached;
          facts = λ locals words t. next.facts locals words (first.facts locals words t);
          widened = λ k d. first.widened k (next.widened k d);
        };
    seen = λ k d. h.seen k (g.seen k d);
  }

-- ---- a single step

module _ (s : Setting) where
  abbrev pub GoesOn : (Code → Code) → Type 0
  GoesOn f = (rest : Code) (exits : Exits) (here : Here) → Then s here f (Judged s rest exits) → Judged s (f rest) exits here

  module _ (spot : Spot) (to : Destination) (k : ℕ) where
    called_on : (n : Name) (es : List NotedExpr) (at : Pos) → GoesOn (called s.text s.variables spot to k n es at)
    unfolding Judged
    called_on (name.Function f) es at rest exits here h = h
    called_on name.Getchar es at rest exits here h = h
    called_on name.Putchar es at rest exits here h = h
    called_on n es at rest exits here h = h

    pub assigned_on : (e : NotedExpr) → GoesOn (assigned s.text s.variables spot to k e)
    unfolding Judged
    assigned_on e = by (out-Node Name Note e.node)
      where
        by : (n : NotedLayer) → GoesOn (assigned_form s.text s.variables spot to k e n)
        by (Node-F.Call n es) rest exits here h = called_on n es e.pos rest exits here h
        by n rest exits here h = h

    pub started_on : (i : NotedInit) → GoesOn (started s.text s.variables spot to k i)
    unfolding Judged
    started_on init.Nothing rest exits here h = h
    started_on (init.One e) rest exits here h = assigned_on e rest exits here h
    started_on (init.Many es) rest exits here h = h

  -- ---- the code of statements

  -- From one point code leads to another one: there is none and the point is the same, or what is judged from where control
  -- goes from the second point may stand after it.
  abbrev pub IsCode : List (Code → Code) → Exits → Here → Here → Type 0
  IsCode codes exits here there =
      ((codes ≡ []) × (there ≡ here))
      ⊎ ((next : Here) (rest : Code) → GoesTo s.frame there next → Judged s rest exits next → Judged s (chained codes rest) exits here)

  abbrev pub IsWalk : NotedStmt → Here → NotedStmt × Here → Type 0
  IsWalk before here p = (path before).judged s.frame s.head here ≡ Ok p

  -- a statement that is a step by itself
  pub step_code : {Claimed : Type 0} (before after : NotedStmt) (here there : Here) (k : ℕ) (exits : Exits) (f : Code → Code) → is_simple (out-Act Name Note before.body) ≡ true
      → (Claimed → IsInBody s before) → StandsInScope s before here.seen → IsOn s Claimed here → AreNamed s.frame here.at.facts → IsWalk before here (after, there) → HasRoom s here.next (nodes_in after) → AreStrings s k (strings_of_stmt after) → stmt_elaborated s.text s.variables s.result k after ≡ f ∷ [] → GoesOn f → IsCode (stmt_elaborated s.text s.variables s.result k after) exits here there
  step_code before after here there k exits f simple inside scope on named walk room strings becomes goes_on =
      inr (λ next rest goes h.
      let step : IsStep s here f next =
      record { before = before; after = after; literals = k; behind = there; simple = simple; inside = inside on.claimed; scope = scope; fresh = on.fresh; counting = on.counts; named = named; judged = walk; room = subst (HasRoom s here.next) (statement_nodes s.frame s.head before here (after, there) walk) room; becomes = becomes; goes = goes; strings = strings } in
      subst (λ fs. Judged s (chained fs rest) exits here) (sym becomes) (goes_on rest exits here (next, step, h)))

  chained_both : (fs gs : List (Code → Code)) (rest : Code) → chained (fs ++ gs) rest ≡ chained fs (chained gs rest)
  chained_both [] gs rest = refl
  chained_both (f ∷ fs) gs rest = ap f (chained_both fs gs rest)

  -- one after another
  pub both_code : (fs gs : List (Code → Code)) (exits : Exits) (a b c : Here) → IsCode fs exits a b → IsCode gs exits b c → IsCode (fs ++ gs) exits a c
  both_code fs gs exits a b c (inl h) (inl g) = inl (ap (λ x. x ++ gs) h.0 ∙ g.0, g.1 ∙ h.1)
  both_code fs gs exits a b c (inl h) (inr g) =
      inr (λ next rest goes j. subst (λ x. Judged s (chained (x ++ gs) rest) exits a) (sym h.0) (subst (λ x. Judged s (chained gs rest) exits x) h.1 (g next rest goes j)))
  both_code fs gs exits a b c (inr h) (inl g) =
      inr (λ next rest goes j.
      subst (λ x. Judged s x exits a) (sym (chained_both fs gs rest))
      (subst (λ x. Judged s (chained fs (chained x rest)) exits a) (sym g.0) (h next rest (subst (λ x. GoesTo s.frame x next) g.1 goes) j)))
  both_code fs gs exits a b c (inr h) (inr g) =
      inr (λ next rest goes j. subst (λ x. Judged s x exits a) (sym (chained_both fs gs rest)) (h b (chained gs rest) (goes_nowhere b) (g next rest goes j)))

  -- control goes on to a later point
  pub further_code : (fs : List (Code → Code)) (exits : Exits) (a b c : Here) → GoesTo s.frame b c → (b ≡ a → c ≡ a) → IsCode fs exits a b → IsCode fs exits a c
  further_code fs exits a b c goes same (inl h) = inl (h.0, same h.1)
  further_code fs exits a b c goes same (inr h) = inr (λ next rest g j. h next rest (goes_through b c next goes g) j)

  -- the code of a branch or a body, after which nothing comes
  pub closed_code : (fs : List (Code → Code)) (exits : Exits) (a b : Here) → GoesTo s.frame b exits.ends → IsCode fs exits a b → Judged s (chained fs End) exits a
  unfolding Judged
  closed_code fs exits a b goes (inl h) = subst (λ x. Judged s (chained x End) exits a) (sym h.0) (subst (λ x. GoesTo s.frame x exits.ends) h.1 goes)
  closed_code fs exits a b goes (inr h) = h exits.ends End goes (goes_nowhere exits.ends)
