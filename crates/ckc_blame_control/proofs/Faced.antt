-- The step in front is judged at a point that holds.
use Rattle.std.proofs.Common.{◌≡◌, ℕ, List, ◌∷◌}
use Rattle.std.specs.Prelude.{Option}
use Rattle.ckc_blame_sound.specs.ckc_bounds_statements.specs.Paths.{Here}
use Rattle.ckc_source.specs.declared.stmt.Kept.{Kept}
use Rattle.ckc_source.specs.declared.stmt.Spot.{Spot}
use Rattle.ckc_source.specs.Code.{Code, Expr, Target, Right, Assign, Bundle, Get, Put, Call, Return, Check}
use Rattle.ckc_source.specs.Eval.{Store}
use Rattle.ckc_source.specs.States.{Work, Rest, settled}
use Rattle.ckc_blame_sound.specs.Settings.{Setting}
use Rattle.ckc_blame_sound.specs.Judged.{Exits, ending, Then, Judged, JudgedWork}
use Rattle.ckc_blame_control.specs.Ready.{IsReady, Begins, Faces}
use Rattle.ckc_blame_control.proofs.Settled.{ready_begins}

module _ (s : Setting) (store : Store) (entry : List ℕ) (work next : List Work) (ready : IsReady s store entry work) where
  -- code whose judgement is that of a step and then of the rest
  abbrev IsThen : (Code → Code) → Code → Type 0
  IsThen step rest = (exits : Exits) (here : Here) → Judged s (step rest) exits here → Then s here step (Judged s rest exits)

  faced : (step : Code → Code) (rest : Code) → settled work ≡ Rest (step rest) ∷ next → IsThen step rest → Faces s store entry step (Rest rest ∷ next)
  unfolding JudgedWork
  faced step rest is splits =
      let b : Begins s store entry (step rest) next = (ready_begins s store entry work next (step rest) ready is).1 in
      let t : Then s b.here step (Judged s rest b.exits) = splits b.exits b.here b.judged in
      record { here = b.here; holds = b.holds; exits = ending b.exits t.0; judged = t.1; work = (b.exits.ends, t.2, b.work) }

  pub faces_assign : (spot : Spot) (target : Target) (right : Right) (rest : Code) → settled work ≡ Rest (Assign spot target right rest) ∷ next
      → Faces s store entry (Assign spot target right) (Rest rest ∷ next)
  unfolding Judged
  faces_assign spot target right rest is = faced (Assign spot target right) rest is (λ exits here j. j)

  pub faces_bundle : (spot : Spot) (assigns : List (Target × Right)) (rest : Code) → settled work ≡ Rest (Bundle spot assigns rest) ∷ next
      → Faces s store entry (Bundle spot assigns) (Rest rest ∷ next)
  unfolding Judged
  faces_bundle spot assigns rest is = faced (Bundle spot assigns) rest is (λ exits here j. j)

  pub faces_get : (spot : Spot) (target : Target) (rest : Code) → settled work ≡ Rest (Get spot target rest) ∷ next → Faces s store entry (Get spot target) (Rest rest ∷ next)
  unfolding Judged
  faces_get spot target rest is = faced (Get spot target) rest is (λ exits here j. j)

  pub faces_put : (spot : Spot) (target : Target) (e : Expr) (rest : Code) → settled work ≡ Rest (Put spot target e rest) ∷ next
      → Faces s store entry (Put spot target e) (Rest rest ∷ next)
  unfolding Judged
  faces_put spot target e rest is = faced (Put spot target e) rest is (λ exits here j. j)

  pub faces_call : (spot : Spot) (target : Option Kept) (number : ℕ) (es : List Expr) (rest : Code) → settled work ≡ Rest (Call spot target number es rest) ∷ next
      → Faces s store entry (Call spot target number es) (Rest rest ∷ next)
  unfolding Judged
  faces_call spot target number es rest is = faced (Call spot target number es) rest is (λ exits here j. j)

  pub faces_return : (spot : Spot) (e : Expr) (rest : Code) → settled work ≡ Rest (Return spot e rest) ∷ next → Faces s store entry (Return spot e) (Rest rest ∷ next)
  unfolding Judged
  faces_return spot e rest is = faced (Return spot e) rest is (λ exits here j. j)

  pub faces_check : (spot : Spot) (e : Expr) (rest : Code) → settled work ≡ Rest (Check spot e rest) ∷ next → Faces s store entry (Check spot e) (Rest rest ∷ next)
  unfolding Judged
  faces_check spot e rest is = faced (Check spot e) rest is (λ exits here j. j)
