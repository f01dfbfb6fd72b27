-- No step of a loop begins with `break` or `continue`, by the form that the program of a text has.
use Rattle.std.proofs.Common.{ℕ, Bool, true, false, List, [], ◌∷◌}
use Rattle.std.specs.Prelude.{All, Option, Some, None, IsTrue}
use Rattle.std.proofs.lemmas.List.Elements.{All-nil, All-cons, All-head, All-tail}
use Rattle.ckc_source.specs.Code.{Code, End, Assign, Bundle, Get, Put, Call, If, Loop, Break, Continue, Return, Check, Function}
use Rattle.ckc_checks_operands.specs.Compilable as compilable
use Rattle.ckc_build_forms.proofs.Forms.{CodeForm}
use Rattle.ckc_source_causes.specs.WellFormed.{HasParams, HasSteps, HasStepsInBody, IsStep}

module _ (fs : List Function) (n : ℕ) where
  is_step : (c : Code) → CodeForm fs n false c → IsStep c
  is_step (Break rest) h = absurd (let e : IsTrue false = h.0 in cc)
  is_step (Continue rest) h = absurd (let e : IsTrue false = h.0 in cc)
  is_step End h = tt
  is_step (Assign spot target right rest) h = tt
  is_step (Bundle spot assigns rest) h = tt
  is_step (Get spot target rest) h = tt
  is_step (Put spot target e rest) h = tt
  is_step (Call spot target callee es rest) h = tt
  is_step (If spot e one two rest) h = tt
  is_step (Loop spot e body step rest) h = tt
  is_step (Return spot e rest) h = tt
  is_step (Check spot e rest) h = tt

  pub has_steps : (looped : Bool) (c : Code) → CodeForm fs n looped c → HasSteps c
  has_steps looped End h = tt
  has_steps looped (Assign spot target right rest) h = has_steps looped rest h.2
  has_steps looped (Bundle spot assigns rest) h = has_steps looped rest h.3
  has_steps looped (Get spot target rest) h = has_steps looped rest h.1
  has_steps looped (Put spot target e rest) h = has_steps looped rest h.2
  has_steps looped (Call spot target callee es rest) h = has_steps looped rest h.3
  has_steps looped (If spot e one two rest) h = (has_steps looped one h.1, has_steps looped two h.2, has_steps looped rest h.3)
  has_steps looped (Loop spot e body step rest) h = (is_step step h.2, has_steps true body h.1, has_steps false step h.2, has_steps looped rest h.3)
  has_steps looped (Break rest) h = has_steps looped rest h.1
  has_steps looped (Continue rest) h = has_steps looped rest h.1
  has_steps looped (Return spot e rest) h = has_steps looped rest h.1
  has_steps looped (Check spot e rest) h = has_steps looped rest h.1

pub all_have_steps : (all fs : List Function) → All (λ (f : Function). CodeForm all f.locals false f.body) fs → All HasStepsInBody fs
all_have_steps all [] h = All-nil HasStepsInBody
all_have_steps all (f ∷ fs) h =
    let P : Function → Type 0 = λ g. CodeForm all g.locals false g.body in
    All-cons HasStepsInBody f fs (has_steps all f.locals false f.body (All-head P f fs h)) (all_have_steps all fs (All-tail P f fs h))

-- that a function is there, as the form says it
pub there_is : (count : ℕ) (o : Option Function) → compilable.HasParams count o → HasParams count o
there_is count (Some f) h = h
there_is count None h = h
