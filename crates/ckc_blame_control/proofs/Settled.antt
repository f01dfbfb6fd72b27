-- What is no step leads from a point that holds to one that does.
use Rattle.std.proofs.Common.{◌≡◌, ◌≢◌, ℕ, List, [], ◌∷◌, refl, subst}
use Rattle.std.specs.Prelude.{true, false}
use Rattle.ckc_blame_sound.specs.ckc_bounds_statements.specs.Paths.{Here}
use Rattle.ckc_source.specs.Code.{Code, End, Assign, Bundle, Get, Put, Call, If, Loop, Break, Continue, Return, Check}
use Rattle.ckc_source.specs.Eval.{Store}
use Rattle.ckc_source.specs.States.{Work, Rest, Turn, Leaving, Ended, Broken, Continued, begun, stepped, turned, behind, resumed, settled}
use Rattle.ckc_blame_sound.specs.Settings.{Setting}
use Rattle.ckc_blame_sound.specs.Points.{HoldsAt, GoesTo}
use Rattle.ckc_blame_sound.specs.Judged.{Exits, ending, Turns, Judged, IsTurn, JudgedWork}
use Rattle.ckc_blame_sound.proofs.Kept.{point_kept}
use Rattle.ckc_blame_control.specs.Ready.{IsReady, is_step, Begins}

-- control stays at a point
pub stays : (s : Setting) (here : Here) → GoesTo s.frame here here
stays s here = record { known = λ r. record { reached = r; facts = λ locals words h. h; widened = λ k c. c }; seen = λ k c. c }

-- no control comes here
abbrev nowhere : Here → Here
nowhere here = record here { at = record here.at { reached = false } }

-- where control goes if statements are left so
abbrev exit_by : Leaving → Exits → Here
exit_by Ended exits = exits.ends
exit_by Broken exits = exits.breaks
exit_by Continued exits = exits.continues

-- Nothing comes next, or code that begins with a step and is judged from a point that holds.
abbrev IsSettled : Setting → Store → List ℕ → List Work → Type 0
IsSettled s store entry [] = (here : Here) × HoldsAt s store entry here
IsSettled s store entry (Rest code ∷ next) = (is_step code ≡ true) × Begins s store entry code next
IsSettled s store entry (Turn code ∷ next) = ⊥

module _ (s : Setting) (store : Store) (entry : List ℕ) where
  abbrev Holds : Here → Type 0
  Holds here = HoldsAt s store entry here

  moved : (here there : Here) → GoesTo s.frame here there → Holds here → Holds there
  moved here there goes h = point_kept s store entry here there goes h

  -- no control comes to a point that none reaches
  no_way : (here : Here) → GoesTo s.frame here (nowhere here) → Holds here → ⊥
  no_way here goes h = absurd (none (goes.known h.reached).reached) where
    none : false ≡ true → ⊥
    none e = cc

  begun_settled : (code : Code) (go : Leaving → List Work) (next : List Work) (exits : Exits) (here : Here) → Judged s code exits here → JudgedWork s next exits
      → Holds here → ((how : Leaving) → Holds (exit_by how exits) → IsSettled s store entry (go how)) → IsSettled s store entry (begun code go next)
  unfolding Judged
  begun_settled End go next exits here j w h on = on Ended (moved here exits.ends j h)
  begun_settled (Break rest) go next exits here j w h on = on Broken (moved here exits.breaks j h)
  begun_settled (Continue rest) go next exits here j w h on = on Continued (moved here exits.continues j h)
  begun_settled (Assign spot target right rest) go next exits here j w h on = (refl, record { here = here; holds = h; exits = exits; judged = j; work = w })
  begun_settled (Bundle spot assigns rest) go next exits here j w h on = (refl, record { here = here; holds = h; exits = exits; judged = j; work = w })
  begun_settled (Get spot target rest) go next exits here j w h on = (refl, record { here = here; holds = h; exits = exits; judged = j; work = w })
  begun_settled (Put spot target e rest) go next exits here j w h on = (refl, record { here = here; holds = h; exits = exits; judged = j; work = w })
  begun_settled (Call spot target callee es rest) go next exits here j w h on = (refl, record { here = here; holds = h; exits = exits; judged = j; work = w })
  begun_settled (If spot e one two rest) go next exits here j w h on = (refl, record { here = here; holds = h; exits = exits; judged = j; work = w })
  begun_settled (Loop spot e body step rest) go next exits here j w h on = (refl, record { here = here; holds = h; exits = exits; judged = j; work = w })
  begun_settled (Return spot e rest) go next exits here j w h on = (refl, record { here = here; holds = h; exits = exits; judged = j; work = w })
  begun_settled (Check spot e rest) go next exits here j w h on = (refl, record { here = here; holds = h; exits = exits; judged = j; work = w })

  -- a step of a loop, and then the loop: it is judged whatever exits it has
  abbrev IsStepped : Code → Here → Here → Type 0
  IsStepped step here head = (exits : Exits) → Judged s step (ending exits head) here

  -- a step that is one is followed by the loop
  followed : (step loop : Code) (next : List Work) (outer : Exits) (here head : Here) → is_step step ≡ true → IsStepped step here head → Judged s loop outer head
      → JudgedWork s next outer → Holds here → (is_step step ≡ true) × Begins s store entry step (Rest loop ∷ next)
  unfolding JudgedWork
  followed step loop next outer here head is j l w h =
      (is, record { here = here; holds = h; exits = ending outer head; judged = j outer; work = (outer.ends, l, w) })

  stepped_settled : (step loop : Code) (next : List Work) (outer : Exits) (here head : Here) → is_step loop ≡ true → IsStepped step here head → Judged s loop outer head
      → JudgedWork s next outer → Holds here → IsSettled s store entry (stepped step loop next)
  unfolding Judged
  stepped_settled End loop next outer here head is j l w h = (is, record { here = head; holds = moved here head (j outer) h; exits = outer; judged = l; work = w })
  stepped_settled (Break rest) loop next outer here head is j l w h = absurd (no_way here (j (record outer { breaks = nowhere here })) h)
  stepped_settled (Continue rest) loop next outer here head is j l w h = absurd (no_way here (j (record outer { continues = nowhere here })) h)
  stepped_settled (Assign spot target right rest) loop next outer here head is j l w h = followed (Assign spot target right rest) loop next outer here head refl j l w h
  stepped_settled (Bundle spot assigns rest) loop next outer here head is j l w h = followed (Bundle spot assigns rest) loop next outer here head refl j l w h
  stepped_settled (Get spot target rest) loop next outer here head is j l w h = followed (Get spot target rest) loop next outer here head refl j l w h
  stepped_settled (Put spot target e rest) loop next outer here head is j l w h = followed (Put spot target e rest) loop next outer here head refl j l w h
  stepped_settled (Call spot target callee es rest) loop next outer here head is j l w h =
      followed (Call spot target callee es rest) loop next outer here head refl j l w h
  stepped_settled (If spot e one two rest) loop next outer here head is j l w h = followed (If spot e one two rest) loop next outer here head refl j l w h
  stepped_settled (Loop spot e body step rest) loop next outer here head is j l w h = followed (Loop spot e body step rest) loop next outer here head refl j l w h
  stepped_settled (Return spot e rest) loop next outer here head is j l w h = followed (Return spot e rest) loop next outer here head refl j l w h
  stepped_settled (Check spot e rest) loop next outer here head is j l w h = followed (Check spot e rest) loop next outer here head refl j l w h

  -- the step of the loop in front, from its point on
  turned_settled : (code : Code) (next : List Work) (l : Turns) (exits outer : Exits) → IsTurn s code l exits outer → JudgedWork s next outer → Holds l.step
      → IsSettled s store entry (turned code next)
  unfolding Judged
  turned_settled (Loop spot e body step rest) next l exits outer t w h =
      stepped_settled step (Loop spot e body step rest) next outer l.step l.head refl t.0.3 (l, stays s l.head, t.0, t.4) w h
  turned_settled End next l exits outer t w h = absurd t
  turned_settled (Break rest) next l exits outer t w h = absurd t
  turned_settled (Continue rest) next l exits outer t w h = absurd t
  turned_settled (Assign spot target right rest) next l exits outer t w h = absurd t
  turned_settled (Bundle spot assigns rest) next l exits outer t w h = absurd t
  turned_settled (Get spot target rest) next l exits outer t w h = absurd t
  turned_settled (Put spot target e rest) next l exits outer t w h = absurd t
  turned_settled (Call spot target callee es rest) next l exits outer t w h = absurd t
  turned_settled (If spot e one two rest) next l exits outer t w h = absurd t
  turned_settled (Return spot e rest) next l exits outer t w h = absurd t
  turned_settled (Check spot e rest) next l exits outer t w h = absurd t

  -- what a turn says of each way to leave it: the point that it leads to holds, and what comes after the loop is judged
  pub record Left (code : Code) (l : Turns) (exits outer : Exits) : Type 0 where
    pub ends : GoesTo s.frame exits.ends l.step
    pub continues : GoesTo s.frame exits.continues l.step
    pub breaks : GoesTo s.frame exits.breaks l.behind
    pub rest : Judged s (behind code) outer l.behind

  left_by : (code : Code) (l : Turns) (exits outer : Exits) → IsTurn s code l exits outer → Left code l exits outer
  left_by (Loop spot e body step rest) l exits outer t = record { ends = t.1; continues = t.2; breaks = t.3; rest = t.4 }
  left_by End l exits outer t = absurd t
  left_by (Break rest) l exits outer t = absurd t
  left_by (Continue rest) l exits outer t = absurd t
  left_by (Assign spot target right rest) l exits outer t = absurd t
  left_by (Bundle spot assigns rest) l exits outer t = absurd t
  left_by (Get spot target rest) l exits outer t = absurd t
  left_by (Put spot target e rest) l exits outer t = absurd t
  left_by (Call spot target callee es rest) l exits outer t = absurd t
  left_by (If spot e one two rest) l exits outer t = absurd t
  left_by (Return spot e rest) l exits outer t = absurd t
  left_by (Check spot e rest) l exits outer t = absurd t

  pub resumed_settled : (how : Leaving) (work : List Work) (exits : Exits) → JudgedWork s work exits → Holds (exit_by how exits) → IsSettled s store entry (resumed how work)
  unfolding JudgedWork resumed
  resumed_settled how [] exits w h = (exit_by how exits, h)
  resumed_settled Ended (Rest code ∷ next) exits w h =
      begun_settled code (λ how. resumed how next) next (ending exits w.0) exits.ends w.1 w.2 h (λ how g. resumed_settled how next (ending exits w.0) w.2 g)
  resumed_settled Broken (Rest code ∷ next) exits w h = resumed_settled Broken next (ending exits w.0) w.2 h
  resumed_settled Continued (Rest code ∷ next) exits w h = resumed_settled Continued next (ending exits w.0) w.2 h
  resumed_settled Broken (Turn code ∷ next) exits w h =
      let left : Left code w.0 exits w.1 = left_by code w.0 exits w.1 w.2 in
      begun_settled (behind code) (λ how. resumed how next) next w.1 w.0.behind left.rest w.3 (moved exits.breaks w.0.behind left.breaks h)
      (λ how g. resumed_settled how next w.1 w.3 g)
  resumed_settled Ended (Turn code ∷ next) exits w h =
      let left : Left code w.0 exits w.1 = left_by code w.0 exits w.1 w.2 in
      turned_settled code next w.0 exits w.1 w.2 w.3 (moved exits.ends w.0.step left.ends h)
  resumed_settled Continued (Turn code ∷ next) exits w h =
      let left : Left code w.0 exits w.1 = left_by code w.0 exits w.1 w.2 in
      turned_settled code next w.0 exits w.1 w.2 w.3 (moved exits.continues w.0.step left.continues h)

  -- code that comes next is ready
  pub begins_ready : (code : Code) (next : List Work) → Begins s store entry code next → IsReady s store entry (Rest code ∷ next)
  unfolding JudgedWork
  begins_ready code next b = record { exits = ending b.exits b.here; work = (b.exits.ends, b.judged, b.work); holds = b.holds }

  settled_ready : (work : List Work) → IsSettled s store entry work → IsReady s store entry work
  unfolding JudgedWork
  settled_ready [] h = record { exits = record { ends = h.0; breaks = h.0; continues = h.0 }; work = tt; holds = h.1 }
  settled_ready (Rest code ∷ next) h = begins_ready code next h.1
  settled_ready (Turn code ∷ next) h = absurd h

  pub ready_settled : (work : List Work) → IsReady s store entry work → IsSettled s store entry (settled work)
  ready_settled work r = resumed_settled Ended work r.exits r.work r.holds

  pub ready_ready : (work : List Work) → IsReady s store entry work → IsReady s store entry (settled work)
  ready_ready work r = settled_ready (settled work) (ready_settled work r)

  pub ready_begins : (work next : List Work) (code : Code) → IsReady s store entry work → settled work ≡ Rest code ∷ next
      → (is_step code ≡ true) × Begins s store entry code next
  ready_begins work next code r e = subst (IsSettled s store entry) e (ready_settled work r)

  pub ready_turns : (work next : List Work) (code : Code) → IsReady s store entry work → settled work ≢ Turn code ∷ next
  ready_turns work next code r e = subst (IsSettled s store entry) e (ready_settled work r)
