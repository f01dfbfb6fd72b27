-- Statements that are judged from a point on, each from the point after the one before it, with the points that control
-- leaves them for.
use Rattle.std.specs.Prelude.{List, [], ◌∷◌}
use Rattle.ckc_base.specs.declared.arithmetic.Mode.{Mode}
use Rattle.ckc_bounds.specs.ckc_bounds_statements.specs.Paths.{Here}
use Rattle.ckc_source.specs.Code.{Expr, Code, End, Assign, Bundle, Get, Put, Call, If, Loop, Break, Continue, Return, Check}
use Rattle.ckc_source.specs.States.{Work, Rest, Turn}
use Rattle.ckc_blame_sound.specs.Settings.{Setting}
use Rattle.ckc_blame_sound.specs.Points.{GoesTo}
use Rattle.ckc_blame_sound.specs.Steps.{IsStep, IsCondition}

-- where control is after some statements, after a `break` in them and after a `continue`
pub record Exits : Type 0 where
  pub ends : Here
  pub breaks : Here
  pub continues : Here

-- the same, but for where control is after the statements
abbrev pub ending : Exits → Here → Exits
ending exits there = record exits { ends = there }

-- the points of an `if`: the two sides of its condition, the begin of its second branch, whose fresh variables have the
-- numbers after those of the first, and after it
pub record Branches : Type 0 where
  pub yes : Here
  pub no : Here
  pub other : Here
  pub behind : Here

-- the points of a loop: its head, the two sides of its condition, its step, and after it
pub record Turns : Type 0 where
  pub head : Here
  pub yes : Here
  pub no : Here
  pub step : Here
  pub behind : Here

-- The body of a loop goes on with the step, and a `break` in it leaves the loop.
abbrev pub in_body : Turns → Exits
in_body l = record { ends = l.step; breaks = l.behind; continues = l.step }

-- The parts of a loop are judged from its points, each of which is as good for every turn. The step goes back to the
-- head; it has no `break` and no `continue`, so that it is judged wherever these would lead to.
abbrev pub IsLoop : Setting → Mode → Expr → Turns → (Exits → Here → Type 0) → (Exits → Here → Type 0) → Type 0
IsLoop s mode e l body step =
    IsCondition s mode l.head e l.yes l.no × GoesTo s.frame l.no l.behind × body (in_body l) l.yes
    × ((exits : Exits) → step (ending exits l.head) l.step)

-- a step is judged, and then the rest
abbrev pub Then : Setting → Here → (Code → Code) → (Here → Type 0) → Type 0
Then s here step rest = (there : Here) × IsStep s here step there × rest there

-- Statements are judged from a point on, and control leaves them for these points.
unfoldable pub Judged : Setting → Code → Exits → Here → Type 0
Judged s End exits here = GoesTo s.frame here exits.ends
Judged s (Break rest) exits here = GoesTo s.frame here exits.breaks
Judged s (Continue rest) exits here = GoesTo s.frame here exits.continues
Judged s (Assign spot target right rest) exits here = Then s here (Assign spot target right) (Judged s rest exits)
Judged s (Bundle spot assigns rest) exits here = Then s here (Bundle spot assigns) (Judged s rest exits)
Judged s (Get spot target rest) exits here = Then s here (Get spot target) (Judged s rest exits)
Judged s (Put spot target e rest) exits here = Then s here (Put spot target e) (Judged s rest exits)
Judged s (Call spot target callee es rest) exits here = Then s here (Call spot target callee es) (Judged s rest exits)
Judged s (If spot e one two rest) exits here =
    (b : Branches) × IsCondition s spot.mode here e b.yes b.no × Judged s one (ending exits b.behind) b.yes
    × GoesTo s.frame b.no b.other × Judged s two (ending exits b.behind) b.other × Judged s rest exits b.behind
Judged s (Loop spot e body step rest) exits here =
    (l : Turns) × GoesTo s.frame here l.head × IsLoop s spot.mode e l (Judged s body) (Judged s step) × Judged s rest exits l.behind
Judged s (Return spot e rest) exits here = Then s here (Return spot e) (Judged s rest exits)
Judged s (Check spot e rest) exits here = Then s here (Check spot e) (Judged s rest exits)

-- A turn of the loop in front is done: control goes to its step, by `continue` too, and by `break` past the loop.
abbrev pub IsTurn : Setting → Code → Turns → Exits → Exits → Type 0
IsTurn s (Loop spot e body step rest) l exits outer =
    IsLoop s spot.mode e l (Judged s body) (Judged s step) × GoesTo s.frame exits.ends l.step × GoesTo s.frame exits.continues l.step
    × GoesTo s.frame exits.breaks l.behind × Judged s rest outer l.behind
IsTurn s code l exits outer = ⊥

-- What comes next in a call is judged from the points that control left for. Falling off the end asks nothing.
unfoldable pub JudgedWork : Setting → List Work → Exits → Type 0
JudgedWork s [] exits = Unit {0}
JudgedWork s (Rest code ∷ work) exits =
    (there : Here) × Judged s code (ending exits there) exits.ends × JudgedWork s work (ending exits there)
JudgedWork s (Turn code ∷ work) exits = (l : Turns) × (outer : Exits) × IsTurn s code l exits outer × JudgedWork s work outer
