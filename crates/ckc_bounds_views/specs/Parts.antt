-- What is said of an expression is a record that is made from those of its parts.
use Rattle.std.specs.Prelude.{ℕ, ◌+◌, ◌^◌, Bool, true, false, min, ◌-◌, Option, None, Some, List, [], ◌∷◌, ◌++◌, length}
use Rattle.ckc_base.specs.declared.places.Pos.{Pos}
use Rattle.ckc_types.specs.declared.types.Kind.{Kind}
use Rattle.ckc_types.specs.declared.types.Kind.TheVariants as kind
use Rattle.ckc_types.specs.declared.types.CType.{CType}
use Rattle.ckc_linear.specs.declared.forms.Form.{Form}
use Rattle.ckc_syntax.specs.declared.tree.Name.{Name}
use Rattle.ckc_syntax.specs.declared.tree.Limits.{Limits-F}
use Rattle.ckc_syntax.specs.declared.tree.Node.{Node-F}
use Rattle.ckc_typed.specs.declared.environment.Constant.{Constant}
use Rattle.ckc_typed.specs.declared.typed.Note.{Note}
use Rattle.ckc_typed.specs.declared.typed.Range.{Range}
use Rattle.ckc_bounds_points.specs.Shown.{Known}
use Rattle.ckc_bounds_points.specs.Flow.{State}
use Rattle.ckc_bounds_views.specs.declared.variables.Own.{Own}
use Rattle.ckc_bounds_views.specs.declared.variables.Member.{Member}
use Rattle.ckc_base.specs.declared.places.Refusal.{Refusal}
use Rattle.ckc_base.specs.Outcomes.{Outcome}
use Rattle.ckc_typed.specs.Trees.{NotedLimits, NotedNode, NotedExpr}

-- What is said of the limits of a bounds cast: how many pointers in them stand for themselves, how many fresh variables
-- they need at most, the types of those that they need at a point, the type of the amount that they count, its form by the
-- size of an element, and, by that size and the first fresh variable, their judgement.
pub record LimitsView : Type 0 where
  pub values : ℕ
  pub most_fresh : ℕ
  pub fresh : State → List CType
  pub counted : Option CType
  pub amount : ℕ → Known → Option Form
  pub judged : ℕ → ℕ → State → Outcome NotedLimits

-- What is said of an expression. `values` is how many pointers in it stand for themselves, so that the first of them has
-- a number and the others follow in walk order; `most_fresh` is how many fresh variables it needs at most. `null` is that
-- it is null, `member` the member that it is, `behind` the kind of the pointer that it reads through, `allocates` that it
-- is a `calloc`. The last are functions of what is known at a point: the types of the fresh variables that it needs, in
-- walk order, the form of an integer, the place of a pointer and of what `*p` and `p[e]` read, each by the number of the
-- first value in it, the point on the true or the false side of a condition, the range of a pointer, by the numbers of the
-- first value and the first fresh variable in it, the range of the address of it, by the address's own numbers too, and
-- its judgement, by its first fresh variable: the expression with the range of each pointer in it noted, or its first
-- fault. `operand` is the same for the operand of `&`, where `*` and `[` are no access, and `no_address` that it has no
-- address.
pub record View : Type 0 where
  pub pos : Pos
  pub ctype : CType
  pub number : Option Constant
  pub is_zero : Bool
  pub null : Bool
  pub variable : Option Form
  pub behind : Option Kind
  pub member : Option Member
  pub allocates : Bool
  pub values : ℕ
  pub most_fresh : ℕ
  pub fresh : State → List CType
  pub form : Known → Option Form
  pub place : ℕ → Known → Option Form
  pub target : ℕ → Known → Option Form
  pub side : Bool → State → State
  pub range : ℕ → ℕ → State → Range
  pub address : Own → ℕ → ℕ → State → Range
  pub no_address : Bool
  pub judged : ℕ → State → Outcome NotedExpr
  pub operand : ℕ → State → Outcome NotedExpr

-- the same of a node, whose type its expression notes
pub record NodeView : Type 0 where
  pub number : Option Constant
  pub is_zero : Bool
  pub null : Bool
  pub variable : Option Form
  pub behind : Option Kind
  pub member : Option Member
  pub allocates : Bool
  pub stands_alone : Bool
  pub values : ℕ
  pub most_fresh : ℕ
  pub fresh : State → List CType
  pub may_need : CType → Option CType
  pub has_form : CType → Known → Bool
  pub linear : CType → Known → Option Form
  pub place : CType → ℕ → Known → Option Form
  pub target : ℕ → Known → Option Form
  pub side : Bool → State → State
  pub range : CType → Own → ℕ → ℕ → State → Range
  pub address : Own → ℕ → ℕ → State → Range
  pub no_address : Bool
  pub judged : CType → ℕ → State → Outcome NotedNode
  pub fault : Pos → ℕ → State → Option Refusal
  pub operand_fault : Pos → ℕ → State → Option Refusal

-- a node with what is said of its parts
abbrev pub NodeOfViews : Type 0
NodeOfViews = Node-F Name Note LimitsView NodeView View

-- limits with what is said of their parts
abbrev pub LimitsOfViews : Type 0
LimitsOfViews = Limits-F Name Note LimitsView NodeView View

-- a sum of counts, which stays at the last number of 32 bits
abbrev pub capped : ℕ → ℕ → ℕ
capped m n = min (m + n) (2 ^ 32 - 1)

-- a count over the parts of a node, by that of an expression, of bounds and of a list of arguments
abbrev pub count_of_parts : (View → ℕ) → (Option LimitsView → ℕ) → (List View → ℕ) → NodeOfViews → ℕ
count_of_parts count there all (Node-F.Un o e) = count e
count_of_parts count there all (Node-F.Bin o e f) = capped (count e) (count f)
count_of_parts count there all (Node-F.Pick e f g) = capped (capped (count e) (count f)) (count g)
count_of_parts count there all (Node-F.Index e f) = capped (count e) (count f)
count_of_parts count there all (Node-F.Dot e n spot) = count e
count_of_parts count there all (Node-F.Arrow e n spot) = count e
count_of_parts count there all (Node-F.Cast w e) = count e
count_of_parts count there all (Node-F.Trusted w e l) = capped (count e) (there l)
count_of_parts count there all (Node-F.Tested w e l) = capped (count e) (there l)
count_of_parts count there all (Node-F.Call n es) = all es
count_of_parts count there all (Node-F.Calloc w e x) = count e
count_of_parts count there all _ = 0

-- the number of the next fresh variable after some that are needed, and after those that an expression needs at a point
abbrev pub next_behind : ℕ → List CType → ℕ
next_behind fresh ts = capped fresh (length ts)

-- the number of the next fresh variable after those that an expression needs at a point
abbrev pub fresh_behind : View → ℕ → State → ℕ
fresh_behind e fresh at = next_behind fresh (e.fresh at)

-- a list with one more at its end or in front, if there is one
abbrev pub with_last : {A : Type 0} → List A → Option A → List A
with_last all None = all
with_last all (Some a) = all ++ a ∷ []

-- a list with one more in front, if there is one
abbrev pub with_first : {A : Type 0} → Option A → List A → List A
with_first None all = all
with_first (Some a) all = a ∷ all
