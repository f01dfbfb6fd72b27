-- What is known at a point of a function, and how it goes on from point to point.
use Rattle.std.specs.Prelude.{ℕ, ◌+◌, ◌^◌, ◌==◌, Bool, true, false, not, ◌&&◌, ◌||◌, if◌then◌else◌, List, [], ◌∷◌, map, length, ℤ, neg_ℤ, Option, None, Some}
use Rattle.std.specs.List.{filter, list_any}
use Rattle.std.specs.Ordering.{int_eq}
use Rattle.ckc_linear.specs.declared.facts.Fact.{Fact}
use Rattle.ckc_linear.specs.declared.forms.Base.{Base}
use Rattle.ckc_linear.specs.declared.forms.Base.TheVariants as base
use Rattle.ckc_linear.specs.declared.forms.Form.{Form}
use Rattle.ckc_linear.specs.Facts.{shifted}
use Rattle.ckc_typed.specs.Types.{is_integer}
use Rattle.ckc_bounds_points.specs.declared.frame.Bounds.{Bounds}
use Rattle.ckc_bounds_points.specs.declared.frame.Bounds.TheVariants as bounds
use Rattle.ckc_bounds_points.specs.declared.frame.Local.{Local}
use Rattle.ckc_bounds_points.specs.declared.frame.Frame.{Frame}
use Rattle.ckc_bounds_points.specs.declared.point.Point.{Point}
use Rattle.ckc_bounds_known.specs.declared.intervals.Interval.{Interval}
use Rattle.ckc_bounds_known.specs.Shown.{Known, known, is_within}
pub use Rattle.ckc_bounds_known.specs.Ranges.{range_in, range_of, fits, with_fact, with_range, forgotten}
use Rattle.ckc_bounds_points.specs.Frames.{local_at}

-- What a point is: whether it can be reached, the facts there, and the locals that are widened there.
pub record State : Type 0 where
  pub reached : Bool
  pub facts : Known
  pub widened : List ℕ

abbrev pub state : Point → State
state at = record { reached = at.reached; facts = known at.facts; widened = at.widened }

-- what `x = y + c` and `x = c` make known
abbrev pub with_equal : ℕ → Form → Known → Known
with_equal x f facts =
    if is_within (2 ^ 50) f.add
    then with_fact (record { x = f.var; y = x; c = neg_ℤ f.add }) (with_fact (record { x = x; y = f.var; c = f.add }) facts)
    else facts

-- A fact stays within 2^50 if x grows by c.
abbrev pub stays_small : ℕ → ℤ → Fact → Bool
stays_small x c f = is_within (2 ^ 50) f.c && is_within (2 ^ 50) (shifted x c f).c

-- the facts after x has grown by c: each on x is moved
abbrev pub moved : ℕ → ℤ → Known → Known
moved x c facts = record facts { list = map (shifted x c) (filter (stays_small x c) facts.list) }

-- A variable that is assigned a form of its own moves its facts: after `i = i + 1`, `i - n <= -1` is `i - n <= 0`. Else
-- its facts go, and if the new value has another form, that is known: after `i = n - 1`, `i - n <= -1` and
-- `n - i <= 1`. The range of its type stays.
abbrev pub assigned_facts : ℕ → Option Interval → Option Form → Known → Known
assigned_facts x r None facts = with_range x r (forgotten x facts)
assigned_facts x r (Some f) facts =
    if (f.var == x) && is_within (2 ^ 50) f.add
    then with_range x r (moved x f.add facts)
    else with_equal x f (with_range x r (forgotten x facts))

-- whether a base is the local k
abbrev pub names_local : ℕ → Option Base → Bool
names_local k (Some (base.Local j)) = j == k
names_local k _ = false

-- whether a form names the local k, as its base or as its variable
abbrev pub in_form : ℕ → Form → Bool
in_form k f = names_local k f.base || (f.var == k + 1)

-- whether bounds name the local k
abbrev pub in_bounds : ℕ → Bounds → Bool
in_bounds k bounds.Unknown = false
in_bounds k (bounds.Known low high) = in_form k low || in_form k high

-- whether the bounds of a local name the local k
abbrev pub in_bounds_of : ℕ → Option Local → Bool
in_bounds_of k (Some l) = in_bounds k l.bounds
in_bounds_of k None = false

-- A widening names its pointer and what the pointer's bounds name: that of `p : count(n)` names p and n.
abbrev pub widening_names : Frame → ℕ → ℕ → Bool
widening_names frame k p = (p == k) || in_bounds_of k (local_at frame p)

-- the widened locals whose widening does not name the local k
abbrev pub unwidened : Frame → ℕ → List ℕ → List ℕ
unwidened frame k ps = filter (λ p. not (widening_names frame k p)) ps

-- the facts after an assignment to the local k, which change if it is an integer
abbrev pub facts_assigned : ℕ → Local → Option Form → Known → Known
facts_assigned k l form facts = if is_integer l.ctype then assigned_facts (k + 1) (range_of l.ctype) form facts else facts

-- the point after an assignment to the local k, if there is such a local
abbrev pub local_assigned : Frame → ℕ → Option Local → Option Form → State → State
local_assigned frame k None form at = at
local_assigned frame k (Some l) form at =
    record at { facts = facts_assigned k l form at.facts; widened = unwidened frame k at.widened }

-- The point after an assignment to the local k, of a new value with a form if it is an integer that has one. A
-- declaration is an assignment too. A point that cannot be reached stays as it is.
abbrev pub assigned : Frame → ℕ → Option Form → State → State
assigned frame k form at = if at.reached then local_assigned frame k (local_at frame k) form at else at

-- The head of a loop has what held before, less each fact and widening that names what the loop assigns. In
-- `for (i = 0; i < n; i = i + 1)` nothing of `i = 0` is left there.
abbrev pub less : Frame → List ℕ → State → State
less frame [] at = at
less frame (k ∷ ks) at = less frame ks (assigned frame k None at)

-- whether two facts are the same
abbrev pub same_fact : Fact → Fact → Bool
same_fact f g = (f.x == g.x) && ((f.y == g.y) && int_eq f.c g.c)

-- the facts that are in both lists
abbrev pub in_both : List Fact → List Fact → List Fact
in_both fs gs = filter (λ f. list_any (same_fact f) gs) fs

-- the widened locals that are in both lists
abbrev pub wide_in_both : List ℕ → List ℕ → List ℕ
wide_in_both ps qs = filter (λ p. list_any (λ q. q == p) qs) ps

-- After an `if` holds what holds in both ends. An end that cannot be reached does not count.
abbrev pub joined : State → State → State
joined at other =
    if at.reached
    then (if other.reached
    then record at { facts = record at.facts { list = in_both at.facts.list other.facts.list }; widened = wide_in_both at.widened other.widened }
    else at)
    else other

-- the ranges of the types of locals, of which the first is variable x
abbrev pub ranges_from : ℕ → List Local → Known → Known
ranges_from x [] facts = facts
ranges_from x (l ∷ ls) facts = ranges_from (x + 1) ls (with_range x (range_of l.ctype) facts)

-- the ranges of the types of all locals
abbrev pub ranges : Frame → Known
ranges frame = ranges_from 1 frame.locals (record { vars = length frame.locals + 1; list = [] })

-- At the begin of a function the ranges of types are all that is known.
abbrev pub entry : Frame → State
entry frame = record { reached = true; facts = ranges frame; widened = [] }

-- A point that cannot be reached, as after `return`, has the empty set, beside the ranges of types.
abbrev pub unreached : Frame → State
unreached frame = record { reached = false; facts = ranges frame; widened = [] }
