-- What an initialisation, an assignment, a bundle and a return owe at a point, and the point after them: every pointer that
-- they touch is contained in its bounds (Checked C specification 0.9, sections 3.4 and 4.2).
use Rattle.std.specs.Prelude.{◌≡◌, ℕ, ◌==◌, nat_lt, Bool, true, false, not, ◌&&◌, ◌||◌, if◌then◌else◌, List, [], ◌∷◌, ◌++◌, map, length, Option, None, Some, Result, Ok, Err}
use Rattle.std.specs.List.{filter_map, find}
use Rattle.std.specs.Option.{option_map, option_or}
use Rattle.ckc_base.specs.declared.places.Pos.{Pos}
use Rattle.ckc_base.specs.declared.places.Refusal.{Refusal}
use Rattle.ckc_base.specs.declared.fault.Fault.{Fault}
use Rattle.ckc_base.specs.declared.fault.Fault.TheVariants as fault
use Rattle.ckc_base.specs.Outcomes.{Outcome}
use Rattle.ckc_linear.specs.declared.forms.Base.{Base}
use Rattle.ckc_linear.specs.declared.forms.Base.TheVariants as base
use Rattle.ckc_linear.specs.declared.forms.Form.{Form}
use Rattle.ckc_types.specs.declared.types.CType.{CType}
use Rattle.ckc_syntax.specs.declared.tree.Name.{Name}
use Rattle.ckc_syntax.specs.declared.tree.Act.{Act-F, out-Act}
use Rattle.ckc_typed.specs.declared.typed.Note.{Note}
use Rattle.ckc_typed.specs.Trees.{NotedExpr, NotedStmt, NotedAct}
use Rattle.ckc_bounds_points.specs.declared.frame.Bounds.{Bounds}
use Rattle.ckc_bounds_points.specs.declared.frame.Bounds.TheVariants as bounds
use Rattle.ckc_bounds_points.specs.declared.frame.Local.{Local}
use Rattle.ckc_bounds_points.specs.declared.frame.HeadBounds.{HeadBounds}
use Rattle.ckc_bounds_points.specs.declared.frame.Frame.{Frame}
use Rattle.ckc_bounds_points.specs.Shown.{Known}
use Rattle.ckc_bounds_points.specs.Frames.{local_at}
use Rattle.ckc_bounds_points.specs.Flow.{State, in_bounds, assigned}
use Rattle.ckc_bounds_points.specs.Forms.{in_type}
use Rattle.ckc_bounds_ranges.specs.declared.replacements.BaseBy.{BaseBy}
use Rattle.ckc_bounds_ranges.specs.declared.replacements.VariableBy.{VariableBy}
use Rattle.ckc_bounds_ranges.specs.Members.{may_be_assigned_alone, may_be_assigned_with}
use Rattle.ckc_bounds_views.specs.declared.variables.Member.{Member}
use Rattle.ckc_bounds_views.specs.Parts.{capped, fresh_behind}
use Rattle.ckc_bounds_points.specs.Codes.{not_contained, lost_bounds, assigned_alone}
use Rattle.ckc_bounds_views.specs.Views.{view}
use Rattle.ckc_bounds_stores.specs.declared.values.Numbered.{Numbered}
use Rattle.ckc_bounds_stores.specs.Targets.{local_of, member_variable, memory_bounds}
use Rattle.ckc_bounds_stores.specs.Values.{Value, new_value, same_value, holds}

-- `target = right`, with the place of its `=`
pub record Store : Type 0 where
  pub target : NotedExpr
  pub right : NotedExpr
  pub pos : Pos

-- an assignment in front of others; a statement of any other kind adds none
abbrev pub with_store : Act-F Name Note NotedAct NotedStmt → Pos → List Store → List Store
with_store (Act-F.Assign e f) pos rest = record { target = e; right = f; pos = pos } ∷ rest
with_store _ pos rest = rest

-- the assignments among statements
abbrev pub stores_of : List NotedStmt → List Store
stores_of [] = []
stores_of (s ∷ ss) = with_store (out-Act Name Note s.body) s.pos (stores_of ss)

-- an assignment whose right side numbers its values and its fresh variables from the given ones on
pub record Placed : Type 0 where
  pub target : NotedExpr
  pub right : NotedExpr
  pub pos : Pos
  pub from : Numbered

-- Right sides number their values one after another, and all expressions the fresh variables that they need at a point.
abbrev pub numbered : Frame → State → ℕ → ℕ → List Store → List Placed
numbered frame at value fresh [] = []
numbered frame at value fresh (s ∷ ss) =
    record {
      target = s.target;
      right = s.right;
      pos = s.pos;
      from = record { value = value; fresh = fresh_behind (view frame s.target) fresh at };
    } ∷ numbered frame at (capped value (view frame s.right).values)
    (fresh_behind (view frame s.right) (fresh_behind (view frame s.target) fresh at) at) ss

-- the form of what a target gets
abbrev pub received : Frame → Known → Placed → Option Form
received frame facts p = in_type facts p.target.note.ctype ((view frame p.right).form facts)

-- the place of what a target gets
abbrev pub place_of : Frame → Known → Placed → Option Form
place_of frame facts p = (view frame p.right).place p.from.value facts

-- what replaces a local that is assigned and at which bounds begin: the place of the right side
abbrev pub base_by : Frame → Known → Placed → Option BaseBy
base_by frame facts p = option_map (λ k. record { base = base.Local k; by = place_of frame facts p }) (local_of p.target)

-- what replaces a local that is assigned and that bounds count: the form of the right side
abbrev pub variable_by : Frame → Known → Placed → Option VariableBy
variable_by frame facts p = option_map (λ k. record { var = capped k 1; by = received frame facts p }) (local_of p.target)

-- At an assignment, each local pointer that is a target is replaced by the place of its right side, and each integer by
-- the form of it in the type of the target.
abbrev pub bases : Frame → Known → List Placed → List BaseBy
bases frame facts ps = filter_map (base_by frame facts) ps

-- what replaces the integers that are targets
abbrev pub variables : Frame → Known → List Placed → List VariableBy
variables frame facts ps = filter_map (variable_by frame facts) ps

-- whether bounds contain a value, once the locals that they name have their new values
unfoldable pub holds_by : Frame → List Placed → Value → Bounds → Bool
holds_by frame ps v limits = holds v limits (bases frame v.facts ps) (variables frame v.facts ps)

-- whether a target is the local k; none stands for a target that is no local
abbrev pub assigns : ℕ → Option ℕ → Bool
assigns k None = false
assigns k (Some j) = j == k

-- whether an assignment is one to the local k
abbrev pub assigns_local : ℕ → Placed → Bool
assigns_local k p = assigns k (local_of p.target)

-- whether bounds name a local; none stands for what is no local
abbrev pub is_in_bounds : Bounds → Option ℕ → Bool
is_in_bounds limits None = false
is_in_bounds limits (Some k) = in_bounds k limits

-- whether bounds name the local that is assigned
abbrev pub touches : Bounds → Placed → Bool
touches limits p = is_in_bounds limits (local_of p.target)

-- the error with this code at this place, unless a condition holds
abbrev pub refusal_unless : Bool → ℕ → Pos → Option Refusal
refusal_unless true code pos = None
refusal_unless false code pos = Some (record { code = code; pos = pos })

-- a target is contained in its bounds
abbrev pub target_fault : Frame → List Placed → State → Bounds → Placed → Option Refusal
target_fault frame ps at limits p =
    refusal_unless (holds_by frame ps (new_value frame p.target.note.ctype p.right p.from at) limits) not_contained p.pos

-- a pointer that is no target, but whose bounds name one, is contained in what they become
abbrev pub named_fault : Frame → List Placed → State → ℕ → Bounds → Option Placed → Option Refusal
named_fault frame ps at k limits None = None
named_fault frame ps at k limits (Some p) = refusal_unless (holds_by frame ps (same_value frame k at) limits) lost_bounds p.pos

-- the error of a pointer at the assignment to it, or else at the first one to a local that its bounds name
abbrev pub touched_fault : Frame → List Placed → State → ℕ → Bounds → Option Placed → Option Refusal
touched_fault frame ps at k limits (Some p) = target_fault frame ps at limits p
touched_fault frame ps at k limits None = named_fault frame ps at k limits (find (touches limits) ps)

-- the error of the local k by its bounds; if they are unknown there is none
abbrev pub fault_by_bounds : Frame → List Placed → State → ℕ → Bounds → Option Refusal
fault_by_bounds frame ps at k bounds.Unknown = None
fault_by_bounds frame ps at k (bounds.Known low high) =
    touched_fault frame ps at k (bounds.Known low high) (find (assigns_local k) ps)

-- the error of the local k, if there is such a local
abbrev pub fault_of_local : Frame → List Placed → State → ℕ → Option Local → Option Refusal
fault_of_local frame ps at k None = None
fault_of_local frame ps at k (Some l) = fault_by_bounds frame ps at k l.bounds

-- What a local pointer owes. Of `p : count(n)`, `p = q` is judged at its `=` as an assignment (E602), and `n = 3` as one
-- that leaves p (E604).
abbrev pub local_fault : Frame → List Placed → State → ℕ → Option Refusal
local_fault frame ps at k = fault_of_local frame ps at k (local_at frame k)

-- what replaces a member that is assigned: the form of the right side
abbrev pub member_by : Frame → Known → Placed → Option VariableBy
member_by frame facts p =
    option_map (λ m. record { var = member_variable m.number; by = received frame facts p }) (view frame p.target).member

-- A member that the bounds name and that is not assigned with the pointer has no form.
abbrev pub unassigned : Bounds → List VariableBy
unassigned bounds.Unknown = []
unassigned (bounds.Known low high) = if high.var == 0 then [] else record { var = high.var; by = None } ∷ []

-- what replaces the members that the bounds of a member name
abbrev pub members : Frame → Known → List Placed → Bounds → List VariableBy
members frame facts ps limits = filter_map (member_by frame facts) ps ++ unassigned limits

-- what replaces the base of a pointer's own bounds: the place of its new value
abbrev pub own_place : Base → Option Form → List BaseBy
own_place b place = record { base = b; by = place } ∷ []

-- whether the bounds of a pointer in memory contain the value that it gets
unfoldable pub holds_in_memory : Frame → List Placed → Placed → Value → Bounds → Bool
holds_in_memory frame ps p v limits =
    holds v limits (own_place (base.Value 0) (place_of frame v.facts p)) (members frame v.facts ps limits)

-- E602 if the known bounds of a pointer in memory do not contain the value that it gets
abbrev pub memory_fault_by : Frame → List Placed → State → Placed → Bounds → Option Refusal
memory_fault_by frame ps at p bounds.Unknown = None
memory_fault_by frame ps at p (bounds.Known low high) =
    let v = new_value frame p.target.note.ctype p.right p.from at in
    refusal_unless (holds_in_memory frame ps p v (bounds.Known low high)) not_contained p.pos

-- the members that are assigned
abbrev pub members_assigned : Frame → List Placed → List ℕ
members_assigned frame ps = filter_map (λ p. option_map (λ m. m.number) (view frame p.target).member) ps

-- whether a member may be assigned here, alone or with the other targets of the bundle
abbrev pub may_be_assigned : Frame → List Placed → Placed → Member → Bool
may_be_assigned frame ps p m =
    if length ps == 1 then may_be_assigned_alone frame.structs m.tag m.number (view frame p.right).null
    else may_be_assigned_with frame.structs m.tag m.number (members_assigned frame ps)

-- E605 if a target is a member that may not be assigned here
abbrev pub member_fault : Frame → List Placed → Placed → Option Member → Option Refusal
member_fault frame ps p None = None
member_fault frame ps p (Some m) = refusal_unless (may_be_assigned frame ps p m) assigned_alone p.pos

-- What an assignment to memory owes: E602 goes before E605 at the same `=`.
abbrev pub memory_fault : Frame → List Placed → State → Placed → Option Refusal
memory_fault frame ps at p =
    option_or (memory_fault_by frame ps at p (memory_bounds frame p.target)) (member_fault frame ps p (view frame p.target).member)

-- E604 of a local that the bounds of the result name, or else the error of an assignment to memory
abbrev pub target_fault_of : Frame → Bounds → List Placed → State → Placed → Option ℕ → Option Refusal
target_fault_of frame limits ps at p None = memory_fault frame ps at p
target_fault_of frame limits ps at p (Some k) = refusal_unless (not (in_bounds k limits)) lost_bounds p.pos

-- What a target owes beside the local pointers: memory is contained in its bounds, and no local that the bounds of the
-- function's result name is assigned.
abbrev pub store_fault : Frame → Bounds → List Placed → State → Placed → Option Refusal
store_fault frame limits ps at p = target_fault_of frame limits ps at p (local_of p.target)

-- whether a place comes before another one
abbrev pub comes_before : Pos → Pos → Bool
comes_before a b = nat_lt a.line b.line || ((a.line == b.line) && nat_lt a.col b.col)

-- The earliest place decides, then the least code.
abbrev pub decides : Refusal → Refusal → Bool
decides r s = comes_before r.pos s.pos || (not (comes_before s.pos r.pos) && nat_lt r.code s.code)

-- the one of two errors that is told
abbrev pub earlier : Option Refusal → Option Refusal → Option Refusal
earlier None other = other
earlier (Some r) None = Some r
earlier (Some r) (Some s) = if decides s r then Some s else Some r

-- the earliest error, one of some or of a list
abbrev pub earliest : Option Refusal → List (Option Refusal) → Option Refusal
earliest first [] = first
earliest first (r ∷ rs) = earliest (earlier first r) rs

-- the first error of assignments that are judged as one
abbrev pub first_fault : Frame → Bounds → List ℕ → List Placed → State → Option Refusal
first_fault frame result scope ps at =
    earliest (earliest None (map (local_fault frame ps at) scope)) (map (store_fault frame result ps at) ps)

-- the point after an assignment to a target; one that is no local changes nothing that is known
abbrev pub assigned_local : Frame → Option Form → State → Option ℕ → State
assigned_local frame form at None = at
assigned_local frame form at (Some k) = assigned frame k form at

-- The assignments in order. Their right sides stand in what was known before the first of them.
abbrev pub after : Frame → Known → List Placed → State → State
after frame facts [] at = at
after frame facts (p ∷ ps) at = after frame facts ps (assigned_local frame (received frame facts p) at (local_of p.target))

-- a point, unless there is an error
abbrev pub unless_refused : Option Refusal → State → Outcome State
unless_refused None at = Ok at
unless_refused (Some r) at = Err r

-- the point after assignments that are judged as one, or their first error
unfoldable pub stored_placed : Frame → Bounds → List ℕ → List Placed → State → Outcome State
stored_placed frame result scope ps at = unless_refused (first_fault frame result scope ps at) (after frame at.facts ps at)

-- The point after an assignment, or after those of a bundle, or their first error: E602 if a target is not contained in
-- its bounds, E604 if another pointer is not or if the bounds of the result lose what they name, E605 if a
-- member that takes part in bounds is not assigned as it must be. All right sides stand in old values.
abbrev pub stored : Frame → Bounds → List ℕ → List Store → ℕ → State → Outcome State
stored frame result scope ss fresh at = stored_placed frame result scope (numbered frame at 0 fresh ss) at

-- The point after assignments whatever they owe.
abbrev pub passed : Frame → List Store → ℕ → State → State
passed frame ss fresh at = after frame at.facts (numbered frame at 0 fresh ss) at

-- whether a value that goes to a place of type t is contained in bounds that begin at its own place, for the base b
unfoldable pub holds_from : Frame → CType → Base → NotedExpr → Numbered → State → Bounds → Bool
holds_from frame t b e n at limits =
    holds (new_value frame t e n at) limits (own_place b ((view frame e).place n.value (new_value frame t e n at).facts)) []

-- whether an initialiser is contained in the bounds of the local k, if there is such a local
abbrev pub initialised_local : Frame → ℕ → NotedExpr → Numbered → State → Option Local → Bool
initialised_local frame k e n at None = true
initialised_local frame k e n at (Some l) = holds_from frame l.ctype (base.Local k) e n at l.bounds

-- Whether the initialiser of the local k is contained in its bounds (else E602 at its name).
abbrev pub initialised : Frame → ℕ → NotedExpr → ℕ → State → Bool
initialised frame k e fresh at = initialised_local frame k e (record { value = 0; fresh = fresh }) at (local_at frame k)

-- Whether a returned value is contained in the bounds of the function's result (else E602 at `return`).
abbrev pub returned : Frame → HeadBounds → NotedExpr → ℕ → State → Bool
returned frame head e fresh at =
    holds_from frame head.result (base.Value 0) e (record { value = 0; fresh = fresh }) at head.bounds

-- The answer is the point after, unless memory ran out.
abbrev pub Threads : {A S : Type 0} → Result A Fault → S → Outcome S → Type 0
Threads (Ok a) new o = o ≡ Ok new
Threads (Err (fault.Refused r)) new o = o ≡ Err r
Threads (Err fault.Memory) new o = Unit {0}
