-- Members that take part in bounds: those whose bounds name a member, and those that are named.
use Rattle.std.specs.Prelude.{ℕ, ◌==◌, Bool, true, false, not, ◌&&◌, ◌||◌, List}
use Rattle.std.specs.List.{list_any, list_all}
use Rattle.ckc_types.specs.declared.types.MemberBounds.{MemberBounds}
use Rattle.ckc_types.specs.declared.types.MemberBounds.TheVariants as bounds
use Rattle.ckc_types.specs.declared.types.MemberShape.{MemberShape}
use Rattle.ckc_types.specs.declared.types.Structs.{Structs}
use Rattle.ckc_types.specs.Layout.{members_of}

-- whether bounds name the member m
abbrev pub names_member : ℕ → MemberBounds → Bool
names_member m (bounds.Named n c) = n == m
names_member m _ = false

-- whether bounds name any member
abbrev pub names_some : MemberBounds → Bool
names_some (bounds.Named n c) = true
names_some _ = false

-- whether bounds are written at a member
abbrev pub has_bounds : MemberBounds → Bool
has_bounds bounds.Nothing = false
has_bounds _ = true

-- whether the bounds of a member of the structure name the member m
abbrev pub is_named : Structs → ℕ → ℕ → Bool
is_named structs tag m = list_any (λ s. names_member m s.bounds) (members_of structs tag)

-- whether bounds are written at the member m
abbrev pub is_declared : Structs → ℕ → ℕ → Bool
is_declared structs tag m = list_any (λ s. (s.name == m) && has_bounds s.bounds) (members_of structs tag)

-- whether the bounds of the member m name a member
abbrev pub names_another : Structs → ℕ → ℕ → Bool
names_another structs tag m = list_any (λ s. (s.name == m) && names_some s.bounds) (members_of structs tag)

-- A member takes part in bounds if its bounds name a member, or another member's bounds name it: of
-- `int n; _Array_ptr<int> p : count(n);` both.
abbrev pub takes_part : Structs → ℕ → ℕ → Bool
takes_part structs tag m = names_another structs tag m || is_named structs tag m

-- E606: of such a member, and of one with declared bounds, there is no address.
abbrev pub has_no_address : Structs → ℕ → ℕ → Bool
has_no_address structs tag m = takes_part structs tag m || is_declared structs tag m

-- Alone such a member is assigned only null, and only if it has bounds and no bounds name it.
abbrev pub may_be_assigned_alone : Structs → ℕ → ℕ → Bool → Bool
may_be_assigned_alone structs tag m null =
    not (takes_part structs tag m) || (is_declared structs tag m && (not (is_named structs tag m) && null))

-- whether the member m is among the targets of a bundle
abbrev pub is_target : List ℕ → ℕ → Bool
is_target targets m = list_any (λ n. n == m) targets

-- whether a member and the one that its bounds name are targets
abbrev pub is_covered : List ℕ → MemberShape → MemberBounds → Bool
is_covered targets s (bounds.Named n c) = is_target targets s.name && is_target targets n
is_covered targets s _ = is_target targets s.name

-- whether a member is m, or its bounds name m
abbrev pub is_touched : ℕ → MemberShape → Bool
is_touched m s = (s.name == m) || names_member m s.bounds

-- whether a member has nothing to do with m, or is a target together with the member that its bounds name
abbrev pub is_kept : List ℕ → ℕ → MemberShape → Bool
is_kept targets m s = not (is_touched m s) || is_covered targets s s.bounds

-- In a bundle each member that is the target m or whose bounds name m is a target, and so is the one that its bounds name.
abbrev pub may_be_assigned_with : Structs → ℕ → ℕ → List ℕ → Bool
may_be_assigned_with structs tag m targets =
    not (takes_part structs tag m) || list_all (is_kept targets m) (members_of structs tag)
