-- The values of an active call of compiled code: its locals, registers or places by number. One that the call has
-- not written has none.
use Rattle.std.specs.Prelude.{ℕ, ◌==◌, nat_lt, Bool, if◌then◌else◌, List, slice_get, Option, Some, None}

abbrev pub Values : Type 0
Values = ℕ → Option ℕ

abbrev pub none_written : Values
none_written r = None

-- the values with another one
unfoldable pub with_written : Values → ℕ → ℕ → Values
with_written values r value q = if q == r then Some value else values q

-- the values with the result of a call, which may have no target
abbrev pub with_result : Values → Option ℕ → ℕ → Values
with_result values (Some r) value = with_written values r value
with_result values None value = values

-- the values at the entry of a call: the first ones are the arguments
unfoldable pub first_values : List ℕ → Values
first_values arguments r = slice_get arguments r

-- whether one more call may be active beside so many: at most 1,024 are
abbrev pub has_room : ℕ → Bool
has_room active = nat_lt active 1024
