-- What the names of a typed text stand for in its program.
use Rattle.std.specs.Prelude.{ℕ, ◌-◌, ◌*◌, ℤ, Bool, false, if◌then◌else◌, find, Option, None, Some, slice_get}
use Rattle.ckc_types.specs.declared.types.Kind.{Kind}
use Rattle.ckc_types.specs.declared.types.CType.{CType}
use Rattle.ckc_types.specs.declared.types.Structs.{Structs}
use Rattle.ckc_syntax.specs.declared.tree.Name.{Name}
use Rattle.ckc_syntax.specs.declared.tree.Item.TheVariants as item
use Rattle.ckc_typed.specs.declared.environment.Amount.{Amount}
use Rattle.ckc_typed.specs.declared.typed.StaticObject.{StaticObject}
use Rattle.ckc_typed.specs.declared.typed.Typed.{Typed}
use Rattle.ckc_typed.specs.Trees.{NotedItem, NotedLimits}
use Rattle.ckc_typed.specs.Types.{kind_of}
use Rattle.ckc_typed.specs.Environment.{same_name}
use Rattle.ckc_typed.specs.Amounts.{amount_of_limits}
use Rattle.ckc_typed.specs.Constants.{size_of}
use Rattle.ckc_source.specs.declared.expr.Count.{Count}
use Rattle.ckc_source.specs.declared.expr.Count.TheVariants as count
use Rattle.ckc_build_values.specs.Kinds.{count_of_kind, size_behind}

-- ---- addresses: string literals are static objects after those that are declared

-- the address of a static object, and 0 if there is none
abbrev pub address_in : Option StaticObject → ℕ
address_in (Some o) = o.at
address_in None = 0

-- the address of the static object with a number
abbrev pub address_of : Typed → ℕ → ℕ
address_of p k = address_in (slice_get p.statics k)

-- the kind of pointer that the use of a static array gives, and none for all else
abbrev pub array_in : Option StaticObject → Option Kind
array_in (Some o) = o.array
array_in None = None

-- the kind of pointer that the use of the static object with a number gives, if it is an array
abbrev pub array_of : Typed → ℕ → Option Kind
array_of p k = array_in (slice_get p.statics k)

-- the last element of a null-terminated array lies after its upper bound
abbrev pub bytes_in : Structs → Option StaticObject → ℕ
bytes_in structs (Some o) = size_of structs o.element * (o.count - (if o.terminated then 1 else 0))
bytes_in structs None = 0

-- how many bytes the upper bound of a static array lies after its begin
abbrev pub bytes_of : Typed → ℕ → ℕ
bytes_of p k = bytes_in p.layout (slice_get p.statics k)

-- ---- how many elements a static pointer has (Checked C specification 0.9, section 3.1)

-- whether an item declares the object of this name
abbrev pub declares : Name → NotedItem → Bool
declares n (item.Static d) = same_name d.name n
declares n _ = false

-- the bounds in the declaration of a static object, if it has them
abbrev pub limits_in : Option NotedItem → Option NotedLimits
limits_in (Some (item.Static d)) = d.bounds
limits_in _ = None

-- the bounds that a static object is declared with
abbrev pub limits_declared : Typed → Name → Option NotedLimits
limits_declared p n = limits_in (find (declares n) p.tree.items)

-- a constant number of elements, if the amount names no variable
abbrev pub fixed_by : Option Name → ℤ → Option Count
fixed_by None c = Some (count.Fixed c)
fixed_by (Some n) c = None

-- The bounds of a static pointer are constants.
abbrev pub fixed_count : Option Amount → Option Count
fixed_count (Some a) = fixed_by a.variable a.number
fixed_count None = None

-- how many elements a static pointer has by its type and its declared bounds, if that is known
abbrev pub count_declared : Structs → CType → Option NotedLimits → Option Count
count_declared structs t None = count_of_kind (kind_of t)
count_declared structs t (Some l) = fixed_count (amount_of_limits structs (size_behind structs t) l)

-- how many elements the static pointer of this name has, if that is known
abbrev pub count_of_static : Typed → CType → Name → Option Count
count_of_static p t n = count_declared p.layout t (limits_declared p n)
