-- Bounds-safe interfaces (Checked C specification 0.9, section 6): a parameter `T *p` with bounds. Code that is not
-- converted passes a `T *`, and checked code reads an `_Array_ptr<T>` with these bounds.
use Rattle.std.specs.Prelude.{Bool, true, false, if◌then◌else◌, List, map, Option, None, Some, is_some}
use Rattle.ckc_base.specs.declared.arithmetic.Mode.{Mode}
use Rattle.ckc_base.specs.declared.arithmetic.Mode.TheVariants.{Checked, Unchecked}
use Rattle.ckc_syntax.specs.declared.tree.TypeTree.{TypeTree, TypeTree-F, out-TypeTree}
use Rattle.ckc_syntax.specs.declared.tree.TypeTree.TheVariants as types
use Rattle.ckc_syntax.specs.declared.tree.Decl.{Decl}
use Rattle.ckc_syntax.specs.declared.tree.Head.{Head}

-- whether an interface may point to a type: to all but `void` and unchecked pointers, since it has one star
abbrev pub may_be_shared : {N X : Type 0} → TypeTree-F N X → Bool
may_be_shared TypeTree-F.Void = false
may_be_shared (TypeTree-F.Raw t at) = false
may_be_shared _ = true

-- the type that an unchecked pointer points to, if an interface may do so
abbrev pub shared_in : {N : Type 0} → TypeTree-F N (TypeTree N) → Option (TypeTree N)
shared_in {N} (TypeTree-F.Raw t at) = if may_be_shared (out-TypeTree N t) then Some t else None
shared_in _ = None

-- the type that a parameter points to, if it is an interface: an unchecked pointer with bounds
abbrev pub interface_to : {N A : Type 0} → Decl N A → Option (TypeTree N)
interface_to {N} d = if is_some d.bounds then shared_in (out-TypeTree N d.ctype) else None

-- whether a parameter is an interface
abbrev pub is_interface : {N A : Type 0} → Decl N A → Bool
is_interface d = is_some (interface_to d)

-- In checked code an interface to a type is an `_Array_ptr` with its bounds, in unchecked code a `T *` without them.
abbrev pub seen_as : {N A : Type 0} → Mode → Decl N A → Option (TypeTree N) → Decl N A
seen_as mode d None = d
seen_as Checked d (Some t) = record d { ctype = types.Arr t }
seen_as Unchecked d (Some t) = record d { bounds = None }

-- a parameter as a body of a mode sees it
abbrev pub seen : {N A : Type 0} → Mode → Decl N A → Decl N A
seen mode d = seen_as mode d (interface_to d)

-- The parameters of a function as a body of a mode sees them. The callers of a function see them as checked code does.
abbrev pub seen_params : {N A : Type 0} → Mode → Head N A → List (Decl N A)
seen_params mode h = map (seen mode) h.params
