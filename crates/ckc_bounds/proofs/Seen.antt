-- What code of a mode sees of a parameter.
use Rattle.std.proofs.Common.{◌≡◌, refl}
use Rattle.std.specs.Prelude.{Option, None, Some}
use Rattle.ckc_base.specs.declared.arithmetic.Mode.{Mode}
use Rattle.ckc_base.specs.declared.arithmetic.Mode.TheVariants.{Checked, Unchecked}
use Rattle.ckc_syntax.specs.declared.tree.Name.{Name}
use Rattle.ckc_syntax.specs.declared.tree.TypeTree.{TypeTree}
use Rattle.ckc_typed.specs.Trees.{NotedDecl}
use Rattle.ckc_typed.specs.Interfaces.{interface_to, seen_as, seen}

as_named : (mode : Mode) (d : NotedDecl) (t : Option (TypeTree Name)) → (seen_as mode d t).name ≡ d.name
as_named mode d None = refl
as_named Checked d (Some t) = refl
as_named Unchecked d (Some t) = refl

pub same_name : (mode : Mode) (d : NotedDecl) → (seen mode d).name ≡ d.name
same_name mode d = as_named mode d (interface_to d)

as_long : (mode : Mode) (d : NotedDecl) (t : Option (TypeTree Name)) → (seen_as mode d t).length ≡ d.length
as_long mode d None = refl
as_long Checked d (Some t) = refl
as_long Unchecked d (Some t) = refl

pub same_length : (mode : Mode) (d : NotedDecl) → (seen mode d).length ≡ d.length
same_length mode d = as_long mode d (interface_to d)
