-- Types in which each `_Nt_array_ptr` points to an integer.
use Rattle.std.specs.Prelude.{◌≡◌, ℕ, Bool, true, false, ◌&&◌, List, Some}
use Rattle.ckc_types.specs.declared.types.CType.{CType, CType-F, fold-CType}
use Rattle.ckc_types.specs.declared.types.Kind.{Kind}
use Rattle.ckc_types.specs.declared.types.Kind.TheVariants as kind
use Rattle.ckc_syntax.specs.declared.tree.Name.{Name}
use Rattle.ckc_typed.specs.declared.environment.Globals.{Globals}
use Rattle.ckc_typed.specs.declared.environment.Signature.{Signature}
use Rattle.ckc_typed.specs.declared.environment.Variable.{Variable}
use Rattle.ckc_typed.specs.Environment.{member_type, signature_named, type_of_name}

-- whether a type is fine, and whether it is an integer type
pub record Fine : Type 0 where
  pub fine : Bool
  pub integer : Bool

-- a pointer is fine if what it points to is; an `_Nt_array_ptr` also points to an integer
abbrev pub pointer_fine : Kind → Fine → Fine
pointer_fine kind.Nt f = record { fine = f.fine && f.integer; integer = false }
pointer_fine _ f = record { fine = f.fine; integer = false }

abbrev pub parts_fine : CType-F Fine → Fine
parts_fine CType-F.Int = record { fine = true; integer = true }
parts_fine CType-F.Unsigned = record { fine = true; integer = true }
parts_fine CType-F.Char = record { fine = true; integer = true }
parts_fine CType-F.Void = record { fine = true; integer = false }
parts_fine (CType-F.Struct tag) = record { fine = true; integer = false }
parts_fine (CType-F.Pointer k f) = pointer_fine k f

abbrev pub fineness : CType → Fine
fineness = fold-CType Fine parts_fine

-- each `_Nt_array_ptr` in the type, however deep, points to an integer
abbrev pub IsFine : CType → Type 0
IsFine t = (fineness t).fine ≡ true

-- What names mean among globals and variables has such types, and so have members and results.
pub record AreFine (globals : Globals) (variables : List Variable) : Type 0 where
  pub names : (n : Name) (t : CType) → type_of_name globals variables n ≡ Some t → IsFine t
  pub members : (tag : ℕ) (n : Name) (t : CType) → member_type globals.structs tag n ≡ Some t → IsFine t
  pub results : (n : Name) (s : Signature) → signature_named globals n ≡ Some s → IsFine s.result
