-- A written type in pointers around it (ISO C11, 6.2.5, on derived types).
use Rattle.std.specs.Prelude.{List, [], ◌∷◌}
use Rattle.ckc_syntax.specs.declared.pointers.Pointer.{Pointer}
use Rattle.ckc_syntax.specs.declared.pointers.Pointer.TheVariants as pointer
use Rattle.ckc_syntax.specs.declared.tree.TypeTree.{TypeTree}
use Rattle.ckc_syntax.specs.declared.tree.TypeTree.TheVariants as ctype

abbrev pub pointer_to : {N : Type 0} → Pointer → TypeTree N → TypeTree N
pointer_to (pointer.Raw pos) t = ctype.Raw t pos
pointer_to pointer.One t = ctype.One t
pointer_to pointer.Arr t = ctype.Arr t
pointer_to pointer.Nt t = ctype.Nt t

-- a type in these pointers, the outermost first
abbrev pub wrapped : {N : Type 0} → List Pointer → TypeTree N → TypeTree N
wrapped [] t = t
wrapped (outer ∷ inner) t = pointer_to outer (wrapped inner t)
