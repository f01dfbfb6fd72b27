-- A type in pointers around it (ISO C11, 6.2.5, on derived types).
use Rattle.std.specs.Prelude.{List, [], ◌∷◌}
use Rattle.ckc_types.specs.declared.types.Kind.{Kind}
use Rattle.ckc_types.specs.declared.types.CType.{CType}
use Rattle.ckc_types.specs.declared.types.CType.TheVariants as ctype

-- a type in pointers of these kinds, the outermost first
abbrev pub wrapped : List Kind → CType → CType
wrapped [] t = t
wrapped (kind ∷ inner) t = ctype.Pointer kind (wrapped inner t)
