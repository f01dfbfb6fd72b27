-- The types with their tags named.
use Rattle.std.specs.Prelude.{Ok}
use Rattle.ckc_syntax.specs.declared.tree.TypeTree.{TypeTree-F, fold-TypeTree}
use Rattle.ckc_syntax.specs.declared.tree.TypeTree.TheVariants as ctype
use Rattle.ckc_resolve.specs.declared.names.Names.{Names}
use Rattle.ckc_base.specs.Outcomes.{Outcome, bind}
use Rattle.ckc_resolve.specs.Spellings.{Spelling}
use Rattle.ckc_resolve.specs.Trees.{TypeTree, NamedType}
use Rattle.ckc_resolve.specs.Meanings.{tag_named}

-- a type, by what the type that it points to becomes
abbrev pub type_parts : Names → TypeTree-F Spelling (Outcome NamedType) → Outcome NamedType
type_parts names TypeTree-F.Int = Ok ctype.Int
type_parts names TypeTree-F.Unsigned = Ok ctype.Unsigned
type_parts names TypeTree-F.Char = Ok ctype.Char
type_parts names TypeTree-F.Void = Ok ctype.Void
type_parts names (TypeTree-F.Struct s pos) = bind (tag_named names s pos) (λ n. Ok (ctype.Struct n pos))
type_parts names (TypeTree-F.Raw t pos) = bind t (λ u. Ok (ctype.Raw u pos))
type_parts names (TypeTree-F.One t) = bind t (λ u. Ok (ctype.One u))
type_parts names (TypeTree-F.Arr t) = bind t (λ u. Ok (ctype.Arr u))
type_parts names (TypeTree-F.Nt t) = bind t (λ u. Ok (ctype.Nt u))

-- a type with its tag replaced by what it means
abbrev pub type_named : Names → TypeTree → Outcome NamedType
type_named names = fold-TypeTree Spelling (Outcome NamedType) (type_parts names)
