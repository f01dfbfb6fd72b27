-- Unchecked pointers and arrays in types (Checked C specification 0.9, section 3, on checked scopes): whether a type
-- has some, and where a text writes them.
use Rattle.std.specs.Prelude.{List, [], ◌∷◌, ◌++◌, flat_map, Bool, true, false, ◌||◌, if◌then◌else◌}
use Rattle.ckc_base.specs.declared.places.Pos.{Pos}
use Rattle.ckc_types.specs.declared.types.Kind.{Kind}
use Rattle.ckc_types.specs.declared.types.Kind.TheVariants as kind
use Rattle.ckc_types.specs.declared.types.CType.{CType, CType-F, fold-CType}
use Rattle.ckc_syntax.specs.declared.tree.TypeTree.{TypeTree, TypeTree-F, fold-TypeTree}
use Rattle.ckc_syntax.specs.declared.tree.Length.{Length}
use Rattle.ckc_syntax.specs.declared.tree.Length.TheVariants as lengths
use Rattle.ckc_syntax.specs.declared.tree.Decl.{Decl}
use Rattle.ckc_syntax.specs.declared.tree.Head.{Head}
use Rattle.ckc_typed.specs.Interfaces.{is_interface}

-- whether a kind of pointers is unchecked
abbrev pub is_raw : Kind → Bool
is_raw kind.Raw = true
is_raw kind.One = false
is_raw kind.Arr = false
is_raw kind.Nt = false

-- whether an unchecked pointer stands in a type, by its outermost part and what is known of the inner type
abbrev pub raw_in_form : CType-F Bool → Bool
raw_in_form CType-F.Int = false
raw_in_form CType-F.Unsigned = false
raw_in_form CType-F.Char = false
raw_in_form CType-F.Void = false
raw_in_form (CType-F.Struct tag) = false
raw_in_form (CType-F.Pointer kind inner) = is_raw kind || inner

-- whether an unchecked pointer stands anywhere in a type; what a structure holds is declared elsewhere
abbrev pub has_raw : CType → Bool
has_raw = fold-CType Bool raw_in_form

-- the places of the `*` of a written type, from those of its inner type
abbrev pub stars_in_form : {N : Type 0} → TypeTree-F N (List Pos) → List Pos
stars_in_form TypeTree-F.Int = []
stars_in_form TypeTree-F.Unsigned = []
stars_in_form TypeTree-F.Char = []
stars_in_form TypeTree-F.Void = []
stars_in_form (TypeTree-F.Struct name at) = []
stars_in_form (TypeTree-F.Raw inner at) = inner ++ at ∷ []
stars_in_form (TypeTree-F.One inner) = inner
stars_in_form (TypeTree-F.Arr inner) = inner
stars_in_form (TypeTree-F.Nt inner) = inner

-- the places of the `*` of a written type, an inner type's before its own
abbrev pub stars : {N : Type 0} → TypeTree N → List Pos
stars {N} = fold-TypeTree N (List Pos) stars_in_form

-- the place of the `[` of an unchecked array
abbrev pub brackets : Length → List Pos
brackets lengths.Plain = []
brackets (lengths.Raw n at) = at ∷ []
brackets (lengths.Checked n) = []
brackets (lengths.Nt n) = []

-- where a declaration writes unchecked pointers and arrays: in its type, then the array that it is itself
abbrev pub raws_of_decl : {N A : Type 0} → Decl N A → List Pos
raws_of_decl d = stars d.ctype ++ brackets d.length

-- where a parameter does, which for an interface counts as nowhere
abbrev pub raws_of_param : {N A : Type 0} → Decl N A → List Pos
raws_of_param d = if is_interface d then [] else raws_of_decl d

-- where the head of a function does: in the type of its result, then in its parameters
abbrev pub raws_of_head : {N A : Type 0} → Head N A → List Pos
raws_of_head h = stars h.result ++ flat_map raws_of_param h.params
