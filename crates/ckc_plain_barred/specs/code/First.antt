-- The first of the places where effects are refused.
use Rattle.std.specs.Prelude.{Bool, List, [], ◌∷◌, Option, None, Some}
use Rattle.ckc_base.specs.declared.places.Pos.{Pos}
use Rattle.ckc_syntax.specs.Inside.{listed, inside_if, inside_each}
use Rattle.ckc_syntax.specs.Trees.{NamedItem, NamedDecl, NamedStmt}
use Rattle.ckc_plain_barred.specs.declared.integers.Integers.{Integers}
use Rattle.ckc_plain_barred.specs.Barred.{in_stmt, in_decl, in_item}

abbrev pub first : List Pos → Option Pos
first [] = None
first (p ∷ ps) = Some p

-- the first of two places, of which the one goes before the other
abbrev pub either : Option Pos → Option Pos → Option Pos
either (Some p) b = Some p
either None b = b

-- the refused effects of a statement that may be left out, of statements, of declarations and of items
abbrev pub in_part : Integers → Option NamedStmt → Bool → List Pos
in_part known s barred = inside_if listed (λ t. in_stmt known t barred) s

abbrev pub in_each : Integers → List NamedStmt → Bool → List Pos
in_each known ss barred = inside_each listed (λ s. in_stmt known s barred) ss

abbrev pub in_decls : Integers → List NamedDecl → List Pos
in_decls known ds = inside_each listed (in_decl known) ds

abbrev pub in_items : Integers → List NamedItem → List Pos
in_items known is = inside_each listed (in_item known) is
