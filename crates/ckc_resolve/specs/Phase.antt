-- The names phase: each name of a tree is replaced by the declaration that it means.
use Rattle.std.specs.Prelude.{ℕ, Ok, Option}
use Rattle.ckc_base.specs.Outcomes.{Outcome, bind, phase_by}
use Rattle.ckc_base.specs.Phases.{Phase}
use Rattle.ckc_syntax.specs.declared.tree.NamedText.{NamedText}
use Rattle.ckc_resolve.specs.Spellings.{place_of}
use Rattle.ckc_resolve.specs.Trees.{Tree}
use Rattle.ckc_resolve.specs.Scoping.{names_of}
use Rattle.ckc_resolve.specs.Items.{all_named}
use Rattle.ckc_resolve.specs.Main.{name_of_main, main_named}

-- The tree of what its names mean, with the number of its function `main`; or the first error of the names in walk
-- order: items in the order of the text, and the want of a `main` last.
abbrev pub text_named : Tree → Outcome NamedText
text_named tree =
    bind (all_named (names_of tree) tree.items) (λ items. bind (main_named (names_of tree) tree.items) (λ main.
    Ok (record { tree = record { items = items }; main = main })))

-- the names phase
abbrev pub naming : Phase Tree NamedText
naming = phase_by text_named

-- the place of `main` among the functions, if the tree declares it
abbrev pub place_of_main : Tree → Option ℕ
place_of_main tree = place_of (names_of tree).functions name_of_main
