-- How many nodes a typed text has: as many as are counted of its tree for the limits of a text.
use Rattle.std.specs.Prelude.{ℕ}
use Rattle.ckc_syntax_limits.specs.Marks.{marks_of, is_node}
use Rattle.ckc_syntax_limits.specs.Small.{how_many}
use Rattle.ckc_typed.specs.declared.typed.Typed.{Typed}

abbrev pub text_nodes : Typed → ℕ
text_nodes p = how_many is_node (marks_of p.tree)
