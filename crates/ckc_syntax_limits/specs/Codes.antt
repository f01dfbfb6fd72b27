-- The codes of broken limits: the depth (E202), the nodes of a function or a text (E203), the locals of a function
-- (E204), the functions, objects or string literals of a text (E205).
use Rattle.std.specs.Prelude.{ℕ}

-- E202: statements and expressions that stand too deep in one another
abbrev pub too_deep : ℕ
too_deep = 202

-- E203: a function or a text with too many nodes
abbrev pub too_many_nodes : ℕ
too_many_nodes = 203

-- E204: a function with too many locals and parameters
abbrev pub too_many_locals : ℕ
too_many_locals = 204

-- E205: a text with too many functions, objects or string literals
abbrev pub too_many_items : ℕ
too_many_items = 205
