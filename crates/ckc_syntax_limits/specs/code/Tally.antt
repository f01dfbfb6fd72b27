-- How the marks of a tree are counted. A count that would pass 2 ^ 32 - 1 stays there.
use Rattle.std.specs.Prelude.{ℕ, ◌+◌, ◌-◌, ◌^◌, min, List, [], ◌∷◌}
use Rattle.ckc_syntax_limits.specs.declared.tally.Tally.{Tally}
use Rattle.ckc_syntax_limits.specs.Marks.{Mark, node, local, text, function, static}

abbrev pub raised : ℕ → ℕ
raised n = min (n + 1) (2 ^ 32 - 1)

abbrev pub counted : Tally → Mark → Tally
counted t node = record t { nodes = raised t.nodes }
counted t local = record t { locals = raised t.locals }
counted t text = record t { texts = raised t.texts }
counted t function = record t { functions = raised t.functions }
counted t static = record t { statics = raised t.statics }

abbrev pub tallied : Tally → List Mark → Tally
tallied t [] = t
tallied t (m ∷ ms) = tallied (counted t m) ms

abbrev pub nothing : Tally
nothing = record { nodes = 0; locals = 0; texts = 0; functions = 0; statics = 0 }
