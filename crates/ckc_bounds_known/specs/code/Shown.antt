-- The comparison of two facts by which the known ones are searched.
use Rattle.std.specs.Prelude.{◌==◌, Bool, ◌&&◌, int_le}
use Rattle.ckc_linear.specs.declared.facts.Fact.{Fact}

-- whether a fact shows another one by itself: it has the same variables, and its number or a smaller one
abbrev pub shows : Fact → Fact → Bool
shows f g = (g.x == f.x) && ((g.y == f.y) && int_le g.c f.c)
