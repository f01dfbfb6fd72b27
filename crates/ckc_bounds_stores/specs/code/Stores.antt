-- Places of assignments as the code has them.
use Rattle.ckc_bounds_stores.specs.declared.placed.Placed as places
use Rattle.ckc_bounds_stores.specs.Stores.{Placed}

abbrev pub placed : places.Placed → Placed
placed p = record { target = p.target.now; right = p.right.now; pos = p.pos; from = p.from }
