-- Blocks at their places, or the fault of ending too late.
use Rattle.std.specs.Prelude.{ℕ, nat_lt, List, Ok}
use Rattle.ckc_types.specs.declared.types.Structs.{Structs}
use Rattle.ckc_typed.specs.Codes.{late_statics}
use Rattle.ckc_typed.specs.declared.typed.StaticObject.{StaticObject}
use Rattle.ckc_base.specs.Outcomes.{Outcome, unless}
use Rattle.ckc_base.specs.MemoryMap.{statics_end}
use Rattle.ckc_typed.specs.Statics.{placed, end_of_blocks}
use Rattle.ckc_base.specs.Places.{start}

-- the blocks after an end
abbrev pub placed_behind : Structs → ℕ → List StaticObject → Outcome (List StaticObject)
placed_behind structs end os = unless (nat_lt statics_end (end_of_blocks structs end os)) late_statics start (Ok (placed structs end os))
