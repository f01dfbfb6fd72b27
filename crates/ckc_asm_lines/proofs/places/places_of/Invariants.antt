use Rattle.std.proofs.Common.{◌≡◌, nat_eq}
use Rattle.indexmap.specs.IndexMap.{get}
use Rattle.ckc_asm_lines.specs.Assembled.{address_of}
use Rattle.ckc_asm_lines.specs.code.Places.{KnowsPlaces}
use Rattle.ckc_asm_lines.proofs.places.places_of.Given as goal

abbrev pub invariant-loop-line : goal.invariant-loop-line
invariant-loop-line l = record {
  at : l.address ≡ address_of l.lines l.line-index;
  knows : KnowsPlaces (λ label. get nat_eq l.places label) l.lines l.line-index;
}
