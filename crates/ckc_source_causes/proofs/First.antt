-- The objects of a program lie in the data region when a run of it begins.
use Rattle.std.proofs.Common.{◌≡◌, refl, ℕ, ◌+◌, ◌*◌, ◌/◌, ◌%◌, ◌≤◌, List, [], ◌∷◌, map, arith}
use Rattle.std.specs.Prelude.{All}
use Rattle.std.proofs.lemmas.List.Elements.{All-nil, All-cons, All-head, All-tail}
use Rattle.ckc_base.specs.Memory.{data_end}
use Rattle.ckc_source.specs.declared.program.Object.{Object}
use Rattle.ckc_source.specs.Blocks.{Block, block_of, end_of, first_place, place_behind}
use Rattle.ckc_source.specs.Code.{Program}
use Rattle.ckc_source.specs.LaidOut.{AreApart, IsLaidOut}
use Rattle.ckc_source_causes.specs.Layouts.{Layout, LiesByType, IsLaidOutBy}
use Rattle.ckc_source_causes.specs.Causes.{LiesInData}
use Rattle.ckc_source_causes.proofs.Later.{LieInData}

from_low : (low : ℕ) (bs : List Block) (place : ℕ) → AreApart low bs place → low ≤ place
from_low low [] place a = a
from_low low (b ∷ bs) place a =
    let here = a.0 in
    let later = from_low (end_of b + 1) bs place a.1 in
    omega arith

objects_inside : (l : Layout) (low : ℕ) (os : List Object) (place : ℕ) → first_place ≤ low → place ≤ data_end → AreApart low (map block_of os) place → All (LiesByType l) os → All (LiesInData l) (map block_of os)
objects_inside l low [] place first below a lie = All-nil (LiesInData l)
objects_inside l low (o ∷ os) place first below a lie =
    let here = a.0 in
    let later = from_low (end_of (block_of o) + 1) (map block_of os) place a.1 in
    let by = All-head (LiesByType l) o os lie in
    All-cons (LiesInData l) (block_of o) (map block_of os) (record { first = omega arith; at = by.at; below = omega arith; size = by.size })
    (objects_inside l (end_of (block_of o) + 1) os place (omega arith) below a.1 (All-tail (LiesByType l) o os lie))

place_even : (place : ℕ) (bs : List Block) → place % 4 ≡ 0 → place_behind place bs % 4 ≡ 0
place_even place [] e = e
place_even place (b ∷ bs) e = place_even ((end_of b + 15) / 8 * 8) bs (even (end_of b))
  where
    even : (k : ℕ) → ((k + 15) / 8 * 8) % 4 ≡ 0
    even k = omega arith

pub first_inside : (p : Program) (l : Layout) → IsLaidOutBy p l → IsLaidOut p → LieInData l (map block_of p.objects) (place_behind first_place (map block_of p.objects))
first_inside p l laid out = record {
  blocks = objects_inside l first_place p.objects (place_behind first_place (map block_of p.objects)) (omega arith) out.below out.apart laid.objects;
  first = from_low first_place (map block_of p.objects) (place_behind first_place (map block_of p.objects)) out.apart;
  at = place_even first_place (map block_of p.objects) refl;
}
