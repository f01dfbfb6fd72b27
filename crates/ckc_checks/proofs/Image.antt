-- How many bytes the data region begins with.
use Rattle.std.proofs.Common.{ℕ, ◌+◌, ◌-◌, ◌*◌, ◌≤◌, List, [], ◌∷◌, ◌++◌, length, replicate, arith, length-append}
use Rattle.std.specs.Prelude.{map, All}
use Rattle.std.proofs.lemmas.List.{length-replicate}
use Rattle.std.proofs.lemmas.List.Elements.{All-head, All-tail}
use Rattle.ckc_base.specs.Memory.{data_start}
use Rattle.ckc_source.specs.declared.program.Object.{Object}
use Rattle.ckc_source.specs.Code.{Program}
use Rattle.ckc_source.specs.Blocks.{block_of, end_of}
use Rattle.ckc_source.specs.LaidOut.{AreApart, IsLaidOut}
use Rattle.ckc_checks_operands.specs.Compilable.{BeginsLow, IsCompilable}
use Rattle.ckc_checks_follow.specs.code.Inserted.{image, first_bytes}

image_length : (objects : List Object) (a low place : ℕ) → a ≤ low → a ≤ data_start + 4194304 → AreApart low (map block_of objects) place → All BeginsLow objects
    → a + length (image a objects) ≤ data_start + 4194304
image_length [] a low place under below apart begins = omega arith
image_length (o ∷ objects) a low place under below apart begins =
    let next = o.at + length o.initial in
    let padding : List ℕ = replicate (o.at - a) 0 in
    let here : next ≤ data_start + 4194304 = All-head BeginsLow o objects begins in
    let behind : next ≤ end_of (block_of o) + 1 = omega (arith, length-append o.initial (replicate (o.size * o.count - length o.initial) 0)) in
    let rest = image_length objects next (end_of (block_of o) + 1) place behind here apart.1 (All-tail BeginsLow o objects begins) in
    omega (arith, apart.0, rest, length-append (padding ++ o.initial) (image next objects), length-append padding o.initial, length-replicate {A = ℕ} (o.at - a) 0)

-- they are at most 4 MiB
pub first_bytes_length : (p : Program) → IsCompilable p → IsLaidOut p → length (first_bytes p.objects) ≤ 4194304
first_bytes_length p w laid = omega (arith, image_length p.objects (data_start + 4) 0x02000008 _ (omega arith) (omega arith) laid.apart w.objects)
