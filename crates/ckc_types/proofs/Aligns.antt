-- Alignments are 1 or 4.
use Rattle.std.proofs.Common.{◌≤◌, List, [], ◌∷◌, arith}
use Rattle.ckc_types.specs.declared.types.CType.{CType, CType-F, out-CType}
use Rattle.ckc_types.specs.declared.types.MemberShape.{MemberShape}
use Rattle.ckc_types.specs.Scalars.{align_of_form}
use Rattle.ckc_types.specs.Layout.{struct_align}

form_at_most : (form : CType-F CType) → align_of_form form ≤ 4
form_at_most CType-F.Int = omega arith
form_at_most CType-F.Unsigned = omega arith
form_at_most CType-F.Char = omega arith
form_at_most CType-F.Void = omega arith
form_at_most (CType-F.Struct tag) = omega arith
form_at_most (CType-F.Pointer kind to) = omega arith

pub struct_align_positive : (ms : List MemberShape) → 1 ≤ struct_align ms
struct_align_positive [] = omega arith
struct_align_positive (m ∷ ms) = let rest = struct_align_positive ms in omega arith

pub struct_align_at_most : (ms : List MemberShape) → struct_align ms ≤ 4
struct_align_at_most [] = omega arith
struct_align_at_most (m ∷ ms) =
    let here = form_at_most (out-CType m.ctype) in
    let rest = struct_align_at_most ms in
    omega arith
