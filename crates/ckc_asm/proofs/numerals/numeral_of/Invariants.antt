use Rattle.std.proofs.Common.{◌≡◌, ◌≤◌, ◌^◌, min, true, take}
use Rattle.std.specs.Char.{is_digit}
use Rattle.std.specs.List.{list_all}
use Rattle.std.specs.Str.Parse.{digits_value}
use Rattle.ckc_asm.proofs.numerals.numeral_of.Given as goal

abbrev pub invariant-loop-b : goal.invariant-loop-b
invariant-loop-b l = record {
  small : l.value ≤ 2 ^ 40;
  value : l.value ≡ min (digits_value l.radix (take l.b-index l.w)) (2 ^ 40);
  digits : list_all (λ b. is_digit b l.radix) (take l.b-index l.w) ≡ true;
}
