use Rattle.std.proofs.Common.{◌≡◌, ◌+◌, ◌*◌, ◌++◌, ◌∷◌, codes, length, take}
use Rattle.std.specs.List.{flat_map}
use Rattle.ckc_asm.specs.Names.{hex}
use Rattle.ckc_asm_listing.proofs.texts.data_line.Given as goal

abbrev pub invariant-loop-byte : goal.invariant-loop-byte
invariant-loop-byte l = record {
  text : l.line ≡ codes ".data" ++ flat_map (λ byte. 32 ∷ hex 2 byte) (take l.byte-index l.bytes);
  size : length l.line ≡ 5 + 3 * l.byte-index;
}
