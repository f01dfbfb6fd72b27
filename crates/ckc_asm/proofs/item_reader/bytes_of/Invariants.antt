use Rattle.std.proofs.Common.{◌≡◌, ◌++◌, length, drop}
use Rattle.std.specs.Option.{option_map}
use Rattle.ckc_asm.specs.code.Rows.{texts_of}
use Rattle.ckc_asm.specs.code.Found.{bytes_of}
use Rattle.ckc_asm.proofs.item_reader.bytes_of.Given as goal

abbrev pub invariant-loop-word : goal.invariant-loop-word
invariant-loop-word l = record {
  count : length l.bytes ≡ l.word-index;
  bytes : option_map (λ rest. l.bytes ++ rest) (bytes_of (texts_of (drop l.word-index l.words))) ≡ bytes_of (texts_of l.words);
}
