use Rattle.std.proofs.Common.{◌≡◌, ◌++◌, take}
use Rattle.ckc_asm_listing.proofs.text_line.TextLine.push_text.Given as goal

abbrev pub invariant-loop-byte : goal.invariant-loop-byte
invariant-loop-byte l = l.self ≡ l.fn.self ++ take l.byte-index l.text
