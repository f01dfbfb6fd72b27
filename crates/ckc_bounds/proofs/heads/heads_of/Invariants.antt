use Rattle.std.proofs.Common.{◌≡◌, [], drop}
use Rattle.ckc_bounds.specs.Declarations.{heads_from}
use Rattle.ckc_bounds.specs.code.Declarations.{text_of}
use Rattle.ckc_bounds.proofs.heads.heads_of.Given as goal

abbrev pub invariant-loop-item : goal.invariant-loop-item
invariant-loop-item l = record {
  heads : heads_from (text_of l.fn.frame) [] l.items ≡ heads_from (text_of l.fn.frame) l.heads (drop l.item-index l.items);
  kept : text_of l.frame ≡ text_of l.fn.frame;
}
