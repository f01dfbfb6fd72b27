use Rattle.ckc_blame_sound.proofs.Returned.{result_read, result_reads, call_read}
use Rattle.ckc_blame_sound.proofs.contained_laws.results_are_bounded.Goals as goal

pub returns : goal.returns
returns c = record {
  returned = λ s store v w at e fresh n entry low high are will own is ends kept known placed from judged.
      result_read s store v w at entry n low high are will own is kept e fresh ends.low_end ends.high_end known placed from judged;
  read = λ s store w entry n low high will own ends read. result_reads s store w entry n low high will own ends.low_end ends.high_end read;
  called = λ s called locals entry m v w facts h es first own n low high text parameters counts are will arguments own_is result_is ends is read.
      call_read s called locals entry m v w facts h es first own n text parameters counts are will arguments own_is result_is low high ends is read;
}
