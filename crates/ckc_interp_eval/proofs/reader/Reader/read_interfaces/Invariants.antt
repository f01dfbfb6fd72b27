use Rattle.std.proofs.Common.{◌≡◌, drop}
use Rattle.ckc_source.specs.Steps.{reads_interfaces}
use Rattle.ckc_interp_eval.specs.Stores.{store_of}
use Rattle.ckc_interp_eval.proofs.reader.Reader.read_interfaces.Given as goal

-- the interfaces so far could be read
abbrev pub invariant-loop-i : goal.invariant-loop-i
invariant-loop-i l =
    let s = store_of l.self in
    reads_interfaces s (drop l.i-index l.interfaces) ≡ reads_interfaces s l.interfaces
