-- What is seen of an input of no bytes, and of an output that counts alone.
use Rattle.std.specs.Prelude.{true, [], Some, None}
use Rattle.ckc_outside.specs.Outside.{SeenSource, SeenSink}
use Rattle.ckc_cli_sample.specs.declared.alone.Nothing.{Nothing}
use Rattle.ckc_cli_sample.specs.declared.alone.Counter.{Counter}

-- there is no byte left, and it never fails
abbrev pub seen_nothing : Nothing → SeenSource
seen_nothing s = record { left = Some []; ended = true; asks = s.asks; answers = 0; faults = 0 }

-- it tells nothing of what was put, and never fails
abbrev pub seen_counter : Counter → SeenSink
seen_counter s = record { written = None; puts = s.puts; faults = 0 }
