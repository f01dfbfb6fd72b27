-- Answers of a run that nothing cut short.
use Rattle.std.specs.Prelude.{Bool, true, false}
use Rattle.ckc_interp.specs.declared.seen.Seen.{Seen}
use Rattle.ckc_interp.specs.declared.seen.Seen.TheVariants as seen

-- whether no object failed and memory sufficed
abbrev pub is_whole : Seen → Bool
is_whole seen.ReadFault = false
is_whole seen.WriteFault = false
is_whole seen.Memory = false
is_whole answer = true
