-- The exit status and the line of each status.
use Rattle.std.specs.Prelude.{ℕ, ◌+◌, ◌%◌, List, [], ◌∷◌, ◌++◌, codes}
use Rattle.std.specs.Fmt.{decimal}
use Rattle.ckc_asm.specs.Names.{hex}
use Rattle.ckc_base.specs.declared.places.Pos.{Pos}
use Rattle.ckc_base.specs.Checks.{number_of, name_of}
use Rattle.ckc_machine.specs.declared.observed.FaultKind.{FaultKind}
use Rattle.ckc_machine.specs.declared.observed.FaultKind.TheVariants.{Fetch, Word, Align, Load, Store, Break, Call}
use Rattle.ckc_cli_commands.specs.declared.status.Status.{Status}
use Rattle.ckc_cli_commands.specs.declared.status.Status.TheVariants.{Done, Ended, Stopped, Going, MachineFault, Stuck, Usage, Refused, BadImage, ReadFault, WriteFault, StoreFault, Memory}

-- the exit status of the process
abbrev pub exit_of : Status → ℕ
exit_of Done = 0
exit_of (Ended value) = value % 256
exit_of (Stopped check at) = 100 + number_of check
exit_of Going = 110
exit_of (MachineFault kind pc) = 111
exit_of Usage = 112
exit_of (Refused refusal) = 113
exit_of (BadImage part) = 114
exit_of ReadFault = 115
exit_of WriteFault = 116
exit_of StoreFault = 117
exit_of Memory = 118
exit_of (Stuck at since) = 119

-- the name of a kind of fault
abbrev pub kind_name : FaultKind → List ℕ
kind_name Fetch = codes "fetch"
kind_name Word = codes "word"
kind_name Align = codes "align"
kind_name Load = codes "load"
kind_name Store = codes "store"
kind_name Break = codes "break"
kind_name Call = codes "call"

-- a line and a column, as 9:14
abbrev pub place : Pos → List ℕ
place at = decimal at.line ++ codes ":" ++ decimal at.col

-- the words of a status, without the end of the line
abbrev pub report_words : Status → List ℕ
report_words Done = []
report_words (Ended value) = []
report_words (Stopped check at) = codes "stopped: " ++ name_of check ++ codes " at " ++ place at
report_words Going = codes "going: limit reached"
report_words (MachineFault kind pc) = codes "fault: " ++ kind_name kind ++ codes " at 0x" ++ hex 8 pc
report_words (Stuck at since) = codes "stuck: at " ++ place at ++ codes ", unchecked since " ++ place since
report_words Usage = codes "ccc: wrong words"
report_words (Refused refusal) = codes "refused: E" ++ decimal refusal.code ++ codes " at " ++ place refusal.pos
report_words (BadImage part) = codes "bad image: part " ++ decimal part
report_words ReadFault = codes "fault: input"
report_words WriteFault = codes "fault: output"
report_words StoreFault = codes "fault: store"
report_words Memory = codes "fault: memory"

-- the words of a status and LF, or nothing if it has none
abbrev pub ended_line : List ℕ → List ℕ
ended_line [] = []
ended_line (c ∷ words) = c ∷ words ++ 10 ∷ []

-- the line of a status on standard error
abbrev pub report_of : Status → List ℕ
report_of status = ended_line (report_words status)
