use Rattle.std.proofs.Common.{rules}
use Rattle.ckc_cli_calls.proofs.files.keep_file.Goals as goal

pub returns-clause-kept : goal.returns-clause-kept
returns-clause-kept g c = search rules
