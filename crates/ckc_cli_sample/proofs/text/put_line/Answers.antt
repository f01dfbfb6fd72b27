use Rattle.std.proofs.Common.{◌∙◌}
use Rattle.std.proofs.lemmas.Result.{on_ok_weaker}
use Rattle.ckc_cli_sample.proofs.Growing.{grows_line}
use Rattle.ckc_cli_sample.proofs.text.put_line.Goals as goal

pub returns : goal.returns
returns c = λ words e. on_ok_weaker c.put.result (λ h. grows_line _ _ _ words h (c.as_bytes.ensures ∙ e)) c.put.ensures
