use Rattle.std.proofs.Common.{ap, ◌∙◌, arith}
use Rattle.std.proofs.lemmas.Result.{err_from_is_err_and}
use Rattle.ckc_asm_listing.specs.Listing.{ended, data_text}
use Rattle.ckc_asm_listing.proofs.Pieces.{put_none, put_next, fail_next}
use Rattle.ckc_asm_listing.proofs.lister.put_data.Goals as goal

pub loop-k-init : goal.loop-k-init
loop-k-init g c = put_none _

pub loop-k-preserved : goal.loop-k-preserved
loop-k-preserved g c = put_next _ _ _ _ _ c.loop-k.invariant (c.in_ok-put_line.ensures _ (c.data_line.ensures ∙ ap (λ w. ended (data_text w)) c.sixteen.ensures.bytes))

pub returns-in_err-put_line : goal.returns-in_err-put_line
returns-in_err-put_line g c =
    let p = err_from_is_err_and c.from_residual.result c.from_residual.ensures.1 in
    rw p.1 (fail_next _ _ _ _ _ _ (omega arith) c.loop-k.invariant (c.in_err-put_line.ensures _ (c.data_line.ensures ∙ ap (λ w. ended (data_text w)) c.sixteen.ensures.bytes)))
