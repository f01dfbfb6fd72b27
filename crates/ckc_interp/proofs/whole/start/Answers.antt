use Rattle.std.proofs.Common.{[], map, ◌∙◌, ap}
use Rattle.ckc_source.specs.Blocks.{block_of, place_behind, first_place}
use Rattle.ckc_source.specs.Code.{function_of}
use Rattle.ckc_source.specs.States.{entered}
use Rattle.ckc_interp.specs.code.Views.{caller_of, stacked}
use Rattle.ckc_interp.proofs.Acting.{state_parts}
use Rattle.ckc_interp.proofs.Working.{stacked-nil}
use Rattle.ckc_interp.proofs.whole.start.Goals as goal

pub returns-clause-state : goal.returns-clause-state
returns-clause-state c =
    state_parts _ _ _ _ _ _ _ _
    (c.in_ok-blocks.ensures.blocks ∙ ap (map block_of) c.as_slice.ensures)
    (c.in_ok-blocks.ensures.next ∙ ap (λ os. place_behind first_place (map block_of os)) c.as_slice.ensures)
    (c.in_ok-frame.ensures ∙ ap (entered (function_of c.args.main.now)) c.new-2.ensures.items ∙ ap (λ f. entered f []) c.requires.main)
    (ap (λ xs. stacked caller_of xs []) c.new-3.ensures.items ∙ stacked-nil caller_of [])
