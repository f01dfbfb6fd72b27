use Rattle.std.proofs.Common.{sym, ◌∙◌, ap, map, ◌++◌}
use Rattle.ckc_source.specs.Code.{function_of}
use Rattle.ckc_build_elaborate.specs.Functions.{function_elaborated, functions_in}
use Rattle.ckc_build_elaborate.proofs.Turns.{map_more, on_ok}
use Rattle.ckc_build_elaborate.proofs.functions.add.Goals as goal

pub returns-in_ok-made-in-Function : goal.returns-in_ok-made-in-Function
returns-in_ok-made-in-Function c =
    on_ok c.push.result
    (λ e. map_more function_of c.args.all.now c.push.new.self c.in_ok-made-in-Function.made (function_elaborated c.args.typed.now c.args.first c.in-Function.h c.in-Function.body) e
    (c.in_ok-made-in-Function.ensures
    ∙ ap (λ h. function_elaborated c.args.typed.now c.args.first h c.get-in-Function.result.now) c.get.ensures
    ∙ ap (function_elaborated c.args.typed.now c.args.first c.in-Function.h) c.get-in-Function.ensures)
    ∙ ap (λ i. map function_of c.args.all.now ++ functions_in c.args.typed.now c.args.first i) (sym c.in-Function.is))
    c.push.ensures.ok
