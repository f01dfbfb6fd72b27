use Rattle.std.proofs.Common.{[], sym, ◌∙◌, ap}
use Rattle.std.specs.Option.{option_copied}
use Rattle.ckc_source.specs.Steps.{returns, hands, comes_to}
use Rattle.ckc_interp_blocks.specs.Views.{shapes_of}
use Rattle.ckc_interp.specs.code.Turns.{Does}
use Rattle.ckc_interp.specs.code.Views.{frame_of, caller_of, core_of, stacked}
use Rattle.ckc_interp.proofs.Acting.{with_calls}
use Rattle.ckc_interp.proofs.Working.{stacked-push, stacked-nil, nil_of}
use Rattle.ckc_interp.proofs.run.Run.give_back.Goals as goal

pub returns-in-None-clause-moves : goal.returns-in-None-clause-moves
returns-in-None-clause-moves c =
    ap (λ cs. Does (returns (shapes_of c.args.self.now.blocks) (core_of c.args.self.now) cs c.args.n))
    (ap (λ xs. stacked caller_of xs []) (nil_of c.args.self.now.callers.items (sym c.args.self.now.callers.ok.0 ∙ c.in-None.ensures.cases.0)) ∙ stacked-nil caller_of [])

pub returns-in-Some-clause-moves : goal.returns-in-Some-clause-moves
returns-in-Some-clause-moves c =
    let s = core_of c.args.self.now in
    let shapes = shapes_of c.args.self.now.blocks in
    let target = c.in-Some.caller.target in
    ap (λ cs. Does (returns shapes s cs c.args.n)) (ap (λ xs. stacked caller_of xs []) c.in-Some.ensures.items ∙ stacked-push caller_of c.pop.new.self.items c.in-Some.caller [])
    ∙ (ap (λ f. Does (comes_to [] (hands shapes (with_calls s (frame_of f) (stacked caller_of c.pop.new.self.items [])) s.frame.function.result s.frame.entry target c.args.n))) (sym c.replace-done.ensures.after)
    ∙ ap (λ d. Does (comes_to [] (hands shapes (with_calls s (frame_of c.replace-done.new.dest) (stacked caller_of c.pop.new.self.items [])) d.function.now.result d.entry.items target c.args.n))) (sym c.replace-done.ensures.value)
    ∙ ap (λ l. Does (comes_to [] (hands shapes (with_calls s (frame_of c.replace-done.new.dest) (stacked caller_of c.pop.new.self.items [])) l c.replace-done.result.entry.items target c.args.n))) (sym c.as_ref.ensures.value)
    ∙ ap (λ e. Does (comes_to [] (hands shapes (with_calls s (frame_of c.replace-done.new.dest) (stacked caller_of c.pop.new.self.items [])) (option_copied c.as_ref.result) e target c.args.n))) (sym c.as_slice.ensures.value)
    ∙ ap (λ x. Does (comes_to [] x)) c.hand.ensures.done ∙ sym (c.quiet.ensures (core_of c.hand.new.self)))
