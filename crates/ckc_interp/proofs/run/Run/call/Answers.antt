use Rattle.std.proofs.Common.{◌≡◌, [], Some, sym, ◌∙◌, ap, arith}
use Rattle.std.proofs.lemmas.Result.{IfOk-weaker}
use Rattle.ckc_source.specs.Code.{program_of, function_of}
use Rattle.ckc_source.specs.Steps.{calls, enters}
use Rattle.ckc_interp_blocks.specs.Views.{shapes_of}
use Rattle.ckc_interp.specs.code.Turns.{Does, turn_asks}
use Rattle.ckc_interp.specs.code.Views.{caller_of, core_of}
use Rattle.ckc_interp.proofs.Acting.{calls_full, calls_at, function_some, function_none, length-stacked}
use Rattle.ckc_interp.proofs.run.Run.call.Goals as goal

pub returns-then-len-clause-moves : goal.returns-then-len-clause-moves
returns-then-len-clause-moves c =
    let count = length-stacked caller_of c.args.self.now.callers.items [] in
    ap Does (calls_full (program_of c.args.program.now) (core_of c.args.self.now) c.args.target c.args.callee c.args.at c.args.values.items (omega (arith, count, c.args.self.now.callers.ok.0)))

pub returns-in-Some-clause-moves : goal.returns-in-Some-clause-moves
returns-in-Some-clause-moves c =
    let count = length-stacked caller_of c.args.self.now.callers.items [] in
    let s = core_of c.args.self.now in
    let u = core_of c.enter_function.new.self in
    let f = function_of c.in-Some.function.now in
    IfOk-weaker c.enter_function.result
    (λ t. Does (enters (shapes_of c.args.self.now.blocks) s c.args.target c.args.values.items (Some f)) ≡ turn_asks t u)
    (λ t. Does (calls (program_of c.args.program.now) s c.args.target c.args.callee c.args.at c.args.values.items) ≡ turn_asks t u)
    (λ t is. ap Does (calls_at (program_of c.args.program.now) s c.args.target c.args.callee c.args.at c.args.values.items (Some f) (omega (arith, count, c.args.self.now.callers.ok.0))
    (function_some c.args.program.now.functions c.args.callee c.in-Some.function.now c.in-Some.ensures)
    ∙ ap (λ shapes. enters shapes s c.args.target c.args.values.items (Some f)) (sym c.requires)) ∙ is)
    c.enter_function.ensures.moves

pub returns-in-None-clause-moves : goal.returns-in-None-clause-moves
returns-in-None-clause-moves c =
    let count = length-stacked caller_of c.args.self.now.callers.items [] in
    ap Does (calls_at (program_of c.args.program.now) (core_of c.args.self.now) c.args.target c.args.callee c.args.at c.args.values.items _ (omega (arith, count, c.args.self.now.callers.ok.0))
    (function_none c.args.program.now.functions c.args.callee c.in-None.ensures))
