use Rattle.std.proofs.Common.{[], sym, ◌∙◌, ap}
use Rattle.ckc_interp.specs.code.Views.{work_of, next_of_call}
use Rattle.ckc_interp.proofs.Working.{stacked-push, stacked-nil, nil_of}
use Rattle.ckc_interp.proofs.work.take_front.Goals as goal

pub returns-in-Some-clause-front : goal.returns-in-Some-clause-front
returns-in-Some-clause-front c = ap next_of_call c.in-Some.ensures.items ∙ stacked-push work_of c.pop.new.self.items c.in-Some.front []

pub returns-in-None-clause-front : goal.returns-in-None-clause-front
returns-in-None-clause-front c = ap next_of_call (nil_of c.args.work.now.items (sym c.args.work.now.ok.0 ∙ c.in-None.ensures.cases.0)) ∙ stacked-nil work_of []

pub returns-in-None-clause-empty : goal.returns-in-None-clause-empty
returns-in-None-clause-empty c = ap next_of_call (nil_of c.pop.new.self.items (sym c.pop.new.self.ok.0 ∙ c.in-None.ensures.cases.1)) ∙ stacked-nil work_of []
