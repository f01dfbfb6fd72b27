use Rattle.std.proofs.Common.{sym, ◌∙◌, ap}
use Rattle.ckc_source.specs.States.{begun, resumed}
use Rattle.ckc_source.specs.Code.{code_of}
use Rattle.ckc_interp.specs.code.Views.{next_of_call, leaving_of}
use Rattle.ckc_interp.specs.declared.work.Work.TheVariants.{Rest, Turn}
use Rattle.ckc_interp.specs.declared.work.Leaving.TheVariants.{Ended, Broken, Continued}
use Rattle.ckc_interp.proofs.Working.{resumed-rest, resumed-turn_broken, resumed-turn_ended, resumed-turn_continued, resumed-rest_broken, resumed-rest_continued, front_is, left_so}
use Rattle.ckc_interp.proofs.work.leave.Goals as goal

pub returns-in-Ended-Rest-clause-left : goal.returns-in-Ended-Rest-clause-left
returns-in-Ended-Rest-clause-left c =
    let behind = next_of_call c.args.work.now.items in
    left_so c.begin.result (next_of_call c.begin.new.work.items) _ _
    (sym (front_is c.args.how Ended c.args.front (Rest c.in-Ended-Rest.code) behind c.in-Ended-Rest.is-0 c.in-Ended-Rest.is-1 ∙ resumed-rest (code_of c.in-Ended-Rest.code.now) behind))
    c.begin.ensures.left

pub returns-in_ok-turn-in-Ended-Turn-clause-left : goal.returns-in_ok-turn-in-Ended-Turn-clause-left
returns-in_ok-turn-in-Ended-Turn-clause-left c =
    let behind = next_of_call c.args.work.now.items in
    c.in_ok-turn-in-Ended-Turn.ensures
    ∙ sym (front_is c.args.how Ended c.args.front (Turn c.in-Ended-Turn.code) behind c.in-Ended-Turn.is-0 c.in-Ended-Turn.is-1 ∙ resumed-turn_ended (code_of c.in-Ended-Turn.code.now) behind)

pub returns-in_ok-turn-in-Continued-Turn-clause-left : goal.returns-in_ok-turn-in-Continued-Turn-clause-left
returns-in_ok-turn-in-Continued-Turn-clause-left c =
    let behind = next_of_call c.args.work.now.items in
    c.in_ok-turn-in-Continued-Turn.ensures
    ∙ sym (front_is c.args.how Continued c.args.front (Turn c.in-Continued-Turn.code) behind c.in-Continued-Turn.is-0 c.in-Continued-Turn.is-1 ∙ resumed-turn_continued (code_of c.in-Continued-Turn.code.now) behind)

pub returns-in-Broken-Rest-clause-left : goal.returns-in-Broken-Rest-clause-left
returns-in-Broken-Rest-clause-left c =
    let behind = next_of_call c.args.work.now.items in
    ap (λ h. resumed (leaving_of h) behind) c.in-Broken-Rest.is-0
    ∙ sym (front_is c.args.how Broken c.args.front (Rest c.in-Broken-Rest.field-0-1) behind c.in-Broken-Rest.is-0 c.in-Broken-Rest.is-1 ∙ resumed-rest_broken (code_of c.in-Broken-Rest.field-0-1.now) behind)

pub returns-in-Continued-Rest-clause-left : goal.returns-in-Continued-Rest-clause-left
returns-in-Continued-Rest-clause-left c =
    let behind = next_of_call c.args.work.now.items in
    ap (λ h. resumed (leaving_of h) behind) c.in-Continued-Rest.is-0
    ∙ sym (front_is c.args.how Continued c.args.front (Rest c.in-Continued-Rest.field-0-1) behind c.in-Continued-Rest.is-0 c.in-Continued-Rest.is-1 ∙ resumed-rest_continued (code_of c.in-Continued-Rest.field-0-1.now) behind)

pub returns-in-Broken-Turn-clause-left : goal.returns-in-Broken-Turn-clause-left
returns-in-Broken-Turn-clause-left c =
    let behind = next_of_call c.args.work.now.items in
    left_so c.begin-in-Broken-Turn.result (next_of_call c.begin-in-Broken-Turn.new.work.items) _ _
    (ap (λ code. begun code (λ how. resumed how behind) behind) c.behind.ensures
    ∙ sym (front_is c.args.how Broken c.args.front (Turn c.in-Broken-Turn.code) behind c.in-Broken-Turn.is-0 c.in-Broken-Turn.is-1 ∙ resumed-turn_broken (code_of c.in-Broken-Turn.code.now) behind))
    c.begin-in-Broken-Turn.ensures.left
