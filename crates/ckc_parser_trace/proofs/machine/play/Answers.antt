use Rattle.ckc_parser_grammar.specs.code.Marked.{ahead}
use Rattle.ckc_parser_trace.specs.code.Turns.{symbol_of}
use Rattle.ckc_parser_trace.proofs.Moving.{row_played, one_left, none_left}
use Rattle.ckc_parser_trace.proofs.machine.play.Goals as goal

pub returns-in_ok-take_token : goal.returns-in_ok-take_token
returns-in_ok-take_token c =
    let some = c.in-Some-Some-Some in
    row_played (symbol_of c.args.symbol) c.args.row.now c.in-Some.front.now c.in-Some.back.now (ahead c.args.reader.now) (ahead c.take_token.new.reader) c.args.stack.now.items c.append-2.new.list.items c.args.trace.now.items
    c.append.new.list.items some.opened some.takes some.left c.requires c.in-Some.ensures.cases.1 c.in-Some.ensures.cases.2 some.ensures some.ensures' some.ensures'' c.in_ok-append.ensures c.in_ok-append-2.ensures
    (one_left some.takes (ahead c.args.reader.now) (ahead c.take_token.new.reader) c.if-takes-eq1.true c.in_ok-take_token.ensures)

pub returns-else-takes-eq1 : goal.returns-else-takes-eq1
returns-else-takes-eq1 c =
    let some = c.in-Some-Some-Some in
    row_played (symbol_of c.args.symbol) c.args.row.now c.in-Some.front.now c.in-Some.back.now (ahead c.args.reader.now) (ahead c.args.reader.now) c.args.stack.now.items c.append-2.new.list.items c.args.trace.now.items
    c.append.new.list.items some.opened some.takes some.left c.requires c.in-Some.ensures.cases.1 c.in-Some.ensures.cases.2 some.ensures some.ensures' some.ensures'' c.in_ok-append.ensures c.in_ok-append-2.ensures
    (none_left some.takes (ahead c.args.reader.now) c.if-takes-eq1.false)
