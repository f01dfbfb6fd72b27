use Rattle.std.proofs.Common.{ap, ◌%◌, ◌∙◌, arith}
use Rattle.ckc_cli_sample.proofs.Growing.{number_none, number_more, begun_none, begun_more, whole}
use Rattle.ckc_cli_sample.proofs.text.sample_of.Goals as goal

pub loop-j-init : goal.loop-j-init
loop-j-init c = record { number = number_none c.args.seed; text = begun_none c.args.seed _ c.in_ok-text.ensures.items }

pub loop-j-preserved : goal.loop-j-preserved
loop-j-preserved c =
    let more = number_more c.args.seed c.loop-j.j _ _ c.loop-j.invariant.number c.next_number-number.ensures in
    record {
      number = more;
      text = begun_more c.args.seed c.loop-j.j _ _ _ c.loop-j.invariant.text (ap (λ n. n % 1000) more) c.in_ok-put_function.ensures;
    }

pub returns : goal.returns
returns c = whole c.args.seed c.args.size c.loop-j.j _ _ (omega arith) c.loop-j.invariant.text c.in_ok-put_main.ensures
