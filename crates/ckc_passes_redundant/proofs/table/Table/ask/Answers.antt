use Rattle.ckc_passes_redundant.proofs.Computing.{if_more}
use Rattle.ckc_passes_redundant.proofs.table.Table.ask.Goals as goal

pub returns : goal.returns
returns c =
    if_more c.note.result _ _ c.note.ensures (λ answer n. record {
      between = c.value_of.new.self;
      value = c.in_ok-value.value;
      computes = c.in_ok-value.ensures;
      notes = n;
    })
