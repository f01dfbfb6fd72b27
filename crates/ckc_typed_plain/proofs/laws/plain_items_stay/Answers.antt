use Rattle.ckc_typed_plain.proofs.Stay.{statics_count, functions_count, tags_count, members_differ, bodies_kept, main_kept}
use Rattle.ckc_typed_plain.proofs.laws.plain_items_stay.Goals as goal

pub returns : goal.returns
returns c = record {
  statics = statics_count;
  functions = functions_count;
  tags = tags_count;
  members = members_differ;
  bodies = bodies_kept;
  main = main_kept;
}
