use Rattle.ckc_typed.specs.Texts.{item_typed}
use Rattle.ckc_typed_welltyped.specs.Noteless.{bare_item}
use Rattle.ckc_typed_welltyped.specs.Texts.{WellTypedItem}
use Rattle.ckc_typed_welltyped.proofs.Exactly.{exactly}
use Rattle.ckc_typed_welltyped.proofs.Texts.{item_gives, item_back}
use Rattle.ckc_typed_welltyped.proofs.laws.items_exactly.Goals as goal

pub returns : goal.returns
returns c = record {
  items = λ g m. exactly (item_typed g m) bare_item (WellTypedItem g m) (item_gives g m) (item_back g m);
}
