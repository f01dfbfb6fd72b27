use Rattle.std.proofs.Common.{Some, sym, ap, ◌∙◌}
use Rattle.std.specs.Option.{option_map}
use Rattle.ckc_outside.proofs.Files.{get_named, items_of}
use Rattle.ckc_outside.proofs.memory.store.bytes_under.Goals as goal

pub returns-in-Some : goal.returns-in-Some
returns-in-Some c =
    ap Some c.as_slice.ensures.value ∙ ap (option_map items_of) c.in-Some.ensures.value ∙ sym (get_named c.args.files.now c.args.name.now)

pub returns-in-None : goal.returns-in-None
returns-in-None c = ap (option_map items_of) c.in-None.ensures.value ∙ sym (get_named c.args.files.now c.args.name.now)
