use Rattle.std.proofs.Common.{Some, ap, ◌∙◌}
use Rattle.std.specs.FinMap as fin
use Rattle.std.specs.String.{string_bytes}
use Rattle.std.proofs.lemmas.Map.Text.{btree_map_updates_text}
use Rattle.ckc_outside.specs.MemStore.{files_in}
use Rattle.ckc_outside.proofs.Files.{inserted}
use Rattle.ckc_outside.proofs.memory.store.MemStore.set.Goals as goal

pub returns-clause-ok : goal.returns-clause-ok
returns-clause-ok c =
    let old = c.args.self.now.files in
    let name = string_bytes c.in_ok-key.key in
    inserted old c.insert.new.self name c.args.bytes.now c.in_ok-bytes.bytes c.in_ok-bytes.ensures.items
    (btree_map_updates_text name old c.insert.new.self (Some c.in_ok-bytes.bytes) c.in_ok-insert.ensures.updates)
    ∙ ap (λ k. fin.insert (files_in old) k c.args.bytes.now) c.in_ok-key.ensures.ok
