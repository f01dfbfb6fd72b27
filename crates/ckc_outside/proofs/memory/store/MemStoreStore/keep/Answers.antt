use Rattle.std.proofs.Common.{Some, refl, ap, ◌∙◌}
use Rattle.ckc_outside.specs.MemStore.{files_of}
use Rattle.ckc_outside.proofs.Files.{torn_others, same_under}
use Rattle.ckc_outside.proofs.memory.store.MemStoreStore.keep.Goals as goal

pub returns-in-Err-clause-told : goal.returns-in-Err-clause-told
returns-in-Err-clause-told c = λ here e. (here, ap Some c.in-Err.ensures.err ∙ e, λ other apart. refl)

pub returns-then-fails-clause-told : goal.returns-then-fails-clause-told
returns-then-fails-clause-told c = λ here e.
    (files_of c.tear.new.self, refl, λ other apart. torn_others _ _ _ _ _ c.tear.ensures.files other apart ∙ same_under _ here e other)
