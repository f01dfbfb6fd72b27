-- What a set has after a key is inserted, said of the table.
use Rattle.std.proofs.Common.{◌≡◌, ℕ, Bool, true, not, List, Some, refl, sym, ap, subst, ◌∙◌}
use Rattle.std.specs.Prelude.{Contains}
use Rattle.std.specs.List.{slice_get, list_any, IsDistinct}
use Rattle.indexmap.specs.IndexSet.{insert_key}
use Rattle.ckc_passes_redundant.specs.declared.table.Value.TheVariants.{Computed}
use Rattle.ckc_passes_redundant.specs.declared.table.Work.{Work}
use Rattle.ckc_passes_redundant.specs.declared.table.Look.{Look}
use Rattle.ckc_passes_redundant.specs.declared.table.Table.{Table}
use Rattle.ckc_passes_redundant.specs.contracts.table.WorkPartialEq.TheImpl as works
use Rattle.ckc_passes_redundant.specs.contracts.table.LookPartialEq.TheImpl as looks
use Rattle.ckc_passes_redundant.specs.code.Tables.{held_in, Numbers, Notes}
use Rattle.ckc_passes_redundant.proofs.Equal.{same_work, work_itself, same_look, look_itself}
use Rattle.ckc_passes_redundant.proofs.Inserting.{once, stays, found, still_there, there_or_new, is_there}

pub numbers_inserted : (work stored : Work) (old new : Table) (i : ℕ) → new.works.keys ≡ insert_key works.ghosts.eq old.works.keys work
    → slice_get new.works.keys i ≡ Some stored → works.ghosts.eq work stored ≡ true → IsDistinct works.ghosts.eq new.works.keys
    → ((r : ℕ) → held_in new r ≡ held_in old r) → new.looks.keys ≡ old.looks.keys → Numbers work old new (Computed i)
numbers_inserted work stored old new i keys at same distinct held rest = record {
  at = (i, refl, at ∙ ap Some (sym (same_work work stored same)));
  kept = λ j other e. subst (λ (l : List Work). slice_get l j ≡ Some other) (sym keys) (stays works.ghosts.eq old.works.keys work j other e);
  distinct = once works.ghosts.eq work_itself new.works.keys distinct;
  held = held;
  looks = rest;
}

pub notes_inserted : (look wanted : Look) (old new : Table) (is_new : Bool) → look ≡ wanted → new.looks.keys ≡ insert_key looks.ghosts.eq old.looks.keys look
    → is_new ≡ not (list_any (looks.ghosts.eq look) old.looks.keys)
    → ((r : ℕ) → held_in new r ≡ held_in old r) → new.works.keys ≡ old.works.keys → Notes wanted old new (not is_new)
notes_inserted look wanted old new is_new is keys added held rest = subst (λ (l : Look). Notes l old new (not is_new)) is (record {
  found = found looks.ghosts.eq same_look look_itself old.looks.keys look is_new added;
  kept = λ other c. subst (λ (l : List Look). Contains l other) (sym keys) (still_there looks.ghosts.eq old.looks.keys look other c);
  noted = subst (λ (l : List Look). Contains l look) (sym keys) (is_there looks.ghosts.eq same_look old.looks.keys look);
  only = λ other c. there_or_new looks.ghosts.eq old.looks.keys look other (subst (λ (l : List Look). Contains l other) keys c);
  held = held;
  works = rest;
})
