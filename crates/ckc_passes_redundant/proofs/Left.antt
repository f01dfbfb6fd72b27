-- What is left of a block, one operation on.
use Rattle.std.proofs.Common.{◌≡◌, inl, inr, ℕ, ◌+◌, ◌<◌, ◌≤◌, List, [], ◌∷◌, ◌++◌, length, get_or, drop, refl, sym, ap, subst, ◌∙◌, arith}
use Rattle.std.proofs.lemmas.List.{drop_more, append_assoc, append-nil, drop_all}
use Rattle.ckc_tac.specs.declared.code.TacBlock.{TacBlock}
use Rattle.ckc_tac.specs.declared.code.TacOp.{TacOp}
use Rattle.ckc_tac.specs.declared.code.TacEnd.{TacEnd}
use Rattle.ckc_passes.specs.Passes.{Becomes, ended, kept, dropped}
use Rattle.ckc_passes_redundant.specs.Redundant.{redundant_pass}
use Rattle.ckc_passes_redundant.specs.declared.table.Table.{Table}
use Rattle.ckc_passes_redundant.specs.code.Tables.{KnowsAfter}
use Rattle.ckc_passes_redundant.specs.code.Blocks.{IsPut, Passes, IsUnderway}

-- at the beginning nothing is taken
pub underway_first : (ops : List TacOp) (end : TacEnd) (table : Table) → KnowsAfter [] table → IsUnderway ops end 0 table []
underway_first ops end table k = record {
  done = [];
  long = refl;
  knows = k;
  becomes = λ blocks rest b. b;
}

module _ (ops : List TacOp) (end : TacEnd) (blocks : List TacBlock) (done : List TacOp) (op : TacOp) (next : List TacOp) (left rest : List TacOp) where
  put_on : (left' : List TacOp) → IsPut done op left left'
      → ((more : List TacOp) → Becomes redundant_pass blocks done (op ∷ next) end more end → Becomes redundant_pass blocks [] ops end (left ++ more) end)
      → Becomes redundant_pass blocks (op ∷ done) next end rest end → Becomes redundant_pass blocks [] ops end (left' ++ rest) end
  put_on left' (inl (repeats, same)) h b =
      subst (λ (l : List TacOp). Becomes redundant_pass blocks [] ops end (l ++ rest) end) (sym same) (h rest (dropped repeats b))
  put_on left' (inr (first, more)) h b =
      subst (λ (l : List TacOp). Becomes redundant_pass blocks [] ops end (l ++ rest) end) (sym more)
      (subst (λ (l : List TacOp). Becomes redundant_pass blocks [] ops end l end) (sym (append_assoc left (op ∷ []) rest)) (h (op ∷ rest) (kept (refl, first) b)))

-- one operation more
pub underway_next : (ops : List TacOp) (end : TacEnd) (place : ℕ) (op : TacOp) (table table' : Table) (left left' : List TacOp) → place < length ops → op ≡ get_or ops place op
    → Passes op place table table' left left' → IsUnderway ops end place table left → IsUnderway ops end (place + 1) table' left'
underway_next ops end place op table table' left left' within at passes u =
    let p = passes u.done u.long u.knows in
    let next : drop place ops ≡ op ∷ drop (place + 1) ops = drop_more ops place op within ∙ ap (λ (o : TacOp). o ∷ drop (place + 1) ops) (sym at) in
    record {
      done = op ∷ u.done;
      long = omega (arith, u.long);
      knows = p.0;
      becomes = λ blocks rest b.
          put_on ops end blocks u.done op (drop (place + 1) ops) left rest left' p.1
          (λ more c. u.becomes blocks more (subst (λ (l : List TacOp). Becomes redundant_pass blocks u.done l end more end) (sym next) c)) b;
    }

-- all are taken
pub underway_last : (ops : List TacOp) (end : TacEnd) (place : ℕ) (table : Table) (left : List TacOp) → length ops ≤ place → IsUnderway ops end place table left
    → (blocks : List TacBlock) → Becomes redundant_pass blocks [] ops end left end
underway_last ops end place table left all u blocks =
    subst (λ (l : List TacOp). Becomes redundant_pass blocks [] ops end l end) (append-nil left)
    (u.becomes blocks [] (subst (λ (l : List TacOp). Becomes redundant_pass blocks u.done l end [] end) (sym (drop_all place ops all)) (ended refl)))
