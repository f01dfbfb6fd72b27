-- Rows that are exact after an operation are exact in front of it, and rows of all blocks make an exact one of an end.
use Rattle.std.proofs.Common.{◌≡◌, ⊎_elim, ℕ, ◌≤◌, ◌<◌, Bool, true, List, [], ◌∷◌, length, get_or, Some, subst, ◌∙◌, arith}
use Rattle.std.proofs.lemmas.Option.{slice_get-get_or}
use Rattle.std.proofs.lemmas.Bool.{cases_lt}
use Rattle.std.proofs.lemmas.List.{get_or_past}
use Rattle.ckc_tac.specs.declared.code.TacFunc.{TacFunc}
use Rattle.ckc_tac.specs.declared.code.TacBlock.{TacBlock}
use Rattle.ckc_tac.specs.declared.code.TacOp.{TacOp}
use Rattle.ckc_tac.specs.declared.code.TacEnd.{TacEnd}
use Rattle.ckc_tac.specs.declared.code.TacEnd.TheVariants.{Jump}
use Rattle.ckc_flow.specs.Live.{IsLive, read_here, read_later, read_at_end, read_in_block, IsExact, AreExact, end_reads, reads, target_of, leads_to}
use Rattle.ckc_flow.specs.code.Rows.{passed, passed_all, ended}
use Rattle.ckc_flow.specs.code.Rounds.{AreSound}
use Rattle.ckc_flow.proofs.Marks.{Has, passed_from, passed_gains, passed_keeps, length-passed, ended_from, ended_reads, ended_leads, length-ended}

module _ (blocks : List TacBlock) where
  -- ---- what is marked is live

  pub op_shows : (r : ℕ) (op : TacOp) (ops : List TacOp) (end : TacEnd) (row : List Bool) → (Has row r → IsLive blocks r ops end)
      → Has (passed op row) r → IsLive blocks r (op ∷ ops) end
  op_shows r op ops end row h e = ⊎_elim
      (λ (read : reads r op ≡ true). read_here read)
      (λ (later : (target_of op ≡ Some r → ⊥) × Has row r). read_later later.0 (h later.1)) (passed_from op row r e)

  pub all_show : (r : ℕ) (ops : List TacOp) (end : TacEnd) (row : List Bool) → (Has row r → IsLive blocks r [] end)
      → Has (passed_all ops row) r → IsLive blocks r ops end
  all_show r [] end row h = h
  all_show r (op ∷ ops) end row h = op_shows r op ops end (passed_all ops row) (all_show r ops end row h)

  -- ---- what is live is marked

  pub op_marks : (r : ℕ) (op : TacOp) (ops : List TacOp) (end : TacEnd) (row : List Bool) → r < length row → (IsLive blocks r ops end → Has row r)
      → IsLive blocks r (op ∷ ops) end → Has (passed op row) r
  op_marks r op ops end row h k (read_here read) = passed_gains op row r read h
  op_marks r op ops end row h k (read_later apart live) = passed_keeps op row r apart (k live)

-- ---- exact rows

pub op_exact : (f : TacFunc) (op : TacOp) (ops : List TacOp) (end : TacEnd) (row : List Bool) → IsExact f ops end row → IsExact f (op ∷ ops) end (passed op row)
op_exact f op ops end row x = record {
  long = length-passed op row ∙ x.long;
  exact = λ r h. (op_shows f.blocks r op ops end row (x.exact r h).0, op_marks f.blocks r op ops end row (omega (arith, x.long)) (x.exact r h).1);
}

no_mark : (r : ℕ) → Has [] r → ⊥
no_mark r e = absurd cc

-- a row with a mark is there
pub has_row : (rows : List (List Bool)) (b r : ℕ) → Has (get_or rows b []) r → b < length rows
has_row rows b r e = ⊎_elim (λ h. h) (λ (past : length rows ≤ b). absurd (no_mark r (subst (λ row. Has row r) (get_or_past rows b [] past) e))) (cases_lt b (length rows))

abbrev no_block : TacBlock
no_block = record { ops = []; end = Jump 0 }

-- what an end makes of sound rows is live
pub end_live : (blocks : List TacBlock) (regs : ℕ) (rows : List (List Bool)) → AreSound blocks regs rows → (end : TacEnd) (r : ℕ)
    → Has (ended rows regs end) r → IsLive blocks r [] end
end_live blocks regs rows s end r e = ⊎_elim
    (λ (read : end_reads r end ≡ true). read_at_end read)
    (λ (to : (b : ℕ) × (leads_to b end ≡ true) × Has (get_or rows b []) r).
    let b = to.0 in
    let there = has_row rows b r to.2 in
    let at = slice_get-get_or blocks b no_block (omega (arith, s.long)) in
    read_in_block b (get_or blocks b no_block) to.1 at (s.sound b r (get_or blocks b no_block) at to.2))
    (ended_from rows regs end r e)

module _ (f : TacFunc) (rows : List (List Bool)) (x : AreExact f rows) where
  end_shows : (end : TacEnd) (r : ℕ) → r < f.regs → Has (ended rows f.regs end) r → IsLive f.blocks r [] end
  end_shows end r h e = ⊎_elim
      (λ (read : end_reads r end ≡ true). read_at_end read)
      (λ (to : (b : ℕ) × (leads_to b end ≡ true) × Has (get_or rows b []) r).
      let b = to.0 in
      let there = has_row rows b r to.2 in
      let at = slice_get-get_or f.blocks b no_block (omega (arith, x.long)) in
      read_in_block b (get_or f.blocks b no_block) to.1 at (((x.exact b (get_or f.blocks b no_block) at).exact r h).0 to.2))
      (ended_from rows f.regs end r e)

  end_marks : (end : TacEnd) (r : ℕ) → r < f.regs → IsLive f.blocks r [] end → Has (ended rows f.regs end) r
  end_marks end r h (read_at_end read) = ended_reads rows f.regs end r read h
  end_marks end r h (read_in_block b block leads at live) = ended_leads rows f.regs end b r leads (((x.exact b block at).exact r h).1 live) h

  pub end_exact : (end : TacEnd) → IsExact f [] end (ended rows f.regs end)
  end_exact end = record {
    long = length-ended rows f.regs end;
    exact = λ r h. (end_shows end r h, end_marks end r h);
  }
