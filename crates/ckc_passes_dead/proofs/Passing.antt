-- Passing an operation, last first: it is dropped, or it is left.
use Rattle.std.proofs.Common.{◌≡◌, ℕ, ◌<◌, Bool, true, false, List, [], ◌∷◌, ◌++◌, reverse, get_or, Option, Some, None, refl, sym, ap, subst, ◌∙◌}
use Rattle.std.proofs.lemmas.Bool.{not-true, not-false, both_ways}
use Rattle.std.proofs.lemmas.List.{reverse-append}
use Rattle.ckc_tac.specs.declared.code.TacEnd.{TacEnd}
use Rattle.ckc_tac.specs.declared.code.TacFunc.{TacFunc}
use Rattle.ckc_tac.specs.declared.code.TacOp.{TacOp}
use Rattle.ckc_tac.specs.declared.code.TacOp.TheVariants.{Const, Copy, Bin, High, Load, Store, Check, Call, Get, Put, Alloc}
use Rattle.ckc_tac.specs.WellFormed.{IsOpOver}
use Rattle.ckc_flow.specs.Live.{IsExact}
use Rattle.ckc_passes.specs.Passes.{kept, dropped}
use Rattle.ckc_passes_dead.specs.Dead.{plain_target, IsWanted, IsDead}
use Rattle.ckc_passes_dead.specs.code.Passing.{is_unmarked, IsLeft, Passes}
use Rattle.ckc_passes_dead.proofs.Wanted.{same_some, wanted_is_left, left_is_wanted}

-- the register of a plain operation is one of the function's
plain_over : (functions : List TacFunc) (regs : ℕ) (op : TacOp) (t : ℕ) → IsOpOver functions regs op → plain_target op ≡ Some t → t < regs
plain_over functions regs (Const q n) t h e = subst (λ x. x < regs) (same_some q t e) h.0
plain_over functions regs (Copy q a) t h e = subst (λ x. x < regs) (same_some q t e) h.0
plain_over functions regs (Bin op q a b) t h e = subst (λ x. x < regs) (same_some q t e) h.0
plain_over functions regs (High is_signed q a b) t h e = subst (λ x. x < regs) (same_some q t e) h.0
plain_over functions regs (Load width q a n) t h e = absurd cc
plain_over functions regs (Store width a n b) t h e = absurd cc
plain_over functions regs (Check check at comparison a b) t h e = absurd cc
plain_over functions regs (Call target callee arguments at) t h e = absurd cc
plain_over functions regs (Get q) t h e = absurd cc
plain_over functions regs (Put a) t h e = absurd cc
plain_over functions regs (Alloc q a size) t h e = absurd cc

module _ (f : TacFunc) (functions : List TacFunc) (end : TacEnd) (op : TacOp) (ops left : List TacOp) (row : List Bool)
    (over : IsOpOver functions f.regs op) (is : IsLeft f end ops left row) where
  -- an operation whose register is not marked is dead
  unmarked_is_dead : (o : Option ℕ) → plain_target op ≡ o → is_unmarked o row ≡ true → IsDead f.blocks end ops op
  unmarked_is_dead (Some t) e h = (
    t,
    e,
    λ wanted. both_ways (get_or row t false) (not-true (get_or row t false) h)
        ((is.exact.exact t (plain_over functions f.regs op t over e)).1 (wanted_is_left f.blocks (is.becomes []) t wanted)),
  )
  unmarked_is_dead None e h = absurd cc

  -- and one whose register is marked, or which has none, is not
  marked_is_alive : (o : Option ℕ) → plain_target op ≡ o → is_unmarked o row ≡ false → IsDead f.blocks end ops op → ⊥
  marked_is_alive (Some t) e h (q, plain, unwanted) =
      let live = (is.exact.exact t (plain_over functions f.regs op t over e)).0 (not-false (get_or row t false) h) in
      let wanted = left_is_wanted f.blocks (is.becomes []) t live in
      unwanted (subst (λ r. IsWanted f.blocks end ops r) (same_some t q (sym e ∙ plain)) wanted)
  marked_is_alive None e h (q, plain, unwanted) = absurd (let g = sym e ∙ plain in cc)

pub drops : (op : TacOp) (row : List Bool) (left : List TacOp) → is_unmarked (plain_target op) row ≡ true → Passes op row left row left
drops op row left h f functions end ops over is =
    let dead = unmarked_is_dead f functions end op ops (reverse left) row over is (plain_target op) refl h in
    record {
      becomes = λ done. dropped dead (is.becomes (op ∷ done));
      exact = is.exact;
    }

-- what is left with one more, last first
last_put : (left left' : List TacOp) (op : TacOp) → left' ≡ left ++ op ∷ [] → reverse left' ≡ op ∷ reverse left
last_put left left' op e = ap reverse e ∙ reverse-append left (op ∷ [])

pub keeps : (op : TacOp) (row row' : List Bool) (left left' : List TacOp) → is_unmarked (plain_target op) row ≡ false
    → ((f : TacFunc) (ops : List TacOp) (end : TacEnd) → IsExact f ops end row → IsExact f (op ∷ ops) end row')
    → left' ≡ left ++ op ∷ [] → Passes op row left row' left'
keeps op row row' left left' h before e f functions end ops over is =
    let alive = marked_is_alive f functions end op ops (reverse left) row over is (plain_target op) refl h in
    subst (λ l. IsLeft f end (op ∷ ops) l row') (sym (last_put left left' op e)) (record {
      becomes = λ done. kept (refl, alive) (is.becomes (op ∷ done));
      exact = before f (reverse left) end is.exact;
    })
