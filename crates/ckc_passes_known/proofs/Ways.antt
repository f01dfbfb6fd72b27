-- Operations of a block are followed backwards: they tell a fact, end it, or leave it as it is at the beginning of the
-- block.
use Rattle.std.proofs.Common.{◌≡◌, ◌≢◌, ℕ, ◌+◌, ◌-◌, ◌<◌, Bool, true, false, not, List, [], ◌∷◌, length, get_or, take, Some, sym, ap, subst, ◌∙◌, arith}
use Rattle.std.specs.Bool.{MatchBool}
use Rattle.std.proofs.lemmas.Bool.{both_ways}
use Rattle.ckc_tac.specs.declared.code.TacBlock.{TacBlock}
use Rattle.ckc_tac.specs.declared.code.TacOp.{TacOp}
use Rattle.ckc_flow.specs.Live.{target_of}
use Rattle.ckc_passes.specs.Rewrites.{all_done}
use Rattle.ckc_passes_known.specs.declared.marks.Question.{Question}
use Rattle.ckc_passes_known.specs.declared.marks.Question.TheVariants.{Stated, Counted}
use Rattle.ckc_passes_known.specs.declared.marks.Way.{Way}
use Rattle.ckc_passes_known.specs.declared.marks.Way.TheVariants.{Told, Ended, Open}
use Rattle.ckc_passes_known.specs.Known.{not_negative, told, changes, ended, untold}
use Rattle.ckc_passes_known.specs.code.Marks.{fact_in, Ends, IsGone, Passes, Goes}
use Rattle.ckc_passes_known.proofs.Left.{done_more}

-- an operation that writes no register of the fact does not end it
pub unwritten : (blocks : List TacBlock) (question : Question) (b : ℕ) (done : List TacOp) (op : TacOp) → changes (target_of op) (fact_in question) ≡ false
    → Ends blocks question b done op → ⊥
unwritten blocks (Stated fact) b done op e h = both_ways (changes (target_of op) fact) e h
unwritten blocks (Counted r limit) b done op e h = both_ways (changes (target_of op) (not_negative r)) e h.0

module _ (blocks : List TacBlock) (question : Question) where
  -- ---- one operation more

  told_here : (b : ℕ) (done : List TacOp) (op : TacOp) → told op ≡ Some (fact_in question) → IsGone blocks question b (op ∷ done) → ⊥
  told_here b done op e (ended n k) = n e
  told_here b done op e (untold n is) = n e

  kept_further : (b : ℕ) (done : List TacOp) (op : TacOp) → (Ends blocks question b done op → ⊥) → (IsGone blocks question b done → ⊥)
      → IsGone blocks question b (op ∷ done) → ⊥
  kept_further b done op spared kept (ended n e) = spared e
  kept_further b done op spared kept (untold n is) = kept is

  further : (b : ℕ) (done : List TacOp) (op : TacOp) → told op ≢ Some (fact_in question) → (Ends blocks question b done op → ⊥)
      → (way : Way) → Goes blocks question b done way → Goes blocks question b (op ∷ done) way
  further b done op n spared Told kept = λ is. kept_further b done op spared kept is
  further b done op n spared Ended is = untold n is
  further b done op n spared Open (passes, same) = ((spared, passes), λ is. untold n (same is))

  passed_back : (b : ℕ) (done : List TacOp) → Passes (Ends blocks question) b done → IsGone blocks question b done → IsGone blocks question b []
  passed_back b [] passes is = is
  passed_back b (op ∷ done) passes (ended n e) = absurd (passes.0 e)
  passed_back b (op ∷ done) passes (untold n is) = passed_back b done passes.1 is

  -- ---- the way back

  -- what these first operations, so many, do with the fact, all of them do with it
  abbrev pub AllGo : ℕ → List TacOp → ℕ → Type 0
  AllGo b before i = (way : Way) → Goes blocks question b (all_done [] (take i before)) way → Goes blocks question b (all_done [] before) way

  module _ (b : ℕ) (before : List TacOp) (i : ℕ) (op : TacOp) (some : 0 < i) (within : i - 1 < length before) (at : op ≡ get_or before (i - 1) op) where
    one_done : all_done [] (take i before) ≡ op ∷ all_done [] (take (i - 1) before)
    one_done = ap (λ n. all_done [] (take n before)) (let e : i ≡ i - 1 + 1 = omega (arith, some) in e) ∙ done_more before (i - 1) op within at

    abbrev Behind : Way → List TacOp → Type 0
    Behind way done = Goes blocks question b done way

    pub go_told : AllGo b before i → told op ≡ Some (fact_in question) → IsGone blocks question b (all_done [] before) → ⊥
    go_told all e = all Told (subst (Behind Told) (sym one_done) (λ is. told_here b (all_done [] (take (i - 1) before)) op e is))

    pub go_ended : AllGo b before i → told op ≢ Some (fact_in question) → Ends blocks question b (all_done [] (take (i - 1) before)) op → IsGone blocks question b (all_done [] before)
    go_ended all n e = all Ended (subst (Behind Ended) (sym one_done) (ended n e))

    pub go_further : AllGo b before i → told op ≢ Some (fact_in question) → (Ends blocks question b (all_done [] (take (i - 1) before)) op → ⊥) → AllGo b before (i - 1)
    go_further all n spared way goes = all way (subst (Behind way) (sym one_done) (further b (all_done [] (take (i - 1) before)) op n spared way goes))

  pub go_open : (b : ℕ) (before : List TacOp) (i : ℕ) → i ≡ 0 → AllGo b before i → Goes blocks question b (all_done [] before) Open
  go_open b before i e all = (let first : AllGo b before 0 = subst (AllGo b before) e all in first Open (tt, λ is. is))

  -- ---- a place in a block

  pub known_by : (b : ℕ) (done : List TacOp) (lost : Bool) → MatchBool lost (IsGone blocks question b []) (IsGone blocks question b [] → ⊥) → Goes blocks question b done Open
      → MatchBool (not lost) (IsGone blocks question b done → ⊥) (IsGone blocks question b done)
  known_by b done true is (passes, same) = same is
  known_by b done false kept (passes, same) = λ is. kept (passed_back b done passes is)
