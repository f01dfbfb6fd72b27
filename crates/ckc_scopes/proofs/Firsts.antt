-- The verdict on a typed text tells its first fault.
use Rattle.std.proofs.Common.{refl, ◌≡◌, ◌↔◌, ℕ, List, [], ◌∷◌, ◌++◌, ap, sym, subst, ◌∙◌, Option, None, Some}
use Rattle.std.specs.Prelude.{Result, Ok, Err, ◌⊎◌}
use Rattle.std.specs.Prelude.{Bool, true, false, cond}
use Rattle.std.specs.List.{All}
use Rattle.std.proofs.Common.{inl, inr}
use Rattle.std.proofs.lemmas.List.Elements.{All-nil, All-cons, All-head, All-tail}
use Rattle.ckc_base.specs.declared.places.Pos.{Pos}
use Rattle.ckc_base.specs.declared.places.Refusal.{Refusal}
use Rattle.ckc_syntax.specs.declared.tree.Item.{Item}
use Rattle.ckc_syntax.specs.declared.tree.Name.{Name}
use Rattle.ckc_typed.specs.declared.typed.Note.{Note}
use Rattle.ckc_typed.specs.declared.typed.Typed.{Typed}
use Rattle.ckc_typed.specs.Walk.{Spot, walk, Matter, written, value, called, assumed}
use Rattle.ckc_typed.specs.Scoped.{fault_at, fault_in, fault_of_matter, fault_where, is_raw_function, IsFine, Scoped, IsFirstScopeFault}
use Rattle.ckc_base.specs.declared.arithmetic.Mode.{Mode}
use Rattle.ckc_base.specs.declared.arithmetic.Mode.TheVariants.{Checked, Unchecked}
use Rattle.ckc_base.specs.declared.fault.Fault.{Fault}
use Rattle.ckc_base.specs.declared.fault.Fault.TheVariants.{Refused}
use Rattle.ckc_base.specs.Phases.{IsExact, Exact}
use Rattle.ckc_base.proofs.Phases.{exact_of}
use Rattle.ckc_scopes.specs.Phase.{scoping}
use Rattle.ckc_scopes.specs.code.Verdict.{Verdict, then, refused, verdict}

abbrev pub refusal : ℕ → Pos → Refusal
refusal code at = record { code = code; pos = at }

-- a verdict is not both
pub ok_or_err : (v : Verdict) (r : Refusal) → v ≡ Ok tt → v ≡ Err r → ⊥
ok_or_err v r e f = cc

pub same_refusal : (v : Verdict) (r s : Refusal) → v ≡ Err r → v ≡ Err s → r ≡ s
same_refusal v r s e f = cc

module _ (p : Typed) where
  fine_ok : (ss : List Spot) → All (IsFine p) ss → verdict p.tree.items ss ≡ Ok tt
  fine_ok [] h = refl
  fine_ok (s ∷ ss) h =
      let here : fault_at p.tree.items s ≡ None = All-head (IsFine p) s ss h in
      ap (λ o. then (refused o s.at) (verdict p.tree.items ss)) here ∙ fine_ok ss (All-tail (IsFine p) s ss h)

  -- the verdict on a list whose first spot has this fault
  data Judged (s : Spot) (ss : List Spot) : Type 0 where
    fine : fault_at p.tree.items s ≡ None → verdict p.tree.items (s ∷ ss) ≡ verdict p.tree.items ss → Judged s ss
    faulty : (code : ℕ) → fault_at p.tree.items s ≡ Some code → verdict p.tree.items (s ∷ ss) ≡ Err (refusal code s.at) → Judged s ss

  judged_as : (s : Spot) (ss : List Spot) (o : Option ℕ) → fault_at p.tree.items s ≡ o → Judged s ss
  judged_as s ss None e = fine e (ap (λ o. then (refused o s.at) (verdict p.tree.items ss)) e)
  judged_as s ss (Some code) e = faulty code e (ap (λ o. then (refused o s.at) (verdict p.tree.items ss)) e)

  ok_fine : (ss : List Spot) → verdict p.tree.items ss ≡ Ok tt → All (IsFine p) ss
  ok_fine [] e = All-nil (IsFine p)
  ok_fine (s ∷ ss) e = elim (judged_as s ss (fault_at p.tree.items s) refl) [
    | fine here same ↦ All-cons (IsFine p) s ss here (ok_fine ss (sym same ∙ e))
    | faulty code here whole ↦ absurd (ok_or_err _ (refusal code s.at) e whole)
  ]

  -- the first spot of a list that is at fault
  record First (ss : List Spot) (code : ℕ) (at : Pos) : Type 0 where
    before : List Spot
    found : Spot
    rest : List Spot
    split : ss ≡ before ++ found ∷ rest
    all_fine : All (IsFine p) before
    fault : fault_at p.tree.items found ≡ Some code
    place : found.at ≡ at

  err_first : (ss : List Spot) (r : Refusal) → verdict p.tree.items ss ≡ Err r → First ss r.code r.pos
  err_first [] r e = absurd (cc)
  err_first (s ∷ ss) r e = elim (judged_as s ss (fault_at p.tree.items s) refl) [
    | fine here same ↦
        let later = err_first ss r (sym same ∙ e) in
        record {
          before = s ∷ later.before;
          found = later.found;
          rest = later.rest;
          split = ap (λ xs. s ∷ xs) later.split;
          all_fine = All-cons (IsFine p) s later.before here later.all_fine;
          fault = later.fault;
          place = later.place;
        }
    | faulty code here whole ↦
        let same = same_refusal _ (refusal code s.at) r whole e in
        record {
          before = [];
          found = s;
          rest = ss;
          split = refl;
          all_fine = All-nil (IsFine p);
          fault = here ∙ ap (λ r. Some r.code) same;
          place = ap (λ r. r.pos) same;
        }
  ]

  first_err : (before : List Spot) (found : Spot) (rest : List Spot) (code : ℕ) → All (IsFine p) before → fault_at p.tree.items found ≡ Some code →
      verdict p.tree.items (before ++ found ∷ rest) ≡ Err (refusal code found.at)
  first_err [] found rest code h e = ap (λ o. then (refused o found.at) (verdict p.tree.items rest)) e
  first_err (s ∷ ss) found rest code h e =
      let here : fault_at p.tree.items s ≡ None = All-head (IsFine p) s ss h in
      ap (λ o. then (refused o s.at) (verdict p.tree.items (ss ++ found ∷ rest))) here ∙ first_err ss found rest code (All-tail (IsFine p) s ss h) e

  pub scoped_is : Scoped p ↔ (verdict p.tree.items (walk p) ≡ Ok tt)
  scoped_is = (λ s. fine_ok (walk p) s, λ e. ok_fine (walk p) e)

  pub fault_of_err : (r : Refusal) → verdict p.tree.items (walk p) ≡ Err r → IsFirstScopeFault p r.code r.pos
  fault_of_err r e =
      let f = err_first (walk p) r e in
      record { before = f.before; found = f.found; rest = f.rest; walked = f.split; fine = f.all_fine; fault = f.fault; place = f.place }

  pub err_of_fault : (code : ℕ) (at : Pos) → IsFirstScopeFault p code at → verdict p.tree.items (walk p) ≡ Err (refusal code at)
  err_of_fault code at f =
      ap (λ ss. verdict p.tree.items ss) f.walked ∙ first_err f.before f.found f.rest code f.fine f.fault
      ∙ ap (λ place. Err (refusal code place)) f.place

  same_place : (r other : Refusal) → r.code ≡ other.code → r.pos ≡ other.pos → r ≡ other
  same_place r other e f = λ j. record { code = e j; pos = f j }

  fault_once : (r other : Refusal) → scoping.Refuses p r → scoping.Refuses p other → r ≡ other
  fault_once r other f g = same_refusal _ r other (err_of_fault r.code r.pos f) (err_of_fault other.code other.pos g)

  never_both : (same : Typed) (r : Refusal) → scoping.Makes p same → scoping.Refuses p r → ⊥
  never_both same r m f = ok_or_err _ r (scoped_is.0 m.0) (err_of_fault r.code r.pos f)

  made_or_fault : (v : Verdict) → verdict p.tree.items (walk p) ≡ v → ((same : Typed) × scoping.Makes p same) ⊎ ((r : Refusal) × scoping.Refuses p r)
  made_or_fault (Ok u) e = inl (p, (scoped_is.1 e, refl))
  made_or_fault (Err r) e = inr (r, fault_of_err r e)

pub scoping_exact : IsExact scoping
scoping_exact = record {
  made_once = λ p same other m n. m.1 ∙ sym n.1;
  refused_once = fault_once;
  never_both = never_both;
  one_of_both = λ p. made_or_fault p (verdict p.tree.items (walk p)) refl;
}

-- a verdict on a typed text is the answer of the phase
pub scoped_exact : (p : Typed) → verdict p.tree.items (walk p) ≡ Ok tt → Exact scoping p (Ok p)
scoped_exact p e = exact_of scoping scoping_exact p (Ok p) ((scoped_is p).1 e, refl)

pub fault_exact : (p : Typed) (r : Refusal) → verdict p.tree.items (walk p) ≡ Err r → Exact scoping p (Err (Refused r))
fault_exact p r e = exact_of scoping scoping_exact p (Err (Refused r)) (fault_of_err p r e)

-- the codes of faults
abbrev IsCode : ℕ → Type 0
IsCode code = (code ≡ 501) ⊎ (code ≡ 502)

abbrev Coded : Option ℕ → Type 0
Coded None = Unit {0}
Coded (Some code) = IsCode code

where_coded : (b : Bool) → Coded (fault_where b)
where_coded true = inl refl
where_coded false = tt

matter_coded : (items : List (Item Name Note)) (m : Matter) → Coded (fault_of_matter items m)
matter_coded items written = inl refl
matter_coded items (value ctype) = where_coded _
matter_coded items (called k) = where_coded (is_raw_function items k)
matter_coded items assumed = inr refl

mode_coded : (mode : Mode) (o : Option ℕ) → Coded o → Coded (fault_in mode o)
mode_coded Checked o c = c
mode_coded Unchecked o c = tt

pub scoping_codes : (p : Typed) (r : Refusal) → scoping.Refuses p r → IsCode r.code
scoping_codes p r f = subst Coded f.fault (mode_coded f.found.mode (fault_of_matter p.tree.items f.found.matter) (matter_coded p.tree.items f.found.matter))
