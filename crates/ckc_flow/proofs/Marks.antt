-- Where the mark of a register in a row comes from, and what keeps it.
use Rattle.std.proofs.Common.{◌≡◌, ◌⊎◌, inl, inr, ⊎_elim, ℕ, zero, suc, ◌<◌, ◌==◌, Bool, true, false, ◌||◌, List, [], ◌∷◌, length, get_or, set, replicate, Option, None, Some, refl, sym, ap, subst, ◌∙◌, arith}
use Rattle.std.specs.List.{list_any}
use Rattle.std.proofs.lemmas.Bool.{cases_eq, or_cases, or_left, or_right}
use Rattle.std.proofs.lemmas.Bool.Decides.{nat_tests}
use Rattle.std.proofs.lemmas.List.{length-set, length-replicate, get_or-set_same, get_or-set_other}
use Rattle.ckc_tac.specs.declared.code.Operand.{Operand}
use Rattle.ckc_tac.specs.declared.code.Operand.TheVariants.{Register, Number}
use Rattle.ckc_tac.specs.declared.code.TacOp.{TacOp}
use Rattle.ckc_tac.specs.declared.code.TacOp.TheVariants.{Const, Copy, Bin, High, Load, Store, Check, Call, Get, Put, Alloc}
use Rattle.ckc_tac.specs.declared.code.TacEnd.{TacEnd}
use Rattle.ckc_tac.specs.declared.code.TacEnd.TheVariants.{Jump, Branch, Return}
use Rattle.ckc_flow.specs.Live.{is_register, reads, target_of, end_reads, leads_to}
use Rattle.ckc_flow.specs.code.Rows.{marked, all_marked, cleared, passed, joined, ended}

abbrev pub Has : List Bool → ℕ → Type 0
Has row r = get_or row r false ≡ true

same_test : (a r : ℕ) → a ≡ r → (a == r) ≡ true
same_test a r e = grind (arith, nat_tests)

test_same : (a r : ℕ) → (a == r) ≡ true → a ≡ r
test_same a r e = grind (arith, nat_tests)

-- ---- one mark

set_is_false : (row : List Bool) (r : ℕ) → get_or (set row r false) r false ≡ true → ⊥
set_is_false [] r e = absurd cc
set_is_false (x ∷ row) zero e = absurd cc
set_is_false (x ∷ row) (suc r) e = set_is_false row r e

cleared_from : (row : List Bool) (t r : ℕ) → Has (set row t false) r → (t ≡ r → ⊥) × Has row r
cleared_from row t r e = ⊎_elim
    (λ (same : t ≡ r). absurd (set_is_false row r (subst (λ q. Has (set row q false) r) same e)))
    (λ (apart : t ≡ r → ⊥). (apart, sym (get_or-set_other row t r false false (λ f. apart (sym f))) ∙ e)) (cases_eq t r)

cleared_keeps : (row : List Bool) (t r : ℕ) → (t ≡ r → ⊥) → Has row r → Has (set row t false) r
cleared_keeps row t r apart h = get_or-set_other row t r false false (λ f. apart (sym f)) ∙ h

set_from : (row : List Bool) (a r : ℕ) → Has (set row a true) r → ((a == r) ≡ true) ⊎ Has row r
set_from row a r e = ⊎_elim
    (λ (same : a ≡ r). inl (same_test a r same))
    (λ (apart : a ≡ r → ⊥). inr (sym (get_or-set_other row a r true false (λ f. apart (sym f))) ∙ e)) (cases_eq a r)

set_gains : (row : List Bool) (a r : ℕ) → (a == r) ≡ true → r < length row → Has (set row a true) r
set_gains row a r e h = subst (λ q. Has (set row q true) r) (sym (test_same a r e)) (get_or-set_same row r true false h)

set_keeps : (row : List Bool) (a r : ℕ) → Has row r → Has (set row a true) r
set_keeps [] a r h = h
set_keeps (x ∷ row) zero zero h = refl
set_keeps (x ∷ row) zero (suc r) h = h
set_keeps (x ∷ row) (suc a) zero h = h
set_keeps (x ∷ row) (suc a) (suc r) h = set_keeps row a r h

-- ---- operands

marked_from : (a : Operand) (row : List Bool) (r : ℕ) → Has (marked a row) r → (is_register r a ≡ true) ⊎ Has row r
marked_from (Register q) row r e = set_from row q r e
marked_from (Number n) row r e = inr e

marked_gains : (a : Operand) (row : List Bool) (r : ℕ) → is_register r a ≡ true → r < length row → Has (marked a row) r
marked_gains (Register q) row r e h = set_gains row q r e h
marked_gains (Number n) row r e h = absurd cc

marked_keeps : (a : Operand) (row : List Bool) (r : ℕ) → Has row r → Has (marked a row) r
marked_keeps (Register q) row r h = set_keeps row q r h
marked_keeps (Number n) row r h = h

length-marked : (a : Operand) (row : List Bool) → length (marked a row) ≡ length row
length-marked (Register q) row = length-set row q true
length-marked (Number n) row = refl

any_first : (a r : ℕ) (rs : List ℕ) → list_any (λ q. q == r) (a ∷ rs) ≡ ((a == r) || list_any (λ q. q == r) rs)
any_first a r rs = refl

all_from : (rs : List ℕ) (row : List Bool) (r : ℕ) → Has (all_marked rs row) r → (list_any (λ q. q == r) rs ≡ true) ⊎ Has row r
all_from [] row r e = inr e
all_from (a ∷ rs) row r e = ⊎_elim
    (λ h. inl (or_right (a == r) (list_any (λ q. q == r) rs) h))
    (λ h. ⊎_elim (λ k. inl (or_left (a == r) (list_any (λ q. q == r) rs) k)) (λ k. inr k) (set_from row a r h))
    (all_from rs (set row a true) r e)

all_keeps : (rs : List ℕ) (row : List Bool) (r : ℕ) → Has row r → Has (all_marked rs row) r
all_keeps [] row r h = h
all_keeps (a ∷ rs) row r h = all_keeps rs (set row a true) r (set_keeps row a r h)

all_gains : (rs : List ℕ) (row : List Bool) (r : ℕ) → list_any (λ q. q == r) rs ≡ true → r < length row → Has (all_marked rs row) r
all_gains [] row r e h = absurd cc
all_gains (a ∷ rs) row r e h = ⊎_elim
    (λ k. all_keeps rs (set row a true) r (set_gains row a r k h))
    (λ k. all_gains rs (set row a true) r k (omega (arith, length-set row a true)))
    (or_cases (a == r) (list_any (λ q. q == r) rs) e)

length-all_marked : (rs : List ℕ) (row : List Bool) → length (all_marked rs row) ≡ length row
length-all_marked [] row = refl
length-all_marked (a ∷ rs) row = length-all_marked rs (set row a true) ∙ length-set row a true

-- ---- operations

abbrev FromBehind : TacOp → List Bool → ℕ → Type 0
FromBehind op row r = (reads r op ≡ true) ⊎ ((target_of op ≡ Some r → ⊥) × Has row r)

apart_some : (t r : ℕ) → (t ≡ r → ⊥) → (Some t ≡ Some r) → ⊥
apart_some t r apart e = apart (let f : t ≡ r = cc in f)

some_apart : (t r : ℕ) → (Some t ≡ Some r → ⊥) → t ≡ r → ⊥
some_apart t r apart e = apart (ap (λ q. Some q) e)

abbrev nothing : Option ℕ
nothing = None

none_apart : (r : ℕ) → nothing ≡ Some r → ⊥
none_apart r e = absurd cc

written : (t r : ℕ) (row : List Bool) → Has (set row t false) r → (Some t ≡ Some r → ⊥) × Has row r
written t r row e = let c = cleared_from row t r e in (apart_some t r c.0, c.1)

one_written : (t r : ℕ) (a : Operand) (row : List Bool) → Has (marked a (set row t false)) r → (is_register r a ≡ true) ⊎ ((Some t ≡ Some r → ⊥) × Has row r)
one_written t r a row e = ⊎_elim (λ h. inl h) (λ h. inr (written t r row h)) (marked_from a (set row t false) r e)

two_written : (t r : ℕ) (a b : Operand) (row : List Bool) → Has (marked b (marked a (set row t false))) r
    → ((is_register r a || is_register r b) ≡ true) ⊎ ((Some t ≡ Some r → ⊥) × Has row r)
two_written t r a b row e = ⊎_elim
    (λ h. inl (or_right (is_register r a) (is_register r b) h))
    (λ h. ⊎_elim (λ k. inl (or_left (is_register r a) (is_register r b) k)) (λ k. inr k) (one_written t r a row h))
    (marked_from b (marked a (set row t false)) r e)

called : (target : Option ℕ) (row : List Bool) (r : ℕ) → Has (cleared target row) r → (target ≡ Some r → ⊥) × Has row r
called (Some t) row r e = written t r row e
called None row r e = (none_apart r, e)

both_from : (a b : Operand) (row : List Bool) (r : ℕ) → Has (marked b (marked a row)) r
    → ((is_register r a || is_register r b) ≡ true) ⊎ ((nothing ≡ Some r → ⊥) × Has row r)
both_from a b row r e = ⊎_elim
    (λ h. inl (or_right (is_register r a) (is_register r b) h))
    (λ h. ⊎_elim (λ k. inl (or_left (is_register r a) (is_register r b) k)) (λ k. inr (none_apart r, k)) (marked_from a row r h))
    (marked_from b (marked a row) r e)

-- a mark in front of an operation is of a register that it reads, or stood after it and is not written
pub passed_from : (op : TacOp) (row : List Bool) (r : ℕ) → Has (passed op row) r → FromBehind op row r
passed_from (Const t n) row r e = inr (written t r row e)
passed_from (Copy t a) row r e = ⊎_elim (λ h. inl h) (λ h. inr (written t r row h)) (set_from (set row t false) a r e)
passed_from (Bin op t a b) row r e = two_written t r a b row e
passed_from (High is_signed t a b) row r e = two_written t r a b row e
passed_from (Load width t a n) row r e = one_written t r a row e
passed_from (Store width a n b) row r e = both_from a b row r e
passed_from (Check check at comparison a b) row r e = both_from a b row r e
passed_from (Call target callee arguments at) row r e = ⊎_elim (λ h. inl h) (λ h. inr (called target row r h)) (all_from arguments (cleared target row) r e)
passed_from (Get t) row r e = inr (written t r row e)
passed_from (Put a) row r e = ⊎_elim (λ h. inl h) (λ h. inr (none_apart r, h)) (marked_from a row r e)
passed_from (Alloc t a size) row r e = one_written t r a row e

length-cleared : (target : Option ℕ) (row : List Bool) → length (cleared target row) ≡ length row
length-cleared (Some t) row = length-set row t false
length-cleared None row = refl

pub length-passed : (op : TacOp) (row : List Bool) → length (passed op row) ≡ length row
length-passed (Const t n) row = length-set row t false
length-passed (Copy t a) row = length-set (set row t false) a true ∙ length-set row t false
length-passed (Bin op t a b) row = length-marked b (marked a (set row t false)) ∙ length-marked a (set row t false) ∙ length-set row t false
length-passed (High is_signed t a b) row = length-marked b (marked a (set row t false)) ∙ length-marked a (set row t false) ∙ length-set row t false
length-passed (Load width t a n) row = length-marked a (set row t false) ∙ length-set row t false
length-passed (Store width a n b) row = length-marked b (marked a row) ∙ length-marked a row
length-passed (Check check at comparison a b) row = length-marked b (marked a row) ∙ length-marked a row
length-passed (Call target callee arguments at) row = length-all_marked arguments (cleared target row) ∙ length-cleared target row
length-passed (Get t) row = length-set row t false
length-passed (Put a) row = length-marked a row
length-passed (Alloc t a size) row = length-marked a (set row t false) ∙ length-set row t false

two_gain : (a b : Operand) (row : List Bool) (r : ℕ) → (is_register r a || is_register r b) ≡ true → r < length row → Has (marked b (marked a row)) r
two_gain a b row r e h = ⊎_elim
    (λ k. marked_keeps b (marked a row) r (marked_gains a row r k h))
    (λ k. marked_gains b (marked a row) r k (omega (arith, length-marked a row))) (or_cases (is_register r a) (is_register r b) e)

pub passed_gains : (op : TacOp) (row : List Bool) (r : ℕ) → reads r op ≡ true → r < length row → Has (passed op row) r
passed_gains (Const t n) row r e h = absurd cc
passed_gains (Copy t a) row r e h = set_gains (set row t false) a r e (omega (arith, length-set row t false))
passed_gains (Bin op t a b) row r e h = two_gain a b (set row t false) r e (omega (arith, length-set row t false))
passed_gains (High is_signed t a b) row r e h = two_gain a b (set row t false) r e (omega (arith, length-set row t false))
passed_gains (Load width t a n) row r e h = marked_gains a (set row t false) r e (omega (arith, length-set row t false))
passed_gains (Store width a n b) row r e h = two_gain a b row r e h
passed_gains (Check check at comparison a b) row r e h = two_gain a b row r e h
passed_gains (Call target callee arguments at) row r e h = all_gains arguments (cleared target row) r e (omega (arith, length-cleared target row))
passed_gains (Get t) row r e h = absurd cc
passed_gains (Put a) row r e h = marked_gains a row r e h
passed_gains (Alloc t a size) row r e h = marked_gains a (set row t false) r e (omega (arith, length-set row t false))

cleared_stays : (target : Option ℕ) (row : List Bool) (r : ℕ) → (target ≡ Some r → ⊥) → Has row r → Has (cleared target row) r
cleared_stays (Some t) row r apart h = cleared_keeps row t r (some_apart t r apart) h
cleared_stays None row r apart h = h

pub passed_keeps : (op : TacOp) (row : List Bool) (r : ℕ) → (target_of op ≡ Some r → ⊥) → Has row r → Has (passed op row) r
passed_keeps (Const t n) row r apart h = cleared_stays (Some t) row r apart h
passed_keeps (Copy t a) row r apart h = set_keeps (set row t false) a r (cleared_stays (Some t) row r apart h)
passed_keeps (Bin op t a b) row r apart h = marked_keeps b (marked a (set row t false)) r (marked_keeps a (set row t false) r (cleared_stays (Some t) row r apart h))
passed_keeps (High is_signed t a b) row r apart h = marked_keeps b (marked a (set row t false)) r (marked_keeps a (set row t false) r (cleared_stays (Some t) row r apart h))
passed_keeps (Load width t a n) row r apart h = marked_keeps a (set row t false) r (cleared_stays (Some t) row r apart h)
passed_keeps (Store width a n b) row r apart h = marked_keeps b (marked a row) r (marked_keeps a row r h)
passed_keeps (Check check at comparison a b) row r apart h = marked_keeps b (marked a row) r (marked_keeps a row r h)
passed_keeps (Call target callee arguments at) row r apart h = all_keeps arguments (cleared target row) r (cleared_stays target row r apart h)
passed_keeps (Get t) row r apart h = cleared_stays (Some t) row r apart h
passed_keeps (Put a) row r apart h = marked_keeps a row r h
passed_keeps (Alloc t a size) row r apart h = marked_keeps a (set row t false) r (cleared_stays (Some t) row r apart h)

-- ---- rows joined

pub joined_from : (xs ys : List Bool) (r : ℕ) → Has (joined xs ys) r → Has xs r ⊎ Has ys r
joined_from [] ys r e = inr e
joined_from (x ∷ xs) [] r e = absurd cc
joined_from (x ∷ xs) (y ∷ ys) zero e = or_cases x y e
joined_from (x ∷ xs) (y ∷ ys) (suc r) e = joined_from xs ys r e

pub joined_keeps : (xs ys : List Bool) (r : ℕ) → Has ys r → Has (joined xs ys) r
joined_keeps [] ys r h = h
joined_keeps (x ∷ xs) [] r h = h
joined_keeps (x ∷ xs) (y ∷ ys) zero h = or_right x y h
joined_keeps (x ∷ xs) (y ∷ ys) (suc r) h = joined_keeps xs ys r h

pub joined_gains : (xs ys : List Bool) (r : ℕ) → Has xs r → r < length ys → Has (joined xs ys) r
joined_gains [] ys r e h = absurd cc
joined_gains (x ∷ xs) [] r e h = absurd (omega arith)
joined_gains (x ∷ xs) (y ∷ ys) zero e h = or_left x y e
joined_gains (x ∷ xs) (y ∷ ys) (suc r) e h = joined_gains xs ys r e (omega arith)

pub length-joined : (xs ys : List Bool) → length (joined xs ys) ≡ length ys
length-joined [] ys = refl
length-joined (x ∷ xs) [] = refl
length-joined (x ∷ xs) (y ∷ ys) = ap suc (length-joined xs ys)

-- ---- ends of blocks

pub no_marks : (n r : ℕ) → Has (replicate n false) r → ⊥
no_marks zero r e = absurd cc
no_marks (suc n) zero e = absurd cc
no_marks (suc n) (suc r) e = no_marks n r e

module _ (rows : List (List Bool)) (regs : ℕ) where
  abbrev row : ℕ → List Bool
  row b = get_or rows b []

  abbrev none : List Bool
  none = replicate regs false

  pub ended_from : (end : TacEnd) (r : ℕ) → Has (ended rows regs end) r → (end_reads r end ≡ true) ⊎ ((b : ℕ) × (leads_to b end ≡ true) × Has (row b) r)
  ended_from (Jump to) r e = ⊎_elim (λ h. inr (to, same_test to to refl, h)) (λ h. absurd (no_marks regs r h)) (joined_from (row to) none r e)
  ended_from (Branch comparison a b one two) r e =
      let both = joined (row two) (joined (row one) none) in
      ⊎_elim (λ h. inl (or_right (is_register r a) (is_register r b) h))
      (λ h. ⊎_elim (λ k. inl (or_left (is_register r a) (is_register r b) k))
      (λ k. ⊎_elim (λ m. inr (two, or_right (one == two) (two == two) (same_test two two refl), m))
      (λ m. ⊎_elim (λ n. inr (one, or_left (one == one) (two == one) (same_test one one refl), n)) (λ n. absurd (no_marks regs r n))
      (joined_from (row one) none r m))
      (joined_from (row two) (joined (row one) none) r k))
      (marked_from a both r h))
      (marked_from b (marked a both) r e)
  ended_from (Return a) r e = ⊎_elim (λ h. inl h) (λ h. absurd (no_marks regs r h)) (marked_from a none r e)

  pub length-ended : (end : TacEnd) → length (ended rows regs end) ≡ regs
  length-ended (Jump to) = length-joined (row to) none ∙ length-replicate regs false
  length-ended (Branch comparison a b one two) =
      let both = joined (row two) (joined (row one) none) in
      length-marked b (marked a both) ∙ length-marked a both ∙ length-joined (row two) (joined (row one) none) ∙ length-joined (row one) none ∙ length-replicate regs false
  length-ended (Return a) = length-marked a none ∙ length-replicate regs false

  pub ended_reads : (end : TacEnd) (r : ℕ) → end_reads r end ≡ true → r < regs → Has (ended rows regs end) r
  ended_reads (Jump to) r e h = absurd cc
  ended_reads (Branch comparison a b one two) r e h =
      let both = joined (row two) (joined (row one) none) in
      two_gain a b both r e (omega (arith, length-joined (row two) (joined (row one) none), length-joined (row one) none, length-replicate regs false))
  ended_reads (Return a) r e h = marked_gains a none r e (omega (arith, length-replicate regs false))

  pub ended_leads : (end : TacEnd) (b r : ℕ) → leads_to b end ≡ true → Has (row b) r → r < regs → Has (ended rows regs end) r
  ended_leads (Jump to) b r e k h =
      joined_gains (row to) none r (subst (λ q. Has (row q) r) (sym (test_same to b e)) k) (omega (arith, length-replicate regs false))
  ended_leads (Branch comparison x y one two) b r e k h =
      let first = joined (row one) none in
      let both = joined (row two) first in
      marked_keeps y (marked x both) r (marked_keeps x both r (⊎_elim
      (λ m. joined_keeps (row two) first r (joined_gains (row one) none r (subst (λ q. Has (row q) r) (sym (test_same one b m)) k) (omega (arith, length-replicate regs false))))
      (λ m. joined_gains (row two) first r (subst (λ q. Has (row q) r) (sym (test_same two b m)) k) (omega (arith, length-joined (row one) none, length-replicate regs false)))
      (or_cases (one == b) (two == b) e)))
  ended_leads (Return a) b r e k h = absurd cc
