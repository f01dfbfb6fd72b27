-- A fact that is not lost holds, whatever way a run took.
use Rattle.std.proofs.Common.{◌≡◌, ◌≢◌, inl, inr, ⊎_elim, ℕ, ◌+◌, ◌%◌, ◌^◌, ◌==◌, nat_lt, Bool, true, false, not, ◌||◌, if◌then◌else◌, List, [], ◌∷◌, slice_get, Option, None, Some, ℤ, pos, negsuc, int_lt, refl, sym, ap, subst, ◌∙◌, arith}
use Rattle.std.proofs.lemmas.Bool.{cases_Bool, both_ways}
use Rattle.std.proofs.lemmas.Bool.Decides.{nat_tests}
use Rattle.std.proofs.lemmas.Option.{none-some}
use Rattle.ckc_base.specs.Activations.{Values, with_written, with_result}
use Rattle.ckc_base.specs.declared.arithmetic.BinOp.{BinOp}
use Rattle.ckc_base.specs.declared.arithmetic.BinOp.TheVariants.{Add}
use Rattle.ckc_base.specs.Words.{applied, flag, signed}
use Rattle.ckc_tac.specs.declared.code.Comparison.{Comparison}
use Rattle.ckc_tac.specs.declared.code.Comparison.TheVariants.{LtS, LtU, Eq, Ne}
use Rattle.ckc_tac.specs.declared.code.Operand.{Operand}
use Rattle.ckc_tac.specs.declared.code.Operand.TheVariants.{Register, Number}
use Rattle.ckc_tac.specs.declared.code.TacBlock.{TacBlock}
use Rattle.ckc_tac.specs.declared.code.TacOp.{TacOp}
use Rattle.ckc_tac.specs.declared.code.TacOp.TheVariants.{Const, Bin}
use Rattle.ckc_tac.specs.Operations.{operation_of, value_in, compared}
use Rattle.ckc_flow.specs.Live.{is_register, target_of}
use Rattle.ckc_passes.specs.Rewrites.{all_done}
use Rattle.ckc_passes_known.specs.declared.facts.Fact.{Fact}
use Rattle.ckc_passes_known.specs.declared.marks.Question.{Question}
use Rattle.ckc_passes_known.specs.declared.marks.Question.TheVariants.{Stated, Counted}
use Rattle.ckc_passes_known.specs.Known.{fact_of, not_negative, told, changes, LeadsUntold, at_entry, along, ended, untold, one_more, always, IsWithin, IsDecided}
use Rattle.ckc_passes_known.specs.code.Marks.{same_fact, tells, adds_one, fact_in, IsGone}
use Rattle.ckc_passes_known.proofs.Same.{test_same, same_test, fact_is, fact_not, tells_told, tells_not, adding_is, is_adding}
use Rattle.ckc_passes_known.proofs.Counting.{counted_small, small_not_negative, within_below}

-- a comparison that has a value comes out so
abbrev pub Comes : Values → Comparison → Operand → Operand → Bool → Type 0
Comes x comparison a b holds = (v : ℕ) → compared comparison (value_in x a) (value_in x b) ≡ Some v → (v == 0) ≡ not holds

-- a comparison has a value and comes out so
abbrev pub Made : Values → Comparison → Operand → Operand → Bool → Type 0
Made x comparison a b holds = (v : ℕ) × (compared comparison (value_in x a) (value_in x b) ≡ Some v) × ((v == 0) ≡ not holds)

abbrev pub Holds : Values → Fact → Type 0
Holds x fact = Made x fact.comparison fact.a fact.b fact.holds

-- every fact that is not lost holds
abbrev pub AllHold : List TacBlock → (b : ℕ) (done : List TacOp) → Values → Type 0
AllHold blocks b done x = (question : Question) → (IsGone blocks question b done → ⊥) → Holds x (fact_in question)

-- ---- unequal is not equal

other_flag : (t h : Bool) → (flag (not t) == 0) ≡ not h → (flag t == 0) ≡ not (not h)
other_flag true true e = absurd cc
other_flag true false e = refl
other_flag false true e = refl
other_flag false false e = absurd cc

flag_other : (t h : Bool) → (flag t == 0) ≡ not (not h) → (flag (not t) == 0) ≡ not h
flag_other true true e = absurd cc
flag_other true false e = refl
flag_other false true e = refl
flag_other false false e = absurd cc

same_number : (m n : ℕ) → Some m ≡ Some n → m ≡ n
same_number m n e = cc

equal_made : (o p : Option ℕ) (h : Bool) (v : ℕ) → compared Ne o p ≡ Some v → (v == 0) ≡ not h → (w : ℕ) × (compared Eq o p ≡ Some w) × ((w == 0) ≡ not (not h))
equal_made (Some m) (Some n) h v e z =
    (flag (m == n), refl, other_flag (m == n) h (subst (λ (w : ℕ). (w == 0) ≡ not h) (sym (same_number (flag (not (m == n))) v e)) z))
equal_made (Some m) None h v e z = absurd (none-some v e)
equal_made None p h v e z = absurd (none-some v e)

unequal_comes : (o p : Option ℕ) (h : Bool) → (w : ℕ) → compared Eq o p ≡ Some w → (w == 0) ≡ not (not h) → (v : ℕ) → compared Ne o p ≡ Some v → (v == 0) ≡ not h
unequal_comes (Some m) (Some n) h w f z v e =
    subst (λ (w : ℕ). (w == 0) ≡ not h) (same_number (flag (not (m == n))) v e)
    (flag_other (m == n) h (subst (λ (w : ℕ). (w == 0) ≡ not (not h)) (sym (same_number (flag (m == n)) w f)) z))
unequal_comes (Some m) None h w f z v e = absurd (none-some v e)
unequal_comes None p h w f z v e = absurd (none-some v e)

module _ (x : Values) where
  pub made_holds : (comparison : Comparison) (a b : Operand) (h : Bool) → Made x comparison a b h → Holds x (fact_of comparison a b h)
  made_holds LtS a b h k = k
  made_holds LtU a b h k = k
  made_holds Eq a b h k = k
  made_holds Ne a b h (v, e, z) = equal_made (value_in x a) (value_in x b) h v e z

  made_comes : (comparison : Comparison) (a b : Operand) (h : Bool) → Made x comparison a b h → Comes x comparison a b h
  made_comes comparison a b h (w, f, z) v e = subst (λ (n : ℕ). (n == 0) ≡ not h) (let g : Some w ≡ Some v = sym f ∙ e in same_number w v g) z

  pub holds_comes : (comparison : Comparison) (a b : Operand) (h : Bool) → Holds x (fact_of comparison a b h) → Comes x comparison a b h
  holds_comes LtS a b h k = made_comes LtS a b h k
  holds_comes LtU a b h k = made_comes LtU a b h k
  holds_comes Eq a b h k = made_comes Eq a b h k
  holds_comes Ne a b h (w, f, z) = unequal_comes (value_in x a) (value_in x b) h w f z

-- ---- comparisons that always come out so

not_below : (n : ℕ) → nat_lt n n ≡ false
not_below n = grind (arith, nat_tests)

is_itself : (n : ℕ) → (n == n) ≡ true
is_itself n = grind (arith, nat_tests)

not_below_int : (z : ℤ) → int_lt z z ≡ false
not_below_int (pos n) = not_below n
not_below_int (negsuc n) = not_below n

applied_self : (comparison : Comparison) (m : ℕ) → applied (operation_of comparison) m m ≡ applied (operation_of comparison) 0 0
applied_self LtS m = ap flag (not_below_int (signed m))
applied_self LtU m = ap flag (not_below m)
applied_self Eq m = ap flag (is_itself m)
applied_self Ne m = ap (λ (t : Bool). flag (not t)) (is_itself m)

not_other : (t h : Bool) → not t ≡ h → t ≡ not h
not_other true h e = ap not e
not_other false h e = ap not e

same_bool : (t h : Bool) → Some t ≡ Some h → t ≡ h
same_bool t h e = cc

by_itself : (o : Option ℕ) (comparison : Comparison) (h : Bool) → not (applied (operation_of comparison) 0 0 == 0) ≡ h
    → (v : ℕ) → compared comparison o o ≡ Some v → (v == 0) ≡ not h
by_itself (Some m) comparison h k v e =
    subst (λ (w : ℕ). (w == 0) ≡ not h) (sym (applied_self comparison m) ∙ same_number (applied (operation_of comparison) m m) v e)
    (not_other (applied (operation_of comparison) 0 0 == 0) h k)
by_itself None comparison h k v e = absurd (none-some v e)

module _ (x : Values) (comparison : Comparison) (h : Bool) where
  alike_comes : (r q : ℕ) (t : Bool) → (r == q) ≡ t → (if t then Some (not (applied (operation_of comparison) 0 0 == 0)) else None) ≡ Some h
      → Comes x comparison (Register r) (Register q) h
  alike_comes r q true is e =
      subst (λ (p : ℕ). Comes x comparison (Register r) (Register p) h) (test_same r q is)
      (by_itself (x r) comparison h (same_bool (not (applied (operation_of comparison) 0 0 == 0)) h e))
  alike_comes r q false is e = absurd (let f : None ≡ Some h = e in cc)

  always_comes : (a b : Operand) → always comparison a b ≡ Some h → Comes x comparison a b h
  always_comes (Number m) (Number n) e = λ v f.
      subst (λ (w : ℕ). (w == 0) ≡ not h) (same_number (applied (operation_of comparison) m n) v f)
      (not_other (applied (operation_of comparison) m n == 0) h (same_bool (not (applied (operation_of comparison) m n == 0)) h e))
  always_comes (Register r) (Register q) e = alike_comes r q (r == q) refl e
  always_comes (Number m) (Register q) e = absurd cc
  always_comes (Register r) (Number n) e = absurd cc

-- a register that is not negative and below a limit
within_comes : (x : Values) (r : ℕ) (limit : Operand) → Holds x (not_negative r) → Holds x (fact_of LtS (Register r) limit true) → Comes x LtU (Register r) limit true
within_comes x r limit (v, e, z) (w, f, y) u g = within_below (x r) (value_in x limit) v w u e z f y g

module _ (blocks : List TacBlock) (b : ℕ) (done : List TacOp) (x : Values) (all : AllHold blocks b done x) where
  within_decided : (comparison : Comparison) (p q : Operand) (h : Bool) → IsWithin blocks b done comparison p q h → Comes x comparison p q h
  within_decided LtU (Register r) q true (below, count) =
      within_comes x r q (all (Counted r q) count) (all (Stated (fact_of LtS (Register r) q true)) below)
  within_decided LtU (Register r) q false w = absurd w
  within_decided LtU (Number n) q h w = absurd w
  within_decided LtS p q h w = absurd w
  within_decided Eq p q h w = absurd w
  within_decided Ne p q h w = absurd w

  -- what is decided comes out so
  pub decided_comes : (comparison : Comparison) (p q : Operand) (h : Bool) → IsDecided blocks b done comparison p q h → Comes x comparison p q h
  decided_comes comparison p q h (inl e) = always_comes x comparison h p q e
  decided_comes comparison p q h (inr (inl k)) = holds_comes x comparison p q h (all (Stated (fact_of comparison p q h)) k)
  decided_comes comparison p q h (inr (inr w)) = within_decided comparison p q h w

-- ---- registers that are written

written_other : (x : Values) (t v q : ℕ) → (q == t) ≡ false → with_written x t v q ≡ x q
unfolding with_written
written_other x t v q e = ap (λ (b : Bool). if b then Some v else x q) e

value_kept : (x : Values) (t v : ℕ) (a : Operand) → is_register t a ≡ false → value_in (with_written x t v) a ≡ value_in x a
value_kept x t v (Register r) e = written_other x t v r e
value_kept x t v (Number n) e = refl

or_not_left : (s t : Bool) → (s || t) ≡ false → s ≡ false
or_not_left true t e = absurd cc
or_not_left false t e = refl

or_not_right : (s t : Bool) → (s || t) ≡ false → t ≡ false
or_not_right true t e = absurd cc
or_not_right false t e = e

holds_kept : (x : Values) (t v : ℕ) (fact : Fact) → changes (Some t) fact ≡ false → Holds x fact → Holds (with_written x t v) fact
holds_kept x t v fact e (w, f, z) =
    let one = value_kept x t v fact.a (or_not_left (is_register t fact.a) (is_register t fact.b) e) in
    let two = value_kept x t v fact.b (or_not_right (is_register t fact.a) (is_register t fact.b) e) in
    (w, ap (λ o. compared fact.comparison o (value_in (with_written x t v) fact.b)) one ∙ ap (λ o. compared fact.comparison (value_in x fact.a) o) two ∙ f, z)

written_same : (x : Values) (t v : ℕ) → with_written x t v t ≡ Some v
unfolding with_written
written_same x t v = ap (λ (b : Bool). if b then Some v else x t) (same_test t)

same_told : (f g : Fact) → Some f ≡ Some g → f ≡ g
same_told f g e = cc

-- a small number is put into a register
holds_small : (x : Values) (t v : ℕ) → nat_lt v (2 ^ 31) ≡ true → Holds (with_written x t v) (not_negative t)
holds_small x t v small = (flag (int_lt (signed v) (signed 0)), ap (λ o. compared LtS o (Some 0)) (written_same x t v), small_not_negative v small)

module _ (blocks : List TacBlock) (b : ℕ) (done : List TacOp) (x : Values) (all : AllHold blocks b done x) where
  -- an operation after which there are these values
  module _ (op : TacOp) (y : Values) (says : (fact : Fact) → told op ≡ Some fact → Holds y fact)
      (keeps : (fact : Fact) → changes (target_of op) fact ≡ false → Holds x fact → Holds y fact)
      (counts : (r : ℕ) (limit : Operand) → op ≡ one_more r → Holds x (not_negative r) → Holds x (fact_of LtS (Register r) limit true) → Holds y (not_negative r)) where
    written_over : (question : Question) → told op ≢ Some (fact_in question) → changes (target_of op) (fact_in question) ≡ true
        → (IsGone blocks question b (op ∷ done) → ⊥) → Holds x (fact_in question) → Holds y (fact_in question)
    written_over (Stated fact) n c kept h = absurd (kept (ended n c))
    written_over (Counted r limit) n c kept h = ⊎_elim
        (λ (a : adds_one op r ≡ true).
        counts r limit (adding_is op r a) h (all (Stated (fact_of LtS (Register r) limit true)) (λ is. kept (ended n (c, λ same. is)))))
        (λ (a : adds_one op r ≡ false). absurd (kept (ended n (c, λ same. absurd (both_ways (adds_one op r) a (is_adding op r same))))))
        (cases_Bool (adds_one op r))

    all_after : AllHold blocks b (op ∷ done) y
    all_after question kept = ⊎_elim
        (λ (t : tells op (fact_in question) ≡ true). says (fact_in question) (tells_told op (fact_in question) t))
        (λ (f : tells op (fact_in question) ≡ false).
        let n = tells_not op (fact_in question) f in
        let h : Holds x (fact_in question) = all question (λ is. kept (untold n is)) in
        ⊎_elim
        (λ (c : changes (target_of op) (fact_in question) ≡ true). written_over question n c kept h)
        (λ (c : changes (target_of op) (fact_in question) ≡ false). keeps (fact_in question) c h)
        (cases_Bool (changes (target_of op) (fact_in question))))
        (cases_Bool (tells op (fact_in question)))

  says_none : (op : TacOp) (y : Values) → told op ≡ None → (fact : Fact) → told op ≡ Some fact → Holds y fact
  says_none op y none fact e = absurd (none-some fact (sym none ∙ e))

  writes_one : (op : TacOp) (t v : ℕ) → target_of op ≡ Some t → (fact : Fact) → changes (target_of op) fact ≡ false → Holds x fact → Holds (with_written x t v) fact
  writes_one op t v to fact c h = holds_kept x t v fact (sym (ap (λ o. changes o fact) to) ∙ c) h

  -- an operation that writes a register, tells nothing and adds no 1
  pub all_written : (op : TacOp) (t v : ℕ) → target_of op ≡ Some t → told op ≡ None → ((r : ℕ) → adds_one op r ≡ false) → AllHold blocks b (op ∷ done) (with_written x t v)
  all_written op t v to none plain =
      all_after op (with_written x t v) (says_none op (with_written x t v) none) (writes_one op t v to)
      (λ r limit same h l. absurd (both_ways (adds_one op r) (plain r) (is_adding op r same)))

  -- a number
  pub all_number : (t n : ℕ) → AllHold blocks b (Const t n ∷ done) (with_written x t n)
  all_number t n =
      all_after (Const t n) (with_written x t n) (number_says t n (nat_lt n (2 ^ 31)) refl) (writes_one (Const t n) t n refl)
      (λ r limit same h l. absurd (both_ways (adds_one (Const t n) r) refl (is_adding (Const t n) r same)))
    where
      number_says : (t n : ℕ) (small : Bool) → nat_lt n (2 ^ 31) ≡ small → (fact : Fact) → (if small then Some (not_negative t) else None) ≡ Some fact → Holds (with_written x t n) fact
      number_says t n true small fact e = subst (Holds (with_written x t n)) (same_told (not_negative t) fact e) (holds_small x t n small)
      number_says t n false small fact e = absurd (none-some fact e)

  -- an operation on two operands
  pub all_computed : (op : BinOp) (t : ℕ) (p q : Operand) (m n : ℕ) → value_in x p ≡ Some m → value_in x q ≡ Some n
      → AllHold blocks b (Bin op t p q ∷ done) (with_written x t (applied op m n))
  all_computed op t p q m n e f =
      all_after (Bin op t p q) (with_written x t (applied op m n)) (says_none (Bin op t p q) (with_written x t (applied op m n)) refl)
      (writes_one (Bin op t p q) t (applied op m n) refl)
      (λ r limit same h l. counted op t p q m n e f r limit same h l)
    where
      same_bin : (op : BinOp) (t : ℕ) (p q : Operand) (r : ℕ) → Bin op t p q ≡ one_more r → (op ≡ Add) × (t ≡ r) × (p ≡ Register r) × (q ≡ Number 1)
      same_bin op t p q r same = (cc, cc, cc, cc)

      counted : (op : BinOp) (t : ℕ) (p q : Operand) (m n : ℕ) → value_in x p ≡ Some m → value_in x q ≡ Some n → (r : ℕ) (limit : Operand)
          → Bin op t p q ≡ one_more r → Holds x (not_negative r) → Holds x (fact_of LtS (Register r) limit true) → Holds (with_written x t (applied op m n)) (not_negative r)
      counted op t p q m n e f r limit same (v, g, z) (w, h, y) =
          let (is_add, to, left, right) = same_bin op t p q r same in
          let at : x r ≡ Some m = ap (value_in x) (sym left) ∙ e in
          let one : n ≡ 1 = same_number n 1 (sym f ∙ ap (value_in x) right) in
          let sum : applied op m n ≡ (m + 1) % 2 ^ 32 = ap (λ (o : BinOp). applied o m n) is_add ∙ ap (λ (k : ℕ). (m + k) % 2 ^ 32) one in
          subst (λ (s : ℕ). Holds (with_written x t s) (not_negative r)) (sym sum)
          (subst (λ (s : ℕ). Holds (with_written x t ((m + 1) % 2 ^ 32)) (not_negative s)) to
          (holds_small x t ((m + 1) % 2 ^ 32) (counted_small m (value_in x limit) v w (sym (ap (λ o. compared LtS o (Some 0)) at) ∙ g) z
          (sym (ap (λ o. compared LtS o (value_in x limit)) at) ∙ h) y)))

  -- one that writes none and tells nothing
  pub all_same : (op : TacOp) → target_of op ≡ None → told op ≡ None → AllHold blocks b (op ∷ done) x
  all_same op to none =
      all_after op x (says_none op x none) (λ fact c h. h)
      (λ r limit same h l. h)

  -- a check that is passed
  pub all_checked : (op : TacOp) (comparison : Comparison) (p q : Operand) → told op ≡ Some (fact_of comparison p q true) → Made x comparison p q true
      → AllHold blocks b (op ∷ done) x
  all_checked op comparison p q is made =
      all_after op x (λ fact e. subst (Holds x) (same_told (fact_of comparison p q true) fact (sym is ∙ e)) (made_holds x comparison p q true made))
      (λ fact c h. h) (λ r limit same h l. h)

  pub all_result : (op : TacOp) (target : Option ℕ) (v : ℕ) → target_of op ≡ target → told op ≡ None → ((r : ℕ) → adds_one op r ≡ false)
      → AllHold blocks b (op ∷ done) (with_result x target v)
  all_result op (Some t) v to none plain = all_written op t v to none plain
  all_result op None v to none plain = all_same op to none

  -- control goes along an edge of a branch, which tells a fact
  pub all_branched : (block : TacBlock) (to : ℕ) (comparison : Comparison) (p q : Operand) (h : Bool) → slice_get blocks b ≡ Some block → done ≡ all_done [] block.ops
      → ((fact : Fact) → fact_of comparison p q h ≢ fact → LeadsUntold fact block.end to) → Made x comparison p q h → AllHold blocks to [] x
  all_branched block to comparison p q h at is leads made question kept = ⊎_elim
      (λ (t : same_fact (fact_of comparison p q h) (fact_in question) ≡ true). subst (Holds x) (fact_is (fact_of comparison p q h) (fact_in question) t) (made_holds x comparison p q h made))
      (λ (n : same_fact (fact_of comparison p q h) (fact_in question) ≡ false).
      all question (λ lost. kept (along b block at (leads (fact_in question) (fact_not (fact_of comparison p q h) (fact_in question) n)) (subst (IsGone blocks question b) is lost))))
      (cases_Bool (same_fact (fact_of comparison p q h) (fact_in question)))

  -- and by a jump
  pub all_jumped : (block : TacBlock) (to : ℕ) → slice_get blocks b ≡ Some block → done ≡ all_done [] block.ops
      → ((fact : Fact) → LeadsUntold fact block.end to) → AllHold blocks to [] x
  all_jumped block to at is leads question kept = all question (λ lost. kept (along b block at (leads (fact_in question)) (subst (IsGone blocks question b) is lost)))

-- nothing is known at the entry
pub all_at_entry : (blocks : List TacBlock) (x : Values) → AllHold blocks 0 [] x
all_at_entry blocks x question kept = absurd (kept at_entry)
