-- Through a pointer to a null-terminated array zero alone is written at the upper bound.
use Rattle.std.proofs.Common.{◌≡◌, ℕ, ◌^◌, ◌+◌, ◌*◌, ◌≤◌, ◌<◌, ◌==◌, List, refl, sym, ◌∙◌, ap, subst, arith}
use Rattle.std.specs.Prelude.{Bool, true, false, not, if◌then◌else◌, Option, Some, None, Ok}
use Rattle.ckc_base.specs.declared.arithmetic.BinOp.TheVariants as binary
use Rattle.ckc_base.specs.declared.arithmetic.Width.{Width}
use Rattle.ckc_base.specs.declared.arithmetic.Width.TheVariants.{Byte, Word}
use Rattle.ckc_base.specs.declared.places.Pos.{Pos}
use Rattle.ckc_base.specs.declared.runtime_checks.Check.TheVariants as check
use Rattle.ckc_base.specs.Words.{applied, flag}
use Rattle.ckc_base.specs.Memory.{Memory, kept_part}
use Rattle.ckc_base.specs.Actions.{World}
use Rattle.ckc_base.specs.Activations.{Values, with_written}
use Rattle.ckc_source.specs.declared.expr.Access.{Access}
use Rattle.ckc_source.specs.declared.expr.Through.{Through}
use Rattle.ckc_source.specs.declared.expr.Through.TheVariants.{Named, Raw, One, Array, Terminated}
use Rattle.ckc_source.specs.declared.outcome.Range.{Range}
use Rattle.ckc_source.specs.declared.outcome.Range.TheVariants.{Within, Without}
use Rattle.ckc_source.specs.declared.outcome.Place.{Place}
use Rattle.ckc_source.specs.declared.outcome.Place.TheVariants as place
use Rattle.ckc_source.specs.Code as source
use Rattle.ckc_source.specs.Eval.{Store, stops, place_in}
use Rattle.ckc_source.specs.Steps.{terminator_at, refuses, allowed}
use Rattle.ckc_core.specs.Code.{Expr, Const, Local, Bin, Code, Check, Function}
use Rattle.ckc_core.specs.Meaning.{Rest, Caller, value_of, nodes}
use Rattle.ckc_checks_operands.specs.Compilable.{guard_nodes}
use Rattle.ckc_checks_operands.specs.code.Operands.{kept_in, at_offset, element_of, held, keeps_index}
use Rattle.ckc_checks_operands.specs.Cases.{is_bounded, is_ranged, takes_range}
use Rattle.ckc_checks_operands.specs.code.Pointers.{index_far, below_end}
use Rattle.ckc_checks_follow.specs.code.Inserted.{marked, guarded}
use Rattle.ckc_checks_follow.proofs.Paths.{Quiet, no_quiet}
use Rattle.ckc_checks_follow.proofs.Running.{Runs, at, by_set, by_pass, by_fail}
use Rattle.ckc_checks_follow.proofs.Values.{Sees, low_value, at_offset_value}
use Rattle.ckc_checks_follow.proofs.Counts.{written_same, written_below, range_end_nodes}
use Rattle.ckc_checks_follow.proofs.Coming.{Below}
use Rattle.ckc_checks_follow.proofs.Ending.{both_some, end_test}
use Rattle.ckc_checks_follow.proofs.Judging.{Ended}

-- ---- steps

abbrev pub mark_steps : Through → source.Expr → ℕ → ℕ
mark_steps Terminated p t = nodes (below_end p t) + 1
mark_steps _ p t = 0

-- in how many steps a value is checked
abbrev pub check_steps : Through → ℕ
check_steps Terminated = 10
check_steps _ = 0

-- in how many steps more a value is stored
abbrev pub guard_steps : Through → ℕ
guard_steps Terminated = 12
guard_steps _ = 0

below_end_nodes : (b : Bool) (p : source.Expr) (t : ℕ) → nodes (end_test b p t) ≤ 9
below_end_nodes true p t = omega (arith, range_end_nodes true p)
below_end_nodes false p t = omega arith

pub guard_few : (through : Through) (p : source.Expr) (t : ℕ) → mark_steps through p t + guard_steps through ≤ 14 * guard_nodes through
guard_few Terminated p t = omega (arith, below_end_nodes (is_ranged p) p t)
guard_few Named p t = omega arith
guard_few Raw p t = omega arith
guard_few One p t = omega arith
guard_few Array p t = omega arith

pub check_few : (through : Through) → check_steps through ≤ guard_steps through
check_few Terminated = omega arith
check_few Named = omega arith
check_few Raw = omega arith
check_few One = omega arith
check_few Array = omega arith

-- ---- the mark

-- The mark after the element says whether zero alone may be written there, and at which place that is checked.
abbrev pub IsMarked : Through → Pos → ℕ → Values → Option Pos → Type 0
IsMarked Terminated spot t l None = l (t + 1) ≡ Some 1
IsMarked Terminated spot t l (Some checked) = (checked ≡ spot) × (l (t + 1) ≡ Some 0)
IsMarked Named spot t l zero_alone = zero_alone ≡ None
IsMarked Raw spot t l zero_alone = zero_alone ≡ None
IsMarked One spot t l zero_alone = zero_alone ≡ None
IsMarked Array spot t l zero_alone = zero_alone ≡ None

pub marked_later : (through : Through) (spot : Pos) (t : ℕ) (before l : Values) (zero_alone : Option Pos) → IsMarked through spot t before zero_alone → l (t + 1) ≡ before (t + 1) → IsMarked through spot t l zero_alone
marked_later Terminated spot t before l None is same = same ∙ is
marked_later Terminated spot t before l (Some checked) is same = (is.0, same ∙ is.1)
marked_later Named spot t before l zero_alone is same = is
marked_later Raw spot t before l zero_alone is same = is
marked_later One spot t before l zero_alone is same = is
marked_later Array spot t before l zero_alone is same = is

module _ (functions : List Function) (callers : List Caller) (world : World) (n : ℕ) (s : Store) (sees : Sees n s world.memory) where
  -- the element that an access goes to
  abbrev element_at : Through → Access → (p index : source.Expr) → ℕ → Expr
  element_at through access p index t =
      element_of through access.size (held (is_bounded through) p t) (held (keeps_index (is_bounded through) index) index (t + index_far (takes_range through p)))

  -- what finds a target comes to its mark, and to where its place is known
  abbrev pub Marks : (through : Through) (access : Access) (p index : source.Expr) (t : ℕ) (more : Code) (rest : Rest) (before l : Values) (range : Range) (q : ℕ) → Type 0
  Marks through access p index t more rest before l range q =
      (count : ℕ) × (after : Values) × (count ≤ mark_steps through p t) × Quiet functions count (at callers world (marked through p t more) rest l) (at callers world more rest after)
      × Below t after before × IsMarked through access.at t after (terminator_at through range q access.at)
      × ((later : Values) → Below (t + 2) later after → value_of later world.memory (at_offset access.offset (element_at through access p index t)) ≡ Some (place_in q access.offset))

  pub mark_comes : (through : Through) (access : Access) (p index : source.Expr) (t : ℕ) (more : Code) (rest : Rest) (before l : Values) (range : Range) (q : ℕ)
      → Below t l before × ((later : Values) → Below (t + 2) later l → value_of later world.memory (element_at through access p index t) ≡ Some q) × (q < 2 ^ 32)
      → Ended functions callers world n s sees through p t range q l → Marks through access p index t more rest before l range q
  mark_comes Named access p index t more rest before l range q r end =
      (0, l, omega arith, no_quiet functions (at callers world more rest l), r.0, refl, λ later below. at_offset_value later world.memory access.offset (element_at Named access p index t) q (r.1 later below) r.2)
  mark_comes Raw access p index t more rest before l range q r end =
      (0, l, omega arith, no_quiet functions (at callers world more rest l), r.0, refl, λ later below. at_offset_value later world.memory access.offset (element_at Raw access p index t) q (r.1 later below) r.2)
  mark_comes One access p index t more rest before l range q r end =
      (0, l, omega arith, no_quiet functions (at callers world more rest l), r.0, refl, λ later below. at_offset_value later world.memory access.offset (element_at One access p index t) q (r.1 later below) r.2)
  mark_comes Array access p index t more rest before l range q r end =
      (0, l, omega arith, no_quiet functions (at callers world more rest l), r.0, refl, λ later below. at_offset_value later world.memory access.offset (element_at Array access p index t) q (r.1 later below) r.2)
  mark_comes Terminated access p index t more rest before l Without q r end = absurd end
  mark_comes Terminated access p index t more rest before l (Within low high) q r end = by (q == high) refl
    where
      marks : (here : Bool) → IsMarked Terminated access.at t (with_written l (t + 1) (flag (not here))) (if here then Some access.at else None)
      marks true = (refl, written_same l (t + 1) 0)
      marks false = written_same l (t + 1) 1

      by : (here : Bool) → (q == high) ≡ here → Marks Terminated access p index t more rest before l (Within low high) q
      by here e =
          let mark = flag (not here) in
          let after = with_written l (t + 1) mark in (
            nodes (below_end p t) + 1,
            after,
            omega arith,
            by_set functions callers world (t + 1) (below_end p t) more rest l mark (end ∙ ap (λ b. Some (flag (not b))) e),
            (λ z less. written_below l (t + 1) mark z (omega arith) ∙ r.0 z less),
            subst (λ b. IsMarked Terminated access.at t after (if b then Some access.at else None)) (sym e) (marks here),
            (λ later below. at_offset_value later world.memory access.offset (Local t) q (below t (omega arith) ∙ written_below l (t + 1) mark t (omega arith) ∙ r.1 l (λ z less. refl)) r.2),
          )

-- ---- the check

-- a value as it is kept in a local
pub kept_value : (l : Values) (memory : Memory) (width : Width) (is_byte : Bool) (e : Expr) (n : ℕ) → value_of l memory e ≡ Some n → (is_byte ≡ true → n < 256)
    → value_of l memory (kept_in width is_byte e) ≡ Some (kept_part width n)
kept_value l memory Byte true e n h b = let less : n < 256 = b refl in h ∙ ap Some (omega arith)
kept_value l memory Byte false e n h b = low_value l memory e n h
kept_value l memory Word is_byte e n h b = h

pub kept_nodes : (width : Width) (is_byte : Bool) (e : Expr) → nodes (kept_in width is_byte e) ≤ nodes e + 2
kept_nodes Byte true e = omega arith
kept_nodes Byte false e = omega arith
kept_nodes Word is_byte e = omega arith

module _ (functions : List Function) (callers : List Caller) (world : World) (rest : Rest) where
  -- code comes to the same code with the same locals, if the value may be written to the place
  abbrev pub Allows : ℕ → Code → Code → Values → Place → ℕ → Type 0
  Allows most from more l to value =
      Runs functions 0 most (at callers world from rest l) (allowed to value) (λ into w. (into ≡ to) × (w ≡ at callers world more rest l))

  pub allows_any : (to : Place) (value most : ℕ) (more : Code) (l : Values) → allowed to value ≡ Ok to → Allows most more more l to value
  allows_any to value most more l e =
      subst (λ r. Runs functions 0 most (at callers world more rest l) r (λ into w. (into ≡ to) × (w ≡ at callers world more rest l))) (sym e)
      (0, at callers world more rest l, omega arith, omega arith, no_quiet functions (at callers world more rest l), (refl, refl))

  without_end : (width : Width) (a value : ℕ) (more : Code) (l : Values) (zero_alone : Option Pos) → zero_alone ≡ None → Allows 0 more more l (place.Memory a width zero_alone) value
  without_end width a value more l zero_alone is = allows_any (place.Memory a width zero_alone) value 0 more l (ap (λ z. refuses z (kept_part width value) (Ok (place.Memory a width zero_alone))) is)

  pub guard_runs : (through : Through) (spot : Pos) (width : Width) (is_byte : Bool) (t u a value : ℕ) (zero_alone : Option Pos) (more : Code) (l : Values) → IsMarked through spot t l zero_alone
      → l u ≡ Some value → (is_byte ≡ true → value < 256)
      → Allows (check_steps through) (guarded through spot width is_byte t u more) more l (place.Memory a width zero_alone) value
  guard_runs Named spot width is_byte t u a value zero_alone more l is v small = without_end width a value more l zero_alone is
  guard_runs Raw spot width is_byte t u a value zero_alone more l is v small = without_end width a value more l zero_alone is
  guard_runs One spot width is_byte t u a value zero_alone more l is v small = without_end width a value more l zero_alone is
  guard_runs Array spot width is_byte t u a value zero_alone more l is v small = without_end width a value more l zero_alone is
  guard_runs Terminated spot width is_byte t u a value zero_alone more l is v small = by zero_alone is (kept_part width value == 0) refl
    where
      test : Expr
      test = Bin binary.Or (Local (t + 1)) (Bin binary.Eq (kept_in width is_byte (Local u)) (Const 0))

      value_is : (mark : ℕ) (zero : Bool) → l (t + 1) ≡ Some mark → (kept_part width value == 0) ≡ zero → value_of l world.memory test ≡ Some (applied binary.Or mark (flag zero))
      value_is mark zero m z =
          both_some (applied binary.Or) (l (t + 1)) (value_of l world.memory (Bin binary.Eq (kept_in width is_byte (Local u)) (Const 0))) mark (flag zero) m
          (both_some (applied binary.Eq) (value_of l world.memory (kept_in width is_byte (Local u))) (Some 0) (kept_part width value) 0 (kept_value l world.memory width is_byte (Local u) value v small) refl
          ∙ ap (λ b. Some (flag b)) z)

      passes : (to : Place) (result : ℕ) → value_of l world.memory test ≡ Some result → (result == 0) ≡ false → allowed to value ≡ Ok to
          → Allows 10 (Check check.Terminator spot test more) more l to value
      passes to result h z e =
          subst (λ r. Runs functions 0 10 (at callers world (Check check.Terminator spot test more) rest l) r (λ into w. (into ≡ to) × (w ≡ at callers world more rest l))) (sym e) (
            nodes test + 1,
            at callers world more rest l,
            omega arith,
            omega (arith, kept_nodes width is_byte (Local u)),
            by_pass functions callers world check.Terminator spot test more rest l result h z,
            (refl, refl),
          )

      by : (zero_alone : Option Pos) → IsMarked Terminated spot t l zero_alone → (zero : Bool) → (kept_part width value == 0) ≡ zero
          → Allows 10 (Check check.Terminator spot test more) more l (place.Memory a width zero_alone) value
      by None is true z = passes (place.Memory a width None) 1 (value_is 1 true is z) refl refl
      by None is false z = passes (place.Memory a width None) 1 (value_is 1 false is z) refl refl
      by (Some checked) is true z =
          let to = place.Memory a width (Some checked) in
          passes to 1 (value_is 0 true is.1 z) refl (ap (λ b. if b then Ok to else stops check.Terminator checked) z)
      by (Some checked) is false z =
          let to = place.Memory a width (Some checked) in
          subst (λ r. Runs functions 0 10 (at callers world (Check check.Terminator spot test more) rest l) r (λ into w. (into ≡ to) × (w ≡ at callers world more rest l)))
          (sym (ap (λ b. if b then Ok to else stops check.Terminator checked) z))
          (subst (λ (spot2 : Pos). Runs functions 0 10 (at callers world (Check check.Terminator spot test more) rest l) (stops {A = Place} check.Terminator spot2) (λ into w. (into ≡ to) × (w ≡ at callers world more rest l)))
          (sym is.0)
          (nodes test + 1, omega (arith, kept_nodes width is_byte (Local u)), by_fail functions callers world check.Terminator spot test more rest l 0 (value_is 0 false is.1 z) refl))
