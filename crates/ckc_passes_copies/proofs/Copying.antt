-- A program that reads registers at their origins follows its argument, and is no larger.
use Rattle.std.proofs.Common.{◌≡◌, ◌≢◌, ◌⊎◌, inl, inr, ℕ, suc, ◌+◌, ◌≤◌, ◌<◌, ◌^◌, ◌==◌, if◌then◌else◌, Bool, true, false, List, [], ◌∷◌, length, map, Option, None, Some, refl, sym, ap, subst, ◌∙◌, arith}
use Rattle.std.specs.Prelude.{All, IfSome, option_and_then}
use Rattle.std.specs.List.{slice_get}
use Rattle.std.specs.Option.{option_map}
use Rattle.std.proofs.lemmas.List.{length-map}
use Rattle.std.proofs.lemmas.List.Elements.{All-nil, All-cons, All-head, All-tail}
use Rattle.ckc_base.specs.declared.places.Pos.{Pos}
use Rattle.ckc_base.specs.Words.{applied}
use Rattle.ckc_base.specs.Products.{high_product}
use Rattle.ckc_base.specs.Memory.{value_at}
use Rattle.ckc_base.specs.Actions.{World, Outcome, Gives, with_value, stores, checks, puts, allocates}
use Rattle.ckc_base.specs.Activations.{Values, with_written}
use Rattle.ckc_base.specs.Sizes.{call_size}
use Rattle.ckc_tac.specs.declared.code.TacFunc.{TacFunc}
use Rattle.ckc_tac.specs.declared.code.Comparison.{Comparison}
use Rattle.ckc_tac.specs.declared.code.Operand.{Operand}
use Rattle.ckc_tac.specs.declared.code.Operand.TheVariants.{Register, Number}
use Rattle.ckc_tac.specs.declared.code.TacOp.{TacOp}
use Rattle.ckc_tac.specs.declared.code.TacOp.TheVariants.{Const, Copy, Bin, High, Load, Store, Check, Call, Get, Put, Alloc}
use Rattle.ckc_tac.specs.declared.code.TacEnd.{TacEnd}
use Rattle.ckc_tac.specs.declared.code.TacEnd.TheVariants.{Jump, Branch, Return}
use Rattle.ckc_tac.specs.Operations.{outcome_of, value_in, values_in, compared, at_offset}
use Rattle.ckc_tac.specs.WellFormed.{IsOpOver, IsEndOver, IsOperandOver, HasParams}
use Rattle.ckc_tac.specs.Sizes.{op_size, operand_size, end_size}
use Rattle.ckc_flow.specs.Live.{target_of}
use Rattle.ckc_passes.specs.Values.{is_target}
use Rattle.ckc_passes.specs.Rewrites.{pass_by}
use Rattle.ckc_passes.specs.code.Faithful.{EndsBeside, IsFaithful, IsThrifty}
use Rattle.ckc_passes.specs.code.Forward.{IsGiven, IsForward, SameAnd, SameOutcome, DoesSame}
use Rattle.ckc_passes.proofs.Forwarded.{some_same, same_itself, faithful_by}
use Rattle.ckc_passes.proofs.Valued.{Hit, hit, miss, hits, written_same, written_other}
use Rattle.ckc_passes_copies.specs.Origins.{Writes, last_write, last_copied, copied_by, writes_after, source, origin, number_or, operand_origin}
use Rattle.ckc_passes_copies.specs.Copied.{copied_op, copied_end, copies}
use Rattle.ckc_passes_copies.proofs.Following.{source_is, is_source, origin_shares, origin_keeps}
use Rattle.ckc_passes_copies.proofs.Tracing.{write_target, write_other, copied_target, copied_other}

-- ---- what holds of the registers

-- a register has the value of its source, and the number that its last write put there
pub record Traces (before : List TacOp) (x : Values) : Type 0 where
  pub sources : (r s : ℕ) → source (writes_after before) r ≡ Some s → x s ≡ x r
  pub numbers : (r n : ℕ) → last_copied before r ≡ Some (Number n) → x r ≡ Some n

write_within : (before : List TacOp) (r : ℕ) → last_write before r ≤ length before
write_within [] r = omega arith
write_within (op ∷ before) r = by (hits (target_of op) r) (write_within before r)
  where
    by : Hit (target_of op) r → last_write before r ≤ length before → last_write (op ∷ before) r ≤ length (op ∷ before)
    by (hit e) k = let h = write_target before op r e in omega (arith, h)
    by (miss e apart) k = let h = write_other before op r e in omega (arith, h, k)

copied_register : (x : Values) (op : TacOp) (s v : ℕ) → copied_by op ≡ Some (Register s) → IsGiven x op v → x s ≡ Some v
copied_register x (Const t n) s v e g = absurd cc
copied_register x (Copy t a) s v e g = subst (λ q. x q ≡ Some v) (let f : a ≡ s = cc in f) g
copied_register x op s v e g = absurd cc

copied_number : (x : Values) (op : TacOp) (n v : ℕ) → copied_by op ≡ Some (Number n) → IsGiven x op v → v ≡ n
copied_number x (Const t m) n v e g = g ∙ (let f : m ≡ n = cc in f)
copied_number x (Copy t a) n v e g = absurd cc
copied_number x op n v e g = absurd cc

module _ (before : List TacOp) (op : TacOp) where
  abbrev next : Writes
  next = writes_after (op ∷ before)

  -- a source of a register that is not written here was one before
  older_source : (r s : ℕ) → is_target (target_of op) r ≡ false → source next r ≡ Some s
      → (source (writes_after before) r ≡ Some s) × ((t : ℕ) → target_of op ≡ Some t → s ≢ t)
  older_source r s e is =
      let (copied, later) = source_is next r s is in
      let here = write_other before op r e in
      let low = write_within before r in
      by copied later here low (hits (target_of op) s)
    where
      by : last_copied (op ∷ before) r ≡ Some (Register s) → last_write (op ∷ before) s < last_write (op ∷ before) r
          → last_write (op ∷ before) r ≡ last_write before r → last_write before r ≤ length before
          → Hit (target_of op) s → (source (writes_after before) r ≡ Some s) × ((t : ℕ) → target_of op ≡ Some t → s ≢ t)
      by copied later here low (hit f) = let there = write_target before op s f in absurd (omega (arith, later, here, low, there))
      by copied later here low (miss f apart) =
          let there = write_other before op s f in
          (is_source (writes_after before) r s (sym (copied_other before op r e) ∙ copied) (omega (arith, later, here, there)), apart)

  module _ (x : Values) (traces : Traces before x) where
    write_sources : (t v : ℕ) → target_of op ≡ Some t → IsGiven x op v → (r s : ℕ) → source next r ≡ Some s → with_written x t v s ≡ with_written x t v r
    write_sources t v target g r s is = by (hits (target_of op) r)
      where
        by : Hit (target_of op) r → with_written x t v s ≡ with_written x t v r
        by (hit e) =
            let (copied, later) = source_is next r s is in
            let same : r ≡ t = (let h : Some r ≡ Some t = sym e ∙ target in cc) in
            let other : s ≢ t = λ f. let g : last_write (op ∷ before) s ≡ last_write (op ∷ before) r = ap (last_write (op ∷ before)) (f ∙ sym same) in absurd (omega (arith, later, g)) in
            written_other x t v s other ∙ copied_register x op s v (sym (copied_target before op r e) ∙ copied) g ∙ sym (written_same x t v r same)
        by (miss e apart) =
            let (older, not) = older_source r s e is in
            written_other x t v s (not t target) ∙ traces.sources r s older ∙ sym (written_other x t v r (apart t target))

    write_numbers : (t v : ℕ) → target_of op ≡ Some t → IsGiven x op v → (r n : ℕ) → last_copied (op ∷ before) r ≡ Some (Number n) → with_written x t v r ≡ Some n
    write_numbers t v target g r n is = by (hits (target_of op) r)
      where
        by : Hit (target_of op) r → with_written x t v r ≡ Some n
        by (hit e) =
            let same : r ≡ t = (let h : Some r ≡ Some t = sym e ∙ target in cc) in
            written_same x t v r same ∙ ap Some (copied_number x op n v (sym (copied_target before op r e) ∙ is) g)
        by (miss e apart) = written_other x t v r (apart t target) ∙ traces.numbers r n (sym (copied_other before op r e) ∙ is)

    writes_trace : (t v : ℕ) → target_of op ≡ Some t → IsGiven x op v → Traces (op ∷ before) (with_written x t v)
    writes_trace t v target g = record { sources = write_sources t v target g; numbers = write_numbers t v target g }

    skips_trace : target_of op ≡ None → Traces (op ∷ before) x
    skips_trace none = record {
      sources = λ r s is. traces.sources r s (older_source r s (ap (λ o. is_target o r) none) is).0;
      numbers = λ r n is. traces.numbers r n (sym (copied_other before op r (ap (λ o. is_target o r) none)) ∙ is);
    }

traces_begin : (x : Values) → Traces [] x
traces_begin x = record {
  sources = λ r s is. let (copied, later) = source_is (writes_after []) r s is in absurd (omega (arith, later));
  numbers = λ r n is. absurd cc;
}

traces_forward : IsForward Traces
traces_forward = record {
  begins = traces_begin;
  writes = λ done op x t v target g traces. writes_trace done op x traces t v target g;
  skips = λ done op x none traces. skips_trace done op x traces none;
}

-- ---- what is read has the same value

module _ (before : List TacOp) (x : Values) (traces : Traces before x) where
  abbrev w : Writes
  w = writes_after before

  origin_same : (r : ℕ) → x (origin w r) ≡ x r
  origin_same r = origin_shares w x traces.sources r

  number_same : (q : ℕ) (o : Option Operand) → w.copied q ≡ o → value_in x (number_or o q) ≡ x q
  number_same q (Some (Number n)) e = sym (traces.numbers q n e)
  number_same q (Some (Register s)) e = refl
  number_same q None e = refl

  operand_same : (a : Operand) → value_in x (operand_origin w a) ≡ value_in x a
  operand_same (Register r) = number_same (origin w r) (w.copied (origin w r)) refl ∙ origin_same r
  operand_same (Number n) = refl

  values_same : (rs : List ℕ) → values_in x (map (origin w) rs) ≡ values_in x rs
  values_same [] = refl
  values_same (r ∷ rs) =
      ap (λ o. option_and_then (λ v. option_map (λ vs. v ∷ vs) (values_in x (map (origin w) rs))) o) (origin_same r)
      ∙ ap (λ os. option_and_then (λ v. option_map (λ vs. v ∷ vs) os) (x r)) (values_same rs)

  two_same : (f : ℕ → ℕ → Outcome) (a b : Operand)
      → with_value (value_in x (operand_origin w a)) (λ v. with_value (value_in x (operand_origin w b)) (f v)) ≡ with_value (value_in x a) (λ v. with_value (value_in x b) (f v))
  two_same f a b =
      ap (λ o. with_value (value_in x (operand_origin w a)) (λ v. with_value o (f v))) (operand_same b)
      ∙ ap (λ o. with_value o (λ v. with_value (value_in x b) (f v))) (operand_same a)

  compared_same : (comparison : Comparison) (a b : Operand)
      → compared comparison (value_in x (operand_origin w a)) (value_in x (operand_origin w b)) ≡ compared comparison (value_in x a) (value_in x b)
  compared_same comparison a b =
      ap (λ o. compared comparison o (value_in x (operand_origin w b))) (operand_same a)
      ∙ ap (compared comparison (value_in x a)) (operand_same b)

  copied_same : (op : TacOp) → DoesSame x op (copied_op w op)
  copied_same (Const t n) = λ world. inr refl
  copied_same (Copy t a) = λ world. inr (ap (λ o. with_value o (λ v. Gives [] t v world)) (origin_same a))
  copied_same (Bin op t a b) = λ world. inr (two_same (λ v u. Gives [] t (applied op v u) world) a b)
  copied_same (High is_signed t a b) = λ world. inr (two_same (λ v u. Gives [] t (high_product is_signed v u) world) a b)
  copied_same (Load width t a n) = λ world.
      inr (ap (λ o. with_value o (λ p. with_value (value_at width world.memory (at_offset p n)) (λ v. Gives [] t v world))) (operand_same a))
  copied_same (Store width a n b) = λ world. inr (two_same (λ p. stores world width (at_offset p n)) a b)
  copied_same (Check check at comparison a b) = λ world. inr (ap (λ o. with_value o (checks world check at)) (compared_same comparison a b))
  copied_same (Call target callee arguments at) = record {
    others = map (origin w) arguments;
    is = refl;
    long = length-map arguments (origin w);
    values = subst (λ (o : Option (List ℕ)). IfSome (values_in x arguments) (λ vs. o ≡ Some vs)) (sym (values_same arguments)) (some_same (values_in x arguments));
  }
  copied_same (Get t) = λ world. inr refl
  copied_same (Put a) = λ world. inr (ap (λ o. with_value o (puts world)) (operand_same a))
  copied_same (Alloc t a size) = λ world. inr (ap (λ o. with_value o (λ n. allocates world t n size)) (operand_same a))

  end_same : (end : TacEnd) → EndsBeside x x end (copied_end w end)
  end_same (Jump to) = refl
  end_same (Branch comparison a b one two) = (
    operand_origin w a,
    operand_origin w b,
    refl,
    subst (λ (o : Option ℕ). IfSome (compared comparison (value_in x a) (value_in x b)) (λ v. o ≡ Some v)) (sym (compared_same comparison a b))
        (some_same (compared comparison (value_in x a) (value_in x b))),
  )
  end_same (Return a) = (
    operand_origin w a,
    refl,
    subst (λ (o : Option ℕ). IfSome (value_in x a) (λ v. o ≡ Some v)) (sym (operand_same a)) (some_same (value_in x a)),
  )

pub copies_faithful : IsFaithful (pass_by copies) (SameAnd Traces)
copies_faithful = faithful_by copies Traces traces_forward (λ done op x traces. copied_same done x traces op) (λ done end x traces. end_same done x traces end)

-- ---- sizes

if_two : (b : Bool) → (if b then 0 else 2) ≤ 3
if_two true = omega arith
if_two false = omega arith

number_fits : (o : Option Operand) (q r : ℕ) → operand_size (number_or o q) ≤ operand_size (Register r)
number_fits (Some (Number n)) q r = if_two (n == 0)
number_fits (Some (Register s)) q r = omega arith
number_fits None q r = omega arith

operand_fits : (w : Writes) (a : Operand) → operand_size (operand_origin w a) ≤ operand_size a
operand_fits w (Register r) = number_fits (w.copied (origin w r)) (origin w r) r
operand_fits w (Number n) = omega arith

copied_fits : (w : Writes) (op : TacOp) → op_size (copied_op w op) ≤ op_size op
copied_fits w (Call target callee arguments at) = let e = length-map arguments (origin w) in omega (arith, e)
copied_fits w (Check check at comparison a b) = let h = operand_fits w a in let k = operand_fits w b in omega (arith, h, k)
copied_fits w op = omega arith

end_fits : (w : Writes) (end : TacEnd) → end_size (copied_end w end) ≤ end_size end
end_fits w (Branch comparison a b one two) = let h = operand_fits w a in let k = operand_fits w b in omega (arith, h, k)
end_fits w end = omega arith

-- ---- what is named

module _ (functions : List TacFunc) (regs : ℕ) where
  copied_over : (op : TacOp) (a : Operand) → IsOpOver functions regs op → copied_by op ≡ Some a → IsOperandOver regs a
  copied_over (Const t n) a over e = subst (IsOperandOver regs) (let f : Number n ≡ a = cc in f) over.1
  copied_over (Copy t r) a over e = subst (IsOperandOver regs) (let f : Register r ≡ a = cc in f) over.1
  copied_over op a over e = absurd cc

  last_over : (before : List TacOp) → All (IsOpOver functions regs) before → (r : ℕ) (a : Operand) → last_copied before r ≡ Some a → IsOperandOver regs a
  last_over [] over r a e = absurd cc
  last_over (op ∷ before) over r a e =
      by (hits (target_of op) r) (last_over before (All-tail (IsOpOver functions regs) op before over) r a)
    where
      by : Hit (target_of op) r → (last_copied before r ≡ Some a → IsOperandOver regs a) → IsOperandOver regs a
      by (hit f) again = copied_over op a (All-head (IsOpOver functions regs) op before over) (sym (copied_target before op r f) ∙ e)
      by (miss f apart) again = again (sym (copied_other before op r f) ∙ e)

  module _ (before : List TacOp) (over : All (IsOpOver functions regs) before) where
    abbrev v : Writes
    v = writes_after before

    origin_over : (r : ℕ) → r < regs → origin v r < regs
    origin_over r h = origin_keeps (λ q. q < regs) v (λ q s e. last_over before over q (Register s) (source_is v q s e).0) r h

    number_over : (q : ℕ) (o : Option Operand) → v.copied q ≡ o → q < regs → IsOperandOver regs (number_or o q)
    number_over q (Some (Number n)) e h = last_over before over q (Number n) e
    number_over q (Some (Register s)) e h = h
    number_over q None e h = h

    operand_over : (a : Operand) → IsOperandOver regs a → IsOperandOver regs (operand_origin v a)
    operand_over (Register r) h = number_over (origin v r) (v.copied (origin v r)) refl (origin_over r h)
    operand_over (Number n) h = h

    origins_over : (rs : List ℕ) → All (λ r. r < regs) rs → All (λ r. r < regs) (map (origin v) rs)
    origins_over [] h = All-nil (λ r. r < regs)
    origins_over (r ∷ rs) h =
        All-cons (λ r. r < regs) (origin v r) (map (origin v) rs) (origin_over r (All-head (λ r. r < regs) r rs h)) (origins_over rs (All-tail (λ r. r < regs) r rs h))

    op_over : (op : TacOp) → IsOpOver functions regs op → IsOpOver functions regs (copied_op v op)
    op_over (Const t n) h = h
    op_over (Copy t a) h = (h.0, origin_over a h.1)
    op_over (Bin op t a b) h = (h.0, operand_over a h.1, operand_over b h.2)
    op_over (High is_signed t a b) h = (h.0, operand_over a h.1, operand_over b h.2)
    op_over (Load width t a n) h = (h.0, operand_over a h.1, h.2)
    op_over (Store width a n b) h = (operand_over a h.0, h.1, operand_over b h.2)
    op_over (Check check at comparison a b) h = (h.0, operand_over a h.1, operand_over b h.2)
    op_over (Call target callee arguments at) h = (
      h.0,
      subst (λ (n : ℕ). HasParams n (slice_get functions callee)) (sym (length-map arguments (origin v))) h.1,
      origins_over arguments h.2,
      h.3,
    )
    op_over (Get t) h = h
    op_over (Put a) h = operand_over a h
    op_over (Alloc t a size) h = (h.0, operand_over a h.1, h.2)

    end_over : (count : ℕ) (end : TacEnd) → IsEndOver count regs end → IsEndOver count regs (copied_end v end)
    end_over count (Jump to) h = h
    end_over count (Branch comparison a b one two) h = (operand_over a h.0, operand_over b h.1, h.2, h.3)
    end_over count (Return a) h = operand_over a h

pub copies_thrifty : IsThrifty (pass_by copies)
copies_thrifty = record {
  over = λ blocks done ops end op low given functions regs over here. subst (IsOpOver functions regs) (sym given) (op_over functions regs done over op here);
  op_fits = λ blocks done ops end op low given. subst (λ (l : TacOp). op_size l ≤ op_size op) (sym given) (copied_fits (writes_after done) op);
  end_over = λ blocks done end low_end given functions count regs over here. subst (IsEndOver count regs) (sym given) (end_over functions regs done over count end here);
  end_fits = λ blocks done end low_end given. subst (λ (e : TacEnd). end_size e ≤ end_size end) (sym given) (end_fits (writes_after done) end);
}
