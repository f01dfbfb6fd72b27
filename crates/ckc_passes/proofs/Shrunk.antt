-- The result of a thrifty pass is whole, has the same registers, no more operations, and is no larger.
use Rattle.std.proofs.Common.{◌≡◌, ℕ, ◌≤◌, List, [], ◌∷◌, length, map, Option, None, Some, refl, sym, ap, subst, ◌∙◌, arith}
use Rattle.std.specs.Prelude.{All, sum_by}
use Rattle.std.specs.List.{slice_get, AllZip}
use Rattle.std.proofs.lemmas.List.Elements.{All-nil, All-cons, All-head, All-tail, All-weaker}
use Rattle.std.proofs.lemmas.List.Sums.{sum_by-cons}
use Rattle.std.proofs.lemmas.Slice.Zip.{AllZip-long}
use Rattle.ckc_tac.specs.declared.code.Tac.{Tac}
use Rattle.ckc_tac.specs.declared.code.TacFunc.{TacFunc}
use Rattle.ckc_tac.specs.declared.code.TacBlock.{TacBlock}
use Rattle.ckc_tac.specs.declared.code.TacOp.{TacOp}
use Rattle.ckc_tac.specs.declared.code.TacOp.TheVariants.{Call}
use Rattle.ckc_tac.specs.declared.code.TacEnd.{TacEnd}
use Rattle.ckc_tac.specs.WellFormed.{IsWellFormed, IsFunctionOver, IsBlockOver, IsOpOver, IsEndOver, HasParams}
use Rattle.ckc_tac.specs.Sizes.{op_size, end_size, ops_size, block_size, function_size, program_size}
use Rattle.ckc_passes.specs.Counts.{operations_in, operations_of, registers_of}
use Rattle.ckc_passes.specs.Passes.{Pass, Becomes, ended, kept, dropped, BlockBecomes, FunctionBecomes, ProgramBecomes}
use Rattle.ckc_passes.specs.code.Faithful.{IsThrifty}
use Rattle.ckc_passes.proofs.Followed.{zip_get}

-- ---- lists side by side

pub sums_fit : {A B : Type 0} (R : A → B → Type 0) (f : A → ℕ) (g : B → ℕ) → ((x : A) (y : B) → R x y → g y ≤ f x) → (xs : List A) (ys : List B) → AllZip R xs ys
    → sum_by g ys ≤ sum_by f xs
sums_fit R f g h [] [] z = omega arith
sums_fit R f g h [] (y ∷ ys) z = absurd z
sums_fit R f g h (x ∷ xs) [] z = absurd z
sums_fit R f g h (x ∷ xs) (y ∷ ys) z =
    let more = sums_fit R f g h xs ys z.1 in
    let one = h x y z.0 in
    omega (arith, more, one, sum_by-cons f x xs, sum_by-cons g y ys)

pub same_map : {A B C : Type 0} (R : A → B → Type 0) (f : A → C) (g : B → C) → ((x : A) (y : B) → R x y → g y ≡ f x) → (xs : List A) (ys : List B) → AllZip R xs ys
    → map g ys ≡ map f xs
same_map R f g h [] [] z = refl
same_map R f g h [] (y ∷ ys) z = absurd z
same_map R f g h (x ∷ xs) [] z = absurd z
same_map R f g h (x ∷ xs) (y ∷ ys) z = ap (λ c. c ∷ map g ys) (h x y z.0) ∙ ap (λ l. f x ∷ l) (same_map R f g h xs ys z.1)

-- ---- functions that are whole again

-- with as many parameters, registers and blocks as before
pub over_again : (functions lowers : List TacFunc) (f g : TacFunc) → g.params ≡ f.params → g.regs ≡ f.regs → length g.blocks ≡ length f.blocks
    → All (IsBlockOver lowers (length f.blocks) f.regs) g.blocks → IsFunctionOver functions f → IsFunctionOver lowers g
over_again functions lowers f g params regs long over h = (
  omega (arith, params, regs, h.0),
  omega (arith, long, h.1),
  subst (λ (n : ℕ). All (IsBlockOver lowers (length g.blocks) n) g.blocks) (sym regs)
      (subst (λ (n : ℕ). All (IsBlockOver lowers n f.regs) g.blocks) (sym long) over),
)

module _ (Q : TacFunc → TacFunc → Type 0) where
  pub functions_again : (functions lowers : List TacFunc) → ((f g : TacFunc) → Q f g → IsFunctionOver functions f → IsFunctionOver lowers g) → (fs gs : List TacFunc)
      → AllZip Q fs gs → All (IsFunctionOver functions) fs → All (IsFunctionOver lowers) gs
  functions_again functions lowers over [] [] z h = All-nil (IsFunctionOver lowers)
  functions_again functions lowers over [] (g ∷ gs) z h = absurd z
  functions_again functions lowers over (f ∷ fs) [] z h = absurd z
  functions_again functions lowers over (f ∷ fs) (g ∷ gs) z h =
      All-cons (IsFunctionOver lowers) g gs (over f g z.0 (All-head (IsFunctionOver functions) f fs h))
      (functions_again functions lowers over fs gs z.1 (All-tail (IsFunctionOver functions) f fs h))

  pub params_again : ((f g : TacFunc) → Q f g → g.params ≡ f.params) → (functions lowers : List TacFunc) → AllZip Q functions lowers → (n k : ℕ) (o : Option TacFunc)
      → slice_get functions k ≡ o → HasParams n o → HasParams n (slice_get lowers k)
  params_again params functions lowers become n k (Some f) e h =
      let (g, there, made) = zip_get Q functions lowers k f become e in
      subst (HasParams n) (sym there) (params f g made ∙ h)
  params_again params functions lowers become n k None e h = absurd h

pub whole_again : (t low : Tac) → low.main ≡ t.main → ((n k : ℕ) → HasParams n (slice_get t.funcs k) → HasParams n (slice_get low.funcs k))
    → All (IsFunctionOver low.funcs) low.funcs → IsWellFormed t → IsWellFormed low
whole_again t low main same functions whole = record {
  functions = functions;
  main = subst (λ (n : ℕ). HasParams 0 (slice_get low.funcs n)) (sym main) (same 0 t.main whole.main);
}

-- ---- sizes and counts

module _ (p : Pass) where
  pub block_counts : (blocks : List TacBlock) {done ops lower : List TacOp} {end low_end : TacEnd} → Becomes p blocks done ops end lower low_end → length lower ≤ length ops
  block_counts blocks (ended given) = omega arith
  block_counts blocks (kept {ops = os} {lower = ls} given rest) = let h = block_counts blocks rest in omega (arith, h)
  block_counts blocks (dropped {ops = os} {lower = ls} given rest) = let h = block_counts blocks rest in omega (arith, h)

  pub operations_pass : (t low : Tac) → ProgramBecomes p t low → operations_of low ≤ operations_of t
  operations_pass t low made =
      sums_fit (FunctionBecomes p) operations_in operations_in
      (λ f g m. sums_fit (BlockBecomes p f.blocks) (λ (b : TacBlock). length b.ops) (λ (b : TacBlock). length b.ops) (λ b c n. block_counts f.blocks n) f.blocks g.blocks m.blocks)
      t.funcs low.funcs made.funcs

  pub registers_pass : (t low : Tac) → ProgramBecomes p t low → registers_of low ≡ registers_of t
  registers_pass t low made = same_map (FunctionBecomes p) (λ (f : TacFunc). f.regs) (λ (f : TacFunc). f.regs) (λ f g m. m.regs) t.funcs low.funcs made.funcs

module _ (p : Pass) (thrifty : IsThrifty p) where
  pub ops_fit : (blocks : List TacBlock) {done ops lower : List TacOp} {end low_end : TacEnd} → Becomes p blocks done ops end lower low_end → ops_size lower ≤ ops_size ops
  ops_fit blocks (ended given) = omega arith
  ops_fit blocks (kept {done = d} {ops = os} {lower = ls} {op = o} {low = l} {end = e} given rest) =
      let h = ops_fit blocks rest in
      let one = thrifty.op_fits blocks d os e o l given in
      omega (arith, h, one, sum_by-cons op_size o os, sum_by-cons op_size l ls)
  ops_fit blocks (dropped {ops = os} {op = o} given rest) =
      let h = ops_fit blocks rest in
      omega (arith, h, sum_by-cons op_size o os)

  pub end_fit : (blocks : List TacBlock) {done ops lower : List TacOp} {end low_end : TacEnd} → Becomes p blocks done ops end lower low_end → end_size low_end ≤ end_size end
  end_fit blocks (ended {done = d} {end = e} {low_end = f} given) = thrifty.end_fits blocks d e f given
  end_fit blocks (kept given rest) = end_fit blocks rest
  end_fit blocks (dropped given rest) = end_fit blocks rest

  function_fits : (f g : TacFunc) → FunctionBecomes p f g → function_size g ≤ function_size f
  function_fits f g m =
      let h = sums_fit (BlockBecomes p f.blocks) block_size block_size
      (λ b c n. let one = ops_fit f.blocks n in let two = end_fit f.blocks n in omega (arith, one, two)) f.blocks g.blocks m.blocks in
      omega (arith, h)

  pub size_pass : (t low : Tac) → ProgramBecomes p t low → program_size low ≤ program_size t
  size_pass t low made = sums_fit (FunctionBecomes p) function_size function_size function_fits t.funcs low.funcs made.funcs

  -- ---- what is named is there

  -- each call has as many arguments as before
  abbrev pub SameParams : (functions lowers : List TacFunc) → Type 0
  SameParams functions lowers = (n k : ℕ) → HasParams n (slice_get functions k) → HasParams n (slice_get lowers k)

  module _ (functions lowers : List TacFunc) (same : SameParams functions lowers) where
    op_over : (regs : ℕ) (op : TacOp) → IsOpOver functions regs op → IsOpOver lowers regs op
    op_over regs (Call target callee arguments at) h = (h.0, same (length arguments) callee h.1, h.2, h.3)
    op_over regs op h = h

    module _ (blocks : List TacBlock) (count regs : ℕ) where
      abbrev Over : TacOp → Type 0
      Over = IsOpOver lowers regs

      rest_over : {done ops lower : List TacOp} {end low_end : TacEnd} → Becomes p blocks done ops end lower low_end
          → All Over done → All Over ops → IsEndOver count regs end → All Over lower × IsEndOver count regs low_end
      rest_over (ended {done = d} {end = e} {low_end = f} given) before over end_over = (All-nil Over, thrifty.end_over blocks d e f given lowers count regs before end_over)
      rest_over (kept {done = d} {ops = os} {lower = ls} {op = o} {low = l} {end = e} given rest) before over end_over =
          let here = All-head Over o os over in
          let more = rest_over rest (All-cons Over o d here before) (All-tail Over o os over) end_over in
          (All-cons Over l ls (thrifty.over blocks d os e o l given lowers regs before here) more.0, more.1)
      rest_over (dropped {done = d} {ops = os} {op = o} given rest) before over end_over =
          rest_over rest (All-cons Over o d (All-head Over o os over) before) (All-tail Over o os over) end_over

      pub block_over : (b l : TacBlock) → BlockBecomes p blocks b l → IsBlockOver functions count regs b → IsBlockOver lowers count regs l
      block_over b l m h = rest_over m (All-nil Over) (All-weaker (IsOpOver functions regs) Over (op_over regs) b.ops h.0) h.1

      blocks_over : (bs ls : List TacBlock) → AllZip (BlockBecomes p blocks) bs ls → All (IsBlockOver functions count regs) bs → All (IsBlockOver lowers count regs) ls
      blocks_over [] [] z h = All-nil (IsBlockOver lowers count regs)
      blocks_over [] (l ∷ ls) z h = absurd z
      blocks_over (b ∷ bs) [] z h = absurd z
      blocks_over (b ∷ bs) (l ∷ ls) z h =
          All-cons (IsBlockOver lowers count regs) l ls (block_over b l z.0 (All-head (IsBlockOver functions count regs) b bs h))
          (blocks_over bs ls z.1 (All-tail (IsBlockOver functions count regs) b bs h))

    function_over : (f g : TacFunc) → FunctionBecomes p f g → IsFunctionOver functions f → IsFunctionOver lowers g
    function_over f g m h =
        let long = AllZip-long (BlockBecomes p f.blocks) f.blocks g.blocks m.blocks in
        let over = blocks_over f.blocks (length f.blocks) f.regs f.blocks g.blocks m.blocks h.2 in
        over_again functions lowers f g m.params m.regs long over h

    functions_over : (fs gs : List TacFunc) → AllZip (FunctionBecomes p) fs gs → All (IsFunctionOver functions) fs → All (IsFunctionOver lowers) gs
    functions_over fs gs z h = functions_again (FunctionBecomes p) functions lowers function_over fs gs z h

  params_of : (functions lowers : List TacFunc) → AllZip (FunctionBecomes p) functions lowers → SameParams functions lowers
  params_of functions lowers become n k h = params_again (FunctionBecomes p) (λ f g m. m.params) functions lowers become n k (slice_get functions k) refl h

  pub whole_pass : (t low : Tac) → ProgramBecomes p t low → IsWellFormed t → IsWellFormed low
  whole_pass t low made whole =
      let same = params_of t.funcs low.funcs made.funcs in
      whole_again t low made.main same (functions_over t.funcs low.funcs same t.funcs low.funcs made.funcs whole.functions) whole
