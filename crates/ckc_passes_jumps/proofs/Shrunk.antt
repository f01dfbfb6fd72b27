-- The result of the pass is whole, has the same registers, no more operations, and is no larger.
use Rattle.std.proofs.Common.{◌≡◌, inl, inr, ℕ, zero, suc, ◌+◌, ◌≤◌, ◌<◌, List, [], ◌∷◌, length, Some, refl, sym, ap, subst, arith}
use Rattle.std.specs.Prelude.{All, sum_by}
use Rattle.std.specs.List.{slice_get}
use Rattle.std.proofs.lemmas.List.Elements.{All-nil, All-cons, All-head, All-tail, All-weaker}
use Rattle.std.proofs.lemmas.List.Sums.{sum_by-cons}
use Rattle.std.proofs.lemmas.Option.{slice_get_within}
use Rattle.ckc_tac.specs.declared.code.Tac.{Tac}
use Rattle.ckc_tac.specs.declared.code.TacFunc.{TacFunc}
use Rattle.ckc_tac.specs.declared.code.TacBlock.{TacBlock}
use Rattle.ckc_tac.specs.declared.code.TacOp.{TacOp}
use Rattle.ckc_tac.specs.declared.code.TacOp.TheVariants.{Call}
use Rattle.ckc_tac.specs.declared.code.TacEnd.{TacEnd}
use Rattle.ckc_tac.specs.declared.code.TacEnd.TheVariants.{Jump, Branch, Return}
use Rattle.ckc_tac.specs.WellFormed.{IsWellFormed, IsFunctionOver, IsBlockOver, IsOpOver, IsEndOver, HasParams}
use Rattle.ckc_tac.specs.Sizes.{ops_size, end_size, block_size, function_size, program_size}
use Rattle.ckc_passes.specs.Counts.{operations_in, operations_of, registers_of}
use Rattle.ckc_passes.proofs.Shrunk.{sums_fit, same_map, functions_again, params_again, whole_again}
use Rattle.ckc_passes_jumps.specs.Jumps.{LeadsShort, IsReached, at_entry, along, IsPlace, at_first, counted, passed, IsTarget, EndAfter, BlockAfter, Left, none_left, stays, goes, FunctionAfter, ProgramAfter}
use Rattle.ckc_passes_jumps.proofs.Walking.{short_within}
use Rattle.ckc_passes_jumps.proofs.Once.{one_place}

-- ---- sizes and counts

left_fits : (blocks : List TacBlock) (f : TacBlock → ℕ) → ((block low : TacBlock) → BlockAfter blocks block low → f low ≤ f block)
    → {b : ℕ} {rest lows : List TacBlock} → Left blocks b rest lows → sum_by f lows ≤ sum_by f rest
left_fits blocks f h none_left = omega arith
left_fits blocks f h (stays {block = block} {low = low} {rest = rest} {lows = lows} is made more) =
    let one = h block low made in
    let others = left_fits blocks f h more in
    omega (arith, one, others, sum_by-cons f block rest, sum_by-cons f low lows)
left_fits blocks f h (goes {block = block} {rest = rest} not more) =
    let others = left_fits blocks f h more in
    omega (arith, others, sum_by-cons f block rest)

pub operations_jumps : (t low : Tac) → ProgramAfter t low → operations_of low ≤ operations_of t
operations_jumps t low made =
    sums_fit FunctionAfter operations_in operations_in
    (λ f g m. left_fits f.blocks (λ (b : TacBlock). length b.ops) (λ b c n. let e = ap length n.ops in omega (arith, e)) m.blocks)
    t.funcs low.funcs made.funcs

pub registers_jumps : (t low : Tac) → ProgramAfter t low → registers_of low ≡ registers_of t
registers_jumps t low made = same_map FunctionAfter (λ (f : TacFunc). f.regs) (λ (f : TacFunc). f.regs) (λ f g m. m.regs) t.funcs low.funcs made.funcs

end_fits : (blocks : List TacBlock) (end low : TacEnd) → EndAfter blocks end low → end_size low ≤ end_size end
end_fits blocks (Jump to) low (k, t, e) = let f = ap end_size e in omega (arith, f)
end_fits blocks (Branch comparison x y one two) low (k, l, t, u, inl (s, e)) = let f = ap end_size e in omega (arith, f)
end_fits blocks (Branch comparison x y one two) low (k, l, t, u, inr (s, e)) = let f = ap end_size e in omega (arith, f)
end_fits blocks (Return x) low e = let f = ap end_size e in omega (arith, f)

block_fits : (blocks : List TacBlock) (block low : TacBlock) → BlockAfter blocks block low → block_size low ≤ block_size block
block_fits blocks block low m = let e = ap ops_size m.ops in let f = end_fits blocks block.end low.end m.end in omega (arith, e, f)

function_fits : (f g : TacFunc) → FunctionAfter f g → function_size g ≤ function_size f
function_fits f g m = let h = left_fits f.blocks block_size (block_fits f.blocks) m.blocks in omega (arith, h)

pub size_jumps : (t low : Tac) → ProgramAfter t low → program_size low ≤ program_size t
size_jumps t low made = sums_fit FunctionAfter function_size function_size function_fits t.funcs low.funcs made.funcs

-- ---- where a block stands that stays

-- The block with the number b + j is the one at j of those from b on. If k blocks in front of b are reached, it stands at
-- i of what is left of these, and k + i in front of it are reached.
abbrev pub Stands : (blocks lows : List TacBlock) (n k : ℕ) → TacBlock → Type 0
Stands blocks lows n k block = (i : ℕ) × (low : TacBlock) × IsPlace blocks n (k + i) × (slice_get lows i ≡ Some low) × BlockAfter blocks block low

module _ (blocks : List TacBlock) where
  stands_first : (b n k : ℕ) (block low : TacBlock) (lows : List TacBlock) → n ≡ b + 0 → IsPlace blocks b k → BlockAfter blocks block low → Stands blocks (low ∷ lows) n k block
  stands_first b n k block low lows e place made =
      let zero_more : k ≡ k + 0 = omega arith in
      let same : b ≡ n = omega (arith, e) in
      (0, low, subst (λ q. IsPlace blocks q (k + 0)) same (subst (IsPlace blocks b) zero_more place), refl, made)

  stands_later : (n k : ℕ) (block first : TacBlock) (lows : List TacBlock) → Stands blocks lows n (k + 1) block → Stands blocks (first ∷ lows) n k block
  stands_later n k block first lows (i, low, place, at, made) =
      let same : (k + 1) + i ≡ k + suc i = omega arith in
      (suc i, low, subst (IsPlace blocks n) same place, at, made)

  pub left_at : {b : ℕ} {rest lows : List TacBlock} → Left blocks b rest lows → (j n k : ℕ) (block : TacBlock) → n ≡ b + j → slice_get rest j ≡ Some block
      → IsReached blocks n → IsPlace blocks b k → Stands blocks lows n k block
  left_at none_left j n k block e at is place = absurd cc
  left_at (stays {b = b} {block = first} {low = low} {lows = lows} reached made more) zero n k block e at is place =
      stands_first b n k block low lows e place (subst (λ (o : TacBlock). BlockAfter blocks o low) (let f : first ≡ block = cc in f) made)
  left_at (stays {b = b} {low = low} {lows = lows} reached made more) (suc j) n k block e at is place =
      stands_later n k block low lows (left_at more j n (k + 1) block (omega (arith, e)) at is (counted reached place))
  left_at (goes {b = b} not more) zero n k block e at is place = absurd (not (subst (IsReached blocks) (let f : n ≡ b = omega (arith, e) in f) is))
  left_at (goes {b = b} not more) (suc j) n k block e at is place =
      left_at more j n k block (omega (arith, e)) at is (passed not place)

  -- a block that is reached stands at its new number
  pub stands_at : (lows : List TacBlock) (c k : ℕ) (block : TacBlock) → Left blocks 0 blocks lows → slice_get blocks c ≡ Some block → IsReached blocks c → IsPlace blocks c k
      → (low : TacBlock) × (slice_get lows k ≡ Some low) × BlockAfter blocks block low
  stands_at lows c k block left at is place =
      let s = left_at left c c 0 block (omega arith) at is at_first in
      let same : s.0 ≡ k = (let e = one_place blocks c (0 + s.0) k s.2 place in omega (arith, e)) in
      (s.1, subst (λ i. slice_get lows i ≡ Some s.1) same s.3, s.4)

-- ---- what is named is there

pub there_is : {A : Type 0} (xs : List A) (k : ℕ) → k < length xs → (x : A) × (slice_get xs k ≡ Some x)
there_is [] k h = absurd (omega (arith, h))
there_is (x ∷ xs) zero h = (x, refl)
there_is (x ∷ xs) (suc k) h = there_is xs k (omega (arith, h))

module _ (blocks lows : List TacBlock) (left : Left blocks 0 blocks lows) where
  target_over : (b k : ℕ) → b < length blocks → ((c : ℕ) → LeadsShort blocks (Jump b) c → IsReached blocks c) → IsTarget blocks b k → k < length lows
  target_over b k h reached (c, short, place) =
      let here = there_is blocks c (short_within blocks b c h short) in
      let s = stands_at blocks lows c k here.0 left here.1 (reached c short) place in
      slice_get_within lows k s.0 s.1

  end_over : (regs : ℕ) (end low : TacEnd) → ((c : ℕ) → LeadsShort blocks end c → IsReached blocks c) → EndAfter blocks end low
      → IsEndOver (length blocks) regs end → IsEndOver (length lows) regs low
  end_over regs (Jump to) low reached (k, t, e) h = subst (IsEndOver (length lows) regs) (sym e) (target_over to k h reached t)
  end_over regs (Branch comparison x y one two) low reached (k, l, t, u, inl (s, e)) h =
      subst (IsEndOver (length lows) regs) (sym e) (target_over one k h.2 (λ c v. reached c (inl v)) t)
  end_over regs (Branch comparison x y one two) low reached (k, l, t, u, inr (s, e)) h =
      subst (IsEndOver (length lows) regs) (sym e)
      (h.0, h.1, target_over one k h.2 (λ c v. reached c (inl v)) t, target_over two l h.3 (λ c v. reached c (inr v)) u)
  end_over regs (Return x) low reached e h = subst (IsEndOver (length lows) regs) (sym e) h

  module _ (functions lowers : List TacFunc) (same : (n k : ℕ) → HasParams n (slice_get functions k) → HasParams n (slice_get lowers k)) (regs : ℕ) where
    op_over : (op : TacOp) → IsOpOver functions regs op → IsOpOver lowers regs op
    op_over (Call target callee arguments at) h = (h.0, same (length arguments) callee h.1, h.2, h.3)
    op_over op h = h

    block_over : (b : ℕ) (block low : TacBlock) → slice_get blocks b ≡ Some block → IsReached blocks b → BlockAfter blocks block low
        → IsBlockOver functions (length blocks) regs block → IsBlockOver lowers (length lows) regs low
    block_over b block low at is made h = (
      subst (λ (ops : List TacOp). All (IsOpOver lowers regs) ops) (sym made.ops) (All-weaker (IsOpOver functions regs) (IsOpOver lowers regs) op_over block.ops h.0),
      end_over regs block.end low.end (λ c leads. along b block at leads is) made.end h.1,
    )

    -- the blocks from b on are those of the function from b on
    abbrev Are : ℕ → List TacBlock → Type 0
    Are b rest = (j : ℕ) (block : TacBlock) → slice_get rest j ≡ Some block → slice_get blocks (b + j) ≡ Some block

    are_next : (b : ℕ) (block : TacBlock) (rest : List TacBlock) → Are b (block ∷ rest) → Are (b + 1) rest
    are_next b block rest are j other at =
        let same : b + suc j ≡ (b + 1) + j = omega arith in
        subst (λ q. slice_get blocks q ≡ Some other) same (are (suc j) other at)

    blocks_over : {b : ℕ} {rest lower : List TacBlock} → Left blocks b rest lower → Are b rest → All (IsBlockOver functions (length blocks) regs) rest
        → All (IsBlockOver lowers (length lows) regs) lower
    blocks_over none_left are h = All-nil (IsBlockOver lowers (length lows) regs)
    blocks_over (stays {b = b} {block = block} {low = low} {rest = rest} {lows = lower} is made more) are h =
        let same : b + 0 ≡ b = omega arith in
        All-cons (IsBlockOver lowers (length lows) regs) low lower
        (block_over b block low (subst (λ q. slice_get blocks q ≡ Some block) same (are 0 block refl)) is made (All-head (IsBlockOver functions (length blocks) regs) block rest h))
        (blocks_over more (are_next b block rest are) (All-tail (IsBlockOver functions (length blocks) regs) block rest h))
    blocks_over (goes {b = b} {block = block} {rest = rest} not more) are h =
        blocks_over more (are_next b block rest are) (All-tail (IsBlockOver functions (length blocks) regs) block rest h)

    pub all_over : All (IsBlockOver functions (length blocks) regs) blocks → All (IsBlockOver lowers (length lows) regs) lows
    all_over h = blocks_over left (λ j block at. subst (λ q. slice_get blocks q ≡ Some block) (let e : j ≡ 0 + j = omega arith in e) at) h

  -- the first block stays
  pub first_left : 0 < length blocks → 0 < length lows
  first_left h =
      let here = there_is blocks 0 h in
      let s = stands_at blocks lows 0 0 here.0 left here.1 at_entry at_first in
      slice_get_within lows 0 s.0 s.1

function_over : (functions lowers : List TacFunc) → ((n k : ℕ) → HasParams n (slice_get functions k) → HasParams n (slice_get lowers k))
    → (f g : TacFunc) → FunctionAfter f g → IsFunctionOver functions f → IsFunctionOver lowers g
function_over functions lowers same f g m h = (
  (let p = m.params in let r = m.regs in let few = h.0 in omega (arith, p, r, few)),
  first_left f.blocks g.blocks m.blocks h.1,
  subst (λ (n : ℕ). All (IsBlockOver lowers (length g.blocks) n) g.blocks) (sym m.regs)
      (all_over f.blocks g.blocks m.blocks functions lowers same f.regs h.2),
)

pub whole_jumps : (t low : Tac) → ProgramAfter t low → IsWellFormed t → IsWellFormed low
whole_jumps t low made whole =
    let same : (n k : ℕ) → HasParams n (slice_get t.funcs k) → HasParams n (slice_get low.funcs k) =
    λ n k h. params_again FunctionAfter (λ f g m. m.params) t.funcs low.funcs made.funcs n k (slice_get t.funcs k) refl h in
    whole_again t low made.main same
    (functions_again FunctionAfter t.funcs low.funcs (function_over t.funcs low.funcs same) t.funcs low.funcs made.funcs whole.functions) whole
