-- The result of the pass is whole, has the same registers, no more operations, and is no larger.
use Rattle.std.proofs.Common.{◌≡◌, inl, inr, ℕ, ◌+◌, ◌≤◌, List, [], ◌∷◌, length, refl, sym, ap, subst, arith}
use Rattle.std.specs.Prelude.{All, sum_by}
use Rattle.std.specs.List.{slice_get, AllZip}
use Rattle.std.proofs.lemmas.List.Elements.{All-nil, All-cons, All-head, All-tail}
use Rattle.ckc_tac.specs.declared.code.Tac.{Tac}
use Rattle.ckc_tac.specs.declared.code.TacFunc.{TacFunc}
use Rattle.ckc_tac.specs.declared.code.TacBlock.{TacBlock}
use Rattle.ckc_tac.specs.declared.code.TacOp.{TacOp}
use Rattle.ckc_tac.specs.declared.code.TacEnd.{TacEnd}
use Rattle.ckc_tac.specs.declared.code.TacEnd.TheVariants.{Jump, Branch, Return}
use Rattle.ckc_tac.specs.WellFormed.{IsWellFormed, IsFunctionOver, IsBlockOver, IsOpOver, IsEndOver, HasParams}
use Rattle.ckc_tac.specs.Sizes.{op_size, end_size, block_size, function_size, program_size}
use Rattle.ckc_passes.specs.Counts.{operations_in, operations_of, registers_of}
use Rattle.ckc_passes.specs.code.Faithful.{IsThrifty}
use Rattle.ckc_passes.proofs.Shrunk.{sums_fit, same_map, block_counts, ops_fit, end_fit, block_over, over_again, functions_again, params_again, whole_again}
use Rattle.ckc_passes_known.specs.Known.{EndBecomes, known_pass, ZipFrom, BlockAfter, FunctionAfter, ProgramAfter}
use Rattle.ckc_passes_known.proofs.Left.{zip_long}

-- ---- the pass in one block

end_is_over : (blocks : List TacBlock) (b : ℕ) (done : List TacOp) (count regs : ℕ) (end low : TacEnd) → EndBecomes blocks b done end low → IsEndOver count regs end → IsEndOver count regs low
end_is_over blocks b done count regs (Jump to) low e h = subst (IsEndOver count regs) (sym e) h
end_is_over blocks b done count regs (Return x) low e h = subst (IsEndOver count regs) (sym e) h
end_is_over blocks b done count regs (Branch comparison x y one two) low (inl (d, e)) h = subst (IsEndOver count regs) (sym e) h.2
end_is_over blocks b done count regs (Branch comparison x y one two) low (inr (n, inl (d, e))) h = subst (IsEndOver count regs) (sym e) h.3
end_is_over blocks b done count regs (Branch comparison x y one two) low (inr (n, inr (d, e))) h = subst (IsEndOver count regs) (sym e) h

end_is_small : (blocks : List TacBlock) (b : ℕ) (done : List TacOp) (end low : TacEnd) → EndBecomes blocks b done end low → end_size low ≤ end_size end
end_is_small blocks b done (Jump to) low e = let f = ap end_size e in omega (arith, f)
end_is_small blocks b done (Return x) low e = let f = ap end_size e in omega (arith, f)
end_is_small blocks b done (Branch comparison x y one two) low (inl (d, e)) = let f = ap end_size e in omega (arith, f)
end_is_small blocks b done (Branch comparison x y one two) low (inr (n, inl (d, e))) = let f = ap end_size e in omega (arith, f)
end_is_small blocks b done (Branch comparison x y one two) low (inr (n, inr (d, e))) = let f = ap end_size e in omega (arith, f)

thrifty : (b : ℕ) → IsThrifty (known_pass b)
thrifty b = record {
  over = λ blocks done ops end op low k functions regs before h. subst (IsOpOver functions regs) (sym k.0) h;
  op_fits = λ blocks done ops end op low k. let e = ap op_size k.0 in omega (arith, e);
  end_over = λ blocks done end low e functions count regs before h. end_is_over blocks b done count regs end low e h;
  end_fits = λ blocks done end low e. end_is_small blocks b done end low e;
}

-- ---- sizes and counts

-- pairs whose place is no matter
all_from : {A B : Type 0} (R : ℕ → A → B → Type 0) (Q : A → B → Type 0) → ((n : ℕ) (x : A) (y : B) → R n x y → Q x y) → (n : ℕ) (xs : List A) (ys : List B)
    → ZipFrom R n xs ys → AllZip Q xs ys
all_from R Q h n [] [] z = tt
all_from R Q h n [] (y ∷ ys) z = absurd z
all_from R Q h n (x ∷ xs) [] z = absurd z
all_from R Q h n (x ∷ xs) (y ∷ ys) z = (h n x y z.0, all_from R Q h (n + 1) xs ys z.1)

from_fit : {A B : Type 0} (R : ℕ → A → B → Type 0) (f : A → ℕ) (g : B → ℕ) → ((n : ℕ) (x : A) (y : B) → R n x y → g y ≤ f x) → (xs : List A) (ys : List B) → ZipFrom R 0 xs ys
    → sum_by g ys ≤ sum_by f xs
from_fit R f g h xs ys z = sums_fit (λ x y. g y ≤ f x) f g (λ x y e. e) xs ys (all_from R (λ x y. g y ≤ f x) h 0 xs ys z)

pub operations_known : (t low : Tac) → ProgramAfter t low → operations_of low ≤ operations_of t
operations_known t low made =
    sums_fit FunctionAfter operations_in operations_in
    (λ f g m. from_fit (BlockAfter f.blocks) (λ (b : TacBlock). length b.ops) (λ (b : TacBlock). length b.ops) (λ n b c k. block_counts (known_pass n) f.blocks k) f.blocks g.blocks m.blocks)
    t.funcs low.funcs made.funcs

pub registers_known : (t low : Tac) → ProgramAfter t low → registers_of low ≡ registers_of t
registers_known t low made = same_map FunctionAfter (λ (f : TacFunc). f.regs) (λ (f : TacFunc). f.regs) (λ f g m. m.regs) t.funcs low.funcs made.funcs

function_fits : (f g : TacFunc) → FunctionAfter f g → function_size g ≤ function_size f
function_fits f g m =
    let h = from_fit (BlockAfter f.blocks) block_size block_size
    (λ n b c k.
    let one = ops_fit (known_pass n) (thrifty n) f.blocks k in
    let two = end_fit (known_pass n) (thrifty n) f.blocks k in
    omega (arith, one, two)) f.blocks g.blocks m.blocks in
    omega (arith, h)

pub size_known : (t low : Tac) → ProgramAfter t low → program_size low ≤ program_size t
size_known t low made = sums_fit FunctionAfter function_size function_size function_fits t.funcs low.funcs made.funcs

-- ---- what is named is there

module _ {A B : Type 0} (R : ℕ → A → B → Type 0) (P : A → Type 0) (Q : B → Type 0) (h : (n : ℕ) (x : A) (y : B) → R n x y → P x → Q y) where
  from_all : (n : ℕ) (xs : List A) (ys : List B) → ZipFrom R n xs ys → All P xs → All Q ys
  from_all n [] [] z all = All-nil Q
  from_all n [] (y ∷ ys) z all = absurd z
  from_all n (x ∷ xs) [] z all = absurd z
  from_all n (x ∷ xs) (y ∷ ys) z all = All-cons Q y ys (h n x y z.0 (All-head P x xs all)) (from_all (n + 1) xs ys z.1 (All-tail P x xs all))

function_over : (functions lowers : List TacFunc) → ((n k : ℕ) → HasParams n (slice_get functions k) → HasParams n (slice_get lowers k))
    → (f g : TacFunc) → FunctionAfter f g → IsFunctionOver functions f → IsFunctionOver lowers g
function_over functions lowers same f g m h =
    let count = length f.blocks in
    over_again functions lowers f g m.params m.regs (zip_long (BlockAfter f.blocks) 0 f.blocks g.blocks m.blocks)
    (from_all (BlockAfter f.blocks) (IsBlockOver functions count f.regs) (IsBlockOver lowers count f.regs)
    (λ n b c k. block_over (known_pass n) (thrifty n) functions lowers same f.blocks count f.regs b c k) 0 f.blocks g.blocks m.blocks h.2) h

pub whole_known : (t low : Tac) → ProgramAfter t low → IsWellFormed t → IsWellFormed low
whole_known t low made whole =
    let same : (n k : ℕ) → HasParams n (slice_get t.funcs k) → HasParams n (slice_get low.funcs k) =
    λ n k h. params_again FunctionAfter (λ f g m. m.params) t.funcs low.funcs made.funcs n k (slice_get t.funcs k) refl h in
    whole_again t low made.main same
    (functions_again FunctionAfter t.funcs low.funcs (function_over t.funcs low.funcs same) t.funcs low.funcs made.funcs whole.functions) whole
