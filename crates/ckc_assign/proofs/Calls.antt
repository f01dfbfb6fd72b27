-- The rows of calls: put together block by block, and found by the number of a call.
use Rattle.std.proofs.Common.{◌≡◌, ⊎_elim, ℕ, zero, suc, ◌+◌, Bool, true, false, List, [], ◌∷◌, ◌++◌, length, get_or, set, take, reverse, Option, Some, None, refl, sym, ap, subst, ◌∙◌, append_assoc, arith}
use Rattle.std.specs.List.{slice_get}
use Rattle.std.specs.Prelude.{All, sum_by}
use Rattle.std.proofs.lemmas.Bool.{cases_eq}
use Rattle.std.proofs.lemmas.List.{length-set, length-append, get_or-set_other, reverse-append, append-nil}
use Rattle.std.proofs.lemmas.List.Elements.{All-nil, All-cons, All-append}
use Rattle.std.proofs.lemmas.List.Sums.{sum_by-cons}
use Rattle.ckc_base.specs.declared.places.Pos.{Pos}
use Rattle.ckc_tac.specs.declared.code.TacBlock.{TacBlock}
use Rattle.ckc_tac.specs.declared.code.TacEnd.{TacEnd}
use Rattle.ckc_tac.specs.declared.code.TacFunc.{TacFunc}
use Rattle.ckc_tac.specs.declared.code.TacOp.{TacOp}
use Rattle.ckc_tac.specs.declared.code.TacOp.TheVariants.{Call}
use Rattle.ckc_flow.specs.Live.{IsExact}
use Rattle.ckc_frame.specs.Meaning.{is_call, calls_in, calls_in_front}
use Rattle.ckc_assign.specs.code.Kept.{without, call_row, IsKept, AreKept, AllKept}

-- ---- one row

some_is : (t r : ℕ) → Some t ≡ Some r → t ≡ r
some_is t r e = cc

abbrev nothing : Option ℕ
nothing = None

none_is : (r : ℕ) → nothing ≡ Some r → ⊥
none_is r e = absurd cc

cut_false : (row : List Bool) (t : ℕ) → get_or (set row t false) t false ≡ true → ⊥
cut_false [] t e = absurd cc
cut_false (x ∷ row) zero e = absurd cc
cut_false (x ∷ row) (suc t) e = cut_false row t e

row_kept : (f : TacFunc) (end : TacEnd) (ops : List TacOp) (target : Option ℕ) (row : List Bool) → IsExact f ops end row → IsKept f end ops target (without target row)
row_kept f end ops (Some t) row x = record {
  long = length-set row t false ∙ x.long;
  exact = λ r h. (
    λ e. ⊎_elim
        (λ (is : r ≡ t). absurd (cut_false row t (subst (λ q. get_or (set row t false) q false ≡ true) is e)))
        (λ (ne : r ≡ t → ⊥). ((x.exact r h).0 (sym (get_or-set_other row t r false false ne) ∙ e), λ m. ne (sym (some_is t r m)))) (cases_eq r t),
    λ (live, ne). get_or-set_other row t r false false (λ m. ne (ap (λ q. Some q) (sym m))) ∙ (x.exact r h).1 live,
  );
}
row_kept f end ops None row x = record {
  long = x.long;
  exact = λ r h. (λ e. ((x.exact r h).0 e, none_is r), λ (live, ne). (x.exact r h).1 live);
}

-- one more operation in front
pub kept_more : (f : TacFunc) (end : TacEnd) (op : TacOp) (ops : List TacOp) (row : List Bool) (rows : List (List Bool)) → IsExact f ops end row → AreKept f end ops rows
    → AreKept f end (op ∷ ops) (call_row op row ++ rows)
kept_more f end (Call target callee arguments at) ops row rows x k = (row_kept f end ops target row x, k)
kept_more f end op ops row rows x k = k

one_reversed : (op : TacOp) (row : List Bool) → reverse (call_row op row) ≡ call_row op row
one_reversed (Call target callee arguments at) row = refl
one_reversed op row = refl

pub kept_put : (f : TacFunc) (end : TacEnd) (op : TacOp) (ops : List TacOp) (row : List Bool) (rows now : List (List Bool)) → now ≡ rows ++ call_row op row
    → IsExact f ops end row → AreKept f end ops (reverse rows) → AreKept f end (op ∷ ops) (reverse now)
kept_put f end op ops row rows now e x k =
    subst (AreKept f end (op ∷ ops)) (sym (ap reverse e ∙ reverse-append rows (call_row op row) ∙ ap (λ l. l ++ reverse rows) (one_reversed op row)))
    (kept_more f end op ops row (reverse rows) x k)

-- ---- blocks

pub all_more : (f : TacFunc) (blocks : List TacBlock) (block : TacBlock) (rows here : List (List Bool)) → AllKept f blocks rows → AreKept f block.end block.ops here
    → AllKept f (blocks ++ block ∷ []) (rows ++ here)
all_more f [] block rows here a k = (here, [], ap (λ l. l ++ here) a ∙ sym (append-nil here), k, refl)
all_more f (b ∷ bs) block rows here (first, rest, e, m, a) k =
    (first, rest ++ here, ap (λ l. l ++ here) e ∙ append_assoc first rest here, m, all_more f bs block rest here a k)

-- ---- found by number

quiet_count : (ops : List TacOp) (op : TacOp) (n : ℕ) → is_call op ≡ n → sum_by is_call (op ∷ ops) ≡ n + sum_by is_call ops
quiet_count ops op n e = sum_by-cons is_call op ops ∙ ap (λ m. m + sum_by is_call ops) e

length-kept : (f : TacFunc) (end : TacEnd) (ops : List TacOp) (rows : List (List Bool)) → AreKept f end ops rows → length rows ≡ sum_by is_call ops
length-kept f end [] rows k = ap length k
length-kept f end (Call target callee arguments at ∷ ops) [] k = absurd k
length-kept f end (Call target callee arguments at ∷ ops) (row ∷ rows) k =
    let h = length-kept f end ops rows k.1 in
    let q = quiet_count ops (Call target callee arguments at) 1 refl in
    omega (arith, h, q)
length-kept f end (op ∷ ops) rows k = let h = length-kept f end ops rows k in let q = quiet_count ops op 0 refl in omega (arith, h, q)

row_in : (f : TacFunc) (end : TacEnd) (front ops : List TacOp) (target : Option ℕ) (callee : ℕ) (arguments : List ℕ) (at : Pos) (rows : List (List Bool)) (n : ℕ)
    → n ≡ sum_by is_call front → AreKept f end (front ++ Call target callee arguments at ∷ ops) rows → (row : List Bool) × (slice_get rows n ≡ Some row) × IsKept f end ops target row
row_in f end [] ops target callee arguments at [] n e k = absurd k
row_in f end [] ops target callee arguments at (row ∷ rows) n e k = (row, ap (slice_get (row ∷ rows)) e, k.0)
row_in f end (Call t c a p ∷ front) ops target callee arguments at [] n e k = absurd k
row_in f end (Call t c a p ∷ front) ops target callee arguments at (row ∷ rows) zero e k = absurd (let q = quiet_count front (Call t c a p) 1 refl in omega (arith, q))
row_in f end (Call t c a p ∷ front) ops target callee arguments at (row ∷ rows) (suc n) e k =
    let q = quiet_count front (Call t c a p) 1 refl in
    row_in f end front ops target callee arguments at rows n (omega (arith, q)) k.1
row_in f end (op ∷ front) ops target callee arguments at rows n e k =
    row_in f end front ops target callee arguments at rows n (let q = quiet_count front op 0 refl in omega (arith, q)) k

slice_get-behind : (xs ys : List (List Bool)) (n : ℕ) → slice_get (xs ++ ys) (length xs + n) ≡ slice_get ys n
slice_get-behind [] ys n = ap (slice_get ys) (let e : 0 + n ≡ n = omega arith in e)
slice_get-behind (x ∷ xs) ys n = ap (slice_get (x ∷ (xs ++ ys))) (let e : suc (length xs) + n ≡ suc (length xs + n) = omega arith in e) ∙ slice_get-behind xs ys n

slice_get-front : (xs ys : List (List Bool)) (n : ℕ) (x : List Bool) → slice_get xs n ≡ Some x → slice_get (xs ++ ys) n ≡ Some x
slice_get-front [] ys n x e = absurd cc
slice_get-front (y ∷ xs) ys zero x e = e
slice_get-front (y ∷ xs) ys (suc n) x e = slice_get-front xs ys n x e

pub row_at : (f : TacFunc) (blocks : List TacBlock) (rows : List (List Bool)) → AllKept f blocks rows → (b : ℕ) (block : TacBlock) (front ops : List TacOp)
    (target : Option ℕ) (callee : ℕ) (arguments : List ℕ) (at : Pos) → slice_get blocks b ≡ Some block → block.ops ≡ front ++ Call target callee arguments at ∷ ops
    → (row : List Bool) × (slice_get rows (calls_in_front blocks b + sum_by is_call front) ≡ Some row) × IsKept f block.end ops target row
row_at f [] rows a b block front ops target callee arguments at there split = absurd cc
row_at f (x ∷ blocks) rows (here, rest, e, m, a) zero block front ops target callee arguments at there split =
    let is : x ≡ block = cc in
    let k = subst (λ (l : List TacOp). AreKept f block.end l here) split (subst (λ (z : TacBlock). AreKept f z.end z.ops here) is m) in
    let found = row_in f block.end front ops target callee arguments at here (0 + sum_by is_call front) (omega arith) k in
    (found.0, ap (λ l. slice_get l (0 + sum_by is_call front)) e ∙ slice_get-front here rest (0 + sum_by is_call front) found.0 found.1, found.2)
row_at f (x ∷ blocks) rows (here, rest, e, m, a) (suc b) block front ops target callee arguments at there split =
    let found = row_at f blocks rest a b block front ops target callee arguments at there split in
    let long = length-kept f x.end x.ops here m in
    let sum = sum_by-cons calls_in x (take b blocks) in
    let n : calls_in_front (x ∷ blocks) (suc b) + sum_by is_call front ≡ length here + (calls_in_front blocks b + sum_by is_call front) = omega (arith, long, sum) in (
      found.0,
      ap (λ l. slice_get l (calls_in_front (x ∷ blocks) (suc b) + sum_by is_call front)) e ∙ ap (slice_get (here ++ rest)) n
          ∙ slice_get-behind here rest (calls_in_front blocks b + sum_by is_call front) ∙ found.1,
      found.2,
    )

-- ---- as many rows as calls, each as long as there are registers

pub length-all : (f : TacFunc) (blocks : List TacBlock) (rows : List (List Bool)) → AllKept f blocks rows → length rows ≡ sum_by calls_in blocks
length-all f [] rows a = ap length a
length-all f (x ∷ blocks) rows (here, rest, e, m, a) =
    let one = length-kept f x.end x.ops here m in
    let more = length-all f blocks rest a in
    let sum = sum_by-cons calls_in x blocks in
    ap length e ∙ length-append here rest ∙ omega (arith, one, more, sum)

abbrev Long : TacFunc → List Bool → Type 0
Long f row = length row ≡ f.regs

long_kept : (f : TacFunc) (end : TacEnd) (ops : List TacOp) (rows : List (List Bool)) → AreKept f end ops rows → All (Long f) rows
long_kept f end [] rows k = subst (All (Long f)) (sym k) (All-nil (Long f))
long_kept f end (Call target callee arguments at ∷ ops) [] k = absurd k
long_kept f end (Call target callee arguments at ∷ ops) (row ∷ rows) k = All-cons (Long f) row rows k.0.long (long_kept f end ops rows k.1)
long_kept f end (op ∷ ops) rows k = long_kept f end ops rows k

pub long_all : (f : TacFunc) (blocks : List TacBlock) (rows : List (List Bool)) → AllKept f blocks rows → All (λ (row : List Bool). length row ≡ f.regs) rows
long_all f [] rows a = subst (All (Long f)) (sym a) (All-nil (Long f))
long_all f (x ∷ blocks) rows (here, rest, e, m, a) =
    subst (All (Long f)) (sym e) (All-append (Long f) here rest (long_kept f x.end x.ops here m) (long_all f blocks rest a))
