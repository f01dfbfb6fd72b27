-- A direct expression of the source has its value as one expression of core code.
use Rattle.std.proofs.Common.{◌≡◌, ℕ, ◌*◌, ◌%◌, ◌^◌, ◌<◌, ◌==◌, List, refl, sym, ◌∙◌, ap, subst, arith}
use Rattle.std.proofs.lemmas.Bool.{eqb-true}
use Rattle.std.specs.Prelude.{Bool, true, false, not, ◌&&◌, if◌then◌else◌, slice_index, Option, Some, None, Result, Ok, Err, option_and_then, pos, ◌+ℤ◌}
use Rattle.std.specs.Option.{option_map}
use Rattle.std.proofs.lemmas.Nat.{and_mask}
use Rattle.ckc_base.specs.declared.arithmetic.Width.{Width}
use Rattle.ckc_base.specs.declared.arithmetic.Width.TheVariants.{Word}
use Rattle.ckc_base.specs.declared.arithmetic.BinOp.TheVariants as binary
use Rattle.ckc_base.specs.declared.places.Pos.{Pos}
use Rattle.ckc_base.specs.declared.runtime_checks.Check.TheVariants.{Divide}
use Rattle.ckc_base.specs.Words.{applied}
use Rattle.ckc_base.specs.Memory.{Memory, value_at}
use Rattle.ckc_base.specs.Activations.{Values}
use Rattle.ckc_source.specs.declared.expr.Access.{Access}
use Rattle.ckc_source.specs.declared.expr.Count.{Count}
use Rattle.ckc_source.specs.declared.expr.Count.TheVariants as counts
use Rattle.ckc_source.specs.declared.expr.Pointee.{Pointee}
use Rattle.ckc_source.specs.declared.expr.Shift.{Shift}
use Rattle.ckc_source.specs.declared.expr.Operation.{Operation}
use Rattle.ckc_source.specs.declared.expr.Operation.TheVariants.{Lt, Le, Gt, Ge}
use Rattle.ckc_source.specs.declared.expr.Through.{Through}
use Rattle.ckc_source.specs.declared.expr.Through.TheVariants.{Named, Raw, One, Array, Terminated}
use Rattle.ckc_source.specs.declared.outcome.Value.{Value}
use Rattle.ckc_source.specs.declared.outcome.Halt.{Halt}
use Rattle.ckc_source.specs.declared.outcome.Halt.TheVariants.{Stopped, Stuck}
use Rattle.ckc_source.specs.Code as source
use Rattle.ckc_source.specs.Blocks.{loaded}
use Rattle.ckc_source.specs.Words.{exact, width_of, operator, computed, divides, elements_behind}
use Rattle.ckc_source.specs.Eval.{Store, given, given_both, given_some, plain, stops, reads, end_address, element, element_through, place_in, loads, counted, loads_pointer, moves, moves_checked, spanned, operates, tests, trusts, evaluated}
use Rattle.ckc_core.specs.Code.{Expr, Const, Bin, Load}
use Rattle.ckc_core.specs.Meaning.{value_of, both}
use Rattle.ckc_checks_operands.specs.Compilable.{IsCompilableExpr}
use Rattle.ckc_checks_operands.specs.Cases.{is_one, is_single, casts_one}
use Rattle.ckc_checks_operands.specs.code.Operands.{is_unchecked, is_direct, operated, low_byte, is_zero, scaled, shifted, at_offset, element_of, place_at, direct}
use Rattle.ckc_checks_follow.proofs.Bytes.{and_true, SameBytes, loaded_there}
use Rattle.ckc_checks_follow.proofs.Flat.{SameMemory, loaded_word}
use Rattle.ckc_checks_follow.proofs.Single.{behind_one, tested_gives}
use Rattle.ckc_checks_follow.proofs.Bounded.{Gives, GivesWord, zero_of, reads_number, evaluated_word}

not_true : (p : Bool) → not p ≡ true → p ≡ false
not_true true h = absurd cc
not_true false h = refl

-- An evaluation has the value that is there. It stops nowhere, and nothing is asked if it is stuck.
abbrev pub IsValue : Result Value Halt → Option ℕ → Type 0
IsValue (Ok v) o = o ≡ Some v.number
IsValue (Err Stuck) o = Unit {0}
IsValue (Err (Stopped why place)) o = ⊥

pub operated_value : (locals : Values) (memory : Memory) (operation : Operation) (is_signed : Bool) (a b : Expr) (x y : ℕ)
    → value_of locals memory a ≡ Some x → value_of locals memory b ≡ Some y
    → value_of locals memory (operated operation is_signed a b) ≡ Some (computed operation is_signed x y)
operated_value locals memory Le is_signed a b x y h k =
    ap (λ o. both (applied binary.Eq) (both (applied (operator Lt is_signed)) o (value_of locals memory a)) (Some 0)) k
    ∙ ap (λ o. both (applied binary.Eq) (both (applied (operator Lt is_signed)) (Some y) o) (Some 0)) h
operated_value locals memory Gt is_signed a b x y h k =
    ap (λ o. both (applied (operator Lt is_signed)) o (value_of locals memory a)) k
    ∙ ap (λ o. both (applied (operator Lt is_signed)) (Some y) o) h
operated_value locals memory Ge is_signed a b x y h k =
    ap (λ o. both (applied binary.Eq) (both (applied (operator Lt is_signed)) o (value_of locals memory b)) (Some 0)) h
    ∙ ap (λ o. both (applied binary.Eq) (both (applied (operator Lt is_signed)) (Some x) o) (Some 0)) k
operated_value locals memory operation is_signed a b x y h k =
    ap (λ o. both (applied (operator operation is_signed)) o (value_of locals memory b)) h
    ∙ ap (λ o. both (applied (operator operation is_signed)) (Some x) o) k

pub low_value : (locals : Values) (memory : Memory) (e : Expr) (x : ℕ) → value_of locals memory e ≡ Some x
    → value_of locals memory (low_byte e) ≡ Some (x % 256)
low_value locals memory e x h =
    ap (λ o. both (applied binary.And) o (Some 255)) h ∙ ap Some (and_mask x 8)

operation_value : (locals : Values) (memory : Memory) (operation : Operation) (is_signed : Bool) (place : Pos) (a b : Expr) (r q : Result Value Halt)
    → divides operation ≡ false → IsValue r (value_of locals memory a) → IsValue q (value_of locals memory b)
    → IsValue (given_both r q (λ x y. operates operation is_signed place x.number y.number)) (value_of locals memory (operated operation is_signed a b))
operation_value locals memory operation is_signed place a b (Ok x) (Ok y) d h k =
    subst (λ (c : Bool). IsValue (if c && (y.number == 0) then stops Divide place else plain (computed operation is_signed x.number y.number))
    (value_of locals memory (operated operation is_signed a b))) (sym d)
    (operated_value locals memory operation is_signed a b x.number y.number h k)
operation_value locals memory operation is_signed place a b (Ok x) (Err Stuck) d h k = tt
operation_value locals memory operation is_signed place a b (Ok x) (Err (Stopped why at)) d h k = k
operation_value locals memory operation is_signed place a b (Err Stuck) q d h k = tt
operation_value locals memory operation is_signed place a b (Err (Stopped why at)) q d h k = h

narrow_value : (locals : Values) (memory : Memory) (e : Expr) (r : Result Value Halt) → IsValue r (value_of locals memory e)
    → IsValue (given r (λ v. plain (v.number % 256))) (value_of locals memory (low_byte e))
narrow_value locals memory e (Ok v) h = low_value locals memory e v.number h
narrow_value locals memory e (Err Stuck) h = tt
narrow_value locals memory e (Err (Stopped why at)) h = h

pub load_value : (s : Store) (memory : Memory) (width : Width) (a : ℕ) → SameBytes s.blocks memory → (o : Option ℕ) → loaded width a s.blocks ≡ o
    → IsValue (given_some o plain) (value_at width memory a)
load_value s memory width a same (Some n) h = loaded_there width a n s.blocks memory same h
load_value s memory width a same None h = tt

-- the first locals have the values of those of the source
abbrev pub Agree : ℕ → List ℕ → Values → Type 0
Agree n locals values = (x : ℕ) → x < n → values x ≡ Some (slice_index locals x)

-- what the expressions of the source read is the same in the memory of core code, and the locals are words
pub record Sees (n : ℕ) (s : Store) (memory : Memory) : Type 0 where
  pub next : ℕ
  pub same : SameMemory s.blocks next memory
  pub small : (x : ℕ) → x < n → slice_index s.locals x < 2 ^ 32

pub word_seen : (n : ℕ) (s : Store) (memory : Memory) → Sees n s memory → (e : source.Expr) → IsCompilableExpr n e → GivesWord (evaluated s e)
word_seen n s memory sees e h =
    evaluated_word n s (λ w a m found. loaded_word w a m sees.next s.blocks memory sees.same found) sees.small e h

-- a number that is given is there
pub number_value : (n : ℕ) (r : Result Value Halt) (o : Option ℕ) → Gives n r → o ≡ Some n → IsValue r o
number_value n (Ok v) o g h = h ∙ ap Some (sym g)
number_value n (Err Stuck) o g h = tt
number_value n (Err (Stopped why at)) o g h = g

-- what gives the number of a value that is there
kept_value : (r : Result Value Halt) (f : Value → Result Value Halt) (o : Option ℕ) → ((v : Value) → r ≡ Ok v → Gives v.number (f v)) → IsValue r o → IsValue (given r f) o
kept_value (Ok v) f o g h = number_value v.number (f v) o (g v refl) h
kept_value (Err Stuck) f o g h = tt
kept_value (Err (Stopped why at)) f o g h = h

bare_value : (r : Result Value Halt) (o : Option ℕ) → IsValue r o → IsValue (given r (λ v. plain v.number)) o
bare_value (Ok v) o h = h
bare_value (Err Stuck) o h = tt
bare_value (Err (Stopped why at)) o h = h

-- ---- addresses

one_of : (n : ℕ) → (n == 1) ≡ true → 1 ≡ n
one_of n e = sym (eqb-true n 1 e)

none_times : (size : ℕ) → size * 0 ≡ 0
none_times size = omega arith

module _ (locals : Values) (memory : Memory) where
  abbrev value : Expr → Option ℕ
  value e = value_of locals memory e

  pub at_offset_value : (offset : ℕ) (e : Expr) (x : ℕ) → value e ≡ Some x → x < 2 ^ 32 → value (at_offset offset e) ≡ Some (place_in x offset)
  at_offset_value offset (Const n) x h small = ap (λ o. option_map (λ m. place_in m offset) o) h
  at_offset_value offset e x h small = by (offset == 0) refl
    where
      by : (none : Bool) → (offset == 0) ≡ none → value (if none then e else Bin binary.Add e (Const offset)) ≡ Some (place_in x offset)
      by true z = let zero : 0 ≡ offset = zero_of offset z in h ∙ ap Some (omega arith)
      by false z = ap (λ o. both (applied binary.Add) o (Some offset)) h

  pub scaled_value : (size : ℕ) (e : Expr) (k : ℕ) → value e ≡ Some k → k < 2 ^ 32 → value (scaled size e) ≡ Some (applied binary.Mul size k)
  scaled_value size (Const n) k h small = ap (λ o. option_map (λ m. applied binary.Mul size m) o) h
  scaled_value size e k h small = by (size == 1) refl
    where
      by : (one : Bool) → (size == 1) ≡ one → value (if one then e else Bin binary.Mul (Const size) e) ≡ Some (applied binary.Mul size k)
      by true z =
          let one : applied binary.Mul 1 k ≡ k = omega arith in
          h ∙ ap Some (sym one ∙ ap (λ n. applied binary.Mul n k) (one_of size z))
      by false z = ap (λ o. both (applied binary.Mul) (Some size) o) h

  pub zero_value : (e : Expr) → is_zero e ≡ true → value e ≡ Some 0
  zero_value (Const n) z = ap Some (sym (zero_of n z))
  zero_value e z = absurd cc

  moved_by_none : (back : Bool) (p : ℕ) → p < 2 ^ 32 → applied (if back then binary.Sub else binary.Add) p 0 ≡ p
  moved_by_none true p h = omega arith
  moved_by_none false p h = omega arith

  pub none_moved : (back : Bool) (p size : ℕ) → p < 2 ^ 32 → applied (if back then binary.Sub else binary.Add) p (applied binary.Mul size 0) ≡ p
  none_moved back p size h =
      ap (λ n. applied (if back then binary.Sub else binary.Add) p (n % 2 ^ 32)) (none_times size) ∙ moved_by_none back p h

  pub shifted_value : (back : Bool) (size : ℕ) (a i : Expr) (p k : ℕ) → value a ≡ Some p → value i ≡ Some k → p < 2 ^ 32 → k < 2 ^ 32
      → value (shifted back size a i) ≡ Some (applied (if back then binary.Sub else binary.Add) p (applied binary.Mul size k))
  shifted_value back size a i p k h j small few = by (is_zero i) refl
    where
      by : (none : Bool) → is_zero i ≡ none → value (if none then a else Bin (if back then binary.Sub else binary.Add) a (scaled size i))
          ≡ Some (applied (if back then binary.Sub else binary.Add) p (applied binary.Mul size k))
      by true z =
          let same : Some 0 ≡ Some k = sym (zero_value i z) ∙ j in
          let zero : 0 ≡ k = cc in
          h ∙ ap Some (sym (none_moved back p size small) ∙ ap (λ m. applied (if back then binary.Sub else binary.Add) p (applied binary.Mul size m)) zero)
      by false z =
          ap (λ o. both (applied (if back then binary.Sub else binary.Add)) o (value (scaled size i))) h
          ∙ ap (λ o. both (applied (if back then binary.Sub else binary.Add)) (Some p) o) (scaled_value size i k j few)

  -- an access without checks
  pub reached : (access : Access) (t : Through) (a i : Expr) (v : Value) (k : ℕ) → is_unchecked t ≡ true → value a ≡ Some v.number → value i ≡ Some k → v.number < 2 ^ 32 → k < 2 ^ 32
      → (x : ℕ) × (element_through t access v k ≡ Ok x) × (value (element_of t access.size a i) ≡ Some x) × (x < 2 ^ 32)
  reached access Named a i v k u h j small few = (v.number, refl, h, small)
  reached access Raw a i v k u h j small few =
      (applied binary.Add v.number (applied binary.Mul access.size k), refl, shifted_value false access.size a i v.number k h j small few, omega arith)
  reached access One a i v k u h j small few = absurd cc
  reached access Array a i v k u h j small few = absurd cc
  reached access Terminated a i v k u h j small few = absurd cc

  access_value : (access : Access) (a i e : Expr) (r q : Result Value Halt) (go : ℕ → Result Value Halt) → is_unchecked access.through ≡ true
      → IsValue r (value a) → IsValue q (value i) → GivesWord r → GivesWord q
      → ((x : ℕ) → value (place_at access a i) ≡ Some (place_in x access.offset) → IsValue (go x) (value e))
      → IsValue (given_both r q (λ v k. given (element access v k.number) go)) (value e)
  access_value access a i e (Ok v) (Ok k) go u h j small few next =
      let p = reached access access.through a i v k.number u h j small few in
      subst (λ z. IsValue (given z go) (value e)) (sym p.1)
      (next p.0 (at_offset_value access.offset (element_of access.through access.size a i) p.0 p.2 p.3))
  access_value access a i e (Ok v) (Err Stuck) go u h j small few next = tt
  access_value access a i e (Ok v) (Err (Stopped why at)) go u h j small few next = j
  access_value access a i e (Err Stuck) q go u h j small few next = tt
  access_value access a i e (Err (Stopped why at)) q go u h j small few next = h

  both_values : (a i e : Expr) (r q : Result Value Halt) (f : Value → Value → Result Value Halt) → IsValue r (value a) → IsValue q (value i) → GivesWord r → GivesWord q
      → ((v w : Value) → value a ≡ Some v.number → value i ≡ Some w.number → v.number < 2 ^ 32 → w.number < 2 ^ 32 → IsValue (f v w) (value e))
      → IsValue (given_both r q f) (value e)
  both_values a i e (Ok v) (Ok w) f h j small few next = next v w h j small few
  both_values a i e (Ok v) (Err Stuck) f h j small few next = tt
  both_values a i e (Ok v) (Err (Stopped why at)) f h j small few next = j
  both_values a i e (Err Stuck) q f h j small few next = tt
  both_values a i e (Err (Stopped why at)) q f h j small few next = h

  moves_value : (shift : Shift) (v : Value) (k : ℕ) (e : Expr) (checked : Bool) → checked ≡ false
      → value e ≡ Some (applied (if shift.back then binary.Sub else binary.Add) v.number (applied binary.Mul shift.size k))
      → IsValue (if checked then moves_checked shift v k else plain (applied (if shift.back then binary.Sub else binary.Add) v.number (applied binary.Mul shift.size k))) (value e)
  moves_value shift v k e false c h = h
  moves_value shift v k e true c h = absurd cc

pub pointer_value : (s : Store) (memory : Memory) (to : Pointee) (count : Count) (begin a : ℕ) → SameBytes s.blocks memory → (o : Option ℕ) → loaded Word a s.blocks ≡ o
    → IsValue (given_some o (λ n. given (counted s begin count) (λ m. reads s.shapes s.blocks to n (pos n) (elements_behind n to.size m)))) (value_at Word memory a)
pointer_value s memory to (counts.Fixed k) begin a same (Some n) h =
    number_value n _ _ (reads_number s.shapes s.blocks to n (pos n) (elements_behind n to.size k)) (loaded_there Word a n s.blocks memory same h)
pointer_value s memory to (counts.Member offset how add) begin a same (Some n) h =
    by (loaded (width_of how) (place_in begin offset) s.blocks)
  where
    by : (m : Option ℕ) → IsValue (given (given_some m (λ m. Ok (exact how m +ℤ add))) (λ m. reads s.shapes s.blocks to n (pos n) (elements_behind n to.size m))) (value_at Word memory a)
    by (Some m) = number_value n _ _ (reads_number s.shapes s.blocks to n (pos n) (elements_behind n to.size (exact how m +ℤ add))) (loaded_there Word a n s.blocks memory same h)
    by None = tt
pointer_value s memory to count begin a same None h = tt

pub direct_value : (n : ℕ) (s : Store) (memory : Memory) (values : Values) (e : source.Expr) → Sees n s memory → Agree n s.locals values
    → IsCompilableExpr n e → is_direct e ≡ true → IsValue (evaluated s e) (value_of values memory (direct e))
direct_value n s memory values (source.Number m) sees agree h d = refl
direct_value n s memory values (source.Local x) sees agree h d = agree x h
direct_value n s memory values (source.Limited x limits) sees agree h d =
    let m = slice_index s.locals x in
    let size = limits.to.size in
    number_value m _ _ (reads_number s.shapes s.blocks limits.to m (end_address s.locals size m limits.lower) (end_address s.locals size m limits.upper)) (agree x h)
direct_value n s memory values (source.Array at bytes) sees agree h d = refl
direct_value n s memory values (source.Load width access p i) sees agree h d =
    let u = and_true (is_unchecked access.through) (is_direct p && is_direct i) d in
    let q = and_true (is_direct p) (is_direct i) u.1 in
    let place = place_at access (direct p) (direct i) in
    access_value values memory access (direct p) (direct i) (Load width place) (evaluated s p) (evaluated s i) (λ a. loads s width (place_in a access.offset)) u.0
    (direct_value n s memory values p sees agree h.1 q.0) (direct_value n s memory values i sees agree h.2 q.1) (word_seen n s memory sees p h.1) (word_seen n s memory sees i h.2)
    (λ x e. subst (λ o. IsValue (loads s width (place_in x access.offset)) (option_and_then (value_at width memory) o)) (sym e)
    (load_value s memory width (place_in x access.offset) sees.same.bytes (loaded width (place_in x access.offset) s.blocks) refl))
direct_value n s memory values (source.Member to count access p i) sees agree h d =
    let u = and_true (is_unchecked access.through) (is_direct p && is_direct i) d in
    let q = and_true (is_direct p) (is_direct i) u.1 in
    let place = place_at access (direct p) (direct i) in
    access_value values memory access (direct p) (direct i) (Load Word place) (evaluated s p) (evaluated s i) (λ a. loads_pointer s to count a (place_in a access.offset)) u.0
    (direct_value n s memory values p sees agree h.1 q.0) (direct_value n s memory values i sees agree h.2 q.1) (word_seen n s memory sees p h.1) (word_seen n s memory sees i h.2)
    (λ x e. subst (λ o. IsValue (loads_pointer s to count x (place_in x access.offset)) (option_and_then (value_at Word memory) o)) (sym e)
    (pointer_value s memory to count x (place_in x access.offset) sees.same.bytes (loaded Word (place_in x access.offset) s.blocks) refl))
direct_value n s memory values (source.Address bytes access p i) sees agree h d =
    let u = and_true (is_unchecked access.through) (is_direct p && is_direct i) d in
    let q = and_true (is_direct p) (is_direct i) u.1 in
    access_value values memory access (direct p) (direct i) (place_at access (direct p) (direct i)) (evaluated s p) (evaluated s i) (λ a. spanned (place_in a access.offset) bytes) u.0
    (direct_value n s memory values p sees agree h.1 q.0) (direct_value n s memory values i sees agree h.2 q.1) (word_seen n s memory sees p h.1) (word_seen n s memory sees i h.2)
    (λ x e. e)
direct_value n s memory values (source.Moved shift p i) sees agree h d =
    let u = and_true (not shift.checked) (is_direct p && is_direct i) d in
    let q = and_true (is_direct p) (is_direct i) u.1 in
    both_values values memory (direct p) (direct i) (shifted shift.back shift.size (direct p) (direct i)) (evaluated s p) (evaluated s i) (λ v k. moves shift v k.number)
    (direct_value n s memory values p sees agree h.1 q.0) (direct_value n s memory values i sees agree h.2 q.1) (word_seen n s memory sees p h.1) (word_seen n s memory sees i h.2)
    (λ v k x y small few. moves_value values memory shift v k.number (shifted shift.back shift.size (direct p) (direct i)) shift.checked (not_true shift.checked u.0) (shifted_value values memory shift.back shift.size (direct p) (direct i) v.number k.number x y small few))
direct_value n s memory values (source.Added shift i p) sees agree h d =
    let u = and_true (not shift.checked) (is_direct i && is_direct p) d in
    let q = and_true (is_direct i) (is_direct p) u.1 in
    both_values values memory (direct i) (direct p) (shifted shift.back shift.size (direct p) (direct i)) (evaluated s i) (evaluated s p) (λ k v. moves shift v k.number)
    (direct_value n s memory values i sees agree h.1 q.0) (direct_value n s memory values p sees agree h.2 q.1) (word_seen n s memory sees i h.1) (word_seen n s memory sees p h.2)
    (λ k v y x few small. moves_value values memory shift v k.number (shifted shift.back shift.size (direct p) (direct i)) shift.checked (not_true shift.checked u.0) (shifted_value values memory shift.back shift.size (direct p) (direct i) v.number k.number x y small few))
direct_value n s memory values (source.Binary operation is_signed place a b) sees agree h d =
    let p = and_true (not (divides operation) && is_direct a) (is_direct b) d in
    let q = and_true (not (divides operation)) (is_direct a) p.0 in
    operation_value values memory operation is_signed place (direct a) (direct b) (evaluated s a) (evaluated s b) (not_true (divides operation) q.0)
    (direct_value n s memory values a sees agree h.1 q.1)
    (direct_value n s memory values b sees agree h.2 p.1)
direct_value n s memory values (source.And a b) sees agree h d = absurd cc
direct_value n s memory values (source.Or a b) sees agree h d = absurd cc
direct_value n s memory values (source.Choice c a b) sees agree h d = absurd cc
direct_value n s memory values (source.Narrow e) sees agree h d =
    narrow_value values memory (direct e) (evaluated s e) (direct_value n s memory values e sees agree h d)
direct_value n s memory values (source.Bare p) sees agree h d =
    bare_value (evaluated s p) (value_of values memory (direct p)) (direct_value n s memory values p sees agree h d)
direct_value n s memory values (source.Tested size how at p k) sees agree h d =
    let u = and_true (casts_one size p k) (is_direct p) d in
    let q = and_true (is_one k) (is_single size p) u.0 in
    subst (λ r. IsValue r (value_of values memory (direct p))) (sym (behind_one s k (evaluated s p) (λ v c. tests size how at v c.number) q.0))
    (kept_value (evaluated s p) (λ v. tests size how at v 1) (value_of values memory (direct p)) (λ v e. tested_gives size s how at p v q.1 e)
    (direct_value n s memory values p sees agree h.1 u.1))
direct_value n s memory values (source.Trusted to how p k) sees agree h d =
    let q = and_true (is_direct p) (is_direct k) d in
    both_values values memory (direct p) (direct k) (direct p) (evaluated s p) (evaluated s k) (λ v c. trusts s to how v.number c.number)
    (direct_value n s memory values p sees agree h.0 q.0) (direct_value n s memory values k sees agree h.1 q.1) (word_seen n s memory sees p h.0) (word_seen n s memory sees k h.1)
    (λ v c x y small few. number_value v.number _ _ (reads_number s.shapes s.blocks to v.number (pos v.number) (elements_behind v.number to.size (exact how c.number))) x)
