-- Lines put one after another.
use Rattle.std.proofs.Common.{◌≡◌, ℕ, zero, suc, ◌+◌, ◌<◌, min, List, [], ◌∷◌, ◌++◌, length, take, drop, map, Some, Result, Ok, Err, subst, refl, sym, ap, ◌∙◌, arith, append_assoc, length-append, add-zero, add-suc}
use Rattle.std.specs.List.{range_with_len}
use Rattle.std.proofs.lemmas.List.{append-nil, take-append-le, take_min, take-append-drop}
use Rattle.std.proofs.lemmas.List.Concat.{flat_map-append}
use Rattle.std.proofs.lemmas.List.FromFn.{map-range_with_len_more, take-map-range_with_len}
use Rattle.std.proofs.Math.Seq.{take-append-add}
use Rattle.ckc_outside.specs.declared.traits.Failed.{Failed}
use Rattle.ckc_outside.specs.Outside.{Puts, SeenSink, one_more, faults_after}
use Rattle.ckc_asm_listing.specs.Listing.{text_of, ended}
use Rattle.ckc_asm_listing.specs.Putting.{many_more, PutsPieces}
use Rattle.ckc_asm_listing.specs.code.Putting.{HasPut, HasFailed, PutsLines}

no_more : (n : ℕ) → many_more 0 n ≡ n
unfolding many_more
no_more n = refl

many_more-add : (a b n : ℕ) → many_more (a + b) n ≡ many_more b (many_more a n)
unfolding many_more
many_more-add a zero n = ap (λ k. many_more k n) (add-zero a)
many_more-add a (suc b) n = ap (λ k. many_more k n) (add-suc a b) ∙ ap one_more (many_more-add a b n)

pub put_none : (s : SeenSink) → HasPut [] s s
put_none s = record {
  faults = refl;
  told = λ bytes e. e ∙ ap Some (sym (append-nil bytes));
  pieces = sym (no_more s.puts);
}

text_of-append : (xs ys : List (List ℕ)) → text_of (xs ++ ys) ≡ text_of xs ++ text_of ys
text_of-append xs ys = flat_map-append ended xs ys

-- lines after lines
pub put_more : (xs ys : List (List ℕ)) (r s t : SeenSink) → HasPut xs r s → HasPut ys s t → HasPut (xs ++ ys) r t
put_more xs ys r s t one two = record {
  faults = two.faults ∙ one.faults;
  told = λ bytes e. two.told _ (one.told bytes e) ∙ ap Some (append_assoc bytes (text_of xs) (text_of ys) ∙ ap (λ l. bytes ++ l) (sym (text_of-append xs ys)));
  pieces = two.pieces ∙ ap (many_more (length ys)) one.pieces ∙ (sym (many_more-add (length xs) (length ys) r.puts) ∙ ap (λ k. many_more k r.puts) (sym (length-append xs ys)));
}

take_behind : (k : ℕ) (xs ys : List ℕ) → (j : ℕ) × (take j (xs ++ ys) ≡ xs ++ take k ys)
take_behind k xs ys = (length xs + k, take-append-add xs ys k)

pub fail_more : (xs ys : List (List ℕ)) (r s t : SeenSink) → HasPut xs r s → HasFailed ys s t → HasFailed (xs ++ ys) r t
fail_more xs ys r s t one two = record {
  faults = two.faults ∙ ap one_more one.faults;
  told = λ bytes e.
      let w = two.told _ (one.told bytes e) in
      let j = take_behind w.0 (text_of xs) (text_of ys) in
      (j.0, w.1 ∙ ap Some (append_assoc bytes (text_of xs) _ ∙ ap (λ l. bytes ++ l) (sym j.1 ∙ ap (take j.0) (sym (text_of-append xs ys)))));
  pieces = (length xs + two.pieces.0, omega (arith, length-append xs ys, two.pieces.1), two.pieces.2 ∙ ap (many_more two.pieces.0) one.pieces ∙ sym (many_more-add (length xs) two.pieces.0 r.puts));
}

-- lines after lines that were put
pub puts_more : (xs ys : List (List ℕ)) (result : Result (Unit {0}) Failed) (r s t : SeenSink) → HasPut xs r s → PutsLines ys result s t → PutsLines (xs ++ ys) result r t
puts_more xs ys (Ok done) r s t one two = put_more xs ys r s t one two
puts_more xs ys (Err failed) r s t one two = fail_more xs ys r s t one two

-- a failure in the first lines
pub fail_first : (xs ys : List (List ℕ)) (s t : SeenSink) → HasFailed xs s t → HasFailed (xs ++ ys) s t
fail_first xs ys s t one = record {
  faults = one.faults;
  told = λ bytes e.
      let w = one.told bytes e in
      let j = front w.0 (text_of xs) (text_of ys) in
      (j.0, w.1 ∙ ap (λ l. Some (bytes ++ l)) (sym j.1 ∙ ap (take j.0) (sym (text_of-append xs ys))));
  pieces = (one.pieces.0, omega (arith, length-append xs ys, one.pieces.1), one.pieces.2);
}
  where
    front : (k : ℕ) (xs ys : List ℕ) → (j : ℕ) × (take j (xs ++ ys) ≡ take k xs)
    front k xs ys = (min k (length xs), take-append-le (min k (length xs)) xs ys (omega arith) ∙ take_min k xs)

-- the next of the lines that f makes
pub put_next : (f : ℕ → List ℕ) (k : ℕ) (r s t : SeenSink) → HasPut (map f (range_with_len 0 k)) r s → HasPut (f k ∷ []) s t → HasPut (map f (range_with_len 0 (k + 1))) r t
put_next f k r s t one two = rw (map-range_with_len_more f 0 k k (omega arith)) (put_more _ _ r s t one two)

-- the k-th of n lines failed
pub fail_next : (f : ℕ → List ℕ) (n k : ℕ) (r s t : SeenSink) → k < n → HasPut (map f (range_with_len 0 k)) r s → HasFailed (f k ∷ []) s t → HasFailed (map f (range_with_len 0 n)) r t
fail_next f n k r s t h one two =
    let all = map f (range_with_len 0 n) in
    let front : take (k + 1) all ≡ map f (range_with_len 0 k) ++ f k ∷ [] = take-map-range_with_len f 0 n (k + 1) (omega arith) ∙ map-range_with_len_more f 0 k k (omega arith) in
    let whole : all ≡ (map f (range_with_len 0 k) ++ f k ∷ []) ++ drop (k + 1) all = sym (take-append-drop (k + 1) all) ∙ ap (λ l. l ++ drop (k + 1) all) front in
    let P : List (List ℕ) → Type 0 = λ l. HasFailed l r t in
    subst P (sym whole) (fail_first _ _ r t (fail_more _ _ r s t one two))

-- one piece
pub put_one : (text line : List ℕ) (r : Result (Unit {0}) Failed) (old new : SeenSink) → line ≡ ended text → new.faults ≡ faults_after r old.faults
    → ((bytes : List ℕ) → old.written ≡ Some bytes → Puts bytes line r new.written) → new.puts ≡ one_more old.puts → PutsLines (text ∷ []) r old new
unfolding many_more
put_one text line (Ok done) old new e faults told once = record {
  faults = faults;
  told = λ bytes w. told bytes w ∙ ap (λ l. Some (bytes ++ l)) (e ∙ sym (append-nil (ended text)));
  pieces = once;
}
put_one text line (Err failed) old new e faults told once = record {
  faults = faults;
  told = λ bytes w. (let t = told bytes w in (t.0, t.1 ∙ ap (λ l. Some (bytes ++ take t.0 l)) (e ∙ sym (append-nil (ended text)))));
  pieces = (1, omega arith, once);
}

-- what lines leave, part by part
pub puts_faults : (lines : List (List ℕ)) (r : Result (Unit {0}) Failed) (old new : SeenSink) → PutsLines lines r old new → new.faults ≡ faults_after r old.faults
puts_faults lines (Ok done) old new h = h.faults
puts_faults lines (Err failed) old new h = h.faults

pub puts_told : (lines : List (List ℕ)) (r : Result (Unit {0}) Failed) (old new : SeenSink) → PutsLines lines r old new → (bytes : List ℕ) → old.written ≡ Some bytes → Puts bytes (text_of lines) r new.written
puts_told lines (Ok done) old new h = h.told
puts_told lines (Err failed) old new h = h.told

pub puts_pieces : (lines : List (List ℕ)) (r : Result (Unit {0}) Failed) (old new : SeenSink) → PutsLines lines r old new → PutsPieces (length lines) r old.puts new.puts
puts_pieces lines (Ok done) old new h = h.pieces
puts_pieces lines (Err failed) old new h = h.pieces
