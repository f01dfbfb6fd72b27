-- The table of labels, line by line, and the code below a line.
use Rattle.std.proofs.Common.{◌≡◌, ℕ, ◌+◌, ◌<◌, ◌≤◌, eqb, Bool, true, false, cond, ◌||◌, List, [], ◌∷◌, ◌++◌, length, take, drop, get_or, Option, Some, None, IsSome, refl, sym, ap, ◌∙◌, inl, inr, ⊎_elim, ◌⊎◌, subst, arith, sum_by, length-append, length-drop, zero-add, ◌%◌, ◌^◌}
use Rattle.std.specs.List.{slice_get, list_any, count_by}
use Rattle.std.proofs.lemmas.List.{take_more, take-append-le, drop-append-le, drop_at, take_all, take-take}
use Rattle.std.proofs.lemmas.List.Sums.{sum_by_more, sum_by-take-le, sum_by_more_le, sum_by-cons}
use Rattle.std.proofs.lemmas.List.Folds.{list_any-append}
use Rattle.std.proofs.lemmas.Option.{slice_get_within, get_or_from_slice_get, same_Some}
use Rattle.std.proofs.lemmas.Bool.{eqb-true, cases_lt}
use Rattle.ckc_asm_lines.specs.declared.lines.Line.{Line}
use Rattle.ckc_asm_lines.specs.declared.lines.Line.TheVariants.{Label, Plain, Jump, Branch, Far}
use Rattle.ckc_asm_lines.specs.Assembled.{size_of, offset_of, address_of, is_label, StandsAt, StandsOnce, IsCode, bytes_at, Assembled, CanStand, CanAssemble}
use Rattle.ckc_image.specs.Image.{IsProper}
use Rattle.ckc_asm_lines.specs.code.Places.{KnowsPlaces, Knows, Encodes, IsCodeBelow, CanEncode}
use Rattle.ckc_asm_lines.proofs.Cases.{bool_cases}

pub offset_more : (lines : List Line) (k : ℕ) (line : Line) → slice_get lines k ≡ Some line → offset_of lines (k + 1) ≡ offset_of lines k + size_of line
offset_more lines k line at =
    sum_by_more size_of lines k line (slice_get_within lines k line at) ∙ ap (λ l. offset_of lines k + size_of l) (get_or_from_slice_get lines k line line at)

pub offset_within : (lines : List Line) (k : ℕ) (line : Line) → slice_get lines k ≡ Some line → offset_of lines k + size_of line ≤ sum_by size_of lines
offset_within lines k line at =
    let l = sum_by_more_le size_of lines k line (slice_get_within lines k line at) in
    let e : size_of (get_or lines k line) ≡ size_of line = ap size_of (get_or_from_slice_get lines k line line at) in
    omega arith

pub offset_all : (lines : List Line) (k : ℕ) → offset_of lines k ≤ sum_by size_of lines
offset_all lines k = sum_by-take-le size_of lines k

-- the labels of one line more
any_more : (label : ℕ) (lines : List Line) (k : ℕ) (line : Line) → slice_get lines k ≡ Some line
    → list_any (is_label label) (take (k + 1) lines) ≡ (list_any (is_label label) (take k lines) || is_label label line)
any_more label lines k line at =
    ap (list_any (is_label label)) (take_more lines k line (slice_get_within lines k line at))
    ∙ list_any-append (is_label label) (take k lines) (get_or lines k line ∷ [])
    ∙ ap (λ l. list_any (is_label label) (take k lines) || (is_label label l || false)) (get_or_from_slice_get lines k line line at)
    ∙ or_false (list_any (is_label label) (take k lines)) (is_label label line)
  where
    or_false : (a b : Bool) → (a || (b || false)) ≡ (a || b)
    or_false true b = refl
    or_false false true = refl
    or_false false false = refl

other_or : (a b : Bool) → (a || b) ≡ true → (a ≡ true) ⊎ (b ≡ true)
other_or true b h = inl refl
other_or false b h = inr h

some_is : (o : Option ℕ) (x : ℕ) → o ≡ Some x → IsSome o
some_is o x e = rw e refl

within : {A : Type 0} (xs : List A) → length xs ≤ length xs
within xs = omega arith

pub knows_none : (known : ℕ → Option ℕ) (lines : List Line) → ((q : ℕ) → known q ≡ None) → KnowsPlaces known lines 0
knows_none known lines h = record {
  sound = λ q a e. (let z : None ≡ Some a = sym (h q) ∙ e in cc);
  complete = λ q e. (let z : false ≡ true = e in cc);
}

-- a label goes into the table
pub knows_label : (known next : ℕ → Option ℕ) (lines : List Line) (k label address : ℕ) → slice_get lines k ≡ Some (Label label) → address ≡ address_of lines k
    → ((q : ℕ) → next q ≡ cond (eqb label q) (Some address) (known q)) → KnowsPlaces known lines k → KnowsPlaces next lines (k + 1)
knows_label known next lines k label address at here up knows = record {
  sound = λ q a e. ⊎_elim
      (λ (t : eqb label q ≡ true).
      let same : label ≡ q = eqb-true label q t in
      let it : Some address ≡ Some a = sym (up q ∙ ap (λ b. cond b (Some address) (known q)) t) ∙ e in
      (k, at ∙ ap (λ l. Some (Label l)) same, sym (same_Some address a it) ∙ here))
      (λ (f : eqb label q ≡ false). knows.sound q a (sym (up q ∙ ap (λ b. cond b (Some address) (known q)) f) ∙ e))
      (bool_cases (eqb label q));
  complete = λ q e. ⊎_elim
      (λ (t : eqb label q ≡ true). some_is (next q) address (up q ∙ ap (λ b. cond b (Some address) (known q)) t))
      (λ (f : eqb label q ≡ false). subst (λ (o : Option ℕ). IsSome o) (sym (up q ∙ ap (λ b. cond b (Some address) (known q)) f))
      (⊎_elim (λ (h : list_any (is_label q) (take k lines) ≡ true). knows.complete q h)
      (λ (h : eqb q label ≡ true). let same : q ≡ label = eqb-true q label h in let t : eqb label q ≡ eqb q q = ap (λ n. eqb n q) (sym same) in let u : eqb q q ≡ eqb q label = ap (eqb q) same in let z : true ≡ false = sym h ∙ sym u ∙ sym t ∙ f in cc)
      (other_or _ _ (sym (any_more q lines k (Label label) at) ∙ e))))
      (bool_cases (eqb label q));
}

-- no label, no change
pub knows_other : (known : ℕ → Option ℕ) (lines : List Line) (k : ℕ) (line : Line) → slice_get lines k ≡ Some line → ((q : ℕ) → is_label q line ≡ false)
    → KnowsPlaces known lines k → KnowsPlaces known lines (k + 1)
knows_other known lines k line at never knows = record {
  sound = knows.sound;
  complete = λ q e. ⊎_elim (λ (h : list_any (is_label q) (take k lines) ≡ true). knows.complete q h)
      (λ (h : is_label q line ≡ true). let z : true ≡ false = sym h ∙ never q in cc)
      (other_or _ _ (sym (any_more q lines k line at) ∙ e));
}

-- ---- the code

kept : (n o : ℕ) (xs ys : List ℕ) → o + n ≤ length xs → take n (drop o (xs ++ ys)) ≡ take n (drop o xs)
kept n o xs ys h = rw (drop-append-le o xs ys (omega arith)) (take-append-le n (drop o xs) ys (omega (arith, length-drop o xs)))

offset_before : (lines : List Line) (j k : ℕ) (line : Line) → slice_get lines j ≡ Some line → j < k → offset_of lines j + size_of line ≤ offset_of lines k
offset_before lines j k line at h =
    let part : sum_by size_of (take (j + 1) (take k lines)) ≤ sum_by size_of (take k lines) = sum_by-take-le size_of (take k lines) (j + 1) in
    let same : sum_by size_of (take (j + 1) (take k lines)) ≡ offset_of lines (j + 1) = ap (sum_by size_of) (take-take (j + 1) k lines (omega arith)) in
    omega (arith, offset_more lines j line at, part, same)

pub code_more : (known : ℕ → Option ℕ) (lines : List Line) (k : ℕ) (line : Line) (code bytes new : List ℕ) → slice_get lines k ≡ Some line
    → new ≡ code ++ bytes → Encodes known (address_of lines k) line bytes → IsCodeBelow known lines k code → IsCodeBelow known lines (k + 1) new
code_more known lines k line code bytes new at e encodes below = record {
  whole = ap length e ∙ length-append code bytes ∙ (omega (arith, offset_more lines k line at, below.whole, encodes.1));
  each = λ j other h there. ⊎_elim
      (λ (lt : j < k). let same : bytes_at lines j other new ≡ bytes_at lines j other code =
      ap (λ l. bytes_at lines j other l) e ∙ kept (size_of other) (offset_of lines j) code bytes (omega (arith, offset_before lines j k other there lt, below.whole)) in
      rw same (below.each j other lt there))
      (λ (is : j ≡ k).
      let is_line : line ≡ other = same_Some line other (sym at ∙ (ap (slice_get lines) (sym is) ∙ there)) in
      let here : bytes_at lines k line new ≡ bytes =
      ap (λ l. bytes_at lines k line l) e ∙ ap (take (size_of line)) (drop_at code bytes (offset_of lines k) below.whole) ∙ take_all (size_of line) bytes (omega (arith, encodes.1)) in
      let P : Line → Type 0 = λ l. IsCode (Knows known) (address_of lines j) l (bytes_at lines j l new) in
      let Q : ℕ → Type 0 = λ i. IsCode (Knows known) (address_of lines i) line (bytes_at lines i line new) in
      subst P is_line (subst Q (sym is) (rw here encodes.0)))
      (last_or_before j k h);
}
  where
    last_or_before : (j k : ℕ) → j < k + 1 → (j < k) ⊎ (j ≡ k)
    last_or_before j k h = ⊎_elim (λ l. inl l) (λ g. inr (omega arith)) (cases_lt j k)

pub code_none : (known : ℕ → Option ℕ) (lines : List Line) → IsCodeBelow known lines 0 []
code_none known lines = record { whole = refl; each = λ k line h at. absurd (omega arith) }

-- ---- all lines

code_sound : (known : ℕ → Option ℕ) (lines : List Line) (n address : ℕ) (line : Line) (bytes : List ℕ) → KnowsPlaces known lines n
    → IsCode (Knows known) address line bytes → IsCode (StandsAt lines) address line bytes
code_sound known lines n address (Label label) bytes knows code = code
code_sound known lines n address (Plain i) bytes knows code = code
code_sound known lines n address (Jump rd label) bytes knows code = (code.0, knows.sound label code.0 code.1, code.2)
code_sound known lines n address (Branch op rs1 rs2 label) bytes knows code = (code.0, knows.sound label code.0 code.1, code.2)
code_sound known lines n address (Far rd label) bytes knows code = (code.0, knows.sound label code.0 code.1, code.2)

any_counted : {X : Type 0} (p : X → Bool) (xs : List X) → 0 < count_by p xs → list_any p xs ≡ true
any_counted p [] h = absurd (omega arith)
any_counted p (x ∷ xs) h = ⊎_elim (λ (t : p x ≡ true). ap (λ b. b || list_any p xs) t)
    (λ (f : p x ≡ false). ap (λ b. b || list_any p xs) f ∙ any_counted p xs (subst (λ n. 0 < n) (sum_by-cons (λ y. cond (p y) 1 0) x xs ∙ ap (λ b. cond b 1 0 + count_by p xs) f ∙ zero-add (count_by p xs)) h))
    (bool_cases (p x))

pub is_known : (known : ℕ → Option ℕ) (lines : List Line) (label : ℕ) → KnowsPlaces known lines (length lines) → StandsOnce lines label → IsSome (known label)
is_known known lines label knows once =
    knows.complete label (ap (list_any (is_label label)) (take_all (length lines) lines (within lines)) ∙ any_counted (is_label label) lines (omega arith))

low_target : (lines : List Line) (label target : ℕ) → sum_by size_of lines ≤ 16773120 → StandsAt lines label target → target < 2 ^ 25
low_target lines label target fits stands = omega (arith, offset_all lines stands.0, stands.2)

pub can_encode : (known : ℕ → Option ℕ) (lines : List Line) (address : ℕ) (line : Line) → KnowsPlaces known lines (length lines) → sum_by size_of lines ≤ 16773120
    → CanStand lines address line → CanEncode known address line
can_encode known lines address (Label label) knows fits can = can
can_encode known lines address (Plain i) knows fits can = can
can_encode known lines address (Jump rd label) knows fits can =
    (can.0, is_known known lines label knows can.1, λ target at. let stands = knows.sound label target at in (low_target lines label target fits stands, can.2 target stands))
can_encode known lines address (Branch op rs1 rs2 label) knows fits can =
    (can.0, can.1, is_known known lines label knows can.2, λ target at. let stands = knows.sound label target at in (low_target lines label target fits stands, can.3 target stands))
can_encode known lines address (Far rd label) knows fits can =
    (can.0, is_known known lines label knows can.1, λ target at. low_target lines label target fits (knows.sound label target at))

pub fours : (lines : List Line) → sum_by size_of lines % 4 ≡ 0
fours [] = refl
fours (Label label ∷ lines) = omega (arith, fours lines, sum_by-cons size_of (Label label) lines)
fours (Plain i ∷ lines) = omega (arith, fours lines, sum_by-cons size_of (Plain i) lines)
fours (Jump rd label ∷ lines) = omega (arith, fours lines, sum_by-cons size_of (Jump rd label) lines)
fours (Branch op rs1 rs2 label ∷ lines) = omega (arith, fours lines, sum_by-cons size_of (Branch op rs1 rs2 label) lines)
fours (Far rd label ∷ lines) = omega (arith, fours lines, sum_by-cons size_of (Far rd label) lines)

pub assembled : (known : ℕ → Option ℕ) (lines : List Line) (start : ℕ) (initial : List ℕ) (entry : ℕ) (code : List ℕ) → KnowsPlaces known lines (length lines)
    → IsCodeBelow known lines (length lines) code → known start ≡ Some entry → Assembled lines start initial entry code initial
assembled known lines start initial entry code knows below at = record {
  whole = below.whole ∙ ap (sum_by size_of) (take_all (length lines) lines (within lines));
  each = λ k line there. code_sound known lines (length lines) (address_of lines k) line (bytes_at lines k line code) knows (below.each k line (slice_get_within lines k line there) there);
  starts = knows.sound start entry at;
  same = refl;
}

pub proper : (known : ℕ → Option ℕ) (lines : List Line) (start : ℕ) (initial : List ℕ) (entry : ℕ) (code : List ℕ) → KnowsPlaces known lines (length lines)
    → IsCodeBelow known lines (length lines) code → known start ≡ Some entry → CanAssemble lines start initial → IsProper entry code initial
proper known lines start initial entry code knows below at can =
    let stands = knows.sound start entry at in
    let size : length code ≡ sum_by size_of lines = below.whole ∙ ap (sum_by size_of) (take_all (length lines) lines (within lines)) in
    let four : length code % 4 ≡ 0 = ap (λ n. n % 4) size ∙ fours lines in
    let place : offset_of lines stands.0 % 4 ≡ 0 = fours (take stands.0 lines) in
    let before : entry < 4096 + length code = rw size (can.followed entry stands) in (
      (four, omega (arith, stands.2), omega (arith, can.code_fits), can.initial_fits),
      (omega (arith, stands.2), omega (arith, stands.2), before),
    )

pub knows_same : (known next : ℕ → Option ℕ) (lines : List Line) (n : ℕ) → ((q : ℕ) → next q ≡ known q) → KnowsPlaces known lines n → KnowsPlaces next lines n
knows_same known next lines n same knows = record {
  sound = λ q a e. knows.sound q a (sym (same q) ∙ e);
  complete = λ q e. subst (λ (o : Option ℕ). IsSome o) (sym (same q)) (knows.complete q e);
}

pub never_label : (line : Line) → ((label : ℕ) → line ≡ Label label → ⊥) → (q : ℕ) → is_label q line ≡ false
never_label (Label label) h q = absurd (h label refl)
never_label (Plain i) h q = refl
never_label (Jump rd label) h q = refl
never_label (Branch op rs1 rs2 label) h q = refl
never_label (Far rd label) h q = refl

-- what is made of the lines, under other names for the lists
pub all_of : (known : ℕ → Option ℕ) (given lines : List Line) (start : ℕ) (initial initial' : List ℕ) (entry : ℕ) (code code' : List ℕ) → lines ≡ given → code' ≡ code → initial' ≡ initial
    → KnowsPlaces known lines (length lines) → IsCodeBelow known lines (length lines) code → known start ≡ Some entry → CanAssemble given start initial
    → Assembled given start initial entry code' initial' × IsProper entry code' initial'
all_of known given lines start initial initial' entry code code' e ec ei knows below at can =
    rw (ei, ec, ← e) (assembled known lines start initial entry code knows below at, proper known lines start initial entry code knows below at (rw e can))
