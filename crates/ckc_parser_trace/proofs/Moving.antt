-- Moves that follow one another keep what the stack stands for.
use Rattle.std.proofs.Common.{◌≡◌, ◌≢◌, ℕ, zero, suc, ◌+◌, ◌*◌, ◌-◌, ◌<◌, ◌≤◌, ◌==◌, length, List, [], ◌∷◌, ◌++◌, true, false, refl, sym, ap, subst, ◌∙◌, Option, None, Some, map, reverse, take, drop, get_or, slice_get, flat_map, append_assoc, append-nil, arith, if◌then◌else◌}
use Rattle.std.proofs.lemmas.List.{reverse-append, map-append, length-drop}
use Rattle.std.proofs.lemmas.Option.{get_or_from_slice_get}
use Rattle.ckc_parser_grammar.specs.declared.kind.Kind.{Kind}
use Rattle.ckc_parser_grammar.specs.declared.kind.Kind.TheVariants as kind
use Rattle.ckc_parser_grammar.specs.code.Fits.{number}
use Rattle.ckc_parser_grammar.specs.code.Grammar.{Symbol, n, right}
use Rattle.ckc_parser_grammar.specs.code.Grammar as g
use Rattle.ckc_parser_grammar.specs.code.Derives.{Sign}
use Rattle.ckc_parser_grammar.specs.code.Reading.{kind_of}
use Rattle.ckc_parser_grammar.specs.code.Trace.{Event, taken, opened, event, events}
use Rattle.ckc_parser_grammar.proofs.EveryKind.{kind_at}
use Rattle.ckc_parser_trace.specs.code.Turns.{all_kinds, rows, symbol_of, turn}
use Rattle.ckc_parser_trace.specs.code.Runs.{symbols_on, Runs}
use Rattle.ckc_parser_trace.specs.code.Moves.{Moved, by_turn, moved, trace_row, stack_row, told, no_moves, told_by, moved_by, cut_rows, numbers_of, pair_of, pairs_of, moved_each, moved_by_rows, told_by_rows, Tells, Leaves}
use Rattle.ckc_parser_trace.proofs.Running.{taken_move, opened_move}
use Rattle.ckc_parser_trace.proofs.Bytes.{rows_at, found, small, not_same}

-- what moves keep, if the tokens that they leave are `b`
abbrev Lands : List Sign → List Sign → List Symbol → List Event → Moved → Type 0
Lands old a below es m = (b : List Sign) → Leaves m.takes a b → Runs old (m.left ++ below) b (es ++ m.events)

stays : (old a : List Sign) (ss below : List Symbol) (es : List Event) → Runs old (ss ++ below) a es → Lands old a below es (record { events = []; left = ss; takes = false })
stays old a ss below es q = λ b h. subst (λ z. Runs old (ss ++ below) z (es ++ [])) h (subst (λ z. Runs old (ss ++ below) a z) (sym (append-nil es)) q)

by_step : (old a : List Sign) (s : Symbol) (ss below : List Symbol) (es : List Event) (go : List Symbol → Moved) → ((ts : List Symbol) (fs : List Event) → Runs old (ts ++ below) a fs → Lands old a below fs (go ts)) →
    Runs old (s ∷ (ss ++ below)) a es → (o : Option Event) → turn s (kind_of a) ≡ o → Lands old a below es (by_turn o s ss go)
by_step old a s ss below es go each q None e = stays old a (s ∷ ss) below es q
by_step old a s ss below es go each q (Some taken) e = λ b h.
    taken_move old s (ss ++ below) h.0 b es (subst (λ z. Runs old (s ∷ (ss ++ below)) z es) h.1 q) (subst (λ z. turn s (kind_of z) ≡ Some taken) h.1 e)
by_step old a s ss below es go each q (Some (opened r)) e = λ b h.
    let one = opened_move old s (ss ++ below) a es r q e in
    let same = subst (λ z. Runs old z a (es ++ opened r ∷ [])) (sym (append_assoc (right r) ss below)) one in
    subst (λ z. Runs old ((go (right r ++ ss)).left ++ below) b z) (append_assoc es (opened r ∷ []) (go (right r ++ ss)).events) (each (right r ++ ss) (es ++ opened r ∷ []) same b h)

pub lands : (k : ℕ) (old a : List Sign) (ss below : List Symbol) (es : List Event) → Runs old (ss ++ below) a es → Lands old a below es (moved k (kind_of a) ss)
lands zero old a ss below es q = stays old a ss below es q
lands (suc k) old a [] below es q = stays old a [] below es q
lands (suc k) old a (s ∷ ss) below es q = by_step old a s ss below es (moved k (kind_of a)) (λ ts fs w. lands k old a ts below fs w) q (turn s (kind_of a)) refl

-- the moves of a row
pub row_moves : (s : Symbol) (row : List ℕ) (a b : List Sign) (stack left was trace : List ℕ) → Tells row s (kind_of a) → trace ≡ was ++ trace_row row → left ≡ stack ++ stack_row row → Leaves (get_or row 14 0 == 1) a b →
    (old : List Sign) → Runs old (s ∷ symbols_on stack) a (events was) → Runs old (symbols_on left) b (events trace)
row_moves s row a b stack left was trace e w v h old q =
    let ended = subst (λ m. Lands old a (symbols_on stack) (events was) m) e (lands (get_or row 7 0) old a (s ∷ []) (symbols_on stack) (events was) q) b h in
    let es : events trace ≡ events was ++ map event (trace_row row) = ap events w ∙ map-append event was (trace_row row) in
    let ss : symbols_on left ≡ map symbol_of (reverse (stack_row row)) ++ symbols_on stack =
    ap symbols_on v ∙ ap (λ z. map symbol_of z) (reverse-append stack (stack_row row)) ∙ map-append symbol_of (reverse (stack_row row)) (reverse stack) in
    subst (λ z. Runs old z b (events trace)) (sym ss) (subst (λ z. Runs old (map symbol_of (reverse (stack_row row)) ++ symbols_on stack) b z) (sym es) ended)

byte_of : (row : List ℕ) (k b : ℕ) → Some b ≡ slice_get row k → b ≡ get_or row k 0
byte_of row k b e = sym (get_or_from_slice_get row k b 0 (sym e))

pub row_played : (s : Symbol) (row front back : List ℕ) (a b : List Sign) (stack left was trace : List ℕ) (opens takes count : ℕ) → Tells row s (kind_of a) → front ≡ take 8 row → back ≡ drop 8 row →
    Some opens ≡ slice_get row 7 → Some takes ≡ slice_get row 14 → Some count ≡ slice_get row 15 → trace ≡ was ++ take opens front → left ≡ stack ++ take count back → Leaves (takes == 1) a b →
    (old : List Sign) → Runs old (s ∷ symbols_on stack) a (events was) → Runs old (symbols_on left) b (events trace)
row_played s row front back a b stack left was trace opens takes count e f k eo et ec w v h =
    row_moves s row a b stack left was trace e
    (w ∙ ap (λ i. was ++ take i front) (byte_of row 7 opens eo) ∙ ap (λ z. was ++ take (get_or row 7 0) z) f)
    (v ∙ ap (λ i. stack ++ take i back) (byte_of row 15 count ec) ∙ ap (λ z. stack ++ take (get_or row 15 0) z) k)
    (subst (λ i. Leaves (i == 1) a b) (byte_of row 14 takes et) h)

pub one_left : (takes : ℕ) (a b : List Sign) → takes ≡ 1 → Leaves true a b → Leaves (takes == 1) a b
one_left takes a b e h = subst (λ q. Leaves q a b) (sym (ap (λ i. i == 1) e)) h

pub none_left : (takes : ℕ) (a : List Sign) → takes ≢ 1 → Leaves (takes == 1) a a
none_left takes a e = subst (λ q. Leaves q a a) (sym (not_same takes 1 (takes == 1) refl e)) refl

-- the tables
numbers_at : (xs : List ℕ) (k j low high : ℕ) → j ≡ k * 2 → slice_get xs j ≡ Some low → slice_get xs (suc j) ≡ Some high → slice_get (numbers_of xs) k ≡ Some (low + high * 256)
numbers_at [] k j low high e f h = absurd (cc)
numbers_at (x ∷ []) k zero low high e f h = absurd (cc)
numbers_at (x ∷ []) k (suc j) low high e f h = absurd (cc)
numbers_at (x ∷ y ∷ xs) zero zero low high e f h = cc
numbers_at (x ∷ y ∷ xs) zero (suc j) low high e f h = absurd (grind (arith))
numbers_at (x ∷ y ∷ xs) (suc k) zero low high e f h = absurd (grind (arith))
numbers_at (x ∷ y ∷ xs) (suc k) (suc zero) low high e f h = absurd (grind (arith))
numbers_at (x ∷ y ∷ xs) (suc k) (suc (suc j)) low high e f h = numbers_at xs k j low high (grind (arith)) f h

drop_none : (k : ℕ) (xs : List ℕ) → xs ≡ [] → drop k xs ≡ xs
drop_none zero xs e = refl
drop_none (suc k) [] e = refl
drop_none (suc k) (x ∷ xs) e = absurd (cc)

drop_both : (k j m : ℕ) (xs : List ℕ) → m ≡ k + j → drop j (drop k xs) ≡ drop m xs
drop_both zero j m xs e = let same : j ≡ m = grind (arith) in ap (λ i. drop i xs) same
drop_both (suc k) j zero xs e = absurd (grind (arith))
drop_both (suc k) j (suc m) [] e = drop_none j [] refl
drop_both (suc k) j (suc m) (x ∷ xs) e = drop_both k j m xs (grind (arith))

first_row : (xs : List ℕ) → 16 ≤ length xs → get_or (cut_rows xs) 0 [] ≡ take 16 xs
first_row [] q = absurd (grind (arith))
first_row (a ∷ []) q = absurd (grind (arith))
first_row (a ∷ b ∷ []) q = absurd (grind (arith))
first_row (a ∷ b ∷ c ∷ []) q = absurd (grind (arith))
first_row (a ∷ b ∷ c ∷ d ∷ []) q = absurd (grind (arith))
first_row (a ∷ b ∷ c ∷ d ∷ e ∷ []) q = absurd (grind (arith))
first_row (a ∷ b ∷ c ∷ d ∷ e ∷ f ∷ []) q = absurd (grind (arith))
first_row (a ∷ b ∷ c ∷ d ∷ e ∷ f ∷ g ∷ []) q = absurd (grind (arith))
first_row (a ∷ b ∷ c ∷ d ∷ e ∷ f ∷ g ∷ h ∷ []) q = absurd (grind (arith))
first_row (a ∷ b ∷ c ∷ d ∷ e ∷ f ∷ g ∷ h ∷ i ∷ []) q = absurd (grind (arith))
first_row (a ∷ b ∷ c ∷ d ∷ e ∷ f ∷ g ∷ h ∷ i ∷ j ∷ []) q = absurd (grind (arith))
first_row (a ∷ b ∷ c ∷ d ∷ e ∷ f ∷ g ∷ h ∷ i ∷ j ∷ k ∷ []) q = absurd (grind (arith))
first_row (a ∷ b ∷ c ∷ d ∷ e ∷ f ∷ g ∷ h ∷ i ∷ j ∷ k ∷ l ∷ []) q = absurd (grind (arith))
first_row (a ∷ b ∷ c ∷ d ∷ e ∷ f ∷ g ∷ h ∷ i ∷ j ∷ k ∷ l ∷ m ∷ []) q = absurd (grind (arith))
first_row (a ∷ b ∷ c ∷ d ∷ e ∷ f ∷ g ∷ h ∷ i ∷ j ∷ k ∷ l ∷ m ∷ v ∷ []) q = absurd (grind (arith))
first_row (a ∷ b ∷ c ∷ d ∷ e ∷ f ∷ g ∷ h ∷ i ∷ j ∷ k ∷ l ∷ m ∷ v ∷ o ∷ []) q = absurd (grind (arith))
first_row (a ∷ b ∷ c ∷ d ∷ e ∷ f ∷ g ∷ h ∷ i ∷ j ∷ k ∷ l ∷ m ∷ v ∷ o ∷ p ∷ more) q = refl

later_row : (r : ℕ) (xs : List ℕ) → 16 ≤ length xs → get_or (cut_rows xs) (suc r) [] ≡ get_or (cut_rows (drop 16 xs)) r []
later_row r [] q = absurd (grind (arith))
later_row r (a ∷ []) q = absurd (grind (arith))
later_row r (a ∷ b ∷ []) q = absurd (grind (arith))
later_row r (a ∷ b ∷ c ∷ []) q = absurd (grind (arith))
later_row r (a ∷ b ∷ c ∷ d ∷ []) q = absurd (grind (arith))
later_row r (a ∷ b ∷ c ∷ d ∷ e ∷ []) q = absurd (grind (arith))
later_row r (a ∷ b ∷ c ∷ d ∷ e ∷ f ∷ []) q = absurd (grind (arith))
later_row r (a ∷ b ∷ c ∷ d ∷ e ∷ f ∷ g ∷ []) q = absurd (grind (arith))
later_row r (a ∷ b ∷ c ∷ d ∷ e ∷ f ∷ g ∷ h ∷ []) q = absurd (grind (arith))
later_row r (a ∷ b ∷ c ∷ d ∷ e ∷ f ∷ g ∷ h ∷ i ∷ []) q = absurd (grind (arith))
later_row r (a ∷ b ∷ c ∷ d ∷ e ∷ f ∷ g ∷ h ∷ i ∷ j ∷ []) q = absurd (grind (arith))
later_row r (a ∷ b ∷ c ∷ d ∷ e ∷ f ∷ g ∷ h ∷ i ∷ j ∷ k ∷ []) q = absurd (grind (arith))
later_row r (a ∷ b ∷ c ∷ d ∷ e ∷ f ∷ g ∷ h ∷ i ∷ j ∷ k ∷ l ∷ []) q = absurd (grind (arith))
later_row r (a ∷ b ∷ c ∷ d ∷ e ∷ f ∷ g ∷ h ∷ i ∷ j ∷ k ∷ l ∷ m ∷ []) q = absurd (grind (arith))
later_row r (a ∷ b ∷ c ∷ d ∷ e ∷ f ∷ g ∷ h ∷ i ∷ j ∷ k ∷ l ∷ m ∷ v ∷ []) q = absurd (grind (arith))
later_row r (a ∷ b ∷ c ∷ d ∷ e ∷ f ∷ g ∷ h ∷ i ∷ j ∷ k ∷ l ∷ m ∷ v ∷ o ∷ []) q = absurd (grind (arith))
later_row r (a ∷ b ∷ c ∷ d ∷ e ∷ f ∷ g ∷ h ∷ i ∷ j ∷ k ∷ l ∷ m ∷ v ∷ o ∷ p ∷ more) q = refl

long_plain : (a b l i : ℕ) → a ≡ b - i → b ≡ l - 16 → 16 ≤ a → 16 ≤ l
long_plain a b l i e f h = grind (arith)

long_enough : (i : ℕ) (xs : List ℕ) → 16 ≤ length (drop i (drop 16 xs)) → 16 ≤ length xs
long_enough i xs h = long_plain (length (drop i (drop 16 xs))) (length (drop 16 xs)) (length xs) i (length-drop i (drop 16 xs)) (length-drop 16 xs) h

row_in : (k j : ℕ) (xs : List ℕ) → j ≡ k * 16 → 16 ≤ length (drop j xs) → get_or (cut_rows xs) k [] ≡ take 16 (drop j xs)
row_in zero j xs e h =
    let none : j ≡ 0 = grind (arith) in
    first_row xs (subst (λ i. 16 ≤ length (drop i xs)) none h) ∙ ap (λ i. take 16 (drop i xs)) (sym none)
row_in (suc k) j xs e h =
    let next : j ≡ 16 + k * 16 = grind (arith) in
    let same : drop (k * 16) (drop 16 xs) ≡ drop j xs = drop_both 16 (k * 16) j xs next in
    let far : 16 ≤ length (drop (k * 16) (drop 16 xs)) = subst (λ z. 16 ≤ length z) (sym same) h in
    later_row k xs (long_enough (k * 16) xs far) ∙ row_in k (k * 16) (drop 16 xs) refl far ∙ ap (λ z. take 16 z) same

moved_at : (rs : List (List ℕ)) (ns : List ℕ) (ps : List (Symbol × Kind)) (k m : ℕ) (d : Moved) (p : Symbol × Kind) → slice_get ns k ≡ Some m → k < length ps →
    get_or (moved_each rs ns ps) k d ≡ moved_by (get_or rs m []) (get_or ps k p).0 (get_or ps k p).1
moved_at rs [] ps k m d p e h = absurd (cc)
moved_at rs (x ∷ ns) [] k m d p e h = absurd (grind (arith))
moved_at rs (x ∷ ns) (q ∷ ps) zero m d p e h = let same : x ≡ m = cc in ap (λ i. moved_by (get_or rs i []) q.0 q.1) same
moved_at rs (x ∷ ns) (q ∷ ps) (suc k) m d p e h = moved_at rs ns ps k m d p e (grind (arith))

pair_at_kind : (xs : List Kind) (s : Symbol) (i : ℕ) (p : Symbol × Kind) → i < length xs → get_or (map (pair_of s) xs) i p ≡ (s, get_or xs i kind.End)
pair_at_kind [] s i p h = absurd (grind (arith))
pair_at_kind (x ∷ xs) s zero p h = refl
pair_at_kind (x ∷ xs) s (suc i) p h = pair_at_kind xs s i p (grind (arith))

pair_at : (i : ℕ) (c : Kind) (p : Symbol × Kind) → i < 91 → get_or (flat_map pairs_of rows) (i * 81 + number c) p ≡ (get_or rows i (n g.text), c)
pair_at i c p h =
    rows_at pairs_of 81 (λ y. refl) rows i (number c) (i * 81 + number c) p (n g.text) h (small c) refl
    ∙ pair_at_kind all_kinds (get_or rows i (n g.text)) (number c) p (small c) ∙ ap (λ k. (get_or rows i (n g.text), k)) (kind_at c)

all_pairs : length (flat_map pairs_of rows) ≡ 7371
all_pairs = refl

inside : (i k m : ℕ) → i < 91 → k < 81 → m ≡ 7371 → i * 81 + k < m
inside i k m h l e = grind (arith)

chosen : (x : ℕ) (y z : Moved) → x ≢ 0 → (if x == 0 then no_moves else y) ≡ (if x == 0 then no_moves else z) → y ≡ z
chosen x y z h e =
    let f = not_same x 0 (x == 0) refl h in
    sym (ap (λ q. if q then no_moves else y) f) ∙ e ∙ ap (λ q. if q then no_moves else z) f

pub row_tells : (numbers table row : List ℕ) (i low high : ℕ) (c : Kind) → moved_by_rows numbers table ≡ told_by_rows numbers table → i < 91 →
    slice_get numbers ((i * 81 + number c) * 2) ≡ Some low → slice_get numbers (suc ((i * 81 + number c) * 2)) ≡ Some high →
    16 ≤ length (drop ((low + high * 256) * 16) table) → row ≡ take 16 (drop ((low + high * 256) * 16) table) → get_or row 7 0 ≢ 0 → Tells row (get_or rows i (n g.text)) c
row_tells numbers table row i low high c w h el eh lt er ne =
    let s = get_or rows i (n g.text) in
    let k = i * 81 + number c in
    let m = low + high * 256 in
    let rs = cut_rows table in
    let p : Symbol × Kind = (s, c) in
    let num = numbers_at numbers k (k * 2) low high refl el eh in
    let here : get_or rs m [] ≡ row = row_in m (m * 16) table refl lt ∙ sym er in
    let does : get_or (moved_by_rows numbers table) k no_moves ≡ moved_by row s c =
    moved_at rs (numbers_of numbers) (flat_map pairs_of rows) k m no_moves p num (inside i (number c) (length (flat_map pairs_of rows)) h (small c) all_pairs)
    ∙ ap (λ z. moved_by (get_or rs m []) z.0 z.1) (pair_at i c p h) ∙ ap (λ z. moved_by z s c) here in
    let says : get_or (told_by_rows numbers table) k no_moves ≡ told_by row =
    found (λ j. told_by (get_or rs j [])) (numbers_of numbers) k m no_moves num ∙ ap told_by here in
    chosen (get_or row 7 0) (moved (get_or row 7 0) c (s ∷ [])) (told row) ne (sym does ∙ ap (λ z. get_or z k no_moves) w ∙ says)

one_more : (x : ℕ) → suc x ≡ x + 1
one_more x = grind (arith)

pub numbered_row_tells : (numbers table row : List ℕ) (i k low high opens : ℕ) (c : Kind) → moved_by_rows numbers table ≡ told_by_rows numbers table → i < 91 → k ≡ number c →
    Some low ≡ slice_get numbers ((i * 81 + k) * 2) → Some high ≡ slice_get numbers ((i * 81 + k) * 2 + 1) →
    (16 ≤ length (drop ((low + high * 256) * 16) table)) × (row ≡ take 16 (drop ((low + high * 256) * 16) table)) → Some opens ≡ slice_get row 7 → opens ≢ 0 → Tells row (get_or rows i (n g.text)) c
numbered_row_tells numbers table row i k low high opens c w h same el eh er eo ne =
    row_tells numbers table row i low high c w h (ap (λ z. slice_get numbers ((i * 81 + z) * 2)) (sym same) ∙ sym el)
    (ap (λ z. slice_get numbers z) (one_more ((i * 81 + number c) * 2)) ∙ ap (λ z. slice_get numbers ((i * 81 + z) * 2 + 1)) (sym same) ∙ sym eh)
    er.0 er.1 (λ e. ne (byte_of row 7 opens eo ∙ e))
