-- Symbols and turns as bytes.
use Rattle.std.proofs.Common.{◌≡◌, ◌≢◌, ℕ, zero, suc, ◌+◌, ◌*◌, ◌-◌, ◌<◌, ◌≤◌, ◌==◌, length, List, [], ◌∷◌, ◌++◌, Bool, true, false, refl, sym, ap, subst, ◌∙◌, Option, None, Some, map, reverse, take, get_or, slice_get, option_map, flat_map, replicate, nat_lt, arith, zero-add, IfSome, take_all, if◌then◌else◌, MatchOption, option_to_list}
use Rattle.std.proofs.lemmas.List.{reverse-append, map-append, take_more, length-append, length-reverse, reverse-reverse}
use Rattle.std.proofs.lemmas.Option.{slice_get-map, slice_get_within, get_or_from_slice_get}
use Rattle.std.proofs.lemmas.Bool.Decides.{nat_tests}
use Rattle.std.proofs.Math.ListN.{get_or-append}
use Rattle.std.proofs.Math.Seq.{get_or-append-add}
use Rattle.ckc_parser_grammar.specs.declared.kind.Kind.{Kind}
use Rattle.ckc_parser_grammar.specs.declared.kind.Kind.TheVariants as kind
use Rattle.ckc_parser_grammar.specs.code.Fits.{number}
use Rattle.ckc_parser_grammar.specs.code.Grammar.{Symbol, t, n, one, Rule, right}
use Rattle.ckc_parser_grammar.specs.code.Grammar as g
use Rattle.ckc_parser_grammar.specs.code.Derives.{Sign}
use Rattle.ckc_parser_grammar.specs.code.Reading.{kind_of, Takes}
use Rattle.ckc_parser_grammar.specs.code.Reading as T
use Rattle.ckc_parser_grammar.specs.code.Values.{Value}
use Rattle.ckc_parser_grammar.specs.code.Trace.{Event, taken, opened, event, events, rule_of, all_rules}
use Rattle.ckc_parser_grammar.proofs.EveryKind.{kind_at}
use Rattle.ckc_parser_grammar.proofs.EveryRule.{rule_number, rule_at}
use Rattle.ckc_parser_grammar.proofs.Tables.{all, all_kind, and_true, same_number, is_number}
use Rattle.ckc_parser_trace.specs.code.Turns.{all_kinds, rows, symbol_of, turn, turn_of, turns_of, right_length, right_row}
use Rattle.ckc_parser_trace.specs.code.Runs.{symbols_on, Runs}
use Rattle.ckc_parser_trace.proofs.Running.{taken_move, opened_move}

pub on_top : (s : List ℕ) (b : ℕ) → symbols_on (s ++ b ∷ []) ≡ symbol_of b ∷ symbols_on s
on_top s b = ap (λ z. map symbol_of z) (reverse-append s (b ∷ []))

pub popped : (old new : List ℕ) (b : ℕ) → old ≡ new ++ b ∷ [] → symbols_on old ≡ symbol_of b ∷ symbols_on new
popped old new b e = ap symbols_on e ∙ on_top new b

pub popped_item : (old new : List ℕ) (len less : ℕ) (o : Option ℕ) → old ≡ new ++ option_to_list o → new ≡ take (len - 1) old → MatchOption o ((len ≡ 0) × (less ≡ 0)) (λ b. less + 1 ≡ len) →
    MatchOption o (symbols_on old ≡ []) (λ b. symbols_on old ≡ symbol_of b ∷ symbols_on new)
popped_item old new len less None e r h =
    let none : new ≡ [] = r ∙ ap (λ k. take (k - 1) old) h.0 in
    ap symbols_on (e ∙ ap (λ z. z ++ []) none)
popped_item old new len less (Some b) e r h = popped old new b e

-- tokens of one kind
pub same_one : (w : ℕ) (c : Kind) → w ≡ number c → turn_of 255 ≡ turn (t (one (get_or all_kinds w kind.End))) c
same_one w c e =
    let k : get_or all_kinds w kind.End ≡ c = ap (λ i. get_or all_kinds i kind.End) e ∙ kind_at c in
    ap (λ b. if b then Some taken else None) (sym (is_number c)) ∙ ap (λ d. turn (t (one d)) c) (sym k)

abbrev upto : ℕ → ℕ → List ℕ
upto k zero = []
upto k (suc m) = k ∷ upto (suc k) m

get_upto : (k m i d : ℕ) → i < m → get_or (upto k m) i d ≡ k + i
get_upto k zero i d h = absurd (grind (arith))
get_upto k (suc m) zero d h = grind (arith)
get_upto k (suc m) (suc i) d h = get_upto (suc k) m i d (grind (arith)) ∙ grind (arith)

get_map : (xs : List Kind) (i d : ℕ) (e : Kind) → i < length xs → get_or (map number xs) i d ≡ number (get_or xs i e)
get_map [] i d e h = absurd (grind (arith))
get_map (x ∷ xs) zero d e h = refl
get_map (x ∷ xs) (suc i) d e h = get_map xs i d e (grind (arith))

numbers : map number all_kinds ≡ upto 0 81
numbers = refl

number_at : (i : ℕ) → i < 81 → number (get_or all_kinds i kind.End) ≡ i
number_at i h = sym (get_map all_kinds i 0 kind.End h) ∙ ap (λ z. get_or z i 0) numbers ∙ get_upto 0 81 i 0 h ∙ zero-add i

pub not_same : (a b : ℕ) (x : Bool) → (a == b) ≡ x → a ≢ b → x ≡ false
not_same a b true e h = absurd (h (same_number a b e))
not_same a b false e h = refl

pub other_one : (w : ℕ) (c : Kind) → w < 81 → w ≢ number c → turn_of 254 ≡ turn (t (one (get_or all_kinds w kind.End))) c
other_one w c h ne =
    let k = get_or all_kinds w kind.End in
    ap (λ b. if b then Some taken else None) (sym (not_same (number k) (number c) (number k == number c) refl (λ e. ne (sym (number_at w h) ∙ e))))

-- the tables
pub rows_at : {X Y : Type 0} (f : Y → List X) (m : ℕ) → ((y : Y) → length (f y) ≡ m) → (ys : List Y) (i j k : ℕ) (d : X) (e : Y) → i < length ys → j < m → k ≡ i * m + j → get_or (flat_map f ys) k d ≡ get_or (f (get_or ys i e)) j d
rows_at f m each [] i j k d e h l w = absurd (grind (arith))
rows_at f m each (y ∷ ys) zero j k d e h l w =
    let same : k ≡ j = grind (arith) in
    ap (λ q. get_or (f y ++ flat_map f ys) q d) same ∙ get_or-append (f y) (flat_map f ys) d j (subst (λ q. j < q) (sym (each y)) l)
rows_at f m each (y ∷ ys) (suc i) j k d e h l w =
    let more = i * m + j in
    let grown : k ≡ length (f y) + more = w ∙ past i m j ∙ ap (λ q. q + more) (sym (each y)) in
    ap (λ q. get_or (f y ++ flat_map f ys) q d) grown ∙ get_or-append-add (f y) (flat_map f ys) more d ∙ rows_at f m each ys i j more d e (grind (arith)) l refl
  where
    past : (i m j : ℕ) → suc i * m + j ≡ m + (i * m + j)
    past i m j = grind (arith)

pub found : {X : Type 0} (g : ℕ → X) (table : List ℕ) (k b : ℕ) (d : X) → slice_get table k ≡ Some b → get_or (map g table) k d ≡ g b
found g table k b d e = get_or_from_slice_get (map g table) k (g b) d (slice_get-map g table k ∙ ap (λ o. option_map g o) e)

pub small : (c : Kind) → number c < 81
small c = arith_of (number c) (all_kind (λ k. nat_lt (number k) 81) refl c)
  where
    arith_of : (i : ℕ) → nat_lt i 81 ≡ true → i < 81
    arith_of i e = grind (arith, nat_tests)

turn_at_kind : (xs : List Kind) (s : Symbol) (i : ℕ) (d : Option Event) (e : Kind) → i < length xs → get_or (map (turn s) xs) i d ≡ turn s (get_or xs i e)
turn_at_kind [] s i d e h = absurd (grind (arith))
turn_at_kind (x ∷ xs) s zero d e h = refl
turn_at_kind (x ∷ xs) s (suc i) d e h = turn_at_kind xs s i d e (grind (arith))

pub row_turn : (table : List ℕ) (row : ℕ) (c : Kind) (b : ℕ) → map turn_of table ≡ flat_map turns_of rows → row < 91 → slice_get table (row * 81 + number c) ≡ Some b → turn_of b ≡ turn (get_or rows row (n g.text)) c
row_turn table row c b w h e =
    let s = get_or rows row (n g.text) in
    sym (found turn_of table (row * 81 + number c) b None e) ∙ ap (λ z. get_or z (row * 81 + number c) None) w
    ∙ rows_at turns_of 81 (λ y. refl) rows row (number c) (row * 81 + number c) None (n g.text) h (small c) refl
    ∙ turn_at_kind all_kinds s (number c) None kind.End (small c) ∙ ap (λ q. turn s q) (kind_at c)

under : (b : ℕ) → b < 91 → nat_lt b 91 ≡ true
under b h = grind (arith, nat_tests)

over : (b : ℕ) → 91 ≤ b → nat_lt b 91 ≡ false
over b h = grind (arith, nat_tests)

pub low : (b : ℕ) (c : Kind) → b < 91 → turn (symbol_of b) c ≡ turn (get_or rows b (n g.text)) c
low b c h = ap (λ q. turn (if q then get_or rows b (n g.text) else t (one (get_or all_kinds (b - 91) kind.End))) c) (under b h)

pub high : (b : ℕ) (c : Kind) → 91 ≤ b → turn (symbol_of b) c ≡ turn (t (one (get_or all_kinds (b - 91) kind.End))) c
high b c h = ap (λ q. turn (if q then get_or rows b (n g.text) else t (one (get_or all_kinds (b - 91) kind.End))) c) (over b h)

-- what a production is made of
at_or : (f : Rule → Bool) (xs : List Rule) (i : ℕ) (d : Rule) → all f xs ≡ true → f d ≡ true → f (get_or xs i d) ≡ true
at_or f [] i d e h = h
at_or f (x ∷ xs) zero d e h = (and_true (f x) (all f xs) e).0
at_or f (x ∷ xs) (suc i) d e h = at_or f xs i d (and_true (f x) (all f xs) e).1 h

pub all_rule : (f : Rule → Bool) → all f all_rules ≡ true → (r : Rule) → f r ≡ true
all_rule f e r = subst (λ q. f q ≡ true) (rule_at r) (at_or f all_rules (rule_number r) g.Text e (and_true _ _ e).0)

ten : (r : Rule) → length (right_row r) ≡ 10
ten r = same_number (length (right_row r)) 10 (all_rule (λ q. length (right_row q) == 10) refl r)

event_of : (b : ℕ) → b ≢ 254 → b ≢ 255 → turn_of b ≡ Some (opened (rule_of b))
event_of b e f =
    ap (λ q. if q then None else Some (event b)) (not_same b 254 (b == 254) refl e) ∙ ap (λ q. Some (if q then taken else opened (rule_of b))) (not_same b 255 (b == 255) refl f)

pub events_more : (trace : List ℕ) (b : ℕ) → events (trace ++ b ∷ []) ≡ events trace ++ event b ∷ []
events_more trace b = map-append event trace (b ∷ [])

pub reads : (s : Symbol) (ss : List Symbol) (x : Sign) (a b : List Sign) (was trace : List ℕ) → turn_of 255 ≡ turn s (kind_of a) → a ≡ x ∷ b → trace ≡ was ++ 255 ∷ [] →
    (old : List Sign) → Runs old (s ∷ ss) a (events was) → Runs old ss b (events trace)
reads s ss x a b was trace e h w old q =
    let here : turn s x.kind ≡ Some taken = sym (e ∙ ap (λ z. turn s (kind_of z)) h) in
    subst (λ z. Runs old ss b z) (sym (ap events w ∙ events_more was 255)) (taken_move old s ss x b (events was) (subst (λ z. Runs old (s ∷ ss) z (events was)) h q) here)

pub opens : (s : Symbol) (ss ts : List Symbol) (a : List Sign) (was trace : List ℕ) (b : ℕ) → turn_of b ≡ turn s (kind_of a) → b ≢ 254 → b ≢ 255 → trace ≡ was ++ b ∷ [] → ts ≡ right (rule_of b) ++ ss →
    (old : List Sign) → Runs old (s ∷ ss) a (events was) → Runs old ts a (events trace)
opens s ss ts a was trace b e no_none no_token w stack old q =
    let ev = event_of b no_none no_token in
    let moved : Runs old (right (rule_of b) ++ ss) a (events was ++ opened (rule_of b) ∷ []) = opened_move old s ss a (events was) (rule_of b) q (sym e ∙ ev) in
    let same : events trace ≡ events was ++ opened (rule_of b) ∷ [] =
    ap events w ∙ events_more was b ∙ ap (λ z. events was ++ z ∷ []) (ap (λ q. if q then taken else opened (rule_of b)) (not_same b 255 (b == 255) refl no_token)) in
    subst (λ z. Runs old z a (events trace)) (sym stack) (subst (λ z. Runs old (right (rule_of b) ++ ss) a z) (sym same) moved)

pub below_plain : (k a b : ℕ) → k < a → a + b ≡ 10 → k < 10
below_plain k a b h e = grind (arith)

length_there : (f : Rule → ℕ) (rs : List Rule) (i m : ℕ) (d : Rule) → slice_get (map f rs) i ≡ Some m → m ≡ f (get_or rs i d)
length_there f [] i m d e = absurd (cc)
length_there f (r ∷ rs) zero m d e = cc
length_there f (r ∷ rs) (suc i) m d e = length_there f rs i m d e

pub length_is : (f : Rule → ℕ) (lengths : List ℕ) (rule size : ℕ) → lengths ≡ map f all_rules → Some size ≡ slice_get lengths rule → size ≡ f (rule_of rule)
length_is f lengths rule size w e = length_there f all_rules rule size g.Text (sym (e ∙ ap (λ z. slice_get z rule) w))

pub within : (f : Rule → ℕ) (lengths : List ℕ) (i m : ℕ) → lengths ≡ map f all_rules → Some m ≡ slice_get lengths i → i < length all_rules
within f lengths i m w e = slice_get_within (map f all_rules) i m (sym (e ∙ ap (λ z. slice_get z i) w))

below : (k : ℕ) (xs ys : List Symbol) → k < length xs → length (xs ++ ys) ≡ 10 → k < 10
below k xs ys h e = let both = sym (length-append xs ys) ∙ e in below_plain k (length xs) (length ys) h both

-- the next symbol of a production
byte_is : (lengths rights : List ℕ) (rule size k b : ℕ) → lengths ≡ map right_length all_rules → map symbol_of rights ≡ flat_map right_row all_rules →
    Some size ≡ slice_get lengths rule → k < size → Some b ≡ slice_get rights (rule * 10 + k) →
    (k < length (reverse (right (rule_of rule)))) × (symbol_of b ≡ get_or (reverse (right (rule_of rule))) k (n g.text))
byte_is lengths rights rule size k b wl wr el h e =
    let r = rule_of rule in
    let there : rule < length all_rules = within right_length lengths rule size wl el in
    let short : k < length (reverse (right r)) = subst (λ q. k < q) (length_is right_length lengths rule size wl el ∙ sym (length-reverse (right r))) h in (
      short,
      sym (found symbol_of rights (rule * 10 + k) b (n g.text) (sym e)) ∙ ap (λ z. get_or z (rule * 10 + k) (n g.text)) wr
          ∙ rows_at right_row 10 ten all_rules rule k (rule * 10 + k) (n g.text) g.Text there (below k (reverse (right r)) (replicate (10 - right_length r) (n g.text)) short (ten r)) refl
          ∙ get_or-append (reverse (right r)) (replicate (10 - right_length r) (n g.text)) (n g.text) k short,
    )

pub misses : (s : Symbol) (c : Kind) → turn_of 254 ≡ turn s c → turn s c ≡ None
misses s c e = sym e

-- one token is taken
pub one_taken : (c : Kind) (a b : List Sign) (v : Value) → Takes (t (one c) ∷ []) a (v ∷ []) b → (x : Sign) × (a ≡ x ∷ b)
one_taken c a b v (T.read {x = x} f (T.done e)) = (x, ap (λ z. x ∷ z) e)

-- the next symbol of a production
pub one_more : (stack : List ℕ) (b : ℕ) (row below : List Symbol) (k : ℕ) → k < length row → symbol_of b ≡ get_or row k (n g.text) →
    symbols_on stack ≡ reverse (take k row) ++ below → symbols_on (stack ++ b ∷ []) ≡ reverse (take (k + 1) row) ++ below
one_more stack b row below k h e w =
    on_top stack b ∙ ap (λ z. z ∷ symbols_on stack) e ∙ ap (λ z. get_or row k (n g.text) ∷ z) w
    ∙ ap (λ z. z ++ below) (sym (reverse-append (take k row) (get_or row k (n g.text) ∷ [])) ∙ ap reverse (sym (take_more row k (n g.text) h)))

pub next_symbol : (lengths rights : List ℕ) (rule size k b : ℕ) (stack : List ℕ) (rest : List Symbol) → lengths ≡ map right_length all_rules → map symbol_of rights ≡ flat_map right_row all_rules →
    Some size ≡ slice_get lengths rule → k < size → Some b ≡ slice_get rights (rule * 10 + k) →
    symbols_on stack ≡ reverse (take k (reverse (right (rule_of rule)))) ++ rest → symbols_on (stack ++ b ∷ []) ≡ reverse (take (k + 1) (reverse (right (rule_of rule)))) ++ rest
next_symbol lengths rights rule size k b stack rest wl wr el h e w =
    let q = byte_is lengths rights rule size k b wl wr el h e in
    one_more stack b (reverse (right (rule_of rule))) rest k q.0 q.1 w

pub all_symbols : (lengths : List ℕ) (rule size k : ℕ) (stack : List ℕ) (rest : List Symbol) → lengths ≡ map right_length all_rules → Some size ≡ slice_get lengths rule → size ≤ k →
    symbols_on stack ≡ reverse (take k (reverse (right (rule_of rule)))) ++ rest → symbols_on stack ≡ right (rule_of rule) ++ rest
all_symbols lengths rule size k stack rest wl el h w =
    let r = rule_of rule in
    let far : length (reverse (right r)) ≤ k = subst (λ q. q ≤ k) (length_is right_length lengths rule size wl el ∙ sym (length-reverse (right r))) h in
    w ∙ ap (λ z. reverse z ++ rest) (take_all k (reverse (right r)) far) ∙ ap (λ z. z ++ rest) (reverse-reverse (right r))

pub row_turn_of : (table : List ℕ) (row k : ℕ) (c : Kind) (o : Option ℕ) → map turn_of table ≡ flat_map turns_of rows → row < 91 → k ≡ number c → o ≡ slice_get table (row * 81 + k) →
    IfSome o (λ b. turn_of b ≡ turn (get_or rows row (n g.text)) c)
row_turn_of table row k c None w h same e = tt
row_turn_of table row k c (Some b) w h same e = row_turn table row c b w h (sym (e ∙ ap (λ q. slice_get table (row * 81 + q)) same))
