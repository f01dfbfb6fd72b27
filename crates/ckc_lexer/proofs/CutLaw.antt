-- Reading a text forward and cutting it at once give the same, and one thing.
use Rattle.std.proofs.Common.{◌≡◌, ℕ, Bool, true, false, ◌||◌, List, [], ◌∷◌, ◌++◌, length, take, drop, Ok, Err, sym, refl, ap, ◌∙◌, subst, arith, append-nil, append_assoc, length-append, length-take-le, take-append-drop}
use Rattle.std.specs.List.{list_any}
use Rattle.std.proofs.lemmas.List.{take_at, drop_at}
use Rattle.std.proofs.lemmas.Grind.{flat_map-append}
use Rattle.std.proofs.lemmas.Bool.{false≢true, or_parts}
use Rattle.ckc_base.specs.declared.places.Refusal.{Refusal}
use Rattle.ckc_syntax.specs.declared.tokens.TokenKind.{TokenKind}
use Rattle.ckc_lexer.specs.declared.items.Item.{Item}
use Rattle.ckc_lexer.specs.declared.items.Item.TheVariants.{Gap, Token, Broken}
use Rattle.ckc_lexer.specs.declared.items.Context.{Context}
use Rattle.ckc_lexer.specs.declared.items.Here.{Here}
use Rattle.ckc_syntax.specs.Longest.{Longest}
use Rattle.ckc_lexer.specs.Places.{place_after}
use Rattle.ckc_lexer.specs.code.Reading.{moved}
use Rattle.ckc_lexer.specs.Spelling.{Spells}
use Rattle.ckc_syntax.specs.Spelled.{Spelled}
use Rattle.ckc_lexer.specs.Cut.{Part, joined, is_stdchecked, context_after, IsPart, IsCut, token_at, tokens_from, is_broken, AreWhole, Lexes, FirstBroken}
use Rattle.ckc_base.specs.Outcomes.{Outcome}
use Rattle.ckc_base.proofs.Turns.{ahead, begin}
use Rattle.ckc_lexer.specs.code.Reading.{context_at, pos_at, Reads, ends, breaks, skips, takes, start}
use Rattle.ckc_syntax.proofs.Fronts.{longest_once}
use Rattle.ckc_lexer.proofs.OneItem.{one_item, not_empty}
use Rattle.ckc_lexer.proofs.PlaceLaw.{here_of, from_start, here_append}

-- ---- a part is a longest front

part_longest : (context : Context) (before : List Part) (part : Part) (rest : List ℕ) → context ≡ context_after before → IsPart before part rest → Longest (Spells context) (part.bytes ++ rest) (length part.bytes) part.item
part_longest context before part rest e p =
    let size = length-append part.bytes rest in
    record {
      some = not_empty (context_after before) part.bytes part.item p.spells;
      within = omega arith;
      spelled = subst (λ c. Spells c (take (length part.bytes) (part.bytes ++ rest)) part.item) (sym e) (subst (λ w. Spells (context_after before) w part.item) (sym (take_at part.bytes rest (length part.bytes) refl)) p.spells);
      longest = λ m other lt le s. p.longest (take m (part.bytes ++ rest)) (drop m (part.bytes ++ rest)) other (sym (take-append-drop m (part.bytes ++ rest))) (let e = length-take-le m (part.bytes ++ rest) le in omega arith) (subst (λ c. Spells c (take m (part.bytes ++ rest)) other) e s);
    }

longest_part : (context : Context) (before : List Part) (text : List ℕ) (n : ℕ) (item : Item) → context ≡ context_after before → Longest (Spells context) text n item → IsPart before (record { bytes = take n text; item = item }) (drop n text)
longest_part context before text n item e l = record {
  spells = subst (λ c. Spells c (take n text) item) e l.spelled;
  longest = λ front more other whole lt s.
      let size = length-take-le n text l.within in
      let all : text ≡ front ++ more = sym (take-append-drop n text) ∙ whole in
      let parts = length-append front more in
      let sizes = ap length all in
      l.longest (length front) other (omega arith) (omega arith)
      (subst (λ w. Spells context w other) (sym (ap (take (length front)) all ∙ take_at front more (length front) refl)) (subst (λ c. Spells c front other) (sym e) s));
}

-- ---- a chain of parts

-- the text is these parts after those before it, and a rest
abbrev Chain : List Part → List ℕ → List Part → List ℕ → Type 0
Chain before text [] rest = text ≡ rest
Chain before text (part ∷ parts) rest = (tail : List ℕ) × (text ≡ part.bytes ++ tail) × IsPart before part tail × Chain (before ++ part ∷ []) tail parts rest

chain_whole : (before : List Part) (text : List ℕ) (parts : List Part) (rest : List ℕ) → Chain before text parts rest → text ≡ joined parts ++ rest
chain_whole before text [] rest c = c
chain_whole before text (part ∷ parts) rest c = c.1 ∙ (ap (λ t. part.bytes ++ t) (chain_whole (before ++ part ∷ []) c.0 parts rest c.3) ∙ sym (append_assoc part.bytes (joined parts) rest))

cons_parts : (a b : Part) (ps qs : List Part) → a ∷ ps ≡ b ∷ qs → (a ≡ b) × (ps ≡ qs)
cons_parts a b ps qs e = (cc, cc)

no_parts : (b : List Part) (p : Part) (a : List Part) → [] ≡ b ++ p ∷ a → ⊥
no_parts [] p a e = cc
no_parts (x ∷ b) p a e = cc

chain_each : (before : List Part) (text : List ℕ) (parts : List Part) (rest : List ℕ) → Chain before text parts rest → (b : List Part) (p : Part) (a : List Part) → parts ≡ b ++ p ∷ a → IsPart (before ++ b) p (joined a ++ rest)
chain_each before text [] rest c b p a e = absurd (no_parts b p a e)
chain_each before text (q ∷ qs) rest c [] p a e =
    let k = cons_parts q p qs a e in
    subst (λ t. IsPart (before ++ []) p t) (chain_whole (before ++ q ∷ []) c.0 qs rest c.3 ∙ ap (λ l. joined l ++ rest) k.1)
    (subst (λ l. IsPart l p c.0) (sym (append-nil before)) (subst (λ x. IsPart before x c.0) k.0 c.2))
chain_each before text (q ∷ qs) rest c (x ∷ b) p a e =
    let k = cons_parts q x qs (b ++ p ∷ a) e in
    subst (λ l. IsPart l p (joined a ++ rest)) (append_assoc before (q ∷ []) b ∙ ap (λ y. before ++ y ∷ b) k.0)
    (chain_each (before ++ q ∷ []) c.0 qs rest c.3 b p a k.1)

each_chain : (before : List Part) (text : List ℕ) (parts : List Part) (rest : List ℕ) → text ≡ joined parts ++ rest → ((b : List Part) (p : Part) (a : List Part) → parts ≡ b ++ p ∷ a → IsPart (before ++ b) p (joined a ++ rest)) → Chain before text parts rest
each_chain before text [] rest whole each = whole
each_chain before text (part ∷ parts) rest whole each = (
  joined parts ++ rest,
  whole ∙ append_assoc part.bytes (joined parts) rest,
  subst (λ l. IsPart l part (joined parts ++ rest)) (append-nil before) (each [] part parts refl),
  each_chain (before ++ part ∷ []) (joined parts ++ rest) parts rest refl
      (λ b p a e. subst (λ l. IsPart l p (joined a ++ rest)) (sym (append_assoc before (part ∷ []) b)) (each (part ∷ b) p a (ap (λ l. part ∷ l) e))),
)

cut_chain : (text : List ℕ) (parts : List Part) (rest : List ℕ) → IsCut text parts rest → Chain [] text parts rest
cut_chain text parts rest c = each_chain [] text parts rest c.whole (λ b p a e. c.each b p a e)

chain_cut : (text : List ℕ) (parts : List Part) (rest : List ℕ) → Chain [] text parts rest → IsCut text parts rest
chain_cut text parts rest c = record { whole = chain_whole [] text parts rest c; each = λ b p a e. chain_each [] text parts rest c b p a e }

-- ---- what the parts before a place decide

or_false : (b : Bool) → (b || false) ≡ b
or_false true = refl
or_false false = refl

or_assoc : (a b c : Bool) → (a || (b || c)) ≡ ((a || b) || c)
or_assoc true b c = refl
or_assoc false b c = refl

abbrev has_checked : List Part → Bool
has_checked before = list_any (λ part. is_stdchecked part.item) before

any_push : (before : List Part) (part : Part) → has_checked (before ++ part ∷ []) ≡ (has_checked before || is_stdchecked part.item)
any_push [] part = or_false (is_stdchecked part.item)
any_push (p ∷ before) part = ap (λ t. is_stdchecked p.item || t) (any_push before part) ∙ or_assoc (is_stdchecked p.item) (has_checked before) (is_stdchecked part.item)

joined_push : (before : List Part) (part : Part) → joined (before ++ part ∷ []) ≡ joined before ++ part.bytes
joined_push before part = flat_map-append (λ (p : Part). p.bytes) before (part ∷ []) ∙ ap (λ w. joined before ++ w) (append-nil part.bytes)

-- the state of a reading after these parts
record IsBehind (before : List Part) (here : Here) (checked : Bool) : Type 0 where
  place : here ≡ here_of (joined before)
  said : checked ≡ has_checked before

behind_context : (before : List Part) (here : Here) (checked : Bool) → IsBehind before here checked → context_at here checked ≡ context_after before
unfolding here_of
behind_context before here checked b = λ j. context_at (b.place j) (b.said j)

behind_pos : (before : List Part) (here : Here) (checked : Bool) → IsBehind before here checked → pos_at here ≡ place_after (joined before)
unfolding here_of
behind_pos before here checked b = ap pos_at b.place

behind_push : (before : List Part) (here : Here) (checked : Bool) (part : Part) → IsBehind before here checked → IsBehind (before ++ part ∷ []) (moved here part.bytes) (checked || is_stdchecked part.item)
behind_push before here checked part b = record {
  place = ap (λ h. moved h part.bytes) b.place ∙ (here_append (joined before) part.bytes ∙ ap here_of (sym (joined_push before part)));
  said = ap (λ t. t || is_stdchecked part.item) b.said ∙ sym (any_push before part);
}

behind_gap : (before : List Part) (here : Here) (checked : Bool) (w : List ℕ) → IsBehind before here checked → IsBehind (before ++ record { bytes = w; item = Gap } ∷ []) (moved here w) checked
behind_gap before here checked w b = let k = behind_push before here checked (record { bytes = w; item = Gap }) b in record { place = k.place; said = sym (or_false checked) ∙ k.said }

behind_none : IsBehind [] start false
behind_none = record { place = from_start []; said = refl }

whole_cons : (part : Part) (parts : List Part) → AreWhole (part ∷ parts) → (is_broken part.item ≡ false) × AreWhole parts
whole_cons part parts h = or_parts (is_broken part.item) (list_any (λ p. is_broken p.item) parts) h

-- ---- what is read is a cut

-- the tokens or the fault of a chain of parts
abbrev Result_of : List Part → List ℕ → Outcome (List Spelled) → Type 0
Result_of before text (Ok found) = (parts : List Part) × Chain before text parts [] × AreWhole parts × (found ≡ tokens_from (joined before) parts)
Result_of before text (Err fault) = (parts : List Part) × (part : Part) × (rest : List ℕ) × Chain before text (parts ++ part ∷ []) rest × AreWhole parts × (part.item ≡ Broken fault.code) × (fault.pos ≡ place_after (joined (before ++ parts)))

read_result : {here : Here} {checked : Bool} {text : List ℕ} {outcome : Outcome (List Spelled)} → Reads here checked text outcome → (before : List Part) → IsBehind before here checked → Result_of before text outcome
read_result ends before b = ([], refl, refl, refl)
read_result {here} {checked} {text} (breaks {n = n} {code = code} l) before b = (
  [],
  record { bytes = take n text; item = Broken code },
  drop n text,
  (drop n text, sym (take-append-drop n text), longest_part (context_at here checked) before text n (Broken code) (behind_context before here checked b) l, refl),
  refl,
  refl,
  behind_pos before here checked b ∙ ap (λ l. place_after (joined l)) (sym (append-nil before)),
)
read_result {here} {checked} {text} {outcome} (skips {n = n} l r) before b =
    let part : Part = record { bytes = take n text; item = Gap } in
    after_gap n outcome (longest_part (context_at here checked) before text n Gap (behind_context before here checked b) l) (read_result r (before ++ part ∷ []) (behind_gap before here checked (take n text) b))
  where
    after_gap : (n : ℕ) (o : Outcome (List Spelled)) → IsPart before (record { bytes = take n text; item = Gap }) (drop n text) → Result_of (before ++ record { bytes = take n text; item = Gap } ∷ []) (drop n text) o → Result_of before text o
    after_gap n (Ok found) p k =
        let part : Part = record { bytes = take n text; item = Gap } in
        (part ∷ k.0, (drop n text, sym (take-append-drop n text), p, k.1), k.2, k.3 ∙ ap (λ w. tokens_from w k.0) (joined_push before part))
    after_gap n (Err fault) p k =
        let part : Part = record { bytes = take n text; item = Gap } in
        (part ∷ k.0, k.1, k.2, (drop n text, sym (take-append-drop n text), p, k.3), k.4, k.5, k.6 ∙ ap (λ l. place_after (joined l)) (append_assoc before (part ∷ []) k.0))
read_result {here} {checked} {text} {outcome} (takes {n = n} {kind = kind} {rest = rest} l r e) before b =
    let part : Part = record { bytes = take n text; item = Token kind } in
    subst (Result_of before text) (sym (e ∙ ap (λ p. ahead (record { kind = kind; text = take n text; pos = p } ∷ []) rest) (behind_pos before here checked b)))
    (after_token rest (longest_part (context_at here checked) before text n (Token kind) (behind_context before here checked b) l) (read_result r (before ++ part ∷ []) (behind_push before here checked part b)))
  where
    after_token : (o : Outcome (List Spelled)) → IsPart before (record { bytes = take n text; item = Token kind }) (drop n text) → Result_of (before ++ record { bytes = take n text; item = Token kind } ∷ []) (drop n text) o → Result_of before text (ahead (record { kind = kind; text = take n text; pos = place_after (joined before) } ∷ []) o)
    after_token (Ok found) p k =
        let part : Part = record { bytes = take n text; item = Token kind } in
        (part ∷ k.0, (drop n text, sym (take-append-drop n text), p, k.1), k.2, ap (λ ts. record { kind = kind; text = take n text; pos = place_after (joined before) } ∷ ts) (k.3 ∙ ap (λ w. tokens_from w k.0) (joined_push before part)))
    after_token (Err fault) p k =
        let part : Part = record { bytes = take n text; item = Token kind } in
        (part ∷ k.0, k.1, k.2, (drop n text, sym (take-append-drop n text), p, k.3), k.4, k.5, k.6 ∙ ap (λ l. place_after (joined l)) (append_assoc before (part ∷ []) k.0))

pub read_lexes : (text : List ℕ) (found : List Spelled) → Reads start false text (Ok found) → Lexes text found
read_lexes text found r = let k = read_result r [] behind_none in record { parts = k.0; cut = chain_cut text k.0 [] k.1; whole = k.2; tokens_are = k.3 }

pub read_fault : (text : List ℕ) (fault : Refusal) → Reads start false text (Err fault) → FirstBroken text fault
read_fault text fault r = let k = read_result r [] behind_none in record { before = k.0; part = k.1; rest = k.2; cut = chain_cut text (k.0 ++ k.1 ∷ []) k.2 k.3; whole = k.4; broken = k.5; place = k.6 }

-- ---- a cut is what is read

chain_step : (before : List Part) (text bytes tail : List ℕ) (item : Item) (outcome : Outcome (List Spelled)) → text ≡ bytes ++ tail → IsPart before (record { bytes = bytes; item = item }) tail → is_broken item ≡ false → (here : Here) (checked : Bool) → IsBehind before here checked → ((there : Here) (said : Bool) → IsBehind (before ++ record { bytes = bytes; item = item } ∷ []) there said → Reads there said tail outcome) → Reads here checked text (ahead (token_at (joined before) bytes item) outcome)
chain_step before text bytes tail Gap outcome e p w here checked b more =
    let l = part_longest (context_at here checked) before (record { bytes = bytes; item = Gap }) tail (behind_context before here checked b) p in
    let r = more (moved here bytes) checked (behind_gap before here checked bytes b) in
    let front = sym (take_at bytes tail (length bytes) refl) in
    let behind = sym (drop_at bytes tail (length bytes) refl) in
    subst (λ t. Reads here checked t (ahead [] outcome)) (sym e) (subst (λ o. Reads here checked (bytes ++ tail) o) (begin outcome [] refl)
    (skips l (subst (λ T. T) (λ j. Reads (moved here (front j)) checked (behind j) outcome) r)))
chain_step before text bytes tail (Token kind) outcome e p w here checked b more =
    let l = part_longest (context_at here checked) before (record { bytes = bytes; item = Token kind }) tail (behind_context before here checked b) p in
    let r = more (moved here bytes) (checked || is_stdchecked (Token kind)) (behind_push before here checked (record { bytes = bytes; item = Token kind }) b) in
    let front = sym (take_at bytes tail (length bytes) refl) in
    let behind = sym (drop_at bytes tail (length bytes) refl) in
    let place = sym (behind_pos before here checked b) in
    subst (λ t. Reads here checked t (ahead (token_at (joined before) bytes (Token kind)) outcome)) (sym e)
    (takes l (subst (λ T. T) (λ j. Reads (moved here (front j)) (checked || is_stdchecked (Token kind)) (behind j) outcome) r)
    (λ j. ahead (record { kind = kind; text = front j; pos = place j } ∷ []) outcome))
chain_step before text bytes tail (Broken code) outcome e p w here checked b more = absurd (false≢true (sym w))

chain_reads : (before : List Part) (text : List ℕ) (parts : List Part) → Chain before text parts [] → AreWhole parts → (here : Here) (checked : Bool) → IsBehind before here checked → Reads here checked text (Ok (tokens_from (joined before) parts))
chain_reads before text [] c w here checked b = subst (λ t. Reads here checked t (Ok [])) (sym c) ends
chain_reads before text (part ∷ parts) c w here checked b =
    let whole = whole_cons part parts w in
    chain_step before text part.bytes c.0 part.item (Ok (tokens_from (joined before ++ part.bytes) parts)) c.1 c.2 whole.0 here checked b
    (λ there said k. subst (λ v. Reads there said c.0 (Ok (tokens_from v parts))) (joined_push before part) (chain_reads (before ++ part ∷ []) c.0 parts c.3 whole.1 there said k))

chain_fault : (before : List Part) (text : List ℕ) (parts : List Part) (part : Part) (rest : List ℕ) (fault : Refusal) → Chain before text (parts ++ part ∷ []) rest → AreWhole parts → part.item ≡ Broken fault.code → fault.pos ≡ place_after (joined (before ++ parts)) → (here : Here) (checked : Bool) → IsBehind before here checked → Reads here checked text (Err fault)
chain_fault before text [] part rest fault c w broken place here checked b =
    let l = part_longest (context_at here checked) before part c.0 (behind_context before here checked b) c.2 in
    let l' = subst (λ i. Longest (Spells (context_at here checked)) (part.bytes ++ c.0) (length part.bytes) i) broken l in
    let at : pos_at here ≡ fault.pos = behind_pos before here checked b ∙ sym (place ∙ ap (λ l. place_after (joined l)) (append-nil before)) in
    subst (λ t. Reads here checked t (Err fault)) (sym c.1) (subst (Reads here checked (part.bytes ++ c.0)) (λ j. Err (record { code = fault.code; pos = at j })) (breaks l'))
chain_fault before text (p ∷ ps) part rest fault c w broken place here checked b =
    let whole = whole_cons p ps w in
    chain_step before text p.bytes c.0 p.item (Err fault) c.1 c.2 whole.0 here checked b
    (λ there said k. chain_fault (before ++ p ∷ []) c.0 ps part rest fault c.3 whole.1 broken (place ∙ ap (λ l. place_after (joined l)) (sym (append_assoc before (p ∷ []) ps))) there said k)

pub lexes_read : (text : List ℕ) (found : List Spelled) → Lexes text found → Reads start false text (Ok found)
lexes_read text found l = subst (λ ts. Reads start false text (Ok ts)) (sym l.tokens_are) (chain_reads [] text l.parts (cut_chain text l.parts [] l.cut) l.whole start false behind_none)

pub fault_read : (text : List ℕ) (fault : Refusal) → FirstBroken text fault → Reads start false text (Err fault)
fault_read text fault f = chain_fault [] text f.before f.part f.rest fault (cut_chain text (f.before ++ f.part ∷ []) f.rest f.cut) f.whole f.broken f.place start false behind_none

-- ---- a text is read in one way

same_front : (context : Context) {text : List ℕ} {n m : ℕ} {i j : Item} → Longest (Spells context) text n i → Longest (Spells context) text m j → (n ≡ m) × (i ≡ j)
same_front context l k = longest_once (one_item context) l k

none_left : (context : Context) {n : ℕ} {i : Item} → Longest (Spells context) [] n i → ⊥
none_left context l = omega (arith, l.some, l.within)

gap_token : (k : TokenKind) → Gap ≡ Token k → ⊥
gap_token k e = cc

gap_broken : (c : ℕ) → Gap ≡ Broken c → ⊥
gap_broken c e = cc

token_broken : (k : TokenKind) (c : ℕ) → Token k ≡ Broken c → ⊥
token_broken k c e = cc

same_code : (c d : ℕ) → Broken c ≡ Broken d → c ≡ d
same_code c d e = cc

same_kind : (k l : TokenKind) → Token k ≡ Token l → k ≡ l
same_kind k l e = cc

pub reads_once : {here : Here} {checked : Bool} {text : List ℕ} {o p : Outcome (List Spelled)} → Reads here checked text o → Reads here checked text p → o ≡ p
reads_once {here} {checked} ends ends = refl
reads_once {here} {checked} ends (breaks l) = absurd (none_left (context_at here checked) l)
reads_once {here} {checked} ends (skips l r) = absurd (none_left (context_at here checked) l)
reads_once {here} {checked} ends (takes l r e) = absurd (none_left (context_at here checked) l)
reads_once {here} {checked} (breaks l) ends = absurd (none_left (context_at here checked) l)
reads_once {here} {checked} (breaks {code = c} l) (breaks {code = d} l') = let k = same_code c d (same_front (context_at here checked) l l').1 in λ j. Err (record { code = k j; pos = pos_at here })
reads_once {here} {checked} (breaks {code = c} l) (skips l' r) = absurd (gap_broken c (sym (same_front (context_at here checked) l l').1))
reads_once {here} {checked} (breaks {code = c} l) (takes {kind = k} l' r e) = absurd (token_broken k c (sym (same_front (context_at here checked) l l').1))
reads_once {here} {checked} (skips l r) ends = absurd (none_left (context_at here checked) l)
reads_once {here} {checked} (skips l r) (breaks {code = c} l') = absurd (gap_broken c (same_front (context_at here checked) l l').1)
reads_once {here} {checked} {text} {p = p} (skips l r) (skips l' r') =
    let k = (same_front (context_at here checked) l l').0 in
    reads_once r (subst (λ n. Reads (moved here (take n text)) checked (drop n text) p) (sym k) r')
reads_once {here} {checked} (skips l r) (takes {kind = k} l' r' e) = absurd (gap_token k (same_front (context_at here checked) l l').1)
reads_once {here} {checked} (takes l r e) ends = absurd (none_left (context_at here checked) l)
reads_once {here} {checked} (takes {kind = k} l r e) (breaks {code = c} l') = absurd (token_broken k c (same_front (context_at here checked) l l').1)
reads_once {here} {checked} (takes {kind = k} l r e) (skips l' r') = absurd (gap_token k (sym (same_front (context_at here checked) l l').1))
reads_once {here} {checked} {text} (takes {n = n} {kind = k} {rest = a} l r e) (takes {n = m} {kind = k'} {rest = b} l' r' e') =
    let same = same_front (context_at here checked) l l' in
    let kinds_same = same_kind k k' same.1 in
    let again = subst (λ T. T) (λ j. Reads (moved here (take (sym same.0 j) text)) (checked || is_stdchecked (Token (sym kinds_same j))) (drop (sym same.0 j) text) b) r' in
    let rest_same = reads_once r again in
    e ∙ ((λ j. ahead (record { kind = kinds_same j; text = take (same.0 j) text; pos = pos_at here } ∷ []) (rest_same j)) ∙ sym e')
