-- Tokens are a text or have a first fault: the first pass, run over them, ends at the one or the other.
use Rattle.std.proofs.Common.{◌≡◌, ℕ, zero, suc, ◌+◌, ◌<◌, ◌≤◌, List, [], ◌∷◌, ◌++◌, ◌⊎◌, inl, inr, Bool, true, false, ◌&&◌, not, refl, sym, ap, subst, ◌∙◌, Option, None, Some, get_or, nat_lt, arith, if◌then◌else◌}
use Rattle.std.proofs.lemmas.Bool.{false≢true}
use Rattle.std.proofs.lemmas.Bool.Decides.{nat_tests}
use Rattle.ckc_base.specs.declared.places.Pos.{Pos}
use Rattle.ckc_syntax.specs.Spelled.{Spelled}
use Rattle.ckc_grammar.specs.Text.{DerivesText, IsFault}
use Rattle.ckc_parser_grammar.specs.declared.kind.Kind.{Kind}
use Rattle.ckc_parser_grammar.specs.declared.kind.Kind.TheVariants as kind
use Rattle.ckc_parser_grammar.specs.code.Fits.{fits}
use Rattle.ckc_parser_grammar.specs.code.Grammar.{Part, Symbol, t, n, Rule, left, right}
use Rattle.ckc_parser_grammar.specs.code.Grammar as g
use Rattle.ckc_parser_grammar.specs.code.Derives.{Sign}
use Rattle.ckc_parser_grammar.specs.code.Marked.{place_of}
use Rattle.ckc_parser_grammar.specs.code.Reading.{kind_of, pick, Takes, Stops}
use Rattle.ckc_parser_grammar.specs.code.Signs.{signs}
use Rattle.ckc_parser_grammar.specs.code.Text.{start}
use Rattle.ckc_parser_grammar.specs.code.Trace.{Event, taken, opened, all_rules}
use Rattle.ckc_parser_grammar.specs.code.Values.{Value}
use Rattle.ckc_parser_grammar.proofs.EveryRule.{rule_number, rule_at}
use Rattle.ckc_parser_grammar.proofs.Onto.{texts}
use Rattle.ckc_parser_grammar.proofs.Sets.{empty}
use Rattle.ckc_parser_grammar.proofs.Tables.{all, empty_all, and_true, and_both, empty_owed, pick_left}
use Rattle.ckc_parser_trace.specs.code.Runs.{Runs}
use Rattle.ckc_parser_trace.specs.code.Turns.{turn, opening}
use Rattle.ckc_parser_trace.proofs.Running.{begin, taken_move, opened_move, stopped, emptied}
use Rattle.ckc_parser_trace.proofs.Top.{all_taken, more_answer, stop_answer}

-- How often productions can be opened at a part before a token is taken or what follows the part is reached.
abbrev depth : Part → ℕ
depth g.text = 4
depth g.items = 3
depth g.structure = 3
depth g.declaration = 3
depth g.declared = 2
depth g.declarators = 2
depth g.declarator = 6
depth g.objects = 1
depth g.object = 2
depth g.object_rest = 4
depth g.array = 1
depth g.size = 1
depth g.initial = 1
depth g.initializer = 6
depth g.list_rest = 1
depth g.list_more = 6
depth g.head = 1
depth g.body = 1
depth g.params = 4
depth g.more_params = 1
depth g.param = 3
depth g.mode = 1
depth g.result_type = 4
depth g.members = 4
depth g.member = 3
depth g.slot = 2
depth g.slots = 1
depth g.declared_limits = 1
depth g.base = 2
depth g.scalar = 1
depth g.unsigned_rest = 1
depth g.type_name = 3
depth g.stars = 1
depth g.limits = 1
depth g.bounds_rest = 4
depth g.unknown_rest = 12
depth g.block_items = 5
depth g.locals = 3
depth g.more_locals = 1
depth g.local = 2
depth g.local_initial = 1
depth g.value = 4
depth g.calloc_value = 2
depth g.less = 5
depth g.arguments = 6
depth g.more_arguments = 1
depth g.allocation = 4
depth g.setting = 1
depth g.later_setting = 2
depth g.change = 2
depth g.assign = 4
depth g.unnamed = 3
depth g.round_assign = 6
depth g.stmt = 4
depth g.calloc_stmt = 6
depth g.named_stmt = 5
depth g.called_stmt = 5
depth g.otherwise = 1
depth g.condition = 6
depth g.for_start = 5
depth g.for_step = 5
depth g.assigns = 5
depth g.expr = 5
depth g.expr_rest = 6
depth g.chain = 5
depth g.choice = 1
depth g.tail = 3
depth g.operation = 2
depth g.operation_but_less = 1
depth g.second = 1
depth g.unary = 4
depth g.name_rest = 5
depth g.call_rest = 1
depth g.increment = 1
depth g.first = 3
depth g.round = 6
depth g.posts = 2
depth g.post = 1
depth g.primary = 2
depth g.bounds_cast = 1
depth g.cast_limits = 1
depth g.constant = 1

-- the depth of what stands after a part, which counts if the part may be empty
abbrev past : Bool → ℕ → ℕ
past true k = k
past false k = 0

-- how often productions can be opened on a stack before a token is taken
abbrev height : List Symbol → ℕ
height [] = 0
height (t x ∷ ss) = 0
height (n p ∷ ss) = depth p + past (empty p) (height ss)

-- whether a symbol is no token of the end
abbrev lasts : Symbol → Bool
lasts (t x) = not (fits x kind.End)
lasts (n p) = true

-- What the table owes for a production: it counts less than its part, and takes no end.
abbrev owes : Rule → Bool
owes r = nat_lt (height (right r)) (depth (left r)) && all lasts (right r)

checked : all owes all_rules ≡ true
checked = refl

-- what holds for each of a list, holds for the one at a place
at_or : (xs : List Rule) (i : ℕ) (d : Rule) → all owes xs ≡ true → owes d ≡ true → owes (get_or xs i d) ≡ true
at_or [] i d e h = h
at_or (x ∷ xs) zero d e h = (and_true (owes x) (all owes xs) e).0
at_or (x ∷ xs) (suc i) d e h = at_or xs i d (and_true (owes x) (all owes xs) e).1 h

-- each production keeps what the table owes
owed : (r : Rule) → owes r ≡ true
owed r = subst (λ q. owes q ≡ true) (rule_at r) (at_or all_rules (rule_number r) g.Text checked refl)

-- a test of numbers says which is less
lower : (a b : ℕ) → nat_lt a b ≡ true → a < b
lower a b e = grind (arith, nat_tests)

-- a production counts less than its part
below : (r : Rule) → height (right r) < depth (left r)
below r = lower (height (right r)) (depth (left r)) (and_true _ _ (owed r)).0

-- the symbols of a production take no end
lasting : (r : Rule) → all lasts (right r) ≡ true
lasting r = (and_true _ _ (owed r)).1

-- nor do two such lists together
lasting_both : (xs ss : List Symbol) → all lasts xs ≡ true → all lasts ss ≡ true → all lasts (xs ++ ss) ≡ true
lasting_both [] ss e f = f
lasting_both (x ∷ xs) ss e f = let h = and_true (lasts x) (all lasts xs) e in and_both (lasts x) (all lasts (xs ++ ss)) h.0 (lasting_both xs ss h.1 f)

-- one list before another counts at most what both count
height_both : (xs ss : List Symbol) → height (xs ++ ss) ≤ height xs + height ss
height_both [] ss = omega arith
height_both (t x ∷ xs) ss = omega arith
height_both (n p ∷ xs) ss = more (empty p) (depth p) (height (xs ++ ss)) (height xs) (height ss) (height_both xs ss)
  where
    more : (e : Bool) (d whole low rest : ℕ) → whole ≤ low + rest → d + past e whole ≤ (d + past e low) + rest
    more true d whole low rest le = omega (arith, le)
    more false d whole low rest le = omega (arith, le)

-- what stands after a list that is never empty does not count
height_stops : (xs ss : List Symbol) → empty_all xs ≡ false → height (xs ++ ss) ≡ height xs
height_stops [] ss e = absurd (cc)
height_stops (t x ∷ xs) ss e = refl
height_stops (n p ∷ xs) ss e = more (empty p) e (λ f. height_stops xs ss f)
  where
    more : (q : Bool) → (q && empty_all xs) ≡ false → (empty_all xs ≡ false → height (xs ++ ss) ≡ height xs) → depth p + past q (height (xs ++ ss)) ≡ depth p + past q (height xs)
    more true f same = ap (λ k. depth p + k) (same f)
    more false f same = refl

-- a production of a part that is never empty, is never empty
never_empty : (r : Rule) → empty (left r) ≡ false → empty_all (right r) ≡ false
never_empty r e = more (empty_all (right r)) refl
  where
    more : (q : Bool) → empty_all (right r) ≡ q → q ≡ false
    more true f = let h = (empty_owed r kind.End f).0 in absurd (false≢true (sym e ∙ h))
    more false f = refl

-- a lower list in the place of a part
lower_part : (e : Bool) (d low rest whole : ℕ) → low < d → whole ≤ low + rest → (e ≡ false → whole ≡ low) → whole < d + past e rest
lower_part true d low rest whole lt le only = omega (arith, lt, le)
lower_part false d low rest whole lt le only = let same = only refl in omega (arith, lt, same)

-- a production in the place of its part lowers the stack
lower_left : (r : Rule) (ss : List Symbol) → height (right r ++ ss) < height (n (left r) ∷ ss)
lower_left r ss =
    lower_part (empty (left r)) (depth (left r)) (height (right r)) (height ss) (height (right r ++ ss)) (below r) (height_both (right r) ss)
    (λ e. height_stops (right r) ss (never_empty r e))

-- a token opens no production
no_opened : (b : Bool) (r : Rule) → (if b then Some taken else None) ≡ Some (opened r) → ⊥
no_opened true r e = cc
no_opened false r e = cc

-- the production that is opened is the one that the next token chooses
opened_is : (o : Option Rule) (r : Rule) → opening o ≡ Some (opened r) → o ≡ Some r
opened_is None r e = cc
opened_is (Some q) r e = cc

-- a production that is opened lowers the stack
opened_lower : (s : Symbol) (c : Kind) (r : Rule) → turn s c ≡ Some (opened r) → (ss : List Symbol) → height (right r ++ ss) < height (s ∷ ss)
opened_lower (t x) c r e ss = absurd (no_opened (fits x c) r e)
opened_lower (n p) c r e ss = subst (λ q. height (right r ++ ss) < height (n q ∷ ss)) (pick_left p c r (opened_is (pick p c) r e)) (lower_left r ss)

-- a symbol takes no end
none_taken : (s : Symbol) → lasts s ≡ true → turn s kind.End ≡ Some taken → ⊥
none_taken (t x) l e = no_end (fits x kind.End) l e
  where
    no_end : (b : Bool) → not b ≡ true → (if b then Some taken else None) ≡ Some taken → ⊥
    no_end true l e = false≢true l
    no_end false l e = cc
none_taken (n p) l e = no_part (pick p kind.End) e
  where
    no_part : (o : Option Rule) → opening o ≡ Some taken → ⊥
    no_part None e = cc
    no_part (Some r) e = cc

-- The first pass ends: a text is read from the front of the tokens, or the next token does not go on.
abbrev Ended : List Sign → Type 0
Ended old = ((v : Value) × (b : List Sign) × Takes (n start ∷ []) old (v ∷ []) b) ⊎ ((b : List Sign) × Stops (n start ∷ []) old b)

-- the pass ends from each stack before these tokens
abbrev EndsFrom : List Sign → List Sign → Type 0
EndsFrom old a = (ss : List Symbol) (es : List Event) → all lasts ss ≡ true → Runs old ss a es → Ended old

-- the pass ends from each stack before these tokens that is so low
abbrev EndsBelow : ℕ → List Sign → List Sign → Type 0
EndsBelow k old a = (ss : List Symbol) (es : List Event) → height ss < k → all lasts ss ≡ true → Runs old ss a es → Ended old

-- the pass ends once the next token is taken
abbrev EndsAfter : List Sign → List Sign → Type 0
EndsAfter old [] = Unit {0}
EndsAfter old (x ∷ a) = EndsFrom old a

-- one move, by what the top symbol does before the next token
by_turn : (k : ℕ) (old a : List Sign) → EndsAfter old a → EndsBelow k old a → (s : Symbol) (ss : List Symbol) (es : List Event) → height (s ∷ ss) < suc k →
    all lasts (s ∷ ss) ≡ true → Runs old (s ∷ ss) a es → (o : Option Event) → turn s (kind_of a) ≡ o → Ended old
by_turn k old a after lower_ends s ss es lt l q None e = inr (a, stopped old s ss a es q e)
by_turn k old [] after lower_ends s ss es lt l q (Some taken) e = absurd (none_taken s (and_true _ _ l).0 e)
by_turn k old (x ∷ a) after lower_ends s ss es lt l q (Some taken) e = after ss (es ++ taken ∷ []) (and_true _ _ l).1 (taken_move old s ss x a es q e)
by_turn k old a after lower_ends s ss es lt l q (Some (opened r)) e =
    let down = opened_lower s (kind_of a) r e ss in
    lower_ends (right r ++ ss) (es ++ opened r ∷ []) (omega (arith, lt, down)) (lasting_both (right r) ss (lasting r) (and_true _ _ l).1) (opened_move old s ss a es r q e)

-- the moves before one token, which lower the stack
ends_below : (k : ℕ) (old a : List Sign) → EndsAfter old a → EndsBelow k old a
ends_below zero old a after ss es lt l q = absurd (omega (arith, lt))
ends_below (suc k) old a after [] es lt l q = let o = emptied old a es q in inl (o.value, a, o.takes)
ends_below (suc k) old a after (s ∷ ss) es lt l q = by_turn k old a after (ends_below k old a after) s ss es lt l q (turn s (kind_of a)) refl

-- one token after another
ends_from : (old a : List Sign) → EndsFrom old a
ends_from old [] ss es l q = ends_below (suc (height ss)) old [] tt ss es (omega arith) l q
ends_from old (x ∷ a) ss es l q = ends_below (suc (height ss)) old (x ∷ a) (ends_from old a) ss es (omega arith) l q

-- how the pass over the tokens ended, as a text or a fault
answer : (xs : List Spelled) (end : Pos) → Ended (signs xs) → DerivesText xs ⊎ ((pos : Pos) × IsFault xs end pos)
answer xs end (inl (v, [], d)) = inl (texts xs v (all_taken xs v d))
answer xs end (inl (v, y ∷ b, d)) = inr (place_of (y ∷ b) end, more_answer xs end v (signs xs) (y ∷ b) (place_of (y ∷ b) end) refl d (λ e. absurd (cc)) refl)
answer xs end (inr (b, s)) = inr (place_of b end, stop_answer xs end (signs xs) b (place_of b end) refl s refl)

-- Tokens are a text, or they have a fault.
pub decided : (xs : List Spelled) (end : Pos) → DerivesText xs ⊎ ((pos : Pos) × IsFault xs end pos)
decided xs end = answer xs end (ends_from (signs xs) (signs xs) (n start ∷ []) [] refl (begin (signs xs)))
