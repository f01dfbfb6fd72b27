-- One move of the first pass keeps what its stack stands for.
use Rattle.std.proofs.Common.{◌≡◌, ℕ, suc, ◌+◌, length, List, [], ◌∷◌, ◌++◌, ◌⊎◌, inl, inr, Bool, true, false, refl, sym, ap, subst, ◌∙◌, Option, None, Some, append_assoc, append-nil, take, drop, arith, if◌then◌else◌, zero-add}
use Rattle.ckc_syntax.specs.Spelled.{Spelled}
use Rattle.ckc_parser_grammar.specs.declared.kind.Kind.{Kind}
use Rattle.ckc_parser_grammar.specs.code.Fits.{fits}
use Rattle.ckc_parser_grammar.specs.code.Grammar.{Terminal, Part, Symbol, t, n, Rule, right, allowed, not_else}
use Rattle.ckc_parser_grammar.specs.code.Grammar as g
use Rattle.ckc_parser_grammar.specs.code.Values.{Value, token, made}
use Rattle.ckc_parser_grammar.specs.code.Derives.{Sign}
use Rattle.ckc_parser_grammar.specs.code.Reading.{kind_of, pick, Takes, Stops}
use Rattle.ckc_parser_grammar.specs.code.Reading as T
use Rattle.ckc_parser_grammar.specs.code.Text.{start}
use Rattle.ckc_parser_grammar.specs.code.Trace.{Event, taken, opened, closed, values_of, tokens_in}
use Rattle.ckc_parser_grammar.proofs.Tables.{all_kind, implies, implied, picks, pick_left}
use Rattle.ckc_parser_trace.specs.code.Runs.{tokens_of, Lays, TakesOne, Empties, Fails, Runs}
use Rattle.ckc_parser_trace.specs.code.Runs as L
use Rattle.ckc_parser_trace.specs.code.Turns.{turn, opening}

pub takes_both : {xs ss : List Symbol} {a m b : List Sign} {us vs : List Value} → Takes xs a us m → Takes ss m vs b → Takes (xs ++ ss) a (us ++ vs) b
takes_both {ss = ss} {b = b} {vs = vs} (T.done e) d = subst (λ z. Takes ss z vs b) (sym e) d
takes_both (T.read f c) d = T.read f (takes_both c d)
takes_both (T.by r m ws pk c al mk c2) d = T.by r m ws pk c al mk (takes_both c2 d)

pub stops_first : {xs : List Symbol} {a b : List Sign} → Stops xs a b → (ss : List Symbol) → Stops (xs ++ ss) a b
stops_first (T.miss f e) ss = T.miss f e
stops_first (T.next f s) ss = T.next f (stops_first s ss)
stops_first (T.none f e) ss = T.none f e
stops_first (T.inner r pk s) ss = T.inner r pk s
stops_first (T.after r m ws pk d al s) ss = T.after r m ws pk d al (stops_first s ss)

pub stops_after : {xs ss : List Symbol} {a m b : List Sign} {us : List Value} → Takes xs a us m → Stops ss m b → Stops (xs ++ ss) a b
stops_after {ss = ss} {b = b} (T.done e) s = subst (λ z. Stops ss z b) (sym e) s
stops_after (T.read f c) s = T.next f (stops_after c s)
stops_after (T.by r m ws pk c al mk c2) s = T.after r m ws pk c al (stops_after c2 s)

-- a list of symbols that are taken one after another
record TakesAll (ss : List Symbol) (a : List Sign) (es : List Event) (b : List Sign) : Type 0 where
  values : List Value
  takes : Takes ss a values b
  makes : (later : List Event) (vs : List Value) → values_of (es ++ later) (tokens_of a) vs ≡ values ++ values_of later (tokens_of b) vs
  each : length values ≡ length ss
  counts : tokens_in es + length b ≡ length a
  lays : (ts : List Symbol) (later : List Event) (ys : List Spelled) → Lays ts later (tokens_of b) ys → Lays (ss ++ ts) (es ++ later) (tokens_of a) ys

tokens_both : (es fs : List Event) → tokens_in (es ++ fs) ≡ tokens_in es + tokens_in fs
tokens_both [] fs = grind (arith)
tokens_both (taken ∷ es) fs = let h = tokens_both es fs in grind (arith)
tokens_both (opened r ∷ es) fs = tokens_both es fs

count_both : (whole first rest m b a : ℕ) → whole ≡ first + rest → rest + b ≡ m → first + m ≡ a → whole + b ≡ a
count_both whole first rest m b a e f h = grind (arith)

all_of : (ss : List Symbol) (a b : List Sign) (es : List Event) → Empties ss a es b → TakesAll ss a es b
all_of [] a b es h = record {
  values = [];
  takes = T.done h.0;
  makes = λ later vs. ap (λ z. values_of (z ++ later) (tokens_of a) vs) h.1 ∙ ap (λ z. values_of later (tokens_of z) vs) h.0;
  each = refl;
  counts = ap (λ z. tokens_in z + length b) h.1 ∙ zero-add (length b) ∙ ap length (sym h.0);
  lays = λ ts later ys d. subst (λ z. Lays ts (z ++ later) (tokens_of a) ys) (sym h.1) (subst (λ z. Lays ts later (tokens_of z) ys) (sym h.0) d);
}
all_of (s ∷ ss) a b es h =
    let q = all_of ss h.2 b h.1 h.5 in
    let o = h.4 in record {
      values = o.value ∷ q.values;
      takes = takes_both o.takes q.takes;
      makes = λ later vs.
          ap (λ z. values_of (z ++ later) (tokens_of a) vs) h.3 ∙ ap (λ z. values_of z (tokens_of a) vs) (append_assoc h.0 h.1 later)
          ∙ o.makes (h.1 ++ later) vs ∙ ap (λ z. o.value ∷ z) (q.makes later vs);
      each = ap suc q.each;
      counts = count_both (tokens_in es) (tokens_in h.0) (tokens_in h.1) (length h.2) (length b) (length a) (ap tokens_in h.3 ∙ tokens_both h.0 h.1) q.counts o.counts;
      lays = λ ts later ys d.
          subst (λ z. Lays (s ∷ (ss ++ ts)) z (tokens_of a) ys) (sym (ap (λ z. z ++ later) h.3 ∙ append_assoc h.0 h.1 later))
          (o.lays (ss ++ ts) (h.1 ++ later) ys (q.lays ts later ys d));
    }

-- events that empty two lists of symbols are cut in two
record Split (xs ss : List Symbol) (a : List Sign) (es : List Event) (b : List Sign) : Type 0 where
  first : List Event
  rest : List Event
  m : List Sign
  whole : es ≡ first ++ rest
  front : Empties xs a first m
  back : Empties ss m rest b

split : (xs ss : List Symbol) (a b : List Sign) (es : List Event) → Empties (xs ++ ss) a es b → Split xs ss a es b
split [] ss a b es h = record { first = []; rest = es; m = a; whole = refl; front = (refl, refl); back = h }
split (x ∷ xs) ss a b es h =
    let q = split xs ss h.2 b h.1 h.5 in
    record { first = h.0 ++ q.first; rest = q.rest; m = q.m; whole = h.3 ∙ ap (λ z. h.0 ++ z) q.whole ∙ sym (append_assoc h.0 q.first q.rest); front = (h.0, q.first, h.2, refl, h.4, q.front); back = q.back }

-- an `if` without `else` is never chosen before `else`
no_else_checked : (c : Kind) → implies (picks (pick g.otherwise c) g.NoElse) (not_else c) ≡ true
no_else_checked c = all_kind (λ k. implies (picks (pick g.otherwise k) g.NoElse) (not_else k)) refl c

no_else : (p : Part) (c : Kind) → pick p c ≡ Some g.NoElse → not_else c ≡ true
no_else p c e =
    let chosen : pick g.otherwise c ≡ Some g.NoElse = subst (λ q. pick q c ≡ Some g.NoElse) (sym (pick_left p c g.NoElse e)) e in
    implied _ _ (no_else_checked c) (subst (λ o. picks o g.NoElse ≡ true) (sym chosen) refl)

nothing_taken : {ss : List Symbol} {a b : List Sign} {ws : List Value} → Takes ss a ws b → ss ≡ [] → a ≡ b
nothing_taken (T.done e) h = e
nothing_taken (T.read f d) h = absurd (cc)
nothing_taken (T.by r m ws pk d al mk d2) h = absurd (cc)

allows : (r : Rule) (p : Part) (a m : List Sign) (ws : List Value) → pick p (kind_of a) ≡ Some r → Takes (right r) a ws m → allowed r (kind_of m) ≡ true
allows g.NoElse p a m ws e d = subst (λ z. not_else (kind_of z) ≡ true) (nothing_taken d refl) (no_else p (kind_of a) e)
allows _ p a m ws e d = refl

take_front : (ws rest : List Value) → take (length ws) (ws ++ rest) ≡ ws
take_front [] rest = refl
take_front (w ∷ ws) rest = ap (λ z. w ∷ z) (take_front ws rest)

drop_front : (ws rest : List Value) → drop (length ws) (ws ++ rest) ≡ rest
drop_front [] rest = refl
drop_front (w ∷ ws) rest = drop_front ws rest

pub closed_of : (r : Rule) (ws rest : List Value) → length ws ≡ length (right r) → closed r (ws ++ rest) ≡ made r ws ∷ rest
closed_of r ws rest e =
    ap (λ k. made r (take k (ws ++ rest)) ∷ drop k (ws ++ rest)) (sym e) ∙ ap (λ z. made r z ∷ drop (length ws) (ws ++ rest)) (take_front ws rest)
    ∙ ap (λ z. made r ws ∷ z) (drop_front ws rest)

opened_one : (p : Part) (r : Rule) (a m : List Sign) (first : List Event) → pick p (kind_of a) ≡ Some r → Empties (right r) a first m → TakesOne (n p) a (opened r ∷ first) m
opened_one p r a m first pk h =
    let q = all_of (right r) a m first h in record {
      value = made r q.values;
      takes = T.by r m q.values pk q.takes (allows r p a m q.values pk q.takes) refl (T.done refl);
      makes = λ later vs. ap (λ z. closed r z) (q.makes later vs) ∙ closed_of r q.values (values_of later (tokens_of m) vs) q.each;
      counts = q.counts;
      lays = λ ss later ys d. L.by r (pick_left p (kind_of a) r pk) (q.lays ss later ys d);
    }

one_more : (k : ℕ) → (1 + 0) + k ≡ suc k
one_more k = grind (arith)

read_one : (c : Terminal) (x : Sign) (a : List Sign) → fits c x.kind ≡ true → TakesOne (t c) (x ∷ a) (taken ∷ []) a
read_one c x a f = record { value = token x.token; takes = T.read f (T.done refl); makes = λ later vs. refl; counts = one_more (length a); lays = λ ss later ys d. L.read d }

-- where two lists of symbols stop
split_fails : (xs ss : List Symbol) (a b : List Sign) → Fails (xs ++ ss) a b → Stops xs a b ⊎ ((ws : List Value) × (m : List Sign) × Takes xs a ws m × Fails ss m b)
split_fails [] ss a b h = inr ([], a, T.done refl, h)
split_fails (x ∷ xs) ss a b (inl s) = inl (stops_first s xs)
split_fails (x ∷ xs) ss a b (inr (v, m, d, h)) = later x xs ss a b v m d (split_fails xs ss m b h)
  where
    later : (x : Symbol) (xs ss : List Symbol) (a b : List Sign) (v : Value) (m : List Sign) → Takes (x ∷ []) a (v ∷ []) m → (Stops xs m b ⊎ ((ws : List Value) × (m2 : List Sign) × Takes xs m ws m2 × Fails ss m2 b)) →
        Stops (x ∷ xs) a b ⊎ ((ws : List Value) × (m2 : List Sign) × Takes (x ∷ xs) a ws m2 × Fails ss m2 b)
    later x xs ss a b v m d (inl s) = inl (stops_after d s)
    later x xs ss a b v m d (inr (ws, m2, d2, h2)) = inr (v ∷ ws, m2, takes_both d d2, h2)

fails_open : (p : Part) (r : Rule) (ss : List Symbol) (a b : List Sign) → pick p (kind_of a) ≡ Some r → (Stops (right r) a b ⊎ ((ws : List Value) × (m : List Sign) × Takes (right r) a ws m × Fails ss m b)) → Fails (n p ∷ ss) a b
fails_open p r ss a b pk (inl s) = inl (T.inner r pk s)
fails_open p r ss a b pk (inr (ws, m, d, h)) = inr (made r ws, m, T.by r m ws pk d (allows r p a m ws pk d) refl (T.done refl), h)

-- the moves
pub begin : (old : List Sign) → Runs old (n start ∷ []) old []
begin old = record { good = λ later b h. h; bad = λ b h. h }

read_move : (old : List Sign) (c : Terminal) (ss : List Symbol) (x : Sign) (a : List Sign) (es : List Event) → Runs old (t c ∷ ss) (x ∷ a) es → fits c x.kind ≡ true → Runs old ss a (es ++ taken ∷ [])
read_move old c ss x a es q f = record {
  good = λ later b h. subst (λ z. Empties (n start ∷ []) old z b) (sym (append_assoc es (taken ∷ []) later)) (q.good (taken ∷ later) b (taken ∷ [], later, a, refl, read_one c x a f, h));
  bad = λ b h. q.bad b (inr (token x.token, a, T.read f (T.done refl), h));
}

open_move : (old : List Sign) (p : Part) (ss : List Symbol) (a : List Sign) (es : List Event) (r : Rule) → Runs old (n p ∷ ss) a es → pick p (kind_of a) ≡ Some r → Runs old (right r ++ ss) a (es ++ opened r ∷ [])
open_move old p ss a es r q pk = record {
  good = λ later b h.
      let s = split (right r) ss a b later h in
      subst (λ z. Empties (n start ∷ []) old z b) (sym (append_assoc es (opened r ∷ []) later))
      (q.good (opened r ∷ later) b (opened r ∷ s.first, s.rest, s.m, ap (λ z. opened r ∷ z) s.whole, opened_one p r a s.m s.first pk s.front, s.back));
  bad = λ b h. q.bad b (fails_open p r ss a b pk (split_fails (right r) ss a b h));
}

-- what a turn says of its symbol
some_fits : (b : Bool) (e : Event) → (if b then Some e else None) ≡ Some taken → b ≡ true
some_fits true e h = refl
some_fits false e h = absurd (cc)

pub taken_move : (old : List Sign) (s : Symbol) (ss : List Symbol) (x : Sign) (a : List Sign) (es : List Event) → Runs old (s ∷ ss) (x ∷ a) es → turn s x.kind ≡ Some taken → Runs old ss a (es ++ taken ∷ [])
taken_move old (t c) ss x a es q e = read_move old c ss x a es q (some_fits (fits c x.kind) taken e)
taken_move old (n p) ss x a es q e = absurd (no_taken (pick p x.kind) e)
  where
    no_taken : (o : Option Rule) → opening o ≡ Some taken → ⊥
    no_taken None e = cc
    no_taken (Some r) e = cc

no_opened : (b : Bool) (r : Rule) → (if b then Some taken else None) ≡ Some (opened r) → ⊥
no_opened true r e = cc
no_opened false r e = cc

opened_is : (o : Option Rule) (r : Rule) → opening o ≡ Some (opened r) → o ≡ Some r
opened_is None r e = cc
opened_is (Some q) r e = cc

pub opened_move : (old : List Sign) (s : Symbol) (ss : List Symbol) (a : List Sign) (es : List Event) (r : Rule) → Runs old (s ∷ ss) a es → turn s (kind_of a) ≡ Some (opened r) → Runs old (right r ++ ss) a (es ++ opened r ∷ [])
opened_move old (t c) ss a es r q e = absurd (no_opened (fits c (kind_of a)) r e)
opened_move old (n p) ss a es r q e = open_move old p ss a es r q (opened_is (pick p (kind_of a)) r e)

none_misses : (b : Bool) → (if b then Some taken else None) ≡ None → b ≡ false
none_misses true e = absurd (cc)
none_misses false e = refl

none_opens : (o : Option Rule) → opening o ≡ None → o ≡ None
none_opens None e = refl
none_opens (Some r) e = absurd (cc)

stops_here : (s : Symbol) (a : List Sign) → turn s (kind_of a) ≡ None → Stops (s ∷ []) a a
stops_here (t c) a e = T.miss (none_misses (fits c (kind_of a)) e) refl
stops_here (n p) a e = T.none (none_opens (pick p (kind_of a)) e) refl

fails_whole : (old b : List Sign) → Fails (n start ∷ []) old b → Stops (n start ∷ []) old b
fails_whole old b (inl s) = s
fails_whole old b (inr (v, m, d, h)) = absurd h

pub stopped : (old : List Sign) (s : Symbol) (ss : List Symbol) (a : List Sign) (es : List Event) → Runs old (s ∷ ss) a es → turn s (kind_of a) ≡ None → Stops (n start ∷ []) old a
stopped old s ss a es q e = fails_whole old a (q.bad a (inl (stops_here s a e)))

-- no symbol is left
pub emptied : (old a : List Sign) (es : List Event) → Runs old [] a es → TakesOne (n start) old es a
emptied old a es q =
    let h = q.good [] a (refl, refl) in
    let same : h.0 ≡ es = sym (append-nil h.0) ∙ ap (λ z. h.0 ++ z) (sym h.5.1) ∙ sym h.3 ∙ append-nil es in
    subst (λ z. TakesOne (n start) old z a) same (subst (λ z. TakesOne (n start) old h.0 z) h.5.0 h.4)
