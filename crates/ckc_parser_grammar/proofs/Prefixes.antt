-- Where reading stops, what was read so far begins a derivation, and with the next token it begins none.
use Rattle.std.proofs.Common.{◌≡◌, List, [], ◌∷◌, ◌++◌, Bool, true, false, ◌||◌, refl, sym, ap, subst, ◌∙◌, None, Some, append_assoc, map}
use Rattle.ckc_parser_grammar.specs.declared.kind.Kind.{Kind}
use Rattle.ckc_parser_grammar.specs.code.Fits.{fits}
use Rattle.ckc_parser_grammar.specs.code.Grammar.{Terminal, Symbol, t, n, Rule, right, allowed, not_else}
use Rattle.ckc_parser_grammar.specs.code.Values.{Value, token, made}
use Rattle.ckc_parser_grammar.specs.code.Derives.{Sign, before, Derives}
use Rattle.ckc_parser_grammar.specs.code.Derives as D
use Rattle.ckc_parser_grammar.specs.code.Reading.{kind_of, pick, Takes, Stops}
use Rattle.ckc_parser_grammar.specs.code.Reading as T
use Rattle.ckc_parser_grammar.proofs.Tables.{of_fits, plain, plain_all, opens, and_true, and_both, allowed_owed, pick_left, opens_owed, fits_here}
use Rattle.ckc_parser_grammar.proofs.Theory.{kind_before, or_left, read_of}
use Rattle.ckc_parser_grammar.proofs.Samples.{sample, Fill, Real, real_both, map_both, fill_stack, fill_part}

-- where reading stops does not hang on what follows the next token
pub record Stopped (ss : List Symbol) (a b : List Sign) : Type 0 where
  pub front : List Sign
  pub whole : a ≡ front ++ b
  pub moved : (other : List Sign) → kind_of other ≡ kind_of b → Stops ss (front ++ other) other

pub stopped_of : {ss : List Symbol} {a b : List Sign} → Stops ss a b → Stopped ss a b
stopped_of (T.miss {c = c} f e) = record { front = []; whole = e; moved = λ other h. T.miss (subst (λ k. fits c k ≡ false) (ap kind_of e ∙ sym h) f) refl }
stopped_of (T.next {x = x} f d) =
    let s = stopped_of d in
    record { front = x ∷ s.front; whole = ap (λ z. x ∷ z) s.whole; moved = λ other h. T.next f (s.moved other h) }
stopped_of (T.none {p = p} f e) = record { front = []; whole = e; moved = λ other h. T.none (subst (λ k. pick p k ≡ None) (ap kind_of e ∙ sym h) f) refl }
stopped_of (T.inner {p = p} {a = a} {b = b} r pk d) =
    let s = stopped_of d in
    record {
      front = s.front;
      whole = s.whole;
      moved = λ other h.
          let ka : kind_of a ≡ kind_of (s.front ++ other) = ap kind_of s.whole ∙ kind_before s.front b ∙ ap (λ k. before s.front k) (sym h) ∙ sym (kind_before s.front other) in
          T.inner r (subst (λ k. pick p k ≡ Some r) ka pk) (s.moved other h);
    }
stopped_of (T.after {p = p} {ss = ss} {a = a} {b = b} r m ws pk d al d2) =
    let s = read_of d in
    let q = stopped_of d2 in
    record {
      front = s.front ++ q.front;
      whole = s.whole ∙ ap (λ z. s.front ++ z) q.whole ∙ sym (append_assoc s.front q.front b);
      moved = λ other h.
          let rest = q.front ++ other in
          let km : kind_of m ≡ before q.front (kind_of b) = ap kind_of q.whole ∙ kind_before q.front b in
          let kr : kind_of rest ≡ kind_of m = kind_before q.front other ∙ ap (λ k. before q.front k) h ∙ sym km in
          let ka : kind_of a ≡ kind_of (s.front ++ rest) = ap kind_of s.whole ∙ kind_before s.front m ∙ ap (λ k. before s.front k) (sym kr) ∙ sym (kind_before s.front rest) in
          let all : Stops (n p ∷ ss) (s.front ++ rest) other =
          T.after r rest ws (subst (λ k. pick p k ≡ Some r) ka pk) (s.moved rest kr) (subst (λ k. allowed r k ≡ true) (sym kr) al) (q.moved other h) in
          subst (λ z. Stops (n p ∷ ss) z other) (sym (append_assoc s.front q.front other)) all;
    }

-- before any other token that is no `else`, the same is derived
pub relax : {ss : List Symbol} {xs : List Sign} {c : Kind} {vs : List Value} → Derives ss xs c vs → (k : Kind) → not_else k ≡ true → Derives ss xs k vs
relax D.nil k h = D.nil
relax (D.read f d) k h = D.read f (relax d k h)
relax (D.by r us [] ws l d al mk d2 e) k h = D.by r us [] ws l (relax d k h) (allowed_owed r k h) mk (relax d2 k h) e
relax (D.by r us (y ∷ ys) ws l d al mk d2 e) k h = D.by r us (y ∷ ys) ws l d al mk (relax d2 k h) e

-- what was read before a stop, with what completes it
pub record Begun (ss : List Symbol) (a b : List Sign) (k : Kind) : Type 0 where
  pub front : List Sign
  pub whole : a ≡ front ++ b
  pub cs : List Terminal
  pub real : Real cs
  pub values : List Value
  pub derived : Derives ss (front ++ map sample cs) k values
  pub clear : front ≡ [] → not_else (before (map sample cs) k) ≡ true

filled : {ss : List Symbol} {a b : List Sign} {k : Kind} → a ≡ b → Fill ss k → Begun ss a b k
filled e f = record { front = []; whole = e; cs = f.cs; real = f.real; values = f.values; derived = f.derived; clear = λ h. f.clear }

plain_opens : (ss : List Symbol) (c : Kind) → plain_all ss ≡ true → opens ss c ≡ true
plain_opens [] c h = refl
plain_opens (s ∷ ss) c h = let p = and_true (plain s) (plain_all ss) h in and_both (plain s || fits_here s c) (plain_all ss) (or_left (plain s) (fits_here s c) p.0) p.1

missed_by : (p q : Bool) → (p || q) ≡ true → q ≡ false → p ≡ true
missed_by true q h f = refl
missed_by false q h f = absurd (cc)

missed : (c : Terminal) (k : Kind) → (plain (t c) || fits c k) ≡ true → fits c k ≡ false → plain (t c) ≡ true
missed c k h f = missed_by (plain (t c)) (fits c k) h f

before_both : (cs ds : List Terminal) (k : Kind) → before (map sample (cs ++ ds)) k ≡ before (map sample cs) (before (map sample ds) k)
before_both [] ds k = refl
before_both (c ∷ cs) ds k = refl

no_tail : (xs ys : List Sign) → xs ++ ys ≡ [] → ys ≡ []
no_tail [] ys e = e
no_tail (x ∷ xs) ys e = absurd (cc)

-- a derivation before what was read, before what completes it
context : (r : Rule) (us : List Sign) (ws : List Value) (m front zs b : List Sign) (k : Kind) → m ≡ front ++ b →
    (front ≡ [] → not_else (before zs k) ≡ true) → Derives (right r) us (kind_of m) ws → allowed r (kind_of m) ≡ true →
    Derives (right r) us (before (front ++ zs) k) ws × (allowed r (before (front ++ zs) k) ≡ true)
context r us ws m [] zs b k e clear d al = let h = clear refl in (relax d (before zs k) h, allowed_owed r (before zs k) h)
context r us ws m (x ∷ front) zs b k e clear d al =
    let h : kind_of m ≡ x.kind = ap kind_of e in
    (subst (λ c. Derives (right r) us c ws) h d, subst (λ c. allowed r c ≡ true) h al)

pub begun_of : {ss : List Symbol} {a b : List Sign} → Stops ss a b → opens ss (kind_of a) ≡ true → (k : Kind) → not_else k ≡ true → Begun ss a b k
begun_of (T.miss {c = c} {ss = ss} {a = a} f e) op k h =
    let both = and_true (plain (t c) || fits c (kind_of a)) (plain_all ss) op in
    filled e (fill_stack (t c ∷ ss) (and_both (plain (t c)) (plain_all ss) (missed c (kind_of a) both.0 f) both.1) k h)
begun_of (T.next {c = c} {ss = ss} {x = x} {a = a} f d) op k h =
    let s = begun_of d (plain_opens ss (kind_of a) (and_true (plain (t c) || fits c x.kind) (plain_all ss) op).1) k h in
    record { front = x ∷ s.front; whole = ap (λ z. x ∷ z) s.whole; cs = s.cs; real = s.real; values = token x.token ∷ s.values; derived = D.read (of_fits c x.kind f) s.derived; clear = λ e. absurd (cc) }
begun_of (T.none {p = p} {ss = ss} f e) op k h = filled e (fill_part p ss (fill_stack ss op) k h)
begun_of (T.inner {p = p} {ss = ss} {a = a} r pk d) op k h =
    let l = pick_left p (kind_of a) r pk in
    let rest = fill_stack ss op k h in
    let c = before (map sample rest.cs) k in
    let s = begun_of d (opens_owed r (kind_of a) (subst (λ q. pick q (kind_of a) ≡ Some r) (sym l) pk)) c rest.clear in
    record {
      front = s.front;
      whole = s.whole;
      cs = s.cs ++ rest.cs;
      real = real_both s.cs rest.cs s.real rest.real;
      values = made r s.values ∷ rest.values;
      derived = D.by r (s.front ++ map sample s.cs) (map sample rest.cs) s.values l s.derived (allowed_owed r c rest.clear) refl rest.derived
          (append_assoc s.front (map sample s.cs) (map sample rest.cs) ∙ ap (λ z. s.front ++ z) (sym (map_both s.cs rest.cs)));
      clear = λ e. subst (λ z. not_else z ≡ true) (sym (before_both s.cs rest.cs k)) (s.clear e);
    }
begun_of (T.after {p = p} {ss = ss} {a = a} {b = b} r m ws pk d al d2) op k h =
    let l = pick_left p (kind_of a) r pk in
    let s = read_of d in
    let q = begun_of d2 (plain_opens ss (kind_of m) op) k h in
    let more = q.front ++ map sample q.cs in
    let ctx = context r s.front ws m q.front (map sample q.cs) b k q.whole q.clear s.derived al in
    record {
      front = s.front ++ q.front;
      whole = s.whole ∙ ap (λ z. s.front ++ z) q.whole ∙ sym (append_assoc s.front q.front b);
      cs = q.cs;
      real = q.real;
      values = made r ws ∷ q.values;
      derived = D.by r s.front more ws l ctx.0 ctx.1 refl q.derived (sym (append_assoc s.front q.front (map sample q.cs)));
      clear = λ e. q.clear (no_tail s.front q.front e);
    }
