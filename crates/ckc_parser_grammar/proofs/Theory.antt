-- Reading and deriving agree, for every grammar whose tables keep what they owe.
use Rattle.std.proofs.Common.{◌≡◌, List, [], ◌∷◌, ◌++◌, Bool, true, false, ◌||◌, refl, sym, ap, subst, ◌∙◌, Option, Some, append_assoc}
use Rattle.ckc_parser_grammar.specs.declared.kind.Kind.{Kind}
use Rattle.ckc_parser_grammar.specs.code.Fits.{fits}
use Rattle.ckc_parser_grammar.specs.code.Grammar.{Part, Symbol, n, Rule, left, right, allowed}
use Rattle.ckc_parser_grammar.specs.code.Values.{Value, token, made}
use Rattle.ckc_parser_grammar.specs.code.Derives.{Sign, before, Derives}
use Rattle.ckc_parser_grammar.specs.code.Derives as D
use Rattle.ckc_parser_grammar.specs.code.Reading.{kind_of, pick, Takes, Stops}
use Rattle.ckc_parser_grammar.specs.code.Reading as T
use Rattle.ckc_parser_grammar.proofs.Sets.{begins, follows, empty}
use Rattle.ckc_parser_grammar.proofs.Tables.{begin_all, empty_all, room, joins, implied, and_true, and_both, begin_owed, empty_owed, room_owed, joins_owed, pick_left, fits_of, of_fits}

pub kind_before : (xs b : List Sign) → kind_of (xs ++ b) ≡ before xs (kind_of b)
kind_before [] b = refl
kind_before (x ∷ xs) b = refl

pub or_left : (a b : Bool) → a ≡ true → (a || b) ≡ true
or_left true b e = refl
or_left false b e = absurd (cc e)

pub or_right : (a b : Bool) → b ≡ true → (a || b) ≡ true
or_right true b e = refl
or_right false b e = e

-- an empty derivation, and what comes first in one
empty_of : {ss : List Symbol} {zs : List Sign} {c : Kind} {vs : List Value} → Derives ss zs c vs → zs ≡ [] → empty_all ss ≡ true
empty_of D.nil e = refl
empty_of (D.read f d) e = absurd (cc)
empty_of (D.by {p = p} {next = c} r [] ys ws l d al mk d2 split) e =
    and_both _ _ (subst (λ q. empty q ≡ true) l (empty_owed r c (empty_of d refl)).0) (empty_of d2 (split ∙ e))
empty_of (D.by r (u ∷ us) ys ws l d al mk d2 split) e = absurd (cc)

first_of : {ss : List Symbol} {zs : List Sign} {c : Kind} {vs : List Value} → Derives ss zs c vs → (x : Sign) (xs : List Sign) → zs ≡ x ∷ xs → begin_all ss x.kind ≡ true
first_of D.nil x xs e = absurd (cc)
first_of (D.read {c = c} {x = y} {xs = ys} f d) x xs e = let h : y ≡ x = cc in subst (λ z. fits c z.kind ≡ true) h (fits_of c y.kind f)
first_of (D.by {p = p} {next = c} r [] ys ws l d al mk d2 split) x xs e =
    or_right _ _ (and_both _ _ (subst (λ q. empty q ≡ true) l (empty_owed r c (empty_of d refl)).0) (first_of d2 x xs (split ∙ e)))
first_of (D.by {p = p} r (u ∷ us) ys ws l d al mk d2 split) x xs e =
    let h : u ≡ x = cc in
    or_left _ _ (subst (λ z. begins p z.kind ≡ true) h (subst (λ q. begins q u.kind ≡ true) l (begin_owed r u.kind (first_of d u us refl)).0))

-- what a derivation holds is read, if what follows may follow
may_follow : (p : Part) (ss : List Symbol) (rest : List Sign) (c : Kind) (vs : List Value) → Derives ss rest c vs →
    room (n p ∷ ss) c ≡ true → ((k : Kind) → joins (n p ∷ ss) k ≡ true) → follows p (before rest c) ≡ true
may_follow p ss [] c vs d rm j = implied _ _ (and_true _ _ rm).0 (empty_of d refl)
may_follow p ss (y ∷ rest) c vs d rm j = implied _ _ (and_true _ _ (j y.kind)).0 (first_of d y rest refl)

chosen_by : (p : Part) (r : Rule) (us more : List Sign) (ws : List Value) → left r ≡ p → follows p (kind_of more) ≡ true →
    Derives (right r) us (kind_of more) ws → allowed r (kind_of more) ≡ true → pick p (kind_of (us ++ more)) ≡ Some r
chosen_by p r [] more ws l fol d al =
    subst (λ q. pick q (kind_of more) ≡ Some r) l ((empty_owed r (kind_of more) (empty_of d refl)).1 (subst (λ q. follows q (kind_of more) ≡ true) (sym l) fol) al)
chosen_by p r (u ∷ us) more ws l fol d al =
    subst (λ q. pick q u.kind ≡ Some r) l (begin_owed r u.kind (first_of d u us refl)).1

pub complete : {ss : List Symbol} {xs : List Sign} {c : Kind} {vs : List Value} → Derives ss xs c vs → (ys : List Sign) → kind_of ys ≡ c →
    room ss c ≡ true → ((k : Kind) → joins ss k ≡ true) → Takes ss (xs ++ ys) vs ys
complete D.nil ys k rm j = T.done refl
complete (D.read {c = c} {x = x} f d) ys k rm j = T.read (fits_of c x.kind f) (complete d ys k rm j)
complete (D.by {p = p} {ss = ss} {zs = zs} {next = c} {u = u} {vs = vs} r us rest ws l d al mk d2 split) ys k rm j =
    let more = rest ++ ys in
    let km : kind_of more ≡ before rest c = kind_before rest ys ∙ ap (λ q. before rest q) k in
    let fol : follows p (before rest c) ≡ true = may_follow p ss rest c vs d2 rm j in
    let inner = complete d more km (room_owed r (before rest c) (subst (λ q. follows q (before rest c) ≡ true) (sym l) fol)) (joins_owed r) in
    let outer = complete d2 ys k (and_true _ _ rm).1 (λ q. (and_true _ _ (j q)).1) in
    let al2 : allowed r (kind_of more) ≡ true = subst (λ q. allowed r q ≡ true) (sym km) al in
    let pk = chosen_by p r us more ws l (subst (λ q. follows p q ≡ true) (sym km) fol) (subst (λ q. Derives (right r) us q ws) (sym km) d) al2 in
    let all : Takes (n p ∷ ss) (us ++ more) (u ∷ vs) ys = T.by r more ws pk inner al2 mk outer in
    subst (λ z. Takes (n p ∷ ss) z (u ∷ vs) ys) (sym (append_assoc us rest ys) ∙ ap (λ z. z ++ ys) split) all

-- what is read is derived, and it is read whatever follows that begins alike
pub record Read (ss : List Symbol) (a : List Sign) (vs : List Value) (b : List Sign) : Type 0 where
  pub front : List Sign
  pub whole : a ≡ front ++ b
  pub derived : Derives ss front (kind_of b) vs
  pub moved : (other : List Sign) → kind_of other ≡ kind_of b → Takes ss (front ++ other) vs other

pub read_of : {ss : List Symbol} {a : List Sign} {vs : List Value} {b : List Sign} → Takes ss a vs b → Read ss a vs b
read_of (T.done e) = record { front = []; whole = e; derived = D.nil; moved = λ other h. T.done refl }
read_of (T.read {c = c} {x = x} f d) =
    let s = read_of d in
    record { front = x ∷ s.front; whole = ap (λ z. x ∷ z) s.whole; derived = D.read (of_fits c x.kind f) s.derived; moved = λ other h. T.read f (s.moved other h) }
read_of (T.by {p = p} {ss = ss} {a = a} {b = b} {u = u} {vs = vs} r m ws pk d al mk d2) =
    let s = read_of d in
    let q = read_of d2 in
    let km : kind_of m ≡ before q.front (kind_of b) = ap kind_of q.whole ∙ kind_before q.front b in
    record {
      front = s.front ++ q.front;
      whole = s.whole ∙ ap (λ z. s.front ++ z) q.whole ∙ sym (append_assoc s.front q.front b);
      derived = D.by r s.front q.front ws (pick_left p (kind_of a) r pk) (subst (λ k. Derives (right r) s.front k ws) km s.derived)
          (subst (λ k. allowed r k ≡ true) km al) mk q.derived refl;
      moved = λ other h.
          let rest = q.front ++ other in
          let kr : kind_of rest ≡ kind_of m = kind_before q.front other ∙ ap (λ k. before q.front k) h ∙ sym km in
          let ka : kind_of a ≡ kind_of (s.front ++ rest) = ap kind_of s.whole ∙ kind_before s.front m ∙ ap (λ k. before s.front k) (sym kr) ∙ sym (kind_before s.front rest) in
          let all : Takes (n p ∷ ss) (s.front ++ rest) (u ∷ vs) other =
          T.by r rest ws (subst (λ k. pick p k ≡ Some r) ka pk) (s.moved rest kr) (subst (λ k. allowed r k ≡ true) (sym kr) al) mk (q.moved other h) in
          subst (λ z. Takes (n p ∷ ss) z (u ∷ vs) other) (sym (append_assoc s.front q.front other)) all;
    }

-- reading has one outcome
pub one_rule : (q r : Rule) (o : Option Rule) → o ≡ Some q → o ≡ Some r → q ≡ r
one_rule q r o e f = cc

pub same_read : {ss : List Symbol} {a : List Sign} {vs : List Value} {b : List Sign} → Takes ss a vs b → (ws : List Value) (c : List Sign) → Takes ss a ws c → (vs ≡ ws) × (b ≡ c)
same_read (T.done e) ws c (T.done f) = (refl, sym e ∙ f)
same_read (T.read {x = x} f d) ws c (T.read {vs = vs} g e) = let h = same_read d vs c e in (ap (λ z. token x.token ∷ z) h.0, h.1)
same_read (T.by {p = p} {ss = ss} {a = a} r m us pk d al mk d2) ws c (T.by {u = u} {vs = vs} r2 m2 us2 pk2 e al2 mk2 e2) =
    let same = one_rule r2 r (pick p (kind_of a)) pk2 pk in
    let h = same_read d us2 m2 (subst (λ q. Takes (right q) a us2 m2) same e) in
    let k = same_read d2 vs c (subst (λ z. Takes ss z vs c) (sym h.1) e2) in
    let made2 = subst (λ q. made q us2 ≡ u) same mk2 in
    let values = sym mk ∙ ap (λ z. made r z) h.0 ∙ made2 in
    (cc, k.1)

pub clash : {ss : List Symbol} {a : List Sign} {vs : List Value} {b : List Sign} → Takes ss a vs b → (c : List Sign) → Stops ss a c → ⊥
clash (T.done e) c s = elim s [ ]
clash (T.read f d) c (T.miss g e) = absurd (cc)
clash (T.read f d) c (T.next g s) = clash d c s
clash (T.by r m ws pk d al mk d2) c (T.none g e) = absurd (cc)
clash (T.by {p = p} {a = a} r m ws pk d al mk d2) c (T.inner r2 pk2 s) =
    let same = one_rule r2 r (pick p (kind_of a)) pk2 pk in
    clash d c (subst (λ q. Stops (right q) a c) same s)
clash (T.by {p = p} {ss = ss} {a = a} r m ws pk d al mk d2) c (T.after r2 m2 ws2 pk2 e al2 s) =
    let same = one_rule r2 r (pick p (kind_of a)) pk2 pk in
    let h = same_read d ws2 m2 (subst (λ q. Takes (right q) a ws2 m2) same e) in
    clash d2 c (subst (λ z. Stops ss z c) (sym h.1) s)
