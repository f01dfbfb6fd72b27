-- What the tables of the grammar owe, computed for every production and every kind.
use Rattle.std.proofs.Common.{arith, suc, zero, ◌≡◌, ℕ, List, [], ◌∷◌, Bool, true, false, ◌&&◌, ◌||◌, refl, get_or, sym, ap, subst, ◌∙◌, Option, None, Some, not, ◌==◌}
use Rattle.ckc_parser_grammar.specs.declared.kind.Kind.{Kind}
use Rattle.ckc_parser_grammar.specs.declared.kind.Kind.TheVariants as kind
use Rattle.ckc_parser_grammar.specs.code.Grammar.{Terminal, one, name, greater, sign, increment_sign, compound, operator, literal, name_but_calloc, name_but_unknown, Part, Symbol, t, n, Rule, left, right, Fits, allowed, not_else, is_name, is_greater}
use Rattle.ckc_parser_grammar.specs.code.Grammar as g
use Rattle.ckc_parser_grammar.specs.code.Fits.{number, fits}
use Rattle.ckc_parser_grammar.specs.code.Kinds.{kind_of_token}
use Rattle.ckc_parser_grammar.proofs.Sets.{begins, follows, empty}
use Rattle.ckc_parser_grammar.proofs.EveryKind.{all_kinds, kind_at}
use Rattle.ckc_parser_grammar.proofs.EveryRule.{rule_number, rule_at}
use Rattle.ckc_parser_grammar.specs.code.Trace.{all_rules}
use Rattle.ckc_parser_grammar.proofs.EveryPart.{all_parts, part_number, part_at}
use Rattle.std.proofs.lemmas.Bool.Decides.{nat_tests}
use Rattle.ckc_parser_grammar.proofs.Spellings.{spelled, sample_kind}
use Rattle.ckc_parser_grammar.specs.code.Reading.{pick}

-- the kinds that begin a list of symbols, and whether it may be empty
abbrev pub begin_all : List Symbol → Kind → Bool
begin_all [] c = false
begin_all (t x ∷ ss) c = fits x c
begin_all (n p ∷ ss) c = begins p c || (empty p && begin_all ss c)

abbrev pub empty_all : List Symbol → Bool
empty_all [] = true
empty_all (t x ∷ ss) = false
empty_all (n p ∷ ss) = empty p && empty_all ss

abbrev pub implies : Bool → Bool → Bool
implies true b = b
implies false b = true

abbrev pub picks : Option Rule → Rule → Bool
picks None r = false
picks (Some q) r = rule_number q == rule_number r

-- whether each part of a list of symbols may stand before what follows it there, and before a kind
abbrev pub room : List Symbol → Kind → Bool
room [] c = true
room (t x ∷ ss) c = room ss c
room (n p ∷ ss) c = implies (empty_all ss) (follows p c) && room ss c

abbrev pub joins : List Symbol → Kind → Bool
joins [] c = true
joins (t x ∷ ss) c = joins ss c
joins (n p ∷ ss) c = implies (begin_all ss c) (follows p c) && joins ss c

-- a token of a kind that is spelled so
abbrev pub is_spelled : Kind → Bool
is_spelled c = number (kind_of_token (spelled c)) == number c

-- `else` and the second `>` of a shift begin a list of symbols only if they are the next token, and stand
-- nowhere else in it
abbrev pub plain : Symbol → Bool
plain (t x) = not (fits x kind.Else) && is_spelled (sample_kind x)
plain (n p) = true

abbrev pub plain_all : List Symbol → Bool
plain_all [] = true
plain_all (s ∷ ss) = plain s && plain_all ss

abbrev pub fits_here : Symbol → Kind → Bool
fits_here (t x) c = fits x c
fits_here (n p) c = false

abbrev pub opens : List Symbol → Kind → Bool
opens [] c = true
opens (s ∷ ss) c = (plain s || fits_here s c) && plain_all ss

-- What the tables owe: what begins a production begins its part and chooses it; a production that may be empty
-- makes its part so, and is chosen by what may follow; and what may follow is kept by productions.
abbrev owes : Rule → Kind → Bool
owes r c =
    implies (begin_all (right r) c) (begins (left r) c && picks (pick (left r) c) r)
    && implies (empty_all (right r)) (empty (left r) && implies (follows (left r) c && allowed r c) (picks (pick (left r) c) r))
    && implies (follows (left r) c) (room (right r) c)
    && joins (right r) c
    && implies (not_else c) (allowed r c)
    && implies (picks (pick (left r) c) r) (opens (right r) c)

abbrev pub all : {X : Type 0} → (X → Bool) → List X → Bool
all f [] = true
all f (x ∷ xs) = f x && all f xs

checked : all (λ r. all (owes r) all_kinds) all_rules ≡ true
checked = refl

abbrev is_part : Option Rule → Part → Bool
is_part None p = true
is_part (Some r) p = part_number (left r) == part_number p

chosen : all (λ p. all (λ c. is_part (pick p c) p) all_kinds) all_parts ≡ true
chosen = refl

-- the facts one by one
pub and_true : (a b : Bool) → (a && b) ≡ true → (a ≡ true) × (b ≡ true)
and_true true true e = (refl, refl)
and_true true false e = cc
and_true false b e = cc

pub and_both : (a b : Bool) → a ≡ true → b ≡ true → (a && b) ≡ true
and_both true true e f = refl
and_both true false e f = f
and_both false b e f = e

pub implied : (a b : Bool) → implies a b ≡ true → a ≡ true → b ≡ true
implied true b e h = e
implied false b e h = cc

at_or : {X : Type 0} (f : X → Bool) (xs : List X) (i : ℕ) (d : X) → all f xs ≡ true → f d ≡ true → f (get_or xs i d) ≡ true
at_or f [] i d e h = h
at_or f (x ∷ xs) zero d e h = (and_true (f x) (all f xs) e).0
at_or f (x ∷ xs) (suc i) d e h = at_or f xs i d (and_true (f x) (all f xs) e).1 h

pub all_kind : (f : Kind → Bool) → all f all_kinds ≡ true → (c : Kind) → f c ≡ true
all_kind f e c = subst (λ q. f q ≡ true) (kind_at c) (at_or f all_kinds (number c) kind.End e (and_true _ _ e).0)

pub all_part : (f : Part → Bool) → all f all_parts ≡ true → (p : Part) → f p ≡ true
all_part f e p = subst (λ q. f q ≡ true) (part_at p) (at_or f all_parts (part_number p) g.text e (and_true _ _ e).0)

all_rule : (f : Rule → Bool) → all f all_rules ≡ true → (r : Rule) → f r ≡ true
all_rule f e r = subst (λ q. f q ≡ true) (rule_at r) (at_or f all_rules (rule_number r) g.Text e (and_true _ _ e).0)

pub same_number : (a b : ℕ) → (a == b) ≡ true → a ≡ b
same_number a b e = grind (arith, nat_tests)

pub owed : (r : Rule) (c : Kind) → owes r c ≡ true
owed r c = all_kind (owes r) (all_rule (λ r. all (owes r) all_kinds) checked r) c

pub picks_is : (o : Option Rule) (r : Rule) → picks o r ≡ true → o ≡ Some r
picks_is None r e = cc
picks_is (Some q) r e =
    let h = same_number (rule_number q) (rule_number r) e in
    ap (λ x. Some x) (sym (rule_at q) ∙ ap (λ i. get_or all_rules i g.Text) h ∙ rule_at r)

is_picks : (r : Rule) → picks (Some r) r ≡ true
is_picks r = grind (arith, nat_tests)

pub begin_owed : (r : Rule) (c : Kind) → begin_all (right r) c ≡ true → (begins (left r) c ≡ true) × (pick (left r) c ≡ Some r)
begin_owed r c h =
    let a = and_true _ _ (owed r c) in let b = and_true _ _ a.0 in let d = and_true _ _ b.0 in let e = and_true _ _ d.0 in let f = and_true _ _ e.0 in
    let g = and_true _ _ (implied _ _ f.0 h) in
    (g.0, picks_is _ r g.1)

pub empty_owed : (r : Rule) (c : Kind) → empty_all (right r) ≡ true → (empty (left r) ≡ true) × (follows (left r) c ≡ true → allowed r c ≡ true → pick (left r) c ≡ Some r)
empty_owed r c h =
    let a = and_true _ _ (owed r c) in let b = and_true _ _ a.0 in let d = and_true _ _ b.0 in let e = and_true _ _ d.0 in let f = and_true _ _ e.0 in
    let g = and_true _ _ (implied _ _ f.1 h) in
    (g.0, λ x y. picks_is _ r (implied _ _ g.1 (and_both _ _ x y)))

pub room_owed : (r : Rule) (c : Kind) → follows (left r) c ≡ true → room (right r) c ≡ true
room_owed r c h =
    let a = and_true _ _ (owed r c) in let b = and_true _ _ a.0 in let d = and_true _ _ b.0 in let e = and_true _ _ d.0 in
    implied _ _ e.1 h

pub joins_owed : (r : Rule) (c : Kind) → joins (right r) c ≡ true
joins_owed r c =
    let a = and_true _ _ (owed r c) in let b = and_true _ _ a.0 in let d = and_true _ _ b.0 in d.1

pub allowed_owed : (r : Rule) (c : Kind) → not_else c ≡ true → allowed r c ≡ true
allowed_owed r c h =
    let a = and_true _ _ (owed r c) in let b = and_true _ _ a.0 in
    implied _ _ b.1 h

pub pick_left : (p : Part) (c : Kind) (r : Rule) → pick p c ≡ Some r → left r ≡ p
pick_left p c r e =
    let h = all_kind (λ c. is_part (pick p c) p) (all_part (λ p. all (λ c. is_part (pick p c) p) all_kinds) chosen p) c in
    let k : is_part (Some r) p ≡ true = subst (λ o. is_part o p ≡ true) e h in
    let m = same_number (part_number (left r)) (part_number p) k in
    sym (part_at (left r)) ∙ ap (λ i. get_or all_parts i g.text) m ∙ part_at p

pub opens_owed : (r : Rule) (c : Kind) → pick (left r) c ≡ Some r → opens (right r) c ≡ true
opens_owed r c h =
    let a = and_true _ _ (owed r c) in
    implied _ _ a.1 (subst (λ o. picks o r ≡ true) (sym h) (is_picks r))

else_checked : all (λ c. not_else c || number c == number kind.Else) all_kinds ≡ true
else_checked = refl

else_test : (a b : Bool) → (a || b) ≡ true → a ≡ false → b ≡ true
else_test true b e f = cc
else_test false b e f = e

pub else_only : (c : Kind) → not_else c ≡ false → c ≡ kind.Else
else_only c e =
    let h = same_number _ _ (else_test (not_else c) (number c == number kind.Else) (all_kind (λ c. not_else c || number c == number kind.Else) else_checked c) e) in
    sym (kind_at c) ∙ ap (λ i. get_or all_kinds i kind.End) h

pub same_kind : (c d : Kind) → (number c == number d) ≡ true → c ≡ d
same_kind c d h = sym (kind_at c) ∙ ap (λ i. get_or all_kinds i kind.End) (same_number _ _ h) ∙ kind_at d

pub is_number : (c : Kind) → (number c == number c) ≡ true
is_number c = grind (arith, nat_tests)

-- a token may stand for a terminal exactly when the parser's test says so
pub fits_of : (x : Terminal) (c : Kind) → Fits x c → fits x c ≡ true
fits_of (one k) c h = subst (λ d. (number k == number d) ≡ true) (sym h) (is_number k)
fits_of name c h = h
fits_of greater c h = h
fits_of sign c h = h
fits_of increment_sign c h = h
fits_of compound c h = h
fits_of operator c h = h
fits_of literal c h = h
fits_of name_but_calloc c h = h
fits_of name_but_unknown c h = h

pub of_fits : (x : Terminal) (c : Kind) → fits x c ≡ true → Fits x c
of_fits (one k) c h = sym (same_kind k c h)
of_fits name c h = h
of_fits greater c h = h
of_fits sign c h = h
of_fits increment_sign c h = h
of_fits compound c h = h
of_fits operator c h = h
of_fits literal c h = h
of_fits name_but_calloc c h = h
of_fits name_but_unknown c h = h
