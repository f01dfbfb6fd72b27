-- A token that is taken, or that does not go on.
use Rattle.std.proofs.Common.{◌≡◌, List, [], ◌∷◌, Bool, true, false, ◌==◌, refl, sym, ap, subst, ◌∙◌, get_or}
use Rattle.ckc_syntax.specs.Spelled.{Spelled}
use Rattle.ckc_parser_grammar.specs.declared.kind.Kind.{Kind}
use Rattle.ckc_parser_grammar.specs.declared.kind.Kind.TheVariants as kind
use Rattle.ckc_parser_grammar.specs.code.Fits.{number, fits}
use Rattle.ckc_parser_grammar.specs.code.Grammar.{Terminal, one, t}
use Rattle.ckc_parser_grammar.specs.code.Values.{token}
use Rattle.ckc_parser_grammar.specs.code.Derives.{Sign}
use Rattle.ckc_parser_grammar.specs.code.Reading.{kind_of, Takes, Stops}
use Rattle.ckc_parser_grammar.specs.code.Reading as T
use Rattle.ckc_parser_grammar.proofs.EveryKind.{all_kinds, kind_at}
use Rattle.ckc_parser_grammar.proofs.Tables.{is_number, same_number}

pub took : (c : Terminal) (a b : List Sign) (x : Spelled) → fits c (kind_of a) ≡ true → a ≡ record { kind = kind_of a; token = x } ∷ b → Takes (t c ∷ []) a (token x ∷ []) b
took c a b x f e =
    let all : Takes (t c ∷ []) (record { kind = kind_of a; token = x } ∷ b) (token x ∷ []) b = T.read f (T.done refl) in
    subst (λ z. Takes (t c ∷ []) z (token x ∷ []) b) (sym e) all

pub took_one : (k : Kind) (a b : List Sign) (x : Spelled) → kind_of a ≡ k → a ≡ record { kind = kind_of a; token = x } ∷ b → Takes (t (one k) ∷ []) a (token x ∷ []) b
took_one k a b x f e = took (one k) a b x (subst (λ q. fits (one k) q ≡ true) (sym f) (is_number k)) e

pub missed : (c : Terminal) (a : List Sign) → fits c (kind_of a) ≡ false → Stops (t c ∷ []) a a
missed c a f = T.miss f refl

not_one : (b : Bool) (k q : Kind) → (number k == number q) ≡ b → (q ≡ k → ⊥) → b ≡ false
not_one false k q e h = refl
not_one true k q e h = absurd (h (sym (kind_at q) ∙ ap (λ i. get_or all_kinds i kind.End) (sym (same_number _ _ e)) ∙ kind_at k))

pub missed_one : (k : Kind) (a : List Sign) → (kind_of a ≡ k → ⊥) → Stops (t (one k) ∷ []) a a
missed_one k a h = missed (one k) a (not_one (number k == number (kind_of a)) k (kind_of a) refl h)
