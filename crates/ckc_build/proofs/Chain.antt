-- The phases, one after another: each text is judged or has one first error, and what a call of each phase answers.
use Rattle.std.proofs.Common.{◌≡◌, ℕ, inl, List, map, Result, Ok, Err, sym, ap, subst, ◌∙◌}
use Rattle.std.specs.Prelude.{IsErrAnd}
use Rattle.std.proofs.lemmas.Result.{err_from_is_err_and}
use Rattle.ckc_base.specs.declared.places.Pos.{Pos}
use Rattle.ckc_base.specs.declared.fault.Fault.{Fault}
use Rattle.ckc_base.specs.declared.fault.Fault.TheVariants as fault
use Rattle.ckc_base.specs.Phases.{Phase, ◌>=>◌, IsExact, Answers, Exact}
use Rattle.ckc_base.proofs.Phases.{then_exact, answers_on, exact_of, phase_by_exact}
use Rattle.ckc_syntax.specs.declared.tokens.Token as code
use Rattle.ckc_syntax.specs.declared.tree.NamedText.{NamedText}
use Rattle.ckc_syntax.specs.Spelled.{Tokens, spelled}
use Rattle.ckc_syntax_limits.specs.Phase.{limiting}
use Rattle.ckc_syntax_limits.proofs.Limiting.{limiting_exact}
use Rattle.ckc_lexer.specs.Phase.{lexing, tokens_in}
use Rattle.ckc_lexer.specs.Places.{place_after}
use Rattle.ckc_lexer.proofs.Answer.{lexing_exact}
use Rattle.ckc_parser.specs.Phase.{SpelledTree, parsing}
use Rattle.ckc_parser.proofs.Once.{parsing_exact}
use Rattle.ckc_plain.specs.Phase.{resolving}
use Rattle.ckc_plain.proofs.Relimiting.{resolving_exact}
use Rattle.ckc_typed.specs.declared.typed.Typed.{Typed}
use Rattle.ckc_typed.specs.Texts.{named_typed}
use Rattle.ckc_typing.specs.Phase.{typing}
use Rattle.ckc_scopes.specs.Phase.{scoping}
use Rattle.ckc_scopes.proofs.Firsts.{scoping_exact}
use Rattle.ckc_bounds.specs.Phase.{bounding}
use Rattle.ckc_bounds.specs.Texts.{text_judged}
use Rattle.ckc_build.specs.Meanings.{reading, judging_tree, judging}

-- ---- the phases are exact

typing_exact : IsExact typing
typing_exact = phase_by_exact named_typed

bounding_exact : IsExact bounding
bounding_exact = phase_by_exact text_judged

-- what comes after the types, after the names and after the limits
abbrev pub ranging : Phase Typed Typed
ranging = scoping >=> bounding

ranging_exact : IsExact ranging
ranging_exact = then_exact scoping bounding scoping_exact bounding_exact

abbrev from_names : Phase NamedText Typed
from_names = typing >=> ranging

from_names_exact : IsExact from_names
from_names_exact = then_exact typing ranging typing_exact ranging_exact

abbrev later : Phase SpelledTree Typed
later = resolving >=> from_names

later_exact : IsExact later
later_exact = then_exact resolving from_names resolving_exact from_names_exact

reading_exact : IsExact reading
reading_exact = then_exact lexing parsing lexing_exact parsing_exact

judging_tree_exact : IsExact judging_tree
judging_tree_exact = then_exact limiting later limiting_exact later_exact

pub judging_exact : IsExact judging
judging_exact = then_exact reading judging_tree reading_exact judging_tree_exact

pub one_tree : (text : List ℕ) (a b : SpelledTree) → reading.Makes text a → reading.Makes text b → a ≡ b
one_tree = reading_exact.made_once

-- ---- what calls of the phases answer

-- an error of the first phase is an error of both
err_first : {A B C : Type 0} (p : Phase A B) (q : Phase B C) (a : A) (e : Fault) → Answers p a (Err e) → Answers (p >=> q) a (Err e)
err_first p q a (fault.Refused r) f = inl f
err_first p q a fault.Memory f = tt

-- what the code gives to a phase is what the one before it makes
pub tokens_same : (text : List ℕ) (found now : List code.Token) (end : Pos) → now ≡ found → end ≡ place_after text
    → record { list = map spelled now; end = end } ≡ tokens_in text found
tokens_same text found now end e f = λ j. record { list = map spelled (e j); end = f j }

module _ {A B C : Type 0} (p : Phase A B) (q : Phase B C) (exact : IsExact p) (next : IsExact q) (a : A) where
  -- an error of the first of two phases is the answer of both
  pub exact_err : (e : Fault) → Exact p a (Err e) → Exact (p >=> q) a (Err e)
  exact_err e x = exact_of (p >=> q) (then_exact p q exact next) a (Err e) (err_first p q a e x.answers)

  -- and else the answer of the second one is
  pub exact_on : (b : B) (answer : Result C Fault) → Exact p a (Ok b) → Exact q b answer → Exact (p >=> q) a answer
  exact_on b answer x y = exact_of (p >=> q) (then_exact p q exact next) a answer (answers_on p q exact next a b answer x.answers y.answers)

-- an exit with the error of a call
pub stops : (text : List ℕ) (answer : Result Typed Fault) (e : Fault) → IsErrAnd answer (λ other. other ≡ e) → Exact judging text (Err e) → Exact judging text answer
stops text answer e is x = let p = err_from_is_err_and answer is in subst (Exact judging text) (sym (p.1 ∙ ap (λ y. Err y) p.2)) x

-- ---- a text is read, and then a phase comes after that

module _ {B : Type 0} (q : Phase SpelledTree B) (next : IsExact q) (text : List ℕ) where
  lex_ends : (e : Fault) → Exact lexing text (Err e) → Exact (reading >=> q) text (Err e)
  lex_ends e x = exact_err reading q reading_exact next text e (exact_err lexing parsing lexing_exact parsing_exact text e x)

  module _ (tokens : Tokens) (cut : Exact lexing text (Ok tokens)) where
    parse_ends : (e : Fault) → Exact parsing tokens (Err e) → Exact (reading >=> q) text (Err e)
    parse_ends e x = exact_err reading q reading_exact next text e (exact_on lexing parsing lexing_exact parsing_exact text tokens (Err e) cut x)

    read_goes : (tree : SpelledTree) (answer : Result B Fault) → Exact parsing tokens (Ok tree) → Exact q tree answer → Exact (reading >=> q) text answer
    read_goes tree answer x y = exact_on reading q reading_exact next text tree answer (exact_on lexing parsing lexing_exact parsing_exact text tokens (Ok tree) cut x) y

pub judge_lex_ends : (text : List ℕ) (e : Fault) → Exact lexing text (Err e) → Exact judging text (Err e)
judge_lex_ends = lex_ends judging_tree judging_tree_exact

pub judge_parse_ends : (text : List ℕ) (tokens : Tokens) → Exact lexing text (Ok tokens) → (e : Fault) → Exact parsing tokens (Err e) → Exact judging text (Err e)
judge_parse_ends = parse_ends judging_tree judging_tree_exact

judge_goes : (text : List ℕ) (tokens : Tokens) → Exact lexing text (Ok tokens) → (tree : SpelledTree) (answer : Result Typed Fault) → Exact parsing tokens (Ok tree)
    → Exact judging_tree tree answer → Exact judging text answer
judge_goes = read_goes judging_tree judging_tree_exact

-- the same of what the code gives to the parser, which is what the lexer made
pub read_by : (text : List ℕ) (found now : List code.Token) (end : Pos) → now ≡ found → end ≡ place_after text → Exact lexing text (Ok (tokens_in text found))
    → (tree : SpelledTree) → Exact parsing (record { list = map spelled now; end = end }) (Ok tree) → (answer : Result Typed Fault) → Exact judging_tree tree answer → Exact judging text answer
read_by text found now end e f cut tree x answer y =
    judge_goes text (tokens_in text found) cut tree answer (subst (λ t. Exact parsing t (Ok tree)) (tokens_same text found now end e f) x) y

-- ---- the tree with its types and ranges

module _ (tree : SpelledTree) where
  pub fits_ends : (e : Fault) → Exact limiting tree (Err e) → Exact judging_tree tree (Err e)
  fits_ends e x = exact_err limiting later limiting_exact later_exact tree e x

  pub fits_goes : (small : SpelledTree) → Exact limiting tree (Ok small) → (answer : Result Typed Fault) → Exact later small answer → Exact judging_tree tree answer
  fits_goes small is_small answer x = exact_on limiting later limiting_exact later_exact tree small answer is_small x

  pub resolving_ends : (e : Fault) → Exact resolving tree (Err e) → Exact later tree (Err e)
  resolving_ends e x = exact_err resolving from_names resolving_exact from_names_exact tree e x

  module _ (named : NamedText) (is_named : Exact resolving tree (Ok named)) where
    resolving_goes : (answer : Result Typed Fault) → Exact from_names named answer → Exact later tree answer
    resolving_goes answer x = exact_on resolving from_names resolving_exact from_names_exact tree named answer is_named x

    pub typing_ends : (e : Fault) → Exact typing named (Err e) → Exact later tree (Err e)
    typing_ends e x = resolving_goes (Err e) (exact_err typing ranging typing_exact ranging_exact named e x)

    pub typing_goes : (text : Typed) → Exact typing named (Ok text) → (answer : Result Typed Fault) → Exact ranging text answer → Exact later tree answer
    typing_goes text typed answer x = resolving_goes answer (exact_on typing ranging typing_exact ranging_exact named text answer typed x)

-- ---- the text with its ranges

module _ (text : Typed) where
  pub scoping_ends : (e : Fault) → Exact scoping text (Err e) → Exact ranging text (Err e)
  scoping_ends e x = exact_err scoping bounding scoping_exact bounding_exact text e x

  pub scoping_goes : (scoped : Typed) → Exact scoping text (Ok scoped) → (answer : Result Typed Fault) → Exact bounding scoped answer → Exact ranging text answer
  scoping_goes scoped is_scoped answer x = exact_on scoping bounding scoping_exact bounding_exact text scoped answer is_scoped x
