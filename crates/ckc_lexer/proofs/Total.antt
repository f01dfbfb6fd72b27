-- Each text is read to an end: some item stands at each place.
use Rattle.std.proofs.Common.{◌≡◌, ℕ, suc, ◌<◌, ◌≤◌, ◌||◌, ◌==◌, not, Bool, true, false, cond, zero, Some, is_none, Ok, Err, List, [], ◌∷◌, length, take, drop, sym, refl, ap, ◌∙◌, subst, ⊎_elim, arith, length-drop, length-append}
use Rattle.std.proofs.lemmas.Bool.{false≢true, cases_lt}
use Rattle.std.proofs.lemmas.List.{nil_from_length}
use Rattle.ckc_syntax.specs.declared.tokens.TokenKind.TheVariants.{Number}
use Rattle.ckc_syntax.specs.declared.tokens.TokenKind.TheVariants as kinds
use Rattle.ckc_syntax.specs.declared.tokens.Directive.{Directive}
use Rattle.ckc_lexer.specs.declared.bytes.Class.{Class}
use Rattle.ckc_lexer.specs.declared.bytes.Class.TheVariants.{Blank, Letter, Digit, Apostrophe, Quotation, Slash, Hash, Mark, Other}
use Rattle.ckc_lexer.specs.declared.items.Item.{Item}
use Rattle.ckc_lexer.specs.declared.items.Item.TheVariants.{Gap, Token, Broken}
use Rattle.ckc_lexer.specs.declared.items.Context.{Context}
use Rattle.ckc_lexer.specs.declared.items.Here.{Here}
use Rattle.ckc_syntax.specs.Bytes.{AllBytes, is_digit}
use Rattle.ckc_syntax.specs.Longest.{Longest}
use Rattle.ckc_lexer.specs.Bytes.{class_of, is_blank, is_letter, is_mark, is_word_byte, is_space, is_feed}
use Rattle.ckc_lexer.specs.Comments.{mark}
use Rattle.ckc_lexer.specs.Cut.{is_stdchecked}
use Rattle.ckc_lexer.specs.Directives.{IsDirective, IsDirectiveLine, HashCases}
use Rattle.ckc_lexer.specs.code.DirectiveReading.{body_of, include_or_pragma}
use Rattle.ckc_lexer.specs.Marks.{is_mark_text}
use Rattle.ckc_base.specs.Outcomes.{Outcome}
use Rattle.ckc_syntax.specs.Spelled.{Spelled}
use Rattle.ckc_base.proofs.Turns.{ahead}
use Rattle.ckc_lexer.specs.code.Reading.{context_at, moved, pos_at, Reads, ends, breaks, skips, takes}
use Rattle.ckc_lexer.specs.Spelling.{SpelledBy, Spells}
use Rattle.ckc_lexer.specs.Words.{word_item}
use Rattle.ckc_lexer.proofs.Ascii.{large_class}
use Rattle.ckc_lexer.proofs.ByteLists.{all_nil, all_cons}
use Rattle.ckc_lexer.proofs.Decisions.{some_number, spells_told}
use Rattle.ckc_lexer.proofs.DirectiveLaw.{body_complete}
use Rattle.ckc_lexer.proofs.MarkFronts.{single}
use Rattle.ckc_lexer.proofs.Searches.{longest_told}

-- what the class of a byte says of it
abbrev Says : Class → Bool → Bool → Bool → Bool → Type 0
Says Letter blank letter digit punctuation = letter ≡ true
Says Digit blank letter digit punctuation = digit ≡ true
Says Hash blank letter digit punctuation = blank ≡ false
Says Mark blank letter digit punctuation = punctuation ≡ true
Says _ blank letter digit punctuation = Unit {0}

says : (blank letter digit apostrophe quotation slash hash punctuation : Bool) →
    Says (cond blank Blank (cond letter Letter (cond digit Digit (cond apostrophe Apostrophe (cond quotation Quotation (cond slash Slash (cond hash Hash (cond punctuation Mark Other)))))))) blank letter digit punctuation
says true l d a q s h m = tt
says false true d a q s h m = refl
says false false true a q s h m = refl
says false false false true q s h m = tt
says false false false false true s h m = tt
says false false false false false true h m = tt
says false false false false false false true m = refl
says false false false false false false false true = refl
says false false false false false false false false = tt

class_says : (b : ℕ) (c : Class) → class_of b ≡ c → Says c (is_blank b) (is_letter b) (is_digit b) (is_mark b)
class_says b c e = subst (λ c. Says c (is_blank b) (is_letter b) (is_digit b) (is_mark b)) e (says (is_blank b) (is_letter b) (is_digit b) (b == 39) (b == 34) (b == 47) (b == 35) (is_mark b))

alone : (test : ℕ → Bool) (b : ℕ) → test b ≡ true → AllBytes test (b ∷ [])
alone test b t = all_cons test b [] t (all_nil test)

digit_is_word : (letter digit : Bool) → digit ≡ true → (letter || digit) ≡ true
digit_is_word true digit e = refl
digit_is_word false digit e = e

letter_is_word : (letter digit : Bool) → letter ≡ true → (letter || digit) ≡ true
letter_is_word letter digit e = ap (λ t. t || digit) e

no_feed : (space feed : Bool) → (space || feed) ≡ false → not feed ≡ true
no_feed space true e = absurd (false≢true (sym e ∙ or_true space))
  where
    or_true : (t : Bool) → (t || true) ≡ true
    or_true true = refl
    or_true false = refl
no_feed space false e = refl

no_directive : (w : List ℕ) (d : Directive) → length w ≤ 1 → IsDirective w d → ⊥
unfolding body_of include_or_pragma
no_directive w d short is =
    let size = length-drop 1 w in
    let none : drop 1 w ≡ [] = nil_from_length (drop 1 w) (omega arith) in
    let found : body_of [] ≡ Some d = sym (ap body_of none) ∙ body_complete w d is in
    false≢true (sym (ap is_none found))

no_line : (b : ℕ) → IsDirectiveLine (b ∷ []) → ⊥
no_line b l =
    let size = length-append l.front l.spaces in
    let whole = ap length l.whole in
    no_directive l.front l.directive (omega arith) l.is_directive

apart : Mark ≡ Other → ⊥
apart e = cc

-- a mark of one byte
mark_alone : (b : ℕ) → class_of b ≡ Mark → is_mark b ≡ true → is_mark_text (b ∷ []) ≡ true
mark_alone b class is = ⊎_elim
    (λ (small : b < 256). single b small is)
    (λ (large : 256 ≤ b). absurd (apart (sym class ∙ large_class b (omega arith))))
    (cases_lt b 256)

-- a first byte alone spells something
module _ (context : Context) (b : ℕ) where
  -- `#` alone: a bad line, or no token
  by_fresh : (fresh : Bool) → is_space b || is_feed b ≡ false → (item : Item) × HashCases fresh (b ∷ []) item
  by_fresh true none = (Broken 105, (refl, omega arith, alone (λ b. not (is_feed b)) b (no_feed (is_space b) (is_feed b) none), no_line b))
  by_fresh false none = (Broken 101, (refl, refl))

  -- by the class of the byte
  by_class : (c : Class) → class_of b ≡ c → (item : Item) × SpelledBy c context (b ∷ []) item
  by_class Blank e = (Gap, (refl, refl))
  by_class Letter e =
      let word = letter_is_word (is_letter b) (is_digit b) (class_says b Letter e) in
      (word_item context.checked (b ∷ []), (alone is_word_byte b word, refl))
  by_class Digit e =
      let word = alone is_word_byte b (digit_is_word (is_letter b) (is_digit b) (class_says b Digit e)) in
      let x = some_number (b ∷ []) in
      (x.0, (word, x.1))
  by_class Apostrophe e = (Broken 103, (refl, refl))
  by_class Quotation e = (Broken 103, (refl, refl))
  by_class Slash e = (Token kinds.Mark, mark refl refl)
  by_class Hash e = by_fresh context.fresh (class_says b Hash e)
  by_class Mark e = (Token kinds.Mark, (mark_alone b e (class_says b Mark e), refl))
  by_class Other e = (Broken 101, (refl, refl))

  -- so does each byte
  some_item : (item : Item) × Spells context (b ∷ []) item
  some_item = by_class (class_of b) refl

-- a text that is not empty has a longest front that is spelled
some_longest : (context : Context) (b : ℕ) (bs : List ℕ) → (n : ℕ) × (item : Item) × Longest (Spells context) (b ∷ bs) n item
some_longest context b bs = ⊎_elim
    (λ found. found)
    (λ none. let x = some_item context b in absurd (none 1 x.0 (omega arith) (omega arith) x.1))
    (longest_told (Spells context) (spells_told context) (b ∷ bs))

-- how the rest of a text ends, after its first item, is how the text ends
module _ (here : Here) (checked : Bool) (text : List ℕ) where
  -- by the first item
  step_on : (n : ℕ) (item : Item) → Longest (Spells (context_at here checked)) text n item →
      ((there : Here) (said : Bool) → (o : Outcome (List Spelled)) × Reads there said (drop n text) o) → (o : Outcome (List Spelled)) × Reads here checked text o
  step_on n Gap l rest = let r = rest (moved here (take n text)) checked in (r.0, skips l r.1)
  step_on n (Token kind) l rest =
      let r = rest (moved here (take n text)) (checked || is_stdchecked (Token kind)) in
      (ahead (record { kind = kind; text = take n text; pos = pos_at here } ∷ []) r.0, takes l r.1 refl)
  step_on n (Broken code) l rest = (Err (record { code = code; pos = pos_at here }), breaks l)

-- Each text ends somehow when it is read.
reads_within : (k : ℕ) (here : Here) (checked : Bool) (text : List ℕ) → length text ≤ k → (o : Outcome (List Spelled)) × Reads here checked text o
reads_within k here checked [] le = (Ok [], ends)
reads_within zero here checked (b ∷ bs) le = absurd (omega (arith, le))
reads_within (suc k) here checked (b ∷ bs) le =
    let x = some_longest (context_at here checked) b bs in
    step_on here checked (b ∷ bs) x.0 x.1 x.2
    (λ there said. reads_within k there said (drop x.0 (b ∷ bs)) (let e = length-drop x.0 (b ∷ bs) in omega (arith, le, x.2.some)))

-- each text ends somehow
pub reads_some : (here : Here) (checked : Bool) (text : List ℕ) → (o : Outcome (List Spelled)) × Reads here checked text o
reads_some here checked text = reads_within (length text) here checked text (omega arith)
