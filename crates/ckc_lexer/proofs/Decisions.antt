-- Whether bytes spell an item can be worked out.
use Rattle.std.proofs.Common.{◌≡◌, ◌⊎◌, inl, inr, ⊎_elim, ℕ, suc, ◌+◌, ◌-◌, ◌^◌, ◌<◌, ◌≤◌, Bool, true, false, not, ◌||◌, nat_le, Option, Some, None, is_none, List, [], ◌∷◌, ◌++◌, length, take, drop, get_or, codes, refl, sym, ap, ◌∙◌, subst, arith, take-append-drop, length-append}
use Rattle.std.proofs.lemmas.Bool.{false≢true}
use Rattle.std.proofs.lemmas.List.{take_at, drop_at}
use Rattle.ckc_base.proofs.Told.{Told, SomeTold, both, three, four, turned, denied, is_true, less, at_most, equal, same_list, some_below}
use Rattle.ckc_syntax.specs.declared.tokens.TokenKind.TheVariants.{Name, Keyword, Number, Character, Text}
use Rattle.ckc_syntax.specs.declared.tokens.TokenKind.TheVariants as kinds
use Rattle.ckc_syntax.specs.declared.tokens.Directive.{Directive}
use Rattle.ckc_syntax.specs.declared.tokens.Directive.TheVariants.{Stdio, Stdlib, Stdchecked, ScopeOn, ScopeOff}
use Rattle.ckc_syntax.specs.Bytes.{AllBytes}
use Rattle.ckc_syntax.specs.Digits.{is_digit_in, value_in}
use Rattle.ckc_syntax.specs.Literals.{IsLiteral}
use Rattle.ckc_lexer.specs.declared.bytes.Class.{Class}
use Rattle.ckc_lexer.specs.declared.bytes.Class.TheVariants.{Blank, Letter, Digit, Apostrophe, Quotation, Slash, Hash, Mark, Other}
use Rattle.ckc_lexer.specs.declared.items.Item.{Item}
use Rattle.ckc_lexer.specs.declared.items.Item.TheVariants.{Gap, Token, Broken}
use Rattle.ckc_lexer.specs.declared.items.Context.{Context}
use Rattle.ckc_lexer.specs.Bytes.{class_of, is_word_byte, is_space, is_feed}
use Rattle.ckc_lexer.specs.Words.{word_item}
use Rattle.ckc_lexer.specs.Numbers.{has_suffix, without_suffix, radix_of, digits_of, IsNumeral, NumberCases}
use Rattle.ckc_lexer.specs.Literals.{CharacterCases, TextCases}
use Rattle.ckc_lexer.specs.Comments.{IsLineComment, IsOpen, IsClosed, IsSlashItem, mark, division, line, closed, open_at_end}
use Rattle.ckc_lexer.specs.Directives.{IsDirective, IsDirectiveLine, DirectiveCases, HashCases}
use Rattle.ckc_lexer.specs.Marks.{is_mark_text}
use Rattle.ckc_lexer.specs.Spelling.{SpelledBy, Spells}
use Rattle.ckc_lexer.specs.code.DirectiveReading.{body_of}
use Rattle.ckc_lexer.proofs.DirectiveLaw.{body_sound, body_complete}
use Rattle.ckc_lexer.proofs.LiteralDecisions.{literal_told, character_told}
use Rattle.ckc_lexer.proofs.OneItem.{character_ways, text_ways}
use Rattle.ckc_lexer.proofs.Searches.{only_one, the_one, with_fact, exists, bytes_told}

-- ---- numbers

-- whether digits without a suffix stand for a number
numeral_told : (w : List ℕ) → SomeTold (IsNumeral w)
numeral_told w =
    only_one (IsNumeral w) (value_in (radix_of w) (digits_of w)) (λ n h. h.2)
    (four (less 0 (length (digits_of w))) (bytes_told (is_digit_in (radix_of w)) (digits_of w)) (inl refl) (less (value_in (radix_of w) (digits_of w)) (2 ^ 32)))

-- by the number that the digits stand for
by_numeral : (w : List ℕ) → SomeTold (IsNumeral (without_suffix w)) → (item : Item) × NumberCases w item
by_numeral w (inl x) = (Token (Number x.0 (has_suffix w || nat_le (2 ^ 31) x.0)), (x.1, refl))
by_numeral w (inr none) = (Broken 103, (refl, λ n u is. none n is.0))

-- bytes are a number, or they are refused as none
pub some_number : (w : List ℕ) → (item : Item) × NumberCases w item
some_number w = by_numeral w (numeral_told (without_suffix w))

-- ---- literals

-- by whether it is a character, and of one byte
by_character : (w : List ℕ) → SomeTold (λ v. IsLiteral 39 w (v ∷ [])) → Told (length w ≡ 1) → SomeTold (CharacterCases w)
by_character w (inl x) one = inl (Token (Character x.0), x.1)
by_character w (inr none) (inl one) = inl (Broken 103, (one, refl))
by_character w (inr none) (inr many) = inr (λ item s. ⊎_elim (λ x. none x.0 x.2) (λ y. many y.1) (character_ways w item s))

-- by whether it is a string, and of one byte
by_text : (w : List ℕ) → SomeTold (IsLiteral 34 w) → Told (length w ≡ 1) → SomeTold (TextCases w)
by_text w (inl x) one = inl (Token Text, x)
by_text w (inr none) (inl one) = inl (Broken 103, (one, refl))
by_text w (inr none) (inr many) = inr (λ item s. ⊎_elim (λ x. none x.0 x.2) (λ y. many y.1) (text_ways w item s))

-- ---- comments

-- whether it is a comment of one line
line_told : (w : List ℕ) → Told (IsLineComment w)
line_told w = three (at_most 2 (length w)) (equal (get_or w 1 0) 47) (bytes_told (λ b. not (is_feed b)) w)

-- a comment ends at k
abbrev EndsAt : List ℕ → ℕ → Type 0
EndsAt w k = (2 ≤ k) × (k + 1 < length w) × (get_or w k 0 ≡ 42) × (get_or w (k + 1) 0 ≡ 47)

-- whether a comment ends at k
end_told : (w : List ℕ) (k : ℕ) → Told (EndsAt w k)
end_told w k = four (at_most 2 k) (less (k + 1) (length w)) (equal (get_or w k 0) 42) (equal (get_or w (k + 1) 0) 47)

-- by how it begins, and where it ends
by_ends : (w : List ℕ) → Told ((2 ≤ length w) × (get_or w 1 0 ≡ 42)) → ((k : ℕ) × (k < length w) × EndsAt w k) ⊎ ((k : ℕ) → k < length w → ¬ EndsAt w k) → Told (IsOpen w)
by_ends w (inr wrong) found = inr (λ o. wrong (o.begun, o.star))
by_ends w (inl h) (inl found) = inr (λ o. o.no_end found.0 found.2.0 found.2.1 found.2.2 found.2.3)
by_ends w (inl h) (inr none) = inl (record { begun = h.0; star = h.1; no_end = λ k le lt a b. none k (omega (arith, lt)) (le, lt, a, b) })

-- whether it is a comment that is open
open_told : (w : List ℕ) → Told (IsOpen w)
open_told w = by_ends w (both (at_most 2 (length w)) (equal (get_or w 1 0) 42)) (some_below (EndsAt w) (end_told w) (length w))

-- what a closed comment has
abbrev ClosedParts : List ℕ → Type 0
ClosedParts w = (4 ≤ length w) × IsOpen (take (length w - 1) w) × (get_or w (length w - 2) 0 ≡ 42) × (get_or w (length w - 1) 0 ≡ 47)

-- what has this is a closed comment
is_closed : (w : List ℕ) → ClosedParts w → IsClosed w
is_closed w h = record { whole = h.0; open_before = h.1; star = h.2; slash = h.3 }

-- whether it is a closed comment
closed_told : (w : List ℕ) → Told (IsClosed w)
closed_told w = turned (is_closed w) (λ c. (c.whole, c.open_before, c.star, c.slash))
    (four (at_most 4 (length w)) (open_told (take (length w - 1) w)) (equal (get_or w (length w - 2) 0) 42) (equal (get_or w (length w - 1) 0) 47))

-- nothing begun by a slash, if none of the five ways is taken
no_slash : (w : List ℕ) → ¬ (length w ≡ 1) → ¬ (w ≡ codes "/=") → ¬ IsLineComment w → ¬ IsClosed w → ¬ IsOpen w → (item : Item) → IsSlashItem w item → ⊥
no_slash w a b c d f item (mark x e) = a x
no_slash w a b c d f item (division x e) = b x
no_slash w a b c d f item (line x e) = c x
no_slash w a b c d f item (closed x e) = d x
no_slash w a b c d f item (open_at_end x e) = f x

-- by the first of the five ways that is taken
by_slash : (w : List ℕ) → Told (length w ≡ 1) → Told (w ≡ codes "/=") → Told (IsLineComment w) → Told (IsClosed w) → Told (IsOpen w) → SomeTold (IsSlashItem w)
by_slash w (inl x) b c d f = inl (Token kinds.Mark, mark x refl)
by_slash w (inr a) (inl x) c d f = inl (Token kinds.Mark, division x refl)
by_slash w (inr a) (inr b) (inl x) d f = inl (Gap, line x refl)
by_slash w (inr a) (inr b) (inr c) (inl x) f = inl (Gap, closed x refl)
by_slash w (inr a) (inr b) (inr c) (inr d) (inl x) = inl (Broken 102, open_at_end x refl)
by_slash w (inr a) (inr b) (inr c) (inr d) (inr f) = inr (no_slash w a b c d f)

-- whether bytes begun by a slash spell something
slash_told : (w : List ℕ) → SomeTold (IsSlashItem w)
slash_told w = by_slash w (equal (length w) 1) (same_list equal w (codes "/=")) (line_told w) (closed_told w) (open_told w)

-- ---- directives

-- bytes that begin with `#` are `#` and what stands after it
begins : (w rest : List ℕ) → w ≡ codes "#" ++ rest → w ≡ codes "#" ++ drop 1 w
begins w rest e = e ∙ ap (λ v. codes "#" ++ v) (sym (ap (drop 1) e))

-- a directive begins with `#`
directive_begins : (w : List ℕ) (d : Directive) → IsDirective w d → w ≡ codes "#" ++ drop 1 w
directive_begins w Stdio i = begins w _ i.whole
directive_begins w Stdlib i = begins w _ i.whole
directive_begins w Stdchecked i = begins w _ i.whole
directive_begins w ScopeOn (inl i) = begins w _ i.whole
directive_begins w ScopeOn (inr i) = begins w _ i.whole
directive_begins w ScopeOff (inl i) = begins w _ i.whole
directive_begins w ScopeOff (inr i) = begins w _ i.whole

-- by what the function that reads a directive answers
by_body : (w : List ℕ) (o : Option Directive) → body_of (drop 1 w) ≡ o → Told (w ≡ codes "#" ++ drop 1 w) → SomeTold (IsDirective w)
by_body w (Some d) e (inl whole) = inl (d, body_sound (drop 1 w) w d whole e)
by_body w None e (inl whole) = inr (λ d i. false≢true (sym (ap is_none (sym e ∙ body_complete w d i))))
by_body w o e (inr wrong) = inr (λ d i. wrong (directive_begins w d i))

-- whether it is a directive
directive_told : (w : List ℕ) → SomeTold (IsDirective w)
directive_told w = by_body w (body_of (drop 1 w)) refl (same_list equal w (codes "#" ++ drop 1 w))

-- the first k bytes are a directive, and the others are spaces
abbrev LineAt : List ℕ → ℕ → Type 0
LineAt w k = AllBytes is_space (drop k w) × ((d : Directive) × IsDirective (take k w) d)

-- whether the first k bytes are a directive, and the others are spaces
line_at_told : (w : List ℕ) (k : ℕ) → Told (LineAt w k)
line_at_told w k = both (bytes_told is_space (drop k w)) (exists (IsDirective (take k w)) (directive_told (take k w)))

-- the line of a directive is cut after some of its bytes
line_is_at : (w : List ℕ) (l : IsDirectiveLine w) → (length l.front < suc (length w)) × LineAt w (length l.front)
line_is_at w l =
    let size = length-append l.front l.spaces in
    let whole = ap length l.whole in
    let front : l.front ≡ take (length l.front) w = sym (ap (take (length l.front)) l.whole ∙ take_at l.front l.spaces (length l.front) refl) in
    let behind : l.spaces ≡ drop (length l.front) w = sym (ap (drop (length l.front)) l.whole ∙ drop_at l.front l.spaces (length l.front) refl) in
    (omega arith, (subst (AllBytes is_space) behind l.spaces_only, (l.directive, subst (λ v. IsDirective v l.directive) front l.is_directive)))

-- by where the directive of the line ends, if it has one
by_lines : (w : List ℕ) → ((k : ℕ) × (k < suc (length w)) × LineAt w k) ⊎ ((k : ℕ) → k < suc (length w) → ¬ LineAt w k) → Told (IsDirectiveLine w)
by_lines w (inl x) = inl (record {
  front = take x.0 w;
  spaces = drop x.0 w;
  directive = x.2.1.0;
  whole = sym (take-append-drop x.0 w);
  spaces_only = x.2.0;
  is_directive = x.2.1.1;
})
by_lines w (inr none) = inr (λ l. let k = line_is_at w l in none (length l.front) k.0 k.1)

-- whether it is the line of a directive
directive_line_told : (w : List ℕ) → Told (IsDirectiveLine w)
directive_line_told w = by_lines w (some_below (LineAt w) (line_at_told w) (suc (length w)))

-- a line begun by `#` that is no directive
abbrev IsBadLine : List ℕ → Type 0
IsBadLine w = (0 < length w) × AllBytes (λ b. not (is_feed b)) w × (IsDirectiveLine w → ⊥)

-- nothing begun by `#`, if it is neither a directive nor a bad line
no_hash : (w : List ℕ) → ((d : Directive) → ¬ IsDirective w d) → ¬ IsBadLine w → (item : Item) → DirectiveCases w item → ⊥
no_hash w none wrong Gap s = s
no_hash w none wrong (Token (kinds.Directive d)) s = none d s
no_hash w none wrong (Token Name) s = s
no_hash w none wrong (Token Keyword) s = s
no_hash w none wrong (Token (Number n u)) s = s
no_hash w none wrong (Token (Character v)) s = s
no_hash w none wrong (Token Text) s = s
no_hash w none wrong (Token kinds.Mark) s = s
no_hash w none wrong (Broken code) s = wrong (s.1, s.2, s.3)

-- by whether it is a directive, or a bad line
by_directive : (w : List ℕ) → SomeTold (IsDirective w) → Told (IsBadLine w) → SomeTold (DirectiveCases w)
by_directive w (inl x) bad = inl (Token (kinds.Directive x.0), x.1)
by_directive w (inr none) (inl bad) = inl (Broken 105, (refl, bad.0, bad.1, bad.2))
by_directive w (inr none) (inr wrong) = inr (no_hash w none wrong)

-- whether bytes begun by `#` spell something
hash_told : (fresh : Bool) (w : List ℕ) → SomeTold (HashCases fresh w)
hash_told true w = by_directive w (directive_told w) (three (less 0 (length w)) (bytes_told (λ b. not (is_feed b)) w) (denied (directive_line_told w)))
hash_told false w = with_fact (length w ≡ 1) (λ item. item ≡ Broken 101) (equal (length w) 1) (the_one (Broken 101))

-- ---- all items

-- whether bytes of this class spell something
class_told : (c : Class) (context : Context) (w : List ℕ) → SomeTold (SpelledBy c context w)
class_told Blank context w = with_fact (length w ≡ 1) (λ item. item ≡ Gap) (equal (length w) 1) (the_one Gap)
class_told Letter context w = with_fact (AllBytes is_word_byte w) (λ item. item ≡ word_item context.checked w) (bytes_told is_word_byte w) (the_one (word_item context.checked w))
class_told Digit context w = with_fact (AllBytes is_word_byte w) (NumberCases w) (bytes_told is_word_byte w) (inl (some_number w))
class_told Apostrophe context w = by_character w (character_told w) (equal (length w) 1)
class_told Quotation context w = by_text w (literal_told 34 w) (equal (length w) 1)
class_told Slash context w = slash_told w
class_told Hash context w = hash_told context.fresh w
class_told Mark context w = with_fact (is_mark_text w ≡ true) (λ item. item ≡ Token kinds.Mark) (is_true (is_mark_text w)) (the_one (Token kinds.Mark))
class_told Other context w = with_fact (length w ≡ 1) (λ item. item ≡ Broken 101) (equal (length w) 1) (the_one (Broken 101))

-- whether bytes spell something
pub spells_told : (context : Context) (w : List ℕ) → SomeTold (Spells context w)
spells_told context w = class_told (class_of (get_or w 0 0)) context w
