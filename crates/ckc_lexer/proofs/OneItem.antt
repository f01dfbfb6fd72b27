-- Bytes spell one item.
use Rattle.std.proofs.Common.{◌≡◌, ℕ, ◌+◌, ◌-◌, ◌<◌, ◌⊎◌, ◌||◌, ◌^◌, nat_le, Bool, true, false, Some, List, [], ◌∷◌, length, get_or, sym, refl, ap, ◌∙◌, ⊎_elim, inl, inr, arith, length-drop, append-nil}
use Rattle.ckc_syntax.specs.declared.tokens.TokenKind.TheVariants.{Name, Keyword, Number, Character, Text}
use Rattle.ckc_syntax.specs.declared.tokens.TokenKind.TheVariants as kinds
use Rattle.ckc_syntax.specs.declared.tokens.Directive.{Directive}
use Rattle.ckc_lexer.specs.declared.bytes.Class.{Class}
use Rattle.ckc_lexer.specs.declared.bytes.Class.TheVariants.{Blank, Letter, Digit, Apostrophe, Quotation, Slash, Hash, Mark, Other}
use Rattle.ckc_lexer.specs.declared.items.Item.{Item}
use Rattle.ckc_lexer.specs.declared.items.Item.TheVariants.{Gap, Token, Broken}
use Rattle.ckc_lexer.specs.declared.items.Context.{Context}
use Rattle.ckc_lexer.specs.Bytes.{is_space, class_of}
use Rattle.ckc_lexer.specs.Numbers.{has_suffix, IsNumber, NumberCases}
use Rattle.ckc_syntax.specs.Literals.{IsLiteral}
use Rattle.ckc_lexer.specs.Literals.{CharacterCases, TextCases}
use Rattle.ckc_lexer.specs.Comments.{IsOpen, IsClosed, IsSlashItem, mark, division, line, closed, open_at_end}
use Rattle.ckc_lexer.specs.Directives.{IsDirective, IsDirectiveLine, DirectiveCases, HashCases}
use Rattle.ckc_lexer.specs.Spelling.{SpelledBy, Spells}
use Rattle.std.specs.Prelude.{codes}
use Rattle.ckc_lexer.proofs.ByteLists.{all_nil}
use Rattle.ckc_lexer.proofs.CommentFronts.{closed_star}
use Rattle.ckc_lexer.proofs.LiteralFronts.{apostrophe, characters_end, literal_once}
use Rattle.ckc_lexer.proofs.DirectiveLaw.{body_complete}

number_once : (w : List ℕ) (n m : ℕ) (u v : Bool) → IsNumber w n u → IsNumber w m v → (n ≡ m) × (u ≡ v)
number_once w n m u v a b =
    let same : n ≡ m = a.0.2 ∙ sym b.0.2 in
    (same, a.1 ∙ (ap (λ k. has_suffix w || nat_le (2 ^ 31) k) same ∙ sym b.1))

pub number_ways : (w : List ℕ) (item : Item) → NumberCases w item → ((n : ℕ) × (u : Bool) × (item ≡ Token (Number n u)) × IsNumber w n u) ⊎ ((item ≡ Broken 103) × ((n : ℕ) (u : Bool) → IsNumber w n u → ⊥))
number_ways w Gap s = absurd s
number_ways w (Token (Number n u)) s = inl (n, u, refl, s)
number_ways w (Broken code) s = inr (ap Broken s.0, s.1)
number_ways w (Token Name) s = absurd s
number_ways w (Token Keyword) s = absurd s
number_ways w (Token (Character v)) s = absurd s
number_ways w (Token Text) s = absurd s
number_ways w (Token kinds.Mark) s = absurd s
number_ways w (Token (kinds.Directive d)) s = absurd s

pub character_ways : (w : List ℕ) (item : Item) → CharacterCases w item → ((v : ℕ) × (item ≡ Token (Character v)) × IsLiteral 39 w (v ∷ [])) ⊎ ((item ≡ Broken 103) × (length w ≡ 1))
character_ways w Gap s = absurd s
character_ways w (Token (Character v)) s = inl (v, refl, s)
character_ways w (Broken code) s = inr (ap Broken s.1, s.0)
character_ways w (Token Name) s = absurd s
character_ways w (Token Keyword) s = absurd s
character_ways w (Token (Number n u)) s = absurd s
character_ways w (Token Text) s = absurd s
character_ways w (Token kinds.Mark) s = absurd s
character_ways w (Token (kinds.Directive d)) s = absurd s

pub text_ways : (w : List ℕ) (item : Item) → TextCases w item → ((vs : List ℕ) × (item ≡ Token Text) × IsLiteral 34 w vs) ⊎ ((item ≡ Broken 103) × (length w ≡ 1))
text_ways w Gap s = absurd s
text_ways w (Token Text) s = inl (s.0, refl, s.1)
text_ways w (Broken code) s = inr (ap Broken s.1, s.0)
text_ways w (Token Name) s = absurd s
text_ways w (Token Keyword) s = absurd s
text_ways w (Token (Number n u)) s = absurd s
text_ways w (Token (Character v)) s = absurd s
text_ways w (Token kinds.Mark) s = absurd s
text_ways w (Token (kinds.Directive d)) s = absurd s

pub directive_ways : (w : List ℕ) (item : Item) → DirectiveCases w item → ((d : Directive) × (item ≡ Token (kinds.Directive d)) × IsDirective w d) ⊎ ((item ≡ Broken 105) × (IsDirectiveLine w → ⊥))
directive_ways w Gap s = absurd s
directive_ways w (Token (kinds.Directive d)) s = inl (d, refl, s)
directive_ways w (Broken code) s = inr (ap Broken s.0, s.3)
directive_ways w (Token Name) s = absurd s
directive_ways w (Token Keyword) s = absurd s
directive_ways w (Token (Number n u)) s = absurd s
directive_ways w (Token (Character v)) s = absurd s
directive_ways w (Token Text) s = absurd s
directive_ways w (Token kinds.Mark) s = absurd s

number_item : (w : List ℕ) (i j : Item) → NumberCases w i → NumberCases w j → i ≡ j
number_item w i j a b = ⊎_elim
    (λ x. ⊎_elim
    (λ y. let k = number_once w x.0 y.0 x.1 y.1 x.3 y.3 in x.2 ∙ ((λ t. Token (Number (k.0 t) (k.1 t))) ∙ sym y.2))
    (λ y. absurd (y.1 x.0 x.1 x.3))
    (number_ways w j b))
    (λ x. ⊎_elim
    (λ y. absurd (x.1 y.0 y.1 y.3))
    (λ y. x.0 ∙ sym y.0)
    (number_ways w j b))
    (number_ways w i a)

-- a literal has more than one byte
literal_long : (q : ℕ) (w vs : List ℕ) → IsLiteral q w vs → length w ≡ 1 → ⊥
literal_long q w vs l one = let k = characters_end l.1 in let size = length-drop 1 w in omega (arith, k.0)

character_item : (w : List ℕ) (i j : Item) → CharacterCases w i → CharacterCases w j → i ≡ j
character_item w i j a b = ⊎_elim
    (λ x. ⊎_elim
    (λ y. let k : x.0 ∷ [] ≡ y.0 ∷ [] = literal_once apostrophe w x.2 y.2 in let same : x.0 ≡ y.0 = cc in x.1 ∙ (ap (λ v. Token (Character v)) same ∙ sym y.1))
    (λ y. absurd (literal_long 39 w (x.0 ∷ []) x.2 y.1))
    (character_ways w j b))
    (λ x. ⊎_elim
    (λ y. absurd (literal_long 39 w (y.0 ∷ []) y.2 x.1))
    (λ y. x.0 ∙ sym y.0)
    (character_ways w j b))
    (character_ways w i a)

text_item : (w : List ℕ) (i j : Item) → TextCases w i → TextCases w j → i ≡ j
text_item w i j a b = ⊎_elim
    (λ x. ⊎_elim
    (λ y. x.1 ∙ sym y.1)
    (λ y. absurd (literal_long 34 w x.0 x.2 y.1))
    (text_ways w j b))
    (λ x. ⊎_elim
    (λ y. absurd (literal_long 34 w y.0 y.2 x.1))
    (λ y. x.0 ∙ sym y.0)
    (text_ways w j b))
    (text_ways w i a)

directive_once : (w : List ℕ) (d e : Directive) → IsDirective w d → IsDirective w e → d ≡ e
directive_once w d e a b = let k : Some d ≡ Some e = sym (body_complete w d a) ∙ body_complete w e b in cc

alone : (w : List ℕ) (d : Directive) → IsDirective w d → IsDirectiveLine w
alone w d i = record { front = w; spaces = []; directive = d; whole = sym (append-nil w); spaces_only = all_nil is_space; is_directive = i }

hash_item : (fresh : Bool) (w : List ℕ) (i j : Item) → HashCases fresh w i → HashCases fresh w j → i ≡ j
hash_item true w i j a b = ⊎_elim
    (λ x. ⊎_elim
    (λ y. x.1 ∙ (ap (λ d. Token (kinds.Directive d)) (directive_once w x.0 y.0 x.2 y.2) ∙ sym y.1))
    (λ y. absurd (y.1 (alone w x.0 x.2)))
    (directive_ways w j b))
    (λ x. ⊎_elim
    (λ y. absurd (x.1 (alone w y.0 y.2)))
    (λ y. x.0 ∙ sym y.0)
    (directive_ways w j b))
    (directive_ways w i a)
hash_item false w i j a b = a.1 ∙ sym b.1

-- a comment is open or closed, not both
not_both : (w : List ℕ) → IsClosed w → IsOpen w → ⊥
not_both w c o =
    let e : length w - 2 + 1 ≡ length w - 1 = omega (arith, c.whole) in
    o.no_end (length w - 2) (omega (arith, c.whole)) (omega (arith, c.whole)) c.star (ap (λ k. get_or w k 0) e ∙ c.slash)

two_stars : (b : ℕ) → b ≡ 47 → b ≡ 42 → ⊥
two_stars b e f = omega arith

not_equals : (w : List ℕ) → get_or w 1 0 ≡ 47 ⊎ get_or w 1 0 ≡ 42 → w ≡ codes "/=" → ⊥
not_equals w (inl h) e = let f = ap (λ z. get_or z 1 0) e in omega arith
not_equals w (inr h) e = let f = ap (λ z. get_or z 1 0) e in omega arith

slash_item : (w : List ℕ) (i j : Item) → IsSlashItem w i → IsSlashItem w j → i ≡ j
slash_item w i j (mark one e) (mark one' e') = e ∙ sym e'
slash_item w i j (mark one e) (division two e') = e ∙ sym e'
slash_item w i j (division two e) (mark one e') = e ∙ sym e'
slash_item w i j (division two e) (division two' e') = e ∙ sym e'
slash_item w i j (division two e) (line l e') = absurd (not_equals w (inl l.1) two)
slash_item w i j (division two e) (closed c e') = absurd (not_equals w (inr (closed_star w c)) two)
slash_item w i j (division two e) (open_at_end o e') = absurd (not_equals w (inr o.star) two)
slash_item w i j (line l e) (division two e') = absurd (not_equals w (inl l.1) two)
slash_item w i j (closed c e) (division two e') = absurd (not_equals w (inr (closed_star w c)) two)
slash_item w i j (open_at_end o e) (division two e') = absurd (not_equals w (inr o.star) two)
slash_item w i j (mark one e) (line l e') = absurd (omega (arith, one, l.0))
slash_item w i j (mark one e) (closed c e') = absurd (omega (arith, one, c.whole))
slash_item w i j (mark one e) (open_at_end o e') = absurd (omega (arith, one, o.begun))
slash_item w i j (line l e) (mark one e') = absurd (omega (arith, one, l.0))
slash_item w i j (line l e) (line l' e') = e ∙ sym e'
slash_item w i j (line l e) (closed c e') = e ∙ sym e'
slash_item w i j (line l e) (open_at_end o e') = absurd (two_stars (get_or w 1 0) l.1 o.star)
slash_item w i j (closed c e) (mark one e') = absurd (omega (arith, one, c.whole))
slash_item w i j (closed c e) (line l e') = e ∙ sym e'
slash_item w i j (closed c e) (closed c' e') = e ∙ sym e'
slash_item w i j (closed c e) (open_at_end o e') = absurd (not_both w c o)
slash_item w i j (open_at_end o e) (mark one e') = absurd (omega (arith, one, o.begun))
slash_item w i j (open_at_end o e) (line l e') = absurd (two_stars (get_or w 1 0) l.1 o.star)
slash_item w i j (open_at_end o e) (closed c e') = absurd (not_both w c o)
slash_item w i j (open_at_end o e) (open_at_end o' e') = e ∙ sym e'

class_item : (c : Class) (context : Context) (w : List ℕ) (i j : Item) → SpelledBy c context w i → SpelledBy c context w j → i ≡ j
class_item Blank context w i j a b = a.1 ∙ sym b.1
class_item Letter context w i j a b = a.1 ∙ sym b.1
class_item Digit context w i j a b = number_item w i j a.1 b.1
class_item Apostrophe context w i j a b = character_item w i j a b
class_item Quotation context w i j a b = text_item w i j a b
class_item Slash context w i j a b = slash_item w i j a b
class_item Hash context w i j a b = hash_item context.fresh w i j a b
class_item Mark context w i j a b = a.1 ∙ sym b.1
class_item Other context w i j a b = a.1 ∙ sym b.1

pub one_item : (context : Context) (w : List ℕ) (i j : Item) → Spells context w i → Spells context w j → i ≡ j
one_item context w i j a b = class_item (class_of (get_or w 0 0)) context w i j a b

-- no bytes spell nothing
pub not_empty : (context : Context) (w : List ℕ) (i : Item) → Spells context w i → 0 < length w
not_empty context [] i s = let e : 0 ≡ 1 = s.0 in absurd (omega (arith, e))
not_empty context (b ∷ w) i s = omega arith
