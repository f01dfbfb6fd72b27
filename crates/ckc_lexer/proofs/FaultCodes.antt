-- The codes of the first faults of texts.
use Rattle.std.proofs.Common.{◌≡◌, ℕ, ◌≤◌, ◌⊎◌, Bool, true, false, cond, List, [], get_or, sym, refl, ap, subst, ⊎_elim, inl, inr, lit≤}
use Rattle.ckc_base.specs.declared.places.Refusal.{Refusal}
use Rattle.ckc_syntax.specs.declared.tokens.TokenKind.TheVariants.{Name, Keyword}
use Rattle.ckc_lexer.specs.declared.bytes.Class.{Class}
use Rattle.ckc_lexer.specs.declared.bytes.Class.TheVariants.{Blank, Letter, Digit, Apostrophe, Quotation, Slash, Hash, Mark, Other}
use Rattle.ckc_lexer.specs.declared.items.Item.{Item}
use Rattle.ckc_lexer.specs.declared.items.Item.TheVariants.{Gap, Token, Broken}
use Rattle.ckc_lexer.specs.declared.items.Context.{Context}
use Rattle.ckc_lexer.specs.Bytes.{class_of}
use Rattle.ckc_lexer.specs.Comments.{IsSlashItem, mark, division, line, closed, open_at_end}
use Rattle.ckc_lexer.specs.Cut.{FirstFault, FirstBroken, context_after}
use Rattle.ckc_lexer.specs.Directives.{HashCases}
use Rattle.ckc_lexer.specs.Literals.{CharacterCases, TextCases}
use Rattle.ckc_lexer.specs.Numbers.{NumberCases}
use Rattle.ckc_lexer.specs.Spelling.{SpelledBy}
use Rattle.ckc_lexer.proofs.OneItem.{number_ways, character_ways, text_ways, directive_ways}

abbrev InCodes : ℕ → Type 0
InCodes code = (101 ≤ code) × (code ≤ 105)

-- what is broken has one of the codes
abbrev Coded : Item → Type 0
Coded (Broken code) = InCodes code
Coded _ = Unit {0}

coded : (item other : Item) → item ≡ other → Coded other → Coded item
coded item other e c = subst Coded (sym e) c

word_coded : (long keyword : Bool) → Coded (cond long (Broken 104) (cond keyword (Token Keyword) (Token Name)))
word_coded true keyword = (lit≤ tt, lit≤ tt)
word_coded false true = tt
word_coded false false = tt

number_coded : (w : List ℕ) (item : Item) → NumberCases w item → Coded item
number_coded w item s = ⊎_elim (λ x. coded item _ x.2 tt) (λ x. coded item (Broken 103) x.0 (lit≤ tt, lit≤ tt)) (number_ways w item s)

character_coded : (w : List ℕ) (item : Item) → CharacterCases w item → Coded item
character_coded w item s = ⊎_elim (λ x. coded item _ x.1 tt) (λ x. coded item (Broken 103) x.0 (lit≤ tt, lit≤ tt)) (character_ways w item s)

text_coded : (w : List ℕ) (item : Item) → TextCases w item → Coded item
text_coded w item s = ⊎_elim (λ x. coded item _ x.1 tt) (λ x. coded item (Broken 103) x.0 (lit≤ tt, lit≤ tt)) (text_ways w item s)

slash_coded : (w : List ℕ) (item : Item) → IsSlashItem w item → Coded item
slash_coded w item (mark one e) = coded item _ e tt
slash_coded w item (division two e) = coded item _ e tt
slash_coded w item (line l e) = coded item _ e tt
slash_coded w item (closed c e) = coded item _ e tt
slash_coded w item (open_at_end o e) = coded item (Broken 102) e (lit≤ tt, lit≤ tt)

hash_coded : (fresh : Bool) (w : List ℕ) (item : Item) → HashCases fresh w item → Coded item
hash_coded true w item s = ⊎_elim (λ x. coded item _ x.1 tt) (λ x. coded item (Broken 105) x.0 (lit≤ tt, lit≤ tt)) (directive_ways w item s)
hash_coded false w item s = coded item (Broken 101) s.1 (lit≤ tt, lit≤ tt)

item_coded : (c : Class) (context : Context) (w : List ℕ) (item : Item) → SpelledBy c context w item → Coded item
item_coded Blank context w item s = coded item Gap s.1 tt
item_coded Letter context w item s = coded item _ s.1 (word_coded _ _)
item_coded Digit context w item s = number_coded w item s.1
item_coded Apostrophe context w item s = character_coded w item s
item_coded Quotation context w item s = text_coded w item s
item_coded Slash context w item s = slash_coded w item s
item_coded Hash context w item s = hash_coded context.fresh w item s
item_coded Mark context w item s = coded item _ s.1 tt
item_coded Other context w item s = coded item (Broken 101) s.1 (lit≤ tt, lit≤ tt)

broken_code : (text : List ℕ) (r : Refusal) → FirstBroken text r → InCodes r.code
broken_code text r f =
    let spells = (f.cut.each f.before f.part [] refl).spells in
    subst Coded f.broken (item_coded (class_of (get_or f.part.bytes 0 0)) (context_after f.before) f.part.bytes f.part.item spells)

pub fault_codes : (text : List ℕ) (r : Refusal) → FirstFault text r → InCodes r.code ⊎ (r.code ≡ 201)
fault_codes text r (inl f) = inr (ap (λ (x : Refusal). x.code) f.1)
fault_codes text r (inr f) = inl (broken_code text r f.1)
