-- From the tokens of a text to its typed tree.
use Rattle.std.proofs.Common.{◌≡◌, ◌∙◌, sym, ap, true, List, [], ◌∷◌}
use Rattle.std.proofs.lemmas.List.Elements.{All-nil, All-cons, All-head, All-tail}
use Rattle.ckc_syntax.specs.Spelled.{Spelled, Tokens}
use Rattle.ckc_syntax.specs.Trees.{Tree, NamedTree}
use Rattle.ckc_syntax.specs.declared.tree.Name.{Name}
use Rattle.ckc_syntax.specs.declared.tree.NamedText.{NamedText}
use Rattle.ckc_parser_grammar.specs.declared.kind.Kind.TheVariants as kind
use Rattle.ckc_parser_grammar.specs.code.Signs.{signs, signs_after}
use Rattle.ckc_parser_grammar.specs.code.Derives.{Sign}
use Rattle.ckc_parser.specs.Phase.{parsing}
use Rattle.ckc_typed.specs.declared.typed.Note.{Note}
use Rattle.ckc_typed.specs.declared.typed.Typed.{Typed}
use Rattle.ckc_typed_welltyped.specs.Texts.{TypedAs}
use Rattle.ckc_blame_words.specs.Literals.{HoldsWord, TokensHoldWords, tree_has_words}
use Rattle.ckc_parser_grammar.proofs.Same.{same_tree}
use Rattle.ckc_blame_words.proofs.Grammar.{SignsHoldWords, tree_words}
use Rattle.ckc_blame_words.proofs.Noteless.{of_tree}

abbrev TokenHolds : Spelled → Type 0
TokenHolds t = HoldsWord t.kind

abbrev SignHolds : Sign → Type 0
SignHolds x = HoldsWord x.token.kind

signs_after_hold : (x : Spelled) (ys : List Spelled) → TokensHoldWords ys → SignsHoldWords (signs_after x ys)
signs_after_hold x [] h = All-nil SignHolds
signs_after_hold x (y ∷ ys) h = All-cons SignHolds _ _ (All-head TokenHolds y ys h) (signs_after_hold y ys (All-tail TokenHolds y ys h))

signs_hold : (xs : List Spelled) → TokensHoldWords xs → SignsHoldWords (signs xs)
signs_hold [] h = All-nil SignHolds
signs_hold (x ∷ xs) h = All-cons SignHolds _ _ (All-head TokenHolds x xs h) (signs_after_hold x xs (All-tail TokenHolds x xs h))

pub parsed_words : (tokens : Tokens) (whole : Tree) → TokensHoldWords tokens.list → parsing.Makes tokens whole → tree_has_words whole ≡ true
parsed_words tokens whole h parsed = tree_words (signs tokens.list) kind.End whole (signs_hold tokens.list h) ((same_tree tokens.list whole).0 parsed)

pub types_keep_words : (named : NamedText) (typed : Typed) → TypedAs named typed → tree_has_words typed.tree ≡ tree_has_words named.tree
types_keep_words named typed is = sym (of_tree Name Note typed.tree) ∙ ap (λ (t : NamedTree). tree_has_words t) is.tree
