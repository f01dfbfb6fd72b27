-- The literals of every text that the phases accept are words.
use Rattle.std.proofs.Common.{◌≡◌, ◌∙◌, sym, ap, ℕ, true, List}
use Rattle.std.specs.List.{Contains, list_all}
use Rattle.std.proofs.lemmas.List.Elements.{All-contains}
use Rattle.std.proofs.lemmas.List.Sums.{AllPass-from_list_all}
use Rattle.ckc_base.specs.Phases.{◌>=>◌}
use Rattle.ckc_syntax.specs.Spelled.{Tokens}
use Rattle.ckc_syntax.specs.Trees.{Tree, NamedTree}
use Rattle.ckc_syntax.specs.declared.tree.Item.TheVariants as item
use Rattle.ckc_syntax.specs.declared.tree.Name.{Name}
use Rattle.ckc_syntax.specs.declared.tree.NamedText.{NamedText}
use Rattle.ckc_lexer.specs.Phase.{lexing}
use Rattle.ckc_parser.specs.Phase.{parsing}
use Rattle.ckc_plain.specs.Phase.{resolving}
use Rattle.ckc_scopes.specs.Phase.{scoping}
use Rattle.ckc_blame_sound.specs.ckc_bounds.specs.Phase.{bounding}
use Rattle.ckc_typed.specs.declared.typed.Note.{Note}
use Rattle.ckc_typed.specs.declared.typed.Typed.{Typed}
use Rattle.ckc_typed.specs.Trees.{NotedHead, NotedStmt, NotedItem}
use Rattle.ckc_typed_welltyped.specs.Texts.{TypedAs}
use Rattle.ckc_blame_sound.specs.Words.{HasOnlyWords, HaveWords}
use Rattle.ckc_blame_sound.proofs.Bares.{same_tree}
use Rattle.ckc_blame_words.specs.Literals.{stmt_has_words, head_has_words, item_has_words, tree_has_words}
use Rattle.ckc_blame_words.proofs.Chain.{parsed_words, types_keep_words}
use Rattle.ckc_typed_plain.proofs.Items.{resolved_of}
use Rattle.ckc_blame_words.proofs.Named.{names_keep_words}
use Rattle.ckc_blame_words.proofs.PlainStmts.{plain_keeps_words}
use Rattle.ckc_blame_words.proofs.Noteless.{of_tree}
use Rattle.ckc_blame_words.proofs.Tokens.{tokens_hold_words}
use Rattle.ckc_blame_words.proofs.Words.{second_of, stmt_words}

pub judging_keeps_words : (q p : Typed) → bounding.Makes q p → tree_has_words p.tree ≡ tree_has_words q.tree
judging_keeps_words q p made =
    sym (of_tree Name Note p.tree) ∙ ap (λ (t : NamedTree). tree_has_words t) (same_tree q p made) ∙ of_tree Name Note q.tree

-- the statements of functions in a tree whose literals are words
body_words : (items : List NotedItem) (h : NotedHead) (body : NotedStmt) → list_all item_has_words items ≡ true → Contains items (item.Function h body) → HasOnlyWords body
body_words items h body words there =
    stmt_words body (second_of (head_has_words h) (stmt_has_words body)
    (All-contains (λ (i : NotedItem). item_has_words i ≡ true) items (item.Function h body) (AllPass-from_list_all item_has_words items words) there))

pub judged_words : (p : Typed) → tree_has_words p.tree ≡ true → HaveWords p
judged_words p words q h body made there = body_words q.tree.items h body (sym (judging_keeps_words q p made) ∙ words) there

-- a text whose names are resolved and that is plain
pub resolved_words : (whole : Tree) (named : NamedText) → resolving.Makes whole named → tree_has_words whole ≡ true → tree_has_words named.tree ≡ true
resolved_words whole named made h =
    let r = resolved_of whole named made in
    ap (λ (t : NamedTree). tree_has_words t) r.tree ∙ plain_keeps_words r.resolved.tree (names_keep_words whole r.resolved r.has_names ∙ h)

pub literals_are_words : (text : List ℕ) (tokens : Tokens) (whole : Tree) (named : NamedText) (typed p : Typed) → lexing.Makes text tokens → parsing.Makes tokens whole
    → resolving.Makes whole named → TypedAs named typed → (scoping >=> bounding).Makes typed p → HaveWords p
literals_are_words text tokens whole named typed p cut parsed resolved is judged =
    judged_words p (judging_keeps_words judged.0 p judged.2 ∙ ap (λ (t : Typed). tree_has_words t.tree) judged.1.1 ∙ types_keep_words named typed is
    ∙ resolved_words whole named resolved (parsed_words tokens whole (tokens_hold_words text tokens cut) parsed))
