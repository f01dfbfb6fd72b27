-- Tokens and trees whose literals are words of 32 bits, and whose strings are bytes.
use Rattle.std.specs.Prelude.{ℕ, ◌<◌, ◌^◌, nat_lt, Bool, ◌&&◌, List}
use Rattle.std.specs.List.{All, list_all}
use Rattle.ckc_syntax.specs.Inside.{all_have, inside_if, inside_limits, inside_node, inside_init, inside_act, inside_item}
use Rattle.ckc_syntax.specs.Spelled.{Spelled}
use Rattle.ckc_syntax.specs.declared.tokens.TokenKind.{TokenKind}
use Rattle.ckc_syntax.specs.declared.tokens.TokenKind.TheVariants as kinds
use Rattle.ckc_syntax.specs.declared.tree.Tree.{Tree}
use Rattle.ckc_syntax.specs.declared.tree.Item.{Item}
use Rattle.ckc_syntax.specs.declared.tree.Head.{Head}
use Rattle.ckc_syntax.specs.declared.tree.Decl.{Decl}
use Rattle.ckc_syntax.specs.declared.tree.Init.{Init}
use Rattle.ckc_syntax.specs.declared.tree.Limits.{Limits, Limits-F, fold-Limits}
use Rattle.ckc_syntax.specs.declared.tree.Node.{Node-F}
use Rattle.ckc_syntax.specs.declared.tree.Expr.{Expr, Expr-F, fold-Expr}
use Rattle.ckc_syntax.specs.declared.tree.Act.{Act-F}
use Rattle.ckc_syntax.specs.declared.tree.Stmt.{Stmt, Stmt-F, fold-Stmt}

-- ---- tokens

-- The number that a token holds, if it holds one, is a word.
abbrev pub HoldsWord : TokenKind → Type 0
HoldsWord (kinds.Number n unsigned) = n < 2 ^ 32
HoldsWord (kinds.Character byte) = byte < 2 ^ 32
HoldsWord _ = Unit {0}

-- this of each token
abbrev pub TokensHoldWords : List Spelled → Type 0
TokensHoldWords tokens = All (λ t. HoldsWord t.kind) tokens

-- ---- trees, whatever stands for a name and whatever is noted

-- whether a number is a word
abbrev pub is_word : ℕ → Bool
is_word n = nat_lt n (2 ^ 32)

-- whether the bytes of a string are bytes
abbrev pub are_bytes : List ℕ → Bool
are_bytes = list_all (λ b. nat_lt b 256)

-- whether a level of bounds has only words and strings of bytes as literals, by whether each of its parts has
abbrev pub limits_by_parts : {N A : Type 0} → Limits-F N A Bool Bool Bool → Bool
limits_by_parts = inside_limits all_have (λ e. e)

-- the same of a level of an expression, which may be a literal itself
abbrev pub node_by_parts : {N A : Type 0} → Node-F N A Bool Bool Bool → Bool
node_by_parts (Node-F.Number n unsigned) = is_word n
node_by_parts (Node-F.Text bytes) = are_bytes bytes
node_by_parts n = inside_node all_have (λ l. l) (λ e. e) n

-- an expression has what its node has
abbrev pub expr_by_parts : {N A : Type 0} → Expr-F N A Bool Bool Bool → Bool
expr_by_parts e = e.node

-- whether each literal number in bounds, however deep, is a word, and each string has bytes
abbrev pub limits_have_words : {N A : Type 0} → Limits N A → Bool
limits_have_words {N} {A} = fold-Limits N A Bool Bool Bool limits_by_parts node_by_parts expr_by_parts

-- the same of an expression
abbrev pub expr_has_words : {N A : Type 0} → Expr N A → Bool
expr_has_words {N} {A} = fold-Expr N A Bool Bool Bool limits_by_parts node_by_parts expr_by_parts

-- the same of an initialiser
abbrev pub init_has_words : {N A : Type 0} → Init N A → Bool
init_has_words = inside_init all_have expr_has_words

-- the same of a declaration, by its bounds and its initialiser
abbrev pub decl_has_words : {N A : Type 0} → Decl N A → Bool
decl_has_words d = inside_if all_have limits_have_words d.bounds && init_has_words d.init

-- the same of what a statement does, by whether each statement in it has only words
abbrev pub act_by_parts : {N A : Type 0} → Act-F N A Bool Bool → Bool
act_by_parts = inside_act all_have expr_has_words decl_has_words (λ s. s)

-- a statement has what it does
abbrev pub stmt_by_parts : {N A : Type 0} → Stmt-F N A Bool Bool → Bool
stmt_by_parts s = s.body

-- the same of a statement
abbrev pub stmt_has_words : {N A : Type 0} → Stmt N A → Bool
stmt_has_words {N} {A} = fold-Stmt N A Bool Bool act_by_parts stmt_by_parts

-- the same of the head of a function, by its parameters and the bounds of its result
abbrev pub head_has_words : {N A : Type 0} → Head N A → Bool
head_has_words h = list_all decl_has_words h.params && inside_if all_have limits_have_words h.bounds

-- the same of an item of a text
abbrev pub item_has_words : {N A : Type 0} → Item N A → Bool
item_has_words = inside_item all_have decl_has_words head_has_words stmt_has_words

-- the same of a whole tree
abbrev pub tree_has_words : {N A : Type 0} → Tree N A → Bool
tree_has_words t = list_all item_has_words t.items
