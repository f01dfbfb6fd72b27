-- How the locals of a function are numbered.
use Rattle.std.specs.Prelude.{ℕ, List, [], ◌∷◌, ◌++◌}
use Rattle.std.specs.List.{flat_map}
use Rattle.ckc_syntax.specs.Inside.{listed, inside_run}
use Rattle.ckc_syntax.specs.declared.tree.Name.{Name}
use Rattle.ckc_syntax.specs.declared.tree.Name.TheVariants as name
use Rattle.ckc_syntax.specs.declared.tree.Item.TheVariants as item
use Rattle.ckc_syntax.specs.declared.tree.Act.{Act-F}
use Rattle.ckc_syntax.specs.declared.tree.Stmt.{Stmt-F, fold-Stmt}
use Rattle.ckc_resolve.specs.Trees.{NamedDecl, NamedHead, NamedStmt, NamedItem}

abbrev pub local_in : Name → List ℕ
local_in (name.Local n) = n ∷ []
local_in n = []

abbrev pub decl_local : NamedDecl → List ℕ
decl_local d = local_in d.name

-- the numbers of the locals that a statement declares, as they come in the text
abbrev pub act_locals : Act-F Name (Unit {0}) (List ℕ) (List ℕ) → List ℕ
act_locals = inside_run listed (λ e. []) decl_local (λ s. s)

abbrev pub locals_in : Stmt-F Name (Unit {0}) (List ℕ) (List ℕ) → List ℕ
locals_in s = s.body

abbrev pub stmt_locals : NamedStmt → List ℕ
stmt_locals = fold-Stmt Name (Unit {0}) (List ℕ) (List ℕ) act_locals locals_in

abbrev pub head_locals : NamedHead → List ℕ
head_locals h = flat_map decl_local h.params

-- the numbers of the parameters and then of the other locals of a function
abbrev pub item_locals : NamedItem → List ℕ
item_locals (item.Proto h) = head_locals h
item_locals (item.Function h body) = head_locals h ++ stmt_locals body
item_locals i = []

-- the numbers of the parameters alone
abbrev pub item_params : NamedItem → List ℕ
item_params (item.Proto h) = head_locals h
item_params (item.Function h body) = head_locals h
item_params i = []
