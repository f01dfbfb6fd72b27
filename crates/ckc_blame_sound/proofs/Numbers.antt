-- The names of what a function declares.
use Rattle.std.proofs.Common.{◌≡◌, ◌∙◌, sym, ap, refl, List, [], ◌∷◌, ◌++◌, map}
use Rattle.std.specs.List.{flat_map}
use Rattle.ckc_syntax.specs.declared.tree.Name.{Name}
use Rattle.ckc_syntax.specs.declared.tree.Act.{Act-F, fold-Act}
use Rattle.ckc_syntax.specs.declared.tree.Item.TheVariants as item
use Rattle.ckc_syntax.specs.declared.tree.Stmt.{Stmt-F, fold-Stmt}
use Rattle.ckc_syntax.specs.Inside.{listed, inside_run}
use Rattle.ckc_resolve.specs.Trees.{NamedDecl, NamedHead, NamedAct, NamedStmt, NamedItem}
use Rattle.ckc_plain.specs.ckc_plain_barred.specs.Integers.{locals_of_stmt}
use Rattle.ckc_typed_plain.proofs.Gathered.{flat_append, gathered}
use Rattle.ckc_typed_plain.proofs.OwnLocals.{declared_in}

-- the name that is declared
abbrev pub decl_name : NamedDecl → List Name
decl_name d = d.name ∷ []

-- the names of the locals that a statement declares anywhere in it, as it runs
abbrev pub act_names : Act-F Name (Unit {0}) (List Name) (List Name) → List Name
act_names = inside_run listed (λ e. []) decl_name (λ s. s)

abbrev pub names_in : Stmt-F Name (Unit {0}) (List Name) (List Name) → List Name
names_in s = s.body

abbrev pub stmt_names : NamedStmt → List Name
stmt_names = fold-Stmt Name (Unit {0}) (List Name) (List Name) act_names names_in

abbrev pub head_names : NamedHead → List Name
head_names h = flat_map decl_name h.params

-- the names of the parameters and then of the other locals of a function
abbrev pub item_names : NamedItem → List Name
item_names (item.Proto h) = head_names h
item_names (item.Function h body) = head_names h ++ stmt_names body
item_names i = []

abbrev pub names_of_act : NamedAct → List Name
names_of_act = fold-Act Name (Unit {0}) (List Name) (List Name) act_names names_in

each_name : (ds : List NamedDecl) → flat_map decl_name ds ≡ map (λ (d : NamedDecl). d.name) ds
each_name [] = refl
each_name (d ∷ ds) = ap (λ ns. d.name ∷ ns) (each_name ds)

-- they are the names of the declarations
pub names_declared_in : (i : NamedItem) → item_names i ≡ map (λ (d : NamedDecl). d.name) (declared_in i)
names_declared_in (item.Directive d) = refl
names_declared_in (item.Tag n at) = refl
names_declared_in (item.Struct n members at) = refl
names_declared_in (item.Static d) = refl
names_declared_in (item.Proto h) = each_name h.params
names_declared_in (item.Function h body) =
    ap (λ ns. head_names h ++ ns) (gathered decl_name body) ∙ sym (flat_append decl_name h.params (locals_of_stmt body)) ∙ each_name (h.params ++ locals_of_stmt body)
