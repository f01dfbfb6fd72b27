-- The locals that a statement declares, by those of its parts.
use Rattle.std.proofs.Common.{◌≡◌, refl, sym, ap, ◌∙◌, subst, List, [], ◌∷◌, ◌++◌, map, append_assoc}
use Rattle.std.specs.Prelude.{Option, Some, None, Result, OnOk}
use Rattle.std.proofs.lemmas.List.{map-append}
use Rattle.ckc_base.specs.declared.arithmetic.Mode.{Mode}
use Rattle.ckc_syntax.specs.declared.tree.Name.{Name}
use Rattle.ckc_syntax.specs.declared.tree.Act.{Act-F, map-Act, roll-Act, fold-roll-Act}
use Rattle.ckc_syntax.specs.declared.tree.Act.TheVariants as act
use Rattle.ckc_syntax.specs.declared.tree.Stmt.{fold-roll-Stmt}
use Rattle.ckc_syntax.specs.Inside.{listed, inside_run}
use Rattle.ckc_syntax.proofs.Insides.{each_found, none_found}
use Rattle.ckc_syntax.specs.Trees.{NamedDecl, NamedExpr, NamedStmt, NamedAct}
use Rattle.ckc_plain_barred.specs.declared.integers.Integer.{Integer}
use Rattle.ckc_plain_barred.specs.Integers.{declared_integer, locals_of_stmt, locals_of_act, locals_of_stmt_parts}
use Rattle.ckc_plain_barred.specs.code.Locals.{locals_of_part, locals_of_each}

abbrev Layer : Type 0
Layer = Act-F Name (Unit {0}) NamedAct NamedStmt

abbrev rows : Act-F Name (Unit {0}) (List NamedDecl) (List NamedDecl) → List NamedDecl
rows = inside_run listed (λ e. []) (λ d. d ∷ []) (λ s. s)

abbrev locals_layer : Layer → Act-F Name (Unit {0}) (List NamedDecl) (List NamedDecl)
locals_layer = map-Act Name (Unit {0}) NamedAct NamedStmt (List NamedDecl) (List NamedDecl) locals_of_act locals_of_stmt

locals_by : (s : NamedStmt) (x : Layer) → s.body ≡ roll-Act Name (Unit {0}) x → locals_of_stmt s ≡ rows (locals_layer x)
locals_by s x is =
    fold-roll-Stmt Name (Unit {0}) (List NamedDecl) (List NamedDecl) rows locals_of_stmt_parts (record { body = s.body; pos = s.pos; note = s.note })
    ∙ ap locals_of_act is ∙ fold-roll-Act Name (Unit {0}) (List NamedDecl) (List NamedDecl) rows locals_of_stmt_parts x

pub block_locals : (s : NamedStmt) (m : Option Mode) (ss : List NamedStmt) → s.body ≡ act.Block m ss → locals_of_stmt s ≡ locals_of_each ss
block_locals s m ss is = locals_by s (Act-F.Block m ss) (is ∙ sym (act.rolls-Block m ss)) ∙ each_found listed (λ d. d) locals_of_stmt ss

pub bundle_locals : (s : NamedStmt) (ss : List NamedStmt) → s.body ≡ act.Bundle ss → locals_of_stmt s ≡ locals_of_each ss
bundle_locals s ss is = locals_by s (Act-F.Bundle ss) (is ∙ sym (act.rolls-Bundle ss)) ∙ each_found listed (λ d. d) locals_of_stmt ss

pub if_locals : (s : NamedStmt) (e : NamedExpr) (t : NamedStmt) (o : Option NamedStmt) → s.body ≡ act.If e t o → locals_of_stmt s ≡ locals_of_stmt t ++ locals_of_part o
if_locals s e t None is = locals_by s (Act-F.If e t None) (is ∙ sym (act.rolls-If e t None))
if_locals s e t (Some u) is = locals_by s (Act-F.If e t (Some u)) (is ∙ sym (act.rolls-If e t (Some u)))

pub for_locals : (s : NamedStmt) (f : Option NamedStmt) (e : Option NamedExpr) (t : Option NamedStmt) (b : NamedStmt) → s.body ≡ act.For f e t b
    → locals_of_stmt s ≡ locals_of_part f ++ (locals_of_stmt b ++ locals_of_part t)
for_locals s None e None b is = locals_by s (Act-F.For None e None b) (is ∙ sym (act.rolls-For None e None b)) ∙ ap (λ ds. ds ++ (locals_of_stmt b ++ [])) (none_found listed e)
for_locals s None e (Some t) b is = locals_by s (Act-F.For None e (Some t) b) (is ∙ sym (act.rolls-For None e (Some t) b)) ∙ ap (λ ds. ds ++ (locals_of_stmt b ++ locals_of_stmt t)) (none_found listed e)
for_locals s (Some f) e None b is = locals_by s (Act-F.For (Some f) e None b) (is ∙ sym (act.rolls-For (Some f) e None b)) ∙ ap (λ ds. locals_of_stmt f ++ (ds ++ (locals_of_stmt b ++ []))) (none_found listed e)
for_locals s (Some f) e (Some t) b is = locals_by s (Act-F.For (Some f) e (Some t) b) (is ∙ sym (act.rolls-For (Some f) e (Some t) b)) ∙ ap (λ ds. locals_of_stmt f ++ (ds ++ (locals_of_stmt b ++ locals_of_stmt t))) (none_found listed e)

-- what is added for the whole is what is added for its parts
pub along : {A E X : Type 0} (r : Result A E) (x a b : X) → a ≡ b → OnOk r (x ≡ a) → OnOk r (x ≡ b)
along r x a b e h = subst (λ y. OnOk r (x ≡ y)) e h

abbrev types : List NamedDecl → List (Option Integer)
types = map declared_integer

pub two : (old mid : List (Option Integer)) (xs ys : List NamedDecl) → mid ≡ old ++ types xs → mid ++ types ys ≡ old ++ types (xs ++ ys)
two old mid xs ys e = ap (λ m. m ++ types ys) e ∙ append_assoc old (types xs) (types ys) ∙ ap (λ l. old ++ l) (sym (map-append declared_integer xs ys))
