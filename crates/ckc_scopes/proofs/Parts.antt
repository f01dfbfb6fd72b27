-- The spots of the parts of nodes and statements.
use Rattle.std.proofs.Common.{rules, refl, ◌≡◌, List, ◌∷◌, ◌++◌, ◌∙◌, Option, None, Some}
use Rattle.std.specs.Prelude.{flat_map, map, option_map}
use Rattle.std.proofs.lemmas.List.{append_assoc}
use Rattle.ckc_base.specs.Lists.{or_empty}
use Rattle.ckc_base.specs.declared.arithmetic.Mode.{Mode}
use Rattle.ckc_base.specs.declared.places.Pos.{Pos}
use Rattle.ckc_syntax.specs.declared.tree.Name.{Name}
use Rattle.ckc_syntax.specs.declared.tree.Node.{the_lemmas as expr_lemmas}
use Rattle.ckc_syntax.specs.declared.tree.Node.TheVariants as nodes
use Rattle.ckc_syntax.specs.declared.tree.Expr.{Expr, out-Expr}
use Rattle.ckc_syntax.specs.declared.tree.Limits.{Limits}
use Rattle.ckc_syntax.specs.declared.tree.Limits.TheVariants as limits
use Rattle.ckc_syntax.specs.declared.tree.TypeTree.{TypeTree}
use Rattle.ckc_syntax.specs.declared.tree.TreeOp.{TreeOp}
use Rattle.ckc_syntax.specs.declared.tree.Stmt.{Stmt, the_lemmas as stmt_lemmas}
use Rattle.ckc_syntax.specs.declared.tree.Act.TheVariants as act
use Rattle.ckc_syntax.proofs.Insides.{each_found}
use Rattle.ckc_syntax.specs.Inside.{listed, inside_each}
use Rattle.ckc_typed.specs.declared.typed.Note.{Note}
use Rattle.ckc_typed.specs.Walk.{within, value, spot, spots_of_limits, spots_of_bounds, spots_of_value, spots_of_part, spots_of_expr, spots_of_act, spots_of_stmt}

joined_of_call : (n : Name) (es : List (Expr Name Note)) → (within (nodes.Call n es)).parts ≡ inside_each listed (λ x. x) (map spots_of_expr es)
joined_of_call n es = search (rules, expr_lemmas)

pub parts_of_call : (n : Name) (es : List (Expr Name Note)) → (within (nodes.Call n es)).parts ≡ inside_each listed spots_of_expr es
parts_of_call n es = joined_of_call n es ∙ each_found listed (λ x. x) spots_of_expr es

pub parts_of_between : (e f : Expr Name Note) (pos : Pos) → spots_of_limits (limits.Between e f pos) ≡ spots_of_expr e ++ spots_of_expr f
parts_of_between e f pos = search (rules, expr_lemmas)

pub parts_of_bin : (op : TreeOp) (e f : Expr Name Note) → (within (nodes.Bin op e f)).parts ≡ spots_of_expr e ++ spots_of_expr f
parts_of_bin op e f = search (rules, expr_lemmas)

pub parts_of_index : (e f : Expr Name Note) → (within (nodes.Index e f)).parts ≡ spots_of_expr e ++ spots_of_expr f
parts_of_index e f = search (rules, expr_lemmas)

joined_of_pick : (e f g : Expr Name Note) → (within (nodes.Pick e f g)).parts ≡ spots_of_expr e ++ spots_of_expr f ++ spots_of_expr g
joined_of_pick e f g = search (rules, expr_lemmas)

pub parts_of_pick : (e f g : Expr Name Note) → (within (nodes.Pick e f g)).parts ≡ spots_of_expr e ++ (spots_of_expr f ++ spots_of_expr g)
parts_of_pick e f g = joined_of_pick e f g ∙ append_assoc (spots_of_expr e) (spots_of_expr f) (spots_of_expr g)

bounds_is : (l : Option (Limits Name Note)) → or_empty (option_map spots_of_limits l) ≡ spots_of_bounds l
bounds_is None = refl
bounds_is (Some l) = refl

held_of_trusted : (t : TypeTree Name) (e : Expr Name Note) (l : Option (Limits Name Note)) → (within (nodes.Trusted t e l)).parts ≡ spots_of_expr e ++ or_empty (option_map spots_of_limits l)
held_of_trusted t e l = search (rules, expr_lemmas)

pub parts_of_trusted : (t : TypeTree Name) (e : Expr Name Note) (l : Option (Limits Name Note)) → (within (nodes.Trusted t e l)).parts ≡ spots_of_expr e ++ spots_of_bounds l
parts_of_trusted t e l = rw (held_of_trusted, bounds_is) refl

held_of_tested : (t : TypeTree Name) (e : Expr Name Note) (l : Option (Limits Name Note)) → (within (nodes.Tested t e l)).parts ≡ spots_of_expr e ++ or_empty (option_map spots_of_limits l)
held_of_tested t e l = search (rules, expr_lemmas)

pub parts_of_tested : (t : TypeTree Name) (e : Expr Name Note) (l : Option (Limits Name Note)) → (within (nodes.Tested t e l)).parts ≡ spots_of_expr e ++ spots_of_bounds l
parts_of_tested t e l = rw (held_of_tested, bounds_is) refl

pub spots_of_whole : (e : Expr Name Note) →
    spots_of_expr e ≡ (within (out-Expr Name Note e).node).parts ++ map (spot (out-Expr Name Note e).note.mode (out-Expr Name Note e).pos) (value (out-Expr Name Note e).note.ctype ∷ (within (out-Expr Name Note e).node).own)
spots_of_whole e = search (rules, expr_lemmas)

joined_of_block : (m : Option Mode) (ss : List (Stmt Name Note)) (mode : Mode) → spots_of_act (act.Block m ss) mode ≡ inside_each listed (λ x. x) (map spots_of_stmt ss)
joined_of_block m ss mode = search (rules, stmt_lemmas)

pub parts_of_block : (m : Option Mode) (ss : List (Stmt Name Note)) (mode : Mode) → spots_of_act (act.Block m ss) mode ≡ flat_map spots_of_stmt ss
parts_of_block m ss mode = joined_of_block m ss mode ∙ each_found listed (λ x. x) spots_of_stmt ss

joined_of_bundle : (ss : List (Stmt Name Note)) (mode : Mode) → spots_of_act (act.Bundle ss) mode ≡ inside_each listed (λ x. x) (map spots_of_stmt ss)
joined_of_bundle ss mode = search (rules, stmt_lemmas)

pub parts_of_bundle : (ss : List (Stmt Name Note)) (mode : Mode) → spots_of_act (act.Bundle ss) mode ≡ flat_map spots_of_stmt ss
parts_of_bundle ss mode = joined_of_bundle ss mode ∙ each_found listed (λ x. x) spots_of_stmt ss

held_is : (s : Option (Stmt Name Note)) → or_empty (option_map spots_of_stmt s) ≡ spots_of_part s
held_is None = refl
held_is (Some s) = refl

joined_of_if : (e : Expr Name Note) (s : Stmt Name Note) (t : Option (Stmt Name Note)) (mode : Mode) →
    spots_of_act (act.If e s t) mode ≡ spots_of_expr e ++ spots_of_stmt s ++ or_empty (option_map spots_of_stmt t)
joined_of_if e s t mode = search (rules, stmt_lemmas)

held_of_if : (e : Expr Name Note) (s : Stmt Name Note) (t : Option (Stmt Name Note)) (mode : Mode) →
    spots_of_act (act.If e s t) mode ≡ spots_of_expr e ++ (spots_of_stmt s ++ or_empty (option_map spots_of_stmt t))
held_of_if e s t mode = joined_of_if e s t mode ∙ append_assoc (spots_of_expr e) (spots_of_stmt s) (or_empty (option_map spots_of_stmt t))

pub parts_of_if : (e : Expr Name Note) (s : Stmt Name Note) (t : Option (Stmt Name Note)) (mode : Mode) →
    spots_of_act (act.If e s t) mode ≡ spots_of_expr e ++ (spots_of_stmt s ++ spots_of_part t)
parts_of_if e s t mode = rw (held_of_if, held_is) refl

pub parts_of_while : (e : Expr Name Note) (s : Stmt Name Note) (mode : Mode) → spots_of_act (act.While e s) mode ≡ spots_of_expr e ++ spots_of_stmt s
parts_of_while e s mode = search (rules, stmt_lemmas)

held_of_for : (s : Option (Stmt Name Note)) (e : Option (Expr Name Note)) (t : Option (Stmt Name Note)) (b : Stmt Name Note) (mode : Mode) →
    spots_of_act (act.For s e t b) mode ≡ or_empty (option_map spots_of_stmt s) ++ (spots_of_value e ++ (spots_of_stmt b ++ or_empty (option_map spots_of_stmt t)))
held_of_for s e t b mode = search (rules, stmt_lemmas)

pub parts_of_for : (s : Option (Stmt Name Note)) (e : Option (Expr Name Note)) (t : Option (Stmt Name Note)) (b : Stmt Name Note) (mode : Mode) →
    spots_of_act (act.For s e t b) mode ≡ spots_of_part s ++ (spots_of_value e ++ (spots_of_stmt b ++ spots_of_part t))
parts_of_for s e t b mode = rw (held_of_for, held_is s, held_is t) refl

pub parts_of_assign : (e f : Expr Name Note) (mode : Mode) → spots_of_act (act.Assign e f) mode ≡ spots_of_expr e ++ spots_of_expr f
parts_of_assign e f mode = search (rules, stmt_lemmas)
