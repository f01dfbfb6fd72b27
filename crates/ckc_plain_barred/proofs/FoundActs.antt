-- The refused effects in each form of statement, by those in its parts.
use Rattle.std.proofs.Common.{◌≡◌, refl, sym, ap, ◌∙◌}
use Rattle.std.specs.Prelude.{Bool, true, List, [], ◌++◌, Option, Some, None}
use Rattle.ckc_base.specs.declared.places.Pos.{Pos}
use Rattle.ckc_base.specs.declared.arithmetic.Mode.{Mode}
use Rattle.ckc_syntax.specs.declared.tree.Name.{Name}
use Rattle.ckc_syntax.specs.declared.tree.Act.{Act-F, map-Act, roll-Act, fold-roll-Act}
use Rattle.ckc_syntax.specs.declared.tree.Act.TheVariants as act
use Rattle.ckc_syntax.specs.declared.tree.Stmt.{fold-roll-Stmt}
use Rattle.ckc_syntax.specs.Inside.{listed}
use Rattle.ckc_syntax.proofs.Insides.{each_found}
use Rattle.ckc_syntax.specs.Trees.{NamedDecl, NamedExpr, NamedStmt, NamedAct}
use Rattle.ckc_plain_barred.specs.declared.integers.Integers.{Integers}
use Rattle.ckc_plain_barred.specs.Forms.{form_of}
use Rattle.ckc_plain_barred.specs.Effects.{in_expr, in_whole, in_maybe}
use Rattle.ckc_plain_barred.specs.Barred.{OfStmt, act_parts, stmt_parts, in_local, in_act, in_stmt}
use Rattle.ckc_plain_barred.specs.code.First.{in_part, in_each}
use Rattle.ckc_plain_barred.specs.code.Refused.{right_by}
use Rattle.ckc_plain_barred.proofs.FoundNodes.{right_found}

pub stmt_found : (known : Integers) (s : NamedStmt) (b : Bool) → in_stmt known s b ≡ in_act known s.body b
stmt_found known s b = ap (λ f. f b) (fold-roll-Stmt Name (Unit {0}) OfStmt OfStmt (act_parts known) stmt_parts (record { body = s.body; pos = s.pos; note = s.note }))

module _ (known : Integers) (a : NamedAct) (b : Bool) where
  by : (x : Act-F Name (Unit {0}) NamedAct NamedStmt) → a ≡ roll-Act Name (Unit {0}) x
      → in_act known a b ≡ act_parts known (map-Act Name (Unit {0}) NamedAct NamedStmt OfStmt OfStmt (in_act known) (in_stmt known) x) b
  by x is = ap (λ c. in_act known c b) is ∙ ap (λ f. f b) (fold-roll-Act Name (Unit {0}) OfStmt OfStmt (act_parts known) stmt_parts x)

  pub empty_inside : a ≡ act.Empty → in_act known a b ≡ []
  empty_inside is = by Act-F.Empty (is ∙ sym act.rolls-Empty)

  pub local_inside : (d : NamedDecl) → a ≡ act.Local d → in_act known a b ≡ in_local known d b
  local_inside d is = by (Act-F.Local d) (is ∙ sym (act.rolls-Local d))

  pub assign_inside : (x : NamedExpr) (e : NamedExpr) → a ≡ act.Assign x e → in_act known a b ≡ in_expr known x true ++ right_by known (form_of x) e b
  assign_inside x e is = by (Act-F.Assign x e) (is ∙ sym (act.rolls-Assign x e)) ∙ ap (λ r. in_expr known x true ++ r) (right_found known x e b)

  pub call_inside : (e : NamedExpr) → a ≡ act.Call e → in_act known a b ≡ in_whole known e b
  call_inside e is = by (Act-F.Call e) (is ∙ sym (act.rolls-Call e))

  pub while_inside : (e : NamedExpr) (s : NamedStmt) → a ≡ act.While e s → in_act known a b ≡ in_expr known e b ++ in_stmt known s b
  while_inside e s is = by (Act-F.While e s) (is ∙ sym (act.rolls-While e s))

  pub return_inside : (e : Option NamedExpr) → a ≡ act.Return e → in_act known a b ≡ in_maybe known e b
  return_inside e is = by (Act-F.Return e) (is ∙ sym (act.rolls-Return e))

  pub break_inside : a ≡ act.Break → in_act known a b ≡ []
  break_inside is = by Act-F.Break (is ∙ sym act.rolls-Break)

  pub continue_inside : a ≡ act.Continue → in_act known a b ≡ []
  continue_inside is = by Act-F.Continue (is ∙ sym act.rolls-Continue)

  pub check_inside : (e : NamedExpr) → a ≡ act.Check e → in_act known a b ≡ in_expr known e b
  check_inside e is = by (Act-F.Check e) (is ∙ sym (act.rolls-Check e))

  pub block_inside : (m : Option Mode) (ss : List NamedStmt) → a ≡ act.Block m ss → in_act known a b ≡ in_each known ss b
  block_inside m ss is = by (Act-F.Block m ss) (is ∙ sym (act.rolls-Block m ss)) ∙ each_found listed (λ s. s b) (in_stmt known) ss

  pub bundle_inside : (ss : List NamedStmt) → a ≡ act.Bundle ss → in_act known a b ≡ in_each known ss true
  bundle_inside ss is = by (Act-F.Bundle ss) (is ∙ sym (act.rolls-Bundle ss)) ∙ each_found listed (λ s. s true) (in_stmt known) ss

  pub if_inside : (e : NamedExpr) (s : NamedStmt) (t : Option NamedStmt) → a ≡ act.If e s t → in_act known a b ≡ in_expr known e b ++ (in_stmt known s b ++ in_part known t b)
  if_inside e s None is = by (Act-F.If e s None) (is ∙ sym (act.rolls-If e s None))
  if_inside e s (Some t) is = by (Act-F.If e s (Some t)) (is ∙ sym (act.rolls-If e s (Some t)))

  pub for_inside : (f : Option NamedStmt) (e : Option NamedExpr) (t : Option NamedStmt) (s : NamedStmt) → a ≡ act.For f e t s
      → in_act known a b ≡ in_part known f b ++ (in_maybe known e b ++ (in_stmt known s b ++ in_part known t b))
  for_inside None e None s is = by (Act-F.For None e None s) (is ∙ sym (act.rolls-For None e None s))
  for_inside None e (Some t) s is = by (Act-F.For None e (Some t) s) (is ∙ sym (act.rolls-For None e (Some t) s))
  for_inside (Some f) e None s is = by (Act-F.For (Some f) e None s) (is ∙ sym (act.rolls-For (Some f) e None s))
  for_inside (Some f) e (Some t) s is = by (Act-F.For (Some f) e (Some t) s) (is ∙ sym (act.rolls-For (Some f) e (Some t) s))
