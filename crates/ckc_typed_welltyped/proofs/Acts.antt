-- Layers of statements: what is made of a layer, and the rule of a statement at a layer.
use Rattle.std.proofs.Common.{◌≡◌, List, [], ◌∷◌, map, refl, ap, rules}
use Rattle.std.specs.Prelude.{Some, None, unwrap_or}
use Rattle.std.specs.List.{AllByRecursion}
use Rattle.std.proofs.Math.Path.{fun_ext}
use Rattle.ckc_types.specs.declared.types.CType.{CType}
use Rattle.ckc_syntax.specs.declared.tree.Name.{Name}
use Rattle.ckc_syntax.specs.declared.tree.Act.{Act-F, map-Act, out-Act, roll-Act, rec-roll-Act, the_lemmas}
use Rattle.ckc_syntax.specs.declared.tree.Act.TheVariants as act
use Rattle.ckc_syntax.specs.declared.tree.Stmt.{Stmt-F, map-Stmt, rec-roll-Stmt}
use Rattle.ckc_typed.specs.declared.environment.Globals.{Globals}
use Rattle.ckc_typed.specs.declared.environment.Variable.{Variable}
use Rattle.ckc_typed.specs.declared.typed.Note.{Note}
use Rattle.ckc_typed.specs.Trees.{NotedAct, NotedStmt}
use Rattle.ckc_typed_welltyped.specs.Statements.{Rule, act_rows, act_rule, stmt_rule, note_in, WellTypedAct, WellTypedStmt}

abbrev pub ActLayer : Type 0
ActLayer = Act-F Name Note NotedAct NotedStmt

abbrev pub act_of : ActLayer → NotedAct
act_of (Act-F.Block m ss) = act.Block m ss
act_of Act-F.Empty = act.Empty
act_of (Act-F.Local d) = act.Local d
act_of (Act-F.Assign e f) = act.Assign e f
act_of (Act-F.Call e) = act.Call e
act_of (Act-F.If e s t) = act.If e s t
act_of (Act-F.While e s) = act.While e s
act_of (Act-F.For s e t u) = act.For s e t u
act_of (Act-F.Return e) = act.Return e
act_of Act-F.Break = act.Break
act_of Act-F.Continue = act.Continue
act_of (Act-F.Check e) = act.Check e
act_of (Act-F.Bundle ss) = act.Bundle ss

pub act_rolled : (d : ActLayer) → roll-Act Name Note d ≡ act_of d
act_rolled (Act-F.Block m ss) = act.rolls-Block m ss
act_rolled Act-F.Empty = act.rolls-Empty
act_rolled (Act-F.Local d) = act.rolls-Local d
act_rolled (Act-F.Assign e f) = act.rolls-Assign e f
act_rolled (Act-F.Call e) = act.rolls-Call e
act_rolled (Act-F.If e s t) = act.rolls-If e s t
act_rolled (Act-F.While e s) = act.rolls-While e s
act_rolled (Act-F.For s e t u) = act.rolls-For s e t u
act_rolled (Act-F.Return e) = act.rolls-Return e
act_rolled Act-F.Break = act.rolls-Break
act_rolled Act-F.Continue = act.rolls-Continue
act_rolled (Act-F.Check e) = act.rolls-Check e
act_rolled (Act-F.Bundle ss) = act.rolls-Bundle ss

pub act_out : (d : ActLayer) → out-Act Name Note (roll-Act Name Note d) ≡ d
act_out d = search (rules, the_lemmas)

-- a fact of each part, by what the parts are mapped to
all_mapped : {X Y : Type 0} (f : X → Y) (P : Y → Type 0) (xs : List X) → AllByRecursion (λ x. P (f x)) xs ≡ AllByRecursion P (map f xs)
all_mapped f P [] = refl
all_mapped f P (x ∷ xs) = ap (λ T. P (f x) × T) (all_mapped f P xs)

module _ (globals : Globals) (variables : List Variable) (result : CType) where
  act_natural : (X X' : Type 0) (v : X → NotedAct) (w : X' → NotedStmt) (k : NotedAct → Rule) (j : NotedStmt → Rule) (x : Act-F Name Note X X') →
      act_rule globals variables result X X' v w (λ p. k (v p)) (λ p. j (w p)) x ≡ act_rule globals variables result NotedAct NotedStmt (λ y. y) (λ y. y) k j (map-Act Name Note X X' NotedAct NotedStmt v w x)
  act_natural X X' v w k j (Act-F.Block m ss) = fun_ext (λ mode. fun_ext (λ looped. all_mapped w (λ s. j s (unwrap_or m mode) looped) ss))
  act_natural X X' v w k j Act-F.Empty = refl
  act_natural X X' v w k j (Act-F.Local d) = refl
  act_natural X X' v w k j (Act-F.Assign e f) = refl
  act_natural X X' v w k j (Act-F.Call e) = refl
  act_natural X X' v w k j (Act-F.If e s None) = refl
  act_natural X X' v w k j (Act-F.If e s (Some t)) = refl
  act_natural X X' v w k j (Act-F.While e s) = refl
  act_natural X X' v w k j (Act-F.For None e None u) = refl
  act_natural X X' v w k j (Act-F.For None e (Some t) u) = refl
  act_natural X X' v w k j (Act-F.For (Some s) e None u) = refl
  act_natural X X' v w k j (Act-F.For (Some s) e (Some t) u) = refl
  act_natural X X' v w k j (Act-F.Return e) = refl
  act_natural X X' v w k j Act-F.Break = refl
  act_natural X X' v w k j Act-F.Continue = refl
  act_natural X X' v w k j (Act-F.Check e) = refl
  act_natural X X' v w k j (Act-F.Bundle ss) = fun_ext (λ mode. fun_ext (λ looped. all_mapped w (λ s. j s mode looped) ss))

  stmt_natural : (X X' : Type 0) (v : X → NotedAct) (w : X' → NotedStmt) (k : NotedAct → Rule) (j : NotedStmt → Rule) (x : Stmt-F Name Note X X') →
      stmt_rule X X' v w (λ p. k (v p)) (λ p. j (w p)) x ≡ stmt_rule NotedAct NotedStmt (λ y. y) (λ y. y) k j (map-Stmt Name Note X X' NotedAct NotedStmt v w x)
  stmt_natural X X' v w k j x = refl

  pub act_rule_is : (d : ActLayer) → WellTypedAct globals variables result (roll-Act Name Note d) ≡ act_rows globals variables result (WellTypedStmt globals variables result) d
  act_rule_is d = rec-roll-Act Name Note Rule Rule (act_rule globals variables result) stmt_rule act_natural d

  abbrev pub StmtHolds : NotedStmt → Rule
  StmtHolds s mode looped = WellTypedAct globals variables result s.body mode looped × (s.note ≡ note_in mode s.body)

  pub stmt_rule_is : (s : NotedStmt) → WellTypedStmt globals variables result s ≡ StmtHolds s
  stmt_rule_is s = rec-roll-Stmt Name Note Rule Rule (act_rule globals variables result) stmt_rule stmt_natural (record { body = s.body; pos = s.pos; note = s.note })
