-- The locals of the parts of a statement, one part after another.
use Rattle.std.proofs.Common.{◌≡◌, ◌∙◌, ◌<◌, ℕ, suc, ◌+◌, List, ◌++◌, map, length, drop, get_or, drop-cons, add-one, rules, sym, ap, subst}
use Rattle.std.specs.Prelude.{Option, Result, OnOk}
use Rattle.std.specs.Option.{option_map}
use Rattle.ckc_syntax.specs.declared.tree.Act.{the_lemmas}
use Rattle.ckc_syntax.specs.declared.tree.Act.TheVariants as act
use Rattle.ckc_typed.specs.Trees.{NotedAct, NotedExpr, NotedStmt}
use Rattle.ckc_bounds_points.specs.declared.frame.Local.{Local}
use Rattle.ckc_bounds_points.specs.declared.frame.Frame.{Frame}
use Rattle.ckc_bounds.specs.declared.locals.Turn.{Turn}
use Rattle.ckc_bounds.specs.code.Declarations.{with_turns}
use Rattle.ckc_bounds_statements.specs.code.Parts.{all_declared, there_declared}
use Rattle.ckc_bounds_statements.specs.Paths.{path, path_of_act}
use Rattle.ckc_bounds.proofs.Lists.{with_turns_append}

module _ (frame : Frame) (way : Turn) (old : List Local) where
  if_is : (e : NotedExpr) (s : NotedStmt) (t : Option NotedStmt) → (path_of_act (act.If e s t)).declared ≡ (path s).declared ++ there_declared (option_map path t)
  if_is e s t = search (rules, the_lemmas)

  for_is : (s : Option NotedStmt) (e : Option NotedExpr) (t : Option NotedStmt) (u : NotedStmt) → (path_of_act (act.For s e t u)).declared ≡ there_declared (option_map path s) ++ ((path u).declared ++ there_declared (option_map path t))
  for_is s e t u = search (rules, the_lemmas)

  pub if_done : (a : NotedAct) (e : NotedExpr) (s : NotedStmt) (t : Option NotedStmt) (mid : List Local) → a ≡ act.If e s t → mid ≡ with_turns frame way old (path s).declared → with_turns frame way old (path_of_act a).declared ≡ with_turns frame way mid (there_declared (option_map path t))
  if_done a e s t mid is p =
      ap (λ b. with_turns frame way old (path_of_act b).declared) is ∙ ap (with_turns frame way old) (if_is e s t)
      ∙ with_turns_append frame way old (path s).declared (there_declared (option_map path t))
      ∙ ap (λ ls. with_turns frame way ls (there_declared (option_map path t))) (sym p)

  pub for_done : (a : NotedAct) (s : Option NotedStmt) (e : Option NotedExpr) (t : Option NotedStmt) (u : NotedStmt) (begun mid : List Local) → a ≡ act.For s e t u → begun ≡ with_turns frame way old (there_declared (option_map path s)) → mid ≡ with_turns frame way begun (path u).declared → with_turns frame way old (path_of_act a).declared ≡ with_turns frame way mid (there_declared (option_map path t))
  for_done a s e t u begun mid is p q =
      ap (λ b. with_turns frame way old (path_of_act b).declared) is ∙ ap (with_turns frame way old) (for_is s e t u)
      ∙ with_turns_append frame way old (there_declared (option_map path s)) ((path u).declared ++ there_declared (option_map path t))
      ∙ with_turns_append frame way (with_turns frame way old (there_declared (option_map path s))) (path u).declared (there_declared (option_map path t))
      ∙ ap (λ ls. with_turns frame way (with_turns frame way ls (path u).declared) (there_declared (option_map path t))) (sym p)
      ∙ ap (λ ls. with_turns frame way ls (there_declared (option_map path t))) (sym q)

  pub turn_done : (first : List Local) (ss : List NotedStmt) (i : ℕ) (s : NotedStmt) (mid : List Local) → i < length ss → s ≡ get_or ss i s → with_turns frame way first (all_declared (map path ss)) ≡ with_turns frame way old (all_declared (map path (drop i ss))) → mid ≡ with_turns frame way old (path s).declared → with_turns frame way first (all_declared (map path ss)) ≡ with_turns frame way mid (all_declared (map path (drop (i + 1) ss)))
  turn_done first ss i s mid h e kept p =
      kept ∙ ap (λ l. with_turns frame way old (all_declared (map path l))) (drop-cons ss i s h)
      ∙ ap (λ x. with_turns frame way old ((path x).declared ++ all_declared (map path (drop (suc i) ss)))) (sym e)
      ∙ with_turns_append frame way old (path s).declared (all_declared (map path (drop (suc i) ss)))
      ∙ ap (λ ls. with_turns frame way ls (all_declared (map path (drop (suc i) ss)))) (sym p)
      ∙ ap (λ n. with_turns frame way mid (all_declared (map path (drop n ss)))) (sym (add-one i))

pub goes_on : {E : Type 0} (r : Result (Unit {0}) E) (new mid whole : List Local) → whole ≡ mid → OnOk r (new ≡ mid) → OnOk r (new ≡ whole)
goes_on r new mid whole e h = subst (λ ls. OnOk r (new ≡ ls)) (sym e) h
