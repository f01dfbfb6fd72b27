-- What a statement leaves visible, and what is asked of its names, by its direct parts.
use Rattle.std.proofs.Common.{◌≡◌, refl, sym, ap, subst, ◌∙◌, List, [], ◌∷◌, map, rules, arith}
use Rattle.std.specs.Prelude.{None, Some}
use Rattle.std.specs.List.{Contains}
use Rattle.ckc_base.specs.declared.places.Pos.{Pos}
use Rattle.ckc_syntax.specs.declared.tree.Name.{Name}
use Rattle.ckc_syntax.specs.declared.tree.Act.{Act-F, map-Act, out-Act, roll-Act, fold-roll-Act, the_lemmas}
use Rattle.ckc_syntax.specs.declared.tree.Stmt.{fold-roll-Stmt}
use Rattle.ckc_typed.specs.declared.typed.Note.{Note}
use Rattle.ckc_typed.specs.Trees.{NotedAct, NotedDecl, NotedStmt}
use Rattle.ckc_typed_welltyped.specs.Noteless.{BareAct, BareStmt, act_noteless, act_bared, stmt_bared, bare_act, bare_stmt}
use Rattle.ckc_resolve.specs.Trees.{NamedItem}
use Rattle.ckc_typed_fit.specs.Tests.{Tests, Walked, act_walked, stmt_walked, walked_act, walked}
use Rattle.ckc_blame_sound.specs.ckc_bounds_statements.specs.Paths.{ActPath, Path, act_declared, act_path, stmt_path, path_of_act, path, stated}
use Rattle.ckc_blame_sound.proofs.Bares.{Layer, bared}
use Rattle.ckc_blame_walk.specs.Scopes.{tests_of, scope_of}

map_twice : {A B C : Type 0} (f : A → B) (g : B → C) (xs : List A) → map g (map f xs) ≡ map (λ x. g (f x)) xs
map_twice f g [] = refl
map_twice f g (x ∷ xs) = ap (λ ys. g (f x) ∷ ys) (map_twice f g xs)

pub act_back : (a : NotedAct) → roll-Act Name Note (out-Act Name Note a) ≡ a
act_back a = search (rules, the_lemmas)

-- ---- what is declared

abbrev pub act_paths : Layer → Act-F Name Note ActPath Path
act_paths = map-Act Name Note NotedAct NotedStmt ActPath Path path_of_act path

declared_rolled : (at : Pos) (note : Note) (x : Layer) → (path (stated at note (roll-Act Name Note x))).declared ≡ act_declared (act_paths x)
declared_rolled at note x =
    ap (λ (p : Path). p.declared) (fold-roll-Stmt Name Note ActPath Path act_path stmt_path (record { body = roll-Act Name Note x; pos = at; note = note }))
    ∙ ap (λ (p : ActPath). p.declared) (fold-roll-Act Name Note ActPath Path act_path stmt_path x)

pub declared_are : (st : NotedStmt) (x : Layer) → out-Act Name Note st.body ≡ x → (path st).declared ≡ act_declared (act_paths x)
declared_are st x is =
    ap (λ (a : NotedAct). (path (stated st.pos st.note a)).declared) (sym (act_back st.body) ∙ ap (roll-Act Name Note) is)
    ∙ declared_rolled st.pos st.note x

-- a declaration declares what it says
pub declares_itself : (st : NotedStmt) (d : NotedDecl) → out-Act Name Note st.body ≡ Act-F.Local d → Contains (path st).declared d
declares_itself st d is = subst (λ ds. Contains ds d) (sym (declared_are st (Act-F.Local d) is)) (0, omega arith, refl)

-- ---- what is visible

module _ (tests : Tests) where
  abbrev pub walk_of : NotedStmt → Walked
  walk_of st = walked tests (bare_stmt st)

  abbrev pub walk_of_act : NotedAct → Walked
  walk_of_act a = walked_act tests (bare_act a)

  abbrev pub walks_in : Layer → Act-F Name (Unit {0}) Walked Walked
  walks_in x = act_noteless (map-Act Name Note NotedAct NotedStmt Walked Walked walk_of_act walk_of x)

  abbrev pub act_walk : Layer → Walked
  act_walk x = act_walked tests (walks_in x)

  abbrev inside : Act-F Name (Unit {0}) (BareAct Name) (BareStmt Name) → Act-F Name (Unit {0}) Walked Walked
  inside = map-Act Name (Unit {0}) (BareAct Name) (BareStmt Name) Walked Walked (walked_act tests) (walked tests)

  inside_both : (x : Layer) → inside (bared x) ≡ walks_in x
  inside_both (Act-F.Block m ss) = ap (λ ws. Act-F.Block m ws) (map_twice bare_stmt (walked tests) ss)
  inside_both Act-F.Empty = refl
  inside_both (Act-F.Local d) = refl
  inside_both (Act-F.Assign e f) = refl
  inside_both (Act-F.Call e) = refl
  inside_both (Act-F.If e s None) = refl
  inside_both (Act-F.If e s (Some t)) = refl
  inside_both (Act-F.While e s) = refl
  inside_both (Act-F.For None e None b) = refl
  inside_both (Act-F.For None e (Some t) b) = refl
  inside_both (Act-F.For (Some s) e None b) = refl
  inside_both (Act-F.For (Some s) e (Some t) b) = refl
  inside_both (Act-F.Return e) = refl
  inside_both Act-F.Break = refl
  inside_both Act-F.Continue = refl
  inside_both (Act-F.Check e) = refl
  inside_both (Act-F.Bundle ss) = ap (λ ws. Act-F.Bundle ws) (map_twice bare_stmt (walked tests) ss)

  pub act_walk_rolled : (x : Layer) → walk_of_act (roll-Act Name Note x) ≡ act_walk x
  act_walk_rolled x =
      ap (walked_act tests) (fold-roll-Act Name Note (BareAct Name) (BareStmt Name) act_bared stmt_bared x)
      ∙ fold-roll-Act Name (Unit {0}) Walked Walked (act_walked tests) stmt_walked (bared x)
      ∙ ap (act_walked tests) (inside_both x)

  -- a statement leaves what it does
  pub walk_stated : (at : Pos) (note : Note) (a : NotedAct) → walk_of (stated at note a) ≡ walk_of_act a
  walk_stated at note a =
      ap (walked tests) (fold-roll-Stmt Name Note (BareAct Name) (BareStmt Name) act_bared stmt_bared (record { body = a; pos = at; note = note }))
      ∙ fold-roll-Stmt Name (Unit {0}) Walked Walked (act_walked tests) stmt_walked (record { body = bare_act a; pos = at; note = tt })

  pub walk_are : (st : NotedStmt) (x : Layer) → out-Act Name Note st.body ≡ x → walk_of st ≡ act_walk x
  walk_are st x is =
      walk_stated st.pos st.note st.body ∙ ap walk_of_act (sym (act_back st.body) ∙ ap (roll-Act Name Note) is) ∙ act_walk_rolled x

-- the same of what is visible
module _ (items : List NamedItem) where
  abbrev pub scope_of_act : NotedAct → Walked
  scope_of_act a = walk_of_act (tests_of items) a

  abbrev pub scoped : Layer → Act-F Name (Unit {0}) Walked Walked
  scoped x = walks_in (tests_of items) x

  abbrev pub act_scope : Layer → Walked
  act_scope x = act_walk (tests_of items) x

  pub act_scope_rolled : (x : Layer) → scope_of_act (roll-Act Name Note x) ≡ act_scope x
  act_scope_rolled x = act_walk_rolled (tests_of items) x

  pub scope_stated : (at : Pos) (note : Note) (a : NotedAct) → scope_of items (stated at note a) ≡ scope_of_act a
  scope_stated at note a = walk_stated (tests_of items) at note a

  pub scope_are : (st : NotedStmt) (x : Layer) → out-Act Name Note st.body ≡ x → scope_of items st ≡ act_scope x
  scope_are st x is = walk_are (tests_of items) st x is
