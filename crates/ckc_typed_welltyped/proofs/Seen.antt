-- What a body sees of its parameters, and its mode, are those of the tree without notes.
use Rattle.std.proofs.Common.{◌≡◌, ◌∙◌, refl, sym, ap, Bool, Option, None, Some, List, [], ◌∷◌, ◌++◌, map, rules}
use Rattle.std.specs.Prelude.{is_some, if◌then◌else◌, unwrap_or}
use Rattle.std.specs.Option.{option_map}
use Rattle.ckc_base.specs.declared.arithmetic.Mode.{Mode}
use Rattle.ckc_base.specs.declared.arithmetic.Mode.TheVariants.{Checked, Unchecked}
use Rattle.ckc_types.specs.declared.types.CType.{CType}
use Rattle.ckc_syntax.specs.Inside.{listed}
use Rattle.ckc_syntax.specs.declared.tree.Name.{Name}
use Rattle.ckc_syntax.specs.declared.tree.TypeTree.{TypeTree, out-TypeTree}
use Rattle.ckc_syntax.specs.declared.tree.Head.{Head}
use Rattle.ckc_syntax.specs.declared.tree.Decl.{Decl}
use Rattle.ckc_syntax.specs.declared.tree.Limits.{Limits}
use Rattle.ckc_syntax.specs.declared.tree.Act.{Act, Act-F, out-Act, roll-Act, the_lemmas}
use Rattle.ckc_syntax.specs.declared.tree.Stmt.{Stmt}
use Rattle.ckc_typed.specs.declared.environment.Globals.{Globals}
use Rattle.ckc_typed.specs.declared.environment.Variable.{Variable}
use Rattle.ckc_typed.specs.declared.typed.Note.{Note}
use Rattle.ckc_typed.specs.Trees.{NotedStmt}
use Rattle.ckc_typed.specs.Interfaces.{shared_in, interface_to, is_interface, seen_as, seen, seen_params}
use Rattle.ckc_typed.specs.Environment.{variable_declared, act_variables, stmt_variables, locals_of, params_of, variables_of}
use Rattle.ckc_typed.specs.Statements.{own_mode, body_mode}
use Rattle.ckc_typed_welltyped.specs.Noteless.{BareAct, BareStmt, act_noteless, bare_limits, bare_decl, bare_act, bare_stmt, bare_head}
use Rattle.ckc_typed_welltyped.specs.Statements.{mode_in_form, WellTypedStmt}
use Rattle.ckc_typed_welltyped.proofs.Bares.{bared_act, bare_act_is, bare_stmt_is}
use Rattle.ckc_typed_welltyped.proofs.ByParts.{stmt_by_parts}
use Rattle.ckc_typed_welltyped.proofs.Folds.{stmt_folds}
use Rattle.ckc_typed_welltyped.proofs.Insides.{act_same}

module _ {N A : Type 0} where
  some_bare : (l : Option (Limits N A)) → is_some (option_map bare_limits l) ≡ is_some l
  some_bare None = refl
  some_bare (Some l) = refl

  pub interface_bare : (d : Decl N A) → interface_to (bare_decl d) ≡ interface_to d
  interface_bare d = ap (λ b. if b then shared_in (out-TypeTree N d.ctype) else None) (some_bare d.bounds)

  pub is_interface_bare : (d : Decl N A) → is_interface (bare_decl d) ≡ is_interface d
  is_interface_bare d = ap is_some (interface_bare d)

  pub seen_bare : (mode : Mode) (d : Decl N A) → seen mode (bare_decl d) ≡ bare_decl (seen mode d)
  seen_bare mode d = ap (seen_as mode (bare_decl d)) (interface_bare d) ∙ by mode (interface_to d)
    where
      by : (mode : Mode) (t : Option (TypeTree N)) → seen_as mode (bare_decl d) t ≡ bare_decl (seen_as mode d t)
      by mode None = refl
      by Checked (Some t) = refl
      by Unchecked (Some t) = refl

  all_bare : (mode : Mode) (ds : List (Decl N A)) → map (seen mode) (map bare_decl ds) ≡ map bare_decl (map (seen mode) ds)
  all_bare mode [] = refl
  all_bare mode (d ∷ ds) = ap (λ x. x ∷ map (seen mode) (map bare_decl ds)) (seen_bare mode d) ∙ ap (λ xs. bare_decl (seen mode d) ∷ xs) (all_bare mode ds)

  pub seen_params_bare : (mode : Mode) (h : Head N A) → seen_params mode (bare_head h) ≡ map bare_decl (seen_params mode h)
  seen_params_bare mode h = all_bare mode h.params

-- what an expression sees, of trees whose names are what they mean
module _ {A : Type 0} where
  declared_bare : (ds : List (Decl Name A)) → map variable_declared (map bare_decl ds) ≡ map variable_declared ds
  declared_bare [] = refl
  declared_bare (d ∷ ds) = ap (λ vs. variable_declared d ∷ vs) (declared_bare ds)

  pub params_bare : (mode : Mode) (h : Head Name A) → params_of mode (bare_head h) ≡ params_of mode h
  params_bare mode h = ap (map variable_declared) (seen_params_bare mode h) ∙ declared_bare (seen_params mode h)

  acts_agree : (x : Act-F Name A (List Variable) (List Variable)) → act_variables (act_noteless x) ≡ act_variables x
  acts_agree = act_same listed (λ e. []) (λ d. variable_declared d ∷ []) (λ e. []) (λ d. variable_declared d ∷ []) (λ s. s) (λ e. refl) (λ d. refl)

  pub locals_bare : (s : Stmt Name A) → locals_of (bare_stmt s) ≡ locals_of s
  locals_bare = stmt_folds Name A (List Variable) (List Variable) act_variables stmt_variables act_variables stmt_variables acts_agree (λ x. refl)

  pub variables_bare : (mode : Mode) (h : Head Name A) (s : Stmt Name A) → variables_of mode (bare_head h) (bare_stmt s) ≡ variables_of mode h s
  variables_bare mode h s = ap (λ vs. vs ++ locals_of (bare_stmt s)) (params_bare mode h) ∙ ap (λ vs. params_of mode h ++ vs) (locals_bare s)

act_out : (d : Act-F Name (Unit {0}) (BareAct Name) (BareStmt Name)) → out-Act Name (Unit {0}) (roll-Act Name (Unit {0}) d) ≡ d
act_out d = search (rules, the_lemmas)

-- the mode of a body
module _ {A : Type 0} where
  act_back : (a : Act Name A) → roll-Act Name A (out-Act Name A a) ≡ a
  act_back a = search (rules, the_lemmas)

  own_kept : (x : Act-F Name A (Act Name A) (Stmt Name A)) → own_mode (bared_act Name A x) ≡ own_mode x
  own_kept (Act-F.Block m ss) = refl
  own_kept _ = refl

  own_bare : (a : Act Name A) → own_mode (out-Act Name (Unit {0}) (bare_act a)) ≡ own_mode (out-Act Name A a)
  own_bare a =
      let x = out-Act Name A a in
      ap (λ b. own_mode (out-Act Name (Unit {0}) (bare_act b))) (sym (act_back a)) ∙ ap (λ b. own_mode (out-Act Name (Unit {0}) b)) (bare_act_is Name A x)
      ∙ ap own_mode (act_out (bared_act Name A x)) ∙ own_kept x

  pub body_mode_bare : (mode : Mode) (s : Stmt Name A) → body_mode mode (bare_stmt s) ≡ body_mode mode s
  body_mode_bare mode s = ap (λ (b : BareStmt Name). unwrap_or (own_mode (out-Act Name (Unit {0}) b.body)) mode) (bare_stmt_is Name A s) ∙ ap (λ m. unwrap_or m mode) (own_bare s.body)

mode_in_own : {X X' : Type 0} (mode : Mode) (a : Act-F Name Note X X') → mode_in_form mode a ≡ unwrap_or (own_mode a) mode
mode_in_own mode (Act-F.Block m ss) = refl
mode_in_own mode _ = refl

-- a body that is well typed has its mode noted
pub body_noted : (globals : Globals) (variables : List Variable) (result : CType) (s : NotedStmt) (mode : Mode) (looped : Bool) → WellTypedStmt globals variables result s mode looped → s.note.mode ≡ body_mode mode s
body_noted globals variables result s mode looped w = ap (λ (n : Note). n.mode) ((stmt_by_parts globals variables result s mode looped).0 w).noted ∙ mode_in_own mode (out-Act Name Note s.body)
