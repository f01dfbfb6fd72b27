-- What is known of the expressions of a step before it is judged.
use Rattle.std.proofs.Common.{◌≡◌, ◌∙◌, ⊎_elim, sym, ap, subst, refl, ℕ, true, List, [], ◌∷◌, map, arith, rules}
use Rattle.std.specs.Prelude.{◌&&◌, nat_le, length, Some, None, IfSome}
use Rattle.std.specs.List.{AllByRecursion, Contains, list_all}
use Rattle.std.proofs.lemmas.Bool.{and_parts}
use Rattle.std.proofs.lemmas.List.{length-map}
use Rattle.std.proofs.lemmas.List.Elements.{Contains-append_left, Contains-append_right}
use Rattle.ckc_base.specs.declared.arithmetic.Mode.{Mode}
use Rattle.ckc_syntax.specs.Inside.{listed, inside_each, inside_init}
use Rattle.ckc_syntax.specs.declared.tree.Name.{Name}
use Rattle.ckc_syntax.specs.declared.tree.Init.TheVariants as init
use Rattle.ckc_syntax.specs.declared.tree.Act.{Act-F, map-Act, fold-Act, out-Act, roll-Act, fold-roll-Act, the_lemmas}
use Rattle.ckc_syntax.specs.declared.tree.Stmt.{fold-roll-Stmt}
use Rattle.ckc_typed.specs.declared.environment.Globals.{Globals}
use Rattle.ckc_typed.specs.declared.typed.Note.{Note}
use Rattle.ckc_typed.specs.Trees.{NotedAct, NotedExpr, NotedInit, NotedStmt}
use Rattle.ckc_typed_welltyped.specs.Productions.{Given, callless_bounds, callless_expr, is_call, is_right, right_init, given_act, given_in, given_stmt}
use Rattle.ckc_blame_sound.specs.ckc_bounds_points.specs.declared.frame.Frame.{Frame}
use Rattle.ckc_blame_sound.specs.ckc_bounds_points.specs.Flow.{State}
use Rattle.ckc_blame_sound.specs.ckc_bounds_views.specs.Parts.{fresh_behind}
use Rattle.ckc_blame_sound.specs.ckc_bounds_views.specs.Views.{view}
use Rattle.ckc_blame_sound.specs.Settings.{Setting}
use Rattle.ckc_blame_sound.specs.Scopes.{NamesSeen}
use Rattle.ckc_blame_sound.specs.Sized.{IsSized}
use Rattle.ckc_blame_sound.specs.Words.{exprs_of_act, exprs_in}
use Rattle.ckc_blame_sound.proofs.Words.{exprs_inside, exprs_are}
use Rattle.ckc_blame_sound.specs.Typed.{IsTyped, IsTypedInit, AreTypedSides, IsTypedAct}
use Rattle.ckc_blame_sound.proofs.Stepping.{ActLayer}
use Rattle.ckc_blame_steps.specs.Checked.{IsOfMode, IsInitOfMode, AreSidesOfMode, IsActOfMode}
use Rattle.ckc_blame_steps.specs.ExpressionRooms.{HavePlaces}
use Rattle.ckc_blame_steps.specs.Values.{HaveFewValues}
use Rattle.ckc_blame_steps.proofs.CalledHeads.{none_in, split_in}

module _ (m : Mode) (globals : Globals) (s : Setting) (seen : List ℕ) where
  -- An expression is typed, of a mode and small, names locals in scope, and what it allocates has a size.
  pub record IsFit (e : NotedExpr) : Type 0 where
    pub typed : IsTyped globals s e
    pub of_mode : IsOfMode m e
    pub names : NamesSeen seen e
    pub few : HaveFewValues s.frame e
    pub sized : IsSized s.text.layout e

  abbrev pub IsFitInit : NotedInit → Type 0
  IsFitInit init.Nothing = Unit {0}
  IsFitInit (init.One e) = IsFit e
  IsFitInit (init.Many es) = Unit {0}

  abbrev pub AreFitSides : ActLayer → Type 0
  AreFitSides (Act-F.Assign e f) = IsFit e × IsFit f
  AreFitSides a = Unit {0}

  -- so are the expressions of a statement that is a step by itself
  abbrev pub IsFitAct : ActLayer → Type 0
  IsFitAct (Act-F.Local d) = IsFitInit d.init
  IsFitAct (Act-F.Call e) = IsFit e
  IsFitAct (Act-F.Return e) = IfSome e IsFit
  IsFitAct (Act-F.Check e) = IsFit e
  IsFitAct (Act-F.Bundle ss) = AllByRecursion (λ (st : NotedStmt). AreFitSides (out-Act Name Note st.body)) ss
  IsFitAct a = AreFitSides a

  abbrev IsSmall : NotedExpr → Type 0
  IsSmall e = NamesSeen seen e × HaveFewValues s.frame e × IsSized s.text.layout e

  abbrev AreSmall : List NotedExpr → Type 0
  AreSmall es = (e : NotedExpr) → Contains es e → IsSmall e

  fit : (e : NotedExpr) → IsTyped globals s e → IsOfMode m e → IsSmall e → IsFit e
  fit e typed of_mode small = record { typed = typed; of_mode = of_mode; names = small.0; few = small.1; sized = small.2 }

  fit_init : (i : NotedInit) → IsTypedInit globals s i → IsInitOfMode m i → AreSmall (inside_init listed (λ e. e ∷ []) i) → IsFitInit i
  fit_init init.Nothing typed of_mode small = tt
  fit_init (init.One e) typed of_mode small = fit e typed of_mode (small e (0, omega arith, refl))
  fit_init (init.Many es) typed of_mode small = tt

  fit_sides : (x : ActLayer) → AreTypedSides globals s x → AreSidesOfMode m x → AreSmall (exprs_of_act (exprs_inside x)) → AreFitSides x
  fit_sides (Act-F.Assign e f) typed of_mode small =
      (fit e typed.0 of_mode.0 (small e (0, omega arith, refl)), fit f typed.1 of_mode.1 (small f (1, omega arith, refl)))
  fit_sides x typed of_mode small = tt

  small_in : (st : NotedStmt) → AreSmall (exprs_in st) → AreSmall (exprs_of_act (exprs_inside (out-Act Name Note st.body)))
  small_in st h e c = h e (subst (λ es. Contains es e) (sym (exprs_are st)) c)

  fit_parts : (ss : List NotedStmt) → AllByRecursion (λ (st : NotedStmt). AreTypedSides globals s (out-Act Name Note st.body)) ss
      → AllByRecursion (λ (st : NotedStmt). AreSidesOfMode m (out-Act Name Note st.body)) ss
      → AreSmall (inside_each listed (λ (es : List NotedExpr). es) (map exprs_in ss))
      → AllByRecursion (λ (st : NotedStmt). AreFitSides (out-Act Name Note st.body)) ss
  fit_parts [] typed of_mode small = tt
  fit_parts (st ∷ ss) typed of_mode small =
      let rest : List NotedExpr = inside_each listed (λ (es : List NotedExpr). es) (map exprs_in ss) in (
        fit_sides (out-Act Name Note st.body) typed.0 of_mode.0 (small_in st (λ e c. small e (Contains-append_left (exprs_in st) rest e c))),
        fit_parts ss typed.1 of_mode.1 (λ e c. small e (Contains-append_right (exprs_in st) rest e c)),
      )

  pub fit_act : (x : ActLayer) → IsTypedAct globals s x → IsActOfMode m x → AreSmall (exprs_of_act (exprs_inside x)) → IsFitAct x
  fit_act (Act-F.Local d) typed of_mode small = fit_init d.init typed.0 of_mode small
  fit_act (Act-F.Call e) typed of_mode small = fit e typed of_mode (small e (0, omega arith, refl))
  fit_act (Act-F.Return None) typed of_mode small = tt
  fit_act (Act-F.Return (Some e)) typed of_mode small = fit e typed of_mode (small e (0, omega arith, refl))
  fit_act (Act-F.Check e) typed of_mode small = fit e typed of_mode (small e (0, omega arith, refl))
  fit_act (Act-F.Bundle ss) typed of_mode small = fit_parts ss typed of_mode small
  fit_act (Act-F.Assign e f) typed of_mode small = fit_sides (Act-F.Assign e f) typed of_mode small
  fit_act x typed of_mode small = tt

  pub fit_stmt : (st : NotedStmt) → IsTypedAct globals s (out-Act Name Note st.body) → IsActOfMode m (out-Act Name Note st.body) → AreSmall (exprs_in st) → IsFitAct (out-Act Name Note st.body)
  fit_stmt st typed of_mode small = fit_act (out-Act Name Note st.body) typed of_mode (small_in st small)

-- what has places has few values
pub few_of : (frame : Frame) (at : State) (first : ℕ) (es : List NotedExpr) → HavePlaces frame at first es → (e : NotedExpr) → Contains es e → HaveFewValues frame e
few_of frame at first [] h e c = absurd (none_in e c)
few_of frame at first (x ∷ es) h e c =
    ⊎_elim (λ d. subst (HaveFewValues frame) d h.0.values) (λ d. few_of frame at (fresh_behind (view frame x) first at) es h.1 e d) (split_in x es e c)

-- ---- what the grammar gives

abbrev pub IsGivenInit : NotedInit → Type 0
IsGivenInit (init.One e) = is_right e ≡ true
IsGivenInit i = Unit {0}

abbrev pub AreGivenSides : ActLayer → Type 0
AreGivenSides (Act-F.Assign e f) = (callless_expr e ≡ true) × (is_right f ≡ true)
AreGivenSides a = Unit {0}

abbrev pub IsGivenAct : ActLayer → Type 0
IsGivenAct (Act-F.Local d) = IsGivenInit d.init
IsGivenAct (Act-F.Call e) = is_call e ≡ true
IsGivenAct (Act-F.Return e) = IfSome e (λ (x : NotedExpr). callless_expr x ≡ true)
IsGivenAct (Act-F.Check e) = callless_expr e ≡ true
IsGivenAct (Act-F.Bundle ss) =
    (nat_le 2 (length ss) ≡ true) × AllByRecursion (λ (st : NotedStmt). AreGivenSides (out-Act Name Note st.body)) ss
IsGivenAct a = AreGivenSides a

act_back : (a : NotedAct) → roll-Act Name Note (out-Act Name Note a) ≡ a
act_back a = search (rules, the_lemmas)

abbrev given_of_act : NotedAct → Given
given_of_act = fold-Act Name Note Given Given given_act given_in

abbrev given_inside : ActLayer → Act-F Name Note Given Given
given_inside = map-Act Name Note NotedAct NotedStmt Given Given given_of_act given_stmt

given_are : (st : NotedStmt) → given_stmt st ≡ given_act (given_inside (out-Act Name Note st.body))
given_are st =
    fold-roll-Stmt Name Note Given Given given_act given_in (record { body = st.body; pos = st.pos; note = st.note })
    ∙ ap given_of_act (sym (act_back st.body)) ∙ fold-roll-Act Name Note Given Given given_act given_in (out-Act Name Note st.body)

init_given : (i : NotedInit) → right_init i ≡ true → IsGivenInit i
init_given (init.One e) h = h
init_given init.Nothing h = tt
init_given (init.Many es) h = tt

sides_given : (x : ActLayer) → (given_act (given_inside x)).fine ≡ true → AreGivenSides x
sides_given (Act-F.Assign e f) h = and_parts (callless_expr e) (is_right f) h
sides_given x h = tt

parts_given : (ss : List NotedStmt) → list_all (λ (g : Given). g.fine && g.assigns) (map given_stmt ss) ≡ true
    → AllByRecursion (λ (st : NotedStmt). AreGivenSides (out-Act Name Note st.body)) ss
parts_given [] h = tt
parts_given (st ∷ ss) h =
    let both = and_parts ((given_stmt st).fine && (given_stmt st).assigns) (list_all (λ (g : Given). g.fine && g.assigns) (map given_stmt ss)) h in
    let one = and_parts (given_stmt st).fine (given_stmt st).assigns both.0 in
    (sides_given (out-Act Name Note st.body) (ap (λ (g : Given). g.fine) (sym (given_are st)) ∙ one.0), parts_given ss both.1)

two_given : (ss : List NotedStmt) → nat_le 2 (length (map given_stmt ss)) ≡ true → nat_le 2 (length ss) ≡ true
two_given ss h = ap (λ n. nat_le 2 n) (sym (length-map ss (λ (st : NotedStmt). given_stmt st))) ∙ h

act_given : (x : ActLayer) → (given_act (given_inside x)).fine ≡ true → IsGivenAct x
act_given (Act-F.Local d) h = init_given d.init (and_parts (callless_bounds d.bounds) (right_init d.init) h).1
act_given (Act-F.Call e) h = h
act_given (Act-F.Return None) h = tt
act_given (Act-F.Return (Some e)) h = h
act_given (Act-F.Check e) h = h
act_given (Act-F.Bundle ss) h =
    let both = and_parts (nat_le 2 (length (map given_stmt ss))) (list_all (λ (g : Given). g.fine && g.assigns) (map given_stmt ss)) h in
    (two_given ss both.0, parts_given ss both.1)
act_given (Act-F.Assign e f) h = sides_given (Act-F.Assign e f) h
act_given x h = tt

pub stmt_given : (st : NotedStmt) → (given_stmt st).fine ≡ true → IsGivenAct (out-Act Name Note st.body)
stmt_given st h = act_given (out-Act Name Note st.body) (ap (λ (g : Given). g.fine) (sym (given_are st)) ∙ h)
