-- The expressions of statements and conditions are of the mode of their scope: in checked scopes they have no unchecked
-- pointer and no `_Assume_bounds_cast`.
use Rattle.std.proofs.Common.{◌≡◌, ◌∙◌, sym, ap, subst, refl, List, [], ◌∷◌, map, arith}
use Rattle.std.specs.Prelude.{Bool, true, Option, None, Some, IfSome}
use Rattle.std.specs.List.{Contains, AllByRecursion}
use Rattle.std.proofs.lemmas.List.Elements.{Contains-append_left, Contains-append_right}
use Rattle.ckc_base.specs.declared.arithmetic.Mode.{Mode}
use Rattle.ckc_base.specs.declared.arithmetic.Mode.TheVariants.{Unchecked}
use Rattle.ckc_types.specs.declared.types.Kind.TheVariants as kind
use Rattle.ckc_types.specs.declared.types.CType.{CType, CType-F}
use Rattle.ckc_types.specs.declared.types.CType.TheVariants as ctype
use Rattle.ckc_syntax.specs.Inside.{listed, inside_each, inside_init}
use Rattle.ckc_syntax.specs.declared.tree.Name.{Name}
use Rattle.ckc_syntax.specs.declared.tree.Init.TheVariants as init
use Rattle.ckc_syntax.specs.declared.tree.TreeOp.TheVariants as op
use Rattle.ckc_syntax.specs.declared.tree.Node.{Node-F, out-Node}
use Rattle.ckc_syntax.specs.declared.tree.Act.{Act-F, out-Act}
use Rattle.ckc_typed.specs.declared.environment.Globals.{Globals}
use Rattle.ckc_typed.specs.declared.environment.Variable.{Variable}
use Rattle.ckc_typed.specs.declared.typed.Note.{Note}
use Rattle.ckc_typed.specs.Expressions.{address_kind, has_address}
use Rattle.ckc_typed.specs.Operands.{is_raw_kind}
use Rattle.ckc_typed.specs.Trees.{NotedExpr, NotedInit, NotedLayer, NotedStmt}
use Rattle.ckc_typed.specs.Types.{is_scalar, kind_in, kind_of}
use Rattle.ckc_typed_welltyped.specs.Declarations.{WellTypedInit}
use Rattle.ckc_typed_welltyped.specs.Expressions.{HasType, WellTypedExpr, IsNoted}
use Rattle.ckc_typed_welltyped.specs.Parts.{StmtByParts}
use Rattle.ckc_typed_welltyped.specs.Statements.{act_rows, WellTypedStmt}
use Rattle.ckc_typed_welltyped.proofs.ByParts.{stmt_by_parts}
use Rattle.ckc_blame_sound.specs.ckc_bounds_statements.specs.Paths.{Here}
use Rattle.ckc_source.specs.Code.{Code, End, Expr}
use Rattle.ckc_blame_sound.specs.Settings.{Setting}
use Rattle.ckc_blame_sound.specs.Words.{exprs_of_act, exprs_in}
use Rattle.ckc_blame_sound.specs.Safe.{IsSafePart, IsSafe, HasOnlySafe, AreSafe}
use Rattle.ckc_blame_sound.specs.Bodies.{globals_of_text}
use Rattle.ckc_blame_sound.specs.Steps.{IsStep, IsCondition}
use Rattle.ckc_blame_sound.proofs.Words.{exprs_inside, exprs_are}
use Rattle.ckc_blame_sound.proofs.Stepping.{ActLayer}
use Rattle.ckc_blame_sound.proofs.Every.{each_follows}
use Rattle.ckc_blame_control.proofs.Typed.{by_parts}
use Rattle.ckc_blame_given.specs.ckc_blame_pointers.specs.Covered.{IsRawAddress}
use Rattle.ckc_blame_steps.specs.Checked.{IsPartOfMode, IsOfMode, IsInitOfMode, AreSidesOfMode, IsActOfMode, IsStmtOfMode, mode_of}
use Rattle.ckc_blame_steps.proofs.Modes.{step_mode, inside_mode}
use Rattle.ckc_blame_steps.proofs.Pointees.{pointer_out}
use Rattle.ckc_blame_steps.proofs.ValueTypes.{if_is}

-- the address of something is an unchecked pointer
raw_address : (globals : Globals) (variables : List Variable) (mode : Mode) → mode ≡ Unchecked → (x : NotedLayer) (t : CType) → HasType globals variables mode x t → IsRawAddress t x
raw_address globals variables mode is (Node-F.Un op.Address e) t row =
    let type : ctype.Pointer (address_kind mode) e.note.ctype ≡ t = if_is (has_address globals e) (ctype.Pointer (address_kind mode) e.note.ctype) t row in
    ap (λ u. is_raw_kind (kind_of u)) (sym type ∙ ap (λ m. ctype.Pointer (address_kind m) e.note.ctype) is) ∙ ap (λ (x : CType-F CType). is_raw_kind (kind_in x)) (pointer_out kind.Raw e.note.ctype)
raw_address globals variables mode is x t row = tt

module _ (globals : Globals) (variables : List Variable) (mode m : Mode) (is : mode ≡ m) where
  expr_of_mode : (e : NotedExpr) → WellTypedExpr globals variables mode e → IsSafe e → IsOfMode m e
  expr_of_mode = each_follows (IsNoted globals variables mode) IsSafePart (IsPartOfMode m) (λ x n w. record {
    type = λ c. (w (n.scope ∙ is ∙ c)).0;
    node = λ c. (w (n.scope ∙ is ∙ c)).1;
    address = λ c. raw_address globals variables mode (is ∙ c) (out-Node Name Note x.node) x.note.ctype n.row;
  })

  init_of_mode : (i : NotedInit) → WellTypedInit globals variables mode i → ((e : NotedExpr) → Contains (inside_init listed (λ e. e ∷ []) i) e → IsSafe e) → IsInitOfMode m i
  init_of_mode init.Nothing w h = tt
  init_of_mode (init.One e) w h = expr_of_mode e w (h e (0, omega arith, refl))
  init_of_mode (init.Many es) w h = tt

  module _ (result : CType) (looped : Bool) where
    abbrev Row : ActLayer → Type 0
    Row x = act_rows globals variables result (WellTypedStmt globals variables result) x mode looped

    sides_of_mode : (x : ActLayer) → Row x → ((e : NotedExpr) → Contains (exprs_of_act (exprs_inside x)) e → IsSafe e) → AreSidesOfMode m x
    sides_of_mode (Act-F.Assign e f) row h = (expr_of_mode e row.left (h e (0, omega arith, refl)), expr_of_mode f row.right (h f (1, omega arith, refl)))
    sides_of_mode x row h = tt

    layer_of : (st : NotedStmt) → HasOnlySafe st → (e : NotedExpr) → Contains (exprs_of_act (exprs_inside (out-Act Name Note st.body))) e → IsSafe e
    layer_of st h e c = h e (subst (λ es. Contains es e) (sym (exprs_are st)) c)

    parts_of_mode : (ss : List NotedStmt) → AllByRecursion (λ st. WellTypedStmt globals variables result st mode looped) ss
        → ((e : NotedExpr) → Contains (inside_each listed (λ (es : List NotedExpr). es) (map exprs_in ss)) e → IsSafe e)
        → AllByRecursion (λ (st : NotedStmt). AreSidesOfMode m (out-Act Name Note st.body)) ss
    parts_of_mode [] w h = tt
    parts_of_mode (st ∷ ss) w h =
        let rest : List NotedExpr = inside_each listed (λ (es : List NotedExpr). es) (map exprs_in ss) in
        let by : StmtByParts globals variables result st mode looped = (stmt_by_parts globals variables result st mode looped).0 w.0 in (
          sides_of_mode (out-Act Name Note st.body) by.row (layer_of st (λ e c. h e (Contains-append_left (exprs_in st) rest e c))),
          parts_of_mode ss w.1 (λ e c. h e (Contains-append_right (exprs_in st) rest e c)),
        )

    act_of_mode : (x : ActLayer) → Row x → ((e : NotedExpr) → Contains (exprs_of_act (exprs_inside x)) e → IsSafe e) → IsActOfMode m x
    act_of_mode (Act-F.Local d) row h = init_of_mode d.init row.parts.init h
    act_of_mode (Act-F.Call e) row h = expr_of_mode e row (h e (0, omega arith, refl))
    act_of_mode (Act-F.Return None) row h = tt
    act_of_mode (Act-F.Return (Some e)) row h = expr_of_mode e row.0 (h e (0, omega arith, refl))
    act_of_mode (Act-F.Check e) row h = expr_of_mode e row.0 (h e (0, omega arith, refl))
    act_of_mode (Act-F.Bundle ss) row h = parts_of_mode ss row h
    act_of_mode (Act-F.Assign e f) row h = sides_of_mode (Act-F.Assign e f) row h
    act_of_mode x row h = tt

pub step_of_mode : (m : Mode) (s : Setting) (here there : Here) (step : Code → Code) → AreSafe s.text → (is : IsStep s here step there) → mode_of (step End) ≡ m → IsStmtOfMode m is.before
step_of_mode m s here there step safe is of_mode =
    let mode : is.inside.mode ≡ m = inside_mode s here there step is ∙ sym (step_mode s here there step is) ∙ of_mode in
    act_of_mode (globals_of_text s.text) s.variables is.inside.mode m mode s.result is.inside.looped (out-Act Name Note is.before.body) (by_parts s is.before is.inside).row
    (layer_of (globals_of_text s.text) s.variables is.inside.mode m mode s.result is.inside.looped is.before (is.inside.safe safe))

pub condition_of_mode : (m : Mode) (s : Setting) (here one other : Here) (e : Expr) → AreSafe s.text → (c : IsCondition s m here e one other) → IfSome c.before (IsOfMode m)
condition_of_mode m s here one other e safe c = by c.before c.inside.typed (c.inside.safe safe)
  where
    by : (o : Option NotedExpr) → IfSome o (λ (x : NotedExpr). WellTypedExpr (globals_of_text s.text) s.variables m x × (is_scalar x.note.ctype ≡ true)) → IfSome o IsSafe → IfSome o (IsOfMode m)
    by None w h = tt
    by (Some x) w h = expr_of_mode (globals_of_text s.text) s.variables m m refl x w.0 h
