-- The three-address code of a program follows it.
use Rattle.std.proofs.Common.{◌≡◌, inl, ℕ, zero, suc, ◌+◌, ◌*◌, List, [], ◌∷◌, append-nil, refl, sym, ◌∙◌, ap, subst, arith}
use Rattle.std.specs.Prelude.{true, false, Option, Some, None, slice_get, map, All}
use Rattle.std.specs.Option.{option_map}
use Rattle.std.proofs.lemmas.Option.{slice_get-map}
use Rattle.std.proofs.lemmas.List.Elements.{All-head, All-tail}
use Rattle.ckc_base.specs.Follows.{Follows}
use Rattle.ckc_base.specs.Actions.{World}
use Rattle.ckc_core.specs.Code.{Code, Function, Program}
use Rattle.ckc_core.specs.Meaning.{core_step, core_system, core_detail}
use Rattle.ckc_core.specs.Meaning as C
use Rattle.ckc_core.specs.WellFormed.{HasParams, IsFunctionOver, IsWellFormed}
use Rattle.ckc_tac.specs.Meaning.{tac_system, tac_detail}
use Rattle.ckc_tac.specs.Meaning as T
use Rattle.ckc_lower.specs.code.Lowered.{empty, whole, lowered_function, lowered}
use Rattle.ckc_lower.proofs.Falling.{MatchedBelow, follows_by_falling}
use Rattle.ckc_lower.proofs.Relation.{Runs, RunsAt, SameState, left_of, SameFunctions}
use Rattle.ckc_lower.proofs.Standing.{opens, function_kept, function_some}
use Rattle.ckc_lower.proofs.Steps.{steps}

-- what holds of each element holds of one that stands somewhere
pub All-got : {X : Type 0} (P : X → Type 0) (xs : List X) (i : ℕ) (x : X) → All P xs → slice_get xs i ≡ Some x → P x
All-got P [] i x all e = cc
All-got P (y ∷ xs) zero x all e = let same : y ≡ x = cc in subst P same (All-head P y xs all)
All-got P (y ∷ xs) (suc i) x all e = All-got P xs i x (All-tail P y xs all) e

-- a function's blocks run its body from block 0 on
function_runs : (functions : List Function) (f : Function) → IsFunctionOver functions f → RunsAt (whole f).blocks f.locals 0 f.body None None
function_runs functions f w =
    let o = opens functions (whole f).blocks f.locals f.body false true None None (empty f.locals) w.1 ([], sym (append-nil (whole f).blocks)) refl
    (function_kept functions f.locals f.body w.1) tt tt (function_some functions f w) in (
      o.block,
      o.at,
      subst (λ x. Runs (whole f).blocks f.locals f.body x o.block.end None None) (sym o.begins) o.runs,
    )

got_lowered : (functions : List Function) (i : ℕ) (f : Function) → slice_get functions i ≡ Some f → slice_get (map lowered_function functions) i ≡ Some (lowered_function f)
got_lowered functions i f e = slice_get-map lowered_function functions i ∙ ap (option_map lowered_function) e

same_functions : (functions : List Function) → All (IsFunctionOver functions) functions → SameFunctions functions (map lowered_function functions)
same_functions functions all = λ i f e. (
  lowered_function f,
  got_lowered functions i f e,
  function_runs functions f (All-got (IsFunctionOver functions) functions i f all e),
)

matches : (functions : List Function) → All (IsFunctionOver functions) functions → (s : C.State) (u : T.State) (r : SameState s u)
    → MatchedBelow (tac_system (map lowered_function functions)) SameState left_of (left_of s u r) u (4 * (C.extra_steps s.frame.code + 1)) (core_step functions s)
unfolding core_step
matches functions all s u r =
    let f = r.frame in
    let g = u.frame in
    subst (λ (w : World). MatchedBelow (tac_system (map lowered_function functions)) SameState left_of (left_of s u r) (record { frame = u.frame; callers = u.callers; world = w })
    (4 * (C.extra_steps s.frame.code + 1)) (C.runs functions s s.frame.code)) r.world
    (steps functions (map lowered_function functions) s g.blocks u.callers f.locals r.callers (left_of s u r) (same_functions functions all)
    s.frame.code g.end g.ops g.registers f.exit f.loop_at f.stands (omega arith) f.continues f.agree)

-- the entry of `main`
entered : (p : Program) (input : List ℕ) (found : Option Function) → slice_get p.functions p.main ≡ found → HasParams 0 found → All (IsFunctionOver p.functions) p.functions
    → SameState (C.first_state p input) (T.first_state (lowered p) input)
entered p input (Some f) e h all =
    let r = function_runs p.functions f (All-got (IsFunctionOver p.functions) p.functions p.main f all e) in
    let got = got_lowered p.functions p.main f e in
    let frame : T.entry_of (slice_get (map lowered_function p.functions) p.main) ≡ T.begins (whole f).blocks (λ _. None) r.0 =
    ap T.entry_of got ∙ ap (T.entry_block (whole f).blocks) r.1 in
    let code : C.body_of (slice_get p.functions p.main) ≡ f.body = ap C.body_of e in
    let first : C.State = C.first_state p input in
    let start : T.State = T.first_state (lowered p) input in
    let good : SameState (record { frame = record { code = f.body; rest = C.Stop; locals = λ _. None }; callers = []; world = first.world })
    (record { frame = T.begins (whole f).blocks (λ _. None) r.0; callers = []; world = start.world }) = record {
      frame = record { locals = f.locals; exit = None; loop_at = None; stands = inl r.2; continues = (refl, refl); agree = λ x less. refl };
      callers = tt;
      world = refl;
    } in
    subst (λ (c : Code). SameState (record { frame = record { code = c; rest = C.Stop; locals = λ _. None }; callers = []; world = first.world }) start) (sym code)
    (subst (λ (g : T.Frame). SameState (record { frame = record { code = f.body; rest = C.Stop; locals = λ _. None }; callers = []; world = first.world })
    (record { frame = g; callers = []; world = start.world })) (sym frame) good)
entered p input None e h all = absurd h

-- the three-address code follows the core code, in detail
pub lowered_follows : (p : Program) → IsWellFormed p → (input : List ℕ) → Follows (core_detail p input) (tac_detail (lowered p) input) 4
lowered_follows p w input =
    follows_by_falling (core_system p.functions) (tac_system (map lowered_function p.functions)) SameState left_of 4
    (matches p.functions w.functions) (C.first_state p input) (T.first_state (lowered p) input)
    (entered p input (slice_get p.functions p.main) refl w.main w.functions)
