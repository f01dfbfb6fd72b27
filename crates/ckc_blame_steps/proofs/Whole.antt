-- Each step that is an assignment keeps states sound.
use Rattle.std.proofs.Common.{◌≡◌, refl, subst, ℕ, false, List, ◌∷◌}
use Rattle.ckc_base.specs.declared.arithmetic.Mode.{Mode}
use Rattle.ckc_syntax.specs.declared.tree.Name.{Name}
use Rattle.ckc_syntax.specs.declared.tree.Node.{Node-F, out-Node}
use Rattle.ckc_typed.specs.declared.typed.Note.{Note}
use Rattle.ckc_typed.specs.declared.typed.Typed.{Typed}
use Rattle.ckc_typed.specs.Conversions.{is_allocation_form}
use Rattle.ckc_typed.specs.Trees.{NotedExpr, NotedLayer}
use Rattle.ckc_source.specs.declared.stmt.Spot.{Spot}
use Rattle.ckc_source.specs.Code.{Target, Right, Code, End, Assign}
use Rattle.ckc_source.specs.Eval.{Store}
use Rattle.ckc_source.specs.States.{Work, Rest, State, settled}
use Rattle.ckc_source.specs.Steps.{at_work, store_of, source_step, spot_at, spot_of}
use Rattle.ckc_build_elaborate.specs.Elaborated.{elaborated}
use Rattle.ckc_build_elaborate.specs.Shapes.{shapes_elaborated}
use Rattle.ckc_build_elaborate.specs.Steps.{spot, nowhere, assigned_form}
use Rattle.ckc_blame_sound.specs.Calls.{store_in}
use Rattle.ckc_blame_sound.specs.Settings.{Setting}
use Rattle.ckc_blame_sound.specs.Sound.{Sound}
use Rattle.ckc_blame_control.specs.Ready.{Faces}
use Rattle.ckc_blame_control.proofs.Faced.{faces_assign}
use Rattle.ckc_blame_control.proofs.Moved.{stands_ready}
use Rattle.ckc_blame_steps.specs.Granted.{IsGranted, IsCoveredAct, IsCoveredAlone}
use Rattle.ckc_blame_steps.specs.Plans.{AllocateSoundly}
use Rattle.ckc_blame_steps.specs.Unchecked.{StoresSafely, MovesSoundly}
use Rattle.ckc_blame_steps.proofs.AllocatedAlone.{allocation_sound}
use Rattle.ckc_blame_steps.proofs.Becomes.{call_none}
use Rattle.ckc_blame_steps.proofs.Comes.{safe_as}
use Rattle.ckc_blame_steps.proofs.Declarations.{declaration_sound}
use Rattle.ckc_blame_steps.proofs.Origins.{Kind, IsCallAlone, kind}
use Rattle.ckc_blame_steps.proofs.Steps.{assignment_sound, at_b, covered_there}

-- no call that is a statement is an assignment, but for a `calloc`
no_call : (s : Setting) (sp : Spot) (target : Target) (right : Right) (at : Spot) (literals : ℕ) (f : NotedExpr) (m : Mode) (store : Store) (seen : List ℕ) (x : NotedLayer)
    → is_allocation_form x ≡ false → assigned_form s.text s.variables at nowhere literals f x End ≡ Assign sp target right End → IsCoveredAlone m s store seen x → ⊥
no_call s sp target right at literals f m store seen (Node-F.Call n es) other h c = call_none s n es sp at nowhere literals f.pos target right h m store seen c
no_call s sp target right at literals f m store seen (Node-F.Calloc w n u) other h c = absurd (cc)
no_call s sp target right at literals f m store seen x other h c = c

pub every_assignment : (p : Typed) (st : State) (h : Sound p st) (sp : Spot) (target : Target) (right : Right) (rest : Code) (next : List Work) → IsGranted p → AllocateSoundly p
    → settled st.frame.work ≡ Rest (Assign sp target right rest) ∷ next → (m : Mode) → (spot_of st).mode ≡ m → StoresSafely m (Assign sp target right rest) → MovesSoundly m p (source_step (elaborated p) st)
every_assignment p st h sp target right rest next g allocations is m mode safe =
    by (kind h.setting f.here f.exits.ends (Assign sp target right) f.judged)
  where
    f : Faces h.setting (store_in p st.blocks st.frame) st.frame.entry (Assign sp target right) (Rest rest ∷ next)
    f = faces_assign h.setting (store_in p st.blocks st.frame) st.frame.entry st.frame.work next (stands_ready p st h) sp target right rest is

    at_mode : sp.mode ≡ m
    at_mode = subst (λ w. (spot_at st.frame.function.end w).mode ≡ m) is mode

    safe_there : StoresSafely m (Assign sp target right End)
    safe_there = safe_as m (Assign sp target right rest) (Assign sp target right End) refl safe

    alone : (c : IsCallAlone h.setting f.here f.exits.ends (Assign sp target right) f.judged) (x : NotedLayer) → out-Node Name Note c.made.node ≡ x
        → IsCoveredAlone m h.setting (store_of (shapes_elaborated p.layout) (at_work st (Rest rest ∷ next))) f.here.seen x → MovesSoundly m p (source_step (elaborated p) st)
    alone c (Node-F.Calloc w n u) out covered = allocation_sound p m st h sp target right rest next g allocations is mode safe f c w u n out
    alone c x out covered =
        absurd (no_call h.setting sp target right (spot c.made.pos f.judged.after.note.mode) f.judged.literals c.made m (store_of (shapes_elaborated p.layout) (at_work st (Rest rest ∷ next))) f.here.seen x refl
        (subst (λ (y : NotedLayer). assigned_form h.setting.text h.setting.variables (spot c.made.pos f.judged.after.note.mode) nowhere f.judged.literals c.made y End ≡ Assign sp target right End) out c.goes) covered)

    by : Kind h.setting f.here f.exits.ends (Assign sp target right) f.judged → MovesSoundly m p (source_step (elaborated p) st)
    by (Kind.Assigns e x layer) = assignment_sound p m st h sp target right rest next g allocations is mode safe f e x layer
    by (Kind.Declares d layer) = declaration_sound p m st h sp target right rest next g allocations is mode safe f d layer
    by (Kind.Calls c) =
        alone c (out-Node Name Note c.made.node) refl
        (subst (IsCoveredAct m h.setting (store_of (shapes_elaborated p.layout) (at_work st (Rest rest ∷ next))) f.here.seen) c.becomes
        (covered_there p g st h (Assign sp target right) (Rest rest ∷ next) f m sp at_mode safe_there (at_work st (Rest rest ∷ next)) (at_b p g st h (Assign sp target right) (Rest rest ∷ next) f)))
    by (Kind.Bundles ss layer other) = absurd (cc)
    by (Kind.Others other) = absurd (cc)
