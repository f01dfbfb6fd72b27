-- The bounds of each result that a program reads are known to the judgement.
use Rattle.std.proofs.Common.{◌≡◌, refl, sym, ap, subst, ◌∙◌, ℕ, List}
use Rattle.std.specs.Prelude.{Bool, true, false, if◌then◌else◌, Option, None, Some, Ok}
use Rattle.ckc_base.specs.declared.places.Pos.{Pos}
use Rattle.ckc_base.specs.Outcomes.{Outcome, there_or}
use Rattle.ckc_linear.specs.declared.forms.Base.{Base}
use Rattle.ckc_linear.specs.declared.forms.Base.TheVariants as base
use Rattle.ckc_linear.specs.declared.forms.Form.{Form}
use Rattle.ckc_types.specs.declared.types.Kind.{Kind}
use Rattle.ckc_types.specs.declared.types.Kind.TheVariants as kind
use Rattle.ckc_types.specs.declared.types.CType.{CType}
use Rattle.ckc_types.specs.declared.types.Structs.{Structs}
use Rattle.ckc_syntax.specs.declared.tree.Name.{Name}
use Rattle.ckc_syntax.specs.declared.tree.Length.TheVariants as lengths
use Rattle.ckc_syntax.specs.declared.tree.Limits.{Limits-F, out-Limits}
use Rattle.ckc_typed.specs.declared.environment.Variable.{Variable}
use Rattle.ckc_typed.specs.declared.typed.Note.{Note}
use Rattle.ckc_typed.specs.declared.typed.Typed.{Typed}
use Rattle.ckc_typed.specs.Environment.{variables_of}
use Rattle.ckc_typed.specs.Trees.{NotedExpr, NotedHead, NotedLimits, NotedNode, NotedStmt}
use Rattle.ckc_typed.specs.Types.{kind_of, type_written}
use Rattle.ckc_blame_sound.specs.ckc_bounds_points.specs.Codes.{bad_limits}
use Rattle.ckc_blame_sound.specs.ckc_bounds_points.specs.declared.frame.Bounds.{Bounds}
use Rattle.ckc_blame_sound.specs.ckc_bounds_points.specs.declared.frame.Bounds.TheVariants as bounds
use Rattle.ckc_blame_sound.specs.ckc_bounds_points.specs.declared.frame.Frame.{Frame}
use Rattle.ckc_blame_sound.specs.ckc_bounds_declared.specs.declared.limits.Holder.TheVariants as holder
use Rattle.ckc_blame_sound.specs.ckc_bounds_declared.specs.Written.{counted, known_between, bounds_written, bounds_of_kind, takes_bounds, place_of_limits, bounds_taken, bounds_declared}
use Rattle.ckc_blame_sound.specs.ckc_bounds.specs.Declarations.{known_or_not, result_bounds, params_frame}
use Rattle.ckc_source.specs.declared.expr.Limits as program
use Rattle.ckc_source.specs.Code.{Function}
use Rattle.ckc_build_elaborate.specs.Functions.{function_elaborated}
use Rattle.ckc_build_results.specs.Results.{limits_form, limits_of_count, result_limits}
use Rattle.ckc_build_values.specs.Kinds.{count_of_kind}
use Rattle.ckc_blame_sound.specs.Settings.{Setting, IsFunction, frame_of_text, setting_of}
use Rattle.ckc_blame_sound.specs.JudgedTexts.{IsJudged}
use Rattle.ckc_blame_walk.proofs.Texts.{text_same}
use Rattle.ckc_blame_walk.specs.ckc_blame_declared.proofs.Parameters.{function_well}

-- bounds that are known
abbrev pub AreKnown : Bounds → Type 0
AreKnown b = (low : Form) × (high : Form) × (b ≡ bounds.Known low high)

count_known : (b : Base) (f : Option Form) (r : Bounds) → counted b f ≡ Some r → AreKnown r
count_known b None r e = absurd cc
count_known b (Some f) r e = (_, _, some_is e)
  where
    some_is : {A : Type 0} {x y : A} → ◌≡◌ {A = Option A} (Some x) (Some y) → y ≡ x
    some_is e = cc

between_known : (f g : Option Form) (r : Bounds) → known_between f g ≡ Some r → AreKnown r
between_known None g r e = absurd cc
between_known (Some f) None r e = absurd cc
between_known (Some f) (Some g) r e = (f, g, some_is e)
  where
    some_is : {A : Type 0} {x y : A} → ◌≡◌ {A = Option A} (Some x) (Some y) → y ≡ x
    some_is e = cc

written_known : (p : Typed) (locals : List Variable) (frame : Frame) (t : CType) (x : Limits-F Name Note NotedLimits NotedNode NotedExpr) (r : Bounds) (limits : program.Limits)
    → bounds_written frame holder.Result t x ≡ Some r → limits_form p locals t x ≡ Some limits → AreKnown r
written_known p locals frame t (Limits-F.Count e at) r limits w l = count_known _ _ r w
written_known p locals frame t (Limits-F.ByteCount e at) r limits w l = count_known _ _ r w
written_known p locals frame t (Limits-F.Between e f at) r limits w l = between_known _ _ r w
written_known p locals frame t (Limits-F.Unknown at) r limits w l = absurd cc

by_kind : (structs : Structs) (t : CType) (k : Option Kind) (limits : program.Limits) → limits_of_count structs t (count_of_kind k) ≡ Some limits → AreKnown (bounds_of_kind (base.Value 0) k)
by_kind structs t (Some kind.One) limits e = (_, _, refl)
by_kind structs t (Some kind.Nt) limits e = (_, _, refl)
by_kind structs t (Some kind.Raw) limits e = absurd cc
by_kind structs t (Some kind.Arr) limits e = absurd cc
by_kind structs t None limits e = absurd cc

there_is_some : {A : Type 0} (code : ℕ) (at : Pos) (o : Option A) (a : A) → there_or code at o ≡ Ok a → o ≡ Some a
there_is_some code at (Some b) a e = ok_is e
  where
    ok_is : {A : Type 0} {x y : A} → ◌≡◌ {A = Outcome A} (Ok x) (Ok y) → ◌≡◌ {A = Option A} (Some x) (Some y)
    ok_is e = cc
there_is_some code at None a e = absurd cc

declared_known : (p : Typed) (locals : List Variable) (frame : Frame) (t : CType) (l : Option NotedLimits) (r : Bounds) (limits : program.Limits) → bounds_declared frame holder.Result t lengths.Plain l ≡ Ok r
    → result_limits p locals t l ≡ Some limits → AreKnown r
declared_known p locals frame t None r limits b e = subst AreKnown (ok_same b) (by_kind p.layout t (kind_of t) limits e)
  where
    ok_same : {A : Type 0} {x y : A} → ◌≡◌ {A = Outcome A} (Ok x) (Ok y) → x ≡ y
    ok_same e = cc
declared_known p locals frame t (Some l) r limits b e =
    taken (takes_bounds t lengths.Plain) (there_is_some bad_limits (place_of_limits l) (bounds_taken frame holder.Result t lengths.Plain l) r b)
  where
    taken : (c : Bool) → (if c then bounds_written frame holder.Result t (out-Limits Name Note l) else None) ≡ Some r → AreKnown r
    taken true w = written_known p locals frame t (out-Limits Name Note l) r limits w e
    taken false w = absurd cc

head_known : (p : Typed) (k : ℕ) (head : NotedHead) (body : NotedStmt) (r : Bounds) (limits : program.Limits) → result_bounds (params_frame (frame_of_text p) head) head ≡ Ok r
    → (function_elaborated p k head body).result ≡ Some limits → AreKnown (setting_of p head body).head.bounds
unfolding setting_of
head_known p k head body r limits b e =
    subst AreKnown (ap (known_or_not) (sym b)) (declared_known p (variables_of body.note.mode head body) (params_frame (frame_of_text p) head) (type_written head.result) head.bounds r limits b e)

pub results_known : (p : Typed) → IsJudged p → (s : Setting) (f : Function) (limits : program.Limits) → IsFunction p s f → f.result ≡ Some limits → AreKnown s.head.bounds
results_known p j s f limits i e =
    let w = (function_well p j i.head i.body i.there).result in
    let same = (text_same j.typed p j.has_bounds).frame in
    subst (λ (t : Setting). AreKnown t.head.bounds) (sym i.judged)
    (head_known p i.literals i.head i.body w.0 limits (ap (λ (frame : Frame). result_bounds (params_frame frame i.head) i.head) same ∙ w.1) (ap (λ (g : Function). g.result) (sym i.runs) ∙ e))
