-- The judgement of a body, by the frame, the head and the begin that the code makes.
use Rattle.std.proofs.Common.{◌≡◌, ◌∙◌, ℕ, ◌-◌, false, true, sym, ap}
use Rattle.std.specs.Prelude.{Result, Ok, Err}
use Rattle.ckc_base.specs.declared.places.Refusal.{Refusal}
use Rattle.ckc_base.specs.declared.fault.Fault.{Fault}
use Rattle.ckc_base.specs.Outcomes.{Outcome, bind, AnswersOutcome, StepsOutcome}
use Rattle.ckc_base.proofs.Ends.{ends}
use Rattle.ckc_typed.specs.Trees.{NotedHead, NotedStmt}
use Rattle.ckc_bounds_points.specs.declared.frame.HeadBounds.{HeadBounds}
use Rattle.ckc_bounds_points.specs.declared.frame.Frame.{Frame}
use Rattle.ckc_bounds.specs.Declarations.{head_bounds}
use Rattle.ckc_bounds_statements.specs.Paths.{Here, path}
use Rattle.ckc_bounds.specs.Frames.{begin_in, needed_from, counted, first_fresh, frame_by, function_frame, begin_of}
use Rattle.ckc_bounds.specs.Texts.{body_judged}

module _ (text frame : Frame) (head : HeadBounds) (h : NotedHead) (body : NotedStmt) (w : Here) (p : frame ≡ function_frame text h body) (q : head ≡ head_bounds text h) (s : w ≡ begin_of text h body) where
  abbrev first : NotedStmt × Here → Outcome NotedStmt
  first r = Ok r.0

  whole : body_judged text h body ≡ bind ((path body).judged frame head w) first
  whole =
      ap (λ (f : Frame). bind ((path body).judged f (head_bounds text h) (begin_of text h body)) first) (sym p)
      ∙ ap (λ (g : HeadBounds). bind ((path body).judged frame g (begin_of text h body)) first) (sym q)
      ∙ ap (λ (v : Here). bind ((path body).judged frame head v) first) (sym s)

  pub body_fault : (now : Here) (r : Result NotedStmt Fault) (y x : Fault) → r ≡ Err y → y ≡ x → StepsOutcome {A = NotedStmt} (Err x) now ((path body).judged frame head w) → AnswersOutcome r (body_judged text h body)
  body_fault now r y x e g a = ends ((path body).judged frame head w) now (body_judged text h body) r y x e g a (λ f z. whole ∙ ap (λ o. bind o first) z)

  pub body_done : (a : NotedStmt) (now : Here) → (path body).judged frame head w ≡ Ok (a, now) → body_judged text h body ≡ Ok a
  body_done a now z = whole ∙ ap (λ o. bind o first) z

-- where the walk begins
pub begins : (text frame : Frame) (h : NotedHead) (body : NotedStmt) (n : ℕ) (w : Here) → frame ≡ function_frame text h body → n ≡ first_fresh h body → w ≡ begin_in frame false h n → w ≡ begin_of text h body
begins text frame h body n w p q s =
    s ∙ ap (λ (f : Frame). begin_in f false h n) p ∙ ap (λ (k : ℕ). begin_in (function_frame text h body) false h k) q

-- the frame of the function, by the text and the head that the code has
pub framed : (text now frame : Frame) (head : HeadBounds) (h : NotedHead) (body : NotedStmt) → frame ≡ frame_by now head h body → now ≡ text → head ≡ head_bounds text h → frame ≡ function_frame text h body
framed text now frame head h body p q r =
    p ∙ ap (λ (t : Frame). frame_by t head h body) q ∙ ap (λ (g : HeadBounds). frame_by text g h body) r

-- what a walk has counted
pub counts : (n now : ℕ) (a : NotedStmt) (o : Outcome (NotedStmt × Here)) (w : Here) → o ≡ Ok (a, w) → now ≡ w.next - n → now ≡ needed_from n o
counts n now a o w p q = q ∙ ap (needed_from n) (sym p)

pub counts_none : (n : ℕ) (o : Outcome (NotedStmt × Here)) (r : Refusal) → o ≡ Err r → 0 ≡ needed_from n o
counts_none n o r p = ap (needed_from n) (sym p)

module _ (frame : Frame) (head : HeadBounds) (h : NotedHead) (body : NotedStmt) (n : ℕ) (w : Here) (s : w ≡ begin_in frame true h n) where
  walked : needed_from n ((path body).judged frame head w) ≡ counted frame head h body n
  walked = ap (λ (v : Here). needed_from n ((path body).judged frame head v)) s

  pub counted_done : (now : ℕ) (a : NotedStmt) (v : Here) → (path body).judged frame head w ≡ Ok (a, v) → now ≡ v.next - n → now ≡ counted frame head h body n
  counted_done now a v p q = counts n now a ((path body).judged frame head w) v p q ∙ walked

  pub counted_none : (r : Refusal) → (path body).judged frame head w ≡ Err r → 0 ≡ counted frame head h body n
  counted_none r p = counts_none n ((path body).judged frame head w) r p ∙ walked
