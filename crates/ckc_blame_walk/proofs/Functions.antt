-- The code of a function is judged from its first point.
use Rattle.std.proofs.Common.{◌≡◌, refl, ap, ◌∙◌, ℕ, true, false, List, [], arith}
use Rattle.std.specs.Prelude.{Ok}
use Rattle.std.specs.List.{Contains, flat_map}
use Rattle.std.proofs.lemmas.List.Elements.{All-nil}
use Rattle.ckc_typed.specs.Statics.{strings_of_stmt}
use Rattle.ckc_typed.specs.Trees.{NotedHead, NotedStmt}
use Rattle.ckc_blame_sound.specs.ckc_bounds_points.specs.declared.frame.Frame.{Frame}
use Rattle.ckc_blame_sound.specs.ckc_bounds_statements.specs.Paths.{Here, path}
use Rattle.ckc_base.proofs.Outcomes.{made_of}
use Rattle.ckc_blame_sound.specs.ckc_bounds.specs.Declarations.{head_bounds}
use Rattle.ckc_blame_sound.specs.ckc_bounds.specs.Frames.{name_seen, begin_in, first_fresh, function_frame, begin_of}
use Rattle.ckc_blame_sound.specs.ckc_bounds.specs.Texts.{body_judged}
use Rattle.ckc_build_elaborate.specs.Statements.{alone, stmt_elaborated}
use Rattle.ckc_blame_sound.specs.Settings.{Setting, AreStrings}
use Rattle.ckc_blame_sound.specs.Values.{value}
use Rattle.ckc_linear.specs.Facts.{Satisfies}
use Rattle.ckc_blame_sound.specs.Points.{GoesTo}
use Rattle.ckc_blame_sound.specs.Bodies.{IsInBody, IsNextFresh}
use Rattle.ckc_blame_sound.specs.Few.{nodes_in, HasRoom}
use Rattle.ckc_blame_sound.specs.Judged.{Judged}
use Rattle.ckc_blame_nested.specs.Nested.{nesting_of}
use Rattle.ckc_blame_walk.specs.Walks.{IsExit, empty_point, leaving}
use Rattle.ckc_blame_walk.proofs.Codes.{goes_nowhere}
use Rattle.ckc_blame_walk.proofs.Adds.{entry_small, entry_named}
use Rattle.ckc_blame_walk.proofs.Whole.{statement_judged}
use Rattle.ckc_blame_walk.specs.Scopes.{IsScoped}

none_in : {X : Type 0} (x : X) → Contains {X = X} [] x → ⊥
none_in x c = absurd (omega (arith, c.1))

-- from everywhere control may go to where nothing is known
to_empty : (frame : Frame) (here : Here) → GoesTo frame here empty_point
to_empty frame here = record {
  known = λ r. record {
    reached = refl;
    facts = λ locals words h. All-nil (Satisfies (value frame locals));
    widened = λ k c. absurd (none_in k c);
  };
  seen = λ k c. absurd (none_in k c);
}

empty_exit : (frame : Frame) (ks : List ℕ) (here : Here) → IsExit frame ks here empty_point
empty_exit frame ks here = record {
  point = empty_point;
  goes = goes_nowhere empty_point;
  reached = λ r. refl;
  left = λ r. record { facts = λ f c. absurd (none_in f c); widened = λ p c. absurd (none_in p c) };
  seen = λ k c. absurd (none_in k c);
}

pub body_goes : (s : Setting) (head : NotedHead) (n : ℕ) (body after : NotedStmt) (there : Here) (k : ℕ) → (nesting_of body).fine ≡ true → IsInBody s body → IsNextFresh s n → HasRoom s n (nodes_in body) → AreStrings s k (strings_of_stmt after)
    → IsScoped s body (begin_in s.frame false head n).seen → (path body).judged s.frame s.head (begin_in s.frame false head n) ≡ Ok (after, there)
    → Judged s (alone (stmt_elaborated s.text s.variables s.result k after)) leaving (begin_in s.frame false head n)
unfolding Judged
body_goes s head n body after there k fine inside fresh room strings scoped walk =
    statement_judged s body after (begin_in s.frame false head n) there k leaving _ fine inside fresh refl (entry_small s.frame) (entry_named s.frame) scoped room strings walk
    (record {
      breaks = λ b. empty_exit s.frame (path body).assigned (begin_in s.frame false head n);
      continues = λ c. empty_exit s.frame (path body).assigned (begin_in s.frame false head n);
    })
    (to_empty s.frame there)

-- The code of a judged body is judged in the frame that it was judged in.
pub function_goes : (s : Setting) (frame : Frame) (head : NotedHead) (body after : NotedStmt) (k : ℕ) → (nesting_of body).fine ≡ true → IsInBody s body → IsNextFresh s (first_fresh head body) → HasRoom s (first_fresh head body) (nodes_in body) → AreStrings s k (strings_of_stmt after) → IsScoped s body (flat_map name_seen head.params) → s.frame ≡ function_frame frame head body
    → s.head ≡ head_bounds frame head → body_judged frame head body ≡ Ok after
    → Judged s (alone (stmt_elaborated s.text s.variables s.result k after)) leaving (begin_in s.frame false head (first_fresh head body))
function_goes s frame head body after k fine inside fresh room strings scoped frame_is head_is judged =
    let walk = made_of ((path body).judged (function_frame frame head body) (head_bounds frame head) (begin_of frame head body)) (λ p. Ok p.0) after judged in
    let there : Here = walk.0.1 in
    let same : walk.0.0 ≡ after = cc in
    let moved : (path body).judged s.frame s.head (begin_in s.frame false head (first_fresh head body)) ≡ Ok (after, there) =
    ap (λ f. (path body).judged f s.head (begin_in f false head (first_fresh head body))) frame_is
    ∙ ap (λ h. (path body).judged (function_frame frame head body) h (begin_of frame head body)) head_is
    ∙ walk.1 ∙ ap (λ (x : NotedStmt). Ok (x, there)) same in
    body_goes s head (first_fresh head body) body after there k fine inside fresh room strings scoped moved
