-- Exits of a statement are exits of its parts, and control goes to them.
use Rattle.std.proofs.Common.{◌≡◌, inl, inr, ⊎_elim, refl, sym, subst, ◌∙◌, ℕ, Bool, true, false, List, [], ◌++◌, append-nil}
use Rattle.std.specs.Prelude.{◌^◌, ◌||◌}
use Rattle.std.specs.List.{All, Contains}
use Rattle.std.proofs.lemmas.List.Elements.{All-weaker, All-contains, All-contains_itself}
use Rattle.ckc_linear.specs.declared.facts.Fact.{Fact}
use Rattle.ckc_linear.specs.Facts.{Satisfies}
use Rattle.ckc_blame_sound.specs.ckc_bounds_known.specs.Shown.{is_within}
use Rattle.ckc_blame_sound.specs.ckc_bounds_points.specs.declared.frame.Frame.{Frame}
use Rattle.ckc_blame_sound.specs.ckc_bounds_points.specs.Flow.{State, less}
use Rattle.ckc_blame_sound.specs.ckc_bounds_statements.specs.Paths.{Here}
use Rattle.ckc_blame_sound.specs.Values.{value}
use Rattle.ckc_blame_sound.specs.Points.{IsKnown, GoesTo}
use Rattle.ckc_blame_sound.specs.Judged.{Exits}
use Rattle.ckc_blame_walk.specs.Walks.{AreSmall, IsSpared, StaysWide, IsAlways, IsLeft, IsExit, MayLeave, Stays}
use Rattle.ckc_blame_walk.proofs.Adds.{Adds}
use Rattle.ckc_blame_walk.proofs.Flow.{front, back, stays_less}
use Rattle.ckc_blame_walk.proofs.Heads.{left_less}
use Rattle.ckc_blame_walk.proofs.Codes.{goes_through}

module _ (frame : Frame) where
  -- more facts tell more
  pub known_before : (at after : State) → at.reached ≡ true → Adds frame at after → IsKnown frame after at
  known_before at after reached h = record {
    reached = reached;
    facts = λ locals words t. All-weaker (Contains at.facts.list) (Satisfies (value frame locals))
        (λ f c. All-contains (Satisfies (value frame locals)) after.facts.list f t (h.more.facts f c)) at.facts.list (All-contains_itself at.facts.list);
    widened = λ k c. h.widened k c;
  }

  -- what is left of what is known is known
  known_left : (ks : List ℕ) (at there : State) → at.reached ≡ true → IsLeft frame ks at there → IsKnown frame there at
  known_left ks at there reached h = record {
    reached = reached;
    facts = λ locals words t. All-weaker (Contains at.facts.list) (Satisfies (value frame locals))
        (λ f c. ⊎_elim
        (λ (g : Contains there.facts.list f × All (IsSpared frame f) ks). All-contains (Satisfies (value frame locals)) there.facts.list f t g.0)
        (λ (g : IsAlways frame f). g locals words) (h.facts f c)) at.facts.list (All-contains_itself at.facts.list);
    widened = λ k c. (h.widened k c).0;
  }

  pub exit_goes : (ks : List ℕ) (here exit : Here) → IsExit frame ks here exit → GoesTo frame here exit
  exit_goes ks here exit h =
      let first : GoesTo frame here h.point =
      record { known = λ r. known_left ks h.point.at here.at (h.reached r) (h.left r); seen = h.seen } in
      goes_through here h.point exit first h.goes

  left_front : (ks js : List ℕ) (at there : State) → IsLeft frame (ks ++ js) at there → IsLeft frame ks at there
  left_front ks js at there h = record {
    facts = λ f c. ⊎_elim
        (λ (g : Contains there.facts.list f × All (IsSpared frame f) (ks ++ js)). inl (g.0, front frame (IsSpared frame f) ks js g.1))
        (λ (g : IsAlways frame f). inr g) (h.facts f c);
    widened = λ p c. let g = h.widened p c in (g.0, front frame (StaysWide frame p) ks js g.1);
  }

  pub left_back : (ks js : List ℕ) (at there : State) → IsLeft frame (ks ++ js) at there → IsLeft frame js at there
  left_back ks js at there h = record {
    facts = λ f c. ⊎_elim
        (λ (g : Contains there.facts.list f × All (IsSpared frame f) (ks ++ js)). inl (g.0, back frame (IsSpared frame f) ks js g.1))
        (λ (g : IsAlways frame f). inr g) (h.facts f c);
    widened = λ p c. let g = h.widened p c in (g.0, back frame (StaysWide frame p) ks js g.1);
  }

  pub exit_front : (ks js : List ℕ) (here exit : Here) → IsExit frame (ks ++ js) here exit → IsExit frame ks here exit
  exit_front ks js here exit h =
      record { point = h.point; goes = h.goes; reached = h.reached; left = λ r. left_front ks js h.point.at here.at (h.left r); seen = h.seen }

  pub exit_back : (ks js : List ℕ) (here exit : Here) → IsExit frame (ks ++ js) here exit → IsExit frame js here exit
  exit_back ks js here exit h =
      record { point = h.point; goes = h.goes; reached = h.reached; left = λ r. left_back ks js h.point.at here.at (h.left r); seen = h.seen }

  -- an exit of the rest, after a part
  pub exit_after : (ks js : List ℕ) (here there exit : Here) → AreSmall here.at.facts → Stays frame ks here.at there.at → ((k : ℕ) → Contains here.seen k → Contains there.seen k)
      → IsExit frame (ks ++ js) here exit → IsExit frame js there exit
  exit_after ks js here there exit small stays seen h = record {
    point = h.point;
    goes = h.goes;
    reached = λ r. h.reached (stays.reached r);
    left = λ r.
        let l : IsLeft frame (ks ++ js) h.point.at here.at = h.left (stays.reached r) in
        record {
          facts = λ f c. ⊎_elim
              (λ (g : Contains here.at.facts.list f × All (IsSpared frame f) (ks ++ js)).
              inl (
                stays.facts r f (All-contains (λ (f : Fact). is_within (2 ^ 50) f.c ≡ true) here.at.facts.list f small g.0) (front frame (IsSpared frame f) ks js g.1) g.0,
                back frame (IsSpared frame f) ks js g.1,
              ))
              (λ (g : IsAlways frame f). inr g) (l.facts f c);
          widened = λ p c.
              let g = l.widened p c in
              (stays.widened r p (front frame (StaysWide frame p) ks js g.1) g.0, back frame (StaysWide frame p) ks js g.1);
        };
    seen = λ k c. seen k (h.seen k c);
  }

  -- an exit of what comes where more is known
  pub exit_adding : (ks : List ℕ) (here there exit : Here) → Adds frame here.at there.at → ((k : ℕ) → Contains here.seen k → Contains there.seen k) → IsExit frame ks here exit
      → IsExit frame ks there exit
  exit_adding ks here there exit adds seen h = record {
    point = h.point;
    goes = h.goes;
    reached = λ r. h.reached (sym adds.reached ∙ r);
    left = λ r.
        let l : IsLeft frame ks h.point.at here.at = h.left (sym adds.reached ∙ r) in
        record {
          facts = λ f c. ⊎_elim
              (λ (g : Contains here.at.facts.list f × All (IsSpared frame f) ks). inl (adds.more.facts f g.0, g.1))
              (λ (g : IsAlways frame f). inr g) (l.facts f c);
          widened = λ p c. let g = l.widened p c in (adds.widened p g.0, g.1);
        };
    seen = λ k c. seen k (h.seen k c);
  }

  -- At its end control goes from a statement to an exit.
  pub exit_end : (ks : List ℕ) (here there exit : Here) → AreSmall here.at.facts → Stays frame ks here.at there.at → ((k : ℕ) → Contains here.seen k → Contains there.seen k)
      → IsExit frame ks here exit → GoesTo frame there exit
  exit_end ks here there exit small stays seen h =
      exit_goes [] there exit (exit_after ks [] here there exit small stays seen (subst (λ xs. IsExit frame xs here exit) (sym (append-nil ks)) h))

  -- what is known at the head of a loop, where more is known
  pub loop_left : (ks : List ℕ) (at there : State) → Adds frame (less frame ks at) there → there.reached ≡ true → IsLeft frame ks (less frame ks at) there
  loop_left ks at there adds reached =
      let l : IsLeft frame ks (less frame ks at) at = left_less frame ks at ((stays_less frame ks at).reached (sym adds.reached ∙ reached)) in
      record {
        facts = λ f c. ⊎_elim
            (λ (g : Contains at.facts.list f × All (IsSpared frame f) ks). inl (adds.more.facts f c, g.1))
            (λ (g : IsAlways frame f). inr g) (l.facts f c);
        widened = λ p c. (adds.widened p c, (l.widened p c).1);
      }

  -- Exits of a statement are those of its first part, and of its second part after that.
  either : (a b : Bool) → a ≡ true → (a || b) ≡ true
  either a b e = cc

  or_else : (a b : Bool) → b ≡ true → (a || b) ≡ true
  or_else true b e = refl
  or_else false b e = e

  pub may_first : (ks js : List ℕ) (a b c d : Bool) (here : Here) (exits : Exits) → MayLeave frame (ks ++ js) (a || b) (c || d) here exits → MayLeave frame ks a c here exits
  may_first ks js a b c d here exits h = record {
    breaks = λ e. exit_front ks js here exits.breaks (h.breaks (either a b e));
    continues = λ e. exit_front ks js here exits.continues (h.continues (either c d e));
  }

  pub may_second : (ks js : List ℕ) (a b c d : Bool) (here : Here) (exits : Exits) → MayLeave frame (ks ++ js) (a || b) (c || d) here exits → MayLeave frame js b d here exits
  may_second ks js a b c d here exits h = record {
    breaks = λ e. exit_back ks js here exits.breaks (h.breaks (or_else a b e));
    continues = λ e. exit_back ks js here exits.continues (h.continues (or_else c d e));
  }

  pub may_after : (ks js : List ℕ) (a b c d : Bool) (here there : Here) (exits : Exits) → AreSmall here.at.facts → Stays frame ks here.at there.at
      → ((k : ℕ) → Contains here.seen k → Contains there.seen k) → MayLeave frame (ks ++ js) (a || b) (c || d) here exits → MayLeave frame js b d there exits
  may_after ks js a b c d here there exits small stays seen h = record {
    breaks = λ e. exit_after ks js here there exits.breaks small stays seen (h.breaks (or_else a b e));
    continues = λ e. exit_after ks js here there exits.continues small stays seen (h.continues (or_else c d e));
  }

  pub may_adding : (ks : List ℕ) (a b : Bool) (here there : Here) (exits : Exits) → Adds frame here.at there.at → ((k : ℕ) → Contains here.seen k → Contains there.seen k)
      → MayLeave frame ks a b here exits → MayLeave frame ks a b there exits
  may_adding ks a b here there exits adds seen h = record {
    breaks = λ e. exit_adding ks here there exits.breaks adds seen (h.breaks e);
    continues = λ e. exit_adding ks here there exits.continues adds seen (h.continues e);
  }

  -- a statement that has neither
  pub may_not : (ks : List ℕ) (a b : Bool) (here : Here) (exits : Exits) → a ≡ false → b ≡ false → MayLeave frame ks a b here exits
  may_not ks a b here exits p q = record { breaks = λ e. absurd (cc); continues = λ e. absurd (cc) }
