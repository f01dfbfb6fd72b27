-- Following is transitive, and holds of less detailed events.
use Rattle.std.proofs.Common.{◌≡◌, ◌⊎◌, inl, inr, ℕ, ◌+◌, ◌*◌, ◌≤◌, List, ◌++◌, append_assoc, sym, ◌∙◌, ap, subst, arith}
use Rattle.std.specs.List.{flat_map}
use Rattle.std.proofs.Math.Nat.{mul-le-mul_left}
use Rattle.std.proofs.lemmas.Grind.{flat_map-append}
use Rattle.ckc_base.specs.Traces.{Standing, Going, Ended, Stopped, Stuck, Fault, Showing, narrowed}
use Rattle.ckc_base.specs.Follows.{IsSafe, IsOver, IsPrefix, IsBorneOut, Follows}

stuck_is_unsafe : (s : Standing) → s ≡ Stuck → IsSafe s → ⊥
stuck_is_unsafe Going e h = cc
stuck_is_unsafe (Ended v) e h = cc
stuck_is_unsafe (Stopped c p) e h = cc
stuck_is_unsafe Stuck e h = h
stuck_is_unsafe (Fault k p) e h = h

pub prefix_trans : {E : Type 0} (xs ys zs : List E) → IsPrefix xs ys → IsPrefix ys zs → IsPrefix xs zs
prefix_trans xs ys zs p q = (p.0 ++ q.0, q.1 ∙ ap (λ l. l ++ q.0) p.1 ∙ append_assoc xs p.0 q.0)

borne_out_trans : {E : Type 0} (a b d : Showing E) → IsBorneOut a b → IsBorneOut b d → IsBorneOut a d
borne_out_trans {E} a b d p q = record {
  safe = q.safe;
  begins = prefix_trans d.trace b.trace a.trace q.begins p.begins;
  over = λ o. p.over (let P : Showing E → Type 0 = λ s. IsOver s.standing in subst P (sym (q.over o)) o) ∙ q.over o;
}

factor : (c e n k j : ℕ) → k ≤ c * (n + 1) → j ≤ e * (k + 1) → j ≤ e * (c + 1) * (n + 1)
factor c e n k j h i =
    let bound : k + 1 ≤ (c + 1) * (n + 1) = omega arith in
    omega (arith, mul-le-mul_left e bound)

back_step : {E : Type 0} (a : ℕ → Showing E) (b d : Showing E) → ((n : ℕ) × (((a n).standing ≡ Stuck) ⊎ IsBorneOut (a n) b)) → ((b.standing ≡ Stuck) ⊎ IsBorneOut b d) → (n : ℕ) × (((a n).standing ≡ Stuck) ⊎ IsBorneOut (a n) d)
back_step a b d p (inl stuck) =
    (p.0, elim p.1 [ inl s ↦ inl s | inr kept ↦ absurd (stuck_is_unsafe b.standing stuck kept.safe) ])
back_step a b d p (inr borne) =
    (p.0, elim p.1 [ inl s ↦ inl s | inr kept ↦ inr (borne_out_trans (a p.0) b d kept borne) ])

-- following is transitive, and the bounds multiply
pub follows_trans : {E : Type 0} (a b d : ℕ → Showing E) (c e : ℕ) → Follows a b c → Follows b d e → Follows a d (e * (c + 1))
follows_trans {E} a b d c e p q = record {
  forward = λ n h.
      let u = p.forward n h in
      let v = q.forward u.0 (λ stuck. h (ap (λ (s : Showing E). s.standing) (sym u.2) ∙ stuck)) in
      (v.0, factor c e n u.0 v.0 u.1 v.1, v.2 ∙ u.2);
  back = λ k.
      let u = q.back k in
      back_step a (b u.0) (d k) (p.back u.0) u.1;
}

narrowed_borne_out : {E F : Type 0} (f : E → List F) (a b : Showing E) → IsBorneOut a b → IsBorneOut (narrowed f a) (narrowed f b)
narrowed_borne_out f a b p = record {
  safe = p.safe;
  begins = (flat_map f p.begins.0, ap (flat_map f) p.begins.1 ∙ flat_map-append f b.trace p.begins.0);
  over = λ o. ap (narrowed f) (p.over o);
}

-- what follows with each event seen in detail follows with less detail
pub follows_narrowed : {E F : Type 0} (f : E → List F) (a b : ℕ → Showing E) (c : ℕ) → Follows a b c → Follows (λ n. narrowed f (a n)) (λ k. narrowed f (b k)) c
follows_narrowed f a b c p = record {
  forward = λ n h.
      let u = p.forward n h in
      (u.0, u.1, ap (narrowed f) u.2);
  back = λ k.
      let u = p.back k in
      (u.0, elim u.1 [ inl stuck ↦ inl stuck | inr kept ↦ inr (narrowed_borne_out f (a u.0) (b k) kept) ]);
}
