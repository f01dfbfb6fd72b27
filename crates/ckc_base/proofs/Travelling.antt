-- What a stretch of steps does to the states, and how stretches with their states add up.
use Rattle.std.proofs.Common.{◌≡◌, ◌⊎◌, inl, inr, ℕ, zero, suc, ◌+◌, ◌≤◌, ◌<◌, List, [], ◌++◌, refl, sym, ◌∙◌, ap, subst, arith}
use Rattle.std.proofs.lemmas.List.Elements.{All-append}
use Rattle.ckc_base.specs.Steps.{Goes, System}
use Rattle.ckc_base.specs.States.{moved_on, state_after, state_at, Travels}
use Rattle.ckc_base.specs.Simulation.{Keeps}
use Rattle.ckc_base.proofs.Runs.{one_step, no_step, then_stretch}

-- a state stays while it waits
pub state-waiting : {E S : Type 0} (m : System E S) (n wait : ℕ) (s : S) → n ≤ wait → state_after m n wait s ≡ s
unfolding state_after
state-waiting m zero wait s h = refl
state-waiting m (suc n) zero s h = absurd (omega arith)
state-waiting m (suc n) (suc wait) s h = state-waiting m n wait s (omega arith)

-- after the wait comes the next state
pub state-moving : {E S : Type 0} (m : System E S) (n wait later : ℕ) (s : S) → n ≡ wait + suc later → state_after m n wait s ≡ moved_on (λ next. state_after m later (m.weight next) next) s (m.step s)
unfolding state_after
state-moving m zero wait later s h = absurd (omega arith)
state-moving m (suc n) zero later s h =
    let e : n ≡ later = omega arith in
    ap (λ k. moved_on (λ next. state_after m k (m.weight next) next) s (m.step s)) e
state-moving m (suc n) (suc wait) later s h = state-moving m n wait later s (omega arith)

pub one_travel : {E S : Type 0} (m : System E S) (events : List E) (s u : S) → m.step s ≡ Goes events u → Travels m (m.weight s + 1) events s u
one_travel m events s u e = record {
  stretch = one_step m events s u e;
  states = λ n.
      state-moving m _ (m.weight s) n s (omega arith)
      ∙ ap (moved_on (λ next. state_after m n (m.weight next) next) s) e;
}

pub no_travel : {E S : Type 0} (m : System E S) (s : S) → Travels m 0 [] s s
no_travel m s = record {
  stretch = no_step m s;
  states = λ n.
      let e : 0 + n ≡ n = omega arith in
      ap (λ k. state_at m s k) e;
}

pub then_travels : {E S : Type 0} (m : System E S) (c d : ℕ) (es fs : List E) (s u v : S) → Travels m c es s u → Travels m d fs u v → Travels m (c + d) (es ++ fs) s v
then_travels m c d es fs s u v p q = record {
  stretch = then_stretch m c d es fs s u v p.stretch q.stretch;
  states = λ n.
      let e : c + d + n ≡ c + (d + n) = omega arith in
      ap (λ k. state_at m s k) e ∙ p.states (d + n) ∙ q.states n;
}

-- a number below c, or c and something more
pub below_or_from : (j c : ℕ) → (j < c) ⊎ ((i : ℕ) × (j ≡ c + i))
below_or_from j zero = inr (j, omega arith)
below_or_from zero (suc c) = inl (omega arith)
below_or_from (suc j) (suc c) =
    elim (below_or_from j c) [ inl h ↦ inl (omega arith) | inr p ↦ inr (p.0, omega (arith, p.1)) ]

-- what is kept over one stretch and over the next is kept over both
pub then_keeps : {F T : Type 0} (b : System F T) (May : F → Type 0) (Beside : T → Type 0) (c d : ℕ) (es fs : List F) (t u : T)
    → Travels b c es t u → Keeps b May Beside c es t → Keeps b May Beside d fs u → Keeps b May Beside (c + d) (es ++ fs) t
then_keeps b May Beside c d es fs t u goes p q = record {
  allowed = All-append May es fs p.allowed q.allowed;
  beside = λ j h. elim (below_or_from j c) [
    | inl less ↦ p.beside j less
    | inr r ↦
        let e : state_at b t j ≡ state_at b u r.0 = ap (state_at b t) r.1 ∙ goes.states r.0 in
        subst Beside (sym e) (q.beside r.0 (omega (arith, r.1)))
  ];
}
