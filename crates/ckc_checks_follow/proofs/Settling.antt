-- Ended lists, `break` and `continue` are no steps of the source, and steps of core code.
use Rattle.std.proofs.Common.{◌≡◌, inl, inr, ℕ, suc, ◌+◌, ◌≤◌, List, [], ◌∷◌, length, refl, sym, ◌∙◌, ap, subst, arith}
use Rattle.std.specs.Prelude.{Bool, false, IsTrue}
use Rattle.ckc_source.specs.declared.stmt.Spot.{Spot}
use Rattle.ckc_source.specs.Code as source
use Rattle.ckc_source.specs.States.{Work, Rest, Turn, Leaving, Ended, Broken, Continued, begun, stepped, turned, behind, resumed, settled}
use Rattle.ckc_core.specs.Code.{Code, End, Break, Continue, Function}
use Rattle.ckc_core.specs.Meaning.{Stop, Next, Body, Step, core_step, extra_steps, ends, breaks, continues, goes_to, runs}
use Rattle.ckc_core.specs.Meaning as C
use Rattle.ckc_checks_follow.specs.code.Inserted.{statements}
use Rattle.ckc_checks_follow.proofs.Paths.{Quiet, no_quiet, then_quiet, quiet_by}
use Rattle.ckc_checks_follow.proofs.Relation.{turn_code, Stands, IsLoop, Behind, Front}

module _ (functions : List source.Function) (core : List Function) (t : ℕ) where
  -- the state with this code next
  abbrev pub placed : C.State → Code → C.Rest → C.State
  placed s c rest = record s { frame = record s.frame { code = c; rest = rest } }

  -- core code comes, with nothing seen, to where the same comes next
  pub record Settles (most : ℕ) (s : C.State) (work : List Work) : Type 0 where
    pub count : ℕ
    pub code : Code
    pub rest : C.Rest
    pub few : count ≤ most
    pub path : Quiet core count s (placed s code rest)
    pub front : Front functions t work code rest

  -- the statements in front are left in this way, where `rest` is as far as core code has looked
  abbrev Leaves : Leaving → C.State → C.Rest → Type 0
  Leaves Ended s rest = (s.frame.code ≡ End) × (s.frame.rest ≡ rest)
  Leaves Broken s rest = (x : Code) × (s.frame.code ≡ Break x) × (breaks s s.frame.rest ≡ breaks s rest)
  Leaves Continued s rest = (x : Code) × (s.frame.code ≡ Continue x) × (continues s s.frame.rest ≡ continues s rest)

  abbrev May : Leaving → Bool → Type 0
  May Ended looped = Unit {0}
  May Broken looped = IsTrue looped
  May Continued looped = IsTrue looped

  one : (s : C.State) (code : Code) (c : Code) (rest : C.Rest) → s.frame.code ≡ code → extra_steps code ≡ 0 → runs core s code ≡ goes_to s c rest
      → Quiet core 1 s (placed s c rest)
  unfolding core_step
  one s code c rest e z h =
      let go : core_step core s ≡ goes_to s c rest = ap (runs core s) e ∙ h in
      let count : extra_steps s.frame.code + 1 ≡ 1 = ap (λ x. extra_steps x + 1) e ∙ ap (λ n. n + 1) z in
      subst (λ n. Quiet core n s (placed s c rest)) count (quiet_by core s (placed s c rest) go refl)

  -- one step in front of what settles
  later : (most k : ℕ) (s : C.State) (c : Code) (rest : C.Rest) (work : List Work) → Quiet core 1 s (placed s c rest)
      → most + 1 ≤ k → Settles most (placed s c rest) work → Settles k s work
  later most k s c rest work path fits p = record {
    count = 1 + p.count;
    code = p.code;
    rest = p.rest;
    few = omega (arith, p.few);
    path = then_quiet core 1 p.count s (placed s c rest) (placed s p.code p.rest) path p.path;
    front = p.front;
  }

  wider : (most k : ℕ) (s : C.State) (work : List Work) → most ≤ k → Settles most s work → Settles k s work
  wider most k s work fits p =
      record { count = p.count; code = p.code; rest = p.rest; few = omega (arith, p.few); path = p.path; front = p.front }

  now : (most : ℕ) (s : C.State) (c : Code) (rest : C.Rest) (work : List Work) → Front functions t work c rest → Settles most (placed s c rest) work
  now most s c rest work f = record {
    count = 0;
    code = c;
    rest = rest;
    few = omega arith;
    path = no_quiet core (placed s c rest);
    front = f;
  }

  abbrev Again : List Work → Type 0
  Again work = (how : Leaving) (rest : C.Rest) (looped : Bool) (s : C.State) → Leaves how s rest → May how looped → Behind functions t looped work rest
      → Settles (length work + 1) s (resumed how work)

  -- Statements begin.
  pub begins : (code : source.Code) (work : List Work) (rest : C.Rest) (looped : Bool) (s : C.State) → Again work
      → Stands functions t looped (length work) code → Behind functions t looped work rest
      → Settles (length work + 1) (placed s (statements t code) rest) (begun code (λ how. resumed how work) work)
  begins source.End work rest looped s again st b = again Ended rest looped (placed s End rest) (refl, refl) tt b
  begins (source.Break more) work rest looped s again st b =
      again Broken rest looped (placed s (Break (statements t more)) rest) (statements t more, refl, refl) st.form.0 b
  begins (source.Continue more) work rest looped s again st b =
      again Continued rest looped (placed s (Continue (statements t more)) rest) (statements t more, refl, refl) st.form.0 b
  begins code work rest looped s again st b =
      now (length work + 1) s (statements t code) rest (Rest code ∷ work) (looped, st, inl (refl, b))

  -- the step of a loop comes next
  stepping : (spot : Spot) (e : source.Expr) (body step rest : source.Code) (around : Bool) (work : List Work) (after : C.Rest) (s : C.State) (most : ℕ) → 1 ≤ most
      → Stands functions t around (length work) (source.Loop spot e body step rest) → Behind functions t around work after
      → Settles most (placed s (statements t step) (Step (turn_code t e body) (statements t step) (statements t rest) after))
      (stepped step (source.Loop spot e body step rest) work)
  stepping spot e body source.End rest around work after s most one_more st b = record {
    count = 1;
    code = turn_code t e body;
    rest = Body (turn_code t e body) End (statements t rest) after;
    few = one_more;
    path = one (placed s End (Step (turn_code t e body) End (statements t rest) after)) End (turn_code t e body) (Body (turn_code t e body) End (statements t rest) after) refl refl refl;
    front = (around, st, inr (End, statements t rest, after, refl, (spot, e, body, source.End, rest, refl, refl, refl, refl), b));
  }
  stepping spot e body step rest around work after s most one_more st b =
      let l = source.Loop spot e body step rest in
      now most s (statements t step) (Step (turn_code t e body) (statements t step) (statements t rest) after) (Rest step ∷ Rest l ∷ work) (
        false,
        record { form = st.form.2; few = omega (arith, st.few) },
        inl (refl, ((λ h. cc), around, (spot, e, body, step, rest, refl, refl, refl, refl), st, b)),
      )

  turning : (code : source.Code) (b s' r : Code) (around : Bool) (work : List Work) (after : C.Rest) (s : C.State) (most : ℕ) → 1 ≤ most
      → IsLoop functions t code b s' r → Stands functions t around (length work) code → Behind functions t around work after
      → Settles most (placed s s' (Step b s' r after)) (turned code work)
  turning code b s' r around work after s most one_more l st h =
      let spot = l.0 in
      let e = l.1 in
      let body = l.2 in
      let step = l.3 in
      let rest = l.4 in
      let good = stepping spot e body step rest around work after s most one_more (subst (Stands functions t around (length work)) l.5 st) h in
      subst (λ b. Settles most (placed s s' (Step b s' r after)) (turned code work)) (sym l.6)
      (subst (λ s'. Settles most (placed s s' (Step (turn_code t e body) s' r after)) (turned code work)) (sym l.7)
      (subst (λ r. Settles most (placed s (statements t step) (Step (turn_code t e body) (statements t step) r after)) (turned code work)) (sym l.8)
      (subst (λ code. Settles most (placed s (statements t step) (Step (turn_code t e body) (statements t step) (statements t rest) after)) (turned code work)) (sym l.5) good)))

  -- a loop begins again
  looping : (code : source.Code) (b s' r : Code) (around : Bool) (work : List Work) (after : C.Rest) (s : C.State) (most : ℕ)
      → IsLoop functions t code b s' r → Stands functions t around (length work) code → Behind functions t around work after
      → Settles most (placed s b (Body b s' r after)) (begun code (λ how. resumed how work) work)
  looping code b s' r around work after s most l st h =
      let x = source.Loop l.0 l.1 l.2 l.3 l.4 in
      let good : Settles most (placed s b (Body b s' r after)) (Rest x ∷ work) =
      now most s b (Body b s' r after) (Rest x ∷ work)
      (around, subst (Stands functions t around (length work)) l.5 st, inr (s', r, after, refl, subst (λ c. IsLoop functions t c b s' r) l.5 l, h)) in
      subst (λ c. Settles most (placed s b (Body b s' r after)) (begun c (λ how. resumed how work) work)) (sym l.5) good

  -- after a loop
  passing : (code : source.Code) (b s' r : Code) (around : Bool) (work : List Work) (after : C.Rest) (s : C.State) → Again work
      → IsLoop functions t code b s' r → Stands functions t around (length work) code → Behind functions t around work after
      → Settles (length work + 1) (placed s r after) (begun (behind code) (λ how. resumed how work) work)
  passing code b s' r around work after s again l st h =
      let x = source.Loop l.0 l.1 l.2 l.3 l.4 in
      let st' = subst (Stands functions t around (length work)) l.5 st in
      let good = begins l.4 work after around s again (record { form = st'.form.3; few = omega (arith, st'.few) }) h in
      subst (λ c. Settles (length work + 1) (placed s r after) (begun (behind c) (λ how. resumed how work) work)) (sym l.5)
      (subst (λ r. Settles (length work + 1) (placed s r after) (begun l.4 (λ how. resumed how work) work)) (sym l.8) good)

  pub settles : (work : List Work) → Again work
  unfolding resumed
  settles [] Ended Stop looped s l may b = record {
    count = 0;
    code = s.frame.code;
    rest = s.frame.rest;
    few = omega arith;
    path = no_quiet core s;
    front = l;
  }
  settles [] Broken Stop looped s l may b = absurd (b may)
  settles [] Continued Stop looped s l may b = absurd (b may)
  settles (Rest code ∷ work) Ended (Next c after) looped s l may b =
      later (length work + 1) (suc (length work) + 1) s c after (resumed Ended (Rest code ∷ work)) (one s End c after l.0 refl (ap (ends s) l.1)) (omega arith)
      (subst (λ c. Settles (length work + 1) (placed s c after) (begun code (λ how. resumed how work) work)) (sym b.0)
      (begins code work after looped s (settles work) b.1 b.2))
  settles (Rest code ∷ work) Ended (Step b' s' c after) looped s l may b =
      later (length work + 1) (suc (length work) + 1) s b' (Body b' s' c after) (resumed Ended (Rest code ∷ work)) (one s End b' (Body b' s' c after) l.0 refl (ap (ends s) l.1)) (omega arith)
      (looping code b' s' c b.1 work after s (length work + 1) b.2 b.3 b.4)
  settles (Rest code ∷ work) Broken (Next c after) looped s l may b = wider (length work + 1) (suc (length work) + 1) s (resumed Broken work) (omega arith) (settles work Broken after looped s l may b.2)
  settles (Rest code ∷ work) Broken (Step b' s' c after) looped s l may b = absurd (b.0 may)
  settles (Rest code ∷ work) Continued (Next c after) looped s l may b = wider (length work + 1) (suc (length work) + 1) s (resumed Continued work) (omega arith) (settles work Continued after looped s l may b.2)
  settles (Rest code ∷ work) Continued (Step b' s' c after) looped s l may b = absurd (b.0 may)
  settles (Turn code ∷ work) Ended (Body b' s' c after) looped s l may b =
      later (length work + 1) (suc (length work) + 1) s s' (Step b' s' c after) (turned code work) (one s End s' (Step b' s' c after) l.0 refl (ap (ends s) l.1)) (omega arith)
      (turning code b' s' c b.0 work after s (length work + 1) (omega arith) b.1 b.2 b.3)
  settles (Turn code ∷ work) Broken (Body b' s' c after) looped s l may b =
      later (length work + 1) (suc (length work) + 1) s c after (begun (behind code) (λ how. resumed how work) work) (one s (Break l.0) c after l.1 refl l.2) (omega arith)
      (passing code b' s' c b.0 work after s (settles work) b.1 b.2 b.3)
  settles (Turn code ∷ work) Continued (Body b' s' c after) looped s l may b =
      later (length work + 1) (suc (length work) + 1) s s' (Step b' s' c after) (turned code work) (one s (Continue l.0) s' (Step b' s' c after) l.1 refl l.2) (omega arith)
      (turning code b' s' c b.0 work after s (length work + 1) (omega arith) b.1 b.2 b.3)
  settles work how rest looped s l may b = absurd b

  -- what comes next in a call is settled
  pub settled_front : (code : source.Code) (work : List Work) (rest : C.Rest) (looped : Bool) (s : C.State)
      → Stands functions t looped (length work) code → Behind functions t looped work rest
      → Settles (length work + 1) (placed s (statements t code) rest) (settled (Rest code ∷ work))
  unfolding resumed
  settled_front code work rest looped s st b = begins code work rest looped s (settles work) st b
