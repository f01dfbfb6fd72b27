-- Three runs beside one another. The lowest shows the data events of the middle one, a step of the middle one at a time,
-- and the middle one shows what the upper one does, event for event. If each shows at most one event a step, each
-- step of the lowest has a step of the upper one at which both have shown the same data.
use Rattle.std.proofs.Common.{◌≡◌, ◌⊎◌, inl, inr, ℕ, zero, suc, ◌+◌, ◌≤◌, ◌<◌, List, [], ◌∷◌, ◌++◌, length, append_assoc, append-nil, refl, sym, ◌∙◌, ap, subst, arith, length-append}
use Rattle.std.specs.Prelude.{flat_map}
use Rattle.std.proofs.lemmas.List.{append_cancel_left}
use Rattle.std.proofs.lemmas.Grind.{flat_map-append}
use Rattle.ckc_base.specs.LongEvents.{LongEvent, Plain, Stored, Entered, Returned, data_events}
use Rattle.ckc_base.specs.Follows.{IsPrefix}
use Rattle.ckc_base.proofs.Travelling.{below_or_from}

-- ---- traces that grow

-- at most one event is added at a step
abbrev pub Grows : {E : Type 0} → (ℕ → List E) → Type 0
Grows {E} t = (n : ℕ) → (t (n + 1) ≡ t n) ⊎ ((e : E) × (t (n + 1) ≡ t n ++ e ∷ []))

fronts : {E : Type 0} (xs ys r q : List E) → xs ++ r ≡ ys ++ q → length xs ≡ length ys → xs ≡ ys
fronts [] [] r q e h = refl
fronts [] (y ∷ ys) r q e h = absurd (omega arith)
fronts (x ∷ xs) [] r q e h = absurd (omega arith)
fronts (x ∷ xs) (y ∷ ys) r q e h =
    let one : x ≡ y = cc in
    let rest : xs ++ r ≡ ys ++ q = cc in
    let more : length xs ≡ length ys = omega arith in
    ap (λ z. z ∷ xs) one ∙ ap (λ l. y ∷ l) (fronts xs ys r q rest more)

-- two fronts of one list that are as long are the same
same_front : {E : Type 0} (xs ys zs : List E) → IsPrefix xs zs → IsPrefix ys zs → length xs ≡ length ys → xs ≡ ys
same_front xs ys zs p q h = fronts xs ys p.0 q.0 (sym p.1 ∙ q.1) h

prefix_length : {E : Type 0} (xs ys : List E) → IsPrefix xs ys → length xs ≤ length ys
prefix_length xs ys p =
    let e : length ys ≡ length xs + length p.0 = ap length p.1 ∙ length-append xs p.0 in
    omega (arith, e)

prefix_then : {E : Type 0} (xs ys zs : List E) → IsPrefix xs ys → IsPrefix ys zs → IsPrefix xs zs
prefix_then xs ys zs p q = (p.0 ++ q.0, q.1 ∙ ap (λ l. l ++ q.0) p.1 ∙ append_assoc xs p.0 q.0)

prefix_seen : {E F : Type 0} (f : E → List F) (xs ys : List E) → IsPrefix xs ys → IsPrefix (flat_map f xs) (flat_map f ys)
prefix_seen f xs ys p = (flat_map f p.0, ap (flat_map f) p.1 ∙ flat_map-append f xs p.0)

one_longer : {E : Type 0} (xs ys : List E) (e : E) → ys ≡ xs ++ e ∷ [] → length ys ≡ length xs + 1
one_longer xs ys e h = ap length h ∙ length-append xs (e ∷ [])

module _ {E : Type 0} (t : ℕ → List E) (grows : Grows t) where
  grown : (n : ℕ) → IsPrefix (t n) (t (n + 1))
  grown n = elim (grows n) [ inl e ↦ ([], e ∙ sym (append-nil (t n))) | inr p ↦ (p.0 ∷ [], p.1) ]

  grown_by : (n k : ℕ) → IsPrefix (t n) (t (n + k))
  grown_by n zero =
      let e : n + 0 ≡ n = omega arith in
      ([], ap t e ∙ sym (append-nil (t n)))
  grown_by n (suc k) =
      let e : n + suc k ≡ n + k + 1 = omega arith in
      subst (λ m. IsPrefix (t n) (t m)) (sym e) (prefix_then (t n) (t (n + k)) (t (n + k + 1)) (grown_by n k) (grown (n + k)))

  pub earlier : (n m : ℕ) → n ≤ m → IsPrefix (t n) (t m)
  earlier n m h = elim (below_or_from m n) [
    | inl less ↦ absurd (omega arith)
    | inr p ↦ subst (λ m. IsPrefix (t n) (t m)) (sym p.1) (grown_by n p.0)
  ]

  pub shorter : (n m : ℕ) → n ≤ m → length (t n) ≤ length (t m)
  shorter n m h = prefix_length (t n) (t m) (earlier n m h)

  at_most_one : (n : ℕ) → length (t (n + 1)) ≤ length (t n) + 1
  at_most_one n = elim (grows n) [
    | inl e ↦ let same : length (t (n + 1)) ≡ length (t n) = ap length e in omega (arith, same)
    | inr p ↦ let one = one_longer (t n) (t (n + 1)) p.0 p.1 in omega (arith, one)
  ]

  -- the first step at which so many events are there
  pub record First (l n : ℕ) : Type 0 where
    pub there : l ≤ length (t n)
    pub before : (m : ℕ) → m < n → length (t m) < l

  pub first_by : (l last : ℕ) → l ≤ length (t last) → (n : ℕ) × First l n
  first_by l zero h = (0, record { there = h; before = λ m k. absurd (omega arith) })
  first_by l (suc last) h = elim (below_or_from (length (t last)) l) [
    | inl less ↦ (
      suc last,
      record {
        there = h;
        before = λ m k.
            let short = shorter m last (omega arith) in
            omega (arith, short, less);
      },
    )
    | inr p ↦ first_by l last (omega (arith, p.1))
  ]

  first_least : (l n m : ℕ) → First l n → l ≤ length (t m) → n ≤ m
  first_least l n m f h = elim (below_or_from m n) [
    | inl less ↦ let short = f.before m less in absurd (omega (arith, short))
    | inr p ↦ omega (arith, p.1)
  ]

-- ---- data events, calls and returns

abbrev pub data_in : List LongEvent → List LongEvent
data_in events = flat_map data_events events

abbrev pub is_entered : LongEvent → List LongEvent
is_entered Entered = Entered ∷ []
is_entered _ = []

abbrev pub is_returned : LongEvent → List LongEvent
is_returned Returned = Returned ∷ []
is_returned _ = []

-- how many calls have been entered, and how many have returned
abbrev pub entered : List LongEvent → ℕ
entered events = length (flat_map is_entered events)

abbrev pub returned : List LongEvent → ℕ
returned events = length (flat_map is_returned events)

-- as many calls have been entered, and as many have returned
pub record SameCalls (xs ys : List LongEvent) : Type 0 where
  pub ins : entered xs ≡ entered ys
  pub outs : returned xs ≡ returned ys

pub seen_more : {E F : Type 0} (f : E → List F) (xs ys : List E) (e : E) → ys ≡ xs ++ e ∷ [] → flat_map f ys ≡ flat_map f xs ++ f e
seen_more f xs ys e h = ap (flat_map f) h ∙ flat_map-append f xs (e ∷ []) ∙ ap (λ l. flat_map f xs ++ l) (append-nil (f e))

pub data_grows : (t : ℕ → List LongEvent) → Grows t → Grows (λ n. data_in (t n))
data_grows t grows n = elim (grows n) [
  | inl e ↦ inl (ap data_in e)
  | inr p ↦ by p.0 (seen_more data_events (t n) (t (n + 1)) p.0 p.1)
]
  where
    by : (e : LongEvent) → data_in (t (n + 1)) ≡ data_in (t n) ++ data_events e → (data_in (t (n + 1)) ≡ data_in (t n)) ⊎ ((e : LongEvent) × (data_in (t (n + 1)) ≡ data_in (t n) ++ e ∷ []))
    by (Plain event) h = inr (Plain event, h)
    by (Stored at width value) h = inr (Stored at width value, h)
    by Entered h = inl (h ∙ append-nil (data_in (t n)))
    by Returned h = inl (h ∙ append-nil (data_in (t n)))

-- a data event is no call and no return
no_calls : (xs ys : List LongEvent) (e : LongEvent) → ys ≡ xs ++ e ∷ [] → length (data_in xs) < length (data_in ys) → SameCalls ys xs
no_calls xs ys e h less = by e h (seen_more data_events xs ys e h)
  where
    same : (e : LongEvent) → is_entered e ≡ [] → is_returned e ≡ [] → ys ≡ xs ++ e ∷ [] → SameCalls ys xs
    same e i o h = record {
      ins = ap length (seen_more is_entered xs ys e h ∙ ap (λ l. flat_map is_entered xs ++ l) i ∙ append-nil (flat_map is_entered xs));
      outs = ap length (seen_more is_returned xs ys e h ∙ ap (λ l. flat_map is_returned xs ++ l) o ∙ append-nil (flat_map is_returned xs));
    }

    none : data_in ys ≡ data_in xs ++ [] → SameCalls ys xs
    none d = let short : length (data_in ys) ≡ length (data_in xs) = ap length (d ∙ append-nil (data_in xs)) in absurd (omega (arith, short))

    by : (e : LongEvent) → ys ≡ xs ++ e ∷ [] → data_in ys ≡ data_in xs ++ data_events e → SameCalls ys xs
    by (Plain event) h d = same (Plain event) refl refl h
    by (Stored at width value) h d = same (Stored at width value) refl refl h
    by Entered h d = none d
    by Returned h d = none d

module _ (upper middle lowest : ℕ → List LongEvent) (upper_grows : Grows upper) (middle_grows : Grows middle) (lowest_grows : Grows lowest)
    (begins : upper 0 ≡ []) (reach : (j : ℕ) → (n : ℕ) × IsPrefix (middle j) (upper n)) where
  abbrev shown : ℕ → List LongEvent
  shown n = data_in (upper n)

  pub shown_grows : Grows shown
  shown_grows = data_grows upper upper_grows

  -- The lowest run has shown what the middle one has done at step q, and that is what was done at step j but for data.
  pub record Settled (i j q : ℕ) : Type 0 where
    pub same : data_in (middle q) ≡ lowest i
    pub calls : SameCalls (middle q) (middle j)
    pub where_it_is : ((q ≡ j) × (length (lowest i) ≡ length (data_in (middle j)))) ⊎ ((q ≡ j + 1) × (length (data_in (middle j)) < length (lowest i)))

  settles : (i j : ℕ) → IsPrefix (data_in (middle j)) (lowest i) → IsPrefix (lowest i) (data_in (middle (j + 1))) → (q : ℕ) × Settled i j q
  settles i j low high = elim (below_or_from (length (data_in (middle j))) (length (lowest i))) [
    | inl less ↦ (j + 1, by less (middle_grows j))
    | inr p ↦
        let short = prefix_length (data_in (middle j)) (lowest i) low in
        let same : length (lowest i) ≡ length (data_in (middle j)) = omega (arith, p.1) in (
          j,
          record {
            same = same_front (data_in (middle j)) (lowest i) (lowest i) low ([], sym (append-nil (lowest i))) (sym same);
            calls = record { ins = refl; outs = refl };
            where_it_is = inl (refl, same);
          },
        )
  ]
    where
      by : length (data_in (middle j)) < length (lowest i) → (middle (j + 1) ≡ middle j) ⊎ ((e : LongEvent) × (middle (j + 1) ≡ middle j ++ e ∷ [])) → Settled i j (j + 1)
      by less (inl e) =
          let same : length (data_in (middle (j + 1))) ≡ length (data_in (middle j)) = ap (λ l. length (data_in l)) e in
          let short = prefix_length (lowest i) (data_in (middle (j + 1))) high in
          absurd (omega (arith, same, short))
      by less (inr p) =
          let short = prefix_length (lowest i) (data_in (middle (j + 1))) high in
          let one = at_most_one (λ n. data_in (middle n)) (data_grows middle middle_grows) j in
          let same : length (data_in (middle (j + 1))) ≡ length (lowest i) = omega (arith, short, one) in
          record {
            same = same_front (data_in (middle (j + 1))) (lowest i) (data_in (middle (j + 1))) ([], sym (append-nil (data_in (middle (j + 1))))) high same;
            calls = no_calls (middle j) (middle (j + 1)) p.0 p.1 (omega (arith, same));
            where_it_is = inr (refl, less);
          }

  -- the upper step at which the upper run has done what the middle one has done
  meets : (q : ℕ) → (n : ℕ) × First upper upper_grows (length (middle q)) n × (upper n ≡ middle q)
  meets q =
      let r = reach q in
      let f = first_by upper upper_grows (length (middle q)) r.0 (prefix_length (middle q) (upper r.0) r.1) in
      let least = first_least upper upper_grows (length (middle q)) f.0 r.0 f.1 (prefix_length (middle q) (upper r.0) r.1) in
      (f.0, f.1, same_front (upper f.0) (middle q) (upper r.0) (earlier upper upper_grows f.0 r.0 least) r.1 (exactly (length (middle q)) f.0 f.1))
    where
      exactly : (l n : ℕ) → First upper upper_grows l n → length (upper n) ≡ l
      exactly l zero f =
          let none : length (upper 0) ≡ 0 = ap length begins in
          let there = f.there in
          omega (arith, none, there)
      exactly l (suc n) f =
          let e : n + 1 ≡ suc n = omega arith in
          let one : length (upper (suc n)) ≤ length (upper n) + 1 = subst (λ m. length (upper m) ≤ length (upper n) + 1) e (at_most_one upper upper_grows n) in
          let before = f.before n (omega arith) in
          let there = f.there in
          omega (arith, one, before, there)

  -- The step i of the lowest run stands at the upper step n. If it shows nothing next, the upper run has done what the
  -- middle one has done, but for data. If it shows an event next, the upper step does so too.
  pub record Quietly (i j n : ℕ) : Type 0 where
    pub still : lowest (i + 1) ≡ lowest i
    pub at : ℕ
    pub settled : Settled i j at
    pub upper_same : upper n ≡ middle at
    pub first : First upper upper_grows (length (middle at)) n

  pub record Showing (i n : ℕ) : Type 0 where
    pub event : LongEvent
    pub shows : lowest (i + 1) ≡ lowest i ++ event ∷ []
    pub does : upper (n + 1) ≡ upper n ++ event ∷ []
    pub first : First shown shown_grows (length (lowest (i + 1))) (n + 1)

  pub record Joined (i j n : ℕ) : Type 0 where
    pub same : data_in (upper n) ≡ lowest i
    pub next : Quietly i j n ⊎ Showing i n

  one_event : (d : List LongEvent) (l : List LongEvent) (e event : LongEvent) → d ++ data_events e ≡ l ++ event ∷ [] → d ≡ l → e ≡ event
  one_event d l e event h same = by e (append_cancel_left l (data_events e) (event ∷ []) (ap (λ x. x ++ data_events e) (sym same) ∙ h))
    where
      by : (e : LongEvent) → data_events e ≡ event ∷ [] → e ≡ event
      by (Plain p) h = cc
      by (Stored at width value) h = cc
      by Entered h = absurd cc
      by Returned h = absurd cc

  shows_next : (i last : ℕ) (event : LongEvent) → lowest (i + 1) ≡ lowest i ++ event ∷ [] → IsPrefix (lowest (i + 1)) (shown last) → (n : ℕ) × (data_in (upper n) ≡ lowest i) × Showing i n
  shows_next i last event e p =
      let l = length (lowest (i + 1)) in
      let far = prefix_length (lowest (i + 1)) (shown last) p in
      let f = first_by shown shown_grows l last far in
      let least = first_least shown shown_grows l f.0 last f.1 far in
      let longer = one_longer (lowest i) (lowest (i + 1)) event e in
      from f.0 f.1 least longer
    where
      from : (m : ℕ) → First shown shown_grows (length (lowest (i + 1))) m → m ≤ last → length (lowest (i + 1)) ≡ length (lowest i) + 1
          → (n : ℕ) × (data_in (upper n) ≡ lowest i) × Showing i n
      from zero f least longer =
          let none : length (shown 0) ≡ 0 = ap (λ l. length (data_in l)) begins in
          let there = f.there in
          absurd (omega (arith, none, there, longer))
      from (suc n) f least longer =
          let s : suc n ≡ n + 1 = omega arith in
          let g : First shown shown_grows (length (lowest (i + 1))) (n + 1) = subst (First shown shown_grows (length (lowest (i + 1)))) s f in
          let before = g.before n (omega arith) in
          let there = g.there in
          let one = at_most_one shown shown_grows n in
          let now : length (shown n) ≡ length (lowest i) = omega (arith, before, there, one, longer) in
          let after : length (shown (n + 1)) ≡ length (lowest (i + 1)) = omega (arith, before, there, one, longer) in
          let small : IsPrefix (lowest i) (shown last) = prefix_then (lowest i) (lowest (i + 1)) (shown last) (event ∷ [], e) p in
          let same : shown n ≡ lowest i = same_front (shown n) (lowest i) (shown last) (earlier shown shown_grows n last (omega arith)) small now in
          let next : shown (n + 1) ≡ lowest (i + 1) = same_front (shown (n + 1)) (lowest (i + 1)) (shown last) (earlier shown shown_grows (n + 1) last (omega arith)) p after in
          (n, same, record { event = event; shows = e; does = does n same next (upper_grows n); first = g })
        where
          does : (n : ℕ) → shown n ≡ lowest i → shown (n + 1) ≡ lowest (i + 1) → (upper (n + 1) ≡ upper n) ⊎ ((e : LongEvent) × (upper (n + 1) ≡ upper n ++ e ∷ [])) → upper (n + 1) ≡ upper n ++ event ∷ []
          does n same next (inl still) =
              let wrong : length (lowest (i + 1)) ≡ length (lowest i) = ap length (sym next) ∙ ap (λ l. length (data_in l)) still ∙ ap length same in
              absurd (omega (arith, wrong, longer))
          does n same next (inr q) =
              let it : q.0 ≡ event = one_event (shown n) (lowest i) q.0 event (sym (seen_more data_events (upper n) (upper (n + 1)) q.0 q.1) ∙ next ∙ e) same in
              q.1 ∙ ap (λ x. upper n ++ x ∷ []) it

  -- what holds for each step of the lowest run up to one that has a list of middle steps beside it
  pub joins : (i j k : ℕ) → IsPrefix (data_in (middle j)) (lowest i) → IsPrefix (lowest i) (data_in (middle (j + 1))) → IsPrefix (lowest (i + 1)) (data_in (middle (k + 1)))
      → (n : ℕ) × Joined i j n
  joins i j k low high later = elim (lowest_grows i) [
    | inl still ↦
        let q = settles i j low high in
        let m = meets q.0 in (
          m.0,
          record {
            same = ap data_in m.2 ∙ q.1.same;
            next = inl (record { still = still; at = q.0; settled = q.1; upper_same = m.2; first = m.1 });
          },
        )
    | inr p ↦
        let r = reach (k + 1) in
        let n = shows_next i r.0 p.0 p.1 (prefix_then (lowest (i + 1)) (data_in (middle (k + 1))) (shown r.0) later (prefix_seen data_events (middle (k + 1)) (upper r.0) r.1)) in
        (n.0, record { same = n.1; next = inr n.2 })
  ]

  -- the upper steps never fall
  pub joined_rises : (i j k n m : ℕ) → j ≤ k → Joined i j n → Joined (i + 1) k m → n ≤ m
  joined_rises i j k n m rises a b = by a.next b.next
    where
      by : Quietly i j n ⊎ Showing i n → Quietly (i + 1) k m ⊎ Showing (i + 1) m → n ≤ m
      by (inr s) next =
          let far : length (shown m) ≡ length (lowest (i + 1)) = ap length b.same in
          let least = first_least shown shown_grows (length (lowest (i + 1))) (n + 1) m s.first (omega (arith, far)) in
          omega (arith, least)
      by (inl q) (inr s) = elim (below_or_from m n) [
        | inl less ↦
            let short = shorter shown shown_grows (m + 1) n (omega arith) in
            let there = s.first.there in
            let longer = one_longer (lowest (i + 1)) (lowest (i + 1 + 1)) s.event s.shows in
            let here : length (shown n) ≡ length (lowest i) = ap length a.same in
            let still : length (lowest (i + 1)) ≡ length (lowest i) = ap length q.still in
            absurd (omega (arith, short, there, longer, here, still))
        | inr p ↦ omega (arith, p.1)
      ]
      by (inl q) (inl r) =
          let more = shorter middle middle_grows q.at r.at (places q.settled.where_it_is r.settled.where_it_is (ap length q.still)) in
          let there : length (middle r.at) ≤ length (upper m) = r.first.there in
          first_least upper upper_grows (length (middle q.at)) n m q.first (omega (arith, more, there))
        where
          places : ((q.at ≡ j) × (length (lowest i) ≡ length (data_in (middle j)))) ⊎ ((q.at ≡ j + 1) × (length (data_in (middle j)) < length (lowest i)))
              → ((r.at ≡ k) × (length (lowest (i + 1)) ≡ length (data_in (middle k)))) ⊎ ((r.at ≡ k + 1) × (length (data_in (middle k)) < length (lowest (i + 1))))
              → length (lowest (i + 1)) ≡ length (lowest i) → q.at ≤ r.at
          places (inl x) (inl y) still = omega (arith, x.0, y.0)
          places (inl x) (inr y) still = omega (arith, x.0, y.0)
          places (inr x) (inr y) still = omega (arith, x.0, y.0)
          places (inr x) (inl y) still = elim (below_or_from j k) [
            | inl less ↦ omega (arith, x.0, y.0)
            | inr p ↦
                let short = shorter (λ n. data_in (middle n)) (data_grows middle middle_grows) k j (omega (arith, p.1)) in
                absurd (omega (arith, short, x.1, y.1))
          ]
