-- The search for a block where a fact is lost, backwards from the block that is asked about.
use Rattle.std.proofs.Common.{◌≡◌, ◌≢◌, ◌⊎◌, inl, inr, ⊎_elim, ℕ, zero, suc, ◌+◌, ◌-◌, ◌==◌, ◌≤◌, ◌<◌, Bool, true, false, not, ◌&&◌, List, [], ◌∷◌, ◌++◌, length, get_or, set, slice_get, replicate, Some, refl, sym, ap, subst, ◌∙◌, arith}
use Rattle.std.proofs.lemmas.Bool.{cases_eq, or_cases, or_left, or_right, not-true, not_from_false, both_ways}
use Rattle.std.proofs.lemmas.List.{length-set, length_push, length-replicate, get_or-set_same, get_or-set_other}
use Rattle.std.proofs.lemmas.List.Sums.{sum_by-cons, sum_by-set}
use Rattle.std.proofs.lemmas.Option.{slice_get_within}
use Rattle.ckc_tac.specs.declared.code.TacBlock.{TacBlock}
use Rattle.ckc_tac.specs.declared.code.TacOp.{TacOp}
use Rattle.ckc_tac.specs.declared.code.TacEnd.{TacEnd}
use Rattle.ckc_tac.specs.declared.code.TacEnd.TheVariants.{Jump, Branch, Return}
use Rattle.ckc_passes.specs.Rewrites.{all_done}
use Rattle.ckc_passes_known.specs.declared.facts.Fact.{Fact}
use Rattle.ckc_passes_known.specs.declared.edges.Edge.{Edge}
use Rattle.ckc_passes_known.specs.declared.marks.Question.{Question}
use Rattle.ckc_passes_known.specs.declared.marks.Way.TheVariants.{Open}
use Rattle.ckc_passes_known.specs.Known.{fact_of, LeadsUntold, at_entry, along, ended, untold}
use Rattle.ckc_passes_known.specs.code.Edges.{LeadsTo, ComesFrom, here, later, AreLinked, AreFrom}
use Rattle.ckc_passes_known.specs.code.Marks.{same_fact, leads, fact_in, Ends, IsGone, Passes, Goes, Has, unset, unset_in, IsPut, IsClosed, IsAnswered, Waits, IsSearch, GoesOn, IsAsked, IsAsking}
use Rattle.ckc_passes_known.proofs.Same.{both, both_left, both_right, test_same, same_test, fact_not, not_fact}
use Rattle.ckc_passes_known.proofs.Added.{slice_get_keeps, slice_get_last, slice_get_push}

-- ---- edges that do not tell the fact

module _ (fact : Fact) where
  one_untold : (to b : ℕ) (f : Fact) → (to == b && not (same_fact f fact)) ≡ true → (to ≡ b) × (f ≢ fact)
  one_untold to b f e =
      (test_same to b (both_left (to == b) (not (same_fact f fact)) e), fact_not f fact (not-true (same_fact f fact) (both_right (to == b) (not (same_fact f fact)) e)))

  untold_one : (to b : ℕ) (f : Fact) → to ≡ b → f ≢ fact → (to == b && not (same_fact f fact)) ≡ true
  untold_one to b f e n =
      both (to == b) (not (same_fact f fact)) (subst (λ q. (to == q) ≡ true) e (same_test to)) (not_from_false (same_fact f fact) (not_fact f fact n))

  pub leads_is : (end : TacEnd) (b : ℕ) → leads fact end b ≡ true → LeadsUntold fact end b
  leads_is (Jump to) b e = test_same to b e
  leads_is (Branch comparison x y one two) b e = ⊎_elim
      (λ h. inl (one_untold one b (fact_of comparison x y true) h))
      (λ h. inr (one_untold two b (fact_of comparison x y false) h))
      (or_cases (one == b && not (same_fact (fact_of comparison x y true) fact)) (two == b && not (same_fact (fact_of comparison x y false) fact)) e)
  leads_is (Return x) b e = absurd cc

  pub is_leads : (end : TacEnd) (b : ℕ) → LeadsUntold fact end b → leads fact end b ≡ true
  is_leads (Jump to) b e = subst (λ q. (to == q) ≡ true) e (same_test to)
  is_leads (Branch comparison x y one two) b (inl (e, n)) =
      or_left (one == b && not (same_fact (fact_of comparison x y true) fact)) (two == b && not (same_fact (fact_of comparison x y false) fact))
      (untold_one one b (fact_of comparison x y true) e n)
  is_leads (Branch comparison x y one two) b (inr (e, n)) =
      or_right (one == b && not (same_fact (fact_of comparison x y true) fact)) (two == b && not (same_fact (fact_of comparison x y false) fact))
      (untold_one two b (fact_of comparison x y false) e n)
  is_leads (Return x) b e = absurd e

  pub untold_leads : (end : TacEnd) (b : ℕ) → LeadsUntold fact end b → LeadsTo end b
  untold_leads (Jump to) b e = e
  untold_leads (Branch comparison x y one two) b (inl (e, n)) = inl e
  untold_leads (Branch comparison x y one two) b (inr (e, n)) = inr e
  untold_leads (Return x) b e = e

-- ---- marks

pub has_within : (marks : List Bool) (b : ℕ) → Has marks b → b < length marks
has_within [] b e = absurd cc
has_within (x ∷ marks) zero e = omega arith
has_within (x ∷ marks) (suc b) e = (let h = has_within marks b e in omega (arith, h))

set_from : (marks : List Bool) (a r : ℕ) → Has (set marks a true) r → (a ≡ r) ⊎ Has marks r
set_from marks a r e = ⊎_elim
    (λ (same : a ≡ r). inl same)
    (λ (apart : a ≡ r → ⊥). inr (sym (get_or-set_other marks a r true false (λ f. apart (sym f))) ∙ e)) (cases_eq a r)

set_keeps : (marks : List Bool) (a r : ℕ) → Has marks r → Has (set marks a true) r
set_keeps [] a r h = h
set_keeps (x ∷ marks) zero zero h = refl
set_keeps (x ∷ marks) zero (suc r) h = h
set_keeps (x ∷ marks) (suc a) zero h = h
set_keeps (x ∷ marks) (suc a) (suc r) h = set_keeps marks a r h

pub put_keeps : (b : ℕ) (marks : List Bool) (order : List ℕ) (marks' : List Bool) (order' : List ℕ) → IsPut b marks order marks' order'
    → (r : ℕ) → Has marks r → Has marks' r
put_keeps b marks order marks' order' (inl (is, e, f)) r h = subst (λ (m : List Bool). Has m r) (sym e) h
put_keeps b marks order marks' order' (inr (is, e, f)) r h = subst (λ (m : List Bool). Has m r) (sym e) (set_keeps marks b r h)

pub put_has : (b : ℕ) (marks : List Bool) (order : List ℕ) (marks' : List Bool) (order' : List ℕ) → b < length marks → IsPut b marks order marks' order' → Has marks' b
put_has b marks order marks' order' h (inl (is, e, f)) = subst (λ (m : List Bool). Has m b) (sym e) is
put_has b marks order marks' order' h (inr (is, e, f)) = subst (λ (m : List Bool). Has m b) (sym e) (get_or-set_same marks b true false h)

pub put_long : (b : ℕ) (marks : List Bool) (order : List ℕ) (marks' : List Bool) (order' : List ℕ) → IsPut b marks order marks' order' → length marks' ≡ length marks
put_long b marks order marks' order' (inl (is, e, f)) = ap length e
put_long b marks order marks' order' (inr (is, e, f)) = ap length e ∙ length-set marks b true

pub put_longer : (b : ℕ) (marks : List Bool) (order : List ℕ) (marks' : List Bool) (order' : List ℕ) → IsPut b marks order marks' order' → length order ≤ length order'
put_longer b marks order marks' order' (inl (is, e, f)) = (let g = ap length f in omega (arith, g))
put_longer b marks order marks' order' (inr (is, e, f)) = (let g = ap length f in omega (arith, g, length_push order b))

put_stays : (b : ℕ) (marks : List Bool) (order : List ℕ) (marks' : List Bool) (order' : List ℕ) → IsPut b marks order marks' order'
    → (k r : ℕ) → slice_get order k ≡ Some r → slice_get order' k ≡ Some r
put_stays b marks order marks' order' (inl (is, e, f)) k r h = subst (λ (o : List ℕ). slice_get o k ≡ Some r) (sym f) h
put_stays b marks order marks' order' (inr (is, e, f)) k r h = subst (λ (o : List ℕ). slice_get o k ≡ Some r) (sym f) (slice_get_keeps order (b ∷ []) k r h)

set_counts : (marks : List Bool) (b : ℕ) → b < length marks → get_or marks b false ≡ false → unset_in (set marks b true) + 1 ≡ unset_in marks
set_counts marks b h e = (let s = sum_by-set unset marks b true false h in let u = ap unset e in omega (arith, s, u))

-- ---- one block more

closed_keeps : (blocks : List TacBlock) (question : Question) (block : TacBlock) (p : ℕ) (marks marks' : List Bool) → ((r : ℕ) → Has marks r → Has marks' r) → IsClosed blocks question block p marks → IsClosed blocks question block p marks'
closed_keeps blocks question block p marks marks' keeps (inl e) = inl e
closed_keeps blocks question block p marks marks' keeps (inr (e, h)) = inr (e, keeps p h)

module _ (blocks : List TacBlock) (question : Question) where
  answered_keeps : (b : ℕ) (marks marks' : List Bool) → ((r : ℕ) → Has marks r → Has marks' r) → IsAnswered blocks question b marks → IsAnswered blocks question b marks'
  answered_keeps b marks marks' keeps a = record {
    inner = a.inner;
    closed = λ p block at leads. closed_keeps blocks question block p marks marks' keeps (a.closed p block at leads);
  }

  waits_keeps : (order more : List ℕ) (i b : ℕ) → Waits order i b → Waits (order ++ more) i b
  waits_keeps order more i b (k, h, at) = (k, h, slice_get_keeps order more k b at)

  module _ (goal i : ℕ) (marks : List Bool) (order : List ℕ) (p : ℕ) (short : i ≤ length order) (depends : IsGone blocks question p [] → IsGone blocks question goal [])
      (s : IsSearch blocks question goal i marks order) where
    search_more : p < length marks → get_or marks p false ≡ false → IsSearch blocks question goal i (set marks p true) (order ++ p ∷ [])
    search_more within new = record {
      long = length-set marks p true ∙ s.long;
      counts = omega (arith, s.counts, set_counts marks p within new, length_push order p);
      begun = set_keeps marks p goal s.begun;
      sound = λ b h is. ⊎_elim
          (λ (e : p ≡ b). depends (subst (λ q. IsGone blocks question q []) (sym e) is))
          (λ (k : Has marks b). s.sound b k is) (set_from marks p b h);
      marked = λ k b at. ⊎_elim
          (λ (h : slice_get order k ≡ Some b). set_keeps marks p b (s.marked k b h))
          (λ (h : (k ≡ length order) × (p ≡ b)). subst (λ q. Has (set marks p true) q) h.1 (get_or-set_same marks p true false within))
          (slice_get_push order p k b at);
      all = λ b h. ⊎_elim
          (λ (e : p ≡ b). inr (length order, short, subst (λ q. slice_get (order ++ p ∷ []) (length order) ≡ Some q) e (slice_get_last order p)))
          (λ (k : Has marks b). ⊎_elim
          (λ a. inl (answered_keeps b marks (set marks p true) (set_keeps marks p) a))
          (λ w. inr (waits_keeps order (p ∷ []) i b w)) (s.all b k)) (set_from marks p b h);
    }

    pub search_put : (marks' : List Bool) (order' : List ℕ) → p < length marks → IsPut p marks order marks' order' → IsSearch blocks question goal i marks' order'
    search_put marks' order' within (inl (is, e, f)) =
        subst (λ (m : List Bool). IsSearch blocks question goal i m order') (sym e) (subst (λ (o : List ℕ). IsSearch blocks question goal i marks o) (sym f) s)
    search_put marks' order' within (inr (is, e, f)) =
        subst (λ (m : List Bool). IsSearch blocks question goal i m order') (sym e)
        (subst (λ (o : List ℕ). IsSearch blocks question goal i (set marks p true) o) (sym f) (search_more within is))

  -- ---- the beginning

  none_has : (n b : ℕ) → get_or (replicate n false) b false ≡ false
  none_has zero b = refl
  none_has (suc n) zero = refl
  none_has (suc n) (suc b) = none_has n b

  none_counts : (n : ℕ) → unset_in (replicate n false) ≡ n
  none_counts zero = refl
  none_counts (suc n) =
      let e : unset_in (replicate (suc n) false) ≡ 1 + unset_in (replicate n false) = sum_by-cons unset false (replicate n false) in
      omega (arith, e, none_counts n)

  slice_get_one : (b k v : ℕ) → slice_get (b ∷ []) k ≡ Some v → b ≡ v
  slice_get_one b zero v e = cc
  slice_get_one b (suc k) v e = absurd cc

  module _ (goal : ℕ) (there : goal < length blocks) where
    abbrev none : List Bool
    none = replicate (length blocks) false

    within : goal < length none
    within = omega (arith, there, length-replicate (length blocks) false)

    search_first : IsSearch blocks question goal 0 (set none goal true) (goal ∷ [])
    search_first = record {
      long = length-set none goal true ∙ length-replicate (length blocks) false;
      counts = omega (arith, set_counts none goal within (none_has (length blocks) goal), none_counts (length blocks));
      begun = get_or-set_same none goal true false within;
      sound = λ b h is. ⊎_elim
          (λ (e : goal ≡ b). subst (λ q. IsGone blocks question q []) (sym e) is)
          (λ (k : Has none b). absurd (both_ways (get_or none b false) (none_has (length blocks) b) k)) (set_from none goal b h);
      marked = λ k b at. subst (λ q. Has (set none goal true) q) (slice_get_one goal k b at) (get_or-set_same none goal true false within);
      all = λ b h. ⊎_elim
          (λ (e : goal ≡ b). inr (0, omega arith, ap Some e))
          (λ (k : Has none b). absurd (both_ways (get_or none b false) (none_has (length blocks) b) k)) (set_from none goal b h);
    }

    pub search_begins : (old marks : List Bool) (order order' : List ℕ) → old ≡ none → order ≡ [] → IsPut goal old order marks order' → IsSearch blocks question goal 0 marks order'
    search_begins old marks order order' e o (inl (is, f, g)) =
        absurd (both_ways (get_or none goal false) (none_has (length blocks) goal) (subst (λ (m : List Bool). Has m goal) e is))
    search_begins old marks order order' e o (inr (is, f, g)) =
        subst (λ (m : List Bool). IsSearch blocks question goal 0 m order') (sym (f ∙ ap (λ (m : List Bool). set m goal true) e))
        (subst (λ (l : List ℕ). IsSearch blocks question goal 0 (set none goal true) l) (sym (g ∙ ap (λ (l : List ℕ). l ++ goal ∷ []) o)) search_first)

  -- ---- a block of the order

  waits_next : (order : List ℕ) (i b v : ℕ) → slice_get order i ≡ Some v → Waits order i b → (v ≡ b) ⊎ Waits order (i + 1) b
  waits_next order i b v at (k, h, there) = ⊎_elim
      (λ (same : k ≡ i). inl (let g : slice_get order i ≡ Some b = subst (λ q. slice_get order q ≡ Some b) same there in cc))
      (λ (apart : k ≡ i → ⊥). inr (k, omega arith, there)) (cases_eq k i)

  module _ (goal i v : ℕ) (marks : List Bool) (order : List ℕ) (marks' : List Bool) (order' : List ℕ) (s : IsSearch blocks question goal i marks order) (h : i < length order)
      (at : slice_get order i ≡ Some v) where
    pub there_of : v < length blocks
    there_of = omega (arith, s.long, has_within marks v (s.marked i v at))

    pub lost_at : IsGone blocks question v [] → IsGone blocks question goal []
    lost_at is = s.sound v (s.marked i v at) is

    pub search_answered : slice_get order' i ≡ Some v → IsAnswered blocks question v marks' → IsSearch blocks question goal i marks' order' → IsSearch blocks question goal (i + 1) marks' order'
    search_answered still a t = record {
      long = t.long;
      counts = t.counts;
      begun = t.begun;
      sound = t.sound;
      marked = t.marked;
      all = λ b k. ⊎_elim (λ done. inl done)
          (λ w. ⊎_elim (λ (e : v ≡ b). inl (subst (λ q. IsAnswered blocks question q marks') e a)) (λ x. inr x) (waits_next order' i b v still w)) (t.all b k);
    }

  -- ---- the edges to a block

  module _ (b : ℕ) (block : TacBlock) (from : ℕ) (at : slice_get blocks from ≡ Some block) (led : leads (fact_in question) block.end b ≡ true) where
    pub lost_by : IsGone blocks question from (all_done [] block.ops) → IsGone blocks question b []
    lost_by is = along from block at (leads_is (fact_in question) block.end b led) is

    pub goal_by : (goal : ℕ) → (IsGone blocks question from [] → IsGone blocks question from (all_done [] block.ops)) → (IsGone blocks question b [] → IsGone blocks question goal [])
        → IsGone blocks question from [] → IsGone blocks question goal []
    goal_by goal same depends is = depends (lost_by (same is))

  module _ (block : TacBlock) (from : ℕ) (at : slice_get blocks from ≡ Some block) (marks : List Bool) (other : TacBlock) (there : slice_get blocks from ≡ Some other) where
    same_block : block ≡ other
    same_block = (let g : Some block ≡ Some other = sym at ∙ there in cc)

    -- a block that leaves the fact as it is has its mark now
    pub closed_put : Passes (Ends blocks question) from (all_done [] block.ops) → Has marks from → IsClosed blocks question other from marks
    closed_put passes h = subst (λ (o : TacBlock). IsClosed blocks question o from marks) same_block (inr (passes, h))

    pub closed_told : (IsGone blocks question from (all_done [] block.ops) → ⊥) → IsClosed blocks question other from marks
    closed_told kept = subst (λ (o : TacBlock). IsClosed blocks question o from marks) same_block (inl kept)

    pub closed_apart : (b : ℕ) → LeadsUntold (fact_in question) other.end b → leads (fact_in question) block.end b ≡ false → IsClosed blocks question other from marks
    closed_apart b leads_there e = absurd (both_ways (leads (fact_in question) block.end b) e
        (is_leads (fact_in question) block.end b (subst (λ (o : TacBlock). LeadsUntold (fact_in question) o.end b) (sym same_block) leads_there)))

  module _ (all : List Edge) (first : List ℕ) (linked : AreLinked first all) (b head e : ℕ) (edge : Edge) (some : 0 < e) (at : slice_get all (e - 1) ≡ Some edge) where
    pub smaller : edge.next < e
    smaller = (let h = linked.nexts (e - 1) edge at in omega (arith, h, some))

    one_edge : (p n : ℕ) → n ≡ e → ComesFrom all p n → (p ≡ edge.from) ⊎ ComesFrom all p edge.next
    one_edge p zero same c = elim c [ ]
    one_edge p (suc k) same (here other there f) =
        let g : slice_get all k ≡ Some edge = subst (λ q. slice_get all q ≡ Some edge) (let m : e - 1 ≡ k = omega (arith, same) in m) at in
        let h : other ≡ edge = (let i : Some other ≡ Some edge = sym there ∙ g in cc) in
        inl (sym f ∙ ap (λ (o : Edge). o.from) h)
    one_edge p (suc k) same (later other there c) =
        let g : slice_get all k ≡ Some edge = subst (λ q. slice_get all q ≡ Some edge) (let m : e - 1 ≡ k = omega (arith, same) in m) at in
        let h : other ≡ edge = (let i : Some other ≡ Some edge = sym there ∙ g in cc) in
        inr (subst (λ (o : Edge). ComesFrom all p o.next) h c)

    module _ (marks : List Bool) (order : List ℕ) (marks' : List Bool) (order' : List ℕ) (u : IsAsking blocks all question b head e marks order marks' order') where
      pub asking_next : (marks'' : List Bool) (order'' : List ℕ) → length marks'' ≡ length marks' → length order' ≤ length order''
          → ((k r : ℕ) → slice_get order' k ≡ Some r → slice_get order'' k ≡ Some r) → ((r : ℕ) → Has marks' r → Has marks'' r) → GoesOn blocks question b marks' order' marks'' order''
          → ((block : TacBlock) → slice_get blocks edge.from ≡ Some block → LeadsUntold (fact_in question) block.end b → IsClosed blocks question block edge.from marks'')
          → IsAsking blocks all question b head edge.next marks order marks'' order''
      asking_next marks'' order'' long longer stays keeps goes handled = record {
        long = long ∙ u.long;
        within = omega (arith, smaller, u.within);
        longer = omega (arith, longer, u.longer);
        stays = λ k r h. stays k r (u.stays k r h);
        goes = λ goal i short depends s. goes goal i (omega (arith, short, u.longer)) depends (u.goes goal i short depends s);
        closed = λ p block there untold_there c. ⊎_elim
            (λ k. inl (closed_keeps blocks question block p marks' marks'' keeps k))
            (λ (f : ComesFrom all p e). ⊎_elim
            (λ (h : p ≡ edge.from). inl (subst (λ q. IsClosed blocks question block q marks'') (sym h) (handled block (subst (λ q. slice_get blocks q ≡ Some block) h there) untold_there)))
            (λ d. inr d) (one_edge p e refl f)) (u.closed p block there untold_there c);
      }

      pub asking_stays : ((block : TacBlock) → slice_get blocks edge.from ≡ Some block → LeadsUntold (fact_in question) block.end b → IsClosed blocks question block edge.from marks')
          → IsAsking blocks all question b head edge.next marks order marks' order'
      asking_stays handled = asking_next marks' order' refl (omega arith) (λ k r h. h) (λ r h. h) (λ goal i short depends s. s) handled

      pub asking_put : (marks'' : List Bool) (order'' : List ℕ) (block : TacBlock) → slice_get blocks edge.from ≡ Some block
          → leads (fact_in question) block.end b ≡ true → Goes blocks question edge.from (all_done [] block.ops) Open → IsPut edge.from marks' order' marks'' order''
          → IsAsking blocks all question b head edge.next marks order marks'' order''
      asking_put marks'' order'' block there led goes put =
          let within : edge.from < length marks' = (let h = slice_get_within blocks edge.from block there in omega (arith, h, u.long)) in
          asking_next marks'' order'' (put_long edge.from marks' order' marks'' order'' put) (put_longer edge.from marks' order' marks'' order'' put)
          (put_stays edge.from marks' order' marks'' order'' put) (put_keeps edge.from marks' order' marks'' order'' put)
          (λ goal i short depends s. search_put goal i marks' order' edge.from short (goal_by b block edge.from there led goal goes.1 depends) s marks'' order'' within put)
          (λ other again untold_there. closed_put block edge.from there marks'' other again goes.0 (put_has edge.from marks' order' marks'' order'' within put))

  pub asking_first : (all : List Edge) (first : List ℕ) (b : ℕ) (marks : List Bool) (order : List ℕ) → AreFrom blocks (length blocks) first all → length marks ≡ length blocks
      → IsAsking blocks all question b (get_or first b 0) (get_or first b 0) marks order marks order
  asking_first all first b marks order edges long = record {
    long = long;
    within = edges.linked.heads b;
    longer = omega arith;
    stays = λ k r h. h;
    goes = λ goal i short depends s. s;
    closed = λ p block there untold_there c. inr c;
  }

  no_edge : (all : List Edge) (p : ℕ) → ComesFrom all p 0 → ⊥
  no_edge all p c = elim c [ ]

  pub asking_ended : (all : List Edge) (first : List ℕ) (b e : ℕ) (marks : List Bool) (order : List ℕ) (marks' : List Bool) (order' : List ℕ)
      → AreFrom blocks (length blocks) first all → b < length blocks → (b ≡ 0 → ⊥) → e ≡ 0
      → IsAsking blocks all question b (get_or first b 0) e marks order marks' order' → IsAsked blocks question b marks order marks' order'
  asking_ended all first b e marks order marks' order' edges within inner none u = record {
    goes = u.goes;
    stays = u.stays;
    answered = record {
      inner = inner;
      closed = λ p block at leads_there. ⊎_elim (λ c. c)
          (λ (f : ComesFrom all p e). absurd (no_edge all p (subst (ComesFrom all p) none f)))
          (u.closed p block at leads_there (edges.there p block b (slice_get_within blocks p block at) at (untold_leads (fact_in question) block.end b leads_there) within));
    };
  }

  -- ---- the end

  module _ (goal i : ℕ) (marks : List Bool) (order : List ℕ) (s : IsSearch blocks question goal i marks order) (over : length order ≤ i) where
    answered_all : (b : ℕ) → Has marks b → IsAnswered blocks question b marks
    answered_all b h = ⊎_elim (λ a. a)
        (λ (w : Waits order i b). absurd (let k = slice_get_within order w.0 b w.2 in omega (arith, k, w.1, over))) (s.all b h)

    kept_from : (from : ℕ) (block : TacBlock) → IsClosed blocks question block from marks → IsGone blocks question from (all_done [] block.ops)
        → (Passes (Ends blocks question) from (all_done [] block.ops) → Has marks from → ⊥) → ⊥
    kept_from from block (inl kept) is h = kept is
    kept_from from block (inr (passes, k)) is h = h passes k

    kept_all : (b : ℕ) (done : List TacOp) → Has marks b → Passes (Ends blocks question) b done → IsGone blocks question b done → ⊥
    kept_all b [] h passes at_entry = (answered_all 0 h).inner refl
    kept_all b [] h passes (along from block at way is) =
        kept_from from block ((answered_all b h).closed from block at way) is (λ ps k. kept_all from (all_done [] block.ops) k ps is)
    kept_all b (op ∷ done) h passes (ended n e) = passes.0 e
    kept_all b (op ∷ done) h passes (untold n is) = kept_all b done h passes.1 is

    pub search_ended : IsGone blocks question goal [] → ⊥
    search_ended is = kept_all goal [] s.begun tt is
