-- Facts that stay, moved to the front in runs.
use Rattle.std.proofs.Common.{◌≡◌, ℕ, ◌+◌, ◌-◌, ◌<◌, ◌≤◌, List, [], ◌∷◌, ◌++◌, Bool, true, false, not, cond, sym, ap, ◌∙◌, length, take, drop, get_or, arith}
use Rattle.std.specs.Bool.{OnFalse}
use Rattle.std.specs.List.{filter, copy_within}
use Rattle.std.proofs.Math.Seq.{paste, take-add}
use Rattle.std.proofs.lemmas.List.{drop-drop, length-drop, take_more, take_all, get_or-drop, get_or_default}
use Rattle.std.proofs.lemmas.List.Edits.{take-paste, drop-paste, length-paste}
use Rattle.std.proofs.lemmas.List.Elements.{filter-append, filter_more}
use Rattle.std.proofs.lemmas.List.Filters.{FiltersInPlace, FiltersInPlace-more_no}
use Rattle.ckc_linear.specs.declared.facts.Fact.{Fact}
use Rattle.ckc_linear.specs.Facts.{names}
use Rattle.ckc_linear.specs.code.Runs.{AllStay, AreOthers}

-- ---- facts in front that stay

-- one fact more
pub one_more : (x : ℕ) (facts : List Fact) (i : ℕ) (f : Fact) → AllStay x (take i facts) → i < length facts → f ≡ get_or facts i f → names x f ≡ false → AllStay x (take (i + 1) facts)
one_more x facts i f h l is other =
    filter_more (λ g. not (names x g)) facts i f l
    ∙ (λ t. h t ++ cond (not (names x (sym is t))) (get_or facts i f ∷ []) [])
    ∙ ap (λ b. take i facts ++ cond (not b) (get_or facts i f ∷ []) []) other
    ∙ sym (take_more facts i f l)

-- a block more
pub block_more : (x : ℕ) (facts block : List Fact) (i n : ℕ) → AllStay x (take i facts) → block ≡ take n (drop i facts) → AllStay x block → AllStay x (take (i + n) facts)
block_more x facts block i n h is b =
    let p : Fact → Bool = λ f. not (names x f) in
    let cut : take (i + n) facts ≡ take i facts ++ block = take-add i n facts ∙ ap (λ d. take i facts ++ d) (sym is) in
    ap (filter p) cut ∙ filter-append p (take i facts) block ∙ (λ t. h t ++ b t) ∙ sym cut

-- as many as are tested before one that names x, or all
pub found_there : (x : ℕ) (facts rest : List Fact) (start k : ℕ) (d : Fact) → rest ≡ drop start facts → start ≤ length facts → AllStay x (take start facts) → AllStay x (take k rest) → k < length rest → names x (get_or rest k d) ≡ true → AreOthers x facts (start + k)
found_there x facts rest start k d is within h more l named =
    let long = ap length is ∙ length-drop start facts in
    let f = get_or rest k d in
    record {
      within = omega (arith, long);
      stay = block_more x facts (take k rest) start k h (ap (take k) is) more;
      stop = λ less. (f, get_or_default rest k d f l ∙ ap (λ e. get_or e k f) is ∙ get_or-drop start facts k f, named);
    }

pub found_nowhere : (x : ℕ) (facts rest : List Fact) (start k : ℕ) → rest ≡ drop start facts → start ≤ length facts → AllStay x (take start facts) → AllStay x (take k rest) → length rest ≤ k → AreOthers x facts (length facts)
found_nowhere x facts rest start k is within h more l =
    let p : Fact → Bool = λ f. not (names x f) in
    let long = ap length is ∙ length-drop start facts in
    let all : take (length facts) facts ≡ take (start + k) facts = take_all (length facts) facts (omega arith) ∙ sym (take_all (start + k) facts (omega (arith, long))) in
    record {
      within = omega arith;
      stay = ap (filter p) all ∙ block_more x facts (take k rest) start k h (ap (take k) is) more ∙ sym all;
      stop = λ l. absurd (omega (arith, l));
    }

pub on_false : {P : Type 0} (b : Bool) → b ≡ false → OnFalse b P → P
on_false true e h = absurd (cc)
on_false false e h = h

-- ---- runs that move

module _ {X : Type 0} {p : X → Bool} {xs ys : List X} {k i : ℕ} where
  -- a run that passes, copied to the first free place
  pub run_moved : {zs : List X} (r : ℕ) → FiltersInPlace p xs ys k i → i + r ≤ length ys → filter p (take r (drop i ys)) ≡ take r (drop i ys) → zs ≡ copy_within ys i (i + r) k → FiltersInPlace p xs zs (k + r) (i + r)
  run_moved {zs} r h fits pass is =
      let behind = h.behind in
      let within = h.within in
      let long = h.long in
      let rest_long : r ≤ length (drop i ys) = omega (arith, length-drop i ys) in
      let made : zs ≡ paste ys k (drop i ys) r = is ∙ ap (λ m. paste ys k (drop i ys) m) (omega arith) in
      let past : i + r ≡ (k + r) + (i - k) = omega arith in
      record {
        front = ap (take (k + r)) made ∙ take-paste ys k (drop i ys) r (omega arith) rest_long
            ∙ (λ t. h.front t ++ sym pass t)
            ∙ ap (λ d. filter p (take i xs) ++ filter p (take r d)) h.rest
            ∙ sym (filter-append p (take i xs) (take r (drop i xs)))
            ∙ ap (filter p) (sym (take-add i r xs));
        rest = ap (λ m. drop m zs) past ∙ sym (drop-drop (i - k) (k + r) zs)
            ∙ ap (drop (i - k)) (ap (drop (k + r)) made ∙ drop-paste ys k (drop i ys) r (omega arith) rest_long)
            ∙ drop-drop (i - k) (k + r) ys ∙ ap (λ m. drop m ys) (sym past)
            ∙ sym (drop-drop r i ys) ∙ ap (drop r) h.rest ∙ drop-drop r i xs;
        behind = omega arith;
        within = omega arith;
        long = ap length made ∙ length-paste ys k (drop i ys) r (omega arith) rest_long ∙ h.long;
      }

-- if two lists are the same from a place on, the element there is the same
same_there : {X : Type 0} (i : ℕ) (xs ys : List X) (f : X) → drop i ys ≡ drop i xs → f ≡ get_or ys i f → f ≡ get_or xs i f
same_there {X} i xs ys f e is =
    let at : (zs : List X) → get_or (drop i zs) 0 f ≡ get_or zs i f = λ zs. get_or-drop i zs 0 f ∙ ap (λ n. get_or zs n f) (omega arith) in
    is ∙ sym (at ys) ∙ ap (λ l. get_or l 0 f) e ∙ at xs

not_named : (x : ℕ) (f : Fact) → names x f ≡ true → not (names x f) ≡ false
not_named x f e = ap not e

-- the elements before a place stay, and the one there names x, if there is one
pub record Parted (x : ℕ) (xs ys : List Fact) (k i : ℕ) : Type 0 where
  pub front : FiltersInPlace (λ f. not (names x f)) xs ys k i
  pub stop : i < length ys → (f : Fact) × (f ≡ get_or ys i f) × (names x f ≡ true)

-- the first run stays where it is
pub begins : (x : ℕ) (xs ys : List Fact) (r : ℕ) → ys ≡ xs → AreOthers x ys r → Parted x xs ys r r
begins x xs ys r e h =
    let within = h.within in
    let long = ap length e in
    record {
      front = record {
        front = sym h.stay ∙ ap (λ l. filter (λ f. not (names x f)) (take r l)) e;
        rest = ap (drop r) e;
        behind = omega arith;
        within = omega (arith, long);
        long = long;
      };
      stop = h.stop;
    }

-- the next run
pub goes_on : (x : ℕ) (xs ys zs rest : List Fact) (k i r : ℕ) → Parted x xs ys k i → i < length ys → rest ≡ drop (i + 1) ys → AreOthers x rest r → zs ≡ copy_within ys (i + 1) (i + 1 + r) k → Parted x xs zs (k + r) (i + 1 + r)
goes_on x xs ys zs rest k i r h lt is_rest a is =
    let s = h.stop lt in
    let skipped = FiltersInPlace-more_no h.front lt (not_named x s.0 s.2) s.1 in
    let within = a.within in
    let long = ap length is_rest ∙ length-drop (i + 1) ys in
    let stay = ap (λ d. filter (λ f. not (names x f)) (take r d)) (sym is_rest) ∙ a.stay ∙ ap (take r) is_rest in
    let moved = run_moved r skipped (omega (arith, long)) stay is in
    let long_ys = skipped.long in
    let long_zs = moved.long in
    let same : drop (i + 1 + r) ys ≡ drop (i + 1 + r) zs =
    sym (drop-drop r (i + 1) ys) ∙ ap (drop r) skipped.rest ∙ drop-drop r (i + 1) xs ∙ sym moved.rest in
    record {
      front = moved;
      stop = λ l.
          let n = a.stop (omega (arith, long, l)) in
          (n.0, same_there (i + 1 + r) zs ys n.0 same (n.1 ∙ ap (λ d. get_or d r n.0) is_rest ∙ get_or-drop (i + 1) ys r n.0), n.2);
    }

-- at the end all that stay are in front
pub all_moved : (x : ℕ) (xs ys : List Fact) (k i : ℕ) → Parted x xs ys k i → length ys ≤ i → take k ys ≡ filter (λ f. not (names x f)) xs
all_moved x xs ys k i h l =
    let long = h.front.long in
    h.front.front ∙ ap (filter (λ f. not (names x f))) (take_all i xs (omega (arith, long)))
