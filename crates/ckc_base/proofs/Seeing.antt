-- Systems of which only a part of the events is seen.
use Rattle.std.proofs.Common.{◌≡◌, ℕ, zero, suc, ◌+◌, List, [], ◌++◌, append_assoc, append-nil, refl, sym, ◌∙◌, ap, subst}
use Rattle.std.proofs.Math.Path.{fun_ext}
use Rattle.std.specs.Prelude.{flat_map}
use Rattle.std.proofs.lemmas.Grind.{flat_map-append}
use Rattle.ckc_base.specs.Traces.{Standing, Showing, narrowed}
use Rattle.ckc_base.specs.Steps.{Move, Goes, Halts, System, after, shown, meaning}
use Rattle.ckc_base.specs.Matching.{Stretch, Closes}
use Rattle.ckc_base.specs.Follows.{Follows}

abbrev pub seen_move : {E G S : Type 0} → (E → List G) → Move E S → Move G S
seen_move f (Goes events next) = Goes (flat_map f events) next
seen_move f (Halts events standing) = Halts (flat_map f events) standing

-- the system with each event seen as f gives it
abbrev pub seen_system : {E G S : Type 0} → (E → List G) → System E S → System G S
seen_system f m = record { step = λ s. seen_move f (m.step s); weight = m.weight }

after-seen : {E G S : Type 0} (f : E → List G) (go : List E → S → Showing E) (on : List G → S → Showing G) (trace : List E) (move : Move E S)
    → ((t : List E) (s : S) → narrowed f (go t s) ≡ on (flat_map f t) s)
    → narrowed f (after go trace move) ≡ after on (flat_map f trace) (seen_move f move)
after-seen f go on trace (Goes events next) h =
    h (trace ++ events) next ∙ ap (λ t. on t next) (flat_map-append f trace events)
after-seen f go on trace (Halts events standing) h =
    ap (λ t. record { trace = t; standing = standing }) (flat_map-append f trace events)

-- what the system shows, seen, is what the seen system shows
pub shown-seen : {E G S : Type 0} (f : E → List G) (m : System E S) (n wait : ℕ) (trace : List E) (s : S) → narrowed f (shown m n wait trace s) ≡ shown (seen_system f m) n wait (flat_map f trace) s
unfolding shown
shown-seen f m zero wait trace s = refl
shown-seen f m (suc n) zero trace s =
    after-seen f (λ t u. shown m n (m.weight u) t u) (λ t u. shown (seen_system f m) n (m.weight u) t u) trace (m.step s)
    (λ t u. shown-seen f m n (m.weight u) t u)
shown-seen f m (suc n) (suc wait) trace s = shown-seen f m n wait trace s

-- a showing after what was shown before
abbrev behind : {E : Type 0} → List E → Showing E → Showing E
behind before a = record { trace = before ++ a.trace; standing = a.standing }

after-behind : {E S : Type 0} (go : List E → S → Showing E) (before trace : List E) (move : Move E S)
    → ((t : List E) (s : S) → go (before ++ t) s ≡ behind before (go t s))
    → after go (before ++ trace) move ≡ behind before (after go trace move)
after-behind go before trace (Goes events next) h =
    ap (λ t. go t next) (append_assoc before trace events) ∙ h (trace ++ events) next
after-behind go before trace (Halts events standing) h =
    ap (λ t. record { trace = t; standing = standing }) (append_assoc before trace events)

shown-behind : {E S : Type 0} (m : System E S) (n wait : ℕ) (before trace : List E) (s : S) → shown m n wait (before ++ trace) s ≡ behind before (shown m n wait trace s)
unfolding shown
shown-behind m zero wait before trace s = refl
shown-behind m (suc n) zero before trace s =
    after-behind (λ t u. shown m n (m.weight u) t u) before trace (m.step s)
    (λ t u. shown-behind m n (m.weight u) before t u)
shown-behind m (suc n) (suc wait) before trace s = shown-behind m n wait before trace s

shown-from_nothing : {E S : Type 0} (m : System E S) (n wait : ℕ) (before : List E) (s : S) → shown m n wait before s ≡ behind before (shown m n wait [] s)
shown-from_nothing m n wait before s =
    ap (λ t. shown m n wait t s) (sym (append-nil before)) ∙ shown-behind m n wait before [] s

pub stretch_seen : {E G S : Type 0} (f : E → List G) (m : System E S) (count : ℕ) (events : List E) (s u : S) → Stretch m count events s u → Stretch (seen_system f m) count (flat_map f events) s u
stretch_seen f m count events s u p = record {
  leads = λ n trace.
      shown-from_nothing (seen_system f m) (count + n) (m.weight s) trace s
      ∙ ap (behind trace) (sym (shown-seen f m (count + n) (m.weight s) [] s) ∙ ap (narrowed f) (p.leads n []) ∙ shown-seen f m n (m.weight u) events u)
      ∙ sym (shown-behind (seen_system f m) n (m.weight u) trace (flat_map f events) u);
}

pub closes_seen : {E G S : Type 0} (f : E → List G) (m : System E S) (count : ℕ) (events : List E) (s : S) (standing : Standing) → Closes m count events s standing → Closes (seen_system f m) count (flat_map f events) s standing
closes_seen f m count events s standing p = record {
  shows = λ n trace.
      shown-from_nothing (seen_system f m) (count + n) (m.weight s) trace s
      ∙ ap (behind trace) (sym (shown-seen f m (count + n) (m.weight s) [] s) ∙ ap (narrowed f) (p.shows n []));
}

-- following of seen systems is following of what is seen
pub follows_seen : {E F G S T : Type 0} (f : E → List G) (g : F → List G) (a : System E S) (b : System F T) (s : S) (t : T) (c : ℕ)
    → Follows (meaning (seen_system f a) s) (meaning (seen_system g b) t) c
    → Follows (λ n. narrowed f (meaning a s n)) (λ k. narrowed g (meaning b t k)) c
follows_seen {E} {F} {G} {S} {T} f g a b s t c h =
    let upper : (n : ℕ) → narrowed f (meaning a s n) ≡ meaning (seen_system f a) s n = λ n. shown-seen f a n (a.weight s) [] s in
    let lower : (k : ℕ) → narrowed g (meaning b t k) ≡ meaning (seen_system g b) t k = λ k. shown-seen g b k (b.weight t) [] t in
    subst (λ x. Follows x (λ k. narrowed g (meaning b t k)) c) (sym (fun_ext upper))
    (subst (λ y. Follows (meaning (seen_system f a) s) y c) (sym (fun_ext lower)) h)
