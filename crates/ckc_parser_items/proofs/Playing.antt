-- The trace is played event by event, and a production action by action.
use Rattle.std.proofs.Common.{◌≡◌, ◌≢◌, ℕ, zero, suc, ◌+◌, ◌*◌, ◌-◌, ◌<◌, ◌≤◌, ◌==◌, length, List, [], ◌∷◌, ◌++◌, Bool, true, false, refl, sym, ap, subst, ◌∙◌, Option, None, Some, map, take, drop, get_or, slice_get, flat_map, replicate, arith, take_all, append_assoc, append-nil, if◌then◌else◌}
use Rattle.std.proofs.lemmas.List.{take_more, length-append, map-append}
use Rattle.std.proofs.Math.ListN.{get_or-append}
use Rattle.ckc_syntax.specs.Spelled.{Spelled}
use Rattle.ckc_parser_grammar.specs.code.Grammar.{Rule}
use Rattle.ckc_parser_grammar.specs.code.Grammar as g
use Rattle.ckc_parser_grammar.specs.code.Trace.{Event, taken, opened, event, events, rule_of, all_rules, tokens_in}
use Rattle.ckc_parser_grammar.specs.code.Values.{no_token}
use Rattle.ckc_parser_grammar.proofs.Tables.{same_number}
use Rattle.ckc_parser_trace.proofs.Bytes.{rows_at, found, all_rule, not_same, below_plain, length_is, within, events_more}
use Rattle.ckc_parser_values.specs.declared.held.Held.{Held}
use Rattle.ckc_parser_values.specs.code.Programs.{Action, skip, action_of, acted, run, program, program_row, program_length, played}
use Rattle.ckc_parser_items.specs.code.Playing.{nothing, Takes, Plays}

eight : (r : Rule) → length (program_row r) ≡ 8
eight r = same_number (length (program_row r)) 8 (all_rule (λ q. length (program_row q) == 8) refl r)

below : (k : ℕ) (xs ys : List Action) → k < length xs → length (xs ++ ys) ≡ 8 → k < 8
below k xs ys h e = let both = sym (length-append xs ys) ∙ e in below_eight k (length xs) (length ys) h both
  where
    below_eight : (k a b : ℕ) → k < a → a + b ≡ 8 → k < 8
    below_eight k a b h e = grind (arith)

run_both : (xs ys : List Action) (h : Held) → run (xs ++ ys) h ≡ run ys (run xs h)
run_both [] ys h = refl
run_both (x ∷ xs) ys h = run_both xs ys (acted x h)

action_is : (lengths programs : List ℕ) (rule size k b : ℕ) → lengths ≡ map program_length all_rules → map action_of programs ≡ flat_map program_row all_rules →
    Some size ≡ slice_get lengths rule → k < size → Some b ≡ slice_get programs (rule * 8 + k) → (k < length (program (rule_of rule))) × (action_of b ≡ get_or (program (rule_of rule)) k skip)
action_is lengths programs rule size k b wl wr el h e =
    let r = rule_of rule in
    let there : rule < length all_rules = within program_length lengths rule size wl el in
    let short : k < length (program r) = subst (λ q. k < q) (length_is program_length lengths rule size wl el) h in (
      short,
      sym (found action_of programs (rule * 8 + k) b skip (sym e)) ∙ ap (λ z. get_or z (rule * 8 + k) skip) wr
          ∙ rows_at program_row 8 eight all_rules rule k (rule * 8 + k) skip g.Text there (below k (program r) (replicate (8 - program_length r) skip) short (eight r)) refl
          ∙ get_or-append (program r) (replicate (8 - program_length r) skip) skip k short,
    )

pub next_action : (lengths programs : List ℕ) (rule size k b : ℕ) (old held new : Held) → lengths ≡ map program_length all_rules → map action_of programs ≡ flat_map program_row all_rules →
    Some size ≡ slice_get lengths rule → k < size → Some b ≡ slice_get programs (rule * 8 + k) → new ≡ acted (action_of b) held →
    held ≡ run (take k (program (rule_of rule))) old → new ≡ run (take (k + 1) (program (rule_of rule))) old
next_action lengths programs rule size k b old held new wl wr el h e w i =
    let p = program (rule_of rule) in
    let q = action_is lengths programs rule size k b wl wr el h e in
    w ∙ ap (λ z. acted z held) q.1 ∙ ap (λ z. acted (get_or p k skip) z) i ∙ sym (run_both (take k p) (get_or p k skip ∷ []) old) ∙ ap (λ z. run z old) (sym (take_more p k skip q.0))

pub all_actions : (lengths : List ℕ) (rule size k : ℕ) (old held : Held) → lengths ≡ map program_length all_rules → Some size ≡ slice_get lengths rule → size ≤ k →
    held ≡ run (take k (program (rule_of rule))) old → held ≡ run (program (rule_of rule)) old
all_actions lengths rule size k old held wl el h i =
    let p = program (rule_of rule) in
    let far : length p ≤ k = subst (λ q. q ≤ k) (length_is program_length lengths rule size wl el) h in
    i ∙ ap (λ z. run z old) (take_all k p far)

-- how the events that are left go on with what is played
pub record Played (xs : List Spelled) (whole rest : List Event) (left : ℕ) (held : Held) : Type 0 where
  pub back : List Event
  pub split : whole ≡ rest ++ back
  pub counts : tokens_in rest ≡ left
  pub plays : held ≡ played back (drop left xs) nothing

pub begins : (xs : List Spelled) (whole : List Event) (left : ℕ) (held : Held) → tokens_in whole ≡ left → held ≡ nothing → Played xs whole whole left held
begins xs whole left held e h = record { back = []; split = sym (append-nil whole); counts = e; plays = h }

tokens_both : (es fs : List Event) → tokens_in (es ++ fs) ≡ tokens_in es + tokens_in fs
tokens_both [] fs = grind (arith)
tokens_both (taken ∷ es) fs = let h = tokens_both es fs in grind (arith)
tokens_both (opened r ∷ es) fs = tokens_both es fs

drop_at : (xs : List Spelled) (k : ℕ) → k < length xs → drop k xs ≡ get_or xs k no_token ∷ drop (suc k) xs
drop_at [] k h = absurd (grind (arith))
drop_at (x ∷ xs) zero h = refl
drop_at (x ∷ xs) (suc k) h = drop_at xs k (grind (arith))

abbrev with_token : Spelled → Held → Held
with_token x h = record h { tokens = x ∷ h.tokens }

add_one : (k : ℕ) → k + 1 ≡ suc k
add_one k = grind (arith)

less_one : (a b c d : ℕ) → a ≡ b + (1 + 0) → a ≡ c → c ≡ d + 1 → b ≡ d
less_one a b c d e f g = grind (arith)

none_less : (a b c d : ℕ) → a ≡ b + 0 → a ≡ c → d ≡ c → b ≡ d
none_less a b c d e f g = grind (arith)

pub one_event : (xs : List Spelled) (whole rest less : List Event) (left after : ℕ) (held new : Held) (e : Event) → rest ≡ less ++ e ∷ [] → Plays e xs left held after new →
    Played xs whole rest left held → Played xs whole less after new
one_event xs whole rest less left after held new taken w (m, h, s) q = record {
  back = taken ∷ q.back;
  split = q.split ∙ ap (λ z. z ++ q.back) w ∙ append_assoc less (taken ∷ []) q.back;
  counts = less_one (tokens_in rest) (tokens_in less) left after (ap tokens_in w ∙ tokens_both less (taken ∷ [])) q.counts m;
  plays =
      s
      ∙ ap (λ z. with_token (get_or xs after no_token) z) (q.plays ∙ ap (λ z. played q.back (drop z xs) nothing) (m ∙ add_one after))
      ∙ ap (λ z. played (taken ∷ q.back) z nothing) (sym (drop_at xs after h));
}
one_event xs whole rest less left after held new (opened r) w (m, s) q = record {
  back = opened r ∷ q.back;
  split = q.split ∙ ap (λ z. z ++ q.back) w ∙ append_assoc less (opened r ∷ []) q.back;
  counts = none_less (tokens_in rest) (tokens_in less) left after (ap tokens_in w ∙ tokens_both less (opened r ∷ [])) q.counts m;
  plays = s ∙ ap (λ z. run (program r) z) (q.plays ∙ ap (λ z. played q.back (drop z xs) nothing) (sym m));
}

pub next_event : (xs : List Spelled) (whole : List Event) (trace less : List ℕ) (left after : ℕ) (held new : Held) (b : ℕ) → trace ≡ less ++ b ∷ [] → Plays (event b) xs left held after new →
    Played xs whole (events trace) left held → Played xs whole (events less) after new
next_event xs whole trace less left after held new b w p q = one_event xs whole (events trace) (events less) left after held new (event b) (ap events w ∙ events_more less b) p q

pub ends : (xs : List Spelled) (whole rest : List Event) (left : ℕ) (held : Held) → rest ≡ [] → Played xs whole rest left held → held ≡ played whole xs nothing
ends xs whole rest left held e q =
    let none : left ≡ 0 = sym q.counts ∙ ap tokens_in e in
    q.plays ∙ ap (λ z. played q.back (drop z xs) nothing) none ∙ ap (λ z. played z xs nothing) (sym (q.split ∙ ap (λ z. z ++ q.back) e))

-- the byte of a token
pub is_taken : (b : ℕ) (xs : List Spelled) (left after : ℕ) (held new : Held) → b ≡ 255 → Takes xs left held after new → Plays (event b) xs left held after new
is_taken b xs left after held new e t = subst (λ z. Plays (event z) xs left held after new) (sym e) t

pub is_opened : (b : ℕ) (xs : List Spelled) (left : ℕ) (held new : Held) → b ≢ 255 → new ≡ run (program (rule_of b)) held → Plays (event b) xs left held left new
is_opened b xs left held new e w = subst (λ z. Plays (if z then taken else opened (rule_of b)) xs left held left new) (sym (not_same b 255 (b == 255) refl e)) (refl, w)
