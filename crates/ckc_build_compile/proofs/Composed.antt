-- Following through two layers, and with a greater factor.
use Rattle.std.proofs.Common.{ℕ, ◌+◌, ◌*◌, ◌≤◌, ◌<◌, List, [], ◌∷◌, arith}
use Rattle.std.specs.List.{All}
use Rattle.std.proofs.lemmas.List.Elements.{All-nil, All-cons}
use Rattle.std.proofs.Math.Nat.{mul-le-mul_right}
use Rattle.ckc_base.specs.Traces.{Event, Showing, narrowed}
use Rattle.ckc_base.specs.LongEvents.{LongEvent, plain_events}
use Rattle.ckc_base.specs.Follows.{Follows}
use Rattle.ckc_base.proofs.Following.{follows_narrowed, follows_trans}
use Rattle.ckc_source.specs.LaidOut.{AreBytes}

-- what follows step by step in detail follows in what it shows, and so follows what the upper one follows
pub follows_detail : (a : ℕ → Showing Event) (b d : ℕ → Showing LongEvent) (c e : ℕ)
    → Follows a (λ n. narrowed plain_events (b n)) c → Follows b d e
    → Follows a (λ n. narrowed plain_events (d n)) (e * (c + 1))
follows_detail a b d c e p q =
    follows_trans a (λ n. narrowed plain_events (b n)) (λ n. narrowed plain_events (d n)) c e p (follows_narrowed plain_events b d e q)

-- a greater factor is a weaker promise
pub follows_within : (a b : ℕ → Showing Event) (c d : ℕ) → c ≤ d → Follows a b c → Follows a b d
follows_within a b c d few p = record {
  forward = λ n h.
      let u = p.forward n h in
      let bound : c * (n + 1) ≤ d * (n + 1) = mul-le-mul_right (n + 1) few in
      (u.0, omega (arith, bound, u.1), u.2);
  back = p.back;
}

pub all_bytes : (bytes : List ℕ) → AreBytes bytes → All (λ b. b < 256) bytes
all_bytes [] h = All-nil (λ b. b < 256)
all_bytes (b ∷ bytes) h = All-cons (λ b. b < 256) b bytes h.0 (all_bytes bytes h.1)
