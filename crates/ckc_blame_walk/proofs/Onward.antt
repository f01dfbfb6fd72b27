-- The walk goes on, as it did, and numbers fresh variables upwards.
use Rattle.std.proofs.Common.{◌≡◌, refl, ◌∙◌, ℕ, Bool, false, arith}
use Rattle.std.specs.Prelude.{◌<◌, ◌≤◌, ◌^◌, length}
use Rattle.ckc_blame_sound.specs.ckc_bounds_statements.specs.Paths.{Here}
use Rattle.ckc_blame_sound.specs.ckc_bounds_views.specs.Parts.{capped}
use Rattle.ckc_blame_sound.specs.Settings.{Setting}
use Rattle.ckc_blame_sound.specs.Bodies.{IsNextFresh}

pub record OnwardBy (was is : Bool) (m n : ℕ) : Type 0 where
  pub same : is ≡ was
  pub grown : m < 2 ^ 32 → (m ≤ n) × (n < 2 ^ 32)

-- It counts as before, and the next fresh variable has no smaller number.
abbrev pub Onward : Here → Here → Type 0
Onward here there = OnwardBy here.counting there.counting here.next there.next

pub record IsOnBy (s : Setting) (Claimed : Type 0) (counting : Bool) (next : ℕ) : Type 0 where
  pub claimed : Claimed
  pub counts : counting ≡ false
  pub fresh : IsNextFresh s next

-- It is judged at a point and not only counted, the next variable is fresh, and something is claimed.
abbrev pub IsOn : Setting → Type 0 → Here → Type 0
IsOn s Claimed here = IsOnBy s Claimed here.counting here.next

pub onward_none : (here : Here) → Onward here here
onward_none here = record { same = refl; grown = λ l. (omega arith, l) }

pub onward_through : (a b c : Here) → Onward a b → Onward b c → Onward a c
onward_through a b c h g = record {
  same = g.same ∙ h.same;
  grown = λ l. let m = h.grown l in let n = g.grown m.1 in (far a.next b.next c.next m.0 n.0, n.1);
}
  where
    far : (k m n : ℕ) → k ≤ m → m ≤ n → k ≤ n
    far k m n p q = omega (arith, p, q)

-- after an expression
pub onward_capped : (m k : ℕ) → m < 2 ^ 32 → (m ≤ capped m k) × (capped m k < 2 ^ 32)
onward_capped m k h = (grind (arith, h), grind (arith, h))

pub on_there : {Claimed : Type 0} (s : Setting) (here there : Here) → Onward here there → IsOn s Claimed here → IsOn s Claimed there
on_there s here there h on = record {
  claimed = on.claimed;
  counts = h.same ∙ on.counts;
  fresh = λ few. let m = on.fresh few in let n = h.grown m.1 in (far (length s.variables) here.next there.next m.0 n.0, n.1);
}
  where
    far : (k m n : ℕ) → k ≤ m → m ≤ n → k ≤ n
    far k m n p q = omega (arith, p, q)
