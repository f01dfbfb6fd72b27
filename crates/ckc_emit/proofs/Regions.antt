-- The data region of the meaning in the memory of the machine.
use Rattle.std.proofs.Common.{◌≡◌, ◌≢◌, inl, inr, ℕ, zero, suc, ◌+◌, ◌*◌, ◌/◌, ◌%◌, ◌^◌, ◌≤◌, ◌<◌, ◌==◌, ◌&&◌, if◌then◌else◌, Bool, true, false, Option, Some, None, option_and_then, refl, sym, ap, subst, ◌∙◌, arith}
use Rattle.std.specs.Option.{option_map}
use Rattle.std.proofs.lemmas.Bool.{cases_eq}
use Rattle.std.proofs.lemmas.Bool.Decides.{nat_tests}
use Rattle.std.proofs.Math.Path.{fun_ext}
use Rattle.std.proofs.Math.Nat.{pow-succ'}
use Rattle.ckc_base.specs.declared.arithmetic.Width.{Width}
use Rattle.ckc_base.specs.declared.arithmetic.Width.TheVariants.{Byte, Word}
use Rattle.ckc_base.specs.Memory as base
use Rattle.ckc_rv.specs.Machine.{Parts, Memory, loaded, data_start, stack_start}
use Rattle.ckc_emit.proofs.Local.{changed, changed_same, changed_other, memory_of, memory_data}
use Rattle.ckc_emit.proofs.Words.{bytes_put, more_read}
use Rattle.ckc_emit.proofs.Tests.{eq_of}

-- the data region with these bytes
unfoldable pub region : (ℕ → ℕ) → base.Memory
region bytes q = if base.is_data q then Some (bytes q) else None

is_data_of : (q : ℕ) → base.is_data q ≡ true → (data_start ≤ q) × (q < stack_start)
is_data_of q h = (grind (arith, nat_tests), grind (arith, nat_tests))

data_is : (q : ℕ) → data_start ≤ q → q < stack_start → base.is_data q ≡ true
data_is q h k = grind (arith, nat_tests)

region_some : (b : Bool) (v x : ℕ) → ◌≡◌ {A = Option ℕ} (if b then Some v else None) (Some x) → (b ≡ true) × (v ≡ x)
region_some true v x e = (refl, cc)
region_some false v x e = absurd cc

-- what is in the region is in the machine's memory
pub region_in_memory : (parts : Parts) (bytes words : ℕ → ℕ) (q x : ℕ) → region bytes q ≡ Some x → memory_of parts bytes words q ≡ Some x
unfolding region
region_in_memory parts bytes words q x e =
    let r = region_some (base.is_data q) (bytes q) x e in
    let p = is_data_of q r.0 in
    memory_data parts bytes words q p.0 p.1 ∙ ap Some r.1

loaded_from : (m : base.Memory) (n : Memory) (count a v : ℕ) → ((q x : ℕ) → m q ≡ Some x → n q ≡ Some x) → base.bytes_from m count a ≡ Some v → loaded n count a ≡ Some v
unfolding loaded
loaded_from m n zero a v h e = e
loaded_from m n (suc count) a v h e =
    more_read (m a) (n a) (base.bytes_from m count (a + 1)) (loaded n count (a + 1)) v (h a) (λ x. loaded_from m n count (a + 1) x h) e

if_some : (b : Bool) (o : Option ℕ) (v : ℕ) → (if b then o else None) ≡ Some v → (b ≡ true) × (o ≡ Some v)
if_some true o v e = (refl, e)
if_some false o v e = absurd cc

-- a value of the region is loaded, from an aligned address
pub value_loaded : (parts : Parts) (bytes words : ℕ → ℕ) (width : Width) (a v : ℕ) → base.value_at width (region bytes) a ≡ Some v
    → (a % base.width_bytes width ≡ 0) × (loaded (memory_of parts bytes words) (base.width_bytes width) a ≡ Some v)
value_loaded parts bytes words width a v e =
    let r = if_some (a % base.width_bytes width == 0) (base.bytes_from (region bytes) (base.width_bytes width) a) v e in
    (eq_of (a % base.width_bytes width) 0 r.0, loaded_from (region bytes) (memory_of parts bytes words) (base.width_bytes width) a v (region_in_memory parts bytes words) r.1)

-- ---- stores

base_same : (m : base.Memory) (a byte q : ℕ) → q ≡ a → base.with_byte m a byte q ≡ Some byte
unfolding base.with_byte
base_same m a byte q e = grind (arith, nat_tests)

base_other : (m : base.Memory) (a byte q : ℕ) → q ≢ a → base.with_byte m a byte q ≡ m q
unfolding base.with_byte
base_other m a byte q e = grind (arith, nat_tests)

region_same : (bytes : ℕ → ℕ) (a byte q : ℕ) → base.is_data a ≡ true → q ≡ a → region (changed bytes a byte) q ≡ Some byte
unfolding region
region_same bytes a byte q h e =
    let here : base.is_data q ≡ true = ap base.is_data e ∙ h in
    ap (λ b. if b then Some (changed bytes a byte q) else None) here ∙ ap Some (changed_same bytes a byte q e)

region_other : (bytes : ℕ → ℕ) (a byte q : ℕ) → q ≢ a → region (changed bytes a byte) q ≡ region bytes q
unfolding region
region_other bytes a byte q e = ap (λ (v : ℕ). if base.is_data q then Some v else None) (changed_other bytes a byte q e)

byte_put : (bytes : ℕ → ℕ) (a byte : ℕ) → base.is_data a ≡ true → base.with_byte (region bytes) a byte ≡ region (changed bytes a byte)
byte_put bytes a byte h = fun_ext (λ q. elim (cases_eq q a) as (λ _. base.with_byte (region bytes) a byte q ≡ region (changed bytes a byte) q) [
  | inl e ↦ base_same (region bytes) a byte q e ∙ sym (region_same bytes a byte q h e)
  | inr e ↦ base_other (region bytes) a byte q e ∙ sym (region_other bytes a byte q e)
])

pub region_stored : (bytes : ℕ → ℕ) (count a value : ℕ) → data_start ≤ a → a + count ≤ stack_start → base.with_bytes (region bytes) count a value ≡ region (bytes_put bytes count a value)
unfolding base.with_bytes bytes_put
region_stored bytes zero a value low high = refl
region_stored bytes (suc count) a value low high =
    ap (λ m. base.with_byte m a (value % 256)) (region_stored bytes count (a + 1) (value / 256) (omega arith) (omega arith))
    ∙ byte_put (bytes_put bytes count (a + 1) (value / 256)) a (value % 256) (data_is a low (omega arith))

both : (a b : Bool) → (a && b) ≡ true → (a ≡ true) × (b ≡ true)
both true b h = (refl, h)
both false b h = absurd (let z : false ≡ true = h in cc)

if_memory : (b : Bool) (m n : base.Memory) → ◌≡◌ {A = Option base.Memory} (if b then Some m else None) (Some n) → (b ≡ true) × (m ≡ n)
if_memory true m n e = (refl, cc)
if_memory false m n e = absurd cc

width_fits : (width : Width) (a : ℕ) → a % base.width_bytes width ≡ 0 → a < stack_start → a + base.width_bytes width ≤ stack_start
width_fits Byte a h k = omega arith
width_fits Word a h k = omega arith

-- What a store into the region of the meaning is in the machine.
pub record IsDataStore (width : Width) (bytes : ℕ → ℕ) (a value : ℕ) (now : base.Memory) : Type 0 where
  pub aligned : a % base.width_bytes width ≡ 0
  pub low : data_start ≤ a
  pub fits : a + base.width_bytes width ≤ stack_start
  pub now_is : now ≡ region (bytes_put bytes (base.width_bytes width) a value)

pub data_store : (width : Width) (bytes : ℕ → ℕ) (a value : ℕ) (now : base.Memory) → base.memory_with width (region bytes) a value ≡ Some now → IsDataStore width bytes a value now
data_store width bytes a value now e =
    let r = if_memory (a % base.width_bytes width == 0 && base.is_data a) (base.with_bytes (region bytes) (base.width_bytes width) a value) now e in
    let t = both (a % base.width_bytes width == 0) (base.is_data a) r.0 in
    let p = is_data_of a t.1 in
    let aligned = eq_of (a % base.width_bytes width) 0 t.0 in
    let fits = width_fits width a aligned p.1 in
    record {
      aligned = aligned;
      low = p.0;
      fits = fits;
      now_is = sym r.1 ∙ region_stored bytes (base.width_bytes width) a value p.0 fits;
    }

-- ---- what is loaded is a word, and what is stored are bytes

power_next : (low high count : ℕ) → low < 256 → high < 256 ^ count → low + 256 * high < 256 ^ suc count
power_next low high count h k =
    let e : 256 ^ suc count ≡ 256 * 256 ^ count = pow-succ' 256 count in
    omega arith

below_next : (b r : Option ℕ) (v count : ℕ) → ((x : ℕ) → b ≡ Some x → x < 256) → ((x : ℕ) → r ≡ Some x → x < 256 ^ count)
    → option_and_then (λ low. option_map (λ high. low + 256 * high) r) b ≡ Some v → v < 256 ^ suc count
below_next (Some low) (Some high) v count h k e =
    let f : low + 256 * high ≡ v = cc in
    subst (λ x. x < 256 ^ suc count) f (power_next low high count (h low refl) (k high refl))
below_next (Some low) None v count h k e = absurd cc
below_next None r v count h k e = absurd cc

bytes_below : (m : base.Memory) (count a v : ℕ) → ((q x : ℕ) → m q ≡ Some x → x < 256) → base.bytes_from m count a ≡ Some v → v < 256 ^ count
unfolding base.bytes_from
bytes_below m zero a v h e =
    let f : v ≡ 0 = cc in
    omega arith
bytes_below m (suc count) a v h e = below_next (m a) (base.bytes_from m count (a + 1)) v count (h a) (λ x. bytes_below m count (a + 1) x h) e

region_small : (bytes : ℕ → ℕ) → ((q : ℕ) → bytes q < 256) → (q x : ℕ) → region bytes q ≡ Some x → x < 256
unfolding region
region_small bytes h q x e =
    let r = region_some (base.is_data q) (bytes q) x e in
    subst (λ v. v < 256) r.1 (h q)

width_small : (width : Width) (v : ℕ) → v < 256 ^ base.width_bytes width → v < 2 ^ 32
width_small Byte v h = omega arith
width_small Word v h = omega arith

pub value_word : (bytes : ℕ → ℕ) (width : Width) (a v : ℕ) → ((q : ℕ) → bytes q < 256) → base.value_at width (region bytes) a ≡ Some v → v < 2 ^ 32
value_word bytes width a v small e =
    let r = if_some (a % base.width_bytes width == 0) (base.bytes_from (region bytes) (base.width_bytes width) a) v e in
    width_small width v (bytes_below (region bytes) (base.width_bytes width) a v (region_small bytes small) r.1)

changed_small : (bytes : ℕ → ℕ) (a byte : ℕ) → byte < 256 → ((q : ℕ) → bytes q < 256) → (q : ℕ) → changed bytes a byte q < 256
unfolding changed
changed_small bytes a byte h small q = elim (q == a) as (λ b. (if b then byte else bytes q) < 256) [ true ↦ h | false ↦ small q ]

pub put_small : (bytes : ℕ → ℕ) (count a value : ℕ) → ((q : ℕ) → bytes q < 256) → (q : ℕ) → bytes_put bytes count a value q < 256
unfolding bytes_put
put_small bytes zero a value small = small
put_small bytes (suc count) a value small = changed_small (bytes_put bytes count (a + 1) (value / 256)) a (value % 256) (omega arith) (put_small bytes count (a + 1) (value / 256) small)
