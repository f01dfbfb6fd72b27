-- Blocks hold bytes after a store, and a new one does. (The lemmas of ckc_source on this are its own.)
use Rattle.std.proofs.Common.{ℕ, zero, suc, ◌+◌, ◌-◌, ◌/◌, ◌%◌, ◌<◌, List, [], ◌∷◌, ◌++◌, map, replicate, arith}
use Rattle.std.specs.Prelude.{Bool, true, false, slice_set}
use Rattle.ckc_base.specs.declared.arithmetic.Width.{Width}
use Rattle.ckc_base.specs.declared.arithmetic.Width.TheVariants.{Byte, Word}
use Rattle.ckc_source.specs.Blocks.{Block, has, with_number, changed}
use Rattle.ckc_source.specs.LaidOut.{AreBytes, HoldBytes}
use Rattle.ckc_blame_sound.proofs.Stores.{with_access}

set_bytes : (xs : List ℕ) (i v : ℕ) → AreBytes xs → v < 256 → AreBytes (slice_set xs i v)
set_bytes [] i v a h = tt
set_bytes (x ∷ xs) zero v a h = (h, a.1)
set_bytes (x ∷ xs) (suc i) v a h = (a.0, set_bytes xs i v a.1 h)

with_bytes : (width : Width) (xs : List ℕ) (i n : ℕ) → AreBytes xs → AreBytes (with_number width xs i n)
with_bytes Byte xs i n a = set_bytes xs i (n % 256) a (omega arith)
with_bytes Word xs i n a =
    set_bytes _ (i + 3) (n / 16777216 % 256)
    (set_bytes _ (i + 2) (n / 65536 % 256) (set_bytes _ (i + 1) (n / 256 % 256) (set_bytes xs i (n % 256) a (omega arith)) (omega arith)) (omega arith))
    (omega arith)

changed_bytes : (width : Width) (a n : ℕ) (b : Block) (here : Bool) → AreBytes b.bytes → AreBytes (with_access width a n b here).bytes
changed_bytes width a n b true h = with_bytes width b.bytes (a - b.base) n h
changed_bytes width a n b false h = h

pub hold_changed : (width : Width) (a n : ℕ) (bs : List Block) → HoldBytes bs → HoldBytes (map (changed width a n) bs)
hold_changed width a n [] h = tt
hold_changed width a n (b ∷ bs) h = (changed_bytes width a n b (has width a b) h.0, hold_changed width a n bs h.1)

pub zero_bytes : (n : ℕ) → AreBytes (replicate n 0)
zero_bytes zero = tt
zero_bytes (suc n) = (omega arith, zero_bytes n)

pub hold_behind : (bs : List Block) (b : Block) → HoldBytes bs → AreBytes b.bytes → HoldBytes (bs ++ b ∷ [])
hold_behind [] b h k = (k, tt)
hold_behind (c ∷ bs) b h k = (h.0, hold_behind bs b h.1 k)
