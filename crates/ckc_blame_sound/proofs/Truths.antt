-- Whether a range is true asks nothing of the bytes of blocks.
use Rattle.std.proofs.Common.{◌≡◌, ℕ, ◌+◌, ◌-◌, ◌*◌, List, [], ◌∷◌, map, refl, ◌∙◌, ap}
use Rattle.std.specs.Prelude.{Bool, true, false, not, ◌&&◌, ◌||◌, if◌then◌else◌, nat_le}
use Rattle.std.specs.List.{list_any}
use Rattle.ckc_base.specs.declared.arithmetic.Width.{Width}
use Rattle.ckc_types.specs.Same.{same_type}
use Rattle.ckc_source.specs.declared.expr.Pointee.{Pointee}
use Rattle.ckc_source.specs.declared.program.Shape.{Shape}
use Rattle.ckc_source.specs.Blocks.{Block, has, changed}
use Rattle.ckc_source.specs.Runs.{is_within, any_below, member_runs, is_in, is_true}
use Rattle.ckc_blame_sound.proofs.Stores.{with_access, same_length}

-- whether a range is one of a block with this end
abbrev in_with_end : List Shape → Pointee → (n low high : ℕ) → Block → ℕ → Bool
in_with_end shapes to n low high b end =
    b.is_run
    && ((same_type to.element b.element
    && (if b.terminated then is_within b.base (end - b.size) to.size n low high else not to.terminated && is_within b.base end to.size n low high))
    || (not to.terminated
    && list_any (λ m. same_type to.element m.ctype && nat_le (m.offset + to.size) b.size
    && any_below b.count (λ i. nat_le (b.base + (i * b.size + m.offset) + to.size) end
    && is_within (b.base + (i * b.size + m.offset)) (b.base + (i * b.size + m.offset) + to.size) to.size n low high))
    (member_runs shapes b)))

same_in : (shapes : List Shape) (to : Pointee) (n low high : ℕ) (width : Width) (a k : ℕ) (b : Block) (here : Bool)
    → is_in shapes to n low high (with_access width a k b here) ≡ is_in shapes to n low high b
same_in shapes to n low high width a k b false = refl
same_in shapes to n low high width a k b true = ap (λ l. in_with_end shapes to n low high b (b.base + l)) (same_length width a k b true)

pub true_after : (shapes : List Shape) (bs : List Block) (to : Pointee) (n low high : ℕ) (width : Width) (a k : ℕ)
    → is_true shapes (map (changed width a k) bs) to n low high ≡ is_true shapes bs to n low high
true_after shapes [] to n low high width a k = refl
true_after shapes (b ∷ bs) to n low high width a k =
    ap (λ t. t || is_true shapes (map (changed width a k) bs) to n low high) (same_in shapes to n low high width a k b (has width a b))
    ∙ ap (λ t. is_in shapes to n low high b || t) (true_after shapes bs to n low high width a k)
