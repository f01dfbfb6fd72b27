-- A pointer may be read within a range as any kind of pointer to the same elements, but as one to null-terminated elements
-- only if it was one.
use Rattle.std.proofs.Common.{◌≡◌, refl, sym, subst, ℕ, List, [], ◌∷◌}
use Rattle.std.specs.Prelude.{◌==◌, ◌-◌, Bool, true, false, ◌&&◌, ◌||◌, if◌then◌else◌, ℤ, pos, negsuc, Err, IsOk}
use Rattle.std.specs.List.{list_any}
use Rattle.ckc_types.specs.declared.types.CType.{CType}
use Rattle.ckc_types.specs.Same.{same_type}
use Rattle.ckc_typed.specs.declared.typed.Range.{Range}
use Rattle.ckc_typed.specs.declared.typed.Range.TheVariants as range
use Rattle.ckc_source.specs.declared.expr.Pointee.{Pointee}
use Rattle.ckc_source.specs.declared.outcome.Halt.TheVariants.{Stuck}
use Rattle.ckc_source.specs.declared.program.Shape.{Shape}
use Rattle.ckc_source.specs.Blocks.{Block, end_of}
use Rattle.ckc_source.specs.Eval.{plain, ranged, reads_within, reads}
use Rattle.ckc_source.specs.Runs.{is_within, is_in_member, member_runs, is_in, is_true}
use Rattle.ckc_blame_sound.specs.Valuations.{Valuation, form_address}
use Rattle.ckc_blame_sound.specs.Containment.{Memory, IsReadWithin}

-- What one kind of pointer may point to, another one may too.
pub record IsLooser (to other : Pointee) : Type 0 where
  pub element : other.element ≡ to.element
  pub size : other.size ≡ to.size
  pub terminated : other.terminated ≡ true → to.terminated ≡ true

any_weaker : {A : Type 0} (f g : A → Bool) → ((a : A) → f a ≡ true → g a ≡ true) → (xs : List A) → list_any f xs ≡ true → list_any g xs ≡ true
any_weaker f g h [] e = e
any_weaker f g h (x ∷ xs) e = by (f x) (g x) (h x) (any_weaker f g h xs) e
  where
    by : (a b : Bool) → (a ≡ true → b ≡ true) → (list_any f xs ≡ true → list_any g xs ≡ true) → (a || list_any f xs) ≡ true → (b || list_any g xs) ≡ true
    by a true here later e = refl
    by true false here later e = let no : false ≡ true = here refl in absurd cc
    by false false here later e = later e

tests : (run same ends first second some : Bool) → (run && ((same && (if ends then first else false)) || false)) ≡ true
    → (run && ((same && (if ends then first else second)) || some)) ≡ true
tests true true true true second some e = refl
tests true true true false second some e = absurd cc
tests true true false first second some e = absurd cc
tests true false ends first second some e = absurd cc
tests false same ends first second some e = absurd cc

module _ (shapes : List Shape) (element : CType) (size n low high : ℕ) where
  abbrev kind : Bool → Pointee
  kind b = record { element = element; size = size; terminated = b }

  in_looser : (b : Block) → is_in shapes (kind true) n low high b ≡ true → is_in shapes (kind false) n low high b ≡ true
  in_looser b e =
      tests b.is_run (same_type element b.element) b.terminated (is_within b.base (end_of b - b.size) size n low high) (is_within b.base (end_of b) size n low high)
      (list_any (is_in_member (kind false) n low high b) (member_runs shapes b)) e

  by_kind : (to other : Bool) (blocks : List Block) → (other ≡ true → to ≡ true) → is_true shapes blocks (kind to) n low high ≡ true → is_true shapes blocks (kind other) n low high ≡ true
  by_kind true true blocks h e = e
  by_kind true false blocks h e = any_weaker (is_in shapes (kind true) n low high) (is_in shapes (kind false) n low high) in_looser blocks e
  by_kind false true blocks h e = let no : false ≡ true = h refl in absurd cc
  by_kind false false blocks h e = e

pub true_looser : (shapes : List Shape) (blocks : List Block) (to other : Pointee) (n low high : ℕ) → IsLooser to other → is_true shapes blocks to n low high ≡ true
    → is_true shapes blocks other n low high ≡ true
true_looser shapes blocks to other n low high h e =
    by_kind shapes other.element other.size n low high to.terminated other.terminated blocks h.terminated
    (subst (λ x. is_true shapes blocks (record { element = x; size = other.size; terminated = to.terminated }) n low high ≡ true) (sym h.element)
    (subst (λ x. is_true shapes blocks (record { element = to.element; size = x; terminated = to.terminated }) n low high ≡ true) (sym h.size) e))

within_looser : (shapes : List Shape) (blocks : List Block) (to other : Pointee) (n : ℕ) (low high : ℤ) → IsLooser to other → IsOk (reads_within shapes blocks to n low high)
    → IsOk (reads_within shapes blocks other n low high)
within_looser shapes blocks to other n (pos low) (pos high) k h = by (is_true shapes blocks to n low high) refl h
  where
    by : (b : Bool) → is_true shapes blocks to n low high ≡ b → IsOk (if b then ranged n low high else Err Stuck)
        → IsOk (if is_true shapes blocks other n low high then ranged n low high else Err Stuck)
    by true e h = subst (λ b. IsOk (if b then ranged n low high else Err Stuck)) (sym (true_looser shapes blocks to other n low high k e)) h
    by false e h = absurd cc
within_looser shapes blocks to other n (pos low) (negsuc high) k h = h
within_looser shapes blocks to other n (negsuc low) high k h = h

-- a range that is true may be read within
pub true_read : (shapes : List Shape) (blocks : List Block) (to : Pointee) (n from upto : ℕ) (low high : ℤ) → pos from ≡ low → pos upto ≡ high → is_true shapes blocks to n from upto ≡ true
    → IsOk (reads shapes blocks to n low high)
true_read shapes blocks to n from upto low high low_is high_is true_there =
    subst (λ low. IsOk (reads shapes blocks to n low high)) low_is (subst (λ high. IsOk (reads shapes blocks to n (pos from) high)) high_is (by (n == 0)))
  where
    by : (b : Bool) → IsOk (if b then plain 0 else reads_within shapes blocks to n (pos from) (pos upto))
    by true = refl
    by false = subst (λ c. IsOk (if c then ranged n from upto else Err Stuck)) (sym true_there) refl

pub reads_looser : (shapes : List Shape) (blocks : List Block) (to other : Pointee) (n : ℕ) (low high : ℤ) → IsLooser to other → IsOk (reads shapes blocks to n low high)
    → IsOk (reads shapes blocks other n low high)
reads_looser shapes blocks to other n low high k h = by (n == 0) h
  where
    by : (b : Bool) → IsOk (if b then plain 0 else reads_within shapes blocks to n low high) → IsOk (if b then plain 0 else reads_within shapes blocks other n low high)
    by true h = h
    by false h = within_looser shapes blocks to other n low high k h

pub read_looser : (m : Memory) (other : Pointee) (v : Valuation) (n : ℕ) (r : Range) → IsLooser m.to other → IsReadWithin m v n r → IsReadWithin (record m { to = other }) v n r
read_looser m other v n (range.Known low high) k h =
    subst (λ size. IsOk (reads m.shapes m.blocks other n (form_address v size low) (form_address v size high))) (sym k.size)
    (reads_looser m.shapes m.blocks m.to other n (form_address v m.to.size low) (form_address v m.to.size high) k h)
read_looser m other v n range.Any k h = tt
read_looser m other v n range.Missing k h = tt
