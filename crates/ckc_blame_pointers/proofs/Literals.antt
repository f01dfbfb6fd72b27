-- The claims of a string literal, of which the static object is known.
use Rattle.std.proofs.Common.{◌≡◌, inr, refl, sym, ap, subst, ◌∙◌, ℕ, true, false, List, arith}
use Rattle.std.specs.Prelude.{◌+◌, ◌-◌, ◌*◌, ◌||◌, if◌then◌else◌, length, pos, ◌*ℤ◌, None, Some}
use Rattle.std.proofs.Math.IntN.{pos-*ℤ-pos}
use Rattle.std.proofs.lemmas.Int.{ints}
use Rattle.ckc_base.specs.declared.arithmetic.Width.TheVariants.{Byte, Word}
use Rattle.ckc_base.specs.Memory.{width_bytes}
use Rattle.ckc_types.specs.declared.types.Kind.TheVariants as kind
use Rattle.ckc_types.specs.declared.types.CType.{CType, CType-F, out-CType}
use Rattle.ckc_types.specs.declared.types.Structs.{Structs}
use Rattle.ckc_syntax.specs.declared.tree.Node.{Node-F}
use Rattle.ckc_typed.specs.Constants.{size_of}
use Rattle.ckc_typed.specs.Conversions.{is_terminated_kind}
use Rattle.ckc_typed.specs.Types.{is_char, is_char_form, is_integer_form, is_pointer, is_pointer_form, is_scalar, kind_of, element_of}
use Rattle.ckc_blame_sound.specs.ckc_bounds_points.specs.Forms.{constant_form}
use Rattle.ckc_blame_sound.specs.ckc_bounds_views.specs.Parts.{NodeView}
use Rattle.ckc_blame_sound.specs.ckc_bounds_views.specs.Views.{node_view}
use Rattle.ckc_blame_sound.specs.ckc_bounds_statements.specs.Paths.{Here}
use Rattle.ckc_source.specs.declared.outcome.Range.TheVariants.{Within}
use Rattle.ckc_source.specs.declared.outcome.Value.{Value}
use Rattle.ckc_source.specs.Code.{Array}
use Rattle.ckc_source.specs.Eval.{Store, evaluated}
use Rattle.ckc_source.specs.Runs.{is_true}
use Rattle.ckc_source.specs.Words.{elements_behind}
use Rattle.ckc_build_values.specs.Kinds.{pointee_of, size_behind}
use Rattle.ckc_build_values.specs.Names.{address_of, bytes_in, bytes_of}
use Rattle.ckc_blame_sound.specs.Settings.{Setting}
use Rattle.ckc_blame_sound.specs.Points.{HoldsAt}
use Rattle.ckc_blame_sound.proofs.Types.{some_is}
use Rattle.ckc_blame_pointers.specs.Covered.{IsSoundStore, IsLiteral}
use Rattle.ckc_blame_pointers.specs.Meant.{IsNotStuck}
use Rattle.ckc_blame_pointers.proofs.Addresses.{true_retyped}
use Rattle.ckc_blame_pointers.proofs.Arrays.{size_is, array_true, address_small}
use Rattle.ckc_blame_pointers.proofs.Claims.{nothing_read}
use Rattle.ckc_blame_pointers.proofs.Nodes.{NodeClaims}
use Rattle.ckc_blame_pointers.proofs.Own.{own_claims, own_between, own_range, range_of_own, constant_counts}
use Rattle.ckc_blame_pointers.proofs.Reading.{Ranged}
use Rattle.ckc_blame_pointers.proofs.Singles.{scalar_sized}

char_scalar : (t : CType) → is_char t ≡ true → is_scalar t ≡ true
char_scalar t e = by (out-CType t) e
  where
    by : (f : CType-F CType) → is_char_form f ≡ true → (is_integer_form f || is_pointer_form f) ≡ true
    by CType-F.Char e = refl
    by CType-F.Int e = absurd (cc)
    by CType-F.Unsigned e = absurd (cc)
    by CType-F.Void e = absurd (cc)
    by (CType-F.Struct tag) e = absurd (cc)
    by (CType-F.Pointer k u) e = absurd (cc)

char_size : (structs : Structs) (t : CType) → is_char t ≡ true → size_of structs t ≡ 1
char_size structs t e = scalar_sized structs t (char_scalar t e) ∙ ap (λ b. width_bytes (if b then Byte else Word)) e

module _ (s : Setting) (store : Store) (entry : List ℕ) (next : ℕ) (ready : IsSoundStore s store next) (here : Here) (h : HoldsAt s store entry here) (t : CType) (bytes : List ℕ) (k : ℕ) (c : IsLiteral s t bytes k) where
  abbrev node : NodeView
  node = node_view s.frame (Node-F.Text bytes)

  abbrev a : ℕ
  a = address_of s.text k

  one_byte : size_of s.text.layout c.array.object.element ≡ 1
  one_byte = char_size s.text.layout c.array.object.element c.char

  pub size_there : size_behind s.text.layout t ≡ 1
  size_there = size_is s store entry next ready here h t k c.array ∙ one_byte

  bytes_are : bytes_of s.text k ≡ length bytes
  bytes_are =
      ap (bytes_in s.text.layout) c.array.there ∙ ap (λ q. size_of s.text.layout c.array.object.element * (c.array.object.count - (if q then 1 else 0))) c.ends
      ∙ ap (λ n. n * (c.array.object.count - 1)) one_byte ∙ less c.array.object.count (length bytes) c.count
    where
      less : (m n : ℕ) → m ≡ n + 1 → 1 * (m - 1) ≡ n
      less m n e = omega arith

  abbrev value_there : Value
  value_there = record { number = a; range = Within a (a + length bytes) }

  -- a range of its bytes, for a type of pointers
  abbrev IsTrueFor : CType → Type 0
  IsTrueFor r = is_true store.shapes store.blocks (pointee_of s.text.layout r) a a (a + length bytes) ≡ true

  pub literal_true : IsTrueFor t
  literal_true = subst (λ n. is_true store.shapes store.blocks (pointee_of s.text.layout t) a a (a + n) ≡ true) bytes_are (array_true s store entry next ready here h t k c.array)

  claims_for : (r : CType) → is_pointer r ≡ true → (kind_of r ≡ Some kind.One → ⊥) → size_behind s.text.layout r ≡ 1 → IsTrueFor r
      → IsNotStuck (NodeClaims s store entry here h r node) (evaluated store (Array (address_of s.text k) (length bytes)))
  claims_for r pointer several size is_there =
      own_claims s store entry here h r pointer node refl refl (λ first facts. refl) (λ widened. refl) (range_of_own (λ k. constant_form (pos (length bytes)))) (λ own first fresh widened. refl)
      (own_between (λ k. constant_form (pos (length bytes)))) value_there (pos 0) refl refl (λ b. nothing_read s store entry (λ facts. None) b here.at) (address_small s store entry next ready here h t k c.array) tt
      (own_range s store r value_there (pos 0) (pos (length bytes)) (inr ends) None (λ k. constant_form (pos (length bytes))) (constant_counts s store.locals None (pos 0) (pos (length bytes))))
      (λ ones one. absurd (several one))
    where
      high_at : (n : ℕ) → pos (a + n) ≡ elements_behind a 1 (pos n)
      high_at n =
          let product : pos 1 *ℤ pos n ≡ pos (1 * n) = pos-*ℤ-pos 1 n in
          let once : 1 * n ≡ n = omega arith in
          let product_is : pos 1 *ℤ pos n ≡ pos n = product ∙ ap pos once in
          omega (arith, ints)

      ends : Ranged store.shapes store.blocks (pointee_of s.text.layout r) a (pos a) (elements_behind a (size_behind s.text.layout r) (pos (length bytes))) value_there
      ends = record {
        from = a;
        upto = a + length bytes;
        range = refl;
        low_is = refl;
        high_is = high_at (length bytes) ∙ ap (λ n. elements_behind a n (pos (length bytes))) (sym size);
        true_there = is_there;
      }

  pub literal_claims : IsNotStuck (NodeClaims s store entry here h t node) (evaluated store (Array (address_of s.text k) (length bytes)))
  literal_claims = claims_for t c.array.pointer (λ one. absurd (c.array.several (some_is c.array.kind kind.One (sym c.array.kind_is ∙ one)))) size_there literal_true

  -- It is also a pointer of a type to the same elements that is not null-terminated.
  pub bare_literal_claims : (r : CType) → is_pointer r ≡ true → (kind_of r ≡ Some kind.One → ⊥) → is_terminated_kind (kind_of r) ≡ false → element_of r ≡ element_of t
      → IsNotStuck (NodeClaims s store entry here h r node) (evaluated store (Array (address_of s.text k) (length bytes)))
  bare_literal_claims r pointer several bare same =
      claims_for r pointer several (ap (size_of s.text.layout) same ∙ size_there) (true_retyped s store t r same bare a a (a + length bytes) literal_true)
