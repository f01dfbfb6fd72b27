-- An image has no bad part, one format and one set of parts.
use Rattle.std.proofs.Common.{◌≡◌, ℕ, ◌+◌, ◌≤◌, List, length, get_or, Result, Ok, Err, refl, sym, ap, ◌∙◌, inl, inr, arith}
use Rattle.std.specs.Prelude.{MatchResult, IsOkAnd, IsErrAnd}
use Rattle.ckc_image.specs.declared.format.Format.TheVariants.{First, Elf}
use Rattle.ckc_image.specs.Image.{Format, ImageOf, HasMagic, FirstBad}
use Rattle.ckc_image.proofs.ByFormat.{Agrees, one_bad_of, never_bad_of, same_of}
use Rattle.ckc_image.proofs.First.{first_agrees}
use Rattle.ckc_image.proofs.Elf.{elf_agrees}

pub agrees : (format : Format) (bytes : List ℕ) (entry : ℕ) (code initial : List ℕ) → ImageOf format bytes entry code initial → Agrees format bytes entry code initial
agrees First bytes entry code initial i = first_agrees bytes entry code initial i
agrees Elf bytes entry code initial i = elf_agrees bytes entry code initial i

-- bytes do not begin in both ways
pub one_magic : (bytes : List ℕ) → HasMagic First bytes → HasMagic Elf bytes → ⊥
one_magic bytes a b =
    let z : 67 ≡ 127 = ap (λ l. get_or l 0 0) (sym a ∙ b) in
    omega (arith, z)

-- an image has no bad part
pub never_bad : (format : Format) (bytes : List ℕ) (entry : ℕ) (code initial : List ℕ) → ImageOf format bytes entry code initial → (k : ℕ) → ¬ FirstBad bytes k
never_bad First bytes entry code initial i k (inl b) = one_magic bytes (first_agrees bytes entry code initial i).magic_is b.0
never_bad First bytes entry code initial i k (inr b) = never_bad_of First bytes entry code initial (first_agrees bytes entry code initial i) k b.1
never_bad Elf bytes entry code initial i k (inl b) = never_bad_of Elf bytes entry code initial (elf_agrees bytes entry code initial i) k b.1
never_bad Elf bytes entry code initial i k (inr b) = b.0 (elf_agrees bytes entry code initial i).magic_is

-- bytes have one first bad part
pub one_bad : (bytes : List ℕ) (k j : ℕ) → FirstBad bytes k → FirstBad bytes j → k ≡ j
one_bad bytes k j (inl p) (inl q) = one_bad_of Elf bytes k j p.1 q.1
one_bad bytes k j (inl p) (inr q) = absurd (q.0 p.0)
one_bad bytes k j (inr p) (inl q) = absurd (p.0 q.0)
one_bad bytes k j (inr p) (inr q) = one_bad_of First bytes k j p.1 q.1

-- it has one format and one set of parts
pub same_parts : (f g : Format) (bytes : List ℕ) (entry entry' : ℕ) (code code' initial initial' : List ℕ)
    → ImageOf f bytes entry code initial → ImageOf g bytes entry' code' initial' → (f ≡ g) × (entry ≡ entry') × (code ≡ code') × (initial ≡ initial')
same_parts First First bytes entry entry' code code' initial initial' i j =
    let e = same_of First bytes entry entry' code code' initial initial' (first_agrees bytes entry code initial i) (first_agrees bytes entry' code' initial' j) in
    (refl, e.0, e.1, e.2)
same_parts First Elf bytes entry entry' code code' initial initial' i j =
    absurd (one_magic bytes (first_agrees bytes entry code initial i).magic_is (elf_agrees bytes entry' code' initial' j).magic_is)
same_parts Elf First bytes entry entry' code code' initial initial' i j =
    absurd (one_magic bytes (first_agrees bytes entry' code' initial' j).magic_is (elf_agrees bytes entry code initial i).magic_is)
same_parts Elf Elf bytes entry entry' code code' initial initial' i j =
    let e = same_of Elf bytes entry entry' code code' initial initial' (elf_agrees bytes entry code initial i) (elf_agrees bytes entry' code' initial' j) in
    (refl, e.0, e.1, e.2)

-- how long an image is at most
pub image_length : (format : Format) (bytes : List ℕ) (entry : ℕ) (code initial : List ℕ) → ImageOf format bytes entry code initial → length bytes ≤ 116 + length code + length initial
image_length First bytes entry code initial i =
    let a = first_agrees bytes entry code initial i in
    omega (arith, a.length_is.1, a.code_length_is, a.initial_length_is)
image_length Elf bytes entry code initial i =
    let a = elf_agrees bytes entry code initial i in
    omega (arith, a.length_is.1, a.code_length_is, a.initial_length_is)

-- ---- an answer that is right is the only one

pub ok_only : {V E : Type 0} (r : Result V E) (P Q : V → Type 0) (R : E → Type 0) → MatchResult r P R → ((v : V) → P v → Q v) → ((e : E) → R e → ⊥) → IsOkAnd r Q
ok_only (Ok v) P Q R h f g = f v h
ok_only (Err e) P Q R h f g = absurd (g e h)

pub err_only : {V E : Type 0} (r : Result V E) (P : V → Type 0) (R S : E → Type 0) → MatchResult r P R → ((v : V) → P v → ⊥) → ((e : E) → R e → S e) → IsErrAnd r S
err_only (Ok v) P R S h f g = absurd (f v h)
err_only (Err e) P R S h f g = g e h
