-- What a value that is converted to a type is there.
use Rattle.std.proofs.Common.{◌≡◌, ⊎_elim, refl, ap, ℕ, List, arith}
use Rattle.std.specs.Prelude.{◌%◌, ◌<◌, ◌^◌, Bool, true, false, ◌&&◌, ◌||◌, if◌then◌else◌, Ok, Err}
use Rattle.std.proofs.lemmas.Bool.{and_parts}
use Rattle.ckc_types.specs.declared.types.CType.{CType, CType-F, out-CType}
use Rattle.ckc_types.specs.declared.types.Structs.{Structs}
use Rattle.ckc_syntax.specs.declared.tree.Name.{Name}
use Rattle.ckc_syntax.specs.declared.tree.Node.{Node-F, out-Node}
use Rattle.ckc_typed.specs.declared.typed.Note.{Note}
use Rattle.ckc_typed.specs.Conversions.{is_null, is_null_form, is_string, is_string_form, is_allocation, is_allocation_form, kind_converts, kinds_allow, is_terminated_kind, takes_string, takes_allocation, takes_pointer, converts}
use Rattle.ckc_typed.specs.Operands.{same_element}
use Rattle.ckc_typed.specs.Trees.{NotedExpr, NotedLayer}
use Rattle.ckc_typed.specs.Types.{is_integer, is_pointer, is_char, is_char_form, is_pointer_form, element_of, kind_of, same_type}
use Rattle.ckc_source.specs.Code.{Expr, Narrow}
use Rattle.ckc_source.specs.Eval.{Store, evaluated}
use Rattle.ckc_source.specs.declared.outcome.Halt.{Halt}
use Rattle.ckc_source.specs.declared.outcome.Range.TheVariants.{Without}
use Rattle.ckc_source.specs.declared.outcome.Value.{Value}
use Rattle.ckc_build_values.specs.Kinds.{pointee_of}
use Rattle.ckc_build_values.specs.Operators.{converted}
use Rattle.ckc_blame_sound.proofs.Facts.{one_of}
use Rattle.ckc_blame_sound.proofs.Same.{same_equal}
use Rattle.ckc_blame_sound.proofs.Types.{no_pointer}
use Rattle.ckc_blame_given.proofs.Looser.{IsLooser}
use Rattle.ckc_blame_given.proofs.Converted.{allowed_keep, element_looser}

-- the word that a value is after its conversion to a type
abbrev pub taken : CType → ℕ → ℕ
taken t w = if is_char t then w % 256 else w

pub converted_is : (store : Store) (t : CType) (x : Expr) (v : Value) → evaluated store x ≡ Ok v → (u : Value) × (evaluated store (converted t x) ≡ Ok u) × (u.number ≡ taken t v.number)
converted_is store t x v e = by (is_char t)
  where
    by : (b : Bool) → (u : Value) × (evaluated store (if b then Narrow x else x) ≡ Ok u) × (u.number ≡ (if b then v.number % 256 else v.number))
    by true = (record { number = v.number % 256; range = Without }, rw e refl, refl)
    by false = (v, e, refl)

pub converted_halts : (store : Store) (t : CType) (x : Expr) (h : Halt) → evaluated store x ≡ Err h → evaluated store (converted t x) ≡ Err h
converted_halts store t x h e = by (is_char t)
  where
    by : (b : Bool) → evaluated store (if b then Narrow x else x) ≡ Err h
    by true = rw e refl
    by false = e

pub taken_word : (t : CType) (w : ℕ) → w < 2 ^ 32 → taken t w < (if is_char t then 256 else 2 ^ 32)
taken_word t w h = by (is_char t)
  where
    by : (b : Bool) → (if b then w % 256 else w) < (if b then 256 else 2 ^ 32)
    by true = omega arith
    by false = h

pub taken_zero : (t : CType) (w : ℕ) → w ≡ 0 → taken t w ≡ 0
taken_zero t w h = by (is_char t)
  where
    by : (b : Bool) → (if b then w % 256 else w) ≡ 0
    by true = ap (λ k. k % 256) h
    by false = h

pub no_char : (t : CType) → is_pointer t ≡ true → is_char t ≡ false
no_char t e = by (out-CType t) e
  where
    by : (f : CType-F CType) → is_pointer_form f ≡ true → is_char_form f ≡ false
    by (CType-F.Pointer k u) e = refl
    by CType-F.Int e = refl
    by CType-F.Unsigned e = refl
    by CType-F.Char e = absurd cc
    by CType-F.Void e = refl
    by (CType-F.Struct tag) e = refl

pub taken_pointer : (t : CType) (w : ℕ) → is_pointer t ≡ true → taken t w ≡ w
taken_pointer t w e = ap (λ b. if b then w % 256 else w) (no_char t e)

-- ---- which conversion it is

-- a call converts to pointers to the same elements alone
plain : (a b c s l p : Bool) → a ≡ false → b ≡ false → c ≡ false → (a || ((b && s) || ((c && l) || p))) ≡ true → p ≡ true
plain false false false s l p x y z e = e
plain true b c s l p x y z e = absurd cc
plain false true c s l p x y z e = absurd cc
plain false false true s l p x y z e = absurd cc

pub call_looser : (structs : Structs) (t : CType) (x : NotedExpr) (n : Name) (fs : List NotedExpr) → out-Node Name Note x.node ≡ Node-F.Call n fs → converts t x ≡ true → is_pointer x.note.ctype ≡ true
    → IsLooser (pointee_of structs x.note.ctype) (pointee_of structs t)
call_looser structs t x n fs is c pointer = ⊎_elim
    (λ i. let q = and_parts (is_integer t) (is_integer x.note.ctype) i in let none = no_pointer x.note.ctype q.1 in absurd cc)
    (λ i.
    let q = and_parts (is_pointer t) (is_null x || (takes_string t x || (takes_allocation t x || takes_pointer kind_converts t x))) i in
    let r : takes_pointer kind_converts t x ≡ true =
    plain (is_null x) (is_string x) (is_allocation x) (is_terminated_kind (kind_of t) && is_char (element_of t)) (same_element t x.note.ctype) (takes_pointer kind_converts t x)
    (ap (λ (y : NotedLayer). is_null_form y) is) (ap (λ (y : NotedLayer). is_string_form y) is) (ap (λ (y : NotedLayer). is_allocation_form y) is) q.1 in
    let p = and_parts (same_element t x.note.ctype) (kinds_allow kind_converts (kind_of x.note.ctype) (kind_of t)) r in
    let a = and_parts (is_pointer t) (is_pointer x.note.ctype && same_type (element_of t) (element_of x.note.ctype)) p.0 in
    let b = and_parts (is_pointer x.note.ctype) (same_type (element_of t) (element_of x.note.ctype)) a.1 in
    element_looser structs t x.note.ctype (same_equal (element_of t) (element_of x.note.ctype) b.1) (allowed_keep (kind_of x.note.ctype) (kind_of t) p.1))
    (one_of (is_integer t && is_integer x.note.ctype) (is_pointer t && (is_null x || (takes_string t x || (takes_allocation t x || takes_pointer kind_converts t x)))) c)
