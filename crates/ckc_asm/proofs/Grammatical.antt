-- What a reader finds in a line is what the grammar says of it.
use Rattle.std.proofs.Common.{◌≡◌, ◌↔◌, ℕ, ◌<◌, ◌≤◌, ℤ, Bool, true, false, cond, ◌&&◌, nat_le, List, [], ◌∷◌, length, map, Option, Some, None, refl, sym, ap, subst, ◌∙◌, inl, inr, arith}
use Rattle.std.specs.Prelude.{codes, option_and_then, unwrap_or}
use Rattle.std.specs.List.{slice_get}
use Rattle.std.specs.Option.{option_map}
use Rattle.std.proofs.lemmas.Bool.Decides.{nat_tests}
use Rattle.std.proofs.lemmas.Option.{same_Some, slice_get-map}
use Rattle.std.proofs.lemmas.Slice.Eq.{bytes_eq-Decides}
use Rattle.ckc_asm.specs.declared.items.Kind.{Kind}
use Rattle.ckc_asm.specs.declared.items.Kind.TheVariants as kind
use Rattle.ckc_asm.specs.declared.items.Form.{Form}
use Rattle.ckc_asm.specs.declared.items.Form.TheVariants as form
use Rattle.ckc_asm.specs.declared.items.Operand.{Operand}
use Rattle.ckc_asm.specs.declared.items.Operand.TheVariants.{Nothing, Number, Named}
use Rattle.ckc_asm.specs.declared.items.Item.{Item}
use Rattle.ckc_asm.specs.Cut.{Word, cut}
use Rattle.ckc_asm.specs.Names.{register}
use Rattle.ckc_asm.specs.code.Numerals.{register_of, number_of, byte_of}
use Rattle.ckc_asm.specs.Spelled.{is_name}
use Rattle.ckc_asm.specs.Items.{Statement, item, no_word, texts, operand_index}
use Rattle.ckc_asm.specs.code.Found.{is_sign, one, two, three, based, one_register, two_registers, three_registers, from_base, just, alone, bytes_of, data_of, number_operand, target_of, kind_of, item_with, item_of, has_label, labelled, statement_with, statement_of, reading}
use Rattle.ckc_asm.specs.Grammar as grammar
use Rattle.ckc_asm.specs.Grammar.{pair, triple, based_on, IsPlain, IsTarget, OfOne, OfTwo, OfThree, OfBase, OfWord, OfNothing, AreBytes, OfBytes, HasWords, IsItem, HasColon, Says, IsStatement, HasStatement, HaveStatements}
use Rattle.ckc_asm.specs.Program.{IsEntry}
use Rattle.ckc_asm.specs.Faults.{IsFirstWith, NoneHas, HasEntry, HasNoForm}
use Rattle.ckc_asm.specs.code.Reading.{ReadsEntry, IsUnread}
use Rattle.ckc_asm.proofs.Numbers.{most, register_back, number_no_name}
use Rattle.ckc_asm.proofs.Spelling as spelling
use Rattle.ckc_asm.proofs.Spelling.{both, mapped}

-- ---- options

bound : {A B : Type 0} (f : A → Option B) (o : Option A) (y : B) → option_and_then f o ≡ Some y → (x : A) × (o ≡ Some x) × (f x ≡ Some y)
bound f None y e = absurd cc
bound f (Some x) y e = (x, refl, e)

chosen : {A : Type 0} (b : Bool) (o : Option A) (y : A) → cond b o None ≡ Some y → (b ≡ true) × (o ≡ Some y)
chosen true o y e = (refl, e)
chosen false o y e = absurd cc

-- ---- the shapes of words

sign : (b : ℕ) (w : List ℕ) → is_sign b w ≡ true → w ≡ b ∷ []
sign b w e = (bytes_eq-Decides w (b ∷ [])).0 e

one_found : (words : List (List ℕ)) (w : List ℕ) → one words ≡ Some w → words ≡ w ∷ []
one_found [] w e = absurd cc
one_found (a ∷ []) w e = ap (λ (v : List ℕ). v ∷ []) (same_Some a w e)
one_found (a ∷ b ∷ words) w e = absurd cc

two_found : (words : List (List ℕ)) (r : List ℕ × List ℕ) → two words ≡ Some r → words ≡ pair r.0 r.1
two_found [] r e = absurd cc
two_found (a ∷ []) r e = absurd cc
two_found (a ∷ p ∷ []) r e = absurd cc
two_found (a ∷ p ∷ b ∷ []) r e =
    let x = chosen (is_sign 44 p) (Some (a, b)) r e in
    ap (λ (s : List ℕ). a ∷ s ∷ b ∷ []) (sign 44 p x.0) ∙ ap (λ (t : List ℕ × List ℕ). pair t.0 t.1) (same_Some (a, b) r x.1)
two_found (a ∷ p ∷ b ∷ q ∷ words) r e = absurd cc

three_found : (words : List (List ℕ)) (r : List ℕ × List ℕ × List ℕ) → three words ≡ Some r → words ≡ triple r.0 r.1 r.2
three_found [] r e = absurd cc
three_found (a ∷ []) r e = absurd cc
three_found (a ∷ p ∷ []) r e = absurd cc
three_found (a ∷ p ∷ b ∷ []) r e = absurd cc
three_found (a ∷ p ∷ b ∷ q ∷ []) r e = absurd cc
three_found (a ∷ p ∷ b ∷ q ∷ c ∷ []) r e =
    let x = chosen (is_sign 44 p && is_sign 44 q) (Some (a, b, c)) r e in
    let y = both (is_sign 44 p) (is_sign 44 q) x.0 in
    ap (λ (s : List ℕ). a ∷ s ∷ b ∷ q ∷ c ∷ []) (sign 44 p y.0) ∙ ap (λ (s : List ℕ). a ∷ codes "," ∷ b ∷ s ∷ c ∷ []) (sign 44 q y.1)
    ∙ ap (λ (t : List ℕ × List ℕ × List ℕ). triple t.0 t.1 t.2) (same_Some (a, b, c) r x.1)
three_found (a ∷ p ∷ b ∷ q ∷ c ∷ d ∷ words) r e = absurd cc

based_found : (words : List (List ℕ)) (r : List ℕ × List ℕ × List ℕ) → based words ≡ Some r → words ≡ based_on r.0 r.1 r.2
based_found [] r e = absurd cc
based_found (a ∷ []) r e = absurd cc
based_found (a ∷ p ∷ []) r e = absurd cc
based_found (a ∷ p ∷ b ∷ []) r e = absurd cc
based_found (a ∷ p ∷ b ∷ q ∷ []) r e = absurd cc
based_found (a ∷ p ∷ b ∷ q ∷ c ∷ []) r e = absurd cc
based_found (a ∷ p ∷ b ∷ q ∷ c ∷ d ∷ []) r e =
    let x = chosen (is_sign 44 p && (is_sign 40 q && is_sign 41 d)) (Some (a, b, c)) r e in
    let y = both (is_sign 44 p) (is_sign 40 q && is_sign 41 d) x.0 in
    let z = both (is_sign 40 q) (is_sign 41 d) y.1 in
    ap (λ (s : List ℕ). a ∷ s ∷ b ∷ q ∷ c ∷ d ∷ []) (sign 44 p y.0) ∙ ap (λ (s : List ℕ). a ∷ codes "," ∷ b ∷ s ∷ c ∷ d ∷ []) (sign 40 q z.0)
    ∙ ap (λ (s : List ℕ). a ∷ codes "," ∷ b ∷ codes "(" ∷ c ∷ s ∷ []) (sign 41 d z.1)
    ∙ ap (λ (t : List ℕ × List ℕ × List ℕ). based_on t.0 t.1 t.2) (same_Some (a, b, c) r x.1)
based_found (a ∷ p ∷ b ∷ q ∷ c ∷ d ∷ f ∷ words) r e = absurd cc

-- ---- the last words

plain_found : (w : List ℕ) (o : Operand) → number_operand w ≡ Some o → IsPlain w o
plain_found w o e = let x = mapped (λ (z : ℤ). Number z) (number_of w) o e in (x.0, (spelling.numbers w x.0).0 x.1, x.2)

plain_made : (w : List ℕ) (o : Operand) → IsPlain w o → number_operand w ≡ Some o
plain_made w o h = ap (option_map (λ (z : ℤ). Number z)) ((spelling.numbers w h.0).1 h.1) ∙ ap (λ (p : Operand). Some p) (sym h.2)

target_at : (w : List ℕ) (o : Operand) (b : Bool) → is_name w ≡ b → cond b (Some Named) (number_operand w) ≡ Some o → IsTarget w o
target_at w o true h e = inl (h, sym (same_Some Named o e))
target_at w o false h e = inr (plain_found w o e)

target_found : (w : List ℕ) (o : Operand) → target_of w ≡ Some o → IsTarget w o
target_found w o e = target_at w o (is_name w) refl e

target_made : (w : List ℕ) (o : Operand) → IsTarget w o → target_of w ≡ Some o
target_made w o (inl h) = ap (λ b. cond b (Some Named) (number_operand w)) h.0 ∙ ap (λ (p : Operand). Some p) (sym h.1)
target_made w o (inr h) = ap (λ b. cond b (Some Named) (number_operand w)) (number_no_name w h.0 h.1) ∙ plain_made w o h

-- ---- registers and last words

module _ (words : List (List ℕ)) (i : Item) where
  -- a word that names a register, and what is made of its number
  named : (w : List ℕ) (f : ℕ → Option Item) → option_and_then f (register_of w) ≡ Some i → (a : ℕ) × (a < 32) × (w ≡ register a) × (f a ≡ Some i)
  named w f e =
      let x = bound f (register_of w) i e in
      let r = (spelling.registers w x.0).0 x.1 in
      (x.0, r.0, r.1, x.2)

  one_of : (f : ℕ → Form) (last : List ℕ → Option Operand) (Last : List ℕ → Operand → Type 0)
      → ((w : List ℕ) (o : Operand) → last w ≡ Some o → Last w o) → one_register words f last ≡ Some i → OfOne words f Last i
  one_of f last Last back e =
      let x = bound _ (two words) i e in
      let y = named x.0.0 _ x.2 in
      let z = bound _ (last x.0.1) i y.3 in
      record {
        a = y.0;
        w = x.0.1;
        o = z.0;
        small = y.1;
        spelled = two_found words x.0 x.1 ∙ ap (λ (v : List ℕ). pair v x.0.1) y.2;
        last = back x.0.1 z.0 z.1;
        is = sym (same_Some (item (f y.0) z.0) i z.2);
      }

  one_made : (f : ℕ → Form) (last : List ℕ → Option Operand) (Last : List ℕ → Operand → Type 0)
      → ((w : List ℕ) (o : Operand) → Last w o → last w ≡ Some o) → OfOne words f Last i → one_register words f last ≡ Some i
  one_made f last Last back h =
      ap (λ (l : List (List ℕ)). one_register l f last) h.spelled
      ∙ rw (register_back h.a h.small, back h.w h.o h.last) (ap (λ (j : Item). Some j) (sym h.is))

  two_of : (f : ℕ → ℕ → Form) (last : List ℕ → Option Operand) (Last : List ℕ → Operand → Type 0)
      → ((w : List ℕ) (o : Operand) → last w ≡ Some o → Last w o) → two_registers words f last ≡ Some i → OfTwo words f Last i
  two_of f last Last back e =
      let x = bound _ (three words) i e in
      let y = named x.0.0 _ x.2 in
      let z = named x.0.1 _ y.3 in
      let u = bound _ (last x.0.2) i z.3 in
      record {
        a = y.0;
        b = z.0;
        w = x.0.2;
        o = u.0;
        small = (y.1, z.1);
        spelled = three_found words x.0 x.1 ∙ ap (λ (v : List ℕ). triple v x.0.1 x.0.2) y.2 ∙ ap (λ (v : List ℕ). triple (register y.0) v x.0.2) z.2;
        last = back x.0.2 u.0 u.1;
        is = sym (same_Some (item (f y.0 z.0) u.0) i u.2);
      }

  two_made : (f : ℕ → ℕ → Form) (last : List ℕ → Option Operand) (Last : List ℕ → Operand → Type 0)
      → ((w : List ℕ) (o : Operand) → Last w o → last w ≡ Some o) → OfTwo words f Last i → two_registers words f last ≡ Some i
  two_made f last Last back h =
      ap (λ (l : List (List ℕ)). two_registers l f last) h.spelled
      ∙ rw (register_back h.a h.small.0, register_back h.b h.small.1, back h.w h.o h.last) (ap (λ (j : Item). Some j) (sym h.is))

  three_of : (f : ℕ → ℕ → ℕ → Form) → three_registers words f ≡ Some i → OfThree words f i
  three_of f e =
      let x = bound _ (three words) i e in
      let y = named x.0.0 _ x.2 in
      let z = named x.0.1 _ y.3 in
      let u = named x.0.2 _ z.3 in
      record {
        a = y.0;
        b = z.0;
        c = u.0;
        small = (y.1, z.1, u.1);
        spelled =
            three_found words x.0 x.1 ∙ ap (λ (v : List ℕ). triple v x.0.1 x.0.2) y.2 ∙ ap (λ (v : List ℕ). triple (register y.0) v x.0.2) z.2
            ∙ ap (λ (v : List ℕ). triple (register y.0) (register z.0) v) u.2;
        is = sym (same_Some (item (f y.0 z.0 u.0) Nothing) i u.3);
      }

  three_made : (f : ℕ → ℕ → ℕ → Form) → OfThree words f i → three_registers words f ≡ Some i
  three_made f h =
      ap (λ (l : List (List ℕ)). three_registers l f) h.spelled
      ∙ rw (register_back h.a h.small.0, register_back h.b h.small.1, register_back h.c h.small.2) (ap (λ (j : Item). Some j) (sym h.is))

  base_of : (f : ℕ → ℕ → Form) → from_base words f ≡ Some i → OfBase words f i
  base_of f e =
      let x = bound _ (based words) i e in
      let y = named x.0.0 _ x.2 in
      let z = bound _ (number_of x.0.1) i y.3 in
      let u = named x.0.2 _ z.2 in
      record {
        a = y.0;
        base = u.0;
        w = x.0.1;
        z = z.0;
        small = (y.1, u.1);
        spelled = based_found words x.0 x.1 ∙ ap (λ (v : List ℕ). based_on v x.0.1 x.0.2) y.2 ∙ ap (λ (v : List ℕ). based_on (register y.0) x.0.1 v) u.2;
        offset = (spelling.numbers x.0.1 z.0).0 z.1;
        is = sym (same_Some (item (f y.0 u.0) (Number z.0)) i u.3);
      }

  base_made : (f : ℕ → ℕ → Form) → OfBase words f i → from_base words f ≡ Some i
  base_made f h =
      ap (λ (l : List (List ℕ)). from_base l f) h.spelled
      ∙ rw (register_back h.a h.small.0, (spelling.numbers h.w h.z).1 h.offset, register_back h.base h.small.1) (ap (λ (j : Item). Some j) (sym h.is))

  word_of : (f : Form) (last : List ℕ → Option Operand) (Last : List ℕ → Operand → Type 0)
      → ((w : List ℕ) (o : Operand) → last w ≡ Some o → Last w o) → just words f last ≡ Some i → OfWord words f Last i
  word_of f last Last back e =
      let x = bound _ (one words) i e in
      let y = bound _ (last x.0) i x.2 in
      record { w = x.0; o = y.0; spelled = one_found words x.0 x.1; last = back x.0 y.0 y.1; is = sym (same_Some (item f y.0) i y.2) }

  word_made : (f : Form) (last : List ℕ → Option Operand) (Last : List ℕ → Operand → Type 0)
      → ((w : List ℕ) (o : Operand) → Last w o → last w ≡ Some o) → OfWord words f Last i → just words f last ≡ Some i
  word_made f last Last back h =
      ap (λ (l : List (List ℕ)). just l f last) h.spelled ∙ rw (back h.w h.o h.last) (ap (λ (j : Item). Some j) (sym h.is))

nothing_of : (words : List (List ℕ)) (f : Form) (i : Item) → alone words f ≡ Some i → OfNothing words f i
nothing_of [] f i e = (refl, sym (same_Some (item f Nothing) i e))
nothing_of (w ∷ words) f i e = absurd cc

nothing_made : (words : List (List ℕ)) (f : Form) (i : Item) → OfNothing words f i → alone words f ≡ Some i
nothing_made words f i h = ap (λ (l : List (List ℕ)). alone l f) h.0 ∙ ap (λ (j : Item). Some j) (sym h.1)

-- ---- bytes

bytes_found : (words : List (List ℕ)) (bytes : List ℕ) → bytes_of words ≡ Some bytes → AreBytes words bytes
bytes_found [] [] e = tt
bytes_found [] (b ∷ bytes) e = absurd cc
bytes_found (w ∷ words) bytes e =
    let x = bound _ (byte_of w) bytes e in
    let y = bound _ (bytes_of words) bytes x.2 in
    subst (AreBytes (w ∷ words)) (same_Some (x.0 ∷ y.0) bytes y.2) ((spelling.bytes w x.0).0 x.1, bytes_found words y.0 y.1)

bytes_made : (words : List (List ℕ)) (bytes : List ℕ) → AreBytes words bytes → bytes_of words ≡ Some bytes
bytes_made [] [] h = refl
bytes_made [] (b ∷ bytes) h = absurd h
bytes_made (w ∷ words) [] h = absurd h
bytes_made (w ∷ words) (b ∷ bytes) h = rw ((spelling.bytes w b).1 h.0, bytes_made words bytes h.1) refl

at_most : (a b : ℕ) → nat_le a b ≡ true → a ≤ b
at_most a b h = grind (arith, nat_tests)

data_found : (words : List (List ℕ)) (i : Item) → data_of words ≡ Some i → OfBytes words i
data_found words i e =
    let x = chosen (nat_le 1 (length words) && nat_le (length words) 16) _ i e in
    let y = both (nat_le 1 (length words)) (nat_le (length words) 16) x.0 in
    let z = mapped (λ (bytes : List ℕ). item (form.Data bytes) Nothing) (bytes_of words) i x.1 in
    record { bytes = z.0; few = (at_most 1 (length words) y.0, at_most (length words) 16 y.1); spelled = bytes_found words z.0 z.1; is = z.2 }

data_made : (words : List (List ℕ)) (i : Item) → OfBytes words i → data_of words ≡ Some i
data_made words i h =
    rw (most 1 (length words) h.few.0, most (length words) 16 h.few.1, bytes_made words h.bytes h.spelled) (ap (λ (j : Item). Some j) (sym h.is))

-- ---- items

words_are : (k : Kind) (words : List (List ℕ)) (i : Item) → (item_with k words ≡ Some i) ↔ HasWords k words i
unfolding item_with HasWords
words_are kind.Lui words i = (one_of words i (λ rd. form.Lui rd) number_operand IsPlain plain_found, one_made words i (λ rd. form.Lui rd) number_operand IsPlain plain_made)
words_are kind.Auipc words i = (one_of words i (λ rd. form.Auipc rd) number_operand IsPlain plain_found, one_made words i (λ rd. form.Auipc rd) number_operand IsPlain plain_made)
words_are kind.Jal words i = (one_of words i (λ rd. form.Jal rd) target_of IsTarget target_found, one_made words i (λ rd. form.Jal rd) target_of IsTarget target_made)
words_are kind.Jalr words i = (base_of words i (λ rd rs1. form.Jalr rd rs1), base_made words i (λ rd rs1. form.Jalr rd rs1))
words_are (kind.Branch op) words i = (two_of words i (λ rs1 rs2. form.Branch op rs1 rs2) target_of IsTarget target_found, two_made words i (λ rs1 rs2. form.Branch op rs1 rs2) target_of IsTarget target_made)
words_are (kind.Load op) words i = (base_of words i (λ rd rs1. form.Load op rd rs1), base_made words i (λ rd rs1. form.Load op rd rs1))
words_are (kind.Store op) words i = (base_of words i (λ rs2 rs1. form.Store op rs1 rs2), base_made words i (λ rs2 rs1. form.Store op rs1 rs2))
words_are (kind.Imm op) words i = (two_of words i (λ rd rs1. form.Imm op rd rs1) number_operand IsPlain plain_found, two_made words i (λ rd rs1. form.Imm op rd rs1) number_operand IsPlain plain_made)
words_are (kind.Reg op) words i = (three_of words i (λ rd rs1 rs2. form.Reg op rd rs1 rs2), three_made words i (λ rd rs1 rs2. form.Reg op rd rs1 rs2))
words_are kind.Fence words i = (word_of words i form.Fence number_operand IsPlain plain_found, word_made words i form.Fence number_operand IsPlain plain_made)
words_are kind.Ecall words i = (nothing_of words form.Ecall i, nothing_made words form.Ecall i)
words_are kind.Ebreak words i = (nothing_of words form.Ebreak i, nothing_made words form.Ebreak i)
words_are kind.Word words i = (word_of words i form.Word number_operand IsPlain plain_found, word_made words i form.Word number_operand IsPlain plain_made)
words_are kind.Entry words i = (word_of words i form.Entry target_of IsTarget target_found, word_made words i form.Entry target_of IsTarget target_made)
words_are kind.Data words i = (data_found words i, data_made words i)

item_found : (words : List (List ℕ)) (i : Item) → item_of words ≡ Some i → IsItem words i
unfolding item_of
item_found [] i e = sym (same_Some (item form.Nothing Nothing) i e)
item_found (name ∷ words) i e =
    let x = bound _ (kind_of name) i e in
    (x.0, (spelling.named_kinds name x.0).0 x.1, (words_are x.0 words i).0 x.2)

item_made : (words : List (List ℕ)) (i : Item) → IsItem words i → item_of words ≡ Some i
unfolding item_of
item_made [] i h = ap (λ (j : Item). Some j) (sym h)
item_made (name ∷ words) i h = ap (option_and_then (λ (k : Kind). item_with k words)) ((spelling.named_kinds name h.0).1 h.1) ∙ (words_are h.0 words i).1 h.2

-- what `.entry` says is a number or a label
entry_words : (k : Kind) (words : List (List ℕ)) (i : Item) → HasWords k words i → IsEntry i.form → i.operand ≡ Nothing → ⊥
unfolding HasWords
entry_words kind.Ecall words i h is none = let P : Item → Type 0 = λ j. IsEntry j.form in subst P h.1 is
entry_words kind.Ebreak words i h is none = let P : Item → Type 0 = λ j. IsEntry j.form in subst P h.1 is
entry_words kind.Entry words i h is none = given h.last
  where
    none_is : h.o ≡ Nothing
    none_is = sym (ap (λ (j : Item). j.operand) h.is) ∙ none

    given : IsTarget h.w h.o → ⊥
    given (inl t) = let z : Named ≡ Nothing = sym t.1 ∙ none_is in cc
    given (inr t) = let z : Number t.0 ≡ Nothing = sym t.2 ∙ none_is in cc
entry_words _ words i h is none = let P : Item → Type 0 = λ j. IsEntry j.form in subst P h.is is

entry_item : (words : List (List ℕ)) (i : Item) → IsItem words i → IsEntry i.form → i.operand ≡ Nothing → ⊥
entry_item [] i h is none = let P : Item → Type 0 = λ j. IsEntry j.form in subst P h is
entry_item (name ∷ words) i h is none = entry_words h.0 words i h.2 is none

pub entry_statement : (words : List Word) (s : Statement) → IsStatement words s → IsEntry s.item.form → s.item.operand ≡ Nothing → ⊥
entry_statement words s (grammar.bare never l says) is none = entry_item (texts words) s.item says.says is none
entry_statement words s (grammar.labelled w colon more e c name l says) is none = entry_item (texts more) s.item says.says is none

-- ---- lines

colon_found : (words : List Word) → has_label words ≡ true → HasColon words
colon_found [] e = absurd cc
colon_found (w ∷ []) e = absurd cc
colon_found (w ∷ colon ∷ words) e = sign 58 colon.text e

colon_made : (words : List Word) → HasColon words → has_label words ≡ true
colon_made [] h = absurd h
colon_made (w ∷ []) h = absurd h
colon_made (w ∷ colon ∷ words) h = (bytes_eq-Decides colon.text (58 ∷ [])).1 h

with_found : (label : Option Word) (words : List Word) (s : Statement) → statement_with label words ≡ Some s → (s.label ≡ label) × Says words s
with_found label words s e =
    let x = mapped _ (item_of (texts words)) s e in
    let P : Statement → Type 0 = λ t. (t.label ≡ label) × Says words t in
    subst P (sym x.2) (refl, record { says = item_found (texts words) x.0 x.1; operand_is = refl })

with_made : (label : Option Word) (words : List Word) (s : Statement) → s.label ≡ label → Says words s → statement_with label words ≡ Some s
with_made label words s l h =
    ap (option_map (λ (i : Item). record { label = label; item = i; operand = unwrap_or (slice_get words (operand_index i.form)) no_word })) (item_made (texts words) s.item h.says)
    ∙ ap (λ (t : Statement). Some t) (λ j. record { label = sym l j; item = s.item; operand = sym h.operand_is j })

label_found : (words : List Word) (s : Statement) → HasColon words → labelled words ≡ Some s → IsStatement words s
label_found [] s h e = absurd h
label_found (w ∷ []) s h e = absurd h
label_found (w ∷ colon ∷ words) s h e =
    let x = chosen (is_name w.text) (statement_with (Some w) words) s e in
    let y = with_found (Some w) words s x.1 in
    grammar.labelled w colon words refl h x.0 y.0 y.1

colon_not : (words : List Word) → has_label words ≡ false → ¬ HasColon words
colon_not words h colon = let z : true ≡ false = sym (colon_made words colon) ∙ h in cc

statement_at : (words : List Word) (s : Statement) (b : Bool) → has_label words ≡ b → cond b (labelled words) (statement_with None words) ≡ Some s → IsStatement words s
statement_at words s true h e = label_found words s (colon_found words h) e
statement_at words s false h e = let y = with_found None words s e in grammar.bare (colon_not words h) y.0 y.1

statement_found : (words : List Word) (s : Statement) → statement_of words ≡ Some s → IsStatement words s
unfolding statement_of
statement_found words s e = statement_at words s (has_label words) refl e

no_label : (words : List Word) (b : Bool) → has_label words ≡ b → ¬ HasColon words → b ≡ false
no_label words true h never = absurd (never (colon_found words h))
no_label words false h never = refl

statement_made : (words : List Word) (s : Statement) → IsStatement words s → statement_of words ≡ Some s
unfolding statement_of
statement_made words s (grammar.bare never l says) =
    ap (λ b. cond b (labelled words) (statement_with None words)) (no_label words (has_label words) refl never) ∙ with_made None words s l says
statement_made words s (grammar.labelled w colon more e c name l says) =
    let sign : is_sign 58 colon.text ≡ true = (bytes_eq-Decides colon.text (58 ∷ [])).1 c in
    ap statement_of e
    ∙ ap (λ b. cond b (labelled (w ∷ colon ∷ more)) (statement_with None (w ∷ colon ∷ more))) sign
    ∙ ap (λ b. cond b (statement_with (Some w) more) None) name ∙ with_made (Some w) more s l says

pub reading_found : (line : List ℕ) (s : Statement) → reading line ≡ Some s → HasStatement line s
reading_found line s e = statement_found (cut 1 line) s e

pub reading_made : (line : List ℕ) (s : Statement) → HasStatement line s → reading line ≡ Some s
reading_made line s h = statement_made (cut 1 line) s h

-- ---- texts

pub lines_found : (lines : List (List ℕ)) (statements : List Statement) → map reading lines ≡ map (λ s. Some s) statements → HaveStatements lines statements
lines_found [] [] e = tt
lines_found [] (s ∷ statements) e = absurd (let z : [] ≡ Some s ∷ map (λ t. Some t) statements = e in cc)
lines_found (line ∷ lines) [] e = absurd (let z : reading line ∷ map reading lines ≡ [] = e in cc)
lines_found (line ∷ lines) (s ∷ statements) e =
    let z : reading line ∷ map reading lines ≡ Some s ∷ map (λ t. Some t) statements = e in
    let head : reading line ≡ Some s = cc in
    let tail : map reading lines ≡ map (λ t. Some t) statements = cc in
    (reading_found line s head, lines_found lines statements tail)

pub lines_made : (lines : List (List ℕ)) (statements : List Statement) → HaveStatements lines statements → map reading lines ≡ map (λ s. Some s) statements
lines_made [] [] h = refl
lines_made [] (s ∷ statements) h = absurd h
lines_made (line ∷ lines) [] h = absurd h
lines_made (line ∷ lines) (s ∷ statements) h =
    ap (λ o. o ∷ map reading lines) (reading_made line s h.0) ∙ ap (λ l. Some s ∷ l) (lines_made lines statements h.1)

-- the line of a reading
line_read : (lines : List (List ℕ)) (k : ℕ) (o : Option Statement) → slice_get (map reading lines) k ≡ Some o → (line : List ℕ) × (slice_get lines k ≡ Some line) × (o ≡ reading line)
line_read lines k o at = mapped reading (slice_get lines k) o (sym (slice_get-map reading lines k) ∙ at)

read_at : (lines : List (List ℕ)) (k : ℕ) (line : List ℕ) → slice_get lines k ≡ Some line → slice_get (map reading lines) k ≡ Some (reading line)
read_at lines k line at = slice_get-map reading lines k ∙ ap (option_map reading) at

entry_at : (line : List ℕ) (o : Option Statement) → reading line ≡ o → ReadsEntry o → HasEntry line
entry_at line None e h = absurd h
entry_at line (Some s) e h = (s, reading_found line s e, h)

entry_made : (line : List ℕ) → HasEntry line → ReadsEntry (reading line)
entry_made line h = subst (λ o. ReadsEntry o) (sym (reading_made line h.0 h.1)) h.2

none_at : (line : List ℕ) (o : Option Statement) → reading line ≡ o → ((s : Statement) → ¬ HasStatement line s) → o ≡ None
none_at line None e never = refl
none_at line (Some s) e never = absurd (never s (reading_found line s e))

no_form : (lines : List (List ℕ)) (k : ℕ) (line : List ℕ) → IsUnread (map reading lines) k (reading line) → HasNoForm lines k line
no_form lines k line (inl none) = inl (λ s has. let z : None ≡ Some s = sym none ∙ reading_made line s has in cc)
no_form lines k line (inr w) =
    let r = line_read lines w.0 w.1 w.3 in
    inr (w.0, r.0, w.2, r.1, entry_at r.0 (reading r.0) refl (subst (λ o. ReadsEntry o) r.2 w.4), entry_at line (reading line) refl w.5)

unread : (lines : List (List ℕ)) (k : ℕ) (line : List ℕ) → HasNoForm lines k line → IsUnread (map reading lines) k (reading line)
unread lines k line (inl never) = inl (none_at line (reading line) refl never)
unread lines k line (inr w) = inr (w.0, reading w.1, w.2, read_at lines w.0 w.1 w.3, entry_made w.1 w.4, entry_made line w.5)

pub first_no_form : (lines : List (List ℕ)) (k : ℕ) (o : Option Statement) → IsFirstWith (IsUnread (map reading lines)) (map reading lines) k o
    → (line : List ℕ) × IsFirstWith (HasNoForm lines) lines k line
first_no_form lines k o f =
    let r = line_read lines k o f.stands in (
      r.0,
      record {
        stands = r.1;
        holds = no_form lines k r.0 (subst (IsUnread (map reading lines) k) r.2 f.holds);
        none_before = λ j line l at bad. f.none_before j (reading line) l (read_at lines j line at) (unread lines j line bad);
      },
    )

pub none_no_form : (lines : List (List ℕ)) → NoneHas (IsUnread (map reading lines)) (map reading lines) → NoneHas (HasNoForm lines) lines
none_no_form lines none k line at bad = none k (reading line) (read_at lines k line at) (unread lines k line bad)

pub none_unread : (lines : List (List ℕ)) → NoneHas (HasNoForm lines) lines → NoneHas (IsUnread (map reading lines)) (map reading lines)
none_unread lines none k o at bad =
    let r = line_read lines k o at in
    none k r.0 r.1 (no_form lines k r.0 (subst (IsUnread (map reading lines) k) r.2 bad))
