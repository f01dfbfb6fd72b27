-- What each item has that is read: registers below 32, and a word or `.entry` if it names a label.
use Rattle.std.proofs.Common.{◌≡◌, ℕ, ◌-◌, ◌<◌, Bool, true, false, cond, ◌&&◌, ◌==◌, nat_lt, List, [], ◌∷◌, length, Option, Some, None, refl, ◌⊎◌, inl, inr, subst, arith}
use Rattle.std.specs.Prelude.{unwrap_or, option_and_then}
use Rattle.std.specs.Char.{is_digit}
use Rattle.std.specs.List.{slice_get, slice_index}
use Rattle.std.specs.Option.{option_map}
use Rattle.std.proofs.lemmas.Bool.Decides.{nat_tests}
use Rattle.ckc_asm.specs.declared.items.Kind.{Kind}
use Rattle.ckc_asm.specs.declared.items.Kind.TheVariants as kind
use Rattle.ckc_asm.specs.declared.items.Form.{Form}
use Rattle.ckc_asm.specs.declared.items.Form.TheVariants as form
use Rattle.ckc_asm.specs.declared.items.Operand.{Operand}
use Rattle.ckc_asm.specs.declared.items.Operand.TheVariants.{Nothing, Number, Named}
use Rattle.ckc_asm.specs.declared.items.Item.{Item}
use Rattle.ckc_asm.specs.Cut.{Word}
use Rattle.ckc_asm.specs.code.Numerals.{register_of, short_register, long_register, long_number, number_of}
use Rattle.ckc_asm.specs.Spelled.{is_name}
use Rattle.ckc_asm.specs.Items.{Statement, item, texts, no_word, operand_index}
use Rattle.ckc_asm.specs.code.Found.{one, two, three, based, item_of, item_with, kind_of, three_registers, two_registers, one_register, from_base, just, alone, bytes_of, number_operand, target_of, statement_of, statement_with, labelled, has_label}
use Rattle.ckc_asm.specs.Program.{width_of, IsEntry}

abbrev pub RegistersFit : Form → Type 0
RegistersFit (form.Lui rd) = rd < 32
RegistersFit (form.Auipc rd) = rd < 32
RegistersFit (form.Jal rd) = rd < 32
RegistersFit (form.Jalr rd rs1) = (rd < 32) × (rs1 < 32)
RegistersFit (form.Branch op rs1 rs2) = (rs1 < 32) × (rs2 < 32)
RegistersFit (form.Load op rd rs1) = (rd < 32) × (rs1 < 32)
RegistersFit (form.Store op rs1 rs2) = (rs1 < 32) × (rs2 < 32)
RegistersFit (form.Imm op rd rs1) = (rd < 32) × (rs1 < 32)
RegistersFit (form.Reg op rd rs1 rs2) = (rd < 32) × (rs1 < 32) × (rs2 < 32)
RegistersFit f = Unit {0}

abbrev IsShaped : Item → Type 0
IsShaped i = RegistersFit i.form × (i.operand ≡ Named → (width_of i.form ≡ 4) ⊎ IsEntry i.form)

abbrev Each : {A : Type 0} → (A → Type 0) → Option A → Type 0
Each P None = Unit {0}
Each P (Some x) = P x

then_each : {A B : Type 0} (P : B → Type 0) (o : Option A) (f : A → Option B) → ((x : A) → Each P (f x)) → Each P (option_and_then f o)
then_each P None f h = tt
then_each P (Some x) f h = h x

map_each : {A B : Type 0} (P : B → Type 0) (o : Option A) (f : A → B) → ((x : A) → P (f x)) → Each P (option_map f o)
map_each P None f h = tt
map_each P (Some x) f h = h x

choice_each : {A : Type 0} (P : A → Type 0) (b : Bool) (x y : Option A) → Each P x → Each P y → Each P (cond b x y)
choice_each P true x y h k = h
choice_each P false x y h k = k

-- the same, if something is known of the first
with_each : {A B : Type 0} (Q : A → Type 0) (P : B → Type 0) (o : Option A) (f : A → Option B) → Each Q o → ((x : A) → Q x → Each P (f x)) → Each P (option_and_then f o)
with_each Q P None f q h = tt
with_each Q P (Some x) f q h = h x q

both_true : (a b : Bool) → (a && b) ≡ true → (a ≡ true) × (b ≡ true)
both_true true b h = (refl, h)
both_true false b h = absurd (let z : false ≡ true = h in cc)

if_each : {A : Type 0} (P : A → Type 0) (b : Bool) (x : A) → (b ≡ true → P x) → Each P (cond b (Some x) None)
if_each P true x h = h refl
if_each P false x h = tt

digit_small : (b : ℕ) → is_digit b 10 ≡ true → b - 48 < 32
digit_small b h = grind (arith, nat_tests)

below : (a b : ℕ) → nat_lt a b ≡ true → a < b
below a b h = grind (arith, nat_tests)

abbrev IsRegister : ℕ → Type 0
IsRegister n = n < 32

register_small : (w : List ℕ) → Each IsRegister (register_of w)
register_small w = choice_each IsRegister (length w == 2) (short_register w) (cond (length w == 3) (long_register w) None)
    (if_each IsRegister _ _ (λ h. digit_small (slice_index w 1) (both_true _ _ h).1))
    (choice_each IsRegister (length w == 3) (long_register w) None (if_each IsRegister _ _ (λ h. below (long_number w) 32 (both_true _ _ h).1)) tt)

wide : (f : Form) (o : Operand) → RegistersFit f → width_of f ≡ 4 → IsShaped (item f o)
wide f o r w = (r, λ named. inl w)

three_shaped : (words : List (List ℕ)) (f : ℕ → ℕ → ℕ → Form) → ((a b c : ℕ) → a < 32 → b < 32 → c < 32 → (o : Operand) → IsShaped (item (f a b c) o)) → Each IsShaped (three_registers words f)
three_shaped words f h =
    then_each IsShaped (three words) _ (λ ws. with_each IsRegister IsShaped (register_of ws.0) _ (register_small ws.0) (λ a p.
    with_each IsRegister IsShaped (register_of ws.1) _ (register_small ws.1) (λ b q. with_each IsRegister IsShaped (register_of ws.2) _ (register_small ws.2) (λ c r. h a b c p q r Nothing))))

two_shaped : (words : List (List ℕ)) (f : ℕ → ℕ → Form) (last : List ℕ → Option Operand) → ((a b : ℕ) → a < 32 → b < 32 → (o : Operand) → IsShaped (item (f a b) o)) → Each IsShaped (two_registers words f last)
two_shaped words f last h =
    then_each IsShaped (three words) _ (λ ws. with_each IsRegister IsShaped (register_of ws.0) _ (register_small ws.0) (λ a p.
    with_each IsRegister IsShaped (register_of ws.1) _ (register_small ws.1) (λ b q. then_each IsShaped (last ws.2) _ (λ o. h a b p q o))))

one_shaped : (words : List (List ℕ)) (f : ℕ → Form) (last : List ℕ → Option Operand) → ((a : ℕ) → a < 32 → (o : Operand) → IsShaped (item (f a) o)) → Each IsShaped (one_register words f last)
one_shaped words f last h =
    then_each IsShaped (two words) _ (λ ws. with_each IsRegister IsShaped (register_of ws.0) _ (register_small ws.0) (λ a p. then_each IsShaped (last ws.1) _ (λ o. h a p o)))

base_shaped : (words : List (List ℕ)) (f : ℕ → ℕ → Form) → ((a b : ℕ) → a < 32 → b < 32 → (o : Operand) → IsShaped (item (f a b) o)) → Each IsShaped (from_base words f)
base_shaped words f h =
    then_each IsShaped (based words) _ (λ ws. with_each IsRegister IsShaped (register_of ws.0) _ (register_small ws.0) (λ a p.
    then_each IsShaped (number_of ws.1) _ (λ n. with_each IsRegister IsShaped (register_of ws.2) _ (register_small ws.2) (λ b q. h a b p q (Number n)))))

just_shaped : (words : List (List ℕ)) (f : Form) (last : List ℕ → Option Operand) → ((o : Operand) → IsShaped (item f o)) → Each IsShaped (just words f last)
just_shaped words f last h = then_each IsShaped (one words) _ (λ w. then_each IsShaped (last w) _ (λ o. h o))

nothing_shaped : (f : Form) → RegistersFit f → IsShaped (item f Nothing)
nothing_shaped f r = (r, λ named. absurd (let z : Nothing ≡ Named = named in cc))

alone_shaped : (words : List (List ℕ)) (f : Form) → RegistersFit f → Each IsShaped (alone words f)
alone_shaped [] f r = nothing_shaped f r
alone_shaped (w ∷ words) f r = tt

item_shaped : (k : Kind) (words : List (List ℕ)) → Each IsShaped (item_with k words)
unfolding item_with
item_shaped kind.Lui words = one_shaped words (λ rd. form.Lui rd) number_operand (λ a p o. wide (form.Lui a) o p refl)
item_shaped kind.Auipc words = one_shaped words (λ rd. form.Auipc rd) number_operand (λ a p o. wide (form.Auipc a) o p refl)
item_shaped kind.Jal words = one_shaped words (λ rd. form.Jal rd) target_of (λ a p o. wide (form.Jal a) o p refl)
item_shaped kind.Jalr words = base_shaped words (λ rd rs1. form.Jalr rd rs1) (λ a b p q o. wide (form.Jalr a b) o (p, q) refl)
item_shaped (kind.Branch op) words = two_shaped words (λ rs1 rs2. form.Branch op rs1 rs2) target_of (λ a b p q o. wide (form.Branch op a b) o (p, q) refl)
item_shaped (kind.Load op) words = base_shaped words (λ rd rs1. form.Load op rd rs1) (λ a b p q o. wide (form.Load op a b) o (p, q) refl)
item_shaped (kind.Store op) words = base_shaped words (λ rs2 rs1. form.Store op rs1 rs2) (λ a b p q o. wide (form.Store op b a) o (q, p) refl)
item_shaped (kind.Imm op) words = two_shaped words (λ rd rs1. form.Imm op rd rs1) number_operand (λ a b p q o. wide (form.Imm op a b) o (p, q) refl)
item_shaped (kind.Reg op) words = three_shaped words (λ rd rs1 rs2. form.Reg op rd rs1 rs2) (λ a b c p q r o. wide (form.Reg op a b c) o (p, q, r) refl)
item_shaped kind.Fence words = just_shaped words form.Fence number_operand (λ o. wide form.Fence o tt refl)
item_shaped kind.Ecall words = alone_shaped words form.Ecall tt
item_shaped kind.Ebreak words = alone_shaped words form.Ebreak tt
item_shaped kind.Word words = just_shaped words form.Word number_operand (λ o. wide form.Word o tt refl)
item_shaped kind.Entry words = just_shaped words form.Entry target_of (λ o. (tt, λ named. inr tt))
item_shaped kind.Data words = choice_each IsShaped _ _ None (map_each IsShaped (bytes_of words) _ (λ bytes. nothing_shaped (form.Data bytes) tt)) tt

words_shaped : (words : List (List ℕ)) → Each IsShaped (item_of words)
unfolding item_of
words_shaped [] = nothing_shaped form.Nothing tt
words_shaped (name ∷ words) = then_each IsShaped (kind_of name) _ (λ k. item_shaped k words)

labelled_each : (label : Option Word) (words : List Word) (o : Option Item) → Each IsShaped o
    → Each (λ (s : Statement). IsShaped s.item) (option_map (λ (i : Item). record { label = label; item = i; operand = unwrap_or (slice_get words (operand_index i.form)) no_word }) o)
labelled_each label words None h = tt
labelled_each label words (Some i) h = h

with_shaped : (label : Option Word) (words : List Word) → Each (λ (s : Statement). IsShaped s.item) (statement_with label words)
with_shaped label words = labelled_each label words (item_of (texts words)) (words_shaped (texts words))

labelled_shaped : (words : List Word) → Each (λ (s : Statement). IsShaped s.item) (labelled words)
labelled_shaped [] = tt
labelled_shaped (w ∷ []) = tt
labelled_shaped (w ∷ colon ∷ words) = choice_each (λ (s : Statement). IsShaped s.item) (is_name w.text) (statement_with (Some w) words) None (with_shaped (Some w) words) tt

statement_shaped : (words : List Word) → Each (λ (s : Statement). IsShaped s.item) (statement_of words)
unfolding statement_of
statement_shaped words = choice_each (λ (s : Statement). IsShaped s.item) (has_label words) (labelled words) (statement_with None words) (labelled_shaped words) (with_shaped None words)

shape : (words : List Word) (s : Statement) → statement_of words ≡ Some s → IsShaped s.item
shape words s e = subst (λ (o : Option Statement). Each (λ (t : Statement). IsShaped t.item) o) e (statement_shaped words)

pub named_shape : (words : List Word) (s : Statement) → statement_of words ≡ Some s → s.item.operand ≡ Named → (width_of s.item.form ≡ 4) ⊎ IsEntry s.item.form
named_shape words s e = (shape words s e).1

pub registers_fit : (words : List Word) (s : Statement) → statement_of words ≡ Some s → RegistersFit s.item.form
registers_fit words s e = (shape words s e).0
