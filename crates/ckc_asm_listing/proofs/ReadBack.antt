-- Each line of a listing reads as what it was written for.
use Rattle.std.proofs.Common.{◌≡◌, ℕ, ◌^◌, ◌<◌, ◌≤◌, ℤ, pos, negsuc, true, false, List, [], ◌∷◌, length, map, codes, Some, refl, ◌∙◌, arith}
use Rattle.std.specs.List.{flat_map, list_all, AllByRecursion}
use Rattle.std.proofs.lemmas.List.{length-map}
use Rattle.std.specs.Fmt.{decimal, signed_decimal}
use Rattle.std.proofs.lemmas.Int.{ints}
use Rattle.ckc_rv_operations.specs.declared.operations.BranchOp.{BranchOp}
use Rattle.ckc_rv_operations.specs.declared.operations.LoadOp.{LoadOp}
use Rattle.ckc_rv_operations.specs.declared.operations.StoreOp.{StoreOp}
use Rattle.ckc_rv_operations.specs.declared.operations.ImmOp.{ImmOp}
use Rattle.ckc_rv_operations.specs.declared.operations.ImmOp.TheVariants.{Addi, Slti, Sltiu, Xori, Ori, Andi, Slli, Srli, Srai}
use Rattle.ckc_rv_operations.specs.declared.operations.RegOp.{RegOp}
use Rattle.ckc_rv.specs.declared.instructions.Instr.{Instr}
use Rattle.ckc_rv.specs.declared.instructions.Instr.TheVariants as instr
use Rattle.ckc_rv.specs.Table.{Decodes, IsSigned, IsImmediate}
use Rattle.ckc_asm.specs.declared.items.Kind.{Kind}
use Rattle.ckc_asm.specs.declared.items.Kind.TheVariants as kind
use Rattle.ckc_asm.specs.declared.items.Form.{Form}
use Rattle.ckc_asm.specs.declared.items.Form.TheVariants as form
use Rattle.ckc_asm.specs.declared.items.Operand.{Operand}
use Rattle.ckc_asm.specs.declared.items.Operand.TheVariants.{Nothing, Number, Named}
use Rattle.ckc_image.specs.declared.format.Format.{Format}
use Rattle.ckc_image.specs.declared.format.Format.TheVariants.{First, Elf}
use Rattle.ckc_asm.specs.Cut.{cut, goes_on}
use Rattle.ckc_asm.specs.Names.{branch_name, load_name, store_name, imm_name, reg_name, register, hex, hexadecimal}
use Rattle.ckc_asm_listing.specs.Listing.{two, from_register, named, instr_text, data_text, entry_text, format_text}
use Rattle.ckc_asm.specs.code.Numerals.{number_of}
use Rattle.ckc_asm.specs.Spelled.{is_name}
use Rattle.ckc_asm.specs.Items.{item}
use Rattle.ckc_asm.specs.code.Found.{item_of, item_with, kind_of, bytes_of}
use Rattle.ckc_asm.specs.Program.{width_of, IsWordOf, data_bytes, IsEntry}
use Rattle.ckc_asm.proofs.Words.{IsRun, Shows, Reads, is_plain, second_is_colon, no_colon_run, reads_item, shows_end, shows_blank, shows_run, shows_last, shows_two, shows_named, shows_three, shows_base}
use Rattle.ckc_asm.proofs.KindNames.{branch_kind, load_kind, store_kind, imm_kind, reg_kind}
use Rattle.ckc_asm.proofs.Numbers.{most, middle_false, decimal_no_name, register_run, register_back, signed_run, signed_back, decimal_run, decimal_back, hexadecimal_run, upper_back, word_back, byte_run, byte_back}

-- a number that a listing writes
abbrev pub IsPlainValue : Operand → ℤ → Type 0
IsPlainValue Nothing z = z ≡ pos 0
IsPlainValue (Number n) z = z ≡ n
IsPlainValue Named z = ⊥

-- the line reads as a statement of the word
pub record LineOf (line : List ℕ) (word : ℕ) : Type 0 where
  pub f : Form
  pub operand : Operand
  pub reads : Reads line f operand
  pub wide : width_of f ≡ 4
  pub z : ℤ
  pub value : IsPlainValue operand z
  pub is : IsWordOf f z word
  pub no_data : data_bytes f ≡ []
  pub no_entry : IsEntry f → ⊥

abbrev comma : List ℕ
comma = 44 ∷ []

-- ---- items by their words

item_of_kind : (name : List ℕ) (words : List (List ℕ)) (k : Kind) → kind_of name ≡ Some k → item_of (name ∷ words) ≡ item_with k words
unfolding item_of
item_of_kind name words k e = rw e refl

reg_item : (op : RegOp) (a b c : ℕ) → a < 32 → b < 32 → c < 32
    → item_with (kind.Reg op) (register a ∷ comma ∷ register b ∷ comma ∷ register c ∷ []) ≡ Some (item (form.Reg op a b c) Nothing)
unfolding item_with
reg_item op a b c ha hb hc = rw (register_back a ha, register_back b hb, register_back c hc) refl

imm_item : (op : ImmOp) (a b : ℕ) (w : List ℕ) (z : ℤ) → a < 32 → b < 32 → number_of w ≡ Some z
    → item_with (kind.Imm op) (register a ∷ comma ∷ register b ∷ comma ∷ w ∷ []) ≡ Some (item (form.Imm op a b) (Number z))
unfolding item_with
imm_item op a b w z ha hb hz = rw (register_back a ha, register_back b hb, hz) refl

-- a number is no name
no_name : (z : ℤ) → IsSigned (2 ^ 30) z → is_name (signed_decimal z) ≡ false
no_name (pos n) h = decimal_no_name n (omega (arith, ints))
no_name (negsuc n) h = middle_false _ _

branch_item : (op : BranchOp) (a b : ℕ) (z : ℤ) → a < 32 → b < 32 → IsSigned (2 ^ 30) z
    → item_with (kind.Branch op) (register a ∷ comma ∷ register b ∷ comma ∷ signed_decimal z ∷ []) ≡ Some (item (form.Branch op a b) (Number z))
unfolding item_with
branch_item op a b z ha hb hz = rw (register_back a ha, register_back b hb, no_name z hz, signed_back z hz) refl

jal_item : (a : ℕ) (z : ℤ) → a < 32 → IsSigned (2 ^ 30) z
    → item_with kind.Jal (register a ∷ comma ∷ signed_decimal z ∷ []) ≡ Some (item (form.Jal a) (Number z))
unfolding item_with
jal_item a z ha hz = rw (register_back a ha, no_name z hz, signed_back z hz) refl

lui_item : (a n : ℕ) → a < 32 → n < 2 ^ 20
    → item_with kind.Lui (register a ∷ comma ∷ hexadecimal 5 n ∷ []) ≡ Some (item (form.Lui a) (Number (pos n)))
unfolding item_with
lui_item a n ha hn = rw (register_back a ha, upper_back n hn) refl

auipc_item : (a n : ℕ) → a < 32 → n < 2 ^ 20
    → item_with kind.Auipc (register a ∷ comma ∷ hexadecimal 5 n ∷ []) ≡ Some (item (form.Auipc a) (Number (pos n)))
unfolding item_with
auipc_item a n ha hn = rw (register_back a ha, upper_back n hn) refl

abbrev opened : List ℕ
opened = 40 ∷ []

abbrev closed : List ℕ
closed = 41 ∷ []

jalr_item : (a b : ℕ) (z : ℤ) → a < 32 → b < 32 → IsSigned (2 ^ 30) z
    → item_with kind.Jalr (register a ∷ comma ∷ signed_decimal z ∷ opened ∷ register b ∷ closed ∷ []) ≡ Some (item (form.Jalr a b) (Number z))
unfolding item_with
jalr_item a b z ha hb hz = rw (register_back a ha, signed_back z hz, register_back b hb) refl

load_item : (op : LoadOp) (a b : ℕ) (z : ℤ) → a < 32 → b < 32 → IsSigned (2 ^ 30) z
    → item_with (kind.Load op) (register a ∷ comma ∷ signed_decimal z ∷ opened ∷ register b ∷ closed ∷ []) ≡ Some (item (form.Load op a b) (Number z))
unfolding item_with
load_item op a b z ha hb hz = rw (register_back a ha, signed_back z hz, register_back b hb) refl

store_item : (op : StoreOp) (a b : ℕ) (z : ℤ) → a < 32 → b < 32 → IsSigned (2 ^ 30) z
    → item_with (kind.Store op) (register a ∷ comma ∷ signed_decimal z ∷ opened ∷ register b ∷ closed ∷ []) ≡ Some (item (form.Store op b a) (Number z))
unfolding item_with
store_item op a b z ha hb hz = rw (register_back a ha, signed_back z hz, register_back b hb) refl

fence_item : (n : ℕ) → n < 2 ^ 8 → item_with kind.Fence (decimal n ∷ []) ≡ Some (item form.Fence (Number (pos n)))
unfolding item_with
fence_item n h = rw (decimal_back n (omega arith)) refl

word_item : (n : ℕ) → n < 2 ^ 32 → item_with kind.Word (hexadecimal 8 n ∷ []) ≡ Some (item form.Word (Number (pos n)))
unfolding item_with
word_item n h = rw (word_back n h) refl

entry_item : (n : ℕ) → n < 2 ^ 32 → item_with kind.Entry (hexadecimal 8 n ∷ []) ≡ Some (item form.Entry (Number (pos n)))
unfolding item_with hex
entry_item n h = rw (word_back n h) refl

bytes_back : (bytes : List ℕ) → AllByRecursion (λ b. b < 2 ^ 8) bytes → bytes_of (map (λ b. hex 2 b) bytes) ≡ Some bytes
bytes_back [] h = refl
bytes_back (b ∷ bytes) h = rw (byte_back b h.0, bytes_back bytes h.1) refl

-- ---- lines

signed_of : (z : ℤ) (half : ℕ) → half ≤ 2 ^ 30 → IsSigned half z → IsSigned (2 ^ 30) z
signed_of z half small h = (omega (arith, ints), omega (arith, ints))

imm_signed : (op : ImmOp) (z : ℤ) → IsImmediate op z → IsSigned (2 ^ 30) z
imm_signed Addi z h = (omega (arith, ints), omega (arith, ints))
imm_signed Slti z h = (omega (arith, ints), omega (arith, ints))
imm_signed Sltiu z h = (omega (arith, ints), omega (arith, ints))
imm_signed Xori z h = (omega (arith, ints), omega (arith, ints))
imm_signed Ori z h = (omega (arith, ints), omega (arith, ints))
imm_signed Andi z h = (omega (arith, ints), omega (arith, ints))
imm_signed Slli z h = (omega (arith, ints), omega (arith, ints))
imm_signed Srli z h = (omega (arith, ints), omega (arith, ints))
imm_signed Srai z h = (omega (arith, ints), omega (arith, ints))

ecall_item : item_with kind.Ecall [] ≡ Some (item form.Ecall Nothing)
unfolding item_with
ecall_item = refl

ebreak_item : item_with kind.Ebreak [] ≡ Some (item form.Ebreak Nothing)
unfolding item_with
ebreak_item = refl

data_item : (bytes : List ℕ) → 1 ≤ length bytes → length bytes ≤ 16 → AllByRecursion (λ b. b < 2 ^ 8) bytes
    → item_with kind.Data (map (λ b. hex 2 b) bytes) ≡ Some (item (form.Data bytes) Nothing)
unfolding item_with
data_item bytes low high small =
    let size : length (map (λ b. hex 2 b) bytes) ≡ length bytes = length-map bytes (λ b. hex 2 b) in
    rw (size, most 1 (length bytes) low, most (length bytes) 16 high, bytes_back bytes small) refl

no_colon : (bytes : List ℕ) → second_is_colon (codes ".data" ∷ map (λ b. hex 2 b) bytes) ≡ false
no_colon [] = refl
no_colon (b ∷ bytes) = no_colon_run (hex 2 b) (byte_run b)

-- a line of one item
line_of : (line name : List ℕ) (words : List (List ℕ)) (k : Kind) (f : Form) (operand : Operand) (z : ℤ) (word : ℕ) → Shows line (name ∷ words)
    → second_is_colon (name ∷ words) ≡ false → kind_of name ≡ Some k → item_with k words ≡ Some (item f operand) → width_of f ≡ 4 → IsPlainValue operand z
    → IsWordOf f z word → data_bytes f ≡ [] → (IsEntry f → ⊥) → LineOf line word
line_of line name words k f operand z word shows plain named is wide value means no_data no_entry = record {
  f = f;
  operand = operand;
  reads = reads_item line (name ∷ words) f operand shows plain (item_of_kind name words k named ∙ is);
  wide = wide;
  z = z;
  value = value;
  is = means;
  no_data = no_data;
  no_entry = no_entry;
}

plain_run : (w : List ℕ) → 0 < length w → list_all is_plain w ≡ true → IsRun w
plain_run w some plain = record { some = some; plain = plain }

based_line : (name : List ℕ) (a b : ℕ) (z : ℤ) → IsRun name → a < 32 → b < 32 → IsSigned (2 ^ 30) z
    → Shows (named name (two (register a) (from_register z b))) (name ∷ register a ∷ comma ∷ signed_decimal z ∷ opened ∷ register b ∷ closed ∷ [])
based_line name a b z run ha hb hz = shows_named _ _ _ run (shows_two _ _ _ (register_run a ha) (shows_base _ _ (signed_run z hz) (register_run b hb)))

pub instr_line : (i : Instr) (word : ℕ) → Decodes word i → LineOf (instr_text i) word
unfolding kind_of
instr_line (instr.Lui rd n) word d =
    line_of _ (codes "lui") _ kind.Lui (form.Lui rd) (Number (pos n)) (pos n) word
    (shows_named _ _ _ (plain_run _ (omega arith) refl) (shows_two _ _ _ (register_run rd d.0.0) (shows_last _ (hexadecimal_run 5 n (omega arith)))))
    refl refl (lui_item rd n d.0.0 d.0.1) refl refl (n, refl, d) refl (λ e. e)
instr_line (instr.Auipc rd n) word d =
    line_of _ (codes "auipc") _ kind.Auipc (form.Auipc rd) (Number (pos n)) (pos n) word
    (shows_named _ _ _ (plain_run _ (omega arith) refl) (shows_two _ _ _ (register_run rd d.0.0) (shows_last _ (hexadecimal_run 5 n (omega arith)))))
    refl refl (auipc_item rd n d.0.0 d.0.1) refl refl (n, refl, d) refl (λ e. e)
instr_line (instr.Jal rd z) word d =
    let hz = signed_of z (2 ^ 20) (omega arith) d.0.1.0 in
    line_of _ (codes "jal") _ kind.Jal (form.Jal rd) (Number z) z word
    (shows_named _ _ _ (plain_run _ (omega arith) refl) (shows_two _ _ _ (register_run rd d.0.0) (shows_last _ (signed_run z hz))))
    refl refl (jal_item rd z d.0.0 hz) refl refl d refl (λ e. e)
instr_line (instr.Jalr rd rs1 z) word d =
    let hz = signed_of z (2 ^ 11) (omega arith) d.0.2 in
    line_of _ (codes "jalr") _ kind.Jalr (form.Jalr rd rs1) (Number z) z word
    (based_line _ rd rs1 z (plain_run _ (omega arith) refl) d.0.0 d.0.1 hz)
    refl refl (jalr_item rd rs1 z d.0.0 d.0.1 hz) refl refl d refl (λ e. e)
instr_line (instr.Branch op rs1 rs2 z) word d =
    let hz = signed_of z (2 ^ 12) (omega arith) d.0.2.0 in
    let k = branch_kind op in
    line_of _ (branch_name op) _ (kind.Branch op) (form.Branch op rs1 rs2) (Number z) z word
    (shows_named _ _ _ k.1 (shows_three _ _ _ _ (register_run rs1 d.0.0) (register_run rs2 d.0.1) (shows_last _ (signed_run z hz))))
    refl k.0 (branch_item op rs1 rs2 z d.0.0 d.0.1 hz) refl refl d refl (λ e. e)
instr_line (instr.Load op rd rs1 z) word d =
    let hz = signed_of z (2 ^ 11) (omega arith) d.0.2 in
    let k = load_kind op in
    line_of _ (load_name op) _ (kind.Load op) (form.Load op rd rs1) (Number z) z word
    (based_line _ rd rs1 z k.1 d.0.0 d.0.1 hz)
    refl k.0 (load_item op rd rs1 z d.0.0 d.0.1 hz) refl refl d refl (λ e. e)
instr_line (instr.Store op rs1 rs2 z) word d =
    let hz = signed_of z (2 ^ 11) (omega arith) d.0.2 in
    let k = store_kind op in
    line_of _ (store_name op) _ (kind.Store op) (form.Store op rs1 rs2) (Number z) z word
    (based_line _ rs2 rs1 z k.1 d.0.1 d.0.0 hz)
    refl k.0 (store_item op rs2 rs1 z d.0.1 d.0.0 hz) refl refl d refl (λ e. e)
instr_line (instr.Imm op rd rs1 z) word d =
    let hz = imm_signed op z d.0.2 in
    let k = imm_kind op in
    line_of _ (imm_name op) _ (kind.Imm op) (form.Imm op rd rs1) (Number z) z word
    (shows_named _ _ _ k.1 (shows_three _ _ _ _ (register_run rd d.0.0) (register_run rs1 d.0.1) (shows_last _ (signed_run z hz))))
    refl k.0 (imm_item op rd rs1 (signed_decimal z) z d.0.0 d.0.1 (signed_back z hz)) refl refl d refl (λ e. e)
instr_line (instr.Reg op rd rs1 rs2) word d =
    let k = reg_kind op in
    line_of _ (reg_name op) _ (kind.Reg op) (form.Reg op rd rs1 rs2) Nothing (pos 0) word
    (shows_named _ _ _ k.1 (shows_three _ _ _ _ (register_run rd d.0.0) (register_run rs1 d.0.1) (shows_last _ (register_run rs2 d.0.2))))
    refl k.0 (reg_item op rd rs1 rs2 d.0.0 d.0.1 d.0.2) refl refl d refl (λ e. e)
instr_line (instr.Fence n) word d =
    line_of _ (codes "fence") _ kind.Fence form.Fence (Number (pos n)) (pos n) word
    (shows_named _ _ _ (plain_run _ (omega arith) refl) (shows_last _ (decimal_run n (omega (arith, d.0)))))
    (no_colon_run (decimal n) (decimal_run n (omega (arith, d.0)))) refl (fence_item n d.0) refl refl (n, refl, d) refl (λ e. e)
instr_line instr.Ecall word d =
    line_of _ (codes "ecall") [] kind.Ecall form.Ecall Nothing (pos 0) word
    (shows_last _ (plain_run _ (omega arith) refl)) refl refl ecall_item refl refl d refl (λ e. e)
instr_line instr.Ebreak word d =
    line_of _ (codes "ebreak") [] kind.Ebreak form.Ebreak Nothing (pos 0) word
    (shows_last _ (plain_run _ (omega arith) refl)) refl refl ebreak_item refl refl d refl (λ e. e)

pub word_line : (word : ℕ) → word < 2 ^ 32 → LineOf (named (codes ".word") (hexadecimal 8 word)) word
unfolding kind_of
word_line word h =
    line_of _ (codes ".word") _ kind.Word form.Word (Number (pos word)) (pos word) word
    (shows_named _ _ _ (plain_run _ (omega arith) refl) (shows_last _ (hexadecimal_run 8 word (omega arith))))
    refl refl (word_item word h) refl refl (refl, h) refl (λ e. e)

pub entry_reads : (entry : ℕ) → entry < 2 ^ 32 → Reads (entry_text entry) form.Entry (Number (pos entry))
unfolding kind_of
entry_reads entry h =
    reads_item _ (codes ".entry" ∷ hexadecimal 8 entry ∷ []) form.Entry (Number (pos entry))
    (shows_named _ _ _ (plain_run _ (omega arith) refl) (shows_last _ (hexadecimal_run 8 entry (omega arith))))
    refl (item_of_kind (codes ".entry") _ kind.Entry refl ∙ entry_item entry h)

shows_bytes : (bytes : List ℕ) → Shows (flat_map (λ b. 32 ∷ hex 2 b) bytes) (map (λ b. hex 2 b) bytes) × (goes_on (flat_map (λ b. 32 ∷ hex 2 b) bytes) ≡ false)
shows_bytes [] = (shows_end, refl)
shows_bytes (b ∷ bytes) =
    let more = shows_bytes bytes in
    (shows_blank _ _ (shows_run (hex 2 b) (flat_map (λ b. 32 ∷ hex 2 b) bytes) _ (byte_run b) more.1 more.0), refl)

pub data_reads : (bytes : List ℕ) → 1 ≤ length bytes → length bytes ≤ 16 → AllByRecursion (λ b. b < 2 ^ 8) bytes → Reads (data_text bytes) (form.Data bytes) Nothing
unfolding kind_of
data_reads bytes low high small =
    reads_item _ (codes ".data" ∷ map (λ b. hex 2 b) bytes) (form.Data bytes) Nothing
    (shows_run (codes ".data") _ _ (plain_run _ (omega arith) refl) (shows_bytes bytes).1 (shows_bytes bytes).0)
    (no_colon bytes) (item_of_kind (codes ".data") _ kind.Data refl ∙ data_item bytes low high small)

-- the line of a format is a comment
pub format_reads : (format : Format) → Reads (format_text format) form.Nothing Nothing
unfolding cut item_of
format_reads First = reads_item (codes "# version 1") [] form.Nothing Nothing (record { clean = refl; cuts = λ col. refl }) refl refl
format_reads Elf = reads_item (codes "# elf32") [] form.Nothing Nothing (record { clean = refl; cuts = λ col. refl }) refl refl

pub empty_reads : Reads [] form.Nothing Nothing
unfolding item_of
empty_reads = reads_item [] [] form.Nothing Nothing shows_end refl refl
