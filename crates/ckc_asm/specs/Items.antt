-- What the lines of assembly are read as: items by kinds, and statements.
use Rattle.std.specs.Prelude.{ℕ, List, [], codes, map, Option}
use Rattle.ckc_asm.specs.declared.items.Kind.{Kind}
use Rattle.ckc_asm.specs.declared.items.Kind.TheVariants as kind
use Rattle.ckc_asm.specs.declared.items.Form.{Form}
use Rattle.ckc_asm.specs.declared.items.Form.TheVariants as form
use Rattle.ckc_asm.specs.declared.items.Operand.{Operand}
use Rattle.ckc_asm.specs.declared.items.Item.{Item}
use Rattle.ckc_asm.specs.Cut.{Word}
use Rattle.ckc_asm.specs.Names.{branch_name, load_name, store_name, imm_name, reg_name}

-- the word with which an item of the kind begins: a mnemonic or a directive
abbrev pub kind_name : Kind → List ℕ
kind_name kind.Lui = codes "lui"
kind_name kind.Auipc = codes "auipc"
kind_name kind.Jal = codes "jal"
kind_name kind.Jalr = codes "jalr"
kind_name (kind.Branch op) = branch_name op
kind_name (kind.Load op) = load_name op
kind_name (kind.Store op) = store_name op
kind_name (kind.Imm op) = imm_name op
kind_name (kind.Reg op) = reg_name op
kind_name kind.Fence = codes "fence"
kind_name kind.Ecall = codes "ecall"
kind_name kind.Ebreak = codes "ebreak"
kind_name kind.Word = codes ".word"
kind_name kind.Entry = codes ".entry"
kind_name kind.Data = codes ".data"

-- an item of this form with this number or label
abbrev pub item : Form → Operand → Item
item f operand = record { form = f; operand = operand }

-- which of the words of an item its number or label is
abbrev pub operand_index : Form → ℕ
operand_index (form.Branch op rs1 rs2) = 5
operand_index (form.Imm op rd rs1) = 5
operand_index form.Fence = 1
operand_index form.Word = 1
operand_index form.Entry = 1
operand_index f = 3

-- a line: its label, its item, and the word of the number or label
pub record Statement : Type 0 where
  pub label : Option Word
  pub item : Item
  pub operand : Word

-- an empty word, if a statement has no number and names no label
abbrev pub no_word : Word
no_word = record { col = 0; text = [] }

-- how the words are spelled
abbrev pub texts : List Word → List (List ℕ)
texts words = map (λ w. w.text) words
