-- What becomes of a program if each register that is read becomes its origin.
use Rattle.std.specs.Prelude.{List, map}
use Rattle.ckc_tac.specs.declared.code.Tac.{Tac}
use Rattle.ckc_tac.specs.declared.code.TacOp.{TacOp}
use Rattle.ckc_tac.specs.declared.code.TacOp.TheVariants.{Const, Copy, Bin, High, Load, Store, Check, Call, Get, Put, Alloc}
use Rattle.ckc_tac.specs.declared.code.TacEnd.{TacEnd}
use Rattle.ckc_tac.specs.declared.code.TacEnd.TheVariants.{Jump, Branch, Return}
use Rattle.ckc_passes.specs.Rewrites.{Rewrite, program_by}
use Rattle.ckc_passes_copies.specs.Origins.{Writes, writes_after, origin, operand_origin}

-- Each register that an operation reads becomes its origin. A Copy and the arguments of a call read registers alone.
abbrev pub copied_op : Writes → TacOp → TacOp
copied_op w (Const t n) = Const t n
copied_op w (Copy t a) = Copy t (origin w a)
copied_op w (Bin op t a b) = Bin op t (operand_origin w a) (operand_origin w b)
copied_op w (High is_signed t a b) = High is_signed t (operand_origin w a) (operand_origin w b)
copied_op w (Load width t a n) = Load width t (operand_origin w a) n
copied_op w (Store width a n b) = Store width (operand_origin w a) n (operand_origin w b)
copied_op w (Check check at comparison a b) = Check check at comparison (operand_origin w a) (operand_origin w b)
copied_op w (Call target callee arguments at) = Call target callee (map (origin w) arguments) at
copied_op w (Get t) = Get t
copied_op w (Put a) = Put (operand_origin w a)
copied_op w (Alloc t a size) = Alloc t (operand_origin w a) size

-- and so does each that the end of a block reads
abbrev pub copied_end : Writes → TacEnd → TacEnd
copied_end w (Jump to) = Jump to
copied_end w (Branch comparison a b one two) = Branch comparison (operand_origin w a) (operand_origin w b) one two
copied_end w (Return a) = Return (operand_origin w a)

abbrev pub copies : Rewrite
copies = record {
  op = λ before op. copied_op (writes_after before) op;
  end = λ before end. copied_end (writes_after before) end;
}

abbrev pub copied : Tac → Tac
copied p = program_by copies p
