-- The three-address code of functions and programs. It mirrors what `lower` makes and need not be believed: the contract
-- of `lower` says how this code follows the program.
use Rattle.std.specs.Prelude.{ℕ, [], map, None, true}
use Rattle.ckc_core.specs.Code.{Function, Program}
use Rattle.ckc_tac.specs.declared.code.Tac.{Tac}
use Rattle.ckc_tac.specs.declared.code.TacFunc.{TacFunc}
use Rattle.ckc_lower.specs.declared.builder.Builder.{Builder}
use Rattle.ckc_lower.specs.code.Built.{built}

-- a builder over the locals, with nothing built
abbrev pub empty : ℕ → Builder
empty locals = record { blocks = []; ops = []; regs = locals }

abbrev pub whole : Function → Builder
whole f = built f.locals true f.body None None (empty f.locals)

abbrev pub lowered_function : Function → TacFunc
lowered_function f = record { params = f.params; regs = (whole f).regs; blocks = (whole f).blocks }

abbrev pub lowered : Program → Tac
lowered p = record { initial = p.initial; funcs = map lowered_function p.functions; main = p.main }
