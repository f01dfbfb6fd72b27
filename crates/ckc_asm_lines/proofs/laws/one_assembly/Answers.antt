use Rattle.ckc_asm_lines.proofs.OneAssembly.{assembled_once}
use Rattle.ckc_asm_lines.proofs.laws.one_assembly.Goals as goal

pub returns : goal.returns
returns c = λ lines start e f g c d i j can p q. assembled_once lines start e f g c d i j can p q
