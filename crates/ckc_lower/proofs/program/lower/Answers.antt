use Rattle.std.proofs.Common.{ℕ, ◌≤◌, List, sym, subst}
use Rattle.ckc_base.specs.Follows.{Follows}
use Rattle.ckc_core.specs.Code.{program_of}
use Rattle.ckc_core.specs.Loops.{idle_loops}
use Rattle.ckc_core.specs.Meaning.{core_detail}
use Rattle.ckc_core.specs.Sizes.{program_size as core_size}
use Rattle.ckc_tac.specs.declared.code.Tac.{Tac}
use Rattle.ckc_tac.specs.Meaning.{tac_detail}
use Rattle.ckc_tac.specs.Sizes.{program_size as tac_size}
use Rattle.ckc_tac.specs.WellFormed.{IsWellFormed as IsWellFormedTac, HasFewRegisters}
use Rattle.ckc_lower.specs.Idle.{idle_blocks}
use Rattle.ckc_lower.proofs.Follows.{lowered_follows}
use Rattle.ckc_lower.proofs.Formed.{lowered_formed}
use Rattle.ckc_lower.proofs.Idle.{lowered_idle}
use Rattle.ckc_lower.proofs.Registers.{lowered_few}
use Rattle.ckc_lower.proofs.Sized.{lowered_size}
use Rattle.ckc_lower.proofs.program.lower.Goals as goal

pub returns-clause-follows : goal.returns-clause-follows
returns-clause-follows c =
    let p = program_of c.args.c.now in
    let P : Tac → Type 0 = λ t. (input : List ℕ) → Follows (core_detail p input) (tac_detail t input) 4 in
    subst P (sym c.in_ok-t.ensures) (lowered_follows p c.requires.well_formed)

pub returns-clause-formed : goal.returns-clause-formed
returns-clause-formed c = subst IsWellFormedTac (sym c.in_ok-t.ensures) (lowered_formed (program_of c.args.c.now) c.requires.well_formed)

pub returns-clause-few_registers : goal.returns-clause-few_registers
returns-clause-few_registers c = subst HasFewRegisters (sym c.in_ok-t.ensures) (lowered_few (program_of c.args.c.now) c.requires.limits)

pub returns-clause-size : goal.returns-clause-size
returns-clause-size c =
    let p = program_of c.args.c.now in
    let P : Tac → Type 0 = λ t. tac_size t ≤ core_size p in
    subst P (sym c.in_ok-t.ensures) (lowered_size p)

pub returns-clause-jumps : goal.returns-clause-jumps
returns-clause-jumps c =
    let p = program_of c.args.c.now in
    let P : Tac → Type 0 = λ t. idle_blocks t ≤ idle_loops p in
    subst P (sym c.in_ok-t.ensures) (lowered_idle p)
