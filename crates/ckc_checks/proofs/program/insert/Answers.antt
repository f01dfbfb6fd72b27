use Rattle.std.proofs.Common.{◌≡◌, ◌*◌, ◌≤◌, length, sym, subst}
use Rattle.ckc_core.specs.Code as core
use Rattle.ckc_core.specs.Limits.{IsWithinLimits}
use Rattle.ckc_core.specs.Loops.{idle_loops}
use Rattle.ckc_core.specs.Sizes.{program_size}
use Rattle.ckc_core.specs.WellFormed.{IsWellFormed}
use Rattle.ckc_source.specs.Code.{program_of}
use Rattle.ckc_checks_operands.specs.Compilable.{program_nodes}
use Rattle.ckc_checks_operands.specs.Weights.{program_weight}
use Rattle.ckc_checks_follow.specs.Followed.{IsFollowedByCore}
use Rattle.ckc_checks_follow.specs.Stores.{ListsStores}
use Rattle.ckc_checks_follow.proofs.Follows.{core_follows, core_listed}
use Rattle.ckc_checks.proofs.Busy.{inserted_busy}
use Rattle.ckc_checks.proofs.Formed.{inserted_formed}
use Rattle.ckc_checks.proofs.Image.{first_bytes_length}
use Rattle.ckc_checks.proofs.Small.{inserted_small}
use Rattle.ckc_checks.proofs.SizedCode.{inserted_weighed}
use Rattle.ckc_checks.proofs.Weighed.{inserted_sized}
use Rattle.ckc_checks.proofs.program.insert.Goals as goal

pub returns-clause-formed : goal.returns-clause-formed
returns-clause-formed c = subst IsWellFormed (sym c.in_ok-c.ensures) (inserted_formed (program_of c.args.p.now) c.requires.form)

pub returns-clause-limits : goal.returns-clause-limits
returns-clause-limits c = subst IsWithinLimits (sym c.in_ok-c.ensures) (inserted_small (program_of c.args.p.now) c.requires.form)

pub returns-clause-initial : goal.returns-clause-initial
returns-clause-initial c =
    let P : core.Program → Type 0 = λ q. length q.initial ≤ 4194304 in
    subst P (sym c.in_ok-c.ensures) (first_bytes_length (program_of c.args.p.now) c.requires.form c.requires.laid)

pub returns-clause-size : goal.returns-clause-size
returns-clause-size c =
    let p = program_of c.args.p.now in
    let P : core.Program → Type 0 = λ q. program_size q ≤ 64 * program_nodes p in
    subst P (sym c.in_ok-c.ensures) (inserted_sized p)

pub returns-clause-weight : goal.returns-clause-weight
returns-clause-weight c =
    let p = program_of c.args.p.now in
    let P : core.Program → Type 0 = λ q. program_size q ≤ program_weight p in
    subst P (sym c.in_ok-c.ensures) (inserted_weighed p)

pub returns-clause-loops : goal.returns-clause-loops
returns-clause-loops c =
    let P : core.Program → Type 0 = λ q. idle_loops q ≡ 0 in
    subst P (sym c.in_ok-c.ensures) (inserted_busy (program_of c.args.p.now))

pub returns-clause-follows : goal.returns-clause-follows
returns-clause-follows c =
    let p = program_of c.args.p.now in
    let P : core.Program → Type 0 = λ q. IsFollowedByCore p q in
    subst P (sym c.in_ok-c.ensures) (λ input bytes. core_follows p c.requires.form c.requires.laid input bytes)

pub returns-clause-stores : goal.returns-clause-stores
returns-clause-stores c =
    let p = program_of c.args.p.now in
    let P : core.Program → Type 0 = λ q. ListsStores p q in
    subst P (sym c.in_ok-c.ensures) (λ input bytes safe k. core_listed p c.requires.form c.requires.laid input bytes safe k)
