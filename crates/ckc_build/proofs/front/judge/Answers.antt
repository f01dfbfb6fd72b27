use Rattle.ckc_blame.specs.Blamed.{IsBlamed, IsNeverStuck}
use Rattle.ckc_blame.specs.Checked.{WhollyChecked}
use Rattle.ckc_build_wellformed.specs.ckc_blame_steps.specs.Unchecked.{AreStoresBlamed}
use Rattle.ckc_build_elaborate.specs.Elaborated.{elaborated}
use Rattle.ckc_build.proofs.Blame.{if_judged}
use Rattle.ckc_build.proofs.front.judge.Goals as goal

pub returns-clause-blamed : goal.returns-clause-blamed
returns-clause-blamed c =
    if_judged (λ p. IsBlamed (elaborated p)) c.args.text.now c.judged.result (c.unchecked_code_is_to_blame.ensures.judged c.args.text.now) c.judged.ensures.exact

pub returns-clause-checked : goal.returns-clause-checked
returns-clause-checked c =
    if_judged (λ p. WhollyChecked p → IsNeverStuck (elaborated p)) c.args.text.now c.judged.result (c.unchecked_code_is_to_blame.ensures.checked c.args.text.now)
    c.judged.ensures.exact

pub returns-clause-stores : goal.returns-clause-stores
returns-clause-stores c =
    if_judged (λ p. AreStoresBlamed (elaborated p)) c.args.text.now c.judged.result (c.unchecked_stores_are_to_blame.ensures.judged c.args.text.now) c.judged.ensures.exact
