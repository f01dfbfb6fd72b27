use Rattle.std.proofs.Common.{◌-◌, List, ℕ, codes, refl, subst}
use Rattle.ckc_cli_sample.specs.Sample.{call_line}
use Rattle.ckc_cli_sample.proofs.Growing.{Grows, grows_none, no_call, one_call}
use Rattle.ckc_cli_sample.proofs.text.put_call.Goals as goal

pub returns-then-j-eq0 : goal.returns-then-j-eq0
returns-then-j-eq0 c =
    let old : List ℕ = c.args.text.now.items in
    subst (λ (l : List (List ℕ)). Grows old old l) (no_call c.args.j c.if-j-eq0.true) (grows_none old old refl)

pub returns : goal.returns
returns c =
    subst (λ (l : List (List ℕ)). Grows c.args.text.now.items c.put_line.new.text.items l) (one_call c.args.j c.if-j-eq0.false)
    (c.in_ok-put_line.ensures (call_line (c.args.j - 1) (codes "n")) c.call_line.ensures)
