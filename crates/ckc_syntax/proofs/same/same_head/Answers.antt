use Rattle.std.proofs.Common.{◌≡◌, sym, subst}
use Rattle.std.specs.Bool.{Decides}
use Rattle.ckc_syntax.specs.Placeless.{placeless_head}
use Rattle.ckc_syntax.proofs.SameHeads.{head_tells}
use Rattle.ckc_syntax.proofs.same.same_head.Goals as goal

pub returns : goal.returns
returns c =
    let g = c.args.g.now in
    let h = c.args.h.now in
    let t = head_tells g h in
    subst (λ b. Decides b (placeless_head g ≡ placeless_head h)) (sym c.same_head_parts.ensures) (t.so, t.back)
