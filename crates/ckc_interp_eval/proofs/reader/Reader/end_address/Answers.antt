use Rattle.std.proofs.Common.{ℕ, ℤ, ◌∙◌, ap, rules, to_z-of_z, SFits, w64, w32}
use mir.Syntax.{w128}
use Rattle.ckc_source.specs.Words.{elements_behind}
use Rattle.ckc_source.specs.Eval.{amount}
use Rattle.ckc_interp_eval.proofs.reader.Reader.end_address.Goals as goal

pub returns : goal.returns
returns c =
    let f : SFits w128 c.elements_behind.result = search rules in
    let g : SFits w64 c.amount.result = search rules in
    let h : SFits w32 c.args.e.add = search rules in
    let locals = c.args.self.now.locals.now in
    let x = c.args.e.variable in
    to_z-of_z f ∙ c.elements_behind.ensures
    ∙ ap (λ (z : ℤ). elements_behind c.base_address-base.result c.args.size z) (to_z-of_z g ∙ c.amount.ensures.value ∙ ap (λ (z : ℤ). amount locals x z) (to_z-of_z h))
    ∙ ap (λ (n : ℕ). elements_behind n c.args.size (amount locals x c.args.e.add)) c.base_address-base.ensures
