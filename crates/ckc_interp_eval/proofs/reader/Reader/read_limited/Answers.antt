use Rattle.std.proofs.Common.{ℤ, ◌∙◌, ap, rules, to_z-of_z, SFits, to_z, of_z}
use mir.Syntax.{w128}
use Rattle.ckc_source.specs.Eval.{reads, end_address}
use Rattle.ckc_interp_blocks.specs.Views.{blocks_of, shapes_of}
use Rattle.ckc_interp_eval.proofs.reader.Reader.read_limited.Goals as goal

pub returns : goal.returns
returns c =
    let f : SFits w128 c.end_address-low.result = search rules in
    let g : SFits w128 c.end_address-high.result = search rules in
    let shapes = shapes_of c.args.self.now.blocks.now in
    let blocks = blocks_of c.args.self.now.blocks.now in
    let to = c.args.limits.now.to in
    let low = end_address c.args.self.now.locals.now to.size c.args.n c.args.limits.now.lower in
    c.read.ensures
    ∙ ap (λ (z : ℤ). reads shapes blocks to c.args.n z (to_z w128 (of_z w128 c.end_address-high.result))) (to_z-of_z f ∙ c.end_address-low.ensures)
    ∙ ap (λ (z : ℤ). reads shapes blocks to c.args.n low z) (to_z-of_z g ∙ c.end_address-high.ensures)
