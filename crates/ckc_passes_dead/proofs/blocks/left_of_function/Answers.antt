use Rattle.std.proofs.Common.{List, refl, sym, subst}
use Rattle.std.specs.List.{AllZip}
use Rattle.ckc_tac.specs.declared.code.TacBlock.{TacBlock}
use Rattle.ckc_passes.specs.Passes.{BlockBecomes}
use Rattle.ckc_passes_dead.specs.Dead.{dead_pass}
use Rattle.ckc_passes_dead.proofs.blocks.left_of_function.Goals as goal

pub returns : goal.returns
returns c = λ functions over.
    let f = c.args.f.now in
    record {
      params = refl;
      regs = refl;
      blocks = subst (λ (l : List TacBlock). AllZip (BlockBecomes dead_pass f.blocks) f.blocks l) (sym c.from_vec.ensures)
          (c.in_ok-left.ensures functions over);
    }
