use Rattle.ckc_syntax_limits.specs.Depth.{depth_of_decl}
use Rattle.ckc_syntax_limits.proofs.Depths.{stopped, turned}
use Rattle.ckc_syntax_limits.proofs.depth.decls_within.Goals as goal

pub returns-then-not-decl_within : goal.returns-then-not-decl_within
returns-then-not-decl_within g c =
    stopped depth_of_decl c.args.decls.now c.loop-decl.decl-index c.decl-item.result c.args.left c.loop-decl-test.true c.decl-item.is c.loop-decl.invariant c.if-not-decl_within.ensures

pub loop-decl-preserved : goal.loop-decl-preserved
loop-decl-preserved g c =
    turned depth_of_decl c.args.decls.now c.loop-decl.decl-index c.decl-item.result c.args.left c.loop-decl-test.true c.decl-item.is c.loop-decl.invariant c.if-not-decl_within.ensures
