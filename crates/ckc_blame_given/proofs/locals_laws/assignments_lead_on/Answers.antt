use Rattle.std.proofs.Common.{sym, subst}
use Rattle.ckc_source.specs.Steps.{store_of}
use Rattle.ckc_blame_sound.specs.Limited.{store_with}
use Rattle.ckc_blame_given.proofs.Apart.{AreApart, ones_apart}
use Rattle.ckc_blame_given.proofs.Written.{written_locals}
use Rattle.ckc_blame_given.proofs.Points.{point_after, all_planned}
use Rattle.ckc_blame_given.proofs.locals_laws.assignments_lead_on.Goals as goal

pub returns : goal.returns
returns c = λ s shapes blocks between after v entry here there ss fresh ps ws ends holds are known placed one is fit planned stored seen written stay write.
    point_after s (store_with shapes blocks between.frame.locals) (store_of shapes between) (store_of shapes after) v entry here there ps ws ends holds are known placed
    (subst AreApart (sym is) (ones_apart s.frame here.at ss one 0 fresh))
    (all_planned s (store_with shapes blocks between.frame.locals) (store_of shapes between) v here.at ps ws planned fit) stored seen (written_locals ws between after written)
    (λ to n low high e. write to n low high (stay to n low high e)) write
