use Rattle.ckc_test_tables.proofs.walks.+has_walk.Given as goal

abbrev pub decreases-has_walk : goal.decreases-has_walk
decreases-has_walk l = l.left
