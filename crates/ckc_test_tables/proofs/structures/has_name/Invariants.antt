use Rattle.ckc_test_tables.proofs.structures.has_name.Given as goal

abbrev pub invariant-loop-m : goal.invariant-loop-m
invariant-loop-m l = Unit {0}
