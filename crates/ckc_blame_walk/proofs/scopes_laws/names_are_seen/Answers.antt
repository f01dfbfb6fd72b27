use Rattle.ckc_blame_walk.proofs.Seen.{step_names, step_keeps, test_names, test_keeps, local_there}
use Rattle.ckc_blame_walk.proofs.scopes_laws.names_are_seen.Goals as goal

pub returns : goal.returns
returns c = record {
  step = step_names;
  judged = step_keeps;
  test = test_names;
  test_judged = test_keeps;
  step_locals = λ p s f here there step k is few i seen. local_there p s f k is few (i.scope.known k seen);
  test_locals = λ p s f mode here one other x k is few c seen. local_there p s f k is few (c.scope.known k seen);
}
