-- The phase that keeps texts small: it makes the same tree if the tree keeps each limit.
use Rattle.std.specs.Prelude.{◌≡◌}
use Rattle.ckc_base.specs.Phases.{Phase}
use Rattle.ckc_syntax.specs.declared.tree.Tree.{Tree}
use Rattle.ckc_syntax_limits.specs.Small.{Small, IsFirst, faults_of}

-- the phase that refuses a text for the first limit that it breaks
abbrev pub limiting : {N A : Type 0} → Phase (Tree N A) (Tree N A)
limiting = record {
  Makes = λ tree same. Small tree × (same ≡ tree);
  Refuses = λ tree refusal. IsFirst refusal (faults_of tree);
}
