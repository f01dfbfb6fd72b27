-- The phase that judges checked scopes: it makes the same typed text if nothing in it is at fault.
use Rattle.std.specs.Prelude.{◌≡◌}
use Rattle.ckc_base.specs.Phases.{Phase}
use Rattle.ckc_typed.specs.declared.typed.Typed.{Typed}
use Rattle.ckc_typed.specs.Scoped.{Scoped, IsFirstScopeFault}

-- The phase makes the same typed source file, or gives the first error of a checked scope in it.
abbrev pub scoping : Phase Typed Typed
scoping = record {
  Makes = λ p same. Scoped p × (same ≡ p);
  Refuses = λ p refusal. IsFirstScopeFault p refusal.code refusal.pos;
}
