use Rattle.ckc_typed.specs.Declarations.{bare_typed, local_typed, static_typed}
use Rattle.ckc_typed_welltyped.specs.Noteless.{bare_decl}
use Rattle.ckc_typed_welltyped.specs.Declarations.{WellTypedBare, WellTypedLocal, WellTypedStatic}
use Rattle.ckc_typed_welltyped.proofs.Exactly.{exactly}
use Rattle.ckc_typed_welltyped.proofs.Decls.{bare_gives, bare_back, local_gives, local_back, static_gives, static_back}
use Rattle.ckc_typed_welltyped.proofs.laws.declarations_exactly.Goals as goal

pub returns : goal.returns
returns c = record {
  bares = λ g v m. exactly (bare_typed g v m) bare_decl (WellTypedBare g v m) (bare_gives g v m) (bare_back g v m);
  locals = λ g v m. exactly (local_typed g v m) bare_decl (WellTypedLocal g v m) (local_gives g v m) (local_back g v m);
  statics = λ g m. exactly (static_typed g m) bare_decl (WellTypedStatic g m) (static_gives g m) (static_back g m);
}
