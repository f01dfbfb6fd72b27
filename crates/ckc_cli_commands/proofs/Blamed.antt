-- A run of the meaning of a text has a status: if it is stuck, unchecked code ran.
use Rattle.std.proofs.Common.{ℕ, [], ◌++◌, None, Some, refl, sym, subst, append-nil}
use Rattle.std.specs.Prelude.{IsSome}
use Rattle.ckc_base.specs.Lists.{AreBytes}
use Rattle.ckc_blame.specs.Blamed.{IsBlamed}
use Rattle.ckc_outside.specs.Outside.{SeenSource}
use Rattle.ckc_outside.specs.Given.{Streams, OverAny}
use Rattle.ckc_source.specs.Code.{Program}
use Rattle.ckc_interp.specs.declared.seen.Seen.{Seen}
use Rattle.ckc_interp.specs.declared.seen.Seen.TheVariants as seen
use Rattle.ckc_interp.specs.Runs.{Interprets}
use Rattle.ckc_cli_commands.specs.Interpreting.{meant_status}

module _ (p : Program) (blamed : IsBlamed p) (limit : ℕ) (input input' : SeenSource) (old new : Streams) where
  pub has_status : (o : Seen) → OverAny input input' (Interprets p limit old new o) → IsSome (meant_status o)
  has_status (seen.Ended value) run = refl
  has_status (seen.Stopped check at) run = refl
  has_status seen.Going run = refl
  has_status (seen.Stuck at (Some since)) run = refl
  has_status (seen.Stuck at None) run =
      let bytes = subst AreBytes (sym (append-nil run.0)) run.1.bytes in
      let stop = run.2 [] (λ q. refl) in
      subst IsSome (sym stop.3) (blamed (run.0 ++ []) stop.0 bytes stop.1.stands_so)
  has_status seen.ReadFault run = refl
  has_status seen.WriteFault run = refl
  has_status seen.Memory run = refl
