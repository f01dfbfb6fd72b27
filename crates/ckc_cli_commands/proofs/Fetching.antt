-- What fetching gives, with a status for each failure.
use Rattle.std.proofs.Common.{◌≡◌, inl, ℕ, List, [], ◌∷◌, Ok, Err, refl, subst, ◌∙◌}
use Rattle.ckc_outside.specs.declared.traits.Fetched.{Fetched}
use Rattle.ckc_outside.specs.declared.traits.Fetched.TheVariants.{Whole, Longer}
use Rattle.ckc_outside.specs.declared.traits.StoreError.{StoreError}
use Rattle.ckc_outside.specs.declared.traits.StoreError.TheVariants.{Failed}
use Rattle.ckc_outside.specs.Outside.{Stored, one_more}
use Rattle.ckc_outside.proofs.Giving.{after_one}
use Rattle.ckc_cli_calls.specs.Files.{Gives}
use Rattle.ckc_cli_commands.specs.declared.status.Status.TheVariants as status
use Rattle.ckc_cli_commands.specs.Causes as causes
use Rattle.ckc_cli_commands.specs.Commands.{Fetch}
use Rattle.ckc_cli_commands.specs.Causes.{Unfetched, Asked}
use Rattle.ckc_cli_commands.specs.code.Fetching.{Fetches}

pub given : (f : Fetched) (name : List ℕ) (limit : ℕ) (before : Stored) → Gives name limit before (Ok f) → Fetches name limit before (Ok f)
given (Whole bytes) name limit before h = h
given Longer name limit before h = h

pub failed : (e : StoreError) (name : List ℕ) (limit : ℕ) (before : Stored) → e ≡ Failed → Gives name limit before (Err e)
    → Unfetched (record { name = name; most = limit } ∷ []) before status.StoreFault
failed e name limit before is h = causes.failed refl (inl (subst (λ (e : StoreError). Gives name limit before (Err e)) is h))

-- one call of fetch
pub asked_one : (name : List ℕ) (limit : ℕ) (before after : Stored) → after.fetches ≡ one_more before.fetches → after.limit ≡ limit → Asked (record { name = name; most = limit } ∷ []) before after
asked_one name limit before after once limited = record {
  count = once ∙ after_one before.fetches (record { name = name; most = limit });
  limit = limited;
}

-- no call of fetch after some
pub asked_still : (fetches : List Fetch) (before middle after : Stored) → Asked fetches before middle → after.fetches ≡ middle.fetches → after.limit ≡ middle.limit → Asked fetches before after
asked_still fetches before middle after a same limited = record { count = same ∙ a.count; limit = limited ∙ a.limit }
