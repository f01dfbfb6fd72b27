-- What the layers below core code keep of it.
use Rattle.std.specs.Prelude.{ℕ, ◌+◌, List}
use Rattle.ckc_base.specs.Follows.{Follows}
use Rattle.ckc_base.specs.LongEvents.{LongEvent}
use Rattle.ckc_base.specs.Traces.{Event, Showing}
use Rattle.ckc_source.specs.Code.{Program}
use Rattle.ckc_core.specs.Code as core
use Rattle.ckc_core.specs.Meaning.{core_detail}
use Rattle.ckc_checks_follow.specs.Followed.{IsFollowedByCore}
use Rattle.ckc_checks_follow.specs.Stores.{ListsStores}
use Rattle.ckc_tac.specs.declared.code.Tac.{Tac}
use Rattle.ckc_tac.specs.Meaning.{tac_detail}
use Rattle.ckc_tac.specs.code.Meaning.{tac_meaning}

-- There is core code that follows a program and stores where it may, and code that shows this follows that core code
-- with its calls and stores.
pub record HasCore (p : Program) (detail : List ℕ → ℕ → Showing LongEvent) (steps : ℕ) : Type 0 where
  pub core : core.Program
  pub follows : IsFollowedByCore p core
  pub stores : ListsStores p core
  pub below : (input : List ℕ) → Follows (core_detail core input) (detail input) steps

-- Whatever one program follows the other one follows too, with so much more for each step, in detail and in what is
-- seen.
pub record FollowsOn (t after : Tac) (more : ℕ) : Type 0 where
  pub seen : (input : List ℕ) (a : ℕ → Showing Event) (c : ℕ) → Follows a (tac_meaning t input) c → Follows a (tac_meaning after input) (c + more)
  pub detail : (input : List ℕ) (a : ℕ → Showing LongEvent) (c : ℕ) → Follows a (tac_detail t input) c → Follows a (tac_detail after input) (c + more)
