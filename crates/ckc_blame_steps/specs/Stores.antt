-- Where what a step plans to write lies.
use Rattle.std.specs.Prelude.{◌≡◌, ℕ, IsTrue, List, Ok}
use Rattle.std.specs.List.{All}
use Rattle.ckc_base.specs.Lists.{AreBytes}
use Rattle.ckc_base.specs.States.{state_at}
use Rattle.ckc_source.specs.declared.outcome.Place.{Place}
use Rattle.ckc_source.specs.declared.outcome.Place.TheVariants as place
use Rattle.ckc_source.specs.Blocks.{Block, lies_in}
use Rattle.ckc_source.specs.Code.{Program}
use Rattle.ckc_source.specs.Source.{source_system, first_state}
use Rattle.ckc_source.specs.States.{State, settled}
use Rattle.ckc_source.specs.Steps.{Write}
use Rattle.ckc_checks_follow.specs.Stores.{plans}

-- a place in memory lies in one of these blocks
abbrev pub LiesThere : List Block → Place → Type 0
LiesThere blocks (place.Memory a width zero_alone) = IsTrue (lies_in width a blocks)
LiesThere blocks to = Unit {0}

-- each place in memory that is written to lies in one of these blocks
abbrev pub LieThere : List Block → List Write → Type 0
LieThere blocks ws = All (λ (w : Write). LiesThere blocks w.0) ws

-- What the next step of a state plans to write to memory lies in blocks of the state.
abbrev pub PlansLieAt : Program → State → Type 0
PlansLieAt p s = (ws : List Write) → plans p s (settled s.frame.work) ≡ Ok ws → LieThere s.blocks ws

-- This holds of each state of a run, with any input of bytes.
abbrev pub PlansLie : Program → Type 0
PlansLie p =
    (input : List ℕ) (n : ℕ) → AreBytes input → PlansLieAt p (state_at (source_system p) (first_state p input) n)
