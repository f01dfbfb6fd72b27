-- What placing a function, and functions, comes to.
use Rattle.std.specs.Prelude.{◌≡◌, List, map, All}
use Rattle.ckc_tac.specs.declared.code.TacFunc.{TacFunc}
use Rattle.ckc_frame.specs.declared.code.PlacedFunc.{PlacedFunc}
use Rattle.ckc_frame.specs.WellFormed.{IsPlacedWhole}
use Rattle.ckc_assign.specs.Apart.{HasOwnPlaces, KeepsLive}
use Rattle.ckc_assign.specs.Slots.{UsesFewSlots}

pub record IsAssigned (f : TacFunc) (p : PlacedFunc) : Type 0 where
  pub code : p.code ≡ f
  pub whole : IsPlacedWhole p
  pub apart : HasOwnPlaces p
  pub keeps : KeepsLive p
  pub slots : UsesFewSlots p

pub record AreAssigned (fs : List TacFunc) (ps : List PlacedFunc) : Type 0 where
  pub code : map (λ (p : PlacedFunc). p.code) ps ≡ fs
  pub whole : All IsPlacedWhole ps
  pub apart : All HasOwnPlaces ps
  pub keeps : All KeepsLive ps
  pub slots : All UsesFewSlots ps
