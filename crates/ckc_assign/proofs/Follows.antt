-- A placed program follows its code.
use Rattle.std.proofs.Common.{◌≡◌, ℕ, List, [], Option, Some, refl, sym, ap, subst, ◌∙◌}
use Rattle.std.specs.Prelude.{All}
use Rattle.std.specs.List.{slice_get}
use Rattle.std.specs.Option.{option_map}
use Rattle.std.proofs.lemmas.Option.{slice_get-map}
use Rattle.ckc_base.specs.Follows.{Follows}
use Rattle.ckc_base.specs.Steps.{meaning}
use Rattle.ckc_tac.specs.declared.code.TacFunc.{TacFunc}
use Rattle.ckc_tac.specs.Meaning as tac
use Rattle.ckc_tac.specs.WellFormed.{IsFunctionOver, HasParams}
use Rattle.ckc_frame.specs.declared.code.Placed.{Placed}
use Rattle.ckc_frame.specs.declared.code.PlacedFunc.{PlacedFunc}
use Rattle.ckc_frame.specs.Meaning as meant
use Rattle.ckc_frame.specs.WellFormed.{IsWellFormed, IsPlacedWhole, code_of}
use Rattle.ckc_assign.specs.Apart.{HasOwnPlaces, KeepsLive}
use Rattle.ckc_assign.proofs.Simulated.{IsFine, all_get, functions, starts}

module _ (p : Placed) (whole : IsWellFormed p) (apart : All HasOwnPlaces p.funcs) (keeps : All KeepsLive p.funcs) where
  fine_at : (k : ℕ) (f : PlacedFunc) → slice_get p.funcs k ≡ Some f → IsFine p.funcs f
  fine_at k f e = record {
    over = all_get (IsFunctionOver (functions p.funcs)) (functions p.funcs) k f.code whole.code.functions
        (slice_get-map (λ (g : PlacedFunc). g.code) p.funcs k ∙ ap (option_map (λ (g : PlacedFunc). g.code)) e);
    homes = (all_get IsPlacedWhole p.funcs k f whole.placed e).homes;
    apart = all_get HasOwnPlaces p.funcs k f apart e;
    keeps = all_get KeepsLive p.funcs k f keeps e;
  }

  pub follows_is : (input : List ℕ) → Follows (tac.tac_detail (code_of p) input) (meant.placed_detail p input) 1
  follows_is input =
      let e = slice_get-map (λ (g : PlacedFunc). g.code) p.funcs p.main in
      subst (λ (o : Option TacFunc). Follows (meaning (tac.tac_system (functions p.funcs)) (record { frame = tac.entry_of o; callers = []; world = (tac.first_state (code_of p) input).world }))
      (meant.placed_detail p input) 1) (sym e)
      (starts p.funcs fine_at p.main (slice_get p.funcs p.main) p.initial input (subst (HasParams 0) e whole.code.main) refl)
