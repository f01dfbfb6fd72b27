use Rattle.std.proofs.Common.{◌≡◌, ◌∙◌, Bool, List, [], map, ap}
use Rattle.ckc_base.specs.declared.arithmetic.Mode.TheVariants.{Checked}
use Rattle.ckc_typed.specs.Trees.{NotedDecl}
use Rattle.ckc_typed.specs.Interfaces.{seen}
use Rattle.ckc_bounds_points.specs.declared.frame.Local.{Local}
use Rattle.ckc_bounds_points.specs.declared.frame.Frame.{Frame}
use Rattle.ckc_bounds.specs.Declarations.{all_made}
use Rattle.ckc_bounds.specs.declared.locals.Turn.TheVariants as turn
use Rattle.ckc_bounds.specs.code.Declarations.{with_turns}
use Rattle.ckc_bounds.proofs.Lists.{made_in_room}
use Rattle.ckc_bounds.proofs.heads.params_made.Goals as goal

made : (frame : Frame) (b : Bool) (ps ds : List NotedDecl) (first room last : List Local) → ds ≡ ps → first ≡ [] → room ≡ with_turns frame turn.Counts first (map (seen Checked) ds)
    → last ≡ with_turns frame (turn.Places b) room (map (seen Checked) ds) → last ≡ all_made frame b (map (seen Checked) ps)
made frame b ps ds first room last p e q r =
    r ∙ ap (λ (ls : List Local). with_turns frame (turn.Places b) ls (map (seen Checked) ds)) (q ∙ ap (λ (ls : List Local). with_turns frame turn.Counts ls (map (seen Checked) ds)) e)
    ∙ made_in_room frame b (map (seen Checked) ds) ∙ ap (λ (xs : List NotedDecl). all_made frame b (map (seen Checked) xs)) p

pub returns : goal.returns
returns c =
    made c.args.frame.now c.args.bounded c.args.h.now.params _ _ _ _ c.as_slice-ds.ensures c.new-all.ensures c.in_ok-add_params.ensures c.in_ok-add_params-2.ensures
