use Rattle.std.proofs.Common.{◌≡◌, ◌∙◌, Bool, List, [], ◌++◌, map, sym, ap}
use Rattle.ckc_base.specs.declared.arithmetic.Mode.{Mode}
use Rattle.ckc_typed.specs.Trees.{NotedDecl, NotedHead, NotedStmt}
use Rattle.ckc_typed.specs.Interfaces.{seen, seen_params}
use Rattle.ckc_bounds_points.specs.declared.frame.Local.{Local}
use Rattle.ckc_bounds_points.specs.declared.frame.Frame.{Frame}
use Rattle.ckc_bounds.specs.Declarations.{all_made}
use Rattle.ckc_bounds.specs.declared.locals.Turn.{Turn}
use Rattle.ckc_bounds.specs.declared.locals.Turn.TheVariants as turn
use Rattle.ckc_bounds.specs.code.Declarations.{with_turns}
use Rattle.ckc_bounds_statements.specs.Paths.{path}
use Rattle.ckc_bounds.proofs.Lists.{with_turns_append, made_in_room}
use Rattle.ckc_bounds.proofs.bodies.variables.Goals as goal

module _ (frame : Frame) (mode : Mode) (h : NotedHead) (body : NotedStmt) where
  abbrev all : List NotedDecl
  all = seen_params mode h ++ (path body).declared

  -- a walk through the parameters and then the body
  joined : (t : Turn) (first mid last : List Local) (ds : List NotedDecl) → ds ≡ h.params → mid ≡ with_turns frame t first (map (seen mode) ds)
      → last ≡ with_turns frame t mid (path body).declared → last ≡ with_turns frame t first all
  joined t first mid last ds e q r =
      r ∙ ap (λ (ls : List Local). with_turns frame t ls (path body).declared) (q ∙ ap (λ (xs : List NotedDecl). with_turns frame t first (map (seen mode) xs)) e)
      ∙ sym (with_turns_append frame t first (seen_params mode h) (path body).declared)

  both : (b : Bool) (first room last : List Local) → first ≡ [] → room ≡ with_turns frame turn.Counts first all → last ≡ with_turns frame (turn.Places b) room all
      → last ≡ all_made frame b all
  both b first room last e q r =
      r ∙ ap (λ (ls : List Local). with_turns frame (turn.Places b) ls all) (q ∙ ap (λ (ls : List Local). with_turns frame turn.Counts ls all) e)
      ∙ made_in_room frame b all

pub returns : goal.returns
returns c =
    both c.args.frame.now c.args.mode c.args.h.now c.args.body.now c.args.bounded _ _ _ c.new-all.ensures
    (joined c.args.frame.now c.args.mode c.args.h.now c.args.body.now turn.Counts _ _ _ _ c.as_slice-ds.ensures c.in_ok-add_params.ensures c.in_ok-add_stmt.ensures)
    (joined c.args.frame.now c.args.mode c.args.h.now c.args.body.now (turn.Places c.args.bounded) _ _ _ _ c.as_slice-ds.ensures c.in_ok-add_params-2.ensures c.in_ok-add_stmt-2.ensures)
