-- Which codes the refusals of the bounds phase have: of outcomes, and of statements.
use Rattle.std.proofs.Common.{inl, inr, refl, ℕ, List, [], ◌∷◌, map, Bool, false}
use Rattle.std.specs.Prelude.{Ok, Option, Some, None, not}
use Rattle.ckc_base.proofs.Codes
use Rattle.ckc_base.specs.declared.places.Pos.{Pos}
use Rattle.ckc_base.specs.Outcomes.{Outcome, bind}
use Rattle.ckc_syntax.specs.declared.tree.Init.TheVariants as init
use Rattle.ckc_syntax.specs.declared.tree.Act.{Act-F}
use Rattle.ckc_typed.specs.declared.typed.Note.{Note}
use Rattle.ckc_typed.specs.Types.{type_written}
use Rattle.ckc_typed.proofs.ActLayers as kept_trees
use Rattle.ckc_typed.proofs.ActLayers.{ActSteps, ActProperty, KeptActLayer, act_made, each_stmt}
use Rattle.ckc_typed.specs.Trees.{NotedStmt, NotedExpr, NotedDecl, NotedInit, NotedLimits}
use Rattle.ckc_types.specs.declared.types.CType.{CType}
use Rattle.ckc_syntax.specs.declared.tree.Length.{Length}
use Rattle.ckc_bounds_points.specs.declared.frame.Bounds.TheVariants as bounds
use Rattle.ckc_bounds_points.specs.declared.frame.HeadBounds.{HeadBounds}
use Rattle.ckc_bounds_points.specs.declared.frame.Frame.{Frame}
use Rattle.ckc_bounds_declared.specs.declared.limits.Holder.{Holder}
use Rattle.ckc_syntax.specs.declared.tree.Act.TheVariants as act
use Rattle.ckc_bounds_declared.specs.Written.{bounds_declared, bounds_taken, place_of_limits}
use Rattle.ckc_bounds_points.specs.Codes.{bad_limits, bad_bundle, not_contained}
use Rattle.ckc_bounds_statements.specs.DeclBounds.{decl_bounds, bounds_there, holder_of}
use Rattle.ckc_bounds_statements.specs.Paths.{Here, value_judged, maybe_judged, init_judged, starts_within, declared_here, stated, gone, decl_judged, all_judged, parts_judged, is_good, bounds_judged, bundle_judged, sides_judged, behind_stores, is_returned, branched, for_started, Path, ActPath, act_path, stmt_path, path}
use Rattle.ckc_bounds_statements.specs.Codes.{IsBoundsCode}

abbrev pub HasCode : {A : Type 0} → Outcome A → Type 0
HasCode o = Codes.HasCode IsBoundsCode o

pub is_602 : IsBoundsCode 602
is_602 = inr (inl refl)

pub is_603 : IsBoundsCode 603
is_603 = inr (inr (inl refl))

is_607 : IsBoundsCode 607
is_607 = inr (inr (inr (inr (inr (inr refl)))))

-- E603
pub declared_coded : (frame : Frame) (h : Holder) (t : CType) (length : Length) (l : Option NotedLimits) → HasCode (bounds_declared frame h t length l)
declared_coded frame h t length None = tt
declared_coded frame h t length (Some l) = Codes.there IsBoundsCode bad_limits (place_of_limits l) (bounds_taken frame h t length l) is_603

pub decl_coded : (frame : Frame) (h : Holder) (d : NotedDecl) → HasCode (decl_bounds frame h d)
decl_coded frame h d = declared_coded frame h (type_written d.ctype) d.length d.bounds

pub there_bounds_coded : (frame : Frame) (d : NotedDecl) → HasCode (bounds_there frame d)
there_bounds_coded frame d = decl_coded frame (holder_of d.name) d

judged_bounds_coded : (frame : Frame) (d : NotedDecl) (h : Here) → HasCode (bounds_judged frame d h)
judged_bounds_coded frame d h = Codes.chosen IsBoundsCode h.counting (Ok bounds.Unknown) (bounds_there frame d) tt (there_bounds_coded frame d)

-- with what expressions and assignments are refused for
module _ (value_coded : (frame : Frame) (e : NotedExpr) (h : Here) → HasCode (value_judged frame e h)) (stores_coded : (frame : Frame) (head : HeadBounds) (ss : List NotedStmt) (first : ℕ) (h : Here) → HasCode (behind_stores frame head ss first h)) where
  maybe_coded : (frame : Frame) (e : Option NotedExpr) (h : Here) → HasCode (maybe_judged frame e h)
  maybe_coded frame None h = tt
  maybe_coded frame (Some e) h = Codes.bound IsBoundsCode _ _ (value_coded frame e h) (λ p. tt)

  pub init_coded : (frame : Frame) (i : NotedInit) (h : Here) → HasCode (init_judged frame i h)
  init_coded frame init.Nothing h = tt
  init_coded frame (init.One e) h = Codes.bound IsBoundsCode _ _ (value_coded frame e h) (λ p. tt)
  init_coded frame (init.Many es) h = Codes.bound IsBoundsCode _ _ (Codes.turned IsBoundsCode (value_judged frame) (value_coded frame) es h) (λ p. tt)

  local_coded : (frame : Frame) (d : NotedDecl) (h : Here) → HasCode (decl_judged frame d h)
  local_coded frame d h =
      Codes.bound IsBoundsCode _ _ (judged_bounds_coded frame d h) (λ b. Codes.bound IsBoundsCode _ _ (init_coded frame d.init h) (λ p.
      Codes.kept IsBoundsCode {A = NotedDecl × Here} (not (starts_within frame d.name p.0 h.next p.1)) not_contained d.pos (Ok (record d { init = p.0 }, declared_here frame d p.0 p.1)) is_602 tt))

  sides_coded : (frame : Frame) (at : Pos) (note : Note) (e f : NotedExpr) (h : Here) → HasCode (sides_judged frame at note e f h)
  sides_coded frame at note e f h = Codes.bound IsBoundsCode _ _ (value_coded frame e h) (λ p. Codes.bound IsBoundsCode _ _ (value_coded frame f p.1) (λ q. tt))

  branch_coded : (frame : Frame) (left : Bool) (e : NotedExpr) (h : Here) → HasCode (branched frame left e h)
  branch_coded frame left e h = Codes.bound IsBoundsCode _ _ (value_coded frame e h) (λ p. tt)

  start_coded : (frame : Frame) (left continued : Bool) (e : Option NotedExpr) (h : Here) → HasCode (for_started frame left continued e h)
  start_coded frame left continued e h = Codes.bound IsBoundsCode _ _ (maybe_coded frame e h) (λ p. tt)

  pub record StmtCoded (p : Path) : Type 0 where
    pub judged : (frame : Frame) (head : HeadBounds) (h : Here) → HasCode (p.judged frame head h)
    pub part : (frame : Frame) (bundle : Pos) (h : Here) → HasCode (p.part frame bundle h)

  pub record ActCoded (p : ActPath) : Type 0 where
    pub judged : (frame : Frame) (head : HeadBounds) (at : Pos) (note : Note) (h : Here) → HasCode (p.judged frame head at note h)
    pub part : (frame : Frame) (bundle at : Pos) (note : Note) (h : Here) → HasCode (p.part frame bundle at note h)

  abbrev judging : ActSteps ActPath Path
  judging = record { act = act_path; stmt = stmt_path }

  abbrev coded : ActProperty ActPath Path
  coded = record { act = λ a p. ActCoded p; stmt = λ s p. StmtCoded p }

  abbrev KeptStmt : Type 0
  KeptStmt = kept_trees.KeptStmt judging coded

  all_coded : (frame : Frame) (head : HeadBounds) (ks : List KeptStmt) (h : Here) → HasCode (all_judged frame head (map path (map (λ k. k.0) ks)) h)
  unfolding all_judged
  all_coded frame head [] h = tt
  all_coded frame head (k ∷ ks) h = Codes.bound IsBoundsCode _ _ (k.1.judged frame head h) (λ p. Codes.bound IsBoundsCode _ _ (all_coded frame head ks p.1) (λ q. tt))

  parts_coded : (frame : Frame) (bundle : Pos) (ks : List KeptStmt) (h : Here) → HasCode (parts_judged frame bundle (map path (map (λ k. k.0) ks)) h)
  unfolding parts_judged
  parts_coded frame bundle [] h = tt
  parts_coded frame bundle (k ∷ ks) h = Codes.bound IsBoundsCode _ _ (k.1.part frame bundle h) (λ p. Codes.bound IsBoundsCode _ _ (parts_coded frame bundle ks p.1) (λ q. tt))

  bundle_coded : (frame : Frame) (head : HeadBounds) (at : Pos) (note : Note) (ks : List KeptStmt) (h : Here) → HasCode (bundle_judged frame head at note (map path (map (λ k. k.0) ks)) h)
  unfolding bundle_judged
  bundle_coded frame head at note ks h =
      Codes.bound IsBoundsCode _ _ (parts_coded frame at ks h) (λ p. Codes.kept IsBoundsCode {A = NotedStmt × Here} (not (is_good p.1 p.0)) bad_bundle at (bind (behind_stores frame head p.0 h.next p.1) (λ g. Ok (stated at note (act.Bundle p.0), g))) is_607 (Codes.bound IsBoundsCode _ _ (stores_coded frame head p.0 h.next p.1) (λ g. tt)))

  act_step : (y : KeptActLayer judging coded) (frame : Frame) (head : HeadBounds) (at : Pos) (note : Note) (h : Here) → HasCode ((act_made judging coded y).judged frame head at note h)
  act_step (Act-F.Block m ks) frame head at note h = Codes.bound IsBoundsCode _ _ (all_coded frame head ks h) (λ p. tt)
  act_step Act-F.Empty frame head at note h = tt
  act_step (Act-F.Local d) frame head at note h = Codes.bound IsBoundsCode _ _ (local_coded frame d h) (λ p. tt)
  act_step (Act-F.Assign e f) frame head at note h = Codes.bound IsBoundsCode _ _ (sides_coded frame at note e f h) (λ p. Codes.bound IsBoundsCode _ _ (stores_coded frame head (p.0 ∷ []) h.next p.1) (λ g. tt))
  act_step (Act-F.Call e) frame head at note h = Codes.bound IsBoundsCode _ _ (value_coded frame e h) (λ p. tt)
  act_step (Act-F.If e k None) frame head at note h = Codes.bound IsBoundsCode _ _ (branch_coded frame false e h) (λ p. Codes.bound IsBoundsCode _ _ (k.1.judged frame head p.1) (λ q. tt))
  act_step (Act-F.If e k (Some j)) frame head at note h =
      Codes.bound IsBoundsCode _ _ (branch_coded frame false e h) (λ p. Codes.bound IsBoundsCode _ _ (k.1.judged frame head p.1) (λ q. Codes.bound IsBoundsCode _ _ (Codes.bound IsBoundsCode _ _ (j.1.judged frame head _) (λ r. tt)) (λ r. tt)))
  act_step (Act-F.While e k) frame head at note h = Codes.bound IsBoundsCode _ _ (branch_coded frame _ e _) (λ p. Codes.bound IsBoundsCode _ _ (k.1.judged frame head p.1) (λ q. tt))
  act_step (Act-F.For None e None k) frame head at note h =
      Codes.bound IsBoundsCode _ _ (start_coded frame _ _ e _) (λ q. Codes.bound IsBoundsCode _ _ (k.1.judged frame head q.1) (λ r. tt))
  act_step (Act-F.For None e (Some j) k) frame head at note h =
      Codes.bound IsBoundsCode _ _ (start_coded frame _ _ e _) (λ q. Codes.bound IsBoundsCode _ _ (k.1.judged frame head q.1) (λ r. Codes.bound IsBoundsCode _ _ (Codes.bound IsBoundsCode _ _ (j.1.judged frame head _) (λ v. tt)) (λ v. tt)))
  act_step (Act-F.For (Some i) e None k) frame head at note h =
      Codes.bound IsBoundsCode _ _ (Codes.bound IsBoundsCode _ _ (i.1.judged frame head h) (λ p. tt)) (λ p. Codes.bound IsBoundsCode _ _ (start_coded frame _ _ e _) (λ q. Codes.bound IsBoundsCode _ _ (k.1.judged frame head q.1) (λ r. tt)))
  act_step (Act-F.For (Some i) e (Some j) k) frame head at note h =
      Codes.bound IsBoundsCode _ _ (Codes.bound IsBoundsCode _ _ (i.1.judged frame head h) (λ p. tt)) (λ p. Codes.bound IsBoundsCode _ _ (start_coded frame _ _ e _) (λ q. Codes.bound IsBoundsCode _ _ (k.1.judged frame head q.1) (λ r.
      Codes.bound IsBoundsCode _ _ (Codes.bound IsBoundsCode _ _ (j.1.judged frame head _) (λ v. tt)) (λ v. tt))))
  act_step (Act-F.Return e) frame head at note h = Codes.bound IsBoundsCode _ _ (maybe_coded frame e h) (λ p. Codes.kept IsBoundsCode {A = NotedStmt × Here} (not (is_returned frame head p.0 h.next p.1)) not_contained at (Ok (stated at note (act.Return p.0), gone frame p.1)) is_602 tt)
  act_step Act-F.Break frame head at note h = tt
  act_step Act-F.Continue frame head at note h = tt
  act_step (Act-F.Check e) frame head at note h = Codes.bound IsBoundsCode _ _ (value_coded frame e h) (λ p. tt)
  act_step (Act-F.Bundle ks) frame head at note h = bundle_coded frame head at note ks h

  part_step : (y : KeptActLayer judging coded) (frame : Frame) (bundle at : Pos) (note : Note) (h : Here) → HasCode ((act_made judging coded y).part frame bundle at note h)
  part_step (Act-F.Assign e f) frame bundle at note h = sides_coded frame at note e f h
  part_step _ frame bundle at note h = is_607

  pub stmt_coded : (s : NotedStmt) → StmtCoded (path s)
  stmt_coded = each_stmt judging coded (λ y. record { judged = λ frame. act_step y frame; part = λ frame. part_step y frame })
      (λ y. record { judged = λ frame head h. y.body.1.judged frame head y.pos y.note h; part = λ frame bundle h. y.body.1.part frame bundle y.pos y.note h })
