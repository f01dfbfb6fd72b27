-- The program of a text that the phases accept is well formed.
use Rattle.std.proofs.Common.{◌≡◌, ◌∙◌, sym, ap, subst, refl, ℕ, ◌+◌, true, false, List, [], map, length}
use Rattle.std.specs.Prelude.{All, Ok, slice_get}
use Rattle.std.specs.List.{Contains}
use Rattle.std.proofs.lemmas.List.{length-map}
use Rattle.ckc_base.specs.Outcomes.{bind}
use Rattle.ckc_syntax.specs.declared.tree.Name.TheVariants as name
use Rattle.ckc_syntax.specs.declared.tree.Item.TheVariants as item
use Rattle.ckc_syntax.specs.declared.tree.NamedText.{NamedText}
use Rattle.ckc_syntax_limits.specs.Small.{Small}
use Rattle.ckc_typed.specs.declared.typed.Typed.{Typed}
use Rattle.ckc_typed.specs.Environment.{parameter_declared, variable_declared}
use Rattle.ckc_typed.specs.Statics.{strings_of_head, strings_of_stmt}
use Rattle.ckc_typed.specs.Trees.{NotedDecl, NotedHead, NotedStmt}
use Rattle.ckc_typed_welltyped.specs.Productions.{given_tree}
use Rattle.ckc_typed_welltyped.specs.Texts.{TypedAs}
use Rattle.ckc_source.specs.Blocks.{block_of}
use Rattle.ckc_source.specs.Code.{Function}
use Rattle.ckc_source.specs.Source.{first_state}
use Rattle.ckc_build_elaborate.specs.Elaborated.{elaborated}
use Rattle.ckc_build_elaborate.specs.Functions.{literals_of_head, function_elaborated, functions_elaborated}
use Rattle.ckc_build_elaborate.proofs.Counted as counted
use Rattle.ckc_build_elaborate.specs.Names.{number_of}
use Rattle.ckc_build_elaborate.specs.Objects.{count_declared}
use Rattle.ckc_build_forms.specs.ckc_blame_steps.specs.Accepted.{IsAccepted}
use Rattle.ckc_build_forms.specs.ckc_blame_steps.specs.ckc_bounds.specs.Frames.{function_frame, begin_of}
use Rattle.ckc_build_forms.specs.ckc_blame_steps.specs.ckc_bounds.specs.Phase.{bounding}
use Rattle.ckc_build_forms.specs.ckc_blame_steps.specs.ckc_bounds.specs.Texts.{body_judged}
use Rattle.ckc_build_forms.specs.ckc_blame_steps.specs.ckc_bounds_points.specs.declared.frame.Frame.{Frame}
use Rattle.ckc_build_forms.specs.ckc_blame_steps.specs.ckc_bounds_statements.specs.Paths.{Here, path}
use Rattle.ckc_build_forms.specs.ckc_blame_steps.specs.ckc_blame_sound.specs.JudgedTexts.{IsJudged, IsBodyJudged, globals_in}
use Rattle.ckc_build_forms.specs.ckc_blame_steps.specs.ckc_blame_sound.specs.Cells.{AreSound}
use Rattle.ckc_build_forms.specs.ckc_blame_steps.specs.ckc_blame_sound.specs.Safe.{AreSafe}
use Rattle.ckc_build_forms.specs.ckc_blame_steps.specs.ckc_blame_sound.specs.Settings.{AreStrings, Setting, IsFunction, setting_of, frame_of_text}
use Rattle.ckc_build_forms.specs.ckc_blame_steps.specs.ckc_blame_sound.proofs.Bodies.{bodies_are_typed, declared_known}
use Rattle.ckc_build_forms.specs.ckc_blame_steps.specs.ckc_blame_sound.proofs.Literals.{text_strings}
use Rattle.ckc_build_forms.specs.ckc_blame_steps.specs.ckc_blame_sound.proofs.Strings.{NumbersStrings, strings_after}
use Rattle.ckc_build_forms.specs.ckc_blame_steps.specs.ckc_blame_walk.proofs.Frames.{function_frames_same}
use Rattle.ckc_build_forms.specs.ckc_blame_steps.specs.ckc_blame_walk.proofs.Texts.{text_same}
use Rattle.ckc_build_forms.specs.ckc_blame_steps.proofs.Accepted.{accepted_known}
use Rattle.ckc_build_forms.specs.ckc_blame_steps.proofs.Callees.{callees_known}
use Rattle.ckc_build_forms.specs.ckc_blame_steps.proofs.GivenBodies.{texts_given}
use Rattle.ckc_build_forms.specs.ckc_blame_steps.proofs.Promised.{first_sound}
use Rattle.ckc_build_forms.specs.ckc_blame_steps.proofs.Scoped.{texts_are_safe}
use Rattle.ckc_build_forms.specs.ckc_blame_steps.proofs.Told.{local_named}
use Rattle.ckc_build_forms.proofs.FunctionsSmall.{each_function, main_there}
use Rattle.ckc_build_forms.proofs.Programs.{have_form}
use Rattle.ckc_source_causes.specs.WellFormed.{HasParams, IsWellFormedCode, HasWellFormedBody, IsWellFormed}
use Rattle.ckc_build_wellformed.proofs.Layouts.{layout_of}
use Rattle.ckc_build_wellformed.proofs.Sizes.{laid_out_by}
use Rattle.ckc_build_wellformed.proofs.Looping.{all_have_steps, there_is}
use Rattle.ckc_build_wellformed.proofs.Names.{names_known}
use Rattle.ckc_build_wellformed.proofs.Statements.{Before, judged_form}
use Rattle.ckc_build_wellformed.proofs.Steps.{HaveParams}

-- ---- functions

module _ (p : Typed) (j : IsJudged p) (given : given_tree j.named.tree ≡ true) (small : Small j.named.tree) (place : ℕ) (sound : AreSound p (map block_of (elaborated p).objects) place) (safe : AreSafe p) where
  module _ (k : ℕ) (h : NotedHead) (body : NotedStmt) (there : Contains p.tree.items (item.Function h body))
      (strings : NumbersStrings (count_declared p.tree.items) p.tree.items k (item.Function h body)) where
    abbrev s : Setting
    s = setting_of p h body

    abbrev f : Function
    f = function_elaborated p k h body

    is_function : IsFunction p s f
    is_function = record {
      head = h;
      body = body;
      literals = k;
      there = there;
      judged = refl;
      runs = refl;
      strings = strings s (text_strings j.typed p h body j.has_types.typed j.has_bounds);
    }

    callees : HaveParams (globals_in p) s (elaborated p)
    unfolding setting_of
    callees m t is =
        let c = callees_known p j s f m t is_function is in
        let many = ap (λ (g : Function). g.params) c.function.runs ∙ sym (length-map c.function.head.params (λ (d : NotedDecl). parameter_declared d)) ∙ sym (ap length c.types) in
        subst (HasParams (length t.params)) (sym c.there) many

    module _ (b : IsBodyJudged (globals_in p) j.typed h body) where
      locals : (d : NotedDecl) → Contains (path b.before).declared d → (m : ℕ) × (d.name ≡ name.Local m)
      unfolding setting_of
      locals d c = local_named p j s f (variable_declared d) is_function (declared_known (globals_in p) j.typed h body b d c)

      before : Before (globals_in p) s (elaborated p) (names_known p j given small place sound s f is_function) callees b.before b.mode false
      unfolding setting_of
      before = record { typed = b.fits; safe = safe j.typed h b.before j.has_bounds b.there; locals = locals; fine = texts_given p j given j.typed h b.before j.has_bounds b.there }

      judged : body_judged (frame_of_text p) h b.before ≡ Ok body
      judged = ap (λ g. body_judged g h b.before) (text_same j.typed p j.has_bounds).frame ∙ b.judged

      inside : function_frame (frame_of_text p) h b.before ≡ function_frame (frame_of_text p) h body
      inside = sym (function_frames_same (frame_of_text p) h b.before body judged)

      literals : AreStrings s (k + literals_of_head h) (strings_of_stmt body)
      literals = strings_after s (strings_of_head h) (strings_of_stmt body) k (literals_of_head h) (counted.head h) (strings s (text_strings j.typed p h body j.has_types.typed j.has_bounds))

      body_formed : IsWellFormedCode (elaborated p) (layout_of p.layout) f.body
      unfolding setting_of
      body_formed =
          judged_form (globals_in p) s (elaborated p) (names_known p j given small place sound s f is_function) callees b.before body b.mode before (begin_of (frame_of_text p) h b.before) refl
          (subst (λ (g : Frame). bind ((path b.before).judged g s.head (begin_of (frame_of_text p) h b.before)) (λ (q : NotedStmt × Here). Ok q.0) ≡ Ok body) inside judged)
          (k + literals_of_head h) literals

    function_formed : HasWellFormedBody (elaborated p) (layout_of p.layout) f
    function_formed = body_formed (bodies_are_typed p j h body there)

  pub bodies_formed : All (HasWellFormedBody (elaborated p) (layout_of p.layout)) (functions_elaborated p)
  bodies_formed = each_function p (HasWellFormedBody (elaborated p) (layout_of p.layout)) function_formed

module _ (stays : (t : NamedText) (p : Typed) → TypedAs t p → Small t.tree → Small p.tree) where
  pub accepted_formed : (text : List ℕ) (p : Typed) → IsAccepted text p → IsWellFormed (elaborated p)
  accepted_formed text p a =
      let k = accepted_known text p a in
      let j = k.0.granted.judged in
      let first = first_sound p [] k.0 k.1 tt in
      let sound : AreSound p (map block_of (elaborated p).objects) (first_state (elaborated p) []).next = record { apart = first.orderly.apart; bytes = first.orderly.bytes; memory = first.memory } in
      let safe : AreSafe p = texts_are_safe a.typed p a.has_bounds.1.0 (subst (λ (q : Typed). bounding.Makes q p) a.has_bounds.1.1 a.has_bounds.2) in
      record {
        main = there_is 0 (slice_get (functions_elaborated p) (number_of (name.Function p.main) p.tree.items)) (main_there p j);
        bodies = bodies_formed p j k.1.given k.1.small (first_state (elaborated p) []).next sound safe;
        steps = all_have_steps (functions_elaborated p) (functions_elaborated p) (have_form p j k.1.given k.1.small (stays j.named j.typed j.has_types k.1.small) k.0.granted.words);
        layout = layout_of p.layout;
        types = laid_out_by p j k.1.given k.1.small sound.memory.placed;
        objects = k.1.laid_out;
      }
