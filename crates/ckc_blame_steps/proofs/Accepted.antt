-- What is known of each text that the phases accept.
use Rattle.std.proofs.Common.{◌≡◌, ◌⊎◌, ◌∙◌, refl, sym, ap, subst, arith, ℕ, ◌+◌, ◌<◌, List, [], ◌∷◌, length}
use Rattle.std.specs.Prelude.{◌≢◌, ◌^◌, ◌-◌, ◌≤◌, true, false, Option, None, Some, Ok, IfSome, IsSome}
use Rattle.std.specs.List.{Contains, flat_map}
use Rattle.ckc_syntax.specs.declared.tree.Name.{Name}
use Rattle.ckc_syntax.specs.declared.tree.Expr.{every_here-Expr}
use Rattle.ckc_typed.specs.declared.typed.Note.{Note}
use Rattle.ckc_typed_welltyped.specs.Expressions.{AnyLimits, AnyNode}
use Rattle.ckc_blame_steps.specs.ExpressionRooms.{HasPlaces}
use Rattle.ckc_blame_steps.specs.Values.{HasFewValues}
use Rattle.ckc_blame_steps.proofs.Modes.{step_spot, step_mode}
use Rattle.ckc_blame_steps.proofs.Ones.{ones_declared}
use Rattle.ckc_base.specs.declared.arithmetic.Mode.{Mode}
use Rattle.ckc_base.specs.declared.arithmetic.Mode.TheVariants.{Unchecked}
use Rattle.ckc_base.specs.Lists.{AreBytes}
use Rattle.ckc_base.specs.States.{state_at}
use Rattle.ckc_base.specs.Steps.{Halts}
use Rattle.ckc_base.specs.Traces.{Event, Stuck}
use Rattle.ckc_syntax_limits.specs.Small.{Small}
use Rattle.ckc_typed.specs.declared.typed.Typed.{Typed}
use Rattle.ckc_typed.specs.Statics.{strings_of_expr}
use Rattle.ckc_typed.specs.Trees.{NotedExpr}
use Rattle.ckc_typed_welltyped.specs.Productions.{callless_value, given_tree}
use Rattle.ckc_typed_plain.proofs.Given.{plain_given}
use Rattle.ckc_typed_plain.proofs.Stay.{small_kept}
use Rattle.ckc_typed_wellformed.proofs.Derived.{tree_given}
use Rattle.ckc_blame_sound.specs.ckc_bounds.specs.Phase.{bounding}
use Rattle.ckc_blame_sound.specs.ckc_bounds_views.specs.Views.{view}
use Rattle.ckc_blame_sound.specs.ckc_bounds_stores.specs.declared.values.Numbered.{Numbered}
use Rattle.ckc_blame_sound.specs.ckc_bounds_statements.specs.Paths.{Here, maybe_judged}
use Rattle.ckc_source.specs.declared.stmt.Kept.{Kept}
use Rattle.ckc_source.specs.declared.stmt.Spot.{Spot}
use Rattle.ckc_source.specs.Code.{Code, Expr, Function, Call, Return}
use Rattle.ckc_source.specs.Eval.{Store}
use Rattle.ckc_source.specs.Source.{source_system, first_state, source}
use Rattle.ckc_source.specs.States.{State, Work}
use Rattle.ckc_source.specs.Steps.{source_step}
use Rattle.ckc_build_elaborate.specs.Elaborated.{elaborated}
use Rattle.ckc_build_elaborate.specs.Shapes.{shapes_elaborated}
use Rattle.ckc_blame.specs.Blamed.{IsBlamed, IsNeverStuck}
use Rattle.ckc_blame.specs.Checked.{WhollyChecked}
use Rattle.ckc_blame_sound.specs.Bodies.{IsNextFresh}
use Rattle.ckc_blame_sound.specs.Calls.{store_in, arguments_of}
use Rattle.ckc_blame_sound.specs.Given.{AreGiven}
use Rattle.ckc_blame_sound.specs.Safe.{AreSafe}
use Rattle.ckc_blame_sound.specs.Settings.{Setting, IsFunction, AreStrings, setting_of}
use Rattle.ckc_blame_sound.specs.Sized.{AllocateSizes}
use Rattle.ckc_blame_sound.specs.Moves.{IsSoundMove}
use Rattle.ckc_blame_sound.specs.Slots.{AreFilled}
use Rattle.ckc_blame_sound.specs.Sound.{Sound}
use Rattle.ckc_blame_sound.specs.Steps.{IsStep, IsCondition}
use Rattle.ckc_blame_sound.specs.Words.{HaveWords}
use Rattle.ckc_blame_sound.specs.Cells.{AreSound, HaveOwnNames}
use Rattle.ckc_blame_sound.specs.Elements.{NameIntegerMembers}
use Rattle.ckc_blame_sound.specs.Typed.{IsTypedIf}
use Rattle.ckc_blame_sound.proofs.Statements.{pair_same}
use Rattle.ckc_blame_sound.specs.JudgedTexts.{IsJudged, globals_in}
use Rattle.ckc_blame_sound.proofs.Members.{have_own_names}
use Rattle.ckc_blame_given.specs.ckc_blame_pointers.specs.Covered.{DeclareOnes, IsSoundStore, IsCovered, IsInScope}
use Rattle.ckc_blame_given.specs.Targets.{KeepRunsFree}
use Rattle.ckc_blame_walk.specs.ckc_blame_nested.proofs.Whole.{typed_nested}
use Rattle.ckc_blame_words.proofs.Whole.{literals_are_words}
use Rattle.ckc_blame_walk.proofs.Allocated.{texts_allocate_sizes}
use Rattle.ckc_blame_walk.proofs.Counts.{slot_parts}
use Rattle.ckc_blame_walk.proofs.NamedStatics.{members_named}
use Rattle.ckc_blame_walk.specs.ckc_blame_declared.proofs.Integers.{members_count_integers}
use Rattle.ckc_blame_control.specs.Ready.{Faces}
use Rattle.ckc_blame_control.proofs.Typed.{condition_typed, point_known}
use Rattle.ckc_blame_steps.specs.Checked.{IsOfMode}
use Rattle.ckc_blame_steps.specs.Told.{IsTold, IsSpoken}
use Rattle.ckc_blame_steps.proofs.Checked.{condition_of_mode}
use Rattle.ckc_blame_steps.proofs.GivenBodies.{texts_given}
use Rattle.ckc_blame_steps.proofs.Judged.{condition_covered, judged_as}
use Rattle.ckc_blame_steps.proofs.LaidOut.{programs_laid_out}
use Rattle.ckc_blame_steps.proofs.ExpressionRooms.{condition_places}
use Rattle.ckc_blame_steps.proofs.Runs.{runs_free}
use Rattle.ckc_blame_steps.proofs.Scoped.{texts_are_safe}
use Rattle.ckc_blame_steps.proofs.Small.{few_locals}
use Rattle.ckc_blame_steps.proofs.SmallNames.{names_small}
use Rattle.ckc_blame_steps.proofs.Spoken.{expressions_are_spoken}
use Rattle.ckc_blame_steps.proofs.Texts.{texts_are_told}
use Rattle.ckc_blame_steps.proofs.Variables.{locals_declared, step_scope, test_scope}
use Rattle.ckc_blame_steps.specs.Accepted.{IsAccepted}
use Rattle.ckc_blame_steps.specs.Arguments.{GiveWords, literals_before, numbers_behind}
use Rattle.ckc_blame_steps.specs.Before.{Premises, IsCoveredThere, AreCoveredThere, IsCoveredIf}
use Rattle.ckc_blame_steps.specs.Givable.{IsGivable, AreGivable}
use Rattle.ckc_blame_steps.specs.Granted.{IsGranted}
use Rattle.ckc_blame_steps.specs.Known.{IsKnown, Begins}
use Rattle.ckc_blame_steps.specs.Results.{GivesWordIf, returned_by}
use Rattle.ckc_blame_steps.specs.Rooms.{HasRoomFrom, HaveRoomEach}
use Rattle.ckc_blame_steps.specs.Tests.{AreTestsCovered}
use Rattle.ckc_blame_steps.specs.Unchecked.{stores_unchecked, unchecked_store_since, mode_after}
use Rattle.ckc_blame_steps.proofs.AllSteps.{every_step}
use Rattle.ckc_blame_steps.proofs.CoveredActs.{act_covered}
use Rattle.ckc_blame_steps.proofs.CoveredCalls.{arguments_there, returned_there}
use Rattle.ckc_blame_steps.proofs.Declaring.{results_are_spared, steps_declare}
use Rattle.ckc_blame_steps.proofs.Promised.{stuck_blamed, wholly_never}
use Rattle.ckc_blame_steps.proofs.Rooms.{arguments_have_room, returned_has_room, steps_have_places, conditions_have_places}
use Rattle.ckc_blame_steps.proofs.RunStores.{run_blamed, run_sound}
use Rattle.ckc_blame_steps.proofs.Stepping.{call_step}
use Rattle.ckc_blame_steps.proofs.Strings.{returned_strings}
use Rattle.ckc_blame_steps.proofs.Words.{gives_word, give_words}

none_some : (y : NotedExpr) → ◌≡◌ {A = Option NotedExpr} None (Some y) → ⊥
none_some y e = cc

some_same : {x y : NotedExpr} → ◌≡◌ {A = Option NotedExpr} (Some x) (Some y) → y ≡ x
some_same e = cc

-- ---- what gives words

module _ (m : Mode) (p : Typed) (s : Setting) (store : Store) (here : Here) where
  one_givable : (e f : NotedExpr) (from : Numbered) → IsCoveredThere m p s store here e f from.fresh → HasRoomFrom s here from e → IsGivable m (globals_in p) s store here e f from
  one_givable e f from c r = record {
    typed = c.typed;
    whole = c.whole;
    judged = c.judged;
    covered = c.covered;
    values = r.room.values;
    variables = r.room.variables;
    fresh = r.fresh;
  }

  each_givable : (es fs : List NotedExpr) (from : Numbered) → AreCoveredThere m p s store here es fs from.fresh → HaveRoomEach s here from es → AreGivable m (globals_in p) s store here es fs from
  unfolding HaveRoomEach AreGivable
  each_givable [] [] from c r = tt
  each_givable [] (f ∷ fs) from c r = absurd c
  each_givable (e ∷ es) [] from c r = absurd c
  each_givable (e ∷ es) (f ∷ fs) from c r = (one_givable e f from c.0 r.0, each_givable es fs (numbers_behind s here.at e from) c.1 r.1)

-- ---- a text

module _ (text : List ℕ) (p : Typed) (a : IsAccepted text p) where
  j : IsJudged p
  j = record {
    spelled = a.spelled;
    named = a.named;
    typed = a.typed;
    has_form = tree_given _ a.spelled a.has_tree;
    has_names = a.has_names;
    has_types = a.has_types;
    has_bounds = subst (λ (q : Typed). bounding.Makes q p) a.has_bounds.1.1 a.has_bounds.2;
  }

  given : given_tree j.named.tree ≡ true
  unfolding j
  given = plain_given a.spelled a.named (tree_given _ a.spelled a.has_tree) a.has_names

  small : Small j.named.tree
  unfolding j
  small = small_kept a.spelled a.named a.has_names

  words : HaveWords p
  words = literals_are_words text a.tokens a.spelled a.named a.typed p a.has_tokens a.has_tree a.has_names a.has_types a.has_bounds

  safe : AreSafe p
  unfolding j
  safe = texts_are_safe a.typed p a.has_bounds.1.0 j.has_bounds

  bodies : AreGiven p
  bodies = texts_given p j given

  sizes : AllocateSizes p
  sizes = texts_allocate_sizes p j given small

  counts : NameIntegerMembers p.layout
  counts = members_count_integers p j

  few : (s : Setting) (f : Function) → IsFunction p s f → length s.variables < 1024
  few s f is = few_locals p s f j small is

  module _ (s : Setting) (f : Function) (is : IsFunction p s f) where
    same : s.text ≡ p
    unfolding setting_of
    same = ap (λ (x : Setting). x.text) is.judged

    ones : DeclareOnes s
    ones = ones_declared p s f j is

    told : (store : Store) (seen : List ℕ) → AreFilled p store → ((k : ℕ) → Contains seen k → IsInScope s seen k) → IsTold (globals_in p) s store seen
    told store seen filled scope =
        texts_are_told p s f store seen j is counts ones (subst KeepRunsFree (sym same) (runs_free p j)) (subst (λ (q : Typed). AreFilled q store) (sym same) filled) scope

    premises : (m : Mode) (store : Store) (here there : Here) (step : Code → Code) (i : IsStep s here step there) → AreFilled p store → Premises m p s store here i.before
    premises m store here there step i filled = record {
      told = told store here.seen filled (step_scope p s f j is here there step (few s f is) i);
      spoken = λ before after fresh typed of_mode callless judged. expressions_are_spoken m p s f before after fresh here.at j is ones typed of_mode callless judged;
      given = i.inside.given (subst AreGiven (sym same) bodies);
      sized = i.inside.sized (subst AllocateSizes (sym same) sizes);
    }

    -- ---- conditions

    module _ (m : Mode) (here one other : Here) (e : Expr) (c : IsCondition s m here e one other) where
      few_there : IfSome c.before (λ x. (view s.frame x).values + 1 < 2 ^ 32)
      few_there = by c.before (condition_places p s f j small is m here one other e c)
        where
          by : (o : Option NotedExpr) → IfSome o (HasPlaces s.frame here.at here.next) → IfSome o (λ x. (view s.frame x).values + 1 < 2 ^ 32)
          by None h = tt
          by (Some x) h = every_here-Expr Name Note AnyLimits AnyNode (HasFewValues s.frame) x h.values

      spoken_there : IfSome c.after (IsSpoken m s)
      spoken_there =
          by c.before c.after c.judged (condition_typed p s f m words is c.before c.inside) (condition_of_mode m s here one other e (subst AreSafe (sym same) safe) c)
          (c.inside.given (subst AreGiven (sym same) bodies))
        where
          by : (before after : Option NotedExpr) → maybe_judged s.frame before here ≡ Ok (after, c.behind) → IsTypedIf (globals_in p) s before → IfSome before (IsOfMode m)
              → callless_value before ≡ true → IfSome after (IsSpoken m s)
          by None None judged typed of_mode callless = tt
          by None (Some y) judged typed of_mode callless = absurd (none_some y (pair_same None (Some y) here c.behind judged).0)
          by (Some x) None judged typed of_mode callless = tt
          by (Some x) (Some y) judged typed of_mode callless =
              let made = judged_as s.frame here x (Some y) c.behind c.counting judged in
              expressions_are_spoken m p s f x y here.next here.at j is ones typed of_mode callless (made.2 ∙ ap Ok (some_same made.1))

      covered_there : (store : Store) → AreFilled p store → IfSome c.after (IsCovered m s store here.seen)
      covered_there store filled =
          condition_covered m p s f store here one other e c words is (subst AreSafe (sym same) safe)
          (told store here.seen filled (test_scope p s f j is m here one other e (few s f is) c)) few_there spoken_there

    tests : AreTestsCovered s
    tests = record {
      covered = λ m here one other e store next c ready filled. covered_there m here one other e c store (subst (λ (q : Typed). AreFilled q store) same filled);
      room = λ m here one other e c. conditions_have_places p s f j small is m here one other e c;
    }

  -- ---- arguments and results

  module _ (s : State) (h : Sound p s) where
    abbrev set : Setting
    set = h.setting

    abbrev store : Store
    store = store_in p s.blocks s.frame

    text_is : set.text ≡ p
    text_is = same set s.frame.function h.stands.function

    ready : IsSoundStore set store s.next
    ready = record {
      sound = subst (λ q. AreSound q s.blocks s.next) (sym text_is) (record { apart = h.orderly.apart; bytes = h.orderly.bytes; memory = h.memory });
      shapes = ap (λ (q : Typed). shapes_elaborated q.layout) (sym text_is);
      names = subst (λ (q : Typed). HaveOwnNames q.layout) (sym text_is) (have_own_names p j);
    }

    word_variables : length set.variables < 2 ^ 32
    word_variables = let m = few set s.frame.function h.stands.function in omega (arith, m)

    word_there : (here : Here) → IsNextFresh set here.next → here.next ≤ 2 ^ 32 - 1
    word_there here fresh = let h = fresh word_variables in let less = h.1 in omega (arith, less)

    abbrev first_from : Here → Numbered
    first_from here = record { value = 0; fresh = here.next }

    arguments : (m : Mode) (spot : Spot) (target : Option Kept) (number : ℕ) (es : List Expr) (next : List Work) (f : Faces set store s.frame.entry (Call spot target number es) next) → spot.mode ≡ m
        → GiveWords m set store f.here.at (literals_before f.judged.after f.judged.literals) (arguments_of f.judged.before) (arguments_of f.judged.after) (first_from f.here)
    arguments m spot target number es next f mode =
        let known = point_known p set s.frame.function f.here j h.stands.function word_variables f.judged.fresh f.judged.named in
        let called = call_step set f.here f.exits.ends spot target number es f.judged (word_there f.here f.judged.fresh) in
        let there = arguments_there m p j small words safe set s.frame.function h.stands.function store f.here f.exits.ends spot target number es f.judged mode
        (premises set s.frame.function h.stands.function m store f.here f.exits.ends (Call spot target number es) f.judged h.filled) in
        let room = arguments_have_room p set s.frame.function j small h.stands.function f.here f.exits.ends (Call spot target number es) f.judged in
        give_words m (globals_in p) set s.frame.entry f.here s.next store known.agrees (locals_declared p set s.frame.function j h.stands.function) ready f.holds
        (arguments_of f.judged.before) (arguments_of f.judged.after) (literals_before f.judged.after f.judged.literals) (first_from f.here)
        (each_givable m p set store f.here (arguments_of f.judged.before) (arguments_of f.judged.after) (first_from f.here) there room)
        (subst (λ (xs : List NotedExpr). AreStrings set (literals_before f.judged.after f.judged.literals) (flat_map strings_of_expr xs)) (sym called.after) called.strings)

    returned : (m : Mode) (spot : Spot) (e : Expr) (next : List Work) (f : Faces set store s.frame.entry (Return spot e) next) → spot.mode ≡ m
        → GivesWordIf m set store f.here.at f.judged.literals (returned_by f.judged.before) (returned_by f.judged.after) (first_from f.here)
    returned m spot e next f mode =
        by (returned_by f.judged.before) (returned_by f.judged.after) (λ y is. returned_strings set f.judged.literals f.judged.after f.judged.strings y is)
        (returned_there m p j small words safe set s.frame.function h.stands.function store f.here f.exits.ends spot e f.judged mode
        (premises set s.frame.function h.stands.function m store f.here f.exits.ends (Return spot e) f.judged h.filled))
        (returned_has_room p set s.frame.function j small h.stands.function f.here f.exits.ends (Return spot e) f.judged)
      where
        by : (x y : Option NotedExpr) → ((g : NotedExpr) → y ≡ Some g → AreStrings set f.judged.literals (strings_of_expr g))
            → IsCoveredIf m p set store f.here x y f.here.next → IfSome x (HasRoomFrom set f.here (first_from f.here))
            → GivesWordIf m set store f.here.at f.judged.literals x y (first_from f.here)
        by None None strings c r = tt
        by None (Some y) strings c r = tt
        by (Some x) None strings c r = tt
        by (Some x) (Some y) strings c r =
            gives_word m (globals_in p) set s.frame.entry f.here s.next store
            (point_known p set s.frame.function f.here j h.stands.function word_variables f.judged.fresh f.judged.named).agrees (locals_declared p set s.frame.function j h.stands.function) ready f.holds x y f.judged.literals (first_from f.here)
            (one_givable m p set store f.here x y (first_from f.here) c r) (strings y refl)

  -- ---- all that is known

  granted : IsGranted p
  granted = record {
    judged = j;
    words = words;
    free = runs_free p j;
    names = names_small p j small;
    parts = slot_parts p j (members_named p j);
    counts = counts;
    few = few;
    declares = λ s f is. locals_declared p s f j is;
    covered = λ m s f here there step end store next is i mode safely ready filled.
        act_covered m p j small words safe s f is store here there step i (step_mode s here there step i ∙ sym (step_spot s here there step i end) ∙ mode) (premises s f is m store here there step i filled) safely;
    declared = λ s f here there step d is i out. steps_declare p j few s f here there step d is i out;
    room = λ s f here there step is i. steps_have_places p s f j small is here there step i;
  }

  known : IsKnown p
  unfolding j granted
  known = record {
    granted = granted;
    nested = typed_nested a.spelled a.named a.typed (tree_given _ a.spelled a.has_tree) a.has_names a.has_types;
    tests = tests;
    spares = results_are_spared p j;
    arguments = λ m s h spot target number es next f mode. arguments s h m spot target number es next f mode;
    returned = λ m s h spot e next f mode. returned s h m spot e next f mode;
  }

  begins : Begins p known
  unfolding known granted
  begins = record {
    given = given;
    small = small;
    laid_out = programs_laid_out text a.tokens a.spelled a.named a.typed p a.has_tokens a.has_tree a.has_names a.has_types a.has_bounds;
  }

  pub accepted_known : (k : IsKnown p) × Begins p k
  accepted_known = (known, begins)

  pub accepted_step : (s : State) → Sound p s → stores_unchecked s ≡ false → ((events : List Event) → source_step (elaborated p) s ≢ Halts events Stuck)
      → IsSoundMove p (source_step (elaborated p) s)
  accepted_step s h safe runs = every_step p known s h safe runs

  pub accepted_store : (input : List ℕ) (n : ℕ) → AreBytes input → (source (elaborated p) input n).standing ≡ Stuck
      → IsSome (unchecked_store_since (elaborated p) input n) ⊎ (mode_after (elaborated p) input n ≡ Unchecked)
  accepted_store input n bytes stuck = run_blamed p input n known begins bytes stuck

  pub accepted_sound : (input : List ℕ) (n : ℕ) → AreBytes input → unchecked_store_since (elaborated p) input n ≡ None
      → Sound p (state_at (source_system (elaborated p)) (first_state (elaborated p) input) n)
  accepted_sound input n bytes none = run_sound p input n known begins bytes none

  pub accepted_blamed : IsBlamed (elaborated p)
  accepted_blamed input n bytes stuck = stuck_blamed p input n known begins bytes stuck

  pub accepted_never : WhollyChecked p → IsNeverStuck (elaborated p)
  accepted_never checked input n bytes stuck = wholly_never p input n known begins bytes checked stuck
