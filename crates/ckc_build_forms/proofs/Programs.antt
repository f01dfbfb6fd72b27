-- The program of a judged text can be compiled, if the places in it fit in their words, and its numbers fit.
use Rattle.std.proofs.Common.{◌≡◌, ◌∙◌, refl, sym, ap, subst, arith, ℕ, ◌+◌, ◌<◌, ◌≤◌, true, false, List, [], ◌∷◌, map, length}
use Rattle.std.specs.Prelude.{All, Some, slice_get, Ok}
use Rattle.std.specs.List.{Contains}
use Rattle.std.proofs.lemmas.List.{length-map}
use Rattle.std.proofs.lemmas.List.Elements.{All-nil, All-cons, All-head, All-tail, All-contains, All-contains_itself, All-from_recursion}
use Rattle.std.proofs.lemmas.List.Sorted.{length_permutation}
use Rattle.std.proofs.lemmas.List.Sums.{AllPass-from_list_all}
use Rattle.std.proofs.lemmas.Option.{slice_get_within}
use Rattle.ckc_syntax.specs.declared.tree.Name.TheVariants as name
use Rattle.ckc_syntax.specs.declared.tree.Item.TheVariants as item
use Rattle.ckc_syntax_limits.specs.Depth.{depth_of_stmt}
use Rattle.ckc_syntax_limits.specs.Small.{Small, SmallItem}
use Rattle.ckc_types.specs.declared.types.CType.{CType}
use Rattle.ckc_typed.specs.declared.environment.Variable.{Variable}
use Rattle.ckc_typed.specs.declared.typed.Typed.{Typed}
use Rattle.ckc_typed.specs.Environment.{parameter_declared, type_of_name, variable_declared, variables_of}
use Rattle.ckc_typed.specs.Layouts.{structs_of}
use Rattle.ckc_typed.specs.Trees.{Item, Tree, NotedDecl, NotedHead, NotedItem, NotedStmt}
use Rattle.ckc_typed_fit.specs.Tests.{item_passes, head_passes, walked, names_declared}
use Rattle.ckc_typed_welltyped.specs.Noteless.{bare_head, bare_item, bare_stmt}
use Rattle.ckc_typed_welltyped.specs.Productions.{given_tree}
use Rattle.ckc_blame_steps.specs.ckc_bounds.specs.Frames.{all_of, function_frame, begin_of}
use Rattle.ckc_blame_steps.specs.ckc_bounds.specs.Texts.{body_judged}
use Rattle.ckc_blame_steps.specs.ckc_bounds_known.proofs.Reaching.{and_cases}
use Rattle.ckc_blame_steps.specs.ckc_bounds_points.specs.declared.frame.Frame.{Frame}
use Rattle.ckc_base.specs.Outcomes.{bind}
use Rattle.ckc_blame_steps.specs.ckc_bounds_statements.specs.Paths.{Here, path}
use Rattle.ckc_source.specs.Code.{Function}
use Rattle.ckc_checks_operands.specs.Compilable.{HasParams, IsCompilableFunction, IsCompilable}
use Rattle.ckc_build_elaborate.specs.Elaborated.{elaborated}
use Rattle.ckc_build_elaborate.specs.Functions.{literals_of_head, function_elaborated, functions_elaborated}
use Rattle.ckc_build_elaborate.specs.Objects.{count_declared}
use Rattle.ckc_build_words.specs.Numbers.{FunctionFits, NumbersFit}
use Rattle.ckc_build_words.specs.Places.{FunctionsPlaces, PlacesFit}
use Rattle.ckc_blame_steps.specs.ckc_blame_sound.specs.JudgedTexts.{IsJudged, IsBodyJudged, globals_in}
use Rattle.ckc_blame_steps.specs.ckc_blame_sound.specs.Settings.{Setting, IsFunction, setting_of, frame_of_text}
use Rattle.ckc_blame_steps.specs.ckc_blame_sound.specs.Words.{HaveWords, HasWords, exprs_in}
use Rattle.ckc_blame_steps.specs.ckc_blame_sound.proofs.Bodies.{bodies_are_typed, declared_known}
use Rattle.ckc_blame_steps.specs.ckc_blame_sound.proofs.Frames.{types_numbered, types_length, variables_have, variables_moved, named_type, statics_named}
use Rattle.ckc_blame_steps.specs.ckc_blame_sound.proofs.Functions.{all_made, numbered, tree_named}
use Rattle.ckc_blame_steps.specs.ckc_blame_sound.proofs.Literals.{text_strings}
use Rattle.ckc_blame_steps.specs.ckc_blame_sound.proofs.Strings.{NumbersStrings}
use Rattle.ckc_blame_steps.proofs.Callees.{callees_known}
use Rattle.ckc_blame_steps.proofs.GivenBodies.{texts_given}
use Rattle.ckc_blame_steps.specs.ckc_blame_walk.proofs.Frames.{function_frames_same}
use Rattle.ckc_blame_steps.specs.ckc_blame_walk.proofs.Layers.{walk_of}
use Rattle.ckc_blame_steps.specs.ckc_blame_walk.proofs.Sized.{tag_tests}
use Rattle.ckc_blame_steps.specs.ckc_blame_walk.proofs.Texts.{text_same}
use Rattle.ckc_build_forms.proofs.Forms.{CodeForm}
use Rattle.ckc_build_forms.proofs.FormsOfStatements.{Before, judged_form}
use Rattle.ckc_build_forms.proofs.FormsOfSteps.{HaveParams}
use Rattle.ckc_build_forms.proofs.FormsOfValues.{IsReady}
use Rattle.ckc_build_forms.proofs.FunctionsSmall.{KeepsLimits, each_function, functions_are_small, functions_are_few, main_there}
use Rattle.ckc_build_forms.proofs.LocalRanges.{limits_form}
use Rattle.ckc_build_forms.proofs.Merge.{code_is}
use Rattle.ckc_build_forms.proofs.NumbersOfForms.{code_fits}
use Rattle.ckc_build_forms.proofs.ObjectsLow.{objects_low, objects_fit, addresses_low, arrays_low, bodies_short}
use Rattle.ckc_build_forms.proofs.SmallCounts.{member_count}
use Rattle.ckc_build_forms.proofs.SmallResults.{result_fits, interfaces_fit}
use Rattle.ckc_build_forms.proofs.SmallStatics.{static_count}
use Rattle.ckc_build_forms.proofs.SoundNames.{members_there, layout_is, tags_pass, names_sound}

each : {X : Type 0} (P : X → Type 0) (all : List X) → ((x : X) → Contains all x → P x) → (xs : List X) → All (Contains all) xs → All P xs
each P all f [] there = All-nil P
each P all f (x ∷ xs) there = All-cons P x xs (f x (All-head (Contains all) x xs there)) (each P all f xs (All-tail (Contains all) x xs there))

-- ---- the numbers of locals

module _ (h : NotedHead) (body : NotedStmt) where
  as_many : length (types_numbered (all_of h body)) ≡ length (variables_of body.note.mode h body)
  as_many =
      types_length (all_of h body) ∙ sym (length-map (all_of h body) (λ (d : NotedDecl). variable_declared d))
      ∙ sym (length_permutation (map (λ (d : NotedDecl). variable_declared d) (all_of h body)) (variables_of body.note.mode h body) (variables_moved h body))

  below : (k : ℕ) (t : CType) → slice_get (types_numbered (all_of h body)) k ≡ Some t → k < length (variables_of body.note.mode h body)
  below k t at = subst (λ n. k < n) as_many (slice_get_within (types_numbered (all_of h body)) k t at)

-- ---- what the text was before its bounds were judged

module _ (p : Typed) (j : IsJudged p) where
  before_is : (P : Item → Type 0) → All P j.named.tree.items → (h : NotedHead) (body : NotedStmt) → Contains j.typed.tree.items (item.Function h body) → P (bare_item (item.Function h body))
  before_is P all h body there =
      All-contains (λ i. P (bare_item i)) j.typed.tree.items (item.Function h body)
      (all_made P bare_item j.typed.tree.items (subst (λ (t : Tree). All P t.items) (sym j.has_types.tree) all)) there

  module _ (given : given_tree j.named.tree ≡ true) (small : Small j.named.tree) (typed_small : Small j.typed.tree) (words : HaveWords p) where
    abbrev js : List Item
    js = j.named.tree.items

    module _ (k : ℕ) (h : NotedHead) (body : NotedStmt) (there : Contains p.tree.items (item.Function h body))
        (strings : NumbersStrings (count_declared p.tree.items) p.tree.items k (item.Function h body)) where
      abbrev s : Setting
      s = setting_of p h body

      abbrev f : Function
      f = function_elaborated p k h body

      is_function : IsFunction p s f
      is_function = record {
        head = h;
        body = body;
        literals = k;
        there = there;
        judged = refl;
        runs = refl;
        strings = strings s (text_strings j.typed p h body j.has_types.typed j.has_bounds);
      }

      local_there : (m : ℕ) (t : CType) → type_of_name (globals_in p) s.variables (name.Local m) ≡ Some t → m < length s.variables
      unfolding setting_of
      local_there m t is = below h body m t (named_type (globals_in p) h body m t (numbered p h body j there) (statics_named p j) is)

      structs_are : (globals_in p).structs ≡ p.layout
      structs_are = ap (λ (t : Tree). structs_of t.items) (tree_named p j) ∙ sym (layout_is p j given small)

      ready : IsReady p (globals_in p) s
      ready = record {
        sound = names_sound p j given small s f is_function;
        locals = local_there;
        limits = λ t m low high is. limits_form p s f j is_function t m low high is;
        counts = λ t m. static_count p j t (name.Static m);
        members = member_count p j;
        addresses = addresses_low p j;
        arrays = arrays_low p j;
        structs = structs_are;
      }

      callees : HaveParams p (globals_in p)
      callees m t is =
          let c = callees_known p j s f m t is_function is in
          let many = ap (λ (g : Function). g.params) c.function.runs ∙ sym (length-map c.function.head.params (λ (d : NotedDecl). parameter_declared d)) ∙ sym (ap length c.types) in
          subst (HasParams (length t.params)) (sym c.there) many

      module _ (b : IsBodyJudged (globals_in p) j.typed h body) where
        passes : (walk_of (tag_tests js) b.before).passes (names_declared (bare_head h).params) ≡ true
        passes =
            let all = AllPass-from_list_all (item_passes (tag_tests js)) js (tags_pass p j given small) in
            (and_cases (head_passes (tag_tests js) (bare_head h)) ((walked (tag_tests js) (bare_stmt b.before)).passes (names_declared (bare_head h).params))
            (before_is (λ i. item_passes (tag_tests js) i ≡ true) all h b.before b.there)).1

        deep : depth_of_stmt b.before ≤ 64
        deep =
            let all = All-from_recursion (λ (i : NotedItem). SmallItem i) j.typed.tree.items typed_small.each in
            let most = (All-contains (λ (i : NotedItem). SmallItem i) j.typed.tree.items (item.Function h b.before) all b.there).depth in
            omega (arith, most)

        known : All (λ (d : NotedDecl). (m : ℕ) → d.name ≡ name.Local m → m < length s.variables) (path b.before).declared
        unfolding setting_of
        known =
            each (λ (d : NotedDecl). (m : ℕ) → d.name ≡ name.Local m → m < length s.variables) (path b.before).declared
            (λ d c m is. below h body m (variable_declared d).ctype
            (All-contains (λ (v : Variable). (m : ℕ) → v.name ≡ name.Local m → slice_get (types_numbered (all_of h body)) m ≡ Some v.ctype) (variables_of body.note.mode h body) (variable_declared d)
            (variables_have h body (numbered p h body j there)) (declared_known (globals_in p) j.typed h body b d c) m is))
            (path b.before).declared (All-contains_itself (path b.before).declared)

        only_words : All HasWords (exprs_in b.before)
        only_words = each HasWords (exprs_in b.before) (λ e c. words j.typed h b.before j.has_bounds b.there e c) (exprs_in b.before) (All-contains_itself (exprs_in b.before))

        before : Before p (globals_in p) s js (members_there p j given small) (layout_is p j given small) ready callees b.before b.mode false (names_declared (bare_head h).params)
        unfolding setting_of
        before = record {
          typed = b.fits;
          passes = passes;
          words = only_words;
          short = bodies_short p j h b.before b.there;
          known = known;
          fine = texts_given p j given j.typed h b.before j.has_bounds b.there;
          deep = deep;
        }

        judged : body_judged (frame_of_text p) h b.before ≡ Ok body
        judged = ap (λ g. body_judged g h b.before) (text_same j.typed p j.has_bounds).frame ∙ b.judged

        inside : function_frame (frame_of_text p) h b.before ≡ function_frame (frame_of_text p) h body
        inside = sym (function_frames_same (frame_of_text p) h b.before body judged)

        code_form : CodeForm (functions_elaborated p) (length s.variables) false f.body
        unfolding setting_of
        code_form =
            judged_form p (globals_in p) s js (members_there p j given small) (layout_is p j given small) ready callees b.before body b.mode (names_declared (bare_head h).params) before
            (begin_of (frame_of_text p) h b.before) refl
            (subst (λ (g : Frame). bind ((path b.before).judged g s.head (begin_of (frame_of_text p) h b.before)) (λ (q : NotedStmt × Here). Ok q.0) ≡ Ok body) inside judged)
            (k + literals_of_head h)

      function_form : CodeForm (functions_elaborated p) f.locals false f.body
      unfolding setting_of
      function_form = code_form (bodies_are_typed p j h body there)

      function_fits : FunctionFits f
      function_fits = record {
        body = code_fits f.locals (functions_elaborated p) false f.body function_form;
        result = result_fits p j h body there;
        interfaces = interfaces_fit p j h body there;
      }

    abbrev pub HasForm : Function → Type 0
    HasForm f = CodeForm (functions_elaborated p) f.locals false f.body

    pub have_form : All HasForm (functions_elaborated p)
    have_form = each_function p HasForm function_form

    pub functions_fit : All FunctionFits (functions_elaborated p)
    functions_fit = each_function p FunctionFits function_fits

-- ---- programs

compilable : (fs all : List Function) → All KeepsLimits fs → All (λ (f : Function). CodeForm all f.locals false f.body) fs → FunctionsPlaces fs → All (IsCompilableFunction all) fs
compilable [] all l h w = All-nil (IsCompilableFunction all)
compilable (f ∷ fs) all l h w =
    let P : Function → Type 0 = λ g. CodeForm all g.locals false g.body in
    let limits = All-head KeepsLimits f fs l in
    All-cons (IsCompilableFunction all) f fs
    (record { params = limits.params; locals = limits.locals; nodes = limits.nodes; body = code_is f.locals all false f.body (All-head P f fs h) w.0 })
    (compilable fs all (All-tail KeepsLimits f fs l) (All-tail P f fs h) w.1)

pub form_by : (p : Typed) (j : IsJudged p) → given_tree j.named.tree ≡ true → Small j.named.tree → Small j.typed.tree → HaveWords p → PlacesFit (elaborated p) → IsCompilable (elaborated p)
form_by p j given small typed_small literals places = record {
  objects = objects_low p j;
  functions = compilable (functions_elaborated p) (functions_elaborated p) (functions_are_small p j small) (have_form p j given small typed_small literals) places;
  few = functions_are_few p j small;
  main = main_there p j;
}

pub numbers_by : (p : Typed) (j : IsJudged p) → given_tree j.named.tree ≡ true → Small j.named.tree → Small j.typed.tree → HaveWords p → NumbersFit (elaborated p)
numbers_by p j given small typed_small literals = record {
  objects = objects_fit p j;
  functions = functions_fit p j given small typed_small literals;
}
