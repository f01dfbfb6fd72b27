-- What is assigned, returned and passed at a step is covered: an expression without calls, a `calloc`, or a call.
use Rattle.std.proofs.Common.{◌≡◌, ◌∙◌, ⊎_elim, sym, ap, subst, refl, inl, inr, ℕ, Bool, true, false, List, [], ◌∷◌, map, rules}
use Rattle.std.specs.Prelude.{◌⊎◌, ◌&&◌, ◌||◌, ◌+◌, ◌<◌, ◌^◌, Option, Some, None, Ok}
use Rattle.std.specs.List.{list_all}
use Rattle.std.proofs.lemmas.Bool.{and_parts}
use Rattle.ckc_base.specs.declared.arithmetic.Mode.{Mode}
use Rattle.ckc_base.specs.declared.arithmetic.Mode.TheVariants.{Unchecked}
use Rattle.ckc_base.specs.Outcomes.{Outcome, bind}
use Rattle.ckc_types.specs.declared.types.Kind.{Kind}
use Rattle.ckc_types.specs.declared.types.Kind.TheVariants as kind
use Rattle.ckc_types.specs.declared.types.CType.{CType, CType-F, out-CType, the_lemmas}
use Rattle.ckc_types.specs.declared.types.CType.TheVariants as ctype
use Rattle.ckc_syntax.specs.declared.tree.Name.{Name}
use Rattle.ckc_syntax.specs.declared.tree.Name.TheVariants as name
use Rattle.ckc_syntax.specs.declared.tree.Node.{Node-F, map-Node, fold-Node, out-Node, fold-roll-Node}
use Rattle.ckc_syntax.specs.declared.tree.Expr.{every_here-Expr, fold-roll-Expr}
use Rattle.ckc_typed.specs.declared.environment.Globals.{Globals}
use Rattle.ckc_typed.specs.declared.environment.Parameter.{Parameter}
use Rattle.ckc_typed.specs.declared.environment.Signature.{Signature}
use Rattle.ckc_typed.specs.declared.environment.Variable.{Variable}
use Rattle.ckc_typed.specs.declared.typed.Note.{Note}
use Rattle.ckc_typed.specs.declared.typed.Typed.{Typed}
use Rattle.ckc_typed.specs.Constants.{size_of}
use Rattle.ckc_typed.specs.Conversions.{is_allocation, is_allocation_form, is_null, is_null_form, is_string, is_string_form, is_terminated_kind, kind_converts, kinds_allow, takes_string, takes_allocation, takes_pointer, pointer_takes, converts}
use Rattle.ckc_typed.specs.Environment.{putchar, signature_named}
use Rattle.ckc_typed.specs.Operands.{same_element}
use Rattle.ckc_typed.specs.Trees.{NotedLimits, NotedNode, NotedExpr, NotedLayer, TypeTree}
use Rattle.ckc_typed.specs.Types.{is_char, is_integer, is_integer_form, is_pointer, is_scalar, element_in, element_of, kind_of, same_type, type_written}
use Rattle.ckc_typed_welltyped.specs.Expressions.{AnyLimits, AnyNode, HasType, AreArguments, IsAllocation, IsCall}
use Rattle.ckc_typed_welltyped.specs.Productions.{call_form, callless_expr, callless_limits, limits_callless, node_callless, expr_callless, is_call, is_right}
use Rattle.ckc_typed_welltyped.specs.Statements as rows
use Rattle.ckc_blame_sound.specs.ckc_bounds_views.specs.Judged.{all_judged}
use Rattle.ckc_blame_sound.specs.ckc_bounds_views.specs.Parts.{fresh_behind}
use Rattle.ckc_blame_sound.specs.ckc_bounds_views.specs.Views.{view}
use Rattle.ckc_blame_sound.specs.ckc_bounds_statements.specs.Paths.{Here}
use Rattle.ckc_source.specs.Code.{Function}
use Rattle.ckc_source.specs.Eval.{Store}
use Rattle.ckc_blame_sound.specs.Sized.{IsSizedNode, IsSizedPart, IsSized}
use Rattle.ckc_blame_sound.specs.Settings.{Setting, IsFunction}
use Rattle.ckc_blame_sound.specs.Scopes.{HasAmong, NamesSeen}
use Rattle.ckc_blame_sound.proofs.Facts.{one_of}
use Rattle.ckc_blame_sound.proofs.Same.{same_equal}
use Rattle.ckc_blame_sound.specs.Typed.{IsRow, HasRow, IsTyped}
use Rattle.ckc_blame_sound.proofs.Judging.{IsGood, Gives, expr_judged, outline}
use Rattle.ckc_blame_sound.proofs.Statements.{made_of}
use Rattle.ckc_blame_given.specs.ckc_blame_pointers.specs.Covered.{IsCoveredNode, IsUncheckedNode, IsCoveredExpr, IsCovered}
use Rattle.ckc_blame_sound.specs.JudgedTexts.{IsJudged, globals_in}
use Rattle.ckc_blame_sound.proofs.Every.{ExprLayer, EachLimits, EachExpr}
use Rattle.ckc_blame_steps.specs.Checked.{IsPartOfMode, IsOfMode}
use Rattle.ckc_blame_steps.specs.Pointees.{IsFine}
use Rattle.ckc_blame_steps.specs.Told.{IsTold}
use Rattle.ckc_blame_steps.specs.Values.{HasFewValues, HaveFewValues}
use Rattle.ckc_blame_steps.proofs.CalledNames.{IsCallable, called_callable}
use Rattle.ckc_blame_steps.proofs.Down.{AllDown, Down, each_parts}
use Rattle.ckc_blame_steps.proofs.Judged.{judged_covered}
use Rattle.ckc_blame_steps.proofs.Pointees.{fine_integer}
use Rattle.ckc_blame_given.specs.Targets.{IsCoveredTarget}
use Rattle.ckc_blame_given.proofs.Views.{node_back}
use Rattle.ckc_blame_steps.specs.Before.{AreSpoken, IsCoveredThere, AreCoveredThere}
use Rattle.ckc_blame_steps.specs.Granted.{HasPlaces, IsCoveredFirst, IsCoveredCall, IsCoveredRight, IsCoveredAlone}
use Rattle.ckc_blame_steps.proofs.CallsMade.{call_made, calloc_made}
use Rattle.ckc_blame_steps.proofs.CoveredTargets.{IsNamedForm, target_covered}
use Rattle.ckc_blame_steps.proofs.FitExprs.{IsFit}
use Rattle.ckc_blame_steps.proofs.SafeTargets.{is_raw_target}
use Rattle.ckc_blame_steps.proofs.ScalarValues.{integer_scalar, converted_scalar}

-- ---- an expression without calls is no `calloc`

abbrev callless_node : NotedNode → Bool
callless_node = fold-Node Name Note Bool Bool Bool limits_callless node_callless expr_callless

abbrev without_calls : NotedLayer → Bool
without_calls n = node_callless (map-Node Name Note NotedLimits NotedNode NotedExpr Bool Bool Bool callless_limits callless_node callless_expr n)

callless_is : (e : NotedExpr) → callless_expr e ≡ without_calls (out-Node Name Note e.node)
callless_is e =
    fold-roll-Expr Name Note Bool Bool Bool limits_callless node_callless expr_callless (record { node = e.node; pos = e.pos; note = e.note })
    ∙ ap callless_node (sym (node_back e.node)) ∙ fold-roll-Node Name Note Bool Bool Bool limits_callless node_callless expr_callless (out-Node Name Note e.node)

whole_form : (n : NotedLayer) → without_calls n ≡ true → is_allocation_form n ≡ false
whole_form (Node-F.Calloc w e u) h = absurd cc
whole_form n h = refl

pub callless_whole : (e : NotedExpr) → callless_expr e ≡ true → is_allocation e ≡ false
callless_whole e h = whole_form (out-Node Name Note e.node) (sym (callless_is e) ∙ h)

-- ---- where a `calloc` goes

pointer_out : (k : Kind) (t : CType) → out-CType (ctype.Pointer k t) ≡ CType-F.Pointer k t
pointer_out k t = search (rules, the_lemmas)

same_by : (t u : CType) → same_element t u ≡ true → element_of t ≡ element_of u
same_by t u h =
    same_equal (element_of t) (element_of u)
    (and_parts (is_pointer u) (same_type (element_of t) (element_of u)) (and_parts (is_pointer t) (is_pointer u && same_type (element_of t) (element_of u)) h).1).1

-- it goes to pointers to the same elements alone
calloc_element : (t : CType) (e n : NotedExpr) (w u : TypeTree) → out-Node Name Note e.node ≡ Node-F.Calloc w n u → is_integer e.note.ctype ≡ false → converts t e ≡ true → element_of t ≡ element_of e.note.ctype
calloc_element t e n w u is other goes =
    ⊎_elim
    (λ i. absurd (different (sym other ∙ (and_parts (is_integer t) (is_integer e.note.ctype) i).1)))
    (λ q. ⊎_elim
    (λ x. absurd (different (sym (ap is_null_form is) ∙ x)))
    (λ r. ⊎_elim
    (λ x. absurd (different (sym (ap is_string_form is) ∙ (and_parts (is_string e) (is_terminated_kind (kind_of t) && is_char (element_of t)) x).0)))
    (λ y. ⊎_elim
    (λ a. same_by t e.note.ctype (and_parts (is_allocation e) (same_element t e.note.ctype) a).1)
    (λ b. same_by t e.note.ctype (and_parts (same_element t e.note.ctype) (kinds_allow kind_converts (kind_of e.note.ctype) (kind_of t)) b).0)
    (one_of (takes_allocation t e) (takes_pointer kind_converts t e) y))
    (one_of (takes_string t e) (takes_allocation t e || takes_pointer kind_converts t e) r))
    (one_of (is_null e) (takes_string t e || (takes_allocation t e || takes_pointer kind_converts t e)) (and_parts (is_pointer t) (pointer_takes kind_converts t e) q).1))
    (one_of (is_integer t && is_integer e.note.ctype) (is_pointer t && pointer_takes kind_converts t e) goes)
  where
    different : false ≡ true → ⊥
    different h = cc

terminated_kind : (k : Option Kind) → is_terminated_kind k ≡ true → k ≡ Some kind.Nt
terminated_kind (Some kind.Nt) h = refl
terminated_kind k h = absurd cc

-- ---- what judging makes may be a target too

module _ (globals : Globals) (variables : List Variable) where
  abbrev Bare : Type 0
  Bare = Node-F Name Note (Unit {0}) (Unit {0}) (Unit {0})

  to_outline : (n : NotedLayer) → IsNamedForm globals variables n → IsNamedForm globals variables (outline n)
  to_outline (Node-F.Name n) h = h
  to_outline (Node-F.Un o e) h = h
  to_outline (Node-F.Trusted w e None) h = h
  to_outline (Node-F.Trusted w e (Some l)) h = h
  to_outline (Node-F.Tested w e None) h = h
  to_outline (Node-F.Tested w e (Some l)) h = h
  to_outline n h = h

  from_outline : (n : NotedLayer) → IsNamedForm globals variables (outline n) → IsNamedForm globals variables n
  from_outline (Node-F.Name n) h = h
  from_outline (Node-F.Un o e) h = h
  from_outline (Node-F.Trusted w e None) h = h
  from_outline (Node-F.Trusted w e (Some l)) h = h
  from_outline (Node-F.Tested w e None) h = h
  from_outline (Node-F.Tested w e (Some l)) h = h
  from_outline n h = h

  named_kept : (d n : NotedLayer) → outline n ≡ outline d → IsNamedForm globals variables d → IsNamedForm globals variables n
  named_kept d n same h = from_outline n (subst (λ (x : Bare). IsNamedForm globals variables x) (sym same) (to_outline d h))

ok_same : {A : Type 0} {a b : A} → ◌≡◌ {A = Outcome A} (Ok a) (Ok b) → a ≡ b
ok_same e = cc

-- ---- at a point

module _ (m : Mode) (p : Typed) (j : IsJudged p) (s : Setting) (f : Function) (function : IsFunction p s f) (store : Store) (here : Here) (told : IsTold (globals_in p) s store here.seen)
    (spoken : AreSpoken m p s here) where
  abbrev globals : Globals
  globals = globals_in p

  abbrev Fits : NotedExpr → Type 0
  Fits = IsFit m globals s here.seen

  few_here : (e : NotedExpr) → Fits e → (view s.frame e).values + 1 < 2 ^ 32
  few_here e h = every_here-Expr Name Note AnyLimits AnyNode (HasFewValues s.frame) e h.few

  pub value_covered : (e g : NotedExpr) (fresh : ℕ) → Fits e → callless_expr e ≡ true → is_scalar e.note.ctype ≡ true → (view s.frame e).judged fresh here.at ≡ Ok g → IsCovered m s store here.seen g
  value_covered e g fresh h callless scalar judged =
      judged_covered m globals s store here e g fresh told h.typed h.of_mode h.names scalar (few_here e h) judged (spoken e g fresh h.typed h.of_mode callless judged)

  -- the left side of an assignment
  pub left_covered : (e x g : NotedExpr) (fresh : ℕ) → Fits e → callless_expr e ≡ true → rows.IsTarget globals s.variables e x → (view s.frame e).judged fresh here.at ≡ Ok g
      → (m ≡ Unchecked → is_raw_target (out-Node Name Note g.node) ≡ false) → IsCoveredTarget m s store here.seen g (out-Node Name Note g.node)
  left_covered e x g fresh h callless row judged safe =
      let P : Outcome NotedExpr → Type 0 = λ o. Gives (IsGood globals s e) o in
      let good : IsGood globals s e g = subst P judged ((expr_judged globals s e).judged h.typed fresh here.at) in
      let c = value_covered e g fresh h callless row.0 judged in
      target_covered m p j s f function store here.seen told g good.typed c.0
      (named_kept globals s.variables (out-Node Name Note e.node) (out-Node Name Note g.node) good.alike.outline_is (⊎_elim (λ n. inl n) (λ n. inr n.0) row.1)) safe

  -- ---- the parts of a call

  abbrev AllFit : List NotedExpr → Type 0
  AllFit [] = Unit {0}
  AllFit (e ∷ es) = Fits e × AllFit es

  all_fit : (es : List NotedExpr) → AllDown (IsTyped globals s) es → AllDown (IsOfMode m) es → AllDown (NamesSeen here.seen) es → AllDown (HaveFewValues s.frame) es → AllDown (IsSized s.text.layout) es → AllFit es
  all_fit [] a b c d z = tt
  all_fit (e ∷ es) a b c d z = (record { typed = a.0; of_mode = b.0; names = c.0; few = d.0; sized = z.0 }, all_fit es a.1 b.1 c.1 d.1 z.1)

  down : (P : ExprLayer → Type 0) (e : NotedExpr) (d : NotedLayer) → out-Node Name Note e.node ≡ d → EachExpr P e → Down (EachExpr P) (EachLimits P) d
  down P e d is h = subst (Down (EachExpr P) (EachLimits P)) is (each_parts P e h)

  arguments_fit : (e : NotedExpr) (n : Name) (es : List NotedExpr) → out-Node Name Note e.node ≡ Node-F.Call n es → Fits e → AllFit es
  arguments_fit e n es is h =
      let d = Node-F.Call n es in
      all_fit es (down (HasRow globals s) e d is h.typed) (down (IsPartOfMode m) e d is h.of_mode) (down (HasAmong here.seen) e d is h.names) (down (HasFewValues s.frame) e d is h.few)
      (down (IsSizedPart s.text.layout) e d is h.sized)

  count_fits : (e n : NotedExpr) (w u : TypeTree) → out-Node Name Note e.node ≡ Node-F.Calloc w n u → Fits e → Fits n
  count_fits e n w u is h =
      let d = Node-F.Calloc w n u in
      record {
        typed = down (HasRow globals s) e d is h.typed;
        of_mode = down (IsPartOfMode m) e d is h.of_mode;
        names = down (HasAmong here.seen) e d is h.names;
        few = down (HasFewValues s.frame) e d is h.few;
        sized = down (IsSizedPart s.text.layout) e d is h.sized;
      }

  -- ---- calls

  pub one_covered : (t : CType) (e g : NotedExpr) (fresh : ℕ) → Fits e → callless_expr e ≡ true → converts t e ≡ true → (view s.frame e).judged fresh here.at ≡ Ok g → IsCoveredThere m p s store here e g fresh
  one_covered t e g fresh h callless goes judged = record {
    typed = h.typed;
    whole = callless_whole e callless;
    judged = judged;
    covered = value_covered e g fresh h callless (converted_scalar globals s t e h.typed goes) judged;
  }

  arguments_covered : (mode : Mode) (ts : List Parameter) (es gs : List NotedExpr) (fresh : ℕ) → AllFit es → list_all callless_expr es ≡ true → AreArguments mode ts es → all_judged (map (view s.frame) es) fresh here.at ≡ Ok gs
      → AreCoveredThere m p s store here es gs fresh
  arguments_covered mode [] [] gs fresh h callless goes judged =
      let same : ◌≡◌ {A = List NotedExpr} [] gs = ok_same judged in subst (λ xs. AreCoveredThere m p s store here [] xs fresh) same tt
  arguments_covered mode [] (e ∷ es) gs fresh h callless goes judged = absurd goes
  arguments_covered mode (t ∷ ts) [] gs fresh h callless goes judged = absurd goes
  arguments_covered mode (t ∷ ts) (e ∷ es) gs fresh h callless goes judged =
      let next : ℕ = fresh_behind (view s.frame e) fresh here.at in
      let c = and_parts (callless_expr e) (list_all callless_expr es) callless in
      let first = made_of ((view s.frame e).judged fresh here.at) (λ a. bind (all_judged (map (view s.frame) es) next here.at) (λ rest. Ok (a ∷ rest))) gs judged in
      let n = made_of (all_judged (map (view s.frame) es) next here.at) (λ rest. Ok (first.0 ∷ rest)) gs first.2 in
      subst (λ xs. AreCoveredThere m p s store here (e ∷ es) xs fresh) (ok_same n.2)
      (one_covered t.ctype e first.0 fresh h.0 c.0 (and_parts (converts t.ctype e) _ goes.0).0 first.1, arguments_covered mode ts es n.0 next h.1 c.1 goes.1 n.1)

  row_of : (e : NotedExpr) → Fits e → IsRow globals s (out-Node Name Note e.node) e.note
  row_of e h = every_here-Expr Name Note AnyLimits AnyNode (HasRow globals s) e h.typed

  call_row : (e : NotedExpr) (n : Name) (es : List NotedExpr) (h : Fits e) → out-Node Name Note e.node ≡ Node-F.Call n es → IsCall globals (row_of e h).mode n es e.note.ctype
  call_row e n es h is = subst (λ (x : NotedLayer). HasType globals s.variables (row_of e h).mode x e.note.ctype) is (row_of e h).row

  pub parts_covered : (e : NotedExpr) (n : Name) (es gs : List NotedExpr) (fresh : ℕ) → Fits e → out-Node Name Note e.node ≡ Node-F.Call n es → list_all callless_expr es ≡ true
      → all_judged (map (view s.frame) es) fresh here.at ≡ Ok gs → AreCoveredThere m p s store here es gs fresh
  parts_covered e n es gs fresh h is callless judged =
      let w = call_row e n es h is in
      arguments_covered (row_of e h).mode w.0.params es gs fresh (arguments_fit e n es is h) callless w.2 judged

  -- what a right side that is a call passes has no calls
  pub right_arguments : (e : NotedExpr) (n : Name) (es : List NotedExpr) → is_right e ≡ true → out-Node Name Note e.node ≡ Node-F.Call n es → list_all callless_expr es ≡ true
  right_arguments e n es right is =
      ⊎_elim (λ c. sym (ap (λ (x : NotedLayer). call_form x) is) ∙ c) (λ c. absurd (different (sym (callless_is e ∙ ap without_calls is) ∙ c))) (one_of (is_call e) (callless_expr e) right)
    where
      different : false ≡ true → ⊥
      different h = cc

  first_covered : (mode : Mode) (t : Parameter) (ts : List Parameter) (es gs : List NotedExpr) (fresh : ℕ) → AreArguments mode (t ∷ ts) es → AreCoveredThere m p s store here es gs fresh → IsCoveredFirst m s store here.seen gs
  first_covered mode t ts [] gs fresh goes h = absurd goes
  first_covered mode t ts (e ∷ es) [] fresh goes h = absurd h
  first_covered mode t ts (e ∷ es) (g ∷ gs) fresh goes h = h.0.covered

  -- A call becomes one, with its arguments covered.
  pub record IsCallCovered (n : Name) (es : List NotedExpr) (g : NotedExpr) (fresh : ℕ) : Type 0 where
    pub afters : List NotedExpr
    pub node : out-Node Name Note g.node ≡ Node-F.Call n afters
    pub arguments : AreCoveredThere m p s store here es afters fresh
    pub call : IsCoveredCall m s store here.seen n afters

  pub call_covered : (e g : NotedExpr) (n : Name) (es : List NotedExpr) (fresh : ℕ) → Fits e → out-Node Name Note e.node ≡ Node-F.Call n es → list_all callless_expr es ≡ true
      → (view s.frame e).judged fresh here.at ≡ Ok g → IsCallCovered n es g fresh
  call_covered e g n es fresh h is callless judged =
      let w = call_row e n es h is in
      let made = call_made s.frame here.at fresh e g judged n es is in
      let arguments = parts_covered e n es made.afters fresh h is callless made.judged in
      record { afters = made.afters; node = made.node; arguments = arguments; call = by n w.0 (called_callable p j n w.0 w.1) w.1 w.2 made.afters arguments }
    where
      by : (n : Name) (t : Signature) → IsCallable n → signature_named globals n ≡ Some t → AreArguments (row_of e h).mode t.params es → (gs : List NotedExpr) → AreCoveredThere m p s store here es gs fresh → IsCoveredCall m s store here.seen n gs
      by (name.Function k) t c named goes gs a = tt
      by name.Getchar t c named goes gs a = tt
      by name.Putchar t c named goes gs a =
          let same : putchar ≡ t = let e : Some putchar ≡ Some t = named in cc in
          first_covered (row_of e h).mode (record { ctype = ctype.Int; is_interface = false }) [] es gs fresh (subst (λ (x : Signature). AreArguments (row_of e h).mode x.params es) (sym same) goes) a
      by n t c named goes gs a = absurd c

  -- ---- right sides

  plain_right : (t : CType) (g : NotedExpr) (d : NotedLayer) → IsCoveredNode s store here.seen g.note.ctype d ⊎ ((m ≡ Unchecked) × IsUncheckedNode s store g.note.ctype d) → IsCovered m s store here.seen g → IsCoveredRight m s store here.seen t g d
  plain_right t g (Node-F.Call n es) node c = absurd (⊎_elim (λ x. x) (λ x. x.1) node)
  plain_right t g (Node-F.Calloc w n u) node c = absurd (⊎_elim (λ x. x) (λ x. x.1) node)
  plain_right t g d node c = c

  -- the blocks of a `calloc` may be made at each pointer to its elements
  calloc_places : (t : CType) (e n : NotedExpr) (w u : TypeTree) → Fits e → out-Node Name Note e.node ≡ Node-F.Calloc w n u → element_of t ≡ type_written w → IsFine t → HasPlaces s t
  calloc_places t e n w u h is element fine =
      let sized : 0 < size_of s.text.layout (type_written w) = subst (IsSizedNode s.text.layout) is (every_here-Expr Name Note AnyLimits AnyNode (IsSizedPart s.text.layout) e h.sized) in
      record {
        sized = subst (λ (x : CType). 0 < size_of s.text.layout x) (sym element) sized;
        terminated = λ k. fine_integer t fine (terminated_kind (kind_of t) k);
      }

  calloc_row : (e n : NotedExpr) (w u : TypeTree) → Fits e → out-Node Name Note e.node ≡ Node-F.Calloc w n u → IsAllocation (type_written w) n (type_written u) e.note.ctype
  calloc_row e n w u h is =
      subst (λ (x : NotedLayer). HasType globals s.variables (row_of e h).mode x e.note.ctype) is (row_of e h).row

  calloc_covered : (t : CType) (e g n : NotedExpr) (w u : TypeTree) (fresh : ℕ) → Fits e → out-Node Name Note e.node ≡ Node-F.Calloc w n u → callless_expr n ≡ true → converts t e ≡ true → IsFine t
      → (view s.frame e).judged fresh here.at ≡ Ok g → IsCoveredRight m s store here.seen t g (out-Node Name Note g.node)
  calloc_covered t e g n w u fresh h is callless goes fine judged =
      let a = calloc_row e n w u h is in
      let other : is_integer e.note.ctype ≡ false = ap is_integer a.pointer ∙ ap is_integer_form (pointer_out kind.Arr (type_written w)) in
      let element : element_of t ≡ type_written w = calloc_element t e n w u is other goes ∙ ap element_of a.pointer ∙ ap element_in (pointer_out kind.Arr (type_written w)) in
      let made = calloc_made s.frame here.at fresh e g judged w u n is in
      subst (IsCoveredRight m s store here.seen t g) (sym made.node)
      (calloc_places t e n w u h is element fine, value_covered n made.count fresh (count_fits e n w u is h) callless (integer_scalar n.note.ctype a.counted) made.judged)

  pub right_covered : (t : CType) (e g : NotedExpr) (fresh : ℕ) → Fits e → is_right e ≡ true → converts t e ≡ true → IsFine t → (view s.frame e).judged fresh here.at ≡ Ok g
      → IsCoveredRight m s store here.seen t g (out-Node Name Note g.node)
  right_covered t e g fresh h right goes fine judged = ⊎_elim (λ c. by (out-Node Name Note e.node) refl c) plain (one_of (is_call e) (callless_expr e) right)
    where
      plain : callless_expr e ≡ true → IsCoveredRight m s store here.seen t g (out-Node Name Note g.node)
      plain callless =
          let c = value_covered e g fresh h callless (converted_scalar globals s t e h.typed goes) judged in
          plain_right t g (out-Node Name Note g.node) (every_here-Expr Name Note AnyLimits AnyNode (IsCoveredExpr m s store here.seen) g c.0).node c

      by : (d : NotedLayer) → out-Node Name Note e.node ≡ d → call_form d ≡ true → IsCoveredRight m s store here.seen t g (out-Node Name Note g.node)
      by (Node-F.Call n es) is callless =
          let c = call_covered e g n es fresh h is callless judged in
          subst (IsCoveredRight m s store here.seen t g) (sym c.node) c.call
      by (Node-F.Calloc w n u) is callless = calloc_covered t e g n w u fresh h is callless goes fine judged
      by d is callless = absurd cc

  -- a call that is a statement
  pub alone_covered : (e g : NotedExpr) (fresh : ℕ) → Fits e → is_call e ≡ true → IsFine e.note.ctype → (view s.frame e).judged fresh here.at ≡ Ok g → IsCoveredAlone m s store here.seen (out-Node Name Note g.node)
  alone_covered e g fresh h call fine judged = by (out-Node Name Note e.node) refl call
    where
      by : (d : NotedLayer) → out-Node Name Note e.node ≡ d → call_form d ≡ true → IsCoveredAlone m s store here.seen (out-Node Name Note g.node)
      by (Node-F.Call n es) is callless =
          let c = call_covered e g n es fresh h is callless judged in
          subst (IsCoveredAlone m s store here.seen) (sym c.node) c.call
      by (Node-F.Calloc w n u) is callless =
          let a = calloc_row e n w u h is in
          let t = ctype.Pointer kind.Arr (type_written w) in
          let made = calloc_made s.frame here.at fresh e g judged w u n is in
          subst (IsCoveredAlone m s store here.seen) (sym made.node) (
            calloc_places t e n w u h is (ap element_in (pointer_out kind.Arr (type_written w))) (subst IsFine a.pointer fine),
            value_covered n made.count fresh (count_fits e n w u is h) callless (integer_scalar n.note.ctype a.counted) made.judged,
          )
      by d is callless = absurd cc
