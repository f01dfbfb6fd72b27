-- The limits that a program has of results and of interfaces have small numbers.
use Rattle.std.proofs.Common.{◌≡◌, ◌∙◌, refl, sym, ap, subst, arith, ℕ, ◌+◌, ◌≤◌, Bool, true, false, List, [], ◌∷◌}
use Rattle.std.specs.Prelude.{◌^◌, if◌then◌else◌, ℤ, Option, None, Some, IfSome, Ok, All}
use Rattle.std.specs.List.{Contains}
use Rattle.std.proofs.lemmas.List.Elements.{All-nil, All-cons, All-head, All-tail, All-append}
use Rattle.ckc_base.specs.declared.arithmetic.Mode.{Mode}
use Rattle.ckc_base.specs.declared.arithmetic.Mode.TheVariants.{Checked, Unchecked}
use Rattle.ckc_base.specs.declared.places.Pos.{Pos}
use Rattle.ckc_base.specs.MemoryMap.{statics_end}
use Rattle.ckc_base.specs.Outcomes.{there_or}
use Rattle.ckc_base.proofs.Gives.{given_from}
use Rattle.ckc_types.specs.declared.types.CType.{CType}
use Rattle.ckc_types.specs.declared.types.Kind.{Kind}
use Rattle.ckc_types.specs.declared.types.Kind.TheVariants as kind
use Rattle.ckc_linear.specs.declared.forms.Base.{Base}
use Rattle.ckc_linear.specs.declared.forms.Base.TheVariants as base
use Rattle.ckc_linear.specs.declared.forms.Form.{Form}
use Rattle.ckc_syntax.specs.declared.tree.Name.{Name}
use Rattle.ckc_syntax.specs.declared.tree.Name.TheVariants as name
use Rattle.ckc_syntax.specs.declared.tree.Item.TheVariants as item
use Rattle.ckc_syntax.specs.declared.tree.Length.{Length}
use Rattle.ckc_syntax.specs.declared.tree.Length.TheVariants as lengths
use Rattle.ckc_syntax.specs.declared.tree.Limits.{Limits-F, out-Limits}
use Rattle.ckc_syntax.specs.declared.tree.Node.{out-Node}
use Rattle.ckc_typed.specs.declared.environment.Amount.{Amount}
use Rattle.ckc_typed.specs.declared.environment.Variable.{Variable}
use Rattle.ckc_typed.specs.declared.typed.Note.{Note}
use Rattle.ckc_typed.specs.declared.typed.Typed.{Typed}
use Rattle.ckc_typed.specs.Amounts.{amount}
use Rattle.ckc_typed.specs.Constants.{size_of}
use Rattle.ckc_typed.specs.Environment.{type_declared, params_of, variables_of}
use Rattle.ckc_typed.specs.Interfaces.{is_interface, seen, seen_params}
use Rattle.ckc_typed.specs.Trees.{NotedDecl, NotedHead, NotedStmt, NotedLimits, NotedNode, NotedExpr}
use Rattle.ckc_typed.specs.Types.{kind_of, element_of, type_written}
use Rattle.ckc_typed.proofs.Seen.{name_seen, bounds_seen}
use Rattle.ckc_blame_steps.specs.ckc_bounds_points.specs.declared.frame.Bounds.{Bounds}
use Rattle.ckc_blame_steps.specs.ckc_bounds_points.specs.declared.frame.Bounds.TheVariants as bounds
use Rattle.ckc_blame_steps.specs.ckc_bounds_points.specs.declared.frame.Frame.{Frame}
use Rattle.ckc_blame_steps.specs.ckc_bounds_points.specs.Codes.{bad_limits}
use Rattle.ckc_blame_steps.specs.ckc_bounds_points.specs.Forms.{base_form, sum_of_forms, elements}
use Rattle.ckc_blame_steps.specs.ckc_bounds_points.specs.Shown.{is_within}
use Rattle.ckc_blame_steps.specs.ckc_blame_sound.specs.ckc_bounds_declared.specs.declared.limits.Holder.TheVariants as holder
use Rattle.ckc_blame_steps.specs.ckc_blame_sound.specs.ckc_bounds_declared.specs.Written.{amount_with, amount_form, counted, named_base, bound_with, bound, node_pieces, known_between, bounds_written, takes_bounds, bounds_of_kind, bounds_by_type, place_of_limits, bounds_taken, bounds_declared}
use Rattle.ckc_blame_steps.specs.ckc_bounds_statements.specs.DeclBounds.{holder_of}
use Rattle.ckc_blame_steps.specs.ckc_bounds.specs.Declarations.{types_in, params_frame, head_bounds}
use Rattle.ckc_blame_steps.specs.ckc_blame_sound.specs.JudgedTexts.{IsJudged}
use Rattle.ckc_blame_steps.specs.ckc_blame_sound.specs.Numbered.{AreLocals}
use Rattle.ckc_blame_steps.specs.ckc_blame_sound.specs.Passed.{result_base, result_end}
use Rattle.ckc_blame_steps.specs.ckc_blame_sound.specs.Settings.{Setting, frame_of_text}
use Rattle.ckc_blame_steps.specs.ckc_blame_sound.proofs.Functions.{params_numbered}
use Rattle.ckc_blame_steps.specs.ckc_blame_sound.proofs.Locals.{names_declared}
use Rattle.ckc_blame_steps.specs.ckc_blame_sound.proofs.Sizes.{sizes_are_words}
use Rattle.ckc_blame_steps.specs.ckc_blame_declared.proofs.Parameters.{IsHeadWell, IsParamWell, function_well}
use Rattle.ckc_blame_steps.specs.ckc_blame_declared.proofs.Results.{IsTold, declared_told}
use Rattle.ckc_source.specs.declared.expr.Limits.{Limits}
use Rattle.ckc_source.specs.declared.program.Interface.{Interface}
use Rattle.ckc_build_values.specs.Ends.{limits_between}
use Rattle.ckc_build_values.specs.Kinds.{count_of_kind}
use Rattle.ckc_build_values.specs.Names.{address_of}
use Rattle.ckc_build_results.specs.Results.{limits_form, limits_of_count, result_limits}
use Rattle.ckc_build_elaborate.specs.Functions.{interface_if, interface_of, interfaces_from, interfaces_elaborated}
use Rattle.ckc_build_words.specs.Numbers.{BaseFits, EndFits, LimitsFit}
use Rattle.ckc_blame_steps.specs.ckc_blame_walk.proofs.Texts.{text_same}
use Rattle.ckc_build_forms.proofs.ObjectsLow.{addresses_low}
use Rattle.ckc_build_forms.proofs.SmallBounds.{IsClose, AreClose, small_of_close, declared_close}

-- ---- bounds of a parameter, as those of a result

-- if there are the first bounds, then there are the second
abbrev Follows : Option Bounds → Option Bounds → Type 0
Follows o q = (b : Bounds) → o ≡ Some b → (c : Bounds) × (q ≡ Some c)

same_follows : (o q : Option Bounds) → o ≡ q → Follows o q
same_follows o q same b e = (b, sym same ∙ e)

counted_follows : (b c : Base) (f : Option Form) → Follows (counted b f) (counted c f)
counted_follows b c None x e = absurd cc
counted_follows b c (Some f) x e = (bounds.Known (base_form c) (record f { base = Some c }), refl)

-- what there is was there
there_back : (at : Pos) (o : Option Bounds) (b : Bounds) → there_or bad_limits at o ≡ Ok b → o ≡ Some b
there_back at None b e = absurd cc
there_back at (Some c) b e = let same : c ≡ b = cc in ap (λ (x : Bounds). Some x) same

module _ (types : Frame) (k : ℕ) where
  with_same : (n : Option Name) (c : ℤ) → amount_with types (holder.Local k) n c ≡ amount_with types holder.Result n c
  with_same None c = refl
  with_same (Some n) c = refl

  amount_same : (a : Option Amount) → amount_form types (holder.Local k) a ≡ amount_form types holder.Result a
  amount_same None = refl
  amount_same (Some a) = ap (λ o. if is_within (2 ^ 24) a.number then o else None) (with_same a.variable a.number)

  bound_same : (t : CType) (o : _) → bound_with types (holder.Local k) t o ≡ bound_with types holder.Result t o
  bound_same t None = refl
  bound_same t (Some x) = ap (sum_of_forms (named_base types t x.name)) (amount_same x.by)

  written_follows : (t : CType) (l : Limits-F Name Note NotedLimits NotedNode NotedExpr) → Follows (bounds_written types (holder.Local k) t l) (bounds_written types holder.Result t l)
  written_follows t (Limits-F.Count e at) =
      subst (λ o. Follows (counted (base.Local k) o) (counted (base.Value 0) (amount_form types holder.Result (amount types.structs e)))) (sym (amount_same (amount types.structs e)))
      (counted_follows (base.Local k) (base.Value 0) (amount_form types holder.Result (amount types.structs e)))
  written_follows t (Limits-F.ByteCount e at) =
      let size = size_of types.structs (element_of t) in
      subst (λ o. Follows (counted (base.Local k) (elements size o)) (counted (base.Value 0) (elements size (amount_form types holder.Result (amount types.structs e))))) (sym (amount_same (amount types.structs e)))
      (counted_follows (base.Local k) (base.Value 0) (elements size (amount_form types holder.Result (amount types.structs e))))
  written_follows t (Limits-F.Between e f at) =
      same_follows (known_between (bound types (holder.Local k) t e) (bound types (holder.Local k) t f)) (known_between (bound types holder.Result t e) (bound types holder.Result t f))
      (ap (λ o. known_between o (bound types (holder.Local k) t f)) (bound_same t (node_pieces types.structs (out-Node Name Note e.node)))
      ∙ ap (known_between (bound types holder.Result t e)) (bound_same t (node_pieces types.structs (out-Node Name Note f.node))))
  written_follows t (Limits-F.Unknown at) = same_follows (Some bounds.Unknown) (Some bounds.Unknown) refl

  taken_follows : (t : CType) (n : Length) (l : NotedLimits) → Follows (bounds_taken types (holder.Local k) t n l) (bounds_taken types holder.Result t n l)
  taken_follows t n l = by (takes_bounds t n)
    where
      by : (b : Bool) → Follows (if b then bounds_written types (holder.Local k) t (out-Limits Name Note l) else None) (if b then bounds_written types holder.Result t (out-Limits Name Note l) else None)
      by true = written_follows t (out-Limits Name Note l)
      by false = λ b e. absurd cc

  -- what a local may have as its bounds, a result may have
  declared_follows : (t : CType) (n : Length) (l : Option NotedLimits) (b : Bounds) → bounds_declared types (holder.Local k) t n l ≡ Ok b
      → (c : Bounds) × (bounds_declared types holder.Result t n l ≡ Ok c)
  declared_follows t n None b e = (bounds_by_type (base.Value 0) t, refl)
  declared_follows t n (Some l) b e =
      let c = taken_follows t n l b (there_back (place_of_limits l) (bounds_taken types (holder.Local k) t n l) b e) in
      (c.0, ap (there_or bad_limits (place_of_limits l)) c.1)

-- ---- unknown bounds

known_counted : (b : Base) (f : Option Form) → counted b f ≡ Some bounds.Unknown → ⊥
known_counted b None e = absurd cc
known_counted b (Some f) e = absurd cc

known_ends : (f g : Option Form) → known_between f g ≡ Some bounds.Unknown → ⊥
known_ends None g e = absurd cc
known_ends (Some f) None e = absurd cc
known_ends (Some f) (Some g) e = absurd cc

module _ (p : Typed) (vs : List Variable) (types : Frame) (t : CType) where
  kind_none : (k : Option Kind) → bounds_of_kind (base.Value 0) k ≡ bounds.Unknown → limits_of_count p.layout t (count_of_kind k) ≡ None
  kind_none (Some kind.One) e = absurd cc
  kind_none (Some kind.Nt) e = absurd cc
  kind_none (Some kind.Raw) e = refl
  kind_none (Some kind.Arr) e = refl
  kind_none None e = refl

  written_none : (l : Limits-F Name Note NotedLimits NotedNode NotedExpr) → bounds_written types holder.Result t l ≡ Some bounds.Unknown → limits_form p vs t l ≡ None
  written_none (Limits-F.Count x at) e = absurd (known_counted (base.Value 0) (amount_form types holder.Result (amount types.structs x)) e)
  written_none (Limits-F.ByteCount x at) e =
      absurd (known_counted (base.Value 0) (elements (size_of types.structs (element_of t)) (amount_form types holder.Result (amount types.structs x))) e)
  written_none (Limits-F.Between x y at) e = absurd (known_ends (bound types holder.Result t x) (bound types holder.Result t y) e)
  written_none (Limits-F.Unknown at) e = refl

  -- a result with unknown bounds has no limits
  declared_none : (n : Length) (l : Option NotedLimits) → bounds_declared types holder.Result t n l ≡ Ok bounds.Unknown → result_limits p vs t l ≡ None
  declared_none n None e = let same : bounds_by_type (base.Value 0) t ≡ bounds.Unknown = cc in kind_none (kind_of t) same
  declared_none n (Some l) e = by (takes_bounds t n) (there_back (place_of_limits l) (bounds_taken types holder.Result t n l) bounds.Unknown e)
    where
      by : (b : Bool) → (if b then bounds_written types holder.Result t (out-Limits Name Note l) else None) ≡ Some bounds.Unknown → limits_form p vs t (out-Limits Name Note l) ≡ None
      by true f = written_none (out-Limits Name Note l) f
      by false f = absurd cc

-- ---- limits with small numbers

module _ (s : Setting) (low : (k : ℕ) → address_of s.text k ≤ statics_end) where
  base_fits : (b : Option Base) → BaseFits (result_base s b)
  base_fits None = tt
  base_fits (Some (base.Local k)) = tt
  base_fits (Some (base.Array k)) = let h = low k in omega (arith, h)
  base_fits (Some (base.Value k)) = tt

  end_fits : (f : Form) → IsClose f.add → EndFits (result_end s f)
  end_fits f c = (base_fits f.base, small_of_close f.add c)

  ends_fit : (t : CType) (f g : Form) → AreClose (bounds.Known f g) → LimitsFit (limits_between s.text.layout t (result_end s f) (result_end s g))
  ends_fit t f g c = (sizes_are_words s.text.layout (element_of t), end_fits f c.0, end_fits g c.1)

  -- the limits that declared bounds of a result are
  told_fits : (ds : List NotedDecl) (t : CType) (n : Length) (l : Option NotedLimits) (b : Bounds) → bounds_declared (types_in (frame_of_text s.text) ds) holder.Result t n l ≡ Ok b
      → IfSome (result_limits s.text s.variables t l) LimitsFit
  told_fits ds t n l bounds.Unknown e =
      subst (λ (o : Option Limits). IfSome o LimitsFit) (sym (declared_none s.text s.variables (types_in (frame_of_text s.text) ds) t n l e)) tt
  told_fits ds t n l (bounds.Known f g) e =
      let types = types_in (frame_of_text s.text) ds in
      let told : IsTold s ds t (result_limits s.text s.variables t l) (bounds.Known f g) =
      given_from (IsTold s ds t (result_limits s.text s.variables t l)) (bounds_declared types holder.Result t n l) (bounds.Known f g) (declared_told s ds t n l) e in
      subst (λ (o : Option Limits). IfSome o LimitsFit) (sym told) (ends_fit t f g (declared_close types holder.Result t n l (bounds.Known f g) e))

-- ---- results and interfaces

module _ (p : Typed) (h : NotedHead) (low : (k : ℕ) → address_of p k ≤ statics_end) (well : IsHeadWell (frame_of_text p) h) where
  abbrev types : Frame
  types = params_frame (frame_of_text p) h

  -- what bounds in a head are read by, with some variables
  abbrev heads : List Variable → Setting
  heads vs = record { text = p; frame = types; head = head_bounds (frame_of_text p) h; variables = vs; result = type_written h.result }

  results_within : (vs : List Variable) → IfSome (result_limits p vs (type_written h.result) h.bounds) LimitsFit
  results_within vs = told_fits (heads vs) low (seen_params Checked h) (type_written h.result) lengths.Plain h.bounds well.result.0 well.result.1

  abbrev HasLimits : Interface → Type 0
  HasLimits i = LimitsFit i.limits

  if_fits : (k : ℕ) (o : Option Limits) → IfSome o LimitsFit → All HasLimits (interface_if k o)
  if_fits k None f = All-nil HasLimits
  if_fits k (Some l) f = All-cons HasLimits (record { param = k; limits = l }) [] f (All-nil HasLimits)

  -- the limits of a parameter
  limits_within : (vs : List Variable) (k : ℕ) (d : NotedDecl) → d.name ≡ name.Local k → IsParamWell types d → IfSome (result_limits p vs (type_declared (seen Checked d)) d.bounds) LimitsFit
  limits_within vs k d named w =
      let y = seen Checked d in
      let t = type_written y.ctype in
      let b = w.judged.0 in
      let called : holder_of y.name ≡ holder.Local k = ap holder_of (name_seen Checked d ∙ named) in
      let judged : bounds_declared types (holder.Local k) t y.length d.bounds ≡ Ok b =
      subst (λ z. bounds_declared types (holder.Local k) t y.length z ≡ Ok b) (bounds_seen d) (subst (λ z. bounds_declared types z t y.length y.bounds ≡ Ok b) called w.judged.1) in
      let c = declared_follows types k t y.length d.bounds b judged in
      told_fits (heads vs) low (seen_params Checked h) t y.length d.bounds c.0 c.1

  one_fits : (vs : List Variable) (k : ℕ) (d : NotedDecl) → d.name ≡ name.Local k → IsParamWell types d → All HasLimits (interface_of p vs k d)
  one_fits vs k d named w = by (is_interface d)
    where
      by : (b : Bool) → All HasLimits (if b then interface_if k (result_limits p vs (type_declared (seen Checked d)) d.bounds) else [])
      by true = if_fits k (result_limits p vs (type_declared (seen Checked d)) d.bounds) (limits_within vs k d named w)
      by false = All-nil HasLimits

  each_fits : (vs : List Variable) (k : ℕ) (ds : List NotedDecl) → AreLocals k (names_declared ds) → All (IsParamWell types) ds → All HasLimits (interfaces_from p vs k ds)
  each_fits vs k [] named w = All-nil HasLimits
  each_fits vs k (d ∷ ds) named w =
      All-append HasLimits (interface_of p vs k d) (interfaces_from p vs (k + 1) ds)
      (one_fits vs k d named.0 (All-head (IsParamWell types) d ds w)) (each_fits vs (k + 1) ds named.1 (All-tail (IsParamWell types) d ds w))

  interfaces_within : AreLocals 0 (names_declared h.params) → (mode : Mode) → All HasLimits (interfaces_elaborated p mode h)
  interfaces_within named Checked = each_fits (params_of Checked h) 0 h.params named well.interfaces
  interfaces_within named Unchecked = All-nil HasLimits

-- ---- functions of a judged text

module _ (p : Typed) (j : IsJudged p) (h : NotedHead) (body : NotedStmt) (there : Contains p.tree.items (item.Function h body)) where
  -- the head as it was judged
  head_well : IsHeadWell (frame_of_text p) h
  head_well = subst (λ (frame : Frame). IsHeadWell frame h) (sym (text_same j.typed p j.has_bounds).frame) (function_well p j h body there)

  pub result_fits : IfSome (result_limits p (variables_of body.note.mode h body) (type_written h.result) h.bounds) LimitsFit
  result_fits = results_within p h (addresses_low p j) head_well (variables_of body.note.mode h body)

  pub interfaces_fit : All (λ (i : Interface). LimitsFit i.limits) (interfaces_elaborated p body.note.mode h)
  interfaces_fit = interfaces_within p h (addresses_low p j) head_well (params_numbered p h body j there) body.note.mode
