-- The bounds that are judged of a declaration name no other locals than the declaration does.
use Rattle.std.proofs.Common.{◌≡◌, refl, sym, ap, subst, ◌∙◌, ℕ, ◌+◌, Bool, true, false, List, arith, rules}
use Rattle.std.specs.Prelude.{◌^◌, ◌&&◌, ◌||◌, ◌==◌, if◌then◌else◌, ℤ, pos, ◌+ℤ◌, int_div, Option, None, Some, IfSome, slice_get}
use Rattle.std.specs.Option.{option_map}
use Rattle.std.proofs.lemmas.Bool.{eqb-true}
use Rattle.ckc_base.specs.declared.places.Pos.{Pos}
use Rattle.ckc_base.specs.Outcomes.{there_or}
use Rattle.ckc_types.specs.declared.types.CType.{CType}
use Rattle.ckc_types.specs.declared.types.Kind.{Kind}
use Rattle.ckc_types.specs.declared.types.Kind.TheVariants as kind
use Rattle.ckc_types.specs.declared.types.Structs.{Structs}
use Rattle.ckc_linear.specs.declared.forms.Base.{Base}
use Rattle.ckc_linear.specs.declared.forms.Base.TheVariants as base
use Rattle.ckc_linear.specs.declared.forms.Form.{Form}
use Rattle.ckc_syntax.specs.declared.tree.Name.{Name}
use Rattle.ckc_syntax.specs.declared.tree.Name.TheVariants as name
use Rattle.ckc_syntax.specs.declared.tree.Length.{Length}
use Rattle.ckc_syntax.specs.declared.tree.TreeOp.{TreeOp}
use Rattle.ckc_syntax.specs.declared.tree.TreeOp.TheVariants as op
use Rattle.ckc_syntax.specs.declared.tree.Limits.{Limits-F, out-Limits, roll-Limits, the_lemmas}
use Rattle.ckc_syntax.specs.declared.tree.Node.{Node-F, out-Node}
use Rattle.ckc_typed.specs.declared.environment.Amount.{Amount}
use Rattle.ckc_typed.specs.declared.typed.Note.{Note}
use Rattle.ckc_typed.specs.declared.typed.StaticObject.{StaticObject}
use Rattle.ckc_typed.specs.Amounts.{variable_in, variable_in_form, number_in, negative, moved, or_amount, sum_amount, amount_in_form, amount_by, amount, is_multiple}
use Rattle.ckc_typed.specs.Constants.{size_of}
use Rattle.ckc_typed.specs.Operands.{same_element}
use Rattle.ckc_typed.specs.Trees.{NotedLimits, NotedNode, NotedExpr, NotedLayer}
use Rattle.ckc_typed.specs.Types.{is_integer, kind_of, element_of}
use Rattle.ckc_typed_welltyped.specs.Noteless.{bare_limits, bare_expr}
use Rattle.ckc_resolve.specs.Trees.{NamedItem}
use Rattle.ckc_typed_fit.specs.Tests.{limits_pass, bounds_pass, expr_passes}
use Rattle.ckc_typed_fit.specs.Visible.{is_visible}
use Rattle.ckc_blame_sound.specs.ckc_bounds_known.proofs.Reaching.{and_cases}
use Rattle.ckc_blame_sound.specs.ckc_bounds_points.specs.declared.frame.Bounds.{Bounds}
use Rattle.ckc_blame_sound.specs.ckc_bounds_points.specs.declared.frame.Bounds.TheVariants as bounds
use Rattle.ckc_blame_sound.specs.ckc_bounds_points.specs.declared.frame.Frame.{Frame}
use Rattle.ckc_blame_sound.specs.ckc_bounds_points.specs.declared.frame.Local.{Local}
use Rattle.ckc_blame_sound.specs.ckc_bounds_points.specs.Codes.{bad_limits}
use Rattle.ckc_blame_sound.specs.ckc_bounds_points.specs.Flow.{names_local, in_form, in_bounds}
use Rattle.ckc_blame_sound.specs.ckc_bounds_points.specs.Forms.{is_small, constant_form, moved_form, sum_of_forms, base_form, elements_of, elements}
use Rattle.ckc_blame_sound.specs.ckc_bounds_points.specs.Frames.{local_at, variable_of, variable}
use Rattle.ckc_blame_sound.specs.ckc_bounds_points.specs.Shown.{is_within}
use Rattle.ckc_blame_sound.specs.ckc_bounds_declared.specs.declared.limits.Holder.TheVariants as holder
use Rattle.ckc_blame_sound.specs.ckc_bounds_declared.specs.Written.{amount_with, amount_form, counted, is_checked, local_base, is_element, array_base, named_base, named_pieces, negative_amount, sum_pieces, node_pieces, bound_with, bound, known_between, bounds_written, takes_bounds, bounds_of_kind, bounds_by_type, place_of_limits, bounds_taken, bounds_declared}
use Rattle.ckc_blame_sound.specs.ckc_bounds.specs.Declarations.{known_or_not}
use Rattle.ckc_blame_walk.specs.Scopes.{tests_of, HasLocal}
use Rattle.ckc_blame_walk.proofs.Exprs.{limits_open, limits_opened, node_open, expr_is_open, local_visible}

module _ (items : List NamedItem) (visible : List Name) where
  abbrev Passes : NotedExpr → Type 0
  Passes e = expr_passes (tests_of items) visible (bare_expr e) ≡ true

  abbrev IsVisible : Name → Type 0
  IsVisible n = is_visible items visible n ≡ true

  -- ---- the names in amounts and ends

  abbrev Names : Amount → Type 0
  Names a = IfSome a.variable IsVisible

  layer_variable : (x : NotedLayer) → node_open (tests_of items) visible x ≡ true → IfSome (variable_in_form x) IsVisible
  layer_variable (Node-F.Name n) h = h
  layer_variable x h = tt

  variable_visible : (e : NotedExpr) → Passes e → IfSome (variable_in e) IsVisible
  variable_visible e h = layer_variable (out-Node Name Note e.node) (sym (expr_is_open (tests_of items) visible e) ∙ h)

  moved_names : (v : Option Name) (c : Option ℤ) → IfSome v IsVisible → IfSome (moved v c) Names
  moved_names (Some n) (Some c) h = h
  moved_names (Some n) None h = tt
  moved_names None c h = tt

  or_names : (a b : Option Amount) → IfSome a Names → IfSome b Names → IfSome (or_amount a b) Names
  or_names None b h g = g
  or_names (Some a) b h g = h

  sum_names : (structs : Structs) (o : TreeOp) (e f : NotedExpr) → Passes e → Passes f → IfSome (sum_amount structs o e f) Names
  sum_names structs op.Add e f h g =
      or_names (moved (variable_in e) (number_in structs f)) (moved (variable_in f) (number_in structs e)) (moved_names (variable_in e) (number_in structs f) (variable_visible e h))
      (moved_names (variable_in f) (number_in structs e) (variable_visible f g))
  sum_names structs op.Sub e f h g = moved_names (variable_in e) (negative (number_in structs f)) (variable_visible e h)
  sum_names structs o e f h g = tt

  layer_names : (structs : Structs) (x : NotedLayer) → node_open (tests_of items) visible x ≡ true → IfSome (amount_in_form structs x) Names
  layer_names structs (Node-F.Name n) h = h
  layer_names structs (Node-F.Bin o e f) h =
      let p = and_cases (expr_passes (tests_of items) visible (bare_expr e)) (expr_passes (tests_of items) visible (bare_expr f)) h in sum_names structs o e f p.0 p.1
  layer_names structs x h = tt

  amount_names : (structs : Structs) (e : NotedExpr) → Passes e → IfSome (amount structs e) Names
  amount_names structs e h = by (number_in structs e)
    where
      by : (c : Option ℤ) → IfSome (amount_by structs e c) Names
      by (Some c) = tt
      by None = layer_names structs (out-Node Name Note e.node) (sym (expr_is_open (tests_of items) visible e) ∙ h)

  pieces_named : (n : Option Name) (a : Option Amount) → IfSome n IsVisible → IfSome a Names → IfSome (named_pieces n a) (λ p. IsVisible p.name × IfSome p.by Names)
  pieces_named None a h g = tt
  pieces_named (Some n) a h g = (h, g)

  negative_names : (c : Option ℤ) → IfSome (negative_amount c) Names
  negative_names None = tt
  negative_names (Some c) = tt

  sum_named : (structs : Structs) (o : TreeOp) (x : NotedLayer) (k : NotedExpr) → node_open (tests_of items) visible x ≡ true → Passes k → IfSome (sum_pieces structs o x k) (λ p. IsVisible p.name × IfSome p.by Names)
  sum_named structs op.Add (Node-F.Name n) k h g = (h, amount_names structs k g)
  sum_named structs op.Sub (Node-F.Name n) k h g = (h, negative_names (negative (number_in structs k)))
  sum_named structs op.Add (Node-F.Bin op.Add p x) k h g =
      let b = and_cases (expr_passes (tests_of items) visible (bare_expr p)) (expr_passes (tests_of items) visible (bare_expr x)) h in
      pieces_named (variable_in p) (sum_amount structs op.Add x k) (variable_visible p b.0) (sum_names structs op.Add x k b.1 g)
  sum_named structs op.Sub (Node-F.Bin op.Add p x) k h g =
      let b = and_cases (expr_passes (tests_of items) visible (bare_expr p)) (expr_passes (tests_of items) visible (bare_expr x)) h in
      pieces_named (variable_in p) (sum_amount structs op.Sub x k) (variable_visible p b.0) (sum_names structs op.Sub x k b.1 g)
  sum_named structs o x k h g = tt

  node_named : (structs : Structs) (x : NotedLayer) → node_open (tests_of items) visible x ≡ true → IfSome (node_pieces structs x) (λ p. IsVisible p.name × IfSome p.by Names)
  node_named structs (Node-F.Name n) h = (h, tt)
  node_named structs (Node-F.Bin o e k) h =
      let p = and_cases (expr_passes (tests_of items) visible (bare_expr e)) (expr_passes (tests_of items) visible (bare_expr k)) h in
      sum_named structs o (out-Node Name Note e.node) k (sym (expr_is_open (tests_of items) visible e) ∙ p.0) p.1
  node_named structs x h = tt

  -- ---- forms

  abbrev IsVariable : ℕ → Type 0
  IsVariable x = (j : ℕ) → x ≡ j + 1 → HasLocal visible j

  abbrev IsBase : Option Base → Type 0
  IsBase b = (j : ℕ) → b ≡ Some (base.Local j) → HasLocal visible j

  -- a form over locals that are visible
  record IsOver (f : Form) : Type 0 where
    pub based : IsBase f.base
    pub variable : IsVariable f.var

  abbrev IsAmount : Form → Type 0
  IsAmount f = IsVariable f.var

  no_variable : IsVariable 0
  no_variable j e = absurd (omega (arith, e))

  one_variable : (k : ℕ) → HasLocal visible k → IsVariable (k + 1)
  one_variable k h j e = let same : k ≡ j = omega (arith, e) in subst (HasLocal visible) same h

  no_base : IsBase None
  no_base j e = absurd cc

  one_base : (k : ℕ) → HasLocal visible k → IsBase (Some (base.Local k))
  one_base k h j e = let same : k ≡ j = cc in subst (HasLocal visible) same h

  array_no_base : (k : ℕ) → IsBase (Some (base.Array k))
  array_no_base k j e = absurd cc

  moved_is : (o : Option Form) (c : ℤ) → IfSome o IsAmount → IfSome (moved_form o c) IsAmount
  moved_is None c h = tt
  moved_is (Some f) c h = by (is_small f.add && is_small c)
    where
      by : (b : Bool) → IfSome (if b then Some (record f { add = f.add +ℤ c }) else None) IsAmount
      by true = h
      by false = tt

  variable_is : (k : ℕ) (l : Option Local) → HasLocal visible k → IfSome (variable_of k l) IsAmount
  variable_is k None h = tt
  variable_is k (Some l) h = by (is_integer l.ctype)
    where
      by : (b : Bool) → IfSome (if b then Some (record { base = None; var = k + 1; add = pos 0 }) else None) IsAmount
      by true = one_variable k h
      by false = tt

  named_is : (frame : Frame) (n : Name) → IsVisible n → IfSome (variable frame n) IsAmount
  named_is frame (name.Local k) h = variable_is k (local_at frame k) (local_visible items visible k h)
  named_is frame (name.Static k) h = tt
  named_is frame (name.Function k) h = tt
  named_is frame (name.Tag k) h = tt
  named_is frame (name.Member k) h = tt
  named_is frame name.Getchar h = tt
  named_is frame name.Putchar h = tt

  module _ (frame : Frame) (k : ℕ) (there : HasLocal visible k) where
    with_is : (n : Option Name) (c : ℤ) → IfSome n IsVisible → IfSome (amount_with frame (holder.Local k) n c) IsAmount
    with_is None c h = no_variable
    with_is (Some n) c h = moved_is (variable frame n) c (named_is frame n h)

    amount_is : (a : Option Amount) → IfSome a Names → IfSome (amount_form frame (holder.Local k) a) IsAmount
    amount_is None h = tt
    amount_is (Some a) h = by (is_within (2 ^ 24) a.number)
      where
        by : (b : Bool) → IfSome (if b then amount_with frame (holder.Local k) a.variable a.number else None) IsAmount
        by true = with_is a.variable a.number h
        by false = tt

    elements_is : (size : ℕ) (o : Option Form) → IfSome o IsAmount → IfSome (elements size o) IsAmount
    elements_is size None h = tt
    elements_is size (Some f) h = by (size == 1)
      where
        scaled : (b : Bool) → IfSome (if b then Some (constant_form (int_div f.add (pos size))) else None) IsAmount
        scaled true = no_variable
        scaled false = tt

        by : (b : Bool) → IfSome (if b then Some f else elements_of size f) IsAmount
        by true = h
        by false = scaled ((f.var == 0) && is_multiple f.add size)

    local_is : (t : CType) (j : ℕ) (o : Option Local) → HasLocal visible j → IfSome (local_base t j o) IsOver
    local_is t j None h = tt
    local_is t j (Some l) h = by (is_checked (kind_of l.ctype) && same_element t l.ctype)
      where
        by : (b : Bool) → IfSome (if b then Some (base_form (base.Local j)) else None) IsOver
        by true = record { based = one_base j h; variable = no_variable }
        by false = tt

    array_is : (t : CType) (j : ℕ) (o : Option StaticObject) → IfSome (array_base t j o) IsOver
    array_is t j None = tt
    array_is t j (Some o) = by (is_checked o.array && is_element t o.element)
      where
        by : (b : Bool) → IfSome (if b then Some (base_form (base.Array j)) else None) IsOver
        by true = record { based = array_no_base j; variable = no_variable }
        by false = tt

    base_is : (t : CType) (n : Name) → IsVisible n → IfSome (named_base frame t n) IsOver
    base_is t (name.Local j) h = local_is t j (local_at frame j) (local_visible items visible j h)
    base_is t (name.Static j) h = array_is t j (slice_get frame.statics j)
    base_is t (name.Function j) h = tt
    base_is t (name.Tag j) h = tt
    base_is t (name.Member j) h = tt
    base_is t name.Getchar h = tt
    base_is t name.Putchar h = tt

    sum_is : (o p : Option Form) → IfSome o IsOver → IfSome p IsAmount → IfSome (sum_of_forms o p) IsOver
    sum_is None p g i = tt
    sum_is (Some f) None g i = tt
    sum_is (Some f) (Some a) g i = by (a.var == 0) (f.var == 0)
      where
        small : (b : Bool) (e : Form) → IsOver e → IfSome (if b then Some (record e { add = e.add +ℤ a.add }) else None) IsOver
        small true e w = record { based = w.based; variable = w.variable }
        small false e w = tt

        by : (b c : Bool) → IfSome (if b then moved_form (Some f) a.add else (if c then moved_form (Some (record f { var = a.var })) a.add else None)) IsOver
        by true c = small (is_small f.add && is_small a.add) f g
        by false true = small (is_small f.add && is_small a.add) (record f { var = a.var }) (record { based = g.based; variable = i })
        by false false = tt

    bound_is : (t : CType) (p : _) (o : Option Form) → bound_with frame (holder.Local k) t p ≡ o → IfSome p (λ p. IsVisible p.name × IfSome p.by Names) → IfSome o IsOver
    bound_is t None o e h = subst (λ o. IfSome o IsOver) e tt
    bound_is t (Some p) o e h =
        subst (λ o. IfSome o IsOver) e (sum_is (named_base frame t p.name) (amount_form frame (holder.Local k) p.by) (base_is t p.name h.0) (amount_is p.by h.1))

    end_is : (t : CType) (e : NotedExpr) → Passes e → IfSome (bound frame (holder.Local k) t e) IsOver
    end_is t e h =
        bound_is t (node_pieces frame.structs (out-Node Name Note e.node)) (bound frame (holder.Local k) t e) refl
        (node_named frame.structs (out-Node Name Note e.node) (sym (expr_is_open (tests_of items) visible e) ∙ h))

    -- ---- bounds

    abbrev AreOver : Bounds → Type 0
    AreOver b = (j : ℕ) → in_bounds j b ≡ true → HasLocal visible j

    in_base : (b : Option Base) → IsBase b → (j : ℕ) → names_local j b ≡ true → HasLocal visible j
    in_base None w j h = absurd cc
    in_base (Some (base.Local i)) w j h = w j (ap (λ n. Some (base.Local n)) (eqb-true i j h))
    in_base (Some (base.Array i)) w j h = absurd cc
    in_base (Some (base.Value i)) w j h = absurd cc

    in_one : (f : Form) → IsOver f → (j : ℕ) → in_form j f ≡ true → HasLocal visible j
    in_one f w j h = by (names_local j f.base) refl h
      where
        by : (b : Bool) → names_local j f.base ≡ b → (b || (f.var == j + 1)) ≡ true → HasLocal visible j
        by true e h = in_base f.base w.based j e
        by false e h = w.variable j (eqb-true f.var (j + 1) h)

    known_over : (f g : Form) → IsOver f → IsOver g → AreOver (bounds.Known f g)
    known_over f g v w j h = by (in_form j f) refl h
      where
        by : (b : Bool) → in_form j f ≡ b → (b || in_form j g) ≡ true → HasLocal visible j
        by true e h = in_one f v j e
        by false e h = in_one g w j h

    own_over : (c : ℤ) → IsOver (record { base = Some (base.Local k); var = 0; add = c })
    own_over c = record { based = one_base k there; variable = no_variable }

    counted_over : (o : Option Form) → IfSome o IsAmount → IfSome (counted (base.Local k) o) AreOver
    counted_over None h = tt
    counted_over (Some f) h = known_over (base_form (base.Local k)) (record f { base = Some (base.Local k) }) (own_over (pos 0)) (record { based = one_base k there; variable = h })

    between_over : (o p : Option Form) → IfSome o IsOver → IfSome p IsOver → IfSome (known_between o p) AreOver
    between_over None p h g = tt
    between_over (Some f) None h g = tt
    between_over (Some f) (Some e) h g = known_over f e h g

    unknown_over : AreOver bounds.Unknown
    unknown_over j h = absurd cc

    written_over : (t : CType) (l : Limits-F Name Note NotedLimits NotedNode NotedExpr) → limits_open (tests_of items) visible l ≡ true → IfSome (bounds_written frame (holder.Local k) t l) AreOver
    written_over t (Limits-F.Count e at) h =
        counted_over (amount_form frame (holder.Local k) (amount frame.structs e)) (amount_is (amount frame.structs e) (amount_names frame.structs e h))
    written_over t (Limits-F.ByteCount e at) h =
        let size = size_of frame.structs (element_of t) in
        counted_over (elements size (amount_form frame (holder.Local k) (amount frame.structs e)))
        (elements_is size (amount_form frame (holder.Local k) (amount frame.structs e)) (amount_is (amount frame.structs e) (amount_names frame.structs e h)))
    written_over t (Limits-F.Between e f at) h =
        let p = and_cases (expr_passes (tests_of items) visible (bare_expr e)) (expr_passes (tests_of items) visible (bare_expr f)) h in
        between_over (bound frame (holder.Local k) t e) (bound frame (holder.Local k) t f) (end_is t e p.0) (end_is t f p.1)
    written_over t (Limits-F.Unknown at) h = unknown_over

    by_type_over : (t : CType) → AreOver (bounds_by_type (base.Local k) t)
    by_type_over t = by (kind_of t)
      where
        by : (o : Option Kind) → AreOver (bounds_of_kind (base.Local k) o)
        by (Some kind.One) = known_over (base_form (base.Local k)) (record { base = Some (base.Local k); var = 0; add = pos 1 }) (own_over (pos 0)) (own_over (pos 1))
        by (Some kind.Nt) = known_over (base_form (base.Local k)) (base_form (base.Local k)) (own_over (pos 0)) (own_over (pos 0))
        by (Some kind.Raw) = unknown_over
        by (Some kind.Arr) = unknown_over
        by None = unknown_over

    limits_back : (l : NotedLimits) → roll-Limits Name Note (out-Limits Name Note l) ≡ l
    limits_back l = search (rules, the_lemmas)

    taken_over : (t : CType) (length : Length) (l : NotedLimits) → limits_pass (tests_of items) visible (bare_limits l) ≡ true
        → IfSome (bounds_taken frame (holder.Local k) t length l) AreOver
    taken_over t length l h = by (takes_bounds t length)
      where
        passes : limits_open (tests_of items) visible (out-Limits Name Note l) ≡ true
        passes =
            sym (limits_opened (tests_of items) visible (out-Limits Name Note l)) ∙ ap (λ (m : NotedLimits). limits_pass (tests_of items) visible (bare_limits m)) (limits_back l) ∙ h

        by : (b : Bool) → IfSome (if b then bounds_written frame (holder.Local k) t (out-Limits Name Note l) else None) AreOver
        by true = written_over t (out-Limits Name Note l) passes
        by false = tt

    known_there : (at : Pos) (o : Option Bounds) → IfSome o AreOver → AreOver (known_or_not (there_or bad_limits at o))
    known_there at None h = unknown_over
    known_there at (Some b) h = h

    -- The bounds of the local k, as they are declared, name locals that are visible there.
    pub declared_over : (t : CType) (length : Length) (l : Option NotedLimits) → bounds_pass (tests_of items) visible (option_map bare_limits l) ≡ true
        → (j : ℕ) → in_bounds j (known_or_not (bounds_declared frame (holder.Local k) t length l)) ≡ true → HasLocal visible j
    declared_over t length None h = by_type_over t
    declared_over t length (Some l) h = known_there (place_of_limits l) (bounds_taken frame (holder.Local k) t length l) (taken_over t length l h)
