-- A program reads the bounds of a result as a head tells them.
use Rattle.std.proofs.Common.{◌≡◌, ◌∙◌, sym, ap, subst, refl, inl, inr, arith, rules, ℕ, List}
use Rattle.std.specs.Prelude.{◌⊎◌, ◌+◌, ◌-◌, ◌^◌, ◌==◌, Bool, true, false, ◌&&◌, if◌then◌else◌, ℤ, pos, neg_ℤ, ◌+ℤ◌, ◌-ℤ◌, Option, Some, None, slice_get, IfSome, int_div}
use Rattle.ckc_base.proofs.Gives.{Gives}
use Rattle.std.proofs.lemmas.Bool.{eqb-true}
use Rattle.std.proofs.lemmas.Int.{ints}
use Rattle.ckc_base.specs.declared.arithmetic.Mode.TheVariants.{Checked}
use Rattle.ckc_types.specs.declared.types.CType.{CType}
use Rattle.ckc_types.specs.declared.types.Kind.{Kind}
use Rattle.ckc_types.specs.declared.types.Kind.TheVariants as kind
use Rattle.ckc_types.specs.declared.types.Structs.{Structs}
use Rattle.ckc_linear.specs.declared.forms.Base.{Base}
use Rattle.ckc_linear.specs.declared.forms.Base.TheVariants as base
use Rattle.ckc_linear.specs.declared.forms.Form.{Form}
use Rattle.ckc_syntax.specs.declared.tree.Name.{Name}
use Rattle.ckc_syntax.specs.declared.tree.Name.TheVariants as name
use Rattle.ckc_syntax.specs.declared.tree.Length.{Length}
use Rattle.ckc_syntax.specs.declared.tree.Length.TheVariants as lengths
use Rattle.ckc_syntax.specs.declared.tree.TreeOp.{TreeOp}
use Rattle.ckc_syntax.specs.declared.tree.TreeOp.TheVariants as op
use Rattle.ckc_syntax.specs.declared.tree.Limits.{Limits-F, out-Limits}
use Rattle.ckc_syntax.specs.declared.tree.Node.{Node-F, out-Node, roll-Node, fold-roll-Node, the_lemmas}
use Rattle.ckc_syntax.specs.declared.tree.Expr.{fold-roll-Expr}
use Rattle.ckc_typed.specs.declared.environment.Constant.{Constant}
use Rattle.ckc_typed.specs.declared.typed.Note.{Note}
use Rattle.ckc_typed.specs.Amounts.{variable_in, variable_in_form, number_of, number_in, negative, fixed, moved, or_amount, sum_amount, amount, amount_by, amount_in_form, is_multiple, scaled, amount_of_bytes}
use Rattle.ckc_typed.specs.Constants.{constant, constant_of_node, limits_constant, node_constant, expr_constant}
use Rattle.ckc_typed.specs.declared.environment.Amount.{Amount}
use Rattle.ckc_typed.specs.declared.typed.StaticObject.{StaticObject}
use Rattle.ckc_typed.specs.declared.typed.Typed.{Typed}
use Rattle.ckc_typed.specs.Interfaces.{seen_params}
use Rattle.ckc_typed.specs.Operands.{same_element}
use Rattle.ckc_typed.specs.Trees.{NotedDecl, NotedHead, NotedStmt, NotedLimits, NotedNode, NotedExpr, NotedLayer}
use Rattle.ckc_typed.specs.Types.{is_integer, kind_of, type_written}
use Rattle.ckc_typed.specs.Environment.{variables_of}
use Rattle.ckc_blame_sound.specs.ckc_bounds_points.specs.declared.frame.Bounds.{Bounds}
use Rattle.ckc_blame_sound.specs.ckc_bounds_points.specs.declared.frame.Bounds.TheVariants as bounds
use Rattle.ckc_blame_sound.specs.ckc_bounds_points.specs.declared.frame.Local.{Local}
use Rattle.ckc_blame_sound.specs.ckc_bounds_points.specs.Codes.{bad_limits}
use Rattle.ckc_blame_sound.specs.ckc_bounds_points.specs.declared.frame.Frame.{Frame}
use Rattle.ckc_blame_sound.specs.ckc_bounds_points.specs.Forms.{is_small, constant_form, moved_form, sum_of_forms, base_form, elements_of, elements}
use Rattle.ckc_blame_sound.specs.ckc_bounds_points.specs.Frames.{local_at, variable_of}
use Rattle.ckc_blame_sound.specs.ckc_bounds_points.specs.Shown.{is_within}
use Rattle.ckc_blame_sound.specs.ckc_bounds_declared.specs.declared.limits.Holder.TheVariants as holder
use Rattle.ckc_blame_sound.specs.ckc_bounds_declared.specs.Written.{variable_for, amount_with, amount_form, is_checked, local_base, is_element, array_base, named_base, named_pieces, negative_amount, node_pieces, sum_pieces, bound_with, bound, counted, known_between, bounds_written, takes_bounds, bounds_of_kind, place_of_limits, bounds_declared}
use Rattle.ckc_blame_sound.specs.ckc_bounds.specs.Declarations.{types_in, params_frame, result_bounds}
use Rattle.ckc_source.specs.declared.expr.Base as ends
use Rattle.ckc_source.specs.declared.expr.Base.TheVariants as lies
use Rattle.ckc_source.specs.declared.expr.End.{End}
use Rattle.ckc_source.specs.declared.expr.Limits.{Limits}
use Rattle.ckc_source.specs.Code.{Function}
use Rattle.ckc_build_values.specs.Ends.{local_variable, end_behind, limits_between, variable_at}
use Rattle.ckc_build_values.specs.Kinds.{count_of_kind, size_behind}
use Rattle.ckc_build_results.specs.Results.{own_end, plus, less, shifted, end_named, pointer_form, bound_form, outer_form, limits_if, limits_form, limits_of_count, result_limits}
use Rattle.ckc_build_results.specs.Results as read
use Rattle.ckc_blame_sound.specs.Settings.{Setting, IsFunction, frame_of_text, setting_of}
use Rattle.ckc_blame_sound.specs.Passed.{result_base, result_end, result_between}
use Rattle.ckc_blame_declared.proofs.Ends.{there_is}
use Rattle.ckc_blame_declared.proofs.Locals.{known}

-- A form counts what an amount says.
record IsSaid (a : Amount) (f : Form) : Type 0 where
  pub number : f.add ≡ a.number
  pub variable : ((a.variable ≡ None) × (f.var ≡ 0)) ⊎ ((k : ℕ) × (a.variable ≡ Some (name.Local k)) × (f.var ≡ k + 1))

zero_plus : (c : ℤ) → pos 0 +ℤ c ≡ c
zero_plus c = omega (arith, ints)

variable_behind : (s : Setting) (k : ℕ) → variable_at s.variables (k + 1) ≡ Some (local_variable s.variables k)
variable_behind s k = by (k + 1) refl ((k + 1) == 0) refl (omega arith)
  where
    by : (x : ℕ) → x ≡ k + 1 → (b : Bool) → (x == 0) ≡ b → x - 1 ≡ k → variable_at s.variables x ≡ Some (local_variable s.variables k)
    by x is true e f = let zero : x ≡ 0 = eqb-true x 0 e in absurd (omega (arith, is, zero))
    by x is false e f = ap (λ b. if b then None else Some (local_variable s.variables (x - 1))) e ∙ ap (λ n. Some (local_variable s.variables n)) f

-- ---- names and constants

node_back : (n : NotedNode) → roll-Node Name Note (out-Node Name Note n) ≡ n
node_back n = search (rules, the_lemmas)

-- the name of an expression is no constant
name_no_number : (structs : Structs) (e : NotedExpr) (n : Name) → out-Node Name Note e.node ≡ Node-F.Name n → number_in structs e ≡ None
name_no_number structs e n is =
    let whole : constant structs e ≡ constant_of_node structs e.node =
    fold-roll-Expr Name Note (Unit {0}) (Option Constant) (Option Constant) limits_constant (node_constant structs) expr_constant (record { node = e.node; pos = e.pos; note = e.note }) in
    let node : constant_of_node structs e.node ≡ None =
    ap (constant_of_node structs) (sym (node_back e.node) ∙ ap (roll-Node Name Note) is)
    ∙ fold-roll-Node Name Note (Unit {0}) (Option Constant) (Option Constant) limits_constant (node_constant structs) expr_constant (Node-F.Name n) in
    ap number_of (whole ∙ node)

name_amount : (structs : Structs) (e : NotedExpr) (n : Name) → variable_in e ≡ Some n → amount structs e ≡ Some (record { variable = Some n; number = pos 0 })
name_amount structs e n is = by (out-Node Name Note e.node) refl is
  where
    by : (y : NotedLayer) → out-Node Name Note e.node ≡ y → variable_in_form y ≡ Some n → amount structs e ≡ Some (record { variable = Some n; number = pos 0 })
    by (Node-F.Name m) same f =
        let which : m ≡ n = cc in
        ap (amount_by structs e) (name_no_number structs e m same) ∙ ap (amount_in_form structs) same ∙ ap (λ (k : Name). Some (record { variable = Some k; number = pos 0 })) which
    by y same f = absurd cc

module _ (s : Setting) (ds : List NotedDecl) where
  abbrev T : Frame
  T = types_in (frame_of_text s.text) ds

  -- what an amount says, if it has a form
  abbrev Says : Option Amount → Form → Type 0
  Says a f = (b : Amount) × (a ≡ Some b) × IsSaid b f

  local_said : (a : Amount) (k : ℕ) (o : Option Local) → a.variable ≡ Some (name.Local k) → IfSome (moved_form (variable_of k o) a.number) (IsSaid a)
  local_said a k None e = tt
  local_said a k (Some l) e = by (is_integer l.ctype)
    where
      moved : (b : Bool) → IfSome (if b then Some (record { base = None; var = k + 1; add = pos 0 +ℤ a.number }) else None) (IsSaid a)
      moved true = record { number = zero_plus a.number; variable = inr (k, e, refl) }
      moved false = tt

      by : (b : Bool) → IfSome (moved_form (if b then Some (record { base = None; var = k + 1; add = pos 0 }) else None) a.number) (IsSaid a)
      by true = moved (is_small (pos 0) && is_small a.number)
      by false = tt

  named_said : (a : Amount) (n : Name) → a.variable ≡ Some n → IfSome (moved_form (variable_for T holder.Result n) a.number) (IsSaid a)
  named_said a (name.Local k) e = local_said a k (local_at T k) e
  named_said a (name.Static k) e = tt
  named_said a (name.Function k) e = tt
  named_said a (name.Tag k) e = tt
  named_said a (name.Member k) e = tt
  named_said a name.Getchar e = tt
  named_said a name.Putchar e = tt

  with_said : (a : Amount) (n : Option Name) → a.variable ≡ n → IfSome (amount_with T holder.Result n a.number) (IsSaid a)
  with_said a None e = record { number = refl; variable = inl (e, refl) }
  with_said a (Some n) e = named_said a n e

  amount_said : (a : Amount) → IfSome (amount_form T holder.Result (Some a)) (IsSaid a)
  amount_said a = by (is_within (2 ^ 24) a.number)
    where
      by : (b : Bool) → IfSome (if b then amount_with T holder.Result a.variable a.number else None) (IsSaid a)
      by true = with_said a a.variable refl
      by false = tt

  -- ---- what a program reads

  plus_said : (a : Amount) (f : Form) (b : ends.Base) (c : ℤ) → IsSaid a f → plus s.variables (end_behind b None c) a.variable a.number ≡ Some (end_behind b (variable_at s.variables f.var) (c +ℤ f.add))
  plus_said a f b c h = elim h.variable [
    | inl n ↦ ap (λ (v : Option Name). plus s.variables (end_behind b None c) v a.number) n.0
        ∙ ap (λ (x : ℕ). Some (end_behind b (variable_at s.variables x) (c +ℤ a.number))) (sym n.1)
        ∙ ap (λ (z : ℤ). Some (end_behind b (variable_at s.variables f.var) (c +ℤ z))) (sym h.number)
    | inr n ↦ ap (λ (v : Option Name). plus s.variables (end_behind b None c) v a.number) n.1
        ∙ ap (λ v. Some (end_behind b v (c +ℤ a.number))) (sym (ap (λ (x : ℕ). variable_at s.variables x) n.2 ∙ variable_behind s n.0))
        ∙ ap (λ (z : ℤ). Some (end_behind b (variable_at s.variables f.var) (c +ℤ z))) (sym h.number)
  ]

  -- a place is a base, which the program has too
  record IsPlaced (n : Name) (f : Form) : Type 0 where
    pub base : Base
    pub is : f ≡ base_form base
    pub named : end_named s.text n ≡ Some (end_behind (result_base s (Some base)) None (pos 0))

  local_placed : (t : CType) (k : ℕ) (o : Option Local) → IfSome (local_base t k o) (IsPlaced (name.Local k))
  local_placed t k None = tt
  local_placed t k (Some l) = by (is_checked (kind_of l.ctype) && same_element t l.ctype)
    where
      by : (b : Bool) → IfSome (if b then Some (base_form (base.Local k)) else None) (IsPlaced (name.Local k))
      by true = record { base = base.Local k; is = refl; named = refl }
      by false = tt

  array_placed : (t : CType) (k : ℕ) (o : Option StaticObject) → IfSome (array_base t k o) (IsPlaced (name.Static k))
  array_placed t k None = tt
  array_placed t k (Some o) = by (is_checked o.array && is_element t o.element)
    where
      by : (b : Bool) → IfSome (if b then Some (base_form (base.Array k)) else None) (IsPlaced (name.Static k))
      by true = record { base = base.Array k; is = refl; named = refl }
      by false = tt

  base_placed : (t : CType) (n : Name) → IfSome (named_base T t n) (IsPlaced n)
  base_placed t (name.Local k) = local_placed t k (local_at T k)
  base_placed t (name.Static k) = array_placed t k (slice_get T.statics k)
  base_placed t (name.Function k) = tt
  base_placed t (name.Tag k) = tt
  base_placed t (name.Member k) = tt
  base_placed t name.Getchar = tt
  base_placed t name.Putchar = tt

  -- the end that the sum of a place and an amount is
  abbrev IsSum : Base → Form → Form → Type 0
  IsSum b f g = result_end s g ≡ end_behind (result_base s (Some b)) (variable_at s.variables f.var) (pos 0 +ℤ f.add)

  sum_said : (b : Base) (f : Form) → IfSome (sum_of_forms (Some (base_form b)) (Some f)) (IsSum b f)
  sum_said b f = by (f.var == 0) refl
    where
      small : (c : Bool) (x : ℕ) → x ≡ f.var → IfSome (if c then Some (record { base = Some b; var = x; add = pos 0 +ℤ f.add }) else None) (IsSum b f)
      small true x e = ap (λ (y : ℕ). end_behind (result_base s (Some b)) (variable_at s.variables y) (pos 0 +ℤ f.add)) e
      small false x e = tt

      by : (c : Bool) → (f.var == 0) ≡ c → IfSome (if c then moved_form (Some (base_form b)) f.add else moved_form (Some (record (base_form b) { var = f.var })) f.add) (IsSum b f)
      by true e = small (is_small (pos 0) && is_small f.add) 0 (sym (eqb-true f.var 0 e))
      by false e = small (is_small (pos 0) && is_small f.add) f.var refl

  there_said : (a : Option Amount) → IfSome (amount_form T holder.Result a) (Says a)
  there_said None = tt
  there_said (Some a) = by (amount_form T holder.Result (Some a)) (amount_said a)
    where
      by : (o : Option Form) → IfSome o (IsSaid a) → IfSome o (Says (Some a))
      by None h = tt
      by (Some f) h = (a, refl, h)

  -- the end that a name and an amount say
  abbrev IsRead : Name → Option Amount → Option End → Type 0
  IsRead n a e =
      (b : Base) (c : Amount) (f : Form) → end_named s.text n ≡ Some (end_behind (result_base s (Some b)) None (pos 0)) → a ≡ Some c → IsSaid c f
      → e ≡ Some (end_behind (result_base s (Some b)) (variable_at s.variables f.var) (pos 0 +ℤ f.add))

  abbrev Reads : Option End → Form → Type 0
  Reads e g = e ≡ Some (result_end s g)

  sum_read : (t : CType) (n : Name) (a : Option Amount) (e : Option End) → IsRead n a e → IfSome (sum_of_forms (named_base T t n) (amount_form T holder.Result a)) (Reads e)
  sum_read t n a e r = by (named_base T t n) (base_placed t n) (amount_form T holder.Result a) (there_said a)
    where
      turned : (b : Base) (f : Form) → e ≡ Some (end_behind (result_base s (Some b)) (variable_at s.variables f.var) (pos 0 +ℤ f.add)) → (o : Option Form) → IfSome o (IsSum b f) → IfSome o (Reads e)
      turned b f k None h = tt
      turned b f k (Some g) h = k ∙ ap (λ (x : End). Some x) (sym h)

      by : (o : Option Form) → IfSome o (IsPlaced n) → (q : Option Form) → IfSome q (Says a) → IfSome (sum_of_forms o q) (Reads e)
      by None h q w = tt
      by (Some x) h None w = tt
      by (Some x) h (Some f) w =
          subst (λ (y : Form). IfSome (sum_of_forms (Some y) (Some f)) (Reads e)) (sym h.is)
          (turned h.base f (r h.base w.0 f h.named w.1 w.2) (sum_of_forms (Some (base_form h.base)) (Some f)) (sum_said h.base f))

  name_read : (n : Name) → IsRead n (Some (fixed (pos 0))) (end_named s.text n)
  name_read n b c f there is h =
      let same : fixed (pos 0) ≡ c = cc in
      there ∙ sym (ap (λ z. Some (end_behind (result_base s (Some b)) None z)) (zero_plus (pos 0))) ∙ plus_said (fixed (pos 0)) f (result_base s (Some b)) (pos 0) (subst (λ d. IsSaid d f) (sym same) h)

  add_read : (n : Name) (k : NotedExpr) → IsRead n (amount s.text.layout k) (shifted s.variables op.Add (end_named s.text n) (amount s.text.layout k))
  add_read n k b c f there is h =
      ap (λ e. shifted s.variables op.Add e (amount s.text.layout k)) there
      ∙ ap (shifted s.variables op.Add (Some (end_behind (result_base s (Some b)) None (pos 0)))) is ∙ plus_said c f (result_base s (Some b)) (pos 0) h

  minus : (c : ℤ) → pos 0 -ℤ c ≡ pos 0 +ℤ neg_ℤ c
  minus c = omega (arith, ints)

  less_read : (n : Name) (k : NotedExpr) → IsRead n (negative_amount (negative (number_in s.text.layout k))) (shifted s.variables op.Sub (end_named s.text n) (amount s.text.layout k))
  less_read n k b c f there is h =
      ap (λ e. shifted s.variables op.Sub e (amount s.text.layout k)) there ∙ by (number_in s.text.layout k) is
    where
      by : (o : Option ℤ) → negative_amount (negative o) ≡ Some c
          → shifted s.variables op.Sub (Some (end_behind (result_base s (Some b)) None (pos 0))) (amount_by s.text.layout k o) ≡ Some (end_behind (result_base s (Some b)) (variable_at s.variables f.var) (pos 0 +ℤ f.add))
      by None e = absurd cc
      by (Some z) e =
          let same : fixed (neg_ℤ z) ≡ c = cc in
          ap (λ x. Some (end_behind (result_base s (Some b)) None x)) (minus z) ∙ plus_said (fixed (neg_ℤ z)) f (result_base s (Some b)) (pos 0) (subst (λ d. IsSaid d f) (sym same) h)

  -- ---- two amounts

  abbrev named_amount : Name → ℤ → Amount
  named_amount m c = record { variable = Some m; number = c }

  -- a name and a number that a sum is of
  abbrev IsMoved : Option Name → Option ℤ → Amount → Type 0
  IsMoved v z a = (m : Name) × (c : ℤ) × (v ≡ Some m) × (z ≡ Some c) × (a ≡ named_amount m c)

  moved_is : (v : Option Name) (z : Option ℤ) (a : Amount) → moved v z ≡ Some a → IsMoved v z a
  moved_is (Some m) (Some c) a e = (m, c, refl, refl, cc)
  moved_is (Some m) None a e = absurd cc
  moved_is None z a e = absurd cc

  or_is : (o q : Option Amount) (a : Amount) → or_amount o q ≡ Some a → (o ≡ Some a) ⊎ (q ≡ Some a)
  or_is None q a e = inr e
  or_is (Some b) q a e = inl e

  -- a name alone after a place
  alone : (m : Name) (c : ℤ) (f : Form) (b : ends.Base) (at : ℤ) → IsSaid (named_amount m c) f
      → plus s.variables (end_behind b None at) (Some m) (pos 0) ≡ Some (end_behind b (variable_at s.variables f.var) (at +ℤ pos 0))
  alone m c f b at h = plus_said (named_amount m (pos 0)) (record f { add = pos 0 }) b at (record { number = refl; variable = h.variable })

  name_first : (c d : ℤ) → d ≡ c → (pos 0 +ℤ pos 0) +ℤ c ≡ pos 0 +ℤ d
  name_first c d e = omega (arith, ints)

  number_first : (c d : ℤ) → d ≡ c → (pos 0 +ℤ c) +ℤ pos 0 ≡ pos 0 +ℤ d
  number_first c d e = omega (arith, ints)

  name_before : (c d : ℤ) → d ≡ neg_ℤ c → (pos 0 +ℤ pos 0) -ℤ c ≡ pos 0 +ℤ d
  name_before c d e = omega (arith, ints)

  abbrev first_end : Base → Option End
  first_end b = Some (end_behind (result_base s (Some b)) None (pos 0))

  abbrev twice : TreeOp → Option End → Option Amount → Option Amount → Option End
  twice o e x k = shifted s.variables o (shifted s.variables op.Add e x) k

  abbrev last_end : Base → Form → Option End
  last_end b f = Some (end_behind (result_base s (Some b)) (variable_at s.variables f.var) (pos 0 +ℤ f.add))

  number_amount : (e : NotedExpr) (c : ℤ) → number_in s.text.layout e ≡ Some c → amount s.text.layout e ≡ Some (fixed c)
  number_amount e c is = ap (amount_by s.text.layout e) is

  -- `p + x + c`
  name_then : (b : Base) (f : Form) (m : Name) (c : ℤ) → IsSaid (named_amount m c) f → twice op.Add (first_end b) (Some (named_amount m (pos 0))) (Some (fixed c)) ≡ last_end b f
  name_then b f m c h =
      ap (λ e. shifted s.variables op.Add e (Some (fixed c))) (alone m c f (result_base s (Some b)) (pos 0) h)
      ∙ ap (λ z. Some (end_behind (result_base s (Some b)) (variable_at s.variables f.var) z)) (name_first c f.add h.number)

  -- `p + c + x`
  number_then : (b : Base) (f : Form) (m : Name) (c : ℤ) → IsSaid (named_amount m c) f → twice op.Add (first_end b) (Some (fixed c)) (Some (named_amount m (pos 0))) ≡ last_end b f
  number_then b f m c h =
      alone m c f (result_base s (Some b)) (pos 0 +ℤ c) h
      ∙ ap (λ z. Some (end_behind (result_base s (Some b)) (variable_at s.variables f.var) z)) (number_first c f.add h.number)

  -- `p + x - c`
  name_less : (b : Base) (f : Form) (m : Name) (c : ℤ) → IsSaid (named_amount m (neg_ℤ c)) f → twice op.Sub (first_end b) (Some (named_amount m (pos 0))) (Some (fixed c)) ≡ last_end b f
  name_less b f m c h =
      ap (λ e. shifted s.variables op.Sub e (Some (fixed c))) (alone m (neg_ℤ c) f (result_base s (Some b)) (pos 0) h)
      ∙ ap (λ z. Some (end_behind (result_base s (Some b)) (variable_at s.variables f.var) z)) (name_before c f.add h.number)

  amounts : (o : TreeOp) (n : Name) (x k : NotedExpr) (b : Base) {u v : Option Amount} → end_named s.text n ≡ first_end b → amount s.text.layout x ≡ u → amount s.text.layout k ≡ v
      → twice o (end_named s.text n) (amount s.text.layout x) (amount s.text.layout k) ≡ twice o (first_end b) u v
  amounts o n x k b {u} {v} there g h =
      ap (λ e. twice o e (amount s.text.layout x) (amount s.text.layout k)) there ∙ ap (λ y. twice o (first_end b) y (amount s.text.layout k)) g ∙ ap (twice o (first_end b) u) h

  both_read : (n : Name) (x k : NotedExpr) → IsRead n (sum_amount s.text.layout op.Add x k) (twice op.Add (end_named s.text n) (amount s.text.layout x) (amount s.text.layout k))
  both_read n x k b a f there is h =
      elim (or_is (moved (variable_in x) (number_in s.text.layout k)) (moved (variable_in k) (number_in s.text.layout x)) a is) [
        | inl e ↦ first (moved_is (variable_in x) (number_in s.text.layout k) a e)
        | inr e ↦ second (moved_is (variable_in k) (number_in s.text.layout x) a e)
      ]
    where
      first : IsMoved (variable_in x) (number_in s.text.layout k) a → twice op.Add (end_named s.text n) (amount s.text.layout x) (amount s.text.layout k) ≡ last_end b f
      first w = amounts op.Add n x k b there (name_amount s.text.layout x w.0 w.2) (number_amount k w.1 w.3) ∙ name_then b f w.0 w.1 (subst (λ c. IsSaid c f) w.4 h)

      second : IsMoved (variable_in k) (number_in s.text.layout x) a → twice op.Add (end_named s.text n) (amount s.text.layout x) (amount s.text.layout k) ≡ last_end b f
      second w = amounts op.Add n x k b there (number_amount x w.1 w.3) (name_amount s.text.layout k w.0 w.2) ∙ number_then b f w.0 w.1 (subst (λ c. IsSaid c f) w.4 h)

  negative_is : (o : Option ℤ) (c : ℤ) → negative o ≡ Some c → (z : ℤ) × (o ≡ Some z) × (c ≡ neg_ℤ z)
  negative_is None c e = absurd cc
  negative_is (Some z) c e = (z, refl, cc)

  before_read : (n : Name) (x k : NotedExpr) → IsRead n (sum_amount s.text.layout op.Sub x k) (twice op.Sub (end_named s.text n) (amount s.text.layout x) (amount s.text.layout k))
  before_read n x k b a f there is h =
      let w = moved_is (variable_in x) (negative (number_in s.text.layout k)) a is in
      let z = negative_is (number_in s.text.layout k) w.1 w.3 in
      amounts op.Sub n x k b there (name_amount s.text.layout x w.0 w.2) (number_amount k z.0 z.1)
      ∙ name_less b f w.0 z.0 (subst (λ c. IsSaid c f) (w.4 ∙ ap (named_amount w.0) z.2) h)

  -- ---- an end

  abbrev ReadsBound : CType → NotedLayer → Type 0
  ReadsBound t y = IfSome (bound_with T holder.Result t (node_pieces s.text.layout y)) (Reads (outer_form s.text s.variables y))

  -- a pointer with two amounts
  twice_read : (t : CType) (o : TreeOp) (y : NotedLayer) (x k : NotedExpr) (a : Option Amount)
      → ((n : Name) → IsRead n a (twice o (end_named s.text n) (amount s.text.layout x) (amount s.text.layout k)))
      → IfSome (bound_with T holder.Result t (named_pieces (variable_in_form y) a)) (Reads (twice o (pointer_form s.text y) (amount s.text.layout x) (amount s.text.layout k)))
  twice_read t o (Node-F.Name n) x k a r = sum_read t n a (twice o (end_named s.text n) (amount s.text.layout x) (amount s.text.layout k)) (r n)
  twice_read t o y x k a r = tt

  pieces_read : (t : CType) (o : TreeOp) (y : NotedLayer) (k : NotedExpr)
      → IfSome (bound_with T holder.Result t (sum_pieces s.text.layout o y k)) (Reads (shifted s.variables o (bound_form s.text s.variables y) (amount s.text.layout k)))
  pieces_read t op.Add (Node-F.Name n) k = sum_read t n (amount s.text.layout k) _ (add_read n k)
  pieces_read t op.Sub (Node-F.Name n) k = sum_read t n (negative_amount (negative (number_in s.text.layout k))) _ (less_read n k)
  pieces_read t op.Add (Node-F.Bin op.Add p x) k = twice_read t op.Add (out-Node Name Note p.node) x k (sum_amount s.text.layout op.Add x k) (λ n. both_read n x k)
  pieces_read t op.Sub (Node-F.Bin op.Add p x) k = twice_read t op.Sub (out-Node Name Note p.node) x k (sum_amount s.text.layout op.Sub x k) (λ n. before_read n x k)
  pieces_read t o y k = tt

  layer_read : (t : CType) (y : NotedLayer) → ReadsBound t y
  layer_read t (Node-F.Name n) = sum_read t n (Some (fixed (pos 0))) (end_named s.text n) (name_read n)
  layer_read t (Node-F.Bin o e k) = pieces_read t o (out-Node Name Note e.node) k
  layer_read t y = tt

  bound_read : (t : CType) (e : NotedExpr) → IfSome (bound T holder.Result t e) (Reads (read.bound s.text s.variables e))
  bound_read t e = layer_read t (out-Node Name Note e.node)

  -- ---- bounds

  abbrev pub IsTold : CType → Option Limits → Bounds → Type 0
  IsTold t o bounds.Unknown = Unit {0}
  IsTold t o (bounds.Known low high) = o ≡ Some (limits_between s.text.layout t (result_end s low) (result_end s high))

  -- so many elements after the result
  counted_told : (t : CType) (a : Option Amount) (f : Form) → Says a f → IsTold t (read.counted s.text s.variables t a) (bounds.Known (base_form (base.Value 0)) (record f { base = Some (base.Value 0) }))
  counted_told t a f w =
      ap (λ x. limits_if s.text.layout t (Some own_end) (shifted s.variables op.Add (Some own_end) x)) w.1
      ∙ ap (limits_if s.text.layout t (Some own_end)) (plus_said w.0 f lies.Own (pos 0) w.2)
      ∙ ap (λ z. Some (limits_between s.text.layout t own_end (end_behind lies.Own (variable_at s.variables f.var) z))) (zero_plus f.add)

  count_told : (t : CType) (a : Option Amount) → IfSome (counted (base.Value 0) (amount_form T holder.Result a)) (IsTold t (read.counted s.text s.variables t a))
  count_told t a = by (amount_form T holder.Result a) (there_said a)
    where
      by : (o : Option Form) → IfSome o (Says a) → IfSome (counted (base.Value 0) o) (IsTold t (read.counted s.text s.variables t a))
      by None h = tt
      by (Some f) h = counted_told t a f h

  -- an amount that is no constant has a variable
  named_there : (y : NotedLayer) (a : Amount) → amount_in_form s.text.layout y ≡ Some a → (m : Name) × (a.variable ≡ Some m)
  named_there (Node-F.Name n) a e = let w = moved_is (Some n) (Some (pos 0)) a e in (w.0, ap (λ (x : Amount). x.variable) w.4)
  named_there (Node-F.Bin op.Add e f) a g =
      elim (or_is (moved (variable_in e) (number_in s.text.layout f)) (moved (variable_in f) (number_in s.text.layout e)) a g) [
        | inl i ↦ (let w = moved_is (variable_in e) (number_in s.text.layout f) a i in (w.0, ap (λ (x : Amount). x.variable) w.4))
        | inr i ↦ (let w = moved_is (variable_in f) (number_in s.text.layout e) a i in (w.0, ap (λ (x : Amount). x.variable) w.4))
      ]
  named_there (Node-F.Bin op.Sub e f) a g =
      let w = moved_is (variable_in e) (negative (number_in s.text.layout f)) a g in (w.0, ap (λ (x : Amount). x.variable) w.4)
  named_there y a e = absurd cc

  not_zero : (a : Amount) (f : Form) (m : Name) → IsSaid a f → a.variable ≡ Some m → f.var ≡ 0 → ⊥
  not_zero a f m h e z = elim h.variable [ inl n ↦ absurd (none n.0) | inr n ↦ absurd (past n.0 n.2) ]
    where
      none : a.variable ≡ None → ⊥
      none g = absurd cc

      past : (k : ℕ) → f.var ≡ k + 1 → ⊥
      past k g = omega (arith, g, z)

  -- so many bytes, if an element has more than one
  scaled_told : (t : CType) (size : ℕ) (e : NotedExpr) (f : Form) → Says (amount s.text.layout e) f
      → IfSome (counted (base.Value 0) (elements_of size f)) (IsTold t (read.counted s.text s.variables t (scaled size (number_in s.text.layout e))))
  scaled_told t size e f w = by (number_in s.text.layout e) refl
    where
      Read : Option Amount → Option Form → Type 0
      Read a o = IfSome (counted (base.Value 0) o) (IsTold t (read.counted s.text s.variables t a))

      whole : (c : ℤ) (b d : Bool) → Read (if d then Some (fixed (int_div c (pos size))) else None) (if b && d then Some (constant_form (int_div c (pos size))) else None)
      whole c true true =
          counted_told t (Some (fixed (int_div c (pos size)))) (constant_form (int_div c (pos size))) (fixed (int_div c (pos size)), refl, record { number = refl; variable = inl (refl, refl) })
      whole c true false = tt
      whole c false d = tt

      broken : (b d : Bool) → (f.var == 0) ≡ b → (f.var ≡ 0 → ⊥) → Read (scaled size None) (if b && d then Some (constant_form (int_div f.add (pos size))) else None)
      broken true d e not = absurd (not (eqb-true f.var 0 e))
      broken false d e not = tt

      by : (o : Option ℤ) → number_in s.text.layout e ≡ o → Read (scaled size o) (elements_of size f)
      by (Some c) is =
          let same : fixed c ≡ w.0 = one w.0 (sym (number_amount e c is) ∙ w.1) in
          let adds : f.add ≡ c = w.2.number ∙ sym (ap (λ (a : Amount). a.number) same) in
          subst (λ z. Read (scaled size (Some c)) (if (f.var == 0) && is_multiple z size then Some (constant_form (int_div z (pos size))) else None)) (sym adds) (whole c (f.var == 0) (is_multiple c size))
        where
          one : (a : Amount) → Some (fixed c) ≡ Some a → fixed c ≡ a
          one a g = cc
      by None is =
          let named = named_there (out-Node Name Note e.node) w.0 (sym (ap (amount_by s.text.layout e) is) ∙ w.1) in
          broken (f.var == 0) (is_multiple f.add size) refl (not_zero w.0 f named.0 w.2 named.1)

  bytes_told : (t : CType) (size : ℕ) (e : NotedExpr)
      → IfSome (counted (base.Value 0) (elements size (amount_form T holder.Result (amount s.text.layout e)))) (IsTold t (read.counted s.text s.variables t (amount_of_bytes s.text.layout size e)))
  bytes_told t size e = by (amount_form T holder.Result (amount s.text.layout e)) (there_said (amount s.text.layout e))
    where
      each : (b : Bool) (f : Form) → Says (amount s.text.layout e) f
          → IfSome (counted (base.Value 0) (if b then Some f else elements_of size f)) (IsTold t (read.counted s.text s.variables t (if b then amount s.text.layout e else scaled size (number_in s.text.layout e))))
      each true f w = counted_told t (amount s.text.layout e) f w
      each false f w = scaled_told t size e f w

      by : (o : Option Form) → IfSome o (Says (amount s.text.layout e)) → IfSome (counted (base.Value 0) (elements size o)) (IsTold t (read.counted s.text s.variables t (amount_of_bytes s.text.layout size e)))
      by None h = tt
      by (Some f) h = each (size == 1) f h

  between_told : (t : CType) (o q : Option Form) (e g : Option End) → IfSome o (Reads e) → IfSome q (Reads g) → IfSome (known_between o q) (IsTold t (limits_if s.text.layout t e g))
  between_told t None q e g h i = tt
  between_told t (Some x) None e g h i = tt
  between_told t (Some x) (Some y) e g h i = ap (λ z. limits_if s.text.layout t z g) h ∙ ap (limits_if s.text.layout t (Some (result_end s x))) i

  written_told : (t : CType) (l : Limits-F Name Note NotedLimits NotedNode NotedExpr) → IfSome (bounds_written T holder.Result t l) (IsTold t (limits_form s.text s.variables t l))
  written_told t (Limits-F.Count e at) = count_told t (amount s.text.layout e)
  written_told t (Limits-F.ByteCount e at) = bytes_told t (size_behind s.text.layout t) e
  written_told t (Limits-F.Between e f at) =
      between_told t (bound T holder.Result t e) (bound T holder.Result t f) (read.bound s.text s.variables e) (read.bound s.text s.variables f) (bound_read t e) (bound_read t f)
  written_told t (Limits-F.Unknown at) = tt

  kind_told : (t : CType) (k : Option Kind) → IsTold t (limits_of_count s.text.layout t (count_of_kind k)) (bounds_of_kind (base.Value 0) k)
  kind_told t (Some kind.One) = refl
  kind_told t (Some kind.Nt) = refl
  kind_told t (Some kind.Raw) = tt
  kind_told t (Some kind.Arr) = tt
  kind_told t None = tt

  pub declared_told : (t : CType) (length : Length) (l : Option NotedLimits) → Gives (IsTold t (result_limits s.text s.variables t l)) (bounds_declared T holder.Result t length l)
  declared_told t length None = kind_told t (kind_of t)
  declared_told t length (Some l) = there_is (IsTold t (result_limits s.text s.variables t (Some l))) bad_limits (place_of_limits l) _ (by (takes_bounds t length))
    where
      by : (b : Bool) → IfSome (if b then bounds_written T holder.Result t (out-Limits Name Note l) else None) (IsTold t (result_limits s.text s.variables t (Some l)))
      by true = written_told t (out-Limits Name Note l)
      by false = tt

module _ (p : Typed) (h : NotedHead) (body : NotedStmt) where
  abbrev IsResultOf : Setting → Type 0
  IsResultOf s = (low high : Form) → s.head.bounds ≡ bounds.Known low high → result_limits p (variables_of body.note.mode h body) (type_written h.result) h.bounds ≡ Some (result_between s low high)

  pub result_of : IsResultOf (setting_of p h body)
  unfolding setting_of
  result_of low high e =
      let s = setting_of p h body in
      let told = known (IsTold s (seen_params Checked h) (type_written h.result) (result_limits p (variables_of body.note.mode h body) (type_written h.result) h.bounds)) tt
      (result_bounds (params_frame (frame_of_text p) h) h) (declared_told s (seen_params Checked h) (type_written h.result) lengths.Plain h.bounds) in
      subst (IsTold s (seen_params Checked h) (type_written h.result) (result_limits p (variables_of body.note.mode h body) (type_written h.result) h.bounds)) e told

pub results_are_told : (p : Typed) (s : Setting) (f : Function) (low high : Form) → IsFunction p s f → s.head.bounds ≡ bounds.Known low high → f.result ≡ Some (result_between s low high)
results_are_told p s f low high is e =
    ap (λ (g : Function). g.result) is.runs ∙ subst (IsResultOf p is.head is.body) (sym is.judged) (result_of p is.head is.body) low high e
