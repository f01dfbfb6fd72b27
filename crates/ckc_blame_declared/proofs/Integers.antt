-- The bounds of a member name an integer member of its structure.
use Rattle.std.proofs.Common.{◌≡◌, ◌∙◌, sym, ap, subst, refl, ℕ, ℤ, ◌==◌, Bool, true, false, List, [], ◌∷◌, map}
use Rattle.std.specs.Prelude.{pos, int_div, ◌+◌, ◌^◌, ◌-◌, nat_lt, ◌&&◌, if◌then◌else◌, unwrap_or, Option, Some, None, is_some, Ok, Err}
use Rattle.std.specs.List.{All}
use Rattle.std.specs.Option.{option_map}
use Rattle.std.proofs.lemmas.Bool.{eqb-true}
use Rattle.std.proofs.lemmas.List.Elements.{All-nil, All-cons, All-head, All-tail, All-contains}
use Rattle.ckc_base.specs.Outcomes.{Outcome, there_or}
use Rattle.ckc_base.proofs.Gives.{Gives, given_from, bound}
use Rattle.ckc_types.specs.declared.types.CType.{CType}
use Rattle.ckc_types.specs.declared.types.MemberBounds.TheVariants as written
use Rattle.ckc_types.specs.declared.types.MemberShape.{MemberShape}
use Rattle.ckc_types.specs.declared.types.Structs.{Structs}
use Rattle.ckc_types.specs.Layout.{members_of}
use Rattle.ckc_linear.specs.declared.forms.Form.{Form}
use Rattle.ckc_syntax.specs.declared.tree.Name.{Name}
use Rattle.ckc_syntax.specs.declared.tree.Name.TheVariants as name
use Rattle.ckc_syntax.specs.declared.tree.Item.TheVariants as item
use Rattle.ckc_syntax.specs.declared.tree.TreeOp.{TreeOp}
use Rattle.ckc_syntax.specs.declared.tree.TreeOp.TheVariants as op
use Rattle.ckc_syntax.specs.declared.tree.Limits.{Limits-F, out-Limits, fold-Limits}
use Rattle.ckc_syntax.specs.declared.tree.Node.{Node-F, map-Node, out-Node, roll-Node, fold-roll-Node}
use Rattle.ckc_syntax.specs.declared.tree.Expr.{Expr-F, map-Expr, ind-Expr, roll-Expr, fold-roll-Expr}
use Rattle.ckc_typed.specs.declared.environment.Amount.{Amount}
use Rattle.ckc_typed.specs.declared.environment.Constant.{Constant}
use Rattle.ckc_typed.specs.declared.typed.Note.{Note}
use Rattle.ckc_typed.specs.declared.typed.Typed.{Typed}
use Rattle.ckc_typed.specs.Trees.{Expr, Limits, Node, Decl, NotedLimits, NotedNode, NotedExpr, NotedLayer, NotedDecl, NotedItem}
use Rattle.ckc_typed.specs.Types.{element_of, type_written}
use Rattle.ckc_typed.specs.Environment.{same_name}
use Rattle.ckc_typed.specs.Constants.{size_of, negated, limits_constant, node_constant, expr_constant, constant, constant_of_node}
use Rattle.ckc_typed.specs.Amounts.{fixed, is_multiple, variable_in, number_of, number_in, negative, moved, or_amount, sum_amount, amount_in_form, amount_by, amount, scaled, amount_of_bytes}
use Rattle.ckc_typed.specs.Layouts.{bounds_by, bounds_of, bare_structs, bounded_member, members_declared}
use Rattle.ckc_typed_welltyped.specs.Noteless.{BareLimits, BareNode, BareExpr, limits_bared, node_bared, expr_bared, bare_limits, bare_node, bare_expr, bare_decl, bare_item, without_notes}
use Rattle.ckc_blame_sound.specs.ckc_bounds_points.specs.declared.frame.Bounds.{Bounds}
use Rattle.ckc_blame_sound.specs.ckc_bounds_points.specs.declared.frame.Frame.{Frame}
use Rattle.ckc_blame_sound.specs.ckc_bounds_points.specs.Codes.{bad_limits}
use Rattle.ckc_blame_sound.specs.ckc_bounds_points.specs.Forms.{moved_form, elements}
use Rattle.ckc_blame_sound.specs.ckc_bounds_points.specs.Shown.{is_within}
use Rattle.ckc_blame_sound.specs.ckc_bounds_declared.specs.declared.limits.Holder.TheVariants as holder
use Rattle.ckc_blame_sound.specs.ckc_bounds_declared.specs.Written.{own, is_integer_member, amount_with, amount_form, counted, bounds_written, takes_bounds, place_of_limits, bounds_declared}
use Rattle.ckc_blame_sound.specs.ckc_bounds_statements.specs.DeclBounds.{decl_bounds}
use Rattle.ckc_blame_sound.specs.ckc_bounds.specs.Declarations.{member_holder}
use Rattle.ckc_blame_sound.specs.ckc_bounds.specs.Frames.{text_frame}
use Rattle.ckc_blame_sound.specs.ckc_bounds.specs.Texts.{members_judged, item_judged, items_judged}
use Rattle.ckc_blame_sound.specs.Elements.{NameIntegerMembers}
use Rattle.ckc_blame_sound.specs.JudgedTexts.{IsJudged}
use Rattle.ckc_blame_sound.proofs.Bounded.{is_bounded, anything}
use Rattle.ckc_blame_sound.proofs.Every.{LimitsLayer}
use Rattle.ckc_blame_sound.proofs.Members.{members_are}
use Rattle.ckc_blame_sound.proofs.Amounts.{limits_made, node_made, limits_out, layer_is, variable_bare, counted_is}

-- ---- whether an expression is a constant, whatever the sizes of types are

negated_same : (o : TreeOp) (c d : Option Constant) → is_some c ≡ is_some d → is_some (negated o c) ≡ is_some (negated o d)
negated_same op.Minus (Some c) (Some d) h = refl
negated_same op.Minus None None h = refl
negated_same op.Minus (Some c) None h = absurd cc
negated_same op.Minus None (Some d) h = absurd cc
negated_same o c d h = refl

module _ (bare structs : Structs) where
  abbrev NodeSame : NotedNode → Type 0
  NodeSame n = is_some (constant_of_node bare (bare_node n)) ≡ is_some (constant_of_node structs n)

  abbrev ExprSame : NotedExpr → Type 0
  ExprSame e = is_some (constant bare (bare_expr e)) ≡ is_some (constant structs e)

  abbrev AnyBounds : NotedLimits → Type 0
  AnyBounds l = Unit {0}

  abbrev KeptLimits : Type 0
  KeptLimits = (l : NotedLimits) × AnyBounds l

  abbrev KeptNode : Type 0
  KeptNode = (n : NotedNode) × NodeSame n

  abbrev KeptExpr : Type 0
  KeptExpr = (e : NotedExpr) × ExprSame e

  abbrev inner_node : Node-F Name Note KeptLimits KeptNode KeptExpr → NotedLayer
  inner_node = map-Node Name Note KeptLimits KeptNode KeptExpr NotedLimits NotedNode NotedExpr (λ e. e.0) (λ e. e.0) (λ e. e.0)

  abbrev inner_expr : Expr-F Name Note KeptLimits KeptNode KeptExpr → Expr-F Name Note NotedLimits NotedNode NotedExpr
  inner_expr = map-Expr Name Note KeptLimits KeptNode KeptExpr NotedLimits NotedNode NotedExpr (λ e. e.0) (λ e. e.0) (λ e. e.0)

  abbrev limits_found : NotedLimits → Unit {0}
  limits_found = fold-Limits Name Note (Unit {0}) (Option Constant) (Option Constant) limits_constant (node_constant structs) expr_constant

  abbrev bare_limits_found : Limits → Unit {0}
  bare_limits_found = fold-Limits Name (Unit {0}) (Unit {0}) (Option Constant) (Option Constant) limits_constant (node_constant bare) expr_constant

  abbrev inside : NotedLayer → Node-F Name Note (Unit {0}) (Option Constant) (Option Constant)
  inside = map-Node Name Note NotedLimits NotedNode NotedExpr (Unit {0}) (Option Constant) (Option Constant) limits_found (constant_of_node structs) (constant structs)

  abbrev bare_inside : Node-F Name (Unit {0}) Limits Node Expr → Node-F Name (Unit {0}) (Unit {0}) (Option Constant) (Option Constant)
  bare_inside = map-Node Name (Unit {0}) Limits Node Expr (Unit {0}) (Option Constant) (Option Constant) bare_limits_found (constant_of_node bare) (constant bare)

  node_step : (y : Node-F Name Note KeptLimits KeptNode KeptExpr) → is_some (node_constant bare (bare_inside (node_made (inner_node y)))) ≡ is_some (node_constant structs (inside (inner_node y)))
  node_step (Node-F.Un o k) = negated_same o _ _ k.1
  node_step y = refl

  node_by : (x : NotedLayer) (y : Node-F Name Note KeptLimits KeptNode KeptExpr) → inner_node y ≡ x → NodeSame (roll-Node Name Note x)
  node_by x y is =
      ap (λ (n : Node). is_some (constant_of_node bare n)) (fold-roll-Node Name Note (BareLimits Name) (BareNode Name) (BareExpr Name) limits_bared node_bared expr_bared x)
      ∙ ap is_some (fold-roll-Node Name (Unit {0}) (Unit {0}) (Option Constant) (Option Constant) limits_constant (node_constant bare) expr_constant (node_made x))
      ∙ subst (λ z. is_some (node_constant bare (bare_inside (node_made z))) ≡ is_some (node_constant structs (inside z))) is (node_step y)
      ∙ ap is_some (sym (fold-roll-Node Name Note (Unit {0}) (Option Constant) (Option Constant) limits_constant (node_constant structs) expr_constant x))

  expr_is : (e : NotedExpr) → NodeSame e.node → ExprSame e
  expr_is e same =
      ap (λ (x : Expr). is_some (constant bare x))
      (fold-roll-Expr Name Note (BareLimits Name) (BareNode Name) (BareExpr Name) limits_bared node_bared expr_bared (record { node = e.node; pos = e.pos; note = e.note }))
      ∙ ap is_some (fold-roll-Expr Name (Unit {0}) (Unit {0}) (Option Constant) (Option Constant) limits_constant (node_constant bare) expr_constant
      (record { node = bare_node e.node; pos = e.pos; note = tt }))
      ∙ same
      ∙ ap is_some (sym (fold-roll-Expr Name Note (Unit {0}) (Option Constant) (Option Constant) limits_constant (node_constant structs) expr_constant
      (record { node = e.node; pos = e.pos; note = e.note })))

  expr_by : (x : Expr-F Name Note NotedLimits NotedNode NotedExpr) (y : Expr-F Name Note KeptLimits KeptNode KeptExpr) → inner_expr y ≡ x → ExprSame (roll-Expr Name Note x)
  expr_by x y is = subst (λ z. ExprSame (roll-Expr Name Note z)) is (expr_is (roll-Expr Name Note (inner_expr y)) y.node.1)

  constant_same : (e : NotedExpr) → ExprSame e
  constant_same = ind-Expr Name Note AnyBounds NodeSame ExprSame (λ x y is. tt) node_by expr_by

  some_number : (o : Option Constant) → is_some (number_of o) ≡ is_some o
  some_number (Some c) = refl
  some_number None = refl

  number_same : (e : NotedExpr) → is_some (number_in bare (bare_expr e)) ≡ is_some (number_in structs e)
  number_same e = some_number (constant bare (bare_expr e)) ∙ constant_same e ∙ sym (some_number (constant structs e))

  -- ---- amounts with the same variable

  abbrev SameAmount : Option Amount → Option Amount → Type 0
  SameAmount (Some a) (Some b) = a.variable ≡ b.variable
  SameAmount None None = Unit {0}
  SameAmount _ _ = ⊥

  moved_same : (v : Option Name) (c d : Option ℤ) → is_some c ≡ is_some d → SameAmount (moved v c) (moved v d)
  moved_same None c d h = tt
  moved_same (Some n) (Some c) (Some d) h = refl
  moved_same (Some n) None None h = tt
  moved_same (Some n) (Some c) None h = absurd cc
  moved_same (Some n) None (Some d) h = absurd cc

  or_same : (a b other more : Option Amount) → SameAmount a b → SameAmount other more → SameAmount (or_amount a other) (or_amount b more)
  or_same None None other more h k = k
  or_same (Some a) (Some b) other more h k = h
  or_same (Some a) None other more h k = absurd h
  or_same None (Some b) other more h k = absurd h

  negative_same : (c d : Option ℤ) → is_some c ≡ is_some d → is_some (negative c) ≡ is_some (negative d)
  negative_same (Some c) (Some d) h = refl
  negative_same None None h = refl
  negative_same (Some c) None h = absurd cc
  negative_same None (Some d) h = absurd cc

  part_same : (e : NotedExpr) (c d : Option ℤ) → is_some c ≡ is_some d → SameAmount (moved (variable_in (bare_expr e)) c) (moved (variable_in e) d)
  part_same e c d h = subst (λ v. SameAmount (moved v c) (moved (variable_in e) d)) (sym (variable_bare e)) (moved_same (variable_in e) c d h)

  sum_same : (o : TreeOp) (e f : NotedExpr) → SameAmount (sum_amount bare o (bare_expr e) (bare_expr f)) (sum_amount structs o e f)
  sum_same op.Add e f = or_same _ _ _ _ (part_same e _ _ (number_same f)) (part_same f _ _ (number_same e))
  sum_same op.Sub e f = part_same e _ _ (negative_same _ _ (number_same f))
  sum_same o e f = tt

  form_same : (x : NotedLayer) → SameAmount (amount_in_form bare (node_made x)) (amount_in_form structs x)
  form_same (Node-F.Name n) = refl
  form_same (Node-F.Bin o e f) = sum_same o e f
  form_same x = tt

  amount_same : (e : NotedExpr) → SameAmount (amount bare (bare_expr e)) (amount structs e)
  amount_same e = by (number_in bare (bare_expr e)) (number_in structs e) (number_same e)
    where
      by : (c d : Option ℤ) → is_some c ≡ is_some d → SameAmount (amount_by bare (bare_expr e) c) (amount_by structs e d)
      by (Some c) (Some d) h = refl
      by None None h =
          subst (λ x. SameAmount (amount_in_form bare x) (amount_in_form structs (out-Node Name Note e.node))) (sym (layer_is e)) (form_same (out-Node Name Note e.node))
      by (Some c) None h = absurd cc
      by None (Some d) h = absurd cc

  same_some : (o p : Option Amount) (a : Amount) (n : Name) → SameAmount o p → o ≡ Some a → a.variable ≡ Some n → (b : Amount) × (p ≡ Some b) × (b.variable ≡ Some n)
  same_some (Some c) (Some b) a n same is v = let alike : c ≡ a = cc in (b, refl, sym same ∙ ap (λ (x : Amount). x.variable) alike ∙ v)
  same_some (Some c) None a n same is v = absurd same
  same_some None p a n same is v = absurd cc

-- ---- bounds of a member

module _ (bare : Structs) (frame : Frame) (tag : ℕ) where
  abbrev IsInteger : ℕ → Type 0
  IsInteger j = is_integer_member frame.structs tag j ≡ true

  with_integer : (v : Option Name) (j : ℕ) (c : ℤ) (f : Form) → v ≡ Some (name.Member j) → amount_with frame (holder.Member tag) v c ≡ Some f → IsInteger j
  with_integer v j c f is e = by (is_integer_member frame.structs tag j) (nat_lt j (2 ^ 32 - 1)) (sym (ap (λ w. amount_with frame (holder.Member tag) w c) is) ∙ e)
    where
      by : (b small : Bool) → moved_form (if b && small then Some (record { base = None; var = j + 1; add = pos 0 }) else None) c ≡ Some f → b ≡ true
      by true small g = refl
      by false small g = absurd cc

  form_integer : (b : Amount) (j : ℕ) (f : Form) → b.variable ≡ Some (name.Member j) → amount_form frame (holder.Member tag) (Some b) ≡ Some f → IsInteger j
  form_integer b j f v e = by (is_within (2 ^ 24) b.number) e
    where
      by : (within : Bool) → (if within then amount_with frame (holder.Member tag) b.variable b.number else None) ≡ Some f → IsInteger j
      by true g = with_integer b.variable j b.number f v g
      by false g = absurd cc

  -- the form of an amount in bounds that are known
  some_form : (o : Option Form) (b : Bounds) → counted (own (holder.Member tag)) o ≡ Some b → (f : Form) × (o ≡ Some f)
  some_form (Some f) b e = (f, refl)
  some_form None b e = absurd cc

  some_elements : (size : ℕ) (o : Option Form) (f : Form) → elements size o ≡ Some f → (g : Form) × (o ≡ Some g)
  some_elements size (Some g) f e = (g, refl)
  some_elements size None f e = absurd cc

  amount_integer : (e : NotedExpr) (a : Amount) (j : ℕ) (f : Form) → amount bare (bare_expr e) ≡ Some a → a.variable ≡ Some (name.Member j)
      → amount_form frame (holder.Member tag) (amount frame.structs e) ≡ Some f → IsInteger j
  amount_integer e a j f is v there =
      let b = same_some bare frame.structs (amount bare (bare_expr e)) (amount frame.structs e) a (name.Member j) (amount_same bare frame.structs e) is v in
      form_integer b.0 j f b.2 (sym (ap (amount_form frame (holder.Member tag)) b.1) ∙ there)

  bytes_integer : (size : ℕ) (e : NotedExpr) (a : Amount) (j : ℕ) (f : Form) → amount_of_bytes bare size (bare_expr e) ≡ Some a → a.variable ≡ Some (name.Member j)
      → amount_form frame (holder.Member tag) (amount frame.structs e) ≡ Some f → IsInteger j
  bytes_integer size e a j f is v there = by (size == 1) is
    where
      one : (c : ℤ) (b : Bool) → (if b then Some (fixed (int_div c (pos size))) else None) ≡ Some a → IsInteger j
      one c true h = let same : fixed (int_div c (pos size)) ≡ a = cc in let none : None ≡ a.variable = ap (λ (x : Amount). x.variable) same in absurd cc
      one c false h = absurd cc

      scale : (o : Option ℤ) → scaled size o ≡ Some a → IsInteger j
      scale None g = absurd cc
      scale (Some c) g = one c (is_multiple c size) g

      by : (b : Bool) → (if b then amount bare (bare_expr e) else scaled size (number_in bare (bare_expr e))) ≡ Some a → IsInteger j
      by true g = amount_integer e a j f g v there
      by false g = scale (number_in bare (bare_expr e)) g

  written_integer : (t : CType) (size : ℕ) (x : LimitsLayer) (b : Bounds) (j : ℕ) (c : ℤ) → bounds_written frame (holder.Member tag) t x ≡ Some b
      → bounds_by bare size (limits_made x) ≡ written.Named j c → IsInteger j
  written_integer t size (Limits-F.Count e at) b j c there is =
      let a = counted_is (amount bare (bare_expr e)) j c is in
      let f = some_form (amount_form frame (holder.Member tag) (amount frame.structs e)) b there in
      amount_integer e a.0 j f.0 a.1 a.2 f.1
  written_integer t size (Limits-F.ByteCount e at) b j c there is =
      let a = counted_is (amount_of_bytes bare size (bare_expr e)) j c is in
      let f = some_form (elements (size_of frame.structs (element_of t)) (amount_form frame (holder.Member tag) (amount frame.structs e))) b there in
      let g = some_elements (size_of frame.structs (element_of t)) (amount_form frame (holder.Member tag) (amount frame.structs e)) f.0 f.1 in
      bytes_integer size e a.0 j g.0 a.1 a.2 g.1
  written_integer t size (Limits-F.Between e f at) b j c there is = absurd cc
  written_integer t size (Limits-F.Unknown at) b j c there is = absurd cc

  -- the bounds of a declared member name an integer member
  abbrev NamesInteger : Decl → Type 0
  NamesInteger d = (j : ℕ) (c : ℤ) → bounds_of bare (type_written d.ctype) d.bounds ≡ written.Named j c → IsInteger j

  decl_integer : (d : NotedDecl) → Gives (λ (x : Bounds). NamesInteger (bare_decl d)) (decl_bounds frame (holder.Member tag) d)
  decl_integer d = by d.bounds
    where
      at : (l : NotedLimits) (takes : Bool) (o : Option Bounds) → bounds_written frame (holder.Member tag) (type_written d.ctype) (out-Limits Name Note l) ≡ o
          → Gives (λ (x : Bounds). (j : ℕ) (c : ℤ) → bounds_of bare (type_written d.ctype) (Some (bare_limits l)) ≡ written.Named j c → IsInteger j)
          (there_or bad_limits (place_of_limits l) (if takes then o else None))
      at l false o e = tt
      at l true None e = tt
      at l true (Some b) e = λ j c is.
          written_integer (type_written d.ctype) (size_of bare (element_of (type_written d.ctype))) (out-Limits Name Note l) b j c e
          (sym (ap (bounds_by bare (size_of bare (element_of (type_written d.ctype)))) (limits_out l)) ∙ is)

      by : (o : Option NotedLimits)
          → Gives (λ (x : Bounds). (j : ℕ) (c : ℤ) → bounds_of bare (type_written d.ctype) (option_map bare_limits o) ≡ written.Named j c → IsInteger j)
          (bounds_declared frame (holder.Member tag) (type_written d.ctype) d.length o)
      by None = λ j c is. absurd cc
      by (Some l) = at l (takes_bounds (type_written d.ctype) d.length) (bounds_written frame (holder.Member tag) (type_written d.ctype) (out-Limits Name Note l)) refl

  each_integer : (ds : List NotedDecl) → Gives (λ (u : Unit {0}). All NamesInteger (map bare_decl ds)) (members_judged frame (holder.Member tag) ds)
  each_integer [] = All-nil NamesInteger
  each_integer (d ∷ ds) =
      bound (λ (x : Bounds). NamesInteger (bare_decl d)) (λ (u : Unit {0}). All NamesInteger (map bare_decl (d ∷ ds))) _ _ (decl_integer d) (λ b f.
      by (members_judged frame (holder.Member tag) ds) (each_integer ds) f)
    where
      by : (o : Outcome (Unit {0})) → Gives (λ (u : Unit {0}). All NamesInteger (map bare_decl ds)) o → NamesInteger (bare_decl d)
          → Gives (λ (u : Unit {0}). All NamesInteger (map bare_decl (d ∷ ds))) o
      by (Ok u) g f = All-cons NamesInteger (bare_decl d) (map bare_decl ds) f g
      by (Err r) g f = tt

  -- this of a member with its bounds
  abbrev ShapeNames : MemberShape → Type 0
  ShapeNames m = (j : ℕ) (c : ℤ) → m.bounds ≡ written.Named j c → IsInteger j

  shapes_integer : (ds : List Decl) → All NamesInteger ds → All ShapeNames (map (bounded_member bare) ds)
  shapes_integer [] h = All-nil ShapeNames
  shapes_integer (d ∷ ds) h =
      All-cons ShapeNames (bounded_member bare d) (map (bounded_member bare) ds) (All-head NamesInteger d ds h) (shapes_integer ds (All-tail NamesInteger d ds h))

-- ---- whole texts

module _ (bare : Structs) (frame : Frame) where
  -- this of the members that an item declares for a tag
  abbrev AreInteger : NotedItem → Type 0
  AreInteger (item.Struct n ms at) = (tag : ℕ) → n ≡ name.Tag tag → All (NamesInteger bare frame tag) (map bare_decl ms)
  AreInteger i = Unit {0}

  struct_integer : (n : Name) (ms : List NotedDecl)
      → Gives (λ (u : Unit {0}). (tag : ℕ) → n ≡ name.Tag tag → All (NamesInteger bare frame tag) (map bare_decl ms)) (members_judged frame (member_holder n) ms)
  struct_integer (name.Tag k) ms = by (members_judged frame (holder.Member k) ms) (each_integer bare frame k ms)
    where
      by : (o : Outcome (Unit {0})) → Gives (λ (u : Unit {0}). All (NamesInteger bare frame k) (map bare_decl ms)) o
          → Gives (λ (u : Unit {0}). (tag : ℕ) → name.Tag k ≡ name.Tag tag → All (NamesInteger bare frame tag) (map bare_decl ms)) o
      by (Ok u) g = λ tag e. let same : k ≡ tag = cc in subst (λ m. All (NamesInteger bare frame m) (map bare_decl ms)) same g
      by (Err r) g = tt
  struct_integer n ms = by (members_judged frame (member_holder n) ms)
    where
      by : (o : Outcome (Unit {0})) → Gives (λ (u : Unit {0}). (tag : ℕ) → n ≡ name.Tag tag → All (NamesInteger bare frame tag) (map bare_decl ms)) o
      by (Ok u) = λ tag e. absurd cc
      by (Err r) = tt

  item_integer : (i : NotedItem) → Gives (λ (j : NotedItem). AreInteger i) (item_judged frame i)
  item_integer (item.Struct n ms at) =
      bound {A = Unit {0}} (λ u. (tag : ℕ) → n ≡ name.Tag tag → All (NamesInteger bare frame tag) (map bare_decl ms)) (λ (j : NotedItem). AreInteger (item.Struct n ms at))
      (members_judged frame (member_holder n) ms) _ (struct_integer n ms) (λ u f. f)
  item_integer (item.Directive d) = tt
  item_integer (item.Tag n at) = tt
  item_integer (item.Static d) = anything (item_judged frame (item.Static d))
  item_integer (item.Proto h) = anything (item_judged frame (item.Proto h))
  item_integer (item.Function h body) = anything (item_judged frame (item.Function h body))

  items_integer : (is : List NotedItem) → Gives (λ (js : List NotedItem). All AreInteger is) (items_judged frame is)
  items_integer [] = All-nil AreInteger
  items_integer (i ∷ is) =
      bound {A = NotedItem} (λ (j : NotedItem). AreInteger i) (λ (js : List NotedItem). All AreInteger (i ∷ is)) _ _ (item_integer i) (λ j f.
      bound {A = List NotedItem} (λ (js : List NotedItem). All AreInteger is) (λ (js : List NotedItem). All AreInteger (i ∷ is)) _ _ (items_integer is) (λ js g. All-cons AreInteger i is f g))

  is_tag : (n : Name) (k : ℕ) → same_name n (name.Tag k) ≡ true → n ≡ name.Tag k
  is_tag (name.Tag m) k e = ap (λ j. name.Tag j) (eqb-true m k e)
  is_tag n k e = absurd cc

  declared_integer : (is : List NotedItem) (tag : ℕ) → All AreInteger is → All (NamesInteger bare frame tag) (members_declared (map bare_item is) (name.Tag tag))
  declared_integer [] tag h = All-nil (NamesInteger bare frame tag)
  declared_integer (item.Struct n ms at ∷ is) tag h =
      by (same_name n (name.Tag tag)) refl (declared_integer is tag (All-tail AreInteger (item.Struct n ms at) is h))
    where
      by : (b : Bool) → same_name n (name.Tag tag) ≡ b → All (NamesInteger bare frame tag) (members_declared (map bare_item is) (name.Tag tag))
          → All (NamesInteger bare frame tag) (unwrap_or (if b then Some (map bare_decl ms) else None) (members_declared (map bare_item is) (name.Tag tag)))
      by true e rest = All-head AreInteger (item.Struct n ms at) is h tag (is_tag n tag e)
      by false e rest = rest
  declared_integer (item.Directive d ∷ is) tag h = declared_integer is tag (All-tail AreInteger (item.Directive d) is h)
  declared_integer (item.Tag n at ∷ is) tag h = declared_integer is tag (All-tail AreInteger (item.Tag n at) is h)
  declared_integer (item.Static d ∷ is) tag h = declared_integer is tag (All-tail AreInteger (item.Static d) is h)
  declared_integer (item.Proto g ∷ is) tag h = declared_integer is tag (All-tail AreInteger (item.Proto g) is h)
  declared_integer (item.Function g body ∷ is) tag h = declared_integer is tag (All-tail AreInteger (item.Function g body) is h)

pub members_count_integers : (p : Typed) → IsJudged p → NameIntegerMembers p.layout
members_count_integers p j =
    let q = j.typed in
    let b = is_bounded q p j.has_bounds in
    let js = (without_notes q.tree).items in
    let frame = text_frame q.layout q.statics q.tree.items in
    let bare = bare_structs js in
    let all : All (AreInteger bare frame) q.tree.items =
    given_from (λ (is : List NotedItem). All (AreInteger bare frame) q.tree.items) (items_judged frame q.tree.items) p.tree.items (items_integer bare frame q.tree.items) b.items in
    let names : NameIntegerMembers q.layout = λ tag i c shape there e.
    All-contains (ShapeNames bare frame tag) _ shape
    (subst (λ (structs : Structs). All (ShapeNames bare frame tag) (members_of structs tag)) (sym j.has_types.typed.layout)
    (members_are js tag (λ ms. All (ShapeNames bare frame tag) ms) (All-nil (ShapeNames bare frame tag))
    (shapes_integer bare frame tag (members_declared js (name.Tag tag)) (declared_integer bare frame q.tree.items tag all)))) there i c e in
    subst NameIntegerMembers (sym b.layout) names
