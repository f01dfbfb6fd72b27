-- The refused effects in each form of expression, by those in its parts.
use Rattle.std.proofs.Common.{◌≡◌, refl, sym, ap, ◌∙◌}
use Rattle.std.proofs.Common.{rules}
use Rattle.std.specs.Prelude.{ℕ, Bool, true, false, ◌||◌, List, [], ◌∷◌, ◌++◌, Option, Some, None, if◌then◌else◌, is_none}
use Rattle.ckc_base.specs.declared.places.Pos.{Pos}
use Rattle.ckc_syntax.specs.declared.tree.Name.{Name}
use Rattle.ckc_syntax.specs.declared.tree.TreeOp.{TreeOp}
use Rattle.ckc_syntax.specs.declared.tree.Limits.{Limits-F}
use Rattle.ckc_syntax.specs.declared.tree.Limits.TheVariants as limits
use Rattle.ckc_syntax.specs.declared.tree.Node.{Node-F, out-Node, roll-Node, the_lemmas}
use Rattle.ckc_syntax.specs.declared.tree.Node.TheVariants as node
use Rattle.ckc_syntax.specs.Inside.{listed, inside_each}
use Rattle.ckc_syntax.proofs.Insides.{each_found}
use Rattle.ckc_syntax.specs.Trees.{NamedTypeTree, NamedLimits, NamedNode, NamedExpr}
use Rattle.ckc_plain_barred.specs.declared.integers.Integers.{Integers}
use Rattle.ckc_plain_barred.specs.declared.forms.Work.{Work}
use Rattle.ckc_plain_barred.specs.declared.forms.Work.TheVariants as work
use Rattle.ckc_plain_barred.specs.declared.forms.Form.{Form}
use Rattle.ckc_plain_barred.specs.Integers.{result_of}
use Rattle.ckc_plain_barred.specs.Forms.{work_of, form_of, form_of_layer, is_set, is_call, stays}
use Rattle.ckc_plain_barred.specs.Effects.{Found, OfLimits, all_in, whole_in, right_in, binary_inside, unary_refused, binary_refused, is_refused, node_parts, in_limits, found_in, in_expr, in_whole, in_right, in_exprs, in_bounds}
use Rattle.ckc_plain_barred.specs.code.Refused.{sets_refused, steps_refused, node_refused, expr_refused, right_by}
use Rattle.ckc_plain_barred.proofs.Found.{Layer, found_layer, found_by, limits_by}

node_back : (n : NamedNode) → roll-Node Name (Unit {0}) (out-Node Name (Unit {0}) n) ≡ n
node_back n = search (rules, the_lemmas)

module _ (known : Integers) where
  found_out : (e : NamedExpr) → found_in known e ≡ node_parts known (found_layer known (out-Node Name (Unit {0}) e.node)) e.pos
  found_out e = found_by known e (out-Node Name (Unit {0}) e.node) (sym (node_back e.node))

  form_layer : (x : Layer) → form_of_layer (found_layer known x) ≡ form_of_layer x
  form_layer (Node-F.Number n u) = refl
  form_layer (Node-F.Text bytes) = refl
  form_layer Node-F.Null = refl
  form_layer (Node-F.Name n) = refl
  form_layer (Node-F.Un o x) = refl
  form_layer (Node-F.Bin o x f) = refl
  form_layer (Node-F.Pick x f g) = refl
  form_layer (Node-F.Index x f) = refl
  form_layer (Node-F.Dot x n at) = refl
  form_layer (Node-F.Arrow x n at) = refl
  form_layer (Node-F.Cast t x) = refl
  form_layer (Node-F.Size t) = refl
  form_layer (Node-F.Trusted t x l) = refl
  form_layer (Node-F.Tested t x l) = refl
  form_layer (Node-F.Call n es) = refl
  form_layer (Node-F.Calloc t x u) = refl

  pub form_found : (e : NamedExpr) → (found_in known e).form ≡ form_of e
  form_found e = ap (λ f. f.form) (found_out e) ∙ form_layer (out-Node Name (Unit {0}) e.node)

  sets_same : (w : Work) (x f : Found) (b : Bool) → binary_refused known w x f b ≡ sets_refused known w x.form f.form b
  sets_same work.Sets x f b = refl
  sets_same (work.Steps by) x f b = refl
  sets_same work.IfTrue x f b = refl
  sets_same work.IfFalse x f b = refl
  sets_same work.Computes x f b = refl

  steps_same : (w : Work) (x : Found) (b : Bool) → unary_refused known w x b ≡ steps_refused known w x.form b
  steps_same work.Sets x b = refl
  steps_same (work.Steps by) x b = refl
  steps_same work.IfTrue x b = refl
  steps_same work.IfFalse x b = refl
  steps_same work.Computes x b = refl

  refused_layer : (x : Layer) (b : Bool) → is_refused known (found_layer known x) b ≡ node_refused known x b
  refused_layer (Node-F.Number n u) b = refl
  refused_layer (Node-F.Text bytes) b = refl
  refused_layer Node-F.Null b = refl
  refused_layer (Node-F.Name n) b = refl
  refused_layer (Node-F.Un o x) b = steps_same (work_of o) (found_in known x) b ∙ ap (λ f. steps_refused known (work_of o) f b) (form_found x)
  refused_layer (Node-F.Bin o x f) b =
      sets_same (work_of o) (found_in known x) (found_in known f) b
      ∙ ap (λ g. sets_refused known (work_of o) g (found_in known f).form b) (form_found x)
      ∙ ap (λ g. sets_refused known (work_of o) (form_of x) g b) (form_found f)
  refused_layer (Node-F.Pick x f g) b = refl
  refused_layer (Node-F.Index x f) b = refl
  refused_layer (Node-F.Dot x n at) b = refl
  refused_layer (Node-F.Arrow x n at) b = refl
  refused_layer (Node-F.Cast t x) b = refl
  refused_layer (Node-F.Size t) b = refl
  refused_layer (Node-F.Trusted t x l) b = refl
  refused_layer (Node-F.Tested t x l) b = refl
  refused_layer (Node-F.Call n es) b = refl
  refused_layer (Node-F.Calloc t x u) b = refl

  -- the place of an expression, if it is an effect that is refused
  pub own_found : (e : NamedExpr) (b : Bool) → (found_in known e).itself b ≡ (if expr_refused known e b then e.pos ∷ [] else [])
  own_found e b =
      ap (λ f. f.itself b) (found_out e)
      ∙ ap (λ r. if r then e.pos ∷ [] else []) (refused_layer (out-Node Name (Unit {0}) e.node) b)

  -- the right side of an assignment, and what is no effect if it is a call
  pub right_found : (x e : NamedExpr) (b : Bool) → in_right known x e b ≡ right_by known (form_of x) e b
  right_found x e b =
      ap (λ f. if stays f (found_in known e).form then (found_in known e).inside b else in_expr known e b) (form_found x)
      ∙ ap (λ f. if stays (form_of x) f then (found_in known e).inside b else in_expr known e b) (form_found e)

  pub whole_found : (e : NamedExpr) (b : Bool) → in_whole known e b ≡ (if is_call (form_of e) then (found_in known e).inside b else in_expr known e b)
  whole_found e b = ap (λ f. if is_call f then (found_in known e).inside b else in_expr known e b) (form_found e)

  others_inside : (w : Work) (x e : NamedExpr) (b : Bool) → ¬ (w ≡ work.Sets) → binary_inside w (found_in known x) (found_in known e) b ≡ in_expr known x b ++ in_expr known e b
  others_inside work.Sets x e b differs = absurd (differs refl)
  others_inside (work.Steps by) x e b differs = refl
  others_inside work.IfTrue x e b differs = refl
  others_inside work.IfFalse x e b differs = refl
  others_inside work.Computes x e b differs = refl

  module _ (e : NamedExpr) (b : Bool) where
    abbrev inside : List Pos
    inside = (found_in known e).inside b

    by : (x : Layer) → e.node ≡ roll-Node Name (Unit {0}) x → inside ≡ (node_parts known (found_layer known x) e.pos).inside b
    by x is = ap (λ f. f.inside b) (found_by known e x is)

    pub number_inside : (n : ℕ) (u : Bool) → e.node ≡ node.Number n u → inside ≡ []
    number_inside n u is = by (Node-F.Number n u) (is ∙ sym (node.rolls-Number n u))

    pub text_inside : (bytes : List ℕ) → e.node ≡ node.Text bytes → inside ≡ []
    text_inside bytes is = by (Node-F.Text bytes) (is ∙ sym (node.rolls-Text bytes))

    pub null_inside : e.node ≡ node.Null → inside ≡ []
    null_inside is = by Node-F.Null (is ∙ sym node.rolls-Null)

    pub name_inside : (n : Name) → e.node ≡ node.Name n → inside ≡ []
    name_inside n is = by (Node-F.Name n) (is ∙ sym (node.rolls-Name n))

    pub unary_inside : (o : TreeOp) (x : NamedExpr) → e.node ≡ node.Un o x → inside ≡ in_expr known x b
    unary_inside o x is = by (Node-F.Un o x) (is ∙ sym (node.rolls-Un o x))

    pub pick_inside : (x : NamedExpr) (f : NamedExpr) (g : NamedExpr) → e.node ≡ node.Pick x f g → inside ≡ in_expr known x b ++ (in_expr known f true ++ in_expr known g true)
    pick_inside x f g is = by (Node-F.Pick x f g) (is ∙ sym (node.rolls-Pick x f g))

    pub index_inside : (x : NamedExpr) (f : NamedExpr) → e.node ≡ node.Index x f → inside ≡ in_expr known x b ++ in_expr known f b
    index_inside x f is = by (Node-F.Index x f) (is ∙ sym (node.rolls-Index x f))

    pub dot_inside : (x : NamedExpr) (n : Name) (at : Pos) → e.node ≡ node.Dot x n at → inside ≡ in_expr known x b
    dot_inside x n at is = by (Node-F.Dot x n at) (is ∙ sym (node.rolls-Dot x n at))

    pub arrow_inside : (x : NamedExpr) (n : Name) (at : Pos) → e.node ≡ node.Arrow x n at → inside ≡ in_expr known x b
    arrow_inside x n at is = by (Node-F.Arrow x n at) (is ∙ sym (node.rolls-Arrow x n at))

    pub cast_inside : (t : NamedTypeTree) (x : NamedExpr) → e.node ≡ node.Cast t x → inside ≡ in_expr known x b
    cast_inside t x is = by (Node-F.Cast t x) (is ∙ sym (node.rolls-Cast t x))

    pub size_inside : (t : NamedTypeTree) → e.node ≡ node.Size t → inside ≡ []
    size_inside t is = by (Node-F.Size t) (is ∙ sym (node.rolls-Size t))

    pub calloc_inside : (t : NamedTypeTree) (x : NamedExpr) (u : NamedTypeTree) → e.node ≡ node.Calloc t x u → inside ≡ in_expr known x b
    calloc_inside t x u is = by (Node-F.Calloc t x u) (is ∙ sym (node.rolls-Calloc t x u))

    pub sets_found : (o : TreeOp) (x f : NamedExpr) → e.node ≡ node.Bin o x f → work_of o ≡ work.Sets → inside ≡ in_expr known x true ++ right_by known (form_of x) f b
    sets_found o x f is w =
        by (Node-F.Bin o x f) (is ∙ sym (node.rolls-Bin o x f)) ∙ ap (λ v. binary_inside v (found_in known x) (found_in known f) b) w
        ∙ ap (λ r. in_expr known x true ++ r) (right_found x f b)

    pub others_found : (o : TreeOp) (x f : NamedExpr) → e.node ≡ node.Bin o x f → ¬ (work_of o ≡ work.Sets) → inside ≡ in_expr known x b ++ in_expr known f b
    others_found o x f is differs = by (Node-F.Bin o x f) (is ∙ sym (node.rolls-Bin o x f)) ∙ others_inside (work_of o) x f b differs

    pub call_inside : (n : Name) (es : List NamedExpr) → e.node ≡ node.Call n es → inside ≡ in_exprs known es b
    call_inside n es is = by (Node-F.Call n es) (is ∙ sym (node.rolls-Call n es)) ∙ each_found listed (λ f. all_in f b) (found_in known) es

    pub trusted_inside : (t : NamedTypeTree) (x : NamedExpr) (l : Option NamedLimits) → e.node ≡ node.Trusted t x l → inside ≡ in_expr known x b ++ in_bounds known l
    trusted_inside t x None is = by (Node-F.Trusted t x None) (is ∙ sym (node.rolls-Trusted t x None))
    trusted_inside t x (Some l) is = by (Node-F.Trusted t x (Some l)) (is ∙ sym (node.rolls-Trusted t x (Some l)))

    pub tested_inside : (t : NamedTypeTree) (x : NamedExpr) (l : Option NamedLimits) → e.node ≡ node.Tested t x l → inside ≡ in_expr known x b ++ in_bounds known l
    tested_inside t x None is = by (Node-F.Tested t x None) (is ∙ sym (node.rolls-Tested t x None))
    tested_inside t x (Some l) is = by (Node-F.Tested t x (Some l)) (is ∙ sym (node.rolls-Tested t x (Some l)))

  module _ (l : NamedLimits) where
    pub count_found : (e : NamedExpr) (pos : Pos) → l ≡ limits.Count e pos → in_limits known l ≡ in_expr known e true
    count_found e pos is = limits_by known l (Limits-F.Count e pos) (is ∙ sym (limits.rolls-Count e pos))

    pub byte_count_found : (e : NamedExpr) (pos : Pos) → l ≡ limits.ByteCount e pos → in_limits known l ≡ in_expr known e true
    byte_count_found e pos is = limits_by known l (Limits-F.ByteCount e pos) (is ∙ sym (limits.rolls-ByteCount e pos))

    pub between_found : (e f : NamedExpr) (pos : Pos) → l ≡ limits.Between e f pos → in_limits known l ≡ in_expr known e true ++ in_expr known f true
    between_found e f pos is = limits_by known l (Limits-F.Between e f pos) (is ∙ sym (limits.rolls-Between e f pos))

    pub unknown_found : (pos : Pos) → l ≡ limits.Unknown pos → in_limits known l ≡ []
    unknown_found pos is = limits_by known l (Limits-F.Unknown pos) (is ∙ sym (limits.rolls-Unknown pos))
