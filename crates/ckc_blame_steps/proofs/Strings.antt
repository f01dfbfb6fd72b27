-- The string literals of the parts of a statement that is a step by itself.
use Rattle.std.proofs.Common.{◌≡◌, refl, ap, subst, ℕ, ◌+◌, Bool, true, List, [], ◌∷◌, ◌++◌, map}
use Rattle.std.specs.Prelude.{if◌then◌else◌, Some}
use Rattle.std.specs.List.{flat_map}
use Rattle.ckc_syntax.specs.declared.tree.Name.{Name}
use Rattle.ckc_syntax.specs.declared.tree.Init.TheVariants as init
use Rattle.ckc_syntax.specs.Inside.{listed, inside_each}
use Rattle.ckc_syntax.specs.declared.tree.Act.{Act-F, out-Act}
use Rattle.ckc_syntax.specs.declared.tree.Node.{Node-F, out-Node}
use Rattle.ckc_typed.specs.declared.typed.Note.{Note}
use Rattle.ckc_typed.specs.Declarations.{is_plain}
use Rattle.ckc_typed.specs.Statics.{Strings, strings_of_expr, strings_of_bounds, strings_of_init, strings_of_value, act_strings, strings_of_stmt}
use Rattle.ckc_typed.specs.Trees.{NotedDecl, NotedExpr, NotedInit, NotedLayer, NotedStmt}
use Rattle.ckc_build_values.specs.Expressions.{literals_of}
use Rattle.ckc_build_values.proofs.Counted.{expr_counted}
use Rattle.ckc_build_elaborate.specs.Literals.{literals_of_bounds}
use Rattle.ckc_build_elaborate.proofs.Counted.{bounds}
use Rattle.ckc_blame_sound.specs.Settings.{Setting, AreStrings}
use Rattle.ckc_blame_sound.proofs.Strings.{strings_in_front, strings_after, strings_inside, strings_are}
use Rattle.ckc_blame_sound.proofs.Stepping.{ActLayer}
use Rattle.ckc_blame_given.specs.ckc_blame_pointers.proofs.Strings.{strings_in_node}
use Rattle.ckc_blame_given.proofs.Layers as layers
use Rattle.ckc_blame_steps.specs.Results.{returned_by, returned_by_act}

module _ (s : Setting) (literals : ℕ) (st : NotedStmt) (strings : AreStrings s literals (strings_of_stmt st)) where
  pub strings_there : (x : ActLayer) → out-Act Name Note st.body ≡ x → AreStrings s literals (act_strings (strings_inside x))
  strings_there x is =
      subst (λ y. AreStrings s literals (act_strings (strings_inside y))) is (subst (AreStrings s literals) (strings_are st) strings)

  -- those of the sides of an assignment
  pub sides_strings : (e f : NotedExpr) → out-Act Name Note st.body ≡ Act-F.Assign e f
      → AreStrings s literals (strings_of_expr e) × AreStrings s (literals + literals_of e) (strings_of_expr f)
  sides_strings e f is =
      let h = strings_there (Act-F.Assign e f) is in
      (strings_in_front s (strings_of_expr e) (strings_of_expr f) literals h, strings_after s (strings_of_expr e) (strings_of_expr f) literals (literals_of e) (expr_counted e) h)

  -- those of the initialiser of a local, which is no array
  pub init_strings : (d : NotedDecl) (e : NotedExpr) → out-Act Name Note st.body ≡ Act-F.Local d → is_plain d.length ≡ true → d.init ≡ init.One e
      → AreStrings s (literals + literals_of_bounds d.bounds) (strings_of_expr e)
  init_strings d e is plain one =
      let h : AreStrings s (literals + literals_of_bounds d.bounds) (strings_of_init (is_plain d.length) d.init) =
      strings_after s (strings_of_bounds d.bounds) (strings_of_init (is_plain d.length) d.init) literals (literals_of_bounds d.bounds) (bounds d.bounds) (strings_there (Act-F.Local d) is) in
      subst (λ (b : Bool). AreStrings s (literals + literals_of_bounds d.bounds) (if b then strings_of_expr e else [])) plain
      (subst (λ (i : NotedInit). AreStrings s (literals + literals_of_bounds d.bounds) (strings_of_init (is_plain d.length) i)) one h)

  -- those of what is returned
  pub returned_strings : (f : NotedExpr) → returned_by st ≡ Some f → AreStrings s literals (strings_of_expr f)
  returned_strings f is = by (out-Act Name Note st.body) refl is
    where
      by : (x : ActLayer) → out-Act Name Note st.body ≡ x → returned_by_act x ≡ Some f → AreStrings s literals (strings_of_expr f)
      by (Act-F.Return e) out there = subst (λ o. AreStrings s literals (strings_of_value o)) there (strings_there (Act-F.Return e) out)
      by x out there = absurd cc

each_listed : (es : List NotedExpr) → inside_each listed (λ (xs : Strings). xs) (map (λ (e : NotedExpr). strings_of_expr e) es) ≡ flat_map strings_of_expr es
each_listed [] = refl
each_listed (e ∷ es) = ap (λ xs. strings_of_expr e ++ xs) (each_listed es)

-- those of the arguments of a call
pub call_strings : (s : Setting) (k : ℕ) (e : NotedExpr) (n : Name) (es : List NotedExpr) → out-Node Name Note e.node ≡ Node-F.Call n es
    → AreStrings s k (strings_of_expr e) → AreStrings s k (flat_map strings_of_expr es)
call_strings s k e n es is h =
    subst (AreStrings s k) (each_listed es)
    (subst (λ (x : NotedLayer). AreStrings s k (strings_in_node x)) is (subst (AreStrings s k) (layers.strings_are e) h))
