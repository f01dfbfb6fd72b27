-- The types phase keeps the names of the functions with a body, and the number of `main`.
use Rattle.std.proofs.Common.{◌≡◌, Bool, true, false, List, [], ◌∷◌, map, inl, inr, sym, ap, subst, ◌∙◌}
use Rattle.std.specs.Prelude.{◌⊎◌, Ok}
use Rattle.ckc_base.specs.declared.arithmetic.Mode.{Mode}
use Rattle.ckc_base.specs.declared.arithmetic.Mode.TheVariants.{Checked, Unchecked}
use Rattle.ckc_base.proofs.Outcomes.{ok_same, made_of}
use Rattle.ckc_syntax.specs.declared.tree.Name.{Name}
use Rattle.ckc_syntax.specs.declared.tree.NamedText.{NamedText}
use Rattle.ckc_syntax.specs.declared.tree.Item.TheVariants as item
use Rattle.ckc_typed.specs.declared.environment.Globals.{Globals}
use Rattle.ckc_typed.specs.declared.typed.Typed.{Typed}
use Rattle.ckc_typed.specs.Trees.{Item, Head, Stmt, NotedItem, NotedHead}
use Rattle.ckc_typed.specs.Types.{type_written}
use Rattle.ckc_typed.specs.Environment.{same_name, params_of, variables_of, variable_declared}
use Rattle.ckc_typed.specs.Expressions.{bounds_typed}
use Rattle.ckc_typed.specs.Declarations.{bares_typed, static_typed}
use Rattle.ckc_typed.specs.Statements.{body_mode, stmt_typed}
use Rattle.ckc_typed.specs.Layouts.{structs_of}
use Rattle.ckc_typed.specs.Texts.{result_allowed, head_with, head_typed, item_typed, items_typed, globals_of, laid_out, named_typed}
use Rattle.ckc_typed.specs.Walk.{head_mode, pragma_after}
use Rattle.ckc_build_elaborate.specs.Bodies.{defines, IsDefined}

front : {X Y : Type 0} (x y : Bool) → y ≡ x → (X → Y) → (x ≡ true) ⊎ X → (y ≡ true) ⊎ Y
front x y e f (inl h) = inl (e ∙ h)
front x y e f (inr h) = inr (f h)

module _ (globals : Globals) (n : Name) where
  head_name : (pragma : Mode) (h : Head) (g : NotedHead) → head_typed globals pragma h ≡ Ok g → g.name ≡ h.name
  head_name pragma h g e =
      let a = made_of (bares_typed globals (params_of Checked h) (head_mode pragma h) h.params) _ g e in
      let b = made_of (bounds_typed globals (params_of Checked h) (head_mode pragma h) h.bounds) _ g a.2 in
      let c = made_of (result_allowed h) _ g b.2 in
      ap (λ x. x.name) (sym (ok_same (head_with h a.0 b.0) g c.2))

  function_kept : (pragma : Mode) (h : Head) (body : Stmt) (j : NotedItem) → item_typed globals pragma (item.Function h body) ≡ Ok j → defines n j ≡ same_name h.name n
  function_kept pragma h body j e =
      let a = made_of (head_typed globals pragma h) _ j e in
      let b = made_of (stmt_typed globals (variables_of (body_mode (head_mode pragma h) body) h body) (type_written h.result) body (head_mode pragma h) false) _ j a.2 in
      ap (defines n) (sym (ok_same (item.Function a.0 b.0) j b.2)) ∙ ap (λ m. same_name m n) (head_name pragma h a.0 a.1)

  item_kept : (pragma : Mode) (i : Item) (j : NotedItem) → item_typed globals pragma i ≡ Ok j → defines n j ≡ defines n i
  item_kept pragma (item.Directive d) j e = ap (defines n) (sym (ok_same (item.Directive d) j e))
  item_kept pragma (item.Tag t at) j e = ap (defines n) (sym (ok_same (item.Tag t at) j e))
  item_kept pragma (item.Struct t ms at) j e =
      let a = made_of (bares_typed globals (map variable_declared ms) pragma ms) _ j e in
      ap (defines n) (sym (ok_same (item.Struct t a.0 at) j a.2))
  item_kept pragma (item.Static d) j e =
      let a = made_of (static_typed globals pragma d) _ j e in
      ap (defines n) (sym (ok_same (item.Static a.0) j a.2))
  item_kept pragma (item.Proto h) j e =
      let a = made_of (head_typed globals pragma h) _ j e in
      ap (defines n) (sym (ok_same (item.Proto a.0) j a.2))
  item_kept pragma (item.Function h body) j e = function_kept pragma h body j e

  items_kept : (pragma : Mode) (items : List Item) (js : List NotedItem) → items_typed globals pragma items ≡ Ok js → IsDefined n items → IsDefined n js
  items_kept pragma [] js e d = absurd d
  items_kept pragma (i ∷ rest) js e d =
      let a = made_of (item_typed globals pragma i) _ js e in
      let b = made_of (items_typed globals (pragma_after pragma i) rest) _ js a.2 in
      subst (λ l. IsDefined n l) (ok_same (a.0 ∷ b.0) js b.2)
      (front (defines n i) (defines n a.0) (item_kept pragma i a.0 a.1) (items_kept (pragma_after pragma i) rest b.0 b.1) d)

module _ (t : NamedText) (p : Typed) (e : named_typed t ≡ Ok p) where
  pub functions_kept : (n : Name) → IsDefined n t.tree.items → IsDefined n p.tree.items
  functions_kept n d =
      let a = made_of (items_typed (globals_of t.tree.items) Unchecked t.tree.items) _ p e in
      let b = made_of (laid_out (structs_of t.tree.items) a.0) _ p a.2 in
      subst (λ q. IsDefined n q.tree.items) (ok_same _ p b.2) (items_kept (globals_of t.tree.items) n Unchecked t.tree.items a.0 a.1 d)

  pub main_kept : p.main ≡ t.main
  main_kept =
      let a = made_of (items_typed (globals_of t.tree.items) Unchecked t.tree.items) _ p e in
      let b = made_of (laid_out (structs_of t.tree.items) a.0) _ p a.2 in
      ap (λ q. q.main) (sym (ok_same _ p b.2))
