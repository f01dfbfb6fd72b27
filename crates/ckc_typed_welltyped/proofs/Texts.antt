-- Whole texts: what they become is well typed, and what is well typed is what it becomes without its notes.
use Rattle.std.proofs.Common.{◌≡◌, ◌≤◌, ℕ, false, nat_lt, List, [], ◌∷◌, map, refl, sym, ap, subst, ◌∙◌, arith}
use Rattle.std.specs.Prelude.{Option, Ok, IfSome}
use Rattle.std.specs.Option.{option_map}
use Rattle.std.specs.List.{AllByRecursion}
use Rattle.std.proofs.lemmas.Bool.Decides.{nat_tests}
use Rattle.ckc_base.specs.Places.{start}
use Rattle.ckc_base.specs.declared.arithmetic.Mode.{Mode}
use Rattle.ckc_base.specs.declared.arithmetic.Mode.TheVariants.{Checked, Unchecked}
use Rattle.ckc_base.specs.Outcomes.{unless}
use Rattle.ckc_types.specs.declared.types.Structs.{Structs}
use Rattle.ckc_syntax.specs.declared.tree.Item.TheVariants as item
use Rattle.ckc_syntax.specs.declared.tree.NamedText.{NamedText}
use Rattle.ckc_typed.specs.declared.environment.Globals.{Globals}
use Rattle.ckc_typed.specs.declared.typed.StaticObject.{StaticObject}
use Rattle.ckc_typed.specs.declared.typed.Typed.{Typed}
use Rattle.ckc_typed.specs.Codes.{bad_operands, late_statics}
use Rattle.ckc_typed.specs.Trees.{Tree, Item, Head, Decl, Limits, Stmt, NotedItem, NotedHead, NotedStmt}
use Rattle.ckc_typed.specs.Types.{type_written}
use Rattle.ckc_typed.specs.Environment.{params_of, variables_of, variable_declared}
use Rattle.ckc_typed.specs.Expressions.{bounds_typed}
use Rattle.ckc_typed.specs.Declarations.{bare_typed, bares_typed, static_typed}
use Rattle.ckc_typed.specs.Statements.{body_mode, stmt_typed}
use Rattle.ckc_typed.specs.Layouts.{structs_of}
use Rattle.ckc_base.specs.MemoryMap.{data_start, statics_end}
use Rattle.ckc_typed.specs.Statics.{blocks, placed, end_of_blocks}
use Rattle.ckc_typed.specs.Texts.{is_result_type, result_allowed, head_with, head_typed, item_typed, items_typed, globals_of, laid_out, text_typed, named_typed}
use Rattle.ckc_typed.specs.Walk.{head_mode, pragma_after}
use Rattle.ckc_typed_welltyped.specs.Noteless.{bare_decl, bare_limits, bare_stmt, bare_head, bare_item, without_notes}
use Rattle.ckc_typed_welltyped.specs.Expressions.{WellTypedLimits}
use Rattle.ckc_typed_welltyped.specs.Declarations.{WellTypedBare}
use Rattle.ckc_typed_welltyped.specs.Statements.{WellTypedStmt}
use Rattle.ckc_typed_welltyped.specs.Texts.{WellTypedHead, members_seen, WellTypedItem, WellTypedItems, WellTyped, TypedAs}
use Rattle.ckc_base.proofs.Outcomes.{each_made, each_back, ok_same, made_of, goes, unbroken_is, kept_rule, keeps_rule}
use Rattle.ckc_typed_welltyped.proofs.Decls.{bounds_give, bounds_back, bare_gives, bare_back, static_gives, static_back}
use Rattle.ckc_typed_welltyped.proofs.TypedActs.{stmt_gives}
use Rattle.ckc_typed_welltyped.proofs.ActsBack.{stmt_back}
use Rattle.ckc_typed_welltyped.proofs.Seen.{body_mode_bare}

abbrev head_of : Head → List Decl → Option Limits → Head
head_of h ps l = record { mode = h.mode; result = h.result; name = h.name; params = ps; bounds = l; pos = h.pos }

module _ (globals : Globals) (pragma : Mode) where
  abbrev GivesHead : Head → NotedHead → Type 0
  GivesHead h n = (bare_head n ≡ h) × WellTypedHead globals pragma n

  head_gives : (h : Head) (n : NotedHead) → head_typed globals pragma h ≡ Ok n → GivesHead h n
  head_gives h n e =
      let a = made_of (bares_typed globals (params_of Checked h) (head_mode pragma h) h.params) _ n e in
      let g = each_made (bare_typed globals (params_of Checked h) (head_mode pragma h)) bare_decl (WellTypedBare globals (params_of Checked h) (head_mode pragma h)) (bare_gives globals (params_of Checked h) (head_mode pragma h)) h.params a.0 a.1 in
      let b = made_of (bounds_typed globals (params_of Checked h) (head_mode pragma h) h.bounds) _ n a.2 in
      let f = bounds_give globals (params_of Checked h) (head_mode pragma h) h.bounds b.0 b.1 in
      let u = made_of (result_allowed h) _ n b.2 in
      let same : bare_head (head_with h a.0 b.0) ≡ h = ap (λ ps. head_of h ps (option_map bare_limits b.0)) g.0 ∙ ap (λ l. head_of h h.params l) f.0 in
      subst (GivesHead h) (ok_same _ n u.2) (
        same,
        record {
          params = subst (λ vs. AllByRecursion (WellTypedBare globals vs (head_mode pragma h)) a.0) (sym (ap (params_of Checked) same)) g.1;
          bounds = subst (λ vs. IfSome b.0 (WellTypedLimits globals vs (head_mode pragma h))) (sym (ap (params_of Checked) same)) f.1;
          result = (kept_rule {A = Unit {0}} (is_result_type (type_written h.result)) bad_operands h.pos (Ok tt) u.0 u.1).0;
        },
      )

  head_back : (n : NotedHead) → WellTypedHead globals pragma n → head_typed globals pragma (bare_head n) ≡ Ok n
  head_back n w =
      let vs = params_of Checked (bare_head n) in let mode = head_mode pragma n in
      goes (bares_typed globals vs mode (map bare_decl n.params)) _ n.params _ (each_back (bare_typed globals vs mode) bare_decl (WellTypedBare globals vs mode) (bare_back globals vs mode) n.params w.params)
      (goes (bounds_typed globals vs mode (option_map bare_limits n.bounds)) _ n.bounds _ (bounds_back globals vs mode n.bounds w.bounds)
      (goes (result_allowed (bare_head n)) _ tt _ (keeps_rule {A = Unit {0}} (is_result_type (type_written n.result)) bad_operands n.pos (Ok tt) tt w.result refl) refl))

  abbrev GivesItem : Item → NotedItem → Type 0
  GivesItem i n = (bare_item n ≡ i) × WellTypedItem globals pragma n

  -- seen by a body of a mode, and by one of its own
  abbrev BodyIn : NotedStmt → Head → Stmt → Mode → Type 0
  BodyIn b h s mode = WellTypedStmt globals (variables_of mode h s) (type_written h.result) b (head_mode pragma h) false

  abbrev BodyOf : NotedStmt → Head → Stmt → Type 0
  BodyOf b h s = BodyIn b h s (body_mode (head_mode pragma h) s)

  pub item_gives : (i : Item) (n : NotedItem) → item_typed globals pragma i ≡ Ok n → (bare_item n ≡ i) × WellTypedItem globals pragma n
  item_gives (item.Directive d) n e = subst (GivesItem (item.Directive d)) (ok_same _ n e) (refl, tt)
  item_gives (item.Tag name at) n e = subst (GivesItem (item.Tag name at)) (ok_same _ n e) (refl, tt)
  item_gives (item.Struct name members at) n e =
      let vs = map variable_declared members in
      let a = made_of (bares_typed globals vs pragma members) _ n e in
      let g = each_made (bare_typed globals vs pragma) bare_decl (WellTypedBare globals vs pragma) (bare_gives globals vs pragma) members a.0 a.1 in
      subst (GivesItem (item.Struct name members at)) (ok_same _ n a.2)
      (ap (λ ms. item.Struct name ms at) g.0, subst (λ ms. AllByRecursion (WellTypedBare globals (map variable_declared ms) pragma) a.0) (sym g.0) g.1)
  item_gives (item.Static d) n e =
      let a = made_of (static_typed globals pragma d) _ n e in let g = static_gives globals pragma d a.0 a.1 in
      subst (GivesItem (item.Static d)) (ok_same _ n a.2) (ap item.Static g.0, g.1)
  item_gives (item.Proto h) n e =
      let a = made_of (head_typed globals pragma h) _ n e in let g = head_gives h a.0 a.1 in
      subst (GivesItem (item.Proto h)) (ok_same _ n a.2) (ap item.Proto g.0, g.1)
  item_gives (item.Function h body) n e =
      let a = made_of (head_typed globals pragma h) _ n e in let g = head_gives h a.0 a.1 in
      let b = made_of (stmt_typed globals (variables_of (body_mode (head_mode pragma h) body) h body) (type_written h.result) body (head_mode pragma h) false) _ n a.2 in
      let f = stmt_gives globals (variables_of (body_mode (head_mode pragma h) body) h body) (type_written h.result) body (head_mode pragma h) false b.0 b.1 in
      subst (GivesItem (item.Function h body)) (ok_same _ n b.2) (
        ap (λ x. item.Function x (bare_stmt b.0)) g.0 ∙ ap (λ x. item.Function h x) f.0,
        (g.1, subst (BodyIn b.0 (bare_head a.0) (bare_stmt b.0)) (body_mode_bare (head_mode pragma a.0) b.0) (subst (λ x. BodyOf b.0 x (bare_stmt b.0)) (sym g.0) (subst (λ x. BodyOf b.0 h x) (sym f.0) f.1))),
      )

  pub item_back : (n : NotedItem) → WellTypedItem globals pragma n → item_typed globals pragma (bare_item n) ≡ Ok n
  item_back (item.Directive d) w = refl
  item_back (item.Tag name at) w = refl
  item_back (item.Struct name members at) w =
      let vs = members_seen members in
      goes (bares_typed globals vs pragma (map bare_decl members)) _ members _ (each_back (bare_typed globals vs pragma) bare_decl (WellTypedBare globals vs pragma) (bare_back globals vs pragma) members w) refl
  item_back (item.Static d) w = goes (static_typed globals pragma (bare_decl d)) _ d _ (static_back globals pragma d w) refl
  item_back (item.Proto h) w = goes (head_typed globals pragma (bare_head h)) _ h _ (head_back h w) refl
  item_back (item.Function h body) w =
      let mode = body_mode (head_mode pragma h) (bare_stmt body) in let seen = variables_of mode (bare_head h) (bare_stmt body) in
      goes (head_typed globals pragma (bare_head h)) _ h _ (head_back h w.0)
      (goes (stmt_typed globals seen (type_written h.result) (bare_stmt body) (head_mode pragma h) false) _ body _
      (stmt_back globals seen (type_written h.result) body (head_mode pragma h) false (subst (BodyIn body (bare_head h) (bare_stmt body)) (sym (body_mode_bare (head_mode pragma h) body)) w.1)) refl)

items_give : (globals : Globals) (pragma : Mode) (items : List Item) (ns : List NotedItem) → items_typed globals pragma items ≡ Ok ns → (map bare_item ns ≡ items) × WellTypedItems globals pragma ns
items_give globals pragma [] ns e = subst (λ zs. (map bare_item zs ≡ []) × WellTypedItems globals pragma zs) (ok_same [] ns e) (refl, tt)
items_give globals pragma (i ∷ rest) ns e =
    let a = made_of (item_typed globals pragma i) _ ns e in let g = item_gives globals pragma i a.0 a.1 in
    let b = made_of (items_typed globals (pragma_after pragma i) rest) _ ns a.2 in let f = items_give globals (pragma_after pragma i) rest b.0 b.1 in
    subst (λ zs. (map bare_item zs ≡ i ∷ rest) × WellTypedItems globals pragma zs) (ok_same _ ns b.2)
    (ap (λ x. x ∷ map bare_item b.0) g.0 ∙ ap (λ xs. i ∷ xs) f.0, (g.1, subst (λ x. WellTypedItems globals (pragma_after pragma x) b.0) (sym g.0) f.1))

items_back : (globals : Globals) (pragma : Mode) (ns : List NotedItem) → WellTypedItems globals pragma ns → items_typed globals pragma (map bare_item ns) ≡ Ok ns
items_back globals pragma [] w = refl
items_back globals pragma (n ∷ ns) w =
    goes (item_typed globals pragma (bare_item n)) _ n _ (item_back globals pragma n w.0)
    (goes (items_typed globals (pragma_after pragma (bare_item n)) (map bare_item ns)) _ ns _ (items_back globals (pragma_after pragma (bare_item n)) ns w.1) refl)

at_most : (a b : ℕ) → nat_lt a b ≡ false → b ≤ a
at_most a b h = grind (arith, nat_tests)

not_more : (a b : ℕ) → b ≤ a → nat_lt a b ≡ false
not_more a b h = grind (arith, nat_tests)

abbrev tree_with : List Item → Tree
tree_with is = record { items = is }

pub gives : (t : NamedText) (p : Typed) → named_typed t ≡ Ok p → TypedAs t p
gives t p e =
    let a = made_of (items_typed (globals_of t.tree.items) Unchecked t.tree.items) _ p e in let g = items_give (globals_of t.tree.items) Unchecked t.tree.items a.0 a.1 in
    let b = made_of (laid_out (structs_of t.tree.items) a.0) _ p a.2 in
    let k = unbroken_is (nat_lt statics_end (end_of_blocks (structs_of t.tree.items) data_start (blocks (structs_of t.tree.items) a.0))) late_statics start (placed (structs_of t.tree.items) data_start (blocks (structs_of t.tree.items) a.0)) b.0 b.1 in
    subst (TypedAs t) (ok_same _ p b.2) (record {
      tree = ap tree_with g.0;
      main = refl;
      typed = record {
        items = subst (λ is. WellTypedItems (globals_of is) Unchecked a.0) (sym g.0) g.1;
        layout = ap structs_of (sym g.0);
        statics = sym k.1;
        ends = at_most statics_end (end_of_blocks (structs_of t.tree.items) data_start (blocks (structs_of t.tree.items) a.0)) k.0;
      };
    })

lies : (structs : Structs) (items : List NotedItem) (statics : List StaticObject) → statics ≡ placed structs data_start (blocks structs items) → end_of_blocks structs data_start (blocks structs items) ≤ statics_end → laid_out structs items ≡ Ok statics
lies structs items statics e h =
    ap (λ b. unless b late_statics start (Ok (placed structs data_start (blocks structs items)))) (not_more statics_end (end_of_blocks structs data_start (blocks structs items)) h) ∙ ap Ok (sym e)

text_back : (p : Typed) → WellTyped p → text_typed (without_notes p.tree) p.main ≡ Ok p
text_back p w =
    let items = (without_notes p.tree).items in
    goes (items_typed (globals_of items) Unchecked items) _ p.tree.items _ (items_back (globals_of items) Unchecked p.tree.items w.items)
    (goes (laid_out (structs_of items) p.tree.items) _ p.statics _ (subst (λ l. laid_out l p.tree.items ≡ Ok p.statics) w.layout (lies p.layout p.tree.items p.statics w.statics w.ends))
    (ap (λ l. Ok (record p { layout = l })) (sym w.layout)))

pub back : (t : NamedText) (p : Typed) → TypedAs t p → named_typed t ≡ Ok p
back t p w = ap (λ x. text_typed x t.main) (sym w.tree) ∙ ap (λ m. text_typed (without_notes p.tree) m) (sym w.main) ∙ text_back p w.typed
