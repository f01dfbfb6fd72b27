use Rattle.std.proofs.Common.{◌≡◌, ◌∙◌, ℕ, List, Ok, refl, ap, sym}
use Rattle.std.proofs.lemmas.Result.{err_from_is_err_and}
use Rattle.ckc_base.specs.declared.arithmetic.Mode.TheVariants.{Unchecked}
use Rattle.ckc_types.specs.declared.types.Structs.{Structs}
use Rattle.ckc_typed.specs.declared.environment.Globals.{Globals}
use Rattle.ckc_typed.specs.declared.typed.StaticObject.{StaticObject}
use Rattle.ckc_typed.specs.declared.typed.Typed.{Typed}
use Rattle.ckc_base.specs.Outcomes.{Outcome, bind}
use Rattle.ckc_typed.specs.Trees.{Tree, Item, NotedItem}
use Rattle.ckc_typed.specs.Layouts.{structs_of}
use Rattle.ckc_typed.specs.Texts.{globals_of, items_typed, laid_out, text_typed}
use Rattle.ckc_base.proofs.Chains.{fails, goes}
use Rattle.ckc_typing.proofs.text.typed_text.Goals as goal

abbrev made : Structs → ℕ → List NotedItem → List StaticObject → Outcome Typed
made layout main items statics = Ok (record { tree = record { items = items }; layout = layout; statics = statics; main = main })

abbrev placed_items : List Item → ℕ → List NotedItem → Outcome Typed
placed_items items main typed = bind (laid_out (structs_of items) typed) (made (structs_of items) main typed)

whole : (tree : Tree) (main : ℕ) → text_typed tree main ≡ bind (items_typed (globals_of tree.items) Unchecked tree.items) (placed_items tree.items main)
whole tree main = refl

module _ (globals : Globals) (items seen : List Item) (p : seen ≡ items) (q : globals ≡ globals_of seen) where
  same_structs : structs_of items ≡ globals.structs
  same_structs = ap structs_of (sym p) ∙ ap (λ g. g.structs) (sym q)

  same_items : (again : List Item) → again ≡ items → items_typed (globals_of items) Unchecked items ≡ items_typed globals Unchecked again
  same_items again r = ap (λ z. items_typed (globals_of z) Unchecked items) (sym p) ∙ ap (λ g. items_typed g Unchecked items) (sym q) ∙ ap (λ z. items_typed globals Unchecked z) (sym r)

  same_places : (typed judged : List NotedItem) → judged ≡ typed → laid_out (structs_of items) typed ≡ laid_out globals.structs judged
  same_places typed judged r = ap (λ s. laid_out s typed) same_structs ∙ ap (λ z. laid_out globals.structs z) (sym r)

pub returns-in_err-items : goal.returns-in_err-items
returns-in_err-items c =
    let p = err_from_is_err_and c.from_residual-in_err-items.result c.from_residual-in_err-items.ensures.1 in
    fails _ _ (placed_items c.args.tree.now.items c.args.main) (text_typed c.args.tree.now c.args.main) c.from_residual-in_err-items.result p.0 c.in_err-items.field-0.0
    (whole c.args.tree.now c.args.main)
    (same_items c.in_ok-globals.globals c.args.tree.now.items c.as_slice.result.now c.as_slice.ensures c.in_ok-globals.ensures c.as_slice-2.result.now c.as_slice-2.ensures) p.1 p.2 c.in_err-items.ensures

pub returns-in_err-statics : goal.returns-in_err-statics
returns-in_err-statics c =
    let p = err_from_is_err_and c.from_residual-in_err-statics.result c.from_residual-in_err-statics.ensures.1 in
    fails _ _ (made (structs_of c.args.tree.now.items) c.args.main c.in_ok-items.items) (text_typed c.args.tree.now c.args.main) c.from_residual-in_err-statics.result p.0 c.in_err-statics.field-0.0
    (goes _ _ (placed_items c.args.tree.now.items c.args.main) (text_typed c.args.tree.now c.args.main) c.in_ok-items.items
    (whole c.args.tree.now c.args.main)
    (same_items c.in_ok-globals.globals c.args.tree.now.items c.as_slice.result.now c.as_slice.ensures c.in_ok-globals.ensures c.as_slice-2.result.now c.as_slice-2.ensures) c.in_ok-items.ensures)
    (same_places c.in_ok-globals.globals c.args.tree.now.items c.as_slice.result.now c.as_slice.ensures c.in_ok-globals.ensures c.in_ok-items.items c.as_slice-3.result.now c.as_slice-3.ensures) p.1 p.2 c.in_err-statics.ensures

pub returns : goal.returns
returns c =
    goes _ _ (made (structs_of c.args.tree.now.items) c.args.main c.in_ok-items.items) (text_typed c.args.tree.now c.args.main) c.in_ok-statics.statics
    (goes _ _ (placed_items c.args.tree.now.items c.args.main) (text_typed c.args.tree.now c.args.main) c.in_ok-items.items
    (whole c.args.tree.now c.args.main)
    (same_items c.in_ok-globals.globals c.args.tree.now.items c.as_slice.result.now c.as_slice.ensures c.in_ok-globals.ensures c.as_slice-2.result.now c.as_slice-2.ensures) c.in_ok-items.ensures)
    (same_places c.in_ok-globals.globals c.args.tree.now.items c.as_slice.result.now c.as_slice.ensures c.in_ok-globals.ensures c.in_ok-items.items c.as_slice-3.result.now c.as_slice-3.ensures) c.in_ok-statics.ensures
    ∙ ap (λ s. made s c.args.main c.in_ok-items.items c.in_ok-statics.statics) (same_structs c.in_ok-globals.globals c.args.tree.now.items c.as_slice.result.now c.as_slice.ensures c.in_ok-globals.ensures)
