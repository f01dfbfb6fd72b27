-- An object of file scope, by what its declaration becomes.
use Rattle.std.proofs.Common.{◌≡◌, List, sym, subst}
use Rattle.std.specs.Prelude.{Result}
use Rattle.ckc_syntax.specs.declared.tree.Item.TheVariants as item
use Rattle.ckc_base.specs.declared.fault.Fault.{Fault}
use Rattle.ckc_resolve.specs.declared.names.Names.{Names}
use Rattle.ckc_base.specs.Outcomes.{AnswersOutcome}
use Rattle.ckc_resolve.specs.Trees.{Item, Decl, NamedItem}
use Rattle.ckc_resolve.specs.Items.{item_named, static_named}

pub static_item : (r : Result NamedItem Fault) (names : Names) (all : List Item) (before : Names) (i : Item) (d e : Decl) → i ≡ item.Static d → e ≡ d → AnswersOutcome r (static_named names before e) → AnswersOutcome r (item_named names all before i)
static_item r names all before i d e is same h =
    subst (λ j. AnswersOutcome r (item_named names all before j)) (sym is) (subst (λ x. AnswersOutcome r (static_named names before x)) same h)
