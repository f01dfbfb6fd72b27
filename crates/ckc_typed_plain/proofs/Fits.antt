-- What later phases may rely on in a plain text.
use Rattle.std.proofs.Common.{◌≡◌, true}
use Rattle.ckc_syntax.specs.declared.tree.NamedText.{NamedText}
use Rattle.ckc_syntax.specs.Trees.{Tree}
use Rattle.ckc_plain.specs.Phase.{resolving}
use Rattle.ckc_typed_fit.specs.Fit.{Fit}
use Rattle.ckc_typed_welltyped.specs.Productions.{spoken_tree}
use Rattle.ckc_typed_plain.proofs.Stay.{statics_count, functions_count, tags_count, members_differ, bodies_kept, main_kept, small_kept}
use Rattle.ckc_typed_plain.proofs.Given.{plain_given}
use Rattle.ckc_typed_plain.proofs.Found.{names_visible, tags_have_bodies}
use Rattle.ckc_typed_plain.proofs.PlainLocals.{params_numbered, locals_numbered}

pub texts_fit : (t : Tree) (n : NamedText) → spoken_tree t ≡ true → resolving.Makes t n → Fit n
texts_fit t n form m = record {
  given = plain_given t n form m;
  small = small_kept t n m;
  params = params_numbered t n m;
  locals = locals_numbered t n m;
  statics = statics_count t n m;
  functions = functions_count t n m;
  tags = tags_count t n m;
  members = members_differ t n m;
  names = names_visible t n form m;
  tags_have_bodies = tags_have_bodies t n form m;
  functions_have_bodies = bodies_kept t n m;
  main = main_kept t n m;
}
