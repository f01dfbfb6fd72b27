-- The program of a text that the phases accept can be compiled, if the places in it fit in their words, and its numbers fit.
use Rattle.std.proofs.Common.{ℕ, List}
use Rattle.ckc_syntax.specs.declared.tree.NamedText.{NamedText}
use Rattle.ckc_syntax_limits.specs.Small.{Small}
use Rattle.ckc_typed.specs.declared.typed.Typed.{Typed}
use Rattle.ckc_typed_welltyped.specs.Texts.{TypedAs}
use Rattle.ckc_checks_operands.specs.Compilable.{IsCompilable}
use Rattle.ckc_build_elaborate.specs.Elaborated.{elaborated}
use Rattle.ckc_build_words.specs.Numbers.{NumbersFit}
use Rattle.ckc_build_words.specs.Places.{PlacesFit}
use Rattle.ckc_blame_steps.specs.Accepted.{IsAccepted}
use Rattle.ckc_blame_steps.proofs.Accepted.{accepted_known}
use Rattle.ckc_build_forms.proofs.Programs.{form_by, numbers_by}

module _ (stays : (t : NamedText) (p : Typed) → TypedAs t p → Small t.tree → Small p.tree) where
  pub has_the_form : (text : List ℕ) (p : Typed) → IsAccepted text p → PlacesFit (elaborated p) → IsCompilable (elaborated p)
  has_the_form text p a places =
      let k = accepted_known text p a in
      let j = k.0.granted.judged in
      form_by p j k.1.given k.1.small (stays j.named j.typed j.has_types k.1.small) k.0.granted.words places

  pub numbers_fit : (text : List ℕ) (p : Typed) → IsAccepted text p → NumbersFit (elaborated p)
  numbers_fit text p a =
      let k = accepted_known text p a in
      let j = k.0.granted.judged in
      numbers_by p j k.1.given k.1.small (stays j.named j.typed j.has_types k.1.small) k.0.granted.words
