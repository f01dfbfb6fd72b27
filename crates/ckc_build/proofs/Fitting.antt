-- The program of a text fits into an image.
use Rattle.std.proofs.Common.{◌≡◌, ℕ, ◌*◌, ◌≤◌, List, Ok, sym, subst, arith}
use Rattle.ckc_syntax.specs.declared.tree.NamedText.{NamedText}
use Rattle.ckc_syntax_limits.specs.Marks.{marks_of, is_node}
use Rattle.ckc_syntax_limits.specs.Small.{how_many, Small}
use Rattle.ckc_parser.specs.Phase.{SpelledTree}
use Rattle.ckc_plain.specs.Phase.{resolving}
use Rattle.ckc_source.specs.Code.{Program}
use Rattle.ckc_typed.specs.declared.typed.Typed.{Typed}
use Rattle.ckc_typed.specs.Texts.{named_typed}
use Rattle.ckc_bounds.specs.Phase.{bounding}
use Rattle.ckc_build_elaborate.specs.Elaborated.{elaborated}
use Rattle.ckc_checks_operands.specs.Weights.{program_weight}
use Rattle.ckc_build_wellformed.specs.ckc_build_sizes.specs.Nodes.{text_nodes}
use Rattle.ckc_build.specs.Meanings.{HasMeaning}

module _
    (named_small : (t : SpelledTree) (n : NamedText) → resolving.Makes t n → Small n.tree)
    (typed_small : (n : NamedText) (p : Typed) → named_typed n ≡ Ok p → Small n.tree → Small p.tree)
    (marks_stay : (p q : Typed) → bounding.Makes p q → marks_of q.tree ≡ marks_of p.tree)
    (light : (p : Typed) → program_weight (elaborated p) ≤ 240 * text_nodes p) where
  pub meaning_fits : (text : List ℕ) (p : Program) → HasMeaning text p → program_weight p ≤ 4193275
  meaning_fits text p made =
      let limited = made.1.2 in
      let named = limited.2 in
      let typed = named.2 in
      let scoped = typed.2 in
      let second : Small typed.0.tree = typed_small named.0 typed.0 typed.1 (named_small limited.0 named.0 named.1) in
      let third : Small scoped.0.tree = let P : Typed → Type 0 = λ t. Small t.tree in subst P (sym scoped.1.1) second in
      let nodes : text_nodes made.0 ≤ 16384 = subst (λ ms. how_many is_node ms ≤ 16384) (sym (marks_stay scoped.0 made.0 scoped.2)) third.nodes in
      let weight : program_weight (elaborated made.0) ≤ 4193275 = omega (arith, light made.0, nodes) in
      let same : elaborated made.0 ≡ p = let e = made.2 in cc in
      subst (λ q. program_weight q ≤ 4193275) same weight
