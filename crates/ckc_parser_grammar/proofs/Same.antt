-- The table and the grammar derive the same trees.
use Rattle.std.proofs.Common.{◌≡◌, ◌↔◌, List, [], ◌∷◌, ◌++◌, Bool, false, refl, subst, ap, ◌∙◌}
use Rattle.ckc_syntax.specs.Spelled.{Spelled}
use Rattle.ckc_syntax.specs.Trees.{Tree}
use Rattle.ckc_parser_grammar.specs.declared.kind.Kind.TheVariants as k
use Rattle.ckc_parser_grammar.specs.code.Derives.{Derives}
use Rattle.ckc_parser_grammar.specs.code.Grammar as g
use Rattle.ckc_parser_grammar.specs.code.Signs.{signs}
use Rattle.ckc_parser_grammar.specs.code.Values as v
use Rattle.ckc_parser_grammar.specs.code.Values.{tree}
use Rattle.ckc_grammar.specs.Productions as l
use Rattle.ckc_grammar.specs.Productions.{productions}
use Rattle.ckc_grammar.specs.Derivation.{Word, before_else, chosen, Derivation, used, result, value}
use Rattle.ckc_grammar.specs.Derivation as E
use Rattle.ckc_grammar.specs.Text.{DerivesText, DerivesTree}
use Rattle.ckc_parser_grammar.specs.code.Text.{DerivesValue}
use Rattle.ckc_parser_grammar.proofs.Pieces.{cut}
use Rattle.ckc_parser_grammar.proofs.Onto.{trees, words_same}
use Rattle.ckc_parser_grammar.proofs.Back.{All, t_moved, Got, end, token, piece, sole, worth}
use Rattle.ckc_parser_grammar.proofs.Alternatives.{alternative}

-- the pieces of a derivation, and its value
got : {ss : List l.Symbol} {ws : List Word} {e : Bool} (d : Derivation ss ws e) (X : Type 0) (f : l.Makes ss X) → Got ss ws e X f
got E.nil X f = end
got (E.read {u = u} {x = w} h d) X f = token h (got d X (used u w.token f))
got (E.by {p = p} {e = e} c xs ys d d2 h) X f =
    let q = got d (l.Meaning p) (chosen (productions p) c).made in
    piece xs (worth q) (alternative p c xs (before_else ys e) q) (got d2 X (f (worth q))) h
got (E.without h d) X f = sole h (got d X f)

worth_same : {ss : List l.Symbol} {ws : List Word} {e : Bool} (d : Derivation ss ws e) (X : Type 0) (f : l.Makes ss X) → worth (got d X f) ≡ result d X f
unfolding got result
worth_same E.nil X f = refl
worth_same (E.read {u = u} {x = w} h d) X f = worth_same d X (used u w.token f)
worth_same (E.by {p = p} c xs ys d d2 h) X f =
    worth_same d2 X (f (worth (got d (l.Meaning p) (chosen (productions p) c).made)))
    ∙ ap (λ z. result d2 X (f z)) (worth_same d (l.Meaning p) (chosen (productions p) c).made)
worth_same (E.without h d) X f = worth_same d X f

text_back : {ws : List Word} {e : Bool} (d : Derivation (l.n l.text ∷ []) ws e) → All (g.n g.text ∷ []) ws (v.tree (value d) ∷ [])
unfolding result
text_back {e = e} (E.by c xs [] d E.nil h) =
    let q = got d (l.Meaning l.text) (chosen (productions l.text) c).made in
    t_moved (cut h) (subst (λ z. All (g.n g.text ∷ []) xs (v.tree z ∷ [])) (worth_same d (l.Meaning l.text) (chosen (productions l.text) c).made) (alternative l.text c xs e q))
text_back (E.by c xs (y ∷ ys) d r h) = elim r [ ]

-- a text of the grammar is one of the table
pub back : (xs : List Spelled) (d : DerivesText xs) → DerivesValue xs (tree (value d))
back xs d = subst (λ z. Derives (g.n g.text ∷ []) z k.End (v.tree (value d) ∷ [])) (words_same xs) ((text_back d false).derived k.End refl)

pub same_tree : (xs : List Spelled) (whole : Tree) → DerivesTree xs whole ↔ DerivesValue xs (tree whole)
same_tree xs whole = (λ d. subst (λ z. DerivesValue xs (tree z)) d.1 (back xs d.0), trees xs whole)
