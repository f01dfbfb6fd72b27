-- Tokens have one tree or one fault, and not both.
use Rattle.std.proofs.Common.{◌≡◌, List, [], ◌∷◌, ◌++◌, sym, ap, subst, ◌∙◌, append_assoc, append-nil}
use Rattle.ckc_base.specs.declared.places.Pos.{Pos}
use Rattle.ckc_syntax.specs.Spelled.{Spelled}
use Rattle.ckc_grammar.specs.Trees.{Tree}
use Rattle.ckc_grammar.specs.Text.{DerivesText, DerivesTree, Viable, FaultAt, IsFault}
use Rattle.ckc_parser_grammar.specs.code.Values.{tree}
use Rattle.ckc_parser_grammar.proofs.Same.{same_tree}
use Rattle.ckc_parser_grammar.proofs.Theory.{same_read}
use Rattle.ckc_parser_trace.proofs.Top.{whole_taken}

pub one_tree : (xs : List Spelled) (a b : Tree) → DerivesTree xs a → DerivesTree xs b → a ≡ b
one_tree xs a b d e = let h = (same_read (whole_taken xs (tree a) ((same_tree xs a).0 d)) (tree b ∷ []) [] (whole_taken xs (tree b) ((same_tree xs b).0 e))).0 in cc

-- what begins a list that begins a text, begins one
viable_front : (a b : List Spelled) → Viable (a ++ b) → Viable a
viable_front a b v = (b ++ v.0, subst (λ z. DerivesText z) (append_assoc a b v.0) v.1)

at_once : (f r : List Spelled) (end a b : Pos) → FaultAt f r end a → FaultAt f r end b → a ≡ b
at_once f [] end a b h k = h.0 ∙ sym k.0
at_once f (x ∷ r) end a b h k = h.0 ∙ sym k.0

-- the one fault does not stand before the other
not_before : (p r g s : List Spelled) (y : Spelled) (end a : Pos) → r ≡ y ∷ (g ++ s) → Viable (p ++ y ∷ g) → FaultAt (p ++ []) r end a → ⊥
not_before p r g s y end a e v h =
    let at : FaultAt (p ++ []) (y ∷ (g ++ s)) end a = subst (λ z. FaultAt (p ++ []) z end a) e h in
    let whole : p ++ y ∷ g ≡ ((p ++ []) ++ y ∷ []) ++ g = ap (λ z. z ++ y ∷ g) (sym (append-nil p)) ∙ sym (append_assoc (p ++ []) (y ∷ []) g) in
    at.1 (viable_front ((p ++ []) ++ y ∷ []) g (subst (λ z. Viable z) whole v))

compare : (p g r h s : List Spelled) (end a b : Pos) → g ++ r ≡ h ++ s → Viable (p ++ g) → Viable (p ++ h) → FaultAt (p ++ g) r end a → FaultAt (p ++ h) s end b → a ≡ b
compare p [] r [] s end a b e v w f k = at_once (p ++ []) s end a b (subst (λ z. FaultAt (p ++ []) z end a) e f) k
compare p [] r (y ∷ h) s end a b e v w f k = absurd (not_before p r h s y end a e w f)
compare p (x ∷ g) r [] s end a b e v w f k = absurd (not_before p s g r x end b (sym e) v k)
compare p (x ∷ g) r (y ∷ h) s end a b e v w f k =
    let same : x ≡ y = cc in
    let rest : g ++ r ≡ h ++ s = cc in
    let q = p ++ x ∷ [] in
    let mine : p ++ x ∷ g ≡ q ++ g = sym (append_assoc p (x ∷ []) g) in
    let other : p ++ y ∷ h ≡ q ++ h = ap (λ z. p ++ z ∷ h) (sym same) ∙ sym (append_assoc p (x ∷ []) h) in
    compare q g r h s end a b rest (subst (λ z. Viable z) mine v) (subst (λ z. Viable z) other w)
    (subst (λ z. FaultAt z r end a) mine f) (subst (λ z. FaultAt z s end b) other k)

pub one_fault : (xs : List Spelled) (end a b : Pos) → IsFault xs end a → IsFault xs end b → a ≡ b
one_fault xs end a b f g = compare [] f.0 f.1 g.0 g.1 end a b (sym f.2 ∙ g.2) f.3 g.3 f.4 g.4

derived_or : (front rest : List Spelled) (end pos : Pos) → DerivesText (front ++ rest) → FaultAt front rest end pos → ⊥
derived_or front [] end pos d h = h.1 (subst (λ z. DerivesText z) (append-nil front) d)
derived_or front (x ∷ more) end pos d h = h.1 (more, subst (λ z. DerivesText z) (sym (append_assoc front (x ∷ []) more)) d)

pub text_or_fault : (xs : List Spelled) (end pos : Pos) → DerivesText xs → IsFault xs end pos → ⊥
text_or_fault xs end pos d f = derived_or f.0 f.1 end pos (subst (λ z. DerivesText z) f.2 d) f.4
