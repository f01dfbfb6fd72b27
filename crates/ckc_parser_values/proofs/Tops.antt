-- What is taken from one list stands on another, which is turned at the end.
use Rattle.std.proofs.Common.{◌≡◌, List, [], ◌∷◌, ◌++◌, sym, ap, ◌∙◌, reverse, append_assoc, append-nil}
use Rattle.std.proofs.lemmas.List.{reverse-append}

pub next_turned : {X : Type 0} (turned new rest whole : List X) (x : X) → new ≡ x ∷ turned → whole ≡ reverse turned ++ (x ∷ rest) → whole ≡ reverse new ++ rest
next_turned turned new rest whole x e h = h ∙ sym (append_assoc (reverse turned) (x ∷ []) rest) ∙ ap (λ z. z ++ rest) (sym (reverse-append (x ∷ []) turned) ∙ ap reverse (sym e))

pub all_onto : {X : Type 0} (turned rest whole all to : List X) → whole ≡ reverse turned ++ rest → rest ≡ [] → all ≡ reverse turned ++ to → all ≡ whole ++ to
all_onto turned rest whole all to e h k = k ∙ ap (λ z. z ++ to) (sym (e ∙ ap (λ z. reverse turned ++ z) h ∙ append-nil (reverse turned)))

pub all_turned : {X : Type 0} (turned rest whole all : List X) → whole ≡ reverse turned ++ rest → rest ≡ [] → all ≡ reverse turned → all ≡ whole
all_turned turned rest whole all e h k = k ∙ sym (e ∙ ap (λ z. reverse turned ++ z) h ∙ append-nil (reverse turned))
