-- Derivations of the grammar with their values, put together.
use Rattle.std.proofs.Common.{◌≡◌, List, [], ◌∷◌, ◌++◌, Bool, true, false, inl, inr, refl, sym, ap, subst, ◌∙◌, append_assoc, append-nil}
use Rattle.std.specs.Prelude.{None, Some, codes}
use Rattle.ckc_grammar.specs.Productions.{Terminal, keyword, mark, Use, Part, Symbol, t, n, no_else, Meaning, Makes, productions, opt, many, commas, after}
use Rattle.ckc_grammar.specs.Derivation.{Word, fits, before_else, Choice, chosen, parts_of, Derivation, used, result}
use Rattle.ckc_grammar.specs.Derivation as D

abbrev pub comma : Terminal
comma = mark (codes ",")

-- whether a token is `else`
abbrev pub is_else : Word → Bool
is_else w = fits (keyword (codes "else")) w

-- words derive symbols, of which a value is made
pub record Seq (ss : List Symbol) (ws : List Word) (e : Bool) (X : Type 0) (f : Makes ss X) (x : X) : Type 0 where
  pub derived : Derivation ss ws e
  pub worth : result derived X f ≡ x

-- words derive a part with a value, before what may be an `else`; and whatever stands after them
abbrev pub Has : (p : Part) → List Word → Bool → Meaning p → Type 0
Has p ws e m = Seq (n p ∷ []) ws e (Meaning p) (λ x. x) m

abbrev pub Is : (p : Part) → List Word → Meaning p → Type 0
Is p ws m = (e : Bool) → Has p ws e m

pub done : {e : Bool} {X : Type 0} {f x : X} → f ≡ x → Seq [] [] e X f x
unfolding result
done h = record { derived = D.nil; worth = h }

pub end : {e : Bool} {X : Type 0} {x : X} → Seq [] [] e X x x
end = done refl

pub tok : {c : Terminal} {u : Use} {ss : List Symbol} {w : Word} {ws : List Word} {e : Bool} {X : Type 0} {f : Makes (t c u ∷ ss) X} {x : X} →
    fits c w ≡ true → Seq ss ws e X (used u w.token f) x → Seq (t c u ∷ ss) (w ∷ ws) e X f x
unfolding result
tok h s = record { derived = D.read h s.derived; worth = s.worth }

-- no `else` stands here
pub sole : {ss : List Symbol} {ws : List Word} {e : Bool} {X : Type 0} {f : Makes ss X} {x : X} → before_else ws e ≡ false → Seq ss ws e X f x → Seq (no_else ∷ ss) ws e X f x
unfolding result
sole h s = record { derived = D.without h s.derived; worth = s.worth }

-- a part in front of more symbols
both_parts : {p : Part} {ss : List Symbol} {us ys zs : List Word} {e : Bool} {X : Type 0} {f : Makes (n p ∷ ss) X} {x : X} {m : Meaning p} →
    (d : Derivation (n p ∷ []) us (before_else ys e)) → result d (Meaning p) (λ z. z) ≡ m → (r : Derivation ss ys e) → result r X (f m) ≡ x → us ++ ys ≡ zs → Seq (n p ∷ ss) zs e X f x
unfolding result
both_parts {p} {ss} {us} {ys} {zs} {e} {X} {f} {x} {m} (D.by c xs [] d D.nil h) i r j k =
    record { derived = D.by c xs ys d r (ap (λ z. z ++ ys) (sym (append-nil xs) ∙ h) ∙ k); worth = ap (λ z. result r X (f z)) i ∙ j }
both_parts (D.by c xs (y ∷ ys) d r h) i r2 j k = elim r [ ]

pub part_at : {p : Part} {ss : List Symbol} {us ys zs : List Word} {e : Bool} {X : Type 0} {f : Makes (n p ∷ ss) X} {x : X} {m : Meaning p} →
    Has p us (before_else ys e) m → Seq ss ys e X (f m) x → us ++ ys ≡ zs → Seq (n p ∷ ss) zs e X f x
part_at h s k = both_parts h.derived h.worth s.derived s.worth k

pub part : {p : Part} {ss : List Symbol} {us ys zs : List Word} {e : Bool} {X : Type 0} {f : Makes (n p ∷ ss) X} {x : X} {m : Meaning p} →
    Is p us m → Seq ss ys e X (f m) x → us ++ ys ≡ zs → Seq (n p ∷ ss) zs e X f x
part {ys = ys} {e = e} h s k = part_at (h (before_else ys e)) s k

-- the last part
pub last_at : {p : Part} {us zs : List Word} {e : Bool} {X : Type 0} {f : Makes (n p ∷ []) X} {x : X} {m : Meaning p} →
    Has p us e m → f m ≡ x → us ++ [] ≡ zs → Seq (n p ∷ []) zs e X f x
last_at h i k = part_at {ys = []} h (done i) k

pub last : {p : Part} {us zs : List Word} {e : Bool} {X : Type 0} {f : Makes (n p ∷ []) X} {x : X} {m : Meaning p} →
    Is p us m → f m ≡ x → us ++ [] ≡ zs → Seq (n p ∷ []) zs e X f x
last {e = e} h i k = last_at (h e) i k

pub only : {p : Part} {us : List Word} {e : Bool} {X : Type 0} {f : Makes (n p ∷ []) X} {x : X} {m : Meaning p} →
    Is p us m → f m ≡ x → Seq (n p ∷ []) us e X f x
only {us = us} h i = last h i (append-nil us)

-- an alternative of a part
pub by : {p : Part} {ws : List Word} {e : Bool} {m : Meaning p} → (c : Choice (productions p)) →
    Seq (parts_of p c) ws e (Meaning p) (chosen (productions p) c).made m → Has p ws e m
unfolding result
by {p} {ws} {e} {m} c s = record { derived = D.by c ws [] s.derived D.nil (append-nil ws); worth = s.worth }

pub cut : {us zs : List Word} → us ++ [] ≡ zs → us ≡ zs
cut {us} h = sym (append-nil us) ∙ h

pub moved : {p : Part} {us ws : List Word} {m : Meaning p} → us ≡ ws → Is p us m → Is p ws m
moved {p} {m = m} h d = subst (λ z. Is p z m) h d

pub named : {p : Part} {ws : List Word} {k m : Meaning p} → k ≡ m → Is p ws k → Is p ws m
named {p} {ws} h d e = subst (λ z. Has p ws e z) h (d e)

-- options, lists and what stands after a token
pub nothing : {p : Part} → Is (opt p) [] None
nothing e = by (inl tt) end

pub something : {p : Part} {ws : List Word} {m : Meaning p} → Is p ws m → Is (opt p) ws (Some m)
something h e = by (inr (inl tt)) (only h refl)

pub no_more : {p : Part} → Is (many p) [] []
no_more e = by (inl tt) end

pub one_more : {p : Part} {us ws zs : List Word} {m : Meaning p} {ms : List (Meaning p)} → Is p us m → Is (many p) ws ms → us ++ ws ≡ zs → Is (many p) zs (m ∷ ms)
one_more h i k e = by (inr (inl tt)) (part h (only i refl) k)

pub after_token : {c : Terminal} {p : Part} {w : Word} {ws : List Word} {m : Meaning p} → fits c w ≡ true → Is p ws m → Is (after c p) (w ∷ ws) m
after_token f h e = by (inl tt) (tok f (only h refl))

-- a list of parts between commas
pub comma_list : {p : Part} {us ws zs : List Word} {m : Meaning p} {ms : List (Meaning p)} → Is p us m → Is (many (after comma p)) ws ms → us ++ ws ≡ zs → Is (commas p) zs (m ∷ ms)
comma_list h i k e = by (inl tt) (part h (only i refl) k)

pub one_more_at : {p : Part} {us ws zs : List Word} {e : Bool} {m : Meaning p} {ms : List (Meaning p)} → Is p us m → Has (many p) ws e ms → us ++ ws ≡ zs → Has (many p) zs e (m ∷ ms)
one_more_at {ws = ws} h i k = by (inr (inl tt)) (part h (last_at i refl (append-nil ws)) k)

pub comma_list_at : {p : Part} {us ws zs : List Word} {e : Bool} {m : Meaning p} {ms : List (Meaning p)} → Is p us m → Has (many (after comma p)) ws e ms → us ++ ws ≡ zs → Has (commas p) zs e (m ∷ ms)
comma_list_at {ws = ws} h i k = by (inl tt) (part h (last_at i refl (append-nil ws)) k)

-- a part and the token after it
pub data Closed (p : Part) (c : Terminal) (ws : List Word) (m : Meaning p) : Type 0 where
  closed : {us : List Word} (w : Word) → Has p us (is_else w) m → fits c w ≡ true → us ++ (w ∷ []) ≡ ws → Closed p c ws m

pub with_last : (us vs : List Word) (w : Word) {ys zs : List Word} → vs ++ (w ∷ []) ≡ ys → us ++ ys ≡ zs → (us ++ vs) ++ (w ∷ []) ≡ zs
with_last us vs w i j = append_assoc us vs (w ∷ []) ∙ ap (λ z. us ++ z) i ∙ j

pub with_more : (vs : List Word) (w : Word) (rs : List Word) {ys zs : List Word} → vs ++ (w ∷ []) ≡ ys → ys ++ rs ≡ zs → vs ++ (w ∷ rs) ≡ zs
with_more vs w rs i j = sym (append_assoc vs (w ∷ []) rs) ∙ ap (λ z. z ++ rs) i ∙ j

pub closed_cons : {p : Part} {c : Terminal} {us ws zs : List Word} {w : Word} {m : Meaning p} {ms : List (Meaning p)} → fits comma w ≡ true → Is p us m → Closed (many (after comma p)) c ws ms → us ++ ws ≡ zs →
    Closed (many (after comma p)) c (w ∷ zs) (m ∷ ms)
closed_cons {us = us} {w = w} h i (closed {us = vs} x m f q) j = closed x (one_more_at (after_token h i) m refl) f (ap (λ z. w ∷ z) (with_last us vs x q j))
