-- What a source gave, and what may be left after it.
use Rattle.std.proofs.Common.{◌≡◌, inl, inr, ℕ, List, [], ◌∷◌, ◌++◌, Option, Some, None, Bool, IsTrue, Ok, slice_get, drop, refl, sym, ap, subst, ◌∙◌, append_assoc}
use Rattle.ckc_outside.specs.Outside.{GivesNext, SeenSource}
use Rattle.ckc_outside.specs.Given.{Gave, Took, OverAny, WhereTold}
use Rattle.ckc_outside.proofs.Giving.{both_none, gave_nothing, gave_both}
use Rattle.ckc_interp.specs.code.Turns.{MayBeLeft, Fed}

-- a source that was not asked
pub not_asked : (s : SeenSource) (Holds : List ℕ → List ℕ → Type 0) → ((rest : List ℕ) → Holds rest rest) → Fed s s Holds
not_asked s Holds h =
    ([], gave_nothing s, λ before e. (before, e, refl), λ rest may. h rest)

pub fed_so : (old new : SeenSource) (One Other : List ℕ → List ℕ → Type 0) → Fed old new One
    → ((left left' : List ℕ) → One left left' → Other left left') → Fed old new Other
fed_so old new One Other o h = (o.0, o.1, o.2, λ rest may. h (o.0 ++ rest) rest (o.3 rest may))

same_behind : (more one two : List ℕ) → more ++ one ≡ more ++ two → one ≡ two
same_behind [] one two e = e
same_behind (x ∷ more) one two e = let f : more ++ one ≡ more ++ two = cc in same_behind more one two f

same_some : {A : Type 0} (o : Option A) (x y : A) → o ≡ Some x → o ≡ Some y → x ≡ y
same_some o x y e f = cc

first_left : (old between new : SeenSource) (more then rest : List ℕ) → Gave old between more → Gave between new then
    → MayBeLeft new.ended old.left (more ++ then) rest → MayBeLeft between.ended old.left more (then ++ rest)
first_left old between new more then rest f t (inl may) = inl (λ e. both_none then rest (t.none e) (may (t.stays e)))
first_left old between new more then rest f t (inr e) = inr (e ∙ ap Some (append_assoc more then rest))

then_left : (ended' : Bool) (told mid : Option (List ℕ)) (more then rest : List ℕ) → Took told mid more → MayBeLeft ended' told (more ++ then) rest → MayBeLeft ended' mid then rest
then_left ended' told mid more then rest took (inl may) = inl may
then_left ended' told mid more then rest took (inr e) =
    let p = took (more ++ (then ++ rest)) (e ∙ ap Some (append_assoc more then rest)) in
    inr (p.1 ∙ ap Some (sym (same_behind more (then ++ rest) p.0 p.2)))

took_both : (told mid told' : Option (List ℕ)) (more then : List ℕ) → Took told mid more → Took mid told' then → Took told told' (more ++ then)
took_both told mid told' more then f t before e =
    let p = f before e in
    let q = t p.0 p.1 in
    (q.0, q.1, p.2 ∙ ap (λ l. more ++ l) q.2 ∙ sym (append_assoc more then q.0))

-- what was given first, and what was given then
pub fed_then : (old between new : SeenSource) (First Then Both : List ℕ → List ℕ → Type 0) → Fed old between First → Fed between new Then
    → ((left half left' : List ℕ) → First left half → Then half left' → Both left left') → Fed old new Both
fed_then old between new First Then Both f t h =
    let more = f.0 in
    let then = t.0 in (
      more ++ then,
      gave_both old between new more then f.1 t.1,
      took_both old.left between.left new.left more then f.2 t.2,
      λ rest may. subst (λ l. Both l rest) (sym (append_assoc more then rest))
          (h (more ++ (then ++ rest)) (then ++ rest) rest
          (f.3 (then ++ rest) (first_left old between new more then rest f.1 t.1 may))
          (t.3 rest (then_left new.ended old.left between.left more then rest f.2 may))),
    )

-- a source that tells what is left, and any source
pub where_told : (old new : SeenSource) (Holds : List ℕ → List ℕ → Type 0) → Fed old new Holds → WhereTold old.left new.left Holds
where_told old new Holds f before e =
    let p = f.2 before e in
    (p.0, p.1, subst (λ l. Holds l p.0) (sym p.2) (f.3 p.0 (inr (e ∙ ap Some p.2))))

pub over_any : (old new : SeenSource) (Holds : List ℕ → List ℕ → Type 0) → Fed old new Holds → OverAny old new Holds
over_any old new Holds f = (f.0, f.1, λ rest may. f.3 rest (inl may))

-- ---- one byte

pub first_of : (bytes : List ℕ) (byte : ℕ) → Some byte ≡ slice_get bytes 0 → bytes ≡ (byte ∷ []) ++ drop 1 bytes
first_of [] byte e = absurd cc
first_of (b ∷ rest) byte e = let f : b ≡ byte = cc in ap (λ x. x ∷ rest) f

pub none_of : (bytes : List ℕ) → None ≡ slice_get bytes 0 → bytes ≡ []
none_of [] e = refl
none_of (b ∷ rest) e = absurd cc

-- nothing is left of a source that said so
pub left_none : (ended' : Bool) (told told' : Option (List ℕ)) (rest : List ℕ) → IsTrue ended' → ((before : List ℕ) → told ≡ Some before → GivesNext before (Ok None) told')
    → MayBeLeft ended' told [] rest → rest ≡ []
left_none ended' told told' rest ended h (inl may) = may ended
left_none ended' told told' rest ended h (inr e) = none_of rest (h rest e).0
