-- The codes with which a text is refused, by those of each phase.
use Rattle.std.proofs.Common.{◌≡◌, ◌⊎◌, ℕ, ◌≤◌, List, inl, inr, arith}
use Rattle.ckc_base.specs.declared.places.Refusal.{Refusal}
use Rattle.ckc_base.specs.Phases.{Phase, ◌>=>◌}
use Rattle.ckc_syntax.specs.declared.tree.NamedText.{NamedText}
use Rattle.ckc_syntax_limits.proofs.Limiting.{limiting_codes}
use Rattle.ckc_lexer.proofs.FaultCodes.{fault_codes}
use Rattle.ckc_parser.specs.Phase.{SpelledTree}
use Rattle.ckc_plain.specs.Phase.{resolving}
use Rattle.ckc_plain.proofs.Relimiting.{resolving_codes}
use Rattle.ckc_typed.specs.declared.typed.Typed.{Typed}
use Rattle.ckc_typing.specs.Phase.{typing, IsTypeCode}
use Rattle.ckc_typing.proofs.CodedItems.{codes}
use Rattle.ckc_scopes.proofs.Firsts.{scoping_codes}
use Rattle.ckc_bounds.specs.Phase.{bounding}
use Rattle.ckc_build.specs.Codes.{IsTextCode}
use Rattle.ckc_build.specs.Meanings.{judging, judging_tree}
use Rattle.ckc_build.proofs.Chain.{ranging}

-- the phases after the names, and after the limits
abbrev from_names : Phase NamedText Typed
from_names = typing >=> ranging

abbrev later : Phase SpelledTree Typed
later = resolving >=> from_names

of_tokens : (code : ℕ) → (101 ≤ code) × (code ≤ 105) → IsTextCode code
of_tokens code h = inl h

of_limits : (code : ℕ) → 201 ≤ code → code ≤ 206 → IsTextCode code
of_limits code low high = inr (inr (inl (low, high)))

of_types : (code : ℕ) → 401 ≤ code → code ≤ 408 → IsTextCode code
of_types code low high = inr (inr (inr (inr (inl (low, high)))))

of_bounds : (code : ℕ) → 601 ≤ code → code ≤ 607 → IsTextCode code
of_bounds code low high = inr (inr (inr (inr (inr (inr (low, high))))))

from_lexer : (code : ℕ) → ((101 ≤ code) × (code ≤ 105)) ⊎ (code ≡ 201) → IsTextCode code
from_lexer code (inl h) = of_tokens code h
from_lexer code (inr e) = of_limits code (omega (arith, e)) (omega (arith, e))

from_typing : (code : ℕ) → IsTypeCode code → IsTextCode code
from_typing code (inl e) = of_limits code (omega (arith, e)) (omega (arith, e))
from_typing code (inr (inl e)) = of_types code (omega (arith, e)) (omega (arith, e))
from_typing code (inr (inr (inl e))) = of_types code (omega (arith, e)) (omega (arith, e))
from_typing code (inr (inr (inr (inl e)))) = of_types code (omega (arith, e)) (omega (arith, e))
from_typing code (inr (inr (inr (inr (inl e))))) = of_types code (omega (arith, e)) (omega (arith, e))
from_typing code (inr (inr (inr (inr (inr (inl e)))))) = of_types code (omega (arith, e)) (omega (arith, e))
from_typing code (inr (inr (inr (inr (inr (inr (inl e))))))) = of_types code (omega (arith, e)) (omega (arith, e))
from_typing code (inr (inr (inr (inr (inr (inr (inr e))))))) = of_types code (omega (arith, e)) (omega (arith, e))

from_resolving : (code : ℕ) → ((301 ≤ code) × (code ≤ 304)) ⊎ (code ≡ 408) ⊎ ((202 ≤ code) × (code ≤ 205)) → IsTextCode code
from_resolving code (inl h) = inr (inr (inr (inl h)))
from_resolving code (inr (inl e)) = of_types code (omega (arith, e)) (omega (arith, e))
from_resolving code (inr (inr h)) = let low = h.0 in let high = h.1 in of_limits code (omega (arith, low)) (omega (arith, high))

from_scopes : (code : ℕ) → (code ≡ 501) ⊎ (code ≡ 502) → IsTextCode code
from_scopes code (inl e) = inr (inr (inr (inr (inr (inl (omega (arith, e), omega (arith, e)))))))
from_scopes code (inr e) = inr (inr (inr (inr (inr (inl (omega (arith, e), omega (arith, e)))))))

-- what the bounds phase refuses has a code of bounds
abbrev pub HasBoundsCode : ℕ → Type 0
HasBoundsCode code = (code ≡ 601) ⊎ (code ≡ 602) ⊎ (code ≡ 603) ⊎ (code ≡ 604) ⊎ (code ≡ 605) ⊎ (code ≡ 606) ⊎ (code ≡ 607)

from_bounds : (code : ℕ) → HasBoundsCode code → IsTextCode code
from_bounds code (inl e) = of_bounds code (omega (arith, e)) (omega (arith, e))
from_bounds code (inr (inl e)) = of_bounds code (omega (arith, e)) (omega (arith, e))
from_bounds code (inr (inr (inl e))) = of_bounds code (omega (arith, e)) (omega (arith, e))
from_bounds code (inr (inr (inr (inl e)))) = of_bounds code (omega (arith, e)) (omega (arith, e))
from_bounds code (inr (inr (inr (inr (inl e))))) = of_bounds code (omega (arith, e)) (omega (arith, e))
from_bounds code (inr (inr (inr (inr (inr (inl e)))))) = of_bounds code (omega (arith, e)) (omega (arith, e))
from_bounds code (inr (inr (inr (inr (inr (inr e)))))) = of_bounds code (omega (arith, e)) (omega (arith, e))

module _ (bounded : (p : Typed) (r : Refusal) → bounding.Refuses p r → HasBoundsCode r.code) where
  of_ranging : (p : Typed) (r : Refusal) → ranging.Refuses p r → IsTextCode r.code
  of_ranging p r (inl f) = from_scopes r.code (scoping_codes p r f)
  of_ranging p r (inr f) = from_bounds r.code (bounded f.0 r f.2)

  of_names : (t : NamedText) (r : Refusal) → from_names.Refuses t r → IsTextCode r.code
  of_names t r (inl f) = from_typing r.code (codes t r f)
  of_names t r (inr f) = of_ranging f.0 r f.2

  of_later : (t : SpelledTree) (r : Refusal) → later.Refuses t r → IsTextCode r.code
  of_later t r (inl f) = from_resolving r.code (resolving_codes t r f)
  of_later t r (inr f) = of_names f.0 r f.2

  of_tree : (t : SpelledTree) (r : Refusal) → judging_tree.Refuses t r → IsTextCode r.code
  of_tree t r (inl f) = let h = limiting_codes t r f in let low = h.0 in let high = h.1 in of_limits r.code (omega (arith, low)) (omega (arith, high))
  of_tree t r (inr f) = of_later f.0 r f.2

  pub text_codes : (text : List ℕ) (r : Refusal) → judging.Refuses text r → IsTextCode r.code
  text_codes text r (inl (inl f)) = from_lexer r.code (fault_codes text r f)
  text_codes text r (inl (inr f)) = inr (inl f.2.0)
  text_codes text r (inr f) = of_tree f.0 r f.2
