-- A command makes one outcome of the bytes that it fetched, but for which image, and each of its form.
use Rattle.std.proofs.Common.{◌≡◌, ◌⊎◌, inl, inr, ℕ, ◌≤◌, List, [], ◌∷◌, length, refl, sym, ap, subst, ◌∙◌, arith}
use Rattle.ckc_base.specs.declared.places.Refusal.{Refusal}
use Rattle.ckc_rv.specs.Machine.{Parts}
use Rattle.ckc_image.specs.declared.format.Format.{Format}
use Rattle.ckc_image.proofs.Agreement.{one_bad, never_bad, same_parts, image_length}
use Rattle.ckc_asm_listing.specs.Listing.{shown_image}
use Rattle.ckc_asm.specs.Phase.{assembling}
use Rattle.ckc_asm.proofs.Exactness.{assembling_exact}
use Rattle.ckc_build.specs.Built.{Built, IsImageIn}
use Rattle.ckc_build_elaborate.specs.Elaborated.{elaborated}
use Rattle.ckc_build.specs.Meanings.{judging, HasMeaning, FirstFault}
use Rattle.ckc_build.proofs.Chain.{judging_exact}
use Rattle.ckc_build.proofs.Programs.{meanings_exact}
use Rattle.ckc_source.specs.Code.{Program}
use Rattle.ckc_cli_commands.specs.Words.{Command, Build, Assemble, Exec, Interp, Run, Show, Judge, Sample}
use Rattle.ckc_cli_commands.specs.Outcomes.{Outcome, Refuses, IsBad, Keeps, Puts, PutsLine, Executes, Interprets, Samples}
use Rattle.ckc_cli_commands.specs.Checking.{checked_line}
use Rattle.ckc_cli_sample.specs.Sample.{sample_text}
use Rattle.ckc_cli_commands.specs.Commands.{BadBytes, longest_image, OfText, OfImage, OfOne, OfNone, AsImage, Makes}
use Rattle.ckc_cli.specs.Laws.{Agrees}

-- ---- images

-- an image is no longer than the longest
image_short : (format : Format) (bytes : List ℕ) (parts : Parts) → IsImageIn format bytes parts → length bytes ≤ longest_image
image_short format bytes parts i = omega (arith, image_length format bytes parts.entry parts.code parts.initial i, i.0.0.2, i.0.0.3)

never_bad_bytes : (format : Format) (bytes : List ℕ) (parts : Parts) (k : ℕ) → IsImageIn format bytes parts → BadBytes bytes k → ⊥
never_bad_bytes format bytes parts k i (inl b) = omega (arith, image_short format bytes parts i, b.0)
never_bad_bytes format bytes parts k i (inr b) = never_bad format bytes parts.entry parts.code parts.initial i k b.1

bad_bytes_once : (bytes : List ℕ) (k j : ℕ) → BadBytes bytes k → BadBytes bytes j → k ≡ j
bad_bytes_once bytes k j (inl p) (inl q) = p.1 ∙ sym q.1
bad_bytes_once bytes k j (inl p) (inr q) = absurd (omega (arith, p.0, q.0))
bad_bytes_once bytes k j (inr p) (inl q) = absurd (omega (arith, p.0, q.0))
bad_bytes_once bytes k j (inr p) (inr q) = one_bad bytes k j p.1 q.1

-- ---- one outcome

-- both of two outcomes are these
moved : (o other a b : Outcome) → o ≡ a → other ≡ b → Agrees a b → Agrees o other
moved o other a b p q h = subst (λ (x : Outcome). Agrees x other) (sym p) (subst (λ (x : Outcome). Agrees a x) (sym q) h)

module _ {B : Type 0} (IsRefused : List ℕ → Refusal → Type 0) (IsMade : List ℕ → B → Type 0) (outcome : B → Outcome) where
  text_of : (text : List ℕ) (o : Outcome) → OfText IsRefused IsMade outcome text o
      → ((fault : Refusal) × (o ≡ Refuses fault) × IsRefused text fault) ⊎ ((made : B) × (o ≡ outcome made) × IsMade text made)
  text_of text (Refuses fault) h = inl (fault, refl, h)
  text_of text (IsBad part) h = inr (h.0, h.2, h.1)
  text_of text (Keeps name bytes) h = inr (h.0, h.2, h.1)
  text_of text (Puts bytes) h = inr (h.0, h.2, h.1)
  text_of text (PutsLine line) h = inr (h.0, h.2, h.1)
  text_of text (Executes parts limit) h = inr (h.0, h.2, h.1)
  text_of text (Interprets program limit) h = inr (h.0, h.2, h.1)
  text_of text (Samples parts size) h = inr (h.0, h.2, h.1)

  texts_agree : ((text : List ℕ) (fault other : Refusal) → IsRefused text fault → IsRefused text other → fault ≡ other)
      → ((text : List ℕ) (fault : Refusal) (made : B) → IsRefused text fault → IsMade text made → ⊥)
      → ((text : List ℕ) (made other : B) → IsMade text made → IsMade text other → Agrees (outcome made) (outcome other))
      → (text : List ℕ) (o other : Outcome) → OfText IsRefused IsMade outcome text o → OfText IsRefused IsMade outcome text other → Agrees o other
  texts_agree once never same text o other p q = by_both (text_of text o p) (text_of text other q)
    where
      by_both : ((fault : Refusal) × (o ≡ Refuses fault) × IsRefused text fault) ⊎ ((made : B) × (o ≡ outcome made) × IsMade text made)
          → ((fault : Refusal) × (other ≡ Refuses fault) × IsRefused text fault) ⊎ ((made : B) × (other ≡ outcome made) × IsMade text made) → Agrees o other
      by_both (inl x) (inl y) = moved o other (Refuses x.0) (Refuses y.0) x.1 y.1 (once text x.0 y.0 x.2 y.2)
      by_both (inl x) (inr y) = absurd (never text x.0 y.0 x.2 y.2)
      by_both (inr x) (inl y) = absurd (never text y.0 x.0 y.2 x.2)
      by_both (inr x) (inr y) = moved o other (outcome x.0) (outcome y.0) x.1 y.1 (same text x.0 y.0 x.2 y.2)

module _ (outcome : Format → Parts → Outcome) where
  image_of : (bytes : List ℕ) (o : Outcome) → OfImage outcome bytes o → ((part : ℕ) × (o ≡ IsBad part) × BadBytes bytes part) ⊎ ((format : Format) × (parts : Parts) × (o ≡ outcome format parts) × IsImageIn format bytes parts)
  image_of bytes (Refuses fault) h = inr (h.0, h.1, h.3, h.2)
  image_of bytes (IsBad part) h = inl (part, refl, h)
  image_of bytes (Keeps name image) h = inr (h.0, h.1, h.3, h.2)
  image_of bytes (Puts text) h = inr (h.0, h.1, h.3, h.2)
  image_of bytes (PutsLine line) h = inr (h.0, h.1, h.3, h.2)
  image_of bytes (Executes parts limit) h = inr (h.0, h.1, h.3, h.2)
  image_of bytes (Interprets program limit) h = inr (h.0, h.1, h.3, h.2)
  image_of bytes (Samples parts size) h = inr (h.0, h.1, h.3, h.2)

  images_agree : ((bytes : List ℕ) (f g : Format) (parts other : Parts) → IsImageIn f bytes parts → IsImageIn g bytes other → Agrees (outcome f parts) (outcome g other))
      → (bytes : List ℕ) (o other : Outcome) → OfImage outcome bytes o → OfImage outcome bytes other → Agrees o other
  images_agree same bytes o other p q = by_both (image_of bytes o p) (image_of bytes other q)
    where
      by_both : ((part : ℕ) × (o ≡ IsBad part) × BadBytes bytes part) ⊎ ((format : Format) × (parts : Parts) × (o ≡ outcome format parts) × IsImageIn format bytes parts)
          → ((part : ℕ) × (other ≡ IsBad part) × BadBytes bytes part) ⊎ ((format : Format) × (parts : Parts) × (other ≡ outcome format parts) × IsImageIn format bytes parts) → Agrees o other
      by_both (inl x) (inl y) = moved o other (IsBad x.0) (IsBad y.0) x.1 y.1 (bad_bytes_once bytes x.0 y.0 x.2 y.2)
      by_both (inl x) (inr y) = absurd (never_bad_bytes y.0 bytes y.1 x.0 y.3 x.2)
      by_both (inr x) (inl y) = absurd (never_bad_bytes x.0 bytes x.1 y.0 x.3 y.2)
      by_both (inr x) (inr y) = moved o other (outcome x.0 x.1) (outcome y.0 y.1) x.2 y.2 (same bytes x.0 y.0 x.1 y.1 x.3 y.3)

ones_agree : (Comes : List ℕ → Outcome → Type 0) → ((bytes : List ℕ) (o other : Outcome) → Comes bytes o → Comes bytes other → Agrees o other)
    → (fetched : List (List ℕ)) (o other : Outcome) → OfOne Comes fetched o → OfOne Comes fetched other → Agrees o other
ones_agree Comes h [] o other p q = absurd p
ones_agree Comes h (bytes ∷ []) o other p q = h bytes o other p q
ones_agree Comes h (bytes ∷ more ∷ rest) o other p q = absurd p

none_agree : (Comes : Outcome → Type 0) → ((o other : Outcome) → Comes o → Comes other → Agrees o other)
    → (fetched : List (List ℕ)) (o other : Outcome) → OfNone Comes fetched o → OfNone Comes fetched other → Agrees o other
none_agree Comes h [] o other p q = h o other p q
none_agree Comes h (bytes ∷ more) o other p q = absurd p

same_listing : (bytes : List ℕ) (f g : Format) (p q : Parts) → IsImageIn f bytes p → IsImageIn g bytes q → shown_image f p.entry p.code p.initial ≡ shown_image g q.entry q.code q.initial
same_listing bytes f g p q i j =
    let e = same_parts f g bytes p.entry q.entry p.code q.code p.initial q.initial i j in
    λ k. shown_image (e.0 k) (e.1 k) (e.2 k) (e.3 k)

pub one_outcome : (command : Command) (fetched : List (List ℕ)) (o other : Outcome) → Makes command fetched o → Makes command fetched other → Agrees o other
one_outcome (Build text image) =
    ones_agree (OfText FirstFault (AsImage Built) (Keeps image))
    (texts_agree FirstFault (AsImage Built) (Keeps image) meanings_exact.refused_once (λ t f made r m. meanings_exact.never_both t m.1.program f m.1.means r) (λ t made other m n. refl))
one_outcome (Assemble text image) =
    ones_agree (OfText assembling.Refuses (AsImage assembling.Makes) (Keeps image))
    (texts_agree assembling.Refuses (AsImage assembling.Makes) (Keeps image) assembling_exact.refused_once (λ t f made r m. assembling_exact.never_both t m.0 f m.1 r) (λ t made other m n. refl))
one_outcome (Exec text limit) =
    ones_agree (OfText FirstFault Built (λ parts. Executes parts limit))
    (texts_agree FirstFault Built (λ parts. Executes parts limit) meanings_exact.refused_once (λ t f made r m. meanings_exact.never_both t m.program f m.means r) (λ t made other m n. refl))
one_outcome (Interp text limit) =
    ones_agree (OfText FirstFault HasMeaning (λ p. Interprets p limit))
    (texts_agree FirstFault HasMeaning (λ p. Interprets p limit) meanings_exact.refused_once (λ t f made r m. meanings_exact.never_both t made f m r)
    (λ t made other m n. (meanings_exact.made_once t made other m n, refl)))
one_outcome (Run image limit) = ones_agree (OfImage (λ format parts. Executes parts limit)) (images_agree (λ format parts. Executes parts limit) (λ b f g parts other m n. refl))
one_outcome (Show image) =
    ones_agree (OfImage (λ format parts. Puts (shown_image format parts.entry parts.code parts.initial))) (images_agree (λ format parts. Puts (shown_image format parts.entry parts.code parts.initial)) same_listing)
one_outcome (Judge text) =
    ones_agree (OfText FirstFault judging.Makes (λ p. PutsLine (checked_line p)))
    (texts_agree FirstFault judging.Makes (λ p. PutsLine (checked_line p)) meanings_exact.refused_once (λ t f made r m. meanings_exact.never_both t (elaborated made) f (made, m, refl) r)
    (λ t made other m n. ap checked_line (judging_exact.made_once t made other m n)))
one_outcome (Sample seed size) =
    none_agree (OfText FirstFault Built (λ parts. Samples parts size) (sample_text seed size))
    (texts_agree FirstFault Built (λ parts. Samples parts size) meanings_exact.refused_once (λ t f made r m. meanings_exact.never_both t m.program f m.means r) (λ t made other m n. refl)
    (sample_text seed size))

-- ---- forms

-- which outcomes may come of a command
abbrev pub Form : Outcome → Command → Type 0
Form (Refuses fault) command = Unit {0}
Form (IsBad part) command = Unit {0}
Form (Keeps name bytes) (Build text image) = name ≡ image
Form (Keeps name bytes) (Assemble text image) = name ≡ image
Form (Puts text) (Show image) = Unit {0}
Form (PutsLine line) (Judge text) = Unit {0}
Form (Executes parts limit) (Exec text most) = limit ≡ most
Form (Executes parts limit) (Run image most) = limit ≡ most
Form (Interprets program limit) (Interp text most) = limit ≡ most
Form (Samples parts size) (Sample seed functions) = size ≡ functions
Form o command = ⊥

formed_text : {B : Type 0} (IsRefused : List ℕ → Refusal → Type 0) (IsMade : List ℕ → B → Type 0) (outcome : B → Outcome) (command : Command) → ((made : B) → Form (outcome made) command)
    → (text : List ℕ) (o : Outcome) → OfText IsRefused IsMade outcome text o → Form o command
formed_text IsRefused IsMade outcome command h text o x = by_case (text_of IsRefused IsMade outcome text o x)
  where
    by_case : ((fault : Refusal) × (o ≡ Refuses fault) × IsRefused text fault) ⊎ ((made : _) × (o ≡ outcome made) × IsMade text made) → Form o command
    by_case (inl r) = subst (λ (x : Outcome). Form x command) (sym r.1) tt
    by_case (inr m) = subst (λ (x : Outcome). Form x command) (sym m.1) (h m.0)

formed_image : (outcome : Format → Parts → Outcome) (command : Command) → ((format : Format) (parts : Parts) → Form (outcome format parts) command) → (bytes : List ℕ) (o : Outcome) → OfImage outcome bytes o → Form o command
formed_image outcome command h bytes o x = by_case (image_of outcome bytes o x)
  where
    by_case : ((part : ℕ) × (o ≡ IsBad part) × BadBytes bytes part) ⊎ ((format : Format) × (parts : Parts) × (o ≡ outcome format parts) × IsImageIn format bytes parts) → Form o command
    by_case (inl b) = subst (λ (x : Outcome). Form x command) (sym b.1) tt
    by_case (inr m) = subst (λ (x : Outcome). Form x command) (sym m.2) (h m.0 m.1)

formed_one : (Comes : List ℕ → Outcome → Type 0) (command : Command) → ((bytes : List ℕ) (o : Outcome) → Comes bytes o → Form o command)
    → (fetched : List (List ℕ)) (o : Outcome) → OfOne Comes fetched o → Form o command
formed_one Comes command h [] o x = absurd x
formed_one Comes command h (bytes ∷ []) o x = h bytes o x
formed_one Comes command h (bytes ∷ more ∷ rest) o x = absurd x

formed_none : (Comes : Outcome → Type 0) (command : Command) → ((o : Outcome) → Comes o → Form o command) → (fetched : List (List ℕ)) (o : Outcome) → OfNone Comes fetched o → Form o command
formed_none Comes command h [] o x = h o x
formed_none Comes command h (bytes ∷ more) o x = absurd x

pub formed : (command : Command) (fetched : List (List ℕ)) (o : Outcome) → Makes command fetched o → Form o command
formed (Build text image) =
    formed_one (OfText FirstFault (AsImage Built) (Keeps image)) (Build text image) (formed_text FirstFault (AsImage Built) (Keeps image) (Build text image) (λ made. refl))
formed (Assemble text image) =
    formed_one (OfText assembling.Refuses (AsImage assembling.Makes) (Keeps image)) (Assemble text image)
    (formed_text assembling.Refuses (AsImage assembling.Makes) (Keeps image) (Assemble text image) (λ made. refl))
formed (Exec text limit) =
    formed_one (OfText FirstFault Built (λ parts. Executes parts limit)) (Exec text limit) (formed_text FirstFault Built (λ parts. Executes parts limit) (Exec text limit) (λ made. refl))
formed (Interp text limit) =
    formed_one (OfText FirstFault HasMeaning (λ p. Interprets p limit)) (Interp text limit) (formed_text FirstFault HasMeaning (λ p. Interprets p limit) (Interp text limit) (λ made. refl))
formed (Run image limit) = formed_one (OfImage (λ format parts. Executes parts limit)) (Run image limit) (formed_image (λ format parts. Executes parts limit) (Run image limit) (λ format parts. refl))
formed (Show image) =
    formed_one (OfImage (λ format parts. Puts (shown_image format parts.entry parts.code parts.initial))) (Show image)
    (formed_image (λ format parts. Puts (shown_image format parts.entry parts.code parts.initial)) (Show image) (λ format parts. tt))
formed (Judge text) =
    formed_one (OfText FirstFault judging.Makes (λ p. PutsLine (checked_line p))) (Judge text)
    (formed_text FirstFault judging.Makes (λ p. PutsLine (checked_line p)) (Judge text) (λ made. tt))
formed (Sample seed size) =
    formed_none (OfText FirstFault Built (λ parts. Samples parts size) (sample_text seed size)) (Sample seed size)
    (formed_text FirstFault Built (λ parts. Samples parts size) (Sample seed size) (λ made. refl) (sample_text seed size))

-- which command keeps bytes under a name, and which runs a meaning
pub keeper : (command : Command) (name bytes : List ℕ) → Form (Keeps name bytes) command → (text : List ℕ) × ((command ≡ Build text name) ⊎ (command ≡ Assemble text name))
keeper (Build text image) name bytes f = (text, inl (ap (Build text) (sym f)))
keeper (Assemble text image) name bytes f = (text, inr (ap (Assemble text) (sym f)))
keeper (Exec text limit) name bytes f = absurd f
keeper (Interp text limit) name bytes f = absurd f
keeper (Run image limit) name bytes f = absurd f
keeper (Show image) name bytes f = absurd f
keeper (Judge text) name bytes f = absurd f
keeper (Sample seed size) name bytes f = absurd f

pub interpreter : (command : Command) (p : Program) (limit : ℕ) → Form (Interprets p limit) command → (name : List ℕ) × (command ≡ Interp name limit)
interpreter (Build text image) p limit f = absurd f
interpreter (Assemble text image) p limit f = absurd f
interpreter (Exec text most) p limit f = absurd f
interpreter (Interp text most) p limit f = (text, ap (Interp text) (sym f))
interpreter (Run image most) p limit f = absurd f
interpreter (Show image) p limit f = absurd f
interpreter (Judge text) p limit f = absurd f
interpreter (Sample seed size) p limit f = absurd f

-- ---- what `exec`, `interp` and `sample` make of one text

same_parts_of : (parts made : Parts) (limit most : ℕ) → Executes parts limit ≡ Executes made most → parts ≡ made
same_parts_of parts made limit most e = cc

same_program_of : (p q : Program) (limit most : ℕ) → Interprets p limit ≡ Interprets q most → p ≡ q
same_program_of p q limit most e = cc

pub built_by : (name : List ℕ) (limit most : ℕ) (fetched : List (List ℕ)) (parts : Parts) → Makes (Exec name limit) fetched (Executes parts most) → (text : List ℕ) × (fetched ≡ text ∷ []) × Built text parts
built_by name limit most [] parts x = absurd x
built_by name limit most (text ∷ []) parts x = (text, refl, subst (Built text) (sym (same_parts_of parts x.0 most limit x.2)) x.1)
built_by name limit most (text ∷ more ∷ rest) parts x = absurd x

pub meant_by : (name : List ℕ) (limit most : ℕ) (fetched : List (List ℕ)) (p : Program) → Makes (Interp name limit) fetched (Interprets p most) → (text : List ℕ) × (fetched ≡ text ∷ []) × HasMeaning text p
meant_by name limit most [] p x = absurd x
meant_by name limit most (text ∷ []) p x = (text, refl, subst (HasMeaning text) (sym (same_program_of p x.0 most limit x.2)) x.1)
meant_by name limit most (text ∷ more ∷ rest) p x = absurd x

same_sample_of : (parts made : Parts) (size functions : ℕ) → Samples parts size ≡ Samples made functions → parts ≡ made
same_sample_of parts made size functions e = cc

pub sampled_by : (seed size functions : ℕ) (fetched : List (List ℕ)) (parts : Parts) → Makes (Sample seed size) fetched (Samples parts functions) → Built (sample_text seed size) parts
sampled_by seed size functions [] parts x = subst (Built (sample_text seed size)) (sym (same_sample_of parts x.0 functions size x.2)) x.1
sampled_by seed size functions (bytes ∷ more) parts x = absurd x

pub refused_by : (seed size : ℕ) (fetched : List (List ℕ)) (fault : Refusal) → Makes (Sample seed size) fetched (Refuses fault) → FirstFault (sample_text seed size) fault
refused_by seed size [] fault x = x
refused_by seed size (bytes ∷ more) fault x = absurd x
