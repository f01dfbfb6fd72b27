-- The commands, a row for each: the words, what is fetched, and what is made of it.
use Rattle.std.specs.Prelude.{◌≡◌, ◌⊎◌, ℕ, ◌<◌, ◌≤◌, List, [], ◌∷◌, length, codes}
use Rattle.ckc_base.specs.declared.places.Refusal.{Refusal}
use Rattle.ckc_base.specs.Places.{longest_text}
use Rattle.ckc_rv.specs.Machine.{Parts}
use Rattle.ckc_image.specs.declared.format.Format.{Format}
use Rattle.ckc_image.specs.Image.{FirstBad}
use Rattle.ckc_asm_listing.specs.Listing.{shown_image}
use Rattle.ckc_asm.specs.Phase.{assembling}
use Rattle.ckc_build.specs.Built.{Built, IsImage, IsImageIn}
use Rattle.ckc_build.specs.Meanings.{judging, HasMeaning, FirstFault}
use Rattle.ckc_cli_sample.specs.Sample.{sample_text}
use Rattle.ckc_cli_commands.specs.Words.{Command, Build, Assemble, Exec, Interp, Run, Show, Judge, Sample, NameAndLimit, SeedAndSize}
use Rattle.ckc_cli_commands.specs.Outcomes.{Outcome, Refuses, IsBad, Keeps, Puts, PutsLine, Executes, Interprets, Samples}
use Rattle.ckc_cli_commands.specs.Checking.{checked_line}

-- ---- what is fetched

-- the longest image, in bytes: an ELF image whose code and initial bytes are the longest
abbrev pub longest_image : ℕ
longest_image = 33550452

-- A name, and how many bytes under it are read at most: of a longer file only that it is longer is told to the command.
pub record Fetch : Type 0 where
  pub name : List ℕ
  pub most : ℕ

-- the file of a text
abbrev pub a_text : List ℕ → Fetch
a_text name = record { name = name; most = longest_text }

-- the file of an image
abbrev pub an_image : List ℕ → Fetch
an_image name = record { name = name; most = longest_image }

-- ---- what is made of it

-- A text is refused, or an outcome comes of what is made of it.
abbrev pub OfText : {B : Type 0} → (List ℕ → Refusal → Type 0) → (List ℕ → B → Type 0) → (B → Outcome) → List ℕ → Outcome → Type 0
OfText IsRefused IsMade outcome text (Refuses fault) = IsRefused text fault
OfText {B} IsRefused IsMade outcome text o = (made : B) × IsMade text made × (o ≡ outcome made)

-- an image of the parts that are made of a text
abbrev pub AsImage : (List ℕ → Parts → Type 0) → List ℕ → List ℕ → Type 0
AsImage IsMade text image = (parts : Parts) × IsMade text parts × IsImage image parts

-- k is the first part that disagrees, and 3 if there are too many bytes
abbrev pub BadBytes : List ℕ → ℕ → Type 0
BadBytes bytes k = ((longest_image < length bytes) × (k ≡ 3)) ⊎ ((length bytes ≤ longest_image) × FirstBad bytes k)

-- Bytes are no image, or an outcome comes of the format and the parts of the image.
abbrev pub OfImage : (Format → Parts → Outcome) → List ℕ → Outcome → Type 0
OfImage outcome bytes (IsBad part) = BadBytes bytes part
OfImage outcome bytes o = (format : Format) × (parts : Parts) × IsImageIn format bytes parts × (o ≡ outcome format parts)

-- an outcome comes of the one list of bytes that was fetched
abbrev pub OfOne : (List ℕ → Outcome → Type 0) → List (List ℕ) → Outcome → Type 0
OfOne Comes (bytes ∷ []) o = Comes bytes o
OfOne Comes fetched o = ⊥

-- an outcome comes, and nothing was fetched
abbrev pub OfNone : (Outcome → Type 0) → List (List ℕ) → Outcome → Type 0
OfNone Comes [] o = Comes o
OfNone Comes (bytes ∷ more) o = ⊥

-- ---- the commands

-- A command: its first word, the other words, what it fetches, in this order, and the outcome that comes of the bytes.
pub record Row : Type 1 where
  pub keyword : List ℕ
  pub Arguments : List (List ℕ) → Type 0
  pub fetches : List Fetch
  pub Makes : List (List ℕ) → Outcome → Type 0

-- a command that fetches one file
abbrev pub one_file : List ℕ → (List (List ℕ) → Type 0) → Fetch → (List ℕ → Outcome → Type 0) → Row
one_file keyword Arguments fetch Comes = record { keyword = keyword; Arguments = Arguments; fetches = fetch ∷ []; Makes = OfOne Comes }

-- the row of each command
abbrev pub row_of : Command → Row
row_of (Build text image) = one_file (codes "build") (λ words. words ≡ text ∷ image ∷ []) (a_text text) (OfText FirstFault (AsImage Built) (Keeps image))
row_of (Assemble text image) =
    one_file (codes "asm") (λ words. words ≡ text ∷ image ∷ []) (a_text text) (OfText assembling.Refuses (AsImage assembling.Makes) (Keeps image))
row_of (Exec text limit) =
    one_file (codes "exec") (λ words. NameAndLimit words text limit) (a_text text) (OfText FirstFault Built (λ parts. Executes parts limit))
row_of (Interp text limit) =
    one_file (codes "interp") (λ words. NameAndLimit words text limit) (a_text text) (OfText FirstFault HasMeaning (λ p. Interprets p limit))
row_of (Run image limit) = one_file (codes "run") (λ words. NameAndLimit words image limit) (an_image image) (OfImage (λ format parts. Executes parts limit))
row_of (Show image) =
    one_file (codes "list") (λ words. words ≡ image ∷ []) (an_image image) (OfImage (λ format parts. Puts (shown_image format parts.entry parts.code parts.initial)))
row_of (Judge text) =
    one_file (codes "check") (λ words. words ≡ text ∷ []) (a_text text)
    (OfText FirstFault judging.Makes (λ p. PutsLine (checked_line p)))
row_of (Sample seed size) = record {
  keyword = codes "sample";
  Arguments = λ words. SeedAndSize words seed size;
  fetches = [];
  Makes = OfNone (OfText FirstFault Built (λ parts. Samples parts size) (sample_text seed size));
}

-- The words are those of the command. They are compared byte for byte, and a name may be any word.
abbrev pub Reads : List (List ℕ) → Command → Type 0
Reads words command = (more : List (List ℕ)) × (words ≡ (row_of command).keyword ∷ more) × (row_of command).Arguments more

-- what a command fetches
abbrev pub fetches_of : Command → List Fetch
fetches_of command = (row_of command).fetches

-- the outcomes that come of a command over the bytes that it fetched
abbrev pub Makes : Command → List (List ℕ) → Outcome → Type 0
Makes command = (row_of command).Makes
