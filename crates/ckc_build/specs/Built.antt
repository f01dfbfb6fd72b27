-- The images of texts that have a meaning.
use Rattle.std.specs.Prelude.{ℕ, List, Vec}
use Rattle.std.specs.declared.alloc.Global.{Global}
pub use Rattle.ckc_build_compile.specs.Compiled.{most_for_a_step}
use Rattle.ckc_build_compile.specs.Confined.{ConfinesStores, IsFaultless, NeverFaults}
use Rattle.ckc_base.specs.Follows.{Follows}
use Rattle.ckc_base.specs.Phases.{Phase}
use Rattle.ckc_blame.specs.Blamed.{IsBlamed, IsNeverStuck}
use Rattle.ckc_rv.specs.Machine.{Parts, machine}
use Rattle.ckc_image.specs.declared.format.Format.{Format}
use Rattle.ckc_image.specs.Image.{ImageOf}
use Rattle.ckc_image.specs.declared.format.Format.TheVariants.{Elf}
use Rattle.ckc_source.specs.Code.{Program}
use Rattle.ckc_source.specs.LaidOut.{AreBytes}
use Rattle.ckc_source.specs.Source.{source}
use Rattle.ckc_build.specs.Confined.{StoresStayInside}
use Rattle.ckc_build.specs.Meanings.{HasMeaning, FirstFault, IsWhollyChecked}

-- the bytes are an image of the parts in a format
abbrev pub IsImageIn : Format → List ℕ → Parts → Type 0
IsImageIn format bytes parts = ImageOf format bytes parts.entry parts.code parts.initial

-- The bytes are an image of the parts as it is written, an ELF32 executable.
abbrev pub IsImage : List ℕ → Parts → Type 0
IsImage bytes parts = IsImageIn Elf bytes parts

-- The parts are those of an image of a text: for every input of bytes its machine follows the meaning of the text,
-- within so many instructions for each step and as many more. If the meaning is stuck, unchecked code is to blame, and
-- that of a text that is wholly checked is never stuck. If it is never stuck, each store lies in a block, in a frame or
-- in the heap word, or the meaning's step plans it, and no run of the machine is at a fault. For a text that is wholly
-- checked no store is one that is planned alone.
pub record Built (text : List ℕ) (parts : Parts) : Type 0 where
  pub program : Program
  pub means : HasMeaning text program
  pub follows : (input : List ℕ) → AreBytes input → Follows (source program input) (machine parts input) most_for_a_step
  pub blamed : IsBlamed program
  pub checked : IsWhollyChecked text → IsNeverStuck program
  pub confined : ConfinesStores program parts
  pub faultless : NeverFaults program parts
  pub inside : IsWhollyChecked text → (input : List ℕ) → AreBytes input
      → StoresStayInside program parts input × IsFaultless parts input

-- From a text to an image of it, or to its first error. Which of its images comes is left open.
abbrev pub building : Phase (List ℕ) (List ℕ)
building = record {
  Makes = λ text image. (parts : Parts) × Built text parts × IsImage image parts;
  Refuses = FirstFault;
}

-- the bytes that a vector holds
abbrev pub bytes_of : Vec ℕ Global → List ℕ
bytes_of image = image.items
