-- The phase that reads a text of assembly.
use Rattle.std.specs.Prelude.{◌≤◌, ℕ, List, length}
use Rattle.ckc_base.specs.Phases.{Phase}
use Rattle.ckc_base.specs.Places.{longest_text}
use Rattle.ckc_image.specs.declared.parts.Parts as image
use Rattle.ckc_rv.specs.Machine.{Parts}
use Rattle.ckc_asm.specs.Program.{AsmOf}
use Rattle.ckc_asm.specs.Faults.{IsFirstFault}

-- A text that is not too long is assembly of its parts.
abbrev pub assembling : Phase (List ℕ) Parts
assembling = record {
  Makes = λ text parts. (length text ≤ longest_text) × AsmOf text parts.entry parts.code parts.initial;
  Refuses = λ text refusal. IsFirstFault text refusal.code refusal.pos;
}

-- parts of the code, as definitions see them
abbrev pub parts_in : image.Parts → Parts
parts_in p = record { entry = p.entry; code = p.code; initial = p.initial }
