-- What of a judged text lets its expressions be those of which it is said what they come to.
use Rattle.std.proofs.Common.{◌∙◌, sym, ap, ℕ, List}
use Rattle.std.specs.List.{Contains}
use Rattle.ckc_typed.specs.declared.typed.Typed.{Typed}
use Rattle.ckc_source.specs.Code.{Function}
use Rattle.ckc_source.specs.Eval.{Store}
use Rattle.ckc_blame_sound.specs.Settings.{Setting, IsFunction, setting_of}
use Rattle.ckc_blame_sound.specs.Slots.{AreFilled}
use Rattle.ckc_blame_sound.specs.Elements.{NameIntegerMembers}
use Rattle.ckc_blame_given.specs.ckc_blame_pointers.specs.Covered.{DeclareOnes, KeepRunsFree, IsInScope}
use Rattle.ckc_blame_sound.specs.JudgedTexts.{IsJudged, globals_in}
use Rattle.ckc_blame_steps.specs.Told.{IsTold}
use Rattle.ckc_blame_steps.proofs.Layouts.{structs_told}
use Rattle.ckc_blame_steps.proofs.Members.{members_told}
use Rattle.ckc_blame_steps.proofs.CoveredStatics.{statics_of}

pub texts_are_told : (p : Typed) (s : Setting) (f : Function) (store : Store) (seen : List ℕ) → IsJudged p → IsFunction p s f → NameIntegerMembers p.layout → DeclareOnes s → KeepRunsFree s.text → AreFilled s.text store
    → ((k : ℕ) → Contains seen k → IsInScope s seen k) → IsTold (globals_in p) s store seen
unfolding setting_of
texts_are_told p s f store seen j is integers ones free filled locals = record {
  structs = structs_told p j ∙ ap (λ (x : Setting). x.text.layout) (sym is.judged);
  ones = ones;
  free = free;
  filled = filled;
  locals = locals;
  statics = statics_of p s f store j is filled;
  members = members_told p s f store j is integers filled;
}
