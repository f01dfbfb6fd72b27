use Rattle.std.proofs.Common.{refl}
use Rattle.ckc_blame_sound.specs.Values.{value}
use Rattle.ckc_blame_sound.proofs.Facts.{shown_true}
use Rattle.ckc_blame_sound.proofs.Typed.{number_in_type}
use Rattle.ckc_blame_sound.proofs.laws.shown_is_true.Goals as goal

pub returns : goal.returns
returns c = record {
  shown = λ frame locals facts f all shown. shown_true facts (value frame locals) f all shown;
  in_type = λ frame locals facts t form f all e. number_in_type (value frame locals) refl facts all t form f e;
  shown_by = λ numbers facts f all shown. shown_true facts numbers f all shown;
  in_type_by = λ numbers facts t form f zero_is all e. number_in_type numbers zero_is facts all t form f e;
}
