use Rattle.ckc_blame_sound.proofs.Holding.{form_exact, exact_by, received_exact}
use Rattle.ckc_blame_sound.proofs.Known.{form_known}
use Rattle.ckc_blame_sound.proofs.numbers_laws.forms_are_exact.Goals as goal

pub returns : goal.returns
returns c = record {
  own = λ globals s e literals facts f store v agrees typed words all there is. form_exact globals s agrees e literals store v typed words is facts f all there;
  under = λ globals s e literals facts f store v numbers agrees typed words fits all there is.
      exact_by globals s agrees e literals store v typed words is numbers fits facts all f there;
  received = λ globals s e literals facts t f store v numbers agrees typed words fits all there is.
      received_exact globals s agrees e literals store v typed words is numbers fits facts all t f there;
  named = λ frame e facts f there. form_known frame e facts f there;
}
