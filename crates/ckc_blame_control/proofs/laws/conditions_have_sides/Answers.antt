use Rattle.ckc_blame_control.proofs.Sides.{some_leads, none_leads}
use Rattle.ckc_blame_control.proofs.laws.conditions_have_sides.Goals as goal

pub returns : goal.returns
returns c = record {
  some = λ s store entry here one other e mode c f is h. some_leads s store entry mode here one other e c f is h;
  none = λ s store entry here one other e mode c is h. none_leads s store entry mode here one other e c is h;
}
