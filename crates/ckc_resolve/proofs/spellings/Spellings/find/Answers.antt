use Rattle.std.proofs.Common.{◌∙◌, sym}
use Rattle.ckc_resolve.proofs.Tables.{place_same}
use Rattle.ckc_resolve.proofs.spellings.Spellings.find.Goals as goal

pub returns-in-Some : goal.returns-in-Some
returns-in-Some c = c.in-Some.ensures.index ∙ place_same _ _ _ _ (sym c.self.view_is) c.as_str.ensures

pub returns-in-None : goal.returns-in-None
returns-in-None c = c.in-None.ensures.index ∙ place_same _ _ _ _ (sym c.self.view_is) c.as_str.ensures
