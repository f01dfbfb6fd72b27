use Rattle.ckc_parser.proofs.laws.codes.Goals as goal

pub returns : goal.returns
returns c = λ tokens r f. f.0
