use Rattle.std.proofs.Common.{ℕ, List, ◌∷◌, sym, ap, ◌∙◌}
use Rattle.ckc_cli_commands.specs.Words.{bytes_of}
use Rattle.ckc_cli_commands.proofs.Wording.{none_word, with_word}
use Rattle.ckc_cli_commands.proofs.words.command_of.Goals as goal

pub returns-in-None-keyword_of : goal.returns-in-None-keyword_of
returns-in-None-keyword_of c =
    let more = bytes_of c.in-Some.more.now in
    none_word (bytes_of c.args.words.now) c.as_str.result.now more (ap bytes_of c.in-Some.ensures.cases.0 ∙ ap (λ (n : List ℕ). n ∷ more) (sym c.as_str.ensures.value)) c.in-None-keyword_of.ensures

pub returns-in-Some-keyword_of : goal.returns-in-Some-keyword_of
returns-in-Some-keyword_of c =
    let more = bytes_of c.in-Some.more.now in
    with_word (bytes_of c.args.words.now) c.as_str.result.now more c.in-Some-keyword_of.keyword c.command_with.result
    (ap bytes_of c.in-Some.ensures.cases.0 ∙ ap (λ (n : List ℕ). n ∷ more) (sym c.as_str.ensures.value)) c.in-Some-keyword_of.ensures c.command_with.ensures
