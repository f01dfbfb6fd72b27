-- What words are read as.
use Rattle.std.proofs.Common.{◌≡◌, ◌≢◌, ℕ, List, ◌∷◌, Option, None, Some, MatchOption, get_or, arith, refl, sym, ap, subst, ◌∙◌}
use Rattle.ckc_cli_commands.specs.declared.words.Command as commands
use Rattle.ckc_cli_commands.specs.declared.words.Keyword.{Keyword}
use Rattle.ckc_cli_commands.specs.declared.words.Keyword.TheVariants as keywords
use Rattle.ckc_cli_commands.specs.Words.{Command, Build, Assemble, Exec, Interp, Run, Show, Judge, Sample, NameAndLimit, SeedAndSize}
use Rattle.ckc_cli_commands.specs.Commands.{row_of, Reads}
use Rattle.ckc_cli_commands.specs.Commanded.{command_is}
use Rattle.ckc_cli_commands.specs.code.Commanded.{spelling, HasArguments}

pub no_exec : (more : List (List ℕ)) → ((name : List ℕ) (limit : ℕ) → NameAndLimit more name limit → ⊥) → (command : Command) → HasArguments keywords.Exec more command → ⊥
no_exec more none (Build text image) h = omega (arith, ap (λ (l : List ℕ). get_or l 0 0) h.0)
no_exec more none (Assemble text image) h = omega (arith, ap (λ (l : List ℕ). get_or l 0 0) h.0)
no_exec more none (Exec text limit) h = none text limit h.1
no_exec more none (Interp text limit) h = omega (arith, ap (λ (l : List ℕ). get_or l 0 0) h.0)
no_exec more none (Run image limit) h = omega (arith, ap (λ (l : List ℕ). get_or l 0 0) h.0)
no_exec more none (Show image) h = omega (arith, ap (λ (l : List ℕ). get_or l 0 0) h.0)
no_exec more none (Judge text) h = omega (arith, ap (λ (l : List ℕ). get_or l 0 0) h.0)
no_exec more none (Sample seed size) h = omega (arith, ap (λ (l : List ℕ). get_or l 0 0) h.0)

pub no_interp : (more : List (List ℕ)) → ((name : List ℕ) (limit : ℕ) → NameAndLimit more name limit → ⊥) → (command : Command) → HasArguments keywords.Interp more command → ⊥
no_interp more none (Build text image) h = omega (arith, ap (λ (l : List ℕ). get_or l 0 0) h.0)
no_interp more none (Assemble text image) h = omega (arith, ap (λ (l : List ℕ). get_or l 0 0) h.0)
no_interp more none (Exec text limit) h = omega (arith, ap (λ (l : List ℕ). get_or l 0 0) h.0)
no_interp more none (Interp text limit) h = none text limit h.1
no_interp more none (Run image limit) h = omega (arith, ap (λ (l : List ℕ). get_or l 0 0) h.0)
no_interp more none (Show image) h = omega (arith, ap (λ (l : List ℕ). get_or l 0 0) h.0)
no_interp more none (Judge text) h = omega (arith, ap (λ (l : List ℕ). get_or l 0 0) h.0)
no_interp more none (Sample seed size) h = omega (arith, ap (λ (l : List ℕ). get_or l 0 0) h.0)

pub no_run : (more : List (List ℕ)) → ((name : List ℕ) (limit : ℕ) → NameAndLimit more name limit → ⊥) → (command : Command) → HasArguments keywords.Run more command → ⊥
no_run more none (Build text image) h = omega (arith, ap (λ (l : List ℕ). get_or l 0 0) h.0)
no_run more none (Assemble text image) h = omega (arith, ap (λ (l : List ℕ). get_or l 0 0) h.0)
no_run more none (Exec text limit) h = omega (arith, ap (λ (l : List ℕ). get_or l 0 0) h.0)
no_run more none (Interp text limit) h = omega (arith, ap (λ (l : List ℕ). get_or l 0 0) h.0)
no_run more none (Run image limit) h = none image limit h.1
no_run more none (Show image) h = omega (arith, ap (λ (l : List ℕ). get_or l 0 0) h.0)
no_run more none (Judge text) h = omega (arith, ap (λ (l : List ℕ). get_or l 0 0) h.0)
no_run more none (Sample seed size) h = omega (arith, ap (λ (l : List ℕ). get_or l 0 0) h.0)

pub no_sample : (more : List (List ℕ)) → ((seed size : ℕ) → SeedAndSize more seed size → ⊥) → (command : Command) → HasArguments keywords.Sample more command → ⊥
no_sample more none (Build text image) h = omega (arith, ap (λ (l : List ℕ). get_or l 0 0) h.0)
no_sample more none (Assemble text image) h = omega (arith, ap (λ (l : List ℕ). get_or l 0 0) h.0)
no_sample more none (Exec text limit) h = omega (arith, ap (λ (l : List ℕ). get_or l 0 0) h.0)
no_sample more none (Interp text limit) h = omega (arith, ap (λ (l : List ℕ). get_or l 0 0) h.0)
no_sample more none (Run image limit) h = omega (arith, ap (λ (l : List ℕ). get_or l 0 0) h.0)
no_sample more none (Show image) h = omega (arith, ap (λ (l : List ℕ). get_or l 0 0) h.0)
no_sample more none (Judge text) h = omega (arith, ap (λ (l : List ℕ). get_or l 0 0) h.0)
no_sample more none (Sample seed size) h = none seed size h.1

-- the first word of a command is spelled so
spelled : (command : Command) → (k : Keyword) × ((row_of command).keyword ≡ spelling k)
spelled (Build text image) = (keywords.Build, refl)
spelled (Assemble text image) = (keywords.Assemble, refl)
spelled (Exec text limit) = (keywords.Exec, refl)
spelled (Interp text limit) = (keywords.Interp, refl)
spelled (Run image limit) = (keywords.Run, refl)
spelled (Show image) = (keywords.List, refl)
spelled (Judge text) = (keywords.Check, refl)
spelled (Sample seed size) = (keywords.Sample, refl)

pub head_is : (a b : List ℕ) (cs ds : List (List ℕ)) → a ∷ cs ≡ b ∷ ds → a ≡ b
head_is a b cs ds e = cc

pub tail_is : (a b : List ℕ) (cs ds : List (List ℕ)) → a ∷ cs ≡ b ∷ ds → cs ≡ ds
tail_is a b cs ds e = cc

pub none_word : (words : List (List ℕ)) (name : List ℕ) (more : List (List ℕ)) → words ≡ name ∷ more → ((k : Keyword) → name ≢ spelling k) → (command : Command) → Reads words command → ⊥
none_word words name more e none command r =
    let k = spelled command in
    none k.0 (head_is name (row_of command).keyword more r.0 (sym e ∙ r.1) ∙ k.1)

pub with_word : (words : List (List ℕ)) (name : List ℕ) (more : List (List ℕ)) (k : Keyword) (o : Option commands.Command) → words ≡ name ∷ more → name ≡ spelling k
    → MatchOption o ((command : Command) → ¬ HasArguments k more command) (λ c. HasArguments k more (command_is c))
    → MatchOption o ((command : Command) → ¬ Reads words command) (λ c. Reads words (command_is c))
with_word words name more k None e s m = λ command r.
    let same = sym e ∙ r.1 in
    m command (sym (head_is name (row_of command).keyword more r.0 same) ∙ s, subst (λ (l : List (List ℕ)). (row_of command).Arguments l) (sym (tail_is name (row_of command).keyword more r.0 same)) r.2)
with_word words name more k (Some c) e s m = (more, e ∙ ap (λ (n : List ℕ). n ∷ more) (s ∙ sym m.0), m.1)
