-- How the words of a command are told apart.
use Rattle.std.specs.Prelude.{◌≡◌, ℕ, List, [], ◌∷◌, codes}
use Rattle.ckc_cli_commands.specs.Words.{Command}
use Rattle.ckc_cli_commands.specs.Commands.{row_of}
use Rattle.ckc_cli_commands.specs.declared.words.Keyword.{Keyword}
use Rattle.ckc_cli_commands.specs.declared.words.Keyword.TheVariants as keyword

abbrev pub spelling : Keyword → List ℕ
spelling keyword.Build = codes "build"
spelling keyword.Assemble = codes "asm"
spelling keyword.Exec = codes "exec"
spelling keyword.Interp = codes "interp"
spelling keyword.Run = codes "run"
spelling keyword.List = codes "list"
spelling keyword.Check = codes "check"
spelling keyword.Sample = codes "sample"

-- the words are the arguments of a command with this first word
abbrev pub HasArguments : Keyword → List (List ℕ) → Command → Type 0
HasArguments k words c = ((row_of c).keyword ≡ spelling k) × (row_of c).Arguments words

-- one word, and two
abbrev pub IsOne : List (List ℕ) → List ℕ → Type 0
IsOne words name = words ≡ name ∷ []

abbrev pub IsTwo : List (List ℕ) → List ℕ → List ℕ → Type 0
IsTwo words name other = words ≡ name ∷ other ∷ []
