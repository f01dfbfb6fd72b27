-- The codes with which names are refused.
use Rattle.std.specs.Prelude.{ℕ, ◌≤◌}

-- E301: a name is not declared
abbrev pub undeclared : ℕ
undeclared = 301

-- E302: a name is declared twice in one scope, or no text may declare it
abbrev pub declared_twice : ℕ
declared_twice = 302

-- E303: no function is `int main(void)`
abbrev pub no_main : ℕ
no_main = 303

-- E304: no function has the head of a prototype
abbrev pub undefined : ℕ
undefined = 304

abbrev pub IsCode : ℕ → Type 0
IsCode code = (301 ≤ code) × (code ≤ 304)
