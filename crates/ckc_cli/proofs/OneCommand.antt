-- Words read one command.
use Rattle.std.proofs.Common.{◌≡◌, inl, inr, ℕ, ◌+◌, ◌*◌, ◌==◌, cond, List, [], ◌∷◌, get_or, codes, sym, ap, ◌∙◌}
use Rattle.std.specs.Str.Parse.{digits_value}
use Rattle.ckc_cli_commands.specs.Words.{Command, Build, Assemble, Exec, Interp, Run, Show, Judge, Sample, NameAndLimit, SeedAndSize, usual_limit}
use Rattle.ckc_cli_commands.specs.Commands.{row_of, Reads}
use Rattle.ckc_cli_commands.proofs.Wording.{head_is, tail_is}

-- the first and the second of some words, and the limit that the second says
abbrev first : List (List ℕ) → List ℕ
first [] = []
first (word ∷ more) = word

abbrev second : List (List ℕ) → List ℕ
second [] = []
second (word ∷ []) = []
second (word ∷ other ∷ more) = other

abbrev limit_in : List (List ℕ) → ℕ
limit_in [] = usual_limit
limit_in (word ∷ []) = usual_limit
limit_in (word ∷ other ∷ more) = digits_value 10 other

-- the number that the first word says, and the second
abbrev seed_in : List (List ℕ) → ℕ
seed_in more = digits_value 10 (first more)

abbrev size_in : List (List ℕ) → ℕ
size_in more = digits_value 10 (second more)

-- the first two letters of a word
abbrev letters : List ℕ → ℕ
letters word = 256 * get_or word 0 0 + get_or word 1 0

-- the command that words read, if they read one
abbrev read_as : ℕ → List (List ℕ) → Command
read_as k more =
    cond (k == letters (codes "build")) (Build (first more) (second more))
    (cond (k == letters (codes "asm")) (Assemble (first more) (second more))
    (cond (k == letters (codes "exec")) (Exec (first more) (limit_in more))
    (cond (k == letters (codes "interp")) (Interp (first more) (limit_in more))
    (cond (k == letters (codes "run")) (Run (first more) (limit_in more))
    (cond (k == letters (codes "list")) (Show (first more))
    (cond (k == letters (codes "check")) (Judge (first more))
    (Sample (seed_in more) (size_in more))))))))

first_is : (more : List (List ℕ)) (name : List ℕ) (limit : ℕ) → NameAndLimit more name limit → first more ≡ name
first_is more name limit (inl p) = ap first p.0
first_is more name limit (inr p) = ap first p.1

limit_is : (more : List (List ℕ)) (name : List ℕ) (limit : ℕ) → NameAndLimit more name limit → limit_in more ≡ limit
limit_is more name limit (inl p) = ap limit_in p.0 ∙ sym p.1
limit_is more name limit (inr p) = ap limit_in p.1 ∙ sym p.2.number.value

seed_is : (more : List (List ℕ)) (seed size : ℕ) → SeedAndSize more seed size → seed_in more ≡ seed
seed_is more seed size p = ap seed_in p.2 ∙ sym p.3.number.value

size_is : (more : List (List ℕ)) (seed size : ℕ) → SeedAndSize more seed size → size_in more ≡ size
size_is more seed size p = ap size_in p.2 ∙ sym p.4.number.value

reads_as : (more : List (List ℕ)) (c : Command) → (row_of c).Arguments more → read_as (letters (row_of c).keyword) more ≡ c
reads_as more (Build text image) a = ap (λ (m : List (List ℕ)). Build (first m) (second m)) a
reads_as more (Assemble text image) a = ap (λ (m : List (List ℕ)). Assemble (first m) (second m)) a
reads_as more (Exec text limit) a = ap (λ t. Exec t (limit_in more)) (first_is more text limit a) ∙ ap (λ l. Exec text l) (limit_is more text limit a)
reads_as more (Interp text limit) a = ap (λ t. Interp t (limit_in more)) (first_is more text limit a) ∙ ap (λ l. Interp text l) (limit_is more text limit a)
reads_as more (Run image limit) a = ap (λ t. Run t (limit_in more)) (first_is more image limit a) ∙ ap (λ l. Run image l) (limit_is more image limit a)
reads_as more (Show image) a = ap (λ (m : List (List ℕ)). Show (first m)) a
reads_as more (Judge text) a = ap (λ (m : List (List ℕ)). Judge (first m)) a
reads_as more (Sample seed size) a = ap (λ n. Sample n (size_in more)) (seed_is more seed size a) ∙ ap (λ n. Sample seed n) (size_is more seed size a)

pub reads_once : (words : List (List ℕ)) (c d : Command) → Reads words c → Reads words d → c ≡ d
reads_once words c d p q =
    let e = sym p.1 ∙ q.1 in
    let k = head_is (row_of c).keyword (row_of d).keyword p.0 q.0 e in
    let m = tail_is (row_of c).keyword (row_of d).keyword p.0 q.0 e in
    sym (reads_as p.0 c p.2) ∙ ap (λ (w : List ℕ). read_as (letters w) p.0) k ∙ ap (λ (l : List (List ℕ)). read_as (letters (row_of d).keyword) l) m ∙ reads_as q.0 d q.2
