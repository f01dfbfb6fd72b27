-- The words of the command line.
use Rattle.std.specs.Prelude.{◌≡◌, ◌≤◌, ◌<◌, ◌^◌, ◌⊎◌, List, [], ◌∷◌, ℕ, length, map, String}
use Rattle.std.specs.Str.Parse.{IsNumeral, digits_value}
use Rattle.std.specs.String.{string_bytes}
use Rattle.std.specs.declared.alloc.Global.{Global}

-- What the words ask for, with the names of files and the most instructions that are executed, or steps that are run; or
-- with what begins the numbers of a sample, and how many functions it has.
pub data Command : Type 0 where
  Build : (text image : List ℕ) → Command
  Assemble : (text image : List ℕ) → Command
  Exec : (text : List ℕ) (limit : ℕ) → Command
  Interp : (text : List ℕ) (limit : ℕ) → Command
  Run : (image : List ℕ) (limit : ℕ) → Command
  Show : (image : List ℕ) → Command
  Judge : (text : List ℕ) → Command
  Sample : (seed size : ℕ) → Command

-- the limit if the words say none
abbrev pub usual_limit : ℕ
usual_limit = 1000000000

-- 1 to so many decimal digits, with this value
pub record IsNumber (most : ℕ) (word : List ℕ) (n : ℕ) : Type 0 where
  pub digits : IsNumeral 10 word
  pub few : length word ≤ most
  pub value : n ≡ digits_value 10 word

-- 1 to 18 digits, with a value of at least 1
pub record IsLimit (word : List ℕ) (limit : ℕ) : Type 0 where
  pub number : IsNumber 18 word limit
  pub positive : 1 ≤ limit

-- a name and perhaps a limit after it
abbrev pub NameAndLimit : List (List ℕ) → List ℕ → ℕ → Type 0
NameAndLimit words name limit =
    ((words ≡ name ∷ []) × (limit ≡ usual_limit)) ⊎ ((word : List ℕ) × (words ≡ name ∷ word ∷ []) × IsLimit word limit)

-- 1 to 10 digits, with a value below 2^32
pub record IsSeed (word : List ℕ) (seed : ℕ) : Type 0 where
  pub number : IsNumber 10 word seed
  pub below : seed < 2 ^ 32

-- 1 to 3 digits, with a value from 1 to 250
pub record IsSize (word : List ℕ) (size : ℕ) : Type 0 where
  pub number : IsNumber 3 word size
  pub least : 1 ≤ size
  pub most : size ≤ 250

-- a seed and then a size
abbrev pub SeedAndSize : List (List ℕ) → ℕ → ℕ → Type 0
SeedAndSize words seed size =
    (first : List ℕ) × (second : List ℕ) × (words ≡ first ∷ second ∷ []) × IsSeed first seed × IsSize second size

-- the bytes of each word
abbrev pub bytes_of : List (String Global) → List (List ℕ)
bytes_of words = map string_bytes words
