-- The text of `sample`, and the lines that tell of its run.
use Rattle.std.specs.Prelude.{ℕ, zero, suc, ◌+◌, ◌-◌, ◌*◌, ◌%◌, ◌^◌, List, [], ◌∷◌, ◌++◌, map, codes}
use Rattle.std.specs.List.{flat_map, range_with_len}
use Rattle.std.specs.Fmt.{decimal}
use Rattle.ckc_asm_listing.specs.Listing.{text_of}

-- ---- numbers

-- the number that comes after another one
abbrev pub next_number : ℕ → ℕ
next_number x = (1664525 * x + 1013904223) % 2 ^ 32

-- number k of those that a seed begins
unfoldable pub number_after : ℕ → ℕ → ℕ
number_after seed zero = seed
number_after seed (suc k) = next_number (number_after seed k)

-- what function j adds to each element
abbrev pub added_by : ℕ → ℕ → ℕ
added_by seed j = number_after seed (j + 1) % 1000

-- ---- the text, line by line

-- In checked code, as is all that comes after it, stands one array.
abbrev pub first_lines : List (List ℕ)
first_lines = codes "#pragma CHECKED_SCOPE on" ∷ codes "int a _Checked[64];" ∷ []

-- the first line of function j
abbrev pub head_line : ℕ → List ℕ
head_line j = codes "int f" ++ decimal j ++ codes "(int n) {"

-- the line that goes through the array
abbrev pub loop_line : ℕ → List ℕ
loop_line added = codes "  for (i = 0; i < n; i = i + 1) { a[i] = a[i] + " ++ decimal added ++ codes "; s = s + a[i]; }"

-- a call of function k with so many elements
abbrev pub call_line : ℕ → List ℕ → List ℕ
call_line k count = codes "  r = f" ++ decimal k ++ codes "(" ++ count ++ codes ");"

-- function j calls the one before it, if there is one
abbrev pub call_lines : ℕ → List (List ℕ)
call_lines zero = []
call_lines (suc k) = call_line k (codes "n") ∷ []

-- Function j adds a number to each element, puts a byte, calls the function before it, and gives a sum of all that was
-- added.
abbrev pub function_lines : (added j : ℕ) → List (List ℕ)
function_lines added j =
    (head_line j ∷ codes "  int i;" ∷ codes "  int s = 0;" ∷ codes "  int r = 0;" ∷ loop_line added ∷ codes "  putchar(a[0]);" ∷ [])
    ++ call_lines j ++ (codes "  return s + r;" ∷ codes "}" ∷ [])

-- main calls the last of so many functions
abbrev pub main_lines : ℕ → List (List ℕ)
main_lines size =
    codes "int main(void) {" ∷ codes "  int r;" ∷ call_line (size - 1) (codes "64") ∷ codes "  return r;" ∷ codes "}" ∷ []

-- the lines of each part of the text: the array, so many functions, main
abbrev pub sample_parts : (seed size : ℕ) → List (List (List ℕ))
sample_parts seed size =
    first_lines ∷ map (λ j. function_lines (added_by seed j) j) (range_with_len 0 size) ++ main_lines size ∷ []

-- the text of a seed and a size; each line ends with LF
unfoldable pub sample_text : (seed size : ℕ) → List ℕ
sample_text seed size = flat_map text_of (sample_parts seed size)

-- ---- the lines that tell of a run

-- how many functions there are, how many bytes were put, and the value that the program ended with
abbrev pub sample_lines : (size count value : ℕ) → List (List ℕ)
sample_lines size count value =
    (codes "functions " ++ decimal size) ∷ (codes "output " ++ decimal count) ∷ (codes "ended " ++ decimal value) ∷ []
