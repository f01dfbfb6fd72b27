-- States part by part.
use Rattle.std.proofs.Common.{◌≡◌, ℕ, ◌+◌, ◌<◌, ◌≤◌, Bool, true, false, nat_lt, List, [], ◌∷◌, length, Option, Some, None, Ok, Err, if◌then◌else◌, sym, ◌∙◌, ap, arith}
use Rattle.std.specs.Prelude.{slice_get, map}
use Rattle.std.specs.Option.{option_map}
use Rattle.std.proofs.lemmas.Option.{slice_get-map}
use Rattle.std.proofs.lemmas.Bool.Decides.{nat_tests}
use Rattle.ckc_base.specs.declared.places.Pos.{Pos}
use Rattle.ckc_base.specs.declared.runtime_checks.Check.TheVariants.{Depth}
use Rattle.ckc_base.specs.Traces as standing
use Rattle.ckc_base.specs.Steps.{Halts}
use Rattle.ckc_source.specs.declared.outcome.Halt.{Halt}
use Rattle.ckc_source.specs.declared.stmt.Kept.{Kept}
use Rattle.ckc_source.specs.declared.program.FunctionTree.{FunctionTree}
use Rattle.ckc_source.specs.Blocks.{Block}
use Rattle.ckc_source.specs.Code.{Function, Program, function_of}
use Rattle.ckc_source.specs.Eval.{given}
use Rattle.ckc_source.specs.States.{Work, Frame, Caller, State, active}
use Rattle.ckc_source.specs.Steps.{Write, writes, all_written, calls, enters}
use Rattle.ckc_interp.specs.code.Views.{stacked}

pub framed : (function : Function) (locals locals' entry : List ℕ) (work work' : List Work) → locals ≡ locals' → work ≡ work'
    → record { function = function; locals = locals; entry = entry; work = work } ≡ (let f : Frame = record { function = function; locals = locals'; entry = entry; work = work' } in f)
framed function locals locals' entry work work' e g =
    ap (λ l. record { function = function; locals = l; entry = entry; work = work }) e ∙ ap (λ w. record { function = function; locals = locals'; entry = entry; work = w }) g

abbrev pub with_calls : State → Frame → List Caller → State
with_calls s f callers = record s { frame = f; callers = callers }

pub with_parts : (s : State) (f g : Frame) (x y : List Caller) → f ≡ g → x ≡ y → with_calls s f x ≡ with_calls s g y
with_parts s f g x y e h = ap (λ q. with_calls s q x) e ∙ ap (λ q. with_calls s g q) h

abbrev pub state_with : List Block → ℕ → Frame → List Caller → State
state_with blocks next frame callers = record { blocks = blocks; next = next; frame = frame; callers = callers; input = [] }

pub state_parts : (b b' : List Block) (n n' : ℕ) (f f' : Frame) (x x' : List Caller) → b ≡ b' → n ≡ n' → f ≡ f' → x ≡ x' → state_with b n f x ≡ state_with b' n' f' x'
state_parts b b' n n' f f' x x' e g h i =
    ap (λ q. state_with q n f x) e ∙ ap (λ q. state_with b' q f x) g ∙ ap (λ q. state_with b' n' q x) h ∙ ap (λ q. state_with b' n' f' q) i

pub length-stacked : {A B : Type 0} (view : A → B) (xs : List A) (behind : List B) → length (stacked view xs behind) ≡ length xs + length behind
unfolding stacked
length-stacked view [] behind = omega arith
length-stacked view (x ∷ xs) behind = let h = length-stacked view xs (view x ∷ behind) in omega (arith, h)

-- ---- calls

not_below : (a b : ℕ) → b ≤ a → nat_lt a b ≡ false
not_below a b h = grind (arith, nat_tests)

is_below : (a b : ℕ) → a < b → nat_lt a b ≡ true
is_below a b h = grind (arith, nat_tests)

chosen : {A : Type 0} (b : Bool) (x y : A) → b ≡ true → (if b then x else y) ≡ x
chosen b x y e = ap (λ c. if c then x else y) e

other : {A : Type 0} (b : Bool) (x y : A) → b ≡ false → (if b then x else y) ≡ y
other b x y e = ap (λ c. if c then x else y) e

pub calls_full : (p : Program) (s : State) (target : Option Kept) (callee : ℕ) (at : Pos) (values : List ℕ) → 1023 ≤ length s.callers
    → calls p s target callee at values ≡ Halts [] (standing.Stopped Depth at)
calls_full p s target callee at values h = other (nat_lt (active s) 1024) _ _ (not_below (active s) 1024 (omega arith))

pub calls_at : (p : Program) (s : State) (target : Option Kept) (callee : ℕ) (at : Pos) (values : List ℕ) (f : Option Function) → length s.callers < 1023
    → slice_get p.functions callee ≡ f → calls p s target callee at values ≡ enters p.shapes s target values f
calls_at p s target callee at values f h e =
    chosen (nat_lt (active s) 1024) _ _ (is_below (active s) 1024 (omega arith)) ∙ ap (enters p.shapes s target values) e

pub function_some : (fs : List FunctionTree) (n : ℕ) (f : FunctionTree) → Some f ≡ slice_get fs n → slice_get (map function_of fs) n ≡ Some (function_of f)
function_some fs n f e = slice_get-map function_of fs n ∙ ap (option_map function_of) (sym e)

pub function_none : (fs : List FunctionTree) (n : ℕ) → None ≡ slice_get fs n → slice_get (map function_of fs) n ≡ None
function_none fs n e = slice_get-map function_of fs n ∙ ap (option_map function_of) (sym e)

-- ---- writes

pub written_next : (w : Write) (ws : List Write) (s u : State) → writes w.0 w.1 s ≡ Ok u → all_written (w ∷ ws) s ≡ all_written ws u
written_next w ws s u e = ap (λ x. given x (all_written ws)) e

pub written_stops : (w : Write) (ws : List Write) (s : State) (why : Halt) → writes w.0 w.1 s ≡ Err why → all_written (w ∷ ws) s ≡ Err why
written_stops w ws s why e = ap (λ x. given x (all_written ws)) e
