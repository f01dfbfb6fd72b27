-- Lists of locals and of what is judged, joined part by part.
use Rattle.std.proofs.Common.{◌≡◌, ◌∙◌, ◌<◌, ◌≤◌, ℕ, zero, suc, ◌+◌, Bool, List, [], ◌∷◌, ◌++◌, length, map, drop, set, get_or, drop-cons, add-one, refl, ap, sym, append_assoc, append-nil, length-set, arith}
use Rattle.std.specs.Prelude.{Ok, Err, replicate}
use Rattle.std.proofs.Math.ListN.{replicate-append-replicate}
use Rattle.std.proofs.lemmas.List.{drop_all, length-replicate}
use Rattle.ckc_base.specs.declared.places.Refusal.{Refusal}
use Rattle.ckc_base.specs.Outcomes.{Outcome, bind}
use Rattle.ckc_syntax.specs.declared.tree.Name.{Name}
use Rattle.ckc_syntax.specs.declared.tree.Name.TheVariants as name
use Rattle.ckc_typed.specs.Trees.{NotedDecl}
use Rattle.ckc_bounds_points.specs.declared.frame.Local.{Local}
use Rattle.ckc_bounds_points.specs.declared.frame.Frame.{Frame}
use Rattle.ckc_bounds.specs.Declarations.{each, nameless, local_made, with_local, with_all, all_made}
use Rattle.ckc_bounds.specs.declared.locals.Turn.{Turn}
use Rattle.ckc_bounds.specs.declared.locals.Turn.TheVariants as turn
use Rattle.ckc_bounds.specs.code.Declarations.{with_turn, with_turns}

pub with_turns_append : (frame : Frame) (t : Turn) (ls : List Local) (xs ys : List NotedDecl) → with_turns frame t ls (xs ++ ys) ≡ with_turns frame t (with_turns frame t ls xs) ys
with_turns_append frame t ls [] ys = refl
with_turns_append frame t ls (d ∷ xs) ys = with_turns_append frame t (with_turn frame t ls d) xs ys

-- a walk that counts makes room for each declaration
pub counted_room : (frame : Frame) (ls : List Local) (ds : List NotedDecl) → with_turns frame turn.Counts ls ds ≡ ls ++ replicate (length ds) nameless
counted_room frame ls [] = sym (append-nil ls)
counted_room frame ls (d ∷ ds) = counted_room frame (ls ++ nameless ∷ []) ds ∙ append_assoc ls (nameless ∷ []) (replicate (length ds) nameless)

-- one that places puts each at its number
pub placed_all : (frame : Frame) (b : Bool) (ls : List Local) (ds : List NotedDecl) → with_turns frame (turn.Places b) ls ds ≡ with_all frame b ls ds
placed_all frame b ls [] = refl
placed_all frame b ls (d ∷ ds) = placed_all frame b (with_local frame b ls d.name d) ds

-- room is made first, and then the locals are placed in it
pub made_in_room : (frame : Frame) (b : Bool) (ds : List NotedDecl) → with_turns frame (turn.Places b) (with_turns frame turn.Counts [] ds) ds ≡ all_made frame b ds
made_in_room frame b ds = placed_all frame b (with_turns frame turn.Counts [] ds) ds ∙ ap (λ ls. with_all frame b ls ds) (counted_room frame [] ds)

-- what is put behind the end changes nothing
pub past_end : (ls : List Local) (k : ℕ) (l : Local) → length ls ≤ k → set ls k l ≡ ls
past_end [] k l h = refl
past_end (x ∷ ls) zero l h = absurd (omega (arith, h))
past_end (x ∷ ls) (suc k) l h = ap (λ xs. x ∷ xs) (past_end ls k l (omega (arith, h)))

pub local_length : (frame : Frame) (b : Bool) (ls : List Local) (n : Name) (d : NotedDecl) → length (with_local frame b ls n d) ≡ length ls
local_length frame b ls (name.Local k) d = length-set ls k (local_made frame b k d)
local_length frame b ls (name.Static k) d = refl
local_length frame b ls (name.Function k) d = refl
local_length frame b ls (name.Tag k) d = refl
local_length frame b ls (name.Member k) d = refl
local_length frame b ls name.Getchar d = refl
local_length frame b ls name.Putchar d = refl

pub all_length : (frame : Frame) (b : Bool) (ls : List Local) (ds : List NotedDecl) → length (with_all frame b ls ds) ≡ length ls
all_length frame b ls [] = refl
all_length frame b ls (d ∷ ds) = all_length frame b (with_local frame b ls d.name d) ds ∙ local_length frame b ls d.name d

-- there are as many locals as declarations
pub all_made_length : (frame : Frame) (b : Bool) (ds : List NotedDecl) → length (all_made frame b ds) ≡ length ds
all_made_length frame b ds = all_length frame b (replicate (length ds) nameless) ds ∙ length-replicate (length ds) nameless

module _ {X A : Type 0} (f : X → Outcome A) (xs : List X) (i : ℕ) (x : X) (h : i < length xs) (e : x ≡ get_or xs i x) where
  each_turn : each (map f (drop i xs)) ≡ bind (f x) (λ a. each (map f (drop (i + 1) xs)))
  each_turn = rw (add-one, drop-cons xs i x) (ap (λ y. bind (f y) (λ a. each (map f (drop (suc i) xs)))) (sym e))

  module _ (whole : Outcome (Unit {0})) (kept : whole ≡ each (map f (drop i xs))) where
    pub each_fault : (r : Refusal) → f x ≡ Err r → whole ≡ Err r
    each_fault r q = kept ∙ each_turn ∙ ap (λ o. bind o (λ a. each (map f (drop (i + 1) xs)))) q

    pub each_done : (a : A) → f x ≡ Ok a → whole ≡ each (map f (drop (i + 1) xs))
    each_done a q = kept ∙ each_turn ∙ ap (λ o. bind o (λ a. each (map f (drop (i + 1) xs)))) q

pub each_end : {X A : Type 0} (f : X → Outcome A) (xs : List X) (i : ℕ) (whole : Outcome (Unit {0})) → whole ≡ each (map f (drop i xs)) → length xs ≤ i → whole ≡ Ok tt
each_end f xs i whole kept h = kept ∙ ap (λ l. each (map f l)) (drop_all i xs h)

-- one more of the same after a list
pub one_more : {A : Type 0} (xs : List A) (n : ℕ) (a : A) → (xs ++ replicate n a) ++ a ∷ [] ≡ xs ++ replicate (n + 1) a
one_more xs n a = append_assoc xs (replicate n a) (a ∷ []) ∙ ap (λ ys. xs ++ ys) (replicate-append-replicate n 1 a)
