-- How states of a source program and of its core code are related.
use Rattle.std.proofs.Common.{◌≡◌, ◌⊎◌, ℕ, suc, ◌+◌, ◌≤◌, List, [], ◌∷◌, length, refl, ap}
use Rattle.std.specs.Prelude.{Bool, IsTrue, IfSome}
use Rattle.ckc_base.specs.Actions.{World}
use Rattle.ckc_base.specs.LongEvents.{LongEvent, Stored, plain_events}
use Rattle.ckc_base.proofs.Simulating.{Near}
use Rattle.ckc_source.specs.declared.stmt.Spot.{Spot}
use Rattle.ckc_source.specs.Blocks.{lies_in}
use Rattle.ckc_source.specs.Code as source
use Rattle.ckc_source.specs.LaidOut.{AreBytes}
use Rattle.ckc_source.specs.States.{Work, Rest, Turn}
use Rattle.ckc_source.specs.States as S
use Rattle.ckc_core.specs.Code.{Code, End, If, Break, Function}
use Rattle.ckc_core.specs.Meaning.{Stop, Next, Body, Step, core_system}
use Rattle.ckc_core.specs.Meaning as C
use Rattle.ckc_checks_operands.specs.Compilable.{IsCompilableCode, IsCompilableKept, code_nodes}
use Rattle.ckc_checks_operands.specs.code.Operands.{operand}
use Rattle.ckc_checks_follow.specs.code.Inserted.{operand_code, statements, result_in, result_kept}
use Rattle.ckc_checks_follow.specs.Stores.{IsHeapWord, AreLevel}
use Rattle.ckc_checks_follow.proofs.Flat.{SameMemory}
use Rattle.ckc_checks_follow.proofs.Values.{Agree}
use Rattle.ckc_checks_follow.proofs.Bounded.{AreSmall}

-- the heap word is stored, or a place in a block
abbrev pub MayLie : S.State → LongEvent → Type 0
MayLie s (Stored at width value) = IsHeapWord at width ⊎ IsTrue (lies_in width at s.blocks)
MayLie s event = Unit {0}

-- one turn of a loop: its condition, and its body
abbrev pub turn_code : ℕ → source.Expr → source.Code → Code
turn_code t e body = operand_code e t (If (operand e t) End (Break End) (statements t body))

module _ (functions : List source.Function) where
  -- statements that can be compiled, in front of so many lists of them, which are small together
  pub record Stands (t : ℕ) (looped : Bool) (behind : ℕ) (code : source.Code) : Type 0 where
    pub form : IsCompilableCode functions t looped code
    pub few : code_nodes code + behind ≤ 6000

  -- the code is a loop, and its parts in core code are these
  abbrev pub IsLoop : ℕ → source.Code → (body step rest : Code) → Type 0
  IsLoop t code b s r =
      (spot : Spot) × (e : source.Expr) × (body step rest : source.Code) × (code ≡ source.Loop spot e body step rest)
      × (b ≡ turn_code t e body) × (s ≡ statements t step) × (r ≡ statements t rest)

  -- What comes after the statements that run is the same in both. The flag says that they stand in the body of a loop.
  abbrev pub Behind : ℕ → Bool → List Work → C.Rest → Type 0
  Behind t looped [] Stop = IsTrue looped → ⊥
  Behind t looped (Rest code ∷ work) (Next c after) =
      (c ≡ statements t code) × Stands t looped (length work) code × Behind t looped work after
  Behind t looped (Rest code ∷ work) (Step b s c after) =
      (IsTrue looped → ⊥) × (around : Bool) × IsLoop t code b s c × Stands t around (length work) code × Behind t around work after
  Behind t looped (Turn code ∷ work) (Body b s c after) =
      (around : Bool) × IsLoop t code b s c × Stands t around (length work) code × Behind t around work after
  Behind t looped _ _ = ⊥

  -- the loop in front is at a later turn
  abbrev pub IsTurning : ℕ → Bool → source.Code → List Work → Code → C.Rest → Type 0
  IsTurning t looped code work c rest =
      (s r : Code) × (after : C.Rest) × (rest ≡ Body c s r after) × IsLoop t code c s r × Behind t looped work after

  -- What comes next, if ended lists are gone, is the same in both.
  abbrev pub Front : ℕ → List Work → Code → C.Rest → Type 0
  Front t [] c rest = (c ≡ End) × (rest ≡ Stop)
  Front t (Rest code ∷ work) c rest =
      (looped : Bool) × Stands t looped (length work) code
      × (((c ≡ statements t code) × Behind t looped work rest) ⊎ IsTurning t looped code work c rest)
  Front t (Turn code ∷ work) c rest = Unit {0}

  -- a call of the source and the same call of core code, which is at what front puts in front of its statements
  pub record SameFrame (front : Code → Code) (f : S.Frame) (g : C.Frame) : Type 0 where
    pub code : source.Code
    pub work : List Work
    pub looped : Bool
    pub next : f.work ≡ Rest code ∷ work
    pub stands : Stands f.function.locals looped (length work) code
    pub begins : g.code ≡ front (statements f.function.locals code)
    pub behind : Behind f.function.locals looped work g.rest
    pub count : length f.locals ≡ f.function.locals
    pub agree : Agree f.function.locals f.locals g.locals
    pub small : AreSmall f.locals

  -- a call that waits keeps the result of the other one first
  pub record SameCaller (c : S.Caller) (d : C.Caller) : Type 0 where
    pub frame : SameFrame (result_kept c.target c.frame.function.locals) c.frame d.frame
    pub target : d.target ≡ result_in c.target c.frame.function.locals
    pub keeps : IfSome c.target (IsCompilableKept c.frame.function.locals)

  abbrev pub SameCallers : List S.Caller → List C.Caller → Type 0
  SameCallers [] [] = Unit {0}
  SameCallers [] (d ∷ ds) = ⊥
  SameCallers (c ∷ cs) [] = ⊥
  SameCallers (c ∷ cs) (d ∷ ds) = SameCaller c d × SameCallers cs ds

  -- the memory has the blocks, and the same bytes are left of the input
  pub record SameWorld (s : S.State) (world : World) : Type 0 where
    pub memory : SameMemory s.blocks s.next world.memory
    pub input : s.input ≡ world.input
    pub bytes : AreBytes s.input

  pub record SameState (s : S.State) (u : C.State) : Type 0 where
    pub frame : SameFrame (λ c. c) s.frame u.frame
    pub callers : SameCallers s.callers u.callers
    pub world : SameWorld s u.world

  -- Core code comes to the same state in a few steps of which nothing is seen: at the entry of a function it sets
  -- locals, and after a call it may store the result in a block.
  abbrev pub Related : List Function → S.State → C.State → Type 0
  Related core s u = Near (core_system core) plain_events MayLie AreLevel SameState 512 s u

  same_count : (cs : List S.Caller) (ds : List C.Caller) → SameCallers cs ds → length cs ≡ length ds
  same_count [] [] h = refl
  same_count [] (d ∷ ds) h = absurd h
  same_count (c ∷ cs) [] h = absurd h
  same_count (c ∷ cs) (d ∷ ds) h = ap suc (same_count cs ds h.1)

  pub same_level : (s : S.State) (u : C.State) → SameCallers s.callers u.callers → AreLevel s u
  same_level s u h = ap (λ n. n + 1) (same_count s.callers u.callers h)
