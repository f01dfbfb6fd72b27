-- The machine of emitted lines follows the placed code, and its stores can be listed beside it.
use Rattle.std.proofs.Common.{◌≡◌, ◌≢◌, inl, inr, ℕ, zero, suc, ◌-◌, ◌%◌, ◌^◌, ◌≤◌, ◌<◌, ◌==◌, if◌then◌else◌, Bool, true, false, List, [], ◌∷◌, ◌++◌, length, map, Option, Some, None, refl, sym, ap, subst, ◌∙◌, arith}
use Rattle.std.specs.Prelude.{All, flat_map, replicate, slice_index}
use Rattle.std.specs.List.{slice_get}
use Rattle.std.specs.Int.{byte_at}
use Rattle.std.proofs.Math.Path.{fun_ext}
use Rattle.std.proofs.Math.Nat.{zero-div}
use Rattle.std.proofs.lemmas.List.Elements.{All-get_or, All-head, All-tail}
use Rattle.std.proofs.lemmas.Grind.{flat_map-append}
use Rattle.std.proofs.lemmas.List.{get_or_past}
use Rattle.std.proofs.lemmas.Bool.{cases_lt}
use Rattle.std.proofs.lemmas.Bool.Decides.{nat_tests}
use Rattle.ckc_base.specs.Traces.{Event, Stuck, Showing, narrowed}
use Rattle.ckc_base.specs.Follows.{Follows}
use Rattle.ckc_base.specs.LongEvents.{LongEvent, Plain, Stored, Entered, Returned, plain_events, data_events}
use Rattle.ckc_base.specs.Listing.{Listing}
use Rattle.ckc_base.specs.Memory as base
use Rattle.ckc_base.proofs.Following.{follows_narrowed}
use Rattle.ckc_base.proofs.Simulating.{Near, follows_by_simulation}
use Rattle.ckc_base.proofs.Listed.{listing_by_simulation}
use Rattle.ckc_rv.specs.Machine as machine
use Rattle.ckc_rv.specs.Machine.{Parts, Memory, machine, flat, code_start, data_start, stack_start, memory_end}
use Rattle.ckc_rv.specs.Detailed.{MachineEvent, Outside, Wrote, outside_events, detailed_system, detailed_machine}
use Rattle.ckc_rv.proofs.Details.{machine_narrowed}
use Rattle.ckc_tac.specs.declared.code.TacBlock.{TacBlock}
use Rattle.ckc_tac.specs.declared.code.TacFunc.{TacFunc}
use Rattle.ckc_tac.specs.WellFormed.{IsFunctionOver, HasParams}
use Rattle.ckc_frame.specs.declared.code.Placed.{Placed}
use Rattle.ckc_frame.specs.declared.code.PlacedFunc.{PlacedFunc}
use Rattle.ckc_frame.specs.WellFormed.{IsPlacedWhole, IsWellFormed}
use Rattle.ckc_frame.specs.Meaning.{State, entry_of, entry_block, first_state, placed_detail, placed_meaning, placed_system}
use Rattle.ckc_emit.specs.Stores.{seen_events, data_store}
use Rattle.ckc_emit.specs.Promise.{FollowsPlaced, FollowsStores, ListsStores}
use Rattle.ckc_emit.proofs.Local.{Local, state_of, table_zeros, memory_of, memory_below, memory_data, memory_stack, memory_above}
use Rattle.ckc_emit.proofs.Paths.{Code}
use Rattle.ckc_emit.proofs.Regions.{region}
use Rattle.ckc_emit.proofs.Relation.{AreBytes, HasWorld}
use Rattle.ckc_emit.proofs.Frames.{Relates}
use Rattle.ckc_emit.proofs.Standing.{Stands}
use Rattle.ckc_emit.proofs.Related.{May, Beside, measure, near, most}
use Rattle.ckc_emit.proofs.Leaving.{all_at, IsWhole}
use Rattle.ckc_emit.proofs.Entering.{mapped}
use Rattle.ckc_emit.proofs.Starting.{first, starts}
use Rattle.ckc_emit.proofs.Simulation.{simulates, has_time}

-- ---- what is seen of what is seen

plain_of_data : (events : List LongEvent) → flat_map plain_events (flat_map data_events events) ≡ flat_map plain_events events
plain_of_data [] = refl
plain_of_data (Plain event ∷ events) = ap (λ es. event ∷ es) (plain_of_data events)
plain_of_data (Stored at width value ∷ events) = plain_of_data events
plain_of_data (Entered ∷ events) = plain_of_data events
plain_of_data (Returned ∷ events) = plain_of_data events

store_hidden : (inside one four : Bool) (x y : LongEvent) → flat_map plain_events (x ∷ []) ≡ [] → flat_map plain_events (y ∷ []) ≡ []
    → flat_map plain_events (if inside then (if one then x ∷ [] else if four then y ∷ [] else []) else []) ≡ []
store_hidden true true four x y e f = e
store_hidden true false true x y e f = f
store_hidden true false false x y e f = refl
store_hidden false one four x y e f = refl

plain_of_seen : (events : List MachineEvent) → flat_map plain_events (flat_map seen_events events) ≡ flat_map outside_events events
plain_of_seen [] = refl
plain_of_seen (Outside event ∷ events) = ap (λ es. event ∷ es) (plain_of_seen events)
plain_of_seen (Wrote at count value ∷ events) =
    flat_map-append plain_events (data_store at count value) (flat_map seen_events events)
    ∙ ap (λ es. es ++ flat_map plain_events (flat_map seen_events events)) (store_hidden (base.is_data at) (count == 1) (count == 4) _ _ refl refl)
    ∙ plain_of_seen events

-- ---- the first state of the machine

bytes_of : List ℕ → ℕ → ℕ
bytes_of initial q = slice_index initial (q - data_start)

no_word : ℕ → ℕ
no_word q = 0

zero_byte : (i : ℕ) → byte_at i 0 ≡ 0
zero_byte zero = refl
zero_byte (suc i) = ap (λ n. n % 256) (zero-div (256 ^ suc i))

flat_data : (parts : Parts) (q : ℕ) → length parts.code ≤ 16773120 → data_start ≤ q → q < stack_start → flat parts q ≡ Some (slice_index parts.initial (q - data_start))
unfolding flat
flat_data parts q small h k = grind (arith, nat_tests)

flat_stack : (parts : Parts) (q : ℕ) → length parts.code ≤ 16773120 → stack_start ≤ q → q < memory_end → flat parts q ≡ Some 0
unfolding flat
flat_stack parts q small h k = grind (arith, nat_tests)

flat_above : (parts : Parts) (q : ℕ) → length parts.code ≤ 16773120 → memory_end ≤ q → flat parts q ≡ None
unfolding flat
flat_above parts q small h = grind (arith, nat_tests)

flat_is : (parts : Parts) → length parts.code ≤ 16773120 → flat parts ≡ memory_of parts (bytes_of parts.initial) no_word
unfolding bytes_of no_word
flat_is parts small = fun_ext (λ q. elim (cases_lt q data_start) as (λ _. flat parts q ≡ memory_of parts (bytes_of parts.initial) no_word q) [
  | inl below ↦ sym (memory_below parts (bytes_of parts.initial) no_word q below)
  | inr a ↦ elim (cases_lt q stack_start) as (λ _. flat parts q ≡ memory_of parts (bytes_of parts.initial) no_word q) [
    | inl b ↦ flat_data parts q small a b ∙ sym (memory_data parts (bytes_of parts.initial) no_word q a b)
    | inr b ↦ elim (cases_lt q memory_end) as (λ _. flat parts q ≡ memory_of parts (bytes_of parts.initial) no_word q) [
      | inl stack ↦ flat_stack parts q small b stack ∙ ap Some (sym (zero_byte (q % 4))) ∙ sym (memory_stack parts (bytes_of parts.initial) no_word q b stack)
      | inr high ↦ flat_above parts q small high ∙ sym (memory_above parts (bytes_of parts.initial) no_word q high)
    ]
  ]
])

some_code : (functions : List PlacedFunc) (k : ℕ) → HasParams 0 (slice_get (map (λ (f : PlacedFunc). f.code) functions) k) → (g : PlacedFunc) × (slice_get functions k ≡ Some g)
some_code [] zero h = absurd h
some_code [] (suc k) h = absurd h
some_code (f ∷ fs) zero h = (f, refl)
some_code (f ∷ fs) (suc k) h = some_code fs k h

some_block : (blocks : List TacBlock) → 0 < length blocks → (block : TacBlock) × (slice_get blocks 0 ≡ Some block)
some_block [] h = absurd (omega arith)
some_block (b ∷ bs) h = (b, refl)

are_bytes : (xs : List ℕ) → All (λ b. b < 256) xs → AreBytes xs
are_bytes [] h = tt
are_bytes (x ∷ xs) h = (All-head (λ b. b < 256) x xs h, are_bytes xs (All-tail (λ b. b < 256) x xs h))

byte_small : (xs : List ℕ) (k : ℕ) → All (λ b. b < 256) xs → slice_index xs k < 256
byte_small xs k h = elim (cases_lt k (length xs)) as (λ _. slice_index xs k < 256) [
  | inl p ↦ All-get_or (λ b. b < 256) xs k 0 p h
  | inr p ↦ subst (λ b. b < 256) (sym (get_or_past xs k 0 p)) (omega arith)
]

-- ---- the theorem

module _ (p : Placed) (c : Code) (well : IsWellFormed p) (given : All (λ b. b < 256) p.initial) (small : length c.parts.code ≤ 16773120)
    (entry : c.parts.entry ≡ 0x1000) (same : c.parts.initial ≡ p.initial) (stand : Stands p.funcs c p.main) where
  abbrev functions : List PlacedFunc
  functions = p.funcs

  abbrev codes : List TacFunc
  codes = map (λ (f : PlacedFunc). f.code) functions

  abbrev parts : Parts
  parts = c.parts

  whole : IsWhole functions c p.main
  whole = record {
    stands = stand;
    over = λ index f e. all_at (IsFunctionOver codes) codes index f.code well.code.functions (mapped functions index f e);
    placed = λ index f e. all_at IsPlacedWhole functions index f well.placed e;
  }

  module _ (input : List ℕ) (bytes : All (λ b. b < 256) input) where
    abbrev begin : Local
    begin = record { x = λ r. 0; bytes = bytes_of parts.initial; words = no_word; input = input }

    first_is : state_of parts begin 0x1000 ≡ machine.first_state parts input
    first_is =
        ap (λ (x : List ℕ). let s : machine.State = record { x = x; pc = 0x1000; memory = memory_of parts (bytes_of parts.initial) no_word; input = input } in s) (sym (table_zeros 32))
        ∙ ap (λ (pc : ℕ). let s : machine.State = record { x = replicate 32 0; pc = pc; memory = memory_of parts (bytes_of parts.initial) no_word; input = input } in s) (sym entry)
        ∙ ap (λ (m : Memory). let s : machine.State = record { x = replicate 32 0; pc = parts.entry; memory = m; input = input } in s) (sym (flat_is parts small))

    first_region : base.first_memory p.initial ≡ region (bytes_of p.initial)
    unfolding base.first_memory region bytes_of
    first_region = refl

    has : HasWorld begin (record { memory = base.first_memory p.initial; input = input })
    unfolding bytes_of
    has = record {
      memory = first_region ∙ ap (λ (i : List ℕ). region (bytes_of i)) (sym same);
      input = refl;
      small = λ q. byte_small parts.initial (q - data_start) (subst (All (λ b. b < 256)) (sym same) given);
      given = are_bytes input bytes;
    }

    near_first : Near (detailed_system parts) seen_events May Beside (Relates functions c) near (first_state p input) (machine.first_state parts input)
    near_first =
        let g = some_code functions p.main well.code.main in
        let block = some_block g.0.code.blocks (whole.over p.main g.0 g.1).1 in
        let upper : first functions c p.main whole g.0 g.1 block.0 block.1 (record { memory = base.first_memory p.initial; input = input }) begin refl has ≡ first_state p input =
        ap (λ (o : Option TacBlock). let s : State = record { frame = entry_block g.0 o; callers = []; world = record { memory = base.first_memory p.initial; input = input } } in s) (sym block.1)
        ∙ ap (λ (o : Option PlacedFunc). let s : State = record { frame = entry_of o; callers = []; world = record { memory = base.first_memory p.initial; input = input } } in s) (sym g.1) in
        subst (Near (detailed_system parts) seen_events May Beside (Relates functions c) near (first_state p input)) first_is
        (subst (λ (s : State). Near (detailed_system parts) seen_events May Beside (Relates functions c) near s (state_of parts begin 0x1000)) upper
        (starts functions c p.main whole g.0 g.1 block.0 block.1 (record { memory = base.first_memory p.initial; input = input }) begin refl has))

    follows_stores : Follows (λ n. narrowed data_events (placed_detail p input n)) (λ k. narrowed seen_events (detailed_machine parts input k)) 80
    follows_stores =
        follows_by_simulation (placed_system functions) (detailed_system parts) data_events seen_events May Beside (Relates functions c) measure near most 80
        (has_time functions) (simulates functions c p.main whole) (first_state p input) (machine.first_state parts input) near_first

    upper_plain : (n : ℕ) → narrowed plain_events (narrowed data_events (placed_detail p input n)) ≡ placed_meaning p input n
    upper_plain n = ap (λ (t : List Event). let a : Showing Event = record { trace = t; standing = (placed_detail p input n).standing } in a) (plain_of_data (placed_detail p input n).trace)

    lower_plain : (k : ℕ) → narrowed plain_events (narrowed seen_events (detailed_machine parts input k)) ≡ machine parts input k
    lower_plain k =
        ap (λ (t : List Event). let a : Showing Event = record { trace = t; standing = (detailed_machine parts input k).standing } in a) (plain_of_seen (detailed_machine parts input k).trace)
        ∙ machine_narrowed parts input k

    follows_plain : Follows (placed_meaning p input) (machine parts input) 80
    follows_plain =
        let f = follows_narrowed plain_events (λ n. narrowed data_events (placed_detail p input n)) (λ k. narrowed seen_events (detailed_machine parts input k)) 80 follows_stores in
        let upper : (λ (n : ℕ). narrowed plain_events (narrowed data_events (placed_detail p input n))) ≡ placed_meaning p input = fun_ext upper_plain in
        let lower : (λ (k : ℕ). narrowed plain_events (narrowed seen_events (detailed_machine parts input k))) ≡ machine parts input = fun_ext lower_plain in
        subst (λ (a : ℕ → Showing Event). Follows a (machine parts input) 80) upper
        (subst (λ (b : ℕ → Showing Event). Follows (λ n. narrowed plain_events (narrowed data_events (placed_detail p input n))) b 80) lower f)

    lists : ((n : ℕ) → (placed_detail p input n).standing ≢ Stuck) → (k : ℕ)
        → Listing (placed_system functions) (detailed_system parts) data_events seen_events May Beside (first_state p input) (machine.first_state parts input) k
    lists safe =
        listing_by_simulation (placed_system functions) (detailed_system parts) data_events seen_events May Beside (Relates functions c) measure near most
        (simulates functions c p.main whole) (first_state p input) (machine.first_state parts input) near_first safe

  pub follows_placed : FollowsPlaced p c.parts
  follows_placed input bytes = follows_plain input bytes

  pub follows_with_stores : FollowsStores p c.parts
  follows_with_stores input bytes = follows_stores input bytes

  pub lists_stores : ListsStores p c.parts
  lists_stores input bytes = lists input bytes
