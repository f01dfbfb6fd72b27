-- Runs, instruction by instruction.
use Rattle.std.proofs.Common.{◌≡◌, ◌≢◌, inl, inr, ℕ, suc, ◌+◌, ◌-◌, ◌^◌, ◌≤◌, ◌<◌, ◌%◌, List, [], ◌∷◌, ◌++◌, length, take, drop, slice_get, Option, None, Some, refl, sym, ap, subst, ◌∙◌, arith, append_assoc, append-nil, length-append}
use Rattle.std.proofs.lemmas.Bool.{cases_lt}
use Rattle.std.proofs.Math.Seq.{take-append-add}
use Rattle.std.proofs.lemmas.Grind.{flat_map-append}
use Rattle.ckc_base.specs.Traces.{Event, Got, Put, Standing, Showing, output, put_byte}
use Rattle.ckc_base.specs.Traces as standings
use Rattle.ckc_base.specs.Steps.{Goes, Halts}
use Rattle.ckc_outside.specs.Outside.{one_more}
use Rattle.ckc_outside.proofs.Giving.{called_none, called_get, called_put, called_both, asked_once_more, put_once_more}
use Rattle.ckc_rv.specs.Machine.{Parts, State, machine, machine_step, calls, gets, register, with_register, next_with}
use Rattle.ckc_rv.specs.Effects.{following}
use Rattle.ckc_machine.specs.declared.observed.Observed.{Observed}
use Rattle.ckc_machine.specs.declared.observed.Observed.TheVariants.{Ended, Stopped, Going, Fault, ReadFault, WriteFault}
use Rattle.ckc_machine.specs.declared.machine.Machine.{Machine}
use Rattle.ckc_machine.specs.Points.{state_at, since, taken}
use Rattle.ckc_machine.specs.Runs.{Says, answer_of, state_of, IsAt, AsksFor, AsksNothing, ArePuts, Called, Printed, PrintedFront, Took, Arrives, FailsToGet, FailsToPut, Runs}
use Rattle.ckc_machine.specs.code.Runs.{IsFed}
use Rattle.ckc_machine.proofs.Turning.{asks_step}
use Rattle.ckc_machine.proofs.Points.{goes_on, halts_then, next_goes, next_halts, stays, halted, going_or_not, since_self, since_joins, since_goes, since_halts, since_stays, takes}

-- ---- answers

-- an answer other than Going says that the machine has halted
says_halted : (answer : Observed) (standing : Standing) → Says answer standing → answer ≢ Going → standing ≢ standings.Going
says_halted (Ended value) standing e h f = cc
says_halted (Stopped check at) standing e h f = cc
says_halted Going standing e h f = h refl
says_halted (Fault kind pc) standing e h f = cc
says_halted ReadFault standing e h f = e
says_halted WriteFault standing e h f = e

-- ---- what was put

pub printed_none : (written : Option (List ℕ)) → Printed written written []
printed_none written = λ before e. e ∙ ap Some (sym (append-nil before))

printed_more : (old mid new : Option (List ℕ)) (a b : List ℕ) → Printed old mid a → Printed mid new b → Printed old new (a ++ b)
printed_more old mid new a b p q = λ before e. q (before ++ a) (p before e) ∙ ap Some (append_assoc before a b)

front_more : (old mid new : Option (List ℕ)) (least : ℕ) (a b : List ℕ) → Printed old mid a → PrintedFront mid new least b → PrintedFront old new (length a + least) (a ++ b)
front_more old mid new least a b p q = λ before e.
    let r = q (before ++ a) (p before e) in
    (length a + r.0, omega (arith, r.1), r.2 ∙ ap Some (append_assoc before a (take r.0 b)) ∙ ap (λ l. Some (before ++ l)) (sym (take-append-add a b r.0)))

output_joins : (parts : Parts) (input : List ℕ) (k j l : ℕ) → k ≤ j → j ≤ l → output (since parts input k l) ≡ output (since parts input k j) ++ output (since parts input j l)
output_joins parts input k j l h m = ap output (since_joins parts input k j l h m) ∙ flat_map-append put_byte (since parts input k j) (since parts input j l)

-- ---- what was taken

took_between : (parts : Parts) (input : List ℕ) (k d : ℕ) (left left' : Option (List ℕ)) → left ≡ Some (state_at parts input k).input → left' ≡ Some (state_at parts input (k + d)).input
    → Took left left' (taken (since parts input k (k + d)))
took_between parts input k d left left' e f = λ before g.
    let same : before ≡ (state_at parts input k).input = (let q : ◌≡◌ {A = Option (List ℕ)} (Some before) (Some (state_at parts input k).input) = sym g ∙ e in cc) in
    ((state_at parts input (k + d)).input, f, same ∙ takes parts input d k)

-- ---- environment calls

calls_put : (s : State) → register s 17 ≡ 1 → calls s ≡ Goes (Put (register s 10 % 256) ∷ []) (next_with s 0 0)
calls_put s e = rw e refl

calls_get : (s : State) → register s 17 ≡ 2 → calls s ≡ gets s s.input
calls_get s e = rw e refl

-- what x10 gets
abbrev pub got_word : Option ℕ → ℕ
got_word None = 2 ^ 32 - 1
got_word (Some byte) = byte

-- ---- one instruction

module _ (parts : Parts) (input : List ℕ) (k : ℕ) (m m' : Machine) (left left' written written' : Option (List ℕ)) (asks asks' puts puts' : ℕ) where
  abbrev rest : List ℕ
  rest = (state_at parts input k).input

  abbrev arrives_at : ℕ → Type 0
  arrives_at j = IsAt parts input j m' left' × Printed written written' (output (since parts input k j)) × Called (since parts input k j) asks asks' puts puts'

  arrives_one : arrives_at (suc k) → left ≡ Some rest → Arrives parts input k 1 m' left left' written written' asks asks' puts puts'
  arrives_one p e =
      let one : suc k ≡ k + 1 = omega arith in
      let q = subst arrives_at one p in
      record { at = q.0; put = q.1; took = took_between parts input k 1 left left' e q.0.rest; called = q.2 }

  stands_going : IsAt parts input k m left → answer_of m ≡ Going → (machine parts input k).standing ≡ standings.Going
  stands_going is g = subst (λ (a : Observed). Says a (machine parts input k).standing) g is.answer

  -- the machine goes on to a state
  pub arrives_going : (events : List Event) (next : State) → IsAt parts input k m left → answer_of m ≡ Going → machine_step parts (state_of m rest) ≡ Goes events next
      → m'.memory.code.now ≡ m.memory.code.now → state_of m' next.input ≡ next → answer_of m' ≡ Going → left' ≡ Some next.input → Printed written written' (output events) → Called events asks asks' puts puts'
      → Arrives parts input k 1 m' left left' written written' asks asks' puts puts'
  arrives_going events next is g step code state answer left_is put called =
      let standing = stands_going is g in
      let here : machine_step parts (state_at parts input k) ≡ Goes events next = ap (machine_step parts) (sym is.state) ∙ step in
      let there = next_goes parts input k events next here in
      let shows = goes_on parts input k events next standing here in
      let all = subst (λ (e : List Event). Printed written written' (output e) × Called e asks asks' puts puts') (sym (since_goes parts input k events next standing here)) (put, called) in
      arrives_one (
        record {
          code = code ∙ is.code;
          state = subst (λ (s : State). state_of m' s.input ≡ s) (sym there) state;
          answer = subst (λ (a : Observed). Says a (machine parts input (suc k)).standing) (sym answer) (ap (λ (a : Showing Event). a.standing) shows);
          rest = left_is ∙ ap (λ (s : State). Some s.input) (sym there);
        },
        all.0,
        all.1,
      ) is.rest

  -- the machine halts
  pub arrives_halting : (answer : Observed) (standing : Standing) → IsAt parts input k m left → answer_of m ≡ Going → machine_step parts (state_of m rest) ≡ Halts [] standing → Says answer standing
      → m'.memory.code.now ≡ m.memory.code.now → state_of m' rest ≡ state_of m rest → answer_of m' ≡ answer → left' ≡ left → written' ≡ written → asks' ≡ asks → puts' ≡ puts
      → Arrives parts input k 1 m' left left' written written' asks asks' puts puts'
  arrives_halting answer standing is g step says code state answer_is left_is written_is asks_is puts_is =
      let going = stands_going is g in
      let here : machine_step parts (state_at parts input k) ≡ Halts [] standing = ap (machine_step parts) (sym is.state) ∙ step in
      let there = next_halts parts input k [] standing here in
      let shows = halts_then parts input k [] standing going here in
      let none : Printed written written' [] = subst (λ (w : Option (List ℕ)). Printed written w []) (sym written_is) (printed_none written) in
      let all = subst (λ (e : List Event). Printed written written' (output e) × Called e asks asks' puts puts') (sym (since_halts parts input k standing going here)) (none, called_none asks asks' puts puts' asks_is puts_is) in
      arrives_one (
        record {
          code = code ∙ is.code;
          state = subst (λ (s : State). state_of m' s.input ≡ s) (sym there) (state ∙ is.state);
          answer = subst (λ (a : Observed). Says a (machine parts input (suc k)).standing) (sym answer_is) (subst (Says answer) (sym (ap (λ (a : Showing Event). a.standing) shows)) says);
          rest = left_is ∙ is.rest ∙ ap (λ (s : State). Some s.input) (sym there);
        },
        all.0,
        all.1,
      ) is.rest

  -- ---- environment calls

  abbrev here : State
  here = state_of m rest

  asked : (call : ℕ) → IsAt parts input k m left → AsksFor parts (state_at parts input k) call → AsksFor parts here call
  asked call is asks = subst (λ (s : State). AsksFor parts s call) (sym is.state) asks

  puts_step : IsAt parts input k m left → AsksFor parts (state_at parts input k) 1 → (byte : ℕ) → byte ≡ register here 10 % 256 → machine_step parts here ≡ Goes (Put byte ∷ []) (next_with here 0 0)
  puts_step is asks byte e =
      let a = asked 1 is asks in
      asks_step parts here 1 a ∙ calls_put here a.number ∙ ap (λ b. Goes (Put b ∷ []) (next_with here 0 0)) (sym e)

  gets_step : IsAt parts input k m left → AsksFor parts (state_at parts input k) 2 → machine_step parts here ≡ gets here rest
  gets_step is asks =
      let a = asked 2 is asks in
      asks_step parts here 2 a ∙ calls_get here a.number

  pub arrives_putting : (byte : ℕ) → IsAt parts input k m left → answer_of m ≡ Going → AsksFor parts (state_at parts input k) 1 → byte ≡ register here 10 % 256
      → m'.memory.code.now ≡ m.memory.code.now → state_of m' rest ≡ next_with here 0 0 → answer_of m' ≡ Going → left' ≡ left → Printed written written' (byte ∷ []) → asks' ≡ asks → puts' ≡ one_more puts
      → Arrives parts input k 1 m' left left' written written' asks asks' puts puts'
  arrives_putting byte is g call e code state answer left_is put asks_is puts_is =
      arrives_going (Put byte ∷ []) (next_with here 0 0) is g (puts_step is call byte e) code state answer (left_is ∙ is.rest) put (called_put asks asks' puts puts' byte asks_is puts_is)

  pub fails_putting : (byte : ℕ) → IsAt parts input k m left → answer_of m ≡ Going → AsksFor parts (state_at parts input k) 1 → byte ≡ register here 10 % 256
      → PrintedFront written written' 0 (byte ∷ []) → asks' ≡ asks → puts' ≡ one_more puts → FailsToPut parts input k 1 left written written' asks asks' puts puts'
  fails_putting byte is g call e put asks_is puts_is =
      let step = ap (machine_step parts) (sym is.state) ∙ puts_step is call byte e in
      record {
        step = k;
        from = omega arith;
        below = omega arith;
        next = call;
        called = subst (λ (t : List Event). Called t asks asks' (one_more puts) puts') (sym (since_self parts input k)) (called_none asks asks' (one_more puts) puts' asks_is puts_is);
        put =
            subst (λ (t : List Event). PrintedFront written written' (length (output t)) (output (since parts input k (suc k)))) (sym (since_self parts input k))
            (subst (λ (t : List Event). PrintedFront written written' 0 (output t)) (sym (since_goes parts input k (Put byte ∷ []) (next_with here 0 0) (stands_going is g) step)) put);
        rest = is.rest;
      }

  -- the state that a byte, or the end, leads to
  abbrev pub with_given : Option ℕ → List ℕ → State
  with_given given rest' = record here { x = with_register here.x 10 (got_word given); pc = following here.pc; input = rest' }

  given_step : (given : Option ℕ) (rest' : List ℕ) → rest' ≡ rest → given ≡ slice_get rest' 0 → gets here rest ≡ Goes (Got given ∷ []) (with_given given (drop 1 rest'))
  given_step given [] e f =
      ap (gets here) (sym e) ∙ ap (λ (o : Option ℕ). Goes (Got o ∷ []) (with_given o rest)) (sym f) ∙ ap (λ (l : List ℕ). Goes (Got given ∷ []) (with_given given l)) (sym e)
  given_step given (byte ∷ rest') e f = ap (gets here) (sym e) ∙ ap (λ (o : Option ℕ). Goes (Got o ∷ []) (with_given o rest')) (sym f)

  pub arrives_getting : (given : Option ℕ) → IsAt parts input k m left → answer_of m ≡ Going → AsksFor parts (state_at parts input k) 2 → given ≡ slice_get rest 0
      → m'.memory.code.now ≡ m.memory.code.now → ((l : List ℕ) → state_of m' l ≡ with_given given l) → answer_of m' ≡ Going → left' ≡ Some (drop 1 rest) → written' ≡ written → asks' ≡ one_more asks → puts' ≡ puts
      → Arrives parts input k 1 m' left left' written written' asks asks' puts puts'
  arrives_getting given is g call f code state answer left_is written_is asks_is puts_is =
      arrives_going (Got given ∷ []) (with_given given (drop 1 rest)) is g (gets_step is call ∙ given_step given rest refl f) code (state (drop 1 rest)) answer left_is
      (subst (λ (w : Option (List ℕ)). Printed written w []) (sym written_is) (printed_none written)) (called_get asks asks' puts puts' given asks_is puts_is)

  pub fails_getting : IsAt parts input k m left → AsksFor parts (state_at parts input k) 2 → left' ≡ Some rest → asks' ≡ one_more asks → puts' ≡ puts
      → FailsToGet parts input k 1 left' written written asks asks' puts puts'
  fails_getting is call left_is asks_is puts_is = record {
    step = k;
    from = omega arith;
    below = omega arith;
    next = call;
    called = subst (λ (t : List Event). Called t (one_more asks) asks' puts puts') (sym (since_self parts input k)) (called_none (one_more asks) asks' puts puts' asks_is puts_is);
    put = subst (λ (t : List Event). Printed written written (output t)) (sym (since_self parts input k)) (printed_none written);
    rest = left_is;
  }

-- ---- runs

module _ (parts : Parts) (input : List ℕ) (k limit : ℕ) (m : Machine) (left left' written written' : Option (List ℕ)) (asks asks' puts puts' : ℕ) where
  -- what arrives is a run, by an answer that says how the machine stands
  pub runs_arriving : (answer : Observed) (standing : Standing) → Says answer standing → Arrives parts input k limit m left left' written written' asks asks' puts puts' → Runs parts input k limit m left left' written written' asks asks' puts puts' answer
  runs_arriving (Ended value) standing says a = a
  runs_arriving (Stopped check at) standing says a = a
  runs_arriving Going standing says a = a
  runs_arriving (Fault kind pc) standing says a = a
  runs_arriving ReadFault standing says a = absurd says
  runs_arriving WriteFault standing says a = absurd says

-- ---- one instruction after others

module _ (parts : Parts) (input : List ℕ) (k i limit : ℕ) (m m' : Machine) (left mid left' written midway written' : Option (List ℕ)) (asks asked asks' puts more puts' : ℕ)
    (left_is : left ≡ Some (state_at parts input k).input) (before : Arrives parts input k i m left mid written midway asks asked puts more) (below : i < limit) where
  -- the calls of the first part and of another one
  first_then : (j : ℕ) → k + i ≤ j → (a b c x y z : ℕ) → Called (since parts input k (k + i)) a b x y → Called (since parts input (k + i) j) b c y z → Called (since parts input k j) a c x z
  first_then j h a b c x y z p q =
      subst (λ (t : List Event). Called t a c x z) (sym (since_joins parts input k (k + i) j (omega arith) h))
      (called_both (since parts input k (k + i)) (since parts input (k + i) j) a b c x y z p q)

  then_arrives : (d : ℕ) → Arrives parts input (k + i) d m' mid left' midway written' asked asks' more puts' → Arrives parts input k (i + d) m' left left' written written' asks asks' puts puts'
  then_arrives d one =
      let e : k + i + d ≡ k + (i + d) = omega arith in
      record {
        at = subst (λ j. IsAt parts input j m' left') e one.at;
        put = subst (λ j. Printed written written' (output (since parts input k j))) e
            (subst (Printed written written') (sym (output_joins parts input k (k + i) (k + i + d) (omega arith) (omega arith))) (printed_more written midway written' _ _ before.put one.put));
        took = took_between parts input k (i + d) left left' left_is (subst (λ j. left' ≡ Some (state_at parts input j).input) e one.at.rest);
        called = subst (λ j. Called (since parts input k j) asks asks' puts puts') e (first_then (k + i + d) (omega arith) asks asked asks' puts more puts' before.called one.called);
      }

  pub then_going : answer_of m' ≡ Going → Runs parts input (k + i) 1 m' mid left' midway written' asked asks' more puts' Going → Arrives parts input k (i + 1) m' left left' written written' asks asks' puts puts'
  then_going g one = then_arrives 1 one

  -- what has halted is there at the limit
  then_stays : (answer : Observed) (j : ℕ) → j ≤ limit → Arrives parts input k j m' left left' written written' asks asks' puts puts' → answer_of m' ≡ answer → answer ≢ Going → Arrives parts input k limit m' left left' written written' asks asks' puts puts'
  then_stays answer j h one e n =
      let d = limit - j in
      let to : k + j + d ≡ k + limit = omega arith in
      let halted : (machine parts input (k + j)).standing ≢ standings.Going = says_halted (answer_of m') (machine parts input (k + j)).standing one.at.answer (λ f. n (sym e ∙ f)) in
      let still = stays parts input d (k + j) halted in
      let none : since parts input (k + j) (k + j + d) ≡ [] = since_stays parts input (k + j) d halted in
      let at : IsAt parts input (k + j + d) m' left' = record {
        code = one.at.code;
        state = subst (λ (s : State). state_of m' s.input ≡ s) (sym still.1) one.at.state;
        answer = subst (λ (a : Showing Event). Says (answer_of m') a.standing) (sym still.0) one.at.answer;
        rest = one.at.rest ∙ ap (λ (s : State). Some s.input) (sym still.1);
      } in
      let all : since parts input k (k + j) ≡ since parts input k (k + j + d) =
      sym (since_joins parts input k (k + j) (k + j + d) (omega arith) (omega arith) ∙ ap (λ t. since parts input k (k + j) ++ t) none ∙ append-nil _) in
      record {
        at = subst (λ l. IsAt parts input l m' left') to at;
        put = subst (λ l. Printed written written' (output (since parts input k l))) to (subst (λ (t : List Event). Printed written written' (output t)) all one.put);
        took = took_between parts input k limit left left' left_is (subst (λ l. IsAt parts input l m' left') to at).rest;
        called = subst (λ l. Called (since parts input k l) asks asks' puts puts') to (subst (λ (t : List Event). Called t asks asks' puts puts') all one.called);
      }

  then_halted : (answer : Observed) → Arrives parts input (k + i) 1 m' mid left' midway written' asked asks' more puts' → answer_of m' ≡ answer → answer ≢ Going → Arrives parts input k limit m' left left' written written' asks asks' puts puts'
  then_halted answer one e n = then_stays answer (i + 1) (omega arith) (then_arrives 1 one) e n

  pub then_ends : (answer : Observed) → answer_of m' ≡ answer → answer ≢ Going → Runs parts input (k + i) 1 m' mid left' midway written' asked asks' more puts' answer
      → Runs parts input k limit m' left left' written written' asks asks' puts puts' answer
  then_ends (Ended value) e n one = then_halted (Ended value) one e n
  then_ends (Stopped check at) e n one = then_halted (Stopped check at) one e n
  then_ends Going e n one = absurd (n refl)
  then_ends (Fault kind pc) e n one = then_halted (Fault kind pc) one e n
  then_ends ReadFault e n one = record {
    step = one.step;
    from = omega (arith, one.from);
    below = omega (arith, one.below);
    next = one.next;
    called = first_then one.step one.from (one_more asks) (one_more asked) asks' puts more puts' (asked_once_more (since parts input k (k + i)) asks asked puts more before.called) one.called;
    put = subst (Printed written written') (sym (output_joins parts input k (k + i) one.step (omega arith) one.from)) (printed_more written midway written' _ _ before.put one.put);
    rest = one.rest;
  }
  then_ends WriteFault e n one = record {
    step = one.step;
    from = omega (arith, one.from);
    below = omega (arith, one.below);
    next = one.next;
    called = first_then one.step one.from asks asked asks' (one_more puts) (one_more more) puts' (put_once_more (since parts input k (k + i)) asks asked puts more before.called) one.called;
    put =
        let first = output (since parts input k (k + i)) in
        let then = output (since parts input (k + i) one.step) in
        let sum : length first + length then ≡ length (output (since parts input k one.step)) = sym (ap length (output_joins parts input k (k + i) one.step (omega arith) one.from) ∙ length-append first then) in
        subst (λ n. PrintedFront written written' n (output (since parts input k (suc one.step)))) sum
        (subst (PrintedFront written written' (length first + length then)) (sym (output_joins parts input k (k + i) (suc one.step) (omega arith) (omega (arith, one.from))))
        (front_more written midway written' (length then) first (output (since parts input (k + i) (suc one.step))) before.put one.put));
    rest = one.rest;
  }

-- no instruction
pub arrives_none : (parts : Parts) (input : List ℕ) (k : ℕ) (m : Machine) (left written : Option (List ℕ)) (asks puts : ℕ) → IsAt parts input k m left → Arrives parts input k 0 m left left written written asks asks puts puts
arrives_none parts input k m left written asks puts is =
    let e : k ≡ k + 0 = omega arith in
    let at = subst (λ j. IsAt parts input j m left) e is in
    record {
      at = at;
      put = subst (λ j. Printed written written (output (since parts input k j))) e (subst (λ (t : List Event). Printed written written (output t)) (sym (since_self parts input k)) (printed_none written));
      took = took_between parts input k 0 left left is.rest at.rest;
      called = subst (λ j. Called (since parts input k j) asks asks puts puts) e (subst (λ (t : List Event). Called t asks asks puts puts) (sym (since_self parts input k)) (called_none asks asks puts puts refl refl));
    }

-- a machine that has answered other than Going
pub settled : (parts : Parts) (input : List ℕ) (k limit : ℕ) (m : Machine) (left written : Option (List ℕ)) (asks puts : ℕ) → IsAt parts input k m left → answer_of m ≢ Going
    → Runs parts input k limit m left left written written asks asks puts puts (answer_of m)
settled parts input k limit m left written asks puts is n =
    runs_arriving parts input k limit m left left written written asks asks puts puts (answer_of m) (machine parts input k).standing is.answer
    (elim (cases_lt 0 limit) as (λ _. Arrives parts input k limit m left left written written asks asks puts puts) [
      | inl h ↦ then_stays parts input k 0 limit m m left left left written written written asks asks asks puts puts puts is.rest (arrives_none parts input k m left written asks puts is) h
          (answer_of m) 0 (omega arith) (arrives_none parts input k m left written asks puts is) refl n
      | inr h ↦
          let e : 0 ≡ limit = omega arith in
          subst (λ j. Arrives parts input k j m left left written written asks asks puts puts) e (arrives_none parts input k m left written asks puts is)
    ])

-- a run by one instruction to a machine that goes on
pub runs_going : (parts : Parts) (input : List ℕ) (k : ℕ) (m : Machine) (left left' written written' : Option (List ℕ)) (asks asks' puts puts' : ℕ) → answer_of m ≡ Going
    → Arrives parts input k 1 m left left' written written' asks asks' puts puts' → Runs parts input k 1 m left left' written written' asks asks' puts puts' (answer_of m)
runs_going parts input k m left left' written written' asks asks' puts puts' e a =
    subst (λ (o : Observed). Runs parts input k 1 m left left' written written' asks asks' puts puts' o) (sym e) a

-- what is left stays if the source stays
pub fed_same : (told : Option (List ℕ)) (silent : Type 0) (left left' : Option (List ℕ)) → IsFed told told silent left left' → left' ≡ left
fed_same told silent left left' (inl f) = f.1 ∙ sym f.0
fed_same told silent left left' (inr f) = f.1

-- ---- instructions that ask for nothing

no_got_inside : (before after : List Event) (given : Option ℕ) → ArePuts (before ++ (Got given ∷ after)) → ⊥
no_got_inside [] after given p = p
no_got_inside (Put byte ∷ before) after given p = no_got_inside before after given p
no_got_inside (Got byte ∷ before) after given p = p

gets_some : (parts : Parts) (s : State) (left : List ℕ) → machine_step parts s ≡ gets s left → (given : Option ℕ) × (next : State) × (machine_step parts s ≡ Goes (Got given ∷ []) next)
gets_some parts s [] e = (None, next_with s 10 (2 ^ 32 - 1), e)
gets_some parts s (byte ∷ left) e = (Some byte, record (next_with s 10 byte) { input = left }, e)

goes_is_no_halt : {other : List Event} {standing : Standing} (es : List Event) (next : State) → Goes es next ≡ Halts other standing → ⊥
goes_is_no_halt es next e = cc

-- what asks for a byte gets the byte or the end
asks_gets : (parts : Parts) (s : State) → AsksFor parts s 2 → (given : Option ℕ) × (next : State) × (machine_step parts s ≡ Goes (Got given ∷ []) next)
asks_gets parts s asks =
    let e = asks_step parts s 2 asks ∙ calls_get s asks.number in
    gets_some parts s s.input e

pub puts_are_silent : (parts : Parts) (input : List ℕ) (k limit : ℕ) → ArePuts (since parts input k (k + limit)) → AsksNothing parts input k limit
puts_are_silent parts input k limit puts j h l asks =
    let p = asks_gets parts (state_at parts input j) asks in
    elim (going_or_not (machine parts input j).standing) [
      | inl g ↦
          let here = since_goes parts input j (Got p.0 ∷ []) p.1 g p.2 in
          let rest = since parts input (suc j) (k + limit) in
          let split : since parts input k (k + limit) ≡ since parts input k j ++ (Got p.0 ∷ rest) =
          since_joins parts input k j (k + limit) h (omega arith)
          ∙ ap (λ t. since parts input k j ++ t) (since_joins parts input j (suc j) (k + limit) (omega arith) (omega arith))
          ∙ ap (λ t. since parts input k j ++ (t ++ rest)) here in
          no_got_inside (since parts input k j) rest p.0 (subst ArePuts split puts)
      | inr n ↦ goes_is_no_halt (Got p.0 ∷ []) p.1 (sym p.2 ∙ (halted parts input j n).2)
    ]
