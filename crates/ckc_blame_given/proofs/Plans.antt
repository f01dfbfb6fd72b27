-- What is planned leaves a state as it is but for blocks that it makes.
use Rattle.std.proofs.Common.{◌≡◌, refl, sym, ap, subst, ◌∙◌, ℕ, Bool, true, false, List, [], ◌∷◌, ◌++◌, append_assoc}
use Rattle.std.specs.Prelude.{if◌then◌else◌, Result, Ok}
use Rattle.std.proofs.lemmas.List.{append-nil}
use Rattle.ckc_base.specs.Memory.{heap_has_room, next_place}
use Rattle.ckc_source.specs.declared.expr.Pointee.{Pointee}
use Rattle.ckc_source.specs.declared.outcome.Halt.{Halt}
use Rattle.ckc_source.specs.declared.outcome.Place.{Place}
use Rattle.ckc_source.specs.declared.outcome.Value.{Value as Given}
use Rattle.ckc_source.specs.declared.program.Shape.{Shape}
use Rattle.ckc_source.specs.Blocks.{Block, fresh}
use Rattle.ckc_source.specs.Code.{Target, Right, Value, Fresh}
use Rattle.ckc_source.specs.Eval.{given, evaluated}
use Rattle.ckc_source.specs.Runs.{is_true}
use Rattle.ckc_source.specs.States.{State}
use Rattle.ckc_source.specs.Steps.{store_of, aimed, allowed, Drawn, allocated, drawn, Planned, and_then_written, planned}
use Rattle.ckc_blame_sound.proofs.Fresh.{true_before}
use Rattle.ckc_blame_sound.proofs.Claims.{given_is}
use Rattle.ckc_blame_sound.specs.GivenValues.{StayTrue}

-- a state with other blocks, and another place for the next one
abbrev with_memory : State → List Block → ℕ → State
with_memory s blocks place = record s { blocks = blocks; next = place }

-- A state is another one with more blocks.
pub record IsGrown (s t : State) : Type 0 where
  pub same : t ≡ with_memory s t.blocks t.next
  pub more : List Block
  pub blocks : t.blocks ≡ s.blocks ++ more

unchanged : (s : State) → IsGrown s s
unchanged s = record { same = refl; more = []; blocks = sym (append-nil s.blocks) }

both_grown : (s t u : State) → IsGrown s t → IsGrown t u → IsGrown s u
both_grown s t u g h = record {
  same = h.same ∙ ap (λ (x : State). with_memory x u.blocks u.next) g.same;
  more = g.more ++ h.more;
  blocks = h.blocks ∙ ap (λ bs. bs ++ h.more) g.blocks ∙ append_assoc s.blocks g.more h.more;
}

-- what `calloc` gives if there is room, and if there is none
abbrev with_room : State → Pointee → ℕ → Drawn
with_room s to n = record { number = s.next; state = record s { blocks = s.blocks ++ fresh to s.next n ∷ []; next = next_place s.next n to.size } }

abbrev without_room : State → Drawn
without_room s = record { number = 0; state = s }

allocated_grown : (s : State) (to : Pointee) (n : ℕ) → IsGrown s (allocated s to n).state
allocated_grown s to n = by (heap_has_room s.next n to.size)
  where
    by : (b : Bool) → IsGrown s (if b then with_room s to n else without_room s).state
    by true = record { same = refl; more = fresh to s.next n ∷ []; blocks = refl }
    by false = unchanged s

drawn_grown : (shapes : List Shape) (s : State) (r : Right) (d : Drawn) → drawn shapes s r ≡ Ok d → IsGrown s d.state
drawn_grown shapes s (Value e) d h =
    let g = given_is (evaluated (store_of shapes s) e) (λ (v : Given). Ok (record { number = v.number; state = s })) d h in
    let same : record { number = g.0.number; state = s } ≡ d = cc in
    subst (λ (x : Drawn). IsGrown s x.state) same (unchanged s)
drawn_grown shapes s (Fresh to e) d h =
    let g = given_is (evaluated (store_of shapes s) e) (λ (v : Given). Ok (allocated s to v.number)) d h in
    let same : allocated s to g.0.number ≡ d = cc in
    subst (λ (x : Drawn). IsGrown s x.state) same (allocated_grown s to g.0.number)

-- one more write in front
last_grown : (s : State) (to : Place) (n : ℕ) (q p : Planned) → ◌≡◌ {A = Result Planned Halt} (Ok (and_then_written to n q)) (Ok p) → IsGrown s q.state → IsGrown s p.state
last_grown s to n q p e g = let same : and_then_written to n q ≡ p = cc in subst (λ (x : Planned). IsGrown s x.state) same g

pub planned_grown : (shapes : List Shape) (assigns : List (Target × Right)) (s : State) (p : Planned) → planned shapes s assigns ≡ Ok p → IsGrown s p.state
planned_grown shapes [] s p h =
    let same : record { writes = []; state = s } ≡ p = cc in
    subst (λ (x : Planned). IsGrown s x.state) same (unchanged s)
planned_grown shapes (a ∷ rest) s p h =
    let to = given_is (aimed (store_of shapes s) a.0) (λ (to : Place). given (drawn shapes s a.1) (λ (d : Drawn). given (allowed to d.number) (λ (to : Place).
    given (planned shapes d.state rest) (λ (p : Planned). Ok (and_then_written to d.number p))))) p h in
    let d = given_is (drawn shapes s a.1) (λ (d : Drawn). given (allowed to.0 d.number) (λ (to : Place).
    given (planned shapes d.state rest) (λ (p : Planned). Ok (and_then_written to d.number p)))) p to.2 in
    let may = given_is (allowed to.0 d.0.number) (λ (to : Place). given (planned shapes d.0.state rest) (λ (p : Planned). Ok (and_then_written to d.0.number p))) p d.2 in
    let q = given_is (planned shapes d.0.state rest) (λ (p : Planned). Ok (and_then_written may.0 d.0.number p)) p may.2 in
    last_grown s may.0 d.0.number q.0 p q.2 (both_grown s d.0.state q.0.state (drawn_grown shapes s a.1 d.0 d.1) (planned_grown shapes rest d.0.state q.0 q.1))

pub grown_stays : (shapes : List Shape) (s t : State) → IsGrown s t → StayTrue (store_of shapes s) (store_of shapes t)
grown_stays shapes s t g to n low high e = subst (λ bs. is_true shapes bs to n low high ≡ true) (sym g.blocks) (true_before shapes s.blocks g.more to n low high e)
