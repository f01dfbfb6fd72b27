-- The keys of the sets are equal as values exactly if `==` says so.
use Rattle.std.proofs.Common.{◌≡◌, ◌==◌, Bool, true, false, ◌&&◌, refl, ap}
use Rattle.std.proofs.lemmas.Bool.{eqb-true, eq-eqb, and_parts}
use Rattle.ckc_passes_redundant.specs.declared.table.Value.{Value}
use Rattle.ckc_passes_redundant.specs.declared.table.Value.TheVariants.{AtEntry, Word, GivenAt, Computed}
use Rattle.ckc_passes_redundant.specs.declared.table.Work.{Work}
use Rattle.ckc_passes_redundant.specs.declared.table.Look.{Look}
use Rattle.ckc_passes_redundant.specs.contracts.table.ValuePartialEq.TheImpl as value
use Rattle.ckc_passes_redundant.specs.contracts.table.WorkPartialEq.TheImpl as works
use Rattle.ckc_passes_redundant.specs.contracts.table.LookPartialEq.TheImpl as looks

same_value : (v w : Value) → value.ghosts.eq v w ≡ true → v ≡ w
same_value (AtEntry r) (AtEntry q) h = ap AtEntry (eqb-true r q h)
same_value (Word m) (Word n) h = ap Word (eqb-true m n h)
same_value (GivenAt p) (GivenAt q) h = ap GivenAt (eqb-true p q h)
same_value (Computed i) (Computed j) h = ap Computed (eqb-true i j h)
same_value (AtEntry r) (Word n) h = absurd cc
same_value (AtEntry r) (GivenAt q) h = absurd cc
same_value (AtEntry r) (Computed j) h = absurd cc
same_value (Word m) (AtEntry q) h = absurd cc
same_value (Word m) (GivenAt q) h = absurd cc
same_value (Word m) (Computed j) h = absurd cc
same_value (GivenAt p) (AtEntry q) h = absurd cc
same_value (GivenAt p) (Word n) h = absurd cc
same_value (GivenAt p) (Computed j) h = absurd cc
same_value (Computed i) (AtEntry q) h = absurd cc
same_value (Computed i) (Word n) h = absurd cc
same_value (Computed i) (GivenAt q) h = absurd cc

itself : (v : Value) → value.ghosts.eq v v ≡ true
itself (AtEntry r) = eq-eqb r r refl
itself (Word n) = eq-eqb n n refl
itself (GivenAt p) = eq-eqb p p refl
itself (Computed i) = eq-eqb i i refl

and_both : (a b : Bool) → a ≡ true → b ≡ true → (a && b) ≡ true
and_both true b h k = k
and_both false b h k = absurd cc

pub same_work : (v w : Work) → works.ghosts.eq v w ≡ true → v ≡ w
same_work v w h =
    let p = and_parts (v.operation == w.operation) (value.ghosts.eq v.left w.left && value.ghosts.eq v.right w.right) h in
    let q = and_parts (value.ghosts.eq v.left w.left) (value.ghosts.eq v.right w.right) p.1 in
    λ i. record {
      operation = eqb-true v.operation w.operation p.0 i;
      left = same_value v.left w.left q.0 i;
      right = same_value v.right w.right q.1 i;
    }

pub work_itself : (w : Work) → works.ghosts.eq w w ≡ true
work_itself w =
    and_both (w.operation == w.operation) (value.ghosts.eq w.left w.left && value.ghosts.eq w.right w.right) (eq-eqb w.operation w.operation refl)
    (and_both (value.ghosts.eq w.left w.left) (value.ghosts.eq w.right w.right) (itself w.left) (itself w.right))

pub same_look : (v w : Look) → looks.ghosts.eq v w ≡ true → v ≡ w
same_look v w h =
    let p = and_parts (v.check == w.check) (value.ghosts.eq v.value w.value) h in
    λ i. record { check = eqb-true v.check w.check p.0 i; value = same_value v.value w.value p.1 i }

pub look_itself : (w : Look) → looks.ghosts.eq w w ≡ true
look_itself w = and_both (w.check == w.check) (value.ghosts.eq w.value w.value) (eq-eqb w.check w.check refl) (itself w.value)
