-- What reading a text of assembly answers.
use Rattle.std.specs.Prelude.{◌≡◌, ℕ}
use Rattle.ckc_base.specs.declared.places.Pos.{Pos}
use Rattle.ckc_base.specs.declared.fault.Fault.{Fault}
use Rattle.ckc_base.specs.declared.fault.Fault.TheVariants as fault

-- the property of a fault for which a text is refused; if memory ran out, nothing
abbrev pub IfRefused : Fault → (ℕ → Pos → Type 0) → Type 0
IfRefused (fault.Refused r) P = P r.code r.pos
IfRefused fault.Memory P = Unit {0}

-- the same fault
pub record AreFaults (code : ℕ) (place : Pos) (code' : ℕ) (place' : Pos) : Type 0 where
  pub code_is : code ≡ code'
  pub place_is : place ≡ place'
