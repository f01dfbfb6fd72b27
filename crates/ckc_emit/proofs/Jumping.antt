-- Far jumps.
use Rattle.std.proofs.Common.{◌≡◌, ◌≢◌, inl, inr, ℕ, ◌+◌, ◌*◌, ◌%◌, ◌^◌, ◌<◌, [], refl, sym, ap, subst, ◌∙◌, arith}
use Rattle.std.proofs.lemmas.Bool.{cases_eq}
use Rattle.ckc_base.specs.States.{Travels}
use Rattle.ckc_base.proofs.Travelling.{one_travel, then_travels}
use Rattle.ckc_rv.specs.Effects.{moved}
use Rattle.ckc_rv.specs.Detailed.{detailed_system}
use Rattle.ckc_emit.proofs.Local.{Local, state_of}
use Rattle.ckc_emit.proofs.Steps.{set, set_same, set_other, with_x, auipc_step, jalr_step}
use Rattle.ckc_emit.proofs.Paths.{Code, FarAt}

-- x0 stays as it is
pub set_zero : (x : ℕ → ℕ) (rd v : ℕ) → set x rd v 0 ≡ x 0
unfolding set
set_zero x rd v = elim (cases_eq rd 0) as (λ _. set x rd v 0 ≡ x 0) [
  | inl e ↦ subst (λ q. set x q v 0 ≡ x 0) (sym e) refl
  | inr h ↦ set_other x rd v 0 (λ e. h (sym e))
]

module _ (c : Code) where
  -- Two instructions later the machine is at a label, with the address after them in the link register.
  pub record GoesFar (l : Local) (pc rd label : ℕ) : Type 0 where
    pub next : Local
    pub travels : Travels (detailed_system c.parts) 2 [] (state_of c.parts l pc) (state_of c.parts next (c.label label))
    pub zero : next.x 0 ≡ l.x 0
    pub link : rd ≢ 0 → next.x rd ≡ pc + 8
    pub other : (r : ℕ) → r ≢ rd → r ≢ 26 → next.x r ≡ l.x r
    pub bytes : next.bytes ≡ l.bytes
    pub words : next.words ≡ l.words
    pub input : next.input ≡ l.input

  pub far_goes : (l : Local) (pc rd label : ℕ) → rd < 32 → FarAt c pc rd label → GoesFar l pc rd label
  far_goes l pc rd label h f =
      let page = (pc + f.upper * 2 ^ 12) % 2 ^ 32 in
      let mid : Local = with_x l (set l.x 26 page) in
      let end : Local = with_x mid (set mid.x rd (pc + 4 + 4)) in
      let reach : moved (mid.x 26) f.lower ≡ c.label label = ap (λ v. moved v f.lower) (set_same l.x 26 page (omega arith)) ∙ f.leads in
      let one = one_travel (detailed_system c.parts) [] (state_of c.parts l pc) (state_of c.parts mid (pc + 4)) (auipc_step c.parts l pc 26 f.upper f.first (omega arith)) in
      let two = one_travel (detailed_system c.parts) [] (state_of c.parts mid (pc + 4)) (state_of c.parts end (c.label label))
      (jalr_step c.parts mid (pc + 4) rd 26 f.lower (c.label label) f.second h (omega arith) reach f.aligned) in
      record {
        next = end;
        travels = then_travels (detailed_system c.parts) 1 1 [] [] (state_of c.parts l pc) (state_of c.parts mid (pc + 4)) (state_of c.parts end (c.label label)) one two;
        zero = set_zero mid.x rd (pc + 4 + 4) ∙ set_other l.x 26 page 0 (omega arith);
        link = λ nonzero. set_same mid.x rd (pc + 4 + 4) nonzero ∙ (let e : pc + 4 + 4 ≡ pc + 8 = omega arith in e);
        other = λ r a b. set_other mid.x rd (pc + 4 + 4) r a ∙ set_other l.x 26 page r b;
        bytes = refl;
        words = refl;
        input = refl;
      }
