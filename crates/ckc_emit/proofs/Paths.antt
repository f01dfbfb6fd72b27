-- Where lines stand in the code, and how the machine goes from lines to lines.
use Rattle.std.proofs.Common.{◌≡◌, ◌≢◌, ◌⊎◌, inl, inr, ℕ, ◌+◌, ◌*◌, ◌%◌, ◌^◌, ◌≤◌, List, [], ◌∷◌, ◌++◌, refl, ◌∙◌, arith}
use Rattle.std.specs.Prelude.{ℤ}
use Rattle.ckc_base.specs.Steps.{Goes, Halts}
use Rattle.ckc_base.specs.Matching.{Closes}
use Rattle.ckc_base.specs.States.{Travels}
use Rattle.ckc_base.specs.Traces.{Standing}
use Rattle.ckc_base.proofs.Runs.{one_halt, then_closes}
use Rattle.ckc_base.proofs.Travelling.{one_travel, no_travel, then_travels}
use Rattle.ckc_rv.specs.declared.instructions.Instr.{Instr}
use Rattle.ckc_rv.specs.declared.instructions.Instr.TheVariants.{Auipc, Jalr}
use Rattle.ckc_rv.specs.declared.instructions.Instr.TheVariants as instr
use Rattle.ckc_rv.specs.Effects.{moved}
use Rattle.ckc_rv.specs.Machine.{Parts}
use Rattle.ckc_rv.specs.Detailed.{MachineEvent, detailed_step, detailed_system}
use Rattle.ckc_asm_lines.specs.declared.lines.Line.{Line}
use Rattle.ckc_asm_lines.specs.declared.lines.Line.TheVariants.{Label, Plain, Jump, Branch, Far}
use Rattle.ckc_emit.proofs.Local.{Local, state_of}
use Rattle.ckc_emit.proofs.Steps.{At, set, set_same, set_other, with_x}

-- the parts of an image, and where each label stands
pub record Code : Type 0 where
  pub parts : Parts
  pub label : ℕ → ℕ

-- A far jump stands at an address.
pub record FarAt (c : Code) (pc rd label : ℕ) : Type 0 where
  pub upper : ℕ
  pub lower : ℤ
  pub first : At c.parts pc (Auipc 26 upper)
  pub second : At c.parts (pc + 4) (Jalr rd 26 lower)
  pub leads : moved ((pc + upper * 2 ^ 12) % 2 ^ 32) lower ≡ c.label label
  pub aligned : c.label label % 4 ≡ 0

-- An instruction that leads to a near label stands at an address.
pub record NearAt (c : Code) (pc : ℕ) (i : ℤ → Instr) (label : ℕ) : Type 0 where
  pub offset : ℤ
  pub here : At c.parts pc (i offset)
  pub leads : moved pc offset ≡ c.label label
  pub aligned : c.label label % 4 ≡ 0

-- The lines stand at an address and after it.
abbrev pub LinesAt : Code → ℕ → List Line → Type 0
LinesAt c pc [] = Unit {0}
LinesAt c pc (Label label ∷ lines) = (c.label label ≡ pc) × LinesAt c pc lines
LinesAt c pc (Plain i ∷ lines) = At c.parts pc i × LinesAt c (pc + 4) lines
LinesAt c pc (Jump rd label ∷ lines) = NearAt c pc (λ z. instr.Jal rd z) label × LinesAt c (pc + 4) lines
LinesAt c pc (Branch op rs1 rs2 label ∷ lines) =
    NearAt c pc (λ z. instr.Branch op rs1 rs2 z) label × LinesAt c (pc + 4) lines
LinesAt c pc (Far rd label ∷ lines) = FarAt c pc rd label × LinesAt c (pc + 8) lines

-- From an address the machine comes to where lines stand, in so many instructions and with these events.
pub record Leads (c : Code) (least most : ℕ) (ys : List Line) (events : List MachineEvent) (l m : Local) (pc : ℕ) : Type 0 where
  pub to : ℕ
  pub there : LinesAt c to ys
  pub count : ℕ
  pub many : least ≤ count
  pub few : count ≤ most
  pub travels : Travels (detailed_system c.parts) count events (state_of c.parts l pc) (state_of c.parts m to)

-- Wherever the lines xs stand, the machine comes from them to ys.
pub record Path (c : Code) (least most : ℕ) (xs ys : List Line) (events : List MachineEvent) (l m : Local) : Type 0 where
  pub leads : (pc : ℕ) → LinesAt c pc xs → Leads c least most ys events l m pc

-- Wherever the lines xs stand, the machine halts.
pub record Halting (c : Code) (most : ℕ) (xs : List Line) (l : Local) (standing : Standing) : Type 0 where
  pub halts : (pc : ℕ) → LinesAt c pc xs → (count : ℕ) × (count ≤ most) × Closes (detailed_system c.parts) count [] (state_of c.parts l pc) standing

module _ (c : Code) where
  -- one instruction is a path
  pub straight : (i : Instr) (rest : List Line) (events : List MachineEvent) (l m : Local)
      → ((pc : ℕ) → At c.parts pc i → detailed_step c.parts (state_of c.parts l pc) ≡ Goes events (state_of c.parts m (pc + 4)))
      → Path c 1 1 (Plain i ∷ rest) rest events l m
  straight i rest events l m h = record {
    leads = λ pc at. record {
      to = pc + 4;
      there = at.1;
      count = 1;
      many = omega arith;
      few = omega arith;
      travels = one_travel (detailed_system c.parts) events (state_of c.parts l pc) (state_of c.parts m (pc + 4)) (h pc at.0);
    };
  }

  pub stay : (xs : List Line) (l : Local) → Path c 0 0 xs xs [] l l
  stay xs l = record {
    leads = λ pc at. record {
      to = pc;
      there = at;
      count = 0;
      many = omega arith;
      few = omega arith;
      travels = no_travel (detailed_system c.parts) (state_of c.parts l pc);
    };
  }

  pub followed : (a b d e : ℕ) (xs ys zs : List Line) (es fs : List MachineEvent) (l m n : Local)
      → Path c a b xs ys es l m → Path c d e ys zs fs m n → Path c (a + d) (b + e) xs zs (es ++ fs) l n
  followed a b d e xs ys zs es fs l m n p q = record {
    leads = λ pc at.
        let one = p.leads pc at in
        let two = q.leads one.to one.there in
        record {
          to = two.to;
          there = two.there;
          count = one.count + two.count;
          many = omega (arith, one.many, two.many);
          few = omega (arith, one.few, two.few);
          travels = then_travels (detailed_system c.parts) one.count two.count es fs (state_of c.parts l pc) (state_of c.parts m one.to) (state_of c.parts n two.to) one.travels two.travels;
        };
  }

  pub loosened : (a b d e : ℕ) (xs ys : List Line) (es : List MachineEvent) (l m : Local) → d ≤ a → b ≤ e → Path c a b xs ys es l m → Path c d e xs ys es l m
  loosened a b d e xs ys es l m h k p = record {
    leads = λ pc at.
        let one = p.leads pc at in
        record {
          to = one.to;
          there = one.there;
          count = one.count;
          many = omega (arith, one.many);
          few = omega (arith, one.few);
          travels = one.travels;
        };
  }

  -- a halt at one instruction
  pub halt_at : (i : Instr) (rest : List Line) (l : Local) (standing : Standing)
      → ((pc : ℕ) → At c.parts pc i → detailed_step c.parts (state_of c.parts l pc) ≡ Halts [] standing)
      → Halting c 1 (Plain i ∷ rest) l standing
  halt_at i rest l standing h = record {
    halts = λ pc at. (1, omega arith, one_halt (detailed_system c.parts) [] (state_of c.parts l pc) standing (h pc at.0));
  }

  pub then_halting : (a b e : ℕ) (xs ys : List Line) (l m : Local) (standing : Standing)
      → Path c a b xs ys [] l m → Halting c e ys m standing → Halting c (b + e) xs l standing
  then_halting a b e xs ys l m standing p q = record {
    halts = λ pc at.
        let one = p.leads pc at in
        let two = q.halts one.to one.there in
        (one.count + two.0, omega (arith, one.few, two.1), then_closes (detailed_system c.parts) one.count two.0 [] [] (state_of c.parts l pc) (state_of c.parts m one.to) standing one.travels.stretch two.2);
  }

  -- ---- a register is set

  -- On the way from xs to ys a register is set to a value, and but for it and x7 all is kept.
  pub record Sets (least most : ℕ) (xs ys : List Line) (l : Local) (rd v : ℕ) : Type 0 where
    pub next : Local
    pub path : Path c least most xs ys [] l next
    pub value : next.x rd ≡ v
    pub other : (r : ℕ) → r ≢ rd → r ≢ 7 → next.x r ≡ l.x r
    pub bytes : next.bytes ≡ l.bytes
    pub words : next.words ≡ l.words
    pub input : next.input ≡ l.input

  -- one instruction sets a register
  pub set_by : (i : Instr) (rest : List Line) (l : Local) (rd v : ℕ) → rd ≢ 0
      → ((pc : ℕ) → At c.parts pc i → detailed_step c.parts (state_of c.parts l pc) ≡ Goes [] (state_of c.parts (with_x l (set l.x rd v)) (pc + 4)))
      → Sets 1 1 (Plain i ∷ rest) rest l rd v
  set_by i rest l rd v nonzero h = record {
    next = with_x l (set l.x rd v);
    path = straight i rest [] l (with_x l (set l.x rd v)) h;
    value = set_same l.x rd v nonzero;
    other = λ r apart seven. set_other l.x rd v r apart;
    bytes = refl;
    words = refl;
    input = refl;
  }

  -- a register that is set again, or x7 before another one
  pub set_again : (a b d e : ℕ) (xs ys zs : List Line) (l : Local) (r1 w rd v : ℕ) → (r1 ≡ rd) ⊎ (r1 ≡ 7)
      → (s : Sets a b xs ys l r1 w) → Sets d e ys zs s.next rd v → Sets (a + d) (b + e) xs zs l rd v
  set_again a b d e xs ys zs l r1 w rd v which s t = record {
    next = t.next;
    path = followed a b d e xs ys zs [] [] l s.next t.next s.path t.path;
    value = t.value;
    other = λ r apart seven.
        let from : r ≢ r1 = elim which as (λ _. r ≢ r1) [ inl p ↦ (λ q. apart (q ∙ p)) | inr p ↦ (λ q. seven (q ∙ p)) ] in
        t.other r apart seven ∙ s.other r from seven;
    bytes = t.bytes ∙ s.bytes;
    words = t.words ∙ s.words;
    input = t.input ∙ s.input;
  }

  pub sets_loosened : (a b d e : ℕ) (xs ys : List Line) (l : Local) (rd v : ℕ) → d ≤ a → b ≤ e → Sets a b xs ys l rd v → Sets d e xs ys l rd v
  sets_loosened a b d e xs ys l rd v h k s = record {
    next = s.next;
    path = loosened a b d e xs ys [] l s.next h k s.path;
    value = s.value;
    other = s.other;
    bytes = s.bytes;
    words = s.words;
    input = s.input;
  }
