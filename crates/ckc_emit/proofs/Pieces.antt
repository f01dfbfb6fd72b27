-- What a piece of lines adds in front of others: how many instructions, which labels, and that its lines can be
-- assembled.
use Rattle.std.proofs.Common.{◌≡◌, ◌⊎◌, inl, inr, ℕ, ◌+◌, ◌*◌, ◌≤◌, ◌<◌, if◌then◌else◌, Bool, true, false, List, [], ◌∷◌, ◌++◌, refl, sym, ap, subst, ◌∙◌, append_assoc, append-nil, arith}
use Rattle.std.specs.Prelude.{All, sum_by, count_by}
use Rattle.std.proofs.lemmas.List.Elements.{All-nil, All-cons, All-append}
use Rattle.std.proofs.lemmas.List.Sums.{sum_by-append}
use Rattle.std.proofs.lemmas.Bool.{cases_lt}
use Rattle.std.proofs.lemmas.Bool.Decides.{nat_tests}
use Rattle.ckc_rv_operations.specs.declared.operations.BranchOp.{BranchOp}
use Rattle.ckc_rv.specs.declared.instructions.Instr.{Instr}
use Rattle.ckc_rv.specs.Table.{InRange}
use Rattle.ckc_asm_lines.specs.declared.lines.Line.{Line}
use Rattle.ckc_asm_lines.specs.declared.lines.Line.TheVariants.{Label, Plain, Jump, Branch, Far}
use Rattle.ckc_asm_lines.specs.Assembled.{size_of, is_label}
use Rattle.ckc_emit.specs.Spared.{SparesByInstr}
use Rattle.ckc_emit.proofs.Paths.{Code, LinesAt}

-- The labels of a program are those below a number. In a function whose jumps and branches are near they lead to its own
-- labels, those from one number to another.
pub record Labels : Type 0 where
  pub count : ℕ
  pub near : Bool
  pub low : ℕ
  pub high : ℕ

abbrev pub IsNearLabel : Labels → ℕ → Type 0
IsNearLabel labels label = (labels.near ≡ true) × (labels.low ≤ label) × (label < labels.high)

-- a line that can be assembled if it reaches its label
abbrev pub IsSound : Labels → Line → Type 0
IsSound labels (Label label) = Unit {0}
IsSound labels (Plain i) = InRange i × SparesByInstr i
IsSound labels (Jump rd label) = (rd < 27) × IsNearLabel labels label
IsSound labels (Branch op rs1 rs2 label) = (rs1 < 27) × (rs2 < 27) × IsNearLabel labels label
IsSound labels (Far rd label) = (rd < 27) × (label < labels.count)

-- The lines xs are sound lines in front of the lines ys, of at most so many instructions. The labels among them are
-- those from one number to another, each once.
pub record Adds (labels : Labels) (from to most : ℕ) (xs ys : List Line) : Type 0 where
  pub front : List Line
  pub is : xs ≡ front ++ ys
  pub sound : All (IsSound labels) front
  pub ordered : from ≤ to
  pub once : (x : ℕ) → from ≤ x → x < to → count_by (is_label x) front ≡ 1
  pub never : (x : ℕ) → (x < from) ⊎ (to ≤ x) → count_by (is_label x) front ≡ 0
  pub size : sum_by size_of front ≤ 4 * most

pub count_append : (p : Line → Bool) (xs ys : List Line) → count_by p (xs ++ ys) ≡ count_by p xs + count_by p ys
count_append p xs ys = sum_by-append (λ x. if p x then 1 else 0) xs ys

label_other : (x k : ℕ) → (x < k) ⊎ (k + 1 ≤ x) → count_by (is_label x) (Label k ∷ []) ≡ 0
label_other x k h = elim h as (λ _. count_by (is_label x) (Label k ∷ []) ≡ 0) [ inl a ↦ grind (arith, nat_tests) | inr a ↦ grind (arith, nat_tests) ]

behind : (c : Code) (pc : ℕ) (front ys : List Line) → LinesAt c pc (front ++ ys) → (to : ℕ) × LinesAt c to ys
behind c pc [] ys at = (pc, at)
behind c pc (Label label ∷ front) ys at = behind c pc front ys at.1
behind c pc (Plain i ∷ front) ys at = behind c (pc + 4) front ys at.1
behind c pc (Jump rd label ∷ front) ys at = behind c (pc + 4) front ys at.1
behind c pc (Branch op rs1 rs2 label ∷ front) ys at = behind c (pc + 4) front ys at.1
behind c pc (Far rd label ∷ front) ys at = behind c (pc + 8) front ys at.1

-- lines stand that stand in front of others
pub in_front : (c : Code) (pc : ℕ) (front ys : List Line) → LinesAt c pc (front ++ ys) → LinesAt c pc front
in_front c pc [] ys at = tt
in_front c pc (Label label ∷ front) ys at = (at.0, in_front c pc front ys at.1)
in_front c pc (Plain i ∷ front) ys at = (at.0, in_front c (pc + 4) front ys at.1)
in_front c pc (Jump rd label ∷ front) ys at = (at.0, in_front c (pc + 4) front ys at.1)
in_front c pc (Branch op rs1 rs2 label ∷ front) ys at = (at.0, in_front c (pc + 4) front ys at.1)
in_front c pc (Far rd label ∷ front) ys at = (at.0, in_front c (pc + 8) front ys at.1)

module _ (labels : Labels) where
  unfoldable pub nothing : (k : ℕ) (ys : List Line) → Adds labels k k 0 ys ys
  nothing k ys = record {
    front = [];
    is = refl;
    sound = All-nil (IsSound labels);
    ordered = omega arith;
    once = λ x h i. absurd (omega arith);
    never = λ x h. refl;
    size = omega arith;
  }

  unfoldable pub then_adds : {a b d x y : ℕ} {xs ys zs : List Line} → Adds labels a b x xs ys → Adds labels b d y ys zs → Adds labels a d (x + y) xs zs
  then_adds {a} {b} {d} {x} {y} {xs} {ys} {zs} p q = record {
    front = p.front ++ q.front;
    is = p.is ∙ ap (λ l. p.front ++ l) q.is ∙ sym (append_assoc p.front q.front zs);
    sound = All-append (IsSound labels) p.front q.front p.sound q.sound;
    ordered = omega (arith, p.ordered, q.ordered);
    once = λ n h i. elim (cases_lt n b) as (λ _. count_by (is_label n) (p.front ++ q.front) ≡ 1) [
      | inl below ↦
          let one = p.once n h below in
          let two = q.never n (inl below) in
          omega (arith, count_append (is_label n) p.front q.front)
      | inr above ↦
          let one = p.never n (inr above) in
          let two = q.once n above i in
          omega (arith, count_append (is_label n) p.front q.front)
    ];
    never = λ n h.
        let o = p.ordered in
        let r = q.ordered in
        let one = p.never n (elim h as (λ _. (n < a) ⊎ (b ≤ n)) [ inl i ↦ inl i | inr i ↦ inr (omega arith) ]) in
        let two = q.never n (elim h as (λ _. (n < b) ⊎ (d ≤ n)) [ inl i ↦ inl (omega arith) | inr i ↦ inr i ]) in
        omega (arith, count_append (is_label n) p.front q.front);
    size = omega (arith, p.size, q.size, sum_by-append size_of p.front q.front);
  }

  -- the same labels, written otherwise
  pub numbered_adds : {a b d e x : ℕ} {xs ys : List Line} → a ≡ d → b ≡ e → Adds labels a b x xs ys → Adds labels d e x xs ys
  numbered_adds {a} {b} {d} {e} {x} {xs} {ys} from to p =
      subst (λ q. Adds labels q e x xs ys) from (subst (λ q. Adds labels a q x xs ys) to p)

  unfoldable pub more_adds : {a b x : ℕ} {xs ys : List Line} (y : ℕ) → x ≤ y → Adds labels a b x xs ys → Adds labels a b y xs ys
  more_adds y h p = record {
    front = p.front;
    is = p.is;
    sound = p.sound;
    ordered = p.ordered;
    once = p.once;
    never = p.never;
    size = omega (arith, p.size);
  }

  pub plain_adds : (k : ℕ) (i : Instr) (ys : List Line) → InRange i → SparesByInstr i → Adds labels k k 1 (Plain i ∷ ys) ys
  plain_adds k i ys h s = record {
    front = Plain i ∷ [];
    is = refl;
    sound = All-cons (IsSound labels) (Plain i) [] (h, s) (All-nil (IsSound labels));
    ordered = omega arith;
    once = λ x h i. absurd (omega arith);
    never = λ x h. refl;
    size = omega arith;
  }

  pub far_adds : (k rd label : ℕ) (ys : List Line) → rd < 27 → label < labels.count → Adds labels k k 2 (Far rd label ∷ ys) ys
  far_adds k rd label ys h s = record {
    front = Far rd label ∷ [];
    is = refl;
    sound = All-cons (IsSound labels) (Far rd label) [] (h, s) (All-nil (IsSound labels));
    ordered = omega arith;
    once = λ x h i. absurd (omega arith);
    never = λ x h. refl;
    size = omega arith;
  }

  pub jump_adds : (k rd label : ℕ) (ys : List Line) → rd < 27 → IsNearLabel labels label → Adds labels k k 1 (Jump rd label ∷ ys) ys
  jump_adds k rd label ys h s = record {
    front = Jump rd label ∷ [];
    is = refl;
    sound = All-cons (IsSound labels) (Jump rd label) [] (h, s) (All-nil (IsSound labels));
    ordered = omega arith;
    once = λ x h i. absurd (omega arith);
    never = λ x h. refl;
    size = omega arith;
  }

  pub leave_adds : (k : ℕ) (op : BranchOp) (ra rb label : ℕ) (ys : List Line) → ra < 27 → rb < 27 → IsNearLabel labels label → Adds labels k k 1 (Branch op ra rb label ∷ ys) ys
  leave_adds k op ra rb label ys h i s = record {
    front = Branch op ra rb label ∷ [];
    is = refl;
    sound = All-cons (IsSound labels) (Branch op ra rb label) [] (h, i, s) (All-nil (IsSound labels));
    ordered = omega arith;
    once = λ x h i. absurd (omega arith);
    never = λ x h. refl;
    size = omega arith;
  }

  pub label_adds : (k : ℕ) (ys : List Line) → Adds labels k (k + 1) 0 (Label k ∷ ys) ys
  label_adds k ys = record {
    front = Label k ∷ [];
    is = refl;
    sound = All-cons (IsSound labels) (Label k) [] tt (All-nil (IsSound labels));
    ordered = omega arith;
    once = λ x h i. grind (arith, nat_tests);
    never = λ x h. label_other x k h;
    size = omega arith;
  }

  -- lines in front of nothing, in front of others
  unfoldable pub front_adds : {a b m : ℕ} {xs : List Line} (ys : List Line) → Adds labels a b m xs [] → Adds labels a b m (xs ++ ys) ys
  front_adds ys p = record {
    front = p.front;
    is = ap (λ l. l ++ ys) (p.is ∙ append-nil p.front);
    sound = p.sound;
    ordered = p.ordered;
    once = p.once;
    never = p.never;
    size = p.size;
  }

  -- lines that are chosen by a test
  pub either_adds : {a c m : ℕ} {xs ys zs : List Line} (b : Bool) → (b ≡ true → Adds labels a c m xs zs) → (b ≡ false → Adds labels a c m ys zs) → Adds labels a c m (if b then xs else ys) zs
  either_adds true p q = p refl
  either_adds false p q = q refl

  -- where lines stand, the lines that others are added to stand after them
  pub stand_behind : (c : Code) (pc a b m : ℕ) (xs ys : List Line) → Adds labels a b m xs ys → LinesAt c pc xs → (to : ℕ) × LinesAt c to ys
  stand_behind c pc a b m xs ys p at = behind c pc p.front ys (subst (LinesAt c pc) p.is at)
