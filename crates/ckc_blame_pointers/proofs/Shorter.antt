-- A part of a true range that begins at the pointer is true.
use Rattle.std.proofs.Common.{◌≡◌, ⊎_elim, ℕ, ◌+◌, ◌-◌, ◌*◌, List, [], ◌∷◌, sym, ◌∙◌}
use Rattle.std.specs.Prelude.{Bool, true, false, not, nat_le, ◌≤◌, ◌&&◌, ◌||◌, if◌then◌else◌, ℤ, pos}
use Rattle.std.specs.List.{list_any}
use Rattle.std.proofs.lemmas.Bool.{and_parts}
use Rattle.ckc_types.specs.Same.{same_type}
use Rattle.ckc_source.specs.declared.expr.Pointee.{Pointee}
use Rattle.ckc_source.specs.declared.program.MemberRun.{MemberRun}
use Rattle.ckc_source.specs.declared.program.Shape.{Shape}
use Rattle.ckc_source.specs.Blocks.{Block, end_of}
use Rattle.ckc_source.specs.Runs.{is_within, is_in_block, is_at, is_in_some_element, is_in_member, member_runs, is_in, is_true}
use Rattle.ckc_source.specs.Words.{elements_behind}
use Rattle.ckc_blame_sound.proofs.Ranges.{Within, within, some_below}
use Rattle.ckc_blame_sound.proofs.Narrower.{closer_true}
use Rattle.ckc_blame_pointers.proofs.Numbers.{away}
use Rattle.ckc_blame_pointers.proofs.Truths.{either}

module _ (shapes : List Shape) (to : Pointee) (n low high : ℕ) where
  -- a run that has the range
  abbrev HasRun : Type 0
  HasRun = (begin : ℕ) × (end : ℕ) × Within begin end to.size n low high

  block_run : (b : Block) → is_in_block to n low high b ≡ true → HasRun
  block_run b e =
      by b.terminated (and_parts (same_type to.element b.element) (if b.terminated then is_within b.base (end_of b - b.size) to.size n low high else not to.terminated && is_within b.base (end_of b) to.size n low high) e).1
    where
      by : (t : Bool) → (if t then is_within b.base (end_of b - b.size) to.size n low high else not to.terminated && is_within b.base (end_of b) to.size n low high) ≡ true → HasRun
      by true e = (b.base, end_of b - b.size, within b.base (end_of b - b.size) to.size n low high e)
      by false e = (b.base, end_of b, within b.base (end_of b) to.size n low high (and_parts (not to.terminated) (is_within b.base (end_of b) to.size n low high) e).1)

  member_run : (b : Block) (ms : List MemberRun) → list_any (is_in_member to n low high b) ms ≡ true → HasRun
  member_run b [] e = absurd (cc)
  member_run b (m ∷ ms) e = ⊎_elim
      (λ h. let q = some_below b.count (λ i. is_at b (b.base + (i * b.size + m.offset)) to.size n low high)
      (and_parts (same_type to.element m.ctype && nat_le (m.offset + to.size) b.size) (is_in_some_element b m.offset to.size n low high) h).1 in
      let begin : ℕ = b.base + (q.0 * b.size + m.offset) in
      (begin, begin + to.size, within begin (begin + to.size) to.size n low high (and_parts (nat_le (begin + to.size) (end_of b)) (is_within begin (begin + to.size) to.size n low high) q.2).1))
      (λ h. member_run b ms h)
      (either (is_in_member to n low high b m) (list_any (is_in_member to n low high b) ms) e)

  one_run : (b : Block) → is_in shapes to n low high b ≡ true → HasRun
  one_run b e =
      let runs = list_any (is_in_member to n low high b) (member_runs shapes b) in
      ⊎_elim (λ h. block_run b h) (λ h. member_run b (member_runs shapes b) (and_parts (not to.terminated) runs h).1)
      (either (is_in_block to n low high b) (not to.terminated && runs) (and_parts b.is_run (is_in_block to n low high b || (not to.terminated && runs)) e).1)

  some_run : (bs : List Block) → is_true shapes bs to n low high ≡ true → HasRun
  some_run [] e = absurd (cc)
  some_run (b ∷ bs) e = ⊎_elim (λ h. one_run b h) (λ h. some_run bs h) (either (is_in shapes to n low high b) (is_true shapes bs to n low high) e)

  pub part_true : (blocks : List Block) → is_true shapes blocks to n low high ≡ true → (upto : ℕ) (z : ℤ) → low ≤ n → n ≤ upto → upto ≤ high → pos upto ≡ elements_behind n to.size z
      → is_true shapes blocks to n n upto ≡ true
  part_true blocks e upto z above over below at =
      let r = some_run blocks e in
      closer_true shapes to n low high n upto above over below (r.2.even ∙ sym r.2.low_even) (away upto n to.size z at ∙ r.2.even ∙ sym r.2.high_even) blocks e
