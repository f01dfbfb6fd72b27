-- Assignments to members of one structure, no two of which are to one member.
use Rattle.std.proofs.Common.{◌≡◌, refl, sym, ap, subst, ◌∙◌, ℕ, ◌+◌, ◌==◌, List, [], ◌∷◌, arith}
use Rattle.std.specs.Prelude.{Bool, true, false, ◌<◌, ◌^◌, ◌||◌, if◌then◌else◌, ℤ, pos, Option, None, Some}
use Rattle.std.specs.List.{Contains, cons_option}
use Rattle.std.specs.Option.{option_map}
use Rattle.std.proofs.lemmas.Bool.{eq-eqb, ne_eqb}
use Rattle.ckc_base.specs.declared.places.Pos.{Pos}
use Rattle.ckc_types.specs.declared.types.CType.{CType}
use Rattle.ckc_types.specs.declared.types.MemberShape.{MemberShape}
use Rattle.ckc_types.specs.declared.types.Structs.{Structs}
use Rattle.ckc_types.specs.Layout.{members_of}
use Rattle.ckc_linear.specs.declared.forms.Form.{Form}
use Rattle.ckc_blame_sound.specs.ckc_bounds_points.specs.Flow.{State}
use Rattle.ckc_blame_sound.specs.ckc_bounds_points.specs.Shown.{Known}
use Rattle.ckc_blame_sound.specs.ckc_bounds_ranges.specs.Members.{is_target}
use Rattle.ckc_blame_sound.specs.ckc_bounds_views.specs.declared.variables.Member.{Member}
use Rattle.ckc_blame_sound.specs.ckc_bounds_views.specs.Views.{view}
use Rattle.ckc_blame_sound.specs.ckc_bounds_stores.specs.Stores.{Placed, received, members_assigned}
use Rattle.ckc_blame_sound.specs.ckc_bounds_stores.specs.Targets.{local_of, member_variable}
use Rattle.ckc_source.specs.declared.outcome.Place.{Place}
use Rattle.ckc_source.specs.declared.outcome.Place.TheVariants as place
use Rattle.ckc_source.specs.Blocks.{Block}
use Rattle.ckc_source.specs.Eval.{Store}
use Rattle.ckc_source.specs.Steps.{Write}
use Rattle.ckc_build_values.specs.Kinds.{width_of}
use Rattle.ckc_build_values.specs.Members.{offset_of}
use Rattle.ckc_blame_sound.specs.Settings.{Setting}
use Rattle.ckc_blame_sound.specs.Values.{number_of}
use Rattle.ckc_blame_sound.specs.Cells.{AreSound, HaveOwnNames}
use Rattle.ckc_blame_sound.specs.Writes.{AreElsewhere, IsElsewhere}
use Rattle.ckc_blame_sound.specs.Elements.{IsStructure, number_kept, AreTargetsWritten, IsTargetWritten, AreWrittenOnce, IsLast}
use Rattle.ckc_blame_sound.specs.GivenValues.{memory_of, IsFrom}
use Rattle.ckc_blame_sound.specs.Valuations.{Valuation, AreFacts}
use Rattle.ckc_blame_sound.proofs.Placed.{members_differ}
use Rattle.ckc_blame_sound.proofs.Shapes.{HasMember, member_there}
use Rattle.ckc_blame_sound.proofs.Tests.{left_of, right_of}
use Rattle.ckc_blame_given.specs.Together.{HaveSmallNames}
use Rattle.ckc_blame_given.proofs.Runs.{cancel}

-- ---- variables of members

variable_some : (m : ℕ) → member_variable m ≡ 0 → ⊥
variable_some m e = omega arith

variable_once : (j k : ℕ) → j + 1 < 2 ^ 32 → k + 1 < 2 ^ 32 → member_variable j ≡ member_variable k → j ≡ k
variable_once j k h l e = omega arith

-- the number that a variable has after an assignment, if it is that of a member that is assigned
abbrev pub number_with : Option Member → CType → ℕ → ℤ → ℕ → ℤ
number_with None t n rest x = rest
number_with (Some m) t n rest x = if member_variable m.number == x then number_kept t n else rest

module _ (s : Setting) (store : Store) (v : Valuation) (at : State) (tag begin : ℕ) where
  abbrev layout : Structs
  layout = s.text.layout

  -- A member of the structure is assigned, and none of some later assignments is to it.
  pub record IsOf (p : Placed) (ps : List Placed) (to : Write) : Type 0 where
    pub member : Member
    pub is : (view s.frame p.target).member ≡ Some member
    pub local : local_of p.target ≡ None
    pub tagged : member.tag ≡ tag
    pub shape : MemberShape
    pub there : Contains (members_of s.text.layout tag) shape
    pub named : shape.name ≡ member.number
    pub same : p.target.note.ctype ≡ shape.ctype
    pub zero_alone : Option Pos
    pub goes : to.0 ≡ place.Memory (begin + offset_of s.text.layout tag member.number) (width_of shape.ctype) zero_alone
    pub form : (facts : Known) (f : Form) → AreFacts v facts → received s.frame facts p ≡ Some f → number_of v.number f ≡ number_kept p.target.note.ctype to.1
    pub from : IsFrom s.frame (memory_of s store p.target.note.ctype) v p.target.note.ctype p.right p.from at to.1
    pub new : is_target (members_assigned s.frame ps) member.number ≡ false

  unfoldable pub AreOf : List Placed → List Write → Type 0
  AreOf [] [] = Unit {0}
  AreOf (p ∷ ps) (to ∷ ws) = IsOf p ps to × AreOf ps ws
  AreOf _ _ = ⊥

  -- the numbers that variables have after the assignments
  abbrev pub number_after : List Placed → List Write → ℕ → ℤ
  number_after [] ws x = pos 0
  number_after (p ∷ ps) [] x = pos 0
  number_after (p ∷ ps) (to ∷ ws) x = number_with (view s.frame p.target).member p.target.note.ctype to.1 (number_after ps ws x) x

  pub zero_after : (ps : List Placed) (ws : List Write) → number_after ps ws 0 ≡ pos 0
  zero_after [] ws = refl
  zero_after (p ∷ ps) [] = refl
  zero_after (p ∷ ps) (to ∷ ws) = by (view s.frame p.target).member (zero_after ps ws)
    where
      by : (o : Option Member) → number_after ps ws 0 ≡ pos 0 → number_with o p.target.note.ctype to.1 (number_after ps ws 0) 0 ≡ pos 0
      by None rest = rest
      by (Some m) rest = ap (λ (b : Bool). if b then number_kept p.target.note.ctype to.1 else number_after ps ws 0) (ne_eqb (member_variable m.number) 0 (λ e. variable_some m.number e)) ∙ rest

  module _ (own : HaveOwnNames s.text.layout) (little : HaveSmallNames s.text.layout) where
    has_member : (p : Placed) (ps : List Placed) (to : Write) → (o : IsOf p ps to) → HasMember s.text.layout tag o.member.number
    has_member p ps to o =
        let h = member_there s.text.layout own tag o.shape o.there in
        record { shape = o.shape; front = h.front; stands = h.stands; named = o.named }

    small : (p : Placed) (ps : List Placed) (to : Write) → (o : IsOf p ps to) → o.member.number + 1 < 2 ^ 32
    small p ps to o = subst (λ j. j + 1 < 2 ^ 32) o.named (little tag o.shape o.there)

    -- each target is written in a valuation that has these numbers
    pub are_written : (ps : List Placed) (ws : List Write) → AreOf ps ws → (w : Valuation)
        → ((j : ℕ) → is_target (members_assigned s.frame ps) j ≡ true → j + 1 < 2 ^ 32 → w.number (member_variable j) ≡ number_after ps ws (member_variable j))
        → AreTargetsWritten s store v w at tag begin ps ws
    unfolding AreTargetsWritten AreOf
    are_written [] [] are w all = tt
    are_written [] (to ∷ ws) are w all = absurd are
    are_written (p ∷ ps) [] are w all = absurd are
    are_written (p ∷ ps) (to ∷ ws) are w all = (one are.0, are_written ps ws are.1 w (λ j t l. later are.0 j t l))
      where
        first_there : (o : IsOf p ps to) → is_target (members_assigned s.frame (p ∷ ps)) o.member.number ≡ true
        first_there o =
            subst (λ q. is_target (cons_option (option_map (λ (m : Member). m.number) q) (members_assigned s.frame ps)) o.member.number ≡ true) (sym o.is)
            (left_of (o.member.number == o.member.number) (is_target (members_assigned s.frame ps) o.member.number) (eq-eqb o.member.number o.member.number refl))

        later_there : (o : IsOf p ps to) (j : ℕ) → is_target (members_assigned s.frame ps) j ≡ true → is_target (members_assigned s.frame (p ∷ ps)) j ≡ true
        later_there o j t =
            subst (λ q. is_target (cons_option (option_map (λ (m : Member). m.number) q) (members_assigned s.frame ps)) j ≡ true) (sym o.is)
            (right_of (o.member.number == j) (is_target (members_assigned s.frame ps) j) t)

        by_member : (o : IsOf p ps to) (x : ℕ) → number_after (p ∷ ps) (to ∷ ws) x ≡ (if member_variable o.member.number == x then number_kept p.target.note.ctype to.1 else number_after ps ws x)
        by_member o x = ap (λ q. number_with q p.target.note.ctype to.1 (number_after ps ws x) x) o.is

        number_is : (o : IsOf p ps to) → w.number (member_variable o.member.number) ≡ number_kept p.target.note.ctype to.1
        number_is o =
            all o.member.number (first_there o) (small p ps to o) ∙ by_member o (member_variable o.member.number)
            ∙ ap (λ (b : Bool). if b then number_kept p.target.note.ctype to.1 else number_after ps ws (member_variable o.member.number)) (eq-eqb (member_variable o.member.number) (member_variable o.member.number) refl)

        later : (o : IsOf p ps to) (j : ℕ) → is_target (members_assigned s.frame ps) j ≡ true → j + 1 < 2 ^ 32 → w.number (member_variable j) ≡ number_after ps ws (member_variable j)
        later o j t l =
            all j (later_there o j t) l ∙ by_member o (member_variable j)
            ∙ ap (λ (b : Bool). if b then number_kept p.target.note.ctype to.1 else number_after ps ws (member_variable j))
            (ne_eqb (member_variable o.member.number) (member_variable j)
            (λ e. let same = variable_once o.member.number j (small p ps to o) l e in
            let no : true ≡ false = sym t ∙ ap (is_target (members_assigned s.frame ps)) (sym same) ∙ o.new in absurd cc))

        one : IsOf p ps to → IsTargetWritten s store v w at tag begin p (view s.frame p.target).member to
        one o =
            subst (λ q. IsTargetWritten s store v w at tag begin p q to) (sym o.is) (record {
              local = o.local;
              tagged = o.tagged;
              shape = o.shape;
              there = o.there;
              named = o.named;
              same = o.same;
              zero_alone = o.zero_alone;
              goes = o.goes;
              number = number_is o ∙ ap (λ t. number_kept t to.1) o.same;
              form = λ facts f known e. o.form facts f known e ∙ sym (number_is o);
              pointer = λ low high known. o.from;
            })

    module _ (next : ℕ) (blocks : List Block) (sound : AreSound s.text blocks next) (number i : ℕ) (b : Block) (structure : IsStructure blocks number i tag b) where
      elsewhere : (ps : List Placed) (ws : List Write) → AreOf ps ws → (j : ℕ) → HasMember s.text.layout tag j → is_target (members_assigned s.frame ps) j ≡ false
          → AreElsewhere (begin + offset_of s.text.layout tag j) ws
      unfolding AreOf AreElsewhere
      elsewhere [] [] are j h e = tt
      elsewhere [] (to ∷ ws) are j h e = absurd are
      elsewhere (p ∷ ps) [] are j h e = absurd are
      elsewhere (p ∷ ps) (to ∷ ws) are j h e = (one are.0 (parts_of are.0), elsewhere ps ws are.1 j h (parts_of are.0).1)
        where
          either_false : (a b : Bool) → (a || b) ≡ false → (a ≡ false) × (b ≡ false)
          either_false true b e = absurd cc
          either_false false b e = (refl, e)

          parts_of : (o : IsOf p ps to) → ((o.member.number == j) ≡ false) × (is_target (members_assigned s.frame ps) j ≡ false)
          parts_of o =
              either_false (o.member.number == j) (is_target (members_assigned s.frame ps) j)
              (subst (λ q. is_target (cons_option (option_map (λ (m : Member). m.number) q) (members_assigned s.frame ps)) j ≡ false) o.is e)

          one : (o : IsOf p ps to) → ((o.member.number == j) ≡ false) × (is_target (members_assigned s.frame ps) j ≡ false) → IsElsewhere (begin + offset_of s.text.layout tag j) to.0
          one o q =
              subst (IsElsewhere (begin + offset_of s.text.layout tag j)) (sym o.goes)
              (λ same. members_differ s own next blocks sound number i tag b structure o.member.number j (has_member p ps to o) h
              (λ is. let no : (o.member.number == j) ≡ true = eq-eqb o.member.number j is in let no_more = q.0 in absurd cc)
              (cancel begin (offset_of s.text.layout tag o.member.number) (offset_of s.text.layout tag j) same))

      pub are_once : (ps : List Placed) (ws : List Write) → AreOf ps ws → AreWrittenOnce ws
      unfolding AreOf AreWrittenOnce
      are_once [] [] are = tt
      are_once [] (to ∷ ws) are = absurd are
      are_once (p ∷ ps) [] are = absurd are
      are_once (p ∷ ps) (to ∷ ws) are = (
        subst (λ (x : Place). IsLast x ws) (sym are.0.goes) (elsewhere ps ws are.1 are.0.member.number (has_member p ps to are.0) are.0.new),
        are_once ps ws are.1,
      )
