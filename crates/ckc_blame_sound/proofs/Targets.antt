-- Which members of an element are targets, and what is written to them.
use Rattle.std.proofs.Common.{◌≡◌, ◌≢◌, ⊎_elim, ℕ, ◌+◌, ◌==◌, refl, sym, ap, subst, List, [], ◌∷◌, ◌++◌, suc}
use Rattle.std.specs.Prelude.{true, pos, slice_get, Option, None, Some}
use Rattle.std.specs.List.{Contains, cons_option}
use Rattle.std.specs.Option.{option_map}
use Rattle.std.proofs.lemmas.Bool.{eq-eqb, eqb-true}
use Rattle.ckc_types.specs.declared.types.MemberShape.{MemberShape}
use Rattle.ckc_types.specs.Layout.{members_of}
use Rattle.ckc_bounds.specs.ckc_bounds_points.specs.Flow.{State}
use Rattle.ckc_bounds.specs.ckc_bounds_ranges.specs.Members.{is_target}
use Rattle.ckc_bounds.specs.ckc_bounds_views.specs.declared.variables.Member.{Member}
use Rattle.ckc_bounds.specs.ckc_bounds_views.specs.Views.{view}
use Rattle.ckc_bounds.specs.ckc_bounds_stores.specs.Stores.{Placed, members_assigned}
use Rattle.ckc_source.specs.declared.outcome.Place.{Place}
use Rattle.ckc_source.specs.Eval.{Store}
use Rattle.ckc_source.specs.Steps.{Write}
use Rattle.ckc_build_values.specs.Members.{offset_of}
use Rattle.ckc_blame_sound.specs.Settings.{Setting}
use Rattle.ckc_blame_sound.specs.Valuations.{Valuation}
use Rattle.ckc_blame_sound.specs.Writes.{IsElsewhere, AreElsewhere}
use Rattle.ckc_blame_sound.proofs.Facts.{one_of}
use Rattle.ckc_blame_sound.specs.Memory.{AreMembersGiven, IsMemberGiven}
use Rattle.ckc_blame_sound.proofs.Tests.{left_of, right_of}
use Rattle.ckc_blame_sound.specs.Elements.{IsMemberWritten, IsTargetWritten, AreTargetsWritten, IsLast, AreWrittenOnce}

module _ (s : Setting) (after : Store) (v w : Valuation) (at : State) (tag begin : ℕ) where
  abbrev pub Targets : List Placed → List Write → Type 0
  Targets ps ws = AreTargetsWritten s after v w at tag begin ps ws

  -- each member gets what is written to it, whatever pointer is told
  pub targets_given : (n : ℕ) (ps : List Placed) (ws : List Write) → Targets ps ws → AreMembersGiven s v (record w { address = λ b. pos n }) ps
  unfolding AreTargetsWritten
  targets_given n [] ws are = tt
  targets_given n (p ∷ ps) [] are = absurd are
  targets_given n (p ∷ ps) (to ∷ ws) are = (by (view s.frame p.target).member are.0, targets_given n ps ws are.1)
    where
      by : (o : Option Member) → IsTargetWritten s after v w at tag begin p o to → IsMemberGiven s v (record w { address = λ b. pos n }) p o
      by None one = tt
      by (Some m) one = one.form

  -- the assignment to a member, and the last write there
  pub record IsFound (ps : List Placed) (ws : List Write) (j : ℕ) : Type 0 where
    pub index : ℕ
    pub assignment : Placed
    pub there : slice_get ps index ≡ Some assignment
    pub member : Member
    pub is : (view s.frame assignment.target).member ≡ Some member
    pub named : member.number ≡ j
    pub to : Write
    pub front : List Write
    pub back : List Write
    pub split : ws ≡ front ++ to ∷ back
    pub last : AreElsewhere (begin + offset_of s.text.layout tag j) back
    pub written : IsMemberWritten s after v w at tag begin assignment member to

  later : (p : Placed) (ps : List Placed) (to : Write) (ws : List Write) (j : ℕ) → IsFound ps ws j → IsFound (p ∷ ps) (to ∷ ws) j
  later p ps to ws j f = record {
    index = suc f.index;
    assignment = f.assignment;
    there = f.there;
    member = f.member;
    is = f.is;
    named = f.named;
    to = f.to;
    front = to ∷ f.front;
    back = f.back;
    split = ap (λ us. to ∷ us) f.split;
    last = f.last;
    written = f.written;
  }

  pub target_found : (ps : List Placed) (ws : List Write) → Targets ps ws → AreWrittenOnce ws → (j : ℕ) → is_target (members_assigned s.frame ps) j ≡ true → IsFound ps ws j
  unfolding AreTargetsWritten AreWrittenOnce
  target_found [] ws are once j e = absurd cc
  target_found (p ∷ ps) [] are once j e = absurd are
  target_found (p ∷ ps) (to ∷ ws) are once j e =
      by (λ h. later p ps to ws j (target_found ps ws are.1 once.1 j h)) (view s.frame p.target).member refl are.0 e
    where
      by : (is_target (members_assigned s.frame ps) j ≡ true → IsFound (p ∷ ps) (to ∷ ws) j)
          → (o : Option Member) → (view s.frame p.target).member ≡ o → IsTargetWritten s after v w at tag begin p o to
          → is_target (cons_option (option_map (λ m. m.number) o) (members_assigned s.frame ps)) j ≡ true → IsFound (p ∷ ps) (to ∷ ws) j
      by rest None is one h = rest h
      by rest (Some m) is one h = ⊎_elim here rest (one_of (m.number == j) (is_target (members_assigned s.frame ps) j) h)
        where
          here : (m.number == j) ≡ true → IsFound (p ∷ ps) (to ∷ ws) j
          here d =
              let same = eqb-true m.number j d in
              record {
                index = 0;
                assignment = p;
                there = refl;
                member = m;
                is = is;
                named = same;
                to = to;
                front = [];
                back = ws;
                split = refl;
                last = subst (λ k. AreElsewhere (begin + offset_of s.text.layout tag k) ws) same (subst (λ (x : Place). IsLast x ws) one.goes once.0);
                written = one;
              }

  -- nothing is written to an address at which no target lies
  pub targets_elsewhere : (ps : List Placed) (ws : List Write) → Targets ps ws → (c : ℕ)
      → ((shape : MemberShape) → Contains (members_of s.text.layout tag) shape → is_target (members_assigned s.frame ps) shape.name ≡ true
      → begin + offset_of s.text.layout tag shape.name ≢ c)
      → AreElsewhere c ws
  unfolding AreTargetsWritten AreElsewhere
  targets_elsewhere [] [] are c apart = tt
  targets_elsewhere [] (to ∷ ws) are c apart = absurd are
  targets_elsewhere (p ∷ ps) [] are c apart = absurd are
  targets_elsewhere (p ∷ ps) (to ∷ ws) are c apart = by (targets_elsewhere ps ws are.1 c) (view s.frame p.target).member are.0 apart
    where
      Apart : List ℕ → Type 0
      Apart targets = (shape : MemberShape) → Contains (members_of s.text.layout tag) shape → is_target targets shape.name ≡ true
          → begin + offset_of s.text.layout tag shape.name ≢ c

      by : (Apart (members_assigned s.frame ps) → AreElsewhere c ws) → (o : Option Member) → IsTargetWritten s after v w at tag begin p o to
          → Apart (cons_option (option_map (λ m. m.number) o) (members_assigned s.frame ps)) → IsElsewhere c to.0 × AreElsewhere c ws
      by rest None one apart = (one c, rest apart)
      by rest (Some m) one apart = (
        subst (IsElsewhere c) (sym one.goes)
            (subst (λ k. begin + offset_of s.text.layout tag k ≢ c) one.named
            (apart one.shape one.there
            (left_of (m.number == one.shape.name) (is_target (members_assigned s.frame ps) one.shape.name) (eq-eqb m.number one.shape.name (sym one.named))))),
        rest (λ shape there t. apart shape there (right_of (m.number == shape.name) (is_target (members_assigned s.frame ps) shape.name) t)),
      )
