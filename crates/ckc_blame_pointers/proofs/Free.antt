-- A member whose address is judged to be taken takes part in no bounds.
use Rattle.std.proofs.Common.{◌≡◌, refl, sym, ap, subst, ◌∙◌, ℕ, Bool, true, false, List, [], ◌∷◌}
use Rattle.std.specs.Prelude.{◌==◌, ◌&&◌, ◌||◌, not, if◌then◌else◌, find, Some}
use Rattle.std.specs.List.{list_any}
use Rattle.std.proofs.lemmas.Bool.{eqb-true, eq-eqb}
use Rattle.ckc_types.specs.declared.types.CType.{CType, CType-F, out-CType}
use Rattle.ckc_types.specs.declared.types.MemberBounds.{MemberBounds}
use Rattle.ckc_types.specs.declared.types.MemberBounds.TheVariants as mbounds
use Rattle.ckc_types.specs.declared.types.MemberShape.{MemberShape}
use Rattle.ckc_types.specs.declared.types.Structs.{Structs}
use Rattle.ckc_types.specs.Layout.{members_of}
use Rattle.ckc_syntax.specs.declared.tree.Name.{Name}
use Rattle.ckc_typed.specs.Environment.{is_member_named}
use Rattle.ckc_blame_sound.specs.ckc_bounds_ranges.specs.Members.{names_member, has_bounds, names_another, is_named, is_declared, takes_part, has_no_address}
use Rattle.ckc_blame_sound.specs.ckc_bounds_views.specs.Fresh.{member_in}
use Rattle.ckc_blame_sound.specs.ckc_bounds_views.specs.Judged.{member_has_none}
use Rattle.ckc_build_elaborate.specs.Shapes.{is_bare, names, is_run}
use Rattle.ckc_blame_sound.specs.Settings.{Setting}
use Rattle.ckc_blame_pointers.specs.Covered.{IsScalarMember}
use Rattle.ckc_blame_pointers.proofs.Held.{found_passes}

neither : (a b : Bool) → (a || b) ≡ false → (a ≡ false) × (b ≡ false)
neither true b e = absurd (cc)
neither false b e = (refl, e)

both : (a b : Bool) → a ≡ true → b ≡ true → (a && b) ≡ true
both true b e f = f
both false b e f = absurd (cc)

any_passes : (q p : MemberShape → Bool) (ms : List MemberShape) (m : MemberShape) → find p ms ≡ Some m → q m ≡ true → list_any q ms ≡ true
any_passes q p [] m e h = absurd (cc)
any_passes q p (x ∷ ms) m e h = by (λ e. any_passes q p ms m e h) (p x) e
  where
    or_right : (a b : Bool) → b ≡ true → (a || b) ≡ true
    or_right true b h = refl
    or_right false b h = h

    by : (find p ms ≡ Some m → list_any q ms ≡ true) → (b : Bool) → (if b then Some x else find p ms) ≡ Some m → (q x || list_any q ms) ≡ true
    by later true e = let same : x ≡ m = cc in ap (λ b. b || list_any q ms) (ap q same ∙ h)
    by later false e = or_right (q x) (list_any q ms) (later e)

any_same : (p q : MemberShape → Bool) → ((x : MemberShape) → p x ≡ q x) → (ms : List MemberShape) → list_any p ms ≡ list_any q ms
any_same p q same [] = refl
any_same p q same (x ∷ ms) = ap (λ b. b || list_any p ms) (same x) ∙ ap (λ b. q x || b) (any_same p q same ms)

same_names : (k : ℕ) (b : MemberBounds) → names k b ≡ names_member k b
same_names k mbounds.Nothing = refl
same_names k mbounds.Unknown = refl
same_names k mbounds.NoForm = refl
same_names k (mbounds.Fixed c) = refl
same_names k (mbounds.Named j c) = refl

free_member : (structs : Structs) (tag m : ℕ) (member : MemberShape) (p : MemberShape → Bool) → find p (members_of structs tag) ≡ Some member → member.name ≡ m → has_no_address structs tag m ≡ false → is_run (members_of structs tag) member ≡ true
free_member structs tag m member p found named e =
    let q = neither (takes_part structs tag m) (is_declared structs tag m) e in
    both (is_bare member.bounds) (not (list_any (λ n. names member.name n.bounds) (members_of structs tag))) (bare member.bounds refl q.1)
    (ap not (any_same (λ n. names member.name n.bounds) (λ n. names_member m n.bounds) (λ n. same_names member.name n.bounds ∙ ap (λ k. names_member k n.bounds) named) (members_of structs tag)
    ∙ (neither (names_another structs tag m) (is_named structs tag m) q.0).1))
  where
    bounded : has_bounds member.bounds ≡ true → is_declared structs tag m ≡ true
    bounded h =
        any_passes (λ (s : MemberShape). (s.name == m) && has_bounds s.bounds) p (members_of structs tag) member found (both (member.name == m) (has_bounds member.bounds) (eq-eqb member.name m named) h)

    bare : (b : MemberBounds) → member.bounds ≡ b → is_declared structs tag m ≡ false → is_bare b ≡ true
    bare mbounds.Nothing is none = refl
    bare mbounds.Unknown is none = let some = bounded (ap has_bounds is) in absurd (cc)
    bare mbounds.NoForm is none = let some = bounded (ap has_bounds is) in absurd (cc)
    bare (mbounds.Fixed c) is none = let some = bounded (ap has_bounds is) in absurd (cc)
    bare (mbounds.Named j c) is none = let some = bounded (ap has_bounds is) in absurd (cc)

pub free_there : (s : Setting) → s.frame.structs ≡ s.text.layout → (u t : CType) (n : Name) (c : IsScalarMember s u t n) (v : CType) → v ≡ u → member_has_none s.frame.structs (member_in n (out-CType v)) ≡ false
    → is_run (members_of s.text.layout c.tag) c.member ≡ true
free_there s same u t n c v is e =
    free_member s.text.layout c.tag c.number c.member (λ m. is_member_named n m.name) c.found number_is (sym (ap (λ structs. has_no_address structs c.tag c.number) same) ∙ sym (ap (member_has_none s.frame.structs) member_is) ∙ e)
  where
    number_is : c.member.name ≡ c.number
    number_is = sym (eqb-true c.number c.member.name (subst (λ n. is_member_named n c.member.name ≡ true) c.named (found_passes (λ m. is_member_named n m.name) (members_of s.text.layout c.tag) c.member c.found)))

    member_is : member_in n (out-CType v) ≡ Some (record { tag = c.tag; number = c.number })
    member_is = ap (λ u. member_in n (out-CType u)) is ∙ ap (member_in n) c.struct ∙ ap (λ n. member_in n (CType-F.Struct c.tag)) c.named
