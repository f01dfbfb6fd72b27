-- Structures that are put into a list, each at the number of its tag.
use Rattle.std.proofs.Common.{◌≡◌, ◌≢◌, ◌<◌, ◌≤◌, ◌⊎◌, inl, inr, ℕ, zero, suc, ◌+◌, ◌-◌, ◌==◌, true, false, leb, eqb, List, [], ◌∷◌, ◌++◌, length, map, drop, get_or, drop-cons, if◌then◌else◌, Some, None, refl, sym, ap, ◌∙◌, arith}
use Rattle.std.specs.Prelude.{set, unwrap_or}
use Rattle.std.proofs.Math.Seq.{set_out, set-append_seam}
use Rattle.std.proofs.lemmas.List.{set-append_left, length-append, drop_all}
use Rattle.std.proofs.lemmas.Bool.Decides.{leb_tells, eqb_tells}
use Rattle.ckc_types.specs.declared.types.MemberShape.{MemberShape}
use Rattle.ckc_types.specs.declared.types.StructShape.{StructShape}
use Rattle.ckc_syntax.specs.declared.tree.Name.TheVariants as name
use Rattle.ckc_syntax.specs.declared.tree.Item.TheVariants as item
use Rattle.ckc_typed.specs.Trees.{Item, Decl}
use Rattle.ckc_typed.specs.Layouts.{shape_of, shapes_below, members_declared}
use Rattle.ckc_typing_statics.specs.code.Shapes.{with_struct}

length_below : (f : ℕ → StructShape) (n : ℕ) → length (shapes_below f n) ≡ n
length_below f zero = refl
length_below f (suc n) =
    let kept : length (shapes_below f n) ≡ n = length_below f n in
    length-append (shapes_below f n) (f n ∷ []) ∙ omega (arith, kept)

module _ (f g : ℕ → StructShape) (k : ℕ) (s : StructShape) (same : (j : ℕ) → k ≢ j → g j ≡ f j) (at : g k ≡ s) where
  step : (n : ℕ) → set (shapes_below f n) k s ≡ shapes_below g n → set (shapes_below f (suc n)) k s ≡ shapes_below g (suc n)
  step n kept = by (leb_tells (suc k) n)
    where
      long : length (shapes_below f n) ≡ n
      long = length_below f n

      behind : n ≤ k → shapes_below f n ≡ shapes_below g n
      behind h = sym (set_out (shapes_below f n) k s (omega (arith, long, h))) ∙ kept

      last : n ≤ k → ((eqb k n ≡ true) × (k ≡ n)) ⊎ ((eqb k n ≡ false) × (k ≢ n)) → set (shapes_below f (suc n)) k s ≡ shapes_below g (suc n)
      last h (inl (e, q)) =
          ap (λ i. set (shapes_below f n ++ f n ∷ []) i s) (q ∙ sym long)
          ∙ set-append_seam (shapes_below f n) (f n) [] s
          ∙ ap (λ l. l ++ s ∷ []) (behind h)
          ∙ ap (λ y. shapes_below g n ++ y ∷ []) (sym at ∙ ap g q)
      last h (inr (e, q)) =
          set_out (shapes_below f n ++ f n ∷ []) k s (by-length h q)
          ∙ ap (λ l. l ++ f n ∷ []) (behind h)
          ∙ ap (λ y. shapes_below g n ++ y ∷ []) (sym (same n q))
        where
          by-length : n ≤ k → k ≢ n → length (shapes_below f n ++ f n ∷ []) ≤ k
          by-length h q = let whole : length (shapes_below f n ++ f n ∷ []) ≡ length (shapes_below f n) + 1 = length-append (shapes_below f n) (f n ∷ []) in omega (arith, whole, long, h, q)

      by : ((leb (suc k) n ≡ true) × (suc k ≤ n)) ⊎ ((leb (suc k) n ≡ false) × (n < suc k)) → set (shapes_below f (suc n)) k s ≡ shapes_below g (suc n)
      by (inl (e, h)) =
          set-append_left (shapes_below f n) (f n ∷ []) k s (omega (arith, long, h))
          ∙ ap (λ l. l ++ f n ∷ []) kept
          ∙ ap (λ y. shapes_below g n ++ y ∷ []) (sym (same n (λ q. omega (arith, h, q))))
      by (inr (e, h)) = last (omega (arith, h)) (eqb_tells k n)

  set_below : (n : ℕ) → set (shapes_below f n) k s ≡ shapes_below g n
  set_below zero = refl
  set_below (suc n) = step n (set_below n)

module _ (member : Decl → MemberShape) (rest : List Item) (n : ℕ) where
  abbrev after : List Item → List StructShape
  after items = shapes_below (shape_of member items) n

  of_tag : (k : ℕ) (members : List Decl) (x : Item) → ((j : ℕ) → members_declared (x ∷ rest) (name.Tag j) ≡ unwrap_or (if k == j then Some members else None) (members_declared rest (name.Tag j)))
      → after (x ∷ rest) ≡ set (after rest) k (record { members = map member members })
  of_tag k members x found = sym (set_below (shape_of member rest) (shape_of member (x ∷ rest)) k (record { members = map member members }) same at n)
    where
      with_members : List Decl → StructShape
      with_members ms = record { members = map member ms }

      same : (j : ℕ) → k ≢ j → shape_of member (x ∷ rest) j ≡ shape_of member rest j
      same j q = ap with_members (found j ∙ by (eqb_tells k j))
        where
          by : ((eqb k j ≡ true) × (k ≡ j)) ⊎ ((eqb k j ≡ false) × (k ≢ j)) → unwrap_or (if k == j then Some members else None) (members_declared rest (name.Tag j)) ≡ members_declared rest (name.Tag j)
          by (inl (e, same)) = absurd (q same)
          by (inr (e, other)) = ap (λ b. unwrap_or (if b then Some members else None) (members_declared rest (name.Tag j))) e

      at : shape_of member (x ∷ rest) k ≡ with_members members
      at = ap with_members (found k ∙ by (eqb_tells k k))
        where
          by : ((eqb k k ≡ true) × (k ≡ k)) ⊎ ((eqb k k ≡ false) × (k ≢ k)) → unwrap_or (if k == k then Some members else None) (members_declared rest (name.Tag k)) ≡ members
          by (inl (e, same)) = ap (λ b. unwrap_or (if b then Some members else None) (members_declared rest (name.Tag k))) e
          by (inr (e, other)) = absurd (other refl)

  pub put_in_front : (x : Item) → after (x ∷ rest) ≡ with_struct member (after rest) x
  put_in_front (item.Directive d) = refl
  put_in_front (item.Tag t at) = refl
  put_in_front (item.Struct (name.Tag k) members at) = of_tag k members (item.Struct (name.Tag k) members at) (λ j. refl)
  put_in_front (item.Struct (name.Local k) members at) = refl
  put_in_front (item.Struct (name.Static k) members at) = refl
  put_in_front (item.Struct (name.Function k) members at) = refl
  put_in_front (item.Struct (name.Member k) members at) = refl
  put_in_front (item.Struct name.Getchar members at) = refl
  put_in_front (item.Struct name.Putchar members at) = refl
  put_in_front (item.Static d) = refl
  put_in_front (item.Proto h) = refl
  put_in_front (item.Function h body) = refl

module _ (member : Decl → MemberShape) (xs : List Item) (n i : ℕ) where
  abbrev behind : ℕ → List StructShape
  behind j = shapes_below (shape_of member (drop j xs)) n

  -- the item in front of those that have been put is put
  pub put_turn : (x : Item) (old new : List StructShape) → i < length xs → x ≡ get_or xs (length xs - 1 - i) x → old ≡ behind (length xs - i) → new ≡ with_struct member old x → new ≡ behind (length xs - (i + 1))
  put_turn x old new h e kept made =
      made ∙ ap (λ ss. with_struct member ss x) (kept ∙ ap behind one_more) ∙ sym (put_in_front member (drop (suc (length xs - 1 - i)) xs) n x) ∙ ap (λ l. shapes_below (shape_of member l) n) in_front
    where
      one_more : length xs - i ≡ suc (length xs - 1 - i)
      one_more = omega (arith, h)

      in_front : x ∷ drop (suc (length xs - 1 - i)) xs ≡ drop (length xs - (i + 1)) xs
      in_front = ap (λ y. y ∷ drop (suc (length xs - 1 - i)) xs) e ∙ sym (drop-cons xs (length xs - 1 - i) x (omega (arith, h))) ∙ ap (λ j. drop j xs) (omega (arith, h))

  pub none_put : length xs ≤ i → behind i ≡ shapes_below (λ k. record { members = [] }) n
  none_put h = ap (λ l. shapes_below (shape_of member l) n) (drop_all i xs h)
