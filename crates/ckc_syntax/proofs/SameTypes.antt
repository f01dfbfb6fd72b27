-- Types are the same but for their places exactly when they are equal without them.
use Rattle.std.proofs.Common.{rules, ◌≡◌, ℕ, ◌∙◌, ap, sym, refl, Bool}
use Rattle.ckc_base.specs.Places.{start}
use Rattle.ckc_syntax.specs.declared.tree.TypeTree.{TypeTree-F, map-TypeTree, ind-TypeTree, out-TypeTree, roll-TypeTree, fold-roll-TypeTree, fold_out-TypeTree, the_lemmas as type_lemmas}
use Rattle.ckc_syntax.specs.code.SameParts.{same_types, same_type}
use Rattle.ckc_syntax.specs.Trees.{Spelling, TypeTree}
use Rattle.ckc_syntax.specs.Placeless.{type_at_start, type_rolled, placeless_type}
use Rattle.ckc_syntax.proofs.Tells.{Tells, yes, unlike, made, same_tells, names}

pub out_of : (x : TypeTree-F Spelling TypeTree) → out-TypeTree Spelling (roll-TypeTree Spelling x) ≡ x
out_of x = search (rules, type_lemmas)

abbrev TypeTells : TypeTree → Type 0
TypeTells t = (u : TypeTree) → Tells (same_type t u) (placeless_type t) (placeless_type u)

-- a type with its claim
abbrev Kept : Type 0
Kept = (t : TypeTree) × TypeTells t

abbrev inner : TypeTree-F Spelling Kept → TypeTree-F Spelling TypeTree
inner = map-TypeTree Spelling Kept TypeTree (λ e. e.0)

abbrev test : TypeTree-F Spelling TypeTree → TypeTree-F Spelling (TypeTree → Bool)
test = map-TypeTree Spelling TypeTree (TypeTree → Bool) same_type

abbrev bare : TypeTree-F Spelling TypeTree → TypeTree-F Spelling TypeTree
bare x = type_at_start (map-TypeTree Spelling TypeTree TypeTree placeless_type x)

abbrev form : TypeTree-F Spelling TypeTree → ℕ
form TypeTree-F.Int = 0
form TypeTree-F.Unsigned = 1
form TypeTree-F.Char = 2
form TypeTree-F.Void = 3
form (TypeTree-F.Struct s p) = 4
form (TypeTree-F.Raw t p) = 5
form (TypeTree-F.One t) = 6
form (TypeTree-F.Arr t) = 7
form (TypeTree-F.Nt t) = 8

abbrev Layer : Type 0
Layer = TypeTree-F Spelling TypeTree

inj_Struct : (s t : Spelling) → ◌≡◌ {A = Layer} (TypeTree-F.Struct s start) (TypeTree-F.Struct t start) → s ≡ t
inj_Struct s t e = cc

inj_Raw : (t u : TypeTree) → ◌≡◌ {A = Layer} (TypeTree-F.Raw t start) (TypeTree-F.Raw u start) → t ≡ u
inj_Raw t u e = cc

inj_One : (t u : TypeTree) → ◌≡◌ {A = Layer} (TypeTree-F.One t) (TypeTree-F.One u) → t ≡ u
inj_One t u e = cc

inj_Arr : (t u : TypeTree) → ◌≡◌ {A = Layer} (TypeTree-F.Arr t) (TypeTree-F.Arr u) → t ≡ u
inj_Arr t u e = cc

inj_Nt : (t u : TypeTree) → ◌≡◌ {A = Layer} (TypeTree-F.Nt t) (TypeTree-F.Nt u) → t ≡ u
inj_Nt t u e = cc

step : (y : TypeTree-F Spelling Kept) (v : TypeTree-F Spelling TypeTree) → Tells (same_types (test (inner y)) v) (bare (inner y)) (bare v)
step TypeTree-F.Int TypeTree-F.Int = yes _
step TypeTree-F.Unsigned TypeTree-F.Unsigned = yes _
step TypeTree-F.Char TypeTree-F.Char = yes _
step TypeTree-F.Void TypeTree-F.Void = yes _
step (TypeTree-F.Struct s p) (TypeTree-F.Struct t q) = made (λ (z : Spelling). TypeTree-F.Struct z start) (names s t) (inj_Struct _ _)
step (TypeTree-F.Raw k p) (TypeTree-F.Raw u q) = made (λ (z : TypeTree). TypeTree-F.Raw z start) (k.1 u) (inj_Raw _ _)
step (TypeTree-F.One k) (TypeTree-F.One u) = made (λ (z : TypeTree). TypeTree-F.One z) (k.1 u) (inj_One _ _)
step (TypeTree-F.Arr k) (TypeTree-F.Arr u) = made (λ (z : TypeTree). TypeTree-F.Arr z) (k.1 u) (inj_Arr _ _)
step (TypeTree-F.Nt k) (TypeTree-F.Nt u) = made (λ (z : TypeTree). TypeTree-F.Nt z) (k.1 u) (inj_Nt _ _)
step y v = unlike form _ _ refl

rolled : {b : Bool} (x y : TypeTree-F Spelling TypeTree) → Tells b x y → Tells b (roll-TypeTree Spelling x) (roll-TypeTree Spelling y)
rolled x y t = made (roll-TypeTree Spelling) t (λ e. sym (out_of x) ∙ ap (out-TypeTree Spelling) e ∙ out_of y)

pub type_tells : (t : TypeTree) → TypeTells t
type_tells = ind-TypeTree Spelling TypeTells (λ x y is u.
    same_tells _ _ _ _ _ _
    (ap (λ f. f u) (fold-roll-TypeTree Spelling (TypeTree → Bool) (λ t v. same_types t (out-TypeTree Spelling v)) x) ∙ ap (λ z. same_types (test z) (out-TypeTree Spelling u)) (sym is))
    (fold-roll-TypeTree Spelling TypeTree type_rolled x ∙ ap (λ z. roll-TypeTree Spelling (bare z)) (sym is))
    (fold_out-TypeTree Spelling TypeTree type_rolled u)
    (rolled _ _ (step y (out-TypeTree Spelling u))))
