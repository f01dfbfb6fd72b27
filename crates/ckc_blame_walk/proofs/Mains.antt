-- `main` has a body, and no parameters.
use Rattle.std.proofs.Common.{◌≡◌, ⊎_elim, inl, inr, ℕ, zero, suc, ◌<◌, Bool, true, false, List, [], ◌∷◌, ◌++◌, length, map, refl, sym, ◌∙◌, ap, subst, arith}
use Rattle.std.specs.Prelude.{◌≢◌, if◌then◌else◌, slice_index_or}
use Rattle.std.specs.List.{All, Any, flat_map}
use Rattle.std.proofs.lemmas.Bool.{eqb-true, eq-eqb}
use Rattle.std.proofs.lemmas.List.Elements.{All-head, All-tail}
use Rattle.ckc_syntax.specs.declared.tree.Name.{Name}
use Rattle.ckc_syntax.specs.declared.tree.Name.TheVariants as name
use Rattle.ckc_syntax.specs.declared.tree.Item.TheVariants as item
use Rattle.ckc_typed.specs.declared.typed.Typed.{Typed}
use Rattle.ckc_typed.specs.Trees.{Item, Tree, NotedDecl, NotedItem}
use Rattle.ckc_typed.specs.Environment.{same_name}
use Rattle.ckc_typed_fit.specs.Bodies.{body_of, DefinesMain}
use Rattle.ckc_typed_fit.specs.Members.{AreDifferent}
use Rattle.ckc_typed_fit.specs.Numbers.{function_in}
use Rattle.ckc_typed_plain.proofs.Stay.{bodies_kept, main_kept}
use Rattle.ckc_typed_welltyped.specs.Noteless.{bare_decl, bare_item}
use Rattle.ckc_build_elaborate.specs.Names.{params_of}
use Rattle.ckc_build_elaborate.specs.Bodies.{IsDefined}
use Rattle.ckc_blame_sound.specs.JudgedTexts.{IsJudged}
use Rattle.ckc_blame_sound.proofs.Bounded.{is_bounded}
use Rattle.ckc_blame_sound.proofs.Functions.{tree_named}

-- the name is that of a function with a body, and this has no parameters
pub record IsBare (n : Name) (items : List NotedItem) : Type 0 where
  pub defined : IsDefined n items
  pub bare : params_of n items ≡ []

name_is : (n : Name) (m : ℕ) → same_name n (name.Function m) ≡ true → n ≡ name.Function m
name_is (name.Function k) m e = ap name.Function (eqb-true k m e)
name_is n m e = absurd cc

all_right : {A : Type 0} (P : A → Type 0) (xs ys : List A) → All P (xs ++ ys) → All P ys
all_right P [] ys h = h
all_right P (x ∷ xs) ys h = all_right P xs ys (All-tail P x (xs ++ ys) h)

different_right : (xs ys : List ℕ) → AreDifferent (xs ++ ys) → AreDifferent ys
different_right [] ys h = h
different_right (x ∷ xs) ys h = different_right xs ys h.1

abbrev bodies : List NotedItem → List ℕ
bodies items = flat_map body_of (map bare_item items)

-- a function with a body is one of those with a body
not_defined : (m : ℕ) (items : List NotedItem) → All (λ n. n ≢ m) (bodies items) → IsDefined (name.Function m) items → ⊥
not_defined m [] h d = d
not_defined m (item.Function f body ∷ items) h d =
    ⊎_elim
    (λ e. let one : All (λ n. n ≢ m) (m ∷ bodies items) = subst (λ n. All (λ k. k ≢ m) (function_in n ++ bodies items)) (name_is f.name m e) h in
    All-head (λ n. n ≢ m) m (bodies items) one refl)
    (λ k. not_defined m items (all_right (λ n. n ≢ m) (function_in f.name) (bodies items) h) k) d
not_defined m (item.Directive i ∷ items) h d = ⊎_elim (λ e. absurd cc) (λ k. not_defined m items h k) d
not_defined m (item.Tag n at ∷ items) h d = ⊎_elim (λ e. absurd cc) (λ k. not_defined m items h k) d
not_defined m (item.Struct n ms at ∷ items) h d = ⊎_elim (λ e. absurd cc) (λ k. not_defined m items h k) d
not_defined m (item.Static s ∷ items) h d = ⊎_elim (λ e. absurd cc) (λ k. not_defined m items h k) d
not_defined m (item.Proto g ∷ items) h d = ⊎_elim (λ e. absurd cc) (λ k. not_defined m items h k) d

no_decls : (ds : List NotedDecl) → map bare_decl ds ≡ [] → ds ≡ []
no_decls [] e = refl
no_decls (d ∷ ds) e = absurd cc

first_main : (m : ℕ) (i : NotedItem) (items : List NotedItem) → DefinesMain m (bare_item i) → IsBare (name.Function m) (i ∷ items)
first_main m (item.Function f body) items d =
    let e : same_name f.name (name.Function m) ≡ true = ap (λ n. same_name n (name.Function m)) d.named ∙ eq-eqb m m refl in
    record {
      defined = inl e;
      bare = ap (λ b. if b then f.params else params_of (name.Function m) items) e ∙ no_decls f.params d.params;
    }
first_main m (item.Directive i) items d = absurd d
first_main m (item.Tag n at) items d = absurd d
first_main m (item.Struct n ms at) items d = absurd d
first_main m (item.Static s) items d = absurd d
first_main m (item.Proto g) items d = absurd d

later_main : (m : ℕ) (i : NotedItem) (items : List NotedItem) → AreDifferent (bodies (i ∷ items)) → IsBare (name.Function m) items → IsBare (name.Function m) (i ∷ items)
later_main m (item.Function f body) items different b = by (same_name f.name (name.Function m)) refl
  where
    by : (t : Bool) → same_name f.name (name.Function m) ≡ t → IsBare (name.Function m) (item.Function f body ∷ items)
    by true e =
        let one : AreDifferent (m ∷ bodies items) = subst (λ n. AreDifferent (function_in n ++ bodies items)) (name_is f.name m e) different in
        absurd (not_defined m items one.0 b.defined)
    by false e = record {
      defined = inr b.defined;
      bare = ap (λ t. if t then f.params else params_of (name.Function m) items) e ∙ b.bare;
    }
later_main m (item.Directive i) items different b = record { defined = inr b.defined; bare = b.bare }
later_main m (item.Tag n at) items different b = record { defined = inr b.defined; bare = b.bare }
later_main m (item.Struct n ms at) items different b = record { defined = inr b.defined; bare = b.bare }
later_main m (item.Static s) items different b = record { defined = inr b.defined; bare = b.bare }
later_main m (item.Proto g) items different b = record { defined = inr b.defined; bare = b.bare }

main_at : (m : ℕ) (items : List NotedItem) (k : ℕ) (x : Item) → k < length (map bare_item items) → slice_index_or (map bare_item items) k x ≡ x → DefinesMain m x
    → AreDifferent (bodies items) → IsBare (name.Function m) items
main_at m [] k x h e d different = absurd (omega arith)
main_at m (i ∷ items) zero x h e d different = first_main m i items (subst (DefinesMain m) (sym e) d)
main_at m (i ∷ items) (suc k) x h e d different =
    later_main m i items different (main_at m items k x (omega arith) e d (different_right (body_of (bare_item i)) (bodies items) different))

pub main_bare : (p : Typed) → IsJudged p → IsBare (name.Function p.main) p.tree.items
main_bare p j =
    let items : map bare_item p.tree.items ≡ j.named.tree.items = ap (λ (t : Tree). t.items) (tree_named p j) in
    let number : p.main ≡ j.named.main = (is_bounded j.typed p j.has_bounds).main ∙ j.has_types.main in
    let main : Any (DefinesMain p.main) (map bare_item p.tree.items) =
    subst (λ (is : List Item). Any (DefinesMain p.main) is) (sym items) (subst (λ m. Any (DefinesMain m) j.named.tree.items) (sym number) (main_kept j.spelled j.named j.has_names)) in
    main_at p.main p.tree.items main.0 main.1 main.2 main.3 main.4
    (subst (λ (is : List Item). AreDifferent (flat_map body_of is)) (sym items) (bodies_kept j.spelled j.named j.has_names).differ)
