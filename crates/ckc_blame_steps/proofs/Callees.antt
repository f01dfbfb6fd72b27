-- Functions that are called, as they are judged and as they run.
use Rattle.std.proofs.Common.{◌≡◌, ◌∙◌, sym, ap, refl, arith, ℕ, suc, ◌+◌, Bool, true, false, List, [], ◌∷◌, ◌++◌, map}
use Rattle.std.specs.Prelude.{if◌then◌else◌, Option, Some, slice_get}
use Rattle.std.specs.List.{Contains, find, flat_map}
use Rattle.std.proofs.lemmas.Bool.{eqb-true}
use Rattle.ckc_base.specs.declared.arithmetic.Mode.TheVariants.{Checked}
use Rattle.ckc_types.specs.declared.types.CType.{CType}
use Rattle.ckc_syntax.specs.declared.tree.Name.{Name}
use Rattle.ckc_syntax.specs.declared.tree.Name.TheVariants as name
use Rattle.ckc_syntax.specs.declared.tree.Item.TheVariants as item
use Rattle.ckc_typed.specs.declared.environment.Parameter.{Parameter}
use Rattle.ckc_typed.specs.declared.environment.Signature.{Signature}
use Rattle.ckc_typed.specs.declared.typed.Typed.{Typed}
use Rattle.ckc_typed.specs.Environment.{same_name, parameter_declared, signature_declared, signatures_of_item, type_declared}
use Rattle.ckc_typed.specs.Interfaces.{is_interface, seen}
use Rattle.ckc_typed.specs.Trees.{Decl, NotedDecl, NotedHead, NotedItem, NotedStmt}
use Rattle.ckc_typed.specs.Types.{type_written}
use Rattle.ckc_typed_welltyped.specs.Noteless.{bare_decl, bare_head, bare_item}
use Rattle.ckc_typed_welltyped.proofs.Seen.{seen_bare, is_interface_bare}
use Rattle.ckc_source.specs.Code.{Function}
use Rattle.ckc_build_elaborate.specs.Functions.{function_elaborated, functions_in, literals_of_item}
use Rattle.ckc_build_elaborate.specs.Lists.{numbered}
use Rattle.ckc_build_elaborate.specs.Names.{number_of, params_of}
use Rattle.ckc_build_elaborate.specs.Objects.{count_declared}
use Rattle.ckc_blame_sound.specs.Settings.{setting_of}
use Rattle.ckc_blame_sound.proofs.Strings.{NumbersStrings, numbers_first, numbers_later}
use Rattle.ckc_blame_sound.specs.JudgedTexts.{IsJudged}
use Rattle.ckc_blame_sound.proofs.Literals.{text_strings}
use Rattle.ckc_blame_steps.proofs.CalledHeads.{first_in, later_in, head_is}
use Rattle.ckc_blame_steps.specs.Callees.{HaveCallees}

-- a function of some items with this signature, at the number that its name has
record IsFound (p : Typed) (k c : ℕ) (items : List NotedItem) (t : Signature) : Type 0 where
  pub head : NotedHead
  pub body : NotedStmt
  pub literals : ℕ
  pub there : Contains items (item.Function head body)
  pub named : head.name ≡ name.Function k
  pub at : slice_get (numbered (functions_in p) literals_of_item c items) (number_of (name.Function k) items) ≡ Some (function_elaborated p literals head body)
  pub params : params_of (name.Function k) items ≡ head.params
  pub signature : t ≡ signature_declared (bare_head head)
  pub strings : NumbersStrings c items literals (item.Function head body)

abbrev is_called : ℕ → Signature → Bool
is_called k s = same_name s.name (name.Function k)

abbrev signatures : List NotedItem → List Signature
signatures items = flat_map signatures_of_item (map bare_item items)

name_is : (n : Name) (m : ℕ) → same_name n (name.Function m) ≡ true → n ≡ name.Function m
name_is (name.Function k) m e = ap name.Function (eqb-true k m e)
name_is n m e = absurd cc

module _ (p : Typed) (k : ℕ) (t : Signature) where
  -- an item that is no function adds none
  passed : (c : ℕ) (i : NotedItem) (rest : List NotedItem) → functions_in p c i ≡ []
      → number_of (name.Function k) (i ∷ rest) ≡ number_of (name.Function k) rest → params_of (name.Function k) (i ∷ rest) ≡ params_of (name.Function k) rest
      → IsFound p k (c + literals_of_item i) rest t → IsFound p k c (i ∷ rest) t
  passed c i rest none number params f = record {
    head = f.head;
    body = f.body;
    literals = f.literals;
    there = later_in i rest (item.Function f.head f.body) f.there;
    named = f.named;
    at = ap (λ fs. slice_get (fs ++ numbered (functions_in p) literals_of_item (c + literals_of_item i) rest) (number_of (name.Function k) (i ∷ rest))) none
        ∙ ap (slice_get (numbered (functions_in p) literals_of_item (c + literals_of_item i) rest)) number ∙ f.at;
    params = params ∙ f.params;
    signature = f.signature;
    strings = numbers_later i rest c f.literals (item.Function f.head f.body) f.strings;
  }

  found : (c : ℕ) (items : List NotedItem) → find (is_called k) (signatures items) ≡ Some t → IsFound p k c items t
  found c [] e = absurd cc
  found c (item.Function h body ∷ rest) e = by (same_name h.name (name.Function k)) refl e (λ d. found (c + literals_of_item (item.Function h body)) rest d)
    where
      more : List Function
      more = numbered (functions_in p) literals_of_item (c + literals_of_item (item.Function h body)) rest

      by : (b : Bool) → same_name h.name (name.Function k) ≡ b → (if b then Some (signature_declared (bare_head h)) else find (is_called k) (signatures rest)) ≡ Some t
          → (find (is_called k) (signatures rest) ≡ Some t → IsFound p k (c + literals_of_item (item.Function h body)) rest t) → IsFound p k c (item.Function h body ∷ rest) t
      by true u e later = record {
        head = h;
        body = body;
        literals = c;
        there = first_in (item.Function h body) rest;
        named = name_is h.name k u;
        at = ap (λ x. slice_get (function_elaborated p c h body ∷ more) (if x then 0 else number_of (name.Function k) rest + 1)) u;
        params = ap (λ x. if x then h.params else params_of (name.Function k) rest) u;
        signature = let same : ◌≡◌ {A = Option Signature} (Some (signature_declared (bare_head h))) (Some t) = e in cc;
        strings = numbers_first (item.Function h body) rest c;
      }
      by false u e later =
          let f = later e in
          let next : number_of (name.Function k) rest + 1 ≡ suc (number_of (name.Function k) rest) = omega arith in
          record {
            head = f.head;
            body = f.body;
            literals = f.literals;
            there = later_in (item.Function h body) rest (item.Function f.head f.body) f.there;
            named = f.named;
            at = ap (λ x. slice_get (function_elaborated p c h body ∷ more) (if x then 0 else number_of (name.Function k) rest + 1)) u
                ∙ ap (slice_get (function_elaborated p c h body ∷ more)) next ∙ f.at;
            params = ap (λ x. if x then h.params else params_of (name.Function k) rest) u ∙ f.params;
            signature = f.signature;
            strings = numbers_later (item.Function h body) rest c f.literals (item.Function f.head f.body) f.strings;
          }
  found c (item.Directive d ∷ rest) e = passed c (item.Directive d) rest refl refl refl (found (c + literals_of_item (item.Directive d)) rest e)
  found c (item.Tag n at ∷ rest) e = passed c (item.Tag n at) rest refl refl refl (found (c + literals_of_item (item.Tag n at)) rest e)
  found c (item.Struct n ms at ∷ rest) e = passed c (item.Struct n ms at) rest refl refl refl (found (c + literals_of_item (item.Struct n ms at)) rest e)
  found c (item.Static d ∷ rest) e = passed c (item.Static d) rest refl refl refl (found (c + literals_of_item (item.Static d)) rest e)
  found c (item.Proto g ∷ rest) e = passed c (item.Proto g) rest refl refl refl (found (c + literals_of_item (item.Proto g)) rest e)

abbrev parameter : CType → Bool → Parameter
parameter t b = record { ctype = t; is_interface = b }

parameter_bare : (d : NotedDecl) → parameter_declared (bare_decl d) ≡ parameter_declared d
parameter_bare d =
    ap (λ (x : Decl). parameter (type_declared x) (is_interface (bare_decl d))) (seen_bare Checked d)
    ∙ ap (parameter (type_declared (seen Checked d))) (is_interface_bare d)

params_bare : (ds : List NotedDecl) → map parameter_declared (map bare_decl ds) ≡ map parameter_declared ds
params_bare [] = refl
params_bare (d ∷ ds) = ap (λ p. p ∷ map parameter_declared (map bare_decl ds)) (parameter_bare d) ∙ ap (λ ps. parameter_declared d ∷ ps) (params_bare ds)

result_is : (p : Typed) (h : NotedHead) (body : NotedStmt) → (setting_of p h body).result ≡ type_written h.result
unfolding setting_of
result_is p h body = refl

pub callees_known : (p : Typed) → IsJudged p → HaveCallees p
callees_known p j s f k t is named =
    let at = found p k t (count_declared p.tree.items) p.tree.items named in
    record {
      callee = function_elaborated p at.literals at.head at.body;
      called = setting_of p at.head at.body;
      function = record { head = at.head; body = at.body; literals = at.literals; there = at.there; judged = refl; runs = refl; strings = at.strings (setting_of p at.head at.body) (text_strings j.typed p at.head at.body j.has_types.typed j.has_bounds) };
      there = at.at;
      head = head_is p j s f k at.head at.body is at.there at.named;
      params = at.params;
      types = ap (λ (x : Signature). x.params) at.signature ∙ params_bare at.head.params;
      result = ap (λ (x : Signature). x.result) at.signature ∙ sym (result_is p at.head at.body);
    }
