-- Declarations: what they become is well typed, and what is well typed is what it becomes without its notes.
use Rattle.std.proofs.Common.{◌≡◌, ◌↔◌, ◌≤◌, ℕ, ◌-◌, Bool, true, false, not, nat_le, if◌then◌else◌, List, [], ◌∷◌, length, map, refl, sym, ap, subst, ◌∙◌, arith}
use Rattle.std.specs.Prelude.{Option, Some, None, Ok, ◌&&◌, IfSome}
use Rattle.std.specs.Option.{option_map}
use Rattle.std.specs.List.{AllByRecursion, list_all}
use Rattle.std.proofs.lemmas.Bool.Decides.{nat_tests}
use Rattle.ckc_base.specs.declared.arithmetic.Mode.{Mode}
use Rattle.ckc_base.specs.Outcomes.{Outcome, bind}
use Rattle.ckc_types.specs.declared.types.CType.{CType}
use Rattle.ckc_types.specs.declared.types.Structs.{Structs}
use Rattle.ckc_syntax.specs.declared.tree.Init.TheVariants as init
use Rattle.ckc_typed.specs.declared.environment.Globals.{Globals}
use Rattle.ckc_typed.specs.declared.environment.Variable.{Variable}
use Rattle.ckc_typed.specs.Codes.{bad_operands, bad_conversion, no_initialiser}
use Rattle.ckc_typed.specs.Trees.{Limits, Expr, Decl, Init, NotedDecl, NotedInit, NotedLimits, NotedExpr}
use Rattle.ckc_typed.specs.Types.{type_written, is_scalar, is_char, kind_of}
use Rattle.ckc_typed.specs.Conversions.{converts}
use Rattle.ckc_typed.specs.Expressions.{limits_typed, expr_typed, exprs_typed, bounds_typed, value_typed}
use Rattle.ckc_typed.specs.Declarations.{init_typed, parts_typed, judged, fault_unless, is_plain, is_nothing, is_scalar_declared, bare_fault, is_checked_kind, start_fault, local_fault, string_in, count_of, kept_zero, is_start, string_fits, one_fits, init_fits, count_fits, is_element_declared, static_fault, bare_typed, local_typed, static_typed}
use Rattle.ckc_typed_welltyped.specs.Noteless.{bare_limits, bare_expr, bare_init, bare_decl}
use Rattle.ckc_typed_welltyped.specs.Expressions.{WellTypedExpr, WellTypedLimits}
use Rattle.ckc_typed_welltyped.specs.Declarations.{WellTypedInit, WellTypedParts, WellTypedBare, StartsLocal, WellTypedLocal, StartsOne, IsListFor, StartsStatic, WellTypedStatic}
use Rattle.ckc_base.proofs.Outcomes.{each_made, each_back, ok_same, made_of, goes, first_holds, second_holds, both_hold}
use Rattle.ckc_typed_welltyped.proofs.TypedNodes.{limits_give, expr_gives}
use Rattle.ckc_typed_welltyped.proofs.Backs.{limits_back, expr_back}

module _ (globals : Globals) (variables : List Variable) (mode : Mode) where
  pub bounds_give : (l : Option Limits) (k : Option NotedLimits) → bounds_typed globals variables mode l ≡ Ok k → (option_map bare_limits k ≡ l) × IfSome k (WellTypedLimits globals variables mode)
  bounds_give None k h = subst (λ z. (option_map bare_limits z ≡ None) × IfSome z (WellTypedLimits globals variables mode)) (ok_same None k h) (refl, tt)
  bounds_give (Some l) k h =
      let a = made_of (limits_typed globals variables mode l) _ k h in let g = limits_give globals variables mode l a.0 a.1 in
      subst (λ z. (option_map bare_limits z ≡ Some l) × IfSome z (WellTypedLimits globals variables mode)) (ok_same _ k a.2) (ap Some g.0, g.1)

  pub bounds_back : (k : Option NotedLimits) → IfSome k (WellTypedLimits globals variables mode) → bounds_typed globals variables mode (option_map bare_limits k) ≡ Ok k
  bounds_back None p = refl
  bounds_back (Some k) p = goes (limits_typed globals variables mode (bare_limits k)) _ k _ (limits_back globals variables mode k p) refl

  pub value_gives : (e : Option Expr) (a : Option NotedExpr) → value_typed globals variables mode e ≡ Ok a → (option_map bare_expr a ≡ e) × IfSome a (WellTypedExpr globals variables mode)
  value_gives None a h = subst (λ z. (option_map bare_expr z ≡ None) × IfSome z (WellTypedExpr globals variables mode)) (ok_same None a h) (refl, tt)
  value_gives (Some e) a h =
      let b = made_of (expr_typed globals variables mode e) _ a h in let g = expr_gives globals variables mode e b.0 b.1 in
      subst (λ z. (option_map bare_expr z ≡ Some e) × IfSome z (WellTypedExpr globals variables mode)) (ok_same _ a b.2) (ap Some g.0, g.1)

  pub value_back : (a : Option NotedExpr) → IfSome a (WellTypedExpr globals variables mode) → value_typed globals variables mode (option_map bare_expr a) ≡ Ok a
  value_back None p = refl
  value_back (Some a) p = goes (expr_typed globals variables mode (bare_expr a)) _ a _ (expr_back globals variables mode a p) refl

  init_gives : (i : Init) (n : NotedInit) → init_typed globals variables mode i ≡ Ok n → (bare_init n ≡ i) × WellTypedInit globals variables mode n
  init_gives init.Nothing n h = subst (λ z. (bare_init z ≡ init.Nothing) × WellTypedInit globals variables mode z) (ok_same _ n h) (refl, tt)
  init_gives (init.One e) n h =
      let a = made_of (expr_typed globals variables mode e) _ n h in let g = expr_gives globals variables mode e a.0 a.1 in
      subst (λ z. (bare_init z ≡ init.One e) × WellTypedInit globals variables mode z) (ok_same _ n a.2) (ap init.One g.0, g.1)
  init_gives (init.Many es) n h =
      let a = made_of (exprs_typed globals variables mode es) _ n h in
      let g = each_made (expr_typed globals variables mode) bare_expr (WellTypedExpr globals variables mode) (expr_gives globals variables mode) es a.0 a.1 in
      subst (λ z. (bare_init z ≡ init.Many es) × WellTypedInit globals variables mode z) (ok_same _ n a.2) (ap init.Many g.0, g.1)

  init_back : (n : NotedInit) → WellTypedInit globals variables mode n → init_typed globals variables mode (bare_init n) ≡ Ok n
  init_back init.Nothing p = refl
  init_back (init.One e) p = goes (expr_typed globals variables mode (bare_expr e)) _ e _ (expr_back globals variables mode e p) refl
  init_back (init.Many es) p =
      goes (exprs_typed globals variables mode (map bare_expr es)) _ es _ (each_back (expr_typed globals variables mode) bare_expr (WellTypedExpr globals variables mode) (expr_back globals variables mode) es p) refl

  abbrev Bared : Decl → NotedDecl → Type 0
  Bared d n = (bare_decl n ≡ d) × WellTypedParts globals variables mode n

  bare_with : Decl → Option Limits → Init → Decl
  bare_with d l i = record { ctype = d.ctype; name = d.name; length = d.length; bounds = l; init = i; pos = d.pos }

  parts_give : (d : Decl) (n : NotedDecl) → parts_typed globals variables mode d ≡ Ok n → Bared d n
  unfolding bare_with
  parts_give d n h =
      let a = made_of (bounds_typed globals variables mode d.bounds) _ n h in let g = bounds_give d.bounds a.0 a.1 in
      let b = made_of (init_typed globals variables mode d.init) _ n a.2 in let f = init_gives d.init b.0 b.1 in
      subst (Bared d) (ok_same _ n b.2)
      (ap (λ l. bare_with d l (bare_init b.0)) g.0 ∙ ap (λ i. bare_with d d.bounds i) f.0, record { bounds = g.1; init = f.1 })

  parts_back : (n : NotedDecl) → WellTypedParts globals variables mode n → parts_typed globals variables mode (bare_decl n) ≡ Ok n
  parts_back n p =
      goes (bounds_typed globals variables mode (option_map bare_limits n.bounds)) _ n.bounds _ (bounds_back n.bounds p.bounds)
      (goes (init_typed globals variables mode (bare_init n.init)) _ n.init _ (init_back n.init p.init) refl)

  -- a declaration that is judged after its parts
  abbrev decl_typed : (NotedDecl → Option ℕ) → Decl → Outcome NotedDecl
  decl_typed fault d = bind (parts_typed globals variables mode d) (λ n. judged (fault n) n)

  judged_fine : (f : Option ℕ) (n r : NotedDecl) → judged f n ≡ Ok r → (f ≡ None) × (n ≡ r)
  judged_fine None n r h = (refl, ok_same n r h)
  judged_fine (Some code) n r h = absurd cc

  pub decl_gives : (fault : NotedDecl → Option ℕ) (d : Decl) (n : NotedDecl) → decl_typed fault d ≡ Ok n → (bare_decl n ≡ d) × WellTypedParts globals variables mode n × (fault n ≡ None)
  decl_gives fault d n h =
      let b = made_of (parts_typed globals variables mode d) _ n h in let j = judged_fine (fault b.0) b.0 n b.2 in let g = parts_give d b.0 b.1 in
      (subst (λ z. bare_decl z ≡ d) j.1 g.0, subst (WellTypedParts globals variables mode) j.1 g.1, subst (λ z. fault z ≡ None) j.1 j.0)

  pub decl_back : (fault : NotedDecl → Option ℕ) (n : NotedDecl) → WellTypedParts globals variables mode n → fault n ≡ None → decl_typed fault (bare_decl n) ≡ Ok n
  decl_back fault n p f = goes (parts_typed globals variables mode (bare_decl n)) _ n _ (parts_back n p) (ap (λ z. judged z n) f)

no_fault : (holds : Bool) (code : ℕ) → (fault_unless holds code ≡ None) ↔ (holds ≡ true)
no_fault true code = (λ e. refl, λ e. refl)
no_fault false code = (λ e. absurd cc, λ e. absurd cc)

is_false : (b : Bool) → (not b ≡ true) ↔ (b ≡ false)
is_false true = (λ e. sym e, λ e. sym e)
is_false false = (λ e. refl, λ e. refl)

start_is : (t : CType) (i : NotedInit) → (start_fault t i ≡ None) ↔ StartsLocal t i
start_is t init.Nothing =
    let f = no_fault (not (is_checked_kind (kind_of t))) no_initialiser in let g = is_false (is_checked_kind (kind_of t)) in
    (λ e. g.0 (f.0 e), λ e. f.1 (g.1 e))
start_is t (init.One e) = no_fault (converts t e) bad_conversion
start_is t (init.Many es) = (λ e. absurd cc, λ e. absurd e)

local_is : (formed : Bool) (t : CType) (i : NotedInit) → ((if formed then start_fault t i else Some bad_operands) ≡ None) ↔ ((formed ≡ true) × StartsLocal t i)
local_is true t i = let s = start_is t i in (λ e. (refl, s.0 e), λ p. s.1 p.1)
local_is false t i = (λ e. absurd cc, λ p. absurd cc)

string_is : (t : CType) (room : ℕ) (o : Option (List ℕ)) → string_fits t room o ≡ true → (bytes : List ℕ) × (o ≡ Some bytes) × (is_char t ≡ true) × (length bytes ≤ room)
string_is t room (Some bytes) h = (bytes, refl, first_holds (is_char t) _ h, at_most (length bytes) room (second_holds (is_char t) _ h))
  where
    at_most : (a b : ℕ) → nat_le a b ≡ true → a ≤ b
    at_most a b e = grind (arith, nat_tests)
string_is t room None h = absurd cc

within : (a b : ℕ) → a ≤ b → nat_le a b ≡ true
within a b e = grind (arith, nat_tests)

at_most : (a b : ℕ) → nat_le a b ≡ true → a ≤ b
at_most a b e = grind (arith, nat_tests)

one_is : (structs : Structs) (t : CType) (plain : Bool) (room : ℕ) (e : NotedExpr) → (one_fits structs t plain room e ≡ true) ↔ StartsOne structs t plain room e
one_is structs t true room e = (λ h. (first_holds (is_scalar t) _ h, second_holds (is_scalar t) _ h), λ p. both_hold (is_scalar t) _ p.0 p.1)
one_is structs t false room e = (
  λ h. let s = string_is t room (string_in e) h in record { bytes = s.0; spelled = s.1; char = s.2; fits = s.3 },
  λ p. ap (string_fits t room) p.spelled ∙ both_hold (is_char t) _ p.char (within (length p.bytes) room p.fits),
)

all_hold : {X : Type 0} (p : X → Bool) (xs : List X) → (list_all p xs ≡ true) ↔ AllByRecursion (λ x. p x ≡ true) xs
all_hold p [] = (λ e. tt, λ e. refl)
all_hold p (x ∷ xs) = let r = all_hold p xs in (λ e. (first_holds (p x) _ e, r.0 (second_holds (p x) _ e)), λ a. both_hold (p x) _ a.0 (r.1 a.1))

list_is : (structs : Structs) (t : CType) (plain : Bool) (room : ℕ) (es : List NotedExpr) → (init_fits structs t plain room (init.Many es) ≡ true) ↔ IsListFor structs t plain room es
list_is structs t plain room es =
    let n = is_false plain in let a = all_hold (is_start structs t) es in (
      λ h. let b = second_holds (not plain) _ h in let c = second_holds (is_scalar t) _ b in
          record { array = n.0 (first_holds (not plain) _ h); scalar = first_holds (is_scalar t) _ b; fits = at_most (length es) room (first_holds (nat_le (length es) room) _ c); starts = a.0 (second_holds (nat_le (length es) room) _ c) },
      λ p. both_hold (not plain) _ (n.1 p.array) (both_hold (is_scalar t) _ p.scalar (both_hold (nat_le (length es) room) _ (within (length es) room p.fits) (a.1 p.starts))),
    )

init_is : (structs : Structs) (t : CType) (plain : Bool) (room : ℕ) (i : NotedInit) → (init_fits structs t plain room i ≡ true) ↔ StartsStatic structs t plain room i
init_is structs t plain room init.Nothing = (λ h. tt, λ p. refl)
init_is structs t plain room (init.One e) = one_is structs t plain room e
init_is structs t plain room (init.Many es) = list_is structs t plain room es

module _ (structs : Structs) (d : NotedDecl) where
  abbrev Counted : Option ℕ → Type 0
  Counted o = (n : ℕ) × (o ≡ Some n) × (1 ≤ n) × StartsStatic structs (type_written d.ctype) (is_plain d.length) (n - kept_zero d.length) d.init

  count_is : (o : Option ℕ) → (count_fits structs d o ≡ true) ↔ Counted o
  count_is None = (λ h. absurd cc, λ p. absurd cc)
  count_is (Some n) =
      let i = init_is structs (type_written d.ctype) (is_plain d.length) (n - kept_zero d.length) d.init in (
        λ h. (n, refl, at_most 1 n (first_holds (nat_le 1 n) _ h), i.0 (second_holds (nat_le 1 n) _ h)),
        λ p. back p,
      )
    where
      back : Counted (Some n) → count_fits structs d (Some n) ≡ true
      back p = ap (count_fits structs d) p.1 ∙ both_hold (nat_le 1 p.0) _ (within 1 p.0 p.2) ((init_is structs (type_written d.ctype) (is_plain d.length) (p.0 - kept_zero d.length) d.init).1 p.3)

-- the declarations
pub bare_gives : (globals : Globals) (variables : List Variable) (mode : Mode) (d : Decl) (n : NotedDecl) → bare_typed globals variables mode d ≡ Ok n → (bare_decl n ≡ d) × WellTypedBare globals variables mode n
bare_gives globals variables mode d n h =
    let g = decl_gives globals variables mode bare_fault d n h in
    let f = (no_fault (is_scalar_declared n && (is_plain n.length && is_nothing n.init)) bad_operands).0 g.2 in
    let b = second_holds (is_scalar_declared n) _ f in
    (g.0, record { scalar = first_holds (is_scalar_declared n) _ f; parts = g.1; plain = first_holds (is_plain n.length) _ b; nothing = second_holds (is_plain n.length) _ b })

pub bare_back : (globals : Globals) (variables : List Variable) (mode : Mode) (n : NotedDecl) → WellTypedBare globals variables mode n → bare_typed globals variables mode (bare_decl n) ≡ Ok n
bare_back globals variables mode n w =
    decl_back globals variables mode bare_fault n w.parts
    ((no_fault (is_scalar_declared n && (is_plain n.length && is_nothing n.init)) bad_operands).1
    (both_hold (is_scalar_declared n) _ w.scalar (both_hold (is_plain n.length) _ w.plain w.nothing)))

pub local_gives : (globals : Globals) (variables : List Variable) (mode : Mode) (d : Decl) (n : NotedDecl) → local_typed globals variables mode d ≡ Ok n → (bare_decl n ≡ d) × WellTypedLocal globals variables mode n
local_gives globals variables mode d n h =
    let g = decl_gives globals variables mode local_fault d n h in
    let f = (local_is (is_scalar_declared n && is_plain n.length) (type_written n.ctype) n.init).0 g.2 in
    (g.0, record { scalar = first_holds (is_scalar_declared n) _ f.0; parts = g.1; plain = second_holds (is_scalar_declared n) _ f.0; starts = f.1 })

pub local_back : (globals : Globals) (variables : List Variable) (mode : Mode) (n : NotedDecl) → WellTypedLocal globals variables mode n → local_typed globals variables mode (bare_decl n) ≡ Ok n
local_back globals variables mode n w =
    decl_back globals variables mode local_fault n w.parts
    ((local_is (is_scalar_declared n && is_plain n.length) (type_written n.ctype) n.init).1 (both_hold (is_scalar_declared n) _ w.scalar w.plain, w.starts))

pub static_gives : (globals : Globals) (mode : Mode) (d : Decl) (n : NotedDecl) → static_typed globals mode d ≡ Ok n → (bare_decl n ≡ d) × WellTypedStatic globals mode n
static_gives globals mode d n h =
    let g = decl_gives globals [] mode (static_fault globals.structs) d n h in
    let f = (no_fault (is_element_declared n && count_fits globals.structs n (count_of n)) bad_operands).0 g.2 in
    let c = (count_is globals.structs n (count_of n)).0 (second_holds (is_element_declared n) _ f) in
    (g.0, record { element = first_holds (is_element_declared n) _ f; parts = g.1; count = c.0; counted = c.1; some = c.2; starts = c.3 })

pub static_back : (globals : Globals) (mode : Mode) (n : NotedDecl) → WellTypedStatic globals mode n → static_typed globals mode (bare_decl n) ≡ Ok n
static_back globals mode n w =
    decl_back globals [] mode (static_fault globals.structs) n w.parts
    ((no_fault (is_element_declared n && count_fits globals.structs n (count_of n)) bad_operands).1
    (both_hold (is_element_declared n) _ w.element ((count_is globals.structs n (count_of n)).1 (w.count, w.counted, w.some, w.starts))))
