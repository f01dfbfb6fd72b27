-- Steps that read or put a byte: they come from calls of `getchar` and `putchar`, which give integers.
use Rattle.std.proofs.Common.{◌≡◌, ◌⊎◌, inl, inr, refl, sym, ap, subst, ◌∙◌, ℕ, suc, ◌+◌, Bool, true, false, List, [], ◌∷◌, arith, rules}
use Rattle.std.specs.Prelude.{◌<◌, ◌≤◌, ◌^◌, nat_lt, nat_le, if◌then◌else◌, length, pos, Some}
use Rattle.std.proofs.lemmas.Bool.{ltb-true}
use Rattle.std.proofs.lemmas.Bool.Decides.{nat_tests}
use Rattle.ckc_base.specs.declared.places.Pos.{Pos}
use Rattle.ckc_types.specs.declared.types.CType.{CType, the_lemmas as type_lemmas}
use Rattle.ckc_types.specs.declared.types.CType.TheVariants as ctype
use Rattle.ckc_syntax.specs.declared.tree.Name.{Name}
use Rattle.ckc_syntax.specs.declared.tree.Name.TheVariants as name
use Rattle.ckc_syntax.specs.declared.tree.Expr.{every_here-Expr}
use Rattle.ckc_syntax.specs.declared.tree.Node.{Node-F, out-Node}
use Rattle.ckc_typed.specs.declared.environment.Signature.{Signature}
use Rattle.ckc_typed.specs.declared.typed.Note.{Note}
use Rattle.ckc_typed.specs.declared.typed.Typed.{Typed}
use Rattle.ckc_typed.specs.Environment.{signature_named, getchar, putchar}
use Rattle.ckc_typed.specs.Trees.{NotedExpr, NotedLayer}
use Rattle.ckc_typed.specs.Types.{is_integer, is_pointer}
use Rattle.ckc_typed_welltyped.specs.Expressions.{AnyLimits, AnyNode, IsCall, HasType}
use Rattle.ckc_blame_sound.specs.ckc_bounds_points.specs.declared.frame.Local.{Local}
use Rattle.ckc_blame_sound.specs.ckc_bounds_points.specs.Frames.{local_at}
use Rattle.ckc_blame_sound.specs.ckc_bounds_views.specs.Parts.{capped}
use Rattle.ckc_source.specs.declared.stmt.Spot.{Spot}
use Rattle.ckc_source.specs.Code.{Target, Code, End, Get, Put}
use Rattle.ckc_build_elaborate.specs.Steps.{Destination, called, assigned, assigned_form}
use Rattle.ckc_blame_sound.specs.Bodies.{AreFresh}
use Rattle.ckc_blame_sound.specs.Settings.{Setting}
use Rattle.ckc_blame_sound.specs.Values.{value, IsNumberOf}
use Rattle.ckc_blame_sound.specs.Valuations.{Valuation, IsValuationOf, AreNumbersOf}
use Rattle.ckc_blame_sound.specs.Typed.{IsRow, HasRow, IsTyped}
use Rattle.ckc_blame_sound.specs.JudgedTexts.{globals_in}
use Rattle.ckc_blame_given.specs.ckc_blame_pointers.proofs.Later.{zero_typed}
use Rattle.ckc_blame_steps.proofs.Origins.{is_bundled, is_ending}
use Rattle.ckc_blame_steps.proofs.Own.{own_valuation, own_values}

-- a step that reads or puts a byte, with its target
abbrev pub IsByteStep : Code → Target → Type 0
IsByteStep (Get sp t rest) target = target ≡ t
IsByteStep (Put sp t e rest) target = target ≡ t
IsByteStep c target = ⊥

pub no_bundle : (c : Code) (target : Target) → IsByteStep c target → is_bundled c ≡ true → ⊥
no_bundle (Get sp t rest) target h is = absurd (cc)
no_bundle (Put sp t e rest) target h is = absurd (cc)
no_bundle c target h is = h

pub no_ending : (c : Code) (target : Target) → IsByteStep c target → is_ending c ≡ true → ⊥
no_ending (Get sp t rest) target h is = absurd (cc)
no_ending (Put sp t e rest) target h is = absurd (cc)
no_ending c target h is = h

-- ---- the calls that they come from

module _ (s : Setting) (sp : Spot) (to : Destination) (k : ℕ) (target : Target) where
  pub record IsByteCall (x : NotedExpr) : Type 0 where
    pub callee : Name
    pub args : List NotedExpr
    pub is : out-Node Name Note x.node ≡ Node-F.Call callee args
    pub target_is : target ≡ to.target
    pub own : (callee ≡ name.Getchar) ⊎ (callee ≡ name.Putchar)

  called_own : (n : Name) (es : List NotedExpr) (at : Pos) → IsByteStep (called s.text s.variables sp to k n es at End) target → (target ≡ to.target) × ((n ≡ name.Getchar) ⊎ (n ≡ name.Putchar))
  called_own (name.Function j) es at h = absurd h
  called_own name.Getchar es at h = (h, inl refl)
  called_own name.Putchar es at h = (h, inr refl)
  called_own n es at h = absurd h

  pub byte_call : (x : NotedExpr) → IsByteStep (assigned s.text s.variables sp to k x End) target → IsByteCall x
  byte_call x h = by (out-Node Name Note x.node) refl h
    where
      by : (y : NotedLayer) → out-Node Name Note x.node ≡ y → IsByteStep (assigned_form s.text s.variables sp to k x y End) target → IsByteCall x
      by (Node-F.Call n es) is h =
          let c = called_own n es x.pos h in
          record { callee = n; args = es; is = is; target_is = c.0; own = c.1 }
      by y is h = absurd h

int_bare : is_pointer ctype.Int ≡ false
int_bare = search (rules, type_lemmas)

-- they give integers
pub own_bare : (p : Typed) (s : Setting) (x : NotedExpr) (n : Name) (es : List NotedExpr) → IsTyped (globals_in p) s x → out-Node Name Note x.node ≡ Node-F.Call n es
    → (n ≡ name.Getchar) ⊎ (n ≡ name.Putchar) → is_pointer x.note.ctype ≡ false
own_bare p s x n es typed is own = by own
  where
    row : IsRow (globals_in p) s (out-Node Name Note x.node) x.note
    row = every_here-Expr _ _ AnyLimits AnyNode (HasRow (globals_in p) s) x typed

    call : IsCall (globals_in p) row.mode n es x.note.ctype
    call = subst (λ (y : NotedLayer). HasType (globals_in p) s.variables row.mode y x.note.ctype) is row.row

    by : (n ≡ name.Getchar) ⊎ (n ≡ name.Putchar) → is_pointer x.note.ctype ≡ false
    by (inl e) =
        let named : Some getchar ≡ Some call.0 = sym (ap (signature_named (globals_in p)) e) ∙ call.1 in
        let same : getchar ≡ call.0 = cc in
        ap is_pointer (call.3 ∙ ap (λ (t : Signature). t.result) (sym same)) ∙ int_bare
    by (inr e) =
        let named : Some putchar ≡ Some call.0 = sym (ap (signature_named (globals_in p)) e) ∙ call.1 in
        let same : putchar ≡ call.0 = cc in
        ap is_pointer (call.3 ∙ ap (λ (t : Signature). t.result) (sym same)) ∙ int_bare

-- ---- a valuation in which the fresh variables stand for zero

module _ (s : Setting) (locals : List ℕ) (fresh : ℕ) (are : AreFresh s.frame fresh) where
  abbrev pub zeros : Valuation
  zeros = record (own_valuation s locals) { number = λ x. if nat_le x fresh then value s.frame locals x else pos 0 }

  within : (k : ℕ) (l : Local) → local_at s.frame k ≡ Some l → is_integer l.ctype ≡ true → nat_le (suc k) fresh ≡ true
  within k l there integer = by (nat_lt k fresh) refl
    where
      by : (b : Bool) → nat_lt k fresh ≡ b → nat_le (suc k) fresh ≡ true
      by true h = let less : k < fresh = ltb-true k fresh h in grind (arith, nat_tests)
      by false h = let not_less : fresh ≤ k = grind (arith, nat_tests) in let not_integer = are k l not_less there in absurd (cc)

  pub zeros_are : IsValuationOf s locals zeros
  zeros_are = record {
    zero = by (nat_le 0 fresh);
    number = λ k l there integer. ap (λ (b : Bool). if b then value s.frame locals (suc k) else pos 0) (within k l there integer) ∙ (own_values s locals).number k l there integer;
    pointer = λ k. refl;
    array = λ k. refl;
  }
    where
      by : (b : Bool) → (if b then value s.frame locals 0 else pos 0) ≡ pos 0
      by true = refl
      by false = refl

  zeros_from : (ts : List CType) (x : ℕ) → fresh < x → x < 2 ^ 32 → AreNumbersOf zeros x ts
  zeros_from [] x a b = tt
  zeros_from (t ∷ ts) x a b = (subst (IsNumberOf t) (sym (ap (λ (b : Bool). if b then value s.frame locals x else pos 0) past)) (zero_typed (Some t)), zeros_from ts (capped x 1) (omega arith) (omega arith))
    where
      past : nat_le x fresh ≡ false
      past = grind (arith, nat_tests)

  pub zeros_numbers : (from : ℕ) (ts : List CType) → fresh ≤ from → from + length ts < 2 ^ 32 → AreNumbersOf zeros (capped from 1) ts
  zeros_numbers from [] a h = tt
  zeros_numbers from (t ∷ ts) a h = zeros_from (t ∷ ts) (capped from 1) (above (length (t ∷ ts)) (some ts) h) (omega arith)
    where
      above : (n : ℕ) → 0 < n → from + n < 2 ^ 32 → fresh < capped from 1
      above n some h = omega arith

      some : (ts : List CType) → 0 < length (t ∷ ts)
      some ts = omega arith
