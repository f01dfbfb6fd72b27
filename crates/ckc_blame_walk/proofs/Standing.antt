-- How what is visible goes along with the walk through a statement.
use Rattle.std.proofs.Common.{◌≡◌, refl, sym, ap, subst, ◌∙◌, ℕ, List, [], ◌∷◌, ◌++◌, length, append-nil, append_assoc}
use Rattle.std.specs.Prelude.{true}
use Rattle.std.specs.List.{Contains}
use Rattle.std.proofs.lemmas.List.Elements.{Contains-append_left, Contains-append_right}
use Rattle.ckc_syntax.specs.declared.tree.Name.{Name}
use Rattle.ckc_typed.specs.Trees.{NotedDecl}
use Rattle.ckc_typed_fit.specs.Tests.{Walked}
use Rattle.ckc_blame_sound.specs.Settings.{Setting}
use Rattle.ckc_blame_sound.specs.ckc_bounds.specs.Frames.{name_seen}
use Rattle.ckc_blame_walk.specs.Scopes.{IsScope, AreNew, AreNext, with_declared}

-- what a statement leaves visible, and what it declares
pub record Scope : Type 0 where
  pub walked : Walked
  pub declared : List NotedDecl

-- The names of a statement are visible, and what it declares comes next.
pub record Fits (s : Setting) (own : Scope) (visible : List Name) (past : List ℕ) : Type 0 where
  pub passes : own.walked.passes visible ≡ true
  pub declares : AreNext s past own.declared

-- It stands where some locals are in scope.
pub record Stands (s : Setting) (own : Scope) (seen : List ℕ) : Type 0 where
  pub visible : List Name
  pub past : List ℕ
  pub scope : IsScope s visible past seen
  pub fits : Fits s own visible past

-- After it what it leaves is visible.
abbrev pub Leads : Setting → Scope → List ℕ → List ℕ → Type 0
Leads s own seen after =
    (visible : List Name) (past : List ℕ) → Fits s own visible past → IsScope s visible past seen
    → IsScope s (visible ++ own.walked.leaves) (with_declared past own.declared) after

module _ (s : Setting) where
  pub scope_later : (visible : List Name) (past more : List ℕ) (seen : List ℕ) → ((k : ℕ) → Contains past k → Contains more k) → IsScope s visible past seen → IsScope s visible more seen
  scope_later visible past more seen h w = record {
    sees = w.sees;
    few = w.few;
    declared = λ j c. h j (w.declared j c);
    bounds = λ j k c l. w.bounds j k c (λ b. l (h k b));
  }

  pub past_stays : (past : List ℕ) (ds : List NotedDecl) (k : ℕ) → Contains past k → Contains (with_declared past ds) k
  past_stays past [] k c = c
  past_stays past (d ∷ ds) k c = past_stays (past ++ name_seen d) ds k (Contains-append_left past (name_seen d) k c)

  joined : (past : List ℕ) (ds es : List NotedDecl) → with_declared (with_declared past ds) es ≡ with_declared past (ds ++ es)
  joined past [] es = refl
  joined past (d ∷ ds) es = joined (past ++ name_seen d) ds es

  pub leads_quiet : (own : Scope) (seen after : List ℕ) → own.walked.leaves ≡ [] → after ≡ seen → Leads s own seen after
  leads_quiet own seen after none same visible past fits w =
      subst (λ x. IsScope s (visible ++ own.walked.leaves) (with_declared past own.declared) x) (sym same)
      (subst (λ v. IsScope s v (with_declared past own.declared) seen) (sym (ap (λ l. visible ++ l) none ∙ append-nil visible))
      (scope_later visible past (with_declared past own.declared) seen (past_stays past own.declared) w))

  -- ---- what is declared in one part and in the next

  front_new : (n : ℕ) (ds es : List NotedDecl) (past : List ℕ) → AreNew n past (ds ++ es) → AreNew n past ds
  front_new n [] es past h = tt
  front_new n (d ∷ ds) es past h = (h.0, front_new n ds es (past ++ name_seen d) h.1)

  back_new : (n : ℕ) (ds es : List NotedDecl) (past : List ℕ) → AreNew n past (ds ++ es) → AreNew n (with_declared past ds) es
  back_new n [] es past h = h
  back_new n (d ∷ ds) es past h = back_new n ds es (past ++ name_seen d) h.1

  pub next_front : (ds es : List NotedDecl) (past : List ℕ) → AreNext s past (ds ++ es) → AreNext s past ds
  next_front ds es past h = record {
    numbers = front_new (length s.variables) ds es past h.numbers;
    own = λ d c. h.own d (Contains-append_left ds es d c);
  }

  pub next_back : (ds es : List NotedDecl) (past : List ℕ) → AreNext s past (ds ++ es) → AreNext s (with_declared past ds) es
  next_back ds es past h = record {
    numbers = back_new (length s.variables) ds es past h.numbers;
    own = λ d c. h.own d (Contains-append_right ds es d c);
  }

  -- ---- one part after another

  pub scope_joined : (visible l m : List Name) (past : List ℕ) (ds es : List NotedDecl) (seen : List ℕ) → IsScope s ((visible ++ l) ++ m) (with_declared (with_declared past ds) es) seen
      → IsScope s (visible ++ (l ++ m)) (with_declared past (ds ++ es)) seen
  scope_joined visible l m past ds es seen w =
      subst (λ v. IsScope s v (with_declared past (ds ++ es)) seen) (append_assoc visible l m)
      (subst (λ k. IsScope s ((visible ++ l) ++ m) k seen) (joined past ds es) w)

  pub leads_both : (one two : Scope) (a b c : List ℕ) → Leads s one a b → Leads s two b c → (visible : List Name) (past : List ℕ) → Fits s one visible past
      → Fits s two (visible ++ one.walked.leaves) (with_declared past one.declared) → IsScope s visible past a
      → IsScope s (visible ++ (one.walked.leaves ++ two.walked.leaves)) (with_declared past (one.declared ++ two.declared)) c
  leads_both one two a b c h g visible past f k w =
      scope_joined visible one.walked.leaves two.walked.leaves past one.declared two.declared c
      (g (visible ++ one.walked.leaves) (with_declared past one.declared) k (h visible past f w))
