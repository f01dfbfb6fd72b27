-- Parameters have the first numbers of locals, so what a statement declares has greater ones.
use Rattle.std.proofs.Common.{◌≡◌, ◌∙◌, ⊎_elim, ap, arith, ℕ, ◌+◌, ◌<◌, ◌≤◌, List, ◌++◌, length}
use Rattle.std.specs.List.{Contains}
use Rattle.std.proofs.lemmas.Bool.{cases_lt}
use Rattle.ckc_syntax.specs.declared.tree.Name.TheVariants as name
use Rattle.ckc_typed.specs.Trees.{NotedDecl}
use Rattle.ckc_blame_sound.specs.Numbered.{AreLocals, AreAllLocals}
use Rattle.ckc_blame_sound.proofs.ByNumber.{apart, counted_by}
use Rattle.ckc_blame_sound.proofs.Locals.{names_declared}

-- what is declared after some that count has a number that is no less than how many those are
pub locals_come_after : (ds es : List NotedDecl) (d : NotedDecl) (k : ℕ) → AreLocals 0 (names_declared ds) → AreAllLocals (names_declared (ds ++ es)) → Contains es d → d.name ≡ name.Local k → length ds ≤ k
locals_come_after ds es d k first numbers there named = not_less (λ l. (let c = counted_by 0 ds k first l in apart ds es c.0 d k numbers c.1 (c.2 ∙ ap name.Local (from_zero k)) there named))
  where
    from_zero : (i : ℕ) → 0 + i ≡ i
    from_zero i = omega arith

    not_less : (k < length ds → ⊥) → length ds ≤ k
    not_less h = ⊎_elim (λ l. absurd (h l)) (λ m. m) (cases_lt k (length ds))
