-- Statements are judged and keep what they do not assign.
use Rattle.std.proofs.Common.{◌≡◌, inl, inr, sym, subst, ℕ, true, false}
use Rattle.std.specs.Prelude.{Ok}
use Rattle.ckc_typed.specs.Statics.{strings_of_stmt}
use Rattle.ckc_typed.specs.Trees.{NotedStmt}
use Rattle.ckc_blame_sound.specs.ckc_bounds_statements.specs.Paths.{Here, path}
use Rattle.ckc_source.specs.Code.{Code, chained}
use Rattle.ckc_build_elaborate.specs.Statements.{stmt_elaborated}
use Rattle.ckc_blame_sound.specs.Settings.{Setting, AreStrings}
use Rattle.ckc_blame_sound.specs.Bodies.{IsInBody, IsNextFresh}
use Rattle.ckc_blame_sound.specs.Few.{nodes_in, HasRoom}
use Rattle.ckc_blame_sound.specs.Judged.{Exits, Judged}
use Rattle.ckc_blame_nested.specs.Nested.{nesting_of}
use Rattle.ckc_blame_walk.specs.Walks.{AreSmall, AreNamed, Stays, MayLeave}
use Rattle.ckc_blame_walk.proofs.Codes.{goes_nowhere, IsCode}
use Rattle.ckc_blame_walk.proofs.Compound.{own_of, Next}
use Rattle.ckc_blame_walk.proofs.Rooms.{statement_nodes}
use Rattle.ckc_blame_walk.specs.Scopes.{items_of, scope_of, IsScoped}
use Rattle.ckc_blame_walk.proofs.Walk.{all_hold}

pub statement_next : (s : Setting) (st after : NotedStmt) (here there : Here) → (Claimed : Type 0) → (Claimed → IsInBody s st) → (nesting_of st).fine ≡ true → (path st).judged s.frame s.head here ≡ Ok (after, there)
    → Next s Claimed (path st).assigned (nesting_of st) (own_of (scope_of (items_of s) st) (path st)) (path st).breaks (path st).continues here (after, there)
statement_next s st after here there Claimed inside fine walk = (((all_hold s Claimed st).whole inside).judged fine here).made (after, there) walk

pub statement_stays : (s : Setting) (st after : NotedStmt) (here there : Here) → (nesting_of st).fine ≡ true → (path st).judged s.frame s.head here ≡ Ok (after, there)
    → Stays s.frame (path st).assigned here.at there.at
statement_stays s st after here there fine walk = (statement_next s st after here there ⊥ (λ none. absurd none) fine walk).stays

pub statement_judged : (s : Setting) (st after : NotedStmt) (here there : Here) (literals : ℕ) (exits : Exits) (rest : Code) → (nesting_of st).fine ≡ true → IsInBody s st → IsNextFresh s here.next
    → here.counting ≡ false → AreSmall here.at.facts → AreNamed s.frame here.at.facts → IsScoped s st here.seen → HasRoom s here.next (nodes_in st) → AreStrings s literals (strings_of_stmt after) → (path st).judged s.frame s.head here ≡ Ok (after, there) → MayLeave s.frame (path st).assigned (path st).breaks (path st).continues here exits
    → Judged s rest exits there → Judged s (chained (stmt_elaborated s.text s.variables s.result literals after) rest) exits here
statement_judged s st after here there literals exits rest fine inside fresh count small named scoped room strings walk may behind =
    by ((statement_next s st after here there (Unit {0}) (λ u. inside) fine walk).code
    (record { visible = scoped.visible; past = scoped.past; scope = scoped.scope; fits = record { passes = scoped.passes; declares = scoped.declares } })
    (record { claimed = tt; counts = count; fresh = fresh }) (small, named)
    (subst (HasRoom s here.next) (sym (statement_nodes s.frame s.head st here (after, there) walk)) room) literals exits strings may)
  where
    by : IsCode s (stmt_elaborated s.text s.variables s.result literals after) exits here there
        → Judged s (chained (stmt_elaborated s.text s.variables s.result literals after) rest) exits here
    by (inl h) = subst (λ fs. Judged s (chained fs rest) exits here) (sym h.0) (subst (λ x. Judged s rest exits x) h.1 behind)
    by (inr h) = h there rest (goes_nowhere there) behind
