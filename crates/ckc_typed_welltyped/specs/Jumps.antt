-- Where `break` and `continue` lead (ISO C11, 6.8.6).
use Rattle.std.specs.Prelude.{Bool, true, false, ◌||◌}
use Rattle.ckc_syntax.specs.Inside.{one_has, inside_if, inside_each}
use Rattle.ckc_syntax.specs.declared.tree.Act.{Act-F}

-- Whether a `break` or a `continue` leaves a statement, by its text: those in a loop stay in that loop.
abbrev pub jumps_out : {N A B S : Type 0} → (S → Bool) → Act-F N A B S → Bool
jumps_out of_stmt (Act-F.Block mode ss) = inside_each one_has of_stmt ss
jumps_out of_stmt (Act-F.If e s t) = of_stmt s || inside_if one_has of_stmt t
jumps_out of_stmt Act-F.Break = true
jumps_out of_stmt Act-F.Continue = true
jumps_out of_stmt (Act-F.Bundle ss) = inside_each one_has of_stmt ss
jumps_out of_stmt _ = false
