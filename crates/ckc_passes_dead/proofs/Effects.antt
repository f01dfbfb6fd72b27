-- Operations that do more than write a register are never dropped.
use Rattle.std.proofs.Common.{◌≡◌, false, cond, List, ◌∷◌, refl, sym, ap, ◌∙◌}
use Rattle.std.specs.List.{filter}
use Rattle.std.specs.Option.{is_none}
use Rattle.ckc_tac.specs.declared.code.Tac.{Tac}
use Rattle.ckc_tac.specs.declared.code.TacBlock.{TacBlock}
use Rattle.ckc_tac.specs.declared.code.TacEnd.{TacEnd}
use Rattle.ckc_tac.specs.declared.code.TacOp.{TacOp}
use Rattle.ckc_passes.specs.Passes.{Becomes, ended, kept, dropped, BlockBecomes, FunctionBecomes, ProgramBecomes}
use Rattle.ckc_passes.proofs.Shrunk.{same_map}
use Rattle.ckc_passes_dead.specs.Dead.{IsDead, dead_pass}
use Rattle.ckc_passes_dead.specs.Effects.{has_effect, effects_in_block, effects_in_function, effects_of}

dead_has_none : (blocks : List TacBlock) (end : TacEnd) (ops : List TacOp) (op : TacOp) → IsDead blocks end ops op → has_effect op ≡ false
dead_has_none blocks end ops op dead = ap is_none dead.1

same_effects : (blocks : List TacBlock) {done ops : List TacOp} {end : TacEnd} {left : List TacOp} {low_end : TacEnd}
    → Becomes dead_pass blocks done ops end left low_end → filter has_effect left ≡ filter has_effect ops
same_effects blocks (ended e) = refl
same_effects blocks (kept {ops = ops} {lower = lower} {op = op} {low = low} k rest) =
    ap (λ o. filter has_effect (o ∷ lower)) k.0 ∙ ap (λ l. cond (has_effect op) (op ∷ l) l) (same_effects blocks rest)
same_effects blocks (dropped {ops = ops} {lower = lower} {op = op} {end = end} d rest) =
    same_effects blocks rest
    ∙ sym (ap (λ b. cond b (op ∷ filter has_effect ops) (filter has_effect ops)) (dead_has_none blocks end ops op d))

pub effects_stay : (t after : Tac) → ProgramBecomes dead_pass t after → effects_of after ≡ effects_of t
effects_stay t after made =
    same_map (FunctionBecomes dead_pass) effects_in_function effects_in_function
    (λ f g m. same_map (BlockBecomes dead_pass f.blocks) effects_in_block effects_in_block (λ b c n. same_effects f.blocks n) f.blocks g.blocks m.blocks)
    t.funcs after.funcs made.funcs
