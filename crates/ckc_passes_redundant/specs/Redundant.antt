-- The pass that drops checks which repeat an earlier one of their block. Operations that are done are given last first.
use Rattle.std.specs.Prelude.{◌≡◌, ◌⊎◌, List, [], ◌∷◌}
use Rattle.ckc_base.specs.declared.runtime_checks.Check.{Check as CheckKind}
use Rattle.ckc_tac.specs.declared.code.Comparison.{Comparison}
use Rattle.ckc_tac.specs.declared.code.Operand.{Operand}
use Rattle.ckc_tac.specs.declared.code.TacOp.{TacOp}
use Rattle.ckc_tac.specs.declared.code.TacOp.TheVariants.{Check}
use Rattle.ckc_tac.specs.Operations.{operation_of}
use Rattle.ckc_passes.specs.Values.{Term, combined, operand_after}
use Rattle.ckc_passes.specs.Passes.{Pass}

-- the value that a check looks at after these operations: that of its comparison
abbrev pub compared_after : List TacOp → Comparison → Operand → Operand → Term
compared_after before comparison a b = combined (operation_of comparison) (operand_after before a) (operand_after before b)

-- the operation is this check, and the value that it looked at after those before it was this one
abbrev pub Looks : (before : List TacOp) → TacOp → CheckKind → Term → Type 0
Looks before (Check check at comparison a b) kind value = (check ≡ kind) × (compared_after before comparison a b ≡ value)
Looks before op kind value = ⊥

-- one of the operations is this check, and looked at this value
abbrev pub HasLooked : List TacOp → CheckKind → Term → Type 0
HasLooked [] kind value = ⊥
HasLooked (op ∷ before) kind value = Looks before op kind value ⊎ HasLooked before kind value

-- After operations of its block, a check repeats one of them: that has the same number and looked at the same value.
abbrev pub Repeats : List TacOp → TacOp → Type 0
Repeats done (Check check at comparison a b) = HasLooked done check (compared_after done comparison a b)
Repeats done op = ⊥

-- Exactly the operations that repeat an earlier one are dropped, and all else stays as it was.
abbrev pub redundant_pass : Pass
redundant_pass = record {
  Keeps = λ blocks done ops end op low. (low ≡ op) × (Repeats done op → ⊥);
  Drops = λ blocks done ops end op. Repeats done op;
  Ends = λ blocks done end low_end. low_end ≡ end;
}
