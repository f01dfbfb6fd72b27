-- The names of the instructions, each with its kind.
use Rattle.std.proofs.Common.{◌≡◌, Some, refl, arith}
use Rattle.ckc_rv_operations.specs.declared.operations.BranchOp.{BranchOp}
use Rattle.ckc_rv_operations.specs.declared.operations.BranchOp.TheVariants.{Beq}
use Rattle.ckc_rv_operations.specs.declared.operations.LoadOp.{LoadOp}
use Rattle.ckc_rv_operations.specs.declared.operations.LoadOp.TheVariants.{Lb}
use Rattle.ckc_rv_operations.specs.declared.operations.StoreOp.{StoreOp}
use Rattle.ckc_rv_operations.specs.declared.operations.StoreOp.TheVariants.{Sb}
use Rattle.ckc_rv_operations.specs.declared.operations.ImmOp.{ImmOp}
use Rattle.ckc_rv_operations.specs.declared.operations.ImmOp.TheVariants.{Addi}
use Rattle.ckc_rv_operations.specs.declared.operations.RegOp.{RegOp}
use Rattle.ckc_rv_operations.specs.declared.operations.RegOp.TheVariants.{Add}
use Rattle.ckc_asm.specs.declared.items.Kind.TheVariants as kind
use Rattle.ckc_asm.specs.Names.{branch_name, load_name, store_name, imm_name, reg_name}
use Rattle.ckc_asm.specs.code.Found.{kind_of}
use Rattle.ckc_asm.proofs.Words.{IsRun}

pub branch_kind : (op : BranchOp) → (kind_of (branch_name op) ≡ Some (kind.Branch op)) × IsRun (branch_name op)
unfolding kind_of
branch_kind Beq = (refl, record { some = omega arith; plain = refl })
branch_kind _ = (refl, record { some = omega arith; plain = refl })

pub load_kind : (op : LoadOp) → (kind_of (load_name op) ≡ Some (kind.Load op)) × IsRun (load_name op)
unfolding kind_of
load_kind Lb = (refl, record { some = omega arith; plain = refl })
load_kind _ = (refl, record { some = omega arith; plain = refl })

pub store_kind : (op : StoreOp) → (kind_of (store_name op) ≡ Some (kind.Store op)) × IsRun (store_name op)
unfolding kind_of
store_kind Sb = (refl, record { some = omega arith; plain = refl })
store_kind _ = (refl, record { some = omega arith; plain = refl })

pub imm_kind : (op : ImmOp) → (kind_of (imm_name op) ≡ Some (kind.Imm op)) × IsRun (imm_name op)
unfolding kind_of
imm_kind Addi = (refl, record { some = omega arith; plain = refl })
imm_kind _ = (refl, record { some = omega arith; plain = refl })

pub reg_kind : (op : RegOp) → (kind_of (reg_name op) ≡ Some (kind.Reg op)) × IsRun (reg_name op)
unfolding kind_of
reg_kind Add = (refl, record { some = omega arith; plain = refl })
reg_kind _ = (refl, record { some = omega arith; plain = refl })
