use Rattle.ckc_asm.proofs.labels.put_label.Goals as goal

pub returns-clause-next : goal.returns-clause-next
returns-clause-next c = λ name. c.in_ok-insert.ensures.updates.0 (record { ref_ptr = (0, 0); now = name })
